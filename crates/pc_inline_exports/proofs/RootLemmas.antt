-- The root while its exports are made: whatever total is counted, where types are converted, where a node is reached and
-- where that node gets its name.
use Rattle.std.proofs.Common.{◌≡◌, ◌⊎◌, inl, inr, ◌<◌, ◌≤◌, ◌+◌, ℕ, zero, suc, List, [], ◌∷◌, ◌++◌, length, take, Option}
use Rattle.std.proofs.Common.{Some}
use Rattle.std.proofs.Common.{refl, sym, ap, subst, ◌∙◌, arith, append-nil}
use Rattle.std.specs.Prelude.{slice_get}
use Rattle.std.specs.List.{AllZip}
use Rattle.std.proofs.lemmas.List.{length-append}
use Rattle.std.proofs.lemmas.Option.{none-some, same_Some, slice_get_within}
use Rattle.pc_entity.proofs.Growing.{kept_refl}
use Rattle.pc_types_builder.specs.Plain.{Layers}
use Rattle.pc_types.specs.declared.module_record.ModuleRecord.{ModuleRecord}
use Rattle.pc_types.specs.declared.parsed.TypeTable.{TypeTable}
use Rattle.pc_types_lists.specs.Types.{Resources}
use Rattle.pc_spec_plan.specs.ExportNode.{NamedNode}
use Rattle.pc_spec_plan.specs.PlanView as plan
use Rattle.pc_parsed.specs.Mark.{Mark}
use Rattle.pc_spec_reading.specs.Scope.{Scope}
use Rattle.pc_spec_reading.specs.World.{World}
use Rattle.pc_dfg.specs.declared.dfg.ComponentDfg.{ComponentDfg}
use Rattle.pc_dfg.specs.Grows as graph
use Rattle.pc_dfg.specs.Lists.{NamedExport}
use Rattle.pc_dfg.specs.Numbers.{slots_of}
use Rattle.pc_dfg.specs.Ordered.{IsOrdered}
use Rattle.pc_inline_state.specs.declared.frame.Frame.{Frame}
use Rattle.pc_inline_state.specs.declared.state.State.{State}
use Rattle.pc_inline_state.specs.Fits.{FitsBefore}
use Rattle.pc_inline_state.specs.KnowsSame.{KnowsSame}
use Rattle.pc_inline_state.specs.Prepares.{Converts}
use Rattle.pc_inline_state.specs.Tables.{Keeps, tables_of}
use Rattle.pc_inline_state.proofs.FitsLemmas.{fits_grown}
use Rattle.pc_inline_state.proofs.GrowthLemmas.{graph_grown}
use Rattle.pc_inline_state.proofs.InstanceLemmas.{instances_kept, widths_kept}
use Rattle.pc_inline_state.proofs.KnowsLemmas.{converted_kept, knows_grown}
use Rattle.pc_inline_state.proofs.PlacedLemmas.{placed_kept}
use Rattle.pc_inline_state.proofs.StateLemmas.{converts_prepares, types_refl}
use Rattle.pc_inline_state.proofs.ZipLemmas.{zip_push}
use Rattle.pc_inline_canon.proofs.FrameLemmas.{converted_framed}
use Rattle.pc_inline_canon.proofs.ItemLemmas.{items_same, types_held, used_kept}
use Rattle.pc_inline_canon.proofs.KeptLemmas.{frame_kept}
use Rattle.pc_inline_canon.proofs.WorldLemmas.{world_still}
use Rattle.pc_inline_exports.specs.Exporting.{RootStands}
use Rattle.pc_inline_exports.specs.Exports.{IsUnder, IsWithin, NameStands, NumbersExports, node_size, sizes}
use Rattle.pc_inline_exports.proofs.UnderLemmas.{Stay, whole_more}
use Rattle.pc_inline_exports.specs.Reaching.{WorkStands}
use Rattle.pc_inline_exports.proofs.GrownLemmas.{name_still, names_still}
use Rattle.pc_inline_exports.proofs.LeafLemmas.{work_prepared, world_total}

module _ (t : TypeTable) (ms : List ModuleRecord) where
  -- whatever total is counted
  pub root_total : (st : State) (f : Frame) (s : Scope) (w : World) (total : Option ℕ) (nodes : List (NamedNode Mark))
      → RootStands t ms st f s w nodes → RootStands t ms st f s (record w { total = total }) nodes
  root_total st f s w total nodes root = record {
    sound = root.sound;
    here = root.here;
    converted = root.converted;
    frame = root.frame;
    world = world_total st.types st.graph w total root.world;
    exports = root.exports;
  }

  -- the root does its work
  pub root_works : (st : State) (f : Frame) (s : Scope) (w : World) (nodes : List (NamedNode Mark))
      → RootStands t ms st f s w nodes → WorkStands t ms st w
  root_works st f s w nodes root = record { sound = root.sound; world = root.world }

  module _ (old new : State) (keeps : Keeps (tables_of old) (tables_of new))
      (resources : new.types.resources ≡ old.types.resources) (exports : new.graph.exports ≡ old.graph.exports) where
    -- where the tables grow and nothing becomes known or exported, in a world that stands
    pub root_moved : (f : Frame) (s : Scope) (w v : World) (nodes : List (NamedNode Mark))
        → RootStands t ms old f s w nodes
        → WorkStands t ms new v → RootStands t ms new f s v nodes
    root_moved f s w v nodes root work = record {
      sound = work.sound;
      here = subst (λ (r : Resources). KnowsSame new.graph r s) (sym resources)
          (knows_grown old.graph old.types.resources s root.here new.graph keeps.fits);
      converted = converted_kept old.types new.types keeps.types resources t f.converted root.converted;
      frame = frame_kept ms (tables_of old) (tables_of new) keeps f s root.frame;
      world = work.world;
      exports = subst (λ es. AllZip (NameStands t new.types new.graph) es nodes) (sym exports)
          (names_still t old.types new.types old.graph new.graph keeps.types keeps.graph keeps.fits old.graph.exports nodes
          root.exports);
    }

  -- where a type is converted
  pub root_converted : (old new : State) (f : Frame) (done : Layers)
      → Converts t old f.converted new done
      → (s : Scope) (w : World) (nodes : List (NamedNode Mark)) → RootStands t ms old f s w nodes
      → RootStands t ms new (record f { converted = done }) s w nodes
  root_converted old new f done converts s w nodes root =
      let p = converts_prepares t ms old f.converted new done converts in
      let moved = root_moved old new p.keeps p.resources p.exports f s w w nodes root
      (work_prepared t ms old new p w (root_works old f s w nodes root)) in
      record {
        sound = moved.sound;
        here = moved.here;
        converted = converts.converted root.converted;
        frame = converted_framed ms (tables_of new) f s moved.frame done;
        world = moved.world;
        exports = moved.exports;
      }

-- An export under its name at the end of the graph's.
module _ (t : TypeTable) (ms : List ModuleRecord) (st : State) (e : NamedExport) where
  abbrev pub named : ComponentDfg
  named = record st.graph { exports = st.graph.exports ++ e ∷ [] }

  abbrev pub after_name : State
  after_name = record st { graph = named }

  same_slots : (k : plan.SlotKind) → slots_of named k ≡ slots_of st.graph k
  unfolding slots_of
  same_slots plan.memory = refl
  same_slots plan.table = refl
  same_slots plan.realloc = refl
  same_slots plan.callback = refl
  same_slots plan.post_return = refl

  module _ (grows : graph.Grows st.graph named) where
    name_fits : FitsBefore st.graph named
    name_fits = fits_grown st.graph named grows refl refl

    pub name_keeps : Keeps (tables_of st) (tables_of after_name)
    name_keeps = graph_grown (tables_of st) named grows name_fits

    -- the root has one node more
    pub root_named : (f : Frame) (s : Scope) (w : World) (nodes : List (NamedNode Mark))
        → RootStands t ms st f s w nodes
        → IsOrdered named → (x : NamedNode Mark) → NameStands t st.types st.graph e x
        → RootStands t ms after_name f s w (nodes ++ x ∷ [])
    root_named f s w nodes root ordered x is = record {
      sound = record {
        ordered = ordered;
        items = items_same ms st.graph named grows refl same_slots refl refl refl root.sound.items;
        plain = record {
          adapter_modules = root.sound.plain.adapter_modules;
          adapter_partitionings = root.sound.plain.adapter_partitionings;
          unsafe_intrinsics = root.sound.plain.unsafe_intrinsics;
        };
        used = used_kept st.graph named grows refl st.paths.held st.used.items root.sound.used;
        numbers = root.sound.numbers;
        held = types_held st.types t st.graph named name_fits refl refl root.sound.held;
        table = root.sound.table;
        bodies = root.sound.bodies;
        names = root.sound.names;
        members = root.sound.members;
        instances = instances_kept ms (tables_of st) (tables_of after_name) name_keeps refl st.runtime_instances.items
            root.sound.instances;
        widths = widths_kept t ms st.runtime_instances.items st.graph named refl root.sound.widths;
        placed = placed_kept t ms st after_name name_keeps (kept_refl st.runtime_instances.items) refl
            root.sound.placed;
      };
      here = knows_grown st.graph st.types.resources s root.here named name_fits;
      converted = root.converted;
      frame = frame_kept ms (tables_of st) (tables_of after_name) name_keeps f s root.frame;
      world =
          world_still st.types st.types st.graph named (types_refl st.types) grows name_fits refl refl refl refl refl
          refl refl refl refl refl w root.world;
      exports = zip_push (NameStands t st.types named) st.graph.exports nodes e x
          (names_still t st.types st.types st.graph named (types_refl st.types) grows name_fits st.graph.exports nodes
          root.exports)
          (name_still t st.types st.types st.graph named (types_refl st.types) grows name_fits e x is);
    }

-- what is at a place of a list with one item more at the end
at_place : {A : Type 0} (xs : List A) (y : A) (n : ℕ) (x : A) → slice_get (xs ++ y ∷ []) n ≡ Some x
    → (slice_get xs n ≡ Some x) ⊎ ((y ≡ x) × (n ≡ length xs))
at_place [] y zero x h = inr (same_Some y x h, refl)
at_place [] y (suc n) x h = absurd (none-some x h)
at_place (z ∷ xs) y zero x h = inl h
at_place {A} (z ∷ xs) y (suc n) x h =
    elim (at_place xs y n x h) as (λ _. (slice_get (z ∷ xs) (suc n) ≡ Some x) ⊎ ((y ≡ x) × (suc n ≡ suc (length xs)))) [
      | inl before ↦ inl before
      | inr last ↦ inr (last.0, ap suc last.1)
    ]

-- the first of a list that goes on
take_front : {A : Type 0} (xs ys : List A) (n : ℕ) → n ≤ length xs → take n (xs ++ ys) ≡ take n xs
take_front xs ys zero within = refl
take_front [] ys (suc n) within = absurd (omega (arith, within))
take_front (x ∷ xs) ys (suc n) within = ap (λ zs. x ∷ zs) (take_front xs ys n (omega (arith, within)))

-- all of a list
pub take_whole : {A : Type 0} (xs : List A) (n : ℕ) → length xs ≤ n → take n xs ≡ xs
take_whole [] zero within = refl
take_whole [] (suc n) within = refl
take_whole (x ∷ xs) zero within = absurd (omega (arith, within))
take_whole (x ∷ xs) (suc n) within = ap (λ zs. x ∷ zs) (take_whole xs n (omega (arith, within)))

-- nodes with one more
sizes_more : (xs : List (NamedNode Mark)) (x : NamedNode Mark) → sizes (xs ++ x ∷ []) ≡ sizes xs + node_size x.node
sizes_more [] x = omega arith
sizes_more (y ∷ xs) x = let more = sizes_more xs x in omega (arith, more)

-- an export at the end of the exports, of a node whose item is at the end of the items, has its items behind the others
pub numbers_more : (g mid h : ComponentDfg) (e : NamedExport) (x : NamedNode Mark) (nodes : List (NamedNode Mark))
    → length g.exports ≡ length nodes → mid.exports ≡ g.exports
    → length mid.export_items ≡ length g.export_items + node_size x.node → e.1.0.0 + 1 ≡ length mid.export_items
    → h ≡ record mid { exports = h.exports } → h.exports ≡ mid.exports ++ e ∷ []
    → Stay g.export_items mid.export_items
    → ((k : ℕ) → length g.export_items ≤ k → k < length mid.export_items → IsWithin mid.export_items e.1.0.0 k)
    → NumbersExports g nodes → NumbersExports h (nodes ++ x ∷ [])
numbers_more g mid h e x nodes long same items last rest put stay made old =
    let all : h.exports ≡ g.exports ++ e ∷ [] = put ∙ ap (λ es. es ++ e ∷ []) same in
    let few : length h.export_items ≡ length mid.export_items = ap (λ (y : ComponentDfg). length y.export_items) rest in
    let more = sizes_more nodes x in
    let many : length h.export_items ≡ sizes (nodes ++ x ∷ []) = omega (arith, few, items, old.as_many, more) in
    record {
      as_many = many;
      last = λ n y at.
          elim (at_place g.exports e n y (subst (λ es. slice_get es n ≡ Some y) all at))
          as (λ _. y.1.0.0 + 1 ≡ sizes (take (n + 1) (nodes ++ x ∷ []))) [
            | inl before ↦
                let there = slice_get_within g.exports n y before in
                old.last n y before ∙ ap sizes (sym (take_front nodes (x ∷ []) (n + 1) (omega (arith, there, long))))
            | inr end ↦
                let long_all : length (nodes ++ x ∷ []) ≡ length nodes + 1 = length-append nodes (x ∷ []) in
                ap (λ (z : NamedExport). z.1.0.0 + 1) (sym end.0) ∙ last ∙ sym few ∙ many
                ∙ ap sizes (sym (take_whole (nodes ++ x ∷ []) (n + 1) (omega (arith, long_all, long, end.1))))
          ];
      whole = λ n below.
          subst (λ is. IsUnder is h.exports n) (sym (ap (λ (y : ComponentDfg). y.export_items) rest))
          (subst (λ es. IsUnder mid.export_items es n) (append-nil (g.exports ++ e ∷ []) ∙ sym all)
          (whole_more g.export_items mid.export_items stay 0 g.exports [] e
          (λ k from to. subst (λ es. IsUnder g.export_items es k) (sym (append-nil g.exports)) (old.whole k to)) made n
          (omega arith) (omega (arith, below, few))));
    }
