-- The reading of a root: it begins, its imports are prepared, its items are read, and it exports.
use Rattle.std.proofs.Common.{◌≡◌, ◌<◌, ◌≤◌, ◌+◌, ◌*◌, ℕ, List, [], Some, Ok, Err, None, inl, inr, refl, sym, ap, subst}
use Rattle.std.proofs.Common.{◌∙◌, arith}
use Rattle.std.proofs.lemmas.Bool.{le-ltb, lt-ltb}
use Rattle.std.specs.List.{AllZip}
use Rattle.pc_types_lists.specs.Types.{Types}
use Rattle.pc_types.specs.declared.error.Error.{Error}
use Rattle.pc_types.specs.declared.error.Error.TheVariants as error
use Rattle.pc_types.specs.declared.module_record.ModuleRecord.{ModuleRecord}
use Rattle.pc_types.specs.declared.parsed.TypeTable.{TypeTable}
use Rattle.pc_spec_reading.specs.Answer.{ending}
use Rattle.pc_spec_reading.specs.Item.{Items, exports_in}
use Rattle.pc_spec_reading.specs.Nodes.{Finish}
use Rattle.pc_spec_reading.specs.Outcome.{Outcome, and_then, done, over, past}
use Rattle.pc_spec_reading.specs.Reading.{Reading, begun_in, result_of, read_root, reading_of, finishing, prepare_all}
use Rattle.pc_spec_reading.specs.Reading.{root_exports}
use Rattle.pc_spec_reading.specs.Scope.{Moment, Scope}
use Rattle.pc_spec_reading.specs.Value.{outermost}
use Rattle.pc_spec_reading.specs.World.{World, full, grown, new_world}
use Rattle.pc_dfg.specs.declared.dfg.ComponentDfg.{ComponentDfg}
use Rattle.pc_inline_state.specs.declared.frame.Frame.{Frame}
use Rattle.pc_inline_state.specs.declared.state.State.{State}
use Rattle.pc_inline.specs.Roots.{HasFew, IsRootEnd, RootRead, first_total}
use Rattle.pc_inline_stack.specs.Driving.{EndsRun, reading_from}
use Rattle.pc_inline_exports.specs.Exporting.{ExportsEnd, RootStands}
use Rattle.pc_inline_exports.specs.Exports.{ExportsStand, NameStands}
use Rattle.pc_inline_state.specs.Points.{IsFullSomewhere, PointStands}
use Rattle.pc_inline_stack.specs.Reads.{Ends}
use Rattle.pc_inline_state.specs.Tables.{tables_of}
use Rattle.pc_inline_state.specs.Worlds.{WorldStands}

-- the world in which the root has begun, in this total
abbrev pub first_world : (total : ℕ) → World
first_world total = record (new_world (Some total)) { begun = 1 }

-- the moment before its imports are prepared
abbrev pub first_moment : (total : ℕ) → Moment
first_moment total = begun_in [] [] outermost 0 (first_world total)

-- a graph stands for a world whether or not its total is counted
world_uncounted : (types : Types) (g : ComponentDfg) (w : World) → WorldStands types g w
    → WorldStands types g (record w { total = None })
world_uncounted types g w s = record {
  effects = s.effects;
  order = s.order;
  are_declared = s.are_declared;
  trampolines = s.trampolines;
  few_trampolines = s.few_trampolines;
  import_types = s.import_types;
  imports = s.imports;
  imported_resources = s.imported_resources;
  resources_apart = s.resources_apart;
  resources = s.resources;
  intrinsics = s.intrinsics;
  adapters = s.adapters;
  begun = s.begun;
}

-- what the root means when so many of its exports have been reached
abbrev pub finish : Finish → Outcome Reading
finish f = done (result_of f.0 f.1)

-- an error of an outcome is one of what goes on after it
pub ends_then : (t : TypeTable) (ms : List ModuleRecord) (st : State) (f : Frame) (o : Outcome Moment)
    (go : Moment → Outcome Moment) (e : Error) → Ends t ms st f o (Err e) → Ends t ms st f (and_then o go) (Err e)
unfolding Ends
ends_then t ms st f o go (error.Invalid p) ends = ap (λ x. and_then x go) ends
ends_then t ms st f o go (error.BadType p) ends = ap (λ x. and_then x go) ends
ends_then t ms st f o go (error.UnknownIntrinsic p) ends = ap (λ x. and_then x go) ends
ends_then t ms st f o go (error.Unsupported u p) ends = ap (λ x. and_then x go) ends
ends_then t ms st f o go error.TooManyInstances ends = ap (λ x. and_then x go) ends
ends_then t ms st f o go error.TooMany ends = ends
ends_then t ms st f o go error.NoMemory ends = tt
ends_then t ms st f o go e ends = absurd ends

module _ (t : TypeTable) (ms : List ModuleRecord) (limit counted : ℕ) (body : Items) where
  -- what is read of a root that has begun, in a total
  abbrev pub from_start : (total : ℕ) → Outcome Moment
  from_start total = and_then (prepare_all t 0 body (first_moment total)) (reading_from t ms limit body)

  -- the reading of a root whose items end so
  reading_then : (o : Outcome Moment) → read_root t ms limit (Some counted) body ≡ o
      → reading_of t ms limit (Some counted) body ≡ and_then o (finishing t body)
  unfolding reading_of
  reading_then o is = ap (λ x. and_then x (finishing t body)) is

  -- where the exports of the root end so
  result_is : (now : Moment) (o : Outcome Finish) → root_exports t now.scope (exports_in body) 0 now.world ≡ o
      → finishing t body now ≡ and_then o finish
  unfolding finishing
  result_is now o is = ap (λ x. and_then x finish) is

  -- the reading where the items of the root were read and its exports end so
  pub reading_ends : (now : Moment) → read_root t ms limit (Some counted) body ≡ done now → (o : Outcome Finish)
      → root_exports t now.scope (exports_in body) 0 now.world ≡ o
      → reading_of t ms limit (Some counted) body ≡ and_then o finish
  reading_ends now is o ends = reading_then (done now) is ∙ result_is now o ends

  module _ (below : 0 < limit) where
    -- the reading of a root that begins
    pub root_begins : first_total t ms body counted < full
        → read_root t ms limit (Some counted) body ≡ from_start (first_total t ms body counted)
    unfolding read_root
    root_begins room = rw (lt-ltb 0 limit below, lt-ltb (first_total t ms body counted) full room) refl

    root_long : full ≤ first_total t ms body counted → read_root t ms limit (Some counted) body ≡ past
    unfolding read_root
    root_long none = rw (lt-ltb 0 limit below, le-ltb (first_total t ms body counted) full none) refl

    -- and of one for which the total leaves no room
    pub root_past : full ≤ first_total t ms body counted → reading_of t ms limit (Some counted) body ≡ past
    root_past none = reading_then past (root_long none)

  -- no root begins where the limit is 0
  pub reading_over : limit ≤ 0 → reading_of t ms limit (Some counted) body ≡ over
  unfolding reading_of read_root
  reading_over none =
      let is : limit ≡ 0 = omega (arith, none) in
      rw (is) refl

  -- where the total has grown by more than what was added
  module _ (old : Types) (st : State) (few : (total : ℕ) × HasFew t counted total old (tables_of st)) where
    crowded : IsFullSomewhere (tables_of st) → IsRootEnd t ms limit counted body old st error.TooMany
    crowded none = inr (inr (refl, record { is_full = none; total = few.0; few = few.1 }))

    -- an error of a pass over the items is one of the reading
    pub root_fails : (f : Frame) (o : Outcome Moment) (e : Error) → read_root t ms limit (Some counted) body ≡ o
        → Ends t ms st f o (Err e) → IsRootEnd t ms limit counted body old st e
    unfolding Ends
    root_fails f o (error.Invalid p) is ends = inr (inl (ap ending (reading_then _ (is ∙ ends))))
    root_fails f o (error.BadType p) is ends = inr (inl (ap ending (reading_then _ (is ∙ ends))))
    root_fails f o (error.UnknownIntrinsic p) is ends = inr (inl (ap ending (reading_then _ (is ∙ ends))))
    root_fails f o (error.Unsupported u p) is ends = inr (inl (ap ending (reading_then _ (is ∙ ends))))
    root_fails f o error.TooManyInstances is ends = inr (inl (ap ending (reading_then _ (is ∙ ends))))
    root_fails f o error.TooMany is ends = crowded ends
    root_fails f o error.NoMemory is ends = inl refl
    root_fails f o e is ends = absurd ends

    -- so is one where all items of the root are read
    pub run_fails : (f : Frame) (total : ℕ) (o : Outcome Moment) (e : Error)
        → read_root t ms limit (Some counted) body ≡ o → EndsRun t ms limit st f total o (Err e)
        → IsRootEnd t ms limit counted body old st e
    unfolding EndsRun
    run_fails f total o error.TooMany is ends =
        elim ends as (λ _. IsRootEnd t ms limit counted body old st error.TooMany) [
          | inl none ↦ crowded none
          | inr long ↦ inr (inl (ap ending (reading_then _ (is ∙ long))))
        ]
    run_fails f total o e is ends = root_fails f o e is ends

    -- and one of its exports, whose nodes leave the total below
    module _ (g : Frame) (s : Scope) (w : World) (total nodes : ℕ) (o : Outcome Finish)
        (below : total + 8 * nodes < full) (is : reading_of t ms limit (Some counted) body ≡ and_then o finish) where
      pub exports_fail : (e : Error) → ExportsEnd t ms total st g s w nodes o (Err e)
          → IsRootEnd t ms limit counted body old st e
      unfolding ExportsEnd
      exports_fail (error.Unsupported u p) ends = inr (inl (ap ending (is ∙ ap (λ x. and_then x finish) ends)))
      exports_fail error.TooMany ends =
          elim ends as (λ _. IsRootEnd t ms limit counted body old st error.TooMany) [
            | inl none ↦ crowded none
            | inr many ↦ absurd (omega (arith, below, many))
          ]
      exports_fail error.NoMemory ends = inl refl
      exports_fail e ends = absurd ends

  -- the root was read and exports
  pub root_read : (old : Types) (st : State) (g : Frame) (s : Scope) (w : World) (total nodes : ℕ) (o : Outcome Finish)
      → reading_of t ms limit (Some counted) body ≡ and_then o finish → w.total ≡ Some total
      → HasFew t counted (total + 8 * nodes) old (tables_of st) → ExportsEnd t ms total st g s w nodes o (Ok tt)
      → RootRead t ms limit counted body old st
  unfolding ExportsEnd ExportsStand
  root_read old st g s w total nodes o is total_is few ends = record {
    result = result_of ends.exported ends.world;
    outcome = is ∙ ap (λ x. and_then x finish) ends.is;
    total = total + 8 * nodes;
    is_total = ends.total ∙ ap (λ k. grown k (8 * nodes)) total_is;
    few = few;
    sound = ends.stands.sound;
    world = world_uncounted st.types st.graph ends.world ends.stands.world;
    exports = ends.stands.exports;
    numbers = ends.numbers;
  }

-- after its items the root exports nothing yet
pub root_stands : (t : TypeTable) (ms : List ModuleRecord) (st : State) (f : Frame) (now : Moment)
    → PointStands t ms st f now → RootStands t ms st f now.scope now.world []
root_stands t ms st f now at = record {
  sound = at.sound;
  here = at.here;
  converted = at.converted;
  frame = at.frame;
  world = at.world;
  exports = subst (λ es. AllZip (NameStands t st.types st.graph) es []) (sym at.unexported.exports) tt;
}
