-- An export item at the end of the graph's.
use Rattle.std.proofs.Common.{◌≡◌, inl, inr, ◌<◌, ◌≤◌, ◌+◌, List, [], ◌∷◌, ◌++◌, length, Some, Result, Ok, Err, refl}
use Rattle.std.proofs.Common.{sym}
use Rattle.std.proofs.Common.{ap, subst, ◌∙◌, arith}
use Rattle.std.specs.Prelude.{slice_get}
use Rattle.std.proofs.lemmas.List.{length-append}
use Rattle.pc_entity.proofs.Growing.{kept_refl, slice_get-append_seam}
use Rattle.pc_numbers.specs.declared.runtime.ExportIndex.{ExportIndex}
use Rattle.pc_types.specs.declared.module_record.ModuleRecord.{ModuleRecord}
use Rattle.pc_types.specs.declared.parsed.CoreKind.TheVariants as core
use Rattle.pc_types.specs.declared.parsed.TypeTable.{TypeTable}
use Rattle.pc_spec_plan.specs.ExportNode.{ExportNode}
use Rattle.pc_spec_plan.specs.PlanView as plan
use Rattle.pc_parsed.specs.Mark.{Mark}
use Rattle.pc_spec_reading.specs.World.{World}
use Rattle.pc_dfg.specs.declared.dfg.ComponentDfg.{ComponentDfg}
use Rattle.pc_dfg.specs.declared.export.Export.{Export}
use Rattle.pc_dfg.specs.declared.export.Export.TheVariants as export
use Rattle.pc_dfg.specs.Grows as graph
use Rattle.pc_dfg.specs.Lists as list
use Rattle.pc_dfg.specs.Numbers.{slots_of}
use Rattle.pc_dfg.specs.Ordered.{IsOrdered}
use Rattle.std.specs.Result.{IsErr, IsErrAnd}
use Rattle.pc_dfg.specs.declared.push_error.PushError.{PushError}
use Rattle.pc_dfg.specs.declared.push_error.PushError.TheVariants as push_error
use Rattle.pc_dfg.specs.Held.{HeldExport}
use Rattle.pc_inline_state.specs.Faults.{of_push_error}
use Rattle.pc_inline_state.proofs.PlacedLemmas.{placed_kept}
use Rattle.pc_inline_state.proofs.RefusedLemmas.{push_lacks}
use Rattle.pc_inline_state.specs.declared.error.ItemError.{ItemError}
use Rattle.pc_inline_state.specs.declared.state.State.{State}
use Rattle.pc_inline_state.specs.AddsEach.{AddsEach, in_export_items}
use Rattle.pc_inline_state.specs.Fits.{FitsBefore}
use Rattle.pc_inline_state.specs.Points.{full_graph}
use Rattle.pc_inline_state.specs.Tables.{IsItem, Keeps, tables_of}
use Rattle.pc_inline_state.specs.Worlds.{HasItems, HoldsModule, HoldsTypes}
use Rattle.pc_inline_state.proofs.AddsPushLemmas.{Lists, from_rest}
use Rattle.pc_inline_state.proofs.FitsLemmas.{fits_grown}
use Rattle.pc_inline_state.proofs.GrowthLemmas.{graph_grown}
use Rattle.pc_inline_state.proofs.InstanceLemmas.{instances_kept, widths_kept}
use Rattle.pc_inline_state.proofs.StateLemmas.{module_grows, types_refl}
use Rattle.pc_inline_canon.proofs.AdapterKeptLemmas.{adapters_items_kept}
use Rattle.pc_inline_canon.proofs.CoreInstanceLemmas.{found_in_push}
use Rattle.pc_inline_canon.proofs.ItemLemmas.{arguments_more, host_arguments_more, used_kept}
use Rattle.pc_inline_canon.proofs.KeptLemmas.{is_item_kept}
use Rattle.pc_inline_canon.proofs.WorldLemmas.{world_still}
use Rattle.pc_inline_exports.specs.Exports.{NodeStands}
use Rattle.pc_inline_exports.specs.Reaching.{ExportStands, Pushed, Pushes, WorkStands}

module _ (t : TypeTable) (ms : List ModuleRecord) (st : State) (e : Export) where
  abbrev pub exported : ComponentDfg
  exported = record st.graph { export_items = st.graph.export_items ++ e ∷ [] }

  abbrev pub after : State
  after = record st { graph = exported }

  same_slots : (k : plan.SlotKind) → slots_of exported k ≡ slots_of st.graph k
  unfolding slots_of
  same_slots plan.memory = refl
  same_slots plan.table = refl
  same_slots plan.realloc = refl
  same_slots plan.callback = refl
  same_slots plan.post_return = refl

  module _ (grows : graph.Grows st.graph exported) where
    pub fits : FitsBefore st.graph exported
    fits = fits_grown st.graph exported grows refl refl

    abbrev pub after_keeps : Keeps (tables_of st) (tables_of after)
    after_keeps = graph_grown (tables_of st) exported grows fits

    module _ (x : ExportNode Mark) (is : ExportStands t ms st e x) where
      after_items : HasItems ms st.graph → HasItems ms exported
      after_items h = record {
        modules = λ i m args at.
            let old = h.modules i m args at in
            (old.0, old.1, old.2, arguments_more ms st.graph exported grows args old.3);
        slots = λ k n d at. is_item_kept ms st.graph exported grows _ d
            (h.slots k n d (subst (λ l. slice_get l n ≡ Some d) (same_slots k) at));
        hosts = λ i r args at. host_arguments_more ms st.graph exported grows _ (h.hosts i r args at);
        destructors = λ n y d at has. is_item_kept ms st.graph exported grows core.Func d (h.destructors n y d at has);
        adapters = adapters_items_kept ms st.graph exported grows refl h.adapters;
        exports = λ n u p d at. is_item_kept ms st.graph exported grows core.Func d
            (elim (found_in_push st.graph.export_items e n (export.LiftedFunction u d p) at)
            as (λ _. IsItem ms st.graph core.Func d) [
              | inl old ↦ h.exports n u p d old
              | inr new ↦ is.usable u d p new
            ]);
        statics = λ n u m at. elim (found_in_push st.graph.export_items e n (export.ModuleStatic u m) at)
            as (λ _. m.0 < length ms) [
              | inl old ↦ h.statics n u m old
              | inr new ↦ (is.listed u m new).1
            ];
      }

      after_held : HoldsTypes st.types t st.graph → HoldsTypes st.types t exported
      after_held h = record {
        options = h.options;
        modules = λ n u m at. module_grows st.types st.types (types_refl st.types) t st.graph exported fits u
            (elim (found_in_push st.graph.export_items e n (export.ModuleStatic u m) at)
            as (λ _. HoldsModule st.types t st.graph u) [
              | inl old ↦ h.modules n u m old
              | inr new ↦ (is.listed u m new).0
            ]);
      }

      -- all is in order
      pub work_after : IsOrdered exported → (w : World) → WorkStands t ms st w → WorkStands t ms after w
      work_after ordered w s = record {
        sound = record {
          ordered = ordered;
          items = after_items s.sound.items;
          plain = record {
            adapter_modules = s.sound.plain.adapter_modules;
            adapter_partitionings = s.sound.plain.adapter_partitionings;
            unsafe_intrinsics = s.sound.plain.unsafe_intrinsics;
          };
          used = used_kept st.graph exported grows refl st.paths.held st.used.items s.sound.used;
          numbers = s.sound.numbers;
          held = after_held s.sound.held;
          table = s.sound.table;
          bodies = s.sound.bodies;
          names = s.sound.names;
          members = s.sound.members;
          instances = instances_kept ms (tables_of st) (tables_of after) after_keeps refl st.runtime_instances.items
              s.sound.instances;
          widths = widths_kept t ms st.runtime_instances.items st.graph exported refl s.sound.widths;
          placed = placed_kept t ms st after after_keeps (kept_refl st.runtime_instances.items) refl s.sound.placed;
        };
        world =
            world_still st.types st.types st.graph exported (types_refl st.types) grows fits refl refl refl refl refl
            refl refl refl refl refl w s.world;
      }

      -- the item is its node
      pub node_after : (n : ExportIndex) → n.0 ≡ length st.graph.export_items → NodeStands t st.types exported n.0 x
      node_after n last = is.stands n.0 exported grows fits
          (ap (slice_get (st.graph.export_items ++ e ∷ [])) last ∙ slice_get-append_seam st.graph.export_items e [])

-- The same of a state that a call made.
module _ (t : TypeTable) (ms : List ModuleRecord) (st : State) (e : Export) (new : State)
    (r : Result ExportIndex ItemError) (p : Pushes st e new r) where
  -- what was there is there
  pub push_keeps : Keeps (tables_of st) (tables_of new)
  push_keeps =
      let g = record st.graph { export_items = new.graph.export_items } in
      let made : new ≡ record st { graph = g } = p.rest in
      let grows = subst (λ (y : State). graph.Grows st.graph y.graph) made p.grows in
      subst (λ (y : State). Keeps (tables_of st) (tables_of y)) (sym made)
      (graph_grown (tables_of st) g grows (fits_grown st.graph g grows refl refl))

  -- types are those of before, and so are the exports of the root
  pub push_types : new.types ≡ st.types
  push_types = ap (λ (y : State). y.types) p.rest

  pub push_exports : new.graph.exports ≡ st.graph.exports
  push_exports = ap (λ (y : State). y.graph.exports) p.rest

  items_few : (q : Result ExportIndex ItemError) → Pushed st e new q
      → length new.graph.export_items ≤ length st.graph.export_items + 1
  unfolding Pushed
  items_few (Ok n) put = rw (put.1, length-append st.graph.export_items (e ∷ [])) (omega arith)
  items_few (Err x) put = subst (λ (y : State). length y.graph.export_items ≤ length st.graph.export_items + 1)
      (sym put.0) (omega arith)

  item_lists : (ys : List Export) → length ys ≤ length st.graph.export_items + 1
      → Lists (tables_of st) in_export_items (record st.graph { export_items = ys })
  unfolding slots_of
  item_lists ys few list.export_items = few
  item_lists ys few (list.slots plan.memory) = omega arith
  item_lists ys few l = omega arith

  -- one item is more
  pub push_adds : AddsEach in_export_items 0 0 (tables_of st) (tables_of new)
  push_adds =
      let g = record st.graph { export_items = new.graph.export_items } in
      subst (λ (y : State). AddsEach in_export_items 0 0 (tables_of st) (tables_of y)) (sym p.rest)
      (from_rest (tables_of st) g in_export_items g refl (item_lists new.graph.export_items (items_few r p.pushed)) refl
      refl)

-- An item that was put into the graph.
module _ (t : TypeTable) (ms : List ModuleRecord) (st : State) (e : Export) (new : State) (n : ExportIndex)
    (p : Pushes st e new (Ok n)) where
  pub is_put : (n.0 ≡ length st.graph.export_items) × (new.graph.export_items ≡ st.graph.export_items ++ e ∷ [])
  unfolding Pushed
  is_put = p.pushed

  is_after : after t ms st e ≡ new
  is_after = sym (p.rest ∙ (λ j. record st { graph = record st.graph { export_items = is_put.1 j } }))

  grown : graph.Grows st.graph (exported t ms st e)
  grown = subst (λ (y : State). graph.Grows st.graph y.graph) (sym is_after) p.grows

  -- it is the last one
  pub push_last : n.0 + 1 ≡ length new.graph.export_items
  push_last = rw (is_put.0, is_put.1, length-append st.graph.export_items (e ∷ [])) refl

  -- and one more
  pub push_more : length new.graph.export_items ≡ length st.graph.export_items + 1
  push_more = rw (is_put.1, length-append st.graph.export_items (e ∷ [])) refl

  module _ (x : ExportNode Mark) (is : ExportStands t ms st e x) where
    -- all is in order
    pub push_work : (w : World) → WorkStands t ms st w → WorkStands t ms new w
    push_work w s =
        subst (λ (y : State). WorkStands t ms y w) is_after
        (work_after t ms st e grown x is
        (subst (λ (y : State). IsOrdered y.graph) (sym is_after) (p.ordered is.held s.sound.ordered)) w s)

    -- and the item is its node
    pub push_node : NodeStands t new.types new.graph n.0 x
    push_node =
        subst (λ (y : State). NodeStands t y.types y.graph n.0 x) is_after
        (node_after t ms st e grown x is n is_put.0)

-- What a call on the graph leaves.
module _ (st : State) (e : Export) (g : ComponentDfg) (rest : g ≡ record st.graph { export_items = g.export_items })
    (grows : graph.Grows st.graph g)
    (ordered : HeldExport st.graph (length st.graph.export_items) e → IsOrdered st.graph → IsOrdered g) where
  pub pushes_ok : (n : ExportIndex) → n.0 ≡ length st.graph.export_items
      → g.export_items ≡ st.graph.export_items ++ e ∷ [] → Pushes st e (record st { graph = g }) (Ok n)
  unfolding Pushed
  pushes_ok n key ok = record {
    rest = λ i. record st { graph = rest i };
    grows = grows;
    ordered = ordered;
    pushed = (key, ok);
  }

  pub pushes_err : (q : Result ExportIndex PushError) (y : PushError) → q ≡ Err y
      → (q ≡ Err push_error.TooMany → 4294967295 ≤ length st.graph.export_items) → g ≡ st.graph
      → (r : Result ExportIndex ItemError) → IsErr r → IsErrAnd r (λ x. x ≡ of_push_error y)
      → Pushes st e (record st { graph = g }) r
  unfolding Pushed
  pushes_err q y was full same (Ok n) is which = absurd (let no : ⊥ = cc in no)
  pushes_err q y was full same (Err x) is which = record {
    rest = λ i. record st { graph = rest i };
    grows = grows;
    ordered = ordered;
    pushed = (
      λ i. record st { graph = same i },
      push_lacks {T = ExportIndex} (Err x) (record st { graph = g }) y which
          (λ many. full_graph list.export_items
          (subst (λ (h : ComponentDfg). 4294967295 ≤ length h.export_items) (sym same) (full (was ∙ ap Err many)))),
    );
  }
