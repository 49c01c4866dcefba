-- A graph whose adapters have got modules tells what values leave out, as it did before.
use Rattle.std.proofs.Common.{◌≡◌, ◌⊎◌, inl, inr, ℕ, List, All, Contains, Option, None, Some, refl}
use Rattle.std.proofs.Common.{sym, ap, subst, ◌∙◌}
use Rattle.std.specs.Prelude.{slice_get, option_map}
use Rattle.std.proofs.lemmas.List.Elements.{All-append, All-contains}
use Rattle.std.proofs.lemmas.Option.{get_or_from_slice_get, slice_get-get_or, slice_get_within}
use Rattle.pc_entity.specs.Lists.{AreDistinct}
use Rattle.pc_numbers.specs.declared.runtime.RuntimeImportIndex.{RuntimeImportIndex}
use Rattle.pc_spec_plan.specs.PlanView as plan
use Rattle.pc_trampoline.specs.declared.part.Head.{Head}
use Rattle.pc_trampoline.specs.declared.part.Head.TheVariants as head
use Rattle.pc_trampoline.specs.Parts.{list_of, parts_of}
use Rattle.pc_trampoline.specs.Shape as shape
use Rattle.pc_trampoline.specs.Shape.{head_shape}
use Rattle.pc_trampoline.specs.View.{entry_of}
use Rattle.pc_dfg.specs.declared.adapter.Adapter.{Adapter}
use Rattle.pc_dfg.specs.declared.core_def.CoreDef.{CoreDef}
use Rattle.pc_dfg.specs.declared.dfg.ComponentDfg.{ComponentDfg}
use Rattle.pc_dfg.specs.declared.ids.OptionsId.{OptionsId}
use Rattle.pc_dfg.specs.Names.{if_any}
use Rattle.pc_dfg.specs.Numbers.{SignedTrampoline, graph_numbers, memory_def, slots_of, trampoline_entry}
use Rattle.pc_dfg.specs.Told.{IsAdapterTold, IsLowering, IsSigned, IsTold, MaybeSigned, Unsaid}
use Rattle.pc_dfg.proofs.AllLemmas.{all_none, all_one}
use Rattle.pc_adapt.specs.Imports.{Memory, memory_of}
use Rattle.pc_adapt_define.specs.Only.{IsHelperEntry, IsOwnSlot, own_slots, side_memory}
use Rattle.pc_adapt_partition.specs.Made.{Keeps}

-- what is at a place of a list is in it
pub inside : {A : Type 0} (xs : List A) (i : ℕ) (x : A) → slice_get xs i ≡ Some x → Contains xs x
inside xs i x at = (i, slice_get_within xs i x at, get_or_from_slice_get xs i x x at)

-- and what is in it is at a place
pub place_of : {A : Type 0} (xs : List A) (x : A) → Contains xs x → (i : ℕ) × (slice_get xs i ≡ Some x)
place_of xs x has = (has.0, slice_get-get_or xs has.0 x has.1 ∙ ap Some has.2)

-- a helper lowers nothing
pub lowers_nothing : (x : SignedTrampoline) → IsHelperEntry (trampoline_entry x) → IsLowering x.1 → ⊥
lowers_nothing x helper is = by (parts_of x.1).head refl is
  where
    by : (h : Head RuntimeImportIndex OptionsId) → (parts_of x.1).head ≡ h → head_shape h ≡ shape.lowering → ⊥
    by (head.Lowering index ty o) same is =
        subst (λ h. IsHelperEntry (entry_of graph_numbers x.0 (parts_of x.1).kind h (list_of (parts_of x.1).parts)))
        same helper
    by h same is = cc

module _ (u : Unsaid) where
  if_signed : (d : Option CoreDef) → MaybeSigned u d → All (IsSigned u) (if_any d)
  unfolding MaybeSigned
  if_signed None told = all_none (IsSigned u)
  if_signed (Some d) told = all_one (IsSigned u) d told

  -- a memory has no signature
  memory_signed : (m : Option Memory) → All (IsSigned u) (if_any (option_map (λ (n : Memory). memory_def n.0) m))
  unfolding IsSigned
  memory_signed None = all_none (IsSigned u)
  memory_signed (Some m) = all_one (IsSigned u) (memory_def m.0) tt

  -- what an adapter may need slots for has its signature
  own_signed : (x : Adapter) → IsAdapterTold u x → (k : plan.SlotKind) → All (IsSigned u) (own_slots x k)
  own_signed x told plan.memory =
      All-append (IsSigned u) (side_memory x.lift_options) (side_memory x.lower_options)
      (memory_signed (memory_of x.lift_options.data_model)) (memory_signed (memory_of x.lower_options.data_model))
  own_signed x told plan.table = all_none (IsSigned u)
  own_signed x told plan.realloc = all_none (IsSigned u)
  own_signed x told plan.callback = if_signed x.lift_options.callback told.lift.callback
  own_signed x told plan.post_return = if_signed x.lift_options.post_return told.lift.post_return

  module _ (g h : ComponentDfg) (many : ℕ) (keeps : Keeps many g h) (told : IsTold u g) where
    slot_told : (k : plan.SlotKind) (d : CoreDef) → Contains (slots_of g k) d ⊎ IsOwnSlot g k d → IsSigned u d
    slot_told k d (inl before) =
        let at = place_of (slots_of g k) d before in
        told.slots k at.0 d at.1
    slot_told k d (inr own) =
        All-contains (IsSigned u) (own_slots own.adapter k) d
        (own_signed own.adapter (told.adapters own.number own.adapter own.at) k) own.own

    lowering_told : (x : SignedTrampoline) → IsLowering x.1
        → Contains g.trampolines x ⊎ IsHelperEntry (trampoline_entry x) → x.0 ≡ u.lowering x.1
    lowering_told x is (inl before) =
        let at = place_of g.trampolines x before in
        told.lowerings at.0 x at.1 is
    lowering_told x is (inr helper) = absurd (lowers_nothing x helper is)

    -- what is told stays told
    pub told_after : IsTold u h
    told_after = record {
      imports = subst AreDistinct (sym (ap (λ (k : ComponentDfg). k.imports) keeps.rest)) told.imports;
      slots = λ k n d at. slot_told k d (keeps.own.slots k d (inside (slots_of h k) n d at));
      lowerings = λ n x at is. lowering_told x is (keeps.own.trampolines x (inside h.trampolines n x at));
      adapters = λ n x at.
          told.adapters n x (ap (λ (k : ComponentDfg). slice_get k.adapters n) (sym keeps.rest) ∙ at);
    }
