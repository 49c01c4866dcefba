-- Each lowering of a plan is that of a trampoline of it.
use Rattle.std.proofs.Common.{◌≡◌, ◌++◌, inl, inr, ℕ, zero, suc, List, [], ◌∷◌, All, Option, None, Some, sym, ap, subst}
use Rattle.std.proofs.Common.{arith}
use Rattle.std.specs.Prelude.{slice_get, unwrap_or}
use Rattle.std.specs.List.{Contains, flat_map}
use Rattle.std.proofs.lemmas.List.Elements.{All-append, All-contains, All-nil}
use Rattle.pc_numbers.specs.declared.module_entity.ModuleInternedTypeIndex.{ModuleInternedTypeIndex}
use Rattle.pc_numbers.specs.declared.runtime.RuntimeImportIndex.{RuntimeImportIndex}
use Rattle.pc_numbers.specs.declared.runtime.TrampolineIndex.{TrampolineIndex}
use Rattle.pc_dfg.specs.declared.ids.OptionsId.{OptionsId}
use Rattle.pc_types.specs.declared.trampoline.TrampolineKind.{TrampolineKind}
use Rattle.pc_spec_plan.specs.PlanView as plan
use Rattle.pc_trampoline.specs.declared.part.Head.{Head}
use Rattle.pc_trampoline.specs.declared.part.Head.TheVariants as head
use Rattle.pc_trampoline.specs.declared.part.Mark.{Mark}
use Rattle.pc_trampoline.specs.declared.part.PartList.{PartList}
use Rattle.pc_trampoline.specs.Parts.{list_of, parts_of}
use Rattle.pc_trampoline.specs.View.{entry_of, entry_view, parts_entry, plan_numbers, signed}
use Rattle.pc_info.specs.View.{trampolines_view}
use Rattle.pc_dfg.specs.declared.dfg.ComponentDfg.{ComponentDfg}
use Rattle.pc_dfg.specs.Names.{each_of}
use Rattle.pc_dfg.specs.Numbers.{SignedTrampoline, graph_numbers, options_entry, trampoline_entry}
use Rattle.pc_dfg_linearize.specs.declared.id.Id.{Id}
use Rattle.pc_dfg_linearize.specs.declared.id.Id.TheVariants as id
use Rattle.pc_dfg_linearize.specs.declared.state.Finish.{Finish}
use Rattle.pc_dfg_linearize.specs.Entries.{GraphPart, GraphParts, head_in, list_in, parts_in}
use Rattle.pc_dfg_linearize.specs.Numbers.{number_at}
use Rattle.pc_dfg_linearize.specs.Once.{Alike, IsUsedBy, unsigned}
use Rattle.pc_dfg_linearize.specs.Parts.{HasNumber, in_def, in_entry, in_model, in_part, in_trampoline, maybe_slot, number_of}
use Rattle.pc_dfg_linearize.specs.Parts.{options_id, parts, slot_id}
use Rattle.pc_dfg_linearize.specs.Ready.{Leads}
use Rattle.pc_dfg_linearize.specs.Represented.{Represents}
use Rattle.pc_info.specs.Slots.{TakesLowering}
use Rattle.pc_dfg_linearize.proofs.PartLemmas.{all_each, all_one}
use Rattle.pc_dfg_linearize.proofs.RepresentedLemmas.{copied_parts}
use Rattle.pc_dfg_finish.proofs.SlotUseLemmas.{IsDirect, copied_view, direct_defs, direct_in_slot}
use Rattle.pc_dfg_finish.proofs.UsedLemmas.{leads_last, leads_numbered}

-- an id that isn't a lowering
unfoldable NoLowering : Id → Type 0
NoLowering (id.Lowering t) = ⊥
NoLowering x = Unit {0}

slot_lowers : (k : plan.SlotKind) (n : ℕ) → NoLowering (slot_id k n)
unfolding NoLowering
slot_lowers plan.memory n = tt
slot_lowers k n = tt

maybe_lowers : (k : plan.SlotKind) (n : Option ℕ) → All NoLowering (maybe_slot k n)
maybe_lowers k None = All-nil NoLowering
maybe_lowers k (Some n) = all_one NoLowering (slot_id k n) (slot_lowers k n)

model_lowers : (m : plan.ModelEntry) → All NoLowering (in_model m)
model_lowers plan.gc = All-nil NoLowering
model_lowers (plan.linear m r) =
    All-append NoLowering (maybe_slot plan.memory m) (maybe_slot plan.realloc r) (maybe_lowers plan.memory m)
    (maybe_lowers plan.realloc r)

entry_lowers : (e : plan.PlanOptions Mark) → All NoLowering (in_entry e)
entry_lowers e =
    All-append NoLowering (in_model e.model ++ maybe_slot plan.callback e.callback)
    (maybe_slot plan.post_return e.post_return)
    (All-append NoLowering (in_model e.model) (maybe_slot plan.callback e.callback) (model_lowers e.model)
    (maybe_lowers plan.callback e.callback)) (maybe_lowers plan.post_return e.post_return)

part_lowers : (p : plan.TrampolinePart Mark) → All NoLowering (in_part p)
unfolding NoLowering
part_lowers (plan.mark m) = All-nil NoLowering
part_lowers (plan.number n) = All-nil NoLowering
part_lowers (plan.flag b) = All-nil NoLowering
part_lowers (plan.slot k n) = maybe_lowers k n
part_lowers (plan.options o) = all_one NoLowering (options_id o) tt

parts_lower : (ps : List (plan.TrampolinePart Mark)) → All NoLowering (flat_map in_part ps)
parts_lower [] = All-nil NoLowering
parts_lower (p ∷ ps) =
    All-append NoLowering (in_part p) (flat_map in_part ps) (part_lowers p) (parts_lower ps)

-- a list without a lowering doesn't have one
without : (xs : List Id) (t : TrampolineIndex) → All NoLowering xs → Contains xs (id.Lowering t) → ⊥
unfolding NoLowering
without xs t all inside = All-contains NoLowering xs (id.Lowering t) all inside

indirect : (xs : List Id) (t : TrampolineIndex) → All IsDirect xs → Contains xs (id.Lowering t) → ⊥
unfolding IsDirect
indirect xs t all inside = All-contains IsDirect xs (id.Lowering t) all inside

-- the trampoline of a lowering
abbrev lowered : Id → ℕ
lowered (id.Lowering t) = t.0
lowered x = 0

-- only the trampoline of its number depends on a lowering
from_trampoline : (u t : TrampolineIndex) (e : plan.TrampolineEntry Mark) → Contains (in_trampoline u e) (id.Lowering t)
    → u ≡ t
unfolding NoLowering
from_trampoline u t (plan.lowers r s ty o) (zero, below, is) = ap (λ n. record { 0 = n }) (ap lowered is)
from_trampoline u t (plan.lowers r s ty o) (suc zero, below, is) = absurd (subst NoLowering is tt)
from_trampoline u t (plan.lowers r s ty o) (suc (suc i), below, is) = absurd (omega (arith, below))
from_trampoline u t (plan.builtin k symbol c ps) inside = absurd
    (without (flat_map in_part ps) t (parts_lower ps) inside)
from_trampoline u t (plan.helper k symbol ps) inside = absurd (without (flat_map in_part ps) t (parts_lower ps) inside)

module _ (f : Finish) (t : TrampolineIndex) (n : ℕ) (at : number_at f.numbers.lowerings t.0 ≡ Some n) where
  head_lowers : (s : ModuleInternedTypeIndex) (b : TrampolineKind) (h : Head RuntimeImportIndex OptionsId)
      (ps : PartList GraphPart) → Contains (in_trampoline t (entry_of graph_numbers s b h (list_of ps))) (id.Lowering t)
      → TakesLowering n (entry_of plan_numbers s b (head_in f t h) (list_of (list_in f ps)))
  head_lowers s b (head.Lowering r ty o) ps inside = ap (λ m. unwrap_or m 0) at
  head_lowers s b (head.Builtin c) ps inside =
      absurd (without _ t (parts_lower (signed graph_numbers s (list_of ps))) inside)
  head_lowers s b h ps inside =
      absurd (without _ t (parts_lower (signed graph_numbers s (list_of ps))) inside)

  -- the trampoline of the plan is that lowering
  pub trampoline_lowers : (s : ModuleInternedTypeIndex) (p : GraphParts)
      → Contains (in_trampoline t (parts_entry graph_numbers s p)) (id.Lowering t)
      → TakesLowering n (parts_entry plan_numbers s (parts_in f t p))
  trampoline_lowers s p inside = head_lowers s p.kind p.head p.parts inside

module _ (g : ComponentDfg) where
  each_lowers : (u t : TrampolineIndex) (o : Option SignedTrampoline)
      → Contains (each_of (λ x. in_trampoline u (trampoline_entry x)) o) (id.Lowering t) → u ≡ t
  each_lowers u t None inside = absurd (without [] t (All-nil NoLowering) inside)
  each_lowers u t (Some x) inside = from_trampoline u t (trampoline_entry x) inside

  needs_lowering : (x : Id) (t : TrampolineIndex) → Contains (parts g x) (id.Lowering t) → x ≡ id.Trampoline t
  unfolding parts
  needs_lowering (id.Memory n) t inside = absurd (indirect _ t (direct_in_slot g plan.memory n.0) inside)
  needs_lowering (id.Table n) t inside = absurd (indirect _ t (direct_in_slot g plan.table n.0) inside)
  needs_lowering (id.Realloc n) t inside = absurd (indirect _ t (direct_in_slot g plan.realloc n.0) inside)
  needs_lowering (id.Callback n) t inside = absurd (indirect _ t (direct_in_slot g plan.callback n.0) inside)
  needs_lowering (id.PostReturn n) t inside = absurd (indirect _ t (direct_in_slot g plan.post_return n.0) inside)
  needs_lowering (id.Options o) t inside =
      absurd (without _ t
      (all_each NoLowering (λ x. in_entry (options_entry x)) (slice_get g.options o.0)
      (λ x at. entry_lowers (options_entry x))) inside)
  needs_lowering (id.Lowering u) t inside = absurd (without [] t (All-nil NoLowering) inside)
  needs_lowering (id.Trampoline u) t inside =
      ap (λ v. id.Trampoline v) (each_lowers u t (slice_get g.trampolines u.0) inside)
  needs_lowering (id.Intrinsic s i) t inside = absurd (without [] t (All-nil NoLowering) inside)
  needs_lowering (id.AdapterModule m) t inside =
      absurd (indirect _ t
      (all_each IsDirect (λ x. flat_map (in_def g) x.1) (slice_get g.adapter_modules m.0) (λ x at. direct_defs g x.1))
      inside)

  -- a lowering is alike to itself alone
  alike_lowering : (x : Id) (t : TrampolineIndex) → Alike x (id.Lowering t) → x ≡ id.Lowering t
  unfolding unsigned NoLowering
  alike_lowering (id.Intrinsic s i) t alike = absurd (subst NoLowering alike tt)
  alike_lowering x t alike = alike

  module _ (f : Finish) (is : Represents g f) (t : TrampolineIndex) (n : ℕ)
      (at : number_at f.numbers.lowerings t.0 ≡ Some n) where
    lowered_by : HasNumber f (id.Trampoline t) → Contains (parts g (id.Trampoline t)) (id.Lowering t)
        → (m : ℕ) × (x : plan.TrampolineEntry Mark)
        × (slice_get (trampolines_view 0 f.signatures f.trampolines) m ≡ Some x) × TakesLowering n x
    unfolding number_of
    lowered_by has inside =
        let c = is.trampolines t.0 has.0 has.1 in
        let inner = subst (λ l. Contains l (id.Lowering t)) (copied_parts g t.0 c.entry c.at) inside in
        let takes = trampoline_lowers f t n at c.entry.0 (parts_of c.entry.1) inner in (
          has.0,
          entry_view c.entry.0 c.made,
          copied_view g f is t.0 has.0 c,
          subst (λ p. TakesLowering n (parts_entry plan_numbers c.entry.0 p)) (sym c.is) takes,
        )

    -- a lowering to which an id with a number leads is that of a trampoline of the plan
    pub used_lowering : (r : Id) → HasNumber f r → IsDirect r → IsUsedBy g r (id.Lowering t)
        → (m : ℕ) × (x : plan.TrampolineEntry Mark)
        × (slice_get (trampolines_view 0 f.signatures f.trampolines) m ≡ Some x) × TakesLowering n x
    unfolding IsDirect
    used_lowering r has direct used =
        let leads = subst (Leads g r) (alike_lowering used.0 t used.2) used.1 in
        elim (leads_last g r (id.Lowering t) leads) [
          | inl same ↦ absurd (subst IsDirect same direct)
          | inr last ↦
              let same = needs_lowering last.0 t last.2 in
              lowered_by (subst (HasNumber f) same (leads_numbered g f is r last.0 last.1 has))
              (subst (λ y. Contains (parts g y) (id.Lowering t)) same last.2)
        ]
