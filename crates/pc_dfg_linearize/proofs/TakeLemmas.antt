-- A trampoline of the plan names what that of the graph depends on, options entries among it.
use Rattle.std.proofs.Common.{◌≡◌, ◌++◌, inl, inr, ℕ, zero, suc, [], ◌∷◌, map, None, Some, ap, ◌∙◌, arith}
use Rattle.std.specs.Prelude.{unwrap_or}
use Rattle.std.specs.List.{Contains, flat_map}
use Rattle.std.proofs.lemmas.List.Elements.{Contains-append_cases, Contains-append_right}
use Rattle.pc_dfg.specs.declared.ids.OptionsId.{OptionsId}
use Rattle.pc_numbers.specs.declared.module_entity.ModuleInternedTypeIndex.{ModuleInternedTypeIndex}
use Rattle.pc_numbers.specs.declared.runtime.RuntimeImportIndex.{RuntimeImportIndex}
use Rattle.pc_numbers.specs.declared.runtime.TrampolineIndex.{TrampolineIndex}
use Rattle.pc_types.specs.declared.trampoline.TrampolineKind.{TrampolineKind}
use Rattle.pc_spec_plan.specs.PlanView as plan
use Rattle.pc_trampoline.specs.declared.part.Head.{Head}
use Rattle.pc_trampoline.specs.declared.part.Head.TheVariants as head
use Rattle.pc_trampoline.specs.declared.part.Mark.{Mark}
use Rattle.pc_trampoline.specs.declared.part.Mark.TheVariants as mark
use Rattle.pc_trampoline.specs.declared.part.Part.TheVariants as part
use Rattle.pc_trampoline.specs.declared.part.PartList.{PartList}
use Rattle.pc_trampoline.specs.declared.part.PartList.TheVariants as list
use Rattle.pc_trampoline.specs.Parts.{list_of}
use Rattle.pc_trampoline.specs.View.{entry_of, part_by, parts_entry, plan_numbers, signed}
use Rattle.pc_dfg.specs.Numbers.{graph_numbers}
use Rattle.pc_dfg_linearize.specs.declared.id.Id.{Id}
use Rattle.pc_dfg_linearize.specs.declared.id.Id.TheVariants as id
use Rattle.pc_dfg_linearize.specs.declared.state.Finish.{Finish}
use Rattle.pc_dfg_linearize.specs.Entries.{GraphPart, GraphParts, head_in, list_in, part_in, parts_in}
use Rattle.pc_dfg_linearize.specs.Numbers.{number_at, numbered}
use Rattle.pc_dfg_linearize.specs.Parts.{in_part, in_trampoline, options_id}
use Rattle.pc_info.specs.Slots.{TakesOptions}

-- the one item of a list
pub one_in : {A : Type 0} (x y : A) → Contains (x ∷ []) y → x ≡ y
one_in x y (zero, below, is) = is
one_in x y (suc k, below, is) = absurd (omega (arith, below))

pub none_in : {A : Type 0} (y : A) → Contains [] y → ⊥
none_in y (k, below, is) = absurd (omega (arith, below))

-- the number of options
abbrev options_of : Id → ℕ
options_of (id.Options o) = o.0
options_of x = 0

module _ (f : Finish) (y : Id) (q : plan.TrampolinePart Mark)
    (named : (p : GraphPart) → Contains (in_part (part_by graph_numbers p)) y
    → part_by plan_numbers (part_in f p) ≡ q) where
  list_names : (ps : PartList GraphPart) → Contains (flat_map in_part (map (part_by graph_numbers) (list_of ps))) y
      → Contains (map (part_by plan_numbers) (list_of (list_in f ps))) q
  list_names list.Empty inside = absurd (none_in y inside)
  list_names (list.One p) inside =
      elim (Contains-append_cases (in_part (part_by graph_numbers p)) [] y inside) [
        | inl first ↦ (0, omega arith, named p first)
        | inr rest ↦ absurd (none_in y rest)
      ]
  list_names (list.Two p r) inside =
      let second = in_part (part_by graph_numbers r) in
      elim (Contains-append_cases (in_part (part_by graph_numbers p)) (second ++ []) y inside) [
        | inl here ↦ (0, omega arith, named p here)
        | inr rest ↦ elim (Contains-append_cases second [] y rest) [
          | inl here ↦ (1, omega arith, named r here)
          | inr none ↦ absurd (none_in y none)
        ]
      ]

  -- where the parts of a graph's trampoline depend on an id, those of the plan's name what it became
  pub signed_names : (s : ModuleInternedTypeIndex) (ps : PartList GraphPart)
      → Contains (flat_map in_part (map (part_by graph_numbers) (list_of ps))) y
      → Contains (signed plan_numbers s (list_of (list_in f ps))) q
  signed_names s ps inside =
      Contains-append_right (plan.mark (mark.Signature s) ∷ []) (map (part_by plan_numbers) (list_of (list_in f ps))) q
      (list_names ps inside)

module _ (f : Finish) (o m : ℕ) (has : number_at f.numbers.options o ≡ Some m) where
  -- the options of this number are the plan's entry m
  options_are : (q : ℕ) → options_id q ≡ options_id o → numbered f.numbers.options q ≡ m
  options_are q same =
      ap (λ x. numbered f.numbers.options (options_of x)) same ∙ ap (λ n. unwrap_or n 0) has

  part_takes : (p : GraphPart) → Contains (in_part (part_by graph_numbers p)) (options_id o)
      → part_by plan_numbers (part_in f p) ≡ plan.options m
  part_takes (part.Type_ ty) inside = absurd (none_in (options_id o) inside)
  part_takes (part.Number n) inside = absurd (none_in (options_id o) inside)
  part_takes (part.Flag b) inside = absurd (none_in (options_id o) inside)
  part_takes (part.Memory k) inside = cc (one_in (id.Memory k) (options_id o) inside)
  part_takes (part.MaybeMemory None) inside = absurd (none_in (options_id o) inside)
  part_takes (part.MaybeMemory (Some k)) inside = cc (one_in (id.Memory k) (options_id o) inside)
  part_takes (part.Table k) inside = cc (one_in (id.Table k) (options_id o) inside)
  part_takes (part.Callback None) inside = absurd (none_in (options_id o) inside)
  part_takes (part.Callback (Some k)) inside = cc (one_in (id.Callback k) (options_id o) inside)
  part_takes (part.PostReturn None) inside = absurd (none_in (options_id o) inside)
  part_takes (part.PostReturn (Some k)) inside = cc (one_in (id.PostReturn k) (options_id o) inside)
  part_takes (part.Options q) inside =
      ap (λ n. plan.options n) (options_are q.0 (one_in (options_id q.0) (options_id o) inside))

  head_takes : (s : ModuleInternedTypeIndex) (t : TrampolineIndex) (k : TrampolineKind)
      (h : Head RuntimeImportIndex OptionsId) (ps : PartList GraphPart)
      → Contains (in_trampoline t (entry_of graph_numbers s k h (list_of ps))) (options_id o)
      → TakesOptions m (entry_of plan_numbers s k (head_in f t h) (list_of (list_in f ps)))
  head_takes s t k (head.Lowering r ty q) ps (zero, below, is) = absurd (cc is)
  head_takes s t k (head.Lowering r ty q) ps (suc zero, below, is) = options_are q.0 is
  head_takes s t k (head.Lowering r ty q) ps (suc (suc i), below, is) = absurd (omega (arith, below))
  head_takes s t k (head.Builtin c) ps inside =
      signed_names f (options_id o) (plan.options m) part_takes s ps inside
  head_takes s t k h ps inside = signed_names f (options_id o) (plan.options m) part_takes s ps inside

  -- what a graph's trampoline depends on, the plan's trampoline names
  pub parts_take : (s : ModuleInternedTypeIndex) (t : TrampolineIndex) (p : GraphParts)
      → Contains (in_trampoline t (parts_entry graph_numbers s p)) (options_id o)
      → TakesOptions m (parts_entry plan_numbers s (parts_in f t p))
  parts_take s t p inside = head_takes s t p.kind p.head p.parts inside
