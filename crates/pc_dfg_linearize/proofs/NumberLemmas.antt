-- The numbers of a list's entries, with one more.
use Rattle.std.proofs.Common.{◌≡◌, ◌<◌, ℕ, List, [], length, All, Option, None, Some, refl, sym, ap, subst, ◌∙◌, inl}
use Rattle.std.proofs.Common.{inr, ◌⊎◌}
use Rattle.std.specs.Prelude.{slice_get, option_and_then}
use Rattle.std.specs.Option.{IsSome}
use Rattle.std.proofs.lemmas.Bool.{cases_eq}
use Rattle.std.proofs.lemmas.List.Elements.{All-head}
use Rattle.std.proofs.lemmas.Option.{none-some, same_Some}
use Rattle.pc_entity.proofs.Growing.{slice_get-set_same, slice_get-set_other}
use Rattle.pc_dfg.specs.declared.ids.AdapterId.{AdapterId}
use Rattle.pc_dfg.specs.declared.ids.AdapterModuleId.{AdapterModuleId}
use Rattle.pc_numbers.specs.declared.entity_index.EntityIndex.{EntityIndex}
use Rattle.pc_numbers.specs.declared.runtime.TrampolineIndex.{TrampolineIndex}
use Rattle.pc_dfg.specs.declared.core_def.CoreDef.{CoreDef}
use Rattle.pc_dfg.specs.declared.core_def.CoreDef.TheVariants as def
use Rattle.pc_dfg.specs.declared.dfg.ComponentDfg.{ComponentDfg}
use Rattle.pc_dfg_linearize.specs.declared.id.Id.TheVariants as id
use Rattle.pc_dfg_linearize.specs.declared.state.Finish.{Finish}
use Rattle.pc_dfg_linearize.specs.Numbers.{number_at, with_number}
use Rattle.pc_dfg_linearize.specs.Parts.{HasNumber, in_def, number_of}
use Rattle.pc_dfg_linearize.proofs.DefLemmas.{numbered_module}

-- what is something is there
pub is_there : {A : Type 0} (o : Option A) (x : A) → o ≡ Some x → IsSome o
is_there None x h = absurd (none-some x h)
is_there (Some y) x h = refl

module _ (ns : List (Option ℕ)) (k n : ℕ) where
  -- an entry that is held has the number that was noted
  pub number_noted : k < length ns → number_at (with_number ns k n) k ≡ Some n
  number_noted within = rw (slice_get-set_same ns k (Some n) within) refl

  -- an entry has the number that it had, or is the one whose number was noted
  pub number_back : k < length ns → (j m : ℕ) → number_at (with_number ns k n) j ≡ Some m
      → ((k ≡ j) × (n ≡ m)) ⊎ (number_at ns j ≡ Some m)
  number_back within j m h = elim (cases_eq j k) as (λ _. ((k ≡ j) × (n ≡ m)) ⊎ (number_at ns j ≡ Some m)) [
    | inl same ↦ inl (
      sym same,
      same_Some n m (sym (number_noted within)
          ∙ ap (number_at (with_number ns k n)) (sym same) ∙ h),
    )
    | inr other ↦ inr (ap (option_and_then (λ (o : Option ℕ). o)) (sym (slice_get-set_other ns k j (Some n) other)) ∙ h)
  ]

-- a trampoline that a definition is has its number
pub trampoline_there : (g : ComponentDfg) (f : Finish) (d : CoreDef) (t : TrampolineIndex) → d ≡ def.Trampoline t
    → All (HasNumber f) (in_def g d) → IsSome (number_at f.numbers.trampolines t.0)
unfolding number_of
trampoline_there g f d t is all =
    let n = All-head (HasNumber f) (id.Trampoline t) []
    (subst (λ (e : CoreDef). All (HasNumber f) (in_def g e)) is all) in
    is_there (number_at f.numbers.trampolines t.0) n.0 n.1

-- and the module of an adapter that it is
pub adapter_there : (g : ComponentDfg) (f : Finish) (d : CoreDef) (a : AdapterId) (q : AdapterModuleId × EntityIndex)
    → d ≡ def.Adapter a → slice_get g.adapter_partitionings a.0 ≡ Some q → All (HasNumber f) (in_def g d)
    → IsSome (number_at f.numbers.adapter_modules q.0.0)
unfolding number_of
adapter_there g f d a q is at all =
    let n = numbered_module g f a q at (subst (λ (e : CoreDef). All (HasNumber f) (in_def g e)) is all) in
    is_there (number_at f.numbers.adapter_modules q.0.0) n.0 n.1
