-- Core instances: what is found in a list with one more, items that are held, and slots that a core instance leaves.
use Rattle.std.proofs.Common.{◌≡◌, ◌⊎◌, inl, inr, ℕ, zero, suc, List, [], ◌∷◌, ◌++◌, Some, refl}
use Rattle.std.specs.Prelude.{slice_get}
use Rattle.std.proofs.lemmas.Option.{none-some, same_Some, slice_get_within}
use Rattle.pc_numbers.specs.declared.runtime.RuntimeComponentInstanceIndex.{RuntimeComponentInstanceIndex}
use Rattle.pc_types.specs.declared.module_record.ModuleRecord.{ModuleRecord}
use Rattle.pc_types.specs.declared.parsed.CoreKind.{CoreKind}
use Rattle.pc_spec_plan.specs.PlanView as plan
use Rattle.pc_dfg.specs.declared.core_def.CoreDef.{CoreDef}
use Rattle.pc_dfg.specs.declared.dfg.ComponentDfg.{ComponentDfg}
use Rattle.pc_dfg.specs.declared.instance.Instance.{Instance}
use Rattle.pc_dfg.specs.Held.{IsHeld}
use Rattle.pc_dfg.specs.Numbers.{slots_of}
use Rattle.pc_dfg.specs.Pushed.{with_instance}
use Rattle.pc_inline_state.specs.Tables.{IsItem, is_adapter, is_entity, is_intrinsic, is_named, is_trampoline}

-- what is found in a list with one item more was there, or is that item
pub found_in_push : {A : Type 0} (xs : List A) (y : A) (p : ℕ) (x : A) → slice_get (xs ++ y ∷ []) p ≡ Some x
    → (slice_get xs p ≡ Some x) ⊎ (y ≡ x)
found_in_push [] y zero x h = inr (same_Some y x h)
found_in_push [] y (suc p) x h = absurd (none-some x h)
found_in_push (z ∷ xs) y zero x h = inl h
found_in_push (z ∷ xs) y (suc p) x h = found_in_push xs y p x h

-- a core item is held
pub item_held : (ms : List ModuleRecord) (g : ComponentDfg) (k : CoreKind) (d : CoreDef) → IsItem ms g k d → IsHeld g d
unfolding IsHeld
item_held ms g k d (is_entity {i = i} is has) = slice_get_within g.instances i.0 _ has.made
item_held ms g k d (is_named {i = i} host) = slice_get_within g.instances i.0 _ host.made
item_held ms g k d (is_trampoline below) = below
item_held ms g k d (is_intrinsic signed) = tt
item_held ms g k d (is_adapter below) = below

-- the slots of a graph with one core instance more
pub same_slots : (g : ComponentDfg) (x : Instance) (owner : RuntimeComponentInstanceIndex) (k : plan.SlotKind)
    → slots_of (with_instance g x owner) k ≡ slots_of g k
unfolding slots_of
same_slots g x owner plan.memory = refl
same_slots g x owner plan.table = refl
same_slots g x owner plan.realloc = refl
same_slots g x owner plan.callback = refl
same_slots g x owner plan.post_return = refl
