-- Which adapter is told to lack an option.
use Rattle.std.proofs.Common.{◌≡◌, Ok, Err, Option, None, Some, ℕ, sym, ap, ◌∙◌, arith}
use Rattle.std.specs.Prelude.{◌↔◌}
use Rattle.std.specs.declared.result.Result.{Result}
use Rattle.pc_types.specs.TypeTree.{TypeTree}
use Rattle.pc_dfg.specs.declared.dfg.ComponentDfg.{ComponentDfg}
use Rattle.pc_dfg.specs.declared.ids.AdapterId.{AdapterId}
use Rattle.pc_dfg.specs.declared.push_error.PushError.{PushError}
use Rattle.pc_dfg.specs.declared.push_error.PushError.TheVariants as push
use Rattle.pc_adapt.specs.declared.error.AdaptError.{AdaptError}
use Rattle.pc_adapt.specs.declared.error.AdaptError.TheVariants as refusal
use Rattle.pc_adapt.specs.Asked.{LacksFirst}
use Rattle.pc_adapt.specs.Refused.{of_push_error}

same_refusal : (i a : AdapterId) → (◌≡◌ {A = Result (Unit {0}) AdaptError} (Err (refusal.BadOptions i))
    (Err (refusal.BadOptions a))) → i ≡ a
same_refusal i a e = grind (arith, e)

same_some : (i a : AdapterId) → Some i ≡ Some a → i ≡ a
same_some i a e = grind (arith, e)

none_some : (a : AdapterId) → None ≡ Some a → ⊥
none_some a e = grind (arith, e)

-- the one that lacks one is told
pub lacking_told : (g : ComponentDfg) (lift lower : ℕ → TypeTree) (r : Option AdapterId) (i a : AdapterId)
    → r ≡ Some i → (r ≡ Some a) ↔ LacksFirst g lift lower a.0
    → (◌≡◌ {A = Result (Unit {0}) AdaptError} (Err (refusal.BadOptions i)) (Err (refusal.BadOptions a)))
    ↔ LacksFirst g lift lower a.0
lacking_told g lift lower r i a is exact = (
  λ e. exact.0 (is ∙ ap Some (same_refusal i a e)),
  λ lacks. ap (λ j. Err (refusal.BadOptions j)) (same_some i a (sym is ∙ exact.1 lacks)),
)

-- where none lacks one, none is told
pub nobody_lacks : (g : ComponentDfg) (lift lower : ℕ → TypeTree) (r : Option AdapterId) (a : AdapterId)
    (result : Result (Unit {0}) AdaptError) → r ≡ None → (r ≡ Some a) ↔ LacksFirst g lift lower a.0
    → (result ≡ Err (refusal.BadOptions a) → ⊥)
    → (result ≡ Err (refusal.BadOptions a)) ↔ LacksFirst g lift lower a.0
nobody_lacks g lift lower r a result none exact other =
    (λ e. absurd (other e), λ lacks. absurd (none_some a (sym none ∙ exact.1 lacks)))

-- a full list, or want of memory, is no lacking option
pub not_bad_push : (p : PushError) (a : AdapterId) (e : AdaptError) → e ≡ of_push_error p → e ≡ refusal.BadOptions a
    → ⊥
not_bad_push push.TooMany a e is bad = other (sym is ∙ bad)
  where
    other : refusal.TooMany ≡ refusal.BadOptions a → ⊥
    other same = grind (arith, same)
not_bad_push push.NoMemory a e is bad = other (sym is ∙ bad)
  where
    other : refusal.NoMemory ≡ refusal.BadOptions a → ⊥
    other same = grind (arith, same)

pub not_bad_ok : (a : AdapterId) → (◌≡◌ {A = Result (Unit {0}) AdaptError} (Ok (tt {0}))
    (Err (refusal.BadOptions a))) → ⊥
not_bad_ok a e = grind (arith, e)

-- too many is a full list
pub push_full : (p : PushError) (e : AdaptError) → e ≡ of_push_error p → e ≡ refusal.TooMany → p ≡ push.TooMany
push_full push.TooMany e is full = refl'
  where
    refl' : push.TooMany ≡ push.TooMany
    refl' = λ i. push.TooMany
push_full push.NoMemory e is full = absurd (other (sym is ∙ full))
  where
    other : refusal.NoMemory ≡ refusal.TooMany → ⊥
    other same = grind (arith, same)
