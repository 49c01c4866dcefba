-- What a `?` passes up where a builder is too full.
use Rattle.std.proofs.Common.{◌≡◌, Bool, Err, Ok, ap, false, refl, sym, true, true≢false, ◌∙◌}
use Rattle.std.specs.Prelude.{Result}
use Rattle.std.specs.Result.{IsErrAnd}
use Rattle.std.proofs.lemmas.Result.{err_from_is_err_and}
use Rattle.pc_types.specs.declared.error.TypeError.{TypeError}
use Rattle.pc_types.specs.declared.error.TypeError.TheVariants as error
use Rattle.pc_types_lists.specs.declared.no_place.NoPlace.{NoPlace}
use Rattle.pc_types_lists.specs.declared.no_place.NoPlace.TheVariants.{TooMany, NoMemory}
use Rattle.pc_types_lists.specs.Refusal.{type_error}
use Rattle.pc_types_lists.specs.Types.{Types, Grows, IsBuilder, IsTooFullFor}
use Rattle.pc_types_lists.proofs.Growth.{too_full}

-- the error of a result that has one
abbrev error_in : {T : Type 0} → Result T NoPlace → NoPlace
error_in (Ok x) = TooMany
error_in (Err e) = e

-- what holds where a call answers that there are too many holds where its answer is passed up
pub passed : {T U A : Type 0} (r : Result T NoPlace) (e : NoPlace) → IsErrAnd r (λ y. y ≡ e)
    → (◌≡◌ {A = Result U NoPlace} (Err e) (Err TooMany) → A) → r ≡ Err TooMany → A
passed r e is told h =
    let p = err_from_is_err_and r is in
    told (ap Err (sym p.2 ∙ ap error_in (sym p.1 ∙ h)))

-- a builder that is too full for what a call wants is too full for what wants that
pub passed_on : {T U : Type 0} (r : Result T NoPlace) (e : NoPlace) (b : Types) (P Q : Types → Type 0)
    → IsErrAnd r (λ y. y ≡ e)
    → (◌≡◌ {A = Result U NoPlace} (Err e) (Err TooMany) → IsTooFullFor b P)
    → ((next : Types) → Grows b next → IsBuilder next → Q next → P next)
    → r ≡ Err TooMany → IsTooFullFor b Q
passed_on r e b P Q is told wants h = too_full b P Q wants (passed r e is told h)

-- the error that a public call answers
abbrev answered : {T : Type 0} → Result T TypeError → TypeError
answered (Ok x) = error.TooMany
answered (Err e) = e

-- callers are told that there are too many only where a step inside says so
same_refusal : (e : NoPlace) → type_error e ≡ error.TooMany → e ≡ TooMany
same_refusal TooMany h = refl
same_refusal NoMemory h = absurd (true≢false (ap is_many (sym h)))
  where
    is_many : TypeError → Bool
    is_many error.TooMany = true
    is_many _ = false

-- what holds where a step inside says that there are too many holds where callers are told so
pub told : {T U A : Type 0} (r : Result T TypeError) (e : NoPlace) → IsErrAnd r (λ y. y ≡ type_error e)
    → (◌≡◌ {A = Result U NoPlace} (Err e) (Err TooMany) → A) → r ≡ Err error.TooMany → A
told r e is says h =
    let p = err_from_is_err_and r is in
    says (ap Err (same_refusal e (sym p.2 ∙ ap answered (sym p.1 ∙ h))))
