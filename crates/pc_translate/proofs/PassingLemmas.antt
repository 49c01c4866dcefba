-- What a `?` passes up.
use Rattle.std.proofs.Common.{◌≡◌, Err, ap, sym, subst, ◌∙◌}
use Rattle.std.specs.Prelude.{Result}
use Rattle.std.specs.Result.{IsErrAnd}
use Rattle.std.proofs.lemmas.Result.{err_from_is_err_and}

-- what holds of the error of the call holds of what was passed up
pub passed_err : {T E : Type 0} (r : Result T E) (e : E) (P : Result T E → Type 0) → IsErrAnd r (λ y. y ≡ e)
    → P (Err e) → P r
passed_err r e P is h =
    let p = err_from_is_err_and r is in
    subst P (sym (p.1 ∙ ap Err p.2)) h
