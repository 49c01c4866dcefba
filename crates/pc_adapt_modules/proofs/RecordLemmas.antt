-- Lists that are put together one by one.
use Rattle.std.proofs.Common.{◌≡◌, ◌<◌, ℕ, zero, suc, ◌+◌, List, [], ◌∷◌, ◌++◌, length, take, get_or, refl}
use Rattle.std.proofs.Common.{sym, ap, ◌∙◌}
use Rattle.std.proofs.Common.{arith}
use Rattle.std.specs.Prelude.{replicate}
use Rattle.std.specs.Fmt.{decimal}
use Rattle.std.proofs.lemmas.List.{take_more, append_assoc}
use Rattle.pc_types.specs.declared.parsed.CoreEntity.{CoreEntity}
use Rattle.pc_types.specs.declared.parsed.CoreKind.TheVariants as kind
use Rattle.pc_types.specs.Record.{entity_at}
use Rattle.pc_spec_adapt.specs.Record.{adapter_name}
use Rattle.pc_adapt_modules.specs.Entities.{named_entities}
use Rattle.pc_adapt_modules.specs.Exports.{exports_of}

-- one import more
named_more : (n i : ℕ) (es : List CoreEntity) (e : CoreEntity)
    → named_entities n i (es ++ e ∷ []) ≡ named_entities n i es ++ (adapter_name n, decimal (i + length es), e) ∷ []
named_more n i [] e =
    let here : i ≡ i + 0 = omega arith in
    ap (λ k. (adapter_name n, decimal k, e) ∷ []) here
named_more n i (x ∷ es) e =
    let place : i + 1 + length es ≡ i + suc (length es) = omega arith in
    ap (λ xs. (adapter_name n, decimal i, x) ∷ xs)
    (named_more n (i + 1) es e
    ∙ ap (λ k. named_entities n (i + 1) es ++ (adapter_name n, decimal k, e) ∷ []) place)

-- one import more of a list that is read
pub named_step : (n i : ℕ) (es : List CoreEntity) (d : CoreEntity) → i < length es
    → named_entities n 0 (take (i + 1) es)
    ≡ named_entities n 0 (take i es) ++ (adapter_name n, decimal i, get_or es i d) ∷ []
named_step n i es d below =
    ap (named_entities n 0) (take_more es i d below)
    ∙ named_more n 0 (take i es) (get_or es i d)
    ∙ ap (λ k. named_entities n 0 (take i es) ++ (adapter_name n, decimal k, get_or es i d) ∷ [])
    (omega (arith, taken es i below))
  where
    taken : (xs : List CoreEntity) (j : ℕ) → j < length xs → length (take j xs) ≡ j
    taken [] j none = absurd (omega (arith, none))
    taken (x ∷ xs) zero some = refl
    taken (x ∷ xs) (suc j) some = ap suc (taken xs j (omega (arith, some)))

-- one import more, with its name and its place as they were made
pub put_step : (n k : ℕ) (es : List CoreEntity) (d : CoreEntity)
    (before old new : List (List ℕ × List ℕ × CoreEntity)) (name own : List ℕ) → k < length es
    → old ≡ before ++ named_entities n 0 (take k es) → name ≡ adapter_name n → own ≡ decimal k
    → new ≡ old ++ (name, own, get_or es k d) ∷ [] → new ≡ before ++ named_entities n 0 (take (k + 1) es)
put_step n k es d before old new name own below so_far named placed is =
    let e = get_or es k d in
    is
    ∙ (λ i. so_far i ++ (named i, placed i, e) ∷ [])
    ∙ append_assoc before (named_entities n 0 (take k es)) ((adapter_name n, decimal k, e) ∷ [])
    ∙ ap (λ ys. before ++ ys) (sym (named_step n k es d below))

-- one export more
pub exports_more : (f n k : ℕ)
    → exports_of f n (suc k) ≡ exports_of f n k ++ (adapter_name (n + k), entity_at kind.Func (f + k)) ∷ []
exports_more f n zero =
    let number : n ≡ n + 0 = omega arith in
    let function : f ≡ f + 0 = omega arith in
    λ i. (adapter_name (number i), entity_at kind.Func (function i)) ∷ []
exports_more f n (suc k) =
    let number : n + 1 + k ≡ n + suc k = omega arith in
    let function : f + 1 + k ≡ f + suc k = omega arith in
    ap (λ xs. (adapter_name n, entity_at kind.Func f) ∷ xs)
    (exports_more (f + 1) (n + 1) k
    ∙ (λ i. exports_of (f + 1) (n + 1) k
    ++ (adapter_name (number i), entity_at kind.Func (function i)) ∷ []))

-- one value more
pub replicate_more : {A : Type 0} (k : ℕ) (x : A) → replicate (suc k) x ≡ replicate k x ++ x ∷ []
replicate_more zero x = refl
replicate_more (suc k) x = ap (λ xs. x ∷ xs) (replicate_more k x)
