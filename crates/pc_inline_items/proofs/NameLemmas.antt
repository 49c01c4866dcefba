-- Names that stand once in a list.
use Rattle.std.proofs.Common.{◌≡◌, ◌||◌, ℕ, Bool, true, false, true≢false, List, [], ◌∷◌, Some, map, not}
use Rattle.std.proofs.Common.{refl, sym, ap, ◌∙◌, take, zero, suc}
use Rattle.std.specs.Prelude.{slice_get}
use Rattle.std.specs.List.{list_any}
use Rattle.std.specs.Str.{bytes_eq}
use Rattle.std.proofs.lemmas.Option.{none-some, same_Some}
use Rattle.pc_entity.proofs.Elements.{and_true}
use Rattle.pc_types.specs.Names.{distinct_names, has_name}
use Rattle.pc_types.proofs.NameLemmas.{bytes_eq-sym}
use Rattle.pc_parsed.specs.declared.payload.ExternName.{ExternName}
use Rattle.pc_parsed.specs.declared.payload.ItemKind.{ItemKind}
use Rattle.pc_inline_state.specs.Named.{export_name}

-- neither part of a disjunction that fails
or_false : (a b : Bool) → (a || b) ≡ false → (a ≡ false) × (b ≡ false)
or_false true b h = absurd (true≢false h)
or_false false b h = (refl, h)

-- what isn't so
not_so : (b : Bool) → not b ≡ true → b ≡ false
not_so true h = absurd (true≢false (sym h))
not_so false h = refl

-- what none passes isn't passed by the one at a place
any_none : {A : Type 0} (test : List ℕ → Bool) (f : A → List ℕ) (xs : List A) (i : ℕ) (x : A)
    → list_any test (map f xs) ≡ false → slice_get xs i ≡ Some x → test (f x) ≡ false
any_none test f [] i x none at = absurd (none-some x at)
any_none test f (y ∷ ys) zero x none at =
    ap (λ z. test (f z)) (sym (same_Some y x at)) ∙ (or_false (test (f y)) (list_any test (map f ys)) none).0
any_none test f (y ∷ ys) (suc i) x none at =
    any_none test f ys i x (or_false (test (f y)) (list_any test (map f ys)) none).1 at

-- where no name stands twice, the name at a place isn't one of those in front of it
pub apart_at : (xs : List (ExternName × ItemKind × ℕ)) (i : ℕ) (x : ExternName × ItemKind × ℕ)
    → distinct_names (map export_name xs) ≡ true → slice_get xs i ≡ Some x
    → has_name (map export_name (take i xs)) x.0.name ≡ false
apart_at xs zero x once at = refl
apart_at [] (suc i) x once at = absurd (none-some x at)
apart_at (y ∷ ys) (suc i) x once at =
    let parts = and_true (not (list_any (bytes_eq y.0.name) (map export_name ys))) (distinct_names (map export_name ys))
    once in
    let other = bytes_eq-sym x.0.name y.0.name
    ∙ any_none (bytes_eq y.0.name) export_name ys i x (not_so _ parts.0) at in
    ap (λ b. b || has_name (map export_name (take i ys)) x.0.name) other ∙ apart_at ys i x parts.1 at
