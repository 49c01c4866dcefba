-- Lists that are put together.
use Rattle.std.proofs.Common.{◌+◌, ◌++◌, inl, inr, length-append}
use Rattle.std.proofs.lemmas.Bool.{cases_lt}
use Rattle.pc_entity.proofs.Growing.{slice_get-append, slice_get-append_seam}
use Rattle.pc_entity.proofs.LookupLemmas.{found_at}
use Rattle.std.proofs.Common.{◌≡◌, ℕ, zero, suc, List, [], ◌∷◌, All, Some, refl, sym, ap, subst, ◌∙◌, arith, get_or, length}
use Rattle.std.proofs.lemmas.List.{get_or-map}
use Rattle.std.specs.Prelude.{map, slice_get}
use Rattle.std.proofs.lemmas.Option.{none-some, same_Some, slice_get_within}
use Rattle.pc_analysis_imports.specs.Imports.{each_with}

-- look-ups in lists that are put together
pub each_at : {A B : Type 0} (f : A → B → A) (as_ : List A) (bs : List B) (n : ℕ) (a : A) (b : B)
    → slice_get as_ n ≡ Some a → slice_get bs n ≡ Some b → slice_get (each_with f as_ bs) n ≡ Some (f a b)
each_at f [] bs n a b here there = absurd (none-some a here)
each_at f (x ∷ xs) [] n a b here there = absurd (none-some b there)
each_at f (x ∷ xs) (y ∷ ys) zero a b here there = λ z. Some (f (same_Some x a here z) (same_Some y b there z))
each_at f (x ∷ xs) (y ∷ ys) (suc n) a b here there = each_at f xs ys n a b here there

pub each_count : {A B : Type 0} (f : A → B → A) (as_ : List A) (bs : List B)
    → length (each_with f as_ bs) ≡ length as_
each_count f [] bs = refl
each_count f (x ∷ xs) [] = refl
each_count f (x ∷ xs) (y ∷ ys) = ap suc (each_count f xs ys)

pub each_keeps : {A B C : Type 0} (f : A → B → A) (g : A → C) → ((a : A) (b : B) → g (f a b) ≡ g a)
    → (as_ : List A) (bs : List B) → map g (each_with f as_ bs) ≡ map g as_
each_keeps f g keeps [] bs = refl
each_keeps f g keeps (x ∷ xs) [] = refl
each_keeps f g keeps (x ∷ xs) (y ∷ ys) = λ z. keeps x y z ∷ each_keeps f g keeps xs ys z

-- what holds of each item before holds after, where each is as before in what is asked
pub each_all : {A B C : Type 0} (f : A → B → A) (g : A → C) (P : C → Type 0) → ((a : A) (b : B) → g (f a b) ≡ g a)
    → (as_ : List A) (bs : List B) → All (λ a. P (g a)) as_ → All (λ a. P (g a)) (each_with f as_ bs)
each_all {A} f g P keeps as_ bs all k d few =
    let counts = each_count f as_ bs in
    let same : g (get_or (each_with f as_ bs) k d) ≡ g (get_or as_ k d) =
    sym (get_or-map g (each_with f as_ bs) k d (g d) few)
    ∙ ap (λ l. get_or l k (g d)) (each_keeps f g keeps as_ bs)
    ∙ get_or-map g as_ k d (g d) (omega (arith, few, counts)) in
    subst P (sym same) (all k d (omega (arith, few, counts)))

-- what holds of each pair of items holds with a pair more
pub each_more : {A B : Type 0} (P : ℕ → A → B → Type 0) (as_ : List A) (now next : List B) (a : A) (b : B) (n : ℕ)
    → length now ≡ n → next ≡ now ++ b ∷ []
    → ((m : ℕ) (x : A) (y : B) → slice_get as_ m ≡ Some x → slice_get now m ≡ Some y → P m x y)
    → slice_get as_ n ≡ Some a → P n a b
    → (m : ℕ) (x : A) (y : B) → slice_get as_ m ≡ Some x → slice_get next m ≡ Some y → P m x y
each_more P as_ now next a b n counts is before at holds m x y here there = elim (cases_lt m n) [
  | inl less ↦
      let old = found_at now m (omega (arith, less, counts)) in
      before m x y here
      (old.1 ∙ ap Some (same_Some old.0 y
      (sym (ap (λ l. slice_get l m) is ∙ slice_get-append now (b ∷ []) m old.0 old.1) ∙ there)))
  | inr many ↦
      let within = slice_get_within next m y there in
      let long : length next ≡ length now + 1 = ap length is ∙ length-append now (b ∷ []) in
      let last : m ≡ n = omega (arith, within, many, long, counts) in
      let first : x ≡ a = same_Some x a (sym here ∙ ap (slice_get as_) last ∙ at) in
      let seam : slice_get next m ≡ Some b =
      ap (λ l. slice_get l m) is ∙ ap (slice_get (now ++ b ∷ [])) (last ∙ sym counts) ∙ slice_get-append_seam now b [] in
      let second : y ≡ b = same_Some y b (sym there ∙ seam) in
      subst (λ k. P k x y) (sym last) (subst (λ z. P n z y) (sym first) (subst (P n a) (sym second) holds))
]
