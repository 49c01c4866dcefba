-- Lists that are written from the back to the front.
use Rattle.std.proofs.Common.{◌≡◌, ◌<◌, ◌≤◌, ◌+◌, ℕ, suc, List, [], ◌∷◌, ◌++◌, length, Some, refl, sym, ap, subst}
use Rattle.std.proofs.Common.{◌∙◌, arith, get_or, inl, inr, length-append}
use Rattle.std.specs.Prelude.{slice_get, slice_set}
use Rattle.std.proofs.lemmas.Bool.{cases_eq, cases_lt}
use Rattle.std.proofs.lemmas.List.{length-set}
use Rattle.std.proofs.lemmas.Option.{same_Some, slice_get_read, slice_get_within}
use Rattle.pc_entity.specs.Lists.{Kept}
use Rattle.pc_entity.proofs.Growing.{slice_get-append, slice_get-append_seam, slice_get-set_other, slice_get-set_same}
use Rattle.pc_entity.proofs.LookupLemmas.{found_at}
use Rattle.pc_analysis_imports.specs.Imports.{each_with}
use Rattle.pc_analysis_imports.proofs.EachLemmas.{each_at, each_count}

-- two lists with the same items are one
pub lists_same : {A : Type 0} (xs ys : List A) → length xs ≡ length ys
    → ((n : ℕ) (x y : A) → slice_get xs n ≡ Some x → slice_get ys n ≡ Some y → x ≡ y) → xs ≡ ys
lists_same [] [] count same = refl
lists_same [] (y ∷ ys) count same = let bad : ⊥ = omega (arith, count) in absurd bad
lists_same (x ∷ xs) [] count same = let bad : ⊥ = omega (arith, count) in absurd bad
lists_same (x ∷ xs) (y ∷ ys) count same =
    let first = same 0 x y refl refl in
    let rest = lists_same xs ys (omega (arith, count)) (λ n a b here there. same (suc n) a b here there) in
    λ z. first z ∷ rest z

module _ {A B : Type 0} (f : A → B → A) (old : List A) (news : List B) where
  -- the items from a place on are written, and those in front are as before
  pub record IsWritten (n : ℕ) (now : List A) : Type 0 where
    pub count : length now ≡ length old
    pub front : (k : ℕ) → k < n → slice_get now k ≡ slice_get old k
    pub behind : (k : ℕ) (a : A) (b : B) → n ≤ k → slice_get old k ≡ Some a → slice_get news k ≡ Some b
        → slice_get now k ≡ Some (f a b)

  -- at the beginning
  pub written_none : length news ≡ length old → IsWritten (length news) old
  written_none counts = record {
    count = refl;
    front = λ k few. refl;
    behind = λ k a b many here there.
        let few = slice_get_within news k b there in
        let bad : ⊥ = omega (arith, many, few) in
        absurd bad;
  }

  -- the last that is left is within what is written
  pub last_within : (left rest : List B) (b : B) → length news ≡ length old → Kept left news → left ≡ rest ++ b ∷ []
      → length rest < length old
  last_within left rest b counts kept popped =
      let at : slice_get left (length rest) ≡ Some b =
      ap (λ l. slice_get l (length rest)) popped ∙ slice_get-append_seam rest b [] in
      omega (arith, slice_get_within news (length rest) b (kept (length rest) b at), counts)

  -- what is left is less
  pub kept_less : (left rest : List B) (b : B) → Kept left news → left ≡ rest ++ b ∷ [] → Kept rest news
  kept_less left rest b kept popped k x at =
      kept k x (ap (λ l. slice_get l k) popped ∙ slice_get-append rest (b ∷ []) k x at)

  -- one item more
  pub written_next : (left rest : List B) (b : B) (now : List A) (a : A) → Kept left news → left ≡ rest ++ b ∷ []
      → IsWritten (length left) now → slice_get now (length rest) ≡ Some a
      → IsWritten (length rest) (slice_set now (length rest) (f a b))
  written_next left rest b now a kept popped written here = record {
    count = length-set now (length rest) (f a b) ∙ written.count;
    front = λ k few.
        slice_get-set_other now (length rest) k (f a b) (λ same. omega (arith, same, few))
        ∙ written.front k (omega (arith, few, more));
    behind = λ k x y many there given. elim (cases_eq k (length rest)) [
      | inl same ↦
          let was : slice_get old k ≡ Some a =
          sym (written.front k (omega (arith, same, more))) ∙ ap (slice_get now) same ∙ here in
          let new : slice_get news k ≡ Some b = ap (slice_get news) same ∙ kept (length rest) b last in
          let one : a ≡ x = same_Some a x (sym was ∙ there) in
          let two : b ≡ y = same_Some b y (sym new ∙ given) in
          ap (slice_get (slice_set now (length rest) (f a b))) same
          ∙ slice_get-set_same now (length rest) (f a b) (slice_get_within now (length rest) a here)
          ∙ (λ z. Some (f (one z) (two z)))
      | inr other ↦
          slice_get-set_other now (length rest) k (f a b) other
          ∙ written.behind k x y (after k many other) there given
    ];
  }
    where
      more : length left ≡ length rest + 1
      more = ap length popped ∙ length-append rest (b ∷ [])

      last : slice_get left (length rest) ≡ Some b
      last = ap (λ l. slice_get l (length rest)) popped ∙ slice_get-append_seam rest b []

      after : (k : ℕ) → length rest ≤ k → (k ≡ length rest → ⊥) → length left ≤ k
      after k many other = elim (cases_lt k (length left)) [
        | inl few ↦ absurd (other (omega (arith, few, many, more)))
        | inr enough ↦ enough
      ]

  -- one item more, as a loop has it
  pub written_step : (left rest : List B) (b : B) (now : List A) (place : ℕ) (a v : A) → length news ≡ length old
      → Kept left news → IsWritten (length left) now → left ≡ rest ++ b ∷ [] → place ≡ length rest
      → a ≡ get_or now place a → v ≡ f a b → Kept rest news × IsWritten (length rest) (slice_set now place v)
  written_step left rest b now place a v counts kept written popped at is value =
      let within = last_within left rest b counts kept popped in
      let here : slice_get now place ≡ Some a =
      slice_get_read now (length now) place a refl (omega (arith, within, at, written.count)) is in (
        kept_less left rest b kept popped,
        subst (λ p. IsWritten (length rest) (slice_set now p v)) (sym at)
            (subst (λ w. IsWritten (length rest) (slice_set now (length rest) w)) (sym value)
            (written_next left rest b now a kept popped written (ap (slice_get now) (sym at) ∙ here))),
      )

  -- in the end
  pub written_all : (now : List A) → length news ≡ length old → IsWritten 0 now → now ≡ each_with f old news
  written_all now counts written =
      lists_same now (each_with f old news) (written.count ∙ sym (each_count f old news))
      (λ n x y here there.
      let few = slice_get_within now n x here in
      let a = found_at old n (omega (arith, few, written.count)) in
      let b = found_at news n (omega (arith, few, written.count, counts)) in
      same_Some x y (sym here ∙ written.behind n a.0 b.0 (omega arith) a.1 b.1
      ∙ sym (each_at f old news n a.0 b.0 a.1 b.1) ∙ there))
