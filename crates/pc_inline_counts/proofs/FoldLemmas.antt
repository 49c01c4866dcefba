-- Counts that are made one after another.
use Rattle.std.proofs.Common.{◌≡◌, ◌<◌, ◌+◌, ℕ, List, [], ◌∷◌, ◌++◌, fold, length, take, zero, suc, Some}
use Rattle.std.proofs.Common.{refl, sym, ap, subst, ◌∙◌, arith}
use Rattle.std.specs.Prelude.{slice_get}
use Rattle.std.proofs.lemmas.List.{length-append}
use Rattle.std.proofs.lemmas.Option.{none-some, same_Some}
use Rattle.pc_entity.specs.Lists.{Kept}
use Rattle.pc_entity.proofs.Growing.{append_kept, kept_refl, kept_trans, slice_get-append_seam, take-next}
use Rattle.pc_inline_counts.specs.declared.count.NodeCount.{NodeCount}
use Rattle.pc_inline_counts.specs.Counts.{after_nodes, count_at, count_or, counts_from}
use Rattle.pc_inline_counts.proofs.FollowsLemmas.{GoesOn, goes_on_after, goes_on_same, goes_on_twice}

-- the counts of one item more
counts_push : {A : Type 0} (count : List NodeCount → A → NodeCount) (earlier : List NodeCount) (xs : List A) (x : A)
    → counts_from count earlier (xs ++ x ∷ [])
    ≡ counts_from count earlier xs ++ count (counts_from count earlier xs) x ∷ []
counts_push count earlier [] x = refl
counts_push count earlier (y ∷ xs) x = counts_push count (earlier ++ count earlier y ∷ []) xs x

-- one item further: its count is made of those before
pub counts_further : {A : Type 0} (count : List NodeCount → A → NodeCount) (xs : List A) (x : A)
    (counts : List NodeCount) (c : NodeCount) → counts ≡ counts_from count [] xs → c ≡ count counts x
    → counts ++ c ∷ [] ≡ counts_from count [] (xs ++ x ∷ [])
counts_further count xs x counts c are is =
    let here : c ≡ count (counts_from count [] xs) x = is ∙ ap (λ cs. count cs x) are in
    (λ i. are i ++ here i ∷ []) ∙ sym (counts_push count [] xs x)

-- a fold over one item more
fold_push : {A B : Type 0} (f : B → A → B) (b : B) (xs : List A) (x : A) → fold f b (xs ++ x ∷ []) ≡ f (fold f b xs) x
fold_push f b [] x = refl
fold_push f b (y ∷ xs) x = fold_push f (f b y) xs x

-- a fold one item further
pub fold_further : {A B : Type 0} (f : B → A → B) (b : B) (xs : List A) (i : ℕ) (x : A) → slice_get xs i ≡ Some x
    → (c d : B) → c ≡ fold f b (take i xs) → d ≡ f c x → d ≡ fold f b (take (i + 1) xs)
fold_further f b xs i x at c d so is =
    is ∙ ap (λ e. f e x) so ∙ sym (fold_push f b (take i xs) x) ∙ ap (fold f b) (sym (take-next xs i x at))

-- a count goes on as more comes after it
pub fold_goes_on : {A : Type 0} (count : A → NodeCount) (c : NodeCount) (xs : List A)
    → GoesOn c (fold (λ d x. after_nodes d (count x)) c xs)
fold_goes_on count c [] = goes_on_same c
fold_goes_on count c (x ∷ xs) =
    goes_on_twice c (after_nodes c (count x)) (fold (λ d y. after_nodes d (count y)) (after_nodes c (count x)) xs)
    (goes_on_after c (count x)) (fold_goes_on count (after_nodes c (count x)) xs)

module _ {A : Type 0} (count : List NodeCount → A → NodeCount) where
  -- the counts before stay as later ones are made
  counts_kept : (earlier : List NodeCount) (xs : List A) → Kept earlier (counts_from count earlier xs)
  counts_kept earlier [] = kept_refl earlier
  counts_kept earlier (x ∷ xs) =
      kept_trans earlier (earlier ++ count earlier x ∷ []) (counts_from count (earlier ++ count earlier x ∷ []) xs)
      (append_kept earlier (count earlier x ∷ [])) (counts_kept (earlier ++ count earlier x ∷ []) xs)

  -- the count of an item is made of the counts of those before it
  pub record IsMade (all : List NodeCount) (n : ℕ) (x : A) : Type 0 where
    pub before : List NodeCount
    pub kept : Kept before all
    pub many : length before ≡ n
    pub is : count_at all n ≡ count before x

  -- the same behind some counts
  count_from : (earlier : List NodeCount) (xs : List A) (k : ℕ) (x : A) → slice_get xs k ≡ Some x
      → IsMade (counts_from count earlier xs) (length earlier + k) x
  count_from earlier [] k x at = absurd (none-some x at)
  count_from earlier (y ∷ xs) zero x at = record {
    before = earlier;
    kept = counts_kept earlier (y ∷ xs);
    many = omega arith;
    is = ap count_or (counts_kept (earlier ++ count earlier y ∷ []) xs (length earlier + 0) (count earlier x)
        (subst (λ m. slice_get (earlier ++ count earlier y ∷ []) m ≡ Some (count earlier x)) (omega arith)
        (slice_get-append_seam earlier (count earlier y) [] ∙ ap (λ z. Some (count earlier z)) (same_Some y x at))));
  }
  count_from earlier (y ∷ xs) (suc k) x at =
      subst (λ m. IsMade (counts_from count (earlier ++ count earlier y ∷ []) xs) m x) grow
      (count_from (earlier ++ count earlier y ∷ []) xs k x at)
    where
      grow : length (earlier ++ count earlier y ∷ []) + k ≡ length earlier + suc k
      grow = omega (arith, length-append earlier (count earlier y ∷ []))

  -- there are as many counts as items
  counts_from_length : (earlier : List NodeCount) (xs : List A)
      → length (counts_from count earlier xs) ≡ length earlier + length xs
  counts_from_length earlier [] = omega arith
  counts_from_length earlier (x ∷ xs) =
      omega
      (arith, counts_from_length (earlier ++ count earlier x ∷ []) xs, length-append earlier (count earlier x ∷ []))

  -- there are as many counts as items of a list
  pub counts_length : (xs : List A) → length (counts_from count [] xs) ≡ length xs
  counts_length xs = omega (arith, counts_from_length [] xs)

  -- so it is of each item
  pub count_made : (xs : List A) (n : ℕ) (x : A) → slice_get xs n ≡ Some x → IsMade (counts_from count [] xs) n x
  count_made xs n x at =
      let first : 0 + n ≡ n = omega arith in
      subst (λ m. IsMade (counts_from count [] xs) m x) first (count_from [] xs n x at)

-- what is in a list is found there
found_in : {A : Type 0} (xs : List A) (n : ℕ) → n < length xs → (x : A) × (slice_get xs n ≡ Some x)
found_in [] n within = absurd (omega (arith, within))
found_in (x ∷ xs) zero within = (x, refl)
found_in (x ∷ xs) (suc n) within = found_in xs n (omega (arith, within))

-- what is kept is found where it was
pub kept_at : {A : Type 0} (xs ys : List A) → Kept xs ys → (n : ℕ) → n < length xs → slice_get xs n ≡ slice_get ys n
kept_at xs ys kept n within =
    let x = found_in xs n within in
    x.1 ∙ sym (kept n x.0 x.1)
