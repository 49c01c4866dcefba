-- Lists that are gone through an item at a time.
use Rattle.std.proofs.Common.{◌≡◌, ◌+◌, ℕ, List, [], ◌∷◌, ◌++◌, Some, refl, sym, ap, ◌∙◌, take}
use Rattle.std.specs.Prelude.{slice_get, map}
use Rattle.std.specs.List.{Contains, flat_map}
use Rattle.std.specs.Prelude.{replicate}
use Rattle.std.proofs.lemmas.List.{map-append, append-nil, replicate-append-replicate}
use Rattle.std.proofs.lemmas.List.Concat.{flat_map-append}
use Rattle.std.proofs.lemmas.Option.{get_or_from_slice_get, slice_get-get_or, slice_get_within}
use Rattle.pc_entity.proofs.Growing.{take-next}
use Rattle.pc_types.specs.declared.module_record.ModuleRecord.{ModuleRecord}
use Rattle.pc_info.specs.declared.initializer.GlobalInitializer.{GlobalInitializer}
use Rattle.pc_analysis_imports.specs.declared.source.Instance.{Instance}
use Rattle.pc_analysis_imports.specs.declared.source.Source.{Source}
use Rattle.pc_analysis_imports.specs.Followed.{instances_after, with_step}
use Rattle.pc_analysis_imports.specs.Marked.{with_source, with_sources}
use Rattle.pc_analysis_imports.specs.Marks.{Marks}

-- an item that stands at a place is contained, and the other way round
pub contained : {A : Type 0} (xs : List A) (n : ℕ) (x : A) → slice_get xs n ≡ Some x → Contains xs x
contained xs n x at = (n, slice_get_within xs n x at, get_or_from_slice_get xs n x x at)

pub placed : {A : Type 0} (xs : List A) (x : A) → Contains xs x → (n : ℕ) × (slice_get xs n ≡ Some x)
placed xs x inside = (inside.0, slice_get-get_or xs inside.0 x inside.1 ∙ ap Some inside.2)

-- what a function gives of the items so far, with the item here
pub mapped_next : {A B : Type 0} (f : A → B) (xs : List A) (i : ℕ) (x : A) → slice_get xs i ≡ Some x
    → map f (take i xs) ++ f x ∷ [] ≡ map f (take (i + 1) xs)
mapped_next f xs i x at = sym (ap (map f) (take-next xs i x at) ∙ map-append f (take i xs) (x ∷ []))

pub flat_next : {A B : Type 0} (f : A → List B) (xs : List A) (i : ℕ) (x : A) → slice_get xs i ≡ Some x
    → flat_map f (take (i + 1) xs) ≡ flat_map f (take i xs) ++ f x
flat_next f xs i x at =
    ap (flat_map f) (take-next xs i x at) ∙ flat_map-append f (take i xs) (x ∷ [])
    ∙ ap (λ l. flat_map f (take i xs) ++ l) (append-nil (f x))

module _ (records : List ModuleRecord) where
  after_one : (made : List Instance) (xs : List GlobalInitializer) (x : GlobalInitializer)
      → instances_after records made (xs ++ x ∷ []) ≡ with_step records (instances_after records made xs) x
  unfolding instances_after
  after_one made [] x = refl
  after_one made (y ∷ xs) x = after_one (with_step records made y) xs x

  pub after_none : (made : List Instance) → instances_after records made [] ≡ made
  unfolding instances_after
  after_none made = refl

  -- the instances after one step more
  pub after_next : (made : List Instance) (xs : List GlobalInitializer) (i : ℕ) (x : GlobalInitializer)
      → slice_get xs i ≡ Some x
      → instances_after records made (take (i + 1) xs) ≡ with_step records (instances_after records made (take i xs)) x
  after_next made xs i x at =
      ap (instances_after records made) (take-next xs i x at) ∙ after_one made (take i xs) x

pub marked_none : (s : Marks) → with_sources s [] ≡ s
unfolding with_sources
marked_none s = refl

pub marked_one : (s : Marks) (x : Source) → with_sources s (x ∷ []) ≡ with_source s x
unfolding with_sources
marked_one s x = refl

-- the sources of two lists, one list after the other
pub marked_both : (s : Marks) (xs ys : List Source) → with_sources s (xs ++ ys) ≡ with_sources (with_sources s xs) ys
unfolding with_sources
marked_both s [] ys = refl
marked_both s (x ∷ xs) ys = marked_both (with_source s x) xs ys

-- one source more
pub marked_next : {A : Type 0} (f : A → Source) (xs : List A) (i : ℕ) (x : A) (s now next : Marks)
    → slice_get xs i ≡ Some x → now ≡ with_sources s (map f (take i xs)) → next ≡ with_source now (f x)
    → next ≡ with_sources s (map f (take (i + 1) xs))
marked_next f xs i x s now next at so_far is =
    is ∙ ap (λ m. with_source m (f x)) so_far ∙ sym (marked_one (with_sources s (map f (take i xs))) (f x))
    ∙ sym (marked_both s (map f (take i xs)) (f x ∷ [])) ∙ ap (with_sources s) (mapped_next f xs i x at)

-- those of one item more
pub marked_more : {A : Type 0} (f : A → List Source) (xs : List A) (i : ℕ) (x : A) (s now next : Marks)
    → slice_get xs i ≡ Some x → now ≡ with_sources s (flat_map f (take i xs)) → next ≡ with_sources now (f x)
    → next ≡ with_sources s (flat_map f (take (i + 1) xs))
marked_more f xs i x s now next at so_far is =
    is ∙ ap (λ m. with_sources m (f x)) so_far ∙ sym (marked_both s (flat_map f (take i xs)) (f x))
    ∙ ap (with_sources s) (sym (flat_next f xs i x at))

-- a list to which what a function gives of the item here was added
pub pushed_next : {A B : Type 0} (f : A → B) (xs : List A) (i : ℕ) (x : A) (now next : List B) (y : B)
    → slice_get xs i ≡ Some x → now ≡ map f (take i xs) → y ≡ f x → next ≡ now ++ y ∷ []
    → next ≡ map f (take (i + 1) xs)
pushed_next f xs i x now next y at so_far is pushed =
    pushed ∙ (λ z. so_far z ++ is z ∷ []) ∙ mapped_next f xs i x at

-- the instances after one step more, as a loop has them
pub instances_next : (records : List ModuleRecord) (xs : List GlobalInitializer) (i : ℕ) (x : GlobalInitializer)
    (now next : List Instance) → slice_get xs i ≡ Some x → now ≡ instances_after records [] (take i xs)
    → next ≡ with_step records now x → next ≡ instances_after records [] (take (i + 1) xs)
instances_next records xs i x now next at so_far is =
    is ∙ ap (λ made. with_step records made x) so_far ∙ sym (after_next records [] xs i x at)

-- one more of the same
pub replicate-push : {A : Type 0} (n : ℕ) (x : A) → replicate n x ++ x ∷ [] ≡ replicate (n + 1) x
replicate-push n x = replicate-append-replicate n 1 x

pub pushed_same : {A : Type 0} (xs ys : List A) (n : ℕ) (x y : A) → xs ≡ replicate n x → y ≡ x → ys ≡ xs ++ y ∷ []
    → ys ≡ replicate (n + 1) x
pushed_same xs ys n x y same is pushed = pushed ∙ (λ z. same z ++ is z ∷ []) ∙ replicate-push n x
