-- Lists of imports, a step at a time.
use Rattle.std.proofs.Common.{◌≡◌, ◌+◌, ◌<◌, ℕ, zero, suc, Bool, true, false, List, [], ◌∷◌, ◌++◌, length}
use Rattle.std.proofs.Common.{take, get_or, count_by, if◌then◌else◌, Some, refl, sym, ap, ◌∙◌}
use Rattle.std.proofs.Common.{append_assoc, arith, cond}
use Rattle.std.specs.Prelude.{slice_get, option_map}
use Rattle.std.proofs.lemmas.List.{append-nil}
use Rattle.std.proofs.lemmas.List.Sums.{count_by_more_no, count_by_more_yes, sum_by-cons}
use Rattle.pc_types.specs.declared.parsed.CoreEntity.{CoreEntity}
use Rattle.pc_types.specs.declared.parsed.CoreKind.{CoreKind}
use Rattle.pc_types.specs.Record.{entity_at, imports_kind, kind_of, places_from}
use Rattle.pc_types_record.specs.Indexed.{entities_after}

-- the count of what was done, with the item here
pub count_here : {A : Type 0} (p : A → Bool) (xs : List A) (i : ℕ) (x : A) → i < length xs → x ≡ get_or xs i x
    → (if p x then count_by p (take i xs) + 1 else count_by p (take i xs)) ≡ count_by p (take (i + 1) xs)
count_here p xs i x within is = by (p x) refl
  where
    by : (b : Bool) → p x ≡ b
        → (if b then count_by p (take i xs) + 1 else count_by p (take i xs)) ≡ count_by p (take (i + 1) xs)
    by true h = sym (count_by_more_yes p xs i x within (ap p (sym is) ∙ h))
    by false h = sym (count_by_more_no p xs i x within (ap p (sym is) ∙ h))

-- as many imports of a kind have a place as there are
pub places_count : (k : CoreKind) (first : ℕ) (is : List (List ℕ × List ℕ × CoreEntity))
    → length (places_from k first is) ≡ count_by (imports_kind k) is
places_count k first [] = refl
places_count k first (i ∷ is) =
    by (imports_kind k i) (places_from k (first + 1) is)
    ∙ ap (λ n. cond (imports_kind k i) 1 0 + n) (places_count k (first + 1) is)
    ∙ sym (sum_by-cons (λ j. cond (imports_kind k j) 1 0) i is)
  where
    by : (b : Bool) (places : List ℕ) → length (if b then first ∷ places else places) ≡ cond b 1 0 + length places
    by true places = omega arith
    by false places = omega arith

-- an import is the entity of its kind with as many others of that kind before it
pub entity_here : (before is : List (List ℕ × List ℕ × CoreEntity)) (place : ℕ)
    → slice_get (entities_after before is) place
    ≡ option_map (λ (i : List ℕ × List ℕ × CoreEntity). entity_at (kind_of i.2)
    (count_by (imports_kind (kind_of i.2)) (before ++ take place is))) (slice_get is place)
entity_here before [] place = refl
entity_here before (i ∷ is) zero =
    ap (λ (xs : List (List ℕ × List ℕ × CoreEntity)). Some
    (entity_at (kind_of i.2) (count_by (imports_kind (kind_of i.2)) xs))) (sym (append-nil before))
entity_here before (i ∷ is) (suc place) =
    entity_here (before ++ i ∷ []) is place
    ∙ ap (λ (xs : List (List ℕ × List ℕ × CoreEntity)). option_map
    (λ (j : List ℕ × List ℕ × CoreEntity). entity_at (kind_of j.2) (count_by (imports_kind (kind_of j.2)) xs))
    (slice_get is place))
    (append_assoc before (i ∷ []) (take place is))
