-- A set of strings against the list of texts that a contract sees.
use Rattle.std.proofs.Common.{◌≡◌, ℕ, true, List, [], ◌∷◌, Some, String, Contains, map, refl, sym, ap, ◌∙◌, get_or}
use Rattle.std.specs.Prelude.{slice_get, position}
use Rattle.std.specs.Option.{option_map}
use Rattle.std.specs.List.{list_any, IsDistinct}
use Rattle.std.specs.Str.{bytes_eq}
use Rattle.std.specs.String.{string_bytes, string_eq}
use Rattle.std.proofs.lemmas.List.Quantifiers.{position-Some}
use Rattle.std.proofs.lemmas.Map.Keys.{any_passes_from_place}
use Rattle.std.proofs.lemmas.Option.{none-some, slice_get-get_or, slice_get-map}
use Rattle.std.proofs.lemmas.Slice.Eq.{bytes_eq-Decides}
use Rattle.pc_entity.specs.Lists.{AreDistinct}
use Rattle.pc_entity.specs.Exact.{same_texts}
use Rattle.pc_entity.proofs.Distinct.{are_distinct, behind}

-- strings with the same bytes are equal
string_eq-same : {Y : Type 0} (x y : String Y) → string_bytes x ≡ string_bytes y → string_eq x y ≡ true
string_eq-same x y h = (bytes_eq-Decides (string_bytes x) (string_bytes y)).1 h

-- an item of a list stands at a place
place : {A : Type 0} (xs : List A) (x : A) → Contains xs x → (i : ℕ) × (slice_get xs i ≡ Some x)
place xs x h = (h.0, slice_get-get_or xs h.0 x h.1 ∙ ap Some h.2)

module _ {Y : Type 0} (keys : List (String Y)) where
  -- no text stands at two places
  pub texts_distinct : IsDistinct string_eq keys → AreDistinct (map string_bytes keys)
  texts_distinct distinct = are_distinct string_eq string_bytes string_eq-same keys distinct

  -- the text at the place of an equal string
  pub string_at : (i : ℕ) (k text : String Y) → slice_get keys i ≡ Some k → string_eq text k ≡ true
      → slice_get (map string_bytes keys) i ≡ Some (string_bytes text)
  string_at i k text at same =
      slice_get-map string_bytes keys i
      ∙ ap (option_map string_bytes) at
      ∙ ap Some (sym (same_texts (string_bytes text) (string_bytes k) same))

  -- the text at the place that a look-up found
  pub text_at_position : (text : List ℕ) (i : ℕ) → position (λ k. bytes_eq text (string_bytes k)) keys ≡ Some i
      → slice_get (map string_bytes keys) i ≡ Some text
  text_at_position text i found = by keys refl
    where
      by : (ks : List (String Y)) → keys ≡ ks → slice_get (map string_bytes keys) i ≡ Some text
      by [] e = absurd (none-some i (sym (ap (position (λ k. bytes_eq text (string_bytes k))) e) ∙ found))
      by (k ∷ ks) e =
          let first = position-Some (λ s. bytes_eq text (string_bytes s)) keys i k found in
          slice_get-map string_bytes keys i
          ∙ ap (option_map string_bytes) (slice_get-get_or keys i k first.0)
          ∙ ap Some (sym (same_texts text (string_bytes (get_or keys i k)) first.1))

  -- a text that is held is found
  pub found_text : (text : List ℕ) → Contains (map string_bytes keys) text
      → list_any (λ k. bytes_eq text (string_bytes k)) keys ≡ true
  found_text text h =
      let at = place (map string_bytes keys) text h in
      let b = behind string_bytes keys at.0 text at.1 in
      any_passes_from_place (λ k. bytes_eq text (string_bytes k)) keys at.0 b.0 b.1
      ((bytes_eq-Decides text (string_bytes b.0)).1 (sym b.2))
