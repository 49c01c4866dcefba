-- A map from texts: what is found in it, and what is put into it.
use Rattle.std.proofs.Common.{◌≡◌, ℕ, Bool, true, false, List, [], ◌∷◌, ◌++◌, None, Some, if◌then◌else◌}
use Rattle.std.proofs.Common.{refl, sym, ap}
use Rattle.std.specs.Str.{bytes_eq}
use Rattle.std.specs.Map.{lookup}
use Rattle.std.proofs.lemmas.Option.{none-some}
use Rattle.indexmap.specs.IndexMap.{insert_entry}
use Rattle.pc_entity.specs.Lists.{value_of, with_value}

module _ {V : Type 0} where
  -- a look-up in the map is the look-up of the name
  pub value_of-lookup : (name : List ℕ) (es : List (List ℕ × V)) → value_of name es ≡ lookup (bytes_eq name) es
  value_of-lookup name [] = refl
  value_of-lookup name (e ∷ es) =
      ap (λ rest. if bytes_eq name e.0 then Some e.1 else rest) (value_of-lookup name es)

  -- a value put into the map is put at its name
  pub insert_entry-with_value : (es : List (List ℕ × V)) (name : List ℕ) (value : V)
      → insert_entry bytes_eq es name value ≡ with_value es name value
  insert_entry-with_value [] name value = refl
  insert_entry-with_value (e ∷ es) name value =
      ap (λ rest. if bytes_eq name e.0 then (e.0, value) ∷ es else e ∷ rest) (insert_entry-with_value es name value)

-- a value at an absent name goes last
pub with_value-absent : {V : Type 0} (es : List (List ℕ × V)) (name : List ℕ) (value : V)
    → value_of name es ≡ None → with_value es name value ≡ es ++ (name, value) ∷ []
with_value-absent [] name value h = refl
with_value-absent (e ∷ es) name value h = by (bytes_eq name e.0) (with_value-absent es name value) h
  where
    by : (b : Bool) → (value_of name es ≡ None → with_value es name value ≡ es ++ (name, value) ∷ [])
        → (if b then Some e.1 else value_of name es) ≡ None
        → (if b then (e.0, value) ∷ es else e ∷ with_value es name value) ≡ e ∷ (es ++ (name, value) ∷ [])
    by true rest k = absurd (none-some e.1 (sym k))
    by false rest k = ap (λ l. e ∷ l) (rest k)
