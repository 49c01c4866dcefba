-- Look-ups in a list with a default.
use Rattle.std.proofs.Common.{◌≡◌, ◌≢◌, ℕ, ◌+◌, ◌-◌, ◌<◌, List, [], ◌∷◌, ◌++◌, length, replicate, unwrap_or, refl, ap}
use Rattle.std.proofs.Common.{◌∙◌, arith, length-append, zero, suc}
use Rattle.std.specs.Prelude.{slice_get}
use Rattle.std.proofs.lemmas.List.{length-replicate}
use Rattle.pc_entity.specs.SecondaryMap.{Defaulted, value_at, filled, with_value_at}
use Rattle.pc_entity.proofs.Growing.{slice_get-set_same, slice_get-set_other}

-- past the end of a list stands the default, however many defaults are appended
default_behind : {V : Type 0} (d : V) (xs : List V) (n key : ℕ)
    → unwrap_or (slice_get (xs ++ replicate n d) key) d ≡ unwrap_or (slice_get xs key) d
default_behind d [] zero key = refl
default_behind d [] (suc n) zero = refl
default_behind d [] (suc n) (suc key) = default_behind d [] n key
default_behind d (x ∷ xs) n zero = refl
default_behind d (x ∷ xs) n (suc key) = default_behind d xs n key

module _ {V : Type 0} (m : Defaulted V) where
  -- filling up makes room for the place before the new length
  room : (n : ℕ) → n < length (filled m (n + 1))
  room n =
      let more = n + 1 - length m.items in
      omega (arith, length-append m.items (replicate more m.default), length-replicate more m.default)

  -- filling up changes no value
  pub value-filled : (n key : ℕ) → unwrap_or (slice_get (filled m n) key) m.default ≡ value_at m key
  value-filled n key = default_behind m.default m.items (n - length m.items) key

  -- a number has the value that was set
  pub value_at-set_same : (key : ℕ) (value : V) → value_at (with_value_at m key value) key ≡ value
  value_at-set_same key value =
      ap (λ o. unwrap_or o m.default) (slice_get-set_same (filled m (key + 1)) key value (room key))

  -- another number keeps its value
  pub value_at-set_other : (key other : ℕ) (value : V) → other ≢ key
      → value_at (with_value_at m key value) other ≡ value_at m other
  value_at-set_other key other value apart =
      ap (λ o. unwrap_or o m.default) (slice_get-set_other (filled m (key + 1)) key other value apart)
      ∙ value-filled (key + 1) other
