-- Look-ups by name in a list of names and values.
use Rattle.std.proofs.Common.{◌≡◌, ℕ, Bool, true, false, List, [], ◌∷◌, ◌++◌, None, Some, if◌then◌else◌, refl, sym, ap}
use Rattle.std.proofs.Common.{◌∙◌}
use Rattle.std.specs.Str.{bytes_eq}
use Rattle.std.proofs.lemmas.Option.{none-some}
use Rattle.std.proofs.lemmas.Slice.Eq.{bytes_eq-Decides}
use Rattle.pc_entity.specs.Lists.{value_of, with_value}

-- a name equals itself
pub bytes_eq-refl : (name : List ℕ) → bytes_eq name name ≡ true
bytes_eq-refl name = (bytes_eq-Decides name name).1 refl

module _ {V : Type 0} where
  -- a name that had a value has it still once entries were appended
  pub value_of-append_held : (name : List ℕ) (es fs : List (List ℕ × V)) (v : V)
      → value_of name es ≡ Some v → value_of name (es ++ fs) ≡ Some v
  value_of-append_held name [] fs v h = absurd (none-some v h)
  value_of-append_held name (e ∷ es) fs v h = by (bytes_eq name e.0) (value_of-append_held name es fs v) h
    where
      by : (b : Bool) → (value_of name es ≡ Some v → value_of name (es ++ fs) ≡ Some v)
          → (if b then Some e.1 else value_of name es) ≡ Some v
          → (if b then Some e.1 else value_of name (es ++ fs)) ≡ Some v
      by true rest k = k
      by false rest k = rest k

  -- a name that had none has the value that the appended entries give it
  pub value_of-append_absent : (name : List ℕ) (es fs : List (List ℕ × V))
      → value_of name es ≡ None → value_of name (es ++ fs) ≡ value_of name fs
  value_of-append_absent name [] fs h = refl
  value_of-append_absent name (e ∷ es) fs h = by (bytes_eq name e.0) (value_of-append_absent name es fs) h
    where
      by : (b : Bool) → (value_of name es ≡ None → value_of name (es ++ fs) ≡ value_of name fs)
          → (if b then Some e.1 else value_of name es) ≡ None
          → (if b then Some e.1 else value_of name (es ++ fs)) ≡ value_of name fs
      by true rest k = absurd (none-some e.1 (sym k))
      by false rest k = rest k

  -- a name has the value that was put at it
  pub value_of-with_value_same : (es : List (List ℕ × V)) (name : List ℕ) (v : V)
      → value_of name (with_value es name v) ≡ Some v
  value_of-with_value_same [] name v = ap (λ b. if b then Some v else None) (bytes_eq-refl name)
  value_of-with_value_same (e ∷ es) name v = by (bytes_eq name e.0) refl (value_of-with_value_same es name v)
    where
      by : (b : Bool) → bytes_eq name e.0 ≡ b → value_of name (with_value es name v) ≡ Some v
          → value_of name (if b then (e.0, v) ∷ es else e ∷ with_value es name v) ≡ Some v
      by true h rest = ap (λ t. if t then Some v else value_of name es) h
      by false h rest = ap (λ t. if t then Some e.1 else value_of name (with_value es name v)) h ∙ rest

  -- another name keeps what it had
  pub value_of-with_value_other : (es : List (List ℕ × V)) (name other : List ℕ) (v : V)
      → bytes_eq other name ≡ false → value_of other (with_value es name v) ≡ value_of other es
  value_of-with_value_other [] name other v apart = ap (λ b. if b then Some v else None) apart
  value_of-with_value_other (e ∷ es) name other v apart =
      by (bytes_eq name e.0) refl (value_of-with_value_other es name other v apart)
    where
      by : (b : Bool) → bytes_eq name e.0 ≡ b → value_of other (with_value es name v) ≡ value_of other es
          → value_of other (if b then (e.0, v) ∷ es else e ∷ with_value es name v) ≡ value_of other (e ∷ es)
      by true h rest =
          let here : name ≡ e.0 = (bytes_eq-Decides name e.0).0 h in
          let missed : bytes_eq other e.0 ≡ false = ap (bytes_eq other) (sym here) ∙ apart in
          ap (λ t. if t then Some v else value_of other es) missed
          ∙ sym (ap (λ t. if t then Some e.1 else value_of other es) missed)
      by false h rest = ap (λ r. if bytes_eq other e.0 then Some e.1 else r) rest
