-- A type with labels is told by them and by its parts.
use Rattle.std.specs.Prelude.{◌≡◌, ℕ, Bool, true, false, List, [], ◌∷◌, refl}
use Rattle.std.proofs.Common.{ap, sym, true≢false}
use Rattle.pc_entity.specs.Lists.{names_of}
use Rattle.pc_types.specs.declared.types.TypeComponent.{TypeComponent}
use Rattle.pc_types.specs.declared.types.TypeComponentInstance.{TypeComponentInstance}
use Rattle.pc_types.specs.declared.types.TypeFunc.{TypeFunc}
use Rattle.pc_types.specs.declared.types.TypeRecord.{TypeRecord}
use Rattle.pc_types.specs.declared.types.TypeVariant.{TypeVariant}
use Rattle.pc_types_lists.specs.Labels.{component_labels, func_labels, instance_labels, record_labels, variant_labels}
use Rattle.pc_types_lists.specs.Labels.{component_parts, func_parts, instance_parts, record_parts, variant_parts}
use Rattle.pc_types_lists.specs.Labels.{values_of}

-- the first item of a list
abbrev first : {A : Type 0} → A → List A → A
first d [] = d
first d (x ∷ xs) = x

-- the items behind it
abbrev behind : {A : Type 0} → List A → List A
behind [] = []
behind (x ∷ xs) = xs

-- whether there is none
abbrev is_empty : {A : Type 0} → List A → Bool
is_empty [] = true
is_empty (x ∷ xs) = false

-- lists with the same names and the same values are the same list
same_entries : {W : Type 0} (xs ys : List (List ℕ × W)) → names_of xs ≡ names_of ys → values_of xs ≡ values_of ys
    → xs ≡ ys
same_entries [] [] p q = refl
same_entries [] (y ∷ ys) p q = absurd (true≢false (ap is_empty p))
same_entries (x ∷ xs) [] p q = absurd (true≢false (sym (ap is_empty p)))
same_entries (x ∷ xs) (y ∷ ys) p q =
    let rest = same_entries xs ys (ap behind p) (ap behind q) in
    λ i. (first x.0 (p i), first x.1 (q i)) ∷ rest i

-- a function type is told by its labels and parts
pub func_told : (u v : TypeFunc) → func_labels u ≡ func_labels v → func_parts u ≡ func_parts v → u ≡ v
func_told u v p q =
    λ i. record { param_names = p i; params = (q i).0.0; results = (q i).0.1; async_ = (q i).1 }

-- so is a record
pub record_told : (u v : TypeRecord) → record_labels u ≡ record_labels v → record_parts u ≡ record_parts v → u ≡ v
record_told u v p q = λ i. record { fields = same_entries u.fields v.fields p q i }

-- so is a variant
pub variant_told : (u v : TypeVariant) → variant_labels u ≡ variant_labels v → variant_parts u ≡ variant_parts v
    → u ≡ v
variant_told u v p q = λ i. record { cases = same_entries u.cases v.cases p q i }

-- so is an instance type
pub instance_told : (u v : TypeComponentInstance) → instance_labels u ≡ instance_labels v
    → instance_parts u ≡ instance_parts v → u ≡ v
instance_told u v p q = λ i. record { exports = same_entries u.exports v.exports p q i }

-- so is a component type
pub component_told : (u v : TypeComponent) → component_labels u ≡ component_labels v
    → component_parts u ≡ component_parts v → u ≡ v
component_told u v p q = λ i. record {
  imports = same_entries u.imports v.imports (λ j. (p j).0) (λ j. (q j).0) i;
  exports = same_entries u.exports v.exports (λ j. (p j).1) (λ j. (q j).1) i;
}
