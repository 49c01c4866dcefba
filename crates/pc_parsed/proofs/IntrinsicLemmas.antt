-- The type of an intrinsic by its name, and parameters against it.
use Rattle.std.proofs.Common.{◌≡◌, ℕ, suc, Bool, true, false, ◌||◌, ◌&&◌, List, [], ◌∷◌, Option, Some, None, length}
use Rattle.std.proofs.Common.{refl, ap, ◌∙◌, true≢false, if◌then◌else◌}
use Rattle.std.specs.List.{Contains, list_any, zip}
use Rattle.std.specs.Str.{bytes_eq}
use Rattle.std.proofs.lemmas.Map.Views.{Contains-from_any}
use Rattle.std.proofs.lemmas.Slice.Eq.{bytes_eq-Decides}
use Rattle.pc_entity.specs.Lists.{value_of}
use Rattle.pc_types.specs.declared.parsed.PrimType.{PrimType}
use Rattle.pc_types.specs.declared.parsed.ValType.{ValType}
use Rattle.pc_types.specs.declared.types.InterfaceType.{InterfaceType}
use Rattle.pc_types.specs.Intrinsic.{intrinsic_names}
use Rattle.pc_types.specs.IntrinsicType.{intrinsic_types}
use Rattle.pc_parsed.specs.Interface.{are_params, is_integer, type_of}

-- where no name is this one, no value stands at it
no_value : {V : Type 0} (name : List ℕ) (names : List (List ℕ)) (vs : List V)
    → list_any (bytes_eq name) names ≡ false → value_of name (zip names vs) ≡ None
no_value name [] vs h = refl
no_value name (n ∷ ns) [] h = refl
no_value {V} name (n ∷ ns) (v ∷ vs) h = by (bytes_eq name n) (λ k. no_value name ns vs k) h
  where
    by : (b : Bool) → (list_any (bytes_eq name) ns ≡ false → value_of name (zip ns vs) ≡ None)
        → (b || list_any (bytes_eq name) ns) ≡ false
        → (if b then Some v else value_of name (zip ns vs)) ≡ None
    by true later k = absurd (true≢false k)
    by false later k = later k

-- no value stands at a name that isn't there
absent : {V : Type 0} (name : List ℕ) (names : List (List ℕ)) (vs : List V)
    → (Contains names name → ⊥) → value_of name (zip names vs) ≡ None
absent name names vs none = by (list_any (bytes_eq name) names) refl
  where
    by : (b : Bool) → list_any (bytes_eq name) names ≡ b → value_of name (zip names vs) ≡ None
    by true found = absurd (none (Contains-from_any (λ x y same. (bytes_eq-Decides x y).0 same) name names found))
    by false found = no_value name names vs found

-- a name of no intrinsic has no type
pub type_of-unknown : (name : List ℕ) → (Contains intrinsic_names name → ⊥) → type_of name ≡ None
type_of-unknown name none = absent name intrinsic_names intrinsic_types none

-- parameters that are more or fewer than what is taken aren't it
pub params_apart : (prims : List (Option PrimType)) (taken : List InterfaceType) (params : List (List ℕ × ValType))
    → (length taken ≡ length params → ⊥) → are_params prims taken params ≡ false
params_apart prims [] [] apart = absurd (apart refl)
params_apart prims [] (x ∷ xs) apart = refl
params_apart prims (i ∷ is) [] apart = refl
params_apart prims (i ∷ is) (x ∷ xs) apart =
    ap (λ (b : Bool). is_integer prims i x.1 && b) (params_apart prims is xs (λ same. apart (ap suc same)))
    ∙ none (is_integer prims i x.1)
  where
    none : (b : Bool) → (b && false) ≡ false
    none true = refl
    none false = refl
