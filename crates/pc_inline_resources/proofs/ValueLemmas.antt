-- Values along names.
use Rattle.std.proofs.Common.{◌≡◌, ℕ, List, [], ◌∷◌, ◌++◌, Option, None, Some, refl, sym, ap}
use Rattle.std.specs.Prelude.{option_and_then}
use Rattle.std.specs.Option.{option_map}
use Rattle.pc_types.specs.TypeTree.{TypeTree}
use Rattle.pc_spec_reading.specs.Member.{a_value, member, resource_among, resource_at, type_identity, value_in}
use Rattle.pc_spec_reading.specs.Member.{value_of_member}
use Rattle.pc_spec_reading.specs.Value.{NamedValues, Value, instance_value, made_instance, value_named}
use Rattle.pc_inline_resources.specs.Walked.{value_along}

module _ (name : List ℕ) where
  one_more : (o : Option Value) → option_and_then (value_along []) o ≡ o
  one_more None = refl
  one_more (Some v) = refl

  -- one name further
  pub along_more : (prefix : List (List ℕ)) (v : Value)
      → value_along (prefix ++ name ∷ []) v ≡ option_and_then (value_in name) (value_along prefix v)
  along_more [] v = one_more (value_in name v)
  along_more (x ∷ xs) v = by (value_in x v) (along_more xs)
    where
      by : (o : Option Value)
          → ((w : Value) → value_along (xs ++ name ∷ []) w ≡ option_and_then (value_in name) (value_along xs w))
          → option_and_then (value_along (xs ++ name ∷ [])) o
          ≡ option_and_then (value_in name) (option_and_then (value_along xs) o)
      by None rest = refl
      by (Some w) rest = rest w

-- the resource at the end of names is what stands there
pub resource_along : (names : List (List ℕ)) (v : Value)
    → resource_at names v ≡ option_and_then type_identity (value_along names v)
unfolding resource_at
resource_along [] v = refl
resource_along (x ∷ xs) v = by (value_in x v) (resource_along xs)
  where
    by : (o : Option Value)
        → ((w : Value) → resource_at xs w ≡ option_and_then type_identity (value_along xs w))
        → option_and_then (resource_at xs) o ≡ option_and_then type_identity (option_and_then (value_along xs) o)
    by None rest = refl
    by (Some w) rest = rest w

-- what an instance that was made has under a name
pub made_value : (name : List ℕ) (vs : NamedValues) (tree : TypeTree)
    → value_in name (instance_value (made_instance vs tree)) ≡ value_named name vs
unfolding member
made_value name vs tree = by (value_named name vs)
  where
    by : (o : Option Value) → option_and_then value_of_member (option_map a_value o) ≡ o
    by None = refl
    by (Some v) = refl

-- the resource among values is that in an instance of them
pub among_at : (vs : NamedValues) (tree : TypeTree) (names : List (List ℕ))
    → resource_among vs names ≡ resource_at names (instance_value (made_instance vs tree))
unfolding resource_among resource_at
among_at vs tree [] = refl
among_at vs tree (x ∷ xs) = ap (option_and_then (resource_at xs)) (sym (made_value x vs tree))
