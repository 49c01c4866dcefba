-- What is known of the types of adapters.
use Rattle.std.specs.Prelude.{◌≡◌, ℕ, List, Some, slice_get}
use Rattle.pc_numbers.specs.declared.runtime.ResourceIndex.{ResourceIndex}
use Rattle.pc_types.specs.TypeTree.{Identity, TypeTree}
use Rattle.pc_types_lists.specs.Types.{Types}
use Rattle.pc_dfg.specs.declared.adapter.Adapter.{Adapter}
use Rattle.pc_dfg.specs.declared.dfg.ComponentDfg.{ComponentDfg}
use Rattle.pc_spec_adapt.specs.Asked.{FunctionFacts, function_facts}
use Rattle.pc_adapt.specs.Asked.{AreTyped, HasTypes, HoldsTypes}

-- the types of an adapter have trees, of which these are the facts
pub record HasFacts (b : Types) (x : Adapter) (lift lower : FunctionFacts) : Type 0 where
  pub who : ResourceIndex → Identity
  pub lift_tree : TypeTree
  pub lower_tree : TypeTree
  pub typed : HasTypes b who x lift_tree lower_tree
  pub lift_is : lift ≡ function_facts lift_tree
  pub lower_is : lower ≡ function_facts lower_tree

-- the types of each adapter have the facts of its number
unfoldable pub AreFacts : Types → List Adapter → (lift lower : ℕ → FunctionFacts) → Type 0
AreFacts b xs lift lower = (a : ℕ) (x : Adapter) → slice_get xs a ≡ Some x → HasFacts b x (lift a) (lower a)

-- the types of the adapter of a number are held and have facts
pub record IsKnown (b : Types) (xs : List Adapter) (a : ℕ) : Type 0 where
  pub adapter : Adapter
  pub at : slice_get xs a ≡ Some adapter
  pub held : HoldsTypes b adapter
  pub lift : FunctionFacts
  pub lower : FunctionFacts
  pub facts : HasFacts b adapter lift lower

-- the types of all adapters are held and have facts
pub record AreKnown (b : Types) (xs : List Adapter) : Type 0 where
  pub held : (a : ℕ) (x : Adapter) → slice_get xs a ≡ Some x → HoldsTypes b x
  pub lift : ℕ → FunctionFacts
  pub lower : ℕ → FunctionFacts
  pub facts : AreFacts b xs lift lower

-- the types of all adapters have trees
pub record HaveTrees (b : Types) (g : ComponentDfg) : Type 0 where
  pub who : ResourceIndex → Identity
  pub lift : ℕ → TypeTree
  pub lower : ℕ → TypeTree
  pub typed : AreTyped b who g lift lower
