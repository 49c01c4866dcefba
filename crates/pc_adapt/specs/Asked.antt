-- Which adapters of a graph lack an option, by their types.
use Rattle.std.specs.Prelude.{◌≡◌, ◌<◌, ℕ, Bool, true, false, not, ◌&&◌, ◌||◌, length, Some, slice_get}
use Rattle.std.specs.Option.{is_some}
use Rattle.pc_numbers.specs.declared.runtime.ResourceIndex.{ResourceIndex}
use Rattle.pc_types.specs.declared.types.TypeDef.TheVariants as def
use Rattle.pc_types.specs.TypeTree.{Identity, TypeTree}
use Rattle.pc_types_lists.specs.declared.facts.TypeFacts.{TypeFacts}
use Rattle.pc_types_lists.specs.Trees.{HasTree}
use Rattle.pc_types_lists.specs.Types.{Types}
use Rattle.pc_dfg.specs.declared.adapter.Adapter.{Adapter}
use Rattle.pc_dfg.specs.declared.adapter.DataModel.{DataModel}
use Rattle.pc_dfg.specs.declared.adapter.DataModel.TheVariants as side
use Rattle.pc_dfg.specs.declared.dfg.ComponentDfg.{ComponentDfg}
use Rattle.pc_spec_adapt.specs.Asked.{FunctionFacts, function_facts, in_memory}
use Rattle.pc_adapt.specs.declared.facts.FunctionFacts.{FunctionFacts as Facts}

-- the facts of a function type
abbrev pub facts_view : Facts → FunctionFacts
facts_view f = record { params = f.params; results = f.results; is_async = f.async_ }

-- whether a side has what it is asked for: in linear memory a memory, where it takes or gives values through one, and a
-- realloc, where it takes some
abbrev pub side_has_asked : (taken given : TypeFacts) → DataModel → Bool
side_has_asked taken given side.Gc = true
side_has_asked taken given (side.LinearMemory memory realloc) =
    (not (in_memory taken || in_memory given) || is_some memory) && (not (in_memory taken) || is_some realloc)

-- whether both sides of an adapter have what their types ask for
abbrev pub adapter_has_options : (lift lower : FunctionFacts) → Adapter → Bool
adapter_has_options lift lower x =
    side_has_asked lift.params lift.results x.lift_options.data_model
    && side_has_asked lower.results lower.params x.lower_options.data_model

-- the types of an adapter are held
pub record HoldsTypes (b : Types) (x : Adapter) : Type 0 where
  pub lift : x.lift_ty.0 < length b.funcs
  pub lower : x.lower_ty.0 < length b.funcs

-- the types of all adapters are held
abbrev pub HoldTypes : Types → ComponentDfg → Type 0
HoldTypes b g = (a : ℕ) (x : Adapter) → slice_get g.adapters a ≡ Some x → HoldsTypes b x

-- the types of an adapter have these trees
pub record HasTypes (b : Types) (who : ResourceIndex → Identity) (x : Adapter) (lift lower : TypeTree) : Type 0 where
  pub lift_tree : HasTree b who (def.ComponentFunc x.lift_ty) lift
  pub lower_tree : HasTree b who (def.ComponentFunc x.lower_ty) lower

-- the types of each adapter have the trees of its number
abbrev pub AreTyped : Types → (ResourceIndex → Identity) → ComponentDfg → (lift lower : ℕ → TypeTree) → Type 0
AreTyped b who g lift lower =
    (a : ℕ) (x : Adapter) → slice_get g.adapters a ≡ Some x → HasTypes b who x (lift a) (lower a)

-- an adapter, with types of these trees, has what they ask for
abbrev pub HasOptions : ComponentDfg → (lift lower : ℕ → TypeTree) → ℕ → Type 0
HasOptions g lift lower a =
    (x : Adapter) → slice_get g.adapters a ≡ Some x
    → adapter_has_options (function_facts (lift a)) (function_facts (lower a)) x ≡ true

-- an adapter is the first that lacks what its types ask for
pub record LacksFirst (g : ComponentDfg) (lift lower : ℕ → TypeTree) (a : ℕ) : Type 0 where
  pub adapter : Adapter
  pub there : slice_get g.adapters a ≡ Some adapter
  pub lacks : adapter_has_options (function_facts (lift a)) (function_facts (lower a)) adapter ≡ false
  pub first : (b : ℕ) → b < a → HasOptions g lift lower b
