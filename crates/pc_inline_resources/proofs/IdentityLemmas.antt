-- Which resource a type is.
use Rattle.std.proofs.Common.{◌≡◌, ℕ, Bool, true, false, List, None, refl, sym, ap, subst, ◌∙◌}
use Rattle.std.proofs.Common.{true≢false}
use Rattle.std.specs.Prelude.{slice_get, option_and_then}
use Rattle.std.proofs.lemmas.Option.{same_Some}
use Rattle.pc_numbers.specs.declared.runtime.ResourceIndex.{ResourceIndex}
use Rattle.pc_types.specs.declared.module_record.ModuleRecord.{ModuleRecord}
use Rattle.pc_types.specs.declared.type_index.TypeResourceTableIndex.{TypeResourceTableIndex}
use Rattle.pc_types.specs.declared.types.TypeDef.{TypeDef}
use Rattle.pc_types.specs.declared.types.TypeDef.TheVariants as type
use Rattle.pc_types.specs.declared.types.TypeResourceTable.{TypeResourceTable}
use Rattle.pc_types.specs.declared.types.TypeResourceTable.TheVariants as handles
use Rattle.pc_types.specs.TypeTree.{Identity, Resource, TypeTree, abstract, borrow_of, component_of, concrete, enum_of}
use Rattle.pc_types.specs.TypeTree.{error_context, flags_of, func_of, future_of, instance_of, list_of, module_of}
use Rattle.pc_types.specs.TypeTree.{option_of, own_of, primitive, record_of, resource_of, result_of, stream_of}
use Rattle.pc_types.specs.TypeTree.{tuple_of}
use Rattle.pc_types.specs.TypeTree.{variant_of}
use Rattle.pc_types_lists.specs.Trees.{AreHandlesOf, HasTree, NumbersHandlesOf}
use Rattle.pc_types_lists.specs.Types.{Types}
use Rattle.pc_spec_reading.specs.Types.{known_identity}
use Rattle.pc_inline_state.specs.Fits.{Fits}
use Rattle.pc_inline_state.specs.Frames.{Both, both, neither}
use Rattle.pc_inline_state.specs.KnowsSame.{IsResource}
use Rattle.pc_inline_state.specs.Stands.{IsType}
use Rattle.pc_inline_state.specs.Tables.{Tables}
use Rattle.pc_inline_state.proofs.FitsLemmas.{who_fits, who_of}
use Rattle.pc_inline_resources.specs.Walked.{handled, type_resource}

-- whether a type is a resource
abbrev is_handles : TypeDef → Bool
is_handles (type.Resource i) = true
is_handles d = false

-- the number of its handles
abbrev handles_number : TypeDef → ℕ
handles_number (type.Resource i) = i.0
handles_number d = 0

module _ (types : Types) (who : ResourceIndex → Identity) (i : TypeResourceTableIndex) where
  -- where a type is a resource, it isn't another type
  other : (d : TypeDef) → is_handles d ≡ false → type.Resource i ≡ d → {A : Type 0} → A
  other d none same = absurd (true≢false (ap is_handles same ∙ none))

  -- the handles of a resource type
  numbered : (r : Resource) → HasTree types who (type.Resource i) (resource_of r) → NumbersHandlesOf types who i r
  numbered r h = (
    h.2.0,
    ap (λ n. slice_get types.resource_tables n) (ap handles_number h.1) ∙ h.2.1,
    h.2.2,
  )

  -- the tree of a resource type
  tree_is : (tree : TypeTree) → HasTree types who (type.Resource i) tree → (r : Resource) × (tree ≡ resource_of r)
  tree_is (resource_of r) h = (r, refl)
  tree_is (primitive p) h = other _ refl h.1
  tree_is (error_context c) h = other _ refl h.1
  tree_is (record_of fs) h = other _ refl h.2
  tree_is (variant_of cs) h = other _ refl h.2
  tree_is (list_of x) h = other _ refl h.2
  tree_is (tuple_of xs) h = other _ refl h.2
  tree_is (flags_of names) h = other _ refl h.1
  tree_is (enum_of names) h = other _ refl h.1
  tree_is (option_of x) h = other _ refl h.2
  tree_is (result_of ok err) h = other _ refl h.2
  tree_is (own_of r) h = other _ refl h.1
  tree_is (borrow_of r) h = other _ refl h.1
  tree_is (stream_of x c) h = other _ refl h.2
  tree_is (future_of x c) h = other _ refl h.2
  tree_is (func_of params result is_async) h = other _ refl h.4
  tree_is (instance_of exports) h = other _ refl h.2
  tree_is (component_of imports exports) h = other _ refl h.2
  tree_is (module_of imports exports) h = other _ refl h.2

-- a type that is no resource isn't known as one
not_known : (types : Types) (who : ResourceIndex → Identity) (d : TypeDef) → is_handles d ≡ false → (tree : TypeTree)
    → HasTree types who d tree → known_identity tree ≡ None
not_known types who d none (resource_of r) h = absurd (true≢false (sym (ap is_handles h.1) ∙ none))
not_known types who d none tree h = refl

module _ (ms : List ModuleRecord) (b : Tables) where
  abbrev g : ResourceIndex → Identity
  g = who_of b.graph

  fits : Fits b.graph g
  fits = who_fits b.graph

  -- handles are those of the resource that their tree says
  handles_known : (x : TypeResourceTable) (r : Resource)
      → ((who : ResourceIndex → Identity) → Fits b.graph who → AreHandlesOf b.types who x r)
      → Both (IsResource b.graph) (handled x) (known_identity (resource_of r))
  handles_known (handles.Concrete q c) (concrete i n) are = both (λ who now. (are who now).0)
  handles_known (handles.Concrete q c) (abstract n) are = absurd (are g fits)
  handles_known (handles.Abstract m) (concrete i n) are = absurd (are g fits)
  handles_known (handles.Abstract m) (abstract n) are = neither

  resource_known : (i : TypeResourceTableIndex) (r : Resource) → IsType ms b (type.Resource i) (resource_of r)
      → Both (IsResource b.graph) (type_resource b.types (type.Resource i)) (known_identity (resource_of r))
  resource_known i r is =
      let first = numbered b.types g i r (is g fits) in
      subst (λ o. Both (IsResource b.graph) (option_and_then handled o) (known_identity (resource_of r))) (sym first.1)
      (handles_known first.0 r
      (λ who now.
      let other = numbered b.types who i r (is who now) in
      subst (λ x. AreHandlesOf b.types who x r) (same_Some other.0 first.0 (sym other.1 ∙ first.1)) other.2))

  -- a type that isn't one
  other_known : (d : TypeDef) → is_handles d ≡ false → type_resource b.types d ≡ None → (tree : TypeTree)
      → IsType ms b d tree → Both (IsResource b.graph) (type_resource b.types d) (known_identity tree)
  other_known d other empty tree is =
      subst (λ o. Both (IsResource b.graph) o (known_identity tree)) (sym empty)
      (subst (λ o. Both (IsResource b.graph) None o) (sym (not_known b.types g d other tree (is g fits))) neither)

  -- the builder knows a type as the resource that its tree is, if that is known
  pub type_known : (d : TypeDef) (tree : TypeTree) → IsType ms b d tree
      → Both (IsResource b.graph) (type_resource b.types d) (known_identity tree)
  type_known (type.Resource i) tree is =
      let r = tree_is b.types g i tree (is g fits) in
      subst (λ x. Both (IsResource b.graph) (type_resource b.types (type.Resource i)) (known_identity x)) (sym r.1)
      (resource_known i r.0 (subst (λ x. IsType ms b (type.Resource i) x) r.1 is))
  type_known (type.Component i) tree is = other_known (type.Component i) refl refl tree is
  type_known (type.ComponentInstance i) tree is = other_known (type.ComponentInstance i) refl refl tree is
  type_known (type.ComponentFunc i) tree is = other_known (type.ComponentFunc i) refl refl tree is
  type_known (type.Interface w) tree is = other_known (type.Interface w) refl refl tree is
  type_known (type.Module i) tree is = other_known (type.Module i) refl refl tree is
