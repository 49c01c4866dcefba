-- Types of the kinds that builtins ask for: resources that are known, streams and futures.
use Rattle.std.proofs.Common.{◌≡◌, ◌<◌, ℕ, Bool, true, false, true≢false, Option, None, Some, length, refl, sym, ap, subst}
use Rattle.std.proofs.Common.{arith, ◌∙◌}
use Rattle.std.specs.Prelude.{is_some, slice_get}
use Rattle.std.proofs.lemmas.Option.{none-some, same_Some, slice_get_within}
use Rattle.pc_numbers.specs.declared.runtime.ResourceIndex.{ResourceIndex}
use Rattle.pc_types.specs.declared.parsed.PrimType.{PrimType}
use Rattle.pc_types.specs.declared.parsed.PrimType.TheVariants as prim
use Rattle.pc_types.specs.declared.type_index.TypeFutureTableIndex.{TypeFutureTableIndex}
use Rattle.pc_types.specs.declared.type_index.TypeResourceTableIndex.{TypeResourceTableIndex}
use Rattle.pc_types.specs.declared.type_index.TypeStreamTableIndex.{TypeStreamTableIndex}
use Rattle.pc_types.specs.declared.types.InterfaceType.{InterfaceType}
use Rattle.pc_types.specs.declared.types.InterfaceType.TheVariants as ty
use Rattle.pc_types.specs.declared.types.TypeDef.{TypeDef}
use Rattle.pc_types.specs.declared.types.TypeDef.TheVariants as def
use Rattle.pc_types.specs.declared.types.TypeResourceTable.{TypeResourceTable}
use Rattle.pc_types.specs.declared.types.TypeResourceTable.TheVariants as handles
use Rattle.pc_types.specs.TypeTree.{Identity, Resource, TypeTree, abstract, borrow_of, component_of, concrete, enum_of}
use Rattle.pc_types.specs.TypeTree.{error_context, flags_of, func_of, future_of, instance_of, list_of, module_of}
use Rattle.pc_types.specs.TypeTree.{option_of, own_of, primitive, record_of, resource_of, result_of, stream_of, tuple_of}
use Rattle.pc_types.specs.TypeTree.{variant_of}
use Rattle.pc_types_lists.specs.Primitive.{plain_type}
use Rattle.pc_types_lists.specs.Trees.{AreHandlesOf, HasTree, NumbersHandlesOf}
use Rattle.pc_types_lists.specs.Types.{Types}
use Rattle.pc_trampoline.specs.Shape.{type_shape}
use Rattle.pc_spec_reading.specs.Types.{a_future_tree, a_stream_tree, known_resource}
use Rattle.pc_inline_builtins.specs.declared.builtin.Handle.{Handle}
use Rattle.pc_inline_builtins.specs.declared.builtin.Handle.TheVariants as handle
use Rattle.pc_inline_builtins.specs.Reads.{of_handle}
use Rattle.pc_inline_builtins.specs.Written.{handle_shape}

-- a number for the sort of a type: a resource, a stream, a future, another value type, or none of these
abbrev sort_of : TypeDef → ℕ
sort_of (def.Resource i) = 1
sort_of (def.Interface (ty.Stream i)) = 2
sort_of (def.Interface (ty.Future i)) = 3
sort_of (def.Interface w) = 0
sort_of d = 4

-- the same of a tree
abbrev tree_sort : TypeTree → ℕ
tree_sort (resource_of r) = 1
tree_sort (stream_of p c) = 2
tree_sort (future_of p c) = 3
tree_sort (func_of params result is_async) = 4
tree_sort (instance_of exports) = 4
tree_sort (component_of imports exports) = 4
tree_sort (module_of imports exports) = 4
tree_sort tree = 0

-- the value type of a primitive
plain_sort : (p : PrimType) (w : InterfaceType) → plain_type p ≡ Some w → sort_of (def.Interface w) ≡ 0
plain_sort prim.Bool w h = ap (λ x. sort_of (def.Interface x)) (sym (same_Some ty.Bool w h))
plain_sort prim.S8 w h = ap (λ x. sort_of (def.Interface x)) (sym (same_Some ty.S8 w h))
plain_sort prim.U8 w h = ap (λ x. sort_of (def.Interface x)) (sym (same_Some ty.U8 w h))
plain_sort prim.S16 w h = ap (λ x. sort_of (def.Interface x)) (sym (same_Some ty.S16 w h))
plain_sort prim.U16 w h = ap (λ x. sort_of (def.Interface x)) (sym (same_Some ty.U16 w h))
plain_sort prim.S32 w h = ap (λ x. sort_of (def.Interface x)) (sym (same_Some ty.S32 w h))
plain_sort prim.U32 w h = ap (λ x. sort_of (def.Interface x)) (sym (same_Some ty.U32 w h))
plain_sort prim.S64 w h = ap (λ x. sort_of (def.Interface x)) (sym (same_Some ty.S64 w h))
plain_sort prim.U64 w h = ap (λ x. sort_of (def.Interface x)) (sym (same_Some ty.U64 w h))
plain_sort prim.F32 w h = ap (λ x. sort_of (def.Interface x)) (sym (same_Some ty.F32 w h))
plain_sort prim.F64 w h = ap (λ x. sort_of (def.Interface x)) (sym (same_Some ty.F64 w h))
plain_sort prim.Char w h = ap (λ x. sort_of (def.Interface x)) (sym (same_Some ty.Char w h))
plain_sort prim.String w h = ap (λ x. sort_of (def.Interface x)) (sym (same_Some ty.String w h))
plain_sort prim.ErrorContext w h = absurd (none-some w h)

-- whether handles are those of a resource that is known
abbrev pub is_concrete : TypeResourceTable → Bool
is_concrete (handles.Concrete r c) = true
is_concrete (handles.Abstract n) = false

module _ (b : Types) (who : ResourceIndex → Identity) where
  -- a type is of the sort of its tree
  sorts_same : (d : TypeDef) (tree : TypeTree) → HasTree b who d tree → sort_of d ≡ tree_sort tree
  sorts_same d (primitive p) h = ap sort_of h.1 ∙ plain_sort p h.0 h.2
  sorts_same d (error_context c) h = ap sort_of h.1
  sorts_same d (record_of fs) h = ap sort_of h.2
  sorts_same d (variant_of cs) h = ap sort_of h.2
  sorts_same d (list_of x) h = ap sort_of h.2
  sorts_same d (tuple_of xs) h = ap sort_of h.2
  sorts_same d (flags_of names) h = ap sort_of h.1
  sorts_same d (enum_of names) h = ap sort_of h.1
  sorts_same d (option_of x) h = ap sort_of h.2
  sorts_same d (result_of ok err) h = ap sort_of h.2
  sorts_same d (own_of r) h = ap sort_of h.1
  sorts_same d (borrow_of r) h = ap sort_of h.1
  sorts_same d (stream_of x c) h = ap sort_of h.2
  sorts_same d (future_of x c) h = ap sort_of h.2
  sorts_same d (func_of params result is_async) h = ap sort_of h.4
  sorts_same d (instance_of exports) h = ap sort_of h.2
  sorts_same d (component_of imports exports) h = ap sort_of h.2
  sorts_same d (module_of imports exports) h = ap sort_of h.2
  sorts_same d (resource_of r) h = ap sort_of h.1

  -- a stream type has the tree of one
  pub stream_yes : (i : TypeStreamTableIndex) (tree : TypeTree) → HasTree b who (def.Interface (ty.Stream i)) tree
      → true ≡ is_some (a_stream_tree tree)
  stream_yes i tree h = by tree (sorts_same (def.Interface (ty.Stream i)) tree h)
    where
      by : (tree : TypeTree) → 2 ≡ tree_sort tree → true ≡ is_some (a_stream_tree tree)
      by (stream_of p c) same = refl
      by tree same = absurd (omega (arith, same))

  -- a future type likewise
  pub future_yes : (i : TypeFutureTableIndex) (tree : TypeTree) → HasTree b who (def.Interface (ty.Future i)) tree
      → true ≡ is_some (a_future_tree tree)
  future_yes i tree h = by tree (sorts_same (def.Interface (ty.Future i)) tree h)
    where
      by : (tree : TypeTree) → 3 ≡ tree_sort tree → true ≡ is_some (a_future_tree tree)
      by (future_of p c) same = refl
      by tree same = absurd (omega (arith, same))

  module _ (d : TypeDef) (tree : TypeTree) (h : HasTree b who d tree) where
    -- another type has no such tree
    pub stream_no : ((i : TypeStreamTableIndex) → d ≡ def.Interface (ty.Stream i) → ⊥)
        → false ≡ is_some (a_stream_tree tree)
    stream_no none = by tree h
      where
        by : (tree : TypeTree) → HasTree b who d tree → false ≡ is_some (a_stream_tree tree)
        by (stream_of p c) x = absurd (none x.0 x.2)
        by tree x = refl

    pub future_no : ((i : TypeFutureTableIndex) → d ≡ def.Interface (ty.Future i) → ⊥)
        → false ≡ is_some (a_future_tree tree)
    future_no none = by tree h
      where
        by : (tree : TypeTree) → HasTree b who d tree → false ≡ is_some (a_future_tree tree)
        by (future_of p c) x = absurd (none x.0 x.2)
        by tree x = refl

    pub resource_no : ((i : TypeResourceTableIndex) → d ≡ def.Resource i → ⊥) → false ≡ is_some (known_resource tree)
    resource_no none = by tree h
      where
        by : (tree : TypeTree) → HasTree b who d tree → false ≡ is_some (known_resource tree)
        by (resource_of r) x = absurd (none x.0 x.1)
        by tree x = refl

  module _ (i : TypeResourceTableIndex) (tree : TypeTree) (h : HasTree b who (def.Resource i) tree) where
    -- the handles of a resource type, and its tree
    record IsOfHandles : Type 0 where
      pub resource : Resource
      pub is : tree ≡ resource_of resource
      pub numbers : NumbersHandlesOf b who i resource

    handles_of : IsOfHandles
    handles_of = by tree refl h (sorts_same (def.Resource i) tree h)
      where
        by : (x : TypeTree) → tree ≡ x → HasTree b who (def.Resource i) x → 1 ≡ tree_sort x → IsOfHandles
        by (resource_of r) is x same =
            let number : x.0 ≡ i = cc in
            record {
              resource = r;
              is = is;
              numbers = subst (λ (j : TypeResourceTableIndex). NumbersHandlesOf b who j r) number x.2;
            }
        by x is y same = absurd (omega (arith, same))

    -- they are held
    pub handles_within : i.0 < length b.resource_tables
    handles_within = slice_get_within b.resource_tables i.0 handles_of.numbers.0 handles_of.numbers.1

    -- concrete handles are those of a resource that is known
    concrete_known : (x : TypeResourceTable) (r : Resource) → AreHandlesOf b who x r
        → is_concrete x ≡ is_some (known_resource (resource_of r))
    concrete_known (handles.Concrete q c) (concrete identity instance) are = refl
    concrete_known (handles.Concrete q c) (abstract n) are = absurd are
    concrete_known (handles.Abstract m) (concrete identity instance) are = absurd are
    concrete_known (handles.Abstract m) (abstract n) are = refl

    -- the resource is known where they are concrete
    pub handles_known : (x : TypeResourceTable) → slice_get b.resource_tables i.0 ≡ Some x
        → is_concrete x ≡ is_some (known_resource tree)
    handles_known x at =
        let n = handles_of.numbers in
        subst (λ y. is_concrete x ≡ is_some (known_resource y)) (sym handles_of.is)
        (concrete_known x handles_of.resource
        (subst (λ y. AreHandlesOf b who y handles_of.resource) (same_Some n.0 x (sym n.1 ∙ at)) n.2))

-- a tree that is of a kind is found, and one that isn't is not
pub wanted_found : (w : Handle) (tree : TypeTree) → is_some (of_handle w tree) ≡ true → of_handle w tree ≡ Some tree
wanted_found handle.Resource (resource_of (concrete identity c)) is = refl
wanted_found handle.Resource tree is = absurd (true≢false (sym is))
wanted_found handle.Stream (stream_of p c) is = refl
wanted_found handle.Stream tree is = absurd (true≢false (sym is))
wanted_found handle.Future (future_of p c) is = refl
wanted_found handle.Future tree is = absurd (true≢false (sym is))

pub wanted_missing : (w : Handle) (tree : TypeTree) → is_some (of_handle w tree) ≡ false → of_handle w tree ≡ None
wanted_missing w tree is = by (of_handle w tree) is
  where
    by : (o : Option TypeTree) → is_some o ≡ false → o ≡ None
    by None is = refl
    by (Some x) is = absurd (true≢false is)

-- a type of a kind stands as a part of that kind
pub wanted_shape : (b : Types) (who : ResourceIndex → Identity) (w : Handle) (d : TypeDef) (tree : TypeTree)
    → HasTree b who d tree → is_some (of_handle w tree) ≡ true → type_shape d ≡ handle_shape w
wanted_shape b who handle.Resource d (resource_of r) h is = ap type_shape h.1
wanted_shape b who handle.Resource d tree h is = absurd (true≢false (sym is))
wanted_shape b who handle.Stream d (stream_of p c) h is = ap type_shape h.2
wanted_shape b who handle.Stream d tree h is = absurd (true≢false (sym is))
wanted_shape b who handle.Future d (future_of p c) h is = ap type_shape h.2
wanted_shape b who handle.Future d tree h is = absurd (true≢false (sym is))
