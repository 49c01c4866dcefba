-- What is held stays held.
use Rattle.std.proofs.Common.{◌≡◌, ℕ, ◌<◌, Bool, true, false, true≢false, List, length, Some, sym, ap, subst}
use Rattle.std.specs.Prelude.{slice_get}
use Rattle.std.proofs.lemmas.Option.{none-some, same_Some, slice_get_within}
use Rattle.pc_entity.specs.Lists.{Kept}
use Rattle.pc_entity.proofs.LookupLemmas.{kept_within}
use Rattle.pc_numbers.specs.declared.runtime.ResourceIndex.{ResourceIndex}
use Rattle.pc_types.specs.declared.parsed.PrimType.{PrimType}
use Rattle.pc_types.specs.declared.parsed.PrimType.TheVariants as prim
use Rattle.pc_types.specs.declared.types.InterfaceType.{InterfaceType}
use Rattle.pc_types.specs.declared.types.InterfaceType.TheVariants as ty
use Rattle.pc_types.specs.declared.types.TypeDef.{TypeDef}
use Rattle.pc_types.specs.declared.types.TypeDef.TheVariants as def
use Rattle.pc_types.specs.TypeTree.{Identity, TypeTree, primitive, error_context, record_of, variant_of}
use Rattle.pc_types.specs.TypeTree.{list_of, tuple_of, flags_of, enum_of, option_of, result_of, own_of, borrow_of}
use Rattle.pc_types.specs.TypeTree.{stream_of, future_of, func_of, instance_of, component_of, module_of, resource_of}
use Rattle.pc_types_lists.specs.Types.{Types, Grows}
use Rattle.pc_types_lists.specs.Held.{IsHeld}
use Rattle.pc_types_lists.specs.Primitive.{plain_type}
use Rattle.pc_types_lists.specs.Trees.{HasTree}

module _ (old new : Types) (g : Grows old new) where
  -- a value type that is held stays held
  pub held_grows : (w : InterfaceType) → IsHeld old w → IsHeld new w
  held_grows ty.Bool h = h
  held_grows ty.S8 h = h
  held_grows ty.U8 h = h
  held_grows ty.S16 h = h
  held_grows ty.U16 h = h
  held_grows ty.S32 h = h
  held_grows ty.U32 h = h
  held_grows ty.S64 h = h
  held_grows ty.U64 h = h
  held_grows ty.F32 h = h
  held_grows ty.F64 h = h
  held_grows ty.Char h = h
  held_grows ty.String h = h
  held_grows (ty.ErrorContext i) h =
      kept_within old.error_context_tables new.error_context_tables g.error_context_tables i.0 h
  held_grows (ty.Record i) h = kept_within old.records new.records g.records i.0 h
  held_grows (ty.Variant i) h = kept_within old.variants new.variants g.variants i.0 h
  held_grows (ty.List i) h = kept_within old.lists new.lists g.lists i.0 h
  held_grows (ty.Tuple i) h = kept_within old.tuples new.tuples g.tuples i.0 h
  held_grows (ty.Flags i) h = kept_within old.flags new.flags g.flags i.0 h
  held_grows (ty.Enum i) h = kept_within old.enums new.enums g.enums i.0 h
  held_grows (ty.Option i) h = kept_within old.options new.options g.options i.0 h
  held_grows (ty.Result i) h = kept_within old.results new.results g.results i.0 h
  held_grows (ty.Own i) h = kept_within old.resource_tables new.resource_tables g.resource_tables i.0 h
  held_grows (ty.Borrow i) h = kept_within old.resource_tables new.resource_tables g.resource_tables i.0 h
  held_grows (ty.Future i) h = kept_within old.future_tables new.future_tables g.future_tables i.0 h
  held_grows (ty.Stream i) h = kept_within old.stream_tables new.stream_tables g.stream_tables i.0 h

-- the value type of a type that has one
abbrev pub value_of : TypeDef → InterfaceType
value_of (def.Interface w) = w
value_of _ = ty.Bool

-- whether a type is a value type
abbrev pub is_value_type : TypeDef → Bool
is_value_type (def.Interface w) = true
is_value_type _ = false

-- whether a type is a function type, and its number
abbrev pub is_a_func : TypeDef → Bool
is_a_func (def.ComponentFunc i) = true
is_a_func _ = false

-- the number of a function type
abbrev pub func_number : TypeDef → ℕ
func_number (def.ComponentFunc i) = i.0
func_number _ = 0

module _ (b : Types) where
  -- the value type of a primitive without a table is held
  pub plain_held : (p : PrimType) (w : InterfaceType) → plain_type p ≡ Some w → IsHeld b w
  plain_held prim.Bool w h = subst (IsHeld b) (same_Some ty.Bool w h) tt
  plain_held prim.S8 w h = subst (IsHeld b) (same_Some ty.S8 w h) tt
  plain_held prim.U8 w h = subst (IsHeld b) (same_Some ty.U8 w h) tt
  plain_held prim.S16 w h = subst (IsHeld b) (same_Some ty.S16 w h) tt
  plain_held prim.U16 w h = subst (IsHeld b) (same_Some ty.U16 w h) tt
  plain_held prim.S32 w h = subst (IsHeld b) (same_Some ty.S32 w h) tt
  plain_held prim.U32 w h = subst (IsHeld b) (same_Some ty.U32 w h) tt
  plain_held prim.S64 w h = subst (IsHeld b) (same_Some ty.S64 w h) tt
  plain_held prim.U64 w h = subst (IsHeld b) (same_Some ty.U64 w h) tt
  plain_held prim.F32 w h = subst (IsHeld b) (same_Some ty.F32 w h) tt
  plain_held prim.F64 w h = subst (IsHeld b) (same_Some ty.F64 w h) tt
  plain_held prim.Char w h = subst (IsHeld b) (same_Some ty.Char w h) tt
  plain_held prim.String w h = subst (IsHeld b) (same_Some ty.String w h) tt
  plain_held prim.ErrorContext w h = absurd (none-some w h)

  -- a value type that has a tree is held
  pub value_held : (who : ResourceIndex → Identity) (w : InterfaceType) (t : TypeTree)
      → HasTree b who (def.Interface w) t → IsHeld b w
  value_held who w (primitive p) h = subst (IsHeld b) (sym (ap value_of h.1)) (plain_held p h.0 h.2)
  value_held who w (error_context c) h =
      subst (IsHeld b) (sym (ap value_of h.1)) (slice_get_within b.error_context_tables h.0.0 _ h.2)
  value_held who w (record_of fs) h =
      subst (IsHeld b) (sym (ap value_of h.2)) (slice_get_within b.records h.0.0 h.1 h.3)
  value_held who w (variant_of cs) h =
      subst (IsHeld b) (sym (ap value_of h.2)) (slice_get_within b.variants h.0.0 h.1 h.3)
  value_held who w (list_of t) h = subst (IsHeld b) (sym (ap value_of h.2)) (slice_get_within b.lists h.0.0 h.1 h.3)
  value_held who w (tuple_of ts) h = subst (IsHeld b) (sym (ap value_of h.2)) (slice_get_within b.tuples h.0.0 h.1 h.3)
  value_held who w (flags_of names) h = subst (IsHeld b) (sym (ap value_of h.1)) (slice_get_within b.flags h.0.0 _ h.2)
  value_held who w (enum_of names) h = subst (IsHeld b) (sym (ap value_of h.1)) (slice_get_within b.enums h.0.0 _ h.2)
  value_held who w (option_of t) h = subst (IsHeld b) (sym (ap value_of h.2)) (slice_get_within b.options h.0.0 h.1 h.3)
  value_held who w (result_of ok err) h =
      subst (IsHeld b) (sym (ap value_of h.2)) (slice_get_within b.results h.0.0 h.1 h.3)
  value_held who w (own_of r) h =
      subst (IsHeld b) (sym (ap value_of h.1)) (slice_get_within b.resource_tables h.0.0 h.2.0 h.2.1)
  value_held who w (borrow_of r) h =
      subst (IsHeld b) (sym (ap value_of h.1)) (slice_get_within b.resource_tables h.0.0 h.2.0 h.2.1)
  value_held who w (stream_of t c) h =
      subst (IsHeld b) (sym (ap value_of h.2)) (slice_get_within b.stream_tables h.0.0 h.1 h.3)
  value_held who w (future_of t c) h =
      subst (IsHeld b) (sym (ap value_of h.2)) (slice_get_within b.future_tables h.0.0 h.1 h.3)
  value_held who w (func_of params result is_async) h = absurd (true≢false (ap is_value_type h.4))
  value_held who w (instance_of exports) h = absurd (true≢false (ap is_value_type h.2))
  value_held who w (component_of imports exports) h = absurd (true≢false (ap is_value_type h.2))
  value_held who w (module_of imports exports) h = absurd (true≢false (ap is_value_type h.2))
  value_held who w (resource_of r) h = absurd (true≢false (ap is_value_type h.1))

-- a place where an item was found is within the list, also after it grew
pub kept_place : {A : Type 0} (xs ys : List A) → Kept xs ys → (n : ℕ) (x : A) → slice_get xs n ≡ Some x → n < length ys
kept_place xs ys kept n x h = slice_get_within ys n x (kept n x h)
