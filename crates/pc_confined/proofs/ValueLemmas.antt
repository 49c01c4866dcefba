-- The values that a sound scope has under numbers and names are sound.
use Rattle.std.proofs.Common.{ℕ, zero, suc, Bool, true, false, List, [], ◌∷◌, Some, IfSome}
use Rattle.std.proofs.Common.{if◌then◌else◌}
use Rattle.std.specs.Prelude.{All, slice_get}
use Rattle.std.specs.Str.{bytes_eq}
use Rattle.std.proofs.lemmas.List.Elements.{All-head, All-tail}
use Rattle.pc_types.specs.declared.parsed.Entity.{Entity}
use Rattle.pc_types.specs.declared.parsed.Entity.TheVariants as entity
use Rattle.pc_types.specs.declared.parsed.TypeTable.{TypeTable}
use Rattle.pc_types.specs.TypeTree as tree
use Rattle.pc_types.specs.TypeTree.{Path, TypeTree}
use Rattle.pc_types.specs.Intrinsic.{intrinsic_names}
use Rattle.pc_spec_plan.specs.Log.{Entry}
use Rattle.pc_parsed.specs.declared.payload.ItemKind.{ItemKind}
use Rattle.pc_parsed.specs.declared.payload.ItemKind.TheVariants as item
use Rattle.pc_parsed.specs.Mark.{Mark}
use Rattle.pc_spec_reading.specs.Components.{outer_of}
use Rattle.pc_spec_reading.specs.Imports.{host_value}
use Rattle.pc_spec_reading.specs.Item.{ArgumentOf, ExportOf, Lent, a_component, a_module}
use Rattle.pc_spec_reading.specs.Items.{argument_value, exported_value, exports_at, value_at}
use Rattle.pc_spec_reading.specs.Member.{a_value, field_under, further, host_member, intrinsic_named, member}
use Rattle.pc_spec_reading.specs.Member.{place_from}
use Rattle.pc_spec_reading.specs.Scope.{Scope}
use Rattle.pc_spec_reading.specs.Types.{instance_fields, type_tree}
use Rattle.pc_spec_reading.specs.Value.{Chain, Instance, NamedValue, NamedValues, and_value, component_of}
use Rattle.pc_spec_reading.specs.Value.{component_value, func_value, host_instance, inside, instance_value}
use Rattle.pc_spec_reading.specs.Value.{intrinsic_function, lent_in, made_instance, module_value, no_values}
use Rattle.pc_spec_reading.specs.Value.{outermost}
use Rattle.pc_spec_reading.specs.Value.{pack_values, the_intrinsics, type_value, value_named}
use Rattle.pc_confined.proofs.Sound.{AreSoundValues, IsSoundArgument, IsSoundFunction, IsSoundInstance, IsSoundMember}
use Rattle.pc_confined.proofs.Sound.{IsSoundScope, IsSoundValue}
use Rattle.pc_confined.proofs.Steps.{all_filtered, at_some, made_some, map_some}

module _ (log : List (Entry Mark)) where
  -- the value under a name
  named_found : (vs : NamedValues) → AreSoundValues log vs → (name : List ℕ)
      → IfSome (value_named name vs) (IsSoundValue log)
  named_found no_values h name = tt
  named_found (and_value n v vs) h name = by (bytes_eq name n.name) (named_found vs h.1 name)
    where
      by : (b : Bool) → IfSome (value_named name vs) (IsSoundValue log)
          → IfSome (if b then Some v else value_named name vs) (IsSoundValue log)
      by true rest = h.0
      by false rest = rest

  -- what the host has at a path
  host_sound : (p : Path) (t : TypeTree) → IsSoundMember log (host_member p t)
  host_sound p (tree.func_of a b c) = tt
  host_sound p (tree.instance_of a) = tt
  host_sound p (tree.component_of a b) = tt
  host_sound p (tree.module_of a b) = tt
  host_sound p t = tt

  -- a member of an instance
  pub member_found : (i : Instance) → IsSoundInstance log i → (name : List ℕ)
      → IfSome (member i name) (IsSoundMember log)
  unfolding member
  member_found (made_instance vs t) h name =
      map_some (IsSoundMember log) (IsSoundValue log) a_value (value_named name vs) (named_found vs h name) (λ v b. b)
  member_found (host_instance p t) h name =
      made_some (IsSoundMember log) (host_member (further p name)) (field_under name (instance_fields t))
      (host_sound (further p name))
  member_found the_intrinsics h name =
      map_some (IsSoundMember log) (IsSoundFunction log) (λ f. a_value (func_value f)) (intrinsic_named name)
      (made_some (IsSoundFunction log) intrinsic_function (place_from 0 name intrinsic_names) (λ n. tt)) (λ f b. b)

  -- what the host gives for an import
  pub given_found : (p : Path) (e : Entity) (t : TypeTree) → IfSome (host_value p e t) (IsSoundValue log)
  given_found p (entity.Func n) t = tt
  given_found p (entity.Instance n) t = tt
  given_found p (entity.Module n) t = tt
  given_found p (entity.Type_ n) t = tt
  given_found p (entity.Component n) t = tt
  given_found p entity.Value t = tt

  -- what a chain lends
  lent_found : (chain : Chain) (k : Lent) (c n : ℕ) → IfSome (lent_in chain k c n) (IsSoundValue log)
  lent_found outermost k c n = tt
  lent_found (inside ms cs chain) a_module zero n =
      made_some (IsSoundValue log) module_value (slice_get ms n) (λ m. tt)
  lent_found (inside ms cs chain) a_component zero n =
      made_some (IsSoundValue log) component_value (component_of cs n) (λ m. tt)
  lent_found (inside ms cs chain) a_module (suc c) n = lent_found chain a_module c n
  lent_found (inside ms cs chain) a_component (suc c) n = lent_found chain a_component c n

  -- what an outer alias names
  pub outer_found : (s : Scope) (k : Lent) (c n : ℕ) → IfSome (outer_of s k c n) (IsSoundValue log)
  unfolding outer_of
  outer_found s a_module zero n = made_some (IsSoundValue log) module_value (slice_get s.modules n) (λ m. tt)
  outer_found s a_component zero n = made_some (IsSoundValue log) component_value (slice_get s.components n) (λ m. tt)
  outer_found s a_module (suc c) n = lent_found s.chain a_module c n
  outer_found s a_component (suc c) n = lent_found s.chain a_component c n

  -- values under their names, as an instance has them
  pub packed : (vs : List NamedValue) → All (λ (v : NamedValue). IsSoundValue log v.value) vs
      → AreSoundValues log (pack_values vs)
  packed [] h = tt
  packed (v ∷ vs) h = (
    All-head (λ (v : NamedValue). IsSoundValue log v.value) v vs h,
    packed vs (All-tail (λ (v : NamedValue). IsSoundValue log v.value) v vs h),
  )

  module _ (t : TypeTable) (s : Scope) (sound : IsSoundScope log s) where
    -- what a kind and an index name
    pub value_found : (k : ItemKind) (n : ℕ) → IfSome (value_at t s k n) (IsSoundValue log)
    unfolding value_at
    value_found item.Func n =
        map_some (IsSoundValue log) (IsSoundFunction log) func_value (slice_get s.funcs n)
        (at_some (IsSoundFunction log) s.funcs sound.funcs n) (λ f b. b)
    value_found item.Module n = made_some (IsSoundValue log) module_value (slice_get s.modules n) (λ m. tt)
    value_found item.Instance n =
        map_some (IsSoundValue log) (IsSoundInstance log) instance_value (slice_get s.instances n)
        (at_some (IsSoundInstance log) s.instances sound.instances n) (λ i b. b)
    value_found item.Component n = made_some (IsSoundValue log) component_value (slice_get s.components n) (λ c. tt)
    value_found item.Type_ n = made_some (IsSoundValue log) type_value (type_tree t s n) (λ x. tt)
    value_found item.Value n = tt

    -- an export, under its name
    pub export_found : (e : ExportOf) → IfSome (exported_value t s e) (λ (v : NamedValue). IsSoundValue log v.value)
    unfolding exported_value
    export_found e =
        map_some (λ (v : NamedValue). IsSoundValue log v.value) (IsSoundValue log) _ (value_at t s e.kind e.index)
        (value_found e.kind e.index) (λ v b. b)

    -- an argument, under its name
    pub argument_found : (a : ArgumentOf) → IfSome (argument_value t s a) (IsSoundArgument log)
    unfolding argument_value
    argument_found a =
        map_some (IsSoundArgument log) (IsSoundValue log) _ (value_at t s a.kind a.index) (value_found a.kind a.index)
        (λ v b. b)

    -- the exports of a component
    pub exports_found : (es : List ExportOf) → AreSoundValues log (pack_values (exports_at t s es))
    unfolding exports_at
    exports_found es =
        packed (exports_at t s es)
        (all_filtered (λ (v : NamedValue). IsSoundValue log v.value) (exported_value t s) export_found es)
