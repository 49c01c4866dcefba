-- A graph whose adapters have no modules yet, and whose definitions are core items: it is wired to the modules that
-- were handed in.
use Rattle.std.proofs.Common.{zero, suc, ◌≡◌, ℕ, ◌+◌, List, [], ◌∷◌, length, map, Option, None, Some, true, Bool, refl}
use Rattle.std.proofs.Common.{sym, ap, ◌<◌, ◌∙◌, ◌++◌, arith, All, Contains, false, subst}
use Rattle.std.specs.Prelude.{option_map, slice_get}
use Rattle.std.proofs.lemmas.List.{append-nil}
use Rattle.std.proofs.lemmas.List.Elements.{All-append, All-contains, All-cons, All-map, All-nil}
use Rattle.std.proofs.lemmas.Option.{none-some, same_Some}
use Rattle.pc_numbers.specs.declared.component_entity.StaticModuleIndex.{StaticModuleIndex}
use Rattle.pc_numbers.specs.declared.entity_index.EntityIndex.{EntityIndex}
use Rattle.pc_numbers.specs.declared.module_entity.MemoryIndex.{MemoryIndex}
use Rattle.pc_types.specs.declared.module_record.ModuleRecord.{ModuleRecord}
use Rattle.pc_types.specs.declared.parsed.CoreKind.{CoreKind}
use Rattle.pc_types.specs.declared.parsed.CoreKind.TheVariants as kind
use Rattle.pc_types.specs.declared.parsed.TypeTable.{TypeTable}
use Rattle.pc_types.specs.Record.{has_entity, same_kind}
use Rattle.pc_spec_plan.specs.Machine.{has_item}
use Rattle.pc_spec_plan.specs.PlanView as plan
use Rattle.pc_info.specs.Definitions.{item_view}
use Rattle.pc_info.specs.Modules.{StandInOrder, adapters_view, handed_in_view, is_adapter_module, module_view}
use Rattle.pc_dfg.specs.declared.adapter.Adapter.{Adapter}
use Rattle.pc_dfg.specs.declared.adapter.AdapterOptions.{AdapterOptions}
use Rattle.pc_dfg.specs.declared.adapter.DataModel.{DataModel}
use Rattle.pc_dfg.specs.declared.adapter.DataModel.TheVariants as side
use Rattle.pc_dfg.specs.declared.core_def.CoreDef.{CoreDef}
use Rattle.pc_dfg.specs.declared.core_def.CoreDef.TheVariants as def
use Rattle.pc_dfg.specs.declared.core_def.CoreExport.{CoreExport}
use Rattle.pc_dfg.specs.declared.dfg.ComponentDfg.{ComponentDfg}
use Rattle.pc_dfg.specs.declared.export.Export.{Export}
use Rattle.pc_dfg.specs.declared.export.Export.TheVariants as export
use Rattle.pc_dfg.specs.declared.instance.Instance.{Instance}
use Rattle.pc_dfg.specs.declared.instance.Instance.TheVariants as source
use Rattle.pc_dfg.specs.declared.instance.Resource.{Resource}
use Rattle.pc_dfg.specs.declared.instance.SideEffect.{SideEffect}
use Rattle.pc_dfg.specs.declared.instance.SideEffect.TheVariants as effect
use Rattle.pc_dfg.specs.Effects.{Argument, host_arguments}
use Rattle.pc_dfg.specs.Names.{each_of, if_any, in_adapter, in_effect, in_instance, in_resource, in_side, in_side_model}
use Rattle.pc_dfg.specs.Numbers.{memory_def, slots_of}
use Rattle.pc_translate.specs.ModuleTypes.{HasModuleType}
use Rattle.pc_dfg_linearize.specs.Wired.{IsWired, Occurs, OfFunctions, callbacks, in_a_module, in_a_slot, in_an_adapter}
use Rattle.pc_dfg_linearize.specs.Wired.{in_an_effect, in_an_export, is_function, post_returns, reallocs}
use Rattle.pc_adapt_partition.specs.Wired.{AreHandedIn, LiftFunctions}
use Rattle.pc_inline_state.specs.Tables.{IsItem, is_adapter, is_entity, is_intrinsic, is_named, is_trampoline}
use Rattle.pc_inline_state.specs.Worlds.{HasItems, HoldsItems, HoldsModule, HoldsTypes, IsPlain, MaybeItem, ModelItems}
use Rattle.pc_inline_state.specs.Worlds.{SideItems, slot_kind}
use Rattle.pc_types_lists.specs.Types.{Types}
use Rattle.pc_translate.specs.Adapted.{as_handed_in}

-- modules as they were handed in are the handed-in ones, and have no adapters
pub all_handed_in : (rs : List ModuleRecord) → handed_in_view (map as_handed_in rs) ≡ rs
all_handed_in [] = refl
all_handed_in (r ∷ rs) = let rest = all_handed_in rs in λ i. r ∷ rest i

-- nothing stands behind them
pub stand_in_order : (rs : List ModuleRecord) → StandInOrder rs (map as_handed_in rs)
stand_in_order rs = record {
  handed_in = map as_handed_in rs;
  adapters = [];
  are = sym (append-nil (map as_handed_in rs));
  have = each rs;
  none = all rs;
  some = All-nil (λ m. is_adapter_module m ≡ true);
}
  where
    each : (xs : List ModuleRecord) → map module_view (map as_handed_in xs) ≡ xs
    each [] = refl
    each (x ∷ xs) = let rest = each xs in λ i. x ∷ rest i

    all : (xs : List ModuleRecord) → All (λ m. is_adapter_module m ≡ false) (map as_handed_in xs)
    all [] = All-nil (λ m. is_adapter_module m ≡ false)
    all (x ∷ xs) =
        All-cons (λ m. is_adapter_module m ≡ false) (as_handed_in x) (map as_handed_in xs) refl (all xs)

-- so none of them is one of adapters
pub are_handed_in : (rs : List ModuleRecord) → AreHandedIn (map as_handed_in rs)
are_handed_in [] = refl
are_handed_in (r ∷ rs) = are_handed_in rs

pub no_adapters : (n : ℕ) (rs : List ModuleRecord) → adapters_view n (map as_handed_in rs) ≡ []
no_adapters n [] = refl
no_adapters n (r ∷ rs) = no_adapters (n + 1) rs

-- nothing stands in an empty list
pub none_at : {A : Type 0} (xs : List A) (n : ℕ) (x : A) → xs ≡ [] → slice_get xs n ≡ Some x → ⊥
none_at xs n x empty at = none-some x (ap (λ l. slice_get l n) (sym empty) ∙ at)

none_in : {A : Type 0} (x : A) → Contains [] x → ⊥
none_in x there = let below = there.1 in omega (arith, below)

module _ (g : ComponentDfg) (plain : IsPlain g) where
  module _ (types : Types) (t : TypeTable) where
    -- the types of the handed-in modules among these exports are held
    abbrev ModulesHeld : List Export → Type 0
    ModulesHeld xs = (n ty : ℕ) (m : StaticModuleIndex) → slice_get xs n ≡ Some (export.ModuleStatic ty m)
        → HoldsModule types t g ty

    module_typed : (x : Export) (xs : List Export) → ModulesHeld (x ∷ xs) → HasModuleType t x
    module_typed (export.ModuleStatic ty m) xs held = (held zero ty m refl).there
    module_typed x xs held = tt

    modules_typed : (xs : List Export) → ModulesHeld xs → All (HasModuleType t) xs
    modules_typed [] held = All-nil (HasModuleType t)
    modules_typed (x ∷ xs) held =
        All-cons (HasModuleType t) x xs (module_typed x xs held)
        (modules_typed xs (λ n ty m at. held (suc n) ty m at))

    -- each handed-in module that is exported has a module type of the table
    pub are_modules : HoldsTypes types t g → All (HasModuleType t) g.export_items
    are_modules held = modules_typed g.export_items held.modules

  module _ (ms : List ModuleRecord) (items : HasItems ms g) where
    -- a definition that is a core item
    abbrev IsCore : CoreDef → Type 0
    IsCore d = (k : CoreKind) × IsItem ms g k d

    -- the arguments of an instance are
    argument_item : (i : ℕ) (o : Option Instance) → slice_get g.instances i ≡ o → (d : CoreDef)
        → Contains (each_of in_instance o) d → IsCore d
    unfolding in_instance
    argument_item i None at d there = absurd (none_in d there)
    argument_item i (Some (source.Static m args)) at d there =
        let of_module = items.modules i m args at in
        All-contains IsCore args d of_module.3 there
    argument_item i (Some (source.Import r args)) at d there =
        let all = items.hosts i r args at in
        All-contains IsCore (map (λ (a : Argument). a.1.1) (host_arguments args)) d
        (All-map IsCore (λ (a : Argument). a.1.1) (host_arguments args) all) there

    -- a destructor is
    destructor_item : (n : ℕ) (o : Option Resource) → slice_get g.resources n ≡ o → (d : CoreDef)
        → Contains (each_of in_resource o) d → IsCore d
    unfolding in_resource
    destructor_item n None at d there = absurd (none_in d there)
    destructor_item n (Some x) at d there = All-contains IsCore (if_any x.dtor) d (by x.dtor refl) there
      where
        by : (o : Option CoreDef) → x.dtor ≡ o → All IsCore (if_any o)
        by None is = All-nil IsCore
        by (Some y) is = All-cons IsCore y [] (kind.Func, items.destructors n x y at is) (All-nil IsCore)

    effect_item : (e : SideEffect) (d : CoreDef) → Contains (in_effect g e) d → IsCore d
    unfolding in_effect
    effect_item (effect.Instance i c) d there = argument_item i.0 (slice_get g.instances i.0) refl d there
    effect_item (effect.Resource n) d there = destructor_item n.0 (slice_get g.resources n.0) refl d there

    -- what may be left out, and is there, is
    maybe_core : (k : CoreKind) (o : Option CoreDef) → MaybeItem ms g k o → All IsCore (if_any o)
    unfolding MaybeItem
    maybe_core k None item = All-nil IsCore
    maybe_core k (Some d) item = All-cons IsCore d [] (k, item) (All-nil IsCore)

    model_core : (m : DataModel) → ModelItems ms g m → All IsCore (in_side_model m)
    unfolding ModelItems
    model_core side.Gc held = All-nil IsCore
    model_core (side.LinearMemory memory realloc) held =
        let place = option_map (λ (x : CoreExport MemoryIndex × Bool). memory_def x.0) memory in
        All-append IsCore (if_any place) (if_any realloc) (maybe_core kind.Memory place held.0)
        (maybe_core kind.Func realloc held.1)

    side_core : (o : AdapterOptions) → SideItems ms g o → All IsCore (in_side o)
    side_core o held =
        let callback = if_any o.callback in
        let post_return = if_any o.post_return in
        All-append IsCore (callback ++ post_return) (in_side_model o.data_model)
        (All-append IsCore callback post_return (maybe_core kind.Func o.callback held.callback)
        (maybe_core kind.Func o.post_return held.post_return)) (model_core o.data_model held.model)

    -- the definitions in an adapter are
    adapter_core : (x : Adapter) → HoldsItems ms g x → All IsCore (in_adapter x)
    unfolding in_adapter
    adapter_core x held =
        All-append IsCore (x.func ∷ in_side x.lift_options) (in_side x.lower_options)
        (All-cons IsCore x.func (in_side x.lift_options) (kind.Func, held.func) (side_core x.lift_options held.lift))
        (side_core x.lower_options held.lower)

    -- a definition that occurs in the graph is
    pub occurring_item : {d : CoreDef} → Occurs g d → IsCore d
    occurring_item (in_a_slot k n {d = d} at) = (slot_kind k, items.slots k n d at)
    occurring_item (in_an_effect i e {d = d} at there) = effect_item e d there
    occurring_item (in_a_module m x at there) = absurd (none_at g.adapter_modules m x plain.adapter_modules at)
    occurring_item (in_an_adapter a x {d = d} at there) =
        All-contains IsCore (in_adapter x) d (adapter_core x (items.adapters a x at)) there
    occurring_item (in_an_export n ty o {d = d} at) = (kind.Func, items.exports n ty o d at)

    -- an item of an instance is one of its module
    has_it : {k : CoreKind} {e : CoreExport EntityIndex} (m : StaticModuleIndex) (args : List CoreDef)
        (r : ModuleRecord) → IsItem ms g k (def.Export e)
        → slice_get g.instances e.instance.0 ≡ Some (source.Static m args) → slice_get ms m.0 ≡ Some r
        → has_item r (item_view e.item) ≡ true
    has_it m args r (is_entity {e = n} of_kind entity) at handed_in =
        let same_instance : source.Static entity.core_module entity.arguments ≡ source.Static m args =
        same_Some _ _ (sym entity.made ∙ at) in
        let same_module : entity.core_module ≡ m = cc in
        let found = ap (λ (x : StaticModuleIndex). slice_get ms x.0) same_module ∙ handed_in in
        let same_record : entity.module_record ≡ r = same_Some _ _ (sym entity.handed_in ∙ found) in
        ap (λ (x : ModuleRecord). has_entity x n) (sym same_record) ∙ entity.has
    has_it m args r (is_named host) at handed_in =
        absurd (let same : source.Import host.import host.arguments ≡ source.Static m args =
        same_Some _ _ (sym host.made ∙ at) in
        let no : ⊥ = cc in no)

    -- an item that is a function may be one, as far as its number tells
    function_item : {d : CoreDef} → IsItem ms g kind.Func d → is_function d ≡ true
    function_item (is_entity of_kind entity) = ap (λ k. same_kind k kind.Func) of_kind
    function_item (is_named host) = refl
    function_item (is_trampoline below) = refl
    function_item (is_intrinsic has) = refl
    function_item (is_adapter below) = refl

    function_slot : (k : plan.SlotKind) (n : ℕ) (d : CoreDef) → OfFunctions k → slice_get (slots_of g k) n ≡ Some d
        → is_function d ≡ true
    function_slot k n d reallocs at = function_item (items.slots plan.realloc n d at)
    function_slot k n d callbacks at = function_item (items.slots plan.callback n d at)
    function_slot k n d post_returns at = function_item (items.slots plan.post_return n d at)

    maybe_function : (o : Option CoreDef) (d : CoreDef) → MaybeItem ms g kind.Func o → o ≡ Some d → is_function d ≡ true
    unfolding MaybeItem
    maybe_function None d item is = absurd (none-some d is)
    maybe_function (Some e) d item is =
        subst (λ x. is_function x ≡ true) (same_Some e d is) (function_item item)

    -- callbacks and post-return functions of lifts are functions
    pub lift_functions : LiftFunctions g
    lift_functions = record {
      callbacks = λ a x d at is. maybe_function x.lift_options.callback d (items.adapters a x at).lift.callback is;
      post_returns = λ a x d at is.
          maybe_function x.lift_options.post_return d (items.adapters a x at).lift.post_return is;
    }

    -- the graph is wired to the modules
    pub wired : IsWired g (map as_handed_in ms)
    wired = record {
      arguments = λ i m args at.
          let of_module = items.modules i m args at in (
            of_module.0,
            ap (λ (rs : List ModuleRecord). slice_get rs m.0) (all_handed_in ms) ∙ of_module.1,
            of_module.2,
          );
      items = λ i m args e r at occurs same handed_in.
          let item = occurring_item occurs in
          has_it m args r item.1 (ap (slice_get g.instances) same ∙ at)
          (ap (λ (rs : List ModuleRecord). slice_get rs m.0) (sym (all_handed_in ms)) ∙ handed_in);
      functions = function_slot;
      adapter_modules = λ m x at. absurd (none_at g.adapter_modules m x plain.adapter_modules at);
      exports = λ n ty m at. subst (λ (rs : List ModuleRecord). m.0 < length rs) (sym (all_handed_in ms))
          (items.statics n ty m at);
    }
