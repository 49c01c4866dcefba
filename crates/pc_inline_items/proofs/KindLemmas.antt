-- The step of a local item from that of its kind, and the numbers of its names.
use Rattle.std.proofs.Common.{◌≡◌, ◌+◌, ◌<◌, true, ℕ, List, [], ◌∷◌, Option, Result, map, refl, ap, sym, subst, ◌∙◌}
use Rattle.std.specs.Prelude.{⊤}
use Rattle.pc_numbers.specs.declared.component_entity.StaticModuleIndex.{StaticModuleIndex}
use Rattle.pc_numbers.specs.declared.entity_index.EntityIndex.{EntityIndex}
use Rattle.pc_numbers.specs.declared.runtime.RuntimeComponentInstanceIndex.{RuntimeComponentInstanceIndex}
use Rattle.pc_entity.specs.declared.string_pool.Atom.{Atom}
use Rattle.pc_entity.specs.Lists.{names_of}
use Rattle.pc_types.specs.declared.module_record.ModuleRecord.{ModuleRecord}
use Rattle.pc_types.specs.declared.parsed.CoreKind.{CoreKind}
use Rattle.pc_types.specs.declared.parsed.Entity.{Entity}
use Rattle.pc_types.specs.declared.parsed.TypeTable.{TypeTable}
use Rattle.pc_types.specs.declared.parsed.WasmValType.{WasmValType}
use Rattle.pc_types.specs.Names.{distinct_names}
use Rattle.pc_parsed.specs.declared.canon.CanonOption.{CanonOption}
use Rattle.pc_parsed.specs.declared.payload.ExternName.{ExternName}
use Rattle.pc_parsed.specs.declared.payload.ItemKind.{ItemKind}
use Rattle.pc_spec_reading.specs.Item.{alias_item, component_exports_item, core_alias_item, core_exports_item}
use Rattle.pc_spec_reading.specs.Item.{export_item}
use Rattle.pc_spec_reading.specs.Item.{import_item, instantiate_module_item, intrinsics_import, lift_item, lower_item}
use Rattle.pc_spec_reading.specs.Item.{module_item, resource_item}
use Rattle.pc_spec_reading.specs.Section.{named_item}
use Rattle.pc_local.specs.declared.item.LocalInitializer.{LocalInitializer}
use Rattle.pc_local.specs.declared.item.LocalInitializer.TheVariants as local
use Rattle.pc_local.specs.Plain.{plain_item}
use Rattle.pc_local.specs.Sound.{IsSoundItem, export_name}
use Rattle.pc_inline_names.specs.Named.{item_names}
use Rattle.pc_inline_names.specs.Numbers.{AreNumbersOf}
use Rattle.pc_inline_state.specs.declared.definition.ClosureId.{ClosureId}
use Rattle.pc_inline_state.specs.declared.error.ItemError.{ItemError}
use Rattle.pc_inline_state.specs.declared.frame.Change.{Change}
use Rattle.pc_inline_state.specs.declared.frame.Frame.{Frame}
use Rattle.pc_inline_state.specs.declared.state.State.{State}
use Rattle.pc_inline_state.specs.Adds.{Adds, most_added, most_converted, types_among}
use Rattle.pc_inline_state.specs.Points.{StepsItem}
use Rattle.pc_inline_items.specs.StepsLocal.{StepsLocal}
use Rattle.pc_inline_state.specs.Tables.{Keeps, Tables}
use Rattle.pc_inline_state.specs.Trails.{Trails}
use Rattle.pc_inline_state.proofs.AddsLemmas.{adds_refl}
use Rattle.pc_inline_state.proofs.StateLemmas.{keeps_refl}
use Rattle.pc_inline_state.proofs.TrailLemmas.{trails_same}
use Rattle.pc_inline_items.proofs.LocalLemmas.{local_plain}

-- a module of a sound item was handed in
pub module_sound : (n : ℕ) (l : LocalInitializer) {index : StaticModuleIndex} {ty : ℕ} → l ≡ local.ModuleStatic index ty
    → IsSoundItem n l → index.0 < n
unfolding IsSoundItem
module_sound n l is sound = subst (IsSoundItem n) is sound

-- no name stands twice among what one exports
pub exports_sound : (n : ℕ) (l : LocalInitializer) {es xs : List (ExternName × ItemKind × ℕ)} {ty : ℕ}
    → l ≡ local.ComponentSynthetic es ty → xs ≡ es → IsSoundItem n l → distinct_names (map export_name xs) ≡ true
unfolding IsSoundItem
exports_sound n l is same sound =
    subst (λ ys. distinct_names (map export_name ys) ≡ true) (sym same) (subst (IsSoundItem n) is sound)

-- The numbers of the names of an item, by its kind.
module _ (names : List (List ℕ)) (l : LocalInitializer) (ns : List Atom) (numbered : AreNumbersOf names (item_names l) ns)
  where
    -- import
    pub import_numbers : {name : ExternName} {ty : Entity} → l ≡ local.Import name ty
        → AreNumbersOf names (name.name ∷ []) ns
    unfolding item_names
    import_numbers is = subst (λ i. AreNumbersOf names (item_names i) ns) is numbered

    -- core instance
    pub core_instance_numbers : {m : ℕ} {args xs : List (List ℕ × ℕ)} → l ≡ local.ModuleInstantiate m args → xs ≡ args
        → AreNumbersOf names (names_of xs) ns
    unfolding item_names
    core_instance_numbers is same =
        subst (λ ys. AreNumbersOf names (names_of ys) ns) (sym same)
        (subst (λ i. AreNumbersOf names (item_names i) ns) is numbered)

    -- core exports
    pub core_exports_numbers : {items xs : List (List ℕ × EntityIndex)} → l ≡ local.ModuleSynthetic items → xs ≡ items
        → AreNumbersOf names (names_of xs) ns
    unfolding item_names
    core_exports_numbers is same =
        subst (λ ys. AreNumbersOf names (names_of ys) ns) (sym same)
        (subst (λ i. AreNumbersOf names (item_names i) ns) is numbered)

    -- core alias
    pub core_alias_numbers : {kind : CoreKind} {n : ℕ} {name : List ℕ} → l ≡ local.AliasCoreExport kind n name
        → AreNumbersOf names (name ∷ []) ns
    unfolding item_names
    core_alias_numbers is = subst (λ i. AreNumbersOf names (item_names i) ns) is numbered

    -- component exports
    pub component_exports_numbers : {es xs : List (ExternName × ItemKind × ℕ)} {ty : ℕ}
        → l ≡ local.ComponentSynthetic es ty → xs ≡ es → AreNumbersOf names (map export_name xs) ns
    unfolding item_names
    component_exports_numbers is same =
        subst (λ ys. AreNumbersOf names (map export_name ys) ns) (sym same)
        (subst (λ i. AreNumbersOf names (item_names i) ns) is numbered)

    -- alias
    pub alias_numbers : {kind : ItemKind} {n : ℕ} {name : List ℕ} → l ≡ local.AliasComponentExport kind n name
        → AreNumbersOf names (name ∷ []) ns
    unfolding item_names
    alias_numbers is = subst (λ i. AreNumbersOf names (item_names i) ns) is numbered

module _ {t : TypeTable} {a : Tables} {cs ds : List Change} {x y : RuntimeComponentInstanceIndex} {S : Type 0} where
  -- what the step of an instance from items promises, of exports that are these
  pub exported : {b : Tables} {es xs : List (ExternName × ItemKind × ℕ)} → xs ≡ es
      → record {
        keeps : Keeps a b;
        adds : Adds t (most_converted t (1 + types_among xs)) a b;
        trail : Trails cs a.types.resources ds b.types.resources;
        same : x ≡ y;
        steps : S;
      }
      → record {
        keeps : Keeps a b;
        adds : Adds t (most_converted t (1 + types_among es)) a b;
        trail : Trails cs a.types.resources ds b.types.resources;
        same : x ≡ y;
        steps : S;
      }
  exported {b = b} same h = record {
    keeps = h.keeps;
    adds = subst (λ ys. Adds t (most_converted t (1 + types_among ys)) a b) same h.adds;
    trail = h.trail;
    same = h.same;
    steps = h.steps;
  }

module _ {t : TypeTable} {a : Tables} {cs ds : List Change} {x y : RuntimeComponentInstanceIndex} {S T : Type 0} where
  -- what the step of a local item promises, from that of its kind, which changes no table and no resource
  pub still : {w : ℕ} → record { changes : ds ≡ cs; same : x ≡ y; steps : S } → (S → T)
      → record {
        keeps : Keeps a a;
        adds : Adds t w a a;
        trail : Trails cs a.types.resources ds a.types.resources;
        same : x ≡ y;
        steps : T;
      }
  still {w = w} h steps = record {
    keeps = keeps_refl a;
    adds = adds_refl t w a;
    trail = trails_same cs a.types.resources ds a.types.resources h.changes refl;
    same = h.same;
    steps = steps h.steps;
  }

  -- from one that promises it whatever the table, and may add to the tables, but no resource
  pub added : {b : Tables} {l m : LocalInitializer} → l ≡ m → most_added t m ≡ 4
      → record {
        keeps : Keeps a b;
        adds : (u : TypeTable) → Adds u 4 a b;
        resources : b.types.resources ≡ a.types.resources;
        changes : ds ≡ cs;
        same : x ≡ y;
        steps : S;
      }
      → (S → T)
      → record {
        keeps : Keeps a b;
        adds : Adds t (most_added t l) a b;
        trail : Trails cs a.types.resources ds b.types.resources;
        same : x ≡ y;
        steps : T;
      }
  added {b = b} is four h steps = record {
    keeps = h.keeps;
    adds = subst (λ n. Adds t n a b) (sym (ap (most_added t) is ∙ four)) (h.adds t);
    trail = trails_same cs a.types.resources ds b.types.resources h.changes h.resources;
    same = h.same;
    steps = steps h.steps;
  }

  -- from one that may
  pub moved : {b : Tables} {l m : LocalInitializer} → l ≡ m
      → record {
        keeps : Keeps a b;
        adds : Adds t (most_added t m) a b;
        trail : Trails cs a.types.resources ds b.types.resources;
        same : x ≡ y;
        steps : S;
      }
      → (S → T)
      → record {
        keeps : Keeps a b;
        adds : Adds t (most_added t l) a b;
        trail : Trails cs a.types.resources ds b.types.resources;
        same : x ≡ y;
        steps : T;
      }
  moved {b = b} is h steps = record {
    keeps = h.keeps;
    adds = subst (λ i. Adds t (most_added t i) a b) (sym is) h.adds;
    trail = h.trail;
    same = h.same;
    steps = steps h.steps;
  }

module _ (t : TypeTable) (ms : List ModuleRecord) (c : Option ClosureId) (st : State) (f : Frame) (st' : State)
    (f' : Frame) (r : Result ⊤ ItemError) {l : LocalInitializer} where
  -- an item that is another
  pub same_local : {m : LocalInitializer} → l ≡ m → StepsLocal t ms c m st f st' f' r
      → StepsLocal t ms c l st f st' f' r
  same_local is h = subst (λ i. StepsLocal t ms c i st f st' f' r) (sym is) h

  -- import
  pub import_local : {name : ExternName} {ty : Entity} → l ≡ local.Import name ty
      → StepsItem t ms (import_item name ty) st f st' f' r
      → StepsLocal t ms c l st f st' f' r
  unfolding plain_item
  import_local {name = name} {ty = ty} is =
      local_plain t ms c st f st' f' r l (import_item name ty) (ap plain_item is)

  -- import of the intrinsics
  pub intrinsics_local : l ≡ local.IntrinsicsImport → StepsItem t ms intrinsics_import st f st' f' r
      → StepsLocal t ms c l st f st' f' r
  unfolding plain_item
  intrinsics_local is = local_plain t ms c st f st' f' r l intrinsics_import (ap plain_item is)

  -- resource
  pub resource_local : {id : ℕ} {representation : WasmValType} {destructor : Option ℕ}
      → l ≡ local.Resource id representation destructor
      → StepsItem t ms (resource_item id representation destructor) st f st' f' r → StepsLocal t ms c l st f st' f' r
  unfolding plain_item
  resource_local {id = id} {representation = representation} {destructor = destructor} is =
      local_plain t ms c st f st' f' r l (resource_item id representation destructor) (ap plain_item is)

  -- lift
  pub lift_local : {func ty core : ℕ} {opts xs : List CanonOption} → l ≡ local.Lift func ty core opts → xs ≡ opts
      → StepsItem t ms (lift_item func ty core xs) st f st' f' r → StepsLocal t ms c l st f st' f' r
  unfolding plain_item
  lift_local {func = func} {ty = ty} {core = core} {opts = opts} is same h =
      local_plain t ms c st f st' f' r l (lift_item func ty core opts) (ap plain_item is)
      (subst (λ ys. StepsItem t ms (lift_item func ty core ys) st f st' f' r) same h)

  -- lower
  pub lower_local : {func ty core : ℕ} {opts xs : List CanonOption} → l ≡ local.Lower func ty core opts → xs ≡ opts
      → StepsItem t ms (lower_item func ty core xs) st f st' f' r → StepsLocal t ms c l st f st' f' r
  unfolding plain_item
  lower_local {func = func} {ty = ty} {core = core} {opts = opts} is same h =
      local_plain t ms c st f st' f' r l (lower_item func ty core opts) (ap plain_item is)
      (subst (λ ys. StepsItem t ms (lower_item func ty core ys) st f st' f' r) same h)

  -- module
  pub module_local : {index : StaticModuleIndex} {ty : ℕ} → l ≡ local.ModuleStatic index ty
      → StepsItem t ms (module_item index.0 ty) st f st' f' r
      → StepsLocal t ms c l st f st' f' r
  unfolding plain_item
  module_local {index = index} {ty = ty} is =
      local_plain t ms c st f st' f' r l (module_item index.0 ty) (ap plain_item is)

  -- core instance
  pub core_instance_local : {m : ℕ} {args xs : List (List ℕ × ℕ)} → l ≡ local.ModuleInstantiate m args → xs ≡ args
      → StepsItem t ms (instantiate_module_item m xs) st f st' f' r → StepsLocal t ms c l st f st' f' r
  unfolding plain_item
  core_instance_local {m = m} {args = args} is same h =
      local_plain t ms c st f st' f' r l (instantiate_module_item m args) (ap plain_item is)
      (subst (λ ys. StepsItem t ms (instantiate_module_item m ys) st f st' f' r) same h)

  -- core exports
  pub core_exports_local : {items xs : List (List ℕ × EntityIndex)} → l ≡ local.ModuleSynthetic items → xs ≡ items
      → StepsItem t ms (core_exports_item xs) st f st' f' r → StepsLocal t ms c l st f st' f' r
  unfolding plain_item
  core_exports_local {items = items} is same h =
      local_plain t ms c st f st' f' r l (core_exports_item items) (ap plain_item is)
      (subst (λ ys. StepsItem t ms (core_exports_item ys) st f st' f' r) same h)

  -- core alias
  pub core_alias_local : {kind : CoreKind} {n : ℕ} {name : List ℕ} → l ≡ local.AliasCoreExport kind n name
      → StepsItem t ms (core_alias_item kind n name) st f st' f' r
      → StepsLocal t ms c l st f st' f' r
  unfolding plain_item
  core_alias_local {kind = kind} {n = n} {name = name} is =
      local_plain t ms c st f st' f' r l (core_alias_item kind n name) (ap plain_item is)

  -- component exports
  pub component_exports_local : {es xs : List (ExternName × ItemKind × ℕ)} {ty : ℕ}
      → l ≡ local.ComponentSynthetic es ty → xs ≡ es
      → StepsItem t ms (component_exports_item (map named_item xs) ty) st f st' f' r → StepsLocal t ms c l st f st' f' r
  unfolding plain_item
  component_exports_local {es = es} {ty = ty} is same h =
      local_plain t ms c st f st' f' r l (component_exports_item (map named_item es) ty) (ap plain_item is)
      (subst (λ ys. StepsItem t ms (component_exports_item (map named_item ys) ty) st f st' f' r) same h)

  -- alias
  pub alias_local : {kind : ItemKind} {n : ℕ} {name : List ℕ} → l ≡ local.AliasComponentExport kind n name
      → StepsItem t ms (alias_item kind n name) st f st' f' r
      → StepsLocal t ms c l st f st' f' r
  unfolding plain_item
  alias_local {kind = kind} {n = n} {name = name} is =
      local_plain t ms c st f st' f' r l (alias_item kind n name) (ap plain_item is)

  -- export
  pub export_local : {name : ExternName} {kind : ItemKind} {n : ℕ} → l ≡ local.Export name kind n
      → StepsItem t ms (export_item (record { name = name; kind = kind; index = n })) st f st' f' r
      → StepsLocal t ms c l st f st' f' r
  unfolding plain_item
  export_local {name = name} {kind = kind} {n = n} is =
      local_plain t ms c st f st' f' r l (export_item (record { name = name; kind = kind; index = n }))
      (ap plain_item is)
