-- Items and bodies: what the payloads of a component say, one constructor for each row of the table of items. Numbers
-- and options stand as they are written.
use Rattle.std.specs.Prelude.{ℕ, Bool, List, [], ◌∷◌, ◌++◌, Option}
use Rattle.pc_numbers.specs.declared.entity_index.EntityIndex.{EntityIndex}
use Rattle.pc_types.specs.declared.parsed.CoreKind.{CoreKind}
use Rattle.pc_types.specs.declared.parsed.Entity.{Entity}
use Rattle.pc_types.specs.declared.parsed.ValType.{ValType}
use Rattle.pc_types.specs.declared.parsed.WasmValType.{WasmValType}
use Rattle.pc_types.specs.declared.trampoline.TrampolineKind.{TrampolineKind}
use Rattle.pc_parsed.specs.declared.canon.CanonOption.{CanonOption}
use Rattle.pc_parsed.specs.declared.payload.ExternName.{ExternName}
use Rattle.pc_parsed.specs.declared.payload.ItemKind.{ItemKind}

-- what a builtin names beside its signature
pub data Operand : Type 0 where
  -- a resource, by table number
  a_resource : (id : ℕ) → Operand
  -- a stream type or a future type, by table number
  a_stream : (ty : ℕ) → Operand
  a_future : (ty : ℕ) → Operand
  -- whether it is async
  a_flag : Bool → Operand
  the_options : List CanonOption → Operand

-- the two slots of a context are read or written
pub data Access : Type 0 where
  getting : Access
  setting : Access

-- what a scope lends to the bodies inside it
pub data Lent : Type 0 where
  a_module : Lent
  a_component : Lent

-- what an export names: an item by kind and index, or a type by table number
pub record ExportOf : Type 0 where
  pub name : ExternName
  pub kind : ItemKind
  pub index : ℕ

-- what an argument names, under the name that it is given for
pub record ArgumentOf : Type 0 where
  pub name : List ℕ
  pub kind : ItemKind
  pub index : ℕ

mutual
  -- an item
  pub data Item : Type 0 where
    import_item : ExternName → Entity → Item
    intrinsics_import : Item
    resource_item : (id : ℕ) → (representation : WasmValType) → (destructor : Option ℕ) → Item
    lift_item : (func ty signature : ℕ) → List CanonOption → Item
    lower_item : (func ty signature : ℕ) → List CanonOption → Item
    builtin_item : TrampolineKind → (signature : ℕ) → List Operand → Item
    waitable_item : TrampolineKind → (signature memory : ℕ) → Item
    task_return_item : (signature : ℕ) → (result : Option ValType) → List CanonOption → Item
    error_context_item : TrampolineKind → (signature : ℕ) → (options : Option (List CanonOption)) → Item
    context_item : Access → (signature slot : ℕ) → Item
    new_thread_item : (signature start_type table : ℕ) → Item
    module_item : (number ty : ℕ) → Item
    instantiate_module_item : (core_module : ℕ) → List (List ℕ × ℕ) → Item
    core_exports_item : List (List ℕ × EntityIndex) → Item
    component_item : Items → Item
    instantiate_component_item : (component : ℕ) → List ArgumentOf → (ty : ℕ) → Item
    component_exports_item : List ExportOf → (ty : ℕ) → Item
    core_alias_item : CoreKind → (instance : ℕ) → List ℕ → Item
    alias_item : ItemKind → (instance : ℕ) → List ℕ → Item
    outer_item : Lent → (count index : ℕ) → Item
    export_item : ExportOf → Item

  -- a body: its items, in order; the place of one is its number
  pub data Items : Type 0 where
    no_items : Items
    and_item : Item → Items → Items

-- items that stand before others
abbrev pub before : List Item → Items → Items
before [] is = is
before (i ∷ rest) is = and_item i (before rest is)

-- the exports among the items of a body, in order
abbrev pub exports_in : Items → List ExportOf
exports_in no_items = []
exports_in (and_item (export_item e) is) = e ∷ exports_in is
exports_in (and_item i is) = exports_in is

-- the bodies inside a body, in the order in which they end: the number of one is its place here
abbrev mutual
  -- those inside the items of a body
  pub bodies_in : Items → List Items
  bodies_in no_items = []
  bodies_in (and_item i is) = bodies_of i ++ bodies_in is

  -- a nested body stands behind those inside it
  pub bodies_of : Item → List Items
  bodies_of (component_item body) = bodies_in body ++ body ∷ []
  bodies_of _ = []
