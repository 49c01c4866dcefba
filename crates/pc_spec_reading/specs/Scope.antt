-- What a reading knows at one moment: the scope of the component instance that it reads, and what all of them share.
use Rattle.std.specs.Prelude.{ℕ, List, [], ◌∷◌, ◌++◌}
use Rattle.pc_types.specs.declared.parsed.CoreFuncSig.{CoreFuncSig}
use Rattle.pc_types.specs.declared.parsed.CoreKind.{CoreKind}
use Rattle.pc_types.specs.declared.parsed.CoreKind.TheVariants as core
use Rattle.pc_types.specs.TypeTree.{TypeTree, Identity}
use Rattle.pc_spec_plan.specs.CoreValue.{CoreValue, intrinsic}
use Rattle.pc_spec_plan.specs.Log.{Entry}
use Rattle.pc_parsed.specs.Mark.{Mark}
use Rattle.pc_spec_reading.specs.Value.{Function, Module, Instance, Component, Value, Chain, inside, pack_components}
use Rattle.pc_spec_reading.specs.Value as value
use Rattle.pc_spec_reading.specs.World.{World, logging, with_intrinsic}

-- an item of a bag, with its kind
pub record CoreItem : Type 0 where
  pub kind : CoreKind
  pub value : CoreValue Mark

-- a core instance: the nth that was made, of a handed-in module or of a host module with its type; or a bag of items
pub data CoreInstance : Type 0 where
  of_module : (order : ℕ) → (number : ℕ) → CoreInstance
  of_host_module : (order : ℕ) → (module_type : TypeTree) → CoreInstance
  bag : List (List ℕ × CoreItem) → CoreInstance

-- the ten lists of a component instance, into which an index counts; its arguments by name; the resources that it
-- knows, by table number; the scopes around its component; and its own number
pub record Scope : Type 0 where
  pub core_funcs : List (CoreValue Mark)
  pub memories : List (CoreValue Mark)
  pub tables : List (CoreValue Mark)
  pub globals : List (CoreValue Mark)
  pub tags : List (CoreValue Mark)
  pub modules : List Module
  pub funcs : List Function
  pub core_instances : List CoreInstance
  pub instances : List Instance
  pub components : List Component
  pub arguments : List (List ℕ × Value)
  pub known : List (ℕ × Identity)
  pub chain : Chain
  pub component_instance : ℕ

-- the scope in which a component instance begins
abbrev pub fresh : List (List ℕ × Value) → List (ℕ × Identity) → Chain → (component_instance : ℕ) → Scope
fresh args known chain c = record {
  core_funcs = [];
  memories = [];
  tables = [];
  globals = [];
  tags = [];
  modules = [];
  funcs = [];
  core_instances = [];
  instances = [];
  components = [];
  arguments = args;
  known = known;
  chain = chain;
  component_instance = c;
}

-- a scope in a world
pub record Moment : Type 0 where
  pub scope : Scope
  pub world : World

-- the chain of what is defined in a scope now: the scope itself, then the scopes around it
abbrev pub chain_of : Scope → Chain
chain_of s = inside s.modules (pack_components s.components) s.chain

-- the values of a scope that are of a core kind
abbrev pub core_list : Scope → CoreKind → List (CoreValue Mark)
core_list s core.Func = s.core_funcs
core_list s core.Table = s.tables
core_list s core.Memory = s.memories
core_list s core.Global = s.globals
core_list s core.Tag = s.tags

-- a scope with one more core value of a kind
abbrev pub with_core : Scope → CoreKind → CoreValue Mark → Scope
with_core s core.Func v = record s { core_funcs = s.core_funcs ++ v ∷ [] }
with_core s core.Table v = record s { tables = s.tables ++ v ∷ [] }
with_core s core.Memory v = record s { memories = s.memories ++ v ∷ [] }
with_core s core.Global v = record s { globals = s.globals ++ v ∷ [] }
with_core s core.Tag v = record s { tags = s.tags ++ v ∷ [] }

-- a scope with one more item; a type adds nothing
abbrev pub with_value : Scope → Value → Scope
with_value s (value.func_value f) = record s { funcs = s.funcs ++ f ∷ [] }
with_value s (value.module_value m) = record s { modules = s.modules ++ m ∷ [] }
with_value s (value.instance_value i) = record s { instances = s.instances ++ i ∷ [] }
with_value s (value.component_value c) = record s { components = s.components ++ c ∷ [] }
with_value s (value.type_value t) = s

-- a scope with one more core instance
abbrev pub with_core_instance : Scope → CoreInstance → Scope
with_core_instance s i = record s { core_instances = s.core_instances ++ i ∷ [] }

-- a moment in which these resources are known
abbrev pub with_known : Moment → List (ℕ × Identity) → Moment
with_known now known = record now { scope = record now.scope { known = known } }

-- moments with an item, a core item, a core instance or an entry more
abbrev pub add_value : Moment → Value → Moment
add_value now v = record now { scope = with_value now.scope v }

-- one more core item
abbrev pub add_core : Moment → CoreKind → CoreValue Mark → Moment
add_core now k v = record now { scope = with_core now.scope k v }

-- one more core instance
abbrev pub add_core_instance : Moment → CoreInstance → Moment
add_core_instance now i = record now { scope = with_core_instance now.scope i }

-- one more entry in the log
abbrev pub add_entry : Moment → Entry Mark → Moment
add_entry now e = record now { world = logging now.world e }

-- one more core function, which is an intrinsic
abbrev pub add_intrinsic : Moment → (place : ℕ) → CoreFuncSig → Moment
add_intrinsic now place s =
    add_core (record now { world = with_intrinsic now.world (record { place = place; signature = s }) }) core.Func
    (intrinsic place)
