-- The plan machine: it runs the initializers of a plan from front to back. A state holds core values in place of
-- definitions, so a step looks at what earlier steps made and no further.
use Rattle.std.specs.Prelude.{◌≡◌, ℕ, ◌+◌, ◌-◌, Bool, true, false, List, [], ◌∷◌, ◌++◌, length, filter, take, Option}
use Rattle.std.specs.Prelude.{Some, None, ◌&&◌, ◌==◌, nat_lt, nat_le, if◌then◌else◌, slice_get, option_and_then}
use Rattle.std.specs.Prelude.{option_map, is_some, count_by}
use Rattle.std.specs.List.{list_all, filter_map}
use Rattle.pc_types.specs.declared.parsed.CoreKind.TheVariants as kind
use Rattle.pc_types.specs.declared.module_record.ModuleRecord.{ModuleRecord}
use Rattle.pc_types.specs.declared.parsed.WasmValType.{WasmValType}
use Rattle.pc_types.specs.Record.{has_entity, export_of, index_kind, index_number, same_kind}
use Rattle.pc_entity.specs.Lists.{map_all}
use Rattle.pc_types.specs.TypeTree.{Path}
use Rattle.pc_types.specs.Table.{is_none_or}
use Rattle.pc_spec_plan.specs.CoreValue as value
use Rattle.pc_spec_plan.specs.CoreValue.{CoreValue, Options, DataModel, MaybeValue, Parts, Part, ExportedItem, by_index}
use Rattle.pc_spec_plan.specs.CoreValue.{by_name, no_value, a_value, no_parts, and_part}
use Rattle.pc_spec_plan.specs.ExportNode as node
use Rattle.pc_spec_plan.specs.ExportNode.{ExportNode, ExportNodes, NamedNode, no_nodes, and_node}
use Rattle.pc_spec_plan.specs.Log.{Instantiation, of_static, of_host, NamedArgument, Owned}
use Rattle.pc_spec_plan.specs.PlanView

-- a core instance of a run; one of an adapter module has no component instance
pub record RuntimeInstance (τ : Type 0) : Type 0 where
  pub instantiation : Instantiation τ
  pub component_instance : Option ℕ

-- a resource that the run declared
pub record DeclaredResource (τ : Type 0) : Type 0 where
  pub representation : WasmValType
  pub destructor : MaybeValue τ
  pub component_instance : ℕ

-- what a run has made so far: core instances, lowerings by their imports, slots of five kinds, resources
pub record State (τ : Type 0) : Type 0 where
  pub instances : List (RuntimeInstance τ)
  pub lowerings : List ℕ
  pub memories : List (CoreValue τ)
  pub tables : List (CoreValue τ)
  pub reallocs : List (CoreValue τ)
  pub callbacks : List (CoreValue τ)
  pub post_returns : List (CoreValue τ)
  pub resources : List (DeclaredResource τ)

-- where every run begins
abbrev pub start : {τ : Type 0} → State τ
start = record {
  instances = [];
  lowerings = [];
  memories = [];
  tables = [];
  reallocs = [];
  callbacks = [];
  post_returns = [];
  resources = [];
}

-- an instance that has a component instance, with that one
abbrev pub owned_by : {τ : Type 0} → Instantiation τ → Option ℕ → Option (Owned τ)
owned_by i (Some c) = Some (record { instantiation = i; component_instance = c })
owned_by i None = None

-- an instance of a state, where it has a component instance
abbrev pub owned_of : {τ : Type 0} → RuntimeInstance τ → Option (Owned τ)
owned_of m = owned_by m.instantiation m.component_instance

-- the instances of a state that were made for a component instance, in order
abbrev pub owned_instances : {τ : Type 0} → State τ → List (Owned τ)
owned_instances s = filter_map owned_of s.instances

-- how many of the first n instances were made for a component instance
abbrev pub owned_before : {τ : Type 0} → State τ → ℕ → ℕ
owned_before {τ} s n = count_by (λ (m : RuntimeInstance τ). is_some m.component_instance) (take n s.instances)

-- the slots of a kind that are filled
abbrev pub slots_of : {τ : Type 0} → State τ → PlanView.SlotKind → List (CoreValue τ)
slots_of s PlanView.memory = s.memories
slots_of s PlanView.table = s.tables
slots_of s PlanView.realloc = s.reallocs
slots_of s PlanView.callback = s.callbacks
slots_of s PlanView.post_return = s.post_returns

-- whether a module has an item
abbrev pub has_item : ModuleRecord → ExportedItem → Bool
has_item r (by_index e) = has_entity r e
has_item r (by_name name) = is_some (export_of r name)

-- a module of a plan: one that was handed in, or an adapter module with the records of its functions
pub data PlanModule (τ : Type 0) : Type 0 where
  handed_in : ModuleRecord → PlanModule τ
  adapter_module : List (PlanView.AdapterRecord τ) → PlanModule τ

-- a module by its number: the handed-in ones come first, then the adapter modules
abbrev pub module_at : {τ : Type 0} → PlanView.PlanView τ → ℕ → Option (PlanModule τ)
module_at {τ} p m =
    if nat_lt m (length p.handed_in)
    then option_map handed_in (slice_get p.handed_in m)
    else (if nat_lt m (length p.handed_in + p.adapter_modules)
    then Some (adapter_module (filter (λ (r : PlanView.AdapterRecord τ). r.core_module == m) p.adapters))
    else None)

-- the function that an item is, if it is one by index
abbrev pub function_of : ExportedItem → Option ℕ
function_of (by_index e) = if same_kind (index_kind e) kind.Func then Some (index_number e) else None
function_of (by_name name) = None

-- the first record of a function
abbrev pub record_of : {τ : Type 0} → List (PlanView.AdapterRecord τ) → ℕ → Option (PlanView.AdapterRecord τ)
record_of [] f = None
record_of (r ∷ rs) f = if r.function == f then Some r else record_of rs f

-- a definition that may be left out, by number: left out, or the one under the number
abbrev pub chosen : {τ : Type 0} → List (CoreValue τ) → Option ℕ → Option (MaybeValue τ)
chosen values None = Some no_value
chosen values (Some n) = option_map a_value (slice_get values n)

-- parts with numbers before them: what a helper's symbol says belongs to what it is
abbrev pub with_numbers : {τ : Type 0} → List ℕ → Parts τ → Parts τ
with_numbers [] parts = parts
with_numbers (n ∷ ns) parts = and_part (value.number_part n) (with_numbers ns parts)

-- whether a definition is of the kind of a slot; what only has a name is of any kind
abbrev pub fits : PlanView.SlotKind → PlanView.Definition → Bool
fits k (PlanView.export r (by_name name)) = true
fits PlanView.memory (PlanView.export r (by_index e)) = same_kind (index_kind e) kind.Memory
fits PlanView.table (PlanView.export r (by_index e)) = same_kind (index_kind e) kind.Table
fits k (PlanView.export r (by_index e)) = same_kind (index_kind e) kind.Func
fits PlanView.memory d = false
fits PlanView.table d = false
fits k (PlanView.flags c) = false
fits k d = true

-- whether the places that a record names are among so many arguments
abbrev pub is_place : ℕ → Option ℕ → Bool
is_place n place = is_none_or (λ i. nat_lt i n) place

-- whether the places that options name are among so many arguments
abbrev pub has_model_places : ℕ → PlanView.ModelEntry → Bool
has_model_places n PlanView.gc = true
has_model_places n (PlanView.linear m r) = is_place n m && is_place n r

-- the same of all options of a side
abbrev pub has_option_places : {τ : Type 0} → ℕ → PlanView.PlanOptions τ → Bool
has_option_places n o = is_place n o.callback && is_place n o.post_return && has_model_places n o.model

-- the same of an adapter's record: its callee, and the options of both sides
abbrev pub has_places : {τ : Type 0} → ℕ → PlanView.AdapterRecord τ → Bool
has_places n r = nat_lt r.callee n && has_option_places n r.lift && has_option_places n r.lower

-- a state with one more core instance
abbrev pub add_instance : {τ : Type 0} → State τ → Instantiation τ → Option ℕ → State τ
add_instance s i c = record s { instances = s.instances ++ record { instantiation = i; component_instance = c } ∷ [] }

-- a state with one more slot of a kind
abbrev pub fill : {τ : Type 0} → State τ → PlanView.SlotKind → CoreValue τ → State τ
fill s PlanView.memory v = record s { memories = s.memories ++ v ∷ [] }
fill s PlanView.table v = record s { tables = s.tables ++ v ∷ [] }
fill s PlanView.realloc v = record s { reallocs = s.reallocs ++ v ∷ [] }
fill s PlanView.callback v = record s { callbacks = s.callbacks ++ v ∷ [] }
fill s PlanView.post_return v = record s { post_returns = s.post_returns ++ v ∷ [] }

module _ {τ : Type 0} (p : PlanView.PlanView τ) where
  -- a component instance that the plan counts
  abbrev pub is_counted : ℕ → Bool
  is_counted c = nat_lt c p.counts.component_instances

  -- the path of a runtime import whose import type is there
  abbrev pub path_of : ℕ → Option Path
  path_of r =
      option_and_then (λ (i : PlanView.RuntimeImport).
      option_map (λ (t : PlanView.ImportType τ). record { import = i.import_type; names = i.names })
      (slice_get p.import_types i.import_type))
      (slice_get p.imports r)

  -- memory and realloc, from the values that their numbers stand for
  abbrev pub model_from : (memories reallocs : List (CoreValue τ)) → PlanView.ModelEntry → Option (DataModel τ)
  model_from memories reallocs PlanView.gc = Some value.gc
  model_from memories reallocs (PlanView.linear m r) =
      option_and_then (λ v. option_map (value.linear v) (chosen reallocs r)) (chosen memories m)

  -- options, from the values that their numbers stand for
  abbrev pub options_from : (callbacks post_returns memories reallocs : List (CoreValue τ)) → PlanView.PlanOptions τ
      → Option (Options τ)
  options_from callbacks post_returns memories reallocs o =
      if is_counted o.component_instance
      then option_and_then (λ cb. option_and_then (λ pr.
      option_map (value.options o.component_instance o.encoding o.is_async o.signature cb pr)
      (model_from memories reallocs o.model))
      (chosen post_returns o.post_return)) (chosen callbacks o.callback)
      else None

  -- one side of an adapter, over the arguments of the module's instance
  abbrev pub side_options : List (CoreValue τ) → PlanView.PlanOptions τ → Option (Options τ)
  side_options args o = options_from args args args args o

  -- the adapter that a record stands for, over the arguments of the module's instance
  abbrev pub adapter_from : List (CoreValue τ) → PlanView.AdapterRecord τ → Option (CoreValue τ)
  adapter_from args r =
      option_and_then (λ lift. option_and_then (λ lower. option_map (value.adapter r.lift_type lift r.lower_type lower)
      (slice_get args r.callee)) (side_options args r.lower)) (side_options args r.lift)

  -- an item of an instance of a module of the plan; `n` instances with a component instance came before
  abbrev pub static_item : (n : ℕ) → List (CoreValue τ) → ExportedItem → PlanModule τ → Option (CoreValue τ)
  static_item n args item (handed_in r) = if has_item r item then Some (value.exported n item) else None
  static_item n args item (adapter_module rs) =
      option_and_then (adapter_from args) (option_and_then (record_of rs) (function_of item))

  -- an item of an instance, whatever its module
  abbrev pub instance_item : (n : ℕ) → ExportedItem → Instantiation τ → Option (CoreValue τ)
  instance_item n item (of_static m args) = option_and_then (static_item n args item) (module_at p m)
  instance_item n item (of_host path args) = Some (value.exported n item)

  -- an item of a runtime instance
  abbrev pub exported_item : State τ → (runtime_instance : ℕ) → ExportedItem → Option (CoreValue τ)
  exported_item s r item =
      option_and_then (λ (m : RuntimeInstance τ). instance_item (owned_before s r) item m.instantiation)
      (slice_get s.instances r)

  -- an entry of the list of options, with the slots that it names
  abbrev pub options_at : State τ → ℕ → Option (Options τ)
  options_at s n =
      option_and_then (options_from s.callbacks s.post_returns s.memories s.reallocs) (slice_get p.options n)

  -- a part of a trampoline, with the slot or options that it names
  abbrev pub part_value : State τ → PlanView.TrampolinePart τ → Option (Part τ)
  part_value s (PlanView.mark m) = Some (value.mark_part m)
  part_value s (PlanView.number n) = Some (value.number_part n)
  part_value s (PlanView.flag b) = Some (value.flag_part b)
  part_value s (PlanView.slot k n) = option_map value.value_part (chosen (slots_of s k) n)
  part_value s (PlanView.options n) = option_map value.options_part (options_at s n)

  -- the parts of a trampoline, if each has what it names
  abbrev pub part_values : State τ → List (PlanView.TrampolinePart τ) → Option (Parts τ)
  part_values s [] = Some no_parts
  part_values s (x ∷ xs) = option_and_then (λ v. option_map (and_part v) (part_values s xs)) (part_value s x)

  -- the core value of a trampoline
  abbrev pub trampoline_value : State τ → PlanView.TrampolineEntry τ → Option (CoreValue τ)
  trampoline_value s (PlanView.lowers index signature ty o) =
      option_and_then (λ path. option_map (value.lowered path ty) (options_at s o))
      (option_and_then path_of (slice_get s.lowerings index))
  trampoline_value s (PlanView.builtin k symbol c parts) =
      if is_counted c then option_map (value.builtin k c) (part_values s parts) else None
  trampoline_value s (PlanView.helper k symbol parts) =
      option_map (λ ps. value.helper k (with_numbers symbol ps)) (part_values s parts)

  -- the core value of a definition, or nothing where something that it needs isn't there
  abbrev pub resolve : State τ → PlanView.Definition → Option (CoreValue τ)
  resolve s (PlanView.export r item) = exported_item s r item
  resolve s (PlanView.flags c) = if is_counted c then Some (value.flags c) else None
  resolve s (PlanView.trampoline t) = option_and_then (trampoline_value s) (slice_get p.trampolines t)
  resolve s (PlanView.intrinsic i) =
      option_and_then (option_map (λ (signature : τ). value.intrinsic i)) (slice_get p.intrinsics i)

  -- the value of a definition that may be left out
  abbrev pub resolve_maybe : State τ → Option PlanView.Definition → Option (MaybeValue τ)
  resolve_maybe s None = Some no_value
  resolve_maybe s (Some d) = option_map a_value (resolve s d)

  -- the argument of a host module
  abbrev pub resolve_named : State τ → PlanView.NamedDefinition → Option (NamedArgument τ)
  resolve_named s a =
      option_map (λ v. record { module_name = a.module_name; name = a.name; value = v }) (resolve s a.definition)

  -- whether a module may be made with so many arguments for this component instance, or for none
  abbrev pub can_make : PlanModule τ → ℕ → Option ℕ → Bool
  can_make (handed_in r) n (Some c) = n == length r.imports && is_counted c
  can_make (handed_in r) n None = false
  can_make (adapter_module rs) n (Some c) = false
  can_make (adapter_module rs) n None = list_all (has_places n) rs

  -- one initializer, over the runtime imports that are linked; nothing where it is stuck
  abbrev pub step : (linked : ℕ → Bool) → State τ → PlanView.Initializer → Option (State τ)
  step linked s (PlanView.instantiate_static m args c) =
      option_and_then (λ (core : PlanModule τ). option_and_then (λ (vs : List (CoreValue τ)).
      if can_make core (length vs) c then Some (add_instance s (of_static m vs) c) else None)
      (map_all (resolve s) args)) (module_at p m)
  step linked s (PlanView.instantiate_import r args None) = None
  step linked s (PlanView.instantiate_import r args (Some c)) =
      option_and_then (λ (path : Path). option_and_then (λ (vs : List (NamedArgument τ)).
      if linked r && is_counted c then Some (add_instance s (of_host path vs) (Some c)) else None)
      (map_all (resolve_named s) args)) (path_of r)
  step linked s (PlanView.lower_import index r) =
      option_and_then (λ (path : Path).
      if linked r && index == length s.lowerings then Some (record s { lowerings = s.lowerings ++ r ∷ [] }) else None)
      (path_of r)
  step linked s (PlanView.extract k index d) =
      option_and_then (λ (v : CoreValue τ).
      if fits k d && index == length (slots_of s k) then Some (fill s k v) else None) (resolve s d)
  step linked s (PlanView.declare_resource index representation d c) =
      option_and_then (λ (v : MaybeValue τ).
      if index == length s.resources && is_counted c
      then Some (record s {
        resources = s.resources
            ++ record { representation = representation; destructor = v; component_instance = c } ∷ [];
      })
      else None) (resolve_maybe s d)

  -- whether each list of a state is within the plan's count of its kind; the count of resources is that of the
  -- imported ones and of those that the run declares
  abbrev pub is_within : State τ → Bool
  is_within s =
      nat_le (length s.instances) p.counts.runtime_instances
      && nat_le (length s.lowerings) p.counts.lowerings
      && nat_le (length s.memories) p.counts.memories
      && nat_le (length s.tables) p.counts.tables
      && nat_le (length s.reallocs) p.counts.reallocs
      && nat_le (length s.callbacks) p.counts.callbacks
      && nat_le (length s.post_returns) p.counts.post_returns
      && nat_le (length s.resources) (p.counts.resources - length p.imported_resources)

  -- the state after these initializers, each within the counts; nothing where one is stuck
  abbrev pub run_from : (linked : ℕ → Bool) → List PlanView.Initializer → State τ → Option (State τ)
  run_from linked [] s = Some s
  run_from linked (i ∷ is) s =
      option_and_then (λ (next : State τ). if is_within next then run_from linked is next else None) (step linked s i)

  -- the last state of a plan's run from nothing, all imports being linked
  abbrev pub run : Option (State τ)
  run = run_from (λ r. true) p.initializers start

  abbrev mutual
    -- what an export is in a state
    pub export_node : State τ → PlanView.PlanExport τ → Option (ExportNode τ)
    export_node s (PlanView.lifted ty d o) =
        option_and_then (λ v. option_map (node.lifted ty v) (options_at s o)) (resolve s d)
    export_node s (PlanView.imported_function ty r) = option_map (node.imported_function ty) (path_of r)
    export_node s (PlanView.static_module m ty) =
        if nat_lt m (length p.handed_in) then Some (node.static_module m ty) else None
    export_node s (PlanView.host_module r ty) = option_map (λ path. node.host_module path ty) (path_of r)
    export_node s (PlanView.instance ty exports) = option_map (node.instance ty) (nested_nodes s exports)
    export_node s (PlanView.type_export ty) = Some (node.type_node ty)

    pub nested_nodes : State τ → PlanView.PlanExports τ → Option (ExportNodes τ)
    nested_nodes s PlanView.no_exports = Some no_nodes
    nested_nodes s (PlanView.and_export name meta item rest) =
        option_and_then (λ n. option_map (and_node name meta n) (nested_nodes s rest)) (export_node s item)

  -- an export of the root with its node
  abbrev pub named_node : State τ → PlanView.NamedExport τ → Option (NamedNode τ)
  named_node s e =
      option_map (λ n. record { name = e.name; extern_data = e.extern_data; node = n }) (export_node s e.item)

  -- what the plan exports in a state, or nothing where an export doesn't resolve
  abbrev pub export_nodes : State τ → Option (List (NamedNode τ))
  export_nodes s = map_all (named_node s) p.exports

  -- a plan that never gets stuck: each initializer has its step, and each export is there in the end
  pub record NeverStuck : Type 0 where
    pub last : State τ
    pub nodes : List (NamedNode τ)
    pub runs : run ≡ Some last
    pub ends : export_nodes last ≡ Some nodes
