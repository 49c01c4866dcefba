-- Rows with imports of the root.
use Rattle.std.specs.Prelude.{ℕ, false, List, [], ◌∷◌, ◌++◌, codes}
use Rattle.pc_types.specs.declared.error.Unsupported.TheVariants as refusal
use Rattle.pc_types.specs.TypeTree.{TypeTree, Path, module_of, core_memory, core_table, instance_of, and_field}
use Rattle.pc_types.specs.TypeTree.{no_fields, resource_of, concrete, imported, func_of, no_tree}
use Rattle.pc_spec_plan.specs.CoreValue.{CoreValue, a_value, lowered}
use Rattle.pc_spec_plan.specs.ExportNode as node
use Rattle.pc_spec_plan.specs.ExportNode.{and_node, no_nodes}
use Rattle.pc_spec_plan.specs.Log.{Entry, NamedArgument, instantiated, of_host, needed, declared}
use Rattle.pc_parsed.specs.Mark.{Mark, of_type}
use Rattle.pc_spec_reading.specs.Outcome.{Outcome, unsupported}
use Rattle.pc_spec_reading.specs.Reading.{Reading}
use Rattle.pc_spec_examples.specs.Means.{finished, given, stuck}
use Rattle.pc_spec_examples.specs.Words.{import_named, func_of_instance, memory_of_instance, with_memory, ran, path}
use Rattle.pc_spec_examples.specs.Words.{node_named, no_data, two_i32, of_string}

-- a host function, lowered with a memory and a realloc, and given to a module; what follows isn't said yet
abbrev pub lowering_start : List ℕ
lowering_start =
    codes "{\"limit\":100,\"intrinsics\":null,\"types\":{\"core\":[[[\"i32\",\"i32\"],[]],[[\"i32\",\"i32\",\"i32\","
    ++ codes "\"i32\"],[\"i32\"]]],\"types\":[{\"func\":{\"params\":[[\"s\",\"string\"]],\"result\":null,"
    ++ codes "\"async\":false}},{\"module\":[[],[]]}]},\"payloads\":[\"version\",{\"imports\":[[\"log\",[\"func\","
    ++ codes "0]]]},{\"module\":{\"ty\":1,\"imports\":[],\"funcs\":[1],\"tables\":0,\"memories\":[false],\"globals\":0,"
    ++ codes "\"tags\":0,\"exports\":[[\"mem\",\"memory\",0],[\"realloc\",\"func\",0]]}},{\"module\":{\"ty\":1,"
    ++ codes "\"imports\":[[\"env\",\"log\",[\"func\",0]]],\"funcs\":[],\"tables\":0,\"memories\":[],\"globals\":0,"
    ++ codes "\"tags\":0,\"exports\":[]}},{\"instances\":[{\"instantiate\":[0,[]]}]},"
    ++ codes "{\"aliases\":[{\"core-export\":[\"memory\",0,\"mem\"]},{\"core-export\":[\"func\",0,\"realloc\"]}]},"
    ++ codes "{\"canon\":[[\"lower\",0,0,0,[[\"memory\",0],[\"realloc\",0]]]]},{\"instances\":[{\"exports\":[[\"log\","
    ++ codes "\"func\",1]]},{\"instantiate\":[1,[[\"env\",1]]]}]},"

-- nothing follows
abbrev pub host_lowering_text : List ℕ
host_lowering_text = lowering_start ++ codes "\"end\"]}"

-- the nth import, lowered with the memory of the first core instance and with a realloc
abbrev pub lowering : (import : ℕ) → (realloc : CoreValue Mark) → CoreValue Mark
lowering n realloc =
    lowered (path n []) (of_type of_string) (with_memory 0 two_i32 (memory_of_instance 0 0) (a_value realloc))

-- a core value of it
abbrev pub log_lowering : CoreValue Mark
log_lowering = lowering 0 (func_of_instance 0 0)

-- what is done
abbrev pub lowering_log : List (Entry Mark)
lowering_log = ran 0 [] 0 ∷ needed (path 0 []) ∷ declared log_lowering ∷ ran 1 (log_lowering ∷ []) 0 ∷ []

-- the host function is needed where it is lowered
abbrev pub host_lowering : Outcome Reading
host_lowering = given (import_named (codes "log") of_string ∷ []) [] (finished lowering_log [] 1)

-- it is exported too
abbrev pub re_export_beside_text : List ℕ
re_export_beside_text = lowering_start ++ codes "{\"exports\":[[\"again\",\"func\",0]]},\"end\"]}"

-- it is needed once more where its node is reached
abbrev pub re_export_beside : Outcome Reading
re_export_beside =
    given (import_named (codes "log") of_string ∷ []) []
    (finished (lowering_log ++ needed (path 0 []) ∷ [])
    (node_named (codes "again") (node.imported_function (of_type of_string) (path 0 [])) ∷ [])
    1)

-- a lowering whose realloc is a lowering
abbrev pub realloc_is_a_lowering_text : List ℕ
realloc_is_a_lowering_text =
    codes "{\"limit\":100,\"intrinsics\":null,\"types\":{\"core\":[[[\"i32\",\"i32\"],[]],[[\"i32\",\"i32\",\"i32\","
    ++ codes "\"i32\"],[\"i32\"]]],\"types\":[{\"func\":{\"params\":[[\"s\",\"string\"]],\"result\":null,"
    ++ codes "\"async\":false}},{\"module\":[[],[]]}]},\"payloads\":[\"version\",{\"imports\":[[\"log\",[\"func\",0]],"
    ++ codes "[\"grow\",[\"func\",0]]]},{\"module\":{\"ty\":1,\"imports\":[],\"funcs\":[1],\"tables\":0,"
    ++ codes "\"memories\":[false],\"globals\":0,\"tags\":0,\"exports\":[[\"mem\",\"memory\",0],[\"realloc\",\"func\","
    ++ codes "0]]}},{\"module\":{\"ty\":1,\"imports\":[[\"env\",\"log\",[\"func\",0]]],\"funcs\":[],\"tables\":0,"
    ++ codes "\"memories\":[],\"globals\":0,\"tags\":0,\"exports\":[]}},{\"instances\":[{\"instantiate\":[0,[]]}]},"
    ++ codes "{\"aliases\":[{\"core-export\":[\"memory\",0,\"mem\"]},{\"core-export\":[\"func\",0,\"realloc\"]}]},"
    ++ codes "{\"canon\":[[\"lower\",1,0,0,[[\"memory\",0],[\"realloc\",0]]],[\"lower\",0,0,0,[[\"memory\",0],"
    ++ codes "[\"realloc\",1]]]]},{\"instances\":[{\"exports\":[[\"log\",\"func\",2]]},{\"instantiate\":[1,[[\"env\","
    ++ codes "1]]]}]},\"end\"]}"

-- a core value of it
abbrev pub grow_lowering : CoreValue Mark
grow_lowering = lowering 1 (func_of_instance 0 0)

-- the second import is needed first
abbrev pub realloc_is_a_lowering : Outcome Reading
realloc_is_a_lowering =
    given (import_named (codes "log") of_string ∷ import_named (codes "grow") of_string ∷ []) []
    (finished
    (ran 0 [] 0 ∷ needed (path 1 []) ∷ declared grow_lowering ∷ needed (path 0 []) ∷ declared (lowering 0 grow_lowering)
    ∷ ran 1 (lowering 0 grow_lowering ∷ []) 0 ∷ [])
    [] 1)

-- a host module, made and exported
abbrev pub host_module_text : List ℕ
host_module_text =
    codes "{\"limit\":100,\"intrinsics\":null,\"types\":{\"core\":[],\"types\":[{\"module\":[[[\"e\",\"m\","
    ++ codes "[\"memory\",false]]],[[\"g\",[\"table\"]]]]},{\"module\":[[],[]]}]},\"payloads\":[\"version\","
    ++ codes "{\"imports\":[[\"h\",[\"module\",0]]]},{\"module\":{\"ty\":1,\"imports\":[],\"funcs\":[],\"tables\":0,"
    ++ codes "\"memories\":[false],\"globals\":0,\"tags\":0,\"exports\":[[\"m\",\"memory\",0]]}},"
    ++ codes "{\"instances\":[{\"instantiate\":[1,[]]},{\"instantiate\":[0,[[\"e\",0]]]}]},{\"exports\":[[\"h2\","
    ++ codes "\"module\",0]]},\"end\"]}"

-- the type of the host module: it imports a memory and exports a table
abbrev pub host_module_type : TypeTree
host_module_type = module_of ((codes "e", codes "m", core_memory false) ∷ []) ((codes "g", core_table) ∷ [])

-- what it is given
abbrev pub given_memory : NamedArgument Mark
given_memory = record { module_name = codes "e"; name = codes "m"; value = memory_of_instance 0 0 }

-- it is needed where it is made, and where it is exported
abbrev pub host_module : Outcome Reading
host_module =
    given (import_named (codes "h") host_module_type ∷ []) []
    (finished
    (ran 0 [] 0 ∷ needed (path 0 [])
    ∷ instantiated (of_host (path 0 []) (given_memory ∷ [])) 0
    ∷ needed (path 0 []) ∷ [])
    (node_named (codes "h2") (node.host_module (path 0 []) (of_type host_module_type)) ∷ [])
    1)

-- a host instance with a resource, which is needed when the import is prepared
abbrev pub host_resource_text : List ℕ
host_resource_text =
    codes "{\"limit\":100,\"intrinsics\":null,\"types\":{\"core\":[],\"types\":[\"resource\",{\"instance\":[[\"r\","
    ++ codes "[\"type\",0]]]}]},\"payloads\":[\"version\",{\"imports\":[[\"i\",[\"instance\",1]]]},\"end\"]}"

-- the path of the resource
abbrev pub r_path : Path
r_path = path 0 (codes "r" ∷ [])

-- the type of the host instance, whose resource is known
abbrev pub host_instance_type : TypeTree
host_instance_type = instance_of (and_field (codes "r") (resource_of (concrete (imported r_path) 0)) no_fields)

-- its outcome
abbrev pub host_resource : Outcome Reading
host_resource =
    given (import_named (codes "i") host_instance_type ∷ []) (r_path ∷ []) (finished (needed r_path ∷ []) [] 1)

-- a component of the host
abbrev pub component_import_text : List ℕ
component_import_text =
    codes "{\"limit\":100,\"intrinsics\":null,\"types\":{\"core\":[],\"types\":[{\"component\":[[],[]]}]},"
    ++ codes "\"payloads\":[\"version\",{\"imports\":[[\"c\",[\"component\",0]]]},\"end\"]}"

-- its outcome
abbrev pub component_import : Outcome Reading
component_import = stuck (unsupported refusal.ComponentImport) 0 0

-- a host instance with a function, exported again
abbrev pub re_export_text : List ℕ
re_export_text =
    codes "{\"limit\":100,\"intrinsics\":null,\"types\":{\"core\":[],\"types\":[{\"func\":{\"params\":[],"
    ++ codes "\"result\":null,\"async\":false}},{\"instance\":[[\"f\",[\"func\",0]]]}]},\"payloads\":[\"version\","
    ++ codes "{\"imports\":[[\"i\",[\"instance\",1]]]},{\"exports\":[[\"e\",\"instance\",0]]},\"end\"]}"

-- the type of the instance, whose function is of nothing to nothing
abbrev pub with_f : TypeTree
with_f = instance_of (and_field (codes "f") (func_of no_fields no_tree false) no_fields)

-- the instance has a node for the function, which is needed there
abbrev pub re_export : Outcome Reading
re_export =
    given (import_named (codes "i") with_f ∷ []) []
    (finished (needed (path 0 (codes "f" ∷ [])) ∷ [])
    (node_named (codes "e")
    (node.instance (of_type with_f)
    (and_node (codes "f") no_data
    (node.imported_function (of_type (func_of no_fields no_tree false)) (path 0 (codes "f" ∷ [])))
    no_nodes))
    ∷ [])
    1)
