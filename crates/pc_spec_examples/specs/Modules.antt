-- Core modules, core instances and core aliases.
use Rattle.std.specs.Prelude.{ℕ, true, List, [], ◌∷◌, ◌++◌, codes}
use Rattle.pc_types.specs.TypeTree.{TypeTree, module_of, core_func, core_table, core_memory, core_global}
use Rattle.pc_spec_plan.specs.CoreValue.{CoreValue, exported, by_name}
use Rattle.pc_spec_plan.specs.Log.{NamedArgument, instantiated, of_host, needed}
use Rattle.pc_parsed.specs.Mark.{Mark}
use Rattle.pc_spec_reading.specs.Outcome.{Outcome, invalid, bad_type}
use Rattle.pc_spec_reading.specs.Reading.{Reading}
use Rattle.pc_spec_examples.specs.Means.{finished, given, stuck}
use Rattle.pc_spec_examples.specs.Words.{import_named, func_of_instance, memory_of_instance, table_of_instance, ran, path}
use Rattle.pc_spec_examples.specs.Words.{i32_to_i32}

-- a host module, whose imports are given by module name, and whose exports go through a bag to another module
abbrev pub host_items_text : List ℕ
host_items_text =
    codes "{\"limit\":100,\"intrinsics\":null,\"types\":{\"core\":[[[\"i32\"],[\"i32\"]]],"
    ++ codes "\"types\":[{\"module\":[[[\"a\",\"x\",[\"table\"]],[\"b\",\"y\",[\"memory\",true]],[\"a\",\"z\","
    ++ codes "[\"func\",0]]],[[\"f\",[\"func\",0]],[\"g\",[\"global\"]]]]},{\"module\":[[],[]]}]},"
    ++ codes "\"payloads\":[\"version\",{\"imports\":[[\"h\",[\"module\",0]]]},{\"module\":{\"ty\":1,\"imports\":[],"
    ++ codes "\"funcs\":[0],\"tables\":1,\"memories\":[true],\"globals\":0,\"tags\":0,\"exports\":[[\"x\",\"table\",0],"
    ++ codes "[\"y\",\"memory\",0],[\"z\",\"func\",0]]}},{\"instances\":[{\"instantiate\":[1,[]]},{\"instantiate\":[0,"
    ++ codes "[[\"b\",0],[\"a\",0]]]}]},{\"aliases\":[{\"core-export\":[\"func\",1,\"f\"]},"
    ++ codes "{\"core-export\":[\"global\",1,\"g\"]}]},{\"instances\":[{\"exports\":[[\"p\",\"func\",0],[\"q\","
    ++ codes "\"global\",0]]}]},{\"aliases\":[{\"core-export\":[\"func\",2,\"p\"]}]},{\"module\":{\"ty\":1,"
    ++ codes "\"imports\":[[\"e\",\"q\",[\"global\"]],[\"e\",\"p\",[\"func\",0]]],\"funcs\":[],\"tables\":0,"
    ++ codes "\"memories\":[],\"globals\":0,\"tags\":0,\"exports\":[]}},{\"instances\":[{\"instantiate\":[2,[[\"e\","
    ++ codes "2]]]},{\"exports\":[[\"p\",\"func\",1],[\"q\",\"global\",0]]},{\"instantiate\":[2,[[\"e\",4]]]}]},"
    ++ codes "\"end\"]}"

-- the arguments of the host module: those of the name that comes first, then those of the other
abbrev pub host_arguments : List (NamedArgument Mark)
host_arguments =
    record { module_name = codes "a"; name = codes "x"; value = table_of_instance 0 0 }
    ∷ record { module_name = codes "a"; name = codes "z"; value = func_of_instance 0 0 }
    ∷ record { module_name = codes "b"; name = codes "y"; value = memory_of_instance 0 0 } ∷ []

-- what the host module's instance has under a name
abbrev pub host_named : List ℕ → CoreValue Mark
host_named name = exported 1 (by_name name)

-- the type of the host module
abbrev pub host_items_type : TypeTree
host_items_type =
    module_of
    ((codes "a", codes "x", core_table) ∷ (codes "b", codes "y", core_memory true)
    ∷ (codes "a", codes "z", core_func i32_to_i32) ∷ [])
    ((codes "f", core_func i32_to_i32) ∷ (codes "g", core_global) ∷ [])

-- a bag is nothing of its own: both times the module is given the host module's items
abbrev pub host_items : Outcome Reading
host_items =
    given (import_named (codes "h") host_items_type ∷ []) []
    (finished
    (ran 0 [] 0 ∷ needed (path 0 []) ∷ instantiated (of_host (path 0 []) host_arguments) 0
    ∷ ran 1 (host_named (codes "g") ∷ host_named (codes "f") ∷ []) 0
    ∷ ran 1 (host_named (codes "g") ∷ host_named (codes "f") ∷ []) 0 ∷ [])
    [] 1)

-- an import that isn't given anything
abbrev pub argument_missing_text : List ℕ
argument_missing_text =
    codes "{\"limit\":100,\"intrinsics\":null,\"types\":{\"core\":[[[\"i32\"],[\"i32\"]]],"
    ++ codes "\"types\":[{\"module\":[[],[]]}]},\"payloads\":[\"version\",{\"module\":{\"ty\":0,\"imports\":[[\"e\","
    ++ codes "\"f\",[\"func\",0]]],\"funcs\":[],\"tables\":0,\"memories\":[],\"globals\":0,\"tags\":0,\"exports\":[]}},"
    ++ codes "{\"instances\":[{\"instantiate\":[0,[]]}]},\"end\"]}"

-- its outcome
abbrev pub argument_missing : Outcome Reading
argument_missing = stuck invalid 0 1

-- an import that is given a memory for a function
abbrev pub memory_for_a_function_text : List ℕ
memory_for_a_function_text =
    codes "{\"limit\":100,\"intrinsics\":null,\"types\":{\"core\":[[[\"i32\"],[\"i32\"]]],"
    ++ codes "\"types\":[{\"module\":[[],[]]}]},\"payloads\":[\"version\",{\"module\":{\"ty\":0,\"imports\":[[\"e\","
    ++ codes "\"f\",[\"func\",0]]],\"funcs\":[],\"tables\":0,\"memories\":[],\"globals\":0,\"tags\":0,\"exports\":[]}},"
    ++ codes "{\"module\":{\"ty\":0,\"imports\":[],\"funcs\":[],\"tables\":0,\"memories\":[false],\"globals\":0,"
    ++ codes "\"tags\":0,\"exports\":[[\"m\",\"memory\",0],[\"f\",\"memory\",0]]}},{\"instances\":[{\"instantiate\":[1,"
    ++ codes "[]]},{\"instantiate\":[0,[[\"e\",0]]]}]},\"end\"]}"

-- its outcome
abbrev pub memory_for_a_function : Outcome Reading
memory_for_a_function = stuck invalid 0 3

-- an argument that names no core instance, though no import asks for it
abbrev pub idle_argument_text : List ℕ
idle_argument_text =
    codes "{\"limit\":100,\"intrinsics\":null,\"types\":{\"core\":[[[\"i32\"],[\"i32\"]]],"
    ++ codes "\"types\":[{\"module\":[[],[]]}]},\"payloads\":[\"version\",{\"module\":{\"ty\":0,\"imports\":[],"
    ++ codes "\"funcs\":[],\"tables\":0,\"memories\":[],\"globals\":0,\"tags\":0,\"exports\":[]}},"
    ++ codes "{\"instances\":[{\"instantiate\":[0,[[\"z\",0]]]}]},\"end\"]}"

-- a core alias of another kind, and one under another name
abbrev pub alias_of_another_kind_text : List ℕ
alias_of_another_kind_text =
    codes "{\"limit\":100,\"intrinsics\":null,\"types\":{\"core\":[[[\"i32\"],[\"i32\"]]],"
    ++ codes "\"types\":[{\"module\":[[],[]]}]},\"payloads\":[\"version\",{\"module\":{\"ty\":0,\"imports\":[],"
    ++ codes "\"funcs\":[],\"tables\":0,\"memories\":[false],\"globals\":0,\"tags\":0,\"exports\":[[\"m\",\"memory\","
    ++ codes "0],[\"f\",\"memory\",0]]}},{\"instances\":[{\"instantiate\":[0,[]]}]},"
    ++ codes "{\"aliases\":[{\"core-export\":[\"func\",0,\"f\"]}]},\"end\"]}"

-- the name alone is missing
abbrev pub alias_missing_text : List ℕ
alias_missing_text =
    codes "{\"limit\":100,\"intrinsics\":null,\"types\":{\"core\":[[[\"i32\"],[\"i32\"]]],"
    ++ codes "\"types\":[{\"module\":[[],[]]}]},\"payloads\":[\"version\",{\"module\":{\"ty\":0,\"imports\":[],"
    ++ codes "\"funcs\":[],\"tables\":0,\"memories\":[false],\"globals\":0,\"tags\":0,\"exports\":[[\"m\",\"memory\","
    ++ codes "0],[\"f\",\"memory\",0]]}},{\"instances\":[{\"instantiate\":[0,[]]}]},"
    ++ codes "{\"aliases\":[{\"core-export\":[\"memory\",0,\"g\"]}]},\"end\"]}"

-- its outcome
abbrev pub alias_stuck : Outcome Reading
alias_stuck = stuck invalid 0 2

-- a bag of what isn't there
abbrev pub bag_text : List ℕ
bag_text =
    codes "{\"limit\":100,\"intrinsics\":null,\"types\":{\"core\":[[[\"i32\"],[\"i32\"]]],"
    ++ codes "\"types\":[{\"module\":[[],[]]}]},\"payloads\":[\"version\",{\"module\":{\"ty\":0,\"imports\":[],"
    ++ codes "\"funcs\":[],\"tables\":0,\"memories\":[],\"globals\":0,\"tags\":0,\"exports\":[]}},"
    ++ codes "{\"instances\":[{\"exports\":[[\"t\",\"tag\",0]]}]},\"end\"]}"

-- a module whose type is none, and an instance whose type is none
abbrev pub module_type_text : List ℕ
module_type_text =
    codes "{\"limit\":100,\"intrinsics\":null,\"types\":{\"core\":[[[\"i32\"],[\"i32\"]]],"
    ++ codes "\"types\":[{\"instance\":[]}]},\"payloads\":[\"version\",{\"module\":{\"ty\":0,\"imports\":[],"
    ++ codes "\"funcs\":[],\"tables\":0,\"memories\":[],\"globals\":0,\"tags\":0,\"exports\":[]}},\"end\"]}"

-- its outcome
abbrev pub bad_module_type : Outcome Reading
bad_module_type = stuck bad_type 0 0

-- an instance from items whose type is a module type, though its item is missing too
abbrev pub instance_type_text : List ℕ
instance_type_text =
    codes "{\"limit\":100,\"intrinsics\":null,\"types\":{\"core\":[[[\"i32\"],[\"i32\"]]],"
    ++ codes "\"types\":[{\"module\":[[],[]]}]},\"payloads\":[\"version\","
    ++ codes "{\"component-instances\":[{\"exports\":[[[\"f\",\"func\",0]],0]}]},\"end\"]}"

-- an instance from items with an item that is missing
abbrev pub instance_item_text : List ℕ
instance_item_text =
    codes "{\"limit\":100,\"intrinsics\":null,\"types\":{\"core\":[[[\"i32\"],[\"i32\"]]],"
    ++ codes "\"types\":[{\"instance\":[]}]},\"payloads\":[\"version\",{\"component-instances\":[{\"exports\":[[[\"f\","
    ++ codes "\"func\",0]],0]}]},\"end\"]}"

-- its outcome
abbrev pub missing_item : Outcome Reading
missing_item = stuck invalid 0 0
