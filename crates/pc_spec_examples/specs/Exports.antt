-- What the root exports: one input or more for each kind of node.
use Rattle.std.specs.Prelude.{ℕ, false, List, [], ◌∷◌, ◌++◌, Some, None, codes}
use Rattle.pc_types.specs.declared.parsed.WasmValType.TheVariants as core
use Rattle.pc_types.specs.declared.types.ComponentExternData.{ComponentExternData}
use Rattle.pc_types.specs.TypeTree.{TypeTree, Fields, Path, resource_of, concrete, imported, instance_of, and_field}
use Rattle.pc_types.specs.TypeTree.{no_fields, func_of, no_tree}
use Rattle.pc_types.specs.TypeTree as tree
use Rattle.pc_spec_plan.specs.CoreValue.{no_value}
use Rattle.pc_spec_plan.specs.ExportNode.{ExportNode, ExportNodes, NamedNode, no_nodes, and_node}
use Rattle.pc_spec_plan.specs.ExportNode as node
use Rattle.pc_spec_plan.specs.Log.{needed, declared_resource}
use Rattle.pc_parsed.specs.Mark.{Mark, of_type}
use Rattle.pc_spec_reading.specs.Outcome.{Outcome}
use Rattle.pc_spec_reading.specs.Reading.{Reading}
use Rattle.pc_spec_examples.specs.Means.{finished, given}
use Rattle.pc_spec_examples.specs.Words.{import_named, func_of_instance, silent, ran, path, node_named, no_data, i32_to_i32}
use Rattle.pc_spec_examples.specs.Words.{u32_to_u32, of_string, plain_module}

-- an instance of one lifted function
abbrev pub instance_export_text : List ℕ
instance_export_text =
    codes "{\"limit\":100,\"intrinsics\":null,\"types\":{\"core\":[[[\"i32\"],[\"i32\"]]],"
    ++ codes "\"types\":[{\"func\":{\"params\":[[\"x\",\"u32\"]],\"result\":\"u32\",\"async\":false}},{\"module\":[[],"
    ++ codes "[]]},{\"instance\":[[\"f\",[\"func\",0]]]}]},\"payloads\":[\"version\",{\"module\":{\"ty\":1,"
    ++ codes "\"imports\":[],\"funcs\":[0],\"tables\":0,\"memories\":[],\"globals\":0,\"tags\":0,\"exports\":[[\"f\","
    ++ codes "\"func\",0]]}},{\"instances\":[{\"instantiate\":[0,[]]}]},{\"aliases\":[{\"core-export\":[\"func\",0,"
    ++ codes "\"f\"]}]},{\"canon\":[[\"lift\",0,0,0,[]]]},{\"component-instances\":[{\"exports\":[[[\"f\",\"func\",0]],"
    ++ codes "2]}]},{\"exports\":[[\"api\",\"instance\",0]]},\"end\"]}"

-- the type of the instance
abbrev pub api_type : TypeTree
api_type = instance_of (and_field (codes "f") u32_to_u32 no_fields)

-- its outcome
abbrev pub instance_export : Outcome Reading
instance_export =
    finished (ran 0 [] 0 ∷ [])
    (node_named (codes "api")
    (node.instance (of_type api_type)
    (and_node (codes "f") no_data
    (node.lifted (of_type u32_to_u32) (func_of_instance 0 0) (silent 0 i32_to_i32))
    no_nodes))
    ∷ [])
    1

-- a module under a name that says more, a type, and both in an instance
abbrev pub module_and_type_text : List ℕ
module_and_type_text =
    codes "{\"limit\":100,\"intrinsics\":null,\"types\":{\"core\":[],\"types\":[{\"module\":[[],[]]},\"resource\","
    ++ codes "{\"instance\":[]}]},\"payloads\":[\"version\",{\"types\":[{\"resource\":[1,\"i32\",null]}]},"
    ++ codes "{\"module\":{\"ty\":0,\"imports\":[],\"funcs\":[],\"tables\":0,\"memories\":[],\"globals\":0,\"tags\":0,"
    ++ codes "\"exports\":[]}},{\"component-instances\":[{\"exports\":[[[\"m\",\"module\",0],[[\"t\",null,\"7\"],"
    ++ codes "\"type\",1]],2]}]},{\"exports\":[[[\"m\",\"x\",null],\"module\",0],[\"t\",\"type\",1],[\"i\","
    ++ codes "\"instance\",0]]},\"end\"]}"

-- a type of it
abbrev pub own_resource : TypeTree
own_resource = resource_of (concrete (tree.declared 0) 0)

-- a node of it
abbrev pub module_leaf : ExportNode Mark
module_leaf = node.static_module 0 (of_type plain_module)

-- a node of it
abbrev pub type_leaf : ExportNode Mark
type_leaf = node.type_node (of_type own_resource)

-- what the module's name says more
abbrev pub x_data : ComponentExternData
x_data = record { implements = Some (codes "x"); external_id = None }

-- its outcome
abbrev pub module_and_type : Outcome Reading
module_and_type =
    finished (declared_resource core.I32 no_value 0 ∷ [])
    (record { name = codes "m"; extern_data = x_data; node = module_leaf }
    ∷ node_named (codes "t") type_leaf
    ∷ node_named (codes "i")
    (node.instance (of_type (instance_of no_fields))
    (and_node (codes "m") no_data module_leaf
    (and_node (codes "t") (record { implements = None; external_id = Some (codes "7") }) type_leaf no_nodes)))
    ∷ [])
    1

-- a host instance with an instance and with a type that is a module's
abbrev pub host_tree_text : List ℕ
host_tree_text =
    codes "{\"limit\":100,\"intrinsics\":null,\"types\":{\"core\":[],\"types\":[{\"module\":[[],[]]},\"resource\","
    ++ codes "{\"instance\":[[\"r\",[\"type\",1]],[\"m\",[\"module\",0]]]},{\"instance\":[[\"a\",[\"instance\",2]],"
    ++ codes "[\"t\",[\"type\",0]]]}]},\"payloads\":[\"version\",{\"imports\":[[\"i\",[\"instance\",3]]]},"
    ++ codes "{\"exports\":[[\"e\",\"instance\",0]]},\"end\"]}"

-- the resource of the host, as the root sees it
abbrev pub host_r : TypeTree
host_r = resource_of (concrete (imported (path 0 (codes "a" ∷ codes "r" ∷ []))) 0)

-- a type of it
abbrev pub inner_type : TypeTree
inner_type = instance_of (and_field (codes "r") host_r (and_field (codes "m") plain_module no_fields))

-- a type of it
abbrev pub outer_type : TypeTree
outer_type = instance_of (and_field (codes "a") inner_type (and_field (codes "t") plain_module no_fields))

-- a module of the host
abbrev pub host_leaf : List (List ℕ) → ExportNode Mark
host_leaf names = node.host_module (path 0 names) (of_type plain_module)

-- the resource is needed when the import is prepared, and each module where its node is reached
abbrev pub host_tree : Outcome Reading
host_tree =
    given (import_named (codes "i") outer_type ∷ []) (path 0 (codes "a" ∷ codes "r" ∷ []) ∷ [])
    (finished
    (needed (path 0 (codes "a" ∷ codes "r" ∷ [])) ∷ needed (path 0 (codes "a" ∷ codes "m" ∷ []))
    ∷ needed (path 0 (codes "t" ∷ [])) ∷ [])
    (node_named (codes "e")
    (node.instance (of_type outer_type)
    (and_node (codes "a") no_data
    (node.instance (of_type inner_type)
    (and_node (codes "r") no_data (node.type_node (of_type host_r))
    (and_node (codes "m") no_data (host_leaf (codes "a" ∷ codes "m" ∷ [])) no_nodes)))
    (and_node (codes "t") no_data (host_leaf (codes "t" ∷ [])) no_nodes)))
    ∷ [])
    1)

-- a host function inside of two instances
abbrev pub host_function_inside_text : List ℕ
host_function_inside_text =
    codes "{\"limit\":100,\"intrinsics\":null,\"types\":{\"core\":[],\"types\":[{\"func\":{\"params\":[],"
    ++ codes "\"result\":null,\"async\":false}},{\"instance\":[]}]},\"payloads\":[\"version\",{\"imports\":[[\"f\","
    ++ codes "[\"func\",0]]]},{\"component-instances\":[{\"exports\":[[[\"f\",\"func\",0]],1]},{\"exports\":[[[\"i\","
    ++ codes "\"instance\",0]],1]}]},{\"exports\":[[\"e\",\"instance\",1]]},\"end\"]}"

-- the type of the function
abbrev pub of_nothing : TypeTree
of_nothing = func_of no_fields no_tree false

-- an instance of no declared type, with one export
abbrev pub instance_leaf : List ℕ → ExportNode Mark → ExportNode Mark
instance_leaf name n = node.instance (of_type (instance_of no_fields)) (and_node name no_data n no_nodes)

-- the function is needed where its node is reached
abbrev pub host_function_inside : Outcome Reading
host_function_inside =
    given (import_named (codes "f") of_nothing ∷ []) []
    (finished (needed (path 0 []) ∷ [])
    (node_named (codes "e")
    (instance_leaf (codes "i")
    (instance_leaf (codes "f") (node.imported_function (of_type of_nothing) (path 0 []))))
    ∷ [])
    1)

-- a host function taken out of the second import, behind the first, which is a function of another type
abbrev pub host_function_aliased_text : List ℕ
host_function_aliased_text =
    codes "{\"limit\":100,\"intrinsics\":null,\"types\":{\"core\":[],\"types\":[{\"func\":{\"params\":[],"
    ++ codes "\"result\":null,\"async\":false}},{\"instance\":[[\"f\",[\"func\",0]]]},{\"func\":{\"params\":[[\"s\","
    ++ codes "\"string\"]],\"result\":null,\"async\":false}}]},\"payloads\":[\"version\",{\"imports\":[[\"h\","
    ++ codes "[\"func\",2]],[\"i\",[\"instance\",1]]]},{\"aliases\":[{\"export\":[\"func\",0,\"f\"]}]},"
    ++ codes "{\"exports\":[[\"g\",\"func\",1],[\"again\",\"func\",0]]},\"end\"]}"

-- the path of the function
abbrev pub f_path : Path
f_path = path 1 (codes "f" ∷ [])

-- each is needed where its node is reached, and has the type that its path has among the imports
abbrev pub host_function_aliased : Outcome Reading
host_function_aliased =
    given
    (import_named (codes "h") of_string
    ∷ import_named (codes "i") (instance_of (and_field (codes "f") of_nothing no_fields))
    ∷ [])
    []
    (finished (needed f_path ∷ needed (path 0 []) ∷ [])
    (node_named (codes "g") (node.imported_function (of_type of_nothing) f_path)
    ∷ node_named (codes "again") (node.imported_function (of_type of_string) (path 0 []))
    ∷ [])
    1)
