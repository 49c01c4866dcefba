-- A component as the usual tools make it.
use Rattle.std.specs.Prelude.{ℕ, false, List, [], ◌∷◌, ◌++◌, map, flat_map, codes}
use Rattle.pc_types.specs.declared.encoding.StringEncoding.TheVariants.{Utf8}
use Rattle.pc_types.specs.declared.trampoline.TrampolineKind.TheVariants as kind
use Rattle.pc_types.specs.TypeTree.{TypeTree, Fields, Path, resource_of, concrete, imported, instance_of, and_field}
use Rattle.pc_types.specs.TypeTree.{no_fields}
use Rattle.pc_spec_plan.specs.CoreValue.{CoreValue, Options, MaybeValue, options, a_value, no_value, linear, lowered}
use Rattle.pc_spec_plan.specs.CoreValue.{builtin, mark_part}
use Rattle.pc_spec_plan.specs.ExportNode.{NamedNode, no_nodes, and_node}
use Rattle.pc_spec_plan.specs.ExportNode as node
use Rattle.pc_spec_plan.specs.Log.{Entry, needed, declared}
use Rattle.pc_parsed.specs.Mark.{Mark, of_type, of_signature}
use Rattle.pc_spec_reading.specs.Builtins.{parts_of}
use Rattle.pc_spec_reading.specs.Outcome.{Outcome}
use Rattle.pc_spec_reading.specs.Reading.{Reading}
use Rattle.pc_spec_reading.specs.World.{HostImport}
use Rattle.pc_spec_examples.specs.Means.{finished, given}
use Rattle.pc_spec_examples.specs.Words.{functions_named, import_named, func_of_instance, memory_of_instance}
use Rattle.pc_spec_examples.specs.Words.{table_of_instance, ran, path, node_named, no_data, two_i32, one_i32, of_string}

-- eleven host functions of four instances, a main module, a shim with a table, and a fixup
abbrev pub usual_tools_text : List ℕ
usual_tools_text =
    codes "{\"limit\":100,\"intrinsics\":null,\"types\":{\"core\":[[[\"i32\",\"i32\"],[]],[[\"i32\",\"i32\",\"i32\","
    ++ codes "\"i32\"],[\"i32\"]],[[\"i32\"],[]]],\"types\":[{\"func\":{\"params\":[[\"s\",\"string\"]],"
    ++ codes "\"result\":null,\"async\":false}},{\"module\":[[],[]]},\"resource\",{\"instance\":[[\"r\",[\"type\",2]],"
    ++ codes "[\"f0\",[\"func\",0]],[\"f1\",[\"func\",0]],[\"f2\",[\"func\",0]]]},\"resource\",{\"instance\":[[\"r\","
    ++ codes "[\"type\",4]],[\"f3\",[\"func\",0]],[\"f4\",[\"func\",0]],[\"f5\",[\"func\",0]]]},{\"instance\":[[\"f6\","
    ++ codes "[\"func\",0]],[\"f7\",[\"func\",0]],[\"f8\",[\"func\",0]]]},{\"instance\":[[\"f9\",[\"func\",0]],"
    ++ codes "[\"f10\",[\"func\",0]]]},{\"instance\":[[\"run\",[\"func\",0]],[\"stop\",[\"func\",0]]]}]},"
    ++ codes "\"payloads\":[\"version\",{\"imports\":[[\"a\",[\"instance\",3]],[\"b\",[\"instance\",5]],[\"c\","
    ++ codes "[\"instance\",6]],[\"d\",[\"instance\",7]]]},{\"aliases\":[{\"export\":[\"func\",0,\"f0\"]},"
    ++ codes "{\"export\":[\"func\",0,\"f1\"]},{\"export\":[\"func\",0,\"f2\"]},{\"export\":[\"func\",1,\"f3\"]},"
    ++ codes "{\"export\":[\"func\",1,\"f4\"]},{\"export\":[\"func\",1,\"f5\"]},{\"export\":[\"func\",2,\"f6\"]},"
    ++ codes "{\"export\":[\"func\",2,\"f7\"]},{\"export\":[\"func\",2,\"f8\"]},{\"export\":[\"func\",3,\"f9\"]},"
    ++ codes "{\"export\":[\"func\",3,\"f10\"]}]},{\"module\":{\"ty\":1,\"imports\":[[\"env\",\"s0\",[\"func\",0]],"
    ++ codes "[\"env\",\"s1\",[\"func\",0]],[\"env\",\"s2\",[\"func\",0]],[\"env\",\"s3\",[\"func\",0]],[\"env\","
    ++ codes "\"s4\",[\"func\",0]],[\"env\",\"s5\",[\"func\",0]],[\"env\",\"s6\",[\"func\",0]],[\"env\",\"s7\","
    ++ codes "[\"func\",0]],[\"env\",\"s8\",[\"func\",0]],[\"env\",\"s9\",[\"func\",0]],[\"env\",\"s10\",[\"func\",0]],"
    ++ codes "[\"env\",\"d0\",[\"func\",2]],[\"env\",\"d1\",[\"func\",2]]],\"funcs\":[0,0,1,2],\"tables\":0,"
    ++ codes "\"memories\":[false],\"globals\":0,\"tags\":0,\"exports\":[[\"mem\",\"memory\",0],[\"run\",\"func\",13],"
    ++ codes "[\"stop\",\"func\",14],[\"realloc\",\"func\",15],[\"post\",\"func\",16]]}},{\"module\":{\"ty\":1,"
    ++ codes "\"imports\":[],\"funcs\":[0,0,0,0,0,0,0,0,0,0,0],\"tables\":1,\"memories\":[],\"globals\":0,\"tags\":0,"
    ++ codes "\"exports\":[[\"s0\",\"func\",0],[\"s1\",\"func\",1],[\"s2\",\"func\",2],[\"s3\",\"func\",3],[\"s4\","
    ++ codes "\"func\",4],[\"s5\",\"func\",5],[\"s6\",\"func\",6],[\"s7\",\"func\",7],[\"s8\",\"func\",8],[\"s9\","
    ++ codes "\"func\",9],[\"s10\",\"func\",10],[\"t\",\"table\",0]]}},{\"module\":{\"ty\":1,\"imports\":[[\"x\",\"0\","
    ++ codes "[\"func\",0]],[\"x\",\"1\",[\"func\",0]],[\"x\",\"2\",[\"func\",0]],[\"x\",\"3\",[\"func\",0]],[\"x\","
    ++ codes "\"4\",[\"func\",0]],[\"x\",\"5\",[\"func\",0]],[\"x\",\"6\",[\"func\",0]],[\"x\",\"7\",[\"func\",0]],"
    ++ codes "[\"x\",\"8\",[\"func\",0]],[\"x\",\"9\",[\"func\",0]],[\"x\",\"10\",[\"func\",0]],[\"x\",\"t\","
    ++ codes "[\"table\"]]],\"funcs\":[],\"tables\":0,\"memories\":[],\"globals\":0,\"tags\":0,\"exports\":[]}},"
    ++ codes "{\"instances\":[{\"instantiate\":[1,[]]}]},{\"aliases\":[{\"core-export\":[\"func\",0,\"s0\"]},"
    ++ codes "{\"core-export\":[\"func\",0,\"s1\"]},{\"core-export\":[\"func\",0,\"s2\"]},{\"core-export\":[\"func\",0,"
    ++ codes "\"s3\"]},{\"core-export\":[\"func\",0,\"s4\"]},{\"core-export\":[\"func\",0,\"s5\"]},"
    ++ codes "{\"core-export\":[\"func\",0,\"s6\"]},{\"core-export\":[\"func\",0,\"s7\"]},{\"core-export\":[\"func\",0,"
    ++ codes "\"s8\"]},{\"core-export\":[\"func\",0,\"s9\"]},{\"core-export\":[\"func\",0,\"s10\"]},"
    ++ codes "{\"core-export\":[\"table\",0,\"t\"]}]},{\"canon\":[[\"resource.drop\",2,2],[\"resource.drop\",2,4]]},"
    ++ codes "{\"instances\":[{\"exports\":[[\"s0\",\"func\",0],[\"s1\",\"func\",1],[\"s2\",\"func\",2],[\"s3\","
    ++ codes "\"func\",3],[\"s4\",\"func\",4],[\"s5\",\"func\",5],[\"s6\",\"func\",6],[\"s7\",\"func\",7],[\"s8\","
    ++ codes "\"func\",8],[\"s9\",\"func\",9],[\"s10\",\"func\",10],[\"d0\",\"func\",11],[\"d1\",\"func\",12]]},"
    ++ codes "{\"instantiate\":[0,[[\"env\",1]]]}]},{\"aliases\":[{\"core-export\":[\"memory\",2,\"mem\"]},"
    ++ codes "{\"core-export\":[\"func\",2,\"realloc\"]},{\"core-export\":[\"func\",2,\"run\"]},"
    ++ codes "{\"core-export\":[\"func\",2,\"stop\"]},{\"core-export\":[\"func\",2,\"post\"]}]},{\"canon\":[[\"lower\","
    ++ codes "0,0,0,[\"utf8\",[\"memory\",0],[\"realloc\",13]]],[\"lower\",1,0,0,[\"utf8\",[\"memory\",0],[\"realloc\","
    ++ codes "13]]],[\"lower\",2,0,0,[\"utf8\",[\"memory\",0],[\"realloc\",13]]],[\"lower\",3,0,0,[\"utf8\","
    ++ codes "[\"memory\",0],[\"realloc\",13]]],[\"lower\",4,0,0,[\"utf8\",[\"memory\",0],[\"realloc\",13]]],"
    ++ codes "[\"lower\",5,0,0,[\"utf8\",[\"memory\",0],[\"realloc\",13]]],[\"lower\",6,0,0,[\"utf8\",[\"memory\",0],"
    ++ codes "[\"realloc\",13]]],[\"lower\",7,0,0,[\"utf8\",[\"memory\",0],[\"realloc\",13]]],[\"lower\",8,0,0,"
    ++ codes "[\"utf8\",[\"memory\",0],[\"realloc\",13]]],[\"lower\",9,0,0,[\"utf8\",[\"memory\",0],[\"realloc\",13]]],"
    ++ codes "[\"lower\",10,0,0,[\"utf8\",[\"memory\",0],[\"realloc\",13]]]]},{\"instances\":[{\"exports\":[[\"0\","
    ++ codes "\"func\",17],[\"1\",\"func\",18],[\"2\",\"func\",19],[\"3\",\"func\",20],[\"4\",\"func\",21],[\"5\","
    ++ codes "\"func\",22],[\"6\",\"func\",23],[\"7\",\"func\",24],[\"8\",\"func\",25],[\"9\",\"func\",26],[\"10\","
    ++ codes "\"func\",27],[\"t\",\"table\",0]]},{\"instantiate\":[2,[[\"x\",3]]]}]},{\"canon\":[[\"lift\",14,0,0,"
    ++ codes "[[\"memory\",0],[\"realloc\",13]]],[\"lift\",15,0,0,[[\"memory\",0],[\"realloc\",13],[\"post-return\","
    ++ codes "16]]]]},{\"component-instances\":[{\"exports\":[[[\"run\",\"func\",11],[\"stop\",\"func\",12]],8]}]},"
    ++ codes "{\"exports\":[[\"api\",\"instance\",4]]},\"end\"]}"

-- the options of the main module's functions: the shim is core instance 0, the main module 1
abbrev pub main_options : (post_return : MaybeValue Mark) → Options Mark
main_options post_return =
    options 0 Utf8 false (of_signature two_i32) no_value post_return
    (linear (a_value (memory_of_instance 1 0)) (a_value (func_of_instance 1 15)))

-- the paths of the eleven functions
abbrev pub host_paths : List Path
host_paths =
    path 0 (codes "f0" ∷ []) ∷ path 0 (codes "f1" ∷ []) ∷ path 0 (codes "f2" ∷ [])
    ∷ path 1 (codes "f3" ∷ []) ∷ path 1 (codes "f4" ∷ []) ∷ path 1 (codes "f5" ∷ [])
    ∷ path 2 (codes "f6" ∷ []) ∷ path 2 (codes "f7" ∷ []) ∷ path 2 (codes "f8" ∷ [])
    ∷ path 3 (codes "f9" ∷ []) ∷ path 3 (codes "f10" ∷ []) ∷ []

-- one of them, lowered
abbrev pub host_lowering : Path → CoreValue Mark
host_lowering p = lowered p (of_type of_string) (main_options no_value)

-- each is needed and declared
abbrev pub lowering_entries : Path → List (Entry Mark)
lowering_entries p = needed p ∷ declared (host_lowering p) ∷ []

-- the two drops, of the resources of the first two instances
abbrev pub drop_of : Path → CoreValue Mark
drop_of p =
    builtin kind.ResourceDrop 0
    (parts_of (mark_part (of_signature one_i32) ∷ mark_part (of_type (resource_of (concrete (imported p) 0))) ∷ []))

-- the resource of an import
abbrev pub r_of : (import : ℕ) → Path
r_of n = path n (codes "r" ∷ [])

-- the functions of the shim
abbrev pub shims : List (CoreValue Mark)
shims = map (func_of_instance 0) (0 ∷ 1 ∷ 2 ∷ 3 ∷ 4 ∷ 5 ∷ 6 ∷ 7 ∷ 8 ∷ 9 ∷ 10 ∷ [])

-- its log
abbrev pub usual_log : List (Entry Mark)
usual_log =
    (needed (r_of 0) ∷ needed (r_of 1) ∷ ran 1 [] 0 ∷ declared (drop_of (r_of 0)) ∷ declared (drop_of (r_of 1))
    ∷ ran 0 (shims ++ drop_of (r_of 0) ∷ drop_of (r_of 1) ∷ []) 0 ∷ [])
    ++ flat_map lowering_entries host_paths
    ++ ran 2 (map host_lowering host_paths ++ table_of_instance 0 0 ∷ []) 0 ∷ []

-- the type of the one instance that is exported
abbrev pub api : TypeTree
api = instance_of (and_field (codes "run") of_string (and_field (codes "stop") of_string no_fields))

-- its nodes
abbrev pub usual_nodes : List (NamedNode Mark)
usual_nodes =
    node_named (codes "api")
    (node.instance (of_type api)
    (and_node (codes "run") no_data
    (node.lifted (of_type of_string) (func_of_instance 1 13) (main_options no_value))
    (and_node (codes "stop") no_data
    (node.lifted (of_type of_string) (func_of_instance 1 14) (main_options (a_value (func_of_instance 1 16))))
    no_nodes)))
    ∷ []

-- what a host instance has behind a resource that is known
abbrev pub after_resource : (import : ℕ) → Fields → Fields
after_resource n fields = and_field (codes "r") (resource_of (concrete (imported (r_of n)) 0)) fields

-- the four host instances
abbrev pub usual_imports : List HostImport
usual_imports =
    import_named (codes "a")
    (instance_of (after_resource 0 (functions_named (codes "f0" ∷ codes "f1" ∷ codes "f2" ∷ []))))
    ∷ import_named (codes "b")
    (instance_of (after_resource 1 (functions_named (codes "f3" ∷ codes "f4" ∷ codes "f5" ∷ []))))
    ∷ import_named (codes "c") (instance_of (functions_named (codes "f6" ∷ codes "f7" ∷ codes "f8" ∷ [])))
    ∷ import_named (codes "d") (instance_of (functions_named (codes "f9" ∷ codes "f10" ∷ []))) ∷ []

-- its outcome
abbrev pub usual_tools : Outcome Reading
usual_tools = given usual_imports (r_of 0 ∷ r_of 1 ∷ []) (finished usual_log usual_nodes 1)
