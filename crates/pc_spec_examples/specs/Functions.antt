-- Options, and unsafe intrinsics.
use Rattle.std.specs.Prelude.{ℕ, true, false, List, [], ◌∷◌, ◌++◌, codes}
use Rattle.pc_types.specs.declared.encoding.StringEncoding.TheVariants.{Utf8, Utf16}
use Rattle.pc_types.specs.TypeTree.{TypeTree, func_of, no_fields, no_tree}
use Rattle.pc_spec_plan.specs.CoreValue.{Options, options, no_value, a_value, linear, gc, intrinsic}
use Rattle.pc_spec_plan.specs.ExportNode as node
use Rattle.pc_parsed.specs.Mark.{Mark, of_type, of_signature}
use Rattle.pc_spec_reading.specs.Outcome.{Outcome, invalid, unknown_intrinsic}
use Rattle.pc_spec_reading.specs.Reading.{Reading}
use Rattle.pc_spec_examples.specs.Means.{added, finished, stuck}
use Rattle.pc_spec_examples.specs.Words.{intrinsic_under, func_of_instance, memory_of_instance, ran, node_named, i32_to_i32}

-- options that are written twice: the last counts
abbrev pub options_twice_text : List ℕ
options_twice_text =
    codes "{\"limit\":100,\"intrinsics\":null,\"types\":{\"core\":[[[\"i32\"],[\"i32\"]]],"
    ++ codes "\"types\":[{\"func\":{\"params\":[],\"result\":null,\"async\":false}},{\"module\":[[],[]]}]},"
    ++ codes "\"payloads\":[\"version\",{\"module\":{\"ty\":1,\"imports\":[],\"funcs\":[0,0],\"tables\":0,"
    ++ codes "\"memories\":[false,false],\"globals\":0,\"tags\":0,\"exports\":[[\"m\",\"memory\",0],[\"n\",\"memory\","
    ++ codes "1],[\"f\",\"func\",0],[\"g\",\"func\",1]]}},{\"instances\":[{\"instantiate\":[0,[]]}]},"
    ++ codes "{\"aliases\":[{\"core-export\":[\"memory\",0,\"m\"]},{\"core-export\":[\"memory\",0,\"n\"]},"
    ++ codes "{\"core-export\":[\"func\",0,\"f\"]},{\"core-export\":[\"func\",0,\"g\"]}]},{\"canon\":[[\"lift\",0,0,0,"
    ++ codes "[\"utf16\",[\"memory\",0],[\"callback\",0],[\"realloc\",0],\"async\",[\"memory\",1],[\"realloc\",1],"
    ++ codes "\"utf8\"]]]},{\"exports\":[[\"f\",\"func\",0]]},\"end\"]}"

-- a type of it
abbrev pub nothing : TypeTree
nothing = func_of no_fields no_tree false

-- the export of the one function, under options
abbrev pub under : Options Mark → Outcome Reading
under o =
    finished (ran 0 [] 0 ∷ [])
    (node_named (codes "f") (node.lifted (of_type nothing) (func_of_instance 0 0) o) ∷ [])
    1

-- its outcome
abbrev pub options_twice : Outcome Reading
options_twice =
    under (options 0 Utf8 true (of_signature i32_to_i32) (a_value (func_of_instance 0 0)) no_value
    (linear (a_value (memory_of_instance 0 1)) (a_value (func_of_instance 0 1))))

-- values in the managed heap: memory and realloc don't count, and a core type never does
abbrev pub gc_text : List ℕ
gc_text =
    codes "{\"limit\":100,\"intrinsics\":null,\"types\":{\"core\":[[[\"i32\"],[\"i32\"]]],"
    ++ codes "\"types\":[{\"func\":{\"params\":[],\"result\":null,\"async\":false}},{\"module\":[[],[]]}]},"
    ++ codes "\"payloads\":[\"version\",{\"module\":{\"ty\":1,\"imports\":[],\"funcs\":[0,0],\"tables\":0,"
    ++ codes "\"memories\":[false,false],\"globals\":0,\"tags\":0,\"exports\":[[\"m\",\"memory\",0],[\"n\",\"memory\","
    ++ codes "1],[\"f\",\"func\",0],[\"g\",\"func\",1]]}},{\"instances\":[{\"instantiate\":[0,[]]}]},"
    ++ codes "{\"aliases\":[{\"core-export\":[\"memory\",0,\"m\"]},{\"core-export\":[\"memory\",0,\"n\"]},"
    ++ codes "{\"core-export\":[\"func\",0,\"f\"]},{\"core-export\":[\"func\",0,\"g\"]}]},{\"canon\":[[\"lift\",0,0,0,"
    ++ codes "[\"utf16\",\"gc\",[\"memory\",0],[\"realloc\",1],[\"core-type\",99],[\"post-return\",1]]]]},"
    ++ codes "{\"exports\":[[\"f\",\"func\",0]]},\"end\"]}"

-- its outcome
abbrev pub gc_options : Outcome Reading
gc_options = under (options 0 Utf16 false (of_signature i32_to_i32) no_value (a_value (func_of_instance 0 1)) gc)

-- a memory that is missing, though another one is written after it
abbrev pub memory_twice_text : List ℕ
memory_twice_text =
    codes "{\"limit\":100,\"intrinsics\":null,\"types\":{\"core\":[[[\"i32\"],[\"i32\"]]],"
    ++ codes "\"types\":[{\"func\":{\"params\":[],\"result\":null,\"async\":false}},{\"module\":[[],[]]}]},"
    ++ codes "\"payloads\":[\"version\",{\"module\":{\"ty\":1,\"imports\":[],\"funcs\":[0,0],\"tables\":0,"
    ++ codes "\"memories\":[false,false],\"globals\":0,\"tags\":0,\"exports\":[[\"m\",\"memory\",0],[\"n\",\"memory\","
    ++ codes "1],[\"f\",\"func\",0],[\"g\",\"func\",1]]}},{\"instances\":[{\"instantiate\":[0,[]]}]},"
    ++ codes "{\"aliases\":[{\"core-export\":[\"memory\",0,\"m\"]},{\"core-export\":[\"memory\",0,\"n\"]},"
    ++ codes "{\"core-export\":[\"func\",0,\"f\"]},{\"core-export\":[\"func\",0,\"g\"]}]},{\"canon\":[[\"lift\",0,0,0,"
    ++ codes "[[\"memory\",2],[\"memory\",0]]]]},\"end\"]}"

-- a realloc that is missing, though it doesn't count
abbrev pub gc_realloc_text : List ℕ
gc_realloc_text =
    codes "{\"limit\":100,\"intrinsics\":null,\"types\":{\"core\":[[[\"i32\"],[\"i32\"]]],"
    ++ codes "\"types\":[{\"func\":{\"params\":[],\"result\":null,\"async\":false}},{\"module\":[[],[]]}]},"
    ++ codes "\"payloads\":[\"version\",{\"module\":{\"ty\":1,\"imports\":[],\"funcs\":[0,0],\"tables\":0,"
    ++ codes "\"memories\":[false,false],\"globals\":0,\"tags\":0,\"exports\":[[\"m\",\"memory\",0],[\"n\",\"memory\","
    ++ codes "1],[\"f\",\"func\",0],[\"g\",\"func\",1]]}},{\"instances\":[{\"instantiate\":[0,[]]}]},"
    ++ codes "{\"aliases\":[{\"core-export\":[\"memory\",0,\"m\"]},{\"core-export\":[\"memory\",0,\"n\"]},"
    ++ codes "{\"core-export\":[\"func\",0,\"f\"]},{\"core-export\":[\"func\",0,\"g\"]}]},{\"canon\":[[\"lift\",0,0,0,"
    ++ codes "[[\"realloc\",2],\"gc\"]]]},\"end\"]}"

-- its outcome
abbrev pub option_missing : Outcome Reading
option_missing = stuck invalid 0 6

-- an alias of an intrinsic
abbrev pub intrinsic_aliased_text : List ℕ
intrinsic_aliased_text =
    codes "{\"limit\":100,\"intrinsics\":\"i\",\"types\":{\"core\":[],\"types\":[{\"func\":{\"params\":[[\"a\","
    ++ codes "\"u64\"]],\"result\":\"u8\",\"async\":false}},{\"instance\":[[\"u8-native-load\",[\"func\",0]]]}]},"
    ++ codes "\"payloads\":[\"version\",{\"imports\":[[\"i\",[\"instance\",1]]]},{\"aliases\":[{\"export\":[\"func\",0,"
    ++ codes "\"u8-native-load\"]}]},\"end\"]}"

-- its outcome
abbrev pub intrinsic_aliased : Outcome Reading
intrinsic_aliased = finished [] [] 1

-- a name that is none of the intrinsics
abbrev pub unknown_intrinsic_text : List ℕ
unknown_intrinsic_text =
    codes "{\"limit\":100,\"intrinsics\":\"i\",\"types\":{\"core\":[],\"types\":[{\"func\":{\"params\":[[\"a\","
    ++ codes "\"u64\"]],\"result\":\"u8\",\"async\":false}},{\"instance\":[[\"u8-native-load\",[\"func\",0]]]}]},"
    ++ codes "\"payloads\":[\"version\",{\"imports\":[[\"i\",[\"instance\",1]]]},{\"aliases\":[{\"export\":[\"func\",0,"
    ++ codes "\"u7-native-load\"]}]},\"end\"]}"

-- its outcome
abbrev pub unknown_alias : Outcome Reading
unknown_alias = stuck unknown_intrinsic 0 1

-- an intrinsic that is lowered and given to a module
abbrev pub intrinsic_lowered_text : List ℕ
intrinsic_lowered_text =
    codes "{\"limit\":100,\"intrinsics\":\"i\",\"types\":{\"core\":[[[\"i32\"],[\"i32\"]]],"
    ++ codes "\"types\":[{\"func\":{\"params\":[[\"a\",\"u64\"]],\"result\":\"u8\",\"async\":false}},"
    ++ codes "{\"instance\":[[\"u8-native-load\",[\"func\",0]]]},{\"module\":[[],[]]}]},\"payloads\":[\"version\","
    ++ codes "{\"imports\":[[\"i\",[\"instance\",1]]]},{\"aliases\":[{\"export\":[\"func\",0,\"u16-native-store\"]}]},"
    ++ codes "{\"canon\":[[\"lower\",0,0,0,[]]]},{\"module\":{\"ty\":2,\"imports\":[[\"e\",\"f\",[\"func\",0]]],"
    ++ codes "\"funcs\":[],\"tables\":0,\"memories\":[],\"globals\":0,\"tags\":0,\"exports\":[]}},"
    ++ codes "{\"instances\":[{\"exports\":[[\"f\",\"func\",0]]},{\"instantiate\":[0,[[\"e\",0]]]}]},\"end\"]}"

-- its place is 4
abbrev pub intrinsic_lowered : Outcome Reading
intrinsic_lowered =
    added (intrinsic_under i32_to_i32 4 ∷ []) (finished (ran 0 (intrinsic 4 ∷ []) 0 ∷ []) [] 1)
