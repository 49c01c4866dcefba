-- One input for each further kind of static fault.
use Rattle.std.specs.Prelude.{ℕ, List, ◌++◌, codes}

-- a module in place of the root
abbrev pub module_root_text : List ℕ
module_root_text =
    codes "{\"limit\":100,\"intrinsics\":null,\"types\":{\"core\":[],\"types\":[]},\"payloads\":[\"version-module\","
    ++ codes "\"end\"]}"

-- a module in place of a nested component
abbrev pub module_inside_text : List ℕ
module_inside_text =
    codes "{\"limit\":100,\"intrinsics\":null,\"types\":{\"core\":[],\"types\":[]},\"payloads\":[\"version\","
    ++ codes "\"component\",\"version-module\",\"end\",\"end\"]}"

-- a module's beginning where none is due
abbrev pub late_module_text : List ℕ
late_module_text =
    codes "{\"limit\":100,\"intrinsics\":null,\"types\":{\"core\":[],\"types\":[]},\"payloads\":[\"version\","
    ++ codes "\"version-module\",\"end\"]}"

-- a nested body without its beginning
abbrev pub no_beginning_text : List ℕ
no_beginning_text =
    codes "{\"limit\":100,\"intrinsics\":null,\"types\":{\"core\":[],\"types\":[]},\"payloads\":[\"version\","
    ++ codes "\"component\",\"custom\",\"end\",\"end\"]}"

-- a start section
abbrev pub start_section_text : List ℕ
start_section_text =
    codes "{\"limit\":100,\"intrinsics\":null,\"types\":{\"core\":[],\"types\":[]},\"payloads\":[\"version\","
    ++ codes "\"custom\",\"start\",\"end\"]}"

-- an outer alias that counts past the root, after one that doesn't
abbrev pub outer_past_root_text : List ℕ
outer_past_root_text =
    codes "{\"limit\":100,\"intrinsics\":null,\"types\":{\"core\":[],\"types\":[]},\"payloads\":[\"version\","
    ++ codes "\"component\",\"version\",{\"aliases\":[{\"outer\":[\"type\",9,0]},{\"outer\":[\"core-module\",1,0]},"
    ++ codes "{\"outer\":[\"component\",2,0]}]},\"end\",\"end\"]}"

-- a thread that is started, after a context slot that is read
abbrev pub spawn_text : List ℕ
spawn_text =
    codes "{\"limit\":100,\"intrinsics\":null,\"types\":{\"core\":[[[\"i32\"],[\"i32\"]]],\"types\":[]},"
    ++ codes "\"payloads\":[\"version\",{\"canon\":[[\"context.get\",0,\"i32\",0],[\"thread.spawn-ref\"]]},\"end\"]}"

-- a context slot of another type
abbrev pub context_type_text : List ℕ
context_type_text =
    codes "{\"limit\":100,\"intrinsics\":null,\"types\":{\"core\":[[[\"i32\"],[\"i32\"]]],\"types\":[]},"
    ++ codes "\"payloads\":[\"version\",{\"canon\":[[\"context.set\",0,\"i64\",0]]},\"end\"]}"

-- an alias of a value
abbrev pub value_alias_text : List ℕ
value_alias_text =
    codes "{\"limit\":100,\"intrinsics\":null,\"types\":{\"core\":[],\"types\":[]},\"payloads\":[\"version\","
    ++ codes "{\"aliases\":[{\"export\":[\"value\",0,\"v\"]}]},\"end\"]}"

-- an argument that is a value, which comes before a name that stands twice
abbrev pub value_argument_text : List ℕ
value_argument_text =
    codes "{\"limit\":100,\"intrinsics\":null,\"types\":{\"core\":[],\"types\":[{\"instance\":[]}]},"
    ++ codes "\"payloads\":[\"version\",{\"component-instances\":[{\"instantiate\":[0,[[\"a\",\"func\",0],[\"a\","
    ++ codes "\"value\",0]],0]}]},\"end\"]}"

-- one name imported twice, in two sections, and exported in between
abbrev pub import_twice_text : List ℕ
import_twice_text =
    codes "{\"limit\":100,\"intrinsics\":null,\"types\":{\"core\":[],\"types\":[{\"func\":{\"params\":[],"
    ++ codes "\"result\":null,\"async\":false}}]},\"payloads\":[\"version\",{\"imports\":[[\"a\",[\"func\",0]]]},"
    ++ codes "{\"exports\":[[\"a\",\"func\",0]]},{\"imports\":[[\"b\",[\"func\",0]],[\"a\",[\"func\",0]]]},\"end\"]}"

-- one name exported by two components
abbrev pub export_in_two_text : List ℕ
export_in_two_text =
    codes "{\"limit\":100,\"intrinsics\":null,\"types\":{\"core\":[],\"types\":[{\"func\":{\"params\":[],"
    ++ codes "\"result\":null,\"async\":false}}]},\"payloads\":[\"version\",{\"imports\":[[\"a\",[\"func\",0]]]},"
    ++ codes "{\"exports\":[[\"x\",\"func\",0]]},\"component\",\"version\",{\"imports\":[[\"a\",[\"func\",0]]]},"
    ++ codes "{\"exports\":[[\"x\",\"func\",0]]},\"end\",\"end\"]}"

-- one name for two items of a core instance
abbrev pub items_twice_text : List ℕ
items_twice_text =
    codes "{\"limit\":100,\"intrinsics\":null,\"types\":{\"core\":[],\"types\":[]},\"payloads\":[\"version\","
    ++ codes "{\"instances\":[{\"exports\":[[\"a\",\"func\",0],[\"a\",\"func\",1]]}]},\"end\"]}"

-- a table with a value in its first entry, and a second entry that names itself
abbrev pub value_in_table_text : List ℕ
value_in_table_text =
    codes "{\"limit\":100,\"intrinsics\":null,\"types\":{\"core\":[],\"types\":[{\"instance\":[[\"v\","
    ++ codes "[\"value\"]]]},{\"list\":1}]},\"payloads\":[\"version\",\"end\"]}"

-- an intrinsic whose parameter is a table entry that holds a primitive
abbrev pub intrinsic_by_entry_text : List ℕ
intrinsic_by_entry_text =
    codes "{\"limit\":100,\"intrinsics\":\"i\",\"types\":{\"core\":[],\"types\":[{\"val\":\"u64\"},"
    ++ codes "{\"func\":{\"params\":[[\"a\",0]],\"result\":\"u8\",\"async\":true}},{\"instance\":[[\"u8-native-load\","
    ++ codes "[\"func\",1]]]}]},\"payloads\":[\"version\",{\"imports\":[[\"i\",[\"instance\",2]]]},\"end\"]}"

-- intrinsics whose type is missing
abbrev pub intrinsics_missing_text : List ℕ
intrinsics_missing_text =
    codes "{\"limit\":100,\"intrinsics\":\"i\",\"types\":{\"core\":[],\"types\":[]},\"payloads\":[\"version\","
    ++ codes "{\"imports\":[[\"h\",[\"func\",0]],[\"i\",[\"instance\",9]]]},\"end\"]}"

-- intrinsics that are declared as a type
abbrev pub intrinsics_as_type_text : List ℕ
intrinsics_as_type_text =
    codes "{\"limit\":100,\"intrinsics\":\"i\",\"types\":{\"core\":[],\"types\":[{\"instance\":[]}]},"
    ++ codes "\"payloads\":[\"version\",{\"imports\":[[\"i\",[\"type\",0]]]},\"end\"]}"

-- a name that is none of them
abbrev pub no_intrinsic_text : List ℕ
no_intrinsic_text =
    codes "{\"limit\":100,\"intrinsics\":\"i\",\"types\":{\"core\":[],\"types\":[{\"func\":{\"params\":[],"
    ++ codes "\"result\":null,\"async\":false}},{\"instance\":[[\"foo\",[\"func\",0]]]}]},\"payloads\":[\"version\","
    ++ codes "{\"imports\":[[\"i\",[\"instance\",1]]]},\"end\"]}"

-- a name that is none of them, with a resource behind it, which is looked at first
abbrev pub intrinsics_resource_text : List ℕ
intrinsics_resource_text =
    codes "{\"limit\":100,\"intrinsics\":\"i\",\"types\":{\"core\":[],\"types\":[{\"func\":{\"params\":[],"
    ++ codes "\"result\":null,\"async\":false}},\"resource\",{\"instance\":[[\"foo\",[\"func\",0]],[\"r\",[\"type\","
    ++ codes "1]]]}]},\"payloads\":[\"version\",{\"imports\":[[\"i\",[\"instance\",2]]]},\"end\"]}"

-- the exposed name in a nested component, where it is nothing special
abbrev pub nested_name_text : List ℕ
nested_name_text =
    codes "{\"limit\":100,\"intrinsics\":\"i\",\"types\":{\"core\":[],\"types\":[{\"func\":{\"params\":[],"
    ++ codes "\"result\":null,\"async\":false}}]},\"payloads\":[\"version\",\"component\",\"version\","
    ++ codes "{\"imports\":[[\"i\",[\"func\",0]]]},\"end\",\"end\"]}"
