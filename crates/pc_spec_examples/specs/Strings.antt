-- Rows in which a string goes from one encoding to another.
use Rattle.std.specs.Prelude.{ℕ, false, List, [], ◌∷◌, ◌++◌, codes}
use Rattle.pc_types.specs.declared.encoding.StringEncoding.TheVariants.{CompactUtf16}
use Rattle.pc_spec_plan.specs.CoreValue.{CoreValue, Options, options, no_value, a_value, linear, adapter}
use Rattle.pc_spec_plan.specs.Log.{Entry, made}
use Rattle.pc_parsed.specs.Mark.{Mark, of_type, of_signature}
use Rattle.pc_spec_reading.specs.Outcome.{Outcome}
use Rattle.pc_spec_reading.specs.Reading.{Reading}
use Rattle.pc_spec_examples.specs.Means.{finished}
use Rattle.pc_spec_examples.specs.Words.{func_of_instance, memory_of_instance, with_memory, ran, two_i32, of_string}

-- a string that goes from one encoding to another, with a realloc
abbrev pub strings_text : List ℕ
strings_text =
    codes "{\"limit\":100,\"intrinsics\":null,\"types\":{\"core\":[[[\"i32\",\"i32\"],[]],[[\"i32\",\"i32\",\"i32\","
    ++ codes "\"i32\"],[\"i32\"]]],\"types\":[{\"func\":{\"params\":[[\"s\",\"string\"]],\"result\":null,"
    ++ codes "\"async\":false}},{\"module\":[[],[]]},{\"instance\":[[\"f\",[\"func\",0]]]},{\"instance\":[]}]},"
    ++ codes "\"payloads\":[\"version\",\"component\",\"version\",{\"module\":{\"ty\":1,\"imports\":[],\"funcs\":[0,1],"
    ++ codes "\"tables\":0,\"memories\":[false],\"globals\":0,\"tags\":0,\"exports\":[[\"mem\",\"memory\",0],[\"f\","
    ++ codes "\"func\",0],[\"realloc\",\"func\",1]]}},{\"instances\":[{\"instantiate\":[0,[]]}]},"
    ++ codes "{\"aliases\":[{\"core-export\":[\"memory\",0,\"mem\"]},{\"core-export\":[\"func\",0,\"f\"]},"
    ++ codes "{\"core-export\":[\"func\",0,\"realloc\"]}]},{\"canon\":[[\"lift\",0,0,0,[\"compact-utf16\",[\"memory\","
    ++ codes "0],[\"realloc\",1]]]]},{\"exports\":[[\"f\",\"func\",0]]},\"end\",\"component\",\"version\","
    ++ codes "{\"imports\":[[\"f\",[\"func\",0]]]},{\"module\":{\"ty\":1,\"imports\":[],\"funcs\":[],\"tables\":0,"
    ++ codes "\"memories\":[false],\"globals\":0,\"tags\":0,\"exports\":[[\"mem\",\"memory\",0]]}},"
    ++ codes "{\"instances\":[{\"instantiate\":[0,[]]}]},{\"aliases\":[{\"core-export\":[\"memory\",0,\"mem\"]}]},"
    ++ codes "{\"canon\":[[\"lower\",0,0,0,[[\"memory\",0]]]]},{\"module\":{\"ty\":1,\"imports\":[[\"e\",\"f\","
    ++ codes "[\"func\",0]]],\"funcs\":[],\"tables\":0,\"memories\":[],\"globals\":0,\"tags\":0,\"exports\":[]}},"
    ++ codes "{\"instances\":[{\"exports\":[[\"f\",\"func\",0]]},{\"instantiate\":[1,[[\"e\",1]]]}]},\"end\","
    ++ codes "{\"component-instances\":[{\"instantiate\":[0,[],2]}]},{\"aliases\":[{\"export\":[\"func\",0,\"f\"]}]},"
    ++ codes "{\"component-instances\":[{\"instantiate\":[1,[[\"f\",\"func\",0]],3]}]},\"end\"]}"

-- the side that lifts, with its memory and perhaps a realloc
abbrev pub string_lift : (realloc : CoreValue Mark) → Options Mark
string_lift realloc =
    options 1 CompactUtf16 false (of_signature two_i32) no_value no_value
    (linear (a_value (memory_of_instance 0 0)) (a_value realloc))

-- options of it
abbrev pub string_adapter : Options Mark → CoreValue Mark
string_adapter lift =
    adapter (of_type of_string) lift (of_type of_string) (with_memory 2 two_i32 (memory_of_instance 1 0) no_value)
    (func_of_instance 0 0)

-- options of it
abbrev pub string_log : Options Mark → List (Entry Mark)
string_log lift = ran 0 [] 1 ∷ ran 1 [] 2 ∷ made (string_adapter lift) ∷ ran 2 (string_adapter lift ∷ []) 2 ∷ []

-- its outcome
abbrev pub strings : Outcome Reading
strings = finished (string_log (string_lift (func_of_instance 0 1))) [] 3

-- the same without a realloc: the reading is done, and it is no matter of it that the adapter lacks one
abbrev pub strings_without_realloc_text : List ℕ
strings_without_realloc_text =
    codes "{\"limit\":100,\"intrinsics\":null,\"types\":{\"core\":[[[\"i32\",\"i32\"],[]],[[\"i32\",\"i32\",\"i32\","
    ++ codes "\"i32\"],[\"i32\"]]],\"types\":[{\"func\":{\"params\":[[\"s\",\"string\"]],\"result\":null,"
    ++ codes "\"async\":false}},{\"module\":[[],[]]},{\"instance\":[[\"f\",[\"func\",0]]]},{\"instance\":[]}]},"
    ++ codes "\"payloads\":[\"version\",\"component\",\"version\",{\"module\":{\"ty\":1,\"imports\":[],\"funcs\":[0,1],"
    ++ codes "\"tables\":0,\"memories\":[false],\"globals\":0,\"tags\":0,\"exports\":[[\"mem\",\"memory\",0],[\"f\","
    ++ codes "\"func\",0],[\"realloc\",\"func\",1]]}},{\"instances\":[{\"instantiate\":[0,[]]}]},"
    ++ codes "{\"aliases\":[{\"core-export\":[\"memory\",0,\"mem\"]},{\"core-export\":[\"func\",0,\"f\"]},"
    ++ codes "{\"core-export\":[\"func\",0,\"realloc\"]}]},{\"canon\":[[\"lift\",0,0,0,[\"compact-utf16\",[\"memory\","
    ++ codes "0]]]]},{\"exports\":[[\"f\",\"func\",0]]},\"end\",\"component\",\"version\",{\"imports\":[[\"f\","
    ++ codes "[\"func\",0]]]},{\"module\":{\"ty\":1,\"imports\":[],\"funcs\":[],\"tables\":0,\"memories\":[false],"
    ++ codes "\"globals\":0,\"tags\":0,\"exports\":[[\"mem\",\"memory\",0]]}},{\"instances\":[{\"instantiate\":[0,"
    ++ codes "[]]}]},{\"aliases\":[{\"core-export\":[\"memory\",0,\"mem\"]}]},{\"canon\":[[\"lower\",0,0,0,"
    ++ codes "[[\"memory\",0]]]]},{\"module\":{\"ty\":1,\"imports\":[[\"e\",\"f\",[\"func\",0]]],\"funcs\":[],"
    ++ codes "\"tables\":0,\"memories\":[],\"globals\":0,\"tags\":0,\"exports\":[]}},"
    ++ codes "{\"instances\":[{\"exports\":[[\"f\",\"func\",0]]},{\"instantiate\":[1,[[\"e\",1]]]}]},\"end\","
    ++ codes "{\"component-instances\":[{\"instantiate\":[0,[],2]}]},{\"aliases\":[{\"export\":[\"func\",0,\"f\"]}]},"
    ++ codes "{\"component-instances\":[{\"instantiate\":[1,[[\"f\",\"func\",0]],3]}]},\"end\"]}"

-- options of it
abbrev pub lift_without_realloc : Options Mark
lift_without_realloc =
    options 1 CompactUtf16 false (of_signature two_i32) no_value no_value
    (linear (a_value (memory_of_instance 0 0)) no_value)

-- its outcome
abbrev pub strings_without_realloc : Outcome Reading
strings_without_realloc = finished (string_log lift_without_realloc) [] 3
