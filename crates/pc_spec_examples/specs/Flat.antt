-- Rows without nested components and without imports.
use Rattle.std.specs.Prelude.{ℕ, false, List, [], ◌∷◌, ◌++◌, codes}
use Rattle.pc_spec_plan.specs.CoreValue.{Options, options, a_value, no_value, linear}
use Rattle.pc_spec_plan.specs.ExportNode.{NamedNode}
use Rattle.pc_spec_plan.specs.ExportNode as node
use Rattle.pc_types.specs.declared.encoding.StringEncoding.TheVariants.{Utf8}
use Rattle.pc_parsed.specs.Mark.{Mark, of_type, of_signature}
use Rattle.pc_spec_reading.specs.Outcome.{Outcome, invalid, bad_type}
use Rattle.pc_spec_reading.specs.Reading.{Reading}
use Rattle.pc_spec_examples.specs.Means.{finished, stuck}
use Rattle.pc_spec_examples.specs.Words.{func_of_instance, silent, ran, node_named, i32_to_i32, u32_to_u32}

-- one module, one instance, one lifted export
abbrev pub smallest_text : List ℕ
smallest_text =
    codes "{\"limit\":100,\"intrinsics\":null,\"types\":{\"core\":[[[\"i32\"],[\"i32\"]]],"
    ++ codes "\"types\":[{\"func\":{\"params\":[[\"x\",\"u32\"]],\"result\":\"u32\",\"async\":false}},{\"module\":[[],"
    ++ codes "[]]}]},\"payloads\":[\"version\",{\"module\":{\"ty\":1,\"imports\":[],\"funcs\":[0],\"tables\":0,"
    ++ codes "\"memories\":[],\"globals\":0,\"tags\":0,\"exports\":[[\"f\",\"func\",0]]}},"
    ++ codes "{\"instances\":[{\"instantiate\":[0,[]]}]},{\"aliases\":[{\"core-export\":[\"func\",0,\"f\"]}]},"
    ++ codes "{\"canon\":[[\"lift\",0,0,0,[]]]},{\"exports\":[[\"f\",\"func\",0]]},\"end\"]}"

-- the export, under options
abbrev pub f_node : Options Mark → List (NamedNode Mark)
f_node o = node_named (codes "f") (node.lifted (of_type u32_to_u32) (func_of_instance 0 0) o) ∷ []

-- the module is made into one core instance for the root, and its function is lifted
abbrev pub smallest : Outcome Reading
smallest = finished (ran 0 [] 0 ∷ []) (f_node (silent 0 i32_to_i32)) 1

-- its total: 3 entries of the table, 7 items of the list and 1 function of the module; 1 for the root, and of its items
-- 17 for the module, 8 for the instance, 8 for the alias, 17 for the lift and 8 for the export; 8 for the node
abbrev pub smallest_total : ℕ
smallest_total = 78

-- a root without items
abbrev pub empty_root_text : List ℕ
empty_root_text =
    codes "{\"limit\":100,\"intrinsics\":null,\"types\":{\"core\":[],\"types\":[]},\"payloads\":[\"version\","
    ++ codes "\"end\"]}"

-- its outcome
abbrev pub empty_root : Outcome Reading
empty_root = finished [] [] 1

-- a lift with a function to call after each return
abbrev pub post_return_text : List ℕ
post_return_text =
    codes "{\"limit\":100,\"intrinsics\":null,\"types\":{\"core\":[[[\"i32\"],[\"i32\"]]],"
    ++ codes "\"types\":[{\"func\":{\"params\":[[\"x\",\"u32\"]],\"result\":\"u32\",\"async\":false}},{\"module\":[[],"
    ++ codes "[]]}]},\"payloads\":[\"version\",{\"module\":{\"ty\":1,\"imports\":[],\"funcs\":[0],\"tables\":0,"
    ++ codes "\"memories\":[],\"globals\":0,\"tags\":0,\"exports\":[[\"f\",\"func\",0]]}},"
    ++ codes "{\"instances\":[{\"instantiate\":[0,[]]}]},{\"aliases\":[{\"core-export\":[\"func\",0,\"f\"]}]},"
    ++ codes "{\"canon\":[[\"lift\",0,0,0,[[\"post-return\",0]]]]},{\"exports\":[[\"f\",\"func\",0]]},\"end\"]}"

-- its outcome
abbrev pub post_return : Outcome Reading
post_return =
    finished (ran 0 [] 0 ∷ [])
    (f_node
    (options 0 Utf8 false (of_signature i32_to_i32) no_value (a_value (func_of_instance 0 0))
    (linear no_value no_value)))
    1

-- a module of a million globals, which is not too many
abbrev pub globals_at_the_limit_text : List ℕ
globals_at_the_limit_text =
    codes "{\"limit\":100,\"intrinsics\":null,\"types\":{\"core\":[[[\"i32\"],[\"i32\"]]],"
    ++ codes "\"types\":[{\"func\":{\"params\":[[\"x\",\"u32\"]],\"result\":\"u32\",\"async\":false}},{\"module\":[[],"
    ++ codes "[]]}]},\"payloads\":[\"version\",{\"module\":{\"ty\":1,\"imports\":[],\"funcs\":[0],\"tables\":0,"
    ++ codes "\"memories\":[],\"globals\":1000000,\"tags\":0,\"exports\":[[\"f\",\"func\",0]]}},"
    ++ codes "{\"instances\":[{\"instantiate\":[0,[]]}]},{\"aliases\":[{\"core-export\":[\"func\",0,\"f\"]}]},"
    ++ codes "{\"canon\":[[\"lift\",0,0,0,[]]]},{\"exports\":[[\"f\",\"func\",0]]},\"end\"]}"

-- a lift of a core function that is missing
abbrev pub core_function_missing_text : List ℕ
core_function_missing_text =
    codes "{\"limit\":100,\"intrinsics\":null,\"types\":{\"core\":[[[\"i32\"],[\"i32\"]]],"
    ++ codes "\"types\":[{\"func\":{\"params\":[[\"x\",\"u32\"]],\"result\":\"u32\",\"async\":false}},{\"module\":[[],"
    ++ codes "[]]}]},\"payloads\":[\"version\",{\"module\":{\"ty\":1,\"imports\":[],\"funcs\":[0],\"tables\":0,"
    ++ codes "\"memories\":[],\"globals\":0,\"tags\":0,\"exports\":[[\"f\",\"func\",0]]}},"
    ++ codes "{\"instances\":[{\"instantiate\":[0,[]]}]},{\"aliases\":[{\"core-export\":[\"func\",0,\"f\"]}]},"
    ++ codes "{\"canon\":[[\"lift\",1,0,0,[]]]},{\"exports\":[[\"f\",\"func\",0]]},\"end\"]}"

-- its outcome
abbrev pub core_function_missing : Outcome Reading
core_function_missing = stuck invalid 0 3

-- a lift to a type that is no function
abbrev pub lift_type_of_another_kind_text : List ℕ
lift_type_of_another_kind_text =
    codes "{\"limit\":100,\"intrinsics\":null,\"types\":{\"core\":[[[\"i32\"],[\"i32\"]]],"
    ++ codes "\"types\":[{\"func\":{\"params\":[[\"x\",\"u32\"]],\"result\":\"u32\",\"async\":false}},{\"module\":[[],"
    ++ codes "[]]}]},\"payloads\":[\"version\",{\"module\":{\"ty\":1,\"imports\":[],\"funcs\":[0],\"tables\":0,"
    ++ codes "\"memories\":[],\"globals\":0,\"tags\":0,\"exports\":[[\"f\",\"func\",0]]}},"
    ++ codes "{\"instances\":[{\"instantiate\":[0,[]]}]},{\"aliases\":[{\"core-export\":[\"func\",0,\"f\"]}]},"
    ++ codes "{\"canon\":[[\"lift\",0,1,0,[]]]},{\"exports\":[[\"f\",\"func\",0]]},\"end\"]}"

-- its outcome
abbrev pub lift_type_of_another_kind : Outcome Reading
lift_type_of_another_kind = stuck bad_type 0 3

-- a limit of no component instance, which the root is over
abbrev pub limit_zero_text : List ℕ
limit_zero_text =
    codes "{\"limit\":0,\"intrinsics\":null,\"types\":{\"core\":[],\"types\":[]},\"payloads\":[\"version\",\"end\"]}"
