-- Rows in which an adapter is a part of something.
use Rattle.std.specs.Prelude.{ℕ, false, List, [], ◌∷◌, ◌++◌, codes}
use Rattle.pc_types.specs.declared.encoding.StringEncoding.TheVariants.{Utf8}
use Rattle.pc_types.specs.declared.parsed.WasmValType.TheVariants as core
use Rattle.pc_spec_plan.specs.CoreValue.{CoreValue, Options, options, no_value, a_value, linear, lowered}
use Rattle.pc_spec_plan.specs.Log.{made, needed, declared, declared_resource}
use Rattle.pc_parsed.specs.Mark.{Mark, of_type, of_signature}
use Rattle.pc_spec_reading.specs.Outcome.{Outcome}
use Rattle.pc_spec_reading.specs.Reading.{Reading}
use Rattle.pc_spec_examples.specs.Means.{finished, given}
use Rattle.pc_spec_examples.specs.Words.{import_named, func_of_instance, ran, path, i32_to_i32, u32_to_u32}
use Rattle.pc_spec_examples.specs.Adapters.{adapted}

-- a host function whose realloc is an adapter
abbrev pub realloc_is_an_adapter_text : List ℕ
realloc_is_an_adapter_text =
    codes "{\"limit\":100,\"intrinsics\":null,\"types\":{\"core\":[[[\"i32\"],[\"i32\"]]],"
    ++ codes "\"types\":[{\"func\":{\"params\":[[\"x\",\"u32\"]],\"result\":\"u32\",\"async\":false}},{\"module\":[[],"
    ++ codes "[]]},{\"instance\":[[\"f\",[\"func\",0]]]},{\"instance\":[]}]},\"payloads\":[\"version\","
    ++ codes "{\"imports\":[[\"log\",[\"func\",0]]]},\"component\",\"version\",{\"module\":{\"ty\":1,\"imports\":[],"
    ++ codes "\"funcs\":[0],\"tables\":0,\"memories\":[],\"globals\":0,\"tags\":0,\"exports\":[[\"f\",\"func\",0]]}},"
    ++ codes "{\"instances\":[{\"instantiate\":[0,[]]}]},{\"aliases\":[{\"core-export\":[\"func\",0,\"f\"]}]},"
    ++ codes "{\"canon\":[[\"lift\",0,0,0,[]]]},{\"exports\":[[\"f\",\"func\",0]]},\"end\",\"component\",\"version\","
    ++ codes "{\"imports\":[[\"r\",[\"func\",0]],[\"log\",[\"func\",0]]]},{\"canon\":[[\"lower\",0,0,0,[]],[\"lower\","
    ++ codes "1,0,0,[[\"realloc\",0]]]]},{\"module\":{\"ty\":1,\"imports\":[[\"e\",\"f\",[\"func\",0]]],\"funcs\":[0],"
    ++ codes "\"tables\":0,\"memories\":[],\"globals\":0,\"tags\":0,\"exports\":[[\"f\",\"func\",1]]}},"
    ++ codes "{\"instances\":[{\"exports\":[[\"f\",\"func\",1]]},{\"instantiate\":[0,[[\"e\",0]]]}]},"
    ++ codes "{\"aliases\":[{\"core-export\":[\"func\",1,\"f\"]}]},{\"canon\":[[\"lift\",2,0,0,[]]]},"
    ++ codes "{\"exports\":[[\"f\",\"func\",2]]},\"end\",\"component\",\"version\",{\"imports\":[[\"f\",[\"func\","
    ++ codes "0]]]},{\"canon\":[[\"lower\",0,0,0,[]]]},{\"module\":{\"ty\":1,\"imports\":[[\"e\",\"f\",[\"func\",0]]],"
    ++ codes "\"funcs\":[],\"tables\":0,\"memories\":[],\"globals\":0,\"tags\":0,\"exports\":[]}},"
    ++ codes "{\"instances\":[{\"exports\":[[\"f\",\"func\",0]]},{\"instantiate\":[0,[[\"e\",0]]]}]},\"end\","
    ++ codes "{\"component-instances\":[{\"instantiate\":[0,[],2]}]},{\"aliases\":[{\"export\":[\"func\",0,\"f\"]}]},"
    ++ codes "{\"component-instances\":[{\"instantiate\":[1,[[\"r\",\"func\",1],[\"log\",\"func\",0]],2]}]},"
    ++ codes "{\"aliases\":[{\"export\":[\"func\",1,\"f\"]}]},{\"component-instances\":[{\"instantiate\":[2,[[\"f\","
    ++ codes "\"func\",2]],3]}]},\"end\"]}"

-- a core value of it
abbrev pub r_adapter : CoreValue Mark
r_adapter = adapted 1 2 (func_of_instance 0 0)

-- options of it
abbrev pub r_options : Options Mark
r_options = options 2 Utf8 false (of_signature i32_to_i32) no_value no_value (linear no_value (a_value r_adapter))

-- a core value of it
abbrev pub log_with_r : CoreValue Mark
log_with_r = lowered (path 0 []) (of_type u32_to_u32) r_options

-- its outcome
abbrev pub realloc_is_an_adapter : Outcome Reading
realloc_is_an_adapter =
    given (import_named (codes "log") u32_to_u32 ∷ []) []
    (finished
    (ran 0 [] 1 ∷ made r_adapter ∷ needed (path 0 []) ∷ declared log_with_r ∷ ran 1 (log_with_r ∷ []) 2
    ∷ made (adapted 2 3 (func_of_instance 1 1)) ∷ ran 2 (adapted 2 3 (func_of_instance 1 1) ∷ []) 3 ∷ [])
    [] 4)

-- a resource whose destructor is an adapter
abbrev pub destructor_text : List ℕ
destructor_text =
    codes "{\"limit\":100,\"intrinsics\":null,\"types\":{\"core\":[[[\"i32\"],[\"i32\"]]],"
    ++ codes "\"types\":[{\"func\":{\"params\":[[\"x\",\"u32\"]],\"result\":\"u32\",\"async\":false}},{\"module\":[[],"
    ++ codes "[]]},{\"instance\":[[\"f\",[\"func\",0]]]},{\"instance\":[]},\"resource\"]},\"payloads\":[\"version\","
    ++ codes "\"component\",\"version\",{\"module\":{\"ty\":1,\"imports\":[],\"funcs\":[0],\"tables\":0,"
    ++ codes "\"memories\":[],\"globals\":0,\"tags\":0,\"exports\":[[\"f\",\"func\",0]]}},"
    ++ codes "{\"instances\":[{\"instantiate\":[0,[]]}]},{\"aliases\":[{\"core-export\":[\"func\",0,\"f\"]}]},"
    ++ codes "{\"canon\":[[\"lift\",0,0,0,[]]]},{\"exports\":[[\"f\",\"func\",0]]},\"end\",\"component\",\"version\","
    ++ codes "{\"imports\":[[\"f\",[\"func\",0]]]},{\"canon\":[[\"lower\",0,0,0,[]]]},{\"types\":[{\"resource\":[4,"
    ++ codes "\"i32\",0]}]},\"end\",{\"component-instances\":[{\"instantiate\":[0,[],2]}]},"
    ++ codes "{\"aliases\":[{\"export\":[\"func\",0,\"f\"]}]},{\"component-instances\":[{\"instantiate\":[1,[[\"f\","
    ++ codes "\"func\",0]],3]}]},\"end\"]}"

-- its outcome
abbrev pub destructor : Outcome Reading
destructor =
    finished
    (ran 0 [] 1 ∷ made (adapted 1 2 (func_of_instance 0 0))
    ∷ declared_resource core.I32 (a_value (adapted 1 2 (func_of_instance 0 0))) 2 ∷ [])
    [] 3
