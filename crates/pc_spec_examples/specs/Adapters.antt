-- Rows in which a lifted function is lowered.
use Rattle.std.specs.Prelude.{ℕ, true, List, [], ◌∷◌, ◌++◌, codes}
use Rattle.pc_types.specs.declared.encoding.StringEncoding.TheVariants.{Utf8}
use Rattle.pc_spec_plan.specs.CoreValue.{CoreValue, Options, options, no_value, linear, adapter}
use Rattle.pc_spec_plan.specs.Log.{made}
use Rattle.pc_parsed.specs.Mark.{Mark, of_type, of_signature}
use Rattle.pc_spec_reading.specs.Outcome.{Outcome}
use Rattle.pc_spec_reading.specs.Reading.{Reading}
use Rattle.pc_spec_examples.specs.Means.{finished}
use Rattle.pc_spec_examples.specs.Words.{func_of_instance, silent, ran, i32_to_i32, u32_to_u32}

-- a function that one component instance lifts from a core function and another lowers
abbrev pub adapted : (lifted_by lowered_by : ℕ) → (callee : CoreValue Mark) → CoreValue Mark
adapted a b callee =
    adapter (of_type u32_to_u32) (silent a i32_to_i32) (of_type u32_to_u32) (silent b i32_to_i32) callee

-- two functions of two instances of one component, both lowered by a third
abbrev pub two_adapters_text : List ℕ
two_adapters_text =
    codes "{\"limit\":100,\"intrinsics\":null,\"types\":{\"core\":[[[\"i32\"],[\"i32\"]]],"
    ++ codes "\"types\":[{\"func\":{\"params\":[[\"x\",\"u32\"]],\"result\":\"u32\",\"async\":false}},{\"module\":[[],"
    ++ codes "[]]},{\"instance\":[[\"f\",[\"func\",0]]]},{\"instance\":[]}]},\"payloads\":[\"version\",\"component\","
    ++ codes "\"version\",{\"module\":{\"ty\":1,\"imports\":[],\"funcs\":[0],\"tables\":0,\"memories\":[],"
    ++ codes "\"globals\":0,\"tags\":0,\"exports\":[[\"f\",\"func\",0]]}},{\"instances\":[{\"instantiate\":[0,[]]}]},"
    ++ codes "{\"aliases\":[{\"core-export\":[\"func\",0,\"f\"]}]},{\"canon\":[[\"lift\",0,0,0,[]]]},"
    ++ codes "{\"exports\":[[\"f\",\"func\",0]]},\"end\",\"component\",\"version\",{\"imports\":[[\"f\",[\"func\",0]],"
    ++ codes "[\"g\",[\"func\",0]]]},{\"canon\":[[\"lower\",0,0,0,[]],[\"lower\",1,0,0,[]]]},{\"module\":{\"ty\":1,"
    ++ codes "\"imports\":[[\"e\",\"f\",[\"func\",0]],[\"e\",\"g\",[\"func\",0]]],\"funcs\":[],\"tables\":0,"
    ++ codes "\"memories\":[],\"globals\":0,\"tags\":0,\"exports\":[]}},{\"instances\":[{\"exports\":[[\"f\",\"func\","
    ++ codes "0],[\"g\",\"func\",1]]},{\"instantiate\":[0,[[\"e\",0]]]}]},\"end\","
    ++ codes "{\"component-instances\":[{\"instantiate\":[0,[],2]},{\"instantiate\":[0,[],2]}]},"
    ++ codes "{\"aliases\":[{\"export\":[\"func\",0,\"f\"]},{\"export\":[\"func\",1,\"f\"]}]},"
    ++ codes "{\"component-instances\":[{\"instantiate\":[1,[[\"f\",\"func\",0],[\"g\",\"func\",1]],3]}]},\"end\"]}"

-- its outcome
abbrev pub two_adapters : Outcome Reading
two_adapters =
    finished
    (ran 0 [] 1 ∷ ran 0 [] 2 ∷ made (adapted 1 3 (func_of_instance 0 0)) ∷ made (adapted 2 3 (func_of_instance 1 0))
    ∷ ran 1 (adapted 1 3 (func_of_instance 0 0) ∷ adapted 2 3 (func_of_instance 1 0) ∷ []) 3 ∷ [])
    [] 4

-- a function that is lowered, lifted again and lowered again
abbrev pub chain_text : List ℕ
chain_text =
    codes "{\"limit\":100,\"intrinsics\":null,\"types\":{\"core\":[[[\"i32\"],[\"i32\"]]],"
    ++ codes "\"types\":[{\"func\":{\"params\":[[\"x\",\"u32\"]],\"result\":\"u32\",\"async\":false}},{\"module\":[[],"
    ++ codes "[]]},{\"instance\":[[\"f\",[\"func\",0]]]},{\"instance\":[]}]},\"payloads\":[\"version\",\"component\","
    ++ codes "\"version\",{\"module\":{\"ty\":1,\"imports\":[],\"funcs\":[0],\"tables\":0,\"memories\":[],"
    ++ codes "\"globals\":0,\"tags\":0,\"exports\":[[\"f\",\"func\",0]]}},{\"instances\":[{\"instantiate\":[0,[]]}]},"
    ++ codes "{\"aliases\":[{\"core-export\":[\"func\",0,\"f\"]}]},{\"canon\":[[\"lift\",0,0,0,[]]]},"
    ++ codes "{\"exports\":[[\"f\",\"func\",0]]},\"end\",\"component\",\"version\",{\"imports\":[[\"f\",[\"func\","
    ++ codes "0]]]},{\"canon\":[[\"lower\",0,0,0,[]]]},{\"module\":{\"ty\":1,\"imports\":[[\"e\",\"f\",[\"func\",0]]],"
    ++ codes "\"funcs\":[0],\"tables\":0,\"memories\":[],\"globals\":0,\"tags\":0,\"exports\":[[\"f\",\"func\",1]]}},"
    ++ codes "{\"instances\":[{\"exports\":[[\"f\",\"func\",0]]},{\"instantiate\":[0,[[\"e\",0]]]}]},"
    ++ codes "{\"aliases\":[{\"core-export\":[\"func\",1,\"f\"]}]},{\"canon\":[[\"lift\",1,0,0,[]]]},"
    ++ codes "{\"exports\":[[\"f\",\"func\",1]]},\"end\",{\"component-instances\":[{\"instantiate\":[0,[],2]}]},"
    ++ codes "{\"aliases\":[{\"export\":[\"func\",0,\"f\"]}]},{\"component-instances\":[{\"instantiate\":[1,[[\"f\","
    ++ codes "\"func\",0]],2]}]},{\"aliases\":[{\"export\":[\"func\",1,\"f\"]}]},"
    ++ codes "{\"component-instances\":[{\"instantiate\":[1,[[\"f\",\"func\",1]],2]}]},\"end\"]}"

-- its outcome
abbrev pub chain : Outcome Reading
chain =
    finished
    (ran 0 [] 1 ∷ made (adapted 1 2 (func_of_instance 0 0)) ∷ ran 1 (adapted 1 2 (func_of_instance 0 0) ∷ []) 2
    ∷ made (adapted 2 3 (func_of_instance 1 1)) ∷ ran 1 (adapted 2 3 (func_of_instance 1 1) ∷ []) 3 ∷ [])
    [] 4

-- a function that is lowered as async
abbrev pub async_lower_text : List ℕ
async_lower_text =
    codes "{\"limit\":100,\"intrinsics\":null,\"types\":{\"core\":[[[\"i32\"],[\"i32\"]]],"
    ++ codes "\"types\":[{\"func\":{\"params\":[[\"x\",\"u32\"]],\"result\":\"u32\",\"async\":false}},{\"module\":[[],"
    ++ codes "[]]},{\"instance\":[[\"f\",[\"func\",0]]]},{\"instance\":[]}]},\"payloads\":[\"version\",\"component\","
    ++ codes "\"version\",{\"module\":{\"ty\":1,\"imports\":[],\"funcs\":[0],\"tables\":0,\"memories\":[],"
    ++ codes "\"globals\":0,\"tags\":0,\"exports\":[[\"f\",\"func\",0]]}},{\"instances\":[{\"instantiate\":[0,[]]}]},"
    ++ codes "{\"aliases\":[{\"core-export\":[\"func\",0,\"f\"]}]},{\"canon\":[[\"lift\",0,0,0,[]]]},"
    ++ codes "{\"exports\":[[\"f\",\"func\",0]]},\"end\",\"component\",\"version\",{\"imports\":[[\"f\",[\"func\","
    ++ codes "0]]]},{\"canon\":[[\"lower\",0,0,0,[\"async\"]]]},{\"module\":{\"ty\":1,\"imports\":[[\"e\",\"f\","
    ++ codes "[\"func\",0]]],\"funcs\":[0],\"tables\":0,\"memories\":[],\"globals\":0,\"tags\":0,\"exports\":[[\"f\","
    ++ codes "\"func\",1]]}},{\"instances\":[{\"exports\":[[\"f\",\"func\",0]]},{\"instantiate\":[0,[[\"e\",0]]]}]},"
    ++ codes "{\"aliases\":[{\"core-export\":[\"func\",1,\"f\"]}]},{\"canon\":[[\"lift\",1,0,0,[]]]},"
    ++ codes "{\"exports\":[[\"f\",\"func\",1]]},\"end\",{\"component-instances\":[{\"instantiate\":[0,[],2]}]},"
    ++ codes "{\"aliases\":[{\"export\":[\"func\",0,\"f\"]}]},{\"component-instances\":[{\"instantiate\":[1,[[\"f\","
    ++ codes "\"func\",0]],2]}]},\"end\"]}"

-- the options of silence, but async
abbrev pub async_side : Options Mark
async_side = options 2 Utf8 true (of_signature i32_to_i32) no_value no_value (linear no_value no_value)

-- a core value of it
abbrev pub async_adapter : CoreValue Mark
async_adapter =
    adapter (of_type u32_to_u32) (silent 1 i32_to_i32) (of_type u32_to_u32) async_side (func_of_instance 0 0)

-- its outcome
abbrev pub async_lower : Outcome Reading
async_lower = finished (ran 0 [] 1 ∷ made async_adapter ∷ ran 1 (async_adapter ∷ []) 2 ∷ []) [] 3
