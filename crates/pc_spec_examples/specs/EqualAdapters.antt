-- When two adapters are one.
use Rattle.std.specs.Prelude.{ℕ, false, List, [], ◌∷◌, ◌++◌, codes}
use Rattle.pc_types.specs.declared.encoding.StringEncoding.TheVariants.{Utf16}
use Rattle.pc_spec_plan.specs.CoreValue.{CoreValue, options, no_value, linear, adapter}
use Rattle.pc_spec_plan.specs.Log.{made}
use Rattle.pc_parsed.specs.Mark.{Mark, of_type, of_signature}
use Rattle.pc_spec_reading.specs.Outcome.{Outcome}
use Rattle.pc_spec_reading.specs.Reading.{Reading}
use Rattle.pc_spec_examples.specs.Means.{finished}
use Rattle.pc_spec_examples.specs.Words.{func_of_instance, silent, ran, i32_to_i32, u32_to_u32}
use Rattle.pc_spec_examples.specs.Adapters.{adapted}

-- a function that is lowered three times: the second time under another number of an equal type, and with the option of
-- silence written out; the third time with another option
abbrev pub equal_adapters_text : List ℕ
equal_adapters_text =
    codes "{\"limit\":100,\"intrinsics\":null,\"types\":{\"core\":[[[\"i32\"],[\"i32\"]]],"
    ++ codes "\"types\":[{\"func\":{\"params\":[[\"x\",\"u32\"]],\"result\":\"u32\",\"async\":false}},{\"module\":[[],"
    ++ codes "[]]},{\"instance\":[[\"f\",[\"func\",0]]]},{\"instance\":[]},{\"func\":{\"params\":[[\"x\",\"u32\"]],"
    ++ codes "\"result\":\"u32\",\"async\":false}}]},\"payloads\":[\"version\",\"component\",\"version\","
    ++ codes "{\"module\":{\"ty\":1,\"imports\":[],\"funcs\":[0],\"tables\":0,\"memories\":[],\"globals\":0,\"tags\":0,"
    ++ codes "\"exports\":[[\"f\",\"func\",0]]}},{\"instances\":[{\"instantiate\":[0,[]]}]},"
    ++ codes "{\"aliases\":[{\"core-export\":[\"func\",0,\"f\"]}]},{\"canon\":[[\"lift\",0,0,0,[]]]},"
    ++ codes "{\"exports\":[[\"f\",\"func\",0]]},\"end\",\"component\",\"version\",{\"imports\":[[\"f\",[\"func\","
    ++ codes "0]]]},{\"canon\":[[\"lower\",0,0,0,[]],[\"lower\",0,4,0,[\"utf8\"]],[\"lower\",0,0,0,[\"utf16\"]]]},"
    ++ codes "{\"module\":{\"ty\":1,\"imports\":[[\"e\",\"a\",[\"func\",0]],[\"e\",\"b\",[\"func\",0]],[\"e\",\"c\","
    ++ codes "[\"func\",0]]],\"funcs\":[],\"tables\":0,\"memories\":[],\"globals\":0,\"tags\":0,\"exports\":[]}},"
    ++ codes "{\"instances\":[{\"exports\":[[\"a\",\"func\",0],[\"b\",\"func\",1],[\"c\",\"func\",2]]},"
    ++ codes "{\"instantiate\":[0,[[\"e\",0]]]}]},\"end\",{\"component-instances\":[{\"instantiate\":[0,[],2]}]},"
    ++ codes "{\"aliases\":[{\"export\":[\"func\",0,\"f\"]}]},{\"component-instances\":[{\"instantiate\":[1,[[\"f\","
    ++ codes "\"func\",0]],3]}]},\"end\"]}"

-- the third adapter is another one
abbrev pub other_adapter : CoreValue Mark
other_adapter =
    adapter (of_type u32_to_u32) (silent 1 i32_to_i32) (of_type u32_to_u32)
    (options 2 Utf16 false (of_signature i32_to_i32) no_value no_value (linear no_value no_value))
    (func_of_instance 0 0)

-- the first two are one, which is made once
abbrev pub equal_adapters : Outcome Reading
equal_adapters =
    finished
    (ran 0 [] 1 ∷ made (adapted 1 2 (func_of_instance 0 0)) ∷ made other_adapter
    ∷ ran 1 (adapted 1 2 (func_of_instance 0 0) ∷ adapted 1 2 (func_of_instance 0 0) ∷ other_adapter ∷ []) 2 ∷ [])
    [] 3
