-- Rows that are refused whatever they would do.
use Rattle.std.specs.Prelude.{◌≡◌, ℕ, List, ◌++◌, Option, Some, None, codes}
use Rattle.serde_json.specs.Read.{read}
use Rattle.pc_types.specs.declared.error.Error.{Error}
use Rattle.pc_types.specs.declared.error.Error.TheVariants as error
use Rattle.pc_types.specs.declared.error.Place.TheVariants as place
use Rattle.pc_types.specs.declared.error.Unsupported.{Unsupported}
use Rattle.pc_input.specs.declared.input.Input.{Input}
use Rattle.pc_input_values.specs.Tree.{◌>>=◌}
use Rattle.pc_input.specs.Input.{input_of}
use Rattle.pc_parsed.specs.StaticFault.{static_fault}

-- an input with its first static fault, if it has one
abbrev pub with_fault : Input → Option (Option Error)
with_fault i = Some (static_fault i.table i.intrinsics i.payloads)

-- a text has this static fault
abbrev pub IsFaulty : List ℕ → Error → Type 0
IsFaulty text e = (read text >>= input_of >>= with_fault) ≡ Some (Some e)

-- a text is an input without a static fault
abbrev pub IsFaultless : List ℕ → Type 0
IsFaultless text = (read text >>= input_of >>= with_fault) ≡ Some None

-- a malformed list, at an item of a payload
abbrev pub malformed_at : (payload item : ℕ) → Error
malformed_at n i = error.Malformed (place.Payload n i)

-- intrinsics that are declared wrongly, at an item of a payload
abbrev pub badly_declared : (payload item : ℕ) → Error
badly_declared n i = error.BadIntrinsics (place.Payload n i)

-- a name that stands twice
abbrev pub twice_at : (payload item : ℕ) → Error
twice_at n i = error.DefinedTwice (place.Payload n i)

-- what isn't supported, at an item of a payload
abbrev pub unsupported_at : Unsupported → (payload item : ℕ) → Error
unsupported_at u n i = error.Unsupported u (place.Payload n i)

-- a table entry that names itself
abbrev pub entry_names_itself_text : List ℕ
entry_names_itself_text =
    codes "{\"limit\":100,\"intrinsics\":null,\"types\":{\"core\":[],\"types\":[{\"list\":0}]},"
    ++ codes "\"payloads\":[\"version\",\"end\"]}"

-- two exports of one name
abbrev pub export_name_twice_text : List ℕ
export_name_twice_text =
    codes "{\"limit\":100,\"intrinsics\":null,\"types\":{\"core\":[[[\"i32\"],[\"i32\"]]],"
    ++ codes "\"types\":[{\"func\":{\"params\":[[\"x\",\"u32\"]],\"result\":\"u32\",\"async\":false}},{\"module\":[[],"
    ++ codes "[]]}]},\"payloads\":[\"version\",{\"module\":{\"ty\":1,\"imports\":[],\"funcs\":[0],\"tables\":0,"
    ++ codes "\"memories\":[],\"globals\":0,\"tags\":0,\"exports\":[[\"f\",\"func\",0]]}},"
    ++ codes "{\"instances\":[{\"instantiate\":[0,[]]}]},{\"aliases\":[{\"core-export\":[\"func\",0,\"f\"]}]},"
    ++ codes "{\"canon\":[[\"lift\",0,0,0,[]]]},{\"exports\":[[\"f\",\"func\",0],[\"f\",\"func\",0]]},\"end\"]}"

-- a future that is forwarded
abbrev pub future_forward_text : List ℕ
future_forward_text =
    codes "{\"limit\":100,\"intrinsics\":null,\"types\":{\"core\":[],\"types\":[]},\"payloads\":[\"version\","
    ++ codes "{\"canon\":[[\"future.forward\"]]},\"end\"]}"

-- a payload behind the root
abbrev pub payload_after_end_text : List ℕ
payload_after_end_text =
    codes "{\"limit\":100,\"intrinsics\":null,\"types\":{\"core\":[],\"types\":[]},\"payloads\":[\"version\","
    ++ codes "\"end\",\"custom\"]}"

-- a list that ends early
abbrev pub list_ends_early_text : List ℕ
list_ends_early_text =
    codes "{\"limit\":100,\"intrinsics\":null,\"types\":{\"core\":[],\"types\":[]},\"payloads\":[\"version\"]}"

-- a list without payloads
abbrev pub no_payloads_text : List ℕ
no_payloads_text =
    codes "{\"limit\":100,\"intrinsics\":null,\"types\":{\"core\":[[[\"i32\"],[\"i32\"]]],"
    ++ codes "\"types\":[{\"func\":{\"params\":[[\"x\",\"u32\"]],\"result\":\"u32\",\"async\":false}},{\"module\":[[],"
    ++ codes "[]]},{\"instance\":[[\"f\",[\"func\",0]]]},{\"instance\":[]}]},\"payloads\":[]}"

-- a module of more than a million globals
abbrev pub too_many_globals_text : List ℕ
too_many_globals_text =
    codes "{\"limit\":100,\"intrinsics\":null,\"types\":{\"core\":[[[\"i32\"],[\"i32\"]]],"
    ++ codes "\"types\":[{\"func\":{\"params\":[[\"x\",\"u32\"]],\"result\":\"u32\",\"async\":false}},{\"module\":[[],"
    ++ codes "[]]}]},\"payloads\":[\"version\",{\"module\":{\"ty\":1,\"imports\":[],\"funcs\":[0],\"tables\":0,"
    ++ codes "\"memories\":[],\"globals\":1000001,\"tags\":0,\"exports\":[[\"f\",\"func\",0]]}},"
    ++ codes "{\"instances\":[{\"instantiate\":[0,[]]}]},{\"aliases\":[{\"core-export\":[\"func\",0,\"f\"]}]},"
    ++ codes "{\"canon\":[[\"lift\",0,0,0,[]]]},{\"exports\":[[\"f\",\"func\",0]]},\"end\"]}"

-- an intrinsic under another type
abbrev pub intrinsic_of_another_type_text : List ℕ
intrinsic_of_another_type_text =
    codes "{\"limit\":100,\"intrinsics\":\"i\",\"types\":{\"core\":[],\"types\":[{\"func\":{\"params\":[[\"a\","
    ++ codes "\"u32\"]],\"result\":\"u8\",\"async\":false}},{\"instance\":[[\"u8-native-load\",[\"func\",0]]]}]},"
    ++ codes "\"payloads\":[\"version\",{\"imports\":[[\"i\",[\"instance\",1]]]},\"end\"]}"
