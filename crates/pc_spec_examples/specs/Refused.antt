-- What the root can't export.
use Rattle.std.specs.Prelude.{ℕ, List, ◌++◌, codes}
use Rattle.pc_types.specs.declared.error.Unsupported.TheVariants as refusal
use Rattle.pc_spec_reading.specs.Outcome.{Outcome, invalid, bad_type}
use Rattle.pc_spec_reading.specs.Reading.{Reading}
use Rattle.pc_spec_examples.specs.Means.{stuck, refused}

-- an intrinsic, behind a type
abbrev pub intrinsic_exported_text : List ℕ
intrinsic_exported_text =
    codes "{\"limit\":100,\"intrinsics\":\"i\",\"types\":{\"core\":[],\"types\":[{\"func\":{\"params\":[[\"a\","
    ++ codes "\"u64\"]],\"result\":\"u8\",\"async\":false}},{\"instance\":[[\"u8-native-load\",[\"func\",0]]]}]},"
    ++ codes "\"payloads\":[\"version\",{\"imports\":[[\"i\",[\"instance\",1]]]},{\"aliases\":[{\"export\":[\"func\",0,"
    ++ codes "\"u8-native-load\"]}]},{\"exports\":[[\"t\",\"type\",0],[\"f\",\"func\",0]]},\"end\"]}"

-- its outcome
abbrev pub intrinsic_exported : Outcome Reading
intrinsic_exported = refused refusal.ReexportedIntrinsic 1

-- the instance of the intrinsics
abbrev pub intrinsics_exported_text : List ℕ
intrinsics_exported_text =
    codes "{\"limit\":100,\"intrinsics\":\"i\",\"types\":{\"core\":[],\"types\":[{\"func\":{\"params\":[[\"a\","
    ++ codes "\"u64\"]],\"result\":\"u8\",\"async\":false}},{\"instance\":[[\"u8-native-load\",[\"func\",0]]]}]},"
    ++ codes "\"payloads\":[\"version\",{\"imports\":[[\"i\",[\"instance\",1]]]},{\"exports\":[[\"f\",\"instance\","
    ++ codes "0]]},\"end\"]}"

-- its outcome
abbrev pub intrinsics_exported : Outcome Reading
intrinsics_exported = refused refusal.ReexportedIntrinsics 0

-- a component
abbrev pub component_exported_text : List ℕ
component_exported_text =
    codes "{\"limit\":100,\"intrinsics\":null,\"types\":{\"core\":[],\"types\":[]},\"payloads\":[\"version\","
    ++ codes "\"component\",\"version\",\"end\",{\"exports\":[[\"c\",\"component\",0]]},\"end\"]}"

-- its outcome
abbrev pub component_exported : Outcome Reading
component_exported = refused refusal.ExportedComponent 0

-- a component in a host instance, in the second of three exports
abbrev pub host_component_text : List ℕ
host_component_text =
    codes "{\"limit\":100,\"intrinsics\":null,\"types\":{\"core\":[],\"types\":[{\"component\":[[],[]]},"
    ++ codes "{\"instance\":[[\"c\",[\"component\",0]]]}]},\"payloads\":[\"version\",{\"imports\":[[\"i\","
    ++ codes "[\"instance\",1]]]},{\"exports\":[[\"t\",\"type\",0],[\"e\",\"instance\",0],[\"u\",\"instance\",0]]},"
    ++ codes "\"end\"]}"

-- its outcome
abbrev pub host_component : Outcome Reading
host_component = refused refusal.ComponentImport 1

-- an export of what isn't there, and of a type that isn't
abbrev pub export_missing_text : List ℕ
export_missing_text =
    codes "{\"limit\":100,\"intrinsics\":null,\"types\":{\"core\":[],\"types\":[]},\"payloads\":[\"version\","
    ++ codes "{\"exports\":[[\"e\",\"instance\",0]]},\"end\"]}"

-- another input
abbrev pub export_type_missing_text : List ℕ
export_type_missing_text =
    codes "{\"limit\":100,\"intrinsics\":null,\"types\":{\"core\":[],\"types\":[]},\"payloads\":[\"version\","
    ++ codes "{\"exports\":[[\"e\",\"type\",0]]},\"end\"]}"

-- its outcome
abbrev pub export_missing : Outcome Reading
export_missing = stuck invalid 0 0

-- its outcome
abbrev pub export_type_missing : Outcome Reading
export_type_missing = stuck bad_type 0 0
