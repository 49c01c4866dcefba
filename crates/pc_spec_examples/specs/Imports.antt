-- Imports, and aliases of what a host instance has.
use Rattle.std.specs.Prelude.{ℕ, false, List, [], ◌∷◌, ◌++◌, codes}
use Rattle.pc_types.specs.declared.error.Unsupported.TheVariants as refusal
use Rattle.pc_types.specs.TypeTree.{TypeTree, func_of, instance_of, and_field, no_fields, no_tree}
use Rattle.pc_spec_plan.specs.CoreValue.{CoreValue, lowered}
use Rattle.pc_spec_plan.specs.Log.{needed, declared}
use Rattle.pc_parsed.specs.Mark.{Mark, of_type}
use Rattle.pc_spec_reading.specs.Outcome.{Outcome, invalid, bad_type, unsupported}
use Rattle.pc_spec_reading.specs.Reading.{Reading}
use Rattle.pc_spec_examples.specs.Means.{finished, given, stuck}
use Rattle.pc_spec_examples.specs.Words.{import_named, path, silent, ran, i32_to_i32}

-- a function of an instance of a host instance, lowered and given to a module
abbrev pub host_alias_text : List ℕ
host_alias_text =
    codes "{\"limit\":100,\"intrinsics\":null,\"types\":{\"core\":[[[\"i32\"],[\"i32\"]]],"
    ++ codes "\"types\":[{\"func\":{\"params\":[],\"result\":null,\"async\":false}},{\"instance\":[[\"f\",[\"func\","
    ++ codes "0]]]},{\"instance\":[[\"a\",[\"instance\",1]]]},{\"module\":[[],[]]}]},\"payloads\":[\"version\","
    ++ codes "{\"imports\":[[\"t\",[\"type\",0]],[\"i\",[\"instance\",2]]]},{\"aliases\":[{\"export\":[\"instance\",0,"
    ++ codes "\"a\"]}]},{\"aliases\":[{\"export\":[\"func\",1,\"f\"]}]},{\"canon\":[[\"lower\",0,0,0,[]]]},"
    ++ codes "{\"module\":{\"ty\":3,\"imports\":[[\"e\",\"f\",[\"func\",0]]],\"funcs\":[],\"tables\":0,\"memories\":[],"
    ++ codes "\"globals\":0,\"tags\":0,\"exports\":[]}},{\"instances\":[{\"exports\":[[\"f\",\"func\",0]]},"
    ++ codes "{\"instantiate\":[0,[[\"e\",0]]]}]},\"end\"]}"

-- the import of a function type is a type, and takes the first place
abbrev pub host_f : CoreValue Mark
host_f = lowered (path 1 (codes "a" ∷ codes "f" ∷ [])) (of_type (func_of no_fields no_tree false)) (silent 0 i32_to_i32)

-- a function of nothing to nothing
abbrev pub idle : TypeTree
idle = func_of no_fields no_tree false

-- an instance of an instance of it
abbrev pub idle_inside : TypeTree
idle_inside = instance_of (and_field (codes "a") (instance_of (and_field (codes "f") idle no_fields)) no_fields)

-- its outcome
abbrev pub host_alias : Outcome Reading
host_alias =
    given (import_named (codes "t") idle ∷ import_named (codes "i") idle_inside ∷ []) []
    (finished (needed (path 1 (codes "a" ∷ codes "f" ∷ [])) ∷ declared host_f ∷ ran 0 (host_f ∷ []) 0 ∷ []) [] 1)

-- the import of a defined type takes no place
abbrev pub defined_import_text : List ℕ
defined_import_text =
    codes "{\"limit\":100,\"intrinsics\":null,\"types\":{\"core\":[[[\"i32\"],[\"i32\"]]],"
    ++ codes "\"types\":[{\"list\":\"u8\"},{\"func\":{\"params\":[],\"result\":null,\"async\":false}}]},"
    ++ codes "\"payloads\":[\"version\",{\"imports\":[[\"t\",[\"type\",0]],[\"f\",[\"func\",1]]]},"
    ++ codes "{\"canon\":[[\"lower\",0,1,0,[]]]},\"end\"]}"

-- a core value of it
abbrev pub first_f : CoreValue Mark
first_f = lowered (path 0 []) (of_type (func_of no_fields no_tree false)) (silent 0 i32_to_i32)

-- its outcome
abbrev pub defined_import : Outcome Reading
defined_import =
    given (import_named (codes "f") idle ∷ []) [] (finished (needed (path 0 []) ∷ declared first_f ∷ []) [] 1)

-- a component of a host instance, also by an alias of another kind, and where it stands as a type
abbrev pub component_alias_text : List ℕ
component_alias_text =
    codes "{\"limit\":100,\"intrinsics\":null,\"types\":{\"core\":[],\"types\":[{\"component\":[[],[]]},"
    ++ codes "{\"instance\":[[\"c\",[\"component\",0]],[\"t\",[\"type\",0]]]}]},\"payloads\":[\"version\","
    ++ codes "{\"imports\":[[\"i\",[\"instance\",1]]]},{\"aliases\":[{\"export\":[\"component\",0,\"c\"]}]},\"end\"]}"

-- another input
abbrev pub component_as_func_text : List ℕ
component_as_func_text =
    codes "{\"limit\":100,\"intrinsics\":null,\"types\":{\"core\":[],\"types\":[{\"component\":[[],[]]},"
    ++ codes "{\"instance\":[[\"c\",[\"component\",0]],[\"t\",[\"type\",0]]]}]},\"payloads\":[\"version\","
    ++ codes "{\"imports\":[[\"i\",[\"instance\",1]]]},{\"aliases\":[{\"export\":[\"func\",0,\"c\"]}]},\"end\"]}"

-- another input
abbrev pub component_as_type_text : List ℕ
component_as_type_text =
    codes "{\"limit\":100,\"intrinsics\":null,\"types\":{\"core\":[],\"types\":[{\"component\":[[],[]]},"
    ++ codes "{\"instance\":[[\"c\",[\"component\",0]],[\"t\",[\"type\",0]]]}]},\"payloads\":[\"version\","
    ++ codes "{\"imports\":[[\"i\",[\"instance\",1]]]},{\"aliases\":[{\"export\":[\"type\",0,\"t\"]}]},\"end\"]}"

-- its outcome
abbrev pub component_alias : Outcome Reading
component_alias = stuck (unsupported refusal.ComponentImport) 0 1

-- a name that a host instance lacks, and an alias of another kind
abbrev pub alias_missing_text : List ℕ
alias_missing_text =
    codes "{\"limit\":100,\"intrinsics\":null,\"types\":{\"core\":[],\"types\":[{\"func\":{\"params\":[],"
    ++ codes "\"result\":null,\"async\":false}},{\"instance\":[[\"f\",[\"func\",0]]]},{\"instance\":[[\"a\","
    ++ codes "[\"instance\",1]]]},{\"module\":[[],[]]}]},\"payloads\":[\"version\",{\"imports\":[[\"i\",[\"instance\","
    ++ codes "1]]]},{\"aliases\":[{\"export\":[\"func\",0,\"g\"]}]},\"end\"]}"

-- another input
abbrev pub alias_of_another_kind_text : List ℕ
alias_of_another_kind_text =
    codes "{\"limit\":100,\"intrinsics\":null,\"types\":{\"core\":[],\"types\":[{\"func\":{\"params\":[],"
    ++ codes "\"result\":null,\"async\":false}},{\"instance\":[[\"f\",[\"func\",0]]]},{\"instance\":[[\"a\","
    ++ codes "[\"instance\",1]]]},{\"module\":[[],[]]}]},\"payloads\":[\"version\",{\"imports\":[[\"i\",[\"instance\","
    ++ codes "1]]]},{\"aliases\":[{\"export\":[\"module\",0,\"f\"]}]},\"end\"]}"

-- its outcome
abbrev pub alias_missing : Outcome Reading
alias_missing = stuck invalid 0 1

-- imports are prepared before the first item: item 1 is stuck before item 0
abbrev pub prepared_first_text : List ℕ
prepared_first_text =
    codes "{\"limit\":100,\"intrinsics\":null,\"types\":{\"core\":[],\"types\":[{\"instance\":[]}]},"
    ++ codes "\"payloads\":[\"version\",{\"module\":{\"ty\":0,\"imports\":[],\"funcs\":[],\"tables\":0,\"memories\":[],"
    ++ codes "\"globals\":0,\"tags\":0,\"exports\":[]}},{\"imports\":[[\"f\",[\"func\",0]]]},\"end\"]}"

-- its outcome
abbrev pub prepared_first : Outcome Reading
prepared_first = stuck bad_type 0 1

-- a component is given nothing for a function, and for a resource
abbrev pub nothing_given_text : List ℕ
nothing_given_text =
    codes "{\"limit\":100,\"intrinsics\":null,\"types\":{\"core\":[],\"types\":[{\"func\":{\"params\":[],"
    ++ codes "\"result\":null,\"async\":false}},{\"instance\":[]}]},\"payloads\":[\"version\",\"component\","
    ++ codes "\"version\",{\"imports\":[[\"f\",[\"func\",0]]]},\"end\",{\"component-instances\":[{\"instantiate\":[0,"
    ++ codes "[],1]}]},\"end\"]}"

-- another input
abbrev pub no_resource_given_text : List ℕ
no_resource_given_text =
    codes "{\"limit\":100,\"intrinsics\":null,\"types\":{\"core\":[],\"types\":[\"resource\",{\"instance\":[]}]},"
    ++ codes "\"payloads\":[\"version\",\"component\",\"version\",{\"imports\":[[\"r\",[\"type\",0]]]},\"end\","
    ++ codes "{\"component-instances\":[{\"instantiate\":[0,[],1]}]},\"end\"]}"

-- its outcome
abbrev pub nothing_given : Outcome Reading
nothing_given = stuck invalid 1 0

-- a type that is no resource, given for one
abbrev pub no_resource_text : List ℕ
no_resource_text =
    codes "{\"limit\":100,\"intrinsics\":null,\"types\":{\"core\":[],\"types\":[\"resource\","
    ++ codes "{\"func\":{\"params\":[],\"result\":null,\"async\":false}},{\"instance\":[]}]},\"payloads\":[\"version\","
    ++ codes "\"component\",\"version\",{\"imports\":[[\"r\",[\"type\",0]]]},\"end\","
    ++ codes "{\"component-instances\":[{\"instantiate\":[0,[[\"r\",\"type\",1]],2]}]},\"end\"]}"

-- its outcome
abbrev pub no_resource : Outcome Reading
no_resource = stuck bad_type 1 0
