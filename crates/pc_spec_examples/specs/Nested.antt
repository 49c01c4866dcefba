-- Rows with nested components.
use Rattle.std.specs.Prelude.{ℕ, List, [], ◌∷◌, ◌++◌, codes}
use Rattle.pc_types.specs.declared.parsed.WasmValType.TheVariants as core
use Rattle.pc_spec_plan.specs.CoreValue.{no_value}
use Rattle.pc_spec_plan.specs.Log.{declared_resource}
use Rattle.pc_spec_reading.specs.Outcome.{Outcome, invalid}
use Rattle.pc_spec_reading.specs.Reading.{Reading}
use Rattle.pc_spec_examples.specs.Means.{finished, stuck}
use Rattle.pc_spec_examples.specs.Words.{ran}

-- one component made twice, with one module and then another
abbrev pub two_children_text : List ℕ
two_children_text =
    codes "{\"limit\":100,\"intrinsics\":null,\"types\":{\"core\":[],\"types\":[{\"module\":[[],[]]},"
    ++ codes "{\"instance\":[]}]},\"payloads\":[\"version\",{\"module\":{\"ty\":0,\"imports\":[],\"funcs\":[],"
    ++ codes "\"tables\":0,\"memories\":[],\"globals\":0,\"tags\":0,\"exports\":[]}},{\"module\":{\"ty\":0,"
    ++ codes "\"imports\":[],\"funcs\":[],\"tables\":0,\"memories\":[],\"globals\":0,\"tags\":0,\"exports\":[]}},"
    ++ codes "\"component\",\"version\",{\"imports\":[[\"m\",[\"module\",0]]]},{\"instances\":[{\"instantiate\":[0,"
    ++ codes "[]]}]},\"end\",{\"component-instances\":[{\"instantiate\":[0,[[\"m\",\"module\",0]],1]},"
    ++ codes "{\"instantiate\":[0,[[\"m\",\"module\",1]],1]}]},\"end\"]}"

-- its outcome
abbrev pub two_children : Outcome Reading
two_children = finished (ran 0 [] 1 ∷ ran 1 [] 2 ∷ []) [] 3

-- the same with a resource in the component: each instance has its own
abbrev pub instantiated_twice_text : List ℕ
instantiated_twice_text =
    codes "{\"limit\":100,\"intrinsics\":null,\"types\":{\"core\":[],\"types\":[{\"module\":[[],[]]},"
    ++ codes "{\"instance\":[]},\"resource\"]},\"payloads\":[\"version\",{\"module\":{\"ty\":0,\"imports\":[],"
    ++ codes "\"funcs\":[],\"tables\":0,\"memories\":[],\"globals\":0,\"tags\":0,\"exports\":[]}},"
    ++ codes "{\"module\":{\"ty\":0,\"imports\":[],\"funcs\":[],\"tables\":0,\"memories\":[],\"globals\":0,\"tags\":0,"
    ++ codes "\"exports\":[]}},\"component\",\"version\",{\"imports\":[[\"m\",[\"module\",0]]]},"
    ++ codes "{\"types\":[{\"resource\":[2,\"i32\",null]}]},{\"instances\":[{\"instantiate\":[0,[]]}]},\"end\","
    ++ codes "{\"component-instances\":[{\"instantiate\":[0,[[\"m\",\"module\",0]],1]},{\"instantiate\":[0,[[\"m\","
    ++ codes "\"module\",1]],1]}]},\"end\"]}"

-- its outcome
abbrev pub instantiated_twice : Outcome Reading
instantiated_twice =
    finished
    (declared_resource core.I32 no_value 1 ∷ ran 0 [] 1 ∷ declared_resource core.I32 no_value 2 ∷ ran 1 [] 2 ∷ [])
    [] 3

-- the same with an import of a type that is given nothing: it is skipped
abbrev pub type_import_text : List ℕ
type_import_text =
    codes "{\"limit\":100,\"intrinsics\":null,\"types\":{\"core\":[],\"types\":[{\"module\":[[],[]]},"
    ++ codes "{\"instance\":[]},\"resource\"]},\"payloads\":[\"version\",{\"module\":{\"ty\":0,\"imports\":[],"
    ++ codes "\"funcs\":[],\"tables\":0,\"memories\":[],\"globals\":0,\"tags\":0,\"exports\":[]}},"
    ++ codes "{\"module\":{\"ty\":0,\"imports\":[],\"funcs\":[],\"tables\":0,\"memories\":[],\"globals\":0,\"tags\":0,"
    ++ codes "\"exports\":[]}},\"component\",\"version\",{\"imports\":[[\"m\",[\"module\",0]],[\"t\",[\"type\",1]]]},"
    ++ codes "{\"types\":[{\"resource\":[2,\"i32\",null]}]},{\"instances\":[{\"instantiate\":[0,[]]}]},\"end\","
    ++ codes "{\"component-instances\":[{\"instantiate\":[0,[[\"m\",\"module\",0]],1]},{\"instantiate\":[0,[[\"m\","
    ++ codes "\"module\",1]],1]}]},\"end\"]}"

-- the same with a function where a module is imported
abbrev pub argument_of_another_kind_text : List ℕ
argument_of_another_kind_text =
    codes "{\"limit\":100,\"intrinsics\":null,\"types\":{\"core\":[],\"types\":[{\"module\":[[],[]]},"
    ++ codes "{\"instance\":[]},\"resource\",{\"func\":{\"params\":[],\"result\":null,\"async\":false}}]},"
    ++ codes "\"payloads\":[\"version\",{\"imports\":[[\"h\",[\"func\",3]]]},{\"module\":{\"ty\":0,\"imports\":[],"
    ++ codes "\"funcs\":[],\"tables\":0,\"memories\":[],\"globals\":0,\"tags\":0,\"exports\":[]}},"
    ++ codes "{\"module\":{\"ty\":0,\"imports\":[],\"funcs\":[],\"tables\":0,\"memories\":[],\"globals\":0,\"tags\":0,"
    ++ codes "\"exports\":[]}},\"component\",\"version\",{\"imports\":[[\"m\",[\"module\",0]]]},"
    ++ codes "{\"types\":[{\"resource\":[2,\"i32\",null]}]},{\"instances\":[{\"instantiate\":[0,[]]}]},\"end\","
    ++ codes "{\"component-instances\":[{\"instantiate\":[0,[[\"m\",\"func\",0]],1]},{\"instantiate\":[0,[[\"m\","
    ++ codes "\"module\",1]],1]}]},\"end\"]}"

-- its outcome
abbrev pub argument_of_another_kind : Outcome Reading
argument_of_another_kind = stuck invalid 1 0

-- an instantiation of a component that is missing
abbrev pub component_missing_text : List ℕ
component_missing_text =
    codes "{\"limit\":100,\"intrinsics\":null,\"types\":{\"core\":[],\"types\":[{\"instance\":[]}]},"
    ++ codes "\"payloads\":[\"version\",\"component\",\"version\",\"end\","
    ++ codes "{\"component-instances\":[{\"instantiate\":[1,[],0]}]},\"end\"]}"

-- its outcome
abbrev pub component_missing : Outcome Reading
component_missing = stuck invalid 0 1

-- a component two bodies in names a module of the root, and is made by another component
abbrev pub capture_text : List ℕ
capture_text =
    codes "{\"limit\":100,\"intrinsics\":null,\"types\":{\"core\":[],\"types\":[{\"module\":[[],[]]},"
    ++ codes "{\"instance\":[]},{\"component\":[[],[]]},{\"instance\":[[\"b\",[\"component\",2]]]}]},"
    ++ codes "\"payloads\":[\"version\",{\"module\":{\"ty\":0,\"imports\":[],\"funcs\":[],\"tables\":0,\"memories\":[],"
    ++ codes "\"globals\":0,\"tags\":0,\"exports\":[]}},\"component\",\"version\",{\"module\":{\"ty\":0,\"imports\":[],"
    ++ codes "\"funcs\":[],\"tables\":0,\"memories\":[],\"globals\":0,\"tags\":0,\"exports\":[]}},\"component\","
    ++ codes "\"version\",{\"aliases\":[{\"outer\":[\"core-module\",2,0]}]},{\"instances\":[{\"instantiate\":[0,[]]}]},"
    ++ codes "\"end\",{\"exports\":[[\"b\",\"component\",0]]},\"end\",\"component\",\"version\",{\"imports\":[[\"b\","
    ++ codes "[\"component\",2]]]},{\"component-instances\":[{\"instantiate\":[0,[],1]}]},\"end\","
    ++ codes "{\"component-instances\":[{\"instantiate\":[0,[],3]}]},{\"aliases\":[{\"export\":[\"component\",0,"
    ++ codes "\"b\"]}]},{\"component-instances\":[{\"instantiate\":[1,[[\"b\",\"component\",2]],1]}]},\"end\"]}"

-- the root is 0, the first component 1, the one that makes 2, and what it makes 3
abbrev pub capture : Outcome Reading
capture = finished (ran 0 [] 3 ∷ []) [] 4

-- a component names a module that isn't there, and is never made
abbrev pub bad_capture_text : List ℕ
bad_capture_text =
    codes "{\"limit\":100,\"intrinsics\":null,\"types\":{\"core\":[],\"types\":[{\"module\":[[],[]]}]},"
    ++ codes "\"payloads\":[\"version\",{\"module\":{\"ty\":0,\"imports\":[],\"funcs\":[],\"tables\":0,\"memories\":[],"
    ++ codes "\"globals\":0,\"tags\":0,\"exports\":[]}},{\"module\":{\"ty\":0,\"imports\":[],\"funcs\":[],\"tables\":0,"
    ++ codes "\"memories\":[],\"globals\":0,\"tags\":0,\"exports\":[]}},\"component\",\"version\","
    ++ codes "{\"aliases\":[{\"outer\":[\"core-module\",1,7]}]},\"end\",\"end\"]}"

-- its outcome
abbrev pub bad_capture : Outcome Reading
bad_capture = stuck invalid 0 2

-- a component that makes what it is given is given itself
abbrev pub self_application_text : List ℕ
self_application_text =
    codes "{\"limit\":5,\"intrinsics\":null,\"types\":{\"core\":[],\"types\":[{\"component\":[[],[]]},"
    ++ codes "{\"instance\":[]}]},\"payloads\":[\"version\",\"component\",\"version\",{\"imports\":[[\"c\","
    ++ codes "[\"component\",0]]]},{\"component-instances\":[{\"instantiate\":[0,[[\"c\",\"component\",0]],1]}]},"
    ++ codes "\"end\",{\"component-instances\":[{\"instantiate\":[0,[[\"c\",\"component\",0]],1]}]},\"end\"]}"
