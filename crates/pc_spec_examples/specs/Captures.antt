-- What a component captures, and when.
use Rattle.std.specs.Prelude.{ℕ, List, [], ◌∷◌, ◌++◌, codes}
use Rattle.pc_spec_reading.specs.Outcome.{Outcome, invalid, bad_type}
use Rattle.pc_spec_reading.specs.Reading.{Reading}
use Rattle.pc_spec_examples.specs.Means.{finished, stuck}
use Rattle.pc_spec_examples.specs.Words.{ran}

-- a module that is defined after the component that names it
abbrev pub later_module_text : List ℕ
later_module_text =
    codes "{\"limit\":100,\"intrinsics\":null,\"types\":{\"core\":[],\"types\":[{\"module\":[[],[]]},"
    ++ codes "{\"instance\":[]}]},\"payloads\":[\"version\",\"component\",\"version\","
    ++ codes "{\"aliases\":[{\"outer\":[\"core-module\",1,0]}]},\"end\",{\"module\":{\"ty\":0,\"imports\":[],"
    ++ codes "\"funcs\":[],\"tables\":0,\"memories\":[],\"globals\":0,\"tags\":0,\"exports\":[]}},"
    ++ codes "{\"component-instances\":[{\"instantiate\":[0,[],1]}]},\"end\"]}"

-- its outcome
abbrev pub later_module : Outcome Reading
later_module = stuck invalid 0 0

-- a component names itself: it isn't there yet
abbrev pub own_component_text : List ℕ
own_component_text =
    codes "{\"limit\":100,\"intrinsics\":null,\"types\":{\"core\":[],\"types\":[{\"module\":[[],[]]},"
    ++ codes "{\"instance\":[]}]},\"payloads\":[\"version\",\"component\",\"version\","
    ++ codes "{\"aliases\":[{\"outer\":[\"component\",1,0]}]},\"end\",\"end\"]}"

-- a component makes one that stands beside it, which runs the second of two modules of its own scope
abbrev pub sibling_text : List ℕ
sibling_text =
    codes "{\"limit\":100,\"intrinsics\":null,\"types\":{\"core\":[],\"types\":[{\"module\":[[],[]]},"
    ++ codes "{\"instance\":[]}]},\"payloads\":[\"version\",\"component\",\"version\",{\"module\":{\"ty\":0,"
    ++ codes "\"imports\":[],\"funcs\":[],\"tables\":0,\"memories\":[],\"globals\":0,\"tags\":0,\"exports\":[]}},"
    ++ codes "{\"module\":{\"ty\":0,\"imports\":[],\"funcs\":[],\"tables\":0,\"memories\":[],\"globals\":0,\"tags\":0,"
    ++ codes "\"exports\":[]}},{\"aliases\":[{\"outer\":[\"core-module\",0,1]}]},{\"instances\":[{\"instantiate\":[2,"
    ++ codes "[]]}]},\"end\",\"component\",\"version\",{\"aliases\":[{\"outer\":[\"component\",1,0]}]},"
    ++ codes "{\"component-instances\":[{\"instantiate\":[0,[],1]}]},\"end\","
    ++ codes "{\"component-instances\":[{\"instantiate\":[1,[],1]}]},\"end\"]}"

-- the root is 0, the one that makes 1, and the one that is made 2
abbrev pub sibling : Outcome Reading
sibling = finished (ran 1 [] 2 ∷ []) [] 3

-- a component in a component names the scope of the outer one at one instance of it, where the module isn't there
abbrev pub inner_capture_text : List ℕ
inner_capture_text =
    codes "{\"limit\":100,\"intrinsics\":null,\"types\":{\"core\":[],\"types\":[{\"module\":[[],[]]},"
    ++ codes "{\"instance\":[]}]},\"payloads\":[\"version\",\"component\",\"version\",\"component\",\"version\","
    ++ codes "{\"aliases\":[{\"outer\":[\"core-module\",1,0]}]},\"end\",\"end\",{\"module\":{\"ty\":0,\"imports\":[],"
    ++ codes "\"funcs\":[],\"tables\":0,\"memories\":[],\"globals\":0,\"tags\":0,\"exports\":[]}},"
    ++ codes "{\"component-instances\":[{\"instantiate\":[0,[],1]}]},\"end\"]}"

-- the place is that of the instance, and of the nested component in it
abbrev pub inner_capture : Outcome Reading
inner_capture = stuck invalid 1 0

-- an outer alias of a type or a core type is no item: the component is item 0 of the root
abbrev pub type_aliases_text : List ℕ
type_aliases_text =
    codes "{\"limit\":100,\"intrinsics\":null,\"types\":{\"core\":[],\"types\":[{\"module\":[[],[]]},"
    ++ codes "{\"instance\":[]}]},\"payloads\":[\"version\",{\"types\":[\"other\"]},{\"aliases\":[{\"outer\":[\"type\","
    ++ codes "0,0]}]},{\"aliases\":[{\"outer\":[\"core-type\",0,3]}]},\"core-types\",\"custom\",\"component\","
    ++ codes "\"version\",\"end\",{\"component-instances\":[{\"instantiate\":[0,[],0]}]},\"end\"]}"

-- its outcome
abbrev pub type_aliases : Outcome Reading
type_aliases = stuck bad_type 0 1
