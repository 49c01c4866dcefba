-- Deep values, and a deep reading.
use Rattle.std.specs.Prelude.{ℕ, List, ◌++◌, codes}
use Rattle.pc_types.specs.declared.error.Unsupported.TheVariants as refusal
use Rattle.pc_spec_reading.specs.Outcome.{Outcome}
use Rattle.pc_spec_reading.specs.Reading.{Reading}
use Rattle.pc_spec_examples.specs.Means.{refused}

-- forty instances, each of which has the one before twice, over one with a component: the walk of what is exported
-- meets the component first, and ends there
abbrev pub deep_refusal_text : List ℕ
deep_refusal_text =
    codes "{\"limit\":100,\"intrinsics\":null,\"types\":{\"core\":[],\"types\":[{\"instance\":[]}]},"
    ++ codes "\"payloads\":[\"version\",\"component\",\"version\",\"end\","
    ++ codes "{\"component-instances\":[{\"exports\":[[[\"c\",\"component\",0]],0]},"
    ++ codes "{\"exports\":[[[\"a\",\"instance\",0],[\"b\",\"instance\",0]],0]},{\"exports\":[[[\"a\",\"instance\",1],"
    ++ codes "[\"b\",\"instance\",1]],0]},{\"exports\":[[[\"a\",\"instance\",2],[\"b\",\"instance\",2]],0]},"
    ++ codes "{\"exports\":[[[\"a\",\"instance\",3],[\"b\",\"instance\",3]],0]},{\"exports\":[[[\"a\",\"instance\",4],"
    ++ codes "[\"b\",\"instance\",4]],0]},{\"exports\":[[[\"a\",\"instance\",5],[\"b\",\"instance\",5]],0]},"
    ++ codes "{\"exports\":[[[\"a\",\"instance\",6],[\"b\",\"instance\",6]],0]},{\"exports\":[[[\"a\",\"instance\",7],"
    ++ codes "[\"b\",\"instance\",7]],0]},{\"exports\":[[[\"a\",\"instance\",8],[\"b\",\"instance\",8]],0]},"
    ++ codes "{\"exports\":[[[\"a\",\"instance\",9],[\"b\",\"instance\",9]],0]},{\"exports\":[[[\"a\",\"instance\",10],"
    ++ codes "[\"b\",\"instance\",10]],0]},{\"exports\":[[[\"a\",\"instance\",11],[\"b\",\"instance\",11]],0]},"
    ++ codes "{\"exports\":[[[\"a\",\"instance\",12],[\"b\",\"instance\",12]],0]},{\"exports\":[[[\"a\",\"instance\","
    ++ codes "13],[\"b\",\"instance\",13]],0]},{\"exports\":[[[\"a\",\"instance\",14],[\"b\",\"instance\",14]],0]},"
    ++ codes "{\"exports\":[[[\"a\",\"instance\",15],[\"b\",\"instance\",15]],0]},{\"exports\":[[[\"a\",\"instance\","
    ++ codes "16],[\"b\",\"instance\",16]],0]},{\"exports\":[[[\"a\",\"instance\",17],[\"b\",\"instance\",17]],0]},"
    ++ codes "{\"exports\":[[[\"a\",\"instance\",18],[\"b\",\"instance\",18]],0]},{\"exports\":[[[\"a\",\"instance\","
    ++ codes "19],[\"b\",\"instance\",19]],0]},{\"exports\":[[[\"a\",\"instance\",20],[\"b\",\"instance\",20]],0]},"
    ++ codes "{\"exports\":[[[\"a\",\"instance\",21],[\"b\",\"instance\",21]],0]},{\"exports\":[[[\"a\",\"instance\","
    ++ codes "22],[\"b\",\"instance\",22]],0]},{\"exports\":[[[\"a\",\"instance\",23],[\"b\",\"instance\",23]],0]},"
    ++ codes "{\"exports\":[[[\"a\",\"instance\",24],[\"b\",\"instance\",24]],0]},{\"exports\":[[[\"a\",\"instance\","
    ++ codes "25],[\"b\",\"instance\",25]],0]},{\"exports\":[[[\"a\",\"instance\",26],[\"b\",\"instance\",26]],0]},"
    ++ codes "{\"exports\":[[[\"a\",\"instance\",27],[\"b\",\"instance\",27]],0]},{\"exports\":[[[\"a\",\"instance\","
    ++ codes "28],[\"b\",\"instance\",28]],0]},{\"exports\":[[[\"a\",\"instance\",29],[\"b\",\"instance\",29]],0]},"
    ++ codes "{\"exports\":[[[\"a\",\"instance\",30],[\"b\",\"instance\",30]],0]},{\"exports\":[[[\"a\",\"instance\","
    ++ codes "31],[\"b\",\"instance\",31]],0]},{\"exports\":[[[\"a\",\"instance\",32],[\"b\",\"instance\",32]],0]},"
    ++ codes "{\"exports\":[[[\"a\",\"instance\",33],[\"b\",\"instance\",33]],0]},{\"exports\":[[[\"a\",\"instance\","
    ++ codes "34],[\"b\",\"instance\",34]],0]},{\"exports\":[[[\"a\",\"instance\",35],[\"b\",\"instance\",35]],0]},"
    ++ codes "{\"exports\":[[[\"a\",\"instance\",36],[\"b\",\"instance\",36]],0]},{\"exports\":[[[\"a\",\"instance\","
    ++ codes "37],[\"b\",\"instance\",37]],0]},{\"exports\":[[[\"a\",\"instance\",38],[\"b\",\"instance\",38]],0]},"
    ++ codes "{\"exports\":[[[\"a\",\"instance\",39],[\"b\",\"instance\",39]],0]}]},{\"exports\":[[\"x\",\"instance\","
    ++ codes "40]]},\"end\"]}"

-- its outcome
abbrev pub deep_refusal : Outcome Reading
deep_refusal = refused refusal.ExportedComponent 0

-- a component that makes itself two thousand times
abbrev pub two_thousand_text : List ℕ
two_thousand_text =
    codes "{\"limit\":2000,\"intrinsics\":null,\"types\":{\"core\":[],\"types\":[{\"component\":[[],[]]},"
    ++ codes "{\"instance\":[]}]},\"payloads\":[\"version\",\"component\",\"version\",{\"imports\":[[\"c\","
    ++ codes "[\"component\",0]]]},{\"component-instances\":[{\"instantiate\":[0,[[\"c\",\"component\",0]],1]}]},"
    ++ codes "\"end\",{\"component-instances\":[{\"instantiate\":[0,[[\"c\",\"component\",0]],1]}]},\"end\"]}"
