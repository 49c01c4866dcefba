-- What a reading can be too large for, and lists that have none.
use Rattle.std.specs.Prelude.{ℕ, List, [], ◌++◌, codes}
use Rattle.pc_spec_reading.specs.Outcome.{Outcome, invalid}
use Rattle.pc_spec_reading.specs.Reading.{Reading}
use Rattle.pc_spec_examples.specs.Means.{finished, stuck}

-- an instance type of more than 2^32 names, imported: its weight alone is too much. The total is looked at before the
-- import is prepared
abbrev pub too_many_names_text : List ℕ
too_many_names_text =
    codes "{\"limit\":100,\"intrinsics\":null,\"types\":{\"core\":[],\"types\":[{\"instance\":[]},"
    ++ codes "{\"instance\":[[\"a\",[\"instance\",0]],[\"b\",[\"instance\",0]]]},{\"instance\":[[\"a\",[\"instance\","
    ++ codes "1]],[\"b\",[\"instance\",1]]]},{\"instance\":[[\"a\",[\"instance\",2]],[\"b\",[\"instance\",2]]]},"
    ++ codes "{\"instance\":[[\"a\",[\"instance\",3]],[\"b\",[\"instance\",3]]]},{\"instance\":[[\"a\",[\"instance\","
    ++ codes "4]],[\"b\",[\"instance\",4]]]},{\"instance\":[[\"a\",[\"instance\",5]],[\"b\",[\"instance\",5]]]},"
    ++ codes "{\"instance\":[[\"a\",[\"instance\",6]],[\"b\",[\"instance\",6]]]},{\"instance\":[[\"a\",[\"instance\","
    ++ codes "7]],[\"b\",[\"instance\",7]]]},{\"instance\":[[\"a\",[\"instance\",8]],[\"b\",[\"instance\",8]]]},"
    ++ codes "{\"instance\":[[\"a\",[\"instance\",9]],[\"b\",[\"instance\",9]]]},{\"instance\":[[\"a\",[\"instance\","
    ++ codes "10]],[\"b\",[\"instance\",10]]]},{\"instance\":[[\"a\",[\"instance\",11]],[\"b\",[\"instance\",11]]]},"
    ++ codes "{\"instance\":[[\"a\",[\"instance\",12]],[\"b\",[\"instance\",12]]]},{\"instance\":[[\"a\",[\"instance\","
    ++ codes "13]],[\"b\",[\"instance\",13]]]},{\"instance\":[[\"a\",[\"instance\",14]],[\"b\",[\"instance\",14]]]},"
    ++ codes "{\"instance\":[[\"a\",[\"instance\",15]],[\"b\",[\"instance\",15]]]},{\"instance\":[[\"a\",[\"instance\","
    ++ codes "16]],[\"b\",[\"instance\",16]]]},{\"instance\":[[\"a\",[\"instance\",17]],[\"b\",[\"instance\",17]]]},"
    ++ codes "{\"instance\":[[\"a\",[\"instance\",18]],[\"b\",[\"instance\",18]]]},{\"instance\":[[\"a\",[\"instance\","
    ++ codes "19]],[\"b\",[\"instance\",19]]]},{\"instance\":[[\"a\",[\"instance\",20]],[\"b\",[\"instance\",20]]]},"
    ++ codes "{\"instance\":[[\"a\",[\"instance\",21]],[\"b\",[\"instance\",21]]]},{\"instance\":[[\"a\",[\"instance\","
    ++ codes "22]],[\"b\",[\"instance\",22]]]},{\"instance\":[[\"a\",[\"instance\",23]],[\"b\",[\"instance\",23]]]},"
    ++ codes "{\"instance\":[[\"a\",[\"instance\",24]],[\"b\",[\"instance\",24]]]},{\"instance\":[[\"a\",[\"instance\","
    ++ codes "25]],[\"b\",[\"instance\",25]]]},{\"instance\":[[\"a\",[\"instance\",26]],[\"b\",[\"instance\",26]]]},"
    ++ codes "{\"instance\":[[\"a\",[\"instance\",27]],[\"b\",[\"instance\",27]]]},{\"instance\":[[\"a\",[\"instance\","
    ++ codes "28]],[\"b\",[\"instance\",28]]]},{\"instance\":[[\"a\",[\"instance\",29]],[\"b\",[\"instance\",29]]]},"
    ++ codes "{\"instance\":[[\"a\",[\"instance\",30]],[\"b\",[\"instance\",30]]]},{\"instance\":[[\"a\",[\"instance\","
    ++ codes "31]],[\"b\",[\"instance\",31]]]}]},\"payloads\":[\"version\",{\"imports\":[[\"i\",[\"instance\",32]]]},"
    ++ codes "\"end\"]}"

-- an input whose total can be set to the last number. Its 31 instance types have 0 names, 1, and then twice as many as
-- the type before and 2 or 3 more; the last has 2147483468. The total is the 31 entries of the table, the n items of
-- the list, and of the root 1, its import twice, 2 * (8 + 3 + 3 * 31 + 2147483468), its export of a type,
-- 8 + 3 + 3 * 31, and its alias, 8: 4294967288 + n in all
abbrev pub near_the_bound : (more : List ℕ) → List ℕ
near_the_bound more =
    codes "{\"limit\":100,\"intrinsics\":null,\"types\":{\"core\":[],\"types\":[{\"instance\":[]},"
    ++ codes "{\"instance\":[[\"a\",[\"instance\",0]]]},{\"instance\":[[\"a\",[\"instance\",1]],[\"b\","
    ++ codes "[\"instance\",1]],[\"c\",[\"instance\",0]]]},{\"instance\":[[\"a\",[\"instance\",2]],[\"b\","
    ++ codes "[\"instance\",2]],[\"c\",[\"instance\",0]]]},{\"instance\":[[\"a\",[\"instance\",3]],[\"b\","
    ++ codes "[\"instance\",3]],[\"c\",[\"instance\",0]]]},{\"instance\":[[\"a\",[\"instance\",4]],[\"b\","
    ++ codes "[\"instance\",4]],[\"c\",[\"instance\",0]]]},{\"instance\":[[\"a\",[\"instance\",5]],[\"b\","
    ++ codes "[\"instance\",5]],[\"c\",[\"instance\",0]]]},{\"instance\":[[\"a\",[\"instance\",6]],[\"b\","
    ++ codes "[\"instance\",6]],[\"c\",[\"instance\",0]]]},{\"instance\":[[\"a\",[\"instance\",7]],[\"b\","
    ++ codes "[\"instance\",7]],[\"c\",[\"instance\",0]]]},{\"instance\":[[\"a\",[\"instance\",8]],[\"b\","
    ++ codes "[\"instance\",8]],[\"c\",[\"instance\",0]]]},{\"instance\":[[\"a\",[\"instance\",9]],[\"b\","
    ++ codes "[\"instance\",9]],[\"c\",[\"instance\",0]]]},{\"instance\":[[\"a\",[\"instance\",10]],[\"b\","
    ++ codes "[\"instance\",10]],[\"c\",[\"instance\",0]]]},{\"instance\":[[\"a\",[\"instance\",11]],[\"b\","
    ++ codes "[\"instance\",11]],[\"c\",[\"instance\",0]]]},{\"instance\":[[\"a\",[\"instance\",12]],[\"b\","
    ++ codes "[\"instance\",12]],[\"c\",[\"instance\",0]]]},{\"instance\":[[\"a\",[\"instance\",13]],[\"b\","
    ++ codes "[\"instance\",13]],[\"c\",[\"instance\",0]]]},{\"instance\":[[\"a\",[\"instance\",14]],[\"b\","
    ++ codes "[\"instance\",14]],[\"c\",[\"instance\",0]]]},{\"instance\":[[\"a\",[\"instance\",15]],[\"b\","
    ++ codes "[\"instance\",15]],[\"c\",[\"instance\",0]]]},{\"instance\":[[\"a\",[\"instance\",16]],[\"b\","
    ++ codes "[\"instance\",16]],[\"c\",[\"instance\",0]]]},{\"instance\":[[\"a\",[\"instance\",17]],[\"b\","
    ++ codes "[\"instance\",17]],[\"c\",[\"instance\",0]]]},{\"instance\":[[\"a\",[\"instance\",18]],[\"b\","
    ++ codes "[\"instance\",18]],[\"c\",[\"instance\",0]]]},{\"instance\":[[\"a\",[\"instance\",19]],[\"b\","
    ++ codes "[\"instance\",19]],[\"c\",[\"instance\",0]]]},{\"instance\":[[\"a\",[\"instance\",20]],[\"b\","
    ++ codes "[\"instance\",20]],[\"c\",[\"instance\",0]]]},{\"instance\":[[\"a\",[\"instance\",21]],[\"b\","
    ++ codes "[\"instance\",21]],[\"c\",[\"instance\",0]]]},{\"instance\":[[\"a\",[\"instance\",22]],[\"b\","
    ++ codes "[\"instance\",22]]]},{\"instance\":[[\"a\",[\"instance\",23]],[\"b\",[\"instance\",23]],[\"c\","
    ++ codes "[\"instance\",0]]]},{\"instance\":[[\"a\",[\"instance\",24]],[\"b\",[\"instance\",24]]]},"
    ++ codes "{\"instance\":[[\"a\",[\"instance\",25]],[\"b\",[\"instance\",25]]]},{\"instance\":[[\"a\","
    ++ codes "[\"instance\",26]],[\"b\",[\"instance\",26]],[\"c\",[\"instance\",0]]]},{\"instance\":[[\"a\","
    ++ codes "[\"instance\",27]],[\"b\",[\"instance\",27]],[\"c\",[\"instance\",0]]]},{\"instance\":[[\"a\","
    ++ codes "[\"instance\",28]],[\"b\",[\"instance\",28]],[\"c\",[\"instance\",0]]]},{\"instance\":[[\"a\","
    ++ codes "[\"instance\",29]],[\"b\",[\"instance\",29]]]}]},\"payloads\":[\"version\",{\"imports\":[[\"i\","
    ++ codes "[\"instance\",30]]]},{\"exports\":[[\"t\",\"type\",0]]},{\"aliases\":[{\"export\":[\"func\",7,"
    ++ codes "\"f\"]}]}," ++ more ++ codes "\"end\"]}"

-- six items, the largest total that is none too many: the reading goes on to the alias, which names no instance
abbrev pub below_the_bound_text : List ℕ
below_the_bound_text = near_the_bound (codes "\"custom\",")

-- it is stuck there
abbrev pub below_the_bound : Outcome Reading
below_the_bound = stuck invalid 0 2

-- seven items
abbrev pub at_the_bound_text : List ℕ
at_the_bound_text = near_the_bound (codes "\"custom\",\"custom\",")

-- forty instances, each of which has the one before twice; none is exported
abbrev pub shared_instances_text : List ℕ
shared_instances_text =
    codes "{\"limit\":100,\"intrinsics\":null,\"types\":{\"core\":[],\"types\":[{\"instance\":[]}]},"
    ++ codes "\"payloads\":[\"version\",{\"component-instances\":[{\"exports\":[[],0]},{\"exports\":[[[\"a\","
    ++ codes "\"instance\",0],[\"b\",\"instance\",0]],0]},{\"exports\":[[[\"a\",\"instance\",1],[\"b\",\"instance\","
    ++ codes "1]],0]},{\"exports\":[[[\"a\",\"instance\",2],[\"b\",\"instance\",2]],0]},{\"exports\":[[[\"a\","
    ++ codes "\"instance\",3],[\"b\",\"instance\",3]],0]},{\"exports\":[[[\"a\",\"instance\",4],[\"b\",\"instance\","
    ++ codes "4]],0]},{\"exports\":[[[\"a\",\"instance\",5],[\"b\",\"instance\",5]],0]},{\"exports\":[[[\"a\","
    ++ codes "\"instance\",6],[\"b\",\"instance\",6]],0]},{\"exports\":[[[\"a\",\"instance\",7],[\"b\",\"instance\","
    ++ codes "7]],0]},{\"exports\":[[[\"a\",\"instance\",8],[\"b\",\"instance\",8]],0]},{\"exports\":[[[\"a\","
    ++ codes "\"instance\",9],[\"b\",\"instance\",9]],0]},{\"exports\":[[[\"a\",\"instance\",10],[\"b\",\"instance\","
    ++ codes "10]],0]},{\"exports\":[[[\"a\",\"instance\",11],[\"b\",\"instance\",11]],0]},{\"exports\":[[[\"a\","
    ++ codes "\"instance\",12],[\"b\",\"instance\",12]],0]},{\"exports\":[[[\"a\",\"instance\",13],[\"b\",\"instance\","
    ++ codes "13]],0]},{\"exports\":[[[\"a\",\"instance\",14],[\"b\",\"instance\",14]],0]},{\"exports\":[[[\"a\","
    ++ codes "\"instance\",15],[\"b\",\"instance\",15]],0]},{\"exports\":[[[\"a\",\"instance\",16],[\"b\",\"instance\","
    ++ codes "16]],0]},{\"exports\":[[[\"a\",\"instance\",17],[\"b\",\"instance\",17]],0]},{\"exports\":[[[\"a\","
    ++ codes "\"instance\",18],[\"b\",\"instance\",18]],0]},{\"exports\":[[[\"a\",\"instance\",19],[\"b\",\"instance\","
    ++ codes "19]],0]},{\"exports\":[[[\"a\",\"instance\",20],[\"b\",\"instance\",20]],0]},{\"exports\":[[[\"a\","
    ++ codes "\"instance\",21],[\"b\",\"instance\",21]],0]},{\"exports\":[[[\"a\",\"instance\",22],[\"b\",\"instance\","
    ++ codes "22]],0]},{\"exports\":[[[\"a\",\"instance\",23],[\"b\",\"instance\",23]],0]},{\"exports\":[[[\"a\","
    ++ codes "\"instance\",24],[\"b\",\"instance\",24]],0]},{\"exports\":[[[\"a\",\"instance\",25],[\"b\",\"instance\","
    ++ codes "25]],0]},{\"exports\":[[[\"a\",\"instance\",26],[\"b\",\"instance\",26]],0]},{\"exports\":[[[\"a\","
    ++ codes "\"instance\",27],[\"b\",\"instance\",27]],0]},{\"exports\":[[[\"a\",\"instance\",28],[\"b\",\"instance\","
    ++ codes "28]],0]},{\"exports\":[[[\"a\",\"instance\",29],[\"b\",\"instance\",29]],0]},{\"exports\":[[[\"a\","
    ++ codes "\"instance\",30],[\"b\",\"instance\",30]],0]},{\"exports\":[[[\"a\",\"instance\",31],[\"b\",\"instance\","
    ++ codes "31]],0]},{\"exports\":[[[\"a\",\"instance\",32],[\"b\",\"instance\",32]],0]},{\"exports\":[[[\"a\","
    ++ codes "\"instance\",33],[\"b\",\"instance\",33]],0]},{\"exports\":[[[\"a\",\"instance\",34],[\"b\",\"instance\","
    ++ codes "34]],0]},{\"exports\":[[[\"a\",\"instance\",35],[\"b\",\"instance\",35]],0]},{\"exports\":[[[\"a\","
    ++ codes "\"instance\",36],[\"b\",\"instance\",36]],0]},{\"exports\":[[[\"a\",\"instance\",37],[\"b\",\"instance\","
    ++ codes "37]],0]},{\"exports\":[[[\"a\",\"instance\",38],[\"b\",\"instance\",38]],0]},{\"exports\":[[[\"a\","
    ++ codes "\"instance\",39],[\"b\",\"instance\",39]],0]}]},\"end\"]}"

-- its outcome
abbrev pub nothing_done : Outcome Reading
nothing_done = finished [] [] 1

-- lists that don't nest: no payload, no end, a payload behind the end, a module in place of a component, a body without
-- its beginning, and an outer alias that counts past the root
abbrev pub no_payload_text : List ℕ
no_payload_text =
    codes "{\"limit\":100,\"intrinsics\":null,\"types\":{\"core\":[[[\"i32\"],[\"i32\"]]],"
    ++ codes "\"types\":[{\"func\":{\"params\":[[\"x\",\"u32\"]],\"result\":\"u32\",\"async\":false}},{\"module\":[[],"
    ++ codes "[]]},{\"instance\":[[\"f\",[\"func\",0]]]},{\"instance\":[]}]},\"payloads\":[]}"

-- another input
abbrev pub no_end_text : List ℕ
no_end_text =
    codes "{\"limit\":100,\"intrinsics\":null,\"types\":{\"core\":[],\"types\":[]},\"payloads\":[\"version\"]}"

-- another input
abbrev pub behind_the_end_text : List ℕ
behind_the_end_text =
    codes "{\"limit\":100,\"intrinsics\":null,\"types\":{\"core\":[],\"types\":[]},\"payloads\":[\"version\","
    ++ codes "\"end\",\"custom\"]}"

-- another input
abbrev pub a_module_text : List ℕ
a_module_text =
    codes "{\"limit\":100,\"intrinsics\":null,\"types\":{\"core\":[],\"types\":[]},\"payloads\":[\"version-module\","
    ++ codes "\"end\"]}"

-- another input
abbrev pub no_version_text : List ℕ
no_version_text =
    codes "{\"limit\":100,\"intrinsics\":null,\"types\":{\"core\":[],\"types\":[]},\"payloads\":[\"version\","
    ++ codes "\"component\",\"end\",\"end\"]}"

-- another input
abbrev pub past_the_root_text : List ℕ
past_the_root_text =
    codes "{\"limit\":100,\"intrinsics\":null,\"types\":{\"core\":[],\"types\":[]},\"payloads\":[\"version\","
    ++ codes "\"component\",\"version\",{\"aliases\":[{\"outer\":[\"component\",2,0]}]},\"end\",\"end\"]}"
