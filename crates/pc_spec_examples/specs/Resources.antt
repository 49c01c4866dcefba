-- How resources become known, and to whom.
use Rattle.std.specs.Prelude.{ℕ, List, [], ◌∷◌, ◌++◌, codes}
use Rattle.pc_types.specs.declared.parsed.WasmValType.TheVariants as core
use Rattle.pc_types.specs.declared.trampoline.TrampolineKind.TheVariants as kind
use Rattle.pc_types.specs.TypeTree.{Identity, resource_of, concrete, imported}
use Rattle.pc_types.specs.TypeTree as tree
use Rattle.pc_spec_plan.specs.CoreValue.{CoreValue, no_value, builtin, mark_part}
use Rattle.pc_spec_plan.specs.Log.{needed, declared, declared_resource}
use Rattle.pc_parsed.specs.Mark.{Mark, of_type, of_signature}
use Rattle.pc_spec_reading.specs.Builtins.{parts_of}
use Rattle.pc_spec_reading.specs.Outcome.{Outcome, bad_type}
use Rattle.pc_spec_reading.specs.Reading.{Reading}
use Rattle.pc_spec_examples.specs.Means.{finished, given, stuck}
use Rattle.pc_spec_examples.specs.Host.{r_path, host_instance_type}
use Rattle.pc_spec_examples.specs.Words.{import_named, path, one_i32}

-- `resource.drop` in a component instance
abbrev pub dropping : Identity → (component_instance : ℕ) → CoreValue Mark
dropping i c =
    builtin kind.ResourceDrop c
    (parts_of (mark_part (of_signature one_i32) ∷ mark_part (of_type (resource_of (concrete i c))) ∷ []))

-- a resource of the host that is given to a component, which has a number of its own for it
abbrev pub given_resource_text : List ℕ
given_resource_text =
    codes "{\"limit\":100,\"intrinsics\":null,\"types\":{\"core\":[[[\"i32\"],[]]],\"types\":[\"resource\","
    ++ codes "{\"instance\":[[\"r\",[\"type\",0]]]},\"resource\",{\"instance\":[[\"r\",[\"type\",2]]]},"
    ++ codes "{\"instance\":[]}]},\"payloads\":[\"version\",{\"imports\":[[\"i\",[\"instance\",1]]]},\"component\","
    ++ codes "\"version\",{\"imports\":[[\"j\",[\"instance\",3]]]},{\"canon\":[[\"resource.drop\",0,2]]},\"end\","
    ++ codes "{\"component-instances\":[{\"instantiate\":[0,[[\"j\",\"instance\",0]],4]}]},\"end\"]}"

-- its outcome
abbrev pub given_resource : Outcome Reading
given_resource =
    given (import_named (codes "i") host_instance_type ∷ []) (r_path ∷ [])
    (finished (needed r_path ∷ declared (dropping (imported r_path) 1) ∷ []) [] 2)

-- a resource that a component exports: the caller drops it for itself
abbrev pub exported_resource_text : List ℕ
exported_resource_text =
    codes "{\"limit\":100,\"intrinsics\":null,\"types\":{\"core\":[[[\"i32\"],[]]],\"types\":[\"resource\","
    ++ codes "\"resource\",{\"instance\":[[\"r\",[\"type\",1]]]}]},\"payloads\":[\"version\",\"component\",\"version\","
    ++ codes "{\"types\":[{\"resource\":[0,\"i32\",null]}]},{\"canon\":[[\"resource.drop\",0,0]]},{\"exports\":[[\"r\","
    ++ codes "\"type\",0]]},\"end\",{\"component-instances\":[{\"instantiate\":[0,[],2]}]},"
    ++ codes "{\"canon\":[[\"resource.drop\",0,1]]},\"end\"]}"

-- its outcome
abbrev pub exported_resource : Outcome Reading
exported_resource =
    finished
    (declared_resource core.I32 no_value 1 ∷ declared (dropping (tree.declared 0) 1)
    ∷ declared (dropping (tree.declared 0) 0) ∷ [])
    [] 2

-- the same made twice: the first registration of the number stands
abbrev pub made_twice_text : List ℕ
made_twice_text =
    codes "{\"limit\":100,\"intrinsics\":null,\"types\":{\"core\":[[[\"i32\"],[]]],\"types\":[\"resource\","
    ++ codes "\"resource\",{\"instance\":[[\"r\",[\"type\",1]]]}]},\"payloads\":[\"version\",\"component\",\"version\","
    ++ codes "{\"types\":[{\"resource\":[0,\"i32\",null]}]},{\"exports\":[[\"r\",\"type\",0]]},\"end\","
    ++ codes "{\"component-instances\":[{\"instantiate\":[0,[],2]}]},{\"component-instances\":[{\"instantiate\":[0,[],"
    ++ codes "2]}]},{\"canon\":[[\"resource.drop\",0,1]]},\"end\"]}"

-- its outcome
abbrev pub made_twice : Outcome Reading
made_twice =
    finished
    (declared_resource core.I32 no_value 1 ∷ declared_resource core.I32 no_value 2
    ∷ declared (dropping (tree.declared 0) 0) ∷ [])
    [] 3

-- a resource that is declared again: its number stands for the new one
abbrev pub declared_again_text : List ℕ
declared_again_text =
    codes "{\"limit\":100,\"intrinsics\":null,\"types\":{\"core\":[[[\"i32\"],[]]],\"types\":[\"resource\"]},"
    ++ codes "\"payloads\":[\"version\",{\"types\":[{\"resource\":[0,\"i32\",null]},{\"resource\":[0,\"i64\",null]}]},"
    ++ codes "{\"canon\":[[\"resource.drop\",0,0]]},\"end\"]}"

-- its outcome
abbrev pub declared_again : Outcome Reading
declared_again =
    finished
    (declared_resource core.I32 no_value 0 ∷ declared_resource core.I64 no_value 0
    ∷ declared (dropping (tree.declared 1) 0) ∷ [])
    [] 1

-- what a component registers isn't known to its caller
abbrev pub forgotten_text : List ℕ
forgotten_text =
    codes "{\"limit\":100,\"intrinsics\":null,\"types\":{\"core\":[[[\"i32\"],[]]],\"types\":[\"resource\","
    ++ codes "{\"instance\":[]}]},\"payloads\":[\"version\",\"component\",\"version\",{\"types\":[{\"resource\":[0,"
    ++ codes "\"i32\",null]}]},\"end\",{\"component-instances\":[{\"instantiate\":[0,[],1]}]},"
    ++ codes "{\"canon\":[[\"resource.drop\",0,0]]},\"end\"]}"

-- its outcome
abbrev pub forgotten : Outcome Reading
forgotten = stuck bad_type 0 2

-- a component that doesn't export the resource of its type: the instantiation is stuck, after the component was read
abbrev pub not_exported_text : List ℕ
not_exported_text =
    codes "{\"limit\":100,\"intrinsics\":null,\"types\":{\"core\":[[[\"i32\"],[]]],\"types\":[\"resource\","
    ++ codes "{\"instance\":[[\"r\",[\"type\",0]]]}]},\"payloads\":[\"version\",\"component\",\"version\",\"end\","
    ++ codes "{\"component-instances\":[{\"instantiate\":[0,[],1]}]},\"end\"]}"

-- its outcome
abbrev pub not_exported : Outcome Reading
not_exported = stuck bad_type 0 1
