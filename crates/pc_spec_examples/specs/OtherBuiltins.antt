-- Further builtins, and what they are stuck at.
use Rattle.std.specs.Prelude.{ℕ, List, [], ◌∷◌, ◌++◌, codes}
use Rattle.pc_types.specs.declared.trampoline.TrampolineKind.TheVariants as kind
use Rattle.pc_types.specs.TypeTree.{error_context}
use Rattle.pc_spec_plan.specs.CoreValue.{CoreValue, no_value, a_value, builtin, intrinsic, mark_part, number_part}
use Rattle.pc_spec_plan.specs.CoreValue.{value_part, options_part}
use Rattle.pc_spec_plan.specs.Log.{declared}
use Rattle.pc_parsed.specs.Mark.{Mark, of_type, of_signature}
use Rattle.pc_spec_reading.specs.Builtins.{parts_of}
use Rattle.pc_spec_reading.specs.Outcome.{Outcome, invalid, bad_type}
use Rattle.pc_spec_reading.specs.Reading.{Reading}
use Rattle.pc_spec_examples.specs.Means.{added, finished, stuck}
use Rattle.pc_spec_examples.specs.Words.{intrinsic_under, memory_of_instance, table_of_instance, with_memory, ran}
use Rattle.pc_spec_examples.specs.Words.{i32_to_i32, one_i32}
use Rattle.pc_spec_examples.specs.Builtins.{of_root}

-- error contexts, a context slot and a new thread; the last two are given to a module
abbrev pub other_builtins_text : List ℕ
other_builtins_text =
    codes "{\"limit\":100,\"intrinsics\":null,\"types\":{\"core\":[[[\"i32\"],[\"i32\"]]],"
    ++ codes "\"types\":[{\"module\":[[],[]]},{\"stream\":\"u8\"},{\"future\":null},{\"val\":1},\"resource\"]},"
    ++ codes "\"payloads\":[\"version\",{\"module\":{\"ty\":0,\"imports\":[],\"funcs\":[0],\"tables\":1,"
    ++ codes "\"memories\":[false],\"globals\":0,\"tags\":0,\"exports\":[[\"mem\",\"memory\",0],[\"f\",\"func\",0],"
    ++ codes "[\"tab\",\"table\",0]]}},{\"instances\":[{\"instantiate\":[0,[]]}]},"
    ++ codes "{\"aliases\":[{\"core-export\":[\"memory\",0,\"mem\"]},{\"core-export\":[\"func\",0,\"f\"]},"
    ++ codes "{\"core-export\":[\"table\",0,\"tab\"]}]},{\"canon\":[[\"error-context.new\",0,[[\"memory\",0]]],"
    ++ codes "[\"error-context.drop\",0],[\"context.set\",0,\"i32\",1],[\"thread.new-indirect\",0,99,0]]},"
    ++ codes "{\"module\":{\"ty\":0,\"imports\":[[\"e\",\"c\",[\"func\",0]],[\"e\",\"t\",[\"func\",0]]],\"funcs\":[],"
    ++ codes "\"tables\":0,\"memories\":[],\"globals\":0,\"tags\":0,\"exports\":[]}},"
    ++ codes "{\"instances\":[{\"exports\":[[\"c\",\"func\",3],[\"t\",\"func\",4]]},{\"instantiate\":[1,[[\"e\","
    ++ codes "1]]]}]},\"end\"]}"

-- the thread's start type is a number that names nothing, and its table is that of the first core instance
abbrev pub new_thread : CoreValue Mark
new_thread =
    builtin kind.ThreadNewIndirect 0
    (parts_of (mark_part (of_signature i32_to_i32) ∷ number_part 99 ∷ value_part (a_value (table_of_instance 0 0))
    ∷ []))

-- a slot of the context is an intrinsic, and nothing is declared for it
abbrev pub other_builtins : Outcome Reading
other_builtins =
    added (intrinsic_under i32_to_i32 20 ∷ [])
    (finished
    (ran 0 [] 0
    ∷ of_root kind.ErrorContextNew
    (mark_part (of_type (error_context 0))
    ∷ options_part (with_memory 0 i32_to_i32 (memory_of_instance 0 0) no_value) ∷ [])
    ∷ of_root kind.ErrorContextDrop (mark_part (of_type (error_context 0)) ∷ [])
    ∷ declared new_thread ∷ ran 1 (intrinsic 20 ∷ new_thread ∷ []) 0 ∷ [])
    [] 1)

-- a slot is read under two signatures, and then written: the first signature stands
abbrev pub slot_twice_text : List ℕ
slot_twice_text =
    codes "{\"limit\":100,\"intrinsics\":null,\"types\":{\"core\":[[[\"i32\"],[\"i32\"]],[[\"i32\"],[]]],\"types\":[]},"
    ++ codes "\"payloads\":[\"version\",{\"canon\":[[\"context.get\",1,\"i32\",0],[\"context.get\",0,\"i32\",0],"
    ++ codes "[\"context.set\",0,\"i32\",0]]},\"end\"]}"

-- its outcome
abbrev pub slot_twice : Outcome Reading
slot_twice = added (intrinsic_under one_i32 17 ∷ intrinsic_under i32_to_i32 18 ∷ []) (finished [] [] 1)

-- a resource that isn't known
abbrev pub unknown_resource_text : List ℕ
unknown_resource_text =
    codes "{\"limit\":100,\"intrinsics\":null,\"types\":{\"core\":[[[\"i32\"],[\"i32\"]]],\"types\":[\"resource\"]},"
    ++ codes "\"payloads\":[\"version\",{\"canon\":[[\"resource.drop\",0,0]]},\"end\"]}"

-- its outcome
abbrev pub unknown_resource : Outcome Reading
unknown_resource = stuck bad_type 0 0

-- a future where a stream is wanted, in the third of three builtins
abbrev pub no_stream_text : List ℕ
no_stream_text =
    codes "{\"limit\":100,\"intrinsics\":null,\"types\":{\"core\":[[[\"i32\"],[\"i32\"]]],"
    ++ codes "\"types\":[{\"future\":null}]},\"payloads\":[\"version\",{\"canon\":[[\"task.cancel\",0],[\"future.new\","
    ++ codes "0,0],[\"stream.drop-readable\",0,0]]},\"end\"]}"

-- its outcome
abbrev pub no_stream : Outcome Reading
no_stream = stuck bad_type 0 2

-- a signature that is missing, with a memory that is: the signature is looked at first
abbrev pub no_signature_text : List ℕ
no_signature_text =
    codes "{\"limit\":100,\"intrinsics\":null,\"types\":{\"core\":[[[\"i32\"],[\"i32\"]]],\"types\":[]},"
    ++ codes "\"payloads\":[\"version\",{\"canon\":[[\"waitable-set.poll\",1,0]]},\"end\"]}"

-- a memory that is missing
abbrev pub no_memory_text : List ℕ
no_memory_text =
    codes "{\"limit\":100,\"intrinsics\":null,\"types\":{\"core\":[[[\"i32\"],[\"i32\"]]],\"types\":[]},"
    ++ codes "\"payloads\":[\"version\",{\"canon\":[[\"waitable-set.poll\",0,0]]},\"end\"]}"

-- a table that is missing
abbrev pub no_table_text : List ℕ
no_table_text =
    codes "{\"limit\":100,\"intrinsics\":null,\"types\":{\"core\":[[[\"i32\"],[\"i32\"]]],\"types\":[]},"
    ++ codes "\"payloads\":[\"version\",{\"canon\":[[\"thread.new-indirect\",0,0,0]]},\"end\"]}"

-- a result that is a function type
abbrev pub no_result_text : List ℕ
no_result_text =
    codes "{\"limit\":100,\"intrinsics\":null,\"types\":{\"core\":[[[\"i32\"],[\"i32\"]]],"
    ++ codes "\"types\":[{\"func\":{\"params\":[],\"result\":null,\"async\":false}}]},\"payloads\":[\"version\","
    ++ codes "{\"canon\":[[\"task.return\",0,0,[]]]},\"end\"]}"

-- each of these is stuck at its first item
abbrev pub stuck_type : Outcome Reading
stuck_type = stuck bad_type 0 0

-- its outcome
abbrev pub stuck_index : Outcome Reading
stuck_index = stuck invalid 0 0
