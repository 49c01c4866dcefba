-- Builtins: rows, and an input for each shape of one.
use Rattle.std.specs.Prelude.{ℕ, true, false, List, [], ◌∷◌, ◌++◌, codes}
use Rattle.pc_types.specs.declared.encoding.StringEncoding.TheVariants.{Utf16}
use Rattle.pc_types.specs.declared.parsed.PrimType.TheVariants as prim
use Rattle.pc_types.specs.declared.parsed.WasmValType.TheVariants as core
use Rattle.pc_types.specs.declared.trampoline.TrampolineKind.{TrampolineKind}
use Rattle.pc_types.specs.declared.trampoline.TrampolineKind.TheVariants as kind
use Rattle.pc_types.specs.TypeTree.{TypeTree, primitive, stream_of, future_of, tuple_of, resource_of, concrete}
use Rattle.pc_types.specs.TypeTree.{error_context, a_tree, no_tree, and_tree, no_trees}
use Rattle.pc_types.specs.TypeTree as tree
use Rattle.pc_spec_plan.specs.CoreValue.{CoreValue, Options, Part, options, no_value, a_value, linear, builtin}
use Rattle.pc_spec_plan.specs.CoreValue.{mark_part, flag_part, options_part, and_part}
use Rattle.pc_spec_plan.specs.Log.{Entry, declared, declared_resource}
use Rattle.pc_parsed.specs.Mark.{Mark, of_type, of_signature}
use Rattle.pc_spec_reading.specs.Builtins.{parts_of}
use Rattle.pc_spec_reading.specs.Outcome.{Outcome, invalid}
use Rattle.pc_spec_reading.specs.Reading.{Reading}
use Rattle.pc_spec_examples.specs.Means.{finished, stuck}
use Rattle.pc_spec_examples.specs.Words.{func_of_instance, memory_of_instance, silent, with_memory, ran, i32_to_i32, one_i32}

-- one `resource.drop` twice: each is declared, and they are equal
abbrev pub two_drops_text : List ℕ
two_drops_text =
    codes "{\"limit\":100,\"intrinsics\":null,\"types\":{\"core\":[[[\"i32\"],[]]],\"types\":[\"resource\","
    ++ codes "{\"module\":[[],[]]}]},\"payloads\":[\"version\",{\"types\":[{\"resource\":[0,\"i32\",null]}]},"
    ++ codes "{\"canon\":[[\"resource.drop\",0,0],[\"resource.drop\",0,0]]},{\"module\":{\"ty\":1,\"imports\":[[\"e\","
    ++ codes "\"a\",[\"func\",0]],[\"e\",\"b\",[\"func\",0]]],\"funcs\":[],\"tables\":0,\"memories\":[],\"globals\":0,"
    ++ codes "\"tags\":0,\"exports\":[]}},{\"instances\":[{\"exports\":[[\"a\",\"func\",0],[\"b\",\"func\",1]]},"
    ++ codes "{\"instantiate\":[0,[[\"e\",0]]]}]},\"end\"]}"

-- the first resource declared, as the root sees it
abbrev pub first_resource : TypeTree
first_resource = resource_of (concrete (tree.declared 0) 0)

-- a core value of it
abbrev pub drop : CoreValue Mark
drop =
    builtin kind.ResourceDrop 0 (parts_of (mark_part (of_signature one_i32) ∷ mark_part (of_type first_resource) ∷ []))

-- its outcome
abbrev pub two_drops : Outcome Reading
two_drops =
    finished
    (declared_resource core.I32 no_value 0 ∷ declared drop ∷ declared drop ∷ ran 0 (drop ∷ drop ∷ []) 0 ∷ [])
    [] 1

-- a context slot above 1
abbrev pub slot_two_text : List ℕ
slot_two_text =
    codes "{\"limit\":100,\"intrinsics\":null,\"types\":{\"core\":[[[\"i32\"],[]]],\"types\":[\"resource\","
    ++ codes "{\"module\":[[],[]]}]},\"payloads\":[\"version\",{\"types\":[{\"resource\":[0,\"i32\",null]}]},"
    ++ codes "{\"canon\":[[\"context.get\",0,\"i32\",2],[\"resource.drop\",0,0]]},{\"module\":{\"ty\":1,"
    ++ codes "\"imports\":[[\"e\",\"a\",[\"func\",0]],[\"e\",\"b\",[\"func\",0]]],\"funcs\":[],\"tables\":0,"
    ++ codes "\"memories\":[],\"globals\":0,\"tags\":0,\"exports\":[]}},{\"instances\":[{\"exports\":[[\"a\",\"func\","
    ++ codes "0],[\"b\",\"func\",1]]},{\"instantiate\":[0,[[\"e\",0]]]}]},\"end\"]}"

-- its outcome
abbrev pub slot_two : Outcome Reading
slot_two = stuck invalid 0 1

-- a builtin of the root under the signature of all of them here, with these further parts
abbrev pub of_root : TrampolineKind → List (Part Mark) → Entry Mark
of_root k parts = declared (builtin k 0 (and_part (mark_part (of_signature i32_to_i32)) (parts_of parts)))

-- over a resource, over nothing, over streams, one of them by another entry, and over a future
abbrev pub typed_builtins_text : List ℕ
typed_builtins_text =
    codes "{\"limit\":100,\"intrinsics\":null,\"types\":{\"core\":[[[\"i32\"],[\"i32\"]]],"
    ++ codes "\"types\":[{\"module\":[[],[]]},{\"stream\":\"u8\"},{\"future\":null},{\"val\":1},\"resource\"]},"
    ++ codes "\"payloads\":[\"version\",{\"types\":[{\"resource\":[4,\"i32\",null]}]},{\"module\":{\"ty\":0,"
    ++ codes "\"imports\":[],\"funcs\":[0],\"tables\":1,\"memories\":[false],\"globals\":0,\"tags\":0,"
    ++ codes "\"exports\":[[\"mem\",\"memory\",0],[\"f\",\"func\",0],[\"tab\",\"table\",0]]}},"
    ++ codes "{\"instances\":[{\"instantiate\":[0,[]]}]},{\"aliases\":[{\"core-export\":[\"memory\",0,\"mem\"]},"
    ++ codes "{\"core-export\":[\"func\",0,\"f\"]},{\"core-export\":[\"table\",0,\"tab\"]}]},"
    ++ codes "{\"canon\":[[\"resource.new\",0,4],[\"backpressure.inc\",0],[\"stream.new\",0,3],[\"stream.read\",0,1,"
    ++ codes "[[\"memory\",0],[\"realloc\",0]]],[\"future.cancel-write\",0,2,true]]},\"end\"]}"

-- its outcome
abbrev pub typed_builtins : Outcome Reading
typed_builtins =
    finished
    (declared_resource core.I32 no_value 0 ∷ ran 0 [] 0
    ∷ of_root kind.ResourceNew (mark_part (of_type first_resource) ∷ [])
    ∷ of_root kind.BackpressureInc []
    ∷ of_root kind.StreamNew (mark_part (of_type (stream_of (a_tree (primitive prim.U8)) 0)) ∷ [])
    ∷ of_root kind.StreamRead
    (mark_part (of_type (stream_of (a_tree (primitive prim.U8)) 0))
    ∷ options_part (with_memory 0 i32_to_i32 (memory_of_instance 0 0) (a_value (func_of_instance 0 0))) ∷ [])
    ∷ of_root kind.FutureCancelWrite (mark_part (of_type (future_of no_tree 0)) ∷ flag_part true ∷ []) ∷ [])
    [] 1

-- results, waiting and cancelling
abbrev pub task_builtins_text : List ℕ
task_builtins_text =
    codes "{\"limit\":100,\"intrinsics\":null,\"types\":{\"core\":[[[\"i32\"],[\"i32\"]]],"
    ++ codes "\"types\":[{\"module\":[[],[]]},{\"stream\":\"u8\"},{\"future\":null},{\"val\":1},\"resource\"]},"
    ++ codes "\"payloads\":[\"version\",{\"module\":{\"ty\":0,\"imports\":[],\"funcs\":[0],\"tables\":1,"
    ++ codes "\"memories\":[false],\"globals\":0,\"tags\":0,\"exports\":[[\"mem\",\"memory\",0],[\"f\",\"func\",0],"
    ++ codes "[\"tab\",\"table\",0]]}},{\"instances\":[{\"instantiate\":[0,[]]}]},"
    ++ codes "{\"aliases\":[{\"core-export\":[\"memory\",0,\"mem\"]},{\"core-export\":[\"func\",0,\"f\"]},"
    ++ codes "{\"core-export\":[\"table\",0,\"tab\"]}]},{\"canon\":[[\"task.return\",0,\"u32\",[]],[\"task.return\",0,"
    ++ codes "null,[\"utf16\"]],[\"waitable-set.wait\",0,0],[\"subtask.cancel\",0,true]]},\"end\"]}"

-- the options of silence, but in UTF-16
abbrev pub in_utf16 : Options Mark
in_utf16 = options 0 Utf16 false (of_signature i32_to_i32) no_value no_value (linear no_value no_value)

-- its outcome
abbrev pub task_builtins : Outcome Reading
task_builtins =
    finished
    (ran 0 [] 0
    ∷ of_root kind.TaskReturn
    (mark_part (of_type (tuple_of (and_tree (primitive prim.U32) no_trees)))
    ∷ options_part (silent 0 i32_to_i32) ∷ [])
    ∷ of_root kind.TaskReturn (mark_part (of_type (tuple_of no_trees)) ∷ options_part in_utf16 ∷ [])
    ∷ of_root kind.WaitableSetWait (options_part (with_memory 0 i32_to_i32 (memory_of_instance 0 0) no_value) ∷ [])
    ∷ of_root kind.SubtaskCancel (flag_part true ∷ []) ∷ [])
    [] 1
