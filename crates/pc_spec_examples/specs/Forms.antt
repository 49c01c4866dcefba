-- Texts, each with the value that it is read as: one example of every word and shape of form 1.
use Rattle.std.specs.Prelude.{◌≡◌, ℕ, List, [], ◌∷◌, ◌++◌, true, false, Option, Some, None, map, codes}
use Rattle.serde_json.specs.Data.{Data}
use Rattle.serde_json.specs.Read.{read}
use Rattle.pc_numbers.specs.declared.entity_index.EntityIndex.TheVariants as index
use Rattle.pc_types.specs.declared.parsed.WasmValType.TheVariants as core
use Rattle.pc_types.specs.declared.parsed.PrimType.TheVariants as prim
use Rattle.pc_types.specs.declared.parsed.ValType.TheVariants as val
use Rattle.pc_types.specs.declared.parsed.CoreEntity.TheVariants as core_entity
use Rattle.pc_types.specs.declared.parsed.CoreKind.TheVariants as core_kind
use Rattle.pc_types.specs.declared.parsed.Entity.TheVariants as entity
use Rattle.pc_types.specs.declared.parsed.DeclType.{DeclType}
use Rattle.pc_types.specs.declared.parsed.DeclType.TheVariants as entry
use Rattle.pc_types.specs.declared.parsed.CoreFuncSig.{CoreFuncSig}
use Rattle.pc_parsed.specs.declared.canon.CanonItem.{CanonItem}
use Rattle.pc_parsed.specs.declared.canon.CanonItem.TheVariants as canon
use Rattle.pc_parsed.specs.declared.canon.CanonOption.TheVariants as option
use Rattle.pc_parsed.specs.declared.payload.Encoding.TheVariants as encoding
use Rattle.pc_parsed.specs.declared.payload.ExternName.{ExternName}
use Rattle.pc_parsed.specs.declared.payload.ItemKind.TheVariants as kind
use Rattle.pc_parsed.specs.declared.payload.OuterKind.TheVariants as outer
use Rattle.pc_parsed.specs.declared.payload.TypeItem.TheVariants as type_
use Rattle.pc_parsed.specs.declared.payload.InstanceItem.TheVariants as instance
use Rattle.pc_parsed.specs.declared.payload.ComponentInstanceItem.TheVariants as component_instance
use Rattle.pc_parsed.specs.declared.payload.AliasItem.TheVariants as alias
use Rattle.pc_parsed.specs.declared.payload.Payload.{Payload}
use Rattle.pc_parsed.specs.declared.payload.Payload.TheVariants as payload
use Rattle.pc_input.specs.declared.input.Input.{Input}
use Rattle.pc_input_values.specs.Tree.{◌>>=◌}
use Rattle.pc_input_values.specs.Names.{bare_name}
use Rattle.pc_input_values.specs.Types.{signature}

-- each text is read by f as the value beside it
abbrev pub AreRead : {A : Type 0} → (Data → Option A) → List (List ℕ × A) → Type 0
AreRead f examples = map (λ e. read e.0 >>= f) examples ≡ map (λ e. Some e.1) examples

-- core signatures, with each core value type
abbrev pub sig_examples : List (List ℕ × CoreFuncSig)
sig_examples = (
  codes "[[\"i32\",\"i64\",\"f32\",\"f64\"],[\"v128\",\"funcref\",\"externref\"]]",
  signature (core.I32 ∷ core.I64 ∷ core.F32 ∷ core.F64 ∷ []) (core.V128 ∷ core.FuncRef ∷ core.ExternRef ∷ []),
)
    ∷ []

-- entries of the type table, with each value type, entity and core entity
abbrev pub entry_examples : List (List ℕ × DeclType)
entry_examples =
    (codes "\"resource\"", entry.Resource)
    ∷ (
      codes "{\"func\":{\"params\":[[\"a\",\"u32\"],[\"b\",4]],\"result\":null,\"async\":true}}",
      entry.Func ((codes "a", val.Prim prim.U32) ∷ (codes "b", val.Type_ 4) ∷ []) None true,
    )
    ∷ (
      codes "{\"func\":{\"params\":[],\"result\":\"u32\",\"async\":false}}",
      entry.Func [] (Some (val.Prim prim.U32)) false,
    )
    ∷ (codes "{\"val\":4294967295}", entry.Val (val.Type_ 4294967295))
    ∷ (codes "{\"list\":\"u32\"}", entry.List (val.Prim prim.U32))
    ∷ (codes "{\"option\":\"u32\"}", entry.Option (val.Prim prim.U32))
    ∷ (codes "{\"record\":[[\"a\",\"u32\"]]}", entry.Record ((codes "a", val.Prim prim.U32) ∷ []))
    ∷ (
      codes "{\"variant\":[[\"a\",\"u32\"],[\"b\",null]]}",
      entry.Variant ((codes "a", Some (val.Prim prim.U32)) ∷ (codes "b", None) ∷ []),
    )
    ∷ (
      codes "{\"tuple\":[\"bool\",\"s8\",\"u8\",\"s16\",\"u16\",\"s32\",\"u32\",\"s64\",\"u64\",\"f32\",\"f64\","
          ++ codes "\"char\",\"string\",\"error-context\"]}",
      entry.Tuple (val.Prim prim.Bool ∷ val.Prim prim.S8 ∷ val.Prim prim.U8 ∷ val.Prim prim.S16
          ∷ val.Prim prim.U16 ∷ val.Prim prim.S32 ∷ val.Prim prim.U32 ∷ val.Prim prim.S64
          ∷ val.Prim prim.U64 ∷ val.Prim prim.F32 ∷ val.Prim prim.F64 ∷ val.Prim prim.Char
          ∷ val.Prim prim.String ∷ val.Prim prim.ErrorContext ∷ []),
    )
    ∷ (codes "{\"flags\":[\"a\",\"b\"]}", entry.Flags (codes "a" ∷ codes "b" ∷ []))
    ∷ (codes "{\"enum\":[\"a\",\"b\"]}", entry.Enum (codes "a" ∷ codes "b" ∷ []))
    ∷ (codes "{\"result\":[\"u32\",null]}", entry.Result (Some (val.Prim prim.U32)) None)
    ∷ (codes "{\"own\":5}", entry.Own 5)
    ∷ (codes "{\"borrow\":5}", entry.Borrow 5)
    ∷ (codes "{\"stream\":\"u32\"}", entry.Stream (Some (val.Prim prim.U32)))
    ∷ (codes "{\"future\":null}", entry.Future None)
    ∷ (
      codes "{\"instance\":[[\"a\",[\"func\",1]],[\"b\",[\"instance\",2]],[\"c\",[\"component\",3]],[\"d\","
          ++ codes "[\"module\",4]],[\"e\",[\"type\",5]],[\"f\",[\"value\"]]]}",
      entry.Instance ((codes "a", entity.Func 1) ∷ (codes "b", entity.Instance 2)
          ∷ (codes "c", entity.Component 3) ∷ (codes "d", entity.Module 4) ∷ (codes "e", entity.Type_ 5)
          ∷ (codes "f", entity.Value) ∷ []),
    )
    ∷ (
      codes "{\"component\":[[[\"a\",[\"func\",1]]],[[\"b\",[\"type\",2]]]]}",
      entry.Component ((codes "a", entity.Func 1) ∷ []) ((codes "b", entity.Type_ 2) ∷ []),
    )
    ∷ (
      codes "{\"module\":[[[\"m\",\"a\",[\"func\",1]],[\"m\",\"b\",[\"memory\",true]]],[[\"c\",[\"table\"]],"
          ++ codes "[\"d\",[\"memory\",false]],[\"e\",[\"global\"]],[\"f\",[\"tag\"]]]]}",
      entry.Module ((codes "m", codes "a", core_entity.Func 1)
          ∷ (codes "m", codes "b", core_entity.Memory true) ∷ []) ((codes "c", core_entity.Table)
          ∷ (codes "d", core_entity.Memory false) ∷ (codes "e", core_entity.Global)
          ∷ (codes "f", core_entity.Tag) ∷ []),
    )
    ∷ []

-- the shapes of a name
abbrev pub name_examples : List (List ℕ × ExternName)
name_examples =
    (codes "\"a\"", record { name = codes "a"; implements = None; external_id = None })
    ∷ (codes "[\"a\",null,null]", record { name = codes "a"; implements = None; external_id = None })
    ∷ (codes "[\"a\",\"b\",null]", record { name = codes "a"; implements = Some (codes "b"); external_id = None })
    ∷ (codes "[\"a\",null,\"c\"]", record { name = codes "a"; implements = None; external_id = Some (codes "c") })
    ∷ []

-- canonical functions, with one example of each
abbrev pub canon_examples : List (List ℕ × CanonItem)
canon_examples = (
  codes "[\"lift\",1,2,3,[\"utf8\",\"utf16\",\"compact-utf16\",\"async\",\"gc\"]]",
  canon.Lift 1 2 3 (option.Utf8 ∷ option.Utf16 ∷ option.CompactUtf16 ∷ option.Async ∷ option.Gc ∷ []),
)
    ∷ (
      codes "[\"lower\",1,2,3,[[\"memory\",4],[\"realloc\",5],[\"post-return\",6],[\"callback\",7],[\"core-type\",8]]]",
      canon.Lower 1 2 3 (option.Memory 4 ∷ option.Realloc 5 ∷ option.PostReturn 6 ∷ option.Callback 7
          ∷ option.CoreType 8 ∷ []),
    )
    ∷ (codes "[\"resource.new\",1,2]", canon.ResourceNew 1 2)
    ∷ (codes "[\"resource.rep\",1,2]", canon.ResourceRep 1 2)
    ∷ (codes "[\"resource.drop\",1,2]", canon.ResourceDrop 1 2)
    ∷ (codes "[\"backpressure.inc\",1]", canon.BackpressureInc 1)
    ∷ (codes "[\"backpressure.dec\",1]", canon.BackpressureDec 1)
    ∷ (codes "[\"task.cancel\",1]", canon.TaskCancel 1)
    ∷ (codes "[\"waitable-set.new\",1]", canon.WaitableSetNew 1)
    ∷ (codes "[\"waitable-set.drop\",1]", canon.WaitableSetDrop 1)
    ∷ (codes "[\"waitable.join\",1]", canon.WaitableJoin 1)
    ∷ (codes "[\"subtask.drop\",1]", canon.SubtaskDrop 1)
    ∷ (codes "[\"error-context.drop\",1]", canon.ErrorContextDrop 1)
    ∷ (codes "[\"thread.index\",1]", canon.ThreadIndex 1)
    ∷ (codes "[\"thread.resume-later\",1]", canon.ThreadResumeLater 1)
    ∷ (codes "[\"thread.suspend\",1]", canon.ThreadSuspend 1)
    ∷ (codes "[\"thread.yield\",1]", canon.ThreadYield 1)
    ∷ (codes "[\"thread.suspend-then-resume\",1]", canon.ThreadSuspendThenResume 1)
    ∷ (codes "[\"thread.yield-then-resume\",1]", canon.ThreadYieldThenResume 1)
    ∷ (codes "[\"thread.suspend-then-promote\",1]", canon.ThreadSuspendThenPromote 1)
    ∷ (codes "[\"thread.yield-then-promote\",1]", canon.ThreadYieldThenPromote 1)
    ∷ (codes "[\"task.return\",1,\"u32\",[]]", canon.TaskReturn 1 (Some (val.Prim prim.U32)) [])
    ∷ (codes "[\"waitable-set.wait\",1,2]", canon.WaitableSetWait 1 2)
    ∷ (codes "[\"waitable-set.poll\",1,2]", canon.WaitableSetPoll 1 2)
    ∷ (codes "[\"subtask.cancel\",1,true]", canon.SubtaskCancel 1 true)
    ∷ (codes "[\"stream.new\",1,2]", canon.StreamNew 1 2)
    ∷ (codes "[\"stream.drop-readable\",1,2]", canon.StreamDropReadable 1 2)
    ∷ (codes "[\"stream.drop-writable\",1,2]", canon.StreamDropWritable 1 2)
    ∷ (codes "[\"future.new\",1,2]", canon.FutureNew 1 2)
    ∷ (codes "[\"future.drop-readable\",1,2]", canon.FutureDropReadable 1 2)
    ∷ (codes "[\"future.drop-writable\",1,2]", canon.FutureDropWritable 1 2)
    ∷ (codes "[\"stream.read\",1,2,[]]", canon.StreamRead 1 2 [])
    ∷ (codes "[\"stream.write\",1,2,[]]", canon.StreamWrite 1 2 [])
    ∷ (codes "[\"future.read\",1,2,[]]", canon.FutureRead 1 2 [])
    ∷ (codes "[\"future.write\",1,2,[]]", canon.FutureWrite 1 2 [])
    ∷ (codes "[\"stream.cancel-read\",1,2,true]", canon.StreamCancelRead 1 2 true)
    ∷ (codes "[\"stream.cancel-write\",1,2,true]", canon.StreamCancelWrite 1 2 true)
    ∷ (codes "[\"future.cancel-read\",1,2,true]", canon.FutureCancelRead 1 2 true)
    ∷ (codes "[\"future.cancel-write\",1,2,true]", canon.FutureCancelWrite 1 2 true)
    ∷ (codes "[\"error-context.new\",1,[]]", canon.ErrorContextNew 1 [])
    ∷ (codes "[\"error-context.debug-message\",1,[]]", canon.ErrorContextDebugMessage 1 [])
    ∷ (codes "[\"context.get\",1,\"i32\",2]", canon.ContextGet 1 core.I32 2)
    ∷ (codes "[\"context.set\",1,\"i32\",2]", canon.ContextSet 1 core.I32 2)
    ∷ (codes "[\"thread.new-indirect\",1,2,3]", canon.ThreadNewIndirect 1 2 3)
    ∷ (codes "[\"thread.spawn-ref\"]", canon.ThreadSpawnRef)
    ∷ (codes "[\"thread.spawn-indirect\"]", canon.ThreadSpawnIndirect)
    ∷ (codes "[\"thread.available-parallelism\"]", canon.ThreadAvailableParallelism)
    ∷ (codes "[\"stream.forward\"]", canon.StreamForward)
    ∷ (codes "[\"future.forward\"]", canon.FutureForward)
    ∷ []

-- payloads, with each kind of item
abbrev pub payload_examples : List (List ℕ × Payload)
payload_examples =
    (codes "\"version\"", payload.Version encoding.Component)
    ∷ (codes "\"version-module\"", payload.Version encoding.Module)
    ∷ (codes "\"core-types\"", payload.CoreTypeSection)
    ∷ (codes "\"custom\"", payload.CustomSection)
    ∷ (codes "\"start\"", payload.ComponentStartSection)
    ∷ (codes "\"component\"", payload.ComponentSection)
    ∷ (codes "\"end\"", payload.End)
    ∷ (
      codes "{\"types\":[\"other\",{\"resource\":[3,\"i32\",null]},{\"resource\":[4,\"i64\",7]}]}",
      payload.ComponentTypeSection (type_.Other
          ∷ type_.Resource 3 core.I32 None
          ∷ type_.Resource 4 core.I64 (Some 7) ∷ []),
    )
    ∷ (
      codes "{\"imports\":[[\"now\",[\"func\",0]],[[\"store\",\"kv\",\"id1\"],[\"instance\",5]]]}",
      payload.ComponentImportSection (record { name = bare_name (codes "now"); ty = entity.Func 0 }
          ∷ record {
            name = record { name = codes "store"; implements = Some (codes "kv"); external_id = Some (codes "id1") };
            ty = entity.Instance 5;
          } ∷ []),
    )
    ∷ (
      codes "{\"canon\":[[\"lift\",0,1,2,[\"utf8\",[\"memory\",3]]],[\"resource.drop\",2,4]]}",
      payload.ComponentCanonicalSection (canon.Lift 0 1 2 (option.Utf8 ∷ option.Memory 3 ∷ [])
          ∷ canon.ResourceDrop 2 4 ∷ []),
    )
    ∷ (
      codes "{\"module\":{\"ty\":6,\"imports\":[[\"env\",\"log\",[\"func\",0]]],\"funcs\":[1,2],\"tables\":1,"
          ++ codes "\"memories\":[true,false],\"globals\":3,\"tags\":4,\"exports\":[[\"run\",\"func\",1],[\"tab\","
          ++ codes "\"table\",0],[\"mem\",\"memory\",1],[\"top\",\"global\",2],[\"err\",\"tag\",3]]}}",
      payload.ModuleSection (record {
        imports = (codes "env", codes "log", core_entity.Func 0) ∷ [];
        funcs = 1 ∷ 2 ∷ [];
        tables = 1;
        memories = true ∷ false ∷ [];
        globals = 3;
        tags = 4;
        exports = (codes "run", index.Function (record { 0 = 1 }))
            ∷ (codes "tab", index.Table (record { 0 = 0 }))
            ∷ (codes "mem", index.Memory (record { 0 = 1 }))
            ∷ (codes "top", index.Global (record { 0 = 2 }))
            ∷ (codes "err", index.Tag (record { 0 = 3 })) ∷ [];
      }) 6,
    )
    ∷ (
      codes "{\"instances\":[{\"instantiate\":[0,[[\"env\",1],[\"aux\",2]]]},{\"exports\":[[\"log\",\"func\",3],"
          ++ codes "[\"tab\",\"table\",4]]}]}",
      payload.InstanceSection (instance.Instantiate 0 ((codes "env", 1) ∷ (codes "aux", 2) ∷ [])
          ∷ instance.FromExports ((codes "log", index.Function (record { 0 = 3 }))
          ∷ (codes "tab", index.Table (record { 0 = 4 })) ∷ []) ∷ []),
    )
    ∷ (
      codes "{\"component-instances\":[{\"instantiate\":[1,[[\"in\",\"instance\",0]],5]},{\"exports\":[[[\"run\","
          ++ codes "\"func\",2]],6]}]}",
      payload.ComponentInstanceSection (component_instance.Instantiate 1 ((codes "in", kind.Instance, 0) ∷ []) 5
          ∷ component_instance.FromExports ((bare_name (codes "run"), kind.Func, 2) ∷ []) 6 ∷ []),
    )
    ∷ (
      codes "{\"exports\":[[\"f\",\"func\",0],[\"m\",\"module\",1],[\"i\",\"instance\",2],[\"c\",\"component\","
          ++ codes "3],[\"t\",\"type\",4],[\"v\",\"value\",5]]}",
      payload.ComponentExportSection (record { name = bare_name (codes "f"); kind = kind.Func; index = 0 }
          ∷ record { name = bare_name (codes "m"); kind = kind.Module; index = 1 }
          ∷ record { name = bare_name (codes "i"); kind = kind.Instance; index = 2 }
          ∷ record { name = bare_name (codes "c"); kind = kind.Component; index = 3 }
          ∷ record { name = bare_name (codes "t"); kind = kind.Type_; index = 4 }
          ∷ record { name = bare_name (codes "v"); kind = kind.Value; index = 5 } ∷ []),
    )
    ∷ (
      codes "{\"aliases\":[{\"export\":[\"func\",1,\"now\"]},{\"core-export\":[\"global\",2,\"top\"]},"
          ++ codes "{\"outer\":[\"core-type\",0,3]},{\"outer\":[\"type\",1,4]},{\"outer\":[\"core-module\",2,5]},"
          ++ codes "{\"outer\":[\"component\",3,6]}]}",
      payload.ComponentAliasSection (alias.InstanceExport kind.Func 1 (codes "now")
          ∷ alias.CoreInstanceExport core_kind.Global 2 (codes "top")
          ∷ alias.Outer outer.CoreType 0 3
          ∷ alias.Outer outer.Type_ 1 4
          ∷ alias.Outer outer.CoreModule 2 5
          ∷ alias.Outer outer.Component 3 6 ∷ []),
    )
    ∷ []

-- a whole input
abbrev pub input_examples : List (List ℕ × Input)
input_examples = (
  codes "{\"limit\":5,\"intrinsics\":\"unsafe\",\"types\":{\"core\":[[[\"i32\"],[]]],"
      ++ codes "\"types\":[\"resource\"]},\"payloads\":[\"version\",\"end\"]}",
  record {
    tunables = record { max_component_instances = 5 };
    intrinsics = Some (codes "unsafe");
    table = record { core_funcs = record { params = core.I32 ∷ []; results = [] } ∷ []; types = entry.Resource ∷ [] };
    payloads = payload.Version encoding.Component ∷ payload.End ∷ [];
  },
)
    ∷ (
      codes "{\"form\":2,\"limit\":5,\"intrinsics\":1,\"names\":[\"f\",\"unsafe\"],\"types\":{\"core\":[],"
          ++ codes "\"types\":[{\"flags\":[0]}]},\"payloads\":[\"version\",{\"exports\":[0,\"func\",3]},"
          ++ codes "{\"canon\":[\"task.cancel\",4]},\"end\"]}",
      record {
        tunables = record { max_component_instances = 5 };
        intrinsics = Some (codes "unsafe");
        table = record { core_funcs = []; types = entry.Flags (codes "f" ∷ []) ∷ [] };
        payloads = payload.Version encoding.Component
            ∷ payload.ComponentExportSection (record { name = bare_name (codes "f"); kind = kind.Func; index = 3 } ∷ [])
            ∷ payload.ComponentCanonicalSection (canon.TaskCancel 4 ∷ [])
            ∷ payload.End ∷ [];
      },
    )
    ∷ []
