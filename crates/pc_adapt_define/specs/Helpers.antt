-- Trampolines over the slots of a graph, for the imports that ask for them.
use Rattle.std.specs.Prelude.{◌≡◌, ℕ, Bool, List, Option, None, Some, option_map, slice_get}
use Rattle.pc_numbers.specs.declared.module_entity.MemoryIndex.{MemoryIndex}
use Rattle.pc_numbers.specs.declared.runtime.RuntimeImportIndex.{RuntimeImportIndex}
use Rattle.pc_trampoline.specs.declared.trampoline.Trampoline.{Trampoline}
use Rattle.pc_trampoline.specs.declared.trampoline.Trampoline.TheVariants as trampoline
use Rattle.pc_trampoline.specs.declared.transcode.Transcode.{Transcode}
use Rattle.pc_dfg.specs.declared.core_def.CoreDef.{CoreDef}
use Rattle.pc_dfg.specs.declared.core_def.CoreExport.{CoreExport}
use Rattle.pc_dfg.specs.declared.dfg.ComponentDfg.{ComponentDfg}
use Rattle.pc_dfg.specs.declared.ids.CallbackId.{CallbackId}
use Rattle.pc_dfg.specs.declared.ids.MemoryId.{MemoryId}
use Rattle.pc_dfg.specs.declared.ids.OptionsId.{OptionsId}
use Rattle.pc_dfg.specs.declared.ids.PostReturnId.{PostReturnId}
use Rattle.pc_dfg.specs.declared.ids.TableId.{TableId}
use Rattle.pc_adapt.specs.declared.import.Import.{Import}
use Rattle.pc_adapt.specs.declared.import.Import.TheVariants as import
use Rattle.pc_adapt_define.specs.declared.helpers.Wanted.{Wanted}
use Rattle.pc_adapt_define.specs.declared.helpers.Wanted.TheVariants as asked

-- a trampoline over the numbers of a graph
abbrev pub Helper : Type 0
Helper = Trampoline RuntimeImportIndex OptionsId MemoryId TableId CallbackId PostReturnId

-- the slot of what may be left out
abbrev pub HasSlot : {A : Type 0} → List A → Option ℕ → Option A → Type 0
HasSlot xs None None = Unit {0}
HasSlot xs None (Some x) = ⊥
HasSlot xs (Some n) None = ⊥
HasSlot xs (Some n) (Some x) = slice_get xs n ≡ Some x

-- what brings strings from one memory into another
pub record Transcodes (g : ComponentDfg) (op : Transcode) (from : CoreExport MemoryIndex) (from64 : Bool)
    (to : CoreExport MemoryIndex) (to64 : Bool) (t : Helper) : Type 0 where
  pub source : MemoryId
  pub target : MemoryId
  pub is : t ≡ trampoline.Transcoder op source from64 target to64
  pub source_at : slice_get g.memories source.0 ≡ Some from
  pub target_at : slice_get g.memories target.0 ≡ Some to

-- what prepares an async call, with this memory
pub record Prepares (g : ComponentDfg) (m : Option (CoreExport MemoryIndex)) (t : Helper) : Type 0 where
  pub slot : Option MemoryId
  pub is : t ≡ trampoline.PrepareCall slot
  pub at : HasSlot g.memories (option_map (λ (n : MemoryId). n.0) slot) m

-- what starts an async call, with this callback and this post-return function
pub record Starts (g : ComponentDfg) (c p : Option CoreDef) (t : Helper) : Type 0 where
  pub callback : Option CallbackId
  pub post_return : Option PostReturnId
  pub is : t ≡ trampoline.StartCall callback post_return
  pub callback_at : HasSlot g.callbacks (option_map (λ (n : CallbackId). n.0) callback) c
  pub post_return_at : HasSlot g.post_returns (option_map (λ (n : PostReturnId). n.0) post_return) p

-- the helper that an import asks for
abbrev pub IsHelper : ComponentDfg → Import → Helper → Type 0
IsHelper g (import.CoreDef d) t = ⊥
IsHelper g (import.Transcode op from from64 to to64) t = Transcodes g op from from64 to to64 t
IsHelper g import.ResourceTransferOwn t = t ≡ trampoline.ResourceTransferOwn
IsHelper g import.ResourceTransferBorrow t = t ≡ trampoline.ResourceTransferBorrow
IsHelper g import.FutureTransfer t = t ≡ trampoline.FutureTransfer
IsHelper g import.StreamTransfer t = t ≡ trampoline.StreamTransfer
IsHelper g import.ErrorContextTransfer t = t ≡ trampoline.ErrorContextTransfer
IsHelper g (import.PrepareCall m) t = Prepares g m t
IsHelper g (import.StartCall c p) t = Starts g c p t
IsHelper g import.EnterSyncCall t = t ≡ trampoline.EnterSyncCall
IsHelper g import.ExitSyncCall t = t ≡ trampoline.ExitSyncCall
IsHelper g (import.Trap code) t = t ≡ trampoline.Trap code

-- what an import asks for
abbrev pub IsWanted : ComponentDfg → Import → Wanted → Type 0
IsWanted g i (asked.Definition d) = i ≡ import.CoreDef d
IsWanted g i (asked.Helper t) = IsHelper g i t
