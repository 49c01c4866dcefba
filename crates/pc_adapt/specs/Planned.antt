-- What imports of a module of adapters stand for.
use Rattle.std.specs.Prelude.{Bool, false, [], ◌∷◌, Option, None, Some, option_map}
use Rattle.pc_numbers.specs.declared.module_entity.MemoryIndex.{MemoryIndex}
use Rattle.pc_types.specs.declared.trampoline.TrampolineKind.TheVariants as kind
use Rattle.pc_spec_plan.specs.CoreValue as value
use Rattle.pc_spec_plan.specs.CoreValue.{CoreValue, MaybeValue}
use Rattle.pc_trampoline.specs.declared.part.Mark.{Mark}
use Rattle.pc_trampoline.specs.declared.transcode.Transcode.{Transcode}
use Rattle.pc_trampoline.specs.declared.transcode.Trap.{Trap}
use Rattle.pc_dfg.specs.declared.adapter.DataModel.{DataModel}
use Rattle.pc_dfg.specs.declared.core_def.CoreDef.{CoreDef}
use Rattle.pc_dfg.specs.declared.core_def.CoreExport.{CoreExport}
use Rattle.pc_dfg.specs.declared.dfg.ComponentDfg.{ComponentDfg}
use Rattle.pc_dfg.specs.Means.{Means, MeansMaybe}
use Rattle.pc_dfg.specs.Numbers.{memory_def}
use Rattle.pc_spec_adapt.specs.Import as planned
use Rattle.pc_spec_adapt.specs.Planned.{helper, one, transcoder, two}
use Rattle.pc_adapt.specs.declared.import.Import.{Import}
use Rattle.pc_adapt.specs.declared.import.Import.TheVariants as import
use Rattle.pc_adapt.specs.Imports.{Memory, memory_of}

-- whether the addresses of a memory that may be left out have 64 bits
abbrev pub wide_if : Option Memory → Bool
wide_if None = false
wide_if (Some m) = m.1

-- whether the memory of a side has addresses of 64 bits, as its options say
abbrev pub is_wide : DataModel → Bool
is_wide m = wide_if (memory_of m)

-- the value of an import: of a definition its own, and else that of a trampoline with this core signature
pub data HasValue (g : ComponentDfg) (s : Mark) : Import → CoreValue Mark → Type 0 where
  has_definition : {d : CoreDef} {v : CoreValue Mark} → Means g d v → HasValue g s (import.CoreDef d) v
  has_transcoder : {op : Transcode} {from to : CoreExport MemoryIndex} {from64 to64 : Bool} {v w : CoreValue Mark}
      → Means g (memory_def from) v → Means g (memory_def to) w
      → HasValue g s (import.Transcode op from from64 to to64) (transcoder s from64 to64 v w op).value
  has_own : HasValue g s import.ResourceTransferOwn (helper kind.ResourceTransferOwn [] s value.no_parts).value
  has_borrow : HasValue g s import.ResourceTransferBorrow
      (helper kind.ResourceTransferBorrow [] s value.no_parts).value
  has_future : HasValue g s import.FutureTransfer (helper kind.FutureTransfer [] s value.no_parts).value
  has_stream : HasValue g s import.StreamTransfer (helper kind.StreamTransfer [] s value.no_parts).value
  has_error_context : HasValue g s import.ErrorContextTransfer
      (helper kind.ErrorContextTransfer [] s value.no_parts).value
  has_prepare : {m : Option (CoreExport MemoryIndex)} {v : MaybeValue Mark} → MeansMaybe g (option_map memory_def m) v
      → HasValue g s (import.PrepareCall m) (helper kind.PrepareCall [] s (one v)).value
  has_start : {c p : Option CoreDef} {v w : MaybeValue Mark} → MeansMaybe g c v → MeansMaybe g p w
      → HasValue g s (import.StartCall c p) (helper kind.StartCall [] s (two v w)).value
  has_enter : HasValue g s import.EnterSyncCall (helper kind.EnterSyncCall [] s value.no_parts).value
  has_exit : HasValue g s import.ExitSyncCall (helper kind.ExitSyncCall [] s value.no_parts).value
  has_trap : {t : Trap} → HasValue g s (import.Trap t) (helper kind.Trap (t.0 ∷ []) s value.no_parts).value

-- an import stands for what is planned
abbrev pub StandsFor : ComponentDfg → Mark → Import → planned.Import Mark → Type 0
StandsFor g s i p = HasValue g s i p.value
