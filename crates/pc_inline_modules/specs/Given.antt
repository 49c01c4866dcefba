-- What a module of the host is given.
use Rattle.std.specs.Prelude.{◌≡◌, ℕ, List}
use Rattle.std.specs.List.{AllZip}
use Rattle.pc_types.specs.declared.module_record.ModuleRecord.{ModuleRecord}
use Rattle.pc_spec_plan.specs.Log.{NamedArgument}
use Rattle.pc_parsed.specs.Mark.{Mark}
use Rattle.pc_dfg.specs.declared.core_def.CoreDef.{CoreDef}
use Rattle.pc_dfg.specs.Effects.{Argument, host_arguments}
use Rattle.pc_inline_state.specs.Found.{ArgumentStands}
use Rattle.pc_inline_state.specs.Tables.{Tables}

module _ (ms : List ModuleRecord) (b : Tables) where
  -- an argument of a module of the host, under its names
  pub record NamedStands (a : Argument) (x : NamedArgument Mark) : Type 0 where
    pub module_name : x.module_name ≡ a.0
    pub name : x.name ≡ a.1.0
    pub value : ArgumentStands ms b a.1.1 x.value

  -- all of them, in order
  abbrev pub HostArgumentsStand : List (List ℕ × List (List ℕ × CoreDef)) → List (NamedArgument Mark) → Type 0
  HostArgumentsStand args xs = AllZip NamedStands (host_arguments args) xs
