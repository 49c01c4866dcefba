-- What is done for host items: one is used, the lowering of a function is declared.
use Rattle.std.specs.Prelude.{◌≡◌, List, map}
use Rattle.pc_numbers.specs.declared.runtime.RuntimeImportIndex.{RuntimeImportIndex}
use Rattle.pc_types.specs.declared.module_record.ModuleRecord.{ModuleRecord}
use Rattle.pc_types.specs.declared.parsed.CoreKind.TheVariants as core
use Rattle.pc_types.specs.declared.parsed.TypeTable.{TypeTable}
use Rattle.pc_types.specs.declared.type_index.TypeFuncIndex.{TypeFuncIndex}
use Rattle.pc_types.specs.TypeTree.{Path, TypeTree}
use Rattle.pc_spec_plan.specs.CoreValue.{Options, lowered}
use Rattle.pc_spec_plan.specs.Log.{declared, needed}
use Rattle.pc_parsed.specs.Mark.{Mark, of_type}
use Rattle.pc_spec_reading.specs.Asked.{with_path}
use Rattle.pc_spec_reading.specs.Scope.{Moment, add_entry}
use Rattle.pc_spec_reading.specs.World.{World, logging}
use Rattle.pc_dfg.specs.Means.{HasPath}
use Rattle.pc_inline_state.specs.declared.definition.CoreId.{CoreId}
use Rattle.pc_inline_state.specs.declared.definition.Options.{Options as OptionsOf}
use Rattle.pc_inline_state.specs.declared.frame.Frame.{Frame}
use Rattle.pc_inline_state.specs.declared.state.State.{State}
use Rattle.pc_inline_state.specs.Fits.{path_of}
use Rattle.pc_inline_state.specs.Points.{IsSoundState, PointStands}
use Rattle.pc_inline_state.specs.Stands.{IsFunc, ItemStands, OptionsStand}
use Rattle.pc_inline_state.specs.Tables.{tables_of}
use Rattle.pc_inline_state.specs.Worlds.{WorldStands}

module _ (t : TypeTable) (ms : List ModuleRecord) (old new : State) where
  -- the host item at a path is used, under this number of the graph
  pub record Uses (p : Path) (r : RuntimeImportIndex) : Type 0 where
    pub path : HasPath new.graph r.0 p
    pub paths : map path_of new.graph.imports ≡ with_path (map path_of old.graph.imports) p
    pub sound : IsSoundState t ms old → IsSoundState t ms new
    pub world : (w : World) → WorldStands old.types old.graph w
        → WorldStands new.types new.graph (logging w (needed p))
    pub stands : (f : Frame) (now : Moment) → PointStands t ms old f now
        → PointStands t ms new f (add_entry now (needed p))

  -- the moment in which a host function was lowered
  abbrev pub lowering : Path → TypeTree → Options Mark → Moment → Moment
  lowering p tree os now = add_entry (add_entry now (needed p)) (declared (lowered p (of_type tree) os))

  -- a host function is lowered to a core function
  unfoldable pub Lowers : Path → TypeFuncIndex → OptionsOf → CoreId → Type 0
  Lowers p ty o id = (f : Frame) (now : Moment) (tree : TypeTree) (os : Options Mark) → PointStands t ms old f now
      → IsFunc ms (tables_of old) ty tree → OptionsStand ms (tables_of old) o os
      → PointStands t ms new f (lowering p tree os now)
      × ItemStands ms (tables_of new) core.Func id (lowered p (of_type tree) os)
