-- The theorem with types: a plan has types and core signatures as numbers and a reading has them whole; the types
-- builder tells what stands under a number.
use Rattle.std.specs.Prelude.{◌≡◌, List, map, Some}
use Rattle.pc_trampoline.specs.declared.part.Mark.{Mark}
use Rattle.pc_types_lists.specs.Types.{Types}
use Rattle.pc_spec_plan.specs.ExportNode.{NamedNode, map_named}
use Rattle.pc_spec_plan.specs.Log.{Entry, map_entry, trace}
use Rattle.pc_spec_plan.specs.Machine.{NeverStuck}
use Rattle.pc_spec_plan.specs.PlanView.{PlanView}
use Rattle.pc_spec_plan.specs.Trace.{run_trace}
use Rattle.pc_spec_reading.specs.Reading.{Reading}
use Rattle.pc_inline_state.specs.Holds.{Numbered, ReadsAs, number_of, whole_of}

-- a plan does what a reading says, types and core signatures included: there are a trace and exports that have each
-- type twice; with the numbers they are what the plan's run makes and ends with, with whole types the reading's
pub record TypedAs (types : Types) (plan : PlanView Mark) (r : Reading) : Type 0 where
  pub never_stuck : NeverStuck plan
  pub entries : List (Entry (Numbered types (ReadsAs r.imported_resources)))
  pub exports : List (NamedNode (Numbered types (ReadsAs r.imported_resources)))
  pub traced : run_trace plan ≡ Some (map (map_entry (number_of types (ReadsAs r.imported_resources))) entries)
  pub ends : never_stuck.nodes ≡ map (map_named (number_of types (ReadsAs r.imported_resources))) exports
  pub same_trace : map (map_entry (whole_of types (ReadsAs r.imported_resources))) entries ≡ trace r.log
  pub same_exports : map (map_named (whole_of types (ReadsAs r.imported_resources))) exports ≡ r.nodes
