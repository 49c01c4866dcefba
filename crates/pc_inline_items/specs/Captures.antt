-- What component instances captured, and what a nested component captures of one, by number.
use Rattle.std.specs.Prelude.{List, [], Option, option_and_then, option_map, slice_get, unwrap_or}
use Rattle.pc_entity.specs.Lists.{map_all}
use Rattle.pc_types.specs.declared.module_record.ModuleRecord.{ModuleRecord}
use Rattle.pc_local.specs.declared.captured.Variable.{Variable}
use Rattle.pc_local.specs.declared.captured.Variable.TheVariants as variable
use Rattle.pc_local.specs.Standing.{Names}
use Rattle.pc_spec_reading.specs.Item.{a_component, a_module}
use Rattle.pc_spec_reading.specs.Value.{Chain}
use Rattle.pc_inline_state.specs.declared.closure.Closure.{Closure}
use Rattle.pc_inline_state.specs.declared.definition.ClosureId.{ClosureId}
use Rattle.pc_inline_state.specs.declared.definition.DefinitionId.{DefinitionId}
use Rattle.pc_inline_state.specs.Stands.{Captured}
use Rattle.pc_inline_state.specs.Tables.{Tables}

-- what a variable is among these items of the scope and these captured ones
abbrev pub captured_id : (local captured : List DefinitionId) → Variable → Option DefinitionId
captured_id ids captured (variable.Local n) = slice_get ids n
captured_id ids captured (variable.Upvar n) = slice_get captured n

-- what all variables are in order, or nothing where one is nothing
abbrev pub captured_ids : {V : Type 0} → (V → Variable) → (local captured : List DefinitionId) → List V
    → Option (List DefinitionId)
captured_ids f ids captured vs = map_all (λ v. captured_id ids captured (f v)) vs

-- what a component instance captured: the root nothing
abbrev pub closure_of : List Closure → Option ClosureId → Option Closure
closure_of cs k = option_and_then (λ (k : ClosureId). slice_get cs k.0) k

-- the modules
abbrev pub captured_modules : List Closure → Option ClosureId → List DefinitionId
captured_modules cs k = unwrap_or (option_map (λ (c : Closure). c.modules) (closure_of cs k)) []

-- the components
abbrev pub captured_components : List Closure → Option ClosureId → List DefinitionId
captured_components cs k = unwrap_or (option_map (λ (c : Closure). c.components) (closure_of cs k)) []

-- what a component instance captured is what stands in a chain under these names
pub record IsEnclosed (ms : List ModuleRecord) (b : Tables) (names : Names) (k : Option ClosureId) (chain : Chain)
    : Type 0 where
  pub modules : Captured ms b a_module (captured_modules b.closures k) names.modules chain
  pub components : Captured ms b a_component (captured_components b.closures k) names.components chain
