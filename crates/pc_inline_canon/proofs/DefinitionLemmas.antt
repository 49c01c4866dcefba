-- The table of definitions with one more.
use Rattle.std.proofs.Common.{◌≡◌, List, [], ◌∷◌, ◌++◌, length, ap, ◌∙◌}
use Rattle.std.specs.Prelude.{slice_get}
use Rattle.pc_entity.proofs.Growing.{slice_get-append_seam}
use Rattle.pc_types.specs.declared.module_record.ModuleRecord.{ModuleRecord}
use Rattle.pc_spec_reading.specs.Value.{Value}
use Rattle.pc_inline_state.specs.declared.definition.Definition.{Definition}
use Rattle.pc_inline_state.specs.declared.definition.DefinitionId.{DefinitionId}
use Rattle.pc_inline_state.specs.Stands.{DefinitionStands, Stands, stands}
use Rattle.pc_inline_state.specs.Tables.{Tables}

-- the definition that was added last
pub definition_added : (ms : List ModuleRecord) (b : Tables) (ds : List Definition) (d : Definition) (id : DefinitionId)
    (v : Value) → b.definitions ≡ ds ++ d ∷ [] → id.0 ≡ length ds → DefinitionStands ms b d v → Stands ms b id v
definition_added ms b ds d id v is key x =
    stands (ap (λ l. slice_get l id.0) is ∙ ap (slice_get (ds ++ d ∷ [])) key ∙ slice_get-append_seam ds d []) x
