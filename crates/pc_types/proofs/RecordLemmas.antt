-- What the questions to a module record answer.
use Rattle.std.proofs.Common.{◌≡◌, ℕ, List, Some, take, count_by, refl}
use Rattle.std.specs.Prelude.{slice_get}
use Rattle.pc_numbers.specs.declared.entity_index.EntityIndex.{EntityIndex}
use Rattle.pc_types.specs.declared.parsed.CoreKind.{CoreKind}
use Rattle.pc_types.specs.declared.parsed.CoreEntity.{CoreEntity}
use Rattle.pc_types.specs.declared.module_record.ModuleRecord.{ModuleRecord}
use Rattle.pc_types.specs.Record.{imports_kind, imported_entity, kind_of, entity_at}

-- the entity of an import, from its kind and the imports before it
pub imported_entity-at : (r : ModuleRecord) (place : ℕ) (imports : List (List ℕ × List ℕ × CoreEntity))
    (i : List ℕ × List ℕ × CoreEntity)
    (k : CoreKind) (n : ℕ) (e : EntityIndex)
    → e ≡ entity_at k n → n ≡ count_by (imports_kind k) (take place imports) → k ≡ kind_of i.2 → imports ≡ r.imports
    → slice_get imports place ≡ Some i → Some e ≡ imported_entity r place
imported_entity-at r place imports i k n e made counted kind same here =
    let at : slice_get r.imports place ≡ Some i = rw (← same) here in
    rw (at, made, counted, kind, same) refl
