-- What a core instance has under a name, and the arguments of a core module.
use Rattle.std.specs.Prelude.{◌≡◌, ℕ, Bool, List, Some, nat_lt, length}
use Rattle.std.specs.List.{AllZip, list_all}
use Rattle.pc_dfg.specs.declared.ids.InstanceId.{InstanceId}
use Rattle.pc_numbers.specs.declared.entity_index.EntityIndex.{EntityIndex}
use Rattle.pc_types.specs.declared.module_record.ModuleRecord.{ModuleRecord}
use Rattle.pc_types.specs.declared.parsed.CoreEntity.{CoreEntity}
use Rattle.pc_types.specs.declared.parsed.CoreKind.{CoreKind}
use Rattle.pc_types.specs.Record.{index_kind, kind_of}
use Rattle.pc_spec_plan.specs.CoreValue.{CoreValue, exported, by_index, by_name}
use Rattle.pc_parsed.specs.Mark.{Mark}
use Rattle.pc_dfg.specs.declared.core_def.CoreDef.{CoreDef}
use Rattle.pc_inline_state.specs.declared.core_item.CoreItem.{CoreItem}
use Rattle.pc_inline_state.specs.declared.core_item.CoreItem.TheVariants as item
use Rattle.pc_inline_state.specs.declared.definition.CoreId.{CoreId}
use Rattle.pc_inline_state.specs.declared.frame.Frame.{Frame}
use Rattle.pc_inline_state.specs.Bags.{module_export}
use Rattle.pc_inline_state.specs.Slots.{IsThere}
use Rattle.pc_inline_state.specs.Stands.{CoreStands, ItemStands}
use Rattle.pc_inline_state.specs.Tables.{HasEntity, IsHostInstance, IsItem, Tables}

-- whether each argument, also one that no import asks for, is a core instance of the component instance
abbrev pub knows_instances : Frame → List (List ℕ × ℕ) → Bool
knows_instances f args = list_all (λ (a : List ℕ × ℕ). nat_lt a.1 (length f.core_instances)) args

module _ (ms : List ModuleRecord) (b : Tables) where
  -- what a core instance has under a name, of a kind
  pub data ItemFound (k : CoreKind) : CoreItem → CoreValue Mark → Type 0 where
    entity_found : {i : InstanceId} {e : EntityIndex} → index_kind e ≡ k → HasEntity ms b.graph i e
        → ItemFound k (item.Entity i e) (exported i.0 (by_index e))
    named_found : {i : InstanceId} {n place : ℕ} {e : List ℕ × CoreEntity} → module_export b.table n place ≡ Some e
        → kind_of e.1 ≡ k → IsHostInstance b.graph i
        → ItemFound k (item.Named i n place) (exported i.0 (by_name e.0))
    known_found : {n : CoreId} {v : CoreValue Mark} → ItemStands ms b k n v → ItemFound k (item.Known n) v

  -- its number is one of the table
  abbrev pub FoundThere : CoreItem → Type 0
  FoundThere (item.Entity i e) = Unit {0}
  FoundThere (item.Named i n place) = (e : List ℕ × CoreEntity) × (module_export b.table n place ≡ Some e)
  FoundThere (item.Known n) = (k : CoreKind) × IsThere ms b k n

  -- an argument of a core module
  pub record ArgumentStands (d : CoreDef) (v : CoreValue Mark) : Type 0 where
    pub kind : CoreKind
    pub stands : CoreStands b.types b.graph d v
    pub usable : IsItem ms b.graph kind d

  -- the arguments of a core module, in order
  abbrev pub ArgumentsStand : List CoreDef → List (CoreValue Mark) → Type 0
  ArgumentsStand ds vs = AllZip ArgumentStands ds vs
