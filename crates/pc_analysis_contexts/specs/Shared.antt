-- Partitions while the core instances of a graph are gone through.
use Rattle.std.specs.Prelude.{◌≡◌, ◌≢◌, ◌<◌, ◌↔◌, ℕ, Bool, true, false, List, [], length, map, Option, Some, slice_get}
use Rattle.std.specs.Prelude.{slice_set}
use Rattle.pc_entity.specs.PackedOption.{as_option}
use Rattle.pc_entity.specs.SecondaryMap.{Defaulted, value_at}
use Rattle.std.specs.Option.{option_map}
use Rattle.pc_entity.specs.declared.packed_option.PackedOption.{PackedOption}
use Rattle.pc_numbers.specs.declared.module_entity.FuncIndex.{FuncIndex}
use Rattle.pc_types.specs.declared.module_record.ModuleRecord.{ModuleRecord}
use Rattle.pc_types.specs.declared.parsed.CoreKind.TheVariants as kind
use Rattle.pc_types.specs.ByKind.{of_kind}
use Rattle.pc_types.specs.Record.{imported}
use Rattle.pc_info.specs.declared.module.ModuleTranslation.{ModuleTranslation}
use Rattle.pc_spec_facts.specs.Recorded.{representative_in}
use Rattle.pc_spec_wiring.specs.Origin.{Given, of_record}
use Rattle.pc_spec_wiring.specs.Sharing.{AreRecorded, HasHome, Home}
use Rattle.pc_partition.specs.Partition.{IsMeet, IsOfKeys, IsPartition, Together}
use Rattle.pc_partition.specs.declared.partition.SameVmctxPartition.{SameVmctxPartition}
use Rattle.pc_partition.specs.declared.partition.SameVmctxPartition.TheVariants as variant
use Rattle.pc_dfg.specs.declared.dfg.ComponentDfg.{ComponentDfg}
use Rattle.pc_dfg.specs.declared.export.Export.{Export}
use Rattle.pc_dfg.specs.declared.export.Export.TheVariants as export
use Rattle.pc_analysis_contexts.specs.declared.import_index.ImportIndex.{ImportIndex}
use Rattle.pc_analysis_contexts.specs.declared.made.Made.{Made}
use Rattle.pc_analysis_contexts.specs.declared.made.Made.TheVariants as made
use Rattle.pc_analysis_contexts.specs.Cores.{GraphEnd, graph_cores, graph_home, is_exported_in}
use Rattle.pc_analysis_contexts.specs.Keys.{ContextKey, key_at}
use Rattle.pc_analysis_contexts.specs.Recorded.{IsKept}

-- each module imports fewer functions than there are numbers
abbrev pub HaveFew : List ImportIndex → Type 0
HaveFew indexes =
    (m : ℕ) (s : ImportIndex) → slice_get indexes m ≡ Some s → length (of_kind s.places kind.Func) < 4294967295

-- the keys of the function imports of a module
abbrev pub function_keys : ImportIndex → List (Option ContextKey) → List (Option ContextKey)
function_keys s keys = map (key_at keys) (of_kind s.places kind.Func)

-- a partition is another one with what keys say
pub record IsRefined (p : SameVmctxPartition) (keys : List (Option ContextKey)) (q : SameVmctxPartition)
    : Type 0 where
  pub given : SameVmctxPartition
  pub of_keys : IsOfKeys keys given
  pub meet : IsMeet p given q

-- one of the partitions is refined by what keys say, and the others stay
pub record RefinesAt (m : ℕ) (keys : List (Option ContextKey)) (old new : List SameVmctxPartition) : Type 0 where
  pub before : SameVmctxPartition
  pub after : SameVmctxPartition
  pub there : slice_get old m ≡ Some before
  pub refined : IsRefined before keys after
  pub is : new ≡ slice_set old m after

-- the partition of the module of a core instance is refined by it
abbrev pub Refines : List ImportIndex → Made → (old new : List SameVmctxPartition) → Type 0
Refines indexes made.Host old new = new ≡ old
Refines indexes (made.Module m keys) old new =
    (s : ImportIndex) → slice_get indexes m.0 ≡ Some s → RefinesAt m.0 (function_keys s keys) old new

-- what is known before any core instance is looked at: nothing is said yet, or the host is given the module
abbrev pub start_of : (is_exported : Bool) → SameVmctxPartition
start_of true = variant.Known []
start_of false = variant.Top

-- partitions where the host is given a module too, if an export is one
abbrev pub parted : Export → List SameVmctxPartition → List SameVmctxPartition
parted (export.ModuleStatic ty m) partitions = slice_set partitions m.0 (variant.Known [])
parted item partitions = partitions

-- these are so many partitions before any core instance is looked at
pub record AreStart (g : ComponentDfg) (count : ℕ) (partitions : List SameVmctxPartition) : Type 0 where
  pub size : length partitions ≡ count
  pub each : (m : ℕ) (p : SameVmctxPartition) → slice_get partitions m ≡ Some p → p ≡ start_of (is_exported_in g m)

module _ (g : ComponentDfg) (records : List ModuleRecord) where
  -- each of the first core instances, if it is one of this module, gives two function imports functions of one home
  abbrev pub ShareBefore : (n number f h : ℕ) → Type 0
  ShareBefore n m f h =
      (i : ℕ) (r : ModuleRecord) (given : List (Given GraphEnd)) → i < n
      → slice_get (graph_cores g records) i ≡ Some (of_record m r given)
      → (x : Home) × HasHome graph_home (graph_cores g records) r given f x
      × HasHome graph_home (graph_cores g records) r given h x

  -- a partition of the function imports of a module is that by the first core instances
  pub record IsPartitionTo (n number : ℕ) (r : ModuleRecord) (p : SameVmctxPartition) : Type 0 where
    pub is_partition : IsPartition p
    pub together : (f h : ℕ) → f < imported r kind.Func → h < imported r kind.Func → f ≢ h
        → Together p f h ↔ ((is_exported_in g number ≡ false) × ShareBefore n number f h)

  -- the same of the partition of each module
  pub record ArePartitionsTo (n : ℕ) (partitions : List SameVmctxPartition) : Type 0 where
    pub count : length partitions ≡ length records
    pub each : (m : ℕ) (r : ModuleRecord) (p : SameVmctxPartition) → slice_get records m ≡ Some r
        → slice_get partitions m ≡ Some p → IsPartitionTo n m r p

-- what a map of representatives has for a function import
abbrev pub recorded_in : Defaulted (PackedOption FuncIndex) → (f : ℕ) → Option ℕ
recorded_in facts f = option_map (λ (r : FuncIndex). r.0) (as_option (value_at facts f))

-- these representatives are recorded of the function imports of one of the modules, which is kept otherwise, and the
-- others stay
pub record RecordsAt (representative : ℕ → ℕ) (m : ℕ) (old new : List ModuleTranslation) : Type 0 where
  pub before : ModuleTranslation
  pub after : ModuleTranslation
  pub there : slice_get old m ≡ Some before
  pub kept : IsKept before after
  pub recorded : AreRecorded (imported before.«module» kind.Func) representative (representative_in after)
  pub is : new ≡ slice_set old m after
