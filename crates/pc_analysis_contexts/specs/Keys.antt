-- Whose context the arguments of core instances take, as the code finds it.
use Rattle.std.specs.Prelude.{ℕ, List, map, Option, None, Some, slice_get, unwrap_or, if◌then◌else◌}
use Rattle.pc_numbers.specs.declared.component_entity.StaticModuleIndex.{StaticModuleIndex}
use Rattle.pc_numbers.specs.declared.entity_index.EntityIndex.{EntityIndex}
use Rattle.pc_spec_plan.specs.CoreValue.{ExportedItem, by_index, by_name}
use Rattle.pc_info.specs.Definitions.{item_view}
use Rattle.pc_partition.specs.declared.vmctx_key.VmctxKey.{VmctxKey}
use Rattle.pc_partition.specs.declared.vmctx_key.VmctxKey.TheVariants as key
use Rattle.pc_dfg.specs.declared.core_def.CoreDef.{CoreDef}
use Rattle.pc_dfg.specs.declared.core_def.CoreDef.TheVariants as def
use Rattle.pc_dfg.specs.declared.dfg.ComponentDfg.{ComponentDfg}
use Rattle.pc_dfg.specs.declared.ids.AdapterModuleId.{AdapterModuleId}
use Rattle.pc_dfg.specs.declared.ids.InstanceId.{InstanceId}
use Rattle.pc_dfg.specs.declared.instance.Instance.{Instance}
use Rattle.pc_dfg.specs.declared.instance.Instance.TheVariants as source
use Rattle.pc_analysis_contexts.specs.declared.import_index.ImportIndex.{ImportIndex}
use Rattle.pc_analysis_contexts.specs.declared.made.Made.{Made}
use Rattle.pc_analysis_contexts.specs.declared.made.Made.TheVariants as made
use Rattle.pc_analysis_contexts.specs.Indexed.{defines, place_in}

-- whose context a function takes
abbrev pub ContextKey : Type 0
ContextKey = VmctxKey InstanceId AdapterModuleId

-- the key at a place, if there is one
abbrev pub key_at : List (Option ContextKey) → (place : ℕ) → Option ContextKey
key_at keys place = unwrap_or (slice_get keys place) None

-- the key of an entity of an instance: that of the argument which it is, or of the instance if its module defines it
abbrev pub placed_key : ImportIndex → List (Option ContextKey) → InstanceId → EntityIndex → (place : Option ℕ)
    → Option ContextKey
placed_key s keys i e (Some place) = key_at keys place
placed_key s keys i e None = if defines s e then Some (key.CoreInstance i) else None

-- the key of an entity of an instance, whose place among the arguments is looked up
abbrev pub entity_key : ImportIndex → List (Option ContextKey) → InstanceId → EntityIndex → Option ContextKey
entity_key s keys i e = placed_key s keys i e (place_in s e)

-- the same where the module may have no index
abbrev pub indexed_key : Option ImportIndex → List (Option ContextKey) → InstanceId → EntityIndex → Option ContextKey
indexed_key None keys i e = None
indexed_key (Some s) keys i e = entity_key s keys i e

-- the key of an adapter: its module's
abbrev pub adapter_key : Option (AdapterModuleId × EntityIndex) → Option ContextKey
adapter_key None = None
adapter_key (Some p) = Some (key.AdapterModule p.0)

module _ (indexes : List ImportIndex) where
  -- the key of an entity of what was made
  abbrev pub made_key : Option Made → InstanceId → EntityIndex → Option ContextKey
  made_key None i e = None
  made_key (Some made.Host) i e = None
  made_key (Some (made.Module m keys)) i e = indexed_key (slice_get indexes m.0) keys i e

  module _ (known : List Made) where
    -- that of an item of an instance
    abbrev pub item_key : InstanceId → ExportedItem → Option ContextKey
    item_key i (by_index e) = made_key (slice_get known i.0) i e
    item_key i (by_name name) = None

    module _ (g : ComponentDfg) where
      -- that of a definition
      abbrev pub def_key : CoreDef → Option ContextKey
      def_key (def.Export e) = item_key e.instance (item_view e.item)
      def_key (def.InstanceFlags c) = None
      def_key (def.Trampoline t) = Some key.Component
      def_key (def.UnsafeIntrinsic s i) = Some key.Component
      def_key (def.Adapter a) = adapter_key (slice_get g.adapter_partitionings a.0)

      -- what is made of a module, if it has an index
      abbrev pub made_if : StaticModuleIndex → List CoreDef → Option ImportIndex → Made
      made_if m args None = made.Host
      made_if m args (Some s) = made.Module m (map def_key args)

      -- the core instance of a module
      unfoldable pub made_of : StaticModuleIndex → List CoreDef → Made
      made_of m args = made_if m args (slice_get indexes m.0)

      -- a core instance of the graph
      unfoldable pub made_for : Instance → Made
      made_for (source.Static m args) = made_of m args
      made_for (source.Import r args) = made.Host
