-- The set of transparent adapters of a graph that stands for a reading tells which of the reading's adapters are
-- transparent.
use Rattle.std.proofs.Common.{◌≡◌, ℕ, true, List}
use Rattle.std.specs.Prelude.{◌↔◌}
use Rattle.std.specs.FinSet as set
use Rattle.std.specs.Ordering.{nat_cmp}
use Rattle.pc_numbers.specs.declared.runtime.ResourceIndex.{ResourceIndex}
use Rattle.pc_types.specs.declared.module_record.ModuleRecord.{ModuleRecord}
use Rattle.pc_types.specs.declared.parsed.TypeTable.{TypeTable}
use Rattle.pc_types.specs.TypeTree.{Identity, TypeTree}
use Rattle.pc_types_lists.specs.Types.{Types}
use Rattle.pc_spec_reading.specs.Reading.{Reading}
use Rattle.pc_dfg.specs.declared.dfg.ComponentDfg.{ComponentDfg}
use Rattle.pc_adapt.specs.Asked as asked
use Rattle.pc_analysis_transparent.specs.Opaque.{AreTyped, HoldTypes, IsTransparentIn}
use Rattle.pc_analysis_reads.specs.Exported.{AreExported}
use Rattle.pc_analysis_reads.proofs.ReadLemmas.{transparent_as_read}
use Rattle.pc_inline.specs.Inlines.{GraphStands, last_world}
use Rattle.pc_inline_state.proofs.HoldsLemmas.{reads_fit, some_reading}
use Rattle.pc_inline_state.specs.Fits.{Fits}
use Rattle.pc_translate.specs.Transparent.{TellsTransparent}
use Rattle.pc_translate.proofs.PartitionLemmas.{are_typed, hold_types, lift_trees, lower_trees}

-- the types of adapters are held, and have trees, in the words of the planner and of the analysis
held_alike : (types : Types) (g : ComponentDfg) → asked.HoldTypes types g → HoldTypes types g
held_alike types g held a x at = let own = held a x at in record { lift = own.lift; lower = own.lower }

typed_alike : (types : Types) (who : ResourceIndex → Identity) (g : ComponentDfg) (lift lower : ℕ → TypeTree)
    → asked.AreTyped types who g lift lower → AreTyped types who g lift lower
typed_alike types who g lift lower typed a x at =
    let own = typed a x at in record { lift_tree = own.lift_tree; lower_tree = own.lower_tree }

module _ (t : TypeTable) (ms : List ModuleRecord) (types : Types) (g : ComponentDfg) (r : Reading)
    (stands : GraphStands t ms types g r) where
  abbrev who : ResourceIndex → Identity
  who = (some_reading r.imported_resources).0

  fits : Fits g who
  fits =
      reads_fit g r.imported_resources stands.world.imported_resources who (some_reading r.imported_resources).1

  abbrev lift : ℕ → TypeTree
  lift = lift_trees types g r.log stands.world.adapters

  abbrev lower : ℕ → TypeTree
  lower = lower_trees types g r.log stands.world.adapters

  -- the types of the adapters are held
  pub types_held : HoldTypes types g
  types_held = held_alike types g (hold_types types g r.log stands.world.adapters who fits)

  types_typed : AreTyped types who g lift lower
  types_typed = typed_alike types who g lift lower (are_typed types g r.log stands.world.adapters who fits)

  -- a set that has the transparent adapters of the graph tells those of the reading
  pub tells_transparent : AreExported g → (s : set.FinSet nat_cmp)
      → ((u : ResourceIndex → Identity) (l w : ℕ → TypeTree) → AreTyped types u g l w → (k : ℕ)
      → (set.contains s k ≡ true) ↔ IsTransparentIn g l w k)
      → TellsTransparent r (record g { transparent_adapters = s })
  unfolding TellsTransparent
  tells_transparent exported s told k v at =
      let one = told who lift lower types_typed k in
      let two = transparent_as_read t types g (last_world r) r.nodes who lift lower stands.world stands.exports exported
      fits types_typed k v at in
      (λ there. two.0 (one.0 there), λ here. one.1 (two.1 here))
