use Rattle.std.proofs.Common.{Some, ap, refl, subst, sym, ◌∙◌}
use Rattle.std.proofs.lemmas.Option.{slice_get_read}
use Rattle.pc_types.specs.declared.parsed.CoreKind.TheVariants as core
use Rattle.pc_inline_state.specs.Slots.{MaybeThere}
use Rattle.pc_inline_canon.proofs.SideLemmas.{memory_none, memory_some, memory_within}
use Rattle.pc_inline_canon.proofs.adapters.side_memory.Goals as goal

pub is_wide-is_wide-requires : goal.is_wide-is_wide-requires
is_wide-is_wide-requires c = record {
  table = c.requires.sound.names.table;
  placed = c.requires.sound.placed;
  held = (_, c.index.ensures ∙ ap Some (sym c.in_ok-memory-in-Some.ensures));
}

pub returns-in_ok-memory-in-Some : goal.returns-in_ok-memory-in-Some
returns-in_ok-memory-in-Some c =
    let below = memory_within _ _ c.args.state.now c.requires.sound _
    (subst (MaybeThere _ _ core.Memory) c.in-Some.is c.requires.there) _ c.index.ensures _
    c.in_ok-memory-in-Some.ensures in
    memory_some _ _ _ _ _ _ _ _ _ c.in-Some.is c.index.ensures c.in_ok-memory-in-Some.ensures
    (slice_get_read c.args.state.now.runtime_instances.items _ _ c.index-instance_module.result.now refl below
    c.index-instance_module.ensures) c.is_wide-is_wide.ensures

pub returns-in-None : goal.returns-in-None
returns-in-None c = memory_none _ _ _ _ c.in-None.is
