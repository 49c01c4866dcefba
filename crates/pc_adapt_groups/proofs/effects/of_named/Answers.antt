use Rattle.std.specs.Prelude.{ℕ, List}
use Rattle.pc_dfg.specs.declared.core_def.CoreDef.{CoreDef}
use Rattle.pc_adapt_groups.proofs.GivesLemmas.{gives_none, gives_map_more}
use Rattle.pc_adapt_groups.proofs.effects.of_named.Goals as goal

pub loop-place-init : goal.loop-place-init
loop-place-init c = gives_none c.args.reaches.now

pub loop-place-preserved : goal.loop-place-preserved
loop-place-preserved c =
    gives_map_more c.args.reaches.now (λ (a : List ℕ × CoreDef). a.1) c.args.args.now c.loop-place.place
    (c.entry_at.result.0.now, c.entry_at.result.1.now) c.loop-place.reach c.of_def.result c.join-reach.result
    c.entry_at.ensures c.loop-place.invariant c.of_def.ensures c.join-reach.ensures
