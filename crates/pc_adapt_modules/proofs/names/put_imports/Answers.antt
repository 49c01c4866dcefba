use Rattle.std.proofs.Common.{◌∙◌}
use Rattle.pc_adapt_modules.proofs.RecordLemmas.{put_step}
use Rattle.pc_adapt_modules.proofs.names.put_imports.Goals as goal

pub loop-place-preserved : goal.loop-place-preserved
loop-place-preserved c =
    put_step c.args.number c.loop-place.place c.args.entities.now _ c.args.imports.now _ _ _ _ c.loop-place-test.true
    c.loop-place.invariant (c.in_ok-module_name.ensures ∙ c.in_ok-name.ensures) c.in_ok-own_name.ensures
    c.in_ok-push.ensures.ok
