use Rattle.std.proofs.Common.{◌≡◌, ◌<◌, length, take, sym, subst}
use Rattle.std.proofs.lemmas.Grind.{take_at_read}
use Rattle.pc_inline_canon.specs.Written.{written}
use Rattle.pc_inline_canon.proofs.WrittenLemmas.{written-push}
use Rattle.pc_inline_canon.proofs.options.read_options.Goals as goal

pub loop-option-preserved : goal.loop-option-preserved
loop-option-preserved c =
    let i = c.loop-option.option-index in
    let os = c.args.opts.now in
    let within : i < length os = c.loop-option-test.true in
    subst (λ xs. c.with-written.result ≡ written xs) (sym (take_at_read os i _ within).1)
    (written-push (take i os) _ c.loop-option.written c.with-written.result c.loop-option.invariant
    c.with-written.ensures.encoding c.with-written.ensures.memory c.with-written.ensures.realloc
    c.with-written.ensures.post_return c.with-written.ensures.callback c.with-written.ensures.async_
    c.with-written.ensures.gc)
