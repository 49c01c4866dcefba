use Rattle.std.proofs.Common.{◌∙◌, ap, sym}
use Rattle.std.specs.Prelude.{option_and_then, slice_get}
use Rattle.pc_types_convert.proofs.TabulatedLemmas.{front_at, front_past}
use Rattle.pc_types_convert.proofs.done.Earlier.get.Goals as goal

pub returns-then-n-self : goal.returns-then-n-self
returns-then-n-self c =
    c.get.ensures
    ∙ sym (ap (option_and_then (λ d. d)) (front_at c.self.inside.done.now.all c.self.inside.below c.args.n
    c.if-n-self.true))
    ∙ ap (λ l. option_and_then (λ d. d) (slice_get l c.args.n)) c.self.view_is

pub returns-else-n-self : goal.returns-else-n-self
returns-else-n-self c =
    sym (ap (option_and_then (λ d. d)) (front_past c.self.inside.done.now.all c.self.inside.below c.args.n
    c.if-n-self.false))
    ∙ ap (λ l. option_and_then (λ d. d) (slice_get l c.args.n)) c.self.view_is
