use Rattle.std.proofs.Common.{◌∙◌, ap, arith, sym}
use Rattle.std.specs.Prelude.{option_and_then, slice_get}
use Rattle.std.specs.Ordering.{nat_cmp}
use Rattle.std.specs.BTreeMap.{get}
use Rattle.std.proofs.lemmas.Option.{slice_get_past}
use Rattle.pc_types_convert.specs.Plain.{Layers}
use Rattle.pc_types_convert.proofs.TabulatedLemmas.{tabulated_here, tabulated_length}
use Rattle.pc_types_convert.proofs.done.Done.like.Goals as goal

pub returns-then-n-self : goal.returns-then-n-self
returns-then-n-self c =
    c.copied.ensures ∙ c.get.ensures.value
    ∙ sym (ap (option_and_then (λ d. d)) (tabulated_here (get nat_cmp c.self.inside.like) c.self.inside.room c.args.n
    c.if-n-self.true))
    ∙ ap (λ (l : Layers). option_and_then (λ d. d) (slice_get l.like c.args.n)) c.self.view_is

pub returns-else-n-self : goal.returns-else-n-self
returns-else-n-self c =
    sym (ap (option_and_then (λ d. d)) (slice_get_past _ c.args.n
    (omega (arith, tabulated_length (get nat_cmp c.self.inside.like) 0 c.self.inside.room, c.if-n-self.false))))
    ∙ ap (λ (l : Layers). option_and_then (λ d. d) (slice_get l.like c.args.n)) c.self.view_is
