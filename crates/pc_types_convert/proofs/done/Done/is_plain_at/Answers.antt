use Rattle.std.proofs.Common.{◌∙◌, ap, arith, sym}
use Rattle.std.specs.Prelude.{is_some, option_and_then}
use Rattle.std.specs.Ordering.{nat_cmp}
use Rattle.std.specs.BTreeMap.{get}
use Rattle.std.proofs.lemmas.Option.{slice_get_past}
use Rattle.pc_types_convert.specs.Plain.{Layers, is_plain_at}
use Rattle.pc_types_convert.proofs.TabulatedLemmas.{tabulated_here, tabulated_length}
use Rattle.pc_types_convert.proofs.done.Done.is_plain_at.Goals as goal

pub returns-then-n-self : goal.returns-then-n-self
returns-then-n-self c =
    c.contains_key.ensures
    ∙ sym (ap (λ o. is_some (option_and_then (λ d. d) o)) (tabulated_here (get nat_cmp c.self.inside.plain)
    c.self.inside.room c.args.n c.if-n-self.true))
    ∙ ap (λ (l : Layers). is_plain_at l.plain c.args.n) c.self.view_is

pub returns-else-n-self : goal.returns-else-n-self
returns-else-n-self c =
    sym (ap (λ o. is_some (option_and_then (λ d. d) o)) (slice_get_past _ c.args.n
    (omega (arith, tabulated_length (get nat_cmp c.self.inside.plain) 0 c.self.inside.room, c.if-n-self.false))))
    ∙ ap (λ (l : Layers). is_plain_at l.plain c.args.n) c.self.view_is
