use Rattle.std.proofs.Common.{◌∙◌, ap, length, subst, sym}
use Rattle.pc_types_convert.specs.Plain.{Layers, Takes}
use Rattle.pc_types_builder.proofs.KnownLemmas.{takes_keeps}
use Rattle.pc_types_builder.proofs.converted.Converted.exchange_plain.Goals as goal

pub exchange_plain-requires : goal.exchange_plain-requires
exchange_plain-requires c =
    ap (λ (l : Layers). length l.all) c.self.view_is ∙ c.requires
    ∙ sym (ap (λ (l : Layers). length l.all) c.other.view_is)

pub returns-clause-here : goal.returns-clause-here
returns-clause-here c t old new sound keeps given are =
    takes_keeps old new keeps t sound _ _ _
    (subst (λ x. Takes x c.args.other.now c.exchange_plain.new.self) c.self.view_is
    (subst (λ x. Takes c.self.inside.done x c.exchange_plain.new.self) c.other.view_is c.exchange_plain.ensures.here))
    given are

pub returns-clause-there : goal.returns-clause-there
returns-clause-there c t old new sound keeps given are =
    takes_keeps old new keeps t sound _ _ _
    (subst (λ x. Takes x c.args.self.now c.exchange_plain.new.other) c.other.view_is
    (subst (λ x. Takes c.other.inside.done x c.exchange_plain.new.other) c.self.view_is c.exchange_plain.ensures.there))
    given are
