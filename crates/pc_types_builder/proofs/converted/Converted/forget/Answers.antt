use Rattle.std.proofs.Common.{subst}
use Rattle.pc_types_convert.specs.Plain.{Forgets}
use Rattle.pc_types_builder.proofs.KnownLemmas.{forget_keeps}
use Rattle.pc_types_builder.proofs.converted.Converted.forget.Goals as goal

pub returns : goal.returns
returns c t old new sound keeps current known are =
    forget_keeps old new keeps t sound _ _ c.args.n
    (subst (λ x. Forgets c.args.n x c.forget.new.self) c.self.view_is c.forget.ensures) are current known
