use Rattle.std.proofs.Common.{arith, subst}
use Rattle.std.proofs.lemmas.Option.{slice_get_past}
use Rattle.pc_types_lists.specs.Adds.{AddsTypes}
use Rattle.pc_types_builder.proofs.CountLemmas.{signature_few}
use Rattle.pc_types_builder.proofs.builder.ComponentTypesBuilder.core_sig.Goals as goal

pub returns-in_ok-signature_at-clause-few : goal.returns-in_ok-signature_at-clause-few
returns-in_ok-signature_at-clause-few c =
    subst (λ b. AddsTypes c.args.table.now 0 b c.signature_at.new.interned) c.self.view_is
    (signature_few c.args.table.now _ _ _ c.signature_at.ensures.grows c.signature_at.ensures.signatures)

pub returns-else-n-len-clause-bad : goal.returns-else-n-len-clause-bad
returns-else-n-len-clause-bad c h =
    slice_get_past c.args.table.now.core_funcs c.args.n (omega (arith, c.if-n-len.false, c.len.ensures))
