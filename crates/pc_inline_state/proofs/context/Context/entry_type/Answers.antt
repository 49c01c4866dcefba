use Rattle.std.proofs.Common.{Err, ap}
use Rattle.pc_inline_state.proofs.RefusedLemmas.{type_lacks}
use Rattle.pc_inline_state.proofs.AddsLemmas.{asked_adds}
use Rattle.pc_inline_state.specs.Tables.{tables_of}
use Rattle.pc_inline_state.proofs.context.Context.entry_type.Goals as goal

pub returns-in_err-convert_type_with-clause-adds : goal.returns-in_err-convert_type_with-clause-adds
returns-in_err-convert_type_with-clause-adds c =
    asked_adds c.args.self.now.table.now (tables_of c.args.state.now) c.convert_type_with.new.self
    c.convert_type_with.ensures.grows c.args.n c.requires.begun c.convert_type_with.ensures.few
    c.convert_type_with.ensures.adds

pub returns-in_err-convert_type_with-clause-err : goal.returns-in_err-convert_type_with-clause-err
returns-in_err-convert_type_with-clause-err c =
    type_lacks _ _ _ _ c.from_residual.ensures.1 (λ is. c.in_err-convert_type_with.ensures.bad (ap Err is))
    (λ is. (c.in_err-convert_type_with.ensures.full (ap Err is)).full)

pub returns-clause-adds : goal.returns-clause-adds
returns-clause-adds c =
    asked_adds c.args.self.now.table.now (tables_of c.args.state.now) c.convert_type_with.new.self
    c.convert_type_with.ensures.grows c.args.n c.requires.begun c.convert_type_with.ensures.few
    c.convert_type_with.ensures.adds
