use Rattle.std.proofs.Common.{Err, ap, refl, sym, ◌∙◌}
use Rattle.pc_inline_state.proofs.RefusedLemmas.{type_lacks}
use Rattle.pc_inline_state.proofs.AddsLemmas.{adds_refl, asked_adds}
use Rattle.pc_inline_state.proofs.StateLemmas.{converts_refl}
use Rattle.pc_inline_state.specs.Refused.{LacksRoomOr}
use Rattle.pc_inline_state.specs.Tables.{tables_of}
use Rattle.pc_inline_state.proofs.context.Context.func_type.Goals as goal

pub returns-in_err-convert_func_with-clause-err : goal.returns-in_err-convert_func_with-clause-err
returns-in_err-convert_func_with-clause-err c =
    type_lacks _ _ _ _ c.from_residual.ensures.1 (λ is. c.in_err-convert_func_with.ensures.bad (ap Err is))
    (λ is. (c.in_err-convert_func_with.ensures.full (ap Err is)).1.full)

pub returns-then-not-is_func_type-clause-converts : goal.returns-then-not-is_func_type-clause-converts
returns-then-not-is_func_type-clause-converts c = converts_refl c.args.self.now.table.now c.args.state.now
    c.args.converted.now

pub returns-then-not-is_func_type-clause-adds : goal.returns-then-not-is_func_type-clause-adds
returns-then-not-is_func_type-clause-adds c = adds_refl _ _ (tables_of c.args.state.now)

pub returns-then-not-is_func_type-clause-err : goal.returns-then-not-is_func_type-clause-err
unfolding LacksRoomOr
returns-then-not-is_func_type-clause-err c = (refl, sym c.is_func_type.ensures ∙ c.if-not-is_func_type.true)

pub returns-in_err-convert_func_with-clause-adds : goal.returns-in_err-convert_func_with-clause-adds
returns-in_err-convert_func_with-clause-adds c =
    asked_adds c.args.self.now.table.now (tables_of c.args.state.now) c.convert_func_with.new.self
    c.convert_func_with.ensures.grows c.args.ty c.requires.begun c.convert_func_with.ensures.few
    c.convert_func_with.ensures.adds

pub returns-clause-adds : goal.returns-clause-adds
returns-clause-adds c =
    asked_adds c.args.self.now.table.now (tables_of c.args.state.now) c.convert_func_with.new.self
    c.convert_func_with.ensures.grows c.args.ty c.requires.begun c.convert_func_with.ensures.few
    c.convert_func_with.ensures.adds
