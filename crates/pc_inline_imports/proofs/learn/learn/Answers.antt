use Rattle.std.proofs.Common.{ap, arith, length, refl, subst, sym, ◌∙◌, ◌+◌}
use Rattle.std.specs.Prelude.{filter}
use Rattle.pc_inline_state.proofs.AddsLemmas.{adds_weaken}
use Rattle.pc_inline_state.proofs.RefusedLemmas.{memory_lacks}
use Rattle.pc_inline_imports.specs.Learns.{IsRegistered, is_free}
use Rattle.pc_inline_imports.proofs.LearnLemmas.{learns_adds, learns_all, learns_keep, registers_add, registers_keep}
use Rattle.pc_types_walk.specs.Walks.{AreNamed}
use Rattle.pc_inline_imports.specs.Brings.{AllBelow}
use Rattle.pc_inline_imports.specs.Trims.{AreBehind, Trims}
use Rattle.pc_inline_imports.proofs.LearnLemmas.{registers_same, walk_behind, walk_below}
use Rattle.pc_inline_imports.proofs.learn.learn.Goals as goal

pub returns-in_err-walk-clause-err : goal.returns-in_err-walk-clause-err
returns-in_err-walk-clause-err c = memory_lacks _ _ c.from_residual.ensures.1

pub returns-in_err-found-clause-err : goal.returns-in_err-found-clause-err
returns-in_err-found-clause-err c = memory_lacks _ _ c.from_residual-in_err-found.ensures.1

pub returns-in_err-register_all-clause-keeps : goal.returns-in_err-register_all-clause-keeps
returns-in_err-register_all-clause-keeps c = registers_keep _ _ _ _ _ c.register_all.ensures.registers

pub returns-in_err-register_all-clause-adds : goal.returns-in_err-register_all-clause-adds
returns-in_err-register_all-clause-adds c =
    adds_weaken _ 0 _ _ _ (omega arith) (registers_add _ _ _ _ _ c.register_all.ensures.registers)

pub returns-in_err-register_all-clause-same : goal.returns-in_err-register_all-clause-same
returns-in_err-register_all-clause-same c = registers_same _ _ _ _ _ c.register_all.ensures.registers

pub returns-in_err-ty-clause-keeps : goal.returns-in_err-ty-clause-keeps
returns-in_err-ty-clause-keeps c =
    learns_keep _ c.args.context.now.modules c.args.entity _ _ _ _ c.register_all.ensures.registers _ _
    c.entity_type.ensures.converts

pub returns-in_err-ty-clause-adds : goal.returns-in_err-ty-clause-adds
returns-in_err-ty-clause-adds c =
    learns_adds _ c.args.context.now.modules c.args.entity _ _ _ _ c.register_all.ensures.registers _ _
    c.entity_type.ensures.converts c.entity_type.ensures.adds

pub returns-in_err-ty-clause-same : goal.returns-in_err-ty-clause-same
returns-in_err-ty-clause-same c = registers_same _ _ _ _ _ c.register_all.ensures.registers

pub returns-clause-keeps : goal.returns-clause-keeps
returns-clause-keeps c =
    learns_keep _ c.args.context.now.modules c.args.entity _ _ _ _ c.register_all.ensures.registers _ _
    c.entity_type.ensures.converts

pub returns-clause-adds : goal.returns-clause-adds
returns-clause-adds c =
    learns_adds _ c.args.context.now.modules c.args.entity _ _ _ _ c.register_all.ensures.registers _ _
    c.entity_type.ensures.converts c.entity_type.ensures.adds

pub returns-clause-same : goal.returns-clause-same
returns-clause-same c = registers_same _ _ _ _ _ c.register_all.ensures.registers

pub trim-requires-clause-behind : goal.trim-requires-clause-behind
trim-requires-clause-behind c =
    subst AreBehind (sym c.as_slice-2.ensures)
    (walk_behind c.args.context.now.table.now c.in_ok-walk.walk _ c.in_ok-walk.ensures)

pub trim-requires-clause-below : goal.trim-requires-clause-below
trim-requires-clause-below c =
    let known = c.args.state.now.types.resources.known in
    subst (AllBelow (length c.as_slice-2.result.now + 1)) (sym c.as_slice-3.ensures)
    (walk_below c.args.context.now.table.now c.in_ok-walk.walk _ c.in_ok-walk.ensures (is_free known)
    c.in_ok-found.found (c.in_ok-found.ensures ∙ ap (filter (is_free known)) c.as_slice.ensures)
    c.as_slice-2.result.now c.as_slice-2.ensures)

pub returns-clause-learns : goal.returns-clause-learns
returns-clause-learns c =
    let t = c.args.context.now.table.now in
    let known = c.args.state.now.types.resources.known in
    let known_so = c.in_ok-register_all.ensures.known in
    let walked = c.in_ok-walk.ensures in
    let trimmed = subst (λ fs. Trims t walked.names fs c.in_ok-trimmed.trimmed.places c.in_ok-trimmed.trimmed.found)
    c.as_slice-3.ensures
    (c.in_ok-trimmed.ensures t walked.names
    (subst (λ ps. AreNamed t ps walked.names) (sym c.as_slice-2.ensures) walked.named)) in
    learns_all _ _ _ _ _ _ _ c.register_all.ensures.registers _ _ c.entity_type.ensures.converts c.in_ok-walk.walk
    walked c.in_ok-found.found (c.in_ok-found.ensures ∙ ap (filter (is_free known)) c.as_slice.ensures)
    c.in_ok-trimmed.trimmed.places c.in_ok-trimmed.trimmed.found trimmed
    (subst (λ n. IsRegistered n c.in_ok-trimmed.trimmed.found c.args.state.now c.register_all.new.state)
    c.len-first.ensures
    (subst (λ xs. IsRegistered c.len-first.result xs c.args.state.now c.register_all.new.state) c.as_slice-4.ensures
    known_so))
    c.entity_type.ensures.adds _ c.in_ok-ty.ensures.is _ refl

pub returns-in_err-trimmed-clause-err : goal.returns-in_err-trimmed-clause-err
returns-in_err-trimmed-clause-err c = memory_lacks _ _ c.from_residual-in_err-trimmed.ensures.1
