use Rattle.std.proofs.Common.{Err, refl, ap, ◌∙◌, arith}
use Rattle.pc_inline_state.specs.Tables.{tables_of}
use Rattle.pc_inline_resources.proofs.DeclareLemmas.{declared_adds, declared_keeps, declared_lacks, declares_by}
use Rattle.pc_inline_resources.proofs.DeclareLemmas.{resources_full}
use Rattle.pc_inline_resources.proofs.declare.declare.Goals as goal

pub returns-then-is_full-clause-lacks : goal.returns-then-is_full-clause-lacks
returns-then-is_full-clause-lacks c = resources_full _ (c.is_full.ensures.full c.if-is_full.true)

pub returns-in_err-defined-clause-adds : goal.returns-in_err-defined-clause-adds
returns-in_err-defined-clause-adds c =
    declared_adds (tables_of c.args.state.now) c.args.resource c.push_resource.new.self
    (declares_by c.push_resource.result _ _ _ c.push_resource.ensures.ok c.push_resource.ensures.err)

pub returns-in_err-defined-clause-lacks : goal.returns-in_err-defined-clause-lacks
returns-in_err-defined-clause-lacks c =
    let room = c.is_full.ensures.room c.if-is_full.false in
    declared_lacks c.from_residual.result _ c.args.state.now.graph _ c.from_residual.ensures.1
    (λ many. c.push_resource.ensures.full.0 (c.in_err-defined.was ∙ ap Err many)) (omega (arith, room))

pub returns-clause-keeps : goal.returns-clause-keeps
returns-clause-keeps c =
    declared_keeps c.args.resource _ _
    (declares_by c.push_resource.result _ _ _ c.push_resource.ensures.ok c.push_resource.ensures.err)
    c.args.state.now refl c.push_resource.ensures.grows

pub returns-clause-adds : goal.returns-clause-adds
returns-clause-adds c =
    declared_adds (tables_of c.args.state.now) c.args.resource c.push_resource.new.self
    (declares_by c.push_resource.result _ _ _ c.push_resource.ensures.ok c.push_resource.ensures.err)
