use Rattle.std.proofs.Common.{sym, ap, ◌∙◌, arith}
use Rattle.pc_inline_paths.specs.HeldPaths.{HeldPaths}
use Rattle.pc_inline_paths.proofs.InternLemmas.{as_many}
use Rattle.pc_inline_paths.proofs.paths.Paths.len.Goals as goal

pub returns-clause-value : goal.returns-clause-value
returns-clause-value c =
    c.len.ensures
    ∙ sym (as_many c.self.inside.names.now c.self.inside.steps c.args.self.now.held
    (ap (λ (v : HeldPaths). v.held) c.self.view_is) c.self.invariant)

pub returns-clause-bound : goal.returns-clause-bound
returns-clause-bound c =
    omega (
      arith,
      c.self.invariant.few,
      as_many c.self.inside.names.now c.self.inside.steps c.args.self.now.held
          (ap (λ (v : HeldPaths). v.held) c.self.view_is) c.self.invariant,
    )
