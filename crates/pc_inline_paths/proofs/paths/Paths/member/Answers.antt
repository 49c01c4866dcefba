use Rattle.std.proofs.Common.{Contains, OnErr, subst}
use Rattle.pc_inline_paths.proofs.StepLemmas.{goes_further}
use Rattle.pc_inline_paths.proofs.paths.Paths.member.Goals as goal

pub returns-clause-absent : goal.returns-clause-absent
returns-clause-absent c p name at named =
    subst (λ path. OnErr c.intern.result (¬ Contains c.args.self.now.held path))
    (goes_further c.args.self.now.names c.args.self.now.held c.args.parent c.args.number p name at named)
    c.intern.ensures.absent
