use Rattle.std.proofs.Common.{nat_eq, sym, ap, ◌∙◌}
use Rattle.pc_inline_paths.specs.HeldPaths.{HeldPaths}
use Rattle.pc_inline_paths.proofs.InternLemmas.{as_many}
use Rattle.pc_inline_paths.proofs.paths.Paths.is_empty.Goals as goal

pub returns : goal.returns
returns c =
    ap (λ n. nat_eq n 0)
    (c.len.ensures
    ∙ sym (as_many c.self.inside.names.now c.self.inside.steps c.args.self.now.held
    (ap (λ (v : HeldPaths). v.held) c.self.view_is) c.self.invariant))
