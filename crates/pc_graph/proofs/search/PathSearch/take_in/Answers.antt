use Rattle.std.proofs.Common.{sym, subst, OnOk}
use Rattle.pc_graph.specs.Searching.{Search, StandsFor, Turns}
use Rattle.pc_graph.proofs.search.PathSearch.take_in.Goals as goal

pub returns-in-Post : goal.returns-in-Post
returns-in-Post g c = λ s stands.
    subst (λ e. OnOk c.leave.result ((t : Search g.row.Node.Denot) × Turns s e t
    × StandsFor g.Node.EntityRef.number c.leave.new.self t))
    (sym c.in-Post.is) (c.leave.ensures s stands)
