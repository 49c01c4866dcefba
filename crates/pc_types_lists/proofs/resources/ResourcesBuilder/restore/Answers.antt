use Rattle.std.proofs.Common.{◌∙◌, ap, sym, Some, None, if◌then◌else◌, ◌==◌}
use Rattle.pc_types_lists.specs.Known.{resource_of}
use Rattle.pc_types_lists.proofs.KnownLemmas.{resource_of-put}
use Rattle.pc_types_lists.proofs.resources.ResourcesBuilder.restore.Goals as goal

pub returns-in_ok-insert-in-Some-clause-ok : goal.returns-in_ok-insert-in-Some-clause-ok
returns-in_ok-insert-in-Some-clause-ok c q =
    resource_of-put c.self.inside.known c.insert.new.self c.args.n (Some c.in-Some.r)
    c.in_ok-insert-in-Some.ensures.updates q
    ∙ ap (λ k. if q == c.args.n then Some c.in-Some.r else resource_of k.known q) c.self.view_is
    ∙ ap (λ x. if q == c.args.n then x else resource_of c.args.self.now.known q) (sym c.in-Some.is)

pub returns-in-None-clause-ok : goal.returns-in-None-clause-ok
returns-in-None-clause-ok c q =
    resource_of-put c.self.inside.known c.remove.new.self c.args.n None c.remove.ensures.updates q
    ∙ ap (λ k. if q == c.args.n then None else resource_of k.known q) c.self.view_is
    ∙ ap (λ x. if q == c.args.n then x else resource_of c.args.self.now.known q) (sym c.in-None.is)
