use Rattle.std.proofs.Common.{◌∙◌, ap, Some, if◌then◌else◌, ◌==◌}
use Rattle.pc_types_lists.specs.Known.{resource_of}
use Rattle.pc_types_lists.proofs.KnownLemmas.{resource_of-put}
use Rattle.pc_types_lists.proofs.resources.ResourcesBuilder.register_resource.Goals as goal

pub returns-clause-ok : goal.returns-clause-ok
returns-clause-ok c q =
    resource_of-put c.self.inside.known c.insert.new.self c.args.n (Some c.args.r) c.in_ok-insert.ensures.updates q
    ∙ ap (λ r. if q == c.args.n then Some c.args.r else resource_of r.known q) c.self.view_is
