use Rattle.std.proofs.Common.{ap, sym, ◌∙◌}
use Rattle.pc_types_lists.specs.Known.{resource_of}
use Rattle.pc_types_lists.specs.Types.{Resources}
use Rattle.pc_types_convert.proofs.KindAdds.{handles_none, handles_some, resource_copied}
use Rattle.pc_types_convert.proofs.extern_type.handles.Goals as goal

pub returns-in-Some-clause-adds : goal.returns-in-Some-clause-adds
returns-in-Some-clause-adds c =
    resource_copied _ _ c.args.n _
    (handles_some _ c.args.n _ _
    (sym (c.lookup.ensures ∙ ap (λ (r : Resources). resource_of r.known c.args.n) c.resources-2.ensures) ∙ c.in-Some.is)
    (c.current_instance-instance.ensures ∙ ap (λ (r : Resources). r.current) c.resources.ensures))
    c.put_resource_table.ensures.rest c.put_resource_table.ensures.put

pub returns-in-None-clause-adds : goal.returns-in-None-clause-adds
returns-in-None-clause-adds c =
    resource_copied _ _ c.args.n _
    (handles_none _ c.args.n
    (sym (c.lookup.ensures ∙ ap (λ (r : Resources). resource_of r.known c.args.n) c.resources-2.ensures) ∙ c.in-None.is))
    c.put_resource_table-in-None.ensures.rest c.put_resource_table-in-None.ensures.put
