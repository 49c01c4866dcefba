use Rattle.std.proofs.Common.{ℕ, Bool, List, [], Option, ap, ◌∙◌}
use Rattle.std.specs.List.{list_any}
use Rattle.pc_types.specs.declared.parsed.DeclType.{DeclType}
use Rattle.pc_types.specs.declared.parsed.Entity.{Entity}
use Rattle.pc_types.specs.declared.parsed.PrimType.{PrimType}
use Rattle.pc_parsed.specs.Interface.{intrinsics_fault, leads_to_resource, prims_from, unless_resource}
use Rattle.pc_parsed.proofs.interface.exports_fault.Goals as goal

pub returns : goal.returns
returns c =
    let t = c.args.table.now in
    let exports = c.args.exports.now in
    let leads =
    c.lead_to_resource-leads.ensures
    ∙ ap (λ (earlier : List Bool). list_any (λ (e : List ℕ × Entity). leads_to_resource t earlier e.1) exports)
    (c.as_slice-2.ensures ∙ c.in_ok-earlier.ensures) in
    let rest =
    c.intrinsics_fault.ensures
    ∙ ap (λ (ps : List (Option PrimType)). intrinsics_fault t ps exports)
    (c.as_slice-3.ensures ∙ c.in_ok-prims.ensures
    ∙ ap (λ (types : List DeclType). prims_from [] types) c.as_slice.ensures) in
    c.unless_resource.ensures ∙ (λ i. unless_resource (leads i) (rest i))
