use Rattle.std.proofs.Common.{refl}
use Rattle.std.proofs.lemmas.Option.{slice_get-get_or}
use Rattle.pc_dfg.specs.Lists as list
use Rattle.pc_inline_state.specs.Tables.{tables_of}
use Rattle.pc_inline_canon.proofs.RoomLemmas.{list_lacks}
use Rattle.pc_inline_imports.proofs.BringLemmas.{brings_one, brought_none, brought_one, brought_pushed, path_held}
use Rattle.pc_inline_imports.proofs.BringLemmas.{resource_keeps}
use Rattle.pc_inline_imports.proofs.bring.bring_one.Goals as goal

pub returns-in_err-push_imported_resource-clause-err : goal.returns-in_err-push_imported_resource-clause-err
returns-in_err-push_imported_resource-clause-err c =
    list_lacks list.imported_resources c.use_host.new.state _ c.push_imported_resource.ensures.grows _ _
    c.in_err-push_imported_resource.was c.push_imported_resource.ensures.full.0 _
    c.from_residual-in_err-push_imported_resource.ensures.1

pub returns-clause-keeps : goal.returns-clause-keeps
returns-clause-keeps c =
    resource_keeps c.args.context.now.table.now c.args.context.now.modules c.args.state.now c.use_host.new.state
    c.requires.sound c.requires.undeclared c.use_host.ensures.rest c.push_imported_resource.new.self
    c.push_imported_resource.ensures.grows c.push_imported_resource.ensures.rest c.use_host.ensures.keeps

pub returns-in_err-push_imported_resource-clause-keeps : goal.returns-in_err-push_imported_resource-clause-keeps
returns-in_err-push_imported_resource-clause-keeps c =
    resource_keeps c.args.context.now.table.now c.args.context.now.modules c.args.state.now c.use_host.new.state
    c.requires.sound c.requires.undeclared c.use_host.ensures.rest c.push_imported_resource.new.self
    c.push_imported_resource.ensures.grows c.push_imported_resource.ensures.rest c.use_host.ensures.keeps

pub returns-in_err-host-clause-adds : goal.returns-in_err-host-clause-adds
returns-in_err-host-clause-adds c = brought_none _ _ c.use_host.ensures.adds

pub returns-clause-adds : goal.returns-clause-adds
returns-clause-adds c =
    let p = c.push_imported_resource.ensures in
    brought_one (tables_of c.args.state.now) (tables_of c.use_host.new.state) _ c.use_host.ensures.adds
    c.push_imported_resource.new.self p.rest
    (brought_pushed c.use_host.new.state.graph c.push_imported_resource.new.self c.push_imported_resource.result _ p.ok
    p.err) refl

pub returns-in_err-push_imported_resource-clause-adds : goal.returns-in_err-push_imported_resource-clause-adds
returns-in_err-push_imported_resource-clause-adds c =
    let p = c.push_imported_resource.ensures in
    brought_one (tables_of c.args.state.now) (tables_of c.use_host.new.state) _ c.use_host.ensures.adds
    c.push_imported_resource.new.self p.rest
    (brought_pushed c.use_host.new.state.graph c.push_imported_resource.new.self c.push_imported_resource.result _ p.ok
    p.err) refl

pub returns-clause-brings : goal.returns-clause-brings
returns-clause-brings c =
    let at = slice_get-get_or c.args.paths.now c.args.found.now.place _ c.requires.there in
    let held = path_held c.args.paths.now c.args.state.now.paths.held c.args.found.now _ at
    (c.requires.held c.args.found.now.place _ at) in
    brings_one c.args.context.now.table.now c.args.context.now.modules c.args.state.now c.use_host.new.state
    c.requires.sound c.requires.undeclared c.use_host.ensures.rest c.push_imported_resource.new.self
    c.push_imported_resource.ensures.grows c.push_imported_resource.ensures.rest _ c.in_ok-host.host (c.in_ok-host.ensures.uses _ held)
    c.in_ok-push_imported_resource.ensures.ok c.push_imported_resource.ensures.ordered
