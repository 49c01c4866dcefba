use Rattle.std.proofs.Common.{◌∙◌, ap, arith, of_calls, rules, sym}
use Rattle.pc_types_lists.specs.Known.{resource_of}
use Rattle.pc_types_register.proofs.RegisterLemmas.{goes_ended, goes_found, goes_passed, goes_refused, goes_starved}
use Rattle.pc_types_register.proofs.RegisterLemmas.{goes_starved_as}
use Rattle.pc_types_register.proofs.RegisterLemmas.{goes_start, next_found, none_more, nothing, path_is, place_there}
use Rattle.pc_types_register.proofs.RegisterLemmas.{knows_so, something}
use Rattle.pc_types_register.proofs.register.register_entity.Goals as goal

pub returns-in_err-leads : goal.returns-in_err-leads
returns-in_err-leads g c =
    goes_starved g.F.FnMut c.args.find _ _ 0 c.args.find _ (goes_start g.F.FnMut c.args.find _ _) _
    c.from_residual.ensures.1

pub returns-in_err-walk : goal.returns-in_err-walk
returns-in_err-walk g c =
    goes_starved g.F.FnMut c.args.find _ _ 0 c.args.find _ (goes_start g.F.FnMut c.args.find _ _) _
    c.from_residual-in_err-walk.ensures.1

pub loop-found-preserved-then-is_some : goal.loop-found-preserved-then-is_some
loop-found-preserved-then-is_some g c =
    let next = next_found c.args.table.now _ _ c.in_ok-walk.ensures _ c.as_slice-found-items.ensures
    c.loop-found.found-index (record { number = 0; place = 0 }) (omega (arith, c.loop-found-test.true)) in
    let known = something _ (sym c.is_some.ensures ∙ c.if-is_some.true) in
    record {
      callable = c.loop-found.invariant.callable;
      goes = goes_passed g.F.FnMut c.args.find _ _ c.loop-found.found-index c.loop-found.find c.loop-found.resources
          c.loop-found.invariant.goes next.0 next.1 known.0
          (ap (resource_of c.loop-found.resources.known) (sym next.2.0) ∙ sym c.lookup.ensures ∙ known.1);
    }

pub path_to-requires-clause-there : goal.path_to-requires-clause-there
path_to-requires-clause-there g c =
    let next = next_found c.args.table.now _ _ c.in_ok-walk.ensures _ c.as_slice-found-items.ensures
    c.loop-found.found-index (record { number = 0; place = 0 }) (omega (arith, c.loop-found-test.true)) in
    place_there c.args.table.now _ _ c.in_ok-walk.ensures _ next.0 next.2 _ c.as_slice.ensures

pub returns-in_err-path : goal.returns-in_err-path
returns-in_err-path g c =
    goes_starved g.F.FnMut c.args.find _ _ c.loop-found.found-index c.loop-found.find _ c.loop-found.invariant.goes _
    c.from_residual-in_err-path.ensures.1

pub returns-in_err-register_resource-in-Ok : goal.returns-in_err-register_resource-in-Ok
returns-in_err-register_resource-in-Ok g c =
    goes_starved_as g.F.FnMut c.args.find _ _ c.loop-found.found-index c.loop-found.find _ c.loop-found.invariant.goes
    _ c.in_err-register_resource-in-Ok.ensures.err _ c.from_residual-in_err-register_resource-in-Ok.ensures.1

pub returns-in-Err : goal.returns-in-Err
returns-in-Err g c =
    let next = next_found c.args.table.now _ _ c.in_ok-walk.ensures _ c.as_slice-found-items.ensures
    c.loop-found.found-index (record { number = 0; place = 0 }) (omega (arith, c.loop-found-test.true)) in
    let none = nothing _ (sym c.is_some.ensures ∙ c.if-is_some.false) in
    goes_refused g.F.FnMut c.args.find _ _ c.loop-found.found-index c.loop-found.find c.loop-found.resources
    c.loop-found.invariant.goes next.0 next.1 c.in-Err.refused c.find.new.self
    (ap (resource_of c.loop-found.resources.known) (sym next.2.0) ∙ sym c.lookup.ensures ∙ none)
    (record {
      shown = c.as_slice-in-loop-found.result;
      shows = c.as_slice-in-loop-found.ensures.value
          ∙ path_is c.args.table.now _ _ c.in_ok-walk.ensures _ next.0 next.2 _ c.as_slice.ensures
          c.in_ok-path.path.items c.in_ok-path.ensures;
      called = c.in-Err.ensures;
    })

pub loop-found-preserved : goal.loop-found-preserved
loop-found-preserved g c =
    let next = next_found c.args.table.now _ _ c.in_ok-walk.ensures _ c.as_slice-found-items.ensures
    c.loop-found.found-index (record { number = 0; place = 0 }) (omega (arith, c.loop-found-test.true)) in
    let none = nothing _ (sym c.is_some.ensures ∙ c.if-is_some.false) in
    record {
      callable = search (of_calls, rules);
      goes = goes_found g.F.FnMut c.args.find _ _ c.loop-found.found-index c.loop-found.find c.loop-found.resources
          c.loop-found.invariant.goes next.0 next.1 c.in-Ok.resource c.find.new.self c.register_resource.new.self
          (ap (resource_of c.loop-found.resources.known) (sym next.2.0) ∙ sym c.lookup.ensures ∙ none)
          (record {
            shown = c.as_slice-in-loop-found.result;
            shows = c.as_slice-in-loop-found.ensures.value
                ∙ path_is c.args.table.now _ _ c.in_ok-walk.ensures _ next.0 next.2 _ c.as_slice.ensures
                c.in_ok-path.path.items c.in_ok-path.ensures;
            called = c.in-Ok.ensures;
          })
          (knows_so _ _ _ c.in-Ok.resource _ next.2.0 c.in_ok-register_resource-in-Ok.ensures.ok
          c.register_resource.ensures.current);
    }

pub returns : goal.returns
returns g c =
    goes_ended g.F.FnMut c.args.find _ _ c.loop-found.found-index c.loop-found.find _ c.loop-found.invariant.goes
    (none_more c.args.table.now _ _ c.in_ok-walk.ensures _ c.as_slice-found-items.ensures c.loop-found.found-index
    (omega (arith, c.loop-found-test.false)))
