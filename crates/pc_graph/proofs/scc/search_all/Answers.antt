use Rattle.std.proofs.Common.{◌≡◌, ◌^◌, ◌++◌, ◌∙◌, ap, subst}
use Rattle.pc_graph.specs.Tour.{IsTour}
use Rattle.pc_graph.proofs.SearchLemmas.{Going, can_take, going_from, none_left, take_ends, take_falls, take_on}
use Rattle.pc_graph.proofs.scc.search_all.Goals as goal

pub events-init : goal.events-init
events-init g c = λ d shows.
    let Node = g.row.Node.Denot in
    let roots : c.as_slice.result.now ≡ d.nodes =
    c.as_slice.ensures.value ∙ c.in_ok-nodes.ensures.ok d shows ∙ ap (λ ns. ns ++ d.nodes) c.new-roots.ensures.items in
    going_from g.Node.EntityRef.number d c.in_ok-dfs.dfs c.new-search.result c.new-search.ensures
    (λ rest later more. subst (λ ns. IsTour d ns rest later) roots (c.in_ok-dfs.ensures.tour d rest later more))

pub turn-requires : goal.turn-requires
turn-requires g c =
    let (d, shows) = c.requires in
    can_take g.Node.EntityRef.number d c.events.dfs c.next.new.self c.events.search c.in_ok-event.field-0
    (c.in_ok-event.ensures.step d shows) c.in-Some.event c.in-Some.is

pub events-preserved : goal.events-preserved
events-preserved g c = λ d shows.
    let going : Going g.Node.EntityRef.number d c.events.dfs c.events.search = c.events.invariant d shows in
    take_on g.Node.EntityRef.number d c.events.dfs c.next.new.self c.events.search c.in_ok-event.field-0
    (c.in_ok-event.ensures.step d shows) going (c.in_ok-event.ensures.tour d going.met shows) c.turn.new.self
    c.in-Some.event c.in-Some.is (c.in_ok-turn.ensures.ok going.search going.stands)

pub events-smaller : goal.events-smaller
events-smaller g c =
    let (d, shows) = c.requires in
    let going : Going g.Node.EntityRef.number d c.events.dfs c.events.search = c.events.invariant d shows in
    take_falls g.Node.EntityRef.number d c.events.dfs c.next.new.self c.events.search c.in_ok-event.field-0
    (c.in_ok-event.ensures.step d shows) going (c.in_ok-event.ensures.tour d going.met shows) (2 ^ 64) (2 ^ 63)
    c.turn.new.self c.in-Some.event c.in-Some.is (c.in_ok-turn.ensures.ok going.search going.stands)
    c.in_ok-turn.ensures.small c.in_ok-event.ensures.small

pub returns : goal.returns
returns g c = λ d shows.
    let going : Going g.Node.EntityRef.number d c.events.dfs c.events.search = c.events.invariant d shows in
    take_ends g.Node.EntityRef.number d c.events.dfs c.next.new.self c.events.search c.in_ok-event.field-0
    (c.in_ok-event.ensures.step d shows) going (c.in_ok-event.ensures.tour d going.met shows)
    (none_left c.in_ok-event.field-0 c.in_default.not-Some)
