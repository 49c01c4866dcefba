use Rattle.std.proofs.Common.{[], List, ◌∙◌, ap, sym, subst, length, replicate, arith}
use Rattle.pc_graph.specs.Noting.{number_in}
use Rattle.pc_graph.specs.declared.scc.Scc.{Scc}
use Rattle.pc_graph.proofs.EvaporationLemmas.{Done, evaporated, leads_within, notes_more, notes_none}
use Rattle.pc_graph.proofs.NotedLemmas.{Notes}
use Rattle.pc_graph.proofs.evaporation.rows_of.Goals as goal

pub loop-place-init : goal.loop-place-init
loop-place-init g c = λ d shows closed.
    let number_of = number_in g.Node.EntityRef.number c.args.numbers.now in
    let classes = c.args.components.now in
    let P : List (List Scc) → Type 0 = λ rows. Notes (length classes) (Done number_of d classes 0) rows in
    subst P (sym (c.in_ok-rows.ensures ∙ ap (λ n. replicate n []) c.len.ensures.value)) (notes_none number_of d classes)

pub note_component-requires : goal.note_component-requires
note_component-requires g c =
    let number_of = number_in g.Node.EntityRef.number c.args.numbers.now in
    let classes = c.args.components.now in
    let (d, shows, closed) = c.requires.closed in
    let size = (c.loop-place.invariant d shows closed).size in (
      d,
      shows,
      λ k there. (
          let within = leads_within number_of d classes c.requires.numbers closed c.loop-place.place k
          c.nodes.result.now c.nodes.ensures there in
          omega arith
          ),
    )

pub loop-place-preserved : goal.loop-place-preserved
loop-place-preserved g c = λ d shows closed.
    let number_of = number_in g.Node.EntityRef.number c.args.numbers.now in
    let classes = c.args.components.now in
    notes_more number_of d classes c.loop-place.place c.nodes.result.now c.loop-place.rows.items
    c.note_component.new.rows.items c.nodes.ensures
    (λ k. leads_within number_of d classes c.requires.numbers closed c.loop-place.place k c.nodes.result.now
    c.nodes.ensures)
    (c.in_ok-note_component.ensures d shows) (c.loop-place.invariant d shows closed)

pub returns : goal.returns
returns g c = λ d shows closed.
    let number_of = number_in g.Node.EntityRef.number c.args.numbers.now in
    evaporated number_of d c.args.components.now c.requires.numbers c.loop-place.rows.items c.loop-place.place closed
    (omega arith)
    (c.loop-place.invariant d shows closed)
