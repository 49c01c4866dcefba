use Rattle.std.proofs.Common.{Some, ◌∙◌, ap, sym, length, slice_get, slice_range, arith}
use Rattle.pc_graph.specs.Classes.{start_of}
use Rattle.pc_graph.proofs.PartLemmas.{cut_between, length-cut}
use Rattle.pc_graph.proofs.scc.StronglyConnectedComponents.nodes.Goals as goal

pub start_at-start-requires : goal.start_at-start-requires
start_at-start-requires g c =
    let size = length-cut 0 c.self.inside.nodes.items c.self.inside.ends.items in
    let seen = ap length c.self.view_is in
    let ends = ap length c.as_slice.ensures.value in
    omega arith

pub index-end-requires : goal.index-end-requires
index-end-requires g c =
    let size = length-cut 0 c.self.inside.nodes.items c.self.inside.ends.items in
    let seen = ap length c.self.view_is in
    omega arith

pub part-requires : goal.part-requires
part-requires g c =
    let k = c.args.component.0 in
    let nodes = c.self.inside.nodes.items in
    let ends = c.self.inside.ends.items in
    let size = length-cut 0 nodes ends in
    let seen = ap length c.self.view_is in
    let (at, ordered, within) = cut_between nodes ends (length nodes) k c.start_at-start.result c.index-end.result.now
    c.self.invariant.0 (omega arith) (c.start_at-start.ensures ∙ ap (λ es. start_of es k) c.as_slice.ensures.value)
    c.index-end.ensures in
    let whole = ap length c.as_slice-2.ensures.value in
    record { ordered = ordered; within = omega arith }

pub returns : goal.returns
returns g c =
    let k = c.args.component.0 in
    let nodes = c.self.inside.nodes.items in
    let ends = c.self.inside.ends.items in
    let size = length-cut 0 nodes ends in
    let seen = ap length c.self.view_is in
    let found = cut_between nodes ends (length nodes) k c.start_at-start.result c.index-end.result.now
    c.self.invariant.0 (omega arith) (c.start_at-start.ensures ∙ ap (λ es. start_of es k) c.as_slice.ensures.value)
    c.index-end.ensures in
    ap (λ cs. slice_get cs k) (sym c.self.view_is) ∙ found.0
    ∙ ap (λ ns. Some (slice_range ns c.start_at-start.result c.index-end.result.now)) (sym c.as_slice-2.ensures.value)
    ∙ ap Some (sym c.part.ensures)
