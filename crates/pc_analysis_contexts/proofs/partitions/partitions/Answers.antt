use Rattle.std.proofs.Common.{◌≡◌, length, refl, sym, ap, subst, ◌∙◌, arith}
use Rattle.std.specs.Prelude.{Some, slice_get}
use Rattle.std.proofs.lemmas.Option.{slice_get_read, slice_get_within}
use Rattle.pc_entity.proofs.LookupLemmas.{found_at}
use Rattle.pc_analysis_contexts.specs.Cores.{graph_cores}
use Rattle.pc_analysis_contexts.specs.Homes.{AreAllMade, IsMade}
use Rattle.pc_analysis_contexts.specs.Indexed.{AreIndexes}
use Rattle.pc_analysis_contexts.specs.Recorded.{records_of}
use Rattle.pc_analysis_contexts.specs.Shared.{ArePartitionsTo}
use Rattle.pc_analysis_contexts.proofs.PartitionLemmas.{one_more}
use Rattle.pc_analysis_contexts.proofs.partitions.partitions.Goals as goal

pub loop-made-preserved : goal.loop-made-preserved
loop-made-preserved c =
    let g = c.args.graph.now in
    let rs = records_of c.args.modules.now in
    let k = c.loop-made.made-index in
    let xs = c.as_slice-made-items.result.now in
    let x = c.made-item.result in
    let known = c.in_ok-known.known.items in
    let made_at : slice_get known k ≡ Some x =
    sym (ap (λ ys. slice_get ys k) c.as_slice-made-items.ensures.value)
    ∙ slice_get_read xs (length xs) k x refl c.loop-made-test.true c.made-item.is in
    let first : AreIndexes rs c.as_slice.result.now =
    subst (AreIndexes rs) (sym c.as_slice.ensures.value) c.in_ok-indexes.ensures.all in
    let second : AreIndexes rs c.as_slice-in-loop-made.result.now =
    subst (AreIndexes rs) (sym c.as_slice-in-loop-made.ensures.value) c.in_ok-indexes.ensures.all in
    let are : AreAllMade g rs known = c.in_ok-known.ensures rs first c.requires.defined in
    let core = found_at (graph_cores g rs) k (omega (arith, are.count, slice_get_within known k x made_at)) in
    let is : IsMade g rs core.0 x = are.each k core.0 x core.1 made_at in
    one_more g rs c.as_slice-in-loop-made.result.now k core.0 x c.loop-made.partitions.items
    c.refine.new.partitions.items second core.1 is c.in_ok-refine.ensures c.loop-made.invariant

pub returns : goal.returns
returns c =
    let g = c.args.graph.now in
    let rs = records_of c.args.modules.now in
    let first : AreIndexes rs c.as_slice.result.now =
    subst (AreIndexes rs) (sym c.as_slice.ensures.value) c.in_ok-indexes.ensures.all in
    let are : AreAllMade g rs c.in_ok-known.known.items = c.in_ok-known.ensures rs first c.requires.defined in
    let all : c.loop-made.made-index ≡ length (graph_cores g rs) =
    omega (
      arith,
      c.loop-made-test.false,
      c.loop-made.auto.made-index-end,
      are.count,
      ap length c.as_slice-made-items.ensures.value,
    ) in
    subst (λ n. ArePartitionsTo g rs n c.loop-made.partitions.items) all c.loop-made.invariant
