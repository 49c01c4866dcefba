use Rattle.std.proofs.Common.{◌≡◌, ℕ, length, refl, sym, subst, ◌∙◌, ap, arith, length-append}
use Rattle.std.specs.Prelude.{Some, slice_get}
use Rattle.std.proofs.lemmas.Option.{slice_get_read}
use Rattle.pc_dfg.specs.Names.{in_adapter}
use Rattle.pc_adapt_groups.specs.Needs.{Needs}
use Rattle.pc_adapt_groups.specs.Needed.{IsNeeded}
use Rattle.pc_adapt_groups.specs.Reaches.{Gives, IsReach, IsTop}
use Rattle.pc_adapt_groups.proofs.NeedLemmas.{needs_top}
use Rattle.pc_adapt_groups.proofs.StepLemmas.{adapter_held, adapter_reach, instances_there, places_more}
use Rattle.pc_adapt_groups.proofs.needed.needed.Goals as goal

pub needed_for-requires : goal.needed_for-requires
needed_for-requires c =
    let g = c.args.graph.now in
    let o = c.requires.ordered in
    let k = c.loop-adapter.adapter-index in
    let xs = c.as_slice-adapter-items.result.now in
    let x = c.adapter-item.result in
    let r = c.of_adapter-reach.result in
    let at : slice_get g.adapters k ≡ Some x =
    sym (ap (λ ys. slice_get ys k) c.as_slice-adapter-items.ensures.values)
    ∙ slice_get_read xs (length xs) k x refl c.loop-adapter-test.true c.adapter-item.is in
    let reach : IsReach g (in_adapter x) r =
    adapter_reach g o c.in_ok-reaches.reaches.items k x r c.in_ok-reaches.ensures.known c.in_ok-reaches.ensures.all
    at (subst (λ ys. Gives ys (in_adapter x) r) c.deref-in-loop-adapter.ensures.value c.of_adapter-reach.ensures) in
    let few = instances_there g o (in_adapter x) r (adapter_held g o.held k x at) reach in
    record { there = omega (arith, few, c.in_ok-uses.ensures.all, ap length c.deref-in-loop-adapter-2.ensures.value) }

pub loop-adapter-preserved : goal.loop-adapter-preserved
loop-adapter-preserved c =
    let g = c.args.graph.now in
    let o = c.requires.ordered in
    let k = c.loop-adapter.adapter-index in
    let xs = c.as_slice-adapter-items.result.now in
    let x = c.adapter-item.result in
    let r = c.of_adapter-reach.result in
    let ns = c.loop-adapter.needed.items in
    let at : slice_get g.adapters k ≡ Some x =
    sym (ap (λ ys. slice_get ys k) c.as_slice-adapter-items.ensures.values)
    ∙ slice_get_read xs (length xs) k x refl c.loop-adapter-test.true c.adapter-item.is in
    let reach : IsReach g (in_adapter x) r =
    adapter_reach g o c.in_ok-reaches.reaches.items k x r c.in_ok-reaches.ensures.known c.in_ok-reaches.ensures.all
    at (subst (λ ys. Gives ys (in_adapter x) r) c.deref-in-loop-adapter.ensures.value c.of_adapter-reach.ensures) in
    let needs : IsNeeded r c.in_ok-uses.uses.items c.needed_for.result =
    subst (λ us. IsNeeded r us c.needed_for.result) c.deref-in-loop-adapter-2.ensures.value c.needed_for.ensures in
    let top = needs_top g k x at r c.in_ok-uses.uses.items c.needed_for.result reach c.in_ok-uses.ensures.known needs in
    record {
      tops = subst (λ ys. (a m : ℕ) → slice_get ys a ≡ Some m → IsTop (Needs g a) m) (sym c.in_ok-push.ensures.items)
          (places_more (λ a m. IsTop (Needs g a) m) ns c.needed_for.result k c.loop-adapter.invariant.tops
          c.loop-adapter.invariant.all top);
      all = ap length c.in_ok-push.ensures.items ∙ length-append ns _ ∙ omega (arith, c.loop-adapter.invariant.all);
    }
