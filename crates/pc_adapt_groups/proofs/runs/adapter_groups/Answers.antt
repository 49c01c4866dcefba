use Rattle.std.proofs.Common.{length, sym, subst}
use Rattle.pc_adapt_groups.specs.Lengths.{AreLower, Reaches, runs_from}
use Rattle.pc_adapt_groups.specs.Needs.{Needs}
use Rattle.pc_spec_adapt.specs.Split.{IsFewest}
use Rattle.pc_adapt_groups.proofs.NeedLemmas.{needs_lower, lower, fewest}
use Rattle.pc_adapt_groups.proofs.StepLemmas.{run_below}
use Rattle.pc_adapt_groups.proofs.runs.adapter_groups.Goals as goal

pub fewest_runs-requires : goal.fewest_runs-requires
fewest_runs-requires c =
    let g = c.args.graph.now in
    record {
      lower = subst AreLower (sym c.deref.ensures.value)
          (lower (Needs g) c.in_ok-needed.needed.items c.in_ok-needed.ensures.tops (needs_lower g c.requires.ordered));
    }

pub returns : goal.returns
returns c =
    let g = c.args.graph.now in
    let ns = c.in_ok-needed.needed.items in
    let runs = runs_from 0 c.in_ok-lengths.lengths.items in
    let least : IsFewest (Reaches ns) (length ns) runs =
    subst (λ xs. IsFewest (Reaches xs) (length xs) runs) c.deref.ensures.value c.in_ok-lengths.ensures in
    record {
      fewest = subst (λ n. IsFewest (Needs g) n runs) c.in_ok-needed.ensures.all
          (fewest (Needs g) ns c.in_ok-needed.ensures.tops (needs_lower g c.requires.ordered) runs least
          (run_below (length ns) runs least.split.all));
    }
