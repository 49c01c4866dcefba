use Rattle.std.proofs.Common.{ap, sym, subst, ◌∙◌}
use Rattle.pc_inline_names.specs.Named.{Named}
use Rattle.pc_inline_stack.specs.Stacks.{AreWeights}
use Rattle.pc_inline.proofs.InstantiateLemmas.{export_starts, names_distinct, root_done, root_unbegun, root_undone}
use Rattle.pc_inline.proofs.InstantiateLemmas.{run_starts}
use Rattle.pc_inline.proofs.inliner.inline_root.Goals as goal

pub run-requires : goal.run-requires
run-requires c =
    let here = run_starts _ _ _ c.args.root.now _ _ _ _ _ c.in_ok-begun.ensures c.requires.stands in
    record {
      input = c.requires.input;
      ready = c.requires.ready;
      sound = c.requires.sound;
      weights = subst (λ bs. AreWeights c.args.context.now.table.now c.args.context.now.modules bs
          c.args.weights.now.bodies) (sym c.in_ok-begun.ensures.keeps.bodies) c.requires.weights;
      here = here.0;
      items = here.1;
      rooted = ap (λ (n : Named). n.root) c.in_ok-begun.ensures.keeps.names ∙ c.requires.rooted;
      begun = here.2;
      within = here.3;
      below = here.4;
    }

pub export_all-requires : goal.export_all-requires
export_all-requires c =
    let here = export_starts _ _ _ c.args.root.now _ _ _ _ _ c.in_ok-begun.ensures c.requires.stands _ _
    c.run.ensures.keeps c.run.ensures.adds _ c.in_ok-frame.ensures.runs in
    record {
      input = c.requires.input;
      root = here.0;
      unexported = here.1;
      distinct = names_distinct _ c.args.root.now _ c.as_slice.ensures c.requires.sound;
      below = c.run.ensures.adds.below;
    }

pub returns : goal.returns
returns c =
    root_done _ _ _ c.args.root.now _ _ _ _ _ c.in_ok-begun.ensures c.requires.stands _ _ c.run.ensures.keeps
    c.run.ensures.adds _ c.in_ok-frame.ensures.runs _ c.as_slice.ensures _ _ _ c.export_all.ensures

pub returns-in_err-begun : goal.returns-in_err-begun
returns-in_err-begun c =
    root_unbegun _ _ _ c.args.root.now _ _ _ _ _ c.in_err-begun.ensures _ c.from_residual.ensures.1

pub returns-in_err-frame : goal.returns-in_err-frame
returns-in_err-frame c =
    root_undone _ _ _ c.args.root.now _ _ _ _ _ c.in_ok-begun.ensures c.requires.stands _ _ c.run.ensures.keeps
    c.run.ensures.adds _ c.in_err-frame.ensures.runs _ c.from_residual-in_err-frame.ensures.1
