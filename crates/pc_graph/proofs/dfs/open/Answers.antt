use Rattle.std.proofs.Common.{◌++◌, ◌∷◌, ◌∙◌, [], ap, take, reverse}
use Rattle.pc_graph.proofs.PushLemmas.{reverse_opened}
use Rattle.pc_graph.specs.declared.dfs.DfsEvent.TheVariants.{Post}
use Rattle.pc_graph.proofs.dfs.open.Goals as goal

pub returns : goal.returns
returns g c =
    let pushed = c.in_ok-pushed.pushed.items in
    record {
      ok = λ d shows. (
        reverse pushed,
        c.in_ok-pushed.ensures d shows,
        reverse_opened c.args.stack.now.items c.args.below (Post c.args.node) pushed c.append.new.self.items
            (c.in_ok-append.ensures.items
            ∙ ap (λ es. es ++ pushed) (c.push_reserved.ensures.items
            ∙ ap (λ es. es ++ Post c.args.node ∷ []) (c.truncate.ensures.items
            ∙ ap (take c.args.below) c.in_ok-reserve.ensures.items))),
      );
      err = tt;
    }
