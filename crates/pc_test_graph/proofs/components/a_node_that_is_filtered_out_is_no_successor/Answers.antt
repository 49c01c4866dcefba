use Rattle.std.proofs.Common.{◌∙◌, not, nat_eq, ap, refl, rules, of_calls}
use Rattle.pc_numbers.specs.declared.module_entity.FuncIndex.{FuncIndex}
use Rattle.pc_graph.specs.Digraph.{Digraph, filtered}
use Rattle.pc_graph.specs.Listed.{listed}
use Rattle.pc_test_graph.proofs.components.a_node_that_is_filtered_out_is_no_successor.Goals as goal

pub filter_nodes-filtered-requires-clause-one_answer :
    goal.filter_nodes-filtered-requires-clause-one_answer
filter_nodes-filtered-requires-clause-one_answer g c =
    (λ n. not (nat_eq n.0 3), λ n answer says. says.says.met ∙ ap (λ x. not (nat_eq x.0 3)) says.shows)

pub shows-requires : goal.shows-requires
shows-requires g c =
    let inner : Digraph FuncIndex = listed (λ n. n.0)
    (λ k. record { 0 = k }) c.filter_nodes-filtered.result.graph.now in (
      filtered (λ n. not (nat_eq n.0 3)) inner,
      (
        search (of_calls, rules),
        inner,
        λ n. not (nat_eq n.0 3),
        refl,
        λ n answer says. says.says.met ∙ ap (λ x. not (nat_eq x.0 3)) says.shows,
        refl,
      ),
    )
