-- A list of the graph with no room for one entry more.
use Rattle.std.proofs.Common.{◌≡◌, ◌≤◌, length, Result, Err, ap, ◌∙◌}
use Rattle.std.specs.Prelude.{IfErr}
use Rattle.std.specs.Result.{IsErrAnd}
use Rattle.pc_dfg.specs.declared.dfg.ComponentDfg.{ComponentDfg}
use Rattle.pc_dfg.specs.Grows as graph
use Rattle.pc_dfg.specs.Lists.{ListName, entries_of}
use Rattle.pc_dfg.specs.declared.push_error.PushError.{PushError}
use Rattle.pc_dfg.specs.declared.push_error.PushError.TheVariants as push_error
use Rattle.pc_inline_state.specs.declared.error.ItemError.{ItemError}
use Rattle.pc_inline_state.specs.declared.state.State.{State}
use Rattle.pc_inline_state.specs.Faults.{of_push_error}
use Rattle.pc_inline_state.specs.Refused.{LacksRoom}
use Rattle.pc_inline_state.specs.Tables.{tables_of}
use Rattle.pc_inline_state.proofs.GrowthLemmas.{graph_crowded}
use Rattle.pc_inline_state.proofs.RefusedLemmas.{push_lacks}

-- where a list of the graph took no entry, memory is short or the list is full
pub list_lacks : {A B : Type 0} (l : ListName) (st : State) (h : ComponentDfg) → graph.Grows st.graph h
    → (q : Result A PushError) (y : PushError) → q ≡ Err y
    → (q ≡ Err push_error.TooMany → 4294967295 ≤ length (entries_of st.graph l)) → (r : Result B ItemError)
    → IsErrAnd r (λ e. e ≡ of_push_error y) → IfErr r (LacksRoom (record st { graph = h }))
list_lacks l st h grows q y was full r is =
    push_lacks r (record st { graph = h }) y is
    (λ same. graph_crowded (tables_of (record st { graph = h })) st.graph grows l (full (was ∙ ap Err same)))
