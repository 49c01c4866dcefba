-- How much work a stack stands for: so it is seen that it gets empty.
use Rattle.std.specs.Prelude.{ℕ, zero, suc, ◌+◌, List, ◌++◌, map, length, sum_by}
use Rattle.std.specs.List.{range_with_len}
use Rattle.pc_dfg.specs.declared.dfg.ComponentDfg.{ComponentDfg}
use Rattle.pc_dfg_linearize.specs.declared.id.Id.{Id}
use Rattle.pc_dfg_linearize.specs.declared.id.Id.TheVariants as id
use Rattle.pc_dfg_linearize.specs.declared.id.Task.{Task}
use Rattle.pc_dfg_linearize.specs.declared.id.Task.TheVariants as task
use Rattle.pc_dfg_linearize.specs.Parts.{parts}

-- the ids of n entries, by number
abbrev pub ids_below : (ℕ → Id) → ℕ → List Id
ids_below id n = map id (range_with_len 0 n)

-- the ids of a graph that may have parts
unfoldable pub ids_in : ComponentDfg → List Id
ids_in g =
    ids_below (λ n. id.Realloc (record { 0 = n })) (length g.reallocs)
    ++ ids_below (λ n. id.Callback (record { 0 = n })) (length g.callbacks)
    ++ ids_below (λ n. id.PostReturn (record { 0 = n })) (length g.post_returns)
    ++ ids_below (λ n. id.Options (record { 0 = n })) (length g.options)
    ++ ids_below (λ n. id.Trampoline (record { 0 = n })) (length g.trampolines)
    ++ ids_below (λ n. id.AdapterModule (record { 0 = n })) (length g.adapter_modules)

-- the tasks that an id leads to, where it is followed so many steps
unfoldable pub work : ComponentDfg → ℕ → Id → ℕ
work g zero x = 1
work g (suc n) x = 2 + sum_by (work g n) (parts g x)

-- as many steps as lead to the end of each way through the graph
unfoldable pub far : ComponentDfg → ℕ
far g = 2 + length (ids_in g)

-- the tasks that a task leads to, itself among them
abbrev pub weight : ComponentDfg → Task → ℕ
weight g (task.Open x) = work g (far g) x
weight g (task.Close x) = 1
