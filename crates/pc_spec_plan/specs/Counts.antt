-- How many steps and entries of each kind a plan has.
use Rattle.std.specs.Prelude.{ℕ, ◌+◌, Bool, true, false, length, count_by}
use Rattle.pc_spec_plan.specs.PlanView

-- whether two kinds of slot are the same
abbrev pub same_slot : PlanView.SlotKind → PlanView.SlotKind → Bool
same_slot PlanView.memory PlanView.memory = true
same_slot PlanView.table PlanView.table = true
same_slot PlanView.realloc PlanView.realloc = true
same_slot PlanView.callback PlanView.callback = true
same_slot PlanView.post_return PlanView.post_return = true
same_slot k l = false

-- whether a step makes a core instance
abbrev pub makes_instance : PlanView.Initializer → Bool
makes_instance (PlanView.instantiate_static m args c) = true
makes_instance (PlanView.instantiate_import r args c) = true
makes_instance i = false

-- whether a step lowers an import
abbrev pub lowers_import : PlanView.Initializer → Bool
lowers_import (PlanView.lower_import index r) = true
lowers_import i = false

-- whether a step fills a slot of a kind
abbrev pub fills : PlanView.SlotKind → PlanView.Initializer → Bool
fills k (PlanView.extract l index d) = same_slot k l
fills k i = false

-- whether a step declares a resource
abbrev pub declares_resource : PlanView.Initializer → Bool
declares_resource (PlanView.declare_resource index representation d c) = true
declares_resource i = false

-- how many steps of a plan pass a test
abbrev pub steps : {τ : Type 0} → PlanView.PlanView τ → (PlanView.Initializer → Bool) → ℕ
steps p test = count_by test p.initializers

-- the counts of a plan, for so many component instances and so many tables of futures, streams and error contexts: each
-- other one is the number of steps of its kind, and the resources are the imported and the declared ones
abbrev pub own_counts : {τ : Type 0} → PlanView.PlanView τ
    → (component_instances future_tables stream_tables error_context_tables : ℕ) → PlanView.Counts
own_counts p component_instances future_tables stream_tables error_context_tables = record {
  runtime_instances = steps p makes_instance;
  component_instances = component_instances;
  lowerings = steps p lowers_import;
  memories = steps p (fills PlanView.memory);
  tables = steps p (fills PlanView.table);
  reallocs = steps p (fills PlanView.realloc);
  callbacks = steps p (fills PlanView.callback);
  post_returns = steps p (fills PlanView.post_return);
  resources = length p.imported_resources + steps p declares_resource;
  future_tables = future_tables;
  stream_tables = stream_tables;
  error_context_tables = error_context_tables;
}
