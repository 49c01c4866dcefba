-- What one push adds: an entry in its list.
use Rattle.std.proofs.Common.{◌≡◌, ◌⊎◌, inl, inr, ℕ, ◌+◌, ◌≤◌, List, [], ◌∷◌, ◌++◌, length, refl, sym, subst, ap, arith}
use Rattle.std.specs.Prelude.{Result, Ok, Err, OnErr, OnOk}
use Rattle.std.proofs.lemmas.List.{length-append, length-map}
use Rattle.pc_entity.specs.declared.string_pool.Atom.{Atom}
use Rattle.pc_numbers.specs.declared.module_entity.MemoryIndex.{MemoryIndex}
use Rattle.pc_numbers.specs.declared.runtime.ImportIndex.{ImportIndex}
use Rattle.pc_numbers.specs.declared.runtime.RuntimeComponentInstanceIndex.{RuntimeComponentInstanceIndex}
use Rattle.pc_spec_plan.specs.PlanView as plan
use Rattle.pc_dfg.specs.declared.adapter.Adapter.{Adapter}
use Rattle.pc_dfg.specs.declared.core_def.CoreDef.{CoreDef}
use Rattle.pc_dfg.specs.declared.core_def.CoreExport.{CoreExport}
use Rattle.pc_dfg.specs.declared.dfg.ComponentDfg.{ComponentDfg}
use Rattle.pc_dfg.specs.declared.instance.Instance.{Instance}
use Rattle.pc_dfg.specs.declared.options.CanonicalOptions.{CanonicalOptions}
use Rattle.pc_dfg.specs.Lists as list
use Rattle.pc_dfg.specs.Lists.{ListName, entries_of}
use Rattle.pc_dfg.specs.Numbers.{SignedTrampoline, memory_def, slots_of}
use Rattle.pc_dfg.specs.Pushed.{Changes, IsPut, with_instance}
use Rattle.pc_dfg.proofs.PushLemmas.{result_changes}
use Rattle.pc_inline_state.specs.declared.closure.Closure.{Closure}
use Rattle.pc_inline_state.specs.declared.definition.Definition.{Definition}
use Rattle.pc_inline_state.specs.declared.state.Member.{Member}
use Rattle.pc_inline_state.specs.AddsEach.{AddsEach, everywhere, in_adapters, in_imports, in_slots, in_trampolines}
use Rattle.pc_inline_state.specs.AddsEach.{nowhere}
use Rattle.pc_inline_state.specs.Tables.{Tables}

-- a list into which an entry was put is longer by one at most
pub changes_few : {V : Type 0} (xs ys : List V) (x : V) → Changes xs ys x → length ys ≤ length xs + 1
changes_few xs ys x change = elim change as (λ _. length ys ≤ length xs + 1) [
  | inl same ↦ subst (λ l. length l ≤ length xs + 1) (sym same) (omega arith)
  | inr more ↦ subst (λ l. length l ≤ length xs + 1) (sym more) (rw (length-append xs (x ∷ [])) (omega arith))
]

-- nothing more
same_few : (n : ℕ) → n ≤ n + 0
same_few n = omega arith

-- one entry of the list of options
abbrev pub one_option : ListName → ℕ
one_option list.options = 1
one_option l = 0

module _ (b : Tables) where
  -- each list of this graph has at most so many more
  abbrev pub Lists : (ListName → ℕ) → ComponentDfg → Type 0
  Lists w g = (l : ListName) → length (entries_of g l) ≤ length (entries_of b.graph l) + w l

  -- a graph of which that holds, in these tables
  in_graph : (w : ListName → ℕ) (g : ComponentDfg) → Lists w g
      → g.num_runtime_component_instances ≡ b.graph.num_runtime_component_instances
      → g.imported_resources ≡ b.graph.imported_resources → AddsEach w 0 0 b (record b { graph = g })
  in_graph w g lists begun imported = record {
    types = refl;
    lists = lists;
    cores = omega arith;
    definitions = omega arith;
    closures = omega arith;
    instances = omega arith;
    begun = begun;
    resources = let few = lists list.resources in let same = ap length imported in omega (arith, few, same);
  }

  memory_lists : (ys : List (CoreExport MemoryIndex)) → length ys ≤ length b.graph.memories + 1
      → Lists (in_slots 1) (record b.graph { memories = ys })
  unfolding slots_of
  memory_lists ys few (list.slots plan.memory) =
      rw (length-map ys memory_def, length-map b.graph.memories memory_def) few
  memory_lists ys few (list.slots k) = omega arith
  memory_lists ys few l = same_few _

  realloc_lists : (ys : List CoreDef) → length ys ≤ length b.graph.reallocs + 1
      → Lists (in_slots 1) (record b.graph { reallocs = ys })
  unfolding slots_of
  realloc_lists ys few (list.slots plan.realloc) = few
  realloc_lists ys few (list.slots k) = omega arith
  realloc_lists ys few l = same_few _

  callback_lists : (ys : List CoreDef) → length ys ≤ length b.graph.callbacks + 1
      → Lists (in_slots 1) (record b.graph { callbacks = ys })
  unfolding slots_of
  callback_lists ys few (list.slots plan.callback) = few
  callback_lists ys few (list.slots k) = omega arith
  callback_lists ys few l = same_few _

  post_return_lists : (ys : List CoreDef) → length ys ≤ length b.graph.post_returns + 1
      → Lists (in_slots 1) (record b.graph { post_returns = ys })
  unfolding slots_of
  post_return_lists ys few (list.slots plan.post_return) = few
  post_return_lists ys few (list.slots k) = omega arith
  post_return_lists ys few l = same_few _

  options_lists : (ys : List CanonicalOptions) → length ys ≤ length b.graph.options + 1
      → Lists one_option (record b.graph { options = ys })
  unfolding slots_of
  options_lists ys few list.options = few
  options_lists ys few (list.slots plan.memory) = same_few _
  options_lists ys few l = same_few _

  trampoline_lists : (ys : List SignedTrampoline) → length ys ≤ length b.graph.trampolines + 1
      → Lists in_trampolines (record b.graph { trampolines = ys })
  unfolding slots_of
  trampoline_lists ys few list.trampolines = few
  trampoline_lists ys few (list.slots plan.memory) = same_few _
  trampoline_lists ys few l = same_few _

  adapter_lists : (ys : List Adapter) → length ys ≤ length b.graph.adapters + 1
      → Lists in_adapters (record b.graph { adapters = ys })
  unfolding slots_of
  adapter_lists ys few list.adapters = few
  adapter_lists ys few (list.slots plan.memory) = same_few _
  adapter_lists ys few l = same_few _

  import_lists : (ys : List (ImportIndex × List (List ℕ))) → length ys ≤ length b.graph.imports + 1
      → Lists in_imports (record b.graph { imports = ys })
  unfolding slots_of
  import_lists ys few list.imports = few
  import_lists ys few (list.slots plan.memory) = same_few _
  import_lists ys few l = same_few _

  instance_lists : (x : Instance) (owner : RuntimeComponentInstanceIndex)
      → Lists everywhere (with_instance b.graph x owner)
  unfolding slots_of
  instance_lists x owner list.instances = rw (length-append b.graph.instances (x ∷ [])) (omega arith)
  instance_lists x owner list.side_effects = rw (length-append b.graph.side_effects (_ ∷ [])) (omega arith)
  instance_lists x owner (list.slots plan.memory) = omega arith
  instance_lists x owner l = omega arith

  alone_lists : (x : Instance) → Lists everywhere (record b.graph { instances = b.graph.instances ++ x ∷ [] })
  unfolding slots_of
  alone_lists x list.instances = rw (length-append b.graph.instances (x ∷ [])) (omega arith)
  alone_lists x (list.slots plan.memory) = omega arith
  alone_lists x l = omega arith

  module _ (g : ComponentDfg) where
    -- a graph that is another one by its record
    pub from_rest : (w : ListName → ℕ) (h : ComponentDfg) → g ≡ h → Lists w h
        → h.num_runtime_component_instances ≡ b.graph.num_runtime_component_instances
        → h.imported_resources ≡ b.graph.imported_resources → AddsEach w 0 0 b (record b { graph = g })
    from_rest w h rest lists begun imported =
        subst (λ x. AddsEach w 0 0 b (record b { graph = x })) (sym rest) (in_graph w h lists begun imported)

    -- a memory
    pub memory_adds : (x : CoreExport MemoryIndex) → g ≡ record b.graph { memories = g.memories }
        → IsPut b.graph.memories g.memories x → AddsEach (in_slots 1) 0 0 b (record b { graph = g })
    memory_adds x rest put =
        from_rest (in_slots 1) (record b.graph { memories = g.memories }) rest
        (memory_lists g.memories (changes_few b.graph.memories g.memories x put.0)) refl refl

    -- a function that makes room
    pub realloc_adds : (x : CoreDef) → g ≡ record b.graph { reallocs = g.reallocs }
        → IsPut b.graph.reallocs g.reallocs x → AddsEach (in_slots 1) 0 0 b (record b { graph = g })
    realloc_adds x rest put =
        from_rest (in_slots 1) (record b.graph { reallocs = g.reallocs }) rest
        (realloc_lists g.reallocs (changes_few b.graph.reallocs g.reallocs x put.0)) refl refl

    -- a callback
    pub callback_adds : (x : CoreDef) → g ≡ record b.graph { callbacks = g.callbacks }
        → IsPut b.graph.callbacks g.callbacks x → AddsEach (in_slots 1) 0 0 b (record b { graph = g })
    callback_adds x rest put =
        from_rest (in_slots 1) (record b.graph { callbacks = g.callbacks }) rest
        (callback_lists g.callbacks (changes_few b.graph.callbacks g.callbacks x put.0)) refl refl

    -- a post-return function
    pub post_return_adds : (x : CoreDef) → g ≡ record b.graph { post_returns = g.post_returns }
        → IsPut b.graph.post_returns g.post_returns x → AddsEach (in_slots 1) 0 0 b (record b { graph = g })
    post_return_adds x rest put =
        from_rest (in_slots 1) (record b.graph { post_returns = g.post_returns }) rest
        (post_return_lists g.post_returns (changes_few b.graph.post_returns g.post_returns x put.0)) refl refl

    -- an options entry
    pub options_adds : (x : CanonicalOptions) → g ≡ record b.graph { options = g.options }
        → IsPut b.graph.options g.options x → AddsEach one_option 0 0 b (record b { graph = g })
    options_adds x rest put =
        from_rest one_option (record b.graph { options = g.options }) rest
        (options_lists g.options (changes_few b.graph.options g.options x put.0)) refl refl

    -- a trampoline
    pub trampoline_adds : (x : SignedTrampoline) → g ≡ record b.graph { trampolines = g.trampolines }
        → IsPut b.graph.trampolines g.trampolines x → AddsEach in_trampolines 0 0 b (record b { graph = g })
    trampoline_adds x rest put =
        from_rest in_trampolines (record b.graph { trampolines = g.trampolines }) rest
        (trampoline_lists g.trampolines (changes_few b.graph.trampolines g.trampolines x put.0)) refl refl

    -- an adapter
    pub adapter_adds : (x : Adapter) → g ≡ record b.graph { adapters = g.adapters }
        → IsPut b.graph.adapters g.adapters x → AddsEach in_adapters 0 0 b (record b { graph = g })
    adapter_adds x rest put =
        from_rest in_adapters (record b.graph { adapters = g.adapters }) rest
        (adapter_lists g.adapters (changes_few b.graph.adapters g.adapters x put.0)) refl refl

    module _ {A E : Type 0} (r : Result A E) where
      -- a host item that is used
      pub import_adds : (x : ImportIndex × List (List ℕ)) → g ≡ record b.graph { imports = g.imports }
          → OnOk r (g.imports ≡ b.graph.imports ++ x ∷ []) → OnErr r (g ≡ b.graph)
          → AddsEach in_imports 0 0 b (record b { graph = g })
      import_adds x rest ok err =
          from_rest in_imports (record b.graph { imports = g.imports }) rest
          (import_lists g.imports (changes_few b.graph.imports g.imports x
          (result_changes r b.graph.imports g.imports x ok
          (err_at r (λ e. ap (λ (h : ComponentDfg). h.imports) e) err)))) refl refl
        where
          err_at : (s : Result A E) → (g ≡ b.graph → g.imports ≡ b.graph.imports) → OnErr s (g ≡ b.graph)
              → OnErr s (g.imports ≡ b.graph.imports)
          err_at (Ok y) f h = h
          err_at (Err e) f h = f h

      -- a core instance and its side effect
      pub instance_adds : (x : Instance) (owner : RuntimeComponentInstanceIndex)
          → OnOk r (g ≡ with_instance b.graph x owner)
          → OnErr r ((g ≡ b.graph) ⊎ (g ≡ record b.graph { instances = b.graph.instances ++ x ∷ [] }))
          → AddsEach everywhere 0 0 b (record b { graph = g })
      instance_adds x owner ok err = by r ok err
        where
          by : (s : Result A E) → OnOk s (g ≡ with_instance b.graph x owner)
              → OnErr s ((g ≡ b.graph) ⊎ (g ≡ record b.graph { instances = b.graph.instances ++ x ∷ [] }))
              → AddsEach everywhere 0 0 b (record b { graph = g })
          by (Ok y) is none = from_rest everywhere (with_instance b.graph x owner) is (instance_lists x owner) refl refl
          by (Err e) none is = elim is as (λ _. AddsEach everywhere 0 0 b (record b { graph = g })) [
            | inl same ↦ from_rest everywhere b.graph same (λ l. omega arith) refl refl
            | inr more ↦ from_rest everywhere (record b.graph { instances = b.graph.instances ++ x ∷ [] }) more
                (alone_lists x) refl refl
          ]

  module _ {A E : Type 0} (r : Result A E) where
    -- a core item
    pub core_adds : (cores : List CoreDef) (x : CoreDef) → OnOk r (cores ≡ b.cores ++ x ∷ [])
        → OnErr r (cores ≡ b.cores) → AddsEach nowhere 1 0 b (record b { cores = cores })
    core_adds cores x ok err = record {
      types = refl;
      lists = λ l. omega arith;
      cores = changes_few b.cores cores x (result_changes r b.cores cores x ok err);
      definitions = omega arith;
      closures = omega arith;
      instances = omega arith;
      begun = refl;
      resources = omega arith;
    }

    -- a definition
    pub definition_adds : (ds : List Definition) (x : Definition) → OnOk r (ds ≡ b.definitions ++ x ∷ [])
        → OnErr r (ds ≡ b.definitions) → AddsEach nowhere 0 1 b (record b { definitions = ds })
    definition_adds ds x ok err = record {
      types = refl;
      lists = λ l. omega arith;
      cores = omega arith;
      definitions = changes_few b.definitions ds x (result_changes r b.definitions ds x ok err);
      closures = omega arith;
      instances = omega arith;
      begun = refl;
      resources = omega arith;
    }

    -- what a component captured
    pub closure_adds : (cs : List Closure) (x : Closure) → OnOk r (cs ≡ b.closures ++ x ∷ [])
        → OnErr r (cs ≡ b.closures) → AddsEach nowhere 0 1 b (record b { closures = cs })
    closure_adds cs x ok err = record {
      types = refl;
      lists = λ l. omega arith;
      cores = omega arith;
      definitions = omega arith;
      closures = changes_few b.closures cs x (result_changes r b.closures cs x ok err);
      instances = omega arith;
      begun = refl;
      resources = omega arith;
    }

    -- what an instance exports
    pub instance_exports_adds : (is : List (List (Atom × Member))) (x : List (Atom × Member))
        → OnOk r (is ≡ b.instances ++ x ∷ []) → OnErr r (is ≡ b.instances)
        → AddsEach nowhere 0 1 b (record b { instances = is })
    instance_exports_adds is x ok err = record {
      types = refl;
      lists = λ l. omega arith;
      cores = omega arith;
      definitions = omega arith;
      closures = omega arith;
      instances = changes_few b.instances is x (result_changes r b.instances is x ok err);
      begun = refl;
      resources = omega arith;
    }
