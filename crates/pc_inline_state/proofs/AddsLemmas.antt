-- How much calls add, one after another.
use Rattle.std.proofs.Common.{◌≡◌, ℕ, ◌+◌, ◌*◌, ◌<◌, ◌≤◌, ◌∙◌, length, ap, sym, subst, refl, arith}
use Rattle.std.proofs.Math.Nat.{add-mul}
use Rattle.pc_types.specs.declared.parsed.TypeTable.{TypeTable}
use Rattle.pc_types_lists.specs.Adds.{AddsTypes, most_types}
use Rattle.pc_types_lists.specs.Interned.{IsPut}
use Rattle.pc_types_lists.specs.Types.{Grows, KeepsTypes, Types}
use Rattle.pc_types_lists.proofs.FewLemmas.{few_both, few_more, few_none}
use Rattle.pc_types_lists.proofs.KeptTypes.{grows_keeps, keeps_same, keeps_trans}
use Rattle.pc_types_builder.specs.Asked.{AddsAsked}
use Rattle.pc_dfg.specs.Lists as list
use Rattle.pc_dfg.specs.Lists.{ListName, entries_of}
use Rattle.pc_inline_state.specs.Adds.{Adds, most_converted, with_modules}
use Rattle.pc_inline_state.specs.AddsEach.{AddsEach, everywhere, in_adapters, in_imports, in_options, in_slots}
use Rattle.pc_inline_state.specs.AddsEach.{in_trampolines, nowhere}
use Rattle.pc_inline_state.specs.Gained.{AddsTables}
use Rattle.pc_inline_state.specs.Tables.{Tables}
use Rattle.pc_inline_state.proofs.AddsPushLemmas.{one_option}
use Rattle.pc_inline_state.proofs.GainedLemmas.{asked_tables, context_tables, few_contexts, no_tables, tables_both}
use Rattle.pc_inline_state.proofs.GainedLemmas.{tables_none}

-- one sum of bounds
two_bounds : (a b c n m : ℕ) → b ≤ a + n → c ≤ b + m → c ≤ a + (n + m)
two_bounds a b c n m h k = omega (arith, h, k)

-- how many resources a graph has, imported and declared
abbrev resources_of : Tables → ℕ
resources_of b = length b.graph.imported_resources + length b.graph.resources

-- nothing was added
pub each_refl : (w : ListName → ℕ) (c d : ℕ) (b : Tables) → AddsEach w c d b b
each_refl w c d b = record {
  types = refl;
  lists = λ l. omega arith;
  cores = omega arith;
  definitions = omega arith;
  closures = omega arith;
  instances = omega arith;
  begun = refl;
  resources = omega arith;
}

-- entries in these lists, and in those
pub each_trans : (v w : ListName → ℕ) (c1 d1 c2 d2 : ℕ) (a b x : Tables) → AddsEach v c1 d1 a b → AddsEach w c2 d2 b x
    → AddsEach (λ l. v l + w l) (c1 + c2) (d1 + d2) a x
each_trans v w c1 d1 c2 d2 a b x h k = record {
  types = k.types ∙ h.types;
  lists = λ l. two_bounds (length (entries_of a.graph l)) (length (entries_of b.graph l))
      (length (entries_of x.graph l)) (v l) (w l) (h.lists l) (k.lists l);
  cores = two_bounds (length a.cores) (length b.cores) (length x.cores) c1 c2 h.cores k.cores;
  definitions = two_bounds (length a.definitions) (length b.definitions) (length x.definitions) d1 d2 h.definitions
      k.definitions;
  closures = two_bounds (length a.closures) (length b.closures) (length x.closures) d1 d2 h.closures k.closures;
  instances = two_bounds (length a.instances) (length b.instances) (length x.instances) d1 d2 h.instances
      k.instances;
  begun = k.begun ∙ h.begun;
  resources = two_bounds (resources_of a) (resources_of b) (resources_of x) (v list.resources) (w list.resources)
      h.resources k.resources;
}

-- bounds may be raised
pub each_weaken : (v w : ListName → ℕ) (c1 d1 c2 d2 : ℕ) (a b : Tables) → ((l : ListName) → v l ≤ w l) → c1 ≤ c2
    → d1 ≤ d2 → AddsEach v c1 d1 a b → AddsEach w c2 d2 a b
each_weaken v w c1 d1 c2 d2 a b le lec led h = record {
  types = h.types;
  lists = λ l. let le1 = le l in let le2 = h.lists l in omega (arith, le1, le2);
  cores = let le2 = h.cores in omega (arith, lec, le2);
  definitions = let le2 = h.definitions in omega (arith, led, le2);
  closures = let le2 = h.closures in omega (arith, led, le2);
  instances = let le2 = h.instances in omega (arith, led, le2);
  begun = h.begun;
  resources = let le1 = le list.resources in let le2 = h.resources in omega (arith, le1, le2);
}

module _ (t : TypeTable) where
  -- no more in any list, with what modules of adapters add to it, than a bound
  pub adds_each : (w : ListName → ℕ) (c d m : ℕ) (a b : Tables)
      → ((l : ListName) → w l + 32 * w list.adapters ≤ m) → c ≤ m → d ≤ m → AddsEach w c d a b → Adds t m a b
  adds_each w c d m a b le lec led h = record {
    types = few_none t m a.types b.types h.types;
    tables = tables_none t b.graph.num_runtime_component_instances a.types b.types h.types;
    entries = record {
      lists = λ l.
          let le1 = le l in
          let le2 = h.lists l in
          let le3 : length b.graph.adapters ≤ length a.graph.adapters + w list.adapters = h.lists list.adapters in
          omega (arith, le1, le2, le3);
      cores = let le2 = h.cores in omega (arith, lec, le2);
      definitions = let le2 = h.definitions in omega (arith, led, le2);
      closures = let le2 = h.closures in omega (arith, led, le2);
      instances = let le2 = h.instances in omega (arith, led, le2);
      begun = let same = h.begun in omega (arith, same);
      resources = let le1 = le list.resources in let le2 = h.resources in omega (arith, le1, le2);
    };
    grows = subst (KeepsTypes a.types) (sym h.types) (keeps_same a.types);
    later = let same = h.begun in omega (arith, same);
  }

  -- nothing was added
  pub adds_refl : (w : ℕ) (b : Tables) → Adds t w b b
  adds_refl w b = record {
    types = few_none t w b.types b.types refl;
    tables = tables_none t b.graph.num_runtime_component_instances b.types b.types refl;
    entries = record {
      lists = λ l. omega arith;
      cores = omega arith;
      definitions = omega arith;
      closures = omega arith;
      instances = omega arith;
      begun = omega arith;
      resources = omega arith;
    };
    grows = keeps_same b.types;
    later = omega arith;
  }

  -- what two calls add
  pub adds_trans : (n m : ℕ) (a b x : Tables) → Adds t n a b → Adds t m b x → Adds t (n + m) a x
  adds_trans n m a b x h k =
      let e1 = h.entries in
      let e2 = k.entries in
      record {
        types = few_both t n m a.types b.types x.types h.types k.types;
        tables = tables_both t b.graph.num_runtime_component_instances x.graph.num_runtime_component_instances k.later
            b.types x.types k.grows a.types h.tables k.tables;
        entries = record {
          lists = λ l. two_bounds (with_modules a.graph l) (with_modules b.graph l) (with_modules x.graph l) n m
              (e1.lists l) (e2.lists l);
          cores = two_bounds (length a.cores) (length b.cores) (length x.cores) n m e1.cores e2.cores;
          definitions = two_bounds (length a.definitions) (length b.definitions) (length x.definitions) n m
              e1.definitions e2.definitions;
          closures = two_bounds (length a.closures) (length b.closures) (length x.closures) n m e1.closures
              e2.closures;
          instances = two_bounds (length a.instances) (length b.instances) (length x.instances) n m e1.instances
              e2.instances;
          begun = two_bounds a.graph.num_runtime_component_instances b.graph.num_runtime_component_instances
              x.graph.num_runtime_component_instances n m e1.begun e2.begun;
          resources = two_bounds (resources_of a) (resources_of b) (resources_of x) n m e1.resources e2.resources;
        };
        grows = keeps_trans a.types b.types x.types h.grows k.grows;
        later = let le1 = h.later in let le2 = k.later in omega (arith, le1, le2);
      }

  -- a bound may be raised
  pub adds_weaken : (n m : ℕ) (a b : Tables) → n ≤ m → Adds t n a b → Adds t m a b
  adds_weaken n m a b le h = record {
    types = few_more t n m a.types b.types le h.types;
    tables = h.tables;
    entries = record {
      lists = λ l. let le2 = h.entries.lists l in omega (arith, le, le2);
      cores = let le2 = h.entries.cores in omega (arith, le, le2);
      definitions = let le2 = h.entries.definitions in omega (arith, le, le2);
      closures = let le2 = h.entries.closures in omega (arith, le, le2);
      instances = let le2 = h.entries.instances in omega (arith, le, le2);
      begun = let le2 = h.entries.begun in omega (arith, le, le2);
      resources = let le2 = h.entries.resources in omega (arith, le, le2);
    };
    grows = h.grows;
    later = h.later;
  }

  -- what two calls add at the most
  pub adds_both : (n m w : ℕ) (a b x : Tables) → n + m ≤ w → Adds t n a b → Adds t m b x → Adds t w a x
  adds_both n m w a b x le h k = adds_weaken (n + m) w a x le (adds_trans n m a b x h k)

  module _ (b : Tables) (types : Types) (g : Grows b.types types) where
    types_adds : (w : ℕ) → AddsTypes t w b.types types
        → AddsTables t b.graph.num_runtime_component_instances b.types types → Adds t w b (record b { types = types })
    types_adds w few tables = record {
      types = few;
      tables = tables;
      entries = record {
        lists = λ l. omega arith;
        cores = omega arith;
        definitions = omega arith;
        closures = omega arith;
        instances = omega arith;
        begun = omega arith;
        resources = omega arith;
      };
      grows = grows_keeps b.types types g;
      later = omega arith;
    }

    -- an entry was converted, for a component instance that has begun
    pub asked_adds : (n : ℕ) → b.types.resources.current.0 < b.graph.num_runtime_component_instances
        → AddsTypes t (most_types t) b.types types → AddsAsked t n b.types types
        → Adds t (most_types t) b (record b { types = types })
    asked_adds n begun few asked =
        types_adds (most_types t) few
        (asked_tables t n b.types types asked b.graph.num_runtime_component_instances
        (subst (λ r. r.current.0 < b.graph.num_runtime_component_instances) (sym g.resources) begun))

    -- a core signature was converted
    pub signed_adds : AddsTypes t 0 b.types types → types ≡ record b.types { signatures = types.signatures }
        → Adds t 0 b (record b { types = types })
    signed_adds few rest =
        types_adds 0 few
        (no_tables t b.graph.num_runtime_component_instances b.types types
        (ap (λ (x : Types). x.future_tables) rest) (ap (λ (x : Types). x.stream_tables) rest)
        (ap (λ (x : Types). x.error_context_tables) rest))

    -- the error contexts of a component instance that has begun were asked for
    pub contexts_adds : b.types.resources.current.0 < b.graph.num_runtime_component_instances
        → types ≡ record b.types { error_context_tables = types.error_context_tables }
        → IsPut b.types.error_context_tables types.error_context_tables (record { instance = b.types.resources.current })
        → Adds t 1 b (record b { types = types })
    contexts_adds begun rest put =
        types_adds 1 (few_contexts t b.types types rest put)
        (context_tables t b.types types rest put b.graph.num_runtime_component_instances begun)

  -- the type and the signature of a function were converted
  pub adds_function : (a b x : Tables) → Adds t (most_types t) a b → Adds t 0 b x → Adds t (most_types t) a x
  adds_function a b x converted signed =
      adds_both (most_types t) 0 (most_types t) a b x (omega arith) converted signed

  -- types, and after that entries in some lists
  pub adds_then : (m : ℕ) (a b x : Tables) → m ≤ 4 → Adds t (most_types t) a b → Adds t m b x
      → Adds t (most_converted t 1) a x
  adds_then m a b x le h k = adds_both (most_types t) m (most_converted t 1) a b x (omega (arith, le)) h k

  -- one conversion
  pub converted_one : (a b : Tables) → Adds t (most_types t) a b → Adds t (1 * (1 + most_types t)) a b
  converted_one a b h = adds_weaken (most_types t) (1 * (1 + most_types t)) a b (omega arith) h

  -- some conversions, and then others
  pub converted_both : (n m : ℕ) (a b x : Tables) → Adds t (n * (1 + most_types t)) a b
      → Adds t (m * (1 + most_types t)) b x → Adds t ((n + m) * (1 + most_types t)) a x
  converted_both n m a b x h k =
      subst (λ w. Adds t w a x) (sym (add-mul n m (1 + most_types t)))
      (adds_trans (n * (1 + most_types t)) (m * (1 + most_types t)) a b x h k)

-- what the slots of a memory and of the function that makes room add
pub model_adds : (a b x : Tables) → AddsEach (in_slots 1) 0 0 a b → AddsEach (in_slots 1) 0 0 b x
    → AddsEach (in_slots 2) 0 0 a x
model_adds a b x h k =
    each_weaken (λ l. in_slots 1 l + in_slots 1 l) (in_slots 2) 0 0 0 0 a x le (omega arith) (omega arith)
    (each_trans (in_slots 1) (in_slots 1) 0 0 0 0 a b x h k)
  where
    le : (l : ListName) → in_slots 1 l + in_slots 1 l ≤ in_slots 2 l
    le (list.slots k) = omega arith
    le l = omega arith

-- what options add: where values lie, a callback, a post-return function, and the entry
pub entry_adds : (a b x y z : Tables) → AddsEach (in_slots 2) 0 0 a b → AddsEach (in_slots 1) 0 0 b x
    → AddsEach (in_slots 1) 0 0 x y → AddsEach one_option 0 0 y z → AddsEach in_options 0 0 a z
entry_adds a b x y z h k m n =
    each_weaken (λ l. in_slots 2 l + in_slots 1 l + in_slots 1 l + one_option l) in_options 0 0 0 0 a z le (omega arith)
    (omega arith)
    (each_trans (λ l. in_slots 2 l + in_slots 1 l + in_slots 1 l) one_option 0 0 0 0 a y z
    (each_trans (λ l. in_slots 2 l + in_slots 1 l) (in_slots 1) 0 0 0 0 a x y
    (each_trans (in_slots 2) (in_slots 1) 0 0 0 0 a b x h k) m) n)
  where
    le : (l : ListName) → in_slots 2 l + in_slots 1 l + in_slots 1 l + one_option l ≤ in_options l
    le list.options = omega arith
    le (list.slots k) = omega arith
    le l = omega arith

-- what a host function adds that is lowered: an import, options, a trampoline, and a core item
pub lowered_adds : (t : TypeTable) (a b x y z : Tables) → AddsEach in_imports 0 0 a b → AddsEach in_options 0 0 b x
    → AddsEach in_trampolines 0 0 x y → AddsEach nowhere 1 0 y z → Adds t 4 a z
lowered_adds t a b x y z h k m n =
    adds_each t (λ l. in_imports l + in_options l + in_trampolines l + nowhere l) 1 0 4 a z le (omega arith)
    (omega arith)
    (each_trans (λ l. in_imports l + in_options l + in_trampolines l) nowhere 0 0 1 0 a y z
    (each_trans (λ l. in_imports l + in_options l) in_trampolines 0 0 0 0 a x y
    (each_trans in_imports in_options 0 0 0 0 a b x h k) m) n)
  where
    le : (l : ListName) → in_imports l + in_options l + in_trampolines l + nowhere l + 32 * (0 + 0 + 0 + 0) ≤ 4
    le list.options = omega arith
    le list.imports = omega arith
    le list.trampolines = omega arith
    le (list.slots k) = omega arith
    le l = omega arith

-- what a lifted function adds that is lowered: an adapter, with what its module adds, and a core item
pub adapter_few : (t : TypeTable) (a b x : Tables) → AddsEach in_adapters 0 0 a b → AddsEach nowhere 1 0 b x
    → Adds t 36 a x
adapter_few t a b x h k =
    adds_each t (λ l. in_adapters l + nowhere l) 1 0 36 a x le (omega arith) (omega arith)
    (each_trans in_adapters nowhere 0 0 1 0 a b x h k)
  where
    le : (l : ListName) → in_adapters l + nowhere l + 32 * (1 + 0) ≤ 36
    le list.adapters = omega arith
    le l = omega arith

-- no list has more than one entry more
pub everywhere_one : (l : ListName) → everywhere l ≤ 1
everywhere_one list.adapters = omega arith
everywhere_one l = omega arith

module _ (t : TypeTable) (a b : Tables) where
  -- a core item alone
  pub core_few : AddsEach nowhere 1 0 a b → Adds t 4 a b
  core_few h = adds_each t nowhere 1 0 4 a b (λ l. omega arith) (omega arith) (omega arith) h

  -- a definition alone
  pub definition_few : AddsEach nowhere 0 1 a b → Adds t 4 a b
  definition_few h = adds_each t nowhere 0 1 4 a b (λ l. omega arith) (omega arith) (omega arith) h

  -- what a component captured, and then a definition
  pub component_few : (x : Tables) → AddsEach nowhere 0 1 a x → AddsEach nowhere 0 1 x b → Adds t 4 a b
  component_few x h k =
      adds_each t (λ l. nowhere l + nowhere l) 0 2 4 a b (λ l. omega arith) (omega arith) (omega arith)
      (each_trans nowhere nowhere 0 1 0 1 a x b h k)

  -- one entry of each list but that of adapters
  pub everywhere_few : AddsEach everywhere 0 0 a b → Adds t 4 a b
  everywhere_few h =
      adds_each t everywhere 0 0 4 a b (λ l. let one = everywhere_one l in omega (arith, one)) (omega arith)
      (omega arith) h
