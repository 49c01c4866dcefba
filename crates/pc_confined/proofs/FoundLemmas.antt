-- What a sound scope has under numbers and names is sound.
use Rattle.std.proofs.Common.{ℕ, Bool, true, false, List, [], ◌++◌, Option, None, Some, IfSome, refl}
use Rattle.std.proofs.Common.{if◌then◌else◌}
use Rattle.std.specs.Prelude.{All, option_and_then, slice_get}
use Rattle.std.specs.List.{list_all, list_any}
use Rattle.std.proofs.lemmas.List.Elements.{All-append, All-cons, All-nil}
use Rattle.pc_entity.specs.Lists.{map_all, value_of}
use Rattle.pc_types.specs.declared.module_record.ModuleRecord.{ModuleRecord}
use Rattle.pc_types.specs.declared.parsed.CoreFuncSig.{CoreFuncSig}
use Rattle.pc_types.specs.declared.parsed.CoreKind.{CoreKind}
use Rattle.pc_types.specs.declared.parsed.CoreKind.TheVariants as core
use Rattle.pc_types.specs.Record.{index_kind, index_number, kind_of, same_kind}
use Rattle.pc_numbers.specs.declared.entity_index.EntityIndex.{EntityIndex}
use Rattle.pc_types.specs.TypeTree.{TypeTree}
use Rattle.pc_spec_plan.specs.CoreValue.{CoreValue, MaybeValue, gc, linear}
use Rattle.pc_spec_plan.specs.Log.{Entry, NamedArgument}
use Rattle.pc_spec_plan.specs.Machine as machine
use Rattle.pc_parsed.specs.declared.canon.CanonOption.{CanonOption}
use Rattle.pc_parsed.specs.Mark.{Mark}
use Rattle.pc_spec_reading.specs.Arguments.{argument, bag_item, core_export, grouped, has_instances, host_argument}
use Rattle.pc_spec_reading.specs.Arguments.{host_arguments, host_item, record_item, static_argument}
use Rattle.pc_spec_reading.specs.Arguments.{static_arguments, tree_kind}
use Rattle.pc_spec_reading.specs.Modules.{bag_entry}
use Rattle.pc_spec_reading.specs.Options.{callback_in, chosen, is_gc, is_sound_option, last_of, maybe, memory_in}
use Rattle.pc_spec_reading.specs.Options.{options_of}
use Rattle.pc_spec_reading.specs.Options.{model_of, post_return_in, realloc_in, the_options}
use Rattle.pc_spec_reading.specs.Scope.{CoreInstance, CoreItem, Scope, bag, core_list, of_host_module, of_module}
use Rattle.pc_spec_reading.specs.Types.{module_imports}
use Rattle.pc_spec_wiring.specs.Confined.{Belongs, Tells, item_is_of}
use Rattle.pc_spec_wiring.specs.Held.{maybe_list, model_list}
use Rattle.pc_confined.proofs.Sound.{AreOptionsOf, IsSoundCore}
use Rattle.pc_confined.proofs.Sound.{IsSoundScope}
use Rattle.pc_confined.proofs.Steps.{all_some, at_some, each_some, map_some, named_some, test_some}
use Rattle.pc_confined.proofs.Steps.{then_some}

-- all of what is chosen of a list
module _ (P : CoreValue Mark → Type 0) where
  maybe_all : (o : Option (CoreValue Mark)) → IfSome o P → All P (maybe_list (maybe o))
  maybe_all None h = All-nil P
  maybe_all (Some v) h = All-cons P v [] h (All-nil P)

  chosen_all : (values : List (CoreValue Mark)) → All P values → (n : Option ℕ) → All P (maybe_list (chosen values n))
  chosen_all values h None = All-nil P
  chosen_all values h (Some n) = maybe_all (slice_get values n) (at_some P values h n)

  -- the destructor of a resource
  pub destructor_all : (values : List (CoreValue Mark)) → All P values → (n : Option ℕ)
      → IfSome (machine.chosen values n) (λ (d : MaybeValue Mark). All P (maybe_list d))
  destructor_all values h None = All-nil P
  destructor_all values h (Some n) =
      map_some (λ (d : MaybeValue Mark). All P (maybe_list d)) P _ (slice_get values n) (at_some P values h n)
      (λ v b. All-cons P v [] b (All-nil P))

  model_all : (memories funcs : List (CoreValue Mark)) → All P memories → All P funcs → (m r : Option ℕ) → (b : Bool)
      → All P (model_list (if b then gc else linear (chosen memories m) (chosen funcs r)))
  model_all memories funcs a b m r true = All-nil P
  model_all memories funcs a b m r false =
      All-append P (maybe_list (chosen memories m)) (maybe_list (chosen funcs r)) (chosen_all memories a m)
      (chosen_all funcs b r)

module _ (log : List (Entry Mark)) (s : Scope) (sound : IsSoundScope log s) where
  -- the options of an item are those of its component instance
  pub options_found : (signature : CoreFuncSig) (os : List CanonOption)
      → IfSome (options_of s signature os) (AreOptionsOf log s.component_instance)
  unfolding options_of the_options
  options_found signature os =
      let P = Belongs log s.component_instance in
      let callback = chosen s.core_funcs (last_of callback_in os) in
      let post_return = chosen s.core_funcs (last_of post_return_in os) in
      let funcs = sound.cores core.Func in
      test_some (AreOptionsOf log s.component_instance) (list_all (is_sound_option s) os) _ (record {
        whose = refl;
        held =
            All-append P (maybe_list callback ++ maybe_list post_return) (model_list (model_of s os))
            (All-append P (maybe_list callback) (maybe_list post_return)
            (chosen_all P s.core_funcs funcs (last_of callback_in os))
            (chosen_all P s.core_funcs funcs (last_of post_return_in os)))
            (model_all P s.memories s.core_funcs (sound.cores core.Memory) funcs (last_of memory_in os)
            (last_of realloc_in os) (list_any is_gc os));
      })

-- what a core instance has
module _ (log : List (Entry Mark)) (c : ℕ) (ms : List ModuleRecord) (k : CoreKind) (name : List ℕ) where
  pub export_found : (i : CoreInstance) → IsSoundCore log c i → IfSome (core_export ms k name i) (Belongs log c)
  unfolding core_export Tells
  export_found (of_module order m) h =
      each_some (Belongs log c) (record_item order k) _
      (λ e. test_some (Belongs log c) (same_kind k (index_kind e)) _ (record { whose = item_is_of h; told = tt }))
  export_found (of_host_module order tree) h =
      each_some (Belongs log c) (host_item order k name) _
      (λ t. test_some (Belongs log c) (same_kind k (tree_kind t)) _ (record { whose = item_is_of h; told = tt }))
  export_found (bag items) h =
      then_some (Belongs log c) (λ (i : CoreItem). Belongs log c i.value) (bag_item k) _
      (named_some (λ (i : CoreItem). Belongs log c i.value) items h name)
      (λ i b. test_some (Belongs log c) (same_kind k i.kind) (Some i.value) b)

-- what the imports of a core module are given
module _ (log : List (Entry Mark)) (ms : List ModuleRecord) (s : Scope) (sound : IsSoundScope log s) where
  abbrev P : CoreValue Mark → Type 0
  P = Belongs log s.component_instance

  -- what the core instance of a number has
  pub item_found : (k : CoreKind) (name : List ℕ) (n : ℕ)
      → IfSome (option_and_then (core_export ms k name) (slice_get s.core_instances n)) P
  item_found k name n =
      then_some P (IsSoundCore log s.component_instance) (core_export ms k name) (slice_get s.core_instances n)
      (at_some (IsSoundCore log s.component_instance) s.core_instances sound.core_instances n)
      (export_found log s.component_instance ms k name)

  module _ (args : List (List ℕ × ℕ)) where
    argument_found : (module_name name : List ℕ) (k : CoreKind) → IfSome (argument ms s args module_name name k) P
    argument_found module_name name k = each_some P _ (value_of module_name args) (item_found k name)

    pub static_found : (r : ModuleRecord) → IfSome (static_arguments ms s args r) (All P)
    unfolding static_arguments
    static_found r =
        test_some (All P) (has_instances s args) _
        (all_some P (static_argument ms s args) (λ i. argument_found i.0 i.1 (kind_of i.2)) r.imports)

    pub host_found : (tree : TypeTree)
        → IfSome (host_arguments ms s args tree) (All (λ (a : NamedArgument Mark). P a.value))
    unfolding host_arguments
    host_found tree =
        test_some (All (λ (a : NamedArgument Mark). P a.value)) (has_instances s args) _
        (all_some (λ (a : NamedArgument Mark). P a.value) (host_argument ms s args)
        (λ i.
        map_some (λ (a : NamedArgument Mark). P a.value) P _ _ (argument_found i.0 i.1 (tree_kind i.2)) (λ v b. b))
        (grouped (module_imports tree)))

  -- the items of a bag
  pub bag_found : (items : List (List ℕ × EntityIndex))
      → IfSome (map_all (bag_entry s) items) (All (λ (e : List ℕ × CoreItem). P e.1.value))
  bag_found items =
      all_some (λ (e : List ℕ × CoreItem). P e.1.value) (bag_entry s)
      (λ e. map_some (λ (e : List ℕ × CoreItem). P e.1.value) P _ _
      (at_some P (core_list s (index_kind e.1)) (sound.cores (index_kind e.1)) (index_number e.1)) (λ v b. b)) items
