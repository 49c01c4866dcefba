-- How the step of a core instance of a handed-in module ends, against its row.
use Rattle.std.proofs.Common.{◌≡◌, ℕ, Bool, true, false, List, [], ◌∷◌, ◌++◌, length, map, Option, Some, None, All}
use Rattle.std.proofs.Common.{◌≤◌, ◌⊎◌, inl, inr, Ok, Err, Result}
use Rattle.std.proofs.Common.{if◌then◌else◌, Vec, Global, refl, sym, ap, subst, ◌∙◌}
use Rattle.std.specs.Prelude.{⊤, OnErr, OnOk, slice_get, option_and_then}
use Rattle.std.specs.List.{AllZip}
use Rattle.std.specs.Result.{IsErrAnd}
use Rattle.std.proofs.lemmas.List.Elements.{All-append}
use Rattle.std.proofs.lemmas.Option.{none-some}
use Rattle.pc_entity.specs.Lists.{map_all}
use Rattle.pc_entity.proofs.Growing.{slice_get-append_seam}
use Rattle.pc_entity.proofs.MapAll.{length-map_all}
use Rattle.pc_dfg.specs.declared.ids.InstanceId.{InstanceId}
use Rattle.pc_numbers.specs.declared.component_entity.StaticModuleIndex.{StaticModuleIndex}
use Rattle.pc_numbers.specs.declared.runtime.RuntimeComponentInstanceIndex.{RuntimeComponentInstanceIndex}
use Rattle.pc_types.specs.declared.module_record.ModuleRecord.{ModuleRecord}
use Rattle.pc_types.specs.declared.parsed.CoreKind.{CoreKind}
use Rattle.pc_types.specs.declared.parsed.TypeTable.{TypeTable}
use Rattle.pc_types_lists.specs.Types.{Types}
use Rattle.pc_spec_plan.specs.CoreValue.{CoreValue, map_value}
use Rattle.pc_spec_plan.specs.Log.{instantiated, of_static}
use Rattle.pc_parsed.specs.Mark.{Mark}
use Rattle.pc_spec_reading.specs.Arguments.{has_instances, static_argument, static_arguments}
use Rattle.pc_spec_reading.specs.Item.{instantiate_module_item}
use Rattle.pc_spec_reading.specs.Modules.{add_static, instantiate_module, next_order, read_core_instance}
use Rattle.pc_spec_reading.specs.Outcome.{Fault, found, invalid}
use Rattle.pc_spec_reading.specs.Rows.{read_row}
use Rattle.pc_spec_reading.specs.Scope.{Moment, Scope, add_entry, of_module, with_core_instance}
use Rattle.pc_spec_reading.specs.Value.{Module}
use Rattle.pc_dfg.specs.declared.core_def.CoreDef.{CoreDef}
use Rattle.pc_dfg.specs.declared.dfg.ComponentDfg.{ComponentDfg}
use Rattle.pc_dfg.specs.declared.instance.Instance.{Instance}
use Rattle.pc_dfg.specs.declared.instance.Instance.TheVariants as source
use Rattle.pc_dfg.specs.Effects.{means_static}
use Rattle.pc_dfg.specs.Grows as graph
use Rattle.pc_dfg.specs.declared.push_error.PushError.{PushError}
use Rattle.pc_dfg.specs.declared.push_error.PushError.TheVariants as push_error
use Rattle.pc_dfg.specs.Lists as list
use Rattle.pc_dfg.specs.Lists.{entries_of}
use Rattle.pc_dfg.specs.Held.{HasBegun, HeldInstance, IsHeld}
use Rattle.pc_dfg.specs.Means.{Means}
use Rattle.pc_dfg.specs.Ordered.{IsOrdered}
use Rattle.pc_dfg.specs.Pushed.{with_instance}
use Rattle.pc_dfg.proofs.AllLemmas.{all_more, all_none, all_one}
use Rattle.pc_inline_state.specs.declared.definition.DefinitionId.{DefinitionId}
use Rattle.pc_inline_state.specs.declared.error.ItemError.{ItemError}
use Rattle.pc_inline_state.specs.declared.error.ItemError.TheVariants as item_error
use Rattle.pc_inline_state.specs.declared.error.ItemFault.TheVariants as item_fault
use Rattle.pc_inline_state.specs.declared.frame.CoreInstance.TheVariants as instance
use Rattle.pc_inline_state.specs.declared.frame.Frame.{Frame}
use Rattle.pc_inline_state.specs.declared.instance_module.InstanceModule.{InstanceModule}
use Rattle.pc_inline_state.specs.declared.instance_module.InstanceModule.TheVariants as of
use Rattle.pc_inline_state.specs.declared.state.State.{State}
use Rattle.pc_inline_state.specs.Adds.{Adds}
use Rattle.pc_inline_state.specs.Faults.{of_push_error}
use Rattle.pc_inline_state.specs.Fits.{Fits, FitsBefore}
use Rattle.pc_inline_state.specs.Found.{ArgumentStands, ArgumentsStand}
use Rattle.pc_inline_state.specs.Frames.{Both, FrameStands, ModuleStands, made_stands}
use Rattle.pc_inline_state.specs.Holds.{Numbered, number_of, whole_of}
use Rattle.pc_inline_state.specs.Instances.{made_of_static}
use Rattle.pc_inline_state.specs.Points.{PointStands, Steps, StepsItem}
use Rattle.pc_inline_state.specs.Stands.{CoreStands}
use Rattle.pc_inline_state.specs.Tables.{IsItem, Keeps, Tables, tables_of}
use Rattle.pc_inline_state.proofs.AddsLemmas.{everywhere_few}
use Rattle.pc_inline_state.proofs.AddsPushLemmas.{instance_adds}
use Rattle.pc_inline_state.proofs.FitsLemmas.{fits_grown}
use Rattle.pc_inline_state.proofs.GrowthLemmas.{graph_crowded, graph_grown}
use Rattle.pc_inline_state.proofs.StateLemmas.{types_refl}
use Rattle.pc_inline_state.proofs.ZipLemmas.{both_missing, both_there, zip_at, zip_length, zip_more}
use Rattle.pc_inline_canon.proofs.CoreInstanceLemmas.{item_held}
use Rattle.pc_inline_canon.proofs.FrameLemmas.{framed_point, instance_framed}
use Rattle.pc_inline_canon.proofs.KeptLemmas.{core_kept}
use Rattle.pc_inline_canon.proofs.StepLemmas.{steps_full, steps_on, steps_stuck}
use Rattle.pc_inline_modules.specs.declared.modules.ModuleSource.TheVariants as module_kind
use Rattle.pc_inline_modules.specs.Sources.{module_source}
use Rattle.pc_inline_modules.proofs.AddedInstanceLemmas.{InstanceStands, IsUsable, added_point}
use Rattle.pc_inline_modules.proofs.SourceLemmas.{ModuleIs, module_is, no_source, static_source}

-- what a module is given, one for each of its imports
given_record : (ms : List ModuleRecord) (s : Scope) (args : List (List ℕ × ℕ)) (o : Option ModuleRecord)
    (vs : List (CoreValue Mark)) → option_and_then (static_arguments ms s args) o ≡ Some vs
    → (r : ModuleRecord) × (o ≡ Some r) × (length vs ≡ length r.imports)
unfolding static_arguments
given_record ms s args None vs h = absurd (none-some vs h)
given_record ms s args (Some r) vs h = (r, refl, by (has_instances s args) h)
  where
    by : (known : Bool) → (if known then map_all (static_argument ms s args) r.imports else None) ≡ Some vs
        → length vs ≡ length r.imports
    by true h = length-map_all (static_argument ms s args) r.imports vs h
    by false h = absurd (none-some vs h)

-- these definitions, or nothing, are what a module is given
abbrev pub IsGiven : List ModuleRecord → State → Frame → List (List ℕ × ℕ) → StaticModuleIndex → Option (List CoreDef)
    → Type 0
IsGiven ms st f args m defs =
    (s : Scope) → FrameStands ms (tables_of st) f s → Both (ArgumentsStand ms (tables_of st)) defs
    (option_and_then (static_arguments ms s args) (slice_get ms m.0))

module _ (b : Tables) (g : ComponentDfg) where
  -- what is kept where the graph alone has grown, by a core instance
  pub instance_keeps : {A E : Type 0} (r : Result A E) (x : Instance) (owner : RuntimeComponentInstanceIndex)
      → graph.Grows b.graph g → OnOk r (g ≡ with_instance b.graph x owner)
      → OnErr r ((g ≡ b.graph) ⊎ (g ≡ record b.graph { instances = b.graph.instances ++ x ∷ [] }))
      → Keeps b (record b { graph = g })
  instance_keeps (Ok done) x owner grows ok err =
      graph_grown b g grows
      (fits_grown b.graph g grows (λ i. (ok i).imported_resources) (λ i. (ok i).resources))
  instance_keeps (Err e) x owner grows ok err = graph_grown b g grows (elim err as (λ _. FitsBefore b.graph g) [
    | inl same ↦ fits_grown b.graph g grows (λ i. (same i).imported_resources) (λ i. (same i).resources)
    | inr more ↦ fits_grown b.graph g grows (λ i. (more i).imported_resources) (λ i. (more i).resources)
  ])

  -- a core instance adds an entry to some lists
  pub instance_few : (t : TypeTable) {A E : Type 0} (r : Result A E) (x : Instance)
      (owner : RuntimeComponentInstanceIndex) → OnOk r (g ≡ with_instance b.graph x owner)
      → OnErr r ((g ≡ b.graph) ⊎ (g ≡ record b.graph { instances = b.graph.instances ++ x ∷ [] }))
      → Adds t 4 b (record b { graph = g })
  instance_few t r x owner ok err =
      everywhere_few t b (record b { graph = g }) (instance_adds b g r x owner ok err)

-- there was no room for a core instance
pub instance_full : (t : TypeTable) (ms : List ModuleRecord) (reads : Moment → Result Moment Fault) (st st' : State)
    (f : Frame) (g : ComponentDfg) (f' : Frame) (r : Result ⊤ ItemError) {A : Type 0} (q : Result A PushError)
    (x : PushError) → q ≡ Err x
    → (q ≡ Err push_error.TooMany → 4294967295 ≤ length (entries_of st'.graph list.instances))
    → graph.Grows st'.graph g → IsErrAnd r (λ e. e ≡ of_push_error x)
    → Steps t ms reads st f (record st' { graph = g }) f' r
instance_full t ms reads st st' f g f' r q x was full grows is =
    steps_full t ms reads st f (record st' { graph = g }) f' r x is (λ many.
    graph_crowded (tables_of (record st' { graph = g })) st'.graph grows list.instances (full (was ∙ ap Err many)))

-- the values of definitions, with numbers and whole
record AreNumbered (types : Types) (g : ComponentDfg) (ds : List CoreDef) (vs : List (CoreValue Mark)) : Type 0
  where
    pub numbered : List (CoreValue (Numbered types (Fits g)))
    pub means : AllZip (Means g) ds (map (map_value (number_of types (Fits g))) numbered)
    pub is : map (map_value (whole_of types (Fits g))) numbered ≡ vs

-- values that stand so have both
are_numbered : (types : Types) (g : ComponentDfg) (ds : List CoreDef) (vs : List (CoreValue Mark))
    → AllZip (CoreStands types g) ds vs → AreNumbered types g ds vs
are_numbered types g [] [] h = record { numbered = []; means = tt; is = refl }
are_numbered types g [] (v ∷ vs) h = absurd h
are_numbered types g (d ∷ ds) [] h = absurd h
are_numbered types g (d ∷ ds) (v ∷ vs) h =
    let rest = are_numbered types g ds vs h.1 in
    let first = h.0 in
    record {
      numbered = first.numbered ∷ rest.numbered;
      means = (first.means, rest.means);
      is = λ i. first.is i ∷ rest.is i;
    }

-- arguments are core items
arguments_usable : (ms : List ModuleRecord) (st : State) (ds : List CoreDef) (vs : List (CoreValue Mark))
    → ArgumentsStand ms (tables_of st) ds vs → All (λ d. (k : CoreKind) × IsItem ms st.graph k d) ds
arguments_usable ms st [] vs h = all_none (λ d. (k : CoreKind) × IsItem ms st.graph k d)
arguments_usable ms st (d ∷ ds) [] h = absurd h
arguments_usable ms st (d ∷ ds) (v ∷ vs) h =
    let first = h.0 in
    All-append (λ d. (k : CoreKind) × IsItem ms st.graph k d) (d ∷ []) ds
    (all_one (λ d. (k : CoreKind) × IsItem ms st.graph k d) d (first.kind, first.usable))
    (arguments_usable ms st ds vs h.1)

module _ (ms : List ModuleRecord) (st : State) (m : StaticModuleIndex) (ds : List CoreDef)
    (vs : List (CoreValue Mark)) (stands : ArgumentsStand ms (tables_of st) ds vs) where
  -- a handed-in module is given as many items as it imports
  static_usable : (r : ModuleRecord) → slice_get ms m.0 ≡ Some r → length ds ≡ length r.imports
      → IsUsable ms st.graph (source.Static m ds)
  unfolding HeldInstance
  static_usable r held count = record {
    static = λ n args last. subst (λ (x : StaticModuleIndex × List CoreDef). (r : ModuleRecord)
        × (slice_get ms x.0.0 ≡ Some r)
        × (length x.1 ≡ length r.imports) × All (λ d. (k : CoreKind) × IsItem ms st.graph k d) x.1)
        (parts n args last) (r, held, count, arguments_usable ms st ds vs stands);
    host = λ n args last. absurd (let k : ⊥ = cc in k);
    held = all_more (λ d. (k : CoreKind) × IsItem ms st.graph k d) (IsHeld st.graph)
        (λ d x. item_held ms st.graph x.0 d x.1) ds (arguments_usable ms st ds vs stands);
  }
    where
      parts : (n : StaticModuleIndex) (args : List CoreDef) → source.Static m ds ≡ source.Static n args
          → ◌≡◌ {A = StaticModuleIndex × List CoreDef} (m, ds) (n, args)
      parts n args same = let a : m ≡ n = cc in let b : ds ≡ args = cc in λ i. (a i, b i)

  module _ (owner : RuntimeComponentInstanceIndex)
      (grows : graph.Grows st.graph (with_instance st.graph (source.Static m ds) owner)) where
    -- the core instance does what the instantiation says
    static_stands : InstanceStands st.types (with_instance st.graph (source.Static m ds) owner) (source.Static m ds)
        (of_static m.0 vs)
    static_stands =
        let after = with_instance st.graph (source.Static m ds) owner in
        let values = are_numbered st.types after ds vs
        (zip_more (ArgumentStands ms (tables_of st)) (CoreStands st.types after)
        (λ d v a. core_kept st.types st.types st.graph after (types_refl st.types) grows
        (fits_grown st.graph after grows refl refl) d v a.stands) ds vs stands) in
        record {
          numbered = of_static m.0 values.numbered;
          means = means_static values.means;
          is = λ i. of_static m.0 (values.is i);
        }

module _ (t : TypeTable) (ms : List ModuleRecord) (st : State) (f : Frame) (n : ℕ) (args : List (List ℕ × ℕ)) where
  -- the module, in the code and in the reading
  pub module_found : (now : Moment) → PointStands t ms st f now
      → Both (ModuleStands ms (tables_of st)) (slice_get f.modules n) (slice_get now.scope.modules n)
  module_found now at =
      zip_at (ModuleStands ms (tables_of st)) f.modules now.scope.modules n at.frame.modules

  -- there is no such module
  pub module_missing : (st' : State) (f' : Frame) → slice_get f.modules n ≡ None
      → StepsItem t ms (instantiate_module_item n args) st f st' f' (Err (item_error.Fault item_fault.Invalid))
  unfolding read_row read_core_instance
  module_missing st' f' none = steps_stuck t ms _ st f st' f' item_fault.Invalid (λ now at.
      ap (λ o. found invalid o (instantiate_module t ms now args))
      (both_missing (ModuleStands ms (tables_of st)) _ _ (module_found now at) none))

  module _ (id : DefinitionId) (at_n : slice_get f.modules n ≡ Some id) where
    -- the module of the reading, and what it is in the code
    pub module_there : (now : Moment) → PointStands t ms st f now
        → (x : Module) × (slice_get now.scope.modules n ≡ Some x)
        × ModuleIs ms (tables_of st) x (option_and_then module_source (slice_get st.definitions id.0))
    module_there now at =
        let x = both_there (ModuleStands ms (tables_of st)) _ _ id (module_found now at) at_n in
        (x.0, x.1, module_is ms (tables_of st) id x.0 x.2)

    -- each module was handed in or is one of the host
    pub module_other : (st' : State) (f' : Frame)
        → option_and_then module_source (slice_get st.definitions id.0) ≡ None
        → StepsItem t ms (instantiate_module_item n args) st f st' f' (Err (item_error.Fault item_fault.Invalid))
    module_other st' f' none = steps_stuck t ms _ st f st' f' item_fault.Invalid (λ now at.
        let x = module_there now at in
        absurd (no_source ms (tables_of st) x.0 _ x.2 none))

    module _ (m : StaticModuleIndex)
        (is : option_and_then module_source (slice_get st.definitions id.0) ≡ Some (module_kind.Static m)) where
      -- what the row makes of it
      module_row : (now : Moment) → PointStands t ms st f now
          → read_row t ms now (instantiate_module_item n args)
          ≡ found invalid (option_and_then (static_arguments ms now.scope args) (slice_get ms m.0))
          (λ (vs : List (CoreValue Mark)). Ok (add_static now m.0 vs))
      unfolding read_row read_core_instance
      module_row now at =
          let x = module_there now at in
          let s = static_source ms (tables_of st) x.0 _ m x.2 is in
          ap (λ o. found invalid o (instantiate_module t ms now args)) x.1
          ∙ ap (instantiate_module t ms now args) s.1

      -- an argument is missing
      pub module_stuck : (st' : State) (f' : Frame) (o : Option (List CoreDef)) → o ≡ None → IsGiven ms st f args m o
          → StepsItem t ms (instantiate_module_item n args) st f st' f' (Err (item_error.Fault item_fault.Invalid))
      module_stuck st' f' o none given = steps_stuck t ms _ st f st' f' item_fault.Invalid (λ now at.
          module_row now at
          ∙ ap (λ o. found invalid o (λ (vs : List (CoreValue Mark)). Ok (add_static now m.0 vs)))
          (both_missing (ArgumentsStand ms (tables_of st)) o _ (given now.scope at.frame) none))

      -- the core instance is made, and its module is known
      pub module_made : (ds : List CoreDef) (g : ComponentDfg) (modules : Vec InstanceModule Global) (f' : Frame)
          (i : InstanceId) (r : ⊤)
          → (o : Option (List CoreDef)) → o ≡ Some ds → IsGiven ms st f args m o
          → g ≡ with_instance st.graph (source.Static m ds) f.component_instance → graph.Grows st.graph g
          → (HeldInstance st.graph (source.Static m ds) → HasBegun st.graph f.component_instance.0
          → IsOrdered st.graph → IsOrdered g)
          → i.0 ≡ length st.graph.instances → modules.items ≡ st.runtime_instances.items ++ of.Static m ∷ []
          → f' ≡ record f { core_instances = f.core_instances ++ instance.Made i m ∷ [] }
          → StepsItem t ms (instantiate_module_item n args) st f
          (record st { graph = g; runtime_instances = modules }) f' (Ok r)
      module_made ds g modules f' i r o some given made grows ordered number named framed =
          subst (λ (h : ComponentDfg). StepsItem t ms (instantiate_module_item n args) st f
          (record st { graph = h; runtime_instances = modules }) f' (Ok r))
          (sym made) (steps_on t ms _ st f _ f' r (λ now at.
          let vs = both_there (ArgumentsStand ms (tables_of st)) o _ ds (given now.scope at.frame) some in
          let x = given_record ms now.scope args (slice_get ms m.0) vs.0 vs.1 in
          let h = with_instance st.graph (source.Static m ds) f.component_instance in
          let st' = record st { graph = h; runtime_instances = modules } in
          let count = zip_length (ArgumentStands ms (tables_of st)) ds vs.0 vs.2 ∙ x.2 in
          let more = subst (graph.Grows st.graph) made grows in
          let here = slice_get-append_seam st.graph.instances (source.Static m ds) [] in
          let after = added_point t ms st (source.Static m ds) f.component_instance more modules (of.Static m) named
          (made_of_static here) f now (of_static m.0 vs.0)
          (static_usable ms st m ds vs.0 vs.2 x.0 x.1 count)
          (static_stands ms st m ds vs.0 vs.2 f.component_instance more) refl
          (λ a c o. subst IsOrdered made (ordered a c o)) at in
          let entered = subst (λ c. PointStands t ms st' f (add_entry now (instantiated (of_static m.0 vs.0) c)))
          (sym at.frame.component_instance) after in
          let order : i.0 ≡ next_order now = number ∙ sym at.world.order in
          let frame = instance_framed ms (tables_of st') f now.scope entered.frame (instance.Made i m)
          (of_module i.0 m.0) (made_stands (ap (slice_get h.instances) number ∙ here)) in
          record {
            now = add_static now m.0 vs.0;
            stands = subst (λ fr. PointStands t ms st' fr (add_static now m.0 vs.0)) (sym framed)
                (subst (λ o. PointStands t ms st'
                (record f { core_instances = f.core_instances ++ instance.Made i m ∷ [] }) (record (add_entry now
                (instantiated (of_static m.0 vs.0) now.scope.component_instance)) {
                  scope = with_core_instance now.scope (of_module o m.0);
                })) order
                (framed_point t ms st' f (record f { core_instances = f.core_instances ++ instance.Made i m ∷ [] }) _
                (with_core_instance now.scope (of_module i.0 m.0)) entered refl refl refl frame));
            done = module_row now at
                ∙ ap (λ o. found invalid o (λ (vs : List (CoreValue Mark)). Ok (add_static now m.0 vs))) vs.1;
          }))
