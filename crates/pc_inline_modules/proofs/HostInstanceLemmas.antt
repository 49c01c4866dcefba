-- How the step of a core instance of a module of the host ends, against its row.
use Rattle.std.proofs.Common.{◌≡◌, ◌≤◌, ◌<◌, ◌+◌, ◌*◌, ℕ, List, [], ◌∷◌, ◌++◌, length, map, Option, Some, None, All, Ok}
use Rattle.std.proofs.Common.{Err, Vec, Global, refl, sym, ap, subst, ◌∙◌, arith}
use Rattle.std.specs.Prelude.{⊤, slice_get, option_and_then}
use Rattle.std.specs.List.{AllZip}
use Rattle.std.proofs.lemmas.List.Elements.{All-append, All-map}
use Rattle.std.proofs.lemmas.Option.{slice_get_within}
use Rattle.pc_entity.proofs.Growing.{slice_get-append_seam}
use Rattle.pc_dfg.specs.declared.ids.InstanceId.{InstanceId}
use Rattle.pc_numbers.specs.declared.runtime.RuntimeImportIndex.{RuntimeImportIndex}
use Rattle.pc_types.specs.declared.module_record.ModuleRecord.{ModuleRecord}
use Rattle.pc_types.specs.declared.parsed.CoreKind.{CoreKind}
use Rattle.pc_types.specs.declared.parsed.TypeTable.{TypeTable}
use Rattle.pc_types.specs.Table.{is_module}
use Rattle.pc_types.specs.TypeTree.{Path, TypeTree}
use Rattle.pc_types_lists.specs.Types.{Types}
use Rattle.pc_spec_plan.specs.Log.{NamedArgument, instantiated, map_argument, needed, of_host}
use Rattle.pc_parsed.specs.Mark.{Mark}
use Rattle.pc_spec_reading.specs.Arguments as reading
use Rattle.pc_spec_reading.specs.Item.{instantiate_module_item}
use Rattle.pc_spec_reading.specs.Modules.{add_host, instantiate_module, next_order, read_core_instance}
use Rattle.pc_spec_reading.specs.Outcome.{found, invalid}
use Rattle.pc_spec_reading.specs.Rows.{read_row}
use Rattle.pc_spec_reading.specs.Scope.{Moment, Scope, add_entry, of_host_module, with_core_instance}
use Rattle.pc_dfg.specs.declared.core_def.CoreDef.{CoreDef}
use Rattle.pc_dfg.specs.declared.dfg.ComponentDfg.{ComponentDfg}
use Rattle.pc_dfg.specs.declared.instance.Instance.TheVariants as source
use Rattle.pc_dfg.specs.Effects.{Argument, MeansArgument, host_arguments, means_host}
use Rattle.pc_dfg.specs.Grows as graph
use Rattle.pc_dfg.specs.Held.{HasBegun, HeldInstance, IsHeld}
use Rattle.pc_dfg.specs.Means.{HasPath}
use Rattle.pc_dfg.specs.Names.{in_instance}
use Rattle.pc_dfg.specs.Ordered.{IsOrdered}
use Rattle.pc_dfg.specs.Lists as list
use Rattle.pc_dfg.specs.Lists.{ListName}
use Rattle.pc_dfg.specs.Pushed.{with_instance}
use Rattle.pc_dfg.proofs.AllLemmas.{all_more, all_none, all_one}
use Rattle.pc_inline_paths.specs.declared.path_id.PathId.{PathId}
use Rattle.pc_inline_state.specs.declared.definition.DefinitionId.{DefinitionId}
use Rattle.pc_inline_state.specs.declared.error.ItemError.TheVariants as item_error
use Rattle.pc_inline_state.specs.declared.error.ItemFault.TheVariants as item_fault
use Rattle.pc_inline_state.specs.declared.frame.CoreInstance.TheVariants as instance
use Rattle.pc_inline_state.specs.declared.frame.Frame.{Frame}
use Rattle.pc_inline_state.specs.declared.instance_module.InstanceModule.{InstanceModule}
use Rattle.pc_inline_state.specs.declared.instance_module.InstanceModule.TheVariants as of
use Rattle.pc_inline_state.specs.declared.state.State.{State}
use Rattle.pc_inline_state.specs.Adds.{Adds}
use Rattle.pc_inline_state.specs.AddsEach.{AddsEach, everywhere, in_imports}
use Rattle.pc_inline_state.specs.Fits.{Fits}
use Rattle.pc_inline_state.specs.Frames.{Both, FrameStands, host_stands}
use Rattle.pc_inline_state.specs.Holds.{Numbered, number_of, whole_of}
use Rattle.pc_inline_state.specs.Instances.{made_of_import}
use Rattle.pc_inline_state.specs.Points.{IsPoint, PointStands, StepsItem}
use Rattle.pc_inline_state.specs.Stands.{IsHostType, IsTableTree}
use Rattle.pc_inline_state.specs.Tables.{IsItem, Keeps, Tables, tables_of}
use Rattle.pc_inline_state.proofs.AddsLemmas.{adds_each, each_trans}
use Rattle.pc_inline_state.proofs.GrowthLemmas.{graph_grown}
use Rattle.pc_inline_state.proofs.TypeKeptLemmas.{host_type_kept, table_tree_kept}
use Rattle.pc_inline_state.proofs.ZipLemmas.{both_missing, both_there, zip_more}
use Rattle.pc_inline_canon.specs.Hosts.{Uses}
use Rattle.pc_inline_canon.proofs.CoreInstanceLemmas.{item_held}
use Rattle.pc_inline_canon.proofs.FrameLemmas.{framed_point, instance_framed}
use Rattle.pc_inline_canon.proofs.KeptLemmas.{core_kept, is_item_kept}
use Rattle.pc_inline_canon.proofs.StepLemmas.{steps_on, steps_stuck}
use Rattle.pc_inline_modules.specs.declared.modules.ModuleSource.TheVariants as module_kind
use Rattle.pc_inline_modules.specs.Given.{HostArgumentsStand, NamedStands}
use Rattle.pc_inline_modules.specs.Sources.{module_source}
use Rattle.pc_inline_modules.proofs.AddedInstanceLemmas.{InstanceStands, IsUsable, added_fits, added_point}
use Rattle.pc_inline_modules.proofs.InstantiationLemmas.{module_there}
use Rattle.pc_inline_modules.proofs.SourceLemmas.{host_source}

-- a host item that is used, and then a core instance, add few entries
pub host_few : (t : TypeTable) (a b x : Tables) → AddsEach in_imports 0 0 a b → AddsEach everywhere 0 0 b x
    → Adds t 4 a x
host_few t a b x h k =
    adds_each t (λ l. in_imports l + everywhere l) 0 0 4 a x le (omega arith) (omega arith)
    (each_trans in_imports everywhere 0 0 0 0 a b x h k)
  where
    le : (l : ListName) → in_imports l + everywhere l + 32 * (in_imports list.adapters + everywhere list.adapters) ≤ 4
    le list.imports = omega arith
    le l = omega arith

-- a host item alone
pub use_few : (t : TypeTable) (a b : Tables) → AddsEach in_imports 0 0 a b → Adds t 4 a b
use_few t a b h = adds_each t in_imports 0 0 4 a b le (omega arith) (omega arith) h
  where
    le : (l : ListName) → in_imports l + 32 * in_imports list.adapters ≤ 4
    le list.imports = omega arith
    le l = omega arith

-- what a module of the host is given, or nothing
abbrev pub IsHostGiven : List ModuleRecord → State → Frame → List (List ℕ × ℕ) → (entry : ℕ)
    → Option (List (List ℕ × List (List ℕ × CoreDef))) → Type 0
IsHostGiven ms st f args entry given =
    (s : Scope) (tree : TypeTree) → FrameStands ms (tables_of st) f s
    → IsTableTree ms (tables_of st) is_module entry tree → Both (HostArgumentsStand ms (tables_of st)) given (reading.host_arguments ms s args tree)

-- the values of named arguments, with numbers and whole
record AreNumbered (types : Types) (g : ComponentDfg) (given : List Argument) (xs : List (NamedArgument Mark)) : Type 0
  where
    pub numbered : List (NamedArgument (Numbered types (Fits g)))
    pub means : AllZip (MeansArgument g) given (map (map_argument (number_of types (Fits g))) numbered)
    pub is : map (map_argument (whole_of types (Fits g))) numbered ≡ xs

module _ (ms : List ModuleRecord) (b c : Tables) (keeps : Keeps b c) where
  -- a named argument stands for what it stood for
  named_kept : (a : Argument) (x : NamedArgument Mark) → NamedStands ms b a x → NamedStands ms c a x
  named_kept a x h = record {
    module_name = h.module_name;
    name = h.name;
    value = record {
      kind = h.value.kind;
      stands = core_kept b.types c.types b.graph c.graph keeps.types keeps.graph keeps.fits a.1.1 x.value
          h.value.stands;
      usable = is_item_kept ms b.graph c.graph keeps.graph h.value.kind a.1.1 h.value.usable;
    };
  }

module _ (ms : List ModuleRecord) (b : Tables) where
  -- named arguments are core items
  named_usable : (given : List Argument) (xs : List (NamedArgument Mark)) → AllZip (NamedStands ms b) given xs
      → All (λ (a : Argument). (k : CoreKind) × IsItem ms b.graph k a.1.1) given
  named_usable [] xs h = all_none (λ (a : Argument). (k : CoreKind) × IsItem ms b.graph k a.1.1)
  named_usable (a ∷ rest) [] h = absurd h
  named_usable (a ∷ rest) (x ∷ xs) h =
      let first = h.0 in
      All-append (λ (a : Argument). (k : CoreKind) × IsItem ms b.graph k a.1.1) (a ∷ []) rest
      (all_one (λ (a : Argument). (k : CoreKind) × IsItem ms b.graph k a.1.1) a (first.value.kind, first.value.usable))
      (named_usable rest xs h.1)

  -- with numbers
  named_numbered : (given : List Argument) (xs : List (NamedArgument Mark)) → AllZip (NamedStands ms b) given xs
      → AreNumbered b.types b.graph given xs
  named_numbered [] [] h = record { numbered = []; means = tt; is = refl }
  named_numbered [] (x ∷ xs) h = absurd h
  named_numbered (a ∷ rest) [] h = absurd h
  named_numbered (a ∷ rest) (x ∷ xs) h =
      let later = named_numbered rest xs h.1 in
      let first = h.0 in
      let value = first.value.stands in
      record {
        numbered = record { module_name = x.module_name; name = x.name; value = value.numbered } ∷ later.numbered;
        means = (
          record { module_name = first.module_name; name = first.name; value = value.means },
          later.means,
        );
        is = λ i. record { module_name = x.module_name; name = x.name; value = value.is i } ∷ later.is i;
      }

module _ (ms : List ModuleRecord) (st : State) (r : RuntimeImportIndex)
    (given : List (List ℕ × List (List ℕ × CoreDef))) (vs : List (NamedArgument Mark)) (p : Path)
    (path : HasPath st.graph r.0 p) where
  -- a module of the host is given core items under names
  host_usable : HostArgumentsStand ms (tables_of st) given vs → IsUsable ms st.graph (source.Import r given)
  unfolding HeldInstance in_instance
  host_usable stands = record {
    static = λ m args last. absurd (let k : ⊥ = cc in k);
    host = λ n args last. subst (λ (xs : List (List ℕ × List (List ℕ × CoreDef))).
        All (λ (a : Argument). (k : CoreKind) × IsItem ms st.graph k a.1.1) (host_arguments xs)) (parts n args last)
        (named_usable ms (tables_of st) (host_arguments given) vs stands);
    held = (
      slice_get_within st.graph.imports r.0 (record { 0 = p.import }, p.names) path,
      All-map (IsHeld st.graph) (λ (a : Argument). a.1.1) (host_arguments given)
          (all_more (λ (a : Argument). (k : CoreKind) × IsItem ms st.graph k a.1.1)
          (λ (a : Argument). IsHeld st.graph a.1.1) (λ a x. item_held ms st.graph x.0 a.1.1 x.1) (host_arguments given)
          (named_usable ms (tables_of st) (host_arguments given) vs stands)),
    );
  }
    where
      parts : (n : RuntimeImportIndex) (args : List (List ℕ × List (List ℕ × CoreDef)))
          → source.Import r given ≡ source.Import n args → given ≡ args
      parts n args same = cc

  -- the core instance does what the instantiation says
  host_does : AllZip (NamedStands ms (tables_of st)) (host_arguments given) vs
      → InstanceStands st.types st.graph (source.Import r given) (of_host p vs)
  host_does stands =
      let values = named_numbered ms (tables_of st) (host_arguments given) vs stands in
      record {
        numbered = of_host p values.numbered;
        means = means_host path values.means;
        is = λ i. of_host p (values.is i);
      }

module _ (t : TypeTable) (ms : List ModuleRecord) (st : State) (f : Frame) (n : ℕ) (args : List (List ℕ × ℕ))
    (id : DefinitionId) (at_n : slice_get f.modules n ≡ Some id) (q : PathId) (entry : ℕ)
    (is : option_and_then module_source (slice_get st.definitions id.0) ≡ Some (module_kind.Host q entry)) where
  -- the module of the host at a moment of the reading
  record HostThere (now : Moment) : Type 0 where
    pub path : Path
    pub tree : TypeTree
    pub held : slice_get st.paths.held q.0 ≡ Some path
    pub given : IsHostType ms (tables_of st) path tree
    pub tabled : IsTableTree ms (tables_of st) is_module entry tree
    pub row : read_row t ms now (instantiate_module_item n args)
        ≡ found invalid (reading.host_arguments ms now.scope args tree)
        (λ (vs : List (NamedArgument Mark)). Ok (add_host now path tree vs))

  -- there is one
  host_there : (now : Moment) → PointStands t ms st f now → HostThere now
  unfolding read_row read_core_instance
  host_there now at =
      let x = module_there t ms st f n args id at_n now at in
      let s = host_source ms (tables_of st) x.0 _ q entry x.2 is in
      record {
        path = s.0;
        tree = s.1;
        held = s.2;
        given = s.3;
        tabled = s.4;
        row = ap (λ o. found invalid o (instantiate_module t ms now args)) x.1
            ∙ ap (instantiate_module t ms now args) s.5;
      }

  -- its path is one of the state
  pub host_path : IsPoint t ms st f → q.0 < length st.paths.held
  host_path here = let x = host_there here.0 here.1 in slice_get_within st.paths.held q.0 x.path x.held

  -- an argument is missing
  pub host_stuck : (st' : State) (f' : Frame) (o : Option (List (List ℕ × List (List ℕ × CoreDef)))) → o ≡ None
      → IsHostGiven ms st f args entry o
      → StepsItem t ms (instantiate_module_item n args) st f st' f' (Err (item_error.Fault item_fault.Invalid))
  host_stuck st' f' o none given = steps_stuck t ms _ st f st' f' item_fault.Invalid (λ now at.
      let x = host_there now at in
      x.row ∙ ap (λ o. found invalid o (λ (vs : List (NamedArgument Mark)). Ok (add_host now x.path x.tree vs)))
      (both_missing (HostArgumentsStand ms (tables_of st)) o _ (given now.scope x.tree at.frame x.tabled) none))

  module _ (mid : State) (r : RuntimeImportIndex) (keeps : Keeps (tables_of st) (tables_of mid))
      (uses : (p : Path) → slice_get st.paths.held q.0 ≡ Some p → Uses t ms st mid p r)
      (instances : mid.graph.instances ≡ st.graph.instances) where
    -- the core instance is made, and its module is known
    pub host_made : (given : List (List ℕ × List (List ℕ × CoreDef))) (g : ComponentDfg)
        (modules : Vec InstanceModule Global) (f' : Frame) (i : InstanceId) (done : ⊤)
        → (o : Option (List (List ℕ × List (List ℕ × CoreDef)))) → o ≡ Some given
        → IsHostGiven ms st f args entry o
        → g ≡ with_instance mid.graph (source.Import r given) f.component_instance → graph.Grows mid.graph g
        → (HeldInstance mid.graph (source.Import r given) → HasBegun mid.graph f.component_instance.0
        → IsOrdered mid.graph → IsOrdered g)
        → i.0 ≡ length mid.graph.instances → modules.items ≡ mid.runtime_instances.items ++ of.Import entry ∷ []
        → f' ≡ record f { core_instances = f.core_instances ++ instance.Host i entry ∷ [] }
        → StepsItem t ms (instantiate_module_item n args) st f
        (record mid { graph = g; runtime_instances = modules }) f' (Ok done)
    host_made given g modules f' i done o some is_given made grows ordered number named framed =
        subst (λ (h : ComponentDfg). StepsItem t ms (instantiate_module_item n args) st f
        (record mid { graph = h; runtime_instances = modules }) f' (Ok done))
        (sym made) (steps_on t ms _ st f _ f' done (λ now at.
        let x = host_there now at in
        let vs = both_there (HostArgumentsStand ms (tables_of st)) o _ given
        (is_given now.scope x.tree at.frame x.tabled) some in
        let used = uses x.path x.held in
        let h = with_instance mid.graph (source.Import r given) f.component_instance in
        let st' = record mid { graph = h; runtime_instances = modules } in
        let more = subst (graph.Grows mid.graph) made grows in
        let named_mid = zip_more (NamedStands ms (tables_of st)) (NamedStands ms (tables_of mid))
        (named_kept ms (tables_of st) (tables_of mid) keeps) (host_arguments given) vs.0 vs.2 in
        let grown = graph_grown (tables_of mid) h more
        (added_fits t ms mid (source.Import r given) f.component_instance more) in
        let named_end = zip_more (NamedStands ms (tables_of mid)) (NamedStands ms (tables_of st'))
        (named_kept ms (tables_of mid) (tables_of st') grown) (host_arguments given) vs.0 named_mid in
        let at_mid = used.stands f now at in
        let tabled = table_tree_kept ms (tables_of mid) (tables_of st') grown is_module entry x.tree
        (table_tree_kept ms (tables_of st) (tables_of mid) keeps is_module entry x.tree x.tabled) in
        let typed = host_type_kept ms (tables_of mid) (tables_of st') grown x.path x.tree
        (host_type_kept ms (tables_of st) (tables_of mid) keeps x.path x.tree x.given) in
        let here = slice_get-append_seam mid.graph.instances (source.Import r given) [] in
        let after = added_point t ms mid (source.Import r given) f.component_instance more modules (of.Import entry)
        named (made_of_import here used.path typed tabled) f (add_entry now (needed x.path)) (of_host x.path vs.0)
        (host_usable ms mid r given vs.0 x.path used.path named_mid)
        (host_does ms st' r given vs.0 x.path used.path named_end) refl
        (λ a c o. subst IsOrdered made (ordered a c o)) at_mid in
        let entered = subst (λ c. PointStands t ms st' f (add_entry (add_entry now (needed x.path))
        (instantiated (of_host x.path vs.0) c))) (sym at.frame.component_instance) after in
        let order : i.0 ≡ next_order now = number ∙ ap length instances ∙ sym at.world.order in
        let frame = instance_framed ms (tables_of st') f now.scope entered.frame (instance.Host i entry)
        (of_host_module i.0 x.tree) (host_stands (record {
          import = r;
          arguments = given;
          made = ap (slice_get h.instances) number ∙ here;
        }) tabled) in
        record {
          now = add_host now x.path x.tree vs.0;
          stands = subst (λ fr. PointStands t ms st' fr (add_host now x.path x.tree vs.0)) (sym framed)
              (subst (λ o. PointStands t ms st'
              (record f { core_instances = f.core_instances ++ instance.Host i entry ∷ [] })
              (record (add_entry (add_entry now (needed x.path))
              (instantiated (of_host x.path vs.0) now.scope.component_instance)) {
                scope = with_core_instance now.scope (of_host_module o x.tree);
              })) order
              (framed_point t ms st' f (record f { core_instances = f.core_instances ++ instance.Host i entry ∷ [] }) _
              (with_core_instance now.scope (of_host_module i.0 x.tree)) entered refl refl refl frame));
          done = x.row
              ∙ ap (λ o. found invalid o (λ (vs : List (NamedArgument Mark)). Ok (add_host now x.path x.tree vs))) vs.1;
        }))
