-- Arguments and modules as the plan has them stand for what they stand for in the graph.
use Rattle.std.proofs.Common.{◌≡◌, ◌<◌, ◌++◌, ℕ, true, List, [], ◌∷◌, length, map, All, Some, refl}
use Rattle.std.proofs.Common.{sym, ap, subst, ◌∙◌, arith, eq-eqb}
use Rattle.std.specs.Prelude.{option_map, slice_get}
use Rattle.std.specs.List.{AllZip, flat_map}
use Rattle.std.proofs.lemmas.Bool.{lt-ltb}
use Rattle.std.proofs.lemmas.List.{map-append}
use Rattle.std.proofs.lemmas.List.Concat.{flat_map-cons}
use Rattle.std.proofs.lemmas.Option.{slice_get-map}
use Rattle.std.proofs.lemmas.Simd.{map-map}
use Rattle.std.proofs.lemmas.Slice.Zip.{AllZip-long}
use Rattle.pc_entity.specs.Lists.{map_all}
use Rattle.pc_entity.proofs.Elements.{true_and}
use Rattle.pc_entity.proofs.LookupLemmas.{found_at}
use Rattle.pc_entity.proofs.MapAll.{map_all_cons}
use Rattle.pc_numbers.specs.declared.component_entity.StaticModuleIndex.{StaticModuleIndex}
use Rattle.pc_numbers.specs.declared.runtime.RuntimeImportIndex.{RuntimeImportIndex}
use Rattle.pc_types.specs.TypeTree.{Path}
use Rattle.pc_spec_plan.specs.CoreValue.{CoreValue}
use Rattle.pc_spec_plan.specs.Log.{Entry, NamedArgument, of_host, of_static}
use Rattle.pc_spec_plan.specs.Machine.{State, add_instance, is_counted, path_of, resolve, resolve_named, step}
use Rattle.pc_spec_plan.specs.PlanView as plan
use Rattle.pc_trampoline.specs.declared.part.Mark.{Mark}
use Rattle.pc_info.specs.declared.module.ModuleTranslation.{ModuleTranslation}
use Rattle.pc_info.specs.Definitions.{argument_view, arguments_view, def_view}
use Rattle.pc_info.specs.View.{import_type_view, import_view}
use Rattle.pc_dfg.specs.declared.core_def.CoreDef.{CoreDef}
use Rattle.pc_dfg.specs.declared.dfg.ComponentDfg.{ComponentDfg}
use Rattle.pc_dfg.specs.declared.instance.Instance.TheVariants as source
use Rattle.pc_dfg.specs.Effects.{Argument, MeansArgument, host_arguments}
use Rattle.pc_dfg.specs.Held.{AreHeld, HoldsEntry}
use Rattle.pc_dfg.specs.Lists as list
use Rattle.pc_dfg.specs.Means.{HasPath, Means}
use Rattle.pc_dfg_linearize.specs.declared.state.Finish.{Finish}
use Rattle.pc_dfg_linearize.specs.Arguments.{CanNumber, IsNumbered, host_defs, host_in, named_in}
use Rattle.pc_dfg_linearize.specs.Converted.{def_in}
use Rattle.pc_dfg_linearize.specs.Plan.{Extends}
use Rattle.pc_dfg_linearize.specs.Reached.{Reached, all_linked}
use Rattle.pc_dfg_linearize.specs.Wired.{IsWired, Occurs}
use Rattle.pc_dfg_linearize.proofs.AllLemmas.{all_first, all_rest}
use Rattle.pc_dfg_linearize.proofs.DefLemmas.{def_resolves, handed_in_at}

-- the argument of a host module as the plan has it
abbrev named_view : ComponentDfg → Finish → Argument → plan.NamedDefinition
named_view g f a = record { module_name = a.0; name = a.1.0; definition = def_view (def_in g f a.1.1) }

-- the arguments of a host module in one list
host_view : (g : ComponentDfg) (f : Finish) (args : List (List ℕ × List (List ℕ × CoreDef)))
    → flat_map arguments_view (host_in g f args) ≡ map (named_view g f) (host_arguments args)
host_view g f [] = refl
host_view g f (m ∷ ms) =
    flat_map-cons arguments_view (m.0, named_in g f m.1) (host_in g f ms)
    ∙ (λ i. same i ++ host_view g f ms i)
    ∙ sym (ap (map (named_view g f)) (flat_map-cons of m ms)
    ∙ map-append (named_view g f) (of m) (host_arguments ms))
  where
    of : List ℕ × List (List ℕ × CoreDef) → List Argument
    of x = map (λ a. (x.0, a)) x.1

    same : arguments_view (m.0, named_in g f m.1) ≡ map (named_view g f) (of m)
    same =
        map-map (argument_view m.0) (λ (a : List ℕ × CoreDef). (a.0, def_in g f a.1)) m.1
        ∙ sym (map-map (named_view g f) (λ (a : List ℕ × CoreDef). (m.0, a)) m.1)

module _ {g : ComponentDfg} {ms : List ModuleTranslation} {f : Finish} {s : State Mark} {trace : List (Entry Mark)}
    {p : plan.PlanView Mark} (wired : IsWired g ms) (reached : Reached g ms f s trace) (extends : Extends g ms f p)
  where
    -- a definition as the plan has it stands for its values
    abbrev pub Resolves : CoreDef → Type 0
    Resolves d = (v : CoreValue Mark) → Means g d v → resolve p s (def_view (def_in g f d)) ≡ Some v

    pub each_resolves : (ds : List CoreDef) → All (Occurs g) ds → All (CanNumber g (length f.instances)) ds
        → All (IsNumbered g f) ds → All Resolves ds
    each_resolves ds occurs can numbered k d below v means =
        let ready = can k d below in
        def_resolves wired (occurs k d below) reached means ready.itself (numbered k d below) extends

    -- arguments resolve to their values
    pub all_resolve : (ds : List CoreDef) (vs : List (CoreValue Mark)) → All Resolves ds → AllZip (Means g) ds vs
        → map_all (resolve p s) (map def_view (map (def_in g f) ds)) ≡ Some vs
    all_resolve [] [] all zip = refl
    all_resolve [] (v ∷ vs) all zip = absurd zip
    all_resolve (d ∷ ds) [] all zip = absurd zip
    all_resolve (d ∷ ds) (v ∷ vs) all zip =
        map_all_cons (resolve p s) (def_view (def_in g f d)) (map def_view (map (def_in g f) ds)) v vs
        (all_first Resolves d ds all v zip.0) (all_resolve ds vs (all_rest Resolves d ds all) zip.1)

    -- named ones too
    all_named : (xs : List Argument) (vs : List (NamedArgument Mark)) → All Resolves (map (λ (a : Argument). a.1.1) xs)
        → AllZip (MeansArgument g) xs vs → map_all (resolve_named p s) (map (named_view g f) xs) ≡ Some vs
    all_named [] [] all zip = refl
    all_named [] (v ∷ vs) all zip = absurd zip
    all_named (a ∷ xs) [] all zip = absurd zip
    all_named (a ∷ xs) (v ∷ vs) all zip =
        let rest = map (λ (b : Argument). b.1.1) xs in
        let means = zip.0 in
        let is = all_first Resolves a.1.1 rest all v.value means.value in
        let core = means.module_name in
        let name = means.name in
        let one : resolve_named p s (named_view g f a) ≡ Some v =
        ap (option_map (λ w. record { module_name = a.0; name = a.1.0; value = w })) is
        ∙ (λ i. Some (record { module_name = sym core i; name = sym name i; value = v.value })) in
        map_all_cons (resolve_named p s) (named_view g f a) (map (named_view g f) xs) v vs one
        (all_named xs vs (all_rest Resolves a.1.1 rest all) zip.1)

    -- a component instance of the graph is one of the plan's
    pub counted_here : (c : ℕ) → c < g.num_runtime_component_instances → is_counted p c ≡ true
    counted_here c within = lt-ltb c p.counts.component_instances
        (let same = extends.has.component_instances in omega arith)

    -- the path of a host item is that of the plan
    pub path_here : AreHeld g → (r : ℕ) (path : Path) → HasPath g r path → path_of p r ≡ Some path
    unfolding HoldsEntry
    path_here held r path at =
        let within = held list.imports r (record { 0 = path.import }, path.names) at in
        let found = found_at g.import_types path.import within in
        let import : slice_get p.imports r ≡ Some (record { import_type = path.import; names = path.names }) =
        ap (λ (l : List plan.RuntimeImport). slice_get l r) extends.imports ∙ slice_get-map import_view g.imports r
        ∙ ap (option_map import_view) at in
        let type : slice_get p.import_types path.import ≡ Some (import_type_view found.0) =
        ap (λ (l : List (plan.ImportType Mark)). slice_get l path.import) extends.import_types
        ∙ slice_get-map import_type_view g.import_types path.import ∙ ap (option_map import_type_view) found.1 in
        rw (import, type) refl

    -- the step of a module that was handed in
    pub static_goes : (k : ℕ) (m : StaticModuleIndex) (args : List CoreDef) (c : ℕ) (vs : List (CoreValue Mark))
        → slice_get g.instances k ≡ Some (source.Static m args) → c < g.num_runtime_component_instances
        → All Resolves args → AllZip (Means g) args vs
        → step p all_linked s (plan.instantiate_static m.0 (map def_view (map (def_in g f) args)) (Some c))
        ≡ Some (add_instance s (of_static m.0 vs) (Some c))
    static_goes k m args c vs at within all zip =
        let given = wired.arguments k m args at in
        let r = given.0 in
        let there = handed_in_at p m.0 r (subst (λ l. slice_get l m.0 ≡ Some r) (sym extends.has.handed_in) given.1) in
        let long = AllZip-long (Means g) args vs zip in
        let fit = true_and _ _ (eq-eqb (length vs) (length r.imports) (long ∙ given.2)) (counted_here c within) in
        rw (there, all_resolve args vs all zip, fit) refl

    -- the step of a module of the host
    pub host_goes : AreHeld g → (r : RuntimeImportIndex) (args : List (List ℕ × List (List ℕ × CoreDef))) (c : ℕ)
        (path : Path) (vs : List (NamedArgument Mark)) → HasPath g r.0 path → c < g.num_runtime_component_instances
        → All Resolves (host_defs args) → AllZip (MeansArgument g) (host_arguments args) vs
        → step p all_linked s (plan.instantiate_import r.0 (flat_map arguments_view (host_in g f args)) (Some c))
        ≡ Some (add_instance s (of_host path vs) (Some c))
    host_goes held r args c path vs at within all zip =
        let values : map_all (resolve_named p s) (flat_map arguments_view (host_in g f args)) ≡ Some vs =
        ap (map_all (resolve_named p s)) (host_view g f args) ∙ all_named (host_arguments args) vs all zip in
        rw (path_here held r.0 path at, values, counted_here c within) refl
