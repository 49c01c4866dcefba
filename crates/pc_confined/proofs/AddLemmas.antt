-- What items make, lower, declare and instantiate keeps a moment sound.
use Rattle.std.proofs.Common.{◌≡◌, ℕ, Bool, true, false, List, [], ◌∷◌, refl}
use Rattle.std.proofs.Common.{sym, subst, if◌then◌else◌, length}
use Rattle.std.specs.Prelude.{All, map}
use Rattle.std.proofs.lemmas.List.Elements.{All-cons, All-map, Contains-push}
use Rattle.pc_types.specs.declared.parsed.CoreFuncSig.{CoreFuncSig}
use Rattle.pc_types.specs.declared.parsed.CoreKind.TheVariants as core
use Rattle.pc_types.specs.declared.parsed.WasmValType.{WasmValType}
use Rattle.pc_types.specs.declared.trampoline.TrampolineKind.{TrampolineKind}
use Rattle.pc_types.specs.TypeTree.{Path, TypeTree}
use Rattle.pc_spec_plan.specs.CoreValue.{CoreValue, MaybeValue, Options, Parts, adapter, builtin, lowered}
use Rattle.pc_spec_plan.specs.Log.{NamedArgument, declared, declared_resource, instances_of, instantiated, made}
use Rattle.pc_spec_plan.specs.Log.{needed, of_host, of_static}
use Rattle.pc_parsed.specs.Mark.{Mark, of_type}
use Rattle.pc_same_values.proofs.MadeLemmas.{made_there}
use Rattle.pc_spec_reading.specs.Builtins.{declaring}
use Rattle.pc_spec_reading.specs.Functions.{lower_to, making}
use Rattle.pc_spec_reading.specs.Modules.{add_host, add_static}
use Rattle.pc_spec_reading.specs.Resource.{knowing}
use Rattle.pc_spec_reading.specs.Rows.{add_resource}
use Rattle.pc_spec_reading.specs.SameValues.{was_made}
use Rattle.pc_spec_reading.specs.Scope.{Moment, add_core, add_entry}
use Rattle.pc_spec_reading.specs.Scope.{of_host_module, of_module, with_known}
use Rattle.pc_spec_reading.specs.Value.{Function}
use Rattle.pc_spec_reading.specs.Value.{host_function}
use Rattle.pc_spec_reading.specs.Value.{intrinsic_function, lifted_function}
use Rattle.pc_spec_reading.specs.World.{resources_declared}
use Rattle.pc_types.specs.TypeTree as tree
use Rattle.pc_spec_wiring.specs.Confined.{Belongs, Tells, WasMadeFor, adapter_is_of, builtin_is_of, lowering_is_of}
use Rattle.pc_spec_wiring.specs.Held.{instance_of, lifts_of, maybe_list, options_list}
use Rattle.pc_confined.proofs.GrowthLemmas.{entry_grown}
use Rattle.pc_confined.proofs.ScopeLemmas.{both_follow, core_added, entry_added, instance_added}
use Rattle.pc_confined.proofs.ScopeLemmas.{intrinsic_added, known_follows, made_last, needed_none}
use Rattle.pc_confined.proofs.Sound.{AreOptionsOf, Follows, IsSoundFunction}
use Rattle.pc_confined.proofs.Sound.{IsSoundMoment}

module _ (now : Moment) (sound : IsSoundMoment now) where
  -- what a lift makes
  pub lifted_sound : (t : TypeTree) (v : CoreValue Mark) (o : Options Mark)
      → Belongs now.world.log now.scope.component_instance v
      → AreOptionsOf now.world.log now.scope.component_instance o
      → IsSoundFunction now.world.log (lifted_function t v o)
  lifted_sound t v o b own =
      subst (λ c. All (Belongs now.world.log c) (lifts_of o v)) (sym own.whose)
      (All-cons (Belongs now.world.log now.scope.component_instance) v (options_list o) b own.held)

  -- an adapter is made, or was
  adapter_made : (t u : TypeTree) (v : CoreValue Mark) (lift lower : Options Mark)
      → IsSoundFunction now.world.log (lifted_function t v lift) → instance_of lower ≡ now.scope.component_instance
      → Follows now
      (add_core (making now (adapter (of_type t) lift (of_type u) lower v)) core.Func
      (adapter (of_type t) lift (of_type u) lower v))
  unfolding making Tells
  adapter_made t u v lift lower h own = by (was_made a now.world.log) refl
    where
      a : CoreValue Mark
      a = adapter (of_type t) lift (of_type u) lower v

      by : (b : Bool) → was_made a now.world.log ≡ b
          → Follows now (add_core (if b then now else add_entry now (made a)) core.Func a)
      by true is =
          core_added now sound core.Func a
          (record { whose = adapter_is_of own; told = made_there a now.world.log is })
      by false is =
          let first = entry_added now sound (made a) h in
          both_follow now (add_entry now (made a)) (add_core (add_entry now (made a)) core.Func a) first
          (core_added (add_entry now (made a)) first.sound core.Func a
          (record { whose = adapter_is_of own; told = Contains-push now.world.log (made a) }))

  -- a function is lowered
  pub lowered_keeps : (f : Function) (t : TypeTree) (s : CoreFuncSig) (o : Options Mark)
      → IsSoundFunction now.world.log f
      → instance_of o ≡ now.scope.component_instance → Follows now (lower_to now f t s o)
  unfolding lower_to Tells
  lowered_keeps (host_function p) t s o h own =
      let v : CoreValue Mark = lowered p (of_type t) o in
      let one : Moment = add_entry now (needed p) in
      let two : Moment = add_entry one (declared v) in
      let first = entry_added now sound (needed p) tt in
      let second = entry_added one first.sound (declared v) tt in
      both_follow now one (add_core two core.Func v) first (both_follow one two (add_core two core.Func v) second
      (core_added two second.sound core.Func v
      (record { whose = lowering_is_of own; told = Contains-push one.world.log (declared v) })))
  lowered_keeps (lifted_function u v lift) t s o h own = adapter_made u t v lift o h own
  lowered_keeps (intrinsic_function place) t s o h own = intrinsic_added now sound place s

  -- a builtin is declared
  pub declared_keeps : (k : TrampolineKind) (ps : Parts Mark)
      → Follows now (declaring now (builtin k now.scope.component_instance ps))
  unfolding Tells
  declared_keeps k ps =
      let v : CoreValue Mark = builtin k now.scope.component_instance ps in
      let one : Moment = add_entry now (declared v) in
      let first = entry_added now sound (declared v) tt in
      both_follow now one (add_core one core.Func v) first
      (core_added one first.sound core.Func v
      (record { whose = builtin_is_of; told = Contains-push now.world.log (declared v) }))

  -- a resource is declared
  pub resource_keeps : (id : ℕ) (r : WasmValType) (d : MaybeValue Mark)
      → All (Belongs now.world.log now.scope.component_instance) (maybe_list d) → Follows now (add_resource now id r d)
  resource_keeps id r d h =
      let known = knowing now.scope.known id (tree.declared (resources_declared now.world)) in
      let first = known_follows now sound known in
      both_follow now (with_known now known) (add_resource now id r d) first
      (entry_added (with_known now known) first.sound (declared_resource r d now.scope.component_instance) h)

  -- a core module of the input is instantiated
  pub static_keeps : (m : ℕ) (vs : List (CoreValue Mark))
      → All (Belongs now.world.log now.scope.component_instance) vs → Follows now (add_static now m vs)
  static_keeps m vs h =
      let c = now.scope.component_instance in
      let one : Moment = add_entry now (instantiated (of_static m vs) c) in
      let first = entry_added now sound (instantiated (of_static m vs) c) h in
      both_follow now one (add_static now m vs) first
      (instance_added one first.sound (of_module (length (instances_of now.world.log)) m)
      (made_last now.world.log (of_static m vs) c))

  -- one of the host is
  pub host_keeps : (p : Path) (t : TypeTree) (vs : List (NamedArgument Mark))
      → All (λ (a : NamedArgument Mark). Belongs now.world.log now.scope.component_instance a.value) vs
      → Follows now (add_host now p t vs)
  host_keeps p t vs h =
      let c = now.scope.component_instance in
      let log = now.world.log in
      let one : Moment = add_entry now (needed p) in
      let two : Moment = add_entry one (instantiated (of_host p vs) c) in
      let value : NamedArgument Mark → CoreValue Mark = λ (a : NamedArgument Mark). a.value in
      let first = entry_added now sound (needed p) tt in
      let given : All (Belongs log c) (map value vs) = All-map (Belongs log c) value vs h in
      let second =
      entry_added one first.sound (instantiated (of_host p vs) c)
      (entry_grown log (needed p ∷ []) (instantiated (of_host p vs) c) given) in
      both_follow now one (add_host now p t vs) first
      (both_follow one two (add_host now p t vs) second
      (instance_added two second.sound (of_host_module (length (instances_of log)) t)
      (subst (λ os. WasMadeFor (instances_of two.world.log) (length os) c) (needed_none log p)
      (made_last one.world.log (of_host p vs) c))))
