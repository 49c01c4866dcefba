-- The imports of the root, and what a child begins with.
use Rattle.std.proofs.Common.{ℕ, ◌+◌, Bool, true, false, List, [], ◌∷◌, Ok, Err, IfOk, Result, ◌&&◌}
use Rattle.std.proofs.Common.{if◌then◌else◌, length}
use Rattle.std.specs.Prelude.{All, slice_get}
use Rattle.std.specs.List.{fold, list_all}
use Rattle.pc_entity.specs.Lists.{map_all}
use Rattle.pc_types.specs.declared.error.Unsupported.TheVariants.{ComponentImport}
use Rattle.pc_types.specs.declared.parsed.Entity.{Entity}
use Rattle.pc_types.specs.declared.parsed.TypeTable.{TypeTable}
use Rattle.pc_types.specs.Table.{is_instance}
use Rattle.pc_types.specs.TypeTree.{Identity, Path, imported}
use Rattle.pc_spec_plan.specs.Log.{needed}
use Rattle.pc_parsed.specs.declared.payload.ExternName.{ExternName}
use Rattle.pc_spec_reading.specs.Components.{Call, read_call}
use Rattle.pc_spec_reading.specs.Imports.{give, host_value, import_resources, importing, next_import, prepare}
use Rattle.pc_spec_reading.specs.Imports.{resource_path, with_imported}
use Rattle.pc_spec_reading.specs.Item
use Rattle.pc_spec_reading.specs.Item.{ArgumentOf, ExportOf, Items, and_item, exports_in, no_items}
use Rattle.pc_spec_reading.specs.Items.{argument_value, is_typed_argument}
use Rattle.pc_spec_reading.specs.Outcome.{Fault, Outcome, at_item, bad_type, done, fault, invalid, over}
use Rattle.pc_spec_reading.specs.Outcome.{past, unsupported}
use Rattle.pc_spec_reading.specs.Reading.{prepare_all}
use Rattle.pc_spec_reading.specs.Resource.{ResourcePath, knowing, newly, resource_paths}
use Rattle.pc_spec_reading.specs.Scope.{Moment, with_known}
use Rattle.pc_spec_reading.specs.Types.{declared_tree, has_entry, is_defined_entity, names_entry}
use Rattle.pc_confined.proofs.GrowthLemmas.{stays}
use Rattle.pc_confined.proofs.ScopeLemmas.{argument_added, both_follow, entry_added, known_follows, now_follows}
use Rattle.pc_confined.proofs.Sound.{Follows, IsSoundArgument}
use Rattle.pc_confined.proofs.Sound.{IsSoundMoment}
use Rattle.pc_confined.proofs.Sound.{IsSoundValue}
use Rattle.pc_confined.proofs.Steps.{IfDone, all_some, found_ok, held_ok, item_done, then_done, with_ok}
use Rattle.pc_confined.proofs.ValueLemmas.{argument_found, given_found}

-- a resource of an import of the host becomes known
importing_keeps : (now : Moment) (i : ℕ) (p : ResourcePath) → IsSoundMoment now → Follows now (importing now i p)
importing_keeps now i p sound =
    let path : Path = resource_path i p in
    let known : List (ℕ × Identity) = knowing now.scope.known p.number (imported path) in
    let one : Moment = with_known now known in
    let two : Moment = with_imported one path in
    let first = known_follows now sound known in
    let second : IsSoundMoment two =
    record { confined = first.sound.confined; scope = first.sound.scope } in
    both_follow now one (importing now i p) first (both_follow one two (importing now i p)
    (record { sound = second; grows = stays one.world.log }) (entry_added two second (needed path) tt))

-- all of them do
resources_keep : (now : Moment) (i : ℕ) (ps : List ResourcePath) → IsSoundMoment now
    → Follows now (import_resources now i ps)
unfolding import_resources
resources_keep now i ps sound = each (newly now.scope.known ps) now sound
  where
    each : (qs : List ResourcePath) (m : Moment) → IsSoundMoment m
        → Follows m (fold (λ (x : Moment) (p : ResourcePath). importing x i p) m qs)
    each [] m s = now_follows m s
    each (q ∷ qs) m s =
        let first = importing_keeps m i q s in
        both_follow m (importing m i q) _ first (each qs (importing m i q) first.sound)

-- what follows a later moment follows this one
pub onward : (now later : Moment) → Follows now later → (o : Outcome Moment) → IfDone o (Follows later)
    → IfDone o (Follows now)
onward now later first (done last) h = both_follow now later last first h
onward now later first (fault f p) h = tt
onward now later first over h = tt
onward now later first past h = tt

module _ (t : TypeTable) where
  -- the host gives an import
  given_keeps : (name : ExternName) (e : Entity) (now : Moment) → IsSoundMoment now
      → IfOk (give t name e now) (Follows now)
  given_keeps name e now sound =
      found_ok (Follows now) bad_type (declared_tree t now.scope e) _ (λ x.
      with_ok (Follows now) (IsSoundValue now.world.log) (unsupported ComponentImport)
      (host_value (next_import now) e x) _ (given_found now.world.log (next_import now) e x) (λ v h. record {
        sound = record { confined = sound.confined; scope = argument_added now sound (name.name, v) h };
        grows = stays now.world.log;
      }))

  -- an import of the root is prepared
  prepare_keeps : (name : ExternName) (e : Entity) (now : Moment) → IsSoundMoment now
      → IfOk (prepare t name e now) (Follows now)
  unfolding prepare
  prepare_keeps name e now sound =
      held_ok (Follows now) bad_type (names_entry t e) _ (by (is_defined_entity t e))
    where
      more : Moment
      more = import_resources now (length now.world.imports) (resource_paths t e)

      onward : Follows now more → (r : Result Moment Fault) → IfOk r (Follows more) → IfOk r (Follows now)
      onward first (Ok later) h = both_follow now more later first h
      onward first (Err f) h = tt

      by : (b : Bool) → IfOk (if b then Ok now else give t name e more) (Follows now)
      by true = now_follows now sound
      by false =
          let first = resources_keep now (length now.world.imports) (resource_paths t e) sound in
          onward first (give t name e more) (given_keeps name e more first.sound)

  -- what a child begins with
  pub call_sound : (now : Moment) → IsSoundMoment now → (component : ℕ) (args : List ArgumentOf) (ty : ℕ)
      → IfOk (read_call t now.scope component args ty)
      (λ (c : Call). All (IsSoundArgument now.world.log) c.arguments)
  unfolding read_call
  call_sound now sound n args ty =
      let P : Call → Type 0 = λ (c : Call). All (IsSoundArgument now.world.log) c.arguments in
      held_ok P bad_type (list_all (is_typed_argument t) args && has_entry t is_instance ty) _ (
      found_ok P invalid (slice_get now.scope.components n) _ (λ c.
      with_ok P (All (IsSoundArgument now.world.log)) invalid (map_all (argument_value t now.scope) args) _
      (all_some (IsSoundArgument now.world.log) (argument_value t now.scope)
      (argument_found now.world.log t now.scope sound.scope) args) (λ vs h. h)))

module _ (t : TypeTable) where
  -- the imports of the root
  pub prepared_keep : (n : ℕ) (is : Items) (now : Moment) → IsSoundMoment now
      → IfDone (prepare_all t n is now) (Follows now)
  unfolding prepare_all
  prepared_keep n no_items now sound = now_follows now sound
  prepared_keep n (and_item (Item.import_item name e) is) now sound =
      then_done (Follows now) (Follows now) (at_item now.scope.component_instance n (prepare t name e now)) _
      (item_done (Follows now) now.scope.component_instance n (prepare t name e now)
      (prepare_keeps t name e now sound))
      (λ later first. onward now later first (prepare_all t (n + 1) is later)
      (prepared_keep (n + 1) is later first.sound))
  prepared_keep n (and_item i is) now sound = prepared_keep (n + 1) is now sound
