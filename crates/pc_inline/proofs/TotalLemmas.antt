-- The preparation of imports leaves the total.
use Rattle.std.proofs.Common.{◌≡◌, ◌+◌, ℕ, Bool, true, false, List, [], ◌∷◌, Option, None, Some, Result, Ok, Err, refl}
use Rattle.std.proofs.Common.{subst, ◌∙◌, if◌then◌else◌}
use Rattle.std.specs.Prelude.{IfOk, length}
use Rattle.std.specs.List.{fold}
use Rattle.pc_types.specs.declared.error.Unsupported.TheVariants.{ComponentImport}
use Rattle.pc_types.specs.declared.module_record.ModuleRecord.{ModuleRecord}
use Rattle.pc_types.specs.declared.parsed.Entity.{Entity}
use Rattle.pc_types.specs.declared.parsed.TypeTable.{TypeTable}
use Rattle.pc_parsed.specs.declared.payload.ExternName.{ExternName}
use Rattle.pc_spec_reading.specs.Imports.{give, host_value, import_resources, importing, next_import, prepare}
use Rattle.pc_spec_reading.specs.Item.{Items, and_item, import_item, no_items}
use Rattle.pc_spec_reading.specs.Outcome.{Fault, Outcome, and_then, at_item, bad_type, done, fault, found, held, over}
use Rattle.pc_spec_reading.specs.Outcome.{past, unsupported}
use Rattle.pc_spec_reading.specs.Reading.{prepare_all}
use Rattle.pc_spec_reading.specs.Resource.{ResourcePath, newly, resource_paths}
use Rattle.pc_spec_reading.specs.Scope.{Moment}
use Rattle.pc_spec_reading.specs.Types.{declared_tree, is_defined_entity, names_entry}

-- what goes on and is done was done before
then_done : {A B : Type 0} (o : Outcome A) (go : A → Outcome B) (y : B) → and_then o go ≡ done y
    → (x : A) × (o ≡ done x) × (go x ≡ done y)
then_done (done x) go y is = (x, refl, is)
then_done (fault k p) go y is = let x : ⊥ = cc in absurd x
then_done over go y is = let x : ⊥ = cc in absurd x
then_done past go y is = let x : ⊥ = cc in absurd x

-- what is done is so with one result
same_done : {A : Type 0} (x y : A) → done x ≡ done y → x ≡ y
same_done x y is = cc

-- an item that is done has a result
item_done : {A : Type 0} (c n : ℕ) (r : Result A Fault) (x : A) → at_item c n r ≡ done x → r ≡ Ok x
item_done c n (Ok y) x is = cc
item_done c n (Err f) x is = let x : ⊥ = cc in absurd x

-- the total and how many component instances began are as before
abbrev pub IsCountedAs : Moment → Moment → Type 0
IsCountedAs now last = (last.world.total ≡ now.world.total) × (last.world.begun ≡ now.world.begun)

module _ (old : Moment) where
  counts_found : {A : Type 0} (f : Fault) (o : Option A) (go : A → Result Moment Fault)
      → ((x : A) → IfOk (go x) (IsCountedAs old)) → IfOk (found f o go) (IsCountedAs old)
  counts_found f None go each = tt
  counts_found f (Some x) go each = each x

  counts_held : (f : Fault) (b : Bool) (r : Result Moment Fault) → IfOk r (IsCountedAs old)
      → IfOk (held f b r) (IsCountedAs old)
  counts_held f true r h = h
  counts_held f false r h = tt

-- resources that come with an import
resources_count : (now : Moment) (i : ℕ) (ps : List ResourcePath) → IsCountedAs now (import_resources now i ps)
unfolding import_resources
resources_count now i ps = each (newly now.scope.known ps) now
  where
    each : (ps : List ResourcePath) (now : Moment)
        → IsCountedAs now (fold (λ (m : Moment) (p : ResourcePath). importing m i p) now ps)
    each [] now = (refl, refl)
    each (p ∷ ps) now = each ps (importing now i p)

module _ (t : TypeTable) (ms : List ModuleRecord) where
  -- what the host gives at a moment after another
  given_counts : (name : ExternName) (e : Entity) (now next : Moment) → IsCountedAs now next
      → IfOk (give t name e next) (IsCountedAs now)
  given_counts name e now next same =
      counts_found now bad_type (declared_tree t next.scope e) _ (λ tree.
      counts_found now (unsupported ComponentImport) (host_value (next_import next) e tree) _ (λ v. same))

  -- an import that is prepared
  prepare_counts : (name : ExternName) (e : Entity) (now last : Moment) → prepare t name e now ≡ Ok last
      → IsCountedAs now last
  unfolding prepare
  prepare_counts name e now last is =
      subst (λ r. IfOk r (IsCountedAs now)) is
      (counts_held now bad_type (names_entry t e) _ (by (is_defined_entity t e)))
    where
      brought : Moment
      brought = import_resources now (length now.world.imports) (resource_paths t e)

      by : (b : Bool) → IfOk (if b then Ok now else give t name e brought) (IsCountedAs now)
      by true = (refl, refl)
      by false =
          given_counts name e now brought (resources_count now (length now.world.imports) (resource_paths t e))

  -- the imports of a root
  pub prepared_counts : (is : Items) (n : ℕ) (now last : Moment) → prepare_all t n is now ≡ done last
      → IsCountedAs now last
  unfolding prepare_all
  prepared_counts no_items n now last is = subst (IsCountedAs now) (same_done now last is) (refl, refl)
  prepared_counts (and_item (import_item name e) is) n now last read =
      let c = now.scope.component_instance in
      let next = then_done (at_item c n (prepare t name e now)) (prepare_all t (n + 1) is) last read
      in
      let one = prepare_counts name e now next.0 (item_done c n _ next.0 next.1) in
      let rest = prepared_counts is (n + 1) next.0 last next.2 in
      (rest.0 ∙ one.0, rest.1 ∙ one.1)
  prepared_counts (and_item i is) n now last read = prepared_counts is (n + 1) now last read
