-- Where the items of a core instance come from, by what its module does with them.
use Rattle.std.proofs.Common.{◌≡◌, ℕ, Bool, true, false, List, Some, None, refl}
use Rattle.std.proofs.Common.{sym, ap, subst, ◌∙◌, Option}
use Rattle.std.specs.Prelude.{slice_get}
use Rattle.std.proofs.lemmas.Option.{none-some, same_Some}
use Rattle.pc_numbers.specs.declared.entity_index.EntityIndex.{EntityIndex}
use Rattle.pc_numbers.specs.declared.entity_index.EntityIndex.TheVariants as entity
use Rattle.pc_types.specs.declared.module_record.ModuleRecord.{ModuleRecord}
use Rattle.pc_types.specs.declared.parsed.CoreKind.{CoreKind}
use Rattle.pc_types.specs.declared.parsed.CoreKind.TheVariants as kind
use Rattle.pc_types.specs.Record.{entity_at, has_entity, import_place, index_kind, index_number}
use Rattle.pc_spec_plan.specs.CoreValue.{by_index, by_name}
use Rattle.pc_spec_plan.specs.PlanView as plan
use Rattle.pc_spec_wiring.specs.Known.{Known, Refers, a_defined, defined_entity, refers_to_defined, refers_to_flags}
use Rattle.pc_spec_wiring.specs.Known.{the_flags}
use Rattle.pc_spec_wiring.specs.Origin.{ComesFrom, Core, Given, IsFrom, Origin, PlanEnd, an_end, an_item, cores_in}
use Rattle.pc_spec_wiring.specs.Origin.{defined_in, ended, from_end, from_item, given_by, imported_there, its_own}
use Rattle.pc_spec_wiring.specs.Origin.{of_host, of_record}

-- the entity of a kind and a number has both
pub kind_at : (k : CoreKind) (n : ℕ) → index_kind (entity_at k n) ≡ k
kind_at kind.Func n = refl
kind_at kind.Table n = refl
kind_at kind.Memory n = refl
kind_at kind.Global n = refl
kind_at kind.Tag n = refl

pub number_at : (k : CoreKind) (n : ℕ) → index_number (entity_at k n) ≡ n
number_at kind.Func n = refl
number_at kind.Table n = refl
number_at kind.Memory n = refl
number_at kind.Global n = refl
number_at kind.Tag n = refl

pub entity_back : (e : EntityIndex) → entity_at (index_kind e) (index_number e) ≡ e
entity_back (entity.Function i) = refl
entity_back (entity.Table i) = refl
entity_back (entity.Memory i) = refl
entity_back (entity.Global i) = refl
entity_back (entity.Tag i) = refl

-- the parts of a core instance
abbrev pub number_of : Core PlanEnd → ℕ
number_of (of_record m r given) = m
number_of of_host = 0

abbrev pub record_of : Core PlanEnd → Option ModuleRecord
record_of (of_record m r given) = Some r
record_of of_host = None

abbrev pub given_of : Core PlanEnd → Option (List (Given PlanEnd))
given_of (of_record m r given) = Some given
given_of of_host = None

-- the parts of an origin
abbrev pub is_ended : Origin PlanEnd → Bool
is_ended (defined_in n m e) = false
is_ended (ended x) = true

abbrev pub origin_module : Origin PlanEnd → ℕ
origin_module (defined_in n m e) = m
origin_module (ended x) = 0

abbrev pub origin_entity : Origin PlanEnd → Option EntityIndex
origin_entity (defined_in n m e) = Some e
origin_entity (ended x) = None

module _ (cores : List (Core PlanEnd)) where
  -- an entity that the module of its instance doesn't import comes from there
  pub own_only : (n m : ℕ) (r : ModuleRecord) (given : List (Given PlanEnd)) (e : EntityIndex) (o : Origin PlanEnd)
      → slice_get cores n ≡ Some (of_record m r given) → import_place r e ≡ None → ComesFrom cores n e o
      → (o ≡ defined_in n m e) × (has_entity r e ≡ true)
  own_only n m r given e o at none (its_own {m = m2} {r = r2} {given = given2} at2 none2 has) =
      let same : of_record m2 r2 given2 ≡ of_record m r given = same_Some _ _ (sym at2 ∙ at) in (
        ap (λ (k : ℕ). defined_in n k e) (ap number_of same),
        ap (λ (x : ModuleRecord). has_entity x e) (sym (same_Some r2 r (ap record_of same))) ∙ has,
      )
  own_only n m r given e o at none (imported_there {m = m2} {place} {r = r2} {given = given2} at2 imports gets from) =
      let same : r ≡ r2 = same_Some r r2 (ap record_of (same_Some _ _ (sym at ∙ at2))) in
      absurd (none-some place (sym (subst (λ (x : ModuleRecord). import_place x e ≡ None) same none) ∙ imports))

  -- one that it imports comes from where what it is given comes from
  pub there_only : (n m place : ℕ) (r : ModuleRecord) (given : List (Given PlanEnd)) (e : EntityIndex)
      (o : Origin PlanEnd) → slice_get cores n ≡ Some (of_record m r given) → import_place r e ≡ Some place
      → ComesFrom cores n e o → (d : Given PlanEnd) × (slice_get given place ≡ Some d) × IsFrom cores d o
  there_only n m place r given e o at there (its_own {m = m2} {r = r2} {given = given2} at2 none2 has) =
      let same : r ≡ r2 = same_Some r r2 (ap record_of (same_Some _ _ (sym at ∙ at2))) in
      absurd (none-some place (sym none2 ∙ subst (λ (x : ModuleRecord). import_place x e ≡ Some place) same there))
  there_only n m place r given e o at there
      (imported_there {m = m2} {place = place2} {r = r2} {given = given2} {d} at2 imports gets from) =
      let same : of_record m2 r2 given2 ≡ of_record m r given = same_Some _ _ (sym at2 ∙ at) in
      let records : r2 ≡ r = same_Some r2 r (ap record_of same) in
      let lists : given2 ≡ given = same_Some given2 given (ap given_of same) in
      let places : place2 ≡ place =
      same_Some place2 place (sym imports ∙ ap (λ (x : ModuleRecord). import_place x e) records ∙ there) in
      (d, (λ i. slice_get (sym lists i) (sym places i)) ∙ gets, from)

  -- an item of a host module comes from nowhere
  pub host_none : (n : ℕ) (e : EntityIndex) (o : Origin PlanEnd) → slice_get cores n ≡ Some of_host
      → ComesFrom cores n e o → ⊥
  host_none n e o at (its_own {r} at2 none has) =
      none-some r (ap record_of (same_Some of_host _ (sym at ∙ at2)))
  host_none n e o at (imported_there {r} at2 imports gets from) =
      none-some r (ap record_of (same_Some of_host _ (sym at ∙ at2)))

  -- what is no item isn't defined anywhere
  pub end_is_ended : (x : PlanEnd) (o : Origin PlanEnd) → IsFrom cores (an_end x) o → is_ended o ≡ true
  end_is_ended x o from_end = refl

  -- what is given as an item by index comes from where the item does
  pub item_comes : (n : ℕ) (e : EntityIndex) (o : Origin PlanEnd) → IsFrom cores (an_item n (by_index e)) o
      → ComesFrom cores n e o
  item_comes n e o (from_item comes) = comes

  abbrev NotNamed : Given PlanEnd → Type 0
  NotNamed (an_item n (by_name name)) = ⊥
  NotNamed g = Unit {0}

  not_named : {g : Given PlanEnd} {o : Origin PlanEnd} → IsFrom cores g o → NotNamed g
  not_named (from_item comes) = tt
  not_named from_end = tt

  -- an item that only has a name comes from nowhere
  pub name_none : (n : ℕ) (name : List ℕ) (o : Origin PlanEnd) → IsFrom cores (an_item n (by_name name)) o → ⊥
  name_none n name o from = not_named from

module _ (records : List ModuleRecord) (steps : List plan.Initializer) (is_exported : ℕ → Bool) where
  -- what a definition refers to, taken apart
  abbrev pub RefersAs : plan.Definition → Known → Type 0
  RefersAs d (a_defined m k n) =
      (r : ModuleRecord) × (instance : ℕ) × (slice_get records m ≡ Some r)
      × IsFrom (cores_in records steps) (given_by d) (defined_in instance m (defined_entity r k n))
  RefersAs d (the_flags c) = d ≡ plan.flags c

  pub refers_as : {d : plan.Definition} {x : Known} → Refers records steps is_exported d x → RefersAs d x
  refers_as (refers_to_defined {instance} {r} at from) = (r, instance, at, from)
  refers_as refers_to_flags = refl
