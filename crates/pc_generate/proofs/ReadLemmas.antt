-- What the two components of a chain give, whatever is around them.
use Rattle.std.proofs.Common.{◌≡◌, ◌+◌, ℕ, suc, true, false, List, [], ◌∷◌, ◌++◌, Option, Some, None, refl, sym}
use Rattle.std.proofs.Common.{ap, subst, ◌∙◌, arith, if◌then◌else◌}
use Rattle.std.specs.Prelude.{nat_lt, codes}
use Rattle.pc_types.specs.declared.parsed.CoreKind.TheVariants as core
use Rattle.pc_types.specs.TypeTree.{TypeTree, Identity, and_field, instance_of, no_fields}
use Rattle.pc_spec_plan.specs.CoreValue.{CoreValue, Options, adapter}
use Rattle.pc_spec_plan.specs.Log.{Entry, Instantiation, instantiated, made}
use Rattle.pc_parsed.specs.Mark.{Mark, of_type}
use Rattle.pc_spec_reading.specs.Arguments.{core_export, static_arguments}
use Rattle.pc_spec_reading.specs.Functions.{lower_to, making, read_lift, read_lower}
use Rattle.pc_spec_reading.specs.Imports.{read_import}
use Rattle.pc_spec_reading.specs.Instances.{read_export}
use Rattle.pc_spec_reading.specs.Items.{exported_value, exports_at, value_at}
use Rattle.pc_spec_reading.specs.Modules.{read_core_alias, read_core_exports, read_core_instance, read_module}
use Rattle.pc_spec_reading.specs.Options.{options_of, the_options}
use Rattle.pc_spec_reading.specs.Outcome.{Outcome, and_then, done, fault, over, past}
use Rattle.pc_spec_reading.specs.Reading.{Return, beginning, begun_in, enter_at, read_body, read_item, read_items}
use Rattle.pc_spec_reading.specs.Reading.{returning}
use Rattle.pc_spec_reading.specs.Resource.{newly, registered, resource_paths, walk}
use Rattle.pc_spec_reading.specs.Rows.{read_row}
use Rattle.pc_spec_reading.specs.SameValues.{was_made}
use Rattle.pc_spec_reading.specs.Scope.{Moment, add_core, add_entry, add_value}
use Rattle.pc_spec_reading.specs.Total.{body_weight, item_weight}
use Rattle.pc_spec_reading.specs.Types.{signature_at, tree_if, type_tree}
use Rattle.pc_spec_reading.specs.Value.{Chain, Value, closed, component_value, func_value, host_function}
use Rattle.pc_spec_reading.specs.Value.{instance_value, intrinsic_function, lifted_function, module_value, pack_values}
use Rattle.pc_spec_reading.specs.Value.{type_value, value_named}
use Rattle.pc_spec_reading.specs.World.{World, grown, has_room}
use Rattle.pc_generate.specs.Table.{f, signature, table}
use Rattle.pc_generate.specs.Valid.{AdaptsFunction, function_tree}
use Rattle.pc_generate.proofs.LogLemmas.{AllBelow, IsBelow, not_made}
use Rattle.pc_generate.proofs.NestLemmas.{first_items, lowered_items, second_items, two_modules}

-- a value is a function that was lifted with the type of each
abbrev pub IsLifted : Value → Type 0
IsLifted (func_value (lifted_function ty v o)) = ty ≡ function_tree
IsLifted _ = ⊥

-- there is such a value
abbrev pub IsGiven : Option Value → Type 0
IsGiven (Some v) = IsLifted v
IsGiven None = ⊥

-- a child is done: it exports a function that was lifted, one more component instance has begun, the total has grown by
-- this weight, and the log is one of these
abbrev pub Gives : (w : World) → (weight : ℕ) → (Grows : List (Entry Mark) → Type 0) → Outcome Return → Type 0
Gives w weight Grows (done r) =
    IsGiven (value_named f (pack_values r.exports)) × (r.world.begun ≡ w.begun + 1)
    × (r.world.total ≡ grown w.total weight) × Grows r.world.log
Gives w weight Grows _ = ⊥

-- the log gained a core instance of the next component instance
abbrev pub GrowsByInstance : World → List (Entry Mark) → Type 0
GrowsByInstance w log = (i : Instantiation Mark) × (log ≡ w.log ++ instantiated i w.begun ∷ [])

-- the log gained an adapter, and then such a core instance
abbrev pub GrowsByLink : World → List (Entry Mark) → Type 0
GrowsByLink w log =
    (a : CoreValue Mark) × (i : Instantiation Mark) × IsBelow (w.begun + 1) (made a) × AdaptsFunction a
    × (log ≡ (w.log ++ made a ∷ []) ++ instantiated i w.begun ∷ [])

-- the value itself
pub lifted_there : (x : Option Value) → IsGiven x
    → (v : CoreValue Mark) × (o : Options Mark) × (x ≡ Some (func_value (lifted_function function_tree v o)))
lifted_there (Some (func_value (lifted_function ty v o))) is =
    (v, o, ap (λ t. Some (func_value (lifted_function t v o))) is)
lifted_there (Some (func_value (host_function p))) bad = absurd bad
lifted_there (Some (func_value (intrinsic_function n))) bad = absurd bad
lifted_there (Some (module_value m)) bad = absurd bad
lifted_there (Some (instance_value i)) bad = absurd bad
lifted_there (Some (component_value c)) bad = absurd bad
lifted_there (Some (type_value tree)) bad = absurd bad
lifted_there None bad = absurd bad

-- what a child gave back
pub given : (w : World) (weight : ℕ) (Grows : List (Entry Mark) → Type 0) (o : Outcome Return) → Gives w weight Grows o
    → (r : Return) × (o ≡ done r) × IsGiven (value_named f (pack_values r.exports)) × (r.world.begun ≡ w.begun + 1)
    × (r.world.total ≡ grown w.total weight) × Grows r.world.log
given w weight Grows (done r) is = (r, refl, is.0, is.1, is.2, is.3)
given w weight Grows (fault k p) bad = absurd bad
given w weight Grows over bad = absurd bad
given w weight Grows past bad = absurd bad

-- a world in which one more component instance, of this weight, has begun
abbrev pub begun_world : ℕ → World → World
begun_world weight w = record w { begun = w.begun + 1; total = grown w.total (1 + weight) }

-- a component instance begins below both bounds
pub begins : {A : Type 0} (limit weight : ℕ) (w : World) (go : World → Outcome A) → nat_lt w.begun limit ≡ true
    → has_room (grown w.total (1 + weight)) ≡ true → beginning limit weight w go ≡ go (begun_world weight w)
begins limit weight w go below room =
    ap (λ b. if b then (if has_room (grown w.total (1 + weight)) then go (begun_world weight w) else past) else over)
    below
    ∙ ap (λ b. if b then go (begun_world weight w) else past) room

-- an adapter that wasn't made is made
making_is : (now : Moment) (v : CoreValue Mark) → was_made v now.world.log ≡ false
    → making now v ≡ add_entry now (made v)
unfolding making
making_is now v is = ap (λ b. if b then now else add_entry now (made v)) is

-- the type of an instance that has a function
abbrev pub instance_tree : TypeTree
instance_tree = instance_of (and_field f function_tree no_fields)

module _ (limit levels : ℕ) (chain : Chain) (known : List (ℕ × Identity)) (w : World) where
  -- the first component, when it has begun
  abbrev first_reads : World → Outcome Return
  first_reads v =
      and_then (read_items table two_modules (enter_at table two_modules limit levels) 0
      first_items (begun_in [] known chain w.begun v)) (returning table first_items)

  -- the first component gives a function
  pub first_gives : nat_lt w.begun limit ≡ true → has_room (grown w.total 72) ≡ true
      → Gives w 72 (GrowsByInstance w) (enter_at table two_modules limit (suc levels)
      (record { component = closed first_items chain; arguments = [] }) known w)
  unfolding table enter_at read_body read_items read_item read_row read_module read_core_instance
      read_core_alias read_lift read_export core_export static_arguments tree_if type_tree signature_at options_of
      the_options value_at exported_value exports_at body_weight item_weight
  first_gives below room =
      subst (Gives w 72 (GrowsByInstance w)) (sym (begins limit 71 w first_reads below room))
      (refl, refl, refl, (_, refl))

  module _ (v : CoreValue Mark) (o : Options Mark) where
    -- the second component with its argument, when its import was read
    abbrev imported : Moment
    imported =
        add_value (begun_in ((f, func_value (lifted_function function_tree v o)) ∷ []) known chain w.begun
        (begun_world 159 w)) (func_value (lifted_function function_tree v o))

    -- its adapter
    abbrev lowered : CoreValue Mark
    lowered = adapter (of_type function_tree) o (of_type function_tree) (the_options imported.scope signature []) v

    -- it goes on when the adapter was made
    abbrev second_reads : Moment → Outcome Return
    second_reads now =
        and_then (read_items table two_modules (enter_at table two_modules limit levels) 2
        lowered_items (add_core now core.Func lowered)) (returning table second_items)

    -- the second component, when it has begun
    abbrev second_begun : World → Outcome Return
    second_begun u =
        and_then (read_items table two_modules (enter_at table two_modules limit levels) 0
        second_items (begun_in ((f, func_value (lifted_function function_tree v o)) ∷ []) known chain w.begun u))
        (returning table second_items)

    -- the second component gives a function
    pub second_gives : nat_lt w.begun limit ≡ true → has_room (grown w.total 160) ≡ true
        → AllBelow w.begun w.log → Gives w 160 (GrowsByLink w) (enter_at table two_modules limit (suc levels)
        (record {
          component = closed second_items chain;
          arguments = (f, func_value (lifted_function function_tree v o)) ∷ [];
        }) known w)
    unfolding table enter_at read_body read_items read_item read_row read_module read_core_instance
        read_core_alias read_core_exports read_import read_lift read_lower lower_to read_export core_export
        static_arguments tree_if type_tree signature_at options_of the_options value_at exported_value exports_at
        registered walk newly resource_paths body_weight item_weight
    second_gives below room all =
        subst (Gives w 160 (GrowsByLink w)) (sym (begins limit 159 w second_begun below room
        ∙ ap second_reads (making_is imported lowered
        (not_made function_tree o function_tree imported.scope v w.log all))))
        (refl, refl, refl, (lowered, _, omega arith, (refl, refl), refl))
