-- Functions: lift, lower and the two context slots.
use Rattle.std.specs.Prelude.{ℕ, List, [], ◌∷◌, Option, Result, Ok, slice_get, if◌then◌else◌}
use Rattle.pc_types.specs.declared.parsed.CoreFuncSig.{CoreFuncSig}
use Rattle.pc_types.specs.declared.parsed.CoreKind.TheVariants as core
use Rattle.pc_types.specs.declared.parsed.TypeTable.{TypeTable}
use Rattle.pc_types.specs.Table.{is_func}
use Rattle.pc_types.specs.TypeTree.{TypeTree}
use Rattle.pc_spec_plan.specs.CoreValue.{CoreValue, Options, lowered, adapter}
use Rattle.pc_spec_plan.specs.Log.{declared, made, needed}
use Rattle.pc_parsed.specs.declared.canon.CanonOption.{CanonOption}
use Rattle.pc_parsed.specs.Mark.{Mark, of_type}
use Rattle.pc_spec_reading.specs.Item.{Access, getting, setting}
use Rattle.pc_spec_reading.specs.Options.{options_of}
use Rattle.pc_spec_reading.specs.Outcome.{Fault, invalid, bad_type, found}
use Rattle.pc_spec_reading.specs.SameValues.{was_made}
use Rattle.pc_spec_reading.specs.Scope.{Moment, add_core, add_entry, add_intrinsic, add_value}
use Rattle.pc_spec_reading.specs.Types.{tree_if, signature_at}
use Rattle.pc_spec_reading.specs.Value.{Function, host_function, lifted_function, intrinsic_function, func_value}

-- an adapter is made where no equal one was made before
unfoldable pub making : Moment → CoreValue Mark → Moment
making now v = if was_made v now.world.log then now else add_entry now (made v)

-- the core function that a function is lowered to: a host function, which is needed; an adapter of a lifted one; or an
-- intrinsic itself
unfoldable pub lower_to : Moment → Function → TypeTree → CoreFuncSig → Options Mark → Moment
lower_to now (host_function p) tree s o =
    add_core (add_entry (add_entry now (needed p)) (declared (lowered p (of_type tree) o))) core.Func
    (lowered p (of_type tree) o)
lower_to now (lifted_function lift_type v lift) tree s o =
    add_core (making now (adapter (of_type lift_type) lift (of_type tree) o v)) core.Func
    (adapter (of_type lift_type) lift (of_type tree) o v)
lower_to now (intrinsic_function place) tree s o = add_intrinsic now place s

-- the intrinsics that read and write the two context slots, by their place
abbrev pub slot_place : Access → (slot : ℕ) → Option ℕ
slot_place getting n = slice_get (17 ∷ 19 ∷ []) n
slot_place setting n = slice_get (18 ∷ 20 ∷ []) n

module _ (t : TypeTable) where
  -- a lift: `BadType` where the type is no function or there is no such signature; then `Invalid` where an index is
  -- missing
  unfoldable pub read_lift : Moment → (func ty signature : ℕ) → List CanonOption → Result Moment Fault
  read_lift now func ty signature opts =
      found bad_type (tree_if t is_func now.scope ty) (λ (tree : TypeTree).
      found bad_type (signature_at t signature) (λ (s : CoreFuncSig).
      found invalid (slice_get now.scope.core_funcs func) (λ (v : CoreValue Mark).
      found invalid (options_of now.scope s opts) (λ (o : Options Mark).
      Ok (add_value now (func_value (lifted_function tree v o)))))))

  -- a lower, likewise
  unfoldable pub read_lower : Moment → (func ty signature : ℕ) → List CanonOption → Result Moment Fault
  read_lower now func ty signature opts =
      found bad_type (tree_if t is_func now.scope ty) (λ (tree : TypeTree).
      found bad_type (signature_at t signature) (λ (s : CoreFuncSig).
      found invalid (slice_get now.scope.funcs func) (λ (f : Function).
      found invalid (options_of now.scope s opts) (λ (o : Options Mark). Ok (lower_to now f tree s o)))))

  -- a context slot: `BadType` where there is no such signature; then `Invalid` where the slot is above 1
  unfoldable pub read_context : Moment → Access → (signature slot : ℕ) → Result Moment Fault
  read_context now access signature slot =
      found bad_type (signature_at t signature) (λ (s : CoreFuncSig).
      found invalid (slot_place access slot) (λ place. Ok (add_intrinsic now place s)))
