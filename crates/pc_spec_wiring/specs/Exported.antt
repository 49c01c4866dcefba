-- Which core modules the root of a plan exports.
use Rattle.std.specs.Prelude.{ℕ, Bool, false, ◌||◌, ◌==◌}
use Rattle.std.specs.List.{list_any}
use Rattle.pc_spec_plan.specs.PlanView as plan

abbrev mutual
  -- whether an export is a module, or has it inside, at whatever depth
  pub exports_module : {τ : Type 0} → (number : ℕ) → plan.PlanExport τ → Bool
  exports_module m (plan.static_module n ty) = n == m
  exports_module m (plan.instance ty exports) = some_export m exports
  exports_module m item = false

  -- whether one of these exports does
  pub some_export : {τ : Type 0} → (number : ℕ) → plan.PlanExports τ → Bool
  some_export m plan.no_exports = false
  some_export m (plan.and_export name extern_data item rest) = exports_module m item || some_export m rest

-- whether the root of a plan exports a module, at whatever depth
abbrev pub is_exported : {τ : Type 0} → plan.PlanView τ → (number : ℕ) → Bool
is_exported {τ} p m = list_any (λ (e : plan.NamedExport τ). exports_module m e.item) p.exports
