-- What component instances captured, as the tables grow.
use Rattle.std.proofs.Common.{◌≡◌, List, [], Option, None, Some, refl, ap, sym, subst, ◌∙◌}
use Rattle.std.specs.Prelude.{option_map, slice_get, unwrap_or}
use Rattle.pc_types.specs.declared.module_record.ModuleRecord.{ModuleRecord}
use Rattle.pc_spec_reading.specs.Item.{a_component, a_module}
use Rattle.pc_spec_reading.specs.Value.{Chain}
use Rattle.pc_local.specs.Standing.{Names, no_names}
use Rattle.pc_inline_state.specs.declared.closure.Closure.{Closure}
use Rattle.pc_inline_state.specs.declared.definition.ClosureId.{ClosureId}
use Rattle.pc_inline_items.specs.Captures.{IsEnclosed, captured_components, captured_modules}
use Rattle.pc_inline_state.specs.Stands.{Captured, captures_none}
use Rattle.pc_inline_state.specs.Tables.{Keeps, Tables}
use Rattle.pc_inline_canon.proofs.KeptLemmas.{captured_kept}

-- what a component instance captured is in the table, unless it is the root
abbrev pub HasClosure : Tables → Option ClosureId → Type 0
HasClosure b None = Unit {0}
HasClosure b (Some k) = (closure : Closure) × (slice_get b.closures k.0 ≡ Some closure)

-- the modules of a closure in the table
modules_in : (b : Tables) (k : ClosureId) (closure : Closure) → slice_get b.closures k.0 ≡ Some closure
    → captured_modules b.closures (Some k) ≡ closure.modules
modules_in b k closure at = ap (λ o. unwrap_or (option_map (λ (c : Closure). c.modules) o) []) at

-- the components
components_in : (b : Tables) (k : ClosureId) (closure : Closure) → slice_get b.closures k.0 ≡ Some closure
    → captured_components b.closures (Some k) ≡ closure.components
components_in b k closure at = ap (λ o. unwrap_or (option_map (λ (c : Closure). c.components) o) []) at

module _ (ms : List ModuleRecord) (b : Tables) where
  -- the root captured nothing
  pub root_enclosed : (chain : Chain) → IsEnclosed ms b no_names None chain
  root_enclosed chain = record { modules = captures_none; components = captures_none }

  -- a component instance whose component captured this
  pub child_enclosed : (inner : Names) (k : ClosureId) (closure : Closure) (chain : Chain)
      → slice_get b.closures k.0 ≡ Some closure → Captured ms b a_module closure.modules inner.modules chain
      → Captured ms b a_component closure.components inner.components chain → IsEnclosed ms b inner (Some k) chain
  child_enclosed inner k closure chain at modules components = record {
    modules = subst (λ ids. Captured ms b a_module ids inner.modules chain) (sym (modules_in b k closure at)) modules;
    components = subst (λ ids. Captured ms b a_component ids inner.components chain)
        (sym (components_in b k closure at)) components;
  }

  module _ (c : Tables) (keeps : Keeps b c) where
    -- the modules that a component instance captured are what they were
    modules_kept : (k : Option ClosureId) → HasClosure b k
        → captured_modules c.closures k ≡ captured_modules b.closures k
    modules_kept None has = refl
    modules_kept (Some k) has =
        modules_in c k has.0 (keeps.closures k.0 has.0 has.1) ∙ sym (modules_in b k has.0 has.1)

    -- the components
    components_kept : (k : Option ClosureId) → HasClosure b k
        → captured_components c.closures k ≡ captured_components b.closures k
    components_kept None has = refl
    components_kept (Some k) has =
        components_in c k has.0 (keeps.closures k.0 has.0 has.1) ∙ sym (components_in b k has.0 has.1)

    -- what a component instance captured stands in the chain when the tables have grown
    pub enclosed_kept : (names : Names) (k : Option ClosureId) (chain : Chain) → HasClosure b k
        → IsEnclosed ms b names k chain → IsEnclosed ms c names k chain
    enclosed_kept names k chain has enclosed = record {
      modules = subst (λ ids. Captured ms c a_module ids names.modules chain) (sym (modules_kept k has))
          (captured_kept ms b c keeps a_module (captured_modules b.closures k) names.modules chain enclosed.modules);
      components = subst (λ ids. Captured ms c a_component ids names.components chain) (sym (components_kept k has))
          (captured_kept ms b c keeps a_component (captured_components b.closures k) names.components chain
          enclosed.components);
    }
