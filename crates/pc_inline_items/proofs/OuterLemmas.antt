-- The step of an outer alias.
use Rattle.std.proofs.Common.{◌≡◌, ◌∙◌, ℕ, zero, suc, List, [], ◌∷◌, ◌++◌, None, Some, Option, Result, Ok, Err, refl}
use Rattle.std.proofs.Common.{sym, ap, subst}
use Rattle.std.specs.Prelude.{⊤, option_map, slice_get}
use Rattle.std.proofs.lemmas.Option.{none-some, same_Some}
use Rattle.pc_types.specs.declared.module_record.ModuleRecord.{ModuleRecord}
use Rattle.pc_types.specs.declared.parsed.TypeTable.{TypeTable}
use Rattle.pc_spec_reading.specs.Components.{outer_of, read_outer}
use Rattle.pc_spec_reading.specs.Item.{Lent, a_component, a_module, outer_item}
use Rattle.pc_spec_reading.specs.Outcome.{invalid}
use Rattle.pc_spec_reading.specs.Rows.{read_row}
use Rattle.pc_spec_reading.specs.Scope.{Moment, Scope, add_value, chain_of, with_value}
use Rattle.pc_spec_reading.specs.Value.{Chain, Component, Module, Value, component_of, component_value, inside}
use Rattle.pc_spec_reading.specs.Value.{lent_in, module_value, outermost}
use Rattle.pc_local.specs.declared.item.ClosedOverComponent.{ClosedOverComponent}
use Rattle.pc_local.specs.declared.item.ClosedOverModule.{ClosedOverModule}
use Rattle.pc_local.specs.declared.item.LocalInitializer.TheVariants as local
use Rattle.pc_local.specs.Plain.{plain_item}
use Rattle.pc_local.specs.Standing.{Names, Reads, component_variable, module_variable, stands_component}
use Rattle.pc_local.specs.Standing.{stands_module, stands_plain}
use Rattle.pc_inline_state.specs.declared.definition.ClosureId.{ClosureId}
use Rattle.pc_inline_state.specs.declared.definition.DefinitionId.{DefinitionId}
use Rattle.pc_inline_state.specs.declared.error.ItemError.{ItemError}
use Rattle.pc_inline_state.specs.declared.error.ItemError.TheVariants as item_error
use Rattle.pc_inline_state.specs.declared.error.ItemFault.TheVariants as item_fault
use Rattle.pc_inline_state.specs.declared.frame.Frame.{Frame}
use Rattle.pc_inline_state.specs.declared.state.State.{State}
use Rattle.pc_inline_items.specs.Captures.{IsEnclosed, captured_components, captured_id, captured_modules}
use Rattle.pc_inline_state.specs.Points.{Follows, PointStands}
use Rattle.pc_inline_state.specs.Stands.{Stands}
use Rattle.pc_inline_items.specs.StepsLocal.{StepsLocal}
use Rattle.pc_inline_state.specs.Tables.{Tables, tables_of}
use Rattle.pc_inline_items.proofs.ComponentLemmas.{component_missing, component_there, module_missing, module_there}
use Rattle.pc_inline_items.proofs.ComponentLemmas.{packed_of}
use Rattle.pc_inline_canon.proofs.FrameLemmas.{component_framed, framed_point, module_framed}

-- what an outer alias names is what the chain of the scope lends
outer_lent : (s : Scope) (k : Lent) (c n : ℕ) → outer_of s k c n ≡ lent_in (chain_of s) k c n
unfolding outer_of
outer_lent s a_module zero n = refl
outer_lent s a_component zero n = ap (option_map component_value) (sym (packed_of s.components n))
outer_lent s a_module (suc c) n = refl
outer_lent s a_component (suc c) n = refl

-- a value from the list of modules is a module
module_found : (o : Option Module) (w : Value) → option_map module_value o ≡ Some w
    → (m : Module) × (w ≡ module_value m)
module_found None w is = absurd (none-some w is)
module_found (Some m) w is = (m, sym (same_Some (module_value m) w is))

-- one from the list of components is a component
component_found : (o : Option Component) (w : Value) → option_map component_value o ≡ Some w
    → (x : Component) × (w ≡ component_value x)
component_found None w is = absurd (none-some w is)
component_found (Some x) w is = (x, sym (same_Some (component_value x) w is))

-- what is lent as a module is one
module_lent : (chain : Chain) (c n : ℕ) (w : Value) → lent_in chain a_module c n ≡ Some w
    → (m : Module) × (w ≡ module_value m)
module_lent outermost c n w is = absurd (none-some w is)
module_lent (inside vs cs chain) zero n w is = module_found (slice_get vs n) w is
module_lent (inside vs cs chain) (suc c) n w is = module_lent chain c n w is

-- likewise of a component
component_lent : (chain : Chain) (c n : ℕ) (w : Value) → lent_in chain a_component c n ≡ Some w
    → (x : Component) × (w ≡ component_value x)
component_lent outermost c n w is = absurd (none-some w is)
component_lent (inside vs cs chain) zero n w is = component_found (component_of cs n) w is
component_lent (inside vs cs chain) (suc c) n w is = component_lent chain c n w is

module _ (t : TypeTable) (ms : List ModuleRecord) (j : Lent) (c n : ℕ) where
  -- an alias of what is there
  outer_read : (now : Moment) (w : Value) → lent_in (chain_of now.scope) j c n ≡ Some w
      → read_row t ms now (outer_item j c n) ≡ Ok (add_value now w)
  unfolding read_row read_outer
  outer_read now w is = rw (outer_lent now.scope j c n ∙ is) refl

  -- of what isn't
  outer_unread : (now : Moment) → lent_in (chain_of now.scope) j c n ≡ None
      → read_row t ms now (outer_item j c n) ≡ Err invalid
  unfolding read_row read_outer
  outer_unread now none =
      rw (outer_lent now.scope j c n ∙ none) refl

module _ (t : TypeTable) (ms : List ModuleRecord) (k : Option ClosureId) (st : State) (f : Frame) where
  abbrev b : Tables
  b = tables_of st

  module _ (v : ClosedOverModule) (st' : State) (f' : Frame) (r : Result ⊤ ItemError) where
    -- the step is that of an outer alias of a module, which the variable reads
    module_steps : ((names : Names) (c n : ℕ) → Reads names.modules (module_variable v) c n → (now : Moment)
        → PointStands t ms st f now → IsEnclosed ms b names k now.scope.chain
        → Follows t ms st' f' (read_row t ms now (outer_item a_module c n)) r)
        → StepsLocal t ms k (local.AliasModule v) st f st' f' r
    unfolding StepsLocal plain_item
    module_steps each names i (stands_plain is) = absurd (none-some i is)
    module_steps each names i (stands_module {c = c} {n = n} reads) = each names c n reads

  module _ (v : ClosedOverComponent) (st' : State) (f' : Frame) (r : Result ⊤ ItemError) where
    -- of a component
    component_steps : ((names : Names) (c n : ℕ) → Reads names.components (component_variable v) c n → (now : Moment)
        → PointStands t ms st f now → IsEnclosed ms b names k now.scope.chain
        → Follows t ms st' f' (read_row t ms now (outer_item a_component c n)) r)
        → StepsLocal t ms k (local.AliasComponent v) st f st' f' r
    unfolding StepsLocal plain_item
    component_steps each names i (stands_plain is) = absurd (none-some i is)
    component_steps each names i (stands_component {c = c} {n = n} reads) = each names c n reads

  -- the module isn't there
  pub module_unaliased : (v : ClosedOverModule) (st' : State) (f' : Frame)
      → captured_id f.modules (captured_modules b.closures k) (module_variable v) ≡ None
      → StepsLocal t ms k (local.AliasModule v) st f st' f' (Err (item_error.Fault item_fault.Invalid))
  unfolding Follows
  module_unaliased v st' f' none =
      module_steps v st' f' (Err (item_error.Fault item_fault.Invalid)) (λ names c n reads now at enclosed.
      outer_unread t ms a_module c n now
      (module_missing ms b f now.scope at.frame names k enclosed (module_variable v) c n reads none))

  -- nor the component
  pub component_unaliased : (v : ClosedOverComponent) (st' : State) (f' : Frame)
      → captured_id f.components (captured_components b.closures k) (component_variable v) ≡ None
      → StepsLocal t ms k (local.AliasComponent v) st f st' f' (Err (item_error.Fault item_fault.Invalid))
  unfolding Follows
  component_unaliased v st' f' none =
      component_steps v st' f' (Err (item_error.Fault item_fault.Invalid)) (λ names c n reads now at enclosed.
      outer_unread t ms a_component c n now
      (component_missing ms b f now.scope at.frame names k enclosed (component_variable v) c n reads none))

  -- the module is one more of the component instance
  pub module_aliased : (v : ClosedOverModule) (id : DefinitionId)
      → captured_id f.modules (captured_modules b.closures k) (module_variable v) ≡ Some id → (r : ⊤)
      → StepsLocal t ms k (local.AliasModule v) st f st (record f { modules = f.modules ++ id ∷ [] }) (Ok r)
  unfolding Follows
  module_aliased v id is r =
      module_steps v st (record f { modules = f.modules ++ id ∷ [] }) (Ok r) (λ names c n reads now at enclosed.
      let x = module_there ms b f now.scope at.frame names k enclosed (module_variable v) c n id reads is in
      let m = module_lent (chain_of now.scope) c n x.0 x.1 in
      let value = module_value m.0 in
      let lent : lent_in (chain_of now.scope) a_module c n ≡ Some value = x.1 ∙ ap Some m.1 in
      record {
        now = add_value now value;
        stands = framed_point t ms st f (record f { modules = f.modules ++ id ∷ [] }) now (with_value now.scope value)
            at refl refl refl (module_framed ms b f now.scope at.frame id m.0 (subst (Stands ms b id) m.1 x.2));
        done = outer_read t ms a_module c n now value lent;
      })

  -- the component likewise
  pub component_aliased : (v : ClosedOverComponent) (id : DefinitionId)
      → captured_id f.components (captured_components b.closures k) (component_variable v) ≡ Some id → (r : ⊤)
      → StepsLocal t ms k (local.AliasComponent v) st f st (record f { components = f.components ++ id ∷ [] }) (Ok r)
  unfolding Follows
  component_aliased v id is r =
      component_steps v st (record f { components = f.components ++ id ∷ [] }) (Ok r)
      (λ names c n reads now at enclosed.
      let x = component_there ms b f now.scope at.frame names k enclosed (component_variable v) c n id reads is in
      let m = component_lent (chain_of now.scope) c n x.0 x.1 in
      let value = component_value m.0 in
      let lent : lent_in (chain_of now.scope) a_component c n ≡ Some value = x.1 ∙ ap Some m.1 in
      record {
        now = add_value now value;
        stands = framed_point t ms st f (record f { components = f.components ++ id ∷ [] }) now
            (with_value now.scope value) at refl refl refl
            (component_framed ms b f now.scope at.frame id m.0 (subst (Stands ms b id) m.1 x.2));
        done = outer_read t ms a_component c n now value lent;
      })
