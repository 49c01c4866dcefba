-- The step of a nested component.
use Rattle.std.proofs.Common.{◌≡◌, ◌∙◌, ◌+◌, ℕ, zero, suc, List, [], ◌∷◌, ◌++◌, length, true, false, None, Some, Option}
use Rattle.std.proofs.Common.{Result, Ok, Err, refl, sym, subst, ap, map, arith}
use Rattle.std.specs.Prelude.{⊤, is_some, option_map, slice_get}
use Rattle.std.proofs.lemmas.Option.{none-some}
use Rattle.pc_entity.proofs.Growing.{slice_get-append_seam}
use Rattle.pc_numbers.specs.declared.component_entity.StaticComponentIndex.{StaticComponentIndex}
use Rattle.pc_types.specs.declared.module_record.ModuleRecord.{ModuleRecord}
use Rattle.pc_types.specs.declared.parsed.TypeTable.{TypeTable}
use Rattle.pc_spec_reading.specs.Components.{is_definable, read_component}
use Rattle.pc_spec_reading.specs.Item.{Items, Lent, a_component, a_module, component_item}
use Rattle.pc_spec_reading.specs.Outcome.{Fault, invalid}
use Rattle.pc_spec_reading.specs.Rows.{read_row}
use Rattle.pc_spec_reading.specs.Scope.{Moment, Scope, add_value, chain_of, with_value}
use Rattle.pc_spec_reading.specs.Value.{Chain, Component, Value, closed, component_of, component_value, lent_in}
use Rattle.pc_spec_reading.specs.Value.{module_value, pack_components}
use Rattle.pc_local.specs.declared.captured.Variable.{Variable}
use Rattle.pc_local.specs.declared.item.ClosedOverComponent.{ClosedOverComponent}
use Rattle.pc_local.specs.declared.item.ClosedOverModule.{ClosedOverModule}
use Rattle.pc_local.specs.declared.item.ClosedOverVars.{ClosedOverVars}
use Rattle.pc_local.specs.declared.item.LocalInitializer.{LocalInitializer}
use Rattle.pc_local.specs.declared.item.LocalInitializer.TheVariants as local
use Rattle.pc_local.specs.declared.item.Translation.{Translation}
use Rattle.pc_local.specs.Plain.{plain_item}
use Rattle.pc_local.specs.Standing.{BodyStands, Given, Gives, Has, ItemsStand, Leaves, Names}
use Rattle.pc_local.specs.Standing.{Reads, component_variable, module_variable, stands_nested, stands_plain}
use Rattle.pc_inline_state.specs.declared.closure.Closure.{Closure}
use Rattle.pc_inline_state.specs.declared.definition.ClosureId.{ClosureId}
use Rattle.pc_inline_state.specs.declared.definition.Definition.TheVariants as definition
use Rattle.pc_inline_state.specs.declared.definition.DefinitionId.{DefinitionId}
use Rattle.pc_inline_state.specs.declared.error.ItemError.{ItemError}
use Rattle.pc_inline_state.specs.declared.error.ItemError.TheVariants as item_error
use Rattle.pc_inline_state.specs.declared.error.ItemFault.TheVariants as item_fault
use Rattle.pc_inline_state.specs.declared.frame.Frame.{Frame}
use Rattle.pc_inline_state.specs.declared.state.State.{State}
use Rattle.pc_inline_items.specs.Captures.{IsEnclosed, captured_components, captured_id, captured_ids, captured_modules}
use Rattle.pc_inline_state.specs.Frames.{Both, ComponentStands, FrameStands, ModuleStands, both, neither}
use Rattle.pc_inline_state.specs.Points.{Follows, Goes, PointStands}
use Rattle.pc_inline_state.specs.Stands.{Captured, Stands, stands_component}
use Rattle.pc_inline_items.specs.StepsLocal.{StepsLocal}
use Rattle.pc_inline_state.specs.Tables.{Tables, tables_of}
use Rattle.pc_inline_items.proofs.CaptureLemmas.{all_captured, all_definable, body_has, captured_leads, names_of_kind}
use Rattle.pc_inline_items.proofs.CaptureLemmas.{none_definable, one_missing, variable_missing, variable_there}
use Rattle.pc_inline_canon.proofs.DefinitionLemmas.{definition_added}
use Rattle.pc_inline_canon.proofs.FrameLemmas.{component_framed, framed_point}
use Rattle.pc_inline_canon.proofs.KeptLemmas.{captured_kept}
use Rattle.pc_inline_state.proofs.MembersLemmas.{no_instance}
use Rattle.pc_inline_state.proofs.StateLemmas.{closure_prepares, definition_prepares, prepares_trans}
use Rattle.pc_inline_canon.proofs.WorldLemmas.{point_kept}
use Rattle.pc_inline_state.proofs.ZipLemmas.{zip_at}

-- what a chain lends first is what stands in the scope
pub packed_of : (cs : List Component) (n : ℕ) → component_of (pack_components cs) n ≡ slice_get cs n
packed_of [] n = refl
packed_of (c ∷ cs) zero = refl
packed_of (c ∷ cs) (suc n) = packed_of cs n

both_value : {A : Type 0} (ms : List ModuleRecord) (b : Tables) (value : A → Value) (o : Option DefinitionId)
    (w : Option A) → Both (λ id x. Stands ms b id (value x)) o w → Both (Stands ms b) o (option_map value w)
both_value ms b value None None h = neither
both_value ms b value None (Some x) h = elim h [ ]
both_value ms b value (Some id) None h = elim h [ ]
both_value ms b value (Some id) (Some x) (both r) = both r

module _ (ms : List ModuleRecord) (b : Tables) (f : Frame) (s : Scope) (frame : FrameStands ms b f s) where
  -- the nth module of the scope
  lent_module : (n : ℕ) → Both (Stands ms b) (slice_get f.modules n) (lent_in (chain_of s) a_module zero n)
  lent_module n =
      both_value ms b module_value (slice_get f.modules n) (slice_get s.modules n)
      (zip_at (ModuleStands ms b) f.modules s.modules n frame.modules)

  -- the nth component
  lent_component : (n : ℕ) → Both (Stands ms b) (slice_get f.components n) (lent_in (chain_of s) a_component zero n)
  lent_component n =
      subst (λ o. Both (Stands ms b) (slice_get f.components n) (option_map component_value o))
      (sym (packed_of s.components n))
      (both_value ms b component_value (slice_get f.components n) (slice_get s.components n)
      (zip_at (ComponentStands ms b) f.components s.components n frame.components))

  module _ (names : Names) (k : Option ClosureId) (enclosed : IsEnclosed ms b names k s.chain) where
    -- a module that a variable of the component instance is
    pub module_there : (v : Variable) (c n : ℕ) (id : DefinitionId) → Reads names.modules v c n
        → captured_id f.modules (captured_modules b.closures k) v ≡ Some id
        → (w : Value) × (lent_in (chain_of s) a_module c n ≡ Some w) × Stands ms b id w
    module_there =
        variable_there ms b a_module s.modules (pack_components s.components) s.chain names.modules f.modules
        (captured_modules b.closures k) lent_module enclosed.modules

    -- a component likewise
    pub component_there : (v : Variable) (c n : ℕ) (id : DefinitionId) → Reads names.components v c n
        → captured_id f.components (captured_components b.closures k) v ≡ Some id
        → (w : Value) × (lent_in (chain_of s) a_component c n ≡ Some w) × Stands ms b id w
    component_there =
        variable_there ms b a_component s.modules (pack_components s.components) s.chain names.components f.components
        (captured_components b.closures k) lent_component enclosed.components

    -- a module that isn't there
    pub module_missing : (v : Variable) (c n : ℕ) → Reads names.modules v c n
        → captured_id f.modules (captured_modules b.closures k) v ≡ None → lent_in (chain_of s) a_module c n ≡ None
    module_missing =
        variable_missing ms b a_module s.modules (pack_components s.components) s.chain names.modules f.modules
        (captured_modules b.closures k) lent_module enclosed.modules

    -- a component that isn't there
    pub component_missing : (v : Variable) (c n : ℕ) → Reads names.components v c n
        → captured_id f.components (captured_components b.closures k) v ≡ None
        → lent_in (chain_of s) a_component c n ≡ None
    component_missing =
        variable_missing ms b a_component s.modules (pack_components s.components) s.chain names.components
        f.components (captured_components b.closures k) lent_component enclosed.components

    -- the modules that a nested body captures
    modules_captured : (vs : List ClosedOverModule) (inner : List (ℕ × ℕ)) (out : List DefinitionId)
        → Gives names.modules (map module_variable vs) inner
        → captured_ids module_variable f.modules (captured_modules b.closures k) vs ≡ Some out
        → Captured ms b a_module out inner (chain_of s)
    modules_captured =
        all_captured ms b a_module s.modules (pack_components s.components) s.chain names.modules f.modules
        (captured_modules b.closures k) lent_module enclosed.modules module_variable

    -- the components that it captures
    components_captured : (vs : List ClosedOverComponent) (inner : List (ℕ × ℕ)) (out : List DefinitionId)
        → Gives names.components (map component_variable vs) inner
        → captured_ids component_variable f.components (captured_components b.closures k) vs ≡ Some out
        → Captured ms b a_component out inner (chain_of s)
    components_captured =
        all_captured ms b a_component s.modules (pack_components s.components) s.chain names.components f.components
        (captured_components b.closures k) lent_component enclosed.components component_variable

    -- the name of a module that isn't there
    modules_missing : (vs : List ClosedOverModule) (inner : List (ℕ × ℕ))
        → Gives names.modules (map module_variable vs) inner
        → captured_ids module_variable f.modules (captured_modules b.closures k) vs ≡ None
        → (c : ℕ) × (n : ℕ) × Has inner c n × (lent_in (chain_of s) a_module c n ≡ None)
    modules_missing =
        one_missing ms b a_module s.modules (pack_components s.components) s.chain names.modules f.modules
        (captured_modules b.closures k) lent_module enclosed.modules module_variable

    -- the name of a component that isn't there
    components_missing : (vs : List ClosedOverComponent) (inner : List (ℕ × ℕ))
        → Gives names.components (map component_variable vs) inner
        → captured_ids component_variable f.components (captured_components b.closures k) vs ≡ None
        → (c : ℕ) × (n : ℕ) × Has inner c n × (lent_in (chain_of s) a_component c n ≡ None)
    components_missing =
        one_missing ms b a_component s.modules (pack_components s.components) s.chain names.components f.components
        (captured_components b.closures k) lent_component enclosed.components component_variable

no_more : (c e : ℕ) → c ≡ e + zero → e ≡ c
no_more c e h = omega (arith, h)

-- a body of which all that it captures is there can be defined
captured_definable : (ms : List ModuleRecord) (b : Tables) (bodies : List Translation) (inner : Names)
    (t : Translation) (body : Items) (chain : Chain) (modules components : List DefinitionId)
    → ItemsStand bodies inner t.initializers body → Captured ms b a_module modules inner.modules chain
    → Captured ms b a_component components inner.components chain → is_definable chain zero body ≡ true
captured_definable ms b bodies inner t body chain modules components items ms_there cs_there =
    all_definable chain zero body (λ k c n e out leaves.
    let has = body_has bodies inner t.initializers body k c n items leaves in
    subst (λ x. is_some (lent_in chain k x n) ≡ true) (sym (no_more c e out)) (by k c n has))
  where
    by : (k : Lent) (c n : ℕ) → Has (names_of_kind inner k) c n → is_some (lent_in chain k c n) ≡ true
    by a_module c n has = captured_leads ms b a_module modules inner.modules chain has.0 c n ms_there has.1
    by a_component c n has =
        captured_leads ms b a_component components inner.components chain has.0 c n cs_there has.1

-- one of which something isn't there can't
lacking_definable : (k : Lent) (c n : ℕ) (body : Items) (chain : Chain) → Leaves k c n body
    → lent_in chain k c n ≡ None → is_definable chain zero body ≡ false
lacking_definable k c n body chain leaves none =
    none_definable chain zero k c n c body (omega arith) none leaves

module _ (t : TypeTable) (ms : List ModuleRecord) (body : Items) where
  abbrev reads : Moment → Result Moment Fault
  reads now = read_row t ms now (component_item body)

  -- a body that can be defined
  defined_read : (now : Moment) → is_definable (chain_of now.scope) zero body ≡ true
      → read_row t ms now (component_item body)
      ≡ Ok (add_value now (component_value (closed body (chain_of now.scope))))
  unfolding read_row read_component
  defined_read now is = rw (is) refl

  -- one that can't
  undefined_read : (now : Moment) → is_definable (chain_of now.scope) zero body ≡ false → reads now ≡ Err invalid
  unfolding read_row read_component
  undefined_read now none = rw (none) refl

module _ (t : TypeTable) (ms : List ModuleRecord) (k : Option ClosureId) (s : StaticComponentIndex)
    (vars : ClosedOverVars) (st : State) (f : Frame) where
  abbrev it : LocalInitializer
  it = local.ComponentStatic s vars

  abbrev old : Tables
  old = tables_of st

  -- for which body it stands, and with which names for what that captures
  abbrev Nested : Names → Items → Type 0
  Nested names body = (inner : Names) × (tr : Translation) × (slice_get st.bodies.now s.0 ≡ Some tr)
      × BodyStands st.bodies.now inner tr body × Given names vars inner body

  -- what is asked of a nested body at each moment
  abbrev Each : ((names : Names) (body : Items) (now : Moment) → Type 0) → Type 0
  Each goal = (names : Names) (body : Items) → Nested names body → (now : Moment) → PointStands t ms st f now
      → IsEnclosed ms old names k now.scope.chain → goal names body now

  -- the step is that of a nested body
  nested_steps : (st' : State) (f' : Frame) (r : Result ⊤ ItemError)
      → Each (λ names body now. Follows t ms st' f' (reads t ms body now) r) → StepsLocal t ms k it st f st' f' r
  unfolding StepsLocal plain_item
  nested_steps st' f' r each names i (stands_plain is) = absurd (none-some i is)
  nested_steps st' f' r each names i (stands_nested {inner = inner} {t = tr} {body = body} at items exports given) =
      each names body (inner, tr, at, record { items = items; exports = exports }, given)

  -- something of a kind isn't there
  missing_steps : (st' : State) (f' : Frame)
      → Each (λ names body now. is_definable (chain_of now.scope) zero body ≡ false)
      → StepsLocal t ms k it st f st' f' (Err (item_error.Fault item_fault.Invalid))
  unfolding Follows
  missing_steps st' f' none =
      nested_steps st' f' (Err (item_error.Fault item_fault.Invalid)) (λ names body nested now at enclosed.
      undefined_read t ms body now (none names body nested now at enclosed))

  -- a module isn't there
  pub module_lacks : (st' : State) (f' : Frame)
      → captured_ids module_variable f.modules (captured_modules old.closures k) vars.modules ≡ None
      → StepsLocal t ms k it st f st' f' (Err (item_error.Fault item_fault.Invalid))
  module_lacks st' f' none = missing_steps st' f' (λ names body nested now at enclosed.
      let inner = nested.0 in
      let given = nested.4 in
      let lacks = modules_missing ms old f now.scope at.frame names k enclosed vars.modules inner.modules given.modules
      none in
      lacking_definable a_module lacks.0 lacks.1 body (chain_of now.scope)
      (given.leaving.modules lacks.0 lacks.1 lacks.2) lacks.3)

  -- a component isn't there
  pub component_lacks : (st' : State) (f' : Frame)
      → captured_ids component_variable f.components (captured_components old.closures k) vars.components ≡ None
      → StepsLocal t ms k it st f st' f' (Err (item_error.Fault item_fault.Invalid))
  component_lacks st' f' none = missing_steps st' f' (λ names body nested now at enclosed.
      let inner = nested.0 in
      let given = nested.4 in
      let lacks = components_missing ms old f now.scope at.frame names k enclosed vars.components inner.components
      given.components none in
      lacking_definable a_component lacks.0 lacks.1 body (chain_of now.scope)
      (given.leaving.components lacks.0 lacks.1 lacks.2) lacks.3)

  module _ (modules components : List DefinitionId)
      (modules_there
      : captured_ids module_variable f.modules (captured_modules old.closures k) vars.modules ≡ Some modules)
      (components_there
      : captured_ids component_variable f.components (captured_components old.closures k) vars.components
      ≡ Some components)
      (captured : ClosureId) (closure_last : captured.0 ≡ length st.closures) (key : DefinitionId)
      (last : key.0 ≡ length st.definitions) where
    abbrev closure : Closure
    closure = record { modules = modules; components = components }

    abbrev mid : State
    mid = record st { closures = st.closures ++ closure ∷ [] }

    abbrev end : State
    end = record mid { definitions = st.definitions ++ definition.Component s captured ∷ [] }

    abbrev with_it : Frame
    with_it = record f { components = f.components ++ key ∷ [] }

    component_goes : Each (λ names body now. Goes t ms end with_it (reads t ms body now))
    component_goes names body nested now at enclosed =
        let c = tables_of end in
        let chain = chain_of now.scope in
        let inner = nested.0 in
        let given = nested.4 in
        let prepares = prepares_trans t ms st mid end (closure_prepares t ms st closure)
        (definition_prepares t ms mid (definition.Component s captured)
        (no_instance (length mid.instances) (definition.Component s captured) refl)) in
        let ms_there = modules_captured ms old f now.scope at.frame names k enclosed vars.modules inner.modules modules
        given.modules modules_there in
        let cs_there = components_captured ms old f now.scope at.frame names k enclosed vars.components
        inner.components components given.components components_there in
        let v = component_value (closed body chain) in
        let next = add_value now v in
        let at_end = point_kept t ms st end prepares f now at in
        let held : slice_get c.closures captured.0 ≡ Some closure =
        ap (slice_get (st.closures ++ closure ∷ [])) closure_last ∙ slice_get-append_seam st.closures closure [] in
        let is = definition_added ms c st.definitions (definition.Component s captured) key v refl last
        (stands_component nested.2 nested.3 given.leaving held
        (captured_kept ms old c prepares.keeps a_module modules inner.modules chain ms_there)
        (captured_kept ms old c prepares.keeps a_component components inner.components chain cs_there)) in
        let definable = captured_definable ms old st.bodies.now inner nested.1 body chain modules components
        nested.3.items ms_there cs_there in
        record {
          now = next;
          stands = framed_point t ms end f with_it now (with_value now.scope v) at_end refl refl refl
              (component_framed ms c f now.scope at_end.frame key (closed body chain) is);
          done = defined_read t ms body now definable;
        }

    -- it is a component of the component instance
    pub component_steps : (r : ⊤) → StepsLocal t ms k it st f end with_it (Ok r)
    unfolding Follows
    component_steps r = nested_steps end with_it (Ok r) component_goes

  -- the same of a state and of components that are equal to these
  pub component_done : (modules components : List DefinitionId)
      → captured_ids module_variable f.modules (captured_modules old.closures k) vars.modules ≡ Some modules
      → captured_ids component_variable f.components (captured_components old.closures k) vars.components
      ≡ Some components
      → (captured : ClosureId) → captured.0 ≡ length st.closures → (key : DefinitionId) (st1 st2 : State)
      (cs : List DefinitionId)
      → st1 ≡ record st { closures = st.closures ++ record { modules = modules; components = components } ∷ [] }
      → key.0 ≡ length st1.definitions
      → st2 ≡ record st1 { definitions = st1.definitions ++ definition.Component s captured ∷ [] }
      → cs ≡ f.components ++ key ∷ [] → (r : ⊤)
      → StepsLocal t ms k it st f st2 (record f { components = cs }) (Ok r)
  component_done modules components mt ct captured closure_last key st1 st2 cs is1 last is2 is3 r =
      let same = last ∙ ap (λ (x : State). length x.definitions) is1 in
      let at_end = is2
      ∙ (λ j. record (is1 j) { definitions = (is1 j).definitions ++ definition.Component s captured ∷ [] }) in
      subst (λ x. StepsLocal t ms k it st f x (record f { components = cs }) (Ok r)) (sym at_end)
      (subst (λ x. StepsLocal t ms k it st f (end modules components mt ct captured closure_last key same)
      (record f { components = x }) (Ok r)) (sym is3)
      (component_steps modules components mt ct captured closure_last key same r))
