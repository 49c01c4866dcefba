-- The step of a core module that was handed in.
use Rattle.std.proofs.Common.{◌≡◌, ◌<◌, ℕ, List, [], ◌∷◌, ◌++◌, length, true, false, Some, Result, Ok, Err}
use Rattle.std.proofs.Common.{refl, subst, sym, arith}
use Rattle.std.specs.Prelude.{⊤}
use Rattle.pc_numbers.specs.declared.component_entity.StaticModuleIndex.{StaticModuleIndex}
use Rattle.pc_types.specs.declared.module_record.ModuleRecord.{ModuleRecord}
use Rattle.pc_types.specs.declared.parsed.TypeTable.{TypeTable}
use Rattle.pc_types.specs.declared.type_index.TypeModuleIndex.{TypeModuleIndex}
use Rattle.pc_types.specs.declared.types.TypeDef.TheVariants as type
use Rattle.pc_types.specs.Table.{is_module}
use Rattle.pc_types.specs.TypeTree.{TypeTree, tree_of}
use Rattle.pc_types_builder.specs.Plain.{Layers}
use Rattle.pc_types_builder.specs.Trees.{IsEntry}
use Rattle.pc_types_lists.specs.Adds.{most_types}
use Rattle.pc_spec_reading.specs.Item.{Item, module_item}
use Rattle.pc_spec_reading.specs.Modules.{read_module}
use Rattle.pc_spec_reading.specs.Outcome.{Fault, bad_type}
use Rattle.pc_spec_reading.specs.Rows.{read_row}
use Rattle.pc_spec_reading.specs.Scope.{Moment, add_value, with_value}
use Rattle.pc_spec_reading.specs.Types.{has_entry, tree_if, type_tree}
use Rattle.pc_spec_reading.specs.Value.{module_value, static_module}
use Rattle.pc_inline_state.specs.declared.definition.Definition.TheVariants as definition
use Rattle.pc_inline_state.specs.declared.definition.DefinitionId.{DefinitionId}
use Rattle.pc_inline_state.specs.declared.error.ItemError.TheVariants as item_error
use Rattle.pc_inline_state.specs.declared.error.ItemFault.TheVariants as item_fault
use Rattle.pc_inline_state.specs.declared.frame.Frame.{Frame}
use Rattle.pc_inline_state.specs.declared.state.State.{State}
use Rattle.pc_inline_state.specs.Adds.{Adds, most_converted}
use Rattle.pc_inline_state.specs.AddsEach.{AddsEach, nowhere}
use Rattle.pc_inline_state.specs.Points.{Goes, PointStands, StepsItem}
use Rattle.pc_inline_state.specs.Prepares.{Converts}
use Rattle.pc_inline_state.specs.Stands.{stands_static}
use Rattle.pc_inline_state.specs.Tables.{Keeps, Tables, tables_of}
use Rattle.pc_inline_state.proofs.AddsLemmas.{adds_then, adds_weaken, definition_few}
use Rattle.pc_inline_state.proofs.KnowsLemmas.{entry_here}
use Rattle.pc_inline_state.proofs.MembersLemmas.{no_instance}
use Rattle.pc_inline_state.proofs.StateLemmas.{converts_prepares, definition_prepares, keeps_trans}
use Rattle.pc_inline_canon.proofs.DefinitionLemmas.{definition_added}
use Rattle.pc_inline_canon.proofs.FrameLemmas.{converted_point, framed_point, module_framed}
use Rattle.pc_inline_canon.proofs.StepLemmas.{steps_on, steps_stuck}
use Rattle.pc_inline_canon.proofs.WorldLemmas.{point_kept}

module _ (t : TypeTable) (a b : Tables) where
  -- the type of a module alone was added
  pub type_few : Adds t (most_types t) a b → Adds t (most_converted t 1) a b
  type_few h = adds_weaken t (most_types t) (most_converted t 1) a b (omega arith) h

  -- and then its definition
  pub module_few : (x : Tables) → Adds t (most_types t) a b → AddsEach nowhere 0 1 b x
      → Adds t (most_converted t 1) a x
  module_few x h k = adds_then t 4 a b x (omega arith) h (definition_few t b x k)

-- what is kept after the type was converted is kept from the start
pub module_keeps : (t : TypeTable) (st mid : State) (before after : Layers) (x : Tables)
    → Converts t st before mid after → Keeps (tables_of mid) x → Keeps (tables_of st) x
module_keeps t st mid before after x converts kept =
    keeps_trans (tables_of st) (tables_of mid) x (converts_prepares t [] st before mid after converts).keeps kept

module _ (t : TypeTable) (ms : List ModuleRecord) (m : StaticModuleIndex) (ty : ℕ) where
  -- the item
  abbrev module_ : Item
  module_ = module_item m.0 ty

  -- how the reading reads it
  abbrev reads : Moment → Result Moment Fault
  reads now = read_row t ms now module_

  -- what the item makes of a moment
  module_read : (now : Moment) (tree : TypeTree) → tree_if t is_module now.scope ty ≡ Some tree
      → read_row t ms now module_ ≡ Ok (add_value now (module_value (static_module m.0 tree)))
  unfolding read_row read_module
  module_read now tree is = rw (is) refl

  -- its type is none
  module_untyped : (now : Moment) → has_entry t is_module ty ≡ false → reads now ≡ Err bad_type
  unfolding read_row read_module tree_if
  module_untyped now none = rw (none) refl

  -- its type is no module type
  pub module_misses : (st : State) (f : Frame) (st' : State) (f' : Frame) → has_entry t is_module ty ≡ false
      → StepsItem t ms module_ st f st' f' (Err (item_error.Fault item_fault.BadType))
  module_misses st f st' f' none =
      steps_stuck t ms reads st f st' f' item_fault.BadType (λ now at. module_untyped now none)

  -- its type was converted
  module _ (st : State) (f : Frame) (has : has_entry t is_module ty ≡ true) (handed_in : m.0 < length ms)
      (st' : State) (done : Layers) (converts : Converts t st f.converted st' done)
      (i : TypeModuleIndex) (entry : IsEntry st'.types t ty (type.Module i))
      (key : DefinitionId) (last : key.0 ≡ length st'.definitions) where
    -- the component instance, for which it was
    abbrev g : Frame
    g = record f { converted = done }

    -- the state with the definition
    abbrev end : State
    end = record st' { definitions = st'.definitions ++ definition.StaticModule m ty ∷ [] }

    -- the component instance with the module
    abbrev with_it : Frame
    with_it = record g { modules = f.modules ++ key ∷ [] }

    -- the code goes where the reading goes
    module_goes : (now : Moment) → PointStands t ms st f now → Goes t ms end with_it (reads now)
    unfolding tree_if type_tree
    module_goes now at =
        let still = converted_point t ms st f st' done converts now at in
        let x = entry_here st'.graph st'.types now.scope still.here t ty (type.Module i) entry in
        let there : tree_if t is_module now.scope ty ≡ Some x.0 = rw (has) x.1 in
        let d = definition.StaticModule m ty in
        let v = module_value (static_module m.0 x.0) in
        let next = add_value now v in
        let at_end = point_kept t ms st' end (definition_prepares t ms st' d
        (no_instance (length st'.instances) d refl)) g now still in
        let is = definition_added ms (tables_of end) st'.definitions d key v refl last
        (stands_static handed_in (record {
          there = subst (λ (u : TypeTable). has_entry u is_module ty ≡ true) (sym at_end.sound.table) has;
          known = now.scope.known;
          component_instance = now.scope.component_instance;
          is = subst (λ (u : TypeTable). tree_of now.scope.known now.scope.component_instance u ty ≡ Some x.0)
              (sym at_end.sound.table) x.1;
        }) i x.2) in
        record {
          now = next;
          stands = framed_point t ms end g with_it now (with_value now.scope v) at_end refl refl refl
              (module_framed ms (tables_of end) g now.scope at_end.frame key (static_module m.0 x.0) is);
          done = module_read now x.0 there;
        }

    -- it is a module of the component instance
    module_steps : (r : ⊤) → StepsItem t ms module_ st f end with_it (Ok r)
    module_steps r = steps_on t ms reads st f end with_it r module_goes

    -- the same of a state and of modules that are equal to these
    pub module_done : (last_state : State) (ns : List DefinitionId) → last_state ≡ end → ns ≡ f.modules ++ key ∷ []
        → (r : ⊤) → StepsItem t ms module_ st f last_state (record g { modules = ns }) (Ok r)
    module_done last_state ns is1 is2 r =
        subst (λ x. StepsItem t ms module_ st f x (record g { modules = ns }) (Ok r)) (sym is1)
        (subst (λ x. StepsItem t ms module_ st f end (record g { modules = x }) (Ok r)) (sym is2) (module_steps r))
