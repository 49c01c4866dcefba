-- Types that are converted and become definitions: nothing else changes, and a component instance stands where it did.
use Rattle.std.proofs.Common.{◌≡◌, ◌≤◌, ◌+◌, ◌*◌, ℕ, List, [], ◌∷◌, ◌++◌, length, Option, None, Some, refl, sym, ap}
use Rattle.std.proofs.Common.{subst, ◌∙◌, arith, true, false, true≢false}
use Rattle.std.specs.Prelude.{is_some, option_map, slice_get}
use Rattle.pc_types.specs.declared.module_record.ModuleRecord.{ModuleRecord}
use Rattle.pc_types.specs.declared.parsed.DeclType.{DeclType}
use Rattle.pc_types.specs.declared.parsed.TypeTable.{TypeTable}
use Rattle.pc_types.specs.declared.types.TypeDef.{TypeDef}
use Rattle.pc_types_lists.specs.Adds.{most_types}
use Rattle.pc_types_builder.specs.Plain.{Layers}
use Rattle.pc_types_builder.specs.Trees.{IsEntry}
use Rattle.pc_parsed.specs.declared.payload.ItemKind.TheVariants as kind
use Rattle.pc_spec_reading.specs.Items.{value_at}
use Rattle.pc_spec_reading.specs.Scope.{Moment, Scope}
use Rattle.pc_spec_reading.specs.Types.{type_tree}
use Rattle.pc_spec_reading.specs.Value.{type_value}
use Rattle.pc_inline_state.specs.declared.definition.Definition.TheVariants as definition
use Rattle.pc_inline_state.specs.declared.definition.DefinitionId.{DefinitionId}
use Rattle.pc_inline_state.specs.declared.frame.Frame.{Frame}
use Rattle.pc_inline_state.specs.declared.state.State.{State}
use Rattle.pc_inline_state.specs.Adds.{Adds}
use Rattle.pc_inline_state.specs.AddsEach.{AddsEach, nowhere}
use Rattle.pc_inline_state.specs.Frames.{Both, both, neither}
use Rattle.pc_inline_state.specs.Points.{PointStands}
use Rattle.pc_inline_state.specs.Prepares.{Converts, Prepares}
use Rattle.pc_inline_state.specs.Stands.{Stands, stands_type}
use Rattle.pc_inline_state.specs.Tables.{tables_of}
use Rattle.pc_inline_state.proofs.AddsLemmas.{adds_each, adds_refl, adds_trans, adds_weaken, converted_both}
use Rattle.pc_inline_state.proofs.AddsLemmas.{converted_one}
use Rattle.pc_inline_state.proofs.KnowsLemmas.{entry_here}
use Rattle.pc_inline_state.proofs.MembersLemmas.{no_instance}
use Rattle.pc_inline_state.proofs.StateLemmas.{converts_prepares, definition_prepares, keeps_refl, keeps_trans}
use Rattle.pc_inline_canon.proofs.DefinitionLemmas.{definition_added}
use Rattle.pc_inline_canon.proofs.FrameLemmas.{converted_point}
use Rattle.pc_inline_canon.proofs.KeptLemmas.{type_kept}
use Rattle.pc_inline_canon.proofs.WorldLemmas.{point_kept}
use Rattle.pc_inline_hosts.proofs.FieldLemmas.{no_tree_past}
use Rattle.pc_inline_items.specs.Members.{TakesTypes, is_held}

module _ (t : TypeTable) (ms : List ModuleRecord) where
  -- nothing was converted
  pub takes_none : (n : ℕ) (st : State) (f : Frame) → TakesTypes t ms n st f st f
  takes_none n st f = record {
    keeps = keeps_refl (tables_of st);
    adds = adds_refl t (n * (1 + most_types t)) (tables_of st);
    resources = refl;
    rest = refl;
    frame = refl;
    stands = λ now at. at;
  }

  -- some were, and then others
  pub takes_both : (n m : ℕ) (a : State) (f : Frame) (b : State) (g : Frame) (c : State) (h : Frame)
      → TakesTypes t ms n a f b g → TakesTypes t ms m b g c h → TakesTypes t ms (n + m) a f c h
  takes_both n m a f b g c h p q = record {
    keeps = keeps_trans (tables_of a) (tables_of b) (tables_of c) p.keeps q.keeps;
    adds = converted_both t n m (tables_of a) (tables_of b) (tables_of c) p.adds q.adds;
    resources = q.resources ∙ p.resources;
    rest = q.rest
        ∙ (λ i. record (p.rest i) { types = c.types; definitions = c.definitions; numbers = c.numbers });
    frame = q.frame ∙ (λ i. record (p.frame i) { converted = h.converted });
    stands = λ now at. q.stands now (p.stands now at);
  }

  -- at most so many, or more
  pub takes_more : (n m : ℕ) (a : State) (f : Frame) (b : State) (g : Frame)
      → n * (1 + most_types t) ≤ m * (1 + most_types t) → TakesTypes t ms n a f b g → TakesTypes t ms m a f b g
  takes_more n m a f b g le p = record {
    keeps = p.keeps;
    adds = adds_weaken t (n * (1 + most_types t)) (m * (1 + most_types t)) (tables_of a) (tables_of b) le p.adds;
    resources = p.resources;
    rest = p.rest;
    frame = p.frame;
    stands = p.stands;
  }

  module _ (a : State) (f : Frame) (b : State) (done : Layers)
      (converts : Converts t a f.converted b done) (few : Adds t (most_types t) (tables_of a) (tables_of b)) where
    abbrev with_done : Frame
    with_done = record f { converted = done }

    -- one was converted
    pub takes_converted : TakesTypes t ms 1 a f b with_done
    takes_converted = record {
      keeps = (converts_prepares t ms a f.converted b done converts).keeps;
      adds = converted_one t (tables_of a) (tables_of b) few;
      resources = converts.grows.resources;
      rest = converts.rest ∙ (λ i. record a { types = b.types; definitions = sym same i; numbers = b.numbers });
      frame = refl;
      stands = converted_point t ms a f b done converts;
    }
      where
        same : b.definitions ≡ a.definitions
        same = ap (λ (x : State). x.definitions) converts.rest

    module _ (d : TypeDef) (c : State)
        (is : c ≡ record b { definitions = b.definitions ++ definition.Type_ d ∷ [] }) where
      -- and became a definition
      defined : Prepares t ms b c
      defined = subst (Prepares t ms b) (sym is)
          (definition_prepares t ms b (definition.Type_ d) (no_instance (length b.instances) (definition.Type_ d) refl))

      pub takes_defined : AddsEach nowhere 0 1 (tables_of b) (tables_of c) → TakesTypes t ms 1 a f c with_done
      takes_defined more = record {
        keeps = keeps_trans (tables_of a) (tables_of b) (tables_of c) takes_converted.keeps defined.keeps;
        adds = adds_weaken t (most_types t + 1) (1 * (1 + most_types t)) (tables_of a) (tables_of c) (omega arith)
            (adds_trans t (most_types t) 1 (tables_of a) (tables_of b) (tables_of c) few
            (adds_each t nowhere 0 1 1 (tables_of b) (tables_of c) (λ l. omega arith) (omega arith)
            (omega arith) more));
        resources = defined.resources ∙ converts.grows.resources;
        rest = is ∙ (λ i. record (converts.rest i) { definitions = b.definitions ++ definition.Type_ d ∷ [] })
            ∙ (λ i. record a {
              types = (ap (λ (x : State). x.types) (sym is)) i;
              definitions = (ap (λ (x : State). x.definitions) (sym is)) i;
              numbers = (ap (λ (x : State). x.numbers) (sym is)) i;
            });
        frame = refl;
        stands = λ now at. point_kept t ms b c defined with_done now (takes_converted.stands now at);
      }

      -- it stands for the type that its number names in the scope
      pub defined_stands : (n : ℕ) → IsEntry b.types t n d → (id : DefinitionId) → id.0 ≡ length b.definitions
          → (now : Moment) → PointStands t ms a f now
          → Both (Stands ms (tables_of c)) (Some id) (value_at t now.scope kind.Type_ n)
      unfolding value_at
      defined_stands n entry id key now at =
          let mid = takes_converted.stands now at in
          let x = entry_here b.graph b.types now.scope mid.here t n d entry in
          let typed = type_kept ms (tables_of b) (tables_of c) defined.keeps d x.0 x.2 in
          subst (Both (Stands ms (tables_of c)) (Some id)) (ap (option_map type_value) (sym x.1))
          (both (definition_added ms (tables_of c) b.definitions (definition.Type_ d) id (type_value x.0)
          (ap (λ (y : State). y.definitions) is) key (stands_type typed)))

  -- a number that isn't held names nothing
  pub none_stands_there : (n : ℕ) (st : State) (s : Scope) → is_held t n ≡ false
      → Both (Stands ms (tables_of st)) None (value_at t s kind.Type_ n)
  unfolding value_at type_tree
  none_stands_there n st s none =
      subst (Both (Stands ms (tables_of st)) None)
      (ap (option_map type_value) (sym (no_tree_past s.known s.component_instance t n (by (slice_get t.types n) none))))
      neither
    where
      by : (o : Option DeclType) → is_some o ≡ false → o ≡ None
      by None h = refl
      by (Some e) h = absurd (true≢false h)

  -- one that is held is there
  pub held_there : (n : ℕ) → is_held t n ≡ true → slice_get t.types n ≡ None → ⊥
  held_there n held none = true≢false (sym held ∙ ap is_some none)

  -- in a state that is equal
  pub takes_same : (n : ℕ) (a : State) (f : Frame) (b c : State) (g : Frame) → c ≡ b → TakesTypes t ms n a f b g
      → TakesTypes t ms n a f c g
  takes_same n a f b c g same h = subst (λ x. TakesTypes t ms n a f x g) (sym same) h
