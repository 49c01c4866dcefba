-- What the conversion of each kind of entry adds.
use Rattle.std.proofs.Common.{◌≡◌, ◌&&◌, ◌⊎◌, ℕ, Bool, true, false, List}
use Rattle.std.proofs.Common.{Option, None, Some, refl, sym, ap, ◌∙◌, inl, inr, subst}
use Rattle.std.specs.Prelude.{map, slice_get}
use Rattle.std.specs.List.{AllZip, list_all}
use Rattle.std.proofs.lemmas.List.Elements.{Contains-append_left, Contains-append_right}
use Rattle.pc_numbers.specs.declared.runtime.ResourceIndex.{ResourceIndex}
use Rattle.pc_numbers.specs.declared.runtime.RuntimeComponentInstanceIndex.{RuntimeComponentInstanceIndex}
use Rattle.pc_types.specs.declared.parsed.CoreEntity.{CoreEntity}
use Rattle.pc_types.specs.declared.parsed.DeclType.{DeclType}
use Rattle.pc_types.specs.declared.parsed.DeclType.TheVariants as entry
use Rattle.pc_types.specs.declared.parsed.Entity.{Entity}
use Rattle.pc_types.specs.declared.parsed.TypeTable.{TypeTable}
use Rattle.pc_types.specs.declared.parsed.ValType.{ValType}
use Rattle.pc_types.specs.declared.type_index.TypeFuncIndex.{TypeFuncIndex}
use Rattle.pc_types.specs.declared.types.InterfaceType.{InterfaceType}
use Rattle.pc_types.specs.declared.types.TypeDef.{TypeDef}
use Rattle.pc_types.specs.declared.types.TypeDef.TheVariants as def
use Rattle.pc_types.specs.declared.types.TypeFunc.{TypeFunc}
use Rattle.pc_types.specs.declared.types.TypeKind.{TypeKind}
use Rattle.pc_types.specs.declared.types.TypeResourceTable.{TypeResourceTable}
use Rattle.pc_types.specs.declared.types.TypeResourceTable.TheVariants as handles
use Rattle.pc_types_lists.specs.Known.{resource_of}
use Rattle.pc_types_lists.specs.Types.{Types, Grows, Resources}
use Rattle.pc_types_lists.specs.Added.{AddsOnly}
use Rattle.pc_types_lists.specs.Interned.{IsPut}
use Rattle.pc_types_lists.proofs.Growth.{grows_same, grows_trans}
use Rattle.pc_types_lists.proofs.AddedLemmas.{only_both, only_components, only_enums, only_flags, only_funcs}
use Rattle.pc_types_lists.proofs.AddedLemmas.{only_future_tables, only_instances, only_lists, only_modules, only_more}
use Rattle.pc_types_lists.proofs.AddedLemmas.{only_none, only_options, only_records, only_resource_tables, only_results}
use Rattle.pc_types_lists.proofs.AddedLemmas.{only_stream_tables, only_tuples, only_variants}
use Rattle.pc_types_convert.specs.Parts.{CaseIs, ExternIs, FieldIs, MaybeIs, ValIs}
use Rattle.pc_types_convert.specs.Entries.{EntryIs}
use Rattle.pc_types_convert.specs.Entries.{ComponentIs, EnumIs, ExportIs, FlagsAre}
use Rattle.pc_types_convert.specs.Entries.{FuncIs, FutureIs, ImportIs, InstanceIs}
use Rattle.pc_types_convert.specs.Entries.{ListIs, ModuleIs, OptionIs, ParamsAre}
use Rattle.pc_types_convert.specs.Entries.{RecordIs, ResourceIs, ResultIs, ResultsAre}
use Rattle.pc_types_convert.specs.Entries.{ReturnsAre, StreamIs, TupleIs, VariantIs, handles_from, handles_of}
use Rattle.pc_types_convert.specs.Adds.{AddsEntry, IsSignatureOf, IsTupleOf, no_context_in}
use Rattle.pc_types_convert.specs.Adds.{AddsContexts, AddsFunc, AddsModule}
use Rattle.pc_types_convert.specs.Adds.{AddsSignatures, AddsTuple, AddsType, IsOneOf}
use Rattle.pc_types_convert.specs.Adds.{core_entities, no_context_in_case, no_context_in_field, no_context_in_maybe}
use Rattle.pc_types_convert.specs.Adds.{no_context_in_val, one_tuple, one_type}
use Rattle.pc_types_convert.proofs.AddsLemmas.{contexts_only, contexts_same}
use Rattle.pc_types_convert.proofs.AddsLemmas.{contexts_pair, one_more, signatures_both, signatures_only}
use Rattle.pc_types_convert.proofs.AddsLemmas.{tuple_after, type_after}
use Rattle.pc_types_convert.proofs.FuncLemmas.{params_grow, results_grow}
use Rattle.pc_types_convert.proofs.PartLemmas.{both_grow, cases_grow, exports_grow}
use Rattle.pc_types_convert.proofs.PartLemmas.{fields_grow, imports_grow, maybe_grows}
use Rattle.pc_types_convert.proofs.PartLemmas.{params_are_grow, returns_grow, val_grows, vals_grow}

-- the handles of a resource that is known
pub handles_some : (k : Resources) (n : ℕ) (r : ResourceIndex) (i : RuntimeComponentInstanceIndex)
    → resource_of k.known n ≡ Some r → i ≡ k.current → handles.Concrete r i ≡ handles_of k n
handles_some k n r i found here = ap (handles.Concrete r) here ∙ sym (ap (handles_from k n) found)

-- and of one that isn't
pub handles_none : (k : Resources) (n : ℕ) → resource_of k.known n ≡ None → handles.Abstract n ≡ handles_of k n
handles_none k n none = sym (ap (handles_from k n) none)

module _ (a b c : Types) (g : Grows b c) (done : List (Option TypeDef)) where
  -- an entry that is a record
  pub record_added : (fs : List (List ℕ × ValType)) (gs : List (List ℕ × InterfaceType)) → AllZip (FieldIs b done) fs gs
      → AddsContexts (list_all no_context_in_field fs) a b → c ≡ record b { records = c.records }
      → IsPut b.records c.records (record { fields = gs })
      → AddsType (list_all no_context_in_field fs ≡ false) (RecordIs c done fs) a c
  record_added fs gs parts contexts rest put =
      type_after (list_all no_context_in_field fs) (RecordIs c done fs) a b c contexts g
      (only_records _ b c (record { fields = gs }) rest put
      (λ i at. one_type _ refl (_, _, refl, at, fields_grow b c g done fs gs parts)))

  -- an entry that is a variant
  pub variant_added : (cs : List (List ℕ × Option ValType)) (ds : List (List ℕ × Option InterfaceType))
      → AllZip (CaseIs b done) cs ds
      → AddsContexts (list_all no_context_in_case cs) a b → c ≡ record b { variants = c.variants }
      → IsPut b.variants c.variants (record { cases = ds })
      → AddsType (list_all no_context_in_case cs ≡ false) (VariantIs c done cs) a c
  variant_added cs ds parts contexts rest put =
      type_after (list_all no_context_in_case cs) (VariantIs c done cs) a b c contexts g
      (only_variants _ b c (record { cases = ds }) rest put
      (λ i at. one_type _ refl (_, _, refl, at, cases_grow b c g done cs ds parts)))

  -- an entry that is a list
  pub list_added : (v : ValType) (w : InterfaceType) → ValIs b done v w
      → AddsContexts (no_context_in_val v) a b → c ≡ record b { lists = c.lists }
      → IsPut b.lists c.lists (record { element = w }) → AddsType (no_context_in_val v ≡ false) (ListIs c done v) a c
  list_added v w parts contexts rest put =
      type_after (no_context_in_val v) (ListIs c done v) a b c contexts g
      (only_lists _ b c (record { element = w }) rest put
      (λ i at. one_type _ refl (_, _, refl, at, val_grows b c g done v w parts)))

  -- an entry that is a tuple
  pub tuple_added : (vs : List ValType) (ws : List InterfaceType) → AllZip (ValIs b done) vs ws
      → AddsContexts (list_all no_context_in_val vs) a b → c ≡ record b { tuples = c.tuples }
      → IsPut b.tuples c.tuples (record { types = ws })
      → AddsType (list_all no_context_in_val vs ≡ false) (TupleIs c done vs) a c
  tuple_added vs ws parts contexts rest put =
      type_after (list_all no_context_in_val vs) (TupleIs c done vs) a b c contexts g
      (only_tuples _ b c (record { types = ws }) rest put
      (λ i at. one_type _ refl (_, _, refl, at, vals_grow b c g done vs ws parts)))

  -- an entry that is a option
  pub option_added : (v : ValType) (w : InterfaceType) → ValIs b done v w
      → AddsContexts (no_context_in_val v) a b → c ≡ record b { options = c.options }
      → IsPut b.options c.options (record { ty = w }) → AddsType (no_context_in_val v ≡ false) (OptionIs c done v) a c
  option_added v w parts contexts rest put =
      type_after (no_context_in_val v) (OptionIs c done v) a b c contexts g
      (only_options _ b c (record { ty = w }) rest put
      (λ i at. one_type _ refl (_, _, refl, at, val_grows b c g done v w parts)))

  -- an entry that is a stream
  pub stream_added : (v : Option ValType) (w : Option InterfaceType) (instance : RuntimeComponentInstanceIndex)
      → instance ≡ b.resources.current → MaybeIs b done v w
      → AddsContexts (no_context_in_maybe v) a b → c ≡ record b { stream_tables = c.stream_tables }
      → IsPut b.stream_tables c.stream_tables (record { payload = w; instance = instance })
      → AddsType (no_context_in_maybe v ≡ false) (StreamIs c done v) a c
  stream_added v w instance here parts contexts rest put =
      type_after (no_context_in_maybe v) (StreamIs c done v) a b c contexts g
      (only_stream_tables _ b c (record { payload = w; instance = instance }) rest put
      (λ i at.
      one_type _ refl
      (_, _, refl, at, here ∙ ap (λ (x : Types). x.resources.current) (sym rest), maybe_grows b c g done v w parts)))

  -- an entry that is a future
  pub future_added : (v : Option ValType) (w : Option InterfaceType) (instance : RuntimeComponentInstanceIndex)
      → instance ≡ b.resources.current → MaybeIs b done v w
      → AddsContexts (no_context_in_maybe v) a b → c ≡ record b { future_tables = c.future_tables }
      → IsPut b.future_tables c.future_tables (record { payload = w; instance = instance })
      → AddsType (no_context_in_maybe v ≡ false) (FutureIs c done v) a c
  future_added v w instance here parts contexts rest put =
      type_after (no_context_in_maybe v) (FutureIs c done v) a b c contexts g
      (only_future_tables _ b c (record { payload = w; instance = instance }) rest put
      (λ i at.
      one_type _ refl
      (_, _, refl, at, here ∙ ap (λ (x : Types). x.resources.current) (sym rest), maybe_grows b c g done v w parts)))

  -- an entry that is a result, whose second part was converted after the first
  pub result_added : (first : Types) → Grows first b → (ok err : Option ValType) (w x : Option InterfaceType)
      → MaybeIs first done ok w → MaybeIs b done err x
      → AddsContexts (no_context_in_maybe ok) a first → AddsContexts (no_context_in_maybe err) first b
      → c ≡ record b { results = c.results } → IsPut b.results c.results (record { ok = w; err = x })
      → AddsType ((no_context_in_maybe ok && no_context_in_maybe err) ≡ false) (ResultIs c done ok err) a c
  result_added first to ok err w x was here before contexts rest put =
      let both = both_grow first b c to g done ok err w x was here in
      type_after (no_context_in_maybe ok && no_context_in_maybe err) (ResultIs c done ok err) a b c
      (contexts_pair (no_context_in_maybe ok) (no_context_in_maybe err) a first b before contexts) g
      (only_results _ b c (record { ok = w; err = x }) rest put
      (λ i at. one_type _ refl (_, _, refl, at, both.0, both.1)))

  -- the tuple of parameters
  pub params_added : (ps : List (List ℕ × ValType)) (ws : List InterfaceType)
      → AllZip (λ (p : List ℕ × ValType) (w : InterfaceType). ValIs b done p.1 w) ps ws
      → AddsContexts (list_all no_context_in_field ps) a b → c ≡ record b { tuples = c.tuples }
      → IsPut b.tuples c.tuples (record { types = ws })
      → AddsTuple (list_all no_context_in_field ps ≡ false) (λ i. ParamsAre c done ps (record { 0 = i })) a c
  params_added ps ws parts contexts rest put =
      tuple_after (list_all no_context_in_field ps) (λ i. ParamsAre c done ps (record { 0 = i })) a b c contexts g
      (only_tuples _ b c (record { types = ws }) rest put
      (λ i at. one_tuple refl (_, at, params_are_grow b c g done ps ws parts)))

  -- the tuple of what is returned
  pub returns_added : (v : Option ValType) (ws : List InterfaceType) → ReturnsAre b done v ws
      → AddsContexts (no_context_in_maybe v) a b → c ≡ record b { tuples = c.tuples }
      → IsPut b.tuples c.tuples (record { types = ws })
      → AddsTuple (no_context_in_maybe v ≡ false) (λ i. ResultsAre c done v (record { 0 = i })) a c
  returns_added v ws parts contexts rest put =
      tuple_after (no_context_in_maybe v) (λ i. ResultsAre c done v (record { 0 = i })) a b c contexts g
      (only_tuples _ b c (record { types = ws }) rest put
      (λ i at. one_tuple refl (_, at, returns_grow b c g done v ws parts)))

module _ (b c : Types) where
  -- an entry that is flags
  pub flags_added : (names : List (List ℕ)) → c ≡ record b { flags = c.flags }
      → IsPut b.flags c.flags (record { names = names }) → AddsType ⊥ (FlagsAre c names) b c
  flags_added names rest put = record {
    only = only_flags _ b c (record { names = names }) rest put (λ i at. one_type _ refl (_, refl, at));
  }

  -- an entry that is an enum
  pub enum_added : (names : List (List ℕ)) → c ≡ record b { enums = c.enums }
      → IsPut b.enums c.enums (record { names = names }) → AddsType ⊥ (EnumIs c names) b c
  enum_added names rest put = record {
    only = only_enums _ b c (record { names = names }) rest put (λ i at. one_type _ refl (_, refl, at));
  }

  -- an entry that is an instance
  pub instance_added : (done : List (Option TypeDef)) (es : List (List ℕ × Entity)) (fs : List (List ℕ × TypeDef))
      → AllZip (ExternIs done) es fs → c ≡ record b { instances = c.instances }
      → IsPut b.instances c.instances (record { exports = fs }) → AddsType ⊥ (InstanceIs c done es) b c
  instance_added done es fs are rest put = record {
    only = only_instances _ b c (record { exports = fs }) rest put (λ i at. one_type _ refl (_, _, refl, at, are));
  }

  -- an entry that is a component
  pub component_added : (done : List (Option TypeDef)) (is es : List (List ℕ × Entity))
      (js fs : List (List ℕ × TypeDef)) → AllZip (ExternIs done) is js → AllZip (ExternIs done) es fs
      → c ≡ record b { components = c.components }
      → IsPut b.components c.components (record { imports = js; exports = fs })
      → AddsType ⊥ (ComponentIs c done is es) b c
  component_added done is es js fs imports exports rest put = record {
    only = only_components _ b c (record { imports = js; exports = fs }) rest put (λ i at. one_type _ refl (
      _,
      _,
      refl,
      at,
      imports,
      exports,
    ));
  }

  -- the same with a copy of the names
  pub flags_copied : (names copy : List (List ℕ)) → copy ≡ names → c ≡ record b { flags = c.flags }
      → IsPut b.flags c.flags (record { names = copy }) → AddsType ⊥ (FlagsAre c names) b c
  flags_copied names copy same rest put =
      flags_added names rest (subst (λ ns. IsPut b.flags c.flags (record { names = ns })) same put)

  -- the same with a copy of the names
  pub enum_copied : (names copy : List (List ℕ)) → copy ≡ names → c ≡ record b { enums = c.enums }
      → IsPut b.enums c.enums (record { names = copy }) → AddsType ⊥ (EnumIs c names) b c
  enum_copied names copy same rest put =
      enum_added names rest (subst (λ ns. IsPut b.enums c.enums (record { names = ns })) same put)

  -- an entry that is a resource
  pub resource_added : (n : ℕ) → c ≡ record b { resource_tables = c.resource_tables }
      → IsPut b.resource_tables c.resource_tables (handles_of b.resources n) → AddsType ⊥ (ResourceIs c n) b c
  resource_added n rest put = record {
    only = only_resource_tables _ b c (handles_of b.resources n) rest put
        (λ i at.
        one_type _ refl
        (_, refl, at ∙ ap (λ (x : Types). Some (handles_of x.resources n)) (sym rest)));
  }

  -- the same with handles that were read
  pub resource_copied : (n : ℕ) (value : TypeResourceTable) → value ≡ handles_of b.resources n
      → c ≡ record b { resource_tables = c.resource_tables }
      → IsPut b.resource_tables c.resource_tables value → AddsType ⊥ (ResourceIs c n) b c
  resource_copied n value same rest put =
      resource_added n rest (subst (λ h. IsPut b.resource_tables c.resource_tables h) same put)

  -- nothing was added
  pub type_none : (P : TypeDef → Type 0) → c ≡ b → AddsType ⊥ P b c
  type_none P same = record { only = only_none _ b c same }

-- a module type, whose imports were converted before its exports
module _ (t : TypeTable) (is : List (List ℕ × List ℕ × CoreEntity)) (es : List (List ℕ × CoreEntity)) where
  -- the signatures of the imports alone
  pub module_imports_added : (a b : Types)
      → AddsSignatures t (map (λ (i : List ℕ × List ℕ × CoreEntity). i.2) is) a b → AddsModule t is es a b
  module_imports_added a b adds = record {
    only = signatures_only t (map (λ (i : List ℕ × List ℕ × CoreEntity). i.2) is) a b adds ⊥ (ModuleIs b t is es)
        (λ i. ⊥) _
        (λ i x. (x.0, x.1, (x.2.0, Contains-append_left _ _ _ x.2.1, x.2.2)));
  }

  module _ (a b c : Types) (g : Grows b c)
      (imports : AddsSignatures t (map (λ (i : List ℕ × List ℕ × CoreEntity). i.2) is) a b)
      (exports : AddsSignatures t (map (λ (e : List ℕ × CoreEntity). e.1) es) b c) where
    -- the signatures of both
    module_signatures : AddsSignatures t (core_entities is es) a c
    module_signatures =
        signatures_both t (map (λ (i : List ℕ × List ℕ × CoreEntity). i.2) is)
        (map (λ (e : List ℕ × CoreEntity). e.1) es) (core_entities is es) (λ e h. Contains-append_left _ _ e h)
        (λ e h. Contains-append_right _ _ e h) a b c g imports exports

    -- no type was added yet
    pub module_exports_added : AddsModule t is es a c
    module_exports_added = record {
      only = signatures_only t (core_entities is es) a c module_signatures ⊥ (ModuleIs c t is es) (λ i. ⊥) _ (λ i x. x);
    }

    -- the type after them
    pub module_added : (d : Types) → Grows c d → (js : List (List ℕ × List ℕ × CoreEntity))
        (fs : List (List ℕ × CoreEntity)) → AllZip (ImportIs b t) is js → AllZip (ExportIs c t) es fs
        → d ≡ record c { modules = d.modules } → IsPut c.modules d.modules (record { imports = js; exports = fs })
        → AddsModule t is es a d
    module_added d h js fs imports_are exports_are rest put = record {
      only =
          let early = module_exports_added in
          only_both _ a c d
          (only_more _ _
          (one_more c d h ⊥ ⊥ (ModuleIs c t is es) (ModuleIs d t is es) (λ i. ⊥) (λ i. ⊥) _ _ (λ x. x)
          (λ x m. (
            m.0,
            m.1,
            m.2,
            h.modules m.0.0 m.1 m.3,
            imports_grow c d h t is m.1.imports m.4,
            exports_grow c d h t es m.1.exports m.5,
          ))
          (λ i x. x) (λ i x. (x.0, h.signatures i x.0 x.1, x.2)))
          a c early.only)
          (only_modules _ c d (record { imports = js; exports = fs }) rest put
          (λ i at.
          one_type _ refl (
            _,
            _,
            refl,
            at,
            imports_grow b d (grows_trans b c d g h) t is js imports_are,
            exports_grow c d h t es fs exports_are,
          )));
    }

-- a conjunction fails where its first part does
and_first : (f g : Bool) → f ≡ false → (f && g) ≡ false
and_first f g h = ap (λ x. x && g) h

-- or where its second part does
and_second : (f g : Bool) → g ≡ false → (f && g) ≡ false
and_second true g h = h
and_second false g h = refl

-- a function type, whose tuples were put in two steps
module _ (done : List (Option TypeDef)) (ps : List (List ℕ × ValType)) (returns : Option ValType) (is_async : Bool)
  where
    -- whether a function names error contexts
    abbrev Asked : Type 0
    Asked = (list_all no_context_in_field ps && no_context_in_maybe returns) ≡ false

    -- what a function is in a builder
    abbrev IsFuncIn : Types → TypeDef → Type 0
    IsFuncIn x d = (i : TypeFuncIndex) × (d ≡ def.ComponentFunc i) × FuncIs x done ps returns is_async i

    -- what its tuples are
    abbrev IsTupleIn : Types → ℕ → Type 0
    IsTupleIn x i = ParamsAre x done ps (record { 0 = i }) ⊎ ResultsAre x done returns (record { 0 = i })

    -- what is added of it
    abbrev IsPartIn : Types → TypeKind → ℕ → Type 0
    IsPartIn x = IsOneOf x Asked (IsFuncIn x) (IsTupleIn x) (λ i. ⊥)

    -- nothing was added
    pub func_none : (a b : Types) → b ≡ a → AddsFunc done ps returns is_async a b
    func_none a b same = record { only = only_none (IsPartIn b) a b same }

    -- the tuple of the parameters, in a builder that grew
    params_only : (a b x : Types) → Grows b x
        → AddsTuple (list_all no_context_in_field ps ≡ false) (λ i. ParamsAre b done ps (record { 0 = i })) a b
        → AddsOnly (IsPartIn x) a b
    params_only a b x g adds =
        only_more (IsOneOf b (list_all no_context_in_field ps ≡ false) (λ d. ⊥)
        (λ i. ParamsAre b done ps (record { 0 = i })) (λ i. ⊥)) (IsPartIn x)
        (one_more b x g (list_all no_context_in_field ps ≡ false) Asked (λ d. ⊥) (IsFuncIn x)
        (λ i. ParamsAre b done ps (record { 0 = i })) (IsTupleIn x) (λ i. ⊥) (λ i. ⊥)
        (and_first (list_all no_context_in_field ps) (no_context_in_maybe returns)) (λ d h. absurd h)
        (λ i h. inl (params_grow b x g done ps (record { 0 = i }) h)) (λ i h. h))
        a b adds.only

    -- that of what is returned
    returns_only : (b c x : Types) → Grows c x
        → AddsTuple (no_context_in_maybe returns ≡ false) (λ i. ResultsAre c done returns (record { 0 = i })) b c
        → AddsOnly (IsPartIn x) b c
    returns_only b c x g adds =
        only_more (IsOneOf c (no_context_in_maybe returns ≡ false) (λ d. ⊥)
        (λ i. ResultsAre c done returns (record { 0 = i })) (λ i. ⊥)) (IsPartIn x)
        (one_more c x g (no_context_in_maybe returns ≡ false) Asked (λ d. ⊥) (IsFuncIn x)
        (λ i. ResultsAre c done returns (record { 0 = i })) (IsTupleIn x) (λ i. ⊥) (λ i. ⊥)
        (and_second (list_all no_context_in_field ps) (no_context_in_maybe returns)) (λ d h. absurd h)
        (λ i h. inr (results_grow c x g done returns (record { 0 = i }) h)) (λ i h. h))
        b c adds.only

    module _ (a b : Types)
        (params : AddsTuple (list_all no_context_in_field ps ≡ false) (λ i. ParamsAre b done ps (record { 0 = i })) a b)
      where
        -- the tuple of the parameters alone
        pub func_params_added : AddsFunc done ps returns is_async a b
        func_params_added = record { only = params_only a b b (grows_same b) params }

        module _ (c : Types) (g : Grows b c)
            (results : AddsTuple (no_context_in_maybe returns ≡ false)
            (λ i. ResultsAre c done returns (record { 0 = i })) b c) where
          -- both tuples
          pub func_tuples_added : AddsFunc done ps returns is_async a c
          func_tuples_added = record {
            only = only_both (IsPartIn c) a b c (params_only a b c g params) (returns_only b c c (grows_same c)
                results);
          }

          -- both tuples and the type
          pub func_added : (d : Types) → Grows c d → (value : TypeFunc)
              → ((i : TypeFuncIndex) → slice_get d.funcs i.0 ≡ Some value → FuncIs d done ps returns is_async i)
              → d ≡ record c { funcs = d.funcs } → IsPut c.funcs d.funcs value → AddsFunc done ps returns is_async a d
          func_added d h value made rest put = record {
            only = only_both (IsPartIn d) a c d
                (only_both (IsPartIn d) a b c (params_only a b d (grows_trans b c d g h) params)
                (returns_only b c d h results))
                (only_funcs (IsPartIn d) c d value rest put
                (λ i at. one_type _ refl (record { 0 = i }, refl, made (record { 0 = i }) at)));
          }

-- what an entry adds, by its kind
module _ (done : List (Option TypeDef)) (t : TypeTable) (n : ℕ) (a b : Types) where
  -- an entry whose conversion adds error contexts alone
  pub contexts_entry : (e : DeclType) → AddsContexts (no_context_in e) a b → AddsEntry done t n e a b
  contexts_entry e adds = record {
    only = contexts_only (no_context_in e) a b adds (EntryIs b done t n e) (IsTupleOf b done e) (IsSignatureOf b t e);
  }

  -- one whose conversion adds a type
  pub type_entry : (e : DeclType) (asked : Type 0) (P : TypeDef → Type 0) → (asked → no_context_in e ≡ false)
      → ((d : TypeDef) → P d → EntryIs b done t n e d) → AddsType asked P a b → AddsEntry done t n e a b
  type_entry e asked P asks is adds = record {
    only = only_more _ _
        (one_more b b (grows_same b) asked (no_context_in e ≡ false) P (EntryIs b done t n e) (λ i. ⊥)
        (IsTupleOf b done e) (λ i. ⊥) (IsSignatureOf b t e) asks is (λ i h. absurd h) (λ i h. absurd h))
        a b adds.only;
  }

  -- one that is a function type
  pub func_entry_adds : (ps : List (List ℕ × ValType)) (returns : Option ValType) (is_async : Bool)
      → AddsFunc done ps returns is_async a b → AddsEntry done t n (entry.Func ps returns is_async) a b
  func_entry_adds ps returns is_async adds = record {
    only = only_more _ _
        (one_more b b (grows_same b) (Asked done ps returns is_async) (Asked done ps returns is_async)
        (IsFuncIn done ps returns is_async b) (IsFuncIn done ps returns is_async b)
        (IsTupleIn done ps returns is_async b) (IsTupleIn done ps returns is_async b) (λ i. ⊥) (λ i. ⊥)
        (λ h. h) (λ d h. h) (λ i h. h) (λ i h. h))
        a b adds.only;
  }

  -- one that is a module type
  pub module_entry_adds : (is : List (List ℕ × List ℕ × CoreEntity)) (es : List (List ℕ × CoreEntity))
      → AddsModule t is es a b → AddsEntry done t n (entry.Module is es) a b
  module_entry_adds is es adds = record {
    only = only_more _ _
        (one_more b b (grows_same b) ⊥ (true ≡ false) (ModuleIs b t is es) (ModuleIs b t is es) (λ i. ⊥) (λ i. ⊥)
        (IsSignatureOf b t (entry.Module is es)) (IsSignatureOf b t (entry.Module is es)) (λ h. absurd h) (λ d h. h)
        (λ i h. h) (λ i h. h))
        a b adds.only;
  }

-- the same of the entry that was read, whose lists were read as slices
module _ (done : List (Option TypeDef)) (t : TypeTable) (n : ℕ) (a b : Types) (e : DeclType) where
  -- one that is a record
  pub record_read : (fs : List (List ℕ × ValType)) (s : List (List ℕ × ValType)) → e ≡ entry.Record fs → s ≡ fs
      → AddsType (list_all no_context_in_field s ≡ false) (RecordIs b done s) a b → AddsEntry done t n e a b
  record_read fs s is same_s adds =
      subst (λ x. AddsEntry done t n x a b) (sym is)
      (type_entry done t n a b (entry.Record fs) _ _ (λ h. h) (λ d h. h)
      (subst (λ x. AddsType (list_all no_context_in_field x ≡ false) (RecordIs b done x) a b) same_s adds))

  -- one that is a variant
  pub variant_read : (fs : List (List ℕ × Option ValType)) (s : List (List ℕ × Option ValType)) → e ≡ entry.Variant fs
      → s ≡ fs → AddsType (list_all no_context_in_case s ≡ false) (VariantIs b done s) a b → AddsEntry done t n e a b
  variant_read fs s is same_s adds =
      subst (λ x. AddsEntry done t n x a b) (sym is)
      (type_entry done t n a b (entry.Variant fs) _ _ (λ h. h) (λ d h. h)
      (subst (λ x. AddsType (list_all no_context_in_case x ≡ false) (VariantIs b done x) a b) same_s adds))

  -- one that is a tuple
  pub tuple_read : (vs : List ValType) (s : List ValType) → e ≡ entry.Tuple vs → s ≡ vs
      → AddsType (list_all no_context_in_val s ≡ false) (TupleIs b done s) a b → AddsEntry done t n e a b
  tuple_read vs s is same_s adds =
      subst (λ x. AddsEntry done t n x a b) (sym is)
      (type_entry done t n a b (entry.Tuple vs) _ _ (λ h. h) (λ d h. h)
      (subst (λ x. AddsType (list_all no_context_in_val x ≡ false) (TupleIs b done x) a b) same_s adds))

  -- one that is a value type
  pub val_read : (v : ValType) → e ≡ entry.Val v
      → AddsContexts (no_context_in_val v) a b → AddsEntry done t n e a b
  val_read v is adds =
      subst (λ x. AddsEntry done t n x a b) (sym is)
      (contexts_entry done t n a b (entry.Val v) adds)

  -- one that is a list
  pub list_read : (v : ValType) → e ≡ entry.List v
      → AddsType (no_context_in_val v ≡ false) (ListIs b done v) a b → AddsEntry done t n e a b
  list_read v is adds =
      subst (λ x. AddsEntry done t n x a b) (sym is)
      (type_entry done t n a b (entry.List v) _ _ (λ h. h) (λ d h. h) adds)

  -- one that is an option
  pub option_read : (v : ValType) → e ≡ entry.Option v
      → AddsType (no_context_in_val v ≡ false) (OptionIs b done v) a b → AddsEntry done t n e a b
  option_read v is adds =
      subst (λ x. AddsEntry done t n x a b) (sym is)
      (type_entry done t n a b (entry.Option v) _ _ (λ h. h) (λ d h. h) adds)

  -- one that is a stream
  pub stream_read : (v : Option ValType) → e ≡ entry.Stream v
      → AddsType (no_context_in_maybe v ≡ false) (StreamIs b done v) a b → AddsEntry done t n e a b
  stream_read v is adds =
      subst (λ x. AddsEntry done t n x a b) (sym is)
      (type_entry done t n a b (entry.Stream v) _ _ (λ h. h) (λ d h. h) adds)

  -- one that is a future
  pub future_read : (v : Option ValType) → e ≡ entry.Future v
      → AddsType (no_context_in_maybe v ≡ false) (FutureIs b done v) a b → AddsEntry done t n e a b
  future_read v is adds =
      subst (λ x. AddsEntry done t n x a b) (sym is)
      (type_entry done t n a b (entry.Future v) _ _ (λ h. h) (λ d h. h) adds)

  -- one that is a result
  pub result_read : (v : Option ValType) (w : Option ValType) → e ≡ entry.Result v w
      → AddsType ((no_context_in_maybe v && no_context_in_maybe w) ≡ false) (ResultIs b done v w) a b
      → AddsEntry done t n e a b
  result_read v w is adds =
      subst (λ x. AddsEntry done t n x a b) (sym is)
      (type_entry done t n a b (entry.Result v w) _ _ (λ h. h) (λ d h. h) adds)

  -- one that is flags
  pub flags_read : (ns : List (List ℕ)) → e ≡ entry.Flags ns
      → AddsType ⊥ (FlagsAre b ns) a b → AddsEntry done t n e a b
  flags_read ns is adds =
      subst (λ x. AddsEntry done t n x a b) (sym is)
      (type_entry done t n a b (entry.Flags ns) _ _ (λ h. absurd h) (λ d h. h) adds)

  -- one that is an enum
  pub enum_read : (ns : List (List ℕ)) → e ≡ entry.Enum ns
      → AddsType ⊥ (EnumIs b ns) a b → AddsEntry done t n e a b
  enum_read ns is adds =
      subst (λ x. AddsEntry done t n x a b) (sym is)
      (type_entry done t n a b (entry.Enum ns) _ _ (λ h. absurd h) (λ d h. h) adds)

  -- one that is a resource
  pub resource_read : e ≡ entry.Resource
      → AddsType ⊥ (ResourceIs b n) a b → AddsEntry done t n e a b
  resource_read is adds =
      subst (λ x. AddsEntry done t n x a b) (sym is)
      (type_entry done t n a b entry.Resource _ _ (λ h. absurd h) (λ d h. h) adds)

  -- one that is an owned handle
  pub own_read : (m : ℕ) → e ≡ entry.Own m
      → b ≡ a → AddsEntry done t n e a b
  own_read m is adds =
      subst (λ x. AddsEntry done t n x a b) (sym is)
      (contexts_entry done t n a b (entry.Own m) (contexts_same true a b adds))

  -- one that is a borrowed handle
  pub borrow_read : (m : ℕ) → e ≡ entry.Borrow m
      → b ≡ a → AddsEntry done t n e a b
  borrow_read m is adds =
      subst (λ x. AddsEntry done t n x a b) (sym is)
      (contexts_entry done t n a b (entry.Borrow m) (contexts_same true a b adds))

  -- one that is an instance type
  pub instance_read : (es : List (List ℕ × Entity)) (s : List (List ℕ × Entity)) → e ≡ entry.Instance es → s ≡ es
      → AddsType ⊥ (InstanceIs b done s) a b → AddsEntry done t n e a b
  instance_read es s is same_s adds =
      subst (λ x. AddsEntry done t n x a b) (sym is)
      (type_entry done t n a b (entry.Instance es) _ _ (λ h. absurd h) (λ d h. h)
      (subst (λ x. AddsType ⊥ (InstanceIs b done x) a b) same_s adds))

  -- one that is a component type
  pub component_read : (ins : List (List ℕ × Entity)) (es : List (List ℕ × Entity)) (r : List (List ℕ × Entity)) (s :
      List (List ℕ × Entity)) → e ≡ entry.Component ins es → r ≡ ins → s ≡ es
      → AddsType ⊥ (ComponentIs b done r s) a b → AddsEntry done t n e a b
  component_read ins es r s is same_r same_s adds =
      subst (λ x. AddsEntry done t n x a b) (sym is)
      (type_entry done t n a b (entry.Component ins es) _ _ (λ h. absurd h) (λ d h. h)
      (subst (λ x. AddsType ⊥ (ComponentIs b done ins x) a b) same_s
      (subst (λ x. AddsType ⊥ (ComponentIs b done x s) a b) same_r adds)))

  -- one that is a module type
  pub module_read : (ins : List (List ℕ × List ℕ × CoreEntity)) (es : List (List ℕ × CoreEntity)) (r : List (List ℕ ×
      List ℕ × CoreEntity)) (s : List (List ℕ × CoreEntity)) → e ≡ entry.Module ins es → r ≡ ins → s ≡ es
      → AddsModule t r s a b → AddsEntry done t n e a b
  module_read ins es r s is same_r same_s adds =
      subst (λ x. AddsEntry done t n x a b) (sym is)
      (module_entry_adds done t n a b ins es
      (subst (λ x. AddsModule t ins x a b) same_s (subst (λ x. AddsModule t x s a b) same_r adds)))

  -- one that is a function type
  pub func_read : (ps : List (List ℕ × ValType)) (r : Option ValType) (is_async : Bool) (s : List (List ℕ × ValType))
      → e ≡ entry.Func ps r is_async → s ≡ ps
      → AddsFunc done s r is_async a b → AddsEntry done t n e a b
  func_read ps r is_async s is same_s adds =
      subst (λ x. AddsEntry done t n x a b) (sym is)
      (func_entry_adds done t n a b ps r is_async (subst (λ x. AddsFunc done x r is_async a b) same_s adds))
