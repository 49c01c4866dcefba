-- A builder that has the type of an entry has the type that the conversion makes for it.
use Rattle.std.proofs.Common.{◌≡◌, ℕ, List, Option, Some, ap, subst, sym, ◌∙◌}
use Rattle.std.specs.Prelude.{slice_get}
use Rattle.std.specs.List.{AllZip}
use Rattle.std.proofs.lemmas.Option.{same_Some}
use Rattle.pc_types.specs.declared.parsed.CoreEntity.{CoreEntity}
use Rattle.pc_types.specs.declared.parsed.CoreFuncSig.{CoreFuncSig}
use Rattle.pc_types.specs.declared.parsed.TypeTable.{TypeTable}
use Rattle.pc_types.specs.declared.parsed.ValType.{ValType}
use Rattle.pc_types.specs.declared.types.InterfaceType.{InterfaceType}
use Rattle.pc_types.specs.declared.types.TypeDef.{TypeDef}
use Rattle.pc_types_lists.specs.Types.{Types, Grows, HasNumber, IsBuilder}
use Rattle.pc_types_lists.proofs.Growth.{grows_trans}
use Rattle.pc_numbers.specs.declared.runtime.RuntimeComponentInstanceIndex.{RuntimeComponentInstanceIndex}
use Rattle.pc_types_convert.specs.Entries.{ListIs, OptionIs, TupleIs, RecordIs, VariantIs, ResultIs, ModuleIs, ImportIs}
use Rattle.pc_types_convert.specs.Entries.{ExportIs, StreamIs, FutureIs}
use Rattle.pc_types_convert.specs.Parts.{ValIs, MaybeIs, FieldIs, CaseIs}
use Rattle.pc_types_convert.proofs.PartLemmas.{both_grow, cases_grow, exports_grow, fields_grow, imports_grow, maybe_grows, vals_grow}
use Rattle.pc_types_convert.proofs.PartLemmas.{val_grows}
use Rattle.pc_types_convert.proofs.OneNumber.{one_val, one_vals, one_fields, one_cases, one_maybe, one_imports, one_exports}

module _ (first second b : Types) (to : Grows first second) (rest : Grows second b) (is : IsBuilder b)
    (done : List (Option TypeDef)) where
  -- the whole growth
  whole : Grows first b
  whole = grows_trans first second b to rest

  -- a list
  pub list_there : (v : ValType) (w : InterfaceType) → ValIs first done v w → ((d : TypeDef) × ListIs b done v d)
      → HasNumber b.lists (record { element = w })
  list_there v w part q =
      let same = one_val b is.distinct done v q.1.1.element w q.1.4
      (val_grows first b whole done v w part) in
      (q.1.0.0, q.1.3 ∙ ap (λ x. Some (record { element = x })) same)

  -- an option
  pub option_there : (v : ValType) (w : InterfaceType) → ValIs first done v w → ((d : TypeDef) × OptionIs b done v d)
      → HasNumber b.options (record { ty = w })
  option_there v w part q =
      let same = one_val b is.distinct done v q.1.1.ty w q.1.4 (val_grows first b whole done v w part) in
      (q.1.0.0, q.1.3 ∙ ap (λ x. Some (record { ty = x })) same)

  -- a tuple
  pub tuple_there : (vs : List ValType) (ws : List InterfaceType) → AllZip (ValIs first done) vs ws
      → ((d : TypeDef) × TupleIs b done vs d) → HasNumber b.tuples (record { types = ws })
  tuple_there vs ws parts q =
      let same = one_vals b is.distinct done vs q.1.1.types ws q.1.4
      (vals_grow first b whole done vs ws parts) in
      (q.1.0.0, q.1.3 ∙ ap (λ x. Some (record { types = x })) same)

  -- a record
  pub record_there : (fs : List (List ℕ × ValType)) (gs : List (List ℕ × InterfaceType))
      → AllZip (FieldIs first done) fs gs → ((d : TypeDef) × RecordIs b done fs d)
      → HasNumber b.records (record { fields = gs })
  record_there fs gs parts q =
      let same = one_fields b is.distinct done fs q.1.1.fields gs q.1.4
      (fields_grow first b whole done fs gs parts) in
      (q.1.0.0, q.1.3 ∙ ap (λ x. Some (record { fields = x })) same)

  -- a variant
  pub variant_there : (cs : List (List ℕ × Option ValType)) (gs : List (List ℕ × Option InterfaceType))
      → AllZip (CaseIs first done) cs gs → ((d : TypeDef) × VariantIs b done cs d)
      → HasNumber b.variants (record { cases = gs })
  variant_there cs gs parts q =
      let same = one_cases b is.distinct done cs q.1.1.cases gs q.1.4
      (cases_grow first b whole done cs gs parts) in
      (q.1.0.0, q.1.3 ∙ ap (λ x. Some (record { cases = x })) same)

  -- a result, whose second part was converted in the second step
  pub result_there : (ok err : Option ValType) (v w : Option InterfaceType) → MaybeIs first done ok v
      → MaybeIs second done err w → ((d : TypeDef) × ResultIs b done ok err d)
      → HasNumber b.results (record { ok = v; err = w })
  result_there ok err v w before after q =
      let both = both_grow first second b to rest done ok err v w before after in
      let same_ok = one_maybe b is.distinct done ok q.1.1.ok v q.1.4 both.0 in
      let same_err = one_maybe b is.distinct done err q.1.1.err w q.1.5 both.1 in
      (q.1.0.0, q.1.3 ∙ (λ i. Some (record { ok = same_ok i; err = same_err i })))

  -- a stream of the current component instance
  pub stream_there : (v : Option ValType) (w : Option InterfaceType) (c : RuntimeComponentInstanceIndex)
      → c ≡ first.resources.current → MaybeIs first done v w → ((d : TypeDef) × StreamIs b done v d)
      → HasNumber b.stream_tables (record { payload = w; instance = c })
  stream_there v w c here part q =
      let same = one_maybe b is.distinct done v q.1.1.payload w q.1.5 (maybe_grows first b whole done v w part) in
      let at = q.1.4 ∙ ap (λ r. r.current) whole.resources ∙ sym here in
      (q.1.0.0, q.1.3 ∙ (λ i. Some (record { payload = same i; instance = at i })))

  -- a future of the current component instance
  pub future_there : (v : Option ValType) (w : Option InterfaceType) (c : RuntimeComponentInstanceIndex)
      → c ≡ first.resources.current → MaybeIs first done v w → ((d : TypeDef) × FutureIs b done v d)
      → HasNumber b.future_tables (record { payload = w; instance = c })
  future_there v w c here part q =
      let same = one_maybe b is.distinct done v q.1.1.payload w q.1.5 (maybe_grows first b whole done v w part) in
      let at = q.1.4 ∙ ap (λ r. r.current) whole.resources ∙ sym here in
      (q.1.0.0, q.1.3 ∙ (λ i. Some (record { payload = same i; instance = at i })))

-- a module, whose exports were converted in the second step
pub module_there : (first second b : Types) → Grows first second → Grows second b → IsBuilder b → (t : TypeTable)
    (imports is : List (List ℕ × List ℕ × CoreEntity)) (exports es : List (List ℕ × CoreEntity))
    → AllZip (ImportIs first t) imports is → AllZip (ExportIs second t) exports es
    → ((d : TypeDef) × ModuleIs b t imports exports d) → HasNumber b.modules (record { imports = is; exports = es })
module_there first second b to rest built t imports is exports es ins outs q =
    let same_ins = one_imports b built.distinct t imports q.1.1.imports is q.1.4
    (imports_grow first b (grows_trans first second b to rest) t imports is ins) in
    let same_outs = one_exports b built.distinct t exports q.1.1.exports es q.1.5
    (exports_grow second b rest t exports es outs) in
    (q.1.0.0, q.1.3 ∙ (λ i. Some (record { imports = same_ins i; exports = same_outs i })))

-- the number of a copy of a table's signature is the signature's
pub signature_is : (b : Types) (t : TypeTable) (n : ℕ) (s r : CoreFuncSig) → slice_get t.core_funcs n ≡ Some s → r ≡ s
    → (i : ℕ) → slice_get b.signatures i ≡ Some r
    → (q : CoreFuncSig) × (slice_get t.core_funcs n ≡ Some q) × (slice_get b.signatures i ≡ Some q)
signature_is b t n s r at same i held = (r, at ∙ ap Some (sym same), held)

-- a builder that has the signature has the copy
pub signature_there : (b : Types) (t : TypeTable) (n : ℕ) (s r : CoreFuncSig) → slice_get t.core_funcs n ≡ Some s
    → r ≡ s
    → ((q : CoreFuncSig) × (slice_get t.core_funcs n ≡ Some q) × HasNumber b.signatures q) → HasNumber b.signatures r
signature_there b t n s r at same q =
    subst (HasNumber b.signatures) (same_Some q.0 r (sym q.1 ∙ at ∙ ap Some (sym same))) q.2
