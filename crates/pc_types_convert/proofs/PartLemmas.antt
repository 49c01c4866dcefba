-- The parts of an entry stay what they are as the builder grows.
use Rattle.std.proofs.Common.{◌≡◌, ℕ, ◌<◌, ◌+◌, List, [], ◌∷◌, ◌++◌, length, take, get_or, Option}
use Rattle.std.proofs.Common.{None, Some, ap, sym, subst, ◌∙◌}
use Rattle.std.specs.Prelude.{slice_get, MatchOption, Result, Ok, Err, IfOk}
use Rattle.std.specs.List.{AllZip}
use Rattle.std.proofs.lemmas.Grind.{take_at_read}
use Rattle.std.proofs.lemmas.List.{map-append}
use Rattle.std.proofs.lemmas.Option.{none-some}
use Rattle.pc_entity.specs.Lists.{names_of}
use Rattle.pc_types.specs.declared.parsed.PrimType.{PrimType}
use Rattle.pc_types.specs.declared.parsed.ValType.{ValType}
use Rattle.pc_types.specs.declared.parsed.ValType.TheVariants as val
use Rattle.pc_types.specs.declared.type_index.TypeComponentLocalErrorContextTableIndex.{TypeComponentLocalErrorContextTableIndex}
use Rattle.pc_types.specs.declared.types.InterfaceType.{InterfaceType}
use Rattle.pc_types.specs.declared.types.InterfaceType.TheVariants as ty
use Rattle.pc_types.specs.declared.types.TypeDef.{TypeDef}
use Rattle.pc_types_lists.specs.Types.{Types, Grows}
use Rattle.pc_types_lists.specs.Primitive.{plain_type}
use Rattle.pc_types_lists.proofs.Growth.{grows_trans}
use Rattle.pc_types_lists.proofs.ZipLemmas.{all_zip_more, all_zip_next}
use Rattle.pc_types_convert.specs.Parts.{IsErrorContext, PrimIs, ValIs, MaybeIs, FieldIs, CaseIs}
use Rattle.pc_types.specs.declared.parsed.CoreEntity.{CoreEntity}
use Rattle.pc_types.specs.declared.parsed.CoreEntity.TheVariants as core
use Rattle.pc_types.specs.declared.parsed.TypeTable.{TypeTable}
use Rattle.pc_types_convert.specs.Entries.{ReturnsAre, CoreIs, ImportIs, ExportIs}

-- a step of a loop over the first list that makes the second, where the step turns one relation into another
pub zip_step : {A B : Type 0} (R S : A → B → Type 0) → ((x : A) (y : B) → R x y → S x y)
    → (xs : List A) (ys zs : List B) (i : ℕ) (x : A) (y : B) → i < length xs → x ≡ get_or xs i x
    → AllZip R (take i xs) ys → S x y → zs ≡ ys ++ y ∷ [] → AllZip S (take (i + 1) xs) zs
zip_step R S more xs ys zs i x y within is so_far here made =
    subst (AllZip S (take (i + 1) xs)) (sym made)
    (all_zip_next S xs ys i x y within is (all_zip_more R S more (take i xs) ys so_far) here)

-- a step of a loop that makes the names of a list
pub names_next : {V : Type 0} (xs : List (List ℕ × V)) (i : ℕ) (x : List ℕ × V) (old new : List (List ℕ))
    (name : List ℕ) → i < length xs → x ≡ get_or xs i x → old ≡ names_of (take i xs) → name ≡ x.0
    → new ≡ old ++ name ∷ [] → new ≡ names_of (take (i + 1) xs)
names_next xs i x old new name within is so_far same made =
    made ∙ (λ k. so_far k ++ same k ∷ []) ∙ sym (map-append (λ e. e.0) (take i xs) (x ∷ []))
    ∙ sym (ap names_of ((take_at_read xs i x within).1 ∙ ap (λ z. take i xs ++ z ∷ []) (sym is)))

module _ (old new : Types) (g : Grows old new) where
  -- the error contexts of the instance keep their number
  pub error_context_grows : (i : TypeComponentLocalErrorContextTableIndex) → IsErrorContext old i → IsErrorContext new i
  error_context_grows i h =
      subst (λ r. slice_get new.error_context_tables i.0 ≡ Some (record { instance = r.current })) (sym g.resources)
      (g.error_context_tables i.0 (record { instance = old.resources.current }) h)

  -- a primitive keeps its value type
  pub prim_grows : (p : PrimType) (w : InterfaceType) → PrimIs old p w → PrimIs new p w
  prim_grows p w h = by (plain_type p) h
    where
      by : (o : Option InterfaceType)
          → MatchOption o
          ((i : TypeComponentLocalErrorContextTableIndex) × (w ≡ ty.ErrorContext i) × IsErrorContext old i) (λ t. w ≡ t)
          → MatchOption o
          ((i : TypeComponentLocalErrorContextTableIndex) × (w ≡ ty.ErrorContext i) × IsErrorContext new i) (λ t. w ≡ t)
      by None k = (k.0, k.1, error_context_grows k.0 k.2)
      by (Some t) k = k

  -- a value type of the table stays what it is
  pub val_grows : (done : List (Option TypeDef)) (v : ValType) (w : InterfaceType) → ValIs old done v w
      → ValIs new done v w
  val_grows done (val.Prim p) w h = prim_grows p w h
  val_grows done (val.Type_ n) w h = h

  -- one that may be left out
  pub maybe_grows : (done : List (Option TypeDef)) (v : Option ValType) (w : Option InterfaceType)
      → MaybeIs old done v w → MaybeIs new done v w
  maybe_grows done None None h = h
  maybe_grows done None (Some w) h = absurd h
  maybe_grows done (Some v) None h = absurd h
  maybe_grows done (Some v) (Some w) h = val_grows done v w h

  -- a field
  pub field_grows : (done : List (Option TypeDef)) (f : List ℕ × ValType) (g : List ℕ × InterfaceType)
      → FieldIs old done f g → FieldIs new done f g
  field_grows done f g h = (h.0, val_grows done f.1 g.1 h.1)

  -- a case
  pub case_grows : (done : List (Option TypeDef)) (f : List ℕ × Option ValType) (g : List ℕ × Option InterfaceType)
      → CaseIs old done f g → CaseIs new done f g
  case_grows done f g h = (h.0, maybe_grows done f.1 g.1 h.1)

  -- the types of a list
  pub vals_grow : (done : List (Option TypeDef)) (vs : List ValType) (ws : List InterfaceType)
      → AllZip (ValIs old done) vs ws → AllZip (ValIs new done) vs ws
  vals_grow done vs ws are = all_zip_more (ValIs old done) (ValIs new done) (val_grows done) vs ws are

  -- the fields of a record
  pub fields_grow : (done : List (Option TypeDef)) (fs : List (List ℕ × ValType)) (gs : List (List ℕ × InterfaceType))
      → AllZip (FieldIs old done) fs gs → AllZip (FieldIs new done) fs gs
  fields_grow done fs gs are = all_zip_more (FieldIs old done) (FieldIs new done) (field_grows done) fs gs are

  -- the cases of a variant
  pub cases_grow : (done : List (Option TypeDef)) (cs : List (List ℕ × Option ValType))
      (gs : List (List ℕ × Option InterfaceType))
      → AllZip (CaseIs old done) cs gs → AllZip (CaseIs new done) cs gs
  cases_grow done cs gs are = all_zip_more (CaseIs old done) (CaseIs new done) (case_grows done) cs gs are

  -- the type that is returned
  pub returns_grow : (done : List (Option TypeDef)) (v : Option ValType) (ws : List InterfaceType)
      → ReturnsAre old done v ws → ReturnsAre new done v ws
  returns_grow done None ws h = h
  returns_grow done (Some v) ws h = (h.0, h.1, val_grows done v h.0 h.2)

  -- the types of the parameters
  pub params_are_grow : (done : List (Option TypeDef)) (ps : List (List ℕ × ValType)) (ws : List InterfaceType)
      → AllZip (λ (p : List ℕ × ValType) (w : InterfaceType). ValIs old done p.1 w) ps ws
      → AllZip (λ (p : List ℕ × ValType) (w : InterfaceType). ValIs new done p.1 w) ps ws
  params_are_grow done ps ws are =
      all_zip_more (λ (p : List ℕ × ValType) (w : InterfaceType). ValIs old done p.1 w)
      (λ (p : List ℕ × ValType) (w : InterfaceType). ValIs new done p.1 w) (λ p w. val_grows done p.1 w) ps ws are

  -- a core entity
  core_is_grows : (t : TypeTable) (e f : CoreEntity) → CoreIs old t e f → CoreIs new t e f
  core_is_grows t (core.Func s) f h = (h.0, h.1, h.2, h.3, g.signatures h.0 h.1 h.4)
  core_is_grows t core.Table f h = h
  core_is_grows t (core.Memory is_wide) f h = h
  core_is_grows t core.Global f h = h
  core_is_grows t core.Tag f h = h

  -- a module's import
  pub import_is_grows : (t : TypeTable) (i j : List ℕ × List ℕ × CoreEntity) → ImportIs old t i j → ImportIs new t i j
  import_is_grows t i j h = (h.0, h.1, core_is_grows t i.2 j.2 h.2)

  -- a module's export
  pub export_is_grows : (t : TypeTable) (e f : List ℕ × CoreEntity) → ExportIs old t e f → ExportIs new t e f
  export_is_grows t e f h = (h.0, core_is_grows t e.1 f.1 h.1)

  -- the imports of a module
  pub imports_grow : (t : TypeTable) (is js : List (List ℕ × List ℕ × CoreEntity)) → AllZip (ImportIs old t) is js
      → AllZip (ImportIs new t) is js
  imports_grow t is js are = all_zip_more (ImportIs old t) (ImportIs new t) (import_is_grows t) is js are

  -- the exports of a module
  pub exports_grow : (t : TypeTable) (es fs : List (List ℕ × CoreEntity)) → AllZip (ExportIs old t) es fs
      → AllZip (ExportIs new t) es fs
  exports_grow t es fs are = all_zip_more (ExportIs old t) (ExportIs new t) (export_is_grows t) es fs are

-- two value types that may be left out, the second of which was converted later
pub both_grow : (first second last : Types) → Grows first second → Grows second last → (done : List (Option TypeDef))
    → (v x : Option ValType) (w y : Option InterfaceType) → MaybeIs first done v w → MaybeIs second done x y
    → MaybeIs last done v w × MaybeIs last done x y
both_grow first second last g h done v x w y before after = (
  maybe_grows first last (grows_trans first second last g h) done v w before,
  maybe_grows second last h done x y after,
)

-- a weaker fact of what was answered
pub if_ok_more : {A E : Type 0} (P Q : A → Type 0) → ((x : A) → P x → Q x) → (r : Result A E) → IfOk r P → IfOk r Q
if_ok_more P Q more (Ok x) h = more x h
if_ok_more P Q more (Err e) h = tt

-- a primitive that needs a table has its number
pub table_of : (b : Types) (p : PrimType) (w : InterfaceType) → plain_type p ≡ None → PrimIs b p w
    → (i : TypeComponentLocalErrorContextTableIndex) × IsErrorContext b i
table_of b p w none h = by (plain_type p) none h
  where
    by : (o : Option InterfaceType) → o ≡ None
        → MatchOption o ((i : TypeComponentLocalErrorContextTableIndex) × (w ≡ ty.ErrorContext i) × IsErrorContext b i)
        (λ t. w ≡ t)
        → (i : TypeComponentLocalErrorContextTableIndex) × IsErrorContext b i
    by None same k = (k.0, k.2)
    by (Some t) same k = absurd (none-some t (sym same))
