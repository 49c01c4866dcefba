-- Types that have the labels of an entry: the type of an entry has them, and so has each that is kept. The number of
-- such a type finds the labels where they are put once more.
use Rattle.std.proofs.Common.{◌≡◌, ◌∷◌, ◌∙◌, ℕ, Bool, List, [], Option, None, Some, ap, refl, subst, sym}
use Rattle.std.specs.Prelude.{IfSome, slice_get}
use Rattle.std.specs.List.{AllZip}
use Rattle.pc_entity.specs.Lists.{names_of}
use Rattle.pc_types.specs.declared.parsed.DeclType.{DeclType}
use Rattle.pc_types.specs.declared.parsed.DeclType.TheVariants as entry
use Rattle.pc_types.specs.declared.parsed.Entity.{Entity}
use Rattle.pc_types.specs.declared.parsed.TypeTable.{TypeTable}
use Rattle.pc_types.specs.declared.parsed.ValType.{ValType}
use Rattle.pc_types.specs.declared.type_index.TypeComponentIndex.{TypeComponentIndex}
use Rattle.pc_types.specs.declared.type_index.TypeComponentInstanceIndex.{TypeComponentInstanceIndex}
use Rattle.pc_types.specs.declared.type_index.TypeFuncIndex.{TypeFuncIndex}
use Rattle.pc_types.specs.declared.type_index.TypeRecordIndex.{TypeRecordIndex}
use Rattle.pc_types.specs.declared.type_index.TypeVariantIndex.{TypeVariantIndex}
use Rattle.pc_types.specs.declared.types.InterfaceType.{InterfaceType}
use Rattle.pc_types.specs.declared.types.InterfaceType.TheVariants as ty
use Rattle.pc_types.specs.declared.types.TypeDef.{TypeDef}
use Rattle.pc_types.specs.declared.types.TypeDef.TheVariants as def
use Rattle.pc_types.specs.declared.types.TypeFunc.{TypeFunc}
use Rattle.pc_types_lists.specs.Labels.{HasLabelsOf, component_labels, func_labels, instance_labels, record_labels}
use Rattle.pc_types_lists.specs.Labels.{variant_labels}
use Rattle.pc_types_lists.specs.Types.{Grows, KeepsTypes, Types}
use Rattle.pc_types_convert.specs.Entries.{EntryIs}
use Rattle.pc_types_convert.specs.Labels.{IsLike}
use Rattle.pc_types_convert.specs.Parts.{CaseIs, ExternIs, FieldIs}

-- the names are the same where each item has the name of the one at its place
names_same : {V W : Type 0} (R : List ℕ × V → List ℕ × W → Type 0)
    → ((x : List ℕ × V) (y : List ℕ × W) → R x y → x.0 ≡ y.0) → (xs : List (List ℕ × V)) (ys : List (List ℕ × W))
    → AllZip R xs ys → names_of ys ≡ names_of xs
names_same R same [] [] h = refl
names_same R same [] (y ∷ ys) h = absurd h
names_same R same (x ∷ xs) [] h = absurd h
names_same R same (x ∷ xs) (y ∷ ys) h =
    let rest = names_same R same xs ys h.1 in
    λ i. sym (same x y h.0) i ∷ rest i

-- the type of an entry has its labels
pub entry_like : (b : Types) (done : List (Option TypeDef)) (t : TypeTable) (n : ℕ) (e : DeclType) (d : TypeDef)
    → EntryIs b done t n e d → IsLike b e d
entry_like b done t n entry.Resource d h = tt
entry_like b done t n (entry.Func params result is_async) d h = (h.0, h.2.0, h.1, h.2.3, h.2.6)
entry_like b done t n (entry.Val v) d h = tt
entry_like b done t n (entry.Record fields) d h =
    (h.0, h.1, h.2, h.3, names_same (FieldIs b done) (λ x y is. is.0) fields h.1.fields h.4)
entry_like b done t n (entry.Variant cases) d h =
    (h.0, h.1, h.2, h.3, names_same (CaseIs b done) (λ x y is. is.0) cases h.1.cases h.4)
entry_like b done t n (entry.List v) d h = tt
entry_like b done t n (entry.Tuple vs) d h = tt
entry_like b done t n (entry.Flags names) d h = tt
entry_like b done t n (entry.Enum names) d h = tt
entry_like b done t n (entry.Option v) d h = tt
entry_like b done t n (entry.Result ok err) d h = tt
entry_like b done t n (entry.Own m) d h = tt
entry_like b done t n (entry.Borrow m) d h = tt
entry_like b done t n (entry.Stream v) d h = tt
entry_like b done t n (entry.Future v) d h = tt
entry_like b done t n (entry.Instance exports) d h =
    (h.0, h.1, h.2, h.3, names_same (ExternIs done) (λ x y is. is.0) exports h.1.exports h.4)
entry_like b done t n (entry.Component imports exports) d h = (
  h.0,
  h.1,
  h.2,
  h.3,
  names_same (ExternIs done) (λ x y is. is.0) imports h.1.imports h.4,
  names_same (ExternIs done) (λ x y is. is.0) exports h.1.exports h.5,
)
entry_like b done t n (entry.Module imports exports) d h = tt

-- a type that is kept has the labels that it had
pub like_keeps : (old new : Types) → KeepsTypes old new → (e : DeclType) (d : TypeDef) → IsLike old e d
    → IsLike new e d
like_keeps old new keeps entry.Resource d h = tt
like_keeps old new keeps (entry.Func params result is_async) d h =
    (h.0, h.1, h.2, keeps.funcs h.0.0 h.1 h.3, h.4)
like_keeps old new keeps (entry.Val v) d h = tt
like_keeps old new keeps (entry.Record fields) d h = (h.0, h.1, h.2, keeps.records h.0.0 h.1 h.3, h.4)
like_keeps old new keeps (entry.Variant cases) d h = (h.0, h.1, h.2, keeps.variants h.0.0 h.1 h.3, h.4)
like_keeps old new keeps (entry.List v) d h = tt
like_keeps old new keeps (entry.Tuple vs) d h = tt
like_keeps old new keeps (entry.Flags names) d h = tt
like_keeps old new keeps (entry.Enum names) d h = tt
like_keeps old new keeps (entry.Option v) d h = tt
like_keeps old new keeps (entry.Result ok err) d h = tt
like_keeps old new keeps (entry.Own m) d h = tt
like_keeps old new keeps (entry.Borrow m) d h = tt
like_keeps old new keeps (entry.Stream v) d h = tt
like_keeps old new keeps (entry.Future v) d h = tt
like_keeps old new keeps (entry.Instance exports) d h = (h.0, h.1, h.2, keeps.instances h.0.0 h.1 h.3, h.4)
like_keeps old new keeps (entry.Component imports exports) d h =
    (h.0, h.1, h.2, keeps.components h.0.0 h.1 h.3, h.4, h.5)
like_keeps old new keeps (entry.Module imports exports) d h = tt

-- the number of a type whose kind has labels
abbrev number_in : TypeDef → ℕ
number_in (def.ComponentFunc i) = i.0
number_in (def.Interface (ty.Record i)) = i.0
number_in (def.Interface (ty.Variant i)) = i.0
number_in (def.ComponentInstance i) = i.0
number_in (def.Component i) = i.0
number_in d = 0

-- The number of a type with the labels of an entry is that of a type with the labels that are put for it, if the type
-- is of the entry's kind.
module _ (old new : Types) (g : Grows old new) (done : List (Option TypeDef)) (like : Option TypeDef) where
  pub func_like : (params : List (List ℕ × ValType)) (returns : Option ValType) (is_async : Bool)
      → IfSome like (IsLike old (entry.Func params returns is_async)) → (number : Option TypeFuncIndex)
      → IfSome number (λ i. like ≡ Some (def.ComponentFunc i)) → (f : TypeFunc) → f.param_names ≡ names_of params
      → IfSome number (λ i. HasLabelsOf func_labels new.funcs i.0 f)
  func_like params returns is_async has None is f named = tt
  func_like params returns is_async has (Some i) is f named =
      let h : IsLike old (entry.Func params returns is_async) (def.ComponentFunc i) =
      subst (λ o. IfSome o (IsLike old (entry.Func params returns is_async))) is has in
      (h.1, g.funcs i.0 h.1 (ap (slice_get old.funcs) (ap number_in h.2) ∙ h.3), h.4 ∙ sym named)

  pub record_like : (fields : List (List ℕ × ValType)) (put : List (List ℕ × InterfaceType))
      → IfSome like (IsLike old (entry.Record fields)) → (number : Option TypeRecordIndex)
      → IfSome number (λ i. like ≡ Some (def.Interface (ty.Record i))) → AllZip (FieldIs new done) fields put
      → IfSome number (λ i. HasLabelsOf record_labels new.records i.0 (record { fields = put }))
  record_like fields put has None is are = tt
  record_like fields put has (Some i) is are =
      let h : IsLike old (entry.Record fields) (def.Interface (ty.Record i)) =
      subst (λ o. IfSome o (IsLike old (entry.Record fields))) is has in (
        h.1,
        g.records i.0 h.1 (ap (slice_get old.records) (ap number_in h.2) ∙ h.3),
        h.4 ∙ sym (names_same (FieldIs new done) (λ x y same. same.0) fields put are),
      )

  pub variant_like : (cases : List (List ℕ × Option ValType)) (put : List (List ℕ × Option InterfaceType))
      → IfSome like (IsLike old (entry.Variant cases)) → (number : Option TypeVariantIndex)
      → IfSome number (λ i. like ≡ Some (def.Interface (ty.Variant i))) → AllZip (CaseIs new done) cases put
      → IfSome number (λ i. HasLabelsOf variant_labels new.variants i.0 (record { cases = put }))
  variant_like cases put has None is are = tt
  variant_like cases put has (Some i) is are =
      let h : IsLike old (entry.Variant cases) (def.Interface (ty.Variant i)) =
      subst (λ o. IfSome o (IsLike old (entry.Variant cases))) is has in (
        h.1,
        g.variants i.0 h.1 (ap (slice_get old.variants) (ap number_in h.2) ∙ h.3),
        h.4 ∙ sym (names_same (CaseIs new done) (λ x y same. same.0) cases put are),
      )

-- the same of types for which nothing is put first
module _ (b : Types) (done : List (Option TypeDef)) (like : Option TypeDef) where
  pub instance_like : (exports : List (List ℕ × Entity)) (put : List (List ℕ × TypeDef))
      → IfSome like (IsLike b (entry.Instance exports)) → (number : Option TypeComponentInstanceIndex)
      → IfSome number (λ i. like ≡ Some (def.ComponentInstance i)) → AllZip (ExternIs done) exports put
      → IfSome number (λ i. HasLabelsOf instance_labels b.instances i.0 (record { exports = put }))
  instance_like exports put has None is are = tt
  instance_like exports put has (Some i) is are =
      let h : IsLike b (entry.Instance exports) (def.ComponentInstance i) =
      subst (λ o. IfSome o (IsLike b (entry.Instance exports))) is has in (
        h.1,
        ap (slice_get b.instances) (ap number_in h.2) ∙ h.3,
        h.4 ∙ sym (names_same (ExternIs done) (λ x y same. same.0) exports put are),
      )

  pub component_like : (imports exports : List (List ℕ × Entity)) (ins outs : List (List ℕ × TypeDef))
      → IfSome like (IsLike b (entry.Component imports exports)) → (number : Option TypeComponentIndex)
      → IfSome number (λ i. like ≡ Some (def.Component i)) → AllZip (ExternIs done) imports ins
      → AllZip (ExternIs done) exports outs
      → IfSome number (λ i. HasLabelsOf component_labels b.components i.0 (record { imports = ins; exports = outs }))
  component_like imports exports ins outs has None is ins_are outs_are = tt
  component_like imports exports ins outs has (Some i) is ins_are outs_are =
      let h : IsLike b (entry.Component imports exports) (def.Component i) =
      subst (λ o. IfSome o (IsLike b (entry.Component imports exports))) is has in
      let ins_same = h.4 ∙ sym (names_same (ExternIs done) (λ x y same. same.0) imports ins ins_are) in
      let outs_same = h.5 ∙ sym (names_same (ExternIs done) (λ x y same. same.0) exports outs outs_are) in
      (h.1, ap (slice_get b.components) (ap number_in h.2) ∙ h.3, λ k. (ins_same k, outs_same k))
