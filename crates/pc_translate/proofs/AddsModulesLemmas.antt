-- The conversion of module types adds no other types, one after another.
use Rattle.std.proofs.Common.{◌≡◌, ◌≤◌, ◌<◌, ◌⊎◌, ◌∙◌, ℕ, Bool, true, false, true≢false, List, [], length, inl, inr}
use Rattle.std.proofs.Common.{Contains, Option, Some, refl, sym, ap, subst, arith, suc, ◌∷◌}
use Rattle.std.specs.Prelude.{slice_get}
use Rattle.std.proofs.lemmas.Option.{get_or_from_slice_get, none-some, same_Some, slice_get_within}
use Rattle.pc_entity.specs.Lists.{Kept}
use Rattle.pc_types.specs.declared.parsed.CoreEntity.{CoreEntity}
use Rattle.pc_types.specs.declared.parsed.DeclType.{DeclType}
use Rattle.pc_types.specs.declared.parsed.DeclType.TheVariants as entry
use Rattle.pc_types.specs.declared.parsed.TypeTable.{TypeTable}
use Rattle.pc_types.specs.declared.type_index.TypeModuleIndex.{TypeModuleIndex}
use Rattle.pc_types.specs.declared.types.TypeDef.{TypeDef}
use Rattle.pc_types.specs.declared.types.TypeDef.TheVariants as def
use Rattle.pc_types.specs.declared.types.TypeKind.{TypeKind}
use Rattle.pc_types.specs.declared.types.TypeKind.TheVariants as kind
use Rattle.pc_types.specs.Table.{is_func}
use Rattle.pc_types_lists.specs.Added.{numbered_type}
use Rattle.pc_types_lists.proofs.AddedLemmas.{below_or}
use Rattle.pc_types_builder.specs.Adds.{IsOneOf, no_context_in, one_context, one_signature, one_tuple, one_type}
use Rattle.pc_types_builder.specs.Types.{Grows, Types, held}
use Rattle.pc_types_builder.specs.Trees.{IsEntry}
use Rattle.pc_types_builder.specs.Asked.{AddsAsked, AsksContexts, IsReached, IsReachedSignature, IsReachedTuple}
use Rattle.pc_types_builder.specs.Asked.{IsReachedType, asked, named, of_func, of_module}
use Rattle.pc_types_builder.proofs.TreeLemmas.{entry_grows}
use Rattle.pc_dfg.specs.declared.export.Export.{Export}
use Rattle.pc_dfg_finish.specs.ModuleTypes.{static_type}
use Rattle.pc_translate.proofs.ModuleTreeLemmas.{is_module_def, module_entry}
use Rattle.pc_translate.specs.ModuleTypes.{AddsModules, IsExported, IsModuleType}

-- a list that keeps its items and is no longer is as it was
pub kept_same : {A : Type 0} (xs ys : List A) → Kept xs ys
    → ((i : ℕ) → length xs ≤ i → i < length ys → ⊥) → ys ≡ xs
kept_same [] [] kept none = refl
kept_same [] (y ∷ ys) kept none = absurd (none 0 (omega arith) (omega arith))
kept_same (x ∷ xs) [] kept none = absurd (none-some x (kept 0 x refl))
kept_same (x ∷ xs) (y ∷ ys) kept none =
    let head : y ≡ x = same_Some y x (kept 0 x refl) in
    let tail : ys ≡ xs = kept_same xs ys (λ i z at. kept (suc i) z at)
    (λ i above below. none (suc i) (omega (arith, above)) (omega (arith, below))) in
    λ i. head i ∷ tail i

-- whether a number is that of a module type
abbrev is_module_number : Option TypeDef → Bool
is_module_number (Some (def.Module i)) = true
is_module_number _ = false

-- whether a kind is neither that of module types nor that of core signatures
abbrev is_other : TypeKind → Bool
is_other kind.Module = false
is_other kind.Signature = false
is_other _ = true

-- whether a kind is that of core signatures
abbrev is_signature : TypeKind → Bool
is_signature kind.Signature = true
is_signature _ = false

-- a number of another kind is that of no module type
not_module : (k : TypeKind) (i : ℕ) (j : TypeModuleIndex) → is_other k ≡ true
    → numbered_type k i ≡ Some (def.Module j) → ⊥
not_module kind.Module i j other is = absurd (true≢false (sym other))
not_module k i j other is = absurd (true≢false (sym (ap is_module_number is)))

-- nor is another kind that of core signatures
not_signature : (k : TypeKind) → is_other k ≡ true → k ≡ kind.Signature → ⊥
not_signature k other same = true≢false (sym other ∙ ap is_other same)

module _ (t : TypeTable) (n : ℕ) (imports : List (List ℕ × List ℕ × CoreEntity))
    (exports : List (List ℕ × CoreEntity)) (at : slice_get t.types n ≡ Some (entry.Module imports exports)) where
  -- a module type names no entry, so no other is reached from it
  pub alone : {m : ℕ} → IsReached t n m → m ≡ n
  alone asked = refl
  alone (named k m e reached found among) =
      let here : slice_get t.types n ≡ Some e = subst (λ q. slice_get t.types q ≡ Some e) (alone reached) found in
      let same : e ≡ entry.Module imports exports = same_Some e (entry.Module imports exports) (sym here ∙ at) in
      let none : ⊥ = rw same at among in
      absurd none

  -- what stands at a reached entry is the module type
  entry_alone : (m : ℕ) (e : DeclType) → IsReached t n m → slice_get t.types m ≡ Some e
      → e ≡ entry.Module imports exports
  entry_alone m e reached found =
      same_Some e (entry.Module imports exports)
      (sym (subst (λ q. slice_get t.types q ≡ Some e) (alone reached) found) ∙ at)

  -- it asks for no error contexts
  no_contexts : AsksContexts t n → ⊥
  no_contexts a = true≢false (sym (ap no_context_in (entry_alone a.0 a.1 a.2 a.3)) ∙ a.4)

  -- nor for a tuple
  no_tuple : (b : Types) (i : ℕ) → IsReachedTuple b t n i → ⊥
  no_tuple b i (of_func m params returns is_async reached found has) =
      true≢false (ap is_func (entry_alone m (entry.Func params returns is_async) reached found))

-- what a module type asks for is its own type, or a signature of one of its functions
module _ (t : TypeTable) (n : ℕ) (is : IsModuleType t n) (b : Types) where
  asks : (k : TypeKind) (i : ℕ)
      → IsOneOf b (AsksContexts t n) (IsReachedType b t n) (IsReachedTuple b t n) (IsReachedSignature b t n) k i
      → ((j : TypeModuleIndex) × (numbered_type k i ≡ Some (def.Module j)) × IsEntry b t n (def.Module j))
      ⊎ ((k ≡ kind.Signature) × IsReachedSignature b t n i)
  asks k i (one_type d numbered reached) =
      let at = module_entry t n is in
      let here : IsEntry b t n d = subst (λ q. IsEntry b t q d) (alone t n at.0 at.1 at.2 reached.1) reached.2 in
      let j = is_module_def b t n is d here in
      inl (j.0, numbered ∙ ap Some j.1, subst (λ e. IsEntry b t n e) j.1 here)
  asks k i (one_tuple same tuple) =
      let at = module_entry t n is in absurd (no_tuple t n at.0 at.1 at.2 b i tuple)
  asks k i (one_signature same signature) = inr (same, signature)
  asks k i (one_context same wanted here) =
      let at = module_entry t n is in absurd (no_contexts t n at.0 at.1 at.2 wanted)

module _ (t : TypeTable) (n : ℕ) (is : IsModuleType t n) (old new : Types) (g : Grows old new)
    (adds : AddsAsked t n old new) where
  -- nothing of another kind is added
  none_other : (k : TypeKind) → is_other k ≡ true → (i : ℕ) → held old k ≤ i → i < held new k → ⊥
  none_other k other i above below =
      elim (asks t n is new k i (adds.only.each k i above below)) as (λ _. ⊥) [
        | inl m ↦ not_module k i m.0 other m.1
        | inr s ↦ not_signature k other s.0
      ]

  -- so each other list is as it was
  others_same : new ≡ record old { modules = new.modules; signatures = new.signatures }
  others_same = λ i. record {
    funcs = kept_same old.funcs new.funcs g.funcs (none_other kind.Func refl) i;
    tuples = kept_same old.tuples new.tuples g.tuples (none_other kind.Tuple refl) i;
    records = kept_same old.records new.records g.records (none_other kind.Record refl) i;
    variants = kept_same old.variants new.variants g.variants (none_other kind.Variant refl) i;
    lists = kept_same old.lists new.lists g.lists (none_other kind.List refl) i;
    options = kept_same old.options new.options g.options (none_other kind.Option refl) i;
    results = kept_same old.results new.results g.results (none_other kind.Result refl) i;
    flags = kept_same old.flags new.flags g.flags (none_other kind.Flags refl) i;
    enums = kept_same old.enums new.enums g.enums (none_other kind.Enum refl) i;
    resource_tables =
        kept_same old.resource_tables new.resource_tables g.resource_tables (none_other kind.ResourceTable refl) i;
    future_tables = kept_same old.future_tables new.future_tables g.future_tables (none_other kind.FutureTable refl) i;
    stream_tables = kept_same old.stream_tables new.stream_tables g.stream_tables (none_other kind.StreamTable refl) i;
    error_context_tables =
        kept_same old.error_context_tables new.error_context_tables g.error_context_tables
        (none_other kind.ErrorContextTable refl) i;
    instances = kept_same old.instances new.instances g.instances (none_other kind.Instance refl) i;
    components = kept_same old.components new.components g.components (none_other kind.Component refl) i;
    modules = new.modules;
    signatures = new.signatures;
    resources = g.resources i;
  }

  module_added : (i : ℕ) → length old.modules ≤ i → i < length new.modules
      → IsEntry new t n (def.Module (record { 0 = i }))
  module_added i above below =
      elim (asks t n is new kind.Module i (adds.only.each kind.Module i above below)) as
      (λ _. IsEntry new t n (def.Module (record { 0 = i }))) [
        | inl m ↦ subst (λ d. IsEntry new t n d) (sym (same_Some _ _ m.1)) m.2
        | inr s ↦ absurd (true≢false (sym (ap is_signature s.0)))
      ]

  signature_added : (i : ℕ) → length old.signatures ≤ i → i < length new.signatures → IsReachedSignature new t n i
  signature_added i above below =
      elim (asks t n is new kind.Signature i (adds.only.each kind.Signature i above below)) as
      (λ _. IsReachedSignature new t n i) [
        | inl m ↦ absurd (none-some _ m.1)
        | inr s ↦ s.1
      ]

-- the conversion of a module type adds its type and signatures of its functions
pub adds_module : (t : TypeTable) (n : ℕ) → IsModuleType t n → (old new : Types) → Grows old new
    → AddsAsked t n old new → AddsModules t (λ m. m ≡ n) old new
adds_module t n is old new g adds = record {
  rest = others_same t n is old new g adds;
  modules = λ i above below. (n, refl, module_added t n is old new g adds i above below);
  signatures = λ i above below. (n, refl, signature_added t n is old new g adds i above below);
}

-- what changes nothing adds no module types
pub adds_none : (t : TypeTable) (P : ℕ → Type 0) (b : Types) → AddsModules t P b b
adds_none t P b = record {
  rest = refl;
  modules = λ i above below. absurd (omega (arith, above, below));
  signatures = λ i above below. absurd (omega (arith, above, below));
}

-- what entries have, and what follows from it
pub adds_more : (t : TypeTable) (P Q : ℕ → Type 0) → ((n : ℕ) → P n → Q n) → (old new : Types)
    → AddsModules t P old new → AddsModules t Q old new
adds_more t P Q more old new adds = record {
  rest = adds.rest;
  modules = λ i above below. let m = adds.modules i above below in (m.0, more m.0 m.1, m.2);
  signatures = λ i above below. let s = adds.signatures i above below in (s.0, more s.0 s.1, s.2);
}

-- the type of an entry that a number names
pub adds_named : (t : TypeTable) (o : Option ℕ) (n : ℕ) → o ≡ Some n → (old new : Types)
    → AddsModules t (λ m. m ≡ n) old new → AddsModules t (λ m. o ≡ Some m) old new
adds_named t o n is old new adds =
    adds_more t (λ m. m ≡ n) (λ m. o ≡ Some m) (λ m same. is ∙ ap Some (sym same)) old new adds

-- a signature of a module type stays one
signature_stays : (t : TypeTable) (old new : Types) → Grows old new → (n i : ℕ) → IsReachedSignature old t n i
    → IsReachedSignature new t n i
signature_stays t old new g n i (of_module m imports exports reached at s found is) =
    of_module m imports exports reached at s (g.signatures i s found) is

-- two steps together
pub adds_both : (t : TypeTable) (P : ℕ → Type 0) (a b c : Types) → Grows b c → AddsModules t P a b
    → AddsModules t P b c → AddsModules t P a c
adds_both t P a b c g first second = record {
  rest = second.rest
      ∙ ap (λ (x : Types). record x { modules = c.modules; signatures = c.signatures }) first.rest;
  modules = λ i above below. elim (below_or i (length b.modules)) as
      (λ _. (n : ℕ) × P n × IsEntry c t n (def.Module (record { 0 = i }))) [
        | inl early ↦ (
            let m = first.modules i above early in (m.0, m.1, entry_grows b c g t m.0 _ m.2))
        | inr late ↦ second.modules i late below
      ];
  signatures = λ i above below. elim (below_or i (length b.signatures)) as
      (λ _. (n : ℕ) × P n × IsReachedSignature c t n i) [
        | inl early ↦ (
            let s = first.signatures i above early in (s.0, s.1, signature_stays t b c g s.0 i s.2))
        | inr late ↦ second.signatures i late below
      ];
}

-- the next of some exports
pub adds_item : (t : TypeTable) (es : List Export) (k : ℕ) (e : Export) (a b c : Types) → slice_get es k ≡ Some e
    → Grows b c → AddsModules t (IsExported es) a b → AddsModules t (λ n. static_type e ≡ Some n) b c
    → AddsModules t (IsExported es) a c
adds_item t es k e a b c at g before here =
    adds_both t (IsExported es) a b c g before
    (adds_more t (λ n. static_type e ≡ Some n) (IsExported es) (λ n is. (e, found es k e at, is)) b c here)
  where
    found : (xs : List Export) (i : ℕ) (x : Export) → slice_get xs i ≡ Some x → Contains xs x
    found xs i x there =
        (i, slice_get_within xs i x there, get_or_from_slice_get xs i x x there)
