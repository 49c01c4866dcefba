-- Where the conversion of module types fills a list, there were few places before.
use Rattle.std.proofs.Common.{◌≡◌, ◌≤◌, ◌<◌, ◌+◌, ◌∙◌, ℕ, List, length, Option, None, Some, sym, ap, subst, arith}
use Rattle.std.proofs.Common.{All, Contains}
use Rattle.std.specs.Prelude.{slice_get, IfSome, IsSomeAnd}
use Rattle.std.proofs.lemmas.List.Elements.{All-contains}
use Rattle.std.proofs.lemmas.Option.{none-some, same_Some, slice_get_within}
use Rattle.pc_types.specs.declared.parsed.CoreFuncSig.{CoreFuncSig}
use Rattle.pc_types.specs.declared.parsed.TypeTable.{TypeTable}
use Rattle.pc_types.specs.declared.type_index.TypeModuleIndex.{TypeModuleIndex}
use Rattle.pc_types.specs.declared.types.TypeDef.{TypeDef}
use Rattle.pc_types.specs.declared.types.TypeDef.TheVariants as def
use Rattle.pc_types.specs.declared.types.TypeKind.{TypeKind}
use Rattle.pc_types.specs.declared.types.TypeKind.TheVariants as kind
use Rattle.pc_types_lists.proofs.FewLemmas.{at_most_from}
use Rattle.pc_types_builder.specs.Types.{IsBuilder, IsFull, IsTooFullFor, Types, held}
use Rattle.pc_types_builder.specs.Trees.{IsEntry}
use Rattle.pc_types_builder.specs.Asked.{IsReachedSignature, of_module}
use Rattle.pc_dfg.specs.declared.export.Export.{Export}
use Rattle.pc_dfg_finish.specs.ModuleTypes.{static_type}
use Rattle.pc_translate.proofs.ModuleTreeLemmas.{one_entry}
use Rattle.pc_translate.proofs.ModuleTypeLemmas.{module_there}
use Rattle.pc_translate.specs.ModuleTypes.{AddsModules, HasFewPlaces, HasModuleType, HasNoPlace, IsExported}
use Rattle.pc_translate.specs.ModuleTypes.{IsModuleType, LacksPlace, of_any, of_modules, of_signatures}

-- the number of a module type
abbrev module_number : TypeDef → ℕ
module_number (def.Module i) = i.0
module_number _ = 0

module _ (t : TypeTable) (P : ℕ → Type 0) (within : (n : ℕ) → P n → n < length t.types) (old new : Types)
    (builder : IsBuilder new) (adds : AddsModules t P old new) where
  -- no more module types are added than the table has entries
  few_modules : length new.modules ≤ length old.modules + length t.types
  few_modules =
      at_most_from (length old.modules) (length t.types) (λ i n. IsEntry new t n (def.Module (record { 0 = i })))
      (λ i k n first second. ap module_number (one_entry new builder t n (def.Module (record { 0 = i }))
      (def.Module (record { 0 = k })) first second)) (length new.modules)
      (λ i above below. let m = adds.modules i above below in (m.0, within m.0 m.1, m.2))

  -- a signature has its number in the table
  abbrev IsAt : ℕ → ℕ → Type 0
  IsAt i j = (s : CoreFuncSig) × (slice_get new.signatures i ≡ Some s) × (slice_get t.core_funcs j ≡ Some s)

  -- the signature of a module type has
  signature_at : (n i : ℕ) → IsReachedSignature new t n i → (j : ℕ) × (j < length t.core_funcs) × IsAt i j
  signature_at n i (of_module m imports exports reached at s found is) =
      (is.0, slice_get_within t.core_funcs is.0 s is.2, (s, found, is.2))

  -- no more signatures are added than the table has
  few_signatures : length new.signatures ≤ length old.signatures + length t.core_funcs
  few_signatures =
      at_most_from (length old.signatures) (length t.core_funcs) IsAt
      (λ i k j first second. builder.distinct kind.Signature i k first.0 first.1
      (second.1 ∙ ap Some (same_Some second.0 first.0 (sym second.2 ∙ first.2)))) (length new.signatures)
      (λ i above below. let s = adds.signatures i above below in signature_at s.0 i s.2)

  -- so a list that is full now was full before, or there were few places for module types or for signatures
  pub few_before : IsFull new → HasFewPlaces t old
  few_before full = by full.0 full.1
    where
      by : (k : TypeKind) → held new k ≡ 4294967294 → HasFewPlaces t old
      by kind.Module is = let few = few_modules in of_modules (omega (arith, few, is))
      by kind.Signature is = let few = few_signatures in of_signatures (omega (arith, few, is))
      by k is = of_any (k, sym (ap (λ (b : Types). held b k) adds.rest) ∙ is)

-- so there were few where an export's module type has no place now
pub lacks_place : (t : TypeTable) (es : List Export) (old new : Types) → All (HasModuleType t) es → IsBuilder new
    → AddsModules t (IsExported es) old new → (e : Export) × Contains es e × HasNoPlace new t e
    → LacksPlace t es old new
lacks_place t es old new are builder adds l = record {
  before = few_before t (IsExported es) within old new builder adds (is_full (static_type l.0) l.2);
  item = l.0;
  exported = l.1;
  no_place = l.2;
}
  where
    there : (o : Option ℕ) → IfSome o (IsModuleType t) → (n : ℕ) → o ≡ Some n → n < length t.types
    there None has n is = absurd (none-some n is)
    there (Some m) has n is = subst (λ k. k < length t.types) (same_Some m n is) (module_there t m has)

    within : (n : ℕ) → IsExported es n → n < length t.types
    within n x = there (static_type x.0) (All-contains (HasModuleType t) es x.0 are x.1) n x.2

    is_full : (o : Option ℕ)
        → IsSomeAnd o (λ ty. IsTooFullFor new (λ next. (i : TypeModuleIndex) × IsEntry next t ty (def.Module i)))
        → IsFull new
    is_full None h = absurd h
    is_full (Some ty) h = h.full
