-- A module of adapters is that of their values: its record, what is said of its adapters, and what it is given.
use Rattle.std.proofs.Common.{Bool, ◌≡◌, ℕ, suc, ◌+◌, List, [], ◌∷◌, ◌++◌, length, count_by, refl, sym, ap, subst, ◌∙◌}
use Rattle.std.proofs.Common.{arith}
use Rattle.std.specs.Prelude.{Some, map, slice_get}
use Rattle.std.specs.List.{AllZip, cons_option, flat_map, range_with_len}
use Rattle.std.proofs.lemmas.List.{map-append}
use Rattle.std.proofs.lemmas.Option.{slice_get_within}
use Rattle.std.proofs.lemmas.Slice.Zip.{AllZip-long}
use Rattle.pc_numbers.specs.declared.entity_index.EntityIndex.{EntityIndex}
use Rattle.pc_numbers.specs.declared.module_entity.ModuleInternedTypeIndex.{ModuleInternedTypeIndex}
use Rattle.pc_types.specs.declared.module_record.ModuleRecord.{ModuleRecord}
use Rattle.pc_types.specs.declared.parsed.CoreKind.TheVariants as kind
use Rattle.pc_types.specs.Record.{entity_at, imports_kind}
use Rattle.pc_spec_plan.specs.CoreValue as value
use Rattle.pc_spec_plan.specs.CoreValue.{CoreValue, Options}
use Rattle.pc_trampoline.specs.declared.part.Mark.{Mark}
use Rattle.pc_trampoline.specs.declared.part.Mark.TheVariants as mark
use Rattle.pc_info.specs.Modules.{adapter_view, function_mark, without_facts}
use Rattle.pc_dfg.specs.declared.adapter.Adapter.{Adapter}
use Rattle.pc_dfg.specs.declared.adapter.AdapterOptions.{AdapterOptions}
use Rattle.pc_dfg.specs.declared.core_def.CoreDef.{CoreDef}
use Rattle.pc_dfg.specs.declared.core_def.CoreDef.TheVariants as def
use Rattle.pc_dfg.specs.declared.dfg.ComponentDfg.{ComponentDfg}
use Rattle.pc_dfg.specs.declared.ids.AdapterModuleId.{AdapterModuleId}
use Rattle.pc_dfg.specs.Means.{Means, MeansSide, means_side}
use Rattle.pc_spec_adapt.specs.Asked.{FunctionFacts}
use Rattle.pc_spec_adapt.specs.Import as planned
use Rattle.pc_spec_adapt.specs.Record as said
use Rattle.pc_spec_adapt.specs.Record.{Member, module_of, signature_of}
use Rattle.pc_adapt.specs.declared.import.Import.{Import}
use Rattle.pc_adapt.specs.Imports.{imports_of}
use Rattle.pc_adapt.specs.Planned.{StandsFor}
use Rattle.pc_adapt.proofs.PlannedLemmas.{parts_of as adapter_parts, planned_alike, recorded_alike}
use Rattle.pc_adapt_define.specs.Define.{IsDefined}
use Rattle.pc_adapt_modules.specs.Entities.{all_entities, signature_number}
use Rattle.pc_adapt_modules.specs.Exports.{record_of_parts}
use Rattle.pc_adapt_modules.specs.Members.{AreMembers, IsMember, pairs, signatures_of}
use Rattle.pc_adapt_modules.proofs.EntityLemmas.{entities_planned}
use Rattle.pc_adapt_modules.proofs.MemberLemmas.{record_planned}
use Rattle.pc_adapt_partition.specs.Adapted.{IsModuleOf, functions_for, member_at, members_from, numbers_of, values_for}
use Rattle.pc_adapt_partition.specs.Gathered.{AreGiven}
use Rattle.pc_adapt_partition.specs.Parts.{adapters_in, counted, functions_from, functions_in, module_for, parts_of}
use Rattle.pc_adapt_partition.specs.Parts.{record_for, records_from, with_functions}
use Rattle.pc_adapt_partition.specs.Wired.{HaveValues}
use Rattle.pc_adapt_partition.proofs.GivenLemmas.{StandFrom, stand_first, stand_rest}
use Rattle.pc_adapt_partition.proofs.PartLemmas.{length_parts}

pub zip_append : {A B : Type 0} (R : A → B → Type 0) (xs ys : List A) (ps qs : List B) → AllZip R xs ps
    → AllZip R ys qs → AllZip R (xs ++ ys) (ps ++ qs)
zip_append R [] ys [] qs front rest = rest
zip_append R [] ys (p ∷ ps) qs front rest = absurd front
zip_append R (x ∷ xs) ys [] qs front rest = absurd front
zip_append R (x ∷ xs) ys (p ∷ ps) qs front rest = (front.0, zip_append R xs ys ps qs front.1 rest)

-- the values of all that is imported for one member more
pub values_more : (x : Member Mark) (xs : List (Member Mark))
    → values_for (x ∷ xs) ≡ map (λ (i : planned.Import Mark). i.value) x.imports ++ values_for xs
values_more x xs =
    map-append (λ (i : planned.Import Mark). i.value) x.imports (flat_map (λ (y : Member Mark). y.imports) xs)

-- the core signature of an adapter's value is that of its lowering
side_signature : (g : ComponentDfg) (u w : Mark) (lift : Options Mark) (callee : CoreValue Mark) {o : AdapterOptions}
    {v : Options Mark} → MeansSide g o v
    → signature_of (value.adapter u lift w v callee) ≡ Some (mark.Signature o.core_type)
side_signature g u w lift callee (means_side a b c) = refl

-- what is defined for imports has the values that are planned for them
stand_means : (g h : ComponentDfg) (s : ModuleInternedTypeIndex) (is : List Import) (ps : List (planned.Import Mark))
    (ds : List CoreDef) → AllZip (StandsFor g (mark.Signature s)) is ps → AllZip (IsDefined g h s) is ds
    → AllZip (Means h) ds (map (λ (i : planned.Import Mark). i.value) ps)
stand_means g h s [] [] [] stand defined = tt
stand_means g h s [] [] (d ∷ ds) stand defined = absurd defined
stand_means g h s [] (p ∷ ps) ds stand defined = absurd stand
stand_means g h s (i ∷ is) [] ds stand defined = absurd stand
stand_means g h s (i ∷ is) (p ∷ ps) [] stand defined = absurd defined
stand_means g h s (i ∷ is) (p ∷ ps) (d ∷ ds) stand defined =
    (defined.0.value p.value stand.0, stand_means g h s is ps ds stand.1 defined.1)

module _ (g : ComponentDfg) (lift lower : ℕ → FunctionFacts) (clear : ℕ → Bool) (vs : ℕ → CoreValue Mark)
    (mean : HaveValues g vs) where
  abbrev M : ℕ → List Adapter → List (Member Mark)
  M = members_from lift lower clear vs

  -- an adapter has the value of its number
  pub has_value : (n : ℕ) (x : Adapter) → slice_get g.adapters n ≡ Some x
      → Means g (def.Adapter (record { 0 = n })) (vs n)
  has_value n x at = mean n (slice_get_within g.adapters n x at)

  -- what is imported for an adapter stands for what is planned for its value
  stands : (n : ℕ) (x : Adapter) → slice_get g.adapters n ≡ Some x
      → AllZip (StandsFor g (mark.Signature x.lower_options.core_type)) (imports_of (lift n) (lower n) (clear n) x)
      (member_at lift lower clear vs n x).imports
  stands n x at = planned_alike g (record { 0 = n }) x (vs n) (lift n) (lower n) (clear n) at (has_value n x at)

  same_count : (n : ℕ) (x : Adapter) → slice_get g.adapters n ≡ Some x
      → length (imports_of (lift n) (lower n) (clear n) x) ≡ length (member_at lift lower clear vs n x).imports
  same_count n x at =
      sym (AllZip-long (StandsFor g (mark.Signature x.lower_options.core_type))
      (imports_of (lift n) (lower n) (clear n) x)
      (member_at lift lower clear vs n x).imports (stands n x at))

  pairs_are : (n : ℕ) (xs : List Adapter) → StandFrom n g.adapters xs
      → counted (parts_of lift lower clear n xs) ≡ pairs xs (M n xs)
  pairs_are n [] stand = refl
  pairs_are n (x ∷ xs) stand =
      let first = same_count n x (stand_first n g.adapters x xs stand) in
      let rest = pairs_are (n + 1) xs (stand_rest n g.adapters x xs stand) in
      λ i. (x, first i) ∷ rest i

  adapters_are : (n : ℕ) (xs : List Adapter) → adapters_in (parts_of lift lower clear n xs) ≡ xs
  adapters_are n [] = refl
  adapters_are n (x ∷ xs) = ap (λ ys. x ∷ ys) (adapters_are (n + 1) xs)

  is_member : (n : ℕ) (x : Adapter) → slice_get g.adapters n ≡ Some x → IsMember n x (member_at lift lower clear vs n x)
  is_member n x at =
      let means = has_value n x at in
      let parts = adapter_parts g (record { 0 = n }) x at means refl in
      record {
        number = refl;
        signature = ap signature_of parts.is
            ∙ side_signature g (function_mark x.lift_ty) (function_mark x.lower_ty) parts.lift parts.callee
            parts.of_lower;
        entities = entities_planned g (record { 0 = n }) x (vs n) (lift n) (lower n) (clear n) at means;
      }

  are_members : (n : ℕ) (xs : List Adapter) → StandFrom n g.adapters xs → AreMembers n xs (M n xs)
  are_members n [] stand = tt
  are_members n (x ∷ xs) stand = (
    is_member n x (stand_first n g.adapters x xs stand),
    are_members (n + 1) xs (stand_rest n g.adapters x xs stand),
  )

  -- the record of the module
  record_is : (n : ℕ) (xs : List Adapter) → StandFrom n g.adapters xs
      → record_for n (parts_of lift lower clear n xs) ≡ module_of signature_number (M n xs)
  record_is n xs stand =
      let pairs = pairs_are n xs stand in
      let adapters = adapters_are n xs in
      let long = length_parts lift lower clear n xs in
      (λ i. record_of_parts (all_entities n (pairs i)) (signatures_of (adapters i)) n (long i))
      ∙ record_planned n xs (M n xs) (are_members n xs stand)

  -- how many functions it imports
  pub functions_are : (n : ℕ) (xs : List Adapter) → StandFrom n g.adapters xs
      → functions_in n (parts_of lift lower clear n xs) ≡ said.functions_in signature_number (M n xs)
  functions_are n xs stand =
      ap (λ (r : ModuleRecord). count_by (imports_kind kind.Func) r.imports) (record_is n xs stand)

  -- what is said of its adapters
  said_from : (s f first n : ℕ) (xs : List Adapter) → StandFrom n g.adapters xs
      → map (adapter_view s) (with_functions f (records_from first n (parts_of lift lower clear n xs)))
      ≡ said.records_from s f first (M n xs)
  said_from s f first n [] stand = refl
  said_from s f first n (x ∷ xs) stand =
      let at = stand_first n g.adapters x xs stand in
      let own = recorded_alike g (record { 0 = n }) x (vs n) s f first at (has_value n x at) in
      let rest = said_from s (f + 1) (first + length (imports_of (lift n) (lower n) (clear n) x)) (n + 1) xs
      (stand_rest n g.adapters x xs stand)
      ∙ ap (λ k. said.records_from s (f + 1) (first + k) (M (n + 1) xs)) (same_count n x at) in
      λ i. cons_option (sym own i) [] ++ rest i

  -- the whole module
  pub is_module : (s n : ℕ) (xs : List Adapter) → StandFrom n g.adapters xs
      → IsModuleOf s (M n xs) (module_for n (parts_of lift lower clear n xs))
  is_module s n xs stand =
      let ps = parts_of lift lower clear n xs in
      let first = records_from 0 n ps in
      record {
        is = ap (λ (r : ModuleRecord). without_facts r (with_functions (functions_in n ps) first))
            (record_is n xs stand);
        said = ap (λ f. map (adapter_view s) (with_functions f first)) (functions_are n xs stand)
            ∙ said_from s (said.functions_in signature_number (M n xs)) 0 n xs stand;
      }

  -- what it is given has the values of its imports
  pub given_mean : (h : ComponentDfg) (n : ℕ) (xs : List Adapter) (args : List CoreDef) → StandFrom n g.adapters xs
      → AreGiven g h (parts_of lift lower clear n xs) args → AllZip (Means h) args (values_for (M n xs))
  given_mean h n [] args stand none = subst (λ ds. AllZip (Means h) ds []) (sym none) tt
  given_mean h n (x ∷ xs) args stand (own, rest, is, each, others) =
      let at = stand_first n g.adapters x xs stand in
      let imports = (member_at lift lower clear vs n x).imports in
      let first = stand_means g h x.lower_options.core_type (imports_of (lift n) (lower n) (clear n) x) imports own
      (stands n x at) each in
      let behind = given_mean h (n + 1) xs rest (stand_rest n g.adapters x xs stand) others in
      subst (λ ds. AllZip (Means h) ds (values_for (M n (x ∷ xs)))) (sym is)
      (subst (AllZip (Means h) (own ++ rest)) (sym (values_more (member_at lift lower clear vs n x) (M (n + 1) xs)))
      (zip_append (Means h) own rest (map (λ (i : planned.Import Mark). i.value) imports) (values_for (M (n + 1) xs))
      first behind))

module _ (lift lower : ℕ → FunctionFacts) (clear : ℕ → Bool) (vs : ℕ → CoreValue Mark) where
  -- its adapters are functions of it, one after the other
  pub functions_same : (m f n : ℕ) (xs : List Adapter)
      → functions_from m f (length xs) ≡ functions_for m f (members_from lift lower clear vs n xs)
  functions_same m f n [] = refl
  functions_same m f n (x ∷ xs) =
      ap (λ (ps : List (AdapterModuleId × EntityIndex)). (record { 0 = m }, entity_at kind.Func f) ∷ ps)
      (functions_same m (f + 1) (n + 1) xs)

  -- the numbers of members count up
  pub numbers_are : (n : ℕ) (xs : List Adapter)
      → numbers_of (members_from lift lower clear vs n xs) ≡ range_with_len n (length xs)
  numbers_are n [] = refl
  numbers_are n (x ∷ xs) = ap (λ ks. n ∷ ks) (numbers_are (n + 1) xs)

  pub members_append : (n : ℕ) (xs ys : List Adapter)
      → members_from lift lower clear vs n (xs ++ ys)
      ≡ members_from lift lower clear vs n xs ++ members_from lift lower clear vs (n + length xs) ys
  members_append n [] ys =
      let here : n ≡ n + 0 = omega arith in
      ap (λ k. members_from lift lower clear vs k ys) here
  members_append n (x ∷ xs) ys =
      let here : n + 1 + length xs ≡ n + suc (length xs) = omega arith in
      ap (λ ms. member_at lift lower clear vs n x ∷ ms)
      (members_append (n + 1) xs ys
      ∙ ap (λ k. members_from lift lower clear vs (n + 1) xs ++ members_from lift lower clear vs k ys) here)
