-- The adapters of a graph that stands for a reading, each with its types twice: as a number and whole.
use Rattle.std.proofs.Common.{◌≡◌, ◌+◌, ℕ, zero, suc, Bool, true, All, List, [], ◌∷◌, length, map, Some}
use Rattle.std.proofs.Common.{refl, sym, ap}
use Rattle.std.proofs.Common.{subst, ◌∙◌, arith}
use Rattle.std.specs.Prelude.{◌↔◌, slice_get, unwrap_or}
use Rattle.std.proofs.lemmas.List.Elements.{All-cons, All-nil}
use Rattle.std.proofs.lemmas.Option.{none-some, same_Some}
use Rattle.pc_types.specs.declared.module_record.ModuleRecord.{ModuleRecord}
use Rattle.pc_types_lists.specs.Types.{Types}
use Rattle.pc_spec_plan.specs.CoreValue as value
use Rattle.pc_spec_plan.specs.CoreValue.{CoreValue, map_value}
use Rattle.pc_trampoline.specs.declared.part.Mark.{Mark}
use Rattle.pc_parsed.specs.Mark as reading
use Rattle.pc_spec_reading.specs.Reading.{Reading}
use Rattle.pc_spec_wiring.specs.Opaque.{IsTransparentIn}
use Rattle.pc_spec_adapt.specs.Asked.{FunctionFacts}
use Rattle.pc_spec_adapt.specs.Import.{map_import}
use Rattle.pc_spec_adapt.specs.Planned.{planned}
use Rattle.pc_dfg.specs.declared.adapter.Adapter.{Adapter}
use Rattle.pc_dfg.specs.declared.core_def.CoreDef.TheVariants as def
use Rattle.pc_dfg.specs.declared.dfg.ComponentDfg.{ComponentDfg}
use Rattle.pc_dfg.specs.Means.{Means}
use Rattle.pc_adapt.specs.Planned.{is_wide}
use Rattle.pc_adapt_partition.specs.Adapted.{member_at, members_from}
use Rattle.pc_inline_canon.proofs.MarkLemmas.{value_twice}
use Rattle.pc_inline_state.specs.Fits.{Fits}
use Rattle.pc_inline_state.specs.Holds.{Numbered, ReadsAs, number_of, whole_of}
use Rattle.pc_inline_state.specs.Stands.{CoreStands}
use Rattle.pc_translate.specs.Adapted.{IsPlanned, NumberedMember, map_member, whole_adapter, with_numbers}
use Rattle.pc_translate.specs.Adapters.{lift_facts, lift_width, lower_facts, lower_width}
use Rattle.pc_adapt_marks.proofs.PlannedLemmas.{planned_mapped}

module _ (types : Types) (g : ComponentDfg) where
  abbrev pub Twice : Type 0
  Twice = CoreValue (Numbered types (Fits g))

  abbrev pub in_numbers : Twice → CoreValue Mark
  in_numbers x = map_value (number_of types (Fits g)) x

  abbrev pub in_whole : Twice → CoreValue reading.Mark
  in_whole x = map_value (whole_of types (Fits g)) x

  -- values that have each type twice: with numbers they are those of adapters from this number on, with whole types
  -- the reading's
  abbrev pub AreAdapters : (n : ℕ) → List (CoreValue reading.Mark) → List Twice → Type 0
  AreAdapters n [] [] = Unit {0}
  AreAdapters n [] (x ∷ xs) = ⊥
  AreAdapters n (v ∷ vs) [] = ⊥
  AreAdapters n (v ∷ vs) (x ∷ xs) =
      Means g (def.Adapter (record { 0 = n })) (in_numbers x) × (in_whole x ≡ v) × AreAdapters (n + 1) vs xs

  pub all_adapters : (n : ℕ) (vs : List (CoreValue reading.Mark))
      → ((k : ℕ) (v : CoreValue reading.Mark) → slice_get vs k ≡ Some v
      → CoreStands types g (def.Adapter (record { 0 = n + k })) v) → (xs : List Twice) × AreAdapters n vs xs
  all_adapters n [] each = ([], tt)
  all_adapters n (v ∷ vs) each =
      let here : n + 0 ≡ n = omega arith in
      let s = subst (λ j. CoreStands types g (def.Adapter (record { 0 = j })) v) here (each zero v refl) in
      let rest = all_adapters (n + 1) vs (λ k w at.
      let next : n + suc k ≡ n + 1 + k = omega arith in
      subst (λ j. CoreStands types g (def.Adapter (record { 0 = j })) w) next (each (suc k) w at)) in
      (s.numbered ∷ rest.0, (s.means, s.is, rest.1))

  -- with whole types they are the reading's
  pub wholes_are : (n : ℕ) (vs : List (CoreValue reading.Mark)) (xs : List Twice) → AreAdapters n vs xs
      → map in_whole xs ≡ vs
  wholes_are n [] [] are = refl
  wholes_are n [] (x ∷ xs) are = absurd are
  wholes_are n (v ∷ vs) [] are = absurd are
  wholes_are n (v ∷ vs) (x ∷ xs) are =
      let first = are.1 in
      let rest = wholes_are (n + 1) vs xs are.2 in
      λ i. first i ∷ rest i

  -- each stands for the adapter of its number
  pub adapter_means : (n : ℕ) (vs : List (CoreValue reading.Mark)) (xs : List Twice) → AreAdapters n vs xs → (k : ℕ)
      (x : Twice) → slice_get xs k ≡ Some x → Means g (def.Adapter (record { 0 = n + k })) (in_numbers x)
  adapter_means n [] [] are k x at = absurd (none-some x at)
  adapter_means n [] (y ∷ xs) are k x at = absurd are
  adapter_means n (v ∷ vs) [] are k x at = absurd are
  adapter_means n (v ∷ vs) (y ∷ xs) are zero x at =
      let here : n ≡ n + 0 = omega arith in
      subst (λ j. Means g (def.Adapter (record { 0 = j })) (in_numbers x)) here
      (subst (λ z. Means g (def.Adapter (record { 0 = n })) (in_numbers z)) (same_Some y x at) are.0)
  adapter_means n (v ∷ vs) (y ∷ xs) are (suc k) x at =
      let next : n + 1 + k ≡ n + suc k = omega arith in
      subst (λ j. Means g (def.Adapter (record { 0 = j })) (in_numbers x)) next
      (adapter_means (n + 1) vs xs are.2 k x at)

  -- and for the reading's
  pub adapter_whole : (n : ℕ) (vs : List (CoreValue reading.Mark)) (xs : List Twice) → AreAdapters n vs xs → (k : ℕ)
      (x : Twice) → slice_get xs k ≡ Some x → slice_get vs k ≡ Some (in_whole x)
  adapter_whole n [] [] are k x at = absurd (none-some x at)
  adapter_whole n [] (y ∷ xs) are k x at = absurd are
  adapter_whole n (v ∷ vs) [] are k x at = absurd are
  adapter_whole n (v ∷ vs) (y ∷ xs) are zero x at = ap Some (sym are.1 ∙ ap in_whole (same_Some y x at))
  adapter_whole n (v ∷ vs) (y ∷ xs) are (suc k) x at = adapter_whole (n + 1) vs xs are.2 k x at

  -- their values by number
  abbrev pub value_in : List Twice → ℕ → CoreValue Mark
  value_in xs a = unwrap_or (slice_get (map in_numbers xs) a) (value.flags 0)

  pub value_at : (xs : List Twice) (a : ℕ) (x : Twice) → slice_get xs a ≡ Some x → value_in xs a ≡ in_numbers x
  value_at [] a x at = absurd (none-some x at)
  value_at (y ∷ xs) zero x at = ap in_numbers (same_Some y x at)
  value_at (y ∷ xs) (suc a) x at = value_at xs a x at

module _ (types : Types) (ms : List ModuleRecord) (g : ComponentDfg) (r : Reading)
    (as_read : Numbered types (Fits g) → Numbered types (ReadsAs r.imported_resources))
    (number_kept : (m : Numbered types (Fits g)) → number_of types (ReadsAs r.imported_resources) (as_read m)
    ≡ number_of types (Fits g) m)
    (whole_kept : (m : Numbered types (Fits g)) → whole_of types (ReadsAs r.imported_resources) (as_read m)
    ≡ whole_of types (Fits g) m) (clear : ℕ → Bool) where
  abbrev number : Numbered types (ReadsAs r.imported_resources) → Mark
  number = number_of types (ReadsAs r.imported_resources)

  abbrev whole : Numbered types (ReadsAs r.imported_resources) → reading.Mark
  whole = whole_of types (ReadsAs r.imported_resources)

  -- the same value with numbers, and whole
  numbers_same : (x : Twice types g) → map_value number (map_value as_read x) ≡ in_numbers types g x
  numbers_same x =
      value_twice as_read number x ∙ (λ i. map_value (λ (m : Numbered types (Fits g)). number_kept m i) x)

  wholes_same : (x : Twice types g) → map_value whole (map_value as_read x) ≡ in_whole types g x
  wholes_same x =
      value_twice as_read whole x ∙ (λ i. map_value (λ (m : Numbered types (Fits g)). whole_kept m i) x)

  -- the adapter of a number as a member of a module, with what is planned for it
  abbrev member : ℕ → Twice types g → NumberedMember types ms r
  member n x = record {
    number = n;
    adapter = map_value as_read x;
    imports = planned (lift_facts (map_value whole (map_value as_read x)))
        (lower_facts (map_value whole (map_value as_read x))) (clear n)
        (lift_width ms r (map_value whole (map_value as_read x)))
        (lower_width ms r (map_value whole (map_value as_read x))) (map_value as_read x);
  }

  abbrev pub members : ℕ → List (Twice types g) → List (NumberedMember types ms r)
  members n [] = []
  members n (x ∷ xs) = member n x ∷ members (n + 1) xs

  -- where a number is told transparent exactly where its adapter is
  abbrev pub IsMarked : ℕ → Twice types g → Type 0
  IsMarked n x = (clear n ≡ true) ↔ IsTransparentIn r.log r.nodes (in_whole types g x)

  member_planned : (n : ℕ) (x : Twice types g) → IsMarked n x → IsPlanned types ms r (member n x)
  member_planned n x told = record {
    transparent = clear n;
    told = subst (λ v. (clear n ≡ true) ↔ IsTransparentIn r.log r.nodes v) (sym (wholes_same x)) told;
    imports = refl;
  }

  pub members_planned : (n : ℕ) (xs : List (Twice types g))
      → ((k : ℕ) (x : Twice types g) → slice_get xs k ≡ Some x → IsMarked (n + k) x)
      → All (IsPlanned types ms r) (members n xs)
  members_planned n [] told = All-nil (IsPlanned types ms r)
  members_planned n (x ∷ xs) told =
      let here : n + 0 ≡ n = omega arith in
      All-cons (IsPlanned types ms r) (member n x) (members (n + 1) xs)
      (member_planned n x (subst (λ j. IsMarked j x) here (told zero x refl)))
      (members_planned (n + 1) xs (λ k y at.
      let next : n + suc k ≡ n + 1 + k = omega arith in
      subst (λ j. IsMarked j y) next (told (suc k) y at)))

  pub members_whole : (n : ℕ) (xs : List (Twice types g))
      → map (whole_adapter types ms r) (members n xs) ≡ map (in_whole types g) xs
  members_whole n [] = refl
  members_whole n (x ∷ xs) =
      let first = wholes_same x in
      let rest = members_whole (n + 1) xs in
      λ i. first i ∷ rest i

  module _ (lift lower : ℕ → FunctionFacts) (vs : ℕ → CoreValue Mark) where
    -- an adapter is a member with numbers
    pub record IsSame (n : ℕ) (a : Adapter) (x : Twice types g) : Type 0 where
      pub value : vs n ≡ in_numbers types g x
      pub lift_same : lift n ≡ lift_facts (in_whole types g x)
      pub lower_same : lower n ≡ lower_facts (in_whole types g x)
      pub lift_wide : is_wide a.lift_options.data_model ≡ lift_width ms r (in_whole types g x)
      pub lower_wide : is_wide a.lower_options.data_model ≡ lower_width ms r (in_whole types g x)

    member_same : (n : ℕ) (a : Adapter) (x : Twice types g) → IsSame n a x
        → map_member number (member n x) ≡ member_at lift lower clear vs n a
    member_same n a x s =
        let w = wholes_same x in
        let v = numbers_same x ∙ sym s.value in
        let one = ap lift_facts w ∙ sym s.lift_same in
        let two = ap lower_facts w ∙ sym s.lower_same in
        let three = ap (lift_width ms r) w ∙ sym s.lift_wide in
        let four = ap (lower_width ms r) w ∙ sym s.lower_wide in
        let y = map_value as_read x in
        let imports : map (map_import number)
        (planned (lift_facts (map_value whole y)) (lower_facts (map_value whole y))
        (clear n) (lift_width ms r (map_value whole y)) (lower_width ms r (map_value whole y)) y)
        ≡ planned (lift n) (lower n) (clear n) (is_wide a.lift_options.data_model) (is_wide a.lower_options.data_model)
        (vs n) =
        sym (planned_mapped number (lift_facts (map_value whole y)) (lower_facts (map_value whole y)) (clear n)
        (lift_width ms r (map_value whole y)) (lower_width ms r (map_value whole y)) y)
        ∙ (λ i. planned (one i) (two i) (clear n) (three i) (four i) (v i)) in
        λ i. record { number = n; adapter = v i; imports = imports i }

    -- so are all, from a number on
    pub members_same : (n : ℕ) (adapters : List Adapter) (xs : List (Twice types g)) → length adapters ≡ length xs
        → ((k : ℕ) (a : Adapter) (x : Twice types g) → slice_get adapters k ≡ Some a → slice_get xs k ≡ Some x
        → IsSame (n + k) a x) → members_from lift lower clear vs n adapters ≡ with_numbers types ms r (members n xs)
    members_same n [] [] long each = refl
    members_same n [] (x ∷ xs) long each = absurd (omega (arith, long))
    members_same n (a ∷ adapters) [] long each = absurd (omega (arith, long))
    members_same n (a ∷ adapters) (x ∷ xs) long each =
        let here : n + 0 ≡ n = omega arith in
        let first = sym (member_same n a x (subst (λ j. IsSame j a x) here (each zero a x refl refl))) in
        let rest = members_same (n + 1) adapters xs (omega (arith, long)) (λ k b y at_b at_y.
        let next : n + suc k ≡ n + 1 + k = omega arith in
        subst (λ j. IsSame j b y) next (each (suc k) b y at_b at_y)) in
        λ i. first i ∷ rest i
