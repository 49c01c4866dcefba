-- The places of a graph's adapters are right: the module of a group defines a function for each of its adapters.
use Rattle.std.proofs.Common.{◌≡◌, ◌<◌, ◌+◌, ◌++◌, ◌⊎◌, inl, inr, ℕ, zero, suc, Bool, true, false, All, List, [], ◌∷◌, length}
use Rattle.std.proofs.Common.{map, cond, None, Some, refl, sym, ap, subst, ◌∙◌, arith, if◌then◌else◌}
use Rattle.std.specs.Prelude.{count_by, slice_get}
use Rattle.std.specs.List.{cons_option, filter_map}
use Rattle.std.proofs.lemmas.Bool.{lt-ltb}
use Rattle.std.proofs.lemmas.List.{length-map}
use Rattle.std.proofs.lemmas.List.Elements.{All-cons, All-head, All-nil, All-tail}
use Rattle.std.proofs.lemmas.List.Sums.{sum_by-cons}
use Rattle.std.proofs.lemmas.Option.{none-some, same_Some, slice_get_past, slice_get_within}
use Rattle.pc_numbers.specs.declared.component_entity.StaticModuleIndex.{StaticModuleIndex}
use Rattle.pc_numbers.specs.declared.entity_index.EntityIndex.{EntityIndex}
use Rattle.pc_types.specs.declared.parsed.CoreEntity.{CoreEntity}
use Rattle.pc_types.specs.declared.parsed.CoreKind.{CoreKind}
use Rattle.pc_types.specs.declared.parsed.CoreKind.TheVariants as kind
use Rattle.pc_types.specs.Record.{entity_at, has_entity, import_place, imports_kind, places_from}
use Rattle.pc_spec_plan.specs.CoreValue as value
use Rattle.pc_spec_plan.specs.CoreValue.{CoreValue, Options}
use Rattle.pc_trampoline.specs.declared.part.Mark.{Mark}
use Rattle.pc_info.specs.declared.module.ModuleTranslation.{ModuleTranslation}
use Rattle.pc_info.specs.Modules.{function_mark, module_view}
use Rattle.pc_spec_adapt.specs.Asked.{FunctionFacts}
use Rattle.pc_spec_adapt.specs.Record.{Member, functions_in, module_of, signature_of}
use Rattle.pc_dfg.specs.declared.adapter.Adapter.{Adapter}
use Rattle.pc_dfg.specs.declared.core_def.CoreDef.{CoreDef}
use Rattle.pc_dfg.specs.declared.dfg.ComponentDfg.{ComponentDfg}
use Rattle.pc_dfg.specs.declared.ids.AdapterModuleId.{AdapterModuleId}
use Rattle.pc_adapt.proofs.PlannedLemmas.{parts_of}
use Rattle.pc_adapt.specs.Imports.{is_transparent}
use Rattle.pc_adapt_modules.specs.Entities.{signature_number}
use Rattle.pc_adapt_partition.specs.Adapted.{AreAdapted, AreGivenTo, AreModulesOf, functions_for, functions_of, member_at}
use Rattle.pc_adapt_partition.specs.Adapted.{members_from}
use Rattle.pc_adapt_partition.specs.Wired.{HaveValues}
use Rattle.pc_analysis_contexts.specs.Recorded.{AreDefined}
use Rattle.pc_translate.proofs.SaidLemmas.{all_in, get_behind, map_at}

-- there are as many places of imports of a kind as imports of it
places_long : (k : CoreKind) (first : ℕ) (is : List (List ℕ × List ℕ × CoreEntity))
    → length (places_from k first is) ≡ count_by (imports_kind k) is
places_long k first [] = refl
places_long k first (i ∷ is) =
    by (imports_kind k i) ∙ ap (λ n. cond (imports_kind k i) 1 0 + n) (places_long k (first + 1) is)
    ∙ sym (sum_by-cons (λ (x : List ℕ × List ℕ × CoreEntity). cond (imports_kind k x) 1 0) i is)
  where
    by : (b : Bool)
        → length (if b then first ∷ places_from k (first + 1) is else places_from k (first + 1) is)
        ≡ cond b 1 0 + length (places_from k (first + 1) is)
    by true = omega arith
    by false = omega arith

-- an item of two lists is one of the first or of the second
either : {A : Type 0} (xs ys : List A) (k : ℕ) (x : A) → slice_get (xs ++ ys) k ≡ Some x
    → (slice_get xs k ≡ Some x) ⊎ ((n : ℕ) × (slice_get ys n ≡ Some x))
either [] ys k x at = inr (k, at)
either (y ∷ xs) ys zero x at = inl at
either (y ∷ xs) ys (suc k) x at = either xs ys k x at

-- a member of a module has a core signature, being an adapter
abbrev IsSigned : Member Mark → Type 0
IsSigned x = (s : Mark) × (signature_of x.adapter ≡ Some s)

-- so the module defines a function for each
many_functions : (xs : List (Member Mark)) → All IsSigned xs
    → length (map signature_number (filter_map (λ (x : Member Mark). signature_of x.adapter) xs)) ≡ length xs
many_functions xs all =
    length-map (filter_map (λ (x : Member Mark). signature_of x.adapter) xs) signature_number ∙ each xs all
  where
    each : (ys : List (Member Mark)) → All IsSigned ys
        → length (filter_map (λ (x : Member Mark). signature_of x.adapter) ys) ≡ length ys
    each [] signed = refl
    each (y ∷ ys) signed =
        let own = All-head IsSigned y ys signed in
        ap (λ o. length (cons_option o (filter_map (λ (x : Member Mark). signature_of x.adapter) ys))) own.1
        ∙ ap suc (each ys (All-tail IsSigned y ys signed))

-- where an adapter stands: in which group, and there at which place
record Stands (m : ℕ) (groups : List (List (Member Mark))) (p : AdapterModuleId × EntityIndex) : Type 0 where
  group : ℕ
  members : List (Member Mark)
  at : slice_get groups group ≡ Some members
  place : ℕ
  within : place < length members
  number : p.0.0 ≡ m + group
  function : p.1 ≡ entity_at kind.Func (functions_in signature_number members + place)

record StandsAt (m f : ℕ) (xs : List (Member Mark)) (p : AdapterModuleId × EntityIndex) : Type 0 where
  place : ℕ
  within : place < length xs
  number : p.0.0 ≡ m
  function : p.1 ≡ entity_at kind.Func (f + place)

stands_at : (m f : ℕ) (xs : List (Member Mark)) (k : ℕ) (p : AdapterModuleId × EntityIndex)
    → slice_get (functions_for m f xs) k ≡ Some p → StandsAt m f xs p
stands_at m f [] k p at = absurd (none-some p at)
stands_at m f (x ∷ xs) zero p at =
    let same = same_Some _ p at in
    let here : f ≡ f + 0 = omega arith in
    record {
      place = 0;
      within = omega arith;
      number = ap (λ (q : AdapterModuleId × EntityIndex). q.0.0) (sym same);
      function = ap (λ (q : AdapterModuleId × EntityIndex). q.1) (sym same) ∙ ap (entity_at kind.Func) here;
    }
stands_at m f (x ∷ xs) (suc k) p at =
    let later = stands_at m (f + 1) xs k p at in
    let here : f + 1 + later.place ≡ f + suc later.place = omega arith in
    record {
      place = suc later.place;
      within = let below = later.within in omega (arith, below);
      number = later.number;
      function = later.function ∙ ap (entity_at kind.Func) here;
    }

stands : (m : ℕ) (groups : List (List (Member Mark))) (k : ℕ) (p : AdapterModuleId × EntityIndex)
    → slice_get (functions_of m groups) k ≡ Some p → Stands m groups p
stands m [] k p at = absurd (none-some p at)
stands m (xs ∷ groups) k p at =
    by (λ n at_n. stands (m + 1) groups n p at_n)
    (either (functions_for m (functions_in signature_number xs) xs) (functions_of (m + 1) groups) k p at)
  where
    by : ((n : ℕ) → slice_get (functions_of (m + 1) groups) n ≡ Some p → Stands (m + 1) groups p)
        → (slice_get (functions_for m (functions_in signature_number xs) xs) k ≡ Some p)
        ⊎ ((n : ℕ) × (slice_get (functions_of (m + 1) groups) n ≡ Some p))
        → Stands m (xs ∷ groups) p
    by rest (inl own) =
        let it = stands_at m (functions_in signature_number xs) xs k p own in
        let number = it.number in
        record {
          group = 0;
          members = xs;
          at = refl;
          place = it.place;
          within = it.within;
          number = omega (arith, number);
          function = it.function;
        }
    by rest (inr other) =
        let later = rest other.0 other.1 in
        let number = later.number in
        record {
          group = suc later.group;
          members = later.members;
          at = later.at;
          place = later.place;
          within = later.within;
          number = omega (arith, number);
          function = later.function;
        }

-- the module of a group, with its number
made_at : (h : ComponentDfg) (s : ℕ) (groups : List (List (Member Mark))) (made : List (StaticModuleIndex × List CoreDef))
    (k : ℕ) (members : List (Member Mark)) → AreGivenTo h s groups made → slice_get groups k ≡ Some members
    → (x : StaticModuleIndex × List CoreDef) × (slice_get made k ≡ Some x) × (x.0.0 ≡ s + k)
made_at h s [] [] k members given at = absurd (none-some members at)
made_at h s [] (x ∷ made) k members given at = absurd given
made_at h s (xs ∷ groups) [] k members given at = absurd given
made_at h s (xs ∷ groups) (x ∷ made) zero members given at =
    let number = given.0 in
    (x, refl, omega (arith, number))
made_at h s (xs ∷ groups) (x ∷ made) (suc k) members given at =
    let later = made_at h (s + 1) groups made k members given.2 at in
    let number = later.2 in
    (later.0, later.1, omega (arith, number))

module_at : (s : ℕ) (groups : List (List (Member Mark))) (added : List ModuleTranslation) (k : ℕ)
    (members : List (Member Mark)) → AreModulesOf s groups added → slice_get groups k ≡ Some members
    → (n : ModuleTranslation) × (slice_get added k ≡ Some n) × (n.«module» ≡ module_of signature_number members)
module_at s [] [] k members are at = absurd (none-some members at)
module_at s [] (n ∷ added) k members are at = absurd are
module_at s (xs ∷ groups) [] k members are at = absurd are
module_at s (xs ∷ groups) (n ∷ added) zero members are at =
    (n, refl, ap module_view are.0.is ∙ ap (module_of signature_number) (same_Some xs members at))
module_at s (xs ∷ groups) (n ∷ added) (suc k) members are at = module_at (s + 1) groups added k members are.1 at

-- a function of a module behind those that it imports is defined there
own_function : (members : List (Member Mark)) (place : ℕ)
    → import_place (module_of signature_number members)
    (entity_at kind.Func (functions_in signature_number members + place))
    ≡ None
own_function members place =
    slice_get_past (places_from kind.Func 0 (module_of signature_number members).imports)
    (functions_in signature_number members + place)
    (let long = places_long kind.Func 0 (module_of signature_number members).imports in omega (arith, long))

has_function : (members : List (Member Mark)) (place : ℕ) → All IsSigned members → place < length members
    → has_entity (module_of signature_number members)
    (entity_at kind.Func (functions_in signature_number members + place))
    ≡ true
has_function members place all within =
    let many = many_functions members all in
    lt-ltb (functions_in signature_number members + place)
    (functions_in signature_number members + length (module_of signature_number members).funcs)
    (omega (arith, many, within))

module _ (lift lower : ℕ → FunctionFacts) (transparent : ℕ → Bool) (vs : ℕ → CoreValue Mark) where
  -- adapters have core signatures
  signed_from : (n : ℕ) (xs : List Adapter)
      → ((k : ℕ) (x : Adapter) → slice_get xs k ≡ Some x → (s : Mark) × (signature_of (vs (n + k)) ≡ Some s))
      → All IsSigned (members_from lift lower transparent vs n xs)
  signed_from n [] each = All-nil IsSigned
  signed_from n (x ∷ xs) each =
      let here : n + 0 ≡ n = omega arith in
      let first = each 0 x refl in
      All-cons IsSigned (member_at lift lower transparent vs n x) (members_from lift lower transparent vs (n + 1) xs)
      (first.0, ap (λ k. signature_of (vs k)) (sym here) ∙ first.1)
      (signed_from (n + 1) xs (λ k y at.
      let next : n + 1 + k ≡ n + suc k = omega arith in
      let later = each (suc k) y at in
      (later.0, ap (λ j. signature_of (vs j)) next ∙ later.1)))

signed : (ty ty2 : Mark) (o p : Options Mark) (callee : CoreValue Mark)
    → (s : Mark) × (signature_of (value.adapter ty o ty2 p callee) ≡ Some s)
signed ty ty2 o (value.options c encoding is_async s callback post_return model) callee = (s, refl)

-- each place of an adapter is right
pub are_defined : (lift lower : ℕ → FunctionFacts) (vs : ℕ → CoreValue Mark) (g h : ComponentDfg)
    (ms ns : List ModuleTranslation) → HaveValues g vs → AreAdapted lift lower vs g h ms ns
    → AreDefined h (map module_view ns)
are_defined lift lower vs g h ms ns have adapted a p at =
    let it = stands 0 adapted.groups a p (ap (λ l. slice_get l a) (sym adapted.places) ∙ at) in
    let made = made_at h (length ms) adapted.groups h.adapter_modules it.group it.members adapted.given it.at in
    let added = module_at (length ms) adapted.groups adapted.added it.group it.members adapted.are it.at in
    let number = it.number in
    let here : p.0.0 ≡ it.group = omega (arith, number) in
    let in_all = ap (slice_get ns) made.2 ∙ ap (λ l. slice_get l (length ms + it.group)) adapted.modules
    ∙ get_behind ms adapted.added it.group ∙ added.1 in
    let all = all_in IsSigned adapted.groups it.group it.members it.at
    (subst (All IsSigned) (sym adapted.all) all_signed) in
    record {
      made = made.0;
      core_module = added.0.«module»;
      there = ap (slice_get h.adapter_modules) here ∙ made.1;
      held = map_at module_view ns made.0.0.0 added.0 in_all;
      own = ap (λ r. import_place r p.1) added.2 ∙ ap (import_place (module_of signature_number it.members)) it.function
          ∙ own_function it.members it.place;
      has = ap (λ r. has_entity r p.1) added.2 ∙ ap (has_entity (module_of signature_number it.members)) it.function
          ∙ has_function it.members it.place all it.within;
    }
  where
    one : (k : ℕ) (x : Adapter) → slice_get g.adapters k ≡ Some x → (s : Mark) × (signature_of (vs (0 + k)) ≡ Some s)
    one k x at_k =
        let parts = parts_of g (record { 0 = k }) x at_k (have k (slice_get_within g.adapters k x at_k)) refl in
        let is = signed (function_mark x.lift_ty) (function_mark x.lower_ty) parts.lift parts.lower parts.callee in
        let here : 0 + k ≡ k = omega arith in
        (is.0, ap (λ j. signature_of (vs j)) here ∙ ap signature_of parts.is ∙ is.1)

    all_signed : All IsSigned (members_from lift lower (is_transparent g) vs 0 g.adapters)
    all_signed = signed_from lift lower (is_transparent g) vs 0 g.adapters one
