-- What is said of the adapters of a plan's modules is said of adapters that these are made for.
use Rattle.std.proofs.Common.{◌≡◌, ◌+◌, ◌&&◌, ℕ, zero, suc, Bool, true, false, List, [], ◌∷◌, ◌++◌, Option, None, Some}
use Rattle.std.proofs.Common.{◌⊎◌, All, refl, sym, ap, subst, ◌∙◌, arith, length, map, inl, inr}
use Rattle.std.specs.Prelude.{option_and_then, slice_get, if◌then◌else◌}
use Rattle.std.specs.List.{cons_option, flat_map}
use Rattle.std.proofs.lemmas.List.{append_assoc, length-map, map-append}
use Rattle.std.proofs.lemmas.List.Elements.{All-contains, All-contains_itself, All-head, All-tail, All-weaker}
use Rattle.std.proofs.lemmas.List.Elements.{Contains-append_cases}
use Rattle.std.proofs.lemmas.Option.{get_or_from_slice_get, none-some, same_Some, slice_get-get_or, slice_get_within}
use Rattle.std.specs.Prelude.{Contains}
use Rattle.pc_spec_plan.specs.CoreValue as value
use Rattle.pc_spec_plan.specs.CoreValue.{CoreValue, Options}
use Rattle.pc_spec_plan.specs.Machine.{adapter_from, is_counted}
use Rattle.pc_spec_plan.specs.PlanView as plan
use Rattle.pc_spec_plan.specs.PlanView.{PlanView}
use Rattle.pc_trampoline.specs.declared.part.Mark.{Mark}
use Rattle.pc_info.specs.declared.module.ModuleTranslation.{ModuleTranslation}
use Rattle.pc_info.specs.Modules.{adapter_view, adapters_view}
use Rattle.pc_spec_adapt.specs.Asked.{FunctionFacts}
use Rattle.pc_spec_adapt.specs.Import.{Import}
use Rattle.pc_spec_adapt.specs.Planned.{planned}
use Rattle.pc_spec_adapt.specs.Record.{Member, record_at, records_from, records_of}
use Rattle.pc_adapt_laws.specs.Found.{HoldFrom, are_counted, values_of}
use Rattle.pc_adapt_laws.proofs.FoundLemmas.{found}
use Rattle.pc_adapt_modules.specs.Entities.{signature_number}
use Rattle.pc_adapt_partition.specs.Adapted.{AreModulesOf, values_for}

-- what a list contains stands at a place of it
pub place_of : {A : Type 0} (xs : List A) (x : A) → Contains xs x → (k : ℕ) × (slice_get xs k ≡ Some x)
place_of xs x at = (at.0, slice_get-get_or xs at.0 x at.1 ∙ ap Some at.2)

pub contains_at : {A : Type 0} (xs : List A) (k : ℕ) (x : A) → slice_get xs k ≡ Some x → Contains xs x
contains_at xs k x at = (k, slice_get_within xs k x at, get_or_from_slice_get xs k x x at)

-- an item of a list that is mapped
pub map_at : {A B : Type 0} (f : A → B) (xs : List A) (k : ℕ) (x : A) → slice_get xs k ≡ Some x
    → slice_get (map f xs) k ≡ Some (f x)
map_at f [] k x at = absurd (none-some x at)
map_at f (y ∷ xs) zero x at = ap (λ z. Some (f z)) (same_Some y x at)
map_at f (y ∷ xs) (suc k) x at = map_at f xs k x at

pub behind_map : {A B : Type 0} (f : A → B) (xs : List A) (k : ℕ) (y : B) → slice_get (map f xs) k ≡ Some y
    → (x : A) × (slice_get xs k ≡ Some x) × (f x ≡ y)
behind_map f [] k y at = absurd (none-some y at)
behind_map f (x ∷ xs) zero y at = (x, refl, same_Some (f x) y at)
behind_map f (x ∷ xs) (suc k) y at = behind_map f xs k y at

-- behind other items
pub get_behind : {A : Type 0} (xs ys : List A) (k : ℕ) → slice_get (xs ++ ys) (length xs + k) ≡ slice_get ys k
get_behind [] ys k = let here : 0 + k ≡ k = omega arith in ap (slice_get ys) here
get_behind (x ∷ xs) ys k =
    let here : suc (length xs) + k ≡ suc (length xs + k) = omega arith in
    ap (slice_get ((x ∷ xs) ++ ys)) here ∙ get_behind xs ys k

pub get_before : {A : Type 0} (xs ys : List A) (k : ℕ) (x : A) → slice_get xs k ≡ Some x → slice_get (xs ++ ys) k ≡ Some x
get_before [] ys k x at = absurd (none-some x at)
get_before (y ∷ xs) ys zero x at = at
get_before (y ∷ xs) ys (suc k) x at = get_before xs ys k x at

-- the items of a group are items of all
pub in_all : {A : Type 0} (groups : List (List A)) (k : ℕ) (xs : List A) (j : ℕ) (x : A) → slice_get groups k ≡ Some xs
    → slice_get xs j ≡ Some x → (n : ℕ) × (slice_get (flat_map (λ (g : List A). g) groups) n ≡ Some x)
in_all [] k xs j x at at_j = absurd (none-some xs at)
in_all {A} (g ∷ groups) zero xs j x at at_j =
    (j, get_before g (flat_map (λ (h : List A). h) groups) j x (ap (λ ys. slice_get ys j) (same_Some g xs at) ∙ at_j))
in_all {A} (g ∷ groups) (suc k) xs j x at at_j =
    let later = in_all groups k xs j x at at_j in
    (length g + later.0, get_behind g (flat_map (λ (h : List A). h) groups) later.0 ∙ later.1)

-- so what is true of all is true of those of a group
pub all_in : {A : Type 0} (P : A → Type 0) (groups : List (List A)) (k : ℕ) (xs : List A) → slice_get groups k ≡ Some xs
    → All P (flat_map (λ (g : List A). g) groups) → All P xs
all_in {A} P groups k xs at all = All-weaker (Contains xs) P one xs (All-contains_itself xs)
  where
    one : (x : A) → Contains xs x → P x
    one x held =
        let place = place_of xs x held in
        let whole = in_all groups k xs place.0 x at place.1 in
        let items = flat_map (λ (g : List A). g) groups in
        All-contains P items x all (contains_at items whole.0 x whole.1)

-- the one item of a list, if it has one
only : {A : Type 0} (o : Option A) (x : A) → Contains (cons_option o []) x → o ≡ Some x
only None x at = absurd (none-some x (place_of [] x at).1)
only (Some y) x at = let here = place_of (y ∷ []) x at in by here.0 here.1
  where
    by : (k : ℕ) → slice_get (y ∷ []) k ≡ Some x → Some y ≡ Some x
    by zero is = is
    by (suc k) is = absurd (none-some x is)

-- the values of what is imported for the first of some members come first
values_more : (x : Member Mark) (xs : List (Member Mark))
    → values_for (x ∷ xs) ≡ values_of x.imports ++ values_for xs
values_more x xs =
    map-append (λ (i : Import Mark). i.value) x.imports (flat_map (λ (y : Member Mark). y.imports) xs)

-- what is planned for a member of a module is imported for it
pub record IsMember (x : Member Mark) : Type 0 where
  pub lift_facts : FunctionFacts
  pub lower_facts : FunctionFacts
  pub is_transparent : Bool
  pub lift_wide : Bool
  pub lower_wide : Bool
  pub imports : x.imports ≡ planned lift_facts lower_facts is_transparent lift_wide lower_wide x.adapter

module _ (p : PlanView Mark) (args : List (CoreValue Mark)) where
  -- where an adapter is found, the component instances of both sides are counted
  lift_counted : (b : Bool) (f : Options Mark → Option (CoreValue Mark)) (o : Option (Options Mark)) (v : CoreValue Mark)
      → option_and_then f (if b then o else None) ≡ Some v → b ≡ true
  lift_counted true f o v is = refl
  lift_counted false f o v is = absurd (none-some v is)

  lower_counted : (b : Bool) (f : Options Mark → Options Mark → Option (CoreValue Mark)) (o : Option (Options Mark))
      (l : Option (Options Mark)) (v : CoreValue Mark)
      → option_and_then (λ x. option_and_then (f x) (if b then o else None)) l ≡ Some v → b ≡ true
  lower_counted true f o l v is = refl
  lower_counted false f o None v is = absurd (none-some v is)
  lower_counted false f o (Some x) v is = absurd (none-some v is)

  counted : (m f first n : ℕ) (x v : CoreValue Mark) (r : plan.AdapterRecord Mark) → record_at m f first n x ≡ Some r
      → adapter_from p args r ≡ Some v → are_counted p x ≡ true
  counted m f first n (value.adapter ty (value.options c e a s cb pr o) ty2 (value.options c2 e2 a2 s2 cb2 pr2 o2) callee)
      v r is found =
      let same = same_Some _ r is in
      let whole = ap (adapter_from p args) same ∙ found in
      let one = lift_counted (is_counted p c) _ _ v whole in
      let two = lower_counted (is_counted p c2) _ _ _ v whole in
      λ i. one i && two i
  counted m f first n (value.exported i item) v r is found = refl
  counted m f first n (value.lowered path ty o) v r is found = refl
  counted m f first n (value.builtin i c ps) v r is found = refl
  counted m f first n (value.intrinsic i) v r is found = refl
  counted m f first n (value.flags c) v r is found = refl
  counted m f first n (value.helper i ps) v r is found = refl

  -- what is said of members stands for one of them, where the arguments hold what is imported for them
  pub said_one : (m f first : ℕ) (xs : List (Member Mark)) → All IsMember xs → HoldFrom args first (values_for xs)
      → (r : plan.AdapterRecord Mark) → Contains (records_from m f first xs) r → (v : CoreValue Mark)
      → adapter_from p args r ≡ Some v → (k : ℕ) × (x : Member Mark) × (slice_get xs k ≡ Some x) × (x.adapter ≡ v)
  said_one m f first [] all hold r at v is = absurd (none-some r (place_of [] r at).1)
  said_one m f first (x ∷ xs) all hold r at v is =
      by (λ hold_rest later. said_one m (f + 1) (first + length x.imports) xs (All-tail IsMember x xs all) hold_rest r
      later v is)
      (Contains-append_cases (cons_option (record_at m f first x.number x.adapter) [])
      (records_from m (f + 1) (first + length x.imports) xs) r at)
    where
      own : HoldFrom args first (values_of x.imports)
      own i w at_i =
          hold i w (ap (λ ws. slice_get ws i) (values_more x xs)
          ∙ get_before (values_of x.imports) (values_for xs) i w at_i)

      others : HoldFrom args (first + length x.imports) (values_for xs)
      others i w at_i =
          let many = length-map x.imports (λ (i : Import Mark). i.value) in
          let place : first + length x.imports + i ≡ first + (length (values_of x.imports) + i) =
          omega (arith, many) in
          ap (slice_get args) place
          ∙ hold (length (values_of x.imports) + i) w
          (ap (λ ws. slice_get ws (length (values_of x.imports) + i)) (values_more x xs)
          ∙ get_behind (values_of x.imports) (values_for xs) i
          ∙ at_i)

      this : IsMember x
      this = All-head IsMember x xs all

      by : (HoldFrom args (first + length x.imports) (values_for xs)
          → Contains (records_from m (f + 1) (first + length x.imports) xs) r
          → (k : ℕ) × (y : Member Mark) × (slice_get xs k ≡ Some y) × (y.adapter ≡ v))
          → Contains (cons_option (record_at m f first x.number x.adapter) []) r
          ⊎ Contains (records_from m (f + 1) (first + length x.imports) xs) r
          → (k : ℕ) × (y : Member Mark) × (slice_get (x ∷ xs) k ≡ Some y) × (y.adapter ≡ v)
      by rest (inl here) =
          let said = only (record_at m f first x.number x.adapter) r here in
          let held = subst (λ (is : List (Import Mark)). HoldFrom args first (values_of is)) this.imports own in
          let stands = found p args m f first x.number this.lift_facts this.lower_facts this.is_transparent
          this.lift_wide this.lower_wide x.adapter r held (counted m f first x.number x.adapter v r said is) said in
          (0, x, refl, same_Some x.adapter v (sym stands ∙ is))
      by rest (inr later) = let one = rest others later in (suc one.0, one.1, one.2, one.3)

-- what is said of adapters is said of those of a module of theirs
pub record IsSaidOf (s : ℕ) (groups : List (List (Member Mark))) (r : plan.AdapterRecord Mark) : Type 0 where
  pub place : ℕ
  pub members : List (Member Mark)
  pub at : slice_get groups place ≡ Some members
  pub number : r.core_module ≡ s + place
  pub said : Contains (records_of signature_number (s + place) members) r

pub said_where : (s : ℕ) (groups : List (List (Member Mark))) (added : List ModuleTranslation)
    → AreModulesOf s groups added → (r : plan.AdapterRecord Mark) → Contains (adapters_view s added) r
    → IsSaidOf s groups r
said_where s [] [] are r at = absurd (none-some r (place_of [] r at).1)
said_where s [] (n ∷ added) are r at = absurd are
said_where s (xs ∷ groups) [] are r at = absurd are
said_where s (xs ∷ groups) (n ∷ added) are r at =
    by (said_where (s + 1) groups added are.1 r)
    (Contains-append_cases (map (adapter_view s) n.adapters) (adapters_view (s + 1) added) r at)
  where
    by : (Contains (adapters_view (s + 1) added) r → IsSaidOf (s + 1) groups r)
        → Contains (map (adapter_view s) n.adapters) r ⊎ Contains (adapters_view (s + 1) added) r
        → IsSaidOf s (xs ∷ groups) r
    by rest (inl here) =
        let place = place_of (map (adapter_view s) n.adapters) r here in
        let said = behind_map (adapter_view s) n.adapters place.0 r place.1 in
        let number : r.core_module ≡ s = ap (λ (x : plan.AdapterRecord Mark). x.core_module) (sym said.2) in
        let first : s ≡ s + 0 = omega arith in
        record {
          place = 0;
          members = xs;
          at = refl;
          number = number ∙ first;
          said = subst (λ k. Contains (records_of signature_number k xs) r) first
              (subst (λ rs. Contains rs r) are.0.said here);
        }
    by rest (inr behind) =
        let later = rest behind in
        let next : s + 1 + later.place ≡ s + suc later.place = omega arith in
        record {
          place = suc later.place;
          members = later.members;
          at = later.at;
          number = later.number ∙ next;
          said = subst (λ k. Contains (records_of signature_number k later.members) r) next later.said;
        }

-- what has no adapters says of none
pub nothing_said : (n : ℕ) (ms : List ModuleTranslation) → All (λ (m : ModuleTranslation). m.adapters ≡ []) ms
    → adapters_view n ms ≡ []
nothing_said n [] all = refl
nothing_said n (m ∷ ms) all =
    let own = All-head (λ (x : ModuleTranslation). x.adapters ≡ []) m ms all in
    let rest = nothing_said (n + 1) ms (All-tail (λ (x : ModuleTranslation). x.adapters ≡ []) m ms all) in
    λ i. map (adapter_view n) (own i) ++ rest i

pub views_append : (n : ℕ) (ms ns : List ModuleTranslation)
    → adapters_view n (ms ++ ns) ≡ adapters_view n ms ++ adapters_view (n + length ms) ns
views_append n [] ns =
    let here : n ≡ n + 0 = omega arith in
    ap (λ k. adapters_view k ns) here
views_append n (m ∷ ms) ns =
    let own = map (adapter_view n) m.adapters in
    let here : n + 1 + length ms ≡ n + suc (length ms) = omega arith in
    ap (λ rs. own ++ rs)
    (views_append (n + 1) ms ns ∙ ap (λ k. adapters_view (n + 1) ms ++ adapters_view k ns) here)
    ∙ sym (append_assoc own (adapters_view (n + 1) ms) (adapters_view (n + suc (length ms)) ns))
