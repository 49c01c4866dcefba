-- Modules that are made for the runs of a split, as `pc_adapt_modules` has them.
use Rattle.std.proofs.Common.{Bool, ◌≡◌, ◌<◌, ◌≤◌, inl, inr, ℕ, zero, suc, ◌+◌, ◌-◌, List, [], ◌∷◌, ◌++◌, length, refl}
use Rattle.std.proofs.Common.{sym}
use Rattle.std.proofs.Common.{ap, subst, ◌∙◌, arith, length-append}
use Rattle.std.specs.Prelude.{Some, None, slice_get}
use Rattle.std.specs.List.{range_with_len}
use Rattle.std.proofs.lemmas.Bool.{cases_lt}
use Rattle.std.proofs.lemmas.Option.{slice_get_within}
use Rattle.pc_numbers.specs.declared.component_entity.StaticModuleIndex.{StaticModuleIndex}
use Rattle.pc_numbers.specs.declared.entity_index.EntityIndex.{EntityIndex}
use Rattle.pc_info.specs.declared.module.ModuleTranslation.{ModuleTranslation}
use Rattle.pc_dfg.specs.declared.adapter.Adapter.{Adapter}
use Rattle.pc_dfg.specs.declared.core_def.CoreDef.{CoreDef}
use Rattle.pc_dfg.specs.declared.dfg.ComponentDfg.{ComponentDfg}
use Rattle.pc_dfg.specs.declared.ids.AdapterModuleId.{AdapterModuleId}
use Rattle.pc_dfg.specs.Held.{AreHeld}
use Rattle.pc_dfg.specs.Names.{in_adapter, OneNames, Thing}
use Rattle.pc_dfg.specs.Ordered.{IsOrdered}
use Rattle.pc_dfg_linearize.specs.Grouped.{IsGrouped}
use Rattle.pc_spec_adapt.specs.Asked.{FunctionFacts}
use Rattle.pc_spec_adapt.specs.Split.{HasAt, IsFewest}
use Rattle.pc_adapt_groups.specs.Lengths.{runs_from}
use Rattle.pc_adapt_groups.specs.Needs.{Needs}
use Rattle.pc_adapt_modules.specs.Modules.{AreModules}
use Rattle.pc_adapt_modules.proofs.GroupedLemmas.{grouped}
use Rattle.pc_adapt_partition.specs.Made.{AreArguments, Makes, cut, sum_of}
use Rattle.pc_adapt_partition.specs.Parts.{functions_from, functions_in, parts_of, places_of, slice}
use Rattle.pc_adapt_partition.proofs.CutLemmas.{held_cut, held_in}
use Rattle.pc_adapt_partition.proofs.GivenLemmas.{given_names}
use Rattle.pc_adapt_partition.proofs.PartLemmas.{length_slice, slice_at}
use Rattle.pc_adapt_partition.proofs.SplitLemmas.{all_lengths, in_range}

pub no_item : {A : Type 0} (x : A) → None ≡ Some x → ⊥
no_item x e = grind (arith, e)

pub same_item : {A : Type 0} {x y : A} → Some x ≡ Some y → x ≡ y
same_item e = grind (arith, e)

-- a place in two lists is in the first, or as far in the second
pub get_right : {A : Type 0} (xs ys : List A) (k : ℕ) → slice_get (xs ++ ys) (length xs + k) ≡ slice_get ys k
get_right [] ys k =
    let here : 0 + k ≡ k = omega arith in
    ap (slice_get ys) here
get_right (x ∷ xs) ys k =
    let here : suc (length xs) + k ≡ suc (length xs + k) = omega arith in
    ap (slice_get (x ∷ xs ++ ys)) here ∙ get_right xs ys k

pub get_left : {A : Type 0} (xs ys : List A) (k : ℕ) → k < length xs → slice_get (xs ++ ys) k ≡ slice_get xs k
get_left [] ys k none = absurd (omega (arith, none))
get_left (x ∷ xs) ys zero some = refl
get_left (x ∷ xs) ys (suc k) some = get_left xs ys k (omega (arith, some))

-- functions of a module are in it
pub function_in : (m f k a : ℕ) (p : AdapterModuleId × EntityIndex) → slice_get (functions_from m f k) a ≡ Some p
    → p.0.0 ≡ m
function_in m f zero a p at = absurd (no_item p at)
function_in m f (suc k) zero p at = ap (λ (q : AdapterModuleId × EntityIndex). q.0.0) (sym (same_item at))
function_in m f (suc k) (suc a) p at = function_in m (f + 1) k a p at

pub length_functions : (m f k : ℕ) → length (functions_from m f k) ≡ k
length_functions m f zero = refl
length_functions m f (suc k) = ap suc (length_functions m (f + 1) k)

-- a later run
has_later : (run : List ℕ) (runs : List (List ℕ)) (r a : ℕ) → HasAt runs r a → HasAt (run ∷ runs) (suc r) a
has_later run runs r a has = has

module _ (lift lower : ℕ → FunctionFacts) (clear : ℕ → Bool) where
  pub length_places : (m n : ℕ) (gs : List (List Adapter)) → length (places_of lift lower clear m n gs) ≡ held_in gs
  length_places m n [] = refl
  length_places m n (xs ∷ gs) =
      let f = functions_in n (parts_of lift lower clear n xs) in
      omega (
        arith,
        length-append (functions_from m f (length xs)) (places_of lift lower clear (m + 1) (n + length xs) gs),
        length_functions m f (length xs),
        length_places (m + 1) (n + length xs) gs,
      )

  -- an adapter is in the module of its run
  placed : (m n : ℕ) (ls : List ℕ) (all : List Adapter) (a : ℕ) (p : AdapterModuleId × EntityIndex)
      → n + sum_of ls ≤ length all → slice_get (places_of lift lower clear m n (cut ls n all)) a ≡ Some p
      → (r : ℕ) × (p.0.0 ≡ m + r) × HasAt (runs_from n ls) r (n + a)
  placed m n [] all a p few at = absurd (no_item p at)
  placed m n (l ∷ ls) all a p few at =
      let xs = slice n l all in
      let long = length_slice n l all (omega (arith, few)) in
      let f = functions_in n (parts_of lift lower clear n xs) in
      let own = functions_from m f (length xs) in
      let rest = places_of lift lower clear (m + 1) (n + length xs) (cut ls (n + l) all) in
      let size = length_functions m f (length xs) in
      elim (cases_lt a (length own))
      as (λ _. (r : ℕ) × (p.0.0 ≡ m + r) × HasAt (runs_from n (l ∷ ls)) r (n + a)) [
        | inl here ↦
            let is = function_in m f (length xs) a p (sym (get_left own rest a here) ∙ at) in (
              0,
              omega (arith, is),
              (range_with_len n l, refl, in_range n l a (omega (arith, here, size, long))),
            )
        | inr behind ↦
            let b = a - length own in
            let place : length own + b ≡ a = omega (arith, behind) in
            let there : slice_get (places_of lift lower clear (m + 1) (n + l) (cut ls (n + l) all)) b ≡ Some p =
            subst (λ k. slice_get (places_of lift lower clear (m + 1) (n + k) (cut ls (n + l) all)) b ≡ Some p) long
            (sym (get_right own rest b) ∙ ap (slice_get (own ++ rest)) place ∙ at) in
            let found = placed (m + 1) (n + l) ls all b p (omega (arith, few)) there in
            let number : n + l + b ≡ n + a = omega (arith, place, size, long) in (
              suc found.0,
              omega (arith, found.1),
              has_later (range_with_len n l) (runs_from (n + l) ls) found.0 (n + a)
                  (subst (HasAt (runs_from (n + l) ls) found.0) number found.2),
            )
      ]

  -- what a module is given names nothing that no adapter of its run names
  named : (g h : ComponentDfg) → AreHeld g → (s n : ℕ) (ls : List ℕ) (ams : List (StaticModuleIndex × List CoreDef))
      (r : ℕ) (x : StaticModuleIndex × List CoreDef) (y : Thing) → n + sum_of ls ≤ length g.adapters
      → AreArguments lift lower clear g h s n (cut ls n g.adapters) ams → slice_get ams r ≡ Some x → OneNames h x.1 y
      → (c : ℕ) × (z : Adapter) × HasAt (runs_from n ls) r c × (slice_get g.adapters c ≡ Some z)
      × OneNames g (in_adapter z) y
  named g h held s n [] [] r x y few are at names = absurd (no_item x at)
  named g h held s n [] (a ∷ ams) r x y few are at names = absurd are
  named g h held s n (l ∷ ls) [] r x y few are at names = absurd are
  named g h held s n (l ∷ ls) (a ∷ ams) zero x y few are at names =
      let xs = slice n l g.adapters in
      let same = same_item at in
      let found = given_names g h held lift lower clear n xs a.1 y are.1
      (subst (λ z. OneNames h z.1 y) (sym same) names) in
      let long = length_slice n l g.adapters (omega (arith, few)) in
      let below = slice_get_within xs found.0 found.1 found.2 in (
        n + found.0,
        found.1,
        (range_with_len n l, refl, in_range n l found.0 (omega (arith, below, long))),
        slice_at n l g.adapters found.0 found.1 found.2,
        found.3,
      )
  named g h held s n (l ∷ ls) (a ∷ ams) (suc r) x y few are at names =
      let long = length_slice n l g.adapters (omega (arith, few)) in
      let rest = subst (λ k. AreArguments lift lower clear g h (s + 1) (n + k)
      (cut ls (n + l) g.adapters) ams) long are.2 in
      let found = named g h held (s + 1) (n + l) ls ams r x y (omega (arith, few)) rest at names in (
        found.0,
        found.1,
        has_later (range_with_len n l) (runs_from (n + l) ls) r found.0 found.2,
        found.3,
        found.4,
      )

  module _ (g h : ComponentDfg) (ms ns : List ModuleTranslation) (ls : List ℕ) (o : IsOrdered g)
      (no_modules : g.adapter_modules ≡ []) (ungrouped : g.adapter_partitionings ≡ [])
      (fewest : IsFewest (Needs g) (length g.adapters) (runs_from 0 ls))
      (makes : Makes lift lower clear g h ms ns ls) where
    all : sum_of ls ≡ length g.adapters
    all = all_lengths (Needs g) (length g.adapters) ls fewest

    few : 0 + sum_of ls ≤ length g.adapters
    few = omega (arith, all)

    places_are : h.adapter_partitionings ≡ places_of lift lower clear 0 0 (cut ls 0 g.adapters)
    places_are =
        makes.places
        ∙ (λ i. ungrouped i ++ places_of lift lower clear (length (no_modules i)) 0 (cut ls 0 g.adapters))

    modules_are : h.adapter_modules ≡ makes.adapter_modules
    modules_are = makes.has_modules ∙ ap (λ xs. xs ++ makes.adapter_modules) no_modules

    pub all_placed : length h.adapter_partitionings ≡ length g.adapters
    all_placed =
        omega (
          arith,
          ap length places_are,
          length_places 0 0 (cut ls 0 g.adapters),
          held_cut ls 0 g.adapters few,
          all,
        )

    pub are_modules : AreModules g h (runs_from 0 ls)
    are_modules = record {
      grows = makes.keeps.grows;
      adapters = ap (λ (k : ComponentDfg). k.adapters) makes.keeps.rest;
      instances = ap (λ (k : ComponentDfg). k.instances) makes.keeps.rest;
      resources = ap (λ (k : ComponentDfg). k.resources) makes.keeps.rest;
      effects = ap (λ (k : ComponentDfg). k.side_effects) makes.keeps.rest;
      all = all_placed;
      places = λ a p at.
          let found = placed 0 0 ls g.adapters a p few (ap (λ xs. slice_get xs a) (sym places_are) ∙ at) in
          let run : found.0 ≡ p.0.0 = omega (arith, found.1) in
          let number : 0 + a ≡ a = omega arith in
          subst (λ k. HasAt (runs_from 0 ls) k a) run (subst (HasAt (runs_from 0 ls) found.0) number found.2);
      arguments = λ m args y has names.
          let at = ap (λ xs. slice_get xs m) (sym modules_are) ∙ has.1 in
          named g h o.held (length ms) 0 ls makes.adapter_modules m has.0 y few makes.given at
          (subst (λ ds. OneNames h ds y) (sym has.2) names);
    }

    -- the graph is grouped
    pub is_grouped : IsGrouped h
    is_grouped = grouped g h (runs_from 0 ls) o are_modules fewest.split
