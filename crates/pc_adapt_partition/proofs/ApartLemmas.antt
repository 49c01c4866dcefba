-- Modules of adapters are distinct, and so are the places of adapters.
use Rattle.std.proofs.Common.{Bool, ◌≡◌, ◌⊎◌, ◌<◌, ◌≤◌, inl, inr, ℕ, zero, suc, ◌+◌, ◌-◌, List, [], ◌∷◌, ◌++◌, length}
use Rattle.std.proofs.Common.{refl, sym}
use Rattle.std.proofs.Common.{ap, subst, ◌∙◌, arith}
use Rattle.std.specs.Prelude.{Some, map, slice_get}
use Rattle.std.proofs.lemmas.Bool.{cases_lt}
use Rattle.pc_entity.specs.Lists.{AreDistinct}
use Rattle.pc_numbers.specs.declared.component_entity.StaticModuleIndex.{StaticModuleIndex}
use Rattle.pc_numbers.specs.declared.entity_index.EntityIndex.{EntityIndex}
use Rattle.pc_numbers.specs.declared.entity_index.EntityIndex.TheVariants as entity
use Rattle.pc_info.specs.declared.module.ModuleTranslation.{ModuleTranslation}
use Rattle.pc_dfg.specs.declared.adapter.Adapter.{Adapter}
use Rattle.pc_dfg.specs.declared.core_def.CoreDef.{CoreDef}
use Rattle.pc_dfg.specs.declared.dfg.ComponentDfg.{ComponentDfg}
use Rattle.pc_dfg.specs.declared.ids.AdapterModuleId.{AdapterModuleId}
use Rattle.pc_spec_adapt.specs.Asked.{FunctionFacts}
use Rattle.pc_adapt_partition.specs.Made.{AreModulesApart, AreArguments, Makes, cut}
use Rattle.pc_adapt_partition.specs.Parts.{functions_from, functions_in, parts_of, places_of}
use Rattle.pc_adapt_partition.proofs.PlaceLemmas.{function_in, get_left, get_right, no_item}
use Rattle.pc_adapt_partition.proofs.PlaceLemmas.{same_item}

-- what is at a place of a mapped list is made of what is at that place
mapped_at : {A B : Type 0} (f : A → B) (xs : List A) (i : ℕ) (y : B) → slice_get (map f xs) i ≡ Some y
    → (x : A) × (slice_get xs i ≡ Some x) × (f x ≡ y)
mapped_at f [] i y at = absurd (no_item y at)
mapped_at f (x ∷ xs) zero y at = (x, refl, same_item at)
mapped_at f (x ∷ xs) (suc i) y at = mapped_at f xs i y at

-- the function at a place
abbrev Function : Type 0
Function = AdapterModuleId × EntityIndex

-- its number in the module
function_number : EntityIndex → ℕ
function_number (entity.Function f) = f.0
function_number e = 0

-- functions of a module have numbers from the first one on
function_at : (m f k i : ℕ) (p : Function) → slice_get (functions_from m f k) i ≡ Some p
    → function_number p.1 ≡ f + i
unfolding function_number
function_at m f zero i p at = absurd (no_item p at)
function_at m f (suc k) zero p at =
    let is = ap (λ (q : Function). function_number q.1) (sym (same_item at)) in
    omega (arith, is)
function_at m f (suc k) (suc i) p at = let rest = function_at m (f + 1) k i p at in omega (arith, rest)

-- so no two are one
functions_apart : (m f k i j : ℕ) (p : Function) → slice_get (functions_from m f k) i ≡ Some p
    → slice_get (functions_from m f k) j ≡ Some p → i ≡ j
functions_apart m f k i j p first second =
    omega (arith, function_at m f k i p first, function_at m f k j p second)

-- a place in two lists
two_lists : {A : Type 0} (xs ys : List A) (i : ℕ) (x : A) → slice_get (xs ++ ys) i ≡ Some x
    → ((i < length xs) × (slice_get xs i ≡ Some x))
    ⊎ ((k : ℕ) × (i ≡ length xs + k) × (slice_get ys k ≡ Some x))
two_lists xs ys i x at = elim (cases_lt i (length xs)) [
  | inl here ↦ inl (here, sym (get_left xs ys i here) ∙ at)
  | inr behind ↦
      let k = i - length xs in
      let place : length xs + k ≡ i = omega (arith, behind) in
      inr (k, sym place, sym (get_right xs ys k) ∙ ap (slice_get (xs ++ ys)) place ∙ at)
]

module _ (lift lower : ℕ → FunctionFacts) (clear : ℕ → Bool) where
  -- functions of groups are in modules from the first one on
  module_at : (m n : ℕ) (gs : List (List Adapter)) (i : ℕ) (p : Function)
      → slice_get (places_of lift lower clear m n gs) i ≡ Some p → m ≤ p.0.0
  module_at m n [] i p at = absurd (no_item p at)
  module_at m n (xs ∷ gs) i p at =
      let f = functions_in n (parts_of lift lower clear n xs) in
      let own = functions_from m f (length xs) in
      let rest = places_of lift lower clear (m + 1) (n + length xs) gs in
      elim (two_lists own rest i p at) as (λ _. m ≤ p.0.0) [
        | inl here ↦ (let is = function_in m f (length xs) i p here.1 in omega (arith, is))
        | inr behind ↦ (let is = module_at (m + 1) (n + length xs) gs behind.0 p behind.2 in omega (arith, is))
      ]

  -- no two places are one
  places_apart : (m n : ℕ) (gs : List (List Adapter)) → AreDistinct (places_of lift lower clear m n gs)
  places_apart m n [] i j p first second = absurd (no_item p first)
  places_apart m n (xs ∷ gs) i j p first second =
      by (places_apart (m + 1) (n + length xs) gs) (two_lists own rest i p first) (two_lists own rest j p second)
    where
      f : ℕ
      f = functions_in n (parts_of lift lower clear n xs)

      own : List Function
      own = functions_from m f (length xs)

      rest : List Function
      rest = places_of lift lower clear (m + 1) (n + length xs) gs

      by : AreDistinct rest
          → ((i < length own) × (slice_get own i ≡ Some p))
          ⊎ ((k : ℕ) × (i ≡ length own + k) × (slice_get rest k ≡ Some p))
          → ((j < length own) × (slice_get own j ≡ Some p))
          ⊎ ((k : ℕ) × (j ≡ length own + k) × (slice_get rest k ≡ Some p)) → i ≡ j
      by apart (inl here) (inl there) = functions_apart m f (length xs) i j p here.1 there.1
      by apart (inl here) (inr behind) =
          let is = function_in m f (length xs) i p here.1 in
          let later = module_at (m + 1) (n + length xs) gs behind.0 p behind.2 in
          absurd (omega (arith, is, later))
      by apart (inr behind) (inl there) =
          let is = function_in m f (length xs) j p there.1 in
          let later = module_at (m + 1) (n + length xs) gs behind.0 p behind.2 in
          absurd (omega (arith, is, later))
      by apart (inr one) (inr other) =
          let same = apart one.0 other.0 p one.2 other.2 in
          omega (arith, one.1, other.1, same)

  -- modules have numbers from the first one on
  number_at : (g h : ComponentDfg) (s n : ℕ) (gs : List (List Adapter)) (ams : List (StaticModuleIndex × List CoreDef))
      (i : ℕ) (a : StaticModuleIndex × List CoreDef) → AreArguments lift lower clear g h s n gs ams
      → slice_get ams i ≡ Some a → a.0.0 ≡ s + i
  number_at g h s n [] [] i a are at = absurd (no_item a at)
  number_at g h s n [] (b ∷ ams) i a are at = absurd are
  number_at g h s n (xs ∷ gs) [] i a are at = absurd are
  number_at g h s n (xs ∷ gs) (b ∷ ams) zero a are at =
      let is = ap (λ (c : StaticModuleIndex × List CoreDef). c.0.0) (sym (same_item at)) in
      omega (arith, is, are.0)
  number_at g h s n (xs ∷ gs) (b ∷ ams) (suc i) a are at =
      let rest = number_at g h (s + 1) (n + length xs) gs ams i a are.2 at in
      omega (arith, rest)

  module _ (g h : ComponentDfg) (ms ns : List ModuleTranslation) (ls : List ℕ) (no_modules : g.adapter_modules ≡ [])
      (ungrouped : g.adapter_partitionings ≡ []) (makes : Makes lift lower clear g h ms ns ls) where
    abbrev gs : List (List Adapter)
    gs = cut ls 0 g.adapters

    modules_are : h.adapter_modules ≡ makes.adapter_modules
    modules_are = makes.has_modules ∙ ap (λ xs. xs ++ makes.adapter_modules) no_modules

    modules_apart : AreDistinct (map (λ (a : StaticModuleIndex × List CoreDef). a.0) makes.adapter_modules)
    modules_apart i j y first second =
        let one = mapped_at (λ (a : StaticModuleIndex × List CoreDef). a.0) makes.adapter_modules i y first in
        let other = mapped_at (λ (a : StaticModuleIndex × List CoreDef). a.0) makes.adapter_modules j y second in
        let is = number_at g h (length ms) 0 gs makes.adapter_modules i one.0 makes.given one.1 in
        let is' = number_at g h (length ms) 0 gs makes.adapter_modules j other.0 makes.given other.1 in
        let here = ap (λ (m : StaticModuleIndex). m.0) one.2 in
        let there = ap (λ (m : StaticModuleIndex). m.0) other.2 in
        omega (arith, is, is', here, there)

    -- modules and places are apart
    pub are_apart : AreModulesApart h
    are_apart = record {
      modules = subst (λ xs. AreDistinct (map (λ (a : StaticModuleIndex × List CoreDef). a.0) xs)) (sym modules_are)
          modules_apart;
      adapters = subst AreDistinct
          (sym (makes.places ∙ ap (λ xs. xs ++ places_of lift lower clear (length g.adapter_modules) 0 gs) ungrouped))
          (places_apart (length g.adapter_modules) 0 gs);
    }
