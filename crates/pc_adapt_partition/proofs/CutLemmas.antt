-- Groups of adapters: one more at the end.
use Rattle.std.proofs.Common.{Bool, ◌≡◌, ◌⊎◌, ◌<◌, ◌≤◌, inl, inr, ℕ, zero, suc, ◌+◌, List, [], ◌∷◌, ◌++◌, length, take}
use Rattle.std.proofs.Common.{get_or, refl, sym, ap, subst, ◌∙◌, arith}
use Rattle.std.specs.Prelude.{Some, None, slice_get}
use Rattle.std.proofs.lemmas.List.{append_assoc, append-nil}
use Rattle.pc_dfg.specs.declared.adapter.Adapter.{Adapter}
use Rattle.pc_dfg.specs.declared.core_def.CoreDef.{CoreDef}
use Rattle.pc_numbers.specs.declared.component_entity.StaticModuleIndex.{StaticModuleIndex}
use Rattle.pc_dfg.specs.declared.dfg.ComponentDfg.{ComponentDfg}
use Rattle.pc_dfg.specs.Grows.{Grows}
use Rattle.pc_dfg.specs.Held.{AreHeld}
use Rattle.pc_dfg.proofs.GrowLemmas.{grows_refl}
use Rattle.pc_spec_adapt.specs.Asked.{FunctionFacts}
use Rattle.pc_adapt_partition.specs.Gathered.{AreGiven}
use Rattle.pc_adapt_partition.specs.Made.{AreArguments, HasLong, cut, sum_of}
use Rattle.pc_adapt_partition.specs.Parts.{functions_from, functions_in, module_for, modules_of, parts_of, places_of}
use Rattle.pc_adapt_partition.specs.Parts.{slice, total_imports}
use Rattle.pc_adapt_partition.proofs.GivenLemmas.{given_between, parts_held, StandFrom}
use Rattle.pc_adapt_partition.proofs.PartLemmas.{length_slice, slice_at}

-- how many adapters are in groups
abbrev pub held_in : List (List Adapter) → ℕ
held_in [] = 0
held_in (xs ∷ gs) = length xs + held_in gs

pub sum_more : (ls : List ℕ) (l : ℕ) → sum_of (ls ++ l ∷ []) ≡ sum_of ls + l
sum_more [] l = omega arith
sum_more (k ∷ ls) l = let rest = sum_more ls l in omega (arith, rest)

-- the sum of the first numbers and the next one is no more than that of all
pub sum_step : (ls : List ℕ) (k d : ℕ) → k < length ls → sum_of (take k ls) + get_or ls k d ≤ sum_of ls
sum_step [] k d below = absurd (omega (arith, below))
sum_step (l ∷ ls) zero d below = omega arith
sum_step (l ∷ ls) (suc k) d below = let rest = sum_step ls k d (omega (arith, below)) in omega (arith, rest)

pub cut_more : {A : Type 0} (ls : List ℕ) (l f : ℕ) (xs : List A)
    → cut (ls ++ l ∷ []) f xs ≡ cut ls f xs ++ slice (f + sum_of ls) l xs ∷ []
cut_more [] l f xs =
    let here : f ≡ f + 0 = omega arith in
    ap (λ k. slice k l xs ∷ []) here
cut_more (k ∷ ls) l f xs =
    let here : f + k + sum_of ls ≡ f + (k + sum_of ls) = omega arith in
    ap (λ gs. slice f k xs ∷ gs)
    (cut_more ls l (f + k) xs ∙ ap (λ j. cut ls (f + k) xs ++ slice j l xs ∷ []) here)

pub length_cut : {A : Type 0} (ls : List ℕ) (f : ℕ) (xs : List A) → length (cut ls f xs) ≡ length ls
length_cut [] f xs = refl
length_cut (l ∷ ls) f xs = ap suc (length_cut ls (f + l) xs)

pub held_cut : (ls : List ℕ) (f : ℕ) (xs : List Adapter) → f + sum_of ls ≤ length xs
    → held_in (cut ls f xs) ≡ sum_of ls
held_cut [] f xs few = refl
held_cut (l ∷ ls) f xs few =
    let first = length_slice f l xs (omega (arith, few)) in
    let rest = held_cut ls (f + l) xs (omega (arith, few)) in
    omega (arith, first, rest)

-- adapters of groups stand in a list from this number on
abbrev pub StandIn : ℕ → List Adapter → List (List Adapter) → Type 0
StandIn n all [] = Unit {0}
StandIn n all (xs ∷ gs) = StandFrom n all xs × StandIn (n + length xs) all gs

pub stand_slice : (n l : ℕ) (all : List Adapter) → StandFrom n all (slice n l all)
stand_slice n l all k x at = slice_at n l all k x at

pub stand_cut : (ls : List ℕ) (f : ℕ) (all : List Adapter) → f + sum_of ls ≤ length all
    → StandIn f all (cut ls f all)
stand_cut [] f all few = tt
stand_cut (l ∷ ls) f all few =
    let long = length_slice f l all (omega (arith, few)) in (
      stand_slice f l all,
      subst (λ k. StandIn (f + k) all (cut ls (f + l) all)) (sym long)
          (stand_cut ls (f + l) all (omega (arith, few))),
    )

module _ (lift lower : ℕ → FunctionFacts) (clear : ℕ → Bool) where
  pub modules_more : (n : ℕ) (gs : List (List Adapter)) (xs : List Adapter)
      → modules_of lift lower clear n (gs ++ xs ∷ [])
      ≡ modules_of lift lower clear n gs
      ++ module_for (n + held_in gs) (parts_of lift lower clear (n + held_in gs) xs) ∷ []
  modules_more n [] xs =
      let here : n ≡ n + 0 = omega arith in
      ap (λ k. module_for k (parts_of lift lower clear k xs) ∷ []) here
  modules_more n (ys ∷ gs) xs =
      let here : n + length ys + held_in gs ≡ n + (length ys + held_in gs) = omega arith in
      ap (λ ms. module_for n (parts_of lift lower clear n ys) ∷ ms)
      (modules_more (n + length ys) gs xs
      ∙ ap (λ k. modules_of lift lower clear (n + length ys) gs
      ++ module_for k (parts_of lift lower clear k xs) ∷ []) here)

  pub length_modules : (n : ℕ) (gs : List (List Adapter)) → length (modules_of lift lower clear n gs) ≡ length gs
  length_modules n [] = refl
  length_modules n (xs ∷ gs) = ap suc (length_modules (n + length xs) gs)

  pub places_more : (m n : ℕ) (gs : List (List Adapter)) (xs : List Adapter)
      → places_of lift lower clear m n (gs ++ xs ∷ [])
      ≡ places_of lift lower clear m n gs
      ++ functions_from (m + length gs) (functions_in (n + held_in gs) (parts_of lift lower clear (n + held_in gs) xs))
      (length xs)
  places_more m n [] xs =
      let module_here : m ≡ m + 0 = omega arith in
      let here : n ≡ n + 0 = omega arith in
      append-nil (functions_from m (functions_in n (parts_of lift lower clear n xs)) (length xs))
      ∙ (λ i. functions_from (module_here i) (functions_in (here i) (parts_of lift lower clear (here i) xs))
      (length xs))
  places_more m n (ys ∷ gs) xs =
      let module_here : m + 1 + length gs ≡ m + suc (length gs) = omega arith in
      let here : n + length ys + held_in gs ≡ n + (length ys + held_in gs) = omega arith in
      let own = functions_from m (functions_in n (parts_of lift lower clear n ys)) (length ys) in
      let rest = places_of lift lower clear (m + 1) (n + length ys) gs in
      ap (λ ps. own ++ ps)
      (places_more (m + 1) (n + length ys) gs xs
      ∙ (λ i. rest ++ functions_from (module_here i)
      (functions_in (here i) (parts_of lift lower clear (here i) xs)) (length xs)))
      ∙ sym (append_assoc own rest _)

  -- arguments for one group more
  pub arguments_more : (g h : ComponentDfg) (s n : ℕ) (gs : List (List Adapter))
      (ams : List (StaticModuleIndex × List CoreDef)) (xs : List Adapter) (m : StaticModuleIndex) (args : List CoreDef)
      → AreArguments lift lower clear g h s n gs ams → m.0 ≡ s + length gs
      → AreGiven g h (parts_of lift lower clear (n + held_in gs) xs) args
      → AreArguments lift lower clear g h s n (gs ++ xs ∷ []) (ams ++ (m, args) ∷ [])
  arguments_more g h s n [] [] xs m args are number given =
      let here : n + 0 ≡ n = omega arith in (
        omega (arith, number),
        subst (λ k. AreGiven g h (parts_of lift lower clear k xs) args) here given,
        tt,
      )
  arguments_more g h s n [] (a ∷ ams) xs m args are number given = absurd are
  arguments_more g h s n (ys ∷ gs) [] xs m args are number given = absurd are
  arguments_more g h s n (ys ∷ gs) (a ∷ ams) xs m args are number given =
      let here : n + (length ys + held_in gs) ≡ n + length ys + held_in gs = omega arith in (
        are.0,
        are.1,
        arguments_more g h (s + 1) (n + length ys) gs ams xs m args are.2 (omega (arith, number))
            (subst (λ k. AreGiven g h (parts_of lift lower clear k xs) args) here given),
      )

  -- they still are where the graph has grown
  pub arguments_later : (g m h : ComponentDfg) → Grows m h → AreHeld g → AreHeld m → (s n : ℕ)
      (gs : List (List Adapter)) (ams : List (StaticModuleIndex × List CoreDef)) → StandIn n g.adapters gs
      → AreArguments lift lower clear g m s n gs ams → AreArguments lift lower clear g h s n gs ams
  arguments_later g m h grows heldg heldm s n [] [] stand are = are
  arguments_later g m h grows heldg heldm s n [] (a ∷ ams) stand are = are
  arguments_later g m h grows heldg heldm s n (xs ∷ gs) [] stand are = are
  arguments_later g m h grows heldg heldm s n (xs ∷ gs) (a ∷ ams) stand are = (
    are.0,
    given_between g g m h (grows_refl g) grows heldg heldm (parts_of lift lower clear n xs) a.1
        (parts_held g heldg lift lower clear n xs stand.0) are.1,
    arguments_later g m h grows heldg heldm (s + 1) (n + length xs) gs ams stand.1 are.2,
  )

  pub length_arguments : (g h : ComponentDfg) (s n : ℕ) (gs : List (List Adapter))
      (ams : List (StaticModuleIndex × List CoreDef)) → AreArguments lift lower clear g h s n gs ams
      → length ams ≡ length gs
  length_arguments g h s n [] [] are = refl
  length_arguments g h s n [] (a ∷ ams) are = absurd are
  length_arguments g h s n (xs ∷ gs) [] are = absurd are
  length_arguments g h s n (xs ∷ gs) (a ∷ ams) are =
      ap suc (length_arguments g h (s + 1) (n + length xs) gs ams are.2)

  -- one of more groups is too long where one of them is, or the last
  pub long_more : (n : ℕ) (gs : List (List Adapter)) (xs : List Adapter) → HasLong lift lower clear n (gs ++ xs ∷ [])
      → HasLong lift lower clear n gs ⊎ (4294967294 < total_imports (parts_of lift lower clear (n + held_in gs) xs))
  long_more n [] xs (inl long) =
      let here : n ≡ n + 0 = omega arith in
      inr (subst (λ k. 4294967294 < total_imports (parts_of lift lower clear k xs)) here long)
  long_more n [] xs (inr none) = absurd none
  long_more n (ys ∷ gs) xs (inl long) = inl (inl long)
  long_more n (ys ∷ gs) xs (inr long) = other (long_more (n + length ys) gs xs long)
    where
      other : HasLong lift lower clear (n + length ys) gs
          ⊎ (4294967294 < total_imports (parts_of lift lower clear (n + length ys + held_in gs) xs))
          → HasLong lift lower clear n (ys ∷ gs)
          ⊎ (4294967294 < total_imports (parts_of lift lower clear (n + held_in (ys ∷ gs)) xs))
      other (inl here) = inl (inr here)
      other (inr last) =
          let here : n + length ys + held_in gs ≡ n + (length ys + held_in gs) = omega arith in
          inr (subst (λ k. 4294967294 < total_imports (parts_of lift lower clear k xs)) here last)

  no_length : (l : ℕ) → None ≡ Some l → ⊥
  no_length l e = grind (arith, e)

  same_length : (k l : ℕ) → Some k ≡ Some l → k ≡ l
  same_length k l e = grind (arith, e)

  -- a group that is too long is one of all
  pub long_at : (ls : List ℕ) (f k l : ℕ) (all : List Adapter) → slice_get ls k ≡ Some l
      → f + sum_of ls ≤ length all
      → 4294967294 < total_imports
      (parts_of lift lower clear (f + sum_of (take k ls)) (slice (f + sum_of (take k ls)) l all))
      → HasLong lift lower clear f (cut ls f all)
  long_at [] f k l all at few long = absurd (no_length l at)
  long_at (j ∷ ls) f zero l all at few long =
      let same = same_length j l at in
      let here : f + 0 ≡ f = omega arith in
      inl (subst (λ i. 4294967294 < total_imports (parts_of lift lower clear f (slice f i all))) (sym same)
      (subst (λ i. 4294967294 < total_imports (parts_of lift lower clear i (slice i l all))) here long))
  long_at (j ∷ ls) f (suc k) l all at few long =
      let own = length_slice f j all (omega (arith, few)) in
      let here : f + (j + sum_of (take k ls)) ≡ f + j + sum_of (take k ls) = omega arith in
      inr (subst (λ i. HasLong lift lower clear (f + i) (cut ls (f + j) all)) (sym own)
      (long_at ls (f + j) k l all at (omega (arith, few))
      (subst (λ i. 4294967294 < total_imports (parts_of lift lower clear i (slice i l all))) here long)))
