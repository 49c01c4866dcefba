-- The modules of the fewest groups are those of the adapters' values.
use Rattle.std.proofs.Common.{Bool, ◌≡◌, ◌≤◌, ℕ, ◌+◌, List, [], ◌∷◌, ◌++◌, length, drop, refl, sym, ap, subst, ◌∙◌}
use Rattle.std.proofs.Common.{arith}
use Rattle.std.specs.Prelude.{map}
use Rattle.std.specs.List.{flat_map, range_with_len}
use Rattle.std.proofs.lemmas.List.{drop-drop, drop_all, take-append-drop}
use Rattle.pc_numbers.specs.declared.component_entity.StaticModuleIndex.{StaticModuleIndex}
use Rattle.pc_spec_plan.specs.CoreValue.{CoreValue}
use Rattle.pc_trampoline.specs.declared.part.Mark.{Mark}
use Rattle.pc_info.specs.declared.module.ModuleTranslation.{ModuleTranslation}
use Rattle.pc_dfg.specs.declared.adapter.Adapter.{Adapter}
use Rattle.pc_dfg.specs.declared.core_def.CoreDef.{CoreDef}
use Rattle.pc_dfg.specs.declared.dfg.ComponentDfg.{ComponentDfg}
use Rattle.pc_spec_adapt.specs.Asked.{FunctionFacts}
use Rattle.pc_spec_adapt.specs.Record.{Member}
use Rattle.pc_spec_adapt.specs.Split.{IsFewest}
use Rattle.pc_adapt.specs.Imports.{is_transparent}
use Rattle.pc_adapt_groups.specs.Lengths.{runs_from}
use Rattle.pc_adapt_groups.specs.Needs.{Needs}
use Rattle.pc_adapt_partition.specs.Adapted.{AreAdapted, AreGivenTo, AreModulesOf, functions_for, functions_of}
use Rattle.pc_adapt_partition.specs.Adapted.{members_from, numbers_of}
use Rattle.pc_adapt_partition.specs.Made.{AreArguments, cut, sum_of}
use Rattle.pc_adapt_partition.specs.Parts.{functions_in, modules_of, parts_of, places_of, slice}
use Rattle.pc_adapt_partition.specs.Partitions.{Partitions}
use Rattle.pc_adapt_partition.specs.Wired.{HaveValues}
use Rattle.pc_adapt_partition.proofs.CutLemmas.{StandIn, stand_cut}
use Rattle.pc_adapt_partition.proofs.PartLemmas.{length_slice}
use Rattle.pc_adapt_partition.proofs.RecordLemmas.{functions_are, functions_same, given_mean, is_module, members_append}
use Rattle.pc_adapt_partition.proofs.RecordLemmas.{numbers_are}
use Rattle.pc_adapt_partition.proofs.SplitLemmas.{all_lengths}

-- what a list is cut into makes it up
cut_joined : {A : Type 0} (ls : List ℕ) (f : ℕ) (xs : List A) → f + sum_of ls ≡ length xs
    → flat_map (λ (ys : List A). ys) (cut ls f xs) ≡ drop f xs
cut_joined [] f xs all = sym (drop_all f xs (omega (arith, all)))
cut_joined (l ∷ ls) f xs all =
    ap (λ ys. slice f l xs ++ ys) (cut_joined ls (f + l) xs (omega (arith, all)) ∙ sym (drop-drop l f xs))
    ∙ take-append-drop l (drop f xs)

module _ (lift lower : ℕ → FunctionFacts) (clear : ℕ → Bool) (vs : ℕ → CoreValue Mark) where
  -- groups of adapters as groups of members, the first of which has this number
  abbrev groups_from : (number : ℕ) → List (List Adapter) → List (List (Member Mark))
  groups_from n [] = []
  groups_from n (xs ∷ gs) = members_from lift lower clear vs n xs ∷ groups_from (n + length xs) gs

  groups_joined : (n : ℕ) (gs : List (List Adapter))
      → flat_map (λ (members : List (Member Mark)). members) (groups_from n gs)
      ≡ members_from lift lower clear vs n (flat_map (λ (xs : List Adapter). xs) gs)
  groups_joined n [] = refl
  groups_joined n (xs ∷ gs) =
      ap (λ ms. members_from lift lower clear vs n xs ++ ms) (groups_joined (n + length xs) gs)
      ∙ sym (members_append lift lower clear vs n xs (flat_map (λ (ys : List Adapter). ys) gs))

  groups_numbered : (n : ℕ) (ls : List ℕ) (all : List Adapter) → n + sum_of ls ≤ length all
      → map numbers_of (groups_from n (cut ls n all)) ≡ runs_from n ls
  groups_numbered n [] all few = refl
  groups_numbered n (l ∷ ls) all few =
      let long = length_slice n l all (omega (arith, few)) in
      let first = numbers_are lift lower clear vs n (slice n l all) ∙ ap (range_with_len n) long in
      let rest = ap (λ k. map numbers_of (groups_from (n + k) (cut ls (n + l) all))) long
      ∙ groups_numbered (n + l) ls all (omega (arith, few)) in
      λ i. first i ∷ rest i

  module _ (g : ComponentDfg) (mean : HaveValues g vs) where
    are_modules : (s n : ℕ) (gs : List (List Adapter)) → StandIn n g.adapters gs
        → AreModulesOf s (groups_from n gs) (modules_of lift lower clear n gs)
    are_modules s n [] stand = tt
    are_modules s n (xs ∷ gs) stand =
        (is_module g lift lower clear vs mean s n xs stand.0, are_modules (s + 1) (n + length xs) gs stand.1)

    are_given : (h : ComponentDfg) (s n : ℕ) (gs : List (List Adapter)) (ams : List (StaticModuleIndex × List CoreDef))
        → StandIn n g.adapters gs → AreArguments lift lower clear g h s n gs ams → AreGivenTo h s (groups_from n gs) ams
    are_given h s n [] [] stand are = tt
    are_given h s n [] (a ∷ ams) stand are = absurd are
    are_given h s n (xs ∷ gs) [] stand are = absurd are
    are_given h s n (xs ∷ gs) (a ∷ ams) stand are = (
      are.0,
      given_mean g lift lower clear vs mean h n xs a.1 stand.0 are.1,
      are_given h (s + 1) (n + length xs) gs ams stand.1 are.2,
    )

    are_placed : (m n : ℕ) (gs : List (List Adapter)) → StandIn n g.adapters gs
        → places_of lift lower clear m n gs ≡ functions_of m (groups_from n gs)
    are_placed m n [] stand = refl
    are_placed m n (xs ∷ gs) stand =
        let first = functions_same lift lower clear vs m (functions_in n (parts_of lift lower clear n xs)) n xs
        ∙ ap (λ f. functions_for m f (members_from lift lower clear vs n xs))
        (functions_are g lift lower clear vs mean n xs stand.0) in
        let rest = are_placed (m + 1) (n + length xs) gs stand.1 in
        λ i. first i ++ rest i

-- what is made of the fewest groups is what the values ask for
pub are_adapted : (lift lower : ℕ → FunctionFacts) (vs : ℕ → CoreValue Mark) (g h : ComponentDfg)
    (ms ns : List ModuleTranslation) → g.adapter_modules ≡ []
    → g.adapter_partitionings ≡ [] → HaveValues g vs → Partitions lift lower g h ms ns
    → AreAdapted lift lower vs g h ms ns
are_adapted lift lower vs g h ms ns no_modules ungrouped mean parts =
    let clear = is_transparent g in
    let ls = parts.lengths in
    let makes = parts.makes in
    let gs = cut ls 0 g.adapters in
    let sum = all_lengths (Needs g) (length g.adapters) ls parts.fewest in
    let few : 0 + sum_of ls ≤ length g.adapters = omega (arith, sum) in
    let stand = stand_cut ls 0 g.adapters few in
    record {
      groups = groups_from lift lower clear vs 0 gs;
      all = groups_joined lift lower clear vs 0 gs
          ∙ ap (members_from lift lower clear vs 0) (cut_joined ls 0 g.adapters (omega (arith, sum)));
      fewest = subst (IsFewest (Needs g) (length g.adapters))
          (sym (groups_numbered lift lower clear vs 0 ls g.adapters few))
          parts.fewest;
      added = modules_of lift lower clear 0 gs;
      modules = makes.modules;
      are = are_modules lift lower clear vs g mean (length ms) 0 gs stand;
      given = subst (AreGivenTo h (length ms) (groups_from lift lower clear vs 0 gs))
          (sym (makes.has_modules ∙ ap (λ xs. xs ++ makes.adapter_modules) no_modules))
          (are_given lift lower clear vs g mean h (length ms) 0 gs makes.adapter_modules stand makes.given);
      places = makes.places
          ∙ (λ i. ungrouped i ++ places_of lift lower clear (length (no_modules i)) 0 gs)
          ∙ are_placed lift lower clear vs g mean 0 0 gs stand;
    }
