-- The modules of all adapters of a graph: what is known of the adapters' types, and how much is added.
use Rattle.std.proofs.Common.{◌≡◌, ◌<◌, ◌≤◌, ◌+◌, ◌⊎◌, inl, inr, ℕ, Bool, true, All, List, [], ◌∷◌, length, refl, ap, subst}
use Rattle.std.proofs.Common.{arith, length-append}
use Rattle.std.specs.Prelude.{Some, slice_get}
use Rattle.std.proofs.lemmas.Bool.{cases_lt}
use Rattle.std.proofs.lemmas.List.Elements.{All-cons, All-nil}
use Rattle.pc_numbers.specs.declared.runtime.ResourceIndex.{ResourceIndex}
use Rattle.pc_types.specs.TypeTree.{Identity, TypeTree}
use Rattle.pc_types_lists.specs.Types.{Types}
use Rattle.pc_info.specs.declared.module.ModuleTranslation.{ModuleTranslation}
use Rattle.pc_numbers.specs.declared.component_entity.StaticModuleIndex.{StaticModuleIndex}
use Rattle.pc_dfg.specs.declared.adapter.Adapter.{Adapter}
use Rattle.pc_dfg.specs.declared.core_def.CoreDef.{CoreDef}
use Rattle.pc_dfg.specs.declared.dfg.ComponentDfg.{ComponentDfg}
use Rattle.pc_dfg.specs.Ordered.{IsOrdered}
use Rattle.pc_dfg.specs.Told.{IsTold, Unsaid}
use Rattle.pc_dfg_linearize.specs.Grouped.{IsGrouped}
use Rattle.pc_dfg_linearize.specs.Wired.{IsWired, IsWiredModule, Occurs}
use Rattle.pc_spec_adapt.specs.Asked.{FunctionFacts}
use Rattle.pc_adapt.specs.Asked.{AreTyped, HoldTypes}
use Rattle.pc_adapt.specs.Imports.{is_transparent}
use Rattle.pc_adapt_define.specs.Define.{HasNoRoom, is_taken}
use Rattle.pc_adapt_groups.specs.Needs.{Needs}
use Rattle.pc_adapt_partition.specs.Facts.{AreFacts, AreKnown, HasFacts, HaveTrees, IsKnown}
use Rattle.pc_adapt_partition.specs.Made.{AddsFew, AddsShort, AreModulesApart, HasLong, IsPast, Keeps, Makes, cut}
use Rattle.pc_adapt_partition.specs.Made.{of_callbacks}
use Rattle.pc_adapt_partition.specs.Made.{of_memories}
use Rattle.pc_adapt_partition.specs.Made.{of_post_returns, of_trampolines, sum_of}
use Rattle.pc_adapt_partition.specs.Parts.{entities_of, module_for, modules_of, parts_of, total_imports}
use Rattle.pc_adapt_partition.specs.Partitions.{Partitions, facts_by}
use Rattle.pc_adapt_partition.specs.Wired.{LiftFunctions}
use Rattle.pc_adapt_partition.proofs.ApartLemmas.{are_apart}
use Rattle.pc_adapt_partition.proofs.CountLemmas.{all_long}
use Rattle.pc_adapt_partition.proofs.CutLemmas.{length_arguments, length_cut, length_modules}
use Rattle.pc_adapt_partition.proofs.PlaceLemmas.{all_placed, is_grouped}
use Rattle.pc_adapt_partition.proofs.SplitLemmas.{all_lengths, few_lengths, lengths_some}
use Rattle.pc_adapt_partition.proofs.ToldLemmas.{told_after}
use Rattle.pc_adapt_partition.proofs.WiredLemmas.{occurs_before, wired_after}

-- where no group has too many imports, its module imports no more
none_long : (lift lower : ℕ → FunctionFacts) (transparent : ℕ → Bool) (n : ℕ) (groups : List (List Adapter))
    → (HasLong lift lower transparent n groups → ⊥)
    → All (λ (m : ModuleTranslation). length m.«module».imports ≤ 4294967294)
    (modules_of lift lower transparent n groups)
none_long lift lower transparent n [] none = All-nil (λ (m : ModuleTranslation). length m.«module».imports ≤ 4294967294)
none_long lift lower transparent n (xs ∷ groups) none =
    let ps = parts_of lift lower transparent n xs in
    All-cons (λ (m : ModuleTranslation). length m.«module».imports ≤ 4294967294) (module_for n ps)
    (modules_of lift lower transparent (n + length xs) groups)
    (by (cases_lt 4294967294 (total_imports ps)) (all_long lift lower transparent n xs))
    (none_long lift lower transparent (n + length xs) groups (λ long. none (inr long)))
  where
    by : (4294967294 < total_imports (parts_of lift lower transparent n xs))
        ⊎ (total_imports (parts_of lift lower transparent n xs) ≤ 4294967294)
        → length (entities_of n (parts_of lift lower transparent n xs))
        ≡ total_imports (parts_of lift lower transparent n xs)
        → length (entities_of n (parts_of lift lower transparent n xs)) ≤ 4294967294
    by (inl long) as_long = absurd (none (inl long))
    by (inr short) as_long = omega (arith, short, as_long)

-- types with trees have facts
pub facts_from : (b : Types) (who : ResourceIndex → Identity) (g : ComponentDfg) (lift lower : ℕ → TypeTree)
    → AreTyped b who g lift lower → AreFacts b g.adapters (facts_by lift) (facts_by lower)
unfolding AreFacts
facts_from b who g lift lower typed a x at = record {
  who = who;
  lift_tree = lift a;
  lower_tree = lower a;
  typed = typed a x at;
  lift_is = refl;
  lower_is = refl;
}

pub known_from : (b : Types) (g : ComponentDfg) → HoldTypes b g → HaveTrees b g → AreKnown b g.adapters
known_from b g held trees = record {
  held = held;
  lift = facts_by trees.lift;
  lower = facts_by trees.lower;
  facts = facts_from b trees.who g trees.lift trees.lower trees.typed;
}

-- what is known of all is known of each
pub known_one : (b : Types) (xs : List Adapter) (a : ℕ) (x : Adapter) → AreKnown b xs → slice_get xs a ≡ Some x
    → IsKnown b xs a
unfolding AreFacts
known_one b xs a x all at = record {
  adapter = x;
  at = at;
  held = all.held a x at;
  lift = all.lift a;
  lower = all.lower a;
  facts = all.facts a x at;
}

pub facts_one : (b : Types) (xs : List Adapter) (lift lower : ℕ → FunctionFacts) (a : ℕ) (x : Adapter)
    → AreFacts b xs lift lower → slice_get xs a ≡ Some x → HasFacts b x (lift a) (lower a)
unfolding AreFacts
facts_one b xs lift lower a x all at = all a x at

-- a list of slots or trampolines that is full is past its bound
pub past_slots : (g : ComponentDfg) (ms : List ModuleTranslation) → HasNoRoom g → IsPast g ms
past_slots g ms (inl (inl full)) = of_memories (omega (arith, full))
past_slots g ms (inl (inr full)) = of_callbacks (omega (arith, full))
past_slots g ms (inr (inl full)) = of_post_returns (omega (arith, full))
past_slots g ms (inr (inr full)) = of_trampolines (omega (arith, full))

module _ (lift lower : ℕ → FunctionFacts) (g h : ComponentDfg) (ms ns : List ModuleTranslation) (o : IsOrdered g)
    (no_modules : g.adapter_modules ≡ []) (ungrouped : g.adapter_partitionings ≡ [])
    (parts : Partitions lift lower g h ms ns) where
  abbrev makes : Makes lift lower (is_transparent g) g h ms ns parts.lengths
  makes = parts.makes

  pub keeps_all : Keeps (length g.adapters) g h
  keeps_all =
      subst (λ n. Keeps n g h) (all_lengths (Needs g) (length g.adapters) parts.lengths parts.fewest) makes.keeps

  pub ordered_after : IsOrdered h
  ordered_after = makes.keeps.ordered o

  pub grouped_after : IsGrouped h
  grouped_after =
      is_grouped lift lower (is_transparent g) g h ms ns parts.lengths o no_modules ungrouped parts.fewest makes

  pub adds_short : AddsShort ms ns
  adds_short = record {
    added = modules_of lift lower (is_transparent g) 0 (cut parts.lengths 0 g.adapters);
    modules = makes.modules;
    short = none_long lift lower (is_transparent g) 0 (cut parts.lengths 0 g.adapters) makes.room;
  }

  pub adds_few : AddsFew (length g.adapters) ms ns h
  adds_few =
      let few = few_lengths (Needs g) (length g.adapters) parts.lengths parts.fewest in
      let gs = cut parts.lengths 0 g.adapters in
      let many = length_cut parts.lengths 0 g.adapters in
      record {
        few_modules = omega (
          arith,
          ap length makes.modules,
          length-append ms (modules_of lift lower (is_transparent g) 0 gs),
          length_modules lift lower (is_transparent g) 0 gs,
          many,
          few,
        );
        few_adapter_modules = omega (
          arith,
          ap length makes.has_modules,
          length-append g.adapter_modules makes.adapter_modules,
          ap length no_modules,
          length_arguments lift lower (is_transparent g) g h (length ms) 0 gs makes.adapter_modules makes.given,
          many,
          few,
        );
        all_adapters = all_placed lift lower
            (is_transparent g) g h ms ns parts.lengths o no_modules ungrouped parts.fewest makes;
      }

  -- what is told stays told
  pub told_all : (u : Unsaid) → IsTold u g → IsTold u h
  told_all u told = told_after u g h (sum_of parts.lengths) makes.keeps told

  -- modules and places of adapters are apart
  pub apart_all : AreModulesApart h
  apart_all = are_apart lift lower (is_transparent g) g h ms ns parts.lengths no_modules ungrouped makes

  -- what is taken from what there is was taken before
  pub occurs_all : (d : CoreDef) → is_taken d ≡ true → Occurs h d → Occurs g d
  occurs_all d taken occurs =
      occurs_before lift lower (is_transparent g) g h ms ns parts.lengths
      (all_lengths (Needs g) (length g.adapters) parts.lengths parts.fewest)
      (lengths_some (Needs g) (length g.adapters) parts.lengths parts.fewest) no_modules makes taken occurs

  -- the graph stays wired, where the new modules are
  pub wired_all : LiftFunctions g → IsWired g ms
      → ((m : ℕ) (x : StaticModuleIndex × List CoreDef) → slice_get h.adapter_modules m ≡ Some x
      → IsWiredModule h ns m x) → IsWired h ns
  wired_all lifts wired modules =
      wired_after lift lower (is_transparent g) g h ms ns parts.lengths
      (all_lengths (Needs g) (length g.adapters) parts.lengths parts.fewest)
      (lengths_some (Needs g) (length g.adapters) parts.lengths parts.fewest) no_modules makes lifts wired modules
