-- How much is added at most, however it ends.
use Rattle.std.proofs.Common.{◌≡◌, ◌≤◌, ◌<◌, ℕ, zero, suc, ◌+◌, ◌*◌, List, [], ◌∷◌, ◌++◌, length, take, get_or, refl}
use Rattle.std.proofs.Common.{Bool, sym, ap, subst, ◌∙◌, arith, length-append}
use Rattle.std.specs.Prelude.{Some, slice_get}
use Rattle.std.proofs.lemmas.List.{length-take-le}
use Rattle.std.proofs.lemmas.Option.{same_Some}
use Rattle.pc_types_lists.specs.Types.{Types}
use Rattle.pc_info.specs.declared.module.ModuleTranslation.{ModuleTranslation}
use Rattle.pc_dfg.specs.declared.adapter.Adapter.{Adapter}
use Rattle.pc_dfg.specs.declared.dfg.ComponentDfg.{ComponentDfg}
use Rattle.pc_spec_adapt.specs.Asked.{FunctionFacts}
use Rattle.pc_adapt.specs.declared.import.Import.{Import}
use Rattle.pc_adapt.specs.Imports.{imports_of, is_transparent}
use Rattle.pc_adapt_define.specs.Adds.{Adds}
use Rattle.pc_adapt_define.specs.Define.{callbacks_in, memories_in, post_returns_in, total, trampolines_in}
use Rattle.pc_adapt_define.proofs.AddsLemmas.{adds_more, adds_none, adds_twice}
use Rattle.pc_adapt_define.proofs.FewLemmas.{adds_at_most}
use Rattle.pc_adapt_partition.specs.declared.group.Group.{Group}
use Rattle.pc_adapt_partition.specs.Facts.{AreFacts, AreKnown, HasFacts, IsKnown}
use Rattle.pc_adapt_partition.specs.Gathered.{ClosesFew, Gathers}
use Rattle.pc_adapt_partition.specs.Made.{AddsAtMost, Makes, cut, sum_of}
use Rattle.pc_adapt_partition.specs.Parts.{functions_from, modules_of, parts_of, places_of, slice}
use Rattle.pc_adapt_partition.proofs.CutLemmas.{held_cut, length_arguments, length_cut, length_modules, sum_step}
use Rattle.pc_adapt_partition.proofs.PartLemmas.{length_parts, length_slice}
use Rattle.pc_adapt_partition.proofs.PlaceLemmas.{length_functions, length_places}

-- a graph as it was
pub nothing_added : (k l m n : ℕ) (g : ComponentDfg) → Adds k l m n g g
nothing_added k l m n g =
    adds_more 0 0 0 0 k l m n g g (omega arith) (omega arith) (omega arith) (omega arith) (adds_none g)

pub nothing_closed : (many : ℕ) (g : ComponentDfg) (ms : List ModuleTranslation) → ClosesFew many g g ms ms
nothing_closed many g ms = record {
  rest = refl;
  few_adapter_modules = omega arith;
  few_adapters = omega arith;
  few_modules = omega arith;
}

pub nothing_made : (many groups : ℕ) (g : ComponentDfg) (ms : List ModuleTranslation)
    → AddsAtMost many groups g g ms ms
nothing_made many groups g ms = record {
  few_memories = omega arith;
  few_callbacks = omega arith;
  few_post_returns = omega arith;
  few_trampolines = omega arith;
  few_adapter_modules = omega arith;
  few_adapters = omega arith;
  few_modules = omega arith;
}

-- the definitions for what is planned for an adapter
pub planned_few : (b : Types) (g h : ComponentDfg) (a : ℕ) → IsKnown b g.adapters a → (clear : Bool)
    (y : Adapter) → slice_get g.adapters a ≡ Some y → (is : List Import)
    → ((lift lower : FunctionFacts) → HasFacts b y lift lower → is ≡ imports_of lift lower clear y)
    → Adds (total memories_in is) (total callbacks_in is) (total post_returns_in is) (total trampolines_in is) g h
    → Adds 9 1 1 12 g h
planned_few b g h a known clear y at is planned adds =
    let same = same_Some known.adapter y (sym known.at ∙ at) in
    let facts = subst (λ k. HasFacts b k known.lift known.lower) same known.facts in
    adds_at_most g h y known.lift known.lower clear
    (subst (λ l. Adds (total memories_in l) (total callbacks_in l) (total post_returns_in l) (total trampolines_in l)
    g h) (planned known.lift known.lower facts) adds)

-- what was gathered of so many adapters
module _ (b : Types) (g m : ComponentDfg) (first k many : ℕ) (group : Group) (known : AreKnown b g.adapters)
    (few : first + many ≤ length g.adapters) (up : k ≤ many)
    (gathers : (lift lower : ℕ → FunctionFacts) → AreFacts b g.adapters lift lower
    → Gathers g m first (parts_of lift lower (is_transparent g) first (slice first k g.adapters)) group) where
  so_many : Adds (9 * k) k k (12 * k) g m
  so_many =
      let xs = slice first k g.adapters in
      let size = length_parts known.lift known.lower (is_transparent g) first xs
      ∙ length_slice first k g.adapters (omega (arith, few, up)) in
      subst (λ j. Adds (9 * j) j j (12 * j) g m) size (gathers known.lift known.lower known.facts).adds

  pub gathered_few : Adds (9 * many) many many (12 * many) g m
  gathered_few =
      adds_more (9 * k) k k (12 * k) (9 * many) many many (12 * many) g m (omega (arith, up)) up up
      (omega (arith, up)) so_many

  -- and of one adapter more
  pub gathered_more : (n : ComponentDfg) → k < many → Adds 9 1 1 12 m n → Adds (9 * many) many many (12 * many) g n
  gathered_more n below adds =
      adds_more (9 * k + 9) (k + 1) (k + 1) (12 * k + 12) (9 * many) many many (12 * many) g n (omega (arith, below))
      (omega (arith, below)) (omega (arith, below)) (omega (arith, below))
      (adds_twice (9 * k) k k (12 * k) 9 1 1 12 g m n so_many adds)

-- as many functions of a module are as many places more
pub placed_few : (g m : ComponentDfg) (a f k many : ℕ) → k ≤ many
    → m ≡ record g { adapter_partitionings = g.adapter_partitionings ++ functions_from a f k }
    → length m.adapter_partitionings ≤ length g.adapter_partitionings + many
placed_few g m a f k many up is =
    let own = functions_from a f k in
    let all = ap (λ (i : ComponentDfg). length i.adapter_partitionings) is in
    omega (arith, up, all, length-append g.adapter_partitionings own, length_functions a f k)

-- all but the places is as it was
pub placed_rest : (g m : ComponentDfg) (a f k : ℕ)
    → m ≡ record g { adapter_partitionings = g.adapter_partitionings ++ functions_from a f k }
    → m ≡ record g { adapter_partitionings = m.adapter_partitionings }
placed_rest g m a f k is =
    let places = ap (λ (i : ComponentDfg). i.adapter_partitionings) is in
    is ∙ (λ j. record g { adapter_partitionings = sym places j })

-- a module, and the places of its adapters
pub closes_few : (many : ℕ) (g m h : ComponentDfg) (ms ns : List ModuleTranslation)
    → m ≡ record g { adapter_modules = m.adapter_modules }
    → length m.adapter_modules ≤ length g.adapter_modules + 1
    → h ≡ record m { adapter_partitionings = h.adapter_partitionings }
    → length h.adapter_partitionings ≤ length m.adapter_partitionings + many
    → length ns ≤ length ms + 1 → ClosesFew many g h ms ns
closes_few many g m h ms ns first one second few more =
    let modules = ap (λ (i : ComponentDfg). i.adapter_modules) second in
    let places = ap (λ (i : ComponentDfg). length i.adapter_partitionings) first in
    record {
      rest = second
          ∙ (λ j. record (first j) { adapter_partitionings = h.adapter_partitionings })
          ∙ (λ j. record g {
            adapter_modules = sym modules j;
            adapter_partitionings = h.adapter_partitionings;
          });
      few_adapter_modules = omega (arith, one, ap length modules);
      few_adapters = omega (arith, few, places);
      few_modules = more;
    }

-- one item more
pub one_longer : {A : Type 0} (xs ys : List A) (x : A) → ys ≡ xs ++ x ∷ [] → length ys ≤ length xs + 1
one_longer xs ys x is = let all = ap length is in omega (arith, all, length-append xs (x ∷ []))

-- a module alone
pub pushed_closed : (many : ℕ) (g : ComponentDfg) (ms ns : List ModuleTranslation) (x : ModuleTranslation)
    → ns ≡ ms ++ x ∷ [] → ClosesFew many g g ms ns
pushed_closed many g ms ns x is = record {
  rest = refl;
  few_adapter_modules = omega arith;
  few_adapters = omega arith;
  few_modules = one_longer ms ns x is;
}

-- what was gathered of adapters that have no module yet
pub gathered_most : (many : ℕ) (g m : ComponentDfg) (ms : List ModuleTranslation)
    → Adds (9 * many) many many (12 * many) g m → AddsAtMost many 1 g m ms ms
gathered_most many g m ms adds =
    let modules = ap (λ (i : ComponentDfg). length i.adapter_modules) adds.rest in
    let places = ap (λ (i : ComponentDfg). length i.adapter_partitionings) adds.rest in
    record {
      few_memories = adds.few_memories;
      few_callbacks = adds.few_callbacks;
      few_post_returns = adds.few_post_returns;
      few_trampolines = adds.few_trampolines;
      few_adapter_modules = omega (arith, modules);
      few_adapters = omega (arith, places);
      few_modules = omega arith;
    }

-- and with their module
pub closed_most : (many : ℕ) (g m h : ComponentDfg) (ms ns : List ModuleTranslation)
    → Adds (9 * many) many many (12 * many) g m → ClosesFew many m h ms ns → AddsAtMost many 1 g h ms ns
closed_most many g m h ms ns adds closes =
    let modules = ap (λ (i : ComponentDfg). length i.adapter_modules) adds.rest in
    let places = ap (λ (i : ComponentDfg). length i.adapter_partitionings) adds.rest in
    let memories = ap (λ (i : ComponentDfg). length i.memories) closes.rest in
    let callbacks = ap (λ (i : ComponentDfg). length i.callbacks) closes.rest in
    let post_returns = ap (λ (i : ComponentDfg). length i.post_returns) closes.rest in
    let trampolines = ap (λ (i : ComponentDfg). length i.trampolines) closes.rest in
    record {
      few_memories = omega (arith, adds.few_memories, memories);
      few_callbacks = omega (arith, adds.few_callbacks, callbacks);
      few_post_returns = omega (arith, adds.few_post_returns, post_returns);
      few_trampolines = omega (arith, adds.few_trampolines, trampolines);
      few_adapter_modules = omega (arith, modules, closes.few_adapter_modules);
      few_adapters = omega (arith, places, closes.few_adapters);
      few_modules = closes.few_modules;
    }

-- one step and another
pub most_twice : (a b c k l n : ℕ) (g m h : ComponentDfg) (ms ns os : List ModuleTranslation) → a + b ≤ c → k + l ≤ n
    → AddsAtMost a k g m ms ns → AddsAtMost b l m h ns os → AddsAtMost c n g h ms os
most_twice a b c k l n g m h ms ns os few short first second = record {
  few_memories = omega (arith, few, first.few_memories, second.few_memories);
  few_callbacks = omega (arith, few, first.few_callbacks, second.few_callbacks);
  few_post_returns = omega (arith, few, first.few_post_returns, second.few_post_returns);
  few_trampolines = omega (arith, few, first.few_trampolines, second.few_trampolines);
  few_adapter_modules = omega (arith, short, first.few_adapter_modules, second.few_adapter_modules);
  few_adapters = omega (arith, few, first.few_adapters, second.few_adapters);
  few_modules = omega (arith, short, first.few_modules, second.few_modules);
}

-- in fewer groups
pub most_fewer : (many k n : ℕ) (g h : ComponentDfg) (ms ns : List ModuleTranslation) → k ≤ n
    → AddsAtMost many k g h ms ns → AddsAtMost many n g h ms ns
most_fewer many k n g h ms ns up most = record {
  few_memories = most.few_memories;
  few_callbacks = most.few_callbacks;
  few_post_returns = most.few_post_returns;
  few_trampolines = most.few_trampolines;
  few_adapter_modules = omega (arith, up, most.few_adapter_modules);
  few_adapters = most.few_adapters;
  few_modules = omega (arith, up, most.few_modules);
}

-- the modules of groups of these lengths
pub made_most : (lift lower : ℕ → FunctionFacts) (clear : ℕ → Bool) (g h : ComponentDfg)
    (ms ns : List ModuleTranslation) (ls : List ℕ)
    → sum_of ls ≤ length g.adapters → Makes lift lower clear g h ms ns ls → AddsAtMost (sum_of ls) (length ls) g h ms ns
made_most lift lower clear g h ms ns ls few makes =
    let gs = cut ls 0 g.adapters in
    let many = length_cut ls 0 g.adapters in
    let places = places_of lift lower clear (length g.adapter_modules) 0 gs in
    record {
      few_memories = makes.keeps.few_memories;
      few_callbacks = makes.keeps.few_callbacks;
      few_post_returns = makes.keeps.few_post_returns;
      few_trampolines = makes.keeps.few_trampolines;
      few_adapter_modules = omega (
        arith,
        ap length makes.has_modules,
        length-append g.adapter_modules makes.adapter_modules,
        length_arguments lift lower clear g h (length ms) 0 gs makes.adapter_modules makes.given,
        many,
      );
      few_adapters = omega (
        arith,
        ap length makes.places,
        length-append g.adapter_partitionings places,
        length_places lift lower clear (length g.adapter_modules) 0 gs,
        held_cut ls 0 g.adapters (omega (arith, few)),
      );
      few_modules = omega (
        arith,
        ap length makes.modules,
        length-append ms (modules_of lift lower clear 0 gs),
        length_modules lift lower clear 0 gs,
        many,
      );
    }

sum_front : (ls : List ℕ) (k : ℕ) → sum_of (take k ls) ≤ sum_of ls
sum_front [] zero = omega arith
sum_front [] (suc k) = omega arith
sum_front (l ∷ ls) zero = omega arith
sum_front (l ∷ ls) (suc k) = let rest = sum_front ls k in omega (arith, rest)

length_front : {A : Type 0} (xs : List A) (k : ℕ) → length (take k xs) ≤ length xs
length_front [] zero = omega arith
length_front [] (suc k) = omega arith
length_front (x ∷ xs) zero = omega arith
length_front (x ∷ xs) (suc k) = let rest = length_front xs k in omega (arith, rest)

-- those of the first so many groups
module _ (b : Types) (g m : ComponentDfg) (ms ns : List ModuleTranslation) (ls : List ℕ) (k : ℕ)
    (known : AreKnown b g.adapters) (all : sum_of ls ≡ length g.adapters)
    (makes : (lift lower : ℕ → FunctionFacts) → AreFacts b g.adapters lift lower
    → Makes lift lower (is_transparent g) g m ms ns (take k ls)) where
  abbrev front : List ℕ
  front = take k ls

  so_far : AddsAtMost (sum_of front) (length front) g m ms ns
  so_far =
      made_most known.lift known.lower (is_transparent g) g m ms ns front (omega (arith, sum_front ls k, all))
      (makes known.lift known.lower known.facts)

  pub made_front : AddsAtMost (length g.adapters) (length ls) g m ms ns
  made_front =
      most_twice (sum_of front) 0 (length g.adapters) (length front) 0 (length ls) g m m ms ns ns
      (omega (arith, sum_front ls k, all)) (omega (arith, length_front ls k)) so_far (nothing_made 0 0 m ns)

  -- and one more
  pub made_next : (h : ComponentDfg) (os : List ModuleTranslation) (d : ℕ) → k < length ls
      → AddsAtMost (get_or ls k d) 1 m h ns os → AddsAtMost (length g.adapters) (length ls) g h ms os
  made_next h os d below adds =
      most_twice (sum_of front) (get_or ls k d) (length g.adapters) (length front) 1 (length ls) g m h ms ns os
      (omega (arith, sum_step ls k d below, all)) (omega (arith, length-take-le k ls (omega (arith, below)), below))
      so_far adds
