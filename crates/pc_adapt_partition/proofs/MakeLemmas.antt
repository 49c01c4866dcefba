-- Modules of groups of adapters, one after the other.
use Rattle.std.proofs.Common.{Bool, ◌≡◌, ◌⊎◌, ◌<◌, ◌≤◌, inl, inr, ℕ, ◌+◌, List, [], ◌∷◌, ◌++◌, length, refl, sym, ap}
use Rattle.std.proofs.Common.{subst, ◌∙◌, arith, length-append}
use Rattle.std.proofs.lemmas.List.{append_assoc, append-nil}
use Rattle.pc_info.specs.declared.module.ModuleTranslation.{ModuleTranslation}
use Rattle.pc_numbers.specs.declared.entity_index.EntityIndex.{EntityIndex}
use Rattle.pc_dfg.specs.declared.adapter.Adapter.{Adapter}
use Rattle.pc_dfg.specs.declared.dfg.ComponentDfg.{ComponentDfg}
use Rattle.pc_dfg.specs.declared.ids.AdapterModuleId.{AdapterModuleId}
use Rattle.pc_dfg.specs.Ordered.{IsOrdered}
use Rattle.pc_dfg.proofs.GrowLemmas.{grows_refl, grows_trans}
use Rattle.pc_spec_adapt.specs.Asked.{FunctionFacts}
use Rattle.pc_adapt.specs.Imports.{is_transparent}
use Rattle.pc_adapt_define.proofs.OwnSlotLemmas.{own_none, own_twice}
use Rattle.pc_adapt_partition.specs.Gathered.{AreGiven}
use Rattle.pc_adapt_partition.specs.Made.{AddsModule, AreArguments, HasLong, Keeps, Makes, cut, sum_of}
use Rattle.pc_adapt_partition.specs.Parts.{functions_from, functions_in, module_for, modules_of, parts_of, places_of}
use Rattle.pc_adapt_partition.specs.Parts.{slice, total_imports}
use Rattle.pc_adapt_partition.proofs.CutLemmas.{arguments_later, arguments_more, cut_more, held_cut, held_in}
use Rattle.pc_adapt_partition.proofs.CutLemmas.{length_arguments, length_modules, long_more, modules_more}
use Rattle.pc_adapt_partition.proofs.CutLemmas.{places_more, stand_cut, stand_slice, sum_more}
use Rattle.pc_adapt_partition.proofs.GivenLemmas.{given_between, parts_held}
use Rattle.pc_adapt_partition.proofs.PartLemmas.{length_slice}

pub keeps_none : (g : ComponentDfg) → Keeps 0 g g
keeps_none g = record {
  grows = grows_refl g;
  ordered = λ o. o;
  rest = refl;
  own = own_none g;
  few_memories = omega arith;
  few_callbacks = omega arith;
  few_post_returns = omega arith;
  few_trampolines = omega arith;
}

pub keeps_twice : (a b c : ℕ) (g m h : ComponentDfg) → a + b ≡ c → Keeps a g m → Keeps b m h → Keeps c g h
keeps_twice a b c g m h all first second = record {
  grows = grows_trans g m h first.grows second.grows;
  ordered = λ o. second.ordered (first.ordered o);
  rest = second.rest ∙ (λ j. record (first.rest j) {
    memories = h.memories;
    callbacks = h.callbacks;
    post_returns = h.post_returns;
    trampolines = h.trampolines;
    adapter_modules = h.adapter_modules;
    adapter_partitionings = h.adapter_partitionings;
  });
  own = own_twice g m h (ap (λ (i : ComponentDfg). i.adapters) first.rest) first.own second.own;
  few_memories = omega (arith, all, first.few_memories, second.few_memories);
  few_callbacks = omega (arith, all, first.few_callbacks, second.few_callbacks);
  few_post_returns = omega (arith, all, first.few_post_returns, second.few_post_returns);
  few_trampolines = omega (arith, all, first.few_trampolines, second.few_trampolines);
}

-- the adapters are as they were
pub same_adapters : (k : ℕ) (g h : ComponentDfg) → Keeps k g h → h.adapters ≡ g.adapters
same_adapters k g h keeps = ap (λ (i : ComponentDfg). i.adapters) keeps.rest

-- and so is which of them are transparent
pub same_transparent : (k : ℕ) (g h : ComponentDfg) → Keeps k g h → is_transparent h ≡ is_transparent g
same_transparent k g h keeps = ap (λ (i : ComponentDfg). is_transparent i) keeps.rest

module _ (lift lower : ℕ → FunctionFacts) (clear : ℕ → Bool) where
  -- no module is made
  pub makes_none : (g : ComponentDfg) (ms : List ModuleTranslation) → Makes lift lower clear g g ms ms []
  makes_none g ms = record {
    keeps = keeps_none g;
    modules = sym (append-nil ms);
    adapter_modules = [];
    has_modules = sym (append-nil g.adapter_modules);
    given = tt;
    places = sym (append-nil g.adapter_partitionings);
    room = λ long. long;
  }

  module _ (g m h : ComponentDfg) (ms ns os : List ModuleTranslation) (ls : List ℕ) (l : ℕ) (o : IsOrdered g)
      (few : sum_of ls + l ≤ length g.adapters) (makes : Makes lift lower clear g m ms ns ls)
      (adds : AddsModule lift lower clear m h ns os (sum_of ls) (slice (sum_of ls) l g.adapters)) where
    abbrev gs : List (List Adapter)
    gs = cut ls 0 g.adapters

    abbrev xs : List Adapter
    xs = slice (sum_of ls) l g.adapters

    many : length xs ≡ l
    many = length_slice (sum_of ls) l g.adapters few

    held : 0 + held_in gs ≡ sum_of ls
    held = omega (arith, held_cut ls 0 g.adapters (omega (arith, few)))

    -- the groups with one more
    more : cut (ls ++ l ∷ []) 0 g.adapters ≡ gs ++ xs ∷ []
    more =
        let here : 0 + sum_of ls ≡ sum_of ls = omega arith in
        cut_more ls l 0 g.adapters ∙ ap (λ k. gs ++ slice k l g.adapters ∷ []) here

    -- the module of the last, and its functions
    abbrev last : ℕ → List ModuleTranslation
    last k = module_for k (parts_of lift lower clear k xs) ∷ []

    abbrev own : ℕ → ℕ → List (AdapterModuleId × EntityIndex)
    own m k = functions_from m (functions_in k (parts_of lift lower clear k xs)) (length xs)

    modules_are : modules_of lift lower clear 0 (cut (ls ++ l ∷ []) 0 g.adapters)
        ≡ modules_of lift lower clear 0 gs ++ last (sum_of ls)
    modules_are =
        ap (modules_of lift lower clear 0) more
        ∙ modules_more lift lower clear 0 gs xs
        ∙ ap (λ k. modules_of lift lower clear 0 gs ++ last k) held

    not_long : HasLong lift lower clear 0 (cut (ls ++ l ∷ []) 0 g.adapters) → ⊥
    not_long long = by (long_more lift lower clear 0 gs xs (subst (HasLong lift lower clear 0) more long))
      where
        by : HasLong lift lower clear 0 gs ⊎
            (4294967294 < total_imports (parts_of lift lower clear (0 + held_in gs) xs)) → ⊥
        by (inl here) = makes.room here
        by (inr last) =
            let there = subst (λ k. 4294967294 < total_imports (parts_of lift lower clear k xs)) held last in
            omega (arith, there, adds.room)

    long_ns : length ns ≡ length ms + length gs
    long_ns =
        omega (
          arith,
          ap length makes.modules,
          length-append ms (modules_of lift lower clear 0 gs),
          length_modules lift lower clear 0 gs,
        )

    long_ams : length m.adapter_modules ≡ length g.adapter_modules + length gs
    long_ams =
        omega (
          arith,
          ap length makes.has_modules,
          length-append g.adapter_modules makes.adapter_modules,
          length_arguments lift lower clear g m (length ms) 0 gs makes.adapter_modules makes.given,
        )

    arguments : AreArguments lift lower clear g h (length ms) 0 (cut (ls ++ l ∷ []) 0 g.adapters)
        (makes.adapter_modules ++ (record { 0 = length ns }, adds.args) ∷ [])
    arguments =
        let heldm = (makes.keeps.ordered o).held in
        let given = given_between g m h h makes.keeps.grows (grows_refl h) heldm
        (adds.keeps.ordered (makes.keeps.ordered o)).held (parts_of lift lower clear (sum_of ls) xs) adds.args
        (parts_held g o.held lift lower clear (sum_of ls) xs (stand_slice (sum_of ls) l g.adapters)) adds.given in
        subst (λ ys. AreArguments lift lower clear g h (length ms) 0 ys
        (makes.adapter_modules ++ (record { 0 = length ns }, adds.args) ∷ [])) (sym more)
        (arguments_more lift lower clear g h (length ms) 0 gs makes.adapter_modules xs
        (record { 0 = length ns }) adds.args
        (arguments_later lift lower clear g m h adds.keeps.grows o.held heldm (length ms) 0 gs makes.adapter_modules
        (stand_cut ls 0 g.adapters (omega (arith, few))) makes.given)
        long_ns
        (subst (λ k. AreGiven g h (parts_of lift lower clear k xs) adds.args) (sym held) given))

    places_are : places_of lift lower clear (length g.adapter_modules) 0 (cut (ls ++ l ∷ []) 0 g.adapters)
        ≡ places_of lift lower clear (length g.adapter_modules) 0 gs ++ own (length m.adapter_modules) (sum_of ls)
    places_are =
        ap (places_of lift lower clear (length g.adapter_modules) 0) more
        ∙ places_more lift lower clear (length g.adapter_modules) 0 gs xs
        ∙ (λ i. places_of lift lower clear (length g.adapter_modules) 0 gs ++ own (sym long_ams i) (held i))

    -- one module more
    pub makes_more : Makes lift lower clear g h ms os (ls ++ l ∷ [])
    makes_more = record {
      keeps = keeps_twice (sum_of ls) (length xs) (sum_of (ls ++ l ∷ [])) g m h (omega (arith, many, sum_more ls l))
          makes.keeps adds.keeps;
      modules = adds.modules
          ∙ ap (λ ys. ys ++ last (sum_of ls)) makes.modules
          ∙ append_assoc ms (modules_of lift lower clear 0 gs) (last (sum_of ls))
          ∙ ap (λ ys. ms ++ ys) (sym modules_are);
      adapter_modules = makes.adapter_modules ++ (record { 0 = length ns }, adds.args) ∷ [];
      has_modules = adds.adapter_modules
          ∙ ap (λ ys. ys ++ (record { 0 = length ns }, adds.args) ∷ []) makes.has_modules
          ∙ append_assoc g.adapter_modules makes.adapter_modules ((record { 0 = length ns }, adds.args) ∷ []);
      given = arguments;
      places = adds.places
          ∙ ap (λ ys. ys ++ own (length m.adapter_modules) (sum_of ls)) makes.places
          ∙ append_assoc g.adapter_partitionings (places_of lift lower clear (length g.adapter_modules) 0 gs)
          (own (length m.adapter_modules) (sum_of ls))
          ∙ ap (λ ys. g.adapter_partitionings ++ ys) (sym places_are);
      room = not_long;
    }
