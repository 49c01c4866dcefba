-- A module of adapters is wired: with the values of its arguments its functions are its adapters.
use Rattle.std.proofs.Common.{Bool, ◌≡◌, ◌<◌, ◌≤◌, ◌&&◌, ◌==◌, inl, inr, ℕ, zero, suc, ◌+◌, ◌-◌, true, false, not, cond}
use Rattle.std.proofs.Common.{List, [], ◌∷◌, ◌++◌, length, map, filter, Some, All, refl, sym, ap, subst, ◌∙◌}
use Rattle.std.proofs.Common.{arith, length-append, append-nil, eq-eqb, ne_eqb, lt-ltb, flat_map}
use Rattle.std.specs.Prelude.{option_and_then, slice_get}
use Rattle.std.specs.List.{AllZip, list_all}
use Rattle.std.proofs.lemmas.Bool.{cases_lt}
use Rattle.std.proofs.lemmas.List.{append_assoc, length-map}
use Rattle.std.proofs.lemmas.List.Elements.{All-cons, filter-append}
use Rattle.std.proofs.lemmas.List.Filters.{length-filter_both}
use Rattle.std.proofs.lemmas.Option.{slice_get_within}
use Rattle.std.proofs.lemmas.Slice.Zip.{AllZip-long}
use Rattle.pc_entity.proofs.Growing.{slice_get-append}
use Rattle.pc_numbers.specs.declared.component_entity.StaticModuleIndex.{StaticModuleIndex}
use Rattle.pc_numbers.specs.declared.entity_index.EntityIndex.{EntityIndex}
use Rattle.pc_types.specs.declared.parsed.CoreKind.TheVariants as kind
use Rattle.pc_types.specs.Record.{entity_at}
use Rattle.pc_spec_plan.specs.CoreValue as value
use Rattle.pc_spec_plan.specs.CoreValue.{CoreValue, Options, by_index}
use Rattle.pc_spec_plan.specs.Machine.{adapter_from, adapter_module, has_places, record_of, static_item}
use Rattle.pc_spec_plan.specs.PlanView as plan
use Rattle.pc_trampoline.specs.declared.part.Mark.{Mark}
use Rattle.pc_info.specs.declared.module.AdapterRecord.{AdapterRecord}
use Rattle.pc_info.specs.declared.module.ModuleTranslation.{ModuleTranslation}
use Rattle.pc_info.specs.Modules.{adapter_view, adapters_view, function_mark, handed_in_view, is_adapter_module}
use Rattle.pc_info.specs.Modules.{is_handed_in, module_view}
use Rattle.pc_dfg.specs.declared.adapter.Adapter.{Adapter}
use Rattle.pc_dfg.specs.declared.adapter.AdapterOptions.{AdapterOptions}
use Rattle.pc_dfg.specs.declared.core_def.CoreDef.{CoreDef}
use Rattle.pc_dfg.specs.declared.core_def.CoreDef.TheVariants as def
use Rattle.pc_dfg.specs.declared.dfg.ComponentDfg.{ComponentDfg}
use Rattle.pc_dfg.specs.declared.ids.AdapterModuleId.{AdapterModuleId}
use Rattle.pc_dfg.specs.Grows.{Grows}
use Rattle.pc_dfg.specs.Held.{AreHeld, HeldAdapter, HoldsEntry}
use Rattle.pc_dfg.specs.Lists as list
use Rattle.pc_dfg.specs.Means.{Means, MeansSide, means_side}
use Rattle.pc_dfg.specs.Ordered.{IsOrdered}
use Rattle.pc_dfg.proofs.AllLemmas.{all_first, all_rest}
use Rattle.pc_dfg.proofs.KeptLemmas.{means_kept}
use Rattle.pc_dfg.proofs.UniqueLemmas.{means_unique}
use Rattle.pc_dfg_linearize.specs.Wired as wired
use Rattle.pc_dfg_linearize.specs.Wired.{Has, IsWiredModule}
use Rattle.pc_spec_adapt.specs.Asked.{FunctionFacts}
use Rattle.pc_spec_adapt.specs.Record.{Member, functions_in, records_of}
use Rattle.pc_spec_adapt.specs.Split.{IsFewest, IsGoodRun}
use Rattle.pc_adapt.specs.Imports.{is_transparent}
use Rattle.pc_adapt.specs.Planned.{is_wide}
use Rattle.pc_adapt.proofs.PlannedLemmas.{parts_of as adapter_parts}
use Rattle.pc_adapt_groups.specs.Needs.{Needs}
use Rattle.pc_adapt_laws.specs.Found.{HoldFrom, are_counted}
use Rattle.pc_adapt_laws.proofs.FoundLemmas.{found}
use Rattle.pc_adapt_modules.specs.Entities.{signature_number}
use Rattle.pc_adapt_partition.specs.Adapted.{AreAdapted, AreGivenTo, AreModulesOf, functions_for, functions_of}
use Rattle.pc_adapt_partition.specs.Adapted.{member_at, members_from, numbers_of, values_for}
use Rattle.pc_adapt_partition.specs.Wired.{HaveValues}
use Rattle.pc_adapt_partition.proofs.PlaceLemmas.{get_left, get_right, no_item, same_item}
use Rattle.pc_adapt_partition.proofs.RecordLemmas.{has_value}
use Rattle.pc_adapt_partition.proofs.SaidLemmas.{AreAllAdapters, IsAdapter, IsFound, all_placed, is_found, some_said}

-- members of all groups, one after the other
abbrev joined : List (List (Member Mark)) → List (Member Mark)
joined groups = flat_map (λ (members : List (Member Mark)). members) groups

-- a member of a group is one of all
in_joined : (groups : List (List (Member Mark))) (m : ℕ) (members : List (Member Mark)) (j : ℕ) (y : Member Mark)
    → slice_get groups m ≡ Some members → slice_get members j ≡ Some y
    → (k : ℕ) × (slice_get (joined groups) k ≡ Some y)
in_joined [] m members j y at at_j = absurd (no_item members at)
in_joined (xs ∷ groups) zero members j y at at_j =
    (j, slice_get-append xs (joined groups) j y (ap (λ ys. slice_get ys j) (same_item at) ∙ at_j))
in_joined (xs ∷ groups) (suc m) members j y at at_j =
    let later = in_joined groups m members j y at at_j in
    (length xs + later.0, get_right xs (joined groups) later.0 ∙ later.1)

-- a member that is a function of a module
record IsFunction (groups : List (List (Member Mark))) (m a : ℕ) (p : AdapterModuleId × EntityIndex) : Type 0 where
  run : ℕ
  is : p.0.0 ≡ m + run
  members : List (Member Mark)
  at : slice_get groups run ≡ Some members
  place : ℕ
  member : Member Mark
  there : slice_get members place ≡ Some member
  function : p.1 ≡ entity_at kind.Func (functions_in signature_number members + place)
  whole : slice_get (joined groups) a ≡ Some member

length_functions : (m f : ℕ) (xs : List (Member Mark)) → length (functions_for m f xs) ≡ length xs
length_functions m f [] = refl
length_functions m f (x ∷ xs) = ap suc (length_functions m (f + 1) xs)

function_at : (m f : ℕ) (xs : List (Member Mark)) (a : ℕ) (p : AdapterModuleId × EntityIndex)
    → slice_get (functions_for m f xs) a ≡ Some p
    → (x : Member Mark) × (slice_get xs a ≡ Some x) × (p.0.0 ≡ m) × (p.1 ≡ entity_at kind.Func (f + a))
function_at m f [] a p at = absurd (no_item p at)
function_at m f (x ∷ xs) zero p at =
    let same = same_item at in
    let here : f ≡ f + 0 = omega arith in (
      x,
      refl,
      ap (λ (q : AdapterModuleId × EntityIndex). q.0.0) (sym same),
      ap (λ (q : AdapterModuleId × EntityIndex). q.1) (sym same) ∙ ap (entity_at kind.Func) here,
    )
function_at m f (x ∷ xs) (suc a) p at =
    let later = function_at m (f + 1) xs a p at in
    let here : f + 1 + a ≡ f + suc a = omega arith in
    (later.0, later.1, later.2, later.3 ∙ ap (entity_at kind.Func) here)

-- a place of an adapter is a function of the module of its group
is_function : (m : ℕ) (groups : List (List (Member Mark))) (a : ℕ) (p : AdapterModuleId × EntityIndex)
    → slice_get (functions_of m groups) a ≡ Some p → IsFunction groups m a p
is_function m [] a p at = absurd (no_item p at)
is_function m (xs ∷ groups) a p at =
    let f = functions_in signature_number xs in
    let own = functions_for m f xs in
    let rest = functions_of (m + 1) groups in
    let long = length_functions m f xs in
    elim (cases_lt a (length own)) as (λ _. IsFunction (xs ∷ groups) m a p) [
      | inl here ↦
          let it = function_at m f xs a p (sym (get_left own rest a here) ∙ at) in
          record {
            run = 0;
            is = omega (arith, it.2);
            members = xs;
            at = refl;
            place = a;
            member = it.0;
            there = it.1;
            function = it.3;
            whole = slice_get-append xs (joined groups) a it.0 it.1;
          }
      | inr behind ↦
          let b = a - length own in
          let place : length own + b ≡ a = omega (arith, behind) in
          let later = is_function (m + 1) groups b p
          (sym (get_right own rest b) ∙ ap (slice_get (own ++ rest)) place ∙ at) in
          let whole : length xs + b ≡ a = omega (arith, place, long) in
          record {
            run = suc later.run;
            is = omega (arith, later.is);
            members = later.members;
            at = later.at;
            place = later.place;
            member = later.member;
            there = later.there;
            function = later.function;
            whole = ap (slice_get (xs ++ joined groups)) (sym whole)
                ∙ get_right xs (joined groups) b
                ∙ later.whole;
          }
    ]

-- what is said of adapters of another module is passed over
passed_over : (n k : ℕ) (other : n ≡ k → ⊥) (xs : List AdapterRecord)
    → filter (λ (r : plan.AdapterRecord Mark). r.core_module == k) (map (adapter_view n) xs) ≡ []
passed_over n k other [] = refl
passed_over n k other (x ∷ xs) =
    let rest = filter (λ (r : plan.AdapterRecord Mark). r.core_module == k) (map (adapter_view n) xs) in
    ap (λ b. cond b (adapter_view n x ∷ rest) rest) (ne_eqb n k other) ∙ passed_over n k other xs

-- and what is said of those of one is all there
all_stay : (n : ℕ) (xs : List AdapterRecord)
    → filter (λ (r : plan.AdapterRecord Mark). r.core_module == n) (map (adapter_view n) xs)
    ≡ map (adapter_view n) xs
all_stay n [] = refl
all_stay n (x ∷ xs) =
    let rest = filter (λ (r : plan.AdapterRecord Mark). r.core_module == n) (map (adapter_view n) xs) in
    ap (λ b. cond b (adapter_view n x ∷ rest) rest) (eq-eqb n n refl) ∙ ap (λ rs. adapter_view n x ∷ rs) (all_stay n xs)

-- the records of the module of a number
abbrev with_number : ℕ → List (plan.AdapterRecord Mark) → List (plan.AdapterRecord Mark)
with_number k rs = filter (λ (r : plan.AdapterRecord Mark). r.core_module == k) rs

-- modules all of which have lower numbers, or higher ones, say nothing of it
none_below : (n k : ℕ) (ms : List ModuleTranslation) → n + length ms ≤ k → with_number k (adapters_view n ms) ≡ []
none_below n k [] few = refl
none_below n k (m ∷ ms) few =
    filter-append (λ (r : plan.AdapterRecord Mark). r.core_module == k) (map (adapter_view n) m.adapters)
    (adapters_view (n + 1) ms)
    ∙ (λ i. passed_over n k (λ e. omega (arith, e, few)) m.adapters i
    ++ none_below (n + 1) k ms (omega (arith, few)) i)

none_above : (n k : ℕ) (ms : List ModuleTranslation) → k < n → with_number k (adapters_view n ms) ≡ []
none_above n k [] past = refl
none_above n k (m ∷ ms) past =
    filter-append (λ (r : plan.AdapterRecord Mark). r.core_module == k) (map (adapter_view n) m.adapters)
    (adapters_view (n + 1) ms)
    ∙ (λ i. passed_over n k (λ e. omega (arith, e, past)) m.adapters i
    ++ none_above (n + 1) k ms (omega (arith, past)) i)

view_append : (n : ℕ) (ms ns : List ModuleTranslation)
    → adapters_view n (ms ++ ns) ≡ adapters_view n ms ++ adapters_view (n + length ms) ns
view_append n [] ns =
    let here : n ≡ n + 0 = omega arith in
    ap (λ k. adapters_view k ns) here
view_append n (m ∷ ms) ns =
    let own = map (adapter_view n) m.adapters in
    let here : n + 1 + length ms ≡ n + suc (length ms) = omega arith in
    ap (λ rs. own ++ rs)
    (view_append (n + 1) ms ns ∙ ap (λ k. adapters_view (n + 1) ms ++ adapters_view k ns) here)
    ∙ sym (append_assoc own (adapters_view (n + 1) ms) (adapters_view (n + suc (length ms)) ns))

-- what is said of the adapters of a group
said_of_group : (s : ℕ) (groups : List (List (Member Mark))) (added : List ModuleTranslation) (m : ℕ)
    (members : List (Member Mark)) → AreModulesOf s groups added → slice_get groups m ≡ Some members
    → with_number (s + m) (adapters_view s added) ≡ records_of signature_number (s + m) members
said_of_group s [] [] m members are at = absurd (no_item members at)
said_of_group s [] (n ∷ added) m members are at = absurd are
said_of_group s (xs ∷ groups) [] m members are at = absurd are
said_of_group s (xs ∷ groups) (n ∷ added) zero members are at =
    let here : s ≡ s + 0 = omega arith in
    subst (λ k. with_number k (adapters_view s (n ∷ added)) ≡ records_of signature_number k members) here
    (filter-append (λ (r : plan.AdapterRecord Mark). r.core_module == s) (map (adapter_view s) n.adapters)
    (adapters_view (s + 1) added)
    ∙ (λ i. all_stay s n.adapters i ++ none_above (s + 1) s added (omega arith) i)
    ∙ append-nil (map (adapter_view s) n.adapters)
    ∙ are.0.said
    ∙ ap (records_of signature_number s) (same_item at))
said_of_group s (xs ∷ groups) (n ∷ added) (suc m) members are at =
    let here : s + 1 + m ≡ s + suc m = omega arith in
    let k = s + suc m in
    filter-append (λ (r : plan.AdapterRecord Mark). r.core_module == k) (map (adapter_view s) n.adapters)
    (adapters_view (s + 1) added)
    ∙ (λ i. passed_over s k (λ e. omega (arith, e)) n.adapters i ++ with_number k (adapters_view (s + 1) added))
    ∙ subst (λ j. with_number j (adapters_view (s + 1) added) ≡ records_of signature_number j members) here
    (said_of_group (s + 1) groups added m members are.1 at)

-- there are as many modules as groups
many_modules : (s : ℕ) (groups : List (List (Member Mark))) (added : List ModuleTranslation)
    → AreModulesOf s groups added → length added ≡ length groups
many_modules s [] [] are = refl
many_modules s [] (n ∷ added) are = absurd are
many_modules s (xs ∷ groups) [] are = absurd are
many_modules s (xs ∷ groups) (n ∷ added) are = ap suc (many_modules (s + 1) groups added are.1)

-- what the module of a group is given
record IsGiven (h : ComponentDfg) (s : ℕ) (groups : List (List (Member Mark))) (m : ℕ)
    (x : StaticModuleIndex × List CoreDef) : Type 0 where
  members : List (Member Mark)
  at : slice_get groups m ≡ Some members
  number : x.0.0 ≡ s + m
  means : AllZip (Means h) x.1 (values_for members)

is_given : (h : ComponentDfg) (s : ℕ) (groups : List (List (Member Mark)))
    (ams : List (StaticModuleIndex × List CoreDef))
    (m : ℕ) (x : StaticModuleIndex × List CoreDef) → AreGivenTo h s groups ams → slice_get ams m ≡ Some x
    → IsGiven h s groups m x
is_given h s [] [] m x given at = absurd (no_item x at)
is_given h s [] (y ∷ ams) m x given at = absurd given
is_given h s (xs ∷ groups) [] m x given at = absurd given
is_given h s (xs ∷ groups) (y ∷ ams) zero x given at =
    let number = given.0 in
    let own : IsGiven h s (xs ∷ groups) 0 y =
    record { members = xs; at = refl; number = omega (arith, number); means = given.1 } in
    subst (λ z. IsGiven h s (xs ∷ groups) 0 z) (same_item at) own
is_given h s (xs ∷ groups) (y ∷ ams) (suc m) x given at =
    let later = is_given h (s + 1) groups ams m x given.2 at in
    record { members = later.members; at = later.at; number = omega (arith, later.number); means = later.means }

-- runs without those that are empty
abbrev filled : List (List ℕ) → List (List ℕ)
filled [] = []
filled ([] ∷ runs) = filled runs
filled ((a ∷ bs) ∷ runs) = (a ∷ bs) ∷ filled runs

filled_joined : (runs : List (List ℕ))
    → flat_map (λ (run : List ℕ). run) (filled runs) ≡ flat_map (λ (run : List ℕ). run) runs
filled_joined [] = refl
filled_joined ([] ∷ runs) = filled_joined runs
filled_joined ((a ∷ bs) ∷ runs) = ap (λ ks. (a ∷ bs) ++ ks) (filled_joined runs)

filled_all : (P : List ℕ → Type 0) (runs : List (List ℕ)) → All P runs → All P (filled runs)
filled_all P [] all = all
filled_all P ([] ∷ runs) all = filled_all P runs (all_rest P [] runs all)
filled_all P ((a ∷ bs) ∷ runs) all =
    All-cons P (a ∷ bs) (filled runs) (all_first P (a ∷ bs) runs all)
    (filled_all P runs (all_rest P (a ∷ bs) runs all))

filled_few : (runs : List (List ℕ)) → length (filled runs) ≤ length runs
filled_few [] = omega arith
filled_few ([] ∷ runs) = let rest = filled_few runs in omega (arith, rest)
filled_few ((a ∷ bs) ∷ runs) = let rest = filled_few runs in omega (arith, rest)

filled_some : (runs : List (List ℕ)) → length runs ≤ length (filled runs) → (m : ℕ) (run : List ℕ)
    → slice_get runs m ≡ Some run → 0 < length run
filled_some [] long m run at = absurd (no_item run at)
filled_some ([] ∷ runs) long m run at = absurd (omega (arith, long, filled_few runs))
filled_some ((a ∷ bs) ∷ runs) long zero run at =
    let many = ap length (same_item at) in
    omega (arith, many)
filled_some ((a ∷ bs) ∷ runs) long (suc m) run at = filled_some runs (omega (arith, long)) m run at

-- none of the fewest runs is empty
none_empty : (P : ℕ → ℕ → Type 0) (n : ℕ) (runs : List (List ℕ)) → IsFewest P n runs → (m : ℕ) (run : List ℕ)
    → slice_get runs m ≡ Some run → 0 < length run
none_empty P n runs fewest =
    filled_some runs
    (fewest.fewest (filled runs) (record {
      all = filled_joined runs ∙ fewest.split.all;
      good = filled_all (IsGoodRun P) runs fewest.split.good;
    }))

map_at : {A B : Type 0} (f : A → B) (xs : List A) (n : ℕ) (x : A) → slice_get xs n ≡ Some x
    → slice_get (map f xs) n ≡ Some (f x)
map_at f [] n x at = absurd (no_item x at)
map_at f (y ∷ ys) zero x at = ap (λ z. Some (f z)) (same_item at)
map_at f (y ∷ ys) (suc n) x at = map_at f ys n x at

-- a module of a group that isn't empty is one of adapters
none_handed_in : (s : ℕ) (groups : List (List (Member Mark))) (added : List ModuleTranslation)
    → AreModulesOf s groups added
    → ((m : ℕ) (members : List (Member Mark)) → slice_get groups m ≡ Some members → AreAllAdapters members)
    → ((m : ℕ) (members : List (Member Mark)) → slice_get groups m ≡ Some members → 0 < length members)
    → filter is_handed_in added ≡ []
none_handed_in s [] [] are all some = refl
none_handed_in s [] (n ∷ added) are all some = absurd are
none_handed_in s (xs ∷ groups) [] are all some = absurd are
none_handed_in s (xs ∷ groups) (n ∷ added) are all some =
    let many = some_said s (functions_in signature_number xs) 0 xs (all 0 xs refl) (some 0 xs refl) in
    let said = sym (length-map n.adapters (adapter_view s)) ∙ ap length are.0.said in
    ap (λ b. cond b (n ∷ filter is_handed_in added) (filter is_handed_in added))
    (not_handed_in n.adapters (omega (arith, many, said)))
    ∙ none_handed_in (s + 1) groups added are.1 (λ m members at. all (suc m) members at)
    (λ m members at. some (suc m) members at)
  where
    not_handed_in : (bs : List AdapterRecord) → 0 < length bs
        → is_handed_in (record n { adapters = bs }) ≡ false
    not_handed_in [] none = absurd (omega (arith, none))
    not_handed_in (a ∷ bs) there = refl

other_kind : (n : ModuleTranslation) → is_adapter_module n ≡ not (is_handed_in n)
other_kind n = by n.adapters
  where
    by : (bs : List AdapterRecord)
        → is_adapter_module (record n { adapters = bs }) ≡ not (is_handed_in (record n { adapters = bs }))
    by [] = refl
    by (a ∷ bs) = refl

few_handed_in : (ms : List ModuleTranslation) → length (filter is_handed_in ms) ≤ length ms
few_handed_in ms =
    let both = length-filter_both is_handed_in is_adapter_module other_kind ms in
    omega (arith, both)

-- a function of a module of adapters is what its record stands for
item_found : (view : plan.PlanView Mark) (args : List (CoreValue Mark)) (rs : List (plan.AdapterRecord Mark))
    (e : EntityIndex) (f : ℕ) (r : plan.AdapterRecord Mark) (v w : CoreValue Mark) → e ≡ entity_at kind.Func f
    → record_of rs f ≡ Some r → adapter_from view args r ≡ Some v → v ≡ w
    → static_item view 0 args (by_index e) (adapter_module rs) ≡ Some w
item_found view args rs e f r v w is there resolves same =
    ap (λ x. static_item view 0 args (by_index x) (adapter_module rs)) is
    ∙ ap (option_and_then (adapter_from view args)) there
    ∙ resolves
    ∙ ap Some same

-- the component instances of both sides of an adapter are counted
counted_sides : (g : ComponentDfg) (p : plan.PlanView Mark) (ty ty2 : Mark) (callee : CoreValue Mark)
    {o r : AdapterOptions} {lift lower : Options Mark} → MeansSide g o lift → MeansSide g r lower
    → o.instance.0 < p.counts.component_instances → r.instance.0 < p.counts.component_instances
    → are_counted p (value.adapter ty lift ty2 lower callee) ≡ true
counted_sides g p ty ty2 callee (means_side {x = o} a b c) (means_side {x = r} a2 b2 c2) lift lower =
    let first = lt-ltb o.instance.0 p.counts.component_instances lift in
    let second = lt-ltb r.instance.0 p.counts.component_instances lower in
    λ i. first i && second i

held_adapter : (g : ComponentDfg) → AreHeld g → (a : ℕ) (x : Adapter) → slice_get g.adapters a ≡ Some x
    → HeldAdapter g x
unfolding HoldsEntry
held_adapter g held a x at = held list.adapters a x at

module _ (lift lower : ℕ → FunctionFacts) (clear : ℕ → Bool) (vs : ℕ → CoreValue Mark) where
  -- a member is that of an adapter
  member_is : (n : ℕ) (xs : List Adapter) (k : ℕ) (y : Member Mark)
      → slice_get (members_from lift lower clear vs n xs) k ≡ Some y
      → (x : Adapter) × (slice_get xs k ≡ Some x) × (y ≡ member_at lift lower clear vs (n + k) x)
  member_is n [] k y at = absurd (no_item y at)
  member_is n (x ∷ xs) zero y at =
      let here : n ≡ n + 0 = omega arith in
      (x, refl, sym (same_item at) ∙ ap (λ j. member_at lift lower clear vs j x) here)
  member_is n (x ∷ xs) (suc k) y at =
      let later = member_is (n + 1) xs k y at in
      let here : n + 1 + k ≡ n + suc k = omega arith in
      (later.0, later.1, later.2 ∙ ap (λ j. member_at lift lower clear vs j later.0) here)

  module _ (g : ComponentDfg) (mean : HaveValues g vs) where
    is_adapter : (n : ℕ) (x : Adapter) → slice_get g.adapters n ≡ Some x → IsAdapter (member_at lift lower clear vs n x)
    is_adapter n x at =
        let parts = adapter_parts g (record { 0 = n }) x at (has_value g lift lower clear vs mean n x at) refl in
        record {
          lift_facts = lift n;
          lower_facts = lower n;
          clear = clear n;
          lift_wide = is_wide x.lift_options.data_model;
          lower_wide = is_wide x.lower_options.data_model;
          lift_type = function_mark x.lift_ty;
          lift = parts.lift;
          lower_type = function_mark x.lower_ty;
          lower = parts.lower;
          callee = parts.callee;
          is = parts.is;
          imports = refl;
        }

    -- its component instances are counted by a plan that has those of a graph that has grown
    is_counted_by : (n : ℕ) (x : Adapter) (p : plan.PlanView Mark) → AreHeld g → slice_get g.adapters n ≡ Some x
        → g.num_runtime_component_instances ≤ p.counts.component_instances → are_counted p (vs n) ≡ true
    is_counted_by n x p held at more =
        let parts = adapter_parts g (record { 0 = n }) x at (has_value g lift lower clear vs mean n x at) refl in
        let own = held_adapter g held n x at in
        ap (are_counted p) parts.is
        ∙ counted_sides g p (function_mark x.lift_ty) (function_mark x.lower_ty) parts.callee parts.of_lift
        parts.of_lower (omega (arith, own.lift, more)) (omega (arith, own.lower, more))

module _ (lift lower : ℕ → FunctionFacts) (vs : ℕ → CoreValue Mark) where
  module _ (g h : ComponentDfg) (ms ns : List ModuleTranslation) (o : IsOrdered g) (grows : Grows g h)
      (mean : HaveValues g vs) (adapted : AreAdapted lift lower vs g h ms ns) where
    abbrev groups : List (List (Member Mark))
    groups = adapted.groups

    -- each member is an adapter
    are_adapters : (m : ℕ) (members : List (Member Mark)) → slice_get groups m ≡ Some members → AreAllAdapters members
    are_adapters m members at j y at_j =
        let whole = in_joined groups m members j y at at_j in
        let it = member_is lift lower (is_transparent g) vs 0 g.adapters whole.0 y
        (ap (λ xs. slice_get xs whole.0) (sym adapted.all) ∙ whole.1) in
        let number : 0 + whole.0 ≡ whole.0 = omega arith in
        subst IsAdapter (sym (it.2 ∙ ap (λ k. member_at lift lower (is_transparent g) vs k it.0) number))
        (is_adapter lift lower (is_transparent g) vs g mean whole.0 it.0 it.1)

    are_some : (m : ℕ) (members : List (Member Mark)) → slice_get groups m ≡ Some members → 0 < length members
    are_some m members at =
        let there = none_empty (Needs g) (length g.adapters) (map numbers_of groups) adapted.fewest m
        (numbers_of members) (map_at numbers_of groups m members at) in
        omega (arith, there, length-map members (λ (x : Member Mark). x.number))

    -- no module of adapters counts as handed in
    handed_in : length (handed_in_view ns) ≤ length ms
    handed_in =
        let all = ap (filter is_handed_in) adapted.modules
        ∙ filter-append is_handed_in ms adapted.added
        ∙ ap (λ xs. filter is_handed_in ms ++ xs)
        (none_handed_in (length ms) groups adapted.added adapted.are are_adapters are_some)
        ∙ append-nil (filter is_handed_in ms) in
        omega (
          arith,
          length-map (filter is_handed_in ns) module_view,
          ap length all,
          few_handed_in ms,
        )

    -- what is said of the adapters of a group, among all modules
    said : (m : ℕ) (members : List (Member Mark)) → slice_get groups m ≡ Some members
        → wired.records_of h ns (length ms + m) ≡ records_of signature_number (length ms + m) members
    said m members at =
        let k = length ms + m in
        let here : 0 + length ms ≡ length ms = omega arith in
        ap (λ xs. with_number k (adapters_view 0 xs)) adapted.modules
        ∙ ap (with_number k) (view_append 0 ms adapted.added)
        ∙ filter-append (λ (r : plan.AdapterRecord Mark). r.core_module == k) (adapters_view 0 ms)
        (adapters_view (0 + length ms) adapted.added)
        ∙ (λ i. none_below 0 k ms (omega arith) i ++ with_number k (adapters_view (here i) adapted.added))
        ∙ said_of_group (length ms) groups adapted.added m members adapted.are at

    -- with the values of its arguments a function of a module is an adapter
    resolved : (m : ℕ) (members : List (Member Mark)) (a : ℕ) (p : AdapterModuleId × EntityIndex) (v : CoreValue Mark)
        (view : plan.PlanView Mark) → slice_get groups m ≡ Some members → slice_get h.adapter_partitionings a ≡ Some p
        → p.0.0 ≡ m → Means h (def.Adapter (record { 0 = a })) v → Has h ns view
        → static_item view 0 (values_for members) (by_index p.1)
        (adapter_module (records_of signature_number (length ms + m) members))
        ≡ Some v
    resolved m members a p v view at at_a is means has =
        let it = is_function 0 groups a p (ap (λ xs. slice_get xs a) (sym adapted.places) ∙ at_a) in
        let run : it.run ≡ m = omega (arith, it.is, is) in
        let same : it.members ≡ members = same_item (sym it.at ∙ ap (slice_get groups) run ∙ at) in
        let own = member_is lift lower (is_transparent g) vs 0 g.adapters a it.member
        (ap (λ xs. slice_get xs a) (sym adapted.all) ∙ it.whole) in
        let number : 0 + a ≡ a = omega arith in
        let member = own.2 ∙ ap (λ k. member_at lift lower (is_transparent g) vs k own.0) number in
        let args = values_for members in
        let f = functions_in signature_number members in
        let rs = records_of signature_number (length ms + m) members in
        let there = ap (λ xs. slice_get xs it.place) (sym same) ∙ it.there in
        let hold : HoldFrom args 0 args =
        λ i w at_i.
        let here : 0 + i ≡ i = omega arith in
        ap (slice_get args) here ∙ at_i in
        let found_one = subst (λ y. IsFound args rs (length ms + m) (f + it.place) y) member
        (is_found args (length ms + m) f 0 members it.place it.member (are_adapters m members at) there hold) in
        let counted = is_counted_by lift lower (is_transparent g) vs g mean a own.0 view o.held own.1
        (omega (arith, grows.component_instances, has.component_instances)) in
        let resolves = found view args (length ms + m) (f + it.place) found_one.first a (lift a) (lower a)
        (is_transparent g a)
        (is_wide own.0.lift_options.data_model) (is_wide own.0.lower_options.data_model) (vs a) found_one.said
        found_one.hold counted found_one.is in
        let value = means_unique h
        (means_kept g h grows (has_value g lift lower (is_transparent g) vs mean a own.0 own.1)) means in
        let entity = it.function ∙ ap (λ xs. entity_at kind.Func (functions_in signature_number xs + it.place)) same in
        item_found view args rs p.1 (f + it.place) found_one.said (vs a) v entity found_one.there resolves value

    -- the modules of adapters are wired
    pub modules_wired : (m : ℕ) (x : StaticModuleIndex × List CoreDef) → slice_get h.adapter_modules m ≡ Some x
        → IsWiredModule h ns m x
    modules_wired m x at =
        let given = is_given h (length ms) groups h.adapter_modules m x adapted.given at in
        let within = slice_get_within groups m given.members given.at in
        let both = length-filter_both is_handed_in is_adapter_module other_kind ns in
        let all = ap length adapted.modules ∙ length-append ms adapted.added in
        let records = ap (wired.records_of h ns) given.number ∙ said m given.members given.at in
        let many = AllZip-long (Means h) x.1 (values_for given.members) given.means in
        record {
          behind = omega (arith, handed_in, given.number);
          there = omega (
            arith,
            given.number,
            within,
            both,
            all,
            length-map (filter is_handed_in ns) module_view,
            many_modules (length ms) groups adapted.added adapted.are,
          );
          places = ap (list_all (has_places (length x.1))) records
              ∙ all_placed (length x.1) (length ms + m) (functions_in signature_number given.members) 0 given.members
              (are_adapters m given.members given.at) (omega (arith, many));
          values = values_for given.members;
          means = given.means;
          functions = λ a p v view at_a is means has.
              ap (λ rs. static_item view 0 (values_for given.members) (by_index p.1) (adapter_module rs)) records
              ∙ resolved m given.members a p v view given.at at_a is means has;
        }
