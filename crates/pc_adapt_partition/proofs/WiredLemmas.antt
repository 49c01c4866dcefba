-- A graph stays wired when its adapters get modules, if these are.
use Rattle.std.proofs.Common.{Bool, ◌≡◌, ◌⊎◌, ◌<◌, ◌≤◌, inl, inr, ℕ, zero, suc, ◌+◌, true, List, [], ◌∷◌, ◌++◌, length}
use Rattle.std.proofs.Common.{All, Contains, Option, None, Some, refl, sym, ap, subst, ◌∙◌, arith}
use Rattle.std.specs.Prelude.{filter, map, slice_get}
use Rattle.std.proofs.lemmas.List.{append-nil}
use Rattle.std.proofs.lemmas.List.Elements.{All-contains, Contains-append_cases, filter-append}
use Rattle.pc_numbers.specs.declared.component_entity.StaticModuleIndex.{StaticModuleIndex}
use Rattle.pc_spec_plan.specs.PlanView as plan
use Rattle.pc_info.specs.declared.module.AdapterRecord.{AdapterRecord}
use Rattle.pc_info.specs.declared.module.ModuleTranslation.{ModuleTranslation}
use Rattle.pc_info.specs.Modules.{handed_in_view, is_handed_in, module_view}
use Rattle.pc_dfg.specs.declared.adapter.Adapter.{Adapter}
use Rattle.pc_dfg.specs.declared.core_def.CoreDef.{CoreDef}
use Rattle.pc_dfg.specs.declared.dfg.ComponentDfg.{ComponentDfg}
use Rattle.pc_dfg.specs.declared.instance.SideEffect.{SideEffect}
use Rattle.pc_dfg.specs.declared.instance.SideEffect.TheVariants as effect
use Rattle.pc_dfg.specs.Names.{each_of, if_any, in_effect, in_instance, in_resource}
use Rattle.pc_dfg.specs.Numbers.{slots_of}
use Rattle.pc_dfg.proofs.AllLemmas.{all_none, all_one}
use Rattle.pc_dfg_linearize.specs.Wired.{in_a_module, in_a_slot, in_an_adapter, in_an_effect, in_an_export}
use Rattle.pc_dfg_linearize.specs.Wired.{callbacks, is_function, IsWired, IsWiredModule, Occurs, OfFunctions}
use Rattle.pc_dfg_linearize.specs.Wired.{post_returns, reallocs}
use Rattle.pc_spec_adapt.specs.Asked.{FunctionFacts}
use Rattle.pc_adapt_define.specs.Define.{is_taken}
use Rattle.pc_adapt_define.specs.Only.{IsOwnSlot, own_slots}
use Rattle.pc_adapt_define.proofs.OwnSlotLemmas.{own_stands, taken_stands}
use Rattle.pc_adapt_partition.specs.Gathered.{AreGiven}
use Rattle.pc_adapt_partition.specs.Made.{AreArguments, Makes, cut, sum_of}
use Rattle.pc_adapt_partition.specs.Parts.{module_for, modules_of, parts_of, records_from, with_functions}
use Rattle.pc_adapt_partition.specs.Wired.{LiftFunctions}
use Rattle.pc_adapt_partition.proofs.CutLemmas.{stand_cut, StandIn}
use Rattle.pc_adapt_partition.proofs.GivenLemmas.{stand_first, stand_rest, StandFrom}
use Rattle.pc_adapt_partition.proofs.PartLemmas.{length_parts, length_records, length_slice}
use Rattle.pc_adapt_partition.proofs.PlaceLemmas.{no_item, same_item}
use Rattle.pc_adapt_partition.proofs.SplitLemmas.{AllSome}
use Rattle.pc_adapt_partition.proofs.ToldLemmas.{inside, place_of}

-- no group is empty
abbrev AllHaveSome : List (List Adapter) → Type 0
AllHaveSome [] = Unit {0}
AllHaveSome (xs ∷ gs) = (0 < length xs) × AllHaveSome gs

groups_have_some : (ls : List ℕ) (first : ℕ) (xs : List Adapter) → first + sum_of ls ≤ length xs → AllSome ls
    → AllHaveSome (cut ls first xs)
groups_have_some [] first xs few some = tt
groups_have_some (l ∷ ls) first xs few some =
    let long = length_slice first l xs (omega (arith, few)) in (
      omega (arith, long, some.0),
      groups_have_some ls (first + l) xs (omega (arith, few)) some.1,
    )

-- a module with something said of it wasn't handed in
not_handed_in : (t : ModuleTranslation) → 0 < length t.adapters → filter is_handed_in (t ∷ []) ≡ []
not_handed_in t some = by t.adapters refl
  where
    by : (rs : List AdapterRecord) → t.adapters ≡ rs → filter is_handed_in (t ∷ []) ≡ []
    by [] is = absurd (let long = ap length is in omega (arith, some, long))
    by (r ∷ rs) is = rw is refl

length_with : (f : ℕ) (rs : List AdapterRecord) → length (with_functions f rs) ≡ length rs
length_with f [] = refl
length_with f (r ∷ rs) = ap suc (length_with (f + 1) rs)

module _ (lift lower : ℕ → FunctionFacts) (clear : ℕ → Bool) where
  -- no module of adapters was handed in
  none_handed_in : (n : ℕ) (gs : List (List Adapter)) → AllHaveSome gs
      → filter is_handed_in (modules_of lift lower clear n gs) ≡ []
  none_handed_in n [] some = refl
  none_handed_in n (xs ∷ gs) some =
      let ps = parts_of lift lower clear n xs in
      let t = module_for n ps in
      let long : length t.adapters ≡ length xs =
      length_with _ (records_from 0 n ps) ∙ length_records 0 n ps ∙ length_parts lift lower clear n xs in
      filter-append is_handed_in (t ∷ []) (modules_of lift lower clear (n + length xs) gs)
      ∙ ap (λ ts. ts ++ filter is_handed_in (modules_of lift lower clear (n + length xs) gs))
      (not_handed_in t (omega (arith, long, some.0)))
      ∙ none_handed_in (n + length xs) gs some.1

  -- what the arguments of a module take from what there is stands in adapters
  module _ (g h : ComponentDfg) (d : CoreDef) (taken : is_taken d ≡ true) where
    given_occurs : (n : ℕ) (xs : List Adapter) (args : List CoreDef) → StandFrom n g.adapters xs
        → AreGiven g h (parts_of lift lower clear n xs) args → Contains args d → Occurs g d
    given_occurs n [] args stand none has =
        let empty : Contains [] d = subst (λ ds. Contains ds d) none has in absurd (omega (arith, empty.1))
    given_occurs n (x ∷ xs) args stand (own, rest, is, first, others) has =
        elim (Contains-append_cases own rest d (subst (λ ds. Contains ds d) is has)) as (λ _. Occurs g d) [
          | inl front ↦
              in_an_adapter n x (stand_first n g.adapters x xs stand)
              (taken_stands x g h x.lower_options.core_type d taken (lift n) (lower n) (clear n) own first front)
          | inr behind ↦ given_occurs (n + 1) xs rest (stand_rest n g.adapters x xs stand) others behind
        ]

    arguments_occur : (s n : ℕ) (gs : List (List Adapter)) (ams : List (StaticModuleIndex × List CoreDef)) (i : ℕ)
        (a : StaticModuleIndex × List CoreDef) → StandIn n g.adapters gs
        → AreArguments lift lower clear g h s n gs ams → slice_get ams i ≡ Some a → Contains a.1 d → Occurs g d
    arguments_occur s n [] [] i a stand are at has = absurd (no_item a at)
    arguments_occur s n [] (b ∷ ams) i a stand are at has = absurd are
    arguments_occur s n (xs ∷ gs) [] i a stand are at has = absurd are
    arguments_occur s n (xs ∷ gs) (b ∷ ams) zero a stand are at has =
        given_occurs n xs b.1 stand.0 are.1
        (subst (λ (c : StaticModuleIndex × List CoreDef). Contains c.1 d) (sym (same_item at)) has)
    arguments_occur s n (xs ∷ gs) (b ∷ ams) (suc i) a stand are at has =
        arguments_occur (s + 1) (n + length xs) gs ams i a stand.1 are.2 at has

-- what a side effect makes names the same where instances and resources are the same
effect_same : (g h : ComponentDfg) → h.instances ≡ g.instances → h.resources ≡ g.resources → (x : SideEffect)
    → in_effect h x ≡ in_effect g x
unfolding in_effect
effect_same g h instances resources (effect.Instance i c) =
    ap (λ xs. each_of in_instance (slice_get xs i.0)) instances
effect_same g h instances resources (effect.Resource n) =
    ap (λ xs. each_of in_resource (slice_get xs n.0)) resources

-- a definition is one of a function
abbrev IsFunction : CoreDef → Type 0
IsFunction d = is_function d ≡ true

if_function : (c : Option CoreDef) → ((d : CoreDef) → c ≡ Some d → IsFunction d) → All IsFunction (if_any c)
if_function None each = all_none IsFunction
if_function (Some d) each = all_one IsFunction d (each d refl)

-- what an adapter may need slots of functions for is functions
own_functions : (g : ComponentDfg) → LiftFunctions g → (a : ℕ) (x : Adapter) → slice_get g.adapters a ≡ Some x
    → {k : plan.SlotKind} → OfFunctions k → All IsFunction (own_slots x k)
own_functions g lifts a x at reallocs = all_none IsFunction
own_functions g lifts a x at callbacks = if_function x.lift_options.callback (λ d is. lifts.callbacks a x d at is)
own_functions g lifts a x at post_returns =
    if_function x.lift_options.post_return (λ d is. lifts.post_returns a x d at is)

module _ (lift lower : ℕ → FunctionFacts) (clear : ℕ → Bool) (g h : ComponentDfg) (ms ns : List ModuleTranslation)
    (ls : List ℕ)
    (all : sum_of ls ≡ length g.adapters) (some : AllSome ls) (no_modules : g.adapter_modules ≡ [])
    (makes : Makes lift lower clear g h ms ns ls) where
  abbrev gs : List (List Adapter)
  gs = cut ls 0 g.adapters

  few : 0 + sum_of ls ≤ length g.adapters
  few = omega (arith, all)

  -- the modules that were handed in are the same
  pub handed_in_same : handed_in_view ns ≡ handed_in_view ms
  handed_in_same =
      ap (map module_view)
      (ap (filter is_handed_in) makes.modules
      ∙ filter-append is_handed_in ms (modules_of lift lower clear 0 gs)
      ∙ ap (λ ts. filter is_handed_in ms ++ ts)
      (none_handed_in lift lower clear 0 gs (groups_have_some ls 0 g.adapters few some))
      ∙ append-nil (filter is_handed_in ms))

  modules_are : h.adapter_modules ≡ makes.adapter_modules
  modules_are = makes.has_modules ∙ ap (λ xs. xs ++ makes.adapter_modules) no_modules

  -- a slot that is there now was there, or is one of an adapter
  slot_occurs : (k : plan.SlotKind) (d : CoreDef) → Contains (slots_of g k) d ⊎ IsOwnSlot g k d → Occurs g d
  slot_occurs k d (inl before) = let at = place_of (slots_of g k) d before in in_a_slot k at.0 at.1
  slot_occurs k d (inr own) =
      in_an_adapter own.number own.adapter own.at (own_stands own.adapter k d own.own)

  -- what is taken from what there is was taken before
  pub occurs_before : {d : CoreDef} → is_taken d ≡ true → Occurs h d → Occurs g d
  occurs_before taken (in_a_slot k n {d = d} at) =
      slot_occurs k d (makes.keeps.own.slots k d (inside (slots_of h k) n d at))
  occurs_before taken (in_an_effect i x {d = d} at has) =
      let same = effect_same g h (ap (λ (k : ComponentDfg). k.instances) makes.keeps.rest)
      (ap (λ (k : ComponentDfg). k.resources) makes.keeps.rest) x in
      in_an_effect i x (ap (λ (k : ComponentDfg). slice_get k.side_effects i) (sym makes.keeps.rest) ∙ at)
      (subst (λ ds. Contains ds d) same has)
  occurs_before taken (in_a_module m x {d = d} at has) =
      arguments_occur lift lower clear g h d taken (length ms) 0 gs makes.adapter_modules m x
      (stand_cut ls 0 g.adapters few)
      makes.given (ap (λ xs. slice_get xs m) (sym modules_are) ∙ at) has
  occurs_before taken (in_an_adapter a x at has) =
      in_an_adapter a x (ap (λ (k : ComponentDfg). slice_get k.adapters a) (sym makes.keeps.rest) ∙ at) has
  occurs_before taken (in_an_export n ty o at) =
      in_an_export n ty o (ap (λ (k : ComponentDfg). slice_get k.export_items n) (sym makes.keeps.rest) ∙ at)

  module _ (lifts : LiftFunctions g) (wired : IsWired g ms) where
    -- what stands in a slot of functions is one
    function_here : (k : plan.SlotKind) (d : CoreDef) → OfFunctions k → Contains (slots_of g k) d ⊎ IsOwnSlot g k d
        → is_function d ≡ true
    function_here k d of (inl before) =
        let at = place_of (slots_of g k) d before in
        wired.functions k at.0 d of at.1
    function_here k d of (inr own) =
        All-contains IsFunction (own_slots own.adapter k) d (own_functions g lifts own.number own.adapter own.at of)
        own.own

    -- the graph is wired where the new modules are
    pub wired_after : ((m : ℕ) (x : StaticModuleIndex × List CoreDef) → slice_get h.adapter_modules m ≡ Some x
        → IsWiredModule h ns m x) → IsWired h ns
    wired_after modules = record {
      arguments = λ i m args at.
          let found = wired.arguments i m args
          (ap (λ (k : ComponentDfg). slice_get k.instances i) (sym makes.keeps.rest) ∙ at) in
          (found.0, ap (λ rs. slice_get rs m.0) handed_in_same ∙ found.1, found.2);
      items = λ i m args e r at occurs is there.
          wired.items i m args e r (ap (λ (k : ComponentDfg). slice_get k.instances i) (sym makes.keeps.rest) ∙ at)
          (occurs_before refl occurs) is (ap (λ rs. slice_get rs m.0) (sym handed_in_same) ∙ there);
      functions = λ k n d of at. function_here k d of (makes.keeps.own.slots k d (inside (slots_of h k) n d at));
      adapter_modules = modules;
      exports = λ n ty m at.
          let below = wired.exports n ty m
          (ap (λ (k : ComponentDfg). slice_get k.export_items n) (sym makes.keeps.rest) ∙ at) in
          omega (arith, below, ap length handed_in_same);
    }
