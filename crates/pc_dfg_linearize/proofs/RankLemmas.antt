-- A rank for each id of an ordered graph whose adapters are grouped: what an id leads to has a lower one.
use Rattle.std.proofs.Common.{◌≡◌, ◌+◌, ◌<◌, ◌≤◌, ℕ, zero, suc, List, [], ◌∷◌, All, Contains, sum_by, Some, refl, ap}
use Rattle.std.proofs.Common.{sym, subst, ◌∙◌, arith}
use Rattle.std.specs.Prelude.{slice_get, slice_index_or}
use Rattle.std.specs.List.{flat_map}
use Rattle.std.proofs.lemmas.List.Elements.{All-nil, All-cons, All-head, All-tail, All-weaker, All-contains}
use Rattle.std.proofs.lemmas.List.Elements.{All-contains_itself}
use Rattle.std.proofs.lemmas.List.Sums.{sum_by-cons}
use Rattle.std.proofs.lemmas.Option.{same_Some}
use Rattle.pc_numbers.specs.declared.component_entity.StaticModuleIndex.{StaticModuleIndex}
use Rattle.pc_numbers.specs.declared.module_entity.ModuleInternedTypeIndex.{ModuleInternedTypeIndex}
use Rattle.pc_numbers.specs.declared.runtime.TrampolineIndex.{TrampolineIndex}
use Rattle.pc_types.specs.declared.intrinsic.UnsafeIntrinsic.{UnsafeIntrinsic}
use Rattle.pc_spec_plan.specs.PlanView as plan
use Rattle.pc_trampoline.specs.declared.part.Mark.{Mark}
use Rattle.pc_dfg.specs.declared.core_def.CoreDef.{CoreDef}
use Rattle.pc_dfg.specs.declared.core_def.CoreDef.TheVariants as def
use Rattle.pc_dfg.specs.declared.dfg.ComponentDfg.{ComponentDfg}
use Rattle.pc_dfg.specs.declared.options.CanonicalOptions.{CanonicalOptions}
use Rattle.pc_dfg.specs.Held.{HeldOptions, HoldsEntry}
use Rattle.pc_dfg.specs.Lists as list
use Rattle.pc_dfg.specs.Names as names
use Rattle.pc_dfg.specs.Names.{an_adapter, each_of, Names, names_adapter, names_through, OneNames}
use Rattle.pc_dfg.specs.Numbers.{SignedTrampoline, options_entry, trampoline_entry, slots_of}
use Rattle.pc_dfg.specs.Ordered.{IsBelow, IsOrdered}
use Rattle.pc_dfg_linearize.specs.declared.id.Id.{Id}
use Rattle.pc_dfg_linearize.specs.declared.id.Id.TheVariants as id
use Rattle.pc_dfg_linearize.specs.Grouped.{IsIn, IsGrouped}
use Rattle.pc_dfg_linearize.specs.Parts.{slot_id, options_id, in_def, in_entry, in_trampoline, parts}
use Rattle.pc_dfg_linearize.proofs.PartLemmas.{all_one, all_each, all_made, entry_parts, trampoline_parts}

module _ {A : Type 0} where
  sum_same : (f h : A → ℕ) (xs : List A) → All (λ x. f x ≡ h x) xs → sum_by f xs ≡ sum_by h xs
  sum_same f h [] all = refl
  sum_same f h (x ∷ xs) all =
      omega (
        arith,
        sum_by-cons f x xs,
        sum_by-cons h x xs,
        All-head (λ x. f x ≡ h x) x xs all,
        sum_same f h xs (All-tail (λ x. f x ≡ h x) x xs all),
      )

  sum_above : (f : A → ℕ) (xs : List A) → All (λ x. f x ≤ sum_by f xs) xs
  sum_above f [] = All-nil (λ x. f x ≤ sum_by f [])
  sum_above f (x ∷ xs) =
      let whole = sum_by-cons f x xs in
      let more : (y : A) → f y ≤ sum_by f xs → f y ≤ sum_by f (x ∷ xs) = λ y h. omega (arith, whole, h) in
      All-cons (λ y. f y ≤ sum_by f (x ∷ xs)) x xs (omega (arith, whole))
      (All-weaker (λ y. f y ≤ sum_by f xs) (λ y. f y ≤ sum_by f (x ∷ xs)) more xs (sum_above f xs))

-- how many ids an id leads to, as far as so many steps show
size : ComponentDfg → ℕ → Id → ℕ
size g zero x = 0
size g (suc n) x = sum_by (λ y. suc (size g n y)) (parts g x)

-- all ways from an id end within so many steps
EndsIn : ComponentDfg → ℕ → Id → Type 0
EndsIn g zero x = ⊥
EndsIn g (suc n) x = All (EndsIn g n) (parts g x)

-- all ways from an id end
abbrev Ends : ComponentDfg → Id → Type 0
Ends g x = (n : ℕ) × EndsIn g n x

module _ (g : ComponentDfg) where
  ends_later : (n m : ℕ) (x : Id) → n ≤ m → EndsIn g n x → EndsIn g m x
  unfolding EndsIn
  ends_later zero m x below ends = absurd ends
  ends_later (suc n) zero x below ends = absurd (omega (arith, below))
  ends_later (suc n) (suc m) x below ends =
      All-weaker (EndsIn g n) (EndsIn g m) (λ y. ends_later n m y (omega (arith, below))) (parts g x) ends

  size_stays : (n m : ℕ) (x : Id) → n ≤ m → EndsIn g n x → size g n x ≡ size g m x
  unfolding EndsIn size
  size_stays zero m x below ends = absurd ends
  size_stays (suc n) zero x below ends = absurd (omega (arith, below))
  size_stays (suc n) (suc m) x below ends =
      let f = λ (y : Id). suc (size g n y) in
      let h = λ (y : Id). suc (size g m y) in
      let same : (y : Id) → EndsIn g n y → f y ≡ h y =
      λ y here. ap (λ k. suc k) (size_stays n m y (omega (arith, below)) here) in
      sum_same f h (parts g x) (All-weaker (EndsIn g n) (λ y. f y ≡ h y) same (parts g x) ends)

  all_in : (xs : List Id) → All (Ends g) xs → (n : ℕ) × All (EndsIn g n) xs
  all_in [] all = (0, All-nil (EndsIn g 0))
  all_in (x ∷ xs) all =
      let here = All-head (Ends g) x xs all in
      let rest = all_in xs (All-tail (Ends g) x xs all) in
      let n = here.0 + rest.0 in
      let first = ends_later here.0 n x (omega arith) here.1 in
      let others = All-weaker (EndsIn g rest.0) (EndsIn g n) (λ y. ends_later rest.0 n y (omega arith)) xs rest.1 in
      (n, All-cons (EndsIn g n) x xs first others)

  -- all ways from an id end where all from its parts do
  ends : (x : Id) → All (Ends g) (parts g x) → Ends g x
  unfolding EndsIn
  ends x all = let n = all_in (parts g x) all in (suc n.0, n.1)

  rank_of : ((x : Id) → Ends g x) → Id → ℕ
  rank_of all x = size g (all x).0 x

  rank_lowers : (all : (x : Id) → Ends g x) (x y : Id) → Contains (parts g x) y → rank_of all y < rank_of all x
  unfolding rank_of size
  rank_lowers all x y inside =
      let n = (all x).0 + (all y).0 in
      let whole = size_stays (all x).0 (suc n) x (omega arith) (all x).1 in
      let part = size_stays (all y).0 n y (omega arith) (all y).1 in
      let f = λ (z : Id). suc (size g n z) in
      let above = All-contains (λ z. f z ≤ sum_by f (parts g x)) (parts g x) y (sum_above f (parts g x)) inside in
      omega (arith, whole, part, above)

  -- all ways from what a definition depends on end
  abbrev DefEnds : CoreDef → Type 0
  DefEnds d = All (Ends g) (in_def g d)

  slot_ends : (k : plan.SlotKind) (n : ℕ) → ((d : CoreDef) → slice_get (slots_of g k) n ≡ Some d → DefEnds d)
      → Ends g (slot_id k n)
  unfolding parts
  slot_ends plan.memory n each =
      ends (slot_id plan.memory n) (all_each (Ends g) (in_def g) (slice_get (slots_of g plan.memory) n) each)
  slot_ends plan.table n each =
      ends (slot_id plan.table n) (all_each (Ends g) (in_def g) (slice_get (slots_of g plan.table) n) each)
  slot_ends plan.realloc n each =
      ends (slot_id plan.realloc n) (all_each (Ends g) (in_def g) (slice_get (slots_of g plan.realloc) n) each)
  slot_ends plan.callback n each =
      ends (slot_id plan.callback n) (all_each (Ends g) (in_def g) (slice_get (slots_of g plan.callback) n) each)
  slot_ends plan.post_return n each =
      ends (slot_id plan.post_return n) (all_each (Ends g) (in_def g) (slice_get (slots_of g plan.post_return) n) each)

  options_end : (o : ℕ)
      → ((x : CanonicalOptions) → slice_get g.options o ≡ Some x → All (Ends g) (in_entry (options_entry x)))
      → Ends g (options_id o)
  unfolding parts
  options_end o each =
      ends (options_id o) (all_each (Ends g) (λ x. in_entry (options_entry x)) (slice_get g.options o) each)

  lowering_ends : (t : TrampolineIndex) → Ends g (id.Lowering t)
  unfolding parts
  lowering_ends t = ends (id.Lowering t) (All-nil (Ends g))

  intrinsic_ends : (s : ModuleInternedTypeIndex) (i : UnsafeIntrinsic) → Ends g (id.Intrinsic s i)
  unfolding parts
  intrinsic_ends s i = ends (id.Intrinsic s i) (All-nil (Ends g))

-- a definition below a trampoline is below later ones
pub later_below : (j k : ℕ) (d : CoreDef) → j ≤ k → IsBelow j d → IsBelow k d
unfolding IsBelow
later_below j k (def.Trampoline t) more below = omega (arith, more, below)
later_below j k (def.Export e) more below = tt
later_below j k (def.InstanceFlags c) more below = tt
later_below j k (def.UnsafeIntrinsic s i) more below = tt
later_below j k (def.Adapter a) more below = tt

module _ (g : ComponentDfg) (ordered : IsOrdered g) where
  one_slot : (k : plan.SlotKind) (n : ℕ) (d : CoreDef) → slice_get (slots_of g k) n ≡ Some d → DefEnds g d
      → Ends g (slot_id k n)
  one_slot k n d at here =
      slot_ends g k n (λ d' at'. subst (DefEnds g) (same_Some d d' (sym at ∙ at')) here)

  one_entry : (o : ℕ) (x : CanonicalOptions) → slice_get g.options o ≡ Some x
      → All (DefEnds g) (names.in_entry g (options_entry x)) → Ends g (options_id o)
  unfolding HoldsEntry
  one_entry o x at here =
      let entry = entry_parts g ordered.held (DefEnds g) (Ends g) one_slot (options_entry x)
      (ordered.held list.options o x at) here in
      options_end g o
      (λ x' at'. subst (λ y. All (Ends g) (in_entry (options_entry y))) (same_Some x x' (sym at ∙ at')) entry)

  trampoline_ends : (t : TrampolineIndex)
      → ((x : SignedTrampoline) → slice_get g.trampolines t.0 ≡ Some x
      → All (DefEnds g) (names.in_trampoline g (trampoline_entry x))) → Ends g (id.Trampoline t)
  unfolding parts HoldsEntry
  trampoline_ends t each =
      let one : (x : SignedTrampoline) → slice_get g.trampolines t.0 ≡ Some x
      → All (Ends g) (in_trampoline t (trampoline_entry x)) =
      λ x at. trampoline_parts g ordered.held (DefEnds g) (Ends g) one_slot one_entry t (trampoline_entry x)
      (λ here. lowering_ends g t) (ordered.held list.trampolines t.0 x at) (each x at) in
      ends g (id.Trampoline t)
      (all_each (Ends g) (λ x. in_trampoline t (trampoline_entry x)) (slice_get g.trampolines t.0) one)

  -- the modules of the adapters that a definition names end
  AdaptersEnd : CoreDef → Type 0
  AdaptersEnd d = (a m : ℕ) → Names g d (an_adapter a) → IsIn g a m → Ends g (id.AdapterModule (record { 0 = m }))

  below_ends : (k : ℕ) (d : CoreDef) → IsBelow k d → AdaptersEnd d → DefEnds g d
  unfolding IsBelow AdaptersEnd
  below_ends zero (def.Trampoline t) below adapters = absurd (omega (arith, below))
  below_ends (suc k) (def.Trampoline t) below adapters =
      let inner : (x : SignedTrampoline) → slice_get g.trampolines t.0 ≡ Some x
      → All (DefEnds g) (names.in_trampoline g (trampoline_entry x)) =
      λ x at. let ds = names.in_trampoline g (trampoline_entry x) in
      let lower = ordered.trampolines t.0 x at in
      let one : (d : CoreDef) → IsBelow t.0 d × Contains ds d → DefEnds g d =
      λ d here. below_ends k d (later_below t.0 k d (omega (arith, below)) here.0)
      (λ a m named is. adapters a m (names_through at here.1 named) is) in
      All-weaker (λ d. IsBelow t.0 d × Contains ds d) (DefEnds g) one ds
      (λ j d within. (lower j d within, All-contains_itself ds j d within)) in
      all_one (Ends g) (id.Trampoline t) (trampoline_ends t inner)
  below_ends k (def.Export e) below adapters = All-nil (Ends g)
  below_ends k (def.InstanceFlags c) below adapters = All-nil (Ends g)
  below_ends k (def.UnsafeIntrinsic s i) below adapters = all_one (Ends g) (id.Intrinsic s i) (intrinsic_ends g s i)
  below_ends k (def.Adapter a) below adapters =
      all_each (Ends g) (λ p. id.AdapterModule p.0 ∷ []) (slice_get g.adapter_partitionings a.0)
      (λ p at. all_one (Ends g) (id.AdapterModule p.0) (adapters a.0 p.0.0 names_adapter (p, at, refl)))

  def_ends : (d : CoreDef) → AdaptersEnd d → DefEnds g d
  unfolding IsBelow
  def_ends (def.Trampoline t) adapters = below_ends (suc t.0) (def.Trampoline t) (omega arith) adapters
  def_ends (def.Export e) adapters = below_ends 0 (def.Export e) tt adapters
  def_ends (def.InstanceFlags c) adapters = below_ends 0 (def.InstanceFlags c) tt adapters
  def_ends (def.UnsafeIntrinsic s i) adapters = below_ends 0 (def.UnsafeIntrinsic s i) tt adapters
  def_ends (def.Adapter a) adapters = below_ends 0 (def.Adapter a) tt adapters

  module _ (grouped : IsGrouped g) where
    module_ends : (m k : ℕ) → k < m → Ends g (id.AdapterModule (record { 0 = k }))
    unfolding parts OneNames AdaptersEnd
    module_ends zero k below = absurd (omega (arith, below))
    module_ends (suc m) k below =
        let x_ends : (x : StaticModuleIndex × List CoreDef) → slice_get g.adapter_modules k ≡ Some x
        → All (Ends g) (flat_map (in_def g) x.1) =
        λ x at. let one : (d : CoreDef) → Contains x.1 d → DefEnds g d =
        λ d inside. def_ends d (λ a j named is. module_ends m j
        (omega (arith, below, grouped.lower k j a x.1 (x, at, refl) (d, inside, named) is))) in
        all_made (Ends g) (Contains x.1) (in_def g) one x.1 (All-contains_itself x.1) in
        ends g (id.AdapterModule (record { 0 = k }))
        (all_each (Ends g) (λ x. flat_map (in_def g) x.1) (slice_get g.adapter_modules k) x_ends)

    each_def : (d : CoreDef) → DefEnds g d
    unfolding AdaptersEnd
    each_def d = def_ends d (λ a m named is. module_ends (suc m) m (omega arith))

    each_slot : (k : plan.SlotKind) (n : ℕ) → Ends g (slot_id k n)
    each_slot k n = slot_ends g k n (λ d at. each_def d)

    each_entry : (e : plan.PlanOptions Mark) → HeldOptions g e → All (Ends g) (in_entry e)
    each_entry e here =
        entry_parts g ordered.held (λ d. Unit {0}) (Ends g) (λ k n d at all. each_slot k n) e here
        (λ k d within. tt)

    each_id : (x : Id) → Ends g x
    unfolding HoldsEntry
    each_id (id.Memory n) = each_slot plan.memory n.0
    each_id (id.Table n) = each_slot plan.table n.0
    each_id (id.Realloc n) = each_slot plan.realloc n.0
    each_id (id.Callback n) = each_slot plan.callback n.0
    each_id (id.PostReturn n) = each_slot plan.post_return n.0
    each_id (id.Options o) =
        options_end g o.0 (λ x at. each_entry (options_entry x) (ordered.held list.options o.0 x at))
    each_id (id.Lowering t) = lowering_ends g t
    each_id (id.Trampoline t) =
        trampoline_ends t
        (λ x at. λ k d within. each_def (slice_index_or (names.in_trampoline g (trampoline_entry x)) k d))
    each_id (id.Intrinsic s i) = intrinsic_ends g s i
    each_id (id.AdapterModule m) = module_ends (suc m.0) m.0 (omega arith)

-- each id has a rank, and what it leads to has lower ones
pub lowers : {g : ComponentDfg} → IsOrdered g → IsGrouped g
    → (rank : Id → ℕ) × ((x y : Id) → Contains (parts g x) y → rank y < rank x)
lowers {g} ordered grouped =
    let all = each_id g ordered grouped in
    (rank_of g all, rank_lowers g all)
