-- The stack stands for less work after each task.
use Rattle.std.proofs.Common.{◌≡◌, ◌+◌, ◌++◌, ◌⊎◌, inl, inr, ◌<◌, ◌≤◌, ℕ, zero, suc, List, [], ◌∷◌, All, length, sum_by}
use Rattle.std.proofs.Common.{refl, sym, ap, ◌∙◌, arith}
use Rattle.std.specs.Prelude.{slice_get}
use Rattle.std.specs.List.{Contains, flat_map}
use Rattle.std.proofs.lemmas.List.Elements.{All-contains, All-weaker, All-contains_itself, Contains-append_left}
use Rattle.std.proofs.lemmas.List.Elements.{Contains-append_right}
use Rattle.std.proofs.lemmas.List.FromFn.{length-map-range_with_len, get_or-map-range_with_len}
use Rattle.std.proofs.lemmas.List.Sums.{sum_by-cons, sum_by-append, sum_by_push}
use Rattle.pc_dfg.specs.declared.dfg.ComponentDfg.{ComponentDfg}
use Rattle.pc_dfg.specs.Names.{each_of}
use Rattle.pc_dfg.specs.Numbers.{options_entry, trampoline_entry, slots_of}
use Rattle.pc_dfg.specs.Ordered.{IsOrdered}
use Rattle.pc_dfg_linearize.specs.declared.id.Id.{Id}
use Rattle.pc_dfg_linearize.specs.declared.id.Id.TheVariants as id
use Rattle.pc_dfg_linearize.specs.declared.id.Task.{Task}
use Rattle.pc_dfg_linearize.specs.declared.id.Task.TheVariants as task
use Rattle.pc_dfg_linearize.specs.declared.state.Finish.{Finish}
use Rattle.pc_dfg_linearize.specs.Grouped.{IsGrouped}
use Rattle.pc_dfg_linearize.specs.Once.{Alike, unsigned}
use Rattle.pc_dfg_linearize.specs.Ready.{Leads, here, through}
use Rattle.pc_dfg_linearize.specs.Parts.{parts, in_def, in_entry, in_trampoline}
use Rattle.pc_dfg_linearize.specs.Stack.{opens, Takes}
use Rattle.pc_dfg_linearize.specs.Work.{ids_below, ids_in, work, far, weight}
use Rattle.pc_dfg_linearize.proofs.OpenLemmas.{no_memory_parts, no_table_parts}
use Rattle.pc_dfg_linearize.proofs.RankLemmas.{lowers}
use Rattle.pc_dfg_linearize.proofs.SumLemmas.{below_itself, below_more, below_one, below_other, is_below, sum_above, sum_less}
use Rattle.pc_dfg_linearize.proofs.SumLemmas.{sum_ones, sum_same}

-- an id by number is among those of its kind
among_below : (f : ℕ → Id) (n k : ℕ) → k < n → Contains (ids_below f n) (f k)
among_below f n k below = (
  k,
  omega (arith, length-map-range_with_len f 0 n, below),
  get_or-map-range_with_len f 0 n k k (f k) below (omega arith),
)

-- what is looked up is nothing, or within the list
entry_cases : {A B : Type 0} (f : A → List B) (xs : List A) (k : ℕ)
    → (each_of f (slice_get xs k) ≡ []) ⊎ (k < length xs)
entry_cases f [] k = inl refl
entry_cases f (x ∷ xs) zero = inr (omega arith)
entry_cases f (x ∷ xs) (suc k) =
    elim (entry_cases f xs k) [ inl none ↦ inl none | inr below ↦ inr (omega (arith, below)) ]

module _ (g : ComponentDfg) where
  -- an id without parts
  IsLeaf : Id → Type 0
  IsLeaf x = parts g x ≡ []

  abbrev reallocs : List Id
  reallocs = ids_below (λ n. id.Realloc (record { 0 = n })) (length g.reallocs)

  abbrev callbacks : List Id
  callbacks = ids_below (λ n. id.Callback (record { 0 = n })) (length g.callbacks)

  abbrev post_returns : List Id
  post_returns = ids_below (λ n. id.PostReturn (record { 0 = n })) (length g.post_returns)

  abbrev options : List Id
  options = ids_below (λ n. id.Options (record { 0 = n })) (length g.options)

  abbrev trampolines : List Id
  trampolines = ids_below (λ n. id.Trampoline (record { 0 = n })) (length g.trampolines)

  abbrev adapter_modules : List Id
  adapter_modules = ids_below (λ n. id.AdapterModule (record { 0 = n })) (length g.adapter_modules)

  -- an id has no parts, or is one of those that may have some
  leaf_or_in : (x : Id) → IsLeaf x ⊎ Contains (ids_in g) x
  unfolding IsLeaf ids_in parts slots_of
  leaf_or_in (id.Memory n) = inl (no_memory_parts g n)
  leaf_or_in (id.Table n) = inl (no_table_parts g n)
  leaf_or_in (id.Lowering t) = inl refl
  leaf_or_in (id.Intrinsic s i) = inl refl
  leaf_or_in (id.Realloc n) =
      elim (entry_cases (in_def g) g.reallocs n.0) [
        | inl none ↦ inl none
        | inr below ↦ inr (Contains-append_left _ adapter_modules _ (Contains-append_left _ trampolines _
            (Contains-append_left _ options _ (Contains-append_left _ post_returns _ (Contains-append_left _ callbacks _
            (among_below (λ k. id.Realloc (record { 0 = k })) (length g.reallocs) n.0 below))))))
      ]
  leaf_or_in (id.Callback n) =
      elim (entry_cases (in_def g) g.callbacks n.0) [
        | inl none ↦ inl none
        | inr below ↦ inr (Contains-append_left _ adapter_modules _ (Contains-append_left _ trampolines _
            (Contains-append_left _ options _ (Contains-append_left _ post_returns _ (Contains-append_right reallocs _ _
            (among_below (λ k. id.Callback (record { 0 = k })) (length g.callbacks) n.0 below))))))
      ]
  leaf_or_in (id.PostReturn n) =
      elim (entry_cases (in_def g) g.post_returns n.0) [
        | inl none ↦ inl none
        | inr below ↦ inr (Contains-append_left _ adapter_modules _ (Contains-append_left _ trampolines _
            (Contains-append_left _ options _ (Contains-append_right (reallocs ++ callbacks) _ _
            (among_below (λ k. id.PostReturn (record { 0 = k })) (length g.post_returns) n.0 below)))))
      ]
  leaf_or_in (id.Options n) =
      elim (entry_cases (λ x. in_entry (options_entry x)) g.options n.0) [
        | inl none ↦ inl none
        | inr below ↦ inr (Contains-append_left _ adapter_modules _ (Contains-append_left _ trampolines _
            (Contains-append_right (reallocs ++ callbacks ++ post_returns) _ _
            (among_below (λ k. id.Options (record { 0 = k })) (length g.options) n.0 below))))
      ]
  leaf_or_in (id.Trampoline n) =
      elim (entry_cases (λ x. in_trampoline n (trampoline_entry x)) g.trampolines n.0) [
        | inl none ↦ inl none
        | inr below ↦ inr (Contains-append_left _ adapter_modules _
            (Contains-append_right (reallocs ++ callbacks ++ post_returns ++ options) _ _
            (among_below (λ k. id.Trampoline (record { 0 = k })) (length g.trampolines) n.0 below)))
      ]
  leaf_or_in (id.AdapterModule n) =
      elim (entry_cases (λ x. flat_map (in_def g) x.1) g.adapter_modules n.0) [
        | inl none ↦ inl none
        | inr below ↦ inr (Contains-append_right (reallocs ++ callbacks ++ post_returns ++ options ++ trampolines) _ _
            (among_below (λ k. id.AdapterModule (record { 0 = k })) (length g.adapter_modules) n.0 below))
      ]

  leaf_work : (n : ℕ) (x : Id) → IsLeaf x → work g (suc n) x ≡ 2
  unfolding IsLeaf work
  leaf_work n x none = ap (λ xs. 2 + sum_by (work g n) xs) none

  module _ (rank : Id → ℕ) (lower : (x y : Id) → Contains (parts g x) y → rank y < rank x) where
    -- how many ids that may have parts have a lower rank
    lower_ids : Id → ℕ
    lower_ids x = sum_by (λ z. is_below (rank z) (rank x)) (ids_in g)

    fewer_lower : (x y : Id) → rank y < rank x → Contains (ids_in g) y → lower_ids y < lower_ids x
    unfolding lower_ids
    fewer_lower x y less among =
        let f : Id → ℕ = λ z. is_below (rank z) (rank y) in
        let h : Id → ℕ = λ z. is_below (rank z) (rank x) in
        let here : f y < h y = omega (arith, below_itself (rank y), below_other (rank y) (rank x) less) in
        sum_less f h (λ z. below_more (rank z) (rank y) (rank x) (omega (arith, less))) (ids_in g) y among here

    -- an id leads no further than there are ids of lower rank
    work_stays : (n : ℕ) (x : Id) → 2 + lower_ids x ≤ n → work g n x ≡ work g (suc n) x
    unfolding work
    work_stays zero x enough = absurd (omega (arith, enough))
    work_stays (suc zero) x enough = absurd (omega (arith, enough))
    work_stays (suc (suc n)) x enough =
        let same : (y : Id) → Contains (parts g x) y → work g (suc n) y ≡ work g (suc (suc n)) y =
        λ y inside. elim (leaf_or_in y) [
          | inl none ↦ leaf_work n y none ∙ sym (leaf_work (suc n) y none)
          | inr among ↦ work_stays (suc n) y (omega (arith, enough, fewer_lower x y (lower x y inside) among))
        ] in
        ap (λ k. 2 + k)
        (sum_same (work g (suc n)) (work g (suc (suc n))) (parts g x)
        (All-weaker (Contains (parts g x)) (λ y. work g (suc n) y ≡ work g (suc (suc n)) y) same (parts g x)
        (All-contains_itself (parts g x))))

    far_enough : (x : Id) → 2 + lower_ids x ≤ far g
    unfolding far lower_ids
    far_enough x =
        omega (arith, sum_ones (λ z. is_below (rank z) (rank x)) (λ z. below_one (rank z) (rank x)) (ids_in g))

  module _ (ordered : IsOrdered g) (grouped : IsGrouped g) where
    -- the tasks that an id leads to are two, and those of its parts
    far_work : (x : Id) → work g (far g) x ≡ 2 + sum_by (work g (far g)) (parts g x)
    unfolding work
    far_work x =
        let r = lowers {g = g} ordered grouped in
        work_stays r.0 r.1 (far g) x (far_enough r.0 r.1 x)

    -- a part leads to less work, and so does all that an id leads to but itself
    pub parts_less : (x : Id) → All (λ y. work g (far g) y < work g (far g) x) (parts g x)
    parts_less x =
        let f = work g (far g) in
        let below : (y : Id) → f y ≤ sum_by f (parts g x) → f y < f x = λ y here. omega (arith, far_work x, here) in
        All-weaker (λ y. f y ≤ sum_by f (parts g x)) (λ y. f y < f x) below (parts g x) (sum_above f (parts g x))

    pub leads_less : (x y : Id) → Leads g x y → work g (far g) y ≤ work g (far g) x
    leads_less x y here = omega arith
    leads_less x y (through {y = z} inside leads) =
        let first = All-contains (λ y. work g (far g) y < work g (far g) x) (parts g x) z (parts_less x) inside in
        omega (arith, first, leads_less z y leads)

    unsigned_work : (x : Id) → work g (far g) (unsigned x) ≡ work g (far g) x
    unfolding unsigned parts
    unsigned_work (id.Memory n) = refl
    unsigned_work (id.Table n) = refl
    unsigned_work (id.Realloc n) = refl
    unsigned_work (id.Callback n) = refl
    unsigned_work (id.PostReturn n) = refl
    unsigned_work (id.Options o) = refl
    unsigned_work (id.Lowering t) = refl
    unsigned_work (id.Trampoline t) = refl
    unsigned_work (id.Intrinsic s i) = far_work (id.Intrinsic (record { 0 = 0 }) i) ∙ sym (far_work (id.Intrinsic s i))
    unsigned_work (id.AdapterModule m) = refl

    -- what has one number leads to the same work
    pub alike_work : (x y : Id) → Alike x y → work g (far g) x ≡ work g (far g) y
    alike_work x y alike = sym (unsigned_work x) ∙ ap (work g (far g)) alike ∙ unsigned_work y

    opens_weigh : (xs : List Id) → sum_by (weight g) (opens xs) ≡ sum_by (work g (far g)) xs
    opens_weigh [] = refl
    opens_weigh (x ∷ xs) =
        omega
        (arith, sum_by_push (weight g) (opens xs) (task.Open x), sum_by-cons (work g (far g)) x xs, opens_weigh xs)

    begun_weighs : (rest : List Task) (x : Id)
        → sum_by (weight g) (rest ++ task.Close x ∷ opens (parts g x)) < sum_by (weight g) (rest ++ task.Open x ∷ [])
    begun_weighs rest x =
        omega (
          arith,
          sum_by-append (weight g) rest (task.Close x ∷ opens (parts g x)),
          sum_by-cons (weight g) (task.Close x) (opens (parts g x)),
          sum_by_push (weight g) rest (task.Open x),
          opens_weigh (parts g x),
          far_work x,
        )

    positive : (x : Id) → 0 < work g (far g) x
    positive x = omega (arith, far_work x)

    -- one turn of the loop
    pub turn_lightens : (f f' : Finish) (tasks rest new : List Task) (t : Task) → tasks ≡ rest ++ t ∷ []
        → Takes g f f' rest new t → sum_by (weight g) new < sum_by (weight g) tasks
    turn_lightens f f' tasks rest new (task.Open x) is (same, inl (has, e)) =
        omega (
          arith,
          ap (sum_by (weight g)) e,
          ap (sum_by (weight g)) is,
          sum_by_push (weight g) rest (task.Open x),
          positive x,
        )
    turn_lightens f f' tasks rest new (task.Open x) is (same, inr (none, e)) =
        omega (arith, ap (sum_by (weight g)) e, ap (sum_by (weight g)) is, begun_weighs rest x)
    turn_lightens f f' tasks rest new (task.Close x) is (same, by) =
        omega
        (arith, ap (sum_by (weight g)) same, ap (sum_by (weight g)) is, sum_by_push (weight g) rest (task.Close x))
