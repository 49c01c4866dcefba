-- A plan whose numbers are given once has no more of them than the graph has entries.
use Rattle.std.proofs.Common.{◌≡◌, ◌<◌, ◌≤◌, ◌+◌, ◌++◌, ◌∷◌, [], ℕ, zero, suc, List, length, map, sum_by, Option, None, Some}
use Rattle.std.proofs.Common.{option_map, ◌⊎◌, inl, inr, ap, subst, ◌∙◌, arith}
use Rattle.std.specs.Prelude.{option_and_then, slice_get}
use Rattle.std.specs.List.{Contains}
use Rattle.std.proofs.lemmas.List.{length-append, length-map}
use Rattle.std.proofs.lemmas.List.Elements.{Contains-append_left, Contains-append_right}
use Rattle.std.proofs.lemmas.Option.{get_or_from_slice_get, none-some, slice_get-map, slice_get_within}
use Rattle.pc_numbers.specs.declared.runtime.RuntimeInstanceIndex.{RuntimeInstanceIndex}
use Rattle.pc_spec_plan.specs.PlanView as plan
use Rattle.pc_dfg.specs.declared.dfg.ComponentDfg.{ComponentDfg}
use Rattle.pc_dfg.specs.Numbers.{memory_def, slots_of, table_def}
use Rattle.pc_dfg_linearize.specs.declared.id.Id.{Id}
use Rattle.pc_dfg_linearize.specs.declared.id.Id.TheVariants as id
use Rattle.pc_dfg_linearize.specs.declared.state.Finish.{Finish}
use Rattle.pc_dfg_linearize.specs.Added.{IsFull}
use Rattle.pc_dfg_linearize.specs.Closed.{Fits}
use Rattle.pc_dfg_linearize.specs.Full.{HasTooMany, of_instances, of_options, of_slots, of_trampolines}
use Rattle.pc_dfg_linearize.specs.Numbers.{number_at}
use Rattle.pc_dfg_linearize.specs.Once.{AreGiven, Fills, Origin, number_in_run, of_instance, of_module}
use Rattle.pc_dfg_linearize.specs.Outgrown.{IsLeftOver}
use Rattle.pc_dfg_linearize.specs.Parts.{number_of, slot_numbers}
use Rattle.pc_dfg_linearize.specs.Plan.{slot_count}
use Rattle.pc_dfg_linearize.specs.Ready.{CanClose, IsReadySlot}
use Rattle.pc_dfg_linearize.proofs.FillLemmas.{in_run, mapped_back}
use Rattle.pc_dfg_linearize.proofs.LoweringLemmas.{lowering_can}
use Rattle.pc_dfg_linearize.proofs.ModuleLemmas.{module_can}
use Rattle.pc_dfg_linearize.proofs.SumLemmas.{below_itself, below_more, below_one, below_other, is_below, sum_less, sum_ones}

-- 1 for a number that is there and below another one, else 0
given_below : ℕ → Option ℕ → ℕ
given_below n None = 0
given_below n (Some m) = is_below m n

given_more : (n : ℕ) (o : Option ℕ) → given_below n o ≤ given_below (n + 1) o
unfolding given_below
given_more n None = omega arith
given_more n (Some m) = below_more m n (n + 1) (omega arith)

given_one : (n : ℕ) (o : Option ℕ) → given_below n o ≤ 1
unfolding given_below
given_one n None = omega arith
given_one n (Some m) = below_one m n

given_last : (n : ℕ) → given_below n (Some n) < given_below (n + 1) (Some n)
unfolding given_below
given_last n = omega (arith, below_itself n, below_other n (n + 1) (omega arith))

-- where all numbers below a count are in a list, as many are below the count
as_many : (ns : List (Option ℕ)) (n : ℕ) → ((k : ℕ) → k < n → Contains ns (Some k)) → n ≤ sum_by (given_below n) ns
as_many ns zero each = omega arith
as_many ns (suc n) each =
    let before = as_many ns n (λ k below. each k (omega (arith, below))) in
    let more : sum_by (given_below n) ns < sum_by (given_below (n + 1)) ns =
    sum_less (given_below n) (given_below (n + 1)) (given_more n) ns (Some n) (each n (omega arith)) (given_last n) in
    let last : n + 1 ≤ sum_by (given_below (n + 1)) ns = omega (arith, before, more) in
    let P : ℕ → Type 0 = λ m. m ≤ sum_by (given_below m) ns in
    subst P (omega arith) last

given_none : (n : ℕ) → given_below n None < 1
unfolding given_below
given_none n = omega arith

-- and where an entry has no number, the list is longer
longer : (ns : List (Option ℕ)) (n : ℕ) → ((k : ℕ) → k < n → Contains ns (Some k)) → Contains ns None → n < length ns
longer ns n each none =
    let less = sum_less (given_below n) (λ (o : Option ℕ). 1) (given_one n) ns None none (given_none n) in
    omega (arith, as_many ns n each, less, sum_ones (λ (o : Option ℕ). 1) (λ o. omega arith) ns)

-- so the list is no shorter
no_shorter : (ns : List (Option ℕ)) (n : ℕ) → ((k : ℕ) → k < n → Contains ns (Some k)) → n ≤ length ns
no_shorter ns n each = omega (arith, as_many ns n each, sum_ones (given_below n) (given_one n) ns)

-- what is at a place is in the list
at_contains : {A : Type 0} (xs : List A) (k : ℕ) (x : A) → slice_get xs k ≡ Some x → Contains xs x
at_contains xs k x at = (k, slice_get_within xs k x at, get_or_from_slice_get xs k x x at)

joined_back : (o : Option (Option ℕ)) (n : ℕ) → option_and_then (λ (m : Option ℕ). m) o ≡ Some n → o ≡ Some (Some n)
joined_back None n is = absurd (none-some n is)
joined_back (Some m) n is = ap (λ k. Some k) is

number_contains : (ns : List (Option ℕ)) (k n : ℕ) → number_at ns k ≡ Some n → Contains ns (Some n)
number_contains ns k n is = at_contains ns k (Some n) (joined_back (slice_get ns k) n is)

-- a list has as many entries as there are numbers
pub count_within : (ns : List (Option ℕ)) (count : ℕ) → AreGiven (number_at ns) count → count ≤ length ns
count_within ns count given =
    no_shorter ns count (λ n below. let k = given.given n below in number_contains ns k.0 n k.1)

-- an entry that has no number
none_there : (ns : List (Option ℕ)) (k : ℕ) → k < length ns → number_at ns k ≡ None → slice_get ns k ≡ Some None
none_there [] k within none = absurd (omega (arith, within))
none_there (o ∷ ns) zero within none = ap (λ m. Some m) none
none_there (o ∷ ns) (suc k) within none = none_there ns k (omega (arith, within)) none

none_contained : (ns : List (Option ℕ)) (k : ℕ) → k < length ns → number_at ns k ≡ None → Contains ns None
none_contained ns k within none = at_contains ns k None (none_there ns k within none)

-- a list has more entries than there are numbers, where an entry has none
count_below : (ns : List (Option ℕ)) (count : ℕ) → AreGiven (number_at ns) count → (k : ℕ) → k < length ns
    → number_at ns k ≡ None → count < length ns
count_below ns count given k within none =
    longer ns count (λ n below. let j = given.given n below in number_contains ns j.0 n j.1)
    (none_contained ns k within none)

-- the numbers of all core instances of the run
run_numbers : Finish → List (Option ℕ)
run_numbers f = map (λ (n : RuntimeInstanceIndex). Some n.0) f.instances ++ f.numbers.adapter_modules

run_contains : (f : Finish) (x : Origin) (n : ℕ) → number_in_run f x ≡ Some n → Contains (run_numbers f) (Some n)
unfolding run_numbers
run_contains f (of_module k) n is =
    Contains-append_right (map (λ (m : RuntimeInstanceIndex). Some m.0) f.instances) f.numbers.adapter_modules (Some n)
    (number_contains f.numbers.adapter_modules k n is)
run_contains f (of_instance k) n is =
    let v : RuntimeInstanceIndex → Option ℕ = λ m. Some m.0 in
    let found = mapped_back in_run (slice_get f.instances k) n is in
    Contains-append_left (map v f.instances) f.numbers.adapter_modules (Some n)
    (at_contains (map v f.instances) k (Some n)
    (slice_get-map v f.instances k ∙ ap (option_map v) found.1 ∙ ap (λ m. Some (Some m)) found.2))

-- there are no more core instances in the run than come from somewhere
run_within : (f : Finish) → AreGiven (number_in_run f) f.counts.instances
    → f.counts.instances ≤ length f.instances + length f.numbers.adapter_modules
unfolding run_numbers
run_within f given =
    let v : RuntimeInstanceIndex → Option ℕ = λ m. Some m.0 in
    let all = no_shorter (run_numbers f) f.counts.instances
    (λ n below. let x = given.given n below in run_contains f x.0 n x.1) in
    omega (arith, all, length-append (map v f.instances) f.numbers.adapter_modules, length-map f.instances v)

-- and fewer where a module of adapters has no instance yet
run_below : (f : Finish) → AreGiven (number_in_run f) f.counts.instances → (k : ℕ)
    → k < length f.numbers.adapter_modules → number_at f.numbers.adapter_modules k ≡ None
    → f.counts.instances < length f.instances + length f.numbers.adapter_modules
unfolding run_numbers
run_below f given k within none =
    let v : RuntimeInstanceIndex → Option ℕ = λ m. Some m.0 in
    let all = longer (run_numbers f) f.counts.instances
    (λ n below. let x = given.given n below in run_contains f x.0 n x.1)
    (Contains-append_right (map v f.instances) f.numbers.adapter_modules None
    (none_contained f.numbers.adapter_modules k within none)) in
    omega (arith, all, length-append (map v f.instances) f.numbers.adapter_modules, length-map f.instances v)

module _ (g : ComponentDfg) (f : Finish) (fits : Fits g f) (fills : Fills f) where
  -- fewer slots are filled than the graph has entries for, where one isn't
  slots_below : (k : plan.SlotKind) (n : ℕ) → n < length (slots_of g k) → number_at (slot_numbers f k) n ≡ None
      → slot_count f k < length (slots_of g k)
  unfolding slots_of
  slots_below plan.memory n within none =
      let same = length-map g.memories memory_def in
      let below = count_below f.numbers.memories f.counts.memories (fills.slots plan.memory) n
      (omega (arith, same, within, fits.memories)) none in
      omega (arith, same, fits.memories, below)
  slots_below plan.table n within none =
      let same = length-map g.tables table_def in
      let below = count_below f.numbers.tables f.counts.tables (fills.slots plan.table) n
      (omega (arith, same, within, fits.tables)) none in
      omega (arith, same, fits.tables, below)
  slots_below plan.realloc n within none =
      let below = count_below f.numbers.reallocs f.counts.reallocs (fills.slots plan.realloc) n
      (omega (arith, within, fits.reallocs)) none in
      omega (arith, fits.reallocs, below)
  slots_below plan.callback n within none =
      let below = count_below f.numbers.callbacks f.counts.callbacks (fills.slots plan.callback) n
      (omega (arith, within, fits.callbacks)) none in
      omega (arith, fits.callbacks, below)
  slots_below plan.post_return n within none =
      let below = count_below f.numbers.post_returns f.counts.post_returns (fills.slots plan.post_return) n
      (omega (arith, within, fits.post_returns)) none in
      omega (arith, fits.post_returns, below)

  -- where the slots of a kind are full, and one isn't filled, the graph has too many entries
  slots_too_many : (made : ℕ) (k : plan.SlotKind) (n : ℕ) → IsReadySlot g made k n
      → number_at (slot_numbers f k) n ≡ None → 4294967294 ≤ slot_count f k → HasTooMany g
  slots_too_many made k n can none full =
      let below = slots_below k n (slice_get_within (slots_of g k) n can.0 can.1) none in
      of_slots k (omega (arith, full, below))

  -- and so it has where there are too many core instances, and one is still to be made
  pub instances_too_many : length f.instances < length g.instances
      → (4294967294 ≤ f.counts.instances) ⊎ (4294967294 ≤ length f.instances) → HasTooMany g
  instances_too_many made (inl counted) =
      of_instances (omega (arith, counted, made, fits.adapter_modules, run_within f fills.instances))
  instances_too_many made (inr listed) = of_instances (omega (arith, listed, made))

  -- or where the list is full in which an id is to get its number
  left_too_many : length f.instances ≤ length g.instances → (x : Id) → number_of f x ≡ None
      → CanClose g (length f.instances) x → IsFull f x → HasTooMany g
  unfolding IsFull number_of CanClose
  left_too_many made (id.Memory n) none can full = slots_too_many (length f.instances) plan.memory n.0 can none full
  left_too_many made (id.Table n) none can full = slots_too_many (length f.instances) plan.table n.0 can none full
  left_too_many made (id.Realloc n) none can full = slots_too_many (length f.instances) plan.realloc n.0 can none full
  left_too_many made (id.Callback n) none can full = slots_too_many (length f.instances) plan.callback n.0 can none full
  left_too_many made (id.PostReturn n) none can full = slots_too_many (length f.instances) plan.post_return n.0 can none full
  left_too_many made (id.Options o) none can full =
      let below = count_below f.numbers.options (length f.options) fills.options o.0
      (omega (arith, can, fits.options)) none in
      of_options (omega (arith, full, fits.options, below))
  left_too_many made (id.Lowering t) none can full =
      let within = lowering_can g (length f.instances) t can in
      let below = count_below f.numbers.lowerings f.counts.lowerings fills.lowerings t.0
      (omega (arith, within, fits.lowerings)) none in
      of_trampolines (omega (arith, full, fits.lowerings, below))
  left_too_many made (id.Trampoline t) none can full =
      let below = count_below f.numbers.trampolines (length f.trampolines) fills.trampolines t.0
      (omega (arith, can, fits.trampolines)) none in
      of_trampolines (omega (arith, full, fits.trampolines, below))
  left_too_many made (id.Intrinsic s i) none can full = absurd full
  left_too_many made (id.AdapterModule m) none can full =
      let within = module_can g (length f.instances) m can in
      let below = run_below f fills.instances m.0 (omega (arith, within, fits.adapter_modules)) none in
      of_instances (omega (arith, full, made, fits.adapter_modules, below))

  pub full_too_many : length f.instances ≤ length g.instances → (x : Id) → IsLeftOver g f x → HasTooMany g
  full_too_many made x left = left_too_many made x left.fresh left.can left.full
