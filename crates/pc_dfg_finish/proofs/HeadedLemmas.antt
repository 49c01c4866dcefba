-- A trampoline of a plan is a helper exactly where the one of the graph is, so there are no more others than there.
use Rattle.std.proofs.Common.{◌≡◌, ◌<◌, ◌≤◌, ◌+◌, ◌-◌, min, [], ◌∷◌, ℕ, zero, suc, Bool, true, false, List, length, take}
use Rattle.std.proofs.Common.{cond, sum_by, Option, None, Some, refl, sym, ap, subst, ◌∙◌, arith}
use Rattle.std.specs.Prelude.{count_by, option_and_then, slice_get}
use Rattle.std.specs.List.{Contains, remove, zip}
use Rattle.std.proofs.lemmas.List.{take_all}
use Rattle.std.proofs.lemmas.List.Sums.{count_by_more_no, count_by_more_yes, sum_by-cons, sum_by-le-sum_by}
use Rattle.std.proofs.lemmas.List.Sums.{sum_by-remove}
use Rattle.std.proofs.lemmas.Option.{get_or_from_slice_get, none-some, same_Some}
use Rattle.pc_numbers.specs.declared.module_entity.ModuleInternedTypeIndex.{ModuleInternedTypeIndex}
use Rattle.pc_numbers.specs.declared.runtime.RuntimeImportIndex.{RuntimeImportIndex}
use Rattle.pc_numbers.specs.declared.runtime.TrampolineIndex.{TrampolineIndex}
use Rattle.pc_types.specs.declared.trampoline.TrampolineKind.{TrampolineKind}
use Rattle.pc_spec_plan.specs.PlanView as plan
use Rattle.pc_trampoline.specs.declared.part.Head.{Head}
use Rattle.pc_trampoline.specs.declared.part.Head.TheVariants as head
use Rattle.pc_trampoline.specs.declared.part.Mark.{Mark}
use Rattle.pc_trampoline.specs.declared.part.PartList.{PartList}
use Rattle.pc_trampoline.specs.Parts.{list_of, parts_of}
use Rattle.pc_trampoline.specs.View.{PlanTrampoline, entry_of, entry_view, parts_entry, plan_numbers}
use Rattle.pc_info.specs.View.{trampolines_view}
use Rattle.pc_dfg.specs.declared.dfg.ComponentDfg.{ComponentDfg}
use Rattle.pc_dfg.specs.declared.ids.OptionsId.{OptionsId}
use Rattle.pc_dfg.specs.Numbers.{SignedTrampoline, graph_numbers, trampoline_entry}
use Rattle.pc_dfg_linearize.specs.declared.state.Finish.{Finish}
use Rattle.pc_dfg_linearize.specs.Entries.{GraphPart, head_in, list_in}
use Rattle.pc_dfg_linearize.specs.Numbers.{number_at}
use Rattle.pc_dfg_linearize.specs.Once.{Fills}
use Rattle.pc_dfg_linearize.specs.Represented.{IsCopyOf, Represents}
use Rattle.pc_dfg_finish.specs.Headed.{is_headed}
use Rattle.pc_dfg_finish.proofs.SlotUseLemmas.{copied_view}

-- the number that an entry has
joined_back : (o : Option (Option ℕ)) (n : ℕ) → option_and_then (λ (m : Option ℕ). m) o ≡ Some n → o ≡ Some (Some n)
joined_back None n is = absurd (none-some n is)
joined_back (Some m) n is = ap (λ k. Some k) is

-- what counts under a test counts no less where it is more
cond_more : (b : Bool) (m n : ℕ) → m ≤ n → cond b m 0 ≤ cond b n 0
cond_more true m n more = more
cond_more false m n more = omega arith

-- what stands at one place of two lists stands in both together
zipped_contains : {A : Type 0} (ns : List (Option ℕ)) (xs : List A) (k : ℕ) (o : Option ℕ) (x : A)
    → slice_get ns k ≡ Some o → slice_get xs k ≡ Some x → Contains (zip ns xs) (o, x)
zipped_contains [] xs k o x number at = absurd (none-some o number)
zipped_contains (m ∷ ns) [] k o x number at = absurd (none-some x at)
zipped_contains (m ∷ ns) (y ∷ xs) zero o x number at =
    let same = same_Some m o number in
    let one = same_Some y x at in
    (0, omega arith, λ i. (same i, one i))
zipped_contains (m ∷ ns) (y ∷ xs) (suc k) o x number at =
    let rest = zipped_contains ns xs k o x number at in
    (suc rest.0, omega (arith, rest.1), rest.2)

-- a sum is less where it is no more for each item, and less for one
sum_less : {A : Type 0} (f h : A → ℕ) → ((x : A) → f x ≤ h x) → (xs : List A) (y : A) → Contains xs y → f y < h y
    → sum_by f xs < sum_by h xs
sum_less f h each xs y (i, within, is) less =
    let here = subst (λ x. f x < h x) (sym is) less in
    omega (
      arith,
      here,
      sum_by-remove f xs i y within,
      sum_by-remove h xs i y within,
      sum_by-le-sum_by f h (remove xs i) each,
    )

module _ {A B : Type 0} (p : A → Bool) (q : B → Bool) where
  -- 1 for an entry that passes a test and has a number below another one, else 0
  passed_below : ℕ → Option ℕ × A → ℕ
  passed_below n (None, x) = 0
  passed_below n (Some m, x) = cond (p x) (min 1 (n - m)) 0

  passed_more : (n : ℕ) (z : Option ℕ × A) → passed_below n z ≤ passed_below (n + 1) z
  unfolding passed_below
  passed_more n (None, x) = omega arith
  passed_more n (Some m, x) = cond_more (p x) (min 1 (n - m)) (min 1 (n + 1 - m)) (omega arith)

  passed_one : (n : ℕ) (o : Option ℕ) (x : A) → passed_below n (o, x) ≤ cond (p x) 1 0
  unfolding passed_below
  passed_one n None x = omega arith
  passed_one n (Some m) x = cond_more (p x) (min 1 (n - m)) 1 (omega arith)

  passed_last : (n : ℕ) (x : A) → p x ≡ true → passed_below n (Some n, x) < passed_below (n + 1) (Some n, x)
  unfolding passed_below
  passed_last n x passes =
      let counted : (m : ℕ) → cond (p x) m 0 ≡ m = λ m. ap (λ b. cond b m 0) passes in
      omega (arith, counted (min 1 (n - n)), counted (min 1 (n + 1 - n)))

  -- no more have numbers below any than there are
  passed_all : (n : ℕ) (ns : List (Option ℕ)) (xs : List A) → sum_by (passed_below n) (zip ns xs) ≤ count_by p xs
  passed_all n [] xs = omega arith
  passed_all n (o ∷ ns) [] = omega arith
  passed_all n (o ∷ ns) (x ∷ xs) =
      omega (
        arith,
        sum_by-cons (passed_below n) (o, x) (zip ns xs),
        sum_by-cons (λ y. cond (p y) 1 0) x xs,
        passed_one n o x,
        passed_all n ns xs,
      )

  module _ (ns : List (Option ℕ)) (xs : List A) (ys : List B) where
    -- what has a number is the copy of an entry: it passes where that one does
    record IsNumbered (n : ℕ) : Type 0 where
      place : ℕ
      number : number_at ns place ≡ Some n
      entry : A
      at : slice_get xs place ≡ Some entry
      copy : B
      there : slice_get ys n ≡ Some copy
      alike : q copy ≡ p entry

    module _ (each : (n : ℕ) → n < length ys → IsNumbered n) where
      passed_next : (n : ℕ) → n < length ys → count_by q (take n ys) ≤ sum_by (passed_below n) (zip ns xs)
          → count_by q (take (n + 1) ys) ≤ sum_by (passed_below (n + 1)) (zip ns xs)
      passed_next n within before = by (p c.entry) refl
        where
          c : IsNumbered n
          c = each n within

          by : (b : Bool) → p c.entry ≡ b
              → count_by q (take (n + 1) ys) ≤ sum_by (passed_below (n + 1)) (zip ns xs)
          by true passes =
              let here = ap q (get_or_from_slice_get ys n c.copy c.copy c.there) ∙ c.alike ∙ passes in
              let counted = count_by_more_yes q ys n c.copy within here in
              let inside = zipped_contains ns xs c.place (Some n) c.entry
              (joined_back (slice_get ns c.place) n c.number) c.at in
              let less = sum_less (passed_below n) (passed_below (n + 1)) (passed_more n) (zip ns xs) (Some n, c.entry)
              inside (passed_last n c.entry passes) in
              omega (arith, before, counted, less)
          by false fails =
              let here = ap q (get_or_from_slice_get ys n c.copy c.copy c.there) ∙ c.alike ∙ fails in
              let counted = count_by_more_no q ys n c.copy within here in
              let more = sum_by-le-sum_by (passed_below n) (passed_below (n + 1)) (zip ns xs) (passed_more n) in
              omega (arith, before, counted, more)

      passed_first : (n : ℕ) → n ≤ length ys → count_by q (take n ys) ≤ sum_by (passed_below n) (zip ns xs)
      passed_first zero within = omega arith
      passed_first (suc n) within =
          let next = passed_next n (omega (arith, within)) (passed_first n (omega (arith, within))) in
          let P : ℕ → Type 0 = λ m. count_by q (take m ys) ≤ sum_by (passed_below m) (zip ns xs) in
          subst P (omega arith) next

      -- no more copies pass than entries
      few_passed : count_by q ys ≤ count_by p xs
      few_passed =
          let all = passed_first (length ys) (omega arith) in
          let whole : count_by q (take (length ys) ys) ≡ count_by q ys =
          ap (count_by q) (take_all (length ys) ys (omega arith)) in
          omega (arith, all, whole, passed_all (length ys) ns xs)

-- trampolines with their signatures are as many
view_length : (signatures : List ModuleInternedTypeIndex) (ts : List PlanTrampoline) (n : ℕ)
    → length (trampolines_view n signatures ts) ≡ length ts
view_length signatures [] n = refl
view_length signatures (t ∷ ts) n = ap (λ (m : ℕ). suc m) (view_length signatures ts (n + 1))

module _ (g : ComponentDfg) (f : Finish) where
  same_head : (s : ModuleInternedTypeIndex) (t : TrampolineIndex) (k : TrampolineKind)
      (h : Head RuntimeImportIndex OptionsId) (ps : PartList GraphPart)
      → is_headed (entry_of plan_numbers s k (head_in f t h) (list_of (list_in f ps)))
      ≡ is_headed (entry_of graph_numbers s k h (list_of ps))
  same_head s t k (head.Lowering r ty o) ps = refl
  same_head s t k (head.Builtin c) ps = refl
  same_head s t k h ps = refl

  module _ (t n : ℕ) (c : IsCopyOf g f t n) where
    copied_head : is_headed (entry_view c.entry.0 c.made) ≡ is_headed (trampoline_entry c.entry)
    copied_head =
        let made = parts_of c.entry.1 in
        ap (λ p. is_headed (parts_entry plan_numbers c.entry.0 p)) c.is
        ∙ same_head c.entry.0 (record { 0 = t }) made.kind made.head made.parts

    -- a trampoline of the plan is a helper exactly where the one of the graph is
    pub headed_alike : Represents g f → (x : plan.TrampolineEntry Mark)
        → slice_get (trampolines_view 0 f.signatures f.trampolines) n ≡ Some x
        → is_headed x ≡ is_headed (trampoline_entry c.entry)
    headed_alike is x at =
        ap is_headed (same_Some x (entry_view c.entry.0 c.made) (sym at ∙ copied_view g f is t n c)) ∙ copied_head

  -- so the plan has no more others than the graph
  pub few_headed : Represents g f → Fills f
      → count_by is_headed (trampolines_view 0 f.signatures f.trampolines)
      ≤ count_by (λ (x : SignedTrampoline). is_headed (trampoline_entry x)) g.trampolines
  few_headed is fills =
      few_passed (λ (x : SignedTrampoline). is_headed (trampoline_entry x)) is_headed f.numbers.trampolines g.trampolines
      (trampolines_view 0 f.signatures f.trampolines)
      (λ n within.
      let k = fills.trampolines.given n (omega (arith, within, view_length f.signatures f.trampolines 0)) in
      let c = is.trampolines k.0 n k.1 in
      record {
        place = k.0;
        number = k.1;
        entry = c.entry;
        at = c.at;
        copy = entry_view c.entry.0 c.made;
        there = copied_view g f is k.0 n c;
        alike = copied_head k.0 n c;
      })
