-- What options and trampolines of a plan name is there.
use Rattle.std.proofs.Common.{◌≡◌, ◌<◌, ◌++◌, ℕ, zero, suc, List, [], length, map, All, Option}
use Rattle.std.proofs.Common.{None, Some, option_map, refl, sym, ap, subst, ◌∙◌, arith}
use Rattle.std.specs.Prelude.{slice_get, unwrap_or}
use Rattle.std.specs.List.{Contains, flat_map}
use Rattle.std.proofs.lemmas.List.Elements.{All-contains, Contains-append_left, Contains-append_right}
use Rattle.std.proofs.lemmas.Option.{none-some, same_Some, slice_get_within}
use Rattle.pc_numbers.specs.declared.module_entity.ModuleInternedTypeIndex.{ModuleInternedTypeIndex}
use Rattle.pc_numbers.specs.declared.runtime.RuntimeImportIndex.{RuntimeImportIndex}
use Rattle.pc_numbers.specs.declared.runtime.TrampolineIndex.{TrampolineIndex}
use Rattle.pc_dfg.specs.declared.ids.OptionsId.{OptionsId}
use Rattle.pc_types.specs.declared.trampoline.TrampolineKind.{TrampolineKind}
use Rattle.pc_spec_plan.specs.PlanView as plan
use Rattle.pc_trampoline.specs.declared.part.Head.{Head}
use Rattle.pc_trampoline.specs.declared.part.Head.TheVariants as head
use Rattle.pc_trampoline.specs.declared.part.Mark.{Mark}
use Rattle.pc_trampoline.specs.declared.part.Mark.TheVariants as mark
use Rattle.pc_trampoline.specs.declared.part.Part.TheVariants as part
use Rattle.pc_trampoline.specs.declared.part.PartList.{PartList}
use Rattle.pc_trampoline.specs.declared.part.PartList.TheVariants as list
use Rattle.pc_trampoline.specs.Parts.{list_of, parts_of}
use Rattle.pc_trampoline.specs.View.{PlanTrampoline, entry_of, entry_view, part_by, parts_entry, plan_numbers, signed}
use Rattle.pc_info.specs.declared.options.CanonicalOptions.{CanonicalOptions as PlanOptions}
use Rattle.pc_info.specs.Options.{options_view}
use Rattle.pc_info.specs.View.{no_signature, trampolines_view}
use Rattle.pc_dfg.specs.declared.dfg.ComponentDfg.{ComponentDfg}
use Rattle.pc_dfg.specs.Numbers.{graph_numbers, options_entry}
use Rattle.pc_dfg_linearize.specs.declared.id.Id.{Id}
use Rattle.pc_dfg_linearize.specs.declared.id.Id.TheVariants as id
use Rattle.pc_dfg_linearize.specs.declared.state.Finish.{Finish}
use Rattle.pc_dfg_linearize.specs.Entries.{GraphPart, head_in, list_in, options_in, part_in, parts_in}
use Rattle.pc_dfg_linearize.specs.Numbers.{number_at, numbered}
use Rattle.pc_dfg_linearize.specs.Once.{AreGiven, Fills}
use Rattle.pc_dfg_linearize.specs.Parts.{HasNumber, in_entry, in_model, in_part, in_trampoline, maybe_slot, number_of}
use Rattle.pc_dfg_linearize.specs.Parts.{options_id, slot_id, slot_numbers}
use Rattle.pc_dfg_linearize.specs.Plan.{slot_count}
use Rattle.pc_dfg_linearize.specs.Represented.{IsCopyOf, Represents}
use Rattle.pc_info.specs.Slots.{AtMostOne, TakesLowering, TakesOptions, TakesSlot, model_memory, model_realloc}
use Rattle.pc_info.specs.Slots.{options_slot}
use Rattle.pc_dfg_linearize.proofs.FillLemmas.{mapped_back}
use Rattle.pc_dfg_linearize.proofs.RepresentedLemmas.{copied_parts, options_parts}
use Rattle.pc_dfg_finish.proofs.SlotUseLemmas.{copied_view, slot_number, slot_part, slots_renumbered}
use Rattle.pc_dfg_linearize.proofs.TrampolineLemmas.{first_view}

-- a slot that is there is a part
maybe_has : (l : plan.SlotKind) (m : Option ℕ) (i : ℕ) → m ≡ Some i → Contains (maybe_slot l m) (slot_id l i)
maybe_has l m i same = subst (λ o. Contains (maybe_slot l o) (slot_id l i)) (sym same) (0, omega arith, refl)

memory_has : (m : plan.ModelEntry) (i : ℕ) → model_memory m ≡ Some i → Contains (in_model m) (slot_id plan.memory i)
memory_has plan.gc i same = absurd (none-some i same)
memory_has (plan.linear m r) i same =
    Contains-append_left (maybe_slot plan.memory m) (maybe_slot plan.realloc r) (slot_id plan.memory i)
    (maybe_has plan.memory m i same)

realloc_has : (m : plan.ModelEntry) (i : ℕ) → model_realloc m ≡ Some i → Contains (in_model m) (slot_id plan.realloc i)
realloc_has plan.gc i same = absurd (none-some i same)
realloc_has (plan.linear m r) i same =
    Contains-append_right (maybe_slot plan.memory m) (maybe_slot plan.realloc r) (slot_id plan.realloc i)
    (maybe_has plan.realloc r i same)

module _ (e : plan.PlanOptions Mark) where
  from_model : (x : Id) → Contains (in_model e.model) x → Contains (in_entry e) x
  from_model x inside =
      let ms = in_model e.model in
      let cs = maybe_slot plan.callback e.callback in
      Contains-append_left (ms ++ cs) (maybe_slot plan.post_return e.post_return) x
      (Contains-append_left ms cs x inside)

  -- options depend on the slots that they name
  entry_has : (k : plan.SlotKind) (i : ℕ) → options_slot k e ≡ Some i → Contains (in_entry e) (slot_id k i)
  entry_has plan.memory i same = from_model (slot_id plan.memory i) (memory_has e.model i same)
  entry_has plan.table i same = absurd (none-some i same)
  entry_has plan.realloc i same = from_model (slot_id plan.realloc i) (realloc_has e.model i same)
  entry_has plan.callback i same =
      let ms = in_model e.model in
      let cs = maybe_slot plan.callback e.callback in
      Contains-append_left (ms ++ cs) (maybe_slot plan.post_return e.post_return) (slot_id plan.callback i)
      (Contains-append_right ms cs (slot_id plan.callback i) (maybe_has plan.callback e.callback i same))
  entry_has plan.post_return i same =
      let ms = in_model e.model in
      let cs = maybe_slot plan.callback e.callback in
      Contains-append_right (ms ++ cs) (maybe_slot plan.post_return e.post_return) (slot_id plan.post_return i)
      (maybe_has plan.post_return e.post_return i same)

-- a mark, and options, as a part of a trampoline
abbrev marked : Mark → plan.TrampolinePart Mark
marked m = plan.mark m

abbrev chosen : ℕ → plan.TrampolinePart Mark
chosen n = plan.options n

-- the slot, and the options, of a part of a trampoline
abbrev slot_within : plan.TrampolinePart Mark → Option (plan.SlotKind × Option ℕ)
slot_within (plan.slot k n) = Some (k, n)
slot_within p = None

abbrev options_within : plan.TrampolinePart Mark → Option ℕ
options_within (plan.options n) = Some n
options_within p = None

module _ (f : Finish) where
  -- among these ids there is one for which this holds
  abbrev Has : (Id → Type 0) → List Id → Type 0
  Has W xs = (y : Id) × Contains xs y × W y

  module _ (W : Id → Type 0) (q : plan.TrampolinePart Mark)
      (has : (p : GraphPart) → part_by plan_numbers (part_in f p) ≡ q → Has W (in_part (part_by graph_numbers p)))
      (unmarked : (m : Mark) → marked m ≡ q → ⊥) where
    list_has : (ps : PartList GraphPart) → Contains (map (part_by plan_numbers) (list_of (list_in f ps))) q
        → Has W (flat_map in_part (map (part_by graph_numbers) (list_of ps)))
    list_has list.Empty (i, below, is) = absurd (omega (arith, below))
    list_has (list.One p) (zero, below, is) =
        let y = has p is in
        (y.0, Contains-append_left (in_part (part_by graph_numbers p)) [] y.0 y.1, y.2)
    list_has (list.One p) (suc i, below, is) = absurd (omega (arith, below))
    list_has (list.Two p r) (zero, below, is) =
        let y = has p is in
        let rest = in_part (part_by graph_numbers r) ++ [] in
        (y.0, Contains-append_left (in_part (part_by graph_numbers p)) rest y.0 y.1, y.2)
    list_has (list.Two p r) (suc zero, below, is) =
        let y = has r is in
        let last = in_part (part_by graph_numbers r) in (
          y.0,
          Contains-append_right (in_part (part_by graph_numbers p)) (last ++ []) y.0
              (Contains-append_left last [] y.0 y.1),
          y.2,
        )
    list_has (list.Two p r) (suc (suc i), below, is) = absurd (omega (arith, below))

    -- what the parts of a plan's trampoline name, those of the graph's depend on
    signed_has : (s : ModuleInternedTypeIndex) (ps : PartList GraphPart)
        → Contains (signed plan_numbers s (list_of (list_in f ps))) q
        → Has W (flat_map in_part (map (part_by graph_numbers) (list_of ps)))
    signed_has s ps (zero, below, is) = absurd (unmarked (mark.Signature s) is)
    signed_has s ps (suc i, below, is) = list_has ps (i, omega (arith, below), is)

  module _ (k : plan.SlotKind) (n : ℕ) where
    -- an id is that of a slot that has become this one
    IsSlot : Id → Type 0
    IsSlot y = (i : ℕ) × (y ≡ slot_id k i) × (numbered (slot_numbers f k) i ≡ n)

    slot_back : (l : plan.SlotKind) (m : Option ℕ)
        → slot_part l (option_map (numbered (slot_numbers f l)) m) ≡ slot_part k (Some n) → Has IsSlot (maybe_slot l m)
    unfolding IsSlot
    slot_back l m same =
        let pair = same_Some (l, option_map (numbered (slot_numbers f l)) m) (k, Some n) (ap slot_within same) in
        let kind = ap (λ x. x.0) pair in
        let back = mapped_back (numbered (slot_numbers f l)) m n (ap (λ x. x.1) pair) in (
          slot_id k back.0,
          subst (λ x. Contains (maybe_slot l m) (slot_id x back.0)) kind (maybe_has l m back.0 back.1),
          (back.0, refl, subst (λ x. numbered (slot_numbers f x) back.0 ≡ n) kind back.2),
        )

    part_has : (p : GraphPart) → part_by plan_numbers (part_in f p) ≡ slot_part k (Some n)
        → Has IsSlot (in_part (part_by graph_numbers p))
    part_has (part.Type_ ty) same = absurd (none-some (k, Some n) (ap slot_within same))
    part_has (part.Number m) same = absurd (none-some (k, Some n) (ap slot_within same))
    part_has (part.Flag b) same = absurd (none-some (k, Some n) (ap slot_within same))
    part_has (part.Memory m) same = slot_back plan.memory (Some m.0) same
    part_has (part.MaybeMemory None) same = slot_back plan.memory None same
    part_has (part.MaybeMemory (Some m)) same = slot_back plan.memory (Some m.0) same
    part_has (part.Table t) same = slot_back plan.table (Some t.0) same
    part_has (part.Callback None) same = slot_back plan.callback None same
    part_has (part.Callback (Some c)) same = slot_back plan.callback (Some c.0) same
    part_has (part.PostReturn None) same = slot_back plan.post_return None same
    part_has (part.PostReturn (Some p)) same = slot_back plan.post_return (Some p.0) same
    part_has (part.Options o) same = absurd (none-some (k, Some n) (ap slot_within same))

    no_mark : (m : Mark) → marked m ≡ slot_part k (Some n) → ⊥
    no_mark m same = none-some (k, Some n) (ap slot_within same)

    -- a trampoline depends on the slots that it names in the plan
    head_has : (s : ModuleInternedTypeIndex) (t : TrampolineIndex) (b : TrampolineKind)
        (h : Head RuntimeImportIndex OptionsId) (ps : PartList GraphPart)
        → TakesSlot k n (entry_of plan_numbers s b (head_in f t h) (list_of (list_in f ps)))
        → Has IsSlot (in_trampoline t (entry_of graph_numbers s b h (list_of ps)))
    head_has s t b (head.Lowering r ty o) ps takes = absurd takes
    head_has s t b (head.Builtin c) ps takes = signed_has IsSlot (slot_part k (Some n)) part_has no_mark s ps takes
    head_has s t b h ps takes = signed_has IsSlot (slot_part k (Some n)) part_has no_mark s ps takes

  module _ (n : ℕ) where
    -- an id is that of options that have become this entry
    IsEntry : Id → Type 0
    IsEntry y = (o : ℕ) × (y ≡ options_id o) × (numbered f.numbers.options o ≡ n)

    names_entry : (p : GraphPart) → part_by plan_numbers (part_in f p) ≡ chosen n
        → Has IsEntry (in_part (part_by graph_numbers p))
    unfolding IsEntry
    names_entry (part.Options o) same =
        (options_id o.0, (0, omega arith, refl), (o.0, refl, same_Some _ _ (ap options_within same)))
    names_entry (part.MaybeMemory m) same = absurd (none-some n (ap options_within same))
    names_entry p same = absurd (none-some n (ap options_within same))

    unchosen : (m : Mark) → marked m ≡ chosen n → ⊥
    unchosen m same = none-some n (ap options_within same)

    -- a trampoline depends on the options that it names in the plan
    head_chooses : (s : ModuleInternedTypeIndex) (t : TrampolineIndex) (b : TrampolineKind)
        (h : Head RuntimeImportIndex OptionsId) (ps : PartList GraphPart)
        → TakesOptions n (entry_of plan_numbers s b (head_in f t h) (list_of (list_in f ps)))
        → Has IsEntry (in_trampoline t (entry_of graph_numbers s b h (list_of ps)))
    unfolding IsEntry
    head_chooses s t b (head.Lowering r ty o) ps takes = (options_id o.0, (1, omega arith, refl), (o.0, refl, takes))
    head_chooses s t b (head.Builtin c) ps takes = signed_has IsEntry (chosen n) names_entry unchosen s ps takes
    head_chooses s t b h ps takes = signed_has IsEntry (chosen n) names_entry unchosen s ps takes

    -- a lowering depends on its step
    head_is_lowered : (s : ModuleInternedTypeIndex) (t : TrampolineIndex) (b : TrampolineKind)
        (h : Head RuntimeImportIndex OptionsId) (ps : PartList GraphPart)
        → TakesLowering n (entry_of plan_numbers s b (head_in f t h) (list_of (list_in f ps)))
        → Contains (in_trampoline t (entry_of graph_numbers s b h (list_of ps))) (id.Lowering t)
        × (numbered f.numbers.lowerings t.0 ≡ n)
    head_is_lowered s t b (head.Lowering r ty o) ps takes = ((0, omega arith, refl), takes)
    head_is_lowered s t b (head.Builtin c) ps takes = absurd takes
    head_is_lowered s t b h ps takes = absurd takes

-- a number that was given is below the count
given_within : (ns : List (Option ℕ)) (count i n : ℕ) → AreGiven (number_at ns) count
    → ((m : ℕ) × (number_at ns i ≡ Some m)) → numbered ns i ≡ n → n < count
given_within ns count i n given has same =
    let number = sym (ap (λ o. unwrap_or o 0) has.1) ∙ same in
    subst (λ m. m < count) number (given.below i has.0 has.1)

module _ (g : ComponentDfg) (f : Finish) (is : Represents g f) (fills : Fills f) where
  slot_below : (k : plan.SlotKind) (i n : ℕ) → HasNumber f (slot_id k i) → numbered (slot_numbers f k) i ≡ n
      → n < slot_count f k
  slot_below k i n has same =
      given_within (slot_numbers f k) (slot_count f k) i n (fills.slots k)
      (has.0, sym (slot_number f k i) ∙ has.1) same

  -- a slot that options name is filled
  pub options_within_slots : (k : plan.SlotKind) (n m : ℕ) (o : PlanOptions) → slice_get f.options m ≡ Some o
      → options_slot k (options_view o) ≡ Some n → n < slot_count f k
  unfolding number_of
  options_within_slots k n m o at names =
      let given = fills.options.given m (slice_get_within f.options m o at) in
      let e = is.options given.0 m given.1 in
      let same = same_Some o (options_in f e.entry) (sym at ∙ e.there) in
      let renumbered = sym (slots_renumbered f k e.entry) ∙ sym (ap (λ x. options_slot k (options_view x)) same)
      ∙ names in
      let back = mapped_back (numbered (slot_numbers f k)) (options_slot k (options_entry e.entry)) n renumbered in
      let inside = entry_has (options_entry e.entry) k back.0 back.1 in
      let all = subst (All (HasNumber f)) (options_parts g given.0 e.entry e.at)
      (is.parts (options_id given.0) (m, given.1)) in
      slot_below k back.0 n
      (All-contains (HasNumber f) (in_entry (options_entry e.entry)) (slot_id k back.0) all inside) back.2

  -- a trampoline that the plan sees is a copy of one of the graph
  record Seen (m : ℕ) (x : plan.TrampolineEntry Mark) : Type 0 where
    t : TrampolineIndex
    number : number_at f.numbers.trampolines t.0 ≡ Some m
    copy : IsCopyOf g f t.0 m
    view : x ≡ parts_entry plan_numbers copy.entry.0 (parts_in f t (parts_of copy.entry.1))
    all : All (HasNumber f) (in_trampoline t (parts_entry graph_numbers copy.entry.0 (parts_of copy.entry.1)))

  seen : (m : ℕ) (x : plan.TrampolineEntry Mark) → slice_get (trampolines_view 0 f.signatures f.trampolines) m ≡ Some x
      → Seen m x
  unfolding number_of
  seen m x at =
      let sign = λ (y : PlanTrampoline). entry_view (unwrap_or (slice_get f.signatures m) no_signature) y in
      let made = mapped_back sign (slice_get f.trampolines m) x (sym (first_view f.signatures f.trampolines m) ∙ at) in
      let given = fills.trampolines.given m (slice_get_within f.trampolines m made.0 made.1) in
      let c = is.trampolines given.0 m given.1 in
      let t : TrampolineIndex = record { 0 = given.0 } in
      record {
        t = t;
        number = given.1;
        copy = c;
        view = same_Some x (entry_view c.entry.0 c.made) (sym at ∙ copied_view g f is given.0 m c)
            ∙ ap (λ p. parts_entry plan_numbers c.entry.0 p) c.is;
        all = subst (All (HasNumber f)) (copied_parts g given.0 c.entry c.at) (is.parts (id.Trampoline t) (m, given.1));
      }

  -- a slot that a trampoline names is filled
  pub trampoline_within_slots : (k : plan.SlotKind) (n m : ℕ) (x : plan.TrampolineEntry Mark)
      → slice_get (trampolines_view 0 f.signatures f.trampolines) m ≡ Some x → TakesSlot k n x → n < slot_count f k
  unfolding IsSlot
  trampoline_within_slots k n m x at takes =
      let s = seen m x at in
      let p = parts_of s.copy.entry.1 in
      let y = head_has f k n s.copy.entry.0 s.t p.kind p.head p.parts (subst (TakesSlot k n) s.view takes) in
      let has = All-contains (HasNumber f) _ y.0 s.all y.1 in
      slot_below k y.2.0 n (subst (HasNumber f) y.2.1 has) y.2.2

  -- options that a trampoline names are there
  pub trampoline_within_options : (n m : ℕ) (x : plan.TrampolineEntry Mark)
      → slice_get (trampolines_view 0 f.signatures f.trampolines) m ≡ Some x → TakesOptions n x → n < length f.options
  unfolding IsEntry number_of
  trampoline_within_options n m x at takes =
      let s = seen m x at in
      let p = parts_of s.copy.entry.1 in
      let y = head_chooses f n s.copy.entry.0 s.t p.kind p.head p.parts (subst (TakesOptions n) s.view takes) in
      let has = All-contains (HasNumber f) _ y.0 s.all y.1 in
      given_within f.numbers.options (length f.options) y.2.0 n fills.options (subst (HasNumber f) y.2.1 has) y.2.2

  -- the number of the lowering that a trampoline is
  lowering_number : (n m : ℕ) (x : plan.TrampolineEntry Mark) (s : Seen m x) → TakesLowering n x
      → number_at f.numbers.lowerings s.t.0 ≡ Some n
  unfolding number_of
  lowering_number n m x s takes =
      let p = parts_of s.copy.entry.1 in
      let y = head_is_lowered f n s.copy.entry.0 s.t p.kind p.head p.parts (subst (TakesLowering n) s.view takes) in
      let has = All-contains (HasNumber f) _ (id.Lowering s.t) s.all y.0 in
      has.1 ∙ ap (λ k. Some k) (sym (ap (λ o. unwrap_or o 0) has.1) ∙ y.1)

  -- the step of a lowering is there
  pub trampoline_within_lowerings : (n m : ℕ) (x : plan.TrampolineEntry Mark)
      → slice_get (trampolines_view 0 f.signatures f.trampolines) m ≡ Some x → TakesLowering n x
      → n < f.counts.lowerings
  trampoline_within_lowerings n m x at takes =
      let s = seen m x at in
      fills.lowerings.below s.t.0 n (lowering_number n m x s takes)

  -- a lowering is that of one trampoline
  pub one_lowering : (n : ℕ) → AtMostOne (TakesLowering n) (trampolines_view 0 f.signatures f.trampolines)
  one_lowering n i j x y at at' takes takes' =
      let s = seen i x at in
      let r = seen j y at' in
      let number = fills.lowerings.once s.t.0 r.t.0 n (lowering_number n i x s takes) (lowering_number n j y r takes')
      in
      same_Some i j (sym s.number ∙ ap (number_at f.numbers.trampolines) number ∙ r.number)
