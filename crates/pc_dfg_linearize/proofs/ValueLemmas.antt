-- In an ordered graph each held definition has a value, and so have held options.
use Rattle.std.proofs.Common.{◌≡◌, ◌<◌, ◌≤◌, ℕ, zero, suc, List, [], ◌∷◌, ◌++◌, length, All, Contains, Option, None}
use Rattle.std.proofs.Common.{Some, option_map, refl, subst, arith}
use Rattle.std.specs.Prelude.{slice_get}
use Rattle.std.specs.List.{flat_map}
use Rattle.std.proofs.lemmas.List.Elements.{All-head, All-tail, All-weaker, All-contains_itself}
use Rattle.std.proofs.lemmas.Option.{slice_get_within}
use Rattle.pc_entity.proofs.LookupLemmas.{found_at}
use Rattle.pc_types.specs.TypeTree.{Path}
use Rattle.pc_spec_plan.specs.CoreValue as value
use Rattle.pc_spec_plan.specs.CoreValue.{CoreValue, Options, DataModel, MaybeValue, Parts, Part}
use Rattle.pc_spec_plan.specs.PlanView as plan
use Rattle.pc_trampoline.specs.declared.part.Mark.{Mark}
use Rattle.pc_dfg.specs.declared.adapter.Adapter.{Adapter}
use Rattle.pc_dfg.specs.declared.adapter.AdapterOptions.{AdapterOptions}
use Rattle.pc_dfg.specs.declared.adapter.DataModel.{DataModel as SideModel}
use Rattle.pc_dfg.specs.declared.adapter.DataModel.TheVariants as side
use Rattle.pc_dfg.specs.declared.core_def.CoreDef.{CoreDef}
use Rattle.pc_dfg.specs.declared.core_def.CoreDef.TheVariants as def
use Rattle.pc_dfg.specs.declared.dfg.ComponentDfg.{ComponentDfg}
use Rattle.pc_dfg.specs.Held.{AreHeld, IsHeld, HeldSlot, HeldModel, HeldOptions, HeldPart, HeldTrampoline, HoldsEntry}
use Rattle.pc_dfg.specs.Lists as list
use Rattle.pc_dfg.specs.Means as means
use Rattle.pc_dfg.specs.Means.{HasPath, Means, MeansTrampoline, MeansParts, MeansPart, MeansOptions, MeansEntry}
use Rattle.pc_dfg.specs.Means.{MeansModel, MeansSlot, MeansSide, MeansSideModel, MeansMaybe}
use Rattle.pc_dfg.specs.Names as names
use Rattle.pc_dfg.specs.Names.{an_adapter, if_any, each_of, in_adapter, in_side, in_side_model, Names, names_adapter}
use Rattle.pc_dfg.specs.Names.{names_through, OneNames}
use Rattle.pc_dfg.specs.Numbers.{SignedTrampoline, options_entry, trampoline_entry, memory_def, slots_of}
use Rattle.pc_dfg.specs.Ordered.{IsBelow, IsOrdered}
use Rattle.pc_dfg_linearize.specs.declared.id.Id.{Id}
use Rattle.pc_dfg_linearize.specs.declared.id.Id.TheVariants as id
use Rattle.pc_dfg_linearize.specs.Closed.{HasValue, Valued}
use Rattle.pc_dfg_linearize.specs.Ready.{CanClose, LowersImport}
use Rattle.pc_dfg_linearize.proofs.HeldLemmas.{options_held, trampoline_held, names_there}
use Rattle.pc_dfg_linearize.proofs.PartLemmas.{all_left, all_right}
use Rattle.pc_dfg_linearize.proofs.RankLemmas.{later_below}

module _ (g : ComponentDfg) where
  -- a definition has a value
  abbrev pub HasMeaning : CoreDef → Type 0
  HasMeaning d = (v : CoreValue Mark) × Means g d v

  maybe_means : (o : Option CoreDef) → All HasMeaning (if_any o) → (v : MaybeValue Mark) × MeansMaybe g o v
  maybe_means None all = (value.no_value, means.means_none)
  maybe_means (Some d) all =
      let v = All-head HasMeaning d [] all in
      (value.a_value v.0, means.means_some v.1)

  side_model_means : (m : SideModel) → All HasMeaning (in_side_model m) → (v : DataModel Mark) × MeansSideModel g m v
  side_model_means side.Gc all = (value.gc, means.means_side_gc)
  side_model_means (side.LinearMemory m r) all =
      let memory = maybe_means (option_map (λ x. memory_def x.0) m)
      (all_left HasMeaning (if_any (option_map (λ x. memory_def x.0) m)) (if_any r) all) in
      let realloc = maybe_means r (all_right HasMeaning (if_any (option_map (λ x. memory_def x.0) m)) (if_any r) all) in
      (value.linear memory.0 realloc.0, means.means_side_linear memory.1 realloc.1)

  side_means : (x : AdapterOptions) → All HasMeaning (in_side x) → (v : Options Mark) × MeansSide g x v
  side_means x all =
      let xs = if_any x.callback in
      let ys = if_any x.post_return in
      let zs = in_side_model x.data_model in
      let both = all_left HasMeaning (xs ++ ys) zs all in
      let callback = maybe_means x.callback (all_left HasMeaning xs ys both) in
      let post_return = maybe_means x.post_return (all_right HasMeaning xs ys both) in
      let model = side_model_means x.data_model (all_right HasMeaning (xs ++ ys) zs all) in
      (_, means.means_side callback.1 post_return.1 model.1)

  adapter_means : (x : Adapter) (a : ℕ) → slice_get g.adapters a ≡ Some x → All HasMeaning (in_adapter x)
      → HasMeaning (def.Adapter (record { 0 = a }))
  unfolding in_adapter
  adapter_means x a at all =
      let xs = in_side x.lift_options in
      let ys = in_side x.lower_options in
      let rest = All-tail HasMeaning x.func (xs ++ ys) all in
      let callee = All-head HasMeaning x.func (xs ++ ys) all in
      let lift = side_means x.lift_options (all_left HasMeaning xs ys rest) in
      let lower = side_means x.lower_options (all_right HasMeaning xs ys rest) in
      (_, means.means_adapter at lift.1 lower.1 callee.1)

  module _ (held : AreHeld g) where
    slot_means : (k : plan.SlotKind) (n : Option ℕ) → HeldSlot g k n → All HasMeaning (names.in_slot g k n)
        → (v : MaybeValue Mark) × MeansSlot g k n v
    unfolding HeldSlot
    slot_means k None here all = (value.no_value, means.means_no_slot)
    slot_means k (Some n) here all =
        let found = found_at (slots_of g k) n here in
        let v = All-head HasMeaning found.0 [] (subst (λ o. All HasMeaning (if_any o)) found.1 all) in
        (value.a_value v.0, means.means_slot found.1 v.1)

    model_means : (m : plan.ModelEntry) → HeldModel g m → All HasMeaning (names.in_model g m)
        → (v : DataModel Mark) × MeansModel g m v
    unfolding HeldModel
    model_means plan.gc here all = (value.gc, means.means_gc)
    model_means (plan.linear m r) here all =
        let xs = names.in_slot g plan.memory m in
        let ys = names.in_slot g plan.realloc r in
        let memory = slot_means plan.memory m here.0 (all_left HasMeaning xs ys all) in
        let realloc = slot_means plan.realloc r here.1 (all_right HasMeaning xs ys all) in
        (value.linear memory.0 realloc.0, means.means_linear memory.1 realloc.1)

    entry_means : (e : plan.PlanOptions Mark) → HeldOptions g e → All HasMeaning (names.in_entry g e)
        → (v : Options Mark) × MeansEntry g e v
    entry_means e here all =
        let xs = names.in_slot g plan.callback e.callback in
        let ys = names.in_slot g plan.post_return e.post_return in
        let zs = names.in_model g e.model in
        let both = all_left HasMeaning (xs ++ ys) zs all in
        let callback = slot_means plan.callback e.callback here.callback (all_left HasMeaning xs ys both) in
        let post_return = slot_means plan.post_return e.post_return here.post_return
        (all_right HasMeaning xs ys both) in
        let model = model_means e.model here.model (all_right HasMeaning (xs ++ ys) zs all) in
        (_, means.means_entry callback.1 post_return.1 model.1)

    options_mean : (o : ℕ) → o < length g.options → All HasMeaning (names.in_options g o)
        → (v : Options Mark) × MeansOptions g o v
    unfolding HoldsEntry
    options_mean o here all =
        let found = found_at g.options o here in
        let entry = subst (λ x. All HasMeaning (each_of (λ y. names.in_entry g (options_entry y)) x)) found.1 all in
        let v = entry_means (options_entry found.0) (held list.options o found.0 found.1) entry in
        (v.0, means.means_options found.1 v.1)

    part_means : (p : plan.TrampolinePart Mark) → HeldPart g p → All HasMeaning (names.in_part g p)
        → (v : Part Mark) × MeansPart g p v
    unfolding HeldPart
    part_means (plan.mark m) here all = (value.mark_part m, means.means_mark)
    part_means (plan.number n) here all = (value.number_part n, means.means_number)
    part_means (plan.flag b) here all = (value.flag_part b, means.means_flag)
    part_means (plan.slot k n) here all =
        let v = slot_means k n here all in
        (value.value_part v.0, means.means_slot_part v.1)
    part_means (plan.options o) here all =
        let v = options_mean o here all in
        (value.options_part v.0, means.means_options_part v.1)

    parts_mean : (ps : List (plan.TrampolinePart Mark)) → All (HeldPart g) ps
        → All HasMeaning (flat_map (names.in_part g) ps) → (vs : Parts Mark) × MeansParts g ps vs
    parts_mean [] here all = (value.no_parts, means.means_no_parts)
    parts_mean (p ∷ ps) here all =
        let xs = names.in_part g p in
        let ys = flat_map (names.in_part g) ps in
        let v = part_means p (All-head (HeldPart g) p ps here) (all_left HasMeaning xs ys all) in
        let vs = parts_mean ps (All-tail (HeldPart g) p ps here) (all_right HasMeaning xs ys all) in
        (value.and_part v.0 vs.0, means.means_and_part v.1 vs.1)

    path_of : (r : ℕ) → r < length g.imports → (path : Path) × HasPath g r path
    path_of r here =
        let found = found_at g.imports r here in
        (record { import = found.0.0.0; names = found.0.1 }, found.1)

    trampoline_means : (e : plan.TrampolineEntry Mark) → HeldTrampoline g e → All HasMeaning (names.in_trampoline g e)
        → (v : CoreValue Mark) × MeansTrampoline g e v
    unfolding HeldTrampoline names.in_trampoline
    trampoline_means (plan.lowers r s ty o) here all =
        let path = path_of r here.0 in
        let v = options_mean o here.1 all in
        (_, means.means_lowered path.1 v.1)
    trampoline_means (plan.builtin k symbol c ps) here all =
        let vs = parts_mean ps here.1 all in
        (_, means.means_builtin vs.1)
    trampoline_means (plan.helper k symbol ps) here all =
        let vs = parts_mean ps here all in
        (_, means.means_helper vs.1)

module _ (g : ComponentDfg) (ordered : IsOrdered g) where
  -- the adapters that a definition names are among the first ones
  abbrev NamesBelow : ℕ → CoreDef → Type 0
  NamesBelow j d = (a : ℕ) → Names g d (an_adapter a) → a < j

  below_means : (j : ℕ) → ((a : ℕ) → a < j → HasMeaning g (def.Adapter (record { 0 = a }))) → (k : ℕ) (d : CoreDef)
      → IsBelow k d → IsHeld g d → NamesBelow j d → HasMeaning g d
  unfolding IsBelow IsHeld HoldsEntry
  below_means j adapters zero (def.Trampoline t) below held named = absurd (omega (arith, below))
  below_means j adapters (suc k) (def.Trampoline t) below held named =
      let found = found_at g.trampolines t.0 held in
      let e = trampoline_entry found.0 in
      let ds = names.in_trampoline g e in
      let lower = ordered.trampolines t.0 found.0 found.1 in
      let all_held = trampoline_held g ordered.held e in
      let one : (d : CoreDef) → IsBelow t.0 d × IsHeld g d × Contains ds d → HasMeaning g d =
      λ d here. below_means j adapters k d (later_below t.0 k d (omega (arith, below)) here.0) here.1
      (λ a names. named a (names_through found.1 here.2 names)) in
      let all = All-weaker (λ d. IsBelow t.0 d × IsHeld g d × Contains ds d) (HasMeaning g) one ds
      (λ i d within. (lower i d within, all_held i d within, All-contains_itself ds i d within)) in
      let v = trampoline_means g ordered.held e (ordered.held list.trampolines t.0 found.0 found.1) all in
      (v.0, means.means_trampoline found.1 v.1)
  below_means j adapters k (def.Export e) below held named = (_, means.means_export)
  below_means j adapters k (def.InstanceFlags c) below held named = (_, means.means_flags)
  below_means j adapters k (def.UnsafeIntrinsic s i) below held named = (_, means.means_intrinsic)
  below_means j adapters k (def.Adapter a) below held named = adapters a.0 (named a.0 names_adapter)

  some_bound : (d : CoreDef) → (k : ℕ) × IsBelow k d
  unfolding IsBelow
  some_bound (def.Trampoline t) = (suc t.0, omega arith)
  some_bound (def.Export e) = (0, tt)
  some_bound (def.InstanceFlags c) = (0, tt)
  some_bound (def.UnsafeIntrinsic s i) = (0, tt)
  some_bound (def.Adapter a) = (0, tt)

  adapters_mean : (j : ℕ) → j ≤ length g.adapters → (a : ℕ) → a < j → HasMeaning g (def.Adapter (record { 0 = a }))
  unfolding HoldsEntry OneNames
  adapters_mean zero bound a below = absurd (omega (arith, below))
  adapters_mean (suc j) bound a below =
      let found = found_at g.adapters a (omega (arith, below, bound)) in
      let ds = in_adapter found.0 in
      let all_held = (ordered.held list.adapters a found.0 found.1).defs in
      let one : (d : CoreDef) → IsHeld g d × Contains ds d → HasMeaning g d =
      λ d here. let k = some_bound d in
      below_means j (adapters_mean j (omega (arith, bound))) k.0 d k.1 here.0
      (λ b names. let lower = ordered.adapters a b found.0 found.1 (d, here.1, names) in
      omega (arith, lower, below)) in
      adapter_means g found.0 a found.1
      (All-weaker (λ d. IsHeld g d × Contains ds d) (HasMeaning g) one ds
      (λ i d within. (all_held i d within, All-contains_itself ds i d within)))

  -- a held definition has a value
  pub held_means : (d : CoreDef) → IsHeld g d → HasMeaning g d
  held_means d held =
      let k = some_bound d in
      below_means (length g.adapters) (adapters_mean (length g.adapters) (omega arith)) k.0 d k.1 held
      (λ a named. names_there g ordered.held named held)

  -- and so have held options
  pub held_options_mean : (o : ℕ) → o < length g.options → (v : Options Mark) × MeansOptions g o v
  held_options_mean o held =
      options_mean g ordered.held o held
      (All-weaker (IsHeld g) (HasMeaning g) held_means (names.in_options g o) (options_held g ordered.held o))

  slot_valued : (k : plan.SlotKind) (n : ℕ) → HasValue g k n
  unfolding HoldsEntry
  slot_valued k n d at = held_means d (ordered.held (list.slots k) n d at)

  lowered_within : (n : ℕ) (x : Option SignedTrampoline) → slice_get g.trampolines n ≡ x → LowersImport x
      → n < length g.trampolines
  lowered_within n None at lowers = absurd lowers
  lowered_within n (Some x) at lowers = slice_get_within g.trampolines n x at

  -- an id that can be closed stands for a value
  pub valued : (made : ℕ) (x : Id) → CanClose g made x → Valued g x
  unfolding CanClose Valued IsHeld
  valued made (id.Memory n) can = slot_valued plan.memory n.0
  valued made (id.Table n) can = slot_valued plan.table n.0
  valued made (id.Realloc n) can = slot_valued plan.realloc n.0
  valued made (id.Callback n) can = slot_valued plan.callback n.0
  valued made (id.PostReturn n) can = slot_valued plan.post_return n.0
  valued made (id.Options o) can = held_options_mean o.0 can
  valued made (id.Lowering t) can =
      held_means (def.Trampoline t) (lowered_within t.0 (slice_get g.trampolines t.0) refl can)
  valued made (id.Trampoline t) can = held_means (def.Trampoline t) can
  valued made (id.Intrinsic s i) can = tt
  valued made (id.AdapterModule m) can = tt
