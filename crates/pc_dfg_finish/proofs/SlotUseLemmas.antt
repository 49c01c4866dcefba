-- Each slot of a plan is named by an options entry or a trampoline of it.
use Rattle.std.proofs.Common.{◌≡◌, ◌++◌, ◌⊎◌, inl, inr, ℕ, zero, suc, List, [], ◌∷◌, All, Option, None, Some}
use Rattle.std.proofs.Common.{option_map, refl, sym, ap, subst, ◌∙◌, arith}
use Rattle.std.specs.Prelude.{slice_get, unwrap_or}
use Rattle.std.specs.List.{Contains, flat_map}
use Rattle.std.proofs.lemmas.List.Elements.{All-append, All-contains, All-nil, Contains-append_cases}
use Rattle.std.proofs.lemmas.Option.{none-some, same_Some}
use Rattle.pc_dfg.specs.declared.ids.AdapterModuleId.{AdapterModuleId}
use Rattle.pc_dfg.specs.declared.ids.CallbackId.{CallbackId}
use Rattle.pc_dfg.specs.declared.ids.MemoryId.{MemoryId}
use Rattle.pc_dfg.specs.declared.ids.OptionsId.{OptionsId}
use Rattle.pc_dfg.specs.declared.ids.PostReturnId.{PostReturnId}
use Rattle.pc_dfg.specs.declared.ids.ReallocId.{ReallocId}
use Rattle.pc_numbers.specs.declared.entity_index.EntityIndex.{EntityIndex}
use Rattle.pc_numbers.specs.declared.module_entity.ModuleInternedTypeIndex.{ModuleInternedTypeIndex}
use Rattle.pc_numbers.specs.declared.runtime.RuntimeCallbackIndex.{RuntimeCallbackIndex}
use Rattle.pc_numbers.specs.declared.runtime.RuntimeImportIndex.{RuntimeImportIndex}
use Rattle.pc_numbers.specs.declared.runtime.RuntimeMemoryIndex.{RuntimeMemoryIndex}
use Rattle.pc_numbers.specs.declared.runtime.RuntimePostReturnIndex.{RuntimePostReturnIndex}
use Rattle.pc_numbers.specs.declared.runtime.RuntimeReallocIndex.{RuntimeReallocIndex}
use Rattle.pc_numbers.specs.declared.runtime.TrampolineIndex.{TrampolineIndex}
use Rattle.pc_types.specs.declared.trampoline.TrampolineKind.{TrampolineKind}
use Rattle.pc_spec_plan.specs.PlanView as plan
use Rattle.pc_trampoline.specs.declared.part.Head.{Head}
use Rattle.pc_trampoline.specs.declared.part.Head.TheVariants as head
use Rattle.pc_trampoline.specs.declared.part.Mark.{Mark}
use Rattle.pc_trampoline.specs.declared.part.Part.TheVariants as part
use Rattle.pc_trampoline.specs.declared.part.PartList.{PartList}
use Rattle.pc_trampoline.specs.Parts.{list_of, parts_of}
use Rattle.pc_trampoline.specs.View.{entry_of, entry_view, part_by, parts_entry, plan_numbers}
use Rattle.pc_info.specs.declared.options.CanonicalOptions.{CanonicalOptions as PlanOptions}
use Rattle.pc_info.specs.Options.{model_view, options_view}
use Rattle.pc_info.specs.View.{no_signature, trampolines_view}
use Rattle.pc_dfg.specs.declared.core_def.CoreDef.{CoreDef}
use Rattle.pc_dfg.specs.declared.core_def.CoreDef.TheVariants as def
use Rattle.pc_dfg.specs.declared.dfg.ComponentDfg.{ComponentDfg}
use Rattle.pc_dfg.specs.declared.export.Export.{Export}
use Rattle.pc_dfg.specs.declared.export.Export.TheVariants as export
use Rattle.pc_dfg.specs.declared.options.CanonicalOptions.{CanonicalOptions}
use Rattle.pc_dfg.specs.declared.options.CanonicalOptionsDataModel.{CanonicalOptionsDataModel as Model}
use Rattle.pc_dfg.specs.declared.options.CanonicalOptionsDataModel.TheVariants as model
use Rattle.pc_dfg.specs.Numbers.{graph_numbers, model_entry, options_entry, slots_of}
use Rattle.pc_dfg_linearize.specs.declared.id.Id.{Id}
use Rattle.pc_dfg_linearize.specs.declared.id.Id.TheVariants as id
use Rattle.pc_dfg_linearize.specs.declared.state.Finish.{Finish}
use Rattle.pc_dfg_linearize.specs.Entries.{GraphPart, GraphParts, callback_in, head_in, list_in, memory_in, model_in}
use Rattle.pc_dfg_linearize.specs.Entries.{options_in, part_in, parts_in, post_return_in, realloc_in}
use Rattle.pc_dfg_finish.specs.Exports.{in_export, in_exports}
use Rattle.pc_dfg_linearize.specs.Numbers.{number_at, numbered}
use Rattle.pc_dfg_linearize.specs.Once.{Alike, IsUsedBy, unsigned}
use Rattle.pc_dfg_linearize.specs.Parts.{HasNumber, in_def, in_entry, in_model, in_part, in_slot, in_trampoline, maybe_slot}
use Rattle.pc_dfg_linearize.specs.Parts.{number_of, options_id, parts, slot_id, slot_numbers}
use Rattle.pc_dfg_linearize.specs.Ready.{Leads}
use Rattle.pc_dfg_linearize.specs.Represented.{IsCopyOf, Represents}
use Rattle.pc_info.specs.Slots.{TakesSlot, model_memory, model_realloc, options_slot}
use Rattle.pc_dfg_linearize.proofs.PartLemmas.{all_each, all_one}
use Rattle.pc_dfg_linearize.proofs.RepresentedLemmas.{copied_parts, options_parts}
use Rattle.pc_dfg_linearize.proofs.TakeLemmas.{none_in, one_in, signed_names}
use Rattle.pc_dfg_linearize.proofs.TrampolineLemmas.{first_view}
use Rattle.pc_dfg_finish.proofs.UsedLemmas.{leads_last, leads_numbered}

-- an id that a definition or an export may depend on: no slot, and no lowering
unfoldable pub IsDirect : Id → Type 0
IsDirect (id.Memory n) = ⊥
IsDirect (id.Table n) = ⊥
IsDirect (id.Realloc n) = ⊥
IsDirect (id.Callback n) = ⊥
IsDirect (id.PostReturn n) = ⊥
IsDirect (id.Lowering t) = ⊥
IsDirect x = Unit {0}

direct_slot : (k : plan.SlotKind) (i : ℕ) → IsDirect (slot_id k i) → ⊥
unfolding IsDirect
direct_slot plan.memory i plain = plain
direct_slot k i plain = plain

-- the number of a slot's id is that of its entry
pub slot_number : (f : Finish) (k : plan.SlotKind) (i : ℕ)
    → number_of f (slot_id k i) ≡ number_at (slot_numbers f k) i
unfolding number_of
slot_number f plan.memory i = refl
slot_number f k i = refl

-- the slot of an id
abbrev slot_at : Id → Option (plan.SlotKind × ℕ)
slot_at (id.Memory n) = Some (plan.memory, n.0)
slot_at (id.Table n) = Some (plan.table, n.0)
slot_at (id.Realloc n) = Some (plan.realloc, n.0)
slot_at (id.Callback n) = Some (plan.callback, n.0)
slot_at (id.PostReturn n) = Some (plan.post_return, n.0)
slot_at x = None

slot_at_id : (k : plan.SlotKind) (i : ℕ) → slot_at (slot_id k i) ≡ Some (k, i)
slot_at_id plan.memory i = refl
slot_at_id k i = refl

module _ (k : plan.SlotKind) (i : ℕ) where
  -- a slot that may be left out is that one
  only_slot : (l : plan.SlotKind) (m : Option ℕ) → Contains (maybe_slot l m) (slot_id k i) → (l ≡ k) × (m ≡ Some i)
  only_slot l None inside = absurd (none_in (slot_id k i) inside)
  only_slot l (Some j) inside =
      let same = one_in (slot_id l j) (slot_id k i) inside in
      let pair : (l, j) ≡ (k, i) =
      same_Some (l, j) (k, i) (sym (slot_at_id l j) ∙ ap slot_at same ∙ slot_at_id k i) in
      (ap (λ p. p.0) pair, ap (λ p. Some p.1) pair)

  model_names : (e : plan.PlanOptions Mark) (m : plan.ModelEntry) → e.model ≡ m → Contains (in_model m) (slot_id k i)
      → options_slot k e ≡ Some i
  model_names e plan.gc same inside = absurd (none_in (slot_id k i) inside)
  model_names e (plan.linear m r) same inside =
      elim (Contains-append_cases (maybe_slot plan.memory m) (maybe_slot plan.realloc r) (slot_id k i) inside) [
        | inl first ↦
            let q = only_slot plan.memory m first in
            subst (λ l. options_slot l e ≡ Some i) q.0 (ap model_memory same ∙ q.1)
        | inr second ↦
            let q = only_slot plan.realloc r second in
            subst (λ l. options_slot l e ≡ Some i) q.0 (ap model_realloc same ∙ q.1)
      ]

  -- a slot that options depend on is one that they name
  entry_names : (e : plan.PlanOptions Mark) → Contains (in_entry e) (slot_id k i) → options_slot k e ≡ Some i
  entry_names e inside =
      let ms = in_model e.model in
      let cs = maybe_slot plan.callback e.callback in
      let ps = maybe_slot plan.post_return e.post_return in
      elim (Contains-append_cases (ms ++ cs) ps (slot_id k i) inside) [
        | inl front ↦ elim (Contains-append_cases ms cs (slot_id k i) front) [
          | inl first ↦ model_names e e.model refl first
          | inr second ↦
              let q = only_slot plan.callback e.callback second in
              subst (λ l. options_slot l e ≡ Some i) q.0 q.1
        ]
        | inr last ↦
            let q = only_slot plan.post_return e.post_return last in
            subst (λ l. options_slot l e ≡ Some i) q.0 q.1
      ]

-- a slot as a part of a trampoline
abbrev pub slot_part : plan.SlotKind → Option ℕ → plan.TrampolinePart Mark
slot_part k n = plan.slot k n

-- two ways from one to the other agree on what may be left out
fused : {A B C D : Type 0} (a : B → D) (b : A → B) (c : C → D) (d : A → C) → ((x : A) → a (b x) ≡ c (d x))
    → (o : Option A) → option_map a (option_map b o) ≡ option_map c (option_map d o)
fused a b c d each None = refl
fused a b c d each (Some x) = ap (λ y. Some y) (each x)

module _ (f : Finish) where
  memory_renumbered : (m : Model)
      → model_memory (model_view (model_in f m)) ≡ option_map (numbered f.numbers.memories)
      (model_memory (model_entry m))
  memory_renumbered model.Gc = refl
  memory_renumbered (model.LinearMemory m r) =
      fused (λ (n : RuntimeMemoryIndex). n.0) (memory_in f) (numbered f.numbers.memories) (λ (n : MemoryId). n.0)
      (λ x. refl) m

  realloc_renumbered : (m : Model)
      → model_realloc (model_view (model_in f m)) ≡ option_map (numbered f.numbers.reallocs)
      (model_realloc (model_entry m))
  realloc_renumbered model.Gc = refl
  realloc_renumbered (model.LinearMemory m r) =
      fused (λ (n : RuntimeReallocIndex). n.0) (realloc_in f) (numbered f.numbers.reallocs) (λ (n : ReallocId). n.0)
      (λ x. refl) r

  -- an options entry of the plan names the slots of that of the graph, by number
  pub slots_renumbered : (k : plan.SlotKind) (o : CanonicalOptions) → options_slot k (options_view (options_in f o))
      ≡ option_map (numbered (slot_numbers f k)) (options_slot k (options_entry o))
  slots_renumbered plan.memory o = memory_renumbered o.data_model
  slots_renumbered plan.table o = refl
  slots_renumbered plan.realloc o = realloc_renumbered o.data_model
  slots_renumbered plan.callback o =
      fused (λ (n : RuntimeCallbackIndex). n.0) (callback_in f) (numbered f.numbers.callbacks) (λ (n : CallbackId). n.0)
      (λ x. refl) o.callback
  slots_renumbered plan.post_return o =
      fused (λ (n : RuntimePostReturnIndex). n.0) (post_return_in f) (numbered f.numbers.post_returns)
      (λ (n : PostReturnId). n.0) (λ x. refl) o.post_return

  module _ (k : plan.SlotKind) (i n : ℕ) (has : number_at (slot_numbers f k) i ≡ Some n) where
    -- options name the slot
    pub options_name : (o : CanonicalOptions) → Contains (in_entry (options_entry o)) (slot_id k i)
        → options_slot k (options_view (options_in f o)) ≡ Some n
    options_name o inside =
        slots_renumbered k o ∙ ap (option_map (numbered (slot_numbers f k))) (entry_names k i (options_entry o) inside)
        ∙ ap (λ x. Some (unwrap_or x 0)) has

    slot_named : (l : plan.SlotKind) (m : Option ℕ) → Contains (maybe_slot l m) (slot_id k i)
        → slot_part l (option_map (numbered (slot_numbers f l)) m) ≡ slot_part k (Some n)
    slot_named l m inside =
        let q = only_slot k i l m inside in
        ap (λ x. slot_part l (option_map (numbered (slot_numbers f l)) x)) q.1
        ∙ ap (λ x. slot_part x (Some (numbered (slot_numbers f x) i))) q.0
        ∙ ap (λ x. slot_part k (Some (unwrap_or x 0))) has

    part_named : (p : GraphPart) → Contains (in_part (part_by graph_numbers p)) (slot_id k i)
        → part_by plan_numbers (part_in f p) ≡ plan.slot k (Some n)
    unfolding IsDirect
    part_named (part.Type_ ty) inside = absurd (none_in (slot_id k i) inside)
    part_named (part.Number m) inside = absurd (none_in (slot_id k i) inside)
    part_named (part.Flag b) inside = absurd (none_in (slot_id k i) inside)
    part_named (part.Memory m) inside = slot_named plan.memory (Some m.0) inside
    part_named (part.MaybeMemory None) inside = absurd (none_in (slot_id k i) inside)
    part_named (part.MaybeMemory (Some m)) inside = slot_named plan.memory (Some m.0) inside
    part_named (part.Table t) inside = slot_named plan.table (Some t.0) inside
    part_named (part.Callback None) inside = absurd (none_in (slot_id k i) inside)
    part_named (part.Callback (Some c)) inside = slot_named plan.callback (Some c.0) inside
    part_named (part.PostReturn None) inside = absurd (none_in (slot_id k i) inside)
    part_named (part.PostReturn (Some p)) inside = slot_named plan.post_return (Some p.0) inside
    part_named (part.Options o) inside =
        absurd (direct_slot k i (subst IsDirect (one_in (options_id o.0) (slot_id k i) inside) tt))

    head_named : (s : ModuleInternedTypeIndex) (t : TrampolineIndex) (b : TrampolineKind)
        (h : Head RuntimeImportIndex OptionsId) (ps : PartList GraphPart)
        → Contains (in_trampoline t (entry_of graph_numbers s b h (list_of ps))) (slot_id k i)
        → TakesSlot k n (entry_of plan_numbers s b (head_in f t h) (list_of (list_in f ps)))
    head_named s t b (head.Lowering r ty o) ps (zero, below, is) =
        absurd (none-some (k, i) (ap slot_at is ∙ slot_at_id k i))
    head_named s t b (head.Lowering r ty o) ps (suc zero, below, is) =
        absurd (none-some (k, i) (ap slot_at is ∙ slot_at_id k i))
    head_named s t b (head.Lowering r ty o) ps (suc (suc j), below, is) = absurd (omega (arith, below))
    head_named s t b (head.Builtin c) ps inside =
        signed_names f (slot_id k i) (plan.slot k (Some n)) part_named s ps inside
    head_named s t b h ps inside = signed_names f (slot_id k i) (plan.slot k (Some n)) part_named s ps inside

    -- a trampoline names the slot
    pub trampoline_names : (s : ModuleInternedTypeIndex) (t : TrampolineIndex) (p : GraphParts)
        → Contains (in_trampoline t (parts_entry graph_numbers s p)) (slot_id k i)
        → TakesSlot k n (parts_entry plan_numbers s (parts_in f t p))
    trampoline_names s t p inside = head_named s t p.kind p.head p.parts inside

module _ (g : ComponentDfg) where
  direct_def : (d : CoreDef) → All IsDirect (in_def g d)
  unfolding IsDirect
  direct_def (def.Export e) = All-nil IsDirect
  direct_def (def.InstanceFlags c) = All-nil IsDirect
  direct_def (def.Trampoline t) = all_one IsDirect (id.Trampoline t) tt
  direct_def (def.UnsafeIntrinsic s i) = all_one IsDirect (id.Intrinsic s i) tt
  direct_def (def.Adapter a) =
      all_each IsDirect (λ (p : AdapterModuleId × EntityIndex). id.AdapterModule p.0 ∷ [])
      (slice_get g.adapter_partitionings a.0) (λ p at. all_one IsDirect (id.AdapterModule p.0) tt)

  -- no definition depends on a slot itself
  pub direct_defs : (ds : List CoreDef) → All IsDirect (flat_map (in_def g) ds)
  direct_defs [] = All-nil IsDirect
  direct_defs (d ∷ ds) =
      All-append IsDirect (in_def g d) (flat_map (in_def g) ds) (direct_def d) (direct_defs ds)

  direct_export : (e : Export) → All IsDirect (in_export g e)
  unfolding IsDirect
  direct_export (export.LiftedFunction ty d o) =
      All-append IsDirect (in_def g d) (id.Options o ∷ []) (direct_def d) (all_one IsDirect (id.Options o) tt)
  direct_export (export.ImportedFunction ty r) = All-nil IsDirect
  direct_export (export.ModuleStatic ty m) = All-nil IsDirect
  direct_export (export.ModuleImport ty r) = All-nil IsDirect
  direct_export (export.Instance ty es) = All-nil IsDirect
  direct_export (export.Type_ ty) = All-nil IsDirect

  -- nor does an export
  pub direct_exports : (es : List Export) → All IsDirect (in_exports g es)
  direct_exports [] = All-nil IsDirect
  direct_exports (e ∷ es) =
      All-append IsDirect (in_export g e) (in_exports g es) (direct_export e) (direct_exports es)

  pub direct_in_slot : (k : plan.SlotKind) (n : ℕ) → All IsDirect (in_slot g k n)
  direct_in_slot k n = all_each IsDirect (in_def g) (slice_get (slots_of g k) n) (λ d at. direct_def d)

  no_slot_in : (xs : List Id) (k : plan.SlotKind) (i : ℕ) → All IsDirect xs → Contains xs (slot_id k i) → ⊥
  no_slot_in xs k i all inside = direct_slot k i (All-contains IsDirect xs (slot_id k i) all inside)

  -- only options and trampolines depend on a slot
  needs_slot : (x : Id) (k : plan.SlotKind) (i : ℕ) → Contains (parts g x) (slot_id k i)
      → ((o : OptionsId) × (x ≡ id.Options o)) ⊎ ((t : TrampolineIndex) × (x ≡ id.Trampoline t))
  unfolding parts
  needs_slot (id.Memory n) k i inside = absurd (no_slot_in _ k i (direct_in_slot plan.memory n.0) inside)
  needs_slot (id.Table n) k i inside = absurd (no_slot_in _ k i (direct_in_slot plan.table n.0) inside)
  needs_slot (id.Realloc n) k i inside = absurd (no_slot_in _ k i (direct_in_slot plan.realloc n.0) inside)
  needs_slot (id.Callback n) k i inside = absurd (no_slot_in _ k i (direct_in_slot plan.callback n.0) inside)
  needs_slot (id.PostReturn n) k i inside = absurd (no_slot_in _ k i (direct_in_slot plan.post_return n.0) inside)
  needs_slot (id.Options o) k i inside = inl (o, refl)
  needs_slot (id.Lowering t) k i inside = absurd (no_slot_in [] k i (All-nil IsDirect) inside)
  needs_slot (id.Trampoline t) k i inside = inr (t, refl)
  needs_slot (id.Intrinsic s j) k i inside = absurd (no_slot_in [] k i (All-nil IsDirect) inside)
  needs_slot (id.AdapterModule m) k i inside =
      absurd (no_slot_in _ k i
      (all_each IsDirect (λ x. flat_map (in_def g) x.1) (slice_get g.adapter_modules m.0) (λ x at. direct_defs x.1))
      inside)

  unsigned_slot : (k : plan.SlotKind) (i : ℕ) → unsigned (slot_id k i) ≡ slot_id k i
  unfolding unsigned
  unsigned_slot plan.memory i = refl
  unsigned_slot k i = refl

  -- a slot is alike to itself alone
  alike_slot : (x : Id) (k : plan.SlotKind) (i : ℕ) → Alike x (slot_id k i) → x ≡ slot_id k i
  unfolding unsigned IsDirect
  alike_slot (id.Intrinsic s j) k i alike = absurd (direct_slot k i (subst IsDirect (alike ∙ unsigned_slot k i) tt))
  alike_slot x k i alike = alike ∙ unsigned_slot k i

  module _ (f : Finish) (is : Represents g f) where
    -- an options entry or a trampoline of the plan names the slot
    Named : plan.SlotKind → ℕ → Type 0
    Named k n =
        ((m : ℕ) × (o : PlanOptions) × (slice_get f.options m ≡ Some o) × (options_slot k (options_view o) ≡ Some n))
        ⊎ ((m : ℕ) × (x : plan.TrampolineEntry Mark)
        × (slice_get (trampolines_view 0 f.signatures f.trampolines) m ≡ Some x) × TakesSlot k n x)

    -- the trampoline of a number, as the plan sees it
    pub copied_view : (t n : ℕ) (c : IsCopyOf g f t n)
        → slice_get (trampolines_view 0 f.signatures f.trampolines) n ≡ Some (entry_view c.entry.0 c.made)
    copied_view t n c =
        first_view f.signatures f.trampolines n
        ∙ ap (option_map (λ z. entry_view (unwrap_or (slice_get f.signatures n) no_signature) z)) c.there
        ∙ ap (λ o. Some (entry_view (unwrap_or o no_signature) c.made)) c.signature

    module _ (k : plan.SlotKind) (i n : ℕ) (at : number_at (slot_numbers f k) i ≡ Some n) where
      named_by_options : (o : OptionsId) → HasNumber f (id.Options o) → Contains (parts g (id.Options o)) (slot_id k i)
          → Named k n
      unfolding number_of Named
      named_by_options o has inside =
          let e = is.options o.0 has.0 has.1 in
          let inner = subst (λ l. Contains l (slot_id k i)) (options_parts g o.0 e.entry e.at) inside in
          inl (has.0, options_in f e.entry, e.there, options_name f k i n at e.entry inner)

      named_by_trampoline : (t : TrampolineIndex) → HasNumber f (id.Trampoline t)
          → Contains (parts g (id.Trampoline t)) (slot_id k i) → Named k n
      unfolding number_of Named
      named_by_trampoline t has inside =
          let c = is.trampolines t.0 has.0 has.1 in
          let inner = subst (λ l. Contains l (slot_id k i)) (copied_parts g t.0 c.entry c.at) inside in
          let takes = trampoline_names f k i n at c.entry.0 t (parts_of c.entry.1) inner in
          inr (
            has.0,
            entry_view c.entry.0 c.made,
            copied_view t.0 has.0 c,
            subst (λ p. TakesSlot k n (parts_entry plan_numbers c.entry.0 p)) (sym c.is) takes,
          )

      -- a slot to which an id with a number leads is named by options or a trampoline of the plan, or is that id
      pub used_slot : (r : Id) → HasNumber f r → IsDirect r → IsUsedBy g r (slot_id k i)
          → ((m : ℕ) × (o : PlanOptions) × (slice_get f.options m ≡ Some o)
          × (options_slot k (options_view o) ≡ Some n))
          ⊎ ((m : ℕ) × (x : plan.TrampolineEntry Mark)
          × (slice_get (trampolines_view 0 f.signatures f.trampolines) m ≡ Some x) × TakesSlot k n x)
      unfolding Named
      used_slot r has plain used =
          let leads = subst (Leads g r) (alike_slot used.0 k i used.2) used.1 in
          elim (leads_last g r (slot_id k i) leads) [
            | inl same ↦ absurd (direct_slot k i (subst IsDirect same plain))
            | inr last ↦
                let has' = leads_numbered g f is r last.0 last.1 has in
                elim (needs_slot last.0 k i last.2) [
                  | inl o ↦ named_by_options o.0 (subst (HasNumber f) o.1 has')
                      (subst (λ y. Contains (parts g y) (slot_id k i)) o.1 last.2)
                  | inr t ↦ named_by_trampoline t.0 (subst (HasNumber f) t.1 has')
                      (subst (λ y. Contains (parts g y) (slot_id k i)) t.1 last.2)
                ]
          ]
