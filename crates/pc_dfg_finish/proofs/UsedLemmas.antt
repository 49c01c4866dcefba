-- Each options entry of a plan is named by a trampoline of it, or by what gave it its number.
use Rattle.std.proofs.Common.{◌≡◌, ◌++◌, ◌⊎◌, inl, inr, ℕ, List, [], ◌∷◌, All, Option, None, Some, option_map, refl}
use Rattle.std.proofs.Common.{sym, ap, subst, ◌∙◌}
use Rattle.std.specs.Prelude.{slice_get, unwrap_or}
use Rattle.std.specs.List.{Contains, flat_map}
use Rattle.std.proofs.lemmas.List.Elements.{All-append, All-contains, All-nil}
use Rattle.pc_dfg.specs.declared.ids.AdapterModuleId.{AdapterModuleId}
use Rattle.pc_numbers.specs.declared.entity_index.EntityIndex.{EntityIndex}
use Rattle.pc_numbers.specs.declared.runtime.TrampolineIndex.{TrampolineIndex}
use Rattle.pc_spec_plan.specs.PlanView as plan
use Rattle.pc_trampoline.specs.declared.part.Mark.{Mark}
use Rattle.pc_trampoline.specs.Parts.{parts_of}
use Rattle.pc_trampoline.specs.View.{entry_view, parts_entry, plan_numbers}
use Rattle.pc_info.specs.View.{no_signature, trampolines_view}
use Rattle.pc_dfg.specs.declared.core_def.CoreDef.{CoreDef}
use Rattle.pc_dfg.specs.declared.core_def.CoreDef.TheVariants as def
use Rattle.pc_dfg.specs.declared.dfg.ComponentDfg.{ComponentDfg}
use Rattle.pc_dfg.specs.Numbers.{options_entry, slots_of}
use Rattle.pc_dfg_linearize.specs.declared.id.Id.{Id}
use Rattle.pc_dfg_linearize.specs.declared.id.Id.TheVariants as id
use Rattle.pc_dfg_linearize.specs.declared.state.Finish.{Finish}
use Rattle.pc_dfg_linearize.specs.Numbers.{number_at}
use Rattle.pc_dfg_linearize.specs.Once.{Alike, IsUsedBy, unsigned}
use Rattle.pc_dfg_linearize.specs.Parts.{HasNumber, in_def, in_entry, in_model, in_slot, maybe_slot, number_of, options_id}
use Rattle.pc_dfg_linearize.specs.Parts.{parts, slot_id}
use Rattle.pc_dfg_linearize.specs.Ready.{Leads, here, through}
use Rattle.pc_dfg_linearize.specs.Represented.{Represents}
use Rattle.pc_info.specs.Slots.{TakesOptions}
use Rattle.pc_dfg_linearize.proofs.PartLemmas.{all_each, all_one}
use Rattle.pc_dfg_linearize.proofs.RepresentedLemmas.{copied_parts}
use Rattle.pc_dfg_linearize.proofs.TakeLemmas.{parts_take}
use Rattle.pc_dfg_linearize.proofs.TrampolineLemmas.{first_view}

-- an id that isn't one of options
unfoldable pub NoOptions : Id → Type 0
NoOptions (id.Options o) = ⊥
NoOptions x = Unit {0}

no_slot : (k : plan.SlotKind) (n : ℕ) → NoOptions (slot_id k n)
unfolding NoOptions
no_slot plan.memory n = tt
no_slot k n = tt

no_maybe : (k : plan.SlotKind) (n : Option ℕ) → All NoOptions (maybe_slot k n)
no_maybe k None = All-nil NoOptions
no_maybe k (Some n) = all_one NoOptions (slot_id k n) (no_slot k n)

no_model : (m : plan.ModelEntry) → All NoOptions (in_model m)
no_model plan.gc = All-nil NoOptions
no_model (plan.linear m r) =
    All-append NoOptions (maybe_slot plan.memory m) (maybe_slot plan.realloc r) (no_maybe plan.memory m)
    (no_maybe plan.realloc r)

no_entry : (e : plan.PlanOptions Mark) → All NoOptions (in_entry e)
no_entry e =
    All-append NoOptions (in_model e.model ++ maybe_slot plan.callback e.callback)
    (maybe_slot plan.post_return e.post_return)
    (All-append NoOptions (in_model e.model) (maybe_slot plan.callback e.callback) (no_model e.model)
    (no_maybe plan.callback e.callback)) (no_maybe plan.post_return e.post_return)

module _ (g : ComponentDfg) where
  pub no_def : (d : CoreDef) → All NoOptions (in_def g d)
  unfolding NoOptions
  no_def (def.Export e) = All-nil NoOptions
  no_def (def.InstanceFlags c) = All-nil NoOptions
  no_def (def.Trampoline t) = all_one NoOptions (id.Trampoline t) tt
  no_def (def.UnsafeIntrinsic s i) = all_one NoOptions (id.Intrinsic s i) tt
  no_def (def.Adapter a) =
      all_each NoOptions (λ (p : AdapterModuleId × EntityIndex). id.AdapterModule p.0 ∷ [])
      (slice_get g.adapter_partitionings a.0) (λ p at. all_one NoOptions (id.AdapterModule p.0) tt)

  no_in_slot : (k : plan.SlotKind) (n : ℕ) → All NoOptions (in_slot g k n)
  no_in_slot k n = all_each NoOptions (in_def g) (slice_get (slots_of g k) n) (λ d at. no_def d)

  pub no_defs : (ds : List CoreDef) → All NoOptions (flat_map (in_def g) ds)
  no_defs [] = All-nil NoOptions
  no_defs (d ∷ ds) = All-append NoOptions (in_def g d) (flat_map (in_def g) ds) (no_def d) (no_defs ds)

  -- only a trampoline depends on options
  needs_options : (x : Id) (k : ℕ) → Contains (parts g x) (options_id k) → (t : TrampolineIndex) × (x ≡ id.Trampoline t)
  unfolding parts NoOptions
  needs_options (id.Memory n) k inside = absurd (All-contains NoOptions _ _ (no_in_slot plan.memory n.0) inside)
  needs_options (id.Table n) k inside = absurd (All-contains NoOptions _ _ (no_in_slot plan.table n.0) inside)
  needs_options (id.Realloc n) k inside = absurd (All-contains NoOptions _ _ (no_in_slot plan.realloc n.0) inside)
  needs_options (id.Callback n) k inside = absurd (All-contains NoOptions _ _ (no_in_slot plan.callback n.0) inside)
  needs_options (id.PostReturn n) k inside =
      absurd (All-contains NoOptions _ _ (no_in_slot plan.post_return n.0) inside)
  needs_options (id.Options o) k inside =
      absurd (All-contains NoOptions _ _
      (all_each NoOptions (λ x. in_entry (options_entry x)) (slice_get g.options o.0)
      (λ x at. no_entry (options_entry x))) inside)
  needs_options (id.Lowering t) k inside = absurd (All-contains NoOptions [] (options_id k) (All-nil NoOptions) inside)
  needs_options (id.Trampoline t) k inside = (t, refl)
  needs_options (id.Intrinsic s i) k inside =
      absurd (All-contains NoOptions [] (options_id k) (All-nil NoOptions) inside)
  needs_options (id.AdapterModule m) k inside =
      absurd (All-contains NoOptions _ _
      (all_each NoOptions (λ x. flat_map (in_def g) x.1) (slice_get g.adapter_modules m.0)
      (λ x at. no_defs x.1)) inside)

  -- options are alike to themselves alone
  alike_options : (x : Id) (k : ℕ) → Alike x (options_id k) → x ≡ options_id k
  unfolding unsigned
  alike_options (id.Intrinsic s i) k alike = absurd (cc alike)
  alike_options x k alike = alike

  -- what an id leads to is it itself, or a part of what it leads to
  pub leads_last : (x z : Id) → Leads g x z → (x ≡ z) ⊎ ((y : Id) × Leads g x y × Contains (parts g y) z)
  leads_last x z here = inl refl
  leads_last x z (through {y = y} first leads) =
      elim (leads_last y z leads) [
        | inl same ↦ inr (x, here, subst (Contains (parts g x)) same first)
        | inr last ↦ inr (last.0, through first last.1, last.2)
      ]

  module _ (f : Finish) (is : Represents g f) where
    -- all that an id with a number leads to has one
    pub leads_numbered : (x z : Id) → Leads g x z → HasNumber f x → HasNumber f z
    leads_numbered x z here has = has
    leads_numbered x z (through {y = y} first leads) has =
        leads_numbered y z leads (All-contains (HasNumber f) (parts g x) y (is.parts x has) first)

    -- the trampoline of a number, as the plan sees it
    Taken : ℕ → Type 0
    Taken n =
        (m : ℕ) × (x : plan.TrampolineEntry Mark)
        × (slice_get (trampolines_view 0 f.signatures f.trampolines) m ≡ Some x) × TakesOptions n x

    taken_by : (t : TrampolineIndex) (k n : ℕ) → HasNumber f (id.Trampoline t)
        → Contains (parts g (id.Trampoline t)) (options_id k) → number_at f.numbers.options k ≡ Some n → Taken n
    unfolding number_of Taken
    taken_by t k n has inside at =
        let e = is.trampolines t.0 has.0 has.1 in
        let view = first_view f.signatures f.trampolines has.0
        ∙ ap (option_map (λ z. entry_view (unwrap_or (slice_get f.signatures has.0) no_signature) z)) e.there
        ∙ ap (λ o. Some (entry_view (unwrap_or o no_signature) e.made)) e.signature in
        let inner = subst (λ l. Contains l (options_id k)) (copied_parts g t.0 e.entry e.at) inside in
        let takes = parts_take f k n at e.entry.0 t (parts_of e.entry.1) inner in (
          has.0,
          entry_view e.entry.0 e.made,
          view,
          subst (λ p. TakesOptions n (parts_entry plan_numbers e.entry.0 p)) (sym e.is) takes,
        )

    -- an options entry is named by a trampoline of the plan, or is what an id with a number is
    pub used_options : (r : Id) (k n : ℕ) → HasNumber f r → IsUsedBy g r (options_id k)
        → number_at f.numbers.options k ≡ Some n
        → (r ≡ options_id k) ⊎ ((m : ℕ) × (x : plan.TrampolineEntry Mark)
        × (slice_get (trampolines_view 0 f.signatures f.trampolines) m ≡ Some x) × TakesOptions n x)
    unfolding Taken
    used_options r k n has used at =
        let leads = subst (Leads g r) (alike_options used.0 k used.2) used.1 in
        elim (leads_last r (options_id k) leads) [
          | inl same ↦ inl same
          | inr last ↦
              let t = needs_options last.0 k last.2 in
              let has' = subst (HasNumber f) t.1 (leads_numbered r last.0 last.1 has) in
              inr (taken_by t.0 k n has' (subst (λ y. Contains (parts g y) (options_id k)) t.1 last.2) at)
        ]
