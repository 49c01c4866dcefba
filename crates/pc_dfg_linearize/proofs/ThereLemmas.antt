-- What has a number is there, stays there while the plan grows, and is converted as it was.
use Rattle.std.proofs.Common.{◌≡◌, ◌<◌, inl, inr, ℕ, List, [], ◌∷◌, length, map, All, Option, None, Some}
use Rattle.std.proofs.Common.{option_map, refl, sym, ap, subst, ◌∙◌, arith}
use Rattle.std.specs.Prelude.{slice_get, unwrap_or}
use Rattle.std.specs.List.{Contains, flat_map}
use Rattle.std.proofs.lemmas.List.Elements.{All-head, All-tail, Contains-append_cases, Contains-append_left}
use Rattle.std.proofs.lemmas.List.Elements.{Contains-append_right}
use Rattle.pc_entity.proofs.LookupLemmas.{found_at}
use Rattle.pc_dfg.specs.declared.ids.AdapterModuleId.{AdapterModuleId}
use Rattle.pc_numbers.specs.declared.entity_index.EntityIndex.{EntityIndex}
use Rattle.pc_numbers.specs.declared.module_entity.ModuleInternedTypeIndex.{ModuleInternedTypeIndex}
use Rattle.pc_numbers.specs.declared.runtime.RuntimeInstanceIndex.{RuntimeInstanceIndex}
use Rattle.pc_types.specs.IntrinsicType.{intrinsic_place}
use Rattle.pc_info.specs.declared.core_def.CoreDef.TheVariants as plan_def
use Rattle.pc_info.specs.declared.core_def.ExportItem.TheVariants as item
use Rattle.pc_info.specs.Definitions.{def_view}
use Rattle.pc_dfg.specs.declared.core_def.CoreDef.{CoreDef}
use Rattle.pc_dfg.specs.declared.core_def.CoreDef.TheVariants as def
use Rattle.pc_dfg.specs.declared.dfg.ComponentDfg.{ComponentDfg}
use Rattle.pc_dfg.specs.Names.{each_of}
use Rattle.pc_dfg_linearize.specs.declared.id.Id.{Id}
use Rattle.pc_dfg_linearize.specs.declared.id.Id.TheVariants as id
use Rattle.pc_dfg_linearize.specs.declared.state.Finish.{Finish}
use Rattle.pc_dfg_linearize.specs.Converted.{adapter_def, def_in}
use Rattle.pc_dfg_linearize.specs.Once.{Fills, Origin, Stay, number_in_run, of_instance, of_module}
use Rattle.pc_dfg_linearize.specs.Parts.{HasNumber, in_def, number_of, slot_id}
use Rattle.pc_dfg_linearize.specs.Ready.{IsReadyDef}
use Rattle.pc_info.specs.Standing.{Piece, a_lowering, a_slot, a_trampoline, an_instance, an_intrinsic}
use Rattle.pc_info.specs.Standing.{an_options_entry, named_by}
use Rattle.pc_dfg_linearize.specs.Steps.{IsConvertible, IsThere, piece_of}
use Rattle.pc_dfg_linearize.proofs.DefLemmas.{numbered_module}
use Rattle.pc_dfg_linearize.proofs.EntryLemmas.{slot_number}
use Rattle.pc_dfg_linearize.proofs.FillLemmas.{in_run, mapped_back}
use Rattle.pc_dfg_linearize.proofs.TakeLemmas.{none_in, one_in}

-- each core instance of the graph has the number that it had
abbrev pub KeepsInstances : (f f' : Finish) → Type 0
KeepsInstances f f' =
    (k : ℕ) (n : RuntimeInstanceIndex) → slice_get f.instances k ≡ Some n → slice_get f'.instances k ≡ Some n

module _ (f f' : Finish) (stay : Stay f f') (kept : KeepsInstances f f') where
  pub run_stays : (x : Origin) (n : ℕ) → number_in_run f x ≡ Some n → number_in_run f' x ≡ Some n
  unfolding number_of
  run_stays (of_instance k) n is =
      let found = mapped_back in_run (slice_get f.instances k) n is in
      ap (option_map in_run) (kept k found.0 found.1) ∙ ap (λ m. Some m) found.2
  run_stays (of_module k) n is = stay (id.AdapterModule (record { 0 = k })) n is

  -- what was there is there
  pub there_later : Fills f → Fills f' → (x : Piece) → IsThere f x → IsThere f' x
  unfolding IsThere number_of
  there_later fills fills' (a_slot k n) below =
      let a = (fills.slots k).given n below in
      (fills'.slots k).below a.0 n
      (sym (slot_number f' k a.0) ∙ stay (slot_id k a.0) n (slot_number f k a.0 ∙ a.1))
  there_later fills fills' (a_lowering n) below =
      let a = fills.lowerings.given n below in
      fills'.lowerings.below a.0 n (stay (id.Lowering (record { 0 = a.0 })) n a.1)
  there_later fills fills' (an_options_entry n) below =
      let a = fills.options.given n below in
      fills'.options.below a.0 n (stay (id.Options (record { 0 = a.0 })) n a.1)
  there_later fills fills' (a_trampoline n) below =
      let a = fills.trampolines.given n below in
      fills'.trampolines.below a.0 n (stay (id.Trampoline (record { 0 = a.0 })) n a.1)
  there_later fills fills' (an_intrinsic n) below = tt
  there_later fills fills' (an_instance n) below =
      let a = fills.instances.given n below in
      fills'.instances.below a.0 n (run_stays a.0 n a.1)

  -- a definition is converted as it was
  pub def_stays : (g : ComponentDfg) (d : CoreDef) → IsReadyDef g (length f.instances) d
      → All (HasNumber f) (in_def g d) → def_in g f' d ≡ def_in g f d
  unfolding def_in IsReadyDef number_of
  def_stays g (def.Export e) ready numbered =
      let found = found_at f.instances e.instance.0 ready in
      ap (λ (o : Option RuntimeInstanceIndex).
      plan_def.Export (record { instance = unwrap_or o (record { 0 = 0 }); item = e.item }))
      (kept e.instance.0 found.0 found.1 ∙ sym found.1)
  def_stays g (def.InstanceFlags c) ready numbered = refl
  def_stays g (def.Trampoline t) ready numbered =
      let has = All-head (HasNumber f) (id.Trampoline t) [] numbered in
      ap (λ n. plan_def.Trampoline (record { 0 = unwrap_or n 0 })) (stay (id.Trampoline t) has.0 has.1 ∙ sym has.1)
  def_stays g (def.UnsafeIntrinsic s i) ready numbered = refl
  def_stays g (def.Adapter a) ready numbered =
      let found = found_at g.adapter_partitionings a.0 ready in
      let has = numbered_module g f a found.0 found.1 numbered in
      let same = stay (id.AdapterModule found.0.0) has.0 has.1 ∙ sym has.1 in
      ap (adapter_def f') found.1
      ∙ ap (λ n. plan_def.Export (record { instance = record { 0 = unwrap_or n 0 }; item = item.Index found.0.1 })) same
      ∙ sym (ap (adapter_def f) found.1)

module _ (g : ComponentDfg) (f : Finish) where
  -- what a definition depends on, it names
  pub def_names : (d : CoreDef) (y : Id) (n : ℕ) → Contains (in_def g d) y → number_of f y ≡ Some n
      → Contains (named_by (def_view (def_in g f d))) (piece_of y n)
  unfolding def_in number_of piece_of
  def_names (def.Export e) y n inside is = absurd (none_in y inside)
  def_names (def.InstanceFlags c) y n inside is = absurd (none_in y inside)
  def_names (def.Trampoline t) y n inside is =
      let same = one_in (id.Trampoline t) y inside in
      let number : number_of f (id.Trampoline t) ≡ Some n = ap (number_of f) same ∙ is in
      subst (λ z. Contains (named_by (def_view (def_in g f (def.Trampoline t)))) (piece_of z n)) same
      (0, omega arith, ap (λ m. a_trampoline (unwrap_or m 0)) number)
  def_names (def.UnsafeIntrinsic s i) y n inside is =
      let same = one_in (id.Intrinsic s i) y inside in
      let number : number_of f (id.Intrinsic s i) ≡ Some n = ap (number_of f) same ∙ is in
      let place = mapped_back (λ (t : ModuleInternedTypeIndex). intrinsic_place i) _ n number in
      subst (λ z. Contains (named_by (def_view (def_in g f (def.UnsafeIntrinsic s i)))) (piece_of z n)) same
      (0, omega arith, ap an_intrinsic place.2)
  def_names (def.Adapter a) y n inside is = by (slice_get g.adapter_partitionings a.0) inside
    where
      by : (o : Option (AdapterModuleId × EntityIndex))
          → Contains (each_of (λ (p : AdapterModuleId × EntityIndex). id.AdapterModule p.0 ∷ []) o) y
          → Contains (named_by (def_view (adapter_def f o))) (piece_of y n)
      by None within = absurd (none_in y within)
      by (Some p) within =
          let same = one_in (id.AdapterModule p.0) y within in
          let number : number_of f (id.AdapterModule p.0) ≡ Some n = ap (number_of f) same ∙ is in
          subst (λ z. Contains (named_by (def_view (adapter_def f (Some p)))) (piece_of z n)) same
          (0, omega arith, ap (λ m. an_instance (unwrap_or m 0)) number)

  pub defs_name : (ds : List CoreDef) (y : Id) (n : ℕ) → Contains (flat_map (in_def g) ds) y → number_of f y ≡ Some n
      → Contains (flat_map named_by (map def_view (map (def_in g f) ds))) (piece_of y n)
  defs_name [] y n inside is = absurd (none_in y inside)
  defs_name (d ∷ ds) y n inside is =
      let rest = flat_map named_by (map def_view (map (def_in g f) ds)) in
      elim (Contains-append_cases (in_def g d) (flat_map (in_def g) ds) y inside) [
        | inl first ↦ Contains-append_left (named_by (def_view (def_in g f d))) rest (piece_of y n)
            (def_names d y n first is)
        | inr later ↦ Contains-append_right (named_by (def_view (def_in g f d))) rest (piece_of y n)
            (defs_name ds y n later is)
      ]

  -- and what it names is there
  pub def_there : Fills f → (d : CoreDef) → IsConvertible g f d → (x : Piece)
      → Contains (named_by (def_view (def_in g f d))) x → IsThere f x
  unfolding def_in IsThere IsReadyDef number_of
  def_there fills (def.Export e) can x inside =
      let found = found_at f.instances e.instance.0 can.ready in
      let below = fills.instances.below (of_instance e.instance.0) found.0.0 (ap (option_map in_run) found.1) in
      let number = ap (λ (o : Option RuntimeInstanceIndex). (unwrap_or o (record { 0 = 0 })).0) found.1 in
      subst (IsThere f) (one_in _ x inside) (subst (λ n. n < f.counts.instances) (sym number) below)
  def_there fills (def.InstanceFlags c) can x inside = absurd (none_in x inside)
  def_there fills (def.Trampoline t) can x inside =
      let has = All-head (HasNumber f) (id.Trampoline t) [] can.numbered in
      let number = ap (λ n. unwrap_or n 0) has.1 in
      subst (IsThere f) (one_in _ x inside)
      (subst (λ n. n < length f.trampolines) (sym number) (fills.trampolines.below t.0 has.0 has.1))
  def_there fills (def.UnsafeIntrinsic s i) can x inside = subst (IsThere f) (one_in _ x inside) tt
  def_there fills (def.Adapter a) can x inside =
      let found = found_at g.adapter_partitionings a.0 can.ready in
      let has = numbered_module g f a found.0 found.1 can.numbered in
      let number = ap (λ n. unwrap_or n 0) has.1 in
      let below = fills.instances.below (of_module found.0.0.0) has.0 has.1 in
      let within = subst (λ o. Contains (named_by (def_view (adapter_def f o))) x) found.1 inside in
      subst (IsThere f) (one_in _ x within) (subst (λ n. n < f.counts.instances) (sym number) below)

  pub defs_there : Fills f → (ds : List CoreDef) → All (IsConvertible g f) ds → (x : Piece)
      → Contains (flat_map named_by (map def_view (map (def_in g f) ds))) x → IsThere f x
  defs_there fills [] can x inside = absurd (none_in x inside)
  defs_there fills (d ∷ ds) can x inside =
      let rest = flat_map named_by (map def_view (map (def_in g f) ds)) in
      elim (Contains-append_cases (named_by (def_view (def_in g f d))) rest x inside) [
        | inl first ↦ def_there fills d (All-head (IsConvertible g f) d ds can) x first
        | inr later ↦ defs_there fills ds (All-tail (IsConvertible g f) d ds can) x later
      ]
