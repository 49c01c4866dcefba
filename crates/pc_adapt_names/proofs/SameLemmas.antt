-- What definitions name stands for what their values name.
use Rattle.std.proofs.Common.{◌≡◌, ◌⊎◌, inl, inr, ℕ, zero, suc, List, [], ◌∷◌, ◌++◌, map, Option, Some, refl, sym}
use Rattle.std.proofs.Common.{ap, subst, ◌∙◌, arith}
use Rattle.std.specs.Prelude.{slice_get, Contains, option_map}
use Rattle.std.specs.List.{AllZip, flat_map}
use Rattle.std.proofs.lemmas.List.Elements.{Contains-append_left, Contains-append_right, Contains-append_cases}
use Rattle.std.proofs.lemmas.Option.{same_Some}
use Rattle.pc_numbers.specs.declared.entity_index.EntityIndex.{EntityIndex}
use Rattle.pc_numbers.specs.declared.module_entity.ModuleInternedTypeIndex.{ModuleInternedTypeIndex}
use Rattle.pc_numbers.specs.declared.runtime.RuntimeComponentInstanceIndex.{RuntimeComponentInstanceIndex}
use Rattle.pc_numbers.specs.declared.runtime.TrampolineIndex.{TrampolineIndex}
use Rattle.pc_types.specs.declared.intrinsic.UnsafeIntrinsic.{UnsafeIntrinsic}
use Rattle.pc_spec_plan.specs.CoreValue.{CoreValue, Options, DataModel, MaybeValue, Parts, Part}
use Rattle.pc_spec_plan.specs.Log as log
use Rattle.pc_spec_plan.specs.Machine.{with_numbers}
use Rattle.pc_spec_plan.specs.PlanView as plan
use Rattle.pc_trampoline.specs.declared.part.Mark.{Mark}
use Rattle.pc_dfg.specs.declared.adapter.Adapter.{Adapter}
use Rattle.pc_dfg.specs.declared.adapter.AdapterOptions.{AdapterOptions}
use Rattle.pc_dfg.specs.declared.adapter.DataModel.{DataModel as SideModel}
use Rattle.pc_dfg.specs.declared.core_def.CoreDef.{CoreDef}
use Rattle.pc_dfg.specs.declared.core_def.CoreDef.TheVariants as def
use Rattle.pc_dfg.specs.declared.core_def.CoreExport.{CoreExport}
use Rattle.pc_dfg.specs.declared.dfg.ComponentDfg.{ComponentDfg}
use Rattle.pc_dfg.specs.declared.ids.AdapterId.{AdapterId}
use Rattle.pc_dfg.specs.declared.instance.Instance.{Instance}
use Rattle.pc_dfg.specs.declared.instance.SideEffect.{SideEffect}
use Rattle.pc_dfg.specs.Effects.{Argument, host_arguments, MeansArgument, MeansEffect, MeansInstance, means_made}
use Rattle.pc_dfg.specs.Effects.{means_declared, means_static, means_host}
use Rattle.pc_dfg.specs.Means.{Means, MeansTrampoline, MeansParts, MeansPart, MeansOptions, MeansEntry, MeansModel}
use Rattle.pc_dfg.specs.Means.{MeansSlot, MeansSide, MeansSideModel, MeansMaybe, means_export, means_flags}
use Rattle.pc_dfg.specs.Means.{means_trampoline, means_intrinsic, means_adapter, means_lowered, means_builtin}
use Rattle.pc_dfg.specs.Means.{means_helper, means_no_parts, means_and_part, means_mark, means_number, means_flag}
use Rattle.pc_dfg.specs.Means.{means_slot_part, means_options_part, means_options, means_entry, means_gc, means_linear}
use Rattle.pc_dfg.specs.Means.{means_no_slot, means_slot, means_side, means_side_gc, means_side_linear, means_none}
use Rattle.pc_dfg.specs.Means.{means_some}
use Rattle.pc_dfg.specs.Names.{Thing, an_instance, an_adapter, Names, names_instance, names_adapter, names_through}
use Rattle.pc_dfg.specs.Names.{OneNames, if_any, each_of, in_slot, in_model, in_entry, in_options, in_part}
use Rattle.pc_dfg.specs.Names.{in_trampoline, in_side, in_side_model, in_adapter, in_instance, in_resource, in_effect}
use Rattle.pc_dfg.specs.Numbers.{SignedTrampoline, memory_def, options_entry, trampoline_entry}
use Rattle.pc_spec_adapt.specs.Named as named
use Rattle.pc_spec_adapt.specs.Named.{Named}
use Rattle.pc_adapt_names.specs.Same.{Stands, stands_instance, stands_adapter, SameNames}

alone : {A : Type 0} (c d : A) → Contains (c ∷ []) d → d ≡ c
alone c d (zero, below, is) = sym is
alone c d (suc j, below, is) = absurd (omega (arith, below))

none : {A : Type 0} (d : A) → Contains [] d → ⊥
none d (k, below, is) = omega (arith, below)

-- numbers in front of parts name nothing
numbers_name_nothing : (ns : List ℕ) (ps : Parts Mark)
    → named.named_parts (with_numbers ns ps) ≡ named.named_parts ps
numbers_name_nothing [] ps = refl
numbers_name_nothing (n ∷ ns) ps = numbers_name_nothing ns ps

module _ (g : ComponentDfg) where
  one_single : (d : CoreDef) (y : Thing) → Names g d y → OneNames g (d ∷ []) y
  unfolding OneNames
  one_single d y names = (d, (0, omega arith, refl), names)

  single_one : (d : CoreDef) (y : Thing) → OneNames g (d ∷ []) y → Names g d y
  unfolding OneNames
  single_one d y (e, inside, names) = subst (λ c. Names g c y) (alone d e inside) names

  nothing : (y : Thing) → OneNames g [] y → ⊥
  unfolding OneNames
  nothing y (d, inside, names) = none d inside

  -- nothing names nothing
  no_names : SameNames g [] []
  no_names = record { there = λ y one. absurd (nothing y one); back = λ n inside. absurd (none n inside) }

  one_left : (ds es : List CoreDef) (y : Thing) → OneNames g ds y → OneNames g (ds ++ es) y
  unfolding OneNames
  one_left ds es y (d, inside, names) = (d, Contains-append_left ds es d inside, names)

  one_right : (ds es : List CoreDef) (y : Thing) → OneNames g es y → OneNames g (ds ++ es) y
  unfolding OneNames
  one_right ds es y (d, inside, names) = (d, Contains-append_right ds es d inside, names)

  one_cases : (ds es : List CoreDef) (y : Thing) → OneNames g (ds ++ es) y → OneNames g ds y ⊎ OneNames g es y
  unfolding OneNames
  one_cases ds es y (d, inside, names) =
      elim (Contains-append_cases ds es d inside) [
        | inl left ↦ inl (d, left, names)
        | inr right ↦ inr (d, right, names)
      ]

  -- one list behind the other
  names_append : (ds es : List CoreDef) (ms ns : List (Named Mark)) → SameNames g ds ms → SameNames g es ns
      → SameNames g (ds ++ es) (ms ++ ns)
  names_append ds es ms ns a b = record {
    there = λ y one. elim (one_cases ds es y one) [
      | inl left ↦ let n = a.there y left in (n.0, Contains-append_left ms ns n.0 n.1, n.2)
      | inr right ↦ let n = b.there y right in (n.0, Contains-append_right ms ns n.0 n.1, n.2)
    ];
    back = λ n inside. elim (Contains-append_cases ms ns n inside) [
      | inl left ↦ let y = a.back n left in (y.0, one_left ds es y.0 y.1, y.2)
      | inr right ↦ let y = b.back n right in (y.0, one_right ds es y.0 y.1, y.2)
    ];
  }

  -- a trampoline names what the definitions in it name
  through : (t : TrampolineIndex) (x : SignedTrampoline) (ns : List (Named Mark)) → slice_get g.trampolines t.0 ≡ Some x
      → SameNames g (in_trampoline g (trampoline_entry x)) ns → SameNames g (def.Trampoline t ∷ []) ns
  unfolding OneNames
  through t x ns at inner = record {
    there = λ y one. inner.there y (within (def.Trampoline t) y (single_one (def.Trampoline t) y one) refl);
    back = λ n inside.
        let y = inner.back n inside in
        (y.0, one_single (def.Trampoline t) y.0 (names_through at y.1.1 y.1.2), y.2);
  }
    where
      within : (d : CoreDef) (y : Thing) → Names g d y → d ≡ def.Trampoline t
          → OneNames g (in_trampoline g (trampoline_entry x)) y
      within d y (names_instance {e = f}) e = absurd (no f e)
        where
          no : (f : CoreExport EntityIndex) → def.Export f ≡ def.Trampoline t → ⊥
          no f e = grind (arith, e)
      within d y (names_adapter {a = a}) e = absurd (no a e)
        where
          no : (a : AdapterId) → def.Adapter a ≡ def.Trampoline t → ⊥
          no a e = grind (arith, e)
      within d y (names_through {t = u} {x = z} {d = c} at_u inside names) e =
          let one : u ≡ t = number u e in
          let same : z ≡ x =
          same_Some z x (sym at_u ∙ ap (λ (n : TrampolineIndex). slice_get g.trampolines n.0) one ∙ at) in
          (c, subst (λ v. Contains (in_trampoline g (trampoline_entry v)) c) same inside, names)
        where
          number : (u : TrampolineIndex) → def.Trampoline u ≡ def.Trampoline t → u ≡ t
          number u e = grind (arith, e)

  export_names : (d : CoreDef) (y : Thing) → Names g d y → (x : CoreExport EntityIndex) → d ≡ def.Export x
      → y ≡ an_instance x.instance.0
  export_names d y (names_instance {e = f}) x e = ap (λ z. an_instance z.instance.0) (same f e)
    where
      same : (f : CoreExport EntityIndex) → def.Export f ≡ def.Export x → f ≡ x
      same f e = grind (arith, e)
  export_names d y (names_adapter {a = a}) x e = absurd (no a e)
    where
      no : (a : AdapterId) → def.Adapter a ≡ def.Export x → ⊥
      no a e = grind (arith, e)
  export_names d y (names_through {t = t} at inside names) x e = absurd (no t e)
    where
      no : (t : TrampolineIndex) → def.Trampoline t ≡ def.Export x → ⊥
      no t e = grind (arith, e)

  adapter_names : (d : CoreDef) (y : Thing) → Names g d y → (a : AdapterId) → d ≡ def.Adapter a → y ≡ an_adapter a.0
  adapter_names d y (names_instance {e = f}) a e = absurd (no f e)
    where
      no : (f : CoreExport EntityIndex) → def.Export f ≡ def.Adapter a → ⊥
      no f e = grind (arith, e)
  adapter_names d y (names_adapter {a = b}) a e = ap (λ z. an_adapter z.0) (same b e)
    where
      same : (b : AdapterId) → def.Adapter b ≡ def.Adapter a → b ≡ a
      same b e = grind (arith, e)
  adapter_names d y (names_through {t = t} at inside names) a e = absurd (no t e)
    where
      no : (t : TrampolineIndex) → def.Trampoline t ≡ def.Adapter a → ⊥
      no t e = grind (arith, e)

  flags_names : (d : CoreDef) (y : Thing) → Names g d y → (c : RuntimeComponentInstanceIndex)
      → d ≡ def.InstanceFlags c → ⊥
  flags_names d y (names_instance {e = f}) c e = no f e
    where
      no : (f : CoreExport EntityIndex) → def.Export f ≡ def.InstanceFlags c → ⊥
      no f e = grind (arith, e)
  flags_names d y (names_adapter {a = a}) c e = no a e
    where
      no : (a : AdapterId) → def.Adapter a ≡ def.InstanceFlags c → ⊥
      no a e = grind (arith, e)
  flags_names d y (names_through {t = t} at inside names) c e = no t e
    where
      no : (t : TrampolineIndex) → def.Trampoline t ≡ def.InstanceFlags c → ⊥
      no t e = grind (arith, e)

  intrinsic_names : (d : CoreDef) (y : Thing) → Names g d y → (s : ModuleInternedTypeIndex) (i : UnsafeIntrinsic)
      → d ≡ def.UnsafeIntrinsic s i → ⊥
  intrinsic_names d y (names_instance {e = f}) s i e = no f e
    where
      no : (f : CoreExport EntityIndex) → def.Export f ≡ def.UnsafeIntrinsic s i → ⊥
      no f e = grind (arith, e)
  intrinsic_names d y (names_adapter {a = a}) s i e = no a e
    where
      no : (a : AdapterId) → def.Adapter a ≡ def.UnsafeIntrinsic s i → ⊥
      no a e = grind (arith, e)
  intrinsic_names d y (names_through {t = t} at inside names) s i e = no t e
    where
      no : (t : TrampolineIndex) → def.Trampoline t ≡ def.UnsafeIntrinsic s i → ⊥
      no t e = grind (arith, e)

  -- what names one thing stands for one
  names_one : (d : CoreDef) (y : Thing) (n : Named Mark) → Names g d y → ((z : Thing) → Names g d z → z ≡ y)
      → Stands g y n → SameNames g (d ∷ []) (n ∷ [])
  names_one d y n names only stands = record {
    there = λ z one.
        (n, (0, omega arith, refl), subst (λ w. Stands g w n) (sym (only z (single_one d z one))) stands);
    back = λ m inside. (y, one_single d y names, subst (Stands g y) (sym (alone n m inside)) stands);
  }

  -- what names nothing stands for nothing
  names_none : (d : CoreDef) → ((z : Thing) → Names g d z → ⊥) → SameNames g (d ∷ []) []
  names_none d never = record {
    there = λ z one. absurd (never z (single_one d z one));
    back = λ m inside. absurd (none m inside);
  }

  mutual
    unfolding in_trampoline

    -- a definition names what its value names
    pub value_names : {d : CoreDef} {v : CoreValue Mark} → Means g d v → SameNames g (d ∷ []) (named.named v)
    value_names (means_export {e = x}) =
        names_one (def.Export x) (an_instance x.instance.0) (named.an_instance x.instance.0) names_instance
        (λ z names. export_names (def.Export x) z names x refl) stands_instance
    value_names (means_flags {c = c}) =
        names_none (def.InstanceFlags c) (λ z names. flags_names (def.InstanceFlags c) z names c refl)
    value_names (means_trampoline {t = t} {x = x} {v = v} at inner) =
        through t x (named.named v) at (trampoline_names inner)
    value_names (means_intrinsic {s = s} {i = i}) =
        names_none (def.UnsafeIntrinsic s i) (λ z names. intrinsic_names (def.UnsafeIntrinsic s i) z names s i refl)
    value_names (means_adapter {a = a} p q r f) =
        names_one (def.Adapter a) (an_adapter a.0) _ names_adapter
        (λ z names. adapter_names (def.Adapter a) z names a refl) (stands_adapter (means_adapter p q r f))

    trampoline_names : {e : plan.TrampolineEntry Mark} {v : CoreValue Mark} → MeansTrampoline g e v
        → SameNames g (in_trampoline g e) (named.named v)
    trampoline_names (means_lowered p a) = options_names a
    trampoline_names (means_builtin a) = parts_names a
    trampoline_names (means_helper {symbol = symbol} {ps = ps} {vs = vs} a) =
        subst (SameNames g (flat_map (in_part g) ps)) (sym (numbers_name_nothing symbol vs)) (parts_names a)

    parts_names : {ps : List (plan.TrampolinePart Mark)} {vs : Parts Mark} → MeansParts g ps vs
        → SameNames g (flat_map (in_part g) ps) (named.named_parts vs)
    parts_names means_no_parts = no_names
    parts_names (means_and_part {p = p} {ps = ps} {v = v} {vs = vs} a b) =
        names_append (in_part g p) (flat_map (in_part g) ps) (named.named_part v) (named.named_parts vs) (part_names a)
        (parts_names b)

    part_names : {p : plan.TrampolinePart Mark} {v : Part Mark} → MeansPart g p v
        → SameNames g (in_part g p) (named.named_part v)
    part_names means_mark = no_names
    part_names means_number = no_names
    part_names means_flag = no_names
    part_names (means_slot_part a) = slot_names a
    part_names (means_options_part a) = options_names a

    options_names : {o : ℕ} {v : Options Mark} → MeansOptions g o v
        → SameNames g (in_options g o) (named.named_options v)
    options_names (means_options {v = v} at a) =
        subst (λ x. SameNames g (each_of (λ y. in_entry g (options_entry y)) x) (named.named_options v)) (sym at)
        (entry_names a)

    entry_names : {e : plan.PlanOptions Mark} {v : Options Mark} → MeansEntry g e v
        → SameNames g (in_entry g e) (named.named_options v)
    entry_names (means_entry {e = e} {callback = c} {post_return = p} {model = m} a b d) =
        names_append (in_slot g plan.callback e.callback ++ in_slot g plan.post_return e.post_return)
        (in_model g e.model) (named.named_maybe c ++ named.named_maybe p) (named.named_model m)
        (names_append (in_slot g plan.callback e.callback) (in_slot g plan.post_return e.post_return)
        (named.named_maybe c) (named.named_maybe p) (slot_names a) (slot_names b)) (model_names d)

    model_names : {e : plan.ModelEntry} {v : DataModel Mark} → MeansModel g e v
        → SameNames g (in_model g e) (named.named_model v)
    model_names means_gc = no_names
    model_names (means_linear {m = m} {r = r} {memory = v} {realloc = w} a b) =
        names_append (in_slot g plan.memory m) (in_slot g plan.realloc r) (named.named_maybe v) (named.named_maybe w)
        (slot_names a) (slot_names b)

    slot_names : {k : plan.SlotKind} {n : Option ℕ} {v : MaybeValue Mark} → MeansSlot g k n v
        → SameNames g (in_slot g k n) (named.named_maybe v)
    slot_names means_no_slot = no_names
    slot_names (means_slot {v = v} at a) =
        subst (λ x. SameNames g (if_any x) (named.named v)) (sym at) (value_names a)

  -- a definition that may be left out
  maybe_names : {d : Option CoreDef} {v : MaybeValue Mark} → MeansMaybe g d v
      → SameNames g (if_any d) (named.named_maybe v)
  maybe_names means_none = no_names
  maybe_names (means_some a) = value_names a

  -- a side of an adapter
  side_model_names : {x : SideModel} {v : DataModel Mark} → MeansSideModel g x v
      → SameNames g (in_side_model x) (named.named_model v)
  side_model_names means_side_gc = no_names
  side_model_names (means_side_linear {m = m} {r = r} {memory = v} {realloc = w} a b) =
      names_append (if_any (option_map (λ x. memory_def x.0) m)) (if_any r) (named.named_maybe v) (named.named_maybe w)
      (maybe_names a) (maybe_names b)

  side_names : {x : AdapterOptions} {v : Options Mark} → MeansSide g x v
      → SameNames g (in_side x) (named.named_options v)
  side_names (means_side {x = x} {callback = c} {post_return = p} {model = m} a b d) =
      names_append (if_any x.callback ++ if_any x.post_return) (in_side_model x.data_model)
      (named.named_maybe c ++ named.named_maybe p) (named.named_model m)
      (names_append (if_any x.callback) (if_any x.post_return) (named.named_maybe c) (named.named_maybe p)
      (maybe_names a) (maybe_names b)) (side_model_names d)

  -- an adapter by its definition
  within_adapter : (a : AdapterId) (x : Adapter) → slice_get g.adapters a.0 ≡ Some x
      → {d : CoreDef} {v : CoreValue Mark} → Means g d v → d ≡ def.Adapter a
      → SameNames g (in_adapter x) (named.in_adapter v)
  unfolding in_adapter
  within_adapter a x at (means_export {e = f}) e = absurd (no f e)
    where
      no : (f : CoreExport EntityIndex) → def.Export f ≡ def.Adapter a → ⊥
      no f e = grind (arith, e)
  within_adapter a x at (means_flags {c = c}) e = absurd (no c e)
    where
      no : (c : RuntimeComponentInstanceIndex) → def.InstanceFlags c ≡ def.Adapter a → ⊥
      no c e = grind (arith, e)
  within_adapter a x at (means_trampoline {t = t} p q) e = absurd (no t e)
    where
      no : (t : TrampolineIndex) → def.Trampoline t ≡ def.Adapter a → ⊥
      no t e = grind (arith, e)
  within_adapter a x at (means_intrinsic {s = s} {i = i}) e = absurd (no s i e)
    where
      no : (s : ModuleInternedTypeIndex) (i : UnsafeIntrinsic) → def.UnsafeIntrinsic s i ≡ def.Adapter a → ⊥
      no s i e = grind (arith, e)
  within_adapter a x at (means_adapter {a = b} {x = y} {lift = lift} {lower = lower} {callee = v} p q r f) e =
      let same : y ≡ x = same_Some y x (sym p ∙ ap (λ (n : AdapterId). slice_get g.adapters n.0) (number b e) ∙ at) in
      subst (λ (z : Adapter). SameNames g (z.func ∷ in_side z.lift_options ++ in_side z.lower_options)
      (named.named v ++ named.named_options lift ++ named.named_options lower)) same
      (names_append ((y.func ∷ []) ++ in_side y.lift_options) (in_side y.lower_options)
      (named.named v ++ named.named_options lift) (named.named_options lower)
      (names_append (y.func ∷ []) (in_side y.lift_options) (named.named v) (named.named_options lift) (value_names f)
      (side_names q)) (side_names r))
    where
      number : (b : AdapterId) → def.Adapter b ≡ def.Adapter a → b ≡ a
      number b e = grind (arith, e)

  -- an adapter that has a value is there
  there_by : (a : AdapterId) {d : CoreDef} {v : CoreValue Mark} → Means g d v → d ≡ def.Adapter a
      → (x : Adapter) × (slice_get g.adapters a.0 ≡ Some x)
  there_by a (means_export {e = f}) e = absurd (no f e)
    where
      no : (f : CoreExport EntityIndex) → def.Export f ≡ def.Adapter a → ⊥
      no f e = grind (arith, e)
  there_by a (means_flags {c = c}) e = absurd (no c e)
    where
      no : (c : RuntimeComponentInstanceIndex) → def.InstanceFlags c ≡ def.Adapter a → ⊥
      no c e = grind (arith, e)
  there_by a (means_trampoline {t = t} p q) e = absurd (no t e)
    where
      no : (t : TrampolineIndex) → def.Trampoline t ≡ def.Adapter a → ⊥
      no t e = grind (arith, e)
  there_by a (means_intrinsic {s = s} {i = i}) e = absurd (no s i e)
    where
      no : (s : ModuleInternedTypeIndex) (i : UnsafeIntrinsic) → def.UnsafeIntrinsic s i ≡ def.Adapter a → ⊥
      no s i e = grind (arith, e)
  there_by a (means_adapter {a = b} {x = y} p q r f) e =
      (y, ap (λ (n : AdapterId). slice_get g.adapters n.0) (sym (number b e)) ∙ p)
    where
      number : (b : AdapterId) → def.Adapter b ≡ def.Adapter a → b ≡ a
      number b e = grind (arith, e)

  pub adapter_there : (a : AdapterId) {v : CoreValue Mark} → Means g (def.Adapter a) v
      → (x : Adapter) × (slice_get g.adapters a.0 ≡ Some x)
  adapter_there a means = there_by a means refl

  pub adapter_same : (a : AdapterId) (x : Adapter) (v : CoreValue Mark) → slice_get g.adapters a.0 ≡ Some x
      → Means g (def.Adapter a) v → SameNames g (in_adapter x) (named.in_adapter v)
  adapter_same a x v at means = within_adapter a x at means refl

  -- arguments, one after the other
  arguments_names : (ds : List CoreDef) (vs : List (CoreValue Mark)) → AllZip (Means g) ds vs
      → SameNames g ds (flat_map named.named vs)
  arguments_names [] [] all = no_names
  arguments_names [] (v ∷ vs) all = absurd all
  arguments_names (d ∷ ds) [] all = absurd all
  arguments_names (d ∷ ds) (v ∷ vs) all =
      names_append (d ∷ []) ds (named.named v) (flat_map named.named vs) (value_names all.0)
      (arguments_names ds vs all.1)

  host_names : (bs : List Argument) (xs : List (log.NamedArgument Mark)) → AllZip (MeansArgument g) bs xs
      → SameNames g (map (λ (a : Argument). a.1.1) bs)
      (flat_map named.named (map (λ (x : log.NamedArgument Mark). x.value) xs))
  host_names [] [] all = no_names
  host_names [] (x ∷ xs) all = absurd all
  host_names (a ∷ bs) [] all = absurd all
  host_names (a ∷ bs) (x ∷ xs) all =
      names_append (a.1.1 ∷ []) (map (λ (b : Argument). b.1.1) bs) (named.named x.value)
      (flat_map named.named (map (λ (y : log.NamedArgument Mark). y.value) xs)) (value_names all.0.value)
      (host_names bs xs all.1)

  instance_names : {x : Instance} {v : log.Instantiation Mark} → MeansInstance g x v
      → SameNames g (in_instance x) (flat_map named.named (named.arguments_of v))
  unfolding in_instance
  instance_names (means_static {args = args} {vs = vs} all) = arguments_names args vs all
  instance_names (means_host {args = args} {vs = vs} path all) = host_names (host_arguments args) vs all

  -- a side effect names what its entry names
  pub effect_names : {e : SideEffect} {v : log.Entry Mark} → MeansEffect g e v
      → SameNames g (in_effect g e) (named.in_entry v)
  unfolding in_effect in_resource
  effect_names (means_made {v = v} at a) =
      subst (λ o. SameNames g (each_of in_instance o) (flat_map named.named (named.arguments_of v))) (sym at)
      (instance_names a)
  effect_names (means_declared {v = v} at a) =
      subst (λ o. SameNames g (each_of in_resource o) (named.named_maybe v)) (sym at) (maybe_names a)
