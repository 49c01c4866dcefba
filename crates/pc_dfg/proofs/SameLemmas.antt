-- What means one value is one, where what values leave out is told.
use Rattle.std.proofs.Common.{◌≡◌, ℕ, Bool, List, Option, None, Some, refl, ap, subst, sym, ◌∙◌}
use Rattle.std.proofs.lemmas.Option.{same_Some}
use Rattle.std.specs.Prelude.{option_map, slice_get, true, false}
use Rattle.pc_dfg.specs.declared.ids.AdapterId.{AdapterId}
use Rattle.pc_numbers.specs.declared.module_entity.MemoryIndex.{MemoryIndex}
use Rattle.pc_numbers.specs.declared.runtime.ImportIndex.{ImportIndex}
use Rattle.pc_numbers.specs.declared.runtime.TrampolineIndex.{TrampolineIndex}
use Rattle.pc_types.specs.IntrinsicType.{intrinsic_place}
use Rattle.pc_types.specs.TypeTree.{Path}
use Rattle.pc_spec_plan.specs.CoreValue as value
use Rattle.pc_spec_plan.specs.CoreValue.{CoreValue, Options, DataModel, MaybeValue, Parts, Part, ExportedItem}
use Rattle.pc_spec_plan.specs.Machine.{with_numbers}
use Rattle.pc_spec_plan.specs.PlanView as plan
use Rattle.pc_trampoline.specs.declared.part.Mark.{Mark}
use Rattle.pc_info.specs.Definitions.{item_view}
use Rattle.pc_dfg.specs.declared.adapter.AdapterOptions.{AdapterOptions}
use Rattle.pc_dfg.specs.declared.adapter.DataModel.{DataModel as SideModel}
use Rattle.pc_dfg.specs.declared.adapter.DataModel.TheVariants as side
use Rattle.pc_dfg.specs.declared.core_def.CoreDef.{CoreDef}
use Rattle.pc_dfg.specs.declared.core_def.CoreDef.TheVariants as def
use Rattle.pc_dfg.specs.declared.core_def.CoreExport.{CoreExport}
use Rattle.pc_dfg.specs.declared.dfg.ComponentDfg.{ComponentDfg}
use Rattle.pc_dfg.specs.Numbers.{memory_def}
use Rattle.pc_dfg.specs.Numbers.{slots_of}
use Rattle.pc_dfg.specs.Means.{HasPath}
use Rattle.pc_dfg.specs.Means.{Means, MeansTrampoline, MeansParts, MeansPart, MeansOptions, MeansEntry, MeansModel}
use Rattle.pc_dfg.specs.Means.{MeansSlot}
use Rattle.pc_dfg.specs.Means.{MeansSide, MeansSideModel, MeansMaybe, means_export, means_flags, means_trampoline}
use Rattle.pc_dfg.specs.Means.{means_intrinsic, means_adapter, means_lowered, means_builtin, means_helper}
use Rattle.pc_dfg.specs.Means.{means_no_parts}
use Rattle.pc_dfg.specs.Means.{means_and_part, means_mark, means_number, means_flag, means_slot_part}
use Rattle.pc_dfg.specs.Means.{means_options_part}
use Rattle.pc_dfg.specs.Means.{means_options, means_entry, means_gc, means_linear, means_no_slot, means_slot}
use Rattle.pc_dfg.specs.Means.{means_side}
use Rattle.pc_dfg.specs.Means.{means_side_gc, means_side_linear, means_none, means_some}
use Rattle.pc_dfg.specs.Told.{AreInterned, IsLowering, IsModelTold, IsSideTold, IsSigned, IsTold}
use Rattle.pc_dfg.specs.Told.{MaybeSigned, MaybeWide, Unsaid}
use Rattle.pc_dfg.proofs.EntryLemmas.{EntrySame, IsMarked, PartSame, PartsSame, StartsMarked, marked, trampoline_tells}
use Rattle.pc_dfg.proofs.TellLemmas.{Begins, intrinsic_signed, intrinsic_tells, items_tell, memory_tells, options_tell}
use Rattle.pc_dfg.proofs.TellLemmas.{slots_distinct, with_numbers_tell}

-- parts with a mark in front mean values with a mark in front
begins : (g : ComponentDfg) {ps : List (plan.TrampolinePart Mark)} {vs : Parts Mark} → StartsMarked ps
    → MeansParts g ps vs → Begins vs
begins g h (means_and_part {vs = vs} (means_mark {m = m}) b) = (m, vs, refl)
begins g h a = cc

-- the values that a trampoline may have
abbrev OfTrampoline : CoreValue Mark → Type 0
OfTrampoline (value.lowered path ty o) = Unit {0}
OfTrampoline (value.builtin k c ps) = Unit {0}
OfTrampoline (value.helper k ps) = Unit {0}
OfTrampoline v = true ≡ false

-- it has one of these
of_trampoline : (g : ComponentDfg) {e : plan.TrampolineEntry Mark} {v : CoreValue Mark} → MeansTrampoline g e v
    → OfTrampoline v
of_trampoline g (means_lowered a b) = tt
of_trampoline g (means_builtin a) = tt
of_trampoline g (means_helper a) = tt

-- and what is one with it has so too
one_of : {v w : CoreValue Mark} → v ≡ w → OfTrampoline v → OfTrampoline w
one_of h a = subst OfTrampoline h a

-- a trampoline or an adapter is no intrinsic
pub trampoline_signed : (u : Unsaid) (t : TrampolineIndex) → IsSigned u (def.Trampoline t)
unfolding IsSigned
trampoline_signed u t = tt

pub adapter_signed : (u : Unsaid) (a : AdapterId) → IsSigned u (def.Adapter a)
unfolding IsSigned
adapter_signed u a = tt

-- a memory that may be left out is no intrinsic
memory_signed : (u : Unsaid) (m : Option (CoreExport MemoryIndex × Bool))
    → MaybeSigned u (option_map (λ x. memory_def x.0) m)
unfolding IsSigned MaybeSigned
memory_signed u None = tt
memory_signed u (Some m) = tt

-- a memory is told with its width by the definition that it is
wide_tells : (u : Unsaid) (m n : Option (CoreExport MemoryIndex × Bool)) → MaybeWide u m → MaybeWide u n
    → option_map (λ x. memory_def x.0) m ≡ option_map (λ x. memory_def x.0) n → m ≡ n
unfolding MaybeWide
wide_tells u None None a b h = refl
wide_tells u (Some m) (Some n) a b h =
    let one = memory_tells m.0 n.0 (same_Some (memory_def m.0) (memory_def n.0) h) in
    let width = a ∙ ap u.is_wide one ∙ sym b in
    λ i. Some (one i, width i)
wide_tells u m n a b h = cc

-- of a definition that may be left out
signed_some : (u : Unsaid) (d : CoreDef) → MaybeSigned u (Some d) → IsSigned u d
unfolding MaybeSigned
signed_some u d h = h

-- of a side's memory and realloc
model_told : (u : Unsaid) (m : Option (CoreExport MemoryIndex × Bool)) (r : Option CoreDef)
    → IsModelTold u (side.LinearMemory m r) → MaybeWide u m × MaybeSigned u r
unfolding IsModelTold
model_told u m r h = h

module _ (g : ComponentDfg) (u : Unsaid) (interned : AreInterned g) (told : IsTold u g) where
  -- a host item has one number
  host_same : (r q : ℕ) (a b : Path) → a ≡ b → HasPath g r a → HasPath g q b → r ≡ q
  host_same r q a b same x y =
      let entry : Path → Option (ImportIndex × List (List ℕ)) = λ p. Some (record { 0 = p.import }, p.names) in
      told.imports r q (record { 0 = b.import }, b.names) (x ∙ ap entry same) y

  mutual
    -- a definition is told by its value
    pub defs_same : {d e : CoreDef} {v w : CoreValue Mark} → IsSigned u d → IsSigned u e → v ≡ w → Means g d v
        → Means g e w → d ≡ e
    defs_same sd se h (means_export {e = a}) (means_export {e = b}) =
        let instance : a.instance.0 ≡ b.instance.0 = cc in
        let views : item_view a.item ≡ item_view b.item = cc in
        let item = items_tell a.item b.item views in
        λ i. def.Export (record { instance = record { 0 = instance i }; item = item i })
    defs_same sd se h (means_flags {c = a}) (means_flags {c = b}) =
        let one : a.0 ≡ b.0 = cc in ap (λ n. def.InstanceFlags (record { 0 = n })) one
    defs_same sd se h (means_trampoline {t = s} {x = x} p a) (means_trampoline {t = t} {x = y} q b) =
        let same = trampolines_same h (marked x) (marked y) a b in
        let one = trampoline_tells x y same (λ is together. told.lowerings s.0 x p is
        ∙ ap u.lowering together ∙ sym (told.lowerings t.0 y q (subst IsLowering together is))) in
        let number = interned.trampolines s.0 t.0 y (p ∙ ap Some one) q in
        ap (λ n. def.Trampoline (record { 0 = n })) number
    defs_same sd se h (means_intrinsic {s = s} {i = i}) (means_intrinsic {s = t} {i = j}) =
        let place : intrinsic_place i ≡ intrinsic_place j = cc in
        let one = intrinsic_tells i j place in
        let signature = intrinsic_signed u s t i j one sd se in
        λ k. def.UnsafeIntrinsic (signature k) (one k)
    defs_same sd se h (means_adapter {a = a} {x = x} {lift = lift} {lower = lower} {callee = callee} p l m f)
        (means_adapter {a = b} {x = y} {lift = lift'} {lower = lower'} {callee = callee'} q n o k) =
        let tx = told.adapters a.0 x p in
        let ty = told.adapters b.0 y q in
        let lifts : lift ≡ lift' = cc in
        let lowers : lower ≡ lower' = cc in
        let callees : callee ≡ callee' = cc in
        let lift_type : x.lift_ty.0 ≡ y.lift_ty.0 = cc in
        let lower_type : x.lower_ty.0 ≡ y.lower_ty.0 = cc in
        let first = sides_same tx.lift ty.lift lifts l n in
        let second = sides_same tx.lower ty.lower lowers m o in
        let func = defs_same tx.func ty.func callees f k in
        let one : x ≡ y = (λ i. record {
          lift_ty = record { 0 = lift_type i };
          lift_options = first i;
          lower_ty = record { 0 = lower_type i };
          lower_options = second i;
          func = func i;
        }) in
        let number = interned.adapters a.0 b.0 y (p ∙ ap Some one) q in
        ap (λ n. def.Adapter (record { 0 = n })) number
    defs_same sd se h means_export (means_trampoline q b) = (let no = one_of (sym h) (of_trampoline g b) in cc)
    defs_same sd se h means_flags (means_trampoline q b) = (let no = one_of (sym h) (of_trampoline g b) in cc)
    defs_same sd se h means_intrinsic (means_trampoline q b) = (let no = one_of (sym h) (of_trampoline g b) in cc)
    defs_same sd se h (means_adapter p a c d) (means_trampoline q b) =
        (let no = one_of (sym h) (of_trampoline g b) in cc)
    defs_same sd se h (means_trampoline q b) means_export = (let no = one_of h (of_trampoline g b) in cc)
    defs_same sd se h (means_trampoline q b) means_flags = (let no = one_of h (of_trampoline g b) in cc)
    defs_same sd se h (means_trampoline q b) means_intrinsic = (let no = one_of h (of_trampoline g b) in cc)
    defs_same sd se h (means_trampoline q b) (means_adapter p l m f) = (let no = one_of h (of_trampoline g b) in cc)
    defs_same sd se h a b = cc

    trampolines_same : {e f : plan.TrampolineEntry Mark} {v w : CoreValue Mark} → v ≡ w → IsMarked e → IsMarked f
        → MeansTrampoline g e v → MeansTrampoline g f w → EntrySame e f
    trampolines_same h x y (means_lowered {r = r} {o = o} {ty = ty} {path = p} {v = v} a b)
        (means_lowered {r = q} {o = o'} {ty = uy} {path = p'} {v = v'} c d) =
        let paths : p ≡ p' = cc in
        let types : ty ≡ uy = cc in
        let values : v ≡ v' = cc in
        (host_same r q p p' paths a c, types, options_same values b d)
    trampolines_same h x y (means_builtin {k = k} {c = c} {vs = vs} a) (means_builtin {k = l} {c = d} {vs = ws} b) =
        let kinds : k ≡ l = cc in
        let instances : c ≡ d = cc in
        let values : vs ≡ ws = cc in
        (kinds, instances, parts_same values a b)
    trampolines_same h x y (means_helper {k = k} {symbol = xs} {vs = vs} a)
        (means_helper {k = l} {symbol = ys} {vs = ws} b) =
        let kinds : k ≡ l = cc in
        let values : with_numbers xs vs ≡ with_numbers ys ws = cc in
        let both = with_numbers_tell xs ys vs ws (begins g x a) (begins g y b) values in
        (kinds, both.0, parts_same both.1 a b)
    trampolines_same h x y a b = cc

    parts_same : {ps qs : List (plan.TrampolinePart Mark)} {v w : Parts Mark} → v ≡ w → MeansParts g ps v
        → MeansParts g qs w → PartsSame ps qs
    parts_same h means_no_parts means_no_parts = tt
    parts_same h (means_and_part {v = v} {vs = vs} a b) (means_and_part {v = w} {vs = ws} c d) =
        let first : v ≡ w = cc in
        let rest : vs ≡ ws = cc in
        (part_same first a c, parts_same rest b d)
    parts_same h a b = cc

    part_same : {p q : plan.TrampolinePart Mark} {v w : Part Mark} → v ≡ w → MeansPart g p v → MeansPart g q w
        → PartSame p q
    part_same h means_mark means_mark = cc
    part_same h means_number means_number = cc
    part_same h means_flag means_flag = cc
    part_same h (means_slot_part {v = v} a) (means_slot_part {v = w} b) =
        let values : v ≡ w = cc in λ kinds. slots_same values kinds a b
    part_same h (means_options_part {v = v} a) (means_options_part {v = w} b) =
        let values : v ≡ w = cc in options_same values a b
    part_same h a b = cc

    -- options are told by their value
    pub options_same : {o p : ℕ} {v w : Options Mark} → v ≡ w → MeansOptions g o v → MeansOptions g p w → o ≡ p
    options_same h (means_options {o = o} {x = x} p a) (means_options {o = o'} {x = y} q b) =
        let one = options_tell x y (entries_same h a b) in
        interned.options o o' y (p ∙ ap Some one) q

    entries_same : {e f : plan.PlanOptions Mark} {v w : Options Mark} → v ≡ w → MeansEntry g e v → MeansEntry g f w
        → e ≡ f
    entries_same h (means_entry {e = e} {callback = cs} {post_return = ps} {model = ms} a b c)
        (means_entry {e = f} {callback = ds} {post_return = qs} {model = ns} d k l) =
        let instance : e.component_instance ≡ f.component_instance = cc in
        let encoding : e.encoding ≡ f.encoding = cc in
        let is_async : e.is_async ≡ f.is_async = cc in
        let signature : e.signature ≡ f.signature = cc in
        let callbacks : cs ≡ ds = cc in
        let post_returns : ps ≡ qs = cc in
        let models : ms ≡ ns = cc in
        let callback = slots_same callbacks refl a d in
        let post_return = slots_same post_returns refl b k in
        let model = models_same models c l in
        λ i. record {
          component_instance = instance i;
          encoding = encoding i;
          is_async = is_async i;
          signature = signature i;
          callback = callback i;
          post_return = post_return i;
          model = model i;
        }

    models_same : {e f : plan.ModelEntry} {v w : DataModel Mark} → v ≡ w → MeansModel g e v → MeansModel g f w
        → e ≡ f
    models_same h means_gc means_gc = refl
    models_same h (means_linear {memory = m} {realloc = r} a b) (means_linear {memory = n} {realloc = s} c d) =
        let memories : m ≡ n = cc in
        let reallocs : r ≡ s = cc in
        let memory = slots_same memories refl a c in
        let realloc = slots_same reallocs refl b d in
        λ i. plan.linear (memory i) (realloc i)
    models_same h a b = cc

    -- slots of a kind are told by their value
    pub slots_same : {k l : plan.SlotKind} {m n : Option ℕ} {v w : MaybeValue Mark} → v ≡ w → k ≡ l
        → MeansSlot g k m v → MeansSlot g l n w → m ≡ n
    slots_same h kinds means_no_slot means_no_slot = refl
    slots_same h kinds (means_slot {k = k} {n = m} {d = d} {v = v} p a)
        (means_slot {k = l} {n = n} {d = e} {v = w} q b) =
        let values : v ≡ w = cc in
        let one = defs_same (told.slots k m d p) (told.slots l n e q) values a b in
        let there = subst (λ z. slice_get (slots_of g z) m ≡ Some e) kinds (p ∙ ap Some one) in
        ap Some (slots_distinct g interned l m n e there q)
    slots_same h kinds a b = cc

    sides_same : {x y : AdapterOptions} {v w : Options Mark} → IsSideTold u x → IsSideTold u y → v ≡ w
        → MeansSide g x v → MeansSide g y w → x ≡ y
    sides_same tx ty h (means_side {x = x} {callback = cs} {post_return = ps} {model = ms} a b c)
        (means_side {x = y} {callback = ds} {post_return = qs} {model = ns} d k l) =
        let instance : x.instance.0 ≡ y.instance.0 = cc in
        let encoding : x.string_encoding ≡ y.string_encoding = cc in
        let is_async : x.async_ ≡ y.async_ = cc in
        let core_type : x.core_type.0 ≡ y.core_type.0 = cc in
        let callbacks : cs ≡ ds = cc in
        let post_returns : ps ≡ qs = cc in
        let models : ms ≡ ns = cc in
        let callback = maybe_same tx.callback ty.callback callbacks a d in
        let post_return = maybe_same tx.post_return ty.post_return post_returns b k in
        let model = side_models_same tx.model ty.model models c l in
        λ i. record {
          instance = record { 0 = instance i };
          string_encoding = encoding i;
          callback = callback i;
          post_return = post_return i;
          async_ = is_async i;
          core_type = record { 0 = core_type i };
          data_model = model i;
        }

    side_models_same : {x y : SideModel} {v w : DataModel Mark} → IsModelTold u x → IsModelTold u y → v ≡ w
        → MeansSideModel g x v → MeansSideModel g y w → x ≡ y
    side_models_same tx ty h means_side_gc means_side_gc = refl
    side_models_same tx ty h (means_side_linear {m = m} {r = r} {memory = ms} {realloc = rs} a b)
        (means_side_linear {m = n} {r = s} {memory = ns} {realloc = ss} c d) =
        let memories : ms ≡ ns = cc in
        let reallocs : rs ≡ ss = cc in
        let first = model_told u m r tx in
        let second = model_told u n s ty in
        let defs = maybe_same (memory_signed u m) (memory_signed u n) memories a c in
        let memory = wide_tells u m n first.0 second.0 defs in
        let realloc = maybe_same first.1 second.1 reallocs b d in
        λ i. side.LinearMemory (memory i) (realloc i)
    side_models_same tx ty h a b = cc

    maybe_same : {d e : Option CoreDef} {v w : MaybeValue Mark} → MaybeSigned u d → MaybeSigned u e → v ≡ w
        → MeansMaybe g d v → MeansMaybe g e w → d ≡ e
    maybe_same sd se h means_none means_none = refl
    maybe_same sd se h (means_some {d = d} {v = v} a) (means_some {d = e} {v = w} b) =
        let values : v ≡ w = cc in
        ap Some (defs_same (signed_some u d sd) (signed_some u e se) values a b)
    maybe_same sd se h a b = cc
