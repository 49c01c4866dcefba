-- What the definition that stands for an import means and names.
use Rattle.std.proofs.Common.{◌≡◌, inl, inr, ℕ, true, List, [], ◌∷◌, ◌++◌, length, All, Contains}
use Rattle.std.proofs.Common.{Option, None, Some, refl, sym, ap, subst, ◌∙◌, ◌≤◌, arith, Ok, Err}
use Rattle.std.specs.Prelude.{option_map, slice_get}
use Rattle.std.proofs.lemmas.List.{append-nil}
use Rattle.std.proofs.lemmas.List.Elements.{All-contains, All-cons}
use Rattle.std.proofs.lemmas.Option.{same_Some, slice_get-map, slice_get_within}
use Rattle.pc_numbers.specs.declared.module_entity.MemoryIndex.{MemoryIndex}
use Rattle.pc_numbers.specs.declared.module_entity.ModuleInternedTypeIndex.{ModuleInternedTypeIndex}
use Rattle.pc_numbers.specs.declared.runtime.TrampolineIndex.{TrampolineIndex}
use Rattle.pc_spec_plan.specs.CoreValue as value
use Rattle.pc_spec_plan.specs.CoreValue.{CoreValue, MaybeValue}
use Rattle.pc_spec_plan.specs.PlanView as plan
use Rattle.pc_trampoline.specs.declared.part.Mark.{Mark}
use Rattle.pc_trampoline.specs.declared.part.Mark.TheVariants as mark
use Rattle.pc_trampoline.specs.declared.trampoline.Trampoline.TheVariants as trampoline
use Rattle.pc_trampoline.specs.Parts.{parts_of}
use Rattle.pc_dfg.specs.declared.core_def.CoreDef.{CoreDef}
use Rattle.pc_dfg.specs.declared.core_def.CoreDef.TheVariants as def
use Rattle.pc_dfg.specs.declared.core_def.CoreExport.{CoreExport}
use Rattle.pc_dfg.specs.declared.dfg.ComponentDfg.{ComponentDfg}
use Rattle.pc_dfg.specs.declared.ids.CallbackId.{CallbackId}
use Rattle.pc_dfg.specs.declared.ids.MemoryId.{MemoryId}
use Rattle.pc_dfg.specs.declared.ids.PostReturnId.{PostReturnId}
use Rattle.pc_dfg.specs.Grows.{Grows}
use Rattle.pc_dfg.specs.Held.{AreHeld, HeldPart, HeldSlot, HeldTrampoline, IsHeld}
use Rattle.pc_dfg.specs.Means.{Means, MeansMaybe, MeansParts, MeansSlot, means_and_part, means_helper, means_mark}
use Rattle.pc_dfg.specs.Means.{means_no_parts, means_no_slot, means_none, means_slot, means_slot_part, means_some}
use Rattle.pc_dfg.specs.Means.{means_trampoline}
use Rattle.pc_dfg.specs.Names.{if_any, in_slot, in_trampoline, Names, names_through, OneNames, Thing}
use Rattle.pc_dfg.specs.Numbers.{memory_def, SignedTrampoline, slots_of, trampoline_entry}
use Rattle.pc_dfg.proofs.AllLemmas.{all_first, all_one}
use Rattle.pc_dfg.proofs.HeldLemmas.{held_stays}
use Rattle.pc_dfg.proofs.KeptLemmas.{means_kept}
use Rattle.pc_adapt.specs.declared.import.Import.{Import}
use Rattle.pc_adapt.specs.declared.import.Import.TheVariants as import
use Rattle.pc_adapt.specs.Planned.{HasValue, has_borrow, has_definition, has_enter, has_error_context, has_exit}
use Rattle.pc_adapt.specs.Planned.{has_future, has_own, has_prepare, has_start, has_stream, has_transcoder, has_trap}
use Rattle.pc_adapt_define.specs.Adds.{IsFull}
use Rattle.pc_adapt_define.specs.Define.{HasFullList, HasFullSlots, in_import, is_helper, IsDefined}
use Rattle.pc_adapt_define.specs.Helpers.{HasSlot, Helper, IsHelper}
use Rattle.pc_adapt_define.proofs.BackLemmas.{names_back, one_back}

-- a memory in its slot
memory_at : (h : ComponentDfg) (n : ℕ) (e : CoreExport MemoryIndex) → slice_get h.memories n ≡ Some e
    → slice_get (slots_of h plan.memory) n ≡ Some (memory_def e)
unfolding slots_of
memory_at h n e at = slice_get-map memory_def h.memories n ∙ ap (option_map memory_def) at

module _ (h : ComponentDfg) where
  -- what stands in a slot that may be left out, which is held
  memory_in : (n : Option ℕ) (m : Option (CoreExport MemoryIndex)) → HasSlot h.memories n m
      → in_slot h plan.memory n ≡ if_any (option_map memory_def m)
  memory_in None None at = refl
  memory_in None (Some e) at = absurd at
  memory_in (Some n) None at = absurd at
  memory_in (Some n) (Some e) at = ap if_any (memory_at h n e at)

  memory_held : (n : Option ℕ) (m : Option (CoreExport MemoryIndex)) → HasSlot h.memories n m
      → HeldSlot h plan.memory n
  unfolding HeldSlot
  memory_held None None at = tt
  memory_held None (Some e) at = absurd at
  memory_held (Some n) None at = absurd at
  memory_held (Some n) (Some e) at =
      slice_get_within (slots_of h plan.memory) n (memory_def e) (memory_at h n e at)

  slot_in : (k : plan.SlotKind) (n : Option ℕ) (d : Option CoreDef) → HasSlot (slots_of h k) n d
      → in_slot h k n ≡ if_any d
  slot_in k None None at = refl
  slot_in k None (Some e) at = absurd at
  slot_in k (Some n) None at = absurd at
  slot_in k (Some n) (Some e) at = ap if_any at

  slot_held : (k : plan.SlotKind) (n : Option ℕ) (d : Option CoreDef) → HasSlot (slots_of h k) n d → HeldSlot h k n
  unfolding HeldSlot
  slot_held k None None at = tt
  slot_held k None (Some e) at = absurd at
  slot_held k (Some n) None at = absurd at
  slot_held k (Some n) (Some e) at = slice_get_within (slots_of h k) n e at

  callback_slots : (n : Option ℕ) (d : Option CoreDef) → HasSlot h.callbacks n d
      → HasSlot (slots_of h plan.callback) n d
  unfolding slots_of
  callback_slots n d at = at

  post_return_slots : (n : Option ℕ) (d : Option CoreDef) → HasSlot h.post_returns n d
      → HasSlot (slots_of h plan.post_return) n d
  unfolding slots_of
  post_return_slots n d at = at

  module _ (s : ModuleInternedTypeIndex) where
    -- a trampoline without slots
    bare_held : (t u : Helper) → t ≡ u → HeldTrampoline h (trampoline_entry (s, u))
        → HeldTrampoline h (trampoline_entry (s, t))
    bare_held t u is held = subst (λ x. HeldTrampoline h (trampoline_entry (s, x))) (sym is) held

    none_held : All (HeldPart h) (plan.mark (mark.Signature s) ∷ [])
    unfolding HeldPart
    none_held = all_one (HeldPart h) (plan.mark (mark.Signature s)) tt

    one_held : (k : plan.SlotKind) (n : Option ℕ) → HeldSlot h k n
        → All (HeldPart h) (plan.mark (mark.Signature s) ∷ plan.slot k n ∷ [])
    unfolding HeldPart
    one_held k n held =
        All-cons (HeldPart h) (plan.mark (mark.Signature s)) (plan.slot k n ∷ []) tt
        (all_one (HeldPart h) (plan.slot k n) held)

    two_held : (k l : plan.SlotKind) (n m : Option ℕ) → HeldSlot h k n → HeldSlot h l m
        → All (HeldPart h) (plan.mark (mark.Signature s) ∷ plan.slot k n ∷ plan.slot l m ∷ [])
    unfolding HeldPart
    two_held k l n m first second =
        All-cons (HeldPart h) (plan.mark (mark.Signature s)) (plan.slot k n ∷ plan.slot l m ∷ []) tt
        (All-cons (HeldPart h) (plan.slot k n) (plan.slot l m ∷ []) first
        (all_one (HeldPart h) (plan.slot l m) second))

    -- the slots of a helper are held
    pub helper_held : (i : Import) (t : Helper) → IsHelper h i t → HeldTrampoline h (trampoline_entry (s, t))
    unfolding parts_of HeldTrampoline
    helper_held (import.CoreDef d) t is = absurd is
    helper_held (import.Transcode op from from64 to to64) t is =
        bare_held t (trampoline.Transcoder op is.source from64 is.target to64) is.is
        (two_held plan.memory plan.memory (Some is.source.0) (Some is.target.0)
        (memory_held (Some is.source.0) (Some from) is.source_at)
        (memory_held (Some is.target.0) (Some to) is.target_at))
    helper_held import.ResourceTransferOwn t is = bare_held t trampoline.ResourceTransferOwn is none_held
    helper_held import.ResourceTransferBorrow t is = bare_held t trampoline.ResourceTransferBorrow is none_held
    helper_held import.FutureTransfer t is = bare_held t trampoline.FutureTransfer is none_held
    helper_held import.StreamTransfer t is = bare_held t trampoline.StreamTransfer is none_held
    helper_held import.ErrorContextTransfer t is = bare_held t trampoline.ErrorContextTransfer is none_held
    helper_held (import.PrepareCall m) t is =
        let n = option_map (λ (x : MemoryId). x.0) is.slot in
        bare_held t (trampoline.PrepareCall is.slot) is.is (one_held plan.memory n (memory_held n m is.at))
    helper_held (import.StartCall c p) t is =
        let n = option_map (λ (x : CallbackId). x.0) is.callback in
        let m = option_map (λ (x : PostReturnId). x.0) is.post_return in
        bare_held t (trampoline.StartCall is.callback is.post_return) is.is
        (two_held plan.callback plan.post_return n m
        (slot_held plan.callback n c (callback_slots n c is.callback_at))
        (slot_held plan.post_return m p (post_return_slots m p is.post_return_at)))
    helper_held import.EnterSyncCall t is = bare_held t trampoline.EnterSyncCall is none_held
    helper_held import.ExitSyncCall t is = bare_held t trampoline.ExitSyncCall is none_held
    helper_held (import.Trap code) t is = bare_held t (trampoline.Trap code) is none_held

    bare_in : (t u : Helper) (ds : List CoreDef) → t ≡ u → in_trampoline h (trampoline_entry (s, u)) ≡ ds
        → in_trampoline h (trampoline_entry (s, t)) ≡ ds
    bare_in t u ds is same = ap (λ x. in_trampoline h (trampoline_entry (s, x))) is ∙ same

    -- the definitions in a helper are those in the import
    pub helper_in : (i : Import) (t : Helper) → IsHelper h i t
        → in_trampoline h (trampoline_entry (s, t)) ≡ in_import i
    unfolding parts_of in_trampoline
    helper_in (import.CoreDef d) t is = absurd is
    helper_in (import.Transcode op from from64 to to64) t is =
        let first = memory_in (Some is.source.0) (Some from) is.source_at in
        let second = memory_in (Some is.target.0) (Some to) is.target_at in
        bare_in t (trampoline.Transcoder op is.source from64 is.target to64) (memory_def from ∷ memory_def to ∷ [])
        is.is (λ j. first j ++ (second j ++ []))
    helper_in import.ResourceTransferOwn t is = bare_in t trampoline.ResourceTransferOwn [] is refl
    helper_in import.ResourceTransferBorrow t is = bare_in t trampoline.ResourceTransferBorrow [] is refl
    helper_in import.FutureTransfer t is = bare_in t trampoline.FutureTransfer [] is refl
    helper_in import.StreamTransfer t is = bare_in t trampoline.StreamTransfer [] is refl
    helper_in import.ErrorContextTransfer t is = bare_in t trampoline.ErrorContextTransfer [] is refl
    helper_in (import.PrepareCall m) t is =
        let n = option_map (λ (x : MemoryId). x.0) is.slot in
        let ds = if_any (option_map memory_def m) in
        bare_in t (trampoline.PrepareCall is.slot) ds is.is
        (append-nil (in_slot h plan.memory n) ∙ memory_in n m is.at)
    helper_in (import.StartCall c p) t is =
        let n = option_map (λ (x : CallbackId). x.0) is.callback in
        let m = option_map (λ (x : PostReturnId). x.0) is.post_return in
        let first = slot_in plan.callback n c (callback_slots n c is.callback_at) in
        let second = slot_in plan.post_return m p (post_return_slots m p is.post_return_at) in
        bare_in t (trampoline.StartCall is.callback is.post_return) (if_any c ++ if_any p) is.is
        ((λ j. first j ++ (second j ++ [])) ∙ ap (λ xs. if_any c ++ xs) (append-nil (if_any p)))
    helper_in import.EnterSyncCall t is = bare_in t trampoline.EnterSyncCall [] is refl
    helper_in import.ExitSyncCall t is = bare_in t trampoline.ExitSyncCall [] is refl
    helper_in (import.Trap code) t is = bare_in t (trampoline.Trap code) [] is refl

-- what asks for a helper is one
pub helper_is : (h : ComponentDfg) (i : Import) (t : Helper) → IsHelper h i t → is_helper i ≡ true
helper_is h (import.CoreDef d) t is = absurd is
helper_is h (import.Transcode op from from64 to to64) t is = refl
helper_is h import.ResourceTransferOwn t is = refl
helper_is h import.ResourceTransferBorrow t is = refl
helper_is h import.FutureTransfer t is = refl
helper_is h import.StreamTransfer t is = refl
helper_is h import.ErrorContextTransfer t is = refl
helper_is h (import.PrepareCall m) t is = refl
helper_is h (import.StartCall c p) t is = refl
helper_is h import.EnterSyncCall t is = refl
helper_is h import.ExitSyncCall t is = refl
helper_is h (import.Trap code) t is = refl

module _ (g h : ComponentDfg) (grows : Grows g h) where
  memory_means : (n : ℕ) (e : CoreExport MemoryIndex) (v : CoreValue Mark) → slice_get h.memories n ≡ Some e
      → Means g (memory_def e) v → MeansSlot h plan.memory (Some n) (value.a_value v)
  memory_means n e v at means = means_slot (memory_at h n e at) (means_kept g h grows means)

  memory_slot_means : (n : Option ℕ) (m : Option (CoreExport MemoryIndex)) {v : MaybeValue Mark}
      → HasSlot h.memories n m → MeansMaybe g (option_map memory_def m) v → MeansSlot h plan.memory n v
  memory_slot_means None None at means_none = means_no_slot
  memory_slot_means None (Some e) at means = absurd at
  memory_slot_means (Some n) None at means = absurd at
  memory_slot_means (Some n) (Some e) at (means_some {v = v} means) = memory_means n e v at means

  slot_means : (k : plan.SlotKind) (n : Option ℕ) (d : Option CoreDef) {v : MaybeValue Mark}
      → HasSlot (slots_of h k) n d → MeansMaybe g d v → MeansSlot h k n v
  slot_means k None None at means_none = means_no_slot
  slot_means k None (Some e) at means = absurd at
  slot_means k (Some n) None at means = absurd at
  slot_means k (Some n) (Some e) at (means_some means) = means_slot at (means_kept g h grows means)

  module _ (s : ModuleInternedTypeIndex) (n : TrampolineIndex) where
    -- a trampoline by what it is
    found : (t u : Helper) → slice_get h.trampolines n.0 ≡ Some (s, t) → t ≡ u
        → slice_get h.trampolines n.0 ≡ Some (s, u)
    found t u at is = at ∙ ap (λ x. Some (s, x)) is

    none_means : MeansParts h (plan.mark (mark.Signature s) ∷ [])
        (value.and_part (value.mark_part (mark.Signature s)) value.no_parts)
    none_means = means_and_part means_mark means_no_parts

    -- a helper has the value of the import
    pub helper_means : (i : Import) (t : Helper) {v : CoreValue Mark} → slice_get h.trampolines n.0 ≡ Some (s, t)
        → IsHelper h i t → HasValue g (mark.Signature s) i v → Means h (def.Trampoline n) v
    unfolding parts_of
    helper_means (import.CoreDef d) t at is (has_definition means) = absurd is
    helper_means (import.Transcode op from from64 to to64) t at is (has_transcoder {v = v} {w = w} first second) =
        means_trampoline (found t (trampoline.Transcoder op is.source from64 is.target to64) at is.is)
        (means_helper (means_and_part means_mark
        (means_and_part (means_slot_part (memory_means is.source.0 from v is.source_at first))
        (means_and_part (means_slot_part (memory_means is.target.0 to w is.target_at second)) means_no_parts))))
    helper_means import.ResourceTransferOwn t at is has_own =
        means_trampoline (found t trampoline.ResourceTransferOwn at is) (means_helper none_means)
    helper_means import.ResourceTransferBorrow t at is has_borrow =
        means_trampoline (found t trampoline.ResourceTransferBorrow at is) (means_helper none_means)
    helper_means import.FutureTransfer t at is has_future =
        means_trampoline (found t trampoline.FutureTransfer at is) (means_helper none_means)
    helper_means import.StreamTransfer t at is has_stream =
        means_trampoline (found t trampoline.StreamTransfer at is) (means_helper none_means)
    helper_means import.ErrorContextTransfer t at is has_error_context =
        means_trampoline (found t trampoline.ErrorContextTransfer at is) (means_helper none_means)
    helper_means (import.PrepareCall m) t at is (has_prepare {v = v} means) =
        let k = option_map (λ (x : MemoryId). x.0) is.slot in
        means_trampoline (found t (trampoline.PrepareCall is.slot) at is.is)
        (means_helper (means_and_part means_mark
        (means_and_part (means_slot_part (memory_slot_means k m is.at means)) means_no_parts)))
    helper_means (import.StartCall c p) t at is (has_start first second) =
        let k = option_map (λ (x : CallbackId). x.0) is.callback in
        let l = option_map (λ (x : PostReturnId). x.0) is.post_return in
        means_trampoline (found t (trampoline.StartCall is.callback is.post_return) at is.is)
        (means_helper (means_and_part means_mark
        (means_and_part (means_slot_part (slot_means plan.callback k c (callback_slots h k c is.callback_at) first))
        (means_and_part
        (means_slot_part (slot_means plan.post_return l p (post_return_slots h l p is.post_return_at) second))
        means_no_parts))))
    helper_means import.EnterSyncCall t at is has_enter =
        means_trampoline (found t trampoline.EnterSyncCall at is) (means_helper none_means)
    helper_means import.ExitSyncCall t at is has_exit =
        means_trampoline (found t trampoline.ExitSyncCall at is) (means_helper none_means)
    helper_means (import.Trap code) t at is has_trap =
        means_trampoline (found t (trampoline.Trap code) at is) (means_helper none_means)

  module _ (held : AreHeld g) where
    -- a trampoline over held definitions names what they named
    through : (n : TrampolineIndex) (x : SignedTrampoline) (ds : List CoreDef) (y : Thing)
        → slice_get h.trampolines n.0 ≡ Some x → in_trampoline h (trampoline_entry x) ≡ ds → All (IsHeld g) ds
        → Names h (def.Trampoline n) y → OneNames g ds y
    unfolding OneNames
    through n x ds y at is all (names_through {x = z} {d = d} found inside rest) =
        let same = same_Some z x (sym found ∙ at) in
        let inner : Contains ds d = subst (λ es. Contains es d) is
        (subst (λ u. Contains (in_trampoline h (trampoline_entry u)) d) same inside) in
        (d, inner, names_back g h grows held (All-contains (IsHeld g) ds d all inner) rest)

    pub through_names : (n : TrampolineIndex) (x : SignedTrampoline) (ds : List CoreDef) (y : Thing)
        → slice_get h.trampolines n.0 ≡ Some x → in_trampoline h (trampoline_entry x) ≡ ds → All (IsHeld g) ds
        → OneNames h (def.Trampoline n ∷ []) y → OneNames g ds y
    unfolding OneNames
    through_names n x ds y at is all one =
        All-contains (λ d. Names h d y → OneNames g ds y) (def.Trampoline n ∷ []) one.0
        (all_one (λ d. Names h d y → OneNames g ds y) (def.Trampoline n) (through n x ds y at is all)) one.1 one.2

-- a definition of the graph stands for itself
pub own_defined : (g h : ComponentDfg) (s : ModuleInternedTypeIndex) (i : Import) (d : CoreDef) → Grows g h
    → All (IsHeld g) (in_import i) → i ≡ import.CoreDef d → IsDefined g h s i d
own_defined g h s i d grows all is =
    subst (λ j. IsDefined g h s j d) (sym is) (own (subst (λ j. All (IsHeld g) (in_import j)) is all))
  where
    means : {v : CoreValue Mark} → HasValue g (mark.Signature s) (import.CoreDef d) v → Means h d v
    means (has_definition m) = means_kept g h grows m

    own : All (IsHeld g) (d ∷ []) → IsDefined g h s (import.CoreDef d) d
    own here = record {
      form = inl refl;
      held = held_stays g h grows d (all_first (IsHeld g) d [] here);
      value = λ v has. means has;
      names = λ y held one. one_back g h grows held (d ∷ []) y here one;
    }

-- a helper stands for the import that asks for it
pub helper_defined : (g h : ComponentDfg) (s : ModuleInternedTypeIndex) (i : Import) (t : Helper) (n : TrampolineIndex)
    → Grows g h → All (IsHeld g) (in_import i) → IsHelper h i t → slice_get h.trampolines n.0 ≡ Some (s, t)
    → IsDefined g h s i (def.Trampoline n)
unfolding IsHeld
helper_defined g h s i t n grows all is at = record {
  form = inr (helper_is h i t is, (n, refl));
  held = slice_get_within h.trampolines n.0 (s, t) at;
  value = λ v has. helper_means g h grows s n i t at is has;
  names = λ y held one. through_names g h grows held n (s, t) (in_import i) y at (helper_in h s i t is) all one;
}

-- a helper is one beside other trampolines
beside : (m : ComponentDfg) (ts : List SignedTrampoline) (i : Import) (t : Helper) → IsHelper m i t
    → IsHelper (record m { trampolines = ts }) i t
beside m ts (import.CoreDef d) t is = absurd is
beside m ts (import.Transcode op from from64 to to64) t is = record {
  source = is.source;
  target = is.target;
  is = is.is;
  source_at = is.source_at;
  target_at = is.target_at;
}
beside m ts import.ResourceTransferOwn t is = is
beside m ts import.ResourceTransferBorrow t is = is
beside m ts import.FutureTransfer t is = is
beside m ts import.StreamTransfer t is = is
beside m ts import.ErrorContextTransfer t is = is
beside m ts (import.PrepareCall x) t is = record { slot = is.slot; is = is.is; at = is.at }
beside m ts (import.StartCall c p) t is = record {
  callback = is.callback;
  post_return = is.post_return;
  is = is.is;
  callback_at = is.callback_at;
  post_return_at = is.post_return_at;
}
beside m ts import.EnterSyncCall t is = is
beside m ts import.ExitSyncCall t is = is
beside m ts (import.Trap code) t is = is

pub helper_stays : (m h : ComponentDfg) (i : Import) (t : Helper) → h ≡ record m { trampolines = h.trampolines }
    → IsHelper m i t → IsHelper h i t
helper_stays m h i t rest is =
    subst (λ k. IsHelper k i t) (sym rest) (beside m h.trampolines i t is)

-- a trampoline had no room
pub full_trampolines : (m h : ComponentDfg) (i : Import) (t : Helper) → IsHelper m i t → h ≡ m
    → IsFull m.trampolines → HasFullList h i
full_trampolines m h i t is same full =
    inr (helper_is m i t is, subst (λ (k : ComponentDfg). IsFull k.trampolines) (sym same) full)

-- a helper and its slots had room
pub helper_room : (g m : ComponentDfg) (i : Import) → length g.trampolines ≤ length m.trampolines
    → ¬ (HasFullSlots g i) → ¬ (IsFull m.trampolines) → ¬ (HasFullList g i)
helper_room g m i more slots trampolines either = elim either as (λ _. ⊥) [
  | inl full ↦ slots full
  | inr full ↦ trampolines (omega (arith, more, full.1))
]

-- an answer isn't an error
pub not_refused : {A E : Type 0} (x : A) (y : E) → Ok x ≡ Err y → ⊥
not_refused x y e = grind (arith, e)
