-- Definitions that stand for imports, one after the other.
use Rattle.std.proofs.Common.{ℕ, ◌+◌, ◌≡◌, ◌≤◌, inl, inr, List, [], ◌∷◌, ◌++◌, All, Option, None, Some, sym}
use Rattle.std.proofs.Common.{ap, subst, ◌∙◌, arith}
use Rattle.std.specs.List.{AllZip}
use Rattle.std.proofs.lemmas.List.{append_assoc, append-nil}
use Rattle.pc_numbers.specs.declared.module_entity.ModuleInternedTypeIndex.{ModuleInternedTypeIndex}
use Rattle.pc_spec_plan.specs.CoreValue.{CoreValue}
use Rattle.pc_trampoline.specs.declared.part.Mark.{Mark}
use Rattle.pc_trampoline.specs.declared.part.Mark.TheVariants as mark
use Rattle.pc_dfg.specs.declared.core_def.CoreDef.{CoreDef}
use Rattle.pc_dfg.specs.declared.dfg.ComponentDfg.{ComponentDfg}
use Rattle.pc_dfg.specs.Grows.{Grows}
use Rattle.pc_dfg.specs.Held.{AreHeld, IsHeld}
use Rattle.pc_dfg.specs.Ordered.{IsOrdered}
use Rattle.pc_dfg.proofs.AllLemmas.{all_first, all_one, all_rest}
use Rattle.pc_dfg.proofs.HeldLemmas.{all_stay, held_stays}
use Rattle.pc_dfg.proofs.KeptLemmas.{maybe_kept, means_kept}
use Rattle.pc_dfg.proofs.ZipLemmas.{zip_more}
use Rattle.pc_adapt.specs.declared.import.Import.{Import}
use Rattle.pc_adapt.specs.declared.import.Import.TheVariants as import
use Rattle.pc_adapt.specs.Planned.{HasValue, has_borrow, has_definition, has_enter, has_error_context, has_exit}
use Rattle.pc_adapt.specs.Planned.{has_future, has_own, has_prepare, has_start, has_stream, has_transcoder, has_trap}
use Rattle.pc_adapt_define.specs.Adds.{Adds, IsFullFor}
use Rattle.pc_adapt_define.specs.Define.{AreDefined, HasFullList, HasFullSlots, HasNoRoom, in_import, IsDefined}
use Rattle.pc_adapt_define.specs.Define.{callbacks_in, memories_in, post_returns_in, total, trampolines_in}
use Rattle.pc_adapt_define.specs.Only.{AddsOnly}
use Rattle.pc_adapt_define.proofs.AddsLemmas.{adds_more, adds_none, adds_twice}
use Rattle.pc_adapt_define.proofs.BackLemmas.{one_back}
use Rattle.pc_adapt_define.proofs.OnlyLemmas.{only_both, only_same}

-- an import keeps its value
value_kept : (g h : ComponentDfg) → Grows g h → (s : Mark) {i : Import} {v : CoreValue Mark} → HasValue g s i v
    → HasValue h s i v
value_kept g h grows s (has_definition m) = has_definition (means_kept g h grows m)
value_kept g h grows s (has_transcoder a b) = has_transcoder (means_kept g h grows a) (means_kept g h grows b)
value_kept g h grows s has_own = has_own
value_kept g h grows s has_borrow = has_borrow
value_kept g h grows s has_future = has_future
value_kept g h grows s has_stream = has_stream
value_kept g h grows s has_error_context = has_error_context
value_kept g h grows s (has_prepare {m = x} m) = has_prepare {m = x} (maybe_kept g h grows m)
value_kept g h grows s (has_start a b) = has_start (maybe_kept g h grows a) (maybe_kept g h grows b)
value_kept g h grows s has_enter = has_enter
value_kept g h grows s has_exit = has_exit
value_kept g h grows s has_trap = has_trap

-- what stands for an import still does in a graph that has grown
pub later : (g m n : ComponentDfg) (s : ModuleInternedTypeIndex) → Grows m n → AreHeld m → (i : Import) (d : CoreDef)
    → IsDefined g m s i d → IsDefined g n s i d
later g m n s grows heldm i d x = record {
  form = x.form;
  held = held_stays m n grows d x.held;
  value = λ v has. means_kept m n grows (x.value v has);
  names = λ y held one. x.names y held (one_back m n grows heldm (d ∷ []) y (all_one (IsHeld m) d x.held) one);
}

-- and for the import to the graph before
pub earlier : (g m n : ComponentDfg) (s : ModuleInternedTypeIndex) → Grows g m → AreHeld m → (i : Import) (d : CoreDef)
    → All (IsHeld g) (in_import i) → IsDefined m n s i d → IsDefined g n s i d
earlier g m n s grows heldm i d all x = record {
  form = x.form;
  held = x.held;
  value = λ v has. x.value v (value_kept g m grows (mark.Signature s) has);
  names = λ y held one. one_back g m grows held (in_import i) y all (x.names y heldm one);
}

pub zip_append : {A B : Type 0} (R : A → B → Type 0) (xs ys : List A) (ps qs : List B) → AllZip R xs ps
    → AllZip R ys qs → AllZip R (xs ++ ys) (ps ++ qs)
zip_append R [] ys [] qs front rest = rest
zip_append R [] ys (p ∷ ps) qs front rest = absurd front
zip_append R (x ∷ xs) ys [] qs front rest = absurd front
zip_append R (x ∷ xs) ys (p ∷ ps) qs front rest = (front.0, zip_append R xs ys ps qs front.1 rest)

-- of no imports
pub none_defined : (g : ComponentDfg) (s : ModuleInternedTypeIndex) (before : List CoreDef)
    → AreDefined g g s [] before before
none_defined g s before = record {
  adds = adds_none g;
  only = only_same g [];
  defs = [];
  are = sym (append-nil before);
  each = tt;
}

total_more : (f : Import → ℕ) (is : List Import) (i : Import) → total f (is ++ i ∷ []) ≡ total f is + f i
total_more f [] i = omega arith
total_more f (j ∷ is) i = let rest = total_more f is i in omega (arith, rest)

-- a front of a list and what is behind it are no more than all of it
total_within : (f : Import → ℕ) (xs ys : List Import) (i : Import) → total f xs + f i ≤ total f (xs ++ i ∷ ys)
total_within f [] ys i = omega arith
total_within f (x ∷ xs) ys i = let rest = total_within f xs ys i in omega (arith, rest)

-- what so many imports and one more add is no more than what all of them add
pub adds_so_far : (g m n : ComponentDfg) (all xs ys : List Import) (i : Import) → xs ++ i ∷ ys ≡ all
    → Adds (total memories_in xs) (total callbacks_in xs) (total post_returns_in xs) (total trampolines_in xs) g m
    → Adds (memories_in i) (callbacks_in i) (post_returns_in i) (trampolines_in i) m n
    → Adds (total memories_in all) (total callbacks_in all) (total post_returns_in all) (total trampolines_in all) g n
adds_so_far g m n all xs ys i is so_far adds =
    let whole = xs ++ i ∷ ys in
    subst (λ l. Adds (total memories_in l) (total callbacks_in l) (total post_returns_in l) (total trampolines_in l)
    g n) is
    (adds_more (total memories_in xs + memories_in i) (total callbacks_in xs + callbacks_in i)
    (total post_returns_in xs + post_returns_in i) (total trampolines_in xs + trampolines_in i)
    (total memories_in whole) (total callbacks_in whole) (total post_returns_in whole) (total trampolines_in whole)
    g n (total_within memories_in xs ys i) (total_within callbacks_in xs ys i) (total_within post_returns_in xs ys i)
    (total_within trampolines_in xs ys i)
    (adds_twice (total memories_in xs) (total callbacks_in xs) (total post_returns_in xs) (total trampolines_in xs)
    (memories_in i) (callbacks_in i) (post_returns_in i) (trampolines_in i) g m n so_far adds))

-- of one import more
pub one_defined : (g m n : ComponentDfg) (s : ModuleInternedTypeIndex) (is : List Import) (i : Import)
    (before mid after : List CoreDef) (d : CoreDef) → IsOrdered g → All (IsHeld g) (in_import i)
    → AreDefined g m s is before mid
    → Adds (memories_in i) (callbacks_in i) (post_returns_in i) (trampolines_in i) m n → AddsOnly (i ∷ []) m n
    → IsDefined m n s i d → after ≡ mid ++ d ∷ [] → AreDefined g n s (is ++ i ∷ []) before after
one_defined g m n s is i before mid after d o all so_far adds only defined more =
    let a = total memories_in is in
    let b = total callbacks_in is in
    let p = total post_returns_in is in
    let t = total trampolines_in is in
    let js = is ++ i ∷ [] in
    let a' = total_more memories_in is i in
    let b' = total_more callbacks_in is i in
    let p' = total_more post_returns_in is i in
    let t' = total_more trampolines_in is i in
    let held = (so_far.adds.ordered o).held in
    record {
      adds = adds_more (a + memories_in i) (b + callbacks_in i) (p + post_returns_in i) (t + trampolines_in i)
          (total memories_in js) (total callbacks_in js) (total post_returns_in js) (total trampolines_in js) g n
          (omega (arith, a')) (omega (arith, b')) (omega (arith, p')) (omega (arith, t'))
          (adds_twice a b p t (memories_in i) (callbacks_in i) (post_returns_in i) (trampolines_in i) g m n
          so_far.adds adds);
      only = only_both is (i ∷ []) g m n so_far.only only;
      defs = so_far.defs ++ d ∷ [];
      are = more ∙ ap (λ xs. xs ++ d ∷ []) so_far.are ∙ append_assoc before so_far.defs (d ∷ []);
      each = zip_append (IsDefined g n s) is (i ∷ []) so_far.defs (d ∷ [])
          (zip_more (IsDefined g m s) (IsDefined g n s) (later g m n s adds.grows held) is so_far.defs so_far.each)
          (earlier g m n s so_far.adds.grows held i d all defined, tt);
    }

-- the next import of a list, which is held
pub next_held : (g m : ComponentDfg) → Grows g m → (all xs ys : List Import) (i : Import)
    → All (λ x. All (IsHeld g) (in_import x)) all → xs ++ i ∷ ys ≡ all → All (IsHeld g) (in_import i)
next_held g m grows all xs ys i held is =
    inside xs (subst (λ zs. All (λ x. All (IsHeld g) (in_import x)) zs) (sym is) held)
  where
    P : Import → Type 0
    P x = All (IsHeld g) (in_import x)

    inside : (zs : List Import) → All P (zs ++ i ∷ ys) → P i
    inside [] these = all_first P i ys these
    inside (z ∷ zs) these = inside zs (all_rest P z (zs ++ i ∷ ys) these)

pub next_stays : (g m : ComponentDfg) → Grows g m → (i : Import) → All (IsHeld g) (in_import i)
    → All (IsHeld m) (in_import i)
next_stays g m grows i held = all_stay g m grows (in_import i) held

slots_full : (g : ComponentDfg) (i : Import) → HasFullSlots g i → HasNoRoom g
slots_full g (import.Transcode op from from64 to to64) full = inl (inl full)
slots_full g (import.PrepareCall None) full = absurd full
slots_full g (import.PrepareCall (Some m)) full = inl (inl full)
slots_full g (import.StartCall c p) full = elim full as (λ _. HasNoRoom g) [
  | inl first ↦ callback_full c first
  | inr second ↦ post_return_full p second
]
  where
    callback_full : (x : Option CoreDef) → IsFullFor x g.callbacks → HasNoRoom g
    callback_full None none = absurd none
    callback_full (Some d) there = inl (inr there)

    post_return_full : (x : Option CoreDef) → IsFullFor x g.post_returns → HasNoRoom g
    post_return_full None none = absurd none
    post_return_full (Some d) there = inr (inl there)
slots_full g (import.CoreDef d) full = absurd full
slots_full g import.ResourceTransferOwn full = absurd full
slots_full g import.ResourceTransferBorrow full = absurd full
slots_full g import.FutureTransfer full = absurd full
slots_full g import.StreamTransfer full = absurd full
slots_full g import.ErrorContextTransfer full = absurd full
slots_full g import.EnterSyncCall full = absurd full
slots_full g import.ExitSyncCall full = absurd full
slots_full g (import.Trap t) full = absurd full

-- a list that one import is put into is one of the lists
pub list_full : (g : ComponentDfg) (i : Import) → HasFullList g i → HasNoRoom g
list_full g i either = elim either as (λ _. HasNoRoom g) [
  | inl full ↦ slots_full g i full
  | inr full ↦ inr (inr full.1)
]
