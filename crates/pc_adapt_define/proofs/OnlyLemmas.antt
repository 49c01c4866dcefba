-- Graphs that have got nothing but what imports ask for: slots of what they work with, and helpers.
use Rattle.std.proofs.Common.{◌≡◌, ◌⊎◌, inl, inr, List, [], ◌∷◌, ◌++◌, Contains, refl, sym, ap}
use Rattle.std.proofs.Common.{subst, ◌∙◌, arith}
use Rattle.std.specs.Prelude.{map}
use Rattle.std.proofs.lemmas.List.Elements.{Contains-append_left, Contains-append_right, Contains-push_cases}
use Rattle.pc_numbers.specs.declared.module_entity.MemoryIndex.{MemoryIndex}
use Rattle.pc_numbers.specs.declared.module_entity.ModuleInternedTypeIndex.{ModuleInternedTypeIndex}
use Rattle.pc_spec_plan.specs.PlanView as plan
use Rattle.pc_trampoline.specs.Parts.{parts_of}
use Rattle.pc_dfg.specs.declared.core_def.CoreDef.{CoreDef}
use Rattle.pc_dfg.specs.declared.core_def.CoreExport.{CoreExport}
use Rattle.pc_dfg.specs.declared.dfg.ComponentDfg.{ComponentDfg}
use Rattle.pc_dfg.specs.Numbers.{memory_def, SignedTrampoline, slots_of, trampoline_entry}
use Rattle.pc_dfg.specs.Pushed.{IsPut}
use Rattle.pc_adapt.specs.declared.import.Import.{Import}
use Rattle.pc_adapt.specs.declared.import.Import.TheVariants as import
use Rattle.pc_adapt_define.specs.Helpers.{Helper, IsHelper}
use Rattle.pc_adapt_define.specs.Only.{AddsOnly, HasSlotFor, IsHelperEntry, in_slots}

-- a list contains its first item, and a list of two the second
pub contains_first : {A : Type 0} (x : A) (xs : List A) → Contains (x ∷ xs) x
contains_first x xs = (0, omega arith, refl)

pub contains_second : {A : Type 0} (x y : A) → Contains (x ∷ y ∷ []) y
contains_second x y = (1, omega arith, refl)

map_more : {A B : Type 0} (f : A → B) (xs : List A) (x : A) → map f (xs ++ x ∷ []) ≡ map f xs ++ f x ∷ []
map_more f [] x = refl
map_more f (z ∷ zs) x = ap (λ ws. f z ∷ ws) (map_more f zs x)

-- what is in a list after an entry was put there was in it before, or is the entry
put_from : {A B : Type 0} (f : A → B) (xs ys : List A) (x : A) (y : B) → IsPut xs ys x → Contains (map f ys) y
    → Contains (map f xs) y ⊎ (f x ≡ y)
put_from f xs ys x y put inside = elim put.0 as (λ _. Contains (map f xs) y ⊎ (f x ≡ y)) [
  | inl same ↦ inl (subst (λ zs. Contains (map f zs) y) same inside)
  | inr more ↦
      Contains-push_cases (map f xs) (f x) y
      (subst (λ zs. Contains zs y) (ap (map f) more ∙ map_more f xs x) inside)
]

-- the same of the entries themselves
put_in : {A : Type 0} (xs ys : List A) (x y : A) → IsPut xs ys x → Contains ys y → Contains xs y ⊎ (x ≡ y)
put_in xs ys x y put inside = elim put.0 as (λ _. Contains xs y ⊎ (x ≡ y)) [
  | inl same ↦ inl (subst (λ zs. Contains zs y) same inside)
  | inr more ↦ Contains-push_cases xs x y (subst (λ zs. Contains zs y) more inside)
]

-- a graph as it was
pub only_same : (g : ComponentDfg) (is : List Import) → AddsOnly is g g
only_same g is = record {
  slots = λ k d inside. inl inside;
  trampolines = λ x inside. inl inside;
}

-- where other imports have the same slots
pub only_more : (is js : List Import) (g h : ComponentDfg)
    → ((k : plan.SlotKind) (d : CoreDef) → HasSlotFor is k d → HasSlotFor js k d) → AddsOnly is g h → AddsOnly js g h
only_more is js g h has only = record {
  slots = λ k d inside. elim (only.slots k d inside) [
    | inl before ↦ inl before
    | inr asked ↦ inr (has k d asked)
  ];
  trampolines = only.trampolines;
}

-- where entries are added twice
pub only_twice : (is : List Import) (g m h : ComponentDfg) → AddsOnly is g m → AddsOnly is m h → AddsOnly is g h
only_twice is g m h first second = record {
  slots = λ k d inside. elim (second.slots k d inside) [
    | inl before ↦ first.slots k d before
    | inr asked ↦ inr asked
  ];
  trampolines = λ x inside. elim (second.trampolines x inside) [
    | inl before ↦ first.trampolines x before
    | inr helper ↦ inr helper
  ];
}

-- the imports of a front have their slots in the whole, and so have those behind
pub front_slots : (is js : List Import) (k : plan.SlotKind) (d : CoreDef) → HasSlotFor is k d
    → HasSlotFor (is ++ js) k d
front_slots is js k d has = record {
  asked = has.asked;
  one = Contains-append_left is js has.asked has.one;
  slot = has.slot;
}

pub behind_slots : (is js : List Import) (k : plan.SlotKind) (d : CoreDef) → HasSlotFor js k d
    → HasSlotFor (is ++ js) k d
behind_slots is js k d has = record {
  asked = has.asked;
  one = Contains-append_right is js has.asked has.one;
  slot = has.slot;
}

-- for imports one after the other
pub only_both : (is js : List Import) (g m h : ComponentDfg) → AddsOnly is g m → AddsOnly js m h
    → AddsOnly (is ++ js) g h
only_both is js g m h first second =
    only_twice (is ++ js) g m h (only_more is (is ++ js) g m (front_slots is js) first)
    (only_more js (is ++ js) m h (behind_slots is js) second)

-- one import has a slot
pub slot_of : (i : Import) (k : plan.SlotKind) (d : CoreDef) → Contains (in_slots i k) d → HasSlotFor (i ∷ []) k d
slot_of i k d inside = record { asked = i; one = contains_first i []; slot = inside }

module _ (g h : ComponentDfg) (is : List Import) where
  memory_slots : (x : CoreExport MemoryIndex) → h ≡ record g { memories = h.memories } → IsPut g.memories h.memories x
      → HasSlotFor is plan.memory (memory_def x) → (k : plan.SlotKind) (d : CoreDef) → Contains (slots_of h k) d
      → Contains (slots_of g k) d ⊎ HasSlotFor is k d
  unfolding slots_of
  memory_slots x rest put has plan.memory d inside = elim (put_from memory_def g.memories h.memories x d put inside) [
    | inl before ↦ inl before
    | inr new ↦ inr (subst (HasSlotFor is plan.memory) new has)
  ]
  memory_slots x rest put has plan.table d inside =
      inl (subst (λ (k : ComponentDfg). Contains (slots_of k plan.table) d) rest inside)
  memory_slots x rest put has plan.realloc d inside =
      inl (subst (λ (k : ComponentDfg). Contains k.reallocs d) rest inside)
  memory_slots x rest put has plan.callback d inside =
      inl (subst (λ (k : ComponentDfg). Contains k.callbacks d) rest inside)
  memory_slots x rest put has plan.post_return d inside =
      inl (subst (λ (k : ComponentDfg). Contains k.post_returns d) rest inside)

  -- one memory is put
  pub only_memory : (x : CoreExport MemoryIndex) → h ≡ record g { memories = h.memories }
      → IsPut g.memories h.memories x → HasSlotFor is plan.memory (memory_def x) → AddsOnly is g h
  only_memory x rest put has = record {
    slots = memory_slots x rest put has;
    trampolines = λ t inside. inl (subst (λ (k : ComponentDfg). Contains k.trampolines t) rest inside);
  }

  callback_slots : (x : CoreDef) → h ≡ record g { callbacks = h.callbacks } → IsPut g.callbacks h.callbacks x
      → HasSlotFor is plan.callback x → (k : plan.SlotKind) (d : CoreDef) → Contains (slots_of h k) d
      → Contains (slots_of g k) d ⊎ HasSlotFor is k d
  unfolding slots_of
  callback_slots x rest put has plan.memory d inside =
      inl (subst (λ (k : ComponentDfg). Contains (slots_of k plan.memory) d) rest inside)
  callback_slots x rest put has plan.table d inside =
      inl (subst (λ (k : ComponentDfg). Contains (slots_of k plan.table) d) rest inside)
  callback_slots x rest put has plan.realloc d inside =
      inl (subst (λ (k : ComponentDfg). Contains k.reallocs d) rest inside)
  callback_slots x rest put has plan.callback d inside = elim (put_in g.callbacks h.callbacks x d put inside) [
    | inl before ↦ inl before
    | inr new ↦ inr (subst (HasSlotFor is plan.callback) new has)
  ]
  callback_slots x rest put has plan.post_return d inside =
      inl (subst (λ (k : ComponentDfg). Contains k.post_returns d) rest inside)

  -- one callback
  pub only_callback : (x : CoreDef) → h ≡ record g { callbacks = h.callbacks } → IsPut g.callbacks h.callbacks x
      → HasSlotFor is plan.callback x → AddsOnly is g h
  only_callback x rest put has = record {
    slots = callback_slots x rest put has;
    trampolines = λ t inside. inl (subst (λ (k : ComponentDfg). Contains k.trampolines t) rest inside);
  }

  post_return_slots : (x : CoreDef) → h ≡ record g { post_returns = h.post_returns }
      → IsPut g.post_returns h.post_returns x → HasSlotFor is plan.post_return x → (k : plan.SlotKind) (d : CoreDef)
      → Contains (slots_of h k) d → Contains (slots_of g k) d ⊎ HasSlotFor is k d
  unfolding slots_of
  post_return_slots x rest put has plan.memory d inside =
      inl (subst (λ (k : ComponentDfg). Contains (slots_of k plan.memory) d) rest inside)
  post_return_slots x rest put has plan.table d inside =
      inl (subst (λ (k : ComponentDfg). Contains (slots_of k plan.table) d) rest inside)
  post_return_slots x rest put has plan.realloc d inside =
      inl (subst (λ (k : ComponentDfg). Contains k.reallocs d) rest inside)
  post_return_slots x rest put has plan.callback d inside =
      inl (subst (λ (k : ComponentDfg). Contains k.callbacks d) rest inside)
  post_return_slots x rest put has plan.post_return d inside =
      elim (put_in g.post_returns h.post_returns x d put inside) [
        | inl before ↦ inl before
        | inr new ↦ inr (subst (HasSlotFor is plan.post_return) new has)
      ]

  -- one post-return function
  pub only_post_return : (x : CoreDef) → h ≡ record g { post_returns = h.post_returns }
      → IsPut g.post_returns h.post_returns x → HasSlotFor is plan.post_return x → AddsOnly is g h
  only_post_return x rest put has = record {
    slots = post_return_slots x rest put has;
    trampolines = λ t inside. inl (subst (λ (k : ComponentDfg). Contains k.trampolines t) rest inside);
  }

  same_slots : h ≡ record g { trampolines = h.trampolines } → (k : plan.SlotKind) (d : CoreDef)
      → Contains (slots_of h k) d → Contains (slots_of g k) d
  unfolding slots_of
  same_slots rest plan.memory d inside = subst (λ (k : ComponentDfg). Contains (slots_of k plan.memory) d) rest inside
  same_slots rest plan.table d inside = subst (λ (k : ComponentDfg). Contains (slots_of k plan.table) d) rest inside
  same_slots rest plan.realloc d inside = subst (λ (k : ComponentDfg). Contains k.reallocs d) rest inside
  same_slots rest plan.callback d inside = subst (λ (k : ComponentDfg). Contains k.callbacks d) rest inside
  same_slots rest plan.post_return d inside = subst (λ (k : ComponentDfg). Contains k.post_returns d) rest inside

  -- one trampoline, of a helper
  pub only_trampoline : (x : SignedTrampoline) → h ≡ record g { trampolines = h.trampolines }
      → IsPut g.trampolines h.trampolines x → IsHelperEntry (trampoline_entry x) → AddsOnly is g h
  only_trampoline x rest put helper = record {
    slots = λ k d inside. inl (same_slots rest k d inside);
    trampolines = λ t inside. elim (put_in g.trampolines h.trampolines x t put inside) [
      | inl before ↦ inl before
      | inr new ↦ inr (subst (λ y. IsHelperEntry (trampoline_entry y)) new helper)
    ];
  }

-- what an import asks for is a helper as an entry
pub helper_entry : (g : ComponentDfg) (s : ModuleInternedTypeIndex) (i : Import) (t : Helper) → IsHelper g i t
    → IsHelperEntry (trampoline_entry (s, t))
unfolding parts_of
helper_entry g s (import.CoreDef d) t is = absurd is
helper_entry g s (import.Transcode op from from64 to to64) t is =
    subst (λ u. IsHelperEntry (trampoline_entry (s, u))) (sym is.is) tt
helper_entry g s import.ResourceTransferOwn t is = subst (λ u. IsHelperEntry (trampoline_entry (s, u))) (sym is) tt
helper_entry g s import.ResourceTransferBorrow t is = subst (λ u. IsHelperEntry (trampoline_entry (s, u))) (sym is) tt
helper_entry g s import.FutureTransfer t is = subst (λ u. IsHelperEntry (trampoline_entry (s, u))) (sym is) tt
helper_entry g s import.StreamTransfer t is = subst (λ u. IsHelperEntry (trampoline_entry (s, u))) (sym is) tt
helper_entry g s import.ErrorContextTransfer t is = subst (λ u. IsHelperEntry (trampoline_entry (s, u))) (sym is) tt
helper_entry g s (import.PrepareCall m) t is = subst (λ u. IsHelperEntry (trampoline_entry (s, u))) (sym is.is) tt
helper_entry g s (import.StartCall c p) t is = subst (λ u. IsHelperEntry (trampoline_entry (s, u))) (sym is.is) tt
helper_entry g s import.EnterSyncCall t is = subst (λ u. IsHelperEntry (trampoline_entry (s, u))) (sym is) tt
helper_entry g s import.ExitSyncCall t is = subst (λ u. IsHelperEntry (trampoline_entry (s, u))) (sym is) tt
helper_entry g s (import.Trap code) t is = subst (λ u. IsHelperEntry (trampoline_entry (s, u))) (sym is) tt
