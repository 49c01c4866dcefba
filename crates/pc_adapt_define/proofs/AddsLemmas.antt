-- Graphs that have got slots and trampolines.
use Rattle.std.proofs.Common.{◌≡◌, ◌≤◌, ℕ, ◌+◌, inl, inr, List, [], ◌∷◌, ◌++◌, length, refl, ap, ◌∙◌, arith}
use Rattle.std.proofs.Common.{length-append}
use Rattle.pc_numbers.specs.declared.module_entity.MemoryIndex.{MemoryIndex}
use Rattle.pc_dfg.specs.declared.core_def.CoreDef.{CoreDef}
use Rattle.pc_dfg.specs.declared.core_def.CoreExport.{CoreExport}
use Rattle.pc_dfg.specs.declared.dfg.ComponentDfg.{ComponentDfg}
use Rattle.pc_dfg.specs.Grows.{Grows}
use Rattle.pc_dfg.specs.Numbers.{SignedTrampoline}
use Rattle.pc_dfg.specs.Ordered.{IsOrdered}
use Rattle.pc_dfg.specs.Pushed.{IsPut}
use Rattle.pc_dfg.proofs.GrowLemmas.{grows_refl, grows_trans}
use Rattle.pc_adapt_define.specs.Adds.{Adds}

-- one entry at most is more
few : {A : Type 0} (xs ys : List A) (x : A) → IsPut xs ys x → length ys ≤ length xs + 1
few xs ys x put = elim put.0 as (λ _. length ys ≤ length xs + 1) [
  | inl same ↦ (let as_long : length ys ≡ length xs = ap length same in omega (arith, as_long))
  | inr more ↦ (let longer : length ys ≡ length (xs ++ x ∷ []) = ap length more in
      omega (arith, longer, length-append xs (x ∷ [])))
]

-- a graph as it was
pub adds_none : (g : ComponentDfg) → Adds 0 0 0 0 g g
adds_none g = record {
  grows = grows_refl g;
  ordered = λ o. o;
  rest = refl;
  few_memories = omega arith;
  few_callbacks = omega arith;
  few_post_returns = omega arith;
  few_trampolines = omega arith;
}

-- where fewer are added
pub adds_more : (a b c d k l m n : ℕ) (g h : ComponentDfg) → a ≤ k → b ≤ l → c ≤ m → d ≤ n → Adds a b c d g h
    → Adds k l m n g h
adds_more a b c d k l m n g h p q r s adds = record {
  grows = adds.grows;
  ordered = adds.ordered;
  rest = adds.rest;
  few_memories = omega (arith, adds.few_memories, p);
  few_callbacks = omega (arith, adds.few_callbacks, q);
  few_post_returns = omega (arith, adds.few_post_returns, r);
  few_trampolines = omega (arith, adds.few_trampolines, s);
}

-- where entries are added twice
pub adds_twice : (a b c d k l m n : ℕ) (g h i : ComponentDfg) → Adds a b c d g h → Adds k l m n h i
    → Adds (a + k) (b + l) (c + m) (d + n) g i
adds_twice a b c d k l m n g h i first second = record {
  grows = grows_trans g h i first.grows second.grows;
  ordered = λ o. second.ordered (first.ordered o);
  rest = second.rest ∙ (λ j. record (first.rest j) {
    memories = i.memories;
    callbacks = i.callbacks;
    post_returns = i.post_returns;
    trampolines = i.trampolines;
  });
  few_memories = omega (arith, first.few_memories, second.few_memories);
  few_callbacks = omega (arith, first.few_callbacks, second.few_callbacks);
  few_post_returns = omega (arith, first.few_post_returns, second.few_post_returns);
  few_trampolines = omega (arith, first.few_trampolines, second.few_trampolines);
}

module _ (g h : ComponentDfg) (grows : Grows g h) (ordered : IsOrdered g → IsOrdered h) where
  -- the four lists of the second graph beside all else of the first one
  beside : (k : ComponentDfg) → h ≡ k
      → h ≡ record k {
        memories = h.memories;
        callbacks = h.callbacks;
        post_returns = h.post_returns;
        trampolines = h.trampolines;
      }
  beside k is = λ j. record (is j) {
    memories = h.memories;
    callbacks = h.callbacks;
    post_returns = h.post_returns;
    trampolines = h.trampolines;
  }

  -- one memory
  pub adds_memory : (x : CoreExport MemoryIndex) → h ≡ record g { memories = h.memories }
      → IsPut g.memories h.memories x → Adds 1 0 0 0 g h
  adds_memory x rest put =
      let callbacks = ap (λ (k : ComponentDfg). length k.callbacks) rest in
      let post_returns = ap (λ (k : ComponentDfg). length k.post_returns) rest in
      let trampolines = ap (λ (k : ComponentDfg). length k.trampolines) rest in
      record {
        grows = grows;
        ordered = ordered;
        rest = beside (record g { memories = h.memories }) rest;
        few_memories = few g.memories h.memories x put;
        few_callbacks = omega (arith, callbacks);
        few_post_returns = omega (arith, post_returns);
        few_trampolines = omega (arith, trampolines);
      }

  -- one callback
  pub adds_callback : (x : CoreDef) → h ≡ record g { callbacks = h.callbacks }
      → IsPut g.callbacks h.callbacks x → Adds 0 1 0 0 g h
  adds_callback x rest put =
      let memories = ap (λ (k : ComponentDfg). length k.memories) rest in
      let post_returns = ap (λ (k : ComponentDfg). length k.post_returns) rest in
      let trampolines = ap (λ (k : ComponentDfg). length k.trampolines) rest in
      record {
        grows = grows;
        ordered = ordered;
        rest = beside (record g { callbacks = h.callbacks }) rest;
        few_memories = omega (arith, memories);
        few_callbacks = few g.callbacks h.callbacks x put;
        few_post_returns = omega (arith, post_returns);
        few_trampolines = omega (arith, trampolines);
      }

  -- one post-return function
  pub adds_post_return : (x : CoreDef) → h ≡ record g { post_returns = h.post_returns }
      → IsPut g.post_returns h.post_returns x → Adds 0 0 1 0 g h
  adds_post_return x rest put =
      let memories = ap (λ (k : ComponentDfg). length k.memories) rest in
      let callbacks = ap (λ (k : ComponentDfg). length k.callbacks) rest in
      let trampolines = ap (λ (k : ComponentDfg). length k.trampolines) rest in
      record {
        grows = grows;
        ordered = ordered;
        rest = beside (record g { post_returns = h.post_returns }) rest;
        few_memories = omega (arith, memories);
        few_callbacks = omega (arith, callbacks);
        few_post_returns = few g.post_returns h.post_returns x put;
        few_trampolines = omega (arith, trampolines);
      }

  -- one trampoline
  pub adds_trampoline : (x : SignedTrampoline) → h ≡ record g { trampolines = h.trampolines }
      → IsPut g.trampolines h.trampolines x → Adds 0 0 0 1 g h
  adds_trampoline x rest put =
      let memories = ap (λ (k : ComponentDfg). length k.memories) rest in
      let callbacks = ap (λ (k : ComponentDfg). length k.callbacks) rest in
      let post_returns = ap (λ (k : ComponentDfg). length k.post_returns) rest in
      record {
        grows = grows;
        ordered = ordered;
        rest = beside (record g { trampolines = h.trampolines }) rest;
        few_memories = omega (arith, memories);
        few_callbacks = omega (arith, callbacks);
        few_post_returns = omega (arith, post_returns);
        few_trampolines = few g.trampolines h.trampolines x put;
      }
