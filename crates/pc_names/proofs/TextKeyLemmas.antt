-- Entries under keys do what the entries under the keys' texts do.
use Rattle.std.proofs.Common.{◌≡◌, ℕ, zero, suc, Bool, true, false, cond, if◌then◌else◌, List, [], ◌∷◌, ◌++◌, length}
use Rattle.std.proofs.Common.{Some, None, refl, sym, ap, ◌∙◌, inl, inr, ◌↔◌}
use Rattle.std.specs.Str.{bytes_eq}
use Rattle.std.proofs.lemmas.Bool.{cases_Bool, false≢true}
use Rattle.std.proofs.lemmas.Slice.Eq.{bytes_eq-Decides}
use Rattle.std.specs.Bool.{IsTrue}
use Rattle.std.specs.Cmp.{both_ways}
use Rattle.std.specs.List.{slice_get}
use Rattle.std.specs.Map.{keys_of, lookup}
use Rattle.std.specs.Option.{option_map}
use Rattle.indexmap.specs.IndexMap.{insert_entry}
use Rattle.pc_names.proofs.TextLemmas.{cond_same, cond_swap}
use Rattle.pc_names.specs.Definitions.{place_by, place_in, with_value}
use Rattle.pc_names.specs.Stands.{AreKeyed}

-- keys are equal exactly where their texts are
pub record KeysAgree {K : Type 0} (has_key : List ℕ → K → Type 0) (eq : K → K → Bool) : Type 0 where
  pub at : (t u : List ℕ) (k l : K) → has_key t k → has_key u l → eq k l ≡ bytes_eq t u

-- an interner's keys do so
pub keys_agree : {K : Type 0} (has_key : List ℕ → K → Type 0) (eq : K → K → Bool)
    → ((t u : List ℕ) (k l : K) → has_key t k → has_key u l → IsTrue (eq k l) ↔ (t ≡ u)) → KeysAgree has_key eq
keys_agree has_key eq same = record {
  at = λ t u k l p q.
      let law = same t u k l p q in
      let texts = bytes_eq-Decides t u in
      both_ways (eq k l) (bytes_eq t u) (λ e. texts.1 (law.0 e)) (λ e. law.1 (texts.0 e));
}

-- keys that are kept still stand for their texts
pub AreKeyed-kept : {K X : Type 0} (before after : List ℕ → K → Type 0)
    → ((t : List ℕ) (k : K) → before t k → after t k)
    → (es : List (K × X)) (ns : List (List ℕ × X)) → AreKeyed before es ns → AreKeyed after es ns
AreKeyed-kept before after kept [] [] h = h
AreKeyed-kept before after kept [] (n ∷ ns) h = absurd h
AreKeyed-kept before after kept (e ∷ es) [] h = absurd h
AreKeyed-kept before after kept (e ∷ es) (n ∷ ns) h = (
  (kept n.0 e.0 h.0.0, h.0.1),
  AreKeyed-kept before after kept
      es ns h.1,
)

module _ {K : Type 0} (has_key : List ℕ → K → Type 0) where
  -- a text without a key is none of those
  pub lookup-no_key : {X : Type 0} (t : List ℕ) → ((k : K) → ¬ has_key t k)
      → (es : List (K × X)) (ns : List (List ℕ × X)) → AreKeyed has_key es ns
      → lookup (bytes_eq t) ns ≡ None
  lookup-no_key t none [] [] h = refl
  lookup-no_key t none [] (n ∷ ns) h = absurd h
  lookup-no_key t none (e ∷ es) [] h = absurd h
  lookup-no_key t none (e ∷ es) (n ∷ ns) h = elim (cases_Bool (bytes_eq t n.0)) [
    | inl here ↦ absurd (none e.0 (rw (← (bytes_eq-Decides t n.0).0 here) at h.0.0))
    | inr other ↦ rw other (lookup-no_key t none es ns h.1)
  ]

  -- there are as many of both
  pub AreKeyed-length : {X : Type 0} (es : List (K × X)) (ns : List (List ℕ × X)) → AreKeyed has_key es ns
      → length es ≡ length ns
  AreKeyed-length [] [] h = refl
  AreKeyed-length [] (n ∷ ns) h = absurd h
  AreKeyed-length (e ∷ es) [] h = absurd h
  AreKeyed-length (e ∷ es) (n ∷ ns) h = ap suc (AreKeyed-length es ns h.1)

  -- one more of both
  pub AreKeyed-push : {X : Type 0} (es : List (K × X)) (ns : List (List ℕ × X)) (k : K) (t : List ℕ) (x : X)
      → AreKeyed has_key es ns → has_key t k
      → AreKeyed has_key (es ++ (k, x) ∷ []) (ns ++ (t, x) ∷ [])
  AreKeyed-push [] [] k t x h p = ((p, refl), tt)
  AreKeyed-push [] (n ∷ ns) k t x h p = absurd h
  AreKeyed-push (e ∷ es) [] k t x h p = absurd h
  AreKeyed-push (e ∷ es) (n ∷ ns) k t x h p = (h.0, AreKeyed-push es ns k t x h.1 p)

  -- another value in both
  pub AreKeyed-with_value : {X : Type 0} (es : List (K × X)) (ns : List (List ℕ × X)) (p : ℕ) (x : X)
      → AreKeyed has_key es ns
      → AreKeyed has_key (with_value es p x) (with_value ns p x)
  AreKeyed-with_value [] [] p x h = h
  AreKeyed-with_value [] (n ∷ ns) p x h = absurd h
  AreKeyed-with_value (e ∷ es) [] p x h = absurd h
  AreKeyed-with_value (e ∷ es) (n ∷ ns) zero x h = ((h.0.0, refl), h.1)
  AreKeyed-with_value (e ∷ es) (n ∷ ns) (suc p) x h = (h.0, AreKeyed-with_value es ns p x h.1)

  -- the value at a place is that of the text there
  pub value-keyed : {X : Type 0} (es : List (K × X)) (ns : List (List ℕ × X)) (p : ℕ) → AreKeyed has_key es ns
      → option_map (λ e. e.1) (slice_get es p) ≡ option_map (λ n. n.1) (slice_get ns p)
  value-keyed [] [] p h = refl
  value-keyed [] (n ∷ ns) p h = absurd h
  value-keyed (e ∷ es) [] p h = absurd h
  value-keyed (e ∷ es) (n ∷ ns) zero h = ap Some h.0.1
  value-keyed (e ∷ es) (n ∷ ns) (suc p) h = value-keyed es ns p h.1

module _ {K : Type 0} {has_key : List ℕ → K → Type 0} {eq : K → K → Bool} (agree : KeysAgree has_key eq) where
  -- a look-up by a key is one by its text
  pub lookup-keyed : {X : Type 0} (t : List ℕ) (k : K) → has_key t k → (es : List (K × X)) (ns : List (List ℕ × X))
      → AreKeyed has_key es ns
      → lookup (eq k) es ≡ lookup (bytes_eq t) ns
  lookup-keyed t k p [] [] h = refl
  lookup-keyed t k p [] (n ∷ ns) h = absurd h
  lookup-keyed t k p (e ∷ es) [] h = absurd h
  lookup-keyed t k p (e ∷ es) (n ∷ ns) h = rw (agree.at t n.0 k e.0 p h.0.0, h.0.1, lookup-keyed t k p es ns h.1) refl

  -- the place of a key is that of its text
  pub place-keyed : {X : Type 0} (t : List ℕ) (k : K) → has_key t k → (es : List (K × X)) (ns : List (List ℕ × X))
      → AreKeyed has_key es ns
      → place_in eq es k ≡ place_by (bytes_eq t) (keys_of ns)
  place-keyed t k p [] [] h = refl
  place-keyed t k p [] (n ∷ ns) h = absurd h
  place-keyed t k p (e ∷ es) [] h = absurd h
  place-keyed t k p (e ∷ es) (n ∷ ns) h = rw (agree.at t n.0 k e.0 p h.0.0, place-keyed t k p es ns h.1) refl

  -- an entry more is one more under its text
  pub insert-keyed : {X : Type 0} (t : List ℕ) (k : K) (x : X) → has_key t k
      → (es : List (K × X)) (ns : List (List ℕ × X)) → AreKeyed has_key es ns
      → (ms : List (List ℕ × X)) × AreKeyed has_key (insert_entry eq es k x) ms
      × ((u : List ℕ) → lookup (bytes_eq u) ms ≡ cond (bytes_eq u t) (Some x) (lookup (bytes_eq u) ns))
  insert-keyed t k x p [] [] h = ((t, x) ∷ [], ((p, refl), tt), λ u. refl)
  insert-keyed t k x p [] (n ∷ ns) h = absurd h
  insert-keyed t k x p (e ∷ es) [] h = absurd h
  insert-keyed {X} t k x p (e ∷ es) (n ∷ ns) h = go (eq k e.0) refl (insert-keyed t k x p es ns h.1) where
    same_text : eq k e.0 ≡ bytes_eq t n.0
    same_text = agree.at t n.0 k e.0 p h.0.0

    Inserts : List (K × X) → List (List ℕ × X) → Type 0
    Inserts after before = (ms : List (List ℕ × X)) × AreKeyed has_key after
        ms × ((u : List ℕ) → lookup (bytes_eq u) ms ≡ cond (bytes_eq u t) (Some x) (lookup (bytes_eq u) before))

    go : (b : Bool) → eq k e.0 ≡ b → Inserts (insert_entry eq es k x) ns
        → Inserts (if b then (e.0, x) ∷ es else e ∷ insert_entry eq es k x) (n ∷ ns)
    go true equal rest =
        let text : t ≡ n.0 = (bytes_eq-Decides t n.0).0 (sym same_text ∙ equal) in (
          (n.0, x) ∷ ns,
          ((h.0.0, refl), h.1),
          λ u. rw text
              (cond_same (bytes_eq u n.0) (Some x) (Some n.1) (lookup (bytes_eq u) ns)),
        )
    go false other rest =
        let apart : bytes_eq t n.0 ≡ false = sym same_text ∙ other in (
          n ∷ rest.0,
          (h.0, rest.1),
          λ u. rw (rest.2 u) (cond_swap (bytes_eq u n.0) (bytes_eq u t) (Some n.1) (Some x) (lookup (bytes_eq u) ns)
              (λ a b. false≢true (sym apart ∙ (bytes_eq-Decides t n.0).1
              (sym ((bytes_eq-Decides u t).0 b) ∙ (bytes_eq-Decides u n.0).0 a)))),
        )
