-- What component instances export goes on naming what was made before them, as the tables grow.
use Rattle.std.proofs.Common.{◌≡◌, ◌<◌, ℕ, List, [], ◌∷◌, ◌++◌, length, None, Some, sym, ap, subst, ◌∙◌}
use Rattle.std.proofs.Common.{inl, inr, arith}
use Rattle.std.specs.Prelude.{Contains}
use Rattle.std.proofs.lemmas.List.{length-append}
use Rattle.std.proofs.lemmas.Option.{none-some, same_Some}
use Rattle.pc_entity.specs.declared.string_pool.Atom.{Atom}
use Rattle.pc_dfg.proofs.AddLemmas.{get_appended}
use Rattle.pc_inline_state.specs.declared.definition.Definition.{Definition}
use Rattle.pc_inline_state.specs.declared.definition.ExportsId.{ExportsId}
use Rattle.pc_inline_state.specs.declared.state.Member.{Member}
use Rattle.pc_inline_state.specs.Definitions.{exports_of}
use Rattle.pc_inline_state.specs.Members.{AreEarlier, IsInstanceOf}

-- a definition that is no instance exports what one of the lists says, if it is an instance
pub no_instance : (n : ℕ) (d : Definition) → exports_of d ≡ None → (k : ExportsId) → exports_of d ≡ Some k → k.0 < n
no_instance n d none k is = absurd (none-some k (sym none ∙ is))

-- and so does one that exports what this one says
pub an_instance : (n : ℕ) (d : Definition) (j : ExportsId) → exports_of d ≡ Some j → j.0 < n → (k : ExportsId)
    → exports_of d ≡ Some k → k.0 < n
an_instance n d j here below k is = subst (λ (x : ExportsId). x.0 < n) (same_Some j k (sym here ∙ is)) below

-- a place in a list is one in a longer list
longer : {A : Type 0} (xs : List A) (x : A) (n : ℕ) → n < length xs → n < length (xs ++ x ∷ [])
longer xs x n below = rw (length-append xs (x ∷ [])) (omega (arith, below))

-- nothing was made yet
pub none_earlier : AreEarlier [] []
none_earlier = record {
  there = λ n k is. absurd (none-some is.0 is.1);
  held = λ k es e at among. absurd (none-some es at);
  earlier = λ k es e j at among is. absurd (none-some es at);
}

module _ (ds : List Definition) (lists : List (List (Atom × Member))) (are : AreEarlier ds lists) where
  -- an instance among the definitions that were there is one of them
  before : (d : Definition) (n : ℕ) (j : ExportsId) → n < length ds → IsInstanceOf (ds ++ d ∷ []) n j
      → IsInstanceOf ds n j
  before d n j below is = elim (get_appended ds d n is.0 is.1) as (λ _. IsInstanceOf ds n j) [
    | inl old ↦ (is.0, old, is.2)
    | inr here ↦ let same = here.0 in absurd (omega (arith, below, same))
  ]

  -- one more definition, which exports what one of the lists says, if it is an instance
  pub definition_earlier : (d : Definition) → ((k : ExportsId) → exports_of d ≡ Some k → k.0 < length lists)
      → AreEarlier (ds ++ d ∷ []) lists
  definition_earlier d new = record {
    there = λ n k is. elim (get_appended ds d n is.0 is.1) as (λ _. k.0 < length lists) [
      | inl old ↦ are.there n k (is.0, old, is.2)
      | inr here ↦ new k (ap exports_of here.1 ∙ is.2)
    ];
    held = λ k es e at among. longer ds d e.1.item.0 (are.held k es e at among);
    earlier = λ k es e j at among is.
        are.earlier k es e j at among (before d e.1.item.0 j (are.held k es e at among) is);
  }

  -- one more list of members, which are definitions that are there
  pub members_earlier : (es : List (Atom × Member))
      → ((e : Atom × Member) → Contains es e → e.1.item.0 < length ds) → AreEarlier ds (lists ++ es ∷ [])
  members_earlier es held = record {
    there = λ n k is. longer lists es k.0 (are.there n k is);
    held = λ k xs e at among. elim (get_appended lists es k xs at) as (λ _. e.1.item.0 < length ds) [
      | inl old ↦ are.held k xs e old among
      | inr here ↦ held e (subst (λ l. Contains l e) (sym here.1) among)
    ];
    earlier = λ k xs e j at among is. elim (get_appended lists es k xs at) as (λ _. j.0 < k) [
      | inl old ↦ are.earlier k xs e j old among is
      | inr here ↦ subst (λ m. j.0 < m) here.0 (are.there e.1.item.0 j is)
    ];
  }
