-- Look-ups in maps that hold the first value of each name.
use Rattle.std.proofs.Common.{◌≡◌, ℕ, Bool, true, false, List, [], ◌∷◌, ◌++◌, Option, Some, None, if◌then◌else◌, refl}
use Rattle.std.proofs.Common.{sym, ap, ◌∙◌, subst, true≢false}
use Rattle.std.specs.Prelude.{is_some}
use Rattle.std.specs.Str.{bytes_eq}
use Rattle.std.proofs.lemmas.Slice.Eq.{bytes_eq-Decides}
use Rattle.pc_entity.specs.FirstValues.{with_first}
use Rattle.pc_entity.specs.Lists.{value_of}
use Rattle.pc_entity.proofs.Naming.{value_of-append_held, value_of-append_absent}

-- two lists of named values answer each look-up alike
abbrev pub FindsAs : {V : Type 0} → List (List ℕ × V) → List (List ℕ × V) → Type 0
FindsAs found es = (name : List ℕ) → value_of name found ≡ value_of name es

module _ {V : Type 0} where
  -- an entry under a name that is there changes no look-up
  met_again : (found es : List (List ℕ × V)) (e : List ℕ × V) → FindsAs found es → is_some (value_of e.0 found) ≡ true
      → FindsAs found (es ++ e ∷ [])
  met_again found es e h met name = by (value_of name es) refl
    where
      other : (b : Bool) → bytes_eq name e.0 ≡ b → value_of name es ≡ None → (if b then Some e.1 else None) ≡ None
      other false m k = refl
      other true m k =
          let same : name ≡ e.0 = (bytes_eq-Decides name e.0).0 m in
          let none : value_of e.0 found ≡ None = h e.0 ∙ subst (λ (n : List ℕ). value_of n es ≡ None) same k in
          absurd (true≢false (sym met ∙ ap is_some none))

      by : (o : Option V) → value_of name es ≡ o → value_of name found ≡ value_of name (es ++ e ∷ [])
      by (Some v) k = h name ∙ k ∙ sym (value_of-append_held name es (e ∷ []) v k)
      by None k = h name ∙ k ∙ sym (other (bytes_eq name e.0) refl k) ∙ sym (value_of-append_absent name es (e ∷ []) k)

  -- an entry that goes to the end of both lists is found in both
  met_first : (found es : List (List ℕ × V)) (e : List ℕ × V) → FindsAs found es
      → FindsAs (found ++ e ∷ []) (es ++ e ∷ [])
  met_first found es e h name = by (value_of name es) refl
    where
      by : (o : Option V) → value_of name es ≡ o → value_of name (found ++ e ∷ []) ≡ value_of name (es ++ e ∷ [])
      by (Some v) k =
          value_of-append_held name found (e ∷ []) v (h name ∙ k) ∙ sym (value_of-append_held name es (e ∷ []) v k)
      by None k =
          value_of-append_absent name found (e ∷ []) (h name ∙ k) ∙ sym (value_of-append_absent name es (e ∷ []) k)

  -- a map into which an entry went goes on answering as the list of all entries
  pub found_next : (found es : List (List ℕ × V)) (e : List ℕ × V) → FindsAs found es
      → FindsAs (with_first found e) (es ++ e ∷ [])
  found_next found es e h = by (is_some (value_of e.0 found)) refl
    where
      by : (b : Bool) → is_some (value_of e.0 found) ≡ b → FindsAs (if b then found else found ++ e ∷ []) (es ++ e ∷ [])
      by true met = met_again found es e h met
      by false met = met_first found es e h
