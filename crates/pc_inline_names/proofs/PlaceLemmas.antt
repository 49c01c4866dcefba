-- The first place of each number, in a map that is made of them in order.
use Rattle.std.proofs.Common.{◌≡◌, ◌+◌, ℕ, Bool, true, false, List, [], ◌∷◌, ◌++◌, length, Option, Some, None, refl}
use Rattle.std.proofs.Common.{sym, ap, ◌∙◌, subst, arith, if◌then◌else◌, true≢false, Contains}
use Rattle.std.specs.Prelude.{is_some, nat_eq}
use Rattle.std.specs.Cmp.{unsigned_Decides}
use Rattle.std.specs.Str.{bytes_eq}
use Rattle.std.proofs.lemmas.Option.{none-some}
use Rattle.pc_entity.specs.declared.string_pool.Atom.{Atom}
use Rattle.pc_entity.specs.Exact.{same_texts}
use Rattle.pc_entity.specs.Lists.{AreDistinct}
use Rattle.pc_spec_reading.specs.Member.{place_from}
use Rattle.pc_inline_names.specs.Numbers.{AreNumbersOf, IsNumber, numbered_value, with_first_number}
use Rattle.pc_inline_names.specs.Tables.{number_place}
use Rattle.pc_inline_names.proofs.NumberedLemmas.{look_end, look_held, number_alike, place_contains}

-- a number that has a place keeps it when another comes behind
place_held : (i : ℕ) (n : Atom) (ms : List Atom) (m : Atom) (k : ℕ) → number_place i n ms ≡ Some k
    → number_place i n (ms ++ m ∷ []) ≡ Some k
place_held i n [] m k h = absurd (none-some k h)
place_held i n (l ∷ ms) m k h = by (nat_eq n.0 l.0) (place_held (i + 1) n ms m k) h
  where
    by : (b : Bool) → (number_place (i + 1) n ms ≡ Some k → number_place (i + 1) n (ms ++ m ∷ []) ≡ Some k)
        → (if b then Some i else number_place (i + 1) n ms) ≡ Some k
        → (if b then Some i else number_place (i + 1) n (ms ++ m ∷ [])) ≡ Some k
    by true more is = is
    by false more is = more is

-- one that has none has the place of that number, if it is the same
place_absent : (i : ℕ) (n : Atom) (ms : List Atom) (m : Atom) → number_place i n ms ≡ None
    → number_place i n (ms ++ m ∷ []) ≡ (if nat_eq n.0 m.0 then Some (i + length ms) else None)
place_absent i n [] m h = ap (λ k. if nat_eq n.0 m.0 then Some k else None) (omega arith)
place_absent i n (l ∷ ms) m h = by (nat_eq n.0 l.0) (place_absent (i + 1) n ms m) h
  where
    by : (b : Bool)
        → (number_place (i + 1) n ms ≡ None → number_place (i + 1) n (ms ++ m ∷ [])
        ≡ (if nat_eq n.0 m.0 then Some ((i + 1) + length ms) else None))
        → (if b then Some i else number_place (i + 1) n ms) ≡ None
        → (if b then Some i else number_place (i + 1) n (ms ++ m ∷ []))
        ≡ (if nat_eq n.0 m.0 then Some (i + length (l ∷ ms)) else None)
    by true more is = absurd (none-some i (sym is))
    by false more is = more is ∙ ap (λ k. if nat_eq n.0 m.0 then Some k else None) (omega arith)

-- one number more is in the map, unless it is there
pub place_next : (places : List (Atom × ℕ)) (ms : List Atom)
    → ((n : Atom) → numbered_value n places ≡ number_place 0 n ms) → (m n : Atom)
    → numbered_value n (with_first_number places m (length ms)) ≡ number_place 0 n (ms ++ m ∷ [])
place_next places ms h m n = by (is_some (numbered_value m places)) refl (number_place 0 n ms) refl
  where
    -- another number has no place
    other : (b : Bool) → nat_eq n.0 m.0 ≡ b → number_place 0 n ms ≡ None → is_some (numbered_value m places) ≡ true
        → None ≡ (if b then Some (0 + length ms) else None)
    other false differs none held = refl
    other true same none held =
        let is : n.0 ≡ m.0 = (unsigned_Decides n.0 m.0).0 same in
        absurd (true≢false (sym held
        ∙ ap is_some (h m ∙ subst (λ (k : ℕ). number_place 0 (record { 0 = k }) ms ≡ None) is none)))

    by : (b : Bool) → is_some (numbered_value m places) ≡ b → (o : Option ℕ) → number_place 0 n ms ≡ o
        → numbered_value n (if b then places else places ++ (m, length ms) ∷ []) ≡ number_place 0 n (ms ++ m ∷ [])
    by true held (Some k) at = h n ∙ at ∙ sym (place_held 0 n ms m k at)
    by true held None at = h n ∙ at ∙ other (nat_eq n.0 m.0) refl at held ∙ sym (place_absent 0 n ms m at)
    by false new (Some k) at =
        look_held n places ((m, length ms) ∷ []) k (h n ∙ at) ∙ sym (place_held 0 n ms m k at)
    by false new None at =
        let whole : length ms ≡ 0 + length ms = omega arith in
        look_end n places ((m, length ms) ∷ []) (h n ∙ at)
        ∙ ap (λ k. if nat_eq n.0 m.0 then Some k else None) whole ∙ sym (place_absent 0 n ms m at)

-- a name stands where its number does
pub place_alike : (names : List (List ℕ)) (n : Atom) (name : List ℕ) → AreDistinct names → IsNumber names n name
    → (xs : List (List ℕ)) (ns : List Atom) (i : ℕ) → AreNumbersOf names xs ns
    → number_place i n ns ≡ place_from i name xs
place_alike names n name distinct is [] [] i are = refl
place_alike names n name distinct is [] (m ∷ ns) i are = absurd are
place_alike names n name distinct is (x ∷ xs) [] i are = absurd are
place_alike names n name distinct is (x ∷ xs) (m ∷ ns) i are =
    ap (λ b. if b then Some i else number_place (i + 1) n ns) (number_alike names n m name x distinct is are.0)
    ∙ ap (λ o. if bytes_eq name x then Some i else o) (place_alike names n name distinct is xs ns (i + 1) are.1)

-- a name that has no number stands nowhere
pub place_nowhere : (names : List (List ℕ)) (name : List ℕ) → ¬ Contains names name → (xs : List (List ℕ))
    (ns : List Atom) (i : ℕ) → AreNumbersOf names xs ns → place_from i name xs ≡ None
place_nowhere names name absent [] [] i are = refl
place_nowhere names name absent [] (m ∷ ns) i are = absurd are
place_nowhere names name absent (x ∷ xs) [] i are = absurd are
place_nowhere names name absent (x ∷ xs) (m ∷ ns) i are =
    by (bytes_eq name x) refl (place_nowhere names name absent xs ns (i + 1) are.1)
  where
    by : (b : Bool) → bytes_eq name x ≡ b → place_from (i + 1) name xs ≡ None
        → (if b then Some i else place_from (i + 1) name xs) ≡ None
    by true h rest = absurd (absent (place_contains names m.0 name (are.0 ∙ ap Some (sym (same_texts name x h)))))
    by false h rest = rest
