-- Of some paths those that are the first to their numbers.
use Rattle.std.proofs.Common.{◌≡◌, ◌⊎◌, ℕ, Bool, true, false, List, [], ◌∷◌, ◌++◌, length, refl, sym, ap}
use Rattle.std.proofs.Common.{◌∙◌, subst, arith, if◌then◌else◌, ◌==◌, ◌||◌, inl, inr, true≢false}
use Rattle.std.specs.Prelude.{map}
use Rattle.std.specs.Cmp.{nat_eq_equiv}
use Rattle.std.specs.List.{fold, list_any}
use Rattle.std.proofs.lemmas.Bool.{eq-eqb, eqb-true}
use Rattle.std.proofs.lemmas.List.{append_assoc, append-nil}
use Rattle.pc_spec_reading.specs.Once.{each_once, with_once}
use Rattle.pc_spec_reading.specs.Resource.{ResourcePath, same_number, under}
use Rattle.pc_types_walk.specs.Steps.{Ends, below, fresh, with_number}

-- no number at all
abbrev pub none : ℕ → Bool
none n = false

-- one of two holds
pub or_left : (a b : Bool) → a ≡ true → (a || b) ≡ true
or_left true b h = refl
or_left false b h = absurd (true≢false (sym h))

-- the other of two holds
pub or_right : (a b : Bool) → b ≡ true → (a || b) ≡ true
or_right true b h = refl
or_right false b h = h

-- either holds
pub or_either : (a b : Bool) → (a || b) ≡ true → (a ≡ true) ⊎ (b ≡ true)
or_either true b h = inl refl
or_either false b h = inr h

-- the order in which they are asked doesn't matter
or_swap : (a b c : Bool) → (a || (b || c)) ≡ (b || (a || c))
or_swap true true c = refl
or_swap true false c = refl
or_swap false b c = refl

-- which numbers are met alike
pub fresh_same : (f g : ℕ → Bool) → ((n : ℕ) → f n ≡ g n) → (ps : List ResourcePath) → fresh f ps ≡ fresh g ps
fresh_same f g same [] = refl
fresh_same f g same (p ∷ ps) =
    let here = same p.number in
    let over = fresh_same f g same ps in
    let rest = fresh_same (with_number p.number f) (with_number p.number g)
    (λ n. ap (λ b. (p.number == n) || b) (same n)) ps in
    λ i. if here i then over i else p ∷ rest i

-- whether a number stands at the end of one of these
abbrev among : List ResourcePath → ℕ → Bool
among ps n = list_any (λ (p : ResourcePath). n == p.number) ps

-- the same with one more at the end
among_more : (xs : List ResourcePath) (p : ResourcePath) (n : ℕ)
    → with_number p.number (among xs) n ≡ among (xs ++ p ∷ []) n
among_more [] p n = ap (λ b. b || false) (nat_eq_equiv.symm p.number n)
among_more (x ∷ xs) p n =
    or_swap (p.number == n) (n == x.number) (among xs n) ∙ ap (λ b. (n == x.number) || b) (among_more xs p n)

-- each once, behind some that stand already
once_from : (xs ps : List ResourcePath) → fold (with_once same_number) xs ps ≡ xs ++ fresh (among xs) ps
once_from xs [] = sym (append-nil xs)
once_from xs (p ∷ ps) =
    by (among xs p.number) (once_from xs ps)
    (once_from (xs ++ p ∷ []) ps ∙ append_assoc xs (p ∷ []) (fresh (among (xs ++ p ∷ [])) ps)
    ∙ ap (λ l. xs ++ p ∷ l)
    (sym (fresh_same (with_number p.number (among xs)) (among (xs ++ p ∷ [])) (among_more xs p) ps)))
  where
    by : (b : Bool) → fold (with_once same_number) xs ps ≡ xs ++ fresh (among xs) ps
        → fold (with_once same_number) (xs ++ p ∷ []) ps ≡ xs ++ p ∷ fresh (with_number p.number (among xs)) ps
        → fold (with_once same_number) (if b then xs else xs ++ p ∷ []) ps
        ≡ xs ++ (if b then fresh (among xs) ps else p ∷ fresh (with_number p.number (among xs)) ps)
    by true over more = over
    by false over more = more

-- each once is what is fresh where nothing is met
pub once_fresh : (ps : List ResourcePath) → each_once same_number ps ≡ fresh none ps
once_fresh ps = once_from [] ps

-- where nothing stands once, nothing stands
pub once_empty : (ps : List ResourcePath) → each_once same_number ps ≡ [] → ps ≡ []
once_empty [] h = refl
once_empty (p ∷ ps) h = absurd (omega (arith, ap length (sym (once_fresh (p ∷ ps)) ∙ h)))

-- what is fresh further out
fresh_below : (met : ℕ → Bool) (prefix : List (List ℕ)) (ps : List ResourcePath)
    → fresh met (map (below prefix) ps) ≡ map (below prefix) (fresh met ps)
fresh_below met prefix [] = refl
fresh_below met prefix (p ∷ ps) =
    by (met p.number) (fresh_below met prefix ps) (fresh_below (with_number p.number met) prefix ps)
  where
    by : (b : Bool) → fresh met (map (below prefix) ps) ≡ map (below prefix) (fresh met ps)
        → fresh (with_number p.number met) (map (below prefix) ps)
        ≡ map (below prefix) (fresh (with_number p.number met) ps)
        → (if b then fresh met (map (below prefix) ps)
        else below prefix p ∷ fresh (with_number p.number met) (map (below prefix) ps))
        ≡ map (below prefix) (if b then fresh met ps else p ∷ fresh (with_number p.number met) ps)
    by true over rest = over
    by false over rest = ap (λ l. below prefix p ∷ l) rest

-- paths in front may be thinned out first, by numbers that are met in any case
thinned : (seen met : ℕ → Bool) → ((n : ℕ) → seen n ≡ true → met n ≡ true) → (ps qs : List ResourcePath)
    → fresh met (ps ++ qs) ≡ fresh met (fresh seen ps ++ qs)
thinned seen met sub [] qs = refl
thinned seen met sub (p ∷ ps) qs =
    by (λ s m within. thinned s m within ps qs) (seen p.number) (met p.number) refl refl
  where
    by : ((s m : ℕ → Bool) → ((n : ℕ) → s n ≡ true → m n ≡ true) → fresh m (ps ++ qs) ≡ fresh m (fresh s ps ++ qs))
        → (s m : Bool) → seen p.number ≡ s → met p.number ≡ m
        → (if m then fresh met (ps ++ qs) else p ∷ fresh (with_number p.number met) (ps ++ qs))
        ≡ fresh met ((if s then fresh seen ps else p ∷ fresh (with_number p.number seen) ps) ++ qs)
    by more true true was is = more seen met sub
    by more true false was is = absurd (true≢false (sym (sub p.number was) ∙ is))
    by more false true was is =
        more (with_number p.number seen) met
        (λ n h. elim (or_either (p.number == n) (seen n) h) as (λ _. met n ≡ true) [
          | inl same ↦ subst (λ k. met k ≡ true) (eqb-true p.number n same) is
          | inr other ↦ sub n other
        ])
        ∙ ap (λ b. if b then fresh met (fresh (with_number p.number seen) ps ++ qs)
        else p ∷ fresh (with_number p.number met) (fresh (with_number p.number seen) ps ++ qs)) (sym is)
    by more false false was is =
        ap (λ l. p ∷ l)
        (more (with_number p.number seen) (with_number p.number met)
        (λ n h. elim (or_either (p.number == n) (seen n) h) as (λ _. with_number p.number met n ≡ true) [
          | inl same ↦ or_left (p.number == n) (met n) same
          | inr other ↦ or_right (p.number == n) (met n) (sub n other)
        ]))
        ∙ ap (λ b. if b then fresh met (fresh (with_number p.number seen) ps ++ qs)
        else p ∷ fresh (with_number p.number met) (fresh (with_number p.number seen) ps ++ qs)) (sym is)

-- further out and in front, paths may be those that stand once
thinned_once : (met : ℕ → Bool) (prefix : List (List ℕ)) (ps qs : List ResourcePath)
    → fresh met (map (below prefix) ps ++ qs) ≡ fresh met (map (below prefix) (each_once same_number ps) ++ qs)
thinned_once met prefix ps qs =
    thinned none met (λ n h. absurd (true≢false (sym h))) (map (below prefix) ps) qs
    ∙ ap (λ l. fresh met (l ++ qs)) (fresh_below none prefix ps ∙ ap (map (below prefix)) (sym (once_fresh ps)))

-- so paths that are the same, each once, may stand for one another
pub fresh_alike : (ps qs : List ResourcePath) → each_once same_number ps ≡ each_once same_number qs
    → (met : ℕ → Bool) (prefix : List (List ℕ)) (rest : List ResourcePath)
    → fresh met (map (below prefix) ps ++ rest) ≡ fresh met (map (below prefix) qs ++ rest)
fresh_alike ps qs same met prefix rest =
    thinned_once met prefix ps rest ∙ ap (λ l. fresh met (map (below prefix) l ++ rest)) same
    ∙ sym (thinned_once met prefix qs rest)

-- a number that isn't met stands at an end of what is fresh
ends_to : (met : ℕ → Bool) (n : ℕ) → met n ≡ false → (ps : List ResourcePath) → Ends n ps → Ends n (fresh met ps)
ends_to met n new [] h = h
ends_to met n new (p ∷ ps) h = by (λ m unmet. ends_to m n unmet ps) (met p.number) refl
  where
    -- of those behind, unless it is the same number
    later : ((m : ℕ → Bool) → m n ≡ false → Ends n ps → Ends n (fresh m ps)) → (b : Bool) → (p.number == n) ≡ b
        → Ends n ps → (n ≡ p.number) ⊎ Ends n (fresh (with_number p.number met) ps)
    later more true same e = inl (sym (eqb-true p.number n same))
    later more false differs e = inr (more (with_number p.number met) (ap (λ b. b || met n) differs ∙ new) e)

    by : ((m : ℕ → Bool) → m n ≡ false → Ends n ps → Ends n (fresh m ps)) → (b : Bool) → met p.number ≡ b
        → Ends n (if b then fresh met ps else p ∷ fresh (with_number p.number met) ps)
    by more true is = elim h as (λ _. Ends n (fresh met ps)) [
      | inl same ↦ absurd (true≢false (sym is ∙ ap met (sym same) ∙ new))
      | inr e ↦ more met new e
    ]
    by more false is = elim h as (λ _. (n ≡ p.number) ⊎ Ends n (fresh (with_number p.number met) ps)) [
      | inl same ↦ inl same
      | inr e ↦ later more (p.number == n) refl e
    ]

-- and what stands at an end of what is fresh stands at an end
ends_from : (met : ℕ → Bool) (n : ℕ) (ps : List ResourcePath) → Ends n (fresh met ps) → Ends n ps
ends_from met n [] h = h
ends_from met n (p ∷ ps) h =
    by (met p.number) (ends_from met n ps) (ends_from (with_number p.number met) n ps) h
  where
    by : (b : Bool) → (Ends n (fresh met ps) → Ends n ps)
        → (Ends n (fresh (with_number p.number met) ps) → Ends n ps)
        → Ends n (if b then fresh met ps else p ∷ fresh (with_number p.number met) ps) → Ends n (p ∷ ps)
    by true over rest e = inr (over e)
    by false over rest e = elim e as (λ _. Ends n (p ∷ ps)) [
      | inl same ↦ inl same
      | inr later ↦ inr (rest later)
    ]

-- paths that are the same, each once, have the same ends
pub ends_alike : (ps qs : List ResourcePath) → each_once same_number ps ≡ each_once same_number qs → (n : ℕ)
    → Ends n ps → Ends n qs
ends_alike ps qs same n h =
    ends_from none n qs
    (subst (Ends n) (sym (once_fresh ps) ∙ same ∙ once_fresh qs) (ends_to none n refl ps h))

-- an end under a name is one without it
pub ends_under : (n : ℕ) (name : List ℕ) (ps : List ResourcePath) → Ends n (map (under name) ps) → Ends n ps
ends_under n name [] h = h
ends_under n name (p ∷ ps) h = elim h as (λ _. Ends n (p ∷ ps)) [
  | inl here ↦ inl here
  | inr later ↦ inr (ends_under n name ps later)
]

-- and the other way round
pub under_ends : (n : ℕ) (name : List ℕ) (ps : List ResourcePath) → Ends n ps → Ends n (map (under name) ps)
under_ends n name [] h = h
under_ends n name (p ∷ ps) h = elim h as (λ _. Ends n (map (under name) (p ∷ ps))) [
  | inl here ↦ inl here
  | inr later ↦ inr (under_ends n name ps later)
]

-- an end under names is one without them
pub ends_below : (n : ℕ) (prefix : List (List ℕ)) (ps : List ResourcePath) → Ends n (map (below prefix) ps) → Ends n ps
ends_below n prefix [] h = h
ends_below n prefix (p ∷ ps) h = elim h as (λ _. Ends n (p ∷ ps)) [
  | inl here ↦ inl here
  | inr later ↦ inr (ends_below n prefix ps later)
]

-- an end of two lists is one of either
pub ends_split : (n : ℕ) (ps qs : List ResourcePath) → Ends n (ps ++ qs) → Ends n ps ⊎ Ends n qs
ends_split n [] qs h = inr h
ends_split n (p ∷ ps) qs h = elim h as (λ _. Ends n (p ∷ ps) ⊎ Ends n qs) [
  | inl here ↦ inl (inl here)
  | inr later ↦ elim (ends_split n ps qs later) as (λ _. Ends n (p ∷ ps) ⊎ Ends n qs) [
    | inl left ↦ inl (inr left)
    | inr right ↦ inr right
  ]
]

-- each number at the end of these is met
abbrev pub AllMet : (ℕ → Bool) → List ResourcePath → Type 0
AllMet met ps = (n : ℕ) → Ends n ps → met n ≡ true

-- paths whose ends are met are passed over
pub pass_over : (met : ℕ → Bool) (ps qs : List ResourcePath) → AllMet met ps → fresh met (ps ++ qs) ≡ fresh met qs
pass_over met [] qs all = refl
pass_over met (p ∷ ps) qs all =
    ap (λ b. if b then fresh met (ps ++ qs) else p ∷ fresh (with_number p.number met) (ps ++ qs))
    (all p.number (inl refl))
    ∙ pass_over met ps qs (λ n e. all n (inr e))

-- behind the same paths, where the ends of these are met
pub fresh_after : (met : ℕ → Bool) (ps qs rs : List ResourcePath)
    → ((met' : ℕ → Bool) → ((n : ℕ) → met n ≡ true → met' n ≡ true) → AllMet met' ps → fresh met' qs ≡ fresh met' rs)
    → fresh met (ps ++ qs) ≡ fresh met (ps ++ rs)
fresh_after met [] qs rs same = same met (λ n h. h) (λ n e. absurd e)
fresh_after met (p ∷ ps) qs rs same = by (λ m behind. fresh_after m ps qs rs behind) (met p.number) refl
  where
    by : ((m : ℕ → Bool)
        → ((met' : ℕ → Bool) → ((n : ℕ) → m n ≡ true → met' n ≡ true) → AllMet met' ps → fresh met' qs ≡ fresh met' rs)
        → fresh m (ps ++ qs) ≡ fresh m (ps ++ rs))
        → (b : Bool) → met p.number ≡ b
        → (if b then fresh met (ps ++ qs) else p ∷ fresh (with_number p.number met) (ps ++ qs))
        ≡ (if b then fresh met (ps ++ rs) else p ∷ fresh (with_number p.number met) (ps ++ rs))
    by more true is =
        more met (λ met' wider all. same met' wider
        (λ n e. elim e as (λ _. met' n ≡ true) [
          | inl here ↦ subst (λ k. met' k ≡ true) (sym here) (wider p.number is)
          | inr later ↦ all n later
        ]))
    by more false is =
        ap (λ l. p ∷ l)
        (more (with_number p.number met) (λ met' wider all. same met'
        (λ n h. wider n (or_right (p.number == n) (met n) h))
        (λ n e. elim e as (λ _. met' n ≡ true) [
          | inl here ↦ wider n (or_left (p.number == n) (met n) (eq-eqb p.number n (sym here)))
          | inr later ↦ all n later
        ])))
