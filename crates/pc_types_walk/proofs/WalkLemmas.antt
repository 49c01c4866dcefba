-- A walk that enters each entry once meets what all paths lead to.
use Rattle.std.proofs.Common.{◌≡◌, ◌⊎◌, ◌<◌, ℕ, Bool, true, List, [], ◌∷◌, ◌++◌, refl, sym, ap, ◌∙◌, subst, arith}
use Rattle.std.proofs.Common.{if◌then◌else◌, ◌==◌, ◌||◌, inl, inr, false}
use Rattle.std.specs.Prelude.{map}
use Rattle.std.specs.List.{flat_map}
use Rattle.std.proofs.lemmas.Bool.{eq-eqb, eqb-true}
use Rattle.std.proofs.lemmas.List.{append_assoc, map-append}
use Rattle.pc_spec_reading.specs.Once.{each_once}
use Rattle.pc_spec_reading.specs.Resource.{ResourcePath, same_number, under}
use Rattle.pc_types_walk.specs.Leads.{Part, a_resource, an_instance, export_paths}
use Rattle.pc_types_walk.specs.Steps.{AllAbove, Ends, Owed, Stands, Walked, ahead, below, fresh, with_number}
use Rattle.pc_types_walk.proofs.FreshLemmas.{AllMet, ends_alike, ends_below, ends_split, ends_under, fresh_alike}
use Rattle.pc_types_walk.proofs.FreshLemmas.{or_either, or_right, pass_over}

-- an entry with some exports left
abbrev pub at : (entry : ℕ) → (prefix : List (List ℕ)) → List (List ℕ × Part) → Walked
at e prefix xs = record { entry = e; prefix = prefix; left = xs }

-- a path under a name and then under names before it
below_under : (prefix : List (List ℕ)) (name : List ℕ) (ps : List ResourcePath)
    → map (below prefix) (map (under name) ps) ≡ map (below (prefix ++ name ∷ [])) ps
below_under prefix name [] = refl
below_under prefix name (p ∷ ps) =
    let names : prefix ++ (name ∷ p.names) ≡ (prefix ++ name ∷ []) ++ p.names =
    sym (append_assoc prefix (name ∷ []) p.names) in
    let rest = below_under prefix name ps in
    λ i. record { names = names i; number = p.number } ∷ rest i

module _ (paths : ℕ → List ResourcePath) where
  -- nothing is owed to an entry below all that is walked
  none_owed : (fs : List Walked) (k n : ℕ) → AllAbove k fs → Owed paths fs k n → ⊥
  none_owed [] k n above h = h
  none_owed (f ∷ fs) k n above h = elim h as (λ _. ⊥) [
    | inl here ↦ omega (arith, here.0, above.0)
    | inr later ↦ none_owed fs k n above.1 later
  ]

  -- what is above is above what is lower
  lower_above : (j e : ℕ) (fs : List Walked) → j < e → AllAbove e fs → AllAbove j fs
  lower_above j e [] less h = tt
  lower_above j e (f ∷ fs) less h = (omega (arith, less, h.0), lower_above j e fs less h.1)

  -- which numbers are met and entries entered alike
  pub stands_same : (met met' visited visited' : ℕ → Bool) → ((n : ℕ) → met' n ≡ met n)
      → ((n : ℕ) → visited' n ≡ visited n) → (fs : List Walked)
      → Stands paths met visited fs → Stands paths met' visited' fs
  stands_same met met' visited visited' same entered fs stands = record {
    owed = λ k v n ends.
        elim (stands.owed k (sym (entered k) ∙ v) n ends) as (λ _. (met' n ≡ true) ⊎ Owed paths fs k n) [
          | inl is ↦ inl (same n ∙ is)
          | inr owes ↦ inr owes
        ];
    falls = stands.falls;
  }

  module _ (met visited : ℕ → Bool) (e : ℕ) (prefix : List (List ℕ)) (x : List ℕ × Part) (xs : List (List ℕ × Part))
      (fs : List Walked) (stands : Stands paths met visited (at e prefix (x ∷ xs) ∷ fs)) where
    -- an export whose ends are met, now or by what is met then, is passed
    passed : (met' : ℕ → Bool) → ((n : ℕ) → met n ≡ true → met' n ≡ true) → AllMet met' (export_paths paths x)
        → Stands paths met' visited (at e prefix xs ∷ fs)
    passed met' more all = record {
      owed = λ k v n ends.
          elim (stands.owed k v n ends) as (λ _. (met' n ≡ true) ⊎ Owed paths (at e prefix xs ∷ fs) k n) [
            | inl is ↦ inl (more n is)
            | inr owes ↦ elim owes as (λ _. (met' n ≡ true) ⊎ Owed paths (at e prefix xs ∷ fs) k n) [
              | inl here ↦ elim (ends_split n (export_paths paths x) (flat_map (export_paths paths) xs) here.1)
                  as (λ _. (met' n ≡ true) ⊎ Owed paths (at e prefix xs ∷ fs) k n) [
                    | inl first ↦ inl (all n first)
                    | inr rest ↦ inr (inl (here.0, rest))
                  ]
              | inr later ↦ inr (inr later)
            ]
          ];
      falls = stands.falls;
    }

    -- what is ahead begins with the paths of the export
    ahead_first : ahead paths (at e prefix (x ∷ xs) ∷ fs)
        ≡ map (below prefix) (export_paths paths x) ++ ahead paths (at e prefix xs ∷ fs)
    ahead_first =
        ap (λ l. l ++ ahead paths fs)
        (map-append (below prefix) (export_paths paths x) (flat_map (export_paths paths) xs))
        ∙ append_assoc (map (below prefix) (export_paths paths x))
        (map (below prefix) (flat_map (export_paths paths) xs)) (ahead paths fs)

    -- an export whose ends are met is passed over
    pub over : AllMet met (export_paths paths x) → Stands paths met visited (at e prefix xs ∷ fs)
        × (fresh met (ahead paths (at e prefix (x ∷ xs) ∷ fs)) ≡ fresh met (ahead paths (at e prefix xs ∷ fs)))
    over all = (
      passed met (λ n h. h) all,
      ap (fresh met) ahead_first
          ∙ pass_over met (map (below prefix) (export_paths paths x)) (ahead paths (at e prefix xs ∷ fs))
          (λ n ends. all n (ends_below n prefix (export_paths paths x) ends)),
    )

  -- all ends of an entry that was entered before and isn't walked are met
  pub visited_met : (met visited : ℕ → Bool) (e j : ℕ) (prefix : List (List ℕ)) (name : List ℕ)
      (xs : List (List ℕ × Part)) (fs : List Walked) → j < e → visited j ≡ true
      → Stands paths met visited (at e prefix xs ∷ fs) → AllMet met (map (under name) (paths j))
  visited_met met visited e j prefix name xs fs less was stands n ends =
      elim (stands.owed j was n (ends_under n name (paths j) ends)) as (λ _. met n ≡ true) [
        | inl is ↦ is
        | inr owes ↦ absurd
            (none_owed (at e prefix xs ∷ fs) j n (less, lower_above j e fs less stands.falls.0) owes)
      ]

  -- one that wasn't entered is: nothing is lost
  pub entered : (met visited : ℕ → Bool) (e j : ℕ) (prefix : List (List ℕ)) (name : List ℕ)
      (xs ys : List (List ℕ × Part)) (fs : List Walked) → j < e
      → each_once same_number (paths j) ≡ each_once same_number (flat_map (export_paths paths) ys)
      → Stands paths met visited (at e prefix ((name, an_instance j) ∷ xs) ∷ fs)
      → Stands paths met (with_number j visited) (at j (prefix ++ name ∷ []) ys ∷ at e prefix xs ∷ fs)
      × (fresh met (ahead paths (at e prefix ((name, an_instance j) ∷ xs) ∷ fs))
      ≡ fresh met (ahead paths (at j (prefix ++ name ∷ []) ys ∷ at e prefix xs ∷ fs)))
  entered met visited e j prefix name xs ys fs less same stands =
      let inner : List Walked = at j (prefix ++ name ∷ []) ys ∷ at e prefix xs ∷ fs in (
        record {
          owed = λ k v n ends. elim (or_either (j == k) (visited k) v) as (λ _. (met n ≡ true) ⊎ Owed paths inner k n) [
            | inl here ↦ (
                let is : j ≡ k = eqb-true j k here in
                inr (inl (
                  omega (arith, is),
                  ends_alike (paths j) (flat_map (export_paths paths) ys) same n
                      (subst (λ i. Ends n (paths i)) (sym is) ends),
                )))
            | inr was ↦ elim (stands.owed k was n ends) as (λ _. (met n ≡ true) ⊎ Owed paths inner k n) [
              | inl is ↦ inl is
              | inr owes ↦ elim owes as (λ _. (met n ≡ true) ⊎ Owed paths inner k n) [
                | inl here ↦ elim (ends_split n (map (under name) (paths j)) (flat_map (export_paths paths) xs) here.1)
                    as (λ _. (met n ≡ true) ⊎ Owed paths inner k n) [
                      | inl first ↦ inr (inl (
                        omega (arith, less, here.0),
                        ends_alike (paths j) (flat_map (export_paths paths) ys) same n
                            (ends_under n name (paths j) first),
                      ))
                      | inr rest ↦ inr (inr (inl (here.0, rest)))
                    ]
                | inr later ↦ inr (inr (inr later))
              ]
            ]
          ];
          falls = ((less, lower_above j e fs less stands.falls.0), stands.falls);
        },
        ap (fresh met) (ahead_first met visited e prefix (name, an_instance j) xs fs stands)
            ∙ ap (λ l. fresh met (l ++ ahead paths (at e prefix xs ∷ fs))) (below_under prefix name (paths j))
            ∙ fresh_alike (paths j) (flat_map (export_paths paths) ys) same met (prefix ++ name ∷ [])
            (ahead paths (at e prefix xs ∷ fs)),
      )

  -- a resource that isn't met yet is answered, and met from then on
  pub answered : (met visited : ℕ → Bool) (e m : ℕ) (prefix : List (List ℕ)) (name : List ℕ)
      (xs : List (List ℕ × Part)) (fs : List Walked) → met m ≡ false
      → Stands paths met visited (at e prefix ((name, a_resource m) ∷ xs) ∷ fs)
      → Stands paths (with_number m met) visited (at e prefix xs ∷ fs)
      × (fresh met (ahead paths (at e prefix ((name, a_resource m) ∷ xs) ∷ fs))
      ≡ record { names = prefix ++ name ∷ []; number = m }
      ∷ fresh (with_number m met) (ahead paths (at e prefix xs ∷ fs)))
  answered met visited e m prefix name xs fs new stands = (
    passed met visited e prefix (name, a_resource m) xs fs stands (with_number m met)
        (λ n is. or_right (m == n) (met n) is)
        (λ n ends. elim ends as (λ _. with_number m met n ≡ true) [
          | inl same ↦ ap (λ b. b || met n) (eq-eqb m n (sym same))
          | inr none ↦ absurd none
        ]),
    ap (λ b. if b then fresh met (ahead paths (at e prefix xs ∷ fs))
        else record { names = prefix ++ name ∷ []; number = m }
        ∷ fresh (with_number m met) (ahead paths (at e prefix xs ∷ fs))) new,
  )

  -- an entry is left when nothing is left in it
  pub finished : (met visited : ℕ → Bool) (e : ℕ) (prefix : List (List ℕ)) (fs : List Walked)
      → Stands paths met visited (at e prefix [] ∷ fs) → Stands paths met visited fs
  finished met visited e prefix fs stands = record {
    owed = λ k v n ends. elim (stands.owed k v n ends) as (λ _. (met n ≡ true) ⊎ Owed paths fs k n) [
      | inl is ↦ inl is
      | inr owes ↦ elim owes as (λ _. (met n ≡ true) ⊎ Owed paths fs k n) [
        | inl here ↦ absurd here.1
        | inr later ↦ inr later
      ]
    ];
    falls = stands.falls.1;
  }
