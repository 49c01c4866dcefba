-- Places that are marked, kept and numbered anew.
use Rattle.std.proofs.Common.{◌≡◌, ◌<◌, ◌≤◌, ◌+◌, ◌⊎◌, inl, inr, ℕ, zero, suc, Bool, true, false, List, [], ◌∷◌, ◌++◌}
use Rattle.std.proofs.Common.{length, map, take, get_or, refl, sym, ap, subst, ◌∙◌, Some, arith, true≢false}
use Rattle.std.specs.Prelude.{slice_get, slice_set}
use Rattle.std.specs.List.{AllZip}
use Rattle.std.proofs.lemmas.Bool.Decides.{eqb_tells}
use Rattle.std.proofs.lemmas.List.{length_push, map_more}
use Rattle.std.proofs.lemmas.Option.{get_or_from_slice_get, none-some, same_Some, slice_get_within}
use Rattle.pc_entity.proofs.Growing.{slice_get-append, slice_get-append_seam, slice_get-set_other, slice_get-set_same}
use Rattle.pc_entity.proofs.LookupLemmas.{found_at}
use Rattle.pc_types.specs.declared.parsed.Entity.{Entity}
use Rattle.pc_types.specs.declared.parsed.TypeTable.{TypeTable}
use Rattle.pc_types_walk.specs.declared.walk.Found.{Found}
use Rattle.pc_types_walk.specs.declared.walk.Place.{Place}
use Rattle.pc_types_walk.specs.Walks.{AreNamed, IsFound, export_at}
use Rattle.pc_spec_reading.specs.Resource.{ResourcePath}
use Rattle.pc_inline_imports.specs.Brings.{AllBelow}
use Rattle.pc_inline_imports.specs.Trims.{AreBehind, AreMarked, FoundMarked, IsMoved, KeepsMarked, KeepsPlace}
use Rattle.pc_inline_imports.specs.Trims.{MarksParent, ParentsMarked, Trims, moved_by, with_parent}
use Rattle.pc_inline_imports.proofs.GiveLemmas.{push_cases}

-- what is marked stays so
still_marked : (marks : List Bool) (i j : ℕ) → j < length marks → slice_get marks i ≡ Some true
    → slice_get (slice_set marks j true) i ≡ Some true
still_marked marks i j below at = elim (eqb_tells i j) as (λ _. slice_get (slice_set marks j true) i ≡ Some true) [
  | inl same ↦ ap (slice_get (slice_set marks j true)) same.1 ∙ slice_get-set_same marks j true below
  | inr apart ↦ slice_get-set_other marks j i true apart.1 ∙ at
]

set_length : (marks : List Bool) (j : ℕ) → length (slice_set marks j true) ≡ length marks
set_length [] j = refl
set_length (x ∷ xs) zero = refl
set_length (x ∷ xs) (suc j) = ap suc (set_length xs j)

-- none so far
pub found_none : (found : List Found) (marks : List Bool) → FoundMarked (length marks) found 0 marks
found_none found marks = record { count = refl; found_marked = λ k f below at. absurd (omega (arith, below)) }

-- one more
pub found_next : (size : ℕ) (found : List Found) (n : ℕ) (marks : List Bool) → FoundMarked size found n marks
    → (f : Found) → slice_get found n ≡ Some f → f.place < size
    → FoundMarked size found (n + 1) (slice_set marks f.place true)
found_next size found n marks far f at within_size = record {
  count = set_length marks f.place ∙ far.count;
  found_marked = λ k g within there. elim (eqb_tells k n)
      as (λ _. slice_get (slice_set marks f.place true) g.place ≡ Some true) [
        | inl same ↦ (
            let is : f ≡ g = same_Some f g (sym at ∙ ap (slice_get found) (sym same.1) ∙ there) in
            subst (λ (x : Found). slice_get (slice_set marks f.place true) x.place ≡ Some true) is
            (slice_get-set_same marks f.place true below))
        | inr apart ↦ (
            let other = apart.1 in
            still_marked marks g.place f.place below (far.found_marked k g (omega (arith, within, other)) there))
      ];
}
  where
    below : f.place < length marks
    below = let count = far.count in omega (arith, within_size, count)

-- the place of the next is one of those that may be marked
pub mark_below : (size : ℕ) (found : List Found) (n : ℕ) (marks : List Bool) → FoundMarked size found n marks
    → AllBelow size found → (f : Found) → slice_get found n ≡ Some f → f.place < length marks
mark_below size found n marks far below f at =
    let under = below n f at in
    let count = far.count in
    omega (arith, under, count)

-- and so is the parent of a place
pub parent_below : (places : List Place) (n m : ℕ) (old marks : List Bool) → AreBehind places
    → ParentsMarked places m old marks → (p : Place) → slice_get places n ≡ Some p → p.parent < length marks
parent_below places n m old marks behind far p at =
    let under = behind n p at in
    let within = slice_get_within places n p at in
    let count = far.count in
    omega (arith, under, within, count)

-- those of no place
pub parents_none : (places : List Place) (n : ℕ) → n ≡ length places → (marks : List Bool)
    → length marks ≡ length places + 1 → ParentsMarked places n marks marks
parents_none places n is marks count = record {
  count = count;
  still = λ i at. at;
  parents = λ k p le at marked. let below = slice_get_within places k p at in absurd (omega (arith, le, below, is));
}

-- one more
pub parents_next : (places : List Place) (n : ℕ) (old marks marks' : List Bool) → AreBehind places
    → ParentsMarked places (n + 1) old marks → (p : Place) → slice_get places n ≡ Some p
    → MarksParent (n + 1) p marks marks' → ParentsMarked places n old marks'
parents_next places n old marks marks' behind far p at step = by step
  where
    le : p.parent ≤ n
    le = behind n p at

    below : p.parent < length marks
    below =
        let one = slice_get_within places n p at in
        let two = far.count in
        let three = le in
        omega (arith, one, two, three)

    same_place : (k : ℕ) (q : Place) → k ≡ n → slice_get places k ≡ Some q → p ≡ q
    same_place k q is there = same_Some p q (sym at ∙ ap (slice_get places) (sym is) ∙ there)

    by : MarksParent (n + 1) p marks marks' → ParentsMarked places n old marks'
    by (inr none) = subst (ParentsMarked places n old) (sym none.1) (record {
      count = far.count;
      still = far.still;
      parents = λ k q over there marked. elim (eqb_tells k n) as (λ _. slice_get marks q.parent ≡ Some true) [
        | inl same ↦ absurd (true≢false (same_Some true false (sym marked
            ∙ ap (λ i. slice_get marks (i + 1)) same.1 ∙ none.0)))
        | inr apart ↦ (
            let no = apart.1 in
            far.parents k q (omega (arith, over, no)) there marked)
      ];
    })
    by (inl set) = subst (ParentsMarked places n old) (sym set.1) (record {
      count = set_length marks p.parent ∙ far.count;
      still = λ i was. still_marked marks i p.parent below (far.still i was);
      parents = λ k q over there marked. elim (eqb_tells k n)
          as (λ _. slice_get (slice_set marks p.parent true) q.parent ≡ Some true) [
            | inl same ↦ subst (λ (x : Place). slice_get (slice_set marks p.parent true) x.parent ≡ Some true)
                (same_place k q same.1 there) (slice_get-set_same marks p.parent true below)
            | inr apart ↦ (
                let no = apart.1 in
                let le' = le in
                let other : (k + 1 ≡ p.parent) → ⊥ = λ (is : k + 1 ≡ p.parent). omega (arith, is, over, le') in
                still_marked marks q.parent p.parent below
                (far.parents k q (omega (arith, over, no)) there
                (sym (slice_get-set_other marks p.parent (k + 1) true other) ∙ marked)))
          ];
    })

-- all of them, where the places of resources were marked
pub all_marked : (places : List Place) (found : List Found) (size n : ℕ) (marks new : List Bool)
    → FoundMarked size found n marks → length found ≤ n → ParentsMarked places 0 marks new → AreMarked places found new
all_marked places found size n marks new first all parents = record {
  count = parents.count;
  found_marked = λ k f at.
      let below = slice_get_within found k f at in
      parents.still f.place (first.found_marked k f (omega (arith, all, below)) at);
  parents = λ k p at marked. parents.parents k p (omega arith) at marked;
}

-- so many places were kept or passed over
pub record KeptSoFar (places : List Place) (marks : List Bool) (k : ℕ) (kept : List Place) (numbers : List ℕ)
    : Type 0 where
  pub count : length numbers ≡ k + 1
  pub marked : (t : TypeTable) (found : List Found) (names : List (List (List ℕ))) → AreMarked places found marks
      → AreNamed t places names → KeepsMarked t names marks kept numbers

-- none so far
pub kept_none : (places : List Place) (marks : List Bool) (kept : List Place) → kept ≡ [] → (numbers : List ℕ)
    → numbers ≡ 0 ∷ [] → KeptSoFar places marks 0 kept numbers
kept_none places marks kept none numbers start = record {
  count = ap length start;
  marked = λ t found names marked named. record {
    kept_names = [] ∷ [];
    named = subst (λ ps. AreNamed t ps ([] ∷ [])) (sym none) (record {
      start = refl;
      count = refl;
      further = λ k p at. absurd (none-some p at);
    });
    same = λ k n ns is_marked at there. first k n ns names (ap (λ xs. slice_get xs k) (sym start) ∙ at) named.start there;
  };
}
  where
    first : (k n : ℕ) (ns : List (List ℕ)) (names : List (List (List ℕ))) → slice_get (0 ∷ []) k ≡ Some n
        → slice_get names 0 ≡ Some [] → slice_get names k ≡ Some ns → slice_get ([] ∷ []) n ≡ Some ns
    first zero n ns names at start there =
        let zero_is : 0 ≡ n = same_Some 0 n at in
        let none : [] ≡ ns = same_Some [] ns (sym start ∙ there) in
        ap (slice_get ([] ∷ [])) (sym zero_is) ∙ ap Some none
    first (suc k) n ns names at start there = absurd (none-some n at)

-- one more
pub kept_next : (places : List Place) (marks : List Bool) (k : ℕ) (kept : List Place) (numbers : List ℕ)
    → KeptSoFar places marks k kept numbers → (p : Place) → slice_get places k ≡ Some p → (b : Bool)
    → slice_get marks (k + 1) ≡ Some b → (kept' : List Place) (numbers' : List ℕ)
    → KeepsPlace p b kept numbers kept' numbers' → KeptSoFar places marks (k + 1) kept' numbers'
kept_next places marks k kept numbers far p at false is kept' numbers' step = record {
  count = ap length step.1 ∙ length_push numbers 0 ∙ ap (λ n. n + 1) far.count;
  marked = λ t found names marked named.
      let old = far.marked t found names marked named in
      subst (λ ps. KeepsMarked t names marks ps numbers') (sym step.0) (record {
        kept_names = old.kept_names;
        named = old.named;
        same = λ j n ns is_marked there ns_there. elim (push_cases numbers 0 j n (ap (λ xs. slice_get xs j) (sym step.1)
            ∙ there)) as (λ _. slice_get old.kept_names n ≡ Some ns) [
              | inl before ↦ old.same j n ns is_marked before ns_there
              | inr last ↦ absurd (true≢false (same_Some true false (sym is_marked
                  ∙ ap (slice_get marks) (last.0 ∙ far.count) ∙ is)))
            ];
      });
}
kept_next places marks k kept numbers far p at true is kept' numbers' step = record {
  count = ap length step.1 ∙ length_push numbers (length kept + 1) ∙ ap (λ n. n + 1) far.count;
  marked = λ t found names marked named.
      let old = far.marked t found names marked named in
      let f = named.further k p at in
      let there = found_at numbers p.parent (let le = f.2 in let count = far.count in omega (arith, le, count)) in
      let parent_is : get_or numbers p.parent 0 ≡ there.0 =
      get_or_from_slice_get numbers p.parent there.0 0 there.1 in
      let prefix_there : slice_get old.kept_names (get_or numbers p.parent 0) ≡ Some f.0 =
      ap (slice_get old.kept_names) parent_is
      ∙ old.same p.parent there.0 f.0 (marked.parents k p at is) there.1 f.3 in
      let more = old.kept_names ++ (f.0 ++ f.1.0 ∷ []) ∷ [] in
      subst (λ ps. KeepsMarked t names marks ps numbers') (sym step.0) (record {
        kept_names = more;
        named = record {
          start = slice_get-append old.kept_names ((f.0 ++ f.1.0 ∷ []) ∷ []) 0 [] old.named.start;
          count = length_push old.kept_names (f.0 ++ f.1.0 ∷ []) ∙ ap (λ n. n + 1) old.named.count
              ∙ ap (λ n. n + 1) (sym (length_push kept (with_parent p (get_or numbers p.parent 0))));
          further = λ j q there_q.
              further_more t kept old.kept_names old.named p (get_or numbers p.parent 0) f.0 f.1 prefix_there f.4 j q
              there_q;
        };
        same = λ j n ns is_marked there_n ns_there. elim (push_cases numbers (length kept + 1) j n
            (ap (λ xs. slice_get xs j) (sym step.1) ∙ there_n)) as (λ _. slice_get more n ≡ Some ns) [
              | inl before ↦ slice_get-append old.kept_names ((f.0 ++ f.1.0 ∷ []) ∷ []) n ns
                  (old.same j n ns is_marked before ns_there)
              | inr last ↦ (
                  let number : length old.kept_names ≡ n = old.named.count ∙ last.1 in
                  let here : f.0 ++ f.1.0 ∷ [] ≡ ns = same_Some (f.0 ++ f.1.0 ∷ []) ns (sym f.5
                  ∙ ap (slice_get names) (sym (last.0 ∙ far.count)) ∙ ns_there) in
                  ap (slice_get more) (sym number) ∙ slice_get-append_seam old.kept_names (f.0 ++ f.1.0 ∷ []) []
                  ∙ ap Some here)
            ];
      });
}
  where
    further_more : (t : TypeTable) (kept : List Place) (kept_names : List (List (List ℕ)))
        → AreNamed t kept kept_names → (p : Place) (n : ℕ) (prefix : List (List ℕ)) (x : List ℕ × Entity)
        → slice_get kept_names n ≡ Some prefix → export_at t p.entry p.export ≡ Some x → (j : ℕ) (q : Place)
        → slice_get (kept ++ with_parent p n ∷ []) j ≡ Some q
        → (pre : List (List ℕ)) × (y : List ℕ × Entity) × (q.parent ≤ j)
        × (slice_get (kept_names ++ (prefix ++ x.0 ∷ []) ∷ []) q.parent ≡ Some pre)
        × (export_at t q.entry q.export ≡ Some y)
        × (slice_get (kept_names ++ (prefix ++ x.0 ∷ []) ∷ []) (j + 1) ≡ Some (pre ++ y.0 ∷ []))
    further_more t kept kept_names named p n prefix x prefix_there export j q at = by (push_cases kept (with_parent p n) j
        q at)
      where
        by : (slice_get kept j ≡ Some q) ⊎ ((j ≡ length kept) × (with_parent p n ≡ q))
            → (pre : List (List ℕ)) × (y : List ℕ × Entity) × (q.parent ≤ j)
            × (slice_get (kept_names ++ (prefix ++ x.0 ∷ []) ∷ []) q.parent ≡ Some pre)
            × (export_at t q.entry q.export ≡ Some y)
            × (slice_get (kept_names ++ (prefix ++ x.0 ∷ []) ∷ []) (j + 1) ≡ Some (pre ++ y.0 ∷ []))
        by (inl before) =
            let f = named.further j q before in (
              f.0,
              f.1,
              f.2,
              slice_get-append kept_names ((prefix ++ x.0 ∷ []) ∷ []) q.parent f.0 f.3,
              f.4,
              slice_get-append kept_names ((prefix ++ x.0 ∷ []) ∷ []) (j + 1) (f.0 ++ f.1.0 ∷ []) f.5,
            )
        by (inr last) =
            let below = slice_get_within kept_names n prefix prefix_there in
            let count = named.count in
            let here = last.0 in
            let parent : n ≡ q.parent = ap (λ (r : Place). r.parent) last.1 in (
              prefix,
              x,
              omega (arith, below, count, here, parent),
              ap (slice_get (kept_names ++ (prefix ++ x.0 ∷ []) ∷ [])) (sym parent)
                  ∙ slice_get-append kept_names ((prefix ++ x.0 ∷ []) ∷ []) n prefix prefix_there,
              subst (λ (r : Place). export_at t r.entry r.export ≡ Some x) last.1 export,
              ap (λ i. slice_get (kept_names ++ (prefix ++ x.0 ∷ []) ∷ []) (i + 1)) here
                  ∙ ap (slice_get (kept_names ++ (prefix ++ x.0 ∷ []) ∷ [])) (sym count)
                  ∙ slice_get-append_seam kept_names (prefix ++ x.0 ∷ []) [],
            )

-- the resources at the places that were kept
pub trims : (t : TypeTable) (names : List (List (List ℕ))) (places : List Place) (found : List Found) (marks : List Bool)
    → AreMarked places found marks → (kept : List Place) (numbers : List ℕ) → length numbers ≡ length places + 1
    → AllBelow (length places + 1) found → KeepsMarked t names marks kept numbers → (found' : List Found)
    → found' ≡ map (moved_by numbers) found → Trims t names found kept found'
trims t names places found marks marked kept numbers count below keeps found' is = record {
  names' = keeps.kept_names;
  named = keeps.named;
  moved = subst (AllZip (IsMoved names keeps.kept_names) found) (sym is)
      (each found marked.found_marked below);
}
  where
    each : (fs : List Found) → ((k : ℕ) (f : Found) → slice_get fs k ≡ Some f → slice_get marks f.place ≡ Some true)
        → AllBelow (length places + 1) fs → AllZip (IsMoved names keeps.kept_names) fs (map (moved_by numbers) fs)
    each [] all under = tt
    each (f ∷ fs) all under =
        let there = found_at numbers f.place (let le = under 0 f refl in omega (arith, le, count)) in
        let number : get_or numbers f.place 0 ≡ there.0 = get_or_from_slice_get numbers f.place there.0 0 there.1 in (
          (
            refl,
            λ ns at. ap (slice_get keeps.kept_names) number
                ∙ keeps.same f.place there.0 ns (all 0 f refl) there.1 at,
          ),
          each fs (λ k g at. all (suc k) g at) (λ k g at. under (suc k) g at),
        )

-- one more resource is moved
pub moved_next : (numbers : List ℕ) (found : List Found) (k : ℕ) (f : Found) → k < length found
    → slice_get found k ≡ Some f → (old new : List Found) → new ≡ old ++ moved_by numbers f ∷ []
    → old ≡ map (moved_by numbers) (take k found) → new ≡ map (moved_by numbers) (take (k + 1) found)
moved_next numbers found k f within at old new put far =
    put ∙ ap (λ xs. xs ++ moved_by numbers f ∷ []) far
    ∙ ap (λ x. map (moved_by numbers) (take k found) ++ moved_by numbers x ∷ [])
    (sym (get_or_from_slice_get found k f f at))
    ∙ sym (map_more (moved_by numbers) found k f within)

-- resources that were found are so where they were moved to
pub found_moved : (names names' : List (List (List ℕ))) (found found' : List Found) (ps : List ResourcePath)
    → AllZip (IsMoved names names') found found' → AllZip (IsFound names) found ps → AllZip (IsFound names') found' ps
found_moved names names' [] [] [] moved are = tt
found_moved names names' [] [] (p ∷ ps) moved are = absurd are
found_moved names names' [] (g ∷ gs) ps moved are = absurd moved
found_moved names names' (f ∷ fs) [] ps moved are = absurd moved
found_moved names names' (f ∷ fs) (g ∷ gs) [] moved are = absurd are
found_moved names names' (f ∷ fs) (g ∷ gs) (p ∷ ps) moved are =
    ((moved.0.0 ∙ are.0.0, moved.0.1 p.names are.0.1), found_moved names names' fs gs ps moved.1 are.1)
