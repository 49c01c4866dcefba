-- Why the lists in which the edges were noted are the evaporation.
use Rattle.std.proofs.Common.{◌≡◌, ◌⊎◌, ℕ, zero, suc, ◌≤◌, Some, List, [], ◌∷◌, ◌++◌, slice_get, refl, sym, ◌∙◌, ap}
use Rattle.std.proofs.Common.{subst, inl, inr, arith, ◌+◌, ◌<◌, length, get_or, map, replicate, take}
use Rattle.std.specs.List.{Contains}
use Rattle.std.proofs.lemmas.List.{length-replicate, map-append, take_more}
use Rattle.std.proofs.lemmas.List.Elements.{Contains-append_left, Contains-append_right, Contains-append_cases}
use Rattle.pc_graph.specs.Classes.{flat}
use Rattle.pc_graph.specs.Digraph.{Digraph}
use Rattle.pc_graph.proofs.MemberLemmas.{contains_cases, contains_first, contains_got, contains_later, contains_none}
use Rattle.pc_graph.proofs.PartLemmas.{contains_flat, flat-push, distinct_apart, in_some_list}
use Rattle.std.specs.List.Sorted.{IsStrictlyIncreasing}
use Rattle.std.proofs.lemmas.Bool.Decides.{eqb_tells}
use Rattle.std.proofs.lemmas.Option.{slice_get_within}
use Rattle.pc_entity.specs.Lists.{AreDistinct}
use Rattle.pc_graph.specs.Evaporation.{IsClosed, IsEvaporation, LeadsInto}
use Rattle.pc_graph.specs.Noting.{AreNumbers, noted, noted_all, targets}
use Rattle.pc_graph.specs.declared.scc.Scc.{Scc}
use Rattle.pc_graph.proofs.NotedLemmas.{Notes, note_all_more, noted_all-append, notes_same}

module _ {Node : Type 0} (number_of : Node → ℕ) where
  -- the edge to one node more is noted
  pub noted_next : (from : ℕ) (old rows later : List (List Scc)) (nodes : List Node) (k : ℕ) (n : Node)
      → k < length nodes → n ≡ get_or nodes k n
      → rows ≡ noted_all from old (map number_of (take k nodes)) → later ≡ noted from rows (number_of n)
      → later ≡ noted_all from old (map number_of (take (k + 1) nodes))
  noted_next from old rows later nodes k n within is so_far new =
      new ∙ ap (λ rs. noted from rs (number_of n)) so_far
      ∙ sym (noted_all-append from old (map number_of (take k nodes)) (number_of n ∷ []))
      ∙ ap (λ ks. noted_all from old ks) (sym (map-append number_of (take k nodes) (n ∷ [])))
      ∙ ap (λ m. noted_all from old (map number_of (take k nodes ++ m ∷ []))) is
      ∙ ap (λ ns. noted_all from old (map number_of ns)) (sym (take_more nodes k n within))

  -- what the edges of one node more lead to
  targets_more : (d : Digraph Node) (nodes : List Node) (k : ℕ) (n : Node) → k < length nodes → n ≡ get_or nodes k n
      → targets number_of d (take (k + 1) nodes) ≡ targets number_of d (take k nodes) ++ map number_of (d.successors n)
  targets_more d nodes k n within is =
      let all = λ (m : Node). map number_of (d.successors m) in
      ap (λ ns. targets number_of d ns) (take_more nodes k n within ∙ ap (λ m. take k nodes ++ m ∷ []) (sym is))
      ∙ ap flat (map-append all (take k nodes) (n ∷ []))
      ∙ flat-push (map all (take k nodes)) (all n)

  -- the edges of one node more are noted
  pub noted_successors : (d : Digraph Node) (from : ℕ) (old rows later : List (List Scc)) (nodes : List Node) (k : ℕ)
      (n : Node) (successors : List Node)
      → k < length nodes → n ≡ get_or nodes k n → successors ≡ d.successors n
      → rows ≡ noted_all from old (targets number_of d (take k nodes))
      → later ≡ noted_all from rows (map number_of successors)
      → later ≡ noted_all from old (targets number_of d (take (k + 1) nodes))
  noted_successors d from old rows later nodes k n successors within is successors_are so_far new =
      new ∙ ap (λ rs. noted_all from rs (map number_of successors)) so_far
      ∙ ap (λ ns. noted_all from (noted_all from old (targets number_of d (take k nodes)))
      (map number_of ns)) successors_are
      ∙ sym (noted_all-append from old (targets number_of d (take k nodes)) (map number_of (d.successors n)))
      ∙ ap (λ ks. noted_all from old ks) (sym (targets_more d nodes k n within is))

  -- a node's number is among the numbers
  contains_map : (nodes : List Node) (n : Node) → Contains nodes n → Contains (map number_of nodes) (number_of n)
  contains_map [] n there = absurd (contains_none n there)
  contains_map (m ∷ ns) n there = elim (contains_cases ns m n there) [
    | inl one ↦ subst (λ k. Contains (number_of m ∷ map number_of ns) (number_of k)) (sym one)
        (contains_first (map number_of ns) (number_of m))
    | inr more ↦ contains_later (map number_of ns) (number_of m) (number_of n) (contains_map ns n more)
  ]

  -- each of the numbers is one of a node
  contains_from_map : (nodes : List Node) (k : ℕ) → Contains (map number_of nodes) k → (n : Node) × Contains nodes n
      × (number_of n ≡ k)
  contains_from_map [] k there = absurd (contains_none k there)
  contains_from_map (m ∷ ns) k there = elim (contains_cases (map number_of ns) (number_of m) k there) [
    | inl one ↦ (m, contains_first ns m, sym one)
    | inr more ↦ (let (n, later, is) = contains_from_map ns k more in (n, contains_later ns m n later, is))
  ]

  -- an edge leads to a target
  pub target_of : (d : Digraph Node) (nodes : List Node) (a b : Node) → Contains nodes a → Contains (d.successors a) b
      → Contains (targets number_of d nodes) (number_of b)
  target_of d [] a b from edge = absurd (contains_none a from)
  target_of d (n ∷ ns) a b from edge = elim (contains_cases ns n a from) [
    | inl one ↦ Contains-append_left (map number_of (d.successors n)) (targets number_of d ns) (number_of b)
        (contains_map (d.successors n) b (subst (λ m. Contains (d.successors m) b) one edge))
    | inr more ↦ Contains-append_right (map number_of (d.successors n)) (targets number_of d ns) (number_of b)
        (target_of d ns a b more edge)
  ]

  -- each target is one that an edge leads to
  pub edge_to : (d : Digraph Node) (nodes : List Node) (k : ℕ) → Contains (targets number_of d nodes) k
      → (a b : Node) × Contains nodes a × Contains (d.successors a) b × (number_of b ≡ k)
  edge_to d [] k there = absurd (contains_none k there)
  edge_to d (n ∷ ns) k there =
      elim (Contains-append_cases (map number_of (d.successors n)) (targets number_of d ns) k there) [
        | inl here ↦
            (let (b, edge, is) = contains_from_map (d.successors n) k here in (n, b, contains_first ns n, edge, is))
        | inr more ↦ (let (a, b, from, edge, is) = edge_to d ns k more in (a, b, contains_later ns n a from, edge, is))
      ]

  -- the pairs of classes from the first of which, before one number, an edge leads to the second
  abbrev pub Done : Digraph Node → List (List Node) → ℕ → ℕ → ℕ → Type 0
  Done d classes k j i = (j < k) × (from : List Node) × (slice_get classes j ≡ Some from)
      × Contains (targets number_of d from) i

  -- before the first class no edge is noted
  pub notes_none : (d : Digraph Node) (classes : List (List Node))
      → Notes (length classes) (Done d classes 0) (replicate (length classes) [])
  notes_none d classes = record {
    size = length-replicate {A = List Scc} (length classes) [];
    exact = λ i list j is. (
      (λ there. absurd (contains_none j (subst (λ l. Contains l j) (none (length classes) i list is) there))),
      (λ holds. (let below = holds.1.0 in absurd (omega arith))),
    );
    ascending = λ i list is. subst (λ l. IsStrictlyIncreasing (map (λ j. j.0) l))
        (sym (none (length classes) i list is)) (λ k within. absurd (omega arith));
  }
    where
      none : (n i : ℕ) (list : List Scc) → slice_get (replicate n []) i ≡ Some list → list ≡ []
      none zero i list is = cc
      none (suc n) zero list is = cc
      none (suc n) (suc i) list is = none n i list is

  -- the edges of one class more are noted
  pub notes_more : (d : Digraph Node) (classes : List (List Node)) (k : ℕ) (from : List Node)
      (rows later : List (List Scc))
      → slice_get classes k ≡ Some from → ((i : ℕ) → Contains (targets number_of d from) i → i < length classes)
      → later ≡ noted_all k rows (targets number_of d from)
      → Notes (length classes) (Done d classes k) rows → Notes (length classes) (Done d classes (k + 1)) later
  notes_more d classes k from rows later is within new h =
      let found = targets number_of d from in
      let With : ℕ → ℕ → Type 0 = λ j i. Done d classes k j i ⊎ ((j ≡ k) × Contains found i) in
      subst (λ rs. Notes (length classes) (Done d classes (k + 1)) rs) (sym new)
      (notes_same (length classes) With (Done d classes (k + 1)) (noted_all k rows found)
      (λ j i. (
        (λ p. elim p [
          | inl old ↦ (let below = old.0 in (omega arith, old.1, old.2, old.3))
          | inr one ↦ (let same = one.0 in (omega arith, from, ap (λ m. slice_get classes m) same ∙ is, one.1))
        ]),
        (λ p. elim (eqb_tells j k) [
          | inl same ↦
              inr (
                same.1,
                subst (λ ns. Contains (targets number_of d ns) i)
                    (some_same p.1 from (sym p.2 ∙ ap (λ m. slice_get classes m) same.1 ∙ is)) p.3,
              )
          | inr apart ↦ (let below = p.0 in let differ = apart.1 in inl (omega arith, p.1, p.2, p.3))
        ]),
      ))
      (note_all_more k found rows (length classes) (Done d classes k)
      (λ j i p. let below = p.0 in omega arith) within h))
    where
      some_same : (x y : List Node) → Some x ≡ Some y → x ≡ y
      some_same x y e = cc

  module _ (d : Digraph Node) (classes : List (List Node)) (are : AreNumbers number_of classes) where
    -- an edge from a class leads into one of the classes
    pub leads_into : IsClosed d (flat classes) → (j i : ℕ) (from : List Node) → slice_get classes j ≡ Some from
        → Contains (targets number_of d from) i
        → LeadsInto d classes j i
    leads_into closed j i from is there =
        let (a, b, stands, edge, number) = edge_to d from i there in
        let (k, into, at, in_it) = in_some_list classes b
        (closed a b (contains_flat classes from a (contains_got classes j from is) stands) edge) in
        let same : k ≡ i = sym (are k into b at in_it) ∙ number in
        (from, into, a, b, is, ap (λ m. slice_get classes m) (sym same) ∙ at, stands, edge, in_it)

    -- so the number is one of a class
    pub leads_within : IsClosed d (flat classes) → (j i : ℕ) (from : List Node) → slice_get classes j ≡ Some from
        → Contains (targets number_of d from) i
        → i < length classes
    leads_within closed j i from is there =
        let (from', into, a, b, from_is, into_is, stands, edge, in_it) = leads_into closed j i from is there in
        slice_get_within classes i into into_is

    -- once all edges are noted, the lists are the evaporation
    pub evaporated : (rows : List (List Scc)) (k : ℕ) → IsClosed d (flat classes) → length classes ≤ k
        → Notes (length classes) (Done d classes k) rows
        → IsEvaporation d classes rows
    evaporated rows k closed all h = record {
      size = h.size;
      exact = λ i list j is. (
        (λ there. (let holds = (h.exact i list j is).0 there in
            (holds.0, leads_into closed j.0 i holds.1.1 holds.1.2 holds.1.3))),
        (λ holds. (
            let (from, into, a, b, from_is, into_is, stands, edge, in_it) = holds.1 in
            let within = slice_get_within classes j.0 from from_is in
            (h.exact i list j is).1 (
              holds.0,
              (
                omega arith,
                from,
                from_is,
                subst (λ m. Contains (targets number_of d from) m) (are i into b into_is in_it)
                    (target_of d from a b stands edge),
              ),
            )
            )),
      );
      ascending = h.ascending;
    }

-- one empty list more
pub replicate_more : {X : Type 0} (k : ℕ) (x : X) → replicate k x ++ x ∷ [] ≡ replicate (k + 1) x
replicate_more zero x = refl
replicate_more (suc k) x =
    let e : suc (k + 1) ≡ suc k + 1 = omega arith in
    ap (λ ys. x ∷ ys) (replicate_more k x) ∙ ap (λ n. replicate n x) e

-- each node of a class before a place has the number of the class
abbrev pub AreNumbersTo : {Node : Type 0} → (Node → ℕ) → List (List Node) → ℕ → Type 0
AreNumbersTo {Node} number_of classes k =
    (i : ℕ) (class : List Node) (n : Node) → i < k → slice_get classes i ≡ Some class → Contains class n
    → number_of n ≡ i

module _ {Node : Type 0} (number_of later_of : Node → ℕ) where
  -- one class more has its number
  pub numbers_next : (classes : List (List Node)) (k : ℕ) (class : List Node) → AreDistinct (flat classes)
      → slice_get classes k ≡ Some class
      → ((n : Node) → Contains class n → later_of n ≡ k)
      → ((n : Node) → ¬ (Contains class n) → later_of n ≡ number_of n)
      → AreNumbersTo number_of classes k → AreNumbersTo later_of classes (k + 1)
  numbers_next classes k class distinct is put others h i other n below found there = elim (eqb_tells i k) [
    | inl same ↦
        put n (subst (λ ns. Contains ns n)
        (some_same other class (sym found ∙ ap (λ m. slice_get classes m) same.1 ∙ is)) there) ∙ sym same.1
    | inr apart ↦
        let differ = apart.1 in
        let before : i < k = omega arith in
        others n (λ in_it. distinct_apart classes i k other class n distinct before found is there in_it)
        ∙ h i other n before found there
  ]
    where
      some_same : (x y : List Node) → Some x ≡ Some y → x ≡ y
      some_same x y e = cc
