-- What is true of every tour.
use Rattle.std.proofs.Common.{◌≡◌, ◌⊎◌, ◌↔◌, ℕ, Option, None, Some, List, [], ◌∷◌, ◌++◌, slice_get, reverse, refl, sym}
use Rattle.std.proofs.Common.{◌∙◌, ap, subst, inl, inr, append_assoc}
use Rattle.std.specs.List.{Contains}
use Rattle.std.proofs.lemmas.List.{append-nil, reverse-append}
use Rattle.pc_entity.specs.Lists.{AreDistinct}
use Rattle.pc_graph.specs.Digraph.{Digraph, IsReachable, Reaches, here, further}
use Rattle.pc_graph.specs.Laws.{IsRun, IsTheOnlyTour, MeetsByItsEvents, MeetsOnce, TellsWhetherMet, met_in}
use Rattle.pc_graph.specs.Steps.{Remains, met_after, visits_of}
use Rattle.pc_graph.specs.Tour.{IsTour, Tour, back_at, none, again, visit}
use Rattle.pc_graph.specs.declared.dfs.DfsEvent.{DfsEvent}
use Rattle.pc_graph.specs.declared.dfs.DfsEvent.TheVariants.{Pre, AfterEdge, Post}
use Rattle.pc_graph.proofs.MemberLemmas.{contains_cases, contains_first, contains_from_reversed, contains_later}
use Rattle.pc_graph.proofs.MemberLemmas.{contains_none, contains_reversed, distinct_more}
use Rattle.pc_graph.proofs.RemainsLemmas.{remains_stepped, tour_from_roots, tour_keeps}

module _ {Node : Type 0} (d : Digraph Node) where
  -- one way after another
  pub reaches_on : (from mid to : Node) → Reaches d from mid → Reaches d mid to → Reaches d from to
  reaches_on from mid to first here = first
  reaches_on from mid to first (further last _ more edge) = further last to (reaches_on from mid last first more) edge

  -- one edge, and then a way
  pub reaches_edge : (from mid to : Node) → Contains (d.successors from) mid → Reaches d mid to → Reaches d from to
  reaches_edge from mid to edge more = reaches_on from mid to (further from mid here edge) more

  -- the nodes that are toured are met
  pub tour_meets : (from : Option Node) (ns met : List Node) (events : List (DfsEvent Node)) (later : List Node)
      → Tour d from ns met events later → (x : Node) → Contains ns x → Contains later x
  tour_meets from ns met events later (none from' met') x h = absurd (contains_none x h)
  tour_meets from ns met events later (again from' n ns' met' later' events' there rest) x h =
      elim (contains_cases ns' n x h) [
        | inl one ↦ tour_keeps d _ _ _ _ _ rest x (subst (λ y. Contains met y) (sym one) there)
        | inr more ↦ tour_meets _ _ _ _ _ rest x more
      ]
  tour_meets from ns met events later (visit from' n ns' met' inside later' within events' fresh first rest) x h =
      elim (contains_cases ns' n x h) [
        | inl one ↦ tour_keeps d _ _ _ _ _ rest x
            (tour_keeps d _ _ _ _ _ first x (subst (λ y. Contains (n ∷ met) y) (sym one) (contains_first met n)))
        | inr more ↦ tour_meets _ _ _ _ _ rest x more
      ]

  -- what was met before, or can be reached from the nodes that are toured
  pub tour_reaches : (from : Option Node) (ns met : List Node) (events : List (DfsEvent Node)) (later : List Node)
      → Tour d from ns met events later → (x : Node) → Contains later x → Contains met x ⊎ IsReachable d ns x
  tour_reaches from ns met events later (none from' met') x h = inl h
  tour_reaches from ns met events later (again from' n ns' met' later' events' there rest) x h =
      elim (tour_reaches _ _ _ _ _ rest x h) [
        | inl before ↦ inl before
        | inr way ↦ inr (way.0, contains_later ns' n way.0 way.1, way.2)
      ]
  tour_reaches from ns met events later (visit from' n ns' met' inside later' within events' fresh first rest) x h =
      elim (tour_reaches _ _ _ _ _ rest x h) [
        | inl before ↦ elim (tour_reaches _ _ _ _ _ first x before) [
          | inl known ↦ elim (contains_cases met n x known) [
            | inl one ↦ inr (n, contains_first ns' n, subst (λ y. Reaches d n y) (sym one) here)
            | inr old ↦ inl old
          ]
          | inr way ↦
              inr (
                n,
                contains_first ns' n,
                reaches_edge n way.0 x
                    (contains_from_reversed (d.successors n) way.0 way.1) way.2,
              )
        ]
        | inr way ↦ inr (way.0, contains_later ns' n way.0 way.1, way.2)
      ]

  -- what was met before, or has all its successors met
  pub tour_closes : (from : Option Node) (ns met : List Node) (events : List (DfsEvent Node)) (later : List Node)
      → Tour d from ns met events later → (x : Node) → Contains later x
      → Contains met x ⊎ ((y : Node) → Contains (d.successors x) y → Contains later y)
  tour_closes from ns met events later (none from' met') x h = inl h
  tour_closes from ns met events later (again from' n ns' met' later' events' there rest) x h =
      tour_closes _ _ _ _ _ rest x h
  tour_closes from ns met events later (visit from' n ns' met' inside later' within events' fresh first rest) x h =
      elim (tour_closes _ _ _ _ _ rest x h) [
        | inl before ↦ elim (tour_closes _ _ _ _ _ first x before) [
          | inl known ↦ elim (contains_cases met n x known) [
            | inl one ↦ inr (λ y edge. tour_keeps d _ _ _ _ _ rest y
                (tour_meets _ _ _ _ _ first y
                (contains_reversed (d.successors n) y (subst (λ z. Contains (d.successors z) y) one edge))))
            | inr old ↦ inl old
          ]
          | inr all ↦ inr (λ y edge. tour_keeps d _ _ _ _ _ rest y (all y edge))
        ]
        | inr all ↦ inr all
      ]

  -- a way out of what is closed stays in it
  pub closed_reaches : (met : List Node)
      → ((x : Node) → Contains met x → (y : Node) → Contains (d.successors x) y → Contains met y)
      → (from to : Node) → Reaches d from to → Contains met from → Contains met to
  closed_reaches met closed from to here h = h
  closed_reaches met closed from to (further mid _ more edge) h =
      closed mid (closed_reaches met closed from mid more h) to edge

  -- the nodes that a tour meets are those that can be reached
  pub tour_meets_reachable : (roots : List Node) (events : List (DfsEvent Node)) (met : List Node)
      → IsTour d roots events met → (n : Node) → Contains met n ↔ IsReachable d roots n
  tour_meets_reachable roots events met toured n =
      let closed : (x : Node) → Contains met x → (y : Node) → Contains (d.successors x) y → Contains met y =
      λ x h. elim (tour_closes _ _ _ _ _ toured x h) [
        | inl before ↦ absurd (contains_none x before)
        | inr all ↦
            all
      ] in (
        λ h. elim (tour_reaches _ _ _ _ _ toured n h) [
          | inl before ↦ absurd (contains_none n before)
          | inr way ↦ (way.0, contains_from_reversed roots way.0 way.1, way.2)
        ],
        λ way. closed_reaches met closed way.0 n way.2
            (tour_meets _ _ _ _ _ toured way.0 (contains_reversed roots way.0 way.1)),
      )

  -- the nodes that are met in one part and in the next
  pub met_in-append : (xs ys : List (DfsEvent Node)) → met_in (xs ++ ys) ≡ met_in xs ++ met_in ys
  met_in-append [] ys = refl
  met_in-append (Pre n ∷ xs) ys = ap (λ ns. n ∷ ns) (met_in-append xs ys)
  met_in-append (AfterEdge from to ∷ xs) ys = met_in-append xs ys
  met_in-append (Post n ∷ xs) ys = met_in-append xs ys

  -- following an edge meets nothing
  met_in-back : (from : Option Node) (n : Node) (events : List (DfsEvent Node))
      → met_in (back_at from n ++ events) ≡ met_in events
  met_in-back None n events = refl
  met_in-back (Some from) n events = refl

  -- the nodes that a visit meets
  met_in-visit : (from : Option Node) (n : Node) (within events : List (DfsEvent Node))
      → met_in (Pre n ∷ within ++ Post n ∷ back_at from n ++ events) ≡ n ∷ (met_in within ++ met_in events)
  met_in-visit from n within events =
      ap met_in (append_assoc (Pre n ∷ within) (Post n ∷ back_at from n) events)
      ∙ met_in-append (Pre n ∷ within) (Post n ∷ (back_at from n ++ events))
      ∙ ap (λ ns. n ∷ (met_in within ++ ns)) (met_in-back from n events)

  -- the nodes that are met after some others
  pub tour_order : (from : Option Node) (ns met : List Node) (events : List (DfsEvent Node)) (later : List Node)
      → Tour d from ns met events later → later ≡ reverse (met_in events) ++ met
  tour_order from ns met events later (none from' met') = refl
  tour_order from ns met events later (again from' n ns' met' later' events' there rest) =
      tour_order _ _ _ _ _ rest ∙ ap (λ xs. reverse xs ++ met) (sym (met_in-back from n events'))
  tour_order from ns met events later (visit from' n ns' met' inside later' within events' fresh first rest) =
      tour_order _ _ _ _ _ rest ∙ ap (λ xs. reverse (met_in events') ++ xs) (tour_order _ _ _ _ _ first)
      ∙ regroup n (met_in within) (met_in events') met
      ∙ ap (λ xs. reverse xs ++ met) (sym (met_in-visit from n within events'))
    where
      regroup : (n : Node) (xs ys met : List Node)
          → reverse ys ++ (reverse xs ++ n ∷ met) ≡ reverse (n ∷ (xs ++ ys)) ++ met
      regroup n xs ys met =
          sym (ap (λ zs. zs ++ met) (reverse-append (n ∷ []) (xs ++ ys)
          ∙ ap (λ zs. zs ++ n ∷ []) (reverse-append xs ys))
          ∙ append_assoc (reverse ys ++ reverse xs) (n ∷ []) met ∙ append_assoc (reverse ys) (reverse xs) (n ∷ met))

  -- no node is met twice
  pub tour_once : (from : Option Node) (ns met : List Node) (events : List (DfsEvent Node)) (later : List Node)
      → Tour d from ns met events later → AreDistinct met → AreDistinct later
  tour_once from ns met events later (none from' met') h = h
  tour_once from ns met events later (again from' n ns' met' later' events' there rest) h = tour_once _ _ _ _ _ rest h
  tour_once from ns met events later (visit from' n ns' met' inside later' within events' fresh first rest) h =
      tour_once _ _ _ _ _ rest (tour_once _ _ _ _ _ first (distinct_more met n h fresh))

  -- there is one tour
  pub tour_only : (from : Option Node) (ns met : List Node) (events : List (DfsEvent Node)) (later : List Node)
      → Tour d from ns met events later → (others : List (DfsEvent Node)) (also : List Node)
      → Tour d from ns met others also
      → (events ≡ others) × (later ≡ also)
  tour_only from ns met events later (none _ _) others also (none _ _) = (refl, refl)
  tour_only from ns met events later (again _ n ns' _ _ events' there rest) others also
      (again _ _ _ _ _ others' there' rest') =
      let same = tour_only from ns' met events' later rest others' also rest' in
      (ap (λ es. back_at from n ++ es) same.0, same.1)
  tour_only from ns met events later (again _ n ns' _ _ events' there rest) others also
      (visit _ _ _ _ _ _ _ _ fresh _ _) = absurd (fresh there)
  tour_only from ns met events later (visit _ n ns' _ inside _ within events' fresh first rest) others also
      (again _ _ _ _ _ _ there _) = absurd (fresh there)
  tour_only from ns met events later (visit _ n ns' _ inside _ within events' fresh first rest) others also
      (visit _ _ _ _ inside' _ within' others' fresh' first' rest') =
      let one = tour_only (Some n) (reverse (d.successors n)) (n ∷ met) within inside first within' inside' first' in
      let P : List Node → Type 0 = λ ms. Tour d from ns' ms others' also in
      let two = tour_only from ns' inside events' later rest others' also (subst P (sym one.1) rest') in (
        ap (λ es. Pre n ∷ es ++ Post n ∷ back_at from n ++ events') one.0
            ∙ ap (λ es. Pre n ∷ within' ++ Post n ∷ back_at from n ++ es) two.0,
        two.1,
      )

  -- what a run gives is what remained
  run_remains : (met : List Node) (stack events : List (DfsEvent Node)) → IsRun d met stack events
      → (later : List Node) × Remains d met stack events later
  run_remains met stack [] (left, ends) =
      let P : List (DfsEvent Node) → Type 0 = λ es. Remains d met es [] met in (
        met,
        remains_stepped d (TellsWhetherMet met) met None stack left (λ n answer tells. tells) ends [] met
            (subst P (sym ends.1) (refl, refl)),
      )
  run_remains met stack (event ∷ events) (left, steps, more) =
      let rest = run_remains (met_after met (Some event)) left events more in (
        rest.0,
        remains_stepped d (TellsWhetherMet met) met (Some event) stack left
            (λ n answer tells. tells) steps events rest.0 rest.1,
      )

  -- a run gives the tour
  pub run_tours : (roots : List Node) (events : List (DfsEvent Node)) → IsRun d [] (visits_of roots) events
      → IsTour d roots events (reverse (met_in events))
  run_tours roots events run =
      let rest = run_remains [] (visits_of roots) events run in
      let toured = tour_from_roots d roots (visits_of roots) refl events rest.0 rest.1 in
      let P : List Node → Type 0 = λ ms. IsTour d roots events ms in
      subst P (tour_order _ _ _ _ _ toured ∙ append-nil (reverse (met_in events))) toured

-- there are no two tours from the same roots
pub the_only_tour : {Node : Type 0} → IsTheOnlyTour Node
the_only_tour d roots events others met also one two =
    (tour_only d None (reverse roots) [] events met one others also two).0

-- a tour meets the nodes of its events
pub meets_by_its_events : {Node : Type 0} → MeetsByItsEvents Node
meets_by_its_events d roots events met toured = tour_order d _ _ _ _ _ toured ∙ append-nil (reverse (met_in events))

-- a tour meets each node once
pub meets_once : {Node : Type 0} → MeetsOnce Node
meets_once d roots events met toured = tour_once d _ _ _ _ _ toured (λ i j x first second. absurd (no_item i x first))
  where
    no_item : {X : Type 0} (i : ℕ) (x : X) → slice_get [] i ≡ Some x → ⊥
    no_item i x h = cc
