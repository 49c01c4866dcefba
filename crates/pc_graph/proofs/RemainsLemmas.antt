-- The stack of the traversal and the tour: a step gives the first of the events that remain.
use Rattle.std.proofs.Common.{◌≡◌, Bool, true, false, Option, None, Some, List, [], ◌∷◌, ◌++◌, reverse, map, refl, sym}
use Rattle.std.proofs.Common.{◌∙◌, ap, subst, inl, inr, append_assoc, true≢false}
use Rattle.std.specs.List.{All, Contains}
use Rattle.std.specs.Option.{option_to_list}
use Rattle.std.proofs.lemmas.List.{append-nil}
use Rattle.std.proofs.lemmas.List.Elements.{All-head, All-tail}
use Rattle.pc_graph.specs.Digraph.{Digraph}
use Rattle.pc_graph.specs.Tour.{Tour, back_at, none, again, visit, IsTour}
use Rattle.pc_graph.specs.Steps.{IsSkipped, Leaves, Pushes, Remains, SaysExactly, Steps, met_after, visits_of}
use Rattle.pc_graph.specs.declared.dfs.DfsEvent.{DfsEvent}
use Rattle.pc_graph.specs.declared.dfs.DfsEvent.TheVariants.{Pre, AfterEdge, Post}
use Rattle.pc_graph.proofs.MemberLemmas.{contains_later}

module _ {Node : Type 0} (d : Digraph Node) where
  -- what was met stays met
  pub tour_keeps : (from : Option Node) (ns met : List Node) (events : List (DfsEvent Node)) (later : List Node)
      → Tour d from ns met events later → (x : Node) → Contains met x → Contains later x
  tour_keeps from ns met events later (none from' met') x h = h
  tour_keeps from ns met events later (again from' n ns' met' later' events' there rest) x h =
      tour_keeps _ _ _ _ _ rest x h
  tour_keeps from ns met events later (visit from' n ns' met' inside later' within events' fresh first rest) x h =
      tour_keeps _ _ _ _ _ rest x (tour_keeps _ _ _ _ _ first x (contains_later _ n x h))

  -- the same events in another grouping
  regroup : (from : Option Node) (n : Node) (within rest : List (DfsEvent Node))
      → (Pre n ∷ within ++ Post n ∷ back_at from n) ++ rest ≡
      (((Pre n ∷ within ++ Post n ∷ []) ++ []) ++ back_at from n) ++ rest
  regroup from n within rest = simp append_assoc

  -- a node's visit, and then those that follow it
  pub visit_then : (from : Option Node) (n : Node) (ns met mid : List Node) (first rest : List (DfsEvent Node))
      (later : List Node)
      → Tour d None (n ∷ []) met first mid → Tour d from ns mid rest later
      → Tour d from (n ∷ ns) met (first ++ back_at from n ++ rest) later
  visit_then from n ns met mid first rest later (again _ _ _ _ _ _ there (none _ _)) more =
      again from n ns met later rest there more
  visit_then from n ns met mid first rest later (visit _ _ _ _ inside _ within _ fresh visited (none _ _)) more =
      let P : List (DfsEvent Node) → Type 0 = λ es. Tour d from (n ∷ ns) met es later in
      subst P (regroup from n within rest) (visit from n ns met inside later within rest fresh visited more)

  -- what remains of a stack of visits is a tour
  pub tour_from_visits : (ns met : List Node) (events : List (DfsEvent Node)) (later : List Node)
      → Remains d met (map (λ n. Pre n) ns) events later → Tour d None ns met events later
  tour_from_visits [] met events later h =
      let P : List (DfsEvent Node) → Type 0 = λ es. Tour d None [] met es later in
      let Q : List Node → Type 0 = λ ms. Tour d None [] met [] ms in
      subst P (sym h.0) (subst Q (sym h.1) (none None met))
  tour_from_visits (n ∷ ns) met events later (first, rest, inside, is, visited, more) =
      let P : List (DfsEvent Node) → Type 0 = λ es. Tour d None (n ∷ ns) met es later in
      subst P (ap (λ es. es ++ rest) (append-nil first) ∙ sym is)
      (visit_then None n ns met inside first rest later visited (tour_from_visits ns inside rest later more))

  -- what remains of a traversal that was made for these roots is their tour
  pub tour_from_roots : (roots : List Node) (stack : List (DfsEvent Node)) → stack ≡ visits_of roots
      → (events : List (DfsEvent Node)) (met : List Node) → Remains d [] stack events met → IsTour d roots events met
  tour_from_roots roots stack is events met h =
      let P : List (DfsEvent Node) → Type 0 = λ es. Remains d [] es events met in
      tour_from_visits (reverse roots) [] events met (subst P is h)

  module _ (Says : Node → Bool → Type 0) where
    -- what was pushed for the successors of a node remains as their tour
    pub tour_from_pushed : (from : Node) (ns before met : List Node) (pushed below : List (DfsEvent Node))
        (events : List (DfsEvent Node)) (later : List Node)
        → SaysExactly Says before → ((x : Node) → Contains before x → Contains met x)
        → Pushes Says from ns pushed → Remains d met (pushed ++ below) events later
        → (within rest : List (DfsEvent Node)) × (inside : List Node)
        × Tour d (Some from) ns met within inside × Remains d inside below rest later × (events ≡ within ++ rest)
    tour_from_pushed from [] before met pushed below events later exact kept pushes h =
        let P : List (DfsEvent Node) → Type 0 = λ es. Remains d met (es ++ below) events later in
        ([], events, met, none (Some from) met, subst P pushes h, refl)
    tour_from_pushed from (n ∷ ns) before met pushed below events later exact kept (prior, pushes, inl (said, is)) h =
        let P : List (DfsEvent Node) → Type 0 = λ es. Remains d met (es ++ below) events later in
        let left = subst P is h in
        let (within, rest, inside, toured, more, joined) =
        tour_from_pushed from ns before met prior below left.0 later exact kept pushes left.2 in (
          AfterEdge from n ∷ within,
          rest,
          inside,
          again (Some from) n ns met inside within (kept n ((exact n true said).0 refl)) toured,
          more,
          left.1 ∙ ap (λ es. AfterEdge from n ∷ es) joined,
        )
    tour_from_pushed from (n ∷ ns) before met pushed below events later exact kept (prior, pushes, inr (said, is)) h =
        let P : List (DfsEvent Node) → Type 0 = λ es. Remains d met (es ++ below) events later in
        let (first, rest, mid, joined, visited, left) = subst P is h in
        let kept_mid = λ (x : Node) (c : Contains before x). tour_keeps None (n ∷ []) met first mid visited x
        (kept x c) in
        let (within, rest', inside, toured, more, joined') =
        tour_from_pushed from ns before mid prior below left.0 later exact kept_mid pushes left.2 in (
          first ++ back_at (Some from) n ++ within,
          rest',
          inside,
          visit_then (Some from) n ns met mid first within inside visited toured,
          more,
          joined ∙ ap (λ es. first ++ es) (left.1 ∙ ap (λ es. AfterEdge from n ∷ es) joined')
              ∙ after_edge from n first within rest',
        )
      where
        after_edge : (from n : Node) (first within rest : List (DfsEvent Node))
            → first ++ (AfterEdge from n ∷ (within ++ rest)) ≡ (first ++ (AfterEdge from n ∷ []) ++ within) ++ rest
        after_edge from n first within rest = simp append_assoc

    -- visits that are skipped leave what remains
    pub remains_skipped : (met : List Node) (skipped stack events : List (DfsEvent Node)) (later : List Node)
        → SaysExactly Says met → All (IsSkipped Says) skipped → Remains d met stack events later
        → Remains d met (skipped ++ stack) events later
    remains_skipped met [] stack events later exact seen h = h
    remains_skipped met (Pre n ∷ es) stack events later exact seen h =
        let there = (exact n true (All-head (IsSkipped Says) (Pre n) es seen)).0 refl in (
          [],
          events,
          met,
          refl,
          again None n [] met met [] there (none None met),
          remains_skipped met es stack events later exact (All-tail (IsSkipped Says) (Pre n) es seen) h,
        )
    remains_skipped met (AfterEdge from to ∷ es) stack events later exact seen h =
        absurd (All-head (IsSkipped Says) (AfterEdge from to) es seen)
    remains_skipped met (Post n ∷ es) stack events later exact seen h =
        absurd (All-head (IsSkipped Says) (Post n) es seen)

    whole_visit : (n : Node) (within rest : List (DfsEvent Node))
        → Pre n ∷ (within ++ Post n ∷ rest) ≡ ((Pre n ∷ within ++ Post n ∷ []) ++ []) ++ rest
    whole_visit n within rest = simp append_assoc

    -- the event that is given is the first that remained
    remains_given : (met : List Node) (event : DfsEvent Node) (below left events : List (DfsEvent Node))
        (later : List Node)
        → SaysExactly Says met → Leaves Says d event below left
        → Remains d (met_after met (Some event)) left events later
        → Remains d met (event ∷ below) (event ∷ events) later
    remains_given met (Pre n) below left events later exact (said, pushed, pushes, is) h =
        let P : List (DfsEvent Node) → Type 0 = λ es. Remains d (n ∷ met) es events later in
        let kept = λ (x : Node) (c : Contains met x). contains_later met n x c in
        let (within, rest, inside, toured, more, joined) =
        tour_from_pushed n (reverse (d.successors n)) met (n ∷ met) pushed
        (Post n ∷ below) events later exact kept pushes (subst P is h) in (
          (Pre n ∷ within ++ Post n ∷ []) ++ [],
          more.0,
          inside,
          ap (λ es. Pre n ∷ es) (joined ∙ ap (λ es. within ++ es) more.1) ∙ whole_visit n within more.0,
          visit None n [] met inside inside within [] (λ there. true≢false (sym ((exact n false said).1 there))) toured
              (none None inside),
          more.2,
        )
    remains_given met (AfterEdge from to) below left events later exact is h =
        let P : List (DfsEvent Node) → Type 0 = λ es. Remains d met es events later in
        (events, refl, subst P is h)
    remains_given met (Post n) below left events later exact is h =
        let P : List (DfsEvent Node) → Type 0 = λ es. Remains d met es events later in
        (events, refl, subst P is h)

    -- one step gives the first of the events that remain
    pub remains_stepped : (met : List Node) (event : Option (DfsEvent Node)) (old new : List (DfsEvent Node))
        → SaysExactly Says met → Steps Says d old event new
        → (events : List (DfsEvent Node)) (later : List Node) → Remains d (met_after met event) new events later
        → Remains d met old (option_to_list event ++ events) later
    remains_stepped met None old new exact (seen, is) events later h =
        let P : List (DfsEvent Node) → Type 0 = λ es. Remains d met es events later in
        subst P (append-nil old) (remains_skipped met old [] events later exact seen (subst P is h))
    remains_stepped met (Some event) old new exact (skipped, below, seen, is, leaves) events later h =
        let P : List (DfsEvent Node) → Type 0 = λ es. Remains d met es (event ∷ events) later in
        subst P (sym is)
        (remains_skipped met skipped (event ∷ below) (event ∷ events) later exact seen
        (remains_given met event below new events later exact leaves h))
