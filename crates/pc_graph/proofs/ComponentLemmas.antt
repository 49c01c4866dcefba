-- The search finds the classes of mutual reachability: by induction on the tour.
use Rattle.std.proofs.Common.{◌≡◌, ◌↔◌, ℕ, zero, suc, ◌≤◌, Option, None, Some, List, [], ◌∷◌, ◌++◌, slice_get, reverse}
use Rattle.std.proofs.Common.{refl, sym, ◌∙◌, subst, inl, inr, append_assoc, arith}
use Rattle.std.specs.List.{Contains}
use Rattle.std.proofs.lemmas.List.Elements.{Contains-append_left, Contains-append_right, Contains-append_cases}
use Rattle.pc_graph.specs.Classes.{AreComponents, EndWith, IsPart, flat}
use Rattle.pc_graph.specs.Digraph.{Digraph, Reaches, here, further}
use Rattle.pc_graph.specs.Laws.{met_in}
use Rattle.pc_graph.specs.Searching.{Follows, IsUnique, Search}
use Rattle.pc_graph.specs.Tour.{IsTour, Tour, back_at, none, again, visit}
use Rattle.pc_graph.specs.declared.dfs.DfsEvent.{DfsEvent}
use Rattle.pc_graph.specs.declared.dfs.DfsEvent.TheVariants.{Pre, AfterEdge, Post}
use Rattle.pc_graph.proofs.MemberLemmas.{contains_cases, contains_first, contains_from_reversed, contains_got}
use Rattle.pc_graph.proofs.MemberLemmas.{contains_later, contains_none, contains_reversed}
use Rattle.pc_graph.proofs.PartLemmas.{contains_flat, unique_apart, unique_distinct, unique_right}
use Rattle.pc_graph.proofs.RemainsLemmas.{tour_keeps}
use Rattle.pc_graph.proofs.TourLemmas.{closed_reaches, meets_by_its_events, reaches_on, tour_meets_reachable}
use Rattle.pc_graph.specs.Evaporation.{IsClosed}
use Rattle.pc_graph.proofs.GrowthLemmas.{Explored, Grows, Holds, Linked, Progress, Shut, progress_none, progress_on}
use Rattle.pc_graph.proofs.EdgeLemmas.{edge_follows}
use Rattle.pc_graph.proofs.VisitLemmas.{visit_follows}

module _ {Node : Type 0} (d : Digraph Node) where
  -- what some events and then others make of the search
  follows_split : (s u : Search Node) (xs ys : List (DfsEvent Node)) → Follows s (xs ++ ys) u
      → (t : Search Node) × Follows s xs t × Follows t ys u
  follows_split s u [] ys h = (s, refl, h)
  follows_split s u (x ∷ xs) ys (mid, turns, more) =
      let (t, first, second) = follows_split mid u xs ys more in
      (t, (mid, turns, first), second)

  -- the search once a node was met
  holds_entered : (s : Search Node) (met : List Node) (n : Node) → Holds d s met → ¬ (Contains met n)
      → ((x : Node) → Contains (flat s.path) x → Reaches d x n)
      → Holds d (record { path = (n ∷ []) ∷ s.path; closed = s.closed }) (n ∷ met)
  holds_entered s met n h fresh leads = record {
    held = λ x c. elim (contains_cases met n x c) [
      | inl one ↦ inl (subst (λ z. Contains (n ∷ flat s.path) z) (sym one) (contains_first (flat s.path) n))
      | inr old ↦ elim (h.held x old) [ inl a ↦ inl (contains_later (flat s.path) n x a) | inr b ↦ inr b ]
    ];
    on_path = λ x c. elim (contains_cases (flat s.path) n x c) [
      | inl one ↦ subst (λ z. Contains (n ∷ met) z) (sym one) (contains_first met n)
      | inr old ↦ contains_later met n x (h.on_path x old)
    ];
    in_class = λ x c. contains_later met n x (h.in_class x c);
    unique = (
      λ c. elim (Contains-append_cases (flat s.path) (flat s.closed) n c) [
        | inl a ↦ fresh (h.on_path n a)
        | inr b ↦ fresh (h.in_class n b)
      ],
      h.unique,
    );
    linked = (
      (n, contains_first [] n),
      λ x y from into. elim (contains_cases [] n y into) [
        | inl one ↦ subst (λ z. Reaches d x z) (sym one) (elim (contains_cases (flat s.path) n x from) [
          | inl same ↦ subst (λ z. Reaches d z n) (sym same) here
          | inr old ↦ leads x old
        ])
        | inr no_more ↦ absurd (contains_none y no_more)
      ],
      h.linked,
    );
    shut = h.shut;
  }

  -- the newest group after a growth holds what it held
  grown_top : (path path' : List (List Node)) (fresh : List Node) (top : List Node) (rest : List (List Node)) (p : Node)
      → Grows d path fresh path' → path ≡ top ∷ rest → Contains top p
      → (top' : List Node) × (rest' : List (List Node)) × (path' ≡ top' ∷ rest') × Contains top' p
  grown_top path path' fresh top rest p (inl (none_new, is)) was there = (top, rest, is ∙ was, there)
  grown_top path path' fresh top rest p (inr (t, mid, lower, older, is)) was there =
      let e : t ∷ (mid ++ lower) ≡ top ∷ rest = sym older ∙ was in
      let same : top ≡ t = cc in (
        fresh ++ (t ++ flat mid),
        lower,
        is,
        Contains-append_right fresh (t ++ flat mid) p
            (Contains-append_left t (flat mid) p (subst (λ g. Contains g p) same there)),
      )

  -- an edge that has been followed, and those that are followed behind it
  edge_then : (s u : Search Node) (met later : List Node) (events : List (DfsEvent Node)) (p n : Node) (ns : List Node)
      (top : List Node) (rest : List (List Node))
      → Progress d s met events u later → s.path ≡ top ∷ rest → Contains top p → Explored d s.path met p n
      → ((m : Node) → Contains ns m → Explored d u.path later p m)
      → (m : Node) → Contains (n ∷ ns) m → Explored d u.path later p m
  edge_then s u met later events p n ns top rest run was there seen all m c = elim (contains_cases ns n m c) [
    | inl one ↦
        let on_path : Contains (flat s.path) p =
        subst (λ q. Contains (flat q) p) (sym was) (Contains-append_left top (flat rest) p there) in
        subst (λ z. Explored d u.path later p z) (sym one) (run.keeps p n on_path seen)
    | inr old ↦ all m old
  ]

  -- the tour of the successors of a node that is in the newest group
  pub tour_follows : (ns met : List Node) (events : List (DfsEvent Node)) (later : List Node) (from : Option Node)
      → Tour d from ns met events later
      → (p : Node) → from ≡ Some p → (s u : Search Node) (top : List Node) (rest : List (List Node))
      → Holds d s met → s.path ≡ top ∷ rest → Contains top p
      → ((n : Node) → Contains ns n → Contains (d.successors p) n)
      → Follows s events u
      → Progress d s met events u later × ((n : Node) → Contains ns n → Explored d u.path later p n)
  tour_follows ns met events later from (none _ _) p is s u top rest h was there edges follows =
      let P : Search Node → Type 0 = λ w. Progress d s met [] w met in
      (subst P (sym follows) (progress_none d s met h), λ n c. absurd (contains_none n c))
  tour_follows ns met events later from
      (again _ n ns' _ _ events' known more) p is s u top rest h was there edges follows =
      let P : List (DfsEvent Node) → Type 0 = λ es. Progress d s met es u later
      × ((m : Node) → Contains ns m → Explored d u.path later p m) in
      let Q : Option Node → Type 0 = λ f. Follows s (back_at f n ++ events') u in
      let (mid, turns, rest_follows) = subst Q is follows in
      let (step, seen) = edge_follows d s mid met p n top rest h was there known
      (edges n (contains_first ns' n)) turns in
      let (top', rest', was', there') = grown_top s.path mid.path step.fresh top rest p step.grows was there in
      let (run, all) = tour_follows ns' met events' later from more p is mid u top' rest' step.holds was' there'
      (λ m c. edges m (contains_later ns' n m c)) rest_follows in
      let all' = edge_then mid u met later events' p n ns' top' rest' run was' there' seen all in
      subst (λ f. Progress d s met (back_at f n ++ events') u later
      × ((m : Node) → Contains (n ∷ ns') m → Explored d u.path later p m)) (sym is)
      (progress_on d s mid u met met later (AfterEdge p n ∷ []) events' step run, all')
  tour_follows ns met events later from
      (visit _ n ns' _ inside _ within events' fresh first more) p is s u top rest h was there edges follows =
      let Q : Option Node → Type 0 = λ f. Follows s (Pre n ∷ within ++ Post n ∷ back_at f n ++ events') u in
      let (t1, front, after) = follows_split s u (Pre n ∷ within ++ Post n ∷ AfterEdge p n ∷ []) events'
      (subst Q is follows) in
      let (t2, opens, (t3, leaves, (t4, edge_turns, ends))) =
      follows_split s t1 (Pre n ∷ within) (Post n ∷ AfterEdge p n ∷ []) front in
      let (t0, enters, runs) = opens in
      let leads : (x : Node) → Contains (flat s.path) x → Reaches d x n = λ x c.
      reaches_edge_back x (subst (Linked d) was h.linked) (subst (λ q. Contains (flat q) x) was c) in
      let start : Holds d (record { path = (n ∷ []) ∷ s.path; closed = s.closed }) (n ∷ met) =
      holds_entered s met n h fresh leads in
      let (run, inner) = tour_follows (reverse (d.successors n)) (n ∷ met) within inside (Some n) first n refl
      (record { path = (n ∷ []) ∷ s.path; closed = s.closed }) t2 (n ∷ []) s.path start refl (contains_first [] n)
      (λ m c. contains_from_reversed (d.successors n) m c) (subst (λ w. Follows w within t2) enters runs) in
      let visited = visit_follows d s t2 t3 met inside n within h fresh run
      (λ y edge. inner y (contains_reversed (d.successors n) y edge)) leaves in
      let (top3, rest3, was3, there3) = grown_top s.path t3.path visited.fresh top rest p visited.grows was there in
      let known : Contains inside n = tour_keeps d _ _ _ _ _ first n (contains_first met n) in
      let (step, seen) = edge_follows d t3 t4 inside p n top3 rest3 visited.holds was3 there3 known
      (edges n (contains_first ns' n)) edge_turns in
      let (top4, rest4, was4, there4) = grown_top t3.path t4.path step.fresh top3 rest3 p step.grows was3 there3 in
      let (last, all) = tour_follows ns' inside events' later from more p is t4 u top4 rest4 step.holds was4 there4
      (λ m c. edges m (contains_later ns' n m c)) (subst (λ w. Follows w events' u) ends after) in
      let all' = edge_then t4 u inside later events' p n ns' top4 rest4 last was4 there4 seen all in
      let whole = progress_on d s t3 u met inside later (Pre n ∷ within ++ Post n ∷ [])
      (AfterEdge p n ∷ [] ++ events') visited
      (progress_on d t3 t4 u inside inside later (AfterEdge p n ∷ []) events' step last) in
      subst (λ f. Progress d s met (Pre n ∷ within ++ Post n ∷ back_at f n ++ events') u later
      × ((m : Node) → Contains (n ∷ ns') m → Explored d u.path later p m)) (sym is)
      (subst (λ es. Progress d s met es u later) (regrouped n within events') whole, all')
    where
      reaches_edge_back : (x : Node) → Linked d (top ∷ rest) → Contains (flat (top ∷ rest)) x → Reaches d x n
      reaches_edge_back x l c = reaches_on d x p n (l.1 x p c there) (further p n here (edges n (contains_first ns' n)))

      regrouped : (n : Node) (within es : List (DfsEvent Node))
          → (Pre n ∷ within ++ Post n ∷ []) ++ (AfterEdge p n ∷ [] ++ es) ≡
          (Pre n ∷ within ++ Post n ∷ AfterEdge p n ∷ []) ++ es
      regrouped n within es = simp append_assoc

  -- the tour of the roots
  roots_follow : (ns met : List Node) (events : List (DfsEvent Node)) (later : List Node) (from : Option Node)
      → Tour d from ns met events later → from ≡ None
      → (s u : Search Node) → Holds d s met → s.path ≡ [] → Follows s events u
      → Progress d s met events u later × (u.path ≡ [])
  roots_follow ns met events later from (none _ _) is s u h was follows =
      let P : Search Node → Type 0 = λ w. Progress d s met [] w met × (w.path ≡ []) in
      subst P (sym follows) (progress_none d s met h, was)
  roots_follow ns met events later from (again _ n ns' _ _ events' known more) is s u h was follows =
      let Q : Option Node → Type 0 = λ f. Follows s (back_at f n ++ events') u in
      let run = roots_follow ns' met events' later from more is s u h was (subst Q is follows) in
      subst (λ f. Progress d s met (back_at f n ++ events') u later × (u.path ≡ [])) (sym is) run
  roots_follow ns met events later from
      (visit _ n ns' _ inside _ within events' fresh first more) is s u h was follows =
      let Q : Option Node → Type 0 = λ f. Follows s (Pre n ∷ within ++ Post n ∷ back_at f n ++ events') u in
      let (t1, front, after) = follows_split s u (Pre n ∷ within ++ Post n ∷ []) events' (subst Q is follows) in
      let (t2, (t0, enters, runs), (t3, leaves, ends)) = follows_split s t1 (Pre n ∷ within) (Post n ∷ []) front in
      let start : Holds d (record { path = (n ∷ []) ∷ s.path; closed = s.closed }) (n ∷ met) =
      holds_entered s met n h fresh
      (λ x c. absurd (contains_none x (subst (λ q. Contains (flat q) x) was c))) in
      let (run, inner) = tour_follows (reverse (d.successors n)) (n ∷ met) within inside (Some n) first n refl
      (record { path = (n ∷ []) ∷ s.path; closed = s.closed }) t2 (n ∷ []) s.path start refl (contains_first [] n)
      (λ m c. contains_from_reversed (d.successors n) m c) (subst (λ w. Follows w within t2) enters runs) in
      let visited = visit_follows d s t2 t3 met inside n within h fresh run
      (λ y edge. inner y (contains_reversed (d.successors n) y edge)) leaves in
      let (last, empty) = roots_follow ns' inside events' later from more is t3 u visited.holds
      (still_none t3.path visited.fresh visited.grows)
      (subst (λ w. Follows w events' u) ends after) in
      subst (λ f. Progress d s met (Pre n ∷ within ++ Post n ∷ back_at f n ++ events') u later × (u.path ≡ [])) (sym is)
      (progress_on d s t3 u met inside later (Pre n ∷ within ++ Post n ∷ []) events' visited last, empty)
    where
      still_none : (path' : List (List Node)) (fresh' : List Node) → Grows d s.path fresh' path' → path' ≡ []
      still_none path' fresh' (inl (none_new, same)) = same ∙ was
      still_none path' fresh' (inr (t, mid, lower, older, now)) =
          let e : t ∷ (mid ++ lower) ≡ [] = sym older ∙ was in cc

  -- two nodes of shut classes are together where each reaches the other
  shut_together : (below : List Node) (cs : List (List Node)) → Shut d below cs
      → ((x : Node) → Contains below x → (y : Node) → Contains (d.successors x) y → Contains below y)
      → IsUnique (below ++ flat cs)
      → (c : List Node) → Contains cs c → (a b : Node) → Contains c a → Contains c b ↔ (Reaches d a b × Reaches d b a)
  shut_together below [] h closed once c there a b in_c = absurd (contains_none c there)
  shut_together below (x ∷ xs) h closed once c there a b in_c = elim (contains_cases xs x c there) [
    | inl one ↦ subst (λ z. Contains z b ↔ (Reaches d a b × Reaches d b a)) (sym one)
        (same_class (subst (λ z. Contains z a) one in_c))
    | inr more ↦ shut_together (below ++ x) xs h.1 wider
        (subst IsUnique (sym (append_assoc below x (flat xs))) once) c more a b in_c
  ]
    where
      wider : (y : Node) → Contains (below ++ x) y → (z : Node) → Contains (d.successors y) z → Contains (below ++ x) z
      wider y c' z edge = elim (Contains-append_cases below x y c') [
        | inl old ↦ Contains-append_left below x z (closed y old z edge)
        | inr new ↦ (h.0 y new).1 z edge
      ]

      same_class : Contains x a → Contains x b ↔ (Reaches d a b × Reaches d b a)
      same_class in_x = (
        λ also. ((h.0 a in_x).0 b also, (h.0 b also).0 a in_x),
        λ ways. elim (Contains-append_cases below x b
            (closed_reaches d (below ++ x) wider a b ways.0 (Contains-append_right below x a in_x))) [
              | inl lower ↦ absurd (unique_apart below (x ++ flat xs) once a
                  (closed_reaches d below closed b a ways.1 lower) (Contains-append_left x (flat xs) a in_x))
              | inr also ↦ also
            ],
      )

  -- an edge of shut classes leads no higher
  shut_lower : (below : List Node) (cs : List (List Node)) → Shut d below cs → IsUnique (below ++ flat cs)
      → (i j : ℕ) (c e : List Node) (a b : Node) → slice_get cs i ≡ Some c → slice_get cs j ≡ Some e
      → Contains c a → Contains (d.successors a) b → Contains e b → j ≤ i
  shut_lower below [] h once i j c e a b at_i at_j in_c edge in_e = absurd (no_item i c at_i)
    where
      no_item : (k : ℕ) (y : List Node) → slice_get [] k ≡ Some y → ⊥
      no_item k y e' = cc
  shut_lower below (x ∷ xs) h once i zero c e a b at_i at_j in_c edge in_e = omega arith
  shut_lower below (x ∷ xs) h once zero (suc j) c e a b at_i at_j in_c edge in_e =
      let same : c ≡ x = cc in
      let into : Contains (below ++ x) b = (h.0 a (subst (λ z. Contains z a) same in_c)).1 b edge in
      let later : Contains (flat xs) b = contains_flat xs e b (contains_got xs j e at_j) in_e in
      absurd (unique_apart (below ++ x) (flat xs)
      (subst IsUnique (sym (append_assoc below x (flat xs))) once) b into later)
  shut_lower below (x ∷ xs) h once (suc i) (suc j) c e a b at_i at_j in_c edge in_e =
      let le = shut_lower (below ++ x) xs h.1
      (subst IsUnique (sym (append_assoc below x (flat xs))) once) i j c e a b at_i at_j in_c edge in_e in
      omega arith

  -- the classes of the whole tour are the strong components
  pub search_finds : (events : List (DfsEvent Node)) (met : List Node) (u : Search Node)
      → IsTour d d.nodes events met → Follows (record { path = []; closed = [] }) events u → AreComponents d u.closed
  search_finds events met u toured follows =
      let start : Holds d (record { path = []; closed = [] }) [] = record {
        held = λ x c. absurd (contains_none x c);
        on_path = λ x c. c;
        in_class = λ x c. c;
        unique = tt;
        linked = tt;
        shut = tt;
      } in
      let (run, empty) = roots_follow (reverse d.nodes) [] events met None toured refl
      (record { path = []; closed = [] }) u start refl follows in
      let order : met ≡ reverse (met_in events) = meets_by_its_events d d.nodes events met toured in
      let once : IsUnique (flat u.closed) = unique_right (flat u.path) (flat u.closed) run.holds.unique in
      let same : u.closed ≡ run.classes = run.closes in
      record {
        reached = λ n. (
          λ c. (tour_meets_reachable d d.nodes events met toured n).0 (run.holds.in_class n c),
          λ way. elim (run.holds.held n ((tour_meets_reachable d d.nodes events met toured n).1 way)) [
            | inl on ↦ absurd (contains_none n (subst (λ q. Contains (flat q) n) empty on))
            | inr done ↦ done
          ],
        );
        once = unique_distinct (flat u.closed) once;
        together = shut_together [] u.closed run.holds.shut (λ x c. absurd (contains_none x c)) once;
        order = (
          events,
          met,
          run.firsts,
          toured,
          λ c there. subst (λ zs. IsPart c zs) (sym order) (run.class_parts c (subst (λ cs. Contains cs c) same there)),
          subst (λ cs. EndWith cs run.firsts) (sym same) run.ends,
          run.first_part,
        );
        lower = shut_lower [] u.closed run.holds.shut once;
      }

-- the components of a graph are closed in it
pub components_closed : {Node : Type 0} (d : Digraph Node) (classes : List (List Node)) → AreComponents d classes
    → IsClosed d (flat classes)
components_closed d classes h a b there edge =
    let (root, listed, path) = (h.reached a).0 there in
    (h.reached b).1 (root, listed, further a b path edge)
