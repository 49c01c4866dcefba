-- What some events make of the search: what they keep of it, how its groups grow, and one run of events after another.
use Rattle.std.proofs.Common.{◌≡◌, ◌⊎◌, List, [], ◌∷◌, ◌++◌, reverse, refl, sym, ◌∙◌, ap, subst, inl, inr, append_assoc}
use Rattle.std.specs.List.{Contains}
use Rattle.std.specs.Prelude.{⊤}
use Rattle.std.proofs.lemmas.List.{append-nil, reverse-append}
use Rattle.std.proofs.lemmas.List.Elements.{Contains-append_left, Contains-append_right, Contains-append_cases}
use Rattle.pc_graph.specs.Classes.{EndWith, IsPart, flat, left_in}
use Rattle.pc_graph.specs.Digraph.{Digraph, Reaches}
use Rattle.pc_graph.specs.Laws.{met_in}
use Rattle.pc_graph.specs.Searching.{IsUnique, Search}
use Rattle.pc_graph.specs.declared.dfs.DfsEvent.{DfsEvent}
use Rattle.pc_graph.specs.declared.dfs.DfsEvent.TheVariants.{Pre, AfterEdge, Post}
use Rattle.pc_graph.proofs.MemberLemmas.{contains_none}
use Rattle.pc_graph.proofs.PartLemmas.{end_with-append, flat-append, part_append, part_longer, part_wider}
use Rattle.pc_graph.proofs.TourLemmas.{met_in-append}

module _ {Node : Type 0} (d : Digraph Node) where
  -- each group has a node, and each node of a group or an older one reaches all of the group
  abbrev pub Linked : List (List Node) → Type 0
  Linked [] = ⊤
  Linked (group ∷ rest) = ((n : Node) × Contains group n)
      × ((x y : Node) → Contains (flat (group ∷ rest)) x → Contains group y → Reaches d x y) × Linked rest

  -- all of a class reach each other, and their edges lead into the class or below
  abbrev pub Shut : List Node → List (List Node) → Type 0
  Shut below [] = ⊤
  Shut below (c ∷ cs) = ((a : Node) → Contains c a
      → ((b : Node) → Contains c b → Reaches d a b)
      × ((b : Node) → Contains (d.successors a) b → Contains (below ++ c) b))
      × Shut (below ++ c) cs

  -- what is true of the search between two events, where these nodes were met
  pub record Holds (s : Search Node) (met : List Node) : Type 0 where
    pub held : (x : Node) → Contains met x → Contains (flat s.path) x ⊎ Contains (flat s.closed) x
    pub on_path : (x : Node) → Contains (flat s.path) x → Contains met x
    pub in_class : (x : Node) → Contains (flat s.closed) x → Contains met x
    pub unique : IsUnique (flat s.path ++ flat s.closed)
    pub linked : Linked s.path
    pub shut : Shut [] s.closed

  -- the edge has been followed: its end was met, and is in no group below that of its start
  abbrev pub Explored : List (List Node) → List Node → Node → Node → Type 0
  Explored path met u v = Contains met v
      × ((upper lower : List (List Node)) → path ≡ upper ++ lower → Contains (flat lower) v → Contains (flat lower) u)

  -- the groups after some events, by the nodes that are new in the newest of them: it may have taken in older groups
  abbrev pub Grows : List (List Node) → List Node → List (List Node) → Type 0
  Grows path fresh path' = ((fresh ≡ []) × (path' ≡ path))
      ⊎ ((top : List Node) × (mid lower : List (List Node)) × (path ≡ top ∷ (mid ++ lower))
      × (path' ≡ (fresh ++ (top ++ flat mid)) ∷ lower))

  -- what some events made of the search
  pub record Progress (s : Search Node) (met : List Node) (events : List (DfsEvent Node)) (s' : Search Node)
      (later : List Node) : Type 0 where
    pub fresh : List Node
    pub classes : List (List Node)
    pub firsts : List Node
    pub grows : Grows s.path fresh s'.path
    pub closes : s'.closed ≡ s.closed ++ classes
    pub holds : Holds s' later
    pub explores : (x : Node) → Contains fresh x → (y : Node) → Contains (d.successors x) y → Explored s'.path later x y
    pub keeps : (u v : Node) → Contains (flat s.path) u → Explored s.path met u v → Explored s'.path later u v
    pub fresh_part : IsPart fresh (reverse (met_in events))
    pub class_parts : (c : List Node) → Contains classes c → IsPart c (reverse (met_in events))
    pub ends : EndWith classes firsts
    pub first_part : IsPart firsts (left_in events)

  -- older groups of linked ones
  pub linked_lower : (upper lower : List (List Node)) → Linked (upper ++ lower) → Linked lower
  linked_lower [] lower h = h
  linked_lower (u ∷ us) lower h = linked_lower us lower h.2

  -- a node reaches all of its group and the newer ones
  pub linked_up : (upper lower : List (List Node)) (group : List Node) (n y : Node) → Linked (upper ++ group ∷ lower)
      → Contains group n → Contains (flat (upper ++ group ∷ [])) y → Reaches d n y
  linked_up [] lower group n y h there into =
      h.1 n y (Contains-append_left group (flat lower) n there) (subst (λ ys. Contains ys y) (append-nil group) into)
  linked_up (u ∷ us) lower group n y h there into = elim (Contains-append_cases u (flat (us ++ group ∷ [])) y into) [
    | inl first ↦ h.1 n y (Contains-append_right u (flat (us ++ group ∷ lower)) n (in_flat us)) first
    | inr more ↦ linked_up us lower group n y h.2 there more
  ]
    where
      in_flat : (us : List (List Node)) → Contains (flat (us ++ group ∷ lower)) n
      in_flat [] = Contains-append_left group (flat lower) n there
      in_flat (v ∷ vs) = Contains-append_right v (flat (vs ++ group ∷ lower)) n (in_flat vs)

  -- a group that grew still holds what it held
  pub grows_keeps : (path path' : List (List Node)) (fresh : List Node) → Grows path fresh path' → (x : Node)
      → Contains (flat path) x → Contains (flat path') x
  grows_keeps path path' fresh (inl (none_new, is)) x h = subst (λ p. Contains (flat p) x) (sym is) h
  grows_keeps path path' fresh (inr (top, mid, lower, was, is)) x h =
      subst (λ p. Contains (flat p) x) (sym is)
      (elim (Contains-append_cases top (flat (mid ++ lower)) x (subst (λ p. Contains (flat p) x) was h)) [
        | inl one ↦ Contains-append_left (fresh ++ (top ++ flat mid)) (flat lower) x
            (Contains-append_right fresh (top ++ flat mid) x (Contains-append_left top (flat mid) x one))
        | inr more ↦
            elim (Contains-append_cases (flat mid) (flat lower) x
            (subst (λ zs. Contains zs x) (flat-append mid lower) more)) [
              | inl two ↦ Contains-append_left (fresh ++ (top ++ flat mid)) (flat lower) x
                  (Contains-append_right fresh (top ++ flat mid) x (Contains-append_right top (flat mid) x two))
              | inr three ↦ Contains-append_right (fresh ++ (top ++ flat mid)) (flat lower) x three
            ]
      ])

  -- what is new is on the path
  pub grows_fresh : (path path' : List (List Node)) (fresh : List Node) → Grows path fresh path' → (x : Node)
      → Contains fresh x → Contains (flat path') x
  grows_fresh path path' fresh (inl (none_new, is)) x h =
      absurd (contains_none x (subst (λ xs. Contains xs x) none_new h))
  grows_fresh path path' fresh (inr (top, mid, lower, was, is)) x h =
      subst (λ p. Contains (flat p) x) (sym is)
      (Contains-append_left (fresh ++ (top ++ flat mid)) (flat lower) x
      (Contains-append_left fresh (top ++ flat mid) x h))

  -- the groups under a newest group that is given
  pub grows_under : (group : List Node) (rest path' : List (List Node)) (fresh : List Node)
      → Grows (group ∷ rest) fresh path'
      → (mid lower : List (List Node)) × (rest ≡ mid ++ lower) × (path' ≡ (fresh ++ (group ++ flat mid)) ∷ lower)
  grows_under group rest path' fresh (inl (none_new, is)) = (
    [],
    rest,
    refl,
    is ∙ ap (λ xs. xs ∷ rest)
        (sym (append-nil group) ∙ ap (λ ys. ys ++ (group ++ [])) (sym none_new)),
  )
  grows_under group rest path' fresh (inr (top, mid, lower, was, is)) =
      let same : group ≡ top = cc in
      let under : rest ≡ mid ++ lower = cc in
      (mid, lower, under, is ∙ ap (λ g. (fresh ++ (g ++ flat mid)) ∷ lower) (sym same))

  -- one growth after another
  pub grows_on : (p q r : List (List Node)) (one two : List Node) → Grows p one q → Grows q two r
      → Grows p (two ++ one) r
  grows_on p q r one two (inl (none_new, is)) (inl (none_newer, is')) =
      inl (ap (λ xs. xs ++ one) none_newer ∙ none_new, is' ∙ is)
  grows_on p q r one two (inl (none_new, is)) (inr (top, mid, lower, was, is')) =
      inr (
        top,
        mid,
        lower,
        sym is ∙ was,
        is'
            ∙ ap (λ xs. (xs ++ (top ++ flat mid)) ∷ lower) (sym (append-nil two) ∙ ap (λ ys. two ++ ys) (sym none_new)),
      )
  grows_on p q r one two (inr (top, mid, lower, was, is)) (inl (none_newer, is')) =
      inr (top, mid, lower, was, is' ∙ is ∙ ap (λ xs. (xs ++ one ++ (top ++ flat mid)) ∷ lower) (sym none_newer))
  grows_on p q r one two (inr (top, mid, lower, was, is)) (inr next) =
      let (mid', lower', under, is') = grows_under (one ++ (top ++ flat mid)) lower r two
      (inr (subst (λ path. (t : List Node) × (m l : List (List Node))
      × (path ≡ t ∷ (m ++ l)) × (r ≡ (two ++ (t ++ flat m)) ∷ l)) is next)) in
      inr (
        top,
        mid ++ mid',
        lower',
        was ∙ ap (λ l. top ∷ (mid ++ l)) under ∙ ap (λ l. top ∷ l) (sym (append_assoc mid mid' lower')),
        is' ∙ ap (λ xs. xs ∷ lower') (regroup top (flat mid) (flat mid')
            ∙ ap (λ ys. (two ++ one) ++ (top ++ ys)) (sym (flat-append mid mid'))),
      )
    where
      regroup : (t m m' : List Node) → two ++ ((one ++ (t ++ m)) ++ m') ≡ (two ++ one) ++ (t ++ (m ++ m'))
      regroup t m m' = simp append_assoc

  -- some events, and then others
  pub progress_on : (s t u : Search Node) (met mid later : List Node) (xs ys : List (DfsEvent Node))
      → Progress s met xs t mid → Progress t mid ys u later → Progress s met (xs ++ ys) u later
  progress_on s t u met mid later xs ys one two =
      let parts : reverse (met_in (xs ++ ys)) ≡ reverse (met_in ys) ++ reverse (met_in xs) =
      ap reverse (met_in-append d xs ys) ∙ reverse-append (met_in xs) (met_in ys) in
      record {
        fresh = two.fresh ++ one.fresh;
        classes = one.classes ++ two.classes;
        firsts = one.firsts ++ two.firsts;
        grows = grows_on s.path t.path u.path one.fresh two.fresh one.grows two.grows;
        closes = two.closes ∙ ap (λ cs. cs ++ two.classes) one.closes ∙ append_assoc s.closed one.classes two.classes;
        holds = two.holds;
        explores = λ x new y edge. elim (Contains-append_cases two.fresh one.fresh x new) [
          | inl newer ↦ two.explores x newer y edge
          | inr older ↦ two.keeps x y (grows_fresh s.path t.path one.fresh one.grows x older)
              (one.explores x older y edge)
        ];
        keeps = λ a b there done. two.keeps a b (grows_keeps s.path t.path one.fresh one.grows a there)
            (one.keeps a b there done);
        fresh_part = subst (λ zs. IsPart (two.fresh ++ one.fresh) zs) (sym parts)
            (part_append two.fresh (reverse (met_in ys)) one.fresh (reverse (met_in xs)) two.fresh_part one.fresh_part);
        class_parts = λ c there. subst (λ zs. IsPart c zs) (sym parts)
            (elim (Contains-append_cases one.classes two.classes c there) [
              | inl first ↦ part_wider c (reverse (met_in ys)) (reverse (met_in xs)) (one.class_parts c first)
              | inr second ↦ part_longer c (reverse (met_in ys)) (reverse (met_in xs)) (two.class_parts c second)
            ]);
        ends = end_with-append one.classes two.classes one.firsts two.firsts one.ends two.ends;
        first_part = subst (λ zs. IsPart (one.firsts ++ two.firsts) zs) (sym (left_in-append xs ys))
            (part_append one.firsts (left_in xs) two.firsts (left_in ys) one.first_part two.first_part);
      }
    where
      left_in-append : (xs ys : List (DfsEvent Node)) → left_in (xs ++ ys) ≡ left_in xs ++ left_in ys
      left_in-append [] ys = refl
      left_in-append (Pre n ∷ xs) ys = left_in-append xs ys
      left_in-append (AfterEdge from to ∷ xs) ys = left_in-append xs ys
      left_in-append (Post n ∷ xs) ys = ap (λ ns. n ∷ ns) (left_in-append xs ys)

  -- no events
  pub progress_none : (s : Search Node) (met : List Node) → Holds s met → Progress s met [] s met
  progress_none s met h = record {
    fresh = [];
    classes = [];
    firsts = [];
    grows = inl (refl, refl);
    closes = sym (append-nil s.closed);
    holds = h;
    explores = λ x new y edge. absurd (contains_none x new);
    keeps = λ a b there done. done;
    fresh_part = tt;
    class_parts = λ c there. absurd (contains_none c there);
    ends = tt;
    first_part = tt;
  }
