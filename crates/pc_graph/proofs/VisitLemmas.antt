-- A visit, from where its node is met until it is left.
use Rattle.std.proofs.Common.{◌≡◌, ◌⊎◌, List, [], ◌∷◌, ◌++◌, reverse, refl, sym, ◌∙◌, ap, subst, inl, inr, append_assoc}
use Rattle.std.specs.List.{Contains}
use Rattle.std.proofs.lemmas.List.{append-nil, reverse-append}
use Rattle.std.proofs.lemmas.List.Elements.{Contains-append_left, Contains-append_right, Contains-append_cases}
use Rattle.pc_graph.specs.Classes.{EndsWith, IsPart, flat, left_in}
use Rattle.pc_graph.specs.Digraph.{Digraph, Reaches}
use Rattle.pc_graph.specs.Laws.{met_in}
use Rattle.pc_graph.specs.Searching.{IsUnique, Search, Turns}
use Rattle.pc_graph.specs.declared.dfs.DfsEvent.{DfsEvent}
use Rattle.pc_graph.specs.declared.dfs.DfsEvent.TheVariants.{Pre, AfterEdge, Post}
use Rattle.pc_graph.proofs.MemberLemmas.{contains_cases, contains_later, contains_none}
use Rattle.pc_graph.proofs.PartLemmas.{end_with-append, flat-push, nothing_behind, part_append, part_longer, part_one}
use Rattle.pc_graph.proofs.PartLemmas.{unique_apart, unique_left, unique_rotate}
use Rattle.pc_graph.proofs.TourLemmas.{met_in-append}
use Rattle.pc_graph.proofs.GrowthLemmas.{Explored, Holds, Linked, Progress, Shut, grows_under}

module _ {Node : Type 0} (d : Digraph Node) where
  -- one class more is shut
  shut_more : (below : List Node) (cs : List (List Node)) (c : List Node) → Shut d below cs
      → ((a : Node) → Contains c a → ((b : Node) → Contains c b → Reaches d a b)
      × ((b : Node) → Contains (d.successors a) b → Contains ((below ++ flat cs) ++ c) b))
      → Shut d below (cs ++ c ∷ [])
  shut_more below [] c h new = (
    (λ a there. (
      (new a there).0,
      λ b edge. subst (λ zs. Contains (zs ++ c) b) (append-nil below)
          ((new a there).1 b edge),
    )),
    tt,
  )
  shut_more below (x ∷ xs) c h new = (
    h.0,
    shut_more (below ++ x) xs c h.1 (λ a there. (
      (new a there).0,
      λ b edge.
          subst (λ zs. Contains (zs ++ c) b) (sym (append_assoc below x (flat xs))) ((new a there).1 b edge),
    )),
  )

  -- a visit, from where its node is met until it is left, by the newest group
  visit_by_group : (s t u : Search Node) (met inside : List Node) (n : Node) (within : List (DfsEvent Node))
      → Holds d s met → ¬ (Contains met n)
      → Progress d (record { path = (n ∷ []) ∷ s.path; closed = s.closed }) (n ∷ met) within t inside
      → ((y : Node) → Contains (d.successors n) y → Explored d t.path inside n y)
      → (group : List Node) (rest : List (List Node)) → t.path ≡ group ∷ rest
      → (EndsWith group n × (u ≡ record { path = rest; closed = t.closed ++ group ∷ [] }))
      ⊎ (¬ (EndsWith group n) × (u ≡ t))
      → Progress d s met (Pre n ∷ within ++ Post n ∷ []) u inside
  visit_by_group s t u met inside n within h fresh run edges group rest was turned = elim turned [
    | inl done ↦ subst P (sym done.1) (closes done.0)
    | inr not_yet ↦ subst P (sym not_yet.1) (stays not_yet.0)
  ]
    where
      P : Search Node → Type 0
      P w = Progress d s met (Pre n ∷ within ++ Post n ∷ []) w inside

      events : List (DfsEvent Node)
      events = Pre n ∷ within ++ Post n ∷ []

      under : (mid lower : List (List Node)) × (s.path ≡ mid ++ lower)
          × (t.path ≡ (run.fresh ++ ((n ∷ []) ++ flat mid)) ∷ lower)
      under = grows_under d (n ∷ []) s.path t.path run.fresh run.grows

      -- the nodes that were met meanwhile, the last one first
      parts : reverse (met_in (Pre n ∷ within ++ Post n ∷ [])) ≡ reverse (met_in within) ++ n ∷ []
      parts = ap (λ ns. reverse (n ∷ ns)) (met_in-append d within (Post n ∷ []) ∙ append-nil (met_in within))
          ∙ reverse-append (n ∷ []) (met_in within)

      lefts : left_in (Pre n ∷ within ++ Post n ∷ []) ≡ left_in within ++ n ∷ []
      lefts = left_in-push within
        where
          left_in-push : (es : List (DfsEvent Node)) → left_in (es ++ Post n ∷ []) ≡ left_in es ++ n ∷ []
          left_in-push [] = refl
          left_in-push (Pre m ∷ es) = left_in-push es
          left_in-push (AfterEdge from to ∷ es) = left_in-push es
          left_in-push (Post m ∷ es) = ap (λ ns. m ∷ ns) (left_in-push es)

      new_part : IsPart (run.fresh ++ n ∷ []) (reverse (met_in (Pre n ∷ within ++ Post n ∷ [])))
      new_part = subst (λ zs. IsPart (run.fresh ++ n ∷ []) zs) (sym parts)
          (part_append run.fresh (reverse (met_in within)) (n ∷ []) (n ∷ []) run.fresh_part (part_one n))

      old_parts : (c : List Node) → Contains run.classes c → IsPart c (reverse (met_in (Pre n ∷ within ++ Post n ∷ [])))
      old_parts c there = subst (λ zs. IsPart c zs) (sym parts)
          (part_longer c (reverse (met_in within)) (n ∷ []) (run.class_parts c there))

      -- what was explored of the groups before stays so when the node is met
      entered : (a b : Node) → Contains (flat s.path) a → Explored d s.path met a b
          → Explored d ((n ∷ []) ∷ s.path) (n ∷ met) a b
      entered a b there (known, explored) = (contains_later met n b known, go)
        where
          go : (up low : List (List Node)) → (n ∷ []) ∷ s.path ≡ up ++ low → Contains (flat low) b
              → Contains (flat low) a
          go [] low e into = subst (λ q. Contains (flat q) a) e (contains_later (flat s.path) n a there)
          go (g ∷ up) low e into =
              let older : s.path ≡ up ++ low = cc in
              explored up low older into

      -- the group is what is new, the node, and older groups
      the_group : group ≡ run.fresh ++ n ∷ flat under.0
      the_group = let e = sym was ∙ under.3 in let g : group ≡ run.fresh ++ n ∷ flat under.0 = cc in g

      the_rest : rest ≡ under.1
      the_rest = let e = sym was ∙ under.3 in let r : rest ≡ under.1 = cc in r

      once : IsUnique (flat (group ∷ rest) ++ flat t.closed)
      once = subst (λ q. IsUnique (flat q ++ flat t.closed)) was run.holds.unique

      group_once : IsUnique group
      group_once = unique_left group (flat rest) (unique_left (group ++ flat rest) (flat t.closed) once)

      links : Linked d (group ∷ rest)
      links = subst (Linked d) was run.holds.linked

      closes : EndsWith group n → Progress d s met (Pre n ∷ within ++ Post n ∷ [])
          (record { path = rest; closed = t.closed ++ group ∷ [] }) inside
      closes (start, ends) = record {
        fresh = [];
        classes = run.classes ++ group ∷ [];
        firsts = run.firsts ++ n ∷ [];
        grows = inl (refl, same_path);
        closes = ap (λ cs. cs ++ group ∷ []) run.closes ∙ append_assoc s.closed run.classes (group ∷ []);
        holds = record {
          held = λ x c. elim (run.holds.held x c) [
            | inl on ↦ elim (Contains-append_cases group (flat rest) x (subst (λ q. Contains (flat q) x) was on)) [
              | inl here' ↦
                  inr (subst (λ zs. Contains zs x) (sym (flat-push t.closed group))
                  (Contains-append_right (flat t.closed) group x here'))
              | inr older ↦ inl older
            ]
            | inr done ↦
                inr (subst (λ zs. Contains zs x) (sym (flat-push t.closed group))
                (Contains-append_left (flat t.closed) group x done))
          ];
          on_path = λ x c. run.holds.on_path x
              (subst (λ q. Contains (flat q) x) (sym was) (Contains-append_right group (flat rest) x c));
          in_class =
              λ x c. elim
              (Contains-append_cases (flat t.closed) group x
              (subst (λ zs. Contains zs x) (flat-push t.closed group) c)) [
                | inl done ↦ run.holds.in_class x done
                | inr here' ↦ run.holds.on_path x
                    (subst (λ q. Contains (flat q) x) (sym was) (Contains-append_left group (flat rest) x here'))
              ];
          unique = subst (λ zs. IsUnique (flat rest ++ zs)) (sym (flat-push t.closed group))
              (subst IsUnique (append_assoc (flat rest) (flat t.closed) group)
              (unique_rotate group (flat rest ++ flat t.closed)
              (subst IsUnique (append_assoc group (flat rest) (flat t.closed)) once)));
          linked = links.2;
          shut = shut_more [] t.closed group run.holds.shut (λ a there. (
            λ b here'. links.1 a b (Contains-append_left group (flat rest) a there) here',
            λ b edge.
                shut_edge a b there edge,
          ));
        };
        explores = λ x new y edge. absurd (contains_none x new);
        keeps = λ a b there explored. kept a b there
            (run.keeps a b (contains_later (flat s.path) n a there) (entered a b there explored));
        fresh_part = tt;
        class_parts = λ c there. elim (Contains-append_cases run.classes (group ∷ []) c there) [
          | inl old ↦ old_parts c old
          | inr new ↦ elim (contains_cases [] group c new) [
            | inl one ↦ subst (λ zs. IsPart zs (reverse (met_in events)))
                (sym (one ∙ the_group ∙ ap (λ zs. run.fresh ++ n ∷ zs) none_older)) new_part
            | inr no_more ↦ absurd (contains_none c no_more)
          ]
        ];
        ends = end_with-append run.classes (group ∷ []) run.firsts (n ∷ []) run.ends ((start, ends), tt);
        first_part = subst (λ zs. IsPart (run.firsts ++ n ∷ []) zs) (sym lefts)
            (part_append run.firsts (left_in within) (n ∷ []) (n ∷ []) run.first_part (part_one n));
      }
        where
          none_older : flat under.0 ≡ []
          none_older = nothing_behind run.fresh (flat under.0) start n (subst IsUnique the_group group_once)
              (sym the_group ∙ ends)

          no_groups : (mid : List (List Node)) → Linked d (mid ++ under.1) → flat mid ≡ [] → mid ≡ []
          no_groups [] l e = refl
          no_groups (g ∷ gs) l e =
              absurd (contains_none l.0.0
              (subst (λ zs. Contains zs l.0.0) e (Contains-append_left g (flat gs) l.0.0 l.0.1)))

          same_path : rest ≡ s.path
          same_path = the_rest
              ∙ sym (under.2 ∙ ap (λ m. m ++ under.1)
              (no_groups under.0 (subst (Linked d) under.2 h.linked) none_older))

          kept : (a b : Node) → Contains (flat s.path) a → Explored d t.path inside a b → Explored d rest inside a b
          kept a b there (known, explored) =
              (known, λ up low e into. explored (group ∷ up) low (was ∙ ap (λ r. group ∷ r) e) into)

          shut_edge : (a b : Node) → Contains group a → Contains (d.successors a) b
              → Contains (([] ++ flat t.closed) ++ group) b
          shut_edge a b there edge =
              let seen : Explored d t.path inside a b = elim (Contains-append_cases run.fresh (n ∷ []) a
              (subst (λ zs. Contains zs a) (the_group ∙ ap (λ zs. run.fresh ++ n ∷ zs) none_older) there)) [
                | inl new ↦ run.explores a new b edge
                | inr last ↦ elim (contains_cases [] n a last) [
                  | inl one ↦ subst (λ z. Explored d t.path inside z b) (sym one)
                      (edges b (subst (λ z. Contains (d.successors z) b) one edge))
                  | inr no_more ↦ absurd (contains_none a no_more)
                ]
              ] in
              elim (run.holds.held b seen.0) [
                | inl on ↦ elim (Contains-append_cases group (flat rest) b (subst (λ q. Contains (flat q) b) was on)) [
                  | inl here' ↦ Contains-append_right (flat t.closed) group b here'
                  | inr older ↦
                      absurd (unique_apart group (flat rest)
                      (unique_left (group ++ flat rest) (flat t.closed) once) a there
                      (seen.1 (group ∷ []) rest was older))
                ]
                | inr done ↦ Contains-append_left (flat t.closed) group b done
              ]

      stays : ¬ (EndsWith group n) → Progress d s met (Pre n ∷ within ++ Post n ∷ []) t inside
      stays not_yet = go under.0 under.1 under.2 under.3 the_group
        where
          go : (mid lower : List (List Node)) → s.path ≡ mid ++ lower
              → t.path ≡ (run.fresh ++ ((n ∷ []) ++ flat mid)) ∷ lower
              → group ≡ run.fresh ++ n ∷ flat mid → Progress d s met (Pre n ∷ within ++ Post n ∷ []) t inside
          go [] lower older now is = absurd (not_yet (run.fresh, is))
          go (g ∷ gs) lower older now is = record {
            fresh = run.fresh ++ n ∷ [];
            classes = run.classes;
            firsts = run.firsts;
            grows = inr (
              g,
              gs,
              lower,
              older,
              now ∙ ap (λ zs. zs ∷ lower)
                  (sym (append_assoc run.fresh (n ∷ []) (g ++ flat gs))),
            );
            closes = run.closes;
            holds = run.holds;
            explores = λ x new y edge. elim (Contains-append_cases run.fresh (n ∷ []) x new) [
              | inl old ↦ run.explores x old y edge
              | inr last ↦ elim (contains_cases [] n x last) [
                | inl one ↦ subst (λ z. Explored d t.path inside z y) (sym one)
                    (edges y (subst (λ z. Contains (d.successors z) y) one edge))
                | inr no_more ↦ absurd (contains_none x no_more)
              ]
            ];
            keeps = λ a b there explored. run.keeps a b (contains_later (flat s.path) n a there)
                (entered a b there explored);
            fresh_part = new_part;
            class_parts = old_parts;
            ends = run.ends;
            first_part = subst (λ zs. IsPart run.firsts zs) (sym lefts)
                (part_longer run.firsts (left_in within) (n ∷ []) run.first_part);
          }

  -- a visit, from where its node is met until it is left
  pub visit_follows : (s t u : Search Node) (met inside : List Node) (n : Node) (within : List (DfsEvent Node))
      → Holds d s met → ¬ (Contains met n)
      → Progress d (record { path = (n ∷ []) ∷ s.path; closed = s.closed }) (n ∷ met) within t inside
      → ((y : Node) → Contains (d.successors n) y → Explored d t.path inside n y)
      → Turns t (Post n) u
      → Progress d s met (Pre n ∷ within ++ Post n ∷ []) u inside
  visit_follows s t u met inside n within h fresh run edges (inl (group, rest, was, ends, done)) =
      visit_by_group s t u met inside n within h fresh run edges group rest was (inl (ends, done))
  visit_follows s t u met inside n within h fresh run edges (inr (not_yet, same)) =
      let (mid, lower, older, was) = grows_under d (n ∷ []) s.path t.path run.fresh run.grows in
      visit_by_group s t u met inside n within h fresh run edges (run.fresh ++ ((n ∷ []) ++ flat mid)) lower was
      (inr (not_yet (run.fresh ++ ((n ∷ []) ++ flat mid)) lower was, same))
