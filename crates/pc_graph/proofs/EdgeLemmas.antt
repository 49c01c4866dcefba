-- An edge that has been followed, from a node of the newest group.
use Rattle.std.proofs.Common.{◌≡◌, List, [], ◌∷◌, ◌++◌, refl, sym, ◌∙◌, ap, subst, inl, inr, append_assoc}
use Rattle.std.specs.List.{Contains}
use Rattle.std.proofs.lemmas.List.{append-nil}
use Rattle.std.proofs.lemmas.List.Elements.{Contains-append_left, Contains-append_right}
use Rattle.pc_graph.specs.Classes.{flat}
use Rattle.pc_graph.specs.Digraph.{Digraph, Reaches}
use Rattle.pc_graph.specs.Searching.{IsUnique, Search, Turns}
use Rattle.pc_graph.specs.declared.dfs.DfsEvent.TheVariants.{AfterEdge}
use Rattle.pc_graph.proofs.MemberLemmas.{contains_none}
use Rattle.pc_graph.proofs.PartLemmas.{flat-append, flat-push, unique_apart, unique_left, unique_right}
use Rattle.pc_graph.proofs.TourLemmas.{reaches_edge, reaches_on}
use Rattle.pc_graph.proofs.GrowthLemmas.{Explored, Holds, Linked, Progress, linked_lower, linked_up}

module _ {Node : Type 0} (d : Digraph Node) where
  -- an edge from a node of the newest group
  pub edge_follows : (s t : Search Node) (met : List Node) (p n : Node) (top : List Node) (rest : List (List Node))
      → Holds d s met → s.path ≡ top ∷ rest → Contains top p → Contains met n → Contains (d.successors p) n
      → Turns s (AfterEdge p n) t
      → Progress d s met (AfterEdge p n ∷ []) t met × Explored d t.path met p n
  edge_follows s t met p n top rest h is there known edge (inr (apart, same)) =
      let P : Search Node → Type 0 = λ u. Progress d s met (AfterEdge p n ∷ []) u met × Explored d u.path met p n in
      subst P (sym same) (
        record {
          fresh = [];
          classes = [];
          firsts = [];
          grows = inl (refl, refl);
          closes = sym (append-nil s.closed);
          holds = h;
          explores = λ x new y e. absurd (contains_none x new);
          keeps = λ a b on done. done;
          fresh_part = tt;
          class_parts = λ c some. absurd (contains_none c some);
          ends = tt;
          first_part = tt;
        },
        (
          known,
          λ upper lower was into. absurd (apart (subst (λ q. Contains (flat q) n) (sym was)
              (subst (λ zs. Contains zs n) (sym (flat-append upper lower))
              (Contains-append_right (flat upper) (flat lower) n into)))),
        ),
      )
  edge_follows s t met p n top rest h is there known edge
      (inl (joined, (upper, lower, group, was, in_group, join), now)) =
      let P : Search Node → Type 0 = λ u. Progress d s met (AfterEdge p n ∷ []) u met × Explored d u.path met p n in
      let Q : List (List Node) → Type 0 = λ j. P (record { path = j; closed = s.closed }) in
      subst P (sym now) (subst Q (sym join) ready)
    where
      -- the joined groups hold the same nodes
      whole : flat (flat (upper ++ group ∷ []) ∷ lower) ≡ flat s.path
      whole = sym (flat-append (upper ++ group ∷ []) lower) ∙ ap flat (append_assoc upper (group ∷ []) lower)
          ∙ ap flat (sym was)

      -- the newest group is the first of those that are joined
      taken_in : (us : List (List Node)) → top ∷ rest ≡ us ++ group ∷ lower
          → (mid : List (List Node)) × (us ++ group ∷ [] ≡ top ∷ mid) × (rest ≡ mid ++ lower)
      taken_in [] e =
          let first : top ≡ group = cc in
          let later : rest ≡ lower = cc in
          ([], ap (λ g. g ∷ []) (sym first), later)
      taken_in (u ∷ us) e =
          let first : top ≡ u = cc in
          let later : rest ≡ us ++ group ∷ lower = cc in (
            us ++ group ∷ [],
            ap (λ g. g ∷ (us ++ group ∷ [])) (sym first),
            later
                ∙ sym (append_assoc us (group ∷ []) lower),
          )

      linked : Linked d (upper ++ group ∷ lower)
      linked = subst (Linked d) was h.linked

      reach : (x y : Node) → Contains (flat s.path) x → Contains (flat (upper ++ group ∷ [])) y → Reaches d x y
      reach x y from into =
          let tops : Linked d (top ∷ rest) = subst (Linked d) is h.linked in
          reaches_on d x p y (tops.1 x p (subst (λ q. Contains (flat q) x) is from) there)
          (reaches_edge d p n y edge (linked_up d upper lower group n y linked in_group into))

      below : (x : Node) → Contains group x → Contains (flat lower) x → ⊥
      below x a b =
          let once : IsUnique (flat (upper ++ group ∷ lower)) =
          subst (λ q. IsUnique (flat q)) was (unique_left (flat s.path) (flat s.closed) h.unique) in
          let once' : IsUnique (flat upper ++ flat (group ∷ lower)) =
          subst IsUnique (flat-append upper (group ∷ lower)) once in
          unique_apart group (flat lower) (unique_right (flat upper) (flat (group ∷ lower)) once') x a b

      on_whole : (x : Node) → Contains (flat s.path) x → Contains (flat (flat (upper ++ group ∷ []) ∷ lower)) x
      on_whole x c = subst (λ zs. Contains zs x) (sym whole) c

      from_whole : (x : Node) → Contains (flat (flat (upper ++ group ∷ []) ∷ lower)) x → Contains (flat s.path) x
      from_whole x c = subst (λ zs. Contains zs x) whole c

      n_on_path : Contains (flat (upper ++ group ∷ [])) n
      n_on_path = subst (λ zs. Contains zs n) (sym (flat-push upper group))
          (Contains-append_right (flat upper) group n in_group)

      p_on_path : Contains (flat s.path) p
      p_on_path = subst (λ q. Contains (flat q) p) (sym is) (Contains-append_left top (flat rest) p there)

      -- an older part of the joined groups is all of them, or an older part of the groups before
      keeps : (u v : Node) → Contains (flat s.path) u → Explored d s.path met u v
          → Explored d (flat (upper ++ group ∷ []) ∷ lower) met u v
      keeps u v on_path (known', explored) = (known', go)
        where
          go : (up low : List (List Node)) → flat (upper ++ group ∷ []) ∷ lower ≡ up ++ low → Contains (flat low) v
              → Contains (flat low) u
          go [] low e into = subst (λ q. Contains (flat q) u) e (on_whole u on_path)
          go (g ∷ up) low e into =
              let under : lower ≡ up ++ low = cc in
              explored ((upper ++ group ∷ []) ++ up) low
              (was ∙ ap (λ l. upper ++ group ∷ l) under ∙ sym (append_assoc upper (group ∷ []) (up ++ low))
              ∙ sym (append_assoc (upper ++ group ∷ []) up low)) into

      new_edge : (up low : List (List Node)) → flat (upper ++ group ∷ []) ∷ lower ≡ up ++ low → Contains (flat low) n
          → Contains (flat low) p
      new_edge [] low e into = subst (λ q. Contains (flat q) p) e (on_whole p p_on_path)
      new_edge (g ∷ up) low e into =
          let under : lower ≡ up ++ low = cc in
          absurd (below n in_group (subst (λ q. Contains (flat q) n) (sym under)
          (subst (λ zs. Contains zs n) (sym (flat-append up low)) (Contains-append_right (flat up) (flat low) n into))))

      ready : Progress d s met (AfterEdge p n ∷ [])
          (record { path = flat (upper ++ group ∷ []) ∷ lower; closed = s.closed }) met
          × Explored d (flat (upper ++ group ∷ []) ∷ lower) met p n
      ready =
          let (mid, joins, under) = taken_in upper (sym is ∙ was) in (
            record {
              fresh = [];
              classes = [];
              firsts = [];
              grows = inr (top, mid, lower, is ∙ ap (λ r. top ∷ r) under, ap (λ gs. flat gs ∷ lower) joins);
              closes = sym (append-nil s.closed);
              holds = record {
                held = λ x c. elim (h.held x c) [ inl a ↦ inl (on_whole x a) | inr b ↦ inr b ];
                on_path = λ x c. h.on_path x (from_whole x c);
                in_class = h.in_class;
                unique = subst (λ zs. IsUnique (zs ++ flat s.closed)) (sym whole) h.unique;
                linked = (
                  (n, n_on_path),
                  λ x y from into. reach x y (from_whole x from) into,
                  linked_lower d (upper ++ group ∷ []) lower
                      (subst (Linked d) (sym (append_assoc upper (group ∷ []) lower)) linked),
                );
                shut = h.shut;
              };
              explores = λ x new y e. absurd (contains_none x new);
              keeps = keeps;
              fresh_part = tt;
              class_parts = λ c some. absurd (contains_none c some);
              ends = tt;
              first_part = tt;
            },
            (known, new_edge),
          )
