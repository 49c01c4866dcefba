-- The search along the traversal: what is kept from event to event.
use Rattle.std.proofs.Common.{◌≡◌, ◌⊎◌, ◌↔◌, ℕ, suc, ◌+◌, ◌-◌, ◌*◌, ◌<◌, Bool, true, false, Option, None, Some, List}
use Rattle.std.proofs.Common.{[], ◌∷◌, ◌++◌, length, reverse, refl, sym, ◌∙◌, ap, subst, inl, inr, append_assoc}
use Rattle.std.proofs.Common.{true≢false, add-zero, suc-mul, arith}
use Rattle.std.specs.List.{Contains}
use Rattle.std.specs.Option.{option_to_list}
use Rattle.std.proofs.lemmas.List.{append-nil, length-append, length-reverse}
use Rattle.std.proofs.lemmas.List.Elements.{Contains-append_left, Contains-append_right, Contains-append_cases}
use Rattle.pc_entity.specs.SecondaryMap.{value_at}
use Rattle.pc_graph.specs.Classes.{AreComponents, flat}
use Rattle.pc_graph.specs.Digraph.{Digraph}
use Rattle.pc_graph.specs.Searching.{CanTurn, Follows, Held, IsNoted, Joins, Search, StandsFor, Turns, was_met}
use Rattle.pc_graph.specs.Steps.{Remains, SaysExactly, Steps, met_after}
use Rattle.pc_graph.specs.Tour.{IsTour}
use Rattle.pc_graph.specs.declared.dfs.DfsEvent.{DfsEvent}
use Rattle.pc_graph.specs.declared.dfs.DfsEvent.TheVariants.{Pre, AfterEdge, Post}
use Rattle.pc_graph.specs.declared.search.Noted.{Noted}
use Rattle.pc_graph.specs.declared.search.Noted.TheVariants.{Unmet, OnStack, Closed}
use Rattle.pc_graph.proofs.ComponentLemmas.{search_finds}
use Rattle.pc_graph.proofs.MemberLemmas.{contains_cases, contains_first, contains_from_reversed, contains_got}
use Rattle.pc_graph.proofs.MemberLemmas.{contains_later, contains_none}
use Rattle.pc_graph.proofs.PartLemmas.{flat-append, flat-push}

-- a node that wasn't met is noted so
unmet : (v : Noted) → false ≡ was_met v → v ≡ Unmet
unmet Unmet e = refl
unmet (OnStack k) e = cc
unmet Closed e = cc

module _ {Node : Type 0} (number : Node → ℕ) where
  -- what the traversal is told of a node
  abbrev pub Tells : Held Node → Node → Bool → Type 0
  Tells held n answer = answer ≡ was_met (value_at held.noted (number n))

  -- the nodes of a search
  abbrev pub IsIn : Search Node → Node → Type 0
  IsIn s n = Contains (flat s.path) n ⊎ Contains (flat s.closed) n

  -- it is told exactly of the nodes of the search
  tells_exactly : (held : Held Node) (s : Search Node) (met : List Node) → StandsFor number held s
      → ((n : Node) → Contains met n ↔ IsIn s n) → SaysExactly (Tells held) met
  tells_exactly held s met h same n answer is = (
    λ told. (same n).1 (there (value_at held.noted (number n)) (sym is ∙ told) (h.noted n)),
    λ c. is ∙ told_of (value_at held.noted (number n)) ((same n).0 c) (h.noted n),
  )
    where
      there : (v : Noted) → was_met v ≡ true → IsNoted s n v → IsIn s n
      there Unmet told none = absurd (true≢false (sym told))
      there (OnStack k) told at =
          inl (contains_from_reversed (flat s.path) n (contains_got (reverse (flat s.path)) k n at))
      there Closed told done = inr done

      told_of : (v : Noted) → IsIn s n → IsNoted s n v → was_met v ≡ true
      told_of Unmet c none = elim c [ inl a ↦ absurd (none.0 a) | inr b ↦ absurd (none.1 b) ]
      told_of (OnStack k) c at = refl
      told_of Closed c done = refl

  -- a node that is met is new
  can_turn : (d : Digraph Node) (held : Held Node) (old new : List (DfsEvent Node)) (event : DfsEvent Node)
      → Steps (Tells held) d old (Some event) new → CanTurn number held event
  can_turn d held old new (Pre n) (skipped, below, seen, is, (said, pushed, pushes, left)) =
      unmet (value_at held.noted (number n)) said
  can_turn d held old new (AfterEdge from to) steps = tt
  can_turn d held old new (Post n) steps = tt

  -- what is kept: the events so far, what they made of the search, and that what remains ends the tour
  pub record Going (d : Digraph Node) (dfs : List (DfsEvent Node)) (held : Held Node) : Type 0 where
    pub given : List (DfsEvent Node)
    pub search : Search Node
    pub met : List Node
    pub stands : StandsFor number held search
    pub follows : Follows (record { path = []; closed = [] }) given search
    pub same : (n : Node) → Contains met n ↔ IsIn search n
    pub ends : (rest : List (DfsEvent Node)) (later : List Node) → Remains d met dfs rest later
        → IsTour d d.nodes (given ++ rest) later

  -- before the first event
  pub going_from : (d : Digraph Node) (dfs : List (DfsEvent Node)) (held : Held Node)
      → StandsFor number held (record { path = []; closed = [] })
      → ((rest : List (DfsEvent Node)) (later : List Node) → Remains d [] dfs rest later → IsTour d d.nodes rest later)
      → Going d dfs held
  going_from d dfs held stands ends = record {
    given = [];
    search = record { path = []; closed = [] };
    met = [];
    stands = stands;
    follows = refl;
    same = λ n. ((λ c. absurd (contains_none n c)), (λ c. elim c [ inl a ↦ a | inr b ↦ b ]));
    ends = ends;
  }

  -- one event more
  follows_push : (s t u : Search Node) (events : List (DfsEvent Node)) (event : DfsEvent Node) → Follows s events t
      → Turns t event u
      → Follows s (events ++ event ∷ []) u
  follows_push s t u [] event same turns = (u, subst (λ w. Turns w event u) same turns, refl)
  follows_push s t u (e ∷ es) event (mid, first, more) turns = (mid, first, follows_push mid t u es event more turns)

  -- joined groups hold the same nodes
  joins_same : (path joined : List (List Node)) (n : Node) → Joins path n joined → flat joined ≡ flat path
  joins_same path joined n (upper, lower, group, was, there, is) =
      ap flat is ∙ sym (flat-append (upper ++ group ∷ []) lower) ∙ ap flat (append_assoc upper (group ∷ []) lower)
      ∙ ap flat (sym was)

  -- an event changes the nodes of the search as it changes those that were met
  turned_same : (s t : Search Node) (event : DfsEvent Node) (met : List Node) → Turns s event t
      → ((n : Node) → Contains met n ↔ IsIn s n)
      → (n : Node) → Contains (met_after met (Some event)) n ↔ IsIn t n
  turned_same s t (Pre m) met now same n = subst (λ w. Contains (m ∷ met) n ↔ IsIn w n) (sym now) (
    (λ c. elim (contains_cases met m n c) [
      | inl one ↦ inl (subst (λ z. Contains (m ∷ flat s.path) z) (sym one) (contains_first (flat s.path) m))
      | inr old ↦ elim ((same n).0 old) [ inl a ↦ inl (contains_later (flat s.path) m n a) | inr b ↦ inr b ]
    ]),
    λ c. elim c [
      | inl on ↦ elim (contains_cases (flat s.path) m n on) [
        | inl one ↦ subst (λ z. Contains (m ∷ met) z) (sym one) (contains_first met m)
        | inr old ↦ contains_later met m n ((same n).1 (inl old))
      ]
      | inr done ↦ contains_later met m n ((same n).1 (inr done))
    ],
  )
  turned_same s t (AfterEdge from to) met (inr (apart, now)) same n =
      subst (λ w. Contains met n ↔ IsIn w n) (sym now) (same n)
  turned_same s t (AfterEdge from to) met (inl (joined, joins, now)) same n =
      subst (λ w. Contains met n ↔ IsIn w n) (sym now) (
        (λ c. elim ((same n).0 c)
            [ inl a ↦ inl (subst (λ ns. Contains ns n) (sym (joins_same s.path joined to joins)) a) | inr b ↦ inr b ]),
        λ c. elim c [
          | inl a ↦ (same n).1 (inl (subst (λ ns. Contains ns n) (joins_same s.path joined to joins) a))
          | inr b ↦
              (same n).1 (inr b)
        ],
      )
  turned_same s t (Post m) met (inr (apart, now)) same n = subst (λ w. Contains met n ↔ IsIn w n) (sym now) (same n)
  turned_same s t (Post m) met (inl (group, rest, was, ends, now)) same n =
      subst (λ w. Contains met n ↔ IsIn w n) (sym now) (
        (λ c. elim ((same n).0 c) [
          | inl a ↦ elim (Contains-append_cases group (flat rest) n (subst (λ q. Contains (flat q) n) was a)) [
            | inl new ↦
                inr (subst (λ ns. Contains ns n) (sym (flat-push s.closed group))
                (Contains-append_right (flat s.closed) group n new))
            | inr old ↦ inl old
          ]
          | inr b ↦
              inr (subst (λ ns. Contains ns n) (sym (flat-push s.closed group))
              (Contains-append_left (flat s.closed) group n b))
        ]),
        λ c. elim c [
          | inl old ↦
              (same n).1
              (inl (subst (λ q. Contains (flat q) n) (sym was) (Contains-append_right group (flat rest) n old)))
          | inr done ↦
              elim (Contains-append_cases (flat s.closed) group n
              (subst (λ ns. Contains ns n) (flat-push s.closed group) done)) [
                | inl b ↦ (same n).1 (inr b)
                | inr new ↦
                    (same n).1
                    (inl (subst (λ q. Contains (flat q) n) (sym was)
                    (Contains-append_left group (flat rest) n new)))
              ]
        ],
      )

  -- an event more
  going_on : (d : Digraph Node) (old new : List (DfsEvent Node)) (held later : Held Node) (event : DfsEvent Node)
      (g : Going d old held)
      → ((t : Search Node) × Turns g.search event t × StandsFor number later t)
      → ((rest : List (DfsEvent Node)) (end : List Node) → Remains d (met_after g.met (Some event)) new rest end
      → Remains d g.met old (event ∷ rest) end)
      → Going d new later
  going_on d old new held later event g (t, turns, stands) remains = record {
    given = g.given ++ event ∷ [];
    search = t;
    met = met_after g.met (Some event);
    stands = stands;
    follows = follows_push (record { path = []; closed = [] }) g.search t g.given event g.follows turns;
    same = turned_same g.search t event g.met turns g.same;
    ends = λ rest end more. subst (λ es. IsTour d d.nodes es end) (sym (append_assoc g.given (event ∷ []) rest))
        (g.ends (event ∷ rest) end (remains rest end more));
  }

  -- at the end of the traversal the search has found the components
  going_ends : (d : Digraph Node) (old new : List (DfsEvent Node)) (held : Held Node) (g : Going d old held)
      → Steps (Tells held) d old None new
      → ((rest : List (DfsEvent Node)) (end : List Node) → Remains d g.met new rest end → Remains d g.met old rest end)
      → (s : Search Node) × StandsFor number held s × AreComponents d s.closed
  going_ends d old new held g (seen, none_left) remains =
      let P : List (DfsEvent Node) → Type 0 = λ es. Remains d g.met es [] g.met in
      let toured = g.ends [] g.met (remains [] g.met (subst P (sym none_left) (refl, refl))) in (
        g.search,
        g.stands,
        search_finds d (g.given ++ []) g.met g.search toured
            (subst (λ es. Follows (record { path = []; closed = [] }) es g.search)
            (sym (append-nil g.given)) g.follows),
      )

  -- how many nodes the program holds
  held_size : (held : Held Node) (s : Search Node) → StandsFor number held s
      → length held.stack + length held.nodes ≡ length (flat s.path) + length (flat s.closed)
  held_size held s h = let a = ap length h.stack ∙ length-reverse (flat s.path) in let b = ap length h.nodes in
      omega arith

  -- a node that is met makes the search longer by one, and other events leave its length and make the stack shorter
  turned_size : (s t : Search Node) (event : DfsEvent Node) → Turns s event t
      → (grown : ℕ)
      × (length (flat t.path) + length (flat t.closed) ≡ length (flat s.path) + length (flat s.closed) + grown)
      × ((grown ≡ 1) ⊎ ((grown ≡ 0) × ((n : Node) → event ≡ Pre n → ⊥)))
  turned_size s t (Pre n) now = (
    1,
    ap (λ w. length (flat w.path) + length (flat w.closed)) now
        ∙ (let x : suc (length (flat s.path)) + length (flat s.closed) ≡ length (flat s.path) + length
        (flat s.closed) + 1 = omega arith in x),
    inl refl,
  )
  turned_size s t (AfterEdge from to) (inr (apart, now)) = (
    0,
    ap (λ w. length (flat w.path) + length (flat w.closed)) now ∙ sym (add-zero _),
    inr (refl, λ n e. cc),
  )
  turned_size s t (AfterEdge from to) (inl (joined, joins, now)) = (
    0,
    ap (λ w. length (flat w.path) + length (flat w.closed)) now
        ∙ ap (λ ns. length ns + length (flat s.closed)) (joins_same s.path joined to joins)
        ∙ sym (add-zero _),
    inr (refl, λ n e. cc),
  )
  turned_size s t (Post m) (inr (apart, now)) = (
    0,
    ap (λ w. length (flat w.path) + length (flat w.closed)) now ∙ sym (add-zero _),
    inr (refl, λ n e. cc),
  )
  turned_size s t (Post m) (inl (group, rest, was, ends, now)) =
      let a = ap length (flat-push s.closed group) ∙ length-append (flat s.closed) group in
      let b = ap (λ q. length (flat q)) was ∙ length-append group (flat rest) in
      let c : length (flat rest) + length (flat (s.closed ++ group ∷ [])) ≡ length (flat s.path) + length
      (flat s.closed) + 0 = omega arith in
      (0, ap (λ w. length (flat w.path) + length (flat w.closed)) now ∙ c, inr (refl, λ n e. cc))

  -- an event that is no visit makes the stack shorter
  steps_shorter : (Says : Node → Bool → Type 0) (d : Digraph Node) (old new : List (DfsEvent Node))
      (event : DfsEvent Node)
      → Steps Says d old (Some event) new → ((n : Node) → event ≡ Pre n → ⊥) → length new < length old
  steps_shorter Says d old new (Pre n) steps other = absurd (other n refl)
  steps_shorter Says d old new (AfterEdge from to) (skipped, below, seen, is, leaves) other =
      let a = ap length is ∙ length-append skipped (AfterEdge from to ∷ below) in let b = ap length leaves in
      omega arith
  steps_shorter Says d old new (Post n) (skipped, below, seen, is, leaves) other =
      let a = ap length is ∙ length-append skipped (Post n ∷ below) in let b = ap length leaves in omega arith

-- of two numbers that count down, the first falls, or stays while the second falls
falls : (big wide c c' k k' : ℕ) → c < big → ((c' ≡ c + 1) × (k' < wide)) ⊎ ((c' ≡ c) × (k' < k))
    → (big - c') * wide + k' < (big - c) * wide + k
falls big wide c c' k k' below (inl (more, small)) =
    let e : big - c ≡ suc (big - c') = omega arith in
    let m : (big - c) * wide ≡ (big - c') * wide + wide = ap (λ n. n * wide) e ∙ suc-mul (big - c') wide in
    omega arith
falls big wide c c' k k' below (inr (same, less)) =
    let m : (big - c') * wide ≡ (big - c) * wide = ap (λ n. (big - n) * wide) same in omega arith

module _ {Node : Type 0} (number : Node → ℕ) where
  -- the loop ends
  going_falls : (d : Digraph Node) (big wide : ℕ) (old new : List (DfsEvent Node)) (held later : Held Node)
      (event : DfsEvent Node) (s : Search Node)
      → StandsFor number held s → ((t : Search Node) × Turns s event t × StandsFor number later t)
      → Steps (Tells number held) d old (Some event) new
      → length later.stack + length later.nodes < big → length new < wide
      → (big - (length later.stack + length later.nodes)) * wide + length new <
      (big - (length held.stack + length held.nodes)) * wide + length old
  going_falls d big wide old new held later event s h (t, turns, h') steps room short =
      let a = held_size number held s h in
      let b = held_size number later t h' in
      let (grown, size, how) = turned_size number s t event turns in
      falls big wide (length held.stack + length held.nodes) (length later.stack + length later.nodes) (length old)
      (length new) (omega arith)
      (elim how [
        | inl one ↦ inl (omega arith, short)
        | inr none_met ↦ inr (omega arith, steps_shorter number (Tells number held) d old new event steps none_met.1)
      ])

-- A round of the loop over the traversal, by what it gives next.
module _ {Node : Type 0} (number : Node → ℕ) (d : Digraph Node) (old new : List (DfsEvent Node)) (held : Held Node)
    (given : Option (DfsEvent Node)) (steps : Steps (Tells number held) d old given new) where
  -- an event can be taken in
  pub can_take : (event : DfsEvent Node) → given ≡ Some event → CanTurn number held event
  can_take event is =
      can_turn number d held old new event (subst (λ o. Steps (Tells number held) d old o new) is steps)

  module _ (g : Going number d old held)
      (remains : SaysExactly (Tells number held) g.met → (rest : List (DfsEvent Node)) (end : List Node)
      → Remains d (met_after g.met given) new rest end → Remains d g.met old (option_to_list given ++ rest) end) where
    -- the events to come, by those that are to come behind what is given
    to_come : (o : Option (DfsEvent Node)) → given ≡ o → (rest : List (DfsEvent Node)) (end : List Node)
        → Remains d (met_after g.met o) new rest end → Remains d g.met old (option_to_list o ++ rest) end
    to_come o is = subst P is (remains (tells_exactly number held g.search g.met g.stands g.same))
      where
        P : Option (DfsEvent Node) → Type 0
        P x = (rest : List (DfsEvent Node)) (end : List Node) → Remains d (met_after g.met x) new rest end
            → Remains d g.met old (option_to_list x ++ rest) end

    -- it is taken in
    pub take_on : (later : Held Node) (event : DfsEvent Node) → given ≡ Some event
        → ((t : Search Node) × Turns g.search event t × StandsFor number later t) → Going number d new later
    take_on later event is turned = going_on number d old new held later event g turned (to_come (Some event) is)

    -- the loop ends
    pub take_falls : (big wide : ℕ) (later : Held Node) (event : DfsEvent Node) → given ≡ Some event
        → ((t : Search Node) × Turns g.search event t × StandsFor number later t)
        → length later.stack + length later.nodes < big → length new < wide
        → (big - (length later.stack + length later.nodes)) * wide + length new <
        (big - (length held.stack + length held.nodes)) * wide + length old
    take_falls big wide later event is turned room short =
        going_falls number d big wide old new held later event g.search g.stands turned
        (subst (λ o. Steps (Tells number held) d old o new) is steps) room short

    -- where no event is given, the search has found the components
    pub take_ends : given ≡ None → (s : Search Node) × StandsFor number held s × AreComponents d s.closed
    take_ends none =
        going_ends number d old new held g (subst (λ o. Steps (Tells number held) d old o new) none steps)
        (to_come None none)

-- what isn't some value is none
pub none_left : {X : Type 0} (o : Option X) → ((x : X) → o ≡ Some x → ⊥) → o ≡ None
none_left None other = refl
none_left (Some x) other = absurd (other x refl)
