-- The program's search and the search that it stands for.
use Rattle.std.proofs.Common.{◌≡◌, ℕ, Some, List, [], ◌∷◌, ◌++◌, slice_get, reverse, refl, sym, ◌∙◌, ap, subst, inl}
use Rattle.std.proofs.Common.{inr, append_assoc, arith, ◌+◌, length, take, drop, zero-add}
use Rattle.std.specs.List.{Contains}
use Rattle.std.proofs.lemmas.List.{reverse-append, length-append, length-reverse, reverse-reverse, take_at, drop_at}
use Rattle.std.proofs.lemmas.List.Elements.{Contains-append_left, Contains-append_right, Contains-append_cases}
use Rattle.pc_graph.specs.Classes.{flat, ends_from}
use Rattle.pc_graph.specs.Searching.{IsUnique, Search, Held, IsNoted, StandsFor, heads_of}
use Rattle.pc_graph.proofs.MemberLemmas.{contains_cases, contains_from_reversed, contains_got, contains_none}
use Rattle.pc_graph.proofs.PartLemmas.{flat-push, unique_apart, unique_left, unique_rotate, ends-push}
use Rattle.pc_entity.proofs.Growing.{slice_get-append, slice_get-append_seam}
use Rattle.pc_entity.specs.SecondaryMap.{value_at, with_value_at}
use Rattle.pc_graph.specs.declared.search.Noted.{Noted}
use Rattle.pc_graph.specs.declared.search.Noted.TheVariants.{Unmet, OnStack, Closed}
use Rattle.pc_graph.proofs.MapLemmas.{noted_set}
use Rattle.pc_graph.proofs.GroupLemmas.{below_or_not, got_before, got_behind, push_same, stack_of}

module _ {Node : Type 0} (number : Node → ℕ) (injective : (a b : Node) → number a ≡ number b → a ≡ b) where
  -- a node is met
  pub stands_met : (held later : Held Node) (s : Search Node) (n : Node) → StandsFor number held s
      → value_at held.noted (number n) ≡ Unmet
      → later ≡ record {
        stack = held.stack ++ n ∷ [];
        heads = held.heads ++ length held.stack ∷ [];
        noted = with_value_at held.noted (number n) (OnStack (length held.stack));
        nodes = held.nodes;
        ends = held.ends;
      }
      → StandsFor number later (record { path = (n ∷ []) ∷ s.path; closed = s.closed })
  stands_met held later s n h new is = subst (λ l. StandsFor number l now) (sym is) (record {
    stack = ap (λ ns. ns ++ n ∷ []) h.stack ∙ sym (reverse-append (n ∷ []) (flat s.path));
    heads = ap (λ ks. ks ++ length held.stack ∷ []) h.heads ∙ ap (λ k. heads_of s.path ++ k ∷ []) long;
    nodes = h.nodes;
    ends = h.ends;
    noted = λ m. elim (noted_set number injective held.noted n m (OnStack (length held.stack))) [
      | inl same ↦ subst (λ v. IsNoted now m v) (sym same.1)
          (subst (λ z. slice_get (reverse (n ∷ flat s.path)) (length held.stack) ≡ Some z) (sym same.0) at_end)
      | inr apart ↦ subst (λ v. IsNoted now m v) (sym apart.1)
          (still m apart.0 (value_at held.noted (number m)) (h.noted m))
    ];
    unique = (fresh, h.unique);
  })
    where
      now : Search Node
      now = record { path = (n ∷ []) ∷ s.path; closed = s.closed }

      long : length held.stack ≡ length (flat s.path)
      long = ap length h.stack ∙ length-reverse (flat s.path)

      turned : reverse (n ∷ flat s.path) ≡ reverse (flat s.path) ++ n ∷ []
      turned = reverse-append (n ∷ []) (flat s.path)

      at_end : slice_get (reverse (n ∷ flat s.path)) (length held.stack) ≡ Some n
      at_end =
          ap (λ ns. slice_get ns (length held.stack)) turned
          ∙ ap (λ k. slice_get (reverse (flat s.path) ++ n ∷ []) k) (ap length h.stack)
          ∙ slice_get-append_seam (reverse (flat s.path)) n []

      fresh : Contains (flat s.path ++ flat s.closed) n → ⊥
      fresh c =
          let none : IsNoted s n Unmet = subst (λ v. IsNoted s n v) new (h.noted n) in
          elim (Contains-append_cases (flat s.path) (flat s.closed) n c) [ inl a ↦ none.0 a | inr b ↦ none.1 b ]

      still : (m : Node) → ¬ (m ≡ n) → (v : Noted) → IsNoted s m v → IsNoted now m v
      still m apart Unmet none = (
        λ c. elim (contains_cases (flat s.path) n m c) [ inl one ↦ apart one | inr old ↦ none.0 old ],
        none.1,
      )
      still m apart (OnStack k) at =
          ap (λ ns. slice_get ns k) turned ∙ slice_get-append (reverse (flat s.path)) (n ∷ []) k m at
      still m apart Closed done = done

module _ {Node : Type 0} (number : Node → ℕ) where
  -- nothing was met
  pub stands_empty : (held : Held Node) → held ≡ record {
    stack = [];
    heads = [];
    noted = record { items = []; default = Unmet };
    nodes = [];
    ends = [];
  }
      → StandsFor number held (record { path = []; closed = [] })
  stands_empty held is = subst (λ h. StandsFor number h (record { path = []; closed = [] })) (sym is) (record {
    stack = refl;
    heads = refl;
    nodes = refl;
    ends = refl;
    noted = λ n. ((λ c. contains_none n c), (λ c. contains_none n c));
    unique = tt;
  })

  -- groups are joined
  pub stands_joined : (held later : Held Node) (s : Search Node) (joined : List (List Node)) → StandsFor number held s
      → flat joined ≡ flat s.path
      → later ≡ record {
        stack = held.stack;
        heads = heads_of joined;
        noted = held.noted;
        nodes = held.nodes;
        ends = held.ends;
      }
      → StandsFor number later (record { path = joined; closed = s.closed })
  stands_joined held later s joined h same is = subst (λ l. StandsFor number l now) (sym is) (record {
    stack = h.stack ∙ ap reverse (sym same);
    heads = refl;
    nodes = h.nodes;
    ends = h.ends;
    noted = λ m. still m (value_at held.noted (number m)) (h.noted m);
    unique = subst (λ ns. IsUnique (ns ++ flat s.closed)) (sym same) h.unique;
  })
    where
      now : Search Node
      now = record { path = joined; closed = s.closed }

      still : (m : Node) (v : Noted) → IsNoted s m v → IsNoted now m v
      still m Unmet none = ((λ c. none.0 (subst (λ ns. Contains ns m) same c)), none.1)
      still m (OnStack k) at = ap (λ ns. slice_get (reverse ns) k) same ∙ at
      still m Closed done = done

  -- a node stands where it is noted
  pub noted_place : (held : Held Node) (s : Search Node) (n : Node) (k : ℕ) → StandsFor number held s
      → value_at held.noted (number n) ≡ OnStack k → slice_get held.stack k ≡ Some n
  noted_place held s n k h is =
      let at : IsNoted s n (OnStack k) = subst (λ v. IsNoted s n v) is (h.noted n) in
      ap (λ ns. slice_get ns k) h.stack ∙ at

  -- a node that wasn't met stands in no group
  pub noted_unmet : (held : Held Node) (s : Search Node) (n : Node) → StandsFor number held s
      → value_at held.noted (number n) ≡ Unmet → Contains (flat s.path) n → ⊥
  noted_unmet held s n h is c =
      let none : IsNoted s n Unmet = subst (λ v. IsNoted s n v) is (h.noted n) in none.0 c

  -- nor does one of a class
  pub noted_closed : (held : Held Node) (s : Search Node) (n : Node) → StandsFor number held s
      → value_at held.noted (number n) ≡ Closed → Contains (flat s.path) n → ⊥
  noted_closed held s n h is c =
      let done : IsNoted s n Closed = subst (λ v. IsNoted s n v) is (h.noted n) in
      unique_apart (flat s.path) (flat s.closed) h.unique n c done

  -- the newest group is closed
  pub stands_closed : (held later : Held Node) (s : Search Node) (group : List Node) (rest : List (List Node))
      (taken : List Node) (head : ℕ)
      → StandsFor number held s → s.path ≡ group ∷ rest → head ≡ length (flat rest)
      → taken ≡ reverse (drop head held.stack)
      → later.stack ≡ take head held.stack → (k : ℕ) → held.heads ≡ later.heads ++ k ∷ []
      → later.nodes ≡ held.nodes ++ taken → later.ends ≡ held.ends ++ length later.nodes ∷ []
      → ((n : Node) → Contains taken n → value_at later.noted (number n) ≡ Closed)
      → ((n : Node) → ¬ (Contains taken n) → value_at later.noted (number n) ≡ value_at held.noted (number n))
      → StandsFor number later (record { path = rest; closed = s.closed ++ group ∷ [] })
  stands_closed held later s group rest taken head h was is_head is_taken stack k heads nodes ends closed others =
      record {
        stack = stack ∙ ap (λ ns. take head ns) stack_is
            ∙ take_at (reverse (flat rest)) (reverse group) head (length-reverse (flat rest) ∙ sym is_head);
        heads = (push_same later.heads (heads_of rest) k (length (flat rest))
            (sym heads ∙ h.heads ∙ ap heads_of was)).0;
        nodes = nodes_are;
        ends = ends ∙ ap (λ ks. ks ++ length later.nodes ∷ []) h.ends
            ∙ ap (λ k. ends_from 0 s.closed ++ k ∷ []) (ap length nodes_are ∙ ap length (flat-push s.closed group)
            ∙ length-append (flat s.closed) group
            ∙ sym (zero-add (length (flat s.closed) + length group)))
            ∙ sym (ends-push 0 s.closed group);
        noted = λ m. still m (value_at held.noted (number m)) refl (h.noted m);
        unique = subst (λ ns. IsUnique (flat rest ++ ns)) (sym (flat-push s.closed group))
            (subst IsUnique (append_assoc (flat rest) (flat s.closed) group)
            (unique_rotate group (flat rest ++ flat s.closed)
            (subst IsUnique (append_assoc group (flat rest) (flat s.closed)) once)));
      }
    where
      now : Search Node
      now = record { path = rest; closed = s.closed ++ group ∷ [] }

      once : IsUnique ((group ++ flat rest) ++ flat s.closed)
      once = subst (λ q. IsUnique (flat q ++ flat s.closed)) was h.unique

      path_is : reverse (flat s.path) ≡ reverse (flat rest) ++ reverse group
      path_is = ap (λ q. reverse (flat q)) was ∙ stack_of group rest

      stack_is : held.stack ≡ reverse (flat rest) ++ reverse group
      stack_is = h.stack ∙ path_is

      same : taken ≡ group
      same = is_taken ∙ ap (λ ns. reverse (drop head ns)) stack_is
          ∙ ap reverse (drop_at (reverse (flat rest)) (reverse group) head (length-reverse (flat rest) ∙ sym is_head))
          ∙ reverse-reverse group

      nodes_are : later.nodes ≡ flat (s.closed ++ group ∷ [])
      nodes_are = nodes ∙ ap (λ ns. ns ++ taken) h.nodes ∙ ap (λ g. flat s.closed ++ g) same
          ∙ sym (flat-push s.closed group)

      on_path : (m : Node) → Contains group m → Contains (flat s.path) m
      on_path m c = subst (λ q. Contains (flat q) m) (sym was) (Contains-append_left group (flat rest) m c)

      apart : (m : Node) → Contains group m → Contains (flat rest) m → ⊥
      apart m a b = unique_apart group (flat rest) (unique_left (group ++ flat rest) (flat s.closed) once) m a b

      in_class : (m : Node) → Contains (flat s.closed ++ group) m → Contains (flat now.closed) m
      in_class m c = subst (λ ns. Contains ns m) (sym (flat-push s.closed group)) c

      -- what is noted of a node that isn't taken stays
      kept : (m : Node) (v : Noted) → value_at held.noted (number m) ≡ v → ¬ (Contains group m)
          → IsNoted now m v → IsNoted now m (value_at later.noted (number m))
      kept m v e off now_so =
          subst (λ w. IsNoted now m w) (sym (others m (λ c. off (subst (λ g. Contains g m) same c)) ∙ e)) now_so

      still : (m : Node) (v : Noted) → value_at held.noted (number m) ≡ v → IsNoted s m v
          → IsNoted now m (value_at later.noted (number m))
      still m Unmet e none = kept m Unmet e (λ c. none.0 (on_path m c)) (
        λ c. none.0 (subst (λ q. Contains (flat q) m) (sym was) (Contains-append_right group (flat rest) m c)),
        λ c. elim
            (Contains-append_cases (flat s.closed) group m (subst (λ ns. Contains ns m) (flat-push s.closed group) c)) [
              | inl old ↦ none.1 old
              | inr new ↦ none.0 (on_path m new)
            ],
      )
      still m (OnStack k) e at = elim (below_or_not k (length (flat rest))) [
        | inl below ↦
            let there : slice_get (reverse (flat rest)) k ≡ Some m =
            got_before (reverse (flat rest)) (reverse group) k m (ap (λ ns. slice_get ns k) (sym path_is) ∙ at)
            (let size = length-reverse (flat rest) in omega arith) in
            let older = contains_from_reversed (flat rest) m (contains_got (reverse (flat rest)) k m there) in
            kept m (OnStack k) e (λ c. apart m c older) there
        | inr above ↦
            let there : Contains group m = contains_from_reversed group m
            (got_behind (reverse (flat rest)) (reverse group) k m (ap (λ ns. slice_get ns k) (sym path_is) ∙ at)
            (let size = length-reverse (flat rest) in omega arith)) in
            subst (λ v. IsNoted now m v) (sym (closed m (subst (λ g. Contains g m) (sym same) there)))
            (in_class m (Contains-append_right (flat s.closed) group m there))
      ]
      still m Closed e done =
          kept m Closed e (λ c. unique_apart (flat s.path) (flat s.closed) h.unique m (on_path m c) done)
          (in_class m (Contains-append_left (flat s.closed) group m done))
