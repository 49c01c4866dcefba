-- The groups of the search on its stack: where they begin, and how they are joined.
use Rattle.std.proofs.Common.{◌≡◌, ◌⊎◌, ℕ, zero, suc, ◌≤◌, Option, None, Some, List, [], ◌∷◌, ◌++◌, slice_get, reverse}
use Rattle.std.proofs.Common.{refl, sym, ◌∙◌, ap, subst, inl, inr, append_assoc, arith, ◌+◌, ◌-◌, ◌<◌, length, get_or}
use Rattle.std.proofs.Common.{take, true≢false}
use Rattle.std.specs.List.{Contains}
use Rattle.std.specs.Prelude.{IsSome}
use Rattle.std.proofs.lemmas.List.{append-nil, reverse-append, length-append, length-reverse, reverse-reverse}
use Rattle.std.proofs.lemmas.List.{take-append-le, take_all}
use Rattle.pc_graph.specs.Classes.{EndsWith, flat}
use Rattle.pc_graph.specs.Searching.{Joins, heads_of}
use Rattle.pc_graph.proofs.MemberLemmas.{contains_from_reversed, contains_got}
use Rattle.pc_entity.proofs.Growing.{slice_get-append_seam}
use Rattle.std.specs.Option.{option_to_list}
use Rattle.pc_graph.proofs.PushLemmas.{reverse_push}

-- lists that end alike
pub push_same : {X : Type 0} (xs ys : List X) (x y : X) → xs ++ x ∷ [] ≡ ys ++ y ∷ [] → (xs ≡ ys) × (x ≡ y)
push_same xs ys x y e =
    let turned : x ∷ reverse xs ≡ y ∷ reverse ys = sym (reverse_push xs x) ∙ ap reverse e ∙ reverse_push ys y in
    let rest : reverse xs ≡ reverse ys = cc in
    let last : x ≡ y = cc in
    (sym (reverse-reverse xs) ∙ ap reverse rest ∙ reverse-reverse ys, last)

-- what is found in the first of two lists
pub got_before : {X : Type 0} (xs ys : List X) (i : ℕ) (x : X) → slice_get (xs ++ ys) i ≡ Some x → i < length xs
    → slice_get xs i ≡ Some x
got_before [] ys i x at below = absurd (omega arith)
got_before (z ∷ zs) ys zero x at below = at
got_before (z ∷ zs) ys (suc i) x at below = got_before zs ys i x at (omega arith)

-- what is found in the second of two lists
pub got_behind : {X : Type 0} (xs ys : List X) (i : ℕ) (x : X) → slice_get (xs ++ ys) i ≡ Some x → length xs ≤ i
    → Contains ys x
got_behind [] ys i x at above = contains_got ys i x at
got_behind (z ∷ zs) ys zero x at above = absurd (omega arith)
got_behind (z ∷ zs) ys (suc i) x at above = got_behind zs ys i x at (omega arith)

-- the last of the places
at_push : (ks : List ℕ) (k : ℕ) → get_or (ks ++ k ∷ []) (length ks) 0 ≡ k
at_push [] k = refl
at_push (j ∷ ks) k = at_push ks k

-- the places before the last
before_push : (ks : List ℕ) (k i : ℕ) → i < length ks → get_or (ks ++ k ∷ []) i 0 ≡ get_or ks i 0
before_push [] k i below = absurd (omega arith)
before_push (j ∷ ks) k zero below = refl
before_push (j ∷ ks) k (suc i) below = before_push ks k i (omega arith)

-- a number is below another or not
pub below_or_not : (i j : ℕ) → (i < j) ⊎ (j ≤ i)
below_or_not zero zero = inr (omega arith)
below_or_not zero (suc j) = inl (omega arith)
below_or_not (suc i) zero = inr (omega arith)
below_or_not (suc i) (suc j) = elim (below_or_not i j) [ inl l ↦ inl (omega arith) | inr r ↦ inr (omega arith) ]

module _ {Node : Type 0} where
  -- the stack is that of the older groups, and the newest group on it
  pub stack_of : (group : List Node) (rest : List (List Node))
      → reverse (flat (group ∷ rest)) ≡ reverse (flat rest) ++ reverse group
  stack_of group rest = reverse-append group (flat rest)

  -- groups that are joined, under a newer one that is joined with them
  joined_above : (group : List Node) (rest joined : List (List Node)) (n : Node) (kept : ℕ) → Joins rest n joined
      → flat joined ≡ flat rest → kept ≤ length (heads_of rest) → take kept (heads_of rest) ≡ heads_of joined
      → (joined' : List (List Node)) × Joins (group ∷ rest) n joined' × (flat joined' ≡ flat (group ∷ rest))
      × (take kept (heads_of (group ∷ rest)) ≡ heads_of joined')
  joined_above group rest joined n kept (upper, lower, group', was, there, is) same fewer kept_heads = (
    flat (group ∷ (upper ++ group' ∷ [])) ∷ lower,
    (group ∷ upper, lower, group', ap (λ r. group ∷ r) was, there, refl),
    append_assoc group (flat (upper ++ group' ∷ [])) (flat lower)
        ∙ ap (λ ns. group ++ ns) (ap flat (sym is) ∙ same),
    take-append-le kept (heads_of rest) (length (flat rest) ∷ []) fewer ∙ kept_heads ∙ ap heads_of is,
  )

  -- the groups that are joined where the heads above a place go
  pub joins_at : (path : List (List Node)) (place kept : ℕ) (n : Node) → slice_get (reverse (flat path)) place ≡ Some n
      → kept ≤ length (heads_of path)
      → ((k : ℕ) → kept ≤ k → k < length (heads_of path) → place < get_or (heads_of path) k 0)
      → (0 < kept → get_or (heads_of path) (kept - 1) 0 ≤ place)
      → (joined : List (List Node)) × Joins path n joined × (flat joined ≡ flat path)
      × (take kept (heads_of path) ≡ heads_of joined)
  joins_at [] place kept n at within above last = absurd (nothing place at)
    where
      nothing : (i : ℕ) → slice_get [] i ≡ Some n → ⊥
      nothing i e = cc
  joins_at (group ∷ rest) place kept n at within above last = elim (below_or_not place (length (flat rest))) [
    | inl below ↦ older (λ a w b l. joins_at rest place kept n a w b l) below
    | inr here ↦ newest here
  ]
    where
      newest : length (flat rest) ≤ place → (joined : List (List Node)) × Joins (group ∷ rest) n joined
          × (flat joined ≡ flat (group ∷ rest))
          × (take kept (heads_of (group ∷ rest)) ≡ heads_of joined)
      newest here =
          let sized = length-append (heads_of rest) (length (flat rest) ∷ []) in
          let all : kept ≡ length (heads_of rest) + 1 = elim (below_or_not kept (length (heads_of rest) + 1)) [
            | inl less ↦
                let high : place < get_or (heads_of rest ++ length (flat rest) ∷ []) (length (heads_of rest)) 0 =
                above (length (heads_of rest)) (omega arith) (omega arith) in
                let is = at_push (heads_of rest) (length (flat rest)) in
                absurd (omega arith)
            | inr more ↦ omega arith
          ] in
          let there : Contains group n = contains_from_reversed group n
          (got_behind (reverse (flat rest)) (reverse group) place n
          (ap (λ ns. slice_get ns place) (sym (stack_of group rest)) ∙ at)
          (let e = length-reverse (flat rest) in omega arith)) in (
            flat (group ∷ []) ∷ rest,
            ([], rest, group, refl, there, refl),
            ap (λ g. g ++ flat rest) (append-nil group),
            take_all kept (heads_of rest ++ length (flat rest) ∷ []) (omega arith),
          )

      older : (slice_get (reverse (flat rest)) place ≡ Some n → kept ≤ length (heads_of rest)
          → ((k : ℕ) → kept ≤ k → k < length (heads_of rest) → place < get_or (heads_of rest) k 0)
          → (0 < kept → get_or (heads_of rest) (kept - 1) 0 ≤ place)
          → (joined : List (List Node)) × Joins rest n joined × (flat joined ≡ flat rest)
          × (take kept (heads_of rest) ≡ heads_of joined))
          → place < length (flat rest) → (joined : List (List Node)) × Joins (group ∷ rest) n joined
          × (flat joined ≡ flat (group ∷ rest))
          × (take kept (heads_of (group ∷ rest)) ≡ heads_of joined)
      older under below =
          let sized = length-append (heads_of rest) (length (flat rest) ∷ []) in
          let fewer : kept ≤ length (heads_of rest) = elim (below_or_not (length (heads_of rest)) kept) [
            | inl more ↦
                let low : get_or (heads_of rest ++ length (flat rest) ∷ []) (kept - 1) 0 ≤ place = last (omega arith) in
                let top : kept - 1 ≡ length (heads_of rest) = omega arith in
                let is = ap (λ k. get_or (heads_of rest ++ length (flat rest) ∷ []) k 0) top
                ∙ at_push (heads_of rest) (length (flat rest)) in
                absurd (omega arith)
            | inr less ↦ less
          ] in
          let at' : slice_get (reverse (flat rest)) place ≡ Some n =
          got_before (reverse (flat rest)) (reverse group) place n
          (ap (λ ns. slice_get ns place) (sym (stack_of group rest)) ∙ at)
          (let e = length-reverse (flat rest) in omega arith) in
          let above' : (k : ℕ) → kept ≤ k → k < length (heads_of rest) → place < get_or (heads_of rest) k 0 =
          λ k from to.
          subst (λ v. place < v) (before_push (heads_of rest) (length (flat rest)) k to) (above k from (omega arith)) in
          let last' : 0 < kept → get_or (heads_of rest) (kept - 1) 0 ≤ place = λ some.
          subst (λ v. v ≤ place) (before_push (heads_of rest) (length (flat rest)) (kept - 1) (omega arith))
          (last some) in
          let (joined, joins, same, kept_heads) = under at' fewer above' last' in
          joined_above group rest joined n kept joins same fewer kept_heads

  -- the newest group, by its head
  pub group_at : (path : List (List Node)) (heads : List ℕ) (head : ℕ) → heads ≡ heads_of path
      → slice_get heads (length heads - 1) ≡ Some head
      → (group : List Node) × (rest : List (List Node)) × (path ≡ group ∷ rest) × (head ≡ length (flat rest))
  group_at [] heads head is at =
      absurd (nothing (length heads - 1) (ap (λ ks. slice_get ks (length heads - 1)) (sym is) ∙ at))
    where
      nothing : (i : ℕ) → slice_get [] i ≡ Some head → ⊥
      nothing i e = cc
  group_at (group ∷ rest) heads head is at =
      let size : length heads - 1 ≡ length (heads_of rest) =
      let e = ap length is in let f = length-append (heads_of rest) (length (flat rest) ∷ []) in omega arith in
      let found : Some (length (flat rest)) ≡ Some head =
      sym (slice_get-append_seam (heads_of rest) (length (flat rest)) [])
      ∙ ap (λ ks. slice_get ks (length (heads_of rest))) (sym is)
      ∙ ap (λ i. slice_get heads i) (sym size) ∙ at in
      let same : head ≡ length (flat rest) = cc in
      (group, rest, refl, same)

  -- the oldest node of a group stands at its head
  ends_at : (group : List Node) (rest : List (List Node)) (n : Node)
      → slice_get (reverse (flat (group ∷ rest))) (length (flat rest)) ≡ Some n
      → EndsWith group n
  ends_at group rest n at = go (reverse group) refl
      (sym (seam (reverse (flat rest)) (reverse group) (length (flat rest)) (length-reverse (flat rest)))
      ∙ ap (λ ns. slice_get ns (length (flat rest))) (sym (stack_of group rest)) ∙ at)
    where
      seam : (xs ys : List Node) (k : ℕ) → length xs ≡ k → slice_get (xs ++ ys) k ≡ slice_get ys 0
      seam [] ys zero e = refl
      seam [] ys (suc k) e = absurd (omega arith)
      seam (x ∷ xs) ys zero e = absurd (omega arith)
      seam (x ∷ xs) ys (suc k) e = seam xs ys k (omega arith)

      go : (r : List Node) → r ≡ reverse group → slice_get (reverse group) 0 ≡ Some n → EndsWith group n
      go [] e at0 =
          let bad : slice_get [] 0 ≡ Some n = ap (λ ns. slice_get ns 0) e ∙ at0 in cc
      go (y ∷ ys) e at0 =
          let found : Some y ≡ Some n = ap (λ ns. slice_get ns 0) e ∙ at0 in
          let same : y ≡ n = cc in (
            reverse ys,
            sym (reverse-reverse group) ∙ ap reverse (sym e) ∙ reverse-append (y ∷ []) ys
                ∙ ap (λ z. reverse ys ++ z ∷ []) same,
          )

  -- a group's oldest node is found at its head
  at_ends : (group : List Node) (rest : List (List Node)) (n : Node) → EndsWith group n
      → slice_get (reverse (flat (group ∷ rest))) (length (flat rest)) ≡ Some n
  at_ends group rest n (before, is) =
      ap (λ ns. slice_get ns (length (flat rest))) (stack_of group rest ∙ ap (λ g. reverse (flat rest) ++ reverse g) is
      ∙ ap (λ ns. reverse (flat rest) ++ ns) (reverse_push before n))
      ∙ ap (λ k. slice_get (reverse (flat rest) ++ n ∷ reverse before) k) (sym (length-reverse (flat rest)))
      ∙ slice_get-append_seam (reverse (flat rest)) n (reverse before)

-- The newest group of a search on its stack.
module _ {Node : Type 0} (path : List (List Node)) (stack : List Node) (stands : stack ≡ reverse (flat path))
    (group : List Node) (rest : List (List Node)) (was : path ≡ group ∷ rest) (head : ℕ)
    (is_head : head ≡ length (flat rest)) (n : Node) where
  -- its oldest node stands at its head
  pub at_head : EndsWith group n → slice_get stack head ≡ Some n
  at_head ends =
      ap (λ ns. slice_get ns head) (stands ∙ ap (λ q. reverse (flat q)) was)
      ∙ ap (λ k. slice_get (reverse (flat (group ∷ rest))) k) is_head ∙ at_ends group rest n ends

  -- the node that stands at its head is its oldest
  pub head_at : slice_get stack head ≡ Some n → EndsWith group n
  head_at at =
      ends_at group rest n
      (ap (λ k. slice_get (reverse (flat (group ∷ rest))) k) (sym is_head)
      ∙ ap (λ ns. slice_get ns head) (sym (stands ∙ ap (λ q. reverse (flat q)) was)) ∙ at)

-- there is a head where there is a group
pub head_there : {Node : Type 0} (heads : List ℕ) (path : List (List Node)) (group : List Node)
    (rest : List (List Node))
    → heads ≡ heads_of path → path ≡ group ∷ rest → 0 < length heads
head_there heads path group rest are was =
    let e = ap length (are ∙ ap heads_of was) in
    let f = length-append (heads_of rest) (length (flat rest) ∷ []) in
    omega arith

-- what a `pop` takes off where something is there
pub popped_last : (old new : List ℕ) (r : Option ℕ) → old ≡ new ++ option_to_list r → (0 < length old → IsSome r)
    → 0 < length old
    → (k : ℕ) × (old ≡ new ++ k ∷ [])
popped_last old new None is some there = absurd (true≢false (sym (some there)))
popped_last old new (Some k) is some there = (k, is)
