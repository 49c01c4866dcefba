-- What the traversal pushes, item by item, and how its stack reads from the top.
use Rattle.std.proofs.Common.{◌≡◌, ℕ, ◌+◌, ◌<◌, ◌≤◌, Bool, true, false, List, [], ◌∷◌, ◌++◌, length, get_or, take, drop}
use Rattle.std.proofs.Common.{reverse, sym, ◌∙◌, ap, subst, inl, inr, append_assoc}
use Rattle.std.proofs.lemmas.List.{drop_more, reverse-append, take-append-drop, take_all, take_more}
use Rattle.pc_graph.specs.Steps.{Pushes}
use Rattle.pc_graph.specs.declared.dfs.DfsEvent.{DfsEvent}
use Rattle.pc_graph.specs.declared.dfs.DfsEvent.TheVariants.{Pre, AfterEdge}

-- an item that goes last is the first from behind
pub reverse_push : {X : Type 0} → (xs : List X) (x : X) → reverse (xs ++ x ∷ []) ≡ x ∷ reverse xs
reverse_push xs x = reverse-append xs (x ∷ [])

-- one item more is one more from behind
pub reverse_more : {X : Type 0} → (xs : List X) (i : ℕ) (x : X) → i < length xs → x ≡ get_or xs i x
    → reverse (take (i + 1) xs) ≡ x ∷ reverse (take i xs)
reverse_more xs i x within is =
    ap reverse (take_more xs i x within) ∙ reverse_push (take i xs) (get_or xs i x)
    ∙ ap (λ y. y ∷ reverse (take i xs)) (sym is)

module _ {Node : Type 0} (Says : Node → Bool → Type 0) (from : Node) (xs : List Node) (i : ℕ) (x : Node)
    (pushed later : List (DfsEvent Node))
    (within : i < length xs) (is : x ≡ get_or xs i x)
    (before : Pushes Says from (reverse (take i xs)) (reverse pushed)) where
  -- one successor more, which is seen
  pub pushes-seen : Says x true → later ≡ pushed ++ AfterEdge from x ∷ []
      → Pushes Says from (reverse (take (i + 1) xs)) (reverse later)
  pushes-seen said pushes =
      let P : List Node → Type 0 = λ ys. Pushes Says from ys (reverse later) in
      subst P (sym (reverse_more xs i x within is))
      (reverse pushed, before, inl (said, ap reverse pushes ∙ reverse_push pushed (AfterEdge from x)))

  -- one successor more, which is to be visited
  pub pushes-visit : Says x false → later ≡ (pushed ++ AfterEdge from x ∷ []) ++ Pre x ∷ []
      → Pushes Says from (reverse (take (i + 1) xs)) (reverse later)
  pushes-visit said pushes =
      let P : List Node → Type 0 = λ ys. Pushes Says from ys (reverse later) in
      subst P (sym (reverse_more xs i x within is)) (
        reverse pushed,
        before,
        inr (
          said,
          ap reverse pushes ∙ reverse_push (pushed ++ AfterEdge from x ∷ []) (Pre x)
              ∙ ap (λ es. Pre x ∷ es) (reverse_push pushed (AfterEdge from x)),
        ),
      )

-- all successors have been pushed
pub pushes-all : {Node : Type 0} (Says : Node → Bool → Type 0) (from : Node) (xs items successors : List Node) (i : ℕ)
    (pushed : List (DfsEvent Node))
    → Pushes Says from (reverse (take i xs)) (reverse pushed) → length xs ≤ i → xs ≡ items → items ≡ successors
    → Pushes Says from (reverse successors) (reverse pushed)
pushes-all Says from xs items successors i pushed before done is found =
    let P : List _ → Type 0 = λ ys. Pushes Says from (reverse ys) (reverse pushed) in
    subst P (take_all i xs done ∙ is ∙ found) before

-- the stack from its top, around the item at a place
pub reverse_around : {X : Type 0} → (xs : List X) (i : ℕ) (x : X) → i < length xs → x ≡ get_or xs i x
    → reverse xs ≡ reverse (drop (i + 1) xs) ++ x ∷ reverse (take i xs)
reverse_around xs i x within is =
    let later = drop (i + 1) xs in
    ap reverse
    (sym (take-append-drop i xs) ∙ ap (λ ys. take i xs ++ ys)
    (drop_more xs i x within ∙ ap (λ y. y ∷ later) (sym is)))
    ∙ reverse-append (take i xs) (x ∷ later)
    ∙ ap (λ ys. ys ++ reverse (take i xs)) (reverse-append (x ∷ []) later)
    ∙ append_assoc (reverse later) (x ∷ []) (reverse (take i xs))

-- the stack from its top once a visit was put on it
pub reverse_opened : {X : Type 0} → (old : List X) (below : ℕ) (x : X) (pushed new : List X)
    → new ≡ (take below old ++ x ∷ []) ++ pushed → reverse new ≡ reverse pushed ++ x ∷ reverse (take below old)
reverse_opened old below x pushed new is =
    ap reverse is ∙ reverse-append (take below old ++ x ∷ []) pushed
    ∙ ap (λ ys. reverse pushed ++ ys) (reverse_push (take below old) x)
