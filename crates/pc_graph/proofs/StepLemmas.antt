-- One step of the traversal, by the items of its vector, whose last is the top of the stack.
use Rattle.std.proofs.Common.{◌≡◌, ℕ, ◌+◌, ◌-◌, ◌<◌, ◌≤◌, Bool, false, None, Some, List, [], ◌∷◌, ◌++◌, length, get_or}
use Rattle.std.proofs.Common.{take, drop, reverse, slice_get, refl, sym, ◌∙◌, ap, subst, arith}
use Rattle.std.specs.List.{All}
use Rattle.std.proofs.lemmas.Option.{slice_get-get_or}
use Rattle.pc_graph.specs.Digraph.{Digraph}
use Rattle.pc_graph.specs.Steps.{IsGiven, IsSkipped, Leaves, Pushes, Steps}
use Rattle.pc_graph.specs.declared.dfs.DfsEvent.{DfsEvent}
use Rattle.pc_graph.specs.declared.dfs.DfsEvent.TheVariants.{Pre, AfterEdge, Post}
use Rattle.pc_graph.proofs.MemberLemmas.{all_reversed}
use Rattle.pc_graph.proofs.PushLemmas.{reverse_around}

module _ {Node : Type 0} (Says : Node → Bool → Type 0) (d : Digraph Node) where
  -- an event that is no visit leaves what stands below it
  pub leaves_below : (event : DfsEvent Node) (below left : List (DfsEvent Node)) → ((n : Node) → event ≡ Pre n → ⊥)
      → left ≡ below → Leaves Says d event below left
  leaves_below (Pre n) below left other is = absurd (other n refl)
  leaves_below (AfterEdge from to) below left other is = is
  leaves_below (Post n) below left other is = is

  -- the event at the last place that isn't skipped is given
  pub steps_given : (items seen old new : List (DfsEvent Node)) (left : ℕ) (event : DfsEvent Node)
      → seen ≡ items → reverse items ≡ old → 0 < left → left ≤ length seen → event ≡ get_or items (left - 1) event
      → All (IsSkipped Says) (drop left seen) → Leaves Says d event (reverse (take (left - 1) items)) new
      → Steps Says d old (Some event) new
  steps_given items seen old new left event same view some within is skipped leaves =
      let P : List (DfsEvent Node) → Type 0 = λ es. All (IsSkipped Says) (drop left es) in
      let Q : ℕ → Type 0 = λ n. reverse items ≡ reverse (drop n items) ++ event ∷ reverse (take (left - 1) items) in
      let W : List (DfsEvent Node) → Type 0 = λ es. left ≤ length es in
      let in_items : left ≤ length items = subst W same within in
      let one : left - 1 + 1 ≡ left = omega arith in (
        reverse (drop left items),
        reverse (take (left - 1) items),
        all_reversed (IsSkipped Says) (drop left items) (subst P same skipped),
        sym view ∙ subst Q one (reverse_around items (left - 1) event (omega arith) is),
        leaves,
      )

  -- where nothing is left, all was skipped
  pub steps_none : (items seen old new : List (DfsEvent Node)) (left : ℕ)
      → seen ≡ items → reverse items ≡ old → left ≡ 0 → All (IsSkipped Says) (drop left seen) → new ≡ []
      → Steps Says d old None new
  steps_none items seen old new left same view none skipped empty =
      let P : ℕ → Type 0 = λ n. All (IsSkipped Says) (drop n seen) in
      let Q : List (DfsEvent Node) → Type 0 = λ es. All (IsSkipped Says) es in
      (subst Q view (all_reversed (IsSkipped Says) items (subst Q same (subst P none skipped))), empty)

-- the visit at a place is given
pub is_given : {Node : Type 0} (Says : Node → Bool → Type 0) (items seen : List (DfsEvent Node)) (left : ℕ)
    (event : DfsEvent Node) (n : Node)
    → seen ≡ items → 0 < left → left ≤ length items → event ≡ get_or items (left - 1) event → event ≡ Pre n
    → ((e : DfsEvent Node) → 0 < left → slice_get seen (left - 1) ≡ Some e → IsGiven Says e) → Says n false
is_given Says items seen left event n same some within is visit given =
    let P : DfsEvent _ → Type 0 = λ e. IsGiven Says e in
    subst P visit (given event some
    (ap (λ es. slice_get es (left - 1)) same ∙ slice_get-get_or items (left - 1) event (omega arith)
    ∙ ap Some (sym is)))

-- the visit that was read at the last place that isn't skipped is given, and pushes what belongs to it
pub steps_visit : {Node : Type 0} (Says : Node → Bool → Type 0) (d : Digraph Node)
    (items seen old new : List (DfsEvent Node)) (left : ℕ) (read : DfsEvent Node) (n : Node)
    → seen ≡ items → reverse items ≡ old → 0 < left → left ≤ length seen → read ≡ get_or items (left - 1) read
    → read ≡ Pre n
    → All (IsSkipped Says) (drop left seen)
    → ((e : DfsEvent Node) → 0 < left → slice_get seen (left - 1) ≡ Some e → IsGiven Says e)
    → (pushed : List (DfsEvent Node)) × Pushes Says n (reverse (d.successors n)) pushed
    × (new ≡ pushed ++ Post n ∷ reverse (take (left - 1) items))
    → Steps Says d old (Some (Pre n)) new
steps_visit Says d items seen old new left read n same view some within is visit skipped given pushes =
    let P : DfsEvent _ → Type 0 = λ e. e ≡ get_or items (left - 1) e in
    let Q : List (DfsEvent _) → Type 0 = λ es. left ≤ length es in
    let within' = subst Q same within in
    steps_given Says d items seen old new left (Pre n) same view some within (subst P visit is) skipped
    (is_given Says items seen left read n same some within' is visit given, pushes.0, pushes.1, pushes.2)
