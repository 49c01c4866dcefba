-- How much is left to do, which falls with each move.
use Rattle.std.proofs.Common.{◌≡◌, ◌<◌, ◌≤◌, ◌+◌, ℕ, zero, suc, List, [], ◌∷◌, Option, None, Some, length, sum_by}
use Rattle.std.proofs.Common.{refl, sym, ap, subst, arith}
use Rattle.std.specs.Prelude.{◌-◌, slice_get, unwrap_or}
use Rattle.std.proofs.lemmas.Option.{none-some, same_Some}
use Rattle.std.proofs.lemmas.List.Sums.{sum_by-cons}
use Rattle.pc_numbers.specs.declared.component_entity.StaticComponentIndex.{StaticComponentIndex}
use Rattle.pc_local.specs.declared.item.LocalInitializer.{LocalInitializer}
use Rattle.pc_local.specs.declared.item.Translation.{Translation}
use Rattle.pc_inline_stack.specs.declared.driver.Open.{Open}
use Rattle.pc_inline_state.specs.declared.frame.Frame.{Frame}
use Rattle.pc_inline_state.specs.declared.state.State.{State}
use Rattle.pc_inline_stack.specs.Stacks.{Falls, all_left, body_at, items_in, items_left, items_of, times, work}

-- the place of an item is within the list
pub there_within : {A : Type 0} (xs : List A) (n : ℕ) (x : A) → slice_get xs n ≡ Some x → n < length xs
there_within [] n x at = absurd (none-some x at)
there_within (y ∷ xs) zero x at = omega arith
there_within (y ∷ xs) (suc n) x at = let h = there_within xs n x at in omega (arith, h)

-- a body has no more items than all of them
one_of_all : (bodies : List Translation) (n : ℕ) (tr : Translation) → slice_get bodies n ≡ Some tr
    → items_in tr ≤ sum_by items_in bodies
one_of_all [] n tr at = absurd (none-some tr at)
one_of_all (x ∷ bodies) zero tr at =
    let sum = sum_by-cons items_in x bodies in
    let same : items_in x ≡ items_in tr = ap items_in (same_Some x tr at) in
    omega (arith, sum, same)
one_of_all (x ∷ bodies) (suc n) tr at =
    let sum = sum_by-cons items_in x bodies in
    let rest = one_of_all bodies n tr at in
    omega (arith, sum, rest)

module _ (bodies : List Translation) (root : Translation) where
  -- the same by the number of the body
  body_within : (s : StaticComponentIndex) → items_in (body_at bodies root (Some s)) ≤ items_in root + sum_by items_in
      bodies
  body_within s = by (slice_get bodies s.0) refl
    where
      by : (o : Option Translation) → slice_get bodies s.0 ≡ o
          → items_in (unwrap_or o root) ≤ items_in root + sum_by items_in bodies
      by None at = omega arith
      by (Some tr) at = let h = one_of_all bodies s.0 tr at in omega (arith, h)

  -- one item fewer is left
  pub one_left : (o : Open) (g : Frame) (l : LocalInitializer) → slice_get (items_of bodies root o) o.next ≡ Some l
      → items_left bodies root o ≡ items_left bodies root (record o { frame = g; next = o.next + 1 }) + 1
  one_left o g l at = let h = there_within (items_of bodies root o) o.next l at in omega (arith, h)

  module _ (ks : List Open) (o : Open) where
    -- the items left of one that waits for the innermost
    pub left_cons : (top : Open) → all_left bodies root (o ∷ ks) top
        ≡ items_left bodies root o + sum_by (items_left bodies root) ks + items_left bodies root top
    left_cons top = let sum = sum_by-cons (items_left bodies root) o ks in omega (arith, sum)

    -- of a child of which nothing was read
    pub left_child : (child : Open) → child.next ≡ 0 → all_left bodies root (o ∷ ks) child
        ≡ all_left bodies root ks o + length (items_of bodies root child)
    left_child child first =
        let sum = left_cons child in
        let many = length (items_of bodies root child) in
        let all : items_left bodies root child ≡ many - 0 = ap (λ n. length (items_of bodies root child) - n) first in
        omega (arith, sum, all)

  module _ (limit begun : ℕ) (ks : List Open) (o : Open) where
    -- an item was read
    pub work_goes : (g : Frame) (l : LocalInitializer) → slice_get (items_of bodies root o) o.next ≡ Some l
        → work limit bodies root begun ks (record o { frame = g; next = o.next + 1 }) < work limit bodies root begun ks
        o
    unfolding work
    work_goes g l at = let one = one_left o g l at in omega (arith, one)

    -- a child has begun
    pub work_enters : (child : Open) (s : StaticComponentIndex) → child.body ≡ Some s → child.next ≡ 0 → begun < limit
        → work limit bodies root (begun + 1) (o ∷ ks) child < work limit bodies root begun ks o
    unfolding work
    work_enters child s is first below =
        let m = items_in root + sum_by items_in bodies + 2 in
        let left = left_child ks o child first in
        let few : length (items_of bodies root child) ≤ items_in root + sum_by items_in bodies =
        subst (λ k. items_in (body_at bodies root k) ≤ items_in root + sum_by items_in bodies) (sym is)
        (body_within s) in
        let one : limit - begun ≡ suc (limit - (begun + 1)) = omega (arith, below) in
        let product : times (limit - begun) m ≡ m + times (limit - (begun + 1)) m = ap (λ k. times k m) one in
        omega (arith, left, few, product)

    -- it has ended
    pub work_leaves : (caller : Open) (g : Frame)
        → work limit bodies root begun ks (record caller { frame = g; next = caller.next + 1 })
        < work limit bodies root begun (caller ∷ ks) o
    unfolding work
    work_leaves caller g =
        let sum = left_cons ks caller o in
        let less : items_left bodies root (record caller { frame = g; next = caller.next + 1 })
        ≤ items_left bodies root caller = omega arith in
        omega (arith, sum, less)

times_less : (a b n : ℕ) → a ≤ b → times a n ≤ times b n
times_less zero b n le = omega arith
times_less (suc a) zero n le = absurd (omega (arith, le))
times_less (suc a) (suc b) n le = let less = times_less a b n (omega (arith, le)) in omega (arith, less)

module _ (limit : ℕ) (root : Translation) (st st' : State) (ks ks' : List Open) (o o' : Open) where
  -- less is left to do among the same bodies, where no fewer component instances have begun
  pub falls_among : (begun : ℕ) → st'.bodies.now ≡ st.bodies.now → begun ≤ st'.graph.num_runtime_component_instances
      → work limit st.bodies.now root begun ks' o'
      < work limit st.bodies.now root st.graph.num_runtime_component_instances ks o
      → Falls limit root st ks o st' ks' o'
  unfolding Falls work
  falls_among begun among more less =
      let m = items_in root + sum_by items_in st.bodies.now + 2 in
      let fewer = times_less (limit - st'.graph.num_runtime_component_instances) (limit - begun) m
      (omega (arith, more)) in
      rw (among) (omega (arith, less, fewer))
