-- How much the items add at the most that aren't read yet, and the exports of the component instances that end.
use Rattle.std.proofs.Common.{◌≡◌, ◌≤◌, ◌+◌, ◌*◌, ℕ, zero, suc, List, [], ◌∷◌, Some, sum_by, refl, sym, ap, subst, ◌∙◌}
use Rattle.std.proofs.Common.{arith}
use Rattle.std.specs.Prelude.{drop, slice_get}
use Rattle.std.proofs.lemmas.List.Sums.{sum_by-cons}
use Rattle.std.proofs.lemmas.Option.{none-some, same_Some}
use Rattle.pc_numbers.specs.declared.component_entity.StaticComponentIndex.{StaticComponentIndex}
use Rattle.pc_types.specs.declared.parsed.TypeTable.{TypeTable}
use Rattle.pc_types_lists.specs.Adds.{most_types}
use Rattle.pc_parsed.specs.declared.payload.ItemKind.{ItemKind}
use Rattle.pc_local.specs.declared.item.LocalInitializer.{LocalInitializer}
use Rattle.pc_local.specs.declared.item.LocalInitializer.TheVariants as local
use Rattle.pc_local.specs.declared.item.Translation.{Translation}
use Rattle.pc_inline_state.specs.declared.frame.Frame.{Frame}
use Rattle.pc_inline_state.specs.Adds.{most_added, most_converted, most_of_items, types_among}
use Rattle.pc_inline_stack.specs.declared.driver.Open.{Open}
use Rattle.pc_inline_stack.specs.Stacks.{all_most_left, body_at, items_of, most_ended, most_from, most_left}
use Rattle.pc_inline_stack.specs.Stacks.{most_waiting}

module _ (t : TypeTable) where
  -- the item that is read next is one of those that are left
  next_left : (ls : List LocalInitializer) (n : ℕ) (l : LocalInitializer) → slice_get ls n ≡ Some l
      → sum_by (most_added t) (drop n ls) ≡ most_added t l + sum_by (most_added t) (drop (suc n) ls)
  next_left [] n l at = absurd (none-some l at)
  next_left (x ∷ ls) zero l at =
      sum_by-cons (most_added t) x ls
      ∙ ap (λ i. most_added t i + sum_by (most_added t) ls) (same_Some x l at)
  next_left (x ∷ ls) (suc n) l at = next_left ls n l at

  -- what an instantiation adds at the most: the types among its arguments, and then what it has of its child
  pub call_parts : (n : ℕ) → most_converted t (1 + n) ≡ n * (1 + most_types t) + most_converted t 1
  call_parts n = omega arith

  module _ (bodies : List Translation) (root : Translation) where
    -- so much is left before an item is read, and so much behind it
    most_next : (o : Open) (l : LocalInitializer) → slice_get (items_of bodies root o) o.next ≡ Some l
        → most_left t bodies root o ≡ most_added t l + most_from t bodies root (suc o.next) o
    most_next o l at =
        let one = next_left (items_of bodies root o) o.next l at in
        omega (arith, one)

    -- of one that has gone on
    most_behind : (o : Open) (g : Frame) → most_left t bodies root (record o { frame = g; next = o.next + 1 })
        ≡ most_from t bodies root (suc o.next) o
    most_behind o g =
        let one : o.next + 1 ≡ suc o.next = omega arith in
        ap (λ n. most_from t bodies root n o) one

    module _ (ks : List Open) (o : Open) where
      -- of one that waits for the innermost
      most_cons : (top : Open) → all_most_left t bodies root (o ∷ ks) top
          ≡ most_waiting t bodies root o + sum_by (most_waiting t bodies root) ks + most_left t bodies root top
      most_cons top = let sum = sum_by-cons (most_waiting t bodies root) o ks in omega (arith, sum)

      -- of a child of which nothing was read, and of the one that began it when the types among its arguments were
      -- converted
      pub most_child : (component : ℕ) (args : List (List ℕ × ItemKind × ℕ)) (ty : ℕ)
          → slice_get (items_of bodies root o) o.next ≡ Some (local.ComponentInstantiate component args ty)
          → (child : Open) (s : StaticComponentIndex) → child.body ≡ Some s → child.next ≡ 0
          → types_among args * (1 + most_types t) + all_most_left t bodies root (o ∷ ks) child
          ≡ all_most_left t bodies root ks o + (most_of_items t (items_of bodies root child)
          + types_among (body_at bodies root child.body).exports * (1 + most_types t))
      most_child component args ty at child s is first =
          let sum = most_cons child in
          let next = most_next o (local.ComponentInstantiate component args ty) at in
          let parts = call_parts (types_among args) in
          let all : most_left t bodies root child
          ≡ most_of_items t (items_of bodies root child) + most_ended t bodies root child.body =
          ap (λ n. most_from t bodies root n child) first in
          let ended : most_ended t bodies root child.body
          ≡ types_among (body_at bodies root child.body).exports * (1 + most_types t) = ends child s is in
          omega (arith, sum, next, parts, all, ended)
        where
          ends : (child : Open) (s : StaticComponentIndex) → child.body ≡ Some s → most_ended t bodies root child.body
              ≡ types_among (body_at bodies root child.body).exports * (1 + most_types t)
          ends child s is =
              subst (λ k. most_ended t bodies root k
              ≡ types_among (body_at bodies root k).exports * (1 + most_types t)) (sym is) refl

      module _ (l : LocalInitializer) (at : slice_get (items_of bodies root o) o.next ≡ Some l) where
        -- the innermost reads its next item
        pub most_goes : (g : Frame) → most_added t l
            + all_most_left t bodies root ks (record o { frame = g; next = o.next + 1 })
            ≤ all_most_left t bodies root ks o
        most_goes g =
            let next = most_next o l at in
            let behind = most_behind o g in
            omega (arith, next, behind)

        -- it has an item left, which may add so much
        pub most_here : (n : ℕ) → n ≤ most_added t l → n + 0 ≤ all_most_left t bodies root ks o
        most_here n few = let next = most_next o l at in omega (arith, next, few)

      -- the innermost ends, and this one goes on, which waited for it
      pub most_returns : (top : Open) (s : StaticComponentIndex) → top.body ≡ Some s → (g : Frame)
          → (types_among (body_at bodies root top.body).exports * (1 + most_types t) + most_converted t 1)
          + all_most_left t bodies root ks (record o { frame = g; next = o.next + 1 })
          ≤ all_most_left t bodies root (o ∷ ks) top
      most_returns top s is g =
          let sum = most_cons top in
          let behind = most_behind o g in
          let ended : most_ended t bodies root top.body
          ≡ types_among (body_at bodies root top.body).exports * (1 + most_types t) =
          subst (λ k. most_ended t bodies root k
          ≡ types_among (body_at bodies root k).exports * (1 + most_types t)) (sym is) refl in
          omega (arith, sum, behind, ended)
