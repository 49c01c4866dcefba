use Rattle.std.proofs.Common.{◌≡◌, ◌∷◌, ◌++◌, [], ◌∙◌, ap, sym, subst, refl, inl, inr, drop, length, reverse}
use Rattle.std.proofs.Common.{true≢false, arith}
use Rattle.pc_graph.specs.Classes.{flat}
use Rattle.pc_graph.specs.Searching.{Held, StandsFor, heads_of}
use Rattle.pc_graph.proofs.GroupLemmas.{at_head, group_at, head_at, head_there, popped_last}
use Rattle.pc_graph.proofs.HeldLemmas.{stands_closed}
use Rattle.pc_graph.proofs.search.PathSearch.leave.Goals as goal

pub returns-then-not-stands_at : goal.returns-then-not-stands_at
returns-then-not-stands_at g c = λ s stands.
    let heads : c.as_slice.result.now ≡ heads_of s.path =
    c.as_slice.ensures.value ∙ ap (λ h. h.heads) c.self.view_is ∙ stands.heads in
    let (group', rest', was', is_head) = group_at s.path c.as_slice.result.now c.in-Some.head.now heads
    (sym c.in-Some.ensures.value) in (
      s,
      inr (
        λ group rest was ends.
            let both : group' ∷ rest' ≡ group ∷ rest = sym was' ∙ was in
            let same : rest' ≡ rest = cc in
            let at = at_head s.path c.args.self.now.stack stands.stack group rest was c.in-Some.head.now
            (is_head ∙ ap (λ q. length (flat q)) same) c.args.node ends in
            true≢false (sym (c.stands_at.ensures.1 at) ∙ c.if-not-stands_at.true),
        refl,
      ),
      stands,
    )

pub returns : goal.returns
returns g c = λ s stands.
    let number = g.Node.EntityRef.number in
    let node = c.args.node in
    let head = c.in-Some.head.now in
    let stands' = subst (λ (h : Held g.row.Node.Denot). StandsFor number h s) (sym c.self.view_is) stands in
    let heads : c.as_slice.result.now ≡ heads_of s.path = c.as_slice.ensures.value ∙ stands'.heads in
    let (group, rest, was, is_head) = group_at s.path c.as_slice.result.now head heads (sym c.in-Some.ensures.value) in
    let ends = head_at s.path c.args.self.now.stack stands.stack group rest was head is_head node
    (c.stands_at.ensures.0 c.if-not-stands_at.false) in
    let some = head_there c.self.inside.heads.items s.path group rest stands'.heads was in
    let size : c.len.result ≡ length c.close_group.new.nodes.items = omega arith in
    let (k, popped) = popped_last c.self.inside.heads.items c.pop.new.self.items c.pop.result c.pop.ensures.items
    (λ there. c.pop.ensures.variant.1 (omega arith)) some in (
      record { path = rest; closed = s.closed ++ group ∷ [] },
      inl (group, rest, was, ends, refl),
      stands_closed number _ _ s group rest
          (reverse (drop head c.self.inside.stack.items)) head stands' was is_head refl
          c.in_ok-close_group.ensures.stack k popped c.in_ok-close_group.ensures.nodes
          (c.in_ok-push.ensures.items ∙ ap (λ k. c.self.inside.ends.items ++ k ∷ []) size)
          c.in_ok-close_group.ensures.closed c.in_ok-close_group.ensures.others,
    )
