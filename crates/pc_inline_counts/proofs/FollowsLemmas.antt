-- What counts say of what is reached, node by node.
use Rattle.std.proofs.Common.{◌≡◌, ◌≤◌, ◌+◌, ◌*◌, ℕ, Bool, true, false, true≢false, Option, None, Some, refl, sym, ap}
use Rattle.std.proofs.Common.{subst, ◌∙◌}
use Rattle.std.proofs.Common.{arith, if◌then◌else◌}
use Rattle.std.specs.Prelude.{min, nat_lt}
use Rattle.std.proofs.lemmas.Bool.{ltb-false, ltb-true}
use Rattle.std.proofs.lemmas.Option.{none-some, same_Some}
use Rattle.pc_types.specs.declared.error.Unsupported.{Unsupported}
use Rattle.pc_types.specs.TypeTree.{Path}
use Rattle.pc_spec_plan.specs.ExportNode.{ExportNode}
use Rattle.pc_spec_plan.specs.Log.{needed}
use Rattle.pc_parsed.specs.Mark.{Mark}
use Rattle.pc_spec_reading.specs.Nodes.{Reached, counting, host_leaf, leaf, passed, reached, refused, then_reach}
use Rattle.pc_spec_reading.specs.Nodes.{within_total}
use Rattle.pc_spec_reading.specs.Outcome.{Fault, unsupported}
use Rattle.pc_spec_reading.specs.World.{World, full, grown, has_room, logging}
use Rattle.pc_inline_counts.specs.declared.count.NodeCount.{NodeCount}
use Rattle.pc_inline_counts.specs.Counts.{after_nodes, one_node, refused_node, unless_refused}
use Rattle.pc_inline_counts.specs.Follows.{Follows, Grew, RefusedAfter}

-- a number that isn't below another
pub not_below : (n m : ℕ) → m ≤ n → nat_lt n m ≡ false
not_below n m most = by (nat_lt n m) refl
  where
    by : (b : Bool) → nat_lt n m ≡ b → b ≡ false
    by true is = let less = ltb-true n m is in absurd (omega (arith, less, most))
    by false is = refl

-- a total that grows by nothing
pub grown_none : (t : Option ℕ) → t ≡ grown t 0
grown_none None = refl
grown_none (Some m) = let same : m ≡ m + 0 = omega arith in ap Some same

-- where a total has room after some nodes and then more, it has grown by both together
both_total : (t : Option ℕ) (c d : ℕ) → has_room (grown (grown t (8 * c)) (8 * d)) ≡ true
    → grown (grown t (8 * c)) (8 * d) ≡ grown t (8 * min (c + d) 4294967295)
both_total None c d room = refl
both_total (Some m) c d room =
    let below = ltb-true ((m + 8 * c) + 8 * d) full room in
    let same : (m + 8 * c) + 8 * d ≡ m + 8 * min (c + d) 4294967295 = omega (arith, below) in
    ap Some same

-- where it has none, both together leave it none
both_past : (t : Option ℕ) (c d : ℕ) → has_room (grown (grown t (8 * c)) (8 * d)) ≡ false
    → has_room (grown t (8 * min (c + d) 4294967295)) ≡ false
both_past None c d past = absurd (true≢false past)
both_past (Some m) c d past =
    let many = ltb-false ((m + 8 * c) + 8 * d) full past in
    not_below (m + 8 * min (c + d) 4294967295) full (omega (arith, many))

-- where some nodes leave it none, more do so too
more_past : (t : Option ℕ) (c d : ℕ) → has_room (grown t (8 * c)) ≡ false
    → has_room (grown t (8 * min (c + d) 4294967295)) ≡ false
more_past None c d past = absurd (true≢false past)
more_past (Some m) c d past =
    let many = ltb-false (m + 8 * c) full past in
    not_below (m + 8 * min (c + d) 4294967295) full (omega (arith, many))

-- a count that goes on from another: it is the same where something was refused, and past where that is past
pub record GoesOn (c rest : NodeCount) : Type 0 where
  pub stays : (u : Unsupported) → c.refusal ≡ Some u → rest ≡ c
  pub past : (t : Option ℕ) → has_room (grown t (8 * c.nodes)) ≡ false → has_room (grown t (8 * rest.nodes)) ≡ false

-- a count goes on from itself
pub goes_on_same : (c : NodeCount) → GoesOn c c
goes_on_same c = record { stays = λ u is. refl; past = λ t is. is }

-- and on and on
pub goes_on_twice : (c d e : NodeCount) → GoesOn c d → GoesOn d e → GoesOn c e
goes_on_twice c d e g h = record {
  stays = λ u is.
      let same = g.stays u is in
      h.stays u (ap (λ (k : NodeCount). k.refusal) same ∙ is) ∙ same;
  past = λ t is. h.past t (g.past t is);
}

-- some nodes and those after them
pub goes_on_after : (c d : NodeCount) → GoesOn c (after_nodes c d)
goes_on_after c d = record { stays = λ u is. ap (λ (r : Option Unsupported). unless_refused r c d) is; past = past }
  where
    past : (t : Option ℕ) → has_room (grown t (8 * c.nodes)) ≡ false
        → has_room (grown t (8 * (after_nodes c d).nodes)) ≡ false
    past t is = by c.refusal
      where
        by : (r : Option Unsupported) → has_room (grown t (8 * (unless_refused r c d).nodes)) ≡ false
        by (Some u) = is
        by None = more_past t c.nodes d.nodes is

-- where nothing was refused, the nodes after some count with them
after_unrefused : (c d : NodeCount) → c.refusal ≡ None → after_nodes c d ≡ unless_refused None c d
after_unrefused c d is = ap (λ (r : Option Unsupported). unless_refused r c d) is

-- some nodes and those after them
grew_after : (c d : NodeCount) (w v u : World) → Grew w v c → Grew v u d → Grew w u (after_nodes c d)
grew_after c d w v u g h =
    let same = after_unrefused c d g.unrefused in
    let both : u.total ≡ grown (grown w.total (8 * c.nodes)) (8 * d.nodes) =
    h.total ∙ ap (λ (t : Option ℕ). grown t (8 * d.nodes)) g.total in
    subst (λ (k : NodeCount). Grew w u k) (sym same) (record {
      imports = h.imports ∙ g.imports;
      unrefused = h.unrefused;
      total = both ∙ both_total w.total c.nodes d.nodes (sym (ap has_room both) ∙ h.room);
      room = h.room;
    })

-- what is refused after some nodes is refused with them
refused_after : (c d : NodeCount) (w v : World) (f : Fault) → Grew w v c → RefusedAfter d v f
    → RefusedAfter (after_nodes c d) w f
refused_after c d w v f g h =
    let same = after_unrefused c d g.unrefused in
    let room : has_room (grown (grown w.total (8 * c.nodes)) (8 * d.nodes)) ≡ true =
    sym (ap (λ (t : Option ℕ). has_room (grown t (8 * d.nodes))) g.total) ∙ h.room in
    subst (λ (k : NodeCount). RefusedAfter k w f) (sym same) (record {
      what = h.what;
      refusal = h.refusal;
      is = h.is;
      room = sym (ap has_room (both_total w.total c.nodes d.nodes room)) ∙ room;
    })

-- what is past after some nodes is past with them
passed_after : (c d : NodeCount) (w v : World) → Grew w v c → has_room (grown v.total (8 * d.nodes)) ≡ false
    → has_room (grown w.total (8 * (after_nodes c d).nodes)) ≡ false
passed_after c d w v g h =
    let same = after_unrefused c d g.unrefused in
    let past = both_past w.total c.nodes d.nodes
    (sym (ap (λ (t : Option ℕ). has_room (grown t (8 * d.nodes))) g.total) ∙ h) in
    subst (λ (k : NodeCount). has_room (grown w.total (8 * k.nodes)) ≡ false) (sym same) past

-- a node is counted, and then what is under it
pub counting_follows : {A : Type 0} (c : NodeCount) (w : World) → GoesOn one_node c → (go : World → Reached A)
    → ((v : World) → Grew w v one_node → Follows c w (go v)) → Follows c w (counting w go)
unfolding Follows
counting_follows c w goes go under = by (has_room (grown w.total 8)) refl
  where
    by : (b : Bool) → has_room (grown w.total 8) ≡ b
        → Follows c w (if b then go (record w { total = grown w.total 8 }) else passed)
    by true is =
        under (record w { total = grown w.total 8 })
        (record { imports = refl; unrefused = refl; total = refl; room = is })
    by false is = goes.past w.total is

-- what has nothing under it is one node
pub leaf_follows : (n : ExportNode Mark) (w : World) → Follows one_node w (leaf n w)
unfolding Follows
leaf_follows n w = counting_follows one_node w (goes_on_same one_node) (reached n) (λ v g. g)

-- and so is what the host gives
pub host_leaf_follows : (p : Path) (n : ExportNode Mark) (w : World) → Follows one_node w (host_leaf p n w)
unfolding Follows
host_leaf_follows p n w =
    counting_follows one_node w (goes_on_same one_node) (λ v. reached n (logging v (needed p))) (λ v g. record {
      imports = g.imports;
      unrefused = g.unrefused;
      total = g.total;
      room = g.room;
    })

-- what is refused is no node
pub refused_follows : (A : Type 0) (u : Unsupported) (w : World) → has_room w.total ≡ true
    → Follows {A = A} (refused_node u) w (refused (unsupported u))
unfolding Follows
refused_follows A u w room =
    record { what = u; refusal = refl; is = refl; room = sym (ap has_room (grown_none w.total)) ∙ room }

-- what is made of what was reached is reached with as many nodes
pub put_follows : {A B : Type 0} (f : A → B) (c : NodeCount) (w : World) (o : Reached A) → Follows c w o
    → Follows c w (then_reach o (λ x v. reached (f x) v))
unfolding Follows
put_follows f c w (reached x v) h = h
put_follows f c w (refused k) h = h
put_follows f c w passed h = h

-- what is reached after some nodes, and then the rest
pub next_follows : {A B : Type 0} (c d rest : NodeCount) (w v : World) → Grew w v c → (o : Reached A) → Follows d v o
    → GoesOn (after_nodes c d) rest → (go : A → World → Reached B)
    → ((x : A) (u : World) → Grew w u (after_nodes c d) → Follows rest w (go x u))
    → Follows rest w (then_reach o go)
unfolding Follows
next_follows c d rest w v g (reached x u) h goes go on = on x u (grew_after c d w v u g h)
next_follows c d rest w v g (refused k) h goes go on =
    let r = refused_after c d w v k g h in
    subst (λ (e : NodeCount). RefusedAfter e w k) (sym (goes.stays r.what r.refusal)) r
next_follows c d rest w v g passed h goes go on = goes.past w.total (passed_after c d w v g h)

-- what is reached is within the total that so many nodes leave
pub follows_within : {A : Type 0} (c : NodeCount) (w : World) (o : Reached A) → Follows c w o
    → o ≡ within_total (grown w.total (8 * c.nodes)) o
unfolding Follows
follows_within c w (reached x v) h =
    let room : has_room (grown w.total (8 * c.nodes)) ≡ true = sym (ap has_room h.total) ∙ h.room in rw room refl
follows_within c w (refused f) h = rw h.room refl
follows_within c w passed h = rw h refl

-- where the total has room, what was counted as refused is refused
pub follows_refused : {A : Type 0} (c : NodeCount) (w : World) (o : Reached A) → Follows c w o
    → has_room (grown w.total (8 * c.nodes)) ≡ true → (u : Unsupported) → c.refusal ≡ Some u
    → o ≡ refused (unsupported u)
unfolding Follows
follows_refused c w (reached x v) h room u is = absurd (none-some u (sym h.unrefused ∙ is))
follows_refused c w (refused f) h room u is =
    let same = same_Some h.what u (sym h.refusal ∙ is) in ap refused (h.is ∙ ap unsupported same)
follows_refused c w passed h room u is = absurd (true≢false (sym room ∙ h))

-- and what wasn't is reached
pub follows_reached : {A : Type 0} (c : NodeCount) (w : World) (o : Reached A) → Follows c w o
    → has_room (grown w.total (8 * c.nodes)) ≡ true → c.refusal ≡ None
    → (x : A) × (v : World) × (o ≡ reached x v) × Grew w v c
unfolding Follows
follows_reached c w (reached x v) h room none = (x, v, refl, h)
follows_reached c w (refused f) h room none = absurd (none-some h.what (sym none ∙ h.refusal))
follows_reached c w passed h room none = absurd (true≢false (sym room ∙ h))
