use Rattle.std.proofs.Common.{◌≡◌, ◌-◌, ◌<◌, ◌≤◌, ℕ, List, ◌∙◌, ap, sym, subst, refl, inl, length, get_or, take}
use Rattle.std.proofs.Common.{slice_get}
use Rattle.pc_graph.specs.Searching.{Held, StandsFor, heads_of}
use Rattle.pc_graph.proofs.GroupLemmas.{joins_at}
use Rattle.pc_graph.proofs.HeldLemmas.{stands_joined}
use Rattle.pc_graph.proofs.search.PathSearch.follow.Goals as goal

pub returns-in-Some : goal.returns-in-Some
returns-in-Some g c = λ from s stands.
    let number = g.Node.EntityRef.number in
    let held : Held g.row.Node.Denot = record {
      stack = c.self.inside.stack.items;
      heads = c.self.inside.heads.items;
      noted = c.self.inside.noted;
      nodes = c.self.inside.nodes.items;
      ends = c.self.inside.ends.items;
    } in
    let P : Held g.row.Node.Denot → Type 0 = λ h. StandsFor number h s in
    let stands' : StandsFor number held s = subst P (sym c.self.view_is) stands in
    let heads : c.as_slice.result.now ≡ heads_of s.path = c.as_slice.ensures.value ∙ stands'.heads in
    let kept = c.heads_up_to-kept.result in
    let at = ap (λ ns. slice_get ns c.in-Some.place) (sym stands.stack) ∙ c.in-Some.ensures s stands in
    let A : List ℕ → Type 0 = λ ks. kept ≤ length ks in
    let B : List ℕ → Type 0 = λ ks. (k : ℕ) → kept ≤ k → k < length ks → c.in-Some.place < get_or ks k 0 in
    let D : List ℕ → Type 0 = λ ks. 0 < kept → get_or ks (kept - 1) 0 ≤ c.in-Some.place in
    let (joined, joins, same, rest) = joins_at s.path c.in-Some.place kept c.args.to at
    (subst A heads c.heads_up_to-kept.ensures.within) (subst B heads c.heads_up_to-kept.ensures.above)
    (subst D heads c.heads_up_to-kept.ensures.last) in (
      record { path = joined; closed = s.closed },
      inl (joined, joins, refl),
      stands_joined number held _ s joined stands' same (λ i. record {
        stack = c.self.inside.stack.items;
        heads = (c.truncate.ensures.items ∙ ap (take kept) stands'.heads ∙ rest) i;
        noted = c.self.inside.noted;
        nodes = c.self.inside.nodes.items;
        ends = c.self.inside.ends.items;
      }),
    )
