use Rattle.std.proofs.Common.{sym, ◌∙◌, subst}
use Rattle.std.proofs.lemmas.Map.Iter.{rest_more}
use Rattle.std.specs.List.{IsDistinct}
use Rattle.std.specs.Map.{keys_of}
use Rattle.std.specs.Map.Iter.{deref_pair}
use Rattle.pc_names.proofs.PlaceLemmas.{copied_more, no_place_before}
use Rattle.pc_names.proofs.entries.EntriesTryClone.try_clone.Goals as goal

pub push-requires : goal.push-requires
push-requires g c =
    let next =
    rest_more deref_pair c.loop-key.key-iterator c.next.new.self c.next.result
    (c.in-Some.key, c.in-Some.value) c.in-Some.is c.next.ensures.steps in
    let split = rw next at c.loop-key.invariant in
    let distinct = subst (λ es. IsDistinct g.K.PartialEq.eq (keys_of es)) (c.self.view_is ∙ sym split)
    c.iter-key-items.ensures.unique in
    rw c.in_ok-try_clone.ensures
    (no_place_before g.K.PartialEq.eq g.met.K.Eq.laws c.loop-key.copy (c.in-Some.key.now, c.in-Some.value.now)
    c.next.new.self distinct)

pub loop-key-preserved : goal.loop-key-preserved
loop-key-preserved g c =
    let next =
    rest_more deref_pair c.loop-key.key-iterator c.next.new.self c.next.result
    (c.in-Some.key, c.in-Some.value) c.in-Some.is c.next.ensures.steps in
    copied_more c.args.self.now c.loop-key.copy c.push.new.self c.next.new.self
    (c.in-Some.key.now, c.in-Some.value.now)
    c.in_ok-try_clone.field-0 c.in_ok-try_clone-2.field-0
    (rw next at c.loop-key.invariant)
    c.in_ok-try_clone.ensures c.in_ok-try_clone-2.ensures c.in_ok-push.ensures.ok
