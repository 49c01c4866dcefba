use Rattle.std.proofs.Common.{◌≡◌, ◌≤◌, ◌∙◌, [], Some, Contains, ap, arith, inr, length, slice_get, subst, sym}
use Rattle.std.specs.Option.{option_copied}
use Rattle.pc_entity.proofs.Growing.{slice_get-append_seam}
use Rattle.pc_types_lists.specs.Interned.{IsPut}
use Rattle.pc_types_lists.specs.Labels.{HasLabelsOf}
use Rattle.pc_types_lists.proofs.KeyLemmas.{key_new, keyed_new, keyed_put, like_named, new_type}
use Rattle.pc_types_lists.proofs.KeyLemmas.{put_full, put_held, type_put}
use Rattle.pc_types_lists.proofs.labelled.Labelled.put.Goals as goal

-- the labels of the type that is like this one
like : (g : _) (c : goal.After-put_keyed g)
    → slice_get c.self.inside.labels c.unwrap.result.now.0 ≡ Some (g.V.HasLabels.labels c.args.value)
like g c =
    like_named c.self.invariant c.in-Some.n c.args.value c.unwrap.result.now
    (subst (λ l. HasLabelsOf g.V.HasLabels.labels l c.in-Some.n c.args.value) (sym c.self.view_is)
    (rw c.in-Some.is at c.requires.like))
    (sym c.get.ensures ∙ ap option_copied c.unwrap.ensures)

pub invariant_of-self : goal.invariant_of-self
invariant_of-self g c =
    keyed_put c.self.invariant _ _ c.unwrap.result.now.0 c.args.value _ (like g c) c.in_ok-parts.ensures
    c.put_keyed.ensures.put

pub returns-in-Some-clause-held : goal.returns-in-Some-clause-held
returns-in-Some-clause-held g c =
    put_held c.self.invariant _ _ c.unwrap.result.now.0 c.args.value _ (like g c) c.in_ok-parts.ensures
    c.put_keyed.ensures.put g.met.V.HasLabels.told c.put_keyed.result c.put_keyed.ensures.held

pub returns-in-Some-clause-put : goal.returns-in-Some-clause-put
returns-in-Some-clause-put g c =
    subst (λ l. IsPut l c.put_keyed.new.values.items c.args.value) c.self.view_is
    (type_put c.self.invariant _ _ c.unwrap.result.now.0 c.args.value _ (like g c) c.in_ok-parts.ensures
    c.put_keyed.ensures.put)

pub returns-in-Some-clause-full : goal.returns-in-Some-clause-full
returns-in-Some-clause-full g c refused =
    put_full c.self.invariant _ _ c.unwrap.result.now.0 c.args.value _ (like g c) c.in_ok-parts.ensures
    c.put_keyed.ensures.put 4294967294 (c.put_keyed.ensures.full refused)

pub returns-in-Some-clause-within : goal.returns-in-Some-clause-within
returns-in-Some-clause-within g c =
    let keyed = keyed_put c.self.invariant _ _ c.unwrap.result.now.0 c.args.value _ (like g c) c.in_ok-parts.ensures
    c.put_keyed.ensures.put in
    subst (λ n. n ≤ 4294967294) keyed.as_many c.put_keyed.ensures.within

-- the labels that were found
found : (g : _) (c : goal.After-drop-labels g)
    → slice_get c.self.inside.labels c.in-Some-find.number ≡ Some (g.V.HasLabels.labels c.args.value)
found g c = c.in-Some-find.ensures.held ∙ ap Some c.in_ok-labels.ensures

pub invariant_of-self-in-Some-find : goal.invariant_of-self-in-Some-find
invariant_of-self-in-Some-find g c =
    keyed_put c.self.invariant _ _ c.in-Some-find.number c.args.value _ (found g c) c.in_ok-parts.ensures
    c.put_keyed-in-Some-find.ensures.put

pub returns-in-Some-find-clause-held : goal.returns-in-Some-find-clause-held
returns-in-Some-find-clause-held g c =
    put_held c.self.invariant _ _ c.in-Some-find.number c.args.value _ (found g c) c.in_ok-parts.ensures
    c.put_keyed-in-Some-find.ensures.put g.met.V.HasLabels.told c.put_keyed-in-Some-find.result
    c.put_keyed-in-Some-find.ensures.held

pub returns-in-Some-find-clause-put : goal.returns-in-Some-find-clause-put
returns-in-Some-find-clause-put g c =
    subst (λ l. IsPut l c.put_keyed-in-Some-find.new.values.items c.args.value) c.self.view_is
    (type_put c.self.invariant _ _ c.in-Some-find.number c.args.value _ (found g c) c.in_ok-parts.ensures
    c.put_keyed-in-Some-find.ensures.put)

pub returns-in-Some-find-clause-full : goal.returns-in-Some-find-clause-full
returns-in-Some-find-clause-full g c refused =
    put_full c.self.invariant _ _ c.in-Some-find.number c.args.value _ (found g c) c.in_ok-parts.ensures
    c.put_keyed-in-Some-find.ensures.put 4294967294 (c.put_keyed-in-Some-find.ensures.full refused)

pub returns-in-Some-find-clause-within : goal.returns-in-Some-find-clause-within
returns-in-Some-find-clause-within g c =
    let keyed = keyed_put c.self.invariant _ _ c.in-Some-find.number c.args.value _ (found g c) c.in_ok-parts.ensures
    c.put_keyed-in-Some-find.ensures.put in
    subst (λ n. n ≤ 4294967294) keyed.as_many c.put_keyed-in-Some-find.ensures.within

pub returns-then-len-ge-MAX_TYPES-clause-full : goal.returns-then-len-ge-MAX_TYPES-clause-full
returns-then-len-ge-MAX_TYPES-clause-full g c refused =
    let within : length c.self.inside.values.items ≤ 4294967294 =
    subst (λ l. length l ≤ 4294967294) (sym c.self.view_is) c.requires.within in
    subst (λ l. (length l ≡ 4294967294) × (Contains l c.args.value → ⊥)) c.self.view_is (
      omega arith,
      new_type c.self.invariant c.args.value _ c.in_ok-labels.ensures c.in_default-find.ensures.absent,
    )

pub push_keyed-requires-clause-new : goal.push_keyed-requires-clause-new
push_keyed-requires-clause-new g c =
    let number = c.in_ok-number in
    key_new c.self.invariant c.push.new.self _ number.number c.args.value _
    c.in_ok-labels.ensures c.in_ok-parts.ensures number.ensures.grows number.ensures.distinct number.ensures.held
    c.in_default-find.ensures.absent

pub invariant_of-self-in-Ok : goal.invariant_of-self-in-Ok
invariant_of-self-in-Ok g c =
    let number = c.in_ok-number in
    keyed_new c.self.invariant c.push.new.self _ number.number c.args.value _
    c.in_ok-labels.ensures c.in_ok-parts.ensures number.ensures.grows number.ensures.distinct number.ensures.held
    c.in_default-find.ensures.absent
    c.push_keyed.new.keys c.push_keyed.new.values.items c.in-Ok.ensures.ok.1 c.in-Ok.ensures.ok.2

pub returns-in-Ok-clause-held : goal.returns-in-Ok-clause-held
returns-in-Ok-clause-held g c =
    let pushed = c.in-Ok.ensures.ok in
    ap (slice_get c.push_keyed.new.values.items) (pushed.0 ∙ c.self.invariant.as_many)
    ∙ ap (λ l. slice_get l (length c.self.inside.values.items)) pushed.2
    ∙ slice_get-append_seam c.self.inside.values.items c.args.value []

pub returns-in-Ok-clause-put : goal.returns-in-Ok-clause-put
returns-in-Ok-clause-put g c =
    subst (λ l. IsPut l c.push_keyed.new.values.items c.args.value) c.self.view_is
    (inr (
      c.in-Ok.ensures.ok.2,
      new_type c.self.invariant c.args.value _ c.in_ok-labels.ensures c.in_default-find.ensures.absent,
    ))
