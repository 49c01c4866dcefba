use Rattle.std.proofs.Common.{◌∙◌, ap, inl, inr, refl, sym, Some}
use Rattle.std.specs.Prelude.{slice_set}
use Rattle.std.specs.Ordering.{nat_cmp}
use Rattle.std.specs.BTreeMap.{is_at}
use Rattle.std.specs.Map.{lookup}
use Rattle.pc_types_convert.specs.Plain.{Layers}
use Rattle.pc_types_convert.specs.Tabulated.{tabulated}
use Rattle.pc_types_convert.proofs.LayerLemmas.{after_error, are_layered, had_same, had_written, none_there, notes_more}
use Rattle.pc_types_convert.proofs.LayerLemmas.{own_changed, plain_changed, puts_own, puts_plain}
use Rattle.pc_types_convert.proofs.done.Done.put.Goals as goal

pub returns-in_err-insert-clause-err : goal.returns-in_err-insert-clause-err
returns-in_err-insert-clause-err c =
    let was = c.self.inside in
    after_error c.from_residual.result
    (notes_more was.own was.own was.plain c.insert.new.self was.users was.users was.like was.like was.room c.args.k
    c.args.type_ _ c.self.view_is refl c.in_err-insert.ensures.err (λ p k among. among)
    (had_same c.args.k c.args.type_ _ _ refl))

pub returns-then-not-contains_key-clause-all : goal.returns-then-not-contains_key-clause-all
returns-then-not-contains_key-clause-all c =
    plain_changed c.self.inside.own c.self.inside.plain c.insert.new.self c.args.k c.args.type_
    c.in_ok-insert.ensures.updates (none_there _ (sym c.contains_key.ensures ∙ c.if-not-contains_key.true))
    c.self.inside.room
    ∙ ap (λ (l : Layers). slice_set l.all c.args.k (Some c.args.type_)) c.self.view_is

pub returns-then-not-contains_key-clause-put : goal.returns-then-not-contains_key-clause-put
returns-then-not-contains_key-clause-put c =
    let was = c.self.inside in
    inl (
      c.if-plain.true,
      puts_plain was.own was.plain c.insert.new.self was.users was.like was.room c.args.k c.args.type_ _
          c.self.view_is c.in_ok-insert.ensures.updates,
    )

pub returns-then-not-contains_key-clause-layered : goal.returns-then-not-contains_key-clause-layered
returns-then-not-contains_key-clause-layered c =
    are_layered c.self.inside.own c.insert.new.self c.self.inside.users c.self.inside.like c.self.inside.room

pub returns-in_err-note_parts-clause-err : goal.returns-in_err-note_parts-clause-err
returns-in_err-note_parts-clause-err c =
    let was = c.self.inside in
    after_error c.from_residual-in_err-note_parts.result
    (notes_more was.own was.own was.plain was.plain was.users c.note_parts.new.users was.like was.like was.room c.args.k
    c.args.type_ _ c.self.view_is refl refl c.in_err-note_parts.ensures.kept
    (had_same c.args.k c.args.type_ _ _ refl))

pub returns-in_err-insert-2-clause-err : goal.returns-in_err-insert-2-clause-err
returns-in_err-insert-2-clause-err c =
    let was = c.self.inside in
    after_error c.from_residual-in_err-insert-2.result
    (notes_more was.own was.own was.plain was.plain was.users c.note_parts.new.users was.like c.insert-2.new.self
    was.room c.args.k c.args.type_ _ c.self.view_is refl refl c.in_ok-note_parts.ensures.kept
    (had_same c.args.k c.args.type_ _ _
    (λ i. tabulated (λ n. lookup (is_at (nat_cmp n)) (c.in_err-insert-2.ensures.err i)) 0 was.room)))

pub returns-in_err-insert-3-clause-err : goal.returns-in_err-insert-3-clause-err
returns-in_err-insert-3-clause-err c =
    let was = c.self.inside in
    after_error c.from_residual-in_err-insert-3.result
    (notes_more was.own c.insert-3.new.self was.plain was.plain was.users c.note_parts.new.users was.like
    c.insert-2.new.self was.room c.args.k c.args.type_ _ c.self.view_is c.in_err-insert-3.ensures.err refl
    c.in_ok-note_parts.ensures.kept
    (had_written was.like c.insert-2.new.self c.args.k c.args.type_ c.in_ok-insert-2.ensures.updates was.room))

pub returns-clause-all : goal.returns-clause-all
returns-clause-all c =
    own_changed c.self.inside.own c.insert-3.new.self c.self.inside.plain c.args.k c.args.type_
    c.in_ok-insert-3.ensures.updates c.self.inside.room
    ∙ ap (λ (l : Layers). slice_set l.all c.args.k (Some c.args.type_)) c.self.view_is

pub returns-clause-put : goal.returns-clause-put
returns-clause-put c =
    let was = c.self.inside in
    inr
    (puts_own was.own was.plain c.insert-3.new.self was.users c.note_parts.new.users was.like c.insert-2.new.self
    was.room c.args.k c.args.type_ c.args.parts.now _ c.self.view_is c.in_ok-insert-3.ensures.updates
    c.in_ok-note_parts.ensures.kept c.in_ok-note_parts.ensures.noted c.in_ok-insert-2.ensures.updates)

pub returns-clause-layered : goal.returns-clause-layered
returns-clause-layered c =
    are_layered c.insert-3.new.self c.self.inside.plain c.note_parts.new.users c.insert-2.new.self c.self.inside.room
