use Rattle.std.proofs.Common.{◌≡◌, ◌∷◌, ◌∙◌, Some, [], ap, arith, false, inl, inr, length, map, subst, sym}
use Rattle.std.specs.Prelude.{slice_get}
use Rattle.std.proofs.lemmas.List.{length-append}
use Rattle.std.proofs.lemmas.Option.{slice_get-get_or}
use Rattle.pc_types_walk.specs.Kept.{kept_from, part_of, place_of}
use Rattle.pc_types_walk.specs.Leads.{IsThrough}
use Rattle.pc_types_walk.specs.Walks.{exports_of}
use Rattle.pc_types_walk.proofs.KeptLemmas.{through_entry}
use Rattle.pc_types_walk.proofs.ListLemmas.{append_found}
use Rattle.pc_types_walk.proofs.leads.Leads.new.Goals as goal

pub loop-entry-preserved : goal.loop-entry-preserved
loop-entry-preserved c =
    let l = c.loop-entry in
    let t = c.args.table.now in
    let kept = c.in_ok-kept.kept in
    let pushed = c.in_ok-push.ensures.ok in
    let items = c.as_slice-entry-items.result.now in
    let at : slice_get t.types l.entry-index ≡ Some c.entry-item.result =
    subst (λ es. slice_get es l.entry-index ≡ Some c.entry-item.result) c.as_slice-entry-items.ensures
    (slice_get-get_or items l.entry-index c.entry-item.result (omega arith) ∙ ap Some (sym c.entry-item.is)) in
    let is = subst
    (λ ls. kept ≡ map place_of (kept_from (part_of t ls) (λ n. false) 0 (exports_of c.entry-item.result)))
    c.as_slice.ensures c.in_ok-kept.ensures in
    record {
      count = omega (arith, ap length pushed, length-append l.through (kept ∷ []), l.invariant.count);
      through = λ n places found.
          elim (append_found l.through kept n places (subst (λ ls. slice_get ls n ≡ Some places) pushed found))
          as (λ _. IsThrough t n places) [
            | inl before ↦ l.invariant.through n places before
            | inr last ↦ subst (IsThrough t n) last.1
                (subst (λ k. IsThrough t k kept) (sym (last.0 ∙ l.invariant.count))
                (through_entry t l.through l.invariant.through c.requires.sound l.entry-index l.invariant.count
                c.entry-item.result at kept is))
          ];
    }
