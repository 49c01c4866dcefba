use Rattle.std.proofs.Common.{List, ℕ, ◌+◌, arith, subst, sym, take}
use Rattle.std.specs.List.{AllZip}
use Rattle.pc_types.specs.declared.parsed.Entity.{Entity}
use Rattle.pc_types_convert.specs.Parts.{ExternIs, IsThere}
use Rattle.pc_types_lists.proofs.ZipLemmas.{all_zip_next}
use Rattle.pc_types_convert.proofs.extern_type.externs.Goals as goal

pub entity_at-requires : goal.entity_at-requires
entity_at-requires c =
    subst (λ (e : List ℕ × Entity). IsThere c.args.done.now e.1) (sym c.item-item.is)
    (c.requires.ready c.loop-item.item-index c.item-item.result (omega arith))

pub loop-item-preserved : goal.loop-item-preserved
loop-item-preserved c =
    let l = c.loop-item in
    let done = c.args.done.now in
    subst (λ types. AllZip (ExternIs done) (take (l.item-index + 1) c.args.items.now) types)
    (sym c.in_ok-push.ensures.ok)
    (all_zip_next (ExternIs done) c.args.items.now l.types l.item-index c.item-item.result
    (c.in_ok-name.name, c.entity_at.result)
    (omega arith) c.item-item.is l.invariant (sym c.in_ok-name.ensures, c.entity_at.ensures))
