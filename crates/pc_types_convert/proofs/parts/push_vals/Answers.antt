use Rattle.std.proofs.Common.{arith, get_or}
use Rattle.std.proofs.lemmas.List.{get_or_default}
use Rattle.pc_types.specs.declared.parsed.PrimType.TheVariants.{Bool}
use Rattle.pc_types.specs.declared.parsed.ValType.TheVariants.{Prim}
use Rattle.pc_types_convert.specs.Needed.{val_parts}
use Rattle.pc_types_convert.proofs.AmongLemmas.{pushed_next}
use Rattle.pc_types_convert.proofs.parts.push_vals.Goals as goal

pub loop-v-preserved : goal.loop-v-preserved
loop-v-preserved c =
    let l = c.loop-v in
    let vs = c.args.vs.now in
    let v = get_or vs l.v-index (Prim Bool) in
    pushed_next val_parts vs l.v-index v c.args.ns.now.items l.ns.items c.push_val.new.ns.items
    (omega arith) (get_or_default vs l.v-index (Prim Bool) v c.loop-v-test.true) l.invariant c.in_ok-push_val.ensures
