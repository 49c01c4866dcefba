use Rattle.std.proofs.Common.{◌≤◌, [], length, sym, subst, arith}
use Rattle.std.proofs.lemmas.List.{take_all}
use Rattle.pc_dfg_finish.specs.Exports.{IsNamed}
use Rattle.pc_dfg_finish.proofs.NamingLemmas.{name_lacks, name_next, names_none}
use Rattle.pc_dfg_finish.proofs.exports.names_of.Goals as goal

pub loop-place-init : goal.loop-place-init
loop-place-init c = subst (IsNamed []) (sym c.new-names.ensures) names_none

pub push_name-requires : goal.push_name-requires
push_name-requires c = record {
  absent = name_lacks c.args.map c.loop-place.place _ c.entry_at.ensures c.names_are_distinct.ensures
      c.loop-place.names c.loop-place.invariant;
}

pub loop-place-preserved : goal.loop-place-preserved
loop-place-preserved c =
    let target = c.entry_at.result.1.now in
    name_next c.args.map c.loop-place.place _ c.entry_at.ensures c.names_are_distinct.ensures c.loop-place.names
    c.loop-place.invariant c.push_name.new.names (target.0, c.in_ok-data.data) (λ j. (target.0, c.in_ok-data.ensures j))
    c.in_ok-push_name.ensures

pub returns : goal.returns
returns c =
    let map = c.args.map in
    let ended : length map ≤ c.loop-place.place = omega arith in
    subst (λ ns. IsNamed ns c.loop-place.names) (take_all c.loop-place.place map ended) c.loop-place.invariant
