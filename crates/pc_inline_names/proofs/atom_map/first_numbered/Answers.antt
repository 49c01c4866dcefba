use Rattle.std.proofs.Common.{◌<◌, get_or, length, refl, subst, arith}
use Rattle.std.proofs.lemmas.List.{take_all}
use Rattle.pc_inline_names.specs.Numbers.{HasNumbers}
use Rattle.pc_inline_names.proofs.NumberedLemmas.{numbered_here}
use Rattle.pc_inline_names.proofs.atom_map.first_numbered.Goals as goal

pub loop-place-preserved : goal.loop-place-preserved
loop-place-preserved g c names distinct are =
    let i = c.loop-place.place in
    let es = c.args.entries.now in
    let within : i < length es = omega arith in
    numbered_here names es c.args.numbers.now i c.index-entries-place.result
    (get_or c.args.numbers.now i (record { 0 = 0 })) (record { 0 = 0 }) c.loop-place.numbered c.insert_first.new.self
    distinct are within c.index-entries-place.is refl (c.loop-place.invariant names distinct are)
    c.in_ok-insert_first.ensures.ok

pub returns : goal.returns
returns g c names distinct are =
    subst (λ ys. HasNumbers names ys c.loop-place.numbered)
    (take_all c.loop-place.place c.args.entries.now (omega arith))
    (c.loop-place.invariant names distinct are)
