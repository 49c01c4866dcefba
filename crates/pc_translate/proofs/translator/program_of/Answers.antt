use Rattle.std.proofs.Common.{rules, ◌≤◌, ◌<◌, arith}
use Rattle.pc_translate.proofs.CauseLemmas.{is_program, stops, too_many}
use Rattle.pc_translate.proofs.translator.program_of.Goals as goal

pub returns-then-counted-ge-FULL-clause-refused : goal.returns-then-counted-ge-FULL-clause-refused
returns-then-counted-ge-FULL-clause-refused c =
    let many : 4294967295 ≤ c.counted-counted.result = grind (rules, arith, c.if-counted-ge-FULL.true) in
    too_many _ _ _ _ _ _ c.types_held.ensures c.counted-counted.ensures.counted many

pub returns-in_err-program-clause-refused : goal.returns-in_err-program-clause-refused
returns-in_err-program-clause-refused c =
    let below : c.counted-counted.result < 4294967295 = grind (rules, arith, c.if-counted-ge-FULL.false) in
    stops _ _ _ _ _ _ c.types_held.ensures c.counted-counted.ensures.counted below _ _ c.from_residual.ensures.1
    c.in_err-program.ensures.refused

pub returns-clause-program : goal.returns-clause-program
returns-clause-program c =
    let below : c.counted-counted.result < 4294967295 = grind (rules, arith, c.if-counted-ge-FULL.false) in
    is_program _ _ _ _ _ _ c.types_held.ensures c.counted-counted.ensures.counted _ below
    c.in_ok-program.ensures.program c.in_ok-program.ensures.sound
