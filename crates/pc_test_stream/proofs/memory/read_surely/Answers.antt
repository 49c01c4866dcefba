use Rattle.std.proofs.Common.{refl, ap, ◌∙◌, length, arith}
use Rattle.pc_test_stream.proofs.memory.read_surely.Goals as goal

pub returns-in-Ok : goal.returns-in-Ok
returns-in-Ok c = (c.in-Ok.ensures.whole _ refl).0 ∙ c.new-src.ensures

pub unreachable-requires-in-Err-TooLong : goal.unreachable-requires-in-Err-TooLong
unreachable-requires-in-Err-TooLong c =
    let given = c.read_all.ensures.too_long c.new-src.result refl in
    let over = given.3.0 (cc (c.in-Err-TooLong.is, c.in-Err-TooLong.field-0-is)) in
    omega (arith, over, given.1, c.requires, ap length c.new-src.ensures)
