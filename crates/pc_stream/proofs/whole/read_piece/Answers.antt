use Rattle.std.proofs.Common.{take, arith}
use Rattle.std.proofs.lemmas.List.{length-take-le}
use Rattle.pc_stream.proofs.PieceLemmas.{piece-added}
use Rattle.pc_stream.proofs.whole.read_piece.Goals as goal

pub returns-clause-adds : goal.returns-clause-adds
returns-clause-adds g c =
    let n = c.in-Ok.n in
    let piece = c.read.new.buf in
    piece-added _ _ c.args.bytes.now.items c.extend_from_slice.new.self.items (take n piece) n
    (length-take-le n piece (omega (arith, c.in-Ok.ensures.within)))
    c.in-Ok.ensures.front
    c.in_ok-extend_from_slice.ensures.items
    (λ none. c.in-Ok.ensures.end none c.requires.room)
    (omega arith)
