use Rattle.std.proofs.Common.{◌≡◌, false, Ok, arith}
use Rattle.std.proofs.lemmas.Result.{err_from_is_err_and}
use Rattle.pc_stream.proofs.StreamLemmas.{ShowsFault-since}
use Rattle.pc_stream.proofs.PieceLemmas.{piece-so_far, piece-at_end, piece-told}
use Rattle.pc_stream.proofs.whole.read_all.Goals as goal

pub returns-in_err-read_piece-clause-too_long : goal.returns-in_err-read_piece-clause-too_long
returns-in_err-read_piece-clause-too_long g c told is_told =
    let p = err_from_is_err_and c.from_residual-in_err-read_piece.result c.from_residual-in_err-read_piece.ensures.1 in
    let was = c.in_err-read_piece.was in
    let r = piece-told _ _ _ _ _ _ c.loop-bytes.invariant.front c.read_piece.ensures.adds told is_told in
    (r.0, r.1, r.2, (λ e. r.3.0 (cc (e, p.1, p.2, was)), λ over. cc (r.3.1 over, p.1, p.2, was)))

pub returns-in_err-read_piece-clause-fault : goal.returns-in_err-read_piece-clause-fault
returns-in_err-read_piece-clause-fault g c e =
    let p = err_from_is_err_and c.from_residual-in_err-read_piece.result c.from_residual-in_err-read_piece.ensures.1 in
    let was = c.in_err-read_piece.was in
    ShowsFault-since _ _ _ c.loop-bytes.invariant.later (c.read_piece.ensures.fault (cc (e, p.1, p.2, was)))

pub returns-clause-whole : goal.returns-clause-whole
returns-clause-whole g c told is_told =
    let is_end : c.read_piece.result ≡ Ok false = cc (c.in_ok-read_piece.was, c.if-branch.false) in
    piece-at_end _ _ _ _ _ _ c.loop-bytes.invariant.front c.read_piece.ensures.adds told is_told is_end

pub returns-clause-too_long : goal.returns-clause-too_long
returns-clause-too_long g c told is_told =
    let r = piece-told _ _ _ _ _ _ c.loop-bytes.invariant.front c.read_piece.ensures.adds told is_told in
    (r.0, r.1, r.2, (λ e. absurd (cc e), λ over. absurd (cc (r.3.1 over, c.in_ok-read_piece.was))))

pub loop-bytes-preserved : goal.loop-bytes-preserved
loop-bytes-preserved g c = record {
  room = c.loop-bytes.invariant.room;
  fits = c.read_piece.ensures.still_fits;
  later = omega (arith, c.loop-bytes.invariant.later, c.read_piece.ensures.never_falls);
  front = piece-so_far _ _ _ _ _ _ c.loop-bytes.invariant.front c.read_piece.ensures.adds _ c.in_ok-read_piece.was;
}
