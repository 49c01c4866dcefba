use Rattle.std.proofs.Common.{arith, ◌≡◌, length}
use Rattle.std.proofs.lemmas.Option.{slice_get_within}
use Rattle.std.proofs.lemmas.Result.{on_ok_weaker}
use Rattle.pc_adapt_partition.proofs.StepLemmas.{note_room, planned_held, puts_from}
use Rattle.pc_adapt_partition.proofs.MostLemmas.{nothing_added, planned_few}
use Rattle.pc_adapt_partition.proofs.group.put.Goals as goal

pub note-requires : goal.note-requires
note-requires c =
    let is = c.in_ok-imports.imports in
    let size : c.len.result ≡ length is.items = omega (arith, c.len.ensures, is.ok) in
    record {
      room = note_room c.args.types.now c.args.graph.now.adapters c.args.id.0 c.requires.known
          c.contains-transparent.result c.index.result.now
          c.index-2.result.now c.index.ensures c.index-2.ensures is.items c.in_ok-imports.ensures
          (length c.args.group.now.args) c.len.result size (omega (arith, c.if-len.false, c.len-2.ensures))
          c.requires.room;
    }

pub index-requires-3 : goal.index-requires-3
index-requires-3 c = slice_get_within c.args.graph.now.adapters c.args.id.0 c.index.result.now c.index.ensures

pub define_all-requires-clause-held : goal.define_all-requires-clause-held
define_all-requires-clause-held c =
    planned_held c.args.types.now c.args.graph.now c.requires.ordered.held c.args.id.0 c.requires.known
    c.contains-transparent.result c.index.result.now c.index.ensures c.in_ok-imports.imports.items
    c.in_ok-imports.ensures

pub returns-clause-puts : goal.returns-clause-puts
returns-clause-puts c =
    let is = c.in_ok-imports.imports in
    let size : c.len.result ≡ length is.items = omega (arith, c.len.ensures, is.ok) in
    let many : c.len-3.result ≡ length is.items = omega (arith, c.len-3.ensures, is.ok) in
    on_ok_weaker c.define_all.result
    (λ defined x lift lower at facts.
    puts_from c.args.types.now c.args.graph.now c.define_all.new.graph c.args.id.0 c.contains-transparent.result
    c.contains-transparent.ensures c.index.result.now c.index-2.result.now c.index-3.result.now x c.index.ensures
    c.index-2.ensures c.index-3.ensures at is.items
    c.in_ok-imports.ensures c.args.group.now c.note.new.group c.define_all.new.args c.len-3.result many
    c.in_ok-note.ensures (omega (arith, size, c.if-len.false, c.len-2.ensures, c.requires.room)) defined lift lower
    facts)
    c.define_all.ensures.defined

pub returns-in_err-imports-clause-few : goal.returns-in_err-imports-clause-few
returns-in_err-imports-clause-few c = nothing_added 9 1 1 12 c.args.graph.now

pub returns-then-len-clause-few : goal.returns-then-len-clause-few
returns-then-len-clause-few c = nothing_added 9 1 1 12 c.args.graph.now

pub returns-in_err-note-clause-few : goal.returns-in_err-note-clause-few
returns-in_err-note-clause-few c = nothing_added 9 1 1 12 c.args.graph.now

pub returns-clause-few : goal.returns-clause-few
returns-clause-few c =
    planned_few c.args.types.now c.args.graph.now c.define_all.new.graph c.args.id.0 c.requires.known
    c.contains-transparent.result c.index.result.now c.index.ensures c.in_ok-imports.imports.items
    c.in_ok-imports.ensures c.define_all.ensures.adds
