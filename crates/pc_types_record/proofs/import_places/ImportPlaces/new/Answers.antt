use Rattle.std.proofs.Common.{ap, arith}
use Rattle.std.specs.Prelude.{length}
use Rattle.pc_types.specs.declared.parsed.CoreKind.TheVariants as kind
use Rattle.pc_types.specs.Record.{places_from}
use Rattle.pc_types_record.proofs.PlacesLemmas.{grown, parts_are, places_total}
use Rattle.pc_types_record.proofs.import_places.ImportPlaces.new.Goals as goal

pub put-requires-clause-room : goal.put-requires-clause-room
put-requires-clause-room c =
    omega (arith, ap length c.in_ok-places.ensures, places_total 0 c.args.imports.now, c.requires.numbered)

pub put-requires-2-clause-room : goal.put-requires-2-clause-room
put-requires-2-clause-room c =
    let is = c.args.imports.now in
    omega (
      arith,
      ap length c.in_ok-places.ensures,
      grown c.in_ok-places.places c.put.new.places (places_from kind.Func 0 is) c.in_ok-funcs.ensures.appended,
      places_total 0 is,
      c.requires.numbered,
    )

pub put-requires-3-clause-room : goal.put-requires-3-clause-room
put-requires-3-clause-room c =
    let is = c.args.imports.now in
    omega (
      arith,
      ap length c.in_ok-places.ensures,
      grown c.in_ok-places.places c.put.new.places (places_from kind.Func 0 is) c.in_ok-funcs.ensures.appended,
      grown c.put.new.places c.put-2.new.places (places_from kind.Table 0 is) c.in_ok-tables.ensures.appended,
      places_total 0 is,
      c.requires.numbered,
    )

pub put-requires-4-clause-room : goal.put-requires-4-clause-room
put-requires-4-clause-room c =
    let is = c.args.imports.now in
    omega (
      arith,
      ap length c.in_ok-places.ensures,
      grown c.in_ok-places.places c.put.new.places (places_from kind.Func 0 is) c.in_ok-funcs.ensures.appended,
      grown c.put.new.places c.put-2.new.places (places_from kind.Table 0 is) c.in_ok-tables.ensures.appended,
      grown c.put-2.new.places c.put-3.new.places (places_from kind.Memory 0 is) c.in_ok-memories.ensures.appended,
      places_total 0 is,
      c.requires.numbered,
    )

pub put-requires-5-clause-room : goal.put-requires-5-clause-room
put-requires-5-clause-room c =
    let is = c.args.imports.now in
    omega (
      arith,
      ap length c.in_ok-places.ensures,
      grown c.in_ok-places.places c.put.new.places (places_from kind.Func 0 is) c.in_ok-funcs.ensures.appended,
      grown c.put.new.places c.put-2.new.places (places_from kind.Table 0 is) c.in_ok-tables.ensures.appended,
      grown c.put-2.new.places c.put-3.new.places (places_from kind.Memory 0 is) c.in_ok-memories.ensures.appended,
      grown c.put-3.new.places c.put-4.new.places (places_from kind.Global 0 is) c.in_ok-globals.ensures.appended,
      places_total 0 is,
      c.requires.numbered,
    )

pub returns : goal.returns
returns c =
    parts_are c.args.imports.now _ _ _ _ _ _ _ _ _ _ _ c.in_ok-places.ensures
    c.in_ok-funcs.ensures.appended c.in_ok-funcs.ensures.count
    c.in_ok-tables.ensures.appended c.in_ok-tables.ensures.count
    c.in_ok-memories.ensures.appended c.in_ok-memories.ensures.count
    c.in_ok-globals.ensures.appended c.in_ok-globals.ensures.count
    c.in_ok-tags.ensures.appended c.in_ok-tags.ensures.count
