use Rattle.std.proofs.Common.{◌<◌, [], Some, None, length, ap, sym, subst, ◌∙◌, arith}
use Rattle.std.proofs.lemmas.List.{length-map, take_all}
use Rattle.std.proofs.lemmas.Option.{slice_get-get_or}
use Rattle.pc_entity.specs.Lists.{map_all, names_of}
use Rattle.pc_entity.proofs.LookupLemmas.{done_here}
use Rattle.pc_spec_reading.specs.Arguments.{static_argument}
use Rattle.pc_inline_names.specs.Both.{Both, both, neither}
use Rattle.pc_inline_names.specs.Numbers.{AreNumbers}
use Rattle.pc_inline_names.proofs.NumberedLemmas.{numbers_many}
use Rattle.pc_inline_state.specs.Found.{ArgumentStands, ArgumentsStand}
use Rattle.pc_inline_state.specs.Tables.{tables_of}
use Rattle.pc_inline_state.proofs.ZipLemmas.{both_missing, both_there, zip_length}
use Rattle.pc_inline_modules.proofs.BagLemmas.{map_all_missing}
use Rattle.pc_inline_modules.proofs.ExportedLemmas.{answers_more, item_found_there}
use Rattle.pc_inline_modules.proofs.ModuleArgumentsLemmas.{import_given, read_both}
use Rattle.pc_inline_modules.proofs.arguments.numbered_arguments.Goals as goal

pub first_numbered-requires : goal.first_numbered-requires
first_numbered-requires c = record {
  many = numbers_many c.args.state.now.names.now.texts (names_of c.args.args.now) c.args.numbers.now c.requires.numbered
      ∙ length-map c.args.args.now _;
}

pub loop-place-init : goal.loop-place-init
loop-place-init c s stands =
    subst (λ ds. Both (ArgumentsStand c.args.context.now.modules (tables_of c.args.state.now)) (Some ds) (Some []))
    (sym c.in_ok-defs.ensures) (both tt)

pub numbered_argument-requires : goal.numbered_argument-requires
numbered_argument-requires c =
    let names = c.requires.here.1.sound.names in record { modules = names.modules; table = names.table }

pub bounds-import_numbers-place : goal.bounds-import_numbers-place
bounds-import_numbers-place c =
    let within : c.loop-place.place < length c.args.imports.now = omega (arith, c.loop-place-test.true) in
    let each = zip_length (AreNumbers c.args.state.now.names.now.texts) c.args.imports.now c.args.import_numbers.now
    c.requires.imports in
    omega (arith, within, each)

pub found_def-requires : goal.found_def-requires
found_def-requires c =
    let here = c.requires.here in
    let names = c.args.state.now.names.now.texts in
    let n = c.loop-place.place in
    let x = c.index-imports-place.result in
    let within : n < length c.args.imports.now = omega (arith, c.loop-place-test.true) in
    let a = import_given c.args.context.now.table.now c.args.context.now.modules c.requires.input
    (tables_of c.args.state.now) here.1.sound.table c.args.frame.now c.args.args.now c.in_ok-given.given
    (c.in_ok-given.ensures names here.1.sound.names.distinct c.requires.numbered) x _
    (read_both (AreNumbers names) c.args.imports.now c.args.import_numbers.now n x _ c.requires.imports within
    c.index-imports-place.is) _ c.kind-kind.ensures _ c.numbered_argument.ensures here.0.scope here.1.frame in
    let v = both_there _ _ _ c.in-Some.item a c.in-Some.is in
    record {
      table = here.1.sound.table;
      names = here.1.sound.names.table;
      there = item_found_there _ _ _ c.in-Some.item v.0 v.2;
    }

pub loop-place-preserved : goal.loop-place-preserved
loop-place-preserved c s stands =
    let ms = c.args.context.now.modules in
    let b = tables_of c.args.state.now in
    let sound = c.requires.here.1.sound in
    let n = c.loop-place.place in
    let x = c.index-imports-place.result in
    let within : n < length c.args.imports.now = omega (arith, c.loop-place-test.true) in
    let a = import_given c.args.context.now.table.now ms c.requires.input b sound.table c.args.frame.now
    c.args.args.now c.in_ok-given.given (c.in_ok-given.ensures b.names.texts sound.names.distinct c.requires.numbered) x
    _
    (read_both (AreNumbers b.names.texts) c.args.imports.now c.args.import_numbers.now n x _ c.requires.imports within
    c.index-imports-place.is) _ c.kind-kind.ensures _ c.numbered_argument.ensures s stands in
    let v = both_there _ _ _ c.in-Some.item a c.in-Some.is in
    answers_more (ArgumentStands ms b) (static_argument ms s c.args.args.now) _ _ _ _ x _ v.0
    c.in_ok-push-in-Some.ensures.ok (done_here c.args.imports.now n x within c.index-imports-place.is)
    (c.loop-place.invariant s stands) v.1 (c.in_ok-found_def-in-Some.ensures _ v.0 v.2)

pub returns-in-None : goal.returns-in-None
returns-in-None c s stands =
    let ms = c.args.context.now.modules in
    let b = tables_of c.args.state.now in
    let sound = c.requires.here.1.sound in
    let n = c.loop-place.place in
    let x = c.index-imports-place.result in
    let within : n < length c.args.imports.now = omega (arith, c.loop-place-test.true) in
    let at = slice_get-get_or c.args.imports.now n x within ∙ ap Some (sym c.index-imports-place.is) in
    let a = import_given c.args.context.now.table.now ms c.requires.input b sound.table c.args.frame.now
    c.args.args.now c.in_ok-given.given (c.in_ok-given.ensures b.names.texts sound.names.distinct c.requires.numbered) x
    _
    (read_both (AreNumbers b.names.texts) c.args.imports.now c.args.import_numbers.now n x _ c.requires.imports within
    c.index-imports-place.is) _ c.kind-kind.ensures _ c.numbered_argument.ensures s stands in
    let missing = both_missing _ _ _ a c.in-None.is in
    subst (λ o. Both (ArgumentsStand ms b) None o)
    (sym (map_all_missing (static_argument ms s c.args.args.now) _ _ _ at missing)) neither

pub returns : goal.returns
returns c s stands =
    subst (λ xs. Both (ArgumentsStand c.args.context.now.modules (tables_of c.args.state.now)) (Some c.loop-place.defs)
    (map_all (static_argument c.args.context.now.modules s c.args.args.now) xs))
    (take_all c.loop-place.place c.args.imports.now c.loop-place-test.false)
    (c.loop-place.invariant s stands)
