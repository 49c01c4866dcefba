use Rattle.std.proofs.Common.{List, subst}
use Rattle.std.specs.List.{AllZip}
use Rattle.pc_entity.specs.Lists.{Kept}
use Rattle.pc_entity.proofs.Growing.{kept_trans}
use Rattle.pc_types.specs.declared.module_record.ModuleRecord.{ModuleRecord}
use Rattle.pc_types.specs.declared.parsed.DeclType.{DeclType}
use Rattle.pc_local.specs.declared.item.LocalInitializer.{LocalInitializer}
use Rattle.pc_local.specs.declared.item.Translation.{Translation}
use Rattle.pc_inline_names.specs.Tables.{AreBodyNumbers, AreItemNumbers, AreRecordNumbers, AreTypeNumbers, HasExports}
use Rattle.pc_inline_names.proofs.AddedLemmas.{ItemNumbered, item_lasts, record_lasts, type_lasts, zip_lasts}
use Rattle.pc_inline_names.proofs.program_names.add_program.Goals as goal

pub returns-clause-names : goal.returns-clause-names
returns-clause-names c = c.in_ok-bodies.ensures.adds.names

pub returns-clause-tables : goal.returns-clause-tables
returns-clause-tables c =
    let program = c.args.program.now in
    let first = c.add_records.new.texts in
    let second = c.add_types.new.texts in
    let third = c.add_items.new.texts in
    let last = c.add_bodies.new.texts in
    let from_third : Kept third last = c.in_ok-bodies.ensures.adds.kept in
    let from_second : Kept second last = kept_trans second third last c.in_ok-root.ensures.adds.kept from_third in
    let from_first : Kept first last = kept_trans first second last c.in_ok-types.ensures.adds.kept from_second in
    record {
      imports = zip_lasts AreRecordNumbers record_lasts first last from_first program.modules c.in_ok-imports.imports
          (subst (λ (rs : List ModuleRecord). AllZip (AreRecordNumbers first) rs c.in_ok-imports.imports)
          c.as_slice.ensures c.in_ok-imports.ensures.numbers);
      exports = subst (λ (rs : List ModuleRecord). AllZip (HasExports last) rs c.in_ok-exports.exports)
          c.as_slice-5.ensures c.in_ok-exports.ensures;
      types = zip_lasts AreTypeNumbers type_lasts second last from_second c.args.table.now.types c.in_ok-types.types
          (subst (λ (es : List DeclType). AllZip (AreTypeNumbers second) es c.in_ok-types.types) c.as_slice-2.ensures
          c.in_ok-types.ensures.numbers);
      root = zip_lasts ItemNumbered item_lasts third last from_third program.root.initializers c.in_ok-root.root.ended
          (subst (λ (ls : List LocalInitializer). AreItemNumbers third ls c.in_ok-root.root.ended) c.as_slice-3.ensures
          c.in_ok-root.ensures.numbers);
      bodies = subst (λ (trs : List Translation). AllZip (AreBodyNumbers last) trs c.in_ok-bodies.bodies)
          c.as_slice-4.ensures c.in_ok-bodies.ensures.numbers;
    }
