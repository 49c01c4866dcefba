use Rattle.pc_types_convert.proofs.KindAdds.{module_imports_added, module_exports_added, module_added}
use Rattle.std.proofs.Common.{refl}
use Rattle.pc_types_lists.proofs.ErrorLemmas.{passed_on}
use Rattle.pc_types_lists.proofs.Growth.{grows_3, grows_trans}
use Rattle.pc_types_convert.proofs.PartLemmas.{exports_grow, imports_grow}
use Rattle.pc_types_convert.proofs.ThereLemmas.{module_there}
use Rattle.pc_types_convert.proofs.extern_type.module_entry.Goals as goal

pub returns-in_err-exports-clause-grows : goal.returns-in_err-exports-clause-grows
returns-in_err-exports-clause-grows c = grows_trans _ _ _ c.module_imports.ensures.grows c.module_exports.ensures.grows

pub returns-in_err-put_module-clause-grows : goal.returns-in_err-put_module-clause-grows
returns-in_err-put_module-clause-grows c =
    grows_3 _ _ _ _ c.module_imports.ensures.grows c.module_exports.ensures.grows c.put_module.ensures.grows

pub returns-clause-is : goal.returns-clause-is
returns-clause-is c =
    let t = c.args.table.now in
    let last = c.put_module.new.self in
    let after_imports = grows_trans _ _ last c.module_exports.ensures.grows c.put_module.ensures.grows in (
      c.in_ok-put_module.field-0,
      _,
      refl,
      c.in_ok-put_module.ensures.held,
      imports_grow _ last after_imports t c.args.imports.now c.in_ok-imports.imports c.in_ok-imports.ensures.are,
      exports_grow _ last c.put_module.ensures.grows t c.args.exports.now c.in_ok-exports.exports
          c.in_ok-exports.ensures.are,
    )

pub returns-clause-grows : goal.returns-clause-grows
returns-clause-grows c =
    grows_3 _ _ _ _ c.module_imports.ensures.grows c.module_exports.ensures.grows c.put_module.ensures.grows

pub returns-in_err-put_module-clause-full : goal.returns-in_err-put_module-clause-full
returns-in_err-put_module-clause-full c =
    let error = c.from_residual-in_err-put_module in
    passed_on error.result c.in_err-put_module.field-0.0 _ _ _ error.ensures.1 c.in_err-put_module.ensures.full
    (λ next g is.
    module_there _ _ next c.module_exports.ensures.grows (grows_trans _ _ next c.put_module.ensures.grows g) is
    c.args.table.now c.args.imports.now _ c.args.exports.now _ c.in_ok-imports.ensures.are c.in_ok-exports.ensures.are)

pub returns-in_err-imports-clause-adds : goal.returns-in_err-imports-clause-adds
returns-in_err-imports-clause-adds c =
    module_imports_added c.args.table.now c.args.imports.now c.args.exports.now _ _ c.module_imports.ensures.signatures

pub returns-in_err-exports-clause-adds : goal.returns-in_err-exports-clause-adds
returns-in_err-exports-clause-adds c =
    module_exports_added c.args.table.now c.args.imports.now c.args.exports.now _ _ _ c.module_exports.ensures.grows
    c.module_imports.ensures.signatures c.module_exports.ensures.signatures

pub returns-in_err-put_module-clause-adds : goal.returns-in_err-put_module-clause-adds
returns-in_err-put_module-clause-adds c =
    module_added c.args.table.now c.args.imports.now c.args.exports.now _ _ _ c.module_exports.ensures.grows
    c.module_imports.ensures.signatures c.module_exports.ensures.signatures _ c.put_module.ensures.grows _ _
    c.in_ok-imports.ensures.are c.in_ok-exports.ensures.are c.put_module.ensures.rest c.put_module.ensures.put

pub returns-clause-adds : goal.returns-clause-adds
returns-clause-adds c =
    module_added c.args.table.now c.args.imports.now c.args.exports.now _ _ _ c.module_exports.ensures.grows
    c.module_imports.ensures.signatures c.module_exports.ensures.signatures _ c.put_module.ensures.grows _ _
    c.in_ok-imports.ensures.are c.in_ok-exports.ensures.are c.put_module.ensures.rest c.put_module.ensures.put
