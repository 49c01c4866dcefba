use Rattle.pc_types_convert.proofs.KindAdds.{component_added, type_none}
use Rattle.std.proofs.Common.{Some, ◌∙◌, refl}
use Rattle.pc_types_convert.proofs.OneNumber.{one_externs}
use Rattle.pc_types_lists.proofs.ErrorLemmas.{passed_on}
use Rattle.pc_types_convert.proofs.LikeLemmas.{component_like}
use Rattle.pc_types_convert.proofs.extern_type.component_entry.Goals as goal

pub returns-in_err-number-clause-full : goal.returns-in_err-number-clause-full
returns-in_err-number-clause-full c =
    let done = c.args.done.now in
    let i = c.in_ok-imports in
    let e = c.in_ok-exports in
    passed_on c.from_residual-in_err-number.result c.in_err-number.field-0.0 _ _ _
    c.from_residual-in_err-number.ensures.1 c.in_err-number.ensures.full
    (λ next g is q.
    let imports = one_externs done c.args.imports.now q.1.1.imports i.imports q.1.4 i.ensures.are in
    let exports = one_externs done c.args.exports.now q.1.1.exports e.exports q.1.5 e.ensures.are in
    (q.1.0.0, q.1.3 ∙ (λ j. Some (record { imports = imports j; exports = exports j }))))

pub returns-in_err-imports-clause-adds : goal.returns-in_err-imports-clause-adds
returns-in_err-imports-clause-adds c = type_none _ _ _ refl

pub returns-in_err-exports-clause-adds : goal.returns-in_err-exports-clause-adds
returns-in_err-exports-clause-adds c = type_none _ _ _ refl

pub returns-in_err-number-clause-adds : goal.returns-in_err-number-clause-adds
returns-in_err-number-clause-adds c =
    component_added _ _ c.args.done.now c.args.imports.now c.args.exports.now _ _ c.in_ok-imports.ensures.are
    c.in_ok-exports.ensures.are c.put_component.ensures.rest c.put_component.ensures.put

pub returns-clause-adds : goal.returns-clause-adds
returns-clause-adds c =
    component_added _ _ c.args.done.now c.args.imports.now c.args.exports.now _ _ c.in_ok-imports.ensures.are
    c.in_ok-exports.ensures.are c.put_component.ensures.rest c.put_component.ensures.put

pub put_component-requires : goal.put_component-requires
put_component-requires c = record {
  like = component_like c.args.interned.now c.args.done.now c.args.like c.args.imports.now c.args.exports.now _ _
      c.requires.like c.component_number.result c.component_number.ensures c.in_ok-imports.ensures.are
      c.in_ok-exports.ensures.are;
}
