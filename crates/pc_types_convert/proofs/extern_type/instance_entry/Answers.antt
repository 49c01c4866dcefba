use Rattle.pc_types_convert.proofs.KindAdds.{instance_added, type_none}
use Rattle.std.proofs.Common.{Some, ap, ◌∙◌, refl}
use Rattle.pc_types_convert.proofs.OneNumber.{one_externs}
use Rattle.pc_types_lists.proofs.ErrorLemmas.{passed_on}
use Rattle.pc_types_convert.proofs.LikeLemmas.{instance_like}
use Rattle.pc_types_convert.proofs.extern_type.instance_entry.Goals as goal

pub returns-in_err-number-clause-full : goal.returns-in_err-number-clause-full
returns-in_err-number-clause-full c =
    let part = c.in_ok-exports in
    passed_on c.from_residual-in_err-number.result c.in_err-number.field-0.0 _ _ _
    c.from_residual-in_err-number.ensures.1 c.in_err-number.ensures.full
    (λ next g is q. (
      q.1.0.0,
      q.1.3 ∙ ap (λ x. Some (record { exports = x }))
          (one_externs c.args.done.now c.args.exports.now q.1.1.exports part.exports q.1.4 part.ensures.are),
    ))

pub returns-in_err-exports-clause-adds : goal.returns-in_err-exports-clause-adds
returns-in_err-exports-clause-adds c = type_none _ _ _ refl

pub returns-in_err-number-clause-adds : goal.returns-in_err-number-clause-adds
returns-in_err-number-clause-adds c =
    instance_added _ _ c.args.done.now c.args.exports.now _ c.in_ok-exports.ensures.are c.put_instance.ensures.rest
    c.put_instance.ensures.put

pub returns-clause-adds : goal.returns-clause-adds
returns-clause-adds c =
    instance_added _ _ c.args.done.now c.args.exports.now _ c.in_ok-exports.ensures.are c.put_instance.ensures.rest
    c.put_instance.ensures.put

pub put_instance-requires : goal.put_instance-requires
put_instance-requires c = record {
  like = instance_like c.args.interned.now c.args.done.now c.args.like c.args.exports.now _ c.requires.like
      c.instance_number.result c.instance_number.ensures c.in_ok-exports.ensures.are;
}
