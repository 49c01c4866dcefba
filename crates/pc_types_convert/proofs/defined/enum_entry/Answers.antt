use Rattle.std.proofs.Common.{refl}
use Rattle.pc_types_convert.proofs.KindAdds.{enum_copied, type_none}
use Rattle.pc_types_convert.proofs.defined.enum_entry.Goals as goal

pub returns-in_err-names-clause-adds : goal.returns-in_err-names-clause-adds
returns-in_err-names-clause-adds c = type_none _ _ _ refl

pub returns-in_err-put_enum_type-clause-adds : goal.returns-in_err-put_enum_type-clause-adds
returns-in_err-put_enum_type-clause-adds c = enum_copied _ _ c.args.names.now _ c.in_ok-names.ensures
    c.put_enum_type.ensures.rest c.put_enum_type.ensures.put

pub returns-clause-adds : goal.returns-clause-adds
returns-clause-adds c = enum_copied _ _ c.args.names.now _ c.in_ok-names.ensures c.put_enum_type.ensures.rest
    c.put_enum_type.ensures.put
