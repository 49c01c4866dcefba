use Rattle.std.proofs.Common.{refl}
use Rattle.pc_types_convert.proofs.KindAdds.{flags_copied, type_none}
use Rattle.pc_types_convert.proofs.defined.flags_entry.Goals as goal

pub returns-in_err-names-clause-adds : goal.returns-in_err-names-clause-adds
returns-in_err-names-clause-adds c = type_none _ _ _ refl

pub returns-in_err-put_flags-clause-adds : goal.returns-in_err-put_flags-clause-adds
returns-in_err-put_flags-clause-adds c = flags_copied _ _ c.args.names.now _ c.in_ok-names.ensures
    c.put_flags.ensures.rest c.put_flags.ensures.put

pub returns-clause-adds : goal.returns-clause-adds
returns-clause-adds c = flags_copied _ _ c.args.names.now _ c.in_ok-names.ensures c.put_flags.ensures.rest
    c.put_flags.ensures.put
