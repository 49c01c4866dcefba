use Rattle.std.proofs.Common.{sym}
use Rattle.pc_adapt_groups.proofs.GivesLemmas.{by_adapter, by_export, by_flags, by_intrinsic, by_trampoline, by_unknown}
use Rattle.pc_adapt_groups.proofs.reach.of_def.Goals as goal

pub returns-in-Export : goal.returns-in-Export
returns-in-Export c = by_export c.args.reaches.now _ _ _ c.in-Export.is c.of_instance.ensures

pub returns-in-InstanceFlags : goal.returns-in-InstanceFlags
returns-in-InstanceFlags c = by_flags c.args.reaches.now _ _ c.in-InstanceFlags.is

pub returns-in-UnsafeIntrinsic : goal.returns-in-UnsafeIntrinsic
returns-in-UnsafeIntrinsic c = by_intrinsic c.args.reaches.now _ _ _ c.in-UnsafeIntrinsic.is

pub returns-in-Some : goal.returns-in-Some
returns-in-Some c = by_trampoline c.args.reaches.now _ _ _ c.in-Trampoline.is (sym c.in-Some.ensures)

pub returns-in-None : goal.returns-in-None
returns-in-None c = by_unknown c.args.reaches.now _ _ _ c.in-Trampoline.is (sym c.in-None.ensures)

pub returns-in-Adapter : goal.returns-in-Adapter
returns-in-Adapter c = by_adapter c.args.reaches.now _ _ _ c.in-Adapter.is c.of_adapter_id.ensures
