use Rattle.std.proofs.Common.{refl}
use Rattle.pc_offsets.proofs.ContextLemmas.{size_told, size_untold}
use Rattle.pc_offsets.proofs.offsets.VMComponentOffsets.size_for.Goals as goal

pub returns-in-Some : goal.returns-in-Some
returns-in-Some g c =
    size_told g.P.PtrSize.bytes c.in-Some.offsets c.args.ptr c.args.component.now _ c.in-Some.ensures.laid_out
    c.in-Some.ensures.ptr c.in-Some.ensures.entries c.size_of_vmctx.ensures

pub returns-in-None : goal.returns-in-None
returns-in-None g c = size_untold _ c.args.component.now (c.in-None.ensures.none.0 refl)
