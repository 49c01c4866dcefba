use Rattle.pc_offsets.specs.Context.{entries_for}
use Rattle.pc_offsets.proofs.ContextLemmas.{context_aligned}
use Rattle.pc_offsets.proofs.LayoutLemmas.{field_at, field_fits}
use Rattle.pc_offsets.proofs.offsets.VMComponentOffsets.array.Goals as goal

pub new-requires : goal.new-requires
new-requires g c =
    let aligned = context_aligned _ (entries_for c.args.self.now) (g.met.P.PtrSize.four_or_eight c.args.self.now.ptr) in
    rw c.fields.ensures (field_fits _ _ _ c.requires.laid_out aligned c.args.n c.requires.within _ _)

pub returns : goal.returns
returns g c =
    let aligned = context_aligned _ (entries_for c.args.self.now) (g.met.P.PtrSize.four_or_eight c.args.self.now.ptr) in
    rw (c.new.ensures.start, c.new.ensures.count, c.new.ensures.size, c.fields.ensures)
    (field_at _ _ _ c.requires.laid_out aligned c.args.n c.requires.within _ _)
