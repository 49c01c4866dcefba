use Rattle.std.proofs.Common.{◌∙◌}
use Rattle.pc_offsets.specs.Context.{entries_of}
use Rattle.pc_offsets.proofs.ContextLemmas.{context_aligned, counted, past_by_trampolines}
use Rattle.pc_offsets.proofs.LayoutLemmas.{kept_apart, kept_fits}
use Rattle.pc_offsets.proofs.offsets.VMComponentOffsets.new.Goals as goal

pub lay_out-requires : goal.lay_out-requires
lay_out-requires g c =
    rw c.fields.ensures (context_aligned _ (entries_of c.args.component.now) (g.met.P.PtrSize.four_or_eight c.args.ptr))

pub returns-clause-none : goal.returns-clause-none
returns-clause-none g c =
    let same =
    c.fields.ensures
    ∙ counted (g.P.PtrSize.bytes c.args.ptr) c.args.component.now _ _
    c.in_ok-num_trampolines.ensures.held c.used_intrinsics.ensures in
    (λ is. absurd (cc is), λ past. absurd (kept_fits _ _ _ _ c.in_ok-kept.ensures.kept same past))

pub returns-clause-apart : goal.returns-clause-apart
returns-clause-apart g c =
    kept_apart _ _ _ _ c.in_ok-kept.ensures.kept c.fields.ensures
    (context_aligned _ (entries_of c.args.component.now) (g.met.P.PtrSize.four_or_eight c.args.ptr))

pub returns-in_err-num_trampolines-clause-none : goal.returns-in_err-num_trampolines-clause-none
returns-in_err-num_trampolines-clause-none g c = (
  λ none. past_by_trampolines _ (entries_of c.args.component.now) (g.met.P.PtrSize.four_or_eight c.args.ptr)
      (c.trampolines_of.ensures.past c.in_err-num_trampolines.was),
  λ past. c.from_residual.ensures,
)
