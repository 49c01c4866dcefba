use Rattle.std.proofs.Common.{◌≡◌, ◌++◌, map, drop}
use Rattle.pc_spec_plan.specs.Text.{intrinsic_line, numbered}
use Rattle.pc_info.specs.View.{intrinsic_view}
use Rattle.pc_text.proofs.intrinsic.put_intrinsics.Given as goal

abbrev pub invariant-loop-place : goal.invariant-loop-place
invariant-loop-place l =
    l.out.items ++ numbered intrinsic_line l.place (map intrinsic_view (drop l.place l.signatures))
    ≡ l.fn.out.items ++ numbered intrinsic_line 0 (map intrinsic_view l.signatures)
