use Rattle.std.proofs.Common.{List, ◌≤◌, ◌++◌, ◌∙◌, ap, length, map, sym, arith}
use Rattle.std.proofs.lemmas.List.{append-nil, drop_all}
use Rattle.pc_entity.specs.declared.packed_option.PackedOption.{PackedOption}
use Rattle.pc_numbers.specs.declared.module_entity.ModuleInternedTypeIndex.{ModuleInternedTypeIndex}
use Rattle.pc_spec_plan.specs.Text.{intrinsic_line, numbered}
use Rattle.pc_info.specs.View.{intrinsic_view}
use Rattle.pc_text.proofs.intrinsic.put_intrinsics.Goals as goal

pub returns : goal.returns
returns c =
    let l = c.loop-place in
    let all = c.args.signatures.now in
    let past : length all ≤ l.place = omega (arith, c.told-signatures, c.loop-place-test.false) in
    sym (append-nil l.out.items)
    ∙ ap (λ (left : List (PackedOption ModuleInternedTypeIndex)).
    l.out.items ++ numbered intrinsic_line l.place (map intrinsic_view left)) (sym (drop_all l.place all past))
    ∙ l.invariant
