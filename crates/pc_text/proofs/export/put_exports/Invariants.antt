use Rattle.std.proofs.Common.{◌≡◌, ◌++◌, length, reverse}
use Rattle.std.specs.List.{flat_map}
use Rattle.pc_spec_plan.specs.Text.{named_lines}
use Rattle.pc_info.specs.Exports.{exports_view, trees_of}
use Rattle.pc_text.specs.ExportWalk.{IsOpen, left_lines}
use Rattle.pc_text.proofs.ExportLemmas.{left_count}
use Rattle.pc_text.proofs.export.put_exports.Given as goal

abbrev pub invariant-loop-innermost : goal.invariant-loop-innermost
invariant-loop-innermost l = record {
  whole : l.out.items ++ left_lines (trees_of l.component.export_items) l.path.items (reverse l.stack.items)
      ≡ l.fn.out.items ++ flat_map named_lines (exports_view l.component);
  is_open : IsOpen (length l.component.export_items) (length l.path.items) (reverse l.stack.items);
}

abbrev pub decreases-loop-innermost : goal.decreases-loop-innermost
decreases-loop-innermost l = left_count l.component.export_items l.path.items (reverse l.stack.items)
