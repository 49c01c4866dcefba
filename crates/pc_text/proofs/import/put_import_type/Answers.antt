use Rattle.std.specs.Prelude.{codes}
use Rattle.pc_spec_plan.specs.Text.{extern_data, import_kind, line_end, number, quoted}
use Rattle.pc_info.specs.View as seen
use Rattle.pc_text.proofs.Appending.{eight_pieces, then_holds}
use Rattle.pc_text.proofs.import.put_import_type.Goals as goal

pub returns : goal.returns
returns c =
    let import = c.args.import.now in
    then_holds c.put-2.result c.put-2.ensures
    (λ e. rw (
      e,
      c.in_ok-put_extern_data.ensures,
      c.in_ok-put.ensures,
      c.kind_word.ensures,
      c.in_ok-put_named_import.ensures,
      c.as_str.ensures,
    )
    (eight_pieces c.args.out.now.items (codes "import-type") (number c.args.n) (codes " ") (quoted c.args.name.now)
    (codes " ") (import_kind (seen.import_kind import.ty)) (extern_data import.data_) line_end))
