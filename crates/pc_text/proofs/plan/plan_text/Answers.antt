use Rattle.pc_text.proofs.plan.plan_text.Goals as goal

pub returns : goal.returns
returns c =
    let trampolines = c.in_ok-put_trampolines.ensures c.args.t.now.component.trampolines in
    rw (
      c.in_ok-put_exports.ensures,
      c.in_ok-put_adapters.ensures,
      c.as_slice-5.ensures,
      c.in_ok-put_intrinsics.ensures,
      trampolines,
      c.as_slice-4.ensures,
      c.in_ok-put_all_options.ensures,
      c.as_slice-3.ensures,
      c.in_ok-put_initializers.ensures,
      c.as_slice-2.ensures,
      c.in_ok-put_imported.ensures,
      c.in_ok-put_counts.ensures,
      c.in_ok-put_modules.ensures,
      c.as_slice.ensures,
      c.new-out.ensures.items,
    )
