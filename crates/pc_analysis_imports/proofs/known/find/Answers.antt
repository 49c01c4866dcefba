use Rattle.std.proofs.Common.{ap, subst, sym, ◌∙◌, [], length}
use Rattle.pc_analysis_imports.specs.Exported.{is_exported_in}
use Rattle.pc_analysis_imports.specs.Followed.{instances_after}
use Rattle.pc_analysis_imports.specs.Ways.{AreWays}
use Rattle.pc_analysis_imports.proofs.FindLemmas.{found_is, numbered_imports}
use Rattle.pc_analysis_imports.proofs.known.find.Goals as goal

pub find_by-requires : goal.find_by-requires
find_by-requires c = record {
  numbered =
      numbered_imports c.args.modules.now c.as_slice-records.result.now c.requires.numbered
      (c.as_slice-records.ensures.value ∙ c.in_ok-indexes.ensures);
}

pub returns : goal.returns
returns c =
    found_is c.args.translation.now c.args.modules.now c.as_slice-records.result.now c.as_slice-instances.result.now
    c.as_slice-ways.result.now c.in_ok-found.found (c.as_slice-records.ensures.value ∙ c.in_ok-indexes.ensures)
    (c.as_slice-instances.ensures ∙ c.in_ok-made.ensures
    ∙ ap (instances_after c.as_slice-records.result.now []) c.as_slice-steps.ensures)
    (ap length c.as_slice-ways.ensures.value ∙ c.in_ok-all_ways.ensures.count)
    (subst (AreWays (is_exported_in c.args.translation.now.component.export_items)
    c.args.translation.now.component.initializers) (sym c.as_slice-ways.ensures.value) c.in_ok-all_ways.ensures.ways)
    c.in_ok-found.ensures
