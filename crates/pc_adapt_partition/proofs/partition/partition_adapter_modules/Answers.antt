use Rattle.std.proofs.Common.{Ok, refl}
use Rattle.pc_adapt_partition.specs.Partitions.{facts_by}
use Rattle.pc_adapt_partition.proofs.AdaptedLemmas.{are_adapted}
use Rattle.pc_adapt_partition.proofs.PartitionLemmas.{adds_few, adds_short, apart_all, facts_from, grouped_after, keeps_all}
use Rattle.pc_adapt_partition.proofs.PartitionLemmas.{known_from, occurs_all, ordered_after, told_all, wired_all}
use Rattle.pc_adapt_partition.proofs.RefusalLemmas.{lacking_told, nobody_lacks, not_bad_push, not_bad_ok, push_full}
use Rattle.pc_adapt_partition.proofs.WiredModuleLemmas.{modules_wired}
use Rattle.pc_adapt_partition.proofs.MostLemmas.{nothing_made}
use Rattle.pc_adapt_partition.proofs.partition.partition_adapter_modules.Goals as goal

pub returns-in-Some-clause-bad : goal.returns-in-Some-clause-bad
returns-in-Some-clause-bad c who lift lower typed a =
    lacking_told c.args.dfg.now lift lower c.first_lacking.result c.in-Some.id a c.in-Some.is
    (c.first_lacking.ensures who lift lower typed a)

pub make-requires-clause-known : goal.make-requires-clause-known
make-requires-clause-known c = known_from c.args.types.now c.args.dfg.now c.requires.held c.requires.typed

pub returns-in_err-make-clause-bad : goal.returns-in_err-make-clause-bad
returns-in_err-make-clause-bad c who lift lower typed a =
    nobody_lacks c.args.dfg.now lift lower c.first_lacking.result a c.from_residual.result c.in_default.is
    (c.first_lacking.ensures who lift lower typed a)
    (λ bad. not_bad_push c.in_err-make.field-0.0 a _ (rw bad at c.from_residual.ensures.1) refl)

pub returns-in_err-make-clause-full : goal.returns-in_err-make-clause-full
returns-in_err-make-clause-full c is who lift lower typed =
    let full = push_full c.in_err-make.field-0.0 _ (rw is at c.from_residual.ensures.1) refl in
    c.in_err-make.ensures.full (cc full) (facts_by lift) (facts_by lower)
    (facts_from c.args.types.now who c.args.dfg.now lift lower typed)

pub returns-clause-bad : goal.returns-clause-bad
returns-clause-bad c who lift lower typed a =
    nobody_lacks c.args.dfg.now lift lower c.first_lacking.result a (Ok (tt {0})) c.in_default.is
    (c.first_lacking.ensures who lift lower typed a) (not_bad_ok a)

pub returns-clause-partitions : goal.returns-clause-partitions
returns-clause-partitions c who lift lower typed =
    c.in_ok-make.ensures.partitions (facts_by lift) (facts_by lower)
    (facts_from c.args.types.now who c.args.dfg.now lift lower typed)

pub returns-clause-adapted : goal.returns-clause-adapted
returns-clause-adapted c who lift lower values typed mean =
    are_adapted (facts_by lift) (facts_by lower) values c.args.dfg.now c.make.new.graph c.args.modules.now
    c.make.new.modules c.requires.no_modules c.requires.ungrouped mean
    (c.in_ok-make.ensures.partitions (facts_by lift) (facts_by lower)
    (facts_from c.args.types.now who c.args.dfg.now lift lower typed))

pub returns-clause-keeps : goal.returns-clause-keeps
returns-clause-keeps c =
    let known = known_from c.args.types.now c.args.dfg.now c.requires.held c.requires.typed in
    keeps_all known.lift known.lower c.args.dfg.now c.make.new.graph c.args.modules.now c.make.new.modules
    c.requires.ordered c.requires.no_modules c.requires.ungrouped
    (c.in_ok-make.ensures.partitions known.lift known.lower known.facts)

pub returns-clause-ordered : goal.returns-clause-ordered
returns-clause-ordered c =
    let known = known_from c.args.types.now c.args.dfg.now c.requires.held c.requires.typed in
    ordered_after known.lift known.lower c.args.dfg.now c.make.new.graph c.args.modules.now c.make.new.modules
    c.requires.ordered c.requires.no_modules c.requires.ungrouped
    (c.in_ok-make.ensures.partitions known.lift known.lower known.facts)

pub returns-clause-grouped : goal.returns-clause-grouped
returns-clause-grouped c =
    let known = known_from c.args.types.now c.args.dfg.now c.requires.held c.requires.typed in
    grouped_after known.lift known.lower c.args.dfg.now c.make.new.graph c.args.modules.now c.make.new.modules
    c.requires.ordered c.requires.no_modules c.requires.ungrouped
    (c.in_ok-make.ensures.partitions known.lift known.lower known.facts)

pub returns-clause-few : goal.returns-clause-few
returns-clause-few c =
    let known = known_from c.args.types.now c.args.dfg.now c.requires.held c.requires.typed in
    adds_few known.lift known.lower c.args.dfg.now c.make.new.graph c.args.modules.now c.make.new.modules
    c.requires.ordered c.requires.no_modules c.requires.ungrouped
    (c.in_ok-make.ensures.partitions known.lift known.lower known.facts)

pub returns-clause-short : goal.returns-clause-short
returns-clause-short c =
    let known = known_from c.args.types.now c.args.dfg.now c.requires.held c.requires.typed in
    adds_short known.lift known.lower c.args.dfg.now c.make.new.graph c.args.modules.now c.make.new.modules
    c.requires.ordered c.requires.no_modules c.requires.ungrouped
    (c.in_ok-make.ensures.partitions known.lift known.lower known.facts)

pub returns-clause-told : goal.returns-clause-told
returns-clause-told c u told =
    let known = known_from c.args.types.now c.args.dfg.now c.requires.held c.requires.typed in
    told_all known.lift known.lower c.args.dfg.now c.make.new.graph c.args.modules.now c.make.new.modules
    c.requires.ordered c.requires.no_modules c.requires.ungrouped
    (c.in_ok-make.ensures.partitions known.lift known.lower known.facts) u told

pub returns-clause-distinct : goal.returns-clause-distinct
returns-clause-distinct c =
    let known = known_from c.args.types.now c.args.dfg.now c.requires.held c.requires.typed in
    apart_all known.lift known.lower c.args.dfg.now c.make.new.graph c.args.modules.now c.make.new.modules
    c.requires.ordered c.requires.no_modules c.requires.ungrouped
    (c.in_ok-make.ensures.partitions known.lift known.lower known.facts)

pub returns-clause-occurs : goal.returns-clause-occurs
returns-clause-occurs c =
    let known = known_from c.args.types.now c.args.dfg.now c.requires.held c.requires.typed in
    occurs_all known.lift known.lower c.args.dfg.now c.make.new.graph c.args.modules.now c.make.new.modules
    c.requires.ordered c.requires.no_modules c.requires.ungrouped
    (c.in_ok-make.ensures.partitions known.lift known.lower known.facts)

pub returns-clause-wired : goal.returns-clause-wired
returns-clause-wired c who lift lower values typed handed_in have lifts wired =
    let parts = c.in_ok-make.ensures.partitions (facts_by lift) (facts_by lower)
    (facts_from c.args.types.now who c.args.dfg.now lift lower typed) in
    wired_all (facts_by lift) (facts_by lower) c.args.dfg.now c.make.new.graph c.args.modules.now c.make.new.modules
    c.requires.ordered c.requires.no_modules c.requires.ungrouped parts lifts wired
    (modules_wired (facts_by lift) (facts_by lower) values c.args.dfg.now c.make.new.graph c.args.modules.now
    c.make.new.modules c.requires.ordered parts.makes.keeps.grows have
    (are_adapted (facts_by lift) (facts_by lower) values c.args.dfg.now c.make.new.graph c.args.modules.now
    c.make.new.modules c.requires.no_modules c.requires.ungrouped have parts))

pub returns-in-Some-clause-most : goal.returns-in-Some-clause-most
returns-in-Some-clause-most c = nothing_made _ _ c.args.dfg.now c.args.modules.now

pub returns-in_err-make-clause-most : goal.returns-in_err-make-clause-most
returns-in_err-make-clause-most c = c.make.ensures.most

pub returns-clause-most : goal.returns-clause-most
returns-clause-most c = c.make.ensures.most
