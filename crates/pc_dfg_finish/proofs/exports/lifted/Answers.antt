use Rattle.pc_dfg_linearize.specs.Numbers.{number_at}
use Rattle.pc_dfg_linearize.specs.Parts.{number_of}
use Rattle.pc_dfg_linearize.proofs.NumberLemmas.{is_there}
use Rattle.pc_dfg_finish.proofs.exports.lifted.Goals as goal

pub at-options-requires : goal.at-options-requires
unfolding number_of
at-options-requires c =
    let options = c.requires.numbered.options in
    record { numbered = is_there (number_at c.args.finish.now.numbers.options c.args.options.0) options.0 options.1 }
