use Rattle.std.proofs.Common.{ap}
use Rattle.std.specs.Option.{option_copied}
use Rattle.pc_inline_exports.proofs.ApartLemmas.{apart_made, apart_other}
use Rattle.pc_inline_exports.proofs.build.names_are_apart.Goals as goal

pub returns-in-Some : goal.returns-in-Some
returns-in-Some c =
    apart_made _ _ c.args.state.now c.requires.table c.requires.input.table c.are_distinct.ensures c.args.instance _ _
    c.in-Instance.is _ c.get.ensures _ (ap option_copied c.in-Some.is) c.numbers_are_distinct.ensures

pub returns-in_default : goal.returns-in_default
returns-in_default c =
    apart_other _ _ c.args.state.now c.requires.table c.requires.input.table c.are_distinct.ensures c.args.instance
    c.in_default.not-Instance
