use Rattle.std.proofs.Common.{◌∙◌, ap, sym}
use Rattle.std.specs.Option.{option_copied}
use Rattle.pc_types_lists.specs.View.{types_of}
use Rattle.pc_types_lists.proofs.TreeFacts.{func_tuples}
use Rattle.pc_types_lists.proofs.interned_types.InternedTypes.func.Goals as goal

pub returns-clause-params : goal.returns-clause-params
returns-clause-params c =
    let s = c.self.inside in
    (func_tuples c.args.self.now
    (types_of s) s.facts c.self.view_is c.self.invariant.facts c.args.i.0 c.unwrap.result.now
    (sym c.get.ensures ∙ ap option_copied c.unwrap.ensures)).0

pub returns-clause-results : goal.returns-clause-results
returns-clause-results c =
    let s = c.self.inside in
    (func_tuples c.args.self.now
    (types_of s) s.facts c.self.view_is c.self.invariant.facts c.args.i.0 c.unwrap.result.now
    (sym c.get.ensures ∙ ap option_copied c.unwrap.ensures)).1
