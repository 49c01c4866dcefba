use Rattle.std.proofs.Common.{subst, sym}
use Rattle.pc_types.specs.declared.types.InterfaceType.TheVariants as ty
use Rattle.pc_types.specs.declared.types.TypeDef.TheVariants as def
use Rattle.pc_types_lists.specs.Trees.{HasTree}
use Rattle.pc_types_lists.specs.View.{types_of}
use Rattle.pc_types_lists.proofs.FactLemmas.{known_tuple}
use Rattle.pc_types_lists.proofs.TreeFacts.{value_facts}
use Rattle.pc_types_lists.proofs.interned_types.InternedTypes.tuple_facts.Goals as goal

pub get-requires : goal.get-requires
get-requires c =
    let s = c.self.inside in
    record {
      held = known_tuple c.args.self.now
          (types_of s) s.facts c.self.view_is c.self.invariant.facts _ c.requires.held;
    }

pub returns : goal.returns
returns c =
    let s = c.self.inside in
    λ who tree has.
    value_facts (types_of s) s.facts c.self.invariant.facts who (ty.Tuple c.args.i) c.get.result tree
    (subst (λ b. HasTree b who (def.Interface (ty.Tuple c.args.i)) tree) (sym c.self.view_is) has) c.get.ensures
