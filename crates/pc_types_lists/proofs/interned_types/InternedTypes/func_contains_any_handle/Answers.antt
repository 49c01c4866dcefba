use Rattle.std.proofs.Common.{◌∙◌, ap, subst, sym}
use Rattle.pc_types.specs.declared.types.TypeDef.TheVariants as def
use Rattle.pc_types_lists.specs.Facts.{has_handle}
use Rattle.pc_types_lists.specs.Trees.{HasTree}
use Rattle.pc_types_lists.specs.View.{types_of}
use Rattle.pc_types_lists.proofs.FactLemmas.{known_func}
use Rattle.pc_types_lists.proofs.TreeFacts.{func_facts}
use Rattle.pc_types_lists.proofs.interned_types.InternedTypes.func_contains_any_handle.Goals as goal

pub get-requires : goal.get-requires
get-requires c =
    let s = c.self.inside in
    record {
      held = known_func c.args.self.now
          (types_of s) s.facts c.self.view_is c.self.invariant.facts _ c.requires.held;
    }

pub returns : goal.returns
returns c =
    let s = c.self.inside in
    λ who tree has.
    c.has_handle.ensures ∙ ap has_handle
    (func_facts (types_of s) s.facts c.self.invariant.facts who c.args.i c.get.result tree
    (subst (λ b. HasTree b who (def.ComponentFunc c.args.i) tree) (sym c.self.view_is) has) c.get.ensures)
