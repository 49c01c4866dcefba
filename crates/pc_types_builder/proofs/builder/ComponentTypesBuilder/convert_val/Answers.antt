use Rattle.pc_types_lists.proofs.ErrorLemmas.{told}
use Rattle.pc_types_lists.proofs.Growth.{too_full}
use Rattle.std.proofs.Common.{sym, subst, ◌∙◌}
use Rattle.pc_types.specs.declared.types.TypeDef.TheVariants as def
use Rattle.pc_types_convert.proofs.PartLemmas.{if_ok_more}
use Rattle.pc_types_builder.specs.Trees.{IsEntry, IsValue}
use Rattle.pc_types_builder.proofs.RefusalLemmas.{prim_wanted}
use Rattle.pc_types_builder.proofs.Simulation.{prim_is_value}
use Rattle.pc_types_builder.specs.Asked.{AddsValue}
use Rattle.pc_types_builder.proofs.AskedLemmas.{prim_asked, type_asked}
use Rattle.pc_types_builder.proofs.CountLemmas.{contexts_few}
use Rattle.pc_types_lists.specs.Adds.{AddsTypes, HasNoPlaceFor, most_types}
use Rattle.pc_types_lists.proofs.FewLemmas.{no_place_now}
use Rattle.pc_types_builder.proofs.builder.ComponentTypesBuilder.convert_val.Goals as goal

pub returns-in_ok-primitive-in-Prim-clause-tree : goal.returns-in_ok-primitive-in-Prim-clause-tree
returns-in_ok-primitive-in-Prim-clause-tree c =
    prim_is_value _ c.args.table.now c.args.v.now _ _ c.in-Prim.is c.in_ok-primitive-in-Prim.ensures.is

pub returns-in-Type_-clause-tree : goal.returns-in-Type_-clause-tree
returns-in-Type_-clause-tree c =
    let b = c.defined_type.new.self in
    let t = c.args.table.now in
    if_ok_more (λ w. IsEntry b t c.in-Type_.n (def.Interface w)) (IsValue b t c.args.v.now)
    (λ w h. subst (λ v. IsValue b t v w) (sym c.in-Type_.is) h)
    c.defined_type.result c.defined_type.ensures.tree

pub returns-in_err-primitive-in-Prim-clause-full : goal.returns-in_err-primitive-in-Prim-clause-full
returns-in_err-primitive-in-Prim-clause-full c h =
    let refused = c.in_err-primitive-in-Prim in
    too_full _ _ _ (λ next g is. prim_wanted next c.args.table.now c.args.v.now _ c.in-Prim.is)
    (told c.from_residual.result refused.field-0.0 c.from_residual.ensures.1 refused.ensures.full h)

pub returns-in-Type_-clause-full : goal.returns-in-Type_-clause-full
returns-in-Type_-clause-full c h =
    too_full _ _ _ (λ next g is q. (q.0, subst (λ v. IsValue next c.args.table.now v q.0) c.in-Type_.is q.1))
    (c.defined_type.ensures.full h)

pub returns-in_ok-primitive-in-Prim-clause-adds : goal.returns-in_ok-primitive-in-Prim-clause-adds
returns-in_ok-primitive-in-Prim-clause-adds c =
    subst (λ b. AddsValue c.args.table.now c.args.v.now b c.primitive.new.interned) c.self.view_is
    (prim_asked c.args.table.now c.args.v.now _ _ _ c.in-Prim.is c.primitive.ensures.contexts)

pub returns-in_err-primitive-in-Prim-clause-adds : goal.returns-in_err-primitive-in-Prim-clause-adds
returns-in_err-primitive-in-Prim-clause-adds c =
    subst (λ b. AddsValue c.args.table.now c.args.v.now b c.primitive.new.interned) c.self.view_is
    (prim_asked c.args.table.now c.args.v.now _ _ _ c.in-Prim.is c.primitive.ensures.contexts)

pub returns-in-Type_-clause-adds : goal.returns-in-Type_-clause-adds
returns-in-Type_-clause-adds c =
    type_asked c.args.table.now c.args.v.now _ _ _ c.in-Type_.is c.defined_type.ensures.adds

pub returns-in_ok-primitive-in-Prim-clause-few : goal.returns-in_ok-primitive-in-Prim-clause-few
returns-in_ok-primitive-in-Prim-clause-few c =
    subst (λ b. AddsTypes c.args.table.now (most_types c.args.table.now) b c.primitive.new.interned) c.self.view_is
    (contexts_few c.args.table.now _ _ _ c.primitive.ensures.contexts)

pub returns-in_err-primitive-in-Prim-clause-few : goal.returns-in_err-primitive-in-Prim-clause-few
returns-in_err-primitive-in-Prim-clause-few c =
    subst (λ b. AddsTypes c.args.table.now (most_types c.args.table.now) b c.primitive.new.interned) c.self.view_is
    (contexts_few c.args.table.now _ _ _ c.primitive.ensures.contexts)

pub returns-in_err-primitive-in-Prim-clause-before : goal.returns-in_err-primitive-in-Prim-clause-before
returns-in_err-primitive-in-Prim-clause-before c =
    let refused = c.in_err-primitive-in-Prim in
    told c.from_residual.result refused.field-0.0 c.from_residual.ensures.1
    (λ q. subst (HasNoPlaceFor c.args.table.now) (refused.ensures.err ∙ c.self.view_is)
    (no_place_now c.args.table.now _ (refused.ensures.full q).full))
