use Rattle.std.proofs.Common.{Some, ap, sym, subst, ◌∙◌}
use Rattle.std.specs.Prelude.{Contains}
use Rattle.pc_types.specs.Intrinsic.{intrinsic_names}
use Rattle.pc_inline_items.proofs.IntrinsicLemmas.{alias_function, alias_other, alias_unknown}
use Rattle.pc_inline_items.proofs.intrinsics.alias_intrinsic.Goals as goal

pub returns-in_default-clause-follows : goal.returns-in_default-clause-follows
returns-in_default-clause-follows c =
    alias_unknown _ _ _ _ _ _
    (subst (λ name. Contains intrinsic_names name → ⊥) c.as_str.ensures c.in_default.ensures.unknown)

pub returns-then-not-is_of_kind-clause-follows : goal.returns-then-not-is_of_kind-clause-follows
returns-then-not-is_of_kind-clause-follows c =
    alias_other _ _ _ _ _ _ c.in-Ok.intrinsic (c.in-Ok.ensures.ok ∙ ap Some c.as_str.ensures)
    (sym c.is_of_kind.ensures ∙ c.if-not-is_of_kind.true)

pub returns-clause-follows : goal.returns-clause-follows
returns-clause-follows c =
    alias_function _ _ _ _ _ _ c.in-Ok.intrinsic (c.in-Ok.ensures.ok ∙ ap Some c.as_str.ensures)
    (sym c.is_of_kind.ensures ∙ c.if-not-is_of_kind.false) _ c.add_defined.ensures.follows
