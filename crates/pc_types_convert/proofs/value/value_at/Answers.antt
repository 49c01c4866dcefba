use Rattle.std.proofs.Common.{◌∙◌, ap, sym, Some}
use Rattle.std.proofs.lemmas.Option.{same_Some}
use Rattle.pc_types.specs.declared.types.TypeDef.TheVariants.{Interface}
use Rattle.pc_types_convert.proofs.value.value_at.Goals as goal

pub type_at-requires : goal.type_at-requires
type_at-requires c = (Interface c.requires.0, c.requires.1)

pub unreachable-requires : goal.unreachable-requires
unreachable-requires c =
    c.in_default.not-Interface c.requires.0
    (same_Some _ _ (same_Some _ _ (sym c.type_at.ensures ∙ c.requires.1)))

pub returns : goal.returns
returns c = c.type_at.ensures ∙ ap (λ d. Some (Some d)) c.in-Interface.is
