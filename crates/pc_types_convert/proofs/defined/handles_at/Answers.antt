use Rattle.std.proofs.Common.{◌∙◌, ap, sym, Some}
use Rattle.std.proofs.lemmas.Option.{same_Some}
use Rattle.pc_types.specs.declared.types.TypeDef.TheVariants.{Resource}
use Rattle.pc_types_convert.proofs.defined.handles_at.Goals as goal

pub type_at-requires : goal.type_at-requires
type_at-requires c = (Resource c.requires.0, c.requires.1)

pub unreachable-requires : goal.unreachable-requires
unreachable-requires c =
    c.in_default.not-Resource c.requires.0
    (same_Some _ _ (same_Some _ _ (sym c.type_at.ensures ∙ c.requires.1)))

pub returns : goal.returns
returns c = c.type_at.ensures ∙ ap (λ d. Some (Some d)) c.in-Resource.is
