-- What is known of the instantiations of a core module.
use Rattle.std.specs.Prelude.{List, if◌then◌else◌}
use Rattle.std.specs.Cmp.Lexicographic.{pointwise}
use Rattle.pc_info.specs.contracts.core_def.CoreDefPartialEq.TheImpl as eq_CoreDef
use Rattle.pc_info.specs.declared.core_def.CoreDef.{CoreDef}
use Rattle.pc_dfg.specs.declared.instantiations.AbstractInstantiations.{AbstractInstantiations}
use Rattle.pc_dfg.specs.declared.instantiations.AbstractInstantiations.TheVariants as variant

-- nothing, one list of arguments, or that it is never instantiated
pub data Known : Type 0 where
  many : Known
  one : List CoreDef → Known
  none : Known

-- what is known, wherever the arguments stand
abbrev pub known_of : AbstractInstantiations → Known
known_of variant.Many = many
known_of (variant.One arguments) = one arguments.now
known_of variant.None = none

-- what is known from two places: `none` adds nothing, and two lists of arguments are one way only if they are equal
abbrev pub joined : Known → Known → Known
joined many b = many
joined (one m) many = many
joined (one m) (one n) = if pointwise eq_CoreDef.ghosts.eq m n then one m else many
joined (one m) none = one m
joined none b = b
