use Rattle.std.proofs.Common.{refl}
use Rattle.pc_dfg.specs.declared.core_def.CoreDef.TheVariants as def
use Rattle.pc_adapt_define.proofs.OwnSlotLemmas.{taken_stands}
use Rattle.pc_adapt_define.proofs.laws.arguments_take_their_own.Goals as goal

pub returns : goal.returns
returns c g h x lift lower clear before after e all inside =
    taken_stands x g h x.lower_options.core_type (def.Export e) refl lift lower clear all.defs all.each inside
