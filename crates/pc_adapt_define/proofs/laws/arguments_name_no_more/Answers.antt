use Rattle.pc_adapt_define.proofs.OwnLemmas.{arguments_tell}
use Rattle.pc_adapt_define.proofs.laws.arguments_name_no_more.Goals as goal

pub returns : goal.returns
returns c g h x lift lower clear before after y o all one =
    arguments_tell g x y h x.lower_options.core_type o.held lift lower clear all.defs all.each one
