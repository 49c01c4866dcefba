-- Why adapters have no modules, where an entry couldn't be added to a list.
use Rattle.pc_dfg.specs.declared.push_error.PushError.{PushError}
use Rattle.pc_dfg.specs.declared.push_error.PushError.TheVariants as push
use Rattle.pc_adapt.specs.declared.error.AdaptError.{AdaptError}
use Rattle.pc_adapt.specs.declared.error.AdaptError.TheVariants as refusal

-- a full list is one adapter too many
abbrev pub of_push_error : PushError → AdaptError
of_push_error push.TooMany = refusal.TooMany
of_push_error push.NoMemory = refusal.NoMemory
