-- What component instances are made of.
use Rattle.std.specs.Prelude.{Option, None, Some}
use Rattle.pc_inline_state.specs.declared.definition.Definition.{Definition}
use Rattle.pc_inline_state.specs.declared.definition.Definition.TheVariants as definition
use Rattle.pc_inline_items.specs.declared.source.InstanceSource.{InstanceSource}
use Rattle.pc_inline_items.specs.declared.source.InstanceSource.TheVariants as source

-- what a definition is that is a component instance
abbrev pub instance_source : Definition → Option InstanceSource
instance_source (definition.Instance n ty) = Some (source.Made n)
instance_source (definition.HostInstance p ty entry) = Some (source.Host p ty entry)
instance_source definition.Intrinsics = Some source.Intrinsics
instance_source d = None
