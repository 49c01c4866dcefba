-- What a definition is as a core module.
use Rattle.std.specs.Prelude.{Option, None, Some}
use Rattle.pc_inline_state.specs.declared.definition.Definition.{Definition}
use Rattle.pc_inline_state.specs.declared.definition.Definition.TheVariants as definition
use Rattle.pc_inline_modules.specs.declared.modules.ModuleSource.{ModuleSource}
use Rattle.pc_inline_modules.specs.declared.modules.ModuleSource.TheVariants as source

-- one that was handed in, or one of the host; another definition is none
abbrev pub module_source : Definition → Option ModuleSource
module_source (definition.StaticModule m ty) = Some (source.Static m)
module_source (definition.HostModule p ty entry) = Some (source.Host p entry)
module_source d = None
