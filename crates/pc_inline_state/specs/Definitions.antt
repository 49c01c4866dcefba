-- What a definition is.
use Rattle.std.specs.Prelude.{Bool, true, false, Option, None, Some}
use Rattle.pc_numbers.specs.declared.component_entity.StaticComponentIndex.{StaticComponentIndex}
use Rattle.pc_parsed.specs.declared.payload.ItemKind.{ItemKind}
use Rattle.pc_parsed.specs.declared.payload.ItemKind.TheVariants as kind
use Rattle.pc_inline_state.specs.declared.definition.ClosureId.{ClosureId}
use Rattle.pc_inline_state.specs.declared.definition.Definition.{Definition}
use Rattle.pc_inline_state.specs.declared.definition.Definition.TheVariants as definition
use Rattle.pc_inline_state.specs.declared.definition.ExportsId.{ExportsId}

-- whether it is of a kind
abbrev pub is_of_kind : ItemKind → Definition → Bool
is_of_kind kind.Func (definition.HostFunc p ty) = true
is_of_kind kind.Func (definition.LiftedFunc ty func o) = true
is_of_kind kind.Func (definition.IntrinsicFunc i) = true
is_of_kind kind.Module (definition.StaticModule m ty) = true
is_of_kind kind.Module (definition.HostModule p ty entry) = true
is_of_kind kind.Instance (definition.HostInstance p ty entry) = true
is_of_kind kind.Instance (definition.Instance n ty) = true
is_of_kind kind.Instance definition.Intrinsics = true
is_of_kind kind.Component (definition.Component s k) = true
is_of_kind kind.Type_ (definition.Type_ d) = true
is_of_kind k d = false

-- the number of what a component instance exports
abbrev pub exports_of : Definition → Option ExportsId
exports_of (definition.Instance n ty) = Some n
exports_of d = None

-- the body of a component and what it captured
abbrev pub component_parts : Definition → Option (StaticComponentIndex × ClosureId)
component_parts (definition.Component s k) = Some (s, k)
component_parts d = None
