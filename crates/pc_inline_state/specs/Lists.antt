-- The lists of a component instance, by kind.
use Rattle.std.specs.Prelude.{List, [], ◌∷◌, ◌++◌}
use Rattle.pc_types.specs.declared.parsed.CoreKind.{CoreKind}
use Rattle.pc_types.specs.declared.parsed.CoreKind.TheVariants as core
use Rattle.pc_parsed.specs.declared.payload.ItemKind.{ItemKind}
use Rattle.pc_parsed.specs.declared.payload.ItemKind.TheVariants as item
use Rattle.pc_inline_state.specs.declared.definition.CoreId.{CoreId}
use Rattle.pc_inline_state.specs.declared.definition.DefinitionId.{DefinitionId}
use Rattle.pc_inline_state.specs.declared.frame.Frame.{Frame}

-- the core items of a kind
abbrev pub core_ids : Frame → CoreKind → List CoreId
core_ids f core.Func = f.core_funcs
core_ids f core.Table = f.tables
core_ids f core.Memory = f.memories
core_ids f core.Global = f.globals
core_ids f core.Tag = f.tags

-- a component instance with one more core item of a kind
abbrev pub with_core_id : Frame → CoreKind → CoreId → Frame
with_core_id f core.Func n = record f { core_funcs = f.core_funcs ++ n ∷ [] }
with_core_id f core.Table n = record f { tables = f.tables ++ n ∷ [] }
with_core_id f core.Memory n = record f { memories = f.memories ++ n ∷ [] }
with_core_id f core.Global n = record f { globals = f.globals ++ n ∷ [] }
with_core_id f core.Tag n = record f { tags = f.tags ++ n ∷ [] }

-- the items of a kind; types and values stand in no list
abbrev pub item_ids : Frame → ItemKind → List DefinitionId
item_ids f item.Func = f.funcs
item_ids f item.Module = f.modules
item_ids f item.Instance = f.instances
item_ids f item.Component = f.components
item_ids f k = []

-- a component instance with one more item of a kind
abbrev pub with_item_id : Frame → ItemKind → DefinitionId → Frame
with_item_id f item.Func n = record f { funcs = f.funcs ++ n ∷ [] }
with_item_id f item.Module n = record f { modules = f.modules ++ n ∷ [] }
with_item_id f item.Instance n = record f { instances = f.instances ++ n ∷ [] }
with_item_id f item.Component n = record f { components = f.components ++ n ∷ [] }
with_item_id f k n = f
