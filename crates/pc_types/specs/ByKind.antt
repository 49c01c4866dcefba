-- A value for each kind of core entity.
use Rattle.pc_types.specs.declared.by_kind.ByKind.{ByKind}
use Rattle.pc_types.specs.declared.parsed.CoreKind.{CoreKind}
use Rattle.pc_types.specs.declared.parsed.CoreKind.TheVariants as kind

-- the value of a kind
abbrev pub of_kind : {A : Type 0} → ByKind A → CoreKind → A
of_kind v kind.Func = v.funcs
of_kind v kind.Table = v.tables
of_kind v kind.Memory = v.memories
of_kind v kind.Global = v.globals
of_kind v kind.Tag = v.tags
