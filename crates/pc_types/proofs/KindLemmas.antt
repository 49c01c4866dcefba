-- Values for each kind of core entity.
use Rattle.std.proofs.Common.{◌≡◌}
use Rattle.pc_types.specs.declared.by_kind.ByKind.{ByKind}
use Rattle.pc_types.specs.declared.parsed.CoreKind.{CoreKind}
use Rattle.pc_types.specs.declared.parsed.CoreKind.TheVariants as kind
use Rattle.pc_types.specs.ByKind.{of_kind}

-- where each part is f of its kind, so is the value of any kind
pub each_kind : {A : Type 0} (f : CoreKind → A) (v : ByKind A) → v.funcs ≡ f kind.Func → v.tables ≡ f kind.Table
    → v.memories ≡ f kind.Memory → v.globals ≡ f kind.Global → v.tags ≡ f kind.Tag → (k : CoreKind) → of_kind v k ≡ f k
each_kind f v funcs tables memories globals tags kind.Func = funcs
each_kind f v funcs tables memories globals tags kind.Table = tables
each_kind f v funcs tables memories globals tags kind.Memory = memories
each_kind f v funcs tables memories globals tags kind.Global = globals
each_kind f v funcs tables memories globals tags kind.Tag = tags
