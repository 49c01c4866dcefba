-- Whether what an entry names is done.
use Rattle.std.specs.Prelude.{◌≡◌, ℕ, true, List, Option}
use Rattle.std.specs.List.{All}
use Rattle.pc_types.specs.declared.parsed.CoreEntity.{CoreEntity}
use Rattle.pc_types.specs.declared.parsed.DeclType.{DeclType}
use Rattle.pc_types.specs.declared.parsed.DeclType.TheVariants as entry
use Rattle.pc_types.specs.declared.parsed.Entity.{Entity}
use Rattle.pc_types.specs.declared.parsed.TypeTable.{TypeTable}
use Rattle.pc_types.specs.declared.parsed.ValType.{ValType}
use Rattle.pc_types.specs.declared.types.TypeDef.{TypeDef}
use Rattle.pc_types.specs.Record.{is_typed}
use Rattle.pc_types_convert.specs.Parts.{IsReady, MayBeReady, IsThere, HasHandles}

-- what an entry names is among the done ones
abbrev pub IsReadyEntry : TypeTable → List (Option TypeDef) → DeclType → Type 0
IsReadyEntry t done entry.Resource = Unit {0}
IsReadyEntry t done (entry.Func params result is_async) =
    All (λ (p : List ℕ × ValType). IsReady done p.1) params × MayBeReady done result
IsReadyEntry t done (entry.Val v) = IsReady done v
IsReadyEntry t done (entry.Record fields) = All (λ (f : List ℕ × ValType). IsReady done f.1) fields
IsReadyEntry t done (entry.Variant cases) = All (λ (c : List ℕ × Option ValType). MayBeReady done c.1) cases
IsReadyEntry t done (entry.List v) = IsReady done v
IsReadyEntry t done (entry.Tuple vs) = All (IsReady done) vs
IsReadyEntry t done (entry.Flags names) = Unit {0}
IsReadyEntry t done (entry.Enum names) = Unit {0}
IsReadyEntry t done (entry.Option v) = IsReady done v
IsReadyEntry t done (entry.Result ok err) = MayBeReady done ok × MayBeReady done err
IsReadyEntry t done (entry.Own n) = HasHandles done n
IsReadyEntry t done (entry.Borrow n) = HasHandles done n
IsReadyEntry t done (entry.Stream v) = MayBeReady done v
IsReadyEntry t done (entry.Future v) = MayBeReady done v
IsReadyEntry t done (entry.Instance exports) = All (λ (e : List ℕ × Entity). IsThere done e.1) exports
IsReadyEntry t done (entry.Component imports exports) =
    All (λ (e : List ℕ × Entity). IsThere done e.1) imports × All (λ (e : List ℕ × Entity). IsThere done e.1) exports
IsReadyEntry t done (entry.Module imports exports) =
    All (λ (i : List ℕ × List ℕ × CoreEntity). is_typed t i.2 ≡ true) imports
    × All (λ (e : List ℕ × CoreEntity). is_typed t e.1 ≡ true) exports
