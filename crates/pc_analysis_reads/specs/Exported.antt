-- Which export items of a graph the root exports, at whatever depth.
use Rattle.std.specs.Prelude.{◌≡◌, ◌<◌, ℕ, List, length, Some, slice_get}
use Rattle.pc_types.specs.declared.type_index.TypeComponentInstanceIndex.{TypeComponentInstanceIndex}
use Rattle.pc_dfg.specs.declared.dfg.ComponentDfg.{ComponentDfg}
use Rattle.pc_dfg.specs.declared.export.Export.TheVariants as export
use Rattle.pc_dfg.specs.Lists.{NamedExport}

-- an item is one of the root's exports, or of those of an instance that is exported
pub data IsExported (g : ComponentDfg) : (item : ℕ) → Type 0 where
  at_root : (k : ℕ) {e : NamedExport} → slice_get g.exports k ≡ Some e → IsExported g e.1.0.0
  inside : (n k : ℕ) {ty : TypeComponentInstanceIndex} {es : List NamedExport} {e : NamedExport} → IsExported g n
      → slice_get g.export_items n ≡ Some (export.Instance ty es) → slice_get es k ≡ Some e → IsExported g e.1.0.0

-- no item is there that isn't exported
unfoldable pub AreExported : ComponentDfg → Type 0
AreExported g = (n : ℕ) → n < length g.export_items → IsExported g n
