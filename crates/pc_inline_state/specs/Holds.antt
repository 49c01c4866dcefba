-- Types and core signatures twice: as numbers of the types builder, and whole, as the reading has them.
use Rattle.std.specs.Prelude.{◌≡◌, ◌+◌, ℕ, List, length, Some, slice_get}
use Rattle.pc_numbers.specs.declared.runtime.ResourceIndex.{ResourceIndex}
use Rattle.pc_types.specs.TypeTree.{Identity, Path, declared, imported}
use Rattle.pc_types_lists.specs.Trees.{HasTree}
use Rattle.pc_types_lists.specs.Types.{Types}
use Rattle.pc_trampoline.specs.declared.part.Mark.{Mark}
use Rattle.pc_trampoline.specs.declared.part.Mark.TheVariants as mark
use Rattle.pc_parsed.specs.Mark as reading

-- how resource numbers are read: those that came with imports are what their paths lead to; behind them come those that
-- were declared, in order
pub record ReadsAs (paths : List Path) (who : ResourceIndex → Identity) : Type 0 where
  pub given : (n : ℕ) (p : Path) → slice_get paths n ≡ Some p → who (record { 0 = n }) ≡ imported p
  pub own : (n : ℕ) → who (record { 0 = length paths + n }) ≡ declared n

module _ (types : Types) (reads : (ResourceIndex → Identity) → Type 0) where
  -- the builder holds this type under the number, however resource numbers are read; or this core signature
  unfoldable pub Holds : Mark → reading.Mark → Type 0
  Holds (mark.Type_ ty) (reading.of_type tree) =
      (who : ResourceIndex → Identity) → reads who → HasTree types who ty tree
  Holds (mark.Signature n) (reading.of_signature s) = slice_get types.signatures n.0 ≡ Some s
  Holds _ _ = ⊥

  -- a type or a core signature twice: as a number, and whole, as the builder holds it under the number
  pub record Numbered : Type 0 where
    pub number : Mark
    pub whole : reading.Mark
    pub holds : Holds number whole

  -- as a number
  abbrev pub number_of : Numbered → Mark
  number_of m = m.number

  -- whole
  abbrev pub whole_of : Numbered → reading.Mark
  whole_of m = m.whole
