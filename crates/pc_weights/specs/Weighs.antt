-- What the weights of a program are: those of the bodies of the reading that its bodies stand for, cut where a total is
-- full.
use Rattle.std.specs.Prelude.{◌≡◌, ◌+◌, ℕ, List}
use Rattle.std.specs.List.{AllZip}
use Rattle.pc_types.specs.declared.module_record.ModuleRecord.{ModuleRecord}
use Rattle.pc_types.specs.declared.parsed.TypeTable.{TypeTable}
use Rattle.pc_spec_reading.specs.Item.{Items}
use Rattle.pc_spec_reading.specs.Total.{body_weight, prepared_weight}
use Rattle.pc_local.specs.declared.item.LocalProgram.{LocalProgram}
use Rattle.pc_local.specs.declared.item.Translation.{Translation}
use Rattle.pc_local.specs.Standing.{ItemsStand, Names}
use Rattle.pc_weights.specs.declared.weights.Weights.{Weights}
use Rattle.pc_weights.specs.Capped.{capped}

module _ (t : TypeTable) (ms : List ModuleRecord) where
  -- a number is the weight of a body of a program: of each body of the reading for which its items stand
  abbrev pub HasWeight : Translation → ℕ → Type 0
  HasWeight tr n =
      (bodies : List Translation) (names : Names) (body : Items) → ItemsStand bodies names tr.initializers body
      → n ≡ capped (body_weight t ms body)

  -- the same of a root, whose imports weigh once more, since they are prepared
  abbrev pub HasRootWeight : Translation → ℕ → Type 0
  HasRootWeight tr n =
      (bodies : List Translation) (names : Names) (body : Items) → ItemsStand bodies names tr.initializers body
      → n ≡ capped (body_weight t ms body + prepared_weight t ms body)

-- these are the weights of a program: of its root, and of the body of each nested component, by its number
pub record Weighs (t : TypeTable) (program : LocalProgram) (w : Weights) : Type 0 where
  pub root : HasRootWeight t program.modules program.root w.root
  pub bodies : AllZip (HasWeight t program.modules) program.components w.bodies
