use Rattle.std.proofs.Common.{Some, take}
use Rattle.pc_entity.specs.Lists.{AreDistinct, map_all, names_of}
use Rattle.pc_spec_reading.specs.Modules.{bag_entry}
use Rattle.pc_spec_reading.specs.Scope.{Scope}
use Rattle.pc_inline_names.specs.Both.{Both}
use Rattle.pc_inline_names.specs.Numbers.{AreNumbersOf, SameNamed}
use Rattle.pc_inline_state.specs.Frames.{BagItemStands, FrameStands}
use Rattle.pc_inline_state.specs.Tables.{Tables}
use Rattle.pc_inline_modules.proofs.bags.bag_of.Given as goal

abbrev pub invariant-loop-place : goal.invariant-loop-place
invariant-loop-place l =
    (b : Tables) (s : Scope) → FrameStands l.fn.context.modules b l.fn.frame s → AreDistinct b.names.texts
    → AreNumbersOf b.names.texts (names_of l.fn.items) l.fn.numbers
    → Both (SameNamed b.names.texts (BagItemStands l.fn.context.modules b)) (Some l.bag)
    (map_all (bag_entry s) (take l.place l.fn.items))
