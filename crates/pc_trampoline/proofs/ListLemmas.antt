-- A list of up to two parts is told by its first and its second.
use Rattle.std.proofs.Common.{◌≡◌, Option, None, Some, refl, slice_get}
use Rattle.pc_trampoline.specs.declared.part.PartList.{PartList}
use Rattle.pc_trampoline.specs.declared.part.PartList.TheVariants as list
use Rattle.pc_trampoline.specs.Parts.{list_of}

-- the list of a first and a second part, as far as there are any
abbrev pub listed : {A : Type 0} → Option A → Option A → PartList A
listed (Some x) (Some y) = list.Two x y
listed (Some x) None = list.One x
listed None y = list.Empty

-- a list is that of its first and its second part
pub list_again : {A : Type 0} (ps : PartList A) → listed (slice_get (list_of ps) 0) (slice_get (list_of ps) 1) ≡ ps
list_again list.Empty = refl
list_again (list.One x) = refl
list_again (list.Two x y) = refl
