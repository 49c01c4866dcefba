-- What a trampoline is made of has the shape of its kind.
use Rattle.std.specs.Prelude.{refl}
use Rattle.pc_trampoline.specs.declared.trampoline.Trampoline.{Trampoline}
use Rattle.pc_trampoline.specs.declared.trampoline.Trampoline.TheVariants as trampoline
use Rattle.pc_trampoline.specs.Parts.{parts_of}
use Rattle.pc_trampoline.specs.Shape.{IsShaped, shape_of}

-- what a trampoline is made of has the shape of its kind
pub made_shaped : {L O M T C P : Type 0} (t : Trampoline L O M T C P) → IsShaped (parts_of t)
unfolding parts_of shape_of
made_shaped (trampoline.LowerImport index lower_ty options) = refl
made_shaped t = refl
