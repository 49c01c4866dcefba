-- Which parts builtins have, so that other parts are refused.
use Rattle.std.specs.Prelude.{◌≡◌, Bool, true, false, List, [], ◌∷◌, refl}
use Rattle.std.proofs.Common.{ap, ◌∙◌}
use Rattle.pc_types.specs.declared.trampoline.TrampolineKind.{TrampolineKind}
use Rattle.pc_types.specs.declared.trampoline.TrampolineKind.TheVariants as kind
use Rattle.pc_trampoline.specs.Shape.{HasShape, HeadShape, PartShape, builtin, shape_of}
use Rattle.pc_trampoline.specs.Shape.{tuple, resource, stream, future, error_context, number, flag, table, options}

-- whether some builtin has this part alone
abbrev pub stands_alone : PartShape → Bool
stands_alone resource = true
stands_alone stream = true
stands_alone future = true
stands_alone error_context = true
stands_alone flag = true
stands_alone options = true
stands_alone x = false

-- whether some builtin has this part and then options
abbrev pub before_options : PartShape → Bool
before_options tuple = true
before_options stream = true
before_options future = true
before_options error_context = true
before_options x = false

-- whether some builtin has this part and then a flag
abbrev pub before_flag : PartShape → Bool
before_flag stream = true
before_flag future = true
before_flag x = false

-- whether some builtin has this part and then a table
abbrev pub before_table : PartShape → Bool
before_table number = true
before_table x = false

-- whether some builtin has these two parts
abbrev pub stand_together : PartShape → PartShape → Bool
stand_together x options = before_options x
stand_together x flag = before_flag x
stand_together x table = before_table x
stand_together x y = false

-- whether some builtin has these parts
abbrev pub are_of_builtin : List PartShape → Bool
are_of_builtin [] = true
are_of_builtin (x ∷ []) = stands_alone x
are_of_builtin (x ∷ y ∷ []) = stand_together x y
are_of_builtin ps = false

-- whether some builtin has these parts, if the head is a builtin's
abbrev pub are_of_head : HeadShape → List PartShape → Bool
are_of_head builtin ps = are_of_builtin ps
are_of_head h ps = true

-- the parts of each kind are so
kinds_are_of_head : (k : TrampolineKind) → are_of_head (shape_of k).head (shape_of k).parts ≡ true
unfolding shape_of
kinds_are_of_head kind.LowerImport = refl
kinds_are_of_head k = refl

-- the parts of a builtin are those of some builtin
pub of_builtin : (k : TrampolineKind) (ps : List PartShape) → HasShape k builtin ps → are_of_builtin ps ≡ true
of_builtin k ps h = ap (λ s. are_of_head s.head s.parts) h ∙ kinds_are_of_head k
