-- What got a number is what these ids lead to.
use Rattle.std.proofs.Common.{◌≡◌, ◌+◌, ℕ, List, [], ◌∷◌, ◌++◌, Contains, Some, take, inl, inr, ◌⊎◌, ap, sym, subst}
use Rattle.std.proofs.Common.{◌∙◌}
use Rattle.std.specs.Prelude.{slice_get}
use Rattle.std.proofs.lemmas.Grind.{flat_map-append}
use Rattle.std.proofs.lemmas.List.{append-nil}
use Rattle.std.proofs.lemmas.List.Concat.{flat_map-cons}
use Rattle.std.proofs.lemmas.List.Elements.{Contains-append_left, Contains-append_right}
use Rattle.pc_entity.proofs.Growing.{take-next}
use Rattle.pc_dfg.specs.declared.dfg.ComponentDfg.{ComponentDfg}
use Rattle.pc_dfg.specs.declared.export.Export.{Export}
use Rattle.pc_dfg_linearize.specs.declared.id.Id.{Id}
use Rattle.pc_dfg_linearize.specs.declared.state.Finish.{Finish}
use Rattle.pc_dfg_linearize.specs.Arguments.{IsFrom, OnlyFromThese}
use Rattle.pc_dfg_linearize.specs.Once.{IsUsedBy, OnlyFrom}
use Rattle.pc_dfg_finish.specs.Exports.{in_export, in_exports}
use Rattle.pc_dfg_linearize.specs.Parts.{HasNumber}

-- it is what one of them leads to
pub only_one : (g : ComponentDfg) (old new : Finish) (xs : List Id) (x : Id) → Contains xs x → OnlyFrom g old new x
    → OnlyFromThese g old new xs
only_one g old new xs x inside only y has =
    elim (only y has) as (λ _. HasNumber old y ⊎ ((z : Id) × Contains xs z × IsUsedBy g z y)) [
      | inl before ↦ inl before
      | inr used ↦ inr (x, inside, used)
    ]

from_front : (g : ComponentDfg) (a : Finish) (xs ys : List Id) (y : Id) → IsFrom g a xs y → IsFrom g a (xs ++ ys) y
from_front g a xs ys y (inl before) = inl before
from_front g a xs ys y (inr used) = inr (used.0, Contains-append_left xs ys used.0 used.1, used.2)

-- and then more of them
pub only_more : (g : ComponentDfg) (a b c : Finish) (xs ys : List Id) → OnlyFromThese g a b xs
    → OnlyFromThese g b c ys → OnlyFromThese g a c (xs ++ ys)
only_more g a b c xs ys first second y has = by (second y has)
  where
    by : IsFrom g b ys y → IsFrom g a (xs ++ ys) y
    by (inl between) = from_front g a xs ys y (first y between)
    by (inr used) = inr (used.0, Contains-append_right xs ys used.0 used.1, used.2)

-- the exports so far, and the next one
pub only_next : (g : ComponentDfg) (a b c : Finish) (es : List Export) (i : ℕ) (e : Export) → slice_get es i ≡ Some e
    → OnlyFromThese g a b (in_exports g (take i es)) → OnlyFromThese g b c (in_export g e)
    → OnlyFromThese g a c (in_exports g (take (i + 1) es))
only_next g a b c es i e at first second =
    let front = in_exports g (take i es) in
    let same : in_exports g (take (i + 1) es) ≡ front ++ in_export g e =
    ap (in_exports g) (take-next es i e at)
    ∙ flat_map-append (in_export g) (take i es) (e ∷ [])
    ∙ ap (λ xs. front ++ xs) (flat_map-cons (in_export g) e [] ∙ append-nil (in_export g e)) in
    subst (OnlyFromThese g a c) (sym same) (only_more g a b c front (in_export g e) first second)
