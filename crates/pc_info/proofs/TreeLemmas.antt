-- The trees of export items, one by one: each is made of the trees before it, which stay as they are.
use Rattle.std.proofs.Common.{◌≡◌, ℕ, zero, suc, ◌+◌, ◌<◌, ◌≤◌, List, [], ◌∷◌, ◌++◌, length, take, Some, true, refl}
use Rattle.std.proofs.Common.{subst, ap, ◌∙◌, sym, arith}
use Rattle.std.specs.Prelude.{slice_get}
use Rattle.std.proofs.Math.Seq.{take-append_seam}
use Rattle.std.proofs.lemmas.List.{append_assoc, append-nil, length-append}
use Rattle.std.proofs.lemmas.Option.{none-some, same_Some}
use Rattle.pc_entity.proofs.Growing.{slice_get-append_seam}
use Rattle.pc_spec_plan.specs.PlanView as plan
use Rattle.pc_trampoline.specs.declared.part.Mark.{Mark}
use Rattle.pc_info.specs.declared.export.Export.{Export}
use Rattle.pc_info.specs.Exports.{export_view, trees_from, trees_of}

-- the trees that stood there stand in front of those that were made
record Grown (trees : List (plan.PlanExport Mark)) (items : List Export) : Type 0 where
  rest : List (plan.PlanExport Mark)
  is : trees_from trees items ≡ trees ++ rest

grown : (trees : List (plan.PlanExport Mark)) (items : List Export) → Grown trees items
grown trees [] = record { rest = []; is = sym (append-nil trees) }
grown trees (e ∷ es) =
    let one = export_view trees e in
    let more = grown (trees ++ one ∷ []) es in
    record { rest = one ∷ more.rest; is = more.is ∙ append_assoc trees (one ∷ []) more.rest }

-- with one more item at the end
pub trees_from-push : (trees : List (plan.PlanExport Mark)) (items : List Export) (e : Export)
    → trees_from trees (items ++ e ∷ [])
    ≡ trees_from trees items ++ export_view (trees_from trees items) e ∷ []
trees_from-push trees [] e = refl
trees_from-push trees (x ∷ xs) e = trees_from-push (trees ++ export_view trees x ∷ []) xs e

pub trees_of-push : (items : List Export) (e : Export)
    → trees_of (items ++ e ∷ []) ≡ trees_of items ++ export_view (trees_of items) e ∷ []
trees_of-push items e = trees_from-push [] items e

-- there is a tree for each item
pub length-trees_from : (trees : List (plan.PlanExport Mark)) (items : List Export)
    → length (trees_from trees items) ≡ length trees + length items
length-trees_from trees [] = omega arith
length-trees_from trees (e ∷ es) =
    let one = export_view trees e in
    let long : length (trees ++ one ∷ []) ≡ length trees + 1 = length-append trees (one ∷ []) in
    let step : length (trees ++ one ∷ []) + length es ≡ length trees + suc (length es) = omega (arith, long) in
    length-trees_from (trees ++ one ∷ []) es ∙ step

pub length-trees_of : (items : List Export) → length (trees_of items) ≡ length items
length-trees_of items =
    let none : 0 + length items ≡ length items = omega arith in
    length-trees_from [] items ∙ none

-- the tree of an item is made of the trees before it
pub tree_from : (trees : List (plan.PlanExport Mark)) (items : List Export) (n : ℕ) (e : Export)
    → slice_get items n ≡ Some e
    → slice_get (trees_from trees items) (length trees + n)
    ≡ Some (export_view (take (length trees + n) (trees_from trees items)) e)
tree_from trees [] n e at = absurd (none-some e at)
tree_from trees (x ∷ xs) zero e at =
    let one = export_view trees x in
    let more = grown (trees ++ one ∷ []) xs in
    let all : trees_from trees (x ∷ xs) ≡ trees ++ one ∷ more.rest =
    more.is ∙ append_assoc trees (one ∷ []) more.rest in
    let here : length trees + 0 ≡ length trees = omega arith in
    let before = ap (take (length trees)) all ∙ take-append_seam trees (one ∷ more.rest) in
    subst (λ (m : ℕ). slice_get (trees_from trees (x ∷ xs)) m
    ≡ Some (export_view (take m (trees_from trees (x ∷ xs))) e)) (sym here)
    (ap (λ ts. slice_get ts (length trees)) all ∙ slice_get-append_seam trees one more.rest
    ∙ ap (λ y. Some (export_view trees y)) (same_Some x e at)
    ∙ ap (λ ts. Some (export_view ts e)) (sym before))
tree_from trees (x ∷ xs) (suc n) e at =
    let one = export_view trees x in
    let long : length (trees ++ one ∷ []) ≡ length trees + 1 = length-append trees (one ∷ []) in
    let there : length (trees ++ one ∷ []) + n ≡ length trees + suc n = omega (arith, long) in
    subst (λ (m : ℕ). slice_get (trees_from trees (x ∷ xs)) m
    ≡ Some (export_view (take m (trees_from trees (x ∷ xs))) e)) there
    (tree_from (trees ++ one ∷ []) xs n e at)

pub tree_of : (items : List Export) (n : ℕ) (e : Export) → slice_get items n ≡ Some e
    → slice_get (trees_of items) n ≡ Some (export_view (take n (trees_of items)) e)
tree_of items n e at =
    let none : 0 + n ≡ n = omega arith in
    subst (λ (m : ℕ). slice_get (trees_of items) m ≡ Some (export_view (take m (trees_of items)) e)) none
    (tree_from [] items n e at)
