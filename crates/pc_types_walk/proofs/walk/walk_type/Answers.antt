use Rattle.std.proofs.Common.{◌++◌, ◌∷◌, ◌∙◌, [], ap, if◌then◌else◌, subst, sym}
use Rattle.pc_spec_reading.specs.Once.{each_once}
use Rattle.pc_spec_reading.specs.Resource.{here, same_number}
use Rattle.pc_types_walk.specs.Walks.{IsWalk}
use Rattle.pc_types_walk.specs.declared.walk.Found.{Found}
use Rattle.pc_types_walk.specs.declared.walk.Walk.{Walk}
use Rattle.pc_types_walk.proofs.StepLemmas.{walk_here, walk_nowhere}
use Rattle.pc_types_walk.proofs.walk.walk_type.Goals as goal

pub returns-then-is_resource_at : goal.returns-then-is_resource_at
returns-then-is_resource_at c =
    let n = c.args.n in
    let nowhere = c.nowhere-walk in
    let found : Found = record { number = n; place = 0 } in
    let w : Walk = record { places = nowhere.result.places; found = c.push.new.self } in
    subst (IsWalk c.args.table.now w)
    (ap (λ b. each_once same_number (if b then here n ∷ [] else []))
    (sym c.if-is_resource_at.true ∙ c.is_resource_at.ensures))
    (walk_here c.args.table.now w n (ap (λ (x : Walk). x.places) nowhere.ensures)
    (c.in_ok-push.ensures.ok ∙ ap (λ (x : Walk). x.found ++ found ∷ []) nowhere.ensures))

pub returns : goal.returns
returns c =
    let n = c.args.n in
    let w = c.nowhere-walk.result in
    subst (IsWalk c.args.table.now w)
    (ap (λ b. each_once same_number (if b then here n ∷ [] else []))
    (sym c.if-is_resource_at.false ∙ c.is_resource_at.ensures))
    (walk_nowhere c.args.table.now w c.nowhere-walk.ensures)
