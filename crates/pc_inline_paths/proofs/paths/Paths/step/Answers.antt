use Rattle.std.proofs.Common.{◌≡◌, length, slice_get, get_or, ap, subst, Some, arith}
use Rattle.pc_inline_paths.specs.declared.step.Step.{Step}
use Rattle.pc_inline_paths.specs.declared.step.Step.TheVariants as step
use Rattle.pc_inline_paths.specs.HeldPaths.{HeldPaths}
use Rattle.pc_inline_paths.specs.Steps.{IsBefore, path_at}
use Rattle.pc_inline_paths.proofs.InternLemmas.{as_many, read_step}
use Rattle.pc_inline_paths.proofs.StepLemmas.{path_there}
use Rattle.pc_inline_paths.proofs.paths.Paths.step.Goals as goal

pub bounds-as_slice-id : goal.bounds-as_slice-id
bounds-as_slice-id c =
    omega (
      arith,
      c.requires.held,
      ap length c.as_slice.ensures.values,
      as_many c.self.inside.names.now c.self.inside.steps c.args.self.now.held
          (ap (λ (v : HeldPaths). v.held) c.self.view_is) c.self.invariant,
    )

pub returns-clause-path : goal.returns-clause-path
returns-clause-path c =
    let names = c.self.inside.names.now in
    let steps = c.self.inside.steps in
    let id = c.args.id.0 in
    let first : Step = step.Import (record { 0 = 0 }) in
    let read = get_or c.as_slice.result.now id first in
    let at = read_step names steps c.args.self.now.held (ap (λ (v : HeldPaths). v.held) c.self.view_is) c.self.invariant
    c.as_slice.result.now id first c.as_slice.ensures.values c.requires.held in
    subst (λ (v : HeldPaths). slice_get v.held id ≡ Some (path_at v.names v.held read)) c.self.view_is
    (path_there names steps id read at (c.self.invariant.before id read at))

pub returns-clause-before : goal.returns-clause-before
returns-clause-before c =
    let names = c.self.inside.names.now in
    let steps = c.self.inside.steps in
    let id = c.args.id.0 in
    let first : Step = step.Import (record { 0 = 0 }) in
    let read = get_or c.as_slice.result.now id first in
    let at = read_step names steps c.args.self.now.held (ap (λ (v : HeldPaths). v.held) c.self.view_is) c.self.invariant
    c.as_slice.result.now id first c.as_slice.ensures.values c.requires.held in
    subst (λ (v : HeldPaths). IsBefore v.names id read) c.self.view_is (c.self.invariant.before id read at)
