use Rattle.std.proofs.Common.{◌≡◌, ◌<◌, length, slice_get, Contains, refl, sym, ap, ◌∙◌, subst, arith}
use Rattle.std.proofs.lemmas.Result.{err_from_is_err_and}
use Rattle.pc_inline_paths.specs.declared.path_id.PathId.{PathId}
use Rattle.pc_inline_paths.specs.HeldPaths.{HeldPaths}
use Rattle.pc_inline_paths.specs.Paths.{TakesIn}
use Rattle.pc_inline_paths.specs.Steps.{AreSteps, IsBefore, path_at, paths_of}
use Rattle.pc_inline_paths.proofs.InternLemmas.{absent_path, as_many, held_taken, never, no_error, no_memory_only}
use Rattle.pc_inline_paths.proofs.InternLemmas.{pushed, pushed_paths, pushed_steps, pushed_taken}
use Rattle.pc_inline_paths.proofs.ListLemmas.{contains_at}
use Rattle.pc_inline_paths.proofs.TakenLemmas.{taken_kept}
use Rattle.pc_inline_paths.proofs.paths.Paths.intern.Goals as goal

pub returns-in-Some-clause-ok : goal.returns-in-Some-clause-ok
returns-in-Some-clause-ok c =
    let names = c.self.inside.names.now in
    let steps = c.self.inside.steps in
    let id : PathId = record { 0 = c.in-Some.place } in
    subst (λ (v : HeldPaths). TakesIn (path_at v.names v.held c.args.step) v.held v.held id) c.self.view_is
    (held_taken names steps (paths_of names steps) refl c.self.invariant id c.args.step c.in-Some.ensures.held)

pub returns-in-Some-clause-full : goal.returns-in-Some-clause-full
returns-in-Some-clause-full c =
    let path = path_at c.args.self.now.names c.args.self.now.held c.args.step in
    never (no_error _ _)
    (λ full. full.1 (contains_at c.args.self.now.held c.in-Some.place path (returns-in-Some-clause-ok c).held))

pub returns-then-len-ge-MAX_PATHS-clause-absent : goal.returns-then-len-ge-MAX_PATHS-clause-absent
returns-then-len-ge-MAX_PATHS-clause-absent c =
    let names = c.self.inside.names.now in
    let steps = c.self.inside.steps in
    let step = c.args.step in
    let before = subst (λ (v : HeldPaths). IsBefore v.names (length v.held) step) (sym c.self.view_is)
    c.requires.before in
    subst (λ (v : HeldPaths). ¬ Contains v.held (path_at v.names v.held step)) c.self.view_is
    (absent_path names steps (paths_of names steps) refl c.self.invariant step before c.in_default.ensures.absent)

pub returns-then-len-ge-MAX_PATHS-clause-full : goal.returns-then-len-ge-MAX_PATHS-clause-full
returns-then-len-ge-MAX_PATHS-clause-full c =
    let many = as_many c.self.inside.names.now c.self.inside.steps c.args.self.now.held
    (ap (λ (v : HeldPaths). v.held) c.self.view_is) c.self.invariant in
    let full : length c.args.self.now.held ≡ 4294967295 = omega (arith, many, c.self.invariant.few) in
    (λ same. (full, returns-then-len-ge-MAX_PATHS-clause-absent c), λ full. refl)

pub returns-in_err-push-clause-absent : goal.returns-in_err-push-clause-absent
returns-in_err-push-clause-absent c =
    let names = c.self.inside.names.now in
    let steps = c.self.inside.steps in
    let step = c.args.step in
    let before = subst (λ (v : HeldPaths). IsBefore v.names (length v.held) step) (sym c.self.view_is)
    c.requires.before in
    let p = err_from_is_err_and c.from_residual.result c.from_residual.ensures.1 in
    rw p.1
    (subst (λ (v : HeldPaths). ¬ Contains v.held (path_at v.names v.held step)) c.self.view_is
    (absent_path names steps (paths_of names steps) refl c.self.invariant step before c.in_default.ensures.absent))

pub returns-in_err-push-clause-full : goal.returns-in_err-push-clause-full
returns-in_err-push-clause-full c =
    let p = err_from_is_err_and c.from_residual.result c.from_residual.ensures.1 in
    let many = as_many c.self.inside.names.now c.self.inside.steps c.args.self.now.held
    (ap (λ (v : HeldPaths). v.held) c.self.view_is) c.self.invariant in
    never (no_memory_only _ _ p.1 p.2) (λ full. absurd (omega (arith, many, full.0)))

pub invariant_of-self-2 : goal.invariant_of-self-2
invariant_of-self-2 c =
    let names = c.self.inside.names.now in
    let steps = c.self.inside.steps in
    let step = c.args.step in
    let before = subst (λ (v : HeldPaths). IsBefore v.names (length v.held) step) (sym c.self.view_is)
    c.requires.before in
    let absent = c.in_default.ensures.absent in
    let grown = pushed names steps (paths_of names steps) refl c.self.invariant step before absent c.push.new.self
    c.in_ok-push.field-0 c.in_ok-push.ensures.held c.in_ok-push.ensures.grows in
    let room : length steps < 4294967295 = omega arith in
    subst (AreSteps names) (sym grown)
    (pushed_steps names steps (paths_of names steps) refl c.self.invariant step before absent room)

pub returns-clause-ok : goal.returns-clause-ok
returns-clause-ok c =
    let names = c.self.inside.names.now in
    let steps = c.self.inside.steps in
    let ps = paths_of names steps in
    let step = c.args.step in
    let id : PathId = record { 0 = c.in_ok-push.field-0 } in
    let absent = c.in_default.ensures.absent in
    let before = subst (λ (v : HeldPaths). IsBefore v.names (length v.held) step) (sym c.self.view_is)
    c.requires.before in
    let grown = pushed names steps ps refl c.self.invariant step before absent c.push.new.self
    c.in_ok-push.field-0 c.in_ok-push.ensures.held c.in_ok-push.ensures.grows in
    let paths = ap (paths_of names) grown ∙ pushed_paths names steps ps refl c.self.invariant step before absent in
    let taken : TakesIn (path_at names ps step) ps (paths_of names c.push.new.self) id =
    subst (λ new. TakesIn (path_at names ps step) ps new id) (sym paths)
    (pushed_taken names steps ps refl c.self.invariant step before absent id
    (ap (λ xs. slice_get xs c.in_ok-push.field-0) (sym grown) ∙ c.in_ok-push.ensures.held)) in
    subst (λ (v : HeldPaths). TakesIn (path_at v.names v.held step) v.held (paths_of names c.push.new.self) id)
    c.self.view_is taken

pub returns-clause-kept : goal.returns-clause-kept
returns-clause-kept c = taken_kept _ _ _ _ (returns-clause-ok c)

pub returns-clause-distinct : goal.returns-clause-distinct
returns-clause-distinct c = (invariant_of-self-2 c).distinct

pub returns-clause-full : goal.returns-clause-full
returns-clause-full c =
    let many = as_many c.self.inside.names.now c.self.inside.steps c.args.self.now.held
    (ap (λ (v : HeldPaths). v.held) c.self.view_is) c.self.invariant in
    never (no_error _ _) (λ full. absurd (omega (arith, many, full.0)))
