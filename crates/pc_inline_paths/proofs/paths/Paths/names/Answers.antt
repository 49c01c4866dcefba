use Rattle.std.proofs.Common.{◌≡◌, ◌<◌, ◌++◌, ◌∷◌, [], slice_get, unwrap_or, sym, ap, ◌∙◌, subst, Some, arith}
use Rattle.pc_inline_paths.specs.declared.step.Step.TheVariants as step
use Rattle.pc_inline_paths.specs.Steps.{IsBefore, name_at, path_at}
use Rattle.pc_inline_paths.proofs.WrittenLemmas.{IsWritten, name_written, none_written, written_within}
use Rattle.pc_inline_paths.proofs.paths.Paths.names.Goals as goal

pub steps-init : goal.steps-init
steps-init c =
    subst (IsWritten c.args.self.now.held c.args.id c.args.id) (sym c.new-names.ensures.items)
    (none_written c.args.self.now.names c.args.self.now.held c.args.id c.requires.held)

pub step-requires : goal.step-requires
step-requires c =
    record {
      held = written_within c.args.self.now.names c.args.self.now.held c.args.id c.steps.at c.steps.names.items
          c.steps.invariant;
    }

pub name-requires : goal.name-requires
name-requires c =
    let before = subst (IsBefore c.args.self.now.names c.steps.at.0) c.in-Member.is c.step.ensures.before in
    record { held = before.1 }

pub steps-preserved : goal.steps-preserved
steps-preserved c =
    let texts = c.args.self.now.names in
    let paths = c.args.self.now.held in
    let at = c.steps.at in
    let names = c.steps.names.items in
    let parent = c.in-Member.parent in
    let number = c.in-Member.number in
    let earlier : parent.0 < at.0 = (subst (IsBefore texts at.0) c.in-Member.is c.step.ensures.before).0 in
    let is_held = written_within texts paths c.args.id at names c.steps.invariant in
    let there : slice_get paths at.0 ≡ Some (path_at texts paths (step.Member parent number)) =
    c.step.ensures.path ∙ ap (λ s. Some (path_at texts paths s)) c.in-Member.is in
    let name : name_at texts number ≡ c.name.result.now = ap (λ o. unwrap_or o []) c.name.ensures in
    let copied : names ++ name_at texts number ∷ [] ≡ c.push.new.self.items =
    ap (λ n. names ++ n ∷ []) (name ∙ sym c.in_ok-try_clone-in-Member.ensures)
    ∙ sym c.in_ok-push-in-Member.ensures.items in
    subst (IsWritten paths c.args.id parent) copied
    (name_written texts paths c.args.id at names c.steps.invariant parent number
    (omega (arith, earlier, is_held)) there)
