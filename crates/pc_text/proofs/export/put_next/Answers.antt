use Rattle.std.proofs.Common.{ℕ, List, [], ◌∷◌, ◌++◌, ◌∙◌, ap, length, take}
use Rattle.std.specs.Prelude.{codes}
use Rattle.pc_spec_plan.specs.Text.{quoted}
use Rattle.pc_text.specs.declared.export.Open.{Open}
use Rattle.pc_text.specs.ExportWalk.{node_line, opened}
use Rattle.pc_text.proofs.Appending.{then_holds}
use Rattle.pc_text.proofs.ExportLemmas.{done_steps, first_held, next_steps}
use Rattle.pc_text.proofs.export.put_next.Goals as goal

pub index-export-requires : goal.index-export-requires
index-export-requires c =
    first_held (length c.args.items.now) (length c.args.path.now.items) c.args.innermost
    (c.in-Some.name.now, c.in-Some.entry.now) _ _ c.requires.is_open c.in-Some.ensures.steps

pub returns-in-None : goal.returns-in-None
returns-in-None c =
    done_steps c.args.items.now c.args.out.now.items c.args.path.now.items c.truncate.new.self.items c.args.innermost _
    c.requires.is_open c.in-None.ensures.steps.0 c.truncate.ensures.items

pub returns-in_ok-push-in-Some : goal.returns-in_ok-push-in-Some
returns-in_ok-push-in-Some c =
    let front = take c.args.innermost.path c.args.path.now.items in
    let export = c.index-export.result.now in
    let meta = c.in-Some.entry.now.1 in
    let back : Open = record { left = c.next.new.self; path = c.args.innermost.path } in
    then_holds c.open_item.result c.open_item.ensures
    (λ e. next_steps c.args.items.now c.args.out.now.items c.args.path.now.items c.args.innermost
    (c.in-Some.name.now, c.in-Some.entry.now) c.next.new.self c.args.stack.now.items _ export _ _
    c.requires.ordered c.requires.is_open c.in-Some.ensures.steps c.index-export.ensures
    (c.in_ok-put_name-in-Some.ensures
    ∙ ap (λ (p : List ℕ). p ++ codes " " ++ quoted c.as_str.result.now) c.truncate.ensures.items
    ∙ ap (λ (name : List ℕ). front ++ codes " " ++ quoted name) c.as_str.ensures)
    (c.in_ok-put_node-in-Some.ensures
    ∙ ap (λ (p : List ℕ). c.args.out.now.items ++ node_line p meta export) c.as_slice.ensures.value)
    (e
    ∙ ap (λ (os : List Open). os ++ opened export c.len.result) c.in_ok-push-in-Some.ensures.items
    ∙ ap (λ (n : ℕ). (c.args.stack.now.items ++ back ∷ []) ++ opened export n)
    (c.len.ensures ∙ c.put_name.new.path.ok.0)))
