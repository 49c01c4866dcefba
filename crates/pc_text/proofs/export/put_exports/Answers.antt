use Rattle.std.proofs.Common.{◌∙◌, List, length, subst, sym}
use Rattle.pc_text.specs.declared.export.Open.{Open}
use Rattle.pc_text.specs.ExportWalk.{IsOpen}
use Rattle.pc_text.proofs.ExportLemmas.{begins, emptied, ends_with_none, has_order, popped, step_falls, step_keeps}
use Rattle.pc_text.proofs.export.put_exports.Goals as goal

pub put_next-requires : goal.put_next-requires
put_next-requires c =
    let l = c.loop-innermost in
    record {
      ordered = has_order c.args.component.now c.requires.has_items;
      is_open =
          subst (λ (os : List Open). IsOpen (length c.args.component.now.export_items) (length l.path.items) os)
          (popped l.stack.items c.pop.new.self.items c.in-Some.innermost c.in-Some.ensures.items) l.invariant.is_open;
    }

pub loop-innermost-init : goal.loop-innermost-init
loop-innermost-init c =
    let begun = begins c.args.component.now _ _ _ _ _ c.requires.has_items c.new-path.ensures.items
    c.new-stack.ensures.items c.raw_iter.ensures c.in_ok-push.ensures.items in
    record { whole = begun.0; is_open = begun.1 }

pub loop-innermost-preserved : goal.loop-innermost-preserved
loop-innermost-preserved c =
    let l = c.loop-innermost in
    let s = c.in_ok-put_next.ensures in
    let same = popped l.stack.items c.pop.new.self.items c.in-Some.innermost c.in-Some.ensures.items in
    record {
      whole =
          step_keeps c.args.component.now.export_items l.out.items l.path.items _ _ _ _ _ _ same l.invariant.whole s;
      is_open = s.stays;
    }

pub loop-innermost-smaller : goal.loop-innermost-smaller
loop-innermost-smaller c =
    let l = c.loop-innermost in
    let s = c.in_ok-put_next.ensures in
    let same = popped l.stack.items c.pop.new.self.items c.in-Some.innermost c.in-Some.ensures.items in
    step_falls c.args.component.now.export_items l.out.items l.path.items _ _ _ _ _ same s

pub returns : goal.returns
returns c =
    let l = c.loop-innermost in
    let none = emptied l.stack.items (sym l.stack.ok.0 ∙ c.in_default.ensures.cases.0) in
    ends_with_none c.args.component.now.export_items l.out.items l.path.items _ _ none l.invariant.whole
