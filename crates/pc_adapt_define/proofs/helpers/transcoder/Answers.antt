use Rattle.std.proofs.Common.{[], ◌∷◌, refl, sym, subst, arith}
use Rattle.pc_dfg.specs.Held.{IsHeld}
use Rattle.pc_dfg.specs.Numbers.{memory_def}
use Rattle.pc_dfg.proofs.AllLemmas.{all_first, all_rest}
use Rattle.pc_dfg.proofs.HeldLemmas.{held_stays}
use Rattle.pc_spec_plan.specs.PlanView as plan
use Rattle.pc_adapt.specs.declared.import.Import.TheVariants as import
use Rattle.pc_adapt_define.specs.Adds.{Adds}
use Rattle.pc_adapt_define.proofs.AddsLemmas.{adds_memory, adds_more, adds_twice}
use Rattle.pc_adapt_define.proofs.OnlyLemmas.{contains_first, contains_second, only_memory, only_twice, slot_of}
use Rattle.pc_adapt_define.proofs.SlotLemmas.{put_kept}
use Rattle.pc_adapt_define.proofs.helpers.transcoder.Goals as goal

pub returns-in_err-target-clause-adds : goal.returns-in_err-target-clause-adds
returns-in_err-target-clause-adds c =
    let g = c.args.graph.now in
    let front = all_first (IsHeld g) (memory_def c.args.from) (memory_def c.args.to ∷ []) c.requires.held in
    let first = adds_memory g c.push_memory.new.self c.push_memory.ensures.grows
    (c.push_memory.ensures.ordered front) c.args.from c.push_memory.ensures.rest c.push_memory.ensures.put in
    adds_more 1 0 0 0 2 0 0 0 g c.push_memory-2.new.self (omega arith) (omega arith) (omega arith) (omega arith)
    (subst (Adds 1 0 0 0 g) (sym c.in_err-target.ensures.err) first)

pub returns-clause-adds : goal.returns-clause-adds
returns-clause-adds c =
    let g = c.args.graph.now in
    let m = c.push_memory.new.self in
    let front = all_first (IsHeld g) (memory_def c.args.from) (memory_def c.args.to ∷ []) c.requires.held in
    let behind = all_first (IsHeld g) (memory_def c.args.to) []
    (all_rest (IsHeld g) (memory_def c.args.from) (memory_def c.args.to ∷ []) c.requires.held) in
    adds_twice 1 0 0 0 1 0 0 0 g m c.push_memory-2.new.self
    (adds_memory g m c.push_memory.ensures.grows (c.push_memory.ensures.ordered front) c.args.from
    c.push_memory.ensures.rest c.push_memory.ensures.put)
    (adds_memory m c.push_memory-2.new.self c.push_memory-2.ensures.grows
    (c.push_memory-2.ensures.ordered (held_stays g m c.push_memory.ensures.grows (memory_def c.args.to) behind))
    c.args.to c.push_memory-2.ensures.rest c.push_memory-2.ensures.put)

pub returns-clause-helper : goal.returns-clause-helper
returns-clause-helper c = record {
  source = c.in_ok-source.source;
  target = c.in_ok-target.target;
  is = refl;
  source_at = put_kept _ _ c.args.to c.push_memory-2.ensures.put _ _ c.in_ok-source.ensures.held;
  target_at = c.in_ok-target.ensures.held;
}

pub returns-clause-only : goal.returns-clause-only
returns-clause-only c =
    let g = c.args.graph.now in
    let m = c.push_memory.new.self in
    let h = c.push_memory-2.new.self in
    let i = import.Transcode c.args.op c.args.from c.args.from64 c.args.to c.args.to64 in
    only_twice (i ∷ []) g m h
    (only_memory g m (i ∷ []) c.args.from c.push_memory.ensures.rest c.push_memory.ensures.put
    (slot_of i plan.memory (memory_def c.args.from)
    (contains_first (memory_def c.args.from) (memory_def c.args.to ∷ []))))
    (only_memory m h (i ∷ []) c.args.to c.push_memory-2.ensures.rest c.push_memory-2.ensures.put
    (slot_of i plan.memory (memory_def c.args.to)
    (contains_second (memory_def c.args.from) (memory_def c.args.to))))
