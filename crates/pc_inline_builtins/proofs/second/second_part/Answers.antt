use Rattle.std.proofs.Common.{sym, subst, ◌∙◌}
use Rattle.pc_inline_state.specs.Slots.{OptionsThere}
use Rattle.pc_inline_state.specs.Stands.{OptionsStand}
use Rattle.pc_inline_state.specs.Tables.{tables_of}
use Rattle.pc_inline_canon.proofs.GotLemmas.{got_by}
use Rattle.pc_inline_builtins.proofs.YieldLemmas.{flag_second, memory_missing, memory_ready, memory_second, nothing_second}
use Rattle.pc_inline_builtins.proofs.YieldLemmas.{options_missing, options_ready, options_second, part_lacks}
use Rattle.pc_inline_builtins.proofs.YieldLemmas.{table_missing, table_ready, table_second}
use Rattle.pc_inline_builtins.proofs.second.second_part.Goals as goal

pub returns-in-Nothing-clause-yields : goal.returns-in-Nothing-clause-yields
returns-in-Nothing-clause-yields c now s at signed = nothing_second _ now.scope s _ c.in-Nothing.is

pub returns-in-Flag-clause-yields : goal.returns-in-Flag-clause-yields
returns-in-Flag-clause-yields c now s at signed = flag_second _ now.scope s _ _ c.in-Flag.is

pub options_part-requires : goal.options_part-requires
options_part-requires c = record {
  sound = c.requires.here.1.sound;
  there = options_ready _ _ c.args.state.now c.args.frame.now _ _ _ c.requires.here.1 c.requires.signed.1 _ _ _
      c.in-Options.is c.as_slice.ensures _ (sym c.options_in.ensures ∙ c.in-Some.is);
}

pub returns-in_err-options_part-in-Some-clause-yields : goal.returns-in_err-options_part-in-Some-clause-yields
returns-in_err-options_part-in-Some-clause-yields c now s at signed =
    part_lacks c.options_part.new.state _ _ _ c.from_residual.ensures.1 c.in_err-options_part-in-Some.ensures.err

pub returns-in_ok-options_part-in-Some-clause-yields : goal.returns-in_ok-options_part-in-Some-clause-yields
returns-in_ok-options_part-in-Some-clause-yields c now s at signed =
    options_second _ _ c.args.state.now c.args.frame.now _ now s at signed _ _ _ c.in-Options.is c.as_slice.ensures _
    (sym c.options_in.ensures ∙ c.in-Some.is) _ _ c.in_ok-options_part-in-Some.ensures.stands

pub returns-in-None-clause-yields : goal.returns-in-None-clause-yields
returns-in-None-clause-yields c now s at signed =
    options_missing _ _ c.args.state.now c.args.frame.now _ now s at signed _ _ _ c.in-Options.is c.as_slice.ensures _
    (sym c.options_in.ensures ∙ c.in-None.is)

pub options_part-requires-in-Some-at : goal.options_part-requires-in-Some-at
options_part-requires-in-Some-at c = record {
  sound = c.requires.here.1.sound;
  there = subst (OptionsThere c.args.context.now.modules (tables_of c.args.state.now))
      (sym c.memory_options-options.ensures)
      (memory_ready _ _ c.args.state.now c.args.frame.now _ _ _ c.requires.here.1 c.requires.signed.1 _ _
      c.in-Memory.is _ (got_by _ _ _ c.as_slice-in-Memory.ensures _ _ c.at.ensures c.in-Some-at.is));
}

pub returns-in_err-options_part-in-Some-at-clause-yields : goal.returns-in_err-options_part-in-Some-at-clause-yields
returns-in_err-options_part-in-Some-at-clause-yields c now s at signed =
    part_lacks c.options_part-in-Some-at.new.state _ _ _
    c.from_residual-in_err-options_part-in-Some-at.ensures.1 c.in_err-options_part-in-Some-at.ensures.err

pub returns-in_ok-options_part-in-Some-at-clause-yields : goal.returns-in_ok-options_part-in-Some-at-clause-yields
returns-in_ok-options_part-in-Some-at-clause-yields c now s at signed =
    memory_second _ _ c.args.state.now c.args.frame.now _ now s at signed _ _ c.in-Memory.is _
    (got_by _ _ _ c.as_slice-in-Memory.ensures _ _ c.at.ensures c.in-Some-at.is) _ _
    (λ v stand. c.in_ok-options_part-in-Some-at.ensures.stands v
    (subst (λ o. OptionsStand c.args.context.now.modules (tables_of c.args.state.now) o v)
    (sym c.memory_options-options.ensures) stand))

pub returns-in-None-at-clause-yields : goal.returns-in-None-at-clause-yields
returns-in-None-at-clause-yields c now s at signed =
    memory_missing _ _ c.args.state.now c.args.frame.now _ now s at signed _ _ c.in-Memory.is _
    (got_by _ _ _ c.as_slice-in-Memory.ensures _ _ c.at.ensures c.in-None-at.is)

pub table_part-requires : goal.table_part-requires
table_part-requires c = record {
  sound = c.requires.here.1.sound;
  there = table_ready _ _ c.args.state.now c.args.frame.now _ _ _ c.requires.here.1 c.requires.signed.1 _ _
      c.in-Table.is _ (got_by _ _ _ c.as_slice-in-Table.ensures _ _ c.at-in-Table.ensures c.in-Some-at-2.is);
}

pub returns-in_err-table_part-in-Some-at-2-clause-yields : goal.returns-in_err-table_part-in-Some-at-2-clause-yields
returns-in_err-table_part-in-Some-at-2-clause-yields c now s at signed =
    part_lacks c.table_part.new.state _ _ _
    c.from_residual-in_err-table_part-in-Some-at-2.ensures.1 c.in_err-table_part-in-Some-at-2.ensures.err

pub returns-in_ok-table_part-in-Some-at-2-clause-yields : goal.returns-in_ok-table_part-in-Some-at-2-clause-yields
returns-in_ok-table_part-in-Some-at-2-clause-yields c now s at signed =
    table_second _ _ c.args.state.now c.args.frame.now _ now s at signed _ _ c.in-Table.is _
    (got_by _ _ _ c.as_slice-in-Table.ensures _ _ c.at-in-Table.ensures c.in-Some-at-2.is) _ _
    c.in_ok-table_part-in-Some-at-2.ensures.stands

pub returns-in-None-at-2-clause-yields : goal.returns-in-None-at-2-clause-yields
returns-in-None-at-2-clause-yields c now s at signed =
    table_missing _ _ c.args.state.now c.args.frame.now _ now s at signed _ _ c.in-Table.is _
    (got_by _ _ _ c.as_slice-in-Table.ensures _ _ c.at-in-Table.ensures c.in-None-at-2.is)
