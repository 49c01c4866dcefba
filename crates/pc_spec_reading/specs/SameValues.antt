-- Whether two core values are one: the same tree, with the same types and signatures.
use Rattle.std.specs.Prelude.{Bool, true, false, List, ◌&&◌, ◌==◌}
use Rattle.std.specs.List.{list_any}
use Rattle.std.specs.Str.{bytes_eq}
use mathlib.Core.Bool.{beq}
use Rattle.pc_numbers.specs.declared.entity_index.EntityIndex.{EntityIndex}
use Rattle.pc_types.specs.contracts.encoding.StringEncodingPartialEq.TheImpl as eq_StringEncoding
use Rattle.pc_types.specs.contracts.parsed.CoreFuncSigPartialEq.TheImpl as eq_CoreFuncSig
use Rattle.pc_types.specs.contracts.trampoline.TrampolineKindPartialEq.TheImpl as eq_TrampolineKind
use Rattle.pc_types.specs.Record.{index_kind, index_number, same_kind}
use Rattle.pc_spec_plan.specs.CoreValue.{CoreValue, Options, DataModel, MaybeValue, Parts, Part, ExportedItem, by_index}
use Rattle.pc_spec_plan.specs.CoreValue.{by_name, exported, lowered, builtin, intrinsic, adapter, flags, helper}
use Rattle.pc_spec_plan.specs.CoreValue.{options, gc, linear, no_value, a_value, no_parts, and_part, mark_part}
use Rattle.pc_spec_plan.specs.CoreValue.{number_part, flag_part, value_part, options_part}
use Rattle.pc_spec_plan.specs.Log.{Entry, made}
use Rattle.pc_parsed.specs.Mark.{Mark, of_type, of_signature}
use Rattle.pc_spec_reading.specs.SameTypes.{same_type, same_path}

-- two marks
abbrev pub same_mark : Mark → Mark → Bool
same_mark (of_type t) (of_type u) = same_type t u
same_mark (of_signature s) (of_signature r) = eq_CoreFuncSig.ghosts.eq s r
same_mark m n = false

-- two entities by index
abbrev pub same_entity : EntityIndex → EntityIndex → Bool
same_entity a b = same_kind (index_kind a) (index_kind b) && (index_number a == index_number b)

-- two items of core instances
abbrev pub same_item : ExportedItem → ExportedItem → Bool
same_item (by_index a) (by_index b) = same_entity a b
same_item (by_name n) (by_name m) = bytes_eq n m
same_item a b = false

unfoldable mutual
  -- two core values
  pub same_value : CoreValue Mark → CoreValue Mark → Bool
  same_value (exported n i) (exported m j) = (n == m) && same_item i j
  same_value (lowered p t o) (lowered q u r) = same_path p q && same_mark t u && same_options o r
  same_value (builtin k c ps) (builtin l d qs) = eq_TrampolineKind.ghosts.eq k l && (c == d) && same_parts ps qs
  same_value (intrinsic n) (intrinsic m) = n == m
  same_value (adapter t o u r v) (adapter t2 o2 u2 r2 v2) =
      same_mark t t2 && same_options o o2 && same_mark u u2 && same_options r r2 && same_value v v2
  same_value (flags c) (flags d) = c == d
  same_value (helper k ps) (helper l qs) = eq_TrampolineKind.ghosts.eq k l && same_parts ps qs
  same_value v w = false

  -- two sets of options
  pub same_options : Options Mark → Options Mark → Bool
  same_options (options c e is_async s callback post model) (options c2 e2 too s2 callback2 post2 model2) =
      (c == c2) && eq_StringEncoding.ghosts.eq e e2 && beq is_async too && same_mark s s2
      && same_maybe_value callback callback2 && same_maybe_value post post2 && same_model model model2

  -- two places for values
  pub same_model : DataModel Mark → DataModel Mark → Bool
  same_model gc gc = true
  same_model (linear m r) (linear m2 r2) = same_maybe_value m m2 && same_maybe_value r r2
  same_model a b = false

  -- two values that may be left out
  pub same_maybe_value : MaybeValue Mark → MaybeValue Mark → Bool
  same_maybe_value no_value no_value = true
  same_maybe_value (a_value v) (a_value w) = same_value v w
  same_maybe_value a b = false

  -- two lists of parts
  pub same_parts : Parts Mark → Parts Mark → Bool
  same_parts no_parts no_parts = true
  same_parts (and_part p ps) (and_part q qs) = same_part p q && same_parts ps qs
  same_parts a b = false

  -- two parts
  pub same_part : Part Mark → Part Mark → Bool
  same_part (mark_part m) (mark_part n) = same_mark m n
  same_part (number_part m) (number_part n) = m == n
  same_part (flag_part a) (flag_part b) = beq a b
  same_part (value_part v) (value_part w) = same_maybe_value v w
  same_part (options_part o) (options_part p) = same_options o p
  same_part p q = false

-- whether an entry says that this adapter was made
abbrev pub makes : CoreValue Mark → Entry Mark → Bool
makes v (made w) = same_value v w
makes v _ = false

-- whether a log says that an adapter was made
unfoldable pub was_made : CoreValue Mark → List (Entry Mark) → Bool
was_made v log = list_any (makes v) log
