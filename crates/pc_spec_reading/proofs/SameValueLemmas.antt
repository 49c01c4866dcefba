-- Two core values are the same exactly where they are one.
use Rattle.std.specs.Prelude.{◌≡◌, true, refl}
use Rattle.std.specs.Bool.{Decides}
use Rattle.std.proofs.Common.{ap, sym, true≢false}
use Rattle.pc_entity.specs.Exact.{same_texts}
use Rattle.pc_entity.proofs.Elements.{and_true, true_and}
use Rattle.pc_entity.proofs.Naming.{bytes_eq-refl}
use Rattle.pc_numbers.specs.declared.entity_index.EntityIndex.{EntityIndex}
use Rattle.pc_numbers.specs.declared.entity_index.EntityIndex.TheVariants as index
use Rattle.pc_types.specs.contracts.encoding.StringEncodingEq.TheImpl.Laws as laws_of_encodings
use Rattle.pc_types.specs.contracts.parsed.CoreFuncSigEq.TheImpl.Laws as laws_of_signatures
use Rattle.pc_types.specs.contracts.trampoline.TrampolineKindEq.TheImpl.Laws as laws_of_kinds
use Rattle.pc_types.specs.Equal.{signature_exact}
use Rattle.pc_types.specs.EqualWords.{encoding_exact, kind_exact}
use Rattle.pc_spec_plan.specs.CoreValue.{CoreValue, Options, DataModel, MaybeValue, Parts, Part, ExportedItem, by_index}
use Rattle.pc_spec_plan.specs.CoreValue.{by_name, exported, lowered, builtin, intrinsic, adapter, flags, helper}
use Rattle.pc_spec_plan.specs.CoreValue.{options, gc, linear, no_value, a_value, no_parts, and_part, mark_part}
use Rattle.pc_spec_plan.specs.CoreValue.{number_part, flag_part, value_part, options_part}
use Rattle.pc_parsed.specs.Mark.{Mark, of_type, of_signature}
use Rattle.pc_spec_reading.specs.SameValues.{same_mark, same_entity, same_item, same_value, same_options, same_model}
use Rattle.pc_spec_reading.specs.SameValues.{same_maybe_value, same_parts, same_part}
use Rattle.pc_spec_reading.proofs.SameTypeLemmas.{decided, flag_exact, flag_itself, number_exact, number_itself}
use Rattle.pc_spec_reading.proofs.SameTypeLemmas.{path_exact, path_itself, type_exact, type_itself}

-- marks
mark_exact : (m n : Mark) → same_mark m n ≡ true → m ≡ n
mark_exact (of_type t) (of_type u) h = ap of_type (type_exact t u h)
mark_exact (of_signature s) (of_signature r) h = ap of_signature (signature_exact s r h)
mark_exact m n h = absurd (true≢false (sym h))

mark_itself : (m : Mark) → same_mark m m ≡ true
mark_itself (of_type t) = type_itself t
mark_itself (of_signature s) = (laws_of_signatures.laws-law).refl s

-- entities by index
entity_exact : (a b : EntityIndex) → same_entity a b ≡ true → a ≡ b
entity_exact (index.Function a) (index.Function b) h =
    ap (λ n. index.Function (record { 0 = n })) (number_exact a.0 b.0 h)
entity_exact (index.Table a) (index.Table b) h = ap (λ n. index.Table (record { 0 = n })) (number_exact a.0 b.0 h)
entity_exact (index.Memory a) (index.Memory b) h = ap (λ n. index.Memory (record { 0 = n })) (number_exact a.0 b.0 h)
entity_exact (index.Global a) (index.Global b) h = ap (λ n. index.Global (record { 0 = n })) (number_exact a.0 b.0 h)
entity_exact (index.Tag a) (index.Tag b) h = ap (λ n. index.Tag (record { 0 = n })) (number_exact a.0 b.0 h)
entity_exact a b h = absurd (true≢false (sym h))

entity_itself : (a : EntityIndex) → same_entity a a ≡ true
entity_itself (index.Function a) = number_itself a.0
entity_itself (index.Table a) = number_itself a.0
entity_itself (index.Memory a) = number_itself a.0
entity_itself (index.Global a) = number_itself a.0
entity_itself (index.Tag a) = number_itself a.0

-- items of core instances
item_exact : (a b : ExportedItem) → same_item a b ≡ true → a ≡ b
item_exact (by_index a) (by_index b) h = ap by_index (entity_exact a b h)
item_exact (by_name a) (by_name b) h = ap by_name (same_texts a b h)
item_exact a b h = absurd (true≢false (sym h))

item_itself : (a : ExportedItem) → same_item a a ≡ true
item_itself (by_index a) = entity_itself a
item_itself (by_name a) = bytes_eq-refl a

-- core values, and what they are made of
mutual
  unfolding same_value same_options same_model same_maybe_value same_parts same_part

  pub value_exact : (x y : CoreValue Mark) → same_value x y ≡ true → x ≡ y
  value_exact (exported a b) (exported p q) h =
      let first = and_true _ _ h in
      let one = number_exact a p first.0 in
      let two = item_exact b q first.1 in
      λ i. exported (one i) (two i)
  value_exact (lowered a b c) (lowered p q r) h =
      let first = and_true _ _ h in
      let second = and_true _ _ first.0 in
      let one = path_exact a p second.0 in
      let two = mark_exact b q second.1 in
      let three = options_exact c r first.1 in
      λ i. lowered (one i) (two i) (three i)
  value_exact (builtin a b c) (builtin p q r) h =
      let first = and_true _ _ h in
      let second = and_true _ _ first.0 in
      let one = kind_exact a p second.0 in
      let two = number_exact b q second.1 in
      let three = parts_exact c r first.1 in
      λ i. builtin (one i) (two i) (three i)
  value_exact (intrinsic a) (intrinsic p) h = ap intrinsic (number_exact a p h)
  value_exact (adapter a b c d e) (adapter p q r s t) h =
      let first = and_true _ _ h in
      let second = and_true _ _ first.0 in
      let third = and_true _ _ second.0 in
      let fourth = and_true _ _ third.0 in
      let one = mark_exact a p fourth.0 in
      let two = options_exact b q fourth.1 in
      let three = mark_exact c r third.1 in
      let four = options_exact d s second.1 in
      let five = value_exact e t first.1 in
      λ i. adapter (one i) (two i) (three i) (four i) (five i)
  value_exact (flags a) (flags p) h = ap flags (number_exact a p h)
  value_exact (helper a b) (helper p q) h =
      let first = and_true _ _ h in
      let one = kind_exact a p first.0 in
      let two = parts_exact b q first.1 in
      λ i. helper (one i) (two i)
  value_exact x y h = absurd (true≢false (sym h))

  pub options_exact : (x y : Options Mark) → same_options x y ≡ true → x ≡ y
  options_exact (options a b c d e f g) (options p q r s t u v) h =
      let first = and_true _ _ h in
      let second = and_true _ _ first.0 in
      let third = and_true _ _ second.0 in
      let fourth = and_true _ _ third.0 in
      let fifth = and_true _ _ fourth.0 in
      let sixth = and_true _ _ fifth.0 in
      let one = number_exact a p sixth.0 in
      let two = encoding_exact b q sixth.1 in
      let three = flag_exact c r fifth.1 in
      let four = mark_exact d s fourth.1 in
      let five = maybe_value_exact e t third.1 in
      let six = maybe_value_exact f u second.1 in
      let seven = model_exact g v first.1 in
      λ i. options (one i) (two i) (three i) (four i) (five i) (six i) (seven i)

  pub model_exact : (x y : DataModel Mark) → same_model x y ≡ true → x ≡ y
  model_exact gc gc h = refl
  model_exact (linear a b) (linear p q) h =
      let first = and_true _ _ h in
      let one = maybe_value_exact a p first.0 in
      let two = maybe_value_exact b q first.1 in
      λ i. linear (one i) (two i)
  model_exact x y h = absurd (true≢false (sym h))

  pub maybe_value_exact : (x y : MaybeValue Mark) → same_maybe_value x y ≡ true → x ≡ y
  maybe_value_exact no_value no_value h = refl
  maybe_value_exact (a_value a) (a_value p) h = ap a_value (value_exact a p h)
  maybe_value_exact x y h = absurd (true≢false (sym h))

  pub parts_exact : (x y : Parts Mark) → same_parts x y ≡ true → x ≡ y
  parts_exact no_parts no_parts h = refl
  parts_exact (and_part a b) (and_part p q) h =
      let first = and_true _ _ h in
      let one = part_exact a p first.0 in
      let two = parts_exact b q first.1 in
      λ i. and_part (one i) (two i)
  parts_exact x y h = absurd (true≢false (sym h))

  pub part_exact : (x y : Part Mark) → same_part x y ≡ true → x ≡ y
  part_exact (mark_part a) (mark_part p) h = ap mark_part (mark_exact a p h)
  part_exact (number_part a) (number_part p) h = ap number_part (number_exact a p h)
  part_exact (flag_part a) (flag_part p) h = ap flag_part (flag_exact a p h)
  part_exact (value_part a) (value_part p) h = ap value_part (maybe_value_exact a p h)
  part_exact (options_part a) (options_part p) h = ap options_part (options_exact a p h)
  part_exact x y h = absurd (true≢false (sym h))

-- each is itself
mutual
  unfolding same_value same_options same_model same_maybe_value same_parts same_part

  pub value_itself : (x : CoreValue Mark) → same_value x x ≡ true
  value_itself (exported a b) =
      true_and _ _ (number_itself a) (item_itself b)
  value_itself (lowered a b c) =
      true_and _ _ (true_and _ _ (path_itself a) (mark_itself b)) (options_itself c)
  value_itself (builtin a b c) =
      true_and _ _ (true_and _ _ ((laws_of_kinds.laws-law).refl a) (number_itself b)) (parts_itself c)
  value_itself (intrinsic a) = number_itself a
  value_itself (adapter a b c d e) =
      true_and _ _
      (true_and _ _ (true_and _ _ (true_and _ _ (mark_itself a) (options_itself b)) (mark_itself c)) (options_itself d))
      (value_itself e)
  value_itself (flags a) = number_itself a
  value_itself (helper a b) =
      true_and _ _ ((laws_of_kinds.laws-law).refl a) (parts_itself b)

  pub options_itself : (x : Options Mark) → same_options x x ≡ true
  options_itself (options a b c d e f g) =
      true_and _ _ (true_and _ _ (true_and _ _ (true_and _ _
      (true_and _ _ (true_and _ _ (number_itself a) ((laws_of_encodings.laws-law).refl b)) (flag_itself c))
      (mark_itself d)) (maybe_value_itself e)) (maybe_value_itself f)) (model_itself g)

  pub model_itself : (x : DataModel Mark) → same_model x x ≡ true
  model_itself gc = refl
  model_itself (linear a b) =
      true_and _ _ (maybe_value_itself a) (maybe_value_itself b)

  pub maybe_value_itself : (x : MaybeValue Mark) → same_maybe_value x x ≡ true
  maybe_value_itself no_value = refl
  maybe_value_itself (a_value a) = value_itself a

  pub parts_itself : (x : Parts Mark) → same_parts x x ≡ true
  parts_itself no_parts = refl
  parts_itself (and_part a b) =
      true_and _ _ (part_itself a) (parts_itself b)

  pub part_itself : (x : Part Mark) → same_part x x ≡ true
  part_itself (mark_part a) = mark_itself a
  part_itself (number_part a) = number_itself a
  part_itself (flag_part a) = flag_itself a
  part_itself (value_part a) = maybe_value_itself a
  part_itself (options_part a) = options_itself a

-- two core values are the same exactly where they are one
pub values_one : (v w : CoreValue Mark) → Decides (same_value v w) (v ≡ w)
values_one = decided same_value value_exact value_itself
