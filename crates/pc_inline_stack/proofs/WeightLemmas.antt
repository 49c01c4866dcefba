-- What bodies weigh, against what their items and exports add at the most.
use Rattle.std.proofs.Common.{◌≡◌, ◌≤◌, ◌+◌, ◌*◌, ℕ, suc, List, [], ◌∷◌, length, map, Option, None, Some, refl, sym}
use Rattle.std.proofs.Common.{subst, ◌∙◌}
use Rattle.std.proofs.Common.{arith, cond}
use Rattle.std.proofs.Common.{sum_by}
use Rattle.std.proofs.lemmas.List.Recursion.{is_count_by}
use Rattle.std.proofs.lemmas.List.Sums.{sum_by-cons}
use Rattle.std.proofs.lemmas.Option.{none-some, same_Some}
use Rattle.pc_types.specs.declared.module_record.ModuleRecord.{ModuleRecord}
use Rattle.pc_types.specs.declared.parsed.TypeTable.{TypeTable}
use Rattle.pc_types.specs.declared.parsed.ValType.{ValType}
use Rattle.pc_types.specs.declared.parsed.ValType.TheVariants as val
use Rattle.pc_types_lists.specs.Adds.{most_types}
use Rattle.pc_parsed.specs.declared.payload.ExternName.{ExternName}
use Rattle.pc_parsed.specs.declared.payload.ItemKind.{ItemKind}
use Rattle.pc_parsed.specs.declared.payload.ItemKind.TheVariants as kind
use Rattle.pc_spec_reading.specs.Canonical.{canonical_item}
use Rattle.pc_spec_reading.specs.Item
use Rattle.pc_spec_reading.specs.Item.{ExportOf, Items, and_item, exports_in}
use Rattle.pc_spec_reading.specs.Section.{argument_of, named_item}
use Rattle.pc_spec_reading.specs.Total.{argument_weight, body_weight, export_weight, index_weight, item_weight}
use Rattle.pc_spec_reading.specs.Total.{operand_weight, prepared_weight, value_weight}
use Rattle.pc_local.specs.declared.item.LocalInitializer.{LocalInitializer}
use Rattle.pc_local.specs.declared.item.LocalInitializer.TheVariants as local
use Rattle.pc_local.specs.declared.item.Translation.{Translation}
use Rattle.pc_local.specs.Plain.{if_builtin, if_error_context, if_waitable, plain_item}
use Rattle.pc_local.specs.Standing.{ItemStands, ItemsStand, Names, stand_more, stand_none, stands_component}
use Rattle.pc_local.specs.Standing.{stands_module, stands_nested, stands_plain}
use Rattle.pc_inline_state.specs.Adds.{is_type_kind, most_added, most_builtin, most_converted, most_lowered}
use Rattle.pc_inline_state.specs.Adds.{most_of_items, most_operand, most_prepared, most_prepared_of, most_returned}
use Rattle.pc_inline_state.specs.Adds.{types_among}
use Rattle.pc_inline_stack.specs.Stacks.{type_count, types_exported}

counted_more : (k : ItemKind) (n : ℕ) → type_count k + n ≡ cond (is_type_kind k) (1 + n) n
counted_more kind.Type_ n = refl
counted_more kind.Func n = omega arith
counted_more kind.Module n = omega arith
counted_more kind.Instance n = omega arith
counted_more kind.Component n = omega arith
counted_more kind.Value n = omega arith

module _ {N : Type 0} where
  -- how many of these are types, item by item
  abbrev counted_types : List (N × ItemKind × ℕ) → ℕ
  counted_types [] = 0
  counted_types (x ∷ xs) = type_count x.1 + counted_types xs

  -- is how many are types
  types_counted : (xs : List (N × ItemKind × ℕ)) → counted_types xs ≡ types_among xs
  types_counted xs =
      is_count_by counted_types (λ (x : N × ItemKind × ℕ). is_type_kind x.1) refl
      (λ x ys. counted_more x.1 (counted_types ys)) xs

-- the same of exports as the reading has them
pub types_named : (xs : List (ExternName × ItemKind × ℕ)) → types_among xs ≡ types_exported (map named_item xs)
types_named xs = sym (types_counted xs) ∙ by xs
  where
    by : (xs : List (ExternName × ItemKind × ℕ)) → counted_types xs ≡ types_exported (map named_item xs)
    by [] = refl
    by (x ∷ xs) = let rest = by xs in λ i. type_count x.1 + rest i

module _ (t : TypeTable) (ms : List ModuleRecord) where
  -- what a conversion adds at the most
  abbrev one : ℕ
  one = 1 + most_types t

  -- a type number weighs no less than its conversion adds
  kind_weighs : (k : ItemKind) (n w : ℕ) → n * one ≤ w → (type_count k + n) * one ≤ 1 + index_weight t ms k + w
  kind_weighs kind.Type_ n w le = omega (arith, le)
  kind_weighs kind.Func n w le = omega (arith, le)
  kind_weighs kind.Module n w le = omega (arith, le)
  kind_weighs kind.Instance n w le = omega (arith, le)
  kind_weighs kind.Component n w le = omega (arith, le)
  kind_weighs kind.Value n w le = omega (arith, le)

  -- the types among arguments add no more than the arguments weigh
  arguments_weigh : (xs : List (List ℕ × ItemKind × ℕ))
      → types_among xs * one ≤ sum_by (argument_weight t ms) (map argument_of xs)
  arguments_weigh xs = subst (λ n. n * one ≤ sum_by (argument_weight t ms) (map argument_of xs)) (types_counted xs)
      (by xs)
    where
      by : (xs : List (List ℕ × ItemKind × ℕ))
          → counted_types xs * one ≤ sum_by (argument_weight t ms) (map argument_of xs)
      by [] = omega arith
      by (x ∷ xs) =
          let sum = sum_by-cons (argument_weight t ms) (argument_of x) (map argument_of xs) in
          let first = kind_weighs x.1 (counted_types xs) (sum_by (argument_weight t ms) (map argument_of xs)) (by xs) in
          omega (arith, sum, first)

  -- the same of exports
  exports_weigh : (xs : List (ExternName × ItemKind × ℕ))
      → types_among xs * one ≤ sum_by (export_weight t ms) (map named_item xs)
  exports_weigh xs = subst (λ n. n * one ≤ sum_by (export_weight t ms) (map named_item xs)) (types_counted xs) (by xs)
    where
      by : (xs : List (ExternName × ItemKind × ℕ))
          → counted_types xs * one ≤ sum_by (export_weight t ms) (map named_item xs)
      by [] = omega arith
      by (x ∷ xs) =
          let sum = sum_by-cons (export_weight t ms) (named_item x) (map named_item xs) in
          let first = kind_weighs x.1 (counted_types xs) (sum_by (export_weight t ms) (map named_item xs)) (by xs) in
          omega (arith, sum, first)

  -- what exports add at the most when their component instance ends, and four entries for each
  abbrev Exporting : Items → ℕ
  Exporting is = types_exported (exports_in is) * one + 4 * length (exports_in is)

  -- what an item adds at the most, and what its export does, weigh no more than the item
  abbrev Weighs : LocalInitializer → Item.Item → Items → Type 0
  Weighs l i is = most_added t l + Exporting (and_item i is) ≤ item_weight t ms i + Exporting is

  -- an export that adds no more than four entries where it is read
  export_weighs : (e : ExportOf) (is : Items) → 4 + Exporting (and_item (Item.export_item e) is)
      ≤ item_weight t ms (Item.export_item e) + Exporting is
  unfolding item_weight
  export_weighs e is = by e.kind
    where
      by : (k : ItemKind) → 4 + ((type_count k + types_exported (exports_in is)) * one + 4 * suc
          (length (exports_in is)))
          ≤ (8 + index_weight t ms k) + Exporting is
      by kind.Type_ = omega arith
      by kind.Func = omega arith
      by kind.Module = omega arith
      by kind.Instance = omega arith
      by kind.Component = omega arith
      by kind.Value = omega arith

  -- any item that adds no more than four entries
  four_weigh : (i : Item.Item) (is : Items) → 4 + Exporting (and_item i is) ≤ item_weight t ms i + Exporting is
  unfolding item_weight
  four_weigh (Item.export_item e) is = export_weighs e is
  four_weigh i is = omega arith

  -- an operand adds no more than it weighs
  operand_weighs : (o : Item.Operand) → most_operand t o ≤ operand_weight t ms o
  operand_weighs (Item.a_resource n) = omega arith
  operand_weighs (Item.a_stream n) = omega arith
  operand_weighs (Item.a_future n) = omega arith
  operand_weighs (Item.a_flag is_async) = omega arith
  operand_weighs (Item.the_options opts) = omega arith

  operands_weigh : (os : List Item.Operand) → sum_by (most_operand t) os ≤ sum_by (operand_weight t ms) os
  operands_weigh [] = omega arith
  operands_weigh (o ∷ os) =
      let most = sum_by-cons (most_operand t) o os in
      let weight = sum_by-cons (operand_weight t ms) o os in
      let first = operand_weighs o in
      let rest = operands_weigh os in
      omega (arith, most, weight, first, rest)

  -- so it is of a builtin
  builtin_weighs : (o : Option Item.Item) (i : Item.Item) (is : Items) → if_builtin o ≡ Some i
      → most_builtin t o + Exporting (and_item i is) ≤ item_weight t ms i + Exporting is
  unfolding item_weight
  builtin_weighs (Some (Item.builtin_item k s operands)) i is same =
      let all = operands_weigh operands in
      subst (λ j. 6 + sum_by (most_operand t) operands + Exporting (and_item j is)
      ≤ item_weight t ms j + Exporting is) (same_Some (Item.builtin_item k s operands) i same) (omega (arith, all))
  builtin_weighs o i is same = absurd (none-some i same)

  waitable_weighs : (o : Option Item.Item) (i : Item.Item) (is : Items) → if_waitable o ≡ Some i
      → most_builtin t o + Exporting (and_item i is) ≤ item_weight t ms i + Exporting is
  unfolding item_weight
  waitable_weighs (Some (Item.waitable_item k s memory)) i is same =
      subst (λ j. 6 + Exporting (and_item j is) ≤ item_weight t ms j + Exporting is)
      (same_Some (Item.waitable_item k s memory) i same) (omega arith)
  waitable_weighs o i is same = absurd (none-some i same)

  error_context_weighs : (o : Option Item.Item) (i : Item.Item) (is : Items) → if_error_context o ≡ Some i
      → most_builtin t o + Exporting (and_item i is) ≤ item_weight t ms i + Exporting is
  unfolding item_weight
  error_context_weighs (Some (Item.error_context_item k s opts)) i is same =
      subst (λ j. 6 + Exporting (and_item j is) ≤ item_weight t ms j + Exporting is)
      (same_Some (Item.error_context_item k s opts) i same) (omega arith)
  error_context_weighs o i is same = absurd (none-some i same)

  -- a result of a task adds no more than it weighs, and six entries
  result_weighs : (v : Option ValType) → most_returned t v ≤ 6 + value_weight t ms v
  result_weighs None = omega arith
  result_weighs (Some (val.Prim p)) = omega arith
  result_weighs (Some (val.Type_ n)) = omega arith

  plain_weighs : (l : LocalInitializer) (i : Item.Item) (is : Items) → plain_item l ≡ Some i → Weighs l i is
  unfolding plain_item item_weight
  plain_weighs (local.Lift func ty core opts) i is same =
      let it : Item.lift_item func ty core opts ≡ i = cc in
      subst (λ j. most_converted t 1 + Exporting (and_item j is) ≤ item_weight t ms j + Exporting is) it (omega arith)
  plain_weighs (local.Lower func ty core opts) i is same =
      let it : Item.lower_item func ty core opts ≡ i = cc in
      subst (λ j. most_lowered t + Exporting (and_item j is) ≤ item_weight t ms j + Exporting is) it (omega arith)
  plain_weighs (local.Builtin c) i is same = builtin_weighs (canonical_item c) i is same
  plain_weighs (local.WaitableSet c) i is same = waitable_weighs (canonical_item c) i is same
  plain_weighs (local.ErrorContext c) i is same = error_context_weighs (canonical_item c) i is same
  plain_weighs (local.TaskReturn signature result_ opts) i is same =
      let it : Item.task_return_item signature result_ opts ≡ i = cc in
      let one = result_weighs result_ in
      subst (λ j. most_returned t result_ + Exporting (and_item j is) ≤ item_weight t ms j + Exporting is) it
      (omega (arith, one))
  plain_weighs (local.ModuleStatic index ty) i is same =
      let it : Item.module_item index.0 ty ≡ i = cc in
      subst (λ j. most_converted t 1 + Exporting (and_item j is) ≤ item_weight t ms j + Exporting is) it (omega arith)
  plain_weighs (local.ComponentSynthetic exports ty) i is same =
      let it : Item.component_exports_item (map named_item exports) ty ≡ i = cc in
      let all = exports_weigh exports in
      subst (λ j. most_converted t (1 + types_among exports) + Exporting (and_item j is)
      ≤ item_weight t ms j + Exporting is) it (omega (arith, all))
  plain_weighs (local.ComponentInstantiate component args ty) i is same =
      let it : Item.instantiate_component_item component (map argument_of args) ty ≡ i = cc in
      let all = arguments_weigh args in
      subst (λ j. most_converted t (1 + types_among args) + Exporting (and_item j is)
      ≤ item_weight t ms j + Exporting is) it (omega (arith, all))
  plain_weighs l i is same = four_weigh i is

  -- what is prepared of an item and the rest weighs no less than the rest
  rest_weight : (i : Item.Item) (is : Items) → prepared_weight t ms is ≤ prepared_weight t ms (and_item i is)
  unfolding prepared_weight
  rest_weight (Item.import_item name e) is = omega arith
  rest_weight i is = omega arith

  -- an item that stands for an import weighs so much more
  plain_prepared : (l : LocalInitializer) (i : Item.Item) (is : Items) → plain_item l ≡ Some i
      → most_prepared t l + prepared_weight t ms is ≤ prepared_weight t ms (and_item i is)
  unfolding plain_item prepared_weight item_weight
  plain_prepared (local.Import name ty) i is same =
      let it : Item.import_item name ty ≡ i = cc in
      subst (λ j. most_converted t 1 + prepared_weight t ms is ≤ prepared_weight t ms (and_item j is)) it (omega arith)
  plain_prepared l i is same = let rest = rest_weight i is in omega (arith, rest)

  module _ (bodies : List Translation) where
    -- so it is of any item that a local item stands for
    most_weighs : (names : Names) (l : LocalInitializer) (i : Item.Item) (is : Items) → ItemStands bodies names l i
        → Weighs l i is
    most_weighs names l i is (stands_plain same) = plain_weighs l i is same
    most_weighs names l i is (stands_module reads) = four_weigh i is
    most_weighs names l i is (stands_component reads) = four_weigh i is
    most_weighs names l i is (stands_nested at items exports given) = four_weigh i is

    -- what the items of a body add at the most, what its exports do, and four entries for each export, weigh no more
    -- than the body
    pub most_of_body : (names : Names) (ls : List LocalInitializer) (is : Items) → ItemsStand bodies names ls is
        → most_of_items t ls + types_exported (exports_in is) * (1 + most_types t) + 4 * length (exports_in is)
        ≤ body_weight t ms is
    unfolding body_weight
    most_of_body names ls is stand_none = omega arith
    most_of_body names ls is (stand_more {l = l} {ls = ks} {i = i} {is = js} first rest) =
        let sum = sum_by-cons (most_added t) l ks in
        let one = most_weighs names l i js first in
        let more = most_of_body names ks js rest in
        omega (arith, sum, one, more)

    first_prepared : (names : Names) (l : LocalInitializer) (i : Item.Item) (is : Items) → ItemStands bodies names l i
        → most_prepared t l + prepared_weight t ms is ≤ prepared_weight t ms (and_item i is)
    first_prepared names l i is (stands_plain same) = plain_prepared l i is same
    first_prepared names l i is (stands_module reads) = let rest = rest_weight i is in omega (arith, rest)
    first_prepared names l i is (stands_component reads) = let rest = rest_weight i is in omega (arith, rest)
    first_prepared names l i is (stands_nested at items exports given) =
        let rest = rest_weight i is in omega (arith, rest)

    -- what the preparation of the imports adds at the most weighs no more than what is prepared
    pub most_of_prepared : (names : Names) (ls : List LocalInitializer) (is : Items) → ItemsStand bodies names ls is
        → most_prepared_of t ls ≤ prepared_weight t ms is
    unfolding prepared_weight
    most_of_prepared names ls is stand_none = omega arith
    most_of_prepared names ls is (stand_more {l = l} {ls = ks} {i = i} {is = js} first rest) =
        let sum = sum_by-cons (most_prepared t) l ks in
        let one = first_prepared names l i js first in
        let more = most_of_prepared names ks js rest in
        omega (arith, sum, one, more)
