-- A body of a program weighs as much as the body of the reading that it stands for.
use Rattle.std.proofs.Common.{◌≡◌, ℕ, ◌+◌, List, [], ◌∷◌, map, Option, Some, refl, sym, ap, subst, ◌∙◌, arith}
use Rattle.std.specs.List.{AllZip}
use Rattle.std.proofs.lemmas.List.Sums.{sum_by-cons}
use Rattle.pc_types.specs.declared.module_record.ModuleRecord.{ModuleRecord}
use Rattle.pc_types.specs.declared.parsed.TypeTable.{TypeTable}
use Rattle.pc_spec_reading.specs.Item
use Rattle.pc_spec_reading.specs.Item.{Items, and_item}
use Rattle.pc_spec_reading.specs.Total.{body_weight, item_weight, prepared_weight}
use Rattle.pc_local.specs.declared.item.LocalInitializer.{LocalInitializer}
use Rattle.pc_local.specs.declared.item.Translation.{Translation}
use Rattle.pc_local.specs.Plain.{plain_item}
use Rattle.pc_local.specs.Standing
use Rattle.pc_weights.specs.Capped.{capped}
use Rattle.pc_weights.specs.Local.{added_if, body_sum, local_weight, prepared_if, prepared_local, prepared_sum}
use Rattle.pc_weights.specs.Local.{translation_weight}
use Rattle.pc_weights.specs.Weighs.{HasRootWeight, HasWeight}

-- nothing in front of a number
nothing_more : (n : ℕ) → 0 + n ≡ n
nothing_more n = omega arith

module _ (t : TypeTable) (ms : List ModuleRecord) where
  -- what an item in front of a body weighs where it is prepared
  prepared_in_front : (i : Item.Item) (is : Items)
      → prepared_if t ms (Some i) + prepared_weight t ms is ≡ prepared_weight t ms (and_item i is)
  unfolding item_weight prepared_weight
  prepared_in_front (Item.import_item a b) is = refl
  prepared_in_front Item.intrinsics_import is = nothing_more (prepared_weight t ms is)
  prepared_in_front (Item.resource_item a b c) is = nothing_more (prepared_weight t ms is)
  prepared_in_front (Item.lift_item a b c d) is = nothing_more (prepared_weight t ms is)
  prepared_in_front (Item.lower_item a b c d) is = nothing_more (prepared_weight t ms is)
  prepared_in_front (Item.builtin_item a b c) is = nothing_more (prepared_weight t ms is)
  prepared_in_front (Item.waitable_item a b c) is = nothing_more (prepared_weight t ms is)
  prepared_in_front (Item.task_return_item a b c) is = nothing_more (prepared_weight t ms is)
  prepared_in_front (Item.error_context_item a b c) is = nothing_more (prepared_weight t ms is)
  prepared_in_front (Item.context_item a b c) is = nothing_more (prepared_weight t ms is)
  prepared_in_front (Item.new_thread_item a b c) is = nothing_more (prepared_weight t ms is)
  prepared_in_front (Item.module_item a b) is = nothing_more (prepared_weight t ms is)
  prepared_in_front (Item.instantiate_module_item a b) is = nothing_more (prepared_weight t ms is)
  prepared_in_front (Item.core_exports_item a) is = nothing_more (prepared_weight t ms is)
  prepared_in_front (Item.component_item a) is = nothing_more (prepared_weight t ms is)
  prepared_in_front (Item.instantiate_component_item a b c) is = nothing_more (prepared_weight t ms is)
  prepared_in_front (Item.component_exports_item a b) is = nothing_more (prepared_weight t ms is)
  prepared_in_front (Item.core_alias_item a b c) is = nothing_more (prepared_weight t ms is)
  prepared_in_front (Item.alias_item a b c) is = nothing_more (prepared_weight t ms is)
  prepared_in_front (Item.outer_item a b c) is = nothing_more (prepared_weight t ms is)
  prepared_in_front (Item.export_item a) is = nothing_more (prepared_weight t ms is)

  -- a local item weighs as much as the item that it stands for
  item_weighs : {bodies : List Translation} {names : Standing.Names} {l : LocalInitializer} {i : Item.Item}
      → Standing.ItemStands bodies names l i → local_weight t ms l ≡ item_weight t ms i
  unfolding item_weight plain_item
  item_weighs (Standing.stands_plain is) = ap (λ (o : Option Item.Item). 8 + added_if t ms o) is
  item_weighs (Standing.stands_module r) = refl
  item_weighs (Standing.stands_component r) = refl
  item_weighs (Standing.stands_nested at items exports g) = refl

  -- and likewise where they are prepared
  item_prepared : {bodies : List Translation} {names : Standing.Names} {l : LocalInitializer} {i : Item.Item}
      → Standing.ItemStands bodies names l i → prepared_local t ms l ≡ prepared_if t ms (Some i)
  unfolding plain_item
  item_prepared (Standing.stands_plain is) = ap (prepared_if t ms) is
  item_prepared (Standing.stands_module r) = refl
  item_prepared (Standing.stands_component r) = refl
  item_prepared (Standing.stands_nested at items exports g) = refl

  -- the items of a body
  items_weigh : {bodies : List Translation} {names : Standing.Names} {ls : List LocalInitializer} {is : Items}
      → Standing.ItemsStand bodies names ls is → body_sum t ms ls ≡ body_weight t ms is
  unfolding body_weight
  items_weigh Standing.stand_none = refl
  items_weigh (Standing.stand_more {l = l} {ls = ls} i is) =
      sum_by-cons (local_weight t ms) l ls ∙ (λ j. item_weighs i j + items_weigh is j)

  -- their preparation
  items_prepared : {bodies : List Translation} {names : Standing.Names} {ls : List LocalInitializer} {is : Items}
      → Standing.ItemsStand bodies names ls is → prepared_sum t ms ls ≡ prepared_weight t ms is
  unfolding prepared_weight
  items_prepared Standing.stand_none = refl
  items_prepared (Standing.stand_more {l = l} {ls = ls} {i = i} {is = is} one more) =
      sum_by-cons (prepared_local t ms) l ls ∙ (λ j. item_prepared one j + items_prepared more j)
      ∙ prepared_in_front i is

  -- the weight of a body of a program
  pub body_weighs : (tr : Translation) (n : ℕ) → n ≡ translation_weight t ms tr → HasWeight t ms tr n
  body_weighs tr n is bodies names body stands = is ∙ ap capped (items_weigh stands)

  -- that of its root
  pub root_weighs : (tr : Translation) (n : ℕ)
      → n ≡ capped (body_sum t ms tr.initializers + prepared_sum t ms tr.initializers) → HasRootWeight t ms tr n
  root_weighs tr n is bodies names body stands =
      is ∙ (λ j. capped (items_weigh stands j + items_prepared stands j))

  -- the weights of all bodies
  all_weigh : (trs : List Translation) → AllZip (HasWeight t ms) trs (map (translation_weight t ms) trs)
  all_weigh [] = tt
  all_weigh (tr ∷ trs) = (body_weighs tr (translation_weight t ms tr) refl, all_weigh trs)

  -- whatever list has them
  pub bodies_weigh : (trs : List Translation) (ns : List ℕ) → ns ≡ map (translation_weight t ms) trs
      → AllZip (HasWeight t ms) trs ns
  bodies_weigh trs ns are = subst (λ (xs : List ℕ). AllZip (HasWeight t ms) trs xs) (sym are) (all_weigh trs)
