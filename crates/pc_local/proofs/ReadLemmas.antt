-- What is read of a list, from what has been gone through and what is left.
use Rattle.std.proofs.Common.{◌≡◌, ℕ, Bool, true, false, ◌&&◌, List, [], ◌∷◌, ◌++◌, map, Option, Some, None, refl, sym}
use Rattle.std.proofs.Common.{ap, ◌∙◌, if◌then◌else◌}
use Rattle.pc_parsed.specs.declared.payload.Encoding.TheVariants as encoding
use Rattle.pc_spec_reading.specs.Item.{Item, Items, and_item, before, bodies_in, bodies_of, component_item, no_items}
use Rattle.pc_spec_reading.specs.Nest as Nest
use Rattle.pc_spec_reading.specs.Nest.{Rest, after_component, after_end, after_items, after_version, counts_in, counts_of}
use Rattle.pc_spec_reading.specs.Nest.{exposing, is_exposed}
use Rattle.pc_local.proofs.EntryLemmas.{expose}
use Rattle.pc_local.proofs.StandLemmas.{before_append}

-- where a pass through a list stands: a body is to begin, it is inside one, or the root has ended
pub data Stage : Type 0 where
  beginning : Stage
  inside_one : Stage
  ended : Stage

module _ (x : Option (List ℕ)) where
  -- the first item of a body is shown, and the others
  exposing_cons : (i : Item) (is : Items) → exposing x (and_item i is) ≡ and_item (expose x i) (exposing x is)
  unfolding exposing
  exposing_cons (Item.import_item a b) is = refl
  exposing_cons Item.intrinsics_import is = refl
  exposing_cons (Item.resource_item a b c) is = refl
  exposing_cons (Item.lift_item a b c d) is = refl
  exposing_cons (Item.lower_item a b c d) is = refl
  exposing_cons (Item.builtin_item a b c) is = refl
  exposing_cons (Item.waitable_item a b c) is = refl
  exposing_cons (Item.task_return_item a b c) is = refl
  exposing_cons (Item.error_context_item a b c) is = refl
  exposing_cons (Item.context_item a b c) is = refl
  exposing_cons (Item.new_thread_item a b c) is = refl
  exposing_cons (Item.module_item a b) is = refl
  exposing_cons (Item.instantiate_module_item a b) is = refl
  exposing_cons (Item.core_exports_item a) is = refl
  exposing_cons (Item.component_item a) is = refl
  exposing_cons (Item.instantiate_component_item a b c) is = refl
  exposing_cons (Item.component_exports_item a b) is = refl
  exposing_cons (Item.core_alias_item a b c) is = refl
  exposing_cons (Item.alias_item a b c) is = refl
  exposing_cons (Item.outer_item a b c) is = refl
  exposing_cons (Item.export_item a) is = refl

  -- a test either way
  import_counts : (depth : ℕ) (b : Bool) (i : Item) → counts_of depth i ≡ true
      → counts_of depth (if b then Item.intrinsics_import else i) ≡ true
  unfolding counts_in
  import_counts depth true i h = refl
  import_counts depth false i h = h

  -- an item counts as it did when it is shown
  counts_shown : (depth : ℕ) (i : Item) → counts_of depth (expose x i) ≡ counts_of depth i
  unfolding counts_in
  counts_shown depth (Item.import_item a b) = import_counts depth (is_exposed x a) (Item.import_item a b) refl
  counts_shown depth Item.intrinsics_import = refl
  counts_shown depth (Item.resource_item a b c) = refl
  counts_shown depth (Item.lift_item a b c d) = refl
  counts_shown depth (Item.lower_item a b c d) = refl
  counts_shown depth (Item.builtin_item a b c) = refl
  counts_shown depth (Item.waitable_item a b c) = refl
  counts_shown depth (Item.task_return_item a b c) = refl
  counts_shown depth (Item.error_context_item a b c) = refl
  counts_shown depth (Item.context_item a b c) = refl
  counts_shown depth (Item.new_thread_item a b c) = refl
  counts_shown depth (Item.module_item a b) = refl
  counts_shown depth (Item.instantiate_module_item a b) = refl
  counts_shown depth (Item.core_exports_item a) = refl
  counts_shown depth (Item.component_item a) = refl
  counts_shown depth (Item.instantiate_component_item a b c) = refl
  counts_shown depth (Item.component_exports_item a b) = refl
  counts_shown depth (Item.core_alias_item a b c) = refl
  counts_shown depth (Item.alias_item a b c) = refl
  counts_shown depth (Item.outer_item a b c) = refl
  counts_shown depth (Item.export_item a) = refl

  -- and so does a body
  pub counts_exposing : (depth : ℕ) (is : Items) → counts_in depth (exposing x is) ≡ counts_in depth is
  unfolding counts_in exposing
  counts_exposing depth no_items = refl
  counts_exposing depth (and_item i is) =
      ap (counts_in depth) (exposing_cons i is)
      ∙ (λ j. counts_shown depth i j && counts_exposing depth is j)

  -- bodies are the same inside an item as it is shown
  bodies_exposed : (i : Item) → bodies_of (expose x i) ≡ bodies_of i
  bodies_exposed (Item.import_item a b) = by (is_exposed x a)
    where
      by : (t : Bool) → bodies_of (if t then Item.intrinsics_import else Item.import_item a b) ≡ []
      by true = refl
      by false = refl
  bodies_exposed Item.intrinsics_import = refl
  bodies_exposed (Item.resource_item a b c) = refl
  bodies_exposed (Item.lift_item a b c d) = refl
  bodies_exposed (Item.lower_item a b c d) = refl
  bodies_exposed (Item.builtin_item a b c) = refl
  bodies_exposed (Item.waitable_item a b c) = refl
  bodies_exposed (Item.task_return_item a b c) = refl
  bodies_exposed (Item.error_context_item a b c) = refl
  bodies_exposed (Item.context_item a b c) = refl
  bodies_exposed (Item.new_thread_item a b c) = refl
  bodies_exposed (Item.module_item a b) = refl
  bodies_exposed (Item.instantiate_module_item a b) = refl
  bodies_exposed (Item.core_exports_item a) = refl
  bodies_exposed (Item.component_item a) = refl
  bodies_exposed (Item.instantiate_component_item a b c) = refl
  bodies_exposed (Item.component_exports_item a b) = refl
  bodies_exposed (Item.core_alias_item a b c) = refl
  bodies_exposed (Item.alias_item a b c) = refl
  bodies_exposed (Item.outer_item a b c) = refl
  bodies_exposed (Item.export_item a) = refl

  -- and inside items as they are shown
  pub bodies_shown : (is : List Item) → bodies_in (before (map (expose x) is) no_items) ≡ bodies_in (before is no_items)
  bodies_shown [] = refl
  bodies_shown (i ∷ is) = (λ j. bodies_exposed i j ++ bodies_shown is j)

  -- items in front are shown one by one
  exposing_before : (items : List Item) (is : Items)
      → exposing x (before items is) ≡ before (map (expose x) items) (exposing x is)
  exposing_before [] is = refl
  exposing_before (i ∷ items) is =
      exposing_cons i (before items is) ∙ ap (and_item (expose x i)) (exposing_before items is)

  -- items as they are shown in the innermost body: the root alone imports the unsafe intrinsics
  abbrev pub shown : (outside : List (List Item)) → List Item → List Item
  shown [] items = map (expose x) items
  shown (l ∷ ls) items = items

  -- the root, from the items so far of the open bodies and the rests of them
  abbrev pub plugged : (outside : List (List Item)) → (inside : List Item) → Items → List Items → Option Items
  plugged [] inside is [] = Some (before inside (exposing x is))
  plugged [] inside is (o ∷ os) = None
  plugged (l ∷ ls) inside is [] = None
  plugged (l ∷ ls) inside is (o ∷ os) = plugged ls l (and_item (component_item (before inside is)) o) os

  -- the root, from the items so far of the open bodies and what is left of the list
  abbrev pub seen : Stage → (outside : List (List Item)) → (inside : List Item) → Rest → Option Items
  seen beginning outside inside (Nest.opening is outer) = plugged outside inside is outer
  seen beginning outside inside r = None
  seen inside_one outside inside (Nest.within is outer) = plugged outside inside is outer
  seen inside_one outside inside r = None
  seen ended outside inside Nest.at_end = Some (before inside no_items)
  seen ended outside inside r = None

  -- items of what is left are items so far
  plugged_items : (outside : List (List Item)) (inside items : List Item) (is : Items) (outer : List Items)
      → plugged outside inside (before items is) outer ≡ plugged outside (inside ++ shown outside items) is outer
  plugged_items [] inside items is [] =
      ap Some (ap (before inside) (exposing_before items is)
      ∙ sym (before_append inside (map (expose x) items) (exposing x is)))
  plugged_items [] inside items is (o ∷ os) = refl
  plugged_items (l ∷ ls) inside items is [] = refl
  plugged_items (l ∷ ls) inside items is (o ∷ os) =
      ap (λ (b : Items). plugged ls l (and_item (component_item b) o) os) (sym (before_append inside items is))

  -- a payload with items
  pub seen_items : (outside : List (List Item)) (inside items : List Item) (r : Rest)
      → seen inside_one outside inside (after_items items r)
      ≡ seen inside_one outside (inside ++ shown outside items) r
  seen_items outside inside items Nest.at_end = refl
  seen_items outside inside items (Nest.within is outer) = plugged_items outside inside items is outer
  seen_items outside inside items (Nest.opening is outer) = refl
  seen_items outside inside items Nest.broken = refl

  -- the version of a body
  pub seen_version : (outside : List (List Item)) (inside : List Item) (r : Rest)
      → seen beginning outside inside (after_version encoding.Component r) ≡ seen inside_one outside inside r
  seen_version outside inside Nest.at_end = refl
  seen_version outside inside (Nest.within is outer) = refl
  seen_version outside inside (Nest.opening is outer) = refl
  seen_version outside inside Nest.broken = refl

  -- a nested body begins
  pub seen_begun : (outside : List (List Item)) (inside : List Item) (r : Rest)
      → seen inside_one outside inside (after_component r) ≡ seen beginning (inside ∷ outside) [] r
  seen_begun outside inside Nest.at_end = refl
  seen_begun outside inside (Nest.within is outer) = refl
  seen_begun outside inside (Nest.opening is []) = refl
  seen_begun outside inside (Nest.opening is (o ∷ outer)) = refl
  seen_begun outside inside Nest.broken = refl

  -- a nested body ends
  pub seen_ended : (l : List Item) (ls : List (List Item)) (inside : List Item) (r : Rest)
      → seen inside_one (l ∷ ls) inside (after_end r)
      ≡ seen inside_one ls (l ++ component_item (before inside no_items) ∷ []) r
  seen_ended l ls inside Nest.at_end = refl
  seen_ended l [] inside (Nest.within is outer) =
      plugged_items [] l (component_item (before inside no_items) ∷ []) is outer
  seen_ended l (k ∷ ls) inside (Nest.within is outer) =
      plugged_items (k ∷ ls) l (component_item (before inside no_items) ∷ []) is outer
  seen_ended l ls inside (Nest.opening is outer) = refl
  seen_ended l ls inside Nest.broken = refl

  -- the root ends
  pub seen_closed : (inside : List Item) (r : Rest)
      → seen inside_one [] inside (after_end r) ≡ seen ended [] inside r
  unfolding exposing
  seen_closed inside Nest.at_end = refl
  seen_closed inside (Nest.within is outer) = refl
  seen_closed inside (Nest.opening is outer) = refl
  seen_closed inside Nest.broken = refl
