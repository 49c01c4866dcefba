-- The body of the root of a chain, and its core modules.
use Rattle.std.proofs.Common.{◌≡◌, ◌+◌, ℕ, zero, suc, true, List, [], ◌∷◌, Some, None, refl, ap}
use Rattle.std.proofs.Common.{◌∙◌}
use Rattle.std.specs.Prelude.{if◌then◌else◌, codes}
use Rattle.std.specs.List.{filter_map}
use Rattle.pc_numbers.specs.declared.entity_index.EntityIndex.TheVariants as index
use Rattle.pc_types.specs.declared.module_record.ModuleRecord.{ModuleRecord}
use Rattle.pc_types.specs.declared.parsed.CoreKind.TheVariants as core
use Rattle.pc_types.specs.declared.parsed.Entity.TheVariants as entity
use Rattle.pc_parsed.specs.declared.payload.ItemKind.TheVariants as item
use Rattle.pc_parsed.specs.declared.payload.Payload.{Payload}
use Rattle.pc_spec_reading.specs.Canonical.{canonical_item}
use Rattle.pc_spec_reading.specs.Item
use Rattle.pc_spec_reading.specs.Item.{Items, and_item, no_items}
use Rattle.pc_spec_reading.specs.Nest.{Rest, after_payload, counts_in, exposing, nested, rest_of, root_of, whole}
use Rattle.pc_spec_reading.specs.Nest.{within}
use Rattle.pc_spec_reading.specs.Section.{items_of, module_of, modules_after, modules_of}
use Rattle.pc_generate.specs.Bodies.{aliasing, extern_name, instance_with, module_record, taken}
use Rattle.pc_generate.specs.Generated.{front, payloads}
use Rattle.pc_generate.specs.Table.{f}
use Rattle.pc_generate.proofs.CountLemmas.{rest}

-- the two core modules
abbrev pub two_modules : List ModuleRecord
two_modules = module_record [] 0 ∷ module_record (taken ∷ []) 1 ∷ []

-- the items that each component ends with
abbrev pub giving_items : (number : ℕ) → Items
giving_items n =
    and_item (Item.core_alias_item core.Func n f) (and_item (Item.lift_item n 0 0 [])
    (and_item (Item.export_item (record { name = extern_name; kind = item.Func; index = n })) no_items))

-- the body of the first component
abbrev pub first_items : Items
first_items = and_item (Item.module_item 0 1) (and_item (Item.instantiate_module_item 0 []) (giving_items 0))

-- the body of the second component behind its lowered function
abbrev pub lowered_items : Items
lowered_items =
    and_item (Item.module_item 1 1)
    (and_item (Item.core_exports_item ((f, index.Function (record { 0 = 0 })) ∷ []))
    (and_item (Item.instantiate_module_item 0 ((codes "e", 0) ∷ [])) (giving_items 1)))

-- the body of the second component
abbrev pub second_items : Items
second_items =
    and_item (Item.import_item extern_name (entity.Func 0)) (and_item (Item.lower_item 0 0 0 []) lowered_items)

-- the argument of an instance of the second component
abbrev pub argument : (func : ℕ) → Item.ArgumentOf
argument k = record { name = f; kind = item.Func; index = k }

-- an instance of the second component
abbrev pub link_instance : (func : ℕ) → Item.Item
link_instance k = Item.instantiate_component_item 1 (argument k ∷ []) 2

-- the links
abbrev pub link_items : (number left : ℕ) → Items
link_items k zero = no_items
link_items k (suc left) =
    and_item (Item.alias_item item.Func k f)
    (and_item (link_instance k) (link_items (k + 1) left))

-- the body of the root
abbrev pub root_items : (n : ℕ) → Items
root_items n =
    and_item (Item.component_item first_items) (and_item (Item.component_item second_items)
    (and_item (Item.instantiate_component_item 0 [] 2) (link_items 0 n)))

-- what payloads hold in front of a rest
abbrev in_front_of : (m : ℕ) → List Payload → Rest → Rest
in_front_of m [] r = r
in_front_of m (p ∷ ps) r = after_payload m p (in_front_of (modules_after m p) ps r)

-- the links, in the root
links_nest : (k left : ℕ) → rest_of 2 (rest k left) ≡ within (link_items k left) []
unfolding rest_of items_of canonical_item
links_nest k zero = refl
links_nest k (suc left) = ap (in_front_of 2 (aliasing k ∷ instance_with k ∷ [])) (links_nest (k + 1) left)

-- no link is an outer alias
links_count : (k left : ℕ) → counts_in zero (link_items k left) ≡ true
unfolding counts_in
links_count k zero = refl
links_count k (suc left) = links_count (k + 1) left

-- no link is an import
links_exposed : (k left : ℕ) → exposing None (link_items k left) ≡ link_items k left
unfolding exposing
links_exposed k zero = refl
links_exposed k (suc left) =
    ap (λ is. and_item (Item.alias_item item.Func k f)
    (and_item (link_instance k) is)) (links_exposed (k + 1) left)

-- the root of a chain
pub root_is : (n : ℕ) → root_of None (payloads n) ≡ Some (root_items n)
unfolding payloads root_of rest_of items_of canonical_item counts_in exposing
root_is n =
    ap (λ r. nested (whole (in_front_of 0 front r)) None) (links_nest 0 n)
    ∙ ap (λ b. if b then Some (exposing None (root_items n)) else None) (links_count 0 n)
    ∙ ap (λ is. Some (and_item (Item.component_item first_items) (and_item (Item.component_item second_items)
    (and_item (Item.instantiate_component_item 0 [] 2) is)))) (links_exposed 0 n)

-- no link is a core module
links_modules : (k left : ℕ) → filter_map module_of (rest k left) ≡ []
links_modules k zero = refl
links_modules k (suc left) = links_modules (k + 1) left

-- the core modules of a chain
pub modules_are : (n : ℕ) → modules_of (payloads n) ≡ two_modules
unfolding payloads
modules_are n = ap (λ ms. module_record [] 0 ∷ module_record (taken ∷ []) 1 ∷ ms) (links_modules 0 n)
