-- From a payload list to the body of the root: a body is `Version` of a component, items, and `End`, where a nested
-- body follows each `ComponentSection`; nothing follows the root. The list is taken from its end.
use Rattle.std.specs.Prelude.{ℕ, suc, zero, Bool, true, List, [], ◌∷◌, Option, Some, None, ◌&&◌, nat_le, if◌then◌else◌}
use Rattle.std.specs.Str.{bytes_eq}
use Rattle.pc_types.specs.Table.{is_some_and}
use Rattle.pc_parsed.specs.declared.payload.Encoding.{Encoding}
use Rattle.pc_parsed.specs.declared.payload.Encoding.TheVariants as encoding
use Rattle.pc_parsed.specs.declared.payload.ExternName.{ExternName}
use Rattle.pc_parsed.specs.declared.payload.Payload.{Payload}
use Rattle.pc_parsed.specs.declared.payload.Payload.TheVariants as payload
use Rattle.pc_spec_reading.specs.Item
use Rattle.pc_spec_reading.specs.Section.{items_of, modules_after}

-- what payloads up to the end of a list hold
pub data Rest : Type 0 where
  -- nothing: the end of the list
  at_end : Rest
  -- the rest of a body, and then the rests of the bodies around it, from the innermost out
  within : Item.Items → List Item.Items → Rest
  -- a whole body from its `Version` on, and then the rests of the bodies around it
  opening : Item.Items → List Item.Items → Rest
  -- no such thing
  broken : Rest

-- `End` ends a body, which may be the root
abbrev pub after_end : Rest → Rest
after_end at_end = within Item.no_items []
after_end (within is outer) = within Item.no_items (is ∷ outer)
after_end _ = broken

-- `Version` of a component begins a body
abbrev pub after_version : Encoding → Rest → Rest
after_version encoding.Component (within is outer) = opening is outer
after_version _ _ = broken

-- a nested body is one item of the body around it, at its place
abbrev pub nested_in : Item.Items → List Item.Items → Rest
nested_in body [] = broken
nested_in body (is ∷ outer) = within (Item.and_item (Item.component_item body) is) outer

-- what follows is the nested body, and then the rest of the body around it
abbrev pub after_component : Rest → Rest
after_component (opening body outer) = nested_in body outer
after_component _ = broken

-- other payloads put their items in front
abbrev pub after_items : List Item.Item → Rest → Rest
after_items items (within is outer) = within (Item.before items is) outer
after_items items _ = broken

-- a payload in front of what follows
abbrev pub after_payload : (m : ℕ) → Payload → Rest → Rest
after_payload m payload.End r = after_end r
after_payload m (payload.Version e) r = after_version e r
after_payload m payload.ComponentSection r = after_component r
after_payload m p r = after_items (items_of m p) r

-- what payloads hold, where `m` core modules came before them
unfoldable pub rest_of : (m : ℕ) → List Payload → Rest
rest_of m [] = at_end
rest_of m (p ∷ ps) = after_payload m p (rest_of (modules_after m p) ps)

-- a list holds one body, and no more
abbrev pub whole : Rest → Option Item.Items
whole (opening body []) = Some body
whole _ = None

-- each outer alias of a module or a component counts no further than to the root, in a body inside so many others
unfoldable mutual
  -- in the items of a body
  pub counts_in : (depth : ℕ) → Item.Items → Bool
  counts_in depth Item.no_items = true
  counts_in depth (Item.and_item i is) = counts_of depth i && counts_in depth is

  -- in an item, where a nested body is one further in
  pub counts_of : (depth : ℕ) → Item.Item → Bool
  counts_of depth (Item.component_item body) = counts_in (suc depth) body
  counts_of depth (Item.outer_item lent count n) = nat_le count depth
  counts_of depth _ = true

-- whether an import is that of the unsafe intrinsics: the one of the exposed name
abbrev pub is_exposed : (exposed : Option (List ℕ)) → ExternName → Bool
is_exposed exposed name = is_some_and (bytes_eq name.name) exposed

-- in the root, the import of the exposed name is that of the unsafe intrinsics
unfoldable pub exposing : (exposed : Option (List ℕ)) → Item.Items → Item.Items
exposing exposed Item.no_items = Item.no_items
exposing exposed (Item.and_item (Item.import_item name e) is) =
    Item.and_item (if is_exposed exposed name then Item.intrinsics_import else Item.import_item name e)
    (exposing exposed is)
exposing exposed (Item.and_item i is) = Item.and_item i (exposing exposed is)

-- the body of the root, or nothing where a list doesn't nest
abbrev pub nested : Option Item.Items → (exposed : Option (List ℕ)) → Option Item.Items
nested None exposed = None
nested (Some body) exposed = if counts_in zero body then Some (exposing exposed body) else None

-- the body of the root of a payload list
unfoldable pub root_of : (exposed : Option (List ℕ)) → List Payload → Option Item.Items
root_of exposed ps = nested (whole (rest_of 0 ps)) exposed
