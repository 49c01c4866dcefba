-- Items that grow at their end.
use Rattle.std.proofs.Common.{◌≡◌, List, [], ◌∷◌, ◌++◌, Option, Some, None, refl, ap}
use Rattle.json.specs.Token.{Token}
use Rattle.json.specs.Json.{parse_map}
use Rattle.serde_json.specs.Data.{Data, Items, no_items, item}
use Rattle.pc_input_tokens.specs.Shape.{elements}

-- the items of a list, and others after them
abbrev pub items_before : List Data → Items → Items
items_before [] rest = rest
items_before (d ∷ ds) rest = item d (items_before ds rest)

-- with none after them they are the list
pub elements-items_before : (ds : List Data) → elements (items_before ds no_items) ≡ ds
elements-items_before [] = refl
elements-items_before (d ∷ ds) = ap (λ rest. d ∷ rest) (elements-items_before ds)

items_push : (ds : List Data) (d : Data) (rest : Items)
    → items_before ds (item d rest) ≡ items_before (ds ++ d ∷ []) rest
items_push [] d rest = refl
items_push (e ∷ ds) d rest = ap (item e) (items_push ds d rest)

-- one more item goes to the end of the list
pub one_more_item : (ds : List Data) (d : Data) (r : Option (Items × List Token))
    → parse_map (items_before ds) (parse_map (item d) r) ≡ parse_map (items_before (ds ++ d ∷ [])) r
one_more_item ds d None = refl
one_more_item ds d (Some p) = ap (λ is. Some (is, p.1)) (items_push ds d p.0)

-- before the first turn the list is empty
pub none_before : (r : Option (Items × List Token)) → r ≡ parse_map (items_before []) r
none_before None = refl
none_before (Some p) = refl
