-- The data of an array and of an object, from what follows the bracket or the brace.
use Rattle.std.proofs.Common.{◌≡◌, ℕ, ◌-◌, ◌<◌, List, ◌∷◌, length, Option, Some, None, option_map, refl, ap, ◌∙◌}
use Rattle.json.specs.Token.{Token}
use Rattle.json.specs.Json as json
use Rattle.json.specs.Json.{parse_map, value}
use Rattle.json.proofs.Grammar.{value-begin_array, value-begin_object}
use Rattle.serde_json.specs.Data.{Data, array, object, Items, Members, no_members}
use Rattle.serde_json.specs.Read.{of_json, of_items, of_members, converted}
use Rattle.pc_input_tokens.specs.Takes.{data_at, items_at, members_at}

array_of : (o : Option (json.Items × List Token))
    → converted of_json (parse_map json.array o) ≡ parse_map array (converted of_items o)
array_of None = refl
array_of (Some (js, r)) = by (of_items js)
  where
    by : (x : Option Items) → option_map {U = Data × List Token} (λ y. (y, r)) (option_map array x)
        ≡ parse_map array (option_map (λ y. (y, r)) x)
    by None = refl
    by (Some is) = refl

-- behind a bracket stand the items of the array
pub data_at-array : (depth : ℕ) (ts : List Token) → 0 < depth
    → data_at depth (Token.begin_array ∷ ts) ≡ parse_map array (items_at (depth - 1) ts)
data_at-array depth ts h =
    ap (converted of_json) (value-begin_array depth ts h) ∙ array_of (json.items (value (depth - 1)) (length ts) ts)

object_of : (o : Option (json.Members × List Token))
    → converted of_json (parse_map json.object o) ≡ parse_map object (converted (λ ms. of_members ms no_members) o)
object_of None = refl
object_of (Some (js, r)) = by (of_members js no_members)
  where
    by : (x : Option Members) → option_map {U = Data × List Token} (λ y. (y, r)) (option_map object x)
        ≡ parse_map object (option_map (λ y. (y, r)) x)
    by None = refl
    by (Some ms) = refl

-- behind a brace stand the members of the object
pub data_at-object : (depth : ℕ) (ts : List Token) → 0 < depth
    → data_at depth (Token.begin_object ∷ ts) ≡ parse_map object (members_at (depth - 1) ts)
data_at-object depth ts h =
    ap (converted of_json) (value-begin_object depth ts h) ∙ object_of (json.members (value (depth - 1)) (length ts) ts)
