-- What a whole text is, from its first value and what follows.
use Rattle.std.proofs.Common.{◌≡◌, List, [], ◌∷◌, Option, Some, None, option_map, option_and_then, refl, ap, ◌∙◌}
use Rattle.json.specs.Token.{Token}
use Rattle.json.specs.Json as json
use Rattle.json.specs.Json.{if_last}
use Rattle.serde_json.specs.Data.{Data}
use Rattle.serde_json.specs.Read.{of_json, converted}
use Rattle.pc_input_tokens.proofs.Turns.{before_conversion}

-- the data of a value after which no token comes
abbrev pub whole : Option (json.Json × List Token) → Option Data
whole o = option_and_then of_json (option_and_then (λ p. if_last p.0 p.1) o)

-- nothing follows the value
pub whole_read : (o : Option (json.Json × List Token)) (d : Data) → converted of_json o ≡ Some (d, []) → whole o
    ≡ Some d
whole_read o d e = let j = before_conversion of_json o d [] e in ap whole j.1 ∙ j.2

-- something follows it
pub whole_and_more : (o : Option (json.Json × List Token)) (d : Data) (t : Token) (r : List Token)
    → converted of_json o ≡ Some (d, t ∷ r) → whole o ≡ None
whole_and_more o d t r e = ap whole (before_conversion of_json o d (t ∷ r) e).1

-- there is no value
pub whole_refused : (o : Option (json.Json × List Token)) → converted of_json o ≡ None → whole o ≡ None
whole_refused None e = refl
whole_refused (Some (j, t ∷ r)) e = refl
whole_refused (Some (j, [])) e = by (of_json j) e
  where
    by : (x : Option Data) → option_map {U = Data × List Token} (λ y. (y, [])) x ≡ None → x ≡ None
    by None h = refl
    by (Some d) h = absurd (cc)
