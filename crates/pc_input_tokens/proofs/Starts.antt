-- What is next, by its first token.
use Rattle.std.proofs.Common.{◌≡◌, ℕ, List, [], ◌∷◌, Option, Some, None, option_map, is_some, if◌then◌else◌, refl, ap}
use Rattle.std.proofs.Common.{◌∙◌}
use Rattle.json.specs.Token.{Token}
use Rattle.json.proofs.Grammar.{value_is}
use Rattle.serde_json.specs.Data.{Num, Data, null, boolean, number, string}
use Rattle.serde_json.specs.Read.{number_of, of_json, converted}
use Rattle.pc_input_tokens.specs.Takes.{start_of, Starts}
use Rattle.pc_input_tokens.specs.declared.start.Start.TheVariants.{Scalar}

-- no value is next where no token is
pub starts_at_end : Starts [] None []
starts_at_end = λ depth. ap (converted of_json) (value_is depth [])

number_starts : (s : List ℕ) (ts : List Token) (o : Option Num) → number_of s ≡ o
    → Starts (Token.number s ∷ ts) (if is_some o then Some Scalar else None) ts
number_starts s ts None e =
    λ depth. ap (converted of_json) (value_is depth (Token.number s ∷ ts))
    ∙ ap (λ o. option_map {U = Data × List Token} (λ d. (d, ts)) (option_map number o)) e
number_starts s ts (Some n) e = (
  number n,
  (refl, refl),
  λ depth. ap (converted of_json) (value_is depth (Token.number s ∷ ts))
      ∙ ap (λ o. option_map {U = Data × List Token} (λ d. (d, ts)) (option_map number o)) e,
)

-- what is next after the first token was taken
pub starts : (t : Token) (ts : List Token) → Starts (t ∷ ts) (start_of t) ts
starts Token.begin_object ts = refl
starts Token.end_object ts = λ depth. ap (converted of_json) (value_is depth (Token.end_object ∷ ts))
starts Token.begin_array ts = refl
starts Token.end_array ts = λ depth. ap (converted of_json) (value_is depth (Token.end_array ∷ ts))
starts (Token.key s) ts = λ depth. ap (converted of_json) (value_is depth (Token.key s ∷ ts))
starts (Token.string s) ts =
    (string s, (refl, refl), λ depth. ap (converted of_json) (value_is depth (Token.string s ∷ ts)))
starts (Token.number s) ts = number_starts s ts (number_of s) refl
starts (Token.boolean b) ts =
    (boolean b, (refl, refl), λ depth. ap (converted of_json) (value_is depth (Token.boolean b ∷ ts)))
starts Token.null ts = (null, (refl, refl), λ depth. ap (converted of_json) (value_is depth (Token.null ∷ ts)))
starts Token.bad ts = λ depth. ap (converted of_json) (value_is depth (Token.bad ∷ ts))
