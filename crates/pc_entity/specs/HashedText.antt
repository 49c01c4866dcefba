-- The hash of a text.
use Rattle.std.specs.Prelude.{ℕ, List}
use Rattle.std.specs.List.{fold}
use Rattle.std.specs.Hash as fed
use Rattle.std.specs.Hash.DefaultHasher as sip

-- the hash of a text's bytes, with no seed
unfoldable pub text_hash : List ℕ → ℕ
text_hash bytes = sip.finish (fold sip.write sip.initial (fed.str bytes))
