-- What an answer says of the bytes.
use Rattle.std.specs.Prelude.{ℕ, List}
use Rattle.pc_serve.specs.declared.answers.Answer.{Answer}
use Rattle.pc_serve.specs.declared.answers.Answer.TheVariants as answer

-- an answer says of bytes what its text is to say
unfoldable pub IsAnswer : (Says Refuses : (bytes text : List ℕ) → Type 0) → (bytes : List ℕ) → Answer → Type 0
IsAnswer Says Refuses bytes (answer.Made text) = Says bytes text.items
IsAnswer Says Refuses bytes (answer.Refused text) = Refuses bytes text.items
