use Rattle.std.proofs.Common.{◌∷◌, sym, ap, ◌∙◌, subst}
use Rattle.json.specs.Reads.{token_of}
use Rattle.pc_input_tokens.specs.Takes.{Starts, data_at}
use Rattle.pc_input_tokens.proofs.Starts.{starts, starts_at_end}
use Rattle.pc_input_tokens.proofs.start.begin.Goals as goal

pub returns-in-Some : goal.returns-in-Some
returns-in-Some c =
    let t = token_of c.in-Some.token in
    let r = c.next.new.self in
    subst (λ ts. Starts ts c.start_of.result r) (sym c.in-Some.ensures.value)
    (subst (λ o. Starts (t ∷ r) o r) (sym c.start_of.ensures) (starts t r))

pub returns-in-None : goal.returns-in-None
returns-in-None c = λ depth. ap (data_at depth) c.in-None.ensures.value.0 ∙ starts_at_end depth
