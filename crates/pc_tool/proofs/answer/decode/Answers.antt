use Rattle.std.proofs.Common.{◌≡◌, ℕ, List, None, Some, subst}
use Rattle.std.specs.Result.{IfOk}
use Rattle.std.proofs.lemmas.Result.{IfErr-at_err}
use Rattle.serde_json.specs.Data.{Data}
use Rattle.pc_input.specs.Input.{HasCause, input_in, input_of, tree_of}
use Rattle.pc_input.specs.declared.input.Input.{Input}
use Rattle.pc_tool.specs.Headline.{Decodes, IsNotJson, IsBadForm}
use Rattle.pc_tool.proofs.answer.decode.Goals as goal

pub returns-clause-ok : goal.returns-clause-ok
unfolding Decodes
returns-clause-ok c =
    subst (λ (b : List ℕ). IfOk c.decode_input.result (λ (i : Input). input_in b ≡ Some i)) c.as_slice.ensures.value
    c.decode_input.ensures.ok

pub returns-clause-not_json : goal.returns-clause-not_json
unfolding IsNotJson
returns-clause-not_json c is =
    subst (λ (b : List ℕ). tree_of b ≡ None) c.as_slice.ensures.value
    (IfErr-at_err (HasCause c.as_slice.result.now) is c.decode_input.ensures.err)

pub returns-clause-bad_form : goal.returns-clause-bad_form
unfolding IsBadForm
returns-clause-bad_form c is =
    subst (λ (b : List ℕ). (d : Data) × (tree_of b ≡ Some d) × (input_of d ≡ None)) c.as_slice.ensures.value
    (IfErr-at_err (HasCause c.as_slice.result.now) is c.decode_input.ensures.err)
