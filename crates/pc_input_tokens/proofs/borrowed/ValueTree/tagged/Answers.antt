use Rattle.std.proofs.Common.{sym, ap, ◌∙◌}
use Rattle.json.specs.Value.{members_view}
use Rattle.serde_json.specs.Data.{no_members}
use Rattle.pc_input_tokens.specs.Shape.{only, tagged}
use Rattle.pc_input_tokens.specs.Borrowed.{members_data, data_in}
use Rattle.pc_input_tokens.proofs.Keys.{tagged-Object}
use Rattle.pc_input_tokens.proofs.borrowed.ValueTree.tagged.Goals as goal

pub returns-in-Object : goal.returns-in-Object
returns-in-Object c =
    c.only.ensures ∙ ap (λ ms. only (members_data (members_view ms) no_members)) c.deref.ensures.value
    ∙ sym (ap (λ v. tagged (data_in v)) c.in-Object.is ∙ tagged-Object c.in-Object.members)
