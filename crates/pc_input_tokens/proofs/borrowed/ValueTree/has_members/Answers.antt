use Rattle.std.proofs.Common.{◌==◌, [], sym, ap, ◌∙◌}
use Rattle.json.specs.Value.{members_view}
use Rattle.pc_input_tokens.specs.Shape.{has_members}
use Rattle.pc_input_tokens.specs.Borrowed.{data_in}
use Rattle.pc_input_tokens.specs.Keys.{fresh}
use Rattle.pc_input_tokens.proofs.Keys.{has_members-Object}
use Rattle.pc_input_tokens.proofs.borrowed.ValueTree.has_members.Goals as goal

pub returns-in-Object : goal.returns-in-Object
returns-in-Object c =
    c.has_keys.ensures ∙ ap (λ ms. fresh [] (members_view ms) == c.args.n) c.deref.ensures.value
    ∙ sym (ap (λ v. has_members c.args.n (data_in v)) c.in-Object.is ∙ has_members-Object c.args.n c.in-Object.members)
