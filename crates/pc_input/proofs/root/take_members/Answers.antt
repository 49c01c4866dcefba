use Rattle.std.proofs.Common.{◌≡◌, ◌-◌, ◌<◌, [], ◌∷◌, ◌++◌, length, Some, None, refl, sym, ◌∙◌, subst, arith, rules}
use Rattle.std.specs.Prelude.{codes}
use Rattle.json.specs.Json.{value, read_key}
use Rattle.json.proofs.Grammar.{read_key-shorter}
use Rattle.serde_json.specs.Data.{no_members, put}
use Rattle.json.specs.Value.{members_view}
use Rattle.pc_input_tokens.specs.Borrowed.{members_data}
use Rattle.pc_input_tokens.proofs.Turns.{member_read, member_refused, key_refused, members_over, data_at-shorter}
use Rattle.pc_input.specs.Root.{AgreeBut}
use Rattle.pc_input.proofs.Agree.{stands-put}
use Rattle.pc_input.proofs.root.take_members.Goals as goal

pub members-init : goal.members-init
members-init g c =
    let none : AgreeBut (codes "payloads") no_members (members_data (members_view c.new-found.result.items)
    no_members) =
    subst (λ es. AgreeBut (codes "payloads") no_members (members_data (members_view es) no_members))
    (sym c.new-found.ensures.items) tt in
    (length c.args.reader.now, omega arith, no_members, refl, (none, refl))

pub members-preserved : goal.members-preserved
members-preserved g c =
    let l = c.members in
    let n = l.invariant.0 in
    let ms = l.invariant.2 in
    let key = c.in-Ok-Some.key in
    let s = c.next_key.new.self in
    let r = c.take_member.new.reader in
    let took = c.in-Ok.ensures in
    let named : read_key l.reader ≡ Some (Some key.now, s) = grind arith in
    let less = read_key-shorter l.reader (Some key.now) s named in
    let lesser = data_at-shorter c.args.depth s r took.0 took.1 in
    let pushed : c.push.new.self.items ≡ l.found.items ++ (key, c.in-Ok.member) ∷ [] = search rules in (
      n - 1,
      omega (arith, l.invariant.1, less, lesser),
      put key.now took.0 ms,
      l.invariant.3
          ∙ member_read (value c.args.depth) ms n key.now l.reader s r took.0 (omega (arith, l.invariant.1, less))
          named took.1,
      stands-put _ l.found.items c.push.new.self.items (key, c.in-Ok.member) l.payloads c.take_member.new.payloads ms
          took.0 l.invariant.4 took.2 pushed,
    )

pub members-smaller : goal.members-smaller
members-smaller g c =
    let l = c.members in
    let key = c.in-Ok-Some.key in
    let s = c.next_key.new.self in
    let took = c.in-Ok.ensures in
    let named : read_key l.reader ≡ Some (Some key.now, s) = grind arith in
    let less = read_key-shorter l.reader (Some key.now) s named in
    let lesser = data_at-shorter c.args.depth s c.take_member.new.reader took.0 took.1 in
    let smaller : length c.take_member.new.reader < length l.reader = omega (arith, less, lesser) in
    smaller

pub returns-in-Err-NotJson : goal.returns-in-Err-NotJson
returns-in-Err-NotJson g c =
    let l = c.members in
    let key = c.in-Ok-Some.key in
    let s = c.next_key.new.self in
    let named : read_key l.reader ≡ Some (Some key.now, s) = grind arith in
    let refused = rw c.in-Err-NotJson.field-0-is at c.in-Err-NotJson.ensures in
    l.invariant.3 ∙ member_refused (value c.args.depth) l.invariant.2 l.invariant.0 key.now l.reader s named refused

pub returns-in-Ok-None : goal.returns-in-Ok-None
returns-in-Ok-None g c =
    let l = c.members in
    let s = c.next_key.new.self in
    let over : read_key l.reader ≡ Some (None, s) = grind arith in (
      l.invariant.2,
      l.invariant.3 ∙ members_over (value c.args.depth) l.invariant.2 l.invariant.0 l.reader s l.invariant.1 over,
      l.invariant.4,
    )

pub returns-in-Err : goal.returns-in-Err
returns-in-Err g c =
    let l = c.members in
    l.invariant.3 ∙ key_refused (value c.args.depth) l.invariant.2 l.invariant.0 l.reader c.in-Err.ensures.value
