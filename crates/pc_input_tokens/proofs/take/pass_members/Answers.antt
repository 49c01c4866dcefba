use Rattle.std.proofs.Common.{◌≡◌, ◌-◌, ◌<◌, length, Some, None, refl, ◌∙◌, arith}
use Rattle.json.specs.Json.{value, read_key}
use Rattle.json.proofs.Grammar.{read_key-shorter}
use Rattle.serde_json.specs.Data.{no_members, put}
use Rattle.pc_input_tokens.specs.Borrowed.{data_in}
use Rattle.pc_input_tokens.proofs.Turns.{member_read, member_refused, key_refused, members_over, data_at-shorter}
use Rattle.pc_input_tokens.proofs.take.pass_members.Goals as goal

pub members-init : goal.members-init
members-init c = (length c.args.reader.now, omega arith, no_members, refl)

pub members-preserved : goal.members-preserved
members-preserved c =
    let l = c.members in
    let n = l.invariant.0 in
    let found = l.invariant.2 in
    let k = c.in-Ok-Some.field-0-0.now in
    let s = c.next_key.new.self in
    let r = c.take_tree.new.reader in
    let d = data_in c.in-Ok.member in
    let named : read_key l.reader ≡ Some (Some k, s) = grind arith in
    let less = read_key-shorter l.reader (Some k) s named in
    let lesser = data_at-shorter c.args.depth s r d c.in-Ok.ensures in (
      n - 1,
      omega (arith, l.invariant.1, less, lesser),
      put k d found,
      l.invariant.3
          ∙ member_read (value c.args.depth) found n k l.reader s r d (omega (arith, l.invariant.1, less)) named
          c.in-Ok.ensures,
    )

pub members-smaller : goal.members-smaller
members-smaller c =
    let l = c.members in
    let k = c.in-Ok-Some.field-0-0.now in
    let s = c.next_key.new.self in
    let named : read_key l.reader ≡ Some (Some k, s) = grind arith in
    let less = read_key-shorter l.reader (Some k) s named in
    let lesser = data_at-shorter c.args.depth s c.take_tree.new.reader (data_in c.in-Ok.member) c.in-Ok.ensures in
    let smaller : length c.take_tree.new.reader < length l.reader = omega (arith, less, lesser) in
    smaller

pub returns-in-Err-NotJson : goal.returns-in-Err-NotJson
returns-in-Err-NotJson c =
    let l = c.members in
    let k = c.in-Ok-Some.field-0-0.now in
    let s = c.next_key.new.self in
    let named : read_key l.reader ≡ Some (Some k, s) = grind arith in
    let refused = rw c.in-Err-NotJson.field-0-is at c.in-Err-NotJson.ensures in
    l.invariant.3 ∙ member_refused (value c.args.depth) l.invariant.2 l.invariant.0 k l.reader s named refused

pub returns-in-Ok-None : goal.returns-in-Ok-None
returns-in-Ok-None c =
    let l = c.members in
    let s = c.next_key.new.self in
    let over : read_key l.reader ≡ Some (None, s) = grind arith in (
      l.invariant.2,
      l.invariant.3 ∙ members_over (value c.args.depth) l.invariant.2 l.invariant.0 l.reader s l.invariant.1 over,
    )

pub returns-in-Err : goal.returns-in-Err
returns-in-Err c =
    let l = c.members in
    l.invariant.3 ∙ key_refused (value c.args.depth) l.invariant.2 l.invariant.0 l.reader c.in-Err.ensures.value
