use Rattle.std.proofs.Common.{◌≡◌, ◌-◌, ◌<◌, length, Some, None, refl, ◌∙◌, subst, arith}
use Rattle.json.specs.Json.{value, read_key}
use Rattle.json.proofs.Grammar.{read_key-shorter}
use Rattle.serde_json.specs.Data.{no_members, put, object}
use Rattle.pc_input_tokens.specs.Takes.{members_at}
use Rattle.pc_input_tokens.proofs.Turns.{member_read, member_refused, key_refused, members_over, data_at-shorter}
use Rattle.pc_input_values.specs.Reads.{Reads}
use Rattle.pc_input.specs.Payload.{payload_of}
use Rattle.pc_input.proofs.Taken.{TakesAs-from_Reads}
use Rattle.pc_input.proofs.Payloads.{payload_is}
use Rattle.pc_input.proofs.content.take_tagged.Goals as goal

pub members-init : goal.members-init
members-init g c = (length c.args.reader.now, omega arith, no_members, refl, (refl, refl))

pub members-preserved : goal.members-preserved
members-preserved g c =
    let l = c.members in
    let n = l.invariant.0 in
    let ms = l.invariant.2 in
    let k = c.in-Ok-Some.key.now in
    let s = c.next_key.new.self in
    let r = c.take_one.new.reader in
    let took = c.in-Ok.ensures in
    let named : read_key l.reader ≡ Some (Some k, s) = grind arith in
    let less = read_key-shorter l.reader (Some k) s named in
    let lesser = data_at-shorter c.args.depth s r took.0 took.1 in (
      n - 1,
      omega (arith, l.invariant.1, less, lesser),
      put k took.0 ms,
      l.invariant.3
          ∙ member_read (value c.args.depth) ms n k l.reader s r took.0 (omega (arith, l.invariant.1, less)) named
          took.1,
      took.2 ms l.invariant.4,
    )

pub members-smaller : goal.members-smaller
members-smaller g c =
    let l = c.members in
    let k = c.in-Ok-Some.key.now in
    let s = c.next_key.new.self in
    let took = c.in-Ok.ensures in
    let named : read_key l.reader ≡ Some (Some k, s) = grind arith in
    let less = read_key-shorter l.reader (Some k) s named in
    let lesser = data_at-shorter c.args.depth s c.take_one.new.reader took.0 took.1 in
    let smaller : length c.take_one.new.reader < length l.reader = omega (arith, less, lesser) in
    smaller

pub returns-in-Err-NotJson : goal.returns-in-Err-NotJson
returns-in-Err-NotJson g c =
    let l = c.members in
    let k = c.in-Ok-Some.key.now in
    let s = c.next_key.new.self in
    let named : read_key l.reader ≡ Some (Some k, s) = grind arith in
    let refused = rw c.in-Err-NotJson.field-0-is at c.in-Err-NotJson.ensures in
    l.invariant.3 ∙ member_refused (value c.args.depth) l.invariant.2 l.invariant.0 k l.reader s named refused

pub returns-in-Ok-None : goal.returns-in-Ok-None
returns-in-Ok-None g c =
    let l = c.members in
    let ms = l.invariant.2 in
    let s = c.next_key.new.self in
    let over : read_key l.reader ≡ Some (None, s) = grind arith in
    let reads : Reads c.only.result (payload_of (g.F.Form.rules c.args.form.now) (object ms)) =
    subst (λ o. Reads c.only.result o) (payload_is _ _ _ _ ms l.invariant.4) c.only.ensures in
    TakesAs-from_Reads (λ xs. payload_of (g.F.Form.rules c.args.form.now) (object xs)) (members_at c.args.depth
    c.args.reader.now) ms s
    c.only.result
    (l.invariant.3 ∙ members_over (value c.args.depth) ms l.invariant.0 l.reader s l.invariant.1 over) reads

pub returns-in-Err : goal.returns-in-Err
returns-in-Err g c =
    let l = c.members in
    l.invariant.3 ∙ key_refused (value c.args.depth) l.invariant.2 l.invariant.0 l.reader c.in-Err.ensures.value
