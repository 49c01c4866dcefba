use Rattle.std.proofs.Common.{◌≡◌, ◌<◌, [], ◌∷◌, Err, sym, ap, ◌∙◌, subst, arith}
use Rattle.json.specs.Token.{Token}
use Rattle.json.proofs.Grammar.{value_is}
use Rattle.serde_json.specs.Data.{string}
use Rattle.serde_json.specs.Read.{of_json, converted}
use Rattle.pc_input_tokens.specs.Takes.{data_at}
use Rattle.pc_input_values.specs.declared.error.DecodeError.TheVariants.{BadForm}
use Rattle.pc_input.specs.Payload.{payload_of}
use Rattle.pc_input.specs.Takes.{Takes}
use Rattle.pc_input.proofs.Taken.{TakesAs-from_Reads, object_taken, array_passed, too_deep_array, too_deep_object}
use Rattle.pc_input.proofs.Payloads.{no_array, word_next, boolean_next, null_next, number_next, number_refused}
use Rattle.pc_input.proofs.content.take_payload.Goals as goal

pub returns-in-Some-String : goal.returns-in-Some-String
returns-in-Some-String g c =
    let s = c.in-Some-String.word.now in
    let r = c.next.new.self in
    let is : c.args.reader.now ≡ Token.string s ∷ r = rw c.in-Some-String.field-0-is at c.in-Some-String.ensures.value
    in
    TakesAs-from_Reads (payload_of (g.F.Form.rules c.args.form.now)) (data_at c.args.depth c.args.reader.now) (string
    s) r c.by_word.result
    (ap (data_at c.args.depth) is ∙ word_next (g.F.Form.rules c.args.form.now) c.args.depth r s) (c.by_word.ensures _)

pub returns-then-depth-eq0 : goal.returns-then-depth-eq0
returns-then-depth-eq0 g c =
    let r = c.next.new.self in
    let is : c.args.reader.now ≡ Token.begin_object ∷ r =
    rw c.in-Some-BeginObject.field-0-is at c.in-Some-BeginObject.ensures.value in
    let none : c.args.depth ≡ 0 = omega arith in
    ap (λ n. data_at n c.args.reader.now) none ∙ too_deep_object c.args.reader.now r is

pub returns-else-depth-eq0 : goal.returns-else-depth-eq0
returns-else-depth-eq0 g c =
    let r = c.next.new.self in
    let is : c.args.reader.now ≡ Token.begin_object ∷ r =
    rw c.in-Some-BeginObject.field-0-is at c.in-Some-BeginObject.ensures.value in
    let some : 0 < c.args.depth = omega arith in
    object_taken c.args.depth c.args.reader.now r some (payload_of (g.F.Form.rules c.args.form.now))
    c.take_tagged.new.reader
    c.take_tagged.result is
    c.take_tagged.ensures

pub returns-then-depth-eq0-2 : goal.returns-then-depth-eq0-2
returns-then-depth-eq0-2 g c =
    let r = c.next.new.self in
    let is : c.args.reader.now ≡ Token.begin_array ∷ r =
    rw c.in-Some-BeginArray.field-0-is at c.in-Some-BeginArray.ensures.value in
    let none : c.args.depth ≡ 0 = omega arith in
    ap (λ n. data_at n c.args.reader.now) none ∙ too_deep_array c.args.reader.now r is

pub returns-else-depth-eq0-2 : goal.returns-else-depth-eq0-2
returns-else-depth-eq0-2 g c =
    let r = c.next.new.self in
    let is : c.args.reader.now ≡ Token.begin_array ∷ r =
    rw c.in-Some-BeginArray.field-0-is at c.in-Some-BeginArray.ensures.value in
    let some : 0 < c.args.depth = omega arith in
    rw c.passed_as.ensures
    (array_passed c.args.depth c.args.reader.now r some (payload_of (g.F.Form.rules c.args.form.now))
    c.pass_items.new.reader c.pass_items.result
    (no_array (g.F.Form.rules c.args.form.now)) is c.pass_items.ensures)

pub returns-then-is_in_range : goal.returns-then-is_in_range
returns-then-is_in_range g c =
    let s = c.in-Some-Number.text.now in
    let r = c.next.new.self in
    let is : c.args.reader.now ≡ Token.number s ∷ r = rw c.in-Some-Number.field-0-is at c.in-Some-Number.ensures.value
    in
    subst (λ ts. Takes (payload_of (g.F.Form.rules c.args.form.now)) c.args.depth ts (Err BadForm) r) (sym is)
    (number_next (g.F.Form.rules c.args.form.now) c.args.depth r s (sym c.if-is_in_range.ensures))

pub returns-else-is_in_range : goal.returns-else-is_in_range
returns-else-is_in_range g c =
    let s = c.in-Some-Number.text.now in
    let r = c.next.new.self in
    let is : c.args.reader.now ≡ Token.number s ∷ r = rw c.in-Some-Number.field-0-is at c.in-Some-Number.ensures.value
    in
    ap (data_at c.args.depth) is ∙ number_refused (g.F.Form.rules c.args.form.now) c.args.depth r s (sym
    c.if-is_in_range.ensures)

pub returns-in-Some-Bool : goal.returns-in-Some-Bool
returns-in-Some-Bool g c =
    let b = c.in-Some-Bool.field-0-0 in
    let r = c.next.new.self in
    let is : c.args.reader.now ≡ Token.boolean b ∷ r = rw c.in-Some-Bool.field-0-is at c.in-Some-Bool.ensures.value in
    subst (λ ts. Takes (payload_of (g.F.Form.rules c.args.form.now)) c.args.depth ts (Err BadForm) r) (sym is)
    (boolean_next (g.F.Form.rules c.args.form.now) c.args.depth r b)

pub returns-in-Some-Null : goal.returns-in-Some-Null
returns-in-Some-Null g c =
    let r = c.next.new.self in
    let is : c.args.reader.now ≡ Token.null ∷ r = rw c.in-Some-Null.field-0-is at c.in-Some-Null.ensures.value in
    subst (λ ts. Takes (payload_of (g.F.Form.rules c.args.form.now)) c.args.depth ts (Err BadForm) r) (sym is)
    (null_next (g.F.Form.rules c.args.form.now) c.args.depth r)

pub returns-in-Some-Key : goal.returns-in-Some-Key
returns-in-Some-Key g c =
    let k = c.in-Some-Key.field-0-0.now in
    let r = c.next.new.self in
    let is : c.args.reader.now ≡ Token.key k ∷ r = rw c.in-Some-Key.field-0-is at c.in-Some-Key.ensures.value in
    ap (data_at c.args.depth) is ∙ ap (converted of_json) (value_is c.args.depth (Token.key k ∷ r))

pub returns-in-None : goal.returns-in-None
returns-in-None g c =
    ap (data_at c.args.depth) c.in-None.ensures.value.0 ∙ ap (converted of_json) (value_is c.args.depth [])

pub returns-in-Some-EndObject : goal.returns-in-Some-EndObject
returns-in-Some-EndObject g c =
    let r = c.next.new.self in
    let is : c.args.reader.now ≡ Token.end_object ∷ r = rw c.in-Some-EndObject.field-0-is at
    c.in-Some-EndObject.ensures.value in
    ap (data_at c.args.depth) is ∙ ap (converted of_json) (value_is c.args.depth (Token.end_object ∷ r))

pub returns-in-Some-EndArray : goal.returns-in-Some-EndArray
returns-in-Some-EndArray g c =
    let r = c.next.new.self in
    let is : c.args.reader.now ≡ Token.end_array ∷ r = rw c.in-Some-EndArray.field-0-is at
    c.in-Some-EndArray.ensures.value in
    ap (data_at c.args.depth) is ∙ ap (converted of_json) (value_is c.args.depth (Token.end_array ∷ r))

pub returns-in-Some-Bad : goal.returns-in-Some-Bad
returns-in-Some-Bad g c =
    let r = c.next.new.self in
    let is : c.args.reader.now ≡ Token.bad ∷ r = rw c.in-Some-Bad.field-0-is at c.in-Some-Bad.ensures.value in
    ap (data_at c.args.depth) is ∙ ap (converted of_json) (value_is c.args.depth (Token.bad ∷ r))
