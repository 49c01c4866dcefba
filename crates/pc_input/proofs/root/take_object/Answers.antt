use Rattle.std.proofs.Common.{◌≡◌, ◌∷◌, refl, ap, ◌∙◌, arith}
use Rattle.json.specs.Token.{Token}
use Rattle.json.specs.Json.{parse_map}
use Rattle.serde_json.specs.Data.{object}
use Rattle.serde_json.specs.Find.{as_object}
use Rattle.pc_input.proofs.Taken.{in_object, array_passed}
use Rattle.pc_input.proofs.root.take_object.Goals as goal

pub returns-in-Ok : goal.returns-in-Ok
returns-in-Ok g c =
    let open_ : c.args.reader.now ≡ Token.begin_object ∷ c.begin.new.reader =
    rw c.in-Some-Object.field-0-is at c.in-Some-Object.ensures in
    let t = c.in-Ok.ensures in
    (t.0, in_object 127 c.args.reader.now c.begin.new.reader (omega arith) open_ ∙ ap (parse_map object) t.1, t.2)

pub returns-in-Err-NotJson : goal.returns-in-Err-NotJson
returns-in-Err-NotJson g c =
    let open_ : c.args.reader.now ≡ Token.begin_object ∷ c.begin.new.reader =
    rw c.in-Some-Object.field-0-is at c.in-Some-Object.ensures in
    let refused = rw c.in-Err-NotJson.field-0-is at c.in-Err-NotJson.ensures in
    in_object 127 c.args.reader.now c.begin.new.reader (omega arith) open_ ∙ ap (parse_map object) refused

pub returns-in-Some-Array : goal.returns-in-Some-Array
returns-in-Some-Array g c =
    let open_ : c.args.reader.now ≡ Token.begin_array ∷ c.begin.new.reader =
    rw c.in-Some-Array.field-0-is at c.in-Some-Array.ensures in
    rw c.passed_as.ensures
    (array_passed 127 c.args.reader.now c.begin.new.reader (omega arith) as_object c.pass_items.new.reader
    c.pass_items.result (λ ds. refl) open_ c.pass_items.ensures)
