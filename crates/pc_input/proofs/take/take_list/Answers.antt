use Rattle.std.proofs.Common.{◌≡◌, ◌<◌, ◌∷◌, refl, ap, ◌∙◌, arith}
use Rattle.json.specs.Token.{Token}
use Rattle.pc_input_tokens.specs.Takes.{data_at}
use Rattle.pc_input_values.specs.Tree.{each}
use Rattle.pc_input.proofs.Taken.{array_taken, object_passed, too_deep_array, too_deep_object}
use Rattle.pc_input.proofs.take.take_list.Goals as goal

pub returns-then-depth-eq0 : goal.returns-then-depth-eq0
returns-then-depth-eq0 g c =
    let open_ : c.args.reader.now ≡ Token.begin_array ∷ c.begin.new.reader =
    rw c.in-Some-Array.field-0-is at c.in-Some-Array.ensures in
    let none : c.args.depth ≡ 0 = omega arith in
    ap (λ n. data_at n c.args.reader.now) none ∙ too_deep_array c.args.reader.now c.begin.new.reader open_

pub returns-else-depth-eq0 : goal.returns-else-depth-eq0
returns-else-depth-eq0 g c =
    let open_ : c.args.reader.now ≡ Token.begin_array ∷ c.begin.new.reader =
    rw c.in-Some-Array.field-0-is at c.in-Some-Array.ensures in
    let some : 0 < c.args.depth = omega arith in
    array_taken c.args.depth c.args.reader.now c.begin.new.reader some (g.T.ReadEntry.shape (g.F.Form.rules
    c.args.form.now))
    c.take_entries.new.reader c.take_entries.result open_ c.take_entries.ensures

pub returns-then-depth-eq0-2 : goal.returns-then-depth-eq0-2
returns-then-depth-eq0-2 g c =
    let open_ : c.args.reader.now ≡ Token.begin_object ∷ c.begin.new.reader =
    rw c.in-Some-Object.field-0-is at c.in-Some-Object.ensures in
    let none : c.args.depth ≡ 0 = omega arith in
    ap (λ n. data_at n c.args.reader.now) none ∙ too_deep_object c.args.reader.now c.begin.new.reader open_

pub returns-else-depth-eq0-2 : goal.returns-else-depth-eq0-2
returns-else-depth-eq0-2 g c =
    let open_ : c.args.reader.now ≡ Token.begin_object ∷ c.begin.new.reader =
    rw c.in-Some-Object.field-0-is at c.in-Some-Object.ensures in
    let some : 0 < c.args.depth = omega arith in
    rw c.passed_as.ensures
    (object_passed c.args.depth c.args.reader.now c.begin.new.reader some (each (g.T.ReadEntry.shape (g.F.Form.rules
    c.args.form.now)))
    c.pass_members.new.reader c.pass_members.result (λ ms. refl) open_ c.pass_members.ensures)
