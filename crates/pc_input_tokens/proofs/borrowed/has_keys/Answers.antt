use Rattle.std.proofs.Common.{◌≡◌, ◌+◌, ◌<◌, ◌≤◌, [], ◌∷◌, drop, take, length, true, false, bytes_eq, sym, ap, ◌∙◌}
use Rattle.std.proofs.Common.{arith, rules, ne_eqb, length-set}
use Rattle.std.specs.List.{list_any}
use Rattle.std.proofs.lemmas.List.{drop_more}
use Rattle.json.specs.Value.{members_view}
use Rattle.pc_input_tokens.specs.Keys.{fresh}
use Rattle.pc_input_tokens.proofs.Keys.{texts, any_text, turn_known, turn_new, step_new}
use Rattle.pc_input_tokens.proofs.borrowed.has_keys.Goals as goal
use Rattle.pc_input_tokens.proofs.borrowed.has_keys.Goals.{then-not-contains+else-count-n, else-not-contains}

pub returns-then-count-n : goal.returns-then-count-n
returns-then-count-n c =
    let l = c.loop-key in
    let xs = c.args.members.now in
    let x = c.loop-key-item.result in
    let seen = texts (take l.count l.seen) in
    let here : drop l.key-index xs ≡ x ∷ drop (l.key-index + 1) xs =
    drop_more xs l.key-index x (omega arith) ∙ ap (λ y. y ∷ drop (l.key-index + 1) xs) (sym c.loop-key-item.is) in
    let none : list_any (λ k. bytes_eq k.now x.0.now) (take l.count l.seen) ≡ false = search rules in
    let turn = ap (λ ys. fresh seen (members_view ys)) here ∙ turn_new seen x (drop (l.key-index + 1) xs)
    (any_text x.0.now (take l.count l.seen) ∙ none) in
    sym (ne_eqb _ _ (λ same. omega (arith, l.invariant.2, turn, same, c.if-count-n.true)))

pub loop-key-preserved : goal.loop-key-preserved
loop-key-preserved c =
    let l = c.loop-key in
    let xs = c.args.members.now in
    let x = c.loop-key-item.result in
    let seen = texts (take l.count l.seen) in
    let rest = members_view (drop (l.key-index + 1) xs) in
    let here : drop l.key-index xs ≡ x ∷ drop (l.key-index + 1) xs =
    drop_more xs l.key-index x (omega arith) ∙ ap (λ y. y ∷ drop (l.key-index + 1) xs) (sym c.loop-key-item.is) in
    elim c.if-not-contains.branch [
      | then-not-contains+else-count-n w ↦
          let none : list_any (λ k. bytes_eq k.now x.0.now) (take l.count l.seen) ≡ false = search rules in
          let turn = ap (λ ys. fresh seen (members_view ys)) here
          ∙ turn_new seen x (drop (l.key-index + 1) xs) (any_text x.0.now (take l.count l.seen) ∙ none) in
          let within : l.count < length l.seen = omega (
            arith,
            l.invariant.0,
            l.invariant.1,
            c.requires,
            w.if-count-n.false,
          ) in
          let fits : l.count + 1 ≤ c.args.n = omega (arith, l.invariant.0, w.if-count-n.false) in
          rw (w.count-is, w.seen-is) (
            fits,
            length-set l.seen l.count x.0 ∙ l.invariant.1,
            step_new l.seen x.0 l.count (fresh [] (members_view xs)) rest within
                (ap (λ n. l.count + n) (sym turn) ∙ l.invariant.2),
          )
      | else-not-contains w ↦
          let known : list_any (λ k. bytes_eq k.now x.0.now) (take l.count l.seen) ≡ true = search rules in
          let turn = ap (λ ys. fresh seen (members_view ys)) here
          ∙ turn_known seen x (drop (l.key-index + 1) xs) (any_text x.0.now (take l.count l.seen) ∙ known) in
          rw (w.count-is, w.seen-is) (
            l.invariant.0,
            l.invariant.1,
            ap (λ n. l.count + n) (sym turn) ∙ l.invariant.2,
          )
    ]
