use Rattle.std.proofs.Common.{◌≡◌, ◌<◌, ◌+◌, ◌++◌, ◌∷◌, ◌∙◌, [], ℕ, List, ap, arith, get_or, length, subst, sym, take}
use Rattle.std.proofs.lemmas.List.{length-take, take_all}
use Rattle.std.proofs.lemmas.Option.{get_or_from_slice_get}
use Rattle.pc_entity.specs.declared.string_pool.Atom.{Atom}
use Rattle.pc_entity.proofs.LookupLemmas.{done_here, found_at}
use Rattle.pc_inline_names.specs.Numbers.{numbered_value, with_first_number}
use Rattle.pc_inline_names.specs.Tables.{number_place}
use Rattle.pc_inline_names.proofs.PlaceLemmas.{place_next}
use Rattle.pc_inline_names.proofs.types.first_places.Goals as goal

pub loop-place-preserved : goal.loop-place-preserved
loop-place-preserved c n =
    let l = c.loop-place in
    let i = l.place in
    let ms = c.args.numbers.now in
    let within : i < length ms = omega arith in
    let at = found_at ms i within in
    let m = at.0 in
    let is : m ≡ get_or ms i m = sym (get_or_from_slice_get ms i m m at.1) in
    let count : length (take i ms) ≡ i = omega (arith, length-take i ms, within) in
    let longer : take (i + 1) ms ≡ take i ms ++ m ∷ [] = done_here ms i m within is in
    subst (λ (ps : List (Atom × ℕ)). numbered_value n ps ≡ number_place 0 n (take (i + 1) ms))
    (sym (c.in_ok-insert_first.ensures.ok ∙ ap (λ (k : Atom). with_first_number l.places k i)
    (get_or_from_slice_get ms i m _ at.1)))
    (subst (λ (k : ℕ). numbered_value n (with_first_number l.places m k) ≡ number_place 0 n (take i ms ++ m ∷ [])) count
    (place_next l.places (take i ms) l.invariant m n)
    ∙ ap (number_place 0 n) (sym longer))

pub returns : goal.returns
returns c n =
    c.loop-place.invariant n ∙ ap (number_place 0 n) (take_all c.loop-place.place c.args.numbers.now (omega arith))
