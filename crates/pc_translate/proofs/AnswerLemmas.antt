-- The order of answers: what is counted before the first item, and which answer comes first.
use Rattle.std.proofs.Common.{◌≡◌, ◌+◌, ◌≤◌, ◌<◌, ◌⊎◌, inl, inr, ℕ, Bool, List, [], ◌∷◌, length, Option, None, Some}
use Rattle.std.proofs.Common.{Result, Err, true, false, if◌then◌else◌, true≢false, refl, sym, ap, ◌∙◌, arith, sum_by}
use Rattle.std.specs.Prelude.{nat_lt, option_map}
use Rattle.std.specs.List.{cons_option}
use Rattle.std.proofs.lemmas.Bool.{cases_lt, le-ltb, lt-ltb}
use Rattle.std.proofs.lemmas.List.Sums.{sum_by-cons}
use Rattle.pc_types.specs.declared.error.Error.{Error}
use Rattle.pc_types.specs.declared.error.Error.TheVariants as error
use Rattle.pc_types.specs.declared.parsed.TypeTable.{TypeTable}
use Rattle.pc_parsed.specs.declared.payload.Payload.{Payload}
use Rattle.pc_parsed.specs.declared.payload.Payload.TheVariants as payload
use Rattle.pc_parsed.specs.Program.{item_count}
use Rattle.pc_parsed.specs.StaticFault.{static_fault}
use Rattle.pc_spec_reading.specs.Answer.{answer_from, answer_of, ending, or_fault}
use Rattle.pc_spec_reading.specs.Item.{Items}
use Rattle.pc_spec_reading.specs.Nest.{root_of}
use Rattle.pc_spec_reading.specs.Outcome.{Outcome}
use Rattle.pc_spec_reading.specs.Reading.{Reading, reading, reading_of}
use Rattle.pc_spec_reading.specs.Section.{module_of, modules_of}
use Rattle.pc_spec_reading.specs.Total.{counted}
use Rattle.pc_spec_reading.specs.World.{full}
use Rattle.pc_weights.specs.Capped.{capped}
use Rattle.pc_translate.specs.Causes.{CanBeRead, answer_in_order, in_the_end}

-- the answer in order, where the total before the first item is this
unfoldable pub answer_at : TypeTable → (exposed : Option (List ℕ)) → (limit total : ℕ) → List Payload
    → Option (Result Reading Error)
answer_at t exposed limit total ps = option_map in_the_end (answer_from t exposed limit (Some total) ps)

-- a payload that is no core module
module_skipped : (p : Payload) (ps : List Payload) → module_of p ≡ None
    → length (modules_of ps) ≤ sum_by item_count ps → length (modules_of (p ∷ ps)) ≤ sum_by item_count (p ∷ ps)
module_skipped p ps none rest =
    let same : length (modules_of (p ∷ ps)) ≡ length (modules_of ps) =
    ap (λ o. length (cons_option o (modules_of ps))) none in
    omega (arith, same, rest, sum_by-cons item_count p ps)

-- each core module is an item
modules_few : (ps : List Payload) → length (modules_of ps) ≤ sum_by item_count ps
modules_few [] = omega arith
modules_few (payload.ModuleSection r ty ∷ ps) =
    omega (arith, modules_few ps, sum_by-cons item_count (payload.ModuleSection r ty) ps)
modules_few (p ∷ ps) = module_skipped p ps refl (modules_few ps)

-- core modules are counted
pub modules_counted : (t : TypeTable) (held : ℕ) (ps : List Payload) → length (modules_of ps) ≤ counted t held ps
unfolding counted
modules_counted t held ps = let few = modules_few ps in omega (arith, few)

-- and so are the core signatures of the table and the types that were held before
pub held_counted : (t : TypeTable) (held : ℕ) (ps : List Payload) → length t.core_funcs + held ≤ counted t held ps
unfolding counted
held_counted t held ps = omega arith

-- a number that was cut, and is below the cut, is itself
pub below_cut : (n c : ℕ) → c ≡ capped n → c < full → c ≡ n
below_cut n c cut below = omega (arith, cut, below)

-- an answer where there is room
room_answer : {A : Type 0} (room : Bool) (x y z : A) → room ≡ true → x ≡ z → (if room then x else y) ≡ z
room_answer true x y z holds is = is
room_answer false x y z holds is = absurd (true≢false (sym holds))

full_answer : {A : Type 0} (room : Bool) (x y : A) → room ≡ false → (if room then x else y) ≡ y
full_answer true x y none = absurd (true≢false none)
full_answer false x y none = refl

-- the end of a reading, where nothing comes before it
end_answer : (f : Option Error) (o : Option (Outcome Reading)) (out : Outcome Reading) → f ≡ None → o ≡ Some out
    → or_fault f (option_map ending o) ≡ Some (ending out)
end_answer f o out sound is = rw (sound, is) refl

fault_answer : (f : Option Error) (o : Option (Result Reading Error)) (e : Error) → f ≡ Some e
    → or_fault f o ≡ Some (Err e)
fault_answer f o e at = rw at refl

module _ (t : TypeTable) (exposed : Option (List ℕ)) (limit c : ℕ) (ps : List Payload) where
  -- what comes where there is room
  abbrev next_answer : Option (Result Reading Error)
  next_answer = or_fault (static_fault t exposed ps) (option_map ending (reading t exposed limit (Some c) ps))

  -- a total that is full is too much, whatever else there is
  pub full_at : full ≤ c → answer_at t exposed limit c ps ≡ Some (Err error.TooMany)
  unfolding answer_at answer_from
  full_at many =
      ap (option_map in_the_end)
      (full_answer (nat_lt c full) next_answer (Some (Err error.TooMany)) (le-ltb c full many))

  -- below it a static fault is the answer
  pub fault_at : c < full → (e : Error) → static_fault t exposed ps ≡ Some e
      → answer_at t exposed limit c ps ≡ Some (Err e)
  unfolding answer_at answer_from
  fault_at below e at =
      ap (option_map in_the_end)
      (room_answer (nat_lt c full) next_answer (Some (Err error.TooMany)) (Some (Err e))
      (lt-ltb c full below)
      (fault_answer (static_fault t exposed ps) (option_map ending (reading t exposed limit (Some c) ps)) e at))

  -- and where there is none, the end of the reading
  pub end_at : c < full → static_fault t exposed ps ≡ None → (o : Outcome Reading)
      → reading t exposed limit (Some c) ps ≡ Some o
      → answer_at t exposed limit c ps ≡ Some (in_the_end (ending o))
  unfolding answer_at answer_from
  end_at below sound o is =
      ap (option_map in_the_end)
      (room_answer (nat_lt c full) next_answer (Some (Err error.TooMany)) (Some (ending o))
      (lt-ltb c full below)
      (end_answer (static_fault t exposed ps) (reading t exposed limit (Some c) ps) o sound is))

-- the reading of payloads is that of their root
root_reading : (t : TypeTable) (exposed : Option (List ℕ)) (limit c : ℕ) (ps : List Payload) (body : Items)
    → root_of exposed ps ≡ Some body
    → reading t exposed limit (Some c) ps ≡ Some (reading_of t (modules_of ps) limit (Some c) body)
unfolding reading
root_reading t exposed limit c ps body root = ap (option_map (reading_of t (modules_of ps) limit (Some c))) root

module _ (t : TypeTable) (exposed : Option (List ℕ)) (limit held : ℕ) (ps : List Payload) where
  -- the answer with what is counted
  at_counted : answer_at t exposed limit (counted t held ps) ps ≡ answer_in_order t exposed limit held ps
  unfolding answer_at answer_in_order answer_of
  at_counted = refl

  -- also where that is cut where it is full
  pub at_cut : (c : ℕ) → c ≡ capped (counted t held ps)
      → answer_at t exposed limit c ps ≡ answer_in_order t exposed limit held ps
  at_cut c cut = by (cases_lt c full)
    where
      by : (c < full) ⊎ (full ≤ c) → answer_at t exposed limit c ps ≡ answer_in_order t exposed limit held ps
      by (inl below) =
          ap (λ n. answer_at t exposed limit n ps) (below_cut (counted t held ps) c cut below) ∙ at_counted
      by (inr many) =
          full_at t exposed limit c ps many
          ∙ sym (full_at t exposed limit (counted t held ps) ps (omega (arith, cut, many))) ∙ at_counted

  -- where payloads are read, it is the end of the reading of their root, with the total that is counted
  pub ends_with : CanBeRead t exposed held ps → (body : Items) → root_of exposed ps ≡ Some body → (c : ℕ)
      → c ≡ counted t held ps
      → answer_in_order t exposed limit held ps
      ≡ Some (in_the_end (ending (reading_of t (modules_of ps) limit (Some c) body)))
  ends_with can body root c same =
      sym at_counted
      ∙ end_at t exposed limit (counted t held ps) ps can.below can.sound
      (reading_of t (modules_of ps) limit (Some (counted t held ps)) body)
      (root_reading t exposed limit (counted t held ps) ps body root)
      ∙ ap (λ n. Some (in_the_end (ending (reading_of t (modules_of ps) limit (Some n) body)))) (sym same)
