-- An adapter is told from its record, over the arguments of its module.
use Rattle.std.proofs.Common.{◌≡◌, ℕ, zero, suc, ◌+◌, Bool, true, false, ◌&&◌, ◌||◌, List, [], ◌∷◌, ◌++◌, Option, None}
use Rattle.std.proofs.Common.{Some, length, refl, sym, ap, subst, ◌∙◌, arith, length-append, true≢false}
use Rattle.std.specs.Prelude.{map, option_map, option_and_then, slice_get, if◌then◌else◌}
use Rattle.std.proofs.lemmas.Option.{same_Some}
use Rattle.pc_types.specs.declared.encoding.StringEncoding.{StringEncoding}
use Rattle.pc_types.specs.declared.trampoline.TrampolineKind.TheVariants as kind
use Rattle.pc_types_lists.specs.Facts.{join}
use Rattle.pc_spec_plan.specs.CoreValue as value
use Rattle.pc_spec_plan.specs.CoreValue.{CoreValue, DataModel, MaybeValue, Options}
use Rattle.pc_spec_plan.specs.Machine.{adapter_from, chosen, is_counted, model_from, side_options}
use Rattle.pc_spec_plan.specs.PlanView.{AdapterRecord, PlanView}
use Rattle.pc_trampoline.specs.declared.part.Mark.{Mark}
use Rattle.pc_spec_adapt.specs.Asked.{FunctionFacts}
use Rattle.pc_spec_adapt.specs.Import.{Import}
use Rattle.pc_spec_adapt.specs.Planned.{all_facts, calls, flags_of, function, function_if, helper, memory_if, memory_in}
use Rattle.pc_spec_adapt.specs.Planned.{planned, realloc_in, side, transcoders, transcodings, transfers}
use Rattle.pc_spec_adapt.specs.Record.{model_places, model_taken, place_at, record_at, side_places, side_taken, taken}
use Rattle.pc_adapt_laws.specs.Found.{are_counted, HoldFrom, values_of}

-- what is put together of three, where each is there
assembled : {A B C D : Type 0} (b : Bool) (x : Option A) (y : Option B) (z : Option C) (u : A) (v : B) (w : C)
    (f : A → B → C → D) → b ≡ true → x ≡ Some u → y ≡ Some v → z ≡ Some w
    → (if b then option_and_then (λ p. option_and_then (λ q. option_map (f p q) z) y) x else None) ≡ Some (f u v w)
assembled b x y z u v w f is there next last =
    λ i. if is i then option_and_then (λ p. option_and_then (λ q. option_map (f p q) (last i)) (next i)) (there i)
    else None

module _ (args : List (CoreValue Mark)) where
  -- what stands in front of other values, and what stands behind others
  front : (k : ℕ) (xs ys : List (Import Mark)) → HoldFrom args k (values_of (xs ++ ys)) → HoldFrom args k (values_of xs)
  front k [] ys all i v at = absurd (never v at)
    where
      never : (v : CoreValue Mark) → None ≡ Some v → ⊥
      never v e = grind (arith, e)
  front k (x ∷ xs) ys all zero v at = all zero v at
  front k (x ∷ xs) ys all (suc i) v at =
      let place : k + 1 + i ≡ k + suc i = omega arith in
      ap (slice_get args) (sym place)
      ∙ front (k + 1) xs ys (λ j w at_j.
      let next : k + 1 + j ≡ k + suc j = omega arith in
      ap (slice_get args) next ∙ all (suc j) w at_j) i v at

  behind : (k : ℕ) (xs ys : List (Import Mark)) → HoldFrom args k (values_of (xs ++ ys))
      → HoldFrom args (k + length xs) (values_of ys)
  behind k [] ys all i v at =
      let place : k + i ≡ k + 0 + i = omega arith in
      ap (slice_get args) (sym place) ∙ all i v at
  behind k (x ∷ xs) ys all i v at =
      let place : k + 1 + length xs + i ≡ k + suc (length xs) + i = omega arith in
      ap (slice_get args) (sym place)
      ∙ behind (k + 1) xs ys (λ j w at_j.
      let next : k + 1 + j ≡ k + suc j = omega arith in
      ap (slice_get args) next ∙ all (suc j) w at_j) i v at

  -- values that may be left out, at their places
  function_found : (k : ℕ) (s : Mark) (v : MaybeValue Mark) → HoldFrom args k (values_of (function_if s v))
      → chosen args (place_at k v) ≡ Some v
  function_found k s value.no_value all = refl
  function_found k s (value.a_value v) all =
      let place : k + 0 ≡ k = omega arith in
      ap (option_map value.a_value) (ap (slice_get args) (sym place) ∙ all 0 v refl)

  memory_found : (k : ℕ) (w : Bool) (v : MaybeValue Mark) → HoldFrom args k (values_of (memory_if w v))
      → chosen args (place_at k v) ≡ Some v
  memory_found k w value.no_value all = refl
  memory_found k w (value.a_value v) all =
      let place : k + 0 ≡ k = omega arith in
      ap (option_map value.a_value) (ap (slice_get args) (sym place) ∙ all 0 v refl)

  function_length : (s : Mark) (v : MaybeValue Mark) → length (function_if s v) ≡ taken v
  function_length s value.no_value = refl
  function_length s (value.a_value v) = refl

  memory_length : (w : Bool) (v : MaybeValue Mark) → length (memory_if w v) ≡ taken v
  memory_length w value.no_value = refl
  memory_length w (value.a_value v) = refl

  model_length : (s : Mark) (w : Bool) (m : DataModel Mark)
      → length (memory_if w (memory_in m) ++ function_if s (realloc_in m)) ≡ model_taken m
  model_length s w value.gc = refl
  model_length s w (value.linear memory realloc) =
      length-append (memory_if w memory) (function_if s realloc)
      ∙ (λ i. memory_length w memory i + function_length s realloc i)

  pub side_length : (s : Mark) (w : Bool) (c : ℕ) (e : StringEncoding) (a : Bool) (t : Mark) (cb pr : MaybeValue Mark)
      (m : DataModel Mark) → length (side s w m cb pr) ≡ side_taken (value.options c e a t cb pr m)
  side_length s w c e a t cb pr m =
      let model = memory_if w (memory_in m) ++ function_if s (realloc_in m) in
      length-append (model ++ function_if s cb) (function_if s pr)
      ∙ ap (λ n. n + length (function_if s pr)) (length-append model (function_if s cb))
      ∙ (λ i. model_length s w m i + function_length s cb i + function_length s pr i)

  -- a memory and a realloc
  model_found : (p : PlanView Mark) (k : ℕ) (s : Mark) (w : Bool) (m : DataModel Mark)
      → HoldFrom args k (values_of (memory_if w (memory_in m) ++ function_if s (realloc_in m)))
      → model_from p args args (model_places k m) ≡ Some m
  model_found p k s w value.gc all = refl
  model_found p k s w (value.linear memory realloc) all =
      let first = memory_found k w memory (front k (memory_if w memory) (function_if s realloc) all) in
      let place = ap (λ n. k + n) (memory_length w memory) in
      let second = ap (λ n. chosen args (place_at n realloc)) (sym place)
      ∙ function_found (k + length (memory_if w memory)) s realloc
      (behind k (memory_if w memory) (function_if s realloc) all) in
      λ i. option_and_then (λ v. option_map (value.linear v) (second i)) (first i)

  -- the options of a side
  side_found : (p : PlanView Mark) (k : ℕ) (s : Mark) (w : Bool) (c : ℕ) (e : StringEncoding) (a : Bool) (t : Mark)
      (cb pr : MaybeValue Mark) (m : DataModel Mark) → HoldFrom args k (values_of (side s w m cb pr))
      → is_counted p c ≡ true
      → side_options p args (side_places k (value.options c e a t cb pr m)) ≡ Some (value.options c e a t cb pr m)
  side_found p k s w c e a t cb pr m all counted =
      let model = memory_if w (memory_in m) ++ function_if s (realloc_in m) in
      let calls = function_if s cb in
      let returns = function_if s pr in
      let three = front k (model ++ calls) returns all in
      let of_model = model_found p k s w m (front k model calls three) in
      let at_model = ap (λ n. k + n) (model_length s w m) in
      let of_callback = ap (λ n. chosen args (place_at n cb)) (sym at_model)
      ∙ function_found (k + length model) s cb (behind k model calls three) in
      let at_calls : k + length (model ++ calls) ≡ k + model_taken m + taken cb =
      omega (arith, length-append model calls, model_length s w m, function_length s cb) in
      let of_return = ap (λ n. chosen args (place_at n pr)) (sym at_calls)
      ∙ function_found (k + length (model ++ calls)) s pr (behind k (model ++ calls) returns all) in
      assembled (is_counted p c) (chosen args (place_at (k + model_taken m) cb))
      (chosen args (place_at (k + model_taken m + taken cb) pr)) (model_from p args args (model_places k m)) cb pr m
      (value.options c e a t) counted of_callback of_return of_model

  -- the whole adapter
  whole : (p : PlanView Mark) (m f k n : ℕ) (lift lower : FunctionFacts) (b lw ww : Bool) (ty : Mark) (c : ℕ)
      (e : StringEncoding) (a : Bool) (s : Mark) (cb pr : MaybeValue Mark) (o : DataModel Mark) (ty2 : Mark) (c2 : ℕ)
      (e2 : StringEncoding) (a2 : Bool) (s2 : Mark) (cb2 pr2 : MaybeValue Mark) (o2 : DataModel Mark)
      (v : CoreValue Mark)
      → HoldFrom args k (values_of (planned lift lower b lw ww (value.adapter ty (value.options c e a s cb pr o) ty2
      (value.options c2 e2 a2 s2 cb2 pr2 o2) v)))
      → is_counted p c ≡ true → is_counted p c2 ≡ true
      → adapter_from p args (record {
        core_module = m;
        adapter = n;
        function = f;
        callee = k;
        lift_type = ty;
        lift = side_places (k + 3) (value.options c e a s cb pr o);
        lower_type = ty2;
        lower = side_places (k + 3 + side_taken (value.options c e a s cb pr o)) (value.options c2 e2 a2 s2 cb2 pr2 o2);
      })
      ≡ Some (value.adapter ty (value.options c e a s cb pr o) ty2 (value.options c2 e2 a2 s2 cb2 pr2 o2) v)
  unfolding planned
  whole p m f k n lift lower b lw ww ty c e a s cb pr o ty2 c2 e2 a2 s2 cb2 pr2 o2 v all counted counted2 =
      let ps1 = function s v ∷ flags_of c2 ∷ flags_of c ∷ [] in
      let ps2 = side s2 lw o cb pr in
      let ps3 = side s2 ww o2 cb2 pr2 in
      let ps4 = if lift.params.string && lower.params.string
      then transcoders s2 (transcodings e2 e) ww lw (memory_in o2) (memory_in o) else [] in
      let ps5 = if lift.results.string && lower.results.string
      then transcoders s2 (transcodings e e2) lw ww (memory_in o) (memory_in o2) else [] in
      let ps6 = map (λ j. helper j [] s2 value.no_parts) (transfers (join (all_facts lift) (all_facts lower))) in
      let ps7 = calls s2 (a || a2 || lift.is_async || lower.is_async) b (memory_in o) cb pr in
      let ps8 = helper kind.Trap (1 ∷ []) s2 value.no_parts ∷ [] in
      let sides = front k (ps1 ++ ps2 ++ ps3) ps4 (front k (ps1 ++ ps2 ++ ps3 ++ ps4) ps5
      (front k (ps1 ++ ps2 ++ ps3 ++ ps4 ++ ps5) ps6 (front k (ps1 ++ ps2 ++ ps3 ++ ps4 ++ ps5 ++ ps6) ps7
      (front k (ps1 ++ ps2 ++ ps3 ++ ps4 ++ ps5 ++ ps6 ++ ps7) ps8 all)))) in
      let one = front k (ps1 ++ ps2) ps3 sides in
      let lifted = side_found p (k + 3) s2 lw c e a s cb pr o (behind k ps1 ps2 one) counted in
      let place : k + length (ps1 ++ ps2) ≡ k + 3 + side_taken (value.options c e a s cb pr o) =
      omega (arith, length-append ps1 ps2, side_length s2 lw c e a s cb pr o) in
      let lowered = side_found p (k + 3 + side_taken (value.options c e a s cb pr o)) s2 ww c2 e2 a2 s2 cb2 pr2 o2
      (subst (λ j. HoldFrom args j (values_of ps3)) place (behind k (ps1 ++ ps2) ps3 sides)) counted2 in
      let here : k + 0 ≡ k = omega arith in
      let called : slice_get args k ≡ Some v = ap (slice_get args) (sym here) ∙ all 0 v refl in
      λ i. option_and_then (λ x. option_and_then (λ y. option_map (value.adapter ty x ty2 y) (called i)) (lowered i))
      (lifted i)

-- of two that hold, each holds
both_hold : (a b : Bool) → (a && b) ≡ true → (a ≡ true) × (b ≡ true)
both_hold true b e = (refl, e)
both_hold false b e = absurd (true≢false (sym e))

none_isn't : {r : AdapterRecord Mark} → None ≡ Some r → ⊥
none_isn't e = grind (arith, e)

-- an adapter is told from its record
pub found : (p : PlanView Mark) (args : List (CoreValue Mark)) (m f k n : ℕ) (lift lower : FunctionFacts)
    (b lw ww : Bool) (v : CoreValue Mark) (r : AdapterRecord Mark)
    → HoldFrom args k (values_of (planned lift lower b lw ww v)) → are_counted p v ≡ true
    → record_at m f k n v ≡ Some r → adapter_from p args r ≡ Some v
found p args m f k n lift lower b lw ww
    (value.adapter ty (value.options c e a s cb pr o) ty2 (value.options c2 e2 a2 s2 cb2 pr2 o2) v) r all counted is =
    let both = both_hold (is_counted p c) (is_counted p c2) counted in
    ap (adapter_from p args) (sym (same_Some _ r is))
    ∙ whole args p m f k n lift lower b lw ww ty c e a s cb pr o ty2 c2 e2 a2 s2 cb2 pr2 o2 v all both.0 both.1
found p args m f k n lift lower b lw ww (value.exported i item) r all counted is = absurd (none_isn't is)
found p args m f k n lift lower b lw ww (value.lowered path ty o) r all counted is = absurd (none_isn't is)
found p args m f k n lift lower b lw ww (value.builtin i c ps) r all counted is = absurd (none_isn't is)
found p args m f k n lift lower b lw ww (value.intrinsic i) r all counted is = absurd (none_isn't is)
found p args m f k n lift lower b lw ww (value.flags c) r all counted is = absurd (none_isn't is)
found p args m f k n lift lower b lw ww (value.helper i ps) r all counted is = absurd (none_isn't is)
