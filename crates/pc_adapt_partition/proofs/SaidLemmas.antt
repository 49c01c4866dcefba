-- What is said of the adapters of a module, over the values of its arguments.
use Rattle.std.proofs.Common.{◌≡◌, ◌<◌, ◌≤◌, ◌&&◌, ◌||◌, ℕ, zero, suc, ◌+◌, Bool, true, List, [], ◌∷◌, ◌++◌}
use Rattle.std.proofs.Common.{length, map, Some, refl, sym, ap, subst, ◌∙◌, arith, length-append, eq-eqb}
use Rattle.std.proofs.Common.{ne_eqb, lt-ltb}
use Rattle.std.specs.Prelude.{slice_get, if◌then◌else◌}
use Rattle.std.specs.List.{cons_option, list_all}
use Rattle.std.proofs.lemmas.List.{length-map}
use Rattle.pc_entity.proofs.Growing.{slice_get-append}
use Rattle.pc_types.specs.declared.trampoline.TrampolineKind.TheVariants as kind
use Rattle.pc_types_lists.specs.Facts.{join}
use Rattle.pc_spec_plan.specs.CoreValue as value
use Rattle.pc_spec_plan.specs.CoreValue.{CoreValue, DataModel, MaybeValue, Options}
use Rattle.pc_spec_plan.specs.Machine.{has_model_places, has_option_places, has_places, is_place, record_of}
use Rattle.pc_spec_plan.specs.PlanView as plan
use Rattle.pc_trampoline.specs.declared.part.Mark.{Mark}
use Rattle.pc_spec_adapt.specs.Asked.{FunctionFacts}
use Rattle.pc_spec_adapt.specs.Import.{Import}
use Rattle.pc_spec_adapt.specs.Planned.{all_facts, calls, flags_of, function, helper, memory_in, planned, side}
use Rattle.pc_spec_adapt.specs.Planned.{transcoders}
use Rattle.pc_spec_adapt.specs.Planned.{transcodings, transfers}
use Rattle.pc_spec_adapt.specs.Record.{Member, model_places, model_taken, place_at, record_at, records_from}
use Rattle.pc_spec_adapt.specs.Record.{side_places}
use Rattle.pc_spec_adapt.specs.Record.{side_taken, taken}
use Rattle.pc_adapt_laws.specs.Found.{HoldFrom, values_of}
use Rattle.pc_adapt_laws.proofs.FoundLemmas.{side_length}
use Rattle.pc_adapt_partition.specs.Adapted.{values_for}
use Rattle.pc_adapt_partition.proofs.PlaceLemmas.{get_right, no_item, same_item}
use Rattle.pc_adapt_partition.proofs.RecordLemmas.{values_more}

-- a member of a module is an adapter with what is planned for it
pub record IsAdapter (x : Member Mark) : Type 0 where
  pub lift_facts : FunctionFacts
  pub lower_facts : FunctionFacts
  pub clear : Bool
  pub lift_wide : Bool
  pub lower_wide : Bool
  pub lift_type : Mark
  pub lift : Options Mark
  pub lower_type : Mark
  pub lower : Options Mark
  pub callee : CoreValue Mark
  pub is : x.adapter ≡ value.adapter lift_type lift lower_type lower callee
  pub imports : x.imports ≡ planned lift_facts lower_facts clear lift_wide lower_wide x.adapter

-- so are all members
abbrev pub AreAllAdapters : List (Member Mark) → Type 0
AreAllAdapters xs = (k : ℕ) (x : Member Mark) → slice_get xs k ≡ Some x → IsAdapter x

-- what is planned begins with the callee, two flags and what the options of both sides hold
planned_long : (lift lower : FunctionFacts) (b lw ww : Bool) (ty : Mark) (o : Options Mark) (ty2 : Mark)
    (p : Options Mark) (v : CoreValue Mark)
    → 3 + side_taken o + side_taken p ≤ length (planned lift lower b lw ww (value.adapter ty o ty2 p v))
unfolding planned
planned_long lift lower b lw ww ty (value.options c e a s cb pr m) ty2 (value.options c2 e2 a2 s2 cb2 pr2 m2) v =
    let ps1 = function s v ∷ flags_of c2 ∷ flags_of c ∷ [] in
    let ps2 = side s2 lw m cb pr in
    let ps3 = side s2 ww m2 cb2 pr2 in
    let ps4 = if lift.params.string && lower.params.string
    then transcoders s2 (transcodings e2 e) ww lw (memory_in m2) (memory_in m) else [] in
    let ps5 = if lift.results.string && lower.results.string
    then transcoders s2 (transcodings e e2) lw ww (memory_in m) (memory_in m2) else [] in
    let ps6 = map (λ j. helper j [] s2 value.no_parts) (transfers (join (all_facts lift) (all_facts lower))) in
    let ps7 = calls s2 (a || a2 || lift.is_async || lower.is_async) b (memory_in m) cb pr in
    let ps8 = helper kind.Trap (1 ∷ []) s2 value.no_parts ∷ [] in
    eight ps1 ps2 ps3 ps4 ps5 ps6 ps7 ps8 (side_taken (value.options c e a s cb pr m))
    (side_taken (value.options c2 e2 a2 s2 cb2 pr2 m2)) refl (side_length [] s2 lw c e a s cb pr m)
    (side_length [] s2 ww c2 e2 a2 s2 cb2 pr2 m2)
  where
    eight : (ps1 ps2 ps3 ps4 ps5 ps6 ps7 ps8 : List (Import Mark)) (k l : ℕ) → length ps1 ≡ 3 → length ps2 ≡ k
        → length ps3 ≡ l → 3 + k + l ≤ length (ps1 ++ ps2 ++ ps3 ++ ps4 ++ ps5 ++ ps6 ++ ps7 ++ ps8)
    eight ps1 ps2 ps3 ps4 ps5 ps6 ps7 ps8 k l first second third =
        omega (
          arith,
          first,
          second,
          third,
          length-append (ps1 ++ ps2 ++ ps3 ++ ps4 ++ ps5 ++ ps6 ++ ps7) ps8,
          length-append (ps1 ++ ps2 ++ ps3 ++ ps4 ++ ps5 ++ ps6) ps7,
          length-append (ps1 ++ ps2 ++ ps3 ++ ps4 ++ ps5) ps6,
          length-append (ps1 ++ ps2 ++ ps3 ++ ps4) ps5,
          length-append (ps1 ++ ps2 ++ ps3) ps4,
          length-append (ps1 ++ ps2) ps3,
          length-append ps1 ps2,
        )

-- places are among so many arguments
is_placed : (n k : ℕ) (v : MaybeValue Mark) → k + taken v ≤ n → is_place n (place_at k v) ≡ true
is_placed n k value.no_value few = refl
is_placed n k (value.a_value v) few = lt-ltb k n (omega (arith, few))

model_placed : (n k : ℕ) (m : DataModel Mark) → k + model_taken m ≤ n → has_model_places n (model_places k m) ≡ true
model_placed n k value.gc few = refl
model_placed n k (value.linear memory realloc) few =
    let first = is_placed n k memory (omega (arith, few)) in
    let second = is_placed n (k + taken memory) realloc (omega (arith, few)) in
    λ i. first i && second i

side_placed : (n k : ℕ) (o : Options Mark) → k + side_taken o ≤ n → has_option_places n (side_places k o) ≡ true
side_placed n k (value.options c e a s cb pr m) few =
    let callback = is_placed n (k + model_taken m) cb (omega (arith, few)) in
    let post_return = is_placed n (k + model_taken m + taken cb) pr (omega (arith, few)) in
    let model = model_placed n k m (omega (arith, few)) in
    λ i. callback i && post_return i && model i

-- what is said of an adapter
pub record IsSaid (s f first : ℕ) (x : Member Mark) : Type 0 where
  pub said : plan.AdapterRecord Mark
  pub is : record_at s f first x.number x.adapter ≡ Some said
  pub function : said.function ≡ f
  -- its places are among those of its imports
  pub places : (n : ℕ) → first + length x.imports ≤ n → has_places n said ≡ true

is_said : (s f first : ℕ) (x : Member Mark) → IsAdapter x → IsSaid s f first x
is_said s f first x a =
    let long : 3 + side_taken a.lift + side_taken a.lower ≤ length x.imports =
    subst (λ n. 3 + side_taken a.lift + side_taken a.lower ≤ n)
    (ap (λ v. length (planned a.lift_facts a.lower_facts a.clear a.lift_wide a.lower_wide v)) (sym a.is)
    ∙ ap length (sym a.imports))
    (planned_long a.lift_facts a.lower_facts a.clear a.lift_wide a.lower_wide a.lift_type a.lift a.lower_type a.lower
    a.callee) in
    record {
      said = record {
        core_module = s;
        adapter = x.number;
        function = f;
        callee = first;
        lift_type = a.lift_type;
        lift = side_places (first + 3) a.lift;
        lower_type = a.lower_type;
        lower = side_places (first + 3 + side_taken a.lift) a.lower;
      };
      is = ap (record_at s f first x.number) a.is;
      function = refl;
      places = λ n few.
          let callee = lt-ltb first n (omega (arith, few, long)) in
          let lift = side_placed n (first + 3) a.lift (omega (arith, few, long)) in
          let lower = side_placed n (first + 3 + side_taken a.lift) a.lower (omega (arith, few, long)) in
          λ i. callee i && lift i && lower i;
    }

-- what is said of several begins with what is said of the first
said_first : (s f first : ℕ) (x : Member Mark) (xs : List (Member Mark)) (a : IsSaid s f first x)
    → records_from s f first (x ∷ xs) ≡ a.said ∷ records_from s (f + 1) (first + length x.imports) xs
said_first s f first x xs a =
    ap (λ o. cons_option o [] ++ records_from s (f + 1) (first + length x.imports) xs) a.is

-- of some something is said
pub some_said : (s f first : ℕ) (xs : List (Member Mark)) → AreAllAdapters xs → 0 < length xs
    → 0 < length (records_from s f first xs)
some_said s f first [] all none = absurd (omega (arith, none))
some_said s f first (x ∷ xs) all some =
    let many = ap length (said_first s f first x xs (is_said s f first x (all 0 x refl))) in
    omega (arith, many)

-- the places of what is said are among the arguments
pub all_placed : (n s f first : ℕ) (xs : List (Member Mark)) → AreAllAdapters xs
    → first + length (values_for xs) ≤ n → list_all (has_places n) (records_from s f first xs) ≡ true
all_placed n s f first [] all few = refl
all_placed n s f first (x ∷ xs) all few =
    let a = is_said s f first x (all 0 x refl) in
    let own = length-map x.imports (λ (i : Import Mark). i.value) in
    let long = ap length (values_more x xs) ∙ length-append (values_of x.imports) (values_for xs) in
    let here = a.places n (omega (arith, few, long, own)) in
    let rest = all_placed n s (f + 1) (first + length x.imports) xs (λ k y at. all (suc k) y at)
    (omega (arith, few, long, own)) in
    ap (list_all (has_places n)) (said_first s f first x xs a) ∙ (λ i. here i && rest i)

-- an adapter is found by its function, and its imports have their values
pub record IsFound (args : List (CoreValue Mark)) (rs : List (plan.AdapterRecord Mark)) (s f : ℕ) (y : Member Mark)
    : Type 0 where
  pub first : ℕ
  pub said : plan.AdapterRecord Mark
  pub is : record_at s f first y.number y.adapter ≡ Some said
  pub there : record_of rs f ≡ Some said
  pub hold : HoldFrom args first (values_of y.imports)

-- the first record of a function is the first one, or one of the others
here_found : (r : plan.AdapterRecord Mark) (rs : List (plan.AdapterRecord Mark)) (f : ℕ) → r.function ≡ f
    → record_of (r ∷ rs) f ≡ Some r
here_found r rs f same = ap (λ b. if b then Some r else record_of rs f) (eq-eqb r.function f same)

later_found : (r : plan.AdapterRecord Mark) (rs : List (plan.AdapterRecord Mark)) (f : ℕ) → (r.function ≡ f → ⊥)
    → record_of (r ∷ rs) f ≡ record_of rs f
later_found r rs f other = ap (λ b. if b then Some r else record_of rs f) (ne_eqb r.function f other)

pub is_found : (args : List (CoreValue Mark)) (s f first : ℕ) (xs : List (Member Mark)) (j : ℕ) (y : Member Mark)
    → AreAllAdapters xs → slice_get xs j ≡ Some y → HoldFrom args first (values_for xs)
    → IsFound args (records_from s f first xs) s (f + j) y
is_found args s f first [] j y all at hold = absurd (no_item y at)
is_found args s f first (x ∷ xs) zero y all at hold =
    let a = is_said s f first x (all 0 x refl) in
    let number : f ≡ f + 0 = omega arith in
    let rest = records_from s (f + 1) (first + length x.imports) xs in
    let own : IsFound args (records_from s f first (x ∷ xs)) s f x = record {
      first = first;
      said = a.said;
      is = a.is;
      there = ap (λ rs. record_of rs f) (said_first s f first x xs a) ∙ here_found a.said rest f a.function;
      hold = λ i v at_i. hold i v (ap (λ ws. slice_get ws i) (values_more x xs)
          ∙ slice_get-append (values_of x.imports) (values_for xs) i v at_i);
    } in
    subst (λ z. IsFound args (records_from s f first (x ∷ xs)) s (f + 0) z) (same_item at)
    (subst (λ k. IsFound args (records_from s f first (x ∷ xs)) s k x) number own)
is_found args s f first (x ∷ xs) (suc j) y all at hold =
    let a = is_said s f first x (all 0 x refl) in
    let number : f + 1 + j ≡ f + suc j = omega arith in
    let rest = records_from s (f + 1) (first + length x.imports) xs in
    let own = values_of x.imports in
    let many = length-map x.imports (λ (i : Import Mark). i.value) in
    let behind : HoldFrom args (first + length x.imports) (values_for xs) =
    λ i v at_i.
    let place : first + length x.imports + i ≡ first + (length own + i) = omega (arith, many) in
    ap (slice_get args) place
    ∙ hold (length own + i) v
    (ap (λ ws. slice_get ws (length own + i)) (values_more x xs) ∙ get_right own (values_for xs) i ∙ at_i) in
    let other : a.said.function ≡ f + suc j → ⊥ = λ e. omega (arith, a.function, e) in
    let later = subst (λ k. IsFound args rest s k y) number
    (is_found args s (f + 1) (first + length x.imports) xs j y (λ k z at_k. all (suc k) z at_k) at behind) in
    record {
      first = later.first;
      said = later.said;
      is = later.is;
      there = ap (λ rs. record_of rs (f + suc j)) (said_first s f first x xs a)
          ∙ later_found a.said rest (f + suc j) other
          ∙ later.there;
      hold = later.hold;
    }
