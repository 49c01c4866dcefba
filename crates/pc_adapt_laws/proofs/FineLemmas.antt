-- What is planned for an adapter names nothing but what the adapter names.
use Rattle.std.proofs.Common.{◌≡◌, zero, suc, Bool, true, false, ◌&&◌, ◌||◌, List, [], ◌∷◌, ◌++◌, map, refl, sym}
use Rattle.std.proofs.Common.{subst, arith, All, inl, inr}
use Rattle.std.specs.Prelude.{Contains, if◌then◌else◌}
use Rattle.std.proofs.lemmas.List.Elements.{All-nil, All-cons, All-append, All-contains, Contains-append_left}
use Rattle.std.proofs.lemmas.List.Elements.{Contains-append_right, Contains-append_cases}
use Rattle.pc_types.specs.declared.trampoline.TrampolineKind.{TrampolineKind}
use Rattle.pc_types.specs.declared.trampoline.TrampolineKind.TheVariants as kind
use Rattle.pc_types_lists.specs.Facts.{join}
use Rattle.pc_spec_plan.specs.CoreValue as value
use Rattle.pc_spec_plan.specs.CoreValue.{CoreValue, DataModel, MaybeValue}
use Rattle.pc_trampoline.specs.declared.part.Mark.{Mark}
use Rattle.pc_trampoline.specs.declared.transcode.Transcode.{Transcode}
use Rattle.pc_spec_adapt.specs.Asked.{FunctionFacts}
use Rattle.pc_spec_adapt.specs.Import.{Import}
use Rattle.pc_spec_adapt.specs.Named.{Named, in_adapter, named, named_maybe, named_model, named_parts}
use Rattle.pc_spec_adapt.specs.Planned.{all_facts, calls, flags_of, function, function_if, helper, memory_if, memory_in}
use Rattle.pc_spec_adapt.specs.Planned.{one, planned, realloc_in, side, transcoder, transcoders, transcodings}
use Rattle.pc_spec_adapt.specs.Planned.{transfers, two}
use Rattle.pc_adapt_laws.specs.Found.{values_of}

module _ (target : List (Named Mark)) where
  -- what is named stands in the target
  abbrev Fine : List (Named Mark) → Type 0
  Fine ns = (y : Named Mark) → Contains ns y → Contains target y

  -- the same of what each import names
  abbrev AreFine : List (Import Mark) → Type 0
  AreFine xs = All (λ (i : Import Mark). Fine (named i.value)) xs

  fine_none : Fine []
  fine_none y (k, below, is) = absurd (omega (arith, below))

  fine_both : (a b : List (Named Mark)) → Fine a → Fine b → Fine (a ++ b)
  fine_both a b fa fb y inside =
      elim (Contains-append_cases a b y inside) [ inl left ↦ fa y left | inr right ↦ fb y right ]

  fine_left : (a b : List (Named Mark)) → Fine (a ++ b) → Fine a
  fine_left a b f y inside = f y (Contains-append_left a b y inside)

  fine_right : (a b : List (Named Mark)) → Fine (a ++ b) → Fine b
  fine_right a b f y inside = f y (Contains-append_right a b y inside)

  none_fine : AreFine []
  none_fine = All-nil (λ (i : Import Mark). Fine (named i.value))

  and_fine : (i : Import Mark) (xs : List (Import Mark)) → Fine (named i.value) → AreFine xs → AreFine (i ∷ xs)
  and_fine i xs here rest = All-cons (λ (j : Import Mark). Fine (named j.value)) i xs here rest

  both_fine : (xs ys : List (Import Mark)) → AreFine xs → AreFine ys → AreFine (xs ++ ys)
  both_fine xs ys a b = All-append (λ (j : Import Mark). Fine (named j.value)) xs ys a b

  function_fine : (s : Mark) (v : MaybeValue Mark) → Fine (named_maybe v) → AreFine (function_if s v)
  function_fine s value.no_value f = none_fine
  function_fine s (value.a_value v) f = and_fine (function s v) [] f none_fine

  memory_fine : (w : Bool) (v : MaybeValue Mark) → Fine (named_maybe v) → AreFine (memory_if w v)
  memory_fine w value.no_value f = none_fine
  memory_fine w (value.a_value v) f = and_fine _ [] f none_fine

  memory_within : (m : DataModel Mark) → Fine (named_model m) → Fine (named_maybe (memory_in m))
  memory_within value.gc f = fine_none
  memory_within (value.linear m r) f = fine_left (named_maybe m) (named_maybe r) f

  realloc_within : (m : DataModel Mark) → Fine (named_model m) → Fine (named_maybe (realloc_in m))
  realloc_within value.gc f = fine_none
  realloc_within (value.linear m r) f = fine_right (named_maybe m) (named_maybe r) f

  side_fine : (s : Mark) (w : Bool) (m : DataModel Mark) (cb pr : MaybeValue Mark) → Fine (named_maybe cb)
      → Fine (named_maybe pr) → Fine (named_model m) → AreFine (side s w m cb pr)
  side_fine s w m cb pr fcb fpr fm =
      let xs = memory_if w (memory_in m) in
      let ys = function_if s (realloc_in m) in
      let zs = function_if s cb in
      let ws = function_if s pr in
      both_fine (xs ++ ys ++ zs) ws (both_fine (xs ++ ys) zs (both_fine xs ys
      (memory_fine w (memory_in m) (memory_within m fm)) (function_fine s (realloc_in m) (realloc_within m fm)))
      (function_fine s cb fcb)) (function_fine s pr fpr)

  one_fine : (a : MaybeValue Mark) → Fine (named_maybe a) → Fine (named_parts (one a))
  one_fine a fa = fine_both (named_maybe a) [] fa fine_none

  two_fine : (a b : MaybeValue Mark) → Fine (named_maybe a) → Fine (named_maybe b) → Fine (named_parts (two a b))
  two_fine a b fa fb = fine_both (named_maybe a) (named_maybe b ++ []) fa (one_fine b fb)

  each_fine : (s : Mark) (fw tw : Bool) (v w : CoreValue Mark) → Fine (named v) → Fine (named w)
      → (ops : List Transcode) → AreFine (map (transcoder s fw tw v w) ops)
  each_fine s fw tw v w fv fw' [] = none_fine
  each_fine s fw tw v w fv fw' (op ∷ ops) =
      and_fine (transcoder s fw tw v w op) (map (transcoder s fw tw v w) ops)
      (two_fine (value.a_value v) (value.a_value w) fv fw') (each_fine s fw tw v w fv fw' ops)

  transcoders_fine : (s : Mark) (ops : List Transcode) (fw tw : Bool) (from to : MaybeValue Mark)
      → Fine (named_maybe from) → Fine (named_maybe to) → AreFine (transcoders s ops fw tw from to)
  transcoders_fine s ops fw tw value.no_value to ff ft = none_fine
  transcoders_fine s ops fw tw (value.a_value v) value.no_value ff ft = none_fine
  transcoders_fine s ops fw tw (value.a_value v) (value.a_value w) ff ft = each_fine s fw tw v w ff ft ops

  if_fine : (b : Bool) (xs : List (Import Mark)) → AreFine xs → AreFine (if b then xs else [])
  if_fine true xs f = f
  if_fine false xs f = none_fine

  helpers_fine : (s : Mark) (ks : List TrampolineKind) → AreFine (map (λ k. helper k [] s value.no_parts) ks)
  helpers_fine s [] = none_fine
  helpers_fine s (k ∷ ks) =
      and_fine (helper k [] s value.no_parts) (map (λ k. helper k [] s value.no_parts) ks) fine_none
      (helpers_fine s ks)

  calls_fine : (s : Mark) (a t : Bool) (m cb pr : MaybeValue Mark) → Fine (named_maybe m) → Fine (named_maybe cb)
      → Fine (named_maybe pr) → AreFine (calls s a t m cb pr)
  calls_fine s true t m cb pr fm fcb fpr =
      and_fine (helper kind.PrepareCall [] s (one m)) (helper kind.StartCall [] s (two cb pr) ∷ []) (one_fine m fm)
      (and_fine (helper kind.StartCall [] s (two cb pr)) [] (two_fine cb pr fcb fpr) none_fine)
  calls_fine s false true m cb pr fm fcb fpr = none_fine
  calls_fine s false false m cb pr fm fcb fpr =
      and_fine (helper kind.EnterSyncCall [] s value.no_parts) (helper kind.ExitSyncCall [] s value.no_parts ∷ [])
      fine_none (and_fine (helper kind.ExitSyncCall [] s value.no_parts) [] fine_none none_fine)

  eight_fine : (a b c d e f h i : List (Import Mark)) → AreFine a → AreFine b → AreFine c → AreFine d → AreFine e
      → AreFine f → AreFine h → AreFine i → AreFine (a ++ b ++ c ++ d ++ e ++ f ++ h ++ i)
  eight_fine a b c d e f h i fa fb fc fd fe ff fh fi =
      both_fine (a ++ b ++ c ++ d ++ e ++ f ++ h) i (both_fine (a ++ b ++ c ++ d ++ e ++ f) h
      (both_fine (a ++ b ++ c ++ d ++ e) f (both_fine (a ++ b ++ c ++ d) e (both_fine (a ++ b ++ c) d
      (both_fine (a ++ b) c (both_fine a b fa fb) fc) fd) fe) ff) fh) fi

-- each import names nothing but what the adapter names
planned_fine : (lift lower : FunctionFacts) (b lw ww : Bool) (v : CoreValue Mark)
    → AreFine (in_adapter v) (planned lift lower b lw ww v)
unfolding planned
planned_fine lift lower b lw ww
    (value.adapter ty (value.options c e a s cb pr m) ty2 (value.options c2 e2 a2 s2 cb2 pr2 m2) v) =
    let l = named_maybe cb ++ named_maybe pr ++ named_model m in
    let r = named_maybe cb2 ++ named_maybe pr2 ++ named_model m2 in
    let g = named v ++ l ++ r in
    let all : Fine g g = λ y inside. inside in
    let fl : Fine g l = fine_right g (named v) l (fine_left g (named v ++ l) r all) in
    let fr : Fine g r = fine_right g (named v ++ l) r all in
    let fv : Fine g (named v) = fine_left g (named v) l (fine_left g (named v ++ l) r all) in
    let fns = fine_left g (named_maybe cb ++ named_maybe pr) (named_model m) fl in
    let fcb = fine_left g (named_maybe cb) (named_maybe pr) fns in
    let fpr = fine_right g (named_maybe cb) (named_maybe pr) fns in
    let fm = fine_right g (named_maybe cb ++ named_maybe pr) (named_model m) fl in
    let fns2 = fine_left g (named_maybe cb2 ++ named_maybe pr2) (named_model m2) fr in
    let fcb2 = fine_left g (named_maybe cb2) (named_maybe pr2) fns2 in
    let fpr2 = fine_right g (named_maybe cb2) (named_maybe pr2) fns2 in
    let fm2 = fine_right g (named_maybe cb2 ++ named_maybe pr2) (named_model m2) fr in
    let mem = memory_within g m fm in
    let mem2 = memory_within g m2 fm2 in
    let params = transcoders s2 (transcodings e2 e) ww lw (memory_in m2) (memory_in m) in
    let results = transcoders s2 (transcodings e e2) lw ww (memory_in m) (memory_in m2) in
    let ks = transfers (join (all_facts lift) (all_facts lower)) in
    let is_async = a || a2 || lift.is_async || lower.is_async in
    eight_fine g (function s v ∷ flags_of c2 ∷ flags_of c ∷ []) (side s2 lw m cb pr) (side s2 ww m2 cb2 pr2)
    (if lift.params.string && lower.params.string then params else [])
    (if lift.results.string && lower.results.string then results else [])
    (map (λ k. helper k [] s2 value.no_parts) ks) (calls s2 is_async b (memory_in m) cb pr)
    (helper kind.Trap (1 ∷ []) s2 value.no_parts ∷ [])
    (and_fine g (function s v) (flags_of c2 ∷ flags_of c ∷ []) fv
    (and_fine g (flags_of c2) (flags_of c ∷ []) (fine_none g)
    (and_fine g (flags_of c) [] (fine_none g) (none_fine g))))
    (side_fine g s2 lw m cb pr fcb fpr fm) (side_fine g s2 ww m2 cb2 pr2 fcb2 fpr2 fm2)
    (if_fine g (lift.params.string && lower.params.string) params
    (transcoders_fine g s2 (transcodings e2 e) ww lw (memory_in m2) (memory_in m) mem2 mem))
    (if_fine g (lift.results.string && lower.results.string) results
    (transcoders_fine g s2 (transcodings e e2) lw ww (memory_in m) (memory_in m2) mem mem2))
    (helpers_fine g s2 ks) (calls_fine g s2 is_async b (memory_in m) cb pr mem fcb fpr)
    (and_fine g (helper kind.Trap (1 ∷ []) s2 value.no_parts) [] (fine_none g) (none_fine g))
planned_fine lift lower b lw ww (value.exported n item) = none_fine []
planned_fine lift lower b lw ww (value.lowered path ty o) = none_fine []
planned_fine lift lower b lw ww (value.builtin k c ps) = none_fine []
planned_fine lift lower b lw ww (value.intrinsic i) = none_fine []
planned_fine lift lower b lw ww (value.flags c) = none_fine []
planned_fine lift lower b lw ww (value.helper k ps) = none_fine []

-- an import of a value
of_value : (x : CoreValue Mark) (is : List (Import Mark)) → Contains (values_of is) x
    → (i : Import Mark) × Contains is i × (i.value ≡ x)
of_value x [] (k, below, is) = absurd (omega (arith, below))
of_value x (i ∷ is) (zero, below, e) = (i, (0, omega arith, refl), e)
of_value x (i ∷ is) (suc k, below, e) =
    let rest = of_value x is (k, omega (arith, below), e) in
    (rest.0, (suc rest.1.0, omega (arith, rest.1.1), rest.1.2), rest.2)

-- what is named in what is planned is named in the adapter
pub planned_names : (lift lower : FunctionFacts) (b lw ww : Bool) (v x : CoreValue Mark) (y : Named Mark)
    → Contains (values_of (planned lift lower b lw ww v)) x → Contains (named x) y → Contains (in_adapter v) y
planned_names lift lower b lw ww v x y inside names =
    let there = of_value x (planned lift lower b lw ww v) inside in
    All-contains (λ (j : Import Mark). Fine (in_adapter v) (named j.value)) (planned lift lower b lw ww v) there.0
    (planned_fine lift lower b lw ww v) there.1 y (subst (λ z. Contains (named z) y) (sym there.2) names)
