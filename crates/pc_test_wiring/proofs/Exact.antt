-- The facts of the plan of two adapters are exact.
use Rattle.std.proofs.Common.{◌≡◌, ◌≢◌, ◌<◌, ◌+◌, ◌-◌, length, ℕ, zero, suc, Bool, true, false, List, [], ◌∷◌, Option}
use Rattle.std.proofs.Common.{Some}
use Rattle.std.proofs.Common.{None, map, refl, sym, ap, ap₂, ◌∙◌, arith, All, slice_get, subst, option_and_then}
use Rattle.std.proofs.Common.{true≢false}
use Rattle.std.proofs.lemmas.List.Elements.{All-cons, All-nil}
use Rattle.std.proofs.lemmas.Option.{none-some, same_Some}
use Rattle.pc_numbers.specs.declared.entity_index.EntityIndex.{EntityIndex}
use Rattle.pc_numbers.specs.declared.entity_index.EntityIndex.TheVariants as index
use Rattle.pc_types.specs.declared.module_record.ModuleRecord.{ModuleRecord}
use Rattle.pc_types.specs.declared.parsed.CoreKind.{CoreKind}
use Rattle.pc_types.specs.declared.parsed.CoreKind.TheVariants as kind
use Rattle.pc_types.specs.declared.trampoline.TrampolineKind.{TrampolineKind}
use Rattle.pc_types.specs.declared.trampoline.TrampolineKind.TheVariants as trampoline
use Rattle.pc_types.specs.Record.{defined, entity_at, import_place, imported, index_number}
use Rattle.pc_spec_plan.specs.CoreValue.{by_index}
use Rattle.pc_spec_plan.specs.PlanView as plan
use Rattle.pc_spec_wiring.specs.Exported.{is_exported}
use Rattle.pc_spec_wiring.specs.Facts.{AreExact, RecordsSharing}
use Rattle.pc_spec_wiring.specs.Known.{IsGiven, IsKnownToImporters, Known, KnownFunction, Refers}
use Rattle.pc_spec_wiring.specs.Known.{a_defined, a_function, an_intrinsic, defined_entity, holds_data, known_enter}
use Rattle.pc_spec_wiring.specs.Known.{known_exit, known_function, known_intrinsic, known_trap, refers_to_defined}
use Rattle.pc_spec_wiring.specs.Known.{refers_to_flags}
use Rattle.pc_spec_wiring.specs.Known.{the_flags, traps}
use Rattle.pc_spec_wiring.specs.Origin.{ComesFrom, Core, Given, IsFrom, Origin, PlanEnd, an_end, cores_in}
use Rattle.pc_spec_wiring.specs.Origin.{defined_in, ended, from_end, from_item, given_by, imported_there, its_own}
use Rattle.pc_spec_wiring.specs.Origin.{of_host, of_record}
use Rattle.pc_spec_wiring.specs.Sharing.{AreRecorded}
use Rattle.pc_test_wiring.specs.TwoAdapters.{IsFunctionIn, IsKnownIn, adapting, adapting_arguments, facts, func_of}
use Rattle.pc_test_wiring.specs.TwoAdapters.{functions_of, globals_of, imports_of, lifting, lowering}
use Rattle.pc_test_wiring.specs.TwoAdapters.{lowering_arguments}
use Rattle.pc_test_wiring.specs.TwoAdapters.{records, representatives_of, steps, two_adapters}
use Rattle.pc_test_wiring.proofs.Apart.{apart, record_of}
use Rattle.pc_test_wiring.proofs.Contexts.{at_place, cores, together}
use Rattle.pc_test_wiring.proofs.Lines.{callee_0, callee_1, lift_flags_0, lift_flags_1, lower_flags_0, lower_flags_1}
use Rattle.pc_test_wiring.proofs.Lines.{lowered_0, lowered_1, trap_0, trap_1}

-- the number of the module of a core instance
abbrev number_of : Core PlanEnd → ℕ
number_of (of_record m r args) = m
number_of of_host = 0

-- an entity that the module of its instance defines comes from there
own_origin : (n m : ℕ) (r : ModuleRecord) (args : List (Given PlanEnd)) (e : EntityIndex) (o : Origin PlanEnd)
    → slice_get cores n ≡ Some (of_record m r args) → import_place r e ≡ None → ComesFrom cores n e o
    → o ≡ defined_in n m e
own_origin n m r args e o at none (its_own {m = m2} {r = r2} {given = args2} at2 none2 has) =
    ap (λ (k : ℕ). defined_in n k e)
    (ap number_of (same_Some (of_record m2 r2 args2) (of_record m r args) (sym at2 ∙ at)))
own_origin n m r args e o at none (imported_there {m = m2} {place} {r = r2} {given = args2} at2 imports gets from) =
    let same : r ≡ r2 =
    ap record_of (same_Some (of_record m r args) (of_record m2 r2 args2) (sym at ∙ at2)) in
    absurd (none-some place (sym (subst (λ (x : ModuleRecord). import_place x e ≡ None) same none) ∙ imports))

-- the module and the number of an origin
abbrev origin_module : Origin PlanEnd → ℕ
origin_module (defined_in n m e) = m
origin_module (ended x) = 0

abbrev origin_entity : Origin PlanEnd → ℕ
origin_entity (defined_in n m e) = index_number e
origin_entity (ended x) = 0

abbrev is_ended : Origin PlanEnd → Bool
is_ended (defined_in n m e) = false
is_ended (ended x) = true

-- what is no item isn't defined anywhere
end_is_ended : (x : PlanEnd) (o : Origin PlanEnd) → IsFrom cores (an_end x) o → is_ended o ≡ true
end_is_ended x o from_end = refl

-- what a definition is known to be, where it is a function
abbrev told_by : plan.Definition → Option KnownFunction
told_by (plan.export zero (by_index e)) = Some (a_function 0 0)
told_by (plan.export (suc zero) (by_index e)) = Some (a_function 0 0)
told_by (plan.export (suc (suc r)) (by_index e)) = Some (a_function 2 (index_number e - 4))
told_by (plan.trampoline t) = Some (traps 1)
told_by (plan.intrinsic i) = Some (an_intrinsic i)
told_by d = None

-- whatever function it is, this is told
abbrev IsTold : plan.Definition → Type 0
IsTold d = (m n : ℕ) → Refers records steps (is_exported two_adapters) d (a_defined m kind.Func n)
    → told_by d ≡ Some (a_function m n)

-- a function of a module, from where it comes
told_from : (instance m x number n : ℕ) (r : ModuleRecord) (from : ℕ) → slice_get records m ≡ Some r
    → imported r kind.Func ≡ from → (y : ℕ) (s : ModuleRecord) → slice_get records y ≡ Some s → (o : Origin PlanEnd)
    → o ≡ defined_in instance m (index.Function (record { 0 = number }))
    → o ≡ defined_in x y (defined_entity s kind.Func n)
    → Some (a_function m (number - from)) ≡ Some (a_function y n)
told_from instance m x number n r from at few y s at2 o e e2 =
    let modules : m ≡ y = ap origin_module (sym e ∙ e2) in
    let entities : number ≡ imported s kind.Func + n = ap origin_entity (sym e ∙ e2) in
    let same : r ≡ s =
    same_Some r s (sym at ∙ (ap (slice_get records) modules ∙ at2)) in
    let counts : imported s kind.Func ≡ from = sym (ap (λ (z : ModuleRecord). imported z kind.Func) same) ∙ few in
    let left : number - from ≡ n = omega (arith, entities, counts) in
    ap Some (ap₂ a_function modules left)

first_told : IsTold (func_of 0 0)
unfolding cores_in
first_told m n (refers_to_defined {instance} {r} at (from_item comes)) =
    told_from 0 0 instance 0 n lifting 0 refl refl m r at (defined_in instance m (defined_entity r kind.Func n))
    (own_origin 0 0 lifting [] (index.Function (record { 0 = 0 }))
    (defined_in instance m (defined_entity r kind.Func n)) refl refl comes) refl

second_told : IsTold (func_of 1 0)
unfolding cores_in
second_told m n (refers_to_defined {instance} {r} at (from_item comes)) =
    told_from 1 0 instance 0 n lifting 0 refl refl m r at (defined_in instance m (defined_entity r kind.Func n))
    (own_origin 1 0 lifting [] (index.Function (record { 0 = 0 }))
    (defined_in instance m (defined_entity r kind.Func n)) refl refl comes) refl

adapter_told : (f : ℕ) → import_place adapting (index.Function (record { 0 = f })) ≡ None → IsTold (func_of 2 f)
unfolding cores_in
adapter_told f none m n (refers_to_defined {instance} {r} at (from_item comes)) =
    told_from 2 2 instance f n adapting 4 refl refl m r at (defined_in instance m (defined_entity r kind.Func n))
    (own_origin 2 2 adapting (map given_by adapting_arguments) (index.Function (record { 0 = f }))
    (defined_in instance m (defined_entity r kind.Func n)) refl none comes) refl

flags_told : (c : ℕ) → IsTold (plan.flags c)
unfolding cores_in
flags_told c m n (refers_to_defined {instance} {r} at from) =
    absurd (true≢false (sym (end_is_ended _ (defined_in instance m (defined_entity r kind.Func n)) from)))

trampoline_told : (t : ℕ) → IsTold (plan.trampoline t)
unfolding cores_in
trampoline_told t m n (refers_to_defined {instance} {r} at from) =
    absurd (true≢false (sym (end_is_ended _ (defined_in instance m (defined_entity r kind.Func n)) from)))

lowering_told : All IsTold lowering_arguments
lowering_told =
    All-cons IsTold (func_of 2 4) (func_of 2 5 ∷ []) (adapter_told 4 refl)
    (All-cons IsTold (func_of 2 5) [] (adapter_told 5 refl) (All-nil IsTold))

adapting_told : All IsTold adapting_arguments
adapting_told =
    All-cons IsTold (func_of 0 0) (plan.flags 3 ∷ plan.flags 1 ∷ plan.trampoline 0
    ∷ func_of 1 0 ∷ plan.flags 3 ∷ plan.flags 2 ∷ plan.trampoline 0 ∷ []) first_told
    (All-cons IsTold (plan.flags 3) (plan.flags 1 ∷ plan.trampoline 0
    ∷ func_of 1 0 ∷ plan.flags 3 ∷ plan.flags 2 ∷ plan.trampoline 0 ∷ []) (flags_told 3)
    (All-cons IsTold (plan.flags 1) (plan.trampoline 0
    ∷ func_of 1 0 ∷ plan.flags 3 ∷ plan.flags 2 ∷ plan.trampoline 0 ∷ []) (flags_told 1)
    (All-cons IsTold (plan.trampoline 0) (func_of 1 0 ∷ plan.flags 3 ∷ plan.flags 2 ∷ plan.trampoline 0 ∷ [])
    (trampoline_told 0)
    (All-cons IsTold (func_of 1 0) (plan.flags 3 ∷ plan.flags 2 ∷ plan.trampoline 0 ∷ []) second_told
    (All-cons IsTold (plan.flags 3) (plan.flags 2 ∷ plan.trampoline 0 ∷ []) (flags_told 3)
    (All-cons IsTold (plan.flags 2) (plan.trampoline 0 ∷ []) (flags_told 2)
    (All-cons IsTold (plan.trampoline 0) [] (trampoline_told 0) (All-nil IsTold))))))))

-- the one trampoline is a trap with code 1
abbrev is_trap : TrampolineKind → Bool
is_trap trampoline.Trap = true
is_trap k = false

abbrev first_of : List ℕ → ℕ
first_of [] = 0
first_of (n ∷ ns) = n

abbrev IsTheTrap : plan.TrampolineEntry (Unit {0}) → Type 0
IsTheTrap (plan.helper k symbol parts) = (is_trap k ≡ true) × (first_of symbol ≡ 1)
IsTheTrap x = ⊥

the_trap : All IsTheTrap two_adapters.trampolines
the_trap =
    All-cons IsTheTrap (plan.helper trampoline.Trap (1 ∷ []) (plan.mark tt ∷ [])) [] (refl, refl) (All-nil IsTheTrap)

-- an import is given to a module
abbrev Gives : (m : ℕ) → CoreKind → (n : ℕ) → plan.Definition → Type 0
Gives m k n d = IsGiven records steps (is_exported two_adapters) m k n d

-- what is known of a function import is told by what it is given
known_told : (m f : ℕ) (x : KnownFunction) (args : List plan.Definition) → All IsTold args
    → ((d : plan.Definition) (g : Gives m kind.Func f d) → g.args ≡ args) → IsFunctionIn two_adapters m f x
    → (d : plan.Definition) × Gives m kind.Func f d × (told_by d ≡ Some x)
known_told m f x args told are (known_enter {t} {symbol} {parts} g at) =
    absurd (true≢false (sym (at_place IsTheTrap two_adapters.trampolines t
    (plan.helper trampoline.EnterSyncCall symbol parts) the_trap at).0))
known_told m f x args told are (known_exit {t} {symbol} {parts} g at) =
    absurd (true≢false (sym (at_place IsTheTrap two_adapters.trampolines t
    (plan.helper trampoline.ExitSyncCall symbol parts) the_trap at).0))
known_told m f x args told are (known_trap {t} {code} {parts} g at) = (
  plan.trampoline t,
  g,
  ap Some (ap traps (sym (at_place IsTheTrap two_adapters.trampolines t
      (plan.helper trampoline.Trap (code ∷ []) parts) the_trap at).1)),
)
known_told m f x args told are (known_intrinsic {i} g) = (plan.intrinsic i, g, refl)
known_told m f x args told are (known_function {d} {m = y} {n} g refers) = (
  d,
  g,
  at_place IsTold args g.place d told
      (subst (λ (ds : List plan.Definition). slice_get ds g.place ≡ Some d) (are d g) g.gets) y n refers,
)

-- what an import of a module is given, by the place of the import
given_at : (m : ℕ) (r : ModuleRecord) (args : List plan.Definition) (k : CoreKind) (n : ℕ) (d : plan.Definition)
    → slice_get records m ≡ Some r → (g : Gives m k n d) → g.args ≡ args
    → option_and_then (slice_get args) (import_place r (entity_at k n)) ≡ Some d
given_at m r args k n d at g are =
    ap (λ (z : ModuleRecord). option_and_then (slice_get args) (import_place z (entity_at k n)))
    (same_Some r g.core_module (sym at ∙ g.is))
    ∙ (ap (option_and_then (slice_get args)) g.imports
    ∙ subst (λ (ds : List plan.Definition). slice_get ds g.place ≡ Some d) are g.gets)

-- the arguments of both modules that have some
lowering_are : (k : CoreKind) (n : ℕ) (d : plan.Definition) (g : Gives 1 k n d) → g.args ≡ lowering_arguments
lowering_are k n d g = sym (g.one_way.only lowering_arguments (0, omega arith, refl))

adapting_are : (k : CoreKind) (n : ℕ) (d : plan.Definition) (g : Gives 2 k n d) → g.args ≡ adapting_arguments
adapting_are k n d g = sym (g.one_way.only adapting_arguments (0, omega arith, refl))

-- the first module imports nothing, and there are no more than three
lifting_none : (k : CoreKind) (n : ℕ) (d : plan.Definition) → ¬ (Gives 0 k n d)
lifting_none k n d g =
    none-some g.place (ap (λ (z : ModuleRecord). import_place z (entity_at k n))
    (same_Some lifting g.core_module g.is) ∙ g.imports)

past_none : (m : ℕ) (k : CoreKind) (n : ℕ) (d : plan.Definition) → ¬ (Gives (suc (suc (suc m))) k n d)
past_none m k n d g = none-some g.core_module g.is

-- what a function import is given tells what is recorded of it
lowering_recorded : (f : ℕ) (x : KnownFunction) → IsFunctionIn two_adapters 1 f x
    → option_and_then told_by (option_and_then (slice_get lowering_arguments)
    (import_place lowering (entity_at kind.Func f))) ≡ Some x
lowering_recorded f x is =
    let k : (d : plan.Definition) × Gives 1 kind.Func f d × (told_by d ≡ Some x) =
    known_told 1 f x lowering_arguments lowering_told (lowering_are kind.Func f) is in
    ap (option_and_then told_by)
    (given_at 1 lowering lowering_arguments kind.Func f k.0 refl k.1 (lowering_are kind.Func f k.0 k.1)) ∙ k.2

adapting_recorded : (f : ℕ) (x : KnownFunction) → IsFunctionIn two_adapters 2 f x
    → option_and_then told_by (option_and_then (slice_get adapting_arguments)
    (import_place adapting (entity_at kind.Func f))) ≡ Some x
adapting_recorded f x is =
    let k : (d : plan.Definition) × Gives 2 kind.Func f d × (told_by d ≡ Some x) =
    known_told 2 f x adapting_arguments adapting_told (adapting_are kind.Func f) is in
    ap (option_and_then told_by)
    (given_at 2 adapting adapting_arguments kind.Func f k.0 refl k.1 (adapting_are kind.Func f k.0 k.1)) ∙ k.2

-- some definition is given where a function is known
some_given : (m f : ℕ) (x : KnownFunction) → IsFunctionIn two_adapters m f x
    → (d : plan.Definition) × Gives m kind.Func f d
some_given m f x (known_enter {t} g at) = (plan.trampoline t, g)
some_given m f x (known_exit {t} g at) = (plan.trampoline t, g)
some_given m f x (known_trap {t} g at) = (plan.trampoline t, g)
some_given m f x (known_intrinsic {i} g) = (plan.intrinsic i, g)
some_given m f x (known_function {d} g refers) = (d, g)

functions_told : (m f : ℕ) (x : KnownFunction) → slice_get (functions_of m) f ≡ Some x
    → IsFunctionIn two_adapters m f x
functions_told zero f x e = absurd (none-some x e)
functions_told (suc zero) zero x e = subst (IsFunctionIn two_adapters 1 0) (same_Some (a_function 2 0) x e) lowered_0
functions_told (suc zero) (suc zero) x e =
    subst (IsFunctionIn two_adapters 1 1) (same_Some (a_function 2 1) x e) lowered_1
functions_told (suc zero) (suc (suc f)) x e = absurd (none-some x e)
functions_told (suc (suc zero)) zero x e =
    subst (IsFunctionIn two_adapters 2 0) (same_Some (a_function 0 0) x e) callee_0
functions_told (suc (suc zero)) (suc zero) x e = subst (IsFunctionIn two_adapters 2 1) (same_Some (traps 1) x e) trap_0
functions_told (suc (suc zero)) (suc (suc zero)) x e =
    subst (IsFunctionIn two_adapters 2 2) (same_Some (a_function 0 0) x e) callee_1
functions_told (suc (suc zero)) (suc (suc (suc zero))) x e =
    subst (IsFunctionIn two_adapters 2 3) (same_Some (traps 1) x e) trap_1
functions_told (suc (suc zero)) (suc (suc (suc (suc f)))) x e = absurd (none-some x e)
functions_told (suc (suc (suc m))) f x e = absurd (none-some x e)

functions_all : (m f : ℕ) (x : KnownFunction) → IsFunctionIn two_adapters m f x
    → slice_get (functions_of m) f ≡ Some x
functions_all zero f x is = let g : (d : plan.Definition) × Gives 0 kind.Func f d = some_given 0 f x is in
    absurd (lifting_none kind.Func f g.0 g.1)
functions_all (suc zero) zero x is = lowering_recorded 0 x is
functions_all (suc zero) (suc zero) x is = lowering_recorded 1 x is
functions_all (suc zero) (suc (suc f)) x is = lowering_recorded (suc (suc f)) x is
functions_all (suc (suc zero)) zero x is = adapting_recorded 0 x is
functions_all (suc (suc zero)) (suc zero) x is = adapting_recorded 1 x is
functions_all (suc (suc zero)) (suc (suc zero)) x is = adapting_recorded 2 x is
functions_all (suc (suc zero)) (suc (suc (suc zero))) x is = adapting_recorded 3 x is
functions_all (suc (suc zero)) (suc (suc (suc (suc f)))) x is = adapting_recorded (suc (suc (suc (suc f)))) x is
functions_all (suc (suc (suc m))) f x is =
    let g : (d : plan.Definition) × Gives (suc (suc (suc m))) kind.Func f d = some_given (suc (suc (suc m))) f x is in
    absurd (past_none m kind.Func f g.0 g.1)

-- flags are themselves alone
flags_alone : (c : ℕ) (x : Known) → Refers records steps (is_exported two_adapters) (plan.flags c) x
    → the_flags c ≡ x
unfolding cores_in
flags_alone c x (refers_to_defined {instance} {m} {n} {k} {r} at from) =
    absurd (true≢false (sym (end_is_ended _ (defined_in instance m (defined_entity r k n)) from)))
flags_alone c x refers_to_flags = refl

-- a global that is given flags is known to be these
global_at : (n c : ℕ) (x : Known) (is : IsKnownIn two_adapters 2 kind.Global n x)
    → option_and_then (slice_get adapting_arguments) (import_place adapting (entity_at kind.Global n))
    ≡ Some (plan.flags c)
    → Some (the_flags c) ≡ Some x
global_at n c x is at =
    let same : is.definition ≡ plan.flags c =
    same_Some is.definition (plan.flags c)
    (sym (given_at 2 adapting adapting_arguments kind.Global n is.definition refl is.given
    (adapting_are kind.Global n is.definition is.given)) ∙ at) in
    ap Some (flags_alone c x
    (subst (λ (d : plan.Definition). Refers records steps (is_exported two_adapters) d x) same is.refers))

globals_told : (n : ℕ) (x : Known) → slice_get (globals_of 2) n ≡ Some x → IsKnownIn two_adapters 2 kind.Global n x
globals_told zero x e = subst (IsKnownIn two_adapters 2 kind.Global 0) (same_Some (the_flags 3) x e) lower_flags_0
globals_told (suc zero) x e = subst (IsKnownIn two_adapters 2 kind.Global 1) (same_Some (the_flags 1) x e) lift_flags_0
globals_told (suc (suc zero)) x e =
    subst (IsKnownIn two_adapters 2 kind.Global 2) (same_Some (the_flags 3) x e) lower_flags_1
globals_told (suc (suc (suc zero))) x e =
    subst (IsKnownIn two_adapters 2 kind.Global 3) (same_Some (the_flags 2) x e) lift_flags_1
globals_told (suc (suc (suc (suc n)))) x e = absurd (none-some x e)

globals_all : (n : ℕ) (x : Known) → IsKnownIn two_adapters 2 kind.Global n x → slice_get (globals_of 2) n ≡ Some x
globals_all zero x is = global_at 0 3 x is refl
globals_all (suc zero) x is = global_at 1 1 x is refl
globals_all (suc (suc zero)) x is = global_at 2 3 x is refl
globals_all (suc (suc (suc zero))) x is = global_at 3 2 x is refl
globals_all (suc (suc (suc (suc n)))) x is =
    absurd (none-some is.definition (given_at 2 adapting adapting_arguments kind.Global (suc (suc (suc (suc n))))
    is.definition refl is.given (adapting_are kind.Global (suc (suc (suc (suc n)))) is.definition is.given)))

-- no other module knows a global
no_globals : (m n : ℕ) (x : Known) → m ≢ 2 → ¬ (IsKnownIn two_adapters m kind.Global n x)
no_globals zero n x d is = lifting_none kind.Global n is.definition is.given
no_globals (suc zero) n x d is =
    none-some is.definition (given_at 1 lowering lowering_arguments kind.Global n is.definition refl is.given
    (lowering_are kind.Global n is.definition is.given))
no_globals (suc (suc zero)) n x d is = d refl
no_globals (suc (suc (suc m))) n x d is = past_none m kind.Global n is.definition is.given

-- no module imports a table or a memory
no_tables : (m n : ℕ) (x : Known) → ¬ (IsKnownIn two_adapters m kind.Table n x)
no_tables zero n x is = lifting_none kind.Table n is.definition is.given
no_tables (suc zero) n x is =
    none-some is.definition (given_at 1 lowering lowering_arguments kind.Table n is.definition refl is.given
    (lowering_are kind.Table n is.definition is.given))
no_tables (suc (suc zero)) n x is =
    none-some is.definition (given_at 2 adapting adapting_arguments kind.Table n is.definition refl is.given
    (adapting_are kind.Table n is.definition is.given))
no_tables (suc (suc (suc m))) n x is = past_none m kind.Table n is.definition is.given

no_memories : (m n : ℕ) (x : Known) → ¬ (IsKnownIn two_adapters m kind.Memory n x)
no_memories zero n x is = lifting_none kind.Memory n is.definition is.given
no_memories (suc zero) n x is =
    none-some is.definition (given_at 1 lowering lowering_arguments kind.Memory n is.definition refl is.given
    (lowering_are kind.Memory n is.definition is.given))
no_memories (suc (suc zero)) n x is =
    none-some is.definition (given_at 2 adapting adapting_arguments kind.Memory n is.definition refl is.given
    (adapting_are kind.Memory n is.definition is.given))
no_memories (suc (suc (suc m))) n x is = past_none m kind.Memory n is.definition is.given

imports_told : (m : ℕ) (k : CoreKind) (n : ℕ) (x : Known) → imports_of m k n ≡ Some x → IsKnownIn two_adapters m k n x
imports_told m kind.Func n x e = absurd (none-some x e)
imports_told m kind.Table n x e = absurd (none-some x e)
imports_told m kind.Memory n x e = absurd (none-some x e)
imports_told m kind.Tag n x e = absurd (none-some x e)
imports_told zero kind.Global n x e = absurd (none-some x e)
imports_told (suc zero) kind.Global n x e = absurd (none-some x e)
imports_told (suc (suc zero)) kind.Global n x e = globals_told n x e
imports_told (suc (suc (suc m))) kind.Global n x e = absurd (none-some x e)

imports_all : (m : ℕ) (k : CoreKind) (n : ℕ) (x : Known) → IsKnownIn two_adapters m k n x → imports_of m k n ≡ Some x
imports_all m kind.Func n x is = absurd (true≢false (sym is.data_kind))
imports_all m kind.Table n x is = absurd (no_tables m n x is)
imports_all m kind.Memory n x is = absurd (no_memories m n x is)
imports_all m kind.Tag n x is = absurd (true≢false (sym is.data_kind))
imports_all zero kind.Global n x is = absurd (no_globals 0 n x (λ e. omega (arith, e)) is)
imports_all (suc zero) kind.Global n x is = absurd (no_globals 1 n x (λ e. omega (arith, e)) is)
imports_all (suc (suc zero)) kind.Global n x is = globals_all n x is
imports_all (suc (suc (suc m))) kind.Global n x is =
    absurd (no_globals (suc (suc (suc m))) n x (λ e. omega (arith, e)) is)

-- no module defines what holds data
abbrev HasNoData : ModuleRecord → Type 0
HasNoData r = (k : CoreKind) → holds_data k ≡ true → defined r k ≡ 0

no_data : (r : ModuleRecord) → r.tables ≡ 0 → length r.memories ≡ 0 → r.globals ≡ 0 → HasNoData r
no_data r t m g kind.Func e = absurd (true≢false (sym e))
no_data r t m g kind.Table e = t
no_data r t m g kind.Memory e = m
no_data r t m g kind.Global e = g
no_data r t m g kind.Tag e = absurd (true≢false (sym e))

none_have : All HasNoData records
none_have =
    All-cons HasNoData lifting (lowering ∷ adapting ∷ []) (no_data lifting refl refl refl)
    (All-cons HasNoData lowering (adapting ∷ []) (no_data lowering refl refl refl)
    (All-cons HasNoData adapting [] (no_data adapting refl refl refl) (All-nil HasNoData)))

none_known : (m : ℕ) (k : CoreKind) (n : ℕ)
    → ¬ (IsKnownToImporters records steps (is_exported two_adapters) m k n)
none_known m k n x =
    let none : defined x.core_module k ≡ 0 =
    at_place HasNoData records m x.core_module none_have x.is k x.data_kind in
    let below : n < defined x.core_module k = x.defines in
    omega (arith, none, below)

-- the first module has no function imports
alone : RecordsSharing two_adapters records 0 lifting (representatives_of 0)
unfolding AreRecorded cores_in
alone = record {
  representative = λ f. f;
  partitioned = record {
    together = λ f g p q d. absurd (omega (arith, p));
    own = λ f p. refl;
    least = λ f p. omega arith;
  };
  exact = λ f g. ((λ e. absurd (none-some g e)), (λ s. absurd (omega (arith, s.0))));
}

sharing_told : (m : ℕ) (r : ModuleRecord) → slice_get records m ≡ Some r
    → RecordsSharing two_adapters records m r (representatives_of m)
sharing_told zero r at =
    subst (λ (z : ModuleRecord). RecordsSharing two_adapters records 0 z (representatives_of 0))
    (same_Some lifting r at) alone
sharing_told (suc zero) r at =
    subst (λ (z : ModuleRecord). RecordsSharing two_adapters records 1 z (representatives_of 1))
    (same_Some lowering r at) together
sharing_told (suc (suc zero)) r at =
    subst (λ (z : ModuleRecord). RecordsSharing two_adapters records 2 z (representatives_of 2))
    (same_Some adapting r at) apart
sharing_told (suc (suc (suc m))) r at = absurd (none-some r at)

pub exact : AreExact two_adapters records facts
exact = record {
  sharing = λ m r at there. sharing_told m r at;
  functions = λ m f x. (functions_told m f x, functions_all m f x);
  imports = λ m k n x. (imports_told m k n x, imports_all m k n x);
  known_to_importers = λ m k n.
      ((λ e. absurd (true≢false (sym e))), (λ x. absurd (none_known m k n x)));
}
