-- What in a plan leads to what, and where the steps stand.
use Rattle.std.specs.Prelude.{◌≡◌, ◌<◌, ◌≤◌, ℕ, Bool, true, false, List, [], ◌∷◌, ◌++◌, map, take, Contains, None, Some}
use Rattle.std.specs.Prelude.{slice_get, count_by}
use Rattle.std.specs.List.{flat_map}
use Rattle.pc_spec_plan.specs.Counts.{fills, lowers_import, makes_instance}
use Rattle.pc_spec_plan.specs.PlanView as plan
use Rattle.pc_trampoline.specs.declared.part.Mark.{Mark}
use Rattle.pc_info.specs.declared.component.ComponentTranslation.{ComponentTranslation}
use Rattle.pc_info.specs.declared.export.Export.{Export as PlanItem}
use Rattle.pc_info.specs.declared.export.Export.TheVariants as item
use Rattle.pc_info.specs.declared.options.CanonicalOptions.{CanonicalOptions as PlanOptions}
use Rattle.pc_info.specs.Definitions.{def_view, initializer_view}
use Rattle.pc_info.specs.Options.{options_view}
use Rattle.pc_info.specs.View.{trampolines_view}
use Rattle.pc_info.specs.Slots.{TakesLowering, TakesOptions, TakesSlot, options_slot, step_definitions}

-- what a plan has under a number
pub data Piece : Type 0 where
  a_slot : plan.SlotKind → ℕ → Piece
  a_lowering : ℕ → Piece
  an_options_entry : ℕ → Piece
  a_trampoline : ℕ → Piece
  an_intrinsic : ℕ → Piece
  an_instance : ℕ → Piece

-- whether a step is a side effect: a core instance for a component instance, or a resource
abbrev pub is_side_effect : plan.Initializer → Bool
is_side_effect (plan.instantiate_static m args (Some c)) = true
is_side_effect (plan.instantiate_import r args c) = true
is_side_effect (plan.declare_resource i rep d c) = true
is_side_effect i = false

-- what a step makes, where these steps stand before it
abbrev pub Makes : (before : List plan.Initializer) → plan.Initializer → Piece → Type 0
Makes before (plan.instantiate_static m args c) x = x ≡ an_instance (count_by makes_instance before)
Makes before (plan.instantiate_import r args c) x = x ≡ an_instance (count_by makes_instance before)
Makes before (plan.lower_import n r) x = x ≡ a_lowering n
Makes before (plan.extract k n d) x = x ≡ a_slot k n
Makes before (plan.declare_resource i rep d c) x = ⊥

-- a step carries the number of those of its kind before it
abbrev pub CarriesNext : (before : List plan.Initializer) → plan.Initializer → Type 0
CarriesNext before (plan.lower_import n r) = n ≡ count_by lowers_import before
CarriesNext before (plan.extract k n d) = n ≡ count_by (fills k) before
CarriesNext before i = Unit {0}

-- what a definition names
abbrev pub named_by : plan.Definition → List Piece
named_by (plan.export r i) = an_instance r ∷ []
named_by (plan.flags c) = []
named_by (plan.trampoline n) = a_trampoline n ∷ []
named_by (plan.intrinsic i) = an_intrinsic i ∷ []

-- what a step names
abbrev pub named_in : plan.Initializer → List Piece
named_in i = flat_map named_by (step_definitions i)

-- what an export names
abbrev pub named_in_export : PlanItem → List Piece
named_in_export (item.LiftedFunction ty f o) = named_by (def_view f) ++ an_options_entry o.0 ∷ []
named_in_export e = []

module _ (p : ComponentTranslation) where
  -- the steps of a plan
  abbrev pub steps_in : List plan.Initializer
  steps_in = map initializer_view p.component.initializers

  -- its trampolines
  abbrev pub trampolines_in : List (plan.TrampolineEntry Mark)
  trampolines_in = trampolines_view 0 p.component.trampolines p.trampolines

  -- what a piece of a plan needs: a slot what its definition names, options and trampolines what they take, and the
  -- instance of a module of adapters what its arguments name
  pub data Needs : Piece → Piece → Type 0 where
    of_slot : {k : plan.SlotKind} {n : ℕ} {d : plan.Definition} {x : Piece} → Contains steps_in (plan.extract k n d)
        → Contains (named_by d) x → Needs (a_slot k n) x
    of_options : {k : plan.SlotKind} {m n : ℕ} {o : PlanOptions} → slice_get p.component.options m ≡ Some o
        → options_slot k (options_view o) ≡ Some n → Needs (an_options_entry m) (a_slot k n)
    of_lowering : {m n : ℕ} {t : plan.TrampolineEntry Mark} → slice_get trampolines_in m ≡ Some t
        → TakesLowering n t → Needs (a_trampoline m) (a_lowering n)
    of_trampoline : {m n : ℕ} {t : plan.TrampolineEntry Mark} → slice_get trampolines_in m ≡ Some t
        → TakesOptions n t → Needs (a_trampoline m) (an_options_entry n)
    of_part : {k : plan.SlotKind} {m n : ℕ} {t : plan.TrampolineEntry Mark} → slice_get trampolines_in m ≡ Some t
        → TakesSlot k n t → Needs (a_trampoline m) (a_slot k n)
    of_adapters : (i : ℕ) {m : ℕ} {args : List plan.Definition} {x : Piece}
        → slice_get steps_in i ≡ Some (plan.instantiate_static m args None) → Contains (flat_map named_by args) x
        → Needs (an_instance (count_by makes_instance (take i steps_in))) x

  -- a piece leads to another one: to itself, to what it needs, and to what that leads to
  pub data LeadsTo : Piece → Piece → Type 0 where
    to_itself : {x : Piece} → LeadsTo x x
    by_need : {x y z : Piece} → Needs x y → LeadsTo y z → LeadsTo x z

  -- what one of these pieces leads to
  abbrev pub IsLedTo : List Piece → Piece → Type 0
  IsLedTo xs y = (x : Piece) × Contains xs x × LeadsTo x y

  -- what a piece of a kind leads to of that kind has no larger number
  abbrev pub AreNumberedBehind : (ℕ → Piece) → Type 0
  AreNumberedBehind kind = (m n : ℕ) → LeadsTo (kind m) (kind n) → n ≤ m

  -- a side effect stands at this place
  abbrev pub IsEffectAt : ℕ → plan.Initializer → Type 0
  IsEffectAt i s = (slice_get steps_in i ≡ Some s) × (is_side_effect s ≡ true)

  -- the step of a piece stands at this place as late as it can: no side effect before it uses the piece, and the first
  -- one behind it does; or none stands behind it, and an export uses the piece
  pub record IsMadeLate (place : ℕ) (x : Piece) : Type 0 where
    pub not_before : (i : ℕ) (s : plan.Initializer) → IsEffectAt i s → i < place → IsLedTo (named_in s) x → ⊥
    pub before_next : (i : ℕ) (s : plan.Initializer) → IsEffectAt i s → place < i
        → ((j : ℕ) (t : plan.Initializer) → IsEffectAt j t → place < j → i ≤ j) → IsLedTo (named_in s) x
    pub behind_all : ((i : ℕ) (s : plan.Initializer) → IsEffectAt i s → place < i → ⊥)
        → (n : ℕ) × (e : PlanItem) × (slice_get p.component.export_items n ≡ Some e) × IsLedTo (named_in_export e) x
