-- The types of entries are held.
use Rattle.std.proofs.Common.{◌≡◌, ℕ, List, [], ◌∷◌, Option}
use Rattle.std.proofs.Common.{None, Some, refl, sym, subst, arith}
use Rattle.std.specs.Prelude.{MatchOption}
use Rattle.std.specs.List.{All, AllZip}
use Rattle.std.proofs.lemmas.List.Elements.{All-cons}
use Rattle.std.proofs.lemmas.Option.{slice_get_within}
use Rattle.pc_types.specs.declared.parsed.PrimType.{PrimType}
use Rattle.pc_types.specs.declared.parsed.ValType.{ValType}
use Rattle.pc_types.specs.declared.parsed.ValType.TheVariants as val
use Rattle.pc_types.specs.declared.type_index.TypeComponentLocalErrorContextTableIndex.{TypeComponentLocalErrorContextTableIndex}
use Rattle.pc_types.specs.declared.types.InterfaceType.{InterfaceType}
use Rattle.pc_types.specs.declared.types.InterfaceType.TheVariants as ty
use Rattle.pc_types.specs.declared.types.TypeDef.{TypeDef}
use Rattle.pc_types_lists.specs.Types.{Types, Grows}
use Rattle.pc_types_lists.specs.Held.{IsHeld, MayBeHeld}
use Rattle.pc_types_lists.specs.Primitive.{plain_type}
use Rattle.pc_types_lists.proofs.Growth.{grows_trans}
use Rattle.pc_types_lists.proofs.HeldLemmas.{held_grows, plain_held}
use Rattle.pc_types_convert.proofs.PartLemmas.{maybe_grows}
use Rattle.pc_types_convert.specs.Parts.{AreHeld, PrimIs, ValIs, MaybeIs, FieldIs, CaseIs, IsErrorContext}
use Rattle.pc_types_convert.specs.Entries.{ReturnsAre}

-- what holds of each item of the second list, where a relation to one of the first gives it
all_by_zip : {A B : Type 0} (R : A → B → Type 0) (P : B → Type 0) → ((x : A) (y : B) → R x y → P y)
    → (xs : List A) (ys : List B) → AllZip R xs ys → All P ys
all_by_zip R P one xs [] h = λ k d below. absurd (omega (arith, below))
all_by_zip R P one [] (y ∷ ys) h = absurd h
all_by_zip R P one (x ∷ xs) (y ∷ ys) h = All-cons P y ys (one x y h.0) (all_by_zip R P one xs ys h.1)

-- the done value types stay held
pub are_held_grow : (old new : Types) → Grows old new → (done : List (Option TypeDef)) → AreHeld old done
    → AreHeld new done
are_held_grow old new g done h n w found = held_grows old new g w (h n w found)

module _ (b : Types) where
  -- the value type of a primitive is held
  prim_held : (p : PrimType) (w : InterfaceType) → PrimIs b p w → IsHeld b w
  prim_held p w h = by (plain_type p) refl h
    where
      by : (o : Option InterfaceType) → plain_type p ≡ o
          → MatchOption o
          ((i : TypeComponentLocalErrorContextTableIndex) × (w ≡ ty.ErrorContext i) × IsErrorContext b i) (λ t. w ≡ t)
          → IsHeld b w
      by None is k = subst (IsHeld b) (sym k.1) (slice_get_within b.error_context_tables k.0.0 _ k.2)
      by (Some t) is k = subst (IsHeld b) (sym k) (plain_held b p t is)

  -- the types of a table's value types are held, where those of the done ones were
  module _ (old : Types) (g : Grows old b) (done : List (Option TypeDef)) (held : AreHeld old done) where
    -- a value type of the table
    pub val_held : (v : ValType) (w : InterfaceType) → ValIs b done v w → IsHeld b w
    val_held (val.Prim p) w h = prim_held p w h
    val_held (val.Type_ n) w h = held_grows old b g w (held n w h)

    -- one that may be left out
    maybe_held : (v : Option ValType) (w : Option InterfaceType) → MaybeIs b done v w → MayBeHeld b w
    maybe_held v None h = tt
    maybe_held None (Some w) h = absurd h
    maybe_held (Some v) (Some w) h = val_held v w h

    -- those of a list
    pub vals_held : (vs : List ValType) (ws : List InterfaceType) → AllZip (ValIs b done) vs ws → All (IsHeld b) ws
    vals_held vs ws are = all_by_zip (ValIs b done) (IsHeld b) val_held vs ws are

    -- those of parameters
    pub params_held : (ps : List (List ℕ × ValType)) (ws : List InterfaceType)
        → AllZip (λ (p : List ℕ × ValType) (w : InterfaceType). ValIs b done p.1 w) ps ws → All (IsHeld b) ws
    params_held ps ws are =
        all_by_zip (λ (p : List ℕ × ValType) (w : InterfaceType). ValIs b done p.1 w) (IsHeld b)
        (λ p w h. val_held p.1 w h) ps ws are

    -- those of fields
    pub fields_held : (fs : List (List ℕ × ValType)) (gs : List (List ℕ × InterfaceType))
        → AllZip (FieldIs b done) fs gs → All (λ (g : List ℕ × InterfaceType). IsHeld b g.1) gs
    fields_held fs gs are =
        all_by_zip (FieldIs b done) (λ (g : List ℕ × InterfaceType). IsHeld b g.1) (λ f g h. val_held f.1 g.1 h.1) fs gs
        are

    -- those of cases
    pub cases_held : (cs : List (List ℕ × Option ValType)) (gs : List (List ℕ × Option InterfaceType))
        → AllZip (CaseIs b done) cs gs → All (λ (g : List ℕ × Option InterfaceType). MayBeHeld b g.1) gs
    cases_held cs gs are =
        all_by_zip (CaseIs b done) (λ (g : List ℕ × Option InterfaceType). MayBeHeld b g.1)
        (λ f g h. maybe_held f.1 g.1 h.1) cs gs are

    -- the type that is returned, if there is one
    pub returns_held : (v : Option ValType) (ws : List InterfaceType) → ReturnsAre b done v ws → All (IsHeld b) ws
    returns_held None ws h = subst (All (IsHeld b)) (sym h) (λ k d below. absurd (omega (arith, below)))
    returns_held (Some v) ws h =
        subst (All (IsHeld b)) (sym h.1)
        (All-cons (IsHeld b) h.0 [] (val_held v h.0 h.2) (λ k d below. absurd (omega (arith, below))))

-- two value types that may be left out, the second of which was converted later, are held
pub both_held : (start first second : Types) → Grows start first → Grows first second → (done : List (Option TypeDef))
    → AreHeld start done → (v x : Option ValType) (w y : Option InterfaceType) → MaybeIs first done v w
    → MaybeIs second done x y → MayBeHeld second w × MayBeHeld second y
both_held start first second g h done held v x w y before after =
    let grown = grows_trans start first second g h in (
      maybe_held second start grown done held v w (maybe_grows first second h done v w before),
      maybe_held second start grown done held x y after,
    )
