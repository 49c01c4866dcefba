-- What the steps of a conversion add is asked for.
use Rattle.std.proofs.Common.{◌≡◌, ◌≤◌, ◌+◌, ◌<◌, ◌⊎◌, ◌∙◌, ℕ, List, []}
use Rattle.std.proofs.Common.{◌∷◌, length, take, get_or, zero, suc, Option, None, Some}
use Rattle.std.proofs.Common.{refl, sym, ap, subst, arith, inl, inr, false}
use Rattle.std.specs.Prelude.{is_some, slice_get}
use Rattle.std.proofs.lemmas.List.{length-take}
use Rattle.std.proofs.lemmas.Option.{same_Some}
use Rattle.pc_entity.proofs.LookupLemmas.{found_at}
use Rattle.pc_types.specs.declared.parsed.DeclType.{DeclType}
use Rattle.pc_types.specs.declared.parsed.DeclType.TheVariants as entry
use Rattle.pc_types.specs.declared.parsed.Entity.{Entity}
use Rattle.pc_types.specs.declared.parsed.PrimType.{PrimType}
use Rattle.pc_types.specs.declared.parsed.TypeTable.{TypeTable}
use Rattle.pc_types.specs.declared.parsed.ValType.{ValType}
use Rattle.pc_types.specs.declared.parsed.ValType.TheVariants as val
use Rattle.pc_types.specs.declared.types.InterfaceType.{InterfaceType}
use Rattle.pc_types.specs.declared.types.TypeDef.{TypeDef}
use Rattle.pc_types.specs.declared.types.TypeDef.TheVariants as def
use Rattle.pc_types.specs.declared.types.TypeKind.{TypeKind}
use Rattle.pc_types.specs.Table.{table_fault}
use Rattle.pc_types.specs.TypeTree.{trees_from, val_tree}
use Rattle.pc_types_lists.specs.Types.{Grows, Types}
use Rattle.pc_types_lists.specs.Primitive.{plain_type}
use Rattle.pc_types_lists.proofs.AddedLemmas.{only_both, only_more, only_none}
use Rattle.pc_types_lists.proofs.Growth.{grows_same}
use Rattle.pc_types_lists.proofs.ZipLemmas.{all_zip_more}
use Rattle.pc_types_convert.specs.Adds.{AddsContexts, AddsEntry, IsOneOf, IsSignatureOf, IsTupleOf, no_context_in}
use Rattle.pc_types_convert.specs.Entries.{EntryIs, ReturnsAre}
use Rattle.pc_types_convert.specs.Needed.{AreNeeded, IsAmong, entity_parts, parts_of}
use Rattle.pc_types_convert.specs.Parts.{ValIs}
use Rattle.pc_types_convert.proofs.AddsLemmas.{one_more}
use Rattle.pc_types_convert.proofs.AmongLemmas.{among_one, each_among}
use Rattle.pc_types_convert.proofs.SoundLemmas.{parts_below, sound_at}
use Rattle.pc_types_builder.specs.Asked.{AddsAsked, AddsValue, AsksContexts}
use Rattle.pc_types_builder.specs.Asked.{HasParams, HasReturns, IsReached, IsReachedSignature}
use Rattle.pc_types_builder.specs.Asked.{IsReachedTuple, IsReachedType, asked, named, of_func, of_module}
use Rattle.pc_types_builder.specs.Converted.{AreTyped}
use Rattle.pc_types_builder.specs.Trees.{IsValue, identities}
use Rattle.pc_types_builder.proofs.Simulation.{prim_is_value}
use Rattle.pc_types_builder.proofs.StepLemmas.{among_next, converted_entry, take_found}
use Rattle.pc_types_builder.proofs.TreeLemmas.{typed_grows, entry_grows, tree_grows}

-- what a builder is asked for that adds nothing
pub asked_none : (t : TypeTable) (n : ℕ) (a b : Types) → b ≡ a → AddsAsked t n a b
asked_none t n a b same = record { only = only_none _ a b same }

module _ (t : TypeTable) (sound : table_fault t ≡ None) (done : List (Option TypeDef)) (n : ℕ) (order : List ℕ)
    (are : AreNeeded t done n order) where
  -- the needed entries are reached, those with the highest numbers first
  reached_by : (fuel m : ℕ) → length t.types ≤ m + fuel → IsAmong m order → IsReached t n m
  reached_by zero m enough among =
      absurd (omega (arith, enough, each_among (λ k. k < length t.types) order m are.within among))
  reached_by (suc fuel) m enough among = elim (are.reason m among) as (λ _. IsReached t n m) [
    | inl same ↦ subst (IsReached t n) (sym same) asked
    | inr by ↦ (
        let earlier = take by.0 t.types in
        let short = each_among (λ q. q < length earlier) (parts_of by.1) m
        (parts_below t earlier by.1 (sound_at t by.0 by.1 sound by.3).0) by.4 in
        let below : m < by.0 = omega (arith, short, length-take by.0 t.types) in
        named by.0 m by.1 (reached_by fuel by.0 (omega (arith, enough, below)) by.2) by.3 by.4)
  ]

  -- each needed entry is reached
  pub needed_reached : (m : ℕ) → IsAmong m order → IsReached t n m
  needed_reached m among = reached_by (length t.types) m (omega arith) among

module _ (old new : Types) (g : Grows old new) (t : TypeTable) where
  -- a value type keeps its tree
  value_grows : (v : ValType) (w : InterfaceType) → IsValue old t v w → IsValue new t v w
  value_grows v w h who =
      let was = h who in (
        was.0,
        subst (λ r. val_tree (identities who r.known) r.current.0 t
            (trees_from (identities who r.known) r.current.0 t [] t.types) v ≡ Some was.0) (sym g.resources) was.1,
        tree_grows old new g who (def.Interface w) was.0 was.2,
      )

  -- so does the tuple of what is returned
  returns_stay : (returns : Option ValType) (i : ℕ) → HasReturns old t returns i → HasReturns new t returns i
  returns_stay None i h = g.tuples i (record { types = [] }) h
  returns_stay (Some v) i h = (h.0, g.tuples i (record { types = h.0 ∷ [] }) h.1, value_grows v h.0 h.2)

  -- and either tuple of a function
  tuple_stays : (n i : ℕ) → IsReachedTuple old t n i → IsReachedTuple new t n i
  tuple_stays n i (of_func m params returns is_async reached at has) =
      of_func m params returns is_async reached at
      (elim has as (λ _. HasParams new t params i ⊎ HasReturns new t returns i) [
        | inl ps ↦ inl (
          ps.0,
          g.tuples i ps.0 ps.1,
          all_zip_more (λ (p : List ℕ × ValType) (w : InterfaceType). IsValue old t p.1 w)
              (λ (p : List ℕ × ValType) (w : InterfaceType). IsValue new t p.1 w) (λ p w. value_grows p.1 w) params
              ps.0.types ps.2,
        )
        | inr rs ↦ inr (returns_stay returns i rs)
      ])

  -- a signature of a module type
  signature_stays : (n i : ℕ) → IsReachedSignature old t n i → IsReachedSignature new t n i
  signature_stays n i (of_module m imports exports reached at s found is) =
      of_module m imports exports reached at s (g.signatures i s found) is

  -- what was asked for stays asked for
  asked_stays : (n : ℕ) (k : TypeKind) (i : ℕ)
      → IsOneOf old (AsksContexts t n) (IsReachedType old t n) (IsReachedTuple old t n) (IsReachedSignature old t n) k i
      → IsOneOf new (AsksContexts t n) (IsReachedType new t n) (IsReachedTuple new t n) (IsReachedSignature new t n) k i
  asked_stays n k i =
      one_more old new g (AsksContexts t n) (AsksContexts t n) (IsReachedType old t n) (IsReachedType new t n)
      (IsReachedTuple old t n) (IsReachedTuple new t n) (IsReachedSignature old t n) (IsReachedSignature new t n)
      (λ h. h) (λ d h. (h.0, h.1, entry_grows old new g t h.0 d h.2)) (tuple_stays n) (signature_stays n) k i

-- two steps together
pub asked_both : (t : TypeTable) (n : ℕ) (a b c : Types) → Grows b c → AddsAsked t n a b → AddsAsked t n b c
    → AddsAsked t n a c
asked_both t n a b c g first second = record {
  only = only_both _ a b c (only_more _ _ (asked_stays b c g t n) a b first.only) second.only;
}

module _ (t : TypeTable) (sound : table_fault t ≡ None) (b : Types) (done : List (Option TypeDef))
    (are : AreTyped b t done) (k : ℕ) where
  -- a value type that is done has its tree
  val_asked : (v : ValType) (w : InterfaceType) → ValIs b (take k done) v w → IsValue b t v w
  val_asked (val.Prim p) w h = prim_is_value b t (val.Prim p) p w refl h
  val_asked (val.Type_ m) w h = are.entries m (def.Interface w) (take_found done k m (Some (def.Interface w)) h)

  -- the tuple of what is returned
  returns_asked : (returns : Option ValType) (i : ℕ) (ws : List InterfaceType)
      → slice_get b.tuples i ≡ Some (record { types = ws }) → ReturnsAre b (take k done) returns ws
      → HasReturns b t returns i
  returns_asked None i ws at h = at ∙ ap (λ x. Some (record { types = x })) h
  returns_asked (Some v) i ws at h =
      (h.0, at ∙ ap (λ x. Some (record { types = x })) h.1, val_asked v h.0 h.2)

  module _ (n : ℕ) (reached : IsReached t n k) where
    -- either tuple of a function
    tuple_asked : (e : DeclType) → slice_get t.types k ≡ Some e → (i : ℕ) → IsTupleOf b (take k done) e i
        → IsReachedTuple b t n i
    tuple_asked (entry.Func params returns is_async) at i h =
        of_func k params returns is_async reached at
        (elim h as (λ _. HasParams b t params i ⊎ HasReturns b t returns i) [
          | inl ps ↦ inl (
            ps.0,
            ps.1,
            all_zip_more (λ (p : List ℕ × ValType) (w : InterfaceType). ValIs b (take k done) p.1 w)
                (λ (p : List ℕ × ValType) (w : InterfaceType). IsValue b t p.1 w) (λ p w. val_asked p.1 w) params
                ps.0.types ps.2,
          )
          | inr rs ↦ inr (returns_asked returns i rs.0.types rs.1 rs.2)
        ])
    tuple_asked e at i h = absurd h

    -- a signature of a module type
    signature_asked : (e : DeclType) → slice_get t.types k ≡ Some e → (i : ℕ) → IsSignatureOf b t e i
        → IsReachedSignature b t n i
    signature_asked (entry.Module imports exports) at i h = of_module k imports exports reached at h.0 h.1 h.2
    signature_asked e at i h = absurd h

    -- what an entry needs
    entry_asked : (e : DeclType) → slice_get t.types k ≡ Some e → (j : TypeKind) (i : ℕ)
        → IsOneOf b (no_context_in e ≡ false) (EntryIs b (take k done) t k e) (IsTupleOf b (take k done) e)
        (IsSignatureOf b t e) j i
        → IsOneOf b (AsksContexts t n) (IsReachedType b t n) (IsReachedTuple b t n) (IsReachedSignature b t n) j i
    entry_asked e at j i =
        one_more b b (grows_same b) (no_context_in e ≡ false) (AsksContexts t n) (EntryIs b (take k done) t k e)
        (IsReachedType b t n) (IsTupleOf b (take k done) e) (IsReachedTuple b t n) (IsSignatureOf b t e)
        (IsReachedSignature b t n) (λ h. (k, e, reached, at, h))
        (λ d h. (k, reached, converted_entry t sound b done k e d at are h)) (tuple_asked e at) (signature_asked e
        at) j i

-- a step over an entry that is reached
pub asked_step : (t : TypeTable) → table_fault t ≡ None → (n k : ℕ) → IsReached t n k → (done : List (Option TypeDef))
    (a b : Types) → AreTyped a t done → Grows a b → (e : DeclType) → slice_get t.types k ≡ Some e
    → AddsEntry (take k done) t k e a b → AddsAsked t n a b
asked_step t sound n k reached done a b are g e at adds = record {
  only = only_more _ _ (entry_asked t sound b done (typed_grows a b g t done are) k n reached e at) a b adds.only;
}

-- what a step adds that reads the entry of the table and the types in front of it
pub step_adds : (t : TypeTable) (k : ℕ) (f e : DeclType) → slice_get t.types k ≡ Some e → slice_get t.types k ≡ Some f
    → (done front : List (Option TypeDef)) → front ≡ take k done → (a b : Types) → AddsEntry front t k f a b
    → AddsEntry (take k done) t k e a b
step_adds t k f e at here done front before a b adds =
    subst (λ x. AddsEntry x t k e a b) before
    (subst (λ x. AddsEntry front t k x a b) (same_Some f e (sym here ∙ at)) adds)

-- the next of the needed entries
pub next_asked : (t : TypeTable) → table_fault t ≡ None → (before : List (Option TypeDef)) (n : ℕ) (order : List ℕ)
    → AreNeeded t before n order → (i : ℕ) → i < length order → (done : List (Option TypeDef)) (a b : Types)
    → AreTyped a t done → Grows a b
    → ((e : DeclType) → slice_get t.types (get_or order i 0) ≡ Some e
    → AddsEntry (take (get_or order i 0) done) t (get_or order i 0) e a b)
    → AddsAsked t n a b
next_asked t sound before n order needed i within done a b are g adds =
    let k = get_or order i 0 in
    let among = among_next order i within in
    let e = found_at t.types k (each_among (λ m. m < length t.types) order k needed.within among) in
    asked_step t sound n k (needed_reached t sound before n order needed k among) done a b are g e.0 e.1 (adds e.0 e.1)

-- what an entity asks for is the entry that it names
pub entity_asked : (t : TypeTable) (e : Entity) (n : ℕ) (a b : Types) → entity_parts e ≡ n ∷ [] → AddsAsked t n a b
    → (m : ℕ) → IsAmong m (entity_parts e) → AddsAsked t m a b
entity_asked t e n a b is adds m among =
    subst (λ k. AddsAsked t k a b) (sym (among_one m n (subst (IsAmong m) is among))) adds

-- what a primitive asks for
pub prim_asked : (t : TypeTable) (v : ValType) (p : PrimType) (a b : Types) → v ≡ val.Prim p
    → AddsContexts (is_some (plain_type p)) a b → AddsValue t v a b
prim_asked t v p a b is adds = subst (λ x. AddsValue t x a b) (sym is) adds

-- and what an entry does
pub type_asked : (t : TypeTable) (v : ValType) (n : ℕ) (a b : Types) → v ≡ val.Type_ n → AddsAsked t n a b
    → AddsValue t v a b
type_asked t v n a b is adds = subst (λ x. AddsValue t x a b) (sym is) adds
