-- Where a needed entry has no place, the entry that was asked for has none.
use Rattle.std.proofs.Common.{◌≡◌, ℕ, ◌<◌, ◌≤◌, ◌+◌, List, [], length, take, zero, suc, Option, None, Some, sym, ap}
use Rattle.std.proofs.Common.{◌∙◌, subst, arith, get_or, inl, inr, ◌⊎◌}
use Rattle.std.specs.Prelude.{slice_get, option_and_then}
use Rattle.std.proofs.lemmas.List.{length-take}
use Rattle.std.proofs.lemmas.Option.{slice_get_within}
use Rattle.pc_entity.specs.Lists.{Kept}
use Rattle.pc_numbers.specs.declared.runtime.ResourceIndex.{ResourceIndex}
use Rattle.pc_types.specs.declared.parsed.DeclType.{DeclType}
use Rattle.pc_types.specs.declared.parsed.TypeTable.{TypeTable}
use Rattle.pc_types.specs.declared.types.TypeDef.{TypeDef}
use Rattle.pc_types.specs.Table.{table_fault}
use Rattle.pc_types.specs.TypeTree.{Identity, TypeTree, declared, imported, earlier_tree, entry_tree, trees_from}
use Rattle.pc_types_lists.specs.Types.{Types, Grows, IsBuilder}
use Rattle.pc_types_builder.specs.Trees.{IsEntry, IsValue, identities, trees_in}
use Rattle.pc_types.specs.declared.parsed.PrimType.{PrimType}
use Rattle.pc_types.specs.declared.parsed.ValType.{ValType}
use Rattle.pc_types.specs.declared.parsed.ValType.TheVariants as val
use Rattle.pc_types.specs.declared.types.InterfaceType.{InterfaceType}
use Rattle.pc_types_convert.specs.Parts.{PrimIs}
use Rattle.pc_types_builder.proofs.PartInversion.{prim_from}
use Rattle.pc_types_convert.specs.Needed.{AreNeeded, Each, IsAmong, IsDone, parts_of}
use Rattle.pc_types_builder.specs.Converted.{AreTyped}
use Rattle.pc_types_convert.specs.Entries.{EntryIs}
use Rattle.pc_types_builder.proofs.StepLemmas.{among_next, earlier_back, parts_done, ready_step, take_found}
use Rattle.pc_entity.proofs.LookupLemmas.{found_at}
use Rattle.pc_types_convert.proofs.AmongLemmas.{each_among}
use Rattle.pc_types_convert.proofs.OneNumber.{one_number}
use Rattle.pc_types_builder.proofs.TreeInversion.{HasTypeOf, parts_have}
use Rattle.pc_types_builder.proofs.EntryInversion.{entry_from}
use Rattle.pc_types_builder.proofs.Simulation.{tree_at}
use Rattle.pc_types_convert.proofs.SoundLemmas.{parts_below, sound_at}
use Rattle.pc_types_builder.proofs.TreeLemmas.{entry_grows}

-- an identity of its own for each resource
abbrev pub by_number : ResourceIndex → Identity
by_number r = declared r.0

-- no two resources have one of these identities
pub apart : (r s : ResourceIndex) → by_number r ≡ by_number s → r ≡ s
apart r s same = ap (λ i. record { 0 = order i }) same
  where
    order : Identity → ℕ
    order (declared n) = n
    order (imported p) = 0

-- a tree among those in front is one among all
earlier_forward : (known : List (ℕ × Identity)) (c : ℕ) (t : TypeTable) (before all : List (Option TypeTree))
    → Kept before all → (n : ℕ) → n < length before
    → (tree : TypeTree) → earlier_tree known c t before n ≡ Some tree → earlier_tree known c t all n ≡ Some tree
earlier_forward known c t before all kept n within tree h =
    let f = found_at before n within in
    ap (option_and_then (λ x. x)) (kept n f.0 f.1) ∙ sym (ap (option_and_then (λ x. x)) f.1) ∙ h

-- a value type of the table that is a primitive is the primitive's
pub prim_wanted : (b : Types) (t : TypeTable) (v : ValType) (p : PrimType) → v ≡ val.Prim p
    → ((w : InterfaceType) × IsValue b t v w) → (w : InterfaceType) × PrimIs b p w
prim_wanted b t v p is q =
    let has = subst (λ x. IsValue b t x q.0) is q.1 by_number in
    (q.0, prim_from b by_number t (trees_in b by_number t) p q.0 has.0 has.1 has.2)

module _ (t : TypeTable) (sound : table_fault t ≡ None) where
  -- the tree of an entry is made from those of the entries in front
  pub made_from : (known : List (ℕ × Identity)) (c k : ℕ) (e : DeclType) → slice_get t.types k ≡ Some e → (tree : TypeTree)
      → earlier_tree known c t (trees_from known c t [] t.types) k ≡ Some tree
      → (before : List (Option TypeTree)) × (length before ≡ k) × Kept before (trees_from known c t [] t.types)
      × (entry_tree known c t before e ≡ Some tree)
  made_from known c k e at tree is =
      let x = tree_at known c t [] t.types k e at in
      let here = subst (λ m. slice_get (trees_from known c t [] t.types) m ≡ Some (entry_tree known c t x.0 e))
      (omega arith) x.3 in
      (x.0, omega (arith, x.1), x.2, sym (ap (option_and_then (λ o. o)) here) ∙ is)

  module _ (b : Types) (who : ResourceIndex → Identity) where
    -- the builder has a type with the tree of entry `m`
    abbrev HasEntry : ℕ → Type 0
    HasEntry m =
        HasTypeOf b who (identities who b.resources.known) b.resources.current.0 t
        (trees_from (identities who b.resources.known) b.resources.current.0 t [] t.types) m

    -- what an entry names is there where the entry is
    has_part : (p m : ℕ) (e : DeclType) → slice_get t.types p ≡ Some e → m < p → IsAmong m (parts_of e) → HasEntry p
        → HasEntry m
    has_part p m e at below among has =
        let known = identities who b.resources.known in
        let c = b.resources.current.0 in
        let x = made_from known c p e at has.1 has.2 in
        let part =
        each_among (HasTypeOf b who known c t x.0) (parts_of e) m
        (parts_have b who known c t x.0 e has.0 has.1 x.3 has.3) among in (
          part.0,
          part.1,
          earlier_forward known c t x.0 (trees_from known c t [] t.types) x.2 m
              (omega (arith, x.1, below)) part.1 part.2,
          part.3,
        )

    module _ (done : List (Option TypeDef)) (n : ℕ) (order : List ℕ) (are : AreNeeded t done n order) where
      -- a needed entry is the asked one, or is there where a later one is
      by_later : (m : ℕ) → IsAmong m order → (m ≡ n) ⊎ ((p : ℕ) × (m < p) × IsAmong p order × (HasEntry p → HasEntry m))
      by_later m
          among =
          elim (are.reason m among) as (λ _. (m ≡ n)
          ⊎ ((p : ℕ) × (m < p) × IsAmong p order × (HasEntry p → HasEntry m))) [
            | inl same ↦ inl same
            | inr by ↦ inr (
                let earlier = take by.0 t.types in
                let short =
                each_among (λ q. q < length earlier) (parts_of by.1) m
                (parts_below t earlier by.1 (sound_at t by.0 by.1 sound by.3).0) by.4 in
                let below : m < by.0 = omega (arith, short, length-take by.0 t.types) in
                (by.0, below, by.2, has_part by.0 m by.1 by.3 below by.4))
          ]

      -- each needed entry is there where the asked one is
      each_has : (fuel m : ℕ) → length t.types ≤ m + fuel → IsAmong m order → HasEntry n → HasEntry m
      each_has zero m enough among asked =
          absurd (omega (arith, enough, each_among (λ k. k < length t.types) order m are.within among))
      each_has (suc fuel) m enough among asked = elim (by_later m among) as (λ _. HasEntry m) [
        | inl same ↦ subst HasEntry (sym same) asked
        | inr by ↦ by.3 (each_has fuel by.0 (omega (arith, enough, by.1)) by.2 asked)
      ]

  -- where a builder has the type that was asked for, a needed entry is something in it
  entry_there : (b next : Types) → Grows b next → IsBuilder next
      → (before done : List (Option TypeDef)) (n : ℕ) (order : List ℕ)
      → AreNeeded t before n order → (k : ℕ) (e : DeclType) → slice_get t.types k ≡ Some e → IsAmong k order
      → AreTyped b t done
      → Each (IsDone done) (parts_of e) → (d : TypeDef) → IsEntry next t n d → (f : TypeDef)
      × EntryIs next (take k done) t k e f
  entry_there b next g is before done n order needed k e at among are parts d asked =
      let who = by_number in
      let known = identities who next.resources.known in
      let c = next.resources.current.0 in
      let top = asked who in
      let all = trees_from known c t [] t.types in
      let has = each_has next who before n order needed (length t.types) k (omega arith) among
      (d, top.0, top.1, top.2) in
      let x = made_from known c k e at has.1 has.2 in (
        has.0,
        entry_from next who t (take k done) x.0
            (λ q f found.
            let old = entry_grows b next g t q f (are.entries q f (take_found done k q (Some f) found)) who in
            let within = slice_get_within (take k done) q (Some f) found in (
              old.0,
              earlier_back known c t x.0 all x.2 q
                  (omega (arith, x.1, within, length-take k done)) old.0 old.1,
              old.2,
            ))
            (one_number next is.distinct who apart) apart k e has.0 has.1 x.1
            (ready_step t sound b done k e are at parts) x.3 has.3,
      )

  -- so the next of the needed entries is something in it
  pub next_there : (b next : Types) → Grows b next → IsBuilder next
      → (before done : List (Option TypeDef)) (n : ℕ) (order : List ℕ)
      → AreNeeded t before n order → (i : ℕ) → i < length order → AreTyped b t done
      → Each (IsDone done) (take i order) → ((m : ℕ) → IsDone before m → IsDone done m)
      → (d : TypeDef) → IsEntry next t n d
      → (e : DeclType) × (slice_get t.types (get_or order i 0) ≡ Some e) × (f : TypeDef)
      × EntryIs next (take (get_or order i 0) done) t (get_or order i 0) e f
  next_there b next g is before done n order needed i within are so_far kept d asked =
      let k = get_or order i 0 in
      let among = among_next order i within in
      let e = found_at t.types k (each_among (λ m. m < length t.types) order k needed.within among) in
      let parts = parts_done t sound before done n order needed i within so_far kept e.0 e.1 in
      let there = entry_there b next g is before done n order needed k e.0 e.1 among are parts d asked in
      (e.0, e.1, there.0, there.1)
