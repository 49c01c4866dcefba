-- What was converted stays so where the same resources are known again, and where those that changed are forgotten; and
-- what is the same in each component instance does whatever is known.
use Rattle.std.proofs.Common.{◌≡◌, ◌⊎◌, ℕ, ◌<◌, List, [], ◌∷◌, Option, Some, None, length, sym, ap, ◌∙◌, subst}
use Rattle.std.proofs.Common.{arith, refl, inl, inr, true≢false}
use Rattle.std.specs.Prelude.{slice_get}
use Rattle.std.specs.Option.{option_map}
use Rattle.std.proofs.lemmas.Option.{slice_get_within}
use Rattle.pc_entity.proofs.LookupLemmas.{found_at}
use Rattle.pc_numbers.specs.declared.runtime.ResourceIndex.{ResourceIndex}
use Rattle.pc_types.specs.declared.parsed.DeclType.{DeclType}
use Rattle.pc_types.specs.declared.parsed.TypeTable.{TypeTable}
use Rattle.pc_types.specs.declared.types.TypeDef.{TypeDef}
use Rattle.pc_types.specs.Table.{table_fault}
use Rattle.pc_types.specs.TypeTree.{Identity, identity_of, tree_of}
use Rattle.pc_types_lists.specs.Known.{resource_of}
use Rattle.pc_types_lists.specs.Types.{KeepsTypes, Types}
use Rattle.pc_types_convert.specs.Needed.{Each, IsAmong, IsDone, parts_of}
use Rattle.pc_types_convert.proofs.AmongLemmas.{each_more}
use Rattle.pc_types_convert.proofs.SoundLemmas.{names_earlier}
use Rattle.pc_types_convert.specs.Plain.{AreLayered, Forgets, IsNoted, Layers, StandsAt, Takes}
use Rattle.pc_types_builder.specs.Converted.{AreConverted, AreLike, ArePlain, AreTyped, IsOfKind, IsPlainEntry}
use Rattle.pc_types_builder.specs.Trees.{IsEntry, identities}
use Rattle.pc_types_builder.proofs.SameTrees.{same_tree, trees_same}
pub use Rattle.pc_types_builder.proofs.Simulation.{known_identity}
use Rattle.pc_types_builder.proofs.StepLemmas.{each_both}
use Rattle.pc_types_builder.proofs.TreeLemmas.{likes_keep, tree_keeps}

-- a number that is the same resource has the same identity
pub identity_same : (who : ResourceIndex → Identity) (a b : List (ℕ × ResourceIndex)) (n : ℕ)
    → resource_of a n ≡ resource_of b n
    → identity_of (identities who a) n ≡ identity_of (identities who b) n
identity_same who a b n same =
    known_identity who a n ∙ ap (option_map who) same ∙ sym (known_identity who b n)

-- what holds of each number that is among some
each_from : (P : ℕ → Type 0) (ns : List ℕ) → ((n : ℕ) → IsAmong n ns → P n) → Each P ns
each_from P [] all = tt
each_from P (n ∷ ns) all = (all n (inl refl), each_from P ns (λ m among. all m (inr among)))

-- each type is that of its entry where those of this component instance are, and those that are the same in each
layers_typed : (b : Types) (t : TypeTable) (c : Layers) → length c.all ≡ length t.types → AreLayered c
    → AreTyped b t c.plain
    → ((n : ℕ) (d : TypeDef) (e : DeclType) → StandsAt c.own n d → slice_get t.types n ≡ Some e → IsOfKind e d)
    → ((n : ℕ) (d : TypeDef) → StandsAt c.own n d → IsEntry b t n d) → AreTyped b t c.all
layers_typed b t c room layered plain own_kinds own_entries = record {
  room = room;
  kinds = λ n d e found at. elim (layered.either n d found) as (λ _. IsOfKind e d) [
    | inl own ↦ own_kinds n d e own at
    | inr its ↦ plain.kinds n d e its at
  ];
  entries = λ n d found. elim (layered.either n d found) as (λ _. IsEntry b t n d) [
    | inl own ↦ own_entries n d own
    | inr its ↦ plain.entries n d its
  ];
}

-- A builder that keeps the types and converts for the same component instance.
module _ (old new : Types) (keeps : KeepsTypes old new) (current : new.resources.current ≡ old.resources.current) where
  -- a type is that of its entry under other known resources, where the entry has the same tree under both
  entry_kept : (t : TypeTable) (n : ℕ) (d : TypeDef)
      → ((who : ResourceIndex → Identity)
      → tree_of (identities who old.resources.known) old.resources.current.0 t n
      ≡ tree_of (identities who new.resources.known) old.resources.current.0 t n)
      → IsEntry old t n d → IsEntry new t n d
  entry_kept t n d same is who =
      let was = is who in (
        was.0,
        subst (λ c. tree_of (identities who new.resources.known) c.0 t n ≡ Some was.0) (sym current)
            (sym (same who) ∙ was.1),
        tree_keeps old new keeps who d was.0 was.2,
      )

  -- a type stays that of its entry where the same resources are known
  pub entry_keeps : ((n : ℕ) → resource_of old.resources.known n ≡ resource_of new.resources.known n)
      → (t : TypeTable) (n : ℕ) (d : TypeDef) → IsEntry old t n d → IsEntry new t n d
  entry_keeps known t n d is =
      entry_kept t n d
      (λ who. trees_same (identities who old.resources.known) (identities who new.resources.known)
      old.resources.current.0 t
      (λ m. identity_same who old.resources.known new.resources.known m (known m)) n) is

  -- so do those of all entries that have one
  typed_keeps : ((n : ℕ) → resource_of old.resources.known n ≡ resource_of new.resources.known n)
      → (t : TypeTable) (done : List (Option TypeDef)) → AreTyped old t done → AreTyped new t done
  typed_keeps known t done are = record {
    room = are.room;
    kinds = are.kinds;
    entries = λ n d found. entry_keeps known t n d (are.entries n d found);
  }

  -- and all that was converted
  pub converted_keeps : ((n : ℕ) → resource_of old.resources.known n ≡ resource_of new.resources.known n)
      → (t : TypeTable) (c : Layers) → AreConverted old t c → AreConverted new t c
  converted_keeps known t c are = record {
    all = typed_keeps known t c.all are.all;
    plain = typed_keeps known t c.plain are.plain;
    same = are.same;
    layered = are.layered;
    noted = are.noted;
    like = likes_keep old new keeps t c.like are.like;
  }

-- A builder that keeps the types, whatever resources are known, and whatever the current component instance is.
module _ (old new : Types) (keeps : KeepsTypes old new) (t : TypeTable) (sound : table_fault t ≡ None) where
  -- the types stay those of their entries that are the same in each component instance
  pub plain_keeps : (plain : List (Option TypeDef)) → ArePlain t plain → AreTyped old t plain → AreTyped new t plain
  plain_keeps plain same are = record {
    room = are.room;
    kinds = are.kinds;
    entries = λ n d found who.
        let was = are.entries n d found who in (
          was.0,
          sym (same_tree (identities who old.resources.known) (identities who new.resources.known)
              old.resources.current.0 new.resources.current.0 t (IsDone plain) same.closed
              (λ m e at. names_earlier t m sound e at)
              (λ m is. found_at t.types m
              (subst (λ l. m < l) are.room (slice_get_within plain m (Some is.0) is.1)))
              (λ m e is at depends. absurd (true≢false (sym depends ∙ same.form m e is at)))
              n (d, found)) ∙ was.1,
          tree_keeps old new keeps who d was.0 was.2,
        );
  }

  -- and they can be handed on
  pub takes_keeps : (was from now : Layers) → Takes was from now → AreConverted old t from → AreConverted new t was
      → AreConverted new t now
  takes_keeps was from now takes given are =
      let plain = subst (AreTyped new t) (sym takes.plain) (plain_keeps from.plain given.same given.plain) in
      let front : (n : ℕ) (d : TypeDef) → StandsAt now.own n d → StandsAt was.all n d =
      (λ n d found. are.layered.front n d (subst (λ l. StandsAt l n d) takes.own found)) in
      record {
        all = layers_typed new t now (takes.room ∙ are.all.room) takes.layered plain
            (λ n d e found at. are.all.kinds n d e (front n d found) at)
            (λ n d found. are.all.entries n d (front n d found));
        plain = plain;
        same = subst (ArePlain t) (sym takes.plain) given.same;
        layered = takes.layered;
        noted = record {
          noted = λ k p e is at among.
              elim (are.noted.noted k p e (subst (λ l. IsDone l k) takes.own is) at among) as
              (λ _. (IsDone now.own p × IsNoted now.users p k) ⊎ IsPlainEntry t p) [
                | inl own ↦ inl (
                  subst (λ l. IsDone l p) (sym takes.own) own.0,
                  subst (λ l. IsNoted l p k) (sym takes.users) own.1,
                )
                | inr its ↦ inr its
              ];
        };
        like = subst (AreLike new t) (sym takes.like) (likes_keep old new keeps t from.like given.like);
      }

  -- What is left where an entry is forgotten, and what is the same in each component instance: what they lead to is
  -- among them.
  module _ (was now : Layers) (f : ℕ) (forgets : Forgets f was now) (are : AreConverted old t was) where
    -- a type that is left was there
    stood : (n : ℕ) (d : TypeDef) → StandsAt now.own n d → StandsAt was.all n d
    stood n d found = are.layered.front n d (forgets.own n d found)

    -- an entry of the table that is left, or one that is the same in each component instance
    abbrev IsLeft : ℕ → Type 0
    IsLeft n = ((e : DeclType) × (slice_get t.types n ≡ Some e)) × (IsDone now.own n ⊎ IsPlainEntry t n)

    -- what an entry that is left was noted for is left, and the rest of what it names is the same in each
    noted_left : (k p : ℕ) (e : DeclType) → IsDone now.own k → slice_get t.types k ≡ Some e → IsAmong p (parts_of e)
        → (IsDone now.own p × IsNoted now.users p k) ⊎ IsPlainEntry t p
    noted_left k p e left at among =
        elim (are.noted.noted k p e (left.0, forgets.own k left.0 left.1) at among) as
        (λ _. (IsDone now.own p × IsNoted now.users p k) ⊎ IsPlainEntry t p) [
          | inl own ↦ inl (forgets.users p k left own.0 own.1)
          | inr its ↦ inr its
        ]

    -- what each of them names is left, or the same in each
    names_left : (n : ℕ) (e : DeclType) → IsDone now.own n ⊎ IsPlainEntry t n → slice_get t.types n ≡ Some e
        → Each (λ p. IsDone now.own p ⊎ IsPlainEntry t p) (parts_of e)
    names_left n e is at =
        elim is as (λ _. Each (λ p. IsDone now.own p ⊎ IsPlainEntry t p) (parts_of e)) [
          | inl left ↦ each_from (λ p. IsDone now.own p ⊎ IsPlainEntry t p) (parts_of e)
              (λ p among. elim (noted_left n p e left at among) as (λ _. IsDone now.own p ⊎ IsPlainEntry t p) [
                | inl own ↦ inl own.0
                | inr its ↦ inr its
              ])
          | inr its ↦ each_more (IsDone its.0) (λ p. IsDone now.own p ⊎ IsPlainEntry t p)
              (λ p done. inr (its.0, its.1, done)) (parts_of e) (its.1.closed n e its.2 at)
        ]

    -- so it is one of them
    left_closed : (n : ℕ) (e : DeclType) → IsLeft n → slice_get t.types n ≡ Some e → Each IsLeft (parts_of e)
    left_closed n e is at =
        each_both (λ p. IsDone now.own p ⊎ IsPlainEntry t p) (λ p. p < n) IsLeft
        (λ p one below. (found_at t.types p (omega (arith, below, slice_get_within t.types n e at)), one))
        (parts_of e) (names_left n e is.1 at) (names_earlier t n sound e at)

    -- what is left stays so where the forgotten entry alone is known as another resource
    pub forget_keeps : new.resources.current ≡ old.resources.current
        → ((q : ℕ) → ¬ (q ≡ f) → resource_of new.resources.known q ≡ resource_of old.resources.known q)
        → AreConverted new t now
    forget_keeps current known =
        let plain = subst (AreTyped new t) (sym forgets.plain) (plain_keeps was.plain are.same are.plain) in
        let there : (n : ℕ) (d : TypeDef) → StandsAt now.own n d → IsLeft n =
        (λ n d found. (
          found_at t.types n (subst (λ l. n < l) are.all.room (slice_get_within was.all n (Some d) (stood n d found))),
          inl (d, found),
        )) in
        record {
          all = layers_typed new t now (forgets.room ∙ are.all.room) forgets.layered plain
              (λ n d e found at. are.all.kinds n d e (stood n d found) at)
              (λ n d found. entry_kept old new keeps current t n d
              (λ who. same_tree (identities who old.resources.known) (identities who new.resources.known)
              old.resources.current.0 old.resources.current.0 t IsLeft left_closed
              (λ m e at. names_earlier t m sound e at) (λ m is. is.0)
              (λ m e is at hangs. (
                refl,
                elim is.1 as
                    (λ _. identity_of (identities who old.resources.known) m
                    ≡ identity_of (identities who new.resources.known) m) [
                      | inl left ↦ identity_same who old.resources.known new.resources.known m
                          (sym (known m (λ same. forgets.gone (subst (IsDone now.own) same left))))
                      | inr its ↦ absurd (true≢false (sym hangs ∙ its.1.form m e its.2 at))
                    ],
              ))
              n (there n d found))
              (are.all.entries n d (stood n d found)));
          plain = plain;
          same = subst (ArePlain t) (sym forgets.plain) are.same;
          layered = forgets.layered;
          noted = record { noted = noted_left };
          like = subst (AreLike new t) (sym forgets.like) (likes_keep old new keeps t was.like are.like);
        }
