-- Open components as they stand for the bodies that are open behind a list of payloads.
use Rattle.std.proofs.Common.{◌≡◌, ℕ, ◌+◌, Bool, ◌||◌, List, [], ◌∷◌, ◌++◌, length, Option, Some, None, inl, inr, refl}
use Rattle.std.proofs.Common.{sym, ap, ◌∙◌, subst, arith}
use Rattle.std.specs.Prelude.{nat_eq}
use Rattle.std.specs.List.{flat_map}
use Rattle.std.specs.Str.{bytes_eq}
use Rattle.std.proofs.lemmas.List.{length-append, same_from_push}
use Rattle.std.proofs.lemmas.List.Folds.{list_any-append}
use Rattle.pc_types.specs.declared.parsed.TypeTable.{TypeTable}
use Rattle.pc_types.specs.Names.{has_name}
use Rattle.pc_parsed.specs.declared.bodies.Names.{Names}
use Rattle.pc_parsed.specs.declared.fault.StaticFault.TheVariants as fault
use Rattle.pc_parsed.specs.declared.payload.Payload.{Payload}
use Rattle.pc_parsed.specs.declared.payload.Payload.TheVariants as payload
use Rattle.pc_parsed.specs.Names.{Gains, HasNames, HaveSame, Stands, StandsAt, none_open, one_more, around_names}
use Rattle.pc_parsed.specs.Names.{fresh_names, gains_payload, open_then, outer_from}
use Rattle.pc_parsed.specs.StaticFault.{around, content_fault, exported_names, exposed_at, imported_names}
use Rattle.pc_parsed.specs.StaticFault.{payload_fault}
use Rattle.pc_parsed.specs.ItemFaults.{fault_or}
use Rattle.pc_parsed.specs.Structure.{nesting, open_bodies, own_payloads, structure_fault}
use Rattle.pc_parsed.proofs.NameLemmas.{exports_same, imports_same}
use Rattle.pc_parsed.proofs.StructureLemmas.{own_behind, own_of, outer_behind, outer_of}

-- a list with a last element isn't empty
not_empty : {A : Type 0} (xs : List A) (x : A) → xs ++ x ∷ [] ≡ [] → ⊥
not_empty xs x h =
    let longer = length-append xs (x ∷ []) in
    let none = ap (λ l. length l) h in
    omega (arith, longer, none)

-- one more component at the end
longer : (outer : List Names) (names : Names) → length (outer ++ names ∷ []) ≡ length outer + 1
longer outer names = length-append outer (names ∷ [])

-- names in front keep what is the same
same_append : (added xs ys : List (List ℕ)) → HaveSame xs ys → HaveSame (added ++ xs) (added ++ ys)
same_append added xs ys same q =
    list_any-append (bytes_eq q) added xs ∙ ap (λ b. has_name added q || b) (same q)
    ∙ sym (list_any-append (bytes_eq q) added ys)

-- a component that gains names gains those of the payload that it is given
gained : (f : Payload → List (List ℕ)) (p : Payload) (own : List Payload) (old new : List (List ℕ))
    → HaveSame old (flat_map f own) → Gains old (f p) new → HaveSame new (flat_map f (p ∷ own))
gained f p own old new same gains q = gains q ∙ same_append (f p) old (flat_map f own) same q

-- what content is faulty for follows from the same names alike
content_same : (t : TypeTable) (exposed : Option (List ℕ)) (n : ℕ) (a b : Names) (p : Payload)
    → HaveSame a.imported b.imported → HaveSame a.exported b.exported
    → content_fault t exposed (around_names n a) p ≡ content_fault t exposed (around_names n b) p
content_same t exposed n a b (payload.ComponentImportSection items) i x =
    imports_same t (exposed_at n exposed) a.imported b.imported 0 items i
content_same t exposed n a b (payload.ComponentExportSection items) i x = exports_same a.exported b.exported 0 items x
content_same t exposed n a b (payload.Version e) i x = refl
content_same t exposed n a b payload.CoreTypeSection i x = refl
content_same t exposed n a b payload.CustomSection i x = refl
content_same t exposed n a b payload.ComponentStartSection i x = refl
content_same t exposed n a b payload.ComponentSection i x = refl
content_same t exposed n a b payload.End i x = refl
content_same t exposed n a b (payload.ComponentTypeSection items) i x = refl
content_same t exposed n a b (payload.ComponentCanonicalSection items) i x = refl
content_same t exposed n a b (payload.ModuleSection r ty) i x = refl
content_same t exposed n a b (payload.InstanceSection items) i x = refl
content_same t exposed n a b (payload.ComponentInstanceSection items) i x = refl
content_same t exposed n a b (payload.ComponentAliasSection items) i x = refl

-- the names of the innermost body, as a component has them
abbrev names_at : List Payload → Names
names_at before = record {
  imported = flat_map imported_names (own_payloads before);
  exported = flat_map exported_names (own_payloads before);
}

module _ (t : TypeTable) (exposed : Option (List ℕ)) (due : Bool) (before : List Payload) (p : Payload) where
  -- behind the root every payload is at fault
  pub closed_fault : (components : List Names) → components ≡ [] → Stands components before
      → Some (0, fault.Malformed) ≡ payload_fault t exposed due (around before) p
  closed_fault components empty (inl closed) =
      λ i. fault_or 0 (structure_fault (sym closed.1 i) due p) (content_fault t exposed (around before) p)
  closed_fault components empty (inr (one_more outer names is has count rest)) =
      absurd (not_empty outer names (sym is ∙ empty))

  -- the innermost component tells the fault of a payload
  pub same_fault : (components outer : List Names) (names : Names) → components ≡ outer ++ names ∷ []
      → Stands components before
      → payload_fault t exposed due (around_names (length outer + 1) names) p
      ≡ payload_fault t exposed due (around before) p
  same_fault components outer names is (inl closed) = absurd (not_empty outer names (sym is ∙ closed.0))
  same_fault components outer names is (inr (one_more outer' names' is' has count rest)) =
      let same = same_from_push outer outer' names names' (sym is ∙ is') in
      let count' : length outer + 1 ≡ open_bodies before = ap (λ (l : List Names). length l + 1) same.0 ∙ sym count in
      let here = subst (λ (x : Names). HasNames x before) (sym same.1) has in
      (λ i. payload_fault t exposed due (around_names (count' i) names) p)
      ∙ ap (fault_or 0 (structure_fault (open_bodies before) due p))
      (content_same t exposed (open_bodies before) names (names_at before) p here.imported here.exported)

module _ (before : List Payload) (outer : List Names) (names new : Names) (has : HasNames names before)
    (count : open_bodies before ≡ length outer + 1) (rest : StandsAt outer (outer_from 0 before)) where
  -- behind a payload that doesn't nest the same component goes on
  stand_on : (p : Payload) → own_payloads (p ∷ before) ≡ p ∷ own_payloads before
      → open_bodies (p ∷ before) ≡ open_bodies before
      → outer_from 0 (p ∷ before) ≡ outer_from 0 before → gains_payload names p new
      → Stands (outer ++ new ∷ []) (p ∷ before)
  stand_on p own many around_it gains =
      inr (one_more outer new refl
      (record {
        imported =
            (λ q. gained imported_names p (own_payloads before) names.imported new.imported has.imported gains.0 q
            ∙ ap (λ (l : List Payload). has_name (flat_map imported_names l) q) (sym own));
        exported =
            (λ q. gained exported_names p (own_payloads before) names.exported new.exported has.exported gains.1 q
            ∙ ap (λ (l : List Payload). has_name (flat_map exported_names l) q) (sym own));
      })
      (many ∙ count) (subst (StandsAt outer) (sym around_it) rest))

  -- behind the opening of a nested body its component is the innermost
  stand_inside : gains_payload names payload.ComponentSection new
      → Stands ((outer ++ new ∷ []) ++ fresh_names ∷ []) (payload.ComponentSection ∷ before)
  stand_inside gains =
      inr (one_more (outer ++ new ∷ []) fresh_names refl (record { imported = (λ q. refl); exported = (λ q. refl) })
      (ap (λ n. n + 1) (count ∙ sym (longer outer new)))
      (one_more outer new refl
      (record { imported = (λ q. gains.0 q ∙ has.imported q); exported = (λ q. gains.1 q ∙ has.exported q) })
      count rest))

  -- behind its end the component around it is the innermost, or the root has closed
  stand_outside : (o : Option (List Payload)) → outer_from 0 before ≡ o → StandsAt outer o
      → Stands outer (payload.End ∷ before)
  stand_outside None at (none_open empty) =
      let none = ap (λ (l : List Names). length l) empty in
      inl (empty, omega (arith, count, none))
  stand_outside (Some inner) at (one_more outer' names' is has' count' rest') =
      let own : own_payloads (payload.End ∷ before) ≡ own_payloads inner = own_behind 0 before ∙ ap own_of at in
      let around_it : outer_from 0 (payload.End ∷ before) ≡ outer_from 0 inner =
      outer_behind 0 before ∙ ap outer_of at in
      let many = ap (λ (l : List Names). length l) is ∙ longer outer' names' in
      inr (one_more outer' names' is
      (record {
        imported = (λ q. has'.imported q ∙ ap (λ (l : List Payload). has_name (flat_map imported_names l) q) (sym own));
        exported = (λ q. has'.exported q ∙ ap (λ (l : List Payload). has_name (flat_map exported_names l) q) (sym own));
      })
      (omega (arith, count, many)) (subst (StandsAt outer') (sym around_it) rest'))

  -- the components that go on behind a payload
  pub stand_behind : (p : Payload) → gains_payload names p new → Stands (open_then (nesting p) outer new) (p ∷ before)
  stand_behind payload.ComponentSection gains = stand_inside gains
  stand_behind payload.End gains = stand_outside (outer_from 0 before) refl rest
  stand_behind (payload.Version e) gains = stand_on (payload.Version e) refl refl refl gains
  stand_behind payload.CoreTypeSection gains = stand_on payload.CoreTypeSection refl refl refl gains
  stand_behind payload.CustomSection gains = stand_on payload.CustomSection refl refl refl gains
  stand_behind payload.ComponentStartSection gains = stand_on payload.ComponentStartSection refl refl refl gains
  stand_behind (payload.ComponentTypeSection items) gains =
      stand_on (payload.ComponentTypeSection items) refl refl refl gains
  stand_behind (payload.ComponentImportSection items) gains =
      stand_on (payload.ComponentImportSection items) refl refl refl gains
  stand_behind (payload.ComponentCanonicalSection items) gains =
      stand_on (payload.ComponentCanonicalSection items) refl refl refl gains
  stand_behind (payload.ModuleSection r ty) gains = stand_on (payload.ModuleSection r ty) refl refl refl gains
  stand_behind (payload.InstanceSection items) gains = stand_on (payload.InstanceSection items) refl refl refl gains
  stand_behind (payload.ComponentInstanceSection items) gains =
      stand_on (payload.ComponentInstanceSection items) refl refl refl gains
  stand_behind (payload.ComponentExportSection items) gains =
      stand_on (payload.ComponentExportSection items) refl refl refl gains
  stand_behind (payload.ComponentAliasSection items) gains =
      stand_on (payload.ComponentAliasSection items) refl refl refl gains

-- behind a payload, where the innermost component was taken out and gained the payload's names
pub stand_next : (before : List Payload) (components outer : List Names) (names new : Names) (p : Payload)
    → components ≡ outer ++ names ∷ []
    → Stands components before → gains_payload names p new → Stands (open_then (nesting p) outer new) (p ∷ before)
stand_next before components outer names new p is (inl closed) gains =
    absurd (not_empty outer names (sym is ∙ closed.0))
stand_next before components outer names new p is (inr (one_more outer' names' is' has count rest)) gains =
    let same = same_from_push outer outer' names names' (sym is ∙ is') in
    stand_behind before outer names new (subst (λ (x : Names). HasNames x before) (sym same.1) has)
    (count ∙ ap (λ (l : List Names). length l + 1) (sym same.0))
    (subst (λ (l : List Names). StandsAt l (outer_from 0 before)) (sym same.0) rest) p gains

-- the root has closed exactly where no component is left
pub stands_empty : (components : List Names) (before : List Payload) → Stands components before
    → nat_eq (open_bodies before) 0 ≡ nat_eq (length components) 0
stands_empty components before (inl closed) =
    ap (λ n. nat_eq n 0) (closed.1 ∙ ap (λ (l : List Names). length l) (sym closed.0))
stands_empty components before (inr (one_more outer names is has count rest)) =
    ap (λ n. nat_eq n 0) (count ∙ sym (ap (λ (l : List Names). length l) is ∙ longer outer names))

-- the root alone is open from the start
pub stands_first : Stands (fresh_names ∷ []) []
stands_first =
    inr (one_more [] fresh_names refl (record { imported = (λ q. refl); exported = (λ q. refl) }) refl (none_open refl))
