-- The tree of an entry depends on what the entry leads to alone, and on the known resources by their identities.
use Rattle.std.proofs.Common.{◌≡◌, ℕ, ◌<◌, Bool, true, false, List, [], ◌∷◌, ◌++◌, length, zero, suc, Option, Some, None}
use Rattle.std.proofs.Common.{refl, sym, ap, ◌∙◌, subst, arith, true≢false, ◌||◌}
use Rattle.std.specs.Prelude.{slice_get, option_and_then}
use Rattle.std.specs.Option.{option_map}
use Rattle.std.specs.List.{flat_map, list_any}
use Rattle.pc_entity.specs.Lists.{Kept}
use Rattle.pc_entity.proofs.LookupLemmas.{found_at}
use Rattle.pc_types.specs.declared.parsed.PrimType.TheVariants as prim
use Rattle.pc_types.specs.declared.parsed.ValType.{ValType}
use Rattle.pc_types.specs.declared.parsed.ValType.TheVariants as val
use Rattle.pc_types.specs.declared.parsed.DeclType.{DeclType}
use Rattle.pc_types.specs.declared.parsed.DeclType.TheVariants as entry
use Rattle.pc_types.specs.declared.parsed.Entity.{Entity}
use Rattle.pc_types.specs.declared.parsed.Entity.TheVariants as entity
use Rattle.pc_types.specs.declared.parsed.TypeTable.{TypeTable}
use Rattle.pc_types.specs.TypeTree.{Identity, TypeTree, and_field, and_case, and_tree, a_tree, error_context, record_of}
use Rattle.pc_types.specs.TypeTree.{variant_of, list_of, tuple_of, option_of, result_of, func_of, instance_of}
use Rattle.pc_types.specs.TypeTree.{component_of, stream_of, future_of, resource_of}
use Rattle.pc_types.specs.TypeTree.{earlier_tree, val_tree, maybe_tree, entity_tree, fields_tree, cases_tree, vals_tree}
use Rattle.pc_types.specs.TypeTree.{externs_tree, entry_tree, trees_from, tree_of, own_tree, borrow_tree}
use Rattle.pc_types.specs.TypeTree.{resource_from, identity_of}
use Rattle.pc_types_convert.specs.Needed.{Each, parts_of, val_parts, maybe_parts, field_parts, case_parts, entity_parts}
use Rattle.pc_types_convert.specs.Needed.{extern_parts}
use Rattle.pc_types_convert.proofs.AmongLemmas.{each_front, each_back}
use Rattle.pc_types_builder.specs.Depends.{case_error, depends, field_error, is_error, maybe_error}
use Rattle.pc_types_builder.proofs.Simulation.{tree_at}
use Rattle.pc_types_builder.proofs.StepLemmas.{each_both}

-- one of two holds
or_left : (a b : Bool) → a ≡ true → (a || b) ≡ true
or_left true b h = refl
or_left false b h = absurd (true≢false (sym h))

-- the other of two holds
or_right : (a b : Bool) → b ≡ true → (a || b) ≡ true
or_right true b h = refl
or_right false b h = h

-- what holds of all numbers
each_of : (P : ℕ → Type 0) → ((n : ℕ) → P n) → (ns : List ℕ) → Each P ns
each_of P all [] = tt
each_of P all (n ∷ ns) = (all n, each_of P all ns)

-- Under other known resources, in another component instance, with other trees before it: an entry has the same tree,
-- where its parts have, and where it depends on neither, or both are alike.
module _ (k j : List (ℕ × Identity)) (c d : ℕ) (t : TypeTable) (xs ys : List (Option TypeTree)) where
  -- an entry before has the same tree
  abbrev pub SameAt : ℕ → Type 0
  SameAt p = earlier_tree k c t xs p ≡ earlier_tree j d t ys p

  -- a value type
  val_same : (v : ValType) → (is_error v ≡ true → c ≡ d) → Each SameAt (val_parts v)
      → val_tree k c t xs v ≡ val_tree j d t ys v
  val_same (val.Prim prim.ErrorContext) own h = ap (λ i. Some (error_context i)) (own refl)
  val_same (val.Prim p) own h = refl
  val_same (val.Type_ n) own h = h.0

  -- one that may be left out
  maybe_same : (v : Option ValType) → (maybe_error v ≡ true → c ≡ d) → Each SameAt (maybe_parts v)
      → maybe_tree k c t xs v ≡ maybe_tree j d t ys v
  maybe_same None own h = refl
  maybe_same (Some v) own h = ap (option_map a_tree) (val_same v own h)

  -- an entity
  entity_same : (e : Entity) → Each SameAt (entity_parts e) → entity_tree k c t xs e ≡ entity_tree j d t ys e
  entity_same (entity.Func n) h = h.0
  entity_same (entity.Instance n) h = h.0
  entity_same (entity.Component n) h = h.0
  entity_same (entity.Module n) h = h.0
  entity_same (entity.Type_ n) h = h.0
  entity_same entity.Value h = refl

  -- fields
  fields_same : (fs : List (List ℕ × ValType)) → (list_any field_error fs ≡ true → c ≡ d)
      → Each SameAt (flat_map field_parts fs) → fields_tree k c t xs fs ≡ fields_tree j d t ys fs
  fields_same [] own h = refl
  fields_same (f ∷ fs) own h =
      let here = val_same f.1 (λ e. own (or_left (field_error f) (list_any field_error fs) e))
      (each_front SameAt (val_parts f.1) (flat_map field_parts fs) h) in
      let rest = fields_same fs (λ e. own (or_right (field_error f) (list_any field_error fs) e))
      (each_back SameAt (val_parts f.1) (flat_map field_parts fs) h) in
      λ i. option_and_then (λ tree. option_map (and_field f.0 tree) (rest i)) (here i)

  -- cases
  cases_same : (fs : List (List ℕ × Option ValType)) → (list_any case_error fs ≡ true → c ≡ d)
      → Each SameAt (flat_map case_parts fs) → cases_tree k c t xs fs ≡ cases_tree j d t ys fs
  cases_same [] own h = refl
  cases_same (f ∷ fs) own h =
      let here = maybe_same f.1 (λ e. own (or_left (case_error f) (list_any case_error fs) e))
      (each_front SameAt (maybe_parts f.1) (flat_map case_parts fs) h) in
      let rest = cases_same fs (λ e. own (or_right (case_error f) (list_any case_error fs) e))
      (each_back SameAt (maybe_parts f.1) (flat_map case_parts fs) h) in
      λ i. option_and_then (λ tree. option_map (and_case f.0 tree) (rest i)) (here i)

  -- the types of a tuple
  vals_same : (vs : List ValType) → (list_any is_error vs ≡ true → c ≡ d) → Each SameAt (flat_map val_parts vs)
      → vals_tree k c t xs vs ≡ vals_tree j d t ys vs
  vals_same [] own h = refl
  vals_same (v ∷ vs) own h =
      let here = val_same v (λ e. own (or_left (is_error v) (list_any is_error vs) e))
      (each_front SameAt (val_parts v) (flat_map val_parts vs) h) in
      let rest = vals_same vs (λ e. own (or_right (is_error v) (list_any is_error vs) e))
      (each_back SameAt (val_parts v) (flat_map val_parts vs) h) in
      λ i. option_and_then (λ tree. option_map (and_tree tree) (rest i)) (here i)

  -- named entities
  externs_same : (es : List (List ℕ × Entity)) → Each SameAt (flat_map extern_parts es)
      → externs_tree k c t xs es ≡ externs_tree j d t ys es
  externs_same [] h = refl
  externs_same (e ∷ es) h =
      let here = entity_same e.1 (each_front SameAt (entity_parts e.1) (flat_map extern_parts es) h) in
      let rest = externs_same es (each_back SameAt (entity_parts e.1) (flat_map extern_parts es) h) in
      λ i. option_and_then (λ tree. option_map (and_field e.0 tree) (rest i)) (here i)

  -- an entry
  entry_same : (e : DeclType) → length xs ≡ length ys
      → (depends e ≡ true → (c ≡ d) × (identity_of k (length xs) ≡ identity_of j (length xs))) → Each SameAt (parts_of e)
      → entry_tree k c t xs e ≡ entry_tree j d t ys e
  entry_same entry.Resource len own h =
      let here = (own refl).0 in
      let known = (own refl).1 ∙ ap (identity_of j) len in
      λ i. Some (resource_of (resource_from (here i) (len i) (known i)))
  entry_same (entry.Func params result is_async) len own h =
      let here = fields_same params (λ e. (own (or_left (list_any field_error params) (maybe_error result) e)).0)
      (each_front SameAt (flat_map field_parts params) (maybe_parts result) h) in
      let rest = maybe_same result (λ e. (own (or_right (list_any field_error params) (maybe_error result) e)).0)
      (each_back SameAt (flat_map field_parts params) (maybe_parts result) h) in
      λ i. option_and_then (λ ps. option_map (λ r. func_of ps r is_async) (rest i)) (here i)
  entry_same (entry.Val v) len own h = val_same v (λ e. (own e).0) h
  entry_same (entry.Record fields) len own h = ap (option_map record_of) (fields_same fields (λ e. (own e).0) h)
  entry_same (entry.Variant cases) len own h = ap (option_map variant_of) (cases_same cases (λ e. (own e).0) h)
  entry_same (entry.List v) len own h = ap (option_map list_of) (val_same v (λ e. (own e).0) h)
  entry_same (entry.Tuple vs) len own h = ap (option_map tuple_of) (vals_same vs (λ e. (own e).0) h)
  entry_same (entry.Flags names) len own h = refl
  entry_same (entry.Enum names) len own h = refl
  entry_same (entry.Option v) len own h = ap (option_map option_of) (val_same v (λ e. (own e).0) h)
  entry_same (entry.Result ok err) len own h =
      let here = maybe_same ok (λ e. (own (or_left (maybe_error ok) (maybe_error err) e)).0)
      (each_front SameAt (maybe_parts ok) (maybe_parts err) h) in
      let rest = maybe_same err (λ e. (own (or_right (maybe_error ok) (maybe_error err) e)).0)
      (each_back SameAt (maybe_parts ok) (maybe_parts err) h) in
      λ i. option_and_then (λ o. option_map (result_of o) (rest i)) (here i)
  entry_same (entry.Own n) len own h = ap (option_and_then own_tree) h.0
  entry_same (entry.Borrow n) len own h = ap (option_and_then borrow_tree) h.0
  entry_same (entry.Stream v) len own h =
      let here = (own refl).0 in
      let payload = maybe_same v (λ e. here) h in
      λ i. option_map (λ p. stream_of p (here i)) (payload i)
  entry_same (entry.Future v) len own h =
      let here = (own refl).0 in
      let payload = maybe_same v (λ e. here) h in
      λ i. option_map (λ p. future_of p (here i)) (payload i)
  entry_same (entry.Instance exports) len own h = ap (option_map instance_of) (externs_same exports h)
  entry_same (entry.Component imports exports) len own h =
      let here = externs_same imports
      (each_front SameAt (flat_map extern_parts imports) (flat_map extern_parts exports) h) in
      let rest = externs_same exports
      (each_back SameAt (flat_map extern_parts imports) (flat_map extern_parts exports) h) in
      λ i. option_and_then (λ x. option_map (component_of x) (rest i)) (here i)
  entry_same (entry.Module imports exports) len own h = refl

-- Known resources that are alike give the same trees.
module _ (k j : List (ℕ × Identity)) (c : ℕ) (t : TypeTable)
    (alike : (n : ℕ) → identity_of k n ≡ identity_of j n) where
  -- the tree of an entry
  entry_alike : (earlier : List (Option TypeTree)) (e : DeclType)
      → entry_tree k c t earlier e ≡ entry_tree j c t earlier e
  entry_alike earlier e =
      entry_same k j c c t earlier earlier e refl (λ own. (refl, alike (length earlier)))
      (each_of (SameAt k j c c t earlier earlier) (λ p. refl) (parts_of e))

  -- those of more entries
  trees_alike : (earlier : List (Option TypeTree)) (es : List DeclType)
      → trees_from k c t earlier es ≡ trees_from j c t earlier es
  trees_alike earlier [] = refl
  trees_alike earlier (e ∷ es) =
      trees_alike (earlier ++ entry_tree k c t earlier e ∷ []) es
      ∙ ap (λ x. trees_from j c t (earlier ++ x ∷ []) es) (entry_alike earlier e)

  -- all trees of the table
  pub all_trees_same : trees_from k c t [] t.types ≡ trees_from j c t [] t.types
  all_trees_same = trees_alike [] t.types

  -- the tree of each number
  pub trees_same : (n : ℕ) → tree_of k c t n ≡ tree_of j c t n
  trees_same n = ap (λ trees. earlier_tree j c t trees n) all_trees_same

-- an earlier tree is the same among those in front and among all
earlier_all : (known : List (ℕ × Identity)) (c : ℕ) (t : TypeTable) (before all : List (Option TypeTree))
    → Kept before all → (n : ℕ) → n < length before
    → earlier_tree known c t before n ≡ earlier_tree known c t all n
earlier_all known c t before all kept n within =
    let f = found_at before n within in
    ap (option_and_then (λ x. x)) f.1 ∙ sym (ap (option_and_then (λ x. x)) (kept n f.0 f.1))

-- Entries that lead to entries among them alone have the same trees under other known resources and in another component
-- instance, where those among them that hang on these find them alike.
module _ (k j : List (ℕ × Identity)) (c d : ℕ) (t : TypeTable) (D : ℕ → Type 0)
    (closed : (n : ℕ) (e : DeclType) → D n → slice_get t.types n ≡ Some e → Each D (parts_of e))
    (below : (n : ℕ) (e : DeclType) → slice_get t.types n ≡ Some e → Each (λ p. p < n) (parts_of e))
    (there : (n : ℕ) → D n → (e : DeclType) × (slice_get t.types n ≡ Some e))
    (alike : (n : ℕ) (e : DeclType) → D n → slice_get t.types n ≡ Some e → depends e ≡ true
    → (c ≡ d) × (identity_of k n ≡ identity_of j n)) where
  -- so far as this many numbers
  same_below : (m n : ℕ) → n < m → D n → tree_of k c t n ≡ tree_of j d t n
  same_below zero n within is = absurd (omega (arith, within))
  same_below (suc m) n within is =
      let x = there n is in
      let a = tree_at k c t [] t.types n x.0 x.1 in
      let b = tree_at j d t [] t.types n x.0 x.1 in
      let all_a = trees_from k c t [] t.types in
      let all_b = trees_from j d t [] t.types in
      let na : length a.0 ≡ n = omega (arith, a.1) in
      let nb : length b.0 ≡ n = omega (arith, b.1) in
      let own : depends x.0 ≡ true → (c ≡ d) × (identity_of k (length a.0) ≡ identity_of j (length a.0)) =
      (λ r. subst (λ i. (c ≡ d) × (identity_of k i ≡ identity_of j i)) (sym na) (alike n x.0 is x.1 r)) in
      let parts : Each (SameAt k j c d t a.0 b.0) (parts_of x.0) =
      each_both D (λ p. p < n) (SameAt k j c d t a.0 b.0)
      (λ p dp less.
      earlier_all k c t a.0 all_a a.2 p (omega (arith, less, na))
      ∙ same_below m p (omega (arith, less, within)) dp
      ∙ sym (earlier_all j d t b.0 all_b b.2 p (omega (arith, less, nb))))
      (parts_of x.0) (closed n x.0 is x.1) (below n x.0 x.1) in
      let ha = subst (λ i. slice_get all_a i ≡ Some (entry_tree k c t a.0 x.0)) (omega arith) a.3 in
      let hb = subst (λ i. slice_get all_b i ≡ Some (entry_tree j d t b.0 x.0)) (omega arith) b.3 in
      ap (option_and_then (λ o. o)) ha ∙ entry_same k j c d t a.0 b.0 x.0 (na ∙ sym nb) own parts
      ∙ sym (ap (option_and_then (λ o. o)) hb)

  -- each of them
  pub same_tree : (n : ℕ) → D n → tree_of k c t n ≡ tree_of j d t n
  same_tree n is = same_below (suc n) n (omega arith) is
