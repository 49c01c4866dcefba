-- What the builder knows against what a scope knows: it stays so as tables grow, and entries have their trees in the
-- scope.
use Rattle.std.proofs.Common.{◌≡◌, ℕ, List, [], ◌∷◌, Option, None, Some, refl, sym, ap, subst, ◌∙◌}
use Rattle.std.specs.Option.{option_map}
use Rattle.std.proofs.lemmas.Bool.{eq-eqb}
use Rattle.std.proofs.lemmas.Option.{same_Some}
use Rattle.pc_numbers.specs.declared.runtime.ResourceIndex.{ResourceIndex}
use Rattle.pc_types.specs.declared.parsed.TypeTable.{TypeTable}
use Rattle.pc_types.specs.declared.types.TypeDef.{TypeDef}
use Rattle.pc_types.specs.TypeTree.{Identity, TypeTree, identity_of, tree_of}
use Rattle.pc_types_lists.specs.Known.{resource_of}
use Rattle.pc_types_lists.specs.Types.{KeepsTypes, Resources, Types}
use Rattle.pc_types_lists.specs.Trees.{HasTree}
use Rattle.pc_types_builder.specs.Plain.{Layers}
use Rattle.pc_types_builder.specs.Converted.{AreConverted}
use Rattle.pc_types_builder.specs.Trees.{IsEntry, identities}
use Rattle.pc_types_builder.proofs.KnownLemmas.{converted_keeps, identity_same}
use Rattle.pc_types_builder.proofs.SameTrees.{trees_same}
use Rattle.pc_dfg.specs.declared.dfg.ComponentDfg.{ComponentDfg}
use Rattle.pc_spec_reading.specs.Scope.{Scope}
use Rattle.pc_spec_reading.specs.Types.{type_tree}
use Rattle.pc_inline_state.specs.Fits.{Fits, FitsBefore}
use Rattle.pc_inline_state.specs.Frames.{Both, both}
use Rattle.pc_inline_state.specs.KnowsSame.{IsResource, KnowsSame}
use Rattle.pc_inline_state.proofs.FitsLemmas.{who_fits, who_of}
use Rattle.pc_inline_state.proofs.ZipLemmas.{both_more}

-- types that are kept are those of the entries that were converted, where the same resources are known
pub converted_kept : (old new : Types) → KeepsTypes old new → new.resources ≡ old.resources → (t : TypeTable)
    (done : Layers) → AreConverted old t done → AreConverted new t done
converted_kept old new keeps same t done are =
    converted_keeps old new keeps (ap (λ (r : Resources). r.current) same)
    (λ n. ap (λ (r : Resources). resource_of r.known n) (sym same)) t done are

-- the identity under which a number is known is that of its resource
identity_known : (who : ResourceIndex → Identity) (known : List (ℕ × ResourceIndex)) (n : ℕ) (r : Option ResourceIndex)
    → resource_of known n ≡ r → identity_of (identities who known) n ≡ option_map who r
identity_known who known n None is = identity_same who known [] n is
identity_known who known n (Some r) is =
    let alone : resource_of ((n, r) ∷ []) n ≡ Some r = rw (eq-eqb n n refl) refl in
    let found : identity_of (identities who ((n, r) ∷ [])) n ≡ Some (who r) = rw (eq-eqb n n refl) refl in
    identity_same who known ((n, r) ∷ []) n (is ∙ sym alone) ∙ found

module _ (g : ComponentDfg) (k : Resources) (s : Scope) (knows : KnowsSame g k s) where
  -- the builder knows the same in a graph that has grown
  pub knows_grown : (h : ComponentDfg) → FitsBefore g h → KnowsSame h k s
  knows_grown h fits = record {
    known = λ n. both_more (IsResource g) (IsResource h) (λ r i is who now. is who (fits who now))
        (resource_of k.known n) (identity_of s.known n) (knows.known n);
    current = knows.current;
  }

  -- so does one that finds the same resources, for the same component instance
  pub knows_as : (j : Resources) → ((n : ℕ) → resource_of j.known n ≡ resource_of k.known n) → j.current ≡ k.current
      → KnowsSame g j s
  knows_as j same current = record {
    known = λ n. subst (λ r. Both (IsResource g) r (identity_of s.known n)) (sym (same n)) (knows.known n);
    current = ap (λ c. c.0) current ∙ knows.current;
  }

  -- so does a scope that knows the same, of the same component instance
  pub knows_in : (u : Scope) → u.known ≡ s.known → u.component_instance ≡ s.component_instance → KnowsSame g k u
  knows_in u same current = record {
    known = λ n. subst (λ ks. Both (IsResource g) (resource_of k.known n) (identity_of ks n)) (sym same)
        (knows.known n);
    current = knows.current ∙ sym current;
  }

  -- what is known on both sides is one, however resource numbers are read that fits
  known_both : (who : ResourceIndex → Identity) → Fits g who → (r : Option ResourceIndex) (i : Option Identity)
      → Both (IsResource g) r i → option_map who r ≡ i
  known_both who fits None None m = refl
  known_both who fits None (Some i) m = elim m [ ]
  known_both who fits (Some r) None m = elim m [ ]
  known_both who fits (Some r) (Some i) (both is) = ap Some (is who fits)

  -- the tree of an entry in the builder is that in the scope
  trees_here : (who : ResourceIndex → Identity) → Fits g who → (t : TypeTable) (n : ℕ)
      → tree_of (identities who k.known) k.current.0 t n ≡ tree_of s.known s.component_instance t n
  trees_here who fits t n =
      trees_same (identities who k.known) s.known k.current.0 t
      (λ m. identity_known who k.known m (resource_of k.known m) refl
      ∙ known_both who fits (resource_of k.known m) (identity_of s.known m) (knows.known m)) n
      ∙ ap (λ c. tree_of s.known c t n) knows.current

-- a type of an entry has the tree that the entry has in the scope, however resource numbers are read that fits
pub entry_here : (g : ComponentDfg) (types : Types) (s : Scope) → KnowsSame g types.resources s → (t : TypeTable)
    (n : ℕ) (d : TypeDef) → IsEntry types t n d
    → (tree : TypeTree) × (type_tree t s n ≡ Some tree)
    × ((who : ResourceIndex → Identity) → Fits g who → HasTree types who d tree)
unfolding type_tree
entry_here g types s knows t n d is =
    let k = types.resources in
    let first = is (who_of g) in
    let here : tree_of s.known s.component_instance t n ≡ Some first.0 =
    sym (trees_here g k s knows (who_of g) (who_fits g) t n) ∙ first.1 in (
      first.0,
      here,
      λ who fits.
          let other = is who in
          subst (HasTree types who d)
          (same_Some other.0 first.0 (sym other.1 ∙ trees_here g k s knows who fits t n ∙ here)) other.2,
    )
