-- Two types are the same exactly where they are one.
use Rattle.std.specs.Prelude.{◌≡◌, ℕ, Bool, true, ◌==◌, ◌&&◌, List, [], ◌∷◌, refl}
use Rattle.std.specs.Bool.{Decides}
use Rattle.std.specs.Cmp.{booleans_Decides}
use Rattle.std.specs.Cmp.Lexicographic.{pointwise}
use Rattle.std.specs.Str.{bytes_eq}
use Rattle.std.proofs.Common.{ap, sym, subst, true≢false}
use Rattle.std.proofs.lemmas.Bool.Decides.{Decides-eqb}
use denote.Enum.Bare.{same_true}
use mathlib.Core.Bool.{beq}
use Rattle.pc_entity.specs.Exact.{same_lists, same_texts}
use Rattle.pc_entity.proofs.Elements.{and_true, true_and}
use Rattle.pc_entity.proofs.Naming.{bytes_eq-refl}
use Rattle.pc_types.specs.contracts.parsed.CoreFuncSigEq.TheImpl.Laws as laws_of_signatures
use Rattle.pc_types.specs.contracts.parsed.PrimType as prim
use Rattle.pc_types.specs.contracts.parsed.PrimTypeEq.TheImpl.Laws as laws_of_primitives
use Rattle.pc_types.specs.contracts.parsed.PrimTypePartialEq.TheImpl as eq_PrimType
use Rattle.pc_types.specs.declared.parsed.PrimType.{PrimType}
use Rattle.pc_types.specs.Equal.{signature_exact}
use Rattle.pc_types.specs.TypeTree.{TypeTree, Fields, Cases, Trees, MaybeTree, CoreTree, Resource, Identity, Path}
use Rattle.pc_types.specs.TypeTree.{imported, declared, concrete, abstract, core_func, core_table, core_memory}
use Rattle.pc_types.specs.TypeTree.{core_global, core_tag, primitive, error_context, record_of, variant_of, list_of}
use Rattle.pc_types.specs.TypeTree.{tuple_of, flags_of, enum_of, option_of, result_of, own_of, borrow_of, stream_of}
use Rattle.pc_types.specs.TypeTree.{future_of, func_of, instance_of, component_of, module_of, resource_of, no_fields}
use Rattle.pc_types.specs.TypeTree.{and_field, no_cases, and_case, no_trees, and_tree, no_tree, a_tree}
use Rattle.pc_spec_reading.specs.SameTypes.{same_names, same_path, same_identity, same_resource, same_core}
use Rattle.pc_spec_reading.specs.SameTypes.{same_core_import, same_core_export, same_type, same_fields, same_cases}
use Rattle.pc_spec_reading.specs.SameTypes.{same_trees, same_maybe}

-- a test that answers true of one value alone, and of it
pub decided : {A : Type 0} (E : A → A → Bool) → ((a b : A) → E a b ≡ true → a ≡ b) → ((a : A) → E a a ≡ true)
    → (a b : A) → Decides (E a b) (a ≡ b)
decided E exact itself a b = (exact a b, λ same. subst (λ c. E a c ≡ true) same (itself a))

-- numbers that compare equal are one number
pub number_exact : (m n : ℕ) → (m == n) ≡ true → m ≡ n
number_exact m n h = (Decides-eqb m n).0 h

-- a number is itself
pub number_itself : (n : ℕ) → (n == n) ≡ true
number_itself n = (Decides-eqb n n).1 refl

-- flags likewise
pub flag_exact : (a b : Bool) → beq a b ≡ true → a ≡ b
flag_exact a b h = (booleans_Decides a b).0 h

pub flag_itself : (b : Bool) → beq b b ≡ true
flag_itself b = (booleans_Decides b b).1 refl

-- a list is itself, where each item is
pub list_itself : {A : Type 0} (E : A → A → Bool) → ((a : A) → E a a ≡ true) → (xs : List A)
    → pointwise E xs xs ≡ true
list_itself E itself [] = refl
list_itself E itself (x ∷ xs) = true_and (E x x) (pointwise E xs xs) (itself x) (list_itself E itself xs)

-- primitives
prim_exact : (p q : PrimType) → eq_PrimType.ghosts.eq p q ≡ true → p ≡ q
prim_exact p q h = same_true prim.the_type tt p q h

-- lists of names
names_exact : (a b : List (List ℕ)) → same_names a b ≡ true → a ≡ b
names_exact a b h = same_lists same_texts a b h

names_itself : (a : List (List ℕ)) → same_names a a ≡ true
names_itself a = list_itself bytes_eq bytes_eq-refl a

-- paths
pub path_exact : (p q : Path) → same_path p q ≡ true → p ≡ q
path_exact p q h =
    let both = and_true (p.import == q.import) (same_names p.names q.names) h in
    let place = number_exact p.import q.import both.0 in
    let names = names_exact p.names q.names both.1 in
    λ i. record { import = place i; names = names i }

pub path_itself : (p : Path) → same_path p p ≡ true
path_itself p =
    true_and (p.import == p.import) (same_names p.names p.names) (number_itself p.import) (names_itself p.names)

-- origins of resources
identity_exact : (a b : Identity) → same_identity a b ≡ true → a ≡ b
identity_exact (imported p) (imported q) h = ap imported (path_exact p q h)
identity_exact (declared m) (declared n) h = ap declared (number_exact m n h)
identity_exact a b h = absurd (true≢false (sym h))

identity_itself : (a : Identity) → same_identity a a ≡ true
identity_itself (imported p) = path_itself p
identity_itself (declared n) = number_itself n

-- resources
resource_exact : (a b : Resource) → same_resource a b ≡ true → a ≡ b
resource_exact (concrete a c) (concrete b d) h =
    let both = and_true (same_identity a b) (c == d) h in
    let one = identity_exact a b both.0 in
    let two = number_exact c d both.1 in
    λ i. concrete (one i) (two i)
resource_exact (abstract m) (abstract n) h = ap abstract (number_exact m n h)
resource_exact a b h = absurd (true≢false (sym h))

resource_itself : (a : Resource) → same_resource a a ≡ true
resource_itself (concrete a c) = true_and (same_identity a a) (c == c) (identity_itself a) (number_itself c)
resource_itself (abstract n) = number_itself n

-- entities of core modules
core_exact : (a b : CoreTree) → same_core a b ≡ true → a ≡ b
core_exact (core_func s) (core_func r) h = ap core_func (signature_exact s r h)
core_exact core_table core_table h = refl
core_exact (core_memory v) (core_memory w) h = ap core_memory (flag_exact v w h)
core_exact core_global core_global h = refl
core_exact core_tag core_tag h = refl
core_exact a b h = absurd (true≢false (sym h))

core_itself : (a : CoreTree) → same_core a a ≡ true
core_itself (core_func s) = (laws_of_signatures.laws-law).refl s
core_itself core_table = refl
core_itself (core_memory v) = flag_itself v
core_itself core_global = refl
core_itself core_tag = refl

-- imports of module types
import_exact : (a b : List ℕ × List ℕ × CoreTree) → same_core_import a b ≡ true → a ≡ b
import_exact a b h =
    let first = and_true (bytes_eq a.0 b.0 && bytes_eq a.1 b.1) (same_core a.2 b.2) h in
    let second = and_true (bytes_eq a.0 b.0) (bytes_eq a.1 b.1) first.0 in
    let one = same_texts a.0 b.0 second.0 in
    let two = same_texts a.1 b.1 second.1 in
    let three = core_exact a.2 b.2 first.1 in
    λ i. (one i, two i, three i)

import_itself : (a : List ℕ × List ℕ × CoreTree) → same_core_import a a ≡ true
import_itself a =
    true_and (bytes_eq a.0 a.0 && bytes_eq a.1 a.1) (same_core a.2 a.2)
    (true_and (bytes_eq a.0 a.0) (bytes_eq a.1 a.1) (bytes_eq-refl a.0) (bytes_eq-refl a.1)) (core_itself a.2)

-- exports of module types
export_exact : (a b : List ℕ × CoreTree) → same_core_export a b ≡ true → a ≡ b
export_exact a b h =
    let both = and_true (bytes_eq a.0 b.0) (same_core a.1 b.1) h in
    let one = same_texts a.0 b.0 both.0 in
    let two = core_exact a.1 b.1 both.1 in
    λ i. (one i, two i)

export_itself : (a : List ℕ × CoreTree) → same_core_export a a ≡ true
export_itself a = true_and (bytes_eq a.0 a.0) (same_core a.1 a.1) (bytes_eq-refl a.0) (core_itself a.1)

-- types, and lists of them
mutual
  unfolding same_type same_fields same_cases same_trees same_maybe

  pub type_exact : (x y : TypeTree) → same_type x y ≡ true → x ≡ y
  type_exact (primitive a) (primitive p) h = ap primitive (prim_exact a p h)
  type_exact (error_context a) (error_context p) h = ap error_context (number_exact a p h)
  type_exact (record_of a) (record_of p) h = ap record_of (fields_exact a p h)
  type_exact (variant_of a) (variant_of p) h = ap variant_of (cases_exact a p h)
  type_exact (list_of a) (list_of p) h = ap list_of (type_exact a p h)
  type_exact (tuple_of a) (tuple_of p) h = ap tuple_of (trees_exact a p h)
  type_exact (flags_of a) (flags_of p) h = ap flags_of (names_exact a p h)
  type_exact (enum_of a) (enum_of p) h = ap enum_of (names_exact a p h)
  type_exact (option_of a) (option_of p) h = ap option_of (type_exact a p h)
  type_exact (result_of a b) (result_of p q) h =
      let first = and_true _ _ h in
      let one = maybe_exact a p first.0 in
      let two = maybe_exact b q first.1 in
      λ i. result_of (one i) (two i)
  type_exact (own_of a) (own_of p) h = ap own_of (resource_exact a p h)
  type_exact (borrow_of a) (borrow_of p) h = ap borrow_of (resource_exact a p h)
  type_exact (stream_of a b) (stream_of p q) h =
      let first = and_true _ _ h in
      let one = maybe_exact a p first.0 in
      let two = number_exact b q first.1 in
      λ i. stream_of (one i) (two i)
  type_exact (future_of a b) (future_of p q) h =
      let first = and_true _ _ h in
      let one = maybe_exact a p first.0 in
      let two = number_exact b q first.1 in
      λ i. future_of (one i) (two i)
  type_exact (func_of a b c) (func_of p q r) h =
      let first = and_true _ _ h in
      let second = and_true _ _ first.0 in
      let one = fields_exact a p second.0 in
      let two = maybe_exact b q second.1 in
      let three = flag_exact c r first.1 in
      λ i. func_of (one i) (two i) (three i)
  type_exact (instance_of a) (instance_of p) h = ap instance_of (fields_exact a p h)
  type_exact (component_of a b) (component_of p q) h =
      let first = and_true _ _ h in
      let one = fields_exact a p first.0 in
      let two = fields_exact b q first.1 in
      λ i. component_of (one i) (two i)
  type_exact (module_of a b) (module_of p q) h =
      let first = and_true _ _ h in
      let one = same_lists import_exact a p first.0 in
      let two = same_lists export_exact b q first.1 in
      λ i. module_of (one i) (two i)
  type_exact (resource_of a) (resource_of p) h = ap resource_of (resource_exact a p h)
  type_exact x y h = absurd (true≢false (sym h))

  pub fields_exact : (x y : Fields) → same_fields x y ≡ true → x ≡ y
  fields_exact no_fields no_fields h = refl
  fields_exact (and_field a b c) (and_field p q r) h =
      let first = and_true _ _ h in
      let second = and_true _ _ first.0 in
      let one = same_texts a p second.0 in
      let two = type_exact b q second.1 in
      let three = fields_exact c r first.1 in
      λ i. and_field (one i) (two i) (three i)
  fields_exact x y h = absurd (true≢false (sym h))

  pub cases_exact : (x y : Cases) → same_cases x y ≡ true → x ≡ y
  cases_exact no_cases no_cases h = refl
  cases_exact (and_case a b c) (and_case p q r) h =
      let first = and_true _ _ h in
      let second = and_true _ _ first.0 in
      let one = same_texts a p second.0 in
      let two = maybe_exact b q second.1 in
      let three = cases_exact c r first.1 in
      λ i. and_case (one i) (two i) (three i)
  cases_exact x y h = absurd (true≢false (sym h))

  pub trees_exact : (x y : Trees) → same_trees x y ≡ true → x ≡ y
  trees_exact no_trees no_trees h = refl
  trees_exact (and_tree a b) (and_tree p q) h =
      let first = and_true _ _ h in
      let one = type_exact a p first.0 in
      let two = trees_exact b q first.1 in
      λ i. and_tree (one i) (two i)
  trees_exact x y h = absurd (true≢false (sym h))

  pub maybe_exact : (x y : MaybeTree) → same_maybe x y ≡ true → x ≡ y
  maybe_exact no_tree no_tree h = refl
  maybe_exact (a_tree a) (a_tree p) h = ap a_tree (type_exact a p h)
  maybe_exact x y h = absurd (true≢false (sym h))

-- each is itself
mutual
  unfolding same_type same_fields same_cases same_trees same_maybe

  pub type_itself : (x : TypeTree) → same_type x x ≡ true
  type_itself (primitive a) = (laws_of_primitives.laws-law).refl a
  type_itself (error_context a) = number_itself a
  type_itself (record_of a) = fields_itself a
  type_itself (variant_of a) = cases_itself a
  type_itself (list_of a) = type_itself a
  type_itself (tuple_of a) = trees_itself a
  type_itself (flags_of a) = names_itself a
  type_itself (enum_of a) = names_itself a
  type_itself (option_of a) = type_itself a
  type_itself (result_of a b) =
      true_and _ _ (maybe_itself a) (maybe_itself b)
  type_itself (own_of a) = resource_itself a
  type_itself (borrow_of a) = resource_itself a
  type_itself (stream_of a b) =
      true_and _ _ (maybe_itself a) (number_itself b)
  type_itself (future_of a b) =
      true_and _ _ (maybe_itself a) (number_itself b)
  type_itself (func_of a b c) =
      true_and _ _ (true_and _ _ (fields_itself a) (maybe_itself b)) (flag_itself c)
  type_itself (instance_of a) = fields_itself a
  type_itself (component_of a b) =
      true_and _ _ (fields_itself a) (fields_itself b)
  type_itself (module_of a b) =
      true_and _ _ (list_itself same_core_import import_itself a) (list_itself same_core_export export_itself b)
  type_itself (resource_of a) = resource_itself a

  pub fields_itself : (x : Fields) → same_fields x x ≡ true
  fields_itself no_fields = refl
  fields_itself (and_field a b c) =
      true_and _ _ (true_and _ _ (bytes_eq-refl a) (type_itself b)) (fields_itself c)

  pub cases_itself : (x : Cases) → same_cases x x ≡ true
  cases_itself no_cases = refl
  cases_itself (and_case a b c) =
      true_and _ _ (true_and _ _ (bytes_eq-refl a) (maybe_itself b)) (cases_itself c)

  pub trees_itself : (x : Trees) → same_trees x x ≡ true
  trees_itself no_trees = refl
  trees_itself (and_tree a b) =
      true_and _ _ (type_itself a) (trees_itself b)

  pub maybe_itself : (x : MaybeTree) → same_maybe x x ≡ true
  maybe_itself no_tree = refl
  maybe_itself (a_tree a) = type_itself a

-- two types are the same exactly where they are one
pub types_one : (t u : TypeTree) → Decides (same_type t u) (t ≡ u)
types_one = decided same_type type_exact type_itself
