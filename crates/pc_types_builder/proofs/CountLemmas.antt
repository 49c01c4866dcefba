-- What is asked for is few: each entry of the table gives one type, and each function two tuples besides.
use Rattle.std.proofs.Common.{◌≡◌, ◌≤◌, ◌<◌, ◌+◌, ◌*◌, ◌⊎◌, ◌++◌, ◌∷◌, ◌∙◌, ℕ, List, [], length, Bool, true, Contains}
use Rattle.std.proofs.Common.{true≢false, Option, None, Some, refl, sym, ap, subst, arith, inl, inr}
use Rattle.std.specs.Prelude.{option_and_then, slice_get}
use Rattle.std.proofs.lemmas.List.{length-append}
use Rattle.std.proofs.lemmas.Option.{none-some, same_Some, slice_get_within}
use Rattle.pc_entity.proofs.LookupLemmas.{found_at}
use Rattle.pc_types.specs.declared.parsed.CoreEntity.{CoreEntity}
use Rattle.pc_types.specs.declared.parsed.CoreFuncSig.{CoreFuncSig}
use Rattle.pc_types.specs.declared.parsed.DeclType.{DeclType}
use Rattle.pc_types.specs.declared.parsed.DeclType.TheVariants as entry
use Rattle.pc_types.specs.declared.parsed.TypeTable.{TypeTable}
use Rattle.pc_types.specs.declared.parsed.ValType.{ValType}
use Rattle.pc_types.specs.declared.types.InterfaceType.{InterfaceType}
use Rattle.pc_types.specs.declared.types.InterfaceType.TheVariants as ty
use Rattle.pc_types.specs.declared.types.TypeDef.{TypeDef}
use Rattle.pc_types.specs.declared.types.TypeDef.TheVariants as def
use Rattle.pc_types.specs.declared.types.TypeKind.{TypeKind}
use Rattle.pc_types.specs.declared.types.TypeKind.TheVariants as kind
use Rattle.pc_types.specs.TypeTree.{Identity, TypeTree, entry_tree, trees_from}
use Rattle.pc_types_lists.specs.Added.{numbered_type}
use Rattle.pc_types_lists.specs.Adds.{AddsTypes, HasNoPlaceFor, is_counted, most_types}
use Rattle.pc_types_lists.specs.Trees.{HasTree}
use Rattle.pc_types_lists.specs.Types.{Grows, HasNumber, IsBuilder, IsFull, Types, held}
use Rattle.pc_types_lists.proofs.AddedLemmas.{below_or}
use Rattle.pc_types_lists.proofs.FewLemmas.{at_most_from, few_more, few_none, no_place_before, put_length}
use Rattle.pc_types_lists.proofs.Growth.{contains_at}
use Rattle.pc_types_lists.proofs.HeldLemmas.{value_of}
use Rattle.pc_types_convert.specs.Adds.{AddsContexts, AddsSignatures, IsOneOf, one_context, one_signature, one_tuple}
use Rattle.pc_types_convert.specs.Adds.{one_type}
use Rattle.pc_types_convert.specs.Parts.{IsErrorContext}
use Rattle.pc_types_convert.proofs.OneNumber.{one_number, zip_one}
use Rattle.pc_types_builder.specs.Asked.{AddsAsked, AsksContexts, HasParams, HasReturns, IsReachedSignature}
use Rattle.pc_types_builder.specs.Asked.{IsReachedTuple, IsReachedType, of_func, of_module}
use Rattle.pc_types_builder.specs.Trees.{IsEntry, IsValue, identities}
use Rattle.pc_types_builder.proofs.RefusalLemmas.{apart, by_number}

-- the number in a type that has one
abbrev number_in : Option TypeDef → ℕ
number_in (Some (def.ComponentFunc i)) = i.0
number_in (Some (def.Component i)) = i.0
number_in (Some (def.ComponentInstance i)) = i.0
number_in (Some (def.Module i)) = i.0
number_in (Some (def.Resource i)) = i.0
number_in (Some (def.Interface (ty.Record i))) = i.0
number_in (Some (def.Interface (ty.Variant i))) = i.0
number_in (Some (def.Interface (ty.List i))) = i.0
number_in (Some (def.Interface (ty.Tuple i))) = i.0
number_in (Some (def.Interface (ty.Flags i))) = i.0
number_in (Some (def.Interface (ty.Enum i))) = i.0
number_in (Some (def.Interface (ty.Option i))) = i.0
number_in (Some (def.Interface (ty.Result i))) = i.0
number_in (Some (def.Interface (ty.Future i))) = i.0
number_in (Some (def.Interface (ty.Stream i))) = i.0
number_in _ = 0

-- a type of a kind has one number
numbered_one : (k : TypeKind) (i j : ℕ) (d : TypeDef) → numbered_type k i ≡ Some d → numbered_type k j ≡ Some d → i ≡ j
numbered_one kind.Func i j d h l = ap number_in (h ∙ sym l)
numbered_one kind.Tuple i j d h l = ap number_in (h ∙ sym l)
numbered_one kind.Record i j d h l = ap number_in (h ∙ sym l)
numbered_one kind.Variant i j d h l = ap number_in (h ∙ sym l)
numbered_one kind.List i j d h l = ap number_in (h ∙ sym l)
numbered_one kind.Option i j d h l = ap number_in (h ∙ sym l)
numbered_one kind.Result i j d h l = ap number_in (h ∙ sym l)
numbered_one kind.Flags i j d h l = ap number_in (h ∙ sym l)
numbered_one kind.Enum i j d h l = ap number_in (h ∙ sym l)
numbered_one kind.ResourceTable i j d h l = ap number_in (h ∙ sym l)
numbered_one kind.FutureTable i j d h l = ap number_in (h ∙ sym l)
numbered_one kind.StreamTable i j d h l = ap number_in (h ∙ sym l)
numbered_one kind.ErrorContextTable i j d h l = absurd (none-some d h)
numbered_one kind.Instance i j d h l = ap number_in (h ∙ sym l)
numbered_one kind.Component i j d h l = ap number_in (h ∙ sym l)
numbered_one kind.Module i j d h l = ap number_in (h ∙ sym l)
numbered_one kind.Signature i j d h l = absurd (none-some d h)

-- which kinds have new numbers of their own sort
abbrev sort_of : TypeKind → ℕ
sort_of kind.Tuple = 1
sort_of kind.ErrorContextTable = 2
sort_of kind.Signature = 3
sort_of _ = 0

-- there is one tree for each entry
length-trees : (known : List (ℕ × Identity)) (c : ℕ) (t : TypeTable) (earlier : List (Option TypeTree))
    (es : List DeclType) → length (trees_from known c t earlier es) ≡ length earlier + length es
length-trees known c t earlier [] = omega arith
length-trees known c t earlier (e ∷ es) =
    omega (
      arith,
      length-trees known c t (earlier ++ entry_tree known c t earlier e ∷ []) es,
      length-append earlier (entry_tree known c t earlier e ∷ []),
    )

-- what stands in a list that may have nothing
within_some : {A : Type 0} (xs : List (Option A)) (n : ℕ) (x : A)
    → option_and_then (λ y. y) (slice_get xs n) ≡ Some x → n < length xs
within_some {A} xs n x h = by (slice_get xs n) refl h
  where
    by : (o : Option (Option A)) → slice_get xs n ≡ o → option_and_then (λ y. y) o ≡ Some x → n < length xs
    by None at h = absurd (none-some x h)
    by (Some y) at h = slice_get_within xs n y at

module _ (t : TypeTable) (b : Types) where
  -- number `i` of a kind is the type of entry `c`
  abbrev IsTypeOf : TypeKind → ℕ → ℕ → Type 0
  IsTypeOf k i c = (d : TypeDef) × (numbered_type k i ≡ Some d) × IsEntry b t c d

  -- the tuple of the parameters of an entry
  abbrev ParamsOf : DeclType → ℕ → Type 0
  ParamsOf (entry.Func params returns is_async) i = HasParams b t params i
  ParamsOf _ i = ⊥

  -- the tuple that an entry returns
  abbrev ReturnsOf : DeclType → ℕ → Type 0
  ReturnsOf (entry.Func params returns is_async) i = HasReturns b t returns i
  ReturnsOf _ i = ⊥

-- number `c` is that of tuple `i`: with T entries, the first T numbers are for the types of entries, the next T for the
-- parameters of functions, and T more for what functions return
data IsTupleAt (t : TypeTable) (b : Types) (i c : ℕ) : Type 0 where
  its_type : c < length t.types → IsTypeOf t b kind.Tuple i c → IsTupleAt t b i c
  its_params : (m : ℕ) (e : DeclType) → c ≡ length t.types + m → m < length t.types → slice_get t.types m ≡ Some e
      → ParamsOf t b e i → IsTupleAt t b i c
  its_returns : (m : ℕ) (e : DeclType) → c ≡ length t.types + length t.types + m → slice_get t.types m ≡ Some e
      → ReturnsOf t b e i → IsTupleAt t b i c

module _ (t : TypeTable) (b : Types) (is : IsBuilder b) where
  -- the type of an entry is an entry of the table
  entry_below : (m : ℕ) (d : TypeDef) → IsEntry b t m d → m < length t.types
  entry_below m d h =
      let x = h by_number in
      let known = identities by_number b.resources.known in
      let c = b.resources.current.0 in
      let within = within_some (trees_from known c t [] t.types) m x.0 x.1 in
      omega (arith, within, length-trees known c t [] t.types)

  -- an entry has one type
  entry_one : (m : ℕ) (d e : TypeDef) → IsEntry b t m d → IsEntry b t m e → d ≡ e
  entry_one m d e h k =
      let x = h by_number in
      let y = k by_number in
      one_number b is.distinct by_number apart d e x.0 x.2
      (subst (HasTree b by_number e) (same_Some y.0 x.0 (sym y.1 ∙ x.1)) y.2)

  -- so has a value type of the table
  value_one : (v : ValType) (w u : InterfaceType) → IsValue b t v w → IsValue b t v u → w ≡ u
  value_one v w u h k =
      let x = h by_number in
      let y = k by_number in
      ap value_of (one_number b is.distinct by_number apart (def.Interface w) (def.Interface u) x.0 x.2
      (subst (HasTree b by_number (def.Interface u)) (same_Some y.0 x.0 (sym y.1 ∙ x.1)) y.2))

  -- parameters have one tuple
  params_one : (params : List (List ℕ × ValType)) (i j : ℕ) → HasParams b t params i → HasParams b t params j → i ≡ j
  params_one params i j h k =
      let same = zip_one (λ (p : List ℕ × ValType) (w : InterfaceType). IsValue b t p.1 w)
      (λ p w u. value_one p.1 w u) params k.0.types h.0.types k.2 h.2 in
      is.distinct kind.Tuple i j h.0 h.1 (k.1 ∙ ap (λ x. Some (record { types = x })) same)

  -- so has what is returned
  returns_one : (returns : Option ValType) (i j : ℕ) → HasReturns b t returns i → HasReturns b t returns j → i ≡ j
  returns_one None i j h k = is.distinct kind.Tuple i j (record { types = [] }) h k
  returns_one (Some v) i j h k =
      let same = value_one v k.0 h.0 k.2 h.2 in
      is.distinct kind.Tuple i j (record { types = h.0 ∷ [] }) h.1
      (k.1 ∙ ap (λ x. Some (record { types = x ∷ [] })) same)

  -- an entry has one of the first
  params_of_one : (e : DeclType) (i j : ℕ) → ParamsOf t b e i → ParamsOf t b e j → i ≡ j
  params_of_one (entry.Func params returns is_async) i j h k = params_one params i j h k
  params_of_one _ i j h k = absurd h

  -- and one of the second
  returns_of_one : (e : DeclType) (i j : ℕ) → ReturnsOf t b e i → ReturnsOf t b e j → i ≡ j
  returns_of_one (entry.Func params returns is_async) i j h k = returns_one returns i j h k
  returns_of_one _ i j h k = absurd h

  -- an entry has one such number
  type_one : (k : TypeKind) (i j c : ℕ) → IsTypeOf t b k i c → IsTypeOf t b k j c → i ≡ j
  type_one k i j c h l =
      numbered_one k i j h.0 h.1 (l.1 ∙ ap Some (entry_one c l.0 h.0 l.2 h.2))

  -- an entry and a tag have one tuple
  tuple_one : (i j c : ℕ) → IsTupleAt t b i c → IsTupleAt t b j c → i ≡ j
  tuple_one i j c (its_type a h) (its_type x k) = type_one kind.Tuple i j c h k
  tuple_one i j c (its_type a h) (its_params m e x y at k) = absurd (omega (arith, a, x))
  tuple_one i j c (its_type a h) (its_returns m e x at k) = absurd (omega (arith, a, x))
  tuple_one i j c (its_params m e a below at h) (its_type x k) = absurd (omega (arith, a, x))
  tuple_one i j c (its_params m e a below at h) (its_params n f x y there k) =
      let same : n ≡ m = omega (arith, a, x) in
      params_of_one e i j h
      (subst (λ g. ParamsOf t b g j) (same_Some f e (sym there ∙ ap (slice_get t.types) same ∙ at)) k)
  tuple_one i j c (its_params m e a below at h) (its_returns n f x there k) = absurd (omega (arith, a, below, x))
  tuple_one i j c (its_returns m e a at h) (its_type x k) = absurd (omega (arith, a, x))
  tuple_one i j c (its_returns m e a at h) (its_params n f x y there k) = absurd (omega (arith, a, x, y))
  tuple_one i j c (its_returns m e a at h) (its_returns n f x there k) =
      let same : n ≡ m = omega (arith, a, x) in
      returns_of_one e i j h
      (subst (λ g. ReturnsOf t b g j) (same_Some f e (sym there ∙ ap (slice_get t.types) same ∙ at)) k)

  -- the error contexts of the current instance have one number
  context_one : (i j c : ℕ) → IsErrorContext b (record { 0 = i }) → IsErrorContext b (record { 0 = j }) → i ≡ j
  context_one i j c h k =
      is.distinct kind.ErrorContextTable i j (record { instance = b.resources.current }) h k

  module _ (n : ℕ) where
    -- what is asked for
    abbrev IsAsked : TypeKind → ℕ → Type 0
    IsAsked k i =
        IsOneOf b (AsksContexts t n) (IsReachedType b t n) (IsReachedTuple b t n) (IsReachedSignature b t n) k i

    -- a type of most kinds has the number of an entry
    type_at : (k : TypeKind) → sort_of k ≡ 0 → (i : ℕ) → IsAsked k i
        → (c : ℕ) × (c < 3 * length t.types) × IsTypeOf t b k i c
    type_at k sort i (one_type d named is_reached) =
        let within = entry_below is_reached.0 d is_reached.2 in
        (is_reached.0, omega (arith, within), (d, named, is_reached.2))
    type_at k sort i (one_tuple same has) = absurd (omega (arith, sort, ap sort_of same))
    type_at k sort i (one_signature same has) = absurd (omega (arith, sort, ap sort_of same))
    type_at k sort i (one_context same how has) = absurd (omega (arith, sort, ap sort_of same))

    -- a tuple of a function has the number of the function, and a tag
    func_tuple : (i : ℕ) → IsReachedTuple b t n i → (c : ℕ) × (c < 3 * length t.types) × IsTupleAt t b i c
    func_tuple i (of_func m params returns is_async reached at has) =
        let within = slice_get_within t.types m (entry.Func params returns is_async) at in
        elim has as (λ _. (c : ℕ) × (c < 3 * length t.types) × IsTupleAt t b i c) [
          | inl ps ↦ (
            length t.types + m,
            omega (arith, within),
            its_params m (entry.Func params returns is_async) refl within at ps,
          )
          | inr rs ↦ (
            length t.types + length t.types + m,
            omega (arith, within),
            its_returns m (entry.Func params returns is_async) refl at rs,
          )
        ]

    -- so has each tuple
    tuple_at : (i : ℕ) → IsAsked kind.Tuple i → (c : ℕ) × (c < 3 * length t.types) × IsTupleAt t b i c
    tuple_at i (one_type d named is_reached) =
        let within = entry_below is_reached.0 d is_reached.2 in
        (is_reached.0, omega (arith, within), its_type within (d, named, is_reached.2))
    tuple_at i (one_tuple same has) = func_tuple i has
    tuple_at i (one_signature same has) = absurd (omega (arith, ap sort_of same))
    tuple_at i (one_context same how has) = absurd (omega (arith, ap sort_of same))

    -- error contexts have the first number, since an entry asks for them
    context_at : (i : ℕ) → IsAsked kind.ErrorContextTable i
        → (c : ℕ) × (c < 3 * length t.types) × IsErrorContext b (record { 0 = i })
    context_at i (one_type d named is_reached) = absurd (none-some d named)
    context_at i (one_tuple same has) = absurd (omega (arith, ap sort_of same))
    context_at i (one_signature same has) = absurd (omega (arith, ap sort_of same))
    context_at i (one_context same how has) =
        let within = slice_get_within t.types how.0 how.1 how.3 in
        (0, omega (arith, within), has)

    -- a signature that is asked for is the table's
    signature_in : (i : ℕ) (s : CoreFuncSig) → slice_get b.signatures i ≡ Some s → IsReachedSignature b t n i
        → Contains t.core_funcs s
    signature_in i s at (of_module m imports exports reached entry_at r found named) =
        contains_at t.core_funcs named.0 s (named.2 ∙ ap Some (same_Some r s (sym found ∙ at)))

    -- so is one that is new
    signature_at : (i : ℕ) (s : CoreFuncSig) → slice_get b.signatures i ≡ Some s → IsAsked kind.Signature i
        → Contains t.core_funcs s
    signature_at i s at (one_type d named is_reached) = absurd (none-some d named)
    signature_at i s at (one_tuple same has) = absurd (omega (arith, ap sort_of same))
    signature_at i s at (one_signature same has) = signature_in i s at has
    signature_at i s at (one_context same how has) = absurd (omega (arith, ap sort_of same))

    -- where only what is asked for is new, each list has grown by few
    asked_few : (a : Types) → AddsAsked t n a b → (k : TypeKind) → is_counted k ≡ true
        → held b k ≤ held a k + 3 * length t.types
    asked_few a adds = by
      where
        most : (k : TypeKind) → sort_of k ≡ 0 → held b k ≤ held a k + 3 * length t.types
        most k sort = at_most_from (held a k) (3 * length t.types) (IsTypeOf t b k) (type_one k) (held b k)
            (λ i above below. type_at k sort i (adds.only.each k i above below))

        by : (k : TypeKind) → is_counted k ≡ true → held b k ≤ held a k + 3 * length t.types
        by kind.Tuple counted =
            at_most_from (held a kind.Tuple) (3 * length t.types) (IsTupleAt t b) tuple_one (held b kind.Tuple)
            (λ i above below. tuple_at i (adds.only.each kind.Tuple i above below))
        by kind.ErrorContextTable counted =
            at_most_from (held a kind.ErrorContextTable) (3 * length t.types)
            (λ i c. IsErrorContext b (record { 0 = i })) context_one (held b kind.ErrorContextTable)
            (λ i above below. context_at i (adds.only.each kind.ErrorContextTable i above below))
        by kind.Signature counted = absurd (true≢false (sym counted))
        by k counted = most k refl

    -- a signature that is held was held, or is the table's
    asked_signature : (a : Types) → Grows a b → AddsAsked t n a b → (s : CoreFuncSig) → HasNumber b.signatures s
        → HasNumber a.signatures s ⊎ Contains t.core_funcs s
    asked_signature a g adds s has =
        elim (below_or has.0 (length a.signatures)) as (λ _. HasNumber a.signatures s ⊎ Contains t.core_funcs s) [
          | inl early ↦ (
              let f = found_at a.signatures has.0 early in
              inl (has.0, f.1 ∙ ap Some (same_Some f.0 s (sym (g.signatures has.0 f.0 f.1) ∙ has.1))))
          | inr late ↦ (
              let within = slice_get_within b.signatures has.0 s has.1 in
              inr (signature_at has.0 s has.1 (adds.only.each kind.Signature has.0 late within)))
        ]

    -- what is asked for is few
    asked_types : (a : Types) → Grows a b → AddsAsked t n a b → AddsTypes t (3 * length t.types) a b
    asked_types a g adds = record { few = asked_few a adds; signatures = asked_signature a g adds }

-- what changes nothing adds few types
pub none_few : (t : TypeTable) (w : ℕ) (a b : Types) → b ≡ a → AddsTypes t w a b
none_few t w a b same = few_none t w a b same

-- a conversion adds few types
pub additions_are_few : (t : TypeTable) (n : ℕ) (old new : Types) → IsBuilder new → Grows old new
    → AddsAsked t n old new → AddsTypes t (most_types t) old new
additions_are_few t n old new is g adds =
    few_more t (3 * length t.types) (most_types t) old new (omega arith) (asked_types t new is n old g adds)

-- so where a list is full after it, there was no place before for all that an entry may need
pub full_before : (t : TypeTable) (n : ℕ) (old new : Types) → IsBuilder new → Grows old new → AddsAsked t n old new
    → IsFull new → HasNoPlaceFor t old
full_before t n old new is g adds full =
    no_place_before t old new is (asked_types t new is n old g adds) full

-- error contexts are few
pub contexts_few : (t : TypeTable) (f : Bool) (a b : Types) → AddsContexts f a b → AddsTypes t (most_types t) a b
contexts_few t f a b adds = record { few = by; signatures = λ s has. inl (subst (λ l. HasNumber l s) same has) }
  where
    same : b.signatures ≡ a.signatures
    same = ap (λ (x : Types). x.signatures) adds.rest

    by : (k : TypeKind) → is_counted k ≡ true → held b k ≤ held a k + most_types t
    by kind.ErrorContextTable counted =
        let more = put_length a.error_context_tables b.error_context_tables
        (record { instance = a.resources.current }) adds.put in
        omega (arith, more)
    by k counted = let here = ap (λ (x : Types). held x k) adds.rest in omega (arith, here)

-- a signature of the table adds no other type
pub signature_few : (t : TypeTable) (es : List CoreEntity) (a b : Types) → Grows a b → AddsSignatures t es a b
    → AddsTypes t 0 a b
signature_few t es a b g adds = record { few = by; signatures = known }
  where
    by : (k : TypeKind) → is_counted k ≡ true → held b k ≤ held a k + 0
    by kind.Signature counted = absurd (true≢false (sym counted))
    by k counted = let here = ap (λ (x : Types). held x k) adds.rest in omega (arith, here)

    known : (s : CoreFuncSig) → HasNumber b.signatures s → HasNumber a.signatures s ⊎ Contains t.core_funcs s
    known s has =
        elim (below_or has.0 (length a.signatures)) as (λ _. HasNumber a.signatures s ⊎ Contains t.core_funcs s) [
          | inl early ↦ (
              let f = found_at a.signatures has.0 early in
              inl (has.0, f.1 ∙ ap Some (same_Some f.0 s (sym (g.signatures has.0 f.0 f.1) ∙ has.1))))
          | inr late ↦ (
              let within = slice_get_within b.signatures has.0 s has.1 in
              let x = adds.only has.0 late within in
              inr (contains_at t.core_funcs x.2.0 s (x.2.2 ∙ ap Some (same_Some x.0 s (sym x.1 ∙ has.1)))))
        ]
