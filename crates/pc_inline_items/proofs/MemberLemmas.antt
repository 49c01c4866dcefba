-- Items by the numbers of their names against the values of the reading: one export or argument more (`exports_next`,
-- `arguments_next`), and whether all are there (`exports_all`, `arguments_all`) or one isn't (`exports_lack`,
-- `arguments_lack`).
use Rattle.std.proofs.Common.{◌≡◌, ◌∙◌, ◌&&◌, ◌||◌, ◌≤◌, ◌+◌, ℕ, Bool, true, false, true≢false, List, [], ◌∷◌}
use Rattle.std.proofs.Common.{◌++◌, get_or, Option, None, Some, refl, sym, ap, subst, map, if◌then◌else◌, length, take, arith}
use Rattle.std.proofs.Common.{cond}
use Rattle.std.proofs.Common.{zero, suc}
use Rattle.std.specs.Prelude.{is_some, option_and_then, option_map, slice_get, filter_map, nat_eq, nat_lt}
use Rattle.std.specs.List.{cons_option, list_all}
use Rattle.std.specs.Str.{bytes_eq}
use Rattle.std.proofs.lemmas.Bool.{le-ltb, lt-ltb}
use Rattle.std.proofs.lemmas.List.{append-nil, length-map}
use Rattle.std.proofs.lemmas.Nat.{mul-le}
use Rattle.std.proofs.lemmas.List.Elements.{filter_map-append}
use Rattle.std.proofs.lemmas.List.Folds.{list_any-append}
use Rattle.std.proofs.lemmas.List.Sums.{sum_by-append}
use Rattle.std.proofs.lemmas.Option.{none-some, slice_get-map, slice_get_within}
use Rattle.pc_entity.specs.declared.string_pool.Atom.{Atom}
use Rattle.pc_entity.specs.Lists.{AreDistinct, map_all, value_of}
use Rattle.pc_entity.proofs.Elements.{and_true}
use Rattle.pc_types.specs.declared.module_record.ModuleRecord.{ModuleRecord}
use Rattle.pc_types.specs.declared.parsed.DeclType.{DeclType}
use Rattle.pc_types.specs.declared.parsed.TypeTable.{TypeTable}
use Rattle.pc_types.specs.Names.{has_name}
use Rattle.pc_types.specs.Table.{is_some_and, table_fault}
use Rattle.pc_types.specs.TypeTree.{TypeTree}
use Rattle.pc_types_lists.specs.Adds.{most_types}
use Rattle.pc_parsed.specs.declared.payload.ExternName.{ExternName}
use Rattle.pc_parsed.specs.declared.payload.ItemKind.{ItemKind}
use Rattle.pc_parsed.specs.declared.payload.ItemKind.TheVariants as kind
use Rattle.pc_spec_reading.specs.Items.{argument_value, exported_value, exports_at, is_typed_argument, is_typed_export}
use Rattle.pc_spec_reading.specs.Items.{is_typed_item, value_at}
use Rattle.pc_spec_reading.specs.Scope.{Scope}
use Rattle.pc_spec_reading.specs.Section.{argument_of, named_item}
use Rattle.pc_spec_reading.specs.Types.{type_tree}
use Rattle.pc_spec_reading.specs.Value.{NamedValue, Value, pack_values, type_value}
use Rattle.pc_inline_names.specs.Both.{Both, both, neither}
use Rattle.pc_inline_names.specs.Named.{Named}
use Rattle.pc_inline_names.specs.Numbers.{AreNumbersOf, IsNumber, SameNamed, numbered_value, with_first_number}
use Rattle.pc_inline_names.proofs.NumberedLemmas.{named_first, number_alike, number_at, numbers_many}
use Rattle.pc_inline_state.specs.declared.definition.DefinitionId.{DefinitionId}
use Rattle.pc_inline_state.specs.declared.frame.Frame.{Frame}
use Rattle.pc_inline_state.specs.declared.state.Member.{Member}
use Rattle.pc_inline_state.specs.declared.state.State.{State}
use Rattle.pc_inline_state.specs.Adds.{is_type_kind, types_among}
use Rattle.pc_inline_state.specs.Frames.{FrameStands}
use Rattle.pc_inline_state.specs.Lists.{item_ids}
use Rattle.pc_inline_state.specs.Named.{export_name}
use Rattle.pc_inline_state.specs.Stands.{MembersStand, Stands, no_members}
use Rattle.pc_inline_state.specs.Tables.{Tables, tables_of}
use Rattle.pc_inline_state.proofs.ZipLemmas.{both_more}
use Rattle.pc_inline_canon.proofs.KeptLemmas.{members_kept, stands_kept}
use Rattle.pc_inline_canon.proofs.TreeLemmas.{tested_tree}
use Rattle.pc_inline_items.specs.Members.{AddsItem, ArgumentsSoFar, ExportsSoFar, TakesTypes, are_there, are_typed}
use Rattle.pc_inline_items.specs.Members.{if_type}
use Rattle.pc_inline_items.specs.Members.{is_held, is_there, is_typed, member_of, with_item}
use Rattle.pc_inline_items.proofs.ItemLemmas.{item_there, members_push}
use Rattle.pc_inline_items.proofs.TakesLemmas.{takes_both, takes_more, takes_none}

-- a list of what items become, with one item more
map_push : {A B : Type 0} (f : A → B) (xs : List A) (x : A) → map f (xs ++ x ∷ []) ≡ map f xs ++ f x ∷ []
map_push f [] x = refl
map_push f (y ∷ ys) x = ap (λ zs. f y ∷ zs) (map_push f ys x)

-- whether an item counts as a type
kind_counts : (k : ItemKind) → cond (is_type_kind k) 1 0 ≡ if_type k
kind_counts kind.Func = refl
kind_counts kind.Module = refl
kind_counts kind.Instance = refl
kind_counts kind.Component = refl
kind_counts kind.Type_ = refl
kind_counts kind.Value = refl

module _ {N : Type 0} where
  -- types among items and one more
  pub types_push : (xs : List (N × ItemKind × ℕ)) (x : N × ItemKind × ℕ)
      → types_among (xs ++ x ∷ []) ≡ types_among xs + if_type x.1
  types_push xs x =
      let all = sum_by-append (λ (y : N × ItemKind × ℕ). cond (is_type_kind y.1) 1 0) xs (x ∷ []) in
      let last = kind_counts x.1 in
      omega (arith, all, last)

  -- those in front are no more than all
  pub types_front : (xs : List (N × ItemKind × ℕ)) (i : ℕ) → types_among (take i xs) ≤ types_among xs
  types_front xs zero = omega arith
  types_front [] (suc i) = omega arith
  types_front (x ∷ xs) (suc i) =
      let rest = types_front xs i in
      let front = sum_by-append (λ (y : N × ItemKind × ℕ). cond (is_type_kind y.1) 1 0) (x ∷ []) (take i xs) in
      let all = sum_by-append (λ (y : N × ItemKind × ℕ). cond (is_type_kind y.1) 1 0) (x ∷ []) xs in
      omega (arith, rest, front, all)

  -- types that were converted up to an item are no more than all
  pub types_so_far : (t : TypeTable) (ms : List ModuleRecord) (a : State) (f : Frame) (b : State) (g : Frame)
      (c : State)
      (h : Frame) (xs : List (N × ItemKind × ℕ)) (i : ℕ) (x : N × ItemKind × ℕ)
      → take (i + 1) xs ≡ take i xs ++ x ∷ [] → TakesTypes t ms (types_among (take i xs)) a f b g
      → TakesTypes t ms (if_type x.1) b g c h → TakesTypes t ms (types_among xs) a f c h
  types_so_far t ms a f b g c h xs i x next first second =
      let front = types_front xs (i + 1) in
      let more = ap types_among next ∙ types_push (take i xs) x in
      takes_more t ms (types_among (take i xs) + if_type x.1) (types_among xs) a f c h
      (mul-le (types_among (take i xs) + if_type x.1) (1 + most_types t) (types_among xs) (1 + most_types t)
      (omega (arith, front, more)) (omega arith))
      (takes_both t ms (types_among (take i xs)) (if_type x.1) a f b g c h first second)

-- names of items and one more
named_push : (xs : List (ExternName × ItemKind × ℕ)) (x : ExternName × ItemKind × ℕ) (name : List ℕ)
    → has_name (map export_name (xs ++ x ∷ [])) name
    ≡ (has_name (map export_name xs) name || (bytes_eq name x.0.name || false))
named_push xs x name =
    ap (λ ns. has_name ns name) (map_push export_name xs x)
    ∙ list_any-append (bytes_eq name) (map export_name xs) (x.0.name ∷ [])

-- the first of two holds
or_first : (a b : Bool) → a ≡ true → (a || b) ≡ true
or_first true b h = refl
or_first false b h = absurd (true≢false (sym h))

-- the second of two holds
or_second : (a b : Bool) → b ≡ true → (a || b) ≡ true
or_second true b h = refl
or_second false b h = h

-- a name that none has isn't the name of a value
absent : {A : Type 0} (o : Option A) (b : Bool) → (is_some o ≡ true → b ≡ true) → b ≡ false → is_some o ≡ false
absent None b has none = refl
absent (Some x) b has none = absurd (true≢false (sym (has refl) ∙ none))

-- a value under a number that has none goes last
first_new : {A : Type 0} (es : List (Atom × A)) (n : Atom) (x : A) → is_some (numbered_value n es) ≡ false
    → with_first_number es n x ≡ es ++ (n, x) ∷ []
first_new es n x none = rw (none) refl

-- what has a number that none in front has stands at the end
last_numbered : {A : Type 0} (m n : Atom) (es : List (Atom × A)) (x : A) → numbered_value m es ≡ None
    → numbered_value m (es ++ (n, x) ∷ []) ≡ (if nat_eq m.0 n.0 then Some x else None)
last_numbered m n [] x none = refl
last_numbered m n (e ∷ es) x none = by (nat_eq m.0 e.0.0) (last_numbered m n es x) none
  where
    by : (t : Bool)
        → (numbered_value m es ≡ None
        → numbered_value m (es ++ (n, x) ∷ []) ≡ (if nat_eq m.0 n.0 then Some x else None))
        → (if t then Some e.1 else numbered_value m es) ≡ None
        → (if t then Some e.1 else numbered_value m (es ++ (n, x) ∷ []))
        ≡ (if nat_eq m.0 n.0 then Some x else None)
    by true rest h = absurd (none-some e.1 (sym h))
    by false rest h = rest h

module _ (t : TypeTable) (ms : List ModuleRecord) (a : State) (f : Frame) (b : State) (g : Frame) (c : State)
    (h : Frame)
  where
    -- one export more
    pub exports_next : (xs : List (ExternName × ItemKind × ℕ)) (x : ExternName × ItemKind × ℕ) (n : Atom)
        (es fs : List (Atom × Member)) → AreDistinct a.names.now.texts → IsNumber a.names.now.texts n x.0.name
        → ExportsSoFar t ms xs a f b g es → TakesTypes t ms (if_type x.1) b g c h
        → AddsItem t ms (member_of x.0) n x.1 x.2 b g c es fs
        → has_name (map export_name xs) x.0.name ≡ false → ExportsSoFar t ms (xs ++ x ∷ []) a f c h fs
    unfolding exports_at exported_value
    exports_next xs x n es fs distinct number so_far takes adds apart = record {
      takes = subst (λ k. TakesTypes t ms k a f c h) (sym (types_push xs x))
          (takes_both t ms (types_among xs) (if_type x.1) a f b g c h so_far.takes takes);
      members = λ now at.
          let kept = members_kept ms (tables_of b) (tables_of c) takes.keeps es
          (pack_values (exports_at t now.scope (map named_item xs))) (so_far.members now at) in
          let grown = ap (filter_map (exported_value t now.scope)) (map_push named_item xs x)
          ∙ filter_map-append (exported_value t now.scope) (map named_item xs) (named_item x ∷ []) in
          subst (λ ys. MembersStand ms (tables_of c) fs (pack_values ys)) (sym grown)
          (subst (λ zs. MembersStand ms (tables_of c) zs (pack_values (exports_at t now.scope (map named_item xs)
          ++ cons_option (exported_value t now.scope (named_item x)) []))) (sym adds.added)
          (member adds.id (value_at t now.scope x.1 x.2) (adds.stands now (so_far.takes.stands now at))
          (exports_at t now.scope (map named_item xs)) kept));
      names = λ m name is_m is.
          subst (λ r. r ≡ true) (sym (named_push xs x name))
          (named m name is_m adds.id (subst (λ zs. is_some (numbered_value m zs) ≡ true) adds.added is));
    }
      where
        fresh : is_some (numbered_value n es) ≡ false
        fresh = absent (numbered_value n es) (has_name (map export_name xs) x.0.name) (so_far.names n x.0.name number)
            apart

        still : IsNumber c.names.now.texts n x.0.name
        still = subst (λ (k : Named). IsNumber k.texts n x.0.name) (sym (takes.keeps.names ∙ so_far.takes.keeps.names))
            number

        member : (o : Option DefinitionId) (w : Option Value) → Both (Stands ms (tables_of c)) o w
            → (vs : List NamedValue)
            → MembersStand ms (tables_of c) es (pack_values vs)
            → MembersStand ms (tables_of c) (with_item es n (option_map (member_of x.0) o))
            (pack_values (vs ++ cons_option (option_map (λ (v : Value). record { name = x.0; value = v }) w) []))
        member None None m vs stand = subst (λ zs. MembersStand ms (tables_of c) es (pack_values zs))
            (sym (append-nil vs)) stand
        member None (Some v) m vs stand = elim m [ ]
        member (Some id) None m vs stand = elim m [ ]
        member (Some id) (Some v) (both r) vs stand =
            subst (λ zs. MembersStand ms (tables_of c) zs (pack_values (vs ++ record { name = x.0; value = v } ∷ [])))
            (sym (first_new es n (member_of x.0 id) fresh))
            (members_push ms (tables_of c) es vs n (record { name = x.0; value = v }) id stand still r)

        named : (m : Atom) (name : List ℕ) → IsNumber a.names.now.texts m name → (o : Option DefinitionId)
            → is_some (numbered_value m (with_item es n (option_map (member_of x.0) o))) ≡ true
            → (has_name (map export_name xs) name || (bytes_eq name x.0.name || false)) ≡ true
        named m name is_m None is = or_first (has_name (map export_name xs) name) (bytes_eq name x.0.name || false)
            (so_far.names m name is_m is)
        named m name is_m (Some id) is =
            by (numbered_value m es) refl
            (subst (λ zs. is_some (numbered_value m zs) ≡ true) (first_new es n (member_of x.0 id) fresh) is)
          where
            last : (r : Bool) → is_some (if r then Some (member_of x.0 id) else None) ≡ true → (r || false) ≡ true
            last true h = refl
            last false h = absurd (true≢false (sym h))

            by : (o : Option Member) → numbered_value m es ≡ o
                → is_some (numbered_value m (es ++ (n, member_of x.0 id) ∷ [])) ≡ true
                → (has_name (map export_name xs) name || (bytes_eq name x.0.name || false)) ≡ true
            by (Some e) at h =
                or_first (has_name (map export_name xs) name) (bytes_eq name x.0.name || false)
                (so_far.names m name is_m (ap is_some at))
            by None at h =
                or_second (has_name (map export_name xs) name) (bytes_eq name x.0.name || false)
                (subst (λ (r : Bool). (r || false) ≡ true)
                (number_alike a.names.now.texts m n name x.0.name distinct is_m number)
                (last (nat_eq m.0 n.0)
                (subst (λ o. is_some o ≡ true) (last_numbered m n es (member_of x.0 id) at) h)))

    -- one argument more
    pub arguments_next : (xs : List (List ℕ × ItemKind × ℕ)) (x : List ℕ × ItemKind × ℕ) (n : Atom)
        (es fs : List (Atom × DefinitionId)) → AreDistinct a.names.now.texts → IsNumber a.names.now.texts n x.0
        → ArgumentsSoFar t ms xs a f b g es → TakesTypes t ms (if_type x.1) b g c h
        → AddsItem t ms (λ id. id) n x.1 x.2 b g c es fs → ArgumentsSoFar t ms (xs ++ x ∷ []) a f c h fs
    unfolding argument_value
    arguments_next xs x n es fs distinct number so_far takes adds = record {
      takes = subst (λ k. TakesTypes t ms k a f c h) (sym (types_push xs x))
          (takes_both t ms (types_among xs) (if_type x.1) a f b g c h so_far.takes takes);
      values = λ now at.
          let vs = filter_map (argument_value t now.scope) (map argument_of xs) in
          let kept : SameNamed a.names.now.texts (Stands ms (tables_of c)) es vs =
          (λ m name is. both_more (Stands ms (tables_of b)) (Stands ms (tables_of c))
          (stands_kept ms (tables_of b) (tables_of c) takes.keeps) (numbered_value m es) (value_of name vs)
          (so_far.values now at m name is)) in
          let grown = ap (filter_map (argument_value t now.scope)) (map_push argument_of xs x)
          ∙ filter_map-append (argument_value t now.scope) (map argument_of xs) (argument_of x ∷ []) in
          subst (SameNamed a.names.now.texts (Stands ms (tables_of c)) fs) (sym grown)
          (subst (λ zs. SameNamed a.names.now.texts (Stands ms (tables_of c)) zs
          (vs ++ cons_option (argument_value t now.scope (argument_of x)) [])) (sym adds.added)
          (value adds.id (value_at t now.scope x.1 x.2) (adds.stands now (so_far.takes.stands now at)) vs kept));
    }
      where
        value : (o : Option DefinitionId) (w : Option Value) → Both (Stands ms (tables_of c)) o w
            → (vs : List (List ℕ × Value)) → SameNamed a.names.now.texts (Stands ms (tables_of c)) es vs
            → SameNamed a.names.now.texts (Stands ms (tables_of c)) (with_item es n (option_map (λ id. id) o))
            (vs ++ cons_option (option_map {U = List ℕ × Value} (λ (v : Value). (x.0, v)) w) [])
        value None None m vs same =
            subst (SameNamed a.names.now.texts (Stands ms (tables_of c)) es) (sym (append-nil vs)) same
        value None (Some v) m vs same = elim m [ ]
        value (Some id) None m vs same = elim m [ ]
        value (Some id) (Some v) (both r) vs same =
            named_first a.names.now.texts (Stands ms (tables_of c)) es vs n x.0 id v distinct number same r

module _ {A : Type 0} (names : List (List ℕ)) (f : A → List ℕ) where
  -- there are as many items as numbers of their names
  pub items_numbered : (xs : List A) (ns : List Atom) → AreNumbersOf names (map f xs) ns → length ns ≡ length xs
  items_numbered xs ns are = numbers_many names (map f xs) ns are ∙ length-map xs f

  -- the name of the item at a place has the number at the place
  pub item_number : (xs : List A) (ns : List Atom) → AreNumbersOf names (map f xs) ns → (i : ℕ) (x : A) (d : Atom)
      → slice_get xs i ≡ Some x → IsNumber names (get_or ns i d) (f x)
  item_number xs ns are i x d at =
      number_at names (map f xs) ns are i (f x) (get_or ns i d) d (slice_get-map f xs i ∙ ap (option_map f) at) refl

-- before the first
pub exports_begin : (t : TypeTable) (ms : List ModuleRecord) (a : State) (f : Frame) → ExportsSoFar t ms [] a f a f []
unfolding exports_at
exports_begin t ms a f = record {
  takes = takes_none t ms 0 a f;
  members = λ now at. no_members;
  names = λ n name number is. absurd (true≢false (sym is));
}

-- the same of arguments
pub arguments_begin : (t : TypeTable) (ms : List ModuleRecord) (a : State) (f : Frame)
    → ArgumentsSoFar t ms [] a f a f []
arguments_begin t ms a f = record { takes = takes_none t ms 0 a f; values = λ now at n name number. neither }

module _ {A B : Type 0} (read : A → Option B) where
  -- where there is an answer for each item, the answer for all is that which passes over what isn't there
  all_read : (xs : List A) → list_all (λ x. is_some (read x)) xs ≡ true → map_all read xs ≡ Some (filter_map read xs)
  all_read [] there = refl
  all_read (x ∷ xs) there =
      let h = and_true (is_some (read x)) (list_all (λ y. is_some (read y)) xs) there in
      by (read x) h.0 (all_read xs h.1)
    where
      by : (o : Option B) → is_some o ≡ true → map_all read xs ≡ Some (filter_map read xs)
          → option_and_then (λ y. option_map (λ ys. y ∷ ys) (map_all read xs)) o
          ≡ Some (cons_option o (filter_map read xs))
      by None is rest = absurd (true≢false (sym is))
      by (Some y) is rest = ap (option_map (λ ys. y ∷ ys)) rest

  -- where there is none for one, there is none
  none_read : (xs : List A) → list_all (λ x. is_some (read x)) xs ≡ false → map_all read xs ≡ None
  none_read [] none = absurd (true≢false none)
  none_read (x ∷ xs) none = by (read x) none (none_read xs)
    where
      by : (o : Option B) → (is_some o && list_all (λ y. is_some (read y)) xs) ≡ false
          → (list_all (λ y. is_some (read y)) xs ≡ false → map_all read xs ≡ None)
          → option_and_then (λ y. option_map (λ ys. y ∷ ys) (map_all read xs)) o ≡ None
      by None none rest = refl
      by (Some y) none rest = ap (option_map (λ ys. y ∷ ys)) (rest none)

-- a number that is held is below the length
held_below : (t : TypeTable) (n : ℕ) → is_typed_item t kind.Type_ n ≡ is_held t n
held_below t n = by (slice_get t.types n) refl
  where
    by : (o : Option DeclType) → slice_get t.types n ≡ o → nat_lt n (length t.types) ≡ is_some o
    by (Some e) at = lt-ltb n (length t.types) (slice_get_within t.types n e at)
    by None at = le-ltb n (length t.types) (past t.types n at)
      where
        past : (xs : List DeclType) (k : ℕ) → slice_get xs k ≡ None → length xs ≤ k
        past [] k none = omega arith
        past (x ∷ xs) zero none = absurd (none-some x (sym none))
        past (x ∷ xs) (suc k) none = let rest = past xs k none in omega (arith, rest)

-- whether an item is typed, for the code and for the reading
pub typed_same : (t : TypeTable) (k : ItemKind) (n : ℕ) → is_typed_item t k n ≡ is_typed t k n
typed_same t kind.Func n = refl
typed_same t kind.Module n = refl
typed_same t kind.Instance n = refl
typed_same t kind.Component n = refl
typed_same t kind.Type_ n = held_below t n
typed_same t kind.Value n = refl

-- whether all are
typed_named : {N X : Type 0} (t : TypeTable) (named : N × ItemKind × ℕ → X) (test : X → Bool)
    → ((x : N × ItemKind × ℕ) → test (named x) ≡ is_typed_item t x.1 x.2) → (xs : List (N × ItemKind × ℕ))
    → list_all test (map named xs) ≡ are_typed t xs
typed_named t named test each [] = refl
typed_named t named test each (x ∷ xs) =
    let first = each x ∙ typed_same t x.1 x.2 in
    let rest = typed_named t named test each xs in
    λ i. first i && rest i

-- whether the types among exports are held
pub exports_typed : (t : TypeTable) (xs : List (ExternName × ItemKind × ℕ))
    → list_all (is_typed_export t) (map named_item xs) ≡ are_typed t xs
exports_typed t xs = typed_named t named_item (is_typed_export t) (λ x. refl) xs

-- and among arguments
pub arguments_typed : (t : TypeTable) (xs : List (List ℕ × ItemKind × ℕ))
    → list_all (is_typed_argument t) (map argument_of xs) ≡ are_typed t xs
arguments_typed t xs = typed_named t argument_of (is_typed_argument t) (λ x. refl) xs

-- a type whose number is held has a tree in each scope
pub type_found : (t : TypeTable) → table_fault t ≡ None → (s : Scope) (n : ℕ) → is_held t n ≡ true
    → (tree : TypeTree) × (value_at t s kind.Type_ n ≡ Some (type_value tree))
unfolding value_at type_tree
type_found t sound s n held =
    let x = tested_tree t sound (λ e. true) s.known s.component_instance n (by (slice_get t.types n) held) in
    (x.0, ap (option_map type_value) x.1)
  where
    by : (o : Option DeclType) → is_some o ≡ true → is_some_and (λ (e : DeclType). true) o ≡ true
    by None h = absurd (true≢false (sym h))
    by (Some e) h = refl

module _ (t : TypeTable) (ms : List ModuleRecord) (b : Tables) (f : Frame) (s : Scope) (frame : FrameStands ms b f s)
    (sound : table_fault t ≡ None) where
  -- an item is there for the code where it is there for the reading
  item_same : (k : ItemKind) → is_type_kind k ≡ false → (n : ℕ)
      → is_some (value_at t s k n) ≡ is_some (slice_get (item_ids f k) n)
  item_same k other n = by (slice_get (item_ids f k) n) (value_at t s k n) (item_there t ms b f s frame k other n)
    where
      by : (o : Option DefinitionId) (w : Option Value) → Both (Stands ms b) o w → is_some w ≡ is_some o
      by None None m = refl
      by None (Some v) m = elim m [ ]
      by (Some id) None m = elim m [ ]
      by (Some id) (Some v) m = refl

  -- a type is where its number is held
  type_there : (n : ℕ) → is_held t n ≡ true → is_some (value_at t s kind.Type_ n) ≡ true
  type_there n held = ap is_some (type_found t sound s n held).1

  there_same : (k : ItemKind) (n : ℕ) → is_typed t k n ≡ true → is_some (value_at t s k n) ≡ is_there f k n
  there_same kind.Func n typed = item_same kind.Func refl n
  there_same kind.Module n typed = item_same kind.Module refl n
  there_same kind.Instance n typed = item_same kind.Instance refl n
  there_same kind.Component n typed = item_same kind.Component refl n
  there_same kind.Type_ n typed = type_there n typed
  there_same kind.Value n typed = item_same kind.Value refl n

  module _ {N X V : Type 0} (named : N × ItemKind × ℕ → X) (read : X → Option V) (entry : N → Value → V)
      (each : (x : N × ItemKind × ℕ) → read (named x) ≡ option_map (entry x.0) (value_at t s x.1 x.2)) where
    mapped : {A B : Type 0} (f : A → B) (o : Option A) → is_some (option_map f o) ≡ is_some o
    mapped f None = refl
    mapped f (Some x) = refl

    -- and so are all
    all_there : (xs : List (N × ItemKind × ℕ)) → are_typed t xs ≡ true
        → list_all (λ y. is_some (read y)) (map named xs) ≡ are_there f xs
    all_there [] typed = refl
    all_there (x ∷ xs) typed =
        let h = and_true (is_typed t x.1 x.2) (are_typed t xs) typed in
        let first = ap is_some (each x) ∙ mapped (entry x.0) (value_at t s x.1 x.2) ∙ there_same x.1 x.2 h.0 in
        let rest = all_there xs h.1 in
        λ i. first i && rest i

  module _ (xs : List (ExternName × ItemKind × ℕ)) (typed : are_typed t xs ≡ true) where
    exports_are : list_all (λ e. is_some (exported_value t s e)) (map named_item xs) ≡ are_there f xs
    unfolding exported_value
    exports_are =
        all_there named_item (exported_value t s) (λ n v. record { name = n; value = v }) (λ x. refl) xs typed

    -- exports of which none is missing
    pub exports_all : are_there f xs ≡ true
        → map_all (exported_value t s) (map named_item xs) ≡ Some (exports_at t s (map named_item xs))
    unfolding exports_at
    exports_all there = all_read (exported_value t s) (map named_item xs) (exports_are ∙ there)

    -- where one is missing
    pub exports_lack : are_there f xs ≡ false → map_all (exported_value t s) (map named_item xs) ≡ None
    exports_lack missing = none_read (exported_value t s) (map named_item xs) (exports_are ∙ missing)

  module _ (xs : List (List ℕ × ItemKind × ℕ)) (typed : are_typed t xs ≡ true) where
    arguments_are : list_all (λ a. is_some (argument_value t s a)) (map argument_of xs) ≡ are_there f xs
    unfolding argument_value
    arguments_are = all_there argument_of (argument_value t s) (λ n v. (n, v)) (λ x. refl) xs typed

    -- arguments of which none is missing
    pub arguments_all : are_there f xs ≡ true
        → map_all (argument_value t s) (map argument_of xs)
        ≡ Some (filter_map (argument_value t s) (map argument_of xs))
    arguments_all there = all_read (argument_value t s) (map argument_of xs) (arguments_are ∙ there)

    -- and of which one is
    pub arguments_lack : are_there f xs ≡ false → map_all (argument_value t s) (map argument_of xs) ≡ None
    arguments_lack missing = none_read (argument_value t s) (map argument_of xs) (arguments_are ∙ missing)
