-- What a nested component captures, against the chain of the scope in which it is defined.
use Rattle.std.proofs.Common.{◌≡◌, ◌<◌, ◌+◌, ◌-◌, ◌&&◌, ◌∙◌, ℕ, zero, suc, Bool, true, false, true≢false, List, [], ◌∷◌}
use Rattle.std.proofs.Common.{◌++◌, Option, None, Some, refl, sym, ap, subst, map, length, take, get_or, arith}
use Rattle.std.proofs.Common.{if◌then◌else◌}
use Rattle.std.specs.Prelude.{is_some, nat_lt, option_and_then, option_map, slice_get}
use Rattle.std.proofs.lemmas.Bool.{lt-ltb, ltb-true}
use Rattle.std.proofs.lemmas.List.{take_more}
use Rattle.std.proofs.lemmas.Option.{none-some, same_Some, slice_get-get_or}
use Rattle.pc_types.specs.declared.module_record.ModuleRecord.{ModuleRecord}
use Rattle.pc_types.specs.declared.parsed.WasmValType.TheVariants.{I32}
use Rattle.pc_entity.proofs.MapAll.{map_all-push}
use Rattle.pc_parsed.specs.declared.canon.CanonItem.{CanonItem}
use Rattle.pc_parsed.specs.declared.canon.CanonItem.TheVariants as canon
use Rattle.pc_spec_reading.specs.Canonical.{canonical_item}
use Rattle.pc_spec_reading.specs.Components.{is_definable, is_definable_item, leads}
use Rattle.pc_spec_reading.specs.Item as item
use Rattle.pc_spec_reading.specs.Item.{Item, Items, Lent, a_component, a_module, and_item, component_item, no_items}
use Rattle.pc_spec_reading.specs.Item.{outer_item}
use Rattle.pc_spec_reading.specs.Value.{Chain, Components, Module, Value, inside, lent_in}
use Rattle.pc_local.specs.declared.captured.Variable.{Variable}
use Rattle.pc_local.specs.declared.captured.Variable.TheVariants as variable
use Rattle.pc_local.specs.declared.item.ClosedOverVars.{ClosedOverVars}
use Rattle.pc_local.specs.declared.item.LocalInitializer.{LocalInitializer}
use Rattle.pc_local.specs.declared.item.LocalInitializer.TheVariants as local
use Rattle.pc_local.specs.declared.item.Translation.{Translation}
use Rattle.pc_local.specs.Plain.{context_of, if_builtin, if_error_context, if_waitable, plain_item}
use Rattle.pc_local.specs.Standing.{Given, Gives, Has, ItemLeaves, ItemStands, ItemsStand, Leaves, Names, Reads}
use Rattle.pc_local.specs.Standing.{component_variable, leaves_alias, leaves_here, leaves_later, leaves_nested}
use Rattle.pc_local.specs.Standing.{module_variable, name_of, stand_more, stand_none, stands_component, stands_module}
use Rattle.pc_local.specs.Standing.{stands_nested, stands_plain}
use Rattle.pc_inline_state.specs.declared.definition.DefinitionId.{DefinitionId}
use Rattle.pc_inline_items.specs.Captures.{captured_id, captured_ids}
use Rattle.pc_inline_state.specs.Frames.{Both}
use Rattle.pc_inline_state.specs.Stands.{Captured, Stands, captures_more, captures_none}
use Rattle.pc_inline_state.specs.Tables.{Tables}
use Rattle.pc_inline_modules.proofs.BagLemmas.{map_all_missing}
use Rattle.pc_inline_state.proofs.ZipLemmas.{both_missing, both_there}

-- an outer alias or a nested body: what hangs on the scopes around
abbrev hangs : Item → Bool
hangs (item.outer_item k c n) = true
hangs (item.component_item body) = true
hangs i = false

-- builtins don't hang on them
builtin_hangs : (o : Option Item) (i : Item) → if_builtin o ≡ Some i → hangs i ≡ false
builtin_hangs (Some (item.builtin_item k s operands)) i h = ap hangs (sym (same_Some _ i h))
builtin_hangs (Some x) i h = absurd (none-some i h)
builtin_hangs None i h = absurd (none-some i h)

waitable_hangs : (o : Option Item) (i : Item) → if_waitable o ≡ Some i → hangs i ≡ false
waitable_hangs (Some (item.waitable_item k s memory)) i h = ap hangs (sym (same_Some _ i h))
waitable_hangs (Some x) i h = absurd (none-some i h)
waitable_hangs None i h = absurd (none-some i h)

error_context_hangs : (o : Option Item) (i : Item) → if_error_context o ≡ Some i → hangs i ≡ false
error_context_hangs (Some (item.error_context_item k s opts)) i h = ap hangs (sym (same_Some _ i h))
error_context_hangs (Some x) i h = absurd (none-some i h)
error_context_hangs None i h = absurd (none-some i h)

context_hangs : (c : CanonItem) (i : Item) → context_of c ≡ Some i → hangs i ≡ false
context_hangs (canon.ContextGet s I32 slot) i h = ap hangs (sym (same_Some _ i h))
context_hangs (canon.ContextSet s I32 slot) i h = ap hangs (sym (same_Some _ i h))
context_hangs c i h = absurd (none-some i h)

-- nor does any local item that is an item by itself
plain_hangs : (l : LocalInitializer) (i : Item) → plain_item l ≡ Some i → hangs i ≡ false
unfolding plain_item
plain_hangs (local.Builtin c) i h = builtin_hangs (canonical_item c) i h
plain_hangs (local.WaitableSet c) i h = waitable_hangs (canonical_item c) i h
plain_hangs (local.ErrorContext c) i h = error_context_hangs (canonical_item c) i h
plain_hangs (local.Context c) i h = context_hangs c i h
plain_hangs (local.ComponentStatic index vars) i h = absurd (none-some i h)
plain_hangs (local.AliasModule v) i h = absurd (none-some i h)
plain_hangs (local.AliasComponent v) i h = absurd (none-some i h)
plain_hangs l i h = ap hangs (sym (same_Some _ i h))

-- what leads out of an item hangs on the scopes around
leaving_hangs : (k : Lent) (c n : ℕ) (i : Item) → ItemLeaves k c n i → hangs i ≡ true
leaving_hangs k c n i leaves_alias = refl
leaving_hangs k c n i (leaves_nested deep) = refl

-- out of an outer alias leads itself alone
outer_leaves : (k : Lent) (c n : ℕ) (j : Lent) (count index : ℕ) → ItemLeaves k c n (outer_item j count index)
    → (j ≡ k) × (count ≡ suc c) × (index ≡ n)
outer_leaves k c n j count index leaves_alias = (refl, refl, refl)

-- out of a nested body what leads two scopes out of its items
nested_leaves : (k : Lent) (c n : ℕ) (body : Items) → ItemLeaves k c n (component_item body) → Leaves k (suc c) n body
nested_leaves k c n body (leaves_nested deep) = deep

-- the names of what a body captures of a kind
abbrev pub names_of_kind : Names → Lent → List (ℕ × ℕ)
names_of_kind names a_module = names.modules
names_of_kind names a_component = names.components

same_suc : (m n : ℕ) → suc m ≡ suc n → m ≡ n
same_suc m n h = omega (arith, h)

-- a variable that leads out of a body is a captured one
variable_has : (names : List (ℕ × ℕ)) (v : Variable) (count c n : ℕ) → count ≡ suc c → Reads names v count n
    → Has names c n
variable_has names (variable.Local i) count c n out reads = absurd (zero_suc (sym reads.0 ∙ out))
  where
    zero_suc : zero ≡ suc c → ⊥
    zero_suc h = omega (arith, h)
variable_has names (variable.Upvar i) count c n out reads =
    (i, subst (λ x. slice_get names i ≡ Some (name_of x n)) (same_suc reads.0 c (sym reads.1 ∙ out)) reads.2)

-- what a body gives to a nested one for a name that leads further out, it has captured itself
gives_has : (names : List (ℕ × ℕ)) (vs : List Variable) (inner : List (ℕ × ℕ)) (i c n : ℕ) → Gives names vs inner
    → slice_get inner i ≡ Some (name_of (suc c) n) → Has names c n
gives_has names [] [] i c n given at = absurd (none-some _ at)
gives_has names [] (o ∷ inner) i c n given at = absurd given
gives_has names (v ∷ vs) [] i c n given at = absurd given
gives_has names (v ∷ vs) (o ∷ inner) zero c n given at =
    variable_has names v (suc c) c n refl
    (subst (λ (x : ℕ × ℕ). Reads names v x.0 x.1) (same_Some o (name_of (suc c) n) at) given.0)
gives_has names (v ∷ vs) (o ∷ inner) (suc i) c n given at = gives_has names vs inner i c n given.1 at

-- the same of either kind
given_has : (names inner : Names) (vars : ClosedOverVars) (body : Items) (k : Lent) (c n : ℕ)
    → Given names vars inner body → Has (names_of_kind inner k) (suc c) n → Has (names_of_kind names k) c n
given_has names inner vars body a_module c n given has =
    gives_has names.modules (map module_variable vars.modules) inner.modules has.0 c n given.modules has.1
given_has names inner vars body a_component c n given has =
    gives_has names.components (map component_variable vars.components) inner.components has.0 c n given.components
    has.1

-- an outer alias of a kind is a variable of the body
alias_has : (names : Names) (j : Lent) (v : Variable) (count index : ℕ) → Reads (names_of_kind names j) v count index
    → (k : Lent) (c n : ℕ) → (j ≡ k) × (count ≡ suc c) × (index ≡ n) → Has (names_of_kind names k) c n
alias_has names j v count index reads k c n same =
    subst (λ x. Has (names_of_kind names x) c n) same.0
    (subst (λ x. Has (names_of_kind names j) c x) same.2
    (variable_has (names_of_kind names j) v count c index same.1 reads))

module _ (bodies : List Translation) where
  mutual
    -- what leads out of an item of a body, the body captures
    item_has : (names : Names) (l : LocalInitializer) (i : Item) (k : Lent) (c n : ℕ) → ItemStands bodies names l i
        → ItemLeaves k c n i → Has (names_of_kind names k) c n
    item_has names l i k c n (stands_plain is) leaves =
        absurd (true≢false (sym (leaving_hangs k c n i leaves) ∙ plain_hangs l i is))
    item_has names l i k c n (stands_module {v = v} {c = count} {n = index} reads) leaves =
        alias_has names a_module (module_variable v) count index reads k c n
        (outer_leaves k c n a_module count index leaves)
    item_has names l i k c n (stands_component {v = v} {c = count} {n = index} reads) leaves =
        alias_has names a_component (component_variable v) count index reads k c n
        (outer_leaves k c n a_component count index leaves)
    item_has names l i k c n (stands_nested {inner = inner} {vars = vars} {t = t} {body = body} at items exports given)
        leaves =
        given_has names inner vars body k c n given
        (body_has inner t.initializers body k (suc c) n items (nested_leaves k c n body leaves))

    -- what leads out of a body it captures
    pub body_has : (names : Names) (ls : List LocalInitializer) (body : Items) (k : Lent) (c n : ℕ)
        → ItemsStand bodies names ls body → Leaves k c n body → Has (names_of_kind names k) c n
    body_has names ls body k c n stand_none leaves = elim leaves [ ]
    body_has names ls body k c n (stand_more {l = l} {ls = rest} {i = i} {is = is} first others) (leaves_here here) =
        item_has names l i k c n first here
    body_has names ls body k c n (stand_more {l = l} {ls = rest} {i = i} {is = is} first others) (leaves_later later) =
        body_has names rest is k c n others later

-- where an alias leads that stands inside so many bodies
leads_there : (chain : Chain) (depth : ℕ) (k : Lent) (count n : ℕ)
    → ((e : ℕ) → count ≡ suc (e + depth) → is_some (lent_in chain k e n) ≡ true) → leads chain depth k count n ≡ true
leads_there chain depth k count n there = by (nat_lt depth count) refl
  where
    by : (b : Bool) → nat_lt depth count ≡ b
        → (if b then is_some (lent_in chain k (count - (depth + 1)) n) else true) ≡ true
    by false none = refl
    by true out =
        let less = ltb-true depth count out in
        there (count - (depth + 1)) (omega (arith, less))

-- where it leads to nothing
leads_nowhere : (chain : Chain) (depth : ℕ) (k : Lent) (e n : ℕ) → lent_in chain k e n ≡ None
    → leads chain depth k (suc (e + depth)) n ≡ false
leads_nowhere chain depth k e n none =
    let out = lt-ltb depth (suc (e + depth)) (omega arith) in
    let same : suc (e + depth) - (depth + 1) ≡ e = omega arith in
    rw (out, same, none) refl

and_false : (b : Bool) → b && false ≡ false
and_false true = refl
and_false false = refl

module _ (chain : Chain) where
  further : (c e depth : ℕ) → c ≡ e + suc depth → c ≡ suc (e + depth)
  further c e depth out = omega (arith, out)

  mutual
    unfolding is_definable is_definable_item

    -- a body can be defined where all that leads out of it is there
    pub all_definable : (depth : ℕ) (body : Items)
        → ((k : Lent) (c n e : ℕ) → c ≡ e + depth → Leaves k c n body → is_some (lent_in chain k e n) ≡ true)
        → is_definable chain depth body ≡ true
    all_definable depth no_items there = refl
    all_definable depth (and_item i is) there =
        let first = item_definable depth i (λ k c n e out leaves. there k c n e out (leaves_here leaves)) in
        let rest = all_definable depth is (λ k c n e out leaves. there k c n e out (leaves_later leaves)) in
        λ j. first j && rest j

    item_definable : (depth : ℕ) (i : Item)
        → ((k : Lent) (c n e : ℕ) → c ≡ e + depth → ItemLeaves k c n i → is_some (lent_in chain k e n) ≡ true)
        → is_definable_item chain depth i ≡ true
    item_definable depth (component_item body) there =
        all_definable (suc depth) body (λ k c n e out leaves.
        there k (e + depth) n e refl (leaves_nested (subst (λ x. Leaves k x n body) (further c e depth out) leaves)))
    item_definable depth (outer_item k count n) there =
        leads_there chain depth k count n (λ e out. there k (e + depth) n e refl
        (subst (λ x. ItemLeaves k (e + depth) n (outer_item k x n)) (sym out) leaves_alias))
    item_definable depth i there = refl

  mutual
    unfolding is_definable is_definable_item

    -- and can't be where something isn't
    pub none_definable : (depth : ℕ) (k : Lent) (c n e : ℕ) (body : Items) → c ≡ e + depth → lent_in chain k e n ≡ None
        → Leaves k c n body → is_definable chain depth body ≡ false
    none_definable depth k c n e body out none (leaves_here {i = i} {is = is} here) =
        let first = item_missing depth k c n e i out none here in
        ap (λ b. b && is_definable chain depth is) first
    none_definable depth k c n e body out none (leaves_later {i = i} {is = is} later) =
        let rest = none_definable depth k c n e is out none later in
        ap (λ b. is_definable_item chain depth i && b) rest ∙ and_false (is_definable_item chain depth i)

    item_missing : (depth : ℕ) (k : Lent) (c n e : ℕ) (i : Item) → c ≡ e + depth → lent_in chain k e n ≡ None
        → ItemLeaves k c n i → is_definable_item chain depth i ≡ false
    item_missing depth k c n e i out none leaves_alias =
        ap (λ x. leads chain depth k (suc x) n) out ∙ leads_nowhere chain depth k e n none
    item_missing depth k c n e i out none (leaves_nested {body = body} deep) =
        none_definable (suc depth) k (suc c) n e body (omega (arith, out)) none deep

-- the number that is captured under a name stands for what the chain lends under it
captured_at : (ms : List ModuleRecord) (b : Tables) (k : Lent) (ids : List DefinitionId) (names : List (ℕ × ℕ))
    (chain : Chain) (i c n : ℕ) → Captured ms b k ids names chain → slice_get names i ≡ Some (name_of c n)
    → (id : DefinitionId) × (w : Value) × (slice_get ids i ≡ Some id) × (lent_in chain k c n ≡ Some w)
    × Stands ms b id w
captured_at ms b k ids names chain i c n captures_none at = absurd (none-some _ at)
captured_at ms b k ids names chain zero c n (captures_more {id = id} {c = count} {n = index} {v = v} lent x more) at =
    let same : (count, index) ≡ (c, n) = same_Some (count, index) (c, n) at in
    (id, v, refl, (λ j. lent_in chain k (sym same j).0 (sym same j).1) ∙ lent, x)
captured_at ms b k ids names chain (suc i) c n (captures_more {ids = rest} {names = others} lent x more) at =
    captured_at ms b k rest others chain i c n more at

-- what is captured under a name is there
pub captured_leads : (ms : List ModuleRecord) (b : Tables) (k : Lent) (ids : List DefinitionId) (names : List (ℕ × ℕ))
    (chain : Chain) (i c n : ℕ) → Captured ms b k ids names chain → slice_get names i ≡ Some (name_of c n)
    → is_some (lent_in chain k c n) ≡ true
captured_leads ms b k ids names chain i c n there at =
    ap is_some (captured_at ms b k ids names chain i c n there at).3

-- what a chain lends further out
lent_further : (vs : List Module) (cs : Components) (chain : Chain) (k : Lent) (c n : ℕ)
    → lent_in (inside vs cs chain) k (suc c) n ≡ lent_in chain k c n
lent_further vs cs chain a_module c n = refl
lent_further vs cs chain a_component c n = refl

module _ (ms : List ModuleRecord) (b : Tables) (k : Lent) (vs : List Module) (cs : Components) (chain : Chain)
    (names : List (ℕ × ℕ)) (ids captured : List DefinitionId) where
  abbrev here : Chain
  here = inside vs cs chain

  module _ (each : (n : ℕ) → Both (Stands ms b) (slice_get ids n) (lent_in here k zero n))
      (held : Captured ms b k captured names chain) where
    -- a variable that is there
    pub variable_there : (v : Variable) (c n : ℕ) (id : DefinitionId) → Reads names v c n
        → captured_id ids captured v ≡ Some id → (w : Value) × (lent_in here k c n ≡ Some w) × Stands ms b id w
    variable_there (variable.Local i) c n id reads is =
        let x = both_there (Stands ms b) (slice_get ids i) (lent_in here k zero i) id (each i) is in
        (x.0, (λ j. lent_in here k (reads.0 j) (sym reads.1 j)) ∙ x.1, x.2)
    variable_there (variable.Upvar i) c n id reads is =
        let x = captured_at ms b k captured names chain i reads.0 n held reads.2 in
        let same : x.0 ≡ id = same_Some x.0 id (sym x.2 ∙ is) in (
          x.1,
          ap (λ m. lent_in here k m n) reads.1 ∙ lent_further vs cs chain k reads.0 n ∙ x.3,
          subst (λ y. Stands ms b y x.1) same x.4,
        )

    -- one that isn't
    pub variable_missing : (v : Variable) (c n : ℕ) → Reads names v c n → captured_id ids captured v ≡ None
        → lent_in here k c n ≡ None
    variable_missing (variable.Local i) c n reads is =
        (λ j. lent_in here k (reads.0 j) (sym reads.1 j))
        ∙ both_missing (Stands ms b) (slice_get ids i) (lent_in here k zero i) (each i) is
    variable_missing (variable.Upvar i) c n reads is =
        let x = captured_at ms b k captured names chain i reads.0 n held reads.2 in
        absurd (none-some x.0 (sym is ∙ x.2))

    module _ {V : Type 0} (f : V → Variable) where
      -- what all variables name is captured
      pub all_captured : (xs : List V) (inner : List (ℕ × ℕ)) (out : List DefinitionId) → Gives names (map f xs) inner
          → captured_ids f ids captured xs ≡ Some out → Captured ms b k out inner here
      all_captured [] [] out given is =
          subst (λ o. Captured ms b k o [] here) (same_Some [] out is) captures_none
      all_captured [] (o ∷ inner) out given is = absurd given
      all_captured (v ∷ xs) [] out given is = absurd given
      all_captured (v ∷ xs) ((c, n) ∷ inner) out given is =
          by (captured_id ids captured (f v)) (captured_ids f ids captured xs) refl
          (λ rest. all_captured xs inner rest given.1) is
        where
          by : (first : Option DefinitionId) (rest : Option (List DefinitionId))
              → captured_id ids captured (f v) ≡ first
              → ((more : List DefinitionId) → rest ≡ Some more → Captured ms b k more inner here)
              → option_and_then (λ y. option_map (λ ys. y ∷ ys) rest) first ≡ Some out
              → Captured ms b k out ((c, n) ∷ inner) here
          by None rest p more h = absurd (none-some out h)
          by (Some id) None p more h = absurd (none-some out h)
          by (Some id) (Some ys) p more h =
              let x = variable_there (f v) c n id given.0 p in
              subst (λ o. Captured ms b k o ((c, n) ∷ inner) here) (same_Some (id ∷ ys) out h)
              (captures_more x.1 x.2 (more ys refl))

      -- a name of nothing
      abbrev pub Lacks : List (ℕ × ℕ) → Type 0
      Lacks inner = (c : ℕ) × (n : ℕ) × Has inner c n × (lent_in here k c n ≡ None)

      -- where a variable is of nothing, a name is
      pub one_missing : (xs : List V) (inner : List (ℕ × ℕ)) → Gives names (map f xs) inner
          → captured_ids f ids captured xs ≡ None → Lacks inner
      one_missing [] [] given is = absurd (none-some [] (sym is))
      one_missing [] (o ∷ inner) given is = absurd given
      one_missing (v ∷ xs) [] given is = absurd given
      one_missing (v ∷ xs) ((c, n) ∷ inner) given is =
          by (captured_id ids captured (f v)) (captured_ids f ids captured xs) refl (one_missing xs inner given.1) is
        where
          by : (first : Option DefinitionId) (rest : Option (List DefinitionId))
              → captured_id ids captured (f v) ≡ first
              → (rest ≡ None → Lacks inner) → option_and_then (λ y. option_map (λ ys. y ∷ ys) rest) first ≡ None
              → Lacks ((c, n) ∷ inner)
          by None rest p more h = (c, n, (zero, refl), variable_missing (f v) c n given.0 p)
          by (Some id) None p more h =
              let x = more refl in
              (x.0, x.1, (suc x.2.0, x.2.1), x.3)
          by (Some id) (Some ys) p more h = absurd (none-some (id ∷ ys) (sym h))

module _ {V : Type 0} (f : V → Variable) (ids captured : List DefinitionId) (vs : List V) (i : ℕ) (d : V)
    (within : i < length vs) where
  -- one variable more is captured
  pub captured_more : (out : List DefinitionId) (id : DefinitionId)
      → Some out ≡ captured_ids f ids captured (take i vs) → captured_id ids captured (f (get_or vs i d)) ≡ Some id
      → Some (out ++ id ∷ []) ≡ captured_ids f ids captured (take (i + 1) vs)
  captured_more out id so_far is =
      sym (map_all-push (λ v. captured_id ids captured (f v)) (take i vs) out (get_or vs i d) id (sym so_far) is)
      ∙ ap (captured_ids f ids captured) (sym (take_more vs i d within))

  -- where one isn't, not all are
  pub captured_none : captured_id ids captured (f (get_or vs i d)) ≡ None → None ≡ captured_ids f ids captured vs
  captured_none is =
      sym (map_all_missing (λ v. captured_id ids captured (f v)) vs i (get_or vs i d) (slice_get-get_or vs i d within)
      is)

module _ {is ids cs captured : List DefinitionId} where
  -- what a variable is among equal lists
  pub same_captured : {w v : Variable} → is ≡ ids → cs ≡ captured → w ≡ v
      → captured_id ids captured v ≡ captured_id is cs w
  same_captured p q r = λ i. captured_id (sym p i) (sym q i) (sym r i)

  -- what all are
  pub all_same : {V : Type 0} (f : V → Variable) {ws vs : List V} → is ≡ ids → cs ≡ captured → ws ≡ vs
      → captured_ids f ids captured vs ≡ captured_ids f is cs ws
  all_same f p q r = λ i. captured_ids f (sym p i) (sym q i) (sym r i)
