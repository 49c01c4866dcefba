-- One turn of the loops over items and over members, where what was read becomes data.
use Rattle.std.proofs.Common.{◌≡◌, ℕ, zero, suc, ◌-◌, ◌<◌, ◌≤◌, List, length, Option, Some, None, option_map}
use Rattle.std.proofs.Common.{option_and_then, refl, ap, ◌∙◌}
use Rattle.json.specs.Token.{Token}
use Rattle.json.specs.Json as json
use Rattle.json.specs.Json.{Parse, parse_map, after_end_array, read_key, value}
use Rattle.json.proofs.Grammar.{left, items_end, items_more, members_end, members_no_key, members_more}
use Rattle.json.proofs.Grammar.{skip_value-shorter}
use Rattle.serde_json.specs.Data.{Data, Items, no_items, item, Members, put}
use Rattle.serde_json.specs.Read.{of_json, of_items, of_members, converted}
use Rattle.pc_input_tokens.specs.Takes.{data_at}

-- ---- a conversion, taken back

-- both parts of a pair are those of an equal one
parts : {B : Type 0} (r s : List Token) (a b : B) → ◌≡◌ {A = Option (B × List Token)} (Some (a, r)) (Some (b, s))
    → (a ≡ b) × (r ≡ s)
parts {B = B} r s a b e = let same : ◌≡◌ {A = B × List Token} (a, r) (b, s) = cc in
    (ap (λ p. p.0) same, ap (λ p. p.1) same)

-- what was converted to b was read, and its conversion is b
pub before_conversion : {A B : Type 0} (f : A → Option B) (o : Option (A × List Token)) (b : B) (r : List Token)
    → converted f o ≡ Some (b, r) → (a : A) × (o ≡ Some (a, r)) × (f a ≡ Some b)
before_conversion f None b r e = absurd (cc)
before_conversion {A} {B} f (Some (a, s)) b r e = by (f a) refl e
  where
    by : (x : Option B) → f a ≡ x → option_map {U = B × List Token} (λ y. (y, s)) x ≡ Some (b, r)
        → (c : A) × (◌≡◌ {A = Option (A × List Token)} (Some (a, s)) (Some (c, r))) × (f c ≡ Some b)
    by None is h = absurd (cc)
    by (Some y) is h =
        let both = parts s r y b h in (a, ap (λ q. Some (a, q)) both.1, is ∙ ap Some both.0)

-- a value takes at least one token
pub data_at-shorter : (depth : ℕ) (ts r : List Token) (d : Data) → data_at depth ts ≡ Some (d, r) → length r < length ts
data_at-shorter depth ts r d e =
    let j = before_conversion of_json (value depth ts) d r e in skip_value-shorter depth ts r (ap left j.1)

-- ---- one turn over the items of an array

-- an item that has a value goes in front of the items after it
item_first : (j : json.Json) (d : Data) → of_json j ≡ Some d → (o : Option (json.Items × List Token))
    → converted of_items (parse_map (json.item j) o) ≡ parse_map (item d) (converted of_items o)
item_first j d e None = refl
item_first j d e (Some (js, r)) = rw e (by (of_items js))
  where
    by : (x : Option Items) → option_map {U = Items × List Token} (λ y. (y, r)) (option_map (item d) x)
        ≡ parse_map (item d) (option_map (λ y. (y, r)) x)
    by None = refl
    by (Some is) = refl

-- an item without a value leaves none to the list
item_without : (j : json.Json) → of_json j ≡ None → (o : Option (json.Items × List Token))
    → converted of_items (parse_map (json.item j) o) ≡ None
item_without j e None = refl
item_without j e (Some p) = rw e

module _ (p : Parse json.Json) where
  -- a turn that reads an item
  pub item_read : (n : ℕ) (ts r : List Token) (d : Data) → 0 < n → after_end_array ts ≡ None
      → converted of_json (p ts) ≡ Some (d, r)
      → converted of_items (json.items p n ts) ≡ parse_map (item d) (converted of_items (json.items p (n - 1) r))
  item_read n ts r d some going e =
      let j = before_conversion of_json (p ts) d r e in
      ap (converted of_items) (items_more p n ts r j.0 some going j.1) ∙ item_first j.0 d j.2 _

  nothing_first : (more : Parse json.Items) (o : Option (json.Json × List Token)) → converted of_json o ≡ None
      → converted of_items (option_and_then (λ q. parse_map (json.item q.0) (more q.1)) o) ≡ None
  nothing_first more None e = refl
  nothing_first more (Some (j, r)) e = by (of_json j) refl e
    where
      by : (x : Option Data) → of_json j ≡ x → option_map {U = Data × List Token} (λ y. (y, r)) x ≡ None
          → converted of_items (parse_map (json.item j) (more r)) ≡ None
      by None is h = item_without j is (more r)
      by (Some d) is h = absurd (cc)

  -- a turn at which no value is next, nor the end
  pub item_refused : (n : ℕ) (ts : List Token) → after_end_array ts ≡ None → converted of_json (p ts) ≡ None
      → converted of_items (json.items p n ts) ≡ None
  unfolding json.items
  item_refused zero ts going e = refl
  item_refused (suc n) ts going e =
      ap (λ o. converted of_items (json.items_step p (json.items p n) ts o)) going
      ∙ nothing_first (json.items p n) (p ts) e

  -- the turn at the end of the array
  pub items_over : (n : ℕ) (ts r : List Token) → length ts ≤ n → after_end_array ts ≡ Some r
      → converted of_items (json.items p n ts) ≡ Some (no_items, r)
  items_over n ts r enough e = ap (converted of_items) (items_end p n ts r enough e)

-- ---- one turn over the members of an object, after those that were found

-- a member that has a value is put among those found
member_first : (k : List ℕ) (j : json.Json) (d : Data) (found : Members) → of_json j ≡ Some d
    → (o : Option (json.Members × List Token))
    → converted (λ ms. of_members ms found) (parse_map (json.member k j) o)
    ≡ converted (λ ms. of_members ms (put k d found)) o
member_first k j d found e None = refl
member_first k j d found e (Some p) = rw e

-- a member without a value leaves none to the object
member_without : (k : List ℕ) (j : json.Json) (found : Members) → of_json j ≡ None
    → (o : Option (json.Members × List Token))
    → converted (λ ms. of_members ms found) (parse_map (json.member k j) o) ≡ None
member_without k j found e None = refl
member_without k j found e (Some p) = rw e

module _ (p : Parse json.Json) (found : Members) where
  -- a turn that reads a member
  pub member_read : (n : ℕ) (k : List ℕ) (ts s r : List Token) (d : Data) → 0 < n → read_key ts ≡ Some (Some k, s)
      → converted of_json (p s) ≡ Some (d, r)
      → converted (λ ms. of_members ms found) (json.members p n ts)
      ≡ converted (λ ms. of_members ms (put k d found)) (json.members p (n - 1) r)
  member_read n k ts s r d some key e =
      let j = before_conversion of_json (p s) d r e in
      ap (converted (λ ms. of_members ms found)) (members_more p n k ts s r j.0 some key j.1)
      ∙ member_first k j.0 d found j.2 _

  no_member_first : (k : List ℕ) (more : Parse json.Members) (o : Option (json.Json × List Token))
      → converted of_json o ≡ None
      → converted (λ ms. of_members ms found) (option_and_then (λ q. parse_map (json.member k q.0) (more q.1)) o) ≡ None
  no_member_first k more None e = refl
  no_member_first k more (Some (j, r)) e = by (of_json j) refl e
    where
      by : (x : Option Data) → of_json j ≡ x → option_map {U = Data × List Token} (λ y. (y, r)) x ≡ None
          → converted (λ ms. of_members ms found) (parse_map (json.member k j) (more r)) ≡ None
      by None is h = member_without k j found is (more r)
      by (Some d) is h = absurd (cc)

  -- a turn at which no value follows the key
  pub member_refused : (n : ℕ) (k : List ℕ) (ts s : List Token) → read_key ts ≡ Some (Some k, s)
      → converted of_json (p s) ≡ None → converted (λ ms. of_members ms found) (json.members p n ts) ≡ None
  unfolding json.members
  member_refused zero k ts s key e = refl
  member_refused (suc n) k ts s key e = rw key (no_member_first k (json.members p n) (p s) e)

  -- a turn at which neither a key is next nor the end
  pub key_refused : (n : ℕ) (ts : List Token) → read_key ts ≡ None
      → converted (λ ms. of_members ms found) (json.members p n ts) ≡ None
  key_refused n ts e = ap (converted (λ ms. of_members ms found)) (members_no_key p n ts e)

  -- the turn at the end of the object
  pub members_over : (n : ℕ) (ts r : List Token) → length ts ≤ n → read_key ts ≡ Some (None, r)
      → converted (λ ms. of_members ms found) (json.members p n ts) ≡ Some (found, r)
  members_over n ts r enough e = ap (converted (λ ms. of_members ms found)) (members_end p n ts r enough e)
