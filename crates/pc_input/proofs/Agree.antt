-- Objects that agree but for the value of one key.
use Rattle.std.proofs.Common.{◌≡◌, ℕ, suc, ◌==◌, List, [], ◌∷◌, ◌++◌, Bool, true, false, true≢false, Option, Some, None}
use Rattle.std.proofs.Common.{Ordering, Less, Equal, Greater, nat_cmp, is_eq, bytes_eq, Bor, Vec, Global, if◌then◌else◌}
use Rattle.std.proofs.Common.{is_some, option_map, refl, sym, ap, ◌∙◌, subst}
use Rattle.std.specs.Prelude.{codes, ⊤}
use Rattle.std.specs.Cmp.Lexicographic.{slice_cmp}
use Rattle.std.specs.Ordering.{match_ordering}
use Rattle.std.proofs.lemmas.Map.Text.{is_eq-slice_cmp}
use Rattle.std.proofs.lemmas.Slice.Eq.{bytes_eq-Decides}
use Rattle.json.specs.Value.{members_view}
use Rattle.json.specs.declared.value.Value.{Value, Object}
use Rattle.json.proofs.Trees.{view-Object}
use Rattle.serde_json.specs.Data.{Data, Members, no_members, member, object, put}
use Rattle.serde_json.specs.Events.{members_len}
use Rattle.serde_json.specs.Find.{as_str, get_member}
use Rattle.serde_json.proofs.Views.{get_member-put, get_member-put_other}
use Rattle.pc_parsed.specs.declared.payload.Payload.{Payload}
use Rattle.pc_input_tokens.specs.Borrowed.{data_of, data_in, members_data}
use Rattle.pc_input_values.specs.Tree.{◌>>=◌, whole, or_null, each}
use Rattle.pc_input_values.specs.Rules.{Rules, plain}
use Rattle.pc_input_values.specs.Types.{type_table}
use Rattle.pc_input.specs.declared.input.Input.{Input}
use Rattle.pc_input.specs.Payload.{payload_of}
use Rattle.pc_input.specs.declared.root.First.TheVariants as first
use Rattle.pc_input.specs.Input.{input_from, input_one, names_of}
use Rattle.pc_input.specs.Root.{AgreeBut, input_with, one_with, first_of, first_with, Keeps, Stands}

-- ---- what they have in common

-- they have as many members
agree-len : (q : List ℕ) (ms ns : Members) → AgreeBut q ms ns → members_len ms ≡ members_len ns
agree-len q no_members no_members h = refl
agree-len q no_members (member l e ns) h = absurd h
agree-len q (member k d ms) no_members h = absurd h
agree-len q (member k d ms) (member l e ns) h = ap suc (agree-len q ms ns h.2)

get_at : (o : Ordering) (q k r : List ℕ) (d e : Data) (a b : Option Data) → slice_cmp nat_cmp r k ≡ o
    → (bytes_eq q k ≡ false → d ≡ e) → bytes_eq q r ≡ false → a ≡ b
    → match_ordering o a (Some d) a ≡ match_ordering o b (Some e) b
get_at Less q k r d e a b is h other same = same
get_at Greater q k r d e a b is h other same = same
get_at Equal q k r d e a b is h other same =
    let equal : r ≡ k = (bytes_eq-Decides r k).0 (sym (is_eq-slice_cmp r k) ∙ ap is_eq is) in
    ap Some (h (ap (bytes_eq q) (sym equal) ∙ other))

-- another key has the same value in both
agree-get : (q r : List ℕ) (ms ns : Members) → bytes_eq q r ≡ false → AgreeBut q ms ns
    → get_member r ms ≡ get_member r ns
agree-get q r no_members no_members other h = refl
agree-get q r no_members (member l e ns) other h = absurd h
agree-get q r (member k d ms) no_members other h = absurd h
agree-get q r (member k d ms) (member l e ns) other h =
    rw (← h.0) (get_at (slice_cmp nat_cmp r k) q k r d e _ _ refl h.1 other (agree-get q r ms ns other h.2))

put_at : (o : Ordering) (q k l : List ℕ) (d e f g : Data) (ms ns more less : Members) → slice_cmp nat_cmp k l ≡ o
    → (bytes_eq q k ≡ false → d ≡ e) → (bytes_eq q l ≡ false → f ≡ g) → AgreeBut q ms ns → AgreeBut q more less
    → AgreeBut q (match_ordering o (member k d (member l f ms)) (member l d ms) (member l f more))
    (match_ordering o (member k e (member l g ns)) (member l e ns) (member l g less))
put_at Less q k l d e f g ms ns more less is h i same rest = (refl, h, (refl, i, same))
put_at Equal q k l d e f g ms ns more less is h i same rest =
    let equal : k ≡ l = (bytes_eq-Decides k l).0 (sym (is_eq-slice_cmp k l) ∙ ap is_eq is) in
    (refl, (λ other. h (ap (bytes_eq q) equal ∙ other)), same)
put_at Greater q k l d e f g ms ns more less is h i same rest = (refl, i, rest)

-- they still agree when both get a value at a key
agree-put : (q k : List ℕ) (d e : Data) (ms ns : Members) → (bytes_eq q k ≡ false → d ≡ e) → AgreeBut q ms ns
    → AgreeBut q (put k d ms) (put k e ns)
agree-put q k d e no_members no_members h a = (refl, h, tt)
agree-put q k d e no_members (member m g ns) h a = absurd a
agree-put q k d e (member l f ms) no_members h a = absurd a
agree-put q k d e (member l f ms) (member m g ns) h a =
    rw (← a.0) (put_at (slice_cmp nat_cmp k l) q k l d e f g ms ns (put k d ms) (put k e ns) refl h a.1 a.2
    (agree-put q k d e ms ns h a.2))

-- ---- members that are kept one after another

abbrev pub Kept : Type 0
Kept = Bor (List ℕ) × Value Global

-- the last is put at its key
data_push : (kept : List Kept) (m : Kept) (found : Members)
    → members_data (members_view (kept ++ m ∷ [])) found ≡ put m.0.now (data_in m.1)
    (members_data (members_view kept) found)
data_push [] m found = refl
data_push (n ∷ kept) m found = data_push kept m (put n.0.now (data_in n.1) found)

read-put : {A : Type 0} (f : Data → Option A) (q k : List ℕ) (d : Data) (ms : Members) (before after : Option A)
    → (get_member q ms >>= f) ≡ before → (if bytes_eq q k then f d else before) ≡ after
    → (get_member q (put k d ms) >>= f) ≡ after
read-put f q k d ms before after was is = by (bytes_eq q k) refl is
  where
    by : (b : Bool) → bytes_eq q k ≡ b → (if b then f d else before) ≡ after → (get_member q (put k d ms) >>= f) ≡ after
    by true e now =
        let same : q ≡ k = (bytes_eq-Decides q k).0 e in
        ap (λ o. o >>= f) (subst (λ x. get_member x (put k d ms) ≡ Some d) (sym same) (get_member-put k d ms)) ∙ now
    by false e now =
        ap (λ o. o >>= f) (get_member-put_other q k d ms (λ same. true≢false (sym ((bytes_eq-Decides q k).1 same) ∙ e)))
        ∙ was ∙ now

-- one more member is kept
pub stands-put : (r : Rules) (kept all : List Kept) (m : Kept) (before after : Option (List Payload)) (ms : Members)
    (d : Data)
    → Stands r kept before ms → Keeps r m.0.now d before m.1 after → all ≡ kept ++ m ∷ []
    → Stands r all after (put m.0.now d ms)
stands-put r kept all m before after ms d h keeps is =
    let q = codes "payloads" in
    let agree : AgreeBut q (put m.0.now d ms) (put m.0.now (data_in m.1)
    (members_data (members_view kept) no_members)) =
    agree-put q m.0.now d (data_in m.1) ms (members_data (members_view kept) no_members) keeps.0 h.0 in (
      subst (λ es. AgreeBut q (put m.0.now d ms) (members_data (members_view es) no_members)) (sym is)
          (subst (λ ns. AgreeBut q (put m.0.now d ms) ns) (sym (data_push kept m no_members)) agree),
      read-put (each (payload_of r)) q m.0.now d ms before after h.1 keeps.1,
    )

-- ---- what an object says, from what was kept of it

-- goes on at so many members
abbrev at_len : ℕ → ℕ → Option ⊤
at_len m n = if n == m then Some tt else None

-- what the members say that an input has in each form, from the values of the keys
abbrev with_by : Rules → Option Data → Option Data → Option Data → Option (List Payload) → Option Input
with_by r limit intrinsics table payloads = do
  l ← limit >>= whole
  i ← intrinsics >>= or_null r.name
  t ← table >>= type_table r
  p ← payloads
  Some (record {
    tunables = record { max_component_instances = l };
    intrinsics = i;
    table = t;
    payloads = p;
  })

-- the table of form 2
abbrev names_by : ℕ → Option Data → Option Data → Option (List (List ℕ))
names_by n form names = do
  _ ← at_len 6 n
  f ← form >>= whole
  t ← names >>= each as_str
  if f == 2 then Some t else None

module _ (ms ns : Members) (a : AgreeBut (codes "payloads") ms ns) where
  len : members_len ns ≡ members_len ms
  len = sym (agree-len (codes "payloads") ms ns a)

  value : (key : List ℕ) → bytes_eq (codes "payloads") key ≡ false → get_member key ns ≡ get_member key ms
  value key other = sym (agree-get (codes "payloads") key ms ns other a)

  module _ (r : Rules) (payloads : Option (List Payload))
      (e : (get_member (codes "payloads") ms >>= each (payload_of r)) ≡ payloads) where
    kept_input : input_with r (object ns) payloads ≡ input_from r (object ms)
    kept_input =
        ap (λ o. with_by r o (get_member (codes "intrinsics") ns) (get_member (codes "types") ns) payloads)
        (value (codes "limit") refl)
        ∙ ap (λ o. with_by r (get_member (codes "limit") ms) o (get_member (codes "types") ns) payloads)
        (value (codes "intrinsics") refl)
        ∙ ap (λ o. with_by r (get_member (codes "limit") ms) (get_member (codes "intrinsics") ms) o payloads)
        (value (codes "types") refl)
        ∙ ap (λ o. with_by r (get_member (codes "limit") ms) (get_member (codes "intrinsics") ms)
        (get_member (codes "types") ms) o) (sym e)

  kept_names : names_of (object ns) ≡ names_of (object ms)
  kept_names =
      ap (λ n. names_by n (get_member (codes "form") ns) (get_member (codes "names") ns)) len
      ∙ ap (λ o. names_by (members_len ms) o (get_member (codes "names") ns)) (value (codes "form") refl)
      ∙ ap (λ o. names_by (members_len ms) (get_member (codes "form") ms) o) (value (codes "names") refl)

  module _ (payloads : Option (List Payload))
      (e : (get_member (codes "payloads") ms >>= each (payload_of plain)) ≡ payloads) where
    kept_one : one_with (object ns) payloads ≡ input_one (object ms)
    kept_one =
        ap (λ n. at_len 4 n >>= λ _. input_with plain (object ns) payloads) len
        ∙ ap (λ o. at_len 4 (members_len ms) >>= λ _. o) (kept_input plain payloads e)

    kept_first : first_with (object ns) payloads ≡ first_of (object ms)
    kept_first =
        ap (λ o. if is_some o then option_map first.Names (names_of (object ns))
        else option_map first.Input (one_with (object ns) payloads)) (value (codes "form") refl)
        ∙ ap (λ o. if is_some (get_member (codes "form") ms) then option_map first.Names o
        else option_map first.Input (one_with (object ns) payloads)) kept_names
        ∙ ap (λ o. if is_some (get_member (codes "form") ms) then option_map first.Names (names_of (object ms))
        else option_map first.Input o) kept_one

-- what was kept says what the object says
module _ (v : Vec Kept Global) (payloads : Option (List Payload)) (ms : Members) where
  pub first-Object : Stands plain v.items payloads ms → first_with (data_in (Object v)) payloads ≡ first_of (object ms)
  first-Object h =
      ap (λ j. first_with (data_of j) payloads) (view-Object v)
      ∙ kept_first ms (members_data (members_view v.items) no_members) h.0 payloads h.1

  pub input-Object : (r : Rules) → Stands r v.items payloads ms
      → input_with r (data_in (Object v)) payloads ≡ input_from r (object ms)
  input-Object r h =
      ap (λ j. input_with r (data_of j) payloads) (view-Object v)
      ∙ kept_input ms (members_data (members_view v.items) no_members) h.0 r payloads h.1
