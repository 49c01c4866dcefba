-- Payloads off the tokens, and the object of one.
use Rattle.std.proofs.Common.{◌≡◌, ◌≤◌, ℕ, suc, List, ◌∷◌, Bool, true, false, true≢false, Option, Some, None}
use Rattle.std.proofs.Common.{option_map}
use Rattle.std.proofs.Common.{Ok, Err, Ordering, Less, Equal, Greater, nat_cmp, is_eq, bytes_eq, if◌then◌else◌}
use Rattle.std.proofs.Common.{refl, sym, ap, ◌∙◌, subst, arith, is_some}
use Rattle.std.specs.Cmp.Lexicographic.{slice_cmp}
use Rattle.std.specs.Ordering.{match_ordering}
use Rattle.std.proofs.lemmas.Map.Text.{is_eq-slice_cmp}
use Rattle.std.proofs.lemmas.Slice.Eq.{bytes_eq-Decides}
use Rattle.json.specs.Token.{Token}
use Rattle.json.proofs.Grammar.{value_is}
use Rattle.serde_json.specs.Data.{Num, Data, null, boolean, number, string, array, object, Items, Members, no_members}
use Rattle.serde_json.specs.Data.{member, put}
use Rattle.serde_json.specs.Events.{members_len}
use Rattle.serde_json.specs.Read.{number_of, of_json, converted}
use Rattle.pc_entity.specs.Lists.{value_of}
use Rattle.pc_parsed.specs.declared.payload.Payload.{Payload}
use Rattle.pc_input_tokens.specs.Shape.{only}
use Rattle.pc_input_tokens.specs.Takes.{data_at}
use Rattle.pc_input_tokens.proofs.Keys.{several}
use Rattle.pc_input_values.specs.declared.error.DecodeError.{DecodeError}
use Rattle.pc_input_values.specs.declared.error.DecodeError.TheVariants.{NotJson, BadForm, NoMemory}
use Rattle.pc_input_values.specs.Rules.{Rules}
use Rattle.pc_input_values.specs.Tree.{◌>>=◌, by_row, making}
use Rattle.pc_input.specs.Payload.{payload_words, payload_keys, payload_of}
use Rattle.pc_input.specs.Takes.{Takes, TakesOther}
use Rattle.pc_input.specs.Content.{is_first, HasAny}

-- ---- a section, from its entries

module _ {A B : Type 0} (make : A → B) (f : Data → Option A) (depth : ℕ) (old new : List Token) where
  pub made : (x : A) → Takes f depth old (Ok x) new → Takes (making make f) depth old (Ok (make x)) new
  made x t = (t.0, t.1, ap (option_map make) t.2)

  pub made_err : (e : DecodeError) → Takes f depth old (Err e) new → Takes (making make f) depth old (Err e) new
  made_err NotJson t = t
  made_err BadForm t = (t.0, t.1, ap (option_map make) t.2)
  made_err NoMemory t = tt

-- a key without a row
pub other_key : {A : Type 0} (rows : List (List ℕ × (Data → Option A))) (key : List ℕ) (depth : ℕ)
    (old new : List Token)
    (e : DecodeError) → value_of key rows ≡ None → TakesOther depth old e new
    → Takes (by_row rows key) depth old (Err e) new
other_key rows key depth old new NotJson none t = t
other_key rows key depth old new BadForm none t = (t.0, t.1, ap (λ o. o >>= λ f. f t.0) none)
other_key rows key depth old new NoMemory none t = tt

-- ---- one more member in the object of a payload

-- an object loses no member
grows_at : (o : Ordering) (k l : List ℕ) (d e : Data) (ms more : Members) → members_len ms ≤ members_len more
    → suc (members_len ms) ≤ members_len (match_ordering o (member k d (member l e ms)) (member l d ms)
    (member l e more))
grows_at Less k l d e ms more h = omega arith
grows_at Equal k l d e ms more h = omega arith
grows_at Greater k l d e ms more h = omega (arith, h)

grows : (k : List ℕ) (d : Data) (ms : Members) → members_len ms ≤ members_len (put k d ms)
grows k d no_members = omega arith
grows k d (member l e ms) = grows_at (slice_cmp nat_cmp k l) k l d e ms (put k d ms) (grows k d ms)

self_at : (o : Ordering) (k : List ℕ) (d e : Data) → slice_cmp nat_cmp k k ≡ o
    → match_ordering o (member k d (member k e no_members)) (member k d no_members) (member k e (member k d no_members))
    ≡ member k d no_members
self_at Equal k d e is = refl
self_at Less k d e is =
    absurd (true≢false (sym ((bytes_eq-Decides k k).1 refl) ∙ sym (is_eq-slice_cmp k k) ∙ ap is_eq is))
self_at Greater k d e is =
    absurd (true≢false (sym ((bytes_eq-Decides k k).1 refl) ∙ sym (is_eq-slice_cmp k k) ∙ ap is_eq is))

two_at : (o : Ordering) (k l : List ℕ) (d e : Data) → slice_cmp nat_cmp k l ≡ o → bytes_eq l k ≡ false
    → 2 ≤ members_len (match_ordering o (member k d (member l e no_members)) (member l d no_members)
    (member l e (member k d no_members)))
two_at Less k l d e is other = omega arith
two_at Greater k l d e is other = omega arith
two_at Equal k l d e is other =
    let same : k ≡ l = (bytes_eq-Decides k l).0 (sym (is_eq-slice_cmp k l) ∙ ap is_eq is) in
    absurd (true≢false (sym ((bytes_eq-Decides l k).1 (sym same)) ∙ other))

-- the first key, once more or for the first time
pub one_same : (r : Rules) (many : Bool) (first : Option (List ℕ)) (before after : Option Payload) (key : List ℕ) (d :
    Data)
    (ms : Members)
    → is_first key first ≡ true → by_row (payload_keys r) key d ≡ after → HasAny r many first before ms
    → HasAny r many (Some key) after (put key d ms)
one_same r true first before after key d ms e is h = omega (arith, h, grows key d ms)
one_same r false None before after key d ms e is h = (d, ap (put key d) h.0, is)
one_same r false (Some first) before after key d ms e is h =
    let same : first ≡ key = (bytes_eq-Decides first key).0 e in (
      d,
      ap (put key d) h.1
          ∙ subst (λ l. put key d (member l h.0 no_members) ≡ member key d no_members) (sym same)
          (self_at (slice_cmp nat_cmp key key) key d h.0 refl),
      is,
    )

-- another key
pub one_other : (r : Rules) (many : Bool) (first : Option (List ℕ)) (before : Option Payload) (key : List ℕ) (d : Data)
    (ms : Members)
    → is_first key first ≡ false → HasAny r many first before ms → 2 ≤ members_len (put key d ms)
one_other r true first before key d ms e h = omega (arith, h, grows key d ms)
one_other r false None before key d ms e h = absurd (true≢false e)
one_other r false (Some first) before key d ms e h =
    subst (λ xs. 2 ≤ members_len (put key d xs)) (sym h.1) (two_at (slice_cmp nat_cmp key first) key first d h.0 refl e)

-- the payload of the object
pub payload_is : (r : Rules) (many : Bool) (first : Option (List ℕ)) (payload : Option Payload) (ms : Members)
    → HasAny r many first payload ms → (if many then None else payload) ≡ payload_of r (object ms)
unfolding payload_of
payload_is r true first payload ms h =
    sym (ap (λ o. o >>= λ t. by_row (payload_keys r) t.0 t.1) (several ms (λ one. absurd (omega (arith, h, one)))))
payload_is r false None payload ms h =
    h.1 ∙ sym (ap (λ xs. only xs >>= λ t. by_row (payload_keys r) t.0 t.1) h.0)
payload_is r false (Some key) payload ms h =
    sym h.2 ∙ sym (ap (λ xs. only xs >>= λ t. by_row (payload_keys r) t.0 t.1) h.1)

-- ---- a payload by its first token

-- an array is none
pub no_array : (r : Rules) (ds : Items) → payload_of r (array ds) ≡ None
unfolding payload_of
no_array r ds = refl

-- a word, or none
pub by_word : (r : Rules) (s : List ℕ) → payload_of r (string s) ≡ value_of s payload_words
unfolding payload_of
by_word r s = refl

module _ (r : Rules) (depth : ℕ) (ts : List Token) where
  pub word_next : (s : List ℕ) → data_at depth (Token.string s ∷ ts) ≡ Some (string s, ts)
  word_next s = ap (converted of_json) (value_is depth (Token.string s ∷ ts))

  pub boolean_next : (b : Bool) → Takes (payload_of r) depth (Token.boolean b ∷ ts) (Err BadForm) ts
  unfolding payload_of
  boolean_next b = (boolean b, ap (converted of_json) (value_is depth (Token.boolean b ∷ ts)), refl)

  pub null_next : Takes (payload_of r) depth (Token.null ∷ ts) (Err BadForm) ts
  unfolding payload_of
  null_next = (null, ap (converted of_json) (value_is depth (Token.null ∷ ts)), refl)

  number_at : (s : List ℕ) → data_at depth (Token.number s ∷ ts)
      ≡ option_map {U = Data × List Token} (λ d. (d, ts)) (option_map number (number_of s))
  number_at s = ap (converted of_json) (value_is depth (Token.number s ∷ ts))

  pub number_next : (s : List ℕ) → is_some (number_of s) ≡ true
      → Takes (payload_of r) depth (Token.number s ∷ ts) (Err BadForm) ts
  unfolding payload_of
  number_next s e = by (number_of s) refl e
    where
      by : (o : Option Num) → number_of s ≡ o → is_some o ≡ true
          → Takes (payload_of r) depth (Token.number s ∷ ts) (Err BadForm) ts
      by None is h = absurd (true≢false (sym h))
      by (Some n) is h = (
        number n,
        number_at s ∙ ap (λ o. option_map {U = Data × List Token} (λ d. (d, ts)) (option_map number o))
            is,
        refl,
      )

  pub number_refused : (s : List ℕ) → is_some (number_of s) ≡ false → data_at depth (Token.number s ∷ ts) ≡ None
  number_refused s e = by (number_of s) refl e
    where
      by : (o : Option Num) → number_of s ≡ o → is_some o ≡ false → data_at depth (Token.number s ∷ ts) ≡ None
      by (Some n) is h = absurd (true≢false h)
      by None is h = number_at s ∙ ap (λ o. option_map {U = Data × List Token} (λ d. (d, ts)) (option_map number o)) is
