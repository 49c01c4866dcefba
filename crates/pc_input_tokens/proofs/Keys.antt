-- Keys, each counted once.
use Rattle.std.proofs.Common.{◌≡◌, ◌==◌, ℕ, zero, suc, ◌+◌, ◌<◌, length, take, set, Bor, Vec, Global, List, [], ◌∷◌}
use Rattle.std.proofs.Common.{◌++◌, map, Bool, true, false, true≢false, Option, Some, None, Ordering, Less, Equal}
use Rattle.std.proofs.Common.{Greater, nat_cmp, is_eq, bytes_eq, refl, sym, ap, ◌∙◌, arith}
use Rattle.std.specs.Prelude.{⊤, slice_get, is_some, ◌||◌, if◌then◌else◌}
use Rattle.std.specs.List.{list_any}
use Rattle.std.specs.Cmp.Lexicographic.{slice_cmp}
use Rattle.std.specs.Ordering.{match_ordering, ordering_reverse}
use Rattle.std.proofs.lemmas.Cmp.{nat_list_cmp_total}
use Rattle.std.proofs.lemmas.Map.Text.{is_eq-slice_cmp}
use Rattle.std.proofs.lemmas.Slice.Eq.{bytes_eq-Decides}
use Rattle.std.proofs.lemmas.List.{take_more_set}
use Rattle.json.specs.Json as json
use Rattle.json.specs.Value.{value_view, members_view}
use Rattle.json.specs.Find as jfind
use Rattle.json.specs.declared.value.Value.{Value, Object}
use Rattle.json.proofs.Trees.{view-Object}
use Rattle.pc_input_tokens.specs.Shape.{has_members, only, tagged}
use Rattle.serde_json.specs.Data.{Data, Members, no_members, member, put}
use Rattle.serde_json.specs.Events.{members_len}
use Rattle.serde_json.specs.Find.{get_member}
use Rattle.serde_json.proofs.Views.{get_member-put, get_member-put_other}
use Rattle.pc_input_tokens.specs.Borrowed.{data_of, members_data, data_in}
use Rattle.pc_input_tokens.specs.Keys.{fresh}

-- ---- members in the order of their keys

abbrev pub IsBelow : List ℕ → Members → Type 0
IsBelow k no_members = ⊤
IsBelow k (member l e ms) = (slice_cmp nat_cmp k l ≡ Less) × IsBelow k ms

abbrev pub Ascends : Members → Type 0
Ascends no_members = ⊤
Ascends (member k d ms) = IsBelow k ms × Ascends ms

still_below : (k l : List ℕ) (ms : Members) → slice_cmp nat_cmp k l ≡ Less → IsBelow l ms → IsBelow k ms
still_below k l no_members h b = tt
still_below k l (member m e ms) h b = (nat_list_cmp_total.trans k l m h b.0, still_below k l ms h b.1)

below-put_at : (o : Ordering) (q k l : List ℕ) (d e : Data) (ms more : Members) → slice_cmp nat_cmp q k ≡ Less
    → IsBelow q (member l e ms) → IsBelow q more
    → IsBelow q (match_ordering o (member k d (member l e ms)) (member l d ms) (member l e more))
below-put_at Less q k l d e ms more h b m = (h, b)
below-put_at Equal q k l d e ms more h b m = b
below-put_at Greater q k l d e ms more h b m = (b.0, m)

below-put : (q k : List ℕ) (d : Data) (ms : Members) → slice_cmp nat_cmp q k ≡ Less → IsBelow q ms
    → IsBelow q (put k d ms)
below-put q k d no_members h b = (h, tt)
below-put q k d (member l e ms) h b = below-put_at (slice_cmp nat_cmp k l) q k l d e ms (put k d ms) h b
    (below-put q k d ms h b.1)

ascends-put_at : (o : Ordering) (k l : List ℕ) (d e : Data) (ms : Members) → slice_cmp nat_cmp k l ≡ o
    → Ascends (member l e ms) → Ascends (put k d ms)
    → Ascends (match_ordering o (member k d (member l e ms)) (member l d ms) (member l e (put k d ms)))
ascends-put_at Less k l d e ms is h more = ((is, still_below k l ms is h.0), h)
ascends-put_at Equal k l d e ms is h more = h
ascends-put_at Greater k l d e ms is h more =
    let under : slice_cmp nat_cmp l k ≡ Less = nat_list_cmp_total.antisymm l k ∙ ap ordering_reverse is in
    (below-put l k d ms under h.0, more)

pub ascends-put : (k : List ℕ) (d : Data) (ms : Members) → Ascends ms → Ascends (put k d ms)
ascends-put k d no_members h = (tt, tt)
ascends-put k d (member l e ms) h = ascends-put_at (slice_cmp nat_cmp k l) k l d e ms refl h (ascends-put k d ms h.1)

-- ---- how many there are

absent : (k : List ℕ) (ms : Members) → IsBelow k ms → get_member k ms ≡ None
absent k no_members h = refl
absent k (member l e ms) h = rw h.0 (absent k ms h.1)

-- how many are added by a put
abbrev pub added : Option Data → ℕ → ℕ
added None n = suc n
added (Some d) n = n

len-put_at : (o : Ordering) (k l : List ℕ) (d e : Data) (ms : Members) → slice_cmp nat_cmp k l ≡ o
    → Ascends (member l e ms)
    → members_len (put k d ms) ≡ added (get_member k ms) (members_len ms)
    → members_len (match_ordering o (member k d (member l e ms)) (member l d ms) (member l e (put k d ms)))
    ≡ added (match_ordering o (get_member k ms) (Some e) (get_member k ms)) (suc (members_len ms))
len-put_at Less k l d e ms is h more = rw (absent k ms (still_below k l ms is h.0)) refl
len-put_at Equal k l d e ms is h more = refl
len-put_at Greater k l d e ms is h more = later (get_member k ms) more
  where
    later : (o : Option Data) → members_len (put k d ms) ≡ added o (members_len ms)
        → suc (members_len (put k d ms)) ≡ added o (suc (members_len ms))
    later None e = ap suc e
    later (Some x) e = ap suc e

pub len-put : (k : List ℕ) (d : Data) (ms : Members) → Ascends ms → members_len (put k d ms)
    ≡ added (get_member k ms) (members_len ms)
len-put k d no_members h = refl
len-put k d (member l e ms) h = len-put_at (slice_cmp nat_cmp k l) k l d e ms refl h (len-put k d ms h.1)

-- ---- the keys that were seen are those of the members so far

abbrev pub SameKeys : List (List ℕ) → Members → Type 0
SameKeys seen ms = (q : List ℕ) → list_any (λ l. bytes_eq l q) seen ≡ is_some (get_member q ms)

list_any-last : (q k : List ℕ) (seen : List (List ℕ))
    → list_any (λ l. bytes_eq l q) (seen ++ k ∷ []) ≡ (bytes_eq k q || list_any (λ l. bytes_eq l q) seen)
list_any-last q k [] = refl
list_any-last q k (l ∷ seen) = either (bytes_eq l q) (bytes_eq k q) _ _ (list_any-last q k seen)
  where
    either : (a b c d : Bool) → c ≡ (b || d) → (a || c) ≡ (b || (a || d))
    either true true c d e = refl
    either true false c d e = refl
    either false true c d e = e
    either false false c d e = e

same-put_at : (q k : List ℕ) (d : Data) (ms : Members) (b : Bool) → bytes_eq k q ≡ b
    → (b || is_some (get_member q ms)) ≡ is_some (get_member q (put k d ms))
same-put_at q k d ms true e = let same : q ≡ k = sym ((bytes_eq-Decides k q).0 e) in rw same
    (ap is_some (sym (get_member-put k d ms)))
same-put_at q k d ms false e =
    ap is_some (sym (get_member-put_other q k d ms (λ same. true≢false
    (sym ((bytes_eq-Decides k q).1 (sym same)) ∙ e))))

pub same-put : (seen : List (List ℕ)) (k : List ℕ) (d : Data) (ms : Members) → SameKeys seen ms
    → SameKeys (seen ++ k ∷ []) (put k d ms)
same-put seen k d ms h q =
    list_any-last q k seen ∙ ap (λ b. bytes_eq k q || b) (h q) ∙ same-put_at q k d ms (bytes_eq k q) refl

known_at : (b : Bool) (o : Option Data) → (b || is_some o) ≡ is_some o → b ≡ true → is_some o ≡ true
known_at true o e h = sym e
known_at false o e h = absurd (true≢false (sym h))

-- a key that was seen stays the only one
pub same-put_known : (seen : List (List ℕ)) (k : List ℕ) (d : Data) (ms : Members) → SameKeys seen ms
    → list_any (λ l. bytes_eq l k) seen ≡ true → SameKeys seen (put k d ms)
same-put_known seen k d ms h known q = by (bytes_eq k q) refl
  where
    by : (b : Bool) → bytes_eq k q ≡ b → list_any (λ l. bytes_eq l q) seen ≡ is_some (get_member q (put k d ms))
    by true e = let same : q ≡ k = sym ((bytes_eq-Decides k q).0 e) in rw (same, known, get_member-put k d ms) refl
    by false e = h q ∙ same-put_at q k d ms false e

count_known : (o : Option Data) (n : ℕ) → is_some o ≡ true → added o n ≡ n
count_known None n e = absurd (true≢false (sym e))
count_known (Some d) n e = refl

count_new : (o : Option Data) (n : ℕ) → is_some o ≡ false → added o n ≡ suc n
count_new None n e = refl
count_new (Some d) n e = absurd (true≢false e)

-- as many members as keys
pub counted : (seen : List (List ℕ)) (ms : json.Members) (found : Members) → Ascends found → SameKeys seen found
    → members_len (members_data ms found) ≡ members_len found + fresh seen ms
counted seen json.no_members found up same = omega arith
counted seen (json.member k j ms) found up same =
    turn (list_any (λ l. bytes_eq l k) seen) refl
    (λ known. counted seen ms (put k (data_of j) found) (ascends-put k (data_of j) found up)
    (same-put_known seen k (data_of j) found same known))
    (counted (seen ++ k ∷ []) ms (put k (data_of j) found) (ascends-put k (data_of j) found up)
    (same-put seen k (data_of j) found same))
  where
    turn : (b : Bool) → list_any (λ l. bytes_eq l k) seen ≡ b
        → (list_any (λ l. bytes_eq l k) seen ≡ true → members_len (members_data ms (put k (data_of j) found))
        ≡ members_len (put k (data_of j) found) + fresh seen ms)
        → members_len (members_data ms (put k (data_of j) found))
        ≡ members_len (put k (data_of j) found) + fresh (seen ++ k ∷ []) ms
        → members_len (members_data ms (put k (data_of j) found))
        ≡ members_len found + (if b then fresh seen ms else suc (fresh (seen ++ k ∷ []) ms))
    turn true e one two =
        one e ∙ ap (λ n. n + fresh seen ms) (len-put k (data_of j) found up ∙ count_known _ _ (sym (same k) ∙ e))
    turn false e one two =
        let more : members_len (put k (data_of j) found) ≡ suc (members_len found) = len-put k (data_of j) found up
        ∙ count_new _ _ (sym (same k) ∙ e) in
        omega (arith, two, more)

-- ---- the loop over the members, a turn at a time

abbrev pub Key : Type 0
Key = Bor (List ℕ)

abbrev pub texts : List Key → List (List ℕ)
texts ks = map (λ k. k.now) ks

pub any_text : (q : List ℕ) (ks : List Key) → list_any (λ l. bytes_eq l q) (texts ks)
    ≡ list_any (λ k. bytes_eq k.now q) ks
any_text q [] = refl
any_text q (k ∷ ks) = ap (λ b. bytes_eq k.now q || b) (any_text q ks)

texts-push : (ks : List Key) (k : Key) → texts (ks ++ k ∷ []) ≡ texts ks ++ k.now ∷ []
texts-push [] k = refl
texts-push (l ∷ ks) k = ap (λ rest. l.now ∷ rest) (texts-push ks k)

pub turn_known : (seen : List (List ℕ)) (m : Key × Value Global) (ms : List (Key × Value Global))
    → list_any (λ l. bytes_eq l m.0.now) seen ≡ true → fresh seen (members_view (m ∷ ms)) ≡ fresh seen (members_view ms)
turn_known seen m ms e = rw e refl

pub turn_new : (seen : List (List ℕ)) (m : Key × Value Global) (ms : List (Key × Value Global))
    → list_any (λ l. bytes_eq l m.0.now) seen ≡ false
    → fresh seen (members_view (m ∷ ms)) ≡ suc (fresh (seen ++ m.0.now ∷ []) (members_view ms))
turn_new seen m ms e = rw e refl

pub step_new : (seen : List Key) (k : Key) (count total : ℕ) (rest : json.Members) → count < length seen
    → count + suc (fresh (texts (take count seen) ++ k.now ∷ []) rest) ≡ total
    → (count + 1) + fresh (texts (take (count + 1) (set seen count k))) rest ≡ total
step_new seen k count total rest within e =
    rw (take_more_set seen count k within, texts-push (take count seen) k) (omega (arith, e))

pub counted_all : (ms : json.Members) → members_len (members_data ms no_members) ≡ fresh [] ms
counted_all ms = let all = counted [] ms no_members tt (λ q. refl) in omega (arith, all)

pub has_members-Object : (n : ℕ) (v : Vec (Key × Value Global) Global)
    → has_members n (data_in (Object v)) ≡ (fresh [] (members_view v.items) == n)
has_members-Object n v =
    ap (λ j. has_members n (data_of j)) (view-Object v) ∙ ap (λ m. m == n) (counted_all (members_view v.items))

-- ---- an object of one member

one_left_at : (o : Ordering) (k l : List ℕ) (d e : Data) → slice_cmp nat_cmp k l ≡ o
    → match_ordering o None (Some e) None ≡ Some d → ◌≡◌ {A = Option (List ℕ × Data)} (Some (l, e)) (Some (k, d))
one_left_at Less k l d e is h = absurd (cc)
one_left_at Equal k l d e is h =
    let same : k ≡ l = (bytes_eq-Decides k l).0 (sym (is_eq-slice_cmp k l) ∙ ap is_eq is) in cc
one_left_at Greater k l d e is h = absurd (cc)

pub one_left : (ms : Members) (k : List ℕ) (d : Data) → members_len ms ≡ 1 → get_member k ms ≡ Some d → only ms
    ≡ Some (k, d)
one_left no_members k d n h = absurd (omega (arith, n))
one_left (member l e no_members) k d n h = one_left_at (slice_cmp nat_cmp k l) k l d e refl h
one_left (member l e (member m f ms)) k d n h = absurd (omega (arith, n))

pub several : (ms : Members) → (members_len ms ≡ 1 → ⊥) → only ms ≡ None
several no_members n = refl
several (member k d no_members) n = absurd (n refl)
several (member k d (member l e ms)) n = refl

pub last_found : (xs : List (Key × Value Global)) (m : Key × Value Global) (i : ℕ) → suc i ≡ length xs
    → slice_get xs i ≡ Some m
    → jfind.get_member m.0.now (members_view xs) ≡ Some (value_view m.1)
last_found [] m i n e = absurd (omega (arith, n))
last_found (x ∷ []) m zero n e =
    let same : x ≡ m = cc in rw (same, (bytes_eq-Decides m.0.now m.0.now).1 refl) refl
last_found (x ∷ []) m (suc i) n e = absurd (omega (arith, n))
last_found (x ∷ y ∷ ys) m zero n e = absurd (omega (arith, n))
last_found (x ∷ y ∷ ys) m (suc i) n e = rw (last_found (y ∷ ys) m i (omega (arith, n)) e) refl

pub nonempty : (xs : List (Key × Value Global)) (m : Key × Value Global) (i : ℕ) → slice_get xs i ≡ Some m
    → 0 < length xs
nonempty [] m i e = absurd (cc)
nonempty (x ∷ xs) m i e = omega arith

pub tagged-Object : (v : Vec (Key × Value Global) Global)
    → tagged (data_in (Object v)) ≡ only (members_data (members_view v.items) no_members)
tagged-Object v = ap (λ j. tagged (data_of j)) (view-Object v)
