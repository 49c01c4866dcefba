-- Arrays and objects of `json`'s trees and of `serde_json`'s.
use Rattle.std.proofs.Common.{◌≡◌, ℕ, List, [], ◌∷◌, length, map, Bool, true, false, true≢false, Option, Some, None}
use Rattle.std.proofs.Common.{option_map, refl, sym, ap, ◌∙◌, arith, bytes_eq, cond, Bor, Vec, String, Global}
use Rattle.std.proofs.Common.{string_bytes}
use Rattle.std.specs.Prelude.{slice_get}
use Rattle.std.proofs.lemmas.Slice.Eq.{bytes_eq-Decides}
use Rattle.json.specs.Json as json
use Rattle.json.specs.Find as jfind
use Rattle.json.specs.Value.{value_view, items_view}
use Rattle.json.specs.declared.value.Value.{Value, Array}
use Rattle.json.proofs.Trees.{view-Array}
use Rattle.serde_json.specs.Data.{Num, Data, Members, no_members, put}
use Rattle.serde_json.specs.Find.{get, get_member}
use Rattle.serde_json.specs.View as owned
use Rattle.serde_json.specs.declared.value.Value as owned_
use Rattle.serde_json.proofs.Views.{get_member-put, get_member-put_other}
use Rattle.pc_input_tokens.specs.Shape.{elements, list_of, only}
use Rattle.pc_input_tokens.specs.Borrowed.{number_data, data_of, items_data, members_data, data_in}

-- ---- arrays

elements-items : (vs : List (Value Global)) → elements (items_data (items_view vs)) ≡ map data_in vs
elements-items [] = refl
elements-items (v ∷ vs) = ap (λ rest. data_in v ∷ rest) (elements-items vs)

pub listed : (v : Vec (Value Global) Global) → list_of (data_in (Array v)) ≡ Some (map data_in v.items)
listed v = rw (view-Array v) (ap Some (elements-items v.items))

-- the elements of an array are those that it was made of
pub elements-items_of : (ds : List Data) → elements (owned.items_of ds) ≡ ds
elements-items_of [] = refl
elements-items_of (d ∷ ds) = ap (λ rest. d ∷ rest) (elements-items_of ds)

-- ---- members by their keys

abbrev pub or_else : Option Data → Option Data → Option Data
or_else None o = o
or_else (Some d) o = Some d

or_else-None : (o : Option Data) → or_else o None ≡ o
or_else-None None = refl
or_else-None (Some d) = refl

got_now : (q k : List ℕ) (j : json.Json) (found : Members) (b : Bool) → bytes_eq k q ≡ b
    → get_member q (put k (data_of j) found) ≡ or_else (option_map data_of (cond b (Some j) None)) (get_member q found)
got_now q k j found true e =
    let same : q ≡ k = sym ((bytes_eq-Decides k q).0 e) in rw same (get_member-put k (data_of j) found)
got_now q k j found false e =
    get_member-put_other q k (data_of j) found (λ same. true≢false (sym ((bytes_eq-Decides k q).1 (sym same)) ∙ e))

got_later : (q k : List ℕ) (j : json.Json) (found : Members) (o : Option json.Json)
    → or_else (option_map data_of o) (get_member q (put k (data_of j) found))
    ≡ or_else (option_map data_of (jfind.later_or o (cond (bytes_eq k q) (Some j) None))) (get_member q found)
got_later q k j found (Some x) = refl
got_later q k j found None = got_now q k j found (bytes_eq k q) refl

-- the last value of a key is found, or else what was there before
pub got : (q : List ℕ) (ms : json.Members) (found : Members)
    → get_member q (members_data ms found) ≡ or_else (option_map data_of (jfind.get_member q ms)) (get_member q found)
got q json.no_members found = refl
got q (json.member k j ms) found =
    got q ms (put k (data_of j) found) ∙ got_later q k j found (jfind.get_member q ms)

get-number : (q : List ℕ) (o : Option Num) → get q (number_data o) ≡ None
get-number q None = refl
get-number q (Some n) = refl

pub get-data_of : (q : List ℕ) (j : json.Json) → get q (data_of j) ≡ option_map data_of (jfind.get q j)
get-data_of q json.null = refl
get-data_of q (json.boolean b) = refl
get-data_of q (json.number s) = get-number q _
get-data_of q (json.string s) = refl
get-data_of q (json.array js) = refl
get-data_of q (json.object ms) = got q ms no_members ∙ or_else-None _

pub seen_twice : (r : Option (Bor (Value Global)))
    → option_map (λ v. data_in v.now) r ≡ option_map data_of (option_map (λ v. value_view v.now) r)
seen_twice None = refl
seen_twice (Some v) = refl

-- ---- members of `serde_json`'s objects

abbrev pub Entry : Type 0
Entry = String Global × owned_.Value

-- the first member, where there is one
pub only-one : (es : List Entry) (e : Entry) → length es ≡ 1 → slice_get es 0 ≡ Some e
    → only (owned.members_view es) ≡ Some (string_bytes e.0, owned.view e.1)
only-one [] e n h = absurd (omega (arith, n))
only-one (x ∷ []) e n h = cc
only-one (x ∷ y ∷ es) e n h = absurd (omega (arith, n))

-- no member is the only one, where there are none or several
pub only-none : (es : List Entry) → (length es ≡ 1 → ⊥) → only (owned.members_view es) ≡ None
only-none [] n = refl
only-none (x ∷ []) n = absurd (n refl)
only-none (x ∷ y ∷ es) n = refl
