-- What holds of a result, where there is one, by the steps that lead to it.
use Rattle.std.proofs.Common.{ℕ, zero, suc, Bool, true, false, List, [], ◌∷◌, Option, None, Some, Result, Ok, Err}
use Rattle.std.proofs.Common.{IfOk}
use Rattle.std.proofs.Common.{IfSome, if◌then◌else◌}
use Rattle.std.specs.Prelude.{All, option_and_then, option_map, slice_get, filter_map}
use Rattle.std.specs.List.{cons_option}
use Rattle.std.specs.Str.{bytes_eq}
use Rattle.std.proofs.lemmas.List.Elements.{All-cons, All-head, All-nil, All-tail}
use Rattle.pc_entity.specs.Lists.{map_all, value_of}
use Rattle.pc_spec_reading.specs.Outcome.{Fault, Outcome, after, and_then, at_item, done, fault, found, held, over}
use Rattle.pc_spec_reading.specs.Outcome.{past}

-- P of what a reading is done with, if it is
abbrev pub IfDone : {A : Type 0} → Outcome A → (A → Type 0) → Type 0
IfDone (done x) P = P x
IfDone (fault f p) P = Unit {0}
IfDone over P = Unit {0}
IfDone past P = Unit {0}

module _ {A : Type 0} (P : A → Type 0) where
  -- an item of a list
  pub at_some : (xs : List A) → All P xs → (n : ℕ) → IfSome (slice_get xs n) P
  at_some [] h n = tt
  at_some (x ∷ xs) h zero = All-head P x xs h
  at_some (x ∷ xs) h (suc n) = at_some xs (All-tail P x xs h) n

  -- what a test lets through
  pub test_some : (b : Bool) (o : Option A) → IfSome o P → IfSome (if b then o else None) P
  test_some true o h = h
  test_some false o h = tt

  -- the value of a name
  pub named_some : (es : List (List ℕ × A)) → All (λ (e : List ℕ × A). P e.1) es → (name : List ℕ)
      → IfSome (value_of name es) P
  named_some [] h name = tt
  named_some (e ∷ es) h name =
      by (bytes_eq name e.0) (named_some es (All-tail (λ (e : List ℕ × A). P e.1) e es h) name)
    where
      by : (b : Bool) → IfSome (value_of name es) P → IfSome (if b then Some e.1 else value_of name es) P
      by true rest = All-head (λ (e : List ℕ × A). P e.1) e es h
      by false rest = rest

module _ {A B : Type 0} (P : B → Type 0) where
  -- what is made of what was found, where something is known of that
  pub then_some : (Q : A → Type 0) (f : A → Option B) (o : Option A) → IfSome o Q
      → ((x : A) → Q x → IfSome (f x) P) → IfSome (option_and_then f o) P
  then_some Q f None h each = tt
  then_some Q f (Some x) h each = each x h

  -- the same where nothing is
  pub each_some : (f : A → Option B) (o : Option A) → ((x : A) → IfSome (f x) P) → IfSome (option_and_then f o) P
  each_some f None each = tt
  each_some f (Some x) each = each x

  -- what is made of it at once
  pub map_some : (Q : A → Type 0) (f : A → B) (o : Option A) → IfSome o Q → ((x : A) → Q x → P (f x))
      → IfSome (option_map f o) P
  map_some Q f None h each = tt
  map_some Q f (Some x) h each = each x h

  -- the same where nothing is known
  pub made_some : (f : A → B) (o : Option A) → ((x : A) → P (f x)) → IfSome (option_map f o) P
  made_some f None each = tt
  made_some f (Some x) each = each x

  -- what is made of each item, where each has something
  pub all_some : (f : A → Option B) → ((x : A) → IfSome (f x) P) → (xs : List A) → IfSome (map_all f xs) (All P)
  all_some f each [] = All-nil P
  all_some f each (x ∷ xs) = by (f x) (map_all f xs) (each x) (all_some f each xs)
    where
      by : (o : Option B) (rest : Option (List B)) → IfSome o P → IfSome rest (All P)
          → IfSome (option_and_then (λ y. option_map (λ ys. y ∷ ys) rest) o) (All P)
      by None rest one more = tt
      by (Some y) None one more = tt
      by (Some y) (Some ys) one more = All-cons P y ys one more

  -- what is made of those items that have something
  pub all_filtered : (f : A → Option B) → ((x : A) → IfSome (f x) P) → (xs : List A) → All P (filter_map f xs)
  all_filtered f each [] = All-nil P
  all_filtered f each (x ∷ xs) = by (f x) (each x) (all_filtered f each xs)
    where
      by : (o : Option B) → IfSome o P → All P (filter_map f xs) → All P (cons_option o (filter_map f xs))
      by None one more = more
      by (Some y) one more = All-cons P y (filter_map f xs) one more

module _ {A B : Type 0} (P : B → Type 0) where
  -- a row that goes on with what was found
  pub found_ok : (f : Fault) (o : Option A) (go : A → Result B Fault) → ((x : A) → IfOk (go x) P)
      → IfOk (found f o go) P
  found_ok f None go each = tt
  found_ok f (Some x) go each = each x

  -- the same where something is known of that
  pub with_ok : (Q : A → Type 0) (f : Fault) (o : Option A) (go : A → Result B Fault) → IfSome o Q
      → ((x : A) → Q x → IfOk (go x) P) → IfOk (found f o go) P
  with_ok Q f None go h each = tt
  with_ok Q f (Some x) go h each = each x h

  -- a row that goes on with a result
  pub after_ok : (r : Result A Fault) (go : A → Result B Fault) → ((x : A) → IfOk (go x) P) → IfOk (after r go) P
  after_ok (Ok x) go each = each x
  after_ok (Err f) go each = tt

  -- the same where something is known of that
  pub then_ok : (Q : A → Type 0) (r : Result A Fault) (go : A → Result B Fault) → IfOk r Q
      → ((x : A) → Q x → IfOk (go x) P) → IfOk (after r go) P
  then_ok Q (Ok x) go h each = each x h
  then_ok Q (Err f) go h each = tt

  -- a reading that goes on
  pub then_done : (Q : A → Type 0) (o : Outcome A) (go : A → Outcome B) → IfDone o Q
      → ((x : A) → Q x → IfDone (go x) P) → IfDone (and_then o go) P
  then_done Q (done x) go h each = each x h
  then_done Q (fault f p) go h each = tt
  then_done Q over go h each = tt
  then_done Q past go h each = tt

module _ {A : Type 0} (P : A → Type 0) where
  -- a row that goes on where a test holds
  pub held_ok : (f : Fault) (test : Bool) (go : Result A Fault) → IfOk go P → IfOk (held f test go) P
  held_ok f true go h = h
  held_ok f false go h = tt

  -- an item at its place
  pub item_done : (c n : ℕ) (r : Result A Fault) → IfOk r P → IfDone (at_item c n r) P
  item_done c n (Ok x) h = h
  item_done c n (Err f) h = tt
