-- What is taken off the tokens, from what is read of it.
use Rattle.std.proofs.Common.{◌≡◌, ℕ, ◌-◌, ◌<◌, Bool, true, false, List, [], ◌∷◌, ◌++◌, Option, Some, None, option_map}
use Rattle.std.proofs.Common.{option_and_then, Result, Ok, Err, refl, sym, ap, ◌∙◌}
use Rattle.std.specs.Bool.{MatchBool}
use Rattle.json.specs.Token.{Token}
use Rattle.json.specs.Lex.{tokens}
use Rattle.json.specs.Json.{value, parse_map}
use Rattle.serde_json.specs.Data.{Data, array, object, Items, Members}
use Rattle.serde_json.specs.Read.{read, of_json, converted}
use Rattle.pc_entity.specs.Lists.{map_all}
use Rattle.pc_entity.proofs.MapAll.{map_all-push}
use Rattle.pc_input_tokens.specs.Takes.{data_at, items_at, members_at, IsScalar, Passes}
use Rattle.pc_input_tokens.specs.declared.refusal.Refusal.{Refusal}
use Rattle.pc_input_tokens.specs.declared.refusal.Refusal.TheVariants as refusal
use Rattle.json.proofs.Grammar.{value_is}
use Rattle.pc_input_tokens.proofs.Nested.{data_at-array, data_at-object}
use Rattle.pc_input_tokens.proofs.Whole.{whole_read, whole_and_more, whole_refused}
use Rattle.pc_input_values.specs.declared.error.DecodeError.{DecodeError}
use Rattle.pc_input_values.specs.declared.error.DecodeError.TheVariants.{NotJson, BadForm, NoMemory}
use Rattle.pc_input_values.specs.Reads.{Reads}
use Rattle.pc_input_values.specs.Rules.{Rules}
use Rattle.pc_input_values.specs.Tree.{◌>>=◌, each}
use Rattle.pc_input.specs.Root.{Kept, TakesObject, OfObject}
use Rattle.pc_input.specs.Takes.{TakesAs, Takes, TakesItems, TakesMembers, passed_as, OfText}

-- what was taken, and then read
pub TakesAs-from_Reads : {A B : Type 0} (f : A → Option B) (all : Option (A × List Token)) (a : A) (new : List Token)
    (r : Result B DecodeError) → all ≡ Some (a, new) → Reads r (f a) → TakesAs f all r new
TakesAs-from_Reads f all a new (Ok x) is h = (a, is, h)
TakesAs-from_Reads f all a new (Err NotJson) is h = absurd h
TakesAs-from_Reads f all a new (Err BadForm) is h = (a, is, h)
TakesAs-from_Reads f all a new (Err NoMemory) is h = tt

-- a text that was taken whole, and then read
pub OfText-from_Reads : {A : Type 0} (f : Data → Option A) (text : List ℕ) (d : Data) (r : Result A DecodeError)
    → read text ≡ Some d → Reads r (f d) → OfText f text r
OfText-from_Reads f text d (Ok x) is h = (d, is, h)
OfText-from_Reads f text d (Err NotJson) is h = absurd h
OfText-from_Reads f text d (Err BadForm) is h = (d, is, h)
OfText-from_Reads f text d (Err NoMemory) is h = tt

-- ---- a list that grows at its end, where one item without a value leaves none to the list

module _ {A : Type 0} (f : Data → Option A) where
  after_nothing : (o : Option A) → option_and_then (λ y. option_map (λ ys. y ∷ ys) None) o ≡ None
  after_nothing None = refl
  after_nothing (Some y) = refl

  pub refuses : (ds : List Data) (d : Data) → f d ≡ None → map_all f (ds ++ d ∷ []) ≡ None
  refuses [] d e = rw e refl
  refuses (c ∷ ds) d e = rw (refuses ds d e) (after_nothing (f c))

  stays_at : (z w : Option (List A)) (c : Option A) → (z ≡ None → w ≡ None)
      → option_and_then (λ y. option_map (λ ys. y ∷ ys) z) c ≡ None
      → option_and_then (λ y. option_map (λ ys. y ∷ ys) w) c ≡ None
  stays_at z w None h e = refl
  stays_at None w (Some y) h e = rw (h refl)
  stays_at (Some ys) w (Some y) h e = absurd (cc)

  pub stays : (ds : List Data) (d : Data) → map_all f ds ≡ None → map_all f (ds ++ d ∷ []) ≡ None
  stays [] d e = absurd (cc)
  stays (c ∷ ds) d e = stays_at (map_all f ds) (map_all f (ds ++ d ∷ [])) (f c) (λ is. stays ds d is) e

  pub one_more : (b : Bool) (ds : List Data) (d : Data) (xs ys : List A) (x : A)
      → MatchBool b (map_all f ds ≡ None) (map_all f ds ≡ Some xs) → f d ≡ Some x → ys ≡ xs ++ x ∷ []
      → MatchBool b (map_all f (ds ++ d ∷ []) ≡ None) (map_all f (ds ++ d ∷ []) ≡ Some ys)
  one_more true ds d xs ys x m e is = stays ds d m
  one_more false ds d xs ys x m e is = map_all-push f ds xs d x m e ∙ ap Some (sym is)

-- ---- an array and an object, from what stands behind the bracket and the brace

module _ (depth : ℕ) (old mid : List Token) (some : 0 < depth) where
  pub in_array : old ≡ Token.begin_array ∷ mid → data_at depth old ≡ parse_map array (items_at (depth - 1) mid)
  in_array is = ap (data_at depth) is ∙ data_at-array depth mid some

  pub in_object : old ≡ Token.begin_object ∷ mid → data_at depth old ≡ parse_map object (members_at (depth - 1) mid)
  in_object is = ap (data_at depth) is ∙ data_at-object depth mid some

  module _ {A : Type 0} (f : Data → Option A) (new : List Token) where
    pub array_taken : (r : Result (List A) DecodeError) → old ≡ Token.begin_array ∷ mid
        → TakesItems f (depth - 1) mid r new → Takes (each f) depth old r new
    array_taken (Ok xs) is t = (array t.0, in_array is ∙ ap (parse_map array) t.1, t.2)
    array_taken (Err NotJson) is t = in_array is ∙ ap (parse_map array) t
    array_taken (Err BadForm) is t = (array t.0, in_array is ∙ ap (parse_map array) t.1, t.2)
    array_taken (Err NoMemory) is t = tt

    pub object_taken : (r : Result A DecodeError) → old ≡ Token.begin_object ∷ mid
        → TakesMembers (λ ms. f (object ms)) (depth - 1) mid r new → Takes f depth old r new
    object_taken (Ok x) is t = (object t.0, in_object is ∙ ap (parse_map object) t.1, t.2)
    object_taken (Err NotJson) is t = in_object is ∙ ap (parse_map object) t
    object_taken (Err BadForm) is t = (object t.0, in_object is ∙ ap (parse_map object) t.1, t.2)
    object_taken (Err NoMemory) is t = tt

    pub array_passed : {B : Type 0} (r : Result B Refusal) → ((ds : Items) → f (array ds) ≡ None)
        → old ≡ Token.begin_array ∷ mid → Passes (items_at (depth - 1) mid) r new
        → Takes f depth old (Err (passed_as r)) new
    array_passed (Ok x) none is t = (array t.0, in_array is ∙ ap (parse_map array) t.1, none t.0)
    array_passed (Err refusal.NotJson) none is t = in_array is ∙ ap (parse_map array) t
    array_passed (Err refusal.NoMemory) none is t = tt

    pub object_passed : {B : Type 0} (r : Result B Refusal) → ((ms : Members) → f (object ms) ≡ None)
        → old ≡ Token.begin_object ∷ mid → Passes (members_at (depth - 1) mid) r new
        → Takes f depth old (Err (passed_as r)) new
    object_passed (Ok x) none is t = (object t.0, in_object is ∙ ap (parse_map object) t.1, none t.0)
    object_passed (Err refusal.NotJson) none is t = in_object is ∙ ap (parse_map object) t
    object_passed (Err refusal.NoMemory) none is t = tt

-- nothing may nest where no depth is left
pub too_deep_array : (old mid : List Token) → old ≡ Token.begin_array ∷ mid → data_at 0 old ≡ None
too_deep_array old mid is = ap (data_at 0) is ∙ ap (converted of_json) (value_is 0 (Token.begin_array ∷ mid))

pub too_deep_object : (old mid : List Token) → old ≡ Token.begin_object ∷ mid → data_at 0 old ≡ None
too_deep_object old mid is = ap (data_at 0) is ∙ ap (converted of_json) (value_is 0 (Token.begin_object ∷ mid))

-- ---- another value

-- it is no list
pub each-scalar : {A : Type 0} (f : Data → Option A) (d : Data) → IsScalar d → each f d ≡ None
each-scalar f d h = ap (λ o. o >>= map_all f) h.0

-- ---- a whole text

module _ {A : Type 0} (f : Data → Option A) (text : List ℕ) where
  -- nothing follows the value
  pub text_over : (new : List Token) (r : Result A DecodeError) → new ≡ [] → Takes f 127 (tokens text) r new
      → OfText f text r
  text_over new (Ok x) over t =
      (t.0, whole_read (value 127 (tokens text)) t.0 (t.1 ∙ ap (λ ts. Some (t.0, ts)) over), t.2)
  text_over new (Err NotJson) over t = whole_refused (value 127 (tokens text)) t
  text_over new (Err BadForm) over t =
      (t.0, whole_read (value 127 (tokens text)) t.0 (t.1 ∙ ap (λ ts. Some (t.0, ts)) over), t.2)
  text_over new (Err NoMemory) over t = tt

-- something follows the value
pub text_and_more : (text : List ℕ) (d : Data) (new : List Token) (t : Token) (rest : List Token) → new ≡ t ∷ rest
    → data_at 127 (tokens text) ≡ Some (d, new) → read text ≡ None
text_and_more text d new t rest more e =
    whole_and_more (value 127 (tokens text)) d t rest (e ∙ ap (λ ts. Some (d, ts)) more)

-- ---- the object of a whole text

module _ (r : Rules) (text : List ℕ) (old new : List Token) (is : old ≡ tokens text) where
  as_text : (p : Option (Data × List Token)) → data_at 127 old ≡ p → data_at 127 (tokens text) ≡ p
  as_text p e = sym (ap (data_at 127) is) ∙ e

  pub object_over : (p : Kept) → new ≡ [] → TakesObject r old (Ok p) new → OfObject r text (Ok p)
  object_over p over t = (
    t.0,
    whole_read (value 127 (tokens text)) (object t.0) (as_text _ t.1 ∙ ap (λ ts. Some (object t.0, ts)) over),
    t.2,
  )

  pub other_over : new ≡ [] → TakesObject r old (Err BadForm) new → OfObject r text (Err BadForm)
  other_over over t =
      (t.0, whole_read (value 127 (tokens text)) t.0 (as_text _ t.1 ∙ ap (λ ts. Some (t.0, ts)) over), t.2)

  pub none_read : TakesObject r old (Err NotJson) new → OfObject r text (Err NotJson)
  none_read t = whole_refused (value 127 (tokens text)) (as_text _ t)

  pub not_over : (d : Data) (t : Token) (rest : List Token) → new ≡ t ∷ rest → data_at 127 old ≡ Some (d, new)
      → OfObject r text (Err NotJson)
  not_over d t rest more e = text_and_more text d new t rest more (as_text _ e)
