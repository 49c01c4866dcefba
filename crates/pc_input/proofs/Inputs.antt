-- The tree of bytes, from what JSON's reader promises.
use Rattle.std.proofs.Common.{◌≡◌, ℕ, Bool, true, false, List, Some, None, Result, Ok, Err, if◌then◌else◌, refl, ap}
use Rattle.std.proofs.Common.{◌∙◌}
use Rattle.std.proofs.Common.{sym, subst}
use Rattle.std.specs.Prelude.{Option, IfOk, IfErr, codes}
use Rattle.std.specs.Str.{IsUtf8, is_utf8}
use Rattle.std.proofs.lemmas.Str.{IsUtf8-from_is_utf8, is_utf8-from_IsUtf8}
use Rattle.serde_json.specs.Data.{Data}
use Rattle.serde_json.specs.Read.{read}
use Rattle.pc_input_values.specs.declared.error.DecodeError.{DecodeError}
use Rattle.pc_input_values.specs.declared.error.DecodeError.TheVariants as error
use Rattle.pc_input_values.specs.Tree.{◌>>=◌, whole, or_null, each, field}
use Rattle.pc_input_values.specs.Reads.{Reads}
use Rattle.pc_input_values.specs.Rules.{Rules}
use Rattle.pc_input_values.specs.Types.{type_table}
use Rattle.pc_parsed.specs.declared.payload.Payload.{Payload}
use Rattle.pc_input.specs.Payload.{payload_of}
use Rattle.pc_input.specs.declared.input.Input.{Input}
use Rattle.pc_input.specs.Input.{input_from, input_of, input_in, tree_of, HasCause}
use Rattle.pc_input.specs.Root.{input_with}
use Rattle.pc_input.specs.Takes.{OfText}

-- text that is read has the tree
pub tree_of-read : (bytes : List ℕ) (d : Data) → IsUtf8 bytes → read bytes ≡ Some d → tree_of bytes ≡ Some d
tree_of-read bytes d text is = rw (is_utf8-from_IsUtf8 bytes text) is

-- bytes that are not read as text have none
pub tree_of-refused : (bytes : List ℕ) → (IsUtf8 bytes → read bytes ≡ None) → tree_of bytes ≡ None
tree_of-refused bytes refused = by (is_utf8 bytes) refl
  where
    by : (b : Bool) → is_utf8 bytes ≡ b → (if b then read bytes else None) ≡ None
    by true e = refused (IsUtf8-from_is_utf8 bytes e)
    by false e = refl

-- ---- what the members say, from the payloads

nothing : {A B C D : Type 0} (a : Option A) (b : Option B) (c : Option C)
    → ◌≡◌ {A = Option D} (a >>= λ x. (b >>= λ y. (c >>= λ z. None))) None
nothing None b c = refl
nothing (Some x) None c = refl
nothing (Some x) (Some y) None = refl
nothing (Some x) (Some y) (Some z) = refl

module _ (r : Rules) (d : Data) where
  abbrev pub payloads : Option (List Payload)
  payloads = field (codes "payloads") (each (payload_of r)) d

  -- payloads of a bad form leave no input
  pub no_payloads : (e : DecodeError) → Reads {A = List Payload} (Err e) payloads
      → Reads {A = Input} (Err e) (input_from r d)
  no_payloads error.NotJson h = h
  no_payloads error.BadForm h =
      ap (input_with r d) h
      ∙ nothing (field (codes "limit") whole d) (field (codes "intrinsics") (or_null r.name) d)
      (field (codes "types") (type_table r) d)
  no_payloads error.NoMemory h = tt

  -- the others are read with them
  pub with_payloads : (read : List Payload) (result : Result Input DecodeError) → payloads ≡ Some read
      → Reads result (input_with r d (Some read)) → Reads result (input_from r d)
  with_payloads read result is h = subst (λ o. Reads result (input_with r d o)) (sym is) h

-- ---- the input of bytes, from that of the text that they are

module _ (bytes text : List ℕ) (same : text ≡ bytes) (utf8 : IsUtf8 bytes) where
  tree_is : (d : Data) → read text ≡ Some d → tree_of bytes ≡ Some d
  tree_is d is = tree_of-read bytes d utf8 (subst (λ s. read s ≡ Some d) same is)

  pub text-ok : (r : Result Input DecodeError) → OfText input_of text r
      → IfOk r (λ input. input_in bytes ≡ Some input)
  text-ok (Ok x) t = ap (λ o. o >>= input_of) (tree_is t.0 t.1) ∙ t.2
  text-ok (Err e) t = tt

  pub text-err : (r : Result Input DecodeError) → OfText input_of text r → IfErr r (HasCause bytes)
  text-err (Ok x) t = tt
  text-err (Err error.NotJson) t = tree_of-refused bytes (λ u. subst (λ s. read s ≡ None) same t)
  text-err (Err error.BadForm) t = (t.0, tree_is t.0 t.1, t.2)
  text-err (Err error.NoMemory) t = tt
