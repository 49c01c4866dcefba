-- Bytes that stand for a valid input aren't refused.
use Rattle.std.proofs.Common.{◌≡◌, ◌≢◌, inl, inr, ℕ, List, Option, Some, None, Result, Ok, Err, ap, subst}
use Rattle.serde_json.specs.Data.{Data}
use Rattle.pc_types.specs.declared.error.Error.{Error}
use Rattle.pc_types.specs.declared.error.Error.TheVariants as error
use Rattle.pc_input.specs.declared.input.Input.{Input}
use Rattle.pc_input.specs.Input.{input_of, tree_of}
use Rattle.pc_input_values.specs.Tree.{◌>>=◌}
use Rattle.pc_spec_reading.specs.Reading.{Reading}
use Rattle.pc_translate.specs.Translation.{IsRefusalOf}
use Rattle.pc_tool.specs.Headline.{Decodes, IsBadForm, IsErrorOf, IsFaultText, IsNotJson, IsValidInput}

-- a reading that ends at its first step or at its second has no value
module _ {I : Type 0} (f : Data → Option I) where
  no_tree : (t : Option Data) (i : I) → t ≡ None → (t >>= f) ≡ Some i → ⊥
  no_tree None i is e = cc e
  no_tree (Some d) i is e = cc is

  no_input : (t : Option Data) (d : Data) (i : I) → t ≡ Some d → f d ≡ None → (t >>= f) ≡ Some i → ⊥
  no_input None d i is none e = cc is
  no_input (Some x) d i is none e = let same : x ≡ d = cc is in cc (ap f same, none, e)

-- bytes stand for one input
one_input : (o : Option Input) (i j : Input) → o ≡ Some i → o ≡ Some j → i ≡ j
one_input o i j a b = cc (a, b)

-- one answer is no reading and an error
pub not_both : (o : Option (Result Reading Error)) (r : Reading) (e : Error) → o ≡ Some (Ok r) → o ≡ Some (Err e) → ⊥
not_both o r e a b = cc (a, b)

-- a valid input has no error but want of memory
valid_has_none : (input : Input) → IsValidInput input → (e : Error) → e ≢ error.NoMemory → IsErrorOf input e → ⊥
unfolding IsRefusalOf
valid_has_none input v e other (inl memory) = other memory
valid_has_none input v e other (inr answered) = not_both _ v.reading e v.answer answered

-- no text says of bytes that stand for a valid input why they have no plan
pub valid_has_no_fault : (bytes text : List ℕ) (input : Input) → Decodes bytes input → IsValidInput input
    → IsFaultText bytes text → ⊥
unfolding Decodes IsNotJson IsBadForm
valid_has_no_fault bytes text input decoded valid (inl json) =
    no_tree input_of (tree_of bytes) input json.0 decoded
valid_has_no_fault bytes text input decoded valid (inr (inl bad)) =
    no_input input_of (tree_of bytes) bad.0.0 input bad.0.1 bad.0.2 decoded
valid_has_no_fault bytes text input decoded valid (inr (inr at)) =
    let same : at.input ≡ input = one_input _ at.input input at.decoded decoded in
    valid_has_none input valid at.refusal at.has_text
    (subst (λ (i : Input). IsErrorOf i at.refusal) same at.cause)
