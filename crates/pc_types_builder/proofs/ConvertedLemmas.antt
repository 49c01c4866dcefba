-- What was converted where nothing was.
use Rattle.std.proofs.Common.{◌≡◌, ◌∙◌, ℕ, zero, suc, [], length, Option, Some, None, inl, refl, replicate, sym}
use Rattle.std.specs.Prelude.{slice_get}
use Rattle.std.proofs.lemmas.List.{length-replicate}
use Rattle.std.proofs.lemmas.Option.{none-some, same_Some}
use Rattle.pc_types.specs.declared.parsed.TypeTable.{TypeTable}
use Rattle.pc_types_lists.specs.Types.{Types}
use Rattle.pc_types_convert.specs.Plain.{none_done}
use Rattle.pc_types_builder.specs.Converted.{AreConverted, AreTyped}

-- no type stands there
none_stands : {A : Type 0} (n k : ℕ) (d : A) → slice_get (replicate {A = Option A} n None) k ≡ Some (Some d) → ⊥
none_stands zero k d h = none-some (Some d) h
none_stands (suc n) zero d h = none-some d (same_Some None (Some d) h)
none_stands (suc n) (suc k) d h = none_stands n k d h

-- where no entry has a type, nothing is to be shown but that there is a place for each
none_typed : (b : Types) (t : TypeTable) → AreTyped b t (replicate (length t.types) None)
none_typed b t = record {
  room = length-replicate (length t.types) None;
  kinds = λ n d e found at. absurd (none_stands (length t.types) n d found);
  entries = λ n d found. absurd (none_stands (length t.types) n d found);
}

-- so it is with all lists
pub none_converted : (b : Types) (t : TypeTable) → AreConverted b t (none_done (length t.types))
none_converted b t = record {
  all = none_typed b t;
  plain = none_typed b t;
  same = record {
    form = λ n e done at. absurd (none_stands (length t.types) n done.0 done.1);
    closed = λ n e done at. absurd (none_stands (length t.types) n done.0 done.1);
  };
  layered = record {
    own_room = refl;
    users_room = length-replicate (length t.types) [] ∙ sym (length-replicate (length t.types) None);
    front = λ n d found. found;
    either = λ n d found. inl found;
  };
  noted = record { noted = λ k p e done at among. absurd (none_stands (length t.types) k done.0 done.1) };
  like = record { each = λ n d e found at. absurd (none_stands (length t.types) n d found) };
}
