-- How far a list of payloads has been passed without a fault.
use Rattle.std.proofs.Common.{◌≡◌, ℕ, ◌+◌, suc, add-one, Bool, true, List, [], ◌∷◌, drop, length, Option, Some, None}
use Rattle.std.proofs.Common.{refl, sym, ap, ◌∙◌}
use Rattle.std.specs.Prelude.{nat_eq}
use Rattle.pc_types.specs.declared.error.Error.{Error}
use Rattle.pc_types.specs.declared.error.Place.TheVariants as place
use Rattle.pc_types.specs.declared.parsed.TypeTable.{TypeTable}
use Rattle.pc_parsed.specs.declared.bodies.Names.{Names}
use Rattle.pc_parsed.specs.declared.fault.StaticFault.{StaticFault}
use Rattle.pc_parsed.specs.declared.payload.Payload.{Payload}
use Rattle.pc_parsed.specs.Names.{Stands, fresh_names}
use Rattle.pc_parsed.specs.StaticFault.{around, end_error, error_or, fault_error, payload_fault, payloads_error}
use Rattle.pc_parsed.specs.Structure.{is_due, is_opening, nesting, open_bodies}
use Rattle.pc_parsed.proofs.StandLemmas.{stands_empty, stands_first}

-- so many payloads have been passed without a fault: what is wrong is what is wrong with those that follow
pub record Passed (t : TypeTable) (exposed : Option (List ℕ)) (ps : List Payload) (n : ℕ) (due : Bool)
    (components : List Names) : Type 0 where
  pub before : List Payload
  pub many : length before ≡ n
  pub is_due_now : due ≡ is_due before
  pub stands : Stands components before
  pub left : payloads_error t exposed before (drop n ps) ≡ payloads_error t exposed [] ps

-- nothing is left of a list without all of it
drop_all : (ps : List Payload) → drop (length ps) ps ≡ []
drop_all [] = refl
drop_all (p ∷ ps) = drop_all ps

module _ (t : TypeTable) (exposed : Option (List ℕ)) (ps : List Payload) where
  -- nothing has been passed
  pub passed_none : Passed t exposed ps 0 true (fresh_names ∷ [])
  passed_none = record { before = []; many = refl; is_due_now = refl; stands = stands_first; left = refl }

  module _ (n : ℕ) (p : Payload) (due : Bool) (components : List Names) (at : drop n ps ≡ p ∷ drop (n + 1) ps)
      (passed : Passed t exposed ps n due components) (found : Option (ℕ × StaticFault))
      (is_fault : (before : List Payload) → Stands components before
      → found ≡ payload_fault t exposed due (around before) p) where
    -- what is wrong with a payload, as it stands behind those that were passed
    fault_here : found ≡ payload_fault t exposed (is_due passed.before) (around passed.before) p
    fault_here =
        is_fault passed.before passed.stands
        ∙ ap (λ (d : Bool). payload_fault t exposed d (around passed.before) p) passed.is_due_now

    -- what is wrong behind this payload
    abbrev behind : Option Error
    behind = payloads_error t exposed (p ∷ passed.before) (drop (n + 1) ps)

    -- what follows is the fault of this payload, or else what is wrong behind it
    split : error_or (length passed.before) found behind ≡ payloads_error t exposed [] ps
    split =
        ap (λ f. error_or (length passed.before) f behind) fault_here
        ∙ ap (payloads_error t exposed passed.before) (sym at) ∙ passed.left

    -- a fault that was found is the first
    pub passed_fault : (item : ℕ) (f : StaticFault) → found ≡ Some (item, f)
        → Some (fault_error f (place.Payload n item)) ≡ payloads_error t exposed [] ps
    passed_fault item f is = (λ i. error_or (sym passed.many i) (sym is i) behind) ∙ split

    -- one payload further
    pub passed_next : (new : List Names) → found ≡ None
        → ((before : List Payload) → Stands components before → Stands new (p ∷ before))
        → Passed t exposed ps (n + 1) (is_opening (nesting p)) new
    passed_next new none next = record {
      before = p ∷ passed.before;
      many = ap suc passed.many ∙ sym (add-one n);
      is_due_now = refl;
      stands = next passed.before passed.stands;
      left = (λ i. error_or (length passed.before) (sym none i) behind) ∙ split;
    }

  -- the end of the list
  pub passed_all : (n : ℕ) (due : Bool) (components : List Names) (e : Option Error) → n ≡ length ps
      → Passed t exposed ps n due components
      → ((k : ℕ) → nat_eq k 0 ≡ nat_eq (length components) 0 → e ≡ end_error k (length ps))
      → e ≡ payloads_error t exposed [] ps
  passed_all n due components e all passed ends =
      ends (open_bodies passed.before) (stands_empty components passed.before passed.stands)
      ∙ (λ i. end_error (open_bodies passed.before) (sym (passed.many ∙ all) i))
      ∙ ap (payloads_error t exposed passed.before) (sym (ap (λ k. drop k ps) all ∙ drop_all ps)) ∙ passed.left
