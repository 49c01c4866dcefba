-- A log whose entries are confined is confined.
use Rattle.std.proofs.Common.{◌≡◌, ℕ, List, [], ◌∷◌, Option, None, Some, subst}
use Rattle.std.specs.Prelude.{All, option_map}
use Rattle.std.proofs.lemmas.List.Elements.{All-cons, All-contains, All-head, All-nil, All-tail}
use Rattle.std.proofs.lemmas.Option.{none-some, same_Some}
use Rattle.pc_types.specs.declared.module_record.ModuleRecord.{ModuleRecord}
use Rattle.pc_types.specs.declared.parsed.TypeTable.{TypeTable}
use Rattle.pc_spec_plan.specs.CoreValue.{adapter}
use Rattle.pc_spec_plan.specs.Log.{Entry, Owned, declared, declared_resource, instances_of, instantiated, made}
use Rattle.pc_spec_plan.specs.Log.{needed}
use Rattle.pc_parsed.specs.declared.payload.Payload.{Payload}
use Rattle.pc_parsed.specs.Mark.{Mark}
use Rattle.pc_spec_reading.specs.Item.{Items}
use Rattle.pc_spec_reading.specs.Nest.{root_of}
use Rattle.pc_spec_reading.specs.Outcome.{Outcome, done}
use Rattle.pc_spec_reading.specs.Reading.{Reading, reading, reading_of}
use Rattle.pc_spec_reading.specs.Section.{modules_of}
use Rattle.pc_spec_wiring.specs.Confined.{Belongs, IsConfined}
use Rattle.pc_spec_wiring.specs.Held.{arguments_of}
use Rattle.pc_confined.proofs.ReadLemmas.{reading_confined}
use Rattle.pc_confined.proofs.Sound.{AreConfined, IsConfinedEntry}
use Rattle.pc_confined.proofs.Steps.{IfDone}

module _ (log : List (Entry Mark)) where
  -- what a core instance is given belongs to the component instance that it is made for
  abbrev IsConfinedOwned : Owned Mark → Type 0
  IsConfinedOwned o = All (Belongs log o.component_instance) (arguments_of o.instantiation)

  owned_confined : (es : List (Entry Mark)) → All (IsConfinedEntry log) es
      → All IsConfinedOwned (instances_of es)
  owned_confined [] h = All-nil IsConfinedOwned
  owned_confined (e ∷ es) h =
      by e (All-head (IsConfinedEntry log) e es h) (owned_confined es (All-tail (IsConfinedEntry log) e es h))
    where
      by : (e : Entry Mark) → IsConfinedEntry log e → All IsConfinedOwned (instances_of es)
          → All IsConfinedOwned (instances_of (e ∷ es))
      by (instantiated i c) one rest = All-cons IsConfinedOwned _ (instances_of es) one rest
      by (declared_resource r d c) one rest = rest
      by (declared v) one rest = rest
      by (made v) one rest = rest
      by (needed p) one rest = rest

  -- a log whose entries are confined is
  confined : AreConfined log → IsConfined log
  confined h = record {
    arguments = λ o at. All-contains IsConfinedOwned (instances_of log) o (owned_confined log h) at;
    destructors = λ r d c at. All-contains (IsConfinedEntry log) log (declared_resource r d c) h at;
    callees = λ t u lift lower callee at.
        All-contains (IsConfinedEntry log) log (made (adapter t lift u lower callee)) h at;
  }

-- so is that of a reading that is done
pub of_body : (t : TypeTable) (ms : List ModuleRecord) (limit : ℕ) (counted : Option ℕ) (body : Items)
    (r : Reading) → reading_of t ms limit counted body ≡ done r → IsConfined r.log
of_body t ms limit counted body r is =
    confined r.log
    (subst (λ (o : Outcome Reading). IfDone o (λ (r : Reading). AreConfined r.log)) is
    (reading_confined t ms limit counted body))

-- and that of a list of payloads
pub of_list : (t : TypeTable) (exposed : Option (List ℕ)) (limit : ℕ) (counted : Option ℕ) (ps : List Payload)
    (r : Reading) → reading t exposed limit counted ps ≡ Some (done r) → IsConfined r.log
unfolding reading
of_list t exposed limit counted ps r = by (root_of exposed ps)
  where
    by : (o : Option Items) → option_map (reading_of t (modules_of ps) limit counted) o ≡ Some (done r)
        → IsConfined r.log
    by None is = absurd (none-some (done r) is)
    by (Some body) is =
        of_body t (modules_of ps) limit counted body r
        (same_Some (reading_of t (modules_of ps) limit counted body) (done r) is)
