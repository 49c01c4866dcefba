-- There is room for the numbers of core modules and of bodies.
use Rattle.std.proofs.Common.{◌≡◌, ℕ, ◌<◌, ◌≤◌, ◌+◌, List, [], ◌∷◌, ◌++◌, length, Option, None, sym, ap, subst, arith}
use Rattle.std.specs.Prelude.{sum_by, Result, Ok, Err, OnOk}
use Rattle.std.proofs.lemmas.List.{length-append}
use Rattle.std.proofs.lemmas.List.Sums.{sum_by-cons}
use Rattle.pc_types.specs.declared.module_record.ModuleRecord.{ModuleRecord}
use Rattle.pc_types.specs.declared.parsed.TypeTable.{TypeTable}
use Rattle.pc_parsed.specs.declared.payload.AliasItem.{AliasItem}
use Rattle.pc_parsed.specs.declared.payload.Payload.{Payload}
use Rattle.pc_parsed.specs.declared.payload.Payload.TheVariants as payload
use Rattle.pc_parsed.specs.Program.{item_count}
use Rattle.pc_parsed.specs.StaticFault.{payloads_error}
use Rattle.pc_local.specs.declared.item.Translation.{Translation}
use Rattle.pc_local.specs.Captured.{AliasesGo, part}
use Rattle.pc_local.specs.Open
use Rattle.pc_local.specs.Open.{State}
use Rattle.pc_local.proofs.NextLemmas.{passed_next}
use Rattle.pc_local.proofs.PassLemmas.{Passed, passed_none}

-- the numbers that a payload takes are no more than it counts as
pub record Few (old new : State) (n : ℕ) : Type 0 where
  pub modules : length new.records ≤ length old.records + n
  pub components : length new.ended ≤ length old.ended + n

-- none are taken where the lists stay
few_same : (old new : State) (n : ℕ) → new.records ≡ old.records → new.ended ≡ old.ended → Few old new n
few_same old new n records ended =
    let many = ap (λ (l : List ModuleRecord). length l) records in
    let bodies = ap (λ (l : List Translation). length l) ended in
    record { modules = omega (arith, many); components = omega (arith, bodies) }

-- the end of a body takes one
few_ended : (old new : State) → Open.Ends old new → Few old new 1
few_ended old new (Open.ends_root none is) =
    few_same old new 1 (ap (λ (s : State). s.records) is) (ap (λ (s : State). s.ended) is)
few_ended old new (Open.ends_modules none records ended) = few_same old new 1 records ended
few_ended old new (Open.ends_components none records ended) = few_same old new 1 records ended
few_ended old new (Open.ends_inner outer m c around modules components closes) =
    let many = ap (λ (l : List ModuleRecord). length l) closes.records in
    let bodies = ap (λ (l : List Translation). length l) closes.ended in
    let longer : length (old.ended ++ old.body ∷ []) ≡ length old.ended + 1 =
    length-append old.ended (old.body ∷ []) in
    record { modules = omega (arith, many); components = omega (arith, bodies, longer) }

-- a payload takes no more than it counts as
pub goes_few : (x : Option (List ℕ)) (p : Payload) (old new : State) → Open.Goes x old p new
    → Few old new (item_count p)
goes_few x (payload.Version e) old new is =
    few_same old new 1 (ap (λ (s : State). s.records) is) (ap (λ (s : State). s.ended) is)
goes_few x payload.CoreTypeSection old new is =
    few_same old new 1 (ap (λ (s : State). s.records) is) (ap (λ (s : State). s.ended) is)
goes_few x payload.CustomSection old new is =
    few_same old new 1 (ap (λ (s : State). s.records) is) (ap (λ (s : State). s.ended) is)
goes_few x payload.ComponentStartSection old new is =
    few_same old new 1 (ap (λ (s : State). s.records) is) (ap (λ (s : State). s.ended) is)
goes_few x payload.ComponentSection old new is =
    few_same old new 1 (ap (λ (s : State). s.records) is) (ap (λ (s : State). s.ended) is)
goes_few x payload.End old new ends = few_ended old new ends
goes_few x (payload.ModuleSection r ty) old new is =
    let many = ap (λ (s : State). length s.records) is in
    let bodies = ap (λ (s : State). length s.ended) is in
    let longer : length (old.records ++ r ∷ []) ≡ length old.records + 1 = length-append old.records (r ∷ []) in
    record { modules = omega (arith, many, longer); components = omega (arith, bodies) }
goes_few x (payload.ComponentTypeSection es) old new is =
    few_same old new (length es) (ap (λ (s : State). s.records) is) (ap (λ (s : State). s.ended) is)
goes_few x (payload.ComponentImportSection es) old new is =
    few_same old new (length es) (ap (λ (s : State). s.records) is) (ap (λ (s : State). s.ended) is)
goes_few x (payload.ComponentCanonicalSection es) old new is =
    few_same old new (length es) (ap (λ (s : State). s.records) is) (ap (λ (s : State). s.ended) is)
goes_few x (payload.InstanceSection es) old new is =
    few_same old new (length es) (ap (λ (s : State). s.records) is) (ap (λ (s : State). s.ended) is)
goes_few x (payload.ComponentInstanceSection es) old new is =
    few_same old new (length es) (ap (λ (s : State). s.records) is) (ap (λ (s : State). s.ended) is)
goes_few x (payload.ComponentExportSection es) old new is =
    few_same old new (length es) (ap (λ (s : State). s.records) is) (ap (λ (s : State). s.ended) is)
goes_few x (payload.ComponentAliasSection es) old new a = few_same old new (length es) a.records a.ended

-- how far a list has been collected
pub record Collected (x : Option (List ℕ)) (ps rest : List Payload) (s : State) : Type 0 where
  pub passed : (t : TypeTable) → payloads_error t x [] ps ≡ None → Passed t x ps rest s
  pub modules : length s.records + sum_by item_count rest ≤ sum_by item_count ps
  pub components : length s.ended + sum_by item_count rest ≤ sum_by item_count ps

-- nothing is collected
pub collected_none : (x : Option (List ℕ)) (ps : List Payload) → Collected x ps ps Open.first_state
collected_none x ps = record {
  passed = λ t sound. passed_none t x ps sound;
  modules = omega arith;
  components = omega arith;
}

-- there is room for the next
pub collected_room : (x : Option (List ℕ)) (ps : List Payload) (p : Payload) (rest : List Payload) (s : State)
    → sum_by item_count ps < 4294967295 → Collected x ps (p ∷ rest) s
    → (length s.records < 4294967295) × (length s.ended < 4294967295)
collected_room x ps p rest s few h =
    let modules = h.modules in
    let components = h.components in
    (omega (arith, few, modules), omega (arith, few, components))

-- one payload further
pub collected_next : (x : Option (List ℕ)) (ps : List Payload) (p : Payload) (rest : List Payload) (s new : State)
    → Open.Goes x s p new → Collected x ps (p ∷ rest) s → Collected x ps rest new
collected_next x ps p rest s new goes h =
    let sum : sum_by item_count (p ∷ rest) ≡ item_count p + sum_by item_count rest = sum_by-cons item_count p rest in
    let few = goes_few x p s new goes in
    let taken = few.modules in
    let bodies = few.components in
    let modules = h.modules in
    let components = h.components in
    record {
      passed = λ t sound. passed_next t x ps p rest s new (h.passed t sound) goes;
      modules = omega (arith, sum, taken, modules);
      components = omega (arith, sum, bodies, components);
    }

-- an alias section has been gone through
pub section_aliased : (x : Option (List ℕ)) (p : Payload) (es read : List AliasItem) (old new : State)
    → p ≡ payload.ComponentAliasSection es → read ≡ es
    → AliasesGo read (part old.body.initializers old.modules old.components)
    (part new.body.initializers new.modules new.components)
    → new.body.exports ≡ old.body.exports → new.around ≡ old.around → new.records ≡ old.records
    → new.ended ≡ old.ended → Open.Goes x old p new
section_aliased x p es read old new is are goes exports around records ended =
    subst (λ (q : Payload). Open.Goes x old q new) (sym is) (record {
      aliases =
          subst (λ (l : List AliasItem). AliasesGo l (part old.body.initializers old.modules old.components)
          (part new.body.initializers new.modules new.components)) are goes;
      exports = exports;
      around = around;
      records = records;
      ended = ended;
    })

-- what four clauses of a call say of its good answer, together
pub all_ok : {T E A B C D P : Type 0} (r : Result T E) → (A → B → C → D → P) → OnOk r A → OnOk r B → OnOk r C
    → OnOk r D → OnOk r P
all_ok (Ok x) f a b c d = f a b c d
all_ok (Err e) f a b c d = a
