-- The total before the first item, and that everything has a number where it isn't full.
use Rattle.std.proofs.Common.{◌≡◌, ℕ, Bool, true, ◌&&◌, ◌+◌, ◌-◌, ◌<◌, List, [], ◌∷◌, length, Option, None, Some}
use Rattle.std.proofs.Common.{refl, sym, ◌∙◌, arith}
use Rattle.std.specs.Prelude.{nat_lt, sum_by}
use Rattle.std.specs.List.{cons_option}
use Rattle.std.proofs.lemmas.List.Sums.{sum_by-cons}
use Rattle.pc_types.specs.declared.module_record.ModuleRecord.{ModuleRecord}
use Rattle.pc_types.specs.declared.parsed.TypeTable.{TypeTable}
use Rattle.pc_parsed.specs.declared.payload.Payload.{Payload}
use Rattle.pc_parsed.specs.declared.payload.Payload.TheVariants as payload
use Rattle.pc_parsed.specs.Program.{entity_total, is_numbered, item_count, record_entities}
use Rattle.pc_spec_reading.specs.Section.{module_of, modules_of}
use Rattle.pc_spec_reading.specs.Total.{counted}
use Rattle.pc_weights.specs.Capped.{capped}

-- how many entities a core module has, if there is one
abbrev entities_if : Option ModuleRecord → ℕ
entities_if None = 0
entities_if (Some r) = record_entities r

-- those of a payload
entities_of_payload : (p : Payload) → entities_if (module_of p) ≡ entity_total p
entities_of_payload (payload.Version e) = refl
entities_of_payload payload.CoreTypeSection = refl
entities_of_payload payload.CustomSection = refl
entities_of_payload payload.ComponentStartSection = refl
entities_of_payload payload.ComponentSection = refl
entities_of_payload payload.End = refl
entities_of_payload (payload.ComponentTypeSection es) = refl
entities_of_payload (payload.ComponentImportSection es) = refl
entities_of_payload (payload.ComponentCanonicalSection es) = refl
entities_of_payload (payload.ModuleSection r ty) = refl
entities_of_payload (payload.InstanceSection es) = refl
entities_of_payload (payload.ComponentInstanceSection es) = refl
entities_of_payload (payload.ComponentExportSection es) = refl
entities_of_payload (payload.ComponentAliasSection es) = refl

-- those of a core module that may stand in front
entities_in_front : (o : Option ModuleRecord) (rs : List ModuleRecord)
    → sum_by record_entities (cons_option o rs) ≡ entities_if o + sum_by record_entities rs
entities_in_front None rs = omega arith
entities_in_front (Some r) rs = sum_by-cons record_entities r rs

-- the entities of the core modules of a list are those of its payloads
entities_of_modules : (ps : List Payload) → sum_by record_entities (modules_of ps) ≡ sum_by entity_total ps
entities_of_modules [] = refl
entities_of_modules (p ∷ ps) =
    entities_in_front (module_of p) (modules_of ps)
    ∙ (λ i. entities_of_payload p i + entities_of_modules ps i)
    ∙ sym (sum_by-cons entity_total p ps)

-- what is left of the room below the number that a total may not reach is what the total leaves of it
pub counted_left : (t : TypeTable) (held : ℕ) (ps : List Payload) (room left : ℕ)
    → room ≡ 4294967295 - length t.core_funcs - length t.types - held
    → left ≡ room - (sum_by item_count ps + sum_by entity_total ps)
    → 4294967295 - left ≡ capped (counted t held ps)
unfolding counted
counted_left t held ps room left is rest =
    let modules = entities_of_modules ps in
    omega (arith, modules, is, rest)

-- a number below another passes the test
below : (a b : ℕ) → a < b → nat_lt a b ≡ true
below a b less = grind arith

-- four tests that hold
all_hold : (a b c d : Bool) → a ≡ true → b ≡ true → c ≡ true → d ≡ true → (a && b && c && d) ≡ true
all_hold a b c d p q r s = (λ i. p i && q i && r i && s i)

-- where the total isn't full, the input can be numbered
pub counted_numbered : (t : TypeTable) (held : ℕ) (ps : List Payload) (n : ℕ) → n ≡ capped (counted t held ps)
    → n < 4294967295 → is_numbered t ps ≡ true
unfolding counted
counted_numbered t held ps n is few =
    let modules = entities_of_modules ps in
    let funcs : length t.core_funcs < 4294967295 = omega (arith, modules, is, few) in
    let types : length t.types < 4294967295 = omega (arith, modules, is, few) in
    let entities : sum_by entity_total ps < 4294967295 = omega (arith, modules, is, few) in
    let items : sum_by item_count ps < 4294967295 = omega (arith, modules, is, few) in
    all_hold _ _ _ _ (below (length t.core_funcs) 4294967295 funcs) (below (length t.types) 4294967295 types)
    (below (sum_by entity_total ps) 4294967295 entities) (below (sum_by item_count ps) 4294967295 items)
