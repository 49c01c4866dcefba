-- The component instances that the entries of a log and the exports of the root make opaque, as lists.
use Rattle.std.proofs.Common.{◌≡◌, ◌⊎◌, ℕ, Bool, true, false, ◌||◌, List, [], ◌∷◌, ◌++◌, inl, inr, Some, refl, sym, ap}
use Rattle.std.proofs.Common.{subst}
use Rattle.std.proofs.Common.{◌∙◌, true≢false}
use Rattle.std.specs.List.{Contains, flat_map, list_any}
use Rattle.std.proofs.lemmas.List.Elements.{Contains-append_cases, Contains-append_left, Contains-append_right}
use Rattle.std.proofs.lemmas.Option.{none-some, same_Some}
use Rattle.pc_types.specs.declared.parsed.WasmValType.{WasmValType}
use Rattle.pc_spec_plan.specs.CoreValue as value
use Rattle.pc_spec_plan.specs.CoreValue.{CoreValue, MaybeValue, Options}
use Rattle.pc_spec_plan.specs.ExportNode.{NamedNode}
use Rattle.pc_spec_plan.specs.Log.{Entry, Owned, declared, declared_resource, instantiated, made, needed}
use Rattle.pc_spec_plan.specs.Log.{owned_of}
use Rattle.pc_parsed.specs.Mark.{Mark}
use Rattle.pc_spec_wiring.specs.FunctionTypes.{is_async_type}
use Rattle.pc_spec_wiring.specs.Held.{arguments_of, instance_of, lifted_in, lifts_of, maybe_list, options_list}
use Rattle.pc_spec_wiring.specs.Opaque.{IsOpaqueIn, IsUsedIn, as_argument, as_destructor, as_export, as_lifted}
use Rattle.pc_spec_wiring.specs.Opaque.{as_lower_option, declares_builtin, is_context_value, lowers_async, lowers_host}
use Rattle.pc_spec_wiring.specs.Opaque.{uses_context}
use Rattle.pc_analysis_transparent.specs.Opened.{when}
use Rattle.pc_analysis_reads.proofs.ContextLemmas.{any_context}
use Rattle.pc_analysis_reads.proofs.ListLemmas.{first_or_later, given_from, given_of, here_in, later_in, made_from}
use Rattle.pc_analysis_reads.proofs.ListLemmas.{made_of}
use Rattle.pc_analysis_reads.proofs.ListLemmas.{none_in, one_in}

-- where a number stands only if something holds, it holds
pub when_in : (b : Bool) (n c : ℕ) → Contains (when b n) c → (b ≡ true) × (n ≡ c)
when_in true n c inside = (refl, one_in n c inside)
when_in false n c inside = absurd (none_in c inside)

pub when_there : (b : Bool) (n c : ℕ) → b ≡ true → n ≡ c → Contains (when b n) c
when_there true n c holds is = subst (Contains (n ∷ [])) is (here_in n [])
when_there false n c holds is = absurd (true≢false (sym holds))

or_cases : (a b : Bool) → (a || b) ≡ true → (a ≡ true) ⊎ (b ≡ true)
or_cases true b h = inl refl
or_cases false b h = inr h

or_left : (a b : Bool) → a ≡ true → (a || b) ≡ true
or_left true b h = refl
or_left false b h = absurd (true≢false (sym h))

or_right : (a b : Bool) → b ≡ true → (a || b) ≡ true
or_right true b h = refl
or_right false b h = h

-- where a list uses the slots of a context, a value of it does
user_of : {τ : Type 0} (vs : List (CoreValue τ)) → any_context vs ≡ true
    → (v : CoreValue τ) × Contains vs v × (is_context_value v ≡ true)
unfolding any_context
user_of [] uses = absurd (true≢false (sym uses))
user_of (v ∷ vs) uses = elim (or_cases (is_context_value v) (list_any is_context_value vs) uses) [
  | inl is ↦ (v, here_in v vs, is)
  | inr rest ↦ let of = user_of vs rest in (of.0, later_in v of.0 vs of.1, of.2)
]

used_by : {τ : Type 0} (vs : List (CoreValue τ)) (v : CoreValue τ) → Contains vs v → is_context_value v ≡ true
    → any_context vs ≡ true
unfolding any_context
used_by [] v inside is = absurd (none_in v inside)
used_by (w ∷ vs) v inside is =
    elim (first_or_later w v vs inside) as (λ _. (is_context_value w || list_any is_context_value vs) ≡ true) [
      | inl same ↦ or_left (is_context_value w) (list_any is_context_value vs) (ap is_context_value same ∙ is)
      | inr later ↦
          or_right (is_context_value w) (list_any is_context_value vs) (used_by vs v later is)
    ]

-- that of a host lowering or a builtin
abbrev pub in_declared : {τ : Type 0} → CoreValue τ → List ℕ
in_declared (value.lowered path ty o) = instance_of o ∷ []
in_declared (value.builtin k c ps) = c ∷ []
in_declared v = []

-- that of a core instance or a resource
abbrev pub in_effect : {τ : Type 0} → Entry τ → List ℕ
in_effect (instantiated i c) = when (any_context (arguments_of i)) c
in_effect (declared_resource r d c) = when (any_context (maybe_list d)) c
in_effect (declared v) = []
in_effect (made v) = []
in_effect (needed path) = []

-- those of an adapter: where it is lowered, and where it is lifted
abbrev pub in_made : CoreValue Mark → List ℕ
in_made (value.adapter t lift u lower callee) =
    when (is_async_type t || any_context (options_list lower)) (instance_of lower)
    ++ when (any_context (lifts_of lift callee)) (instance_of lift)
in_made v = []

-- those of an entry
abbrev pub by_entry : Entry Mark → List ℕ
by_entry (instantiated i c) = in_effect (instantiated i c)
by_entry (declared_resource r d c) = in_effect (declared_resource r d c)
by_entry (declared v) = in_declared v
by_entry (made v) = in_made v
by_entry (needed path) = []

-- that of a function that is lifted
abbrev pub by_lifted : {τ : Type 0} → CoreValue τ × Options τ → List ℕ
by_lifted (f, o) = when (any_context (lifts_of o f)) (instance_of o)

-- those of an export
abbrev pub by_node : {τ : Type 0} → NamedNode τ → List ℕ
by_node n = flat_map by_lifted (lifted_in n.node)

module _ (log : List (Entry Mark)) (nodes : List (NamedNode Mark)) where
  abbrev pub of_entries : List ℕ
  of_entries = flat_map by_entry log

  abbrev pub of_nodes : List ℕ
  of_nodes = flat_map by_node nodes

  -- what is declared makes its instance opaque
  by_declared : (v : CoreValue Mark) (c : ℕ) → Contains log (declared v) → Contains (in_declared v) c
      → IsOpaqueIn log nodes c
  by_declared (value.lowered path ty o) c there inside = lowers_host there (one_in (instance_of o) c inside)
  by_declared (value.builtin k n ps) c there inside =
      declares_builtin
      (subst (λ j. Contains log (declared (value.builtin k j ps))) (one_in n c inside) there)
  by_declared (value.exported n item) c there inside = absurd (none_in c inside)
  by_declared (value.intrinsic n) c there inside = absurd (none_in c inside)
  by_declared (value.adapter t lift u lower callee) c there inside = absurd (none_in c inside)
  by_declared (value.flags n) c there inside = absurd (none_in c inside)
  by_declared (value.helper k ps) c there inside = absurd (none_in c inside)

  -- so does an adapter
  by_made : (v : CoreValue Mark) (c : ℕ) → Contains log (made v) → Contains (in_made v) c
      → IsOpaqueIn log nodes c
  by_made (value.adapter t lift u lower callee) c there inside =
      let lowers = is_async_type t || any_context (options_list lower) in
      let lifts = any_context (lifts_of lift callee) in
      elim (Contains-append_cases (when lowers (instance_of lower)) (when lifts (instance_of lift)) c inside) [
        | inl first ↦
            let both = when_in lowers (instance_of lower) c first in
            elim (or_cases (is_async_type t) (any_context (options_list lower)) both.0) [
              | inl async ↦ lowers_async there both.1 async
              | inr uses ↦
                  let user = user_of (options_list lower) uses in
                  uses_context (as_lower_option there both.1 user.1) user.2
            ]
        | inr second ↦
            let both = when_in lifts (instance_of lift) c second in
            let user = user_of (lifts_of lift callee) both.0 in
            uses_context (as_lifted there both.1 user.1) user.2
      ]
  by_made (value.lowered path ty o) c there inside = absurd (none_in c inside)
  by_made (value.builtin k n ps) c there inside = absurd (none_in c inside)
  by_made (value.exported n item) c there inside = absurd (none_in c inside)
  by_made (value.intrinsic n) c there inside = absurd (none_in c inside)
  by_made (value.flags n) c there inside = absurd (none_in c inside)
  by_made (value.helper k ps) c there inside = absurd (none_in c inside)

  -- so does a resource
  by_destructor : (r : WasmValType) (d : MaybeValue Mark) (n c : ℕ) → Contains log (declared_resource r d n) → n ≡ c
      → (v : CoreValue Mark) → Contains (maybe_list d) v → is_context_value v ≡ true → IsOpaqueIn log nodes c
  by_destructor r value.no_value n c there is v inside uses = absurd (none_in v inside)
  by_destructor r (value.a_value w) n c there is v inside uses =
      let own = subst (λ j. Contains log (declared_resource r (value.a_value w) j)) is there in
      let same = subst (λ x. Contains log (declared_resource r (value.a_value x) c)) (one_in w v inside) own in
      uses_context (as_destructor same) uses

  -- and each entry
  by_entries : (e : Entry Mark) (c : ℕ) → Contains log e → Contains (by_entry e) c
      → IsOpaqueIn log nodes c
  by_entries (instantiated i n) c there inside =
      let both = when_in (any_context (arguments_of i)) n c inside in
      let user = user_of (arguments_of i) both.0 in
      let o : Owned Mark = record { instantiation = i; component_instance = n } in
      uses_context (as_argument (given_from owned_of log (instantiated i n) o there refl) both.1 user.1) user.2
  by_entries (declared_resource r d n) c there inside =
      let both = when_in (any_context (maybe_list d)) n c inside in
      let user = user_of (maybe_list d) both.0 in
      by_destructor r d n c there both.1 user.0 user.1 user.2
  by_entries (declared v) c there inside = by_declared v c there inside
  by_entries (made v) c there inside = by_made v c there inside
  by_entries (needed path) c there inside = absurd (none_in c inside)

  -- and each export
  by_nodes : (n : NamedNode Mark) (c : ℕ) → Contains nodes n → Contains (by_node n) c → IsOpaqueIn log nodes c
  by_nodes n c there inside =
      let of = made_of by_lifted (lifted_in n.node) c inside in
      by_one of.0.0 of.0.1 of.1 of.2
    where
      by_one : (f : CoreValue Mark) (o : Options Mark) → Contains (lifted_in n.node) (f, o)
          → Contains (when (any_context (lifts_of o f)) (instance_of o)) c → IsOpaqueIn log nodes c
      by_one f o lifted inside =
          let both = when_in (any_context (lifts_of o f)) (instance_of o) c inside in
          let user = user_of (lifts_of o f) both.0 in
          uses_context (as_export there lifted both.1 user.1) user.2

  -- a component instance that is listed is opaque
  pub opaque_if_listed : (c : ℕ) → Contains of_entries c ⊎ Contains of_nodes c → IsOpaqueIn log nodes c
  opaque_if_listed c (inl inside) =
      let of = made_of by_entry log c inside in by_entries of.0 c of.1 of.2
  opaque_if_listed c (inr inside) = let of = made_of by_node nodes c inside in by_nodes of.0 c of.1 of.2

  from_entry : (e : Entry Mark) (c : ℕ) → Contains log e → Contains (by_entry e) c
      → Contains of_entries c ⊎ Contains of_nodes c
  from_entry e c there inside = inl (made_from by_entry log e c there inside)

  -- the entry that makes a core instance
  instance_entry : (o : Owned Mark) (e : Entry Mark) → owned_of e ≡ Some o → Contains log e
      → Contains log (instantiated o.instantiation o.component_instance)
  instance_entry o (instantiated i c) is there =
      subst (Contains log)
      (ap (λ (p : Owned Mark). instantiated p.instantiation p.component_instance) (same_Some _ o is)) there
  instance_entry o (declared_resource r d c) is there = absurd (none-some o is)
  instance_entry o (declared v) is there = absurd (none-some o is)
  instance_entry o (made v) is there = absurd (none-some o is)
  instance_entry o (needed path) is there = absurd (none-some o is)

  used_is_listed : (c : ℕ) (v : CoreValue Mark) → IsUsedIn log nodes c v → is_context_value v ≡ true
      → Contains of_entries c ⊎ Contains of_nodes c
  used_is_listed c v (as_argument {o} there owner inside) uses =
      let of = given_of owned_of log o there in
      from_entry (instantiated o.instantiation o.component_instance) c (instance_entry o of.0 of.2 of.1)
      (when_there (any_context (arguments_of o.instantiation)) o.component_instance c
      (used_by (arguments_of o.instantiation) v inside uses) owner)
  used_is_listed c v (as_lifted {t} {u} {lift} {lower} {callee} there owner inside) uses =
      from_entry (made (value.adapter t lift u lower callee)) c there
      (Contains-append_right (when (is_async_type t || any_context (options_list lower)) (instance_of lower))
      (when (any_context (lifts_of lift callee)) (instance_of lift)) c
      (when_there (any_context (lifts_of lift callee)) (instance_of lift) c
      (used_by (lifts_of lift callee) v inside uses) owner))
  used_is_listed c v (as_lower_option {t} {u} {lift} {lower} {callee} there owner inside) uses =
      from_entry (made (value.adapter t lift u lower callee)) c there
      (Contains-append_left (when (is_async_type t || any_context (options_list lower)) (instance_of lower))
      (when (any_context (lifts_of lift callee)) (instance_of lift)) c
      (when_there (is_async_type t || any_context (options_list lower)) (instance_of lower) c
      (or_right (is_async_type t) (any_context (options_list lower)) (used_by (options_list lower) v inside uses))
      owner))
  used_is_listed c v (as_destructor {r} there) uses =
      from_entry (declared_resource r (value.a_value v) c) c there
      (when_there (any_context (v ∷ [])) c c (used_by (v ∷ []) v (here_in v []) uses) refl)
  used_is_listed c v (as_export {n} {f} {o} there lifted owner inside) uses =
      inr (made_from by_node nodes n c there
      (made_from by_lifted (lifted_in n.node) (f, o) c lifted
      (when_there (any_context (lifts_of o f)) (instance_of o) c (used_by (lifts_of o f) v inside uses) owner)))

  -- and an opaque one is listed
  pub listed_if_opaque : (c : ℕ) → IsOpaqueIn log nodes c → Contains of_entries c ⊎ Contains of_nodes c
  listed_if_opaque c (lowers_host {p} {ty} {o} there owner) =
      from_entry (declared (value.lowered p ty o)) c there
      (subst (Contains (instance_of o ∷ [])) owner (here_in (instance_of o) []))
  listed_if_opaque c (declares_builtin {k} {ps} there) =
      from_entry (declared (value.builtin k c ps)) c there (here_in c [])
  listed_if_opaque c (lowers_async {t} {u} {lift} {lower} {callee} there owner async) =
      from_entry (made (value.adapter t lift u lower callee)) c there
      (Contains-append_left (when (is_async_type t || any_context (options_list lower)) (instance_of lower))
      (when (any_context (lifts_of lift callee)) (instance_of lift)) c
      (when_there (is_async_type t || any_context (options_list lower)) (instance_of lower) c
      (or_left (is_async_type t) (any_context (options_list lower)) async) owner))
  listed_if_opaque c (uses_context {v} used is) = used_is_listed c v used is
