-- An adapter of a graph that stands for a reading is transparent exactly where the reading's is.
use Rattle.std.proofs.Common.{◌≡◌, ◌⊎◌, ℕ, true, List, ◌++◌, inl, inr, Some}
use Rattle.std.proofs.Common.{refl}
use Rattle.std.proofs.Common.{sym, ap, subst, ◌∙◌, arith}
use Rattle.std.specs.Prelude.{◌↔◌, slice_get}
use Rattle.std.specs.List.{AllZip, Contains, flat_map}
use Rattle.std.proofs.lemmas.List.Elements.{Contains-append_cases, Contains-append_left, Contains-append_right}
use Rattle.std.proofs.lemmas.Option.{none-some, same_Some, slice_get_within}
use Rattle.pc_entity.proofs.LookupLemmas.{found_at}
use Rattle.pc_numbers.specs.declared.runtime.ResourceIndex.{ResourceIndex}
use Rattle.pc_types.specs.declared.parsed.TypeTable.{TypeTable}
use Rattle.pc_types.specs.declared.types.TypeDef.TheVariants as type
use Rattle.pc_types.specs.TypeTree.{Identity, TypeTree}
use Rattle.pc_types_convert.proofs.OneTree.{one_tree}
use Rattle.pc_types_lists.specs.Types.{Types}
use Rattle.pc_spec_plan.specs.CoreValue as value
use Rattle.pc_spec_plan.specs.CoreValue.{CoreValue, Options}
use Rattle.pc_spec_plan.specs.ExportNode.{NamedNode}
use Rattle.pc_spec_plan.specs.Log.{Entry, declared, declared_resource, instantiated, is_effect, made, needed, trace}
use Rattle.pc_parsed.specs.Mark.{Mark, of_type}
use Rattle.pc_spec_reading.specs.World.{World}
use Rattle.pc_spec_adapt.specs.Needs.{adapters_of, made_adapter}
use Rattle.pc_spec_wiring.specs.FunctionTypes.{has_handle, is_async_type}
use Rattle.pc_spec_wiring.specs.Held.{instance_of, lifted_in}
use Rattle.pc_spec_wiring.specs.Opaque as reading
use Rattle.pc_spec_wiring.specs.Opaque.{IsTransparent, transparent}
use Rattle.pc_dfg.specs.declared.adapter.Adapter.{Adapter}
use Rattle.pc_dfg.specs.declared.dfg.ComponentDfg.{ComponentDfg}
use Rattle.pc_analysis_transparent.specs.Opaque.{AreTyped, IsOpaqueIn, IsTransparentIn}
use Rattle.pc_analysis_transparent.specs.Opened.{by_adapter, by_effect, by_export, by_trampoline, opened}
use Rattle.pc_analysis_transparent.proofs.OpenedLemmas.{opaque_if_opened, opened_if_opaque}
use Rattle.pc_inline_state.specs.Fits.{Fits}
use Rattle.pc_inline_state.specs.Worlds.{EffectStands, WorldStands}
use Rattle.pc_inline_exports.specs.Exports.{ExportsStand, NameStands}
use Rattle.pc_analysis_reads.specs.Exported.{AreExported}
use Rattle.pc_analysis_reads.proofs.AlikeLemmas.{IsAs, effect_same, fused_same, is_as, item_there, lifted_there}
use Rattle.pc_analysis_reads.proofs.AlikeLemmas.{node_there}
use Rattle.pc_analysis_reads.proofs.AlikeLemmas.{trampoline_same, trampoline_there}
use Rattle.pc_analysis_reads.proofs.ListLemmas.{contained_at, found_contained, given_from, given_of, in_kept, kept_in}
use Rattle.pc_analysis_reads.proofs.ListLemmas.{made_from}
use Rattle.pc_analysis_reads.proofs.ListLemmas.{made_of, none_in, zip_left, zip_right}
use Rattle.pc_analysis_reads.proofs.ListedLemmas.{by_entry, by_lifted, by_node, in_effect}
use Rattle.pc_analysis_reads.proofs.ListedLemmas.{listed_if_opaque, of_entries, of_nodes, opaque_if_listed}

-- what an effect makes opaque its entry does
effect_in : (e : Entry Mark) (c : ℕ) → Contains (in_effect e) c → Contains (by_entry e) c
effect_in (instantiated i n) c inside = inside
effect_in (declared_resource r d n) c inside = inside
effect_in (declared v) c inside = absurd (none_in c inside)
effect_in (made v) c inside = absurd (none_in c inside)
effect_in (needed path) c inside = absurd (none_in c inside)

-- the adapters of a log
made_entry : (e : Entry Mark) (v : CoreValue Mark) → made_adapter e ≡ Some v → e ≡ made v
made_entry (made w) v is = ap made (same_Some w v is)
made_entry (instantiated i c) v is = absurd (none-some v is)
made_entry (declared_resource r d c) v is = absurd (none-some v is)
made_entry (declared w) v is = absurd (none-some v is)
made_entry (needed path) v is = absurd (none-some v is)

logged : (log : List (Entry Mark)) (v : CoreValue Mark) → Contains (adapters_of log) v → Contains log (made v)
logged log v inside =
    let of = given_of made_adapter log v inside in subst (Contains log) (made_entry of.0 v of.2) of.1

module _ (t : TypeTable) (types : Types) (g : ComponentDfg) (w : World) (nodes : List (NamedNode Mark))
    (who : ResourceIndex → Identity) (lift lower : ℕ → TypeTree) (stands : WorldStands types g w)
    (exports : AllZip (NameStands t types g) g.exports nodes)
    (exported : AreExported g) (fits : Fits g who) (typed : AreTyped types who g lift lower) where
  abbrev first : List ℕ
  first = flat_map (by_trampoline g) g.trampolines

  abbrev second : List ℕ
  second = flat_map (by_adapter types) g.adapters

  abbrev third : List ℕ
  third = flat_map (by_effect g) g.side_effects

  abbrev last : List ℕ
  last = flat_map (by_export g) g.export_items

  abbrev IsListed : ℕ → Type 0
  IsListed c = Contains (of_entries w.log nodes) c ⊎ Contains (of_nodes w.log nodes) c

  -- the adapter of the graph that stands for one of the log, and the other way round
  graph_adapter : (k : ℕ) (v : CoreValue Mark) → slice_get (adapters_of w.log) k ≡ Some v
      → (x : Adapter) × (slice_get g.adapters k ≡ Some x) × IsAs types g x v
  graph_adapter k v at =
      let long = stands.adapters.as_many in
      let of = found_at g.adapters k (omega (arith, long, slice_get_within (adapters_of w.log) k v at)) in
      (of.0, of.1, is_as types g k of.0 v of.1 (stands.adapters.each k v at))

  read_adapter : (k : ℕ) (x : Adapter) → slice_get g.adapters k ≡ Some x
      → (v : CoreValue Mark) × (slice_get (adapters_of w.log) k ≡ Some v) × IsAs types g x v
  read_adapter k x at =
      let long = stands.adapters.as_many in
      let of = found_at (adapters_of w.log) k (omega (arith, long, slice_get_within g.adapters k x at)) in
      (of.0, of.1, is_as types g k x of.0 at (stands.adapters.each k of.0 of.1))

  -- what the graph makes opaque the reading does
  from_trampoline : (c : ℕ) → Contains first c → IsListed c
  from_trampoline c inside =
      let of = made_of (by_trampoline g) g.trampolines c inside in
      let place = contained_at g.trampolines of.0 of.1 in
      let told = stands.are_declared place.0 of.0 place.1 in
      inl (made_from by_entry w.log (declared told.value) c told.entry
      (subst (λ l. Contains l c) (trampoline_same types g place.0 of.0 told.value place.1 told.stands) of.2))

  from_adapter : (c : ℕ) → Contains second c → IsListed c
  from_adapter c inside =
      let of = made_of (by_adapter types) g.adapters c inside in
      let place = contained_at g.adapters of.0 of.1 in
      let read = read_adapter place.0 of.0 place.1 in
      inl (made_from by_entry w.log (made read.0) c
      (logged w.log read.0 (found_contained (adapters_of w.log) place.0 read.0 read.1))
      (subst (λ l. Contains l c) (fused_same types g of.0 read.0 who fits read.2) of.2))

  from_effect : (c : ℕ) → Contains third c → IsListed c
  from_effect c inside =
      let of = made_of (by_effect g) g.side_effects c inside in
      let entry = zip_left (EffectStands types g) g.side_effects (trace w.log) of.0 stands.effects of.1 in
      inl (made_from by_entry w.log entry.0 c (kept_in is_effect w.log entry.0 entry.1)
      (effect_in entry.0 c (subst (λ l. Contains l c) (effect_same types g of.0 entry.0 entry.2) of.2)))

  from_export : (c : ℕ) → Contains last c → IsListed c
  unfolding AreExported
  from_export c inside =
      let of = made_of (by_export g) g.export_items c inside in
      let place = contained_at g.export_items of.0 of.1 in
      let has = node_there types g t nodes exports
      (exported place.0 (slice_get_within g.export_items place.0 of.0 place.1)) in
      let lifted = lifted_there types g t has.stands of.0 place.1 c of.2 in
      inr (made_from by_node nodes has.named c has.there
      (made_from by_lifted (lifted_in has.named.node) lifted.0 c (has.among lifted.0 lifted.1) lifted.2))

  listed_if_opened : (c : ℕ) → Contains (opened g types) c → IsListed c
  unfolding opened
  listed_if_opened c inside =
      elim (Contains-append_cases ((first ++ second) ++ third) last c inside) [
        | inl most ↦ elim (Contains-append_cases (first ++ second) third c most) [
          | inl early ↦ elim (Contains-append_cases first second c early) [
            | inl one ↦ from_trampoline c one
            | inr two ↦ from_adapter c two
          ]
          | inr three ↦ from_effect c three
        ]
        | inr four ↦ from_export c four
      ]

  -- what the reading makes opaque the graph does
  in_first : (c : ℕ) → Contains first c → Contains (opened g types) c
  unfolding opened
  in_first c inside =
      Contains-append_left ((first ++ second) ++ third) last c (Contains-append_left (first ++ second) third c
      (Contains-append_left first second c inside))

  in_second : (c : ℕ) → Contains second c → Contains (opened g types) c
  unfolding opened
  in_second c inside =
      Contains-append_left ((first ++ second) ++ third) last c (Contains-append_left (first ++ second) third c
      (Contains-append_right first second c inside))

  in_third : (c : ℕ) → Contains third c → Contains (opened g types) c
  unfolding opened
  in_third c inside =
      Contains-append_left ((first ++ second) ++ third) last c (Contains-append_right (first ++ second) third c inside)

  in_last : (c : ℕ) → Contains last c → Contains (opened g types) c
  unfolding opened
  in_last c inside = Contains-append_right ((first ++ second) ++ third) last c inside

  to_effect : (e : Entry Mark) (c : ℕ) → Contains w.log e → is_effect e ≡ true → Contains (in_effect e) c
      → Contains (opened g types) c
  to_effect e c there is inside =
      let of = zip_right (EffectStands types g) g.side_effects (trace w.log) e stands.effects
      (in_kept is_effect w.log e there is) in
      in_third c (made_from (by_effect g) g.side_effects of.0 c of.1
      (subst (λ l. Contains l c) (sym (effect_same types g of.0 e of.2)) inside))

  to_entry : (e : Entry Mark) (c : ℕ) → Contains w.log e → Contains (by_entry e) c → Contains (opened g types) c
  to_entry (instantiated i n) c there inside = to_effect (instantiated i n) c there refl inside
  to_entry (declared_resource r d n) c there inside = to_effect (declared_resource r d n) c there refl inside
  to_entry (declared v) c there inside =
      let has = stands.trampolines v there in
      let of = trampoline_there types g has.trampoline v has.stands in
      in_first c (made_from (by_trampoline g) g.trampolines of.0 c
      (found_contained g.trampolines has.trampoline.0 of.0 of.1)
      (subst (λ l. Contains l c) (sym (trampoline_same types g has.trampoline.0 of.0 v of.1 has.stands)) inside))
  to_entry (made v) c there inside =
      let place = contained_at (adapters_of w.log) v (given_from made_adapter w.log (made v) v there refl) in
      let of = graph_adapter place.0 v place.1 in
      in_second c (made_from (by_adapter types) g.adapters of.0 c (found_contained g.adapters place.0 of.0 of.1)
      (subst (λ l. Contains l c) (sym (fused_same types g of.0 v who fits of.2)) inside))
  to_entry (needed path) c there inside = absurd (none_in c inside)

  to_node : (n : NamedNode Mark) (c : ℕ) → Contains nodes n → Contains (by_node n) c → Contains (opened g types) c
  to_node n c there inside =
      let lifted = made_of by_lifted (lifted_in n.node) c inside in
      let name = zip_right (NameStands t types g) g.exports nodes n exports there in
      let has = item_there types g t name.2.node lifted.0 lifted.1 in
      in_last c (made_from (by_export g) g.export_items has.item c
      (found_contained g.export_items has.number has.item has.at)
      (subst (λ l. Contains l c) (sym has.same) lifted.2))

  opened_if_listed : (c : ℕ) → IsListed c → Contains (opened g types) c
  opened_if_listed c (inl inside) =
      let of = made_of by_entry w.log c inside in to_entry of.0 c of.1 of.2
  opened_if_listed c (inr inside) = let of = made_of by_node nodes c inside in to_node of.0 c of.1 of.2

  -- so component instances are opaque in the one exactly where they are in the other
  opaque_as_read : (c : ℕ) → IsOpaqueIn g lift c → reading.IsOpaqueIn w.log nodes c
  opaque_as_read c opaque =
      opaque_if_listed w.log nodes c
      (listed_if_opened c (opened_if_opaque g lift types who lower typed c opaque))

  opaque_as_made : (c : ℕ) → reading.IsOpaqueIn w.log nodes c → IsOpaqueIn g lift c
  opaque_as_made c opaque =
      opaque_if_opened g lift types who lower typed c
      (opened_if_listed c (listed_if_opaque w.log nodes c opaque))

  module _ (k : ℕ) (x : Adapter) (at : slice_get g.adapters k ≡ Some x) (v : CoreValue Mark) (a : IsAs types g x v)
    where
      -- the types of the adapter have one tree each
      lift_same : of_type (lift k) ≡ a.lift_type
      lift_same =
          ap of_type (one_tree types who (type.ComponentFunc x.lift_ty) (lift k) a.lift_tree (typed k x at).lift_tree
          (a.lift_held who fits))
          ∙ sym a.lift_is

      lower_same : of_type (lower k) ≡ a.lower_type
      lower_same =
          ap of_type (one_tree types who (type.ComponentFunc x.lower_ty) (lower k) a.lower_tree
          (typed k x at).lower_tree
          (a.lower_held who fits))
          ∙ sym a.lower_is

      as_read : IsTransparentIn g lift lower k → reading.IsTransparentIn w.log nodes v
      as_read tr =
          let same : tr.adapter ≡ x = same_Some tr.adapter x (sym tr.there ∙ at) in
          subst (reading.IsTransparentIn w.log nodes) (sym a.is)
          (transparent (ap is_async_type (sym lift_same) ∙ tr.lifts_sync)
          (ap is_async_type (sym lower_same) ∙ tr.lowers_sync)
          (sym a.lift_async ∙ ap (λ (y : Adapter). y.lift_options.async_) (sym same) ∙ tr.lift_sync)
          (sym a.lower_async ∙ ap (λ (y : Adapter). y.lower_options.async_) (sym same) ∙ tr.lower_sync)
          (ap has_handle (sym lift_same) ∙ tr.lift_plain) (ap has_handle (sym lower_same) ∙ tr.lower_plain)
          (λ opaque.
          tr.lifter (subst (IsOpaqueIn g lift) (ap (λ (y : Adapter). y.lift_options.instance.0) (sym same))
          (subst (IsOpaqueIn g lift) (sym a.lift_instance) (opaque_as_made (instance_of a.lift) opaque)))))

      as_made : reading.IsTransparentIn w.log nodes v → IsTransparentIn g lift lower k
      as_made tr = by (subst (reading.IsTransparentIn w.log nodes) a.is tr)
        where
          by : reading.IsTransparentIn w.log nodes
              (value.adapter a.lift_type a.lift a.lower_type a.lower a.callee) → IsTransparentIn g lift lower k
          by (transparent lifts lowers lift_option lower_option lift_plain lower_plain lifter) = record {
            adapter = x;
            there = at;
            lifts_sync = ap is_async_type lift_same ∙ lifts;
            lowers_sync = ap is_async_type lower_same ∙ lowers;
            lift_sync = a.lift_async ∙ lift_option;
            lower_sync = a.lower_async ∙ lower_option;
            lift_plain = ap has_handle lift_same ∙ lift_plain;
            lower_plain = ap has_handle lower_same ∙ lower_plain;
            lifter = λ opaque.
                lifter (opaque_as_read (instance_of a.lift)
                (subst (IsOpaqueIn g lift) a.lift_instance opaque));
          }

  -- an adapter is transparent in the graph exactly where it is in the reading
  pub as_read_at : (k : ℕ) (v : CoreValue Mark) → slice_get (adapters_of w.log) k ≡ Some v
      → IsTransparentIn g lift lower k ↔ reading.IsTransparentIn w.log nodes v
  as_read_at k v at =
      let of = graph_adapter k v at in (as_read k of.0 of.1 v of.2, as_made k of.0 of.1 v of.2)

pub transparent_as_read : (t : TypeTable) (types : Types) (g : ComponentDfg) (w : World) (nodes : List (NamedNode Mark))
    (who : ResourceIndex → Identity) (lift lower : ℕ → TypeTree) → WorldStands types g w
    → ExportsStand t types g nodes → AreExported g → Fits g who → AreTyped types who g lift lower
    → (k : ℕ) (v : CoreValue Mark) → slice_get (adapters_of w.log) k ≡ Some v
    → IsTransparentIn g lift lower k ↔ reading.IsTransparentIn w.log nodes v
unfolding ExportsStand
transparent_as_read t types g w nodes who lift lower stands exports exported fits typed k v at =
    as_read_at t types g w nodes who lift lower stands exports exported fits typed k v at
