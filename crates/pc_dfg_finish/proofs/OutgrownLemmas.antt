-- Where the making of a plan is refused for want of numbers, its graph has too many entries.
use Rattle.std.proofs.Common.{◌≤◌, ◌+◌, ◌<◌, ◌⊎◌, ℕ, length, ap, ◌∙◌, arith}
use Rattle.std.proofs.lemmas.List.{length-map, length-take-le}
use Rattle.pc_dfg.specs.declared.dfg.ComponentDfg.{ComponentDfg}
use Rattle.pc_dfg.specs.declared.instance.Resource.{Resource}
use Rattle.pc_dfg.specs.declared.ids.InstanceId.{InstanceId}
use Rattle.pc_dfg.specs.declared.instance.SideEffect.TheVariants as effect
use Rattle.pc_numbers.specs.declared.runtime.DefinedResourceIndex.{DefinedResourceIndex}
use Rattle.pc_numbers.specs.declared.runtime.RuntimeComponentInstanceIndex.{RuntimeComponentInstanceIndex}
use Rattle.pc_dfg.specs.Ordered.{IsOrdered, declared_by, made_before, made_by}
use Rattle.pc_dfg_linearize.specs.declared.state.Finish.{Finish}
use Rattle.pc_dfg_linearize.specs.Closed.{Continues}
use Rattle.pc_dfg_linearize.specs.Full.{HasTooMany, of_resources}
use Rattle.pc_dfg_linearize.specs.Made.{DoneBefore, IsNext, declared_before}
use Rattle.pc_dfg_linearize.specs.Outgrown.{Outgrows}
use Rattle.pc_dfg_finish.proofs.DoneLemmas.{made_at_most, made_next}
use Rattle.pc_dfg_linearize.proofs.FullLemmas.{instances_too_many}

module _ (g : ComponentDfg) where
  -- a plan outgrows its graph where what becomes of it does
  pub outgrows_before : (old new : Finish) → Continues g old new → Outgrows g new → Outgrows g old
  outgrows_before old new later full fills made =
      full (later.fills fills) (omega (arith, made, ap length later.instances))

  module _ (ordered : IsOrdered g) where
    -- no more core instances were made than the graph has
    made_within : (i : ℕ) → made_before g i ≤ length g.instances
    made_within i =
        let most = made_at_most made_by g.side_effects i in
        let all = ordered.instances.all in
        omega (arith, most, all)

    declared_within : (i : ℕ) → declared_before g i ≤ length g.resources
    declared_within i =
        let most = made_at_most declared_by g.side_effects i in
        let all = ordered.resources.all in
        omega (arith, most, all)

    -- there are too many core instances, and one is still to be made
    pub instances_outgrow : (old new : Finish) (i : InstanceId) (c : RuntimeComponentInstanceIndex)
        → IsNext g old (effect.Instance i c) → Continues g old new
        → (4294967294 ≤ new.counts.instances) ⊎ (4294967294 ≤ length new.instances) → Outgrows g old
    instances_outgrow old new i c next later full fills made =
        let within = made_within (next.place + 1) in
        let more = made_next made_by g.side_effects next.place (effect.Instance i c) next.at in
        let before = next.instances in
        instances_too_many g new later.fits (later.fills fills)
        (omega (arith, within, more, before, ap length later.instances)) full

    -- too many resources were declared, and one is still to be
    pub resources_outgrow : (old new : Finish) (n : DefinedResourceIndex) → IsNext g old (effect.Resource n)
        → Continues g old new → 4294967294 ≤ length new.resources → HasTooMany g
    resources_outgrow old new n next later full =
        let within = declared_within (next.place + 1) in
        let more = made_next declared_by g.side_effects next.place (effect.Resource n) next.at in
        let declared = next.resources in
        of_resources (omega (arith, full, within, more, declared, ap length later.resources))

    -- where side effects were done, what outgrows the graph says that it has too many entries
    pub done_too_many : (i : ℕ) (f : Finish) → DoneBefore g i f → Outgrows g f → HasTooMany g
    done_too_many i f done outgrows =
        let within = made_within i in
        let made = done.instances in
        outgrows done.fills (omega (arith, made, within))

    -- resources are too many to be counted
    pub resources_too_many : (i : ℕ) (before f : Finish) → DoneBefore g i before → Continues g before f
        → 4294967295 < length g.imported_resources + length f.resources → HasTooMany g
    resources_too_many i before f done later full =
        let within = declared_within i in
        let taken = length-take-le (declared_before g i) g.resources within in
        let mapped = ap length done.resources ∙ length-map _ (λ (r : Resource). r.instance) ∙ taken in
        of_resources (omega (arith, full, within, mapped, ap length later.resources))
