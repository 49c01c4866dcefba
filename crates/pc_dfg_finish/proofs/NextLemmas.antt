-- The next side effect of an ordered graph: what it makes has the next number, and what it names can get its numbers.
use Rattle.std.proofs.Common.{◌≡◌, ℕ, All, Some, length, sym, subst, ◌∙◌}
use Rattle.std.specs.Prelude.{Contains}
use Rattle.std.proofs.lemmas.List.Elements.{All-contains_itself}
use Rattle.pc_dfg.specs.declared.core_def.CoreDef.{CoreDef}
use Rattle.pc_dfg.specs.declared.dfg.ComponentDfg.{ComponentDfg}
use Rattle.pc_dfg.specs.declared.instance.SideEffect.{SideEffect}
use Rattle.pc_dfg.specs.Held.{HeldEffect, HoldsEntry}
use Rattle.pc_dfg.specs.Lists as list
use Rattle.pc_dfg.specs.Names.{in_effect}
use Rattle.pc_dfg.specs.Ordered.{IsOrdered, declared_by, made_by}
use Rattle.pc_dfg_linearize.specs.declared.state.Finish.{Finish}
use Rattle.pc_dfg_linearize.specs.Arguments.{CanNumber}
use Rattle.pc_dfg_linearize.specs.Grouped.{IsGrouped}
use Rattle.pc_dfg_linearize.specs.Made.{IsNext}
use Rattle.pc_dfg_linearize.specs.Parts.{in_def}
use Rattle.pc_dfg_linearize.specs.Wired.{Occurs, in_an_effect}
use Rattle.pc_dfg_finish.proofs.PushedLemmas.{filter_map_at}
use Rattle.pc_dfg_finish.proofs.ReadyLemmas.{effect_ready}

module _ (g : ComponentDfg) (ordered : IsOrdered g) (f : Finish) (e : SideEffect) (next : IsNext g f e) where
  -- its numbers are held
  pub next_held : HeldEffect g e
  unfolding HoldsEntry
  next_held = ordered.held list.side_effects next.place e next.at

  -- what it makes is next
  pub next_instance : (k : ℕ) → made_by e ≡ Some k → k ≡ length f.instances
  next_instance k is =
      ordered.instances.each _ k (filter_map_at made_by g.side_effects next.place e k next.at is) ∙ sym next.instances

  pub next_resource : (n : ℕ) → declared_by e ≡ Some n → n ≡ length f.resources
  next_resource n is =
      ordered.resources.each _ n (filter_map_at declared_by g.side_effects next.place e n next.at is)
      ∙ sym next.resources

  -- what it names occurs in the graph
  pub next_occurs : All (Occurs g) (in_effect g e)
  next_occurs k d below = in_an_effect next.place e next.at (All-contains_itself (in_effect g e) k d below)

  -- and can get its numbers
  pub next_ready : IsGrouped g → All (CanNumber g (length f.instances)) (in_effect g e)
  next_ready grouped k d below = by _ (All-contains_itself (in_effect g e) k d below)
    where
      by : (x : CoreDef) → Contains (in_effect g e) x → CanNumber g (length f.instances) x
      by x inside =
          let ready = effect_ready g ordered grouped next.place e x next.at inside in
          subst (λ n. CanNumber g n x) (sym next.instances) (record {
            itself = ready.0;
            parts = λ j y within. ready.1 _ (All-contains_itself (in_def g x) j y within);
          })
