-- Resource numbers can be read so that they fit a graph, and what fits a graph that has grown fitted it before.
use Rattle.std.proofs.Common.{◌≡◌, ◌<◌, ◌+◌, ◌-◌, ℕ, List, length, Option, None, Some, sym, ap, subst, ◌∙◌, arith}
use Rattle.std.specs.Prelude.{slice_get}
use Rattle.std.proofs.lemmas.Option.{slice_get_past}
use Rattle.pc_numbers.specs.declared.runtime.ImportIndex.{ImportIndex}
use Rattle.pc_numbers.specs.declared.runtime.ResourceIndex.{ResourceIndex}
use Rattle.pc_numbers.specs.declared.runtime.RuntimeImportIndex.{RuntimeImportIndex}
use Rattle.pc_types.specs.TypeTree.{Identity, declared, imported}
use Rattle.pc_dfg.specs.declared.dfg.ComponentDfg.{ComponentDfg}
use Rattle.pc_dfg.specs.Grows as graph
use Rattle.pc_dfg.specs.Lists as list
use Rattle.pc_dfg.proofs.GrowLemmas.{kept}
use Rattle.pc_inline_state.specs.Fits.{Fits, FitsBefore, path_of}

-- what fits a graph fits it
pub fits_refl : (g : ComponentDfg) → FitsBefore g g
fits_refl g who fits = fits

-- a graph that has grown, but by no resource
pub fits_grown : (g h : ComponentDfg) → graph.Grows g h → h.imported_resources ≡ g.imported_resources
    → h.resources ≡ g.resources → FitsBefore g h
fits_grown g h grows given own who fits = record {
  given = λ n r i at import. fits.given n r i (subst (λ rs. slice_get rs n ≡ Some r) (sym given) at)
      (kept g h grows list.imports r.0 i import);
  own = λ n below. subst (λ k. who (record { 0 = k + n }) ≡ declared n) (ap length given)
      (fits.own n (subst (λ ds. n < length ds) (sym own) below));
}

-- the resource at a host item of the graph
abbrev host_resource : Option (ImportIndex × List (List ℕ)) → Identity
host_resource None = declared 0
host_resource (Some i) = imported (path_of i)

-- the resource of a number that came with this import, or with none
abbrev resource_in : ComponentDfg → ℕ → Option RuntimeImportIndex → Identity
resource_in g n None = declared (n - length g.imported_resources)
resource_in g n (Some r) = host_resource (slice_get g.imports r.0)

-- the resource of a number of the graph
abbrev pub who_of : ComponentDfg → ResourceIndex → Identity
who_of g r = resource_in g r.0 (slice_get g.imported_resources r.0)

-- resource numbers can be read so that they fit
pub who_fits : (g : ComponentDfg) → Fits g (who_of g)
who_fits g = record {
  given = λ n r i at import. ap (resource_in g n) at ∙ ap host_resource import;
  own = λ n below.
      let k = length g.imported_resources in
      let behind : (k + n) - k ≡ n = omega arith in
      ap (resource_in g (k + n)) (slice_get_past g.imported_resources (k + n) (omega arith)) ∙ ap declared behind;
}
