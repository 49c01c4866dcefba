-- Tables that have grown in one list.
use Rattle.std.proofs.Common.{◌≡◌, ◌≤◌, ◌+◌, List, [], ◌∷◌, ◌++◌, length, Result, Ok, Err, refl, sym, subst, ap, ◌∙◌}
use Rattle.std.proofs.Common.{arith}
use Rattle.std.specs.Prelude.{OnErr, OnOk}
use Rattle.std.proofs.lemmas.List.{length-append}
use Rattle.pc_entity.specs.declared.string_pool.Atom.{Atom}
use Rattle.pc_entity.specs.Lists.{Kept}
use Rattle.pc_entity.proofs.Growing.{append_kept, kept_refl}
use Rattle.pc_dfg.specs.declared.core_def.CoreDef.{CoreDef}
use Rattle.pc_dfg.specs.declared.dfg.ComponentDfg.{ComponentDfg}
use Rattle.pc_dfg.specs.Grows as graph
use Rattle.pc_dfg.specs.Lists.{ListName, entries_of}
use Rattle.pc_dfg.proofs.GrowLemmas as graph_growth
use Rattle.pc_inline_state.specs.declared.closure.Closure.{Closure}
use Rattle.pc_inline_state.specs.declared.definition.Definition.{Definition}
use Rattle.pc_inline_state.specs.declared.state.Member.{Member}
use Rattle.pc_inline_state.specs.Fits.{FitsBefore}
use Rattle.pc_inline_state.specs.Points.{IsFullSomewhere, full_graph}
use Rattle.pc_inline_state.specs.Tables.{Keeps, Tables}
use Rattle.pc_inline_state.proofs.FitsLemmas.{fits_refl}
use Rattle.pc_inline_state.proofs.StateLemmas.{types_refl}

-- a list at whose end an item was put, or that was left as it was
pub push_kept : {A E V : Type 0} (r : Result A E) (old new : List V) (x : V) → OnOk r (new ≡ old ++ x ∷ [])
    → OnErr r (new ≡ old) → Kept old new
push_kept (Ok y) old new x ok err = subst (Kept old) (sym ok) (append_kept old (x ∷ []))
push_kept (Err e) old new x ok err = subst (Kept old) (sym err) (kept_refl old)

module _ (b : Tables) where
  -- the table of core items has grown
  pub cores_grown : (cores : List CoreDef) → Kept b.cores cores → Keeps b (record b { cores = cores })
  cores_grown cores kept = record {
    types = types_refl b.types;
    graph = graph_growth.grows_refl b.graph;
    fits = fits_refl b.graph;
    cores = kept;
    definitions = kept_refl b.definitions;
    closures = kept_refl b.closures;
    instances = kept_refl b.instances;
    paths = kept_refl b.paths;
    bodies = refl;
    names = refl;
    table = refl;
  }

  -- the table of definitions has grown
  pub definitions_grown : (ds : List Definition) → Kept b.definitions ds → Keeps b (record b { definitions = ds })
  definitions_grown ds kept = record {
    types = types_refl b.types;
    graph = graph_growth.grows_refl b.graph;
    fits = fits_refl b.graph;
    cores = kept_refl b.cores;
    definitions = kept;
    closures = kept_refl b.closures;
    instances = kept_refl b.instances;
    paths = kept_refl b.paths;
    bodies = refl;
    names = refl;
    table = refl;
  }

  -- what components captured has grown
  pub closures_grown : (cs : List Closure) → Kept b.closures cs → Keeps b (record b { closures = cs })
  closures_grown cs kept = record {
    types = types_refl b.types;
    graph = graph_growth.grows_refl b.graph;
    fits = fits_refl b.graph;
    cores = kept_refl b.cores;
    definitions = kept_refl b.definitions;
    closures = kept;
    instances = kept_refl b.instances;
    paths = kept_refl b.paths;
    bodies = refl;
    names = refl;
    table = refl;
  }

  -- what instances export has grown
  pub instances_grown : (is : List (List (Atom × Member))) → Kept b.instances is
      → Keeps b (record b { instances = is })
  instances_grown is kept = record {
    types = types_refl b.types;
    graph = graph_growth.grows_refl b.graph;
    fits = fits_refl b.graph;
    cores = kept_refl b.cores;
    definitions = kept_refl b.definitions;
    closures = kept_refl b.closures;
    instances = kept;
    paths = kept_refl b.paths;
    bodies = refl;
    names = refl;
    table = refl;
  }

  -- the graph has grown
  pub graph_grown : (g : ComponentDfg) → graph.Grows b.graph g → FitsBefore b.graph g → Keeps b (record b { graph = g })
  graph_grown g grows fits = record {
    types = types_refl b.types;
    graph = grows;
    fits = fits;
    cores = kept_refl b.cores;
    definitions = kept_refl b.definitions;
    closures = kept_refl b.closures;
    instances = kept_refl b.instances;
    paths = kept_refl b.paths;
    bodies = refl;
    names = refl;
    table = refl;
  }

  -- a list that was full is
  pub graph_crowded : (g : ComponentDfg) → graph.Grows g b.graph → (l : ListName)
      → 4294967295 ≤ length (entries_of g l) → IsFullSomewhere b
  graph_crowded g grows l full =
      let more = grows.lists l in
      let longer : length (entries_of b.graph l) ≡ length (entries_of g l) + length more.more =
      ap length more.is ∙ length-append (entries_of g l) more.more in
      full_graph l (omega (arith, full, longer))
