-- Component instances on a stack, as the tables grow and the innermost goes on.
use Rattle.std.proofs.Common.{◌≡◌, ◌≤◌, ◌+◌, ℕ, List, Option, None, Some, length, refl, arith}
use Rattle.std.specs.Prelude.{slice_get}
use Rattle.pc_types.specs.declared.module_record.ModuleRecord.{ModuleRecord}
use Rattle.pc_types.specs.declared.parsed.TypeTable.{TypeTable}
use Rattle.pc_spec_reading.specs.Scope.{Scope}
use Rattle.pc_local.specs.declared.item.Translation.{Translation}
use Rattle.pc_inline_state.specs.declared.closure.Closure.{Closure}
use Rattle.pc_inline_state.specs.declared.definition.ClosureId.{ClosureId}
use Rattle.pc_inline_stack.specs.declared.driver.Open.{Open}
use Rattle.pc_inline_state.specs.declared.frame.Frame.{Frame}
use Rattle.pc_inline_stack.specs.Stacks.{AllStand, Grew, OpenStands, Reader, Waiting, child_stands, root_stands}
use Rattle.pc_inline_state.specs.Tables.{Keeps, Tables}
use Rattle.pc_inline_state.specs.Trails.{Trails}
use Rattle.pc_types_lists.specs.Types.{Resources}
use Rattle.pc_inline_stack.proofs.CurrentLemmas.{converted_still, waits_again}
use Rattle.pc_inline_stack.proofs.EnclosedLemmas.{HasClosure, enclosed_kept}
use Rattle.pc_inline_state.proofs.KnowsLemmas.{knows_grown}
use Rattle.pc_inline_canon.proofs.KeptLemmas.{frame_kept}

-- what a component instance captured is in the table
has_closure : (b : Tables) (k : Option ClosureId)
    → ((i : ClosureId) → k ≡ Some i → (c : Closure) × (slice_get b.closures i.0 ≡ Some c)) → HasClosure b k
has_closure b None closed = tt
has_closure b (Some k) closed = closed k refl

module _ (t : TypeTable) (ms : List ModuleRecord) (bodies : List Translation) (root : Translation) where
  module _ (b : Tables) where
    -- the innermost stands for its reader
    pub top_stands : (k : Resources) (ks : List Open) (o : Open) (ws : List Waiting) (r : Reader)
        → AllStand t ms bodies root b k ks o ws r → OpenStands t ms bodies root b k o r
    top_stands k ks o ws r (root_stands h) = h
    top_stands k ks o ws r (child_stands h has caller waits all) = h

    -- it has gone on, and changed what it notes of the resources that are known
    pub top_goes : (k l : Resources) (ks : List Open) (o : Open) (ws : List Waiting) (r : Reader) (g : Frame) (n : ℕ)
        (s : Scope) → Trails o.frame.changes k g.changes l → AllStand t ms bodies root b k ks o ws r
        → OpenStands t ms bodies root b l (record o { frame = g; next = n }) (record r { scope = s })
        → AllStand t ms bodies root b l ks (record o { frame = g; next = n }) ws (record r { scope = s })
    top_goes k l ks o ws r g n s trails (root_stands h) x = root_stands x
    top_goes k l ks o ws r g n s trails (child_stands {j = j} {caller = c} h has caller waits all) x =
        child_stands x (record { index = has.index; there = has.there; is = has.is; exports = has.exports }) caller
        (waits_again k o.frame l g trails c.frame j waits) all

    -- as many wait as wait in the reading
    pub as_deep : (k : Resources) (ks : List Open) (o : Open) (ws : List Waiting) (r : Reader)
        → AllStand t ms bodies root b k ks o ws r → length ws ≡ length ks
    as_deep k ks o ws r (root_stands h) = refl
    as_deep k ks o ws r (child_stands {j = j} {os = os} {caller = c} {ws = vs} {w = w} h has caller waits
        all) =
        let same = as_deep j os c vs w.reader all in omega (arith, same)

  module _ (b c : Tables) (keeps : Keeps b c) where
    -- a component instance stands when the tables have grown
    open_kept : (k : Resources) (o : Open) (r : Reader) → OpenStands t ms bodies root b k o r
        → OpenStands t ms bodies root c k o r
    open_kept k o r h = record {
      frame = frame_kept ms b c keeps o.frame r.scope h.frame;
      here = knows_grown b.graph k r.scope h.here c.graph keeps.fits;
      converted = converted_still b.types c.types keeps.types k t o.frame.converted h.converted;
      enclosed = enclosed_kept ms b c keeps r.names o.closure r.scope.chain (has_closure b o.closure h.closed)
          h.enclosed;
      closed = λ k is. let x = h.closed k is in (x.0, keeps.closures k.0 x.0 x.1);
      items = h.items;
    }

    -- so do all
    pub all_kept : (k : Resources) (ks : List Open) (o : Open) (ws : List Waiting) (r : Reader)
        → AllStand t ms bodies root b k ks o ws r → AllStand t ms bodies root c k ks o ws r
    all_kept k ks o ws r (root_stands h) = root_stands (open_kept k o r h)
    all_kept k ks o ws r (child_stands {j = j} {os = os} {caller = q} {ws = vs} {w = w} h has caller waits
        all) =
        child_stands (open_kept k o r h) has caller waits (all_kept j os q vs w.reader all)

-- more was added, of what was left, and the total is the same
pub grew_more : (counted total added left more fewer count : ℕ) → more + fewer ≤ left
    → Grew counted total added left count → Grew counted total (added + more) fewer count
grew_more counted total added left more fewer count less h =
    let few = h.1 in (h.0, omega (arith, few, less))
