-- Changes of what is known, one after another.
use Rattle.std.proofs.Common.{refl, ◌∙◌}
use Rattle.pc_types.specs.declared.parsed.TypeTable.{TypeTable}
use Rattle.pc_inline_state.specs.declared.frame.Frame.{Frame}
use Rattle.pc_inline_state.specs.declared.state.State.{State}
use Rattle.pc_inline_state.specs.Tables.{tables_of}
use Rattle.pc_inline_state.proofs.AddsLemmas.{adds_refl, adds_trans}
use Rattle.pc_inline_state.proofs.StateLemmas.{keeps_refl, keeps_trans}
use Rattle.pc_inline_state.proofs.TrailLemmas.{trails_refl, trails_trans}
use Rattle.pc_inline_resources.specs.Learns.{Learns}

module _ (t : TypeTable) where
  -- nothing has changed
  pub learns_refl : (st : State) (f : Frame) → Learns t st f st f
  learns_refl st f = record {
    keeps = keeps_refl (tables_of st);
    adds = adds_refl t 0 (tables_of st);
    trail = trails_refl f.changes st.types.resources;
    state = refl;
    frame = refl;
  }

  -- something has, and then more
  pub learns_trans : (a : State) (f : Frame) (b : State) (g : Frame) (c : State) (h : Frame) → Learns t a f b g
      → Learns t b g c h → Learns t a f c h
  learns_trans a f b g c h p q = record {
    keeps = keeps_trans (tables_of a) (tables_of b) (tables_of c) p.keeps q.keeps;
    adds = adds_trans t 0 0 (tables_of a) (tables_of b) (tables_of c) p.adds q.adds;
    trail = trails_trans f.changes a.types.resources g.changes b.types.resources h.changes c.types.resources p.trail
        q.trail;
    state = q.state
        ∙ (λ i. record (p.state i) { types = record ((p.state i).types) { resources = c.types.resources } });
    frame = q.frame ∙ (λ i. record (p.frame i) { converted = h.converted; changes = h.changes });
  }
