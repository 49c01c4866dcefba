use Rattle.pc_inline_paths.specs.Paths.{at_import}
use Rattle.pc_inline_state.proofs.PathLemmas.{sound_with, taken_kept, used_taken}
use Rattle.pc_inline_state.proofs.state.State.path_to_import.Goals as goal

pub returns-clause-sound : goal.returns-clause-sound
returns-clause-sound c =
    let st = c.args.self.now in
    let ps = c.import.new.self in
    let path = at_import c.args.import in
    sound_with st c.note_path.new.self ps c.import.ensures.names c.note_path.ensures.rest
    (taken_kept path st.paths.held ps.held c.in-Ok.path c.in-Ok.ensures.ok)
    (λ are. used_taken st.graph st.paths.held st.used.items are path ps.held c.in-Ok.path
    c.note_path.new.self.used.items c.in-Ok.ensures.ok c.import.ensures.distinct c.requires.there
    c.in_ok-note_path.ensures.ok)
