use Rattle.pc_entity.proofs.LookupLemmas.{found_at}
use Rattle.pc_inline_paths.specs.Paths.{further}
use Rattle.pc_inline_state.proofs.PathLemmas.{sound_with, taken_kept, used_taken}
use Rattle.pc_inline_state.proofs.state.State.path_to_member.Goals as goal

pub returns-clause-sound : goal.returns-clause-sound
returns-clause-sound c =
    let st = c.args.self.now in
    let ps = c.member.new.self in
    let p = found_at st.paths.held c.args.parent.0 c.requires.held in
    let name = found_at st.paths.names c.args.number.0 c.requires.named in
    let takes = c.in-Ok.ensures.ok p.0 name.0 p.1 name.1 in
    sound_with st c.note_path.new.self ps c.member.ensures.names c.note_path.ensures.rest
    (taken_kept (further p.0 name.0) st.paths.held ps.held c.in-Ok.path takes)
    (λ are. used_taken st.graph st.paths.held st.used.items are (further p.0 name.0) ps.held c.in-Ok.path
    c.note_path.new.self.used.items takes c.member.ensures.distinct (are.imports c.args.parent.0 p.0 p.1)
    c.in_ok-note_path.ensures.ok)
