use Rattle.pc_stream.proofs.StreamLemmas.{front-copied}
use Rattle.pc_stream.proofs.sources.SureSourceSource.read.Goals as goal

pub returns-clause-given : goal.returns-clause-given
returns-clause-given c =
    front-copied c.self.inside.bytes.items c.deref.result.now c.args.self.now c.copy_from_slice.new.self c.args.buf.now
    c.self.inside.given c.min-n.result
    c.deref.ensures.value c.self.view_is c.copy_from_slice.ensures.after c.min-n.ensures
