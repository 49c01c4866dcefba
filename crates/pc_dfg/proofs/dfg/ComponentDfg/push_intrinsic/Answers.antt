use Rattle.pc_dfg.proofs.IntrinsicLemmas.{signature_grows, signature_ordered}
use Rattle.pc_dfg.proofs.dfg.ComponentDfg.push_intrinsic.Goals as goal

pub returns-clause-grows : goal.returns-clause-grows
returns-clause-grows c =
    signature_grows c.args.self.now c.args.intrinsic _ _ c.index-place.ensures c.requires.places c.args.signature _
    c.first_signature-first.ensures

pub returns-clause-ordered : goal.returns-clause-ordered
returns-clause-ordered c =
    signature_ordered c.args.self.now c.args.intrinsic _ _ c.index-place.ensures c.requires.places c.args.signature _
    c.first_signature-first.ensures
