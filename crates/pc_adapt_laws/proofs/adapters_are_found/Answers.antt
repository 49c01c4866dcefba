use Rattle.pc_adapt_laws.proofs.FoundLemmas.{found}
use Rattle.pc_adapt_laws.proofs.adapters_are_found.Goals as goal

pub returns : goal.returns
returns c p args m f k n lift lower b lw ww v r all counted is =
    found p args m f k n lift lower b lw ww v r all counted is
