-- Resource numbers can be read as paths tell them, and what is held where they fit a graph is held so.
use Rattle.std.proofs.Common.{◌≡◌, ◌+◌, ℕ, zero, suc, List, [], ◌∷◌, length, Some, sym, ap, ◌∙◌, arith}
use Rattle.std.specs.List.{AllZip}
use Rattle.std.specs.Prelude.{slice_get}
use Rattle.std.proofs.lemmas.Option.{none-some, same_Some}
use Rattle.pc_numbers.specs.declared.runtime.ResourceIndex.{ResourceIndex}
use Rattle.pc_numbers.specs.declared.runtime.RuntimeImportIndex.{RuntimeImportIndex}
use Rattle.pc_types.specs.TypeTree.{Identity, Path, declared, imported}
use Rattle.pc_types_lists.specs.Types.{Types}
use Rattle.pc_trampoline.specs.declared.part.Mark.{Mark}
use Rattle.pc_trampoline.specs.declared.part.Mark.TheVariants as mark
use Rattle.pc_parsed.specs.Mark as reading
use Rattle.pc_dfg.specs.declared.dfg.ComponentDfg.{ComponentDfg}
use Rattle.pc_dfg.specs.Means.{HasPath}
use Rattle.pc_inline_state.specs.Fits.{Fits, path_of}
use Rattle.pc_inline_state.specs.Holds.{Holds, Numbered, ReadsAs}
use Rattle.pc_inline_state.proofs.ZipLemmas.{both_there, zip_at, zip_length}

-- the resource of a number: that of its path, or one that was declared
identity_at : List Path → ℕ → Identity
identity_at [] n = declared n
identity_at (p ∷ ps) zero = imported p
identity_at (p ∷ ps) (suc n) = identity_at ps n

given_at : (ps : List Path) (n : ℕ) (p : Path) → slice_get ps n ≡ Some p → identity_at ps n ≡ imported p
unfolding identity_at
given_at [] n p at = absurd (none-some p at)
given_at (q ∷ ps) zero p at = ap imported (same_Some q p at)
given_at (q ∷ ps) (suc n) p at = given_at ps n p at

own_at : (ps : List Path) (n : ℕ) → identity_at ps (length ps + n) ≡ declared n
unfolding identity_at
own_at [] n = let none : 0 + n ≡ n = omega arith in ap declared none
own_at (p ∷ ps) n =
    let next : length (p ∷ ps) + n ≡ suc (length ps + n) = omega arith in
    ap (identity_at (p ∷ ps)) next ∙ own_at ps n

-- whatever the paths are, resource numbers can be read so
pub some_reading : (paths : List Path) → (who : ResourceIndex → Identity) × ReadsAs paths who
some_reading paths = (
  λ r. identity_at paths r.0,
  record { given = given_at paths; own = own_at paths },
)

-- read so, they fit a graph whose imported resources stand at these paths
pub reads_fit : (g : ComponentDfg) (paths : List Path)
    → AllZip (λ (r : RuntimeImportIndex). HasPath g r.0) g.imported_resources paths
    → (who : ResourceIndex → Identity) → ReadsAs paths who → Fits g who
reads_fit g paths zip who reads = record {
  given = λ n r i at import.
      let there = both_there (λ (r : RuntimeImportIndex). HasPath g r.0) (slice_get g.imported_resources n)
      (slice_get paths n) r (zip_at (λ (r : RuntimeImportIndex). HasPath g r.0) g.imported_resources paths n zip) at in
      reads.given n there.0 there.1 ∙ ap imported (ap path_of (same_Some _ i (sym there.2 ∙ import)));
  own = λ n below.
      let same = zip_length (λ (r : RuntimeImportIndex). HasPath g r.0) g.imported_resources paths zip in
      ap (λ k. who (record { 0 = k + n })) same ∙ reads.own n;
}

module _ (types : Types) (fits reads : (ResourceIndex → Identity) → Type 0)
    (fit : (who : ResourceIndex → Identity) → reads who → fits who) where
  -- what is held where resource numbers are read in some way is held where they are read in a way that is one of those
  pub holds_so : (m : Mark) (w : reading.Mark) → Holds types fits m w → Holds types reads m w
  unfolding Holds
  holds_so (mark.Type_ ty) (reading.of_type tree) h = λ who r. h who (fit who r)
  holds_so (mark.Type_ ty) (reading.of_signature s) h = h
  holds_so (mark.Signature n) (reading.of_type tree) h = h
  holds_so (mark.Signature n) (reading.of_signature s) h = h

  -- a mark with what it stands for
  abbrev pub so : Numbered types fits → Numbered types reads
  so m = record { number = m.number; whole = m.whole; holds = holds_so m.number m.whole m.holds }
