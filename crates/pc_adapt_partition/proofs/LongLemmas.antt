-- What a module of adapters imports: at most 23 things for each adapter.
use Rattle.std.proofs.Common.{◌≡◌, ◌≤◌, ◌<◌, inl, inr, ℕ, suc, ◌+◌, ◌*◌, Bool, List, [], ◌∷◌, length, refl, ap, arith}
use Rattle.std.specs.Prelude.{Some, slice_get}
use Rattle.std.specs.List.{AllZip}
use Rattle.std.proofs.lemmas.Option.{slice_get_within}
use Rattle.pc_spec_plan.specs.CoreValue.{CoreValue}
use Rattle.pc_trampoline.specs.declared.part.Mark.{Mark}
use Rattle.pc_trampoline.specs.declared.part.Mark.TheVariants as mark
use Rattle.pc_dfg.specs.declared.adapter.Adapter.{Adapter}
use Rattle.pc_dfg.specs.declared.dfg.ComponentDfg.{ComponentDfg}
use Rattle.pc_spec_adapt.specs.Asked.{FunctionFacts}
use Rattle.pc_spec_adapt.specs.Planned.{planned}
use Rattle.pc_spec_adapt.specs.Split.{IsFewest}
use Rattle.pc_adapt_laws.proofs.ShortLemmas.{planned_few}
use Rattle.pc_adapt_groups.specs.Lengths.{runs_from}
use Rattle.pc_adapt_groups.specs.Needs.{Needs}
use Rattle.pc_adapt.specs.Imports.{imports_of, is_transparent}
use Rattle.pc_adapt.specs.Planned.{StandsFor, is_wide}
use Rattle.pc_adapt.proofs.PlannedLemmas.{planned_alike}
use Rattle.pc_adapt_partition.specs.Made.{HasLong, cut}
use Rattle.pc_adapt_partition.specs.Parts.{parts_of, total_imports}
use Rattle.pc_adapt_partition.specs.Wired.{HaveValues}
use Rattle.pc_adapt_partition.proofs.CutLemmas.{StandIn, held_cut, held_in, stand_cut}
use Rattle.pc_adapt_partition.proofs.GivenLemmas.{StandFrom, stand_first, stand_rest}
use Rattle.pc_adapt_partition.proofs.SplitLemmas.{all_lengths}

-- lists that stand for each other are of one length
zip_long : {A B : Type 0} (R : A → B → Type 0) (xs : List A) (ys : List B) → AllZip R xs ys → length xs ≡ length ys
zip_long R [] [] zip = refl
zip_long R [] (y ∷ ys) zip = absurd zip
zip_long R (x ∷ xs) [] zip = absurd zip
zip_long R (x ∷ xs) (y ∷ ys) zip = ap suc (zip_long R xs ys zip.1)

module _ (lift lower : ℕ → FunctionFacts) (g : ComponentDfg) (vs : ℕ → CoreValue Mark) (have : HaveValues g vs) where
  -- one adapter
  one_short : (l r : FunctionFacts) (b : Bool) (a : ℕ) (x : Adapter) → slice_get g.adapters a ≡ Some x
      → length (imports_of l r b x) ≤ 23
  one_short l r b a x at =
      let lw = is_wide x.lift_options.data_model in
      let ww = is_wide x.lower_options.data_model in
      let zip = planned_alike g (record { 0 = a }) x (vs a) l r b at (have a (slice_get_within g.adapters a x at)) in
      let same = zip_long (StandsFor g (mark.Signature x.lower_options.core_type)) (imports_of l r b x)
      (planned l r b lw ww (vs a)) zip in
      omega (arith, same, planned_few l r b lw ww (vs a))

  -- adapters of the graph, one after the other
  all_short : (n : ℕ) (xs : List Adapter) → StandFrom n g.adapters xs
      → total_imports (parts_of lift lower (is_transparent g) n xs) ≤ 23 * length xs
  all_short n [] stand = omega arith
  all_short n (x ∷ xs) stand =
      let rest = all_short (n + 1) xs (stand_rest n g.adapters x xs stand) in
      let here = one_short (lift n) (lower n) (is_transparent g n) n x (stand_first n g.adapters x xs stand) in
      omega (arith, rest, here)

  -- so where a group imports too many things, there are many adapters
  long_some : (n : ℕ) (gs : List (List Adapter)) → StandIn n g.adapters gs → HasLong lift lower (is_transparent g) n gs
      → 4294967294 < 23 * held_in gs
  long_some n [] stand long = absurd long
  long_some n (xs ∷ gs) stand (inl here) = let few = all_short n xs stand.0 in omega (arith, few, here)
  long_some n (xs ∷ gs) stand (inr rest) =
      let more = long_some (n + length xs) gs stand.1 rest in omega (arith, more)

  pub long_many : (ls : List ℕ) → IsFewest (Needs g) (length g.adapters) (runs_from 0 ls)
      → HasLong lift lower (is_transparent g) 0 (cut ls 0 g.adapters) → 4294967294 < 23 * length g.adapters
  long_many ls fewest long =
      let all = all_lengths (Needs g) (length g.adapters) ls fewest in
      let more = long_some 0 (cut ls 0 g.adapters) (stand_cut ls 0 g.adapters (omega (arith, all))) long in
      omega (arith, more, all, held_cut ls 0 g.adapters (omega (arith, all)))
