-- A walk on its way: what is left of the paths leads to what the whole leads to.
use Rattle.std.proofs.Common.{◌≡◌, ℕ, ◌<◌, ◌≤◌, ◌+◌, List, [], ◌∷◌, drop, length, zero, suc, Option, Some, None, Result, Ok}
use Rattle.std.proofs.Common.{Err, refl, sym, ap, ◌∙◌, subst, arith, true, false, true≢false, get_or, IsErrAnd, if◌then◌else◌, ◌==◌}
use Rattle.std.specs.Prelude.{⊤, is_some, slice_get}
use Rattle.std.specs.Fn.{CalledAt}
use Rattle.std.specs.List.{AllZip}
use Rattle.std.proofs.lemmas.Option.{none-some, same_Some, slice_get-get_or, slice_get_within}
use denote.Ref.{Bor}
use denote.Param.Members.{Mut}
use Rattle.pc_numbers.specs.declared.runtime.ResourceIndex.{ResourceIndex}
use Rattle.pc_types_lists.specs.Known.{resource_of}
use Rattle.pc_types_lists.specs.Types.{Resources}
use Rattle.pc_types.specs.declared.parsed.TypeTable.{TypeTable}
use Rattle.pc_types_walk.specs.declared.walk.Found.{Found}
use Rattle.pc_types_walk.specs.declared.walk.Place.{Place}
use Rattle.pc_types_walk.specs.declared.walk.Walk.{Walk}
use Rattle.pc_types_walk.specs.Walks.{AreNamed, IsFound, IsWalk}
use Rattle.pc_spec_reading.specs.Resource.{ResourcePath}
use Rattle.pc_types_register.specs.declared.register.WalkError.{WalkError}
use Rattle.pc_types_register.specs.declared.register.WalkError.TheVariants as walk_error
use Rattle.pc_types_register.specs.Registers.{Knows, Registers, ended, found, passed, refused, starved}

-- the next of what was found is at the next of the paths
next_among : (names : List (List (List ℕ))) (founds : List Found) (ps : List ResourcePath)
    → AllZip (IsFound names) founds ps → (i : ℕ) (x : Found) → slice_get founds i ≡ Some x
    → (p : ResourcePath) × (drop i ps ≡ p ∷ drop (suc i) ps) × IsFound names x p
next_among names [] [] zip i x at = absurd (none-some x at)
next_among names [] (p ∷ ps) zip i x at = absurd zip
next_among names (f ∷ fs) [] zip i x at = absurd zip
next_among names (f ∷ fs) (p ∷ ps) zip zero x at =
    (p, refl, subst (λ y. IsFound names y p) (same_Some f x at) zip.0)
next_among names (f ∷ fs) (p ∷ ps) zip (suc i) x at = next_among names fs ps zip.1 i x at

-- the same by the number of the one behind it
pub next_path : (names : List (List (List ℕ))) (founds : List Found) (ps : List ResourcePath)
    → AllZip (IsFound names) founds ps → (i : ℕ) (x : Found) → slice_get founds i ≡ Some x
    → (p : ResourcePath) × (drop i ps ≡ p ∷ drop (i + 1) ps) × IsFound names x p
next_path names founds ps zip i x at =
    let n = next_among names founds ps zip i x at in
    let one : suc i ≡ i + 1 = omega arith in
    (n.0, subst (λ m. drop i ps ≡ n.0 ∷ drop m ps) one n.1, n.2)

-- none is left behind the last
pub none_left : (names : List (List (List ℕ))) (founds : List Found) (ps : List ResourcePath)
    → AllZip (IsFound names) founds ps → (i : ℕ) → length founds ≤ i → drop i ps ≡ []
none_left names [] [] zip zero past = refl
none_left names [] [] zip (suc i) past = refl
none_left names [] (p ∷ ps) zip i past = absurd zip
none_left names (f ∷ fs) [] zip i past = absurd zip
none_left names (f ∷ fs) (p ∷ ps) zip zero past = absurd (omega (arith, past))
none_left names (f ∷ fs) (p ∷ ps) zip (suc i) past = none_left names fs ps zip.1 i (omega (arith, past))

-- so it is in a loop over what a walk found
pub next_found : (t : TypeTable) (w : Walk) (ps : List ResourcePath) (walk : IsWalk t w ps) (founds : List Found)
    → founds ≡ w.found → (i : ℕ) (d : Found) → i < length founds
    → (p : ResourcePath) × (drop i ps ≡ p ∷ drop (i + 1) ps) × IsFound walk.names (get_or founds i d) p
next_found t w ps walk founds are i d within =
    next_path walk.names founds ps (subst (λ fs. AllZip (IsFound walk.names) fs ps) (sym are) walk.found) i
    (get_or founds i d) (slice_get-get_or founds i d within)

-- and behind it
pub none_more : (t : TypeTable) (w : Walk) (ps : List ResourcePath) → IsWalk t w ps → (founds : List Found)
    → founds ≡ w.found → (i : ℕ) → length founds ≤ i → drop i ps ≡ []
none_more t w ps walk founds are i past =
    none_left walk.names founds ps (subst (λ fs. AllZip (IsFound walk.names) fs ps) (sym are) walk.found) i past

-- what was found stands at a place of the walk
pub place_there : (t : TypeTable) (w : Walk) (ps : List ResourcePath) (walk : IsWalk t w ps) (x : Found)
    (p : ResourcePath) → IsFound walk.names x p → (places : List Place) → places ≡ w.places → x.place ≤ length places
place_there t w ps walk x p is places are =
    let within = slice_get_within walk.names x.place p.names is.1 in
    omega (arith, within, walk.named.count, ap length are)

-- the path to it that was written out is its path
pub path_is : (t : TypeTable) (w : Walk) (ps : List ResourcePath) (walk : IsWalk t w ps) (x : Found)
    (p : ResourcePath) → IsFound walk.names x p → (places : List Place) → places ≡ w.places → (path : List (List ℕ))
    → ((names : List (List (List ℕ))) → AreNamed t places names → slice_get names x.place ≡ Some path)
    → path ≡ p.names
path_is t w ps walk x p is places are path written =
    same_Some path p.names
    (sym (written walk.names (subst (λ l. AreNamed t l walk.names) (sym are) walk.named)) ∙ is.1)

-- what is there is something
pub something : {A : Type 0} (o : Option A) → is_some o ≡ true → (x : A) × (o ≡ Some x)
something None h = absurd (true≢false (sym h))
something (Some x) h = (x, refl)

-- and what isn't is nothing
pub nothing : {A : Type 0} (o : Option A) → is_some o ≡ false → o ≡ None
nothing None h = refl
nothing (Some x) h = absurd (true≢false h)

-- a number that is another's name becomes known
pub knows_so : (old : Resources) (n m : ℕ) (r : ResourceIndex) (new : Resources) → n ≡ m
    → ((q : ℕ) → resource_of new.known q ≡ (if q == n then Some r else resource_of old.known q))
    → new.current ≡ old.current → Knows old m r new
knows_so old n m r new same known current = record {
  known = λ q. known q ∙ ap (λ k. if q == k then Some r else resource_of old.known q) same;
  current = current;
}

module _ {F E : Type 0} (calls : Mut F (Bor (List (List ℕ)) × Unit {0}) (Result ResourceIndex E)) (f : F)
    (all : List ResourcePath) (old : Resources) where
  -- where the paths from this one on lead, all lead
  abbrev pub Goes : ℕ → F → Resources → Type 0
  Goes i g k =
      (j : Resources) (result : Result ⊤ (WalkError E)) → Registers calls g (drop i all) k j result
      → Registers calls f all old j result

  -- at first
  pub goes_start : Goes 0 f old
  goes_start j result h = h

  module _ (i : ℕ) (g : F) (k : Resources) (goes : Goes i g k) where
    -- there was no memory
    pub goes_starved : (r : Result ⊤ (WalkError E)) → IsErrAnd r (λ e. e ≡ walk_error.NoMemory)
        → Registers calls f all old k r
    goes_starved (Ok x) is = absurd is
    goes_starved (Err e) is =
        subst (λ x. Registers calls f all old k (Err x)) (sym is) (goes k (Err walk_error.NoMemory) starved)

    -- the same where what is known is called otherwise
    pub goes_starved_as : (m : Resources) → m ≡ k → (r : Result ⊤ (WalkError E))
        → IsErrAnd r (λ e. e ≡ walk_error.NoMemory) → Registers calls f all old m r
    goes_starved_as m same r is = subst (λ x. Registers calls f all old x r) (sym same) (goes_starved r is)

    -- no path is left
    pub goes_ended : drop i all ≡ [] → Registers calls f all old k (Ok tt)
    goes_ended none =
        goes k (Ok tt) (subst (λ ps. Registers calls g ps k k (Ok tt)) (sym none) ended)

    module _ (p : ResourcePath) (at : drop i all ≡ p ∷ drop (i + 1) all) where
      -- the next number is known
      pub goes_passed : (r : ResourceIndex) → resource_of k.known p.number ≡ Some r → Goes (i + 1) g k
      goes_passed r known j result h =
          goes j result (subst (λ ps. Registers calls g ps k j result) (sym at) (passed r known h))

      -- it becomes known
      pub goes_found : (r : ResourceIndex) (h : F) (m : Resources) → resource_of k.known p.number ≡ None
          → CalledAt calls g p.names (Ok r) h → Knows k p.number r m → Goes (i + 1) h m
      goes_found r h m none called knows j result rest =
          goes j result (subst (λ ps. Registers calls g ps k j result) (sym at) (found r h m none called knows rest))

      -- nothing is found
      pub goes_refused : (e : E) (h : F) → resource_of k.known p.number ≡ None → CalledAt calls g p.names (Err e) h
          → Registers calls f all old k (Err (walk_error.Find e))
      goes_refused e h none called =
          goes k (Err (walk_error.Find e))
          (subst (λ ps. Registers calls g ps k k (Err (walk_error.Find e))) (sym at) (refused e h none called))
