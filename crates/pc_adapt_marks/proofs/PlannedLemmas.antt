-- What is planned for an adapter follows its marks: with other marks it is what is planned for the adapter with those.
use Rattle.std.proofs.Common.{◌≡◌, ◌&&◌, ◌||◌, Bool, true, false, if◌then◌else◌, List, [], ◌∷◌, ◌++◌, map, refl, sym}
use Rattle.std.proofs.Common.{ap, ◌∙◌}
use Rattle.std.proofs.lemmas.List.{map-append}
use Rattle.pc_types.specs.declared.trampoline.TrampolineKind.{TrampolineKind}
use Rattle.pc_types.specs.declared.trampoline.TrampolineKind.TheVariants as kind
use Rattle.pc_trampoline.specs.declared.transcode.Transcode.{Transcode}
use Rattle.pc_spec_plan.specs.CoreValue as value
use Rattle.pc_spec_plan.specs.CoreValue.{CoreValue, DataModel, MaybeValue, map_maybe, map_model, map_value}
use Rattle.pc_spec_adapt.specs.Asked.{FunctionFacts}
use Rattle.pc_spec_adapt.specs.Import.{Import, map_import}
use Rattle.pc_spec_adapt.specs.Planned.{all_facts, calls, flags_of, function, function_if, helper, memory_if, memory_in}
use Rattle.pc_spec_adapt.specs.Planned.{planned, realloc_in, side, transcoder, transcoders, transcodings, transfers}
use Rattle.pc_types_lists.specs.Facts.{join}

module _ {τ υ : Type 0} (f : τ → υ) where
  abbrev mapped : List (Import τ) → List (Import υ)
  mapped is = map (map_import f) is

  function_mapped : (s : τ) (v : MaybeValue τ) → function_if (f s) (map_maybe f v) ≡ mapped (function_if s v)
  function_mapped s value.no_value = refl
  function_mapped s (value.a_value v) = refl

  memory_mapped : (w : Bool) (v : MaybeValue τ) → memory_if w (map_maybe f v) ≡ mapped (memory_if w v)
  memory_mapped w value.no_value = refl
  memory_mapped w (value.a_value v) = refl

  memory_there : (m : DataModel τ) → memory_in (map_model f m) ≡ map_maybe f (memory_in m)
  memory_there value.gc = refl
  memory_there (value.linear memory realloc) = refl

  realloc_there : (m : DataModel τ) → realloc_in (map_model f m) ≡ map_maybe f (realloc_in m)
  realloc_there value.gc = refl
  realloc_there (value.linear memory realloc) = refl

  side_mapped : (s : τ) (w : Bool) (m : DataModel τ) (callback post_return : MaybeValue τ)
      → side (f s) w (map_model f m) (map_maybe f callback) (map_maybe f post_return)
      ≡ mapped (side s w m callback post_return)
  side_mapped s w m callback post_return =
      let a = memory_if w (memory_in m) in
      let b = function_if s (realloc_in m) in
      let c = function_if s callback in
      let d = function_if s post_return in
      let first = ap (memory_if w) (memory_there m) ∙ memory_mapped w (memory_in m) in
      let second = ap (function_if (f s)) (realloc_there m) ∙ function_mapped s (realloc_in m) in
      let third = function_mapped s callback in
      let fourth = function_mapped s post_return in
      (λ i. first i ++ second i ++ third i ++ fourth i)
      ∙ ap (λ xs. xs ++ mapped c ++ mapped d) (sym (map-append (map_import f) a b))
      ∙ ap (λ xs. xs ++ mapped d) (sym (map-append (map_import f) (a ++ b) c))
      ∙ sym (map-append (map_import f) (a ++ b ++ c) d)

  each_transcoder : (s : τ) (from_wide to_wide : Bool) (from to : CoreValue τ) (hows : List Transcode)
      → map (transcoder (f s) from_wide to_wide (map_value f from) (map_value f to)) hows
      ≡ mapped (map (transcoder s from_wide to_wide from to) hows)
  each_transcoder s from_wide to_wide from to [] = refl
  each_transcoder s from_wide to_wide from to (how ∷ hows) =
      let rest = each_transcoder s from_wide to_wide from to hows in
      λ i. transcoder (f s) from_wide to_wide (map_value f from) (map_value f to) how ∷ rest i

  transcoders_mapped : (s : τ) (hows : List Transcode) (from_wide to_wide : Bool) (from to : MaybeValue τ)
      → transcoders (f s) hows from_wide to_wide (map_maybe f from) (map_maybe f to)
      ≡ mapped (transcoders s hows from_wide to_wide from to)
  transcoders_mapped s hows fw tw (value.a_value from) (value.a_value to) = each_transcoder s fw tw from to hows
  transcoders_mapped s hows fw tw (value.a_value from) value.no_value = refl
  transcoders_mapped s hows fw tw value.no_value (value.a_value to) = refl
  transcoders_mapped s hows fw tw value.no_value value.no_value = refl

  moved_mapped : (moved : Bool) (s : τ) (hows : List Transcode) (from_wide to_wide : Bool) (m n : DataModel τ)
      → (if moved then transcoders (f s) hows from_wide to_wide (memory_in (map_model f m)) (memory_in (map_model f n))
      else []) ≡ mapped (if moved then transcoders s hows from_wide to_wide (memory_in m) (memory_in n) else [])
  moved_mapped true s hows fw tw m n =
      (λ i. transcoders (f s) hows fw tw (memory_there m i) (memory_there n i))
      ∙ transcoders_mapped s hows fw tw (memory_in m) (memory_in n)
  moved_mapped false s hows fw tw m n = refl

  helpers_mapped : (s : τ) (ks : List TrampolineKind)
      → map (λ k. helper k [] (f s) value.no_parts) ks ≡ mapped (map (λ k. helper k [] s value.no_parts) ks)
  helpers_mapped s [] = refl
  helpers_mapped s (k ∷ ks) = let rest = helpers_mapped s ks in λ i. helper k [] (f s) value.no_parts ∷ rest i

  calls_mapped : (s : τ) (is_async is_transparent : Bool) (memory callback post_return : MaybeValue τ)
      → calls (f s) is_async is_transparent (map_maybe f memory) (map_maybe f callback) (map_maybe f post_return)
      ≡ mapped (calls s is_async is_transparent memory callback post_return)
  calls_mapped s true t memory callback post_return = refl
  calls_mapped s false true memory callback post_return = refl
  calls_mapped s false false memory callback post_return = refl

  eight_mapped : (a b c d e g h k : List (Import τ))
      → mapped a ++ mapped b ++ mapped c ++ mapped d ++ mapped e ++ mapped g ++ mapped h ++ mapped k
      ≡ mapped (a ++ b ++ c ++ d ++ e ++ g ++ h ++ k)
  eight_mapped a b c d e g h k =
      ap (λ xs. xs ++ mapped c ++ mapped d ++ mapped e ++ mapped g ++ mapped h ++ mapped k)
      (sym (map-append (map_import f) a b))
      ∙ ap (λ xs. xs ++ mapped d ++ mapped e ++ mapped g ++ mapped h ++ mapped k)
      (sym (map-append (map_import f) (a ++ b) c))
      ∙ ap (λ xs. xs ++ mapped e ++ mapped g ++ mapped h ++ mapped k)
      (sym (map-append (map_import f) (a ++ b ++ c) d))
      ∙ ap (λ xs. xs ++ mapped g ++ mapped h ++ mapped k) (sym (map-append (map_import f) (a ++ b ++ c ++ d) e))
      ∙ ap (λ xs. xs ++ mapped h ++ mapped k) (sym (map-append (map_import f) (a ++ b ++ c ++ d ++ e) g))
      ∙ ap (λ xs. xs ++ mapped k) (sym (map-append (map_import f) (a ++ b ++ c ++ d ++ e ++ g) h))
      ∙ sym (map-append (map_import f) (a ++ b ++ c ++ d ++ e ++ g ++ h) k)

  pub planned_mapped : (lift lower : FunctionFacts) (t lift_wide lower_wide : Bool) (v : CoreValue τ)
      → planned lift lower t lift_wide lower_wide (map_value f v) ≡ mapped (planned lift lower t lift_wide lower_wide v)
  unfolding planned
  planned_mapped lift lower t lw ww
      (value.adapter ty (value.options c e a s callback post_return m) ty2
      (value.options c2 e2 a2 s2 callback2 post_return2 m2) callee) =
      let first = side_mapped s2 lw m callback post_return in
      let second = side_mapped s2 ww m2 callback2 post_return2 in
      let third = moved_mapped (lift.params.string && lower.params.string) s2 (transcodings e2 e) ww lw m2 m in
      let fourth = moved_mapped (lift.results.string && lower.results.string) s2 (transcodings e e2) lw ww m m2 in
      let kinds = transfers (join (all_facts lift) (all_facts lower)) in
      let fifth = helpers_mapped s2 kinds in
      let is_async = a || a2 || lift.is_async || lower.is_async in
      let sixth =
      ap (λ n. calls (f s2) is_async t n (map_maybe f callback) (map_maybe f post_return)) (memory_there m)
      ∙ calls_mapped s2 is_async t (memory_in m) callback post_return in
      let front = function s callee ∷ flags_of c2 ∷ flags_of c ∷ [] in
      let end = helper kind.Trap (1 ∷ []) s2 value.no_parts ∷ [] in
      (λ i. mapped front ++ first i ++ second i ++ third i ++ fourth i ++ fifth i ++ sixth i ++ mapped end)
      ∙ eight_mapped front (side s2 lw m callback post_return) (side s2 ww m2 callback2 post_return2)
      (if lift.params.string && lower.params.string
      then transcoders s2 (transcodings e2 e) ww lw (memory_in m2) (memory_in m) else [])
      (if lift.results.string && lower.results.string
      then transcoders s2 (transcodings e e2) lw ww (memory_in m) (memory_in m2) else [])
      (map (λ k. helper k [] s2 value.no_parts) kinds)
      (calls s2 is_async t (memory_in m) callback post_return) end
  planned_mapped lift lower t lw ww (value.exported n item) = refl
  planned_mapped lift lower t lw ww (value.lowered path ty o) = refl
  planned_mapped lift lower t lw ww (value.builtin k c parts) = refl
  planned_mapped lift lower t lw ww (value.intrinsic n) = refl
  planned_mapped lift lower t lw ww (value.flags c) = refl
  planned_mapped lift lower t lw ww (value.helper k parts) = refl
