-- The options that the code picks stand for those of the reading.
use Rattle.std.proofs.Common.{◌≡◌, ℕ, List, [], ◌∷◌, length, true, false, Bool, Option, None, Some, refl, sym, ap}
use Rattle.std.proofs.Common.{subst, if◌then◌else◌, true≢false}
use Rattle.std.specs.Prelude.{◌&&◌, nat_lt, slice_get, unwrap_or}
use Rattle.std.specs.List.{AllZip, list_all, list_any}
use Rattle.pc_numbers.specs.declared.module_entity.ModuleInternedTypeIndex.{ModuleInternedTypeIndex}
use Rattle.pc_types.specs.declared.encoding.StringEncoding.TheVariants as encoding
use Rattle.pc_types.specs.declared.module_record.ModuleRecord.{ModuleRecord}
use Rattle.pc_types.specs.declared.parsed.CoreFuncSig.{CoreFuncSig}
use Rattle.pc_types.specs.declared.parsed.CoreKind.{CoreKind}
use Rattle.pc_types.specs.declared.parsed.CoreKind.TheVariants as core
use Rattle.pc_spec_plan.specs.CoreValue as value
use Rattle.pc_spec_plan.specs.CoreValue.{CoreValue}
use Rattle.pc_parsed.specs.declared.canon.CanonOption.{CanonOption}
use Rattle.pc_parsed.specs.declared.canon.CanonOption.TheVariants as option
use Rattle.pc_parsed.specs.Mark.{Mark, of_signature}
use Rattle.pc_spec_reading.specs.Options.{callback_in, chosen, encoding_in, is_async, is_gc, is_sound_option, last_of, maybe}
use Rattle.pc_spec_reading.specs.Options.{memory_in, model_of, options_of, post_return_in, realloc_in, the_options}
use Rattle.pc_spec_reading.specs.Scope.{Scope}
use Rattle.pc_inline_state.specs.declared.definition.CoreId.{CoreId}
use Rattle.pc_inline_state.specs.declared.frame.Frame.{Frame}
use Rattle.pc_inline_state.specs.Frames.{Both, FrameStands, both, neither}
use Rattle.pc_inline_state.specs.Stands.{ItemStands, MaybeStands, ModelStands, OptionsStand, gc_stands, linear_stands}
use Rattle.pc_inline_state.specs.Stands.{none_stands, options_stand, some_stands}
use Rattle.pc_inline_state.specs.Tables.{Tables}
use Rattle.pc_inline_canon.specs.Written.{is_sound_in, options_in, picked, picked_model, picked_options, written}
use Rattle.pc_inline_state.proofs.ZipLemmas.{zip_at, zip_length}

module _ (ms : List ModuleRecord) (b : Tables) where
  -- what stands at a number that may be left out
  picked_stands : (k : CoreKind) (ns : List CoreId) (vs : List (CoreValue Mark)) (n : Option ℕ)
      → AllZip (ItemStands ms b k) ns vs → MaybeStands ms b k (picked ns n) (chosen vs n)
  picked_stands k ns vs None zip = none_stands
  picked_stands k ns vs (Some i) zip = by (slice_get ns i) (slice_get vs i) (zip_at (ItemStands ms b k) ns vs i zip)
    where
      by : (o : Option CoreId) (w : Option (CoreValue Mark)) → Both (ItemStands ms b k) o w
          → MaybeStands ms b k o (maybe w)
      by None None neither = none_stands
      by None (Some v) m = elim m [ ]
      by (Some n) None m = elim m [ ]
      by (Some n) (Some v) (both x) = some_stands x

  module _ (f : Frame) (s : Scope) (at : FrameStands ms b f s) where
    memories_length : length f.memories ≡ length s.memories
    memories_length = zip_length (ItemStands ms b core.Memory) f.memories s.memories at.memories

    funcs_length : length f.core_funcs ≡ length s.core_funcs
    funcs_length = zip_length (ItemStands ms b core.Func) f.core_funcs s.core_funcs at.core_funcs

    -- an index is sound in the code where it is in the reading
    same_soundness : (o : CanonOption) → is_sound_in f o ≡ is_sound_option s o
    same_soundness option.Utf8 = refl
    same_soundness option.Utf16 = refl
    same_soundness option.CompactUtf16 = refl
    same_soundness option.Async = refl
    same_soundness option.Gc = refl
    same_soundness (option.Memory n) = ap (nat_lt n) memories_length
    same_soundness (option.Realloc n) = ap (nat_lt n) funcs_length
    same_soundness (option.PostReturn n) = ap (nat_lt n) funcs_length
    same_soundness (option.Callback n) = ap (nat_lt n) funcs_length
    same_soundness (option.CoreType n) = refl

    all_same_soundness : (os : List CanonOption) → list_all (is_sound_in f) os ≡ list_all (is_sound_option s) os
    all_same_soundness [] = refl
    all_same_soundness (o ∷ os) =
        let first = same_soundness o in
        let rest = all_same_soundness os in
        λ i. first i && rest i

    model_stands : (os : List CanonOption) → ModelStands ms b (picked_model f (written os)) (model_of s os)
    model_stands os = by (list_any is_gc os)
      where
        by : (gc : Bool) → ModelStands ms b
            (if gc then picked_model f (record (written os) { gc = true }) else picked_model f
            (record (written os) { gc = false }))
            (if gc then value.gc else value.linear (chosen s.memories (last_of memory_in os))
            (chosen s.core_funcs (last_of realloc_in os)))
        by true = gc_stands
        by false = linear_stands (picked_stands core.Memory f.memories s.memories (last_of memory_in os) at.memories)
            (picked_stands core.Func f.core_funcs s.core_funcs (last_of realloc_in os) at.core_funcs)

    module _ (ct : ModuleInternedTypeIndex) (signature : CoreFuncSig)
        (signed : slice_get b.types.signatures ct.0 ≡ Some signature) where
      -- the options that are picked are those of the item
      picked_options_stand : (os : List CanonOption)
          → OptionsStand ms b (picked_options f ct (written os)) (the_options s signature os)
      unfolding the_options
      picked_options_stand os =
          subst (λ (c : ℕ). OptionsStand ms b (picked_options f ct (written os))
          (value.options c (unwrap_or (last_of encoding_in os) encoding.Utf8) (list_any is_async os)
          (of_signature signature) (chosen s.core_funcs (last_of callback_in os))
          (chosen s.core_funcs (last_of post_return_in os)) (model_of s os)))
          (sym at.component_instance)
          (options_stand at.begun signed
          (picked_stands core.Func f.core_funcs s.core_funcs (last_of callback_in os) at.core_funcs)
          (picked_stands core.Func f.core_funcs s.core_funcs (last_of post_return_in os) at.core_funcs)
          (model_stands os))

      -- the options are there in the code where they are in the reading, and stand for them
      pub options_in_stand : (os : List CanonOption)
          → Both (OptionsStand ms b) (options_in f ct os) (options_of s signature os)
      unfolding options_in options_of
      options_in_stand os =
          by (list_all (is_sound_in f) os) (list_all (is_sound_option s) os) (all_same_soundness os)
        where
          by : (x y : Bool) → x ≡ y
              → Both (OptionsStand ms b) (if x then Some (picked_options f ct (written os)) else None)
              (if y then Some (the_options s signature os) else None)
          by true true is = both (picked_options_stand os)
          by false false is = neither
          by true false is = absurd (true≢false is)
          by false true is = absurd (true≢false (sym is))
