-- What is planned for an adapter is short.
use Rattle.std.proofs.Common.{◌≤◌, ℕ, Bool, true, false, ◌&&◌, ◌||◌, List, [], ◌∷◌, ◌++◌, length, map, arith}
use Rattle.std.proofs.Common.{length-append}
use Rattle.std.specs.Prelude.{if◌then◌else◌}
use Rattle.std.proofs.lemmas.List.{length-map}
use Rattle.pc_types.specs.declared.encoding.StringEncoding.{StringEncoding}
use Rattle.pc_types.specs.declared.encoding.StringEncoding.TheVariants as encoding
use Rattle.pc_types.specs.declared.trampoline.TrampolineKind.{TrampolineKind}
use Rattle.pc_types.specs.declared.trampoline.TrampolineKind.TheVariants as kind
use Rattle.pc_types_lists.specs.declared.facts.TypeFacts.{TypeFacts}
use Rattle.pc_types_lists.specs.Facts.{join}
use Rattle.pc_spec_plan.specs.CoreValue as value
use Rattle.pc_spec_plan.specs.CoreValue.{CoreValue, DataModel, MaybeValue}
use Rattle.pc_trampoline.specs.declared.part.Mark.{Mark}
use Rattle.pc_trampoline.specs.declared.transcode.Transcode.{Transcode}
use Rattle.pc_spec_adapt.specs.Asked.{FunctionFacts}
use Rattle.pc_spec_adapt.specs.Import.{Import}
use Rattle.pc_spec_adapt.specs.Planned.{all_facts, calls, flags_of, function, function_if, helper, memory_if, memory_in}
use Rattle.pc_spec_adapt.specs.Planned.{planned, realloc_in, side, transcoder, transcoders, transcodings, transfer_if}
use Rattle.pc_spec_adapt.specs.Planned.{transfers}

function_few : (s : Mark) (v : MaybeValue Mark) → length (function_if s v) ≤ 1
function_few s value.no_value = omega arith
function_few s (value.a_value v) = omega arith

memory_few : (w : Bool) (v : MaybeValue Mark) → length (memory_if w v) ≤ 1
memory_few w value.no_value = omega arith
memory_few w (value.a_value v) = omega arith

side_few : (s : Mark) (w : Bool) (m : DataModel Mark) (cb pr : MaybeValue Mark) → length (side s w m cb pr) ≤ 4
side_few s w m cb pr =
    let xs = memory_if w (memory_in m) in
    let ys = function_if s (realloc_in m) in
    let zs = function_if s cb in
    let ws = function_if s pr in
    omega (
      arith,
      memory_few w (memory_in m),
      function_few s (realloc_in m),
      function_few s cb,
      function_few s pr,
      length-append (xs ++ ys ++ zs) ws,
      length-append (xs ++ ys) zs,
      length-append xs ys,
    )

ops_few : (a b : StringEncoding) → length (transcodings a b) ≤ 2
ops_few encoding.Utf8 encoding.Utf8 = omega arith
ops_few encoding.Utf8 encoding.Utf16 = omega arith
ops_few encoding.Utf8 encoding.CompactUtf16 = omega arith
ops_few encoding.Utf16 encoding.Utf8 = omega arith
ops_few encoding.Utf16 encoding.Utf16 = omega arith
ops_few encoding.Utf16 encoding.CompactUtf16 = omega arith
ops_few encoding.CompactUtf16 encoding.Utf8 = omega arith
ops_few encoding.CompactUtf16 encoding.Utf16 = omega arith
ops_few encoding.CompactUtf16 encoding.CompactUtf16 = omega arith

transcoders_few : (s : Mark) (ops : List Transcode) (fw tw : Bool) (from to : MaybeValue Mark) → length ops ≤ 2
    → length (transcoders s ops fw tw from to) ≤ 2
transcoders_few s ops fw tw value.no_value to few = omega arith
transcoders_few s ops fw tw (value.a_value v) value.no_value few = omega arith
transcoders_few s ops fw tw (value.a_value v) (value.a_value w) few =
    omega (arith, few, length-map ops (transcoder s fw tw v w))

if_few : (b : Bool) (n : ℕ) (xs : List (Import Mark)) → length xs ≤ n → length (if b then xs else []) ≤ n
if_few true n xs few = few
if_few false n xs few = omega arith

transfer_few : (b : Bool) (k : TrampolineKind) → length (transfer_if b k) ≤ 1
transfer_few true k = omega arith
transfer_few false k = omega arith

transfers_few : (x : TypeFacts) → length (transfers x) ≤ 5
transfers_few x =
    let a = transfer_if x.own kind.ResourceTransferOwn in
    let b = transfer_if x.borrow kind.ResourceTransferBorrow in
    let c = transfer_if x.future kind.FutureTransfer in
    let d = transfer_if x.stream kind.StreamTransfer in
    let e = transfer_if x.error_context kind.ErrorContextTransfer in
    five a b c d e (transfer_few x.own _) (transfer_few x.borrow _) (transfer_few x.future _)
    (transfer_few x.stream _) (transfer_few x.error_context _)
  where
    five : (a b c d e : List TrampolineKind) → length a ≤ 1 → length b ≤ 1 → length c ≤ 1 → length d ≤ 1
        → length e ≤ 1 → length (a ++ b ++ c ++ d ++ e) ≤ 5
    five a b c d e ha hb hc hd he =
        omega (
          arith,
          ha,
          hb,
          hc,
          hd,
          he,
          length-append (a ++ b ++ c ++ d) e,
          length-append (a ++ b ++ c) d,
          length-append (a ++ b) c,
          length-append a b,
        )

calls_few : (s : Mark) (a t : Bool) (m cb pr : MaybeValue Mark) → length (calls s a t m cb pr) ≤ 2
calls_few s true t m cb pr = omega arith
calls_few s false true m cb pr = omega arith
calls_few s false false m cb pr = omega arith

eight : (a b c d e f g h : List (Import Mark)) → length a ≤ 3 → length b ≤ 4 → length c ≤ 4 → length d ≤ 2
    → length e ≤ 2 → length f ≤ 5 → length g ≤ 2 → length h ≤ 1
    → length (a ++ b ++ c ++ d ++ e ++ f ++ g ++ h) ≤ 23
eight a b c d e f g h ha hb hc hd he hf hg hh =
    omega (
      arith,
      ha,
      hb,
      hc,
      hd,
      he,
      hf,
      hg,
      hh,
      length-append (a ++ b ++ c ++ d ++ e ++ f ++ g) h,
      length-append (a ++ b ++ c ++ d ++ e ++ f) g,
      length-append (a ++ b ++ c ++ d ++ e) f,
      length-append (a ++ b ++ c ++ d) e,
      length-append (a ++ b ++ c) d,
      length-append (a ++ b) c,
      length-append a b,
    )

-- at most 23 imports
pub planned_few : (lift lower : FunctionFacts) (b lw ww : Bool) (v : CoreValue Mark)
    → length (planned lift lower b lw ww v) ≤ 23
unfolding planned
planned_few lift lower b lw ww
    (value.adapter ty (value.options c e a s cb pr m) ty2 (value.options c2 e2 a2 s2 cb2 pr2 m2) v) =
    let params = transcoders s2 (transcodings e2 e) ww lw (memory_in m2) (memory_in m) in
    let results = transcoders s2 (transcodings e e2) lw ww (memory_in m) (memory_in m2) in
    let ks = transfers (join (all_facts lift) (all_facts lower)) in
    eight (function s v ∷ flags_of c2 ∷ flags_of c ∷ []) (side s2 lw m cb pr) (side s2 ww m2 cb2 pr2)
    (if lift.params.string && lower.params.string then params else [])
    (if lift.results.string && lower.results.string then results else [])
    (map (λ k. helper k [] s2 value.no_parts) ks)
    (calls s2 (a || a2 || lift.is_async || lower.is_async) b (memory_in m) cb pr)
    (helper kind.Trap (1 ∷ []) s2 value.no_parts ∷ []) (omega arith) (side_few s2 lw m cb pr)
    (side_few s2 ww m2 cb2 pr2)
    (if_few (lift.params.string && lower.params.string) 2 params
    (transcoders_few s2 (transcodings e2 e) ww lw (memory_in m2) (memory_in m) (ops_few e2 e)))
    (if_few (lift.results.string && lower.results.string) 2 results
    (transcoders_few s2 (transcodings e e2) lw ww (memory_in m) (memory_in m2) (ops_few e e2)))
    (omega (
      arith,
      length-map ks (λ k. helper k [] s2 value.no_parts),
      transfers_few (join (all_facts lift) (all_facts lower)),
    ))
    (calls_few s2 (a || a2 || lift.is_async || lower.is_async) b (memory_in m) cb pr) (omega arith)
planned_few lift lower b lw ww (value.exported n item) = omega arith
planned_few lift lower b lw ww (value.lowered path ty o) = omega arith
planned_few lift lower b lw ww (value.builtin k c ps) = omega arith
planned_few lift lower b lw ww (value.intrinsic i) = omega arith
planned_few lift lower b lw ww (value.flags c) = omega arith
planned_few lift lower b lw ww (value.helper k ps) = omega arith
