-- Where `==` of values without fields answers true, the two are one.
use Rattle.std.specs.Prelude.{◌≡◌, true}
use denote.Enum.Bare.{same_true}
use Rattle.pc_types.specs.contracts.encoding.StringEncoding as encoding
use Rattle.pc_types.specs.contracts.encoding.StringEncodingPartialEq.TheImpl as eq_StringEncoding
use Rattle.pc_types.specs.contracts.intrinsic.UnsafeIntrinsic as intrinsic
use Rattle.pc_types.specs.contracts.intrinsic.UnsafeIntrinsicPartialEq.TheImpl as eq_UnsafeIntrinsic
use Rattle.pc_types.specs.contracts.trampoline.TrampolineKind as kind
use Rattle.pc_types.specs.contracts.trampoline.TrampolineKindPartialEq.TheImpl as eq_TrampolineKind
use Rattle.pc_types.specs.declared.encoding.StringEncoding.{StringEncoding}
use Rattle.pc_types.specs.declared.intrinsic.UnsafeIntrinsic.{UnsafeIntrinsic}
use Rattle.pc_types.specs.declared.trampoline.TrampolineKind.{TrampolineKind}

-- `==` of kinds is equality of values
pub kind_exact : (a b : TrampolineKind) → eq_TrampolineKind.ghosts.eq a b ≡ true → a ≡ b
kind_exact a b h = same_true kind.the_type tt a b h

-- `==` of intrinsics is equality of values
pub intrinsic_exact : (a b : UnsafeIntrinsic) → eq_UnsafeIntrinsic.ghosts.eq a b ≡ true → a ≡ b
intrinsic_exact a b h = same_true intrinsic.the_type tt a b h

-- `==` of string encodings is equality of values
pub encoding_exact : (a b : StringEncoding) → eq_StringEncoding.ghosts.eq a b ≡ true → a ≡ b
encoding_exact a b h = same_true encoding.the_type tt a b h
