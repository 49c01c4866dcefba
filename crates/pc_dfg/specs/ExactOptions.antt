-- Where `==` of options and adapters answers true, the two are one.
use Rattle.std.specs.Prelude.{◌≡◌, true, false, ◌==◌, ◌&&◌, refl}
use Rattle.std.specs.Cmp.{booleans_Decides}
use Rattle.std.specs.Option.{option_eq}
use Rattle.std.proofs.Common.{ap, sym, true≢false}
use mathlib.Core.Bool.{beq}
use Rattle.pc_entity.specs.Exact.{same_options}
use Rattle.pc_entity.proofs.Elements.{and_true}
use Rattle.pc_dfg.specs.contracts.ids.CallbackIdPartialEq.TheImpl as eq_CallbackId
use Rattle.pc_dfg.specs.contracts.ids.MemoryIdPartialEq.TheImpl as eq_MemoryId
use Rattle.pc_dfg.specs.contracts.ids.PostReturnIdPartialEq.TheImpl as eq_PostReturnId
use Rattle.pc_dfg.specs.contracts.ids.ReallocIdPartialEq.TheImpl as eq_ReallocId
use Rattle.pc_dfg.specs.declared.ids.CallbackId.{CallbackId}
use Rattle.pc_dfg.specs.declared.ids.MemoryId.{MemoryId}
use Rattle.pc_dfg.specs.declared.ids.PostReturnId.{PostReturnId}
use Rattle.pc_dfg.specs.declared.ids.ReallocId.{ReallocId}
use Rattle.pc_types.specs.contracts.encoding.StringEncodingPartialEq.TheImpl as eq_StringEncoding
use Rattle.pc_types.specs.EqualWords.{encoding_exact}
use Rattle.pc_dfg.specs.contracts.adapter.AdapterOptionsPartialEq.TheImpl as eq_AdapterOptions
use Rattle.pc_dfg.specs.contracts.adapter.AdapterPartialEq.TheImpl as eq_Adapter
use Rattle.pc_dfg.specs.contracts.adapter.DataModelPartialEq.TheImpl as eq_DataModel
use Rattle.pc_dfg.specs.contracts.core_def.CoreDefPartialEq.TheImpl as eq_CoreDef
use Rattle.pc_dfg.specs.contracts.options.CanonicalOptionsDataModelPartialEq.TheImpl as eq_CanonicalModel
use Rattle.pc_dfg.specs.contracts.options.CanonicalOptionsPartialEq.TheImpl as eq_CanonicalOptions
use Rattle.pc_dfg.specs.declared.adapter.Adapter.{Adapter}
use Rattle.pc_dfg.specs.declared.adapter.AdapterOptions.{AdapterOptions}
use Rattle.pc_dfg.specs.declared.options.CanonicalOptions.{CanonicalOptions}
use Rattle.pc_dfg.specs.declared.options.CanonicalOptionsDataModel.{CanonicalOptionsDataModel}
use Rattle.pc_dfg.specs.declared.options.CanonicalOptionsDataModel.TheVariants as canonical
use Rattle.pc_dfg.specs.Exact.{def_exact, model_exact, same_number}

-- `==` of options of a side is equality of values
pub side_exact : (a b : AdapterOptions) → eq_AdapterOptions.ghosts.eq a b ≡ true → a ≡ b
side_exact a b h =
    let same_model = eq_DataModel.ghosts.eq a.data_model b.data_model in
    let same_type = a.core_type.0 == b.core_type.0 in
    let same_async = beq a.async_ b.async_ in
    let same_post = option_eq eq_CoreDef.ghosts.eq a.post_return b.post_return in
    let same_callback = option_eq eq_CoreDef.ghosts.eq a.callback b.callback in
    let same_encoding = eq_StringEncoding.ghosts.eq a.string_encoding b.string_encoding in
    let first = and_true (a.instance.0 == b.instance.0)
    (same_encoding && (same_callback && (same_post && (same_async && (same_type && same_model))))) h in
    let second = and_true same_encoding (same_callback && (same_post && (same_async && (same_type && same_model))))
    first.1 in
    let third = and_true same_callback (same_post && (same_async && (same_type && same_model))) second.1 in
    let fourth = and_true same_post (same_async && (same_type && same_model)) third.1 in
    let fifth = and_true same_async (same_type && same_model) fourth.1 in
    let sixth = and_true same_type same_model fifth.1 in
    let instance = same_number a.instance.0 b.instance.0 first.0 in
    let encoding = encoding_exact a.string_encoding b.string_encoding second.0 in
    let callback = same_options def_exact a.callback b.callback third.0 in
    let post_return = same_options def_exact a.post_return b.post_return fourth.0 in
    let is_async = (booleans_Decides a.async_ b.async_).0 fifth.0 in
    let core_type = same_number a.core_type.0 b.core_type.0 sixth.0 in
    let model = model_exact a.data_model b.data_model sixth.1 in
    λ i. record {
      instance = record { 0 = instance i };
      string_encoding = encoding i;
      callback = callback i;
      post_return = post_return i;
      async_ = is_async i;
      core_type = record { 0 = core_type i };
      data_model = model i;
    }

-- `==` of adapters is equality of values
pub adapter_exact : (a b : Adapter) → eq_Adapter.ghosts.eq a b ≡ true → a ≡ b
adapter_exact a b h =
    let same_func = eq_CoreDef.ghosts.eq a.func b.func in
    let same_lower = eq_AdapterOptions.ghosts.eq a.lower_options b.lower_options in
    let same_lift = eq_AdapterOptions.ghosts.eq a.lift_options b.lift_options in
    let same_lower_type = a.lower_ty.0 == b.lower_ty.0 in
    let first = and_true (a.lift_ty.0 == b.lift_ty.0) (same_lift && (same_lower_type && (same_lower && same_func))) h in
    let second = and_true same_lift (same_lower_type && (same_lower && same_func)) first.1 in
    let third = and_true same_lower_type (same_lower && same_func) second.1 in
    let fourth = and_true same_lower same_func third.1 in
    let lift_type = same_number a.lift_ty.0 b.lift_ty.0 first.0 in
    let lift = side_exact a.lift_options b.lift_options second.0 in
    let lower_type = same_number a.lower_ty.0 b.lower_ty.0 third.0 in
    let lower = side_exact a.lower_options b.lower_options fourth.0 in
    let func = def_exact a.func b.func fourth.1 in
    λ i. record {
      lift_ty = record { 0 = lift_type i };
      lift_options = lift i;
      lower_ty = record { 0 = lower_type i };
      lower_options = lower i;
      func = func i;
    }

-- `==` of numbers of slots is equality of values
callback_exact : (a b : CallbackId) → eq_CallbackId.ghosts.eq a b ≡ true → a ≡ b
callback_exact a b h = ap (λ n. record { 0 = n }) (same_number a.0 b.0 h)

post_return_exact : (a b : PostReturnId) → eq_PostReturnId.ghosts.eq a b ≡ true → a ≡ b
post_return_exact a b h = ap (λ n. record { 0 = n }) (same_number a.0 b.0 h)

memory_exact : (a b : MemoryId) → eq_MemoryId.ghosts.eq a b ≡ true → a ≡ b
memory_exact a b h = ap (λ n. record { 0 = n }) (same_number a.0 b.0 h)

realloc_exact : (a b : ReallocId) → eq_ReallocId.ghosts.eq a b ≡ true → a ≡ b
realloc_exact a b h = ap (λ n. record { 0 = n }) (same_number a.0 b.0 h)

-- `==` of data models with slots is equality of values
canonical_exact : (a b : CanonicalOptionsDataModel) → eq_CanonicalModel.ghosts.eq a b ≡ true → a ≡ b
canonical_exact canonical.Gc canonical.Gc h = refl
canonical_exact (canonical.LinearMemory m r) (canonical.LinearMemory n s) h =
    let both = and_true (option_eq eq_MemoryId.ghosts.eq m n) (option_eq eq_ReallocId.ghosts.eq r s) h in
    let memory = same_options memory_exact m n both.0 in
    let realloc = same_options realloc_exact r s both.1 in
    λ i. canonical.LinearMemory (memory i) (realloc i)
canonical_exact a b h = absurd (true≢false (sym h))

-- `==` of options with slots is equality of values
pub options_exact : (a b : CanonicalOptions) → eq_CanonicalOptions.ghosts.eq a b ≡ true → a ≡ b
options_exact a b h =
    let same_model = eq_CanonicalModel.ghosts.eq a.data_model b.data_model in
    let same_type = a.core_type.0 == b.core_type.0 in
    let same_async = beq a.async_ b.async_ in
    let same_post = option_eq eq_PostReturnId.ghosts.eq a.post_return b.post_return in
    let same_callback = option_eq eq_CallbackId.ghosts.eq a.callback b.callback in
    let same_encoding = eq_StringEncoding.ghosts.eq a.string_encoding b.string_encoding in
    let first = and_true (a.instance.0 == b.instance.0)
    (same_encoding && (same_callback && (same_post && (same_async && (same_type && same_model))))) h in
    let second = and_true same_encoding (same_callback && (same_post && (same_async && (same_type && same_model))))
    first.1 in
    let third = and_true same_callback (same_post && (same_async && (same_type && same_model))) second.1 in
    let fourth = and_true same_post (same_async && (same_type && same_model)) third.1 in
    let fifth = and_true same_async (same_type && same_model) fourth.1 in
    let sixth = and_true same_type same_model fifth.1 in
    let instance = same_number a.instance.0 b.instance.0 first.0 in
    let encoding = encoding_exact a.string_encoding b.string_encoding second.0 in
    let callback = same_options callback_exact a.callback b.callback third.0 in
    let post_return = same_options post_return_exact a.post_return b.post_return fourth.0 in
    let is_async = (booleans_Decides a.async_ b.async_).0 fifth.0 in
    let core_type = same_number a.core_type.0 b.core_type.0 sixth.0 in
    let model = canonical_exact a.data_model b.data_model sixth.1 in
    λ i. record {
      instance = record { 0 = instance i };
      string_encoding = encoding i;
      callback = callback i;
      post_return = post_return i;
      async_ = is_async i;
      core_type = record { 0 = core_type i };
      data_model = model i;
    }
