-- Where `==` answers true, the two types are one.
use Rattle.std.specs.Prelude.{◌≡◌, ℕ, Bool, true, ◌==◌, ◌&&◌, List, Option, refl}
use Rattle.std.proofs.Common.{ap, sym, true≢false}
use mathlib.Core.Bool.{beq}
use Rattle.std.specs.Option.{option_eq}
use Rattle.std.specs.Str.{bytes_eq}
use Rattle.std.specs.Cmp.Lexicographic.{pointwise}
use Rattle.std.specs.Cmp.{booleans_Decides}
use Rattle.std.proofs.lemmas.Bool.Decides.{Decides-eqb}
use Rattle.pc_entity.specs.Exact.{same_texts, same_lists, same_options, same_pairs}
use Rattle.pc_entity.proofs.Elements.{and_true}
use Rattle.pc_types.specs.declared.types.TypeFunc.{TypeFunc}
use Rattle.pc_types.specs.contracts.types.TypeFuncPartialEq.TheImpl as eq_TypeFunc
use Rattle.pc_types.specs.declared.types.TypeTuple.{TypeTuple}
use Rattle.pc_types.specs.contracts.types.TypeTuplePartialEq.TheImpl as eq_TypeTuple
use Rattle.pc_types.specs.declared.types.TypeRecord.{TypeRecord}
use Rattle.pc_types.specs.contracts.types.TypeRecordPartialEq.TheImpl as eq_TypeRecord
use Rattle.pc_types.specs.declared.types.TypeVariant.{TypeVariant}
use Rattle.pc_types.specs.contracts.types.TypeVariantPartialEq.TheImpl as eq_TypeVariant
use Rattle.pc_types.specs.declared.types.TypeList.{TypeList}
use Rattle.pc_types.specs.contracts.types.TypeListPartialEq.TheImpl as eq_TypeList
use Rattle.pc_types.specs.declared.types.TypeOption.{TypeOption}
use Rattle.pc_types.specs.contracts.types.TypeOptionPartialEq.TheImpl as eq_TypeOption
use Rattle.pc_types.specs.declared.types.TypeResult.{TypeResult}
use Rattle.pc_types.specs.contracts.types.TypeResultPartialEq.TheImpl as eq_TypeResult
use Rattle.pc_types.specs.declared.types.TypeFlags.{TypeFlags}
use Rattle.pc_types.specs.contracts.types.TypeFlagsPartialEq.TheImpl as eq_TypeFlags
use Rattle.pc_types.specs.declared.types.TypeEnum.{TypeEnum}
use Rattle.pc_types.specs.contracts.types.TypeEnumPartialEq.TheImpl as eq_TypeEnum
use Rattle.pc_types.specs.declared.types.TypeResourceTable.{TypeResourceTable}
use Rattle.pc_types.specs.contracts.types.TypeResourceTablePartialEq.TheImpl as eq_TypeResourceTable
use Rattle.pc_types.specs.declared.types.TypeFutureTable.{TypeFutureTable}
use Rattle.pc_types.specs.contracts.types.TypeFutureTablePartialEq.TheImpl as eq_TypeFutureTable
use Rattle.pc_types.specs.declared.types.TypeStreamTable.{TypeStreamTable}
use Rattle.pc_types.specs.contracts.types.TypeStreamTablePartialEq.TheImpl as eq_TypeStreamTable
use Rattle.pc_types.specs.declared.types.TypeErrorContextTable.{TypeErrorContextTable}
use Rattle.pc_types.specs.contracts.types.TypeErrorContextTablePartialEq.TheImpl as eq_TypeErrorContextTable
use Rattle.pc_types.specs.declared.types.TypeComponentInstance.{TypeComponentInstance}
use Rattle.pc_types.specs.contracts.types.TypeComponentInstancePartialEq.TheImpl as eq_TypeComponentInstance
use Rattle.pc_types.specs.declared.types.TypeComponent.{TypeComponent}
use Rattle.pc_types.specs.contracts.types.TypeComponentPartialEq.TheImpl as eq_TypeComponent
use Rattle.pc_types.specs.declared.types.TypeModule.{TypeModule}
use Rattle.pc_types.specs.contracts.types.TypeModulePartialEq.TheImpl as eq_TypeModule
use Rattle.pc_types.specs.declared.types.InterfaceType.{InterfaceType}
use Rattle.pc_types.specs.contracts.types.InterfaceTypePartialEq.TheImpl as eq_InterfaceType
use Rattle.pc_types.specs.declared.types.TypeDef.{TypeDef}
use Rattle.pc_types.specs.contracts.types.TypeDefPartialEq.TheImpl as eq_TypeDef
use Rattle.pc_types.specs.declared.parsed.CoreFuncSig.{CoreFuncSig}
use Rattle.pc_types.specs.contracts.parsed.CoreFuncSigPartialEq.TheImpl as eq_CoreFuncSig
use Rattle.pc_types.specs.declared.parsed.CoreEntity.{CoreEntity}
use Rattle.pc_types.specs.contracts.parsed.CoreEntityPartialEq.TheImpl as eq_CoreEntity
use Rattle.pc_types.specs.declared.parsed.WasmValType.{WasmValType}
use Rattle.pc_types.specs.contracts.parsed.WasmValTypePartialEq.TheImpl as eq_WasmValType
use Rattle.pc_types.specs.declared.types.InterfaceType.TheVariants as ty
use Rattle.pc_types.specs.declared.types.TypeDef.TheVariants as def
use Rattle.pc_types.specs.declared.types.TypeResourceTable.TheVariants as table
use Rattle.pc_types.specs.declared.parsed.CoreEntity.TheVariants as core
use Rattle.pc_types.specs.declared.parsed.WasmValType.TheVariants as wasm

-- numbers that compare equal are one number
same_number : (m n : ℕ) → (m == n) ≡ true → m ≡ n
same_number m n h = (Decides-eqb m n).0 h

-- `==` of core value types is equality of values
pub wasm_exact : (a b : WasmValType) → eq_WasmValType.ghosts.eq a b ≡ true → a ≡ b
wasm_exact wasm.I32 wasm.I32 h = refl
wasm_exact wasm.I64 wasm.I64 h = refl
wasm_exact wasm.F32 wasm.F32 h = refl
wasm_exact wasm.F64 wasm.F64 h = refl
wasm_exact wasm.V128 wasm.V128 h = refl
wasm_exact wasm.FuncRef wasm.FuncRef h = refl
wasm_exact wasm.ExternRef wasm.ExternRef h = refl
wasm_exact a b h = absurd (true≢false (sym h))

-- `==` of core entities is equality of values
pub core_exact : (a b : CoreEntity) → eq_CoreEntity.ghosts.eq a b ≡ true → a ≡ b
core_exact (core.Func m) (core.Func n) h = ap core.Func (same_number m n h)
core_exact core.Table core.Table h = refl
core_exact (core.Memory v) (core.Memory w) h = ap core.Memory ((booleans_Decides v w).0 h)
core_exact core.Global core.Global h = refl
core_exact core.Tag core.Tag h = refl
core_exact a b h = absurd (true≢false (sym h))

-- `==` of value types is equality of values
pub interface_exact : (a b : InterfaceType) → eq_InterfaceType.ghosts.eq a b ≡ true → a ≡ b
interface_exact ty.Bool ty.Bool h = refl
interface_exact ty.S8 ty.S8 h = refl
interface_exact ty.U8 ty.U8 h = refl
interface_exact ty.S16 ty.S16 h = refl
interface_exact ty.U16 ty.U16 h = refl
interface_exact ty.S32 ty.S32 h = refl
interface_exact ty.U32 ty.U32 h = refl
interface_exact ty.S64 ty.S64 h = refl
interface_exact ty.U64 ty.U64 h = refl
interface_exact ty.F32 ty.F32 h = refl
interface_exact ty.F64 ty.F64 h = refl
interface_exact ty.Char ty.Char h = refl
interface_exact ty.String ty.String h = refl
interface_exact (ty.ErrorContext i) (ty.ErrorContext j) h =
    ap (λ n. ty.ErrorContext (record { 0 = n })) (same_number i.0 j.0 h)
interface_exact (ty.Record i) (ty.Record j) h = ap (λ n. ty.Record (record { 0 = n })) (same_number i.0 j.0 h)
interface_exact (ty.Variant i) (ty.Variant j) h = ap (λ n. ty.Variant (record { 0 = n })) (same_number i.0 j.0 h)
interface_exact (ty.List i) (ty.List j) h = ap (λ n. ty.List (record { 0 = n })) (same_number i.0 j.0 h)
interface_exact (ty.Tuple i) (ty.Tuple j) h = ap (λ n. ty.Tuple (record { 0 = n })) (same_number i.0 j.0 h)
interface_exact (ty.Flags i) (ty.Flags j) h = ap (λ n. ty.Flags (record { 0 = n })) (same_number i.0 j.0 h)
interface_exact (ty.Enum i) (ty.Enum j) h = ap (λ n. ty.Enum (record { 0 = n })) (same_number i.0 j.0 h)
interface_exact (ty.Option i) (ty.Option j) h = ap (λ n. ty.Option (record { 0 = n })) (same_number i.0 j.0 h)
interface_exact (ty.Result i) (ty.Result j) h = ap (λ n. ty.Result (record { 0 = n })) (same_number i.0 j.0 h)
interface_exact (ty.Own i) (ty.Own j) h = ap (λ n. ty.Own (record { 0 = n })) (same_number i.0 j.0 h)
interface_exact (ty.Borrow i) (ty.Borrow j) h = ap (λ n. ty.Borrow (record { 0 = n })) (same_number i.0 j.0 h)
interface_exact (ty.Future i) (ty.Future j) h = ap (λ n. ty.Future (record { 0 = n })) (same_number i.0 j.0 h)
interface_exact (ty.Stream i) (ty.Stream j) h = ap (λ n. ty.Stream (record { 0 = n })) (same_number i.0 j.0 h)
interface_exact a b h = absurd (true≢false (sym h))

-- `==` of types of any kind is equality of values
pub definition_exact : (a b : TypeDef) → eq_TypeDef.ghosts.eq a b ≡ true → a ≡ b
definition_exact (def.Interface a) (def.Interface b) h = ap def.Interface (interface_exact a b h)
definition_exact (def.ComponentFunc i) (def.ComponentFunc j) h =
    ap (λ n. def.ComponentFunc (record { 0 = n })) (same_number i.0 j.0 h)
definition_exact (def.ComponentInstance i) (def.ComponentInstance j) h =
    ap (λ n. def.ComponentInstance (record { 0 = n })) (same_number i.0 j.0 h)
definition_exact (def.Component i) (def.Component j) h =
    ap (λ n. def.Component (record { 0 = n })) (same_number i.0 j.0 h)
definition_exact (def.Module i) (def.Module j) h = ap (λ n. def.Module (record { 0 = n })) (same_number i.0 j.0 h)
definition_exact (def.Resource i) (def.Resource j) h = ap (λ n. def.Resource (record { 0 = n })) (same_number i.0 j.0 h)
definition_exact a b h = absurd (true≢false (sym h))

-- `==` of error context tables is equality of values
pub error_context_exact : (a b : TypeErrorContextTable) → eq_TypeErrorContextTable.ghosts.eq a b ≡ true → a ≡ b
error_context_exact a b h = ap (λ n. record { instance = record { 0 = n } }) (same_number a.instance.0 b.instance.0 h)

-- `==` of list types is equality of values
pub list_exact : (a b : TypeList) → eq_TypeList.ghosts.eq a b ≡ true → a ≡ b
list_exact a b h = ap (λ t. record { element = t }) (interface_exact a.element b.element h)

-- `==` of option types is equality of values
pub option_exact : (a b : TypeOption) → eq_TypeOption.ghosts.eq a b ≡ true → a ≡ b
option_exact a b h = ap (λ t. record { ty = t }) (interface_exact a.ty b.ty h)

-- `==` of options of value types is equality of values
maybe_exact : (a b : Option InterfaceType) → option_eq eq_InterfaceType.ghosts.eq a b ≡ true → a ≡ b
maybe_exact a b h = same_options interface_exact a b h

-- `==` of result types is equality of values
pub result_exact : (a b : TypeResult) → eq_TypeResult.ghosts.eq a b ≡ true → a ≡ b
result_exact a b h =
    let both = and_true (option_eq eq_InterfaceType.ghosts.eq a.ok b.ok)
    (option_eq eq_InterfaceType.ghosts.eq a.err b.err) h in
    let ok = maybe_exact a.ok b.ok both.0 in
    let err = maybe_exact a.err b.err both.1 in
    λ i. record { ok = ok i; err = err i }

-- `==` of future tables is equality of values
pub future_exact : (a b : TypeFutureTable) → eq_TypeFutureTable.ghosts.eq a b ≡ true → a ≡ b
future_exact a b h =
    let both = and_true (option_eq eq_InterfaceType.ghosts.eq a.payload b.payload) (a.instance.0 == b.instance.0) h in
    let payload = maybe_exact a.payload b.payload both.0 in
    let instance = same_number a.instance.0 b.instance.0 both.1 in
    λ i. record { payload = payload i; instance = record { 0 = instance i } }

-- `==` of stream tables is equality of values
pub stream_exact : (a b : TypeStreamTable) → eq_TypeStreamTable.ghosts.eq a b ≡ true → a ≡ b
stream_exact a b h =
    let both = and_true (option_eq eq_InterfaceType.ghosts.eq a.payload b.payload) (a.instance.0 == b.instance.0) h in
    let payload = maybe_exact a.payload b.payload both.0 in
    let instance = same_number a.instance.0 b.instance.0 both.1 in
    λ i. record { payload = payload i; instance = record { 0 = instance i } }

-- `==` of tuple types is equality of values
pub tuple_exact : (a b : TypeTuple) → eq_TypeTuple.ghosts.eq a b ≡ true → a ≡ b
tuple_exact a b h = ap (λ ts. record { types = ts }) (same_lists interface_exact a.types b.types h)

-- `==` of record types is equality of values
pub record_exact : (a b : TypeRecord) → eq_TypeRecord.ghosts.eq a b ≡ true → a ≡ b
record_exact a b h =
    ap (λ fs. record { fields = fs }) (same_lists (same_pairs same_texts interface_exact) a.fields b.fields h)

-- `==` of variant types is equality of values
pub variant_exact : (a b : TypeVariant) → eq_TypeVariant.ghosts.eq a b ≡ true → a ≡ b
variant_exact a b h =
    ap (λ cs. record { cases = cs }) (same_lists (same_pairs same_texts maybe_exact) a.cases b.cases h)

-- `==` of flags types is equality of values
pub flags_exact : (a b : TypeFlags) → eq_TypeFlags.ghosts.eq a b ≡ true → a ≡ b
flags_exact a b h = ap (λ ns. record { names = ns }) (same_lists same_texts a.names b.names h)

-- `==` of enum types is equality of values
pub enum_exact : (a b : TypeEnum) → eq_TypeEnum.ghosts.eq a b ≡ true → a ≡ b
enum_exact a b h = ap (λ ns. record { names = ns }) (same_lists same_texts a.names b.names h)

-- `==` of instance types is equality of values
pub instance_exact : (a b : TypeComponentInstance) → eq_TypeComponentInstance.ghosts.eq a b ≡ true → a ≡ b
instance_exact a b h =
    ap (λ es. record { exports = es }) (same_lists (same_pairs same_texts definition_exact) a.exports b.exports h)

-- `==` of named types
abbrev same_externs : List (List ℕ × TypeDef) → List (List ℕ × TypeDef) → Bool
same_externs xs ys = pointwise (λ p q. bytes_eq p.0 q.0 && eq_TypeDef.ghosts.eq p.1 q.1) xs ys

-- `==` of component types is equality of values
pub component_exact : (a b : TypeComponent) → eq_TypeComponent.ghosts.eq a b ≡ true → a ≡ b
component_exact a b h =
    let both = and_true (same_externs a.imports b.imports) (same_externs a.exports b.exports) h in
    let imports = same_lists (same_pairs same_texts definition_exact) a.imports b.imports both.0 in
    let exports = same_lists (same_pairs same_texts definition_exact) a.exports b.exports both.1 in
    λ i. record { imports = imports i; exports = exports i }

-- `==` of two imports of a core module
abbrev same_import : List ℕ × List ℕ × CoreEntity → List ℕ × List ℕ × CoreEntity → Bool
same_import p q = (bytes_eq p.0 q.0 && bytes_eq p.1 q.1) && eq_CoreEntity.ghosts.eq p.2 q.2

-- `==` of imports of core modules is equality of values
import_exact : (p q : List ℕ × List ℕ × CoreEntity) → same_import p q ≡ true → p ≡ q
import_exact p q h =
    let parts = and_true (bytes_eq p.0 q.0 && bytes_eq p.1 q.1) (eq_CoreEntity.ghosts.eq p.2 q.2) h in
    let names = and_true (bytes_eq p.0 q.0) (bytes_eq p.1 q.1) parts.0 in
    let one = same_texts p.0 q.0 names.0 in
    let two = same_texts p.1 q.1 names.1 in
    let entity = core_exact p.2 q.2 parts.1 in
    λ i. (one i, two i, entity i)

-- `==` of named core entities
abbrev same_exports : List (List ℕ × CoreEntity) → List (List ℕ × CoreEntity) → Bool
same_exports xs ys = pointwise (λ p q. bytes_eq p.0 q.0 && eq_CoreEntity.ghosts.eq p.1 q.1) xs ys

-- `==` of module types is equality of values
pub module_exact : (a b : TypeModule) → eq_TypeModule.ghosts.eq a b ≡ true → a ≡ b
module_exact a b h =
    let both = and_true (pointwise same_import a.imports b.imports) (same_exports a.exports b.exports) h in
    let imports = same_lists import_exact a.imports b.imports both.0 in
    let exports = same_lists (same_pairs same_texts core_exact) a.exports b.exports both.1 in
    λ i. record { imports = imports i; exports = exports i }

-- `==` of core signatures is equality of values
pub signature_exact : (a b : CoreFuncSig) → eq_CoreFuncSig.ghosts.eq a b ≡ true → a ≡ b
signature_exact a b h =
    let both = and_true (pointwise eq_WasmValType.ghosts.eq a.params b.params)
    (pointwise eq_WasmValType.ghosts.eq a.results b.results) h in
    let params = same_lists wasm_exact a.params b.params both.0 in
    let results = same_lists wasm_exact a.results b.results both.1 in
    λ i. record { params = params i; results = results i }

-- `==` of function types is equality of values
pub func_exact : (a b : TypeFunc) → eq_TypeFunc.ghosts.eq a b ≡ true → a ≡ b
func_exact a b h =
    let first = and_true (pointwise bytes_eq a.param_names b.param_names)
    ((a.params.0 == b.params.0) && ((a.results.0 == b.results.0) && beq a.async_ b.async_)) h in
    let second = and_true (a.params.0 == b.params.0) ((a.results.0 == b.results.0) && beq a.async_ b.async_) first.1 in
    let third = and_true (a.results.0 == b.results.0) (beq a.async_ b.async_) second.1 in
    let names = same_lists same_texts a.param_names b.param_names first.0 in
    let params = same_number a.params.0 b.params.0 second.0 in
    let results = same_number a.results.0 b.results.0 third.0 in
    let is_async = (booleans_Decides a.async_ b.async_).0 third.1 in
    λ i. record {
      param_names = names i;
      params = record { 0 = params i };
      results = record { 0 = results i };
      async_ = is_async i;
    }

-- `==` of resource tables is equality of values
pub table_exact : (a b : TypeResourceTable) → eq_TypeResourceTable.ghosts.eq a b ≡ true → a ≡ b
table_exact (table.Abstract m) (table.Abstract n) h = ap table.Abstract (same_number m n h)
table_exact (table.Concrete r c) (table.Concrete s d) h =
    let both = and_true (r.0 == s.0) (c.0 == d.0) h in
    let resource = same_number r.0 s.0 both.0 in
    let instance = same_number c.0 d.0 both.1 in
    λ i. table.Concrete (record { 0 = resource i }) (record { 0 = instance i })
table_exact a b h = absurd (true≢false (sym h))
