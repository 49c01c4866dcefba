-- What an entry that passes a test of the table is converted to.
use Rattle.std.proofs.Common.{◌≡◌, true, sym, true≢false}
use Rattle.pc_types.specs.declared.parsed.DeclType.{DeclType}
use Rattle.pc_types.specs.declared.parsed.DeclType.TheVariants as entry
use Rattle.pc_types.specs.declared.type_index.TypeFuncIndex.{TypeFuncIndex}
use Rattle.pc_types.specs.declared.type_index.TypeComponentInstanceIndex.{TypeComponentInstanceIndex}
use Rattle.pc_types.specs.declared.type_index.TypeModuleIndex.{TypeModuleIndex}
use Rattle.pc_types.specs.declared.type_index.TypeResourceTableIndex.{TypeResourceTableIndex}
use Rattle.pc_types.specs.declared.types.InterfaceType.{InterfaceType}
use Rattle.pc_types.specs.declared.types.TypeDef.{TypeDef}
use Rattle.pc_types.specs.declared.types.TypeDef.TheVariants as def
use Rattle.pc_types.specs.Table.{is_resource, is_func, is_instance, is_module, is_defined_type}
use Rattle.pc_types_builder.specs.Converted.{IsOfKind}

-- a defined type is converted to a value type
pub defined_kind : (e : DeclType) (d : TypeDef) → is_defined_type e ≡ true → IsOfKind e d → (w : InterfaceType)
    × (d ≡ def.Interface w)
defined_kind entry.Resource d h k = absurd (true≢false (sym h))
defined_kind (entry.Func params result is_async) d h k = absurd (true≢false (sym h))
defined_kind (entry.Val v) d h k = k
defined_kind (entry.Record fields) d h k = k
defined_kind (entry.Variant cases) d h k = k
defined_kind (entry.List v) d h k = k
defined_kind (entry.Tuple vs) d h k = k
defined_kind (entry.Flags names) d h k = k
defined_kind (entry.Enum names) d h k = k
defined_kind (entry.Option v) d h k = k
defined_kind (entry.Result ok err) d h k = k
defined_kind (entry.Own n) d h k = k
defined_kind (entry.Borrow n) d h k = k
defined_kind (entry.Stream v) d h k = k
defined_kind (entry.Future v) d h k = k
defined_kind (entry.Instance exports) d h k = absurd (true≢false (sym h))
defined_kind (entry.Component imports exports) d h k = absurd (true≢false (sym h))
defined_kind (entry.Module imports exports) d h k = absurd (true≢false (sym h))

-- a resource is converted to the number of its handles
pub resource_kind : (e : DeclType) (d : TypeDef) → is_resource e ≡ true → IsOfKind e d → (i : TypeResourceTableIndex)
    × (d ≡ def.Resource i)
resource_kind entry.Resource d h k = k
resource_kind (entry.Func params result is_async) d h k = absurd (true≢false (sym h))
resource_kind (entry.Val v) d h k = absurd (true≢false (sym h))
resource_kind (entry.Record fields) d h k = absurd (true≢false (sym h))
resource_kind (entry.Variant cases) d h k = absurd (true≢false (sym h))
resource_kind (entry.List v) d h k = absurd (true≢false (sym h))
resource_kind (entry.Tuple vs) d h k = absurd (true≢false (sym h))
resource_kind (entry.Flags names) d h k = absurd (true≢false (sym h))
resource_kind (entry.Enum names) d h k = absurd (true≢false (sym h))
resource_kind (entry.Option v) d h k = absurd (true≢false (sym h))
resource_kind (entry.Result ok err) d h k = absurd (true≢false (sym h))
resource_kind (entry.Own n) d h k = absurd (true≢false (sym h))
resource_kind (entry.Borrow n) d h k = absurd (true≢false (sym h))
resource_kind (entry.Stream v) d h k = absurd (true≢false (sym h))
resource_kind (entry.Future v) d h k = absurd (true≢false (sym h))
resource_kind (entry.Instance exports) d h k = absurd (true≢false (sym h))
resource_kind (entry.Component imports exports) d h k = absurd (true≢false (sym h))
resource_kind (entry.Module imports exports) d h k = absurd (true≢false (sym h))

-- a function is converted to the number of a function type
pub func_kind : (e : DeclType) (d : TypeDef) → is_func e ≡ true → IsOfKind e d → (i : TypeFuncIndex)
    × (d ≡ def.ComponentFunc i)
func_kind entry.Resource d h k = absurd (true≢false (sym h))
func_kind (entry.Func params result is_async) d h k = k
func_kind (entry.Val v) d h k = absurd (true≢false (sym h))
func_kind (entry.Record fields) d h k = absurd (true≢false (sym h))
func_kind (entry.Variant cases) d h k = absurd (true≢false (sym h))
func_kind (entry.List v) d h k = absurd (true≢false (sym h))
func_kind (entry.Tuple vs) d h k = absurd (true≢false (sym h))
func_kind (entry.Flags names) d h k = absurd (true≢false (sym h))
func_kind (entry.Enum names) d h k = absurd (true≢false (sym h))
func_kind (entry.Option v) d h k = absurd (true≢false (sym h))
func_kind (entry.Result ok err) d h k = absurd (true≢false (sym h))
func_kind (entry.Own n) d h k = absurd (true≢false (sym h))
func_kind (entry.Borrow n) d h k = absurd (true≢false (sym h))
func_kind (entry.Stream v) d h k = absurd (true≢false (sym h))
func_kind (entry.Future v) d h k = absurd (true≢false (sym h))
func_kind (entry.Instance exports) d h k = absurd (true≢false (sym h))
func_kind (entry.Component imports exports) d h k = absurd (true≢false (sym h))
func_kind (entry.Module imports exports) d h k = absurd (true≢false (sym h))

-- an instance is converted to the number of an instance type
pub instance_kind : (e : DeclType) (d : TypeDef) → is_instance e ≡ true → IsOfKind e d
    → (i : TypeComponentInstanceIndex) × (d ≡ def.ComponentInstance i)
instance_kind entry.Resource d h k = absurd (true≢false (sym h))
instance_kind (entry.Func params result is_async) d h k = absurd (true≢false (sym h))
instance_kind (entry.Val v) d h k = absurd (true≢false (sym h))
instance_kind (entry.Record fields) d h k = absurd (true≢false (sym h))
instance_kind (entry.Variant cases) d h k = absurd (true≢false (sym h))
instance_kind (entry.List v) d h k = absurd (true≢false (sym h))
instance_kind (entry.Tuple vs) d h k = absurd (true≢false (sym h))
instance_kind (entry.Flags names) d h k = absurd (true≢false (sym h))
instance_kind (entry.Enum names) d h k = absurd (true≢false (sym h))
instance_kind (entry.Option v) d h k = absurd (true≢false (sym h))
instance_kind (entry.Result ok err) d h k = absurd (true≢false (sym h))
instance_kind (entry.Own n) d h k = absurd (true≢false (sym h))
instance_kind (entry.Borrow n) d h k = absurd (true≢false (sym h))
instance_kind (entry.Stream v) d h k = absurd (true≢false (sym h))
instance_kind (entry.Future v) d h k = absurd (true≢false (sym h))
instance_kind (entry.Instance exports) d h k = k
instance_kind (entry.Component imports exports) d h k = absurd (true≢false (sym h))
instance_kind (entry.Module imports exports) d h k = absurd (true≢false (sym h))

-- a core module is converted to the number of a module type
pub module_kind : (e : DeclType) (d : TypeDef) → is_module e ≡ true → IsOfKind e d → (i : TypeModuleIndex)
    × (d ≡ def.Module i)
module_kind entry.Resource d h k = absurd (true≢false (sym h))
module_kind (entry.Func params result is_async) d h k = absurd (true≢false (sym h))
module_kind (entry.Val v) d h k = absurd (true≢false (sym h))
module_kind (entry.Record fields) d h k = absurd (true≢false (sym h))
module_kind (entry.Variant cases) d h k = absurd (true≢false (sym h))
module_kind (entry.List v) d h k = absurd (true≢false (sym h))
module_kind (entry.Tuple vs) d h k = absurd (true≢false (sym h))
module_kind (entry.Flags names) d h k = absurd (true≢false (sym h))
module_kind (entry.Enum names) d h k = absurd (true≢false (sym h))
module_kind (entry.Option v) d h k = absurd (true≢false (sym h))
module_kind (entry.Result ok err) d h k = absurd (true≢false (sym h))
module_kind (entry.Own n) d h k = absurd (true≢false (sym h))
module_kind (entry.Borrow n) d h k = absurd (true≢false (sym h))
module_kind (entry.Stream v) d h k = absurd (true≢false (sym h))
module_kind (entry.Future v) d h k = absurd (true≢false (sym h))
module_kind (entry.Instance exports) d h k = absurd (true≢false (sym h))
module_kind (entry.Component imports exports) d h k = absurd (true≢false (sym h))
module_kind (entry.Module imports exports) d h k = k
