use Rattle.std.proofs.Common.{◌≤◌, subst}
use Rattle.pc_types.specs.declared.types.TypeKind.{TypeKind}
use Rattle.pc_types.specs.declared.types.TypeKind.TheVariants as kind
use Rattle.pc_types_lists.specs.Types.{HasDistinct, IsBuilder, held}
use Rattle.pc_types_lists.specs.View.{types_of}
use Rattle.pc_types_lists.proofs.interned_types.InternedTypes.types_are_distinct.Goals as goal

pub returns : goal.returns
returns c = subst IsBuilder c.self.view_is (record { within = within; distinct = distinct })
  where
    within : (k : TypeKind) → held (types_of c.self.inside) k ≤ 4294967294
    within kind.Func = c.self.invariant.funcs
    within kind.Tuple = c.self.invariant.tuples
    within kind.Record = c.self.invariant.records
    within kind.Variant = c.self.invariant.variants
    within kind.List = c.self.invariant.lists
    within kind.Option = c.self.invariant.options
    within kind.Result = c.self.invariant.results
    within kind.Flags = c.self.invariant.flags
    within kind.Enum = c.self.invariant.enums
    within kind.ResourceTable = c.self.invariant.resource_tables
    within kind.FutureTable = c.self.invariant.future_tables
    within kind.StreamTable = c.self.invariant.stream_tables
    within kind.ErrorContextTable = c.self.invariant.error_context_tables
    within kind.Instance = c.self.invariant.instances
    within kind.Component = c.self.invariant.components
    within kind.Module = c.self.invariant.modules
    within kind.Signature = c.self.invariant.signatures

    distinct : (k : TypeKind) → HasDistinct (types_of c.self.inside) k
    distinct kind.Func = c.as_slice.ensures.distinct
    distinct kind.Tuple = c.as_slice-2.ensures.distinct
    distinct kind.Record = c.as_slice-3.ensures.distinct
    distinct kind.Variant = c.as_slice-4.ensures.distinct
    distinct kind.List = c.as_slice-5.ensures.distinct
    distinct kind.Option = c.as_slice-6.ensures.distinct
    distinct kind.Result = c.as_slice-7.ensures.distinct
    distinct kind.Flags = c.as_slice-8.ensures.distinct
    distinct kind.Enum = c.as_slice-9.ensures.distinct
    distinct kind.ResourceTable = c.as_slice-10.ensures.distinct
    distinct kind.FutureTable = c.as_slice-11.ensures.distinct
    distinct kind.StreamTable = c.as_slice-12.ensures.distinct
    distinct kind.ErrorContextTable = c.as_slice-13.ensures.distinct
    distinct kind.Instance = c.as_slice-14.ensures.distinct
    distinct kind.Component = c.as_slice-15.ensures.distinct
    distinct kind.Module = c.as_slice-16.ensures.distinct
    distinct kind.Signature = c.as_slice-17.ensures.distinct
