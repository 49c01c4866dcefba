use Rattle.std.proofs.Common.{refl}
use Rattle.pc_inline_exports.proofs.ItemLemmas.{refused_made, static_made, type_made}
use Rattle.pc_inline_exports.proofs.item.leaf_item.Goals as goal

pub returns-in-StaticModule : goal.returns-in-StaticModule
returns-in-StaticModule c = static_made _ _ _ _ _ _ c.in-StaticModule.is

pub returns-in-Type_ : goal.returns-in-Type_
returns-in-Type_ c = type_made _ _ _ _ _ c.in-Type_.is

pub returns-in-Component : goal.returns-in-Component
returns-in-Component c = refused_made _ _ _ _ _ _ c.in-Component.is refl _ c.refuse.ensures

pub returns-in-IntrinsicFunc : goal.returns-in-IntrinsicFunc
returns-in-IntrinsicFunc c = refused_made _ _ _ _ _ _ c.in-IntrinsicFunc.is refl _ c.refuse-in-IntrinsicFunc.ensures

pub returns-in-Intrinsics : goal.returns-in-Intrinsics
returns-in-Intrinsics c = refused_made _ _ _ _ _ _ c.in-Intrinsics.is refl _ c.refuse-in-Intrinsics.ensures
