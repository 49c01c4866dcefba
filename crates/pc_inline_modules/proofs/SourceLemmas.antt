-- What a module of the reading is in the table of definitions.
use Rattle.std.proofs.Common.{◌≡◌, ℕ, List, Option, Some, None, refl, sym, ap, subst}
use Rattle.std.specs.Prelude.{slice_get, option_and_then}
use Rattle.std.proofs.lemmas.Option.{none-some}
use Rattle.pc_numbers.specs.declared.component_entity.StaticModuleIndex.{StaticModuleIndex}
use Rattle.pc_types.specs.declared.module_record.ModuleRecord.{ModuleRecord}
use Rattle.pc_types.specs.Table.{is_module}
use Rattle.pc_types.specs.TypeTree.{Path, TypeTree}
use Rattle.pc_spec_reading.specs.Value.{Module, Value, host_module, module_value, static_module}
use Rattle.pc_inline_paths.specs.declared.path_id.PathId.{PathId}
use Rattle.pc_inline_state.specs.declared.definition.Definition.{Definition}
use Rattle.pc_inline_state.specs.declared.definition.DefinitionId.{DefinitionId}
use Rattle.pc_inline_state.specs.Frames.{ModuleStands}
use Rattle.pc_inline_state.specs.Stands.{DefinitionStands, IsHostType, IsTableTree, stands, stands_component}
use Rattle.pc_inline_state.specs.Stands.{stands_host}
use Rattle.pc_inline_state.specs.Stands.{stands_host_instance, stands_host_module, stands_instance, stands_intrinsic}
use Rattle.pc_inline_state.specs.Stands.{stands_intrinsics, stands_lifted, stands_static, stands_type}
use Rattle.pc_inline_state.specs.Tables.{Tables}
use Rattle.pc_inline_modules.specs.declared.modules.ModuleSource.{ModuleSource}
use Rattle.pc_inline_modules.specs.declared.modules.ModuleSource.TheVariants as source
use Rattle.pc_inline_modules.specs.Sources.{module_source}

module _ (ms : List ModuleRecord) (b : Tables) where
  -- a module of the reading, by what it is in the code
  pub data ModuleIs : Module → Option ModuleSource → Type 0 where
    is_static : {m : StaticModuleIndex} {tree : TypeTree} → ModuleIs (static_module m.0 tree) (Some (source.Static m))
    is_host : {p : PathId} {entry : ℕ} {path : Path} {tree : TypeTree} → slice_get b.paths p.0 ≡ Some path
        → IsHostType ms b path tree → IsTableTree ms b is_module entry tree
        → ModuleIs (host_module path tree) (Some (source.Host p entry))

  -- the value that a definition has is this module
  entry_source : (d : Definition) (v : Value) (x : Module) → DefinitionStands ms b d v → v ≡ module_value x
      → ModuleIs x (module_source d)
  entry_source d v x (stands_host held given typed) is = absurd (let k : ⊥ = cc in k)
  entry_source d v x (stands_lifted ty func options) is = absurd (let k : ⊥ = cc in k)
  entry_source d v x (stands_component tr body leaving closure modules components) is = absurd (let k : ⊥ = cc in k)
  entry_source d v x (stands_host_instance held given tabled typed) is = absurd (let k : ⊥ = cc in k)
  entry_source d v x (stands_instance held exported typed) is = absurd (let k : ⊥ = cc in k)
  entry_source d v x stands_intrinsic is = absurd (let k : ⊥ = cc in k)
  entry_source d v x stands_intrinsics is = absurd (let k : ⊥ = cc in k)
  entry_source d v x (stands_type typed) is = absurd (let k : ⊥ = cc in k)
  entry_source d v x (stands_static {m = m} {tree = tree} handed_in tabled i typed) is =
      let same : static_module m.0 tree ≡ x = cc in
      subst (λ (y : Module). ModuleIs y (Some (source.Static m))) same is_static
  entry_source d v x (stands_host_module {p = p} {entry = entry} {path = path} {tree = tree} held given tabled typed)
      is =
      let same : host_module path tree ≡ x = cc in
      subst (λ (y : Module). ModuleIs y (Some (source.Host p entry))) same (is_host held given tabled)

  -- a module by number
  pub module_is : (id : DefinitionId) (x : Module) → ModuleStands ms b id x
      → ModuleIs x (option_and_then module_source (slice_get b.definitions id.0))
  module_is id x (stands {d = d} held entry) =
      subst (λ (o : Option Definition). ModuleIs x (option_and_then module_source o)) (sym held)
      (entry_source d (module_value x) x entry refl)

  -- it is one of either kind
  pub no_source : (x : Module) (o : Option ModuleSource) → ModuleIs x o → o ≡ None → ⊥
  no_source x o (is_static {m = m}) none = none-some (source.Static m) (sym none)
  no_source x o (is_host {p = p} {entry = entry} held given tabled) none = none-some (source.Host p entry) (sym none)

  -- one that was handed in
  pub static_source : (x : Module) (o : Option ModuleSource) (m : StaticModuleIndex) → ModuleIs x o
      → o ≡ Some (source.Static m) → (tree : TypeTree) × (x ≡ static_module m.0 tree)
  static_source x o m (is_static {m = n} {tree = tree}) is =
      let same : n ≡ m = cc in
      (tree, ap (λ (k : StaticModuleIndex). static_module k.0 tree) same)
  static_source x o m (is_host held given tabled) is = absurd (let k : ⊥ = cc in k)

  -- one of the host
  pub host_source : (x : Module) (o : Option ModuleSource) (p : PathId) (entry : ℕ) → ModuleIs x o
      → o ≡ Some (source.Host p entry)
      → (path : Path) × (tree : TypeTree) × (slice_get b.paths p.0 ≡ Some path) × IsHostType ms b path tree
      × IsTableTree ms b is_module entry tree × (x ≡ host_module path tree)
  host_source x o p entry is_static is = absurd (let k : ⊥ = cc in k)
  host_source x o p entry (is_host {p = q} {entry = n} {path = path} {tree = tree} held given tabled) is =
      let same_path : q ≡ p = cc in
      let same_entry : n ≡ entry = cc in (
        path,
        tree,
        subst (λ (k : PathId). slice_get b.paths k.0 ≡ Some path) same_path held,
        given,
        subst (λ (k : ℕ). IsTableTree ms b is_module k tree) same_entry tabled,
        refl,
      )
