-- A type has its tree when the tables have grown.
use Rattle.std.proofs.Common.{◌≡◌, ℕ, Bool, true, List, Some, sym, subst}
use Rattle.pc_types.specs.declared.module_record.ModuleRecord.{ModuleRecord}
use Rattle.pc_types.specs.declared.parsed.DeclType.{DeclType}
use Rattle.pc_types.specs.declared.parsed.TypeTable.{TypeTable as Table}
use Rattle.pc_types.specs.declared.types.TypeDef.{TypeDef}
use Rattle.pc_types.specs.TypeTree.{Path, TypeTree, tree_of}
use Rattle.pc_types_builder.proofs.TreeLemmas.{tree_keeps}
use Rattle.pc_spec_reading.specs.Types.{has_entry}
use Rattle.pc_dfg.specs.Lists as list
use Rattle.pc_dfg.proofs.GrowLemmas.{kept}
use Rattle.pc_inline_state.specs.Stands.{IsHostType, IsTableTree, IsType}
use Rattle.pc_inline_state.specs.Tables.{Keeps, Tables}

module _ (ms : List ModuleRecord) (b c : Tables) (keeps : Keeps b c) where
  -- a type
  pub type_kept : (d : TypeDef) (tree : TypeTree) → IsType ms b d tree → IsType ms c d tree
  type_kept d tree is who fits = tree_keeps b.types c.types keeps.types who d tree (is who (keeps.fits who fits))

  -- the type of what the host gives at a path
  pub host_type_kept : (path : Path) (tree : TypeTree) → IsHostType ms b path tree → IsHostType ms c path tree
  host_type_kept path tree x = record {
    import = x.import;
    there = kept b.graph c.graph keeps.graph list.import_types path.import x.import x.there;
    whole = x.whole;
    typed = type_kept x.import.1.ty x.whole x.typed;
    along = x.along;
  }

  -- the tree of an entry of the type table
  pub table_tree_kept : (test : DeclType → Bool) (n : ℕ) (tree : TypeTree) → IsTableTree ms b test n tree
      → IsTableTree ms c test n tree
  table_tree_kept test n tree x = record {
    there = subst (λ (t : Table). has_entry t test n ≡ true) (sym keeps.table) x.there;
    known = x.known;
    component_instance = x.component_instance;
    is = subst (λ (t : Table). tree_of x.known x.component_instance t n ≡ Some tree) (sym keeps.table) x.is;
  }
