-- How an import comes into the graph, with the resources that it leads to.
use Rattle.std.specs.Prelude.{◌≡◌, ◌<◌, ℕ, List, [], ◌∷◌, ◌++◌, length, map, Some, slice_get, option_and_then}
use Rattle.std.specs.Prelude.{unwrap_or}
use Rattle.std.specs.List.{AllZip, fold}
use Rattle.pc_numbers.specs.declared.runtime.RuntimeImportIndex.{RuntimeImportIndex}
use Rattle.pc_types.specs.declared.module_record.ModuleRecord.{ModuleRecord}
use Rattle.pc_types.specs.declared.parsed.Entity.{Entity}
use Rattle.pc_types.specs.declared.parsed.TypeTable.{TypeTable}
use Rattle.pc_types.specs.TypeTree.{Path}
use Rattle.pc_types_walk.specs.declared.walk.Found.{Found}
use Rattle.pc_types_walk.specs.declared.walk.Place.{Place}
use Rattle.pc_types_walk.specs.Walks.{AreNamed, export_at}
use Rattle.pc_parsed.specs.declared.payload.ExternName.{ExternName}
use Rattle.pc_spec_reading.specs.Asked.{import_path, with_path}
use Rattle.pc_dfg.specs.Lists as list
use Rattle.pc_dfg.specs.Lists.{ListName}
use Rattle.pc_dfg.specs.Means.{HasPath}
use Rattle.pc_inline_paths.specs.declared.path_id.PathId.{PathId}
use Rattle.pc_inline_paths.specs.Paths.{further}
use Rattle.pc_inline_state.specs.declared.definition.DefinitionId.{DefinitionId}
use Rattle.pc_inline_state.specs.declared.state.State.{State}
use Rattle.pc_inline_state.specs.Fits.{path_of}
use Rattle.pc_inline_state.specs.Points.{IsSoundState}
use Rattle.pc_inline_imports.specs.Given.{host_definition, import_of}
use Rattle.pc_inline_imports.specs.declared.learn.Learnt.{Learnt}

-- so many entries among the imports that are used, and as many among the resources that came with imports
abbrev pub in_brought : ℕ → ListName → ℕ
in_brought n list.imports = n
in_brought n list.imported_resources = n
in_brought n list.resources = n
in_brought n l = 0

-- the same, and one among the imports
abbrev pub in_given : ℕ → ListName → ℕ
in_given n list.import_types = 1
in_given n l = in_brought n l

-- the places of these are below a number
abbrev pub AllBelow : ℕ → List Found → Type 0
AllBelow n found = (k : ℕ) (f : Found) → slice_get found k ≡ Some f → f.place < n

-- these are numbers of paths that are held
abbrev pub AllHeld : List PathId → List Path → Type 0
AllHeld ids paths = (k : ℕ) (id : PathId) → slice_get ids k ≡ Some id → id.0 < length paths

-- the path to an import with names behind it
abbrev pub path_with : (import : ℕ) → List (List ℕ) → Path
path_with i names = record { import = i; names = names }

-- the paths of these numbers begin at an import and go on with the names, place by place
abbrev pub ArePaths : (import : ℕ) → List (List (List ℕ)) → List Path → List PathId → Type 0
ArePaths i names paths ids =
    (k : ℕ) (id : PathId) → slice_get ids k ≡ Some id
    → (ns : List (List ℕ)) × (slice_get names k ≡ Some ns) × (slice_get paths id.0 ≡ Some (path_with i ns))

-- the path of a place is known under the next of these numbers
abbrev pub GoesFurther : TypeTable → Place → (old : List Path) → (before : List PathId) → (new : List Path)
    → (after : List PathId) → Type 0
GoesFurther t place old before new after =
    (id : PathId) × (after ≡ before ++ id ∷ [])
    × ((parent : PathId) (p : Path) (x : List ℕ × Entity) → slice_get before place.parent ≡ Some parent
    → slice_get old parent.0 ≡ Some p → export_at t place.entry place.export ≡ Some x
    → slice_get new id.0 ≡ Some (further p x.0))

-- the path at the place of a resource
abbrev pub path_at : List PathId → List Path → Found → Path
path_at ids paths f =
    unwrap_or (option_and_then (λ (id : PathId). slice_get paths id.0) (slice_get ids f.place)) (import_path 0)

module _ (t : TypeTable) (ms : List ModuleRecord) where
  -- the resources at these paths came into the graph, in order
  pub record Brings (ps : List Path) (old new : State) : Type 0 where
    pub sound : IsSoundState t ms new
    pub imports : map path_of new.graph.imports ≡ fold with_path (map path_of old.graph.imports) ps
    pub more : List RuntimeImportIndex
    pub resources : new.graph.imported_resources ≡ old.graph.imported_resources ++ more
    pub paths : AllZip (λ (r : RuntimeImportIndex). HasPath new.graph r.0) more ps
    pub rest : new ≡ record old {
      graph = record old.graph {
        imports = new.graph.imports;
        imported_resources = new.graph.imported_resources;
      };
      used = new.used;
    }

  -- one import more is in the graph, with the resources that it leads to, and its definition
  pub record Gives (name : ExternName) (e : Entity) (l : Learnt) (old new : State) (id : DefinitionId) : Type 0 where
    pub sound : IsSoundState t ms new
    pub imports : (names : List (List (List ℕ))) → AreNamed t l.places names
        → (ps : List (List (List ℕ)))
        → AllZip (λ (f : Found) (ns : List (List ℕ)). slice_get names f.place ≡ Some ns) l.found ps
        → map path_of new.graph.imports
        ≡ fold with_path (map path_of old.graph.imports) (map (path_with (length old.graph.import_types)) ps)
    pub more : List RuntimeImportIndex
    pub resources : new.graph.imported_resources ≡ old.graph.imported_resources ++ more
    pub paths : (names : List (List (List ℕ))) → AreNamed t l.places names
        → (ps : List (List (List ℕ)))
        → AllZip (λ (f : Found) (ns : List (List ℕ)). slice_get names f.place ≡ Some ns) l.found ps
        → AllZip (λ (r : RuntimeImportIndex). HasPath new.graph r.0) more
        (map (path_with (length old.graph.import_types)) ps)
    pub path : PathId
    pub held : slice_get new.paths.held path.0 ≡ Some (import_path (length old.graph.import_types))
    pub defined : slice_get new.definitions id.0 ≡ Some (host_definition path e l.ty)
    pub import_types : new.graph.import_types ≡ old.graph.import_types ++ import_of name l.ty ∷ []
    pub rest : new ≡ record old {
      graph = record old.graph {
        import_types = new.graph.import_types;
        imports = new.graph.imports;
        imported_resources = new.graph.imported_resources;
      };
      paths = new.paths;
      used = new.used;
      definitions = new.definitions;
    }
