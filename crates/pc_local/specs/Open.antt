-- What a payload makes of the open bodies.
use Rattle.std.specs.Prelude.{◌≡◌, ℕ, List, [], ◌∷◌, ◌++◌, length, map, Option, None}
use Rattle.std.specs.List.{filter_map}
use Rattle.pc_types.specs.declared.module_record.ModuleRecord.{ModuleRecord}
use Rattle.pc_parsed.specs.declared.payload.AliasItem.{AliasItem}
use Rattle.pc_parsed.specs.declared.payload.Payload.{Payload}
use Rattle.pc_parsed.specs.declared.payload.Payload.TheVariants as payload
use Rattle.pc_local.specs.declared.captured.Captured.{Captured}
use Rattle.pc_local.specs.declared.item.ClosedOverVars.{ClosedOverVars}
use Rattle.pc_local.specs.declared.item.LocalInitializer.{LocalInitializer}
use Rattle.pc_local.specs.declared.item.LocalInitializer.TheVariants as local
use Rattle.pc_local.specs.declared.item.Translation.{Translation}
use Rattle.pc_local.specs.declared.open.Open.{Open}
use Rattle.pc_local.specs.Captured.{AliasesGo, nothing, part}
use Rattle.pc_local.specs.Entries.{canon_local, component_instance_local, export_entry, export_local, import_local}
use Rattle.pc_local.specs.Entries.{instance_local, type_local}
use Rattle.pc_local.specs.Standing.{component_variable, module_variable}

-- the open bodies as lists
pub record State : Type 0 where
  pub around : List Translation
  pub body : Translation
  pub modules : List Captured
  pub components : List Captured
  pub records : List ModuleRecord
  pub ended : List Translation

-- the lists of what the code holds
abbrev pub state_of : Open → State
state_of o = record {
  around = o.around.items;
  body = o.body;
  modules = o.modules.items;
  components = o.components.items;
  records = o.records;
  ended = o.ended;
}

-- a body without items
abbrev pub empty_body : Translation
empty_body = record { initializers = []; exports = [] }

-- nothing but the root has begun
abbrev pub first_state : State
first_state = record {
  around = [];
  body = empty_body;
  modules = nothing ∷ [];
  components = nothing ∷ [];
  records = [];
  ended = [];
}

-- a nested body has begun
abbrev pub begun : State → State
begun s = record {
  around = s.around ++ s.body ∷ [];
  body = empty_body;
  modules = s.modules ++ nothing ∷ [];
  components = s.components ++ nothing ∷ [];
  records = s.records;
  ended = s.ended;
}

-- the innermost body has items more
abbrev pub with_items : State → List LocalInitializer → State
with_items s ls = record s {
  body = record { initializers = s.body.initializers ++ ls; exports = s.body.exports };
}

-- the innermost body has a core module more
abbrev pub with_module : State → ModuleRecord → (ty : ℕ) → State
with_module s r ty = record s {
  body = record {
    initializers = s.body.initializers ++ local.ModuleStatic (record { 0 = length s.records }) ty ∷ [];
    exports = s.body.exports;
  };
  records = s.records ++ r ∷ [];
}

-- the innermost body is an item of the one around it, which is given what it captures
pub record Closes (old : State) (outer : Translation) (m c : Captured) (new : State) : Type 0 where
  pub vars : ClosedOverVars
  pub gives_modules : map module_variable vars.modules ≡ m.variables
  pub gives_components : map component_variable vars.components ≡ c.variables
  pub body : new.body ≡ record {
    initializers = outer.initializers ++ local.ComponentStatic (record { 0 = length old.ended }) vars ∷ [];
    exports = outer.exports;
  }
  pub ended : new.ended ≡ old.ended ++ old.body ∷ []
  pub records : new.records ≡ old.records

-- the innermost body has ended
pub data Ends (old new : State) : Type 0 where
  -- it was the root
  ends_root : old.around ≡ [] → new ≡ old → Ends old new
  -- it was inside another
  ends_inner : (outer : Translation) (m c : Captured) → old.around ≡ new.around ++ outer ∷ []
      → old.modules ≡ new.modules ++ m ∷ [] → old.components ≡ new.components ++ c ∷ []
      → Closes old outer m c new → Ends old new
  -- there were fewer lists of captured variables than bodies
  ends_modules : old.modules ≡ [] → new.records ≡ old.records → new.ended ≡ old.ended → Ends old new
  ends_components : old.components ≡ [] → new.records ≡ old.records → new.ended ≡ old.ended → Ends old new

-- the innermost body has the items of aliases more
pub record Aliased (items : List AliasItem) (old new : State) : Type 0 where
  pub aliases : AliasesGo items (part old.body.initializers old.modules old.components)
      (part new.body.initializers new.modules new.components)
  pub exports : new.body.exports ≡ old.body.exports
  pub around : new.around ≡ old.around
  pub records : new.records ≡ old.records
  pub ended : new.ended ≡ old.ended

-- the exposed name in the innermost body: the root alone imports the unsafe intrinsics
abbrev pub exposed_in : (around : List Translation) → Option (List ℕ) → Option (List ℕ)
exposed_in [] x = x
exposed_in (t ∷ ts) x = None

-- a payload has been gone through
abbrev pub Goes : (exposed : Option (List ℕ)) → State → Payload → State → Type 0
Goes x old payload.ComponentSection new = new ≡ begun old
Goes x old payload.End new = Ends old new
Goes x old (payload.ModuleSection r ty) new = new ≡ with_module old r ty
Goes x old (payload.ComponentExportSection es) new =
    new ≡ record old {
      body = record {
        initializers = old.body.initializers ++ map export_local es;
        exports = old.body.exports ++ map export_entry es;
      };
    }
Goes x old (payload.ComponentAliasSection es) new = Aliased es old new
Goes x old (payload.ComponentImportSection es) new =
    new ≡ with_items old (map (import_local (exposed_in old.around x)) es)
Goes x old (payload.ComponentTypeSection es) new = new ≡ with_items old (filter_map type_local es)
Goes x old (payload.ComponentCanonicalSection es) new = new ≡ with_items old (filter_map canon_local es)
Goes x old (payload.InstanceSection es) new = new ≡ with_items old (filter_map instance_local es)
Goes x old (payload.ComponentInstanceSection es) new = new ≡ with_items old (filter_map component_instance_local es)
Goes x old _ new = new ≡ old
