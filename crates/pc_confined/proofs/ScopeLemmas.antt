-- What a scope and a log may be given.
use Rattle.std.proofs.Common.{◌≡◌, ℕ, List, [], ◌∷◌, ◌++◌, refl, ap, ◌∙◌, append-nil, length}
use Rattle.std.specs.Prelude.{slice_get, All}
use Rattle.std.proofs.lemmas.List.Elements.{All-push, filter_map-append}
use Rattle.pc_entity.proofs.Growing.{slice_get-append_seam}
use Rattle.pc_types.specs.declared.parsed.CoreFuncSig.{CoreFuncSig}
use Rattle.pc_types.specs.declared.parsed.CoreKind.{CoreKind}
use Rattle.pc_types.specs.declared.parsed.CoreKind.TheVariants as core
use Rattle.pc_types.specs.TypeTree.{Identity, Path}
use Rattle.pc_spec_plan.specs.CoreValue.{CoreValue, intrinsic}
use Rattle.pc_spec_plan.specs.Log.{Entry, Instantiation, instances_of, instantiated, needed, owned_of}
use Rattle.pc_parsed.specs.Mark.{Mark}
use Rattle.pc_spec_reading.specs.Scope.{CoreInstance, Moment, Scope, add_core, add_core_instance, add_entry}
use Rattle.pc_spec_reading.specs.Scope.{add_intrinsic}
use Rattle.pc_spec_reading.specs.Scope.{add_value, core_list, with_core, with_known, with_value}
use Rattle.pc_spec_reading.specs.Value.{Value, component_value, func_value, instance_value, module_value, type_value}
use Rattle.pc_spec_wiring.specs.Confined.{Belongs, Tells, WasMadeFor, intrinsic_is_of}
use Rattle.pc_confined.proofs.GrowthLemmas.{confined_more, longer, one_more, scope_grown, stays}
use Rattle.pc_confined.proofs.Sound.{Follows, IsConfinedEntry, IsSoundArgument, IsSoundCore, IsSoundFunction}
use Rattle.pc_confined.proofs.Sound.{IsSoundInstance, IsSoundMoment, IsSoundScope, IsSoundValue}

module _ (log : List (Entry Mark)) (s : Scope) (sound : IsSoundScope log s) where
  -- an item more
  value_more : (v : Value) → IsSoundValue log v → IsSoundScope log (with_value s v)
  value_more (func_value f) h = record {
    cores = sound.cores;
    core_instances = sound.core_instances;
    funcs = All-push (IsSoundFunction log) s.funcs f sound.funcs h;
    instances = sound.instances;
    arguments = sound.arguments;
  }
  value_more (module_value m) h = record {
    cores = sound.cores;
    core_instances = sound.core_instances;
    funcs = sound.funcs;
    instances = sound.instances;
    arguments = sound.arguments;
  }
  value_more (instance_value i) h = record {
    cores = sound.cores;
    core_instances = sound.core_instances;
    funcs = sound.funcs;
    instances = All-push (IsSoundInstance log) s.instances i sound.instances h;
    arguments = sound.arguments;
  }
  value_more (component_value c) h = record {
    cores = sound.cores;
    core_instances = sound.core_instances;
    funcs = sound.funcs;
    instances = sound.instances;
    arguments = sound.arguments;
  }
  value_more (type_value t) h = sound

  -- the lists of core items, where others stand
  cores_new : (fs ms ts gs tags : List (CoreValue Mark))
      → ((k : CoreKind) → All (Belongs log s.component_instance)
      (core_list (record s { core_funcs = fs; memories = ms; tables = ts; globals = gs; tags = tags }) k))
      → IsSoundScope log (record s { core_funcs = fs; memories = ms; tables = ts; globals = gs; tags = tags })
  cores_new fs ms ts gs tags h = record {
    cores = h;
    core_instances = sound.core_instances;
    funcs = sound.funcs;
    instances = sound.instances;
    arguments = sound.arguments;
  }

  -- a core item more stands at the end of its list
  list_more : (k : CoreKind) (v : CoreValue Mark) → Belongs log s.component_instance v → (l : CoreKind)
      → All (Belongs log s.component_instance) (core_list (with_core s k v) l)
  list_more core.Func v b core.Func =
      All-push (Belongs log s.component_instance) s.core_funcs v (sound.cores core.Func) b
  list_more core.Func v b l = sound.cores l
  list_more core.Table v b core.Table =
      All-push (Belongs log s.component_instance) s.tables v (sound.cores core.Table) b
  list_more core.Table v b l = sound.cores l
  list_more core.Memory v b core.Memory =
      All-push (Belongs log s.component_instance) s.memories v (sound.cores core.Memory) b
  list_more core.Memory v b l = sound.cores l
  list_more core.Global v b core.Global =
      All-push (Belongs log s.component_instance) s.globals v (sound.cores core.Global) b
  list_more core.Global v b l = sound.cores l
  list_more core.Tag v b core.Tag = All-push (Belongs log s.component_instance) s.tags v (sound.cores core.Tag) b
  list_more core.Tag v b l = sound.cores l

  -- a core item more
  core_more : (k : CoreKind) (v : CoreValue Mark) → Belongs log s.component_instance v
      → IsSoundScope log (with_core s k v)
  core_more core.Func v b =
      cores_new (s.core_funcs ++ v ∷ []) s.memories s.tables s.globals s.tags (list_more core.Func v b)
  core_more core.Table v b =
      cores_new s.core_funcs s.memories (s.tables ++ v ∷ []) s.globals s.tags (list_more core.Table v b)
  core_more core.Memory v b =
      cores_new s.core_funcs (s.memories ++ v ∷ []) s.tables s.globals s.tags (list_more core.Memory v b)
  core_more core.Global v b =
      cores_new s.core_funcs s.memories s.tables (s.globals ++ v ∷ []) s.tags (list_more core.Global v b)
  core_more core.Tag v b =
      cores_new s.core_funcs s.memories s.tables s.globals (s.tags ++ v ∷ []) (list_more core.Tag v b)

-- a moment follows itself
pub now_follows : (now : Moment) → IsSoundMoment now → Follows now now
now_follows now sound = record { sound = sound; grows = stays now.world.log }

-- what follows what follows follows
pub both_follow : (a b c : Moment) → Follows a b → Follows b c → Follows a c
both_follow a b c first second = record {
  sound = second.sound;
  grows = longer a.world.log b.world.log c.world.log first.grows second.grows;
}

module _ (now : Moment) (sound : IsSoundMoment now) where
  -- an item more
  pub value_added : (v : Value) → IsSoundValue now.world.log v → Follows now (add_value now v)
  value_added v h = record {
    sound = record {
      confined = sound.confined;
      scope = value_more now.world.log now.scope sound.scope v h;
    };
    grows = stays now.world.log;
  }

  -- a core item more
  pub core_added : (k : CoreKind) (v : CoreValue Mark) → Belongs now.world.log now.scope.component_instance v
      → Follows now (add_core now k v)
  core_added k v h = record {
    sound = record {
      confined = sound.confined;
      scope = core_more now.world.log now.scope sound.scope k v h;
    };
    grows = stays now.world.log;
  }

  -- a core instance more
  pub instance_added : (i : CoreInstance) → IsSoundCore now.world.log now.scope.component_instance i
      → Follows now (add_core_instance now i)
  instance_added i h = record {
    sound = record {
      confined = sound.confined;
      scope = record {
        cores = sound.scope.cores;
        core_instances =
            All-push (IsSoundCore now.world.log now.scope.component_instance) now.scope.core_instances i
            sound.scope.core_instances h;
        funcs = sound.scope.funcs;
        instances = sound.scope.instances;
        arguments = sound.scope.arguments;
      };
    };
    grows = stays now.world.log;
  }

  -- an argument more
  pub argument_added : (a : List ℕ × Value) → IsSoundArgument now.world.log a
      → IsSoundScope now.world.log (record now.scope { arguments = now.scope.arguments ++ a ∷ [] })
  argument_added a h = record {
    cores = sound.scope.cores;
    core_instances = sound.scope.core_instances;
    funcs = sound.scope.funcs;
    instances = sound.scope.instances;
    arguments = All-push (IsSoundArgument now.world.log) now.scope.arguments a sound.scope.arguments h;
  }

  -- other resources are known
  pub known_follows : (known : List (ℕ × Identity)) → Follows now (with_known now known)
  known_follows known = record {
    sound = record {
      confined = sound.confined;
      scope = record {
        cores = sound.scope.cores;
        core_instances = sound.scope.core_instances;
        funcs = sound.scope.funcs;
        instances = sound.scope.instances;
        arguments = sound.scope.arguments;
      };
    };
    grows = stays now.world.log;
  }

  -- an entry more
  pub entry_added : (e : Entry Mark) → IsConfinedEntry now.world.log e → Follows now (add_entry now e)
  entry_added e h = record {
    sound = record {
      confined = confined_more now.world.log e sound.confined h;
      scope = scope_grown now.world.log (now.world.log ++ e ∷ []) (one_more now.world.log e) now.scope sound.scope;
    };
    grows = one_more now.world.log e;
  }

  -- an intrinsic more
  pub intrinsic_added : (place : ℕ) (s : CoreFuncSig) → Follows now (add_intrinsic now place s)
  unfolding Tells
  intrinsic_added place s = record {
    sound = record {
      confined = sound.confined;
      scope = core_more now.world.log now.scope sound.scope core.Func (intrinsic place)
          (record { whose = intrinsic_is_of; told = tt });
    };
    grows = stays now.world.log;
  }

-- the core instance that the last entry makes is the next
pub made_last : (log : List (Entry Mark)) (i : Instantiation Mark) (c : ℕ)
    → WasMadeFor (instances_of (log ++ instantiated i c ∷ [])) (length (instances_of log)) c
made_last log i c = (
  record { instantiation = i; component_instance = c },
  ap (λ os. slice_get os (length (instances_of log))) (filter_map-append owned_of log (instantiated i c ∷ []))
      ∙ slice_get-append_seam (instances_of log) (record { instantiation = i; component_instance = c }) [],
  refl,
)

-- what is needed makes none
pub needed_none : (log : List (Entry Mark)) (p : Path) → instances_of (log ++ needed p ∷ []) ≡ instances_of log
needed_none log p = filter_map-append owned_of log (needed p ∷ []) ∙ append-nil (instances_of log)
