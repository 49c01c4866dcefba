-- What core instances are made of, and the widths of the memories of adapters, when tables and graphs have grown.
use Rattle.std.proofs.Common.{◌≡◌, ◌+◌, ℕ, List, [], ◌∷◌, ◌++◌, length, None, Some, inl, inr, sym, subst, ap, ◌∙◌}
use Rattle.std.specs.Prelude.{slice_get}
use Rattle.std.proofs.lemmas.List.{length-append}
use Rattle.pc_entity.proofs.Growing.{slice_get-append}
use Rattle.pc_types.specs.declared.module_record.ModuleRecord.{ModuleRecord}
use Rattle.pc_types.specs.declared.parsed.TypeTable.{TypeTable}
use Rattle.pc_types.specs.Table.{is_module}
use Rattle.pc_dfg.specs.declared.adapter.Adapter.{Adapter}
use Rattle.pc_dfg.specs.declared.adapter.DataModel.{DataModel}
use Rattle.pc_dfg.specs.declared.adapter.DataModel.TheVariants as side
use Rattle.pc_dfg.specs.declared.dfg.ComponentDfg.{ComponentDfg}
use Rattle.pc_dfg.specs.declared.instance.Instance.{Instance}
use Rattle.pc_dfg.specs.declared.instance.Instance.TheVariants as source
use Rattle.pc_dfg.specs.Lists as list
use Rattle.pc_dfg.proofs.AddLemmas.{get_appended}
use Rattle.pc_dfg.proofs.GrowLemmas.{kept}
use Rattle.pc_inline_state.specs.declared.instance_module.InstanceModule.{InstanceModule}
use Rattle.pc_inline_state.specs.Instances.{HasModelWidth, HaveWidths, InstancesStand, IsMadeOf, made_of_import}
use Rattle.pc_inline_state.specs.Instances.{made_of_static}
use Rattle.pc_inline_state.specs.Tables.{Keeps, Tables}
use Rattle.pc_inline_state.proofs.TypeKeptLemmas.{host_type_kept, table_tree_kept}

module _ (ms : List ModuleRecord) (a b : Tables) (keeps : Keeps a b) where
  -- a core instance is made of its module
  pub made_of_kept : (n : ℕ) (m : InstanceModule) → IsMadeOf ms a n m → IsMadeOf ms b n m
  made_of_kept n m (made_of_static {m = core_module} {args = args} made) =
      made_of_static (kept a.graph b.graph keeps.graph list.instances n (source.Static core_module args) made)
  made_of_kept n m (made_of_import {r = r} {args = args} {entry = entry} {path = path} {tree = tree} made given typed
      tabled) =
      made_of_import (kept a.graph b.graph keeps.graph list.instances n (source.Import r args) made)
      (kept a.graph b.graph keeps.graph list.imports r.0 (record { 0 = path.import }, path.names) given)
      (host_type_kept ms a b keeps path tree typed) (table_tree_kept ms a b keeps is_module entry tree tabled)

  -- each is, where no core instance was added
  pub instances_kept : b.graph.instances ≡ a.graph.instances → (modules : List InstanceModule)
      → InstancesStand ms a modules → InstancesStand ms b modules
  instances_kept same modules s = record {
    as_many = s.as_many ∙ sym (ap length same);
    each = λ n m at. made_of_kept n m (s.each n m at);
  }

  -- and where one was, with its module
  pub instances_pushed : (x : Instance) → b.graph.instances ≡ a.graph.instances ++ x ∷ []
      → (modules : List InstanceModule) (m : InstanceModule) → IsMadeOf ms b (length a.graph.instances) m
      → InstancesStand ms a modules → InstancesStand ms b (modules ++ m ∷ [])
  instances_pushed x more modules m made s = record {
    as_many = length-append modules (m ∷ []) ∙ ap (λ k. k + 1) s.as_many
        ∙ sym (ap length more ∙ length-append a.graph.instances (x ∷ []));
    each = λ n y at. elim (get_appended modules m n y at) as (λ _. IsMadeOf ms b n y) [
      | inl old ↦ made_of_kept n y (s.each n y old)
      | inr new ↦ subst (λ k. IsMadeOf ms b k y) (sym s.as_many ∙ new.0)
          (subst (IsMadeOf ms b (length a.graph.instances)) new.1 made)
    ];
  }

module _ (t : TypeTable) (ms : List ModuleRecord) where
  -- the widths of memories are as said where no adapter was added
  pub widths_kept : (modules : List InstanceModule) (g h : ComponentDfg) → h.adapters ≡ g.adapters
      → HaveWidths t ms modules g → HaveWidths t ms modules h
  widths_kept modules g h same w = record {
    lift = λ n x at. w.lift n x (ap (λ (xs : List Adapter). slice_get xs n) (sym same) ∙ at);
    lower = λ n x at. w.lower n x (ap (λ (xs : List Adapter). slice_get xs n) (sym same) ∙ at);
  }

  -- of a side, where modules were added
  pub model_width_more : (modules more : List InstanceModule) (d : DataModel) → HasModelWidth t ms modules d
      → HasModelWidth t ms (modules ++ more) d
  unfolding HasModelWidth
  model_width_more modules more side.Gc w = tt
  model_width_more modules more (side.LinearMemory None realloc) w = tt
  model_width_more modules more (side.LinearMemory (Some x) realloc) w = record {
    instance_module = w.instance_module;
    made = slice_get-append modules more x.0.instance.0 w.instance_module w.made;
    is = w.is;
  }

  -- of both sides of all adapters
  pub widths_more : (modules more : List InstanceModule) (g : ComponentDfg) → HaveWidths t ms modules g
      → HaveWidths t ms (modules ++ more) g
  widths_more modules more g w = record {
    lift = λ n x at. model_width_more modules more x.lift_options.data_model (w.lift n x at);
    lower = λ n x at. model_width_more modules more x.lower_options.data_model (w.lower n x at);
  }
