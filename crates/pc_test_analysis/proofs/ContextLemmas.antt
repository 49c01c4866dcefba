-- What the tests of contexts know of their graphs and modules.
use Rattle.std.proofs.Common.{◌≡◌, ◌<◌, ℕ, List, length, Option, None, Some, sym, ap, ◌∙◌, arith, refl}
use Rattle.std.specs.Prelude.{All, option_map, slice_get}
use Rattle.std.proofs.lemmas.Option.{none-some, same_Some, slice_get-get_or, slice_get-map, slice_get_within}
use Rattle.pc_numbers.specs.declared.component_entity.StaticModuleIndex.{StaticModuleIndex}
use Rattle.pc_types.specs.declared.module_record.ModuleRecord.{ModuleRecord}
use Rattle.pc_info.specs.declared.module.ModuleTranslation.{ModuleTranslation}
use Rattle.pc_info.specs.Modules.{module_view}
use Rattle.pc_dfg.specs.declared.core_def.CoreDef.{CoreDef}
use Rattle.pc_dfg.specs.declared.dfg.ComponentDfg.{ComponentDfg}
use Rattle.pc_dfg.specs.declared.instance.Instance.TheVariants as source
use Rattle.pc_dfg.specs.Held.{HeldInstance, IsHeld}
use Rattle.pc_analysis_contexts.specs.Recorded.{AreDefined, HaveFewImports, records_of}
use Rattle.pc_test_analysis.specs.Cores.{AreHeldAll}

-- where no adapter is grouped, each place of one is right
pub none_defined : (g : ComponentDfg) (rs : List ModuleRecord) → length g.adapter_partitionings ≡ 0 → AreDefined g rs
none_defined g rs none a p at = absurd (omega (arith, none, slice_get_within g.adapter_partitionings a p at))

-- modules with few imports have records with few
pub few_records : (ms : List ModuleTranslation)
    → ((m : ℕ) (x : ModuleTranslation) → slice_get ms m ≡ Some x → length x.«module».imports < 1000000)
    → HaveFewImports (records_of ms)
few_records ms few m r at = by (slice_get ms m) refl
  where
    by : (o : Option ModuleTranslation) → slice_get ms m ≡ o → length r.imports < 4294967295
    by None is = absurd (none-some r (sym (slice_get-map module_view ms m ∙ ap (option_map module_view) is) ∙ at))
    by (Some x) is =
        let same : x.«module» ≡ r =
        same_Some _ _ (sym (slice_get-map module_view ms m ∙ ap (option_map module_view) is) ∙ at) in
        omega (arith, few m x is, ap (λ (t : ModuleRecord). length t.imports) same)

-- definitions of which each is held
pub all_held : (g : ComponentDfg) (ds : List CoreDef) → AreHeldAll g ds → All (IsHeld g) ds
all_held g ds each k d within = each k _ (slice_get-get_or ds k d within)

-- a core instance that is given such definitions
pub held_instance : (g : ComponentDfg) (m : StaticModuleIndex) (ds : List CoreDef) → AreHeldAll g ds
    → HeldInstance g (source.Static m ds)
unfolding HeldInstance
held_instance g m ds each = all_held g ds each
