-- A function type and its two tuples: they stay as the builder grows, and a builder that has the function type of an
-- entry has the tuples and the type that the conversion makes for it.
use Rattle.std.proofs.Common.{◌≡◌, ℕ, Bool, List, Option, Some, ap, refl, sym, ◌∙◌}
use Rattle.std.specs.Prelude.{slice_get}
use Rattle.std.specs.List.{AllZip}
use Rattle.pc_entity.specs.Lists.{names_of}
use Rattle.pc_types.specs.declared.parsed.ValType.{ValType}
use Rattle.pc_types.specs.declared.type_index.TypeFuncIndex.{TypeFuncIndex}
use Rattle.pc_types.specs.declared.type_index.TypeTupleIndex.{TypeTupleIndex}
use Rattle.pc_types.specs.declared.types.InterfaceType.{InterfaceType}
use Rattle.pc_types.specs.declared.types.TypeDef.{TypeDef}
use Rattle.pc_types.specs.declared.types.TypeKind.TheVariants.{Tuple}
use Rattle.pc_types_lists.specs.Types.{Types, Grows, HasNumber, IsBuilder}
use Rattle.pc_types_lists.proofs.Growth.{grows_trans}
use Rattle.pc_types_convert.specs.Entries.{FuncIs, ParamsAre, ResultsAre, ReturnsAre}
use Rattle.pc_types_convert.specs.Parts.{ValIs}
use Rattle.pc_types_convert.proofs.OneNumber.{one_params, one_returns}
use Rattle.pc_types_convert.proofs.PartLemmas.{params_are_grow, returns_grow}

module _ (old new : Types) (g : Grows old new) (done : List (Option TypeDef)) where
  -- the tuple of the parameters stays
  pub params_grow : (params : List (List ℕ × ValType)) (i : TypeTupleIndex) → ParamsAre old done params i
      → ParamsAre new done params i
  params_grow params i h =
      (h.0, g.tuples i.0 h.0 h.1, params_are_grow old new g done params h.0.types h.2)

  -- that of what is returned
  pub results_grow : (returns : Option ValType) (i : TypeTupleIndex) → ResultsAre old done returns i
      → ResultsAre new done returns i
  results_grow returns i h = (h.0, g.tuples i.0 h.0 h.1, returns_grow old new g done returns h.0.types h.2)

  -- the number of a tuple of the types that the parameters had is theirs
  pub params_are : (params : List (List ℕ × ValType)) (ws : List InterfaceType)
      → AllZip (λ (p : List ℕ × ValType) (w : InterfaceType). ValIs old done p.1 w) params ws
      → (i : TypeTupleIndex) → slice_get new.tuples i.0 ≡ Some (record { types = ws }) → ParamsAre new done params i
  params_are params ws are i at = (record { types = ws }, at, params_are_grow old new g done params ws are)

  -- the same of what is returned
  pub results_are : (returns : Option ValType) (ws : List InterfaceType) → ReturnsAre old done returns ws
      → (i : TypeTupleIndex) → slice_get new.tuples i.0 ≡ Some (record { types = ws }) → ResultsAre new done returns i
  results_are returns ws are i at = (record { types = ws }, at, returns_grow old new g done returns ws are)

-- a function type over its two tuples
func_is : (b : Types) (done : List (Option TypeDef)) (params : List (List ℕ × ValType)) (returns : Option ValType)
    (is_async : Bool) (names : List (List ℕ)) (p r : TypeTupleIndex) (i : TypeFuncIndex)
    → slice_get b.funcs i.0 ≡ Some (record { param_names = names; params = p; results = r; async_ = is_async })
    → names ≡ names_of params → ParamsAre b done params p → ResultsAre b done returns r
    → FuncIs b done params returns is_async i
func_is b done params returns is_async names p r i at named ps rs =
    (_, ps.0, rs.0, at, ps.1, rs.1, named, refl, ps.2, rs.2)

module _ (b : Types) (is : IsBuilder b) (done : List (Option TypeDef)) where
  -- the tuple of the parameters is there under their types
  abbrev params_there : (params : List (List ℕ × ValType)) (i : TypeTupleIndex) → ParamsAre b done params i
      → (ws : List InterfaceType) → AllZip (λ (p : List ℕ × ValType) (w : InterfaceType). ValIs b done p.1 w) params ws
      → HasNumber b.tuples (record { types = ws })
  params_there params i h ws are =
      (i.0, h.1 ∙ ap (λ x. Some (record { types = x })) (one_params b is.distinct done params h.0.types ws h.2 are))

  -- that of what is returned
  abbrev results_there : (returns : Option ValType) (i : TypeTupleIndex) → ResultsAre b done returns i
      → (ws : List InterfaceType) → ReturnsAre b done returns ws → HasNumber b.tuples (record { types = ws })
  results_there returns i h ws are =
      (i.0, h.1 ∙ ap (λ x. Some (record { types = x })) (one_returns b is.distinct done returns h.0.types ws h.2 are))

  -- the type of both
  func_there : (params : List (List ℕ × ValType)) (returns : Option ValType) (is_async : Bool) (i : TypeFuncIndex)
      → FuncIs b done params returns is_async i
      → (names : List (List ℕ)) (p r : TypeTupleIndex) → names ≡ names_of params
      → ParamsAre b done params p → ResultsAre b done returns r
      → HasNumber b.funcs (record { param_names = names; params = p; results = r; async_ = is_async })
  func_there params returns is_async i func names p r named ps rs =
      let at_params = is.distinct Tuple func.0.params.0 p.0 ps.0
      (params_there params func.0.params (func.1, func.4, func.8) ps.0.types ps.2).1 ps.1 in
      let at_results = is.distinct Tuple func.0.results.0 r.0 rs.0
      (results_there returns func.0.results (func.2, func.5, func.9) rs.0.types rs.2).1 rs.1 in
      let same_names = func.6 ∙ sym named in (
        i.0,
        func.3
            ∙ (λ k. Some (record {
              param_names = same_names k;
              params = record { 0 = at_params k };
              results = record { 0 = at_results k };
              async_ = func.7 k;
            })),
      )

module _ (first second b : Types) (to : Grows first second) (rest : Grows second b) (is : IsBuilder b)
    (done : List (Option TypeDef)) where
  -- a builder that has the tuple of the parameters has the one that the conversion makes
  pub params_wanted : (params : List (List ℕ × ValType)) (ws : List InterfaceType)
      → AllZip (λ (p : List ℕ × ValType) (w : InterfaceType). ValIs first done p.1 w) params ws
      → ((i : TypeTupleIndex) × ParamsAre b done params i) → HasNumber b.tuples (record { types = ws })
  params_wanted params ws are q =
      params_there b is done params q.0 q.1 ws
      (params_are_grow first b (grows_trans first second b to rest) done params ws are)

  -- the same of what is returned
  pub results_wanted : (returns : Option ValType) (ws : List InterfaceType) → ReturnsAre first done returns ws
      → ((i : TypeTupleIndex) × ResultsAre b done returns i) → HasNumber b.tuples (record { types = ws })
  results_wanted returns ws are q =
      results_there b is done returns q.0 q.1 ws
      (returns_grow first b (grows_trans first second b to rest) done returns ws are)

-- A function type whose tuples were put in two steps, and which is put in a third.
module _ (first second last : Types) (to_second : Grows first second) (to_last : Grows second last)
    (done : List (Option TypeDef)) (params : List (List ℕ × ValType)) (returns : Option ValType) (is_async : Bool)
    (names : List (List ℕ)) (p r : TypeTupleIndex) (named : names ≡ names_of params)
    (ps : ParamsAre first done params p) (rs : ResultsAre second done returns r) where
  -- the tuple of the parameters is there to the end
  params_stay : ParamsAre last done params p
  params_stay = params_grow first last (grows_trans first second last to_second to_last) done params p ps

  -- it is the type of the entry
  pub func_made : (i : TypeFuncIndex)
      → slice_get last.funcs i.0 ≡ Some (record { param_names = names; params = p; results = r; async_ = is_async })
      → FuncIs last done params returns is_async i
  func_made i at =
      func_is last done params returns is_async names p r i at named params_stay
      (results_grow second last to_last done returns r rs)

  -- a builder that has the type of the entry has it
  pub made_there : IsBuilder last → ((i : TypeFuncIndex) × FuncIs last done params returns is_async i)
      → HasNumber last.funcs (record { param_names = names; params = p; results = r; async_ = is_async })
  made_there is q =
      func_there last is done params returns is_async q.0 q.1 names p r named params_stay
      (results_grow second last to_last done returns r rs)
