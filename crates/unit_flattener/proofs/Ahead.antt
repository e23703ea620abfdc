-- Going back from the last unit finds the own symbols that are ahead; and they are those of the first units, before those of the rest.
use Rattle.std.proofs.Common.{◌≡◌, ℕ, suc, false, List, [], ◌∷◌, ◌++◌, append_assoc, map, reverse, refl, ap, sym, ◌∙◌, arith}
use Rattle.std.specs.List.{All}
use Rattle.std.proofs.lemmas.List.{append-nil, reverse-append}
use Rattle.tla_tree.specs.Arena.{Node}
use Rattle.tla_tree.specs.declared.unit.Unit.TheVariants as unit
use Rattle.unit_grammar.specs.UnitNodes.{unit_at}
use Rattle.unit_grammar.specs.Units.{UnitTree, Variables, Constants, OperatorDefinition, FunctionDefinition, ModuleDefinition, Instance, Assumption, Theorem, Line, ModuleBegin, ModuleEnd}
use Rattle.tla_model.specs.Entities.{Meaning, Text}
use Rattle.module_model.specs.Exports.{ModuleView}
use Rattle.module_model.specs.Resolution.{ReadState, after}
use Rattle.own_symbols.specs.Ahead.{own_ahead, own_at}
use Rattle.unit_flattener.specs.Ahead.{Taken, begins, ends_ahead, taken_at, taken_by}

module _ (text : Text) (files : List ℕ → ModuleView) (words : List ℕ) where
  -- what is taken before units, by all that is at their ends and by more
  abbrev pub taken : (state : ReadState) (units : List UnitTree) (more : List (List Meaning)) → Taken
  taken state units more = record { left = more; owned = own_ahead text files words state units }

  taken-more : (state : ReadState) (units : List UnitTree) (more : List (List Meaning))
      → taken_by units (reverse (ends_ahead text files words state units) ++ more) ≡ taken state units more
  taken-more state [] more = refl
  taken-more state (ModuleBegin dashes name extends ∷ units) more =
      ap (taken_at (ModuleBegin dashes name extends)) (taken-more (after text files words state (ModuleBegin dashes name extends)) units more)
  taken-more state (ModuleEnd closing ∷ units) more =
      let next : ReadState = after text files words state (ModuleEnd closing) in
      let own : List Meaning = own_at state state.place.round in
      let ends : List (List Meaning) = ends_ahead text files words next units in
      let turned : reverse (own ∷ ends) ++ more ≡ reverse ends ++ own ∷ more =
      ap (λ z. z ++ more) (reverse-append (own ∷ []) ends) ∙ append_assoc (reverse ends) (own ∷ []) more in
      ap (λ z. taken_at (ModuleEnd closing) (taken_by units z)) turned
      ∙ ap (taken_at (ModuleEnd closing)) (taken-more next units (own ∷ more))
  taken-more state (Variables names ∷ units) more = taken-more (after text files words state (Variables names)) units more
  taken-more state (Constants declarations ∷ units) more = taken-more (after text files words state (Constants declarations)) units more
  taken-more state (OperatorDefinition local x ∷ units) more = taken-more (after text files words state (OperatorDefinition local x)) units more
  taken-more state (FunctionDefinition local x ∷ units) more = taken-more (after text files words state (FunctionDefinition local x)) units more
  taken-more state (ModuleDefinition local x ∷ units) more = taken-more (after text files words state (ModuleDefinition local x)) units more
  taken-more state (Instance local x ∷ units) more = taken-more (after text files words state (Instance local x)) units more
  taken-more state (Assumption word name x ∷ units) more = taken-more (after text files words state (Assumption word name x)) units more
  taken-more state (Theorem word name x ∷ units) more = taken-more (after text files words state (Theorem word name x)) units more
  taken-more state (Line dashes ∷ units) more = taken-more (after text files words state (Line dashes)) units more

  -- all are taken by what is at the ends
  pub taken-ahead : (state : ReadState) (units : List UnitTree)
      → taken_by units (reverse (ends_ahead text files words state units)) ≡ taken state units []
  taken-ahead state units = ap (taken_by units) (sym (append-nil (reverse (ends_ahead text files words state units)))) ∙ taken-more state units []

  -- where no nested module begins, none has symbols ahead
  pub none-begun : (nodes : List Node) (state : ReadState) (units : List unit.the_data) → All (λ x. begins x ≡ false) units → (own_ahead text files words state (map (unit_at nodes) units)).begun ≡ []
  none-begun nodes state [] none = refl
  none-begun nodes state (x ∷ units) none = by x (none 0 x (omega arith)) (λ next. none-begun nodes next units (λ k d l. none (suc k) d (omega (arith, l))))
    where
      by : (x : unit.the_data) → begins x ≡ false → ((next : ReadState) → (own_ahead text files words next (map (unit_at nodes) units)).begun ≡ []) → (own_ahead text files words state (unit_at nodes x ∷ map (unit_at nodes) units)).begun ≡ []
      by (unit.Variables names) e rest = rest (after text files words state (Variables names))
      by (unit.Constants declarations) e rest = rest (after text files words state (unit_at nodes (unit.Constants declarations)))
      by (unit.OperatorDefinition local node) e rest = rest (after text files words state (unit_at nodes (unit.OperatorDefinition local node)))
      by (unit.FunctionDefinition local node) e rest = rest (after text files words state (unit_at nodes (unit.FunctionDefinition local node)))
      by (unit.ModuleDefinition local node) e rest = rest (after text files words state (unit_at nodes (unit.ModuleDefinition local node)))
      by (unit.Instance local node) e rest = rest (after text files words state (unit_at nodes (unit.Instance local node)))
      by (unit.Assumption word name node) e rest = rest (after text files words state (unit_at nodes (unit.Assumption word name node)))
      by (unit.Theorem word name node) e rest = rest (after text files words state (unit_at nodes (unit.Theorem word name node)))
      by (unit.Line dashes) e rest = rest (after text files words state (Line dashes))
      by (unit.ModuleBegin dashes name extends) e rest = cc
      by (unit.ModuleEnd closing) e rest = rest (after text files words state (ModuleEnd closing))
