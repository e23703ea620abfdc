-- What stands for meanings that units leave, and how nested modules end.
use Rattle.std.proofs.Common.{◌≡◌, ℕ, Bool, true, false, cond, List, [], ◌∷◌, ◌⊎◌, inl, inr, None, map, refl, sym, ap, ◌∙◌, subst}
use Rattle.std.specs.Prelude.{◌||◌}
use Rattle.tla_symbols.specs.declared.lexeme.Lexeme.{Lexeme}
use Rattle.unit_grammar.specs.Units.{UnitTree, Variables, Constants, OperatorDefinition, FunctionDefinition, ModuleDefinition, Instance, Assumption, Theorem, Line, ModuleBegin, ModuleEnd}
use Rattle.tla_model.specs.Entities.{Meaning, Text, meant}
use Rattle.tla_model.specs.Lexemes.{spelled}
use Rattle.tla_model.specs.Scopes.{definition}
use Rattle.module_scope.specs.Environments.{Scope, begun}
use Rattle.module_model.specs.Exports.{Exports}
use Rattle.module_model.specs.Modules.{Reading, left}
use Rattle.module_model.specs.Resolution.{instance_brings}
use Rattle.kind_text.specs.ExpandedKind.{Expanded}
use Rattle.kind_text.specs.FlatModule.{FlatModule}
use Rattle.tree_kinds.specs.Standing.{Environment, Outside, Steps, Value, coming, name_among, same_standing, with_entries, with_value, with_values}
use Rattle.tree_kinds.specs.Expanding.{unguarded}
use Rattle.module_kinds.specs.ModuleKinds.{KindState, after, around, extended, known_at, named, named_in, standing_behind, views}
use Rattle.flat_trees.specs.Stands.{IsStanding, Stand}
use Rattle.flat_trees.specs.Layouts.{Layout}
use Rattle.flat_kinds.specs.Readings.{BringNone, KeepsStanding, KeepsState, Leaves, StaysBehind, extended_entries, is_among}

values-left : (standing : Environment) (meanings : List Meaning) (value : Value) (other : Meaning) → is_among meanings other ≡ false → with_values standing meanings value other ≡ standing other
values-left standing [] value other among = refl
values-left standing (m ∷ rest) value other among =
    by_sameness (same_standing other m) (with_values (with_value standing m value) rest value other) (values-left (with_value standing m value) rest value other) among
  where
    by_sameness : (t : Bool) (found : Value) → (is_among rest other ≡ false → found ≡ cond t value (standing other)) → (t || is_among rest other) ≡ false → found ≡ standing other
    by_sameness true found others among = cc
    by_sameness false found others among = others among

entries-left : (standing : Environment) (entries : Exports) (from : Steps → Expanded) (meaning : Meaning) → name_among entries meaning ≡ None → with_entries standing entries from meaning ≡ standing meaning
entries-left standing entries from meaning none = ap (λ found. coming from (standing meaning) found) none

module _ (text : Text) (files : List ℕ → Outside) (words : List ℕ) where
  pub extended-left : (modules : Scope Outside) (parameters standing : Environment) (ls : List Lexeme) (meaning : Meaning) → BringNone text files words modules ls meaning → extended text files words modules parameters standing ls meaning ≡ standing meaning
  extended-left modules parameters standing [] meaning none = refl
  extended-left modules parameters standing (l ∷ rest) meaning none =
      let from = (named_in text files words modules (spelled text.source l)).standing parameters in
      extended-left modules parameters (with_entries standing (extended_entries text files words modules l) from) rest meaning none.1
      ∙ entries-left standing (extended_entries text files words modules l) from meaning none.0

  -- what a unit leaves stands as before
  pub meaning-left : (state : KindState) (unit : UnitTree) (meaning : Meaning) → Leaves text files words state unit meaning → (parameters : Environment) → standing_behind text files words state unit parameters meaning ≡ state.standing parameters meaning
  meaning-left state (OperatorDefinition local x) meaning leaves parameters = values-left (state.standing parameters) (map (meant text) (definition x)) _ meaning leaves
  meaning-left state (FunctionDefinition local x) meaning leaves parameters = values-left (state.standing parameters) (map (meant text) (definition x)) _ meaning leaves
  meaning-left state (ModuleDefinition local x) meaning leaves parameters = values-left (state.standing parameters) (map (meant text) (definition x)) _ meaning leaves
  meaning-left state (Instance local x) meaning leaves parameters =
      entries-left (state.standing parameters) (instance_brings text (views text files words) words state.read x)
      (unguarded text (known_at text files words state (Instance local x)) (named text files words state) (around text files words state parameters) x) meaning leaves
  meaning-left state (ModuleBegin dashes name extends) meaning leaves parameters = extended-left (begun state.modules (spelled text.source name)) parameters (state.standing parameters) extends meaning leaves
  meaning-left state (Variables names) meaning leaves parameters = refl
  meaning-left state (Constants declarations) meaning leaves parameters = refl
  meaning-left state (Assumption word name x) meaning leaves parameters = refl
  meaning-left state (Theorem word name x) meaning leaves parameters = refl
  meaning-left state (Line dashes) meaning leaves parameters = refl
  meaning-left state (ModuleEnd closing) meaning leaves parameters = refl

  module _ (flat : FlatModule) (symbols : Meaning → Stand) (layout : Layout) (state : KindState) where
    -- names of a module round a nested one stand so behind a unit of that
    pub round-stands : (unit : UnitTree) → KeepsStanding flat symbols layout state.standing → StaysBehind text files words flat state unit symbols layout → KeepsStanding flat symbols layout (after text files words state unit).standing
    round-stands unit keeps each frame parameters room stands meaning = by_case (each frame parameters room stands meaning)
      where
        by_case : Leaves text files words state unit meaning ⊎ IsStanding flat frame [] (layout.stands meaning) (standing_behind text files words state unit parameters meaning) → IsStanding flat frame [] (layout.stands meaning) (standing_behind text files words state unit parameters meaning)
        by_case (inl leaves) = subst (λ value. IsStanding flat frame [] (layout.stands meaning) value) (sym (meaning-left state unit meaning leaves parameters)) (keeps frame parameters room stands meaning)
        by_case (inr holds) = holds

    -- behind a nested module
    pub nested-ends : (closing : Lexeme) (outer : Reading) (round : List Reading) → state.read.place.round ≡ outer ∷ round → outer.context ≡ layout.context → layout.olds ≡ [] → KeepsStanding flat symbols layout state.standing → KeepsState flat symbols layout (after text files words state (ModuleEnd closing))
    nested-ends closing outer round is context olds keeps =
        record {
          context = ap (λ (rs : List Reading). (left state.read.known state.read.place.here rs).here.context) is ∙ context;
          olds = olds;
          standing = keeps;
        }
