-- Ends of nested modules belong to modules that begin: units that the grammar derives give back what their ends put.
use Rattle.std.proofs.Common.{◌≡◌, ℕ, List, [], ◌∷◌, ◌++◌, Option, refl, sym, ap, ◌∙◌, append_assoc, drop}
use Rattle.std.proofs.lemmas.List.{append-nil}
use Rattle.tla_symbols.specs.declared.lexeme.Lexeme.{Lexeme}
use Rattle.tla_tree.specs.declared.form.Form.TheVariants as Form
use Rattle.tla_tree.specs.Syntax.{Tree, Node}
use Rattle.unit_grammar.specs.Derivation as u
use Rattle.unit_grammar.specs.Units.{ModuleBegin, ModuleEnd, ModuleUnits, UnitTree, defined}
use Rattle.front_laws.specs.Fronts as fronts
use Rattle.tla_model.specs.Entities.{Meaning, Text}
use Rattle.module_model.specs.Exports.{ModuleView}
use Rattle.module_model.specs.Resolution.{ReadState, after, read_all}
use Rattle.own_symbols.specs.Ahead.{own_ahead}

-- a module that is the front of some bytes is derived
pub front-derives : (name bytes : List ℕ) (units : ModuleUnits) → fronts.IsFront name bytes (fronts.Tree units) → (a : List Lexeme) × u.DerivesModule units a
front-derives name bytes units (fronts.read {lexemes = lexemes} r l m (fronts.whole d h s)) = (lexemes, d)

module _ (text : Text) (files : List ℕ → ModuleView) (words : List ℕ) where
  append-read : (state : ReadState) (a b : List UnitTree) → read_all text files words state (a ++ b) ≡ read_all text files words (read_all text files words state a) b
  append-read state [] b = refl
  append-read state (unit ∷ a) b = append-read (after text files words state unit) a b

  -- own symbols of the modules that end in units from a place on
  abbrev round : ReadState → List UnitTree → List (List Meaning)
  round state units = (own_ahead text files words state units).round

  -- before units, what ends behind them is what ends from there on
  abbrev GivesBack : List UnitTree → Type 0
  GivesBack units = (state : ReadState) (more : List UnitTree) → round state (units ++ more) ≡ round (read_all text files words state units) more

  defined-back : (local : Option Lexeme) (x : Tree) → GivesBack (defined local x ∷ [])
  defined-back local (Node (Form.FunctionDefinition n) s parts) state more = refl
  defined-back local (Node (Form.ModuleDefinition n) s parts) state more = refl
  defined-back local (Node _ s parts) state more = refl

  nested-back : (dashes name : Lexeme) (extends : List Lexeme) (units : List UnitTree) (e : Lexeme) → GivesBack units → GivesBack (ModuleBegin dashes name extends ∷ (units ++ ModuleEnd e ∷ []))
  nested-back dashes name extends units e inside state more =
      let begun : ReadState = after text files words state (ModuleBegin dashes name extends) in
      ap (λ us. drop 1 (round begun us)) (append_assoc units (ModuleEnd e ∷ []) more) ∙ ap (drop 1) (inside begun (ModuleEnd e ∷ more))
      ∙ ap (λ s. round s more) (sym (append-read begun units (ModuleEnd e ∷ [])))

  mutual
    unit-back : {units : List UnitTree} {a : List Lexeme} {t : Lexeme} → u.DerivesUnit units a t → GivesBack units
    unit-back (u.variables k ns) = λ state more. refl
    unit-back (u.constants k ds) = λ state more. refl
    unit-back (u.definition {before = local} {x = x} l y) = defined-back local x
    unit-back (u.instance l x) = λ state more. refl
    unit-back (u.assumption k x) = λ state more. refl
    unit-back (u.theorem k x) = λ state more. refl
    unit-back (u.line k m) = λ state more. refl
    unit-back (u.nested {d = d} {n = n} {names = names} {units = units} e k us m) = nested-back d n names units e (units-back us)

    units-back : {units : List UnitTree} {a : List Lexeme} {t : Lexeme} → u.DerivesUnits units a t → GivesBack units
    units-back u.no_units = λ state more. refl
    units-back (u.more_units {unit = unit} {units = units} y ys) = λ state more.
        ap (round state) (append_assoc unit units more) ∙ unit-back y state (units ++ more) ∙ units-back ys (read_all text files words state unit) more
        ∙ ap (λ s. round s more) (sym (append-read state unit units))

  -- of a module nothing is left
  pub ends-begun : {found : ModuleUnits} {a : List Lexeme} → u.DerivesModule found a → (state : ReadState) → round state found.units ≡ []
  ends-begun (u.outermost {units = units} c k us m) state = ap (round state) (sym (append-nil units)) ∙ units-back us state []
