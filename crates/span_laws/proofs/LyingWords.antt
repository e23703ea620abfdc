-- The words and dashes of the units of a module that is read lie in its text.
use Rattle.std.proofs.Common.{ℕ, List, [], ◌∷◌, ◌++◌, Option}
use Rattle.std.specs.List.{AllByRecursion}
use Rattle.std.specs.Option.{option_to_list}
use Rattle.tla_symbols.specs.declared.lexeme.Lexeme.{Lexeme}
use Rattle.tla_lexeme.specs.Longest.{ReadsLongest}
use Rattle.tla_tree.specs.declared.form.Form.TheVariants as Form
use Rattle.tla_tree.specs.Syntax.{Tree, Node}
use Rattle.unit_grammar.specs.Units.{UnitTree, ModuleEnd, ModuleUnits, defined}
use Rattle.unit_grammar.specs.Derivation as d
use Rattle.front_laws.specs.Fronts.{Tree as Whole, IsFront, read, whole}
use Rattle.span_laws.specs.UnitWords.{unit_words, WordsLie}
use Rattle.span_laws.proofs.Placing.{Lie, EndsClosed, closed-append, text-lies}

module _ (text : List ℕ) where
  lie-left : (a b : List Lexeme) → Lie text (a ++ b) → Lie text a
  lie-left [] b all = tt
  lie-left (t ∷ a) b all = (all.0, lie-left a b all.1)

  lie-right : (a b : List Lexeme) → Lie text (a ++ b) → Lie text b
  lie-right [] b all = all
  lie-right (t ∷ a) b all = lie-right a b all.1

  -- the words of all of these units lie in the text
  abbrev AllLie : List UnitTree → Type 0
  AllLie units = AllByRecursion (λ unit. Lie text (unit_words unit)) units

  both-lie : (us vs : List UnitTree) → AllLie us → AllLie vs → AllLie (us ++ vs)
  both-lie [] vs all more = more
  both-lie (u ∷ us) vs all more = (all.0, both-lie us vs all.1 more)

  local-lies : {local : Option Lexeme} {a : List Lexeme} → d.SpellsLocal local a → Lie text a → Lie text (option_to_list local)
  local-lies d.exported all = tt
  local-lies (d.kept is) all = all

  defined-lies : (local : Option Lexeme) (x : Tree) → Lie text (option_to_list local) → Lie text (unit_words (defined local x))
  defined-lies local (Node (Form.FunctionDefinition n) s parts) h = h
  defined-lies local (Node (Form.ModuleDefinition n) s parts) h = h
  defined-lies local (Node _ s parts) h = h

  dashes-lie : {dashes n : Lexeme} {names a : List Lexeme} → d.BeginsModule dashes n names a → Lie text a → Lie text (dashes ∷ [])
  dashes-lie (d.alone t w k e) all = (all.0, tt)
  dashes-lie (d.extending t w k e x ns) all = (all.0, tt)

  mutual
    unit-lies : {units : List UnitTree} {a : List Lexeme} {t : Lexeme} → d.DerivesUnit units a t → Lie text a → AllLie units
    unit-lies (d.variables k ns) all = (tt, tt)
    unit-lies (d.constants k xs) all = (tt, tt)
    unit-lies (d.definition {before = local} {x = x} {a = a} {b = b} l y) all = (defined-lies local x (local-lies l (lie-left a b all)), tt)
    unit-lies (d.instance {a = a} {b = b} l x) all = (local-lies l (lie-left a b all), tt)
    unit-lies (d.assumption k x) all = ((all.0, tt), tt)
    unit-lies (d.theorem k x) all = ((all.0, tt), tt)
    unit-lies (d.line k m) all = (all, tt)
    unit-lies (d.nested {a = a} {b = b} {units = units} e k us m) all =
        let rest : Lie text (b ++ e ∷ []) = lie-right a (b ++ e ∷ []) all in
        (dashes-lie k (lie-left a (b ++ e ∷ []) all), both-lie units (ModuleEnd e ∷ []) (units-lie us (lie-left b (e ∷ []) rest)) (lie-right b (e ∷ []) rest, tt))

    units-lie : {units : List UnitTree} {a : List Lexeme} {t : Lexeme} → d.DerivesUnits units a t → Lie text a → AllLie units
    units-lie d.no_units all = tt
    units-lie (d.more_units {unit = unit} {units = units} {a = a} {b = b} u us) all = both-lie unit units (unit-lies u (lie-left a b all)) (units-lie us (lie-right a b all))

  module-lies : {found : ModuleUnits} {a : List Lexeme} → d.DerivesModule found a → Lie text a → WordsLie text found
  module-lies (d.outermost {a = a} {b = b} c k us m) all = units-lie us (lie-left b (c ∷ []) (lie-right a (b ++ c ∷ []) all))

module-closed : {found : ModuleUnits} {lexemes : List Lexeme} → d.DerivesModule found lexemes → EndsClosed lexemes
module-closed (d.outermost {a = a} {b = b} c begins units closes) = closed-append a (b ++ c ∷ []) (closed-append b (c ∷ []) closes)

pub front-words-lie : ((text : List ℕ) (at : ℕ) → ReadsLongest text at) → (name bytes : List ℕ) (found : ModuleUnits) → IsFront name bytes (Whole found) → WordsLie bytes found
front-words-lie law name bytes found (read {lexemes = lexemes} readable few part (whole derives low spelled)) =
    module-lies bytes derives (text-lies law bytes lexemes readable part (module-closed derives))
