-- The nodes of a module stand over the lexemes that it derives.
use Rattle.std.proofs.Common.{List, [], ◌∷◌, ◌++◌, Option, sym}
use Rattle.std.proofs.lemmas.List.{append-nil}
use Rattle.std.specs.List.{AllByRecursion}
use Rattle.tla_symbols.specs.declared.lexeme.Lexeme.{Lexeme}
use Rattle.tla_tree.specs.declared.form.Form.TheVariants as Form
use Rattle.tla_tree.specs.Syntax.{Tree, Node}
use Rattle.unit_grammar.specs.Units.{UnitTree, ModuleEnd, ModuleUnits, defined}
use Rattle.unit_grammar.specs.Derivation as d
use Rattle.span_laws.specs.NodeSpans.{SpansLexemes, TreeSpans, UnitSpans, NodeSpans}
use Rattle.span_laws.proofs.Covers.{AreAmong, among-left, among-right, among-rest}
use Rattle.span_laws.proofs.CoversTrees.{expression-in, definition-in, instance-in, parameters-in}

-- the nodes of units have spans of lexemes of a list
abbrev Stand : List Lexeme → List UnitTree → Type 0
Stand ls units = AllByRecursion (UnitSpans (SpansLexemes ls)) units

defined-stands : (ls : List Lexeme) (local : Option Lexeme) (x : Tree) → TreeSpans (SpansLexemes ls) x → UnitSpans (SpansLexemes ls) (defined local x)
defined-stands ls local (Node (Form.FunctionDefinition n) s parts) h = h
defined-stands ls local (Node (Form.ModuleDefinition n) s parts) h = h
defined-stands ls local (Node _ s parts) h = h

both-stand : (ls : List Lexeme) (us vs : List UnitTree) → Stand ls us → Stand ls vs → Stand ls (us ++ vs)
both-stand ls [] vs all more = more
both-stand ls (u ∷ us) vs all more = (all.0, both-stand ls us vs all.1 more)

module _ {ls : List Lexeme} where
  mutual
    unit-stands : {units : List UnitTree} {a : List Lexeme} {t : Lexeme} → d.DerivesUnit units a t → AreAmong ls a → Stand ls units
    unit-stands (d.variables k ns) h = (tt, tt)
    unit-stands (d.constants k xs) h = ((parameters-in xs).holds (among-rest _ _ h), tt)
    unit-stands (d.definition {before = local} {x = x} {a = a} {b = b} l y) h = (defined-stands ls local x ((definition-in y).holds (among-right a b h)), tt)
    unit-stands (d.instance {a = a} {b = b} l x) h = ((instance-in x).holds (among-right a b h), tt)
    unit-stands (d.assumption k x) h = ((expression-in x).holds (among-rest _ _ h), tt)
    unit-stands (d.theorem k x) h = ((expression-in x).holds (among-rest _ _ h), tt)
    unit-stands (d.line k m) h = (tt, tt)
    unit-stands (d.nested {a = a} {b = b} {units = units} e k us m) h = (tt, both-stand ls units (ModuleEnd e ∷ []) (units-stand us (among-left b (e ∷ []) (among-right a (b ++ e ∷ []) h))) (tt, tt))

    units-stand : {units : List UnitTree} {a : List Lexeme} {t : Lexeme} → d.DerivesUnits units a t → AreAmong ls a → Stand ls units
    units-stand d.no_units h = tt
    units-stand (d.more_units {unit = unit} {units = units} {a = a} {b = b} u us) h = both-stand ls unit units (unit-stands u (among-left a b h)) (units-stand us (among-right a b h))

  module-stands : {found : ModuleUnits} {a : List Lexeme} → d.DerivesModule found a → AreAmong ls a → NodeSpans (SpansLexemes ls) found
  module-stands (d.outermost {a = a} {b = b} c k us m) h = units-stand us (among-left b (c ∷ []) (among-right a (b ++ c ∷ []) h))

pub nodes-span-lexemes : (found : ModuleUnits) (lexemes : List Lexeme) → d.DerivesModule found lexemes → NodeSpans (SpansLexemes lexemes) found
nodes-span-lexemes found lexemes derives = module-stands derives ([], [], sym (append-nil lexemes))
