-- Names that stand among those of a module lie in its text.
use Rattle.std.proofs.Common.{◌≡◌, ℕ, List}
use Rattle.std.specs.List.{All, AllByRecursion, Contains}
use Rattle.std.proofs.lemmas.List.Elements.{All-contains, All-from_recursion, All-weaker, recursion_from_All}
use Rattle.tla_symbols.specs.declared.lexeme.Lexeme.{Lexeme}
use Rattle.tla_model.specs.Lexemes.{LexemesLie, LiesIn, module_lexemes}
use Rattle.unit_grammar.specs.Units.{ModuleUnits}

pub names-lie : (source source' : List ℕ) (units : ModuleUnits) (names items : List Lexeme) → LexemesLie source units → All (Contains (module_lexemes units)) names → source' ≡ source → items ≡ names → AllByRecursion (LiesIn source') items
names-lie source source' units names items lie among same are =
    rw (same, are) (recursion_from_All (LiesIn source) names (All-weaker (Contains (module_lexemes units)) (LiesIn source) (λ l there. All-contains (LiesIn source) (module_lexemes units) l (All-from_recursion (LiesIn source) (module_lexemes units) lie) there) names among))
