-- What stands at the lexemes of a module lies in its text.
use Rattle.std.proofs.Common.{ℕ, zero, suc, List, [], ◌∷◌, arith, subst}
use Rattle.std.specs.Prelude.{Contains}
use Rattle.std.specs.List.{All, AllByRecursion}
use Rattle.tla_symbols.specs.declared.lexeme.Lexeme.{Lexeme}
use Rattle.tla_model.specs.Lexemes.{LexemesLie, LiesIn, module_lexemes}
use Rattle.module_graph.specs.Imports.{imports_of}
use Rattle.unit_grammar.specs.Units.{ModuleUnits}
use Rattle.family_facts.proofs.Lists.{behind, here}

all-there : {A : Type 0} (P : A → Type 0) (xs : List A) (x : A) → AllByRecursion P xs → Contains xs x → P x
all-there P [] x all h = absurd (omega (arith, h.1))
all-there P (y ∷ ys) x all (zero, l, e) = subst P e all.0
all-there P (y ∷ ys) x all (suc i, l, e) = all-there P ys x all.1 (i, omega (arith, l), e)

each-there : {A : Type 0} (P : A → Type 0) (xs : List A) → ((x : A) → Contains xs x → P x) → AllByRecursion P xs
each-there P [] f = tt
each-there P (x ∷ xs) f = (f x (here x xs), each-there P xs (λ z h. f z (behind x xs z h)))

-- what a module needs lies in its text
pub imports-lie : (source : List ℕ) (units : ModuleUnits) → All (Contains (module_lexemes units)) (imports_of source units) → LexemesLie source units → AllByRecursion (LiesIn source) (imports_of source units)
imports-lie source units among lie = each-there (LiesIn source) (imports_of source units) (λ l h.
    all-there (LiesIn source) (module_lexemes units) l lie (subst (λ (x : Lexeme). Contains (module_lexemes units) x) h.2 (among h.0 l h.1)))
