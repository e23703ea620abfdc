-- Each derivable list is accepted with its tree, and no other tree derives it.
use Rattle.std.proofs.Common.{◌≡◌, true, List, [], ◌∷◌, ◌++◌, Option, Some, None, refl, ap, sym, ◌∙◌}
use Rattle.tla_symbols.specs.declared.lexeme.Lexeme.{Lexeme}
use Rattle.tla_tree.specs.Syntax.{Tree}
use Rattle.tla_tree.specs.Edges.{left_edge}
use Rattle.tla_tree.specs.FirstBad.{DerivesWhole, Begins}
use Rattle.expr_grammar.specs.declared.wait.Wait.TheVariants as Wait
use Rattle.expr_grammar.specs.Machine.{State, step, run, start, finish, parse}
use Rattle.expr_laws.proofs.Asking.{operand}
use Rattle.expr_laws.proofs.Completeness.{part-parses}
use Rattle.expr_laws.proofs.TablesDerive.{gen}
use Rattle.expr_laws.proofs.Starting.{derives-shape, all-waits}

pub derives-parses : (tree : Tree) (lexemes : List Lexeme) → DerivesWhole tree lexemes → parse lexemes ≡ Some tree
derives-parses tree lexemes d = part-parses (gen d Wait.Whole true (operand refl) (all-waits Wait.Whole (λ q. refl) (left_edge tree)) tt) (derives-shape d)

pub one-tree : (tree other : Tree) (lexemes : List Lexeme) → DerivesWhole tree lexemes → DerivesWhole other lexemes → tree ≡ other
one-tree tree other lexemes d e =
    let a : parse lexemes ≡ Some tree = derives-parses tree lexemes d in
    let b : parse lexemes ≡ Some other = derives-parses other lexemes e in
    cc

pub run-none : (lexemes : List Lexeme) → run None lexemes ≡ None
run-none [] = refl
run-none (t ∷ lexemes) = refl

pub run-append : (lexemes rest : List Lexeme) (o : Option State) → run o (lexemes ++ rest) ≡ run (run o lexemes) rest
run-append [] rest o = refl
run-append (t ∷ lexemes) rest None = sym (run-none rest)
run-append (t ∷ lexemes) rest (Some st) = run-append lexemes rest (step st t)

-- no derivable list begins so
pub refused-ends : (lexemes : List Lexeme) → run (Some start) lexemes ≡ None → Begins lexemes → ⊥
refused-ends lexemes e b =
    let p : parse (lexemes ++ b.0) ≡ Some b.1.0 = derives-parses b.1.0 (lexemes ++ b.0) b.1.1 in
    let q : run (Some start) (lexemes ++ b.0) ≡ None = run-append lexemes b.0 (Some start) ∙ (ap (λ o. run o b.0) e ∙ run-none b.0) in
    let r : parse (lexemes ++ b.0) ≡ None = ap finish q in
    cc
