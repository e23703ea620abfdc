-- The machine refuses exactly at the first bad lexeme.
use Rattle.std.proofs.Common.{◌≡◌, ℕ, ◌+◌, List, ◌++◌, take, drop, Option, Some, None, refl, sym, subst}
use Rattle.std.proofs.lemmas.List.{take-append-drop}
use Rattle.tla_symbols.specs.declared.lexeme.Lexeme.{Lexeme}
use Rattle.unit_grammar.specs.Units.{ModuleUnits}
use Rattle.unit_grammar.specs.FirstBad.{IsDerivable, Begins, IsFirstBad}
use Rattle.unit_machine.specs.Machine.{State, run, opening, parse, RefusesAt}
use Rattle.unit_laws.proofs.UnitCompleteness.{derives-parses, refused-ends}
use Rattle.unit_laws.proofs.Completing.{unrefused-begins}

pub unrefused-completes : (lexemes : List Lexeme) (reached : State) → run (Some opening) lexemes ≡ Some reached → (rest : List Lexeme) × (found : ModuleUnits) × (parse (lexemes ++ rest) ≡ Some found)
unrefused-completes lexemes reached e =
    let b : Begins lexemes = unrefused-begins lexemes reached e in
    (b.0, b.1.0, derives-parses b.1.0 (lexemes ++ b.0) b.1.1)

refused-whole : (lexemes : List Lexeme) (index : ℕ) → run (Some opening) (take (index + 1) lexemes) ≡ None → IsDerivable lexemes → ⊥
refused-whole lexemes index e d = refused-ends (take (index + 1) lexemes) e (drop (index + 1) lexemes, subst IsDerivable (sym (take-append-drop (index + 1) lexemes)) d)

pub refused-first : (lexemes : List Lexeme) (index : ℕ) → RefusesAt lexemes index → IsFirstBad lexemes index
refused-first lexemes index r = record {
  refused = refused-whole lexemes index r.refuses;
  begins = unrefused-begins (take index lexemes) r.reached r.reads;
  ends = refused-ends (take (index + 1) lexemes) r.refuses;
}

pub first-refused : (lexemes : List Lexeme) (index : ℕ) → IsFirstBad lexemes index → RefusesAt lexemes index
first-refused lexemes index f = by (run (Some opening) (take index lexemes)) (run (Some opening) (take (index + 1) lexemes)) refl refl
  where
    by : (o p : Option State) → run (Some opening) (take index lexemes) ≡ o → run (Some opening) (take (index + 1) lexemes) ≡ p → RefusesAt lexemes index
    by (Some st) None e r = record { reached = st; reads = e; refuses = r }
    by (Some st) (Some su) e r = absurd (f.ends (unrefused-begins (take (index + 1) lexemes) su r))
    by None p e r = absurd (refused-ends (take index lexemes) e f.begins)
