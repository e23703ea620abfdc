-- An expression is done exactly before certain lexemes, and bounds alone exactly before `]`.
use Rattle.std.proofs.Common.{◌≡◌, Bool, true, false, List, Some, None, refl, ap, ◌∙◌}
use Rattle.std.specs.Prelude.{cond}
use Rattle.tla_symbols.specs.declared.op.Op.TheVariants as Op
use Rattle.tla_symbols.specs.declared.lexeme.LexKind.{LexKind}
use Rattle.tla_symbols.specs.declared.lexeme.Mark.TheVariants as Mark
use Rattle.tla_symbols.specs.declared.lexeme.Lexeme.{Lexeme}
use Rattle.tla_tree.specs.Syntax.{Tree, Trees}
use Rattle.tla_tree.specs.Alignment.{takes_left}
use Rattle.tla_tree.specs.Derivation.{Derives, DerivesBounds}
use Rattle.expr_grammar.specs.Kinds.{is_right_bracket}
use Rattle.expr_grammar.specs.Machine.{run, start, finish, start_bounds, finish_bounds}
use Rattle.expr_grammar.specs.Following.{IsQuiet, stops, done_before, bounds_done_before}
use Rattle.expr_laws.proofs.Complete.{derives-parses}
use Rattle.expr_laws.proofs.Following.{before-quiet, bounds-quiet}
use Rattle.expr_laws.proofs.Heading.{derives-bounds}
use Rattle.expr_laws.proofs.Soundness.{accepted-derives, accepted-bounds}

stops-apart : (k : LexKind) → stops k ≡ true → takes_left k ≡ false
stops-apart (LexKind.Sym Op.Negative) h = refl
stops-apart (LexKind.Sym op) h = cc
stops-apart (LexKind.Mark Mark.LeftBracket) h = cc
stops-apart (LexKind.Mark Mark.Dot) h = cc
stops-apart _ h = refl

stops-quiet : (t : Lexeme) → stops t.kind ≡ true → IsQuiet t
stops-quiet t h = record { apart = stops-apart t.kind h; no_arm = λ e. (let q : stops t.kind ≡ false = ap stops e in cc) }

pub done-derives : (lexemes : List Lexeme) (tree : Tree) (next : Lexeme) → done_before (run (Some start) lexemes) next.kind ≡ Some tree → (stops next.kind ≡ true) × Derives tree lexemes 0 (Some next)
done-derives lexemes tree next e = by (stops next.kind) refl e
  where
    by : (b : Bool) → stops next.kind ≡ b → cond b (finish (run (Some start) lexemes)) None ≡ Some tree → (stops next.kind ≡ true) × Derives tree lexemes 0 (Some next)
    by true s e = (s, before-quiet (accepted-derives lexemes tree e) (Some next) (stops-quiet next s))
    by false s e = cc

pub derives-done : (lexemes : List Lexeme) (tree : Tree) (next : Lexeme) → stops next.kind ≡ true → Derives tree lexemes 0 (Some next) → done_before (run (Some start) lexemes) next.kind ≡ Some tree
derives-done lexemes tree next s d = ap (λ b. cond b (finish (run (Some start) lexemes)) None) s ∙ derives-parses tree lexemes (before-quiet d None tt)

closes-stops : (k : LexKind) → is_right_bracket k ≡ true → stops k ≡ true
closes-stops (LexKind.Mark Mark.RightBracket) h = refl
closes-stops _ h = cc

closes-quiet : (t : Lexeme) → is_right_bracket t.kind ≡ true → IsQuiet t
closes-quiet t h = stops-quiet t (closes-stops t.kind h)

pub done-bounds : (lexemes : List Lexeme) (bounds : Trees) (next : Lexeme) → bounds_done_before (run (Some start_bounds) lexemes) next.kind ≡ Some bounds → (is_right_bracket next.kind ≡ true) × DerivesBounds bounds lexemes 0 (Some next)
done-bounds lexemes bounds next e = by (is_right_bracket next.kind) refl e
  where
    by : (b : Bool) → is_right_bracket next.kind ≡ b → cond b (finish_bounds (run (Some start_bounds) lexemes)) None ≡ Some bounds → (is_right_bracket next.kind ≡ true) × DerivesBounds bounds lexemes 0 (Some next)
    by true s e = (s, bounds-quiet (accepted-bounds lexemes bounds e) (Some next) (closes-quiet next s))
    by false s e = cc

pub bounds-done : (lexemes : List Lexeme) (bounds : Trees) (next : Lexeme) → is_right_bracket next.kind ≡ true → DerivesBounds bounds lexemes 0 (Some next) → bounds_done_before (run (Some start_bounds) lexemes) next.kind ≡ Some bounds
bounds-done lexemes bounds next s d = ap (λ b. cond b (finish_bounds (run (Some start_bounds) lexemes)) None) s ∙ derives-bounds bounds lexemes (bounds-quiet d None tt)
