-- Nodes and frames that wait, as lexemes are read.
use Rattle.std.proofs.Common.{◌≡◌, ℕ, ◌+◌, ◌*◌, ◌≤◌, List, [], ◌∷◌, ◌++◌, length, subst, arith, length-append}
use Rattle.tla_symbols.specs.declared.lexeme.Lexeme.{Lexeme}
use Rattle.tla_tree.specs.Arena.{Node}
use Rattle.expr_parse.specs.declared.machine.ExprMachine.{ExprMachine}
use Rattle.expr_parse.specs.declared.goal.Step.{Step}
use Rattle.expr_parse.specs.MachineMeaning.{IsAnswer}
use Rattle.unit_parse.specs.declared.reader.Fed.{Fed}
use Rattle.unit_parse.specs.NodeCounts.{IsFewRead, FeedsFew, IsFewFed}

-- what a step of the machine adds
pub feeds-going : (nodes : List Node) (machine : ExprMachine) (before : ℕ) (read : List Lexeme) (next : Lexeme) (step : Step) → step ≡ Step.Going → length nodes ≤ before + 8 * (length read + 1) → IsAnswer nodes machine before read next step → FeedsFew nodes machine before read next Fed.Going
feeds-going nodes machine before read next step q f answer =
    let a : IsAnswer nodes machine before read next Step.Going = subst (IsAnswer nodes machine before read next) q answer in
    record { few = f; going = λ e. a.0 }

pub feeds-other : (nodes : List Node) (machine : ExprMachine) (before : ℕ) (read : List Lexeme) (next : Lexeme) (fed : Fed) → (fed ≡ Fed.Going → ⊥) → length nodes ≤ before + 8 * (length read + 1) → FeedsFew nodes machine before read next fed
feeds-other nodes machine before read next fed k f = record { few = f; going = λ e. absurd (k e) }

-- it was fed to what was read
pub few-fed : (nodes more : List Node) (machine after : ExprMachine) (waiting count : ℕ) (next : Lexeme) (fed : Fed) → (f : IsFewRead nodes machine waiting count) → FeedsFew more after f.before f.read next fed → IsFewFed more after waiting count next fed
few-fed nodes more machine after waiting count next fed f g = record { before = f.before; read = f.read; feeds = g; room = f.room }

-- and is read with it
pub more-read : (nodes : List Node) (machine : ExprMachine) (waiting count : ℕ) (next : Lexeme) (fed : Fed) → fed ≡ Fed.Going → IsFewFed nodes machine waiting count next fed → IsFewRead nodes machine waiting (count + 1)
more-read nodes machine waiting count next fed q f = record {
  before = f.before;
  read = f.read ++ next ∷ [];
  has = f.feeds.going q;
  room = let r = f.room in let l = length-append f.read (next ∷ []) in omega (arith, r, l);
}
