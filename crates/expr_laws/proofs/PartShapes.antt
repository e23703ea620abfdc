-- The shapes of parts that are no expressions.
use Rattle.std.proofs.Common.{◌≡◌, ℕ, List, Option, refl}
use Rattle.tla_symbols.specs.declared.lexeme.Lexeme.{Lexeme}
use Rattle.tla_tree.specs.Syntax.{Tree}
use Rattle.tla_tree.specs.Headings.{DerivesParameter, plain, of_places, prefix_symbol, infix_symbol, postfix_symbol}
use Rattle.tla_tree.specs.Derivation.{DerivesBound, bound as of_names, tuple_bound, DerivesUpdate, update as of_steps, DerivesArm, arm as of_guard, DerivesInstance, without, with_replacements, DerivesReplacement, replaced, replaced_by_symbol}
use Rattle.expr_grammar.specs.declared.wait.Shape.{Shape}
use Rattle.expr_grammar.specs.Tables.{shape}

pub instance-shape : {x : Tree} {b : List Lexeme} {i : ℕ} {o : Option Lexeme} → DerivesInstance x b i o → shape x ≡ Shape.Instance
instance-shape (without k m) = refl
instance-shape (with_replacements k m t r) = refl

pub bound-shape : {x : Tree} {b : List Lexeme} {i : ℕ} {o : Option Lexeme} → DerivesBound x b i o → shape x ≡ Shape.Bound
bound-shape (of_names m k j n d) = refl
bound-shape (tuple_bound m k j n d) = refl

pub parameter-shape : {x : Tree} {b : List Lexeme} → DerivesParameter x b → shape x ≡ Shape.Helper
parameter-shape (plain k) = refl
parameter-shape (of_places u k l m p) = refl
parameter-shape (prefix_symbol k l) = refl
parameter-shape (infix_symbol k l d m) = refl
parameter-shape (postfix_symbol k l d) = refl

pub replacement-shape : {x : Tree} {b : List Lexeme} {i : ℕ} {o : Option Lexeme} → DerivesReplacement x b i o → shape x ≡ Shape.Helper
replacement-shape (replaced n k d) = refl
replacement-shape (replaced_by_symbol n k l g) = refl

pub update-shape : {x : Tree} {b : List Lexeme} {i : ℕ} {o : Option Lexeme} → DerivesUpdate x b i o → shape x ≡ Shape.Helper
update-shape (of_steps t e k l s d) = refl

pub arm-shape : {x : Tree} {b : List Lexeme} {i : ℕ} {o : Option Lexeme} → DerivesArm x b i o → shape x ≡ Shape.Arm
arm-shape (of_guard t k d e) = refl
