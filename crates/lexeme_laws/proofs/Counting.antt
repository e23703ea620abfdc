-- Of lexemes that a tree holds no more pass a test than of those that it is read of.
use Rattle.std.proofs.Common.{◌≡◌, ◌≤◌, ◌+◌, List, [], ◌∷◌, ◌++◌, Bool, arith}
use Rattle.tla_symbols.specs.declared.lexeme.Lexeme.{Lexeme}
use Rattle.tla_tree.specs.Syntax.{Tree, Trees, Nil, Cons}
use Rattle.tla_tree.specs.Lexemes.{then}
use Rattle.tla_model.specs.Lexemes.{all_lexemes, lexemes}
use Rattle.lexeme_laws.specs.Apart.{counted}

pub count-append : (p : Lexeme → Bool) (a b : List Lexeme) → counted p (a ++ b) ≡ counted p a + counted p b
count-append p [] b = omega arith
count-append p (l ∷ a) b = omega (arith, count-append p a b)

then-lexemes : (p : Lexeme → Bool) (xs : Trees) (x : Tree) → counted p (all_lexemes (then xs x)) ≡ counted p (all_lexemes xs) + counted p (lexemes x)
then-lexemes p Nil x = omega (arith, count-append p (lexemes x) [])
then-lexemes p (Cons y xs) x = omega (arith, count-append p (lexemes y) (all_lexemes (then xs x)), count-append p (lexemes y) (all_lexemes xs), then-lexemes p xs x)

-- these are held of those
pub record Held (p : Lexeme → Bool) (h a : List Lexeme) : Type 0 where
  pub few : counted p h ≤ counted p a

module _ {p : Lexeme → Bool} where
  pub none : {a : List Lexeme} → Held p [] a
  none {a} = record { few = omega arith }

  pub itself : {a : List Lexeme} → Held p a a
  itself {a} = record { few = omega arith }

  pub other : {h a : List Lexeme} (t : Lexeme) → Held p h a → Held p h (t ∷ a)
  other {h} {a} t w = record { few = omega (arith, w.few) }

  pub next : {h a : List Lexeme} {t : Lexeme} → Held p h a → Held p (t ∷ h) (t ∷ a)
  next {h} {a} {t} w = record { few = omega (arith, w.few) }

  pub both : {h k a b : List Lexeme} → Held p h a → Held p k b → Held p (h ++ k) (a ++ b)
  both {h} {k} {a} {b} w v = record { few = omega (arith, count-append p h k, count-append p a b, w.few, v.few) }

  pub before : {h a : List Lexeme} (b : List Lexeme) → Held p h a → Held p h (a ++ b)
  before {h} {a} b w = record { few = omega (arith, count-append p a b, w.few) }

  pub behind : {h b : List Lexeme} (a : List Lexeme) → Held p h b → Held p h (a ++ b)
  behind {h} {b} a w = record { few = omega (arith, count-append p a b, w.few) }

  pub last : {h a : List Lexeme} → Held p h a → Held p (h ++ []) a
  last {h} {a} w = record { few = omega (arith, count-append p h [], w.few) }

  -- a symbol between its operands, and one behind its operand
  pub between : {h k a b : List Lexeme} (t : Lexeme) → Held p h a → Held p k b → Held p (t ∷ (h ++ k)) (a ++ t ∷ b)
  between {h} {k} {a} {b} t w v = record { few = omega (arith, count-append p h k, count-append p a (t ∷ b), w.few, v.few) }

  pub closing : {h a : List Lexeme} (t : Lexeme) → Held p h a → Held p (t ∷ h) (a ++ t ∷ [])
  closing {h} {a} t w = record { few = omega (arith, count-append p a (t ∷ []), w.few) }

  -- the name of a field, behind its record
  pub fielding : {h a : List Lexeme} (t f : Lexeme) → Held p h a → Held p (f ∷ h) (a ++ t ∷ f ∷ [])
  fielding {h} {a} t f w = record { few = omega (arith, count-append p a (t ∷ f ∷ []), w.few) }

  -- two lexemes in the other order
  pub swapped : {t u : Lexeme} {h a : List Lexeme} → Held p (u ∷ t ∷ h) a → Held p (t ∷ u ∷ h) a
  swapped {t} {u} {h} {a} w = record { few = omega (arith, w.few) }

  -- parts and one more
  pub thens : (xs : Trees) (x : Tree) {a b : List Lexeme} → Held p (all_lexemes xs) a → Held p (lexemes x) b → Held p (all_lexemes (then xs x)) (a ++ b)
  thens xs x {a} {b} w v = record { few = omega (arith, then-lexemes p xs x, count-append p a b, w.few, v.few) }

  -- the same behind a name that stands before them
  pub headed : {n : Lexeme} (xs : Trees) (x : Tree) {a b : List Lexeme} → Held p (n ∷ all_lexemes xs) a → Held p (lexemes x) b → Held p (n ∷ all_lexemes (then xs x)) (a ++ b)
  headed {n} xs x {a} {b} w v = record { few = omega (arith, then-lexemes p xs x, count-append p a b, w.few, v.few) }
