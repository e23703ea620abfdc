-- Lists whose lexemes are among others, and no more than those.
use Rattle.std.proofs.Common.{◌≤◌, List, [], ◌∷◌, ◌++◌, length, arith, sym, subst}
use Rattle.std.specs.List.{AllByRecursion}
use Rattle.std.proofs.lemmas.List.{append-nil, length-append}
use Rattle.tla_symbols.specs.declared.lexeme.Lexeme.{Lexeme}

module _ (P : Lexeme → Type 0) where
  pub all-left : (a b : List Lexeme) → AllByRecursion P (a ++ b) → AllByRecursion P a
  all-left [] b all = tt
  all-left (x ∷ a) b all = (all.0, all-left a b all.1)

  pub all-right : (a b : List Lexeme) → AllByRecursion P (a ++ b) → AllByRecursion P b
  all-right [] b all = all
  all-right (x ∷ a) b all = all-right a b all.1

  pub all-both : (a b : List Lexeme) → AllByRecursion P a → AllByRecursion P b → AllByRecursion P (a ++ b)
  all-both [] b all more = more
  all-both (x ∷ a) b all more = (all.0, all-both a b all.1 more)

-- what holds of all of these lexemes holds of those that are held, and they are no more
pub record IsHeld (P : Lexeme → Type 0) (xs a : List Lexeme) : Type 0 where
  pub holds : AllByRecursion P a → AllByRecursion P xs
  pub few : length xs ≤ length a

module _ {P : Lexeme → Type 0} where
  pub none : {a : List Lexeme} → IsHeld P [] a
  none = record { holds = λ all. tt; few = omega arith }

  pub itself : (t : Lexeme) → IsHeld P (t ∷ []) (t ∷ [])
  itself t = record { holds = λ all. all; few = omega arith }

  pub other : {xs a : List Lexeme} (t : Lexeme) → IsHeld P xs a → IsHeld P xs (t ∷ a)
  other t w = record { holds = λ all. w.holds all.1; few = omega (arith, w.few) }

  pub next : {xs a : List Lexeme} (t : Lexeme) → IsHeld P xs a → IsHeld P (t ∷ xs) (t ∷ a)
  next t w = record { holds = λ all. (all.0, w.holds all.1); few = omega (arith, w.few) }

  pub both : {xs ys a b : List Lexeme} → IsHeld P xs a → IsHeld P ys b → IsHeld P (xs ++ ys) (a ++ b)
  both {xs = xs} {ys = ys} {a = a} {b = b} w v =
      record {
        holds = λ all. all-both P xs ys (w.holds (all-left P a b all)) (v.holds (all-right P a b all));
        few = omega (arith, w.few, v.few, length-append xs ys, length-append a b);
      }

  -- in the other order
  pub later : {xs ys a b : List Lexeme} → IsHeld P xs a → IsHeld P ys b → IsHeld P (ys ++ xs) (a ++ b)
  later {xs = xs} {ys = ys} {a = a} {b = b} w v =
      record {
        holds = λ all. all-both P ys xs (v.holds (all-right P a b all)) (w.holds (all-left P a b all));
        few = omega (arith, w.few, v.few, length-append ys xs, length-append a b);
      }

  -- a lexeme before those between which it stands
  pub between : {xs ys a b : List Lexeme} (t : Lexeme) → IsHeld P xs a → IsHeld P ys b → IsHeld P (t ∷ (xs ++ ys)) (a ++ t ∷ b)
  between {xs = xs} {ys = ys} {a = a} {b = b} t w v =
      record {
        holds = λ all. ((all-right P a (t ∷ b) all).0, all-both P xs ys (w.holds (all-left P a (t ∷ b) all)) (v.holds (all-right P a (t ∷ b) all).1));
        few = omega (arith, w.few, v.few, length-append xs ys, length-append a (t ∷ b));
      }

  pub swapped : {xs a : List Lexeme} (t u : Lexeme) → IsHeld P xs (t ∷ u ∷ a) → IsHeld P xs (u ∷ t ∷ a)
  swapped t u w = record { holds = λ all. w.holds (all.1.0, (all.0, all.1.1)); few = omega (arith, w.few) }

  pub after : {xs b : List Lexeme} (a : List Lexeme) → IsHeld P xs b → IsHeld P xs (a ++ b)
  after a w = both (none {a = a}) w

  pub before : {xs a : List Lexeme} (b : List Lexeme) → IsHeld P xs a → IsHeld P xs (a ++ b)
  before {xs = xs} {a = a} b w = subst (λ z. IsHeld P z (a ++ b)) (append-nil xs) (both w (none {a = b}))

  -- and nothing more
  pub last : {xs a : List Lexeme} → IsHeld P xs a → IsHeld P (xs ++ []) a
  last {xs = xs} {a = a} w = subst (λ z. IsHeld P z a) (sym (append-nil xs)) w
