-- Nodes over lexemes that stand side by side in a list.
use Rattle.std.proofs.Common.{◌≡◌, List, [], ◌∷◌, ◌++◌, refl, sym, ap, ◌∙◌, append_assoc}
use Rattle.tla_symbols.specs.declared.lexeme.Lexeme.{Lexeme}
use Rattle.tla_symbols.specs.declared.lexeme.Span.{Span}
use Rattle.tla_tree.specs.Syntax.{Tree, Trees, Nil, Cons}
use Rattle.tla_tree.specs.Lexemes.{place, then}
use Rattle.span_laws.specs.NodeSpans.{SpansLexemes, TreeSpans, PartSpans}

-- there is a first lexeme
abbrev pub IsSome : List Lexeme → Type 0
IsSome [] = ⊥
IsSome (t ∷ a) = Unit {0}

-- these lexemes stand side by side in a list
abbrev pub AreAmong : List Lexeme → List Lexeme → Type 0
AreAmong ls a = (before : List Lexeme) × (behind : List Lexeme) × (ls ≡ before ++ (a ++ behind))

-- what holds over some lexemes where they stand side by side in a list
pub record Covers (ls : List Lexeme) (G : Type 0) (a : List Lexeme) : Type 0 where
  pub some : IsSome a
  pub holds : AreAmong ls a → G

module _ {ls : List Lexeme} where
  pub among-left : (a b : List Lexeme) → AreAmong ls (a ++ b) → AreAmong ls a
  among-left a b h = (h.0, b ++ h.1, h.2 ∙ ap (λ z. h.0 ++ z) (append_assoc a b h.1))

  pub among-right : (a b : List Lexeme) → AreAmong ls (a ++ b) → AreAmong ls b
  among-right a b h = (h.0 ++ a, h.1, h.2 ∙ ap (λ z. h.0 ++ z) (append_assoc a b h.1) ∙ sym (append_assoc h.0 a (b ++ h.1)))

  -- behind the first
  pub among-rest : (t : Lexeme) (a : List Lexeme) → AreAmong ls (t ∷ a) → AreAmong ls a
  among-rest t a h = among-right (t ∷ []) a h

  spans : (a : List Lexeme) → IsSome a → AreAmong ls a → SpansLexemes ls (place a)
  spans [] some h = absurd some
  spans (t ∷ a) some h = record { before = h.0; first = t; more = a; behind = h.1; among = h.2; is = refl }

some-left : (a b : List Lexeme) → IsSome a → IsSome (a ++ b)
some-left [] b some = absurd some
some-left (t ∷ a) b some = tt

spans-then : (P : Span → Type 0) (xs : Trees) (x : Tree) → PartSpans P xs → TreeSpans P x → PartSpans P (then xs x)
spans-then P Nil x all more = (more, tt)
spans-then P (Cons y xs) x all more = (all.0, spans-then P xs x all.1 more)

module _ {ls : List Lexeme} where
  -- no node
  pub none : {t : Lexeme} {a : List Lexeme} → Covers ls (Unit {0}) (t ∷ a)
  none = record { some = tt; holds = λ h. tt }

  -- a node over all of these lexemes, above what it holds
  pub node : {G : Type 0} {a : List Lexeme} → Covers ls G a → Covers ls (SpansLexemes ls (place a) × G) a
  node {a = a} w = record { some = w.some; holds = λ h. (spans a w.some h, w.holds h) }

  -- the node of a lexeme
  pub itself : {t : Lexeme} → Covers ls (SpansLexemes ls (place (t ∷ [])) × Unit {0}) (t ∷ [])
  itself = node none

  -- nothing over one more lexeme
  pub other : {G : Type 0} {a : List Lexeme} (t : Lexeme) → Covers ls G a → Covers ls G (t ∷ a)
  other {a = a} t w = record { some = tt; holds = λ h. w.holds (among-rest t a h) }

  -- the node of a lexeme, and what comes behind it
  pub next : {G : Type 0} {t : Lexeme} {a : List Lexeme} → Covers ls G a → Covers ls ((SpansLexemes ls (place (t ∷ [])) × Unit {0}) × G) (t ∷ a)
  next {t = t} {a = a} w = record { some = tt; holds = λ h. ((spans (t ∷ []) tt (among-left (t ∷ []) a h), tt), w.holds (among-rest t a h)) }

  pub both : {G H : Type 0} {a b : List Lexeme} → Covers ls G a → Covers ls H b → Covers ls (G × H) (a ++ b)
  both {a = a} {b = b} w v =
      record {
        some = some-left a b w.some;
        holds = λ h. (w.holds (among-left a b h), v.holds (among-right a b h));
      }

  pub before : {G : Type 0} {a : List Lexeme} (b : List Lexeme) → Covers ls G a → Covers ls G (a ++ b)
  before {a = a} b w = record { some = some-left a b w.some; holds = λ h. w.holds (among-left a b h) }

  -- and nothing more
  pub last : {G : Type 0} {a : List Lexeme} → Covers ls G a → Covers ls (G × Unit {0}) a
  last w = record { some = w.some; holds = λ h. (w.holds h, tt) }

  -- parts and one more
  pub thens : (xs : Trees) (x : Tree) {a b : List Lexeme} → Covers ls (PartSpans (SpansLexemes ls) xs) a → Covers ls (TreeSpans (SpansLexemes ls) x) b → Covers ls (PartSpans (SpansLexemes ls) (then xs x)) (a ++ b)
  thens xs x {a = a} {b = b} w v =
      record {
        some = some-left a b w.some;
        holds = λ h. spans-then (SpansLexemes ls) xs x (w.holds (among-left a b h)) (v.holds (among-right a b h));
      }
