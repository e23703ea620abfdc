-- Names and parameters where they are bound or declared.
use Rattle.std.specs.Prelude.{ℕ, ◌+◌, List, [], ◌∷◌, ◌++◌}
use Rattle.tla_symbols.specs.declared.op.Op.{Op}
use Rattle.tla_symbols.specs.declared.place.Fix.{Fix}
use Rattle.tla_symbols.specs.declared.lexeme.Mark.{Mark}
use Rattle.tla_symbols.specs.declared.lexeme.Lexeme.{Lexeme}
use Rattle.tla_tree.specs.declared.form.Form.{Form}
use Rattle.tla_tree.specs.Syntax.{Tree, Trees, Nil, Cons}
use Rattle.tla_tree.specs.Lexemes.{IsName, IsMark, IsSymbol, Defines, built, one}

-- names parted by commas
pub data DerivesNameList : Trees → List Lexeme → Type 0 where
  last_name : {n : Lexeme} → IsName n → DerivesNameList (one (built (Form.Name n) Nil (n ∷ []))) (n ∷ [])
  more_names : {n t : Lexeme} {xs : Trees} {a : List Lexeme}
      → IsName n → IsMark t Mark.Comma
      → DerivesNameList xs a
      → DerivesNameList (Cons (built (Form.Name n) Nil (n ∷ [])) xs) (n ∷ t ∷ a)

-- the names that a quantifier binds without a set, as one part
pub data DerivesNames : Tree → List Lexeme → Type 0 where
  names : {xs : Trees} {a : List Lexeme} → DerivesNameList xs a → DerivesNames (built Form.Names xs a) a

-- `<<Id, ..>>`, where it binds
pub data DerivesTupleNames : Trees → List Lexeme → Type 0 where
  tuple_names : {xs : Trees} {a : List Lexeme} (t u : Lexeme)
      → IsMark t Mark.LeftAngle → IsMark u Mark.RightAngle
      → DerivesNameList xs a
      → DerivesTupleNames xs (t ∷ (a ++ u ∷ []))

-- a name or a tuple of names
pub data DerivesBinder : Tree → List Lexeme → Type 0 where
  binder_name : {n : Lexeme} → IsName n → DerivesBinder (built Form.Names (one (built (Form.Name n) Nil (n ∷ []))) (n ∷ [])) (n ∷ [])
  binder_tuple : {xs : Trees} {a : List Lexeme} → DerivesTupleNames xs a → DerivesBinder (built Form.TupleNames xs a) a

-- the places of an operator parameter
pub data DerivesPlaces : ℕ → List Lexeme → Type 0 where
  last_place : {p : Lexeme} → IsMark p Mark.Underscore → DerivesPlaces 1 (p ∷ [])
  more_places : {p t : Lexeme} {places : ℕ} {a : List Lexeme}
      → IsMark p Mark.Underscore → IsMark t Mark.Comma
      → DerivesPlaces places a
      → DerivesPlaces (places + 1) (p ∷ t ∷ a)

-- `Id`, `Id(_, ..)`, `-. _`, `_ op _` and `_ op`
pub data DerivesParameter : Tree → List Lexeme → Type 0 where
  plain : {n : Lexeme} → IsName n → DerivesParameter (built (Form.Name n) Nil (n ∷ [])) (n ∷ [])
  of_places : {n t : Lexeme} {places : ℕ} {a : List Lexeme} (u : Lexeme)
      → IsName n → IsMark t Mark.LeftParen → IsMark u Mark.RightParen
      → DerivesPlaces places a
      → DerivesParameter (built (Form.OperatorParameter n places) Nil (n ∷ t ∷ (a ++ u ∷ []))) (n ∷ t ∷ (a ++ u ∷ []))
  prefix_symbol : {t p : Lexeme}
      → IsSymbol t Op.Negative → IsMark p Mark.Underscore
      → DerivesParameter (built (Form.PrefixParameter t) Nil (t ∷ p ∷ [])) (t ∷ p ∷ [])
  infix_symbol : {op : Op} {p t q : Lexeme}
      → IsMark p Mark.Underscore → IsSymbol t op → Defines op Fix.Infix → IsMark q Mark.Underscore
      → DerivesParameter (built (Form.InfixParameter t) Nil (p ∷ t ∷ q ∷ [])) (p ∷ t ∷ q ∷ [])
  postfix_symbol : {op : Op} {p t : Lexeme}
      → IsMark p Mark.Underscore → IsSymbol t op → Defines op Fix.Postfix
      → DerivesParameter (built (Form.PostfixParameter t) Nil (p ∷ t ∷ [])) (p ∷ t ∷ [])

-- one or more parameters parted by commas
pub data DerivesParameters : Trees → List Lexeme → Type 0 where
  last_parameter : {x : Tree} {a : List Lexeme} → DerivesParameter x a → DerivesParameters (one x) a
  more_parameters : {x : Tree} {xs : Trees} {a b : List Lexeme} (t : Lexeme)
      → IsMark t Mark.Comma
      → DerivesParameter x a → DerivesParameters xs b
      → DerivesParameters (Cons x xs) (a ++ t ∷ b)

-- `Id` or `Id(Decl, ..)`, where an operator or an instance is defined
pub data DerivesHead : Lexeme → Trees → List Lexeme → Type 0 where
  constant : {n : Lexeme} → IsName n → DerivesHead n Nil (n ∷ [])
  with_parameters : {n t : Lexeme} {xs : Trees} {a : List Lexeme} (u : Lexeme)
      → IsName n → IsMark t Mark.LeftParen → IsMark u Mark.RightParen
      → DerivesParameters xs a
      → DerivesHead n xs (n ∷ t ∷ (a ++ u ∷ []))

-- what a replacement may have on its left: an Id or a definable symbol
pub data IsReplaceable : Lexeme → Type 0 where
  by_name : {n : Lexeme} → IsName n → IsReplaceable n
  by_symbol : {op : Op} {n : Lexeme} (fix : Fix) → IsSymbol n op → Defines op fix → IsReplaceable n
