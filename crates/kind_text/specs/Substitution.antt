-- What is put in for parameters.
use Rattle.std.specs.Prelude.{◌≡◌, ℕ, zero, suc, List, [], ◌∷◌, Option, Some, None, replicate}
use Rattle.std.specs.List.{AllZip}
use Rattle.tla_symbols.specs.declared.level.Kind.{Kind}
use Rattle.tla_symbols.specs.declared.level.Kind.TheVariants.{Const}
use Rattle.kind_text.specs.ExpandedKind.{Expanded, Operands, Given, Stays, Applied, Ruled, Guarded, Nil, Cons, kind, kinds}

-- ---- items

-- what may be put in: an expression, or an operator by what it gives on operands
pub record Item : Type 0 where
  pub text : Expanded
  pub call : Operands → Expanded

-- an expression, which is no operator
abbrev pub expression : Expanded → Item
expression t = record { text = t; call = λ ts. Given None }

-- an operator, which is no expression
abbrev pub operator : (Operands → Expanded) → Item
operator f = record { text = Given None; call = f }

-- the parameter at a place, an expression or an operator, which stays
abbrev pub stay : ℕ → Item
stay i = record { text = Stays i; call = Applied i }

-- the parameters from a place on, so many of them, which stay
abbrev pub stays : ℕ → ℕ → List Item
stays i zero = []
stays i (suc n) = stay i ∷ stays (suc i) n

-- what is put in at a place
abbrev pub at : List Item → ℕ → Item
at [] i = expression (Given (Some Const))
at (x ∷ xs) zero = x
at (x ∷ xs) (suc i) = at xs i

-- expressions as items
abbrev pub expressions : Operands → List Item
expressions Nil = []
expressions (Cons t ts) = expression t ∷ expressions ts

-- items as operands
abbrev pub texts : List Item → Operands
texts [] = Nil
texts (x ∷ xs) = Cons x.text (texts xs)

-- leaves of these kinds
abbrev pub leaves : List (Option Kind) → Operands
leaves [] = Nil
leaves (k ∷ ks) = Cons (Given k) (leaves ks)

-- so many constant operands
abbrev pub constants : ℕ → Operands
constants n = leaves (replicate n (Some Const))

-- what is judged of an item: of an operator with so many places, what it gives on constants
abbrev pub judged : Option ℕ → Item → Expanded
judged None x = x.text
judged (Some places) x = x.call (constants places)

-- ---- substitution

abbrev mutual
  -- an expanded expression with items in place of the parameters that stay in it
  pub put : Expanded → (ℕ → Item) → Expanded
  put (Given k) s = Given k
  put (Stays i) s = (s i).text
  put (Applied i ts) s = (s i).call (puts ts s)
  put (Ruled rule ts) s = Ruled rule (puts ts s)
  put (Guarded most t inner) s = Guarded most (put t s) (put inner s)

  -- the same of each
  pub puts : Operands → (ℕ → Item) → Operands
  puts Nil s = Nil
  puts (Cons t ts) s = Cons (put t s) (puts ts s)

-- ---- items of the same kinds

-- items of the same kinds, on operands of the same kinds too
pub record Same (a b : Item) : Type 0 where
  pub text : kind a.text ≡ kind b.text
  pub call : (ts us : Operands) → kinds ts ≡ kinds us → kind (a.call ts) ≡ kind (b.call us)

-- the same of each, in order
abbrev pub Alike : List Item → List Item → Type 0
Alike = AllZip Same
