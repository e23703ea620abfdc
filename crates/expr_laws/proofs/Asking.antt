-- What the grammar asks, in the terms of the tables.
use Rattle.std.proofs.Common.{◌≡◌, ℕ, ◌<◌, ◌≤◌, ◌⊎◌, inl, inr, Bool, true, false, List, ◌∷◌, Option, Some, None, refl, ap, sym, subst, ◌∙◌, arith}
use Rattle.std.specs.Prelude.{cond, nat_lt}
use Rattle.std.specs.List.{AllByRecursion}
use Rattle.std.proofs.lemmas.Bool.Decides.{nat_tests}
use Rattle.tla_symbols.specs.declared.lexeme.LexKind.{LexKind}
use Rattle.tla_symbols.specs.declared.lexeme.Lexeme.{Lexeme}
use Rattle.tla_tree.specs.declared.form.Form.{Form}
use Rattle.tla_tree.specs.Syntax.{Tree}
use Rattle.tla_tree.specs.Edges.{Edge, Open, associates, Joins, AllJoin}
use Rattle.tla_tree.specs.Shapes.{IsSubscript}
use Rattle.precedence.specs.declared.Choice.TheVariants as Choice
use Rattle.expr_grammar.specs.declared.wait.Wait.{Wait}
use Rattle.expr_grammar.specs.declared.wait.Mode.TheVariants as Mode
use Rattle.expr_grammar.specs.declared.wait.PartMove.TheVariants as PartMove
use Rattle.expr_grammar.specs.declared.wait.Role.{Role}
use Rattle.expr_grammar.specs.Kinds.{is_left_paren, is_bang}
use Rattle.expr_grammar.specs.Tables.{mode, list_of, role, edge_of, takes, choice, shape, is_expression, ends_with, finishes, after_expression}
use Rattle.expr_grammar.specs.Machine.{inside, is_operator}
use Rattle.expr_laws.proofs.Tabled.{IsNoBullet, Ends, at_end, by_column, by_mark, by_operator}

-- lexemes that go on with a name
abbrev pub continues : LexKind → Bool
continues k = cond (is_left_paren k) true (is_bang k)

-- what may follow a part with these operators on its right edge
abbrev pub Follows : ℕ → List Edge → Option Lexeme → Type 0
Follows i qs None = Unit {0}
Follows i qs (Some n) = (continues n.kind ≡ false) × ((n.col < i) ⊎ (is_operator (role n.kind) ≡ true → AllJoin (edge_of (role n.kind)) qs))

pub absurd-bool : (P : Type 0) (b : Bool) → b ≡ true → b ≡ false → P
absurd-bool P b h k = cc

-- a mark may follow
pub mark-follows : (i : ℕ) (qs : List Edge) (u : Lexeme) (k : LexKind) → u.kind ≡ k → continues k ≡ false → is_operator (role k) ≡ false → Follows i qs (Some u)
mark-follows i qs u k e c r = (ap continues e ∙ c, inr (λ s. absurd-bool _ (is_operator (role u.kind)) s (ap (λ z. is_operator (role z)) e ∙ r)))

-- a lexeme left of the items may follow
pub column-follows : (i : ℕ) (qs : List Edge) (u : Lexeme) → continues u.kind ≡ false → u.col < i → Follows i qs (Some u)
column-follows i qs u c l = (c, inl l)

pub operator-follows : (i : ℕ) (qs : List Edge) (u : Lexeme) (r : Role) → continues u.kind ≡ false → role u.kind ≡ r → AllJoin (edge_of r) qs → Follows i qs (Some u)
operator-follows i qs u r c e j = (c, inr (λ s. subst (λ z. AllJoin (edge_of z) qs) (sym e) j))

pub follows-tail : (i : ℕ) (q : Edge) (qs : List Edge) (o : Option Lexeme) → Follows i (q ∷ qs) o → Follows i qs o
follows-tail i q qs None f = tt
follows-tail i q qs (Some n) (c, inl l) = (c, inl l)
follows-tail i q qs (Some n) (c, inr h) = (c, inr (λ s. (h s).1))

pub follows-none : (i : ℕ) (qs rs : List Edge) (o : Option Lexeme) → qs ≡ rs → Follows i qs o → Follows i rs o
follows-none i qs rs o e f = subst (λ z. Follows i z o) e f

-- an open form ends before no operator
pub not-open : (q : Edge) → Joins q Open → ⊥
not-open q (inl h) = omega arith
not-open q (inr h) = let e : associates q ≡ false = sym (ap associates h.0) in absurd-bool ⊥ (associates q) h.1 e

-- why a frame ends round an expression
pub ends-expression : (v : Wait) (x : Tree) (i : ℕ) (form : Form) (qs : List Edge) (o : Option Lexeme) → is_expression (shape x) ≡ true → ends_with v ≡ Some form → ((t : Lexeme) → after_expression v (shape x) t ≡ PartMove.Refused) → ((r : Role) → is_operator r ≡ true → AllJoin (edge_of r) qs → (takes v r ≡ false) × (choice v (edge_of r) ≡ Choice.Ends)) → list_of v ≡ None → Follows i qs o → Ends v x i form o
ends-expression v x i form qs None s e a c l f = at_end (rw (s, e))
ends-expression v x i form qs (Some n) s e a c l f = by-which (f.1)
  where
    finish : finishes v (shape x) ≡ Some form
    finish = rw (s, e)

    same : inside v i ≡ i
    same = rw l

    no-bullet : (m : Option Lexeme) → m ≡ None → IsNoBullet m n
    no-bullet None h = tt
    no-bullet (Some t) h = cc

    by-role : (b : Bool) → is_operator (role n.kind) ≡ b → inside v i ≤ n.col → (is_operator (role n.kind) ≡ true → AllJoin (edge_of (role n.kind)) qs) → Ends v x i form (Some n)
    by-role true r k h = let z : (takes v (role n.kind) ≡ false) × (choice v (edge_of (role n.kind)) ≡ Choice.Ends) = c (role n.kind) r (h r) in by_operator k r z.0 z.1 finish
    by-role false r k h = by_mark k r (rw (s, a n, e))

    by-which : (n.col < i) ⊎ (is_operator (role n.kind) ≡ true → AllJoin (edge_of (role n.kind)) qs) → Ends v x i form (Some n)
    by-which (inl k) = by_column finish (rw same k) (no-bullet (list_of v) l)
    by-which (inr h) = by-column (nat_lt n.col i) refl h
      where
        by-column : (b : Bool) → nat_lt n.col i ≡ b → (is_operator (role n.kind) ≡ true → AllJoin (edge_of (role n.kind)) qs) → Ends v x i form (Some n)
        by-column true k h' = by_column finish (rw same (grind (arith, nat_tests))) (no-bullet (list_of v) l)
        by-column false k h' = by-role (is_operator (role n.kind)) refl (rw same (grind (arith, nat_tests))) h'

-- an open form, or a part that counts as one
pub ends-open : (v : Wait) (x : Tree) (i : ℕ) (form : Form) (qs : List Edge) (o : Option Lexeme) → is_expression (shape x) ≡ true → ends_with v ≡ Some form → ((t : Lexeme) → after_expression v (shape x) t ≡ PartMove.Refused) → list_of v ≡ None → Follows i (Open ∷ qs) o → Ends v x i form o
ends-open v x i form qs o s e a l f = ends-expression v x i form (Open ∷ qs) o s e a (λ r k j. absurd (not-open (edge_of r) j.0)) l f

-- a place where an expression is due, or a subscript
pub data Place (w : Wait) (x : Tree) : Bool → Type 0 where
  operand : mode w ≡ Mode.Operand → Place w x true
  subscript : mode w ≡ Mode.Subscript → IsSubscript x → Place w x false

-- what the waiting operator admits on a left edge
abbrev pub AllFit : Wait → List Edge → Type 0
AllFit w qs = AllByRecursion (λ q. choice w q ≡ Choice.Waits) qs
