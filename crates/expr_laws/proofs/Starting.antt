-- What begins at a place, and what takes parts parted by commas.
use Rattle.std.proofs.Common.{◌≡◌, ℕ, Bool, true, false, List, [], ◌∷◌, ◌++◌, Option, Some, None, refl, ap, sym, subst, ◌∙◌}
use Rattle.std.specs.Prelude.{is_some}
use Rattle.tla_symbols.specs.declared.op.Op.{Op}
use Rattle.tla_symbols.specs.declared.place.Fix.{Fix}
use Rattle.tla_symbols.specs.declared.lexeme.LexKind.{LexKind}
use Rattle.tla_symbols.specs.declared.lexeme.Mark.{Mark}
use Rattle.tla_symbols.specs.declared.lexeme.Lexeme.{Lexeme}
use Rattle.tla_symbols.specs.Symbols.{range_of}
use Rattle.tla_tree.specs.declared.form.Form.{Form}
use Rattle.tla_tree.specs.Syntax.{Tree, Trees, Node, Nil, Cons, trees}
use Rattle.tla_tree.specs.Edges.{Edge, Meets, AllMeet}
use Rattle.tla_tree.specs.Shapes.{IsSubscript}
use Rattle.tla_tree.specs.Lexemes.{IsMark, IsSymbol, Applies, is_product, place, built, one, joined}
use Rattle.tla_tree.specs.Derivation.{Derives, node, Spells, identifier, infixed}
use Rattle.precedence.specs.declared.Choice.TheVariants as Choice
use Rattle.precedence.specs.Choices.{op_number, fix_number, same_op, same_edge, meets, joins, choose as choose_order}
use Rattle.expr_grammar.specs.declared.wait.Wait.{Wait}
use Rattle.expr_grammar.specs.declared.wait.Mode.TheVariants as Mode
use Rattle.expr_grammar.specs.declared.wait.Start.{Start}
use Rattle.expr_grammar.specs.declared.wait.Conversion.TheVariants as Conversion
use Rattle.expr_grammar.specs.declared.wait.PartMove.{PartMove}
use Rattle.expr_grammar.specs.declared.wait.Role.{Role}
use Rattle.expr_grammar.specs.declared.wait.Lead.TheVariants as Lead
use Rattle.expr_grammar.specs.Tables.{mode, is_junction, is_bullet, start_symbol, start_kind, begins, absorbs, role_of, role, edge_of, lead_infix, takes, choice, plain_shape, member_shape, shape, is_expression, at_part}
use Rattle.expr_grammar.specs.Machine.{is_operator}
use Rattle.expr_laws.proofs.Tabled.{promised, IsPlain, Part, Closed}
use Rattle.expr_laws.proofs.Asking.{continues, Follows, Place, operand, subscript, AllFit}

-- a lexeme as a part
abbrev pub segment-leaf : Lexeme → Tree
segment-leaf n = built (Form.Segment n) Nil (n ∷ [])

abbrev pub symbol-leaf : Lexeme → Tree
symbol-leaf t = built (Form.Symbol t) Nil (t ∷ [])

pub plain-expression : (xs : Trees) → is_expression (plain_shape xs) ≡ true
plain-expression (Cons (Node (Form.Segment n) s Nil) Nil) = refl
plain-expression _ = refl

pub member-expression : (b : Bool) → is_expression (member_shape b) ≡ true
member-expression true = refl
member-expression false = refl

pub spells-shape : {f : Form} {xs : Trees} {a : List Lexeme} {i : ℕ} {o : Option Lexeme} → Spells f xs a i o → is_expression (shape (Node f (place a) xs)) ≡ true
spells-shape (identifier {xs = xs} d) = plain-expression xs
spells-shape (infixed t k h e j m d d') = member-expression _
spells-shape _ = refl

pub derives-shape : {x : Tree} {a : List Lexeme} {i : ℕ} {o : Option Lexeme} → Derives x a i o → is_expression (shape x) ≡ true
derives-shape (node s) = spells-shape s

pub start-at : (w : Wait) (t : Lexeme) (k : LexKind) → mode w ≡ Mode.Operand → t.kind ≡ k → begins (mode w) t ≡ start_kind k t
start-at w t k h e = ap (λ m. begins m t) h ∙ ap (λ z. start_kind z t) e

pub mark-role : (u : Lexeme) (k : LexKind) → u.kind ≡ k → is_operator (role k) ≡ false → is_operator (role u.kind) ≡ false
mark-role u k e r = ap (λ z. is_operator (role z)) e ∙ r

pub operand-of : {w : Wait} {x : Tree} {flag : Bool} → Place w x flag → (IsSubscript x → ⊥) → mode w ≡ Mode.Operand
operand-of (operand h) n = h
operand-of (subscript h s) n = absurd (n s)

pub paren-start : {w : Wait} {x : Tree} {flag : Bool} (t : Lexeme) → Place w x flag → IsMark t Mark.LeftParen → begins (mode w) t ≡ Start.Push Wait.ParenthesesBody
paren-start t (operand h) e = rw (h, e)
paren-start t (subscript h s) e = rw (h, e)

pub bracket-start : {w : Wait} {x : Tree} {flag : Bool} (t : Lexeme) → Place w x flag → IsMark t Mark.LeftBracket → begins (mode w) t ≡ Start.Push (Wait.SquareFirst flag)
bracket-start t (operand h) e = rw (h, e)
bracket-start t (subscript h s) e = rw (h, e)

pub brace-start : {w : Wait} {x : Tree} {flag : Bool} (t : Lexeme) → Place w x flag → IsMark t Mark.LeftBrace → begins (mode w) t ≡ Start.Push Wait.BraceFirst
brace-start t (operand h) e = rw (h, e)
brace-start t (subscript h s) e = rw (h, e)

pub angle-start : {w : Wait} {x : Tree} {flag : Bool} (t : Lexeme) → Place w x flag → IsMark t Mark.LeftAngle → begins (mode w) t ≡ Start.Push (Wait.AngleFirst flag)
angle-start t (operand h) e = rw (h, e)
angle-start t (subscript h s) e = rw (h, e)

pub mode-absorbs : (w : Wait) → mode w ≡ Mode.Operand → absorbs w ≡ None
mode-absorbs Wait.StepFirst h = cc
mode-absorbs Wait.StepNext h = cc
mode-absorbs _ h = refl

pub waits-takes : (w : Wait) (r : Role) → choice w (edge_of r) ≡ Choice.Waits → takes w r ≡ false
unfolding meets joins same_edge same_op op_number fix_number choose_order
waits-takes Wait.Factor (Role.Symbol Op.Product Fix.Infix) h = cc
waits-takes _ _ h = refl

pub all-waits : (v : Wait) → ((q : Edge) → choice v q ≡ Choice.Waits) → (qs : List Edge) → AllFit v qs
all-waits v h [] = tt
all-waits v h (q ∷ qs) = (h q, all-waits v h qs)

pub all-fit : (v : Wait) (p : Edge) → ((q : Edge) → Meets p q → choice v q ≡ Choice.Waits) → (qs : List Edge) → AllMeet p qs → AllFit v qs
all-fit v p h [] m = tt
all-fit v p h (q ∷ qs) m = (h q m.0, all-fit v p h qs m.1)

pub prefix-no_bullet : (op : Op) → Applies op Fix.Prefix → is_junction (LexKind.Sym op) ≡ false
prefix-no_bullet Op.And h = cc
prefix-no_bullet Op.Or h = cc
prefix-no_bullet _ h = refl

pub prefix-start : (op : Op) (t : Lexeme) → IsSymbol t op → Applies op Fix.Prefix → start_symbol op t ≡ Start.Push (Wait.PrefixOperand t)
prefix-start op t e h =
    let k : is_junction t.kind ≡ false = ap is_junction e ∙ prefix-no_bullet op h in
    let b : is_bullet t ≡ false = rw k in
    rw (b, h)

pub infix-role : (op : Op) → Applies op Fix.Infix → role_of op ≡ Role.Symbol op Fix.Infix
infix-role op h = rw h

pub postfix-not_infix : (op : Op) → Applies op Fix.Postfix → is_some (range_of op Fix.Infix) ≡ false
postfix-not_infix Op.Prime h = refl
postfix-not_infix Op.PlusClosure h = refl
postfix-not_infix Op.StarClosure h = refl
postfix-not_infix Op.SharpClosure h = refl
postfix-not_infix _ h = cc

pub postfix-role : (op : Op) → Applies op Fix.Postfix → role_of op ≡ Role.Symbol op Fix.Postfix
postfix-role op h = rw (postfix-not_infix op h, h)

pub infix-lead : (op : Op) (t : Lexeme) → is_product op ≡ false → lead_infix op t ≡ Lead.Push (Wait.InfixOperand t)
infix-lead Op.Product t h = cc
infix-lead _ t h = refl

pub symbol-continues : (u : Lexeme) (op : Op) → IsSymbol u op → continues u.kind ≡ false
symbol-continues u op e = ap continues e

pub trees-snoc : (ps : List Tree) (x : Tree) → trees (ps ++ x ∷ []) ≡ joined (trees ps) (one x)
trees-snoc [] x = refl
trees-snoc (p ∷ ps) x = rw (trees-snoc ps x)

pub joined-snoc : (ps : List Tree) (x : Tree) (xs : Trees) → joined (trees (ps ++ x ∷ [])) xs ≡ joined (trees ps) (Cons x xs)
joined-snoc [] x xs = refl
joined-snoc (p ∷ ps) x xs = rw (joined-snoc ps x xs)

-- a part by another name of its tree and its list
pub renamed : {w : Wait} {i : ℕ} {o : Option Lexeme} (form : Form) (xs ys : Trees) (a b : List Lexeme) → xs ≡ ys → a ≡ b → Part w (built form xs a) a i o → Part w (built form ys b) b i o
renamed {w} {i} {o} form xs ys a b e k d = subst (λ z. Part w (built form z b) b i o) e (subst (λ z. Part w (built form xs z) z i o) k d)

pub renamed-closed : {w : Wait} {i : ℕ} (form : Form) (xs ys : Trees) (a b : List Lexeme) → xs ≡ ys → a ≡ b → Closed w (built form xs a) a i → Closed w (built form ys b) b i
renamed-closed {w} {i} form xs ys a b e k d = subst (λ z. Closed w (built form z b) b i) e (subst (λ z. Closed w (built form xs z) z i) k d)

-- a frame that takes expressions parted by commas
pub record Listing (v v' : Wait) (form : Form) (u : Lexeme) : Type 0 where
  pub due : mode v ≡ Mode.Operand
  pub waits : (q : Edge) → choice v q ≡ Choice.Waits
  pub goes : (x : Tree) (t : Lexeme) → is_expression (shape x) ≡ true → IsMark t Mark.Comma → at_part v (shape x) t ≡ PartMove.Goes v' Conversion.Keep
  pub closes : (x : Tree) → is_expression (shape x) ≡ true → at_part v (shape x) u ≡ PartMove.Done form Conversion.Keep
  pub plain : IsPlain v
  pub own : promised v' ≡ []

pub set-first : (u : Lexeme) → IsMark u Mark.RightBrace → Listing Wait.BraceFirst Wait.BraceNext Form.SetEnumeration u
set-first u k = record { due = refl; waits = λ q. refl; goes = λ x t s e. rw (s, e); closes = λ x s. rw (s, k); plain = (refl, refl); own = refl }

pub set-next : (u : Lexeme) → IsMark u Mark.RightBrace → Listing Wait.BraceNext Wait.BraceNext Form.SetEnumeration u
set-next u k = record { due = refl; waits = λ q. refl; goes = λ x t s e. rw (s, e); closes = λ x s. rw (s, k); plain = (refl, refl); own = refl }

pub tuple-first : (flag : Bool) (u : Lexeme) → IsMark u Mark.RightAngle → Listing (Wait.AngleFirst flag) Wait.AngleNext Form.Tuple u
tuple-first flag u k = record { due = refl; waits = λ q. refl; goes = λ x t s e. rw (s, e); closes = λ x s. rw (s, k); plain = (refl, refl); own = refl }

pub tuple-next : (u : Lexeme) → IsMark u Mark.RightAngle → Listing Wait.AngleNext Wait.AngleNext Form.Tuple u
tuple-next u k = record { due = refl; waits = λ q. refl; goes = λ x t s e. rw (s, e); closes = λ x s. rw (s, k); plain = (refl, refl); own = refl }

pub application-listing : (u : Lexeme) → IsMark u Mark.RightBracket → Listing Wait.ApplicationArgument Wait.ApplicationArgument Form.Application u
application-listing u k = record { due = refl; waits = λ q. refl; goes = λ x t s e. rw (s, e); closes = λ x s. rw (s, k); plain = (refl, refl); own = refl }

pub index-listing : (u : Lexeme) → IsMark u Mark.RightBracket → Listing Wait.IndexPart Wait.IndexPart Form.IndexStep u
index-listing u k = record { due = refl; waits = λ q. refl; goes = λ x t s e. rw (s, e); closes = λ x s. rw (s, k); plain = (refl, refl); own = refl }

pub no-follow : (i : ℕ) (qs : List Edge) (o : Option Lexeme) (u : Lexeme) → o ≡ Some u → Follows i qs (Some u) → Follows i qs o
no-follow i qs o u e f = subst (λ z. Follows i qs z) (sym e) f
