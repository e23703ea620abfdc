-- Operators after a finished part keep to the grammar.
use Rattle.std.proofs.Common.{◌≡◌, ℕ, ◌≤◌, inl, inr, Bool, true, false, List, [], ◌∷◌, ◌++◌, Option, Some, None, refl, ap, sym, subst, ◌∙◌, append_assoc, arith}
use Rattle.std.specs.Prelude.{cond, is_some}
use Rattle.std.specs.List.{AllByRecursion}
use Rattle.tla_symbols.specs.declared.op.Op.{Op}
use Rattle.tla_symbols.specs.declared.place.Fix.{Fix}
use Rattle.tla_symbols.specs.declared.lexeme.LexKind.{LexKind}
use Rattle.tla_symbols.specs.declared.lexeme.Mark.TheVariants as Mark
use Rattle.tla_symbols.specs.declared.lexeme.Lexeme.{Lexeme}
use Rattle.tla_symbols.specs.Symbols.{range_of}
use Rattle.tla_tree.specs.declared.form.Form.{Form}
use Rattle.tla_tree.specs.Syntax.{Tree, Trees, Node, Nil, Cons, trees}
use Rattle.tla_tree.specs.Edges.{Edge, Operator, Open, Applied, Selected, lo, hi, Joins, AllJoin, operator, product, right_mark, beside, right_edge, right_edge_of_last, left_edge}
use Rattle.tla_tree.specs.Lexemes.{IsSymbol, Applies, built, one}
use Rattle.tla_tree.specs.Derivation.{Derives, node, postfixed, DerivesFactors, more_factors}
use Rattle.precedence.specs.Choices.{meets}
use Rattle.precedence.specs.declared.Choice.TheVariants as Choice
use Rattle.precedence.proofs.Orders.{ends-joins}
use Rattle.expr_grammar.specs.declared.wait.Handed.TheVariants as Handed
use Rattle.expr_grammar.specs.declared.wait.Wait.{Wait}
use Rattle.expr_grammar.specs.declared.wait.Mode.{Mode}
use Rattle.expr_grammar.specs.declared.wait.Role.{Role}
use Rattle.expr_grammar.specs.declared.wait.Lead.{Lead}
use Rattle.expr_grammar.specs.declared.wait.Shape.{Shape}
use Rattle.expr_grammar.specs.Tables.{mode, list_of, role_of, role, edge_of, lead_infix, lead, takes, choice, is_expression, finishes}
use Rattle.expr_grammar.specs.Machine.{inside}
use Rattle.expr_laws.proofs.Tabled.{promised}
use Rattle.expr_laws.proofs.Asking.{AllFit}
use Rattle.expr_laws.proofs.Bounding.{right-then}
use Rattle.expr_laws.proofs.Views.{expression, Shut, HasRead, infix_operand, factor, application_argument, field_name}
use Rattle.expr_laws.proofs.Viewing.{trees-then, adds-mark, reread}
use Rattle.expr_laws.proofs.Marking.{operand-due, not-subscript}
use Rattle.expr_laws.proofs.Ending.{factor-meets}

-- the last part's right edge is that of the parts
pub last-edge : (ps : List Tree) (x : Tree) → right_edge_of_last (trees (ps ++ x ∷ [])) ≡ right_edge x
last-edge ps x = ap right_edge_of_last (trees-then ps x) ∙ right-then (trees ps) x

-- an operator that ends a frame may have its form on its left
abbrev pub EdgeOk : Edge → List Edge → Option Form → Type 0
EdgeOk q qs (Some form) = AllJoin q (beside (right_mark form) qs)
EdgeOk q qs None = Unit {0}

set-ends : (b : Bool) (P : Type 0) → cond b Choice.Waits Choice.Clashes ≡ Choice.Ends → P
set-ends true P h = cc
set-ends false P h = cc

edge-if : (P : Option Form → Type 0) (b : Bool) (m n : Option Form) → P m → P n → P (cond b m n)
edge-if P true m n f g = f
edge-if P false m n f g = g

pub ends-edges : (v : Wait) (q : Edge) (sh : Shape) (qs : List Edge) → choice v q ≡ Choice.Ends → AllJoin q qs → EdgeOk q qs (finishes v sh)
ends-edges (Wait.PrefixOperand t) q sh qs e j = edge-if (EdgeOk q qs) (is_expression sh) _ _ (ends-joins (operator t.kind Fix.Prefix) q e, j) tt
ends-edges (Wait.InfixOperand t) q sh qs e j = edge-if (EdgeOk q qs) (is_expression sh) _ _ (ends-joins (operator t.kind Fix.Infix) q e, j) tt
ends-edges Wait.Factor q sh qs e j = edge-if (EdgeOk q qs) (is_expression sh) _ _ (ends-joins product q e, j) tt
ends-edges Wait.BoundSet q sh qs e j = set-ends (meets (Operator Op.In Fix.Infix) q) _ e
ends-edges Wait.TupleBoundSet q sh qs e j = set-ends (meets (Operator Op.In Fix.Infix) q) _ e
ends-edges (Wait.Handing Handed.Segment t) q Shape.Helper qs e j = tt
ends-edges (Wait.Handing Handed.Segment t) q _ qs e j = tt
ends-edges (Wait.Handing Handed.Definition t) q sh qs e j = cc
ends-edges Wait.SquareSubscript q sh qs e j = edge-if (EdgeOk q qs) (is_expression sh) _ _ tt tt
ends-edges Wait.AngleSubscript q sh qs e j = edge-if (EdgeOk q qs) (is_expression sh) _ _ tt tt
ends-edges _ q sh qs e j = cc

-- a list has no open edge, and an item is an expression
abbrev pub Shuts : Option Form → Type 0
Shuts (Some form) = right_mark form ≡ None
Shuts None = Unit {0}

pub list-shuts : (v : Wait) (first : Lexeme) (sh : Shape) → list_of v ≡ Some first → Shuts (finishes v sh)
list-shuts (Wait.ListFirst t) first sh e = edge-if Shuts (is_expression sh) _ _ refl tt
list-shuts (Wait.ListItem t) first sh e = edge-if Shuts (is_expression sh) _ _ refl tt
list-shuts _ first sh e = cc

pub list-part : (v : Wait) (first : Lexeme) (sh : Shape) → list_of v ≡ Some first → is_expression sh ≡ false → finishes v sh ≡ None
list-part (Wait.ListFirst t) first sh e k = rw k
list-part (Wait.ListItem t) first sh e k = rw k
list-part _ first sh e k = cc

-- where an operator waits an operand is due
pub waits-operand : (v : Wait) (q : Edge) → choice v q ≡ Choice.Waits → mode v ≡ Mode.Operand
waits-operand Wait.SquareSubscript q e = cc
waits-operand Wait.AngleSubscript q e = cc
waits-operand (Wait.Handing Handed.Segment t) q e = cc
waits-operand (Wait.Handing Handed.Definition t) q e = cc
waits-operand (Wait.PrefixOperand t) q e = refl
waits-operand (Wait.InfixOperand t) q e = refl
waits-operand Wait.Factor q e = refl
waits-operand Wait.BoundSet q e = refl
waits-operand Wait.TupleBoundSet q e = refl
waits-operand _ q e = cc

-- what stands on a right edge
abbrev IsRight : Edge → Type 0
IsRight (Operator op Fix.Prefix) = Unit {0}
IsRight (Operator op Fix.Infix) = Unit {0}
IsRight (Operator op Fix.Postfix) = ⊥
IsRight Open = Unit {0}
IsRight Applied = ⊥
IsRight Selected = ⊥

right-operator : (k : LexKind) → IsRight (operator k Fix.Infix)
right-operator (LexKind.Sym op) = tt
right-operator _ = tt

right-prefix : (k : LexKind) → IsRight (operator k Fix.Prefix)
right-prefix (LexKind.Sym op) = tt
right-prefix _ = tt

abbrev AreRight : List Edge → Type 0
AreRight qs = AllByRecursion IsRight qs

right-beside : (form : Form) (qs : List Edge) → AreRight qs → AreRight (beside (right_mark form) qs)
right-beside (Form.Prefix t) qs h = (right-prefix t.kind, h)
right-beside (Form.Infix t) qs h = (right-operator t.kind, h)
right-beside Form.Product qs h = (tt, h)
right-beside (Form.Quantifier q) qs h = (tt, h)
right-beside (Form.BoundedQuantifier q) qs h = (tt, h)
right-beside (Form.TemporalQuantifier q) qs h = (tt, h)
right-beside Form.Choose qs h = (tt, h)
right-beside Form.BoundedChoose qs h = (tt, h)
right-beside Form.IfThenElse qs h = (tt, h)
right-beside Form.Case qs h = (tt, h)
right-beside Form.Arm qs h = (tt, h)
right-beside Form.OtherArm qs h = (tt, h)
right-beside Form.Let qs h = (tt, h)
right-beside Form.Lambda qs h = (tt, h)
right-beside _ qs h = tt

mutual
  right-edges : (x : Tree) → AreRight (right_edge x)
  right-edges (Node f s ps) = right-beside f (right_edge_of_last ps) (right-last ps)

  right-last : (xs : Trees) → AreRight (right_edge_of_last xs)
  right-last Nil = tt
  right-last (Cons x Nil) = right-edges x
  right-last (Cons x (Cons y ys)) = right-last (Cons y ys)

prefix-low : (op : Op) → lo (Operator op Fix.Prefix) ≤ 14
prefix-low Op.Not = omega arith
prefix-low _ = omega arith

infix-low : (op : Op) → lo (Operator op Fix.Infix) ≤ 14
infix-low Op.Not = omega arith
infix-low _ = omega arith

postfix-high : (op : Op) → Applies op Fix.Postfix → 15 ≤ hi (Operator op Fix.Postfix)
postfix-high Op.Prime h = omega arith
postfix-high Op.PlusClosure h = omega arith
postfix-high Op.StarClosure h = omega arith
postfix-high Op.SharpClosure h = omega arith
postfix-high _ h = cc

right-low : (r : Edge) → IsRight r → lo r ≤ 14
right-low (Operator op Fix.Prefix) h = prefix-low op
right-low (Operator op Fix.Infix) h = infix-low op
right-low (Operator op Fix.Postfix) h = absurd h
right-low Open h = omega arith
right-low Applied h = absurd h
right-low Selected h = absurd h

-- nothing on a right edge stands below an operator that binds this strongly
no-edge : (q : Edge) → 15 ≤ hi q → (IsRight q → ⊥) → (qs : List Edge) → AreRight qs → AllJoin q qs → qs ≡ []
no-edge q h n [] r j = refl
no-edge q h n (e ∷ qs) r j = by j.0
  where
    by : Joins q e → e ∷ qs ≡ []
    by (inl k) = absurd (omega (arith, h, k, right-low e r.0))
    by (inr k) = absurd (n (subst IsRight k.0 r.0))

pub no-right-edge : (q : Edge) → 15 ≤ hi q → (IsRight q → ⊥) → (x : Tree) → AllJoin q (right_edge x) → right_edge x ≡ []
no-right-edge q h n x j = no-edge q h n (right_edge x) (right-edges x) j

-- what a lexeme is that has a role
role-of-symbol : (op op' : Op) (fix : Fix) → role_of op ≡ Role.Symbol op' fix → (op ≡ op') × Applies op fix
role-of-symbol op op' fix e = by (is_some (range_of op Fix.Infix)) (is_some (range_of op Fix.Postfix)) refl refl e
  where
    by : (b c : Bool) → is_some (range_of op Fix.Infix) ≡ b → is_some (range_of op Fix.Postfix) ≡ c → cond b (Role.Symbol op Fix.Infix) (cond c (Role.Symbol op Fix.Postfix) Role.Mark) ≡ Role.Symbol op' fix → (op ≡ op') × Applies op fix
    by true c f g k = let z : Fix.Infix ≡ fix = cc in (cc, subst (λ y. Applies op y) z f)
    by false true f g k = let z : Fix.Postfix ≡ fix = cc in (cc, subst (λ y. Applies op y) z g)
    by false false f g k = cc

role-of-other : (op : Op) (P : Type 0) → role_of op ≡ Role.Apply → P
role-of-other op P e = by (is_some (range_of op Fix.Infix)) (is_some (range_of op Fix.Postfix)) e
  where
    by : (b c : Bool) → cond b (Role.Symbol op Fix.Infix) (cond c (Role.Symbol op Fix.Postfix) Role.Mark) ≡ Role.Apply → P
    by true c k = cc
    by false true k = cc
    by false false k = cc

role-of-select : (op : Op) (P : Type 0) → role_of op ≡ Role.Select → P
role-of-select op P e = by (is_some (range_of op Fix.Infix)) (is_some (range_of op Fix.Postfix)) e
  where
    by : (b c : Bool) → cond b (Role.Symbol op Fix.Infix) (cond c (Role.Symbol op Fix.Postfix) Role.Mark) ≡ Role.Select → P
    by true c k = cc
    by false true k = cc
    by false false k = cc

pub role-symbol : (k : LexKind) (op : Op) (fix : Fix) → role k ≡ Role.Symbol op fix → (k ≡ LexKind.Sym op) × Applies op fix
role-symbol (LexKind.Sym o) op fix e = let q : (o ≡ op) × Applies o fix = role-of-symbol o op fix e in (ap LexKind.Sym q.0, subst (λ z. Applies z fix) q.0 q.1)
role-symbol (LexKind.Mark Mark.LeftBracket) op fix e = cc
role-symbol (LexKind.Mark Mark.Dot) op fix e = cc
role-symbol _ op fix e = cc

role-apply : (k : LexKind) → role k ≡ Role.Apply → k ≡ LexKind.Mark Mark.LeftBracket
role-apply (LexKind.Sym o) e = role-of-other o _ e
role-apply (LexKind.Mark Mark.LeftBracket) e = refl
role-apply (LexKind.Mark Mark.Dot) e = cc
role-apply _ e = cc

role-select : (k : LexKind) → role k ≡ Role.Select → k ≡ LexKind.Mark Mark.Dot
role-select (LexKind.Sym o) e = role-of-select o _ e
role-select (LexKind.Mark Mark.LeftBracket) e = cc
role-select (LexKind.Mark Mark.Dot) e = refl
role-select _ e = cc

-- what an operator makes of the operand before it
abbrev pub LeadOk : Wait → ℕ → Tree → List Lexeme → Lexeme → Lead → Type 0
LeadOk v i x b t (Lead.Push u) = HasRead v i u (x ∷ []) (b ++ t ∷ []) × (promised u ≡ [])
LeadOk v i x b t (Lead.Node form) = Shut v (built form (one x) (b ++ t ∷ [])) (b ++ t ∷ []) i
LeadOk v i x b t Lead.NoLead = Unit {0}

infix-sound : (v : Wait) (i : ℕ) (x : Tree) (b : List Lexeme) (t : Lexeme) (op : Op) → mode v ≡ Mode.Operand → IsSymbol t op → Applies op Fix.Infix → AllJoin (Operator op Fix.Infix) (right_edge x) → AllFit v (Operator op Fix.Infix ∷ left_edge x) → Derives x b i (Some t) → LeadOk v i x b t (lead_infix op t)
infix-sound v i x b t Op.Product m k h j f d = (factor [] m k j f d (λ o xs c r. r), refl)
infix-sound v i x b t _ m k h j f d = (infix_operand m k h refl j f d, refl)

pub lead-sound : (v : Wait) (i : ℕ) (x : Tree) (b : List Lexeme) (t : Lexeme) (r : Role) → role t.kind ≡ r → choice v (edge_of r) ≡ Choice.Waits → AllJoin (edge_of r) (right_edge x) → AllFit v (left_edge x) → Derives x b i (Some t) → LeadOk v i x b t (lead r t)
lead-sound v i x b t (Role.Symbol op Fix.Infix) e c j f d =
    let q : (t.kind ≡ LexKind.Sym op) × Applies op Fix.Infix = role-symbol t.kind op Fix.Infix e in
    infix-sound v i x b t op (waits-operand v (Operator op Fix.Infix) c) q.0 q.1 j (c, f) d
lead-sound v i x b t (Role.Symbol op Fix.Postfix) e c j f d =
    let q : (t.kind ≡ LexKind.Sym op) × Applies op Fix.Postfix = role-symbol t.kind op Fix.Postfix e in
    let m : mode v ≡ Mode.Operand = waits-operand v (Operator op Fix.Postfix) c in
    let r : right_edge x ≡ [] = no-right-edge (Operator op Fix.Postfix) (postfix-high op q.1) (λ z. z) x j in
    let g : AllFit v (operator t.kind Fix.Postfix ∷ left_edge x) = subst (λ z. AllFit v (z ∷ left_edge x)) (sym (ap (λ z. operator z Fix.Postfix) q.0)) (c, f) in
    (λ o. expression (node (postfixed t q.0 q.1 r d)) g (operand-due v m) (not-subscript _ v m), refl)
lead-sound v i x b t (Role.Symbol op Fix.Prefix) e c j f d = tt
lead-sound v i x b t Role.Apply e c j f d =
    (application_argument [] (waits-operand v Applied c) (c, f) (role-apply t.kind e) (no-right-edge Applied (omega arith) (λ z. z) x j) d (λ o xs z r. r), refl)
lead-sound v i x b t Role.Select e c j f d =
    (field_name (waits-operand v Selected c) (c, f) (role-select t.kind e) (no-right-edge Selected (omega arith) (λ z. z) x j) d, refl)
lead-sound v i x b t Role.Mark e c j f d = tt

-- one factor more
takes-product : (r : Role) → takes Wait.Factor r ≡ true → r ≡ Role.Symbol Op.Product Fix.Infix
takes-product (Role.Symbol Op.Product Fix.Infix) e = refl
takes-product _ e = cc

pub factor-sound : (w : Wait) (i : ℕ) (v : Wait) (ps : List Tree) (a : List Lexeme) → HasRead w i v ps a → (x : Tree) (b : List Lexeme) (t : Lexeme) → takes v (role t.kind) ≡ true → AllJoin (edge_of (role t.kind)) (right_edge x) → AllFit v (left_edge x) → Derives x b (inside v i) (Some t) → HasRead w i Wait.Factor (ps ++ x ∷ []) (a ++ (b ++ t ∷ []))
factor-sound w i v ps a (factor {t = u} {x = y} {b = c} {ps = qs} l m k j g d' h) x b t e s f d =
    let q : role t.kind ≡ Role.Symbol Op.Product Fix.Infix = takes-product (role t.kind) e in
    let r : (t.kind ≡ LexKind.Sym Op.Product) × Applies Op.Product Fix.Infix = role-symbol t.kind Op.Product Fix.Infix q in
    let z : AllJoin product (right_edge x) = subst (λ y. AllJoin (edge_of y) (right_edge x)) q s in
    reread (c ++ u ∷ (l ++ (b ++ t ∷ []))) ((c ++ u ∷ l) ++ (b ++ t ∷ [])) (sym (append_assoc c (u ∷ l) (b ++ t ∷ [])))
    (factor (l ++ (b ++ t ∷ [])) m k j g d' (λ o. adds-mark (λ xs n. DerivesFactors xs n i o) qs l x b t (h o) (λ xs n p. more_factors t r.0 (factor-meets (left_edge x) f) z d p)))
factor-sound w i v ps a _ x b t e s f d = cc
