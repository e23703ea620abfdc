-- Subscripts, bare symbols and items of lists.
use Rattle.std.proofs.Common.{◌≡◌, ℕ, suc, ◌<◌, ◌≤◌, ◌⊎◌, inl, inr, Bool, true, false, List, [], ◌∷◌, ◌++◌, Option, Some, None, refl, ap, sym, subst, ◌∙◌, append_assoc, arith}
use Rattle.std.specs.Prelude.{nat_lt, IsTrue, is_some}
use Rattle.std.proofs.lemmas.Bool.Decides.{nat_tests}
use Rattle.tla_symbols.specs.declared.op.Op.{Op}
use Rattle.tla_symbols.specs.declared.place.Fix.{Fix}
use Rattle.tla_symbols.specs.declared.lexeme.Word.TheVariants as Word
use Rattle.tla_symbols.specs.declared.lexeme.Mark.{Mark}
use Rattle.tla_symbols.specs.declared.lexeme.Lexeme.{Lexeme}
use Rattle.tla_symbols.specs.Symbols.{range_of}
use Rattle.tla_tree.specs.declared.form.Form.{Form}
use Rattle.tla_tree.specs.Syntax.{Tree, Trees, Node, Cons, trees}
use Rattle.tla_tree.specs.Edges.{Edge, AllJoin, right_edge, right_edge_of_last, left_edge}
use Rattle.tla_tree.specs.Alignment.{IsBullet, GoesOn, MayFollow}
use Rattle.tla_tree.specs.Shapes.{IsSubscript}
use Rattle.tla_tree.specs.Lexemes.{IsWord, IsMark, IsSymbol, is_passed, built, one, joined}
use Rattle.tla_tree.specs.Derivation.{DerivesArms, last_arm, other_arm, more_arms, DerivesItems, last_item, more_items}
use Rattle.expr_grammar.specs.declared.wait.Handed.TheVariants as Handed
use Rattle.expr_grammar.specs.declared.wait.Wait.{Wait}
use Rattle.expr_grammar.specs.declared.wait.Mode.TheVariants as Mode
use Rattle.expr_grammar.specs.declared.wait.Start.{Start}
use Rattle.expr_grammar.specs.declared.wait.MarkMove.TheVariants as MarkMove
use Rattle.expr_grammar.specs.declared.wait.Conversion.TheVariants as Conversion
use Rattle.expr_grammar.specs.declared.wait.PartMove.{PartMove}
use Rattle.expr_grammar.specs.declared.wait.Shape.{Shape}
use Rattle.expr_grammar.specs.Kinds.{is_comma, is_maps_to, is_colon}
use Rattle.expr_grammar.specs.Tables.{mode, list_of, is_bullet, begins, at_mark, endable, role, edge_of, shape, is_expression, at_part}
use Rattle.expr_grammar.specs.Machine.{inside, is_operator}
use Rattle.expr_laws.proofs.Tabled.{EndsHead, head_by_column, head_by_mark, Part, headed, Closed, close, done, Begun, pushed, shifted, leafed, went}
use Rattle.expr_laws.proofs.Asking.{continues, Follows, AllFit, absurd-bool}
use Rattle.expr_laws.proofs.Starting.{start-at, mark-role, trees-snoc, renamed-closed, symbol-leaf}
use Rattle.expr_laws.proofs.Bounding.{in-square, square-move}
use Rattle.expr_laws.proofs.Naming.{NoMore, operator-takes, items-deep}

pub square-action : (w : Wait) (t : Lexeme) → mode w ≡ Mode.Operand → IsMark t Mark.LeftBracket → begins (mode w) t ≡ Start.Push (Wait.SquareFirst true)
square-action w t h e = rw (h, e)

pub angle-action : (w : Wait) (t : Lexeme) → mode w ≡ Mode.Operand → IsMark t Mark.LeftAngle → begins (mode w) t ≡ Start.Push (Wait.AngleFirst true)
angle-action w t h e = rw (h, e)

pub fairness-start : (w : Wait) (t : Lexeme) → mode w ≡ Mode.Operand → IsWord t Word.WeakFair ⊎ IsWord t Word.StrongFair → begins (mode w) t ≡ Start.Push (Wait.FairSubscript t)
fairness-start w t h (inl e) = rw (h, e)
fairness-start w t h (inr e) = rw (h, e)

pub square-subscript : (x : Tree) (u : Lexeme) → is_expression (shape x) ≡ true → IsMark u Mark.RightBracketSubscript → at_part (Wait.SquareFirst true) (shape x) u ≡ PartMove.Goes Wait.SquareSubscript Conversion.Keep
square-subscript x u s l = square-move true x u _ s (in-square true (shape x) u (ap is_comma l) (ap is_maps_to l) (ap is_colon l) ∙ rw l)

pub no-edges : (x : Tree) → IsSubscript x → (left_edge x ≡ []) × (right_edge x ≡ [])
no-edges (Node Form.Identifier s ps) h = (refl, refl)
no-edges (Node Form.Tuple s ps) h = (refl, refl)
no-edges (Node Form.Parentheses s ps) h = (refl, refl)
no-edges (Node Form.SetEnumeration s ps) h = (refl, refl)
no-edges (Node Form.SetFilter s ps) h = (refl, refl)
no-edges (Node Form.SetImage s ps) h = (refl, refl)
no-edges (Node Form.FunctionConstructor s ps) h = (refl, refl)
no-edges (Node Form.FunctionSet s ps) h = (refl, refl)
no-edges (Node Form.Record s ps) h = (refl, refl)
no-edges (Node Form.RecordSet s ps) h = (refl, refl)
no-edges (Node Form.Except s ps) h = (refl, refl)
no-edges (Node _ s ps) h = absurd h

pub no-left : (x : Tree) → IsSubscript x → (w : Wait) → AllFit w (left_edge x)
no-left x h w = subst (λ z. AllFit w z) (sym (no-edges x h).0) tt

pub path-goes : (n : Lexeme) (x : Tree) (t : Lexeme) → shape x ≡ Shape.Helper → IsMark t Mark.Bang → at_part (Wait.Handing Handed.Segment n) (shape x) t ≡ PartMove.Goes Wait.IdentifierBang Conversion.Keep
path-goes n x t e k = rw (e, k)

pub last-arms : {xs : Trees} {a : List Lexeme} {i : ℕ} {o : Option Lexeme} → DerivesArms xs a i o → (x : Tree) → right_edge_of_last (Cons x xs) ≡ right_edge_of_last xs
last-arms (last_arm d m) x = refl
last-arms (other_arm k l d) x = refl
last-arms (more_arms t k d rest) x = refl

pub symbol-ends : (v : Wait) (s u : Lexeme) (i : ℕ) → mode v ≡ Mode.Operand → at_mark v u ≡ MarkMove.Refused → endable v (Some u.kind) ≡ Some (Form.Symbol s) → begins Mode.Operand u ≡ Start.NoStart → EndsHead v i (Form.Symbol s) (Some u)
symbol-ends v s u i m r e n = by-column (nat_lt u.col (inside v i)) refl
  where
    by-column : (b : Bool) → nat_lt u.col (inside v i) ≡ b → EndsHead v i (Form.Symbol s) (Some u)
    by-column true k = head_by_column e (grind (arith, nat_tests))
    by-column false k = head_by_mark (grind (arith, nat_tests)) (ap (λ z. begins z u) m ∙ n) r e

-- a bare symbol under an argument's wait: what begins with it, or nothing
pub data Passing (n s : Lexeme) : Type 0 where
  as_list : begins (mode (Wait.Argument n)) s ≡ Start.Push (Wait.ListFirst s) → Passing n s
  as_prefix : begins (mode (Wait.Argument n)) s ≡ Start.Push (Wait.PrefixOperand s) → Passing n s
  as_symbol : begins (mode (Wait.Argument n)) s ≡ Start.NoStart → Passing n s

pub passing : (n s : Lexeme) (op : Op) → IsSymbol s op → Passing n s
passing n s op k = by (is_bullet s) (is_some (range_of op Fix.Prefix)) refl refl
  where
    by : (b c : Bool) → is_bullet s ≡ b → is_some (range_of op Fix.Prefix) ≡ c → Passing n s
    by true c e f = as_list (start-at (Wait.Argument n) s _ refl k ∙ rw e)
    by false true e f = as_prefix (start-at (Wait.Argument n) s _ refl k ∙ rw (e, f))
    by false false e f = as_symbol (start-at (Wait.Argument n) s _ refl k ∙ rw (e, f))

pub list-symbol : (n s u : Lexeme) (i : ℕ) → begins (mode (Wait.Argument n)) s ≡ Start.Push (Wait.ListFirst s) → IsMark u Mark.Comma ⊎ IsMark u Mark.RightParen → Part (Wait.Argument n) (symbol-leaf s) (s ∷ []) i (Some u)
list-symbol n s u i b (inl k) = headed (Form.Symbol s) (pushed b refl) (symbol-ends (Wait.ListFirst s) s u i refl refl (rw k) (rw k))
list-symbol n s u i b (inr k) = headed (Form.Symbol s) (pushed b refl) (symbol-ends (Wait.ListFirst s) s u i refl refl (rw k) (rw k))

pub prefix-symbol : (n s u : Lexeme) (i : ℕ) → begins (mode (Wait.Argument n)) s ≡ Start.Push (Wait.PrefixOperand s) → IsMark u Mark.Comma ⊎ IsMark u Mark.RightParen → Part (Wait.Argument n) (symbol-leaf s) (s ∷ []) i (Some u)
prefix-symbol n s u i b (inl k) = headed (Form.Symbol s) (pushed b refl) (symbol-ends (Wait.PrefixOperand s) s u i refl refl (rw k) (rw k))
prefix-symbol n s u i b (inr k) = headed (Form.Symbol s) (pushed b refl) (symbol-ends (Wait.PrefixOperand s) s u i refl refl (rw k) (rw k))

pub symbol-last : (n s u : Lexeme) (op : Op) (i : ℕ) (ps : List Tree) (c : List Lexeme) → IsSymbol s op → IsTrue (is_passed op) → IsMark u Mark.RightParen → Begun (Wait.Handing Handed.Segment n) (Wait.Argument n) ps c i → Closed (Wait.Handing Handed.Segment n) (built (Form.Segment n) (joined (trees ps) (one (symbol-leaf s))) (c ++ (s ∷ u ∷ []))) (c ++ (s ∷ u ∷ [])) i
symbol-last n s u op i ps c k h m b = by (passing n s op k)
  where
    with-part : Part (Wait.Argument n) (symbol-leaf s) (s ∷ []) i (Some u) → Closed (Wait.Handing Handed.Segment n) (built (Form.Segment n) (joined (trees ps) (one (symbol-leaf s))) (c ++ (s ∷ u ∷ []))) (c ++ (s ∷ u ∷ [])) i
    with-part d =
        renamed-closed _ _ _ _ _ (trees-snoc ps (symbol-leaf s)) refl
        (done u (Form.Segment n) Conversion.Keep b d (mark-role u _ m refl) (rw m) (refl, refl))

    by : Passing n s → Closed (Wait.Handing Handed.Segment n) (built (Form.Segment n) (joined (trees ps) (one (symbol-leaf s))) (c ++ (s ∷ u ∷ []))) (c ++ (s ∷ u ∷ [])) i
    by (as_list e) = with-part (list-symbol n s u i e (inr m))
    by (as_prefix e) = with-part (prefix-symbol n s u i e (inr m))
    by (as_symbol e) =
        let q : Begun (Wait.Handing Handed.Segment n) (Wait.ArgumentSymbol n) (ps ++ symbol-leaf s ∷ []) (c ++ s ∷ []) i = leafed s (Form.Symbol s) b e (rw (k, h)) refl refl in
        renamed-closed (Form.Segment n) (trees (ps ++ symbol-leaf s ∷ [])) (joined (trees ps) (one (symbol-leaf s))) ((c ++ s ∷ []) ++ u ∷ []) (c ++ (s ∷ u ∷ [])) (trees-snoc ps (symbol-leaf s)) (append_assoc c (s ∷ []) (u ∷ []))
        (close u (Form.Segment n) q refl (rw m) refl)

pub symbol-next : (n s t : Lexeme) (op : Op) (i : ℕ) (ps : List Tree) (c : List Lexeme) → IsSymbol s op → IsTrue (is_passed op) → IsMark t Mark.Comma → Begun (Wait.Handing Handed.Segment n) (Wait.Argument n) ps c i → Begun (Wait.Handing Handed.Segment n) (Wait.Argument n) (ps ++ symbol-leaf s ∷ []) (c ++ (s ∷ t ∷ [])) i
symbol-next n s t op i ps c k h m b = by (passing n s op k)
  where
    with-part : Part (Wait.Argument n) (symbol-leaf s) (s ∷ []) i (Some t) → Begun (Wait.Handing Handed.Segment n) (Wait.Argument n) (ps ++ symbol-leaf s ∷ []) (c ++ (s ∷ t ∷ [])) i
    with-part d = went t Conversion.Keep b d (mark-role t _ m refl) (rw m) (refl, refl) refl

    by : Passing n s → Begun (Wait.Handing Handed.Segment n) (Wait.Argument n) (ps ++ symbol-leaf s ∷ []) (c ++ (s ∷ t ∷ [])) i
    by (as_list e) = with-part (list-symbol n s t i e (inl m))
    by (as_prefix e) = with-part (prefix-symbol n s t i e (inl m))
    by (as_symbol e) =
        let q : Begun (Wait.Handing Handed.Segment n) (Wait.ArgumentSymbol n) (ps ++ symbol-leaf s ∷ []) (c ++ s ∷ []) i = leafed s (Form.Symbol s) b e (rw (k, h)) refl refl in
        subst (λ z. Begun (Wait.Handing Handed.Segment n) (Wait.Argument n) (ps ++ symbol-leaf s ∷ []) z i) (append_assoc c (s ∷ []) (t ∷ []))
        (shifted t q refl (rw m) refl refl)

pub item-part : (v : Wait) (first : Lexeme) (x : Tree) (a : List Lexeme) (i : ℕ) (o : Option Lexeme) → list_of v ≡ Some first → i ≤ first.col → Part v x a (suc first.col) o → Part v x a (inside v i) o
item-part v first x a i o l h d = let e : suc first.col ≡ inside v i = rw l (items-deep first i h) in subst (λ z. Part v x a z o) e d

pub item-follows : (first : Lexeme) (qs : List Edge) (o : Option Lexeme) → MayFollow first o → NoMore o → Follows (suc first.col) qs o
item-follows first qs None f m = tt
item-follows first qs (Some n) f m = (m, by (is_operator (role n.kind)) refl)
  where
    by : (b : Bool) → is_operator (role n.kind) ≡ b → (n.col < suc first.col) ⊎ (is_operator (role n.kind) ≡ true → AllJoin (edge_of (role n.kind)) qs)
    by true r = inl (let z : n.col ≤ first.col = f.1 (operator-takes n.kind r) in omega arith)
    by false r = inr (λ s. absurd-bool _ (is_operator (role n.kind)) s r)

pub items-first : {first : Lexeme} {xs : Trees} {l : List Lexeme} {o : Option Lexeme} → DerivesItems first xs l o → (u : Lexeme) (rest : List Lexeme) → l ≡ u ∷ rest → GoesOn first u
items-first {first = first} (last_item {t = t} g r d) u rest e = let q : t ≡ u = cc in subst (λ z. GoesOn first z) q g
items-first {first = first} (more_items {t = t} u' g r d d') u rest e = let q : t ≡ u = cc in subst (λ z. GoesOn first z) q g

pub bullet-continues : (u : Lexeme) → IsBullet u → continues u.kind ≡ false
bullet-continues u (inl k, e) = ap continues k
bullet-continues u (inr k, e) = ap continues k

pub item-spelled : (c : List Lexeme) (t : Lexeme) (a : List Lexeme) (u : Lexeme) → (c ++ t ∷ []) ++ (a ++ u ∷ []) ≡ (c ++ (t ∷ a)) ++ u ∷ []
item-spelled c t a u = simp append_assoc
