-- What the tables derive: the same as the grammar, told frame by frame.
--
-- A part stands under the wait of the frame that it is for. What ends before a lexeme says why it ends there.
use Rattle.std.specs.Prelude.{◌≡◌, ℕ, suc, ◌<◌, ◌≤◌, Bool, true, false, List, [], ◌∷◌, ◌++◌, Option, Some, None}
use Rattle.tla_symbols.specs.declared.lexeme.Lexeme.{Lexeme}
use Rattle.tla_tree.specs.declared.form.Form.{Form}
use Rattle.tla_tree.specs.Syntax.{Tree, Nil, trees}
use Rattle.tla_tree.specs.Lexemes.{built, one}
use Rattle.expr_grammar.specs.declared.wait.Binding.TheVariants as Binding
use Rattle.expr_grammar.specs.declared.wait.Wait.{Wait}
use Rattle.expr_grammar.specs.declared.wait.Start.{Start}
use Rattle.expr_grammar.specs.declared.wait.MarkMove.{MarkMove}
use Rattle.expr_grammar.specs.declared.wait.PartMove.{PartMove}
use Rattle.expr_grammar.specs.declared.wait.Lead.{Lead}
use Rattle.precedence.specs.declared.Choice.TheVariants as Choice
use Rattle.expr_grammar.specs.declared.wait.Conversion.{Conversion}
use Rattle.expr_grammar.specs.declared.wait.Handed.{Handed}
use Rattle.tla_tree.specs.Alignment.{From}
use Rattle.expr_grammar.specs.Tables.{mode, Child, child, list_of, goes_on, begins, at_mark, endable, absorbs, role, edge_of, lead, takes, choice, shape, is_expression, name_of, converted, finishes, at_part}
use Rattle.expr_grammar.specs.Machine.{inside, is_operator}

-- the lexeme that a frame has seen and handed to its part
abbrev pub promised : Wait → List Lexeme
promised (Wait.Handing h t) = t ∷ []
promised _ = []

abbrev pub IsNoBullet : Option Lexeme → Lexeme → Type 0
IsNoBullet None n = Unit {0}
IsNoBullet (Some first) n = goes_on first n ≡ false

-- a list stands inside the items of those that hold it, and the lexemes of an item right of its bullet
abbrev pub InItem : Option Lexeme → ℕ → List Lexeme → Type 0
InItem None i b = Unit {0}
InItem (Some first) i b = (i ≤ first.col) × From (suc first.col) b

pub item-in : (l : Option Lexeme) (first : Lexeme) (i : ℕ) (a : List Lexeme) → l ≡ Some first → i ≤ first.col → From (suc first.col) a → InItem l i a
item-in l first i a e h f = rw e (h, f)

abbrev pub IsPlain : Wait → Type 0
IsPlain v = (list_of v ≡ None) × (absorbs v ≡ None)

-- why a frame with a last part ends before the lexeme that follows
pub data Ends (w : Wait) (x : Tree) (i : ℕ) (form : Form) : Option Lexeme → Type 0 where
  at_end : finishes w (shape x) ≡ Some form → Ends w x i form None
  by_column : {n : Lexeme} → finishes w (shape x) ≡ Some form → n.col < inside w i → IsNoBullet (list_of w) n → Ends w x i form (Some n)
  by_mark : {n : Lexeme} → inside w i ≤ n.col → is_operator (role n.kind) ≡ false → at_part w (shape x) n ≡ PartMove.Finish form → Ends w x i form (Some n)
  by_operator : {n : Lexeme} → inside w i ≤ n.col → is_operator (role n.kind) ≡ true → takes w (role n.kind) ≡ false → choice w (edge_of (role n.kind)) ≡ Choice.Ends → finishes w (shape x) ≡ Some form → Ends w x i form (Some n)

-- and one with no part to come
pub data EndsHead (w : Wait) (i : ℕ) (form : Form) : Option Lexeme → Type 0 where
  head_at_end : endable w None ≡ Some form → EndsHead w i form None
  head_by_column : {n : Lexeme} → endable w (Some n.kind) ≡ Some form → n.col < inside w i → EndsHead w i form (Some n)
  head_by_mark : {n : Lexeme} → inside w i ≤ n.col → begins (mode w) n ≡ Start.NoStart → at_mark w n ≡ MarkMove.Refused → endable w (Some n.kind) ≡ Some form → EndsHead w i form (Some n)

mutual
  -- a part under a wait, inside the lists before a column, before a lexeme
  pub data Part : Wait → Tree → List Lexeme → ℕ → Option Lexeme → Type 0 where
    closed : {w : Wait} {x : Tree} {a : List Lexeme} {i : ℕ} {o : Option Lexeme} → Closed w x a i → Part w x a i o
    headed : {w v : Wait} {ps : List Tree} {a : List Lexeme} {i : ℕ} {o : Option Lexeme} (form : Form)
        → Begun w v ps a i → EndsHead v i form o
        → Part w (built form (trees ps) a) a i o
    finished : {w v : Wait} {x : Tree} {ps : List Tree} {a b : List Lexeme} {i : ℕ} {o : Option Lexeme} (form : Form)
        → Begun w v ps a i → Part v x b (inside v i) o → InItem (list_of v) i b → absorbs v ≡ None → Ends v x i form o
        → Part w (built form (trees (ps ++ x ∷ [])) (a ++ b)) (a ++ b) i o

  -- a part that ends with a lexeme of its own
  pub data Closed : Wait → Tree → List Lexeme → ℕ → Type 0 where
    leaf : {w : Wait} {t : Lexeme} {i : ℕ} (form : Form) → begins (mode w) t ≡ Start.Leaf form → Closed w (built form Nil (t ∷ [])) (t ∷ []) i
    close : {w v : Wait} {ps : List Tree} {a : List Lexeme} {i : ℕ} (t : Lexeme) (form : Form)
        → Begun w v ps a i → begins (mode v) t ≡ Start.NoStart → at_mark v t ≡ MarkMove.Close form → list_of v ≡ None
        → Closed w (built form (trees ps) (a ++ t ∷ [])) (a ++ t ∷ []) i
    done : {w v : Wait} {x : Tree} {ps : List Tree} {a b : List Lexeme} {i : ℕ} (t : Lexeme) (form : Form) (c : Conversion)
        → Begun w v ps a i → Part v x b (inside v i) (Some t) → is_operator (role t.kind) ≡ false
        → at_part v (shape x) t ≡ PartMove.Done form c → IsPlain v
        → Closed w (built form (trees (ps ++ converted c x b)) (a ++ (b ++ t ∷ []))) (a ++ (b ++ t ∷ [])) i
    led_node : {w : Wait} {x : Tree} {b : List Lexeme} {i : ℕ} (t : Lexeme) (form : Form)
        → Part w x b i (Some t) → is_operator (role t.kind) ≡ true → takes w (role t.kind) ≡ false → absorbs w ≡ None
        → choice w (edge_of (role t.kind)) ≡ Choice.Waits → is_expression (shape x) ≡ true → lead (role t.kind) t ≡ Lead.Node form
        → Closed w (built form (one x) (b ++ t ∷ [])) (b ++ t ∷ []) i

  -- a frame under the wait of the one below it, with its own wait and what it has read
  pub data Begun : Wait → Wait → List Tree → List Lexeme → ℕ → Type 0 where
    pushed : {w v : Wait} {t : Lexeme} {i : ℕ} → begins (mode w) t ≡ Start.Push v → promised v ≡ [] → Begun w v [] (t ∷ []) i
    pushed_leaf : {w v : Wait} {t : Lexeme} {i : ℕ} (form : Form) → begins (mode w) t ≡ Start.PushLeaf form v → promised v ≡ [] → Begun w v (built form Nil (t ∷ []) ∷ []) (t ∷ []) i
    pushed_hand : {w : Wait} {i : ℕ} (t : Lexeme) (h : Handed) → begins (mode w) t ≡ Start.Hand h → Begun w (Wait.Handing h t) [] [] i
    pushed_mark : {w v : Wait} {t : Lexeme} {i : ℕ} → begins (mode w) t ≡ Start.NoStart → at_mark w t ≡ MarkMove.Push v → promised v ≡ [] → Begun w v [] (t ∷ []) i
    fresh_child : {w : Wait} {i : ℕ} (c : Child) → child w ≡ Some c → Begun w c.wait [] c.read i
    led_push : {w v : Wait} {x : Tree} {b : List Lexeme} {i : ℕ} (t : Lexeme)
        → Part w x b i (Some t) → is_operator (role t.kind) ≡ true → takes w (role t.kind) ≡ false → absorbs w ≡ None
        → choice w (edge_of (role t.kind)) ≡ Choice.Waits → is_expression (shape x) ≡ true → lead (role t.kind) t ≡ Lead.Push v → promised v ≡ []
        → Begun w v (x ∷ []) (b ++ t ∷ []) i
    shifted : {w v u : Wait} {ps : List Tree} {a : List Lexeme} {i : ℕ} (t : Lexeme)
        → Begun w v ps a i → begins (mode v) t ≡ Start.NoStart → at_mark v t ≡ MarkMove.Shift u → list_of v ≡ None → promised u ≡ []
        → Begun w u ps (a ++ t ∷ []) i
    leafed : {w v u : Wait} {ps : List Tree} {a : List Lexeme} {i : ℕ} (t : Lexeme) (form : Form)
        → Begun w v ps a i → begins (mode v) t ≡ Start.NoStart → at_mark v t ≡ MarkMove.Leaf form u → list_of v ≡ None → promised u ≡ []
        → Begun w u (ps ++ built form Nil (t ∷ []) ∷ []) (a ++ t ∷ []) i
    leafed_of : {w v u : Wait} {ps : List Tree} {a : List Lexeme} {i : ℕ} (t n : Lexeme) (form : Form)
        → Begun w v ps a i → begins (mode v) t ≡ Start.NoStart → at_mark v t ≡ MarkMove.LeafOf form n u → list_of v ≡ None → promised u ≡ []
        → Begun w u (ps ++ built form Nil (n ∷ []) ∷ []) (a ++ t ∷ []) i
    handed_mark : {w v : Wait} {ps : List Tree} {a : List Lexeme} {i : ℕ} (t : Lexeme) (h : Handed)
        → Begun w v ps a i → begins (mode v) t ≡ Start.NoStart → at_mark v t ≡ MarkMove.Hand h → list_of v ≡ None
        → Begun w (Wait.Handing h t) ps a i
    went : {w v u : Wait} {x : Tree} {ps : List Tree} {a b : List Lexeme} {i : ℕ} (t : Lexeme) (c : Conversion)
        → Begun w v ps a i → Part v x b (inside v i) (Some t) → is_operator (role t.kind) ≡ false
        → at_part v (shape x) t ≡ PartMove.Goes u c → IsPlain v → promised u ≡ []
        → Begun w u (ps ++ converted c x b) (a ++ (b ++ t ∷ [])) i
    handed_part : {w v : Wait} {x : Tree} {ps : List Tree} {a b : List Lexeme} {i : ℕ} (t : Lexeme) (h : Handed)
        → Begun w v ps a i → Part v x b (inside v i) (Some t) → is_operator (role t.kind) ≡ false
        → at_part v (shape x) t ≡ PartMove.Hand h → IsPlain v
        → Begun w (Wait.Handing h t) (ps ++ x ∷ []) (a ++ b) i
    absorbed_part : {w v u : Wait} {x : Tree} {ps : List Tree} {a b : List Lexeme} {i : ℕ}
        → Begun w v ps a i → Closed v x b (inside v i) → absorbs v ≡ Some u → list_of v ≡ None
        → Begun w u (ps ++ x ∷ []) (a ++ b) i
    next_item : {w v : Wait} {x : Tree} {ps : List Tree} {a b : List Lexeme} {i : ℕ} (first n : Lexeme)
        → Begun w v ps a i → list_of v ≡ Some first → Part v x b (inside v i) (Some n) → i ≤ first.col → From (suc first.col) b → absorbs v ≡ None → is_expression (shape x) ≡ true
        → goes_on first n ≡ true → n.col ≡ first.col
        → Begun w (Wait.ListItem first) (ps ++ x ∷ []) (a ++ (b ++ n ∷ [])) i
    next_factor : {w v : Wait} {x : Tree} {ps : List Tree} {a b : List Lexeme} {i : ℕ} (t : Lexeme)
        → Begun w v ps a i → Part v x b (inside v i) (Some t) → is_operator (role t.kind) ≡ true → takes v (role t.kind) ≡ true → is_expression (shape x) ≡ true → IsPlain v
        → Begun w Wait.Factor (ps ++ x ∷ []) (a ++ (b ++ t ∷ [])) i
    -- the operand that turned out to begin the bounds of a function
    converting : {w : Wait} {ps : List Tree} {a : List Lexeme} {i : ℕ} (flag : Bool)
        → Begun w (Wait.SquareFirst flag) ps a i
        → Begun w (Wait.FunctionNames flag) ps a i
    converted_part : {x : Tree} {b : List Lexeme} {i : ℕ} (t : Lexeme) (flag : Bool)
        → Part (Wait.SquareFirst flag) x b i (Some t) → is_operator (role t.kind) ≡ false → at_part (Wait.SquareFirst flag) (shape x) t ≡ PartMove.Convert flag
        → Begun (Wait.FunctionNames flag) (Wait.BindingComma Binding.Bound) (name_of x ∷ []) (b ++ t ∷ []) i
