-- The machine reads what the tables derive.
use Rattle.std.proofs.Common.{◌≡◌, ℕ, suc, ◌<◌, ◌≤◌, Bool, true, false, List, [], ◌∷◌, ◌++◌, Option, Some, None, refl, ap, sym, subst, ◌∙◌, append_assoc, append-nil, arith}
use Rattle.std.specs.Prelude.{cond, nat_lt, max}
use Rattle.std.proofs.lemmas.Bool.Decides.{nat_tests}
use Rattle.tla_symbols.specs.declared.lexeme.Lexeme.{Lexeme}
use Rattle.tla_symbols.specs.declared.lexeme.LexKind.{LexKind}
use Rattle.tla_tree.specs.declared.form.Form.{Form}
use Rattle.tla_tree.specs.Syntax.{Tree, trees}
use Rattle.tla_tree.specs.Alignment.{From}
use Rattle.tla_tree.specs.Lexemes.{built}
use Rattle.precedence.specs.declared.Choice.TheVariants as Choice
use Rattle.expr_grammar.specs.declared.wait.Wait.{Wait}
use Rattle.expr_grammar.specs.declared.wait.Start.{Start}
use Rattle.expr_grammar.specs.declared.wait.MarkMove.{MarkMove}
use Rattle.expr_grammar.specs.declared.wait.Binding.TheVariants as Binding
use Rattle.expr_grammar.specs.declared.wait.Handed.TheVariants as Handed
use Rattle.expr_grammar.specs.Tables.{mode, Child, fresh, handed, child, list_of, goes_on, begins, at_mark, endable, absorbs, role, edge_of, lead, takes, choice, shape, is_expression, at_part}
use Rattle.expr_grammar.specs.Kinds.{is_name}
use Rattle.expr_grammar.specs.Machine.{Frame, frame, State, At, Have, inside, inside_list, inner, ready, complete, absorbed, begun, marked, moved, led, on_bullet, is_operator, operator_step, part_step, within, leave, have, step, run, node_with, close_all, finish, finish_due, parse, start}
use Rattle.expr_laws.proofs.Tabled.{Begun, Closed, Ends, EndsHead, InItem, IsNoBullet, Part, absorbed_part, at_end, by_column, by_mark, by_operator, close, closed, converted_part, converting, done, finished, fresh_child, handed_mark, handed_part, head_at_end, head_by_column, head_by_mark, headed, item-in, leaf, leafed, leafed_of, led_node, led_push, next_factor, next_item, promised, pushed, pushed_hand, pushed_leaf, pushed_mark, shifted, went}

-- whether a lexeme begins something, and whether it moves a frame
abbrev pub starts : Start → Bool
starts Start.NoStart = false
starts _ = true

abbrev pub moves : MarkMove → Bool
moves MarkMove.Refused = false
moves _ = true

-- a frame at which something begins or moves has no child that stands before it
pub ready-starts : (w : Wait) (t : Lexeme) (ps : List Tree) (a : List Lexeme) (fs : List Frame) → starts (begins (mode w) t) ≡ true → ready (frame w ps a ∷ fs) ≡ At (frame w ps a ∷ fs)
ready-starts Wait.WholeBounds t ps a fs h = cc
ready-starts (Wait.Handing k n) t ps a fs h = cc
ready-starts (Wait.QuantifierFirst q) t ps a fs h = cc
ready-starts (Wait.QuantifierNext q) t ps a fs h = cc
ready-starts (Wait.TemporalFirst q) t ps a fs h = cc
ready-starts Wait.ChooseFirst t ps a fs h = cc
ready-starts Wait.ImageBounds t ps a fs h = cc
ready-starts Wait.FunctionBounds t ps a fs h = cc
ready-starts (Wait.FunctionNames b) t ps a fs h = cc
ready-starts Wait.ExceptUpdates t ps a fs h = cc
ready-starts Wait.CaseArms t ps a fs h = cc
ready-starts (Wait.DefinitionParameters n) t ps a fs h = cc
ready-starts (Wait.FunctionHeadBounds n) t ps a fs h = cc
ready-starts (Wait.Replacements m) t ps a fs h = cc
ready-starts _ t ps a fs h = refl

pub ready-moves : (w : Wait) (t : Lexeme) (ps : List Tree) (a : List Lexeme) (fs : List Frame) → moves (at_mark w t) ≡ true → ready (frame w ps a ∷ fs) ≡ At (frame w ps a ∷ fs)
ready-moves Wait.WholeBounds t ps a fs h = cc
ready-moves (Wait.Handing k n) t ps a fs h = cc
ready-moves (Wait.QuantifierFirst q) t ps a fs h = cc
ready-moves (Wait.QuantifierNext q) t ps a fs h = cc
ready-moves (Wait.TemporalFirst q) t ps a fs h = cc
ready-moves Wait.ChooseFirst t ps a fs h = cc
ready-moves Wait.ImageBounds t ps a fs h = cc
ready-moves Wait.FunctionBounds t ps a fs h = cc
ready-moves (Wait.FunctionNames b) t ps a fs h = cc
ready-moves Wait.ExceptUpdates t ps a fs h = cc
ready-moves Wait.CaseArms t ps a fs h = cc
ready-moves (Wait.DefinitionParameters n) t ps a fs h = cc
ready-moves (Wait.FunctionHeadBounds n) t ps a fs h = cc
ready-moves (Wait.Replacements m) t ps a fs h = cc
ready-moves _ t ps a fs h = refl

pub From-front : (c : ℕ) (xs ys : List Lexeme) → From c (xs ++ ys) → From c xs
From-front c [] ys h = tt
From-front c (x ∷ xs) ys h = (h.0, From-front c xs ys h.1)

pub From-back : (c : ℕ) (xs ys : List Lexeme) → From c (xs ++ ys) → From c ys
From-back c [] ys h = h
From-back c (x ∷ xs) ys h = From-back c xs ys h.1

pub From-max : (c d : ℕ) (xs : List Lexeme) → From c xs → From d xs → From (max c d) xs
From-max c d [] h k = tt
From-max c d (x ∷ xs) h k = (let l : c ≤ x.col = h.0 in let m : d ≤ x.col = k.0 in omega arith, From-max c d xs h.1 k.1)

pub left-true : (a b : ℕ) → a < b → nat_lt a b ≡ true
left-true a b h = grind (arith, nat_tests)

pub left-false : (a b : ℕ) → b ≤ a → nat_lt a b ≡ false
left-false a b h = grind (arith, nat_tests)

pub outside : (l : Option Lexeme) (i : ℕ) → i ≤ inside_list l i
outside None i = omega arith
outside (Some t) i = omega arith

-- the lexemes of a part stand inside the lists of its frame
pub From-part : (l : Option Lexeme) (i : ℕ) (b : List Lexeme) → InItem l i b → From i b → From (inside_list l i) b
From-part None i b k f = f
From-part (Some t) i b k f = From-max i (suc t.col) b f k.1

pub onward : {o o' : Option State} (rest : List Lexeme) → o ≡ o' → run o rest ≡ run o' rest
onward rest e = ap (λ o. run o rest) e

-- a step of the frame that is due
begins-at : (w : Wait) (qs : List Tree) (c : List Lexeme) (fs : List Frame) (t : Lexeme) (s : Start) → begins (mode w) t ≡ s → starts s ≡ true → inner (frame w qs c ∷ fs) ≤ t.col → step (ready (frame w qs c ∷ fs)) t ≡ begun s (frame w qs c) fs t
begins-at w qs c fs t s h k i =
    let r : ready (frame w qs c ∷ fs) ≡ At (frame w qs c ∷ fs) = ready-starts w t qs c fs (ap starts h ∙ k) in
    rw (r, left-false t.col (inner (frame w qs c ∷ fs)) i, h)

moves-at : (w : Wait) (qs : List Tree) (c : List Lexeme) (fs : List Frame) (t : Lexeme) (m : MarkMove) → begins (mode w) t ≡ Start.NoStart → at_mark w t ≡ m → moves m ≡ true → inner (frame w qs c ∷ fs) ≤ t.col → step (ready (frame w qs c ∷ fs)) t ≡ marked m (frame w qs c) fs t
moves-at w qs c fs t m h k l i =
    let r : ready (frame w qs c ∷ fs) ≡ At (frame w qs c ∷ fs) = ready-moves w t qs c fs (ap moves k ∙ l) in
    rw (r, left-false t.col (inner (frame w qs c ∷ fs)) i, h, k)

pub have-within : (fs : List Frame) (e : Tree) (b : List Lexeme) (t : Lexeme) → inner fs ≤ t.col → have fs e b t ≡ within fs e b t
have-within fs e b t h = rw (left-false t.col (inner fs) h)

pub have-leave : (fs : List Frame) (e : Tree) (b : List Lexeme) (t : Lexeme) → t.col < inner fs → have fs e b t ≡ leave fs e b t
have-leave fs e b t h = rw (left-true t.col (inner fs) h)

-- the state after a part was read: what may still grow is left open
abbrev pub opened : {w : Wait} {x : Tree} {a : List Lexeme} {i : ℕ} {o : Option Lexeme} → Part w x a i o → List Frame → State
opened (closed {x = x} {a = a} c) fs = complete fs x a
opened (headed {v = v} {ps = ps} {a = a} form p e) fs = At (frame v ps a ∷ fs)
opened (finished {v = v} {ps = ps} {a = a} form p d k n e) fs = opened d (frame v ps a ∷ fs)

-- a frame ends round its last part
pub ends-round : (v : Wait) (ps : List Tree) (a : List Lexeme) (x : Tree) (b : List Lexeme) (form : Form) (fs : List Frame) (n : Lexeme) → Ends v x (inner fs) form (Some n) → have (frame v ps a ∷ fs) x b n ≡ have fs (built form (trees (ps ++ x ∷ [])) (a ++ b)) (a ++ b) n
ends-round v ps a x b form fs n (by_column f l k) =
    let s : on_bullet (cond (is_expression (shape x)) (list_of v) None) (frame v ps a) fs x b n (have fs (built form (trees (ps ++ x ∷ [])) (a ++ b)) (a ++ b) n) ≡ have fs (built form (trees (ps ++ x ∷ [])) (a ++ b)) (a ++ b) n =
    no-bullet (is_expression (shape x)) (list_of v) (frame v ps a) fs x b n _ k
    in
    have-leave (frame v ps a ∷ fs) x b n l ∙ rw f s
  where
    no-bullet : (c : Bool) (l : Option Lexeme) (f : Frame) (gs : List Frame) (e : Tree) (d : List Lexeme) (t : Lexeme) (out : Option State) → IsNoBullet l t → on_bullet (cond c l None) f gs e d t out ≡ out
    no-bullet true None f gs e d t out h = refl
    no-bullet true (Some first) f gs e d t out h = rw h
    no-bullet false l f gs e d t out h = refl
ends-round v ps a x b form fs n (by_mark l r m) =
    let e : Tree = built form (trees (ps ++ x ∷ [])) (a ++ b) in
    let i : inner fs ≤ n.col = omega (arith, l, outside (list_of v) (inner fs)) in
    let p : within (frame v ps a ∷ fs) x b n ≡ part_step fs e (a ++ b) n = rw (r, m) in
    let q : within fs e (a ++ b) n ≡ part_step fs e (a ++ b) n = rw r in
    have-within (frame v ps a ∷ fs) x b n l ∙ (p ∙ sym (have-within fs e (a ++ b) n i ∙ q))
ends-round v ps a x b form fs n (by_operator l r k c f) =
    let e : Tree = built form (trees (ps ++ x ∷ [])) (a ++ b) in
    let i : inner fs ≤ n.col = omega (arith, l, outside (list_of v) (inner fs)) in
    let p : within (frame v ps a ∷ fs) x b n ≡ operator_step fs e (a ++ b) n = rw (r, k, c, f) in
    let q : within fs e (a ++ b) n ≡ operator_step fs e (a ++ b) n = rw r in
    have-within (frame v ps a ∷ fs) x b n l ∙ (p ∙ sym (have-within fs e (a ++ b) n i ∙ q))

pub ends-head : (v : Wait) (ps : List Tree) (a : List Lexeme) (form : Form) (fs : List Frame) (n : Lexeme) → EndsHead v (inner fs) form (Some n) → step (At (frame v ps a ∷ fs)) n ≡ have fs (built form (trees ps) a) a n
ends-head v ps a form fs n (head_by_column f l) = rw (left-true n.col (inner (frame v ps a ∷ fs)) l, f)
ends-head v ps a form fs n (head_by_mark l h m f) = rw (left-false n.col (inner (frame v ps a ∷ fs)) l, h, m, f)

-- what a part left open ends before the next lexeme as if it had been closed at once
pub settles : {w : Wait} {x : Tree} {a : List Lexeme} {i : ℕ} {o : Option Lexeme} (d : Part w x a i o) (qs : List Tree) (c : List Lexeme) (fs : List Frame) (n : Lexeme) → i ≡ inner (frame w qs c ∷ fs) → o ≡ Some n → absorbs w ≡ None → step (opened d (frame w qs c ∷ fs)) n ≡ have (frame w qs c ∷ fs) x a n
settles (closed k) qs c fs n j q u = rw u
settles {w = w} {i = i} (headed {v = v} {ps = ps} {a = a} form p e) qs c fs n j q u =
    ends-head v ps a form (frame w qs c ∷ fs) n (subst (λ z. EndsHead v z form (Some n)) j (subst (λ z. EndsHead v i form z) q e))
settles {w = w} {i = i} (finished {v = v} {x = x} {ps = ps} {a = a} {b = b} form p d k u' e) qs c fs n j q u =
    settles d ps a (frame w qs c ∷ fs) n (ap (inside v) j) q u'
    ∙ ends-round v ps a x b form (frame w qs c ∷ fs) n (subst (λ z. Ends v x z form (Some n)) j (subst (λ z. Ends v x i form z) q e))

pub endable-form : (w : Wait) (k : Option LexKind) (form : Form) (ps : List Tree) (a : List Lexeme) (fs : List Frame) → endable w k ≡ Some form → ready (frame w ps a ∷ fs) ≡ At (frame w ps a ∷ fs)
endable-form Wait.WholeBounds k form ps a fs h = cc
endable-form (Wait.Handing hd m) k form ps a fs h = cc
endable-form (Wait.QuantifierFirst q) k form ps a fs h = cc
endable-form (Wait.QuantifierNext q) k form ps a fs h = cc
endable-form (Wait.TemporalFirst q) k form ps a fs h = cc
endable-form Wait.ChooseFirst k form ps a fs h = cc
endable-form Wait.ImageBounds k form ps a fs h = cc
endable-form Wait.FunctionBounds k form ps a fs h = cc
endable-form (Wait.FunctionNames b) k form ps a fs h = cc
endable-form Wait.ExceptUpdates k form ps a fs h = cc
endable-form Wait.CaseArms k form ps a fs h = cc
endable-form (Wait.DefinitionParameters n) k form ps a fs h = cc
endable-form (Wait.FunctionHeadBounds n) k form ps a fs h = cc
endable-form (Wait.Replacements m) k form ps a fs h = cc
endable-form _ k form ps a fs h = refl

starts-absorbs : (w : Wait) (t : Lexeme) → starts (begins (mode w) t) ≡ true → absorbs w ≡ None
starts-absorbs Wait.StepFirst t h = cc
starts-absorbs Wait.StepNext t h = cc
starts-absorbs _ t h = refl

absorbs-ready : (v u : Wait) (ps : List Tree) (a : List Lexeme) (fs : List Frame) → absorbs v ≡ Some u → ready (frame u ps a ∷ fs) ≡ At (frame u ps a ∷ fs)
absorbs-ready Wait.StepFirst u ps a fs h = let e : Wait.StepNext ≡ u = cc in subst (λ z. ready (frame z ps a ∷ fs) ≡ At (frame z ps a ∷ fs)) e refl
absorbs-ready Wait.StepNext u ps a fs h = let e : Wait.StepNext ≡ u = cc in subst (λ z. ready (frame z ps a ∷ fs) ≡ At (frame z ps a ∷ fs)) e refl
absorbs-ready _ u ps a fs h = cc

pub promised-starts : (w : Wait) (t : Lexeme) → starts (begins (mode w) t) ≡ true → promised w ≡ []
promised-starts (Wait.Handing h n) t e = cc
promised-starts _ t e = refl

pub promised-moves : (w : Wait) (t : Lexeme) → moves (at_mark w t) ≡ true → promised w ≡ []
promised-moves (Wait.Handing h n) t e = cc
promised-moves _ t e = refl

pub promised-ends : (w : Wait) (k : Option LexKind) (form : Form) → endable w k ≡ Some form → promised w ≡ []
promised-ends (Wait.Handing h n) k form e = cc
promised-ends _ k form e = refl

promised-list : (w : Wait) (t : Lexeme) → list_of w ≡ Some t → promised w ≡ []
promised-list (Wait.Handing h n) t e = cc
promised-list _ t e = refl

promised-child : (w : Wait) (c : Child) → child w ≡ Some c → c.read ≡ promised w
promised-child (Wait.Handing Handed.Segment n) c e = let k : handed Handed.Segment n ≡ c = cc in sym (ap (λ z. z.read) k)
promised-child (Wait.Handing Handed.Definition n) c e = let k : handed Handed.Definition n ≡ c = cc in sym (ap (λ z. z.read) k)
promised-child Wait.WholeBounds c e = let k : fresh (Wait.BindingStart Binding.Bound) ≡ c = cc in sym (ap (λ z. z.read) k)
promised-child (Wait.QuantifierFirst q) c e = let k : fresh (Wait.BindingStart Binding.Either) ≡ c = cc in sym (ap (λ z. z.read) k)
promised-child (Wait.QuantifierNext q) c e = let k : fresh (Wait.BindingStart Binding.Bound) ≡ c = cc in sym (ap (λ z. z.read) k)
promised-child (Wait.TemporalFirst q) c e = let k : fresh (Wait.BindingStart Binding.Names) ≡ c = cc in sym (ap (λ z. z.read) k)
promised-child Wait.ChooseFirst c e = let k : fresh (Wait.BindingStart Binding.One) ≡ c = cc in sym (ap (λ z. z.read) k)
promised-child Wait.ImageBounds c e = let k : fresh (Wait.BindingStart Binding.Bound) ≡ c = cc in sym (ap (λ z. z.read) k)
promised-child Wait.FunctionBounds c e = let k : fresh (Wait.BindingStart Binding.Bound) ≡ c = cc in sym (ap (λ z. z.read) k)
promised-child Wait.ExceptUpdates c e = let k : fresh Wait.UpdateBang ≡ c = cc in sym (ap (λ z. z.read) k)
promised-child Wait.CaseArms c e = let k : fresh Wait.ArmGuard ≡ c = cc in sym (ap (λ z. z.read) k)
promised-child (Wait.DefinitionParameters n) c e = let k : fresh Wait.ParameterStart ≡ c = cc in sym (ap (λ z. z.read) k)
promised-child (Wait.FunctionHeadBounds n) c e = let k : fresh (Wait.BindingStart Binding.Bound) ≡ c = cc in sym (ap (λ z. z.read) k)
promised-child (Wait.Replacements m) c e = let k : fresh Wait.ReplacementStart ≡ c = cc in sym (ap (λ z. z.read) k)
promised-child _ c e = cc

-- the lexemes of a part behind the one that was handed to it
abbrev mutual
  pub rest_part : {w : Wait} {x : Tree} {a : List Lexeme} {i : ℕ} {o : Option Lexeme} → Part w x a i o → List Lexeme
  rest_part (closed k) = rest_closed k
  rest_part (headed {v = v} form p e) = rest_begun p ++ promised v
  rest_part (finished {v = v} form p d k u e) = rest_begun p ++ (promised v ++ rest_part d)

  pub rest_closed : {w : Wait} {x : Tree} {a : List Lexeme} {i : ℕ} → Closed w x a i → List Lexeme
  rest_closed (leaf {t = t} form h) = t ∷ []
  rest_closed (close {v = v} t form p h m l) = rest_begun p ++ (promised v ++ t ∷ [])
  rest_closed (done {v = v} t form c p d r m l) = rest_begun p ++ (promised v ++ (rest_part d ++ t ∷ []))
  rest_closed (led_node t form d r k u c e l) = rest_part d ++ t ∷ []

  pub rest_begun : {w v : Wait} {ps : List Tree} {a : List Lexeme} {i : ℕ} → Begun w v ps a i → List Lexeme
  rest_begun (pushed {t = t} h o) = t ∷ []
  rest_begun (pushed_leaf {t = t} form h o) = t ∷ []
  rest_begun (pushed_hand t h k) = []
  rest_begun (pushed_mark {t = t} h m o) = t ∷ []
  rest_begun (fresh_child c h) = []
  rest_begun (led_push t d r k u c e l o) = rest_part d ++ t ∷ []
  rest_begun (shifted {v = v} t p h m l o) = rest_begun p ++ (promised v ++ t ∷ [])
  rest_begun (leafed {v = v} t form p h m l o) = rest_begun p ++ (promised v ++ t ∷ [])
  rest_begun (leafed_of {v = v} t n form p h m l o) = rest_begun p ++ (promised v ++ t ∷ [])
  rest_begun (handed_mark {v = v} t k p h m l) = rest_begun p ++ promised v
  rest_begun (went {v = v} t c p d r m l o) = rest_begun p ++ (promised v ++ (rest_part d ++ t ∷ []))
  rest_begun (handed_part {v = v} t h p d r m l) = rest_begun p ++ (promised v ++ rest_part d)
  rest_begun (absorbed_part {v = v} p k u l) = rest_begun p ++ (promised v ++ rest_closed k)
  rest_begun (next_item {v = v} first n p l d y f u e g c) = rest_begun p ++ (promised v ++ (rest_part d ++ n ∷ []))
  rest_begun (next_factor {v = v} t p d r k e l) = rest_begun p ++ (promised v ++ (rest_part d ++ t ∷ []))
  rest_begun (converting flag p) = rest_begun p
  rest_begun (converted_part t flag d r m) = rest_part d ++ t ∷ []

-- a list that grows at its end
snoc : (ps a r c : List Lexeme) → a ≡ ps ++ r → a ++ c ≡ ps ++ (r ++ c)
snoc ps a r c e = rw e (append_assoc ps r c)

none-before : (ps r : List Lexeme) → ps ≡ [] → r ≡ ps ++ r
none-before ps r e = rw e

none-after : (r ps : List Lexeme) → ps ≡ [] → r ++ ps ≡ r
none-after r ps e = rw e (append-nil r)

-- a part's list is what was handed to it, and the rest
mutual
  pub tied-part : {w : Wait} {x : Tree} {a : List Lexeme} {i : ℕ} {o : Option Lexeme} (d : Part w x a i o) → a ≡ promised w ++ rest_part d
  tied-part (closed k) = tied-closed k
  tied-part {w = w} (headed {v = v} {a = a} form p (head_at_end f)) = tied-begun p ∙ ap (λ z. promised w ++ z) (sym (none-after (rest_begun p) (promised v) (promised-ends v _ form f)))
  tied-part {w = w} (headed {v = v} {a = a} form p (head_by_column f l)) = tied-begun p ∙ ap (λ z. promised w ++ z) (sym (none-after (rest_begun p) (promised v) (promised-ends v _ form f)))
  tied-part {w = w} (headed {v = v} {a = a} form p (head_by_mark l h m f)) = tied-begun p ∙ ap (λ z. promised w ++ z) (sym (none-after (rest_begun p) (promised v) (promised-ends v _ form f)))
  tied-part {w = w} (finished {v = v} {a = a} {b = b} form p d k u e) = ap (λ z. a ++ z) (tied-part d) ∙ snoc (promised w) a (rest_begun p) (promised v ++ rest_part d) (tied-begun p)

  tied-closed : {w : Wait} {x : Tree} {a : List Lexeme} {i : ℕ} (k : Closed w x a i) → a ≡ promised w ++ rest_closed k
  tied-closed {w = w} (leaf {t = t} form h) = none-before (promised w) (t ∷ []) (promised-starts w t (ap starts h))
  tied-closed {w = w} (close {v = v} {a = a} t form p h m l) =
      ap (λ z. a ++ z) (none-before (promised v) (t ∷ []) (promised-moves v t (ap moves m))) ∙ snoc (promised w) a (rest_begun p) (promised v ++ t ∷ []) (tied-begun p)
  tied-closed {w = w} (done {v = v} {a = a} {b = b} t form c p d r m l) =
      ap (λ z. a ++ z) (snoc (promised v) b (rest_part d) (t ∷ []) (tied-part d)) ∙ snoc (promised w) a (rest_begun p) (promised v ++ (rest_part d ++ t ∷ [])) (tied-begun p)
  tied-closed {w = w} (led_node {b = b} t form d r k u c e l) = snoc (promised w) b (rest_part d) (t ∷ []) (tied-part d)

  tied-begun : {w v : Wait} {ps : List Tree} {a : List Lexeme} {i : ℕ} (p : Begun w v ps a i) → a ≡ promised w ++ rest_begun p
  tied-begun {w = w} (pushed {t = t} h o) = none-before (promised w) (t ∷ []) (promised-starts w t (ap starts h))
  tied-begun {w = w} (pushed_leaf {t = t} form h o) = none-before (promised w) (t ∷ []) (promised-starts w t (ap starts h))
  tied-begun {w = w} (pushed_hand t h k) = none-before (promised w) [] (promised-starts w t (ap starts k))
  tied-begun {w = w} (pushed_mark {t = t} h m o) = none-before (promised w) (t ∷ []) (promised-moves w t (ap moves m))
  tied-begun {w = w} (fresh_child c h) = promised-child w c h ∙ sym (append-nil (promised w))
  tied-begun {w = w} (led_push {b = b} t d r k u c e l o) = snoc (promised w) b (rest_part d) (t ∷ []) (tied-part d)
  tied-begun {w = w} (shifted {v = v} {a = a} t p h m l o) =
      ap (λ z. a ++ z) (none-before (promised v) (t ∷ []) (promised-moves v t (ap moves m))) ∙ snoc (promised w) a (rest_begun p) (promised v ++ t ∷ []) (tied-begun p)
  tied-begun {w = w} (leafed {v = v} {a = a} t form p h m l o) =
      ap (λ z. a ++ z) (none-before (promised v) (t ∷ []) (promised-moves v t (ap moves m))) ∙ snoc (promised w) a (rest_begun p) (promised v ++ t ∷ []) (tied-begun p)
  tied-begun {w = w} (leafed_of {v = v} {a = a} t n form p h m l o) =
      ap (λ z. a ++ z) (none-before (promised v) (t ∷ []) (promised-moves v t (ap moves m))) ∙ snoc (promised w) a (rest_begun p) (promised v ++ t ∷ []) (tied-begun p)
  tied-begun {w = w} (handed_mark {v = v} t k p h m l) = tied-begun p ∙ ap (λ z. promised w ++ z) (sym (none-after (rest_begun p) (promised v) (promised-moves v t (ap moves m))))
  tied-begun {w = w} (went {v = v} {a = a} {b = b} t c p d r m l o) =
      ap (λ z. a ++ z) (snoc (promised v) b (rest_part d) (t ∷ []) (tied-part d)) ∙ snoc (promised w) a (rest_begun p) (promised v ++ (rest_part d ++ t ∷ [])) (tied-begun p)
  tied-begun {w = w} (handed_part {v = v} {a = a} {b = b} t h p d r m l) = ap (λ z. a ++ z) (tied-part d) ∙ snoc (promised w) a (rest_begun p) (promised v ++ rest_part d) (tied-begun p)
  tied-begun {w = w} (absorbed_part {v = v} {a = a} {b = b} p k u l) = ap (λ z. a ++ z) (tied-closed k) ∙ snoc (promised w) a (rest_begun p) (promised v ++ rest_closed k) (tied-begun p)
  tied-begun {w = w} (next_item {v = v} {a = a} {b = b} first n p l d y f u e g c) =
      ap (λ z. a ++ z) (snoc (promised v) b (rest_part d) (n ∷ []) (tied-part d)) ∙ snoc (promised w) a (rest_begun p) (promised v ++ (rest_part d ++ n ∷ [])) (tied-begun p)
  tied-begun {w = w} (next_factor {v = v} {a = a} {b = b} t p d r k e l) =
      ap (λ z. a ++ z) (snoc (promised v) b (rest_part d) (t ∷ []) (tied-part d)) ∙ snoc (promised w) a (rest_begun p) (promised v ++ (rest_part d ++ t ∷ [])) (tied-begun p)
  tied-begun (converting flag p) = tied-begun p
  tied-begun (converted_part {b = b} t flag d r m) = snoc [] b (rest_part d) (t ∷ []) (tied-part d)

pub plain-inside : (v : Wait) (i : ℕ) → list_of v ≡ None → inside v i ≡ i
plain-inside v i e = rw e

-- the next lexeme after what a frame has read, at the column that it needs
next-col : (v : Wait) (i : ℕ) (xs ys : List Lexeme) (t : Lexeme) (rest : List Lexeme) → list_of v ≡ None → From i (xs ++ (ys ++ t ∷ rest)) → inside v i ≤ t.col
next-col v i xs ys t rest e f =
    let k : From i (t ∷ rest) = From-back i ys (t ∷ rest) (From-back i xs (ys ++ t ∷ rest) f) in
    rw (plain-inside v i e) k.0

-- a part and the mark after it
pub marked-part : {v : Wait} {x : Tree} {b : List Lexeme} {j : ℕ} {o : Option Lexeme} (d : Part v x b j o) (ps : List Tree) (a : List Lexeme) (fs : List Frame) (t : Lexeme) (rest : List Lexeme) → j ≡ inner (frame v ps a ∷ fs) → o ≡ Some t → absorbs v ≡ None → is_operator (role t.kind) ≡ false → inner (frame v ps a ∷ fs) ≤ t.col → run (Some (ready (frame v ps a ∷ fs))) (rest_part d ++ t ∷ rest) ≡ run (Some (opened d (frame v ps a ∷ fs))) (t ∷ rest) → run (Some (ready (frame v ps a ∷ fs))) (rest_part d ++ t ∷ rest) ≡ run (moved (at_part v (shape x) t) (frame v ps a) fs x b t (λ form. part_step fs (node_with form (frame v ps a) x b) (a ++ b) t)) rest
marked-part {v = v} {x = x} {b = b} d ps a fs t rest j q u r l h =
    let p : within (frame v ps a ∷ fs) x b t ≡ moved (at_part v (shape x) t) (frame v ps a) fs x b t (λ form. part_step fs (node_with form (frame v ps a) x b) (a ++ b) t) = rw r in
    h ∙ onward rest (settles d ps a fs t j q u ∙ (have-within (frame v ps a ∷ fs) x b t l ∙ p))

-- a part and the operator after it
led-part : {w : Wait} {x : Tree} {b : List Lexeme} {j : ℕ} {o : Option Lexeme} (d : Part w x b j o) (qs : List Tree) (c : List Lexeme) (fs : List Frame) (t : Lexeme) (rest : List Lexeme) → j ≡ inner (frame w qs c ∷ fs) → o ≡ Some t → absorbs w ≡ None → is_operator (role t.kind) ≡ true → takes w (role t.kind) ≡ false → choice w (edge_of (role t.kind)) ≡ Choice.Waits → is_expression (shape x) ≡ true → inner (frame w qs c ∷ fs) ≤ t.col → run (Some (ready (frame w qs c ∷ fs))) (rest_part d ++ t ∷ rest) ≡ run (Some (opened d (frame w qs c ∷ fs))) (t ∷ rest) → run (Some (ready (frame w qs c ∷ fs))) (rest_part d ++ t ∷ rest) ≡ run (led (lead (role t.kind) t) (frame w qs c) fs x b t) rest
led-part {w = w} {x = x} {b = b} d qs c fs t rest j q u r k m e l h =
    let p : within (frame w qs c ∷ fs) x b t ≡ led (lead (role t.kind) t) (frame w qs c) fs x b t = rw (r, k, m, e) in
    h ∙ onward rest (settles d qs c fs t j q u ∙ (have-within (frame w qs c ∷ fs) x b t l ∙ p))

endable-by : (v : Wait) (i : ℕ) (form : Form) (o : Option Lexeme) (ps : List Tree) (a : List Lexeme) (fs : List Frame) → EndsHead v i form o → ready (frame v ps a ∷ fs) ≡ At (frame v ps a ∷ fs)
endable-by v i form o ps a fs (head_at_end f) = endable-form v _ form ps a fs f
endable-by v i form o ps a fs (head_by_column f l) = endable-form v _ form ps a fs f
endable-by v i form o ps a fs (head_by_mark l h m f) = endable-form v _ form ps a fs f

InItem-rest : (l : Option Lexeme) (i : ℕ) (xs ys : List Lexeme) → InItem l i (xs ++ ys) → InItem l i ys
InItem-rest None i xs ys h = tt
InItem-rest (Some t) i xs ys h = (h.0, From-back (suc t.col) xs ys h.1)

pub complete-have : (w : Wait) (qs : List Tree) (c : List Lexeme) (fs : List Frame) (e : Tree) (b : List Lexeme) → absorbs w ≡ None → complete (frame w qs c ∷ fs) e b ≡ Have (frame w qs c ∷ fs) e b
complete-have w qs c fs e b h = rw h

absorbs-own : (v u : Wait) → absorbs v ≡ Some u → promised u ≡ []
absorbs-own Wait.StepFirst u h = let e : Wait.StepNext ≡ u = cc in subst (λ z. promised z ≡ []) e refl
absorbs-own Wait.StepNext u h = let e : Wait.StepNext ≡ u = cc in subst (λ z. promised z ≡ []) e refl
absorbs-own _ u h = cc

-- a frame whose part has a frame of its own is there with it
record ChildReady (w : Wait) (c : Child) : Type 0 where
  pub is : (qs : List Tree) (d : List Lexeme) (fs : List Frame) → ready (frame w qs d ∷ fs) ≡ ready (frame c.wait [] c.read ∷ frame w qs d ∷ fs)
  pub own : promised c.wait ≡ []

definition-ready : (b : Bool) (n : Lexeme) (fs : List Frame) → At (frame (cond b (Wait.DefinitionName n) (Wait.PrefixName n)) [] (n ∷ []) ∷ fs) ≡ ready (frame (cond b (Wait.DefinitionName n) (Wait.PrefixName n)) [] (n ∷ []) ∷ fs)
definition-ready true n fs = refl
definition-ready false n fs = refl

definition-own : (b : Bool) (n : Lexeme) → promised (cond b (Wait.DefinitionName n) (Wait.PrefixName n)) ≡ []
definition-own true n = refl
definition-own false n = refl

child-ready : (w : Wait) (c : Child) → child w ≡ Some c → ChildReady w c
child-ready (Wait.Handing Handed.Segment n) c e =
    let k : handed Handed.Segment n ≡ c = cc in
    subst (λ z. ChildReady (Wait.Handing Handed.Segment n) z) k (record { is = λ qs d fs. refl; own = refl })
child-ready (Wait.Handing Handed.Definition n) c e =
    let k : handed Handed.Definition n ≡ c = cc in
    subst (λ z. ChildReady (Wait.Handing Handed.Definition n) z) k (record { is = λ qs d fs. definition-ready (is_name n.kind) n _; own = definition-own (is_name n.kind) n })
child-ready Wait.WholeBounds c e = let k : fresh (Wait.BindingStart Binding.Bound) ≡ c = cc in subst (λ z. ChildReady Wait.WholeBounds z) k (record { is = λ qs d fs. refl; own = refl })
child-ready (Wait.QuantifierFirst q) c e = let k : fresh (Wait.BindingStart Binding.Either) ≡ c = cc in subst (λ z. ChildReady (Wait.QuantifierFirst q) z) k (record { is = λ qs d fs. refl; own = refl })
child-ready (Wait.QuantifierNext q) c e = let k : fresh (Wait.BindingStart Binding.Bound) ≡ c = cc in subst (λ z. ChildReady (Wait.QuantifierNext q) z) k (record { is = λ qs d fs. refl; own = refl })
child-ready (Wait.TemporalFirst q) c e = let k : fresh (Wait.BindingStart Binding.Names) ≡ c = cc in subst (λ z. ChildReady (Wait.TemporalFirst q) z) k (record { is = λ qs d fs. refl; own = refl })
child-ready Wait.ChooseFirst c e = let k : fresh (Wait.BindingStart Binding.One) ≡ c = cc in subst (λ z. ChildReady Wait.ChooseFirst z) k (record { is = λ qs d fs. refl; own = refl })
child-ready Wait.ImageBounds c e = let k : fresh (Wait.BindingStart Binding.Bound) ≡ c = cc in subst (λ z. ChildReady Wait.ImageBounds z) k (record { is = λ qs d fs. refl; own = refl })
child-ready Wait.FunctionBounds c e = let k : fresh (Wait.BindingStart Binding.Bound) ≡ c = cc in subst (λ z. ChildReady Wait.FunctionBounds z) k (record { is = λ qs d fs. refl; own = refl })
child-ready Wait.ExceptUpdates c e = let k : fresh Wait.UpdateBang ≡ c = cc in subst (λ z. ChildReady Wait.ExceptUpdates z) k (record { is = λ qs d fs. refl; own = refl })
child-ready Wait.CaseArms c e = let k : fresh Wait.ArmGuard ≡ c = cc in subst (λ z. ChildReady Wait.CaseArms z) k (record { is = λ qs d fs. refl; own = refl })
child-ready (Wait.DefinitionParameters n) c e = let k : fresh Wait.ParameterStart ≡ c = cc in subst (λ z. ChildReady (Wait.DefinitionParameters n) z) k (record { is = λ qs d fs. refl; own = refl })
child-ready (Wait.FunctionHeadBounds n) c e = let k : fresh (Wait.BindingStart Binding.Bound) ≡ c = cc in subst (λ z. ChildReady (Wait.FunctionHeadBounds n) z) k (record { is = λ qs d fs. refl; own = refl })
child-ready (Wait.Replacements m) c e = let k : fresh Wait.ReplacementStart ≡ c = cc in subst (λ z. ChildReady (Wait.Replacements m) z) k (record { is = λ qs d fs. refl; own = refl })
child-ready _ c e = cc

assoc-two : (xs ys rest : List Lexeme) → (xs ++ ys) ++ rest ≡ xs ++ (ys ++ rest)
assoc-two xs ys rest = append_assoc xs ys rest

assoc-mark : (xs ys : List Lexeme) (t : Lexeme) (rest : List Lexeme) → (xs ++ (ys ++ t ∷ [])) ++ rest ≡ xs ++ (ys ++ t ∷ rest)
assoc-mark xs ys t rest = simp append_assoc

assoc-part : (xs ys zs rest : List Lexeme) → (xs ++ (ys ++ zs)) ++ rest ≡ xs ++ (ys ++ (zs ++ rest))
assoc-part xs ys zs rest = simp append_assoc

assoc-part_mark : (xs ys zs : List Lexeme) (t : Lexeme) (rest : List Lexeme) → (xs ++ (ys ++ (zs ++ t ∷ []))) ++ rest ≡ xs ++ (ys ++ (zs ++ t ∷ rest))
assoc-part_mark xs ys zs t rest = simp append_assoc

From-first : (i : ℕ) (xs ys zs : List Lexeme) → From i (xs ++ (ys ++ zs)) → From i (xs ++ ys)
From-first i xs ys zs f = From-front i (xs ++ ys) zs (rw (append_assoc xs ys zs) f)

From-middle : (i : ℕ) (xs ys zs more : List Lexeme) → From i (xs ++ (ys ++ (zs ++ more))) → From i zs
From-middle i xs ys zs more f = From-front i zs more (From-back i ys (zs ++ more) (From-back i xs (ys ++ (zs ++ more)) f))

From-last : (i : ℕ) (xs : List Lexeme) (t : Lexeme) (rest : List Lexeme) → From i (xs ++ t ∷ rest) → i ≤ t.col
From-last i xs t rest f = let k : From i (t ∷ rest) = From-back i xs (t ∷ rest) f in k.0

From-plain : (v : Wait) (i : ℕ) (xs : List Lexeme) → list_of v ≡ None → From i xs → From (inside v i) xs
From-plain v i xs e f = rw (plain-inside v i e) f

-- the next lexeme after a part
part-col : (v : Wait) (i j : ℕ) (xs ys zs : List Lexeme) (t : Lexeme) (rest : List Lexeme) → i ≡ j → list_of v ≡ None → From i (xs ++ (ys ++ (zs ++ t ∷ rest))) → inside v j ≤ t.col
part-col v i j xs ys zs t rest e l f =
    subst (λ k. inside v k ≤ t.col) e
    (rw (plain-inside v i l) (From-last i zs t rest (From-back i ys (zs ++ t ∷ rest) (From-back i xs (ys ++ (zs ++ t ∷ rest)) f))))

mark-col : (v : Wait) (i j : ℕ) (xs ys : List Lexeme) (t : Lexeme) (rest : List Lexeme) → i ≡ j → list_of v ≡ None → From i (xs ++ (ys ++ t ∷ rest)) → inside v j ≤ t.col
mark-col v i j xs ys t rest e l f = part-col v i j xs [] ys t rest e l f

list-step : (v : Wait) (ps : List Tree) (a : List Lexeme) (x : Tree) (b : List Lexeme) (fs : List Frame) (first n : Lexeme) → list_of v ≡ Some first → is_expression (shape x) ≡ true → goes_on first n ≡ true → n.col ≡ first.col → have (frame v ps a ∷ fs) x b n ≡ Some (At (frame (Wait.ListItem first) (ps ++ x ∷ []) (a ++ (b ++ n ∷ [])) ∷ fs))
list-step v ps a x b fs first n l e g c =
    let deep : n.col < inside v (inner fs) = rw l (omega (arith, c)) in
    have-leave (frame v ps a ∷ fs) x b n deep ∙ rw (e, l, g)

factor-step : (v : Wait) (ps : List Tree) (a : List Lexeme) (x : Tree) (b : List Lexeme) (fs : List Frame) (t : Lexeme) → is_operator (role t.kind) ≡ true → takes v (role t.kind) ≡ true → is_expression (shape x) ≡ true → within (frame v ps a ∷ fs) x b t ≡ Some (At (frame Wait.Factor (ps ++ x ∷ []) (a ++ (b ++ t ∷ [])) ∷ fs))
factor-step v ps a x b fs t r k e = rw (r, k, e)

abbrev Reads : State → List Lexeme → State → List Lexeme → Type 0
Reads st a st' rest = run (Some st) a ≡ run (Some st') rest

mutual
  pub reads-part : {w : Wait} {x : Tree} {a : List Lexeme} {i : ℕ} {o : Option Lexeme} (d : Part w x a i o) (qs : List Tree) (c : List Lexeme) (fs : List Frame) (rest : List Lexeme) → i ≡ inner (frame w qs c ∷ fs) → From i (rest_part d) → run (Some (ready (frame w qs c ∷ fs))) (rest_part d ++ rest) ≡ run (Some (opened d (frame w qs c ∷ fs))) rest
  reads-part (closed k) qs c fs rest j f = reads-closed k qs c fs rest j f
  reads-part {w = w} {i = i} {o = o} (headed {v = v} {ps = ps} {a = a} form p e) qs c fs rest j f =
      ap (λ z. run (Some (ready (frame w qs c ∷ fs))) z) (assoc-two (rest_begun p) (promised v) rest)
      ∙ (reads-begun p qs c fs rest j f
      ∙ ap (λ z. run (Some z) rest) (endable-by v i form o ps a (frame w qs c ∷ fs) e))
  reads-part {w = w} {i = i} (finished {v = v} {ps = ps} {a = a} {b = b} form p d k u e) qs c fs rest j f =
      ap (λ z. run (Some (ready (frame w qs c ∷ fs))) z) (assoc-part (rest_begun p) (promised v) (rest_part d) rest)
      ∙ (reads-begun p qs c fs (rest_part d ++ rest) j (From-first i (rest_begun p) (promised v) (rest_part d) f)
      ∙ reads-part d ps a (frame w qs c ∷ fs) rest (ap (inside v) j)
      (From-part (list_of v) i (rest_part d)
      (InItem-rest (list_of v) i (promised v) (rest_part d) (subst (λ z. InItem (list_of v) i z) (tied-part d) k))
      (From-back i (promised v) (rest_part d) (From-back i (rest_begun p) (promised v ++ rest_part d) f))))

  pub reads-closed : {w : Wait} {x : Tree} {a : List Lexeme} {i : ℕ} (k : Closed w x a i) (qs : List Tree) (c : List Lexeme) (fs : List Frame) (rest : List Lexeme) → i ≡ inner (frame w qs c ∷ fs) → From i (rest_closed k) → run (Some (ready (frame w qs c ∷ fs))) (rest_closed k ++ rest) ≡ run (Some (complete (frame w qs c ∷ fs) x a)) rest
  reads-closed {w = w} {i = i} (leaf {t = t} form h) qs c fs rest j f =
      onward rest (begins-at w qs c fs t (Start.Leaf form) h refl (subst (λ z. z ≤ t.col) j f.0))
      ∙ ap (λ z. run (Some z) rest) (sym (complete-have w qs c fs _ (t ∷ []) (starts-absorbs w t (ap starts h))))
  reads-closed {w = w} {i = i} (close {v = v} {ps = ps} {a = a} t form p h m l) qs c fs rest j f =
      ap (λ z. run (Some (ready (frame w qs c ∷ fs))) z) (assoc-mark (rest_begun p) (promised v) t rest)
      ∙ (reads-begun p qs c fs (t ∷ rest) j (From-first i (rest_begun p) (promised v) (t ∷ []) f)
      ∙ onward rest (moves-at v ps a (frame w qs c ∷ fs) t (MarkMove.Close form) h m refl (mark-col v i _ (rest_begun p) (promised v) t [] j l f)))
  reads-closed {w = w} {i = i} (done {v = v} {x = x} {ps = ps} {a = a} {b = b} t form k p d r m l) qs c fs rest j f =
      ap (λ z. run (Some (ready (frame w qs c ∷ fs))) z) (assoc-part_mark (rest_begun p) (promised v) (rest_part d) t rest)
      ∙ (reads-begun p qs c fs (rest_part d ++ t ∷ rest) j (From-first i (rest_begun p) (promised v) (rest_part d ++ t ∷ []) f)
      ∙ (marked-part d ps a (frame w qs c ∷ fs) t rest (ap (inside v) j) refl l.1 r (part-col v i _ (rest_begun p) (promised v) (rest_part d) t [] j l.0 f)
      (reads-part d ps a (frame w qs c ∷ fs) (t ∷ rest) (ap (inside v) j) (From-plain v i (rest_part d) l.0 (From-middle i (rest_begun p) (promised v) (rest_part d) (t ∷ []) f)))
      ∙ onward rest (ap (λ z. moved z (frame v ps a) (frame w qs c ∷ fs) x b t (λ g. part_step (frame w qs c ∷ fs) (node_with g (frame v ps a) x b) (a ++ b) t)) m)))
  reads-closed {w = w} {i = i} (led_node {x = x} {b = b} t form d r k u g e l) qs c fs rest j f =
      ap (λ z. run (Some (ready (frame w qs c ∷ fs))) z) (assoc-two (rest_part d) (t ∷ []) rest)
      ∙ (led-part d qs c fs t rest j refl u r k g e (subst (λ z. z ≤ t.col) j (From-last i (rest_part d) t [] f))
      (reads-part d qs c fs (t ∷ rest) j (From-front i (rest_part d) (t ∷ []) f))
      ∙ (onward rest (ap (λ z. led z (frame w qs c) fs x b t) l)
      ∙ ap (λ z. run (Some z) rest) (sym (complete-have w qs c fs _ (b ++ t ∷ []) u))))

  pub reads-begun : {w v : Wait} {ps : List Tree} {a : List Lexeme} {i : ℕ} (p : Begun w v ps a i) (qs : List Tree) (c : List Lexeme) (fs : List Frame) (rest : List Lexeme) → i ≡ inner (frame w qs c ∷ fs) → From i (rest_begun p ++ promised v) → run (Some (ready (frame w qs c ∷ fs))) (rest_begun p ++ (promised v ++ rest)) ≡ run (Some (ready (frame v ps a ∷ frame w qs c ∷ fs))) rest
  reads-begun {w = w} (pushed {v = v} {t = t} h o) qs c fs rest j f =
      ap (λ z. run (Some (ready (frame w qs c ∷ fs))) (t ∷ (z ++ rest))) o
      ∙ onward rest (begins-at w qs c fs t (Start.Push v) h refl (subst (λ z. z ≤ t.col) j f.0))
  reads-begun {w = w} (pushed_leaf {v = v} {t = t} form h o) qs c fs rest j f =
      ap (λ z. run (Some (ready (frame w qs c ∷ fs))) (t ∷ (z ++ rest))) o
      ∙ onward rest (begins-at w qs c fs t (Start.PushLeaf form v) h refl (subst (λ z. z ≤ t.col) j f.0))
  reads-begun {w = w} (pushed_hand t h k) qs c fs rest j f =
      onward rest (begins-at w qs c fs t (Start.Hand h) k refl (subst (λ z. z ≤ t.col) j f.0))
  reads-begun {w = w} (pushed_mark {v = v} {t = t} h m o) qs c fs rest j f =
      ap (λ z. run (Some (ready (frame w qs c ∷ fs))) (t ∷ (z ++ rest))) o
      ∙ onward rest (moves-at w qs c fs t (MarkMove.Push v) h m refl (subst (λ z. z ≤ t.col) j f.0))
  reads-begun {w = w} (fresh_child k h) qs c fs rest j f =
      let q : ChildReady w k = child-ready w k h in
      ap (λ z. run (Some (ready (frame w qs c ∷ fs))) (z ++ rest)) q.own ∙ ap (λ z. run (Some z) rest) (q.is qs c fs)
  reads-begun {w = w} {i = i} (led_push {v = v} {x = x} {b = b} t d r k u g e l o) qs c fs rest j f =
      let f' : From i (rest_part d ++ t ∷ []) = From-front i (rest_part d ++ t ∷ []) (promised v) f in
      ap (λ z. run (Some (ready (frame w qs c ∷ fs))) z) (ap (λ z. (rest_part d ++ t ∷ []) ++ (z ++ rest)) o ∙ assoc-two (rest_part d) (t ∷ []) rest)
      ∙ (led-part d qs c fs t rest j refl u r k g e (subst (λ z. z ≤ t.col) j (From-last i (rest_part d) t [] f'))
      (reads-part d qs c fs (t ∷ rest) j (From-front i (rest_part d) (t ∷ []) f'))
      ∙ onward rest (ap (λ z. led z (frame w qs c) fs x b t) l))
  reads-begun {w = w} {i = i} (shifted {v = v} {u = u} {ps = ps} {a = a} t p h m l o) qs c fs rest j f =
      let f' : From i (rest_begun p ++ (promised v ++ t ∷ [])) = From-front i (rest_begun p ++ (promised v ++ t ∷ [])) (promised u) f in
      ap (λ z. run (Some (ready (frame w qs c ∷ fs))) z) (ap (λ z. (rest_begun p ++ (promised v ++ t ∷ [])) ++ (z ++ rest)) o ∙ assoc-mark (rest_begun p) (promised v) t rest)
      ∙ (reads-begun p qs c fs (t ∷ rest) j (From-first i (rest_begun p) (promised v) (t ∷ []) f')
      ∙ onward rest (moves-at v ps a (frame w qs c ∷ fs) t (MarkMove.Shift u) h m refl (mark-col v i _ (rest_begun p) (promised v) t [] j l f')))
  reads-begun {w = w} {i = i} (leafed {v = v} {u = u} {ps = ps} {a = a} t form p h m l o) qs c fs rest j f =
      let f' : From i (rest_begun p ++ (promised v ++ t ∷ [])) = From-front i (rest_begun p ++ (promised v ++ t ∷ [])) (promised u) f in
      ap (λ z. run (Some (ready (frame w qs c ∷ fs))) z) (ap (λ z. (rest_begun p ++ (promised v ++ t ∷ [])) ++ (z ++ rest)) o ∙ assoc-mark (rest_begun p) (promised v) t rest)
      ∙ (reads-begun p qs c fs (t ∷ rest) j (From-first i (rest_begun p) (promised v) (t ∷ []) f')
      ∙ onward rest (moves-at v ps a (frame w qs c ∷ fs) t (MarkMove.Leaf form u) h m refl (mark-col v i _ (rest_begun p) (promised v) t [] j l f')))
  reads-begun {w = w} {i = i} (leafed_of {v = v} {u = u} {ps = ps} {a = a} t n form p h m l o) qs c fs rest j f =
      let f' : From i (rest_begun p ++ (promised v ++ t ∷ [])) = From-front i (rest_begun p ++ (promised v ++ t ∷ [])) (promised u) f in
      ap (λ z. run (Some (ready (frame w qs c ∷ fs))) z) (ap (λ z. (rest_begun p ++ (promised v ++ t ∷ [])) ++ (z ++ rest)) o ∙ assoc-mark (rest_begun p) (promised v) t rest)
      ∙ (reads-begun p qs c fs (t ∷ rest) j (From-first i (rest_begun p) (promised v) (t ∷ []) f')
      ∙ onward rest (moves-at v ps a (frame w qs c ∷ fs) t (MarkMove.LeafOf form n u) h m refl (mark-col v i _ (rest_begun p) (promised v) t [] j l f')))
  reads-begun {w = w} {i = i} (handed_mark {v = v} {ps = ps} {a = a} t k p h m l) qs c fs rest j f =
      let f' : From i (rest_begun p ++ (promised v ++ t ∷ [])) = rw append_assoc at f in
      ap (λ z. run (Some (ready (frame w qs c ∷ fs))) z) (assoc-two (rest_begun p) (promised v) (t ∷ rest))
      ∙ (reads-begun p qs c fs (t ∷ rest) j (From-first i (rest_begun p) (promised v) (t ∷ []) f')
      ∙ onward rest (moves-at v ps a (frame w qs c ∷ fs) t (MarkMove.Hand k) h m refl (mark-col v i _ (rest_begun p) (promised v) t [] j l f')))
  reads-begun {w = w} {i = i} (went {v = v} {u = u} {x = x} {ps = ps} {a = a} {b = b} t k p d r m l o) qs c fs rest j f =
      let f' : From i (rest_begun p ++ (promised v ++ (rest_part d ++ t ∷ []))) = From-front i (rest_begun p ++ (promised v ++ (rest_part d ++ t ∷ []))) (promised u) f in
      ap (λ z. run (Some (ready (frame w qs c ∷ fs))) z) (ap (λ z. (rest_begun p ++ (promised v ++ (rest_part d ++ t ∷ []))) ++ (z ++ rest)) o ∙ assoc-part_mark (rest_begun p) (promised v) (rest_part d) t rest)
      ∙ (reads-begun p qs c fs (rest_part d ++ t ∷ rest) j (From-first i (rest_begun p) (promised v) (rest_part d ++ t ∷ []) f')
      ∙ (marked-part d ps a (frame w qs c ∷ fs) t rest (ap (inside v) j) refl l.1 r (part-col v i _ (rest_begun p) (promised v) (rest_part d) t [] j l.0 f')
      (reads-part d ps a (frame w qs c ∷ fs) (t ∷ rest) (ap (inside v) j) (From-plain v i (rest_part d) l.0 (From-middle i (rest_begun p) (promised v) (rest_part d) (t ∷ []) f')))
      ∙ onward rest (ap (λ z. moved z (frame v ps a) (frame w qs c ∷ fs) x b t (λ g. part_step (frame w qs c ∷ fs) (node_with g (frame v ps a) x b) (a ++ b) t)) m)))
  reads-begun {w = w} {i = i} (handed_part {v = v} {x = x} {ps = ps} {a = a} {b = b} t k p d r m l) qs c fs rest j f =
      let f' : From i (rest_begun p ++ (promised v ++ (rest_part d ++ t ∷ []))) = rw (← assoc-part (rest_begun p) (promised v) (rest_part d) (t ∷ [])) f in
      ap (λ z. run (Some (ready (frame w qs c ∷ fs))) z) (assoc-part (rest_begun p) (promised v) (rest_part d) (t ∷ rest))
      ∙ (reads-begun p qs c fs (rest_part d ++ t ∷ rest) j (From-first i (rest_begun p) (promised v) (rest_part d ++ t ∷ []) f')
      ∙ (marked-part d ps a (frame w qs c ∷ fs) t rest (ap (inside v) j) refl l.1 r (part-col v i _ (rest_begun p) (promised v) (rest_part d) t [] j l.0 f')
      (reads-part d ps a (frame w qs c ∷ fs) (t ∷ rest) (ap (inside v) j) (From-plain v i (rest_part d) l.0 (From-middle i (rest_begun p) (promised v) (rest_part d) (t ∷ []) f')))
      ∙ onward rest (ap (λ z. moved z (frame v ps a) (frame w qs c ∷ fs) x b t (λ g. part_step (frame w qs c ∷ fs) (node_with g (frame v ps a) x b) (a ++ b) t)) m)))
  reads-begun {w = w} {i = i} (absorbed_part {v = v} {u = u} {x = x} {ps = ps} {a = a} {b = b} p k h l) qs c fs rest j f =
      let f' : From i (rest_begun p ++ (promised v ++ rest_closed k)) = From-front i (rest_begun p ++ (promised v ++ rest_closed k)) (promised u) f in
      ap (λ z. run (Some (ready (frame w qs c ∷ fs))) z) (ap (λ z. (rest_begun p ++ (promised v ++ rest_closed k)) ++ (z ++ rest)) (absorbs-own v u h) ∙ assoc-part (rest_begun p) (promised v) (rest_closed k) rest)
      ∙ (reads-begun p qs c fs (rest_closed k ++ rest) j (From-first i (rest_begun p) (promised v) (rest_closed k) f')
      ∙ (reads-closed k ps a (frame w qs c ∷ fs) rest (ap (inside v) j) (From-plain v i (rest_closed k) l (From-back i (promised v) (rest_closed k) (From-back i (rest_begun p) (promised v ++ rest_closed k) f')))
      ∙ ap (λ z. run (Some z) rest) (ap (λ z. absorbed z (frame v ps a) (frame w qs c ∷ fs) x b) h ∙ sym (absorbs-ready v u _ _ (frame w qs c ∷ fs) h))))
  reads-begun {w = w} {i = i} (next_item {v = v} {x = x} {ps = ps} {a = a} {b = b} first n p l d y g u e k m) qs c fs rest j f =
      let f' : From i (rest_begun p ++ (promised v ++ (rest_part d ++ n ∷ []))) = From-front i (rest_begun p ++ (promised v ++ (rest_part d ++ n ∷ []))) [] f in
      let g' : From (suc first.col) (rest_part d) = From-back (suc first.col) (promised v) (rest_part d) (subst (λ z. From (suc first.col) z) (tied-part d) g) in
      let s : From (inside v i) (rest_part d) = From-part (list_of v) i (rest_part d) (item-in (list_of v) first i (rest_part d) l y g') (From-middle i (rest_begun p) (promised v) (rest_part d) (n ∷ []) f') in
      ap (λ z. run (Some (ready (frame w qs c ∷ fs))) z) (assoc-part_mark (rest_begun p) (promised v) (rest_part d) n rest)
      ∙ (reads-begun p qs c fs (rest_part d ++ n ∷ rest) j (From-first i (rest_begun p) (promised v) (rest_part d ++ n ∷ []) f')
      ∙ (reads-part d ps a (frame w qs c ∷ fs) (n ∷ rest) (ap (inside v) j) s
      ∙ onward rest (settles d ps a (frame w qs c ∷ fs) n (ap (inside v) j) refl u ∙ list-step v ps a x b (frame w qs c ∷ fs) first n l e k m)))
  reads-begun {w = w} {i = i} (next_factor {v = v} {x = x} {ps = ps} {a = a} {b = b} t p d r k e l) qs c fs rest j f =
      let f' : From i (rest_begun p ++ (promised v ++ (rest_part d ++ t ∷ []))) = From-front i (rest_begun p ++ (promised v ++ (rest_part d ++ t ∷ []))) [] f in
      ap (λ z. run (Some (ready (frame w qs c ∷ fs))) z) (assoc-part_mark (rest_begun p) (promised v) (rest_part d) t rest)
      ∙ (reads-begun p qs c fs (rest_part d ++ t ∷ rest) j (From-first i (rest_begun p) (promised v) (rest_part d ++ t ∷ []) f')
      ∙ (reads-part d ps a (frame w qs c ∷ fs) (t ∷ rest) (ap (inside v) j) (From-plain v i (rest_part d) l.0 (From-middle i (rest_begun p) (promised v) (rest_part d) (t ∷ []) f'))
      ∙ onward rest (settles d ps a (frame w qs c ∷ fs) t (ap (inside v) j) refl l.1 ∙ (have-within (frame v ps a ∷ frame w qs c ∷ fs) x b t (part-col v i _ (rest_begun p) (promised v) (rest_part d) t [] j l.0 f') ∙ factor-step v ps a x b (frame w qs c ∷ fs) t r k e))))
  reads-begun (converting flag p) qs c fs rest j f = reads-begun p qs c fs rest j f
  reads-begun {i = i} (converted_part {x = x} {b = b} t flag d r m) qs c fs rest j f =
      let f' : From i (rest_part d ++ t ∷ []) = From-front i (rest_part d ++ t ∷ []) [] f in
      ap (λ z. run (Some (ready (frame (Wait.SquareFirst flag) qs c ∷ fs))) z) (assoc-two (rest_part d) (t ∷ []) rest)
      ∙ (marked-part d qs c fs t rest j refl refl r (subst (λ z. z ≤ t.col) j (From-last i (rest_part d) t [] f'))
      (reads-part d qs c fs (t ∷ rest) j (From-front i (rest_part d) (t ∷ []) f'))
      ∙ onward rest (ap (λ z. moved z (frame (Wait.SquareFirst flag) qs c) fs x b t (λ g. part_step fs (node_with g (frame (Wait.SquareFirst flag) qs c) x b) (c ++ b) t)) m))

-- at the end
pub finishes-round : (v : Wait) (ps : List Tree) (a : List Lexeme) (x : Tree) (b : List Lexeme) (w : Wait) (qs : List Tree) (c : List Lexeme) (fs : List Frame) (form : Form) (i : ℕ) → Ends v x i form None → close_all (frame v ps a ∷ frame w qs c ∷ fs) x b ≡ close_all (frame w qs c ∷ fs) (built form (trees (ps ++ x ∷ [])) (a ++ b)) (a ++ b)
finishes-round v ps a x b w qs c fs form i (at_end f) = rw f

opened-finish : {w : Wait} {x : Tree} {a : List Lexeme} {i : ℕ} {o : Option Lexeme} (d : Part w x a i o) (qs : List Tree) (c : List Lexeme) (fs : List Frame) → o ≡ None → absorbs w ≡ None → finish (Some (opened d (frame w qs c ∷ fs))) ≡ close_all (frame w qs c ∷ fs) x a
opened-finish {w = w} {x = x} {a = a} (closed k) qs c fs q u = ap (λ z. finish (Some z)) (complete-have w qs c fs x a u)
opened-finish {w = w} {i = i} (headed {v = v} {ps = ps} {a = a} form p e) qs c fs q u = head-finish (subst (λ z. EndsHead v i form z) q e)
  where
    head-finish : EndsHead v i form None → finish_due (frame v ps a ∷ frame w qs c ∷ fs) ≡ close_all (frame w qs c ∷ fs) (built form (trees ps) a) a
    head-finish (head_at_end f) = rw f
opened-finish {w = w} {i = i} (finished {v = v} {x = x} {ps = ps} {a = a} {b = b} form p d k u' e) qs c fs q u =
    opened-finish d ps a (frame w qs c ∷ fs) q u'
    ∙ finishes-round v ps a x b w qs c fs form i (subst (λ z. Ends v x i form z) q e)

pub From-zero : (a : List Lexeme) → From 0 a
From-zero [] = tt
From-zero (t ∷ a) = (omega arith, From-zero a)

-- what the tables derive as an expression is accepted, with its tree
pub part-parses : {x : Tree} {a : List Lexeme} → Part Wait.Whole x a 0 None → is_expression (shape x) ≡ true → parse a ≡ Some x
part-parses {x = x} {a = a} d e =
    let t : a ≡ rest_part d = tied-part d in
    let r : run (Some start) (rest_part d) ≡ Some (opened d (frame Wait.Whole [] [] ∷ [])) =
    ap (λ z. run (Some start) z) (sym (append-nil (rest_part d))) ∙ reads-part d [] [] [] [] refl (From-zero (rest_part d))
    in
    ap parse t ∙ (ap finish r ∙ (opened-finish d [] [] [] refl refl ∙ rw e))
