-- Bounds that are read as operands, fields and updates.
use Rattle.std.proofs.Common.{◌≡◌, ℕ, ◌⊎◌, inl, inr, Bool, true, false, List, [], ◌∷◌, ◌++◌, Option, Some, None, refl, ap, subst, ◌∙◌, append_assoc}
use Rattle.std.specs.Prelude.{cond, IsTrue}
use Rattle.tla_symbols.specs.declared.op.Op.{Op}
use Rattle.tla_symbols.specs.declared.place.Fix.{Fix}
use Rattle.tla_symbols.specs.declared.lexeme.LexKind.{LexKind}
use Rattle.tla_symbols.specs.declared.lexeme.Mark.{Mark}
use Rattle.tla_symbols.specs.declared.lexeme.Lexeme.{Lexeme}
use Rattle.tla_symbols.specs.Symbols.{is_definable}
use Rattle.tla_tree.specs.declared.form.Form.{Form}
use Rattle.tla_tree.specs.Syntax.{Tree, Trees, Node, Nil, Cons, trees}
use Rattle.tla_tree.specs.Edges.{Edge, Operator, operator, AllMeet, right_edge}
use Rattle.tla_tree.specs.Shapes.{IsBareMember, BindsOne, HasOnePart, HasParts, AreBareSegments, IsPlainName, ArePlainNames, IsBinder}
use Rattle.tla_tree.specs.Lexemes.{IsName, IsMark, IsSymbol, place, built, one, two, then, joined}
use Rattle.tla_tree.specs.Headings.{DerivesNameList, last_name, more_names, DerivesTupleNames, tuple_names}
use Rattle.tla_tree.specs.Derivation.{Derives, node, Spells, identifier, infixed}
use Rattle.precedence.specs.declared.Choice.TheVariants as Choice
use Rattle.precedence.specs.Choices.{choose as choose_order}
use Rattle.precedence.proofs.Orders.{choose-ends, choose-waits}
use Rattle.expr_grammar.specs.declared.wait.Wait.{Wait}
use Rattle.expr_grammar.specs.declared.wait.Mode.TheVariants as Mode
use Rattle.expr_grammar.specs.declared.wait.Start.{Start}
use Rattle.expr_grammar.specs.declared.wait.MarkMove.TheVariants as MarkMove
use Rattle.expr_grammar.specs.declared.wait.Conversion.TheVariants as Conversion
use Rattle.expr_grammar.specs.declared.wait.PartMove.{PartMove}
use Rattle.expr_grammar.specs.declared.wait.Role.{Role}
use Rattle.expr_grammar.specs.declared.wait.Shape.{Shape}
use Rattle.expr_grammar.specs.Kinds.{is_comma, is_member, is_maps_to, is_colon}
use Rattle.expr_grammar.specs.Tables.{mode, list_of, begins, at_mark, absorbs, role, edge_of, lead, takes, choice, plain_shape, is_plain, is_plain_name, are_plain_names, infix_shape, member_shape, is_binder, shape, is_expression, name_leaf, names_of, as_bound, in_square, keeps, if_goes, after_brace, at_part}
use Rattle.expr_grammar.specs.Machine.{inside, is_operator}
use Rattle.expr_laws.proofs.Tabled.{promised, IsPlain, Ends, Part, closed, finished, Closed, done, Begun, pushed, led_push, shifted, went, converting}
use Rattle.expr_laws.proofs.Asking.{continues, Follows, ends-expression, AllFit}
use Rattle.expr_laws.proofs.Starting.{start-at, mark-role, mode-absorbs, all-fit, trees-snoc, joined-snoc, renamed, renamed-closed, Listing, tuple-first, tuple-next}
use Rattle.expr_laws.proofs.Bounding.{part-at, Ended}
use Rattle.expr_laws.proofs.Naming.{name-identifier, name-part}
use Rattle.expr_laws.proofs.KindTests.{member-is}

-- a bound of one name or tuple, read as an operand
pub record MemberRead (v : Wait) (y : Tree) (a : List Lexeme) (i : ℕ) (o : Option Lexeme) : Type 0 where
  pub e : Tree
  pub part : Part v e a i o
  pub member : shape e ≡ Shape.Member
  pub is : as_bound e a ≡ y

-- names in brackets of a tuple, read as its entries
pub record EntriesRead (w : Wait) (ps : List Tree) (xs : Trees) (c a : List Lexeme) (u : Lexeme) (i : ℕ) : Type 0 where
  pub ys : Trees
  pub part : Closed w (built Form.Tuple (joined (trees ps) ys) (c ++ (a ++ u ∷ []))) (c ++ (a ++ u ∷ [])) i
  pub is : names_of ys ≡ xs
  pub plain : are_plain_names ys ≡ true

pub more-plain : (x : Tree) (ys : Trees) → is_plain_name x ≡ true → are_plain_names ys ≡ true → are_plain_names (Cons x ys) ≡ true
more-plain x Nil h k = cc
more-plain x (Cons y ys) h k = rw h k

pub read-entries : {xs : Trees} {a : List Lexeme} → DerivesNameList xs a → (w v v' : Wait) (ps : List Tree) (c : List Lexeme) (i : ℕ) (u : Lexeme) → IsMark u Mark.RightAngle → Listing v v' Form.Tuple u → Listing v' v' Form.Tuple u → Begun w v ps c i → EntriesRead w ps xs c a u i
read-entries (last_name {n = n} k) w v v' ps c i u m l l' b = record {
  ys = one (name-identifier n);
  is = refl;
  plain = refl;
  part = renamed-closed _ _ _ _ _ (trees-snoc ps (name-identifier n)) refl
      (done u Form.Tuple Conversion.Keep b (part-at v (name-identifier n) (n ∷ []) i (Some u) u l.plain.0 refl (name-part n k v i (Some u) l.due (ap continues m))) (mark-role u _ m refl) (l.closes (name-identifier n) refl) l.plain);
}
read-entries (more_names {n = n} {t = t} {xs = xs} {a = a} k e d) w v v' ps c i u m l l' b =
    let q : Begun w v' (ps ++ name-identifier n ∷ []) (c ++ (n ∷ t ∷ [])) i =
    went t Conversion.Keep b (part-at v (name-identifier n) (n ∷ []) i (Some t) t l.plain.0 refl (name-part n k v i (Some t) l.due (ap continues e))) (mark-role t _ e refl) (l.goes (name-identifier n) t refl e) l.plain l.own
    in
    let r : EntriesRead w (ps ++ name-identifier n ∷ []) xs (c ++ (n ∷ t ∷ [])) a u i = read-entries d w v' v' (ps ++ name-identifier n ∷ []) (c ++ (n ∷ t ∷ [])) i u m l' l' q in
    record {
      ys = Cons (name-identifier n) r.ys;
      is = ap (λ z. Cons (name_leaf n) z) r.is;
      plain = more-plain (name-identifier n) r.ys refl r.plain;
      part = renamed-closed _ _ _ _ _ (joined-snoc ps (name-identifier n) r.ys) (simp append_assoc) r.part;
    }

-- `\in` between a binder and its set
pub record MemberWait (v : Wait) : Type 0 where
  pub due : mode v ≡ Mode.Operand
  pub waits : (q : Edge) → choice v q ≡ Choice.Waits
  pub out : list_of v ≡ None
  pub quiet : (r : Role) → takes v r ≡ false

pub member-lead : (v : Wait) (x : Tree) (b : List Lexeme) (i : ℕ) (m : Lexeme) → MemberWait v → IsSymbol m Op.In → is_expression (shape x) ≡ true → Part v x b i (Some m) → Begun v (Wait.InfixOperand m) (x ∷ []) (b ++ m ∷ []) i
member-lead v x b i m w k s d =
    let r : role m.kind ≡ Role.Symbol Op.In Fix.Infix = ap role k in
    led_push m d (ap is_operator r) (w.quiet (role m.kind)) (mode-absorbs v w.due) (w.waits (edge_of (role m.kind))) s (ap (λ z. lead z m) r) refl

pub member-shape : (m : Lexeme) (x y : Tree) → IsSymbol m Op.In → is_binder x ≡ true → infix_shape m (two x y) ≡ Shape.Member
member-shape m x y k e = rw (k, e)

-- what begins with `[x \in S` or `{x \in S`
pub square-wait : (flag : Bool) → MemberWait (Wait.SquareFirst flag)
square-wait flag = record { due = refl; waits = λ q. refl; out = refl; quiet = λ r. refl }

pub brace-wait : MemberWait Wait.BraceFirst
brace-wait = record { due = refl; waits = λ q. refl; out = refl; quiet = λ r. refl }

pub member-follows : (i : ℕ) (m : Lexeme) (x : Tree) (o : Option Lexeme) → Ended i o → Follows i (operator m.kind Fix.Infix ∷ right_edge x) o
member-follows i m x o f = f (operator m.kind Fix.Infix ∷ right_edge x)

pub infix-ends : (op : Op) (m : Lexeme) (x : Tree) (i : ℕ) (o : Option Lexeme) → is_expression (shape x) ≡ true → Follows i (operator m.kind Fix.Infix ∷ right_edge x) o → Ends (Wait.InfixOperand m) x i (Form.Infix m) o
infix-ends op m x i o s f = ends-expression (Wait.InfixOperand m) x i (Form.Infix m) (operator m.kind Fix.Infix ∷ right_edge x) o s refl (λ n. refl) (λ v z l. (refl, choose-ends (operator m.kind Fix.Infix) (edge_of v) l.0)) refl f

pub single-name : {xs : Trees} {a : List Lexeme} → DerivesNameList xs a → (x : Tree) (p : List Lexeme) → BindsOne (built Form.Bound (then xs x) p) → (n : Lexeme) × (xs ≡ one (name_leaf n)) × (a ≡ n ∷ []) × IsName n
single-name (last_name {n = n} e) x p o = (n, refl, refl, e)
single-name (more_names e k (last_name e')) x p o = absurd o
single-name (more_names e k (more_names e' k' (last_name e''))) x p o = absurd o
single-name (more_names e k (more_names e' k' (more_names e'' k'' d))) x p o = absurd o

-- not the bare form, not its shape
pub plain-names : (xs : Trees) → is_plain (plain_shape xs) ≡ true → HasOnePart xs × AreBareSegments xs
plain-names (Cons (Node (Form.Segment n) s Nil) Nil) h = (tt, (tt, tt))
plain-names _ h = cc

pub plain-name : (x : Tree) → is_plain_name x ≡ true → IsPlainName x
plain-name (Node Form.Identifier s ps) h = plain-names ps h
plain-name (Node _ s ps) h = cc

pub all-plain : (xs : Trees) → are_plain_names xs ≡ true → HasParts xs × ArePlainNames xs
all-plain Nil h = cc
all-plain (Cons x Nil) h = (tt, (plain-name x h, tt))
all-plain (Cons x (Cons y rest)) h = by (is_plain_name x) refl h (λ k. all-plain (Cons y rest) k)
  where
    by : (b : Bool) → is_plain_name x ≡ b → cond b (are_plain_names (Cons y rest)) false ≡ true → (are_plain_names (Cons y rest) ≡ true → HasParts (Cons y rest) × ArePlainNames (Cons y rest)) → HasParts (Cons x (Cons y rest)) × ArePlainNames (Cons x (Cons y rest))
    by true e k r = (tt, (plain-name x e, (r k).1))
    by false e k r = cc

pub binder-is : (x : Tree) → is_binder x ≡ true → IsBinder x
binder-is (Node Form.Identifier s ps) h = plain-names ps h
binder-is (Node Form.Tuple s ps) h = all-plain ps h
binder-is (Node _ s ps) h = cc

pub member-bare : (m : Lexeme) (x y : Tree) (b : Bool) → cond (is_member m.kind) (is_binder x) false ≡ b → b ≡ true → (m.kind ≡ LexKind.Sym Op.In) × IsBinder x
member-bare m x y b e h = by (is_member m.kind) refl (e ∙ h)
  where
    by : (c : Bool) → is_member m.kind ≡ c → cond c (is_binder x) false ≡ true → (m.kind ≡ LexKind.Sym Op.In) × IsBinder x
    by true k l = (member-is m.kind k, binder-is x l)
    by false k l = cc

abbrev pub is_member_shape : Shape → Bool
is_member_shape Shape.Member = true
is_member_shape _ = false

pub plain-no_member : (xs : Trees) → is_member_shape (plain_shape xs) ≡ false
plain-no_member (Cons (Node (Form.Segment n) s Nil) Nil) = refl
plain-no_member _ = refl

pub member-no : (t : Lexeme) (x y : Tree) → ((t.kind ≡ LexKind.Sym Op.In) × IsBinder x → ⊥) → is_member_shape (infix_shape t (two x y)) ≡ false
member-no t x y n = by (cond (is_member t.kind) (is_binder x) false) refl
  where
    by : (b : Bool) → cond (is_member t.kind) (is_binder x) false ≡ b → is_member_shape (member_shape b) ≡ false
    by true e = absurd (n (member-bare t x y true e refl))
    by false e = refl

pub spells-member : {f : Form} {xs : Trees} {a : List Lexeme} {i : ℕ} {o : Option Lexeme} → Spells f xs a i o → (IsBareMember (Node f (place a) xs) → ⊥) → is_member_shape (shape (Node f (place a) xs)) ≡ false
spells-member (identifier {xs = xs} d) n = plain-no_member xs
spells-member (infixed {x = x} {y = y} t k h e j m d d') n = member-no t x y n
spells-member _ n = refl

pub derives-member : {x : Tree} {a : List Lexeme} {i : ℕ} {o : Option Lexeme} → Derives x a i o → (IsBareMember x → ⊥) → is_member_shape (shape x) ≡ false
derives-member (node s) n = spells-member s n

pub after-brace : (sh : Shape) (k : LexKind) → is_member_shape sh ≡ false → after_brace sh k ≡ if_goes (is_colon k) (keeps Wait.ImageBounds)
after-brace Shape.Member k h = cc
after-brace _ k h = refl

pub image-colon : (x : Tree) (c : Lexeme) → is_expression (shape x) ≡ true → is_member_shape (shape x) ≡ false → IsMark c Mark.Colon → at_part Wait.BraceFirst (shape x) c ≡ keeps Wait.ImageBounds
image-colon x c s n k = rw (s, after-brace (shape x) c.kind n, k)

abbrev pub closes_with : Form → PartMove
closes_with form = PartMove.Done form Conversion.Keep

pub image-spelled : (front c' : List Lexeme) (t : Lexeme) (a : List Lexeme) (c : Lexeme) (b : List Lexeme) (u : Lexeme) → front ++ c' ≡ (t ∷ (a ++ c ∷ [])) ++ b → front ++ (c' ++ u ∷ []) ≡ t ∷ (a ++ c ∷ (b ++ u ∷ []))
image-spelled front c' t a c b u e =
    let k : front ++ (c' ++ u ∷ []) ≡ (front ++ c') ++ u ∷ [] = simp append_assoc in
    let l : ((t ∷ (a ++ c ∷ [])) ++ b) ++ u ∷ [] ≡ t ∷ (a ++ c ∷ (b ++ u ∷ [])) = simp append_assoc in
    k ∙ (ap (λ z. z ++ u ∷ []) e ∙ l)

pub function-spelled : (t : Lexeme) (a : List Lexeme) (m : Lexeme) (b : List Lexeme) (u : Lexeme) → (t ∷ (a ++ m ∷ [])) ++ (b ++ u ∷ []) ≡ t ∷ (a ++ m ∷ (b ++ u ∷ []))
function-spelled t a m b u = simp append_assoc

-- the bounds of a function, up to the mark after them
pub record FunctionRead (w : Wait) (xs : Trees) (c a : List Lexeme) (m : Lexeme) (i : ℕ) : Type 0 where
  pub qs : List Tree
  pub is : trees qs ≡ xs
  pub begun : Begun w Wait.FunctionBody qs (c ++ (a ++ m ∷ [])) i

-- the frames of fields
pub record FieldWaits (mark : Mark) : Type 0 where
  pub value : Lexeme → Lexeme → Wait
  pub next : Wait
  pub form : Form
  pub due : (n m : Lexeme) → mode (value n m) ≡ Mode.Operand
  pub waits : (n m : Lexeme) (q : Edge) → choice (value n m) q ≡ Choice.Waits
  pub out : (n m : Lexeme) → IsPlain (value n m)
  pub goes : (n m : Lexeme) (x : Tree) (t : Lexeme) → is_expression (shape x) ≡ true → IsMark t Mark.Comma → at_part (value n m) (shape x) t ≡ PartMove.Goes next (Conversion.AsField n m)
  pub closes : (n m : Lexeme) (x : Tree) (u : Lexeme) → is_expression (shape x) ≡ true → IsMark u Mark.RightBracket → at_part (value n m) (shape x) u ≡ PartMove.Done form (Conversion.AsField n m)
  pub own : promised next ≡ []
  pub again : (w : Wait) (ps : List Tree) (c : List Lexeme) (i : ℕ) (n m : Lexeme) → IsName n → IsMark m mark → Begun w next ps c i → Begun w (value n m) ps (c ++ n ∷ m ∷ []) i

pub record-again : (w : Wait) (ps : List Tree) (c : List Lexeme) (i : ℕ) (n m : Lexeme) → IsName n → IsMark m Mark.MapsTo → Begun w Wait.RecordNext ps c i → Begun w (Wait.RecordValue n m) ps (c ++ n ∷ m ∷ []) i
record-again w ps c i n m e g b =
    let q : Begun w (Wait.RecordNamed n) ps (c ++ n ∷ []) i = shifted n b refl (rw e) refl refl in
    subst (λ z. Begun w (Wait.RecordValue n m) ps z i) (append_assoc c (n ∷ []) (m ∷ [])) (shifted m q refl (rw g) refl refl)

pub record-set-again : (w : Wait) (ps : List Tree) (c : List Lexeme) (i : ℕ) (n m : Lexeme) → IsName n → IsMark m Mark.Colon → Begun w Wait.RecordSetNext ps c i → Begun w (Wait.RecordSetValue n m) ps (c ++ n ∷ m ∷ []) i
record-set-again w ps c i n m e g b =
    let q : Begun w (Wait.RecordSetNamed n) ps (c ++ n ∷ []) i = shifted n b refl (rw e) refl refl in
    subst (λ z. Begun w (Wait.RecordSetValue n m) ps z i) (append_assoc c (n ∷ []) (m ∷ [])) (shifted m q refl (rw g) refl refl)

abbrev pub record-waits : FieldWaits Mark.MapsTo
record-waits = record {
  value = Wait.RecordValue;
  next = Wait.RecordNext;
  form = Form.Record;
  due = λ n m. refl;
  waits = λ n m q. refl;
  out = λ n m. (refl, refl);
  goes = λ n m x t s e. rw (s, e);
  closes = λ n m x u s e. rw (s, e);
  own = refl;
  again = record-again;
}

abbrev pub record-set-waits : FieldWaits Mark.Colon
record-set-waits = record {
  value = Wait.RecordSetValue;
  next = Wait.RecordSetNext;
  form = Form.RecordSet;
  due = λ n m. refl;
  waits = λ n m q. refl;
  out = λ n m. (refl, refl);
  goes = λ n m x t s e. rw (s, e);
  closes = λ n m x u s e. rw (s, e);
  own = refl;
  again = record-set-again;
}

pub member-fit : (m : Lexeme) → IsSymbol m Op.In → (qs : List Edge) → AllMeet (Operator Op.In Fix.Infix) qs → AllFit (Wait.InfixOperand m) qs
member-fit m k qs j = all-fit (Wait.InfixOperand m) (Operator Op.In Fix.Infix) (λ q l. ap (λ h. choose_order h q) (ap (λ h. operator h Fix.Infix) k) ∙ choose-waits (Operator Op.In Fix.Infix) q l) qs j

pub member-of-name : (v : Wait) → MemberWait v → (n m : Lexeme) → IsName n → IsSymbol m Op.In → (x : Tree) (b : List Lexeme) (i : ℕ) (o : Option Lexeme) → is_expression (shape x) ≡ true → Part (Wait.InfixOperand m) x b i o → Ended i o → MemberRead v (built Form.Bound (two (name_leaf n) x) (n ∷ m ∷ b)) (n ∷ m ∷ b) i o
member-of-name v w n m e k x b i o s d f = record {
  e = built (Form.Infix m) (two (name-identifier n) x) (n ∷ m ∷ b);
  member = member-shape m (name-identifier n) x k refl;
  is = refl;
  part = finished (Form.Infix m) (member-lead v (name-identifier n) (n ∷ []) i m w k refl (name-part n e v i (Some m) w.due (ap continues k))) d tt refl (infix-ends Op.In m x i o s (member-follows i m x o f));
}

pub member-of-tuple : {xs : Trees} {a : List Lexeme} → DerivesTupleNames xs a → (v : Wait) → MemberWait v → (m : Lexeme) → IsSymbol m Op.In → (x : Tree) (b : List Lexeme) (i : ℕ) (o : Option Lexeme) → is_expression (shape x) ≡ true → Part (Wait.InfixOperand m) x b i o → Ended i o → MemberRead v (built Form.TupleBound (then xs x) (a ++ m ∷ b)) (a ++ m ∷ b) i o
member-of-tuple (tuple_names {xs = xs} {a = a} t u kt ku d) v w m k x b i o s p f =
    let r : EntriesRead v [] xs (t ∷ []) a u i = read-entries d v (Wait.AngleFirst true) Wait.AngleNext [] (t ∷ []) i u ku (tuple-first true u ku) (tuple-next u ku) (pushed (start-at v t _ w.due kt) refl) in
    let e : Tree = built Form.Tuple r.ys (t ∷ (a ++ u ∷ [])) in
    record {
      e = built (Form.Infix m) (two e x) ((t ∷ (a ++ u ∷ [])) ++ m ∷ b);
      member = member-shape m e x k r.plain;
      is = ap (λ h. built Form.TupleBound (then h x) ((t ∷ (a ++ u ∷ [])) ++ m ∷ b)) r.is;
      part =
          renamed (Form.Infix m) (two e x) (two e x) (((t ∷ (a ++ u ∷ [])) ++ m ∷ []) ++ b) ((t ∷ (a ++ u ∷ [])) ++ m ∷ b) refl (append_assoc (t ∷ (a ++ u ∷ [])) (m ∷ []) b)
          (finished (Form.Infix m) (member-lead v e (t ∷ (a ++ u ∷ [])) i m w k refl (closed r.part)) p tt refl (infix-ends Op.In m x i o s (member-follows i m x o f)));
    }

-- after the first bound in brackets
pub first-goes : (w : Wait) (flag : Bool) (t n : Lexeme) (y : Tree) (a : List Lexeme) (i : ℕ) (o : Option Lexeme) (u : Wait) → o ≡ Some n → is_operator (role n.kind) ≡ false → shape y ≡ Shape.Bound → ((e : Tree) → shape e ≡ Shape.Member → at_part (Wait.SquareFirst flag) (shape e) n ≡ PartMove.Goes u Conversion.AsBound) → at_part (Wait.FunctionNames flag) (shape y) n ≡ PartMove.Goes u Conversion.Keep → promised u ≡ [] → Begun w (Wait.SquareFirst flag) [] (t ∷ []) i → MemberRead (Wait.SquareFirst flag) y a i o ⊎ Part (Wait.FunctionNames flag) y a i o → Begun w u (y ∷ []) (t ∷ (a ++ n ∷ [])) i
first-goes w flag t n y a i o u q r s g h own b (inl p) =
    subst (λ z. Begun w u (z ∷ []) (t ∷ (a ++ n ∷ [])) i) p.is
    (went n Conversion.AsBound b (subst (λ z. Part (Wait.SquareFirst flag) p.e a i z) q p.part) r (g p.e p.member) (refl, refl) own)
first-goes w flag t n y a i o u q r s g h own b (inr p) =
    went n Conversion.Keep (converting flag b) (subst (λ z. Part (Wait.FunctionNames flag) y a i z) q p) r h (refl, refl) own

pub bounds-more : (front c : List Lexeme) (t : Lexeme) (a : List Lexeme) (t' : Lexeme) (a' : List Lexeme) (m : Lexeme) → front ++ c ≡ (t ∷ (a ++ t' ∷ [])) ++ a' → front ++ (c ++ m ∷ []) ≡ (t ∷ []) ++ ((a ++ t' ∷ a') ++ m ∷ [])
bounds-more front c t a t' a' m e =
    let k : front ++ (c ++ m ∷ []) ≡ (front ++ c) ++ m ∷ [] = simp append_assoc in
    let l : ((t ∷ (a ++ t' ∷ [])) ++ a') ++ m ∷ [] ≡ (t ∷ []) ++ ((a ++ t' ∷ a') ++ m ∷ []) = simp append_assoc in
    k ∙ (ap (λ z. z ++ m ∷ []) e ∙ l)

-- the frame of the steps of an update
pub record StepWait (v : Wait) : Type 0 where
  pub quiet : (t : Lexeme) → begins (mode v) t ≡ Start.NoStart
  pub dot : (t : Lexeme) → IsMark t Mark.Dot → at_mark v t ≡ MarkMove.Shift Wait.StepField
  pub bracket : (t : Lexeme) → IsMark t Mark.LeftBracket → at_mark v t ≡ MarkMove.Push Wait.IndexPart
  pub absorbed : absorbs v ≡ Some Wait.StepNext
  pub out : list_of v ≡ None

pub step-first : StepWait Wait.StepFirst
step-first = record { quiet = λ t. refl; dot = λ t k. rw k; bracket = λ t k. rw k; absorbed = refl; out = refl }

pub step-next : StepWait Wait.StepNext
step-next = record { quiet = λ t. refl; dot = λ t k. rw k; bracket = λ t k. rw k; absorbed = refl; out = refl }

pub step-inside : (v : Wait) (i : ℕ) → list_of v ≡ None → i ≡ inside v i
step-inside v i l = rw l

pub record StepsRead (ps : List Tree) (xs : Trees) (c a : List Lexeme) (i : ℕ) : Type 0 where
  pub qs : List Tree
  pub is : trees qs ≡ joined (trees ps) xs
  pub begun : Begun Wait.ExceptUpdates Wait.StepNext qs (c ++ a) i

pub postfix-no_infix : (op : Op) → IsTrue (is_definable op Fix.Postfix) → is_definable op Fix.Infix ≡ false
postfix-no_infix Op.PlusClosure h = refl
postfix-no_infix Op.StarClosure h = refl
postfix-no_infix Op.SharpClosure h = refl
postfix-no_infix _ h = cc

pub plain-maps : (flag : Bool) (n m : Lexeme) → IsMark m Mark.MapsTo → in_square flag (Shape.Plain n) m ≡ PartMove.Goes (Wait.RecordValue n m) Conversion.Drop
plain-maps flag n m g =
    let a : is_comma m.kind ≡ false = ap is_comma g in
    let b : is_maps_to m.kind ≡ true = ap is_maps_to g in
    rw (a, b)

pub plain-colon : (flag : Bool) (n m : Lexeme) → IsMark m Mark.Colon → in_square flag (Shape.Plain n) m ≡ PartMove.Goes (Wait.RecordSetValue n m) Conversion.Drop
plain-colon flag n m g =
    let a : is_comma m.kind ≡ false = ap is_comma g in
    let b : is_maps_to m.kind ≡ false = ap is_maps_to g in
    let c : is_colon m.kind ≡ true = ap is_colon g in
    rw (a, b, c)
