-- Names and bounds, as frames read them.
use Rattle.std.proofs.Common.{◌≡◌, ℕ, ◌⊎◌, inl, inr, Bool, true, false, List, [], ◌∷◌, ◌++◌, Option, Some, None, refl, ap, subst, ◌∙◌, append_assoc, arith}
use Rattle.std.specs.Prelude.{nat_lt}
use Rattle.std.proofs.lemmas.Bool.Decides.{nat_tests}
use Rattle.tla_symbols.specs.declared.op.Op.{Op}
use Rattle.tla_symbols.specs.declared.place.Fix.{Fix}
use Rattle.tla_symbols.specs.declared.lexeme.Mark.{Mark}
use Rattle.tla_symbols.specs.declared.lexeme.Lexeme.{Lexeme}
use Rattle.tla_tree.specs.declared.form.Form.{Form}
use Rattle.tla_tree.specs.Syntax.{Tree, Trees, Nil, Cons, trees}
use Rattle.tla_tree.specs.Edges.{Edge, Operator, Open, Meets, right_edge, right_edge_of_last}
use Rattle.tla_tree.specs.Shapes.{BindsOne}
use Rattle.tla_tree.specs.Lexemes.{IsName, IsMark, built, then, joined}
use Rattle.tla_tree.specs.Headings.{DerivesNameList, last_name, more_names, DerivesNames, names, DerivesTupleNames, tuple_names, DerivesBinder, binder_name, binder_tuple}
use Rattle.tla_tree.specs.Derivation.{DerivesFactors, last_factor, more_factors}
use Rattle.precedence.specs.declared.Choice.TheVariants as Choice
use Rattle.precedence.specs.Choices.{op_number, fix_number, same_op, same_edge, meets, joins, choose as choose_order}
use Rattle.precedence.proofs.Orders.{meets-true}
use Rattle.expr_grammar.specs.declared.wait.Binding.{Binding}
use Rattle.expr_grammar.specs.declared.wait.Wait.{Wait}
use Rattle.expr_grammar.specs.declared.wait.Mode.TheVariants as Mode
use Rattle.expr_grammar.specs.declared.wait.Start.{Start}
use Rattle.expr_grammar.specs.declared.wait.MarkMove.TheVariants as MarkMove
use Rattle.expr_grammar.specs.declared.wait.Conversion.TheVariants as Conversion
use Rattle.expr_grammar.specs.declared.wait.PartMove.{PartMove}
use Rattle.expr_grammar.specs.declared.wait.Role.{Role}
use Rattle.expr_grammar.specs.declared.wait.Shape.{Shape}
use Rattle.expr_grammar.specs.Kinds.{is_comma, is_maps_to, is_colon}
use Rattle.expr_grammar.specs.Tables.{mode, fresh, child, list_of, begins, at_mark, edge_of, takes, choice, shape, is_expression, name_leaf, after_square, in_square, or_finish, takes_more, takes_none, takes_set, at_part}
use Rattle.expr_grammar.specs.Machine.{inside}
use Rattle.expr_laws.proofs.Tabled.{promised, IsPlain, EndsHead, head_by_column, head_by_mark, Part, headed, Begun, fresh_child, shifted, leafed}
use Rattle.expr_laws.proofs.Asking.{Follows, follows-none}
use Rattle.expr_laws.proofs.Starting.{trees-snoc, joined-snoc, renamed}

pub part-at : (v : Wait) (x : Tree) (b : List Lexeme) (i : ℕ) (o : Option Lexeme) (u : Lexeme) → list_of v ≡ None → o ≡ Some u → Part v x b i o → Part v x b (inside v i) (Some u)
part-at v x b i o u l q d = let e : i ≡ inside v i = rw l in subst (λ z. Part v x b z (Some u)) e (subst (λ z. Part v x b i z) q d)

pub ends-takes : (r : Role) → choice Wait.Factor (edge_of r) ≡ Choice.Ends → takes Wait.Factor r ≡ false
unfolding meets joins same_edge same_op op_number fix_number choose_order
ends-takes (Role.Symbol Op.Product Fix.Infix) h = cc
ends-takes _ h = refl

pub last-factors : {xs : Trees} {a : List Lexeme} {i : ℕ} {o : Option Lexeme} → DerivesFactors xs a i o → (x : Tree) → right_edge_of_last (Cons x xs) ≡ right_edge_of_last xs
last-factors (last_factor m d) x = refl
last-factors (more_factors t k m j d rest) x = refl

-- what may follow a part of a frame of marks, whatever stands on its edge
abbrev pub Ended : ℕ → Option Lexeme → Type 0
Ended i o = (qs : List Edge) → Follows i qs o

-- names that a frame reads, with its commas
pub record NameFrame (v vc : Wait) : Type 0 where
  pub quiet : (t : Lexeme) → begins (mode v) t ≡ Start.NoStart
  pub comma : (t : Lexeme) → IsMark t Mark.Comma → at_mark v t ≡ MarkMove.Shift vc
  pub quiet_comma : (t : Lexeme) → begins (mode vc) t ≡ Start.NoStart
  pub again : (n : Lexeme) → IsName n → at_mark vc n ≡ MarkMove.Leaf (Form.Name n) v
  pub out : list_of v ≡ None
  pub out_comma : list_of vc ≡ None
  pub own : promised v ≡ []
  pub own_comma : promised vc ≡ []

pub record NamesRead (w v : Wait) (ps : List Tree) (xs : Trees) (c a : List Lexeme) (i : ℕ) : Type 0 where
  pub qs : List Tree
  pub is : trees qs ≡ joined (trees ps) xs
  pub begun : Begun w v qs (c ++ a) i

pub read-names : {xs : Trees} {a : List Lexeme} → DerivesNameList xs a → (w v vc : Wait) (ps : List Tree) (c : List Lexeme) (i : ℕ) → NameFrame v vc → ((n : Lexeme) → IsName n → Begun w v (ps ++ name_leaf n ∷ []) (c ++ n ∷ []) i) → NamesRead w v ps xs c a i
read-names (last_name {n = n} k) w v vc ps c i f start = record { qs = ps ++ name_leaf n ∷ []; is = trees-snoc ps (name_leaf n); begun = start n k }
read-names (more_names {n = n} {t = t} {xs = xs} {a = a} k l d) w v vc ps c i f start =
    let b : Begun w vc (ps ++ name_leaf n ∷ []) ((c ++ n ∷ []) ++ t ∷ []) i = shifted t (start n k) (f.quiet t) (f.comma t l) f.out f.own_comma in
    let r : NamesRead w v (ps ++ name_leaf n ∷ []) xs ((c ++ n ∷ []) ++ t ∷ []) a i =
    read-names d w v vc (ps ++ name_leaf n ∷ []) ((c ++ n ∷ []) ++ t ∷ []) i f (λ m e. leafed m (Form.Name m) b (f.quiet_comma m) (f.again m e) f.out_comma f.own)
    in
    let e : ((c ++ n ∷ []) ++ t ∷ []) ++ a ≡ c ++ n ∷ t ∷ a = simp append_assoc in
    record { qs = r.qs; is = r.is ∙ joined-snoc ps (name_leaf n) xs; begun = subst (λ z. Begun w v r.qs z i) e r.begun }

pub binding-frame : (b : Binding) → takes_more b ≡ true → NameFrame (Wait.BindingRead b) (Wait.BindingComma b)
binding-frame b h = record { quiet = λ t. refl; comma = λ t e. rw (e, h); quiet_comma = λ t. refl; again = λ n e. rw e; out = refl; out_comma = refl; own = refl; own_comma = refl }

pub tuple-frame : (b : Binding) → NameFrame (Wait.TupleRead b) (Wait.TupleComma b)
tuple-frame b = record { quiet = λ t. refl; comma = λ t e. rw e; quiet_comma = λ t. refl; again = λ n e. rw e; out = refl; out_comma = refl; own = refl; own_comma = refl }

-- the first name where names are due
pub binding-start : (w : Wait) (b : Binding) (i : ℕ) → child w ≡ Some (fresh (Wait.BindingStart b)) → (n : Lexeme) → IsName n → Begun w (Wait.BindingRead b) (name_leaf n ∷ []) (n ∷ []) i
binding-start w b i h n e = leafed n (Form.Name n) (fresh_child (fresh (Wait.BindingStart b)) h) refl (rw e) refl refl

pub names-end : (b : Binding) (i : ℕ) (t : Lexeme) → takes_none b ≡ true → IsMark t Mark.Colon → EndsHead (Wait.BindingRead b) i Form.Names (Some t)
names-end b i t h k = by-column (nat_lt t.col i) refl
  where
    by-column : (c : Bool) → nat_lt t.col i ≡ c → EndsHead (Wait.BindingRead b) i Form.Names (Some t)
    by-column true l = head_by_column (rw (k, h)) (grind (arith, nat_tests))
    by-column false l = head_by_mark (grind (arith, nat_tests)) refl (rw k) (rw (k, h))

pub tuple-names-end : (i : ℕ) (t : Lexeme) → IsMark t Mark.Colon → EndsHead (Wait.TupleClosed Binding.One) i Form.TupleNames (Some t)
tuple-names-end i t k = by-column (nat_lt t.col i) refl
  where
    by-column : (c : Bool) → nat_lt t.col i ≡ c → EndsHead (Wait.TupleClosed Binding.One) i Form.TupleNames (Some t)
    by-column true l = head_by_column (rw k) (grind (arith, nat_tests))
    by-column false l = head_by_mark (grind (arith, nat_tests)) refl (rw k) (rw k)

pub names-part : {x : Tree} {a : List Lexeme} → DerivesNames x a → (w : Wait) (b : Binding) (i : ℕ) (t : Lexeme) → child w ≡ Some (fresh (Wait.BindingStart b)) → takes_more b ≡ true → takes_none b ≡ true → IsMark t Mark.Colon → Part w x a i (Some t)
names-part (names {xs = xs} {a = a} d) w b i t h m n k =
    let r : NamesRead w (Wait.BindingRead b) [] xs [] a i = read-names d w (Wait.BindingRead b) (Wait.BindingComma b) [] [] i (binding-frame b m) (binding-start w b i h) in
    renamed Form.Names (trees r.qs) xs a a r.is refl (headed Form.Names r.begun (names-end b i t n k))

pub names-shape : {x : Tree} {a : List Lexeme} → DerivesNames x a → shape x ≡ Shape.Names
names-shape (names d) = refl

pub read-tuple : {xs : Trees} {a : List Lexeme} → DerivesTupleNames xs a → (w : Wait) (b : Binding) (i : ℕ) → child w ≡ Some (fresh (Wait.BindingStart b)) → takes_set b ≡ true → NamesRead w (Wait.TupleClosed b) [] xs [] a i
read-tuple (tuple_names {xs = xs} {a = a} t u k l d) w b i h s =
    let start : Begun w (Wait.TupleComma b) [] (t ∷ []) i = shifted t (fresh_child (fresh (Wait.BindingStart b)) h) refl (rw (k, s)) refl refl in
    let r : NamesRead w (Wait.TupleRead b) [] xs (t ∷ []) a i = read-names d w (Wait.TupleRead b) (Wait.TupleComma b) [] (t ∷ []) i (tuple-frame b) (λ n e. leafed n (Form.Name n) start refl (rw e) refl refl) in
    record { qs = r.qs; is = r.is; begun = shifted u r.begun refl (rw l) refl refl }

pub binder-part : {x : Tree} {a : List Lexeme} → DerivesBinder x a → (i : ℕ) (t : Lexeme) → IsMark t Mark.Colon → Part Wait.ChooseFirst x a i (Some t)
binder-part (binder_name {n = n} e) i t k = headed Form.Names (binding-start Wait.ChooseFirst Binding.One i refl n e) (names-end Binding.One i t refl k)
binder-part (binder_tuple {xs = xs} {a = a} d) i t k =
    let r : NamesRead Wait.ChooseFirst (Wait.TupleClosed Binding.One) [] xs [] a i = read-tuple d Wait.ChooseFirst Binding.One i refl refl in
    renamed Form.TupleNames (trees r.qs) xs a a r.is refl (headed Form.TupleNames r.begun (tuple-names-end i t k))

pub binder-shape : {x : Tree} {a : List Lexeme} → DerivesBinder x a → shape x ≡ Shape.Names
binder-shape (binder_name e) = refl
binder-shape (binder_tuple d) = refl

-- parts and a last one
pub trees-then : (qs : List Tree) (x : Tree) (xs : Trees) → trees qs ≡ xs → trees (qs ++ x ∷ []) ≡ then xs x
trees-then qs x xs e = trees-last qs ∙ ap (λ z. then z x) e
  where
    trees-last : (ps : List Tree) → trees (ps ++ x ∷ []) ≡ then (trees ps) x
    trees-last [] = refl
    trees-last (p ∷ ps) = rw (trees-last ps)

-- a frame that takes bounds parted by commas
pub record Bounding (v v' : Wait) (b : Binding) : Type 0 where
  pub starts : child v ≡ Some (fresh (Wait.BindingStart b))
  pub sets : takes_set b ≡ true
  pub more : takes_more b ≡ true
  pub goes : (x : Tree) (t : Lexeme) → shape x ≡ Shape.Bound → IsMark t Mark.Comma → at_part v (shape x) t ≡ PartMove.Goes v' Conversion.Keep
  pub plain : IsPlain v
  pub own : promised v' ≡ []

-- bounds but for the last one, and that
pub record BoundsRead (w : Wait) (ps : List Tree) (xs : Trees) (c a : List Lexeme) (i : ℕ) (o : Option Lexeme) (m : PartMove) (t : Lexeme) : Type 0 where
  pub v : Wait
  pub qs : List Tree
  pub front : List Lexeme
  pub x : Tree
  pub b : List Lexeme
  pub begun : Begun w v qs front i
  pub part : Part v x b i o
  pub is : trees (qs ++ x ∷ []) ≡ joined (trees ps) xs
  pub spelled : front ++ b ≡ c ++ a
  pub ends : at_part v (shape x) t ≡ m
  pub plain : IsPlain v

pub quantifier-start : (w : Wait) (q : Lexeme) → mode w ≡ Mode.Operand → IsMark q Mark.ForAll ⊎ IsMark q Mark.Exists → begins (mode w) q ≡ Start.Push (Wait.QuantifierFirst q)
quantifier-start w q h (inl k) = rw (h, k)
quantifier-start w q h (inr k) = rw (h, k)

pub temporal-start : (w : Wait) (q : Lexeme) → mode w ≡ Mode.Operand → IsMark q Mark.TemporalForAll ⊎ IsMark q Mark.TemporalExists → begins (mode w) q ≡ Start.Push (Wait.TemporalFirst q)
temporal-start w q h (inl k) = rw (h, k)
temporal-start w q h (inr k) = rw (h, k)

pub angle-quiet : (flag : Bool) (u : Lexeme) → IsMark u Mark.RightAngle → begins (mode (Wait.AngleFirst flag)) u ≡ Start.NoStart
angle-quiet flag u l = rw l

-- in brackets, whatever the part
pub in-square : (flag : Bool) (sh : Shape) (t : Lexeme) → is_comma t.kind ≡ false → is_maps_to t.kind ≡ false → is_colon t.kind ≡ false → in_square flag sh t ≡ after_square flag t
in-square flag (Shape.Plain n) t a b c = rw (a, b, c)
in-square flag Shape.Member t a b c = rw (a, b)
in-square flag Shape.Expression t a b c = refl
in-square flag Shape.Names t a b c = refl
in-square flag Shape.Bound t a b c = refl
in-square flag Shape.Arm t a b c = refl
in-square flag Shape.OtherArm t a b c = refl
in-square flag Shape.Instance t a b c = refl
in-square flag Shape.Symbol t a b c = refl
in-square flag Shape.Helper t a b c = refl

pub or-none : (m : PartMove) → or_finish m None ≡ m
or-none PartMove.Refused = refl
or-none _ = refl

pub square-move : (flag : Bool) (x : Tree) (t : Lexeme) (m : PartMove) → is_expression (shape x) ≡ true → in_square flag (shape x) t ≡ m → at_part (Wait.SquareFirst flag) (shape x) t ≡ m
square-move flag x t m s e = rw s (or-none (in_square flag (shape x) t) ∙ e)

pub square-arrow : (flag : Bool) (x : Tree) (m : Lexeme) → is_expression (shape x) ≡ true → IsMark m Mark.Arrow → at_part (Wait.SquareFirst flag) (shape x) m ≡ PartMove.Goes Wait.FunctionTo Conversion.Keep
square-arrow flag x m s l = square-move flag x m _ s (in-square flag (shape x) m (ap is_comma l) (ap is_maps_to l) (ap is_colon l) ∙ rw l)

pub quantifier-bounds : (q t : Lexeme) → IsMark t Mark.Colon → Bounding (Wait.QuantifierFirst q) (Wait.QuantifierNext q) Binding.Either
quantifier-bounds q t k = record { starts = refl; sets = refl; more = refl; goes = λ x u e l. rw (e, l); plain = (refl, refl); own = refl }

pub quantifier-more : (q t : Lexeme) → IsMark t Mark.Colon → Bounding (Wait.QuantifierNext q) (Wait.QuantifierNext q) Binding.Bound
quantifier-more q t k = record { starts = refl; sets = refl; more = refl; goes = λ x u e l. rw (e, l); plain = (refl, refl); own = refl }

pub image-bounds : Bounding Wait.ImageBounds Wait.ImageBounds Binding.Bound
image-bounds = record { starts = refl; sets = refl; more = refl; goes = λ x u e l. rw (e, l); plain = (refl, refl); own = refl }

pub function-bounds : Bounding Wait.FunctionBounds Wait.FunctionBounds Binding.Bound
function-bounds = record { starts = refl; sets = refl; more = refl; goes = λ x u e l. rw (e, l); plain = (refl, refl); own = refl }

pub head-bounds : (n : Lexeme) → Bounding (Wait.FunctionHeadBounds n) (Wait.FunctionHeadBounds n) Binding.Bound
head-bounds n = record { starts = refl; sets = refl; more = refl; goes = λ x u e l. rw (e, l); plain = (refl, refl); own = refl }

pub bound-set-waits : (q : Edge) → Meets (Operator Op.In Fix.Infix) q → choice Wait.BoundSet q ≡ Choice.Waits
bound-set-waits q m = rw (meets-true (Operator Op.In Fix.Infix) q m)

pub tuple-set-waits : (q : Edge) → Meets (Operator Op.In Fix.Infix) q → choice Wait.TupleBoundSet q ≡ Choice.Waits
tuple-set-waits q m = rw (meets-true (Operator Op.In Fix.Infix) q m)

-- the names of a bound: several where the place takes them, else one
pub bound-names : {xs : Trees} {a : List Lexeme} → DerivesNameList xs a → (x : Tree) (p : List Lexeme) (w : Wait) (b : Binding) (i : ℕ) → child w ≡ Some (fresh (Wait.BindingStart b)) → (takes_more b ≡ true) ⊎ BindsOne (built Form.Bound (then xs x) p) → NamesRead w (Wait.BindingRead b) [] xs [] a i
bound-names d x p w b i h (inl m) = read-names d w (Wait.BindingRead b) (Wait.BindingComma b) [] [] i (binding-frame b m) (binding-start w b i h)
bound-names (last_name {n = n} e) x p w b i h (inr o) = record { qs = name_leaf n ∷ []; is = refl; begun = binding-start w b i h n e }
bound-names (more_names e k (last_name e')) x p w b i h (inr o) = absurd o
bound-names (more_names e k (more_names e' k' (last_name e''))) x p w b i h (inr o) = absurd o
bound-names (more_names e k (more_names e' k' (more_names e'' k'' d))) x p w b i h (inr o) = absurd o

pub right-then : (xs : Trees) (x : Tree) → right_edge_of_last (then xs x) ≡ right_edge x
right-then Nil x = refl
right-then (Cons y Nil) x = refl
right-then (Cons y (Cons z rest)) x = right-then (Cons z rest) x

pub open-then : (xs : Trees) (x : Tree) (i : ℕ) (o : Option Lexeme) → Follows i (Open ∷ right_edge_of_last (then xs x)) o → Follows i (Open ∷ right_edge x) o
open-then xs x i o f = follows-none i _ _ o (ap (λ z. Open ∷ z) (right-then xs x)) f

pub bounds-spelled : (front c : List Lexeme) (q : Lexeme) (a : List Lexeme) (t : Lexeme) (b : List Lexeme) → front ++ c ≡ (q ∷ []) ++ a → (front ++ (c ++ t ∷ [])) ++ b ≡ q ∷ (a ++ t ∷ b)
bounds-spelled front c q a t b e = let k : (front ++ (c ++ t ∷ [])) ++ b ≡ (front ++ c) ++ t ∷ b = simp append_assoc in k ∙ ap (λ z. z ++ t ∷ b) e
