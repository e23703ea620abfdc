-- Definitions of a LET.
use Rattle.std.proofs.Common.{◌≡◌, ℕ, ◌+◌, ◌⊎◌, inl, inr, Bool, true, false, List, [], ◌∷◌, ◌++◌, Option, Some, None, refl, ap, subst, ◌∙◌, append_assoc, arith}
use Rattle.std.specs.Prelude.{cond, nat_lt, IsTrue, is_some}
use Rattle.std.proofs.lemmas.Bool.Decides.{nat_tests}
use Rattle.tla_symbols.specs.declared.op.Op.{Op}
use Rattle.tla_symbols.specs.declared.place.Fix.{Fix}
use Rattle.tla_symbols.specs.declared.lexeme.LexKind.{LexKind}
use Rattle.tla_symbols.specs.declared.lexeme.Word.TheVariants as Word
use Rattle.tla_symbols.specs.declared.lexeme.Mark.{Mark}
use Rattle.tla_symbols.specs.declared.lexeme.Lexeme.{Lexeme}
use Rattle.tla_symbols.specs.Symbols.{range_of, is_definable}
use Rattle.tla_tree.specs.declared.form.Form.{Form}
use Rattle.tla_tree.specs.Syntax.{Tree, Trees, Nil, trees}
use Rattle.tla_tree.specs.Lexemes.{IsName, IsWord, IsMark, IsSymbol, is_given, built, joined}
use Rattle.tla_tree.specs.Headings.{DerivesPlaces, last_place, more_places, DerivesParameter, plain, of_places, prefix_symbol, infix_symbol, postfix_symbol, DerivesParameters, last_parameter, more_parameters, DerivesHead, constant, with_parameters, IsReplaceable, by_name, by_symbol}
use Rattle.tla_tree.specs.Derivation.{DerivesDefinitions, last_definition, more_definitions, DerivesDefinition, operator as operator_definition, prefix_operator, infix_operator, postfix_operator, function_of, module_of}
use Rattle.expr_grammar.specs.declared.wait.Handed.TheVariants as Handed
use Rattle.expr_grammar.specs.declared.wait.Wait.{Wait}
use Rattle.expr_grammar.specs.declared.wait.Mode.TheVariants as Mode
use Rattle.expr_grammar.specs.declared.wait.Start.{Start}
use Rattle.expr_grammar.specs.declared.wait.MarkMove.TheVariants as MarkMove
use Rattle.expr_grammar.specs.declared.wait.Conversion.TheVariants as Conversion
use Rattle.expr_grammar.specs.declared.wait.PartMove.{PartMove}
use Rattle.expr_grammar.specs.declared.wait.Shape.{Shape}
use Rattle.expr_grammar.specs.Kinds.{is_name, is_comma, is_left_paren, is_with, is_negative, is_left_bracket, is_define}
use Rattle.expr_grammar.specs.Tables.{fresh, handed, list_of, is_junction, is_bullet, start_symbol, begins, at_mark, role, shape, finishes, defines, is_given_kind, is_replaceable, at_part}
use Rattle.expr_grammar.specs.Machine.{inside, is_operator}
use Rattle.expr_laws.proofs.Tabled.{IsNoBullet, Ends, at_end, by_column, by_mark, EndsHead, head_at_end, head_by_column, head_by_mark, Part, closed, headed, close, Begun, fresh_child, shifted, handed_mark, went}
use Rattle.expr_laws.proofs.Asking.{mark-follows}
use Rattle.expr_laws.proofs.Starting.{start-at, mark-role, trees-snoc, joined-snoc}
use Rattle.expr_laws.proofs.Bounding.{Ended}
use Rattle.expr_laws.proofs.Membering.{postfix-no_infix}
use Rattle.expr_laws.proofs.PartShapes.{parameter-shape}

-- what follows a definition
pub data Closing : Option Lexeme → Type 0 where
  next_name : {t : Lexeme} → IsName t → Closing (Some t)
  next_symbol : {t : Lexeme} → IsSymbol t Op.Negative → Closing (Some t)
  ends_let : {t : Lexeme} → IsWord t Word.In → Closing (Some t)

pub closing-follows : (i : ℕ) (o : Option Lexeme) → Closing o → Ended i o
closing-follows i o (next_name {t = t} k) qs = mark-follows i qs t _ k refl refl
closing-follows i o (next_symbol {t = t} k) qs = mark-follows i qs t _ k refl refl
closing-follows i o (ends_let {t = t} k) qs = mark-follows i qs t _ k refl refl

-- the first lexeme of a definition
abbrev pub IsFirst : Lexeme → Type 0
IsFirst t = IsName t ⊎ IsSymbol t Op.Negative

pub first-closes : (t : Lexeme) → IsFirst t → Closing (Some t)
first-closes t (inl k) = next_name k
first-closes t (inr k) = next_symbol k

pub record DefinitionRead (x : Tree) (a : List Lexeme) (i : ℕ) (o : Option Lexeme) : Type 0 where
  pub t : Lexeme
  pub rest : List Lexeme
  pub begins : a ≡ t ∷ rest
  pub first : IsFirst t
  pub part : Part (Wait.Handing Handed.Definition t) x a i o
  pub helps : shape x ≡ Shape.Helper

pub name-begun : (n : Lexeme) (i : ℕ) → IsName n → Begun (Wait.Handing Handed.Definition n) (Wait.DefinitionName n) [] (n ∷ []) i
name-begun n i k =
    let e : is_name n.kind ≡ true = ap is_name k in
    subst (λ z. Begun (Wait.Handing Handed.Definition n) (cond z (Wait.DefinitionName n) (Wait.PrefixName n)) [] (n ∷ []) i) e (fresh_child (handed Handed.Definition n) refl)

pub prefix-begun : (n : Lexeme) (i : ℕ) → IsSymbol n Op.Negative → Begun (Wait.Handing Handed.Definition n) (Wait.PrefixName n) [] (n ∷ []) i
prefix-begun n i k =
    let e : is_name n.kind ≡ false = ap is_name k in
    subst (λ z. Begun (Wait.Handing Handed.Definition n) (cond z (Wait.DefinitionName n) (Wait.PrefixName n)) [] (n ∷ []) i) e (fresh_child (handed Handed.Definition n) refl)

-- parameters
pub record ParametersRead (n : Lexeme) (ps : List Tree) (xs : Trees) (c a : List Lexeme) (u : Lexeme) (i : ℕ) : Type 0 where
  pub qs : List Tree
  pub is : trees qs ≡ joined (trees ps) xs
  pub begun : Begun (Wait.Handing Handed.Definition n) (Wait.DefinitionDefine n) qs (c ++ (a ++ u ∷ [])) i

pub record PlacesRead (w : Wait) (n : Lexeme) (places k : ℕ) (c a : List Lexeme) (i : ℕ) : Type 0 where
  pub count : ℕ
  pub is : count ≡ places + k
  pub begun : Begun w (Wait.PlacesRead n count) [] (c ++ a) i

pub read-places : {k : ℕ} {a : List Lexeme} → DerivesPlaces k a → (w : Wait) (n : Lexeme) (places : ℕ) (c : List Lexeme) (i : ℕ) → Begun w (Wait.Places n places) [] c i → PlacesRead w n places k c a i
read-places (last_place {p = p} k) w n places c i b = record { count = places + 1; is = refl; begun = shifted p b refl (rw k) refl refl }
read-places (more_places {p = p} {t = t} {places = k'} {a = a} k l d) w n places c i b =
    let q : Begun w (Wait.PlacesRead n (places + 1)) [] (c ++ p ∷ []) i = shifted p b refl (rw k) refl refl in
    let q' : Begun w (Wait.Places n (places + 1)) [] ((c ++ p ∷ []) ++ t ∷ []) i = shifted t q refl (rw l) refl refl in
    let r : PlacesRead w n (places + 1) k' ((c ++ p ∷ []) ++ t ∷ []) a i = read-places d w n (places + 1) ((c ++ p ∷ []) ++ t ∷ []) i q' in
    let e : ((c ++ p ∷ []) ++ t ∷ []) ++ a ≡ c ++ (p ∷ t ∷ a) = simp append_assoc in
    record { count = r.count; is = omega (arith, r.is); begun = subst (λ z. Begun w (Wait.PlacesRead n r.count) [] z i) e r.begun }

pub parameter-ends : (n : Lexeme) (i : ℕ) (t : Lexeme) → is_left_paren t.kind ≡ false → EndsHead (Wait.ParameterName n) i (Form.Name n) (Some t)
parameter-ends n i t f = by-column (nat_lt t.col i) refl
  where
    by-column : (b : Bool) → nat_lt t.col i ≡ b → EndsHead (Wait.ParameterName n) i (Form.Name n) (Some t)
    by-column true k = head_by_column refl (grind (arith, nat_tests))
    by-column false k = head_by_mark (grind (arith, nat_tests)) refl (rw f) refl

pub parameter-part : {x : Tree} {a : List Lexeme} → DerivesParameter x a → (n : Lexeme) (i : ℕ) (t : Lexeme) → is_left_paren t.kind ≡ false → Part (Wait.DefinitionParameters n) x a i (Some t)
parameter-part (plain {n = m} k) n i t f =
    let q0 : Begun (Wait.DefinitionParameters n) Wait.ParameterStart [] [] i = fresh_child (fresh Wait.ParameterStart) refl in
    headed (Form.Name m) (shifted {v = Wait.ParameterStart} m q0 refl (cond-name m k) refl refl) (parameter-ends m i t f)
  where
    cond-name : (m : Lexeme) → IsName m → at_mark Wait.ParameterStart m ≡ MarkMove.Shift (Wait.ParameterName m)
    cond-name m k = let e : is_name m.kind ≡ true = ap is_name k in rw e
parameter-part (of_places {n = m} {t = l} {places = places} {a = a} u k e g d) n i t f =
    let q0 : Begun (Wait.DefinitionParameters n) Wait.ParameterStart [] [] i = fresh_child (fresh Wait.ParameterStart) refl in
    let e0 : is_name m.kind ≡ true = ap is_name k in
    let q1 : Begun (Wait.DefinitionParameters n) (Wait.ParameterName m) [] (m ∷ []) i = shifted {v = Wait.ParameterStart} m q0 refl (rw e0) refl refl in
    let q2 : Begun (Wait.DefinitionParameters n) (Wait.Places m 0) [] (m ∷ l ∷ []) i = shifted {v = Wait.ParameterName m} l q1 refl (rw e) refl refl in
    let r : PlacesRead (Wait.DefinitionParameters n) m 0 places (m ∷ l ∷ []) a i = read-places d (Wait.DefinitionParameters n) m 0 (m ∷ l ∷ []) i q2 in
    let z : r.count ≡ places = omega (arith, r.is) in
    subst (λ y. Part (Wait.DefinitionParameters n) (built (Form.OperatorParameter m y) Nil (m ∷ l ∷ (a ++ u ∷ []))) (m ∷ l ∷ (a ++ u ∷ [])) i (Some t)) z
    (closed (close {v = Wait.PlacesRead m r.count} u (Form.OperatorParameter m r.count) r.begun refl (rw g) refl))
parameter-part (prefix_symbol {t = s} {p = p} k e) n i t f =
    let q0 : Begun (Wait.DefinitionParameters n) Wait.ParameterStart [] [] i = fresh_child (fresh Wait.ParameterStart) refl in
    let e0 : is_name s.kind ≡ false = ap is_name k in
    let e1 : is_negative s.kind ≡ true = ap is_negative k in
    let q1 : Begun (Wait.DefinitionParameters n) (Wait.PrefixPlace s) [] (s ∷ []) i = shifted {v = Wait.ParameterStart} s q0 refl (rw (e0, e1)) refl refl in
    closed (close {v = Wait.PrefixPlace s} p (Form.PrefixParameter s) q1 refl (rw e) refl)
parameter-part (infix_symbol {op = op} {p = p} {t = s} {q = q} k e h g) n i t f =
    let q0 : Begun (Wait.DefinitionParameters n) Wait.ParameterStart [] [] i = fresh_child (fresh Wait.ParameterStart) refl in
    let q1 : Begun (Wait.DefinitionParameters n) Wait.SymbolPlace [] (p ∷ []) i = shifted {v = Wait.ParameterStart} p q0 refl (rw k) refl refl in
    let z : defines Fix.Infix s.kind ≡ true = ap (defines Fix.Infix) e ∙ h in
    let q2 : Begun (Wait.DefinitionParameters n) (Wait.InfixPlace s) [] (p ∷ s ∷ []) i = shifted {v = Wait.SymbolPlace} s q1 refl (rw z) refl refl in
    closed (close {v = Wait.InfixPlace s} q (Form.InfixParameter s) q2 refl (rw g) refl)
parameter-part (postfix_symbol {op = op} {p = p} {t = s} k e h) n i t f =
    let q0 : Begun (Wait.DefinitionParameters n) Wait.ParameterStart [] [] i = fresh_child (fresh Wait.ParameterStart) refl in
    let q1 : Begun (Wait.DefinitionParameters n) Wait.SymbolPlace [] (p ∷ []) i = shifted {v = Wait.ParameterStart} p q0 refl (rw k) refl refl in
    let y : defines Fix.Infix s.kind ≡ false = ap (defines Fix.Infix) e ∙ postfix-no_infix op h in
    let z : defines Fix.Postfix s.kind ≡ true = ap (defines Fix.Postfix) e ∙ h in
    closed (close {v = Wait.SymbolPlace} s (Form.PostfixParameter s) q1 refl (rw (y, z)) refl)

pub read-parameters : {xs : Trees} {a : List Lexeme} → DerivesParameters xs a → (n : Lexeme) (ps : List Tree) (c : List Lexeme) (u : Lexeme) (i : ℕ) → IsMark u Mark.RightParen → Begun (Wait.Handing Handed.Definition n) (Wait.DefinitionParameters n) ps c i → ParametersRead n ps xs c a u i
read-parameters (last_parameter {x = x} d) n ps c u i k b = record {
  qs = ps ++ x ∷ [];
  is = trees-snoc ps x;
  begun = went u Conversion.Keep b (parameter-part d n i u (ap is_left_paren k)) (mark-role u _ k refl) (rw (parameter-shape d, k)) (refl, refl) refl;
}
read-parameters (more_parameters {x = x} {xs = xs} {a = a} {b = a'} t e d rest) n ps c u i k b =
    let q : Begun (Wait.Handing Handed.Definition n) (Wait.DefinitionParameters n) (ps ++ x ∷ []) (c ++ (a ++ t ∷ [])) i =
    went t Conversion.Keep b (parameter-part d n i t (ap is_left_paren e)) (mark-role t _ e refl) (rw (parameter-shape d, e)) (refl, refl) refl
    in
    let r : ParametersRead n (ps ++ x ∷ []) xs (c ++ (a ++ t ∷ [])) a' u i = read-parameters rest n (ps ++ x ∷ []) (c ++ (a ++ t ∷ [])) u i k q in
    let z : (c ++ (a ++ t ∷ [])) ++ (a' ++ u ∷ []) ≡ c ++ ((a ++ t ∷ a') ++ u ∷ []) = simp append_assoc in
    record { qs = r.qs; is = r.is ∙ joined-snoc ps x xs; begun = subst (λ y. Begun (Wait.Handing Handed.Definition n) (Wait.DefinitionDefine n) r.qs y i) z r.begun }

-- the head of an operator or module definition, with its `==`
pub record HeadRead (n : Lexeme) (xs : Trees) (a : List Lexeme) (d : Lexeme) (i : ℕ) : Type 0 where
  pub qs : List Tree
  pub is : trees qs ≡ xs
  pub begun : Begun (Wait.Handing Handed.Definition n) (Wait.DefinitionBody n) qs (a ++ d ∷ []) i
  pub name : IsName n
  pub rest : List Lexeme
  pub begins : a ≡ n ∷ rest

pub read-head : {n : Lexeme} {xs : Trees} {a : List Lexeme} → DerivesHead n xs a → (d : Lexeme) (i : ℕ) → IsMark d Mark.Define → HeadRead n xs a d i
read-head (constant {n = n} k) d i e = record {
  qs = [];
  is = refl;
  name = k;
  rest = [];
  begins = refl;
  begun = shifted {v = Wait.DefinitionName n} d (name-begun n i k) refl (rw e) refl refl;
}
read-head (with_parameters {n = n} {t = t} {xs = xs} {a = a} u k l m ds) d i e =
    let q : Begun (Wait.Handing Handed.Definition n) (Wait.DefinitionParameters n) [] (n ∷ t ∷ []) i = shifted {v = Wait.DefinitionName n} t (name-begun n i k) refl (rw l) refl refl in
    let r : ParametersRead n [] xs (n ∷ t ∷ []) a u i = read-parameters ds n [] (n ∷ t ∷ []) u i m q in
    record {
      qs = r.qs;
      is = r.is;
      name = k;
      rest = t ∷ (a ++ u ∷ []);
      begins = refl;
      begun = shifted {v = Wait.DefinitionDefine n} d r.begun refl (rw e) refl refl;
    }

-- the left side of a replacement
pub replaceable : (n : Lexeme) → IsReplaceable n → is_replaceable n.kind ≡ true
replaceable n (by_name k) = ap is_replaceable k
replaceable n (by_symbol {op = op} Fix.Prefix k h) = ap is_replaceable k ∙ rw h
replaceable n (by_symbol {op = op} Fix.Infix k h) = ap is_replaceable k ∙ (rw h (either (is_definable op Fix.Prefix)))
  where
    either : (b : Bool) → cond b true true ≡ true
    either true = refl
    either false = refl
replaceable n (by_symbol {op = op} Fix.Postfix k h) = ap is_replaceable k ∙ (rw h (either (is_definable op Fix.Prefix) (is_definable op Fix.Infix)))
  where
    either : (b c : Bool) → cond b true (cond c true true) ≡ true
    either true c = refl
    either false true = refl
    either false false = refl

pub given-quiet : (op : Op) (s : Lexeme) → IsSymbol s op → IsTrue (is_given op) → begins Mode.Operand s ≡ Start.NoStart
given-quiet op s k h = start-at (Wait.ReplacementRight s) s _ refl k ∙ given-start op s k h
  where
    no-bullet : (op : Op) → IsTrue (is_given op) → is_junction (LexKind.Sym op) ≡ false
    no-bullet Op.And h = cc
    no-bullet Op.Or h = cc
    no-bullet _ h = refl

    no-prefix : (op : Op) → IsTrue (is_given op) → is_some (range_of op Fix.Prefix) ≡ false
    no-prefix Op.Not h = cc
    no-prefix Op.Enabled h = cc
    no-prefix Op.Unchanged h = cc
    no-prefix Op.Always h = cc
    no-prefix Op.Eventually h = cc
    no-prefix Op.PowerSet h = cc
    no-prefix Op.BigUnion h = cc
    no-prefix Op.Domain h = cc
    no-prefix Op.Minus h = cc
    no-prefix _ h = refl

    given-start : (op : Op) (s : Lexeme) → IsSymbol s op → IsTrue (is_given op) → start_symbol op s ≡ Start.NoStart
    given-start op s k h =
        let a : is_junction s.kind ≡ false = ap is_junction k ∙ no-bullet op h in
        let b : is_bullet s ≡ false = rw a in
        let c : is_some (range_of op Fix.Prefix) ≡ false = no-prefix op h in
        rw (b, c)

pub not-with : (o : Option Lexeme) → Closing o → (t : Lexeme) → o ≡ Some t → (is_with t.kind ≡ false) × (is_comma t.kind ≡ false)
not-with o (next_name {t = n} k) t q = let e : n ≡ t = cc in subst (λ z. (is_with z.kind ≡ false) × (is_comma z.kind ≡ false)) e (ap is_with k, ap is_comma k)
not-with o (next_symbol {t = n} k) t q = let e : n ≡ t = cc in subst (λ z. (is_with z.kind ≡ false) × (is_comma z.kind ≡ false)) e (ap is_with k, ap is_comma k)
not-with o (ends_let {t = n} k) t q = let e : n ≡ t = cc in subst (λ z. (is_with z.kind ≡ false) × (is_comma z.kind ≡ false)) e (ap is_with k, ap is_comma k)

pub closing-mark : (o : Option Lexeme) → Closing o → (t : Lexeme) → o ≡ Some t → is_operator (role t.kind) ≡ false
closing-mark o (next_name {t = n} k) t q = let e : n ≡ t = cc in subst (λ z. is_operator (role z.kind) ≡ false) e (mark-role n _ k refl)
closing-mark o (next_symbol {t = n} k) t q = let e : n ≡ t = cc in subst (λ z. is_operator (role z.kind) ≡ false) e (mark-role n _ k refl)
closing-mark o (ends_let {t = n} k) t q = let e : n ≡ t = cc in subst (λ z. is_operator (role z.kind) ≡ false) e (mark-role n _ k refl)

-- what ends before what follows a definition
pub ends-closing : (v : Wait) (x : Tree) (i : ℕ) (form : Form) (o : Option Lexeme) → list_of v ≡ None → finishes v (shape x) ≡ Some form → ((t : Lexeme) → is_comma t.kind ≡ false → at_part v (shape x) t ≡ PartMove.Finish form) → Closing o → Ends v x i form o
ends-closing v x i form None l e m c = at_end e
ends-closing v x i form (Some t) l e m c = by (nat_lt t.col (inside v i)) refl
  where
    no-bullet : (y : Option Lexeme) → y ≡ None → IsNoBullet y t
    no-bullet None h = tt
    no-bullet (Some z) h = cc

    by : (b : Bool) → nat_lt t.col (inside v i) ≡ b → Ends v x i form (Some t)
    by true k = by_column e (grind (arith, nat_tests)) (no-bullet (list_of v) l)
    by false k = by_mark (grind (arith, nat_tests)) (closing-mark (Some t) c t refl) (m t (not-with (Some t) c t refl).1)

pub instance-ends : (m : Lexeme) (i : ℕ) (o : Option Lexeme) → Closing o → EndsHead (Wait.InstanceNamed m) i (Form.Instance m) o
instance-ends m i None c = head_at_end refl
instance-ends m i (Some t) c = by (nat_lt t.col i) refl
  where
    by : (b : Bool) → nat_lt t.col i ≡ b → EndsHead (Wait.InstanceNamed m) i (Form.Instance m) (Some t)
    by true k = head_by_column refl (grind (arith, nat_tests))
    by false k = let z : is_with t.kind ≡ false = (not-with (Some t) c t refl).0 in head_by_mark (grind (arith, nat_tests)) refl (rw z) refl

-- a replacement before a comma, or at the definition's end
pub symbol-right-ends : (n : Lexeme) (i : ℕ) (o : Option Lexeme) → EndsHead (Wait.ReplacementEnd n) i (Form.Replacement n) o
symbol-right-ends n i None = head_at_end refl
symbol-right-ends n i (Some t) = by (nat_lt t.col i) refl
  where
    by : (b : Bool) → nat_lt t.col i ≡ b → EndsHead (Wait.ReplacementEnd n) i (Form.Replacement n) (Some t)
    by true k = head_by_column refl (grind (arith, nat_tests))
    by false k = head_by_mark (grind (arith, nat_tests)) refl refl refl

-- how a definition begins
pub record Beginning (a : List Lexeme) : Type 0 where
  pub t : Lexeme
  pub rest : List Lexeme
  pub is : a ≡ t ∷ rest
  pub first : IsFirst t

pub head-beginning : {n : Lexeme} {xs : Trees} {a : List Lexeme} → DerivesHead n xs a → (d : Lexeme) (b : List Lexeme) → Beginning (a ++ d ∷ b)
head-beginning (constant {n = n} k) d b = record { t = n; rest = d ∷ b; is = refl; first = inl k }
head-beginning (with_parameters {n = n} {t = t} {a = a} u k l m ds) d b = record { t = n; rest = t ∷ ((a ++ u ∷ []) ++ d ∷ b); is = refl; first = inl k }

pub definition-beginning : {x : Tree} {a : List Lexeme} {i : ℕ} {o : Option Lexeme} → DerivesDefinition x a i o → Beginning a
definition-beginning (operator_definition {b = b} d h k e) = head-beginning h d b
definition-beginning (prefix_operator {t = t} {n = n} {d = d} {a = a} k l m e) = record { t = t; rest = n ∷ d ∷ a; is = refl; first = inr k }
definition-beginning (infix_operator {m = m} {t = t} {n = n} {d = d} {a = a} k l h g e f) = record { t = m; rest = t ∷ n ∷ d ∷ a; is = refl; first = inl k }
definition-beginning (postfix_operator {m = m} {t = t} {d = d} {a = a} k l h g e) = record { t = m; rest = t ∷ d ∷ a; is = refl; first = inl k }
definition-beginning (function_of {n = n} {t = t} {a = a} {b = b} u d k l m e ds f) = record { t = n; rest = t ∷ (a ++ u ∷ d ∷ b); is = refl; first = inl k }
definition-beginning (module_of {b = b} d h k e) = head-beginning h d b

pub definitions-beginning : {xs : Trees} {a : List Lexeme} {i : ℕ} {o : Option Lexeme} → DerivesDefinitions xs a i o → Beginning a
definitions-beginning (last_definition d) = definition-beginning d
definitions-beginning (more_definitions {b = b} u d rest) =
    let r : Beginning _ = definition-beginning d in
    record { t = r.t; rest = r.rest ++ u ∷ b; is = ap (λ z. z ++ u ∷ b) r.is; first = r.first }

pub first-of : (t : Lexeme) (b : List Lexeme) → Beginning (t ∷ b) → IsFirst t
first-of t b r = let e : r.t ≡ t = cc (r.is) in subst IsFirst e r.first

pub record DefinitionsRead (w : Wait) (ps : List Tree) (xs : Trees) (c a : List Lexeme) (i : ℕ) (o : Option Lexeme) : Type 0 where
  pub t : Lexeme
  pub qs : List Tree
  pub front : List Lexeme
  pub x : Tree
  pub b : List Lexeme
  pub begun : Begun w (Wait.Handing Handed.Definition t) qs front i
  pub part : Part (Wait.Handing Handed.Definition t) x b i o
  pub helps : shape x ≡ Shape.Helper
  pub is : trees (qs ++ x ∷ []) ≡ joined (trees ps) xs
  pub spelled : front ++ b ≡ c ++ a

pub replacement-begun : (m n t : Lexeme) (i : ℕ) → IsReplaceable n → IsMark t Mark.LeftArrow → Begun (Wait.Replacements m) (Wait.ReplacementRight n) [] (n ∷ t ∷ []) i
replacement-begun m n t i k l =
    let z : is_replaceable n.kind ≡ true = replaceable n k in
    let q0 : Begun (Wait.Replacements m) Wait.ReplacementStart [] [] i = fresh_child (fresh Wait.ReplacementStart) refl in
    let q1 : Begun (Wait.Replacements m) (Wait.ReplacementArrow n) [] (n ∷ []) i = shifted {v = Wait.ReplacementStart} n q0 refl (rw z) refl refl in
    shifted {v = Wait.ReplacementArrow n} t q1 refl (rw l) refl refl

pub given-move : (n s : Lexeme) (op : Op) → IsSymbol s op → IsTrue (is_given op) → at_mark (Wait.ReplacementRight n) s ≡ MarkMove.Leaf (Form.Symbol s) (Wait.ReplacementEnd n)
given-move n s op e h = let z : is_given_kind s.kind ≡ true = ap is_given_kind e ∙ h in rw z

pub instance-name : (m : Lexeme) → IsName m → at_mark Wait.InstanceModule m ≡ MarkMove.Shift (Wait.InstanceNamed m)
instance-name m l = let e : is_name m.kind ≡ true = ap is_name l in rw e

pub symbol-head : (m t : Lexeme) (op : Op) → IsSymbol t op → (u : Wait) → defines Fix.Infix t.kind ≡ true → at_mark (Wait.DefinitionName m) t ≡ MarkMove.LeafOf (Form.Name m) m (Wait.InfixName t)
symbol-head m t op l u z =
    let a : is_define t.kind ≡ false = ap is_define l in
    let b : is_left_paren t.kind ≡ false = ap is_left_paren l in
    let c : is_left_bracket t.kind ≡ false = ap is_left_bracket l in
    rw (a, b, c, z)

pub postfix-head : (m t : Lexeme) (op : Op) → IsSymbol t op → IsTrue (is_definable op Fix.Postfix) → at_mark (Wait.DefinitionName m) t ≡ MarkMove.LeafOf (Form.Name m) m (Wait.PostfixDefine t)
postfix-head m t op l h =
    let a : is_define t.kind ≡ false = ap is_define l in
    let b : is_left_paren t.kind ≡ false = ap is_left_paren l in
    let c : is_left_bracket t.kind ≡ false = ap is_left_bracket l in
    let y : defines Fix.Infix t.kind ≡ false = ap (defines Fix.Infix) l ∙ postfix-no_infix op h in
    let z : defines Fix.Postfix t.kind ≡ true = ap (defines Fix.Postfix) l ∙ h in
    rw (a, b, c, y, z)

pub first-role : (t : Lexeme) → IsFirst t → is_operator (role t.kind) ≡ false
first-role t (inl k) = mark-role t _ k refl
first-role t (inr k) = mark-role t _ k refl

pub definition-goes : (n : Lexeme) (x : Tree) (t : Lexeme) → shape x ≡ Shape.Helper → IsFirst t → at_part (Wait.Handing Handed.Definition n) (shape x) t ≡ PartMove.Hand Handed.Definition
definition-goes n x t s (inl k) = let e : is_name t.kind ≡ true = ap is_name k in rw (s, e)
definition-goes n x t s (inr k) = let e : is_name t.kind ≡ false = ap is_name k in let g : is_negative t.kind ≡ true = ap is_negative k in rw (s, e, g)

pub let-goes : (n : Lexeme) (x : Tree) (t : Lexeme) → shape x ≡ Shape.Helper → IsWord t Word.In → at_part (Wait.Handing Handed.Definition n) (shape x) t ≡ PartMove.Goes Wait.LetBody Conversion.Keep
let-goes n x t s k = rw (s, k)

pub let-first : (w : Wait) (v t : Lexeme) (i : ℕ) → Begun w Wait.LetFirst [] (v ∷ []) i → IsFirst t → Begun w (Wait.Handing Handed.Definition t) [] (v ∷ []) i
let-first w v t i b (inl k) = let e : is_name t.kind ≡ true = ap is_name k in handed_mark {v = Wait.LetFirst} t Handed.Definition b refl (rw e) refl
let-first w v t i b (inr k) =
    let e : is_name t.kind ≡ false = ap is_name k in
    let g : is_negative t.kind ≡ true = ap is_negative k in
    handed_mark {v = Wait.LetFirst} t Handed.Definition b refl (rw (e, g)) refl

pub head-spelled : (front c : List Lexeme) (n t : Lexeme) (a : List Lexeme) (u d : Lexeme) (b : List Lexeme) → front ++ c ≡ (n ∷ t ∷ []) ++ a → ((front ++ (c ++ u ∷ [])) ++ d ∷ []) ++ b ≡ n ∷ t ∷ (a ++ u ∷ d ∷ b)
head-spelled front c n t a u d b e =
    let k : ((front ++ (c ++ u ∷ [])) ++ d ∷ []) ++ b ≡ (front ++ c) ++ u ∷ d ∷ b = simp append_assoc in
    k ∙ ap (λ z. z ++ u ∷ d ∷ b) e
