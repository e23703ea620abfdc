-- The machine reads declarations, replacements, instances and definitions.
use Rattle.std.proofs.Common.{◌≡◌, ℕ, ◌+◌, Bool, true, false, List, [], ◌∷◌, ◌++◌, Option, Some, None, refl, ap, sym, ◌∙◌, append_assoc, arith}
use Rattle.std.specs.Prelude.{cond, IsTrue}
use Rattle.tla_symbols.specs.declared.op.Op.{Op}
use Rattle.tla_symbols.specs.declared.place.Fix.{Fix}
use Rattle.tla_symbols.specs.declared.lexeme.LexKind.{LexKind}
use Rattle.tla_symbols.specs.declared.lexeme.Word.TheVariants as Word
use Rattle.tla_symbols.specs.declared.lexeme.Mark.TheVariants as Mark
use Rattle.tla_symbols.specs.declared.lexeme.Lexeme.{Lexeme}
use Rattle.tla_tree.specs.declared.form.Form.{Form}
use Rattle.tla_tree.specs.Syntax.{Tree, Trees, Nil, Cons}
use Rattle.tla_tree.specs.Lexemes.{IsName, IsWord, IsMark, IsSymbol, Defines, is_given, built, one, two, then, joined}
use Rattle.tla_tree.specs.Headings.{DerivesPlaces, last_place, more_places, DerivesParameter, plain, of_places, prefix_symbol, infix_symbol, postfix_symbol, DerivesParameters, last_parameter, more_parameters, DerivesHead, constant, with_parameters}
use Rattle.tla_tree.specs.Derivation.{DerivesBound, bound, tuple_bound, DerivesBounds, last_bound, more_bounds, DerivesDefinition, operator, prefix_operator, infix_operator, postfix_operator, function_of, module_of, DerivesInstance, without, with_replacements, DerivesReplacements, last_replacement, more_replacements, DerivesReplacement, replaced, replaced_by_symbol}
use Rattle.expr_grammar.specs.Kinds.{is_comma, is_left_paren, is_with, is_define, is_left_bracket, is_right_bracket, is_instance}
use Rattle.expr_grammar.specs.Tables.{start_kind, defines, is_given_kind, is_replaceable}
use Rattle.expr_grammar.specs.Machine.{start_bounds, parse_bounds}
use Rattle.expr_grammar.specs.Following.{IsQuietNext, stops}
use Rattle.expr_laws.proofs.KindTests.{instance-is}
use Rattle.expr_laws.proofs.Following.{before-quiet}
use Rattle.expr_laws.proofs.Heading.{derives-bounds}
use Rattle.expr_laws.proofs.Viewing.{given-is}
use Rattle.expr_laws.proofs.Defining.{replaceable, given-quiet}
use Rattle.expr_laws.proofs.Membering.{postfix-no_infix}
use Rattle.unit_grammar.specs.Units.{UnitTree}
use Rattle.unit_machine.specs.declared.wait.Wait.{Wait}
use Rattle.unit_machine.specs.declared.wait.Move.{Move}
use Rattle.unit_machine.specs.declared.wait.UnitStart.TheVariants as UnitStart
use Rattle.unit_machine.specs.Tables.{move, unit_start, may_be_local}
use Rattle.unit_machine.specs.Machine.{frame, Begun, OfConstants, Bounds, state, part_step, after_declared, finished, run}
use Rattle.unit_laws.proofs.Moving.{Around, around, at, took, above, shifts, leafs, leafs-of, pushes, opens, bounded, ends, Concludes, declares, held, closes, Expects, expresses, no-start, reads-bounds}

-- parts and one more, and then more
pub joined-then : (ps : Trees) (x : Tree) (xs : Trees) → joined (then ps x) xs ≡ joined ps (Cons x xs)
joined-then Nil x xs = refl
joined-then (Cons y ps) x xs = ap (λ z. Cons y z) (joined-then ps x xs)

pub joined-one : (ps : Trees) (x : Tree) → joined ps (one x) ≡ then ps x
joined-one Nil x = refl
joined-one (Cons y ps) x = ap (λ z. Cons y z) (joined-one ps x)

-- ---- declarations

read-places : {m : ℕ} {a : List Lexeme} → DerivesPlaces m a → (k : Around) → Concludes k.begun k.frames → (n : Lexeme) (p : ℕ) (r : List Lexeme) (u t : Lexeme) (ts : List Lexeme) → IsMark u Mark.RightParen → run (at k (Wait.Places n p) Nil r) (a ++ u ∷ t ∷ ts) ≡ run (took k (built (Form.OperatorParameter n (p + m)) Nil (r ++ (a ++ u ∷ []))) (r ++ (a ++ u ∷ [])) t) ts
read-places (last_place {p = q} e) k h n p r u t ts f =
    let l : (r ++ q ∷ []) ++ u ∷ [] ≡ r ++ q ∷ u ∷ [] = append_assoc r (q ∷ []) (u ∷ []) in
    shifts k (Wait.Places n p) Nil r q (u ∷ t ∷ ts) (Wait.PlacesRead n (p + 1)) (rw e)
    ∙ (closes k (Wait.PlacesRead n (p + 1)) Nil (r ++ q ∷ []) u t ts (Form.OperatorParameter n (p + 1)) h (rw f)
    ∙ ap (λ z. run (took k (built (Form.OperatorParameter n (p + 1)) Nil z) z t) ts) l)
read-places (more_places {p = q} {t = c} {places = m} {a = a} e g d) k h n p r u t ts f =
    let l : ((r ++ q ∷ []) ++ c ∷ []) ++ (a ++ u ∷ []) ≡ r ++ q ∷ c ∷ (a ++ u ∷ []) = append_assoc (r ++ q ∷ []) (c ∷ []) (a ++ u ∷ []) ∙ append_assoc r (q ∷ []) (c ∷ (a ++ u ∷ [])) in
    let s : (p + 1) + m ≡ p + (m + 1) = omega arith in
    shifts k (Wait.Places n p) Nil r q (c ∷ (a ++ u ∷ t ∷ ts)) (Wait.PlacesRead n (p + 1)) (rw e)
    ∙ (shifts k (Wait.PlacesRead n (p + 1)) Nil (r ++ q ∷ []) c (a ++ u ∷ t ∷ ts) (Wait.Places n (p + 1)) (rw g)
    ∙ (read-places d k h n (p + 1) ((r ++ q ∷ []) ++ c ∷ []) u t ts f
    ∙ (ap (λ z. run (took k (built (Form.OperatorParameter n ((p + 1) + m)) Nil z) z t) ts) l
    ∙ ap (λ z. run (took k (built (Form.OperatorParameter n z) Nil (r ++ q ∷ c ∷ (a ++ u ∷ []))) (r ++ q ∷ c ∷ (a ++ u ∷ [])) t) ts) s)))

pub read-declaration : {x : Tree} {a : List Lexeme} → DerivesParameter x a → (k : Around) → Concludes k.begun k.frames → (t : Lexeme) (ts : List Lexeme) → is_left_paren t.kind ≡ false → run (at k Wait.Declaration Nil []) (a ++ t ∷ ts) ≡ run (took k x a t) ts
read-declaration (plain {n = n} e) k h t ts p =
    shifts k Wait.Declaration Nil [] n (t ∷ ts) (Wait.DeclarationName n) (rw e) ∙ ends k (Wait.DeclarationName n) Nil (n ∷ []) t ts (Form.Name n) (rw p)
read-declaration (of_places {n = n} {t = q} {places = m} {a = a} u e f g d) k h t ts p =
    let s : 0 + m ≡ m = omega arith in
    shifts k Wait.Declaration Nil [] n (q ∷ ((a ++ u ∷ []) ++ t ∷ ts)) (Wait.DeclarationName n) (rw e)
    ∙ (shifts k (Wait.DeclarationName n) Nil (n ∷ []) q ((a ++ u ∷ []) ++ t ∷ ts) (Wait.Places n 0) (rw f)
    ∙ (ap (λ z. run (at k (Wait.Places n 0) Nil (n ∷ q ∷ [])) z) (append_assoc a (u ∷ []) (t ∷ ts))
    ∙ (read-places d k h n 0 (n ∷ q ∷ []) u t ts g
    ∙ ap (λ z. run (took k (built (Form.OperatorParameter n z) Nil (n ∷ q ∷ (a ++ u ∷ []))) (n ∷ q ∷ (a ++ u ∷ [])) t) ts) s)))
read-declaration (prefix_symbol {t = s} {p = q} e f) k h t ts p =
    shifts k Wait.Declaration Nil [] s (q ∷ t ∷ ts) (Wait.PrefixPlace s) (rw e) ∙ closes k (Wait.PrefixPlace s) Nil (s ∷ []) q t ts (Form.PrefixParameter s) h (rw f)
read-declaration (infix_symbol {op = op} {p = q} {t = s} {q = v} e f i g) k h t ts p =
    let z : defines Fix.Infix s.kind ≡ true = ap (defines Fix.Infix) f ∙ i in
    shifts k Wait.Declaration Nil [] q (s ∷ v ∷ t ∷ ts) Wait.SymbolPlace (rw e)
    ∙ (shifts k Wait.SymbolPlace Nil (q ∷ []) s (v ∷ t ∷ ts) (Wait.InfixPlace s) (rw z)
    ∙ closes k (Wait.InfixPlace s) Nil (q ∷ s ∷ []) v t ts (Form.InfixParameter s) h (rw g))
read-declaration (postfix_symbol {op = op} {p = q} {t = s} e f i) k h t ts p =
    let y : defines Fix.Infix s.kind ≡ false = ap (defines Fix.Infix) f ∙ postfix-no_infix op i in
    let z : defines Fix.Postfix s.kind ≡ true = ap (defines Fix.Postfix) f ∙ i in
    shifts k Wait.Declaration Nil [] q (s ∷ t ∷ ts) Wait.SymbolPlace (rw e)
    ∙ closes k Wait.SymbolPlace Nil (q ∷ []) s t ts (Form.PostfixParameter s) h (rw (y, z))

read-parameters : {xs : Trees} {a : List Lexeme} → DerivesParameters xs a → (k : Around) (n : Lexeme) (ps : Trees) (r : List Lexeme) (u : Lexeme) (ts : List Lexeme) → IsMark u Mark.RightParen → run (at (above k (frame (Wait.Parameters n) ps r)) Wait.Declaration Nil []) (a ++ u ∷ ts) ≡ run (at k (Wait.Define n) (joined ps xs) (r ++ (a ++ u ∷ []))) ts
read-parameters (last_parameter {x = x} {a = a} d) k n ps r u ts e =
    read-declaration d (above k (frame (Wait.Parameters n) ps r)) held u ts (ap is_left_paren e)
    ∙ (shifts k (Wait.ParametersRead n) (then ps x) (r ++ a) u ts (Wait.Define n) (rw e)
    ∙ (ap (λ z. run (at k (Wait.Define n) z ((r ++ a) ++ u ∷ [])) ts) (sym (joined-one ps x)) ∙ ap (λ z. run (at k (Wait.Define n) (joined ps (one x)) z) ts) (append_assoc r a (u ∷ []))))
read-parameters (more_parameters {x = x} {xs = xs} {a = a} {b = b} c g d rest) k n ps r u ts e =
    let l : ((r ++ a) ++ c ∷ []) ++ (b ++ u ∷ []) ≡ r ++ ((a ++ c ∷ b) ++ u ∷ []) = simp append_assoc in
    ap (λ z. run (at (above k (frame (Wait.Parameters n) ps r)) Wait.Declaration Nil []) z) (append_assoc a (c ∷ b) (u ∷ ts))
    ∙ (read-declaration d (above k (frame (Wait.Parameters n) ps r)) held c (b ++ u ∷ ts) (ap is_left_paren g)
    ∙ (opens k (Wait.ParametersRead n) (then ps x) (r ++ a) c (b ++ u ∷ ts) (Wait.Parameters n) Wait.Declaration (rw g)
    ∙ (read-parameters rest k n (then ps x) ((r ++ a) ++ c ∷ []) u ts e
    ∙ (ap (λ z. run (at k (Wait.Define n) z (((r ++ a) ++ c ∷ []) ++ (b ++ u ∷ []))) ts) (joined-then ps x xs) ∙ ap (λ z. run (at k (Wait.Define n) (joined ps (Cons x xs)) z) ts) l))))

pub read-constants : {xs : Trees} {a : List Lexeme} → DerivesParameters xs a → (d : ℕ) (us : List UnitTree) (ps : Trees) (t : Lexeme) (ts : List Lexeme) → is_left_paren t.kind ≡ false → run (at (around (OfConstants ps) [] d us) Wait.Declaration Nil []) (a ++ t ∷ ts) ≡ run (after_declared (joined ps xs) d us t) ts
read-constants (last_parameter {x = x} {a = a} h) d us ps t ts p =
    read-declaration h (around (OfConstants ps) [] d us) declares t ts p ∙ ap (λ z. run (after_declared z d us t) ts) (sym (joined-one ps x))
read-constants (more_parameters {x = x} {xs = xs} {a = a} {b = b} c g h rest) d us ps t ts p =
    let m : after_declared (then ps x) d us c ≡ at (around (OfConstants (then ps x)) [] d us) Wait.Declaration Nil [] = rw g in
    ap (λ z. run (at (around (OfConstants ps) [] d us) Wait.Declaration Nil []) z) (append_assoc a (c ∷ b) (t ∷ ts))
    ∙ (read-declaration h (around (OfConstants ps) [] d us) declares c (b ++ t ∷ ts) (ap is_left_paren g)
    ∙ (ap (λ z. run z (b ++ t ∷ ts)) m
    ∙ (read-constants rest d us (then ps x) t ts p ∙ ap (λ z. run (after_declared z d us t) ts) (joined-then ps x xs))))

-- ---- replacements and instances

expects-right : (n : Lexeme) → Expects (Wait.ReplacementRight n)
expects-right n s next h = by (is_given_kind s.kind) refl
  where
    by : (c : Bool) → is_given_kind s.kind ≡ c → cond c (Move.Leaf (Form.Symbol s) (Wait.Complete (Form.Replacement n))) Move.Expression ≡ Move.Expression
    by true q = let g : (op : Op) × (s.kind ≡ LexKind.Sym op) × IsTrue (is_given op) = given-is s.kind q in absurd (no-start s next (given-quiet g.0 s g.1 g.2) h)
    by false q = refl

read-replacement : {x : Tree} {a : List Lexeme} {t : Lexeme} → DerivesReplacement x a 0 (Some t) → (k : Around) (ts : List Lexeme) → stops t.kind ≡ true → run (at k Wait.ReplacementStart Nil []) (a ++ t ∷ ts) ≡ run (took k x a t) ts
read-replacement {t = t} (replaced {n = n} {t = q} {x = x} {a = a} h e d) k ts s =
    let z : is_replaceable n.kind ≡ true = replaceable n h in
    shifts k Wait.ReplacementStart Nil [] n (q ∷ (a ++ t ∷ ts)) (Wait.ReplacementArrow n) (rw z)
    ∙ (shifts k (Wait.ReplacementArrow n) Nil (n ∷ []) q (a ++ t ∷ ts) (Wait.ReplacementRight n) (rw e)
    ∙ expresses k (Wait.ReplacementRight n) Nil (n ∷ q ∷ []) a t ts x (Form.Replacement n) refl (expects-right n) s d)
read-replacement {t = t} (replaced_by_symbol {op = op} {n = n} {t = q} {s = v} h e f g) k ts s =
    let z : is_replaceable n.kind ≡ true = replaceable n h in
    let y : is_given_kind v.kind ≡ true = ap is_given_kind f ∙ g in
    shifts k Wait.ReplacementStart Nil [] n (q ∷ v ∷ t ∷ ts) (Wait.ReplacementArrow n) (rw z)
    ∙ (shifts k (Wait.ReplacementArrow n) Nil (n ∷ []) q (v ∷ t ∷ ts) (Wait.ReplacementRight n) (rw e)
    ∙ (leafs k (Wait.ReplacementRight n) Nil (n ∷ q ∷ []) v (t ∷ ts) (Form.Symbol v) (Wait.Complete (Form.Replacement n)) (rw y)
    ∙ ends k (Wait.Complete (Form.Replacement n)) (one (built (Form.Symbol v) Nil (v ∷ []))) (n ∷ q ∷ v ∷ []) t ts (Form.Replacement n) refl))

read-replacements : {xs : Trees} {a : List Lexeme} {t : Lexeme} → DerivesReplacements xs a 0 (Some t) → (k : Around) (m : Lexeme) (ps : Trees) (r ts : List Lexeme) → stops t.kind ≡ true → is_comma t.kind ≡ false → run (at (above k (frame (Wait.Replacements m) ps r)) Wait.ReplacementStart Nil []) (a ++ t ∷ ts) ≡ run (took k (built (Form.Instance m) (joined ps xs) (r ++ a)) (r ++ a) t) ts
read-replacements {t = t} (last_replacement {x = x} {a = a} d) k m ps r ts s c =
    read-replacement d (above k (frame (Wait.Replacements m) ps r)) ts s
    ∙ (ends k (Wait.ReplacementsRead m) (then ps x) (r ++ a) t ts (Form.Instance m) (rw c)
    ∙ ap (λ z. run (took k (built (Form.Instance m) z (r ++ a)) (r ++ a) t) ts) (sym (joined-one ps x)))
read-replacements {t = t} (more_replacements {x = x} {xs = xs} {a = a} {b = b} q e d rest) k m ps r ts s c =
    let l : ((r ++ a) ++ q ∷ []) ++ b ≡ r ++ (a ++ q ∷ b) = append_assoc (r ++ a) (q ∷ []) b ∙ append_assoc r a (q ∷ b) in
    ap (λ z. run (at (above k (frame (Wait.Replacements m) ps r)) Wait.ReplacementStart Nil []) z) (append_assoc a (q ∷ b) (t ∷ ts))
    ∙ (read-replacement d (above k (frame (Wait.Replacements m) ps r)) (b ++ t ∷ ts) (ap stops e)
    ∙ (opens k (Wait.ReplacementsRead m) (then ps x) (r ++ a) q (b ++ t ∷ ts) (Wait.Replacements m) Wait.ReplacementStart (rw e)
    ∙ (read-replacements rest k m (then ps x) ((r ++ a) ++ q ∷ []) ts s c
    ∙ (ap (λ z. run (took k (built (Form.Instance m) z (((r ++ a) ++ q ∷ []) ++ b)) (((r ++ a) ++ q ∷ []) ++ b) t) ts) (joined-then ps x xs)
    ∙ ap (λ z. run (took k (built (Form.Instance m) (joined ps (Cons x xs)) z) z t) ts) l))))

-- what may follow a unit
pub record Follows (t : Lexeme) : Type 0 where
  pub stops : stops t.kind ≡ true
  pub comma : is_comma t.kind ≡ false
  pub paren : is_left_paren t.kind ≡ false
  pub with : is_with t.kind ≡ false

-- an instance, behind its word
pub record InstanceRead (x : Tree) (a : List Lexeme) (t : Lexeme) : Type 0 where
  pub w : Lexeme
  pub rest : List Lexeme
  pub is : a ≡ w ∷ rest
  pub word : IsWord w Word.Instance
  pub reads : (k : Around) (ts : List Lexeme) → run (at k Wait.InstanceName Nil (w ∷ [])) (rest ++ t ∷ ts) ≡ run (took k x a t) ts

pub read-instance : {x : Tree} {a : List Lexeme} {t : Lexeme} → DerivesInstance x a 0 (Some t) → Follows t → InstanceRead x a t
read-instance {t = t} (without {w = w} {m = m} e g) f = record {
  w = w;
  rest = m ∷ [];
  is = refl;
  word = e;
  reads = λ k ts. (let z : is_with t.kind ≡ false = f.with in shifts k Wait.InstanceName Nil (w ∷ []) m (t ∷ ts) (Wait.InstanceRead m) (rw g) ∙ ends k (Wait.InstanceRead m) Nil (w ∷ m ∷ []) t ts (Form.Instance m) (rw z));
}
read-instance {t = t} (with_replacements {w = w} {m = m} {t = q} {xs = xs} {a = a} e g h d) f = record {
  w = w;
  rest = m ∷ q ∷ a;
  is = refl;
  word = e;
  reads = λ k ts.
      shifts k Wait.InstanceName Nil (w ∷ []) m (q ∷ (a ++ t ∷ ts)) (Wait.InstanceRead m) (rw g)
      ∙ (opens k (Wait.InstanceRead m) Nil (w ∷ m ∷ []) q (a ++ t ∷ ts) (Wait.Replacements m) Wait.ReplacementStart (rw h)
      ∙ read-replacements d k m Nil (w ∷ m ∷ q ∷ []) ts f.stops f.comma);
}

-- ---- definitions

expects-body : (n : Lexeme) → Expects (Wait.Body n)
expects-body n s next h = by (is_instance s.kind) refl
  where
    by : (c : Bool) → is_instance s.kind ≡ c → cond c (Move.Push Wait.InstanceName) Move.Expression ≡ Move.Expression
    by true q = absurd (no-start s next (ap (λ z. start_kind z s) (instance-is s.kind q)) h)
    by false q = refl

record HeadRead (n : Lexeme) (xs : Trees) (a : List Lexeme) : Type 0 where
  pub rest : List Lexeme
  pub is : a ≡ n ∷ rest
  pub name : IsName n
  pub reads : (k : Around) (d : Lexeme) (ts : List Lexeme) → IsMark d Mark.Define → run (at k (Wait.DefinitionName n) Nil (n ∷ [])) (rest ++ d ∷ ts) ≡ run (at k (Wait.Body n) xs (a ++ d ∷ [])) ts

read-head : {n : Lexeme} {xs : Trees} {a : List Lexeme} → DerivesHead n xs a → HeadRead n xs a
read-head (constant {n = n} e) = record { rest = []; is = refl; name = e; reads = λ k d ts m. shifts k (Wait.DefinitionName n) Nil (n ∷ []) d ts (Wait.Body n) (rw m) }
read-head (with_parameters {n = n} {t = q} {xs = xs} {a = a} u e f g h) = record {
  rest = q ∷ (a ++ u ∷ []);
  is = refl;
  name = e;
  reads = λ k d ts m.
      opens k (Wait.DefinitionName n) Nil (n ∷ []) q ((a ++ u ∷ []) ++ d ∷ ts) (Wait.Parameters n) Wait.Declaration (rw f)
      ∙ (ap (λ z. run (at (above k (frame (Wait.Parameters n) Nil (n ∷ q ∷ []))) Wait.Declaration Nil []) z) (append_assoc a (u ∷ []) (d ∷ ts))
      ∙ (read-parameters h k n Nil (n ∷ q ∷ []) u (d ∷ ts) g
      ∙ shifts k (Wait.Define n) xs (n ∷ q ∷ (a ++ u ∷ [])) d ts (Wait.Body n) (rw m)));
}

pub record DefinitionRead (x : Tree) (a : List Lexeme) (t : Lexeme) : Type 0 where
  pub s : Lexeme
  pub w : Wait
  pub rest : List Lexeme
  pub is : a ≡ s ∷ rest
  pub starts : unit_start s.kind s ≡ UnitStart.Definition w
  pub local : may_be_local s.kind ≡ true
  pub reads : (begun : Begun) (depth : ℕ) (us : List UnitTree) (ts : List Lexeme) → run (at (around begun [] depth us) w Nil (s ∷ [])) (rest ++ t ∷ ts) ≡ run (finished begun x depth us t) ts

instance-move : (n w : Lexeme) → IsWord w Word.Instance → move (Wait.Body n) w ≡ Move.Push Wait.InstanceName
instance-move n w e = rw e

infix-head : (v s : Lexeme) (op : Op) → IsSymbol s op → defines Fix.Infix s.kind ≡ true → move (Wait.DefinitionName v) s ≡ Move.LeafOf (Form.Name v) v (Wait.InfixName s)
infix-head v s op g z =
    let a : is_define s.kind ≡ false = ap is_define g in
    let b : is_left_paren s.kind ≡ false = ap is_left_paren g in
    let c : is_left_bracket s.kind ≡ false = ap is_left_bracket g in
    rw (a, b, c, z)

postfix-head : (v s : Lexeme) (op : Op) → IsSymbol s op → Defines op Fix.Postfix → move (Wait.DefinitionName v) s ≡ Move.LeafOf (Form.Name v) v (Wait.PostfixDefine s)
postfix-head v s op g i =
    let a : is_define s.kind ≡ false = ap is_define g in
    let b : is_left_paren s.kind ≡ false = ap is_left_paren g in
    let c : is_left_bracket s.kind ≡ false = ap is_left_bracket g in
    let y : defines Fix.Infix s.kind ≡ false = ap (defines Fix.Infix) g ∙ postfix-no_infix op i in
    let z : defines Fix.Postfix s.kind ≡ true = ap (defines Fix.Postfix) g ∙ i in
    rw (a, b, c, y, z)

-- bounds stay bounds before what asks nothing of them
bound-quiet : {x : Tree} {a : List Lexeme} {o : Option Lexeme} → DerivesBound x a 0 o → (p : Option Lexeme) → IsQuietNext p → DerivesBound x a 0 p
bound-quiet (bound m e l d b) p q = bound m e l d (before-quiet b p q)
bound-quiet (tuple_bound m e l d b) p q = tuple_bound m e l d (before-quiet b p q)

pub bounds-quiet : {xs : Trees} {a : List Lexeme} {o : Option Lexeme} → DerivesBounds xs a 0 o → (p : Option Lexeme) → IsQuietNext p → DerivesBounds xs a 0 p
bounds-quiet (last_bound d) p q = last_bound (bound-quiet d p q)
bounds-quiet (more_bounds t e d ds) p q = more_bounds t e d (bounds-quiet ds p q)

starts-name : (n : Lexeme) → IsName n → unit_start n.kind n ≡ UnitStart.Definition (Wait.DefinitionName n)
starts-name n e = ap (λ z. unit_start z n) e

starts-prefix : (n : Lexeme) → IsSymbol n Op.Negative → unit_start n.kind n ≡ UnitStart.Definition (Wait.PrefixName n)
starts-prefix n e = ap (λ z. unit_start z n) e

-- the bounds of a function's head, behind its bracket
read-bounds : (k : Around) (n u t : Lexeme) (bounds : Trees) (a ts : List Lexeme) → k.frames ≡ [] → IsMark u Mark.RightBracket → DerivesBounds bounds a 0 (Some u) → run (Some (state k.depth k.units (Bounds k.begun (frame (Wait.Bounds n) Nil (n ∷ t ∷ [])) start_bounds []))) (a ++ u ∷ ts) ≡ run (at k (Wait.BoundsDefine n) bounds (n ∷ t ∷ (a ++ u ∷ []))) ts
read-bounds k n u t bounds a ts q e d =
    let z : is_right_bracket u.kind ≡ true = ap is_right_bracket e in
    let r : parse_bounds a ≡ Some bounds = derives-bounds bounds a (bounds-quiet d None tt) in
    let m : move (Wait.BoundsRead n) u ≡ Move.Shift (Wait.BoundsDefine n) = rw z in
    let i : run (Some (state k.depth k.units (Bounds k.begun (frame (Wait.Bounds n) Nil (n ∷ t ∷ [])) start_bounds []))) (a ++ u ∷ ts) ≡ run (part_step [] k.begun (frame (Wait.BoundsRead n) bounds (n ∷ t ∷ a)) k.depth k.units u) ts =
    reads-bounds a k.begun (frame (Wait.Bounds n) Nil (n ∷ t ∷ [])) start_bounds [] k.depth k.units u ts bounds refl z r
    in
    let s : run (at (around k.begun [] k.depth k.units) (Wait.BoundsRead n) bounds (n ∷ t ∷ a)) (u ∷ ts) ≡ run (at (around k.begun [] k.depth k.units) (Wait.BoundsDefine n) bounds (n ∷ t ∷ (a ++ u ∷ []))) ts =
    shifts (around k.begun [] k.depth k.units) (Wait.BoundsRead n) bounds (n ∷ t ∷ a) u ts (Wait.BoundsDefine n) m
    in
    i ∙ (s ∙ ap (λ z. run (at (around k.begun z k.depth k.units) (Wait.BoundsDefine n) bounds (n ∷ t ∷ (a ++ u ∷ []))) ts) (sym q))

pub read-definition : {x : Tree} {a : List Lexeme} {t : Lexeme} → DerivesDefinition x a 0 (Some t) → Follows t → DefinitionRead x a t
read-definition {t = t} (operator {n = n} {xs = xs} {x = x} {a = a} {b = b} d h m e) f =
    let r : HeadRead n xs a = read-head h in
    let l : (a ++ d ∷ []) ++ b ≡ a ++ d ∷ b = append_assoc a (d ∷ []) b in
    record {
      s = n;
      w = Wait.DefinitionName n;
      rest = r.rest ++ d ∷ b;
      is = ap (λ z. z ++ d ∷ b) r.is;
      starts = starts-name n r.name;
      local = ap may_be_local r.name;
      reads = λ begun depth us ts.
          let k : Around = around begun [] depth us in
          ap (λ z. run (at k (Wait.DefinitionName n) Nil (n ∷ [])) z) (append_assoc r.rest (d ∷ b) (t ∷ ts))
          ∙ (r.reads k d (b ++ t ∷ ts) m
          ∙ (expresses k (Wait.Body n) xs (a ++ d ∷ []) b t ts x (Form.OperatorDefinition n) refl (expects-body n) f.stops e
          ∙ ap (λ z. run (took k (built (Form.OperatorDefinition n) (then xs x) z) z t) ts) l));
    }
read-definition {t = t} (prefix_operator {t = s} {n = n} {d = d} {x = x} {a = a} e g m h) f = record {
  s = s;
  w = Wait.PrefixName s;
  rest = n ∷ d ∷ a;
  is = refl;
  starts = starts-prefix s e;
  local = ap may_be_local e;
  reads = λ begun depth us ts.
      let k : Around = around begun [] depth us in
      leafs k (Wait.PrefixName s) Nil (s ∷ []) n (d ∷ (a ++ t ∷ ts)) (Form.Name n) (Wait.PrefixDefine s) (rw g)
      ∙ (shifts k (Wait.PrefixDefine s) (one (built (Form.Name n) Nil (n ∷ []))) (s ∷ n ∷ []) d (a ++ t ∷ ts) (Wait.Right (Form.PrefixDefinition s)) (rw m)
      ∙ expresses k (Wait.Right (Form.PrefixDefinition s)) (one (built (Form.Name n) Nil (n ∷ []))) (s ∷ n ∷ d ∷ []) a t ts x (Form.PrefixDefinition s) refl (λ u next z. refl) f.stops h);
}
read-definition {t = t} (infix_operator {op = op} {m = v} {t = s} {n = n} {d = d} {x = x} {a = a} e g i h m j) f =
    let z : defines Fix.Infix s.kind ≡ true = ap (defines Fix.Infix) g ∙ i in
    record {
      s = v;
      w = Wait.DefinitionName v;
      rest = s ∷ n ∷ d ∷ a;
      is = refl;
      starts = starts-name v e;
      local = ap may_be_local e;
      reads = λ begun depth us ts.
          let k : Around = around begun [] depth us in
          leafs-of k (Wait.DefinitionName v) Nil (v ∷ []) s (n ∷ d ∷ (a ++ t ∷ ts)) (Form.Name v) v (Wait.InfixName s) (infix-head v s op g z)
          ∙ (leafs k (Wait.InfixName s) (one (built (Form.Name v) Nil (v ∷ []))) (v ∷ s ∷ []) n (d ∷ (a ++ t ∷ ts)) (Form.Name n) (Wait.InfixDefine s) (rw h)
          ∙ (shifts k (Wait.InfixDefine s) (two (built (Form.Name v) Nil (v ∷ [])) (built (Form.Name n) Nil (n ∷ []))) (v ∷ s ∷ n ∷ []) d (a ++ t ∷ ts) (Wait.Right (Form.InfixDefinition s)) (rw m)
          ∙ expresses k (Wait.Right (Form.InfixDefinition s)) (two (built (Form.Name v) Nil (v ∷ [])) (built (Form.Name n) Nil (n ∷ []))) (v ∷ s ∷ n ∷ d ∷ []) a t ts x (Form.InfixDefinition s) refl (λ u next z. refl) f.stops j));
    }
read-definition {t = t} (postfix_operator {op = op} {m = v} {t = s} {d = d} {x = x} {a = a} e g i m j) f = record {
  s = v;
  w = Wait.DefinitionName v;
  rest = s ∷ d ∷ a;
  is = refl;
  starts = starts-name v e;
  local = ap may_be_local e;
  reads = λ begun depth us ts.
      let k : Around = around begun [] depth us in
      leafs-of k (Wait.DefinitionName v) Nil (v ∷ []) s (d ∷ (a ++ t ∷ ts)) (Form.Name v) v (Wait.PostfixDefine s) (postfix-head v s op g i)
      ∙ (shifts k (Wait.PostfixDefine s) (one (built (Form.Name v) Nil (v ∷ []))) (v ∷ s ∷ []) d (a ++ t ∷ ts) (Wait.Right (Form.PostfixDefinition s)) (rw m)
      ∙ expresses k (Wait.Right (Form.PostfixDefinition s)) (one (built (Form.Name v) Nil (v ∷ []))) (v ∷ s ∷ d ∷ []) a t ts x (Form.PostfixDefinition s) refl (λ u next z. refl) f.stops j);
}
read-definition {t = t} (function_of {n = n} {t = q} {bounds = bounds} {x = x} {a = a} {b = b} u d e g h m bs j) f =
    let l : (n ∷ q ∷ (a ++ u ∷ d ∷ [])) ++ b ≡ n ∷ q ∷ (a ++ u ∷ d ∷ b) = ap (λ z. n ∷ q ∷ z) (append_assoc a (u ∷ d ∷ []) b) in
    let y : (n ∷ q ∷ (a ++ u ∷ [])) ++ d ∷ [] ≡ n ∷ q ∷ (a ++ u ∷ d ∷ []) = ap (λ z. n ∷ q ∷ z) (append_assoc a (u ∷ []) (d ∷ [])) in
    record {
      s = n;
      w = Wait.DefinitionName n;
      rest = q ∷ (a ++ u ∷ d ∷ b);
      is = refl;
      starts = starts-name n e;
      local = ap may_be_local e;
      reads = λ begun depth us ts.
          let k : Around = around begun [] depth us in
          bounded k (Wait.DefinitionName n) Nil (n ∷ []) q ((a ++ u ∷ d ∷ b) ++ t ∷ ts) (Wait.Bounds n) (rw g)
          ∙ (ap (λ z. run (Some (state depth us (Bounds begun (frame (Wait.Bounds n) Nil (n ∷ q ∷ [])) start_bounds []))) z) (append_assoc a (u ∷ d ∷ b) (t ∷ ts))
          ∙ (read-bounds k n u q bounds a (d ∷ (b ++ t ∷ ts)) refl h bs
          ∙ (shifts k (Wait.BoundsDefine n) bounds (n ∷ q ∷ (a ++ u ∷ [])) d (b ++ t ∷ ts) (Wait.Right (Form.FunctionDefinition n)) (rw m)
          ∙ (ap (λ z. run (at k (Wait.Right (Form.FunctionDefinition n)) bounds z) (b ++ t ∷ ts)) y
          ∙ (expresses k (Wait.Right (Form.FunctionDefinition n)) bounds (n ∷ q ∷ (a ++ u ∷ d ∷ [])) b t ts x (Form.FunctionDefinition n) refl (λ v next z. refl) f.stops j
          ∙ ap (λ z. run (took k (built (Form.FunctionDefinition n) (then bounds x) z) z t) ts) l)))));
    }
read-definition {t = t} (module_of {n = n} {xs = xs} {x = x} {a = a} {b = b} d h m i) f =
    let r : HeadRead n xs a = read-head h in
    let g : InstanceRead x b t = read-instance i f in
    let l : (a ++ d ∷ []) ++ b ≡ a ++ d ∷ b = append_assoc a (d ∷ []) b in
    record {
      s = n;
      w = Wait.DefinitionName n;
      rest = r.rest ++ d ∷ b;
      is = ap (λ z. z ++ d ∷ b) r.is;
      starts = starts-name n r.name;
      local = ap may_be_local r.name;
      reads = λ begun depth us ts.
          let k : Around = around begun [] depth us in
          ap (λ z. run (at k (Wait.DefinitionName n) Nil (n ∷ [])) z) (append_assoc r.rest (d ∷ b) (t ∷ ts))
          ∙ (r.reads k d (b ++ t ∷ ts) m
          ∙ (ap (λ z. run (at k (Wait.Body n) xs (a ++ d ∷ [])) (z ++ t ∷ ts)) g.is
          ∙ (pushes k (Wait.Body n) xs (a ++ d ∷ []) g.w (g.rest ++ t ∷ ts) Wait.InstanceName (instance-move n g.w g.word)
          ∙ (g.reads (above k (frame (Wait.Body n) xs (a ++ d ∷ []))) ts
          ∙ (ends k (Wait.Complete (Form.ModuleDefinition n)) (then xs x) ((a ++ d ∷ []) ++ b) t ts (Form.ModuleDefinition n) refl
          ∙ ap (λ z. run (took k (built (Form.ModuleDefinition n) (then xs x) z) z t) ts) l)))));
    }
