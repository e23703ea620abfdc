-- Where the machine has not refused, some lexemes complete what it has read to a module.
use Rattle.std.proofs.Common.{◌≡◌, ℕ, suc, ◌+◌, List, [], ◌∷◌, ◌++◌, Some, refl, ap, sym, subst, append_assoc, append-nil}
use Rattle.tla_symbols.specs.declared.op.Op.TheVariants as Op
use Rattle.tla_symbols.specs.declared.lexeme.LexKind.{LexKind}
use Rattle.tla_symbols.specs.declared.lexeme.Word.TheVariants as Word
use Rattle.tla_symbols.specs.declared.lexeme.Mark.TheVariants as Mark
use Rattle.tla_symbols.specs.declared.lexeme.Lexeme.{Lexeme}
use Rattle.tla_tree.specs.declared.form.Form.{Form}
use Rattle.tla_tree.specs.Syntax.{Tree, Trees, Nil}
use Rattle.tla_tree.specs.Lexemes.{IsMark, built, one, two, then}
use Rattle.tla_tree.specs.Headings.{DerivesPlaces, last_place, plain, of_places, prefix_symbol, infix_symbol, DerivesHead, constant, with_parameters, by_name}
use Rattle.tla_tree.specs.Derivation.{Derives, node, number, DerivesBounds, DerivesDefinition, operator, prefix_operator, infix_operator, postfix_operator, function_of, DerivesInstance, without, with_replacements, replaced}
use Rattle.expr_grammar.specs.Machine as Expressions
use Rattle.expr_grammar.specs.Following.{IsQuiet}
use Rattle.expr_laws.proofs.Following.{before-quiet}
use Rattle.expr_laws.proofs.Soundness.{accepted-derives, accepted-bounds}
use Rattle.expr_laws.proofs.Completing.{completes-expression, completes-bounds}
use Rattle.unit_grammar.specs.Units.{UnitTree, ModuleEnd}
use Rattle.unit_grammar.specs.Derivation.{BeginsModule, alone, extending, kept, DerivesModule}
use Rattle.unit_grammar.specs.FirstBad.{IsDerivable, Begins}
use Rattle.unit_machine.specs.declared.wait.Wait.{Wait}
use Rattle.unit_machine.specs.Machine.{Frame, Begun, OfDefinition, Focus, State, run, opening}
use Rattle.unit_laws.proofs.Flat.{plain_variables, plain_constants, Rest, closes, ends, whole-derives}
use Rattle.unit_laws.proofs.PartCompleteness.{bounds-quiet}
use Rattle.expr_grammar.specs.Tables.{name_leaf}
use Rattle.unit_laws.proofs.Views.{Sort, Made, Defining, HasRead, declaration, declaration_name, places, places_read, prefix_place, symbol_place, infix_place, definition_name, parameters_read, define, body, prefix_name, prefix_define, infix_name, infix_define, postfix_define, bounds_read, bounds_define, right, instance_name, instance_read, replacements_read, replacement_start, replacement_arrow, replacement_right, complete, Stack, base, above, Under, claims, awaits, Opened, opened_definition, Wholes, Goes, Opens, FocusOk, at_opening, at_word, at_name, at_dashes, at_read, at_extends, at_extended, at_unit, at_line, at_local, at_variable, at_variables, at_closed, at_declared, at_part, at_expression, at_bounds}
use Rattle.unit_laws.proofs.MoveSoundness.{parameters-close, replacements-close}
use Rattle.unit_laws.proofs.Soundness.{GoingOk, opening-sound, plain-goes, Finishes, by_part, by_claim, finish-goes, taking-sound, outermost-opens, nested-opens, names-close, replacement-quiet, made-quiet}

-- a lexeme of no place
abbrev some : LexKind → Lexeme
some kind = record { kind = kind; span = record { start = 0; end = 0 }; line = 0; col = 0 }

abbrev some_name : Lexeme
some_name = some LexKind.Name

abbrev one_number : Tree
one_number = built (Form.Number (some LexKind.Number)) Nil (some LexKind.Number ∷ [])

number-derived : (t : Lexeme) → Derives one_number (some LexKind.Number ∷ []) 0 (Some t)
number-derived t = node (number refl)

abbrev equals : Lexeme
equals = some (LexKind.Mark Mark.Define)

abbrev closing : Lexeme
closing = some (LexKind.Mark Mark.RightParen)

abbrev underscore : Lexeme
underscore = some (LexKind.Mark Mark.Underscore)

abbrev bracket : Lexeme
bracket = some (LexKind.Mark Mark.RightBracket)

-- lexemes that end a part, before what asks nothing of it
record Finishing (s : Sort) (a : List Lexeme) : Type 0 where
  pub rest : List Lexeme
  pub tree : Tree
  pub made : (t : Lexeme) → IsQuiet t → Made s tree (a ++ rest) t

sooner : (s : Sort) (a b : List Lexeme) → Finishing s (a ++ b) → Finishing s a
sooner s a b f = record { rest = b ++ f.rest; tree = f.tree; made = λ t q. subst (λ z. Made s f.tree z t) (append_assoc a b f.rest) (f.made t q) }

-- right sides
from-right : (form : Form) (ps : Trees) (a : List Lexeme) → Defining form ps a → Finishing Sort.Definition a
from-right form ps a h = record { rest = some LexKind.Number ∷ []; tree = built form (then ps one_number) (a ++ some LexKind.Number ∷ []); made = λ t q. h one_number (some LexKind.Number ∷ []) t (number-derived t) }

from-body : {n : Lexeme} (ps : Trees) (a : List Lexeme) (d : Lexeme) → DerivesHead n ps a → IsMark d Mark.Define → Finishing Sort.Definition (a ++ d ∷ [])
from-body {n = n} ps a d h m = record {
  rest = some LexKind.Number ∷ [];
  tree = built (Form.OperatorDefinition n) (then ps one_number) (a ++ d ∷ some LexKind.Number ∷ []);
  made = λ t q. subst (λ z. DerivesDefinition (built (Form.OperatorDefinition n) (then ps one_number) (a ++ d ∷ some LexKind.Number ∷ [])) z 0 (Some t)) (sym (append_assoc a (d ∷ []) (some LexKind.Number ∷ []))) (operator d h m (number-derived t));
}

from-define : {n : Lexeme} (ps : Trees) (a : List Lexeme) → DerivesHead n ps a → Finishing Sort.Definition a
from-define ps a h = sooner Sort.Definition a (equals ∷ []) (from-body ps a equals h refl)

closed-places : {n u : Lexeme} (p : ℕ) (d : List Lexeme) → n.kind ≡ LexKind.Name → IsMark u Mark.LeftParen → DerivesPlaces p d → Finishing Sort.Declaration (n ∷ u ∷ d)
closed-places {n = n} {u = u} p d k l h = record { rest = closing ∷ []; tree = built (Form.OperatorParameter n p) Nil (n ∷ u ∷ (d ++ closing ∷ [])); made = λ t q. of_places closing k l refl h }

-- a function's definition, by its head
head-defines : {n u : Lexeme} (v d : Lexeme) {xs : Trees} {b : List Lexeme} {x : Tree} {c : List Lexeme} {t : Lexeme} → n.kind ≡ LexKind.Name → IsMark u Mark.LeftBracket → IsMark v Mark.RightBracket → IsMark d Mark.Define → DerivesBounds xs b 0 (Some v) → Derives x c 0 (Some t) → DerivesDefinition (built (Form.FunctionDefinition n) (then xs x) ((n ∷ u ∷ (b ++ v ∷ d ∷ [])) ++ c)) ((n ∷ u ∷ (b ++ v ∷ d ∷ [])) ++ c) 0 (Some t)
head-defines {n = n} {u = u} v d {xs = xs} {b = b} {x = x} {c = c} {t = t} k l m e bs r =
    subst (λ z. DerivesDefinition (built (Form.FunctionDefinition n) (then xs x) z) z 0 (Some t)) (ap (λ z. n ∷ u ∷ z) (sym (append_assoc b (v ∷ d ∷ []) c))) (function_of v d k l m e bs r)

-- each frame is completed
completes-part : {t : Lexeme} {s : Sort} {w : Wait} {ps : Trees} {a : List Lexeme} → HasRead t s w ps a → Finishing s a
completes-part declaration = record { rest = some_name ∷ []; tree = built (Form.Name some_name) Nil (some_name ∷ []); made = λ u q. plain refl }
completes-part (declaration_name {n = n} k) = record { rest = []; tree = built (Form.Name n) Nil (n ∷ []); made = λ u q. plain k }
completes-part (places {n = n} {u = u} {p = p} {d = d} k l h) = sooner Sort.Declaration (n ∷ u ∷ d) (underscore ∷ []) (closed-places (p + 1) (d ++ underscore ∷ []) k l (h 1 (underscore ∷ []) (last_place refl)))
completes-part (places_read {n = n} {u = u} v p d k l h m) = closed-places (p + 1) (d ++ v ∷ []) k l (h 1 (v ∷ []) (last_place m))
completes-part (prefix_place {s = s} k) = record { rest = underscore ∷ []; tree = built (Form.PrefixParameter s) Nil (s ∷ underscore ∷ []); made = λ u q. prefix_symbol k refl }
completes-part (symbol_place {p = p} k) = record { rest = some (LexKind.Sym Op.Plus) ∷ underscore ∷ []; tree = built (Form.InfixParameter (some (LexKind.Sym Op.Plus))) Nil (p ∷ some (LexKind.Sym Op.Plus) ∷ underscore ∷ []); made = λ u q. infix_symbol {op = Op.Plus} k refl refl refl }
completes-part (infix_place {p = p} {s = s} k l h) = record { rest = underscore ∷ []; tree = built (Form.InfixParameter s) Nil (p ∷ s ∷ underscore ∷ []); made = λ u q. infix_symbol k l h refl }
completes-part (definition_name {n = n} k) = from-define Nil (n ∷ []) (constant k)
completes-part (parameters_read {n = n} {u = u} ps x d b k l h m) = sooner Sort.Definition (n ∷ u ∷ (d ++ b)) (closing ∷ []) (from-define (then ps x) (n ∷ u ∷ ((d ++ b) ++ closing ∷ [])) (with_parameters closing k l refl (parameters-close ps x d b h m)))
completes-part (define {ps = ps} {a = a} h) = from-define ps a h
completes-part (body {ps = ps} {a = a} d h m) = from-body ps a d h m
completes-part (prefix_name {s = s} k) = sooner Sort.Definition (s ∷ []) (some_name ∷ equals ∷ []) (from-right (Form.PrefixDefinition s) (one (name_leaf some_name)) (s ∷ some_name ∷ equals ∷ []) (λ x b v r. prefix_operator k refl refl r))
completes-part (prefix_define {s = s} {n = n} k l) = sooner Sort.Definition (s ∷ n ∷ []) (equals ∷ []) (from-right (Form.PrefixDefinition s) (one (name_leaf n)) (s ∷ n ∷ equals ∷ []) (λ x b v r. prefix_operator k l refl r))
completes-part (infix_name {m = m} {s = s} k l h) = sooner Sort.Definition (m ∷ s ∷ []) (some_name ∷ equals ∷ []) (from-right (Form.InfixDefinition s) (two (name_leaf m) (name_leaf some_name)) (m ∷ s ∷ some_name ∷ equals ∷ []) (λ x b v r. infix_operator k l h refl refl r))
completes-part (infix_define {m = m} {s = s} {n = n} k l h e) = sooner Sort.Definition (m ∷ s ∷ n ∷ []) (equals ∷ []) (from-right (Form.InfixDefinition s) (two (name_leaf m) (name_leaf n)) (m ∷ s ∷ n ∷ equals ∷ []) (λ x b v r. infix_operator k l h e refl r))
completes-part (postfix_define {m = m} {s = s} k l h) = sooner Sort.Definition (m ∷ s ∷ []) (equals ∷ []) (from-right (Form.PostfixDefinition s) (one (name_leaf m)) (m ∷ s ∷ equals ∷ []) (λ x b v r. postfix_operator k l h refl r))
completes-part (bounds_read {n = n} {u = u} {xs = xs} {b = b} k l d) =
    sooner Sort.Definition (n ∷ u ∷ b) (bracket ∷ equals ∷ []) (from-right (Form.FunctionDefinition n) xs (n ∷ u ∷ (b ++ bracket ∷ equals ∷ [])) (λ x c v r. head-defines bracket equals k l refl refl (bounds-quiet d (Some bracket) (record { apart = refl; no_arm = λ e. cc })) r))
completes-part (bounds_define {n = n} {u = u} v {xs = xs} {b = b} k l m d) =
    sooner Sort.Definition (n ∷ u ∷ (b ++ v ∷ [])) (equals ∷ [])
    (from-right (Form.FunctionDefinition n) xs (n ∷ u ∷ ((b ++ v ∷ []) ++ equals ∷ []))
    (λ x c z r. subst (λ y. DerivesDefinition (built (Form.FunctionDefinition n) (then xs x) ((n ∷ u ∷ y) ++ c)) ((n ∷ u ∷ y) ++ c) 0 (Some z)) (sym (append_assoc b (v ∷ []) (equals ∷ []))) (head-defines v equals k l m refl d r)))
completes-part (right {form = form} {ps = ps} {a = a} h) = from-right form ps a h
completes-part (instance_name {w = w} k) = record { rest = some_name ∷ []; tree = built (Form.Instance some_name) Nil (w ∷ some_name ∷ []); made = λ u q. without k refl }
completes-part (instance_read {w = w} {m = m} k l) = record { rest = []; tree = built (Form.Instance m) Nil (w ∷ m ∷ []); made = λ u q. without k l }
completes-part {t = t} (replacements_read {w = w} {m = m} {u = v} ps x d b k l e h r) = record {
  rest = [];
  tree = built (Form.Instance m) (then ps x) (w ∷ m ∷ v ∷ (d ++ b));
  made = λ u q. subst (λ z. DerivesInstance (built (Form.Instance m) (then ps x) (w ∷ m ∷ v ∷ (d ++ b))) z 0 (Some u)) (sym (append-nil (w ∷ m ∷ v ∷ (d ++ b)))) (with_replacements k l e (replacements-close ps x d b u h (replacement-quiet r u q)));
}
completes-part replacement_start = record { rest = some_name ∷ some (LexKind.Mark Mark.LeftArrow) ∷ some LexKind.Number ∷ []; tree = _; made = λ u q. replaced (by_name refl) refl (number-derived u) }
completes-part (replacement_arrow k) = record { rest = some (LexKind.Mark Mark.LeftArrow) ∷ some LexKind.Number ∷ []; tree = _; made = λ u q. replaced k refl (number-derived u) }
completes-part (replacement_right k l) = record { rest = some LexKind.Number ∷ []; tree = _; made = λ u q. replaced k l (number-derived u) }
completes-part {t = t} (complete {s = s} {form = form} {ps = ps} {a = a} m) = record { rest = []; tree = built form ps a; made = λ u q. subst (λ z. Made s (built form ps a) z u) (sym (append-nil a)) (made-quiet s (built form ps a) a t m u q) }

-- ---- units

abbrev close : Lexeme
close = some LexKind.Close

close-quiet : IsQuiet close
close-quiet = record { apart = refl; no_arm = λ e. cc }

-- lexemes that end the unit
record UnitFinishing (begun : Begun) (a : List Lexeme) : Type 0 where
  pub rest : List Lexeme
  pub tree : Tree
  pub whole : Finishes begun tree (a ++ rest) close

completes-stack : {begun : Begun} {s : Sort} {fs : List Frame} {c : List Lexeme} → Stack begun s fs c → (a : List Lexeme) → Finishing s a → UnitFinishing begun (c ++ a)
completes-stack (base e) a f = record { rest = f.rest; tree = f.tree; whole = by_part e (f.made close close-quiet) }
completes-stack {begun = begun} (above {s = s} {r = r} {w = w} {ps = ps} {a = b} {c = d} k h) a f =
    let m : Made r f.tree (a ++ f.rest) close = f.made close close-quiet in
    let g : Finishing s (b ++ (a ++ f.rest)) = completes-part (taking-sound h f.tree (a ++ f.rest) close m) in
    let i : Finishing s (b ++ a) = sooner s (b ++ a) f.rest (subst (λ z. Finishing s z) (sym (append_assoc b a f.rest)) g) in
    subst (λ z. UnitFinishing begun z) (sym (append_assoc d b a)) (completes-stack k (b ++ a) i)

-- ---- modules

begins-sooner : (p c : List Lexeme) → Begins (p ++ c) → Begins p
begins-sooner p c b = (c ++ b.0, subst IsDerivable (append_assoc p c b.0) b.1)

begins-as : (p q : List Lexeme) → p ≡ q → Begins p → Begins q
begins-as p q e b = subst (λ z. Begins z) e b

-- what ends all modules
record Ending (depth : ℕ) : Type 0 where
  pub units : List UnitTree
  pub lexemes : List Lexeme
  pub rest : Rest (suc depth) units lexemes

ending : (depth : ℕ) → Ending depth
ending ℕ.zero = record { units = []; lexemes = close ∷ []; rest = closes refl }
ending (suc depth) =
    let e : Ending depth = ending depth in
    record { units = ModuleEnd (some LexKind.Equals) ∷ e.units; lexemes = some LexKind.Equals ∷ e.lexemes; rest = ends refl e.rest }

goes-begins : {depth : ℕ} {us : List UnitTree} {q : List Lexeme} → Goes (suc depth) us q → Begins q
goes-begins {depth = depth} g =
    let e : Ending depth = ending depth in
    let w : Wholes _ _ = g.on e.units e.lexemes e.rest in
    (e.lexemes, (w.0, whole-derives w.2))

unit-begins : {depth : ℕ} {us : List UnitTree} {q l : List Lexeme} (begun : Begun) (a : List Lexeme) → Goes (suc depth) us q → Opened begun l → UnitFinishing begun a → Begins (q ++ (l ++ a))
unit-begins {q = q} {l = l} begun a g o f =
    let b : Begins (q ++ (l ++ (a ++ f.rest))) = goes-begins (finish-goes begun f.tree (a ++ f.rest) close o f.whole g) in
    begins-sooner (q ++ (l ++ a)) f.rest (begins-as _ _ (simp append_assoc) b)

opens-begins : {depth : ℕ} {us : List UnitTree} {q : List Lexeme} → Opens depth us q → (dashes n : Lexeme) (names a : List Lexeme) → BeginsModule dashes n names a → Begins (q ++ a)
opens-begins o dashes n names a k = goes-begins (o.begin dashes n names a k)

expression-finishes : {begun : Begun} {fs : List Frame} {c : List Lexeme} → Under begun fs c → (x : Tree) (b : List Lexeme) → Derives x b 0 (Some close) → UnitFinishing begun (c ++ b)
expression-finishes (claims e) x b h = record { rest = []; tree = x; whole = by_claim e (subst (λ z. Derives x z 0 (Some close)) (sym (append-nil b)) h) }
expression-finishes {begun = begun} (awaits {g = g} {c = c} k aw) x b h =
    subst (λ z. UnitFinishing begun z) (sym (append_assoc c g.read b)) (completes-stack k (g.read ++ b) (completes-part (aw x b close h)))

unit-sooner : (begun : Begun) (a b : List Lexeme) → UnitFinishing begun (a ++ b) → UnitFinishing begun a
unit-sooner begun a b f = record { rest = b ++ f.rest; tree = f.tree; whole = subst (λ z. Finishes begun f.tree z close) (append_assoc a b f.rest) f.whole }

-- the begin of a module, from its word on
abbrev header : List Lexeme
header = some (LexKind.Word Word.Module) ∷ some_name ∷ some LexKind.Dashes ∷ []

-- each state is completed
focus-begins : {depth : ℕ} {us : List UnitTree} {focus : Focus} {p : List Lexeme} → FocusOk depth us focus p → Begins p
focus-begins at_opening = begins-sooner [] (some LexKind.Dashes ∷ header) (opens-begins outermost-opens (some LexKind.Dashes) some_name [] (some LexKind.Dashes ∷ header) (alone refl refl refl refl))
focus-begins (at_word {d = d} k) = begins-sooner (d ∷ []) header (opens-begins outermost-opens d some_name [] (d ∷ header) (alone k refl refl refl))
focus-begins (at_name q d w o k l) = begins-sooner (q ++ d ∷ w ∷ []) (some_name ∷ some LexKind.Dashes ∷ []) (begins-as _ _ (sym (append_assoc q (d ∷ w ∷ []) (some_name ∷ some LexKind.Dashes ∷ []))) (opens-begins o d some_name [] (d ∷ w ∷ some_name ∷ some LexKind.Dashes ∷ []) (alone k l refl refl)))
focus-begins (at_dashes {n = n} q d w o k l m) = begins-sooner (q ++ d ∷ w ∷ n ∷ []) (some LexKind.Dashes ∷ []) (begins-as _ _ (sym (append_assoc q (d ∷ w ∷ n ∷ []) (some LexKind.Dashes ∷ []))) (opens-begins o d n [] (d ∷ w ∷ n ∷ some LexKind.Dashes ∷ []) (alone k l m refl)))
focus-begins (at_read {n = n} q d w e o k l m i) = opens-begins o d n [] (d ∷ w ∷ n ∷ e ∷ []) (alone k l m i)
focus-begins (at_extends {n = n} {ns = ns} q d w e x c o k l m i j h) =
    begins-sooner (q ++ d ∷ w ∷ n ∷ e ∷ x ∷ c) (some_name ∷ []) (begins-as _ _ (sym (append_assoc q (d ∷ w ∷ n ∷ e ∷ x ∷ c) (some_name ∷ []))) (opens-begins o d n (ns ++ some_name ∷ []) (d ∷ w ∷ n ∷ e ∷ x ∷ (c ++ some_name ∷ [])) (extending k l m i j (names-close ns c some_name h refl))))
focus-begins (at_extended {n = n} q d w e x ns c v o k l m i j h f) = opens-begins o d n (ns ++ v ∷ []) (d ∷ w ∷ n ∷ e ∷ x ∷ (c ++ v ∷ [])) (extending k l m i j (names-close ns c v h f))
focus-begins (at_unit g) = goes-begins g
focus-begins (at_line {d = d} q g k) = begins-sooner (q ++ d ∷ []) header (begins-as _ _ (sym (append_assoc q (d ∷ []) header)) (opens-begins (nested-opens g) d some_name [] (d ∷ header) (alone k refl refl refl)))
focus-begins (at_local {w = w} q g k) =
    begins-sooner (q ++ w ∷ []) (some_name ∷ []) (begins-as _ _ (sym (append_assoc q (w ∷ []) (some_name ∷ []))) (unit-begins (OfDefinition (Some w)) (some_name ∷ []) g (opened_definition (kept k)) (completes-stack (base refl) (some_name ∷ []) (completes-part {t = close} (definition_name refl)))))
focus-begins (at_variable {ns = ns} q w c g k h) =
    begins-sooner (q ++ w ∷ c) (some_name ∷ []) (begins-as _ _ (sym (append_assoc q (w ∷ c) (some_name ∷ []))) (goes-begins (plain-goes (λ u f. plain_variables k (names-close ns c some_name h refl)) g)))
focus-begins (at_variables q w ns c v g k h f) = goes-begins (plain-goes (λ u z. plain_variables k (names-close ns c v h f)) g)
focus-begins (at_closed {ts = ts} w) = ([], (w.0, subst (λ z. DerivesModule w.0 z) (sym (append-nil ts)) (whole-derives w.2)))
focus-begins (at_declared q w xs x d b g k h m) = goes-begins (plain-goes (λ u f. plain_constants k (parameters-close xs x d b h m)) g)
focus-begins (at_part {begun = begun} {f = f} q l c g o k h) = unit-begins begun (c ++ f.read) g o (completes-stack k f.read (completes-part (h close)))
focus-begins (at_expression {begun = begun} {st = st} {b = b} q l c g o u e) =
    let k : (rest : List Lexeme) × (tree : Tree) × (Expressions.parse (b ++ rest) ≡ Some tree) = completes-expression b st e in
    let d : Derives k.1 (b ++ k.0) 0 (Some close) = before-quiet (accepted-derives (b ++ k.0) k.1 k.2) (Some close) close-quiet in
    let f : UnitFinishing begun (c ++ (b ++ k.0)) = expression-finishes u k.1 (b ++ k.0) d in
    unit-begins begun (c ++ b) g o (unit-sooner begun (c ++ b) k.0 (subst (λ z. UnitFinishing begun z) (sym (append_assoc c b k.0)) f))
focus-begins (at_bounds {before = before} {n = n} {u = u} {st = st} {b = b} q l g s k m e) =
    let r : (rest : List Lexeme) × (bounds : Trees) × (Expressions.parse_bounds (b ++ rest) ≡ Some bounds) = completes-bounds b st e in
    let d : DerivesBounds r.1 (b ++ r.0) 0 (Some close) = bounds-quiet (accepted-bounds (b ++ r.0) r.1 r.2) (Some close) close-quiet in
    let f : Finishing Sort.Definition (n ∷ u ∷ (b ++ r.0)) = completes-part (bounds_read k m d) in
    unit-begins (OfDefinition before) (n ∷ u ∷ b) g (opened_definition s) (completes-stack (base refl) (n ∷ u ∷ b) (sooner Sort.Definition (n ∷ u ∷ b) r.0 f))

-- what the machine has not refused begins a module
pub unrefused-begins : (lexemes : List Lexeme) (reached : State) → run (Some opening) lexemes ≡ Some reached → Begins lexemes
unrefused-begins lexemes reached e = focus-begins (subst (λ o. GoingOk lexemes o) e (opening-sound lexemes))
