-- A lexeme that moves a frame keeps to the grammar.
use Rattle.std.proofs.Common.{◌≡◌, ℕ, ◌+◌, Bool, true, false, List, [], ◌∷◌, ◌++◌, Some, refl, ap, sym, subst, ◌∙◌, append_assoc, arith}
use Rattle.std.specs.Prelude.{cond, IsTrue}
use Rattle.tla_symbols.specs.declared.op.Op.{Op}
use Rattle.tla_symbols.specs.declared.place.Fix.{Fix}
use Rattle.tla_symbols.specs.declared.lexeme.LexKind.{LexKind}
use Rattle.tla_symbols.specs.declared.lexeme.Mark.TheVariants as Mark
use Rattle.tla_symbols.specs.declared.lexeme.Lexeme.{Lexeme}
use Rattle.tla_tree.specs.declared.form.Form.{Form}
use Rattle.tla_tree.specs.Syntax.{Tree, Trees, Nil, Cons}
use Rattle.tla_tree.specs.Lexemes.{IsName, IsMark, Defines, is_given, built, one, then, joined}
use Rattle.tla_tree.specs.Headings.{DerivesPlaces, last_place, more_places, DerivesParameter, plain, of_places, prefix_symbol, infix_symbol, postfix_symbol, DerivesParameters, last_parameter, more_parameters, DerivesHead, constant, with_parameters}
use Rattle.tla_tree.specs.Derivation.{DerivesDefinition, operator, prefix_operator, infix_operator, postfix_operator, function_of, without, with_replacements, DerivesReplacements, last_replacement, more_replacements, DerivesReplacement, replaced, replaced_by_symbol}
use Rattle.expr_grammar.specs.Kinds.{is_name, is_define, is_left_arrow, is_comma, is_left_paren, is_right_paren, is_left_bracket, is_right_bracket, is_underscore, is_instance, is_with, is_negative}
use Rattle.expr_grammar.specs.Tables.{defines, is_given_kind, is_replaceable}
use Rattle.expr_laws.proofs.KindTests.{name-is, define-is, left_arrow-is, comma-is, left_paren-is, right_paren-is, left_bracket-is, right_bracket-is, underscore-is, instance-is, with-is, negative-is}
use Rattle.expr_laws.proofs.Viewing.{defines-is, given-is, replaceable-is}
use Rattle.unit_machine.specs.declared.wait.Wait.{Wait}
use Rattle.unit_machine.specs.declared.wait.Move.{Move}
use Rattle.unit_machine.specs.Tables.{if_move, move}
use Rattle.unit_machine.specs.Machine.{frame}
use Rattle.unit_laws.proofs.PartCompleteness.{joined-then, joined-one}
use Rattle.unit_laws.proofs.Views.{Sort, Made, PlacesSeen, ParametersSeen, ReplacementsSeen, HasRead, declaration, declaration_name, places, places_read, prefix_place, symbol_place, infix_place, definition_name, parameters_read, define, body, prefix_name, prefix_define, infix_name, infix_define, postfix_define, bounds_read, bounds_define, right, instance_name, instance_read, replacements_read, replacement_start, replacement_arrow, replacement_right, complete, Holds, parameters, replacements, body_instance, Awaits}

-- what a move makes
abbrev pub MoveOk : Sort → Wait → Trees → List Lexeme → Lexeme → Move → Type 0
MoveOk s w ps a t (Move.Shift v) = (u : Lexeme) → HasRead u s v ps (a ++ t ∷ [])
MoveOk s w ps a t (Move.Leaf form v) = (u : Lexeme) → HasRead u s v (then ps (built form Nil (t ∷ []))) (a ++ t ∷ [])
MoveOk s w ps a t (Move.LeafOf form n v) = (u : Lexeme) → HasRead u s v (then ps (built form Nil (n ∷ []))) (a ++ t ∷ [])
MoveOk s w ps a t (Move.Push v) = (r : Sort) × Holds s r w ps a × ((u : Lexeme) → HasRead u r v Nil (t ∷ []))
MoveOk s w ps a t (Move.Opens v c) = (r : Sort) × Holds s r v ps (a ++ t ∷ []) × ((u : Lexeme) → HasRead u r c Nil [])
MoveOk s w ps a t (Move.Close form) = (s ≡ Sort.Declaration) × DerivesParameter (built form ps (a ++ t ∷ [])) (a ++ t ∷ [])
MoveOk s w ps a t (Move.Ends form) = Made s (built form ps a) a t
MoveOk s w ps a t Move.Expression = Awaits s (frame w ps a)
MoveOk s w ps a t (Move.Bounds v) = (n : Lexeme) × (s ≡ Sort.Definition) × (v ≡ Wait.Bounds n) × (ps ≡ Nil) × (a ≡ n ∷ []) × IsName n × IsMark t Mark.LeftBracket
MoveOk s w ps a t Move.Refused = Unit {0}

by-test : (P : Move → Type 0) (b : Bool) (m n : Move) → (b ≡ true → P m) → (b ≡ false → P n) → P (cond b m n)
by-test P true m n f g = f refl
by-test P false m n f g = g refl

only : (P : Move → Type 0) (b : Bool) (m : Move) → P Move.Refused → (b ≡ true → P m) → P (if_move b m)
only P true m r f = f refl
only P false m r f = r

pub reread : {t : Lexeme} {s : Sort} {w : Wait} {ps : Trees} (a b : List Lexeme) → a ≡ b → HasRead t s w ps a → HasRead t s w ps b
reread {t = t} {s = s} {w = w} {ps = ps} a b e h = subst (λ z. HasRead t s w ps z) e h

places-none : PlacesSeen 0 []
places-none m c d = let e : m ≡ 0 + m = omega arith in subst (λ z. DerivesPlaces z c) e d

places-more : (p : ℕ) (d : List Lexeme) (v t : Lexeme) → PlacesSeen p d → IsMark v Mark.Underscore → IsMark t Mark.Comma → PlacesSeen (p + 1) (d ++ v ∷ t ∷ [])
places-more p d v t h k e m c r =
    let q : p + (m + 1) ≡ (p + 1) + m = omega arith in
    subst (λ z. DerivesPlaces z ((d ++ v ∷ t ∷ []) ++ c)) q (subst (λ z. DerivesPlaces (p + (m + 1)) z) (sym (append_assoc d (v ∷ t ∷ []) c)) (h (m + 1) (v ∷ t ∷ c) (more_places k e r)))

pub parameters-more : (ps : Trees) (x : Tree) (d b : List Lexeme) (t : Lexeme) → ParametersSeen ps d → DerivesParameter x b → IsMark t Mark.Comma → ParametersSeen (then ps x) ((d ++ b) ++ t ∷ [])
parameters-more ps x d b t h k e xs c r =
    let l : d ++ (b ++ t ∷ c) ≡ ((d ++ b) ++ t ∷ []) ++ c = simp append_assoc in
    subst (λ z. DerivesParameters z (((d ++ b) ++ t ∷ []) ++ c)) (sym (joined-then ps x xs)) (subst (λ z. DerivesParameters (joined ps (Cons x xs)) z) l (h (Cons x xs) (b ++ t ∷ c) (more_parameters t e k r)))

pub parameters-close : (ps : Trees) (x : Tree) (d b : List Lexeme) → ParametersSeen ps d → DerivesParameter x b → DerivesParameters (then ps x) (d ++ b)
parameters-close ps x d b h k = subst (λ z. DerivesParameters z (d ++ b)) (joined-one ps x) (h (one x) b (last_parameter k))

replacements-more : (ps : Trees) (x : Tree) (d b : List Lexeme) (t : Lexeme) → ReplacementsSeen ps d → DerivesReplacement x b 0 (Some t) → IsMark t Mark.Comma → ReplacementsSeen (then ps x) ((d ++ b) ++ t ∷ [])
replacements-more ps x d b t h k e xs c u r =
    let l : d ++ (b ++ t ∷ c) ≡ ((d ++ b) ++ t ∷ []) ++ c = simp append_assoc in
    subst (λ z. DerivesReplacements z (((d ++ b) ++ t ∷ []) ++ c) 0 (Some u)) (sym (joined-then ps x xs)) (subst (λ z. DerivesReplacements (joined ps (Cons x xs)) z 0 (Some u)) l (h (Cons x xs) (b ++ t ∷ c) u (more_replacements t e k r)))

pub replacements-close : (ps : Trees) (x : Tree) (d b : List Lexeme) (t : Lexeme) → ReplacementsSeen ps d → DerivesReplacement x b 0 (Some t) → DerivesReplacements (then ps x) (d ++ b) 0 (Some t)
replacements-close ps x d b t h k = subst (λ z. DerivesReplacements z (d ++ b) 0 (Some t)) (joined-one ps x) (h (one x) b t (last_replacement k))

awaits-body : {n : Lexeme} (d : Lexeme) (ps : Trees) (a : List Lexeme) → DerivesHead n ps a → IsMark d Mark.Define → Awaits Sort.Definition (frame (Wait.Body n) ps (a ++ d ∷ []))
awaits-body {n = n} d ps a h m x b t e =
    complete (subst (λ z. DerivesDefinition (built (Form.OperatorDefinition n) (then ps x) z) z 0 (Some t)) (sym (append_assoc a (d ∷ []) b)) (operator d h m e))

pub move-sound : {t : Lexeme} {s : Sort} {w : Wait} {ps : Trees} {a : List Lexeme} → HasRead t s w ps a → MoveOk s w ps a t (move w t)
move-sound {t = t} {s = s} {w = w} {ps = ps} {a = a} declaration =
    by-test (MoveOk s w ps a t) (is_name t.kind) _ _ (λ e u. declaration_name (name-is t.kind e))
    (λ z. by-test (MoveOk s w ps a t) (is_negative t.kind) _ _ (λ e u. prefix_place (negative-is t.kind e))
    (λ y. only (MoveOk s w ps a t) (is_underscore t.kind) _ tt (λ e u. symbol_place (underscore-is t.kind e))))
move-sound {t = t} {s = s} {w = w} {ps = ps} {a = a} (declaration_name k) =
    by-test (MoveOk s w ps a t) (is_left_paren t.kind) _ _ (λ e u. places k (left_paren-is t.kind e) places-none) (λ z. plain k)
move-sound {t = t} {s = s} {w = w} {ps = ps} {a = a} (places {n = n} {u = u} {p = p} {d = d} k l h) =
    only (MoveOk s w ps a t) (is_underscore t.kind) _ tt (λ e v. places_read t p d k l h (underscore-is t.kind e))
move-sound {t = t} {s = s} {w = w} {ps = ps} {a = a} (places_read {n = n} {u = u} v p d k l h m) =
    by-test (MoveOk s w ps a t) (is_comma t.kind) _ _
    (λ e y. reread (n ∷ u ∷ (d ++ v ∷ t ∷ [])) (n ∷ u ∷ ((d ++ v ∷ []) ++ t ∷ [])) (ap (λ z. n ∷ u ∷ z) (sym (append_assoc d (v ∷ []) (t ∷ [])))) (places k l (places-more p d v t h m (comma-is t.kind e))))
    (λ z. only (MoveOk s w ps a t) (is_right_paren t.kind) _ tt (λ e. (refl, of_places t k l (right_paren-is t.kind e) (h 1 (v ∷ []) (last_place m)))))
move-sound {t = t} {s = s} {w = w} {ps = ps} {a = a} (prefix_place k) =
    only (MoveOk s w ps a t) (is_underscore t.kind) _ tt (λ e. (refl, prefix_symbol k (underscore-is t.kind e)))
move-sound {t = t} {s = s} {w = w} {ps = ps} {a = a} (symbol_place k) =
    by-test (MoveOk s w ps a t) (defines Fix.Infix t.kind) _ _ (λ e u. (let q : (op : Op) × (t.kind ≡ LexKind.Sym op) × Defines op Fix.Infix = defines-is Fix.Infix t.kind e in infix_place k q.1 q.2))
    (λ z. only (MoveOk s w ps a t) (defines Fix.Postfix t.kind) _ tt (λ e. (let q : (op : Op) × (t.kind ≡ LexKind.Sym op) × Defines op Fix.Postfix = defines-is Fix.Postfix t.kind e in (refl, postfix_symbol k q.1 q.2))))
move-sound {t = t} {s = s} {w = w} {ps = ps} {a = a} (infix_place k l h) =
    only (MoveOk s w ps a t) (is_underscore t.kind) _ tt (λ e. (refl, infix_symbol k l h (underscore-is t.kind e)))
move-sound {t = t} {s = s} {w = w} {ps = ps} {a = a} (definition_name {n = n} k) =
    by-test (MoveOk s w ps a t) (is_define t.kind) _ _ (λ e u. body t (constant k) (define-is t.kind e))
    (λ z. by-test (MoveOk s w ps a t) (is_left_paren t.kind) _ _ (λ e. (Sort.Declaration, parameters k (left_paren-is t.kind e) (λ xs c r. r), λ u. declaration))
    (λ y. by-test (MoveOk s w ps a t) (is_left_bracket t.kind) _ _ (λ e. (n, refl, refl, refl, refl, k, left_bracket-is t.kind e))
    (λ x. by-test (MoveOk s w ps a t) (defines Fix.Infix t.kind) _ _ (λ e u. (let q : (op : Op) × (t.kind ≡ LexKind.Sym op) × Defines op Fix.Infix = defines-is Fix.Infix t.kind e in infix_name k q.1 q.2))
    (λ v. only (MoveOk s w ps a t) (defines Fix.Postfix t.kind) _ tt (λ e u. (let q : (op : Op) × (t.kind ≡ LexKind.Sym op) × Defines op Fix.Postfix = defines-is Fix.Postfix t.kind e in postfix_define k q.1 q.2))))))
move-sound {t = t} {s = s} {w = w} {ps = ps} {a = a} (parameters_read qs x d b k l h m) =
    by-test (MoveOk s w ps a t) (is_comma t.kind) _ _ (λ e. (Sort.Declaration, parameters k l (parameters-more qs x d b t h m (comma-is t.kind e)), λ u. declaration))
    (λ z. only (MoveOk s w ps a t) (is_right_paren t.kind) _ tt (λ e u. define (with_parameters t k l (right_paren-is t.kind e) (parameters-close qs x d b h m))))
move-sound {t = t} {s = s} {w = w} {ps = ps} {a = a} (define h) =
    only (MoveOk s w ps a t) (is_define t.kind) _ tt (λ e u. body t h (define-is t.kind e))
move-sound {t = t} {s = s} {w = w} {ps = ps} {a = a} (body {a = b} d h m) =
    by-test (MoveOk s w ps a t) (is_instance t.kind) _ _ (λ e. (Sort.Instance, body_instance d h m, λ u. instance_name (instance-is t.kind e))) (λ z. awaits-body d ps b h m)
move-sound {t = t} {s = s} {w = w} {ps = ps} {a = a} (prefix_name k) =
    only (MoveOk s w ps a t) (is_name t.kind) _ tt (λ e u. prefix_define k (name-is t.kind e))
move-sound {t = t} {s = s} {w = w} {ps = ps} {a = a} (prefix_define k l) =
    only (MoveOk s w ps a t) (is_define t.kind) _ tt (λ e u. right (λ x b v r. prefix_operator k l (define-is t.kind e) r))
move-sound {t = t} {s = s} {w = w} {ps = ps} {a = a} (infix_name k l h) =
    only (MoveOk s w ps a t) (is_name t.kind) _ tt (λ e u. infix_define k l h (name-is t.kind e))
move-sound {t = t} {s = s} {w = w} {ps = ps} {a = a} (infix_define k l h m) =
    only (MoveOk s w ps a t) (is_define t.kind) _ tt (λ e u. right (λ x b v r. infix_operator k l h m (define-is t.kind e) r))
move-sound {t = t} {s = s} {w = w} {ps = ps} {a = a} (postfix_define k l h) =
    only (MoveOk s w ps a t) (is_define t.kind) _ tt (λ e u. right (λ x b v r. postfix_operator k l h (define-is t.kind e) r))
move-sound {t = t} {s = s} {w = w} {ps = ps} {a = a} (bounds_read k l d) =
    only (MoveOk s w ps a t) (is_right_bracket t.kind) _ tt (λ e u. bounds_define t k l (right_bracket-is t.kind e) d)
move-sound {t = t} {s = s} {w = w} {ps = ps} {a = a} (bounds_define {n = n} {u = u} v {xs = xs} {b = b} k l m d) =
    only (MoveOk s w ps a t) (is_define t.kind) _ tt (λ e y. right (λ x c z r. subst (λ j. DerivesDefinition (built (Form.FunctionDefinition n) (then xs x) j) j 0 (Some z)) (function-spelled n u b v t c) (function_of v t k l m (define-is t.kind e) d r)))
  where
    function-spelled : (n u : Lexeme) (b : List Lexeme) (v t : Lexeme) (c : List Lexeme) → n ∷ u ∷ (b ++ v ∷ t ∷ c) ≡ (n ∷ u ∷ ((b ++ v ∷ []) ++ t ∷ [])) ++ c
    function-spelled n u b v t c = ap (λ z. n ∷ u ∷ z) (sym (append_assoc (b ++ v ∷ []) (t ∷ []) c ∙ append_assoc b (v ∷ []) (t ∷ c)))
move-sound {t = t} {s = s} {w = w} {ps = ps} {a = a} (right h) = λ x b u r. complete (h x b u r)
move-sound {t = t} {s = s} {w = w} {ps = ps} {a = a} (instance_name k) =
    only (MoveOk s w ps a t) (is_name t.kind) _ tt (λ e u. instance_read k (name-is t.kind e))
move-sound {t = t} {s = s} {w = w} {ps = ps} {a = a} (instance_read k l) =
    by-test (MoveOk s w ps a t) (is_with t.kind) _ _ (λ e. (Sort.Replacement, replacements k l (with-is t.kind e) (λ xs c u r. r), λ u. replacement_start)) (λ z. without k l)
move-sound {t = t} {s = s} {w = w} {ps = ps} {a = a} (replacements_read qs x d b k l m h r) =
    by-test (MoveOk s w ps a t) (is_comma t.kind) _ _ (λ e. (Sort.Replacement, replacements k l m (replacements-more qs x d b t h r (comma-is t.kind e)), λ u. replacement_start))
    (λ z. with_replacements k l m (replacements-close qs x d b t h r))
move-sound {t = t} {s = s} {w = w} {ps = ps} {a = a} replacement_start =
    only (MoveOk s w ps a t) (is_replaceable t.kind) _ tt (λ e u. replacement_arrow (replaceable-is t e))
move-sound {t = t} {s = s} {w = w} {ps = ps} {a = a} (replacement_arrow k) =
    only (MoveOk s w ps a t) (is_left_arrow t.kind) _ tt (λ e u. replacement_right k (left_arrow-is t.kind e))
move-sound {t = t} {s = s} {w = w} {ps = ps} {a = a} (replacement_right k l) =
    by-test (MoveOk s w ps a t) (is_given_kind t.kind) _ _
    (λ e u. (let q : (op : Op) × (t.kind ≡ LexKind.Sym op) × IsTrue (is_given op) = given-is t.kind e in complete (replaced_by_symbol k l q.1 q.2)))
    (λ z x b u r. complete (replaced k l r))
move-sound {t = t} {s = s} {w = w} {ps = ps} {a = a} (complete h) = h
