-- A lexeme after a finished part keeps to the grammar.
use Rattle.std.proofs.Common.{◌≡◌, ℕ, ◌≤◌, inl, inr, Bool, true, false, List, [], ◌∷◌, ◌++◌, Option, Some, refl, ap, sym, subst, ◌∙◌, append_assoc}
use Rattle.std.specs.Prelude.{IsTrue}
use Rattle.tla_symbols.specs.declared.op.Op.{Op}
use Rattle.tla_symbols.specs.declared.lexeme.Mark.{Mark}
use Rattle.tla_symbols.specs.declared.lexeme.Lexeme.{Lexeme}
use Rattle.tla_tree.specs.declared.form.Form.{Form}
use Rattle.tla_tree.specs.Syntax.{Tree, Trees, Cons, trees}
use Rattle.tla_tree.specs.Shapes.{BindsOne, IsSubscript}
use Rattle.tla_tree.specs.Lexemes.{IsName, IsMark, IsSymbol, is_passed, built, one, joined}
use Rattle.tla_tree.specs.Headings.{names as of_list, binder_name, binder_tuple, DerivesParameter, DerivesParameters, last_parameter, more_parameters, with_parameters}
use Rattle.tla_tree.specs.Derivation.{Derives, node, parentheses, set, set_filter, set_image, application, function, function_set, record_of, record_set, except, tuple, fairness, DerivesList, last, more, DerivesSegments, more_segments, DerivesSegment, bare, applied, DerivesArguments, last_argument, more_arguments, expression as operand_argument, passed, DerivesBound, DerivesBounds, last_bound, more_bounds, DerivesFields, last_field, more_fields, named, DerivesUpdate, DerivesUpdates, last_update, more_updates, DerivesStep, field_step, index_step, DerivesArms, more_arms, DerivesArm, DerivesDefinitions, last_definition, more_definitions, DerivesDefinition, operator, prefix_operator, infix_operator, postfix_operator, function_of, module_of, DerivesReplacements, more_replacements, DerivesReplacement}
use Rattle.expr_grammar.specs.declared.wait.Binding.{Binding}
use Rattle.expr_grammar.specs.declared.wait.Handed.TheVariants as Handed
use Rattle.expr_grammar.specs.declared.wait.Wait.{Wait}
use Rattle.expr_grammar.specs.declared.wait.Mode.{Mode}
use Rattle.expr_grammar.specs.declared.wait.PartMove.{PartMove}
use Rattle.expr_grammar.specs.declared.wait.Shape.{Shape}
use Rattle.expr_grammar.specs.Kinds.{is_name, is_arrow, is_maps_to, is_comma, is_colon, is_bang, is_left_paren, is_right_paren, is_right_bracket, is_right_bracket_subscript, is_right_brace, is_right_angle, is_right_angle_subscript, is_except, is_in_word, is_then, is_else, is_always, is_negative}
use Rattle.expr_grammar.specs.Tables.{mode, shape, is_expression, name_leaf, name_of, as_bound, converted, if_goes, after_brace, after_square, in_square, after_expression, after_part}
use Rattle.expr_grammar.specs.Machine.{inside}
use Rattle.expr_laws.proofs.KindTests.{name-is, arrow-is, maps_to-is, comma-is, colon-is, bang-is, left_paren-is, right_paren-is, right_bracket-is, right_bracket_subscript-is, right_brace-is, right_angle-is, right_angle_subscript-is, except-is, in_word-is, then-is, else-is, always-is, negative-is, by-test}
use Rattle.expr_laws.proofs.Tabled.{promised}
use Rattle.expr_laws.proofs.Naming.{name-identifier}
use Rattle.expr_laws.proofs.Starting.{derives-shape, trees-snoc, joined-snoc, symbol-leaf}
use Rattle.expr_laws.proofs.Views.{IsDue, Sort, sort, binding, Bounds, Stands, expression, symbol, instance, names, bound, arm, other_arm, segment, definition, parameter, replacement, update, step, Shut, HasRead, binding_comma, parentheses_body, handing_segment, identifier_bang, argument, quantifier_first, quantifier_next, quantifier_body, bounded_body, temporal_first, temporal_body, choose_first, choose_body, bounded_choose_body, brace_first, brace_next, filter_body, image_bounds, application_argument, square_first, function_to, function_names, function_bounds, function_body, record_value, record_next, record_set_value, record_set_next, except_updates, index_part, angle_first, angle_next, square_subscript, angle_subscript, fair_subscript, fair_action, if_test, if_then, if_else, case_arms, arm_guard, arm_body, handing_definition, let_body, definition_parameters, definition_define, function_head_bounds, function_head_define, replacements, NamesFor, BoundFor}
use Rattle.expr_laws.proofs.Viewing.{trees-then, adds-close, adds-mark, reread, names-more}
use Rattle.expr_laws.proofs.Converting.{member-bound, name-derives, bare-shape}
use Rattle.expr_laws.proofs.Marking.{operand-due, not-subscript}
use Rattle.expr_laws.proofs.PartShapes.{arm-shape, bound-shape, instance-shape, parameter-shape, replacement-shape, update-shape}

-- what a move after a part makes
abbrev pub PartOk : Wait → ℕ → List Tree → List Lexeme → Tree → List Lexeme → Lexeme → PartMove → Type 0
PartOk w i ps a x b t (PartMove.Finish form) = ⊥
PartOk w i ps a x b t (PartMove.Done form c) = Shut w (built form (trees (ps ++ converted c x b)) (a ++ (b ++ t ∷ []))) (a ++ (b ++ t ∷ [])) i
PartOk w i ps a x b t (PartMove.Goes u c) = HasRead w i u (ps ++ converted c x b) (a ++ (b ++ t ∷ [])) × (promised u ≡ [])
PartOk w i ps a x b t (PartMove.Hand h) = HasRead w i (Wait.Handing h t) (ps ++ x ∷ []) (a ++ b)
PartOk w i ps a x b t (PartMove.Convert flag) = HasRead (Wait.FunctionNames flag) i (Wait.BindingComma Binding.Bound) (name_of x ∷ []) (b ++ t ∷ []) × HasRead w i (Wait.FunctionNames flag) ps a
PartOk w i ps a x b t PartMove.Refused = Unit {0}

pub only : (P : PartMove → Type 0) (b : Bool) (m : PartMove) → P PartMove.Refused → (b ≡ true → P m) → P (if_goes b m)
only P true m r f = f refl
only P false m r f = r

-- the same tree over the same lexemes, written otherwise
pub restand : {w : Wait} {i : ℕ} {o : Option Lexeme} (form : Form) (xs ys : Trees) (a b : List Lexeme) → xs ≡ ys → a ≡ b → Stands w (built form xs a) a i o → Stands w (built form ys b) b i o
restand {w} {i} {o} form xs ys a b e k h = subst (λ z. Stands w (built form z b) b i o) e (subst (λ z. Stands w (built form xs z) z i o) k h)

assoc-end : (d b : List Lexeme) (t : Lexeme) → (d ++ b) ++ t ∷ [] ≡ d ++ (b ++ t ∷ [])
assoc-end d b t = append_assoc d b (t ∷ [])

assoc-mark : (a : List Lexeme) (m : Lexeme) (b : List Lexeme) (t : Lexeme) → a ++ m ∷ (b ++ t ∷ []) ≡ (a ++ m ∷ []) ++ (b ++ t ∷ [])
assoc-mark a m b t = sym (append_assoc a (m ∷ []) (b ++ t ∷ []))

assoc-list : (a : List Lexeme) (m : Lexeme) (d b : List Lexeme) (t : Lexeme) → a ++ m ∷ ((d ++ b) ++ t ∷ []) ≡ (a ++ m ∷ d) ++ (b ++ t ∷ [])
assoc-list a m d b t = ap (λ z. a ++ m ∷ z) (append_assoc d b (t ∷ [])) ∙ sym (append_assoc a (m ∷ d) (b ++ t ∷ []))

assoc-field : (d : List Lexeme) (n m : Lexeme) (b : List Lexeme) (t : Lexeme) → d ++ n ∷ m ∷ (b ++ t ∷ []) ≡ (d ++ n ∷ m ∷ []) ++ (b ++ t ∷ [])
assoc-field d n m b t = sym (append_assoc d (n ∷ m ∷ []) (b ++ t ∷ []))

brace-sound : (w : Wait) (i : ℕ) (u : Lexeme) (x : Tree) (b : List Lexeme) (t : Lexeme) → IsDue w → IsMark u Mark.LeftBrace → Derives x b i (Some t) → (sh : Shape) → shape x ≡ sh → PartOk w i [] (u ∷ []) x b t (after_brace sh t.kind)
brace-sound w i u x b t due k d Shape.Member e =
    let q : DerivesBound (as_bound x b) b i (Some t) × BindsOne (as_bound x b) = member-bound d e in
    only (PartOk w i [] (u ∷ []) x b t) (is_colon t.kind) _ tt (λ c. (filter_body due k (colon-is t.kind c) q.0 q.1, refl))
brace-sound w i u x b t due k d _ e =
    only (PartOk w i [] (u ∷ []) x b t) (is_colon t.kind) _ tt (λ c. (image_bounds [] due k (colon-is t.kind c) d (λ m. let f : shape x ≡ Shape.Member = bare-shape d m in cc) (λ o xs z r. r), refl))

after-square : (w : Wait) (i : ℕ) (flag : Bool) (u : Lexeme) (x : Tree) (b : List Lexeme) (t : Lexeme) → IsDue w → (flag ≡ true → mode w ≡ Mode.Operand) → IsMark u Mark.LeftBracket → Derives x b i (Some t) → PartOk w i [] (u ∷ []) x b t (after_square flag t)
after-square w i flag u x b t due f k d =
    by-test (PartOk w i [] (u ∷ []) x b t) (is_arrow t.kind) _ _ (λ e. (function_to due k (arrow-is t.kind e) d, refl))
    (λ z. by-test (PartOk w i [] (u ∷ []) x b t) (is_right_bracket_subscript t.kind) _ _
    (λ e. only (PartOk w i [] (u ∷ []) x b t) flag _ tt (λ g. (square_subscript (f g) k (right_bracket_subscript-is t.kind e) d, refl)))
    (λ y. only (PartOk w i [] (u ∷ []) x b t) (is_except t.kind) _ tt (λ e. (except_updates [] due k (except-is t.kind e) d (λ o xs c r. r), refl))))

bound-first : (i : ℕ) (y : Tree) (b : List Lexeme) (t : Lexeme) → DerivesBound y b i (Some t) → IsMark t Mark.Comma → Bounds i (y ∷ []) (b ++ t ∷ [])
bound-first i y b t d k = λ o. adds-mark (λ xs c. DerivesBounds xs c i o) [] [] y b t (λ xs c r. r) (λ xs c r. more_bounds t k d r)

square-sound : (w : Wait) (i : ℕ) (flag : Bool) (u : Lexeme) (x : Tree) (b : List Lexeme) (t : Lexeme) → IsDue w → (flag ≡ true → mode w ≡ Mode.Operand) → IsMark u Mark.LeftBracket → Derives x b i (Some t) → (sh : Shape) → shape x ≡ sh → PartOk w i [] (u ∷ []) x b t (in_square flag sh t)
square-sound w i flag u x b t due f k d (Shape.Plain n) e =
    let q : (x ≡ name-identifier n) × (b ≡ n ∷ []) × IsName n = name-derives d n e in
    by-test (PartOk w i [] (u ∷ []) x b t) (is_comma t.kind) _ _
    (λ c. (
      subst (λ z. HasRead (Wait.FunctionNames flag) i (Wait.BindingComma Binding.Bound) (name_of z ∷ []) (b ++ t ∷ [])) (sym q.0)
          (subst (λ z. HasRead (Wait.FunctionNames flag) i (Wait.BindingComma Binding.Bound) (name_leaf n ∷ []) (z ++ t ∷ [])) (sym q.1)
          (binding_comma refl refl (names-more [] [] n t (λ xs g r. r) q.2 (comma-is t.kind c)))),
      function_names due f k,
    ))
    (λ z. by-test (PartOk w i [] (u ∷ []) x b t) (is_maps_to t.kind) _ _
    (λ c. (subst (λ g. HasRead w i (Wait.RecordValue n t) [] (u ∷ (g ++ t ∷ []))) (sym q.1) (record_value [] due k q.2 (maps_to-is t.kind c) (λ o xs g r. r)), refl))
    (λ y. by-test (PartOk w i [] (u ∷ []) x b t) (is_colon t.kind) _ _
    (λ c. (subst (λ g. HasRead w i (Wait.RecordSetValue n t) [] (u ∷ (g ++ t ∷ []))) (sym q.1) (record_set_value [] due k q.2 (colon-is t.kind c) (λ o xs g r. r)), refl))
    (λ v. after-square w i flag u x b t due f k d)))
square-sound w i flag u x b t due f k d Shape.Member e =
    let q : DerivesBound (as_bound x b) b i (Some t) × BindsOne (as_bound x b) = member-bound d e in
    by-test (PartOk w i [] (u ∷ []) x b t) (is_comma t.kind) _ _
    (λ c. (function_bounds due k (bound-first i (as_bound x b) b t q.0 (comma-is t.kind c)), refl))
    (λ z. by-test (PartOk w i [] (u ∷ []) x b t) (is_maps_to t.kind) _ _
    (λ c. (function_body due k (maps_to-is t.kind c) (last_bound q.0), refl))
    (λ y. after-square w i flag u x b t due f k d))
square-sound w i flag u x b t due f k d _ e = after-square w i flag u x b t due f k d

pub operand-moves : (w : Wait) (i : ℕ) (v : Wait) (ps : List Tree) (a : List Lexeme) → HasRead w i v ps a → (x : Tree) (b : List Lexeme) (t : Lexeme) → Derives x b (inside v i) (Some t) → (mode v ≡ Mode.Subscript → IsSubscript x) → PartOk w i ps a x b t (after_expression v (shape x) t)
operand-moves w i v ps a (parentheses_body {t = u} due k) x b t d s =
    only (PartOk w i ps a x b t) (is_right_paren t.kind) _ tt (λ e. (λ o. expression (node (parentheses u t k (right_paren-is t.kind e) d)) tt due (λ m. tt), refl))
operand-moves w i v ps a (argument {n = n} {t = u} {d = c} so na k h) x b t d s =
    by-test (PartOk w i ps a x b t) (is_comma t.kind) _ _
    (λ e. (argument so na k (λ o. adds-mark (λ xs z. DerivesArguments xs z i o) ps c x b t (h o) (λ xs z r. more_arguments t (comma-is t.kind e) (operand_argument d) r)), refl))
    (λ y. only (PartOk w i ps a x b t) (is_right_paren t.kind) _ tt (λ e. (
      λ o. restand (Form.Segment n) _ _ _ _ refl (ap (λ z. n ∷ u ∷ z) (assoc-end c b t))
          (segment so (applied u t na k (right_paren-is t.kind e) (adds-close (λ xs z. DerivesArguments xs z i (Some t)) ps c x b (h (Some t)) (last_argument (operand_argument d))))),
      refl,
    )))
operand-moves w i v ps a (brace_first {t = u} due k) x b t d s =
    by-test (PartOk w i ps a x b t) (is_right_brace t.kind) _ _ (λ e. (λ o. expression (node (set u t k (right_brace-is t.kind e) (last d))) tt due (λ m. tt), refl))
    (λ z. by-test (PartOk w i ps a x b t) (is_comma t.kind) _ _ (λ e. (brace_next due k (λ o. adds-mark (λ xs c. DerivesList xs c i o) [] [] x b t (λ xs c r. r) (λ xs c r. more t (comma-is t.kind e) d r)), refl))
    (λ y. brace-sound w i u x b t due k d (shape x) refl))
operand-moves w i v ps a (brace_next {t = u} {d = c} due k h) x b t d s =
    by-test (PartOk w i ps a x b t) (is_comma t.kind) _ _ (λ e. (brace_next due k (λ o. adds-mark (λ xs z. DerivesList xs z i o) ps c x b t (h o) (λ xs z r. more t (comma-is t.kind e) d r)), refl))
    (λ y. only (PartOk w i ps a x b t) (is_right_brace t.kind) _ tt (λ e. (
      λ o. restand Form.SetEnumeration _ _ _ _ refl (ap (λ z. u ∷ z) (assoc-end c b t))
          (expression (node (set u t k (right_brace-is t.kind e) (adds-close (λ xs z. DerivesList xs z i (Some t)) ps c x b (h (Some t)) (last d)))) tt due (λ m. tt)),
      refl,
    )))
operand-moves w i v ps a (filter_body {t = u} {c = c} {a = q} due k m h g) x b t d s =
    only (PartOk w i ps a x b t) (is_right_brace t.kind) _ tt (λ e. (λ o. restand Form.SetFilter _ _ _ _ refl (ap (λ z. u ∷ z) (assoc-mark q c b t)) (expression (node (set_filter u c t k m (right_brace-is t.kind e) h g d)) tt due (λ m. tt)), refl))
operand-moves w i v ps a (application_argument {t = u} {x = y} {ps = qs} {b = q} c m f k r g h) x b t d s =
    by-test (PartOk w i ps a x b t) (is_comma t.kind) _ _ (λ e. (
      reread (q ++ u ∷ (c ++ (b ++ t ∷ []))) ((q ++ u ∷ c) ++ (b ++ t ∷ [])) (sym (append_assoc q (u ∷ c) (b ++ t ∷ [])))
          (application_argument (c ++ (b ++ t ∷ [])) m f k r g (λ o. adds-mark (λ xs z. DerivesList xs z i o) qs c x b t (h o) (λ xs z l. more t (comma-is t.kind e) d l))),
      refl,
    ))
    (λ z. only (PartOk w i ps a x b t) (is_right_bracket t.kind) _ tt (λ e. (
      λ o. restand Form.Application _ _ _ _ refl (assoc-list q u c b t)
          (expression (node (application u t k (right_bracket-is t.kind e) r g (adds-close (λ xs z. DerivesList xs z i (Some t)) qs c x b (h (Some t)) (last d)))) f (operand-due w m) (not-subscript _ w m)),
      refl,
    )))
operand-moves w i v ps a (square_first {flag = flag} {t = u} due f k) x b t d s = square-sound w i flag u x b t due f k d (shape x) refl
operand-moves w i v ps a (function_to {t = u} {m = m} {a = q} due k h g) x b t d s =
    only (PartOk w i ps a x b t) (is_right_bracket t.kind) _ tt (λ e. (λ o. restand Form.FunctionSet _ _ _ _ refl (ap (λ z. u ∷ z) (assoc-mark q m b t)) (expression (node (function_set u m t k h (right_bracket-is t.kind e) g d)) tt due (λ m. tt)), refl))
operand-moves w i v ps a (function_body {t = u} {m = m} {a = q} due k h g) x b t d s =
    only (PartOk w i ps a x b t) (is_right_bracket t.kind) _ tt (λ e. (λ o. restand Form.FunctionConstructor _ _ _ _ (sym (trees-then ps x)) (ap (λ z. u ∷ z) (assoc-mark q m b t)) (expression (node (function u m t k h (right_bracket-is t.kind e) g d)) tt due (λ m. tt)), refl))
operand-moves w i v ps a (record_value {n = n} {m = m} {t = u} c due k h g f) x b t d s =
    let y : Tree = built (Form.Field n) (one x) (n ∷ m ∷ b) in
    by-test (PartOk w i ps a x b t) (is_comma t.kind) _ _ (λ e. (
      reread (u ∷ (c ++ n ∷ m ∷ (b ++ t ∷ []))) (u ∷ ((c ++ n ∷ m ∷ []) ++ (b ++ t ∷ []))) (ap (λ z. u ∷ z) (assoc-field c n m b t))
          (record_next due k (λ o. adds-mark (λ xs z. DerivesFields Mark.MapsTo xs z i o) ps c y (n ∷ m ∷ b) t (f o) (λ xs z r. more_fields t (comma-is t.kind e) (named h g d) r))),
      refl,
    ))
    (λ z. only (PartOk w i ps a x b t) (is_right_bracket t.kind) _ tt (λ e. (
      λ o. restand Form.Record _ _ _ _ refl (ap (λ z. u ∷ z) (assoc-end c (n ∷ m ∷ b) t ∙ assoc-field c n m b t))
          (expression (node (record_of u t k (right_bracket-is t.kind e) (adds-close (λ xs z. DerivesFields Mark.MapsTo xs z i (Some t)) ps c y (n ∷ m ∷ b) (f (Some t)) (last_field (named h g d))))) tt due (λ m. tt)),
      refl,
    )))
operand-moves w i v ps a (record_set_value {n = n} {m = m} {t = u} c due k h g f) x b t d s =
    let y : Tree = built (Form.Field n) (one x) (n ∷ m ∷ b) in
    by-test (PartOk w i ps a x b t) (is_comma t.kind) _ _ (λ e. (
      reread (u ∷ (c ++ n ∷ m ∷ (b ++ t ∷ []))) (u ∷ ((c ++ n ∷ m ∷ []) ++ (b ++ t ∷ []))) (ap (λ z. u ∷ z) (assoc-field c n m b t))
          (record_set_next due k (λ o. adds-mark (λ xs z. DerivesFields Mark.Colon xs z i o) ps c y (n ∷ m ∷ b) t (f o) (λ xs z r. more_fields t (comma-is t.kind e) (named h g d) r))),
      refl,
    ))
    (λ z. only (PartOk w i ps a x b t) (is_right_bracket t.kind) _ tt (λ e. (
      λ o. restand Form.RecordSet _ _ _ _ refl (ap (λ z. u ∷ z) (assoc-end c (n ∷ m ∷ b) t ∙ assoc-field c n m b t))
          (expression (node (record_set u t k (right_bracket-is t.kind e) (adds-close (λ xs z. DerivesFields Mark.Colon xs z i (Some t)) ps c y (n ∷ m ∷ b) (f (Some t)) (last_field (named h g d))))) tt due (λ m. tt)),
      refl,
    )))
operand-moves w i v ps a (index_part {t = u} {d = c} so k h) x b t d s =
    by-test (PartOk w i ps a x b t) (is_comma t.kind) _ _ (λ e. (index_part so k (λ o. adds-mark (λ xs z. DerivesList xs z i o) ps c x b t (h o) (λ xs z r. more t (comma-is t.kind e) d r)), refl))
    (λ y. only (PartOk w i ps a x b t) (is_right_bracket t.kind) _ tt (λ e. (
      λ o. restand Form.IndexStep _ _ _ _ refl (ap (λ z. u ∷ z) (assoc-end c b t))
          (step so (index_step u t k (right_bracket-is t.kind e) (adds-close (λ xs z. DerivesList xs z i (Some t)) ps c x b (h (Some t)) (last d)))),
      refl,
    )))
operand-moves w i v ps a (angle_first {flag = flag} {t = u} due f k) x b t d s =
    by-test (PartOk w i ps a x b t) (is_comma t.kind) _ _ (λ e. (angle_next due k (λ o. adds-mark (λ xs c. DerivesList xs c i o) [] [] x b t (λ xs c r. r) (λ xs c r. more t (comma-is t.kind e) d r)), refl))
    (λ z. by-test (PartOk w i ps a x b t) (is_right_angle t.kind) _ _ (λ e. (λ o. expression (node (tuple u t k (right_angle-is t.kind e) (last d))) tt due (λ m. tt), refl))
    (λ y. by-test (PartOk w i ps a x b t) (is_right_angle_subscript t.kind) _ _ (λ e. only (PartOk w i ps a x b t) flag _ tt (λ g. (angle_subscript (f g) k (right_angle_subscript-is t.kind e) d, refl))) (λ r. tt)))
operand-moves w i v ps a (angle_next {t = u} {d = c} due k h) x b t d s =
    by-test (PartOk w i ps a x b t) (is_comma t.kind) _ _ (λ e. (angle_next due k (λ o. adds-mark (λ xs z. DerivesList xs z i o) ps c x b t (h o) (λ xs z r. more t (comma-is t.kind e) d r)), refl))
    (λ y. only (PartOk w i ps a x b t) (is_right_angle t.kind) _ tt (λ e. (
      λ o. restand Form.Tuple _ _ _ _ refl (ap (λ z. u ∷ z) (assoc-end c b t))
          (expression (node (tuple u t k (right_angle-is t.kind e) (adds-close (λ xs z. DerivesList xs z i (Some t)) ps c x b (h (Some t)) (last d)))) tt due (λ m. tt)),
      refl,
    )))
operand-moves w i v ps a (fair_subscript m f) x b t d s =
    only (PartOk w i ps a x b t) (is_left_paren t.kind) _ tt (λ e. (fair_action m f (left_paren-is t.kind e) d (s refl), refl))
operand-moves w i v ps a (fair_action {h = h} {t = u} {a = q} m f k g r) x b t d s =
    only (PartOk w i ps a x b t) (is_right_paren t.kind) _ tt (λ e. (λ o. restand (Form.Fairness h) _ _ _ _ refl (ap (λ z. h ∷ z) (assoc-mark q u b t)) (expression (node (fairness u t f k (right_paren-is t.kind e) g r d)) tt (operand-due w m) (λ z. not-subscript _ w m z)), refl))
operand-moves w i v ps a (if_test m k) x b t d s =
    only (PartOk w i ps a x b t) (is_then t.kind) _ tt (λ e. (if_then m k (then-is t.kind e) d, refl))
operand-moves w i v ps a (if_then {t = u} {u = q} {a = c} m k h g) x b t d s =
    only (PartOk w i ps a x b t) (is_else t.kind) _ tt (λ e. (reread (u ∷ (c ++ q ∷ (b ++ t ∷ []))) (u ∷ ((c ++ q ∷ []) ++ (b ++ t ∷ []))) (ap (λ z. u ∷ z) (assoc-mark c q b t)) (if_else m k h (else-is t.kind e) g d), refl))
operand-moves w i v ps a (arm_guard so) x b t d s =
    only (PartOk w i ps a x b t) (is_arrow t.kind) _ tt (λ e. (arm_body so (arrow-is t.kind e) d, refl))
operand-moves w i v ps a _ x b t d s = tt

pub names-shape : (β : Binding) (x : Tree) (b : List Lexeme) → NamesFor β x b → shape x ≡ Shape.Names
names-shape Binding.One x b (binder_name k) = refl
names-shape Binding.One x b (binder_tuple d) = refl
names-shape Binding.Bound x b n = absurd n
names-shape Binding.Names x b (of_list d) = refl
names-shape Binding.Either x b (of_list d) = refl

pub bound-of : (β : Binding) (x : Tree) (b : List Lexeme) (i : ℕ) (o : Option Lexeme) → BoundFor β x b i o → DerivesBound x b i o
bound-of Binding.One x b i o h = h.0
bound-of Binding.Bound x b i o h = h
bound-of Binding.Names x b i o h = absurd h
bound-of Binding.Either x b i o h = h

pub segment-shape : {x : Tree} {b : List Lexeme} {i : ℕ} → DerivesSegment x b i → shape x ≡ Shape.Helper
segment-shape (bare k) = refl
segment-shape (applied t u k l m d) = refl

pub definition-shape : {x : Tree} {b : List Lexeme} {i : ℕ} {o : Option Lexeme} → DerivesDefinition x b i o → shape x ≡ Shape.Helper
definition-shape (operator d h k e) = refl
definition-shape (prefix_operator k n d e) = refl
definition-shape (infix_operator m k d n q e) = refl
definition-shape (postfix_operator m k d q e) = refl
definition-shape (function_of u d k l m n b e) = refl
definition-shape (module_of d h k e) = refl

pub step-shape : {x : Tree} {b : List Lexeme} {i : ℕ} → DerivesStep x b i → shape x ≡ Shape.Helper
step-shape (field_step k n) = refl
step-shape (index_step t u k l d) = refl

-- moves that no frame makes
no-instance : (v : Wait) (t : Lexeme) → after_part v Shape.Instance t ≡ PartMove.Refused
no-instance (Wait.Handing Handed.Segment n) t = refl
no-instance (Wait.Handing Handed.Definition n) t = refl
no-instance _ t = refl

no-other-arm : (v : Wait) (t : Lexeme) → after_part v Shape.OtherArm t ≡ PartMove.Refused
no-other-arm (Wait.Handing Handed.Segment n) t = refl
no-other-arm (Wait.Handing Handed.Definition n) t = refl
no-other-arm _ t = refl

no-step : (v : Wait) (t : Lexeme) → sort v ≡ Sort.Step → after_part v Shape.Helper t ≡ PartMove.Refused
no-step Wait.StepFirst t e = refl
no-step Wait.StepNext t e = refl
no-step (Wait.Handing Handed.Segment n) t e = cc
no-step (Wait.Handing Handed.Definition n) t e = cc
no-step _ t e = cc

symbol-moves : (w : Wait) (i : ℕ) (v : Wait) (ps : List Tree) (a : List Lexeme) → HasRead w i v ps a → (op : Op) (s t : Lexeme) → IsSymbol s op → IsTrue (is_passed op) → PartOk w i ps a (symbol-leaf s) (s ∷ []) t (after_part v Shape.Symbol t)
symbol-moves w i v ps a (argument {n = n} {t = u} {d = c} so na k h) op s t m p =
    by-test (PartOk w i ps a (symbol-leaf s) (s ∷ []) t) (is_comma t.kind) _ _
    (λ e. (argument so na k (λ o. adds-mark (λ xs z. DerivesArguments xs z i o) ps c (symbol-leaf s) (s ∷ []) t (h o) (λ xs z r. more_arguments t (comma-is t.kind e) (passed m p) r)), refl))
    (λ y. only (PartOk w i ps a (symbol-leaf s) (s ∷ []) t) (is_right_paren t.kind) _ tt (λ e. (
      λ o. restand (Form.Segment n) _ _ _ _ refl (ap (λ z. n ∷ u ∷ z) (assoc-end c (s ∷ []) t))
          (segment so (applied u t na k (right_paren-is t.kind e) (adds-close (λ xs z. DerivesArguments xs z i (Some t)) ps c (symbol-leaf s) (s ∷ []) (h (Some t)) (last_argument (passed m p))))),
      refl,
    )))
symbol-moves w i v ps a (handing_segment m n l d) op s t k p = tt
symbol-moves w i v ps a (handing_definition m k n l d) op s t k' p = tt
symbol-moves w i v ps a _ op s t m p = tt

arm-moves : (w : Wait) (i : ℕ) (v : Wait) (ps : List Tree) (a : List Lexeme) → HasRead w i v ps a → (x : Tree) (b : List Lexeme) (t : Lexeme) → DerivesArm x b (inside v i) (Some t) → PartOk w i ps a x b t (after_part v Shape.Arm t)
arm-moves w i v ps a (case_arms {d = c} m k h) x b t d =
    only (PartOk w i ps a x b t) (is_always t.kind) _ tt (λ e. (case_arms m k (λ o. adds-mark (λ xs z. DerivesArms xs z i o) ps c x b t (h o) (λ xs z r. more_arms t (always-is t.kind e) d r)), refl))
arm-moves w i v ps a _ x b t d = tt

names-moves : (w : Wait) (i : ℕ) (v : Wait) (ps : List Tree) (a : List Lexeme) → HasRead w i v ps a → (β : Binding) (x : Tree) (b : List Lexeme) (t : Lexeme) → binding v ≡ Some β → NamesFor β x b → PartOk w i ps a x b t (after_part v Shape.Names t)
names-moves w i v ps a (quantifier_first m q) β x b t e n =
    let f : β ≡ Binding.Either = cc in
    only (PartOk w i ps a x b t) (is_colon t.kind) _ tt (λ c. (quantifier_body t m q (subst (λ z. NamesFor z x b) f n) (colon-is t.kind c), refl))
names-moves w i v ps a (temporal_first m q) β x b t e n =
    let f : β ≡ Binding.Names = cc in
    only (PartOk w i ps a x b t) (is_colon t.kind) _ tt (λ c. (temporal_body t m q (subst (λ z. NamesFor z x b) f n) (colon-is t.kind c), refl))
names-moves w i v ps a (choose_first m k) β x b t e n =
    let f : β ≡ Binding.One = cc in
    only (PartOk w i ps a x b t) (is_colon t.kind) _ tt (λ c. (choose_body t m k (subst (λ z. NamesFor z x b) f n) (colon-is t.kind c), refl))
names-moves w i v ps a _ β x b t e n = tt

pub bounds-mark : (i : ℕ) (ps : List Tree) (c : List Lexeme) (x : Tree) (b : List Lexeme) (t : Lexeme) → Bounds i ps c → IsMark t Mark.Comma → DerivesBound x b i (Some t) → Bounds i (ps ++ x ∷ []) (c ++ (b ++ t ∷ []))
bounds-mark i ps c x b t h k d = λ o. adds-mark (λ xs z. DerivesBounds xs z i o) ps c x b t (h o) (λ xs z r. more_bounds t k d r)

pub bounds-close : (i : ℕ) (ps : List Tree) (c : List Lexeme) (x : Tree) (b : List Lexeme) (o : Option Lexeme) → Bounds i ps c → DerivesBound x b i o → DerivesBounds (trees (ps ++ x ∷ [])) (c ++ b) i o
bounds-close i ps c x b o h d = adds-close (λ xs z. DerivesBounds xs z i o) ps c x b (h o) (last_bound d)

bound-moves : (w : Wait) (i : ℕ) (v : Wait) (ps : List Tree) (a : List Lexeme) → HasRead w i v ps a → (β : Binding) (x : Tree) (b : List Lexeme) (t : Lexeme) → binding v ≡ Some β → BoundFor β x b (inside v i) (Some t) → PartOk w i ps a x b t (after_part v Shape.Bound t)
bound-moves w i v ps a (quantifier_first m q) β x b t e n =
    let d : DerivesBound x b i (Some t) = bound-of β x b i (Some t) n in
    by-test (PartOk w i ps a x b t) (is_comma t.kind) _ _ (λ c. (quantifier_next m q (bounds-mark i [] [] x b t (λ o xs z r. r) (comma-is t.kind c) d), refl))
    (λ y. only (PartOk w i ps a x b t) (is_colon t.kind) _ tt (λ c. (bounded_body m q (last_bound d) (colon-is t.kind c), refl)))
bound-moves w i v ps a (quantifier_next {q = u} {d = c} m q h) β x b t e n =
    let d : DerivesBound x b i (Some t) = bound-of β x b i (Some t) n in
    by-test (PartOk w i ps a x b t) (is_comma t.kind) _ _ (λ k. (quantifier_next m q (bounds-mark i ps c x b t h (comma-is t.kind k) d), refl))
    (λ y. only (PartOk w i ps a x b t) (is_colon t.kind) _ tt (λ k. (reread (u ∷ ((c ++ b) ++ t ∷ [])) (u ∷ (c ++ (b ++ t ∷ []))) (ap (λ z. u ∷ z) (assoc-end c b t)) (bounded_body m q (bounds-close i ps c x b (Some t) h d) (colon-is t.kind k)), refl)))
bound-moves w i v ps a (choose_first m k) β x b t e n =
    let f : β ≡ Binding.One = cc in
    let g : DerivesBound x b i (Some t) × BindsOne x = subst (λ z. BoundFor z x b i (Some t)) f n in
    only (PartOk w i ps a x b t) (is_colon t.kind) _ tt (λ c. (bounded_choose_body m k g.0 g.1 (colon-is t.kind c), refl))
bound-moves w i v ps a (image_bounds {t = u} {c = q} {x = y} {ps = qs} {a = r} c due k m g nb h) β x b t e n =
    let d : DerivesBound x b i (Some t) = bound-of β x b i (Some t) n in
    by-test (PartOk w i ps a x b t) (is_comma t.kind) _ _
    (λ j. (
      reread (u ∷ (r ++ q ∷ (c ++ (b ++ t ∷ [])))) (u ∷ ((r ++ q ∷ c) ++ (b ++ t ∷ []))) (ap (λ z. u ∷ z) (sym (append_assoc r (q ∷ c) (b ++ t ∷ []))))
          (image_bounds (c ++ (b ++ t ∷ [])) due k m g nb (bounds-mark i qs c x b t h (comma-is t.kind j) d)),
      refl,
    ))
    (λ z. only (PartOk w i ps a x b t) (is_right_brace t.kind) _ tt (λ j. (
      λ o. restand Form.SetImage _ _ _ _ refl (ap (λ z. u ∷ z) (assoc-list r q c b t))
          (expression (node (set_image u q t k m (right_brace-is t.kind j) g nb (bounds-close i qs c x b (Some t) h d))) tt due (λ m'. tt)),
      refl,
    )))
bound-moves w i v ps a (function_names due f k) β x b t e n =
    let d : DerivesBound x b i (Some t) = bound-of β x b i (Some t) n in
    by-test (PartOk w i ps a x b t) (is_comma t.kind) _ _ (λ c. (function_bounds due k (bound-first i x b t d (comma-is t.kind c)), refl))
    (λ y. only (PartOk w i ps a x b t) (is_maps_to t.kind) _ tt (λ c. (function_body due k (maps_to-is t.kind c) (last_bound d), refl)))
bound-moves w i v ps a (function_bounds {t = u} {d = c} due k h) β x b t e n =
    let d : DerivesBound x b i (Some t) = bound-of β x b i (Some t) n in
    by-test (PartOk w i ps a x b t) (is_comma t.kind) _ _ (λ j. (function_bounds due k (bounds-mark i ps c x b t h (comma-is t.kind j) d), refl))
    (λ y. only (PartOk w i ps a x b t) (is_maps_to t.kind) _ tt (λ j. (reread (u ∷ ((c ++ b) ++ t ∷ [])) (u ∷ (c ++ (b ++ t ∷ []))) (ap (λ z. u ∷ z) (assoc-end c b t)) (function_body due k (maps_to-is t.kind j) (bounds-close i ps c x b (Some t) h d)), refl)))
bound-moves w i v ps a (function_head_bounds {n = n} {t = u} {d = c} q na k h) β x b t e m =
    let d : DerivesBound x b i (Some t) = bound-of β x b i (Some t) m in
    by-test (PartOk w i ps a x b t) (is_comma t.kind) _ _ (λ j. (function_head_bounds q na k (bounds-mark i ps c x b t h (comma-is t.kind j) d), refl))
    (λ y. only (PartOk w i ps a x b t) (is_right_bracket t.kind) _ tt (λ j. (reread (n ∷ u ∷ ((c ++ b) ++ t ∷ [])) (n ∷ u ∷ (c ++ (b ++ t ∷ []))) (ap (λ z. n ∷ u ∷ z) (assoc-end c b t)) (function_head_define q na k (right_bracket-is t.kind j) (bounds-close i ps c x b (Some t) h d)), refl)))
bound-moves w i v ps a _ β x b t e n = tt

segment-moves : (w : Wait) (i : ℕ) (v : Wait) (ps : List Tree) (a : List Lexeme) → HasRead w i v ps a → (x : Tree) (b : List Lexeme) (t : Lexeme) → sort v ≡ Sort.Segment → DerivesSegment x b (inside v i) → PartOk w i ps a x b t (after_part v Shape.Helper t)
segment-moves w i v ps a (handing_segment m n l h) x b t e d =
    only (PartOk w i ps a x b t) (is_bang t.kind) _ tt (λ k. (identifier_bang m (adds-mark (λ xs z. DerivesSegments xs z i) ps a x b t h (λ xs z r. more_segments t (bang-is t.kind k) d r)), refl))
segment-moves w i v ps a _ x b t e d = cc

definition-moves : (w : Wait) (i : ℕ) (v : Wait) (ps : List Tree) (a : List Lexeme) → HasRead w i v ps a → (n : Lexeme) (x : Tree) (b : List Lexeme) (t : Lexeme) → i ≤ t.col → v ≡ Wait.Handing Handed.Definition n → DerivesDefinition x (n ∷ b) (inside v i) (Some t) → PartOk w i ps a x (n ∷ b) t (after_part v Shape.Helper t)
definition-moves w i v ps a (handing_definition {h = u} {n = n} {d = c} m k s l h) n' x b t j e d' =
    let f : n' ≡ n = cc in
    let d : DerivesDefinition x (n ∷ b) i (Some t) = subst (λ z. DerivesDefinition x (z ∷ b) i (Some t)) f d' in
    let next : HasRead w i (Wait.Handing Handed.Definition t) (ps ++ x ∷ []) (u ∷ (c ++ n ∷ b)) → HasRead w i (Wait.Handing Handed.Definition t) (ps ++ x ∷ []) (u ∷ (c ++ n' ∷ b)) = subst (λ z. HasRead w i (Wait.Handing Handed.Definition t) (ps ++ x ∷ []) (u ∷ (c ++ z ∷ b))) (sym f) in
    let more-read : (o : Option Lexeme) (xs : Trees) (z : List Lexeme) → DerivesDefinitions xs (t ∷ z) i o → DerivesDefinitions (joined (trees (ps ++ x ∷ [])) xs) ((c ++ n ∷ b) ++ t ∷ z) i o = λ o xs z r.
    subst (λ y. DerivesDefinitions y ((c ++ n ∷ b) ++ t ∷ z) i o) (sym (joined-snoc ps x xs)) (subst (λ y. DerivesDefinitions (joined (trees ps) (Cons x xs)) y i o) (sym (append_assoc c (n ∷ b) (t ∷ z))) (h o (Cons x xs) (b ++ t ∷ z) (more_definitions t d r)))
    in
    by-test (PartOk w i ps a x (n' ∷ b) t) (is_name t.kind) _ _ (λ y. next (handing_definition m k (inl (name-is t.kind y)) j more-read))
    (λ q. by-test (PartOk w i ps a x (n' ∷ b) t) (is_negative t.kind) _ _ (λ y. next (handing_definition m k (inr (negative-is t.kind y)) j more-read))
    (λ r. only (PartOk w i ps a x (n' ∷ b) t) (is_in_word t.kind) _ tt (λ y. (
      subst (λ z. HasRead w i Wait.LetBody (ps ++ x ∷ []) (u ∷ (c ++ z ∷ (b ++ t ∷ [])))) (sym f) (reread (u ∷ ((c ++ n ∷ b) ++ t ∷ [])) (u ∷ (c ++ ((n ∷ b) ++ t ∷ []))) (ap (λ z. u ∷ z) (assoc-end c (n ∷ b) t))
          (let_body m k (in_word-is t.kind y) (subst (λ z. DerivesDefinitions z (c ++ n ∷ b) i (Some t)) (sym (trees-snoc ps x)) (h (Some t) (one x) b (last_definition d))))),
      refl,
    ))))
definition-moves w i v ps a _ n x b t j e d = cc

parameter-moves : (w : Wait) (i : ℕ) (v : Wait) (ps : List Tree) (a : List Lexeme) → HasRead w i v ps a → (x : Tree) (b : List Lexeme) (t : Lexeme) → sort v ≡ Sort.Parameter → DerivesParameter x b → PartOk w i ps a x b t (after_part v Shape.Helper t)
parameter-moves w i v ps a (definition_parameters {n = n} {t = u} {d = c} q na k h) x b t e d =
    by-test (PartOk w i ps a x b t) (is_comma t.kind) _ _ (λ j. (definition_parameters q na k (adds-mark DerivesParameters ps c x b t h (λ xs z r. more_parameters t (comma-is t.kind j) d r)), refl))
    (λ y. only (PartOk w i ps a x b t) (is_right_paren t.kind) _ tt (λ j. (
      reread (n ∷ u ∷ ((c ++ b) ++ t ∷ [])) (n ∷ u ∷ (c ++ (b ++ t ∷ []))) (ap (λ z. n ∷ u ∷ z) (assoc-end c b t))
          (definition_define q (with_parameters t na k (right_paren-is t.kind j) (adds-close DerivesParameters ps c x b h (last_parameter d)))),
      refl,
    )))
parameter-moves w i v ps a _ x b t e d = cc

replacement-moves : (w : Wait) (i : ℕ) (v : Wait) (ps : List Tree) (a : List Lexeme) → HasRead w i v ps a → (x : Tree) (b : List Lexeme) (t : Lexeme) → sort v ≡ Sort.Replacement → DerivesReplacement x b (inside v i) (Some t) → PartOk w i ps a x b t (after_part v Shape.Helper t)
replacement-moves w i v ps a (replacements {d = c} so k m q h) x b t e d =
    only (PartOk w i ps a x b t) (is_comma t.kind) _ tt (λ j. (replacements so k m q (λ o. adds-mark (λ xs z. DerivesReplacements xs z i o) ps c x b t (h o) (λ xs z r. more_replacements t (comma-is t.kind j) d r)), refl))
replacement-moves w i v ps a _ x b t e d = cc

update-moves : (w : Wait) (i : ℕ) (v : Wait) (ps : List Tree) (a : List Lexeme) → HasRead w i v ps a → (x : Tree) (b : List Lexeme) (t : Lexeme) → sort v ≡ Sort.Update → DerivesUpdate x b (inside v i) (Some t) → PartOk w i ps a x b t (after_part v Shape.Helper t)
update-moves w i v ps a (except_updates {t = u} {h = q} {x = y} {ps = qs} {a = r} c due k m g h) x b t e d =
    by-test (PartOk w i ps a x b t) (is_comma t.kind) _ _
    (λ j. (
      reread (u ∷ (r ++ q ∷ (c ++ (b ++ t ∷ [])))) (u ∷ ((r ++ q ∷ c) ++ (b ++ t ∷ []))) (ap (λ z. u ∷ z) (sym (append_assoc r (q ∷ c) (b ++ t ∷ []))))
          (except_updates (c ++ (b ++ t ∷ [])) due k m g (λ o. adds-mark (λ xs z. DerivesUpdates xs z i o) qs c x b t (h o) (λ xs z l. more_updates t (comma-is t.kind j) d l))),
      refl,
    ))
    (λ z. only (PartOk w i ps a x b t) (is_right_bracket t.kind) _ tt (λ j. (
      λ o. restand Form.Except _ _ _ _ refl (ap (λ z. u ∷ z) (assoc-list r q c b t))
          (expression (node (except u q t k m (right_bracket-is t.kind j) g (adds-close (λ xs z. DerivesUpdates xs z i (Some t)) qs c x b (h (Some t)) (last_update d)))) tt due (λ m'. tt)),
      refl,
    )))
update-moves w i v ps a _ x b t e d = cc

-- any part but an expression
pub other-moves : (w : Wait) (i : ℕ) (v : Wait) (ps : List Tree) (a : List Lexeme) → HasRead w i v ps a → (x : Tree) (b : List Lexeme) (t : Lexeme) → i ≤ t.col → is_expression (shape x) ≡ false → {j : ℕ} → j ≡ inside v i → Stands v x b j (Some t) → PartOk w i ps a x b t (after_part v (shape x) t)
other-moves w i v ps a h x b t l n e (expression d f p s) = let q : is_expression (shape x) ≡ true = derives-shape d in cc
other-moves w i v ps a h x b t l n e (symbol {op = op} {t = s} m k p) = symbol-moves w i v ps a h op s t k p
other-moves w i v ps a h x b t l n e (instance so d) =
    subst (λ z. PartOk w i ps a x b t z) (sym (ap (λ z. after_part v z t) (instance-shape d) ∙ no-instance v t)) tt
other-moves w i v ps a h x b t l n e (names β k d) =
    subst (λ z. PartOk w i ps a x b t (after_part v z t)) (sym (names-shape β x b d)) (names-moves w i v ps a h β x b t k d)
other-moves w i v ps a h x b t l n e (bound β k d) =
    subst (λ z. PartOk w i ps a x b t (after_part v z t)) (sym (bound-shape (bound-of β x b _ (Some t) d)))
    (bound-moves w i v ps a h β x b t k (subst (λ z. BoundFor β x b z (Some t)) e d))
other-moves w i v ps a h x b t l n e (arm so d) =
    subst (λ z. PartOk w i ps a x b t (after_part v z t)) (sym (arm-shape d)) (arm-moves w i v ps a h x b t (subst (λ z. DerivesArm x b z (Some t)) e d))
other-moves w i v ps a h x b t l n e (other_arm so k m d) = subst (λ z. PartOk w i ps a x b t z) (sym (no-other-arm v t)) tt
other-moves w i v ps a h x b t l n e (segment k d) =
    subst (λ z. PartOk w i ps a x b t (after_part v z t)) (sym (segment-shape d)) (segment-moves w i v ps a h x b t k (subst (λ z. DerivesSegment x b z) e d))
other-moves w i v ps a h x b t l n e (definition {n = m} {b = c} k d) =
    subst (λ z. PartOk w i ps a x (m ∷ c) t (after_part v z t)) (sym (definition-shape d)) (definition-moves w i v ps a h m x c t l k (subst (λ z. DerivesDefinition x (m ∷ c) z (Some t)) e d))
other-moves w i v ps a h x b t l n e (parameter k d) =
    subst (λ z. PartOk w i ps a x b t (after_part v z t)) (sym (parameter-shape d)) (parameter-moves w i v ps a h x b t k d)
other-moves w i v ps a h x b t l n e (replacement k d) =
    subst (λ z. PartOk w i ps a x b t (after_part v z t)) (sym (replacement-shape d)) (replacement-moves w i v ps a h x b t k (subst (λ z. DerivesReplacement x b z (Some t)) e d))
other-moves w i v ps a h x b t l n e (update k d) =
    subst (λ z. PartOk w i ps a x b t (after_part v z t)) (sym (update-shape d)) (update-moves w i v ps a h x b t k (subst (λ z. DerivesUpdate x b z (Some t)) e d))
other-moves w i v ps a h x b t l n e (step k d) =
    subst (λ z. PartOk w i ps a x b t z) (sym (ap (λ z. after_part v z t) (step-shape d) ∙ no-step v t k)) tt
