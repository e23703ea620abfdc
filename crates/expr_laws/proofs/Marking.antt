-- A lexeme that moves a frame, or that begins a part, keeps to the grammar.
use Rattle.std.proofs.Common.{◌≡◌, ℕ, ◌+◌, ◌≤◌, inl, inr, Bool, true, false, List, [], ◌∷◌, ◌++◌, Option, Some, None, refl, ap, sym, subst, append_assoc, arith}
use Rattle.std.specs.Prelude.{cond, IsTrue, is_some}
use Rattle.tla_symbols.specs.declared.op.Op.{Op}
use Rattle.tla_symbols.specs.declared.place.Fix.{Fix}
use Rattle.tla_symbols.specs.declared.lexeme.LexKind.{LexKind}
use Rattle.tla_symbols.specs.declared.lexeme.Word.{Word}
use Rattle.tla_symbols.specs.declared.lexeme.Mark.{Mark}
use Rattle.tla_symbols.specs.declared.lexeme.Lexeme.{Lexeme}
use Rattle.tla_symbols.specs.Symbols.{range_of}
use Rattle.tla_tree.specs.declared.form.Form.{Form}
use Rattle.tla_tree.specs.Syntax.{Tree, Nil, trees}
use Rattle.tla_tree.specs.Edges.{right_edge}
use Rattle.tla_tree.specs.Shapes.{AreBareSegments}
use Rattle.tla_tree.specs.Lexemes.{Applies, Defines, is_passed, is_given, built, one}
use Rattle.tla_tree.specs.Headings.{tuple_names, DerivesPlaces, last_place, plain, of_places, prefix_symbol, infix_symbol, postfix_symbol, constant}
use Rattle.tla_tree.specs.Derivation.{node, number, text, at, empty_set, empty_tuple, field, DerivesSegments, last_segment, more_segments, bare, applied, DerivesArguments, last_argument, more_arguments, passed, DerivesSteps, last_step, more_steps, field_step, without, replaced_by_symbol, identifier}
use Rattle.expr_grammar.specs.declared.wait.Wait.{Wait}
use Rattle.expr_grammar.specs.declared.wait.Mode.{Mode}
use Rattle.expr_grammar.specs.declared.wait.Start.{Start}
use Rattle.expr_grammar.specs.declared.wait.MarkMove.{MarkMove}
use Rattle.expr_grammar.specs.Kinds.{is_name, is_define, is_left_arrow, is_maps_to, is_comma, is_colon, is_bang, is_arrow, is_left_paren, is_right_paren, is_left_bracket, is_right_brace, is_left_angle, is_right_angle, is_underscore, is_dot, is_other, is_instance, is_with, is_member, is_equal, is_negative}
use Rattle.expr_grammar.specs.Tables.{mode, is_bullet, start_kind, subscript_kind, begins, defines, passes, is_given_kind, is_replaceable, takes_more, takes_set, takes_none, takes_lone_tuple, if_move, at_mark, ends_symbol, when, endable}
use Rattle.expr_grammar.specs.Machine.{inside}
use Rattle.expr_laws.proofs.KindTests.{name-is, define-is, left_arrow-is, maps_to-is, comma-is, colon-is, bang-is, arrow-is, left_paren-is, right_paren-is, left_bracket-is, right_brace-is, left_angle-is, right_angle-is, underscore-is, dot-is, other-is, instance-is, with-is, member-is, equal-is, negative-is, by-test}
use Rattle.expr_laws.proofs.Tabled.{promised}
use Rattle.expr_laws.proofs.Asking.{absurd-bool}
use Rattle.expr_laws.proofs.Naming.{true-bullet}
use Rattle.expr_laws.proofs.Views.{IsDue, Stands, expression, symbol, instance, names, segment, parameter, replacement, Shut, HasRead, prefix_operand, parentheses_body, list_first, handing_segment, identifier_bang, segment_name, argument, argument_symbol, subscript_read, subscript_bang, binding_start, binding_comma, binding_read, tuple_comma, tuple_read, tuple_closed, bound_set, tuple_bound_set, quantifier_first, temporal_first, choose_first, brace_first, field_name, square_first, record_value, record_next, record_named, record_set_value, record_set_next, record_set_named, update_bang, step_first, step_next, step_field, update_value, index_part, angle_first, fair_subscript, if_test, case_arms, arm_guard, other_arrow, other_body, let_first, handing_definition, definition_name, definition_parameters, definition_define, definition_body, prefix_name, prefix_define, prefix_body, infix_name, infix_define, infix_body, postfix_define, postfix_body, function_head_bounds, function_head_define, function_head_body, instance_module, instance_named, replacements, replacement_start, replacement_arrow, replacement_right, replacement_end, parameter_start, parameter_name, places, places_read, prefix_place, symbol_place, infix_place}
use Rattle.expr_laws.proofs.Viewing.{adds-close, adds-part, adds-mark, reread, names-more, names-close, names-for, tuple-for, alone-name, defines-is, passes-is, given-is, replaceable-is, places-more}
use Rattle.expr_laws.proofs.Starting.{segment-leaf, symbol-leaf}

-- what a move of a frame makes
abbrev pub MarkOk : Wait → ℕ → Wait → List Tree → List Lexeme → Lexeme → MarkMove → Type 0
MarkOk w i v ps a t (MarkMove.Shift u) = HasRead w i u ps (a ++ t ∷ []) × (promised u ≡ [])
MarkOk w i v ps a t (MarkMove.Leaf form u) = HasRead w i u (ps ++ built form Nil (t ∷ []) ∷ []) (a ++ t ∷ []) × (promised u ≡ [])
MarkOk w i v ps a t (MarkMove.LeafOf form n u) = HasRead w i u (ps ++ built form Nil (n ∷ []) ∷ []) (a ++ t ∷ []) × (promised u ≡ [])
MarkOk w i v ps a t (MarkMove.Push u) = HasRead v (inside v i) u [] (t ∷ []) × (promised u ≡ [])
MarkOk w i v ps a t (MarkMove.Hand h) = HasRead w i (Wait.Handing h t) ps a
MarkOk w i v ps a t (MarkMove.Close form) = Shut w (built form (trees ps) (a ++ t ∷ [])) (a ++ t ∷ []) i
MarkOk w i v ps a t MarkMove.Refused = Unit {0}

only : (P : MarkMove → Type 0) (b : Bool) (m : MarkMove) → P MarkMove.Refused → (b ≡ true → P m) → P (if_move b m)
only P true m r f = f refl
only P false m r f = r

places-none : (more : ℕ) (c : List Lexeme) → DerivesPlaces more c → DerivesPlaces (0 + more) c
places-none more c d = let e : more ≡ 0 + more = omega arith in subst (λ z. DerivesPlaces z c) e d

pub operand-due : (w : Wait) → mode w ≡ Mode.Operand → IsDue w
operand-due w h = λ k. cc

pub not-subscript : (P : Type 0) (w : Wait) → mode w ≡ Mode.Operand → mode w ≡ Mode.Subscript → P
not-subscript P w h k = cc

pub mark-sound : (w : Wait) (i : ℕ) (v : Wait) (ps : List Tree) (a : List Lexeme) → HasRead w i v ps a → (t : Lexeme) → inside v i ≤ t.col → MarkOk w i v ps a t (at_mark v t)
mark-sound w i v ps a (brace_first due k) t l =
    only (MarkOk w i v ps a t) (is_right_brace t.kind) _ tt (λ e. (λ o. expression (node (empty_set k (right_brace-is t.kind e))) tt due (λ m. tt), refl))
mark-sound w i v ps a (angle_first due f k) t l =
    only (MarkOk w i v ps a t) (is_right_angle t.kind) _ tt (λ e. (λ o. expression (node (empty_tuple k (right_angle-is t.kind e))) tt due (λ m. tt), refl))
mark-sound w i v ps a (argument {d = d} s n k h) t l =
    only (MarkOk w i v ps a t) (passes t.kind) _ tt (λ e. let q : (op : Op) × (t.kind ≡ LexKind.Sym op) × IsTrue (is_passed op) = passes-is t.kind e in (argument_symbol t ps d s n k h q.1 q.2, refl))
mark-sound w i v ps a (argument_symbol {n = n} {t = u} s qs d so na k h m pa) t l =
    by-test (MarkOk w i v ps a t) (is_comma t.kind) _ _
    (λ e. (
      reread (n ∷ u ∷ (d ++ s ∷ t ∷ [])) (n ∷ u ∷ ((d ++ s ∷ []) ++ t ∷ [])) (ap (λ z. n ∷ u ∷ z) (sym (append_assoc d (s ∷ []) (t ∷ []))))
          (argument so na k (λ o. adds-mark (λ xs c. DerivesArguments xs c i o) qs d (symbol-leaf s) (s ∷ []) t (h o) (λ xs c r. more_arguments t (comma-is t.kind e) (passed m pa) r))),
      refl,
    ))
    (λ z. only (MarkOk w i v ps a t) (is_right_paren t.kind) _ tt (λ e. (λ o. segment so (applied u t na k (right_paren-is t.kind e) (adds-close (λ xs c. DerivesArguments xs c i (Some t)) qs d (symbol-leaf s) (s ∷ []) (h (Some t)) (last_argument (passed m pa)))), refl)))
mark-sound w i v ps a (segment_name s n) t l =
    only (MarkOk w i v ps a t) (is_left_paren t.kind) _ tt (λ e. (argument s n (left_paren-is t.kind e) (λ o xs c k. k), refl))
mark-sound w i v ps a (identifier_bang m s) t l =
    only (MarkOk w i v ps a t) (is_name t.kind) _ tt (λ e. handing_segment m (name-is t.kind e) l s)
mark-sound w i v ps a (subscript_read n qs b due s h) t l =
    only (MarkOk w i v ps a t) (is_bang t.kind) _ tt (λ e. (
      reread (b ++ n ∷ t ∷ []) ((b ++ n ∷ []) ++ t ∷ []) (sym (append_assoc b (n ∷ []) (t ∷ [])))
          (subscript_bang due (adds-mark (λ xs c. DerivesSegments xs c i × AreBareSegments xs) qs b (segment-leaf n) (n ∷ []) t s (λ xs c r. (more_segments t (bang-is t.kind e) (bare h) r.0, (tt, r.1))))),
      refl,
    ))
mark-sound w i v ps a (subscript_bang due s) t l =
    only (MarkOk w i v ps a t) (is_name t.kind) _ tt (λ e. (subscript_read t ps a due s (name-is t.kind e), refl))
mark-sound w i v ps a (binding_start {β = β} b) t l =
    by-test (MarkOk w i v ps a t) (is_name t.kind) _ _
    (λ e. (binding_read t [] [] b (λ xs c k. k) (name-is t.kind e) (λ z. (refl, refl)), refl))
    (λ z. by-test (MarkOk w i v ps a t) (is_left_angle t.kind) _ _ (λ e. only (MarkOk w i v ps a t) (takes_set β) _ tt (λ f. (tuple_comma b f (left_angle-is t.kind e) (λ xs c k. k), refl))) (λ y. tt))
mark-sound w i v ps a (binding_comma {β = β} b m n) t l =
    only (MarkOk w i v ps a t) (is_name t.kind) _ tt (λ e. (binding_read t ps a b n (name-is t.kind e) (λ z. absurd-bool _ (takes_more β) m z), refl))
mark-sound w i v ps a (binding_read {β = β} n qs d b r h al) t l =
    by-test (MarkOk w i v ps a t) (is_comma t.kind) _ _
    (λ e. only (MarkOk w i v ps a t) (takes_more β) _ tt (λ f. (reread (d ++ n ∷ t ∷ []) ((d ++ n ∷ []) ++ t ∷ []) (sym (append_assoc d (n ∷ []) (t ∷ []))) (binding_comma b f (names-more qs d n t r h (comma-is t.kind e))), refl)))
    (λ z. by-test (MarkOk w i v ps a t) (is_member t.kind) _ _ (λ e. only (MarkOk w i v ps a t) (takes_set β) _ tt (λ f. (bound_set t b f (names-close qs d n r h) (alone-name β qs d n al) (member-is t.kind e), refl))) (λ y. tt))
mark-sound w i v ps a (tuple_comma {a = d} b s k n) t l =
    only (MarkOk w i v ps a t) (is_name t.kind) _ tt (λ e. (tuple_read t ps d b s k n (name-is t.kind e), refl))
mark-sound w i v ps a (tuple_read {t = u} n qs d b s k r h) t l =
    by-test (MarkOk w i v ps a t) (is_comma t.kind) _ _
    (λ e. (reread (u ∷ (d ++ n ∷ t ∷ [])) (u ∷ ((d ++ n ∷ []) ++ t ∷ [])) (ap (λ z. u ∷ z) (sym (append_assoc d (n ∷ []) (t ∷ [])))) (tuple_comma b s k (names-more qs d n t r h (comma-is t.kind e))), refl))
    (λ z. only (MarkOk w i v ps a t) (is_right_angle t.kind) _ tt (λ e. (tuple_closed b s (tuple_names u t k (right_angle-is t.kind e) (names-close qs d n r h)), refl)))
mark-sound w i v ps a (tuple_closed b s d) t l =
    only (MarkOk w i v ps a t) (is_member t.kind) _ tt (λ e. (tuple_bound_set t b s d (member-is t.kind e), refl))
mark-sound w i v ps a (field_name {t = u} {x = x} {b = b} m f k r d) t l =
    only (MarkOk w i v ps a t) (is_name t.kind) _ tt (λ e. (λ o. subst (λ z. Stands w (built (Form.FieldAccess t) (one x) z) z i o) (sym (append_assoc b (u ∷ []) (t ∷ []))) (expression (node (field u k (name-is t.kind e) r d)) f (operand-due w m) (not-subscript _ w m)), refl))
mark-sound w i v ps a (record_next {d = d} due k f) t l =
    only (MarkOk w i v ps a t) (is_name t.kind) _ tt (λ e. (record_named d due k (name-is t.kind e) f, refl))
mark-sound w i v ps a (record_named {n = n} {t = u} d due k h f) t l =
    only (MarkOk w i v ps a t) (is_maps_to t.kind) _ tt (λ e. (reread (u ∷ (d ++ n ∷ t ∷ [])) (u ∷ ((d ++ n ∷ []) ++ t ∷ [])) (ap (λ z. u ∷ z) (sym (append_assoc d (n ∷ []) (t ∷ [])))) (record_value d due k h (maps_to-is t.kind e) f), refl))
mark-sound w i v ps a (record_set_next {d = d} due k f) t l =
    only (MarkOk w i v ps a t) (is_name t.kind) _ tt (λ e. (record_set_named d due k (name-is t.kind e) f, refl))
mark-sound w i v ps a (record_set_named {n = n} {t = u} d due k h f) t l =
    only (MarkOk w i v ps a t) (is_colon t.kind) _ tt (λ e. (reread (u ∷ (d ++ n ∷ t ∷ [])) (u ∷ ((d ++ n ∷ []) ++ t ∷ [])) (ap (λ z. u ∷ z) (sym (append_assoc d (n ∷ []) (t ∷ [])))) (record_set_value d due k h (colon-is t.kind e) f), refl))
mark-sound w i v ps a (update_bang s) t l =
    only (MarkOk w i v ps a t) (is_bang t.kind) _ tt (λ e. (step_first s (bang-is t.kind e), refl))
mark-sound w i v ps a (step_first s k) t l =
    by-test (MarkOk w i v ps a t) (is_dot t.kind) _ _ (λ e. (step_field t [] s k (λ xs c r. r) (dot-is t.kind e), refl))
    (λ z. only (MarkOk w i v ps a t) (is_left_bracket t.kind) _ tt (λ e. (index_part refl (left_bracket-is t.kind e) (λ o xs c r. r), refl)))
mark-sound w i v ps a (step_next {d = b} s k d r) t l =
    by-test (MarkOk w i v ps a t) (is_dot t.kind) _ _ (λ e. (step_field t b s k r (dot-is t.kind e), refl))
    (λ z. by-test (MarkOk w i v ps a t) (is_left_bracket t.kind) _ _ (λ e. (index_part refl (left_bracket-is t.kind e) (λ o xs c y. y), refl))
    (λ y. only (MarkOk w i v ps a t) (is_equal t.kind) _ tt (λ e. (update_value t s k d (equal-is t.kind e), refl))))
mark-sound w i v ps a (step_field {t = u} b {ps = qs} d s k r h) t l =
    only (MarkOk w i v ps a t) (is_name t.kind) _ tt (λ e. (
      reread (u ∷ (d ++ b ∷ t ∷ [])) (u ∷ ((d ++ b ∷ []) ++ t ∷ [])) (ap (λ z. u ∷ z) (sym (append_assoc d (b ∷ []) (t ∷ []))))
          (step_next s k (adds-close (λ xs c. DerivesSteps xs c i) qs d (built (Form.FieldStep t) Nil (t ∷ [])) (b ∷ t ∷ []) r (last_step (field_step h (name-is t.kind e))))
          (adds-part (λ xs c. DerivesSteps xs c i) qs d (built (Form.FieldStep t) Nil (t ∷ [])) (b ∷ t ∷ []) r (λ xs c y. more_steps (field_step h (name-is t.kind e)) y))),
      refl,
    ))
mark-sound w i v ps a (arm_guard s) t l =
    only (MarkOk w i v ps a t) (is_other t.kind) _ tt (λ e. (other_arrow s (other-is t.kind e), refl))
mark-sound w i v ps a (other_arrow s k) t l =
    only (MarkOk w i v ps a t) (is_arrow t.kind) _ tt (λ e. (other_body s k (arrow-is t.kind e), refl))
mark-sound w i v ps a (let_first m k) t l =
    by-test (MarkOk w i v ps a t) (is_name t.kind) _ _ (λ e. handing_definition m k (inl (name-is t.kind e)) l (λ o xs c r. r))
    (λ z. only (MarkOk w i v ps a t) (is_negative t.kind) _ tt (λ e. handing_definition m k (inr (negative-is t.kind e)) l (λ o xs c r. r)))
mark-sound w i v ps a (definition_name {n = n} e h) t l =
    by-test (MarkOk w i v ps a t) (is_define t.kind) _ _ (λ k. (definition_body t e (constant h) (define-is t.kind k), refl))
    (λ z. by-test (MarkOk w i v ps a t) (is_left_paren t.kind) _ _ (λ k. (definition_parameters e h (left_paren-is t.kind k) (λ xs c r. r), refl))
    (λ y. by-test (MarkOk w i v ps a t) (is_left_bracket t.kind) _ _ (λ k. (function_head_bounds e h (left_bracket-is t.kind k) (λ o xs c r. r), refl))
    (λ x. by-test (MarkOk w i v ps a t) (defines Fix.Infix t.kind) _ _ (λ k. let q : (op : Op) × (t.kind ≡ LexKind.Sym op) × Defines op Fix.Infix = defines-is Fix.Infix t.kind k in (infix_name e h q.1 q.2, refl))
    (λ u. only (MarkOk w i v ps a t) (defines Fix.Postfix t.kind) _ tt (λ k. let q : (op : Op) × (t.kind ≡ LexKind.Sym op) × Defines op Fix.Postfix = defines-is Fix.Postfix t.kind k in (postfix_define e h q.1 q.2, refl))))))
mark-sound w i v ps a (definition_define e d) t l =
    only (MarkOk w i v ps a t) (is_define t.kind) _ tt (λ k. (definition_body t e d (define-is t.kind k), refl))
mark-sound w i v ps a (definition_body d e h k) t l =
    only (MarkOk w i v ps a t) (is_instance t.kind) _ tt (λ f. (instance_module refl (instance-is t.kind f), refl))
mark-sound w i v ps a (prefix_name e k) t l =
    only (MarkOk w i v ps a t) (is_name t.kind) _ tt (λ f. (prefix_define e k (name-is t.kind f), refl))
mark-sound w i v ps a (prefix_define e k n) t l =
    only (MarkOk w i v ps a t) (is_define t.kind) _ tt (λ f. (prefix_body e k n (define-is t.kind f), refl))
mark-sound w i v ps a (infix_name e m k d) t l =
    only (MarkOk w i v ps a t) (is_name t.kind) _ tt (λ f. (infix_define e m k d (name-is t.kind f), refl))
mark-sound w i v ps a (infix_define e m k d n) t l =
    only (MarkOk w i v ps a t) (is_define t.kind) _ tt (λ f. (infix_body e m k d n (define-is t.kind f), refl))
mark-sound w i v ps a (postfix_define e m k d) t l =
    only (MarkOk w i v ps a t) (is_define t.kind) _ tt (λ f. (postfix_body e m k d (define-is t.kind f), refl))
mark-sound w i v ps a (function_head_define {n = n} {t = r} {u = u} {a = b} e h k m d) t l =
    only (MarkOk w i v ps a t) (is_define t.kind) _ tt (λ f. (reread (n ∷ r ∷ (b ++ u ∷ t ∷ [])) (n ∷ r ∷ ((b ++ u ∷ []) ++ t ∷ [])) (ap (λ z. n ∷ r ∷ z) (sym (append_assoc b (u ∷ []) (t ∷ [])))) (function_head_body t e h k m (define-is t.kind f) d), refl))
mark-sound w i v ps a (instance_module so k) t l =
    only (MarkOk w i v ps a t) (is_name t.kind) _ tt (λ e. (instance_named so k (name-is t.kind e), refl))
mark-sound w i v ps a (instance_named so k m) t l =
    only (MarkOk w i v ps a t) (is_with t.kind) _ tt (λ e. (replacements so k m (with-is t.kind e) (λ o xs c r. r), refl))
mark-sound w i v ps a (replacement_start s) t l =
    only (MarkOk w i v ps a t) (is_replaceable t.kind) _ tt (λ e. (replacement_arrow s (replaceable-is t e), refl))
mark-sound w i v ps a (replacement_arrow s n) t l =
    only (MarkOk w i v ps a t) (is_left_arrow t.kind) _ tt (λ e. (replacement_right s n (left_arrow-is t.kind e), refl))
mark-sound w i v ps a (replacement_right s n k) t l =
    only (MarkOk w i v ps a t) (is_given_kind t.kind) _ tt (λ e. let q : (op : Op) × (t.kind ≡ LexKind.Sym op) × IsTrue (is_given op) = given-is t.kind e in (replacement_end s n k q.1 q.2, refl))
mark-sound w i v ps a (parameter_start s) t l =
    by-test (MarkOk w i v ps a t) (is_name t.kind) _ _ (λ e. (parameter_name s (name-is t.kind e), refl))
    (λ z. by-test (MarkOk w i v ps a t) (is_negative t.kind) _ _ (λ e. (prefix_place s (negative-is t.kind e), refl))
    (λ y. only (MarkOk w i v ps a t) (is_underscore t.kind) _ tt (λ e. (symbol_place s (underscore-is t.kind e), refl))))
mark-sound w i v ps a (parameter_name s n) t l =
    only (MarkOk w i v ps a t) (is_left_paren t.kind) _ tt (λ e. (places s n (left_paren-is t.kind e) places-none, refl))
mark-sound w i v ps a (places {count = count} {d = d} s n k p) t l =
    only (MarkOk w i v ps a t) (is_underscore t.kind) _ tt (λ e. (places_read t count d s n k p (underscore-is t.kind e), refl))
mark-sound w i v ps a (places_read {n = n} {t = u} p count d s h k r m) t l =
    by-test (MarkOk w i v ps a t) (is_comma t.kind) _ _
    (λ e. (reread (n ∷ u ∷ (d ++ p ∷ t ∷ [])) (n ∷ u ∷ ((d ++ p ∷ []) ++ t ∷ [])) (ap (λ z. n ∷ u ∷ z) (sym (append_assoc d (p ∷ []) (t ∷ [])))) (places s h k (places-more count d p t r m (comma-is t.kind e))), refl))
    (λ z. only (MarkOk w i v ps a t) (is_right_paren t.kind) _ tt (λ e. (λ o. parameter s (of_places t h k (right_paren-is t.kind e) (r 1 (p ∷ []) (last_place m))), refl)))
mark-sound w i v ps a (prefix_place s k) t l =
    only (MarkOk w i v ps a t) (is_underscore t.kind) _ tt (λ e. (λ o. parameter s (prefix_symbol k (underscore-is t.kind e)), refl))
mark-sound w i v ps a (symbol_place s u) t l =
    by-test (MarkOk w i v ps a t) (defines Fix.Infix t.kind) _ _ (λ k. let q : (op : Op) × (t.kind ≡ LexKind.Sym op) × Defines op Fix.Infix = defines-is Fix.Infix t.kind k in (infix_place s u q.1 q.2, refl))
    (λ z. only (MarkOk w i v ps a t) (defines Fix.Postfix t.kind) _ tt (λ k. let q : (op : Op) × (t.kind ≡ LexKind.Sym op) × Defines op Fix.Postfix = defines-is Fix.Postfix t.kind k in (λ o. parameter s (postfix_symbol u q.1 q.2), refl)))
mark-sound w i v ps a (infix_place s u k d) t l =
    only (MarkOk w i v ps a t) (is_underscore t.kind) _ tt (λ e. (λ o. parameter s (infix_symbol u k d (underscore-is t.kind e)), refl))
mark-sound w i v ps a _ t l = tt

-- what a frame with no part to come makes
abbrev pub HeadOk : Wait → ℕ → List Tree → List Lexeme → Option Lexeme → Option Form → Type 0
HeadOk w i ps a o (Some form) = Stands w (built form (trees ps) a) a i o × (right_edge (built form (trees ps) a) ≡ [])
HeadOk w i ps a o None = Unit {0}

head-if : (P : Option Form → Type 0) (b : Bool) (form : Form) → P None → (b ≡ true → P (Some form)) → P (when b form)
head-if P true form n f = f refl
head-if P false form n f = n

prefix-passed : (op : Op) → Applies op Fix.Prefix → IsTrue (is_passed op)
prefix-passed Op.Product h = cc
prefix-passed _ h = refl

pub head-sound : (w : Wait) (i : ℕ) (v : Wait) (ps : List Tree) (a : List Lexeme) → HasRead w i v ps a → (k : Option LexKind) (o : Option Lexeme) → HeadOk w i ps a o (endable v k)
head-sound w i v ps a (segment_name s n) k o = (segment s (bare n), refl)
head-sound w i v ps a (subscript_read n qs b due s h) k o =
    let d : DerivesSegments (trees (qs ++ segment-leaf n ∷ [])) (b ++ n ∷ []) i × AreBareSegments (trees (qs ++ segment-leaf n ∷ [])) =
    adds-close (λ xs c. DerivesSegments xs c i × AreBareSegments xs) qs b (segment-leaf n) (n ∷ []) s (last_segment (bare h), (tt, tt))
    in
    (expression (node (identifier d.0)) tt due (λ m. d.1), refl)
head-sound w i v ps a (instance_named so k m) j o = (instance so (without k m), refl)
head-sound w i v ps a (replacement_end s n k m g) j o = (replacement s (replaced_by_symbol n k m g), refl)
head-sound w i v ps a (parameter_name s n) k o = (parameter s (plain n), refl)
head-sound w i v ps a (prefix_operand {op = op} m k h) None o = tt
head-sound w i v ps a (prefix_operand {op = op} {t = t} m k h) (Some j) o =
    head-if (HeadOk w i ps a o) (ends_symbol j) (Form.Symbol t) tt (λ e. (symbol m k (prefix-passed op h), refl))
head-sound w i v ps a (list_first m b l) None o = tt
head-sound w i v ps a (list_first {t = t} m (inl k, e) l) (Some j) o =
    head-if (HeadOk w i ps a o) (ends_symbol j) (Form.Symbol t) tt (λ z. (symbol {op = Op.And} m k refl, refl))
head-sound w i v ps a (list_first {t = t} m (inr k, e) l) (Some j) o =
    head-if (HeadOk w i ps a o) (ends_symbol j) (Form.Symbol t) tt (λ z. (symbol {op = Op.Or} m k refl, refl))
head-sound w i v ps a (binding_read n qs d b r h al) None o = tt
head-sound w i v ps a (binding_read {β = β} n qs d b r h al) (Some j) o =
    head-if (HeadOk w i ps a o) (cond (takes_none β) (is_colon j) false) Form.Names tt (λ e. (names β b (names-for β (is_colon j) qs d n e r h al), refl))
head-sound w i v ps a (tuple_closed b s d) None o = tt
head-sound w i v ps a (tuple_closed {β = β} b s d) (Some j) o =
    head-if (HeadOk w i ps a o) (cond (takes_lone_tuple β) (is_colon j) false) Form.TupleNames tt (λ e. (names β b (tuple-for β (is_colon j) ps a e d), refl))
head-sound w i v ps a _ k o = tt

-- what a lexeme begins
abbrev pub BeginOk : Wait → ℕ → Lexeme → Start → Type 0
BeginOk v i t (Start.Leaf form) = Shut v (built form Nil (t ∷ [])) (t ∷ []) i
BeginOk v i t (Start.Push u) = HasRead v i u [] (t ∷ []) × (promised u ≡ [])
BeginOk v i t (Start.PushLeaf form u) = HasRead v i u (built form Nil (t ∷ []) ∷ []) (t ∷ []) × (promised u ≡ [])
BeginOk v i t (Start.Hand h) = HasRead v i (Wait.Handing h t) [] []
BeginOk v i t Start.NoStart = Unit {0}

begin-if : (P : Start → Type 0) (b : Bool) (m n : Start) → (b ≡ true → P m) → (b ≡ false → P n) → P (cond b m n)
begin-if P true m n f g = f refl
begin-if P false m n f g = g refl

start-sound : (v : Wait) (i : ℕ) (t : Lexeme) (k : LexKind) → t.kind ≡ k → i ≤ t.col → mode v ≡ Mode.Operand → BeginOk v i t (start_kind k t)
start-sound v i t LexKind.Name e l m = handing_segment m e l (λ xs c k. k)
start-sound v i t LexKind.Number e l m = (λ o. expression (node (number e)) tt (operand-due v m) (λ z. not-subscript _ v m z), refl)
start-sound v i t LexKind.Str e l m = (λ o. expression (node (text e)) tt (operand-due v m) (λ z. not-subscript _ v m z), refl)
start-sound v i t (LexKind.Sym op) e l m =
    begin-if (BeginOk v i t) (is_bullet t) _ _ (λ b. (list_first m (true-bullet t b) l, refl))
    (λ n. begin-if (BeginOk v i t) (is_some (range_of op Fix.Prefix)) _ _ (λ h. (prefix_operand m e h, refl)) (λ z. tt))
start-sound v i t (LexKind.Mark Mark.At) e l m = (λ o. expression (node (at e)) tt (operand-due v m) (λ z. not-subscript _ v m z), refl)
start-sound v i t (LexKind.Mark Mark.LeftParen) e l m = (parentheses_body (operand-due v m) e, refl)
start-sound v i t (LexKind.Mark Mark.LeftBracket) e l m = (square_first (operand-due v m) (λ f. m) e, refl)
start-sound v i t (LexKind.Mark Mark.LeftBrace) e l m = (brace_first (operand-due v m) e, refl)
start-sound v i t (LexKind.Mark Mark.LeftAngle) e l m = (angle_first (operand-due v m) (λ f. m) e, refl)
start-sound v i t (LexKind.Mark Mark.ForAll) e l m = (quantifier_first m (inl e), refl)
start-sound v i t (LexKind.Mark Mark.Exists) e l m = (quantifier_first m (inr e), refl)
start-sound v i t (LexKind.Mark Mark.TemporalForAll) e l m = (temporal_first m (inl e), refl)
start-sound v i t (LexKind.Mark Mark.TemporalExists) e l m = (temporal_first m (inr e), refl)
start-sound v i t (LexKind.Word Word.Choose) e l m = (choose_first m e, refl)
start-sound v i t (LexKind.Word Word.If) e l m = (if_test m e, refl)
start-sound v i t (LexKind.Word Word.Case) e l m = (case_arms m e (λ o xs c k. k), refl)
start-sound v i t (LexKind.Word Word.Let) e l m = (let_first m e, refl)
start-sound v i t (LexKind.Word Word.WeakFair) e l m = (fair_subscript m (inl e), refl)
start-sound v i t (LexKind.Word Word.StrongFair) e l m = (fair_subscript m (inr e), refl)
start-sound v i t _ e l m = tt

subscript-sound : (v : Wait) (i : ℕ) (t : Lexeme) (k : LexKind) → t.kind ≡ k → IsDue v → BeginOk v i t (subscript_kind k t)
subscript-sound v i t LexKind.Name e due = (subscript_read t [] [] due (λ xs c k. k) e, refl)
subscript-sound v i t (LexKind.Mark Mark.LeftParen) e due = (parentheses_body due e, refl)
subscript-sound v i t (LexKind.Mark Mark.LeftBracket) e due = (square_first due (λ f. cc) e, refl)
subscript-sound v i t (LexKind.Mark Mark.LeftBrace) e due = (brace_first due e, refl)
subscript-sound v i t (LexKind.Mark Mark.LeftAngle) e due = (angle_first due (λ f. cc) e, refl)
subscript-sound v i t _ e due = tt

pub begin-sound : (v : Wait) (i : ℕ) (t : Lexeme) → i ≤ t.col → BeginOk v i t (begins (mode v) t)
begin-sound v i t l = by (mode v) refl
  where
    by : (m : Mode) → mode v ≡ m → BeginOk v i t (begins m t)
    by Mode.Operand e = start-sound v i t t.kind refl l e
    by Mode.Subscript e = subscript-sound v i t t.kind refl (λ k. cc)
    by Mode.Marks e = tt
    by Mode.Child e = tt
