-- What the grammar derives, the tables derive.
use Rattle.std.proofs.Common.{◌≡◌, ℕ, suc, ◌≤◌, ◌⊎◌, inl, inr, Bool, true, false, List, [], ◌∷◌, ◌++◌, Option, Some, None, refl, ap, sym, subst, ◌∙◌, append_assoc, arith}
use Rattle.tla_symbols.specs.declared.op.Op.{Op}
use Rattle.tla_symbols.specs.declared.place.Fix.{Fix}
use Rattle.tla_symbols.specs.declared.lexeme.Mark.{Mark}
use Rattle.tla_symbols.specs.declared.lexeme.Lexeme.{Lexeme}
use Rattle.tla_tree.specs.declared.form.Form.{Form}
use Rattle.tla_tree.specs.Syntax.{Tree, Trees, Nil, Cons, trees}
use Rattle.tla_tree.specs.Edges.{Edge, Operator, Open, Applied, Selected, operator, product, AllJoin, right_edge, right_edge_of_last, left_edge}
use Rattle.tla_tree.specs.Alignment.{GoesOn, MayFollow}
use Rattle.tla_tree.specs.Shapes.{BindsOne}
use Rattle.tla_tree.specs.Lexemes.{IsName, IsMark, built, one, two, then, joined}
use Rattle.tla_tree.specs.Headings.{last_name, more_names}
use Rattle.tla_tree.specs.Derivation.{Derives, node, Spells, identifier, number, text, at, prefixed, infixed, postfixed, products, parentheses, quantifier, bounded_quantifier, temporal_quantifier, choose, bounded_choose, empty_set, set, set_filter, set_image, application, function, function_set, record_of, record_set, field, except, empty_tuple, tuple, square, angle, fairness, if_then_else, case, let_in, junctions, DerivesList, last, more, DerivesFactors, last_factor, more_factors, DerivesSegments, last_segment, more_segments, DerivesSegment, bare, applied, DerivesArguments, last_argument, more_arguments, expression, passed, DerivesBound, bound, tuple_bound, DerivesBounds, last_bound, more_bounds, named, DerivesFields, last_field, more_fields, DerivesUpdate, update, DerivesUpdates, last_update, more_updates, DerivesStep, field_step, index_step, DerivesSteps, last_step, more_steps, DerivesArms, last_arm, other_arm, more_arms, DerivesArm, arm, DerivesItems, last_item, more_items, DerivesDefinitions, last_definition, more_definitions, DerivesDefinition, operator as operator_definition, prefix_operator, infix_operator, postfix_operator, function_of, module_of, DerivesInstance, without, with_replacements, DerivesReplacements, last_replacement, more_replacements, DerivesReplacement, replaced, replaced_by_symbol}
use Rattle.precedence.specs.declared.Choice.TheVariants as Choice
use Rattle.precedence.specs.Choices.{choose as choose_order}
use Rattle.precedence.proofs.Orders.{choose-ends, choose-waits}
use Rattle.expr_grammar.specs.declared.wait.Binding.{Binding}
use Rattle.expr_grammar.specs.declared.wait.Handed.TheVariants as Handed
use Rattle.expr_grammar.specs.declared.wait.Wait.{Wait}
use Rattle.expr_grammar.specs.declared.wait.Mode.TheVariants as Mode
use Rattle.expr_grammar.specs.declared.wait.Conversion.TheVariants as Conversion
use Rattle.expr_grammar.specs.declared.wait.PartMove.{PartMove}
use Rattle.expr_grammar.specs.declared.wait.Role.{Role}
use Rattle.expr_grammar.specs.declared.wait.Shape.{Shape}
use Rattle.expr_grammar.specs.Kinds.{is_comma, is_left_paren, is_bang, is_maps_to, is_colon}
use Rattle.expr_grammar.specs.Tables.{mode, fresh, handed, child, list_of, absorbs, role, edge_of, lead, takes, choice, shape, is_expression, name_leaf, ends_with, after_expression, in_square, keeps, defines, takes_more, takes_set, at_part}
use Rattle.expr_grammar.specs.Machine.{is_operator}
use Rattle.expr_laws.proofs.Tabled.{Begun, Closed, Part, absorbed_part, close, closed, converted_part, done, finished, fresh_child, handed_mark, handed_part, headed, item-in, leaf, leafed, leafed_of, led_node, led_push, next_factor, next_item, pushed, pushed_hand, pushed_leaf, pushed_mark, shifted, went}
use Rattle.expr_laws.proofs.Asking.{continues, Follows, mark-follows, column-follows, operator-follows, follows-tail, ends-expression, ends-open, Place, operand, subscript, AllFit, follows-none}
use Rattle.expr_laws.proofs.Starting.{derives-shape, start-at, mark-role, operand-of, paren-start, bracket-start, brace-start, angle-start, mode-absorbs, waits-takes, all-waits, all-fit, prefix-start, infix-role, postfix-role, infix-lead, symbol-continues, trees-snoc, joined-snoc, renamed, renamed-closed, Listing, set-first, set-next, tuple-first, tuple-next, application-listing, index-listing, no-follow, symbol-leaf}
use Rattle.expr_laws.proofs.Bounding.{part-at, ends-takes, last-factors, Ended, NamesRead, read-names, binding-frame, names-part, names-shape, read-tuple, binder-part, binder-shape, trees-then, Bounding, BoundsRead, quantifier-start, temporal-start, angle-quiet, in-square, square-move, square-arrow, quantifier-bounds, quantifier-more, image-bounds, function-bounds, head-bounds, bound-set-waits, tuple-set-waits, bound-names, open-then, bounds-spelled}
use Rattle.expr_laws.proofs.Naming.{NoParen, NoMore, FollowsIn, follows-no-bang, follows-no-more, more-paren, path-ends, name-identifier, SegmentRead, bare-segment, name-part, subscript-segment, subpath, bullet-start, goes-on, list-ends, arms-end, other-arm-ends}
use Rattle.expr_laws.proofs.Passing.{square-action, angle-action, fairness-start, square-subscript, no-left, path-goes, last-arms, symbol-last, symbol-next, item-part, item-follows, items-first, bullet-continues, item-spelled}
use Rattle.expr_laws.proofs.Membering.{MemberRead, MemberWait, square-wait, brace-wait, single-name, derives-member, image-colon, closes_with, image-spelled, function-spelled, FunctionRead, FieldWaits, record-waits, record-set-waits, member-fit, member-of-name, member-of-tuple, first-goes, bounds-more, StepWait, step-first, step-next, step-inside, StepsRead, plain-maps, plain-colon}
use Rattle.expr_laws.proofs.Defining.{Closing, closing-follows, IsFirst, first-closes, DefinitionRead, name-begun, prefix-begun, HeadRead, read-head, given-quiet, ends-closing, instance-ends, symbol-right-ends, definitions-beginning, first-of, DefinitionsRead, replacement-begun, given-move, instance-name, symbol-head, postfix-head, first-role, definition-goes, let-goes, let-first, head-spelled, ends_let}
use Rattle.expr_laws.proofs.PartShapes.{arm-shape, bound-shape, instance-shape, replacement-shape, update-shape}

mutual
  pub gen : {x : Tree} {a : List Lexeme} {i : ℕ} {o : Option Lexeme} → Derives x a i o → (w : Wait) (flag : Bool) → Place w x flag → AllFit w (left_edge x) → FollowsIn flag i (right_edge x) o → Part w x a i o
  gen (node s) w flag p fit f = gen-spells s w flag p fit f

  gen-spells : {form : Form} {xs : Trees} {a : List Lexeme} {i : ℕ} {o : Option Lexeme} → Spells form xs a i o → (w : Wait) (flag : Bool) → Place w (built form xs a) flag → AllFit w (left_edge (built form xs a)) → FollowsIn flag i (right_edge (built form xs a)) o → Part w (built form xs a) a i o
  gen-spells (number {t = t} k) w flag p fit f = closed (leaf (Form.Number t) (start-at w t _ (operand-of p (λ s. s)) k))
  gen-spells (text {t = t} k) w flag p fit f = closed (leaf (Form.Text t) (start-at w t _ (operand-of p (λ s. s)) k))
  gen-spells (at {t = t} k) w flag p fit f = closed (leaf (Form.At t) (start-at w t _ (operand-of p (λ s. s)) k))
  gen-spells (prefixed {op = op} {t = t} {x = x} {inner = i} {next = o} k h m d) w true (operand hw) fit f =
      let c : operator t.kind Fix.Prefix ≡ Operator op Fix.Prefix = ap (λ z. operator z Fix.Prefix) k in
      finished (Form.Prefix t)
      (pushed (start-at w t _ hw k ∙ prefix-start op t k h) refl)
      (gen d (Wait.PrefixOperand t) true (operand refl) (all-fit (Wait.PrefixOperand t) (Operator op Fix.Prefix) (λ q j. ap (λ z. choose_order z q) c ∙ choose-waits (Operator op Fix.Prefix) q j) (left_edge x) m) (follows-tail i (operator t.kind Fix.Prefix) (right_edge x) o f))
      tt refl
      (ends-expression (Wait.PrefixOperand t) x i (Form.Prefix t) (operator t.kind Fix.Prefix ∷ right_edge x) o (derives-shape d) refl (λ n. refl) (λ r s j. (refl, choose-ends (operator t.kind Fix.Prefix) (edge_of r) j.0)) refl f)
  gen-spells (infixed {op = op} {x = x} {y = y} {a = a} {b = b} {inner = i} {next = o} t k h e j m d d') w true (operand hw) fit f =
      let q : mode w ≡ Mode.Operand = hw in
      let r : role t.kind ≡ Role.Symbol op Fix.Infix = ap role k ∙ infix-role op h in
      let c : operator t.kind Fix.Infix ≡ Operator op Fix.Infix = ap (λ z. operator z Fix.Infix) k in
      let z : choice w (edge_of (role t.kind)) ≡ Choice.Waits = ap (λ v. choice w v) (ap edge_of r ∙ sym c) ∙ fit.0 in
      renamed _ _ _ _ _ refl (append_assoc a (t ∷ []) b)
      (finished (Form.Infix t)
      (led_push t
      (gen d w true (operand q) fit.1 (operator-follows i (right_edge x) t (Role.Symbol op Fix.Infix) (symbol-continues t op k) r j))
      (ap is_operator r) (waits-takes w (role t.kind) z) (mode-absorbs w q) z (derives-shape d)
      (ap (λ v. lead v t) r ∙ infix-lead op t e) refl)
      (gen d' (Wait.InfixOperand t) true (operand refl) (all-fit (Wait.InfixOperand t) (Operator op Fix.Infix) (λ v l. ap (λ u. choose_order u v) c ∙ choose-waits (Operator op Fix.Infix) v l) (left_edge y) m) (follows-tail i (operator t.kind Fix.Infix) (right_edge y) o f))
      tt refl
      (ends-expression (Wait.InfixOperand t) y i (Form.Infix t) (operator t.kind Fix.Infix ∷ right_edge y) o (derives-shape d') refl (λ n. refl) (λ v s l. (refl, choose-ends (operator t.kind Fix.Infix) (edge_of v) l.0)) refl f))
  gen-spells (postfixed {op = op} {x = x} {inner = i} t k h e d) w flag p fit f =
      let q : mode w ≡ Mode.Operand = operand-of p (λ s. s) in
      let r : role t.kind ≡ Role.Symbol op Fix.Postfix = ap role k ∙ postfix-role op h in
      let c : operator t.kind Fix.Postfix ≡ Operator op Fix.Postfix = ap (λ z. operator z Fix.Postfix) k in
      let z : choice w (edge_of (role t.kind)) ≡ Choice.Waits = ap (λ v. choice w v) (ap edge_of r ∙ sym c) ∙ fit.0 in
      closed (led_node t (Form.Postfix t)
      (gen d w true (operand q) fit.1 (operator-follows i (right_edge x) t (Role.Symbol op Fix.Postfix) (symbol-continues t op k) r (subst (λ v. AllJoin (Operator op Fix.Postfix) v) (sym e) tt)))
      (ap is_operator r) (waits-takes w (role t.kind) z) (mode-absorbs w q) z (derives-shape d) (ap (λ v. lead v t) r))
  gen-spells (parentheses {x = x} {inner = i} t u k l d) w flag p fit f =
      closed (done u Form.Parentheses Conversion.Keep (pushed (paren-start t p k) refl)
      (gen d Wait.ParenthesesBody true (operand refl) (all-waits Wait.ParenthesesBody (λ q. refl) (left_edge x)) (mark-follows i (right_edge x) u _ l refl refl))
      (mark-role u _ l refl) (rw (derives-shape d, l)) (refl, refl))
  gen-spells (empty_set {t = t} {u = u} k l) w flag p fit f =
      closed (close u Form.SetEnumeration (pushed (brace-start t p k) refl) (rw l) (rw l) refl)
  gen-spells (set {xs = xs} {a = a} t u k l d) w flag p fit f =
      closed (gen-list d u refl (mark-follows _ [] u _ l refl refl) (λ i qs. mark-follows i qs u _ l refl refl) (mark-role u _ l refl) Form.SetEnumeration w Wait.BraceFirst Wait.BraceNext [] (t ∷ []) (set-first u l) (set-next u l) (pushed (brace-start t p k) refl))
  gen-spells (application {x = x} {xs = xs} {a = a} {b = b} {inner = i} t u k l e d d') w flag p fit f =
      let q : mode w ≡ Mode.Operand = operand-of p (λ s. s) in
      let r : role t.kind ≡ Role.Apply = ap role k in
      let z : choice w (edge_of (role t.kind)) ≡ Choice.Waits = ap (λ v. choice w v) (ap edge_of r) ∙ fit.0 in
      renamed Form.Application (Cons x xs) (Cons x xs) ((a ++ t ∷ []) ++ (b ++ u ∷ [])) (a ++ t ∷ (b ++ u ∷ [])) refl (append_assoc a (t ∷ []) (b ++ u ∷ []))
      (closed (gen-list d' u refl (mark-follows _ [] u _ l refl refl) (λ i qs. mark-follows i qs u _ l refl refl) (mark-role u _ l refl) Form.Application w Wait.ApplicationArgument Wait.ApplicationArgument (x ∷ []) _ (application-listing u l) (application-listing u l)
      (led_push t
      (gen d w true (operand q) fit.1 (operator-follows i (right_edge x) t Role.Apply (ap continues k) r (subst (λ v. AllJoin Applied v) (sym e) tt)))
      (ap is_operator r) (waits-takes w (role t.kind) z) (mode-absorbs w q) z (derives-shape d) (ap (λ v. lead v t) r) refl)))
  gen-spells (products {x = x} {xs = xs} {a = a} {b = b} {inner = i} {next = o} t k j d d') w true (operand hw) fit f =
      let q : mode w ≡ Mode.Operand = hw in
      let r : role t.kind ≡ Role.Symbol Op.Product Fix.Infix = ap role k in
      let z : choice w (edge_of (role t.kind)) ≡ Choice.Waits = ap (λ v. choice w v) (ap edge_of r) ∙ fit.0 in
      renamed Form.Product (Cons x xs) (Cons x xs) ((a ++ t ∷ []) ++ b) (a ++ t ∷ b) refl (append_assoc a (t ∷ []) b)
      (gen-factors d' w (x ∷ []) _
      (led_push t
      (gen d w true (operand q) fit.1 (operator-follows i (right_edge x) t (Role.Symbol Op.Product Fix.Infix) (ap continues k) r j))
      (ap is_operator r) (waits-takes w (role t.kind) z) (mode-absorbs w q) z (derives-shape d) (ap (λ v. lead v t) r) refl)
      (follows-none i (product ∷ right_edge_of_last (Cons x xs)) (product ∷ right_edge_of_last xs) o (ap (λ z. product ∷ z) (last-factors d' x)) f))
  gen-spells (quantifier {q = q} {names = ns} {x = x} {inner = i} {next = o} t k l d d') w true (operand hw) fit f =
      renamed _ _ _ _ _ refl (simp append_assoc)
      (finished (Form.Quantifier q)
      (went t Conversion.Keep (pushed (quantifier-start w q hw k) refl)
      (names-part d (Wait.QuantifierFirst q) Binding.Either i t refl refl refl l)
      (mark-role t _ l refl) (rw (names-shape d, l)) (refl, refl) refl)
      (gen d' (Wait.QuantifierBody q) true (operand refl) (all-waits (Wait.QuantifierBody q) (λ z. refl) (left_edge x)) (follows-tail i Open (right_edge x) o f))
      tt refl
      (ends-open (Wait.QuantifierBody q) x i (Form.Quantifier q) (right_edge x) o (derives-shape d') refl (λ n. refl) refl f))
  gen-spells (temporal_quantifier {q = q} {names = ns} {x = x} {inner = i} {next = o} t k l d d') w true (operand hw) fit f =
      renamed _ _ _ _ _ refl (simp append_assoc)
      (finished (Form.TemporalQuantifier q)
      (went t Conversion.Keep (pushed (temporal-start w q hw k) refl)
      (names-part d (Wait.TemporalFirst q) Binding.Names i t refl refl refl l)
      (mark-role t _ l refl) (rw (names-shape d, l)) (refl, refl) refl)
      (gen d' (Wait.TemporalBody q) true (operand refl) (all-waits (Wait.TemporalBody q) (λ z. refl) (left_edge x)) (follows-tail i Open (right_edge x) o f))
      tt refl
      (ends-open (Wait.TemporalBody q) x i (Form.TemporalQuantifier q) (right_edge x) o (derives-shape d') refl (λ n. refl) refl f))
  gen-spells (choose {w = v} {x = x} {inner = i} {next = o} t k l d d') w true (operand hw) fit f =
      renamed _ _ _ _ _ refl (simp append_assoc)
      (finished Form.Choose
      (went t Conversion.Keep (pushed (start-at w v _ hw k) refl)
      (binder-part d i t l)
      (mark-role t _ l refl) (rw (binder-shape d, l)) (refl, refl) refl)
      (gen d' Wait.ChooseBody true (operand refl) (all-waits Wait.ChooseBody (λ z. refl) (left_edge x)) (follows-tail i Open (right_edge x) o f))
      tt refl
      (ends-open Wait.ChooseBody x i Form.Choose (right_edge x) o (derives-shape d') refl (λ n. refl) refl f))
  gen-spells (empty_tuple {t = t} {u = u} k l) w flag p fit f =
      closed (close u Form.Tuple (pushed (angle-start t p k) refl) (angle-quiet flag u l) (rw l) refl)
  gen-spells (tuple {xs = xs} {a = a} t u k l d) w flag p fit f =
      closed (gen-list d u refl (mark-follows _ [] u _ l refl refl) (λ i qs. mark-follows i qs u _ l refl refl) (mark-role u _ l refl) Form.Tuple w (Wait.AngleFirst flag) Wait.AngleNext [] (t ∷ []) (tuple-first flag u l) (tuple-next u l) (pushed (angle-start t p k) refl))
  gen-spells (function_set {x = x} {y = y} {inner = i} t m u k l e d d') w flag p fit f =
      closed
      (renamed-closed _ _ _ _ _ refl (simp append_assoc)
      (done u Form.FunctionSet Conversion.Keep
      (went m Conversion.Keep (pushed (bracket-start t p k) refl)
      (gen d (Wait.SquareFirst flag) true (operand refl) (all-waits (Wait.SquareFirst flag) (λ z. refl) (left_edge x)) (mark-follows i (right_edge x) m _ l refl refl))
      (mark-role m _ l refl) (square-arrow flag x m (derives-shape d) l) (refl, refl) refl)
      (gen d' Wait.FunctionTo true (operand refl) (all-waits Wait.FunctionTo (λ z. refl) (left_edge y)) (mark-follows i (right_edge y) u _ e refl refl))
      (mark-role u _ e refl) (rw (derives-shape d', e)) (refl, refl)))
  gen-spells (field {x = x} {a = a} {h = h} {inner = i} t k l e d) w flag p fit f =
      let q : mode w ≡ Mode.Operand = operand-of p (λ s. s) in
      let r : role t.kind ≡ Role.Select = ap role k in
      let z : choice w (edge_of (role t.kind)) ≡ Choice.Waits = ap (λ v. choice w v) (ap edge_of r) ∙ fit.0 in
      renamed _ _ _ _ _ refl (append_assoc a (t ∷ []) (h ∷ []))
      (closed (close h (Form.FieldAccess h)
      (led_push t
      (gen d w true (operand q) fit.1 (operator-follows i (right_edge x) t Role.Select (ap continues k) r (subst (λ v. AllJoin Selected v) (sym e) tt)))
      (ap is_operator r) (waits-takes w (role t.kind) z) (mode-absorbs w q) z (derives-shape d) (ap (λ v. lead v t) r) refl)
      refl (rw l) refl))
  gen-spells (if_then_else {x = x} {y = y} {z = z} {inner = i} {next = o} t u v k l m d d' d'') w true (operand hw) fit f =
      renamed _ _ _ _ _ refl (simp append_assoc)
      (finished Form.IfThenElse
      (went v Conversion.Keep
      (went u Conversion.Keep (pushed (start-at w t _ hw k) refl)
      (gen d Wait.IfTest true (operand refl) (all-waits Wait.IfTest (λ q. refl) (left_edge x)) (mark-follows i (right_edge x) u _ l refl refl))
      (mark-role u _ l refl) (rw (derives-shape d, l)) (refl, refl) refl)
      (gen d' Wait.IfThen true (operand refl) (all-waits Wait.IfThen (λ q. refl) (left_edge y)) (mark-follows i (right_edge y) v _ m refl refl))
      (mark-role v _ m refl) (rw (derives-shape d', m)) (refl, refl) refl)
      (gen d'' Wait.IfElse true (operand refl) (all-waits Wait.IfElse (λ q. refl) (left_edge z)) (follows-tail i Open (right_edge z) o f))
      tt refl
      (ends-open Wait.IfElse z i Form.IfThenElse (right_edge z) o (derives-shape d'') refl (λ n. refl) refl f))
  gen-spells (bounded_quantifier {q = q} {bounds = bs} {x = x} {a = a} {b = b} {inner = i} {next = o} t k l d d') w true (operand hw) fit f =
      let r : BoundsRead w [] bs (q ∷ []) a i (Some t) (keeps (Wait.BoundedBody q)) t =
      gen-bounds d w (Wait.QuantifierFirst q) (Wait.QuantifierNext q) Binding.Either [] (q ∷ []) t (keeps (Wait.BoundedBody q))
      (quantifier-bounds q t l) (quantifier-more q t l)
      (λ y e. rw (e, l)) (λ y e. rw (e, l))
      (λ qs. mark-follows i qs t _ l refl refl)
      (pushed (quantifier-start w q hw k) refl)
      in
      renamed _ _ _ _ _ (trees-then (r.qs ++ r.x ∷ []) x bs r.is) (bounds-spelled r.front r.b q a t b r.spelled)
      (finished (Form.BoundedQuantifier q)
      (went t Conversion.Keep r.begun (part-at r.v r.x r.b i (Some t) t r.plain.0 refl r.part) (mark-role t _ l refl) r.ends r.plain refl)
      (gen d' (Wait.BoundedBody q) true (operand refl) (all-waits (Wait.BoundedBody q) (λ z. refl) (left_edge x)) (follows-tail i Open (right_edge x) o (open-then bs x i o f)))
      tt refl
      (ends-open (Wait.BoundedBody q) x i (Form.BoundedQuantifier q) (right_edge x) o (derives-shape d') refl (λ n. refl) refl (open-then bs x i o f)))
  gen-spells (bounded_choose {w = v} {bound = y} {x = x} {inner = i} {next = o} t k l d n d') w true (operand hw) fit f =
      renamed _ _ _ _ _ refl (simp append_assoc)
      (finished Form.BoundedChoose
      (went t Conversion.Keep (pushed (start-at w v _ hw k) refl)
      (gen-bound d Wait.ChooseFirst Binding.One refl refl (inr n) (λ qs. mark-follows i qs t _ l refl refl))
      (mark-role t _ l refl) (rw (bound-shape d, l)) (refl, refl) refl)
      (gen d' Wait.BoundedChooseBody true (operand refl) (all-waits Wait.BoundedChooseBody (λ z. refl) (left_edge x)) (follows-tail i Open (right_edge x) o f))
      tt refl
      (ends-open Wait.BoundedChooseBody x i Form.BoundedChoose (right_edge x) o (derives-shape d') refl (λ m. refl) refl f))
  gen-spells (identifier {xs = xs} {a = a} {inner = i} {next = o} d) w true (operand h) fit f =
      gen-path d w [] [] o (follows-no-more i [] o f) (λ n k. pushed_hand n Handed.Segment (start-at w n _ h k))
  gen-spells (identifier {xs = xs} {a = a} {inner = i} {next = o} d) w false (subscript h s) fit f =
      subpath d s w [] [] o f (λ n k. pushed_leaf (Form.Segment n) (subscript-segment w n h k) refl)
  gen-spells (square {x = x} {s = y} {a = a} {b = b} {inner = i} {next = o} t u k l d d' z) w true (operand hw) fit f =
      renamed _ _ _ _ _ refl (simp append_assoc)
      (finished Form.SquareAction
      (went u Conversion.Keep (pushed (square-action w t hw k) refl)
      (gen d (Wait.SquareFirst true) true (operand refl) (all-waits (Wait.SquareFirst true) (λ q. refl) (left_edge x)) (mark-follows i (right_edge x) u _ l refl refl))
      (mark-role u _ l refl) (square-subscript x u (derives-shape d) l) (refl, refl) refl)
      (gen d' Wait.SquareSubscript false (subscript refl z) (no-left y z Wait.SquareSubscript) (follows-no-bang i [] o f))
      tt refl
      (ends-expression Wait.SquareSubscript y i Form.SquareAction [] o (derives-shape d') refl (λ n. refl) (λ r q j. (refl, refl)) refl f))
  gen-spells (angle {x = x} {s = y} {a = a} {b = b} {inner = i} {next = o} t u k l d d' z) w true (operand hw) fit f =
      renamed _ _ _ _ _ refl (simp append_assoc)
      (finished Form.AngleAction
      (went u Conversion.Keep (pushed (angle-action w t hw k) refl)
      (gen d (Wait.AngleFirst true) true (operand refl) (all-waits (Wait.AngleFirst true) (λ q. refl) (left_edge x)) (mark-follows i (right_edge x) u _ l refl refl))
      (mark-role u _ l refl) (rw (derives-shape d, l)) (refl, refl) refl)
      (gen d' Wait.AngleSubscript false (subscript refl z) (no-left y z Wait.AngleSubscript) (follows-no-bang i [] o f))
      tt refl
      (ends-expression Wait.AngleSubscript y i Form.AngleAction [] o (derives-shape d') refl (λ n. refl) (λ r q j. (refl, refl)) refl f))
  gen-spells (fairness {w = v} {s = y} {x = x} {inner = i} t u k l m d z d') w flag p fit f =
      closed
      (renamed-closed _ _ _ _ _ refl (simp append_assoc)
      (done u (Form.Fairness v) Conversion.Keep
      (went t Conversion.Keep (pushed (fairness-start w v (operand-of p (λ s. s)) k) refl)
      (gen d (Wait.FairSubscript v) false (subscript refl z) (no-left y z (Wait.FairSubscript v)) (ap is_bang l))
      (mark-role t _ l refl) (rw (derives-shape d, l)) (refl, refl) refl)
      (gen d' (Wait.FairAction v) true (operand refl) (all-waits (Wait.FairAction v) (λ q. refl) (left_edge x)) (mark-follows i (right_edge x) u _ m refl refl))
      (mark-role u _ m refl) (rw (derives-shape d', m)) (refl, refl)))
  gen-spells (case {w = v} {xs = xs} {a = a} k d) w true (operand hw) fit f =
      gen-arms d w [] (v ∷ []) (pushed (start-at w v _ hw k) refl) f
  gen-spells (junctions {t = t} {xs = xs} {a = a} {inner = i} {next = o} k l d m) w true (operand hw) fit f =
      gen-items d w (Wait.ListFirst t) [] [] i refl refl (λ sh n. refl) (λ q. refl) refl l m (follows-no-more i [] o f) refl
      (λ u rest e. (let q : t ≡ u = cc in subst (λ z. Begun w (Wait.ListFirst t) [] (z ∷ []) i) q (pushed (bullet-start w t hw k) refl)))
  gen-spells (set_filter {bound = y} {y = z} {a = a} {b = b} {inner = i} t c u k l e d n d') w flag p fit f =
      let r : MemberRead Wait.BraceFirst y a i (Some c) = gen-member d n Wait.BraceFirst brace-wait (λ qs. mark-follows i qs c _ l refl refl) in
      closed
      (renamed-closed _ _ _ _ _ (ap (λ v. two v z) r.is) (simp append_assoc)
      (done u Form.SetFilter Conversion.Keep
      (went c Conversion.AsBound (pushed (brace-start t p k) refl) r.part (mark-role c _ l refl) (rw (r.member, l)) (refl, refl) refl)
      (gen d' Wait.FilterBody true (operand refl) (all-waits Wait.FilterBody (λ q. refl) (left_edge z)) (mark-follows i (right_edge z) u _ e refl refl))
      (mark-role u _ e refl) (rw (derives-shape d', e)) (refl, refl)))
  gen-spells (set_image {x = x} {bounds = bs} {a = a} {b = b} {inner = i} t c u k l e d n ds) w flag p fit f =
      let q : Begun w Wait.ImageBounds (x ∷ []) (t ∷ (a ++ c ∷ [])) i =
      went c Conversion.Keep (pushed (brace-start t p k) refl)
      (gen d Wait.BraceFirst true (operand refl) (all-waits Wait.BraceFirst (λ z. refl) (left_edge x)) (mark-follows i (right_edge x) c _ l refl refl))
      (mark-role c _ l refl) (image-colon x c (derives-shape d) (derives-member d n) l) (refl, refl) refl
      in
      let r : BoundsRead w (x ∷ []) bs (t ∷ (a ++ c ∷ [])) b i (Some u) (closes_with Form.SetImage) u =
      gen-bounds ds w Wait.ImageBounds Wait.ImageBounds Binding.Bound (x ∷ []) (t ∷ (a ++ c ∷ [])) u (closes_with Form.SetImage) image-bounds image-bounds (λ z s. rw (s, e)) (λ z s. rw (s, e)) (λ qs. mark-follows i qs u _ e refl refl) q
      in
      closed
      (renamed-closed _ _ _ _ _ r.is (image-spelled r.front r.b t a c b u r.spelled)
      (done u Form.SetImage Conversion.Keep r.begun (part-at r.v r.x r.b i (Some u) u r.plain.0 refl r.part) (mark-role u _ e refl) r.ends r.plain))
  gen-spells (function {bounds = bs} {y = y} {a = a} {b = b} {inner = i} t m u k l e ds d') w flag p fit f =
      let r : FunctionRead w bs (t ∷ []) a m i = gen-function ds w flag t m refl l (pushed (bracket-start t p k) refl) in
      closed
      (renamed-closed _ _ _ _ _ (trees-then r.qs y bs r.is) (function-spelled t a m b u)
      (done u Form.FunctionConstructor Conversion.Keep r.begun
      (gen d' Wait.FunctionBody true (operand refl) (all-waits Wait.FunctionBody (λ q. refl) (left_edge y)) (mark-follows i (right_edge y) u _ e refl refl))
      (mark-role u _ e refl) (rw (derives-shape d', e)) (refl, refl)))
  gen-spells (record_of {xs = xs} {a = a} {inner = i} t u k l ds) w flag p fit f =
      closed
      (gen-fields ds u refl l record-waits w [] (t ∷ [])
      (λ n m e g. went m Conversion.Drop (pushed (bracket-start t p k) refl) (name-part n e (Wait.SquareFirst flag) i (Some m) refl (ap continues g)) (mark-role m _ g refl) (square-move flag (name-identifier n) m _ refl (plain-maps flag n m g)) (refl, refl) refl))
  gen-spells (record_set {xs = xs} {a = a} {inner = i} t u k l ds) w flag p fit f =
      closed
      (gen-fields ds u refl l record-set-waits w [] (t ∷ [])
      (λ n m e g. went m Conversion.Drop (pushed (bracket-start t p k) refl) (name-part n e (Wait.SquareFirst flag) i (Some m) refl (ap continues g)) (mark-role m _ g refl) (square-move flag (name-identifier n) m _ refl (plain-colon flag n m g)) (refl, refl) refl))
  gen-spells (except {x = x} {xs = xs} {a = a} {b = b} {inner = i} t v u k l e d ds) w flag p fit f =
      let q : Begun w Wait.ExceptUpdates (x ∷ []) (t ∷ (a ++ v ∷ [])) i =
      went v Conversion.Keep (pushed (bracket-start t p k) refl)
      (gen d (Wait.SquareFirst flag) true (operand refl) (all-waits (Wait.SquareFirst flag) (λ z. refl) (left_edge x)) (mark-follows i (right_edge x) v _ l refl refl))
      (mark-role v _ l refl) (square-move flag x v _ (derives-shape d) (in-square flag (shape x) v (ap is_comma l) (ap is_maps_to l) (ap is_colon l) ∙ rw l)) (refl, refl) refl
      in
      closed
      (renamed-closed _ _ _ _ _ refl (function-spelled t a v b u)
      (gen-updates ds u refl e w (x ∷ []) (t ∷ (a ++ v ∷ [])) q))
  gen-spells (let_in {w = v} {xs = xs} {x = x} {a = a} {b = b} {inner = i} {next = o} t k l ds d) w true (operand hw) fit f =
      let r : DefinitionsRead w [] xs (v ∷ []) a i (Some t) =
      gen-definitions ds (ends_let l) w [] (v ∷ []) (λ u rest e g. let-first w v u i (pushed (start-at w v _ hw k) refl) g)
      in
      renamed Form.Let (trees ((r.qs ++ r.x ∷ []) ++ x ∷ [])) (then xs x) ((r.front ++ (r.b ++ t ∷ [])) ++ b) (v ∷ (a ++ t ∷ b)) (trees-then (r.qs ++ r.x ∷ []) x xs r.is) (bounds-spelled r.front r.b v a t b r.spelled)
      (finished Form.Let
      (went t Conversion.Keep r.begun r.part (mark-role t _ l refl) (let-goes r.t r.x t r.helps l) (refl, refl) refl)
      (gen d Wait.LetBody true (operand refl) (all-waits Wait.LetBody (λ z. refl) (left_edge x)) (follows-tail i Open (right_edge x) o (open-then xs x i o f)))
      tt refl
      (ends-open Wait.LetBody x i Form.Let (right_edge x) o (derives-shape d) refl (λ n. refl) refl (open-then xs x i o f)))
  gen-spells _ w false (subscript h s) fit f = absurd s

  gen-fields : {mark : Mark} {xs : Trees} {a : List Lexeme} {i : ℕ} {o : Option Lexeme} → DerivesFields mark xs a i o → (u : Lexeme) → o ≡ Some u → IsMark u Mark.RightBracket → (r : FieldWaits mark) (w : Wait) (ps : List Tree) (c : List Lexeme) → ((n m : Lexeme) → IsName n → IsMark m mark → Begun w (r.value n m) ps (c ++ n ∷ m ∷ []) i) → Closed w (built r.form (joined (trees ps) xs) (c ++ (a ++ u ∷ []))) (c ++ (a ++ u ∷ [])) i
  gen-fields (last_field {inner = i} {next = o} (named {n = n} {m = m} {x = x} {a = b} k l d)) u q e r w ps c start =
      renamed-closed _ _ _ _ _ (trees-snoc ps (built (Form.Field n) (one x) (n ∷ m ∷ b))) (append_assoc c (n ∷ m ∷ []) (b ++ u ∷ []))
      (done u r.form (Conversion.AsField n m) (start n m k l)
      (part-at (r.value n m) x b i o u (r.out n m).0 q (gen d (r.value n m) true (operand (r.due n m)) (all-waits (r.value n m) (r.waits n m) (left_edge x)) (no-follow i (right_edge x) o u q (mark-follows i (right_edge x) u _ e refl refl))))
      (mark-role u _ e refl) (r.closes n m x u (derives-shape d) e) (r.out n m))
  gen-fields (more_fields {xs = xs} {b = b'} {inner = i} t h (named {n = n} {m = m} {x = x} {a = b} k l d) rest) u q e r w ps c start =
      let y : Tree = built (Form.Field n) (one x) (n ∷ m ∷ b) in
      let g : Begun w r.next (ps ++ y ∷ []) ((c ++ n ∷ m ∷ []) ++ (b ++ t ∷ [])) i =
      went t (Conversion.AsField n m) (start n m k l)
      (part-at (r.value n m) x b i (Some t) t (r.out n m).0 refl (gen d (r.value n m) true (operand (r.due n m)) (all-waits (r.value n m) (r.waits n m) (left_edge x)) (mark-follows i (right_edge x) t _ h refl refl)))
      (mark-role t _ h refl) (r.goes n m x t (derives-shape d) h) (r.out n m) r.own
      in
      renamed-closed _ _ _ _ _ (joined-snoc ps y xs) (simp append_assoc)
      (gen-fields rest u q e r w (ps ++ y ∷ []) ((c ++ n ∷ m ∷ []) ++ (b ++ t ∷ [])) (λ n' m' e' g'. r.again w (ps ++ y ∷ []) ((c ++ n ∷ m ∷ []) ++ (b ++ t ∷ [])) i n' m' e' g' g))

  gen-member : {y : Tree} {a : List Lexeme} {i : ℕ} {o : Option Lexeme} → DerivesBound y a i o → BindsOne y → (v : Wait) → MemberWait v → Ended i o → MemberRead v y a i o
  gen-member (bound {xs = xs} {x = x} {a = a} {b = b} {inner = i} {next = o} m k j d d') one v w f =
      let z : (n : Lexeme) × (xs ≡ Cons (name_leaf n) Nil) × (a ≡ n ∷ []) × IsName n = single-name d x (a ++ m ∷ b) one in
      let n : Lexeme = z.0 in
      let r : MemberRead v (built Form.Bound (two (name_leaf n) x) (n ∷ m ∷ b)) (n ∷ m ∷ b) i o =
      member-of-name v w n m z.3 k x b i o (derives-shape d')
      (gen d' (Wait.InfixOperand m) true (operand refl) (member-fit m k (left_edge x) j) (f (right_edge x))) f
      in
      subst (λ h. MemberRead v (built Form.Bound (then h x) (a ++ m ∷ b)) (a ++ m ∷ b) i o) (sym z.1)
      (subst (λ h. MemberRead v (built Form.Bound (two (name_leaf n) x) (h ++ m ∷ b)) (h ++ m ∷ b) i o) (sym z.2) r)
  gen-member (tuple_bound {x = x} {b = b} {inner = i} {next = o} m k j d d') one v w f =
      member-of-tuple d v w m k x b i o (derives-shape d')
      (gen d' (Wait.InfixOperand m) true (operand refl) (member-fit m k (left_edge x) j) (f (right_edge x))) f

  gen-first : {y : Tree} {a : List Lexeme} {i : ℕ} {o : Option Lexeme} → DerivesBound y a i o → (flag : Bool) → Ended i o → MemberRead (Wait.SquareFirst flag) y a i o ⊎ Part (Wait.FunctionNames flag) y a i o
  gen-first (tuple_bound {x = x} {b = b} {inner = i} {next = o} m k j d d') flag f =
      inl (member-of-tuple d (Wait.SquareFirst flag) (square-wait flag) m k x b i o (derives-shape d')
      (gen d' (Wait.InfixOperand m) true (operand refl) (member-fit m k (left_edge x) j) (f (right_edge x))) f)
  gen-first (bound {x = x} {b = b} {inner = i} {next = o} m k j (last_name {n = n} e) d') flag f =
      inl (member-of-name (Wait.SquareFirst flag) (square-wait flag) n m e k x b i o (derives-shape d')
      (gen d' (Wait.InfixOperand m) true (operand refl) (member-fit m k (left_edge x) j) (f (right_edge x))) f)
  gen-first (bound {x = x} {b = b} {inner = i} {next = o} m k j (more_names {n = n} {t = t} {xs = xs} {a = a} e l d) d') flag f =
      let q : Begun (Wait.FunctionNames flag) (Wait.BindingComma Binding.Bound) (name_leaf n ∷ []) (n ∷ t ∷ []) i =
      converted_part t flag (name-part n e (Wait.SquareFirst flag) i (Some t) refl (ap continues l)) (mark-role t _ l refl) (square-move flag (name-identifier n) t _ refl (rw l))
      in
      let r : NamesRead (Wait.FunctionNames flag) (Wait.BindingRead Binding.Bound) (name_leaf n ∷ []) xs (n ∷ t ∷ []) a i =
      read-names d (Wait.FunctionNames flag) (Wait.BindingRead Binding.Bound) (Wait.BindingComma Binding.Bound) (name_leaf n ∷ []) (n ∷ t ∷ []) i (binding-frame Binding.Bound refl) (λ n' e'. leafed n' (Form.Name n') q refl (rw e') refl refl)
      in
      inr (renamed Form.Bound (trees (r.qs ++ x ∷ [])) (then (Cons (name_leaf n) xs) x) (((n ∷ t ∷ a) ++ m ∷ []) ++ b) ((n ∷ t ∷ a) ++ m ∷ b) (trees-then r.qs x (Cons (name_leaf n) xs) r.is) (append_assoc (n ∷ t ∷ a) (m ∷ []) b)
      (finished Form.Bound
      (shifted m r.begun refl (rw k) refl refl)
      (gen d' Wait.BoundSet true (operand refl) (all-fit Wait.BoundSet (Operator Op.In Fix.Infix) bound-set-waits (left_edge x) j) (f (right_edge x)))
      tt refl
      (ends-open Wait.BoundSet x i Form.Bound [] o (derives-shape d') refl (λ z. refl) refl (f (Open ∷ [])))))

  gen-function : {xs : Trees} {a : List Lexeme} {i : ℕ} {o : Option Lexeme} → DerivesBounds xs a i o → (w : Wait) (flag : Bool) (t m : Lexeme) → o ≡ Some m → IsMark m Mark.MapsTo → Begun w (Wait.SquareFirst flag) [] (t ∷ []) i → FunctionRead w xs (t ∷ []) a m i
  gen-function (last_bound {x = x} {a = a} {inner = i} {next = o} d) w flag t m q k b =
      record {
        qs = x ∷ [];
        is = refl;
        begun = first-goes w flag t m x a i o Wait.FunctionBody q (mark-role m _ k refl) (bound-shape d) (λ e h. square-move flag e m _ (ap is_expression h) (ap (λ z. in_square flag z m) h ∙ rw k)) (rw (bound-shape d, k)) refl b (gen-first d flag (λ qs. no-follow i qs o m q (mark-follows i qs m _ k refl refl)));
      }
  gen-function (more_bounds {x = x} {xs = xs} {a = a} {b = a'} {inner = i} {next = o} t' l d rest) w flag t m q k b =
      let p : Begun w Wait.FunctionBounds (x ∷ []) (t ∷ (a ++ t' ∷ [])) i =
      first-goes w flag t t' x a i (Some t') Wait.FunctionBounds refl (mark-role t' _ l refl) (bound-shape d) (λ e h. square-move flag e t' _ (ap is_expression h) (ap (λ z. in_square flag z t') h ∙ rw l)) (rw (bound-shape d, l)) refl b (gen-first d flag (λ qs. mark-follows i qs t' _ l refl refl))
      in
      let r : BoundsRead w (x ∷ []) xs (t ∷ (a ++ t' ∷ [])) a' i o (keeps Wait.FunctionBody) m =
      gen-bounds rest w Wait.FunctionBounds Wait.FunctionBounds Binding.Bound (x ∷ []) (t ∷ (a ++ t' ∷ [])) m (keeps Wait.FunctionBody) function-bounds function-bounds (λ z s. rw (s, k)) (λ z s. rw (s, k)) (λ qs. no-follow i qs o m q (mark-follows i qs m _ k refl refl)) p
      in
      record {
        qs = r.qs ++ r.x ∷ [];
        is = r.is;
        begun = subst (λ z. Begun w Wait.FunctionBody (r.qs ++ r.x ∷ []) z i) (bounds-more r.front r.b t a t' a' m r.spelled)
            (went m Conversion.Keep r.begun (part-at r.v r.x r.b i o m r.plain.0 q r.part) (mark-role m _ k refl) r.ends r.plain refl);
      }

  gen-updates : {xs : Trees} {a : List Lexeme} {i : ℕ} {o : Option Lexeme} → DerivesUpdates xs a i o → (u : Lexeme) → o ≡ Some u → IsMark u Mark.RightBracket → (w : Wait) (ps : List Tree) (c : List Lexeme) → Begun w Wait.ExceptUpdates ps c i → Closed w (built Form.Except (joined (trees ps) xs) (c ++ (a ++ u ∷ []))) (c ++ (a ++ u ∷ [])) i
  gen-updates (last_update {x = x} {a = a} {inner = i} {next = o} d) u q e w ps c b =
      renamed-closed _ _ _ _ _ (trees-snoc ps x) refl
      (done u Form.Except Conversion.Keep b
      (part-at Wait.ExceptUpdates x a i o u refl q (gen-update d (λ qs. no-follow i qs o u q (mark-follows i qs u _ e refl refl))))
      (mark-role u _ e refl) (rw (update-shape d, e)) (refl, refl))
  gen-updates (more_updates {x = x} {xs = xs} {a = a} {b = a'} {inner = i} t k d rest) u q e w ps c b =
      renamed-closed _ _ _ _ _ (joined-snoc ps x xs) (simp append_assoc)
      (gen-updates rest u q e w (ps ++ x ∷ []) (c ++ (a ++ t ∷ []))
      (went t Conversion.Keep b (gen-update d (λ qs. mark-follows i qs t _ k refl refl)) (mark-role t _ k refl) (rw (update-shape d, k)) (refl, refl) refl))

  gen-update : {x : Tree} {a : List Lexeme} {i : ℕ} {o : Option Lexeme} → DerivesUpdate x a i o → Ended i o → Part Wait.ExceptUpdates x a i o
  gen-update (update {xs = xs} {x = x} {a = a} {b = b} {inner = i} {next = o} t e k l ds d) f =
      let q0 : Begun Wait.ExceptUpdates Wait.UpdateBang [] [] i = fresh_child (fresh Wait.UpdateBang) refl in
      let q : Begun Wait.ExceptUpdates Wait.StepFirst [] (t ∷ []) i = shifted {v = Wait.UpdateBang} t q0 refl (rw k) refl refl in
      let r : StepsRead [] xs (t ∷ []) a i = gen-steps ds Wait.StepFirst step-first [] (t ∷ []) q in
      renamed Form.Update (trees (r.qs ++ x ∷ [])) (then xs x) (((t ∷ a) ++ e ∷ []) ++ b) (t ∷ (a ++ e ∷ b)) (trees-then r.qs x xs r.is) (append_assoc (t ∷ a) (e ∷ []) b)
      (finished Form.Update
      (shifted {v = Wait.StepNext} e r.begun refl (rw l) refl refl)
      (gen d Wait.UpdateValue true (operand refl) (all-waits Wait.UpdateValue (λ z. refl) (left_edge x)) (f (right_edge x)))
      tt refl
      (ends-open Wait.UpdateValue x i Form.Update [] o (derives-shape d) refl (λ z. refl) refl (f (Open ∷ []))))

  gen-steps : {xs : Trees} {a : List Lexeme} {i : ℕ} → DerivesSteps xs a i → (v : Wait) → StepWait v → (ps : List Tree) (c : List Lexeme) → Begun Wait.ExceptUpdates v ps c i → StepsRead ps xs c a i
  gen-steps (last_step {x = x} {a = a} d) v h ps c b = record { qs = ps ++ x ∷ []; is = trees-snoc ps x; begun = gen-step d v h ps c b }
  gen-steps (more_steps {x = x} {xs = xs} {a = a} {b = a'} {inner = i} d rest) v h ps c b =
      let r : StepsRead (ps ++ x ∷ []) xs (c ++ a) a' i = gen-steps rest Wait.StepNext step-next (ps ++ x ∷ []) (c ++ a) (gen-step d v h ps c b) in
      record { qs = r.qs; is = r.is ∙ joined-snoc ps x xs; begun = subst (λ z. Begun Wait.ExceptUpdates Wait.StepNext r.qs z i) (append_assoc c a a') r.begun }

  gen-step : {x : Tree} {a : List Lexeme} {i : ℕ} → DerivesStep x a i → (v : Wait) → StepWait v → (ps : List Tree) (c : List Lexeme) → Begun Wait.ExceptUpdates v ps c i → Begun Wait.ExceptUpdates Wait.StepNext (ps ++ x ∷ []) (c ++ a) i
  gen-step (field_step {t = t} {h = n} {inner = i} k l) v h ps c b =
      let q : Begun Wait.ExceptUpdates Wait.StepField ps (c ++ t ∷ []) i = shifted t b (h.quiet t) (h.dot t k) h.out refl in
      subst (λ z. Begun Wait.ExceptUpdates Wait.StepNext (ps ++ built (Form.FieldStep n) Nil (n ∷ []) ∷ []) z i) (append_assoc c (t ∷ []) (n ∷ []))
      (leafed {v = Wait.StepField} n (Form.FieldStep n) q refl (rw l) refl refl)
  gen-step (index_step {xs = xs} {a = a} {inner = i} t u k l d) v h ps c b =
      absorbed_part b
      (subst (λ z. Closed v (built Form.IndexStep xs (t ∷ (a ++ u ∷ []))) (t ∷ (a ++ u ∷ [])) z) (step-inside v i h.out)
      (gen-list d u refl (mark-follows i [] u _ l refl refl) (λ j qs. mark-follows j qs u _ l refl refl) (mark-role u _ l refl) Form.IndexStep v Wait.IndexPart Wait.IndexPart [] (t ∷ []) (index-listing u l) (index-listing u l) (pushed_mark (h.quiet t) (h.bracket t k) refl)))
      h.absorbed h.out

  gen-definitions : {xs : Trees} {a : List Lexeme} {i : ℕ} {o : Option Lexeme} → DerivesDefinitions xs a i o → Closing o → (w : Wait) (ps : List Tree) (c : List Lexeme) → ((t : Lexeme) (rest : List Lexeme) → a ≡ t ∷ rest → IsFirst t → Begun w (Wait.Handing Handed.Definition t) ps c i) → DefinitionsRead w ps xs c a i o
  gen-definitions (last_definition {x = x} {a = a} {inner = i} {next = o} d) f w ps c start =
      let r : DefinitionRead x a i o = gen-definition d f in
      record { t = r.t; qs = ps; front = c; x = x; b = a; begun = start r.t r.rest r.begins r.first; part = r.part; helps = r.helps; is = trees-snoc ps x; spelled = refl }
  gen-definitions (more_definitions {x = x} {xs = xs} {a = a} {b = b} {inner = i} {next = o} t d rest) f w ps c start =
      let h : IsFirst t = first-of t b (definitions-beginning rest) in
      let r : DefinitionRead x a i (Some t) = gen-definition d (first-closes t h) in
      let q : Begun w (Wait.Handing Handed.Definition t) (ps ++ x ∷ []) (c ++ a) i =
      handed_part t Handed.Definition (start r.t (r.rest ++ t ∷ b) (ap (λ z. z ++ t ∷ b) r.begins) r.first) r.part (first-role t h) (definition-goes r.t x t r.helps h) (refl, refl)
      in
      let s : DefinitionsRead w (ps ++ x ∷ []) xs (c ++ a) (t ∷ b) i o =
      gen-definitions rest f w (ps ++ x ∷ []) (c ++ a) (λ u rest' e g. (let z : t ≡ u = cc in subst (λ y. Begun w (Wait.Handing Handed.Definition y) (ps ++ x ∷ []) (c ++ a) i) z q))
      in
      record { t = s.t; qs = s.qs; front = s.front; x = s.x; b = s.b; begun = s.begun; part = s.part; helps = s.helps; is = s.is ∙ joined-snoc ps x xs; spelled = s.spelled ∙ append_assoc c a (t ∷ b) }

  gen-definition : {x : Tree} {a : List Lexeme} {i : ℕ} {o : Option Lexeme} → DerivesDefinition x a i o → Closing o → DefinitionRead x a i o
  gen-definition (operator_definition {n = n} {xs = xs} {x = x} {a = a} {b = b} {inner = i} {next = o} d h k e) c =
      let f : Ended i o = closing-follows i o c in
      let r : HeadRead n xs a d i = read-head h d i k in
      record {
        t = n;
        rest = r.rest ++ d ∷ b;
        begins = ap (λ z. z ++ d ∷ b) r.begins;
        first = inl r.name;
        helps = refl;
        part = renamed (Form.OperatorDefinition n) (trees (r.qs ++ x ∷ [])) (then xs x) ((a ++ d ∷ []) ++ b) (a ++ d ∷ b) (trees-then r.qs x xs r.is) (append_assoc a (d ∷ []) b)
            (finished (Form.OperatorDefinition n) r.begun
            (gen e (Wait.DefinitionBody n) true (operand refl) (all-waits (Wait.DefinitionBody n) (λ z. refl) (left_edge x)) (f (right_edge x)))
            tt refl
            (ends-open (Wait.DefinitionBody n) x i (Form.OperatorDefinition n) [] o (derives-shape e) refl (λ z. refl) refl (f (Open ∷ []))));
      }
  gen-definition (prefix_operator {t = t} {n = n} {d = d} {x = x} {a = a} {inner = i} {next = o} k l m e) c =
      let f : Ended i o = closing-follows i o c in
      let q1 : Begun (Wait.Handing Handed.Definition t) (Wait.PrefixDefine t) (name_leaf n ∷ []) (t ∷ n ∷ []) i = leafed {v = Wait.PrefixName t} n (Form.Name n) (prefix-begun t i k) refl (rw l) refl refl in
      let q2 : Begun (Wait.Handing Handed.Definition t) (Wait.PrefixBody t) (name_leaf n ∷ []) (t ∷ n ∷ d ∷ []) i = shifted {v = Wait.PrefixDefine t} d q1 refl (rw m) refl refl in
      record {
        t = t;
        rest = n ∷ d ∷ a;
        begins = refl;
        first = inr k;
        helps = refl;
        part = finished (Form.PrefixDefinition t) q2
            (gen e (Wait.PrefixBody t) true (operand refl) (all-waits (Wait.PrefixBody t) (λ z. refl) (left_edge x)) (f (right_edge x)))
            tt refl
            (ends-open (Wait.PrefixBody t) x i (Form.PrefixDefinition t) [] o (derives-shape e) refl (λ z. refl) refl (f (Open ∷ [])));
      }
  gen-definition (infix_operator {op = op} {m = m} {t = t} {n = n} {d = d} {x = x} {a = a} {inner = i} {next = o} k l h g e' e) c =
      let f : Ended i o = closing-follows i o c in
      let z : defines Fix.Infix t.kind ≡ true = ap (defines Fix.Infix) l ∙ h in
      let q1 : Begun (Wait.Handing Handed.Definition m) (Wait.InfixName t) (name_leaf m ∷ []) (m ∷ t ∷ []) i = leafed_of {v = Wait.DefinitionName m} t m (Form.Name m) (name-begun m i k) refl (symbol-head m t op l (Wait.InfixName t) z) refl refl in
      let q2 : Begun (Wait.Handing Handed.Definition m) (Wait.InfixDefine t) (name_leaf m ∷ name_leaf n ∷ []) (m ∷ t ∷ n ∷ []) i = leafed {v = Wait.InfixName t} n (Form.Name n) q1 refl (rw g) refl refl in
      let q3 : Begun (Wait.Handing Handed.Definition m) (Wait.InfixBody t) (name_leaf m ∷ name_leaf n ∷ []) (m ∷ t ∷ n ∷ d ∷ []) i = shifted {v = Wait.InfixDefine t} d q2 refl (rw e') refl refl in
      record {
        t = m;
        rest = t ∷ n ∷ d ∷ a;
        begins = refl;
        first = inl k;
        helps = refl;
        part = finished (Form.InfixDefinition t) q3
            (gen e (Wait.InfixBody t) true (operand refl) (all-waits (Wait.InfixBody t) (λ z. refl) (left_edge x)) (f (right_edge x)))
            tt refl
            (ends-open (Wait.InfixBody t) x i (Form.InfixDefinition t) [] o (derives-shape e) refl (λ z. refl) refl (f (Open ∷ [])));
      }
  gen-definition (postfix_operator {op = op} {m = m} {t = t} {d = d} {x = x} {a = a} {inner = i} {next = o} k l h e' e) c =
      let f : Ended i o = closing-follows i o c in
      let q1 : Begun (Wait.Handing Handed.Definition m) (Wait.PostfixDefine t) (name_leaf m ∷ []) (m ∷ t ∷ []) i = leafed_of {v = Wait.DefinitionName m} t m (Form.Name m) (name-begun m i k) refl (postfix-head m t op l h) refl refl in
      let q3 : Begun (Wait.Handing Handed.Definition m) (Wait.PostfixBody t) (name_leaf m ∷ []) (m ∷ t ∷ d ∷ []) i = shifted {v = Wait.PostfixDefine t} d q1 refl (rw e') refl refl in
      record {
        t = m;
        rest = t ∷ d ∷ a;
        begins = refl;
        first = inl k;
        helps = refl;
        part = finished (Form.PostfixDefinition t) q3
            (gen e (Wait.PostfixBody t) true (operand refl) (all-waits (Wait.PostfixBody t) (λ z. refl) (left_edge x)) (f (right_edge x)))
            tt refl
            (ends-open (Wait.PostfixBody t) x i (Form.PostfixDefinition t) [] o (derives-shape e) refl (λ z. refl) refl (f (Open ∷ [])));
      }
  gen-definition (function_of {n = n} {t = t} {bounds = bs} {x = x} {a = a} {b = b} {inner = i} {next = o} u d k l m e' ds e) c =
      let f : Ended i o = closing-follows i o c in
      let q0 : Begun (Wait.Handing Handed.Definition n) (Wait.FunctionHeadBounds n) [] (n ∷ t ∷ []) i = shifted {v = Wait.DefinitionName n} t (name-begun n i k) refl (rw l) refl refl in
      let r : BoundsRead (Wait.Handing Handed.Definition n) [] bs (n ∷ t ∷ []) a i (Some u) (keeps (Wait.FunctionHeadDefine n)) u =
      gen-bounds ds (Wait.Handing Handed.Definition n) (Wait.FunctionHeadBounds n) (Wait.FunctionHeadBounds n) Binding.Bound [] (n ∷ t ∷ []) u (keeps (Wait.FunctionHeadDefine n)) (head-bounds n) (head-bounds n) (λ z s. rw (s, m)) (λ z s. rw (s, m)) (λ qs. mark-follows i qs u _ m refl refl) q0
      in
      let q1 : Begun (Wait.Handing Handed.Definition n) (Wait.FunctionHeadDefine n) (r.qs ++ r.x ∷ []) (r.front ++ (r.b ++ u ∷ [])) i =
      went u Conversion.Keep r.begun (part-at r.v r.x r.b i (Some u) u r.plain.0 refl r.part) (mark-role u _ m refl) r.ends r.plain refl
      in
      let q2 : Begun (Wait.Handing Handed.Definition n) (Wait.FunctionHeadBody n) (r.qs ++ r.x ∷ []) ((r.front ++ (r.b ++ u ∷ [])) ++ d ∷ []) i = shifted {v = Wait.FunctionHeadDefine n} d q1 refl (rw e') refl refl in
      record {
        t = n;
        rest = t ∷ (a ++ u ∷ d ∷ b);
        begins = refl;
        first = inl k;
        helps = refl;
        part = renamed (Form.FunctionDefinition n) (trees ((r.qs ++ r.x ∷ []) ++ x ∷ [])) (then bs x) (((r.front ++ (r.b ++ u ∷ [])) ++ d ∷ []) ++ b) (n ∷ t ∷ (a ++ u ∷ d ∷ b)) (trees-then (r.qs ++ r.x ∷ []) x bs r.is) (head-spelled r.front r.b n t a u d b r.spelled)
            (finished (Form.FunctionDefinition n) q2
            (gen e (Wait.FunctionHeadBody n) true (operand refl) (all-waits (Wait.FunctionHeadBody n) (λ z. refl) (left_edge x)) (f (right_edge x)))
            tt refl
            (ends-open (Wait.FunctionHeadBody n) x i (Form.FunctionDefinition n) [] o (derives-shape e) refl (λ z. refl) refl (f (Open ∷ []))));
      }
  gen-definition (module_of {n = n} {xs = xs} {x = x} {a = a} {b = b} {inner = i} {next = o} d h k e) c =
      let r : HeadRead n xs a d i = read-head h d i k in
      record {
        t = n;
        rest = r.rest ++ d ∷ b;
        begins = ap (λ z. z ++ d ∷ b) r.begins;
        first = inl r.name;
        helps = refl;
        part = renamed (Form.ModuleDefinition n) (trees (r.qs ++ x ∷ [])) (then xs x) ((a ++ d ∷ []) ++ b) (a ++ d ∷ b) (trees-then r.qs x xs r.is) (append_assoc a (d ∷ []) b)
            (finished (Form.ModuleDefinition n) r.begun (gen-instance e c n) tt refl
            (ends-closing (Wait.DefinitionBody n) x i (Form.ModuleDefinition n) o refl (rw (instance-shape e)) (λ z g. rw (instance-shape e)) c));
      }

  gen-instance : {x : Tree} {a : List Lexeme} {i : ℕ} {o : Option Lexeme} → DerivesInstance x a i o → Closing o → (n : Lexeme) → Part (Wait.DefinitionBody n) x a i o
  gen-instance (without {w = v} {m = m} {inner = i} {next = o} k l) c n =
      let q0 : Begun (Wait.DefinitionBody n) Wait.InstanceModule [] (v ∷ []) i = pushed_mark (rw k) (rw k) refl in
      headed (Form.Instance m) (shifted {v = Wait.InstanceModule} m q0 refl (instance-name m l) refl refl) (instance-ends m i o c)
  gen-instance (with_replacements {w = v} {m = m} {t = t} {inner = i} {next = o} k l e ds) c n =
      let q0 : Begun (Wait.DefinitionBody n) Wait.InstanceModule [] (v ∷ []) i = pushed_mark (rw k) (rw k) refl in
      let q1 : Begun (Wait.DefinitionBody n) (Wait.InstanceNamed m) [] (v ∷ m ∷ []) i = shifted {v = Wait.InstanceModule} m q0 refl (instance-name m l) refl refl in
      let q2 : Begun (Wait.DefinitionBody n) (Wait.Replacements m) [] (v ∷ m ∷ t ∷ []) i = shifted {v = Wait.InstanceNamed m} t q1 refl (rw e) refl refl in
      gen-replacements ds c n m [] (v ∷ m ∷ t ∷ []) q2

  gen-replacements : {xs : Trees} {a : List Lexeme} {i : ℕ} {o : Option Lexeme} → DerivesReplacements xs a i o → Closing o → (n m : Lexeme) (ps : List Tree) (c : List Lexeme) → Begun (Wait.DefinitionBody n) (Wait.Replacements m) ps c i → Part (Wait.DefinitionBody n) (built (Form.Instance m) (joined (trees ps) xs) (c ++ a)) (c ++ a) i o
  gen-replacements (last_replacement {x = x} {inner = i} {next = o} d) f n m ps c b =
      renamed _ _ _ _ _ (trees-snoc ps x) refl
      (finished (Form.Instance m) b (gen-replacement d m (closing-follows i o f)) tt refl
      (ends-closing (Wait.Replacements m) x i (Form.Instance m) o refl (rw (replacement-shape d)) (λ t g. rw (replacement-shape d, g)) f))
  gen-replacements (more_replacements {x = x} {xs = xs} {a = a} {b = a'} {inner = i} t k d rest) f n m ps c b =
      renamed _ _ _ _ _ (joined-snoc ps x xs) (simp append_assoc)
      (gen-replacements rest f n m (ps ++ x ∷ []) (c ++ (a ++ t ∷ []))
      (went t Conversion.Keep b (gen-replacement d m (λ qs. mark-follows i qs t _ k refl refl)) (mark-role t _ k refl) (rw (replacement-shape d, k)) (refl, refl) refl))

  gen-replacement : {x : Tree} {a : List Lexeme} {i : ℕ} {o : Option Lexeme} → DerivesReplacement x a i o → (m : Lexeme) → Ended i o → Part (Wait.Replacements m) x a i o
  gen-replacement (replaced {n = n} {t = t} {x = x} {a = a} {inner = i} {next = o} k l d) m f =
      finished (Form.Replacement n) (replacement-begun m n t i k l)
      (gen d (Wait.ReplacementRight n) true (operand refl) (all-waits (Wait.ReplacementRight n) (λ z. refl) (left_edge x)) (f (right_edge x)))
      tt refl
      (ends-open (Wait.ReplacementRight n) x i (Form.Replacement n) [] o (derives-shape d) refl (λ z. refl) refl (f (Open ∷ [])))
  gen-replacement (replaced_by_symbol {op = op} {n = n} {t = t} {s = s} {inner = i} {next = o} k l e h) m f =
      headed (Form.Replacement n)
      (leafed {v = Wait.ReplacementRight n} s (Form.Symbol s) (replacement-begun m n t i k l) (given-quiet op s e h) (given-move n s op e h) refl refl)
      (symbol-right-ends n i o)

  gen-path : {xs : Trees} {a : List Lexeme} {i : ℕ} → DerivesSegments xs a i → (w : Wait) (ps : List Tree) (c : List Lexeme) (o : Option Lexeme) → NoMore o → ((n : Lexeme) → IsName n → Begun w (Wait.Handing Handed.Segment n) ps c i) → Part w (built Form.Identifier (joined (trees ps) xs) (c ++ a)) (c ++ a) i o
  gen-path (last_segment {x = x} {inner = i} d) w ps c o f start =
      let r : SegmentRead x _ i o = gen-segment d o (more-paren o f) in
      renamed _ _ _ _ _ (trees-snoc ps x) refl (finished Form.Identifier (start r.n r.name) r.part tt refl (path-ends r.n x i o r.helps f))
  gen-path (more_segments {x = x} {xs = xs} {a = a} {b = b} {inner = i} t k d d') w ps c o f start =
      let r : SegmentRead x a i (Some t) = gen-segment d (Some t) (ap is_left_paren k) in
      let p : Begun w Wait.IdentifierBang (ps ++ x ∷ []) (c ++ (a ++ t ∷ [])) i = went t Conversion.Keep (start r.n r.name) r.part (mark-role t _ k refl) (path-goes r.n x t r.helps k) (refl, refl) refl in
      renamed _ _ _ _ _ (joined-snoc ps x xs) (simp append_assoc)
      (gen-path d' w (ps ++ x ∷ []) (c ++ (a ++ t ∷ [])) o f (λ n e. handed_mark n Handed.Segment p refl (rw e) refl))

  gen-segment : {x : Tree} {a : List Lexeme} {i : ℕ} → DerivesSegment x a i → (o : Option Lexeme) → NoParen o → SegmentRead x a i o
  gen-segment (bare {n = n} {inner = i} k) o f = record { n = n; name = k; part = bare-segment n i o f; helps = refl }
  gen-segment (applied {n = n} {xs = xs} {a = a} {inner = i} t u k l m d) o f = record {
    n = n;
    name = k;
    helps = refl;
    part = closed (gen-arguments d u refl (mark-role u _ m refl) m n [] (n ∷ t ∷ []) (shifted t (fresh_child (handed Handed.Segment n) refl) refl (rw l) refl refl));
  }

  gen-arguments : {xs : Trees} {a : List Lexeme} {i : ℕ} {o : Option Lexeme} → DerivesArguments xs a i o → (u : Lexeme) → o ≡ Some u → is_operator (role u.kind) ≡ false → IsMark u Mark.RightParen → (n : Lexeme) (ps : List Tree) (c : List Lexeme) → Begun (Wait.Handing Handed.Segment n) (Wait.Argument n) ps c i → Closed (Wait.Handing Handed.Segment n) (built (Form.Segment n) (joined (trees ps) xs) (c ++ (a ++ u ∷ []))) (c ++ (a ++ u ∷ [])) i
  gen-arguments (last_argument {x = x} {a = a} {inner = i} {next = o} (expression d)) u q r m n ps c b =
      renamed-closed _ _ _ _ _ (trees-snoc ps x) refl
      (done u (Form.Segment n) Conversion.Keep b
      (part-at (Wait.Argument n) x a i o u refl q (gen d (Wait.Argument n) true (operand refl) (all-waits (Wait.Argument n) (λ z. refl) (left_edge x)) (no-follow i (right_edge x) o u q (mark-follows i (right_edge x) u _ m refl refl))))
      r (rw (derives-shape d, m)) (refl, refl))
  gen-arguments (last_argument (passed {op = op} {t = t} {inner = i} k h)) u q r m n ps c b = symbol-last n t u op i ps c k h m b
  gen-arguments (more_arguments {x = x} {xs = xs} {a = a} {b = a'} {inner = i} t e (expression d) rest) u q r m n ps c b =
      renamed-closed _ _ _ _ _ (joined-snoc ps x xs) (simp append_assoc)
      (gen-arguments rest u q r m n (ps ++ x ∷ []) (c ++ (a ++ t ∷ []))
      (went t Conversion.Keep b
      (gen d (Wait.Argument n) true (operand refl) (all-waits (Wait.Argument n) (λ z. refl) (left_edge x)) (mark-follows i (right_edge x) t _ e refl refl))
      (mark-role t _ e refl) (rw (derives-shape d, e)) (refl, refl) refl))
  gen-arguments (more_arguments {xs = xs} {b = a'} {inner = i} t e (passed {op = op} {t = s} k h) rest) u q r m n ps c b =
      renamed-closed _ _ _ _ _ (joined-snoc ps (symbol-leaf s) xs) (simp append_assoc)
      (gen-arguments rest u q r m n (ps ++ symbol-leaf s ∷ []) (c ++ (s ∷ t ∷ [])) (symbol-next n s t op i ps c k h e b))

  gen-arms : {xs : Trees} {a : List Lexeme} {i : ℕ} {o : Option Lexeme} → DerivesArms xs a i o → (w : Wait) (ps : List Tree) (c : List Lexeme) → Begun w Wait.CaseArms ps c i → Follows i (Open ∷ right_edge_of_last xs) o → Part w (built Form.Case (joined (trees ps) xs) (c ++ a)) (c ++ a) i o
  gen-arms (last_arm {x = x} {inner = i} {next = o} d m) w ps c b f =
      renamed _ _ _ _ _ (trees-snoc ps x) refl
      (finished Form.Case b (gen-arm d (follows-tail i Open (right_edge x) o f)) tt refl (arms-end x i (right_edge x) o (arm-shape d) m f))
  gen-arms (other_arm {w = v} {t = t} {x = x} {a = a} {inner = i} {next = o} k l d) w ps c b f =
      let y : Tree = built Form.OtherArm (one x) (v ∷ t ∷ a) in
      let g : Follows i (Open ∷ right_edge x) o = follows-tail i Open (Open ∷ right_edge x) o f in
      let q0 : Begun Wait.CaseArms Wait.ArmGuard [] [] i = fresh_child (fresh Wait.ArmGuard) refl in
      let q1 : Begun Wait.CaseArms Wait.OtherArrow [] (v ∷ []) i = shifted {v = Wait.ArmGuard} v q0 (rw k) (rw k) refl refl in
      let q : Begun Wait.CaseArms Wait.OtherBody [] (v ∷ t ∷ []) i = shifted {v = Wait.OtherArrow} t q1 refl (rw l) refl refl in
      renamed _ _ _ _ _ (trees-snoc ps y) refl
      (finished Form.Case b
      (finished Form.OtherArm q
      (gen d Wait.OtherBody true (operand refl) (all-waits Wait.OtherBody (λ q. refl) (left_edge x)) (follows-tail i Open (right_edge x) o g))
      tt refl
      (ends-open Wait.OtherBody x i Form.OtherArm (right_edge x) o (derives-shape d) refl (λ n. refl) refl g))
      tt refl (other-arm-ends y i (Open ∷ right_edge x) o refl f))
  gen-arms (more_arms {x = x} {xs = xs} {a = a} {b = a'} {inner = i} {next = o} t k d rest) w ps c b f =
      renamed _ _ _ _ _ (joined-snoc ps x xs) (simp append_assoc)
      (gen-arms rest w (ps ++ x ∷ []) (c ++ (a ++ t ∷ []))
      (went t Conversion.Keep b (gen-arm d (mark-follows i (right_edge x) t _ k refl refl)) (mark-role t _ k refl) (rw (arm-shape d, k)) (refl, refl) refl)
      (follows-none i (Open ∷ right_edge_of_last (Cons x xs)) (Open ∷ right_edge_of_last xs) o (ap (λ z. Open ∷ z) (last-arms rest x)) f))

  gen-arm : {x : Tree} {a : List Lexeme} {i : ℕ} {o : Option Lexeme} → DerivesArm x a i o → Follows i (right_edge x) o → Part Wait.CaseArms x a i o
  gen-arm (arm {x = x} {y = y} {a = a} {b = b} {inner = i} {next = o} t k d d') f =
      renamed _ _ _ _ _ refl (append_assoc a (t ∷ []) b)
      (finished Form.Arm
      (went t Conversion.Keep (fresh_child (fresh Wait.ArmGuard) refl)
      (gen d Wait.ArmGuard true (operand refl) (all-waits Wait.ArmGuard (λ q. refl) (left_edge x)) (mark-follows i (right_edge x) t _ k refl refl))
      (mark-role t _ k refl) (rw (derives-shape d, k)) (refl, refl) refl)
      (gen d' Wait.ArmBody true (operand refl) (all-waits Wait.ArmBody (λ q. refl) (left_edge y)) (follows-tail i Open (right_edge y) o f))
      tt refl
      (ends-open Wait.ArmBody y i Form.Arm (right_edge y) o (derives-shape d') refl (λ n. refl) refl f))

  gen-items : {first : Lexeme} {xs : Trees} {l : List Lexeme} {o : Option Lexeme} → DerivesItems first xs l o → (w v : Wait) (ps : List Tree) (c : List Lexeme) (i : ℕ) → list_of v ≡ Some first → ends_with v ≡ Some (Form.JunctionList first) → ((sh : Shape) (n : Lexeme) → after_expression v sh n ≡ PartMove.Refused) → ((q : Edge) → choice v q ≡ Choice.Waits) → mode v ≡ Mode.Operand → i ≤ first.col → MayFollow first o → NoMore o → absorbs v ≡ None → ((t : Lexeme) (rest : List Lexeme) → l ≡ t ∷ rest → Begun w v ps (c ++ t ∷ []) i) → Part w (built (Form.JunctionList first) (joined (trees ps) xs) (c ++ l)) (c ++ l) i o
  gen-items (last_item {first = first} {t = t} {x = x} {a = a} {next = o} g r d) w v ps c i l e after waits due deep f m own b =
      renamed _ _ _ _ _ (trees-snoc ps x) (append_assoc c (t ∷ []) a)
      (finished (Form.JunctionList first) (b t a refl)
      (item-part v first x a i o l deep (gen d v true (operand due) (all-waits v waits (left_edge x)) (item-follows first (right_edge x) o f m)))
      (item-in (list_of v) first i a l deep r) own
      (list-ends v first x i o l e (after (shape x)) (derives-shape d) f))
  gen-items (more_items {first = first} {t = t} {x = x} {xs = xs} {a = a} {b = a'} {next = o} u g r d rest) w v ps c i l e after waits due deep f m own b =
      let g' : GoesOn first u = items-first rest u a' refl in
      let q : Begun w (Wait.ListItem first) (ps ++ x ∷ []) ((c ++ t ∷ []) ++ (a ++ u ∷ [])) i =
      next_item first u (b t (a ++ u ∷ a') refl) l
      (item-part v first x a i (Some u) l deep (gen d v true (operand due) (all-waits v waits (left_edge x)) (column-follows (suc first.col) (right_edge x) u (bullet-continues u g'.0) (omega (arith, g'.2)))))
      deep r own (derives-shape d) (goes-on first u g') g'.2
      in
      renamed _ _ _ _ _ (joined-snoc ps x xs) (simp append_assoc)
      (gen-items rest w (Wait.ListItem first) (ps ++ x ∷ []) (c ++ (t ∷ a)) i refl refl (λ sh n. refl) (λ z. refl) refl deep f m refl
      (λ u' rest' e'. (let z : u ≡ u' = cc in subst (λ y. Begun w (Wait.ListItem first) (ps ++ x ∷ []) ((c ++ (t ∷ a)) ++ y ∷ []) i) z (subst (λ y. Begun w (Wait.ListItem first) (ps ++ x ∷ []) y i) (item-spelled c t a u) q))))

  pub gen-bound : {y : Tree} {a : List Lexeme} {i : ℕ} {o : Option Lexeme} → DerivesBound y a i o → (w : Wait) (b : Binding) → child w ≡ Some (fresh (Wait.BindingStart b)) → takes_set b ≡ true → (takes_more b ≡ true) ⊎ BindsOne y → Ended i o → Part w y a i o
  gen-bound (bound {xs = xs} {x = x} {a = a} {b = c} {inner = i} {next = o} m k j d d') w b h s one f =
      let r : NamesRead w (Wait.BindingRead b) [] xs [] a i = bound-names d x (a ++ m ∷ c) w b i h one in
      renamed _ _ _ _ _ (trees-then r.qs x xs r.is) (append_assoc a (m ∷ []) c)
      (finished Form.Bound
      (shifted m r.begun refl (rw (k, s)) refl refl)
      (gen d' Wait.BoundSet true (operand refl) (all-fit Wait.BoundSet (Operator Op.In Fix.Infix) bound-set-waits (left_edge x) j) (f (right_edge x)))
      tt refl
      (ends-open Wait.BoundSet x i Form.Bound [] o (derives-shape d') refl (λ n. refl) refl (f (Open ∷ []))))
  gen-bound (tuple_bound {xs = xs} {x = x} {a = a} {b = c} {inner = i} {next = o} m k j d d') w b h s one f =
      let r : NamesRead w (Wait.TupleClosed b) [] xs [] a i = read-tuple d w b i h s in
      renamed _ _ _ _ _ (trees-then r.qs x xs r.is) (append_assoc a (m ∷ []) c)
      (finished Form.TupleBound
      (shifted m r.begun refl (rw k) refl refl)
      (gen d' Wait.TupleBoundSet true (operand refl) (all-fit Wait.TupleBoundSet (Operator Op.In Fix.Infix) tuple-set-waits (left_edge x) j) (f (right_edge x)))
      tt refl
      (ends-open Wait.TupleBoundSet x i Form.TupleBound [] o (derives-shape d') refl (λ n. refl) refl (f (Open ∷ []))))

  gen-bounds : {xs : Trees} {a : List Lexeme} {i : ℕ} {o : Option Lexeme} → DerivesBounds xs a i o → (w v v' : Wait) (b : Binding) (ps : List Tree) (c : List Lexeme) (t : Lexeme) (m : PartMove) → Bounding v v' b → Bounding v' v' Binding.Bound → ((x : Tree) → shape x ≡ Shape.Bound → at_part v (shape x) t ≡ m) → ((x : Tree) → shape x ≡ Shape.Bound → at_part v' (shape x) t ≡ m) → Ended i o → Begun w v ps c i → BoundsRead w ps xs c a i o m t
  gen-bounds (last_bound {x = x} {a = a} {inner = i} {next = o} d) w v v' b ps c t m l l' e e' f p = record {
    v = v;
    qs = ps;
    front = c;
    x = x;
    b = a;
    begun = p;
    part = gen-bound d v b l.starts l.sets (inl l.more) f;
    is = trees-snoc ps x;
    spelled = refl;
    ends = e x (bound-shape d);
    plain = l.plain;
  }
  gen-bounds (more_bounds {x = x} {xs = xs} {a = a} {b = a'} {inner = i} {next = o} u k d rest) w v v' b ps c t m l l' e e' f p =
      let q : Begun w v' (ps ++ x ∷ []) (c ++ (a ++ u ∷ [])) i =
      went u Conversion.Keep p
      (part-at v x a i (Some u) u l.plain.0 refl (gen-bound d v b l.starts l.sets (inl l.more) (λ qs. mark-follows i qs u _ k refl refl)))
      (mark-role u _ k refl) (l.goes x u (bound-shape d) k) l.plain l.own
      in
      let r : BoundsRead w (ps ++ x ∷ []) xs (c ++ (a ++ u ∷ [])) a' i o m t = gen-bounds rest w v' v' Binding.Bound (ps ++ x ∷ []) (c ++ (a ++ u ∷ [])) t m l' l' e' e' f q in
      record {
        v = r.v;
        qs = r.qs;
        front = r.front;
        x = r.x;
        b = r.b;
        begun = r.begun;
        part = r.part;
        is = r.is ∙ joined-snoc ps x xs;
        spelled = r.spelled ∙ simp append_assoc;
        ends = r.ends;
        plain = r.plain;
      }

  gen-factors : {xs : Trees} {a : List Lexeme} {i : ℕ} {o : Option Lexeme} → DerivesFactors xs a i o → (w : Wait) (ps : List Tree) (c : List Lexeme) → Begun w Wait.Factor ps c i → Follows i (product ∷ right_edge_of_last xs) o → Part w (built Form.Product (joined (trees ps) xs) (c ++ a)) (c ++ a) i o
  gen-factors (last_factor {x = x} {inner = i} {next = o} m d) w ps c b f =
      renamed _ _ _ _ _ (trees-snoc ps x) refl
      (finished Form.Product b
      (gen d Wait.Factor true (operand refl) (all-fit Wait.Factor product (λ q j. choose-waits product q j) (left_edge x) m) (follows-tail i product (right_edge x) o f))
      tt refl
      (ends-expression Wait.Factor x i Form.Product (product ∷ right_edge x) o (derives-shape d) refl (λ n. refl) (λ r s j. (let e : choice Wait.Factor (edge_of r) ≡ Choice.Ends = choose-ends product (edge_of r) j.0 in (ends-takes r e, e))) refl f))
  gen-factors (more_factors {x = x} {xs = xs} {a = a} {b = a'} {inner = i} {next = o} t k m j d rest) w ps c b f =
      let r : role t.kind ≡ Role.Symbol Op.Product Fix.Infix = ap role k in
      renamed _ _ _ _ _ (joined-snoc ps x xs) (simp append_assoc)
      (gen-factors rest w (ps ++ x ∷ []) (c ++ (a ++ t ∷ []))
      (next_factor t b
      (gen d Wait.Factor true (operand refl) (all-fit Wait.Factor product (λ q l. choose-waits product q l) (left_edge x) m) (operator-follows i (right_edge x) t (Role.Symbol Op.Product Fix.Infix) (ap continues k) r j))
      (ap is_operator r) (ap (λ z. takes Wait.Factor z) r) (derives-shape d) (refl, refl))
      (follows-none i (product ∷ right_edge_of_last (Cons x xs)) (product ∷ right_edge_of_last xs) o (ap (λ z. product ∷ z) (last-factors rest x)) f))

  gen-list : {xs : Trees} {a : List Lexeme} {i : ℕ} {o : Option Lexeme} → DerivesList xs a i o → (u : Lexeme) → o ≡ Some u → Follows i [] (Some u) → ((i : ℕ) (qs : List Edge) → Follows i qs (Some u)) → is_operator (role u.kind) ≡ false → (form : Form) (w v v' : Wait) (ps : List Tree) (c : List Lexeme) → Listing v v' form u → Listing v' v' form u → Begun w v ps c i → Closed w (built form (joined (trees ps) xs) (c ++ (a ++ u ∷ []))) (c ++ (a ++ u ∷ [])) i
  gen-list (last {x = x} {a = a} {inner = i} {next = o} d) u q f g r form w v v' ps c l l' b =
      renamed-closed form _ _ _ _ (trees-snoc ps x) refl
      (done u form Conversion.Keep b
      (part-at v x a i o u l.plain.0 q (gen d v true (operand l.due) (all-waits v l.waits (left_edge x)) (no-follow i (right_edge x) o u q (g i (right_edge x)))))
      r (l.closes x (derives-shape d)) l.plain)
  gen-list (more {x = x} {xs = xs} {a = a} {b = a'} {inner = i} t k d rest) u q f g r form w v v' ps c l l' b =
      renamed-closed form _ _ _ _ (joined-snoc ps x xs) (simp append_assoc)
      (gen-list rest u q f g r form w v' v' (ps ++ x ∷ []) (c ++ (a ++ t ∷ [])) l' l'
      (went t Conversion.Keep b
      (part-at v x a i (Some t) t l.plain.0 refl (gen d v true (operand l.due) (all-waits v l.waits (left_edge x)) (mark-follows i (right_edge x) t _ k refl refl)))
      (mark-role t _ k refl) (l.goes x t (derives-shape d) k) l.plain l.own))
