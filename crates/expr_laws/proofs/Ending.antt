-- A frame that ends keeps to the grammar.
use Rattle.std.proofs.Common.{◌≡◌, ℕ, suc, ◌<◌, ◌≤◌, Bool, true, false, List, [], ◌∷◌, ◌++◌, Option, Some, None, refl, ap, sym, subst, ◌∙◌, append_assoc, arith}
use Rattle.std.specs.Prelude.{cond, max, IsTrue, is_some, ◌||◌}
use Rattle.tla_symbols.specs.declared.op.Op.{Op}
use Rattle.tla_symbols.specs.declared.place.Fix.{Fix}
use Rattle.tla_symbols.specs.declared.lexeme.LexKind.{LexKind}
use Rattle.tla_symbols.specs.declared.lexeme.Mark.TheVariants as Mark
use Rattle.tla_symbols.specs.declared.lexeme.Lexeme.{Lexeme}
use Rattle.tla_symbols.specs.Symbols.{range_of}
use Rattle.tla_tree.specs.declared.form.Form.{Form}
use Rattle.tla_tree.specs.Syntax.{Tree, trees}
use Rattle.tla_tree.specs.Edges.{Edge, Operator, operator as edge, product, Meets, AllMeet, left_edge}
use Rattle.tla_tree.specs.Alignment.{GoesOn, From, takes_left, MayFollow, MayFollowArms}
use Rattle.tla_tree.specs.Shapes.{BindsOne, IsSubscript}
use Rattle.tla_tree.specs.Lexemes.{IsSymbol, built, one, joined}
use Rattle.tla_tree.specs.Derivation.{Derives, node, prefixed, infixed, products, quantifier, bounded_quantifier, temporal_quantifier, choose, bounded_choose, square, angle, if_then_else, case, let_in, junctions, identifier, DerivesFactors, last_factor, DerivesSegments, last_segment, DerivesSegment, DerivesBound, bound as of_names, tuple_bound, update as of_steps, DerivesArms, last_arm, other_arm as of_other, DerivesArm, arm as of_guard, DerivesItems, last_item, operator, prefix_operator, infix_operator, postfix_operator, function_of, module_of, DerivesInstance, with_replacements, DerivesReplacements, last_replacement, DerivesReplacement, replaced}
use Rattle.precedence.specs.Choices.{meets}
use Rattle.precedence.specs.declared.Choice.TheVariants as Choice
use Rattle.precedence.proofs.Orders.{waits-meets, true-meets}
use Rattle.expr_grammar.specs.declared.wait.Binding.{Binding}
use Rattle.expr_grammar.specs.declared.wait.Handed.TheVariants as Handed
use Rattle.expr_grammar.specs.declared.wait.Wait.{Wait}
use Rattle.expr_grammar.specs.declared.wait.Mode.{Mode}
use Rattle.expr_grammar.specs.declared.wait.PartMove.{PartMove}
use Rattle.expr_grammar.specs.declared.wait.Role.{Role}
use Rattle.expr_grammar.specs.declared.wait.Shape.{Shape}
use Rattle.expr_grammar.specs.Kinds.{is_always}
use Rattle.expr_grammar.specs.Tables.{mode, list_of, goes_on, role_of, role, edge_of, choice, shape, is_expression, takes_set, takes_more, name_leaf, ends_with, ends_with_part, finishes, if_goes, keeps, after_expression, after_part}
use Rattle.expr_grammar.specs.Machine.{inside, inside_list, is_operator}
use Rattle.expr_laws.proofs.Tabled.{IsNoBullet}
use Rattle.expr_laws.proofs.Asking.{AllFit, absurd-bool}
use Rattle.expr_laws.proofs.Naming.{goes-on, items-deep}
use Rattle.expr_laws.proofs.Starting.{derives-shape, trees-snoc}
use Rattle.expr_laws.proofs.Views.{Sort, sort, Stands, expression, symbol, instance, names, bound, arm, other_arm, segment, definition, parameter, replacement, update, step, HasRead, prefix_operand, infix_operand, factor, list_first, list_item, handing_segment, handing_definition, bound_set, tuple_bound_set, quantifier_body, bounded_body, temporal_body, choose_body, bounded_choose_body, square_subscript, angle_subscript, if_else, case_arms, arm_body, other_body, let_body, update_value, definition_body, prefix_body, infix_body, postfix_body, function_head_body, replacements, replacement_right, BoundFor}
use Rattle.expr_laws.proofs.Viewing.{trees-then, adds-close}
use Rattle.expr_laws.proofs.Marking.{operand-due, not-subscript}
use Rattle.expr_laws.proofs.Parting.{restand, names-shape, bound-of, segment-shape, definition-shape, step-shape}
use Rattle.expr_laws.proofs.PartShapes.{arm-shape, bound-shape, instance-shape, parameter-shape, replacement-shape, update-shape}

abbrev pub after : Wait → Tree → Lexeme → PartMove
after v x t = cond (is_expression (shape x)) (after_expression v (shape x) t) (after_part v (shape x) t)

-- why a frame ends round its last part
pub data Why (v : Wait) (x : Tree) (i : ℕ) : Option Lexeme → Type 0 where
  at_end : Why v x i None
  by_column : {n : Lexeme} → n.col < inside v i → IsNoBullet (list_of v) n → Why v x i (Some n)
  by_mark : {n : Lexeme} → inside v i ≤ n.col → is_operator (role n.kind) ≡ false → after v x n ≡ PartMove.Refused → Why v x i (Some n)
  by_operator : {n : Lexeme} → choice v (edge_of (role n.kind)) ≡ Choice.Ends → Why v x i (Some n)

-- what the frame makes then
abbrev pub EndOk : Wait → ℕ → List Tree → List Lexeme → Tree → List Lexeme → Option Lexeme → Option Form → Type 0
EndOk w i ps a x b o (Some form) = Stands w (built form (trees (ps ++ x ∷ [])) (a ++ b)) (a ++ b) i o
EndOk w i ps a x b o None = Unit {0}

assoc : (a : List Lexeme) (m : Lexeme) (b : List Lexeme) → a ++ m ∷ b ≡ (a ++ m ∷ []) ++ b
assoc a m b = sym (append_assoc a (m ∷ []) b)

meets-all : (v : Wait) (p : Edge) → ((q : Edge) → choice v q ≡ Choice.Waits → Meets p q) → (qs : List Edge) → AllFit v qs → AllMeet p qs
meets-all v p f [] h = tt
meets-all v p f (q ∷ qs) h = (f q h.0, meets-all v p f qs h.1)

-- the operands behind a symbol, and the sets behind `\in`
prefix-meets : (op : Op) (t : Lexeme) → IsSymbol t op → (qs : List Edge) → AllFit (Wait.PrefixOperand t) qs → AllMeet (Operator op Fix.Prefix) qs
prefix-meets op t k qs h = subst (λ z. AllMeet (edge z Fix.Prefix) qs) k (meets-all (Wait.PrefixOperand t) (edge t.kind Fix.Prefix) (λ q e. waits-meets (edge t.kind Fix.Prefix) q e) qs h)

infix-meets : (op : Op) (t : Lexeme) → IsSymbol t op → (qs : List Edge) → AllFit (Wait.InfixOperand t) qs → AllMeet (Operator op Fix.Infix) qs
infix-meets op t k qs h = subst (λ z. AllMeet (edge z Fix.Infix) qs) k (meets-all (Wait.InfixOperand t) (edge t.kind Fix.Infix) (λ q e. waits-meets (edge t.kind Fix.Infix) q e) qs h)

pub factor-meets : (qs : List Edge) → AllFit Wait.Factor qs → AllMeet product qs
factor-meets qs h = meets-all Wait.Factor product (λ q e. waits-meets product q e) qs h

set-waits : (b : Bool) → cond b Choice.Waits Choice.Clashes ≡ Choice.Waits → b ≡ true
set-waits true h = refl
set-waits false h = cc

set-meets : (qs : List Edge) → AllFit Wait.BoundSet qs → AllMeet (Operator Op.In Fix.Infix) qs
set-meets qs h = meets-all Wait.BoundSet (Operator Op.In Fix.Infix) (λ q e. true-meets (Operator Op.In Fix.Infix) q (set-waits (meets (Operator Op.In Fix.Infix) q) e)) qs h

tuple-meets : (qs : List Edge) → AllFit Wait.TupleBoundSet qs → AllMeet (Operator Op.In Fix.Infix) qs
tuple-meets qs h = meets-all Wait.TupleBoundSet (Operator Op.In Fix.Infix) (λ q e. true-meets (Operator Op.In Fix.Infix) q (set-waits (meets (Operator Op.In Fix.Infix) q) e)) qs h

-- what follows a list
role-operator : (op : Op) → IsTrue (is_some (range_of op Fix.Infix) || is_some (range_of op Fix.Postfix)) → is_operator (role_of op) ≡ false → ⊥
role-operator op h e = by (is_some (range_of op Fix.Infix)) (is_some (range_of op Fix.Postfix)) h e
  where
    by : (b c : Bool) → IsTrue (b || c) → is_operator (cond b (Role.Symbol op Fix.Infix) (cond c (Role.Symbol op Fix.Postfix) Role.Mark)) ≡ false → ⊥
    by true c k f = cc
    by false true k f = cc
    by false false k f = cc

takes-operator : (k : LexKind) → IsTrue (takes_left k) → is_operator (role k) ≡ false → ⊥
takes-operator (LexKind.Sym op) h e = role-operator op h e
takes-operator (LexKind.Mark Mark.LeftBracket) h e = cc
takes-operator (LexKind.Mark Mark.Dot) h e = cc
takes-operator _ h e = cc

list-waits : (v : Wait) (first : Lexeme) (q : Edge) → list_of v ≡ Some first → choice v q ≡ Choice.Ends → ⊥
list-waits (Wait.ListFirst t) first q l e = cc
list-waits (Wait.ListItem t) first q l e = cc
list-waits _ first q l e = cc

no-bullet : (m : Option Lexeme) (first n : Lexeme) → m ≡ Some first → IsNoBullet m n → GoesOn first n → ⊥
no-bullet None first n e k g = cc
no-bullet (Some t) first n e k g =
    let f : t ≡ first = cc in
    let z : goes_on first n ≡ false = subst (λ y. goes_on y n ≡ false) f k in
    absurd-bool ⊥ (goes_on first n) (goes-on first n g) z

pub list-follows : (v : Wait) (first : Lexeme) (x : Tree) (i : ℕ) (o : Option Lexeme) → list_of v ≡ Some first → i ≤ first.col → Why v x i o → MayFollow first o
list-follows v first x i None l d at_end = tt
list-follows v first x i (Some n) l d (by_column k m) =
    let e : inside v i ≡ max i (suc first.col) = ap (λ z. inside_list z i) l in
    (no-bullet (list_of v) first n l m, λ q. omega (arith, k, e, d))
list-follows v first x i (Some n) l d (by_mark k r m) =
    let e : inside v i ≡ max i (suc first.col) = ap (λ z. inside_list z i) l in
    (λ g. (let c : n.col ≡ first.col = g.2 in omega (arith, k, e, c)), λ q. absurd (takes-operator n.kind q r))
list-follows v first x i (Some n) l d (by_operator c) = absurd (list-waits v first (edge_of (role n.kind)) l c)

-- the items of a list stand right of its column
pub item-at : (v : Wait) (first : Lexeme) (i : ℕ) → list_of v ≡ Some first → i ≤ first.col → inside v i ≡ suc first.col
item-at v first i l h = ap (λ z. inside_list z i) l ∙ sym (items-deep first i h)

-- what follows the arms of a CASE
arms-follow : (x : Tree) (i : ℕ) (o : Option Lexeme) → shape x ≡ Shape.Arm → Why Wait.CaseArms x i o → MayFollowArms i o
arms-follow x i None s at_end = tt
arms-follow x i (Some n) s (by_column k m) = λ e. k
arms-follow x i (Some n) s (by_mark k r m) = λ e.
    let a : after Wait.CaseArms x n ≡ if_goes (is_always n.kind) (keeps Wait.CaseArms) = ap (λ z. cond (is_expression z) (after_expression Wait.CaseArms z n) (after_part Wait.CaseArms z n)) s in
    let b : is_always n.kind ≡ true = ap is_always e in
    let c : if_goes (is_always n.kind) (keeps Wait.CaseArms) ≡ keeps Wait.CaseArms = ap (λ z. if_goes z (keeps Wait.CaseArms)) b in
    cc
arms-follow x i (Some n) s (by_operator c) = cc

bound-for : (β : Binding) (y : Tree) (b : List Lexeme) (i : ℕ) (o : Option Lexeme) → takes_set β ≡ true → DerivesBound y b i o → (takes_more β ≡ false → BindsOne y) → BoundFor β y b i o
bound-for Binding.One y b i o e d f = (d, f refl)
bound-for Binding.Bound y b i o e d f = d
bound-for Binding.Names y b i o e d f = cc
bound-for Binding.Either y b i o e d f = d

one-bound : (ps : List Tree) (x : Tree) (a : List Lexeme) → (n : Lexeme) × (ps ≡ name_leaf n ∷ []) → BindsOne (built Form.Bound (trees (ps ++ x ∷ [])) a)
one-bound ps x a q = subst (λ z. BindsOne (built Form.Bound (trees (z ++ x ∷ [])) a)) (sym q.1) tt

-- a frame under the wait below it, round an expression
pub operand-ends : (w : Wait) (i : ℕ) (v : Wait) (ps : List Tree) (a : List Lexeme) → HasRead w i v ps a → (x : Tree) (b : List Lexeme) (o : Option Lexeme) → Derives x b (inside v i) o → AllFit v (left_edge x) → (mode v ≡ Mode.Subscript → IsSubscript x) → From (inside v i) b → Why v x i o → EndOk w i ps a x b o (ends_with v)
operand-ends w i v ps a (prefix_operand {op = op} {t = t} m k h) x b o d f s r y =
    expression (node (prefixed k h (prefix-meets op t k (left_edge x) f) d)) tt (operand-due w m) (not-subscript _ w m)
operand-ends w i v ps a (infix_operand {op = op} {t = t} {x = e} {b = c} m k h np j g d') x b o d f s r y =
    restand (Form.Infix t) _ _ _ _ refl (assoc c t b)
    (expression (node (infixed t k h np j (infix-meets op t k (left_edge x) f) d' d)) (subst (λ z. AllFit w (z ∷ left_edge e)) (sym (ap (λ z. edge z Fix.Infix) k)) g) (operand-due w m) (not-subscript _ w m))
operand-ends w i v ps a (factor {t = t} {x = e} {b = c} {ps = qs} l m k j g d' h) x b o d f s r y =
    restand Form.Product _ _ _ _ refl (sym (append_assoc c (t ∷ l) b))
    (expression (node (products t k j d' (adds-close (λ xs z. DerivesFactors xs z i o) qs l x b (h o) (last_factor (factor-meets (left_edge x) f) d)))) g (operand-due w m) (not-subscript _ w m))
operand-ends w i v ps a (list_first {t = t} m k l) x b o d f s r y =
    let e : inside v i ≡ suc t.col = item-at (Wait.ListFirst t) t i refl l in
    expression (node (junctions k l (last_item (k, refl, refl) (subst (λ z. From z b) e r) (subst (λ z. Derives x b z o) e d)) (list-follows (Wait.ListFirst t) t x i o refl l y))) tt (operand-due w m) (not-subscript _ w m)
operand-ends w i v ps a (list_item {first = t} {u = u} {d = c} m k l g h) x b o d f s r y =
    let e : inside v i ≡ suc t.col = item-at (Wait.ListItem t) t i refl l in
    let q : DerivesItems t (joined (trees ps) (one x)) (t ∷ (c ++ b)) o = h o (one x) b (last_item g (subst (λ z. From z b) e r) (subst (λ z. Derives x b z o) e d)) in
    expression (node (junctions k l (subst (λ z. DerivesItems t z (t ∷ (c ++ b)) o) (sym (trees-snoc ps x)) q) (list-follows (Wait.ListItem t) t x i o refl l y))) tt (operand-due w m) (not-subscript _ w m)
operand-ends w i v ps a (bound_set {β = β} m {ps = qs} {a = c} e t n al k) x b o d f s r y =
    restand Form.Bound _ _ _ _ (sym (trees-then qs x)) (assoc c m b)
    (bound β e (bound-for β _ (c ++ m ∷ b) i o t (of_names m k (set-meets (left_edge x) f) n d) (λ z. subst (λ g. BindsOne (built Form.Bound g (c ++ m ∷ b))) (trees-then qs x) (one-bound qs x (c ++ m ∷ b) (al z)))))
operand-ends w i v ps a (tuple_bound_set {β = β} m {ps = qs} {a = c} e t n k) x b o d f s r y =
    restand Form.TupleBound _ _ _ _ (sym (trees-then qs x)) (assoc c m b)
    (bound β e (bound-for β _ (c ++ m ∷ b) i o t (tuple_bound m k (tuple-meets (left_edge x) f) n d) (λ z. tt)))
operand-ends w i v ps a (quantifier_body {q = q} t {a = c} m k n l) x b o d f s r y =
    restand (Form.Quantifier q) _ _ _ _ refl (ap (λ z. q ∷ z) (assoc c t b)) (expression (node (quantifier t k l n d)) tt (operand-due w m) (not-subscript _ w m))
operand-ends w i v ps a (bounded_body {q = q} {t = t} {a = c} m k n l) x b o d f s r y =
    restand (Form.BoundedQuantifier q) _ _ _ _ (sym (trees-then ps x)) (ap (λ z. q ∷ z) (assoc c t b)) (expression (node (bounded_quantifier t k l n d)) tt (operand-due w m) (not-subscript _ w m))
operand-ends w i v ps a (temporal_body {q = q} t {a = c} m k n l) x b o d f s r y =
    restand (Form.TemporalQuantifier q) _ _ _ _ refl (ap (λ z. q ∷ z) (assoc c t b)) (expression (node (temporal_quantifier t k l n d)) tt (operand-due w m) (not-subscript _ w m))
operand-ends w i v ps a (choose_body {h = q} t {a = c} m k n l) x b o d f s r y =
    restand Form.Choose _ _ _ _ refl (ap (λ z. q ∷ z) (assoc c t b)) (expression (node (choose t k l n d)) tt (operand-due w m) (not-subscript _ w m))
operand-ends w i v ps a (bounded_choose_body {h = q} {t = t} {a = c} m k n g l) x b o d f s r y =
    restand Form.BoundedChoose _ _ _ _ refl (ap (λ z. q ∷ z) (assoc c t b)) (expression (node (bounded_choose t k l n g d)) tt (operand-due w m) (not-subscript _ w m))
operand-ends w i v ps a (square_subscript {t = t} {u = u} {a = c} m k l e) x b o d f s r y =
    restand Form.SquareAction _ _ _ _ refl (ap (λ z. t ∷ z) (assoc c u b)) (expression (node (square t u k l e d (s refl))) tt (operand-due w m) (not-subscript _ w m))
operand-ends w i v ps a (angle_subscript {t = t} {u = u} {a = c} m k l e) x b o d f s r y =
    restand Form.AngleAction _ _ _ _ refl (ap (λ z. t ∷ z) (assoc c u b)) (expression (node (angle t u k l e d (s refl))) tt (operand-due w m) (not-subscript _ w m))
operand-ends w i v ps a (if_else {t = t} {u = u} {v = l} {a = c} {b = g} m k h n e e') x b o d f s r y =
    let q : t ∷ (c ++ u ∷ (g ++ l ∷ b)) ≡ (t ∷ (c ++ u ∷ (g ++ l ∷ []))) ++ b = ap (λ z. t ∷ (c ++ u ∷ z)) (assoc g l b) ∙ ap (λ z. t ∷ z) (sym (append_assoc c (u ∷ (g ++ l ∷ [])) b)) in
    restand Form.IfThenElse _ _ _ _ refl q (expression (node (if_then_else t u l k h n e e' d)) tt (operand-due w m) (not-subscript _ w m))
operand-ends w i v ps a (arm_body {t = t} {a = c} so k e) x b o d f s r y =
    restand Form.Arm _ _ _ _ refl (assoc c t b) (arm so (of_guard t k e d))
operand-ends w i v ps a (other_body so k l) x b o d f s r y = other_arm so k l d
operand-ends w i v ps a (update_value {t = t} e {d = c} so k n l) x b o d f s r y =
    restand Form.Update _ _ _ _ (sym (trees-then ps x)) (ap (λ z. t ∷ z) (assoc c e b)) (update so (of_steps t e k l n d))
operand-ends w i v ps a (let_body {h = h} {t = t} {a = c} m k l n) x b o d f s r y =
    restand Form.Let _ _ _ _ (sym (trees-then ps x)) (ap (λ z. h ∷ z) (assoc c t b)) (expression (node (let_in t k l n d)) tt (operand-due w m) (not-subscript _ w m))
operand-ends w i v ps a (definition_body {n = n} q {a = c} e h k) x b o d f s r y =
    restand (Form.OperatorDefinition n) _ _ _ _ (sym (trees-then ps x)) (ap (λ z. n ∷ z) (assoc c q b)) (definition e (operator q h k d))
operand-ends w i v ps a (prefix_body e k n l) x b o d f s r y = definition e (prefix_operator k n l d)
operand-ends w i v ps a (infix_body e m k h n l) x b o d f s r y = definition e (infix_operator m k h n l d)
operand-ends w i v ps a (postfix_body e m k h l) x b o d f s r y = definition e (postfix_operator m k h l d)
operand-ends w i v ps a (function_head_body {n = n} {t = t} {u = u} q {a = c} e na k l g h) x b o d f s r y =
    restand (Form.FunctionDefinition n) _ _ _ _ (sym (trees-then ps x)) (ap (λ z. n ∷ t ∷ z) (sym (append_assoc c (u ∷ q ∷ []) b))) (definition e (function_of u q na k l g h d))
operand-ends w i v ps a (replacement_right so n k) x b o d f s r y = replacement so (replaced n k d)
operand-ends w i v ps a _ x b o d f s r y = tt

-- and round another part
symbol-ends : (v : Wait) → ends_with_part v Shape.Symbol ≡ None
symbol-ends (Wait.Handing Handed.Segment n) = refl
symbol-ends (Wait.Handing Handed.Definition n) = refl
symbol-ends _ = refl

names-end : (v : Wait) → ends_with_part v Shape.Names ≡ None
names-end (Wait.Handing Handed.Segment n) = refl
names-end (Wait.Handing Handed.Definition n) = refl
names-end _ = refl

bound-ends : (v : Wait) → ends_with_part v Shape.Bound ≡ None
bound-ends (Wait.Handing Handed.Segment n) = refl
bound-ends (Wait.Handing Handed.Definition n) = refl
bound-ends _ = refl

definition-ends : (v : Wait) (n : Lexeme) → v ≡ Wait.Handing Handed.Definition n → ends_with_part v Shape.Helper ≡ None
definition-ends (Wait.Handing Handed.Segment m) n e = cc
definition-ends (Wait.Handing Handed.Definition m) n e = refl
definition-ends _ n e = cc

parameter-ends : (v : Wait) → sort v ≡ Sort.Parameter → ends_with_part v Shape.Helper ≡ None
parameter-ends (Wait.DefinitionParameters n) e = refl
parameter-ends (Wait.Handing Handed.Segment m) e = cc
parameter-ends (Wait.Handing Handed.Definition m) e = cc
parameter-ends _ e = cc

update-ends : (v : Wait) → sort v ≡ Sort.Update → ends_with_part v Shape.Helper ≡ None
update-ends Wait.ExceptUpdates e = refl
update-ends (Wait.Handing Handed.Segment m) e = cc
update-ends (Wait.Handing Handed.Definition m) e = cc
update-ends _ e = cc

step-ends : (v : Wait) → sort v ≡ Sort.Step → ends_with_part v Shape.Helper ≡ None
step-ends Wait.StepFirst e = refl
step-ends Wait.StepNext e = refl
step-ends (Wait.Handing Handed.Segment m) e = cc
step-ends (Wait.Handing Handed.Definition m) e = cc
step-ends _ e = cc

segment-ends : (w : Wait) (i : ℕ) (v : Wait) (ps : List Tree) (a : List Lexeme) → HasRead w i v ps a → (x : Tree) (b : List Lexeme) (o : Option Lexeme) → sort v ≡ Sort.Segment → DerivesSegment x b (inside v i) → EndOk w i ps a x b o (ends_with_part v Shape.Helper)
segment-ends w i v ps a (handing_segment m n l h) x b o e d = expression (node (identifier (adds-close (λ xs z. DerivesSegments xs z i) ps a x b h (last_segment d)))) tt (operand-due w m) (not-subscript _ w m)
segment-ends w i v ps a _ x b o e d = cc

replacement-ends : (w : Wait) (i : ℕ) (v : Wait) (ps : List Tree) (a : List Lexeme) → HasRead w i v ps a → (x : Tree) (b : List Lexeme) (o : Option Lexeme) → sort v ≡ Sort.Replacement → DerivesReplacement x b (inside v i) o → EndOk w i ps a x b o (ends_with_part v Shape.Helper)
replacement-ends w i v ps a (replacements {d = c} so k m q h) x b o e d = instance so (with_replacements k m q (adds-close (λ xs z. DerivesReplacements xs z i o) ps c x b (h o) (last_replacement d)))
replacement-ends w i v ps a _ x b o e d = cc

instance-ends : (w : Wait) (i : ℕ) (v : Wait) (ps : List Tree) (a : List Lexeme) → HasRead w i v ps a → (x : Tree) (b : List Lexeme) (o : Option Lexeme) → DerivesInstance x b (inside v i) o → EndOk w i ps a x b o (ends_with_part v Shape.Instance)
instance-ends w i v ps a (definition_body {n = n} q {a = c} e h k) x b o d =
    restand (Form.ModuleDefinition n) _ _ _ _ (sym (trees-then ps x)) (ap (λ z. n ∷ z) (assoc c q b)) (definition e (module_of q h k d))
instance-ends w i v ps a (handing_segment m n l d) x b o d' = tt
instance-ends w i v ps a (handing_definition m k n l d) x b o d' = tt
instance-ends w i v ps a _ x b o d = tt

arm-ends : (w : Wait) (i : ℕ) (v : Wait) (ps : List Tree) (a : List Lexeme) → HasRead w i v ps a → (x : Tree) (b : List Lexeme) (o : Option Lexeme) → DerivesArm x b (inside v i) o → Why v x i o → EndOk w i ps a x b o (ends_with_part v Shape.Arm)
arm-ends w i v ps a (case_arms {d = c} m k h) x b o d y =
    expression (node (case k (adds-close (λ xs z. DerivesArms xs z i o) ps c x b (h o) (last_arm d (arms-follow x i o (arm-shape d) y))))) tt (operand-due w m) (not-subscript _ w m)
arm-ends w i v ps a (handing_segment m n l d) x b o d' y = tt
arm-ends w i v ps a (handing_definition m k n l d) x b o d' y = tt
arm-ends w i v ps a _ x b o d y = tt

other-arm-ends : (w : Wait) (i : ℕ) (v : Wait) (ps : List Tree) (a : List Lexeme) → HasRead w i v ps a → (x : Tree) (b : List Lexeme) (o : Option Lexeme) → DerivesArms (one x) b (inside v i) o → EndOk w i ps a x b o (ends_with_part v Shape.OtherArm)
other-arm-ends w i v ps a (case_arms {d = c} m k h) x b o d =
    expression (node (case k (adds-close (λ xs z. DerivesArms xs z i o) ps c x b (h o) d))) tt (operand-due w m) (not-subscript _ w m)
other-arm-ends w i v ps a (handing_segment m n l d) x b o d' = tt
other-arm-ends w i v ps a (handing_definition m k n l d) x b o d' = tt
other-arm-ends w i v ps a _ x b o d = tt

pub ends-sound : (w : Wait) (i : ℕ) (v : Wait) (ps : List Tree) (a : List Lexeme) → HasRead w i v ps a → (x : Tree) (b : List Lexeme) (o : Option Lexeme) → From (inside v i) b → Why v x i o → {j : ℕ} → j ≡ inside v i → Stands v x b j o → EndOk w i ps a x b o (finishes v (shape x))
ends-sound w i v ps a h x b o r y e (expression d f p s) =
    let q : is_expression (shape x) ≡ true = derives-shape d in
    subst (λ z. EndOk w i ps a x b o (cond z (ends_with v) (ends_with_part v (shape x)))) (sym q) (operand-ends w i v ps a h x b o (subst (λ z. Derives x b z o) e d) f s r y)
ends-sound w i v ps a h x b o r y e (symbol {t = t} m k p) = subst (λ z. EndOk w i ps a x b o z) (sym (symbol-ends v)) tt
ends-sound w i v ps a h x b o r y e (instance so d) =
    subst (λ z. EndOk w i ps a x b o (finishes v z)) (sym (instance-shape d)) (instance-ends w i v ps a h x b o (subst (λ z. DerivesInstance x b z o) e d))
ends-sound w i v ps a h x b o r y e (names β k d) =
    subst (λ z. EndOk w i ps a x b o (finishes v z)) (sym (names-shape β x b d)) (subst (λ z. EndOk w i ps a x b o z) (sym (names-end v)) tt)
ends-sound w i v ps a h x b o r y e (bound β k d) =
    subst (λ z. EndOk w i ps a x b o (finishes v z)) (sym (bound-shape (bound-of β x b _ o d))) (subst (λ z. EndOk w i ps a x b o z) (sym (bound-ends v)) tt)
ends-sound w i v ps a h x b o r y e (arm so d) =
    subst (λ z. EndOk w i ps a x b o (finishes v z)) (sym (arm-shape d)) (arm-ends w i v ps a h x b o (subst (λ z. DerivesArm x b z o) e d) y)
ends-sound w i v ps a h x b o r y e (other_arm {x = q} {b = c} so k l d) = other-arm-ends w i v ps a h x b o (of_other k l (subst (λ z. Derives q c z o) e d))
ends-sound w i v ps a h x b o r y e (segment k d) =
    subst (λ z. EndOk w i ps a x b o (finishes v z)) (sym (segment-shape d)) (segment-ends w i v ps a h x b o k (subst (λ z. DerivesSegment x b z) e d))
ends-sound w i v ps a h x b o r y e (definition {n = n} k d) =
    subst (λ z. EndOk w i ps a x b o (finishes v z)) (sym (definition-shape d)) (subst (λ z. EndOk w i ps a x b o z) (sym (definition-ends v n k)) tt)
ends-sound w i v ps a h x b o r y e (parameter k d) =
    subst (λ z. EndOk w i ps a x b o (finishes v z)) (sym (parameter-shape d)) (subst (λ z. EndOk w i ps a x b o z) (sym (parameter-ends v k)) tt)
ends-sound w i v ps a h x b o r y e (replacement k d) =
    subst (λ z. EndOk w i ps a x b o (finishes v z)) (sym (replacement-shape d)) (replacement-ends w i v ps a h x b o k (subst (λ z. DerivesReplacement x b z o) e d))
ends-sound w i v ps a h x b o r y e (update k d) =
    subst (λ z. EndOk w i ps a x b o (finishes v z)) (sym (update-shape d)) (subst (λ z. EndOk w i ps a x b o z) (sym (update-ends v k)) tt)
ends-sound w i v ps a h x b o r y e (step k d) =
    subst (λ z. EndOk w i ps a x b o (finishes v z)) (sym (step-shape d)) (subst (λ z. EndOk w i ps a x b o z) (sym (step-ends v k)) tt)
