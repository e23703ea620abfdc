-- What the machine accepts is derivable, by the module that it answers.
use Rattle.std.proofs.Common.{◌≡◌, ℕ, suc, inl, inr, Bool, true, false, List, [], ◌∷◌, ◌++◌, Option, Some, None, refl, ap, sym, subst, ◌∙◌, append_assoc, append-nil}
use Rattle.std.specs.Prelude.{cond}
use Rattle.tla_symbols.specs.declared.op.Op.TheVariants as Op
use Rattle.tla_symbols.specs.declared.lexeme.LexKind.{LexKind}
use Rattle.tla_symbols.specs.declared.lexeme.Word.TheVariants as Word
use Rattle.tla_symbols.specs.declared.lexeme.Mark.TheVariants as Mark
use Rattle.tla_symbols.specs.declared.lexeme.Lexeme.{Lexeme}
use Rattle.tla_tree.specs.declared.form.Form.{Form}
use Rattle.tla_tree.specs.Syntax.{Tree, Trees, Nil}
use Rattle.tla_tree.specs.Lexemes.{IsName, IsWord, IsMark, built, then}
use Rattle.tla_tree.specs.Headings.{DerivesParameter}
use Rattle.tla_tree.specs.Alignment.{takes_left}
use Rattle.tla_tree.specs.Derivation.{Derives, DerivesBounds, DerivesDefinition, operator, prefix_operator, infix_operator, postfix_operator, function_of, module_of, DerivesInstance, without, with_replacements, DerivesReplacements, last_replacement, more_replacements, DerivesReplacement, replaced, replaced_by_symbol}
use Rattle.expr_grammar.specs.Kinds.{is_name, is_comma, is_right_bracket}
use Rattle.expr_grammar.specs.Machine as Expressions
use Rattle.expr_grammar.specs.Machine.{start, start_bounds, finish_bounds}
use Rattle.expr_grammar.specs.Following.{IsQuiet, done_before, bounds_done_before}
use Rattle.expr_laws.proofs.KindTests.{name-is, comma-is, right_bracket-is}
use Rattle.expr_laws.proofs.Following.{before-quiet}
use Rattle.expr_laws.proofs.Stopping.{done-derives}
use Rattle.expr_laws.proofs.Soundness.{accepted-bounds}
use Rattle.unit_grammar.specs.Units.{UnitTree, Constants, ModuleBegin, ModuleEnd, ModuleUnits}
use Rattle.unit_grammar.specs.Derivation.{DeclaresConstants, SpellsNames, last_name, more_names, BeginsModule, alone, extending, SpellsLocal, exported, kept, DerivesModule}
use Rattle.unit_machine.specs.declared.wait.Due.{Due}
use Rattle.unit_machine.specs.declared.wait.DueMove.{DueMove}
use Rattle.unit_machine.specs.declared.wait.Wait.{Wait}
use Rattle.unit_machine.specs.declared.wait.Move.{Move}
use Rattle.unit_machine.specs.Tables.{is_dashes, is_module, is_extends, may_be_local, unit_start, if_due, move, after_part, after_expression}
use Rattle.unit_machine.specs.Machine.{Frame, frame, Begun, OfConstants, OfDefinition, Focus, Stands, Part, Bounds, State, state, unit_of, ended, closed, started, unit_due, due_moved, after_declared, finished, concluded, node, taking, shut, reading, moved, part_step, given, expression_step, reading_bounds, bounds_step, focus_step, step, run, opening, whole, answered, answer, parse}
use Rattle.unit_laws.proofs.Flat.{Plain, plain_variables, plain_constants, plain_definition, plain_instance, plain_assumption, plain_theorem, plain_line, Rest, closes, ends, goes, opens, whole as as_whole, whole-derives}
use Rattle.unit_laws.proofs.Moving.{run-snoc}
use Rattle.unit_laws.proofs.PartCompleteness.{bounds-quiet}
use Rattle.unit_laws.proofs.UnitCompleteness.{begins_unit, FirstBegins, rest-begins, facts, run-nothing}
use Rattle.unit_laws.proofs.Views.{Sort, Made, ParametersSeen, HasRead, declaration, definition_name, parameters_read, prefix_name, bounds_read, instance_name, replacements_read, complete, Holds, parameters, replacements, body_instance, wants, Stack, base, above, Under, claims, awaits, Opened, opened_constants, opened_definition, opened_instance, opened_assumption, opened_theorem, Wholes, Goes, Opens, NamesSeen, FocusOk, at_opening, at_word, at_name, at_dashes, at_read, at_extends, at_extended, at_unit, at_line, at_local, at_variable, at_variables, at_closed, at_declared, at_part, at_expression, at_bounds}
use Rattle.unit_laws.proofs.MoveSoundness.{MoveOk, move-sound, parameters-more, parameters-close}

abbrev pub GoingOk : List Lexeme → Option State → Type 0
GoingOk ts None = Unit {0}
GoingOk ts (Some s) = FocusOk s.depth s.units s.focus ts

pub renamed : (o : Option State) (ts us : List Lexeme) → ts ≡ us → GoingOk ts o → GoingOk us o
renamed o ts us e g = subst (λ z. GoingOk z o) e g

pub wholes-as : (us vs : List UnitTree) (ts ss : List Lexeme) → us ≡ vs → ts ≡ ss → Wholes us ts → Wholes vs ss
wholes-as us vs ts ss e h w = subst (λ z. Wholes vs z) h (subst (λ z. Wholes z ts) e w)

-- ---- what may stand behind a unit

pub quiet-of : (t : Lexeme) → begins_unit t.kind ≡ true → IsQuiet t
quiet-of t h = record { apart = by t.kind h; no_arm = λ e. (let q : begins_unit t.kind ≡ false = ap begins_unit e in cc) }
  where
    by : (k : LexKind) → begins_unit k ≡ true → takes_left k ≡ false
    by (LexKind.Sym Op.Negative) h = refl
    by (LexKind.Sym op) h = cc
    by (LexKind.Mark mark) h = cc
    by _ h = refl

pub replacement-quiet : {x : Tree} {a : List Lexeme} {t : Lexeme} → DerivesReplacement x a 0 (Some t) → (u : Lexeme) → IsQuiet u → DerivesReplacement x a 0 (Some u)
replacement-quiet (replaced h k d) u q = replaced h k (before-quiet d (Some u) q)
replacement-quiet (replaced_by_symbol h k e g) u q = replaced_by_symbol h k e g

replacements-quiet : {xs : Trees} {a : List Lexeme} {t : Lexeme} → DerivesReplacements xs a 0 (Some t) → (u : Lexeme) → IsQuiet u → DerivesReplacements xs a 0 (Some u)
replacements-quiet (last_replacement d) u q = last_replacement (replacement-quiet d u q)
replacements-quiet (more_replacements t k d ds) u q = more_replacements t k d (replacements-quiet ds u q)

instance-quiet : {x : Tree} {a : List Lexeme} {t : Lexeme} → DerivesInstance x a 0 (Some t) → (u : Lexeme) → IsQuiet u → DerivesInstance x a 0 (Some u)
instance-quiet (without k l) u q = without k l
instance-quiet (with_replacements k l m ds) u q = with_replacements k l m (replacements-quiet ds u q)

definition-quiet : {x : Tree} {a : List Lexeme} {t : Lexeme} → DerivesDefinition x a 0 (Some t) → (u : Lexeme) → IsQuiet u → DerivesDefinition x a 0 (Some u)
definition-quiet (operator d h m e) u q = operator d h m (before-quiet e (Some u) q)
definition-quiet (prefix_operator k l m e) u q = prefix_operator k l m (before-quiet e (Some u) q)
definition-quiet (infix_operator k l h m n e) u q = infix_operator k l h m n (before-quiet e (Some u) q)
definition-quiet (postfix_operator k l h m e) u q = postfix_operator k l h m (before-quiet e (Some u) q)
definition-quiet (function_of v d k l m n b e) u q = function_of v d k l m n b (before-quiet e (Some u) q)
definition-quiet (module_of d h m i) u q = module_of d h m (instance-quiet i u q)

pub made-quiet : (s : Sort) (x : Tree) (b : List Lexeme) (t : Lexeme) → Made s x b t → (u : Lexeme) → IsQuiet u → Made s x b u
made-quiet Sort.Declaration x b t m u q = m
made-quiet Sort.Definition x b t m u q = definition-quiet m u q
made-quiet Sort.Instance x b t m u q = instance-quiet m u q
made-quiet Sort.Replacement x b t m u q = replacement-quiet m u q

-- a unit is read, with which the modules go on
pub plain-goes : {unit : UnitTree} {a : List Lexeme} {depth : ℕ} {us : List UnitTree} {q : List Lexeme} → ((t : Lexeme) → begins_unit t.kind ≡ true → Plain unit a t) → Goes (suc depth) us q → Goes (suc depth) (us ++ unit ∷ []) (q ++ a)
plain-goes {unit = unit} {a = a} {depth = depth} {us = us} {q = q} p g = record { on = λ vs b r. by vs b r (rest-begins r) }
  where
    by : (vs : List UnitTree) (b : List Lexeme) → Rest (suc depth) vs b → FirstBegins b → Wholes ((us ++ unit ∷ []) ++ vs) ((q ++ a) ++ b)
    by vs [] r f = absurd f
    by vs (t ∷ b) r f = wholes-as _ _ _ _ (sym (append_assoc us (unit ∷ []) vs)) (sym (append_assoc q a (t ∷ b))) (g.on (unit ∷ vs) (a ++ t ∷ b) (goes t (p t f) r))

-- ---- a lexeme where a unit is due

end-goes : {depth : ℕ} {us : List UnitTree} {q : List Lexeme} (t : Lexeme) → t.kind ≡ LexKind.Equals → Goes (suc (suc depth)) us q → Goes (suc depth) (us ++ ModuleEnd t ∷ []) (q ++ t ∷ [])
end-goes {us = us} {q = q} t e g = record { on = λ vs b r. wholes-as _ _ _ _ (sym (append_assoc us (ModuleEnd t ∷ []) vs)) (sym (append_assoc q (t ∷ []) b)) (g.on (ModuleEnd t ∷ vs) (t ∷ b) (ends e r)) }

end-sound : (depth : ℕ) {us : List UnitTree} {q : List Lexeme} (t : Lexeme) → t.kind ≡ LexKind.Equals → Goes (suc depth) us q → GoingOk (q ++ t ∷ []) (ended (suc depth) us t)
end-sound ℕ.zero t e g = tt
end-sound (suc depth) t e g = at_unit (end-goes t e g)

close-sound : (depth : ℕ) {us : List UnitTree} {q : List Lexeme} (t : Lexeme) → t.kind ≡ LexKind.Close → Goes (suc depth) us q → GoingOk (q ++ t ∷ []) (closed (suc depth) us)
close-sound ℕ.zero {us = us} {q = q} t e g = at_closed (wholes-as _ _ _ _ (append-nil us) refl (g.on [] (t ∷ []) (closes e)))
close-sound (suc depth) t e g = tt

due-sound : {depth : ℕ} {us : List UnitTree} {q : List Lexeme} → Goes (suc depth) us q → (t : Lexeme) → GoingOk (q ++ t ∷ []) (unit_due None (suc depth) us t)
due-sound {depth = depth} {us = us} {q = q} g t = by t.kind refl
  where
    by : (k : LexKind) → t.kind ≡ k → GoingOk (q ++ t ∷ []) (started (unit_start k t) None (suc depth) us t)
    by LexKind.Name e = at_part q [] [] g (opened_definition exported) (base refl) (λ u. definition_name e)
    by (LexKind.Sym Op.Negative) e = at_part q [] [] g (opened_definition exported) (base refl) (λ u. prefix_name e)
    by LexKind.Dashes e = at_line q g e
    by LexKind.Equals e = end-sound depth t e g
    by LexKind.Close e = close-sound depth t e g
    by (LexKind.Word Word.Variable) e = at_variable q t [] g (inl e) (λ names b r. r)
    by (LexKind.Word Word.Variables) e = at_variable q t [] g (inr e) (λ names b r. r)
    by (LexKind.Word Word.Constant) e = at_part q (t ∷ []) [] g (opened_constants (inl e) (λ xs c r. r)) (base refl) (λ u. declaration)
    by (LexKind.Word Word.Constants) e = at_part q (t ∷ []) [] g (opened_constants (inr e) (λ xs c r. r)) (base refl) (λ u. declaration)
    by (LexKind.Word Word.Local) e = at_local q g e
    by (LexKind.Word Word.Instance) e = at_part q [] [] g (opened_instance exported) (base refl) (λ u. instance_name e)
    by (LexKind.Word Word.Assume) e = at_expression q (t ∷ []) [] g (opened_assumption (inl e)) (claims refl) refl
    by (LexKind.Word Word.Assumption) e = at_expression q (t ∷ []) [] g (opened_assumption (inr (inl e))) (claims refl) refl
    by (LexKind.Word Word.Axiom) e = at_expression q (t ∷ []) [] g (opened_assumption (inr (inr e))) (claims refl) refl
    by (LexKind.Word Word.Theorem) e = at_expression q (t ∷ []) [] g (opened_theorem e) (claims refl) refl
    by _ e = tt

local-sound : {depth : ℕ} {us : List UnitTree} {q : List Lexeme} (w : Lexeme) → Goes (suc depth) us q → IsWord w Word.Local → (t : Lexeme) → may_be_local t.kind ≡ true → GoingOk ((q ++ w ∷ []) ++ t ∷ []) (unit_due (Some w) (suc depth) us t)
local-sound {depth = depth} {us = us} {q = q} w g l t h = renamed (unit_due (Some w) (suc depth) us t) _ _ (sym (append_assoc q (w ∷ []) (t ∷ []))) (by t.kind refl h)
  where
    by : (k : LexKind) → t.kind ≡ k → may_be_local k ≡ true → GoingOk (q ++ w ∷ t ∷ []) (started (unit_start k t) (Some w) (suc depth) us t)
    by LexKind.Name e m = at_part q (w ∷ []) [] g (opened_definition (kept l)) (base refl) (λ u. definition_name e)
    by (LexKind.Sym Op.Negative) e m = at_part q (w ∷ []) [] g (opened_definition (kept l)) (base refl) (λ u. prefix_name e)
    by (LexKind.Word Word.Instance) e m = at_part q (w ∷ []) [] g (opened_instance (kept l)) (base refl) (λ u. instance_name e)
    by _ e m = cc

-- ---- a whole part of a unit

-- what the unit takes last, before a lexeme
pub data Finishes (begun : Begun) (x : Tree) (b : List Lexeme) (t : Lexeme) : Type 0 where
  by_part : {s : Sort} → wants begun ≡ Some s → Made s x b t → Finishes begun x b t
  by_claim : wants begun ≡ None → Derives x b 0 (Some t) → Finishes begun x b t

declared-sound : {depth : ℕ} {us : List UnitTree} {q : List Lexeme} (w : Lexeme) (xs : Trees) (x : Tree) (d b : List Lexeme) → Goes (suc depth) us q → DeclaresConstants w → ParametersSeen xs d → DerivesParameter x b → (t : Lexeme) → GoingOk ((q ++ w ∷ (d ++ b)) ++ t ∷ []) (after_declared (then xs x) (suc depth) us t)
declared-sound {depth = depth} {us = us} {q = q} w xs x d b g k h m t = by (is_comma t.kind) refl
  where
    spelled : q ++ ((w ∷ ((d ++ b) ++ t ∷ [])) ++ []) ≡ (q ++ w ∷ (d ++ b)) ++ t ∷ []
    spelled = ap (λ z. q ++ z) (append-nil (w ∷ ((d ++ b) ++ t ∷ []))) ∙ sym (append_assoc q (w ∷ (d ++ b)) (t ∷ []))

    by : (c : Bool) → is_comma t.kind ≡ c → GoingOk ((q ++ w ∷ (d ++ b)) ++ t ∷ []) (cond c (Some (state (suc depth) us (Part (OfConstants (then xs x)) (frame Wait.Declaration Nil []) []))) (unit_due None (suc depth) (us ++ Constants (then xs x) ∷ []) t))
    by true e =
        renamed (Some (state (suc depth) us (Part (OfConstants (then xs x)) (frame Wait.Declaration Nil []) []))) _ _ spelled
        (at_part q (w ∷ ((d ++ b) ++ t ∷ [])) [] g (opened_constants k (parameters-more xs x d b t h m (comma-is t.kind e))) (base refl) (λ u. declaration))
    by false e = due-sound (plain-goes {unit = Constants (then xs x)} {a = w ∷ (d ++ b)} (λ u f. plain_constants k (parameters-close xs x d b h m)) g) t

made-parameter : (s : Sort) (x : Tree) (b : List Lexeme) (t : Lexeme) → Some s ≡ Some Sort.Declaration → Made s x b t → DerivesParameter x b
made-parameter Sort.Declaration x b t r m = m
made-parameter _ x b t r m = cc

made-definition : (s : Sort) (x : Tree) (b : List Lexeme) (t : Lexeme) → Some s ≡ Some Sort.Definition → Made s x b t → DerivesDefinition x b 0 (Some t)
made-definition Sort.Definition x b t r m = m
made-definition _ x b t r m = cc

made-instance : (s : Sort) (x : Tree) (b : List Lexeme) (t : Lexeme) → Some s ≡ Some Sort.Instance → Made s x b t → DerivesInstance x b 0 (Some t)
made-instance Sort.Instance x b t r m = m
made-instance _ x b t r m = cc

-- the unit is whole, and the modules go on after it
pub finish-goes : {depth : ℕ} {us : List UnitTree} {q l : List Lexeme} (begun : Begun) (x : Tree) (b : List Lexeme) (t : Lexeme) → Opened begun l → Finishes begun x b t → Goes (suc depth) us q → Goes (suc depth) (us ++ unit_of begun x ∷ []) (q ++ (l ++ b))
finish-goes begun x b t (opened_constants {w = w} {xs = xs} {d = d} k h) (by_part {s = s} e m) g =
    plain-goes {unit = Constants (then xs x)} {a = w ∷ (d ++ b)} (λ u f. plain_constants k (parameters-close xs x d b h (made-parameter s x b t (sym e) m))) g
finish-goes begun x b t (opened_definition {l = l} k) (by_part {s = s} e m) g =
    plain-goes {unit = unit_of begun x} {a = l ++ b} (λ u f. plain_definition k (definition-quiet (made-definition s x b t (sym e) m) u (quiet-of u f))) g
finish-goes begun x b t (opened_instance {l = l} k) (by_part {s = s} e m) g =
    plain-goes {unit = unit_of begun x} {a = l ++ b} (λ u f. plain_instance k (instance-quiet (made-instance s x b t (sym e) m) u (quiet-of u f))) g
finish-goes begun x b t (opened_assumption {w = w} k) (by_claim e m) g = plain-goes {unit = unit_of begun x} {a = w ∷ b} (λ u f. plain_assumption k (before-quiet m (Some u) (quiet-of u f))) g
finish-goes begun x b t (opened_theorem {w = w} k) (by_claim e m) g = plain-goes {unit = unit_of begun x} {a = w ∷ b} (λ u f. plain_theorem k (before-quiet m (Some u) (quiet-of u f))) g
finish-goes begun x b t (opened_assumption k) (by_part e m) g = cc
finish-goes begun x b t (opened_theorem k) (by_part e m) g = cc
finish-goes begun x b t (opened_constants k h) (by_claim e m) g = cc
finish-goes begun x b t (opened_definition k) (by_claim e m) g = cc
finish-goes begun x b t (opened_instance k) (by_claim e m) g = cc

finished-sound : {depth : ℕ} {us : List UnitTree} {q l : List Lexeme} (begun : Begun) (x : Tree) (b : List Lexeme) (t : Lexeme) → Goes (suc depth) us q → Opened begun l → Finishes begun x b t → GoingOk ((q ++ (l ++ b)) ++ t ∷ []) (finished begun x (suc depth) us t)
finished-sound begun x b t g (opened_constants {w = w} {xs = xs} {d = d} k h) (by_part {s = s} e m) = declared-sound w xs x d b g k h (made-parameter s x b t (sym e) m) t
finished-sound begun x b t g (opened_constants k h) (by_claim e m) = cc
finished-sound begun x b t g (opened_definition k) h = due-sound (finish-goes begun x b t (opened_definition k) h g) t
finished-sound begun x b t g (opened_instance k) h = due-sound (finish-goes begun x b t (opened_instance k) h g) t
finished-sound begun x b t g (opened_assumption k) h = due-sound (finish-goes begun x b t (opened_assumption k) h g) t
finished-sound begun x b t g (opened_theorem k) h = due-sound (finish-goes begun x b t (opened_theorem k) h g) t

-- ---- parts

pub taking-sound : {s r : Sort} {w : Wait} {ps : Trees} {a : List Lexeme} → Holds s r w ps a → (x : Tree) (b : List Lexeme) (t : Lexeme) → Made r x b t → HasRead t s (after_part w) (then ps x) (a ++ b)
taking-sound (parameters {ps = ps} {d = d} k l h) x b t m = parameters_read ps x d b k l h m
taking-sound (replacements {ps = ps} {d = d} k l m h) x b t e = replacements_read ps x d b k l m h e
taking-sound (body_instance {n = n} {ps = ps} {a = a} d h m) x b t e =
    complete (subst (λ z. DerivesDefinition (built (Form.ModuleDefinition n) (then ps x) z) z 0 (Some t)) (sym (append_assoc a (d ∷ []) b)) (module_of d h m e))

-- where the lexemes of a part stand in those of the module
longer : (q l c a : List Lexeme) (t : Lexeme) → q ++ (l ++ (c ++ (a ++ t ∷ []))) ≡ (q ++ (l ++ (c ++ a))) ++ t ∷ []
longer q l c a t = simp append_assoc

pushed : (q l c a : List Lexeme) (t : Lexeme) → q ++ (l ++ ((c ++ a) ++ t ∷ [])) ≡ (q ++ (l ++ (c ++ a))) ++ t ∷ []
pushed q l c a t = simp append_assoc

opened : (q l c a : List Lexeme) (t : Lexeme) → q ++ (l ++ ((c ++ (a ++ t ∷ [])) ++ [])) ≡ (q ++ (l ++ (c ++ a))) ++ t ∷ []
opened q l c a t = ap (λ z. q ++ (l ++ z)) (append-nil (c ++ (a ++ t ∷ []))) ∙ longer q l c a t

stepped : (q l c a b : List Lexeme) (t : Lexeme) → (q ++ (l ++ (c ++ (a ++ b)))) ++ t ∷ [] ≡ (q ++ (l ++ ((c ++ a) ++ b))) ++ t ∷ []
stepped q l c a b t = ap (λ z. (q ++ (l ++ z)) ++ t ∷ []) (sym (append_assoc c a b))

concluded-sound : {depth : ℕ} {us : List UnitTree} {q l : List Lexeme} (begun : Begun) (x : Tree) (b : List Lexeme) → Goes (suc depth) us q → Opened begun l → wants begun ≡ Some Sort.Declaration → DerivesParameter x b → GoingOk (q ++ (l ++ b)) (concluded begun x (suc depth) us)
concluded-sound {q = q} begun x b g (opened_constants {w = w} {xs = xs} {d = d} k h) e m = at_declared q w xs x d b g k h m
concluded-sound begun x b g (opened_definition k) e m = tt
concluded-sound begun x b g (opened_instance k) e m = tt
concluded-sound begun x b g (opened_assumption k) e m = tt
concluded-sound begun x b g (opened_theorem k) e m = tt

shut-sound : {depth : ℕ} {us : List UnitTree} {begun : Begun} {s : Sort} {fs : List Frame} (q l c : List Lexeme) → Goes (suc depth) us q → Opened begun l → Stack begun s fs c → s ≡ Sort.Declaration → (x : Tree) (b : List Lexeme) → DerivesParameter x b → GoingOk (q ++ (l ++ (c ++ b))) (shut begun fs x b (suc depth) us)
shut-sound {begun = begun} q l c g o (base e) r x b m = concluded-sound begun x b g o (e ∙ ap Some r) m
shut-sound {depth = depth} {us = us} {begun = begun} q l c g o (above {s = s} {r = z} {w = w} {ps = ps} {a = a} {c = d} {gs = gs} k h) r x b m =
    let held : Holds s Sort.Declaration w ps a = subst (λ y. Holds s y w ps a) r h in
    renamed (Some (state (suc depth) us (Part begun (taking (frame w ps a) x b) gs))) _ _ (ap (λ y. q ++ (l ++ y)) (sym (append_assoc d a b)))
    (at_part q l d g o k (λ u. taking-sound held x b u m))

reading-sound : {depth : ℕ} {us : List UnitTree} {begun : Begun} {fs : List Frame} (q l c b : List Lexeme) → Goes (suc depth) us q → Opened begun l → Under begun fs c → (o : Option Expressions.State) → Expressions.run (Some start) b ≡ o → GoingOk (q ++ (l ++ (c ++ b))) (reading o begun fs b (suc depth) us)
reading-sound q l c b g o u None e = tt
reading-sound q l c b g o u (Some st) e = at_expression q l c g o u e

-- a function's head stands under no other part
alone-head : {begun : Begun} {s : Sort} {fs : List Frame} {c : List Lexeme} → Stack begun s fs c → s ≡ Sort.Definition → (c ≡ []) × (wants begun ≡ Some Sort.Definition)
alone-head (base e) r = (refl, e ∙ ap Some r)
alone-head (above k (parameters i j h)) r = cc
alone-head (above k (replacements i j m h)) r = cc
alone-head (above k (body_instance d h m)) r = cc

bounded-sound : {depth : ℕ} {us : List UnitTree} {q l : List Lexeme} (begun : Begun) (n u : Lexeme) → Goes (suc depth) us q → Opened begun l → wants begun ≡ Some Sort.Definition → IsName n → IsMark u Mark.LeftBracket → GoingOk (q ++ (l ++ (n ∷ u ∷ []))) (Some (state (suc depth) us (Bounds begun (frame (Wait.Bounds n) Nil (n ∷ u ∷ [])) start_bounds [])))
bounded-sound {q = q} begun n u g (opened_definition {l = l} k) e h m = at_bounds q l g k h m refl
bounded-sound begun n u g (opened_constants k i) e h m = cc
bounded-sound begun n u g (opened_instance k) e h m = cc
bounded-sound begun n u g (opened_assumption k) e h m = cc
bounded-sound begun n u g (opened_theorem k) e h m = cc

moved-sound : {depth : ℕ} {us : List UnitTree} {begun : Begun} {s : Sort} {fs : List Frame} (f : Frame) (q l c : List Lexeme) (t : Lexeme) → Goes (suc depth) us q → Opened begun l → Stack begun s fs c → (m : Move) → MoveOk s f.wait f.parts f.read t m → (go : Form → Option State) → ((form : Form) → Made s (node form f) f.read t → GoingOk ((q ++ (l ++ (c ++ f.read))) ++ t ∷ []) (go form)) → GoingOk ((q ++ (l ++ (c ++ f.read))) ++ t ∷ []) (moved m begun f fs (suc depth) us t go)
moved-sound {depth = depth} {us = us} {begun = begun} {fs = fs} f q l c t g o k (Move.Shift v) h go r =
    renamed (Some (state (suc depth) us (Part begun (frame v f.parts (f.read ++ t ∷ [])) fs))) _ _ (longer q l c f.read t) (at_part q l c g o k h)
moved-sound {depth = depth} {us = us} {begun = begun} {fs = fs} f q l c t g o k (Move.Leaf form v) h go r =
    renamed (Some (state (suc depth) us (Part begun (frame v (then f.parts (built form Nil (t ∷ []))) (f.read ++ t ∷ [])) fs))) _ _ (longer q l c f.read t) (at_part q l c g o k h)
moved-sound {depth = depth} {us = us} {begun = begun} {fs = fs} f q l c t g o k (Move.LeafOf form n v) h go r =
    renamed (Some (state (suc depth) us (Part begun (frame v (then f.parts (built form Nil (n ∷ []))) (f.read ++ t ∷ [])) fs))) _ _ (longer q l c f.read t) (at_part q l c g o k h)
moved-sound {depth = depth} {us = us} {begun = begun} {fs = fs} f q l c t g o k (Move.Push v) h go r =
    renamed (Some (state (suc depth) us (Part begun (frame v Nil (t ∷ [])) (f ∷ fs)))) _ _ (pushed q l c f.read t) (at_part q l (c ++ f.read) g o (above k h.1) h.2)
moved-sound {depth = depth} {us = us} {begun = begun} {fs = fs} f q l c t g o k (Move.Opens v z) h go r =
    renamed (Some (state (suc depth) us (Part begun (frame z Nil []) (frame v f.parts (f.read ++ t ∷ []) ∷ fs)))) _ _ (opened q l c f.read t) (at_part q l (c ++ (f.read ++ t ∷ [])) g o (above k h.1) h.2)
moved-sound {depth = depth} {us = us} {begun = begun} {fs = fs} f q l c t g o k (Move.Close form) h go r =
    renamed (shut begun fs (built form f.parts (f.read ++ t ∷ [])) (f.read ++ t ∷ []) (suc depth) us) _ _ (longer q l c f.read t) (shut-sound q l c g o k h.0 _ _ h.1)
moved-sound f q l c t g o k (Move.Ends form) h go r = r form h
moved-sound {depth = depth} {us = us} {begun = begun} {fs = fs} f q l c t g o k Move.Expression h go r =
    renamed (reading (Expressions.step start t) begun (f ∷ fs) (t ∷ []) (suc depth) us) _ _ (pushed q l c f.read t) (reading-sound q l (c ++ f.read) (t ∷ []) g o (awaits k h) (Expressions.step start t) refl)
moved-sound {depth = depth} {us = us} {begun = begun} {fs = fs} f q l c t g o k (Move.Bounds v) (n, e, i, j, y, b, m) go r =
    let z : (c ≡ []) × (wants begun ≡ Some Sort.Definition) = alone-head k e in
    let a : GoingOk (q ++ (l ++ (n ∷ t ∷ []))) (Some (state (suc depth) us (Bounds begun (frame (Wait.Bounds n) Nil (n ∷ t ∷ [])) start_bounds []))) = bounded-sound begun n t g o z.1 b m in
    let same : frame (Wait.Bounds n) Nil (n ∷ t ∷ []) ≡ frame v f.parts (f.read ++ t ∷ []) = sym (ap (λ x. frame x f.parts (f.read ++ t ∷ [])) i ∙ (ap (λ x. frame (Wait.Bounds n) x (f.read ++ t ∷ [])) j ∙ ap (λ x. frame (Wait.Bounds n) Nil (x ++ t ∷ [])) y)) in
    let spelled : q ++ (l ++ (n ∷ t ∷ [])) ≡ (q ++ (l ++ (c ++ f.read))) ++ t ∷ [] = sym (ap (λ x. (q ++ (l ++ (x ++ f.read))) ++ t ∷ []) z.0 ∙ (ap (λ x. (q ++ (l ++ x)) ++ t ∷ []) y ∙ sym (longer q l [] (n ∷ []) t))) in
    renamed (Some (state (suc depth) us (Bounds begun (frame v f.parts (f.read ++ t ∷ [])) start_bounds []))) _ _ spelled (subst (λ x. GoingOk (q ++ (l ++ (n ∷ t ∷ []))) (Some (state (suc depth) us (Bounds begun x start_bounds [])))) same a)
moved-sound f q l c t g o k Move.Refused h go r = tt

part-sound : (fs : List Frame) {depth : ℕ} {us : List UnitTree} {begun : Begun} {s : Sort} (f : Frame) (q l c : List Lexeme) (t : Lexeme) → Goes (suc depth) us q → Opened begun l → Stack begun s fs c → HasRead t s f.wait f.parts f.read → GoingOk ((q ++ (l ++ (c ++ f.read))) ++ t ∷ []) (part_step fs begun f (suc depth) us t)
part-sound [] {depth = depth} {us = us} {begun = begun} f q l c t g o (base e) h =
    moved-sound f q l [] t g o (base e) (move f.wait t) (move-sound h) _ (λ form m. finished-sound begun (node form f) f.read t g o (by_part e m))
part-sound (g' ∷ gs) {depth = depth} {us = us} {begun = begun} f q l c t g o (above {s = s} {w = w} {ps = ps} {a = a} {c = d} k i) h =
    moved-sound f q l (d ++ a) t g o (above k i) (move f.wait t) (move-sound h) _
    (λ form m. renamed (part_step gs begun (taking (frame w ps a) (node form f) f.read) (suc depth) us t) _ _ (stepped q l d a f.read t) (part-sound gs (taking (frame w ps a) (node form f) f.read) q l d t g o k (taking-sound i (node form f) f.read t m)))

-- ---- expressions and bounds

given-sound : (fs : List Frame) {depth : ℕ} {us : List UnitTree} {begun : Begun} (q l c : List Lexeme) (x : Tree) (b : List Lexeme) (t : Lexeme) → Goes (suc depth) us q → Opened begun l → Under begun fs c → Derives x b 0 (Some t) → GoingOk ((q ++ (l ++ (c ++ b))) ++ t ∷ []) (given fs begun x b (suc depth) us t)
given-sound [] {begun = begun} q l c x b t g o (claims e) h = finished-sound begun x b t g o (by_claim e h)
given-sound (f ∷ gs) {depth = depth} {us = us} {begun = begun} q l c x b t g o (awaits {c = d} k aw) h =
    renamed (part_step gs begun (frame (after_expression f.wait) (then f.parts x) (f.read ++ b)) (suc depth) us t) _ _ (stepped q l d f.read b t)
    (part-sound gs (frame (after_expression f.wait) (then f.parts x) (f.read ++ b)) q l d t g o k (aw x b t h))

expression-sound : {depth : ℕ} {us : List UnitTree} {begun : Begun} {fs : List Frame} (q l c b : List Lexeme) (st : Expressions.State) (t : Lexeme) → Goes (suc depth) us q → Opened begun l → Under begun fs c → Expressions.run (Some start) b ≡ Some st → (found : Option Tree) → done_before (Some st) t.kind ≡ found → GoingOk ((q ++ (l ++ (c ++ b))) ++ t ∷ []) (expression_step found begun fs st b (suc depth) us t)
expression-sound {fs = fs} q l c b st t g o u e (Some x) h =
    let k : done_before (Expressions.run (Some start) b) t.kind ≡ Some x = ap (λ z. done_before z t.kind) e ∙ h in
    given-sound fs q l c x b t g o u (done-derives b x t k).1
expression-sound {depth = depth} {us = us} {begun = begun} {fs = fs} q l c b st t g o u e None h =
    renamed (reading (Expressions.step st t) begun fs (b ++ t ∷ []) (suc depth) us) _ _ (longer q l c b t) (going (Expressions.step st t) refl)
  where
    going : (next : Option Expressions.State) → Expressions.step st t ≡ next → GoingOk (q ++ (l ++ (c ++ (b ++ t ∷ [])))) (reading next begun fs (b ++ t ∷ []) (suc depth) us)
    going None r = tt
    going (Some su) r = at_expression q l c g o u (run-snoc b t (Some start) st su e r)

pub bracket-quiet : (t : Lexeme) → is_right_bracket t.kind ≡ true → IsQuiet t
bracket-quiet t h = let e : t.kind ≡ LexKind.Mark Mark.RightBracket = right_bracket-is t.kind h in record { apart = ap takes_left e; no_arm = λ k. cc }

going-bounds : {depth : ℕ} {us : List UnitTree} {before : Option Lexeme} (q l : List Lexeme) (n u : Lexeme) (b : List Lexeme) (st : Expressions.State) (t : Lexeme) → Goes (suc depth) us q → SpellsLocal before l → IsName n → IsMark u Mark.LeftBracket → Expressions.run (Some start_bounds) b ≡ Some st → (next : Option Expressions.State) → Expressions.step st t ≡ next → GoingOk ((q ++ (l ++ (n ∷ u ∷ b))) ++ t ∷ []) (reading_bounds next (OfDefinition before) (frame (Wait.Bounds n) Nil (n ∷ u ∷ [])) (b ++ t ∷ []) (suc depth) us)
going-bounds q l n u b st t g s k m e None r = tt
going-bounds {depth = depth} {us = us} {before = before} q l n u b st t g s k m e (Some su) r =
    renamed (Some (state (suc depth) us (Bounds (OfDefinition before) (frame (Wait.Bounds n) Nil (n ∷ u ∷ [])) su (b ++ t ∷ [])))) _ _ (longer q l (n ∷ u ∷ []) b t) (at_bounds q l g s k m (run-snoc b t (Some start_bounds) st su e r))

bounds-sound : {depth : ℕ} {us : List UnitTree} {before : Option Lexeme} (q l : List Lexeme) (n u : Lexeme) (b : List Lexeme) (st : Expressions.State) (t : Lexeme) → Goes (suc depth) us q → SpellsLocal before l → IsName n → IsMark u Mark.LeftBracket → Expressions.run (Some start_bounds) b ≡ Some st → GoingOk ((q ++ (l ++ (n ∷ u ∷ b))) ++ t ∷ []) (bounds_step (bounds_done_before (Some st) t.kind) (OfDefinition before) (frame (Wait.Bounds n) Nil (n ∷ u ∷ [])) st b (suc depth) us t)
bounds-sound {depth = depth} {us = us} {before = before} q l n u b st t g s k m e = by (is_right_bracket t.kind) refl (finish_bounds (Some st)) refl
  where
    by : (c : Bool) → is_right_bracket t.kind ≡ c → (o : Option Trees) → finish_bounds (Some st) ≡ o → GoingOk ((q ++ (l ++ (n ∷ u ∷ b))) ++ t ∷ []) (bounds_step (cond c o None) (OfDefinition before) (frame (Wait.Bounds n) Nil (n ∷ u ∷ [])) st b (suc depth) us t)
    by true r (Some xs) h =
        let d : DerivesBounds xs b 0 (Some t) = bounds-quiet (accepted-bounds b xs (ap finish_bounds e ∙ h)) (Some t) (bracket-quiet t r) in
        part-sound [] {begun = OfDefinition before} (frame (Wait.BoundsRead n) xs (n ∷ u ∷ b)) q l [] t g (opened_definition s) (base refl) (bounds_read k m d)
    by true r None h = going-bounds q l n u b st t g s k m e (Expressions.step st t) refl
    by false r o h = going-bounds q l n u b st t g s k m e (Expressions.step st t) refl

-- ---- each lexeme

by-due : (P : DueMove → Type 0) (c : Bool) (m n : DueMove) → (c ≡ true → P m) → (c ≡ false → P n) → P (cond c m n)
by-due P true m n f g = f refl
by-due P false m n f g = g refl

only-due : (P : DueMove → Type 0) (c : Bool) (m : DueMove) → P DueMove.Refused → (c ≡ true → P m) → P (if_due c m)
only-due P true m r f = f refl
only-due P false m r f = r

dashes-is : (k : LexKind) → is_dashes k ≡ true → k ≡ LexKind.Dashes
dashes-is LexKind.Dashes h = refl
dashes-is _ h = cc

module-is : (k : LexKind) → is_module k ≡ true → k ≡ LexKind.Word Word.Module
module-is (LexKind.Word Word.Module) h = refl
module-is _ h = cc

extends-is : (k : LexKind) → is_extends k ≡ true → k ≡ LexKind.Word Word.Extends
extends-is (LexKind.Word Word.Extends) h = refl
extends-is _ h = cc

names-more : (ns c : List Lexeme) (m t : Lexeme) → NamesSeen ns c → IsName m → IsMark t Mark.Comma → NamesSeen (ns ++ m ∷ []) (c ++ m ∷ t ∷ [])
names-more ns c m t h k e names b r =
    subst (λ z. SpellsNames z ((c ++ m ∷ t ∷ []) ++ b)) (sym (append_assoc ns (m ∷ []) names)) (subst (λ z. SpellsNames (ns ++ m ∷ names) z) (sym (append_assoc c (m ∷ t ∷ []) b)) (h (m ∷ names) (m ∷ t ∷ b) (more_names k e r)))

pub names-close : (ns c : List Lexeme) (m : Lexeme) → NamesSeen ns c → IsName m → SpellsNames (ns ++ m ∷ []) (c ++ m ∷ [])
names-close ns c m h k = h (m ∷ []) (m ∷ []) (last_name k)

-- the begin of a nested module
pub nested-opens : {depth : ℕ} {us : List UnitTree} {q : List Lexeme} → Goes (suc depth) us q → Opens (suc depth) us q
nested-opens {depth = depth} {us = us} {q = q} g = record { begin = λ dashes n names a k. record { on = λ vs b r. by dashes n names a k vs b r (rest-begins r) } }
  where
    by : (dashes n : Lexeme) (names a : List Lexeme) → BeginsModule dashes n names a → (vs : List UnitTree) (b : List Lexeme) → Rest (suc (suc depth)) vs b → FirstBegins b → Wholes ((us ++ ModuleBegin dashes n names ∷ []) ++ vs) ((q ++ a) ++ b)
    by dashes n names a k vs [] r f = absurd f
    by dashes n names a k vs (t ∷ b) r f = wholes-as _ _ _ _ (sym (append_assoc us (ModuleBegin dashes n names ∷ []) vs)) (sym (append_assoc q a (t ∷ b))) (g.on (ModuleBegin dashes n names ∷ vs) (a ++ t ∷ b) (opens t k r))

-- and that of the outermost
pub outermost-opens : Opens ℕ.zero [] []
outermost-opens = record { begin = λ dashes n names a k. record { on = λ vs b r. by dashes n names a k vs b r (rest-begins r) } }
  where
    by : (dashes n : Lexeme) (names a : List Lexeme) → BeginsModule dashes n names a → (vs : List UnitTree) (b : List Lexeme) → Rest (suc ℕ.zero) vs b → FirstBegins b → Wholes (ModuleBegin dashes n names ∷ vs) (a ++ b)
    by dashes n names a k vs [] r f = absurd f
    by dashes n names a k vs (t ∷ b) r f = (record { name = n; extends = names; units = vs }, refl, as_whole t k r)

focus-sound : {depth : ℕ} {us : List UnitTree} {focus : Focus} {p : List Lexeme} → FocusOk depth us focus p → (t : Lexeme) → GoingOk (p ++ t ∷ []) (focus_step focus depth us t)
focus-sound at_opening t = only-due (λ m. GoingOk (t ∷ []) (due_moved m [] ℕ.zero [] t)) (is_dashes t.kind) _ tt (λ e. at_word (dashes-is t.kind e))
focus-sound (at_word {d = d} k) t = only-due (λ m. GoingOk (d ∷ t ∷ []) (due_moved m [] ℕ.zero [] t)) (is_module t.kind) _ tt (λ e. at_name [] d t outermost-opens k (module-is t.kind e))
focus-sound {depth = depth} {us = us} {p = p} (at_name q d w o k l) t =
    only-due (λ m. GoingOk (p ++ t ∷ []) (due_moved m [] depth us t)) (is_name t.kind) _ tt
    (λ e. renamed (Some (state depth us (Stands (Due.ModuleDashes d t) []))) _ _ (sym (append_assoc q (d ∷ w ∷ []) (t ∷ []))) (at_dashes q d w o k l (name-is t.kind e)))
focus-sound {depth = depth} {us = us} {p = p} (at_dashes {n = n} q d w o k l m) t =
    only-due (λ z. GoingOk (p ++ t ∷ []) (due_moved z [] depth us t)) (is_dashes t.kind) _ tt
    (λ e. renamed (Some (state depth us (Stands (Due.ModuleRead d n) []))) _ _ (sym (append_assoc q (d ∷ w ∷ n ∷ []) (t ∷ []))) (at_read q d w t o k l m (dashes-is t.kind e)))
focus-sound {depth = depth} {us = us} {p = p} (at_read {n = n} q d w e o k l m i) t =
    by-due (λ z. GoingOk (p ++ t ∷ []) (due_moved z [] depth us t)) (is_extends t.kind) _ _
    (λ h. renamed (Some (state depth us (Stands (Due.ExtendsName d n) []))) _ _ (sym (append_assoc q (d ∷ w ∷ n ∷ e ∷ []) (t ∷ []))) (at_extends q d w e t [] o k l m i (extends-is t.kind h) (λ names b r. r)))
    (λ h. due-sound (o.begin d n [] (d ∷ w ∷ n ∷ e ∷ []) (alone k l m i)) t)
focus-sound {depth = depth} {us = us} {p = p} (at_extends {n = n} {ns = ns} q d w e x c o k l m i j h) t =
    only-due (λ z. GoingOk (p ++ t ∷ []) (due_moved z ns depth us t)) (is_name t.kind) _ tt
    (λ f. renamed (Some (state depth us (Stands (Due.ExtendsRead d n) (ns ++ t ∷ [])))) _ _ (sym (append_assoc q (d ∷ w ∷ n ∷ e ∷ x ∷ c) (t ∷ []))) (at_extended q d w e x ns c t o k l m i j h (name-is t.kind f)))
focus-sound {depth = depth} {us = us} {p = p} (at_extended {n = n} q d w e x ns c v o k l m i j h f) t =
    by-due (λ z. GoingOk (p ++ t ∷ []) (due_moved z (ns ++ v ∷ []) depth us t)) (is_comma t.kind) _ _
    (λ y. renamed (Some (state depth us (Stands (Due.ExtendsName d n) (ns ++ v ∷ [])))) _ _ (spelled q (d ∷ w ∷ n ∷ e ∷ x ∷ []) c v t) (at_extends q d w e x (c ++ v ∷ t ∷ []) o k l m i j (names-more ns c v t h f (comma-is t.kind y))))
    (λ y. due-sound (o.begin d n (ns ++ v ∷ []) (d ∷ w ∷ n ∷ e ∷ x ∷ (c ++ v ∷ [])) (extending k l m i j (names-close ns c v h f))) t)
  where
    spelled : (q a c : List Lexeme) (v t : Lexeme) → q ++ (a ++ (c ++ v ∷ t ∷ [])) ≡ (q ++ (a ++ (c ++ v ∷ []))) ++ t ∷ []
    spelled q a c v t = simp append_assoc
focus-sound (at_unit g) t = due-sound g t
focus-sound {depth = depth} {us = us} {p = p} (at_line {d = d} q g k) t =
    by-due (λ z. GoingOk (p ++ t ∷ []) (due_moved z [] depth us t)) (is_module t.kind) _ _
    (λ e. renamed (Some (state depth us (Stands (Due.ModuleName d) []))) _ _ (sym (append_assoc q (d ∷ []) (t ∷ []))) (at_name q d t (nested-opens g) k (module-is t.kind e)))
    (λ e. due-sound (plain-goes {a = d ∷ []} (λ u f. plain_line k (λ h. (let z : is_module u.kind ≡ false = (facts u.kind f).module_word in let y : is_module u.kind ≡ true = ap is_module h in cc))) g) t)
focus-sound {depth = depth} {us = us} {p = p} (at_local {w = w} q g k) t =
    only-due (λ z. GoingOk (p ++ t ∷ []) (due_moved z [] depth us t)) (may_be_local t.kind) _ tt (λ e. local-sound w g k t e)
focus-sound {depth = depth} {us = us} {p = p} (at_variable {ns = ns} q w c g k h) t =
    only-due (λ z. GoingOk (p ++ t ∷ []) (due_moved z ns depth us t)) (is_name t.kind) _ tt
    (λ f. renamed (Some (state depth us (Stands Due.VariableRead (ns ++ t ∷ [])))) _ _ (sym (append_assoc q (w ∷ c) (t ∷ []))) (at_variables q w ns c t g k h (name-is t.kind f)))
focus-sound {depth = depth} {us = us} {p = p} (at_variables q w ns c v g k h f) t =
    by-due (λ z. GoingOk (p ++ t ∷ []) (due_moved z (ns ++ v ∷ []) depth us t)) (is_comma t.kind) _ _
    (λ y. renamed (Some (state depth us (Stands Due.VariableName (ns ++ v ∷ [])))) _ _ (spelled q w c v t) (at_variable q w (c ++ v ∷ t ∷ []) g k (names-more ns c v t h f (comma-is t.kind y))))
    (λ y. due-sound (plain-goes {a = w ∷ (c ++ v ∷ [])} (λ u z. plain_variables k (names-close ns c v h f)) g) t)
  where
    spelled : (q : List Lexeme) (w : Lexeme) (c : List Lexeme) (v t : Lexeme) → q ++ w ∷ (c ++ v ∷ t ∷ []) ≡ (q ++ w ∷ (c ++ v ∷ [])) ++ t ∷ []
    spelled q w c v t = ap (λ z. q ++ w ∷ z) (sym (append_assoc c (v ∷ []) (t ∷ []))) ∙ sym (append_assoc q (w ∷ (c ++ v ∷ [])) (t ∷ []))
focus-sound (at_closed w) t = tt
focus-sound (at_declared q w xs x d b g k h m) t = declared-sound w xs x d b g k h m t
focus-sound (at_part {f = f} {fs = fs} q l c g o k h) t = part-sound fs f q l c t g o k (h t)
focus-sound (at_expression {st = st} {b = b} q l c g o u e) t = expression-sound q l c b st t g o u e (done_before (Some st) t.kind) refl
focus-sound (at_bounds {n = n} {u = u} {st = st} {b = b} q l g s k m e) t = bounds-sound q l n u b st t g s k m e

pub run-sound : (ts : List Lexeme) (o : Option State) (p : List Lexeme) → GoingOk p o → GoingOk (p ++ ts) (run o ts)
run-sound [] o p g = renamed o _ _ (sym (append-nil p)) g
run-sound (t ∷ ts) None p g = subst (λ z. GoingOk (p ++ t ∷ ts) z) (sym (run-nothing (t ∷ ts))) tt
run-sound (t ∷ ts) (Some s) p g =
    renamed (run (step s t) ts) _ _ (append_assoc p (t ∷ []) ts) (run-sound ts (step s t) (p ++ t ∷ []) (focus-sound g t))

pub opening-sound : (ts : List Lexeme) → GoingOk ts (run (Some opening) ts)
opening-sound ts = run-sound ts (Some opening) [] at_opening

answered-sound : {depth : ℕ} {us : List UnitTree} {focus : Focus} {p : List Lexeme} → FocusOk depth us focus p → (found : ModuleUnits) → answered focus us ≡ Some found → DerivesModule found p
answered-sound {p = p} (at_closed w) found e =
    let q : w.0 ≡ found = (let a : whole _ ≡ Some w.0 = w.1 in cc) in
    subst (λ z. DerivesModule z p) q (whole-derives w.2)
answered-sound at_opening found e = cc
answered-sound (at_word k) found e = cc
answered-sound (at_name q d w o k l) found e = cc
answered-sound (at_dashes q d w o k l m) found e = cc
answered-sound (at_read q d w x o k l m i) found e = cc
answered-sound (at_extends q d w x y c o k l m i j h) found e = cc
answered-sound (at_extended q d w x y ns c v o k l m i j h f) found e = cc
answered-sound (at_unit g) found e = cc
answered-sound (at_line q g k) found e = cc
answered-sound (at_local q g k) found e = cc
answered-sound (at_variable q w c g k h) found e = cc
answered-sound (at_variables q w ns c v g k h f) found e = cc
answered-sound (at_declared q w xs x d b g k h m) found e = cc
answered-sound (at_part q l c g o k h) found e = cc
answered-sound (at_expression q l c g o u e) found h = cc
answered-sound (at_bounds q l g s k m e) found h = cc

pub accepted-derives : (found : ModuleUnits) (lexemes : List Lexeme) → parse lexemes ≡ Some found → DerivesModule found lexemes
accepted-derives found lexemes e = by (run (Some opening) lexemes) (opening-sound lexemes) e
  where
    by : (o : Option State) → GoingOk lexemes o → answer o ≡ Some found → DerivesModule found lexemes
    by None g h = cc
    by (Some s) g h = answered-sound g found h
