-- Small modules with their faults of levels, and the levels of their uses.
use Rattle.std.proofs.Common.{◌≡◌, ℕ, ◌+◌, List, [], ◌∷◌, refl}
use Rattle.std.specs.Prelude.{None, codes}
use Rattle.tla_symbols.specs.declared.op.Op.TheVariants as Op
use Rattle.tla_tree.specs.declared.form.Form.TheVariants as Form
use Rattle.tla_tree.specs.Lexemes.{one, two}
use Rattle.tla_tree.specs.Syntax.{Nil}
use Rattle.unit_grammar.specs.Units.{UnitTree, OperatorDefinition, FunctionDefinition, Instance, Assumption, Theorem}
use Rattle.precedence.specs.Choices.{op_number}
use Rattle.tla_model.specs.declared.entity.Level.{Level}
use Rattle.tree_kinds.specs.Standing.{Outside}
use Rattle.module_kinds.specs.ModuleKinds.{outside}
use Rattle.module_kinds.proofs.Trees.{always, and_file, at, bare, begin, both, bound, call, constant, define, end, equal, fault, faults, instance, let_in, levels_at, module_with, name, named_unit, no_files, node, number, operator, operator_of, path, primed, segment, sign, square, three, tuple, variable, with}

-- ---- uses of definitions

-- VARIABLE v | N == v' = v | F(P) == []P | G == F([N]_v) | H == F(v' = 1)
judged_at_each_use : faults no_files (codes "AvNvvFPPGFNvHFv") (variable 1 ∷ define 2 (equal 3 5 (primed 3 4 (bare 3)) (bare 4)) ∷ operator 5 (two (name 6) (always 7 8 (bare 7))) ∷ define 8 (call 9 12 (one (square 10 12 (bare 10) (bare 11)))) ∷ define 12 (call 13 16 (one (equal 14 16 (primed 14 15 (bare 14)) number))) ∷ []) ≡ fault 601 13 16 ∷ []
judged_at_each_use = refl

-- VARIABLE v | F(G(_)) == G(1) | H(x) == LET K(n) == <<x, n>> IN F(K) | U == H(v) | V == H(v')'
operators_of_a_let : faults no_files (codes "AvFGGHxKnxnFKUHvVHv") (variable 1 ∷ operator 2 (two (node (Form.OperatorParameter (at 3) 1) 3 4 Nil) (call 4 5 (one number))) ∷ operator 5 (two (name 6) (let_in 7 13 (two (operator_of 7 (two (name 8) (tuple 9 11 (two (bare 9) (bare 10))))) (call 11 13 (one (bare 12)))))) ∷ define 13 (call 14 16 (one (bare 15))) ∷ define 16 (primed 17 20 (call 17 19 (one (primed 18 19 (bare 18))))) ∷ []) ≡ fault 601 17 20 ∷ []
operators_of_a_let = refl

-- F(G(_)) == G(1) | U == F(') | K(y) == y'' | V == F(K)
bare_operators : faults no_files (codes "AFGGUFKyyVFK") (operator 1 (two (node (Form.OperatorParameter (at 2) 1) 2 3 Nil) (call 3 4 (one number))) ∷ define 4 (call 5 6 (one (node (Form.Symbol (sign Op.Prime 20)) 20 21 Nil))) ∷ operator 6 (two (name 7) (primed 8 10 (primed 8 9 (bare 8)))) ∷ define 9 (call 10 12 (one (bare 11))) ∷ []) ≡ fault 601 8 10 ∷ fault 601 11 12 ∷ []
bare_operators = refl

-- VARIABLE v | U == [v EXCEPT ![1] = @'] | V == [v' EXCEPT ![1] = @']
old_values : faults no_files (codes "AvUvVv") (variable 1 ∷ define 2 (node Form.Except 3 4 (two (bare 3) (node Form.Update 3 4 (two (node Form.IndexStep 3 4 (one number)) (primed 13 14 (node (Form.At (at 9)) 9 10 Nil)))))) ∷ define 4 (node Form.Except 5 6 (two (primed 5 6 (bare 5)) (node Form.Update 5 6 (two (node Form.IndexStep 5 6 (one number)) (primed 15 16 (node (Form.At (at 9)) 9 10 Nil)))))) ∷ []) ≡ fault 601 15 16 ∷ []
old_values = refl

-- VARIABLE v | U == \A x \in v : []v | V == \A x \in []v : v | f[x \in v] == []v
sets_of_bounds : faults no_files (codes "AvUxvvVxvvfxvv") (variable 1 ∷ define 2 (node (Form.BoundedQuantifier (at 0)) 20 21 (two (bound 3 (bare 4)) (always 5 6 (bare 5)))) ∷ define 6 (node (Form.BoundedQuantifier (at 0)) 22 23 (two (bound 7 (always 8 9 (bare 8))) (bare 9))) ∷ FunctionDefinition None (node (Form.FunctionDefinition (at 10)) 10 14 (two (bound 11 (bare 12)) (always 13 14 (bare 13)))) ∷ []) ≡ fault 601 22 23 ∷ fault 601 10 14 ∷ []
sets_of_bounds = refl

-- VARIABLE y | ASSUME y = 1 | ASSUME 1 = 1
not_constant : faults no_files (codes "Ayy") (variable 1 ∷ Assumption (at 0) None (equal 2 4 (bare 2) number) ∷ Assumption (at 0) None (equal 5 6 number number) ∷ []) ≡ fault 602 2 4 ∷ []
not_constant = refl

-- ---- instances with names

-- M: VARIABLE x | F == x' = 1
abbrev primes : List ℕ → Outside
primes = and_file no_files (codes "M") (outside no_files (codes "MxFx") (module_with [] (variable 1 ∷ define 2 (equal 3 5 (primed 3 4 (bare 3)) number) ∷ [])))

-- VARIABLE y | I(p) == INSTANCE M WITH x <- p | U == I(y')!F | V == I(y)!F
argument_too_high : faults primes (codes "AyIpMxpUIyFVIyF") (variable 1 ∷ named_unit 2 (two (name 3) (instance 4 (one (with 5 (bare 6))))) ∷ define 7 (node Form.Identifier 8 11 (two (segment 8 (one (primed 9 10 (bare 9)))) (segment 10 Nil))) ∷ define 11 (node Form.Identifier 12 15 (two (segment 12 (one (bare 13))) (segment 14 Nil))) ∷ []) ≡ fault 601 8 11 ∷ []
argument_too_high = refl

-- M: CONSTANT c | VARIABLE x
abbrev symbols : List ℕ → Outside
symbols = and_file no_files (codes "M") (outside no_files (codes "Mcx") (module_with [] (constant 1 ∷ variable 2 ∷ [])))

-- VARIABLE y | ASSUME y = 1 | I == INSTANCE M WITH c <- y, x <- y
replacement_too_high : faults symbols (codes "AyyIMcyxy") (variable 1 ∷ Assumption (at 0) None (equal 2 4 (bare 2) number) ∷ named_unit 3 (one (instance 4 (two (with 5 (bare 6)) (with 7 (bare 8))))) ∷ []) ≡ fault 602 2 4 ∷ fault 603 6 7 ∷ []
replacement_too_high = refl

-- VARIABLE c | I == INSTANCE M WITH x <- c
implied_too_high : faults symbols (codes "AcIMxc") (variable 1 ∷ named_unit 2 (one (instance 3 (one (with 4 (bare 5))))) ∷ []) ≡ fault 603 3 4 ∷ []
implied_too_high = refl

-- P: CONSTANT c | F == c
abbrev constants : List ℕ → Outside
constants = and_file no_files (codes "P") (outside no_files (codes "PcFc") (module_with [] (constant 1 ∷ define 2 (bare 3) ∷ [])))

-- VARIABLE y | I == INSTANCE P WITH c <- y' | J == INSTANCE P WITH c <- []y | U == I!F
of_a_constant_module : faults constants (codes "AyIPcyJPcyUIF") (variable 1 ∷ named_unit 2 (one (instance 3 (one (with 4 (primed 5 6 (bare 5)))))) ∷ named_unit 6 (one (instance 7 (one (with 8 (always 9 10 (bare 9)))))) ∷ define 10 (path 11 12) ∷ []) ≡ fault 603 9 10 ∷ []
of_a_constant_module = refl

-- Q: VARIABLE z | J(p) == INSTANCE P WITH c <- p
abbrev two_deep : List ℕ → Outside
two_deep = and_file constants (codes "Q") (outside constants (codes "QzJpPcp") (module_with [] (variable 1 ∷ named_unit 2 (two (name 3) (instance 4 (one (with 5 (bare 6))))) ∷ [])))

-- VARIABLE y | K == INSTANCE Q WITH z <- y | U == K!J(y)!F | V == K!J([]y)!F
along_two_instances : faults two_deep (codes "AyKQzyUKJyFVKJyF") (variable 1 ∷ named_unit 2 (one (instance 3 (one (with 4 (bare 5))))) ∷ define 6 (node Form.Identifier 7 11 (three (segment 7 Nil) (segment 8 (one (bare 9))) (segment 10 Nil))) ∷ define 11 (node Form.Identifier 12 16 (three (segment 12 Nil) (segment 13 (one (always 14 15 (bare 14)))) (segment 15 Nil))) ∷ []) ≡ fault 601 12 16 ∷ []
along_two_instances = refl

-- ---- levels of uses

-- M: VARIABLE x | F == x | G == F
abbrev uses : List ℕ → Outside
uses = and_file no_files (codes "M") (outside no_files (codes "MxFxGF") (module_with [] (variable 1 ∷ define 2 (bare 3) ∷ define 4 (bare 5) ∷ [])))

in_the_module : levels_at no_files (codes "MxFxGF") (module_with [] (variable 1 ∷ define 2 (bare 3) ∷ define 4 (bare 5) ∷ [])) (3 ∷ 5 ∷ []) ≡ Level.State ∷ Level.State ∷ []
in_the_module = refl

-- I == INSTANCE M WITH x <- 1 | U == I!G
through_an_instance : levels_at uses (codes "AIMxUIG") (module_with [] (named_unit 1 (one (instance 2 (one (with 3 number)))) ∷ define 4 (path 5 6) ∷ [])) (3 ∷ 5 ∷ 6 ∷ []) ≡ Level.State ∷ Level.Instance ∷ Level.Constant ∷ []
through_an_instance = refl

-- INSTANCE M WITH x <- 1 | U == G | V == G'
without_a_name : levels_at uses (codes "AMxUGVG") (module_with [] (Instance None (instance 1 (one (with 2 number))) ∷ define 3 (bare 4) ∷ define 5 (primed 6 7 (bare 6)) ∷ [])) (4 ∷ 6 ∷ []) ≡ Level.Constant ∷ Level.Constant ∷ []
without_a_name = refl

-- EXTENDS M | U == G, and an instance of that with x <- 1
extended : levels_at uses (codes "BMUG") (module_with (at 1 ∷ []) (define 2 (bare 3) ∷ [])) (3 ∷ []) ≡ Level.State ∷ []
extended = refl

abbrev extending : List ℕ → Outside
extending = and_file uses (codes "B") (outside uses (codes "BMUG") (module_with (at 1 ∷ []) (define 2 (bare 3) ∷ [])))

instance_of_what_extends : levels_at extending (codes "AIBxVIU") (module_with [] (named_unit 1 (one (instance 2 (one (with 3 number)))) ∷ define 4 (path 5 6) ∷ [])) (3 ∷ 6 ∷ []) ≡ Level.State ∷ Level.Constant ∷ []
instance_of_what_extends = refl

-- VARIABLE v | MODULE N | VARIABLE x | F == x | G == v | end | I == INSTANCE N WITH x <- 1 | U == <<I!F, I!G>>
nested_module : levels_at no_files (codes "AvNxFxGvINxUIFIG") (module_with [] (variable 1 ∷ begin 2 ∷ variable 3 ∷ define 4 (bare 5) ∷ define 6 (bare 7) ∷ end ∷ named_unit 8 (one (instance 9 (one (with 10 number)))) ∷ define 11 (tuple 12 16 (two (path 12 13) (path 14 15))) ∷ [])) (5 ∷ 13 ∷ 15 ∷ []) ≡ Level.State ∷ Level.Constant ∷ Level.State ∷ []
nested_module = refl

-- a op b == CHOOSE n : n = <<a, b>>, with the symbol and these names one after another
abbrev infix_defined : Op.the_data → ℕ → UnitTree
infix_defined op from = OperatorDefinition None (node (Form.InfixDefinition (sign op from)) from (from + 1) (three (name (from + 1)) (name (from + 2)) (node Form.Choose from (from + 1) (two (name (from + 3)) (equal from (from + 1) (bare (from + 3)) (tuple from (from + 1) (two (bare (from + 1)) (bare (from + 2)))))))))

-- R: a .. b and a + b
abbrev numbers : List ℕ → Outside
numbers = and_file no_files (codes "R") (outside no_files (codes "R.abn+abn") (module_with [] (infix_defined Op.DotDot 1 ∷ infix_defined Op.Plus 5 ∷ [])))

-- EXTENDS R | VARIABLE h | I == h \in (1 .. 1) | N == h' = IF h # 1 THEN h + 1 ELSE 1 | S == I /\ [][N]_h /\ WF_h(N) | THEOREM S => []I
clock : levels_at numbers (codes "CRhIh.Nhhh+SINhhNSI") (module_with (at 1 ∷ []) (variable 2 ∷ define 3 (node (Form.Infix (sign Op.In 0)) 4 6 (two (bare 4) (node Form.Parentheses 5 6 (one (node (Form.Infix (sign Op.DotDot 5)) 5 6 (two number number)))))) ∷ define 6 (equal 7 11 (primed 7 8 (bare 7)) (node Form.IfThenElse 8 11 (three (node (Form.Infix (sign Op.NotEqual 0)) 8 9 (two (bare 8) number)) (node (Form.Infix (sign Op.Plus 10)) 9 11 (two (bare 9) number)) number))) ∷ define 11 (both 12 17 (both 12 15 (bare 12) (always 13 15 (square 13 15 (bare 13) (bare 14)))) (node (Form.Fairness (at 0)) 15 17 (two (bare 15) (bare 16)))) ∷ Theorem (at 0) None (node (Form.Infix (sign Op.Implies 0)) 17 19 (two (bare 17) (always 18 19 (bare 18)))) ∷ [])) (4 ∷ 5 ∷ 7 ∷ 8 ∷ 9 ∷ 10 ∷ 12 ∷ 13 ∷ 14 ∷ 15 ∷ 16 ∷ 17 ∷ 18 ∷ []) ≡ Level.State ∷ Level.Constant ∷ Level.State ∷ Level.State ∷ Level.State ∷ Level.State ∷ Level.State ∷ Level.Action ∷ Level.State ∷ Level.State ∷ Level.Action ∷ Level.Temporal ∷ Level.State ∷ []
unfolding op_number
clock = refl
