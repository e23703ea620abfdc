-- Small modules with the depths of what they define.
use Rattle.std.proofs.Common.{◌≡◌, ℕ, List, [], ◌∷◌, true, false, refl}
use Rattle.std.specs.Prelude.{None, codes}
use Rattle.tla_tree.specs.declared.form.Form.TheVariants as Form
use Rattle.tla_tree.specs.Lexemes.{one, two}
use Rattle.tla_tree.specs.Syntax.{Nil}
use Rattle.unit_grammar.specs.Units.{UnitTree, Instance}
use Rattle.tla_model.specs.Tables.{Word}
use Rattle.tree_kinds.specs.Standing.{Outside}
use Rattle.tree_kinds.specs.TreeDepths.{is_too_deep}
use Rattle.module_kinds.specs.ModuleKinds.{outside}
use Rattle.module_kinds.proofs.Trees.{and_file, at, bare, call, constant, define, instance, let_in, module_with, name, named_unit, no_files, node, number, operator, operator_of, path, tuple, with}

-- the depth of what this name of a module stands for
abbrev depth_in : (List ℕ → Outside) → List ℕ → List UnitTree → List ℕ → ℕ
depth_in files text units name = ((outside files text (module_with [] units)).depths (Word name ∷ [])).depth

-- D == 1 | E == <<D, D>>
abbrev chain : List UnitTree
chain = define 1 number ∷ define 2 (tuple 3 5 (two (bare 3) (bare 4))) ∷ []

definitions_lead_down : depth_in no_files (codes "ADEDD") chain (codes "E") ≡ 2
definitions_lead_down = refl

-- D == 1 | F(G(_)) == G(1) | K(n) == D | U == F(K) | V == K(D)
abbrev operators : List UnitTree
operators = define 1 number ∷ operator 2 (two (node (Form.OperatorParameter (at 3) 1) 3 4 Nil) (call 4 5 (one number))) ∷ operator 5 (two (name 6) (bare 7)) ∷ define 8 (call 9 11 (one (bare 10))) ∷ define 11 (call 12 14 (one (bare 13))) ∷ []

operator_arguments_count : depth_in no_files (codes "ADFGGKnDUFKVKD") operators (codes "U") ≡ 4
operator_arguments_count = refl

expressions_as_arguments : depth_in no_files (codes "ADFGGKnDUFKVKD") operators (codes "V") ≡ 3
expressions_as_arguments = refl

-- U == LET D == 1 IN LET E == D IN 1
unused_definitions_count : depth_in no_files (codes "AUDED") (define 1 (let_in 2 5 (two (operator_of 2 (one number)) (let_in 3 5 (two (operator_of 3 (one (bare 4))) number)))) ∷ []) (codes "U") ≡ 2
unused_definitions_count = refl

-- P: CONSTANT c | F == c
abbrev constants : List ℕ → Outside
constants = and_file no_files (codes "P") (outside no_files (codes "PcFc") (module_with [] (constant 1 ∷ define 2 (bare 3) ∷ [])))

-- D == 1 | I == INSTANCE P WITH c <- D | U == I!F
replacements_count : depth_in constants (codes "ADIPcDUIF") (define 1 number ∷ named_unit 2 (one (instance 3 (one (with 4 (bare 5))))) ∷ define 6 (path 7 8) ∷ []) (codes "U") ≡ 3
replacements_count = refl

-- D == 1 | INSTANCE P WITH c <- D | U == F
without_a_name : depth_in constants (codes "ADPcDUF") (define 1 number ∷ Instance None (instance 2 (one (with 3 (bare 4)))) ∷ define 5 (bare 6) ∷ []) (codes "U") ≡ 3
without_a_name = refl

-- ---- the bound

not_too_deep : is_too_deep 1000 ≡ false
not_too_deep = refl

one_too_deep : is_too_deep 1001 ≡ true
one_too_deep = refl
