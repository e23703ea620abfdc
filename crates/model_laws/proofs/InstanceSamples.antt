-- Sample modules with INSTANCE, with what their names mean. They are written as those of `NameSamples` are. Of `files`,
-- P declares a constant c and defines F, Q defines G, and R declares c and has an instance J of P; S declares a constant c
-- and a variable x, and T a constant `+`; X extends Q and declares c. Where modules name one another, each is read over
-- the others.
use Rattle.std.proofs.Common.{◌≡◌, ℕ, List, [], ◌∷◌, refl, map, if◌then◌else◌}
use Rattle.std.specs.Prelude.{◌++◌, None, Some, codes, take}
use Rattle.std.specs.Str.{bytes_eq}
use Rattle.tla_symbols.specs.declared.lexeme.Lexeme.{Lexeme}
use Rattle.tla_symbols.specs.declared.op.Op.TheVariants as Op
use Rattle.tla_tree.specs.declared.form.Form.TheVariants as Form
use Rattle.tla_tree.specs.Syntax.{Tree, Trees, Nil, Cons}
use Rattle.tla_tree.specs.Lexemes.{built, one, two}
use Rattle.unit_grammar.specs.Units.{UnitTree, Variables, Constants, ModuleDefinition, Instance, ModuleBegin}
use Rattle.precedence.specs.Choices.{op_number}
use Rattle.tla_model.specs.declared.names.Finding.TheVariants.{Means, InstanceClashes, NotReplaceable, ReplacedTwice, Unreplaced, Implied}
use Rattle.tla_model.specs.declared.names.Meaning.TheVariants.{Declared}
use Rattle.tla_model.specs.declared.Diagnostic.{Diagnostic}
use Rattle.tla_model.specs.declared.entity.Entity.TheVariants as entity
use Rattle.module_model.specs.Bindings.{faults, implied}
use Rattle.tla_model.specs.Entities.{Meaning}
use Rattle.module_model.specs.Exports.{Exports, Known, ModuleView, entries_from, known_as, none_known, nothing, parameters_in}
use Rattle.module_model.specs.Resolution.{exports_in, findings, outside_in}
use Rattle.tla_model.specs.Scopes.{Finding}
use Rattle.tla_model.specs.Tables.{Word, Symbol}
use Rattle.model_laws.proofs.NameSamples.{at, bare, begin, callee, constant, define, defined, end, identifier, let_in, means, module_of, module_with, name, number, own, segment, sign, taken, three, unknown, value}

-- ---- files

abbrev there : List ℕ → entity.the_data → ℕ → Meaning
there file what place = Declared what (callee file place)

abbrev value_of : entity.the_data
value_of = entity.Definition []

abbrev of_p : Exports
of_p = (Word (codes "c"), there (codes "P") (entity.Constant 0) 0) ∷ (Word (codes "F"), there (codes "P") value_of 1) ∷ []

abbrev of_q : Exports
of_q = (Word (codes "G"), there (codes "Q") value_of 0) ∷ []

abbrev of_r : Exports
of_r = (Word (codes "c"), there (codes "R") (entity.Constant 0) 0) ∷ (Word (codes "J"), there (codes "R") (entity.Instance []) 1) ∷ []

-- behind the instance of P in R
abbrev behind_j : Known
behind_j = known_as (record { «module» = codes "R"; place = 1 }) (entries_from none_known ((Word (codes "F"), there (codes "P") value_of 1) ∷ []))

abbrev files : List ℕ → ModuleView
files file =
    if bytes_eq file (codes "P") then module_of of_p
    else if bytes_eq file (codes "Q") then module_of of_q
    else if bytes_eq file (codes "R") then record { entries = entries_from behind_j of_r; parameters = parameters_in of_r }
    else if bytes_eq file (codes "S") then module_of ((Word (codes "c"), there (codes "S") (entity.Constant 0) 0) ∷ (Word (codes "x"), there (codes "S") entity.Variable 1) ∷ [])
    else if bytes_eq file (codes "T") then module_of ((Word (codes "F"), there (codes "T") value_of 1) ∷ (Symbol Op.Plus, there (codes "T") (entity.Constant 2) 0) ∷ [])
    else if bytes_eq file (codes "X") then module_of ((Word (codes "G"), there (codes "Q") value_of 0) ∷ (Word (codes "c"), there (codes "X") (entity.Constant 0) 0) ∷ [])
    else nothing

abbrev found_with : List Lexeme → List ℕ → List UnitTree → List Finding
found_with extends text units = findings files text (module_with extends units)

abbrev found : List ℕ → List UnitTree → List Finding
found text units = found_with [] text units

-- ---- trees and units

-- `c <- e`, `INSTANCE P WITH ..`, and `I == INSTANCE P WITH ..` with parameters or with none
abbrev with : ℕ → Tree → Tree
with from right = built (Form.Replacement (at from)) (one right) []

abbrev instance : ℕ → Trees → Tree
instance from replacements = built (Form.Instance (at from)) replacements []

abbrev named : ℕ → Trees → Tree
named from parts = built (Form.ModuleDefinition (at from)) parts []

abbrev module_unit : ℕ → Trees → UnitTree
module_unit from parts = ModuleDefinition None (named from parts)

abbrev named_unit : ℕ → Tree → UnitTree
named_unit from x = module_unit from (one x)

abbrev unit : Tree → UnitTree
unit x = Instance None x

-- `I!F`
abbrev path : ℕ → ℕ → Tree
path from to = identifier (two (segment from Nil) (segment to Nil))

-- ---- what names mean

-- what a path of this number calls
abbrev behind : ℕ → Meaning → Meaning
behind which (Declared e c) = Declared e (record c { instance = which })
behind which meaning = meaning

-- through an INSTANCE of M, by how many words stand before it
abbrev by : ℕ → Meaning → Meaning
by place (Declared e c) = Declared e (record c { via = record { «module» = codes "M"; place = place } ∷ [] })
by place meaning = meaning

abbrev p_c : Meaning
p_c = there (codes "P") (entity.Constant 0) 0

abbrev p_f : Meaning
p_f = there (codes "P") value_of 1

abbrev q_g : Meaning
q_g = there (codes "Q") value_of 0

abbrev r_j : Meaning
r_j = there (codes "R") (entity.Instance []) 1

abbrev instance_of_none : entity.the_data
instance_of_none = entity.Instance []

-- ---- named instances

-- I == INSTANCE P WITH c <- 1 | U == I!F | V == I!F
paths_are_counted : found (codes "MIPcUIFVIF") (named_unit 1 (instance 2 (one (with 3 number))) ∷ define 4 (path 5 6) ∷ define 7 (path 8 9) ∷ []) ≡ Means (at 3) p_c ∷ means 5 instance_of_none 0 ∷ Means (at 6) (behind 1 p_f) ∷ means 8 instance_of_none 0 ∷ Means (at 9) (behind 2 p_f) ∷ []
paths_are_counted = refl

-- I == INSTANCE P WITH c <- 1 | U == I!c | V == I!x | W == F
nothing_else_stands_behind : found (codes "MIPcUIcVIxWF") (named_unit 1 (instance 2 (one (with 3 number))) ∷ define 4 (path 5 6) ∷ define 7 (path 8 9) ∷ define 10 (bare 11) ∷ []) ≡ Means (at 3) p_c ∷ means 5 instance_of_none 0 ∷ unknown 6 ∷ means 8 instance_of_none 0 ∷ unknown 9 ∷ unknown 11 ∷ []
nothing_else_stands_behind = refl

-- CONSTANT c | I == INSTANCE P | U == I!F
symbol_of_its_name : found (codes "McIPUIF") (constant 1 ∷ named_unit 2 (instance 3 Nil) ∷ define 4 (path 5 6) ∷ []) ≡ Implied (at 3) p_c (own (entity.Constant 0) 0) ∷ means 5 instance_of_none 1 ∷ Means (at 6) (behind 1 p_f) ∷ []
symbol_of_its_name = refl

-- I(c) == INSTANCE P | U == I(1)!F
parameter_of_its_name : found (codes "MIcPUIF") (module_unit 1 (two (name 2) (instance 3 Nil)) ∷ define 4 (identifier (two (segment 5 (one number)) (segment 6 Nil))) ∷ []) ≡ Implied (at 3) p_c (own (entity.Parameter 0) 1) ∷ means 5 (entity.Instance (0 ∷ [])) 0 ∷ Means (at 6) (behind 1 p_f) ∷ []
parameter_of_its_name = refl

-- I(y) == INSTANCE P WITH c <- y
right_side_in_scope : found (codes "MIyPcy") (module_unit 1 (two (name 2) (instance 3 (one (with 4 (bare 5))))) ∷ []) ≡ Means (at 4) p_c ∷ means 5 (entity.Parameter 0) 1 ∷ []
right_side_in_scope = refl

-- c == INSTANCE P
name_of_the_instance_itself : found (codes "McP") (named_unit 1 (instance 2 Nil) ∷ []) ≡ Unreplaced (at 2) ∷ []
name_of_the_instance_itself = refl

-- VARIABLE y | I == INSTANCE S WITH c <- 1, c <- 2, z <- y
replacements : found (codes "MyISczc") (Variables (at 1 ∷ []) ∷ named_unit 2 (instance 3 (three (with 4 number) (with 6 number) (with 5 (bare 1)))) ∷ []) ≡ Means (at 4) (there (codes "S") (entity.Constant 0) 0) ∷ Means (at 6) (there (codes "S") (entity.Constant 0) 0) ∷ ReplacedTwice (at 6) ∷ NotReplaceable (at 5) ∷ means 1 entity.Variable 0 ∷ Unreplaced (at 3) ∷ []
replacements = refl

-- I == INSTANCE S WITH z <- 1, z <- 1
no_parameter_twice : found (codes "MISzz") (named_unit 1 (instance 2 (two (with 3 number) (with 4 number))) ∷ []) ≡ NotReplaceable (at 3) ∷ NotReplaceable (at 4) ∷ Unreplaced (at 2) ∷ Unreplaced (at 2) ∷ []
no_parameter_twice = refl

-- CONSTANT _ + _ | I == INSTANCE T | F(_ + _) == 1 | J == INSTANCE T WITH + <- +
symbols_are_replaced : found (codes "M+ITJT++") (Constants (one (built (Form.InfixParameter (sign Op.Plus 1)) Nil [])) ∷ named_unit 2 (instance 3 Nil) ∷ named_unit 4 (instance 5 (one (built (Form.Replacement (sign Op.Plus 6)) (one (built (Form.Symbol (sign Op.Plus 7)) Nil [])) []))) ∷ []) ≡ Implied (at 3) (there (codes "T") (entity.Constant 2) 0) (own (entity.Constant 2) 0) ∷ Means (sign Op.Plus 6) (there (codes "T") (entity.Constant 2) 0) ∷ Means (sign Op.Plus 7) (own (entity.Constant 2) 0) ∷ []
unfolding op_number
symbols_are_replaced = refl

-- I == INSTANCE Q | I == 1 | U == I!G
instance_stays : found (codes "MIQIUIG") (named_unit 1 (instance 2 Nil) ∷ defined 3 ∷ define 4 (path 5 6) ∷ []) ≡ taken 3 ∷ means 5 instance_of_none 0 ∷ Means (at 6) (behind 1 q_g) ∷ []
instance_stays = refl

-- U == LET I == INSTANCE P WITH c <- 1 IN I!F | V == I!F
instance_in_let : found (codes "MUIPcIFVIF") (define 1 (let_in (two (named 2 (one (instance 3 (one (with 4 number))))) (path 5 6))) ∷ define 7 (path 8 9) ∷ []) ≡ Means (at 4) p_c ∷ means 5 instance_of_none 1 ∷ Means (at 6) (behind 1 p_f) ∷ unknown 8 ∷ []
instance_in_let = refl

-- K == INSTANCE R WITH c <- 1 | U == K!J!F | V == K!J!x!y | W == K!F
longer_paths : found (codes "MKRcUKJFVKJxyWKF") (named_unit 1 (instance 2 (one (with 3 number))) ∷ define 4 (identifier (three (segment 5 Nil) (segment 6 Nil) (segment 7 Nil))) ∷ define 8 (identifier (Cons (segment 9 Nil) (three (segment 10 Nil) (segment 11 Nil) (segment 12 Nil)))) ∷ define 13 (path 14 15) ∷ []) ≡ Means (at 3) (there (codes "R") (entity.Constant 0) 0) ∷ means 5 instance_of_none 0 ∷ Means (at 6) r_j ∷ Means (at 7) (behind 1 p_f) ∷ means 9 instance_of_none 0 ∷ Means (at 10) r_j ∷ unknown 11 ∷ means 14 instance_of_none 0 ∷ unknown 15 ∷ []
longer_paths = refl

-- K == INSTANCE R WITH c <- 1 | U == K!J
instance_as_the_last_name : found (codes "MKRcUKJ") (named_unit 1 (instance 2 (one (with 3 number))) ∷ define 4 (path 5 6) ∷ []) ≡ Means (at 3) (there (codes "R") (entity.Constant 0) 0) ∷ means 5 instance_of_none 0 ∷ Means (at 6) (behind 1 r_j) ∷ []
instance_as_the_last_name = refl

-- EXTENDS R | U == J!F
instance_of_an_extended_module : found_with (at 1 ∷ []) (codes "MRUJF") (define 2 (path 3 4) ∷ []) ≡ Means (at 3) r_j ∷ Means (at 4) (behind 1 p_f) ∷ []
instance_of_an_extended_module = refl

-- ---- INSTANCE without a name

-- INSTANCE Q | U == G
own_entities : found (codes "MQUG") (unit (instance 1 Nil) ∷ define 2 (bare 3) ∷ []) ≡ Means (at 3) q_g ∷ []
own_entities = refl

-- INSTANCE P WITH c <- 1 | U == F | V == c
other_entities : found (codes "MPcUFVc") (unit (instance 1 (one (with 2 number))) ∷ define 3 (bare 4) ∷ define 5 (bare 6) ∷ []) ≡ Means (at 2) p_c ∷ Means (at 4) (by 0 p_f) ∷ unknown 6 ∷ []
other_entities = refl

-- F == 1 | INSTANCE P WITH c <- 2
clash_of_an_instance : found (codes "MFPc") (defined 1 ∷ unit (instance 2 (one (with 3 number))) ∷ []) ≡ Means (at 3) p_c ∷ InstanceClashes (at 2) ∷ []
clash_of_an_instance = refl

-- EXTENDS Q | INSTANCE Q
same_by_an_instance : found_with (at 1 ∷ []) (codes "MQQ") (unit (instance 2 Nil) ∷ []) ≡ []
same_by_an_instance = refl

-- EXTENDS Q | INSTANCE X WITH c <- 1
another_by_an_instance : found_with (at 1 ∷ []) (codes "MQXc") (unit (instance 2 (one (with 3 number))) ∷ []) ≡ Means (at 3) (there (codes "X") (entity.Constant 0) 0) ∷ InstanceClashes (at 2) ∷ []
another_by_an_instance = refl

-- INSTANCE P WITH c <- 1 | INSTANCE P WITH c <- 1
twice_by_instances : found (codes "MPcPc") (unit (instance 1 (one (with 2 number))) ∷ unit (instance 3 (one (with 4 number))) ∷ []) ≡ Means (at 2) p_c ∷ Means (at 4) p_c ∷ InstanceClashes (at 3) ∷ []
twice_by_instances = refl

-- INSTANCE R WITH c <- 1 | U == J!F
instances_come_along : found (codes "MRcUJF") (unit (instance 1 (one (with 2 number))) ∷ define 3 (path 4 5) ∷ []) ≡ Means (at 2) (there (codes "R") (entity.Constant 0) 0) ∷ Means (at 4) (by 0 r_j) ∷ Means (at 5) (behind 1 p_f) ∷ []
instances_come_along = refl

-- ---- what goes along

-- I == INSTANCE Q | INSTANCE P WITH c <- 1 | LOCAL INSTANCE Q
exported : exports_in files (codes "MIQPcQ") (module_with [] (named_unit 1 (instance 2 Nil) ∷ unit (instance 3 (one (with 4 number))) ∷ Instance (Some (at 0)) (instance 5 Nil) ∷ [])) ≡ (Word (codes "I"), own instance_of_none 0) ∷ (Word (codes "F"), by 1 p_f) ∷ []
exported = refl

-- LOCAL INSTANCE Q | INSTANCE Q
exported_by_one : exports_in files (codes "MQQ") (module_with [] (Instance (Some (at 0)) (instance 1 Nil) ∷ unit (instance 2 Nil) ∷ [])) ≡ (Word (codes "G"), q_g) ∷ []
exported_by_one = refl

-- EXTENDS R | CONSTANT d | I == INSTANCE Q
abbrev to_others : ModuleView
to_others = outside_in files (codes "MRdIQ") (module_with (at 1 ∷ []) (constant 2 ∷ named_unit 3 (instance 4 Nil) ∷ []))

-- the entries at a name that it exports
abbrev behind_there : List ℕ → Exports
behind_there name = to_others.entries (Word name ∷ [])

exports_to_others : to_others.entries [] ≡ (Word (codes "c"), there (codes "R") (entity.Constant 0) 0) ∷ (Word (codes "J"), r_j) ∷ (Word (codes "d"), own (entity.Constant 0) 0) ∷ (Word (codes "I"), own instance_of_none 1) ∷ []
exports_to_others = refl

parameters_to_others : to_others.parameters ≡ (Word (codes "c"), there (codes "R") (entity.Constant 0) 0) ∷ (Word (codes "d"), own (entity.Constant 0) 0) ∷ []
parameters_to_others = refl

behind_own : behind_there (codes "I") ≡ of_q
behind_own = refl

behind_another : behind_there (codes "J") ≡ (Word (codes "F"), p_f) ∷ []
behind_another = refl

behind_none : behind_there (codes "d") ≡ []
behind_none = refl

behind_two_names : to_others.entries (Word (codes "I") ∷ Word (codes "G") ∷ []) ≡ []
behind_two_names = refl

-- ---- nested modules

-- MODULE N | CONSTANT d | F == d | end | I == INSTANCE N WITH d <- 1 | U == I!F
nested_module : found (codes "MNdFdINdUIF") (begin 1 ∷ constant 2 ∷ define 3 (bare 4) ∷ end ∷ named_unit 5 (instance 6 (one (with 7 number))) ∷ define 8 (path 9 10) ∷ []) ≡ means 4 (entity.Constant 0) 1 ∷ means 7 (entity.Constant 0) 1 ∷ means 9 instance_of_none 3 ∷ Means (at 10) (behind 1 (own value 2)) ∷ []
nested_module = refl

-- EXTENDS P | MODULE N EXTENDS P | G == 1 | end | INSTANCE N | U == G | MODULE O | INSTANCE N WITH c <- 1 | end
parameters_round_it_are_none : found_with (at 1 ∷ []) (codes "MPNPGNUGONc") (ModuleBegin (at 0) (at 2) (at 3 ∷ []) ∷ defined 4 ∷ end ∷ unit (instance 5 Nil) ∷ define 6 (bare 7) ∷ begin 8 ∷ unit (instance 9 (one (with 10 number))) ∷ end ∷ []) ≡ means 7 value 1 ∷ NotReplaceable (at 10) ∷ []
parameters_round_it_are_none = refl

-- MODULE N | MODULE O | CONSTANT d | end | end | MODULE O | CONSTANT e | end | I == INSTANCE O
nested_module_that_is_visible : found (codes "MNOdOeIO") (begin 1 ∷ begin 2 ∷ constant 3 ∷ end ∷ end ∷ begin 4 ∷ constant 5 ∷ end ∷ named_unit 6 (instance 7 (one (with 5 number))) ∷ []) ≡ means 5 (entity.Constant 0) 4 ∷ []
nested_module_that_is_visible = refl

-- ---- modules that name one another

-- these files, and the module of this text over them; its name is the first letter
abbrev read : List ℕ → List Lexeme → List UnitTree → (List ℕ → ModuleView) → List ℕ → ModuleView
read text extends units others file = if bytes_eq file (take 1 text) then outside_in others text (module_with extends units) else others file

abbrev none : List ℕ → ModuleView
none file = nothing

-- what another module names as an instance, and what it defines
abbrev instance_there : List ℕ → ℕ → Meaning
instance_there file place = there file instance_of_none place

abbrev value_there : List ℕ → ℕ → Meaning
value_there file place = there file value_of place

-- `I!J!F`
abbrev long_path : ℕ → ℕ → ℕ → Tree
long_path first second third = identifier (three (segment first Nil) (segment second Nil) (segment third Nil))

-- P: G == 1. Q: H == 1
abbrev with_values : List ℕ → ModuleView
with_values = read (codes "QH") [] (defined 1 ∷ []) (read (codes "PG") [] (defined 1 ∷ []) none)

-- M: I == INSTANCE of this file. B: LOCAL INSTANCE M | F == 1. C: EXTENDS B
abbrev with_instance_of : List ℕ → List ℕ → ModuleView
with_instance_of file =
    read (codes "CB") (at 1 ∷ []) [] (
    read (codes "BMF") [] (Instance (Some (at 0)) (instance 1 Nil) ∷ defined 2 ∷ []) (
    read (codes "MI" ++ file) [] (named_unit 1 (instance 2 Nil) ∷ []) with_values))

-- D: EXTENDS C, M | U == I!G
abbrev found_behind_both : List ℕ → List Finding
found_behind_both file = findings (with_instance_of file) (codes "DCMUIG") (module_with (at 1 ∷ at 2 ∷ []) (define 3 (path 4 5) ∷ []))

-- M: I == INSTANCE P
instance_by_extends : found_behind_both (codes "P") ≡ Means (at 4) (instance_there (codes "M") 0) ∷ Means (at 5) (behind 1 (value_there (codes "P") 0)) ∷ []
instance_by_extends = refl

-- M: I == INSTANCE Q
instance_of_another_module : faults (found_behind_both (codes "Q")) ≡ record { code = 401; span = record { start = 5; end = 6 } } ∷ []
instance_of_another_module = refl

-- C is the same to others, whatever I is in M
local_instances_tell_nothing : with_instance_of (codes "P") (codes "C") ≡ with_instance_of (codes "Q") (codes "C")
local_instances_tell_nothing = refl

-- and nothing stands at I in B
nothing_at_local_names : (with_instance_of (codes "Q") (codes "B")).entries (Word (codes "I") ∷ []) ≡ []
nothing_at_local_names = refl

-- Q: F == 1 | H == 1. P: MODULE L EXTENDS Q | end | G == 1. N: EXTENDS P. M: EXTENDS N | I == INSTANCE Q
abbrev with_nested : List ℕ → ModuleView
with_nested =
    read (codes "MNIQ") (at 1 ∷ []) (named_unit 2 (instance 3 Nil) ∷ []) (
    read (codes "NP") (at 1 ∷ []) [] (
    read (codes "PLQG") [] (ModuleBegin (at 0) (at 1) (at 2 ∷ []) ∷ end ∷ defined 3 ∷ []) (
    read (codes "QFH") [] (defined 1 ∷ defined 2 ∷ []) none)))

-- O: EXTENDS M | U == I!H
extended_by_a_nested_module_too : findings with_nested (codes "OMUIH") (module_with (at 1 ∷ []) (define 2 (path 3 4) ∷ [])) ≡ Means (at 3) (instance_there (codes "M") 0) ∷ Means (at 4) (behind 1 (value_there (codes "Q") 1)) ∷ []
extended_by_a_nested_module_too = refl

-- B: CONSTANT c | F == c
abbrev with_constant : List ℕ → ModuleView
with_constant = read (codes "BcFc") [] (constant 1 ∷ define 2 (bare 3) ∷ []) none

-- A: EXTENDS B | MODULE N EXTENDS B | G == F | end | I == INSTANCE N WITH c <- 1
constant_of_both_is_not_replaced : faults (findings with_constant (codes "ABNBGFINc") (module_with (at 1 ∷ []) (ModuleBegin (at 0) (at 2) (at 3 ∷ []) ∷ define 4 (bare 5) ∷ end ∷ named_unit 6 (instance 7 (one (with 8 number))) ∷ []))) ≡ record { code = 405; span = record { start = 8; end = 9 } } ∷ []
constant_of_both_is_not_replaced = refl

-- Q: G == 1. S: J == INSTANCE Q. R: EXTENDS S
abbrev with_paths : List ℕ → ModuleView
with_paths =
    read (codes "RS") (at 1 ∷ []) [] (
    read (codes "SJQ") [] (named_unit 1 (instance 2 Nil) ∷ []) (
    read (codes "QG") [] (defined 1 ∷ []) none))

abbrev s_j : Meaning
s_j = instance_there (codes "S") 0

-- K == INSTANCE R | U == K!J!G
through_two_instances : findings with_paths (codes "MKRUKJG") (module_with [] (named_unit 1 (instance 2 Nil) ∷ define 3 (long_path 4 5 6) ∷ [])) ≡ means 4 instance_of_none 0 ∷ Means (at 5) s_j ∷ Means (at 6) (behind 1 q_g) ∷ []
through_two_instances = refl

-- K == INSTANCE R | U == K!G!J
segment_that_is_not_there : findings with_paths (codes "MKRUKGJ") (module_with [] (named_unit 1 (instance 2 Nil) ∷ define 3 (long_path 4 5 6) ∷ [])) ≡ means 4 instance_of_none 0 ∷ unknown 5 ∷ []
segment_that_is_not_there = refl

-- INSTANCE R | U == J!G
brought_with_what_stands_behind : findings with_paths (codes "MRUJG") (module_with [] (unit (instance 1 Nil) ∷ define 2 (path 3 4) ∷ [])) ≡ Means (at 3) s_j ∷ Means (at 4) (behind 1 q_g) ∷ []
brought_with_what_stands_behind = refl

-- U == LET K == INSTANCE R IN K!J!G | V == K!J
paths_in_let : findings with_paths (codes "MUKRKJGVKJ") (module_with [] (define 1 (let_in (two (named 2 (one (instance 3 Nil))) (long_path 4 5 6))) ∷ define 7 (path 8 9) ∷ [])) ≡ means 4 instance_of_none 1 ∷ Means (at 5) s_j ∷ Means (at 6) (behind 1 q_g) ∷ unknown 8 ∷ []
paths_in_let = refl

-- MODULE N | J == INSTANCE Q | end | K == INSTANCE N | U == K!J!G
instance_in_a_nested_module : findings with_paths (codes "MNJQKNUKJG") (module_with [] (begin 1 ∷ named_unit 2 (instance 3 Nil) ∷ end ∷ named_unit 4 (instance 5 Nil) ∷ define 6 (long_path 7 8 9) ∷ [])) ≡ means 7 instance_of_none 2 ∷ Means (at 8) (own instance_of_none 1) ∷ Means (at 9) (behind 1 q_g) ∷ []
instance_in_a_nested_module = refl

-- MODULE N | LOCAL J == INSTANCE Q | end | K == INSTANCE N | U == K!J!G
local_instance_in_a_nested_module : findings with_paths (codes "MNJQKNUKJG") (module_with [] (begin 1 ∷ ModuleDefinition (Some (at 0)) (named 2 (one (instance 3 Nil))) ∷ end ∷ named_unit 4 (instance 5 Nil) ∷ define 6 (long_path 7 8 9) ∷ [])) ≡ means 7 instance_of_none 2 ∷ unknown 8 ∷ []
local_instance_in_a_nested_module = refl

-- ---- faults

-- VARIABLE y | I == INSTANCE S WITH c <- 1, c <- 2, z <- y
codes_of_faults : map (λ (fault : Diagnostic). fault.code) (faults (found (codes "MyISczc") (Variables (at 1 ∷ []) ∷ named_unit 2 (instance 3 (three (with 4 number) (with 6 number) (with 5 (bare 1)))) ∷ []))) ≡ 406 ∷ 405 ∷ 407 ∷ []
codes_of_faults = refl

-- CONSTANT c | I == INSTANCE P
replaced_by_symbols : implied (found (codes "McIP") (constant 1 ∷ named_unit 2 (instance 3 Nil) ∷ [])) ≡ record { at = record { start = 3; end = 4 }; parameter = entity.Constant 0; symbol = entity.Constant 0; callee = callee (codes "M") 0 } ∷ []
replaced_by_symbols = refl
