-- Sample modules with what they need. Names are letters of one text; a place in it is a lexeme.
use Rattle.std.proofs.Common.{◌≡◌, ℕ, ◌+◌, List, [], ◌∷◌, refl}
use Rattle.std.specs.Prelude.{None, codes}
use Rattle.tla_symbols.specs.declared.lexeme.LexKind.{LexKind}
use Rattle.tla_symbols.specs.declared.lexeme.Lexeme.{Lexeme}
use Rattle.tla_tree.specs.declared.form.Form.TheVariants as Form
use Rattle.tla_tree.specs.Syntax.{Tree, Nil}
use Rattle.tla_tree.specs.Lexemes.{built, one, two}
use Rattle.unit_grammar.specs.Units.{UnitTree, OperatorDefinition, ModuleDefinition, Instance, ModuleBegin, ModuleEnd}
use Rattle.module_graph.specs.Imports.{imports_of}

-- A, B, C and N at 0 to 3, and once more at 4 to 7
abbrev pub text : List ℕ
text = codes "ABCNABCN"

abbrev pub at : ℕ → Lexeme
at from = record { kind = LexKind.Name; span = record { start = from; end = from + 1 }; line = 0; col = from }

-- the needs of A, as places
abbrev needs : List ℕ → List UnitTree → List Lexeme
needs extended units = imports_of text (record { name = at 0; extends = places extended; units = units })
  where
    places : List ℕ → List Lexeme
    places [] = []
    places (from ∷ rest) = at from ∷ places rest

-- INSTANCE N, I == INSTANCE N, and a nested module's ends
abbrev instance : ℕ → UnitTree
instance from = Instance None (built (Form.Instance (at from)) Nil [])

abbrev begin : ℕ → UnitTree
begin from = ModuleBegin (at 0) (at from) []

abbrev end : UnitTree
end = ModuleEnd (at 0)

-- EXTENDS B, C | INSTANCE N
all_in_order : needs (1 ∷ 2 ∷ []) (instance 3 ∷ []) ≡ at 1 ∷ at 2 ∷ at 3 ∷ []
all_in_order = refl

-- MODULE B EXTENDS N | INSTANCE C | end | INSTANCE B | INSTANCE C
nested_answers : needs [] (ModuleBegin (at 0) (at 1) (at 3 ∷ []) ∷ instance 2 ∷ end ∷ instance 5 ∷ instance 6 ∷ []) ≡ at 3 ∷ at 2 ∷ at 6 ∷ []
nested_answers = refl

-- INSTANCE B | MODULE B | end
too_early : needs [] (instance 1 ∷ begin 5 ∷ end ∷ []) ≡ at 1 ∷ []
too_early = refl

-- MODULE B EXTENDS B | INSTANCE B | end
not_itself : needs [] (ModuleBegin (at 0) (at 1) (at 5 ∷ []) ∷ instance 5 ∷ end ∷ []) ≡ []
not_itself = refl

-- MODULE B | MODULE C | end | INSTANCE C | end | INSTANCE C
seen_in_its_module_alone : needs [] (begin 1 ∷ begin 2 ∷ end ∷ instance 2 ∷ end ∷ instance 6 ∷ []) ≡ at 6 ∷ []
seen_in_its_module_alone = refl

-- MODULE B | end | MODULE C | INSTANCE B | end
seen_inside : needs [] (begin 1 ∷ end ∷ begin 2 ∷ instance 5 ∷ end ∷ []) ≡ []
seen_inside = refl

-- MODULE B | end | MODULE C | MODULE B | end | end | INSTANCE B
first_one_stays : needs [] (begin 1 ∷ end ∷ begin 2 ∷ begin 5 ∷ end ∷ end ∷ instance 5 ∷ []) ≡ []
first_one_stays = refl

-- MODULE B | MODULE B | end | end | INSTANCE B
named_as_round_it : needs [] (begin 1 ∷ begin 5 ∷ end ∷ end ∷ instance 5 ∷ []) ≡ []
named_as_round_it = refl

-- EXTENDS A | MODULE A | INSTANCE A | end | INSTANCE A
own_name : needs (0 ∷ []) (begin 4 ∷ instance 4 ∷ end ∷ instance 4 ∷ []) ≡ at 0 ∷ at 4 ∷ []
own_name = refl

-- U == LET B == INSTANCE B WITH x <- LET C == INSTANCE C IN x IN x | C == INSTANCE N
abbrev let_of : Tree → Tree
let_of definition = built Form.Let (two (built (Form.ModuleDefinition (at 0)) (one definition) []) (built Form.Identifier Nil [])) []

inside_definitions : needs [] (OperatorDefinition None (built (Form.OperatorDefinition (at 0)) (one (let_of (built (Form.Instance (at 1)) (one (built (Form.Replacement (at 0)) (one (let_of (built (Form.Instance (at 2)) Nil []))) [])) []))) []) ∷ ModuleDefinition None (built (Form.ModuleDefinition (at 2)) (one (built (Form.Instance (at 3)) Nil [])) []) ∷ []) ≡ at 1 ∷ at 2 ∷ at 3 ∷ []
inside_definitions = refl
