-- A module whose words do not lie in its text: a fault of depth stands nowhere there.
use Rattle.std.proofs.Common.{◌≡◌, ℕ, ◌+◌, List, [], ◌∷◌, refl, arith}
use Rattle.std.specs.Prelude.{None, codes}
use Rattle.std.specs.List.{All}
use Rattle.std.specs.Str.{IsCharBoundary}
use Rattle.std.proofs.lemmas.List.Elements.{All-head}
use Rattle.tla_symbols.specs.declared.lexeme.LexKind.{LexKind}
use Rattle.tla_symbols.specs.declared.lexeme.Lexeme.{Lexeme}
use Rattle.tla_symbols.specs.declared.lexeme.Span.{Span}
use Rattle.tla_tree.specs.declared.form.Form.TheVariants as Form
use Rattle.tla_tree.specs.Lexemes.{one}
use Rattle.tla_tree.specs.Syntax.{Tree, Node, Nil}
use Rattle.unit_grammar.specs.Units.{Theorem, ModuleUnits}
use Rattle.tla_model.specs.declared.entity.Entity.TheVariants as entity
use Rattle.tla_model.specs.declared.names.Meaning.TheVariants.{Declared}
use Rattle.tla_model.specs.declared.Diagnostic.{Diagnostic}
use Rattle.tla_model.specs.Lexemes.{LexemesLie, LiesIn}
use Rattle.tla_model.specs.Tables.{Word}
use Rattle.span_laws.specs.NodeSpans.{NodeSpans, SpansText}
use Rattle.tree_kinds.specs.Standing.{Outside}
use Rattle.module_kinds.specs.ModuleKinds.{kind_faults, nowhere}

-- what these lexemes and nodes have for a span
abbrev at : ℕ → ℕ → Span
at from to = record { start = from; end = to }

abbrev name : ℕ → Lexeme
name from = record { kind = LexKind.Name; span = at from (from + 1); line = 0; col = from }

-- D is defined in a module of that name, and too deep for one more use
abbrev deep_file : List ℕ → Outside
deep_file file =
    record nowhere {
      view = record { entries = λ path. (Word (codes "D"), Declared (entity.Definition []) (record { instance = 0; decl = record { «module» = codes "D"; place = 0 }; via = [] })) ∷ []; parameters = [] };
      depths = λ path. record { depth = 1001; replaced = 0 };
    }

abbrev claim : Tree
claim = Node Form.Identifier (at 1 2) (one (Node (Form.Segment (name 1)) (at 1 2) Nil))

-- EXTENDS D | THEOREM D, where the word begins behind its end
abbrev theorem : ModuleUnits
theorem = record { name = name 0; extends = name 1 ∷ []; units = Theorem (record { kind = LexKind.Name; span = at 1 0; line = 0; col = 1 }) None claim ∷ [] }

deep-there : kind_faults deep_file (codes "AD") theorem ≡ record { code = 106; span = at 1 0 } ∷ []
deep-there = refl

-- ---- its names and nodes lie in the text

begin : IsCharBoundary (codes "AD") 0
begin = (omega arith, λ within high. absurd (omega (arith, high)))

middle : IsCharBoundary (codes "AD") 1
middle = (omega arith, λ within high. absurd (omega (arith, high)))

end : IsCharBoundary (codes "AD") 2
end = (omega arith, λ within. absurd (omega (arith, within)))

own-name : LiesIn (codes "AD") (name 0)
own-name = record { order = omega arith; start = begin; end = middle }

other-name : LiesIn (codes "AD") (name 1)
other-name = record { order = omega arith; start = middle; end = end }

there : SpansText (codes "AD") (at 1 2)
there = record { order = omega arith; placed = record { start = middle; end = end } }

names_do_not_suffice : ((files : List ℕ → Outside) (source : List ℕ) (units : ModuleUnits) → LexemesLie source units → NodeSpans (SpansText source) units
    → All (λ (fault : Diagnostic). SpansText source fault.span) (kind_faults files source units)) → ⊥
names_do_not_suffice law =
    let all : All (λ (fault : Diagnostic). SpansText (codes "AD") fault.span) (kind_faults deep_file (codes "AD") theorem) = law deep_file (codes "AD") theorem (own-name, (other-name, (other-name, tt))) ((there, ((there, tt), tt)), tt) in
    let first : SpansText (codes "AD") (at 1 0) = All-head (λ (fault : Diagnostic). SpansText (codes "AD") fault.span) (record { code = 106; span = at 1 0 }) [] all in
    absurd (omega (arith, first.order))
