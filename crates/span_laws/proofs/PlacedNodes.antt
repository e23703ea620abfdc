-- The nodes of a module that is read lie in its text.
use Rattle.std.proofs.Common.{ℕ, suc, ◌≤◌, List, [], ◌∷◌, ◌++◌, sym, subst, arith}
use Rattle.std.specs.Str.{IsCharBoundary}
use Rattle.std.specs.List.{AllByRecursion}
use Rattle.tla_symbols.specs.declared.lexeme.Lexeme.{Lexeme}
use Rattle.tla_symbols.specs.declared.lexeme.Span.{Span}
use Rattle.tla_lexeme.specs.Longest.{ReadsLongest}
use Rattle.tla_tree.specs.Lexemes.{place, end_of}
use Rattle.unit_heights.specs.FirstHigh.{BeginsFurther}
use Rattle.front_laws.proofs.TextGrows.{text-further}
use Rattle.tla_tree.specs.Syntax.{Tree, Trees, Node, Nil, Cons}
use Rattle.unit_grammar.specs.Units.{UnitTree, Constants, OperatorDefinition, FunctionDefinition, ModuleDefinition, Instance, Assumption, Theorem, ModuleUnits}
use Rattle.unit_grammar.specs.Derivation.{DerivesModule, outermost}
use Rattle.front_laws.specs.Fronts.{Tree as Whole, IsFront, read, whole}
use Rattle.span_laws.specs.NodeSpans.{SpansLexemes, SpansText, TreeSpans, PartSpans, UnitSpans, NodeSpans}
use Rattle.span_laws.proofs.CoversUnits.{nodes-span-lexemes}
use Rattle.span_laws.proofs.Placing.{Lie, EndsClosed, closed-append, text-lies}

-- ---- what follows of spans holds of those of all nodes

module _ (P Q : Span → Type 0) (f : (span : Span) → P span → Q span) where
  mutual
    tree-follows : (x : Tree) → TreeSpans P x → TreeSpans Q x
    tree-follows (Node form span parts) h = (f span h.0, parts-follow parts h.1)

    parts-follow : (xs : Trees) → PartSpans P xs → PartSpans Q xs
    parts-follow Nil h = tt
    parts-follow (Cons x xs) h = (tree-follows x h.0, parts-follow xs h.1)

  unit-follows : (unit : UnitTree) → UnitSpans P unit → UnitSpans Q unit
  unit-follows (Constants declarations) h = parts-follow declarations h
  unit-follows (OperatorDefinition local definition) h = tree-follows definition h
  unit-follows (FunctionDefinition local definition) h = tree-follows definition h
  unit-follows (ModuleDefinition local definition) h = tree-follows definition h
  unit-follows (Instance local instance) h = tree-follows instance h
  unit-follows (Assumption word name claim) h = tree-follows claim h
  unit-follows (Theorem word name claim) h = tree-follows claim h
  unit-follows _ h = tt

  units-follow : (units : List UnitTree) → AllByRecursion (UnitSpans P) units → AllByRecursion (UnitSpans Q) units
  units-follow [] h = tt
  units-follow (unit ∷ units) h = (unit-follows unit h.0, units-follow units h.1)

-- ---- of a module

module-closed : {found : ModuleUnits} {lexemes : List Lexeme} → DerivesModule found lexemes → EndsClosed lexemes
module-closed (outermost {a = a} {b = b} c begins units closes) = closed-append a (b ++ c ∷ []) (closed-append b (c ∷ []) closes)

lie-right : (text : List ℕ) (a b : List Lexeme) → Lie text (a ++ b) → Lie text b
lie-right text [] b all = all
lie-right text (t ∷ a) b all = lie-right text a b all.1

further-right : (at : ℕ) (a b : List Lexeme) → BeginsFurther at (a ++ b) → (n : ℕ) × BeginsFurther n b
further-right at [] b h = (at, h)
further-right at (t ∷ a) b h = further-right (suc t.span.start) a b h.1

-- the last of lexemes ends at a character, and not before the first begins
end-lies : (text : List ℕ) (at : ℕ) (t : Lexeme) (a b : List Lexeme) → Lie text (t ∷ (a ++ b)) → BeginsFurther at (t ∷ (a ++ b)) → (t.span.start ≤ end_of t a) × IsCharBoundary text (end_of t a)
end-lies text at t [] b all further = (all.0.order, all.0.end)
end-lies text at t (u ∷ a) b all further = let more = end-lies text (suc t.span.start) u a b all.1 further.1 in (omega (arith, further.1.0, more.0), more.1)

in-text : (text : List ℕ) (lexemes : List Lexeme) → Lie text lexemes → BeginsFurther 0 lexemes → (span : Span) → SpansLexemes lexemes span → SpansText text span
in-text text lexemes all further span s =
    let here : Lie text ((s.first ∷ s.more) ++ s.behind) = lie-right text s.before ((s.first ∷ s.more) ++ s.behind) (subst (Lie text) s.among all) in
    let grows : (n : ℕ) × BeginsFurther n ((s.first ∷ s.more) ++ s.behind) = further-right 0 s.before ((s.first ∷ s.more) ++ s.behind) (subst (BeginsFurther 0) s.among further) in
    let last = end-lies text grows.0 s.first s.more s.behind here grows.1 in
    let whole : SpansText text (place (s.first ∷ s.more)) = record { order = last.0; placed = record { start = here.0.start; end = last.1 } } in
    subst (SpansText text) (sym s.is) whole

pub front-nodes-placed : ((text : List ℕ) (at : ℕ) → ReadsLongest text at) → (name bytes : List ℕ) (found : ModuleUnits) → IsFront name bytes (Whole found) → NodeSpans (SpansText bytes) found
front-nodes-placed law name bytes found (read {lexemes = lexemes} readable few part (whole derives low spelled)) =
    units-follow (SpansLexemes lexemes) (SpansText bytes) (in-text bytes lexemes (text-lies law bytes lexemes readable part (module-closed derives)) (text-further law bytes lexemes part)) found.units
    (nodes-span-lexemes found lexemes derives)
