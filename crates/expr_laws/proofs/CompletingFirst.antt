-- The machine refuses exactly at the first bad lexeme, for both goals.
use Rattle.std.proofs.Common.{◌≡◌, ℕ, ◌+◌, List, ◌++◌, take, drop, Option, Some, None, refl, ap, sym, subst, ◌∙◌}
use Rattle.std.proofs.lemmas.List.{take-append-drop}
use Rattle.tla_symbols.specs.declared.lexeme.Lexeme.{Lexeme}
use Rattle.tla_tree.specs.FirstBad.{IsDerivable, IsFirstBad}
use Rattle.expr_grammar.specs.Machine.{State, run, RefusesAt}
use Rattle.expr_grammar.specs.BoundsAlone.{IsDerivableAsBounds, IsFirstBadOfBounds, RefusesBoundsAt}
use Rattle.expr_laws.proofs.Complete.{derives-parses, run-none, run-append}
use Rattle.expr_laws.proofs.Heading.{derives-bounds}
use Rattle.expr_laws.proofs.Soundness.{accepted-derives, accepted-bounds}
use Rattle.expr_laws.proofs.CompletingKinds.{Goal}
use Rattle.expr_laws.proofs.CompletingStates.{start_of}
use Rattle.expr_laws.proofs.CompletingParts.{Answers}
use Rattle.expr_laws.proofs.Completing.{completes}

-- what the machine for the goal makes of the lexemes
abbrev reading : Goal → List Lexeme → Option State
reading goal lexemes = run (Some (start_of goal)) lexemes

-- some tree, or bounds, derive the list
abbrev Derivable : Goal → List Lexeme → Type 0
Derivable Goal.ForExpression lexemes = IsDerivable lexemes
Derivable Goal.ForBounds lexemes = IsDerivableAsBounds lexemes

-- some derivable list begins so
abbrev Begun : Goal → List Lexeme → Type 0
Begun goal lexemes = (rest : List Lexeme) × Derivable goal (lexemes ++ rest)

derivable-answers : (goal : Goal) (lexemes : List Lexeme) → Derivable goal lexemes → Answers goal (reading goal lexemes)
derivable-answers Goal.ForExpression lexemes d = (d.0, derives-parses d.0 lexemes d.1)
derivable-answers Goal.ForBounds lexemes d = (d.0, derives-bounds d.0 lexemes d.1)

answers-derivable : (goal : Goal) (lexemes : List Lexeme) → Answers goal (reading goal lexemes) → Derivable goal lexemes
answers-derivable Goal.ForExpression lexemes k = (k.0, accepted-derives lexemes k.0 k.1)
answers-derivable Goal.ForBounds lexemes k = (k.0, accepted-bounds lexemes k.0 k.1)

none-answers : (goal : Goal) → Answers goal None → ⊥
none-answers Goal.ForExpression k = let e : None ≡ Some k.0 = k.1 in cc
none-answers Goal.ForBounds k = let e : None ≡ Some k.0 = k.1 in cc

-- what the machine has not refused begins a derivable list
unrefused-begun : (goal : Goal) (lexemes : List Lexeme) (st : State) → reading goal lexemes ≡ Some st → Begun goal lexemes
unrefused-begun goal lexemes st e =
    let k : (rest : List Lexeme) × Answers goal (reading goal (lexemes ++ rest)) = completes goal lexemes st e in
    (k.0, answers-derivable goal (lexemes ++ k.0) k.1)

-- and what it has refused begins none
pub refused-begun : (goal : Goal) (lexemes : List Lexeme) → reading goal lexemes ≡ None → Begun goal lexemes → ⊥
refused-begun goal lexemes e b =
    let q : reading goal (lexemes ++ b.0) ≡ None = run-append lexemes b.0 (Some (start_of goal)) ∙ (ap (λ o. run o b.0) e ∙ run-none b.0) in
    none-answers goal (subst (Answers goal) q (derivable-answers goal (lexemes ++ b.0) b.1))

refused-whole : (goal : Goal) (lexemes : List Lexeme) (index : ℕ) → reading goal (take (index + 1) lexemes) ≡ None → Derivable goal lexemes → ⊥
refused-whole goal lexemes index e d = refused-begun goal (take (index + 1) lexemes) e (drop (index + 1) lexemes, subst (Derivable goal) (sym (take-append-drop (index + 1) lexemes)) d)

-- it reads what begins a derivable list, and refuses the next lexeme if no longer so
abbrev Turns : Goal → List Lexeme → ℕ → Type 0
Turns goal lexemes index = (state : State) × (reading goal (take index lexemes) ≡ Some state) × (reading goal (take (index + 1) lexemes) ≡ None)

first-turns : (goal : Goal) (lexemes : List Lexeme) (index : ℕ) → Begun goal (take index lexemes) → (Begun goal (take (index + 1) lexemes) → ⊥) → Turns goal lexemes index
first-turns goal lexemes index b n = by (reading goal (take index lexemes)) (reading goal (take (index + 1) lexemes)) refl refl
  where
    by : (o p : Option State) → reading goal (take index lexemes) ≡ o → reading goal (take (index + 1) lexemes) ≡ p → Turns goal lexemes index
    by (Some st) None e r = (st, e, r)
    by (Some st) (Some su) e r = absurd (n (unrefused-begun goal (take (index + 1) lexemes) su r))
    by None p e r = absurd (refused-begun goal (take index lexemes) e b)

pub refused-first : (lexemes : List Lexeme) (index : ℕ) → RefusesAt lexemes index → IsFirstBad lexemes index
refused-first lexemes index r = record {
  refused = refused-whole Goal.ForExpression lexemes index r.refuses;
  begins = unrefused-begun Goal.ForExpression (take index lexemes) r.state r.reads;
  ends = refused-begun Goal.ForExpression (take (index + 1) lexemes) r.refuses;
}

pub first-refused : (lexemes : List Lexeme) (index : ℕ) → IsFirstBad lexemes index → RefusesAt lexemes index
first-refused lexemes index f =
    let k : Turns Goal.ForExpression lexemes index = first-turns Goal.ForExpression lexemes index f.begins f.ends in
    record { state = k.0; reads = k.1; refuses = k.2 }

pub bounds-refused-first : (lexemes : List Lexeme) (index : ℕ) → RefusesBoundsAt lexemes index → IsFirstBadOfBounds lexemes index
bounds-refused-first lexemes index r = record {
  refused = refused-whole Goal.ForBounds lexemes index r.refuses;
  begins = unrefused-begun Goal.ForBounds (take index lexemes) r.state r.reads;
  ends = refused-begun Goal.ForBounds (take (index + 1) lexemes) r.refuses;
}

pub bounds-first-refused : (lexemes : List Lexeme) (index : ℕ) → IsFirstBadOfBounds lexemes index → RefusesBoundsAt lexemes index
bounds-first-refused lexemes index f =
    let k : Turns Goal.ForBounds lexemes index = first-turns Goal.ForBounds lexemes index f.begins f.ends in
    record { state = k.0; reads = k.1; refuses = k.2 }
