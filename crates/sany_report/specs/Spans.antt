-- Spans that lie in a text.
use Rattle.std.specs.Prelude.{ℕ, List}
use Rattle.std.specs.List.{All}
use Rattle.tla_lexeme.specs.Spans.{IsPlaced}
use Rattle.span_laws.specs.NodeSpans.{SpansText}
use Rattle.tla_model.specs.declared.Diagnostic.{Diagnostic}
use Rattle.fact_lines.specs.declared.line.FactLine.{FactLine}

-- each fault stands in a text
abbrev pub FaultsPlaced : List ℕ → List Diagnostic → Type 0
FaultsPlaced text faults = All (λ f. IsPlaced text f.span) faults

-- and so does the name of each use
abbrev pub FactsPlaced : List ℕ → List FactLine → Type 0
FactsPlaced text facts = All (λ f. SpansText text f.name) facts
