-- Faults of depth and of levels stand in the text of a module.
use Rattle.std.proofs.Common.{◌≡◌, ℕ, List, [], ◌∷◌, ◌++◌, refl, ap}
use Rattle.std.specs.List.{All, AllByRecursion}
use Rattle.std.proofs.lemmas.List.Elements.{All-from_recursion}
use Rattle.list_laws.proofs.Lists.{all-both, all-right, all-weaker}
use Rattle.tla_symbols.specs.declared.lexeme.Lexeme.{Lexeme}
use Rattle.tla_symbols.specs.declared.lexeme.Span.{Span}
use Rattle.unit_grammar.specs.Units.{ModuleUnits}
use Rattle.tla_model.specs.declared.Diagnostic.{Diagnostic}
use Rattle.tla_model.specs.declared.entity.Level.{Level}
use Rattle.tla_model.specs.Lexemes.{LexemesLie, LiesIn, units_lexemes}
use Rattle.module_model.specs.Modules.{text_of}
use Rattle.module_model.specs.Resolution.{words_of}
use Rattle.span_laws.specs.NodeSpans.{NodeSpans, SpansText}
use Rattle.span_laws.specs.UnitWords.{WordsLie}
use Rattle.tree_kinds.specs.Standing.{Outside}
use Rattle.tree_kinds.specs.TreeLevels.{LevelFinding, Refused, NotConstant, TooHigh, Leveled}
use Rattle.module_kinds.specs.ModuleKinds.{depth_faults, first, kind_faults, level_fault, level_faults, level_findings, or_levels, too_deep}
use Rattle.level_spans.specs.LevelSpans.{StandsAt}
use Rattle.level_spans.proofs.Units.{units-found, units-in}

-- a lexeme that lies in a text has a span of it
lies-spans : (source : List ℕ) (l : Lexeme) → LiesIn source l → SpansText source l.span
lies-spans source l lies = record { order = lies.order; placed = record { start = lies.start; end = lies.end } }

-- ---- findings

found-stand : (files : List ℕ → Outside) (source : List ℕ) (units : ModuleUnits) → LexemesLie source units → NodeSpans (SpansText source) units → AllByRecursion (StandsAt (SpansText source)) (level_findings files source units)
found-stand files source units lie spans =
    units-found (text_of source units) files (words_of units) (SpansText source) (first files source units) units.units spans
    (all-weaker (LiesIn source) (λ (l : Lexeme). SpansText source l.span) (lies-spans source) (units_lexemes units.units) (all-right (LiesIn source) units.extends (units_lexemes units.units) lie.1))

deep-lie : (files : List ℕ → Outside) (source : List ℕ) (units : ModuleUnits) → LexemesLie source units → WordsLie source units → AllByRecursion (LiesIn source) (too_deep files source units)
deep-lie files source units lie spoken =
    units-in (text_of source units) files (words_of units) (LiesIn source) (first files source units) units.units spoken (all-right (LiesIn source) units.extends (units_lexemes units.units) lie.1)

pub findings-stand : (files : List ℕ → Outside) (source : List ℕ) (units : ModuleUnits) → LexemesLie source units → NodeSpans (SpansText source) units → All (StandsAt (SpansText source)) (level_findings files source units)
findings-stand files source units lie spans = All-from_recursion (StandsAt (SpansText source)) (level_findings files source units) (found-stand files source units lie spans)

pub all-deep-lie : (files : List ℕ → Outside) (source : List ℕ) (units : ModuleUnits) → LexemesLie source units → WordsLie source units → All (LiesIn source) (too_deep files source units)
all-deep-lie files source units lie spoken = All-from_recursion (LiesIn source) (too_deep files source units) (deep-lie files source units lie spoken)

-- ---- faults

module _ (P : Span → Type 0) where
  abbrev Stand : List Diagnostic → Type 0
  Stand faults = AllByRecursion (λ (fault : Diagnostic). P fault.span) faults

  one-stands : (finding : LevelFinding) → StandsAt P finding → Stand (level_fault finding)
  one-stands (Refused at) p = (p, tt)
  one-stands (NotConstant at) p = (p, tt)
  one-stands (TooHigh at) p = (p, tt)
  one-stands (Leveled l level) p = tt

  levels-stand : (found : List LevelFinding) → AllByRecursion (StandsAt P) found → Stand (level_faults found)
  levels-stand [] all = tt
  levels-stand (finding ∷ rest) all = all-both (λ (fault : Diagnostic). P fault.span) (level_fault finding) (level_faults rest) (one-stands finding all.0) (levels-stand rest all.1)

  depths-stand : (deep : List Lexeme) → AllByRecursion (λ (l : Lexeme). P l.span) deep → Stand (depth_faults deep)
  depths-stand [] all = tt
  depths-stand (l ∷ rest) all = (all.0, depths-stand rest all.1)

  either-stands : (all others : List Diagnostic) → Stand all → Stand others → Stand (or_levels all others)
  either-stands [] others one other = other
  either-stands (fault ∷ rest) others one other = one

pub all-stand : (files : List ℕ → Outside) (source : List ℕ) (units : ModuleUnits) → LexemesLie source units → WordsLie source units → NodeSpans (SpansText source) units
    → All (λ fault. SpansText source fault.span) (kind_faults files source units)
all-stand files source units lie spoken spans =
    let P : Span → Type 0 = SpansText source in
    let deep : List Lexeme = too_deep files source units in
    let found : List LevelFinding = level_findings files source units in
    All-from_recursion (λ (fault : Diagnostic). P fault.span) (kind_faults files source units)
    (either-stands P (depth_faults deep) (level_faults found)
    (depths-stand P deep (all-weaker (LiesIn source) (λ (l : Lexeme). P l.span) (lies-spans source) deep (deep-lie files source units lie spoken))) (levels-stand P found (found-stand files source units lie spans)))

-- ---- uses

pub no-fault : (l : Lexeme) (level : Level) → level_fault (Leveled l level) ≡ []
no-fault l level = refl

pub no-fault-among : (before behind : List LevelFinding) (l : Lexeme) (level : Level) → level_faults (before ++ Leveled l level ∷ behind) ≡ level_faults (before ++ behind)
no-fault-among [] behind l level = refl
no-fault-among (finding ∷ before) behind l level = ap (λ rest. level_fault finding ++ rest) (no-fault-among before behind l level)
