use Rattle.std.proofs.Common.{◌≡◌, drop}
use Rattle.tla_spelling.specs.Spellings.{meaning_of}
use Rattle.tla_spelling.proofs.spelling.meaning_of.Given as goal

abbrev pub invariant-loop-entry : goal.invariant-loop-entry
invariant-loop-entry g l = meaning_of (λ e. e.0.now) (λ e. e.1) (drop l.entry-index l.entries) l.spelling ≡ meaning_of (λ e. e.0.now) (λ e. e.1) l.entries l.spelling
