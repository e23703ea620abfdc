use Rattle.std.proofs.Common.{◌≡◌, drop}
use Rattle.tla_spelling.specs.Groups.{meaning_from}
use Rattle.tla_spelling.proofs.spelling.meaning_from.Given as goal

abbrev pub invariant-loop-group : goal.invariant-loop-group
invariant-loop-group g l = meaning_from (λ e. e.0.now) (λ e. e.1) (λ g. g.0) (λ g. g.1.now) (drop l.group-index l.groups) l.first l.spelling ≡ meaning_from (λ e. e.0.now) (λ e. e.1) (λ g. g.0) (λ g. g.1.now) l.groups l.first l.spelling
