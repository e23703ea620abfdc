use Rattle.std.proofs.Common.{◌≡◌, drop}
use Rattle.std_modules.specs.StdTexts.{text_in}
use Rattle.std_modules.proofs.text_in.Given as goal

abbrev pub invariant-loop-text : goal.invariant-loop-text
invariant-loop-text l = text_in (λ e. e.0.now) (λ e. e.1.now) (drop l.text-index l.texts) l.name ≡ text_in (λ e. e.0.now) (λ e. e.1.now) l.texts l.name
