use Rattle.std.proofs.Common.{ℕ, List, ◌∙◌, refl}
use Rattle.tla_symbols.specs.declared.op.Op.{Op}
use Rattle.tla_spelling.specs.declared.spelling.TheConstants as table
use Rattle.tla_spelling.specs.Spellings.{SYMBOLS}
use Rattle.tla_spelling.proofs.GroupLemmas.{same-in}
use Rattle.tla_spelling.proofs.spelling.op_of.Goals as goal

abbrev Entry : Type 0
Entry = record { now : List ℕ } × Op

abbrev Group : Type 0
Group = ℕ × record { now : List Entry }

pub returns : goal.returns
returns c = c.meaning_in.ensures ∙ same-in (λ (e : Entry). e.0.now) (λ (e : Entry). e.1) (λ (g : Group). g.0) (λ (g : Group). g.1.now) table.SYMBOLS (λ e. e.0) (λ e. e.1) SYMBOLS c.args.spelling.now refl refl
