use Rattle.std.proofs.Common.{◌≡◌, ℕ, ◌+◌, List, ◌++◌, codes, ◌∙◌, append_assoc}
use Rattle.std.proofs.lemmas.Result.{IfOk-weaker}
use Rattle.std.specs.Fmt.{decimal}
use Rattle.tla_text.specs.declared.Place.{Place}
use Rattle.sany_report.specs.Report.{use_line}
use Rattle.sany_report.proofs.report.use_line.Goals as goal

-- a line is written as twelve pieces and the others
joined : (place declared : Place) (name file word : List ℕ) (l c m k : ℕ) → l ≡ place.line + 1 → c ≡ place.column + 1 → m ≡ declared.line + 1 → k ≡ declared.column + 1 → (codes "  " ++ (decimal l ++ (codes ":" ++ (decimal c ++ (codes " " ++ (name ++ (codes " -> " ++ (file ++ (codes " " ++ (decimal m ++ (codes ":" ++ decimal k))))))))))) ++ (codes " " ++ (word ++ codes "\n")) ≡ use_line place name file declared word
joined place declared name file word l c m k line column name_line name_column = simp (append_assoc, line, column, name_line, name_column)

pub returns : goal.returns
returns c =
    IfOk-weaker c.format.result _ _
    (λ line is. is ∙ joined c.args.place c.args.declared c.args.name.now c.args.file.now c.args.word.now c.shown-line.result.0 c.shown-line.result.1 c.shown-name_line.result.0 c.shown-name_line.result.1 c.shown-line.ensures.line c.shown-line.ensures.column c.shown-name_line.ensures.line c.shown-name_line.ensures.column)
    c.format.ensures.ok
