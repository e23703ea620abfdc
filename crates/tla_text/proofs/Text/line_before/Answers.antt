use Rattle.std.proofs.Common.{◌≡◌, sym, subst, ◌∙◌}
use Rattle.std.specs.Str.{IsUtf8, IsCharBoundary}
use Rattle.std.proofs.lemmas.Str.{IsUtf8-string_bytes}
use Rattle.tla_text.proofs.PlaceLemmas.{has_line, place_by_piece}
use Rattle.tla_text.proofs.Text.line_before.Goals as goal

pub range-requires-clause-start_boundary : goal.range-requires-clause-start_boundary
range-requires-clause-start_boundary c =
    let line = has_line c.args.self.now c.args.offset c.args.line (subst IsUtf8 c.self.view_is (IsUtf8-string_bytes c.self.inside.text)) c.requires.at_char c.requires.of_line in
    let same : c.as_str.result.now ≡ c.args.self.now = c.as_str.ensures.value ∙ c.self.view_is in
    λ _. subst (λ t. IsCharBoundary t c.start_of-start.result) (sym same) (subst (λ n. IsCharBoundary c.args.self.now n) (sym c.start_of-start.ensures) line.cut)

pub returns-clause-place : goal.returns-clause-place
returns-clause-place c =
    let line = has_line c.args.self.now c.args.offset c.args.line (subst IsUtf8 c.self.view_is (IsUtf8-string_bytes c.self.inside.text)) c.requires.at_char c.requires.of_line in
    let same : c.as_str.result.now ≡ c.args.self.now = c.as_str.ensures.value ∙ c.self.view_is in
    λ m. place_by_piece m c.args.self.now c.as_str.result.now c.range.result.now c.args.offset c.args.line _ c.start_of-start.result line same c.start_of-start.ensures c.range.ensures.value
