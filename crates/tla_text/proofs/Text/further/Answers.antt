use Rattle.std.proofs.Common.{◌≡◌, ◌-◌, arith, ap, subst, ◌∙◌, take, drop}
use Rattle.std.specs.Str.{chars, IsUtf8}
use Rattle.std.proofs.lemmas.Str.{IsUtf8-string_bytes}
use Rattle.tla_text.specs.Places.{place_at, place_after}
use Rattle.tla_text.proofs.FurtherLemmas.{place_at-wide, place_further}
use Rattle.tla_text.proofs.Text.further.Goals as goal

pub place_behind-requires-clause-line : goal.place_behind-requires-clause-line
place_behind-requires-clause-line c =
    let wide = place_at-wide c.args.measure c.args.self.now c.args.from (subst IsUtf8 c.self.view_is (IsUtf8-string_bytes c.self.inside.text)) c.requires.from_at_char in
    omega (arith, wide.0, ap (λ p. p.line) c.requires.known, c.range-between.ensures.len, c.requires.low)

pub place_behind-requires-clause-column : goal.place_behind-requires-clause-column
place_behind-requires-clause-column c =
    let wide = place_at-wide c.args.measure c.args.self.now c.args.from (subst IsUtf8 c.self.view_is (IsUtf8-string_bytes c.self.inside.text)) c.requires.from_at_char in
    omega (arith, wide.1, ap (λ p. p.column) c.requires.known, c.range-between.ensures.len, c.requires.low)

pub returns : goal.returns
returns c =
    let same : c.as_str-text.result.now ≡ c.args.self.now = c.as_str-text.ensures.value ∙ c.self.view_is in
    let between : c.range-between.result.now ≡ take (c.args.to - c.args.from) (drop c.args.from c.args.self.now) = c.range-between.ensures.value ∙ ap (λ t. take (c.args.to - c.args.from) (drop c.args.from t)) same in
    let after : c.range_from.result.now ≡ drop c.args.to c.args.self.now = c.range_from.ensures.value ∙ ap (λ t. drop c.args.to t) same in
    c.place_behind.ensures ∙ ap (λ p. place_after c.args.measure p (chars c.range-between.result.now) (chars c.range_from.result.now)) c.requires.known ∙ ap (λ l. place_after c.args.measure (place_at c.args.measure c.args.self.now c.args.from) (chars l) (chars c.range_from.result.now)) between ∙ ap (λ l. place_after c.args.measure (place_at c.args.measure c.args.self.now c.args.from) (chars (take (c.args.to - c.args.from) (drop c.args.from c.args.self.now))) (chars l)) after ∙ place_further c.args.measure c.args.self.now c.args.from c.args.to (subst IsUtf8 c.self.view_is (IsUtf8-string_bytes c.self.inside.text)) c.requires.from_at_char c.requires.to_at_char c.requires.in_order
