use Rattle.std.proofs.Common.{◌≡◌, sym, ap, subst, ◌∙◌, length, arith}
use Rattle.std.specs.Str.{IsUtf8, IsCharBoundary}
use Rattle.std.proofs.lemmas.Str.{IsUtf8-string_bytes}
use Rattle.tla_text.specs.LineStarts.{starts_after}
use Rattle.tla_text.proofs.PlaceLemmas.{has_units, offset_of_unit-past, starts_of_view, units_by_rest}
use Rattle.tla_text.proofs.OffsetLemmas.{offset_of_unit-at_char}
use Rattle.tla_text.proofs.Text.offset_utf16.Goals as goal

pub returns-then-line-as_slice : goal.returns-then-line-as_slice
returns-then-line-as_slice c =
    let utf8 : IsUtf8 c.args.self.now = subst IsUtf8 c.self.view_is (IsUtf8-string_bytes c.self.inside.text) in
    let starts : length c.as_slice.result.now ≡ length (starts_after 0 c.args.self.now) = ap length (c.as_slice.ensures.value ∙ starts_of_view _ c.args.self.now _ c.self.view_is c.self.invariant.1) in
    let value = ap length c.bytes.ensures.value ∙ sym (offset_of_unit-past c.args.self.now c.args.line c.args.unit utf8 (omega (arith, starts))) in
    record { value = value; at_char = subst (λ n. IsCharBoundary c.args.self.now n) (sym value) (offset_of_unit-at_char c.args.self.now c.args.line c.args.unit utf8) }

pub range_from-rest-requires : goal.range_from-rest-requires
range_from-rest-requires c =
    let utf8 : IsUtf8 c.args.self.now = subst IsUtf8 c.self.view_is (IsUtf8-string_bytes c.self.inside.text) in
    let starts : length c.as_slice.result.now ≡ length (starts_after 0 c.args.self.now) = ap length (c.as_slice.ensures.value ∙ starts_of_view _ c.args.self.now _ c.self.view_is c.self.invariant.1) in
    let units = has_units c.args.self.now c.args.line c.args.unit utf8 (omega (arith, starts)) in
    let same : c.as_str.result.now ≡ c.args.self.now = c.as_str.ensures.value ∙ c.self.view_is in
    λ _. subst (λ t. IsCharBoundary t c.start_of-start.result) (sym same) (subst (λ n. IsCharBoundary c.args.self.now n) (sym c.start_of-start.ensures) units.cut)

pub returns : goal.returns
returns c =
    let utf8 : IsUtf8 c.args.self.now = subst IsUtf8 c.self.view_is (IsUtf8-string_bytes c.self.inside.text) in
    let starts : length c.as_slice.result.now ≡ length (starts_after 0 c.args.self.now) = ap length (c.as_slice.ensures.value ∙ starts_of_view _ c.args.self.now _ c.self.view_is c.self.invariant.1) in
    let units = has_units c.args.self.now c.args.line c.args.unit utf8 (omega (arith, starts)) in
    let same : c.as_str.result.now ≡ c.args.self.now = c.as_str.ensures.value ∙ c.self.view_is in
    let value = units_by_rest c.args.self.now c.as_str.result.now c.range_from-rest.result.now c.args.line c.args.unit _ c.start_of-start.result c.bytes_of_units.result units same c.start_of-start.ensures c.range_from-rest.ensures.value c.bytes_of_units.ensures.value in
    record { value = value; at_char = subst (λ n. IsCharBoundary c.args.self.now n) (sym value) (offset_of_unit-at_char c.args.self.now c.args.line c.args.unit utf8) }
