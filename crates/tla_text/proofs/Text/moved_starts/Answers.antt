use Rattle.std.proofs.Common.{◌≡◌, ℕ, ◌+◌, ◌-◌, ◌<◌, ◌^◌, ◌++◌, List, length, drop, map, take, sym, ap, ◌∙◌, subst, arith}
use Rattle.std.specs.List.{All}
use Rattle.std.proofs.lemmas.List.{length-drop, take_rest}
use Rattle.tla_text.specs.LineStarts.{starts_after}
use Rattle.tla_text.proofs.PlaceLemmas.{starts_of_view}
use Rattle.tla_text.proofs.SpliceLemmas.{kept, moved, moved-small, starts-behind}
use Rattle.tla_text.proofs.Text.moved_starts.Goals as goal

pub push_moved-requires-clause-small : goal.push_moved-requires-clause-small
push_moved-requires-clause-small c =
    let text : List ℕ = c.args.self.now in
    let is : c.as_slice-old.result.now ≡ starts_after 0 text = c.as_slice-old.ensures.value ∙ starts_of_view _ text _ c.self.view_is c.self.invariant.1 in
    let rest = take_rest c.as_slice-old.result.now c.line_of-2.result ∙ ap (drop c.line_of-2.result) is ∙ starts-behind text c.args.end c.line_of-2.result c.line_of-2.ensures.point in
    let small : c.args.behind + length (drop c.args.end text) < 2 ^ 32 = omega (arith, ap length c.requires.after, length-drop c.args.behind c.args.text.now, c.requires.within, c.requires.short) in
    subst (All (λ s. s - c.args.end + c.args.behind < 2 ^ 32)) (sym rest) (moved-small c.args.end c.args.behind (drop c.args.end text) small)

pub returns : goal.returns
returns c =
    let text : List ℕ = c.args.self.now in
    let first : ℕ = c.saturating_sub-first.result in
    let is : c.as_slice-old.result.now ≡ starts_after 0 text = c.as_slice-old.ensures.value ∙ starts_of_view _ text _ c.self.view_is c.self.invariant.1 in
    let before : c.extend_from_slice.new.self.items ≡ take c.line_of.result (starts_after 0 text) =
    c.in_ok-extend_from_slice.ensures.items ∙ ap (λ l. l ++ take c.line_of.result c.as_slice-old.result.now) c.new-starts.ensures.items ∙ ap (take c.line_of.result) is in
    let rest = take_rest c.as_slice-old.result.now c.line_of-2.result ∙ ap (drop c.line_of-2.result) is ∙ starts-behind text c.args.end c.line_of-2.result c.line_of-2.ensures.point in
    let behind = ap (map (λ s. s - c.args.end + c.args.behind)) rest ∙ moved c.args.end c.args.behind (drop c.args.end text) ∙ ap (starts_after c.args.behind) (sym c.requires.after) in
    c.in_ok-push_moved.ensures ∙ ap (λ l. c.push_starts.new.starts.items ++ l) behind ∙ c.in_ok-push_starts.ensures ∙ ap (λ l. l ++ starts_after first (drop first c.args.text.now)) before ∙ kept c.args.start first c.line_of.result text c.args.text.now c.saturating_sub-first.ensures c.requires.before c.line_of.ensures.point
