use Rattle.std.proofs.Common.{◌++◌, ◌||◌, ◌∙◌, ap, subst, sym}
use Rattle.std.specs.Option.{option_copied}
use Rattle.module_model.specs.Exports.{exports_of, of_symbols, of_words}
use Rattle.name_context.specs.AsTables.{taken_words, words_of}
use Rattle.name_exports.specs.Brought.{IsJoined, behind_through}
use Rattle.name_exports.proofs.Bringing.{join-three, of_words-append}
use Rattle.name_exports.proofs.instance.bring_nested_through.Goals as goal

pub returns : goal.returns
returns c =
    let local = c.args.local in
    let old = c.args.names.now in
    let new = c.bring_symbols.new.names in
    let exports = c.args.exports.now in
    let unit = option_copied c.args.unit in
    let first = taken_words c.words.result.0 in
    let behind = words_of c.words.result.1.now.entries in
    let symbols = of_symbols c.symbols.result.now in
    let all =
    ap (λ z. z ++ symbols) (sym (of_words-append first behind) ∙ ap of_words c.words.ensures) ∙ ap (λ z. of_words exports.words ++ of_symbols z) c.symbols.ensures.symbols
    in
    subst (λ clash. IsJoined local old new clash (behind_through unit (exports_of exports))) (sym (c.either-2.ensures ∙ ap (λ b. b || c.in_ok-symbols.symbols) c.either.ensures))
    (subst (λ z. IsJoined local old new ((c.in_ok-first.first || c.in_ok-behind.behind) || c.in_ok-symbols.symbols) (behind_through unit z)) all
    (join-three local unit old c.bring_taken.new.names c.bring_own_words.new.names new c.in_ok-first.first c.in_ok-behind.behind c.in_ok-symbols.symbols
    (of_words first) (of_words behind) symbols c.in_ok-first.ensures c.in_ok-behind.ensures c.in_ok-symbols.ensures))
