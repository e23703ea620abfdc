use Rattle.std.proofs.Common.{◌∙◌, ◌++◌, ℕ, List, [], ap, filter, map, subst, sym}
use Rattle.std.specs.Str.{bytes_eq}
use Rattle.tla_model.specs.Entities.{Meaning}
use Rattle.tla_model.specs.EntityKinds.{is_meant, stands_for_parameter}
use Rattle.tla_model.specs.Stretches.{shown}
use Rattle.tla_model.specs.Tables.{AreNew, same_symbol}
use Rattle.name_context.specs.AsTables.{context_of}
use Rattle.instance_leads.specs.Found.{is_new_symbol, is_new_word}
use Rattle.instance_leads.proofs.Naming.{symbols_meant}
use Rattle.instance_scope.proofs.EachOnce.{once-kept}
use Rattle.instance_scope.proofs.NestedEnds.{own-all}
use Rattle.instance_scope.proofs.ending.own_parameters.Goals as goal

pub put_words-requires : goal.put_words-requires
put_words-requires c =
    subst (λ z. AreNew bytes_eq z (map shown c.as_slice.result.now)) (sym (ap (λ t. t.words) c.new-own.ensures))
    (subst (AreNew bytes_eq []) (sym (ap (map shown) c.as_slice.ensures.value ∙ c.in_ok-words.ensures)) (once-kept bytes_eq (λ (word : List ℕ × Meaning). is_meant stands_for_parameter word.1) c.args.exports.now.words c.symbols-symbols.ensures.words_once))

pub put_symbols-requires : goal.put_symbols-requires
put_symbols-requires c =
    subst (λ z. AreNew same_symbol z c.symbols-symbols.result.now) (sym (c.in_ok-put_words.ensures.symbols ∙ ap (λ t. t.symbols) c.new-own.ensures))
    (subst (AreNew same_symbol []) (sym c.symbols-symbols.ensures.symbols) c.symbols-symbols.ensures.once)

pub returns : goal.returns
returns c =
    let context = context_of c.args.context.now in
    own-all context c.args.exports.now c.put_symbols.new.own (map shown c.as_slice.result.now) c.symbols-symbols.result.now (ap (map shown) c.as_slice.ensures.value ∙ c.in_ok-words.ensures) c.symbols-symbols.ensures.symbols
    (c.in_ok-put_symbols.ensures.words ∙ c.in_ok-put_words.ensures.words ∙ ap (λ t. t.words ++ filter (is_new_word context) (map shown c.as_slice.result.now)) c.new-own.ensures)
    (c.in_ok-put_symbols.ensures.symbols ∙ ap (λ z. z ++ filter (is_new_symbol context) (symbols_meant stands_for_parameter c.symbols-symbols.result.now)) (c.in_ok-put_words.ensures.symbols ∙ ap (λ t. t.symbols) c.new-own.ensures))
