use Rattle.std.proofs.Common.{◌≡◌, ◌≤◌, ◌∙◌, false, Option, None, Some, [], ◌∷◌, ◌++◌, Bor, ap, subst, sym, arith, length}
use Rattle.std.specs.Prelude.{is_some, option_copied, string_bytes}
use Rattle.std.specs.Str.{bytes_eq}
use Rattle.std.specs.String.{string_eq}
use Rattle.std.proofs.lemmas.List.{take_all}
use Rattle.indexmap.specs.IndexMap.{insert_entry}
use Rattle.tla_model.specs.Stretches.{words_of}
use Rattle.tla_model.specs.Tables.{AreNew, lookup}
use Rattle.tla_model.proofs.Stretching.{new-more}
use Rattle.name_samples.proofs.modules.longer.Goals as goal

none-of : {T : Type 0} (o : Option (Bor T)) → false ≡ is_some o → option_copied o ≡ None
none-of None e = cc
none-of (Some x) e = cc

pub extended-requires-clause-words : goal.extended-requires-clause-words
extended-requires-clause-words c =
    let words = c.args.table.now.words in
    let word = c.args.word.now in
    let name = c.in_ok-from_str.field-0 in
    let meaning = c.in_ok-constant.field-0 in
    let all : length words ≤ c.len.result = omega (arith, c.len.ensures.len) in
    let none : lookup bytes_eq words (string_bytes name) ≡ None =
    ap (λ z. lookup bytes_eq words z) c.in_ok-from_str.ensures.ok ∙ ap (λ z. lookup bytes_eq z word) (sym (take_all c.len.result words all)) ∙ sym c.word_among.ensures ∙ none-of c.word_among.result c.if-is_some.ensures in
    let one : words_of c.insert.new.self.entries ≡ (string_bytes name, meaning) ∷ [] =
    ap words_of (c.in_ok-insert.ensures.entries ∙ ap (λ z. insert_entry string_eq z name meaning) c.new-more.ensures.empty) in
    subst (λ z. AreNew bytes_eq [] (words ++ z)) (sym one) (new-more bytes_eq [] words (string_bytes name) meaning c.len.ensures.once none)
