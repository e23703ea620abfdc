use Rattle.std.proofs.Common.{◌≡◌, ◌∙◌, ◌++◌, ◌∷◌, [], None, ap, append_assoc, subst, sym}
use Rattle.std.specs.Prelude.{is_some}
use Rattle.std.specs.Str.{bytes_eq}
use Rattle.indexmap.proofs.CallerLemmas.{insert_entry-new}
use Rattle.tla_model.specs.Entities.{Meaning}
use Rattle.tla_model.specs.Tables.{AreNew, Table, added, lookup}
use Rattle.tla_model.proofs.Stretching.{new-more, none-next}
use Rattle.list_laws.proofs.Options.{none-there}
use Rattle.name_context.specs.AsTables.{taken_words, words_of}
use Rattle.name_context.proofs.Words.{added-new, lookup-words, words-append}
use Rattle.name_exports.proofs.exported.Exported.put_word.Goals as goal

pub invariant_of-self-2 : goal.invariant_of-self-2
invariant_of-self-2 c =
    let own = c.self.inside.words in
    let word = c.args.word.now in
    let taken = taken_words c.self.inside.taken in
    let more = (word, c.args.meaning) ∷ [] in
    let absent : lookup bytes_eq (taken ++ words_of own.entries) word ≡ None = none-there _ (sym c.has_word.ensures ∙ c.if-has_word.false) in
    let words = ap words_of (c.in_ok-insert.ensures.entries ∙ insert_entry-new _ own c.args.word c.args.meaning (lookup-words own.entries word ∙ none-next bytes_eq taken (words_of own.entries) word absent)) ∙ words-append own.entries (c.args.word, c.args.meaning) in
    (subst (AreNew bytes_eq []) (append_assoc taken (words_of own.entries) more ∙ sym (ap (λ z. taken ++ z) words)) (new-more bytes_eq [] (taken ++ words_of own.entries) word c.args.meaning c.self.invariant.0 absent), c.self.invariant.1)

pub returns : goal.returns
returns c =
    let own = c.self.inside.words in
    let word = c.args.word.now in
    let taken = taken_words c.self.inside.taken in
    let more = (word, c.args.meaning) ∷ [] in
    let absent : lookup bytes_eq (taken ++ words_of own.entries) word ≡ None = none-there _ (sym c.has_word.ensures ∙ c.if-has_word.false) in
    let words = ap words_of (c.in_ok-insert.ensures.entries ∙ insert_entry-new _ own c.args.word c.args.meaning (lookup-words own.entries word ∙ none-next bytes_eq taken (words_of own.entries) word absent)) ∙ words-append own.entries (c.args.word, c.args.meaning) in
    let all =
    ap (λ z. taken ++ z) words ∙ sym (append_assoc taken (words_of own.entries) more)
    ∙ added-new bytes_eq (taken ++ words_of own.entries) word c.args.meaning (ap is_some absent)
    ∙ ap (λ (t : Table Meaning). added bytes_eq t.words word c.args.meaning) c.self.view_is
    in
    let symbols = ap (λ (t : Table Meaning). t.symbols) c.self.view_is in λ i. record { words = all i; symbols = symbols i }
