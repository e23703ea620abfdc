use Rattle.std.proofs.Common.{◌∙◌, sym, ◌≤◌, arith}
use Rattle.std.specs.Prelude.{string_bytes, String}
use Rattle.std.specs.Map.{keys_of}
use Rattle.std.specs.Str.{bytes_eq}
use Rattle.std.specs.declared.alloc.Global.{Global}
use Rattle.std.proofs.lemmas.List.Quantifiers.{position-Some}
use Rattle.tla_model.specs.Stretches.{words_of}
use Rattle.tla_model.proofs.Stretching.{found-within, lookup-named, none-among, none-within}
use Rattle.tla_model.proofs.table.word_in.Goals as goal

pub returns-then-index-count : goal.returns-then-index-count
returns-then-index-count c =
    let entries = c.args.words.now.entries in
    let word = c.args.word.now in
    let key = c.in-Some.field-0-1.now in
    let at = position-Some (λ (k : String Global). bytes_eq word (string_bytes k)) (keys_of entries) c.in-Some.index key (sym c.in-Some.ensures.index) in
    c.in-Some.ensures.value ∙ lookup-named string_bytes bytes_eq entries word
    ∙ sym (found-within string_bytes bytes_eq entries c.args.count c.in-Some.index key word at.0 at.1 c.if-index-count.true)

pub returns-else-index-count : goal.returns-else-index-count
returns-else-index-count c =
    let entries = c.args.words.now.entries in
    let word = c.args.word.now in
    let key = c.in-Some.field-0-1.now in
    let beyond : c.args.count ≤ c.in-Some.index = c.if-index-count.false in
    let at = position-Some (λ (k : String Global). bytes_eq word (string_bytes k)) (keys_of entries) c.in-Some.index key (sym c.in-Some.ensures.index) in
    sym (none-within string_bytes bytes_eq entries c.args.count key word (λ k lt. at.2 k (omega arith)))

pub returns-in-None : goal.returns-in-None
returns-in-None c =
    let entries = c.args.words.now.entries in
    let word = c.args.word.now in
    sym (none-among bytes_eq c.args.count (words_of entries) word (sym (c.in-None.ensures.value ∙ lookup-named string_bytes bytes_eq entries word)))
