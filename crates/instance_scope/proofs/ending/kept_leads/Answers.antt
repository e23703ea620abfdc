use Rattle.std.proofs.Common.{◌∙◌, ap, map}
use Rattle.tla_model.specs.Entities.{same_decl}
use Rattle.tla_model.specs.Stretches.{shown}
use Rattle.tla_model.specs.Tables.{lookup}
use Rattle.instance_leads.proofs.FaceLeads.{reached-symbols, reached-words}
use Rattle.instance_scope.proofs.NestedEnds.{told-all}
use Rattle.instance_scope.proofs.ending.kept_leads.Goals as goal

pub keep_words-requires-clause-told : goal.keep_words-requires-clause-told
keep_words-requires-clause-told c =
    reached-words (lookup same_decl c.args.known.now) c.args.exports.now c.requires c.symbols-symbols.ensures.words_once c.symbols-symbols.ensures.once c.as_slice.result.now (ap (map shown) c.as_slice.ensures.value ∙ c.in_ok-words.ensures)

pub keep_symbols-requires-clause-told : goal.keep_symbols-requires-clause-told
keep_symbols-requires-clause-told c =
    reached-symbols (lookup same_decl c.args.known.now) c.args.exports.now c.requires c.symbols-symbols.ensures.words_once c.symbols-symbols.ensures.once c.symbols-symbols.result.now c.symbols-symbols.ensures.symbols

pub returns-clause-told : goal.returns-clause-told
returns-clause-told c =
    told-all c.keep_words.new.kept c.keep_symbols.new.kept c.args.exports.now c.as_slice.result.now c.symbols-symbols.result.now (ap (map shown) c.as_slice.ensures.value ∙ c.in_ok-words.ensures) c.symbols-symbols.ensures.symbols
    c.in_ok-keep_symbols.ensures.kept c.in_ok-keep_words.ensures.told c.in_ok-keep_symbols.ensures.told
