use Rattle.std.proofs.Common.{◌∙◌, ap, map}
use Rattle.tla_model.specs.Stretches.{shown}
use Rattle.module_model.specs.Exports.{exports_of}
use Rattle.instance_leads.proofs.FaceLeads.{both-here, table-found, told-instances, told-symbols}
use Rattle.instance_leads.proofs.imports.face_leads.Goals as goal

pub put_words-requires-clause-told : goal.put_words-requires-clause-told
put_words-requires-clause-told c =
    told-instances c.args.face.now c.exports_in-table.result.now (ap exports_of c.exports_in-table.ensures) c.requires c.len-len.ensures.once c.len-len.ensures.symbols_once
    c.as_slice.result.now (ap (map shown) c.as_slice.ensures.value ∙ c.in_ok-words.ensures)

pub put_symbols-requires-clause-told : goal.put_symbols-requires-clause-told
put_symbols-requires-clause-told c =
    told-symbols c.args.face.now c.exports_in-table.result.now (ap exports_of c.exports_in-table.ensures) c.requires c.len-len.ensures.once c.len-len.ensures.symbols_once
    c.symbols.result.now c.symbols.ensures

pub returns-clause-known : goal.returns-clause-known
returns-clause-known c = λ nested.
    both-here nested c.args.face.now c.exports_in-table.result.now c.new-more.result c.put_words.new.more c.put_symbols.new.more c.as_slice.result.now c.symbols.result.now (ap exports_of c.exports_in-table.ensures)
    (table-found c.exports_in-table.result.now c.len-len.ensures.once c.len-len.ensures.symbols_once)
    c.new-more.ensures (ap (map shown) c.as_slice.ensures.value ∙ c.in_ok-words.ensures) c.symbols.ensures (c.in_ok-put_words.ensures.known nested) (c.in_ok-put_symbols.ensures.known nested)
