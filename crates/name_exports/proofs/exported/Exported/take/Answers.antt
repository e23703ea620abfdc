use Rattle.std.proofs.Common.{◌∙◌, ◌++◌, [], ap, subst, sym}
use Rattle.std.specs.Str.{bytes_eq}
use Rattle.std.proofs.lemmas.List.{append-nil}
use Rattle.tla_model.specs.Entities.{Meaning}
use Rattle.tla_model.specs.Tables.{AreNew, Table}
use Rattle.name_context.specs.AsTables.{words_of}
use Rattle.name_exports.proofs.exported.Exported.take.Goals as goal

pub invariant_of-self : goal.invariant_of-self
invariant_of-self c =
    let words = c.args.table.now.words in
    (subst (AreNew bytes_eq []) (sym (ap (λ z. words ++ words_of z) c.truncate.ensures.entries ∙ append-nil words)) c.len-len.ensures.once, c.self.invariant.1)

pub returns : goal.returns
returns c =
    let words = c.args.table.now.words in
    let all = ap (λ z. words ++ words_of z) c.truncate.ensures.entries ∙ append-nil words in
    let symbols = ap (λ (t : Table Meaning). t.symbols) c.self.view_is in λ i. record { words = all i; symbols = symbols i }
