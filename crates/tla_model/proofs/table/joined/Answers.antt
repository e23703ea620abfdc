use Rattle.std.proofs.Common.{◌∙◌, [], ◌++◌, ap, subst, sym}
use Rattle.std.specs.Str.{bytes_eq}
use Rattle.tla_model.specs.Stretches.{words_of}
use Rattle.tla_model.specs.Tables.{AreNew}
use Rattle.tla_model.proofs.Stretching.{new-first, new-next}
use Rattle.tla_model.proofs.table.joined.Goals as goal

pub append-requires : goal.append-requires
append-requires c =
    let first = words_of c.args.first.now.entries in
    subst (λ z. AreNew bytes_eq (words_of z) first) (sym c.new-words.ensures.empty) (new-first bytes_eq [] first (words_of c.args.second.now.entries) c.requires)

pub append-requires-2 : goal.append-requires-2
append-requires-2 c =
    let first = words_of c.args.first.now.entries in
    let second = words_of c.args.second.now.entries in
    subst (λ z. AreNew bytes_eq z second) (sym (c.in_ok-append.ensures ∙ ap (λ z. words_of z ++ first) c.new-words.ensures.empty)) (new-next bytes_eq [] first second c.requires)
