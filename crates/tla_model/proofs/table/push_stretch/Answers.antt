use Rattle.std.proofs.Common.{◌≡◌, ◌∙◌, [], ◌++◌, ap, subst, sym}
use Rattle.std.specs.Str.{bytes_eq}
use Rattle.std.proofs.lemmas.List.{append_assoc}
use Rattle.tla_model.specs.Stretches.{all_words, words_in, words_of}
use Rattle.tla_model.specs.Tables.{AreNew}
use Rattle.tla_model.proofs.Stretching.{flat-more, new-alone}
use Rattle.tla_model.proofs.table.push_stretch.Goals as goal

pub joined-requires : goal.joined-requires
joined-requires c =
    let rest = all_words c.take_short.new.stretches.items in
    let before = words_in c.in-Some.before in
    let words = words_of c.loop-before.words.entries in
    let parts : all_words c.loop-before.stretches.items ≡ rest ++ before =
    ap all_words c.in-Some.ensures.taken ∙ flat-more words_in c.take_short.new.stretches.items c.in-Some.before in
    let all : rest ++ (before ++ words) ≡ all_words c.args.stretches.now.items ++ words_of c.args.words.entries =
    sym (append_assoc rest before words) ∙ ap (λ z. z ++ words) (sym parts) ∙ c.loop-before.invariant in
    let new = new-alone bytes_eq [] rest (before ++ words) (subst (λ z. AreNew bytes_eq [] z) (sym all) c.requires) in
    subst (λ z. AreNew bytes_eq [] (z ++ words)) (sym (c.words-in-Some.ensures ∙ c.deref.ensures)) new
