use Rattle.std.proofs.Common.{◌∙◌}
use Rattle.std.proofs.lemmas.Result.{IfOk-weaker}
use Rattle.clap.specs.Words.{found_of}
use Rattle.sany_words.proofs.Matching.{asked}
use Rattle.sany_words.proofs.request.request_in.Goals as goal

pub returns : goal.returns
returns c =
    IfOk-weaker c.request_by.result _ _
    (λ request is. is ∙ asked (found_of c.args.matches.now) _ _ _ _ c.get_str.ensures c.get_str-2.ensures c.get_str-3.ensures c.is_set-facts.ensures)
    c.request_by.ensures
