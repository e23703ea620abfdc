use Rattle.std.proofs.Common.{◌∙◌}
use Rattle.std.proofs.lemmas.Result.{IfOk-weaker}
use Rattle.clap.specs.Words.{app_of}
use Rattle.sany_words.specs.Texts.{texts}
use Rattle.sany_words.proofs.Matching.{refused, taken}
use Rattle.sany_words.proofs.request.request_of.Goals as goal

pub returns-in-Ok : goal.returns-in-Ok
returns-in-Ok c =
    IfOk-weaker c.request_in.result _ _
    (λ request is. is ∙ taken (app_of c.in_ok-command.field-0) c.in-Ok.matches (texts c.args.words.now) c.in_ok-command.ensures c.in-Ok.ensures.kinds c.in-Ok.ensures.matches)
    c.request_in.ensures

pub returns : goal.returns
returns c =
    refused (app_of c.in_ok-command.field-0) c.in-Err.error (texts c.args.words.now) c.in_ok-command.ensures c.in-Err.ensures.kinds
    (λ memory. c.in_default.not-OutOfMemory (c.kind.ensures ∙ memory))
