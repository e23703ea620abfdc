use Rattle.std.proofs.Common.{◌∙◌, ap}
use Rattle.std.specs.Prelude.{codes, option_and_then}
use Rattle.std.specs.Option.{option_copied}
use Rattle.server_uris.specs.Uris.{behind_front}
use Rattle.server_uris.proofs.Cutting.{root-cut}
use Rattle.server_uris.proofs.member.behind_root.Goals as goal

pub returns-in_err-behind_front : goal.returns-in_err-behind_front
returns-in_err-behind_front c =
    ap option_copied c.from_residual.ensures ∙ ap (option_and_then (behind_front (codes "/"))) c.in_err-behind_front.ensures ∙ root-cut c.args.root.now c.args.text.now

pub returns : goal.returns
returns c =
    c.behind_front-2.ensures ∙ ap (option_and_then (behind_front (codes "/"))) c.in_ok-behind_front.ensures ∙ root-cut c.args.root.now c.args.text.now
