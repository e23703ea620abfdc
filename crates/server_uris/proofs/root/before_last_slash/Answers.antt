use Rattle.server_uris.proofs.Cutting.{last-at, no-slash}
use Rattle.std.proofs.Common.{◌≡◌, ◌∙◌, ◌-◌, ℕ, Some, None, take, ap, arith}
use Rattle.std.proofs.lemmas.Str.Pattern.{rfind_char}
use Rattle.server_uris.proofs.root.before_last_slash.Goals as goal

pub returns-in-Some : goal.returns-in-Some
returns-in-Some c =
    let found = rfind_char 47 c.args.text.now (Some c.in-Some.at) c.in-Some.ensures.cases (omega arith) in
    let length : c.in-Some.at - 0 ≡ c.in-Some.at = omega arith in
    ap Some c.range.ensures.value ∙ ap (λ (n : ℕ). Some (take n c.args.text.now)) length ∙ last-at c.args.text.now c.in-Some.at found.0 found.1 found.2

pub returns-in-None : goal.returns-in-None
returns-in-None c = no-slash c.args.text.now (rfind_char 47 c.args.text.now None c.in-None.ensures.cases (omega arith))
