use Rattle.std.proofs.Common.{◌≡◌, false, codes, nat_eq, if◌then◌else◌, length, take, ◌-◌, ap}
use Rattle.std.specs.List.{ends_with}
use Rattle.std.proofs.lemmas.Str.Pattern.{ends_text}
use Rattle.server_uris.proofs.root.without_slash.Goals as goal

pub returns-in-None : goal.returns-in-None
returns-in-None c =
    let e : false ≡ ends_with nat_eq c.args.text.now (codes "/") = ends_text false (codes "/") c.args.text.now c.in-None.ensures.cases in
    ap (λ b. if b then take (length c.args.text.now - 1) c.args.text.now else c.args.text.now) e
