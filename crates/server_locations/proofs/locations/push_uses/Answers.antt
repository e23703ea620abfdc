use Rattle.std.proofs.Common.{◌≡◌, sym, ap, ◌∙◌, subst}
use Rattle.std.specs.List.{All}
use Rattle.server_locations.specs.Locations.{used_in}
use Rattle.server_locations.specs.Standing.{Stands}
use Rattle.server_locations.proofs.Placing.{used-stand}
use Rattle.server_locations.proofs.locations.push_uses.Goals as goal

pub push_located-requires-clause-stand : goal.push_located-requires-clause-stand
push_located-requires-clause-stand c =
    let is : c.as_slice.result.now ≡ used_in c.args.module.now.uses c.args.decl.now = c.as_slice.ensures ∙ c.in_ok-spans.ensures ∙ ap (λ uses. used_in uses c.args.decl.now) c.uses.ensures in
    subst (All (Stands c.args.module.now.bytes)) (sym is) (used-stand c.args.module.now.bytes c.args.module.now.uses c.args.decl.now c.requires.uses)
