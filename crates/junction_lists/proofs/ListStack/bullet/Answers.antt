use Rattle.std.proofs.Common.{◌≡◌, ap, sym, ◌∙◌}
use Rattle.junction_lists.specs.OpenLists.{IsInnermostBullet, IsBulletOf}
use Rattle.junction_lists.proofs.Columns.{last-snoc}
use Rattle.junction_lists.proofs.ListStack.bullet.Goals as goal

pub returns-in-Some : goal.returns-in-Some
returns-in-Some c =
    let same : c.as_slice.result.now ≡ c.args.self.now = c.as_slice.ensures.value ∙ c.self.view_is in
    let e : IsInnermostBullet c.args.self.now c.args.lexeme.now ≡ IsBulletOf c.in-Some.list.now c.args.lexeme.now = ap (λ xs. IsInnermostBullet xs c.args.lexeme.now) (sym same) ∙ last-snoc c.as_slice.result.now c.in-Some.list.now c.in-Some.ensures.value c.args.lexeme.now in
    rw e c.is_bullet_of.ensures
