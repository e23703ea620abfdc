use Rattle.std.proofs.Common.{◌≡◌, ◌∙◌, ap, subst, sym}
use Rattle.tla_tree.specs.declared.unit.ModuleTree.{ModuleTree}
use Rattle.family_tables.specs.Modules.{IsTreeOf}
use Rattle.family_tables.proofs.Texts.{alike}
use Rattle.family_read.proofs.read.kept_tree.Goals as goal

pub returns : goal.returns
returns c =
    let read = c.requires c.args.name.now c.in-Some.tree.now (sym c.in-Some.ensures) in
    let source = c.as_bytes.ensures.value ∙ (c.as_str.ensures ∙ ap (λ (t : ModuleTree). t.source) c.tree.ensures) in
    let same : read.0 ≡ c.args.bytes.now = sym read.1.source ∙ (sym source ∙ alike c.as_bytes.result.now c.args.bytes.now c.if-ne.ensures) in
    subst (IsTreeOf c.args.name.now c.args.bytes.now) (sym c.in_ok-copied.ensures) (subst (λ bytes. IsTreeOf c.args.name.now bytes c.in-Some.tree.now) same read.1)
