use Rattle.std.specs.Prelude.{ℕ, List, [], Option, unwrap_or}
use Rattle.std.proofs.Common.{◌≡◌, ◌∙◌, ap, refl, sym}
use Rattle.std_modules.specs.StdTexts.{std_text}
use Rattle.family_read.proofs.ModulesRead.{built-in-there, built-in-more, unwrapped}
use Rattle.family_read.proofs.read.add_built_in.Goals as goal

pub returns-then-is_some : goal.returns-then-is_some
returns-then-is_some c members are =
    built-in-there members c.args.modules.now c.args.name.now c.get.result c.get.ensures (sym c.is_some.ensures ∙ c.if-is_some.true) are

pub returns : goal.returns
returns c members are =
    let text : c.as_bytes.result.now ≡ unwrap_or (std_text c.args.name.now) [] = c.as_bytes.ensures.value ∙ unwrapped c.std_text.result c.unwrap_or-text.result _ c.unwrap_or-text.ensures refl ∙ ap (λ (o : Option (List ℕ)). unwrap_or o []) c.std_text.ensures in
    built-in-more members c.args.modules.now c.add.new.self c.args.name.now c.as_bytes.result.now c.get.result c.in_ok-module.module c.get.ensures (sym c.is_some.ensures ∙ c.if-is_some.false) text c.in_ok-module.ensures c.in_ok-add.ensures are
