use Rattle.std.proofs.Common.{◌≡◌, take, refl, subst, IfOk}
use Rattle.family_tables.proofs.Texts.{text_of-text, text_of-longest}
use Rattle.family_tables.proofs.verdict.readable.Goals as goal

pub returns-in-Ok : goal.returns-in-Ok
returns-in-Ok c = text_of-text c.args.bytes.now c.in-Ok.text c.in-Ok.ensures.0 c.in-Ok.ensures.1

pub returns-in-Err-NotUtf8 : goal.returns-in-Err-NotUtf8
returns-in-Err-NotUtf8 c =
    let h = rw c.in-Err-NotUtf8.field-0-is at c.in-Err-NotUtf8.ensures in
    subst (λ t. IfOk c.front_text.result (λ text. text ≡ t)) (text_of-longest c.args.bytes.now (take c.in-Err-NotUtf8.at c.args.bytes.now) c.in-Err-NotUtf8.at refl h.1) c.front_text.ensures
