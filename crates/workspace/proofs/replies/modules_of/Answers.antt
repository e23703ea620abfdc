use Rattle.std.proofs.Common.{◌∙◌, ap, map, subst, sym}
use Rattle.std.specs.List.{All}
use Rattle.std.specs.Prelude.{is_some}
use Rattle.server_locations.specs.Standing.{HasNamesPlaced}
use Rattle.workspace.specs.Found.{AreFound, found_of}
use Rattle.workspace.proofs.Finding.{few-bytes, modules-found, modules-placed}
use Rattle.workspace.proofs.replies.modules_of.Goals as goal

pub returns-clause-found : goal.returns-clause-found
returns-clause-found g c =
    let texts = c.as_slice.ensures ∙ c.in_ok-texts.ensures.texts in
    let found = subst (λ texts. AreFound texts c.find_texts.new.family) texts c.in_ok-find_texts.ensures in
    c.in_ok-modules.ensures ∙ (λ i. map (found_of (c.found.ensures i)) ((c.as_slice-2.ensures ∙ c.in_ok-texts.ensures.texts) i))
    ∙ modules-found c.args.documents.now c.find_texts.new.family found

pub returns-clause-placed : goal.returns-clause-placed
returns-clause-placed g c =
    let texts = c.as_slice.ensures ∙ c.in_ok-texts.ensures.texts in
    let found = subst (λ texts. AreFound texts c.find_texts.new.family) texts c.in_ok-find_texts.ensures in
    let modules = c.in_ok-modules.ensures ∙ (λ i. map (found_of (c.found.ensures i)) ((c.as_slice-2.ensures ∙ c.in_ok-texts.ensures.texts) i)) in
    let few = few-bytes c.args.documents.now (sym (ap is_some c.limit.ensures) ∙ (sym c.is_some.ensures ∙ c.if-is_some.false)) in
    subst (λ modules. All HasNamesPlaced modules) (sym modules) (modules-placed c.args.documents.now c.find_texts.new.family found few)
