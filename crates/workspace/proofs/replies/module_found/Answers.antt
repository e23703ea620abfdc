use Rattle.std.proofs.Common.{◌≡◌, ◌∙◌, Some, ap, sym, subst}
use Rattle.std.specs.Prelude.{is_some, option_copied}
use Rattle.family_levels.specs.Findings.{decls_in, uses_in}
use Rattle.server_locations.specs.Locations.{Found}
use Rattle.server_locations.specs.Standing.{HasNamesPlaced}
use Rattle.workspace.proofs.Finding.{few-bytes, last-found, none-found, one-found, one-placed}
use Rattle.workspace.proofs.replies.module_found.Goals as goal

pub returns-in_default-clause-found : goal.returns-in_default-clause-found
returns-in_default-clause-found g c = none-found c.args.documents.now c.args.name.now (sym c.text.ensures ∙ ap option_copied c.in_default.is)

pub returns-clause-found : goal.returns-clause-found
returns-clause-found g c =
    let s = c.args.documents.now in
    let found = c.find_named.new.family in
    let is = last-found c.as_slice.result.now s.texts found c.in_ok-wanted.wanted c.push.new.self c.args.name.now c.in_ok-copied.field-0 (c.as_slice.ensures ∙ c.in_ok-texts.ensures.texts) c.in_ok-push.ensures.ok c.in_ok-copied.ensures c.in_ok-find_named.ensures in
    let uses = c.uses-uses.ensures ∙ (λ i. uses_in (c.found-found.ensures i) (c.as_str.ensures i)) in
    let decls = c.decls-decls.ensures ∙ (λ i. decls_in (c.found-found.ensures i) (c.as_str-2.ensures i)) in
    ap (λ (m : Found). Some m) (c.new.ensures ∙ (λ i. record { name = c.args.name.now; bytes = c.in-Some.bytes.now; uses = uses i; decls = decls i }))
    ∙ one-found s found c.args.name.now c.in-Some.bytes.now is (sym c.in-Some.ensures)

pub returns-clause-placed : goal.returns-clause-placed
returns-clause-placed g c =
    let s = c.args.documents.now in
    let found = c.find_named.new.family in
    let is = last-found c.as_slice.result.now s.texts found c.in_ok-wanted.wanted c.push.new.self c.args.name.now c.in_ok-copied.field-0 (c.as_slice.ensures ∙ c.in_ok-texts.ensures.texts) c.in_ok-push.ensures.ok c.in_ok-copied.ensures c.in_ok-find_named.ensures in
    let uses = c.uses-uses.ensures ∙ (λ i. uses_in (c.found-found.ensures i) (c.as_str.ensures i)) in
    let decls = c.decls-decls.ensures ∙ (λ i. decls_in (c.found-found.ensures i) (c.as_str-2.ensures i)) in
    let few = few-bytes s (sym (ap is_some c.limit.ensures) ∙ (sym c.is_some.ensures ∙ c.if-is_some.false)) in
    subst HasNamesPlaced (sym (c.new.ensures ∙ (λ i. record { name = c.args.name.now; bytes = c.in-Some.bytes.now; uses = uses i; decls = decls i })))
    (one-placed s found c.args.name.now c.in-Some.bytes.now is (sym c.in-Some.ensures) few)
