use Rattle.std.proofs.Common.{◌≡◌, ap, sym, subst, ◌∙◌, ◌∷◌, []}
use Rattle.tla_model.specs.Entities.{declaration, same_decl}
use Rattle.tla_model.specs.Tables.{added}
use Rattle.module_model.specs.Exports.{and_known, known_as}
use Rattle.module_model.specs.NamedModules.{behind_named, known_named}
use Rattle.instance_names.specs.Named.{named_as}
use Rattle.instance_leads.specs.Keys.{decl_of}
use Rattle.instance_leads.specs.Leading.{known_in}
use Rattle.instance_scope.specs.Scoped.{AreGiven, module_in}
use Rattle.instance_leads.proofs.Knowing.{and-none, known-added}
use Rattle.instance_leads.proofs.Naming.{on-so}
use Rattle.instance_scope.proofs.NamedInstances.{own-text}
use Rattle.instance_scope.proofs.ScopeSoundness.{given-added}
use Rattle.instance_scope.proofs.scope.Scope.lead_named.Goals as goal

pub returns-clause-given : goal.returns-clause-given
returns-clause-given c =
    let decl = decl_of c.file.result.now c.place.result in
    on-so (c.put.new.self ≡ added same_decl c.args.more.now decl c.held_named-held.result) (AreGiven c.args.self.now c.put.new.self) c.put.result
    (λ is. subst (AreGiven c.args.self.now) (sym is)
    (given-added c.args.self.now c.args.more.now decl c.held_named-held.result c.requires.given c.held_named-held.ensures.there (own-text c.args.text.now.file c.file.result.now c.args.self.now.title.now c.file.ensures c.requires.title)))
    c.put.ensures

pub returns-clause-known : goal.returns-clause-known
returns-clause-known c =
    let decl = decl_of c.file.result.now c.place.result in
    let nested = c.args.self.now.nested.items in
    let named = module_in c.args.self.now c.args.modules.now in
    on-so (c.put.new.self ≡ added same_decl c.args.more.now decl c.held_named-held.result) (known_in nested c.put.new.self ≡ and_known (known_in nested c.args.more.now) (known_named c.args.text.now named (named_as c.args.instance ∷ []))) c.put.result
    (λ is. ap (known_in nested) is ∙ known-added nested c.args.more.now decl c.held_named-held.result
    ∙ ap (and_known (known_in nested c.args.more.now)) ((λ i. known_as (decl_of (c.file.ensures i) (c.place.ensures i)) (c.held_named-held.ensures.behind i))
    ∙ sym (and-none (known_as (declaration c.args.text.now c.args.instance.name) (behind_named c.args.text.now named c.args.instance.«module»)))))
    c.put.ensures
