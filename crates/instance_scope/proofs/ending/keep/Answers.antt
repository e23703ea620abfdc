use Rattle.std.proofs.Common.{◌≡◌, is_some, true}
use Rattle.tla_model.specs.Entities.{same_decl}
use Rattle.tla_model.specs.Tables.{added, lookup}
use Rattle.instance_leads.specs.Found.{AreIn}
use Rattle.instance_leads.specs.Keys.{decl_of}
use Rattle.instance_leads.proofs.Knowing.{keep-kept, keep-known, keep-there}
use Rattle.instance_leads.proofs.Naming.{on-so}
use Rattle.instance_scope.proofs.ending.keep.Goals as goal

pub returns-clause-known : goal.returns-clause-known
returns-clause-known c =
    let put = decl_of c.in-Some.module.now c.in-Some.place in
    on-so (c.put.new.self ≡ added same_decl c.args.kept.now put c.in-Some.held) (AreIn c.args.known.now c.put.new.self) c.put.result
    (λ is. keep-known c.args.known.now c.args.kept.now c.put.new.self put c.args.decl.now c.in-Some.held c.in-Some.ensures.key c.in-Some.ensures.held is c.requires.known) c.put.ensures

pub returns-clause-kept : goal.returns-clause-kept
returns-clause-kept c =
    let put = decl_of c.in-Some.module.now c.in-Some.place in
    on-so (c.put.new.self ≡ added same_decl c.args.kept.now put c.in-Some.held) (AreIn c.put.new.self c.args.kept.now) c.put.result
    (λ is. keep-kept c.args.known.now c.args.kept.now c.put.new.self put c.args.decl.now c.in-Some.held c.in-Some.ensures.key c.in-Some.ensures.held is) c.put.ensures

pub returns-clause-there : goal.returns-clause-there
returns-clause-there c =
    let put = decl_of c.in-Some.module.now c.in-Some.place in
    on-so (c.put.new.self ≡ added same_decl c.args.kept.now put c.in-Some.held) (is_some (lookup same_decl c.put.new.self c.args.decl.now) ≡ true) c.put.result
    (λ is. keep-there c.args.known.now c.args.kept.now c.put.new.self put c.args.decl.now c.in-Some.held c.in-Some.ensures.key c.in-Some.ensures.held is) c.put.ensures
