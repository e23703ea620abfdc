use Rattle.kind_table.specs.Flattened.{flat_of}
use Rattle.kind_table.proofs.Lookups.{instance_gone, instance_got}
use Rattle.tree_numbers.proofs.Numbering.{contents-held, contents-known, instance-there, not-gone}
use Rattle.tree_numbers.proofs.instances.first_met.Goals as goal

pub first_with-requires-clause-contents : goal.first_with-requires-clause-contents
first_with-requires-clause-contents c =
    let flat = flat_of c.args.flat.now in
    let numbers = c.args.numbers.now in
    let at = instance_got c.args.flat.now c.deref.result.now c.args.instance c.in-Some.here.now c.deref.ensures.value c.in-Some.ensures.lookup.3.0 c.in-Some.ensures.lookup.1 in
    contents-held flat numbers c.requires.numbers c.args.instance c.in-Some.here.now c.in_ok-contents-in-Some.contents (instance-there flat numbers c.requires.numbers c.args.instance c.requires.instance) at c.in_ok-contents-in-Some.ensures

pub returns-in_err-first-in-Some-clause-known : goal.returns-in_err-first-in-Some-clause-known
returns-in_err-first-in-Some-clause-known c =
    let numbers = c.args.numbers.now in
    let at = instance_got c.args.flat.now c.deref.result.now c.args.instance c.in-Some.here.now c.deref.ensures.value c.in-Some.ensures.lookup.3.0 c.in-Some.ensures.lookup.1 in
    c.in_err-first-in-Some.ensures.known numbers c.requires.apart
    (contents-known numbers (flat_of c.args.flat.now) c.args.instance c.in-Some.here.now c.in_ok-contents-in-Some.contents c.requires.instance at c.in_ok-contents-in-Some.ensures) c.requires.known

pub returns-in_ok-first-in-Some-clause-known : goal.returns-in_ok-first-in-Some-clause-known
returns-in_ok-first-in-Some-clause-known c =
    let numbers = c.args.numbers.now in
    let at = instance_got c.args.flat.now c.deref.result.now c.args.instance c.in-Some.here.now c.deref.ensures.value c.in-Some.ensures.lookup.3.0 c.in-Some.ensures.lookup.1 in
    c.in_ok-first-in-Some.ensures.known numbers c.requires.apart
    (contents-known numbers (flat_of c.args.flat.now) c.args.instance c.in-Some.here.now c.in_ok-contents-in-Some.contents c.requires.instance at c.in_ok-contents-in-Some.ensures) c.requires.known

pub returns-in-None-clause-same : goal.returns-in-None-clause-same
returns-in-None-clause-same c =
    absurd (not-gone (flat_of c.args.flat.now) c.args.numbers.now c.args.instance c.requires.instance (instance_gone c.args.flat.now c.deref.result.now c.args.instance c.deref.ensures.value c.in-None.ensures.lookup.3))

pub returns-in-None-clause-first : goal.returns-in-None-clause-first
returns-in-None-clause-first c =
    absurd (not-gone (flat_of c.args.flat.now) c.args.numbers.now c.args.instance c.requires.instance (instance_gone c.args.flat.now c.deref.result.now c.args.instance c.deref.ensures.value c.in-None.ensures.lookup.3))
