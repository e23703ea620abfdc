use Rattle.std.proofs.Common.{arith}
use Rattle.std.proofs.lemmas.Option.{slice_get_within}
use Rattle.fact_store.proofs.TextLemmas.{texts_of-absent}
use Rattle.fact_store.proofs.PutFacts.{taken_out}
use Rattle.fact_store.proofs.Dirt.{carries-same}
use Rattle.fact_store.proofs.texts.take_out.Goals as goal

pub returns-in_default-clause-texts : goal.returns-in_default-clause-texts
returns-in_default-clause-texts g c =
    texts_of-absent c.args.slots.now c.args.name.now c.in_default.ensures

pub returns-in_default-clause-carries : goal.returns-in_default-clause-carries
returns-in_default-clause-carries g c = carries-same c.args.slots.now c.requires.sound.distinct

pub remove-requires : goal.remove-requires
remove-requires g c =
    let p = c.in-Some.ensures in
    omega (arith, slice_get_within c.args.slots.now c.in-Some.index p.0 p.1)

pub returns-clause-sound : goal.returns-clause-sound
returns-clause-sound g c =
    let p = c.in-Some.ensures in
    (taken_out g.D.Derive.own_of g.D.Derive.needs_of g.D.Derive.fact_of c.args.slots.now c.remove.new.self c.in-Some.index c.args.name.now c.requires.sound p c.remove.ensures).sound

pub returns-clause-texts : goal.returns-clause-texts
returns-clause-texts g c =
    let p = c.in-Some.ensures in
    (taken_out g.D.Derive.own_of g.D.Derive.needs_of g.D.Derive.fact_of c.args.slots.now c.remove.new.self c.in-Some.index c.args.name.now c.requires.sound p c.remove.ensures).texts

pub returns-clause-carries : goal.returns-clause-carries
returns-clause-carries g c =
    let p = c.in-Some.ensures in
    (taken_out g.D.Derive.own_of g.D.Derive.needs_of g.D.Derive.fact_of c.args.slots.now c.remove.new.self c.in-Some.index c.args.name.now c.requires.sound p c.remove.ensures).carries
