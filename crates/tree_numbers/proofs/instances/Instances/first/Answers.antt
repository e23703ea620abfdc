use Rattle.std.proofs.Common.{◌∷◌, [], ◌∙◌, sym, subst}
use Rattle.indexmap.proofs.CallerLemmas.{insert_entry-new}
use Rattle.list_laws.proofs.Lists.{all-both}
use Rattle.std.specs.Prelude.{nat_eq}
use Rattle.kind_table.specs.Flattened.{flat_of}
use Rattle.tree_numbers.specs.Numbered.{AreFirst, AreMet, IsFirst, IsSameInstance}
use Rattle.tree_numbers.proofs.Entries.{entries-lookup}
use Rattle.tree_numbers.proofs.Growing.{met-more}
use Rattle.tree_numbers.proofs.Sharing.{instance-back}
use Rattle.tree_numbers.proofs.instances.Instances.first.Goals as goal

pub returns-in-Some-clause-same : goal.returns-in-Some-clause-same
returns-in-Some-clause-same c =
    let flat = flat_of c.args.flat.now in
    entries-lookup nat_eq (IsSameInstance flat) (instance-back flat) c.args.self.now.firsts.entries c.args.instance c.in-Some.first.now c.requires.instances.firsts (sym c.in-Some.ensures.value)

pub returns-in-Some-clause-first : goal.returns-in-Some-clause-first
returns-in-Some-clause-first c =
    let known = c.args.self.now.known.entries in
    entries-lookup nat_eq (λ j n. IsFirst known n) (λ a b n same first. first) c.args.self.now.firsts.entries c.args.instance c.in-Some.first.now c.requires.instances.met (sym c.in-Some.ensures.value)

pub returns-in_err-first-clause-instances : goal.returns-in_err-first-clause-instances
returns-in_err-first-clause-instances c =
    let instances = c.args.self.now in
    record {
      firsts = c.requires.instances.firsts;
      met = met-more instances.known.entries c.first_met.new.known.entries instances.firsts.entries c.in_err-first.ensures.kept c.requires.instances.met;
      known = c.in_err-first.ensures.known;
    }

pub returns-in_err-insert-clause-instances : goal.returns-in_err-insert-clause-instances
returns-in_err-insert-clause-instances c =
    let instances = c.args.self.now in
    let met = met-more instances.known.entries c.first_met.new.known.entries instances.firsts.entries c.in_ok-first.ensures.kept c.requires.instances.met in
    record {
      firsts = subst (AreFirst (flat_of c.args.flat.now)) (sym c.in_err-insert.ensures.err) c.requires.instances.firsts;
      met = subst (AreMet c.first_met.new.known.entries) (sym c.in_err-insert.ensures.err) met;
      known = c.in_ok-first.ensures.known;
    }

pub returns-clause-instances : goal.returns-clause-instances
returns-clause-instances c =
    let flat = flat_of c.args.flat.now in
    let instances = c.args.self.now in
    let entries = instances.firsts.entries in
    let known = c.first_met.new.known.entries in
    let one = (c.args.instance, c.in_ok-first.first) ∷ [] in
    let met = met-more instances.known.entries known entries c.in_ok-first.ensures.kept c.requires.instances.met in
    let more = c.in_ok-insert.ensures.entries ∙ insert_entry-new nat_eq instances.firsts c.args.instance c.in_ok-first.first (sym c.in_default.ensures.value) in
    record {
      firsts = subst (AreFirst flat) (sym more) (all-both (λ e. IsSameInstance flat e.0 e.1) entries one c.requires.instances.firsts (c.in_ok-first.ensures.same, tt));
      met = subst (AreMet known) (sym more) (all-both (λ e. IsFirst known e.1) entries one met (c.in_ok-first.ensures.first, tt));
      known = c.in_ok-first.ensures.known;
    }
