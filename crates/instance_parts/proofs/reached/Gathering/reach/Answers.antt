use Rattle.std.proofs.Common.{ap, sym, ◌∙◌}
use Rattle.std.specs.Str.{bytes_eq}
use Rattle.instance_scope.specs.declared.scope.Scope.{Scope}
use Rattle.instance_parts.specs.Gathered.{told_in}
use Rattle.instance_leads.specs.Keys.{decl_of}
use Rattle.instance_parts.proofs.Gathers.{brought-told}
use Rattle.instance_parts.proofs.reached.Gathering.reach.Goals as goal

pub returns-else-eq-clause-gained : goal.returns-else-eq-clause-gained
returns-else-eq-clause-gained c =
    let scope = c.args.self.now.scope.now in
    record {
      is = brought-told scope.imported.now c.see.new.self.scope.now.nested.items (told_in c.see.new.self) c.see.new.self.seen.items (decl_of c.args.«module».now c.args.place) c.args.held
          (c.requires.gathering.sound.foreign (decl_of c.args.«module».now c.args.place) c.args.held c.requires.known
          (ap (λ (s : Scope). bytes_eq c.args.«module».now s.title.now) (sym c.in_ok-see.ensures.grown.scope) ∙ sym c.eq.ensures ∙ c.if-eq.false))
          c.in_ok-see.ensures.closed;
      closed = c.in_ok-see.ensures.closed;
    }
