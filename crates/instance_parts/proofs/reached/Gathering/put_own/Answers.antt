use Rattle.std.proofs.Common.{refl, subst, sym}
use Rattle.std.specs.Arc.{arc_value}
use Rattle.module_model.specs.Parts.{InText}
use Rattle.name_context.specs.AsTables.{words_of}
use Rattle.instance_parts.specs.Gathering.{AreGathered, AreTaken, HaveGrown, exported_at, told_by}
use Rattle.instance_leads.specs.Keys.{decl_of}
use Rattle.std.specs.Prelude.{Some, ◌≡◌}
use Rattle.instance_parts.proofs.Gathers.{put-gathered, put-grown, put-is, taken-on}
use Rattle.instance_parts.proofs.reached.Gathering.put_own.Goals as goal

pub returns-clause-gathering : goal.returns-clause-gathering
returns-clause-gathering c =
    let g = c.args.self.now in
    record {
      sound = c.requires.gathering.sound;
      gathered = subst (λ (own : InText). AreGathered g.scope.now own g.parts g.seen.items) (sym c.in_ok-put.ensures)
          (put-gathered g.scope.now c.requires.gathering.sound g.own g.parts g.seen.items c.requires.gathering.gathered c.args.place (arc_value c.in_ok-table.table) c.args.held c.requires.known c.requires.closed c.in_ok-table.ensures);
      joined = subst (λ (own : InText). AreTaken g.scope.now.imported.now (words_of g.joined.entries) (told_by g.scope.now.title.now own g.parts)) (sym c.in_ok-put.ensures)
          (taken-on g.scope.now.imported.now (words_of g.joined.entries) (told_by g.scope.now.title.now g.own g.parts) _ g.seen.items g.seen.items
          (put-grown g.scope.now c.requires.gathering.sound g.own g.parts g.seen.items c.requires.gathering.gathered c.args.place (arc_value c.in_ok-table.table) c.args.held c.requires.known c.requires.closed c.in_ok-table.ensures) c.requires.gathering.joined);
      count = c.requires.gathering.count;
    }

pub returns-clause-grown : goal.returns-clause-grown
returns-clause-grown c =
    let g = c.args.self.now in
    record {
      scope = refl;
      grown = subst (λ (own : InText). HaveGrown (told_by g.scope.now.title.now g.own g.parts) (told_by g.scope.now.title.now own g.parts) g.seen.items g.seen.items) (sym c.in_ok-put.ensures)
          (put-grown g.scope.now c.requires.gathering.sound g.own g.parts g.seen.items c.requires.gathering.gathered c.args.place (arc_value c.in_ok-table.table) c.args.held c.requires.known c.requires.closed c.in_ok-table.ensures);
    }

pub returns-clause-told : goal.returns-clause-told
returns-clause-told c =
    let g = c.args.self.now in
    subst (λ (own : InText). told_by g.scope.now.title.now own g.parts (decl_of g.scope.now.title.now c.args.place) ≡ Some (exported_at g.scope.now.nested.items c.args.held)) (sym c.in_ok-put.ensures)
    (put-is g.scope.now c.requires.gathering.sound g.own g.parts g.seen.items c.requires.gathering.gathered c.args.place (arc_value c.in_ok-table.table) c.args.held c.requires.known c.requires.closed c.in_ok-table.ensures)
