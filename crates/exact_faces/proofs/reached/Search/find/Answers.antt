use Rattle.std.proofs.Common.{subst, sym}
use Rattle.std.specs.Arc.{arc_value}
use Rattle.module_model.specs.Exports.{exports_of}
use Rattle.exact_faces.specs.Found.{AreOnce}
use Rattle.exact_faces.specs.Searching.{CanFind, HasFound}
use Rattle.exact_faces.proofs.Named.{table-once}
use Rattle.exact_faces.proofs.Searching.{declared-of, grown-added, of-declared, search-added, there-now, with_found}
use Rattle.exact_faces.proofs.reached.Search.find.Goals as goal

pub returns-clause-search : goal.returns-clause-search
returns-clause-search c =
    search-added c.args.self.now c.in-Declared.callee.decl (arc_value c.in-Some.table.now) c.put.new.self c.requires.search (sym c.in-Some.ensures) c.in_ok-put.ensures
    (declared-of (CanFind c.args.self.now) c.args.meaning.now c.in-Declared.entity c.in-Declared.callee c.in-Declared.is c.requires.reached)
    (subst (λ table. AreOnce (exports_of table)) c.deref.ensures (table-once c.deref.result.now c.len-len.ensures.once c.len-len.ensures.symbols_once))

pub returns-clause-grown : goal.returns-clause-grown
returns-clause-grown c =
    grown-added c.args.self.now c.in-Declared.callee.decl (arc_value c.in-Some.table.now) c.put.new.self c.requires.search (sym c.in-Some.ensures) c.in_ok-put.ensures

pub returns-clause-there : goal.returns-clause-there
returns-clause-there c =
    of-declared (HasFound (with_found c.args.self.now c.put.new.self)) c.args.meaning.now c.in-Declared.entity c.in-Declared.callee c.in-Declared.is
    (there-now c.args.self.now c.in-Declared.callee.decl (arc_value c.in-Some.table.now) c.put.new.self c.requires.search (sym c.in-Some.ensures) c.in_ok-put.ensures)
