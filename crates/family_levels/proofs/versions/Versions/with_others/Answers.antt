use Rattle.std.proofs.Common.{◌∙◌, Option, subst, sym, ℕ}
use Rattle.family_tables.specs.Tables.{entry_of}
use Rattle.family_tables.proofs.Ordered.{found-more}
use Rattle.family_tables.proofs.Tabling.{gone}
use Rattle.family_levels.specs.Versions.{AreVersions, IsVersion, Shown}
use Rattle.family_levels.proofs.Lasting.{version-copy}
use Rattle.family_levels.proofs.versions.Versions.with_others.Goals.{in-Some+in_ok-copied+in_ok-add, in_default}
use Rattle.family_levels.proofs.versions.Versions.with_others.Goals as goal

pub loop-index-preserved : goal.loop-index-preserved
loop-index-preserved c =
    let inv = c.loop-index.invariant in
    let versions = c.loop-index.versions in
    let name = c.at.result.0.now in
    let known = c.args.self.nodes.known in
    let next = c.args.self.nodes.next in
    elim c.match-version_there.branch [
      | in-Some+in_ok-copied+in_ok-add w ↦
          let fresh = gone c.get.result (entry_of versions name) (sym c.is_some.ensures ∙ c.if-is_some.false) c.get.ensures in
          let version = w.in-Some.version.now in
          let copy = w.in_ok-copied.field-0 in (
            inv.0,
            found-more (IsVersion known inv.0 next) versions c.match-version_there.versions name copy fresh (w.versions-is ∙ w.in_ok-add.ensures)
                (version-copy known inv.0 next name version copy w.in_ok-copied.ensures (inv.2 name version w.in-Some.ensures)) inv.1,
            inv.2,
          )
      | in_default w ↦
          subst (λ vs. (shown : ℕ → Option Shown) × AreVersions known shown next vs × AreVersions known shown next c.args.old.now) (sym w.versions-is) inv
    ]
