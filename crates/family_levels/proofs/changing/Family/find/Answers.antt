use Rattle.std.proofs.Common.{◌≡◌, ◌∙◌, List, arith, subst, sym}
use Rattle.family_facts.specs.declared.verdict.File.{File}
use Rattle.family_levels.specs.Holding.{HoldVersions}
use Rattle.family_levels.specs.Telling.{AreFound}
use Rattle.family_levels.specs.declared.findings.Findings.{Findings}
use Rattle.family_levels.proofs.Telling.{found-of-all}
use Rattle.family_levels.proofs.changing.Family.find.Goals as goal

-- what was found of files was found of the same files
still-found : (before files read given : List File) (kept found : Findings) → AreFound before kept → kept ≡ found → read ≡ before → given ≡ files → read ≡ given → AreFound files found
still-found before files read given kept found are view own other same = subst (λ fs. AreFound fs found) (sym own ∙ (same ∙ other)) (subst (AreFound before) view are)

pub returns-then-are_same-clause-found : goal.returns-then-are_same-clause-found
returns-then-are_same-clause-found g c =
    still-found c.self.inside.files c.args.files c.as_slice.result.now c.as_slice-then-is_none.result.now c.self.inside.found c.args.self.now
    (found-of-all c.self.inside.names c.is_none.result c.is_none.ensures c.if-is_none.true c.self.inside.files c.self.inside.found c.self.invariant.1) c.self.view_is c.as_slice.ensures c.as_slice-then-is_none.ensures c.if-are_same.ensures

pub returns-then-are_same-clause-steps : goal.returns-then-are_same-clause-steps
returns-then-are_same-clause-steps g c =
    let count = c.count-count.type_inv in
    let same = c.count-count.ensures in
    omega (arith, count, same)

pub find_family-requires : goal.find_family-requires
find_family-requires g c = record { distinct = c.requires.distinct; small = c.requires.small; kept = c.self.invariant.0; held = subst HoldVersions (sym c.take-versions.ensures.value) c.self.invariant.2 }

pub returns-clause-found : goal.returns-clause-found
returns-clause-found g c = subst (AreFound c.args.files) (sym c.drop.view_is) c.in_ok-family.ensures.found

pub returns-clause-steps : goal.returns-clause-steps
returns-clause-steps g c =
    let most = c.in_ok-family.ensures.steps in
    omega (arith, most)
