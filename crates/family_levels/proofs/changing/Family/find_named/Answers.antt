use Rattle.std.proofs.Common.{◌≡◌, ◌∙◌, List, ℕ, arith, subst, sym}
use Rattle.family_facts.specs.declared.verdict.File.{File}
use Rattle.family_levels.specs.Holding.{HoldVersions}
use Rattle.family_levels.specs.Telling.{AreFoundOf}
use Rattle.family_levels.specs.declared.findings.Findings.{Findings}
use Rattle.family_levels.proofs.changing.Family.find_named.Goals as goal

-- what was found of files of some names was found of those of the same files
still-found : (names : List (List ℕ)) (before files read given : List File) (kept found : Findings) → AreFoundOf names before kept → kept ≡ found → read ≡ before → given ≡ files → read ≡ given → AreFoundOf names files found
still-found names before files read given kept found are view own other same = subst (λ fs. AreFoundOf names fs found) (sym own ∙ (same ∙ other)) (subst (AreFoundOf names before) view are)

pub returns-then-are_same-clause-found : goal.returns-then-are_same-clause-found
returns-then-are_same-clause-found g c =
    still-found c.args.names c.self.inside.files c.args.files c.as_slice-then-covers.result.now c.as_slice-then-covers-2.result.now c.self.inside.found c.args.self.now
    (subst (λ ns. AreFoundOf ns c.self.inside.files c.self.inside.found) c.as_slice.ensures (c.if-covers.ensures c.self.inside.files c.self.inside.found c.self.invariant.1)) c.self.view_is c.as_slice-then-covers.ensures c.as_slice-then-covers-2.ensures c.if-are_same.ensures

pub returns-then-are_same-clause-steps : goal.returns-then-are_same-clause-steps
returns-then-are_same-clause-steps g c =
    let count = c.count-count.type_inv in
    let same = c.count-count.ensures in
    record { part = c.args.files; distinct = c.requires.distinct; within = λ file h. h; most = omega (arith, count, same) }

pub find_part-requires : goal.find_part-requires
find_part-requires g c = record { distinct = c.requires.distinct; small = c.requires.small; kept = c.self.invariant.0; held = subst HoldVersions (sym c.take-versions.ensures.value) c.self.invariant.2 }

pub returns-clause-found : goal.returns-clause-found
returns-clause-found g c = subst (AreFoundOf c.args.names c.args.files) (sym c.drop.view_is) c.in_ok-family.ensures.found

pub returns-clause-steps : goal.returns-clause-steps
returns-clause-steps g c = c.in_ok-family.ensures.steps
