-- The modules of a family stand once each.
use Rattle.std.proofs.Common.{◌≡◌, ℕ, List, [], ◌∷◌, refl, sym, ap, ◌∙◌, map}
use Rattle.std.specs.Prelude.{slice_get}
use Rattle.list_laws.proofs.Lists.{at-mapped}
use Rattle.family_facts.specs.Family.{Member}
use Rattle.family_facts.specs.Verdicts.{AreDistinct, family_of}
use Rattle.family_facts.specs.declared.verdict.File.{File}
use Rattle.family_facts.proofs.Once.{family-placed}
use Rattle.family_tables.specs.Modules.{Entry, AreModules}
use Rattle.family_tables.specs.Plans.{AreOnce}
use Rattle.family_tables.specs.Tables.{names_in}

names-same : (family : List Member) (entries : List Entry) → AreModules family entries → names_in entries ≡ map (λ (m : Member). m.name) family
names-same [] [] h = refl
names-same [] (e ∷ entries) h = absurd h
names-same (m ∷ family) [] h = absurd h
names-same (m ∷ family) (e ∷ entries) h = λ i. h.0.named i ∷ names-same family entries h.1 i

-- the names of the modules of a family
pub modules-once : (files : List File) (entries : List Entry) → AreDistinct files → AreModules (family_of files) entries → AreOnce (names_in entries)
modules-once files entries d are i j name ei ej =
    let named : List Member → List (List ℕ) = map (λ (m : Member). m.name) in
    let same = names-same (family_of files) entries are in
    let a = at-mapped (λ (m : Member). m.name) (family_of files) i name (ap (λ ns. slice_get ns i) (sym same) ∙ ei) in
    let b = at-mapped (λ (m : Member). m.name) (family_of files) j name (ap (λ ns. slice_get ns j) (sym same) ∙ ej) in
    family-placed files d i j a.0 b.0 a.1 b.1 (a.2 ∙ sym b.2)
