use Rattle.std.proofs.Common.{◌≡◌, List, length, arith, subst, sym, ap}
use Rattle.std.specs.Prelude.{sum_by}
use Rattle.family_facts.specs.Verdicts.{AreDistinct}
use Rattle.family_facts.specs.declared.verdict.File.{File}
use Rattle.family_levels.specs.Telling.{AreFound}
use Rattle.server_texts.specs.Notes.{files_of}
use Rattle.workspace.proofs.Finding.{files-apart, files-bytes, texts-found}
use Rattle.workspace.proofs.found.find_texts.Goals as goal

pub find-requires-clause-distinct : goal.find-requires-clause-distinct
find-requires-clause-distinct g c = subst AreDistinct (sym c.in_ok-files.ensures) (files-apart c.args.texts.now c.requires.order)

pub find-requires-clause-small : goal.find-requires-clause-small
find-requires-clause-small g c =
    let count : sum_by (λ (file : File). length file.bytes) c.in_ok-files.files ≡ sum_by (λ (file : File). length file.bytes) (files_of c.args.texts.now) =
    ap (λ (files : List File). sum_by (λ (file : File). length file.bytes) files) c.in_ok-files.ensures in
    let bytes = files-bytes c.args.texts.now in
    omega (arith, count, bytes, c.requires.few)

pub returns : goal.returns
returns g c = texts-found c.args.texts.now c.find.new.self (subst (λ files. AreFound files c.find.new.self) c.in_ok-files.ensures c.in_ok-find.ensures.found)
