use Rattle.std.proofs.Common.{◌≡◌, List, length, arith, subst, sym, ap}
use Rattle.std.specs.Prelude.{sum_by}
use Rattle.family_facts.specs.Verdicts.{AreDistinct}
use Rattle.family_facts.specs.declared.verdict.File.{File}
use Rattle.family_levels.specs.Telling.{AreFoundOf}
use Rattle.server_texts.specs.Notes.{files_of}
use Rattle.workspace.proofs.Finding.{files-apart, files-bytes, names-found}
use Rattle.workspace.proofs.found.find_named.Goals as goal

pub find_named-requires-clause-distinct : goal.find_named-requires-clause-distinct
find_named-requires-clause-distinct g c = subst AreDistinct (sym c.in_ok-files.ensures) (files-apart c.args.texts.now c.requires.order)

pub find_named-requires-clause-small : goal.find_named-requires-clause-small
find_named-requires-clause-small g c =
    let count : sum_by (λ (file : File). length file.bytes) c.in_ok-files.files ≡ sum_by (λ (file : File). length file.bytes) (files_of c.args.texts.now) =
    ap (λ (files : List File). sum_by (λ (file : File). length file.bytes) files) c.in_ok-files.ensures in
    let bytes = files-bytes c.args.texts.now in
    omega (arith, count, bytes, c.requires.few)

pub returns : goal.returns
returns g c = names-found c.args.texts.now c.find_named.new.self c.args.names (subst (λ files. AreFoundOf c.args.names files c.find_named.new.self) c.in_ok-files.ensures c.in_ok-find_named.ensures.found)
