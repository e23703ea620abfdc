use Rattle.std.proofs.Common.{◌≡◌, false, codes, nat_eq, refl}
use Rattle.std.specs.List.{ends_with}
use Rattle.std.proofs.lemmas.Str.Pattern.{ends_text}
use Rattle.file_names.proofs.names.module_of_file.Goals as goal

pub returns-in_err-stem : goal.returns-in_err-stem
returns-in_err-stem c =
    let e : false ≡ ends_with nat_eq c.args.file.now (codes ".tla") = ends_text false (codes ".tla") c.args.file.now c.in_err-stem.ensures.cases in
    rw (c.from_residual.ensures, ← e) refl
