-- A file stands for a module exactly where it is the module's.
use Rattle.std.proofs.Common.{◌≡◌, ℕ, ◌+◌, ◌-◌, Bool, true, false, ◌&&◌, if◌then◌else◌, nat_eq, List, ◌++◌, length, take, Option, Some, None, codes, refl, sym, ap, ◌∙◌, length-append, arith}
use Rattle.std.specs.List.{ends_with}
use Rattle.std.proofs.lemmas.Bool.Decides.{Decides-eqb}
use Rattle.std.proofs.lemmas.List.{take-append-le, take_all}
use Rattle.std.proofs.lemmas.Slice.Eq.{ends_is}
use Rattle.tla_lexeme.specs.LexemeSets.{is_identifier}
use Rattle.file_names.specs.Files.{file_of, module_of_file}

abbrev extension : List ℕ
extension = codes ".tla"

abbrev file_if : Bool → List ℕ → Option (List ℕ)
file_if passes stem = if passes then Some stem else None

named_if : (file stem name : List ℕ) (ends passes : Bool) → (ends ≡ true → file ≡ stem ++ extension) → is_identifier stem ≡ passes → file_if (ends && passes) stem ≡ Some name → (is_identifier name ≡ true) × (file ≡ file_of name)
named_if file stem name true true h p e =
    let same : stem ≡ name = cc in (ap is_identifier (sym same) ∙ p, h refl ∙ ap (λ s. s ++ extension) same)
named_if file stem name true false h p e = cc
named_if file stem name false passes h p e = cc

abbrev stem_of : List ℕ → List ℕ
stem_of file = take (length file - 4) file

pub file_named : (file name : List ℕ) → module_of_file file ≡ Some name → (is_identifier name ≡ true) × (file ≡ file_of name)
file_named file name e =
    named_if file (stem_of file) name (ends_with nat_eq file extension) (is_identifier (stem_of file)) (ends_is Decides-eqb file extension (ends_with nat_eq file extension) refl).0 refl e

stem_is : (name : List ℕ) → stem_of (file_of name) ≡ name
stem_is name =
    let long : length (file_of name) ≡ length name + 4 = length-append name extension in
    let short : length (file_of name) - 4 ≡ length name = omega (arith, long) in
    ap (λ k. take k (file_of name)) short ∙ take-append-le (length name) name extension (omega arith) ∙ take_all (length name) name (omega arith)

pub name_is_file : (name : List ℕ) → is_identifier name ≡ true → module_of_file (file_of name) ≡ Some name
name_is_file name identifier =
    let ends : ends_with nat_eq (file_of name) extension ≡ true = (ends_is Decides-eqb (file_of name) extension (ends_with nat_eq (file_of name) extension) refl).1 name refl in
    let passes : is_identifier (stem_of (file_of name)) ≡ true = ap is_identifier (stem_is name) ∙ identifier in
    ap (λ b. file_if (b && is_identifier (stem_of (file_of name))) (stem_of (file_of name))) ends ∙ ap (λ b. file_if b (stem_of (file_of name))) passes ∙ ap Some (stem_is name)
