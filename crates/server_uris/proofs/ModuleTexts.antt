-- Which texts behind a root's are those of modules.
use Rattle.std.proofs.Common.{◌≡◌, ◌↔◌, ℕ, Bool, true, false, if◌then◌else◌, nat_eq, List, ◌++◌, length, drop, Some, None, codes, refl, sym, ap, ◌∙◌, append_assoc}
use Rattle.std.specs.Prelude.{option_and_then}
use Rattle.std.specs.List.{starts_with}
use Rattle.std.proofs.lemmas.Bool.Decides.{Decides-eqb}
use Rattle.std.proofs.lemmas.Slice.Eq.{starts_is}
use Rattle.std.proofs.Math.Seq.{drop-append_seam}
use Rattle.file_names.specs.Files.{file_of, module_of_file}
use Rattle.file_names.proofs.Named.{file_named, name_is_file}
use Rattle.server_uris.specs.Uris.{module_behind, IsModuleText}

abbrev base : List ℕ → List ℕ
base root = root ++ codes "/"

behind_if : (root text name file : List ℕ) (starts : Bool) → (starts ≡ true → text ≡ base root ++ file) → option_and_then module_of_file (if starts then Some file else None) ≡ Some name → IsModuleText root text name
behind_if root text name file true h e =
    let f = file_named file name e in
    record { identifier = f.0; written = h refl ∙ ap (λ t. base root ++ t) f.1 ∙ append_assoc root (codes "/") (file_of name) }
behind_if root text name file false h e = cc

module_from : (root text name : List ℕ) → module_behind root text ≡ Some name → IsModuleText root text name
module_from root text name e =
    let starts = starts_with nat_eq text (base root) in
    let begun = (starts_is Decides-eqb text (base root) starts refl).0 in
    behind_if root text name (drop (length (base root)) text) starts begun e

module_is : (root text name : List ℕ) → IsModuleText root text name → module_behind root text ≡ Some name
module_is root text name is =
    let written : text ≡ base root ++ file_of name = is.written ∙ sym (append_assoc root (codes "/") (file_of name)) in
    let starts : starts_with nat_eq text (base root) ≡ true = (starts_is Decides-eqb text (base root) (starts_with nat_eq text (base root)) refl).1 (file_of name) written in
    let behind : drop (length (base root)) text ≡ file_of name = ap (drop (length (base root))) written ∙ drop-append_seam (base root) (file_of name) in
    ap (λ b. option_and_then module_of_file (if b then Some (drop (length (base root)) text) else None)) starts ∙ ap module_of_file behind ∙ name_is_file name is.identifier

pub module_text_is : (root text name : List ℕ) → (module_behind root text ≡ Some name) ↔ IsModuleText root text name
module_text_is root text name = (module_from root text name, module_is root text name)
