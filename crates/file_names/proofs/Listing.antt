-- The modules of a listing, file by file.
use Rattle.std.proofs.Common.{◌≡◌, ℕ, ◌+◌, ◌<◌, List, [], ◌∷◌, ◌++◌, length, get_or, take, sym, ap, ◌∙◌}
use Rattle.std.proofs.lemmas.List.{take_more}
use Rattle.std.proofs.lemmas.List.Elements.{filter_map-append}
use Rattle.file_names.specs.Files.{module_of_file, modules_of_file, modules_of_listing}

-- one more file of a listing
pub modules-more : (names : List (List ℕ)) (i : ℕ) (d name : List ℕ) (found found' : List (List ℕ)) → i < length names → name ≡ get_or names i d →
    found ≡ modules_of_listing (take i names) → found' ≡ found ++ modules_of_file name → found' ≡ modules_of_listing (take (i + 1) names)
modules-more names i d name found found' lt isname inv more =
    more
    ∙ (ap (λ f. f ++ modules_of_file name) inv
    ∙ (ap (λ n. modules_of_listing (take i names) ++ modules_of_file n) isname
    ∙ (sym (filter_map-append module_of_file (take i names) (get_or names i d ∷ [])) ∙ ap (λ ns. modules_of_listing ns) (sym (take_more names i d lt)))))
