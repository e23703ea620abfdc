-- Files that have some names, one after another.
use Rattle.std.proofs.Common.{◌≡◌, ◌<◌, ℕ, ◌+◌, Bool, true, false, List, [], ◌∷◌, ◌++◌, sym, ap, ◌∙◌, cond, filter, get_or, length, take}
use Rattle.std.proofs.lemmas.List.{append-nil}
use Rattle.std.proofs.lemmas.List.Elements.{filter_more}
use Rattle.family_facts.specs.declared.verdict.File.{File}

module _ (P : File → Bool) (files : List File) (i : ℕ) (d file : File) (l : i < length files) (is : file ≡ get_or files i d) (kept : List File) (so : kept ≡ filter P (take i files)) where
  one-more : filter P (take (i + 1) files) ≡ kept ++ cond (P file) (file ∷ []) []
  one-more = filter_more P files i d l ∙ (λ t. sym so t ++ cond (P (sym is t)) (sym is t ∷ []) [])

  pub more-in : P file ≡ true → (new : List File) → new ≡ kept ++ file ∷ [] → new ≡ filter P (take (i + 1) files)
  more-in has new added = added ∙ sym (one-more ∙ ap (λ b. kept ++ cond b (file ∷ []) []) has)

  pub more-out : P file ≡ false → kept ≡ filter P (take (i + 1) files)
  more-out lacks = sym (one-more ∙ ap (λ b. kept ++ cond b (file ∷ []) []) lacks ∙ append-nil kept)
