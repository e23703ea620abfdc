-- Which URLs name folders.
use Rattle.std.proofs.Common.{◌≡◌, ℕ, Bool, true, false, if◌then◌else◌, List, Some, None, codes, refl, sym, ap, ◌∙◌}
use Rattle.std.specs.Prelude.{is_some}
use Rattle.std.specs.Str.{IsUtf8, bytes_eq, is_utf8}
use Rattle.std.proofs.lemmas.Str.{IsUtf8-from_is_utf8, is_utf8-from_IsUtf8}
use Rattle.percent_encoding.specs.Percent.{percent_decode}
use Rattle.url.specs.declared.scheme.SchemeType.TheVariants.{File, SpecialNotFile, NotSpecial}
use Rattle.url.specs.Parts.{Parts}
use Rattle.url.specs.Scheme.{default_port, is_file, scheme_type}
use Rattle.server_uris.specs.Uris.{cut_path, folder_of, if_utf8}

file-kind : (scheme : List ℕ) → is_file (scheme_type scheme) ≡ bytes_eq scheme (codes "file")
unfolding scheme_type
file-kind scheme = by (bytes_eq scheme (codes "file")) (is_some (default_port scheme))
  where
    by : (b special : Bool) → is_file (if b then File else (if special then SpecialNotFile else NotSpecial)) ≡ b
    by true special = refl
    by false true = refl
    by false false = refl

pub no-file : (url : Parts) → bytes_eq url.scheme (codes "file") ≡ false → None ≡ folder_of url
no-file url e = sym (ap (λ b. if b then if_utf8 (percent_decode (cut_path url.path)) else None) (file-kind url.scheme ∙ e))

pub file-path : (url : Parts) (path : List ℕ) → bytes_eq url.scheme (codes "file") ≡ true → path ≡ percent_decode (cut_path url.path) → IsUtf8 path → Some path ≡ folder_of url
file-path url path e is utf8 =
    sym (
    ap (λ b. if b then if_utf8 (percent_decode (cut_path url.path)) else None) (file-kind url.scheme ∙ e)
    ∙ ap if_utf8 (sym is) ∙ ap (λ b. if b then Some path else None) (is_utf8-from_IsUtf8 path utf8)
    )

pub no-text : (url : Parts) (path : List ℕ) → bytes_eq url.scheme (codes "file") ≡ true → path ≡ percent_decode (cut_path url.path) → (IsUtf8 path → ⊥) → None ≡ folder_of url
no-text url path e is none =
    sym (ap (λ b. if b then if_utf8 (percent_decode (cut_path url.path)) else None) (file-kind url.scheme ∙ e) ∙ ap if_utf8 (sym is) ∙ by (is_utf8 path) refl)
  where
    by : (b : Bool) → is_utf8 path ≡ b → (if b then Some path else None) ≡ None
    by true t = absurd (none (IsUtf8-from_is_utf8 path t))
    by false t = refl
