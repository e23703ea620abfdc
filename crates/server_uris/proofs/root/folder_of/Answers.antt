use Rattle.std.proofs.Common.{ℕ, List, codes, refl, sym, ap, ◌∙◌, subst}
use Rattle.std.specs.Str.{IsUtf8, bytes_eq}
use Rattle.std.proofs.lemmas.Bool.{not-false, not-true}
use Rattle.percent_encoding.specs.Percent.{percent_decode}
use Rattle.server_uris.specs.Uris.{cut_path}
use Rattle.server_uris.proofs.Folders.{file-path, no-file, no-text}
use Rattle.server_uris.proofs.root.folder_of.Goals as goal

pub returns-then-ne : goal.returns-then-ne
returns-then-ne c =
    no-file c.args.url.now (ap (λ (s : List ℕ). bytes_eq s (codes "file")) (sym c.scheme.ensures.value) ∙ not-true (bytes_eq c.scheme.result.now (codes "file")) (sym c.ne.ensures ∙ c.if-ne.true))

pub returns-in_ok-from_str-in-Ok : goal.returns-in_ok-from_str-in-Ok
returns-in_ok-from_str-in-Ok c =
    let shown = c.in_ok-from_str-in-Ok.ensures ∙ c.deref.ensures.value ∙ c.in-Ok.ensures.value in
    file-path c.args.url.now c.in_ok-from_str-in-Ok.field-0
    (ap (λ (s : List ℕ). bytes_eq s (codes "file")) (sym c.scheme.ensures.value) ∙ not-false (bytes_eq c.scheme.result.now (codes "file")) (sym c.ne.ensures ∙ c.if-ne.false))
    (shown ∙ c.percent_decode-decoded.ensures.bytes ∙ ap percent_decode (c.as_bytes.ensures.value ∙ c.cut_path.ensures ∙ ap cut_path c.path.ensures.value))
    (subst IsUtf8 (sym shown) c.in-Ok.ensures.ok_only_if_utf8)

pub returns-in-Err-Utf8 : goal.returns-in-Err-Utf8
returns-in-Err-Utf8 c =
    let decoded = c.percent_decode-decoded.ensures.bytes ∙ ap percent_decode (c.as_bytes.ensures.value ∙ c.cut_path.ensures ∙ ap cut_path c.path.ensures.value) in
    no-text c.args.url.now (percent_decode (cut_path c.args.url.now.path))
    (ap (λ (s : List ℕ). bytes_eq s (codes "file")) (sym c.scheme.ensures.value) ∙ not-false (bytes_eq c.scheme.result.now (codes "file")) (sym c.ne.ensures ∙ c.if-ne.false)) refl
    (λ utf8. let e = c.in-Err-Utf8.ensures.utf8 (subst IsUtf8 (sym decoded) utf8) in cc e)
