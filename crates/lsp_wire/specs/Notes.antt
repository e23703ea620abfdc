-- The text of a diagnostic.
use Rattle.std.specs.Prelude.{ℕ, ◌==◌, if◌then◌else◌, List, [], ◌∷◌, codes}

-- the text of the row that has the number
abbrev pub text_at_code : {Row : Type 0} → (Row → ℕ) → (Row → List ℕ) → List Row → ℕ → List ℕ
text_at_code number text [] code = []
text_at_code number text (row ∷ rows) code = if code == number row then text row else text_at_code number text rows code

-- each diagnostic's number and text
abbrev pub texts : List (ℕ × List ℕ)
texts =
    (101, codes "not UTF-8") ∷
    (102, codes "no module header") ∷
    (103, codes "module name is not the file's") ∷
    (104, codes "text too large") ∷
    (105, codes "nesting too deep") ∷
    (106, codes "definitions too deep") ∷
    (201, codes "no lexeme") ∷
    (202, codes "syntax") ∷
    (301, codes "unknown module") ∷
    (302, codes "cyclic import") ∷
    (303, codes "imported module refused") ∷
    (401, codes "unknown symbol") ∷
    (402, codes "symbol already there") ∷
    (403, codes "clash by EXTENDS") ∷
    (404, codes "clash by INSTANCE") ∷
    (405, codes "no such parameter") ∷
    (406, codes "replaced twice") ∷
    (407, codes "parameter not replaced") ∷
    (501, codes "wrong number of arguments") ∷
    (502, codes "operator and expression confused") ∷
    (503, codes "@ outside EXCEPT") ∷
    (601, codes "level") ∷
    (602, codes "assumption not constant") ∷
    (603, codes "level of a replacement") ∷
    []

-- the text of a diagnostic
unfoldable pub note_text : ℕ → List ℕ
note_text code = text_at_code (λ row. row.0) (λ row. row.1) texts code
