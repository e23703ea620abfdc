-- Levels of uses, one after another.
use Rattle.std.proofs.Common.{◌≡◌, ℕ, Bool, true, false, cond, List, [], ◌∷◌, ◌++◌, Option, Some, refl, sym, ap, ◌∙◌, ◌+◌, ◌<◌, get_or, drop, length, take}
use Rattle.std.proofs.lemmas.List.{append-nil, append_assoc, map-append, take_more}
use Rattle.list_laws.proofs.Lists.{rest-at}
use Rattle.tla_symbols.specs.declared.lexeme.Lexeme.{Lexeme}
use Rattle.tla_model.specs.declared.Diagnostic.{Diagnostic}
use Rattle.std.specs.Prelude.{nat_eq}
use Rattle.tla_model.specs.declared.entity.Level.{Level}
use Rattle.tree_kinds.specs.TreeLevels.{LevelFinding, Leveled, NotConstant, Refused, TooHigh}
use Rattle.module_kinds.specs.ModuleKinds.{depth_faults, level_fault, level_faults, level_of}
use Rattle.found_levels.specs.declared.findings.LevelFinding.TheVariants as code
use Rattle.found_levels.specs.Findings.{finding_of, findings_of, level_before, or_constant}

-- one finding before those behind it
level-found : (finding : LevelFinding) (rest : List LevelFinding) (behind : Option Level) (start : ℕ) → or_constant behind ≡ level_of rest start → or_constant (level_before finding behind start) ≡ level_of (finding ∷ rest) start
level-found (Refused at) rest behind start h = h
level-found (NotConstant at) rest behind start h = h
level-found (TooHigh at) rest behind start h = h
level-found (Leveled l level) rest behind start h = here (nat_eq l.span.start start)
  where
    here : (b : Bool) → or_constant (cond b (Some level) behind) ≡ cond b level (level_of rest start)
    here true = refl
    here false = h

pub uses_before : (behind levels : ℕ → Option Level) (found : List code.the_data) (k : ℕ) (d : code.the_data) → k < length found → ((start : ℕ) → or_constant (behind start) ≡ level_of (findings_of (drop (k + 1) found)) start)
    → ((start : ℕ) → levels start ≡ level_before (finding_of (get_or found k d)) (behind start) start) → (start : ℕ) → or_constant (levels start) ≡ level_of (findings_of (drop k found)) start
uses_before behind levels found k d within h e start =
    ap or_constant (e start) ∙ level-found (finding_of (get_or found k d)) (findings_of (drop (k + 1) found)) (behind start) start (h start)
    ∙ ap (λ fs. level_of (findings_of fs) start) (sym (rest-at found k d within))

-- one finding more
findings-more : (found : List code.the_data) (k : ℕ) (d : code.the_data) → k < length found → findings_of (take (k + 1) found) ≡ findings_of (take k found) ++ finding_of (get_or found k d) ∷ []
findings-more found k d l = ap findings_of (take_more found k d l) ∙ map-append finding_of (take k found) (get_or found k d ∷ [])

-- ---- faults

depth-more : (deep : List Lexeme) (l : Lexeme) → depth_faults (deep ++ l ∷ []) ≡ depth_faults deep ++ record { code = 106; span = l.span } ∷ []
depth-more [] l = refl
depth-more (first ∷ deep) l = ap (λ faults. record { code = 106; span = first.span } ∷ faults) (depth-more deep l)

pub deep_faults_more : (deep : List Lexeme) (k : ℕ) (d : Lexeme) (faults more : List Diagnostic) → k < length deep → faults ≡ depth_faults (take k deep) → more ≡ faults ++ record { code = 106; span = (get_or deep k d).span } ∷ [] → more ≡ depth_faults (take (k + 1) deep)
deep_faults_more deep k d faults more l h e =
    e ∙ ap (λ fs. fs ++ record { code = 106; span = (get_or deep k d).span } ∷ []) h ∙ sym (depth-more (take k deep) (get_or deep k d)) ∙ ap depth_faults (sym (take_more deep k d l))

level-more : (found : List LevelFinding) (finding : LevelFinding) → level_faults (found ++ finding ∷ []) ≡ level_faults found ++ level_fault finding
level-more [] finding = append-nil (level_fault finding)
level-more (first ∷ found) finding = ap (λ faults. level_fault first ++ faults) (level-more found finding) ∙ sym (append_assoc (level_fault first) (level_faults found) (level_fault finding))

pub level_faults_more : (found : List code.the_data) (k : ℕ) (d : code.the_data) (faults more : List Diagnostic) → k < length found → faults ≡ level_faults (findings_of (take k found)) → more ≡ faults ++ level_fault (finding_of (get_or found k d)) → more ≡ level_faults (findings_of (take (k + 1) found))
level_faults_more found k d faults more l h e =
    e ∙ ap (λ fs. fs ++ level_fault (finding_of (get_or found k d))) h ∙ sym (level-more (findings_of (take k found)) (finding_of (get_or found k d)))
    ∙ ap level_faults (sym (findings-more found k d l))
