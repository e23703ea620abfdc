-- Frames of notices, one behind another.
use Rattle.std.proofs.Common.{◌≡◌, ℕ, ◌+◌, ◌<◌, List, [], ◌∷◌, ◌++◌, length, take, drop, get_or, sym, ap, ◌∙◌}
use Rattle.std.proofs.lemmas.Grind.{flat_map-append}
use Rattle.std.proofs.lemmas.List.{flat_map_more, take_more, take-append-drop}
use Rattle.lsp_answers.specs.declared.Due.{Due}
use Rattle.lsp_session.specs.SessionOutput.{IsCut, notice_frame, notice_frames}

-- one more notice
pub frames_pushed : (start mid new : List ℕ) (dues : List Due) (i : ℕ) (due : Due) → i < length dues → due ≡ get_or dues i due → mid ≡ start ++ notice_frames (take i dues) → new ≡ mid ++ notice_frame due → new ≡ start ++ notice_frames (take (i + 1) dues)
frames_pushed start mid new dues i due within is before after =
    after ∙ ap (λ l. l ++ notice_frame due) before ∙ flat_map_more notice_frame start (take i dues) due ∙ ap (λ d. start ++ notice_frames (take i dues ++ d ∷ [])) is ∙ ap (λ l. start ++ notice_frames l) (sym (take_more dues i due within))

-- the frames of the first notices are a beginning of those of all
pub frames_cut : (start new : List ℕ) (dues : List Due) (i : ℕ) → new ≡ start ++ notice_frames (take i dues) → IsCut start new (notice_frames dues)
frames_cut start new dues i written = record {
  more = notice_frames (take i dues);
  rest = notice_frames (drop i dues);
  appended = written;
  cut = ap notice_frames (sym (take-append-drop i dues)) ∙ flat_map-append notice_frame (take i dues) (drop i dues);
}
