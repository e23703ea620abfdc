-- The frame of a content, written and read back.
use Rattle.std.proofs.Common.{◌≡◌, ℕ, ◌^◌, ◌<◌, ◌≤◌, List, [], ◌∷◌, ◌++◌, length, flat_map, ◌⊎◌, inl, inr, refl, sym, subst, ⊎_elim, All, append_assoc, arith, lit<}
use Rattle.std.specs.Prelude.{codes, decimal}
use Rattle.std.specs.Char.{IsAsciiDigit}
use Rattle.std.proofs.lemmas.List.{append-nil}
use Rattle.std.proofs.lemmas.Fmt.{digits_decimal, digits_value-decimal, decimal_nonempty, length-decimal-le}
use Rattle.std.proofs.lemmas.Str.Parse.{IsDigitsTest, FoldsDigits, IsNumeralModel, numerals_by_fold}
use Rattle.rpc_frame.specs.declared.framer.FrameNext.{FrameNext}
use Rattle.rpc_frame.specs.declared.framer.FrameNext.TheVariants.{Message, NotYet}
use Rattle.rpc_frame.specs.Frames.{number_from, IsLengthLine, IsHeader, IsFrame, IsTooLong, HasFrames, HasNoFrame, frame_of}
use Rattle.rpc_frame.specs.Framing.{Held, IsNext, HasGiven}
use Rattle.rpc_frame.proofs.Grammar.{all_cons, all_none, all_head, all_tail}
use Rattle.rpc_frame.proofs.OneReading.{message_or_none, one_stream, one_answer}

tells_digits : IsDigitsTest (All IsAsciiDigit)
tells_digits =
    record {
      empty = all_none IsAsciiDigit;
      parts = λ c cs p. (all_head IsAsciiDigit c cs p, all_tail IsAsciiDigit c cs p);
      more = λ c cs one p. all_cons IsAsciiDigit c cs one p;
    }

folds_digits : FoldsDigits number_from
folds_digits = record { empty = λ n. refl; more = λ n c cs one. refl }

-- a length in decimal digits is read back
written_number : IsNumeralModel (All IsAsciiDigit) (number_from 0)
written_number = numerals_by_fold (All IsAsciiDigit) tells_digits number_from folds_digits

abbrev line_of : ℕ → List ℕ
line_of n = codes "Content-Length: " ++ decimal n

abbrev header_text : ℕ → List ℕ
header_text n = codes "Content-Length: " ++ (decimal n ++ codes "\r\n\r\n")

says_length : (n : ℕ) → n < 10 ^ 15 → n < 2 ^ 64 → IsLengthLine (line_of n) n
says_length n few small =
    let short : length (decimal n) ≤ 15 = length-decimal-le 15 n (lit< tt) few small in
    record {
      name = codes "Content-Length";
      spaces = 32 ∷ [];
      digits = decimal n;
      written = refl;
      named = refl;
      blank = all_cons (λ b. b ≡ 32) 32 [] refl (all_none (λ b. b ≡ 32));
      decimal = digits_decimal written_number n small;
      some = let more = decimal_nonempty n small in omega (arith, more);
      few = short;
      says = sym (digits_value-decimal written_number n small);
      short = omega (arith, short);
    }

header_says : (n : ℕ) → n < 10 ^ 15 → IsHeader (header_text n) n
header_says n few =
    let small : n < 2 ^ 64 = omega (arith, few) in
    (line_of n, says_length n few small, inl (sym (append_assoc (codes "Content-Length: ") (decimal n) (codes "\r\n\r\n"))))

pub frame_written : (content : List ℕ) → length content ≤ 2 ^ 24 → IsFrame (frame_of content) content
frame_written content fits =
    record {
      header = header_text (length content);
      written = refl;
      says = header_says (length content) (omega (arith, fits));
      fits = fits;
    }

pub long_written : (content more : List ℕ) → 2 ^ 24 < length content → length content < 10 ^ 15 → IsTooLong (frame_of content ++ more) (length content)
long_written content more large few =
    record {
      header = header_text (length content);
      more = content ++ more;
      written = append_assoc (header_text (length content)) content more;
      says = header_says (length content) few;
      large = large;
    }

-- each content may stand in a frame
abbrev Fit : List (List ℕ) → Type 0
Fit contents = All (λ content. length content ≤ 2 ^ 24) contents

pub stream_written : (contents : List (List ℕ)) (rest : List ℕ) → Fit contents → HasFrames (flat_map frame_of contents ++ rest) contents rest
stream_written [] rest fit = refl
stream_written (c ∷ contents) rest fit =
    (frame_of c, flat_map frame_of contents ++ rest, append_assoc (frame_of c) (flat_map frame_of contents) rest, frame_written c (all_head (λ content. length content ≤ 2 ^ 24) c contents fit), stream_written contents rest (all_tail (λ content. length content ≤ 2 ^ 24) c contents fit))

pub nothing : Held
nothing = record { taken = 0; content = []; waiting = [] }

no_message : NotYet ≡ Message → ⊥
no_message e = cc

pub nothing_framed : HasNoFrame []
unfolding nothing
nothing_framed =
    ⊎_elim (λ e. absurd (no_message e)) (λ none. none) (message_or_none nothing NotYet nothing (refl, inl refl))

all_given : (contents given : List (List ℕ)) (old : Held) (a : FrameNext) (new : Held) → Fit contents → HasGiven (flat_map frame_of contents) given old → IsNext old a new → HasNoFrame old.waiting → (given ≡ contents) × (old.waiting ≡ []) × (a ≡ NotYet)
all_given contents given old a new fit g p none =
    let stream = flat_map frame_of contents in
    let F : List ℕ → Type 0 = λ s. HasFrames s contents [] in
    let whole : F stream = subst F (append-nil stream) (stream_written contents [] fit) in
    let same = one_stream stream old.waiting [] given contents g.frames none whole nothing_framed in
    (same.0, same.1, (one_answer old a NotYet new old p (refl, inl same.1)).0)

pub given_written : (contents given : List (List ℕ)) (old : Held) (a : FrameNext) (new : Held) → Fit contents → HasGiven (flat_map frame_of contents) given old → IsNext old a new → (a ≡ Message) ⊎ ((given ≡ contents) × (old.waiting ≡ []) × (a ≡ NotYet))
given_written contents given old a new fit g p =
    ⊎_elim (λ m. inl m) (λ none. inr (all_given contents given old a new fit g p none)) (message_or_none old a new p)
