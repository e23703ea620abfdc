-- Texts that are cut behind a front, before the last `/` and before the one at the end.
use Rattle.std.proofs.Common.{◌≡◌, ◌≢◌, ℕ, suc, ◌+◌, ◌<◌, Bool, true, false, if◌then◌else◌, nat_eq, List, [], ◌∷◌, ◌++◌, length, take, drop, drop-cons, get_or, Option, Some, None, Bor, codes, refl, sym, ap, ◌∙◌, append_assoc, length-append, arith}
use Rattle.std.specs.Prelude.{option_and_then, MatchOption}
use Rattle.std.specs.List.{AllByRecursion, starts_with}
use Rattle.std.specs.Option.{option_copied}
use Rattle.std.proofs.lemmas.Bool.Decides.{Decides-eqb}
use Rattle.std.proofs.lemmas.List.{drop-drop, get_or-drop, take-append-drop, length-drop}
use Rattle.std.proofs.lemmas.Slice.Eq.{starts_is}
use Rattle.std.proofs.lemmas.Str.Pattern.{starts_text}
use Rattle.std.proofs.Math.Seq.{drop-append_seam}
use Rattle.std.specs.Str.Pattern.{FindsTextPrefix}
use Rattle.server_uris.specs.Uris.{IsBeforeLastSlash, before_last_slash, behind_front, behind_root}
use Rattle.server_uris.proofs.Slashes.{last_slash_is, none_in}

-- ---- fronts

pub front-cut : (front text : List ℕ) (r : Option (Bor (List ℕ))) → MatchOption r (FindsTextPrefix front text None) (λ x. (n : ℕ) × FindsTextPrefix front text (Some n) × (x.now ≡ drop n text) × (length x.now + n ≡ length text)) → option_copied r ≡ behind_front front text
front-cut front text None h = ap (λ b. if b then Some (drop (length front) text) else None) (starts_text false front text h)
front-cut front text (Some x) h =
    let starts : starts_with nat_eq text front ≡ true = (starts_is Decides-eqb text front (starts_with nat_eq text front) refl).1 (drop h.0 text) h.1.1 in
    ap Some (h.2 ∙ ap (λ n. drop n text) h.1.0) ∙ sym (ap (λ b. if b then Some (drop (length front) text) else None) starts)

starts-then : (text front rest : List ℕ) → text ≡ front ++ rest → starts_with nat_eq text front ≡ true
starts-then text front rest e = (starts_is Decides-eqb text front (starts_with nat_eq text front) refl).1 rest e

then-starts : (text front : List ℕ) → starts_with nat_eq text front ≡ true → text ≡ front ++ drop (length front) text
then-starts text front e = (starts_is Decides-eqb text front (starts_with nat_eq text front) refl).0 e

-- behind a root's text and a `/` stands what stands behind the `/` behind the root's text
pub root-cut : (root text : List ℕ) → option_and_then (behind_front (codes "/")) (behind_front root text) ≡ behind_root root text
root-cut root text = by (starts_with nat_eq text root) refl (starts_with nat_eq (drop (length root) text) (codes "/")) refl (starts_with nat_eq text (root ++ codes "/")) refl
  where
    rest : List ℕ
    rest = drop (length root) text

    whole : starts_with nat_eq text (root ++ codes "/") ≡ true → text ≡ root ++ (codes "/" ++ drop (length (root ++ codes "/")) text)
    whole e = then-starts text (root ++ codes "/") e ∙ append_assoc root (codes "/") (drop (length (root ++ codes "/")) text)

    by : (a : Bool) → starts_with nat_eq text root ≡ a → (b : Bool) → starts_with nat_eq rest (codes "/") ≡ b → (c : Bool) → starts_with nat_eq text (root ++ codes "/") ≡ c
        → option_and_then (λ t. if starts_with nat_eq t (codes "/") then Some (drop 1 t) else None) (if a then Some rest else None) ≡ (if c then Some (drop (length (root ++ codes "/")) text) else None)
    by false ea b eb false ec = refl
    by false ea b eb true ec = let no : false ≡ true = sym ea ∙ starts-then text root (codes "/" ++ drop (length (root ++ codes "/")) text) (whole ec) in cc
    by true ea true eb true ec = ap (λ d. if d then Some (drop 1 rest) else None) eb ∙ ap Some (drop-drop 1 (length root) text ∙ ap (λ n. drop n text) (sym (length-append root (codes "/"))))
    by true ea false eb false ec = ap (λ d. if d then Some (drop 1 rest) else None) eb
    by true ea true eb false ec =
        let written : text ≡ (root ++ codes "/") ++ drop 1 rest = then-starts text root ea ∙ ap (λ t. root ++ t) (then-starts rest (codes "/") eb) ∙ sym (append_assoc root (codes "/") (drop 1 rest)) in
        let no : false ≡ true = sym ec ∙ starts-then text (root ++ codes "/") (drop 1 rest) written in
        cc
    by true ea false eb true ec =
        let behind : rest ≡ codes "/" ++ drop (length (root ++ codes "/")) text = ap (drop (length root)) (whole ec) ∙ drop-append_seam root (codes "/" ++ drop (length (root ++ codes "/")) text) in
        let no : false ≡ true = sym eb ∙ starts-then rest (codes "/") (drop (length (root ++ codes "/")) text) behind in
        cc

-- ---- the last `/`

plain-from : (bs : List ℕ) → ((i : ℕ) → i < length bs → get_or bs i 0 ≢ 47) → AllByRecursion (λ b. b ≢ 47) bs
plain-from [] h = tt
plain-from (b ∷ bs) h = (h 0 (omega arith), plain-from bs (λ i l. h (suc i) (omega (arith, l))))

pub no-slash : (text : List ℕ) → ((i : ℕ) → i < length text → get_or text i 0 ≢ 47) → None ≡ before_last_slash text
no-slash text h = sym (none_in text (plain-from text h))

pub last-at : (text : List ℕ) (at : ℕ) → at < length text → get_or text at 0 ≡ 47 → ((i : ℕ) → at < i → i < length text → get_or text i 0 ≢ 47) → Some (take at text) ≡ before_last_slash text
last-at text at within here free =
    let written : text ≡ take at text ++ (codes "/" ++ drop (at + 1) text) =
    sym (take-append-drop at text) ∙ ap (λ t. take at text ++ t) (drop-cons text at 0 within ∙ ap (λ b. b ∷ drop (suc at) text) here ∙ ap (λ n. 47 ∷ drop n text) (let e : suc at ≡ at + 1 = omega arith in e)) in
    let is : IsBeforeLastSlash text (take at text) = record {
      behind = drop (at + 1) text;
      written = written;
      plain = plain-from (drop (at + 1) text) (λ i l e. free (at + 1 + i) (omega arith) (omega (arith, l, length-drop (at + 1) text, within)) (sym (get_or-drop (at + 1) text i 0) ∙ e));
    } in
    sym ((last_slash_is text (take at text)).1 is)
