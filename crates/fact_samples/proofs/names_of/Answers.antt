use Rattle.std.proofs.Common.{◌≡◌, ℕ, ◌+◌, ◌-◌, ◌<◌, ◌≤◌, List, [], ◌∷◌, ◌++◌, length, take, drop, sym, ap, ◌∙◌, append_assoc, length-drop, arith}
use Rattle.std.proofs.lemmas.List.{append-nil}
use Rattle.fact_samples.specs.Sample.{names}
use Rattle.fact_samples.specs.SampleLaws.{names-drop, names-short}
use Rattle.fact_samples.proofs.names_of.Goals as goal

pub loop-at-preserved : goal.loop-at-preserved
loop-at-preserved c =
    let bytes = c.args.bytes.now in let at = c.loop-at.at in let so_far = c.loop-at.names in let text = c.in_ok-from_str.field-0 in
    let l : at + 2 ≤ length bytes = omega arith in
    let two : at + 2 - at ≡ 2 = omega arith in
    let name : text ≡ take 2 (drop at bytes) = c.in_ok-from_str.ensures ∙ c.in-Ok.ensures.cases.0 ∙ ap (λ (n : ℕ). take n (drop at bytes)) two in
    record {
      rest =
          ap (λ (xs : List (List ℕ)). xs ++ names (drop (at + 2) bytes)) c.in_ok-push.ensures.ok ∙ append_assoc so_far (text ∷ []) (names (drop (at + 2) bytes))
          ∙ ap (λ (x : List ℕ). so_far ++ (x ∷ names (drop (at + 2) bytes))) name ∙ ap (λ (xs : List (List ℕ)). so_far ++ xs) (sym (names-drop bytes at l)) ∙ c.loop-at.invariant.rest;
      within = l;
    }

pub returns : goal.returns
returns c =
    let bytes = c.args.bytes.now in let at = c.loop-at.at in let so_far = c.loop-at.names in
    let short : length (drop at bytes) < 2 = omega (arith, length-drop at bytes) in
    sym (append-nil so_far) ∙ ap (λ (xs : List (List ℕ)). so_far ++ xs) (sym (names-short (drop at bytes) short)) ∙ c.loop-at.invariant.rest
