-- Questions one after another.
use Rattle.std.proofs.Common.{◌≡◌, ℕ, List, [], ◌∷◌, ◌++◌, Some, refl, sym, ap, ◌∙◌, subst, ◌+◌, ◌<◌, get_or, length, take}
use Rattle.std.proofs.lemmas.List.{append-nil, append_assoc, take_more}
use Rattle.std.specs.Prelude.{slice_get}
use Rattle.tla_symbols.specs.declared.lexeme.Lexeme.{Lexeme}
use Rattle.tla_model.specs.Entities.{Meaning}
use Rattle.kind_text.specs.FlatModule.{FlatModule}
use Rattle.tree_kinds.specs.TreeLevels.{LevelFinding}
use Rattle.flattened_trees.specs.Answers.{deep_answer, deep_answers, level_answer, level_answers}
use Rattle.flattened_trees.specs.Questions as asking
use Rattle.tree_flattener.specs.declared.state.Question.{Question}
use Rattle.tree_flattener.specs.Steps.{AreAsked, asked_of}

-- the last of some questions
pub record IsLast (frames : List (List Meaning)) (qs : List Question) (q : Question) (xs : List asking.Question) : Type 0 where
  pub firsts : List asking.Question
  pub last : asking.Question
  pub is : xs ≡ firsts ++ last ∷ []
  pub before : AreAsked frames qs firsts
  pub frame : slice_get frames q.frame ≡ Some last.frame
  pub asked : q.asked ≡ asked_of last.asked

pub last-asked : (frames : List (List Meaning)) (qs : List Question) (q : Question) (xs : List asking.Question) → AreAsked frames (qs ++ q ∷ []) xs → IsLast frames qs q xs
last-asked frames [] q [] h = absurd h
last-asked frames [] q (x ∷ []) h = record { firsts = []; last = x; is = refl; before = tt; frame = h.0; asked = h.1 }
last-asked frames [] q (x ∷ (y ∷ xs)) h = absurd h.2
last-asked frames (p ∷ qs) q [] h = absurd h
last-asked frames (p ∷ qs) q (x ∷ xs) h =
    let r = last-asked frames qs q xs h.2 in record {
      firsts = x ∷ r.firsts;
      last = r.last;
      is = ap (λ ys. x ∷ ys) r.is;
      before = (h.0, h.1, r.before);
      frame = r.frame;
      asked = r.asked;
    }

module _ (flat : FlatModule) where
  levels-more : (xs : List asking.Question) (x : asking.Question) → level_answers flat (xs ++ x ∷ []) ≡ level_answers flat xs ++ level_answer flat x.frame x.asked
  levels-more [] x = append-nil (level_answer flat x.frame x.asked)
  levels-more (y ∷ xs) x =
      ap (λ ys. level_answer flat y.frame y.asked ++ ys) (levels-more xs x)
      ∙ sym (append_assoc (level_answer flat y.frame y.asked) (level_answers flat xs) (level_answer flat x.frame x.asked))

  deep-more : (xs : List asking.Question) (x : asking.Question) → deep_answers flat (xs ++ x ∷ []) ≡ deep_answers flat xs ++ deep_answer flat x.asked
  deep-more [] x = append-nil (deep_answer flat x.asked)
  deep-more (y ∷ xs) x =
      ap (λ ys. deep_answer flat y.asked ++ ys) (deep-more xs x)
      ∙ sym (append_assoc (deep_answer flat y.asked) (deep_answers flat xs) (deep_answer flat x.asked))

  -- with what one question more finds
  pub levels_more : (frames : List (List Meaning)) (qs : List Question) (q : Question) (found one more : List LevelFinding)
      → ((xs : List asking.Question) → AreAsked frames qs xs → found ≡ level_answers flat xs)
      → ((x : asking.Question) → slice_get frames q.frame ≡ Some x.frame → q.asked ≡ asked_of x.asked → one ≡ level_answer flat x.frame x.asked)
      → more ≡ found ++ one → (xs : List asking.Question) → AreAsked frames (qs ++ q ∷ []) xs → more ≡ level_answers flat xs
  levels_more frames qs q found one more h e is xs asked =
      let r = last-asked frames qs q xs asked in
      is ∙ ap (λ a. a ++ one) (h r.firsts r.before) ∙ ap (λ b. level_answers flat r.firsts ++ b) (e r.last r.frame r.asked)
      ∙ sym (levels-more r.firsts r.last) ∙ ap (level_answers flat) (sym r.is)

  pub deep_more : (frames : List (List Meaning)) (qs : List Question) (q : Question) (found one more : List Lexeme)
      → ((xs : List asking.Question) → AreAsked frames qs xs → found ≡ deep_answers flat xs)
      → ((x : asking.Asked) → q.asked ≡ asked_of x → one ≡ deep_answer flat x)
      → more ≡ found ++ one → (xs : List asking.Question) → AreAsked frames (qs ++ q ∷ []) xs → more ≡ deep_answers flat xs
  deep_more frames qs q found one more h e is xs asked =
      let r = last-asked frames qs q xs asked in
      is ∙ ap (λ a. a ++ one) (h r.firsts r.before) ∙ ap (λ b. deep_answers flat r.firsts ++ b) (e r.last.asked r.asked)
      ∙ sym (deep-more r.firsts r.last) ∙ ap (deep_answers flat) (sym r.is)

  -- the same of a list of questions that is gone through
  pub levels_on : (frames : List (List Meaning)) (qs : List Question) (k : ℕ) (d : Question) (found one more : List LevelFinding) → k < length qs
      → ((xs : List asking.Question) → AreAsked frames (take k qs) xs → found ≡ level_answers flat xs)
      → ((x : asking.Question) → slice_get frames (get_or qs k d).frame ≡ Some x.frame → (get_or qs k d).asked ≡ asked_of x.asked → one ≡ level_answer flat x.frame x.asked)
      → more ≡ found ++ one → (xs : List asking.Question) → AreAsked frames (take (k + 1) qs) xs → more ≡ level_answers flat xs
  levels_on frames qs k d found one more l h e is xs asked =
      levels_more frames (take k qs) (get_or qs k d) found one more h e is xs (subst (λ ys. AreAsked frames ys xs) (take_more qs k d l) asked)

  pub deep_on : (frames : List (List Meaning)) (qs : List Question) (k : ℕ) (d : Question) (found one more : List Lexeme) → k < length qs
      → ((xs : List asking.Question) → AreAsked frames (take k qs) xs → found ≡ deep_answers flat xs)
      → ((x : asking.Asked) → (get_or qs k d).asked ≡ asked_of x → one ≡ deep_answer flat x)
      → more ≡ found ++ one → (xs : List asking.Question) → AreAsked frames (take (k + 1) qs) xs → more ≡ deep_answers flat xs
  deep_on frames qs k d found one more l h e is xs asked =
      deep_more frames (take k qs) (get_or qs k d) found one more h e is xs (subst (λ ys. AreAsked frames ys xs) (take_more qs k d l) asked)

pub none-asked : (flat : FlatModule) (frames : List (List Meaning)) (xs : List asking.Question) → AreAsked frames [] xs → [] ≡ level_answers flat xs
none-asked flat frames [] h = refl
none-asked flat frames (x ∷ xs) h = absurd h
