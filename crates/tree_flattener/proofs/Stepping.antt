-- Steps one after another.
use Rattle.std.proofs.Common.{◌≡◌, ℕ, zero, suc, ◌+◌, ◌-◌, ◌<◌, List, [], ◌∷◌, ◌++◌, Some, refl, sym, ap, subst, ◌∙◌, length, take, drop, map, append_assoc, arith}
use Rattle.std.specs.Prelude.{slice_get}
use Rattle.std.proofs.lemmas.List.{append-nil, length_push}
use Rattle.std.proofs.lemmas.Option.{get_or_from_slice_get}
use Rattle.list_laws.proofs.Lists.{at-end, item-at}
use Rattle.tla_model.specs.Entities.{Meaning}
use Rattle.kind_text.specs.FlatModule.{Extends, FlatModule, Keeps, Node}
use Rattle.flattened_trees.specs.Questions as asking
use Rattle.flattened_trees.specs.Questions.{over}
use Rattle.tree_flattener.specs.declared.state.Question.{Question}
use Rattle.tree_flattener.specs.declared.state.Flattening.{Flattening}
use Rattle.tree_flattener.specs.Steps.{Adds, AreAsked, Asks, Numbers, Steps, noted, numbered, question_about}
use Rattle.tree_flattener.specs.Worlds.{IsReady, World, frame_at, setting_of, with_locals}
use Rattle.tree_flattener.proofs.Within.{all-below-on, known-on, longer}

-- ---- lists and flat modules that grow

pub keeps-itself : {A : Type 0} (xs : List A) → Keeps xs xs
keeps-itself xs i x e = e

pub keeps-on : {A : Type 0} (xs ys zs : List A) → Keeps xs ys → Keeps ys zs → Keeps xs zs
keeps-on xs ys zs first then i x e = then i x (first i x e)

pub keeps-append : {A : Type 0} (xs ys : List A) → Keeps xs (xs ++ ys)
keeps-append [] ys i x e = absurd (let impossible : ⊥ = cc in impossible)
keeps-append (y ∷ xs) ys zero x e = e
keeps-append (y ∷ xs) ys (suc i) x e = keeps-append xs ys i x e

pub extends-itself : (flat : FlatModule) → Extends flat flat
extends-itself flat = record { nodes = keeps-itself flat.nodes; definitions = keeps-itself flat.definitions; instances = keeps-itself flat.instances }

pub extends-on : (a b c : FlatModule) → Extends a b → Extends b c → Extends a c
extends-on a b c first then =
    record {
      nodes = keeps-on a.nodes b.nodes c.nodes first.nodes then.nodes;
      definitions = keeps-on a.definitions b.definitions c.definitions first.definitions then.definitions;
      instances = keeps-on a.instances b.instances c.instances first.instances then.instances;
    }

pub extends-same : (a b : FlatModule) → b ≡ a → Extends a b
extends-same a b same = subst (Extends a) (sym same) (extends-itself a)

-- ---- questions

pub asked-on : (fs gs : List (List Meaning)) → Keeps fs gs → (qs : List Question) (xs : List asking.Question) → AreAsked fs qs xs → AreAsked gs qs xs
asked-on fs gs keeps [] [] are = tt
asked-on fs gs keeps [] (x ∷ xs) are = absurd are
asked-on fs gs keeps (q ∷ qs) [] are = absurd are
asked-on fs gs keeps (q ∷ qs) (x ∷ xs) are = (keeps q.frame x.frame are.0, are.1, asked-on fs gs keeps qs xs are.2)

pub asked-both : (fs : List (List Meaning)) (qs ps : List Question) (xs ys : List asking.Question) → AreAsked fs qs xs → AreAsked fs ps ys → AreAsked fs (qs ++ ps) (xs ++ ys)
asked-both fs [] ps [] ys are more = more
asked-both fs [] ps (x ∷ xs) ys are more = absurd are
asked-both fs (q ∷ qs) ps [] ys are more = absurd are
asked-both fs (q ∷ qs) ps (x ∷ xs) ys are more = (are.0, are.1, asked-both fs qs ps xs ys are.2 more)

-- the frame with a number is there
pub framed : (frames : List (List Meaning)) (frame : ℕ) → frame < length frames → slice_get frames frame ≡ Some (frame_at frames frame)
framed frames frame there =
    let found = item-at frames frame there in
    found.1 ∙ ap Some (sym (get_or_from_slice_get frames frame found.0 [] found.1))

pub noted-asked : (frames : List (List Meaning)) (frame : ℕ) → frame < length frames → (asks : List asking.Asked) → AreAsked frames (noted frame asks) (over (frame_at frames frame) asks)
noted-asked frames frame there [] = tt
noted-asked frames frame there (a ∷ asks) = (framed frames frame there, refl, noted-asked frames frame there asks)

-- ---- steps

pub steps-none : (s : Flattening) → Steps s s []
steps-none s = record { extends = extends-itself s.flat; frames = keeps-itself s.frames.items; more = []; questions = sym (append-nil s.asked.items); are = tt }

pub steps-same : (s t : Flattening) → Extends s.flat t.flat → Keeps s.frames.items t.frames.items → t.asked.items ≡ s.asked.items → Steps s t []
steps-same s t extends frames same = record { extends = extends; frames = frames; more = []; questions = same ∙ sym (append-nil s.asked.items); are = tt }

pub steps-on : (s t u : Flattening) (xs ys : List asking.Question) → Steps s t xs → Steps t u ys → Steps s u (xs ++ ys)
steps-on s t u xs ys first then =
    record {
      extends = extends-on s.flat t.flat u.flat first.extends then.extends;
      frames = keeps-on s.frames.items t.frames.items u.frames.items first.frames then.frames;
      more = first.more ++ then.more;
      questions = then.questions ∙ ap (λ z. z ++ then.more) first.questions ∙ append_assoc s.asked.items first.more then.more;
      are = asked-both u.frames.items first.more then.more xs ys (asked-on t.frames.items u.frames.items then.frames first.more xs first.are) then.are;
    }

pub keeps-same : {A : Type 0} (xs ys : List A) → ys ≡ xs → Keeps xs ys
keeps-same xs ys same = subst (Keeps xs) (sym same) (keeps-itself xs)

pub adds-steps : (s t : Flattening) (node : Node) (i : ℕ) → Adds s t node i → Steps s t []
adds-steps s t node i adds =
    steps-same s t
    (subst (Extends s.flat) (sym adds.flat) (record { nodes = keeps-append s.flat.nodes (node ∷ []); definitions = keeps-itself s.flat.definitions; instances = keeps-itself s.flat.instances }))
    (keeps-same s.frames.items t.frames.items adds.frames) adds.questions

-- a node that is added is there
pub added-there : (s t : Flattening) (node : Node) (i : ℕ) → Adds s t node i → i < length t.flat.nodes
added-there s t node i adds = subst (λ (z : FlatModule). i < length z.nodes) (sym adds.flat) (let l = length_push s.flat.nodes node in let e = adds.number in omega (arith, l, e))

pub added-node : (s t : Flattening) (node : Node) (i : ℕ) → Adds s t node i → (more : FlatModule) → Extends t.flat more → slice_get more.nodes i ≡ Some node
added-node s t node i adds more extends =
    extends.nodes i node
    (subst (λ (z : FlatModule). slice_get z.nodes i ≡ Some node) (sym adds.flat) (ap (slice_get (s.flat.nodes ++ node ∷ [])) adds.number ∙ at-end s.flat.nodes node))

-- ---- what is asked before it has a number

pub take-all-of : {A : Type 0} (xs ys : List A) → take (length xs) (xs ++ ys) ≡ xs
take-all-of [] ys = refl
take-all-of (x ∷ xs) ys = ap (λ z. x ∷ z) (take-all-of xs ys)

drop-all-of : {A : Type 0} (xs ys : List A) → drop (length xs) (xs ++ ys) ≡ ys
drop-all-of [] ys = refl
drop-all-of (x ∷ xs) ys = drop-all-of xs ys

drop-both : {A : Type 0} (xs ys zs : List A) → drop (length xs + length ys) (xs ++ (ys ++ zs)) ≡ zs
drop-both [] ys zs = let e : 0 + length ys ≡ length ys = omega arith in ap (λ n. drop n (ys ++ zs)) e ∙ drop-all-of ys zs
drop-both (x ∷ xs) ys zs = let e : suc (length xs) + length ys ≡ suc (length xs + length ys) = omega arith in ap (λ n. drop n (x ∷ (xs ++ (ys ++ zs)))) e ∙ drop-both xs ys zs

pub numbered-mid : (before own after : List Question) (from to number : ℕ) → from ≡ length before → to ≡ length before + length own → numbered from to number (before ++ (own ++ after)) ≡ before ++ (map (question_about number) own ++ after)
numbered-mid before own after from to number begins ends =
    let f = question_about number in
    let wide : to - from ≡ length own = omega (arith, begins, ends) in
    ap (λ n. take n (before ++ (own ++ after)) ++ (map f (take (to - from) (drop n (before ++ (own ++ after)))) ++ drop to (before ++ (own ++ after)))) begins
    ∙ ap (λ n. take (length before) (before ++ (own ++ after)) ++ (map f (take (to - from) (drop (length before) (before ++ (own ++ after)))) ++ drop n (before ++ (own ++ after)))) ends
    ∙ ap (λ z. z ++ (map f (take (to - from) (drop (length before) (before ++ (own ++ after)))) ++ drop (length before + length own) (before ++ (own ++ after)))) (take-all-of before (own ++ after))
    ∙ ap (λ z. before ++ (map f (take (to - from) z) ++ drop (length before + length own) (before ++ (own ++ after)))) (drop-all-of before (own ++ after))
    ∙ ap (λ n. before ++ (map f (take n (own ++ after)) ++ drop (length before + length own) (before ++ (own ++ after)))) wide
    ∙ ap (λ z. before ++ (map f z ++ drop (length before + length own) (before ++ (own ++ after)))) (take-all-of own after)
    ∙ ap (λ z. before ++ (map f own ++ z)) (drop-both before own after)

pub length-both : {A : Type 0} (xs ys : List A) → length (xs ++ ys) ≡ length xs + length ys
length-both [] ys = omega arith
length-both (x ∷ xs) ys = let e = length-both xs ys in omega (arith, e)

-- what is asked of a thing that gets its number behind what is asked of its parts
pub numbers-steps : (s t u v : Flattening) (frame from to number : ℕ) (asks known : List asking.Asked) (xs : List asking.Question)
    → Asks s t frame asks → Steps t u xs → Numbers u v from to number → from ≡ length s.asked.items → to ≡ length t.asked.items → frame < length s.frames.items
    → map (question_about number) (noted frame asks) ≡ noted frame known → Steps s v (over (frame_at s.frames.items frame) known ++ xs)
numbers-steps s t u v frame from to number asks known xs asked steps numbers begins ends there same =
    let before = s.asked.items in
    let own = noted frame asks in
    let fr = keeps-on s.frames.items t.frames.items v.frames.items (keeps-same s.frames.items t.frames.items asked.frames) (keeps-on t.frames.items u.frames.items v.frames.items steps.frames (keeps-same u.frames.items v.frames.items numbers.frames)) in
    let wide : to ≡ length before + length own = ends ∙ ap length asked.questions ∙ length-both before own in
    let now : u.asked.items ≡ before ++ (own ++ steps.more) = steps.questions ∙ ap (λ z. z ++ steps.more) asked.questions ∙ append_assoc before own steps.more in
    record {
      extends = extends-on s.flat t.flat v.flat (extends-same s.flat t.flat asked.flat) (extends-on t.flat u.flat v.flat steps.extends (extends-same u.flat v.flat numbers.flat));
      frames = fr;
      more = noted frame known ++ steps.more;
      questions =
          numbers.questions ∙ ap (numbered from to number) now ∙ numbered-mid before own steps.more from to number begins wide
          ∙ ap (λ z. before ++ (z ++ steps.more)) same;
      are =
          asked-both v.frames.items (noted frame known) steps.more (over (frame_at s.frames.items frame) known) xs
          (asked-on s.frames.items v.frames.items fr (noted frame known) (over (frame_at s.frames.items frame) known) (noted-asked s.frames.items frame there known))
          (asked-on u.frames.items v.frames.items (keeps-same u.frames.items v.frames.items numbers.frames) steps.more xs steps.are);
    }

-- ---- what stands round a tree

pub frame-kept : (frames more : List (List Meaning)) (frame : ℕ) → Keeps frames more → frame < length frames → frame_at more frame ≡ frame_at frames frame
frame-kept frames more frame keeps there = get_or_from_slice_get more frame (frame_at frames frame) [] (keeps frame (frame_at frames frame) (framed frames frame there))

pub same-setting : (w : World) (s t : Flattening) (frame : ℕ) (olds : List ℕ) → Keeps s.frames.items t.frames.items → t.locals.items ≡ s.locals.items → frame < length s.frames.items → setting_of w t frame olds ≡ setting_of w s frame olds
same-setting w s t frame olds keeps same there =
    λ i. record { leads = with_locals w w.leads (same i); frame = frame-kept s.frames.items t.frames.items frame keeps there i; olds = olds }

pub ready-on : (w : World) (s t : Flattening) (frame : ℕ) (olds : List ℕ) → Extends s.flat t.flat → Keeps s.frames.items t.frames.items → t.locals.items ≡ s.locals.items → IsReady w s frame olds → IsReady w t frame olds
ready-on w s t frame olds extends keeps same ready =
    record {
      known = known-on w s t extends same ready.known;
      framed = let l = longer s.frames.items t.frames.items keeps in let r = ready.framed in omega (arith, l, r);
      repeated = all-below-on s.flat t.flat extends olds ready.repeated;
    }

-- what is asked changes nothing of what stands round
pub asks-ready : (w : World) (s t : Flattening) (frame over_frame : ℕ) (olds : List ℕ) (asks : List asking.Asked) → Asks s t over_frame asks → IsReady w s frame olds → IsReady w t frame olds
asks-ready w s t frame over_frame olds asks asked ready = ready-on w s t frame olds (extends-same s.flat t.flat asked.flat) (keeps-same s.frames.items t.frames.items asked.frames) asked.locals ready
