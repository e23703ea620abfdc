-- What is kept of kinds, and what callers put in.
use Rattle.std.proofs.Common.{arith, Vec, Global, ◌≡◌, ℕ, ◌<◌, ◌≤◌, Bool, true, false, cond, List, [], ◌∷◌, ◌++◌, Option, Some, None, inl, inr, length, length-append, append-nil, get_or, refl, sym, ap, ◌∙◌, subst, map}
use Rattle.std.specs.Prelude.{◌⊎◌, nat_eq, slice_get}
use mathlib.Core.Path.{fun_ext}
use Rattle.std.specs.Map.{lookup}
use Rattle.std.specs.List.{list_any, position}
use Rattle.std.specs.Cmp.Lexicographic.{pointwise}
use Rattle.std.proofs.lemmas.Option.{slice_get_cases, slice_get_within, slice_get-get_or}
use Rattle.std.proofs.lemmas.List.Quantifiers.{position-Some}
use Rattle.std.proofs.lemmas.Bool.{cases_lt, eqb-true, and_parts}
use Rattle.indexmap.specs.IndexMap.{insert_entry}
use Rattle.indexmap.specs.IndexSet.{insert_key}
use Rattle.tla_symbols.specs.declared.level.Kind as level
use Rattle.tla_symbols.specs.declared.level.Rule.{Rule}
use Rattle.kind_text.specs.ExpandedKind.{kind}
use Rattle.kind_text.specs.Substitution.{expressions, operator}
use Rattle.kind_text.specs.FlatModule.{FlatModule}
use Rattle.kind_text.specs.Expansion.{text_of}
use Rattle.kind_table.specs.declared.argument.Arg.{Arg}
use Rattle.kind_table.specs.declared.argument.Arg.TheVariants as arg
use Rattle.kind_table.specs.Table.{AddsOnly, AllWithin, Grows, IsStored, IsTable, IsValue, meaning, meanings}
use Rattle.kind_table.proofs.Unfolding.{meaning-step, slice_get-more}
use Rattle.kind_table.proofs.Growth.{grows_not, grows_on, meanings-push, meanings_on, within-push, within_on}
use Rattle.list_laws.proofs.Texts.{numbers-equal}
use Rattle.level_facts.specs.contracts.facts.KeyPartialEq as key
use Rattle.level_facts.specs.declared.facts.Key.{Key}
use Rattle.level_facts.specs.declared.facts.Argument.{Argument}
use Rattle.level_facts.specs.declared.facts.Argument.TheVariants.{Value, Stays, BuiltIn, Operator}
use Rattle.level_facts.specs.Facts.{AddsArguments, AddsFrames, HasBody, HasNoBody, HasNumber, IsKept, NameBodies, NamesBody, Remembers, argument_item, frame_items, frame_of}

key-exact : (a b : Key) → (key.TheImpl.eq-value).it a b ≡ true → (a.definition ≡ b.definition) × (a.frame ≡ b.frame)
key-exact a b h =
    let p = and_parts (nat_eq a.definition b.definition) (nat_eq a.frame b.frame) h in
    (eqb-true _ _ p.0, eqb-true _ _ p.1)

abbrev key_eq : Key → Key → Bool
key_eq = (key.TheImpl.eq-value).it

module _ (flat : FlatModule) (table : List Arg) (frames : List (Vec ℕ Global)) where
  -- an equal key has the same kind
  kept-same : (a b : Key) (k : Option level.Kind) → (a.definition ≡ b.definition) × (a.frame ≡ b.frame) → IsKept flat table frames a k → IsKept flat table frames b k
  kept-same a b k e h = record {
    there = subst (HasBody flat) e.0 h.there;
    stored = subst (λ n. n < length frames) e.1 h.stored;
    within = subst (λ n. AllWithin table (frame_of frames n)) e.1 h.within;
    value = h.value ∙ ap (λ d. kind (text_of flat d (meanings flat table (frame_of frames a.frame)))) e.0 ∙ ap (λ n. kind (text_of flat b.definition (meanings flat table (frame_of frames n)))) e.1;
  }

  pub kept-insert : (es : List (Key × Option level.Kind)) (a : Key) (k : Option level.Kind) → Remembers flat table frames es → IsKept flat table frames a k → Remembers flat table frames (insert_entry key_eq es a k)
  kept-insert [] a k h n = (n, tt)
  kept-insert (e ∷ es) a k h n = choice (kept-insert es a k h.1 n) (key_eq a e.0) refl
    where
      choice : Remembers flat table frames (insert_entry key_eq es a k) → (b : Bool) → key_eq a e.0 ≡ b → Remembers flat table frames (cond b ((e.0, k) ∷ es) (e ∷ insert_entry key_eq es a k))
      choice rest true q = (kept-same a e.0 k (key-exact a e.0 q) n, h.1)
      choice rest false q = (h.0, rest)

  pub kept-lookup : (es : List (Key × Option level.Kind)) (a : Key) (k : Option level.Kind) → Remembers flat table frames es → lookup (key_eq a) es ≡ Some k → IsKept flat table frames a k
  kept-lookup [] a k h q = cc
  kept-lookup (e ∷ es) a k h q = choice (kept-lookup es a k h.1) (key_eq a e.0) refl q
    where
      choice : (lookup (key_eq a) es ≡ Some k → IsKept flat table frames a k) → (b : Bool) → key_eq a e.0 ≡ b → cond b (Some e.1) (lookup (key_eq a) es) ≡ Some k → IsKept flat table frames a k
      choice rest true p r =
          let x : e.1 ≡ k = cc in let s = key-exact a e.0 p in
          subst (λ y. IsKept flat table frames a y) x (kept-same e.0 a e.1 (sym s.0, sym s.1) h.0)
      choice rest false p r = rest r

-- a longer table keeps what is kept
pub kept_on : (flat : FlatModule) {a b : List Arg} → Grows a b → (frames : List (Vec ℕ Global)) (es : List (Key × Option level.Kind)) → Remembers flat a frames es → Remembers flat b frames es
kept_on flat g frames [] h = tt
kept_on flat {a} {b} g frames (e ∷ es) h =
    let frame = frame_of frames e.0.frame in
    (record { there = h.0.there; stored = h.0.stored; within = within_on g frame h.0.within; value = h.0.value ∙ ap (λ x. kind (text_of flat e.0.definition x)) (sym (meanings_on flat g frame h.0.within)) }, kept_on flat g frames es h.1)

-- ---- frames

-- a frame that is there has the number that it had
frame-more : (frames more : List (Vec ℕ Global)) (n : ℕ) → n < length frames → frame_of (frames ++ more) n ≡ frame_of frames n
frame-more frames more n l = ap frame_items (slice_get-more frames more n l)

kept-more : (flat : FlatModule) (table : List Arg) (frames more : List (Vec ℕ Global)) (es : List (Key × Option level.Kind)) → Remembers flat table frames es → Remembers flat table (frames ++ more) es
kept-more flat table frames more [] h = tt
kept-more flat table frames more (e ∷ es) h =
    let same = sym (frame-more frames more e.0.frame h.0.stored) in let l = h.0.stored in (
      record {
        there = h.0.there;
        stored = omega (arith, l, length-append frames more);
        within = subst (AllWithin table) same h.0.within;
        value = h.0.value ∙ ap (λ x. kind (text_of flat e.0.definition (meanings flat table x))) same;
      },
      kept-more flat table frames more es h.1,
    )

-- further frames keep what is kept
pub frames_on : (flat : FlatModule) (table : List Arg) (a b : List (Vec ℕ Global)) → AddsFrames a b → (es : List (Key × Option level.Kind)) → Remembers flat table a es → Remembers flat table b es
frames_on flat table a b g es h = subst (λ x. Remembers flat table x es) (sym g.1) (kept-more flat table a g.0 es h)

pub no_frames : (frames : List (Vec ℕ Global)) → AddsFrames frames frames
no_frames frames = ([], sym (append-nil frames))

module _ (eq : Vec ℕ Global → Vec ℕ Global → Bool) where
  -- a frame is put behind the others, unless it is there
  pub adds_frame : (old new : List (Vec ℕ Global)) (frame : Vec ℕ Global) → new ≡ insert_key eq old frame → AddsFrames old new
  adds_frame old new frame e = subst (AddsFrames old) (sym e) (choice (list_any (eq frame) old))
    where
      choice : (b : Bool) → AddsFrames old (cond b old (old ++ frame ∷ []))
      choice true = no_frames old
      choice false = (frame ∷ [], refl)

-- a frame with the same numbers stands there
pub has_number : (frames : List (Vec ℕ Global)) (n : ℕ) (frame : List ℕ) (k : Vec ℕ Global) → slice_get frames n ≡ Some k → pointwise nat_eq frame k.items ≡ true → HasNumber frames n frame
has_number frames n frame k e h = record { within = slice_get_within frames n k e; is = ap frame_items e ∙ sym (numbers-equal frame k.items h) }

-- so it does where it was found
pub number_found : (frames : List (Vec ℕ Global)) (n : ℕ) (frame : List ℕ) → n < length frames → position (λ k. pointwise nat_eq frame k.items) frames ≡ Some n → HasNumber frames n frame
number_found frames n frame within e = elim (slice_get_cases frames n).1 [
  | inl found ↦
      let p = position-Some (λ (k : Vec ℕ Global). pointwise nat_eq frame k.items) frames n found.0 e in
      has_number frames n frame (get_or frames n found.0) (slice_get-get_or frames n found.0 p.0) p.1
  | inr past ↦ let l = past.0 in absurd (omega (arith, within, l))
]

-- what is added names bodies
bodies-more : (flat : FlatModule) (P : Arg → Type 0) {a b : List Arg} → Grows a b → NameBodies flat a → AddsOnly P a b → ((x : Arg) → P x → NamesBody flat x) → NameBodies flat b
bodies-more flat P {a} {b} g h only each i x e = by_place (cases_lt i (length a))
  where
    by_place : (i < length a) ⊎ (length a ≤ i) → NamesBody flat x
    by_place (inl l) = h i x (sym (slice_get-more a g.more i l) ∙ ap (λ xs. slice_get xs i) (sym g.extends) ∙ e)
    by_place (inr l) = each x (only i x l e)

pub bodies_on : (flat : FlatModule) (y : Arg) {a b : List Arg} → Grows a b → NameBodies flat a → AddsOnly (λ x. x ≡ y) a b → NamesBody flat y → NameBodies flat b
bodies_on flat y g h only here = bodies-more flat (λ x. x ≡ y) g h only (λ x e. subst (NamesBody flat) (sym e) here)

value-names : (flat : FlatModule) (x : Arg) → IsValue x → NamesBody flat x
value-names flat (arg.Value k) h = tt
value-names flat (arg.Stays r) h = absurd h
value-names flat (arg.BuiltIn r) h = absurd h
value-names flat (arg.Operator d ns) h = absurd h

pub values_name : (flat : FlatModule) {a b : List Arg} → Grows a b → NameBodies flat a → AddsOnly IsValue a b → NameBodies flat b
values_name flat g h only = bodies-more flat IsValue g h only (value-names flat)

-- ---- what callers put in

module _ (flat : FlatModule) where
  pub adds_value : {old new : List Arg} (n : ℕ) (o : Option level.Kind) → Grows old new → slice_get new n ≡ Some (arg.Value o) → AddsArguments flat old new (n ∷ []) (Value o ∷ [])
  adds_value {old} {new} n o g e = record { grows = g; within = (slice_get_within new n _ e, tt); meant = ap (λ x. x ∷ []) (meaning-step flat new n (arg.Value o) g.table e) }

  pub adds_staying : {old new : List Arg} (n : ℕ) (r : Rule) → Grows old new → slice_get new n ≡ Some (arg.Stays r) → AddsArguments flat old new (n ∷ []) (Stays r ∷ [])
  adds_staying {old} {new} n r g e = record { grows = g; within = (slice_get_within new n _ e, tt); meant = ap (λ x. x ∷ []) (meaning-step flat new n (arg.Stays r) g.table e) }

  pub adds_built_in : {old new : List Arg} (n : ℕ) (r : Rule) → Grows old new → slice_get new n ≡ Some (arg.BuiltIn r) → AddsArguments flat old new (n ∷ []) (BuiltIn r ∷ [])
  adds_built_in {old} {new} n r g e = record { grows = g; within = (slice_get_within new n _ e, tt); meant = ap (λ x. x ∷ []) (meaning-step flat new n (arg.BuiltIn r) g.table e) }

  pub adds_operator : {old new : List Arg} (n d : ℕ) (ns : Vec ℕ Global) → ns.items ≡ [] → Grows old new → IsStored new n (arg.Operator d ns) → AddsArguments flat old new (n ∷ []) (Operator d ∷ [])
  adds_operator {old} {new} n d ns none g e = record {
    grows = g;
    within = (slice_get_within new n _ e.1, tt);
    meant = ap (λ x. x ∷ []) (meaning-step flat new n (arg.Operator d e.0) g.table e.1 ∙ ap (λ x. operator (λ ts. text_of flat d (meanings flat new x ++ expressions ts))) (e.2 ∙ none));
  }

  -- a definition without a body is an expression without a kind
  pub adds_missing : {old new : List Arg} (n d : ℕ) → HasNoBody flat d → Grows old new → slice_get new n ≡ Some (arg.Value None) → AddsArguments flat old new (n ∷ []) (Operator d ∷ [])
  adds_missing {old} {new} n d none g e = record {
    grows = g;
    within = (slice_get_within new n _ e, tt);
    meant = ap (λ x. x ∷ []) (meaning-step flat new n (arg.Value None) g.table e ∙ ap operator (fun_ext (λ ts. sym (none (λ outer. expressions ts)))));
  }

  pub adds_none : (table : List Arg) → IsTable table → AddsArguments flat table table [] []
  adds_none table h = record { grows = grows_not table h; within = tt; meant = refl }

  map-push : {A B : Type 0} (f : A → B) (xs : List A) (x : A) → map f (xs ++ x ∷ []) ≡ map f xs ++ f x ∷ []
  map-push f [] x = refl
  map-push f (y ∷ xs) x = ap (λ zs. f y ∷ zs) (map-push f xs x)

  pub adds_more : {a b c : List Arg} {ns : List ℕ} {xs : List Argument} (n : ℕ) (x : Argument) → AddsArguments flat a b ns xs → AddsArguments flat b c (n ∷ []) (x ∷ []) → AddsArguments flat a c (ns ++ n ∷ []) (xs ++ x ∷ [])
  adds_more {a} {b} {c} {ns} {xs} n x h k = record {
    grows = grows_on h.grows k.grows;
    within = within-push c ns n (within_on k.grows ns h.within) k.within.0;
    meant = meanings-push flat c ns n ∙ ap (λ y. y ++ meaning flat c n ∷ []) (meanings_on flat k.grows ns h.within ∙ h.meant) ∙ ap (λ y. map (argument_item flat) xs ++ y) k.meant ∙ sym (map-push (argument_item flat) xs x);
  }
