-- Definitions whose names are taken out of scope, and claims.
use Rattle.std.proofs.Common.{◌≡◌, ℕ, List, [], ◌∷◌, ◌++◌, Some, None, refl, sym, ap, subst, ◌∙◌, ◌<◌, length, take}
use Rattle.std.specs.Prelude.{IfSome, Option, slice_get}
use Rattle.std.specs.Option.{option_map}
use Rattle.std.specs.List.{AllByRecursion}
use Rattle.std.proofs.lemmas.List.{append-nil}
use Rattle.list_laws.proofs.Lists.{all-right, at-end}
use Rattle.tla_symbols.specs.declared.lexeme.Lexeme.{Lexeme}
use Rattle.tla_tree.specs.Syntax.{Tree}
use Rattle.tla_model.specs.Tables.{Named}
use Rattle.kind_text.specs.FlatModule.{Extends, FlatModule}
use Rattle.flattened_trees.specs.Leads.{Lead}
use Rattle.flattened_trees.specs.Within.{IsLeadWithin}
use Rattle.flattened_trees.specs.Flattened.{IsFlattened}
use Rattle.flattened_trees.specs.Questions as asking
use Rattle.tree_flattener.specs.declared.locals.Entry.{Entry}
use Rattle.tree_flattener.specs.declared.locals.Local.{Local}
use Rattle.tree_flattener.specs.declared.state.Flattening.{Flattening}
use Rattle.tree_flattener.specs.Apart.{IsLeadOf, IsMadeApart, IsMadeClaim}
use Rattle.tree_flattener.specs.Flattens.{Flattens, IsMadeDefinition, LeadsTo}
use Rattle.tree_flattener.specs.Steps.{Asks, Cuts, Numbers, Steps}
use Rattle.tree_flattener.specs.Worlds.{DoLie, DoesLie, IsKnown, IsLocalWithin, IsReady, World, lead_by}
use Rattle.tree_flattener.proofs.Stepping.{keeps-same, numbers-steps, ready-on, same-setting, steps-on, take-all-of}
use Rattle.tree_flattener.proofs.Definitions.{cuts-steps}
use Rattle.tree_flattener.proofs.Within.{local-within}

past-end : {A : Type 0} (xs : List A) → slice_get xs (length xs) ≡ None
past-end [] = refl
past-end (x ∷ xs) = past-end xs

-- what is known of the name that was put
pub record IsPutApart (w : World) (t : Flattening) (x : Tree) (local : Option Local) (lead : List Named → Lead) : Type 0 where
  pub leads : IsLeadOf w x local lead
  pub within : IfSome local (λ l. (names : List Named) → IsLeadWithin t.flat (lead_by w l names))
  pub lies : IfSome local (DoesLie w.text.source)

module _ (w : World) (s t : Flattening) (x : Tree) (lead : List Named → Lead) (known : IsKnown w t) where
  put-apart : (put : List Entry) (local : Option Local) → t.locals.items ≡ s.locals.items ++ put → LeadsTo w x put lead → local ≡ option_map (λ (entry : Entry). entry.local) (slice_get t.locals.items (length s.locals.items)) → IsPutApart w t x local lead
  put-apart [] local same leads found =
      let is : local ≡ None = found ∙ ap (λ z. option_map (λ (entry : Entry). entry.local) (slice_get z (length s.locals.items))) (same ∙ append-nil s.locals.items) ∙ ap (option_map (λ (entry : Entry). entry.local)) (past-end s.locals.items) in
      subst (λ z. IsPutApart w t x z lead) (sym is) (record { leads = leads; within = tt; lies = tt })
  put-apart (entry ∷ []) local same leads found =
      let is : local ≡ Some entry.local = found ∙ ap (λ z. option_map (λ (entry : Entry). entry.local) (slice_get z (length s.locals.items))) same ∙ ap (option_map (λ (entry : Entry). entry.local)) (at-end s.locals.items entry) in
      let here = all-right (λ (entry : Entry). IsLocalWithin t.flat entry.local) s.locals.items (entry ∷ []) (subst (AllByRecursion (λ (entry : Entry). IsLocalWithin t.flat entry.local)) same known.locals) in
      let lies = all-right (λ (entry : Entry). DoesLie w.text.source entry.local) s.locals.items (entry ∷ []) (subst (DoLie w.text.source) same known.lie) in
      subst (λ z. IsPutApart w t x z lead) (sym is) (record { leads = leads; within = local-within w t.flat known.within entry.local here.0; lies = lies.0 })
  put-apart (entry ∷ (other ∷ put)) local same leads found = absurd leads

-- a definition is made, and its name is taken out of scope
pub apart-made : (w : World) (s t u : Flattening) (frame : ℕ) (olds : List ℕ) (x : Tree) (mark : ℕ) (local : Option Local) (before after : List ℕ)
    → IsReady w s frame olds → mark ≡ length s.locals.items → IsMadeDefinition w s t frame olds x before after
    → local ≡ option_map (λ (entry : Entry). entry.local) (slice_get t.locals.items mark) → Cuts t u mark → IsMadeApart w s u frame olds x local before after
apart-made w s t u frame olds x mark local before after ready marked made found cuts =
    let steps = subst (λ z. Steps s u z) (append-nil made.asked) (steps-on s t u made.asked [] made.steps (cuts-steps t u mark cuts)) in
    let locals : u.locals.items ≡ s.locals.items = cuts.locals ∙ ap (λ n. take n t.locals.items) marked ∙ ap (take (length s.locals.items)) made.locals ∙ take-all-of s.locals.items made.put in
    let put = put-apart w s t x made.lead made.ready.known made.put local made.locals made.leads (found ∙ ap (λ n. option_map (λ (entry : Entry). entry.local) (slice_get t.locals.items n)) marked) in
    record {
      asked = made.asked;
      steps = steps;
      locals = locals;
      ready = ready-on w s u frame olds steps.extends steps.frames locals ready;
      first = made.first;
      is = made.is;
      there = subst (λ (z : FlatModule). AllByRecursion (λ i. i < length z.nodes) made.first) (sym cuts.flat) made.there;
      lead = made.lead;
      leads = put.leads;
      within = subst (λ (z : FlatModule). IfSome local (λ l. (names : List Named) → IsLeadWithin z (lead_by w l names))) (sym cuts.flat) put.within;
      lies = put.lies;
      holds = λ more extends. made.holds more (subst (λ (z : FlatModule). Extends z more) cuts.flat extends);
    }

-- a claim is made
pub claim-made : (w : World) (s t u v : Flattening) (frame : ℕ) (olds : List ℕ) (word : Lexeme) (x : Tree) (i from to : ℕ)
    → IsReady w s frame olds → Asks s t frame (asking.IsShallowNode word 0 ∷ []) → Flattens w t u frame olds x i → Numbers u v from to i
    → from ≡ length s.asked.items → to ≡ length t.asked.items → IsMadeClaim w s v frame olds word x i
claim-made w s t u v frame olds word x i from to ready asked made numbers begins ends =
    record {
      asked = made.asked;
      steps = numbers-steps s t u v frame from to i (asking.IsShallowNode word 0 ∷ []) (asking.IsShallowNode word i ∷ []) made.asked asked made.steps numbers begins ends ready.framed refl;
      locals = numbers.locals ∙ made.locals ∙ asked.locals;
      there = subst (λ (z : FlatModule). i < length z.nodes) (sym numbers.flat) made.there;
      holds = λ more extends.
          subst (λ z. IsFlattened w.text w.means w.implied w.faces more z x i made.asked) (same-setting w s t frame olds (keeps-same s.frames.items t.frames.items asked.frames) asked.locals ready.framed)
          (made.holds more (subst (λ (z : FlatModule). Extends z more) numbers.flat extends));
    }
