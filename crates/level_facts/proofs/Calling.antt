-- Kinds of bodies and of operators, from what was found.
use Rattle.std.proofs.Common.{Vec, Global, ◌≡◌, ℕ, ◌<◌, List, [], ◌∷◌, ◌++◌, Option, Some, None, sym, ap, ◌∙◌, subst, length, arith}
use Rattle.std.specs.Prelude.{slice_get}
use Rattle.std.proofs.lemmas.List.Elements.{AllZip-push}
use Rattle.tla_symbols.specs.declared.level.Kind.{Kind}
use Rattle.tla_symbols.specs.declared.level.Rule.{Rule}
use Rattle.kind_text.specs.ExpandedKind.{kind, ruled}
use Rattle.kind_text.specs.Substitution.{Alike, Item, Same, expressions, leaves, operator}
use Rattle.kind_text.specs.FlatModule.{Definition, FlatModule}
use Rattle.kind_text.specs.Expansion.{body, items, text, text_of}
use Rattle.kind_table.specs.declared.argument.Arg.{Arg}
use Rattle.kind_table.specs.declared.argument.Arg.TheVariants.{Value, Stays, BuiltIn, Operator}
use Rattle.kind_table.specs.Table.{AddsValues, AllWithin, Grows, IsTable, meaning, meanings, value_at}
use Rattle.kind_table.specs.Weights.{node_cost, weight}
use Rattle.kind_table.proofs.Unfolding.{kind-meaning, meaning-step}
use Rattle.kind_table.proofs.Growth.{grows_on, heaviest-push, kinds-leaves, load_on, meaning_on, meanings-push, meanings_on, within-push, within_on}
use Rattle.level_facts.specs.Facts.{HasNoBody}
use Rattle.level_facts.specs.Judged.{Evaluates, EvaluatesAll, IsFound}
use Rattle.level_facts.proofs.Likes.{items-push}

module _ (flat : FlatModule) where
  -- a definition's kind is that of its body
  pub body_kind : {new : List Arg} (d n : ℕ) (frame : List ℕ) (x : Definition) → slice_get flat.definitions d ≡ Some x → IsFound flat new x.root frame n → value_at new n ≡ kind (text_of flat d (meanings flat new frame))
  body_kind {new} d n frame x at_d h =
      sym (kind-meaning flat new n) ∙ h.same.text ∙ sym (ap (λ o. kind (body (text flat) o (λ outer. meanings flat new frame))) at_d)

  pub no_body_kind : (new : List Arg) (d : ℕ) (frame : List ℕ) → HasNoBody flat d → None ≡ kind (text_of flat d (meanings flat new frame))
  no_body_kind new d frame none = sym (ap kind (none (λ outer. meanings flat new frame)))

  -- what operators give on operands
  pub operator_kind : {old mid new : List Arg} (n d : ℕ) (ns : Vec ℕ Global) (frame : List ℕ) (ks : List (Option Kind)) (k : Option Kind) → IsTable old → n < length old → slice_get old n ≡ Some (Operator d ns) → AddsValues old mid ns.items frame ks → Grows mid new → k ≡ kind (text_of flat d (meanings flat new frame)) → k ≡ kind ((meaning flat new n).call (leaves ks))
  operator_kind {old} {mid} {new} n d ns frame ks k t l at_n a g is =
      let m : meaning flat new n ≡ operator (λ ts. text_of flat d (meanings flat old ns.items ++ expressions ts)) = meaning_on flat (grows_on a.grows g) n l ∙ meaning-step flat old n (Operator d ns) t at_n in
      is ∙ ap (λ s. kind (text_of flat d s)) (meanings_on flat g frame a.within ∙ a.meant flat) ∙ sym (ap (λ (x : Item). kind (x.call (leaves ks))) m)

  pub built_in_kind : {table : List Arg} (n : ℕ) (rule : Rule) (ks : List (Option Kind)) → IsTable table → slice_get table n ≡ Some (BuiltIn rule) → ruled rule ks ≡ kind ((meaning flat table n).call (leaves ks))
  built_in_kind {table} n rule ks t at_n = ap (ruled rule) (sym (kinds-leaves ks)) ∙ sym (ap (λ (x : Item). kind (x.call (leaves ks))) (meaning-step flat table n (BuiltIn rule) t at_n))

  pub staying_kind : {table : List Arg} (n : ℕ) (rule : Rule) (ks : List (Option Kind)) → IsTable table → slice_get table n ≡ Some (Stays rule) → ruled rule ks ≡ kind ((meaning flat table n).call (leaves ks))
  staying_kind {table} n rule ks t at_n = ap (ruled rule) (sym (kinds-leaves ks)) ∙ sym (ap (λ (x : Item). kind (x.call (leaves ks))) (meaning-step flat table n (Stays rule) t at_n))

  pub no_operator_kind : {table : List Arg} (n : ℕ) (o : Option Kind) (ks : List (Option Kind)) → IsTable table → slice_get table n ≡ Some (Value o) → None ≡ kind ((meaning flat table n).call (leaves ks))
  no_operator_kind {table} n o ks t at_n = sym (ap (λ (x : Item). kind (x.call (leaves ks))) (meaning-step flat table n (Value o) t at_n))

  -- ---- nodes in order

  pub evaluates_all_on : {a b c : List Arg} {is frame ns : List ℕ} → AllWithin b frame → EvaluatesAll flat a b is frame ns → Grows b c → EvaluatesAll flat a c is frame ns
  evaluates_all_on {a} {b} {c} {is} {frame} {ns} h e g =
      let m = meanings_on flat g ns e.within in let ms = meanings_on flat g frame h in
      let s : Alike (meanings flat c ns) (items (text flat) is (meanings flat b frame)) = subst (λ x. Alike x (items (text flat) is (meanings flat b frame))) (sym m) e.same in
      let w = load_on flat g ns e.within in let ws = load_on flat g frame h in
      record { grows = grows_on e.grows g; within = within_on g ns e.within; same = subst (λ x. Alike (meanings flat c ns) (items (text flat) is x)) (sym ms) s; light = omega (arith, e.light, w, ws) }

  pub evaluates_more : {a b c : List Arg} {is frame ns : List ℕ} (i n : ℕ) → AllWithin a frame → EvaluatesAll flat a b is frame ns → Evaluates flat b c i frame n → EvaluatesAll flat a c (is ++ i ∷ []) frame (ns ++ n ∷ [])
  evaluates_more {a} {b} {c} {is} {frame} {ns} i n h e one =
      let k = evaluates_all_on (within_on e.grows frame h) e one.grows in
      let s = AllZip-push Same _ _ _ _ k.same one.found.same in
      let p = subst (λ x. Alike x (items (text flat) is (meanings flat c frame) ++ text flat i (meanings flat c frame) ∷ [])) (sym (meanings-push flat c ns n)) s in
      let w = heaviest-push (weight flat c) ns n in let ws = heaviest-push (node_cost flat) is i in
      record {
        grows = k.grows;
        within = within-push c ns n k.within one.found.within;
        same = subst (λ x. Alike (meanings flat c (ns ++ n ∷ [])) x) (sym (items-push (text flat) is i (meanings flat c frame))) p;
        light = omega (arith, k.light, one.found.light, w, ws);
      }
