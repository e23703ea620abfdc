-- What stands at a place of a frame, and what a definition is as an operator.
use Rattle.std.proofs.Common.{Vec, Global, ◌≡◌, ℕ, ◌+◌, ◌<◌, ◌≤◌, List, ◌++◌, Some, None, refl, sym, ap, ◌∙◌, subst, take, length, get_or, arith}
use Rattle.std.specs.Prelude.{slice_get}
use Rattle.std.proofs.lemmas.Option.{slice_get_within}
use Rattle.tla_symbols.specs.declared.level.Kind.TheVariants.{Const}
use Rattle.kind_text.proofs.Zips.{zip-append, zip-take}
use Rattle.kind_text.specs.ExpandedKind.{Given, kind}
use Rattle.kind_text.specs.Substitution.{Alike, Same, expression, expressions, operator}
use Rattle.kind_text.specs.FlatModule.{Definition, FlatModule}
use Rattle.kind_text.specs.Expansion.{body, text, text_of}
use Rattle.kind_table.specs.declared.argument.Arg.{Arg}
use Rattle.kind_table.specs.declared.argument.Arg.TheVariants.{Value, Operator}
use Rattle.kind_table.specs.Table.{AllWithin, Grows, IsStored, IsTable, meaning, meanings}
use Rattle.kind_table.specs.Weights.{body_cost, load, weight}
use Rattle.kind_table.proofs.Unfolding.{alike-expressions, alike-meanings, meaning-step, same-body, same-operator, weight-step}
use Rattle.kind_table.proofs.Growth.{grows_not}
use Rattle.kind_table.proofs.Weighing.{at-map, at-past, load-at, load-take, lower-at, map-take}
use Rattle.level_facts.specs.Facts.{HasNoBody}
use Rattle.level_facts.specs.Judged.{IsClosure, IsOperand}

module _ (flat : FlatModule) where
  -- the number that stands there
  pub operand_there : {table : List Arg} (frame : List ℕ) (place n : ℕ) → IsTable table → AllWithin table frame → place < length frame → n ≡ get_or frame place n → IsOperand flat table table frame place n
  operand_there {table} frame place n t w l e =
      record {
        grows = grows_not table t;
        within = subst (λ x. x < length table) (sym e) (lower-at (length table) frame place n w l);
        is = ap (meaning flat table) e ∙ sym (at-map (meaning flat table) frame place n l);
        light = subst (λ x. weight flat table x ≤ load flat table frame) (sym e) (load-at (weight flat table) frame place n l);
      }

  -- past the end a constant
  pub operand_past : {old new : List Arg} (frame : List ℕ) (place n : ℕ) → length frame ≤ place → Grows old new → slice_get new n ≡ Some (Value (Some Const)) → IsOperand flat old new frame place n
  operand_past {old} {new} frame place n l g at_n =
      let v : weight flat new n ≡ 0 = weight-step flat new n (Value (Some Const)) g.table at_n in
      record {
        grows = g;
        within = slice_get_within new n _ at_n;
        is = meaning-step flat new n (Value (Some Const)) g.table at_n ∙ sym (at-past (meaning flat new) frame place l);
        light = omega (arith, v);
      }

  -- a definition as an operator
  pub closure_there : {old new : List Arg} (d : ℕ) (x : Definition) (frame : List ℕ) (ns : Vec ℕ Global) (n : ℕ) → slice_get flat.definitions d ≡ Some x → ns.items ≡ take x.outer frame → Grows old new → IsStored new n (Operator d ns) → IsClosure flat old new d frame n
  closure_there {old} {new} d x frame ns n at_d is g e =
      let items_are : e.0.items ≡ take x.outer frame = e.2 ∙ is in
      let m : meaning flat new n ≡ operator (λ ts. text_of flat d (meanings flat new e.0.items ++ expressions ts)) = meaning-step flat new n (Operator d e.0) g.table e.1 in
      let v : weight flat new n ≡ load flat new e.0.items + body_cost flat (slice_get flat.definitions d) = weight-step flat new n (Operator d e.0) g.table e.1 in
      let l = ap (load flat new) items_are in let t = load-take (weight flat new) x.outer frame in
      let frames : Alike (meanings flat new e.0.items) (take x.outer (meanings flat new frame)) =
      subst (λ y. Alike y (take x.outer (meanings flat new frame))) (sym (ap (meanings flat new) items_are ∙ map-take (meaning flat new) x.outer frame)) (zip-take Same x.outer _ _ (alike-meanings flat new frame)) in
      record {
        grows = g;
        within = slice_get_within new n _ e.1;
        same = subst (λ y. Same y (operator (λ ts. body (text flat) (slice_get flat.definitions d) (λ outer. take outer (meanings flat new frame) ++ expressions ts)))) (sym m)
            (same-operator _ _ (λ ts us q.
            ap (λ o. kind (body (text flat) o (λ outer. meanings flat new e.0.items ++ expressions ts))) at_d
            ∙ same-body flat (Some x) (λ outer. meanings flat new e.0.items ++ expressions ts) (λ outer. take x.outer (meanings flat new frame) ++ expressions us) (λ outer. zip-append Same _ _ _ _ frames (alike-expressions ts us q))
            ∙ sym (ap (λ o. kind (body (text flat) o (λ outer. take outer (meanings flat new frame) ++ expressions us))) at_d)));
        light = omega (arith, v, l, t);
      }

  -- where no definition is, no operator has a kind
  pub closure_missing : {old new : List Arg} (d : ℕ) (frame : List ℕ) (n : ℕ) → HasNoBody flat d → Grows old new → slice_get new n ≡ Some (Value None) → IsClosure flat old new d frame n
  closure_missing {old} {new} d frame n none g at_n =
      let m : meaning flat new n ≡ expression (Given None) = meaning-step flat new n (Value None) g.table at_n in
      let v : weight flat new n ≡ 0 = weight-step flat new n (Value None) g.table at_n in
      record {
        grows = g;
        within = slice_get_within new n _ at_n;
        same = subst (λ y. Same y (operator (λ ts. body (text flat) (slice_get flat.definitions d) (λ outer. take outer (meanings flat new frame) ++ expressions ts)))) (sym m) (record {
          text = refl;
          call = λ ts us q. sym (ap kind (none (λ outer. take outer (meanings flat new frame) ++ expressions us)));
        });
        light = omega (arith, v);
      }
