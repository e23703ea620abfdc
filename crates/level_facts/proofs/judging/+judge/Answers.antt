use Rattle.std.proofs.Common.{◌≡◌, ◌<◌, ◌≤◌, ◌++◌, [], ◌∷◌, Some, None, arith, refl, sym, ap, ◌∙◌, subst, take, drop, map, length, get_or}
use Rattle.std.specs.Prelude.{◌&&◌, ◌==◌, slice_get}
use Rattle.std.proofs.lemmas.Bool.{not-false, not-true}
use Rattle.std.proofs.lemmas.List.{map_more, take_all, take_more}
use Rattle.kind_text.specs.ExpandedKind.{Given, is_at_most, kind, ruled}
use Rattle.kind_text.specs.FlatModule.{places_of}
use Rattle.kind_text.specs.Substitution.{judged, leaves}
use Rattle.kind_text.specs.Expansion.{text_of}
use Rattle.tla_symbols.specs.declared.level.Rule.TheVariants.{Boolean}
use Rattle.kind_table.specs.declared.argument.Arg.TheVariants.{Operator}
use Rattle.kind_table.specs.declared.flat.Form.TheVariants as variant
use Rattle.kind_table.specs.declared.flat.Replacement.{Replacement}
use Rattle.kind_table.specs.Flattened.{definition_of, flat_of, path_at}
use Rattle.kind_table.specs.Table.{AddsValues, AllWithin, bounded_kind, meaning, meanings, picked, value_at}
use Rattle.kind_table.specs.Weights.{body_cost, heaviest, load, longest, node_cost, weight}
use Rattle.kind_table.proofs.Unfolding.{kind-meaning, weight-step}
use Rattle.kind_table.proofs.Growth.{grows_not, grows_on, load_on, within_on}
use Rattle.kind_table.proofs.Weighing.{all-lower, cost-split, load-at, lower-at}
use Rattle.level_facts.specs.Judged.{EvaluatesAll, Found, IsClosure, LeadsThrough, MeetsGuards, ReachesPath, is_within, use_kind_of}
use Rattle.kind_table.proofs.Lookups.{definition_got, node_gone}
use Rattle.level_facts.proofs.Extending.{frames_added}
use Rattle.level_facts.proofs.Keeping.{frames_on, kept-lookup}
use Rattle.level_facts.proofs.Calling.{body_kind, built_in_kind, evaluates_more, no_body_kind, no_operator_kind, operator_kind, staying_kind}
use Rattle.level_facts.proofs.Finding.{call_kind, lambda_found, missing_found, name_met, name_not_met, parameter_found, part_kinds, parts_bounded, reads-below, symbol_found, use_found}
use Rattle.level_facts.proofs.Picking.{begins_at, found_more, left_out, let_body, let_missing}
use Rattle.level_facts.proofs.Stepping.{step_at, step_here, step_parts, step_reads, uses_light, value_steps}
use Rattle.level_facts.proofs.Guards.{decide_more, decide_none, judges_at, meets_all, meets_free, meets_not}
use Rattle.level_facts.proofs.Paths.{around_light, around_within, definition_within, direct_light, direct_met, direct_within, frame_long, free_light, free_met, guards_light, instance_within, leads_through, path_begins, path_light, path_more, reads_instance, root_light, roots_light, round_alone, used_light, used_met, used_not_met, used_within, uses_at}
use Rattle.level_facts.proofs.judging.+judge.Goals.{lead_through-then-reached, lead_through-else-reached}
use Rattle.level_facts.proofs.judging.+judge.Goals as goal

-- kind_on

pub kind_on-returns-in_err-known-clause-facts : goal.kind_on-returns-in_err-known-clause-facts
kind_on-returns-in_err-known-clause-facts t c = frames_added (flat_of c.args.flat.now) c.args.facts.now _ c.requires.facts refl refl refl c.frame_number.ensures.adds

pub kind_on-returns-in-Some-clause-facts : goal.kind_on-returns-in-Some-clause-facts
kind_on-returns-in-Some-clause-facts t c = frames_added (flat_of c.args.flat.now) c.args.facts.now _ c.requires.facts refl refl refl c.frame_number.ensures.adds

pub kind_on-returns-in-None-clause-facts : goal.kind_on-returns-in-None-clause-facts
kind_on-returns-in-None-clause-facts t c = frames_added (flat_of c.args.flat.now) c.args.facts.now _ c.requires.facts refl refl refl c.frame_number.ensures.adds

pub kind_on-returns-in_err-number-in-Some-body_of-clause-facts : goal.kind_on-returns-in_err-number-in-Some-body_of-clause-facts
kind_on-returns-in_err-number-in-Some-body_of-clause-facts t c = frames_added (flat_of c.args.flat.now) c.judge.new.facts _ c.judge.ensures.facts refl refl refl c.frame_number-in-Some-body_of.ensures.adds

pub kind_on-keep-requires-clause-facts : goal.kind_on-keep-requires-clause-facts
kind_on-keep-requires-clause-facts t c = frames_added (flat_of c.args.flat.now) c.judge.new.facts _ c.judge.ensures.facts refl refl refl c.frame_number-in-Some-body_of.ensures.adds

pub kind_on-returns-in-Some-clause-kind : goal.kind_on-returns-in-Some-clause-kind
kind_on-returns-in-Some-clause-kind t c =
    let m = flat_of c.args.flat.now in let table = c.args.facts.now.arguments.keys in
    let frames = c.frame_number.new.frames.keys in let number = c.in_ok-known.ensures.number in
    let kept = frames_on m table c.args.facts.now.frames.keys frames c.frame_number.ensures.adds c.args.facts.now.kept.entries c.requires.facts.kept in
    let h = kept-lookup m table frames c.args.facts.now.kept.entries (record { definition = c.args.definition; frame = c.in_ok-known.known }) c.in-Some.kind.now kept (sym c.in-Some.ensures.value) in
    h.value ∙ ap (λ x. kind (text_of m c.args.definition (meanings m table x))) number.is

pub kind_on-returns-in-None-clause-kind : goal.kind_on-returns-in-None-clause-kind
kind_on-returns-in-None-clause-kind t c =
    no_body_kind (flat_of c.args.flat.now) c.args.facts.now.arguments.keys c.args.definition c.args.frame.now
    c.in-None.ensures

pub kind_on-judge-requires : goal.kind_on-judge-requires
kind_on-judge-requires t c =
    let at_d = c.in-Some-body_of.ensures.here in
    let b = ap (body_cost (flat_of c.args.flat.now)) at_d in
    let facts = frames_added (flat_of c.args.flat.now) c.args.facts.now _ c.requires.facts refl refl refl c.frame_number.ensures.adds in
    (omega (arith, b), (c.requires.ordered, (facts, c.requires.frame)))

pub kind_on-keep-requires-clause-kept : goal.kind_on-keep-requires-clause-kept
kind_on-keep-requires-clause-kept t c =
    let m = flat_of c.args.flat.now in
    let at_d = c.in-Some-body_of.ensures.here in
    let g = c.in_ok-n-in-Some-body_of.ensures.found.grows in let k = c.value-kind.ensures ∙ body_kind m c.args.definition c.in_ok-n-in-Some-body_of.n c.args.frame.now (definition_of c.in-Some-body_of.body) at_d c.in_ok-n-in-Some-body_of.ensures.found.found in
    let number = c.in_ok-number-in-Some-body_of.ensures.number in
    record {
      there = (definition_of c.in-Some-body_of.body, at_d, c.in-Some-body_of.ensures.root);
      stored = number.within;
      within = subst (AllWithin c.judge.new.facts.arguments.keys) (sym number.is) (within_on g c.args.frame.now c.requires.frame);
      value = k ∙ ap (λ x. kind (text_of m c.args.definition (meanings m c.judge.new.facts.arguments.keys x))) (sym number.is);
    }

pub kind_on-returns-in_ok-keep-in-Some-body_of-clause-kind : goal.kind_on-returns-in_ok-keep-in-Some-body_of-clause-kind
kind_on-returns-in_ok-keep-in-Some-body_of-clause-kind t c =
    let m = flat_of c.args.flat.now in
    let at_d = c.in-Some-body_of.ensures.here in
    c.value-kind.ensures ∙ body_kind m c.args.definition c.in_ok-n-in-Some-body_of.n c.args.frame.now (definition_of c.in-Some-body_of.body) at_d c.in_ok-n-in-Some-body_of.ensures.found.found
    ∙ ap (λ x. kind (text_of m c.args.definition (meanings m x c.args.frame.now))) (sym c.keep.ensures.arguments)

-- called

pub called-returns-in-Some-Value-clause-kind : goal.called-returns-in-Some-Value-clause-kind
called-returns-in-Some-Value-clause-kind t c =
    no_operator_kind (flat_of c.args.flat.now) c.args.operator _ c.args.operands.now c.requires.facts.table (sym c.in-Some-Value.ensures.key ∙ ap Some c.in-Some-Value.field-0-is)

pub called-returns-in-Some-Stays-clause-kind : goal.called-returns-in-Some-Stays-clause-kind
called-returns-in-Some-Stays-clause-kind t c =
    c.ruled_kind.ensures ∙ staying_kind (flat_of c.args.flat.now) c.args.operator _ c.args.operands.now c.requires.facts.table (sym c.in-Some-Stays.ensures.key ∙ ap Some c.in-Some-Stays.field-0-is)

pub called-returns-in-Some-BuiltIn-clause-kind : goal.called-returns-in-Some-BuiltIn-clause-kind
called-returns-in-Some-BuiltIn-clause-kind t c =
    c.ruled_kind-in-Some-BuiltIn.ensures ∙ built_in_kind (flat_of c.args.flat.now) c.args.operator _ c.args.operands.now c.requires.facts.table (sym c.in-Some-BuiltIn.ensures.key ∙ ap Some c.in-Some-BuiltIn.field-0-is)

pub called-add_operands-requires-clause-frame : goal.called-add_operands-requires-clause-frame
called-add_operands-requires-clause-frame t c =
    let at_n : slice_get c.args.facts.now.arguments.keys c.args.operator ≡ Some (Operator c.in-Some-Operator.d c.in-Some-Operator.outer) = sym c.in-Some-Operator.ensures.key ∙ ap Some c.in-Some-Operator.field-0-is in
    let arg = c.requires.facts.table.each c.args.operator _ at_n in
    let e = c.in_ok-frame-in-Some-Operator.ensures ∙ c.deref.ensures.value in
    subst (AllWithin c.args.facts.now.arguments.keys) (sym e) (all-lower _ _ _ arg (omega (arith, c.requires.operator)))

pub called-kind_on-requires : goal.called-kind_on-requires
called-kind_on-requires t c =
    let m = flat_of c.args.flat.now in
    let at_n : slice_get c.args.facts.now.arguments.keys c.args.operator ≡ Some (Operator c.in-Some-Operator.d c.in-Some-Operator.outer) = sym c.in-Some-Operator.ensures.key ∙ ap Some c.in-Some-Operator.field-0-is in
    let v = c.in_ok-add_operands-in-Some-Operator.ensures.added in
    let e = c.in_ok-frame-in-Some-Operator.ensures ∙ c.deref.ensures.value in
    let w = weight-step m c.args.facts.now.arguments.keys c.args.operator _ c.requires.facts.table at_n in
    let l = ap (load m c.args.facts.now.arguments.keys) e in let a = v.light m in
    let d = ap (load m c.add_operands.new.facts.arguments.keys) c.deref-in-Some-Operator.ensures.value in
    (omega (arith, w, l, d, a), (c.requires.ordered, (c.add_operands.ensures.facts, subst (AllWithin c.add_operands.new.facts.arguments.keys) (sym c.deref-in-Some-Operator.ensures.value) v.within)))

pub called-returns-in_ok-kind-in-Some-Operator-clause-kind : goal.called-returns-in_ok-kind-in-Some-Operator-clause-kind
called-returns-in_ok-kind-in-Some-Operator-clause-kind t c =
    let m = flat_of c.args.flat.now in
    let at_n : slice_get c.args.facts.now.arguments.keys c.args.operator ≡ Some (Operator c.in-Some-Operator.d c.in-Some-Operator.outer) = sym c.in-Some-Operator.ensures.key ∙ ap Some c.in-Some-Operator.field-0-is in
    let v = c.in_ok-add_operands-in-Some-Operator.ensures.added in let e = c.in_ok-frame-in-Some-Operator.ensures ∙ c.deref.ensures.value in
    operator_kind m c.args.operator c.in-Some-Operator.d c.in-Some-Operator.outer c.add_operands.new.frame.items c.args.operands.now c.in_ok-kind-in-Some-Operator.kind c.requires.facts.table c.requires.operator at_n
    (subst (λ x. AddsValues c.args.facts.now.arguments.keys c.add_operands.new.facts.arguments.keys x c.add_operands.new.frame.items c.args.operands.now) e v)
    c.in_ok-kind-in-Some-Operator.ensures.grows
    (c.in_ok-kind-in-Some-Operator.ensures.kind ∙ ap (λ x. kind (text_of m c.in-Some-Operator.d (meanings m c.kind_on.new.facts.arguments.keys x))) c.deref-in-Some-Operator.ensures.value)

-- judged_kind

pub judged_kind-called-requires : goal.judged_kind-called-requires
judged_kind-called-requires t c = (omega arith, (c.requires.ordered, (c.requires.facts, c.requires.n)))

pub judged_kind-returns-in-None-clause-kind : goal.judged_kind-returns-in-None-clause-kind
judged_kind-returns-in-None-clause-kind t c =
    c.value.ensures ∙ sym (kind-meaning (flat_of c.args.flat.now) c.args.facts.now.arguments.keys c.args.n)
    ∙ sym (ap (λ a. kind (judged a (meaning (flat_of c.args.flat.now) c.args.facts.now.arguments.keys c.args.n))) c.in-None.is)

pub judged_kind-returns-in_ok-kind-in-Some-clause-kind : goal.judged_kind-returns-in_ok-kind-in-Some-clause-kind
judged_kind-returns-in_ok-kind-in-Some-clause-kind t c =
    c.in_ok-kind-in-Some.ensures.kind
    ∙ ap (λ x. kind ((meaning (flat_of c.args.flat.now) c.called.new.facts.arguments.keys c.args.n).call (leaves x))) (c.deref.ensures.value ∙ c.in_ok-operands-in-Some.ensures)
    ∙ sym (ap (λ a. kind (judged a (meaning (flat_of c.args.flat.now) c.called.new.facts.arguments.keys c.args.n))) c.in-Some.is)

-- judge_all

pub judge_all-judge-requires : goal.judge_all-judge-requires
judge_all-judge-requires t c =
    let m = flat_of c.args.flat.now in
    let inv = c.loop-replacement.invariant.found in let w = load_on m inv.grows c.args.frame.now c.requires.frame in
    let x = root_light m c.args.replacements.now c.loop-replacement.replacement-index (record { root = 0; most = None }) c.loop-replacement-test.true in
    (omega (arith, w, x), (c.requires.ordered, (c.loop-replacement.invariant.facts, within_on inv.grows c.args.frame.now c.requires.frame)))

pub judge_all-loop-replacement-preserved : goal.judge_all-loop-replacement-preserved
judge_all-loop-replacement-preserved t c =
    let m = flat_of c.args.flat.now in let old = c.args.facts.now.arguments.keys in let new = c.judge.new.facts.arguments.keys in
    let rs = c.args.replacements.now in let i = c.loop-replacement.replacement-index in let d : Replacement = record { root = 0; most = None } in
    let more = evaluates_more m (get_or rs i d).root c.in_ok-n.n c.requires.frame c.loop-replacement.invariant.found c.in_ok-n.ensures.found in
    record {
      facts = c.judge.ensures.facts;
      found = subst (λ x. EvaluatesAll m old new x c.args.frame.now c.push.new.self.items) (sym (map_more (λ (r : Replacement). r.root) rs i d c.loop-replacement-test.true))
          (subst (λ x. EvaluatesAll m old new (map (λ (r : Replacement). r.root) (take i rs) ++ (get_or rs i d).root ∷ []) c.args.frame.now x) (sym c.in_ok-push.ensures.items) more);
    }

-- is_met

pub is_met-judged_kind-requires : goal.is_met-judged_kind-requires
is_met-judged_kind-requires t c = (omega arith, (c.requires.ordered, (c.requires.facts, c.requires.n)))

pub is_met-returns-in-None-clause-met : goal.is_met-returns-in-None-clause-met
is_met-returns-in-None-clause-met t c =
    let m = flat_of c.args.flat.now in
    sym (ap (λ o. is_within o (kind (judged (places_of (slice_get m.nodes c.args.replacement.root)) (meaning m c.args.facts.now.arguments.keys c.args.n)))) c.in-None.is)

pub is_met-returns-in_ok-kind-in-Some-clause-met : goal.is_met-returns-in_ok-kind-in-Some-clause-met
is_met-returns-in_ok-kind-in-Some-clause-met t c =
    let m = flat_of c.args.flat.now in let x = meaning m c.judged_kind.new.facts.arguments.keys c.args.n in
    c.is_at_most.ensures ∙ ap (is_at_most c.in-Some.most) (c.in_ok-kind-in-Some.ensures.kind ∙ ap (λ o. kind (judged o x)) c.places-places.ensures)
    ∙ sym (ap (λ o. is_within o (kind (judged (places_of (slice_get m.nodes c.args.replacement.root)) x))) c.in-Some.is)

-- are_met

pub are_met-returns-then-not-instance-clause-met : goal.are_met-returns-then-not-instance-clause-met
are_met-returns-then-not-instance-clause-met t c = let h = c.if-not-instance.true in meets_free (flat_of c.args.flat.now) c.args.facts.now.arguments.keys c.args.instance.now c.args.numbers.now c.requires.facts.table h

pub are_met-loop-i-init : goal.are_met-loop-i-init
are_met-loop-i-init t c =
    record { facts = c.requires.facts; grows = grows_not c.args.facts.now.arguments.keys c.requires.facts.table; guards = decide_none (flat_of c.args.flat.now) c.args.facts.now.arguments.keys c.args.instance.now c.args.numbers.now }

pub are_met-is_met-requires : goal.are_met-is_met-requires
are_met-is_met-requires t c =
    let m = flat_of c.args.flat.now in let old = c.args.facts.now.arguments.keys in let inv = c.loop-i.invariant in
    let there : c.loop-i.i < length c.args.instance.now.replacements.items = omega (arith, c.loop-i-test.true, c.len-i-end.ensures, c.args.instance.now.replacements.ok.0) in
    let w = within_on inv.grows c.args.numbers.now c.requires.numbers in let l = load_on m inv.grows c.args.numbers.now c.requires.numbers in
    let here : c.loop-i.i < length c.args.numbers.now = omega (arith, c.requires.long, there) in
    let x = load-at (weight m c.loop-i.facts.arguments.keys) c.args.numbers.now c.loop-i.i 0 here in
    let e = ap (weight m c.loop-i.facts.arguments.keys) c.number_at.ensures in
    (omega (arith, l, x, e), (c.requires.ordered, (inv.facts, subst (λ n. n < length c.loop-i.facts.arguments.keys) (sym c.number_at.ensures) (lower-at _ c.args.numbers.now c.loop-i.i 0 w here))))

pub are_met-loop-i-preserved : goal.are_met-loop-i-preserved
are_met-loop-i-preserved t c =
    let m = flat_of c.args.flat.now in let old = c.args.facts.now.arguments.keys in let inv = c.loop-i.invariant in
    let there : c.loop-i.i < length c.args.instance.now.replacements.items = omega (arith, c.loop-i-test.true, c.len-i-end.ensures, c.args.instance.now.replacements.ok.0) in
    let judges = judges_at m c.args.instance.now c.args.numbers.now c.loop-i.i c.number_at.result c.index-replacement.result.now c.in_ok-met.met there c.requires.long c.index-replacement.ensures c.requires.numbers inv.grows c.in_ok-met.ensures.grows c.number_at.ensures c.in_ok-met.ensures.met in
    record { facts = c.in_ok-met.ensures.facts; grows = judges.grows; guards = decide_more m inv.guards judges c.if-not-met.false }

pub are_met-returns-then-not-met-clause-met : goal.are_met-returns-then-not-met-clause-met
are_met-returns-then-not-met-clause-met t c =
    let m = flat_of c.args.flat.now in let old = c.args.facts.now.arguments.keys in let inv = c.loop-i.invariant in
    let there : c.loop-i.i < length c.args.instance.now.replacements.items = omega (arith, c.loop-i-test.true, c.len-i-end.ensures, c.args.instance.now.replacements.ok.0) in
    let judges = judges_at m c.args.instance.now c.args.numbers.now c.loop-i.i c.number_at.result c.index-replacement.result.now c.in_ok-met.met there c.requires.long c.index-replacement.ensures c.requires.numbers inv.grows c.in_ok-met.ensures.grows c.number_at.ensures c.in_ok-met.ensures.met in
    meets_not m inv.guards judges c.if-not-met.true c.if-not-instance.false

pub are_met-returns-clause-met : goal.are_met-returns-clause-met
are_met-returns-clause-met t c =
    let m = flat_of c.args.flat.now in let inv = c.loop-i.invariant in
    meets_all m inv.grows inv.guards (omega (arith, c.loop-i-test.false, c.len-i-end.ensures, c.args.instance.now.replacements.ok.0)) c.if-not-instance.false

-- lead_through

pub lead_through-index-here-requires : goal.lead_through-index-here-requires
lead_through-index-here-requires t c =
    let d = instance_within c.args.flat.now c.args.node c.args.instance c.requires.instance in omega (arith, d, c.args.flat.now.instances.ok.0)

pub lead_through-judge_all-requires : goal.lead_through-judge_all-requires
lead_through-judge_all-requires t c =
    let m = flat_of c.args.flat.now in let old = c.args.facts.now.arguments.keys in let x = c.index-here.result.now in let round = c.deref-2.result.now in
    let at = reads_instance c.args.flat.now c.args.node c.args.instance x (instance_within c.args.flat.now c.args.node c.args.instance c.requires.instance) c.index-here.ensures c.requires.instance in
    let is = c.deref-2.ensures.value ∙ c.in_ok-round.ensures in
    let l = around_light m old x c.args.reached.now round is in
    let heavy = roots_light m c.args.node c.args.instance x at in
    let r = ap (λ y. heaviest (node_cost m) (map (λ (z : Replacement). z.root) y)) c.deref.ensures.value in
    (omega (arith, l, heavy, r), (c.requires.ordered, (c.requires.facts, around_within m old x c.args.reached.now round c.requires.reached is)))

pub lead_through-are_met-requires : goal.lead_through-are_met-requires
lead_through-are_met-requires t c =
    let m = flat_of c.args.flat.now in let old = c.args.facts.now.arguments.keys in let x = c.index-here.result.now in let round = c.deref-2.result.now in
    let at = reads_instance c.args.flat.now c.args.node c.args.instance x (instance_within c.args.flat.now c.args.node c.args.instance c.requires.instance) c.index-here.ensures c.requires.instance in
    let is = c.deref-2.ensures.value ∙ c.in_ok-round.ensures in
    let mid = c.judge_all.new.facts.arguments.keys in
    let e = subst (λ y. EvaluatesAll m old mid (map (λ (r : Replacement). r.root) y) round c.in_ok-frame.frame.items) c.deref.ensures.value c.in_ok-frame.ensures.found in
    let l = guards_light m c.args.node c.args.instance x c.args.reached.now round c.in_ok-frame.frame.items at c.requires.reached is e in
    let n = ap (load m mid) c.deref-3.ensures.value in
    (omega (arith, l, n), (c.requires.ordered, (c.in_ok-frame.ensures.facts, (ap length c.deref-3.ensures.value ∙ frame_long m x round c.in_ok-frame.frame.items e, subst (AllWithin mid) (sym c.deref-3.ensures.value) e.within))))

pub lead_through-returns-clause-leads : goal.lead_through-returns-clause-leads
lead_through-returns-clause-leads t c =
    let m = flat_of c.args.flat.now in let old = c.args.facts.now.arguments.keys in let x = c.index-here.result.now in let round = c.deref-2.result.now in
    let at = reads_instance c.args.flat.now c.args.node c.args.instance x (instance_within c.args.flat.now c.args.node c.args.instance c.requires.instance) c.index-here.ensures c.requires.instance in
    let is = c.deref-2.ensures.value ∙ c.in_ok-round.ensures in
    let mid = c.judge_all.new.facts.arguments.keys in
    let e = subst (λ y. EvaluatesAll m old mid (map (λ (r : Replacement). r.root) y) round c.in_ok-frame.frame.items) c.deref.ensures.value c.in_ok-frame.ensures.found in
    let g = subst (λ y. MeetsGuards m mid c.are_met.new.facts.arguments.keys x y c.in_ok-met.met) c.deref-3.ensures.value c.in_ok-met.ensures.met in
    let both : c.if-reached.result ≡ (c.args.reached.now.met && c.in_ok-met.met) = elim c.if-reached.branch [
      | lead_through-then-reached w ↦ w.result-is ∙ sym (ap (λ b. b && c.in_ok-met.met) w.if-reached.true)
      | lead_through-else-reached w ↦ w.result-is ∙ w.if-reached.false ∙ sym (ap (λ b. b && c.in_ok-met.met) w.if-reached.false)
    ] in
    leads_through m c.args.node c.args.instance x c.args.reached.now (record { frame = c.in_ok-frame.frame; rest = c.in_ok-rest.rest; met = c.if-reached.result }) round c.in_ok-met.met
    at c.requires.reached is e g (c.in_ok-rest.ensures ∙ ap (drop x.parameters) c.deref-4.ensures.value) both

-- reach

pub reach-loop-instance-init : goal.reach-loop-instance-init
reach-loop-instance-init t c = record {
  facts = c.requires.facts;
  reaches = path_begins (flat_of c.args.flat.now) c.args.facts.now.arguments.keys c.args.node c.args.frame.now c.args.numbers.now c.in_ok-reached.reached c.requires.facts.table c.requires.frame c.requires.numbers c.in_ok-reached.ensures.frame c.in_ok-reached.ensures.rest c.in_ok-reached.ensures.met;
}

pub reach-lead_through-requires : goal.reach-lead_through-requires
reach-lead_through-requires t c =
    let m = flat_of c.args.flat.now in let path = path_at c.args.flat.now.paths.items c.args.path in
    let inv = c.loop-instance.invariant.reaches in let i = c.loop-instance.instance-index in let e = c.path-instance-items.ensures in
    let here : i < length path = subst (λ xs. i < length xs) e c.loop-instance-test.true in
    let w = path_light m c.args.node path i c.args.frame.now c.args.numbers.now c.loop-instance.reached inv here in
    (omega (arith, w), (c.requires.ordered, (c.loop-instance.invariant.facts, (uses_at m c.args.node path i _ here (ap (λ xs. get_or xs i 0) e) c.requires.path, inv.within))))

pub reach-loop-instance-preserved : goal.reach-loop-instance-preserved
reach-loop-instance-preserved t c =
    let m = flat_of c.args.flat.now in let path = path_at c.args.flat.now.paths.items c.args.path in
    let inv = c.loop-instance.invariant.reaches in let i = c.loop-instance.instance-index in let e = c.path-instance-items.ensures in
    let here : i < length path = subst (λ xs. i < length xs) e c.loop-instance-test.true in
    let old = c.args.facts.now.arguments.keys in let new = c.lead_through.new.facts.arguments.keys in
    let one = subst (λ j. LeadsThrough m c.loop-instance.facts.arguments.keys new c.args.node j c.loop-instance.reached c.in_ok-reached-2.reached) (ap (λ xs. get_or xs i 0) e) c.in_ok-reached-2.ensures.leads in
    record {
      facts = c.in_ok-reached-2.ensures.facts;
      reaches = subst (λ ps. ReachesPath m old new c.args.node ps c.args.frame.now c.args.numbers.now c.in_ok-reached-2.reached) (sym (take_more path i 0 here))
          (path_more m c.args.node (take i path) (get_or path i 0) c.args.frame.now c.args.numbers.now c.loop-instance.reached c.in_ok-reached-2.reached inv one);
    }

pub reach-returns-clause-reaches : goal.reach-returns-clause-reaches
reach-returns-clause-reaches t c =
    let m = flat_of c.args.flat.now in let path = path_at c.args.flat.now.paths.items c.args.path in
    let inv = c.loop-instance.invariant.reaches in let i = c.loop-instance.instance-index in let e = c.path-instance-items.ensures in
    let past : length path ≤ i = subst (λ xs. length xs ≤ i) e c.loop-instance-test.false in
    subst (λ ps. ReachesPath m c.args.facts.now.arguments.keys c.loop-instance.facts.arguments.keys c.args.node ps c.args.frame.now c.args.numbers.now c.loop-instance.reached) (take_all i path past) inv

-- use_kind

pub use_kind-reach-requires : goal.use_kind-reach-requires
use_kind-reach-requires t c =
    (omega (arith, c.requires.light), (c.requires.ordered, (c.requires.facts, (c.requires.path, (c.requires.frame, c.requires.numbers)))))

pub use_kind-returns-then-not-reached-clause-kind : goal.use_kind-returns-then-not-reached-clause-kind
use_kind-returns-then-not-reached-clause-kind t c =
    used_not_met (flat_of c.args.flat.now) c.args.node (path_at c.args.flat.now.paths.items c.args.path) c.args.definition c.args.frame.now c.args.numbers.now c.in_ok-reached.reached c.in_ok-reached.ensures.reaches (not-true c.in_ok-reached.reached.met c.if-not-reached.true)

pub use_kind-index-body-requires : goal.use_kind-index-body-requires
use_kind-index-body-requires t c =
    let d = definition_within c.args.flat.now c.args.node c.args.definition c.requires.definition in omega (arith, d, c.args.flat.now.definitions.ok.0)

pub use_kind-kind_on-requires-2 : goal.use_kind-kind_on-requires-2
use_kind-kind_on-requires-2 t c =
    let m = flat_of c.args.flat.now in let path = path_at c.args.flat.now.paths.items c.args.path in let x = c.index-body.result.now in let r = c.in_ok-reached.reached in
    let round_is = c.deref.ensures.value ∙ c.in_ok-round.ensures in
    let w = used_light m c.args.node path c.args.definition (definition_of x) c.args.frame.now c.args.numbers.now c.deref.result.now r c.requires.definition c.in_ok-reached.ensures.reaches round_is c.requires.light in
    (omega (arith, w), (c.requires.ordered, (c.in_ok-reached.ensures.facts, used_within m c.args.node path (definition_of x) c.args.frame.now c.args.numbers.now c.deref.result.now r c.in_ok-reached.ensures.reaches round_is)))

pub use_kind-returns-clause-kind : goal.use_kind-returns-clause-kind
use_kind-returns-clause-kind t c =
    let m = flat_of c.args.flat.now in let path = path_at c.args.flat.now.paths.items c.args.path in let x = c.index-body.result.now in let r = c.in_ok-reached.reached in
    let round_is = c.deref.ensures.value ∙ c.in_ok-round.ensures in
    let at_d = definition_got c.args.flat.now c.args.flat.now.definitions.items c.args.definition x refl (definition_within c.args.flat.now c.args.node c.args.definition c.requires.definition) c.index-body.ensures in
    used_met m c.args.node path c.args.definition (definition_of x) c.args.frame.now c.args.numbers.now c.deref.result.now r c.in_ok-kind-3.kind at_d c.in_ok-reached.ensures.reaches (not-false c.in_ok-reached.reached.met c.if-not-reached.false) round_is c.in_ok-kind-3.ensures.grows c.in_ok-kind-3.ensures.kind

pub use_kind-kind_on-requires : goal.use_kind-kind_on-requires
use_kind-kind_on-requires t c =
    let m = flat_of c.args.flat.now in let old = c.args.facts.now.arguments.keys in
    let w = free_light m old c.args.node c.args.definition c.args.frame.now c.args.numbers.now c.requires.definition c.requires.light in
    (omega (arith, w), (c.requires.ordered, (c.requires.facts, c.requires.numbers)))

pub use_kind-returns-then-is_free-clause-kind : goal.use_kind-returns-then-is_free-clause-kind
use_kind-returns-then-is_free-clause-kind t c =
    let m = flat_of c.args.flat.now in let d = c.args.definition in
    let u = c.requires.definition in
    free_met m (path_at c.args.flat.now.paths.items c.args.path) d u.0 c.args.frame.now c.args.numbers.now c.in_ok-kind-2.kind u.1 c.requires.numbers
    (sym (sym c.if-is_empty.false ∙ c.is_empty.ensures ∙ ap (λ xs. length xs == 0) c.path.ensures)) (sym c.is_free.ensures ∙ c.if-is_free.true) c.in_ok-kind-2.ensures.grows c.in_ok-kind-2.ensures.kind

-- direct_kind

pub direct_kind-index-body-requires : goal.direct_kind-index-body-requires
direct_kind-index-body-requires t c =
    let d = definition_within c.args.flat.now c.args.node c.args.definition c.requires.definition in omega (arith, d, c.args.flat.now.definitions.ok.0)

pub direct_kind-kind_on-requires : goal.direct_kind-kind_on-requires
direct_kind-kind_on-requires t c =
    let m = flat_of c.args.flat.now in let old = c.args.facts.now.arguments.keys in let x = definition_of c.index-body.result.now in
    let round = c.front.result.now in let is = round_alone x.outer c.args.frame.now c.args.numbers.now round c.front.ensures (sym c.is_empty.ensures ∙ c.if-is_empty.true) in
    let w = direct_light m old c.args.node c.args.definition x.outer c.args.frame.now c.args.numbers.now round c.requires.definition is c.requires.light in
    (omega (arith, w), (c.requires.ordered, (c.requires.facts, direct_within m old x.outer c.args.frame.now c.args.numbers.now round c.requires.frame c.requires.numbers is)))

pub direct_kind-kind_on-requires-2 : goal.direct_kind-kind_on-requires-2
direct_kind-kind_on-requires-2 t c =
    let m = flat_of c.args.flat.now in let old = c.args.facts.now.arguments.keys in let x = definition_of c.index-body.result.now in
    let round = c.deref.result.now in let is = c.deref.ensures.value ∙ c.in_ok-round.ensures in
    let w = direct_light m old c.args.node c.args.definition x.outer c.args.frame.now c.args.numbers.now round c.requires.definition is c.requires.light in
    (omega (arith, w), (c.requires.ordered, (c.requires.facts, direct_within m old x.outer c.args.frame.now c.args.numbers.now round c.requires.frame c.requires.numbers is)))

pub direct_kind-returns-then-is_empty-clause-kind : goal.direct_kind-returns-then-is_empty-clause-kind
direct_kind-returns-then-is_empty-clause-kind t c =
    let m = flat_of c.args.flat.now in let old = c.args.facts.now.arguments.keys in let x = c.index-body.result.now in
    let round = c.front.result.now in let is = round_alone x.outer c.args.frame.now c.args.numbers.now round c.front.ensures (sym c.is_empty.ensures ∙ c.if-is_empty.true) in
    let at_d = definition_got c.args.flat.now c.args.flat.now.definitions.items c.args.definition x refl (definition_within c.args.flat.now c.args.node c.args.definition c.requires.definition) c.index-body.ensures in
    direct_met m c.args.definition (definition_of x) c.args.frame.now c.args.numbers.now round c.in_ok-kind.kind at_d c.requires.frame c.requires.numbers is c.in_ok-kind.ensures.grows c.in_ok-kind.ensures.kind

pub direct_kind-returns-clause-kind : goal.direct_kind-returns-clause-kind
direct_kind-returns-clause-kind t c =
    let m = flat_of c.args.flat.now in let old = c.args.facts.now.arguments.keys in let x = c.index-body.result.now in
    let at_d = definition_got c.args.flat.now c.args.flat.now.definitions.items c.args.definition x refl (definition_within c.args.flat.now c.args.node c.args.definition c.requires.definition) c.index-body.ensures in
    direct_met m c.args.definition (definition_of x) c.args.frame.now c.args.numbers.now c.deref.result.now c.in_ok-kind-2.kind at_d c.requires.frame c.requires.numbers (c.deref.ensures.value ∙ c.in_ok-round.ensures) c.in_ok-kind-2.ensures.grows c.in_ok-kind-2.ensures.kind

-- judge

pub judge-returns-then-node-len-clause-found : goal.judge-returns-then-node-len-clause-found
judge-returns-then-node-len-clause-found t c =
    let gone = node_gone c.args.flat.now c.args.flat.now.nodes.items c.args.node refl (omega (arith, c.if-node-len.true, c.len.ensures, c.args.flat.now.nodes.ok.0)) in
    record { grows = c.in_ok-n.ensures.grows; found = missing_found (flat_of c.args.flat.now) c.number.new.facts.arguments.keys c.args.node c.args.frame.now c.in_ok-n.n gone c.in_ok-n.ensures.grows.table c.in_ok-n.ensures.stored }

pub judge-step-requires : goal.judge-step-requires
judge-step-requires t c =
    let m = flat_of c.args.flat.now in let inv = c.loop-i.invariant in let start = c.number_at-start.result in
    let there : c.args.node < length c.args.flat.now.nodes.items = omega (arith, c.if-node-len.false, c.len.ensures, c.args.flat.now.nodes.ok.0) in
    let w = load_on m inv.grows c.args.frame.now c.requires.frame in
    let a = cost-split (longest m.nodes) c.loop-i.i c.args.node c.loop-i-test.true in
    (omega (arith, w, a.0, a.1, a.2), (c.requires.ordered, (inv.facts, (omega (arith, there, c.loop-i-test.true), (within_on inv.grows c.args.frame.now c.requires.frame, subst (λ x. Found m c.loop-i.facts.arguments.keys start c.loop-i.i c.args.frame.now x) (sym c.deref-in-loop-i.ensures.value) inv.found)))))

pub judge-loop-i-preserved : goal.judge-loop-i-preserved
judge-loop-i-preserved t c =
    let m = flat_of c.args.flat.now in let inv = c.loop-i.invariant in let start = c.number_at-start.result in
    record {
      facts = c.in_ok-n-2.ensures.facts;
      grows = grows_on inv.grows c.in_ok-n-2.ensures.steps.grows;
      found = found_more m start c.loop-i.i c.args.frame.now c.loop-i.found.items c.push.new.self.items c.in_ok-n-2.n (within_on inv.grows c.args.frame.now c.requires.frame) inv.found c.in_ok-n-2.ensures.steps c.in_ok-push.ensures.items;
    }

pub judge-step-requires-2 : goal.judge-step-requires-2
judge-step-requires-2 t c =
    let m = flat_of c.args.flat.now in let inv = c.loop-i.invariant in let start = c.number_at-start.result in
    let there : c.args.node < length c.args.flat.now.nodes.items = omega (arith, c.if-node-len.false, c.len.ensures, c.args.flat.now.nodes.ok.0) in
    let b = begins_at c.args.flat.now c.args.facts.now c.args.node start c.requires.facts there (c.number_at-start.ensures ∙ ap (λ x. get_or x c.args.node 0) c.deref.ensures.value) in
    let q : c.loop-i.i ≡ c.args.node = omega (arith, c.loop-i-test.false, c.loop-i.auto.i-end b.1) in
    let w = load_on m inv.grows c.args.frame.now c.requires.frame in
    let f = subst (λ x. Found m c.loop-i.facts.arguments.keys start x c.args.frame.now c.loop-i.found.items) q inv.found in
    (omega (arith, w), (c.requires.ordered, (inv.facts, (there, (within_on inv.grows c.args.frame.now c.requires.frame, subst (λ x. Found m c.loop-i.facts.arguments.keys start c.args.node c.args.frame.now x) (sym c.deref-2.ensures.value) f)))))

pub judge-returns-clause-found : goal.judge-returns-clause-found
judge-returns-clause-found t c =
    let m = flat_of c.args.flat.now in let inv = c.loop-i.invariant in let start = c.number_at-start.result in
    let there : c.args.node < length c.args.flat.now.nodes.items = omega (arith, c.if-node-len.false, c.len.ensures, c.args.flat.now.nodes.ok.0) in
    let b = begins_at c.args.flat.now c.args.facts.now c.args.node start c.requires.facts there (c.number_at-start.ensures ∙ ap (λ x. get_or x c.args.node 0) c.deref.ensures.value) in
    let steps = c.in_ok-n-3.ensures.steps in record { grows = grows_on inv.grows steps.grows; found = steps.found b.0 }

-- step

pub step-returns-then-number_at-start-clause-steps : goal.step-returns-then-number_at-start-clause-steps
step-returns-then-number_at-start-clause-steps t c =
    left_out c.args.flat.now c.args.facts.now c.args.start c.args.node c.number_at.result 0 c.args.frame.now c.requires.facts c.requires.node (c.number_at.ensures ∙ ap (λ x. get_or x c.args.node 0) c.deref.ensures.value) c.if-number_at-start.true

pub step-called-requires : goal.step-called-requires
step-called-requires t c =
    let o = c.in_ok-operator-in-Call.ensures.found in
    let l = load_on (flat_of c.args.flat.now) o.grows c.args.frame.now c.requires.frame in
    (omega (arith, o.light, l), (c.requires.ordered, (c.in_ok-operator-in-Call.ensures.facts, o.within)))

pub step-use_kind-requires : goal.step-use_kind-requires
step-use_kind-requires t c =
    let m = flat_of c.args.flat.now in let old = c.args.facts.now.arguments.keys in
    let s = step_at c.args.flat.now c.args.facts.now c.args.start c.args.node c.number_at.result c.args.frame.now c.args.found.now c.deref.result.now c.deref-in-Use.result.now c.in_ok-numbers-in-Use.numbers.items c.index-here.result.now c.requires.ordered c.requires.facts c.requires.node c.requires.found c.number_at.ensures c.deref.ensures.value c.if-number_at-start.false c.index-here.ensures c.in_ok-numbers-in-Use.ensures c.deref-in-Use.ensures.value in
    let ns = c.in_ok-numbers-in-Use.numbers.items in
    let f = variant.Use c.in-Use.path c.in-Use.definition in let path = path_at c.args.flat.now.paths.items c.in-Use.path in
    let r = step_reads s f c.in-Use.is in let p = step_parts s f c.in-Use.is refl in
    let uses = (reads-below m c.requires.ordered r).1 in let w = uses_light m path c.in-Use.definition r refl uses.1 in
    let l = ap (load m old) c.deref-in-Use-2.ensures.value in
    (omega (arith, w), (c.requires.ordered, (c.requires.facts, (uses.0, (uses.1, (c.requires.frame, (subst (AllWithin old) (sym c.deref-in-Use-2.ensures.value) p.within, omega (arith, l, p.light))))))))

pub step-reach-requires : goal.step-reach-requires
step-reach-requires t c =
    let m = flat_of c.args.flat.now in let old = c.args.facts.now.arguments.keys in
    let s = step_at c.args.flat.now c.args.facts.now c.args.start c.args.node c.number_at.result c.args.frame.now c.args.found.now c.deref.result.now c.deref-in-Name.result.now c.in_ok-numbers-in-Name.numbers.items c.index-here.result.now c.requires.ordered c.requires.facts c.requires.node c.requires.found c.number_at.ensures c.deref.ensures.value c.if-number_at-start.false c.index-here.ensures c.in_ok-numbers-in-Name.ensures c.deref-in-Name.ensures.value in
    let ns = c.in_ok-numbers-in-Name.numbers.items in
    let f = variant.Name c.in-Name.path c.in-Name.definition in let path = path_at c.args.flat.now.paths.items c.in-Name.path in
    let r = step_reads s f c.in-Name.is in let p = step_parts s f c.in-Name.is refl in
    let uses = (reads-below m c.requires.ordered r).1 in let w = uses_light m path c.in-Name.definition r refl uses.1 in
    let l = ap (load m old) c.deref-in-Name-2.ensures.value in
    (omega (arith, w, l, p.light), (c.requires.ordered, (c.requires.facts, (uses.0, (c.requires.frame, subst (AllWithin old) (sym c.deref-in-Name-2.ensures.value) p.within)))))

pub step-returns-then-not-reached-clause-steps : goal.step-returns-then-not-reached-clause-steps
step-returns-then-not-reached-clause-steps t c =
    let m = flat_of c.args.flat.now in let old = c.args.facts.now.arguments.keys in
    let s = step_at c.args.flat.now c.args.facts.now c.args.start c.args.node c.number_at.result c.args.frame.now c.args.found.now c.deref.result.now c.deref-in-Name.result.now c.in_ok-numbers-in-Name.numbers.items c.index-here.result.now c.requires.ordered c.requires.facts c.requires.node c.requires.found c.number_at.ensures c.deref.ensures.value c.if-number_at-start.false c.index-here.ensures c.in_ok-numbers-in-Name.ensures c.deref-in-Name.ensures.value in
    let ns = c.in_ok-numbers-in-Name.numbers.items in
    let f = variant.Name c.in-Name.path c.in-Name.definition in let path = path_at c.args.flat.now.paths.items c.in-Name.path in
    let r = step_reads s f c.in-Name.is in let p = step_parts s f c.in-Name.is refl in
    let h = subst (λ y. ReachesPath m old c.reach.new.facts.arguments.keys c.args.node path c.args.frame.now y c.in_ok-reached-in-Name.reached) c.deref-in-Name-2.ensures.value c.in_ok-reached-in-Name.ensures.reaches in
    record { grows = grows_on h.grows c.in_ok-n-in-Name.ensures.grows; found = λ _. name_not_met m c.requires.ordered path c.in-Name.definition r c.args.frame.now ns c.in_ok-reached-in-Name.reached c.requires.frame p h c.in_ok-n-in-Name.n c.if-not-reached.true c.in_ok-n-in-Name.ensures.grows c.in_ok-n-in-Name.ensures.stored }

pub step-returns-in_ok-n-in-Leaf-clause-steps : goal.step-returns-in_ok-n-in-Leaf-clause-steps
step-returns-in_ok-n-in-Leaf-clause-steps t c =
    let m = flat_of c.args.flat.now in let old = c.args.facts.now.arguments.keys in
    let s = step_here c.args.flat.now c.args.facts.now c.args.start c.args.node c.number_at.result c.args.frame.now c.args.found.now c.deref.result.now c.index-here.result.now c.requires.ordered c.requires.facts c.requires.node c.requires.found c.number_at.ensures c.deref.ensures.value c.if-number_at-start.false c.index-here.ensures in
    value_steps s (variant.Leaf c.in-Leaf.kind) c.in-Leaf.is c.in_ok-n-in-Leaf.n (Some c.in-Leaf.kind) (Given (Some c.in-Leaf.kind)) c.requires.frame c.in_ok-n-in-Leaf.ensures.grows refl refl c.in_ok-n-in-Leaf.ensures.stored

pub step-returns-in_ok-n-in-Symbol-clause-steps : goal.step-returns-in_ok-n-in-Symbol-clause-steps
step-returns-in_ok-n-in-Symbol-clause-steps t c =
    let m = flat_of c.args.flat.now in let old = c.args.facts.now.arguments.keys in
    let s = step_here c.args.flat.now c.args.facts.now c.args.start c.args.node c.number_at.result c.args.frame.now c.args.found.now c.deref.result.now c.index-here.result.now c.requires.ordered c.requires.facts c.requires.node c.requires.found c.number_at.ensures c.deref.ensures.value c.if-number_at-start.false c.index-here.ensures in
    let r = step_reads s (variant.Symbol c.in-Symbol.rule) c.in-Symbol.is in
    record { grows = c.in_ok-n-in-Symbol.ensures.grows; found = λ _. symbol_found m c.requires.ordered c.in-Symbol.rule r c.args.frame.now c.in_ok-n-in-Symbol.n c.in_ok-n-in-Symbol.ensures.grows c.in_ok-n-in-Symbol.ensures.stored }

pub step-returns-in_ok-n-in-Parameter-clause-steps : goal.step-returns-in_ok-n-in-Parameter-clause-steps
step-returns-in_ok-n-in-Parameter-clause-steps t c =
    let m = flat_of c.args.flat.now in let old = c.args.facts.now.arguments.keys in
    let s = step_here c.args.flat.now c.args.facts.now c.args.start c.args.node c.number_at.result c.args.frame.now c.args.found.now c.deref.result.now c.index-here.result.now c.requires.ordered c.requires.facts c.requires.node c.requires.found c.number_at.ensures c.deref.ensures.value c.if-number_at-start.false c.index-here.ensures in
    let r = step_reads s (variant.Parameter c.in-Parameter.place) c.in-Parameter.is in let o = c.in_ok-n-in-Parameter.ensures.found in
    record { grows = o.grows; found = λ _. parameter_found m c.requires.ordered c.in-Parameter.place r c.args.frame.now c.in_ok-n-in-Parameter.n o }

pub step-returns-in_ok-n-in-Lambda-clause-steps : goal.step-returns-in_ok-n-in-Lambda-clause-steps
step-returns-in_ok-n-in-Lambda-clause-steps t c =
    let m = flat_of c.args.flat.now in let old = c.args.facts.now.arguments.keys in
    let s = step_here c.args.flat.now c.args.facts.now c.args.start c.args.node c.number_at.result c.args.frame.now c.args.found.now c.deref.result.now c.index-here.result.now c.requires.ordered c.requires.facts c.requires.node c.requires.found c.number_at.ensures c.deref.ensures.value c.if-number_at-start.false c.index-here.ensures in
    let r = step_reads s (variant.Lambda c.in-Lambda.definition) c.in-Lambda.is in let o = c.in_ok-n-in-Lambda.ensures.found in
    record { grows = o.grows; found = λ _. lambda_found m c.requires.ordered c.in-Lambda.definition r c.args.frame.now c.in_ok-n-in-Lambda.n o }

pub step-returns-in_ok-n-in-Operation-clause-steps : goal.step-returns-in_ok-n-in-Operation-clause-steps
step-returns-in_ok-n-in-Operation-clause-steps t c =
    let m = flat_of c.args.flat.now in let old = c.args.facts.now.arguments.keys in
    let s = step_here c.args.flat.now c.args.facts.now c.args.start c.args.node c.number_at.result c.args.frame.now c.args.found.now c.deref.result.now c.index-here.result.now c.requires.ordered c.requires.facts c.requires.node c.requires.found c.number_at.ensures c.deref.ensures.value c.if-number_at-start.false c.index-here.ensures in
    let ns = map (picked c.args.start c.args.found.now) c.index-here.result.now.parts.items in
    let r = step_reads s (variant.Operation c.in-Operation.rule) c.in-Operation.is in let p = step_parts s (variant.Operation c.in-Operation.rule) c.in-Operation.is refl in
    let g = c.in_ok-n-in-Operation.ensures.grows in
    value_steps s (variant.Operation c.in-Operation.rule) c.in-Operation.is c.in_ok-n-in-Operation.n c.operation_kind-kind.result _ c.requires.frame g refl
    (c.operation_kind-kind.ensures ∙ ap (λ y. ruled c.in-Operation.rule (map (value_at old) (map (picked c.args.start c.args.found.now) y))) c.deref-in-Operation.ensures.value ∙ ap (ruled c.in-Operation.rule) (part_kinds m c.requires.ordered r old c.args.frame.now ns p)) c.in_ok-n-in-Operation.ensures.stored

pub step-returns-in_ok-n-in-Old-clause-steps : goal.step-returns-in_ok-n-in-Old-clause-steps
step-returns-in_ok-n-in-Old-clause-steps t c =
    let m = flat_of c.args.flat.now in let old = c.args.facts.now.arguments.keys in
    let s = step_here c.args.flat.now c.args.facts.now c.args.start c.args.node c.number_at.result c.args.frame.now c.args.found.now c.deref.result.now c.index-here.result.now c.requires.ordered c.requires.facts c.requires.node c.requires.found c.number_at.ensures c.deref.ensures.value c.if-number_at-start.false c.index-here.ensures in
    let ns = map (picked c.args.start c.args.found.now) c.index-here.result.now.parts.items in
    let r = step_reads s variant.Old c.in-Old.is in let p = step_parts s variant.Old c.in-Old.is refl in
    let g = c.in_ok-n-in-Old.ensures.grows in
    value_steps s variant.Old c.in-Old.is c.in_ok-n-in-Old.n c.operation_kind-kind-in-Old.result _ c.requires.frame g refl
    (c.operation_kind-kind-in-Old.ensures ∙ ap (λ y. ruled Boolean (map (value_at old) (map (picked c.args.start c.args.found.now) y))) c.deref-in-Old.ensures.value ∙ ap (ruled Boolean) (part_kinds m c.requires.ordered r old c.args.frame.now ns p)) c.in_ok-n-in-Old.ensures.stored

pub step-returns-in_ok-n-in-Bounded-clause-steps : goal.step-returns-in_ok-n-in-Bounded-clause-steps
step-returns-in_ok-n-in-Bounded-clause-steps t c =
    let m = flat_of c.args.flat.now in let old = c.args.facts.now.arguments.keys in
    let s = step_here c.args.flat.now c.args.facts.now c.args.start c.args.node c.number_at.result c.args.frame.now c.args.found.now c.deref.result.now c.index-here.result.now c.requires.ordered c.requires.facts c.requires.node c.requires.found c.number_at.ensures c.deref.ensures.value c.if-number_at-start.false c.index-here.ensures in
    let ns = map (picked c.args.start c.args.found.now) c.index-here.result.now.parts.items in
    let r = step_reads s variant.Bounded c.in-Bounded.is in let p = step_parts s variant.Bounded c.in-Bounded.is refl in
    let g = c.in_ok-n-in-Bounded.ensures.grows in
    value_steps s variant.Bounded c.in-Bounded.is c.in_ok-n-in-Bounded.n c.quantifier_kind-kind.result _ c.requires.frame g refl
    (c.quantifier_kind-kind.ensures ∙ ap (λ y. bounded_kind (map (value_at old) (map (picked c.args.start c.args.found.now) y))) c.deref-in-Bounded.ensures.value ∙ parts_bounded m c.requires.ordered r old c.args.frame.now ns p) c.in_ok-n-in-Bounded.ensures.stored

pub step-returns-in_ok-n-in-Use-clause-steps : goal.step-returns-in_ok-n-in-Use-clause-steps
step-returns-in_ok-n-in-Use-clause-steps t c =
    let m = flat_of c.args.flat.now in let old = c.args.facts.now.arguments.keys in
    let s = step_at c.args.flat.now c.args.facts.now c.args.start c.args.node c.number_at.result c.args.frame.now c.args.found.now c.deref.result.now c.deref-in-Use.result.now c.in_ok-numbers-in-Use.numbers.items c.index-here.result.now c.requires.ordered c.requires.facts c.requires.node c.requires.found c.number_at.ensures c.deref.ensures.value c.if-number_at-start.false c.index-here.ensures c.in_ok-numbers-in-Use.ensures c.deref-in-Use.ensures.value in
    let ns = c.in_ok-numbers-in-Use.numbers.items in
    let r = step_reads s (variant.Use c.in-Use.path c.in-Use.definition) c.in-Use.is in let p = step_parts s (variant.Use c.in-Use.path c.in-Use.definition) c.in-Use.is refl in
    let g = grows_on c.in_ok-kind-in-Use.ensures.grows c.in_ok-n-in-Use.ensures.grows in
    value_steps s (variant.Use c.in-Use.path c.in-Use.definition) c.in-Use.is c.in_ok-n-in-Use.n c.in_ok-kind-in-Use.kind _ c.requires.frame g refl
    (use_found m (path_at c.args.flat.now.paths.items c.in-Use.path) c.in-Use.definition c.args.frame.now ns c.in_ok-kind-in-Use.kind p (c.in_ok-kind-in-Use.ensures.kind ∙ ap (λ y. use_kind_of m (path_at c.args.flat.now.paths.items c.in-Use.path) c.in-Use.definition (meanings m old c.args.frame.now) (meanings m old y)) c.deref-in-Use-2.ensures.value)) c.in_ok-n-in-Use.ensures.stored

pub step-returns-in_ok-n-in-Call-clause-steps : goal.step-returns-in_ok-n-in-Call-clause-steps
step-returns-in_ok-n-in-Call-clause-steps t c =
    let m = flat_of c.args.flat.now in let old = c.args.facts.now.arguments.keys in
    let s = step_at c.args.flat.now c.args.facts.now c.args.start c.args.node c.number_at.result c.args.frame.now c.args.found.now c.deref.result.now c.deref-in-Call.result.now c.in_ok-numbers-in-Call.numbers.items c.index-here.result.now c.requires.ordered c.requires.facts c.requires.node c.requires.found c.number_at.ensures c.deref.ensures.value c.if-number_at-start.false c.index-here.ensures c.in_ok-numbers-in-Call.ensures c.deref-in-Call.ensures.value in
    let ns = c.in_ok-numbers-in-Call.numbers.items in
    let r = step_reads s (variant.Call c.in-Call.place) c.in-Call.is in let p = step_parts s (variant.Call c.in-Call.place) c.in-Call.is refl in
    let g = grows_on c.in_ok-operator-in-Call.ensures.found.grows (grows_on c.in_ok-kind-in-Call.ensures.grows c.in_ok-n-in-Call.ensures.grows) in
    value_steps s (variant.Call c.in-Call.place) c.in-Call.is c.in_ok-n-in-Call.n c.in_ok-kind-in-Call.kind _ c.requires.frame g refl
    (call_kind m c.in-Call.place c.in_ok-operator-in-Call.operator c.args.frame.now ns c.in_ok-kinds-in-Call.kinds.items c.in_ok-kind-in-Call.kind c.requires.frame p p.within c.in_ok-operator-in-Call.ensures.found (c.in_ok-kinds-in-Call.ensures ∙ ap (map (value_at c.operand-in-Call.new.facts.arguments.keys)) c.deref-in-Call-2.ensures.value) c.in_ok-kind-in-Call.ensures.grows (c.in_ok-kind-in-Call.ensures.kind ∙ ap (λ y. kind ((meaning m c.called.new.facts.arguments.keys c.in_ok-operator-in-Call.operator).call (leaves y))) c.deref-in-Call-3.ensures.value)) c.in_ok-n-in-Call.ensures.stored

pub step-returns-in-Some-clause-steps : goal.step-returns-in-Some-clause-steps
step-returns-in-Some-clause-steps t c =
    let m = flat_of c.args.flat.now in let old = c.args.facts.now.arguments.keys in
    let s = step_here c.args.flat.now c.args.facts.now c.args.start c.args.node c.number_at.result c.args.frame.now c.args.found.now c.deref.result.now c.index-here.result.now c.requires.ordered c.requires.facts c.requires.node c.requires.found c.number_at.ensures c.deref.ensures.value c.if-number_at-start.false c.index-here.ensures in
    let ns = map (picked c.args.start c.args.found.now) c.index-here.result.now.parts.items in
    let r = step_reads s variant.Let c.in-Let.is in
    record { grows = grows_not old c.requires.facts.table; found = λ _. let_body m old c.args.start c.args.node c.args.frame.now c.args.found.now c.requires.found c.requires.ordered c.index-here.result.now.parts.items c.in-Some.inner.now c.picked.result r (c.in-Some.ensures.value ∙ ap (λ y. slice_get y 0) c.deref-in-Let.ensures.value) c.picked.ensures s.later }

pub step-returns-in_ok-n-in-None-clause-steps : goal.step-returns-in_ok-n-in-None-clause-steps
step-returns-in_ok-n-in-None-clause-steps t c =
    let m = flat_of c.args.flat.now in let old = c.args.facts.now.arguments.keys in
    let s = step_here c.args.flat.now c.args.facts.now c.args.start c.args.node c.number_at.result c.args.frame.now c.args.found.now c.deref.result.now c.index-here.result.now c.requires.ordered c.requires.facts c.requires.node c.requires.found c.number_at.ensures c.deref.ensures.value c.if-number_at-start.false c.index-here.ensures in
    let ns = map (picked c.args.start c.args.found.now) c.index-here.result.now.parts.items in
    let none = let_missing m c.index-here.result.now.parts.items (meanings m old c.args.frame.now) (c.in-None.ensures.value ∙ ap (λ y. slice_get y 0) c.deref-in-Let.ensures.value) in
    value_steps s variant.Let c.in-Let.is c.in_ok-n-in-None.n None (Given None) c.requires.frame c.in_ok-n-in-None.ensures.grows none refl c.in_ok-n-in-None.ensures.stored

pub step-returns-in_ok-n-in-Name-2-clause-steps : goal.step-returns-in_ok-n-in-Name-2-clause-steps
step-returns-in_ok-n-in-Name-2-clause-steps t c =
    let m = flat_of c.args.flat.now in let old = c.args.facts.now.arguments.keys in
    let s = step_at c.args.flat.now c.args.facts.now c.args.start c.args.node c.number_at.result c.args.frame.now c.args.found.now c.deref.result.now c.deref-in-Name.result.now c.in_ok-numbers-in-Name.numbers.items c.index-here.result.now c.requires.ordered c.requires.facts c.requires.node c.requires.found c.number_at.ensures c.deref.ensures.value c.if-number_at-start.false c.index-here.ensures c.in_ok-numbers-in-Name.ensures c.deref-in-Name.ensures.value in
    let ns = c.in_ok-numbers-in-Name.numbers.items in
    let f = variant.Name c.in-Name.path c.in-Name.definition in let path = path_at c.args.flat.now.paths.items c.in-Name.path in
    let r = step_reads s f c.in-Name.is in let p = step_parts s f c.in-Name.is refl in
    let h = subst (λ y. ReachesPath m old c.reach.new.facts.arguments.keys c.args.node path c.args.frame.now y c.in_ok-reached-in-Name.reached) c.deref-in-Name-2.ensures.value c.in_ok-reached-in-Name.ensures.reaches in
    let o = subst (λ y. IsClosure m c.reach.new.facts.arguments.keys c.closure.new.facts.arguments.keys c.in-Name.definition y c.in_ok-n-in-Name-2.n) c.deref-in-Name-3.ensures.value c.in_ok-n-in-Name-2.ensures.found in
    record { grows = grows_on h.grows o.grows; found = λ _. name_met m c.requires.ordered path c.in-Name.definition r c.args.frame.now ns c.in_ok-reached-in-Name.reached c.requires.frame p h c.in_ok-n-in-Name-2.n c.if-not-reached.false o }
