use Rattle.std.proofs.Common.{◌≡◌, ℕ, ◌+◌, ◌-◌, ◌∙◌, ap, arith, drop, subst}
use Rattle.module_leads.specs.Layers.{symbol_among, symbol_end}
use Rattle.module_leads.proofs.Keyed.{symbols-more}
use Rattle.module_leads.proofs.layer.symbols_at.Goals as goal

pub loop-index-preserved : goal.loop-index-preserved
loop-index-preserved c =
    let next : c.loop-index.index ≡ (c.loop-index.index - 1) + 1 = omega arith in
    record {
      within = omega arith;
      known = symbols-more c.loop-index.symbols c.put_symbol.new.symbols c.args.own.now c.args.place (c.loop-index.index - 1) c.index-own-index.result c.in_ok-put_symbol.ensures (omega arith) c.index-own-index.is
          (λ other. subst (λ (n : ℕ). symbol_end c.loop-index.symbols other ≡ symbol_among (drop n c.args.own.now) (c.args.place + n) other) next (c.loop-index.invariant.known other));
    }

pub returns : goal.returns
returns c =
    let done : c.loop-index.index ≡ 0 = omega arith in
    let first : c.args.place + 0 ≡ c.args.place = omega arith in
    λ other. c.loop-index.invariant.known other ∙ ap (λ (n : ℕ). symbol_among (drop n c.args.own.now) (c.args.place + n) other) done
    ∙ ap (λ (p : ℕ). symbol_among c.args.own.now p other) first
