use Rattle.module_leads.proofs.Ended.{one-alone}
use Rattle.module_leads.proofs.leads.is_outermost.Goals as goal

pub returns-in-len1 : goal.returns-in-len1
returns-in-len1 c = λ yes. record {
  outer = c.outer-item.result;
  alone = one-alone c.args.round.now c.outer-item.result c.in-len1.len_at_least c.in-len1.len_below c.outer-item.is;
  silent = c.is_silent.ensures yes;
}
