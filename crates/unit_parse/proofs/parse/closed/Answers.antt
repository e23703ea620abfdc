use Rattle.std.proofs.lemmas.Result.{IfOk-weaker}
use Rattle.unit_parse.proofs.Parsing.{closed-units, closed-whole}
use Rattle.unit_parse.proofs.parse.closed.Goals as goal

pub returns-clause-ok : goal.returns-clause-ok
returns-clause-ok c =
    IfOk-weaker c.module_of.result _ _
    (λ parsed h st found i e. h st.units found (closed-units _ _ c.in-At.point c.in-Stands.reached c.in-Stands.field-1 c.in-Stands.field-2 st c.in-At.is c.in-Stands.is i) (closed-whole st.focus st.units found e))
    c.module_of.ensures.ok
