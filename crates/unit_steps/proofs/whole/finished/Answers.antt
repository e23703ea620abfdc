use Rattle.std.proofs.lemmas.Result.{IfOk-weaker}
use Rattle.unit_steps.proofs.Concluding.{finished-constants, finished-definition, finished-instance, finished-assumption, finished-theorem}
use Rattle.unit_steps.proofs.whole.finished.Goals as goal

pub returns-in-Constants-clause-moves : goal.returns-in-Constants-clause-moves
returns-in-Constants-clause-moves c =
    IfOk-weaker c.declare.result _ _
    (λ moved h d us b x spelled part r g n p. finished-constants _ c.args.begun _ b x d us c.args.lexeme moved c.in-Constants.is g (λ xs a. h _ d us xs x spelled part r a n p))
    c.declare.ensures.moves

pub returns-in-Definition-clause-moves : goal.returns-in-Definition-clause-moves
returns-in-Definition-clause-moves c =
    IfOk-weaker c.after_unit.result _ _
    (λ moved h d us b x spelled part r g n p. finished-definition _ c.args.begun _ b c.args.node _ part x spelled d us c.args.lexeme moved c.in-Definition.is g n p c.defined.ensures (λ u a. h _ d us u r a))
    c.after_unit.ensures.moves

pub returns-in-Instance-clause-moves : goal.returns-in-Instance-clause-moves
returns-in-Instance-clause-moves c =
    IfOk-weaker c.after_unit-in-Instance.result _ _
    (λ moved h d us b x spelled part r g n p. finished-instance _ c.args.begun _ b c.args.node part x spelled d us c.args.lexeme moved c.in-Instance.is g n p (λ u a. h _ d us u r a))
    c.after_unit-in-Instance.ensures.moves

pub returns-in-Assumption-clause-moves : goal.returns-in-Assumption-clause-moves
returns-in-Assumption-clause-moves c =
    IfOk-weaker c.after_unit-in-Assumption.result _ _
    (λ moved h d us b x spelled part r g n p. finished-assumption _ c.args.begun _ b c.args.node part x spelled d us c.args.lexeme moved c.in-Assumption.is g n p (λ u a. h _ d us u r a))
    c.after_unit-in-Assumption.ensures.moves

pub returns-in-Theorem-clause-moves : goal.returns-in-Theorem-clause-moves
returns-in-Theorem-clause-moves c =
    IfOk-weaker c.after_unit-in-Theorem.result _ _
    (λ moved h d us b x spelled part r g n p. finished-theorem _ c.args.begun _ b c.args.node part x spelled d us c.args.lexeme moved c.in-Theorem.is g n p (λ u a. h _ d us u r a))
    c.after_unit-in-Theorem.ensures.moves
