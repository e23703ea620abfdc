use Rattle.lsp_serve.proofs.pieces.serve.Goals as goal

pub returns-clause-answers : goal.returns-clause-answers
returns-clause-answers g c = rw (c.status.ensures, c.into_answers.ensures) (rw c.new-session.ensures at c.serve_session-end.ensures.answers)
