use Rattle.clr_commands.proofs.serve.answered.Goals as goal

pub returns-clause-served : goal.returns-clause-served
returns-clause-served g c = (
  (
    c.serve_request-served.result,
    c.serve_request-served.ensures.answered,
    c.serve_request-served.ensures.put,
    c.report_connection.ensures,
  ),
  c.may_be_unread.ensures,
)
