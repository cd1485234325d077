use Rattle.clr_http.proofs.response.with_body.Goals as goal

pub returns : goal.returns
returns c = rw (c.as_u16.ensures.value, c.phrase_of.ensures) at c.text_of.ensures
