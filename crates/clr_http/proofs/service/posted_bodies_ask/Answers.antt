use Rattle.clr_http.proofs.Posts.{posted_bodies_ask}
use Rattle.clr_http.proofs.service.posted_bodies_ask.Goals as goal

pub returns : goal.returns
returns c = posted_bodies_ask
