-- REQUESTS THAT POST COMMANDS: one for each body, and what it asks.
use Rattle.std.specs.Prelude.{◌≤◌, ℕ, List, [], ◌∷◌, ◌++◌, codes, decimal, length}
use Rattle.httparse.specs.Grammar.{RequestHead, crlf, print_request}
use Rattle.clr_text.specs.Reading.{read_command}
use Rattle.clr_http.specs.Asked.{Asks, body_asks}

-- the head of a request that posts a body of n bytes
abbrev pub post_head : ℕ → RequestHead
post_head n = record {
  blank = [];
  method = codes "POST";
  target = codes "/command";
  minor = 1;
  line_end = crlf;
  fields = record { name = codes "Content-Length"; raw = 32 ∷ decimal n; end = crlf } ∷ [];
  last = crlf;
}

-- the request that posts a body
abbrev pub posted : List ℕ → List ℕ
posted body = print_request (post_head (length body)) ++ body

-- A BODY THAT IS POSTED asks the command that it reads as
abbrev pub PostedBodiesAsk : Type 0
PostedBodiesAsk = (body : List ℕ) → length body ≤ 65536
    → Asks (posted body) (body_asks (read_command body))
