-- A request for the board, answered from the register of JONES/1: what goes out.
use Rattle.std.proofs.Common.{arith, ◌≡◌, ◌∙◌, ℕ, [], ap, inl, inr, refl, subst, List, Option, Some, Result, Ok, Err}
use Rattle.std.proofs.lemmas.List.Sums.{AllPass-from_list_all}
use Rattle.std.proofs.lemmas.Str.{IsUtf8-from_is_utf8}
use Rattle.std.specs.Char.{encode_utf8}
use Rattle.std.specs.Io.KnownBytes.{Appends}
use Rattle.std.specs.Str.{chars, is_utf8}
use Rattle.std.specs.Prelude.{codes, pos}
use Rattle.httparse.specs.Grammar.{IsRequestHead, RequestHead, crlf, is_token_byte, is_uri_byte, print_request}
use Rattle.matchit.proofs.OnLiterals.{matchit_on_literals}
use Rattle.clr_stream.specs.Failures.{Rose}
use Rattle.clr_stream.specs.Streams.{Stream}
use Rattle.clr_rules.specs.Register.{Register}
use Rattle.clr_print.specs.Printed.{board_text}
use Rattle.clr_http.specs.Head.{BeginsWith}
use Rattle.clr_http.specs.Registrar.{Keeper}
use Rattle.clr_http.specs.Respond.{Outcome, respond_to}
use Rattle.clr_http.specs.Response.{printed, response_bytes}
use Rattle.clr_http.specs.Served.{IsServed}
use Rattle.clr_http.specs.Target.{the_routes}
use Rattle.clr_http.specs.declared.serve.HttpFault.{HttpFault}
use Rattle.clr_http.specs.declared.serve.Served.{Served}
use Rattle.clr_http.specs.declared.serve.Served.TheVariants.{Answered, Nothing}
use Rattle.clr_commands.specs.Connections.{ReportsConnection}
use Rattle.clr_known.specs.Known.{IsBoardResponse, board_request, fresh, jones_register}

abbrev pub board_head : RequestHead
board_head = record {
  blank = [];
  method = codes "GET";
  target = codes "/board";
  minor = 1;
  line_end = crlf;
  fields = [];
  last = crlf;
}

is_head : IsRequestHead board_head
unfolding is_token_byte is_utf8 chars encode_utf8
is_head = record {
  method = (omega arith, AllPass-from_list_all is_token_byte (codes "GET") refl);
  target = (omega arith, AllPass-from_list_all is_uri_byte (codes "/board") refl);
  target_text = IsUtf8-from_is_utf8 (codes "/board") refl;
  minor = omega arith;
  fields = λ k d less. absurd (omega (arith, less));
}

pub begins : BeginsWith board_request board_head []
unfolding print_request
begins = record { reads = (is_head, refl); bytes = omega arith; fields = omega arith }

-- it is answered by the board
board_read : (R : Register) → Outcome.response (respond_to R board_head []) ≡ printed (board_text R (pos 0))
unfolding matchit_on_literals the_routes
board_read R = refl

responds_board : (R : Register) → R ≡ jones_register
    → Outcome.response (respond_to R board_head []) ≡ printed (board_text jones_register (pos 0))
responds_board R is = board_read R ∙ ap (λ (S : Register). printed (board_text S (pos 0))) is

has_not_risen : Rose 0 0 → ⊥
has_not_risen (inl less) = omega (arith, less)
has_not_risen (inr most) = omega (arith, most)

-- a fault is reported, so errors do not stay as they began
is_reported : (fault : HttpFault) → ReportsConnection 1 (Err fault) fresh fresh → ⊥
is_reported fault (inl whole) = cc whole.1
is_reported fault (inr (front, inl rose)) = has_not_risen rose
is_reported fault (inr (front, inr stalled)) = has_not_risen stalled.1

-- WHAT GOES OUT of a connection over which the board is asked for, and of which no fault is reported
pub board_sent : (k k' : Keeper) (before after : Stream) (served : Result Served HttpFault) (sent : List ℕ)
    → k.register ≡ jones_register → before.contents ≡ Some [] → after.contents ≡ Some sent
    → IsServed (respond_to k.register board_head []) k k' before after served
    → ReportsConnection 1 served fresh fresh → IsBoardResponse sent
board_sent k k' before after (Ok Nothing) sent register none all is reports = absurd (is.some refl)
board_sent k k' before after (Ok (Answered status)) sent register none all is reports =
    let (c, turn, status_is, wrote) = is.written in
    let known : Appends (Some []) after.contents (response_bytes c) =
    subst (λ (o : Option (List ℕ)). Appends o after.contents (response_bytes c)) none wrote.contents in
    let grown : Appends (Some []) (Some sent) (response_bytes c) =
    subst (λ (o : Option (List ℕ)). Appends (Some []) o (response_bytes c)) all known in
    elim turn as (λ _. IsBoardResponse sent) [
      | inl told ↦ inl (grown ∙ ap response_bytes (told.0 ∙ responds_board k.register register))
      | inr refused ↦ inr (grown ∙ ap response_bytes refused.0)
    ]
board_sent k k' before after (Err fault) sent register none all is reports = absurd (is_reported fault reports)
