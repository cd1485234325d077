use Rattle.std.specs.Str.{IsUtf8}
use Rattle.clr_staff.proofs.Texts.{login_is_text, ok_unless}
use Rattle.clr_staff.proofs.login.Login.as_str.Goals as goal

pub unwrap-requires : goal.unwrap-requires
unwrap-requires c =
    let text : IsUtf8 c.as_bytes-bytes.result.now = login_is_text _ (rw c.as_bytes-bytes.ensures.bytes c.as_bytes-bytes.ensures.login) in
    ok_unless _ _ _ c.from_utf8.ensures.cases (λ e q. q.0 text)
