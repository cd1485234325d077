-- ONE LINE OF EACH KIND OF COMMAND, as it is written.
use Rattle.std.specs.Prelude.{◌≡◌, ℕ, true, false, List, [], ◌∷◌, ◌++◌, codes, refl}
use Rattle.std.specs.Fmt.{digits}
use Rattle.json.specs.Print.{escape_byte}
use Rattle.clr_order.specs.Step.{Task}
use Rattle.clr_order.specs.declared.action.Action.TheVariants.{Open, Tag}
use Rattle.clr_rules.specs.Id.{Id}
use Rattle.clr_rules.specs.declared.command.Kind.{Kind}
use Rattle.clr_text.specs.CommandText.{command_text}
use Rattle.clr_rules.specs.declared.command.Kind.TheVariants as kind

-- what OPS says at 100
abbrev line : Kind → List ℕ
line k = command_text (record { caller = codes "OPS"; moment = 100; kind = k })

abbrev jones : Id
jones = record { requester = codes "JONES"; number = 1 }

abbrev opens : Task
opens = record { action = Open; point = codes "S2" }

abbrev tags : Task
tags = record { action = Tag; point = codes "S2" }

pub request_line : line (kind.Request (codes "L2"))
    ≡ codes "{\"at\":100,\"by\":\"OPS\",\"do\":\"request\",\"section\":\"L2\"}"
unfolding escape_byte digits
request_line = refl

pub order_line : line (kind.Order jones (codes "S2" ∷ codes "S3" ∷ []) (opens ∷ tags ∷ []))
    ≡ codes "{\"at\":100,\"by\":\"OPS\",\"clearance\":\"JONES/1\",\"do\":\"order\","
    ++ codes "\"points\":[\"S2\",\"S3\"],\"steps\":[\"OPEN S2\",\"TAG S2\"]}"
unfolding escape_byte digits
order_line = refl

pub instruct_line : line (kind.Instruct jones 2)
    ≡ codes "{\"at\":100,\"by\":\"OPS\",\"clearance\":\"JONES/1\",\"do\":\"instruct\","
    ++ codes "\"step\":2}"
unfolding escape_byte digits
instruct_line = refl

pub repeat_line : line (kind.Repeat jones 2 (codes "OPEN \"S2\"\n"))
    ≡ codes "{\"at\":100,\"by\":\"OPS\",\"clearance\":\"JONES/1\",\"do\":\"repeat\","
    ++ codes "\"step\":2,\"text\":\"OPEN \\\"S2\\\"\\n\"}"
unfolding escape_byte digits
repeat_line = refl

pub report_line : line (kind.Report jones 65535 true)
    ≡ codes "{\"at\":100,\"by\":\"OPS\",\"clearance\":\"JONES/1\",\"do\":\"report\","
    ++ codes "\"done\":true,\"step\":65535}"
unfolding escape_byte digits
report_line = refl

pub grant_line : line (kind.Grant jones)
    ≡ codes "{\"at\":100,\"by\":\"OPS\",\"clearance\":\"JONES/1\",\"do\":\"grant\"}"
unfolding escape_byte digits
grant_line = refl

pub test_line : line (kind.Test jones (codes "L2") true)
    ≡ codes "{\"at\":100,\"by\":\"OPS\",\"clearance\":\"JONES/1\",\"dead\":true,"
    ++ codes "\"do\":\"test\",\"section\":\"L2\"}"
unfolding escape_byte digits
test_line = refl

pub ground_section_line : line (kind.Ground jones (codes "L2"))
    ≡ codes "{\"at\":100,\"by\":\"OPS\",\"clearance\":\"JONES/1\",\"do\":\"ground\","
    ++ codes "\"section\":\"L2\"}"
unfolding escape_byte digits
ground_section_line = refl

pub unground_line : line (kind.Unground jones (codes "L2"))
    ≡ codes "{\"at\":100,\"by\":\"OPS\",\"clearance\":\"JONES/1\",\"do\":\"unground\","
    ++ codes "\"section\":\"L2\"}"
unfolding escape_byte digits
unground_line = refl

pub sign_on_line : line (kind.SignOn jones (codes "C1"))
    ≡ codes "{\"at\":100,\"by\":\"OPS\",\"clearance\":\"JONES/1\",\"crew\":\"C1\","
    ++ codes "\"do\":\"sign_on\"}"
unfolding escape_byte digits
sign_on_line = refl

pub sign_off_line : line (kind.SignOff jones (codes "C1"))
    ≡ codes "{\"at\":100,\"by\":\"OPS\",\"clearance\":\"JONES/1\",\"crew\":\"C1\","
    ++ codes "\"do\":\"sign_off\"}"
unfolding escape_byte digits
sign_off_line = refl

pub transfer_line : line (kind.Transfer jones (codes "KIM") false)
    ≡ codes "{\"at\":100,\"by\":\"OPS\",\"clearance\":\"JONES/1\",\"do\":\"transfer\","
    ++ codes "\"emergency\":false,\"to\":\"KIM\"}"
unfolding escape_byte digits
transfer_line = refl

pub release_line : line (kind.Release jones true false)
    ≡ codes "{\"at\":100,\"by\":\"OPS\",\"clear\":false,\"clearance\":\"JONES/1\","
    ++ codes "\"do\":\"release\",\"notified\":true}"
unfolding escape_byte digits
release_line = refl

pub cancel_line : line (kind.Cancel jones)
    ≡ codes "{\"at\":100,\"by\":\"OPS\",\"clearance\":\"JONES/1\",\"do\":\"cancel\"}"
unfolding escape_byte digits
cancel_line = refl

pub restore_line : line (kind.Restore jones [])
    ≡ codes "{\"at\":100,\"by\":\"OPS\",\"clearance\":\"JONES/1\",\"do\":\"restore\","
    ++ codes "\"steps\":[]}"
unfolding escape_byte digits
restore_line = refl

pub amend_line : line (kind.Amend jones 2)
    ≡ codes "{\"at\":100,\"by\":\"OPS\",\"clearance\":\"JONES/1\",\"do\":\"amend\","
    ++ codes "\"step\":2}"
unfolding escape_byte digits
amend_line = refl

pub switch_line : line (kind.Switch (opens ∷ []))
    ≡ codes "{\"at\":100,\"by\":\"OPS\",\"do\":\"switch\",\"steps\":[\"OPEN S2\"]}"
unfolding escape_byte digits
switch_line = refl

pub show_line : line (kind.Show jones)
    ≡ codes "{\"by\":\"OPS\",\"clearance\":\"JONES/1\",\"do\":\"show\"}"
unfolding escape_byte digits
show_line = refl

pub jumper_line : line (kind.Jumper (codes "J1") (codes "L2") (codes "L3") true false)
    ≡ codes "{\"by\":\"OPS\",\"do\":\"jumper\",\"from\":\"L2\",\"lockable\":true,"
    ++ codes "\"point\":\"J1\",\"remote\":false,\"to\":\"L3\"}"
unfolding escape_byte digits
jumper_line = refl
