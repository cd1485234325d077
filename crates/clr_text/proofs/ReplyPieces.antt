-- The JSON of a reply is the pieces that are written one after another, onto a text.
use Rattle.std.specs.Prelude.{codes}
use Rattle.std.proofs.Common.{◌≡◌, ◌∙◌, ℕ, List, ◌++◌, append_assoc, decimal}
use Rattle.json.specs.Print.{escape_byte, quoted}
use Rattle.serde_json.specs.Data.{member, no_members, object, string}
use Rattle.serde_json.specs.Written.{compact_text}
use Rattle.clr_rules.specs.Id.{Id, id_text}
use Rattle.clr_text.specs.Json.{id_data, name_data, whole_data}

three : (o p q r : List ℕ) → ((o ++ p) ++ q) ++ r ≡ o ++ (p ++ (q ++ r))
three o p q r = append_assoc (o ++ p) q r ∙ append_assoc o p (q ++ r)

four : (o p q r s : List ℕ) → (((o ++ p) ++ q) ++ r) ++ s ≡ o ++ (p ++ (q ++ (r ++ s)))
four o p q r s = append_assoc ((o ++ p) ++ q) r s ∙ three o p q (r ++ s)

five : (o p q r s t : List ℕ)
    → ((((o ++ p) ++ q) ++ r) ++ s) ++ t ≡ o ++ (p ++ (q ++ (r ++ (s ++ t))))
five o p q r s t = append_assoc (((o ++ p) ++ q) ++ r) s t ∙ four o p q r (s ++ t)

six : (o p q r s t u : List ℕ)
    → (((((o ++ p) ++ q) ++ r) ++ s) ++ t) ++ u ≡ o ++ (p ++ (q ++ (r ++ (s ++ (t ++ u)))))
six o p q r s t u = append_assoc ((((o ++ p) ++ q) ++ r) ++ s) t u ∙ five o p q r s (t ++ u)

seven : (o p q r s t u v : List ℕ)
    → ((((((o ++ p) ++ q) ++ r) ++ s) ++ t) ++ u) ++ v
    ≡ o ++ (p ++ (q ++ (r ++ (s ++ (t ++ (u ++ v))))))
seven o p q r s t u v =
    append_assoc (((((o ++ p) ++ q) ++ r) ++ s) ++ t) u v ∙ six o p q r s t (u ++ v)

pub added_pieces : (o point : List ℕ)
    → (o ++ (codes "{\"point\":" ++ quoted point)) ++ codes ",\"reply\":\"added\"}"
    ≡ o ++ compact_text (object (member (codes "point") (name_data point)
    (member (codes "reply") (string (codes "added")) no_members)))
unfolding escape_byte
added_pieces o point =
    append_assoc o (codes "{\"point\":" ++ quoted point) (codes ",\"reply\":\"added\"}")

pub bare_pieces : (o : List ℕ) (n : ℕ) (name : List ℕ)
    → ((o ++ (codes "{\"number\":" ++ decimal n)) ++ (codes ",\"refusal\":" ++ quoted name))
    ++ codes ",\"reply\":\"refused\"}"
    ≡ o ++ compact_text (object (member (codes "number") (whole_data n)
    (member (codes "refusal") (string name)
    (member (codes "reply") (string (codes "refused")) no_members))))
unfolding escape_byte
bare_pieces o n name =
    three o (codes "{\"number\":" ++ decimal n) (codes ",\"refusal\":" ++ quoted name)
    (codes ",\"reply\":\"refused\"}")

pub section_pieces : (o : List ℕ) (n : ℕ) (name section : List ℕ)
    → (((o ++ (codes "{\"number\":" ++ decimal n)) ++ (codes ",\"refusal\":" ++ quoted name))
    ++ (codes ",\"reply\":\"refused\",\"section\":" ++ quoted section)) ++ codes "}"
    ≡ o ++ compact_text (object (member (codes "number") (whole_data n)
    (member (codes "refusal") (string name) (member (codes "reply") (string (codes "refused"))
    (member (codes "section") (name_data section) no_members)))))
unfolding escape_byte
section_pieces o n name section =
    four o (codes "{\"number\":" ++ decimal n) (codes ",\"refusal\":" ++ quoted name)
    (codes ",\"reply\":\"refused\",\"section\":" ++ quoted section) (codes "}")

pub point_pieces : (o : List ℕ) (n : ℕ) (point name : List ℕ)
    → (((o ++ (codes "{\"number\":" ++ decimal n)) ++ (codes ",\"point\":" ++ quoted point))
    ++ (codes ",\"refusal\":" ++ quoted name)) ++ codes ",\"reply\":\"refused\"}"
    ≡ o ++ compact_text (object (member (codes "number") (whole_data n)
    (member (codes "point") (name_data point) (member (codes "refusal") (string name)
    (member (codes "reply") (string (codes "refused")) no_members)))))
unfolding escape_byte
point_pieces o n point name =
    four o (codes "{\"number\":" ++ decimal n) (codes ",\"point\":" ++ quoted point)
    (codes ",\"refusal\":" ++ quoted name) (codes ",\"reply\":\"refused\"}")

pub clearance_pieces : (o : List ℕ) (by : Id) (n : ℕ) (name : List ℕ)
    → (((o ++ (codes "{\"by\":" ++ quoted (id_text by))) ++ (codes ",\"number\":" ++ decimal n))
    ++ (codes ",\"refusal\":" ++ quoted name)) ++ codes ",\"reply\":\"refused\"}"
    ≡ o ++ compact_text (object (member (codes "by") (id_data by)
    (member (codes "number") (whole_data n) (member (codes "refusal") (string name)
    (member (codes "reply") (string (codes "refused")) no_members)))))
unfolding escape_byte
clearance_pieces o by n name =
    four o (codes "{\"by\":" ++ quoted (id_text by)) (codes ",\"number\":" ++ decimal n)
    (codes ",\"refusal\":" ++ quoted name) (codes ",\"reply\":\"refused\"}")

pub hold_pieces : (o : List ℕ) (by : Id) (kind : List ℕ) (n : ℕ) (name : List ℕ)
    → ((((o ++ (codes "{\"by\":" ++ quoted (id_text by))) ++ (codes ",\"kind\":" ++ quoted kind))
    ++ (codes ",\"number\":" ++ decimal n)) ++ (codes ",\"refusal\":" ++ quoted name))
    ++ codes ",\"reply\":\"refused\"}"
    ≡ o ++ compact_text (object (member (codes "by") (id_data by)
    (member (codes "kind") (string kind) (member (codes "number") (whole_data n)
    (member (codes "refusal") (string name)
    (member (codes "reply") (string (codes "refused")) no_members))))))
unfolding escape_byte
hold_pieces o by kind n name =
    five o (codes "{\"by\":" ++ quoted (id_text by)) (codes ",\"kind\":" ++ quoted kind)
    (codes ",\"number\":" ++ decimal n) (codes ",\"refusal\":" ++ quoted name)
    (codes ",\"reply\":\"refused\"}")

pub card_pieces : (o : List ℕ) (id : Id) (done : ℕ) (holder phase : List ℕ) (round steps : ℕ)
    → ((((((o ++ (codes "{\"clearance\":" ++ quoted (id_text id)))
    ++ (codes ",\"done\":" ++ decimal done)) ++ (codes ",\"holder\":" ++ quoted holder))
    ++ (codes ",\"phase\":" ++ quoted phase)) ++ (codes ",\"round\":" ++ decimal round))
    ++ (codes ",\"steps\":" ++ decimal steps)) ++ codes "}"
    ≡ o ++ compact_text (object (member (codes "clearance") (id_data id)
    (member (codes "done") (whole_data done) (member (codes "holder") (name_data holder)
    (member (codes "phase") (string phase) (member (codes "round") (whole_data round)
    (member (codes "steps") (whole_data steps) no_members)))))))
unfolding escape_byte
card_pieces o id done holder phase round steps =
    seven o (codes "{\"clearance\":" ++ quoted (id_text id)) (codes ",\"done\":" ++ decimal done)
    (codes ",\"holder\":" ++ quoted holder) (codes ",\"phase\":" ++ quoted phase)
    (codes ",\"round\":" ++ decimal round) (codes ",\"steps\":" ++ decimal steps) (codes "}")
