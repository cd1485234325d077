use Rattle.std.proofs.Common.{◌∙◌, sym, subst, refl, IsAscii}
use Rattle.clr_http.proofs.Parts.{all_text, ascii_from_test}
use Rattle.clr_http.proofs.target.part.Goals as goal

pub returns-in-Some : goal.returns-in-Some
returns-in-Some c =
    let ascii = sym c.is_ascii.ensures ∙ c.if-not-is_ascii.false in
    let path = subst IsAscii (sym c.requires.path) (ascii_from_test c.args.target.now ascii) in
    let found = c.in-Some.ensures (all_text _ _ _ c.args.params.now.names.now 0 0 c.requires.text path) in
    rw (ascii, sym c.requires.path, found) refl

pub returns-in-None : goal.returns-in-None
returns-in-None c =
    let ascii = sym c.is_ascii.ensures ∙ c.if-not-is_ascii.false in
    let path = subst IsAscii (sym c.requires.path) (ascii_from_test c.args.target.now ascii) in
    let found = c.in-None.ensures (all_text _ _ _ c.args.params.now.names.now 0 0 c.requires.text path) in
    rw (ascii, sym c.requires.path, found) refl
