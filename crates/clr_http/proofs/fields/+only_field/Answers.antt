use Rattle.std.proofs.Common.{◌≡◌, ◌∙◌, sym, refl, ap, true, false, get_or, map, Some}
use Rattle.std.specs.List.{list_any}
use Rattle.httparse.specs.Spans.{header_bytes}
use Rattle.httparse.specs.declared.spans.HeaderSpan.{HeaderSpan}
use Rattle.clr_http.specs.Fields.{is_called}
use Rattle.clr_http.proofs.Lengths.{rest_of, value_by_front}
use Rattle.clr_http.proofs.fields.+only_field.Goals as goal

abbrev none : HeaderSpan
none = record { name = record { start = 0; end = 0 }; value = record { start = 0; end = 0 } }

pub returns-then-has_field : goal.returns-then-has_field
returns-then-has_field t c =
    let test = is_called c.args.name.now in
    let field = header_bytes c.args.buffer.now in
    let e = value_by_front test field c.args.headers.now none c.in-len1-up.len_at_least in
    let called : test (field (get_or c.args.headers.now 0 none)) ≡ true = sym c.is_called.ensures ∙ c.if-not-is_called.false in
    let more : list_any test (map field (rest_of c.args.headers.now)) ≡ true = sym c.has_field.ensures ∙ c.if-has_field.true in
    sym (e ∙ rw (called, more) refl)

pub returns-else-has_field : goal.returns-else-has_field
returns-else-has_field t c =
    let test = is_called c.args.name.now in
    let field = header_bytes c.args.buffer.now in
    let e = value_by_front test field c.args.headers.now none c.in-len1-up.len_at_least in
    let called : test (field (get_or c.args.headers.now 0 none)) ≡ true = sym c.is_called.ensures ∙ c.if-not-is_called.false in
    let more : list_any test (map field (rest_of c.args.headers.now)) ≡ false = sym c.has_field.ensures ∙ c.if-has_field.false in
    sym (e ∙ rw (called, more) (sym (ap Some c.of.ensures)))
