use Rattle.std.proofs.Common.{◌≡◌, ◌≤◌, ◌<◌, ◌+◌, ◌-◌, ◌∙◌, sym, ap, subst, arith, rules, length, take, drop, vec_len, Some, IfOk}
use Rattle.clr_http.specs.Request.{asks, reading}
use Rattle.clr_http.specs.declared.target.Target.TheVariants.{Command}
use Rattle.clr_http.proofs.Requests.{body_short, body_whole}
use Rattle.clr_http.proofs.request.command_behind.Goals as goal

pub returns-in-Ok-false-clause-reading : goal.returns-in-Ok-false-clause-reading
returns-in-Ok-false-clause-reading g c input e =
    let len : vec_len c.fill_to.new.buffer ≡ length c.fill_to.new.buffer.items = c.fill_to.new.buffer.ok.0 in
    let short = c.in-Ok-false.ensures.short (search rules) in
    let lt : length c.fill_to.new.buffer.items < c.args.start + c.args.size = omega (arith, len, short.0) in
    let from : c.args.start ≤ length c.fill_to.new.buffer.items = omega (arith, len, c.requires.start.0, c.fill_to.ensures.grown) in
    let cut = body_short input _ _ c.args.start c.args.size (c.fill_to.ensures.taken (Some input) e) short.1 from lt in
    subst (λ x. IfOk c.refused.result (λ r. reading r ≡ x)) (sym cut) c.refused.ensures.reading

pub returns-in-Ok-clause-reading : goal.returns-in-Ok-clause-reading
returns-in-Ok-clause-reading g c input e =
    let len : vec_len c.fill_to.new.buffer ≡ length c.fill_to.new.buffer.items = c.fill_to.new.buffer.ok.0 in
    let whole : c.args.start + c.args.size ≤ length c.fill_to.new.buffer.items = omega (arith, len, c.in-Ok-true.ensures.whole (search rules)) in
    let size : (c.args.start + c.args.size) - c.args.start ≡ c.args.size = omega arith in
    let body : c.in-Ok.body.items ≡ take c.args.size (drop c.args.start c.fill_to.new.buffer.items) = search (size, rules) in
    ap (asks Command) body ∙ sym (body_whole input _ _ c.args.start c.args.size (c.fill_to.ensures.taken (Some input) e) whole)
