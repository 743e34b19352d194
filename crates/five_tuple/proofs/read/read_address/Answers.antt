use Rattle.std.proofs.Common.{◌∙◌, Option, Some, ap, rules, sym, ℕ}
use Rattle.five_tuple.specs.Exports.{address_from_bytes}
use Rattle.five_tuple.proofs.HeaderDottedParts.{four_parts, lacks_first, lacks_second, lacks_third}
use Rattle.five_tuple.proofs.read.read_address.Goals as goal

pub returns-in_err-first : goal.returns-in_err-first
returns-in_err-first c = rw c.from_residual.ensures
    (lacks_first c.args.text.now c.in_err-first.ensures)

pub returns-in_err-second : goal.returns-in_err-second
returns-in_err-second c = rw c.from_residual-in_err-second.ensures (lacks_second c.args.text.now
    c.in_ok-first.rest.now c.in_ok-first.first c.in_ok-first.ensures c.in_err-second.ensures)

pub returns-in_err-third : goal.returns-in_err-third
returns-in_err-third c = rw c.from_residual-in_err-third.ensures
    (lacks_third c.args.text.now c.in_ok-first.rest.now c.in_ok-second.rest.now c.in_ok-first.first
    c.in_ok-second.second c.in_ok-first.ensures c.in_ok-second.ensures c.in_err-third.ensures)

pub returns-in_err-fourth : goal.returns-in_err-fourth
returns-in_err-fourth c =
    let read = four_parts c.args.text.now c.in_ok-first.rest.now c.in_ok-second.rest.now
    c.in_ok-third.rest.now c.in_ok-first.first c.in_ok-second.second c.in_ok-third.third
    c.in_ok-first.ensures c.in_ok-second.ensures c.in_ok-third.ensures in
    rw c.from_residual-in_err-fourth.ensures (sym (read
    ∙ ap (λ (n : Option ℕ). address_from_bytes (Some c.in_ok-first.first) (Some c.in_ok-second.second)
    (Some c.in_ok-third.third) n) (sym c.in_err-fourth.ensures)))

pub returns : goal.returns
returns c =
    let read = four_parts c.args.text.now c.in_ok-first.rest.now c.in_ok-second.rest.now
    c.in_ok-third.rest.now c.in_ok-first.first c.in_ok-second.second c.in_ok-third.third
    c.in_ok-first.ensures c.in_ok-second.ensures c.in_ok-third.ensures
    ∙ ap (λ (n : Option ℕ). address_from_bytes (Some c.in_ok-first.first) (Some c.in_ok-second.second)
    (Some c.in_ok-third.third) n) (sym c.in_ok-fourth.ensures) in
    search rules
