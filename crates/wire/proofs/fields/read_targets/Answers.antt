use Rattle.std.proofs.Common.{◌<◌, ◌∙◌, ◌≡◌, None, arith, length, length-set, refl, take}
use Rattle.base.proofs.Exports.{err_from_is_err_and, take_more_set}
use Rattle.base.specs.Exports.{IfRefused}
use Rattle.wire.specs.Exports.{wire_read_items, switch, wire_target_count, targets}
use Rattle.wire.proofs.WireItemLoops.{goes_on, stops, is_done}
use Rattle.wire.proofs.fields.read_targets.Goals as goal

pub returns-in_err-switches : goal.returns-in_err-switches
unfolding targets wire_target_count
returns-in_err-switches c =
    let p = err_from_is_err_and c.from_residual-in_err-switches.result c.from_residual-in_err-switches.ensures.1 in
    let read = wire_read_items switch c.in_ok-count.count c.read_byte_count.new.reader in
    let refused : IfRefused (λ _. read ≡ None) c.in_err-switches.field-0.0 =
    stops switch (take c.loop-place.place c.loop-place.switches) c.in_ok-count.count c.loop-place.place c.loop-place.reader
    read c.in_err-switches.field-0.0 c.loop-place-test.true c.in_err-switches.ensures c.loop-place.invariant.so_far in
    rw (p.1, p.2, c.in_ok-count.ensures.read) refused

pub loop-place-preserved : goal.loop-place-preserved
loop-place-preserved c =
    let switches = c.loop-place.switches in
    let place = c.loop-place.place in
    let below : place < length switches = omega arith in record {
      few = c.loop-place.invariant.few;
      long = length-set switches place c.in_ok-switches.field-0 ∙ c.loop-place.invariant.long;
      so_far = rw (take_more_set switches place c.in_ok-switches.field-0 below)
          (goes_on switch (take place switches) c.in_ok-count.count place c.loop-place.reader
          c.in_ok-switches.field-0 c.read_wire_switch.new.reader
          (wire_read_items switch c.in_ok-count.count c.read_byte_count.new.reader)
          c.loop-place-test.true c.in_ok-switches.ensures c.loop-place.invariant.so_far);
    }

pub returns-in-Some : goal.returns-in-Some
unfolding targets wire_target_count
returns-in-Some c =
    let switches = c.loop-place.switches in
    let count = c.in_ok-count.count in
    let read = wire_read_items switch count c.read_byte_count.new.reader in
    let all : c.loop-place.place ≡ count = omega arith in
    let done = is_done switch (take c.loop-place.place switches) count c.loop-place.place c.loop-place.reader
    read c.loop-place-test.false c.loop-place.invariant.so_far in
    rw (c.in_ok-count.ensures.read, done, all, c.in-Some.ensures.list) refl
