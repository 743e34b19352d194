use Rattle.std.proofs.Common.{◌||◌, ◌∙◌, ap, filter_map, nat_eq, sym}
use Rattle.base.proofs.Exports.{list_any, or-false}
use Rattle.net_file.specs.Exports.{toml_port_read}
use Rattle.net_file.proofs.NetFilePortMasks.{in_mask, mask_of_is}
use Rattle.net_file.proofs.NetFileFreshPorts.{any_next, are_fresh, are_new_is, fresh_next, fresh_stop, ports_less, ports_more}
use Rattle.net_file.proofs.NetFileValueItems.{values_end, values_more}
use Rattle.net_file.proofs.switches.new_net_ports.Goals as goal
use Rattle.net_file.proofs.switches.new_net_ports.Goals.{in-Some+else-has, in_default}

pub returns-then-has-clause-new : goal.returns-then-has-clause-new
returns-then-has-clause-new c =
    let left = values_more c.args.values.now c.loop-value.value-index c.value-item.result
    c.loop-value-test.true c.value-item.is in
    sym (are_new_is c.args.taken c.args.earlier.now _ c.requires ∙ c.loop-value.invariant.fresh
    ∙ ap (are_fresh c.loop-value.seen) (ports_more _ _ _ c.in-Some.port left c.in-Some.ensures.port)
    ∙ fresh_stop c.loop-value.seen c.in-Some.port _ (sym c.has.ensures.bit ∙ c.if-has.true))

pub returns-clause-new : goal.returns-clause-new
returns-clause-new c = let inv = c.loop-value.invariant in
    sym (are_new_is c.args.taken c.args.earlier.now _ c.requires ∙ inv.fresh
    ∙ ap (λ ds. are_fresh c.loop-value.seen (filter_map toml_port_read ds))
    (values_end c.args.values.now c.loop-value.value-index c.loop-value-test.false))

pub returns-clause-mask : goal.returns-clause-mask
returns-clause-mask c =
    let inv = c.loop-value.invariant in
    let ended = values_end c.args.values.now c.loop-value.value-index c.loop-value-test.false in
    mask_of_is c.loop-value.ports _ inv.small
    (λ k. sym (inv.ports k ∙ ap (λ ds. in_mask c.loop-value.ports k || list_any (nat_eq k)
    (filter_map toml_port_read ds)) ended ∙ or-false (in_mask c.loop-value.ports k)))

pub loop-value-preserved : goal.loop-value-preserved
loop-value-preserved c =
    let inv = c.loop-value.invariant in
    let left = values_more c.args.values.now c.loop-value.value-index c.value-item.result
    c.loop-value-test.true c.value-item.is in
    elim c.match-toml_port_of.branch [
      | in-Some+else-has w ↦
          let more = ports_more _ _ _ w.in-Some.port left w.in-Some.ensures.port in record {
            fresh = rw (w.seen-is, w.with-seen.ensures.bits)
                (inv.fresh ∙ ap (are_fresh c.loop-value.seen) more ∙ fresh_next c.loop-value.seen
                w.in-Some.port _ (sym w.has.ensures.bit ∙ w.if-has.false));
            small = rw w.ports-is w.with-ports.ensures.small;
            ports = λ k. rw (w.ports-is, w.with-ports.ensures.bits) (inv.ports k
                ∙ ap (λ ports. in_mask c.loop-value.ports k || list_any (nat_eq k) ports) more
                ∙ any_next c.loop-value.ports w.in-Some.port _ k);
          }
      | in_default w ↦ let less = ports_less _ _ _ left w.in_default.ensures.port in record {
        fresh = rw w.seen-is (inv.fresh ∙ ap (are_fresh c.loop-value.seen) less);
        small = rw w.ports-is inv.small;
        ports = λ k. rw w.ports-is (inv.ports k
            ∙ ap (λ ports. in_mask c.loop-value.ports k || list_any (nat_eq k) ports) less);
      }
    ]
