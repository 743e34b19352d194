use Rattle.std.proofs.Common.{◌||◌, ◌∙◌, ap, sym, take, take_all}
use Rattle.base.proofs.Exports.{Fits-lt-pow, list_any_more}
use Rattle.net_file.specs.Exports.{net_switch_has_port, net_switches_have_port}
use Rattle.net_file.proofs.NetFilePortMasks.{in_mask_or, mask_of_is}
use Rattle.net_file.proofs.net.Net.port_mask.Goals as goal

pub loop-row-preserved : goal.loop-row-preserved
loop-row-preserved c =
    let inv = c.loop-row.invariant in
    let rows = c.items-row-items.result.now in
    let row = c.row-item.result in record {
      items = inv.items;
      bits = λ k. in_mask_or c.loop-row.mask row.ports k
          ∙ ap (λ b. b || net_switch_has_port k row) (inv.bits k)
          ∙ ap (λ other. net_switches_have_port (take c.loop-row.row-index rows) k || net_switch_has_port k other)
          c.row-item.is
          ∙ sym (list_any_more (net_switch_has_port k) rows c.loop-row.row-index row c.loop-row-test.true);
    }

pub returns : goal.returns
returns c = let inv = c.loop-row.invariant in
    mask_of_is c.loop-row.mask _ (Fits-lt-pow c.loop-row.auto.mask-fits)
    (λ k. inv.bits k ∙ ap (λ rows. net_switches_have_port rows k)
    (take_all c.loop-row.row-index c.items-row-items.result.now c.loop-row-test.false ∙ inv.items))
