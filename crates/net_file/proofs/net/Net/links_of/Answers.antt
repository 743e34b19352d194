use Rattle.std.proofs.Common.{◌||◌, ◌∙◌, ap, nat_eq, sym, take, take_all}
use Rattle.base.proofs.Exports.{list_any_more, or-false}
use Rattle.net_file.specs.Exports.{are_linked_in_net, net_link_joins}
use Rattle.net_file.proofs.NetFilePortMasks.{in_mask_with, mask_of_is}
use Rattle.net_file.proofs.net.Net.links_of.Goals as goal
use Rattle.net_file.proofs.net.Net.links_of.Goals.{in-Some, in_default}

pub loop-link-preserved : goal.loop-link-preserved
loop-link-preserved c =
    let inv = c.loop-link.invariant in
    let links = c.items-link-items.result.now in
    let i = c.loop-link.link-index in
    let s = c.args.switch in
    let mask = c.loop-link.mask in
    elim c.match-other_end.branch [
      | in-Some w ↦ record {
        items = inv.items;
        small = rw w.mask-is w.with-mask.ensures.small;
        bits = λ k. rw (w.mask-is, w.with-mask.ensures.bits) (in_mask_with mask w.in-Some.other k
            ∙ ap (λ b. b || nat_eq k w.in-Some.other) (inv.bits k)
            ∙ ap (λ b. are_linked_in_net (take i links) s k || b) (sym (w.in-Some.ensures.other k))
            ∙ sym (list_any_more (net_link_joins s k) links i _ c.loop-link-test.true));
      }
      | in_default w ↦ record {
        items = inv.items;
        small = rw w.mask-is inv.small;
        bits = λ k. rw w.mask-is (inv.bits k ∙ sym (or-false (are_linked_in_net (take i links) s k))
            ∙ ap (λ b. are_linked_in_net (take i links) s k || b) (sym (w.in_default.ensures.none k))
            ∙ sym (list_any_more (net_link_joins s k) links i _ c.loop-link-test.true));
      }
    ]

pub returns : goal.returns
returns c = let inv = c.loop-link.invariant in
    mask_of_is c.loop-link.mask _ inv.small
    (λ k. inv.bits k ∙ ap (λ links. are_linked_in_net links c.args.switch k) (take_all
    c.loop-link.link-index c.items-link-items.result.now c.loop-link-test.false ∙ inv.items))
