-- The rule of a decision is sent under the next number, and nothing where there is no word.
use Rattle.std.proofs.Common.{[], ◌++◌, ◌+◌, ◌∷◌, ◌≡◌, OnOk, Option, append-nil, length, map, subst, sym}
use Rattle.update_machine.specs.Exports.{Body, machine_sent_items_from}
use Rattle.ctrl_msg.specs.declared.message.Place.TheVariants as receiver
use Rattle.journal.specs.declared.item.Item.TheVariants as item
use Rattle.message_bag.specs.Exports.{HasShortBagSpelling, new_bag_post}
use Rattle.switch_core.specs.Exports.{switch_core_cache_rule}
use Rattle.ternary.specs.Exports.{WordValue}
use Rattle.world_log.specs.Exports.{log_cache_message, log_message_list}
use Rattle.world_log.proofs.LogForwarding.{rule_spelled}
use Rattle.world_log.proofs.log.Log.send_rule.Goals as goal

pub send-requires : goal.send-requires
send-requires c = record {
  spelling = subst (λ (body : Body). HasShortBagSpelling (record {
    to = receiver.Switch c.args.ingress;
    body = body;
  })) (sym c.cache_rule-body.ensures)
      (rule_spelled c.args.ingress _ _ _ _ c.requires.ingress);
  few = c.requires.few;
}

pub returns-in-Some-clause-written : goal.returns-in-Some-clause-written
unfolding machine_sent_items_from
returns-in-Some-clause-written c =
    let P : Option WordValue → Type 0 = λ word. OnOk c.send.result (c.send.new.self.journal
    ≡ c.args.self.now.journal ++ machine_sent_items_from (length c.args.self.now.bag + 1)
    (log_message_list (log_cache_message c.args.ingress (switch_core_cache_rule c.args.decision.now word)))) in
    let Q : Body → Type 0 = λ body. OnOk c.send.result (c.send.new.self.journal
    ≡ c.args.self.now.journal ++ item.Sent (length c.args.self.now.bag + 1) (record {
      to = receiver.Switch c.args.ingress;
      body = body;
    }) ∷ []) in
    subst P (sym c.in-Some.is) (subst Q c.cache_rule-body.ensures c.send.ensures.written)

pub returns-in-Some-clause-posted : goal.returns-in-Some-clause-posted
returns-in-Some-clause-posted c =
    let P : Option WordValue → Type 0 =
    λ word. OnOk c.send.result (c.send.new.self.bag ≡ c.args.self.now.bag ++ map new_bag_post
    (log_message_list (log_cache_message c.args.ingress (switch_core_cache_rule c.args.decision.now word)))) in
    let Q : Body → Type 0 = λ body. OnOk c.send.result (c.send.new.self.bag
    ≡ c.args.self.now.bag ++ new_bag_post (record {
      to = receiver.Switch c.args.ingress;
      body = body;
    }) ∷ []) in
    subst P (sym c.in-Some.is) (subst Q c.cache_rule-body.ensures c.send.ensures.posted)

pub returns-in-None-clause-written : goal.returns-in-None-clause-written
unfolding machine_sent_items_from
returns-in-None-clause-written c =
    let P : Option WordValue → Type 0 = λ word. c.args.self.now.journal
    ≡ c.args.self.now.journal ++ machine_sent_items_from (length c.args.self.now.bag + 1)
    (log_message_list (log_cache_message c.args.ingress (switch_core_cache_rule c.args.decision.now word))) in
    subst P (sym c.in-None.is) (sym (append-nil c.args.self.now.journal))

pub returns-in-None-clause-posted : goal.returns-in-None-clause-posted
returns-in-None-clause-posted c =
    let P : Option WordValue → Type 0 = λ word. c.args.self.now.bag ≡ c.args.self.now.bag
    ++ map new_bag_post (log_message_list (log_cache_message c.args.ingress
    (switch_core_cache_rule c.args.decision.now word))) in
    subst P (sym c.in-None.is) (sym (append-nil c.args.self.now.bag))
