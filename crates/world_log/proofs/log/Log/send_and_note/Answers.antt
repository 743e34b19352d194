use Rattle.std.proofs.Common.{◌++◌, ◌+◌, ◌∙◌, OnOk, length, map}
use Rattle.base.proofs.Exports.{both_ok, on_err_weaker, on_ok_weaker}
use Rattle.controller.specs.declared.sends.Act.TheVariants.{Post}
use Rattle.world_log.proofs.LogMessages.{AreDone, done_both, first_part, later_part, may_later, may_sent, noting_failed, posts_as_acts, sent_as_acts}
use Rattle.world_log.proofs.log.Log.send_and_note.Goals as goal

-- the messages are done as acts
sent : (c : goal.After-note_acts) → AreDone c.args.self.now.journal c.args.self.now.bag
    (map Post c.args.messages.items) c.send_all.new.self.journal c.send_all.new.self.bag
sent c = record {
  written = rw (sent_as_acts (length c.args.self.now.bag + 1) c.args.messages.items)
      c.in_ok-send_all.ensures.written;
  posted = rw (posts_as_acts c.args.messages.items) c.in_ok-send_all.ensures.posted;
}

-- and so are the acts behind them
done : (c : goal.After-note_acts) → OnOk c.note_acts.result (AreDone c.args.self.now.journal
    c.args.self.now.bag (map Post c.args.messages.items ++ c.args.acts.items)
    c.note_acts.new.self.journal c.note_acts.new.self.bag)
done c = both_ok c.note_acts.result (done_both c.args.self.now.journal _ c.args.self.now.bag _
    (map Post c.args.messages.items) c.args.acts.items (sent c) _ _) c.note_acts.ensures.written
    c.note_acts.ensures.posted

pub send_all-requires : goal.send_all-requires
send_all-requires c =
    may_sent c.args.self.now.bag c.args.messages.items c.args.acts.items c.requires

pub note_acts-requires : goal.note_acts-requires
note_acts-requires c = may_later c.args.self.now.bag (map Post c.args.messages.items)
    c.args.acts.items c.requires _
    (rw (posts_as_acts c.args.messages.items) c.in_ok-send_all.ensures.posted)

pub returns-in_err-send_all : goal.returns-in_err-send_all
returns-in_err-send_all c =
    let self = c.args.self.now in
    let first = map Post c.args.messages.items in
    noting_failed c.from_residual.result (first ++ c.args.acts.items) self c.send_all.new.self
    c.from_residual.ensures.0
    (first_part self.journal c.send_all.new.self.journal (length self.bag + 1) first
    c.args.acts.items (rw (sent_as_acts (length self.bag + 1) c.args.messages.items)
    c.in_err-send_all.ensures.part)) c.in_err-send_all.ensures.travelling

pub returns : goal.returns
returns c = record {
  written = on_ok_weaker c.note_acts.result (λ acts. acts.written) (done c);
  posted = on_ok_weaker c.note_acts.result (λ acts. acts.posted) (done c);
  part = on_err_weaker c.note_acts.result (later_part c.args.self.now.journal _ c.args.self.now.bag
      _ (map Post c.args.messages.items) c.args.acts.items (sent c) _) c.note_acts.ensures.part;
  travelling = c.note_acts.ensures.travelling ∙ c.in_ok-send_all.ensures.travelling;
}
