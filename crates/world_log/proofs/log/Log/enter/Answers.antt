-- What was written of a packet that enters is its switch's answer.
use Rattle.std.proofs.Common.{[], ◌+◌, ◌∷◌, ◌≡◌, None, Option, Result, Some, append-nil, length, option_map, refl, subst, sym, ℕ}
use Rattle.journal.specs.declared.item.Item.TheVariants as item
use Rattle.switch_core.specs.Exports.{SwitchAnswer, Answered, SwitchArrival, switch_admitted, switch_arrival_by_forwarding, switch_incoming_packet, switch_site_of}
use Rattle.travelling.specs.Travelling.{TravellingStanding}
use Rattle.world_log.specs.Exports.{LogAfter, log_arrived_flight, log_arrived_items, log_arrived_posts, log_coming_in, log_entered_flight, log_entered_items, log_entered_posts, log_packet_standing}
use Rattle.world_log.specs.declared.log.Log.{Log}
use Rattle.world_log.proofs.LogCalls.{log_behind, log_unwritten}
use Rattle.world_log.proofs.log.Log.enter.Goals as goal

-- what is written of a packet, where its switch is closed or says this of it
module _ {T E : Type 0} (r : Result T E) (number packet : ℕ) (at : TravellingStanding) (old new : Log) where
  abbrev Is : Option SwitchAnswer → Type 0
  Is answer = LogAfter r (log_entered_items number at answer) (log_entered_posts at answer) packet
      (log_entered_flight answer) old new

  closed : (answer : Option SwitchAnswer) → None ≡ option_map Answered answer
      → LogAfter r (item.Closed at.packet at.switch ∷ []) [] packet None old new → Is answer
  closed None is log = log
  closed (Some what) is log = absurd cc

  entered : (said : SwitchArrival) (answer : Option SwitchAnswer) → Some said ≡ option_map Answered answer
      → LogAfter r (item.Entered at.packet at.switch at.header ∷ log_arrived_items number at 0 None
      said) (log_arrived_posts at said) packet (log_arrived_flight 0 None said) old new → Is answer
  entered said None is log = absurd cc
  entered said (Some what) is log = let same : said ≡ Answered what = cc in
      rw same at log

pub returns-in-None-clause-log : goal.returns-in-None-clause-log
returns-in-None-clause-log c =
    let s = c.args.switch.now in
    let P : ℕ → Type 0 = λ here. LogAfter c.end.result (item.Closed c.args.packet here ∷ []) []
    c.args.packet None c.args.self.now c.end.new.self in
    closed c.end.result (length c.args.self.now.bag + 1) c.args.packet
    (log_coming_in c.args.packet c.args.header.now s.number) c.args.self.now c.end.new.self
    (switch_admitted s (switch_site_of c.args.site) (switch_incoming_packet s c.args.packet c.args.header.now))
    (c.in-None.ensures.answer (switch_site_of c.args.site) c.args.packet)
    (subst P c.number-number.ensures.number c.end.ensures)

pub returns-in_err-push-in-Some-clause-log : goal.returns-in_err-push-in-Some-clause-log
returns-in_err-push-in-Some-clause-log c =
    log_unwritten c.from_residual.ensures.0 c.in_err-push-in-Some.ensures.unchanged

pub returns-in_ok-push-in-Some-clause-log : goal.returns-in_ok-push-in-Some-clause-log
returns-in_ok-push-in-Some-clause-log c =
    let s = c.args.switch.now in
    let self = c.args.self.now in
    let number : ℕ = length self.bag + 1 in
    let coming : ℕ → TravellingStanding = log_coming_in c.args.packet c.args.header.now in
    let said : ℕ → SwitchArrival = λ here. switch_arrival_by_forwarding c.admit.new.self (switch_site_of c.args.site)
    (log_packet_standing (coming here)) c.in-Some.forwarding in
    let P : ℕ → Type 0 = λ here.
    LogAfter c.settle.result (item.Entered c.args.packet here c.args.header.now
    ∷ log_arrived_items number (coming here) 0 None (said here)) (log_arrived_posts (coming here) (said here))
    c.args.packet (log_arrived_flight 0 None (said here)) self c.settle.new.self in
    entered c.settle.result number c.args.packet (coming s.number) self c.settle.new.self
    (said s.number)
    (switch_admitted s (switch_site_of c.args.site) (switch_incoming_packet s c.args.packet c.args.header.now))
    (c.in-Some.ensures.answer (switch_site_of c.args.site) c.args.packet)
    (subst P c.number-number.ensures.number (log_behind c.settle.result
    (item.Entered c.args.packet c.number-number.result c.args.header.now ∷ []) _ [] _ c.args.packet
    _ self (record self { journal = c.push.new.self }) c.settle.new.self
    c.in_ok-push-in-Some.ensures.pushed (sym (append-nil self.bag)) refl c.settle.ensures.log))
