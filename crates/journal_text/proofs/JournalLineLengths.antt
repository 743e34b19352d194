-- How long lines are: each part has a bound, and those of parts, one behind another, are added.
use Rattle.std.proofs.Common.{[], if◌then◌else◌, ◌++◌, ◌+◌, ◌==◌, ◌∷◌, ◌≤◌, Bool, List, Option, arith, false, filter, length, max, min, true, ℕ}
use Rattle.base.proofs.Exports.{codes, count_by-le-length, length-filter, range_with_len}
use Rattle.ctrl_msg.specs.declared.message.Body.{Body}
use Rattle.ctrl_msg.specs.declared.message.Body.TheVariants.{Install, OpenAt, Stamp, Collect, CacheRule, Advertise, Hello, Installed, Stamped}
use Rattle.ctrl_msg.specs.declared.message.Place.{Place}
use Rattle.ctrl_msg.specs.declared.message.Place.TheVariants as receiver
use Rattle.base.specs.Exports.{has, switches}
use Rattle.failover.specs.declared.advert.Advert.{Advert}
use Rattle.net_file.specs.Exports.{IsNet, NetNameLaws, net_switch_names_text}
use Rattle.net_file.specs.declared.net.Net.{Net}
use Rattle.policy_rules.specs.declared.packet.Cause.{Cause}
use Rattle.policy_rules.specs.declared.packet.Cause.TheVariants.{NoAuthority, NoRoute}
use Rattle.policy_rules.specs.declared.packet.How.{How}
use Rattle.policy_rules.specs.declared.packet.How.TheVariants.{Cached, Authority}
use Rattle.policy_rules.specs.declared.policy.Action.{Action}
use Rattle.journal.specs.declared.item.Item.{Item}
use Rattle.journal.specs.declared.item.Item.TheVariants as item
use Rattle.journal_text.specs.Lines.{journal_advert_text, journal_body_text, journal_boot_text, journal_cause_text, journal_how_text, journal_item_line, journal_mask_text, journal_text_with_name, journal_text_with_number, journal_packet_at_text, journal_pair_text, journal_receiver_text, journal_cached_rule_text, journal_state_text, journal_step_text, journal_two_numbers_text, journal_version_text, journal_text_via}
use Rattle.journal_text.specs.Sizes.{IsJournalTextBody, IsJournalTextHow, IsJournalTextItem, IsJournalTextRoute, IsJournalTextStep, JournalLinesFit}
use Rattle.lines.proofs.LinePrintedLengths.{IsWithin, all_of, joined_within, with_text, widened, number, rule_within, action_within, fields_within, word_within, name_within, names_within}
use Rattle.lines.specs.Sizes.{IsPrintedLineAction, IsNumberInPrintedLine, IsPrintedLineRule}
use Rattle.steps.specs.declared.step.Step.{Step}
use Rattle.steps.specs.declared.step.Step.TheVariants.{Packet, Hop, Lose, Deliver, Forget, Expire, Update, LinkDown, LinkUp, Crash, Restart, Confirm, Resend}

numbered_within : {m : ℕ} {text : List ℕ} → IsWithin m text → (n : ℕ) → IsNumberInPrintedLine n
    → IsWithin (m + 1 + 10) (journal_text_with_number text n)
numbered_within w n small =
    joined_within (with_text w (codes " ")) (number n small)

-- ---- names

few_switches : (mask : ℕ) → length (filter (has mask) switches) ≤ 64
unfolding switches
few_switches mask = omega (
  arith,
  length-filter (has mask) (range_with_len 0 64),
  count_by-le-length (has mask) (range_with_len 0 64),
)

module _ (laws : NetNameLaws) (net : Net) (sound : IsNet net) where
  named_within : {m : ℕ} {text : List ℕ} → IsWithin m text → (s : ℕ)
      → IsWithin (m + 1 + 16) (journal_text_with_name net text s)
  named_within w s =
      joined_within (with_text w (codes " ")) (name_within laws net sound s)

  route_within : (route : List ℕ) → IsJournalTextRoute route → IsWithin 1088 (net_switch_names_text net route)
  route_within route is = widened (names_within laws net sound route) 1088 (omega (arith, is))

  mask_within : (mask : ℕ) → IsWithin 1088 (journal_mask_text net mask)
  mask_within mask = elim (mask == 0) as (λ b. IsWithin 1088
      (if b then codes " -" else net_switch_names_text net (filter (has mask) switches))) [
        | true ↦ widened (all_of (codes " -")) 1088 (omega arith)
        | false ↦ route_within (filter (has mask) switches) (few_switches mask)
      ]

  at_within : {m : ℕ} {text : List ℕ} → IsWithin m text → (packet s : ℕ) → IsNumberInPrintedLine packet
      → IsWithin (m + 1 + 10 + 1 + 16) (journal_packet_at_text net text packet s)
  at_within w packet s is =
      joined_within (with_text (numbered_within w packet is) (codes " ")) (name_within laws net sound s)

  pair_within : {m : ℕ} {text : List ℕ} → IsWithin m text → (one two : ℕ)
      → IsWithin (m + 1 + 16 + 1 + 16) (journal_pair_text net text one two)
  pair_within w one two =
      joined_within (with_text (named_within w one) (codes " ")) (name_within laws net sound two)

  -- ---- steps and messages

  boot_within : {m : ℕ} {text : List ℕ} → IsWithin m text → (boot : ℕ) → IsNumberInPrintedLine boot
      → IsWithin (m + 6 + 10) (journal_boot_text text boot)
  boot_within w boot is =
      joined_within (with_text w (codes " boot ")) (number boot is)

  version_within : {m : ℕ} {text : List ℕ} → IsWithin m text → (boot version : ℕ)
      → IsNumberInPrintedLine boot × IsNumberInPrintedLine version
      → IsWithin (m + 6 + 10 + 9 + 10) (journal_version_text text boot version)
  version_within w boot version is =
      joined_within (with_text (boot_within w boot is.0) (codes " version ")) (number version is.1)

  step_within : (step : Step) → IsJournalTextStep step → IsWithin 300 (journal_step_text net step)
  step_within (Packet switch header) is =
      widened (joined_within (with_text (named_within (all_of (codes "packet")) switch) (codes " "))
      (fields_within header is)) 300 (omega arith)
  step_within (Hop packet) is =
      widened (numbered_within (all_of (codes "hop")) packet is) 300 (omega arith)
  step_within (Lose packet) is =
      widened (numbered_within (all_of (codes "lose")) packet is) 300 (omega arith)
  step_within (Deliver message) is =
      widened (numbered_within (all_of (codes "deliver")) message is) 300 (omega arith)
  step_within (Forget message) is =
      widened (numbered_within (all_of (codes "forget")) message is) 300 (omega arith)
  step_within (Expire switch place) is =
      widened (joined_within (with_text (named_within (all_of (codes "expire")) switch) (codes " "))
      (number place is)) 300 (omega arith)
  step_within (Update file) is =
      widened (numbered_within (all_of (codes "update")) file is) 300 (omega arith)
  step_within (LinkDown one two) is =
      widened (pair_within (all_of (codes "linkdown")) (min one two) (max one two)) 300
      (omega arith)
  step_within (LinkUp one two) is =
      widened (pair_within (all_of (codes "linkup")) (min one two) (max one two)) 300
      (omega arith)
  step_within (Crash switch) is =
      widened (named_within (all_of (codes "crash")) switch) 300 (omega arith)
  step_within (Restart switch) is =
      widened (named_within (all_of (codes "restart")) switch) 300 (omega arith)
  step_within (Confirm switch) is =
      widened (named_within (all_of (codes "confirm")) switch) 300 (omega arith)
  step_within (Resend switch) is =
      widened (named_within (all_of (codes "resend")) switch) 300 (omega arith)

  receiver_within : (to : Place) → IsWithin 16 (journal_receiver_text net to)
  receiver_within (receiver.Switch s) = name_within laws net sound s
  receiver_within receiver.Controller = widened (all_of (codes "controller")) 16 (omega arith)

  ruled_within : (rule : Option ℕ) (action : Action) → IsPrintedLineRule rule → IsPrintedLineAction action
      → IsWithin 31 (journal_cached_rule_text rule action)
  unfolding journal_cached_rule_text
  ruled_within rule action r a =
      joined_within (with_text (joined_within (all_of (codes " rule ")) (rule_within rule r)) (codes " "))
      (action_within action a)

  advert_within : (advert : Advert) → IsNumberInPrintedLine advert.boot × IsNumberInPrintedLine advert.seq
      → IsWithin 1200 (journal_advert_text net advert)
  advert_within advert is =
      widened (joined_within (with_text (joined_within (with_text (boot_within (named_within (all_of (codes
      "advert")) advert.origin) advert.boot is.0) (codes " seq ")) (number advert.seq is.1)) (codes
      " up")) (mask_within advert.up)) 1200 (omega arith)

  body_within : (body : Body) → IsJournalTextBody body → IsWithin 1200 (journal_body_text net body)
  body_within (Install boot tables) is =
      widened (version_within (all_of (codes "install")) boot tables.version is) 1200 (omega arith)
  body_within (OpenAt boot version) is =
      widened (version_within (all_of (codes "open")) boot version is) 1200 (omega arith)
  body_within (Stamp boot version touched) is =
      widened (version_within (all_of (codes "stamp")) boot version is) 1200 (omega arith)
  body_within (Collect boot version) is =
      widened (version_within (all_of (codes "collect")) boot version is) 1200 (omega arith)
  body_within (CacheRule version word rule action) is =
      widened (joined_within (joined_within (with_text (numbered_within (all_of (codes "cache version")) version
      is.0) (codes " word ")) (word_within word)) (ruled_within rule action is.1 is.2)) 1200
      (omega arith)
  body_within (Advertise advert) is = advert_within advert is
  body_within (Hello switch boot) is =
      widened (boot_within (named_within (all_of (codes "hello")) switch) boot is) 1200
      (omega arith)
  body_within (Installed switch boot version) is =
      widened (version_within (named_within (all_of (codes "installed")) switch) boot version is)
      1200 (omega arith)
  body_within (Stamped switch boot version) is =
      widened (version_within (named_within (all_of (codes "stamped")) switch) boot version is)
      1200 (omega arith)

  -- ---- items

  how_within : (how : How) → IsJournalTextHow how → IsWithin 50 (journal_how_text net how)
  how_within (Cached message) is =
      widened (numbered_within (all_of (codes "cache")) message is) 50 (omega arith)
  how_within (Authority switch partition) is =
      widened (joined_within (with_text (named_within (all_of (codes "authority")) switch) (codes
      " part ")) (number partition is)) 50 (omega arith)

  cause_within : (cause : Cause) → IsWithin 12 (journal_cause_text cause)
  cause_within NoAuthority = all_of (codes "no-authority")
  cause_within NoRoute = widened (all_of (codes "no-route")) 12 (omega arith)

  state_within : (up : Bool) → IsWithin 4 (journal_state_text up)
  state_within true = widened (all_of (codes "up")) 4 (omega arith)
  state_within false = all_of (codes "down")

  two_within : {m k : ℕ} {text : List ℕ} → IsWithin m text → {next : List ℕ} → IsWithin k next
      → (n p : ℕ) → IsNumberInPrintedLine n → IsNumberInPrintedLine p
      → IsWithin (m + 1 + 10 + k + 10) (journal_two_numbers_text text n next p)
  unfolding journal_two_numbers_text
  two_within w v n p is also =
      joined_within (joined_within (numbered_within w n is) v) (number p also)

  via_within : (route : List ℕ) → IsJournalTextRoute route → IsWithin 1092 (journal_text_via net route)
  unfolding journal_text_via
  via_within route is = joined_within (all_of (codes " via")) (route_within route is)

  item_within : (item : Item) → IsJournalTextItem item → IsWithin 1240 (journal_item_line net item)
  item_within (item.Row row step) is =
      widened (joined_within (with_text (numbered_within (all_of (codes "row")) row is.0) (codes ": "))
      (step_within step is.1)) 1240 (omega arith)
  item_within (item.Entered packet switch header) is =
      widened (at_within (all_of (codes "  entered")) packet switch is) 1240 (omega arith)
  item_within (item.Closed packet switch) is =
      widened (at_within (all_of (codes "  closed")) packet switch is) 1240 (omega arith)
  item_within (item.Seeking packet version partition route) is =
      widened (joined_within (joined_within (two_within (all_of (codes "  tunnelled")) (all_of (codes " v"))
      packet version is.0 is.1) (numbered_within (all_of (codes " part")) partition is.2))
      (via_within route is.3)) 1240 (omega arith)
  item_within (item.Exiting packet route) is =
      widened (joined_within (numbered_within (all_of (codes "  exit")) packet is.0) (via_within route
      is.1)) 1240 (omega arith)
  item_within (item.Hopped packet switch) is =
      widened (at_within (all_of (codes "  hopped")) packet switch is) 1240 (omega arith)
  item_within (item.FoundDown packet one two) is =
      widened (pair_within (numbered_within (all_of (codes "  found")) packet is) one two) 1240
      (omega arith)
  item_within (item.Rerouted packet route) is =
      widened (joined_within (numbered_within (all_of (codes "  rerouted")) packet is.0) (via_within route
      is.1)) 1240 (omega arith)
  item_within (item.Decided packet version rule action how) is =
      widened (joined_within (with_text (joined_within (two_within (all_of (codes "  decided")) (all_of (codes
      " v")) packet version is.0 is.1) (ruled_within rule action is.2 is.3)) (codes " "))
      (how_within how is.4)) 1240 (omega arith)
  item_within (item.Left packet port leaving) is =
      widened (two_within (all_of (codes "  out")) (all_of (codes " port ")) packet port is.0 is.1)
      1240 (omega arith)
  item_within (item.Dropped packet) is =
      widened (numbered_within (all_of (codes "  dropped")) packet is) 1240 (omega arith)
  item_within (item.Lost packet) is =
      widened (numbered_within (all_of (codes "  lost")) packet is) 1240 (omega arith)
  item_within (item.Stuck packet switch cause leg down) is =
      widened (joined_within (with_text (at_within (all_of (codes "  stuck")) packet switch is) (codes
      " ")) (cause_within cause)) 1240 (omega arith)
  item_within (item.Sent number message) is =
      widened (joined_within (with_text (joined_within (with_text (numbered_within (all_of (codes "  sent"))
      number is.0) (codes " ")) (receiver_within message.to)) (codes " ")) (body_within message.body
      is.1)) 1240 (omega arith)
  item_within (item.Delivered number) is =
      widened (numbered_within (all_of (codes "  delivered")) number is) 1240 (omega arith)
  item_within (item.Forgotten number) is =
      widened (numbered_within (all_of (codes "  forgotten")) number is) 1240 (omega arith)
  item_within (item.Expired switch place message) is =
      widened (joined_within (with_text (joined_within (with_text (named_within (all_of (codes "  expired"))
      switch) (codes " ")) (number place is.0)) (codes " message ")) (number message is.1)) 1240
      (omega arith)
  item_within (item.Submitted file version) is =
      widened (two_within (all_of (codes "  submitted file")) (all_of (codes " version ")) file
      version is.0 is.1) 1240 (omega arith)
  item_within (item.Refused file code) is =
      widened (two_within (all_of (codes "  refused file")) (all_of (codes " code ")) file code is.0
      is.1) 1240 (omega arith)
  item_within (item.Current version) is =
      widened (numbered_within (all_of (codes "  current")) version is) 1240 (omega arith)
  item_within (item.Retired version) is =
      widened (numbered_within (all_of (codes "  retired")) version is) 1240 (omega arith)
  item_within (item.Booted switch boot) is =
      widened (joined_within (with_text (named_within (all_of (codes "  booted")) switch) (codes " "))
      (number boot is)) 1240 (omega arith)
  item_within (item.Opened switch version) is =
      widened (joined_within (with_text (named_within (all_of (codes "  opened")) switch) (codes
      " version ")) (number version is)) 1240 (omega arith)
  item_within (item.Down switch) is =
      widened (named_within (all_of (codes "  down")) switch) 1240 (omega arith)
  item_within (item.OverNow switch) is =
      widened (named_within (all_of (codes "  over")) switch) 1240 (omega arith)
  item_within (item.LinkIs one two up) is =
      widened (joined_within (with_text (pair_within (all_of (codes "  link")) one two) (codes " "))
      (state_within up)) 1240 (omega arith)
  item_within item.Nothing is = widened (all_of (codes "  nothing")) 1240 (omega arith)

pub line_within : NetNameLaws → (net : Net) → IsNet net → (item : Item) → IsJournalTextItem item
    → IsWithin 1241 (journal_item_line net item ++ 10 ∷ [])
line_within laws net sound item is =
    joined_within (item_within laws net sound item is) (all_of (10 ∷ []))

pub lines_within : NetNameLaws → JournalLinesFit
lines_within laws net item sound is =
    let line = widened (line_within laws net sound item is) 2048 (omega arith) in line.size
