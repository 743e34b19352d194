-- The line of an item has no line feed in it.
use Rattle.std.proofs.Common.{◌++◌, ◌==◌, ◌≡◌, Bool, List, Option, false, filter, max, min, not, refl, true, ℕ}
use Rattle.base.proofs.Exports.{codes, cond_both, list_all}
use Rattle.base.specs.Exports.{has, switches}
use Rattle.update_machine.specs.Exports.{Action, Advert, Advertise, Authority, Body, CacheRule, Cached, Cause, Collect, Confirm, Crash, Deliver, Expire, Forget, Hello, Hop, How, Install, Installed, Item, LinkDown, LinkUp, Lose, Net, NoAuthority, NoRoute, OpenAt, Packet, Place, Resend, Restart, Stamp, Stamped, Step, Update}
use Rattle.ctrl_msg.specs.declared.message.Place.TheVariants as receiver
use Rattle.net_file.specs.Exports.{IsNet, NetNameLaws, net_switch_names_text}
use Rattle.journal.specs.declared.item.Item.TheVariants as item
use Rattle.journal_text.specs.Lines.{journal_advert_text, journal_body_text, journal_boot_text, journal_cause_text, journal_how_text, journal_item_line, journal_mask_text, journal_text_with_name, journal_text_with_number, journal_packet_at_text, journal_pair_text, journal_receiver_text, journal_cached_rule_text, journal_state_text, journal_step_text, journal_two_numbers_text, journal_version_text, journal_text_via}
use Rattle.trace_texts.proofs.TraceTextPieces.{IsOneLine, action_word, bits_line, fields_line, joined, name_line, names_line, number_line, rule_word, tested, word_line}

-- a text behind another one, its bytes tested one by one
onto : {xs : List ℕ} → IsOneLine xs → (text : List ℕ)
    → list_all (λ b. not (b == 10)) text ≡ true → IsOneLine (xs ++ text)
onto a text all = joined a (tested text all)

numbered : {text : List ℕ} → IsOneLine text → (n : ℕ) → IsOneLine (journal_text_with_number text n)
numbered a n = joined (onto a (codes " ") refl) (number_line n)

two_line : {text next : List ℕ} → IsOneLine text → IsOneLine next → (n m : ℕ)
    → IsOneLine (journal_two_numbers_text text n next m)
unfolding journal_two_numbers_text
two_line a b n m = joined (joined (numbered a n) b) (number_line m)

boot_line : {text : List ℕ} → IsOneLine text → (boot : ℕ) → IsOneLine (journal_boot_text text boot)
boot_line a boot = joined (onto a (codes " boot ") refl) (number_line boot)

version_line : {text : List ℕ} → IsOneLine text → (boot version : ℕ)
    → IsOneLine (journal_version_text text boot version)
version_line a boot version =
    joined (onto (boot_line a boot) (codes " version ") refl) (number_line version)

ruled_line : (rule : Option ℕ) (action : Action) → IsOneLine (journal_cached_rule_text rule action)
unfolding journal_cached_rule_text
ruled_line rule action =
    joined (onto (joined (tested (codes " rule ") refl) (word_line (rule_word rule))) (codes " ") refl)
    (word_line (action_word action))

cause_line : (cause : Cause) → IsOneLine (journal_cause_text cause)
cause_line NoAuthority = tested (codes "no-authority") refl
cause_line NoRoute = tested (codes "no-route") refl

state_line : (up : Bool) → IsOneLine (journal_state_text up)
state_line true = tested (codes "up") refl
state_line false = tested (codes "down") refl

module _ (laws : NetNameLaws) (net : Net) (sound : IsNet net) where
  named : {text : List ℕ} → IsOneLine text → (s : ℕ) → IsOneLine (journal_text_with_name net text s)
  named a s = joined (onto a (codes " ") refl) (name_line laws net sound s)

  at_line : {text : List ℕ} → IsOneLine text → (packet s : ℕ)
      → IsOneLine (journal_packet_at_text net text packet s)
  at_line a packet s =
      joined (onto (numbered a packet) (codes " ") refl) (name_line laws net sound s)

  pair_line : {text : List ℕ} → IsOneLine text → (one two : ℕ)
      → IsOneLine (journal_pair_text net text one two)
  pair_line a one two = joined (onto (named a one) (codes " ") refl) (name_line laws net sound two)

  via_line : (route : List ℕ) → IsOneLine (journal_text_via net route)
  unfolding journal_text_via
  via_line route = joined (tested (codes " via") refl) (names_line laws net sound route)

  mask_line : (mask : ℕ) → IsOneLine (journal_mask_text net mask)
  mask_line mask =
      cond_both (mask == 0) (codes " -") (net_switch_names_text net (filter (has mask) switches)) IsOneLine
      (λ _. tested (codes " -") refl)
      (λ _. names_line laws net sound (filter (has mask) switches))

  -- ---- steps and messages

  step_line : (step : Step) → IsOneLine (journal_step_text net step)
  step_line (Packet switch header) =
      joined (onto (named (tested (codes "packet") refl) switch) (codes " ") refl)
      (fields_line header.fields)
  step_line (Hop packet) = numbered (tested (codes "hop") refl) packet
  step_line (Lose packet) = numbered (tested (codes "lose") refl) packet
  step_line (Deliver message) = numbered (tested (codes "deliver") refl) message
  step_line (Forget message) = numbered (tested (codes "forget") refl) message
  step_line (Expire switch place) =
      joined (onto (named (tested (codes "expire") refl) switch) (codes " ") refl)
      (number_line place)
  step_line (Update file) = numbered (tested (codes "update") refl) file
  step_line (LinkDown one two) =
      pair_line (tested (codes "linkdown") refl) (min one two) (max one two)
  step_line (LinkUp one two) = pair_line (tested (codes "linkup") refl) (min one two) (max one two)
  step_line (Crash switch) = named (tested (codes "crash") refl) switch
  step_line (Restart switch) = named (tested (codes "restart") refl) switch
  step_line (Confirm switch) = named (tested (codes "confirm") refl) switch
  step_line (Resend switch) = named (tested (codes "resend") refl) switch

  receiver_line : (to : Place) → IsOneLine (journal_receiver_text net to)
  receiver_line (receiver.Switch s) = name_line laws net sound s
  receiver_line receiver.Controller = tested (codes "controller") refl

  advert_line : (advert : Advert) → IsOneLine (journal_advert_text net advert)
  advert_line advert =
      joined (onto (joined (onto (boot_line (named (tested (codes "advert") refl) advert.origin)
      advert.boot) (codes " seq ") refl) (number_line advert.seq)) (codes " up") refl)
      (mask_line advert.up)

  body_line : (body : Body) → IsOneLine (journal_body_text net body)
  body_line (Install boot tables) =
      version_line (tested (codes "install") refl) boot tables.version
  body_line (OpenAt boot version) = version_line (tested (codes "open") refl) boot version
  body_line (Stamp boot version touched) = version_line (tested (codes "stamp") refl) boot version
  body_line (Collect boot version) = version_line (tested (codes "collect") refl) boot version
  body_line (CacheRule version word rule action) =
      joined (joined (onto (numbered (tested (codes "cache version") refl) version) (codes " word ")
      refl) (bits_line word)) (ruled_line rule action)
  body_line (Advertise advert) = advert_line advert
  body_line (Hello switch boot) = boot_line (named (tested (codes "hello") refl) switch) boot
  body_line (Installed switch boot version) =
      version_line (named (tested (codes "installed") refl) switch) boot version
  body_line (Stamped switch boot version) =
      version_line (named (tested (codes "stamped") refl) switch) boot version

  -- ---- items

  how_line : (how : How) → IsOneLine (journal_how_text net how)
  how_line (Cached message) = numbered (tested (codes "cache") refl) message
  how_line (Authority switch partition) =
      joined (onto (named (tested (codes "authority") refl) switch) (codes " part ") refl)
      (number_line partition)

  pub item_one_line : (item : Item) → IsOneLine (journal_item_line net item)
  item_one_line (item.Row row step) =
      joined (onto (numbered (tested (codes "row") refl) row) (codes ": ") refl) (step_line step)
  item_one_line (item.Entered packet switch header) =
      at_line (tested (codes "  entered") refl) packet switch
  item_one_line (item.Closed packet switch) =
      at_line (tested (codes "  closed") refl) packet switch
  item_one_line (item.Seeking packet version partition route) =
      joined (joined (two_line (tested (codes "  tunnelled") refl) (tested (codes " v") refl) packet
      version) (numbered (tested (codes " part") refl) partition)) (via_line route)
  item_one_line (item.Exiting packet route) =
      joined (numbered (tested (codes "  exit") refl) packet) (via_line route)
  item_one_line (item.Hopped packet switch) =
      at_line (tested (codes "  hopped") refl) packet switch
  item_one_line (item.FoundDown packet one two) =
      pair_line (numbered (tested (codes "  found") refl) packet) one two
  item_one_line (item.Rerouted packet route) =
      joined (numbered (tested (codes "  rerouted") refl) packet) (via_line route)
  item_one_line (item.Decided packet version rule action how) =
      joined (onto (joined (two_line (tested (codes "  decided") refl) (tested (codes " v") refl)
      packet version) (ruled_line rule action)) (codes " ") refl) (how_line how)
  item_one_line (item.Left packet port leaving) =
      two_line (tested (codes "  out") refl) (tested (codes " port ") refl) packet port
  item_one_line (item.Dropped packet) = numbered (tested (codes "  dropped") refl) packet
  item_one_line (item.Lost packet) = numbered (tested (codes "  lost") refl) packet
  item_one_line (item.Stuck packet switch cause leg down) =
      joined (onto (at_line (tested (codes "  stuck") refl) packet switch) (codes " ") refl)
      (cause_line cause)
  item_one_line (item.Sent number message) =
      joined (onto (joined (onto (numbered (tested (codes "  sent") refl) number) (codes " ") refl)
      (receiver_line message.to)) (codes " ") refl) (body_line message.body)
  item_one_line (item.Delivered number) = numbered (tested (codes "  delivered") refl) number
  item_one_line (item.Forgotten number) = numbered (tested (codes "  forgotten") refl) number
  item_one_line (item.Expired switch place message) =
      joined (onto (joined (onto (named (tested (codes "  expired") refl) switch) (codes " ") refl)
      (number_line place)) (codes " message ") refl) (number_line message)
  item_one_line (item.Submitted file version) =
      two_line (tested (codes "  submitted file") refl) (tested (codes " version ") refl) file
      version
  item_one_line (item.Refused file code) =
      two_line (tested (codes "  refused file") refl) (tested (codes " code ") refl) file code
  item_one_line (item.Current version) = numbered (tested (codes "  current") refl) version
  item_one_line (item.Retired version) = numbered (tested (codes "  retired") refl) version
  item_one_line (item.Booted switch boot) =
      joined (onto (named (tested (codes "  booted") refl) switch) (codes " ") refl)
      (number_line boot)
  item_one_line (item.Opened switch version) =
      joined (onto (named (tested (codes "  opened") refl) switch) (codes " version ") refl)
      (number_line version)
  item_one_line (item.Down switch) = named (tested (codes "  down") refl) switch
  item_one_line (item.OverNow switch) = named (tested (codes "  over") refl) switch
  item_one_line (item.LinkIs one two up) =
      joined (onto (pair_line (tested (codes "  link") refl) one two) (codes " ") refl)
      (state_line up)
  item_one_line item.Nothing = tested (codes "  nothing") refl
