-- First tier. The lines of a journal: one for each item, in which switches have their names.
use Rattle.std.specs.Prelude.{[], if◌then◌else◌, ◌++◌, ◌==◌, ◌∷◌, Bool, List, Option, codes, decimal, false, filter, flat_map, max, min, true, ℕ}
use Rattle.ctrl_msg.specs.declared.message.Body.{Body}
use Rattle.ctrl_msg.specs.declared.message.Body.TheVariants.{Install, OpenAt, Stamp, Collect, CacheRule, Advertise, Hello, Installed, Stamped}
use Rattle.ctrl_msg.specs.declared.message.Place.{Place}
use Rattle.ctrl_msg.specs.declared.message.Place.TheVariants as receiver
use Rattle.base.specs.Exports.{has, switches}
use Rattle.failover.specs.declared.advert.Advert.{Advert}
use Rattle.five_tuple.specs.Exports.{header_fields_text}
use Rattle.net_file.specs.Exports.{net_switch_name_of, net_switch_names_text}
use Rattle.net_file.specs.declared.net.Net.{Net}
use Rattle.policy_rules.specs.Exports.{policy_action_text, policy_rule_text}
use Rattle.policy_rules.specs.declared.packet.Cause.{Cause}
use Rattle.policy_rules.specs.declared.packet.Cause.TheVariants.{NoAuthority, NoRoute}
use Rattle.policy_rules.specs.declared.packet.How.{How}
use Rattle.policy_rules.specs.declared.packet.How.TheVariants.{Cached, Authority}
use Rattle.policy_rules.specs.declared.policy.Action.{Action}
use Rattle.ternary.specs.Exports.{WordValue, ternary_word_text}
use Rattle.journal.specs.declared.item.Item.{Item}
use Rattle.journal.specs.declared.item.Item.TheVariants as item
use Rattle.steps.specs.declared.step.Step.{Step}
use Rattle.steps.specs.declared.step.Step.TheVariants.{Packet, Hop, Lose, Deliver, Forget, Expire, Update, LinkDown, LinkUp, Crash, Restart, Confirm, Resend}

-- ---- what lines are made of

-- a number after a text, and a name after one
abbrev pub journal_text_with_number : List ℕ → ℕ → List ℕ
journal_text_with_number text n = text ++ codes " " ++ decimal n

abbrev pub journal_text_with_name : Net → List ℕ → ℕ → List ℕ
journal_text_with_name net text s = text ++ codes " " ++ net_switch_name_of net s

-- two numbers, each after a text
unfoldable pub journal_two_numbers_text : List ℕ → ℕ → List ℕ → ℕ → List ℕ
journal_two_numbers_text text n next m = journal_text_with_number text n ++ next ++ decimal m

-- the names of a mask's switches, ascending, or a dash for none
abbrev pub journal_mask_text : Net → ℕ → List ℕ
journal_mask_text net mask =
    if mask == 0 then codes " -" else net_switch_names_text net (filter (has mask) switches)

-- a packet and a switch, as in an entry
abbrev pub journal_packet_at_text : Net → List ℕ → ℕ → ℕ → List ℕ
journal_packet_at_text net text packet s = journal_text_with_number text packet ++ codes " " ++ net_switch_name_of net s

-- two switches, as the ends of a link
abbrev pub journal_pair_text : Net → List ℕ → ℕ → ℕ → List ℕ
journal_pair_text net text one two = journal_text_with_name net text one ++ codes " " ++ net_switch_name_of net two

-- ---- steps

-- the fields of the step's row; a link's lower switch first
abbrev pub journal_step_text : Net → Step → List ℕ
journal_step_text net (Packet switch header) =
    journal_text_with_name net (codes "packet") switch ++ codes " " ++ header_fields_text header.fields
journal_step_text net (Hop packet) = journal_text_with_number (codes "hop") packet
journal_step_text net (Lose packet) = journal_text_with_number (codes "lose") packet
journal_step_text net (Deliver message) = journal_text_with_number (codes "deliver") message
journal_step_text net (Forget message) = journal_text_with_number (codes "forget") message
journal_step_text net (Expire switch place) =
    journal_text_with_name net (codes "expire") switch ++ codes " " ++ decimal place
journal_step_text net (Update file) = journal_text_with_number (codes "update") file
journal_step_text net (LinkDown one two) = journal_pair_text net (codes "linkdown") (min one two) (max one two)
journal_step_text net (LinkUp one two) = journal_pair_text net (codes "linkup") (min one two) (max one two)
journal_step_text net (Crash switch) = journal_text_with_name net (codes "crash") switch
journal_step_text net (Restart switch) = journal_text_with_name net (codes "restart") switch
journal_step_text net (Confirm switch) = journal_text_with_name net (codes "confirm") switch
journal_step_text net (Resend switch) = journal_text_with_name net (codes "resend") switch

-- ---- messages

abbrev pub journal_receiver_text : Net → Place → List ℕ
journal_receiver_text net (receiver.Switch s) = net_switch_name_of net s
journal_receiver_text net receiver.Controller = codes "controller"

abbrev pub journal_boot_text : List ℕ → ℕ → List ℕ
journal_boot_text text boot = text ++ codes " boot " ++ decimal boot

abbrev pub journal_version_text : List ℕ → ℕ → ℕ → List ℕ
journal_version_text text boot version = journal_boot_text text boot ++ codes " version " ++ decimal version

abbrev pub journal_advert_text : Net → Advert → List ℕ
journal_advert_text net advert =
    journal_boot_text (journal_text_with_name net (codes "advert") advert.origin) advert.boot
    ++ codes " seq " ++ decimal advert.seq ++ codes " up" ++ journal_mask_text net advert.up

-- a rule and its action
unfoldable pub journal_cached_rule_text : Option ℕ → Action → List ℕ
journal_cached_rule_text rule action = codes " rule " ++ policy_rule_text rule ++ codes " " ++ policy_action_text action

abbrev pub journal_cache_text : ℕ → WordValue → Option ℕ → Action → List ℕ
journal_cache_text version word rule action =
    journal_text_with_number (codes "cache version") version ++ codes " word " ++ ternary_word_text word
    ++ journal_cached_rule_text rule action

abbrev pub journal_body_text : Net → Body → List ℕ
journal_body_text net (Install boot tables) = journal_version_text (codes "install") boot tables.version
journal_body_text net (OpenAt boot version) = journal_version_text (codes "open") boot version
journal_body_text net (Stamp boot version touched) = journal_version_text (codes "stamp") boot version
journal_body_text net (Collect boot version) = journal_version_text (codes "collect") boot version
journal_body_text net (CacheRule version word rule action) = journal_cache_text version word rule action
journal_body_text net (Advertise advert) = journal_advert_text net advert
journal_body_text net (Hello switch boot) = journal_boot_text (journal_text_with_name net (codes "hello") switch) boot
journal_body_text net (Installed switch boot version) =
    journal_version_text (journal_text_with_name net (codes "installed") switch) boot version
journal_body_text net (Stamped switch boot version) =
    journal_version_text (journal_text_with_name net (codes "stamped") switch) boot version

-- ---- items

abbrev pub journal_how_text : Net → How → List ℕ
journal_how_text net (Cached message) = journal_text_with_number (codes "cache") message
journal_how_text net (Authority switch partition) =
    journal_text_with_name net (codes "authority") switch ++ codes " part " ++ decimal partition

abbrev pub journal_cause_text : Cause → List ℕ
journal_cause_text NoAuthority = codes "no-authority"
journal_cause_text NoRoute = codes "no-route"

abbrev pub journal_state_text : Bool → List ℕ
journal_state_text true = codes "up"
journal_state_text false = codes "down"

-- the switches of a route
unfoldable pub journal_text_via : Net → List ℕ → List ℕ
journal_text_via net route = codes " via" ++ net_switch_names_text net route

-- the item's line without its line feed: a row at the left edge, each other item after two blanks
abbrev pub journal_item_line : Net → Item → List ℕ
journal_item_line net (item.Row row step) =
    journal_text_with_number (codes "row") row ++ codes ": " ++ journal_step_text net step
journal_item_line net (item.Entered packet switch header) = journal_packet_at_text net (codes "  entered") packet switch
journal_item_line net (item.Closed packet switch) = journal_packet_at_text net (codes "  closed") packet switch
journal_item_line net (item.Seeking packet version partition route) =
    journal_two_numbers_text (codes "  tunnelled") packet (codes " v") version
    ++ journal_text_with_number (codes " part") partition ++ journal_text_via net route
journal_item_line net (item.Exiting packet route) =
    journal_text_with_number (codes "  exit") packet ++ journal_text_via net route
journal_item_line net (item.Hopped packet switch) = journal_packet_at_text net (codes "  hopped") packet switch
journal_item_line net (item.FoundDown packet one two) =
    journal_pair_text net (journal_text_with_number (codes "  found") packet) one two
journal_item_line net (item.Rerouted packet route) =
    journal_text_with_number (codes "  rerouted") packet ++ journal_text_via net route
journal_item_line net (item.Decided packet version rule action how) =
    journal_two_numbers_text (codes "  decided") packet (codes " v") version ++ journal_cached_rule_text rule action
    ++ codes " " ++ journal_how_text net how
journal_item_line net (item.Left packet port leaving) =
    journal_two_numbers_text (codes "  out") packet (codes " port ") port
journal_item_line net (item.Dropped packet) = journal_text_with_number (codes "  dropped") packet
journal_item_line net (item.Lost packet) = journal_text_with_number (codes "  lost") packet
journal_item_line net (item.Stuck packet switch cause leg down) =
    journal_packet_at_text net (codes "  stuck") packet switch ++ codes " " ++ journal_cause_text cause
journal_item_line net (item.Sent number message) =
    journal_text_with_number (codes "  sent") number ++ codes " " ++ journal_receiver_text net message.to ++ codes " "
    ++ journal_body_text net message.body
journal_item_line net (item.Delivered number) = journal_text_with_number (codes "  delivered") number
journal_item_line net (item.Forgotten number) = journal_text_with_number (codes "  forgotten") number
journal_item_line net (item.Expired switch place message) =
    journal_text_with_name net (codes "  expired") switch ++ codes " " ++ decimal place ++ codes " message "
    ++ decimal message
journal_item_line net (item.Submitted file version) =
    journal_two_numbers_text (codes "  submitted file") file (codes " version ") version
journal_item_line net (item.Refused file code) =
    journal_two_numbers_text (codes "  refused file") file (codes " code ") code
journal_item_line net (item.Current version) = journal_text_with_number (codes "  current") version
journal_item_line net (item.Retired version) = journal_text_with_number (codes "  retired") version
journal_item_line net (item.Booted switch boot) =
    journal_text_with_name net (codes "  booted") switch ++ codes " " ++ decimal boot
journal_item_line net (item.Opened switch version) =
    journal_text_with_name net (codes "  opened") switch ++ codes " version " ++ decimal version
journal_item_line net (item.Down switch) = journal_text_with_name net (codes "  down") switch
journal_item_line net (item.OverNow switch) = journal_text_with_name net (codes "  over") switch
journal_item_line net (item.LinkIs one two up) =
    journal_pair_text net (codes "  link") one two ++ codes " " ++ journal_state_text up
journal_item_line net item.Nothing = codes "  nothing"

-- one line for each item, with its line feed
abbrev pub journal_text : Net → List Item → List ℕ
journal_text net items = flat_map (λ item. journal_item_line net item ++ 10 ∷ []) items
