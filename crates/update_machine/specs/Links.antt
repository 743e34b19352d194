-- First tier. Which links switches can use: those that are up, between switches that serve, as
-- neighbours in OSPF are those that respond (RFC 2328, section 10). And which links a switch
-- knows: its own usable ones, and of others those that both ends claim by the newest advert that
-- it heard (sections 13.1 and 16.1, with a boot number instead of the ages of adverts).
use Rattle.std.specs.Prelude.{if◌then◌else◌, ◌&&◌, ◌==◌, ◌||◌, Bool, List, None, Option, Some, false, max, min, nat_lt, not, option_and_then, true, unwrap_or, ℕ}
use Rattle.base.specs.Exports.{bit_at, list_any, option_map_or}
use Rattle.ctrl_msg.specs.declared.message.Body.{Body}
use Rattle.ctrl_msg.specs.declared.message.Body.TheVariants.{Advertise}
use Rattle.ctrl_msg.specs.declared.message.Message.{Message}
use Rattle.ctrl_msg.specs.declared.message.Place.{Place}
use Rattle.ctrl_msg.specs.declared.message.Place.TheVariants as receiver
use Rattle.net_file.specs.Exports.{are_linked_in_net, net_link_joins}
use Rattle.net_file.specs.declared.net.LinkRow.{LinkRow}
use Rattle.journal.specs.declared.item.Item.{Item}
use Rattle.journal.specs.declared.item.Item.TheVariants as item
use Rattle.update_machine.specs.Folds.{journal_folded_value, journal_last_given}
use Rattle.update_machine.specs.Setting.{Setting}

abbrev pub machine_item_gives_serving : ℕ → Item → Option Bool
machine_item_gives_serving s (item.Down switch) = if switch == s then Some false else None
machine_item_gives_serving s (item.Booted switch boot) = if switch == s then Some false else None
machine_item_gives_serving s (item.Opened switch version) = if switch == s then Some true else None
machine_item_gives_serving s _ = None

-- a switch serves at first, and after it opened in its boot
unfoldable pub serves : List Item → ℕ → Bool
serves journal s = unwrap_or (journal_last_given (machine_item_gives_serving s) journal) true

-- an item names a link by its lower switch first
abbrev pub gives_journal_link : ℕ → ℕ → Item → Option Bool
gives_journal_link low high (item.LinkIs one two up) = if one == low && two == high then Some up else None
gives_journal_link low high _ = None

-- the link of two switches is up at first, and if it last came back
unfoldable pub is_link_up_in_journal : List Item → ℕ → ℕ → Bool
is_link_up_in_journal journal one other =
    unwrap_or (journal_last_given (gives_journal_link (min one other) (max one other)) journal) true

-- it is up, and both ends serve
abbrev pub is_usable_in_journal : List Item → LinkRow → Bool
is_usable_in_journal journal link =
    is_link_up_in_journal journal link.one link.two && serves journal link.one && serves journal link.two

-- a usable link joins these switches
abbrev pub journal_can_use : Setting → List Item → ℕ → ℕ → Bool
journal_can_use setting journal one two =
    list_any (λ link. net_link_joins one two link && is_usable_in_journal journal link) setting.net.links

-- ---- the links that a switch knows

abbrev pub machine_item_gives_message : ℕ → Item → Option Message
machine_item_gives_message n (item.Sent number message) = if number == n then Some message else None
machine_item_gives_message n _ = None

-- the message of a number, if it was sent
unfoldable pub journal_message_of : List Item → ℕ → Option Message
journal_message_of journal number = journal_last_given (machine_item_gives_message number) journal

-- what an advert claims of its origin: its boot, the number of the advert in it, and to which
-- switches it has links
pub record JournalClaim : Type 0 where
  pub boot : ℕ
  pub seq : ℕ
  pub links : ℕ → Bool

-- what a message claims to switch s of switch one
abbrev pub journal_claim_by : ℕ → ℕ → Place → Body → Option JournalClaim
journal_claim_by s one (receiver.Switch switch) (Advertise advert) =
    if switch == s && advert.origin == one then Some (record {
      boot = advert.boot;
      seq = advert.seq;
      links = λ other. bit_at advert.up other == 1;
    }) else None
journal_claim_by s one _ _ = None

abbrev pub journal_claim_in_message : ℕ → ℕ → Message → Option JournalClaim
journal_claim_in_message s one message = journal_claim_by s one message.to message.body

-- the newer of two claims, and of equally new ones the first
abbrev pub newer_journal_claim_of : Option JournalClaim → Option JournalClaim → Option JournalClaim
newer_journal_claim_of held None = held
newer_journal_claim_of None heard = heard
newer_journal_claim_of (Some held) (Some heard) = if nat_lt held.boot heard.boot
    || (held.boot == heard.boot && nat_lt held.seq heard.seq) then Some heard else Some held

abbrev pub changes_journal_claim : ℕ → ℕ → List Item → Option JournalClaim → Item → Option JournalClaim
changes_journal_claim s one before claim (item.Down switch) = if switch == s then None else claim
changes_journal_claim s one before claim (item.Booted switch boot) = if switch == s then None else claim
changes_journal_claim s one before claim (item.Delivered number) =
    newer_journal_claim_of claim (option_and_then (journal_claim_in_message s one) (journal_message_of before number))
changes_journal_claim s one before claim _ = claim

-- at the beginning each switch knows each one's links in the network
abbrev pub machine_first_claim : Setting → ℕ → JournalClaim
machine_first_claim setting one = record { boot = 1; seq = 1; links = are_linked_in_net setting.net.links one }

-- the newest claim of switch one that switch s, which is up, heard in its boot, or began with
unfoldable pub journal_claim_of : Setting → List Item → ℕ → ℕ → Option JournalClaim
journal_claim_of setting journal s one =
    journal_folded_value (changes_journal_claim s one) (Some (machine_first_claim setting one)) journal

-- as switch s sees it, switch one has a link to two: it sees its own, and uses the claims of others
abbrev pub is_journal_link_end : Setting → List Item → ℕ → ℕ → ℕ → Bool
is_journal_link_end setting journal s one two = if one == s then journal_can_use setting journal s two
    else option_map_or (λ claim. claim.links two) (journal_claim_of setting journal s one) false

-- switch s knows the link of two switches: each of them has one to the other
abbrev pub journal_knows_link : Setting → List Item → ℕ → ℕ → ℕ → Bool
journal_knows_link setting journal s one two = not (one == two)
    && is_journal_link_end setting journal s one two && is_journal_link_end setting journal s two one
