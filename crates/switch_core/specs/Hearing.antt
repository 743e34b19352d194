-- What a message does at a switch, and what the switch sends in reply. Policies change in two
-- phases (Reitblatt, Foster, Rexford, Schlesinger and Walker, "Abstractions for Network Update",
-- SIGCOMM 2012); adverts are flooded as in OSPF (RFC 2328, section 13).
use Rattle.std.specs.Prelude.{[], if◌then◌else◌, ◌&&◌, ◌++◌, ◌==◌, ◌||◌, ◌∷◌, Bool, List, None, Option, Some, filter, map, max, nat_le, nat_lt, not, true, ℕ, ⊤}
use Rattle.base.specs.Exports.{has, option_map_or, switches}
use Rattle.failover.specs.Exports.{adverts_after_hearing, is_advert_news}
use Rattle.failover.specs.declared.advert.Advert.{Advert}
use Rattle.switch_table.specs.Exports.{AreSoundSwitchTables, cache_after_accept, cache_after_carry, cache_after_raise}
use Rattle.switch_table.specs.declared.cache.CacheEntry.{CacheEntry}
use Rattle.switch_table.specs.declared.tables.Tables.{Tables}
use Rattle.ternary.specs.Exports.{WordValue}
use Rattle.ctrl_msg.specs.Exports.{body_boot, is_body_for_controller, message_to_controller}
use Rattle.ctrl_msg.specs.declared.message.Body.{Body}
use Rattle.ctrl_msg.specs.declared.message.Body.TheVariants.{Install, OpenAt, Stamp, Collect, CacheRule, Advertise, Installed, Stamped}
use Rattle.ctrl_msg.specs.declared.message.Message.{Message}
use Rattle.ctrl_msg.specs.declared.message.Place.TheVariants.{Switch}
use Rattle.switch_core.specs.State.{SwitchValue, holds_version}

-- the tables that the body carries are sound
abbrev pub IsSoundSwitchBody : Body → Type 0
IsSoundSwitchBody (Install boot tables) = AreSoundSwitchTables tables
IsSoundSwitchBody _ = ⊤

-- the switch is up, and the body is for a switch, of this boot if it carries one
unfoldable pub switch_obeys : SwitchValue → Body → Bool
switch_obeys s body =
    s.is_up && not (is_body_for_controller body) && option_map_or (λ boot. boot == s.boot)
    (body_boot body) true

-- ---- what the switch is afterwards

-- it keeps the tables, unless it has that version or has dropped it
unfoldable pub switch_with_installed : SwitchValue → Tables → SwitchValue
switch_with_installed s tables =
    if holds_version s tables.version || nat_le tables.version s.collected
    then s
    else record s { tables = s.tables ++ tables ∷ [] }

-- its stamp is at least this version; if it rises, the cache is raised to it
unfoldable pub switch_stamp_raised_to : SwitchValue → ℕ → SwitchValue
switch_stamp_raised_to s version = if nat_lt s.stamp version
    then record s { stamp = version; cache = cache_after_raise version s.cache } else s

-- its stamp is at least this version; if it rises, the cached rules are carried to it, except
-- those that the change touches
unfoldable pub switch_stamped_with : SwitchValue → ℕ → List WordValue → SwitchValue
switch_stamped_with s version touched = if nat_lt s.stamp version
    then record s { stamp = version; cache = cache_after_carry version touched s.cache } else s

abbrev pub switch_opened_with : SwitchValue → ℕ → SwitchValue
switch_opened_with s version = record (switch_stamp_raised_to s version) { is_open = true }

-- its collect mark is at least this version, and the tables up to the mark are dropped
unfoldable pub switch_collected_to : SwitchValue → ℕ → SwitchValue
switch_collected_to s version = let mark = max s.collected version in record s {
  collected = mark;
  tables = filter (λ tables. nat_lt mark tables.version) s.tables;
}

-- the entry is added to the cache
abbrev pub switch_with_learnt : SwitchValue → CacheEntry → SwitchValue
switch_with_learnt s entry = record s { cache = cache_after_accept s.stamp entry s.cache }

-- the advert is of another switch, and the database has none of that switch or this one is newer
unfoldable pub is_news_to_switch : SwitchValue → Advert → Bool
is_news_to_switch s advert = not (advert.origin == s.number) && is_advert_news s.database advert

unfoldable pub switch_after_advert : SwitchValue → Advert → SwitchValue
switch_after_advert s advert = if is_news_to_switch s advert
    then record s { database = adverts_after_hearing s.database advert } else s

-- the switch after it obeyed the message of this number
abbrev pub switch_after_body : SwitchValue → ℕ → Body → SwitchValue
switch_after_body s number (Install boot tables) = switch_with_installed s tables
switch_after_body s number (OpenAt boot version) = switch_opened_with s version
switch_after_body s number (Stamp boot version touched) = switch_stamped_with s version touched
switch_after_body s number (Collect boot version) = switch_collected_to s version
switch_after_body s number (CacheRule version word rule action) = switch_with_learnt s (record {
  version = version;
  word = word;
  rule = rule;
  action = action;
  message = number;
})
switch_after_body s number (Advertise advert) = switch_after_advert s advert
switch_after_body s number _ = s

unfoldable pub switch_with_message : SwitchValue → ℕ → Body → SwitchValue
switch_with_message s number body = if switch_obeys s body then switch_after_body s number body else s

-- ---- what it sends

-- to each neighbour, ascending
unfoldable pub switch_flood : ℕ → Body → List Message
switch_flood near body = map (λ other. record { to = Switch other; body = body })
    (filter (has near) switches)

abbrev pub switch_replies_to : SwitchValue → ℕ → Body → List Message
switch_replies_to s near (Install boot tables) =
    message_to_controller (Installed s.number s.boot tables.version) ∷ []
switch_replies_to s near (Stamp boot version touched) = message_to_controller (Stamped s.number s.boot version) ∷ []
switch_replies_to s near (Advertise advert) =
    if is_news_to_switch s advert then switch_flood near (Advertise advert) else []
switch_replies_to s near _ = []

unfoldable pub replies : SwitchValue → ℕ → Body → List Message
replies s near body = if switch_obeys s body then switch_replies_to s near body else []

-- ---- whether it opens

abbrev pub switch_opened_by : SwitchValue → Body → Option ℕ
switch_opened_by s (OpenAt boot version) = if s.is_open then None else Some (max s.stamp version)
switch_opened_by s _ = None

-- the stamp of a switch that was closed, and opens
unfoldable pub switch_opening_stamp : SwitchValue → Body → Option ℕ
switch_opening_stamp s body = if switch_obeys s body then switch_opened_by s body else None
