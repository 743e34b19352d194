-- Which links are usable, and what switches send when that changes.
use Rattle.std.specs.Prelude.{[], if◌then◌else◌, ◌&&◌, ◌<◌, ◌==◌, ◌∷◌, ◌≡◌, Bool, List, None, Option, Some, false, filter, filter_map, flat_map, length, map, not, slice_get, slice_index, slice_index_or, true, ℕ}
use Rattle.base.specs.Exports.{has, small_number_mask, option_map_or, range_with_len, switches}
use Rattle.update_machine.specs.Exports.{Advert, Hello, Message, Net, machine_advert_to}
use Rattle.ctrl_msg.specs.Exports.{message_to_controller}
use Rattle.failover.specs.Exports.{held_advert}
use Rattle.net_file.specs.Exports.{net_link_joins, links_of}
use Rattle.switch_core.specs.Exports.{SwitchValue, near_changed, switch_next_advert, serves}

-- ---- links that are up

-- `near` has at each switch's number the mask of its neighbours
abbrev pub AreLogNearMasks : Net → List ℕ → Type 0
AreLogNearMasks net near = (s : ℕ) → s < 64 → slice_index near s ≡ links_of net.links s

-- ---- a link that fails or comes back

-- the link of these two switches is up, or down, at both ends; all other links are as before
abbrev pub LogSetsLink : List ℕ → ℕ → ℕ → Bool → List ℕ → Type 0
LogSetsLink before one two up after = (s k : ℕ) → s < 64 → k < 64
    → has (slice_index after s) k ≡ (if net_link_joins s k (record { one = one; two = two }) then up
    else has (slice_index before s) k)

-- ---- usable links

-- the switch of this number exists, and serves
abbrev pub logged_switch_serves_at : List SwitchValue → ℕ → Bool
logged_switch_serves_at switches s = option_map_or serves (slice_get switches s) false

-- of these links, those whose other end serves; none if the switch itself doesn't serve
abbrev pub logged_near_mask_where : ℕ → Bool → (ℕ → Bool) → ℕ
logged_near_mask_where links own others = small_number_mask (λ k. has links k && own && others k)

-- the switches to which a switch has a usable link, if these links are up: both ends serve
unfoldable pub logged_near_mask_by : List ℕ → List SwitchValue → ℕ → ℕ
logged_near_mask_by links switches s =
    logged_near_mask_where (slice_index links s) (logged_switch_serves_at switches s) (logged_switch_serves_at switches)

-- the same for all 64 numbers
unfoldable pub logged_near_all : List ℕ → List SwitchValue → List ℕ
logged_near_all links switches = map (logged_near_mask_by links switches) (range_with_len 0 64)

-- ---- what switches send

-- the adverts that a switch has, by ascending origin
abbrev pub log_held_adverts : SwitchValue → List Advert
log_held_adverts switch = filter_map (held_advert switch.database) switches

-- what the switch sends a neighbour: its own advert over a link that it had, all over a new one
abbrev pub log_adverts_over : SwitchValue → Advert → Bool → ℕ → List Message
log_adverts_over switch own had neighbour = elim had [
  | true ↦ machine_advert_to neighbour own ∷ []
  | false ↦ map (machine_advert_to neighbour) (log_held_adverts switch)
]

-- the same, if it has a usable link to the other switch now
abbrev pub log_adverts_near : SwitchValue → Advert → ℕ → ℕ → ℕ → List Message
log_adverts_near switch own had near other =
    if has near other then log_adverts_over switch own (has had other) other else []

-- the message with the advert, if there is one
abbrev pub log_advert_if_held : ℕ → Option Advert → List Message
log_advert_if_held other None = []
log_advert_if_held other (Some advert) = machine_advert_to other advert ∷ []

-- all adverts that it has, if it has a usable link to the other switch
abbrev pub logged_adverts_all_near : SwitchValue → ℕ → ℕ → List Message
logged_adverts_all_near switch near other =
    if has near other then map (machine_advert_to other) (log_held_adverts switch) else []

-- what a switch that is up sends again: to the controller its boot, and to its neighbours among
-- this many switches all adverts that it has
abbrev pub world_log_adverts_again : ℕ → ℕ → ℕ → SwitchValue → List Message
world_log_adverts_again s count near switch = if switch.is_up
    then message_to_controller (Hello s switch.boot)
    ∷ flat_map (λ other. map (machine_advert_to other) (log_held_adverts switch))
    (filter (has near) (range_with_len 0 count))
    else []

-- the switch is up, and its usable links changed
abbrev pub log_links_change : ℕ → ℕ → SwitchValue → Bool
log_links_change had near switch = switch.is_up && not (had == near)

-- then it makes its next advert
abbrev pub log_switch_relinked : ℕ → ℕ → SwitchValue → SwitchValue
log_switch_relinked had near switch = if log_links_change had near switch then near_changed switch near
    else switch

-- and sends its neighbours among this many switches that advert, or all over a new link
abbrev pub logged_adverts_on_change : ℕ → ℕ → ℕ → SwitchValue → List Message
logged_adverts_on_change count had near switch = if log_links_change had near switch
    then flat_map (λ other. log_adverts_over (near_changed switch near) (switch_next_advert switch near)
    (has had other) other) (filter (has near) (range_with_len 0 count)) else []

abbrev pub logged_adverts_relinked_at : ℕ → List ℕ → List ℕ → List SwitchValue → ℕ → List Message
logged_adverts_relinked_at count had near switches s = elim (slice_get switches s) [
  | None ↦ []
  | Some switch ↦ logged_adverts_on_change count (slice_index had s) (slice_index near s) switch
]

-- all that is sent, by ascending number of the sender
unfoldable pub log_all_adverts_sent : List ℕ → List ℕ → List SwitchValue → List Message
log_all_adverts_sent had near switches =
    flat_map (logged_adverts_relinked_at (length switches) had near switches)
    (range_with_len 0 (length switches))

-- each of these switches made its next advert if its links changed
pub record AreLogSwitchesRelinked (had near : List ℕ) (old new : List SwitchValue) : Type 0 where
  pub as_many : length new ≡ length old
  pub each : (s : ℕ) (d : SwitchValue) → s < length old → slice_index_or new s d
      ≡ log_switch_relinked (slice_index had s) (slice_index near s) (slice_index_or old s d)
