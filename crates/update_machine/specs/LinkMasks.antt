-- Which links a switch knows, as masks: its own usable ones, and of others those that both ends
-- name by the newest advert that it heard (RFC 2328, sections 13.1 and 16.1).
use Rattle.std.specs.Prelude.{if◌then◌else◌, ◌==◌, List, None, Option, Some, filter, filter_map, length, map, ℕ}
use Rattle.net_file.specs.Exports.{links_of}
use Rattle.net_file.specs.declared.net.LinkRow.{LinkRow}
use Rattle.journal.specs.declared.item.Item.{Item}
use Rattle.update_machine.specs.Boots.{heard, is_first_boot_in_journal}
use Rattle.update_machine.specs.Setting.{Setting}
use Rattle.update_machine.specs.SwitchNumbers.{machine_switches_of}
use Rattle.update_machine.specs.Links.{is_usable_in_journal}
use Rattle.ctrl_msg.specs.declared.message.Body.{Body}
use Rattle.ctrl_msg.specs.declared.message.Body.TheVariants.{Advertise}
use Rattle.failover.specs.Exports.{adverts_after_hearing_all, first_adverts, failover_known_links, no_adverts}
use Rattle.failover.specs.declared.advert.Advert.{Advert}

abbrev pub machine_usable_links : Setting → List Item → List LinkRow
machine_usable_links setting journal = filter (is_usable_in_journal journal) setting.net.links

-- the switches to which a switch has a usable link, as a mask
unfoldable pub near : Setting → List Item → ℕ → ℕ
near setting journal s = links_of (machine_usable_links setting journal) s

-- an advert of another switch
abbrev pub machine_advert_of_other : ℕ → Body → Option Advert
machine_advert_of_other s (Advertise advert) = if advert.origin == s then None else Some advert
machine_advert_of_other s _ = None

-- the adverts of other switches that the switch heard in its boot
abbrev pub journal_adverts_heard : List Item → ℕ → List Advert
journal_adverts_heard journal s = filter_map (machine_advert_of_other s) (heard journal s)

-- in boot 1 a switch begins with the first advert of each switch, otherwise with none
abbrev pub journal_adverts_begun : Setting → List Item → ℕ → List (Option Advert)
journal_adverts_begun setting journal s = if is_first_boot_in_journal journal s
    then first_adverts (map (links_of setting.net.links) (machine_switches_of setting))
    (length setting.net.switches) else no_adverts

-- for each origin the newest of these adverts
abbrev pub journal_adverts_of_others : Setting → List Item → ℕ → List (Option Advert)
journal_adverts_of_others setting journal s =
    adverts_after_hearing_all (journal_adverts_begun setting journal s) (journal_adverts_heard journal s)

-- the links that the switch knows by what it heard and by what it sees itself, except those that
-- are down: for each switch the switches to which it has one
abbrev pub journal_links_known : Setting → List Item → ℕ → List ℕ → List ℕ
journal_links_known setting journal s down =
    failover_known_links (journal_adverts_of_others setting journal s) s (near setting journal s) down
