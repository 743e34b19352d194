-- What switches say of their own links, and the adverts that they have then (OSPF, RFC 2328,
-- section 13.1); the routes that they find.
use Rattle.std.specs.Prelude.{if◌then◌else◌, ◌&&◌, ◌++◌, ◌+◌, ◌==◌, Bool, List, None, Option, Some, count_by, false, filter_map, not, slice_set, true, ℕ}
use Rattle.failover.specs.Exports.{held_advert, is_failover_target_isolated, route_of}
use Rattle.base.specs.Exports.{switches}
use Rattle.failover.specs.declared.advert.Advert.{Advert}
use Rattle.journal.specs.declared.item.Item.{Item}
use Rattle.update_machine.specs.Boots.{journal_boot_of, is_up}
use Rattle.update_machine.specs.LinkMasks.{near, journal_adverts_of_others}
use Rattle.update_machine.specs.Setting.{Setting}
use Rattle.update_machine.specs.Steps.{MachineStepItems, journal_steps_in}

-- ---- the own advert

-- the switch was in this boot when the step began, and its usable links changed in the step
abbrev pub journal_step_changes_links : Setting → ℕ → ℕ → MachineStepItems → Bool
journal_step_changes_links setting s boot step =
    journal_boot_of step.before s == boot
    && not (near setting step.before s == near setting (step.before ++ step.items) s)

-- how many steps of its boot changed the switch's usable links, plus one in boot 1; 0 if it is down
unfoldable pub journal_own_seq : Setting → List Item → ℕ → ℕ
journal_own_seq setting journal s = elim (is_up journal s) [
  | false ↦ 0
  | true ↦ count_by (journal_step_changes_links setting s (journal_boot_of journal s)) (journal_steps_in journal)
      + (if journal_boot_of journal s == 1 then 1 else 0)
]

-- what the switch says of its usable links
unfoldable pub own_advert : Setting → List Item → ℕ → Advert
own_advert setting journal s = record {
  origin = s;
  boot = journal_boot_of journal s;
  seq = journal_own_seq setting journal s;
  up = near setting journal s;
}

-- ---- what a switch knows

-- its own advert, if it sent one in its boot
abbrev pub journal_own_advert_sent : Advert → Option Advert
journal_own_advert_sent advert = if advert.seq == 0 then None else Some advert

-- for each origin the newest advert that the switch knows, and its own at its own place
unfoldable pub journal_adverts_known : Setting → List Item → ℕ → List (Option Advert)
journal_adverts_known setting journal s =
    slice_set (journal_adverts_of_others setting journal s) s (journal_own_advert_sent (own_advert setting journal s))

abbrev pub journal_advert_known : Setting → List Item → ℕ → ℕ → Option Advert
journal_advert_known setting journal s origin = held_advert (journal_adverts_known setting journal s) origin

-- the adverts that the switch has, by ascending origin
unfoldable pub journal_held_adverts : Setting → List Item → ℕ → List Advert
journal_held_adverts setting journal s = filter_map (held_advert (journal_adverts_known setting journal s)) switches

-- ---- routes over known links

-- the route of a switch to the first of these targets that it reaches, by the links that it knows
-- except those that are down
unfoldable pub journal_route_from : Setting → List Item → ℕ → List ℕ → List ℕ → Option (List ℕ)
journal_route_from setting journal s targets down =
    route_of (journal_adverts_known setting journal s) s targets (near setting journal s) down

-- the target is another switch, and no link that this switch knows, without those down, ends at it
unfoldable pub is_cut_off_in_journal : Setting → List Item → ℕ → List ℕ → ℕ → Bool
is_cut_off_in_journal setting journal s down target =
    is_failover_target_isolated (journal_adverts_known setting journal s) s target (near setting journal s) down
