-- What one more item makes of a switch's status.
use Rattle.std.proofs.Common.{[], ◌++◌, ◌+◌, ◌<◌, ◌∙◌, ◌∷◌, ◌≡◌, List, ap, append-nil, false, get_or, length, refl, take, true, ℕ}
use Rattle.std.proofs.lemmas.List.{take_more}
use Rattle.update_machine.specs.Exports.{Item, journal_boot_of, journal_current_mark, is_up}
use Rattle.journal.specs.declared.item.Item.TheVariants as item
use Rattle.control_laws.proofs.Exports.{boot_more, current_more, up_more}
use Rattle.convergence_laws.proofs.Exports.{waited_more}
use Rattle.journal_reports.specs.declared.status.SwitchStatus.{SwitchStatus}
use Rattle.journal_reports.specs.Exports.{report_switch_status_in, report_status_item, report_switch_status_with}

status_more : (before : List Item) (item : Item) (s : ℕ)
    → report_switch_status_in (before ++ item ∷ []) s ≡ report_switch_status_with item (report_switch_status_in before s)
status_more before item s = rw (up_more, boot_more, waited_more, current_more) refl

status_told : (told : List Item) (item : Item) (s : ℕ)
    → report_switch_status_in (told ++ report_status_item item) s ≡ report_switch_status_with item (report_switch_status_in told s)
status_told told (item.Down switch) s = status_more told (item.Down switch) s
status_told told (item.Booted switch boot) s = status_more told (item.Booted switch boot) s
status_told told (item.OverNow switch) s = status_more told (item.OverNow switch) s
status_told told (item.Current version) s = status_more told (item.Current version) s
status_told told item s = ap (λ js. report_switch_status_in js s) (append-nil told)

-- ---- at first

pub status_at_first : (s : ℕ) → report_switch_status_in [] s
    ≡ record { switch = s; is_up = true; boot = 1; is_waited_for = false; current = 1 }
unfolding is_up journal_boot_of journal_current_mark
status_at_first s = refl

-- ---- one item of a list

item_more : (items : List Item) (i : ℕ) (next : Item) → i < length items
    → next ≡ get_or items i next → take (i + 1) items ≡ take i items ++ next ∷ []
item_more items i next within is = cc (take_more items i next within, is)

pub status_of_item : (items : List Item) (i s : ℕ) (next : Item) (status after : SwitchStatus)
    → i < length items → next ≡ get_or items i next → status ≡ report_switch_status_in (take i items) s
    → after ≡ report_switch_status_with next status → after ≡ report_switch_status_in (take (i + 1) items) s
status_of_item items i s next status after within is was now =
    cc (now, was, status_more (take i items) next s, item_more items i next within is)

pub told_of_item : (items : List Item) (i s : ℕ) (next : Item) (told after : List Item)
    → i < length items → next ≡ get_or items i next → report_switch_status_in told s ≡ report_switch_status_in (take i items) s
    → after ≡ told ++ report_status_item next → report_switch_status_in after s ≡ report_switch_status_in (take (i + 1) items) s
told_of_item items i s next told after within is was now =
    status_of_item items i s next (report_switch_status_in told s) (report_switch_status_in after s) within is was
    (ap (λ js. report_switch_status_in js s) now ∙ status_told told next s)
