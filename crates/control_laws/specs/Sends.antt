-- How many messages steps send, and how far boots and the sequence numbers of adverts rise with
-- them. OSPF has a rule for a router that used up its sequence numbers (RFC 2328, section 12.1.6);
-- here they are never used up.
use Rattle.std.specs.Prelude.{if◌then◌else◌, ◌*◌, ◌+◌, ◌-◌, ◌<◌, ◌==◌, ◌^◌, ◌≤◌, List, length, ℕ}
use Rattle.update_machine.specs.Exports.{Item, Setting, Step, journal_boot_of, machine_count_of, is_machine_sending_item, near, journal_next_message, journal_own_seq, piece}

-- how many messages were sent
abbrev pub control_messages_sent_count : List Item → ℕ
control_messages_sent_count items = machine_count_of is_machine_sending_item items

-- whatever step comes next, it sends at most this many messages
abbrev pub ControlStepsSendAtMost : ℕ → Setting → List Item → Type 0
ControlStepsSendAtMost most setting journal =
    (row : ℕ) (step : Step) → control_messages_sent_count (piece setting journal row step) ≤ most

-- the next step sends at most 10,000 messages
abbrev pub ControlStepsSendFew : Setting → List Item → Type 0
ControlStepsSendFew setting journal = ControlStepsSendAtMost 10_000 setting journal

-- each boot after the first begins with a message; and of two changes of a switch's links at least
-- one is sent to a neighbour: the switch has none only after its last link failed
pub record ControlNumbersAreFew (setting : Setting) (journal : List Item) : Type 0 where
  pub boots : (s : ℕ) → journal_boot_of journal s ≤ control_messages_sent_count journal + 1
  pub seqs : (s : ℕ) → s < length setting.net.switches → journal_own_seq setting journal s
      ≤ 2 * control_messages_sent_count journal + (if near setting journal s == 0 then 2 else 1)

-- there is room for the next boot of each switch, for the next number of its own advert, and for
-- the number of the next message, in 32 bits
pub record ControlNumbersFit (setting : Setting) (journal : List Item) : Type 0 where
  pub sent : control_messages_sent_count journal ≤ 1_000_000
  pub message : journal_next_message journal < 2 ^ 32
  pub boots : (s : ℕ) → journal_boot_of journal s < 2 ^ 32 - 1
  pub seqs : (s : ℕ) → s < length setting.net.switches → journal_own_seq setting journal s < 2 ^ 32 - 1
