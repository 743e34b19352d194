-- Where a packet's leg leads: to an authority switch of the partition that has its header (Yu,
-- Rexford, Freedman and Wang, "Scalable Flow-Based Networking with DIFANE", SIGCOMM 2010), by its
-- version's plan; or to the switch of its port.
use Rattle.std.specs.Prelude.{◌≡◌, IsTrue, List, Some, nat_eq, slice_get, ℕ}
use Rattle.base.specs.Exports.{list_any}
use Rattle.update_machine.specs.Exports.{Exit, Header, Item, Leg, Seek, Setting, journal_plan_at}
use Rattle.net_file.specs.Exports.{net_port_owner}
use Rattle.policy_rules.specs.Exports.{is_in_policy_partition}
use Rattle.switch_table.specs.Exports.{HostedPolicyPartition, switch_table_part_of}

-- the partition at this place of the version's plan has this number, its region holds the header,
-- and the switch is one of its targets
pub record IsSoughtAtControlAuthority (setting : Setting) (journal : List Item) (s : ℕ) (header : Header)
    (version partition : ℕ) : Type 0 where
  pub hosted : HostedPolicyPartition
  pub found : slice_get (journal_plan_at setting journal version) partition ≡ Some hosted
  pub number : hosted.0.number ≡ partition
  pub holds : IsTrue (is_in_policy_partition header (switch_table_part_of hosted))
  pub target : IsTrue (list_any (nat_eq s) hosted.1)

-- the switch is where the leg leads: at an authority of the partition, or at the port's switch
abbrev pub ControlLegEndsAt : Setting → List Item → ℕ → Header → Leg → Type 0
ControlLegEndsAt setting journal s header (Seek version partition) =
    IsSoughtAtControlAuthority setting journal s header version partition
ControlLegEndsAt setting journal s header (Exit port) = net_port_owner setting.net.switches port ≡ Some s
