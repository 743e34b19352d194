-- First tier. The abstract machine: what a network that decides packets by versions of a policy may
-- do, and nothing else. It has policies, a mark and packets; it knows no switch, link, table or
-- message. The notion of a version that decides a whole packet is that of Reitblatt, Foster,
-- Rexford, Schlesinger and Walker, "Abstractions for Network Update".
use Rattle.std.specs.Prelude.{[], if◌then◌else◌, ◌++◌, ◌+◌, ◌-◌, ◌<◌, ◌==◌, ◌∷◌, ◌≡◌, List, None, Option, Some, length, option_map, option_to_list, slice_get, ℕ, ⊤}
use Rattle.base.specs.Exports.{result_ok}
use Rattle.five_tuple.specs.declared.header.Header.{Header}
use Rattle.policy_rules.specs.Exports.{IsFirstPolicyMatch}
use Rattle.policy_rules.specs.declared.policy.Row.{Row}
use Rattle.policy_rules.specs.declared.policy.Hit.{Hit}
use Rattle.policy_rules.specs.declared.policy.Action.TheVariants as action
use Rattle.journal.specs.declared.item.Item.{Item}
use Rattle.journal.specs.declared.item.Item.TheVariants as item
use Rattle.update_machine.specs.Setting.{Setting, machine_policy_by}

-- how a packet ends
pub data MachinePacketEnd : Type 0 where
  Dropped : MachinePacketEnd
  LeftBy : (port : ℕ) → MachinePacketEnd
  Lost : MachinePacketEnd
  Stuck : MachinePacketEnd

-- what the machine knows of a packet: header, mark at entry, decision and end
pub record Packet : Type 0 where
  pub header : Header
  pub entry_mark : ℕ
  pub decision : Option Hit
  pub end : Option MachinePacketEnd

-- the policies of the versions, the first version's first; the mark up to which versions are
-- retired; the packets by number
pub record Machine : Type 0 where
  pub policies : List (List Row)
  pub mark : ℕ
  pub packets : ℕ → Option Packet

-- it begins with the policy of the first file, the mark 0 and no packet
abbrev pub first_machine : Setting → Machine
first_machine setting = record {
  policies = option_to_list (result_ok (machine_policy_by setting None 1));
  mark = 0;
  packets = λ _. None;
}

-- the policy of a version, if it was submitted; versions are numbered from 1
abbrev pub machine_submitted_policy : Machine → ℕ → Option (List Row)
machine_submitted_policy machine version = slice_get machine.policies (version - 1)

-- the machine with this packet instead of what it knew of it
abbrev pub machine_with_packet : Machine → ℕ → Packet → Machine
machine_with_packet machine number packet = record machine {
  packets = λ other. if other == number then Some packet else machine.packets other;
}

-- there must be a policy that the file has, or makes of the newest one; then it is the newest
-- version, and has its number
pub record MachineSubmits (old : Machine) (version : ℕ) (made : Option (List Row)) (new : Machine)
    : Type 0 where
  pub policy : List Row
  pub there : made ≡ Some policy
  pub newest : version ≡ length old.policies + 1
  pub after : new ≡ record old { policies = old.policies ++ policy ∷ [] }

-- the mark rises, but not to the newest version
pub record MachineRetires (old : Machine) (mark : ℕ) (new : Machine) : Type 0 where
  pub rises : old.mark < mark
  pub below_newest : mark < length old.policies
  pub after : new ≡ record old { mark = mark }

-- a new packet enters under the present mark
pub record MachineEnters (old : Machine) (number : ℕ) (header : Header) (new : Machine) : Type 0 where
  pub unknown : old.packets number ≡ None
  pub after : new ≡ machine_with_packet old number
      (record { header = header; entry_mark = old.mark; decision = None; end = None })

-- a packet gets, once, the first match of one whole version that wasn't retired when it entered
pub record MachineDecides (old : Machine) (number version : ℕ) (hit : Hit) (new : Machine) : Type 0 where
  pub packet : Packet
  pub policy : List Row
  pub entered : old.packets number ≡ Some packet
  pub undecided : packet.decision ≡ None
  pub not_ended : packet.end ≡ None
  pub not_retired : packet.entry_mark < version
  pub submitted : machine_submitted_policy old version ≡ Some policy
  pub first_match : IsFirstPolicyMatch policy packet.header hit
  pub after : new ≡ machine_with_packet old number (record packet { decision = Some hit })

-- a packet is dropped or leaves only as its decision says; it may be lost or get stuck at any time
abbrev pub MachinePacketMayEnd : Packet → MachinePacketEnd → Type 0
MachinePacketMayEnd packet Dropped = option_map (λ hit. hit.action) packet.decision ≡ Some action.Drop
MachinePacketMayEnd packet (LeftBy port) =
    option_map (λ hit. hit.action) packet.decision ≡ Some (action.Out port)
MachinePacketMayEnd packet _ = ⊤

-- a packet ends, and ends once
pub record MachineEndsPacket (old : Machine) (number : ℕ) (end : MachinePacketEnd) (new : Machine) : Type 0 where
  pub packet : Packet
  pub entered : old.packets number ≡ Some packet
  pub not_ended : packet.end ≡ None
  pub may : MachinePacketMayEnd packet end
  pub after : new ≡ machine_with_packet old number (record packet { end = Some end })

-- what an item does to the machine: a move that the machine may make, or nothing
abbrev pub MachineTakes : Setting → Machine → Item → Machine → Type 0
MachineTakes setting old (item.Submitted file version) new =
    let newest = machine_submitted_policy old (length old.policies) in
    MachineSubmits old version (result_ok (machine_policy_by setting newest file)) new
MachineTakes setting old (item.Retired version) new = MachineRetires old version new
MachineTakes setting old (item.Entered packet switch header) new = MachineEnters old packet header new
MachineTakes setting old (item.Decided packet version rule action how) new =
    MachineDecides old packet version (record { rule = rule; action = action }) new
MachineTakes setting old (item.Dropped packet) new = MachineEndsPacket old packet Dropped new
MachineTakes setting old (item.Left packet port leaving) new = MachineEndsPacket old packet (LeftBy port) new
MachineTakes setting old (item.Lost packet) new = MachineEndsPacket old packet Lost new
MachineTakes setting old (item.Stuck packet switch cause leg down) new = MachineEndsPacket old packet Stuck new
MachineTakes setting old _ new = new ≡ old

-- the machine may take these items one after another
abbrev pub MachineRuns : Setting → Machine → List Item → Machine → Type 0
MachineRuns setting old [] new = new ≡ old
MachineRuns setting old (item ∷ items) new =
    (middle : Machine) × MachineTakes setting old item middle × MachineRuns setting middle items new

-- the journal is a run of the machine from its start
abbrev pub IsMachineRun : Setting → List Item → Type 0
IsMachineRun setting journal = (new : Machine) × MachineRuns setting (first_machine setting) journal new
