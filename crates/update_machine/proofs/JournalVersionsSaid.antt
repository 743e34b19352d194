-- What versions, their policies and their plans are said to be, on journals of few items.
use Rattle.std.proofs.Common.{[], ◌∙◌, ◌∷◌, ◌≡◌, ◌≤◌, Err, List, None, Ok, Some, ap, arith, length, refl, slice_get, sym, true}
use Rattle.base.proofs.Exports.{All-from_recursion, option_map_or, result_ok, same_Some}
use Rattle.policy_rules.specs.Exports.{IsFirstPolicyMatch, NoRoom, policy_change_applied}
use Rattle.update_machine.specs.Exports.{Absent, Action, Add, Change, MachineDecides, Drop, MachineVersionHasPlan, How, IsJournalReached, IsMachineRun, Item, Machine, Out, Remove, Row, Setting, Step, MachineStepOfRow, MachineSubmits, Taken, MachineTakes, JournalVersionsAreNumbered, Whole, machine_file_at, journal_version_file, first_machine, machine_forget_items, is_deliverable, is_journal_version, journal_message_of, journal_next_policy, piece, journal_plan_at, machine_policy_at, machine_policy_by, machine_policy_in, journal_retired_mark, machine_submitted_policy, machine_update_code, journal_version_count}
use Rattle.update_machine.specs.Machine.{Packet}
use Rattle.update_machine.proofs.JournalExampleNetworks.{all_to, at, by_action, leaving, one, open_net, out_or_drop, plan_p, plan_q, two_switches, versions}
use Rattle.steps.specs.Exports.{IsStep}

-- ---- a run of the abstract machine, computed

first_match_of : (action : Action)
    → IsFirstPolicyMatch (all_to action ∷ []) one (record { rule = Some 100; action = action })
first_match_of action = (
  all_to action,
  record {
    member = (0, omega arith, refl);
    highest = All-from_recursion (λ (other : Row). other.priority ≤ 100) (all_to action ∷ [])
        (omega arith, tt);
  },
  refl,
  refl,
)

-- a packet is decided by version 1; then version 2 comes and 1 is retired, and another packet is
-- decided by version 2
pub is_run : IsMachineRun open_net (Item.Row 1 (Step.Packet 0 one) ∷ Item.Entered 1 0 one ∷ Item.Decided 1
    1 (Some 100) (Out 2) (How.Authority 1 0) ∷ Item.Left 1 2 (leaving 1 one 1 (Some 100))
    ∷ Item.Submitted 2 2 ∷ Item.Retired 1 ∷ Item.Entered 2 0 one
    ∷ Item.Decided 2 2 (Some 100) Drop (How.Authority 1 0) ∷ Item.Dropped 2 ∷ [])
is_run = (
  _,
  (
    _,
    refl,
    (
      _,
      record { unknown = refl; after = refl },
      (
        _,
        record {
          packet = record { header = one; entry_mark = 0; decision = None; end = None };
          policy = all_to (Out 2) ∷ [];
          entered = refl;
          undecided = refl;
          not_ended = refl;
          not_retired = omega arith;
          submitted = refl;
          first_match = first_match_of (Out 2);
          after = refl;
        },
        (
          _,
          record {
            packet = record {
              header = one;
              entry_mark = 0;
              decision = Some (record { rule = Some 100; action = Out 2 });
              end = None;
            };
            entered = refl;
            not_ended = refl;
            may = refl;
            after = refl;
          },
          (
            _,
            record { policy = all_to Drop ∷ []; there = refl; newest = refl; after = refl },
            (
              _,
              record { rises = omega arith; below_newest = omega arith; after = refl },
              (
                _,
                record { unknown = refl; after = refl },
                (
                  _,
                  record {
                    packet = record { header = one; entry_mark = 1; decision = None; end = None };
                    policy = all_to Drop ∷ [];
                    entered = refl;
                    undecided = refl;
                    not_ended = refl;
                    not_retired = omega arith;
                    submitted = refl;
                    first_match = first_match_of Drop;
                    after = refl;
                  },
                  (
                    _,
                    record {
                      packet = record {
                        header = one;
                        entry_mark = 1;
                        decision = Some (record { rule = Some 100; action = Drop });
                        end = None;
                      };
                      entered = refl;
                      not_ended = refl;
                      may = refl;
                      after = refl;
                    },
                    refl,
                  ),
                ),
              ),
            ),
          ),
        ),
      ),
    ),
  ),
)

-- no packet is decided by a version that was retired as it entered
pub retired_decides_nothing : (old : Machine) (packet : Packet) (new : Machine) → old.packets 1
    ≡ Some packet
    → packet.entry_mark ≡ 1 → MachineDecides old 1 1 (record { rule = Some 100; action = Out 2 }) new → ⊥
retired_decides_nothing old packet new entered mark decides =
    let its : decides.packet.entry_mark ≡ 1 = ap (λ (p : Packet). p.entry_mark)
    (same_Some decides.packet packet (sym decides.entered ∙ entered)) ∙ mark in
    omega (arith, its, decides.not_retired)

-- ---- what changes make of versions' policies, on journals of few items

-- `100,any,any,any,any,any,out:2` and `50,any,any,any,any,any,drop`
abbrev out : Row
out = all_to (Out 2)

abbrev drop : Row
drop = record (all_to Drop) { priority = 50 }

-- the first file has the one row, the second adds the other, and the third removes the first
abbrev changed : Setting
changed = record {
  net = two_switches;
  files = Whole (out ∷ []) ∷ Change (Add drop ∷ []) ∷ Change (Remove 100 ∷ []) ∷ [];
  plan = by_action (Ok plan_p) (Ok plan_q);
}

-- ---- policies

-- a change is applied to the policy of the version before, ..
pub added : machine_policy_in changed (Item.Submitted 2 2 ∷ []) 2 ≡ Some (out ∷ drop ∷ [])
unfolding machine_policy_in journal_version_file policy_change_applied
added = refl

pub removed : machine_policy_in changed (Item.Submitted 2 2 ∷ Item.Submitted 3 3 ∷ []) 3 ≡ Some (drop ∷ [])
unfolding machine_policy_in journal_version_file policy_change_applied
removed = refl

-- .. which may be that of a whole file again
pub anew : machine_policy_in changed (Item.Submitted 2 2 ∷ Item.Submitted 1 3 ∷ Item.Submitted 2 4 ∷ []) 4
    ≡ Some (out ∷ drop ∷ [])
unfolding machine_policy_in journal_version_file policy_change_applied
anew = refl

-- where the version before isn't there a change makes no policy, and later items may bring one
pub none_before : machine_policy_in changed (Item.Submitted 2 3 ∷ []) 3 ≡ None
unfolding machine_policy_in journal_version_file
none_before = refl

pub brought_later : machine_policy_in changed (Item.Submitted 2 3 ∷ Item.Submitted 1 2 ∷ []) 3
    ≡ Some (out ∷ drop ∷ [])
unfolding machine_policy_in journal_version_file policy_change_applied
brought_later = refl

-- ---- updates

-- an update is of the newest version, whichever is current
pub next_of_newest : journal_next_policy changed (Item.Submitted 2 2 ∷ []) 3 ≡ Ok (drop ∷ [])
unfolding journal_next_policy machine_policy_in journal_version_file journal_version_count policy_change_applied
next_of_newest = refl

pub taken : journal_next_policy changed (Item.Submitted 2 2 ∷ []) 2 ≡ Err Taken
unfolding journal_next_policy machine_policy_in journal_version_file journal_version_count policy_change_applied
taken = refl

pub codes : (machine_update_code changed (Item.Submitted 2 2 ∷ []) 2 ≡ Some 25)
    × (machine_update_code changed (Item.Submitted 2 2 ∷ Item.Submitted 3 3 ∷ []) 3 ≡ Some 24)
    × (machine_update_code changed (Item.Submitted 2 2 ∷ []) 3 ≡ None)
unfolding journal_next_policy machine_policy_in journal_version_file journal_version_count journal_retired_mark policy_change_applied
codes = (refl, refl, refl)

-- ---- the machine

-- it takes the policy that the file makes of its own newest one ..
pub takes : (new : Machine) → MachineTakes changed (first_machine changed) (Item.Submitted 2 2) new
    → new.policies ≡ (out ∷ []) ∷ (out ∷ drop ∷ []) ∷ []
unfolding policy_change_applied
takes new submits = let own : out ∷ drop ∷ [] ≡ submits.policy = cc submits.there in
    ap (λ (m : Machine). m.policies) submits.after
    ∙ ap (λ policy. (out ∷ []) ∷ policy ∷ []) (sym own)

-- .. and not the rows of the file alone
pub not_alone : (new : Machine) → MachineTakes changed (first_machine changed) (Item.Submitted 2 2) new
    → new.policies ≡ (out ∷ []) ∷ (drop ∷ []) ∷ [] → ⊥
not_alone new submits alone =
    let rows = ap (λ policies. option_map_or length (slice_get policies 1) 0)
    (sym (takes new submits) ∙ alone) in
    omega (arith, rows)

-- ---- versions said

-- ---- files

abbrev submitted : List Item
submitted = Item.Submitted 3 2 ∷ Item.Submitted 1 3 ∷ []

pub file_of_2 : journal_version_file submitted 2 ≡ Some 3
unfolding journal_version_file
file_of_2 = refl

pub file_of_3 : journal_version_file submitted 3 ≡ Some 1
unfolding journal_version_file
file_of_3 = refl

-- a version that wasn't submitted has no file, and there is no version 0
pub no_file_of_4 : journal_version_file submitted 4 ≡ None
unfolding journal_version_file
no_file_of_4 = refl

pub no_file_of_0 : journal_version_file submitted 0 ≡ None
unfolding journal_version_file
no_file_of_0 = refl

-- nor are there a file 0 and a third one
pub file_at_0 : machine_file_at open_net 0 ≡ None
file_at_0 = refl

pub file_at_3 : machine_file_at open_net 3 ≡ None
file_at_3 = refl

-- a version has the policy of its file and its plan
pub policy_of_3 : machine_policy_at open_net submitted 3 ≡ all_to (Out 2) ∷ []
unfolding machine_policy_at machine_policy_in journal_version_file
policy_of_3 = refl

pub plan_of_3 : journal_plan_at open_net submitted 3 ≡ plan_p
unfolding journal_plan_at machine_policy_in journal_version_file
plan_of_3 = refl

-- and none where its file isn't there, or the version
pub no_policy_of_2 : machine_policy_at open_net submitted 2 ≡ []
unfolding machine_policy_at machine_policy_in journal_version_file
no_policy_of_2 = refl

pub no_plan_of_4 : journal_plan_at open_net submitted 4 ≡ []
unfolding journal_plan_at machine_policy_in journal_version_file
no_plan_of_4 = refl

-- of two items of one version the first gives the file
pub first_file : journal_version_file (Item.Submitted 3 2 ∷ Item.Submitted 1 2 ∷ []) 2 ≡ Some 3
unfolding journal_version_file
first_file = refl

-- the versions 1 to 3 are there; where only the third was submitted, the second one lacks
pub numbered : (is_journal_version submitted 2 ≡ true) × (is_journal_version submitted 3 ≡ true)
unfolding journal_version_file
numbered = (refl, refl)

pub not_numbered : JournalVersionsAreNumbered (Item.Submitted 1 3 ∷ []) → ⊥
unfolding journal_version_file journal_version_count
not_numbered are = cc ((are 2).1 (omega arith, omega arith))

-- of them those have a plan that are there, and whose file is
pub planned_3 : MachineVersionHasPlan open_net submitted 3
unfolding machine_policy_at journal_plan_at machine_policy_in journal_version_file
planned_3 = record { policy = refl; plan = refl }

pub not_planned_4 : MachineVersionHasPlan open_net submitted 4 → ⊥
unfolding machine_policy_at machine_policy_in journal_version_file
not_planned_4 has = cc has.policy

-- the next version has the policy that its file has, or makes of the newest one's
pub next_of_2 : journal_next_policy open_net submitted 2 ≡ Ok (all_to Drop ∷ [])
unfolding journal_next_policy
next_of_2 = refl

pub next_of_3 : journal_next_policy open_net submitted 3 ≡ Err Absent
unfolding journal_next_policy
next_of_3 = refl

-- the machine takes no policy of a file that isn't there
pub nothing_submitted : (old new : Machine) → MachineSubmits old 2
    (result_ok (machine_policy_by open_net (machine_submitted_policy old (length old.policies)) 3)) new → ⊥
nothing_submitted old new submits = cc submits.there

-- ---- refusals

-- the second file has no plan, and there is no third one
abbrev too_large : Setting
too_large = record {
  net = two_switches;
  files = out_or_drop;
  plan = by_action (Ok plan_p) (Err (NoRoom 0));
}

pub taken_in : machine_update_code too_large [] 1 ≡ None
unfolding journal_version_count journal_retired_mark journal_next_policy
taken_in = refl

pub without_plan : machine_update_code too_large [] 2 ≡ Some 15
unfolding journal_version_count journal_retired_mark journal_next_policy
without_plan = refl

pub without_file : (machine_update_code too_large [] 3 ≡ Some 24) × (machine_update_code too_large [] 0 ≡ Some 24)
unfolding journal_version_count journal_retired_mark journal_next_policy
without_file = (refl, refl)

pub eight_live : machine_update_code open_net (versions 8 0) 1 ≡ Some 16
unfolding journal_version_count journal_retired_mark journal_next_policy
eight_live = refl

pub seven_live : machine_update_code open_net (versions 8 1) 1 ≡ None
unfolding journal_version_count journal_retired_mark journal_next_policy
seven_live = refl

pub all_there : machine_update_code open_net (versions 64 60) 1 ≡ Some 17
unfolding journal_version_count journal_retired_mark journal_next_policy
all_there = refl

-- ---- steps of the network

pub reached : IsJournalReached open_net (Item.Row 1 (Step.Forget 1) ∷ Item.Nothing ∷ [])
unfolding piece machine_forget_items is_deliverable journal_message_of
reached = record {
  steps = at 1 (Step.Forget 1) ∷ [];
  own = All-from_recursion (λ (next : MachineStepOfRow). IsStep open_net.net (length open_net.files)
      next.step) (at 1 (Step.Forget 1) ∷ []) (omega arith, tt);
  written = refl;
}

-- it has no switch 2 and no file 3
pub no_switch_2 : IsStep open_net.net (length open_net.files) (Step.Crash 2) → ⊥
no_switch_2 own = omega (arith, own)

pub no_file_3 : IsStep open_net.net (length open_net.files) (Step.Update 3) → ⊥
no_file_3 own = omega (arith, own)
