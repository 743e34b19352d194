-- The causes of the journals' items.
use Rattle.std.proofs.Common.{[], ◌∷◌, ◌≡◌, All, IsTrue, List, Some, ap, arith, inl, inr, refl, subst, sym, take, ℕ}
use Rattle.std.specs.Prelude.{⊤}
use Rattle.std.proofs.lemmas.Bool.Decides.{nat_tests}
use Rattle.std.proofs.lemmas.List.Elements.{All-from_recursion, All-head}
use Rattle.std.proofs.lemmas.Option.{same_Some}
use Rattle.update_machine.specs.Exports.{Decision, HasMachineCause, JournalItemsHaveCauses, MachineLosesRightly, Item, MachineWalkLeads, Out, journal_claim_of, journal_decision_of, journal_packet_header, is_link_up_in_journal, is_journal_link_open, journal_message_of, journal_present_step, serves, journal_standing_of}
use Rattle.wrong_journals.specs.Exports.{right_journal_left, wrong_journal_lost_by_nothing, wrong_journal_office, wrong_journal_other_port, wrong_journal_stuck_beside_route, right_journal_stuck}

-- an item that needs no cause, and those behind it
free : {causes : Type 0} → causes → ⊤ × causes
free behind = (tt, behind)

-- ---- journals whose items have their causes

-- the packet leaves at b
pub left_rightly_has_causes : JournalItemsHaveCauses (HasMachineCause wrong_journal_office) [] right_journal_left
unfolding journal_standing_of journal_packet_header journal_decision_of
left_rightly_has_causes = free (free (free (free (free (free (
  record {
    switch = 1;
    stands = refl;
    has_port = refl;
    number = refl;
    header = refl;
    decided = refl;
  },
  tt,
))))))

-- no link is left to the packet
abbrev cut_off : List Item
cut_off = take 5 right_journal_stuck

no_way : (path : List ℕ) → MachineWalkLeads (is_journal_link_open wrong_journal_office cut_off 1 0) 0 path 1 → ⊥
unfolding serves is_link_up_in_journal
no_way [] leads = let same : ◌≡◌ {A = ℕ} 0 1 = leads in cc
no_way (next ∷ path) leads = let first : IsTrue (is_journal_link_open wrong_journal_office cut_off 1 0 0 next) = leads.0 in
    grind (arith, nat_tests, first)

pub stuck_rightly_has_causes : JournalItemsHaveCauses (HasMachineCause wrong_journal_office) [] right_journal_stuck
unfolding journal_standing_of serves journal_present_step journal_decision_of
stuck_rightly_has_causes = free (
  inl refl,
  free (free (free (
    record {
      stands = refl;
      serving = refl;
      targets = 1 ∷ [];
      own_leg = (_, refl, refl, refl);
      no_path = All-from_recursion (λ (target : ℕ). (path : List ℕ)
          → ¬ MachineWalkLeads (is_journal_link_open wrong_journal_office cut_off 1 0) 0 path target) (1 ∷ []) (no_way, tt);
    },
    tt,
  ))),
)

-- ---- journals of which an item has none

-- by a port that isn't the decision's
pub other_port_has_no_cause : JournalItemsHaveCauses (HasMachineCause wrong_journal_office) [] wrong_journal_other_port → ⊥
unfolding journal_decision_of
other_port_has_no_cause causes =
    let own : Decision = record { version = 1; rule = Some 100; action = Out 2 } in
    let told : Decision = record { version = 1; rule = Some 100; action = Out 1 } in
    let same : Out 2 ≡ Out 1 =
    ap (λ (d : Decision). d.action) (same_Some own told causes.1.1.1.0.decided) in
    cc

-- no row, and no crash
not_lost : MachineLosesRightly (take 2 wrong_journal_lost_by_nothing) 1 → ⊥
unfolding journal_present_step
not_lost (inl row) = cc
not_lost (inr crash) = let crashes = crash.crashes in cc

pub lost_by_nothing_has_no_cause : JournalItemsHaveCauses (HasMachineCause wrong_journal_office) [] wrong_journal_lost_by_nothing → ⊥
lost_by_nothing_has_no_cause causes = not_lost causes.1.1.0

-- the link from a leads to b
pub stuck_beside_a_way_has_no_cause : JournalItemsHaveCauses (HasMachineCause wrong_journal_office) [] wrong_journal_stuck_beside_route → ⊥
unfolding serves is_link_up_in_journal journal_claim_of journal_message_of
stuck_beside_a_way_has_no_cause causes =
    let stuck = causes.1.1.1.0 in
    let no_way_to : ℕ → Type 0 = λ target. (path : List ℕ)
    → ¬ MachineWalkLeads (is_journal_link_open wrong_journal_office (take 3 wrong_journal_stuck_beside_route) 1 0) 0 path target in
    All-head no_way_to 1 []
    (subst (λ (targets : List ℕ). All no_way_to targets) (sym stuck.own_leg.3) stuck.no_path)
    (1 ∷ []) (refl, refl)
