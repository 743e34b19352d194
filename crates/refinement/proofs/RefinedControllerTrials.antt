-- The definitions, computed on two switches: what acts write, and what a controller is or isn't.
use Rattle.std.proofs.Common.{[], ◌++◌, ◌∙◌, ◌∷◌, ◌≡◌, Bool, List, None, Result, Some, ap, false, map, refl, sym, true, ℕ}
use Rattle.base.proofs.Exports.{option_map_or, result_ok}
use Rattle.update_machine.specs.Exports.{Drop, Hello, Inapplicable, Install, Item, Out, Row, Stamp, machine_after_hello, journal_controller_heard, journal_current_mark, journal_version_file, machine_installs_to_all, journal_known_boot, journal_message_of, journal_next_message, journal_next_policy, machine_policy_at, journal_retired_mark, machine_sent_items_from, machine_touched_by, machine_update_code, journal_version_count, journal_versions_from_current}
use Rattle.ctrl_msg.specs.Exports.{message_to_controller}
use Rattle.partition.specs.Plan.{HostedPolicyPartition}
use Rattle.switch_table.specs.Exports.{cache_all_touched, tables_of}
use Rattle.update_machine.specs.Marks as machine
use Rattle.update_machine.proofs.Exports.{all_to, first_plan, first_policy, first_touched, open_net, plan_p, plan_q, second_plan, second_policy, to, versions}
use Rattle.version_update.specs.Exports.{first_update_record}
use Rattle.controller.specs.Exports.{ControllerKeptPlan, ControllerPlanValue, controller_at_start, controller_install_act}
use Rattle.controller.specs.declared.sends.Act.TheVariants.{Current, Post, Retired}
use Rattle.ternary.specs.Exports.{WordValue}
use Rattle.refinement.specs.Exports.{IsRefinedController, IsKnownRefined, IsNextPlanRefined, refined_plan_to_keep, refined_acts_written}
use Rattle.refinement.proofs.RefinedControllerCalls.{begins}

-- ---- acts

-- each message has the next number
numbered : refined_acts_written (Item.Sent 1 (to 0 (Stamp 1 1 [])) ∷ []) (Current 2
    ∷ Post (to 0 (Stamp 1 2 [])) ∷ Retired 1 ∷ Post (to 1 (Stamp 1 2 [])) ∷ []) ≡ Item.Current 2
    ∷ Item.Sent 2 (to 0 (Stamp 1 2 [])) ∷ Item.Retired 1 ∷ Item.Sent 3 (to 1 (Stamp 1 2 [])) ∷ []
unfolding journal_next_message
numbered = refl

-- ---- plans

-- the first policy lets out, that of the second file drops
abbrev outs : ControllerPlanValue
outs = record { policy = all_to (Out 2) ∷ []; hosted = plan_p }

abbrev drops : ControllerPlanValue
drops = record { policy = all_to Drop ∷ []; hosted = plan_q }

abbrev plan_by : List Row → List HostedPolicyPartition → ControllerPlanValue
plan_by policy hosted = record { policy = policy; hosted = hosted }

of_first : (journal : List Item) → outs ≡ (refined_plan_to_keep open_net journal 1).plan
of_first journal = cc (first_policy journal, first_plan journal)

of_second : (items : List Item)
    → drops ≡ (refined_plan_to_keep open_net (Item.Submitted 2 2 ∷ items) 2).plan
of_second items = cc (second_policy [] items tt, second_plan [] items tt)

next_drops : IsNextPlanRefined open_net [] 2 drops cache_all_touched
unfolding journal_next_policy
next_drops = record { policy = refl; hosted = refl; touches = refl }

lets_out : List Row → Bool
lets_out [] = false
lets_out (row ∷ rows) = elim row.action [ Drop ↦ false | Out port ↦ true ]

-- neither the other plan nor that of a file that isn't there
not_next_of_first : (touched : List WordValue) → IsNextPlanRefined open_net [] 1 drops touched → ⊥
unfolding lets_out journal_next_policy
not_next_of_first touched of = absurd (cc (ap (λ (made : Result (List Row) Inapplicable).
    option_map_or lets_out (result_ok made) false) of.policy))

not_next_of_third : (touched : List WordValue) → IsNextPlanRefined open_net [] 3 outs touched → ⊥
unfolding journal_next_policy
not_next_of_third touched of = cc of.policy

begun : IsRefinedController open_net [] (controller_at_start 2 outs)
begun = begins open_net outs (of_first [])

first_lets_out : List ControllerKeptPlan → Bool
first_lets_out [] = false
first_lets_out (kept ∷ plans) = lets_out kept.plan.policy

-- a controller that begins with another policy's plan isn't the journal's
not_begun : IsRefinedController open_net [] (controller_at_start 2 drops) → ⊥
unfolding journal_current_mark journal_version_count lets_out first_lets_out
not_begun is =
    let no : false ≡ true = ap first_lets_out is.plans ∙ ap lets_out (first_policy []) in absurd cc

-- of two versions both are kept while the first one is current, and then the second one alone
abbrev submitted : List Item
submitted = Item.Submitted 2 2 ∷ []

-- each file is a policy of its own, which touches everything
second_touches : (items : List Item)
    → machine_touched_by open_net (Item.Submitted 2 2 ∷ items) 2 ≡ cache_all_touched
unfolding machine_touched_by journal_version_file
second_touches items = refl

abbrev second_kept : ControllerPlanValue → List WordValue → ControllerKeptPlan
second_kept plan touched = record { version = 2; plan = plan; touched = touched }

abbrev both : ControllerPlanValue → List WordValue → ControllerKeptPlan → List ControllerKeptPlan
both plan touched second = (record { version = 1; plan = plan; touched = touched }) ∷ second ∷ []

second_is : (items : List Item) → second_kept drops cache_all_touched
    ≡ refined_plan_to_keep open_net (Item.Submitted 2 2 ∷ items) 2
second_is items = cc (of_second items, second_touches items)

both_kept : map (refined_plan_to_keep open_net submitted) (journal_versions_from_current submitted)
    ≡ both outs cache_all_touched (second_kept drops cache_all_touched)
unfolding journal_current_mark journal_version_count
both_kept =
    sym (ap (λ plan. both plan cache_all_touched (second_kept drops cache_all_touched)) (of_first submitted)
    ∙ ap (λ touched. both (refined_plan_to_keep open_net submitted 1).plan touched
    (second_kept drops cache_all_touched)) (sym (first_touched open_net submitted))
    ∙ ap (λ second. refined_plan_to_keep open_net submitted 1 ∷ second ∷ []) (second_is []))

abbrev risen : List Item
risen = submitted ++ Item.Current 2 ∷ []

one_kept : map (refined_plan_to_keep open_net risen) (journal_versions_from_current risen)
    ≡ second_kept drops cache_all_touched ∷ []
unfolding journal_current_mark journal_version_count
one_kept = sym (ap (λ second. second ∷ []) (second_is (Item.Current 2 ∷ [])))

-- ---- switches

-- a switch that is over isn't known as at first
abbrev over : List Item
over = Item.OverNow 0 ∷ []

is_over : machine.is_over over 0 ≡ true
unfolding machine.is_over journal_known_boot journal_controller_heard journal_message_of
is_over = refl

not_as_first : IsKnownRefined over 0 first_update_record → ⊥
not_as_first is = let no : false ≡ true = is.over ∙ is_over in absurd cc

-- ---- acts that the definition doesn't write

-- a hello of a boot that is known brings no tables
abbrev late : List Item
late = Item.Sent 1 (message_to_controller (Hello 0 1)) ∷ []

nothing_late : machine_after_hello open_net late (Hello 0 1) late ≡ []
unfolding journal_known_boot journal_controller_heard journal_message_of
nothing_late = refl

not_installed : refined_acts_written late (map (controller_install_act 0 1) (controller_at_start 2 outs).plans)
    ≡ machine_after_hello open_net late (Hello 0 1) late → ⊥
unfolding journal_next_message journal_known_boot journal_controller_heard journal_message_of
not_installed same = cc same

-- a new version isn't sent to a switch that is over
abbrev later : List Item
later = over ++ Item.Submitted 2 2 ∷ []

abbrev second : ℕ → Item
second s = Item.Sent 1 (to s (Install 1 (tables_of plan_q 2 s)))

to_other_alone : machine_installs_to_all open_net later ≡ second 1 ∷ []
unfolding machine_installs_to_all machine.is_over journal_known_boot journal_controller_heard journal_message_of journal_next_message
    machine_sent_items_from journal_version_count
to_other_alone = cc (second_plan over [] (refl, tt))

not_to_both : refined_acts_written later (map (λ s. controller_install_act s 1 (second_kept drops cache_all_touched))
    (0 ∷ 1 ∷ [])) ≡ machine_installs_to_all open_net later → ⊥
unfolding journal_next_message
not_to_both same = let alone = same ∙ to_other_alone in cc alone

-- ---- refusals: of a file without a policy first, then of too many live versions, then of too many

no_policy_first : machine_update_code open_net (versions 8 0) 7 ≡ Some 24
unfolding journal_next_policy
no_policy_first = refl

too_many_live : machine_update_code open_net (versions 8 0) 2 ≡ Some 16
unfolding journal_version_count journal_retired_mark journal_next_policy
too_many_live = refl

live_first : machine_update_code open_net (versions 64 56) 2 ≡ Some 16
unfolding journal_version_count journal_retired_mark journal_next_policy
live_first = refl

too_many_versions : machine_update_code open_net (versions 64 57) 2 ≡ Some 17
unfolding journal_version_count journal_retired_mark journal_next_policy
too_many_versions = refl

seven_live : machine_update_code open_net (versions 7 0) 2 ≡ None
unfolding journal_version_count journal_retired_mark journal_next_policy
seven_live = refl
