-- The definitions that clauses of this crate and of those above use for the controller, passed on
-- from the files that define them.
pub use Rattle.controller.specs.Causes.{controller_placement_plan_cause, controller_rules_plan_cause, controller_tree_plan_cause}
pub use Rattle.controller.specs.Controller.{ControllerValue, IsSoundController, ControllerKeptPlan, ControllerSettlesWith, ControllerStaysSound, controller_current_plan, controller_current_plan_touched, controller_at_start, controller_kept_plan_tables, controller_kept_plan_touched, controller_live_versions, controller_newest_policy, controller_kept_plans_from}
unfoldable pub use Rattle.controller.specs.Leads.{ControllerPlanLeadsEveryHeader}
pub use Rattle.controller.specs.News.{controller_news_body, controller_switches_in_mask}
pub use Rattle.controller.specs.Plan.{IsSoundControllerPlan, ControllerPlanValue, ControllerRefusesPlan}
pub use Rattle.controller.specs.Replies.{controller_record_after_reply}
pub use Rattle.controller.specs.Sends.{NamesWithinControllerMarks, ControllerReplyNamesExist, controller_recorded_boot, controller_collect_acts, controller_hear_acts, controller_install_act, controller_installs_after, is_missing_controller_install, controller_marks_after, controller_missing_installs, controller_open_acts, controller_post_act, controller_posts_to, controller_resend_acts, controller_resend_acts_to, controller_mark_rising_acts, controller_settling_acts, controller_stamp_acts, controller_submit_acts, controller_switches_by_record}
pub use Rattle.controller.specs.Submit.{IsControllerLeftByRefusal, ControllerSubmitsPlan, controller_next_kept_plan}
pub use Rattle.controller.specs.Touching.{ControllerListsTouched, ControllerListsMoreTouched, controller_touched_few}
