-- The definitions that the laws of this crate use, passed on from the files that define them.
pub use Rattle.refinement.specs.Asked.{CanRefinedSwitchRestart, HasRefinedNextSeq, RefinementRequirementsHold}
pub use Rattle.refinement.specs.Bags.{IsRefinedBagOf}
unfoldable pub use Rattle.refinement.specs.Bags.{refined_post_at}
pub use Rattle.refinement.specs.Begun.{refined_switch_begun}
pub use Rattle.refinement.specs.Calls.{AreRefinedInStep, CallsRefine, IsRefinedInStep, BeginsNoRefinedStep, NoRefinedRows}
pub use Rattle.refinement.specs.Controller.{IsRefinedController, IsNextPlanRefined, refined_plan_to_keep}
unfoldable pub use Rattle.refinement.specs.Flights.{refined_flight_in, refined_flight_of}
pub use Rattle.refinement.specs.Hearing.{HearingRefines, RefinementHearsOpening, RefinementHearsShut, IsRefinedSentTo, refined_journal_within_delivery}
pub use Rattle.refinement.specs.Knowing.{KnowledgeRefines, RefinementTablesAreKnown}
pub use Rattle.refinement.specs.Life.{LivesRefine, refined_expired_by, refined_message_at}
pub use Rattle.refinement.specs.Links.{RefinementLeavesSwitch, LinksRefine, refined_link_messages, refined_link_step, refined_relinked_switch}
pub use Rattle.refinement.specs.Marks.{AreMarksRefined, IsKnownRefined}
pub use Rattle.refinement.specs.PacketSteps.{BagsRefine, RefinedPacketComes, EntriesRefine, HopsRefine, IsRefinedJournalOfNet, refined_entry_at}
pub use Rattle.refinement.specs.Refinement.{RefineUpLinks, RefineUsableLinks, RefinedNetworkState, RefineJournal, is_refined_up_link, refined_up_links}
pub use Rattle.refinement.specs.Spelled.{AreRefinedMessagesSpelled}
pub use Rattle.refinement.specs.SwitchOf.{refined_collect_in, refined_tables_in, refined_tables_kept, refined_with_tables}
unfoldable pub use Rattle.refinement.specs.SwitchOf.{refined_switch_of}
pub use Rattle.refinement.specs.Written.{AreRefinedActsWritten, refined_resend_acts, refined_act_item, refined_acts_written}
