-- The lemmas of this crate that others use, passed on from the files that prove them.
pub use Rattle.convergence_laws.proofs.ConvergenceFloods.{steps_spread}
pub use Rattle.convergence_laws.proofs.ConvergenceNews.{Spread}
pub use Rattle.convergence_laws.proofs.ConvergenceAgreement.{AreSpread, IsGivenNew, TellsOwn, spread_agree}
pub use Rattle.convergence_laws.proofs.ConvergenceAnswers.{answer_of, delivery_is, opens}
pub use Rattle.convergence_laws.proofs.ConvergenceLawsCallerLemmas.{AreKept, Behind, Both, ControlLawHoldsAtEnds, IsWork, NamesOwn, StaysSo, Walks, fact_on, have_both, have_rest, have_weaker, hop_work, moves, near_back, packet_works, piece_has, reach_more, rule_cases, stays_itself, stays_on}
pub use Rattle.convergence_laws.proofs.ConvergenceCaughtUp.{AreReady, IsCaughtUp, caught_updated, items_caused}
pub use Rattle.convergence_laws.proofs.ConvergenceLinkChanges.{ends_there, held_in, newest_held, own_held}
pub use Rattle.convergence_laws.proofs.ConvergedReceipts.{delivered_append, heard_in_boot, own_boot, sendings_on}
pub use Rattle.convergence_laws.proofs.ConvergenceDownSwitches.{caused_recorded, waited_more}
pub use Rattle.convergence_laws.proofs.ConvergenceNewsLaws.{all_end, contains_in, ends_spread, ends_tell, flush_ends, last_ends, none_found, none_waits, one_delivered, sent_delivered}
pub use Rattle.convergence_laws.proofs.ConvergenceTables.{TablesSent}
pub use Rattle.convergence_laws.proofs.ConvergencePlainItems.{IsIn, IsPlain, Plain, all_in, delivery_plain, each_in, each_of_in, in_at, in_either, in_filter, in_filter_map, in_flat_map, in_left, in_map, in_range, in_right, is_plain, of_filter, of_filter_map, step_plain}
pub use Rattle.convergence_laws.proofs.ConvergenceMessages.{AreTraced, IsInOrder, IsSent, IsTraced, caused_traced, deliverable_sent, delivered_more, forgotten_more, next_first, next_grows, pieces_in_order, sendings_more, sent_by}
pub use Rattle.convergence_laws.proofs.ConvergenceAdverts.{HasNews, IsHad, IsStill, IsToldTo, Leaves, as_new_itself, had_back, sends_tell, stills_leave, told_stills}
pub use Rattle.convergence_laws.proofs.ConvergenceUpdates.{first_acked, hello_known, installed_acked, opened_stamps, some_opening, stamped_acked, steps_ready}
