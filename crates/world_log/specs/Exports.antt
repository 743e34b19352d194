-- The definitions of this crate that others use, passed on from the files that define them.
pub use Rattle.world_log.specs.Linking.{AreLogNearMasks, AreLogSwitchesRelinked, LogSetsLink, log_advert_if_held, world_log_adverts_again, logged_adverts_relinked_at, logged_adverts_on_change, log_adverts_over, log_held_adverts, log_links_change, logged_near_mask_where, log_switch_relinked, logged_switch_serves_at}
unfoldable pub use Rattle.world_log.specs.Linking.{log_all_adverts_sent, logged_near_all, logged_near_mask_by}
pub use Rattle.world_log.specs.Losing.{AreLoggedLossesBelow, log_numbers_below}
pub use Rattle.world_log.specs.Packets.{LogHasHopped, Hops, MayLoggedPacketGoOn, LogMeetsDownLink, log_coming_in, log_ended_flight, log_ended_items, log_ended_posts, log_ended_switch, entry, log_followed, log_followed_flight, log_followed_items, log_followed_posts, log_hop_flight, log_hop_posts, log_hop_written, log_hopped_flight, log_hopped_switch, log_turned_items}
unfoldable pub use Rattle.world_log.specs.Packets.{log_arrival, log_arrival_items, log_arrival_posts}
pub use Rattle.world_log.specs.Sending.{LogHasNoted, IsLoggedActSpelled, LogMayNote, LogMaySend, log_act_item, log_act_post, log_number_after_act}
unfoldable pub use Rattle.world_log.specs.Sending.{log_act_items, log_act_posts}
pub use Rattle.world_log.specs.Writing.{IsLogPart, LogAfter, log_answer_flight, log_answer_items, log_answer_posts, log_arrived_flight, log_arrived_items, log_arrived_posts, log_cache_message, log_decided_flight, log_decided_items, log_end_item, log_entered_flight, log_entered_items, log_entered_posts, log_exit_leg, log_left_item, log_message_list, log_packet_standing, log_set_flight, log_set_item}
