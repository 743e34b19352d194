-- The definitions that the laws of this crate use, passed on from the files that define them.
pub use Rattle.control_laws.specs.Acknowledged.{IsControlAckedFirst, IsControlStampAfterAck, ControlLetsStampAfterAck, ControlMembersAcknowledged}
pub use Rattle.control_laws.specs.Adverts.{ControlAdvertsAreOfSwitches, AllControlAdverts, ControlRouteFollowsLinks, IsNoNewerControlAdvert, IsControlRouteOverLinks, ControlAdvertisedLinksAreThere, ControlAdvertNamesLinks, ControlOwnAdvertsAreNewest}
pub use Rattle.control_laws.specs.Always.{AreControlNetworkEvents, ControlLawHoldsAlways, ControlLawHoldsAtEnds, ControlLawHoldsBehindItems, ControlLawHoldsReached}
pub use Rattle.control_laws.specs.Authorities.{ControlLegEndsAt}
pub use Rattle.control_laws.specs.BootLaws.{ControlBootsArePast, ControlHasPastBoot, ControlOpeningMessagesNameOneVersion, ControlServingIsKnown}
pub use Rattle.control_laws.specs.Bounds.{ControlMarksAreBounded}
pub use Rattle.control_laws.specs.Heard.{ControlAcksHold, AreControlInstallTablesPlanned, ControlSwitchHeardTables, ControlInstallsArePlanned}
pub use Rattle.control_laws.specs.ItemCauses.{HasControlItemCause, IsFirstControlOpening, IsControlForKnown, IsControlSenderPresent, IsRightControlMessageFrom, IsRightControlInstall, IsRightControlMessage, IsRightControlOpening, IsRightControlStamp, IsRightControlMessageTo, ControlOpeningHasCause, ControlRetirementHasCause, ControlSubmissionHasCause}
pub use Rattle.control_laws.specs.Named.{ControlBodiesNameThere, IsControlMessageAddressed, ControlMessageNamesThere}
pub use Rattle.control_laws.specs.Planned.{AreControlTablesOf, ControlMessageBringsPlannedTables, ControlTablesArePlanned, ControlVersionsArePlanned}
pub use Rattle.control_laws.specs.Rises.{ControlMarkRiseHasCause}
pub use Rattle.control_laws.specs.Sends.{ControlNumbersAreFew, ControlNumbersFit, ControlStepsSendAtMost, ControlStepsSendFew, control_messages_sent_count}
pub use Rattle.control_laws.specs.Serving.{ControlHoldsStampedVersions, ControlServingHoldVersions}
pub use Rattle.control_laws.specs.Steps.{control_asks_controller}
pub use Rattle.control_laws.specs.Touched.{AreControlTouchedWords, ControlStampsSayTouched, control_stamp_message_to}
