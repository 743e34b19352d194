-- What a switch replies about a version.
use Rattle.std.specs.Prelude.{ℕ}
use Rattle.version_update.specs.Exports.{mark_record_after_installed, update_after_stamped}
use Rattle.version_update.specs.declared.record.SwitchRecord.{SwitchRecord}
use Rattle.controller.specs.declared.replying.ControllerReply.{ControllerReply}
use Rattle.controller.specs.declared.replying.ControllerReply.TheVariants.{Installed, Stamped}

-- the record of a switch after its reply, in this boot and about this version
abbrev pub controller_record_after_reply : ControllerReply → ℕ → ℕ → SwitchRecord → SwitchRecord
controller_record_after_reply Installed boot version = mark_record_after_installed boot version
controller_record_after_reply Stamped boot version = update_after_stamped boot version
