-- The steps that may change what the controller knows; a resend only sends what it knows again.
use Rattle.std.specs.Prelude.{Bool, List, false, true}
use Rattle.update_machine.specs.Exports.{Confirm, Deliver, Item, Step, Update, is_journal_controller_message}

abbrev pub control_asks_controller : List Item → Step → Bool
control_asks_controller before (Deliver number) = is_journal_controller_message before number
control_asks_controller before (Update file) = true
control_asks_controller before (Confirm s) = true
control_asks_controller before _ = false
