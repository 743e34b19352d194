-- What the bodies of messages are about.
use Rattle.std.specs.Prelude.{Bool, None, Option, Some, false, true, ℕ}
use Rattle.ctrl_msg.specs.declared.message.Body.{Body}
use Rattle.ctrl_msg.specs.declared.message.Body.TheVariants.{Install, OpenAt, Stamp, Collect, CacheRule, Hello, Installed, Stamped}
use Rattle.ctrl_msg.specs.declared.message.Message.{Message}
use Rattle.ctrl_msg.specs.declared.message.Place.TheVariants.{Controller}

-- the version that a body names
abbrev pub body_version : Body → Option ℕ
body_version (Install boot tables) = Some tables.version
body_version (OpenAt boot version) = Some version
body_version (Stamp boot version touched) = Some version
body_version (Collect boot version) = Some version
body_version (CacheRule version word rule action) = Some version
body_version (Installed switch boot version) = Some version
body_version (Stamped switch boot version) = Some version
body_version _ = None

-- a hello and an acknowledgement are for the controller, all other bodies for a switch
abbrev pub is_body_for_controller : Body → Bool
is_body_for_controller (Hello switch boot) = true
is_body_for_controller (Installed switch boot version) = true
is_body_for_controller (Stamped switch boot version) = true
is_body_for_controller _ = false

-- a message with this body to the controller
abbrev pub message_to_controller : Body → Message
message_to_controller body = record { to = Controller; body = body }
