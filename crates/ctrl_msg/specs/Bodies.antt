-- What the messages of a controller and its switches carry.
use Rattle.std.specs.Prelude.{None, Option, Some, ℕ}
use Rattle.ctrl_msg.specs.declared.message.Body.{Body}
use Rattle.ctrl_msg.specs.declared.message.Body.TheVariants.{Install, OpenAt, Stamp, Collect, Hello, Installed, Stamped}

-- the boot that a body carries; an advert and a cache rule carry none
abbrev pub body_boot : Body → Option ℕ
body_boot (Install boot tables) = Some boot
body_boot (OpenAt boot version) = Some boot
body_boot (Stamp boot version touched) = Some boot
body_boot (Collect boot version) = Some boot
body_boot (Hello switch boot) = Some boot
body_boot (Installed switch boot version) = Some boot
body_boot (Stamped switch boot version) = Some boot
body_boot _ = None
