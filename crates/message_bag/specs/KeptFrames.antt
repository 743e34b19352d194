-- Messages that are kept as their frames.
use Rattle.std.specs.Prelude.{[], ◌++◌, ◌+◌, ◌-◌, ◌<◌, ◌∷◌, ◌≡◌, ◌≤◌, List, None, Option, Some, drop, get_or, length, slice_get, take, true, ℕ}
use Rattle.ctrl_msg.specs.declared.message.Body.{Body}
use Rattle.ctrl_msg.specs.declared.message.Body.TheVariants.{Install}
use Rattle.ctrl_msg.specs.declared.message.Message.{Message}
use Rattle.message_bag.specs.Feeding.{HasBagFrames, HasShortBagSpelling}
use Rattle.message_bag.specs.Installing.{AreBagFramesBehindFirst, bag_install_frame_count}
use Rattle.switch_table.specs.declared.tables.Tables.{Tables}
use Rattle.wire.specs.Exports.{frames, message, n4}
use Rattle.message_bag.specs.declared.firsts.Span.{Span}

-- the version of the tables that an installation carries
abbrev pub bag_tables_version : Body → Option ℕ
bag_tables_version (Install boot tables) = Some tables.version
bag_tables_version _ = None

-- the message of this number is this one, and it has an encoding
pub record IsPostedInBag (bag : List (List (List ℕ))) (number : ℕ) (m : Message) : Type 0 where
  pub fits : message.fits m ≡ true
  pub posted : slice_get bag (number - 1) ≡ Some (frames m)

-- the message is an installation of these tables, and has a short encoding
abbrev pub IsBagInstallOf : Message → Tables → Type 0
IsBagInstallOf m tables = HasShortBagSpelling m × ((boot : ℕ) × (m.body ≡ Install boot tables))

-- ---- how they are kept

-- a first frame, and the number of kept frames that have the others, if there are others
abbrev pub BagFirst : Type 0
BagFirst = List ℕ × Option ℕ

-- the first frame at a span of the bytes of all first frames
abbrev pub bag_first_frame_in : List ℕ → Span → BagFirst
bag_first_frame_in bytes span = (take span.len (drop span.start bytes), span.tables)

abbrev pub IsBagSpanWithin : List ℕ → Span → Type 0
IsBagSpanWithin bytes span = span.start + span.len ≤ length bytes

-- all frames of a message: its own first one, and the kept ones after their first
abbrev pub bag_frames_in : List (List (List ℕ)) → BagFirst → List (List ℕ)
bag_frames_in kept (first, None) = first ∷ []
bag_frames_in kept (first, Some number) = first ∷ drop 1 (get_or kept number [])

abbrev pub IsBagNumberThere : List (List (List ℕ)) → Option ℕ → Type 0
IsBagNumberThere kept None = Unit {0}
IsBagNumberThere kept (Some number) = number < length kept

-- they are the frames of a message
abbrev pub AreBagFramesOfMessage : List (List ℕ) → Type 0
AreBagFramesOfMessage fs = (m : Message) × HasBagFrames m × (fs ≡ frames m)

pub record AreBagKeptFrames (kept : List (List (List ℕ))) (first : BagFirst) : Type 0 where
  pub there : IsBagNumberThere kept first.1
  pub are : AreBagFramesOfMessage (bag_frames_in kept first)

-- they are the frames of an installation
pub record AreBagFramesOfInstall (fs : List (List ℕ)) : Type 0 where
  pub message_is : Message
  pub boot : ℕ
  pub tables : Tables
  pub has : HasBagFrames message_is
  pub are : fs ≡ frames message_is
  pub carries : message_is.body ≡ Install boot tables

-- these are the frames of an installation of these tables, whatever its receiver and its boot
pub record BagFramesCarryTables (t : Tables) (fs : List (List ℕ)) : Type 0 where
  pub behind : AreBagFramesBehindFirst t fs
  pub count : length fs ≡ bag_install_frame_count t
  pub header : take 8 (get_or fs 0 []) ≡ n4.spell 0 ++ n4.spell (bag_install_frame_count t)

-- these are the frames of an installation of these tables under some version
pub record BagFramesCarryRows (t : Tables) (fs : List (List ℕ)) : Type 0 where
  pub version : ℕ
  pub carry : BagFramesCarryTables (record t { version = version }) fs

-- what was kept is still kept, under its number
abbrev pub IsBagGrown : List (List (List ℕ)) → List (List (List ℕ)) → Type 0
IsBagGrown before after = take (length before) after ≡ before
