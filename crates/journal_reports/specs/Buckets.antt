-- Messages of a switch that are kept, by buckets.
use Rattle.std.specs.Prelude.{[], if◌then◌else◌, ◌<◌, ◌∷◌, ◌≡◌, ◌⊎◌, List, get_or, length, nat_lt, slice_get, ℕ}
use Rattle.std.specs.Option.{option_map_or}
use Rattle.update_machine.specs.Exports.{Advertise, Body, Install, Installed, Message, OpenAt}
use Rattle.journal_reports.specs.Judging.{ReportedMessageSaysAsMuch}
use Rattle.journal_reports.specs.declared.bucket.Bucket.{Bucket}

-- an advert's origin, or the version of an install, its acknowledgement or an open; otherwise 0
abbrev pub report_subject_of_body : Body → ℕ
report_subject_of_body (Advertise advert) = advert.origin
report_subject_of_body (Install boot tables) = tables.version
report_subject_of_body (OpenAt boot version) = version
report_subject_of_body (Installed s boot version) = version
report_subject_of_body _ = 0

-- the bucket of a message with this body, one of 64
abbrev pub report_bucket_of : Body → ℕ
report_bucket_of body = if nat_lt (report_subject_of_body body) 64 then report_subject_of_body body else 0

abbrev pub report_bucket_messages : Bucket → List Message
report_bucket_messages bucket = bucket.messages.items

abbrev pub report_bucket_messages_at : List Bucket → ℕ → List Message
report_bucket_messages_at buckets c = option_map_or report_bucket_messages (slice_get buckets c) []

-- one of the messages says as much as this one
abbrev pub ReportBucketHasSaying : List Message → Message → Type 0
ReportBucketHasSaying [] message = ⊥
ReportBucketHasSaying (kept ∷ messages) message = ReportedMessageSaysAsMuch kept message ⊎ ReportBucketHasSaying messages message

-- a message in its bucket says as much as this one
abbrev pub IsKeptInReportBucket : List Bucket → Message → Type 0
IsKeptInReportBucket buckets message = ReportBucketHasSaying (report_bucket_messages_at buckets (report_bucket_of message.body)) message

-- there are 64 buckets, and they are empty
pub record AreEmptyReportBuckets (buckets : List Bucket) : Type 0 where
  pub count : length buckets ≡ 64
  pub each : (c : ℕ) (d : Bucket) → c < 64 → (get_or buckets c d).messages.items ≡ []
