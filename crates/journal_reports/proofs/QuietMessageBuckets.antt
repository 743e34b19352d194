-- What the buckets of a switch hold.
use Rattle.std.proofs.Common.{[], if◌then◌else◌, ◌++◌, ◌+◌, ◌<◌, ◌==◌, ◌↔◌, ◌∙◌, ◌∷◌, ◌≡◌, ◌≢◌, ◌≤◌, ◌⊎◌, Bool, List, ap, arith, drop, eq-eqb, eqb-true, false, get_or, get_or-set_other, get_or-set_same, inl, inr, length, length-set, nat_lt, refl, set, subst, sym, take, take-append-drop, true, ℕ}
use Rattle.std.specs.Option.{option_map_or}
use Rattle.std.proofs.lemmas.Bool.{cases_lt}
use Rattle.std.proofs.lemmas.Bool.Decides.{nat_tests}
use Rattle.std.proofs.lemmas.List.{get_or_append_left, get_or_push, take_more}
use Rattle.std.proofs.lemmas.Option.{slice_get-get_or, slice_get_cases, slice_get_past}
use Rattle.update_machine.specs.Exports.{Body, Message}
use Rattle.journal_reports.specs.declared.bucket.Bucket.{Bucket}
use Rattle.journal_reports.specs.Exports.{AreEmptyReportBuckets, ReportBucketHasSaying, IsKeptInReportBucket, ReportedMessageSaysAsMuch, report_bucket_messages, report_bucket_of, report_bucket_messages_at, report_subject_of_body}
use Rattle.journal_reports.proofs.QuietSayingAsMuch.{later_more, means_of, says_through}

-- ---- what says as much is in the same bucket

says_bucket : (later earlier : Message) → ReportedMessageSaysAsMuch later earlier
    → report_bucket_of later.body ≡ report_bucket_of earlier.body
says_bucket later earlier says = elim (means_of later earlier says) [
  | inl same ↦ ap report_bucket_of same
  | inr more ↦ ap (λ n. if nat_lt n 64 then n else 0)
      (later_more later.body earlier.body more).about
]

pub bucket_below : (body : Body) → report_bucket_of body < 64
bucket_below body = by_test (nat_lt (report_subject_of_body body) 64) refl where
  by_test : (b : Bool) → nat_lt (report_subject_of_body body) 64 ≡ b → (if b then report_subject_of_body body else 0) < 64
  by_test true e = grind (arith, nat_tests)
  by_test false e = omega arith

-- ---- among messages

pub has_left : (xs ys : List Message) (message : Message) → ReportBucketHasSaying xs message
    → ReportBucketHasSaying (xs ++ ys) message
has_left [] ys message has = absurd has
has_left (x ∷ xs) ys message has = elim has [
  | inl here ↦ inl here
  | inr later ↦ inr (has_left xs ys message later)
]

has_right : (xs ys : List Message) (message : Message) → ReportBucketHasSaying ys message
    → ReportBucketHasSaying (xs ++ ys) message
has_right [] ys message has = has
has_right (x ∷ xs) ys message has = inr (has_right xs ys message has)

has_either : (xs ys : List Message) (message : Message) → ReportBucketHasSaying (xs ++ ys) message
    → ReportBucketHasSaying xs message ⊎ ReportBucketHasSaying ys message
has_either [] ys message has = inr has
has_either (x ∷ xs) ys message has = elim has [
  | inl here ↦ inl (inl here)
  | inr later ↦ elim (has_either xs ys message later) [
    | inl first ↦ inl (inr first)
    | inr second ↦ inr second
  ]
]

-- with one more at the end
has_more : (messages : List Message) (next message : Message) → ReportBucketHasSaying (messages ++ next ∷ [])
    message ↔ (ReportBucketHasSaying messages message ⊎ ReportedMessageSaysAsMuch next message)
has_more messages next message = (
  λ has. elim (has_either messages (next ∷ []) message has) [
    | inl first ↦ inl first
    | inr last ↦ elim last [ inl here ↦ inr here | inr none ↦ absurd none ]
  ],
  λ either. elim either [
    | inl first ↦ has_left messages (next ∷ []) message first
    | inr here ↦ has_right messages (next ∷ []) message (inl here)
  ],
)

-- one more of a list was tested, and doesn't say as much
pub none_more : (messages : List Message) (i : ℕ) (next message : Message) → i < length messages
    → next ≡ get_or messages i next → (ReportBucketHasSaying (take i messages) message → ⊥)
    → (ReportedMessageSaysAsMuch next message → ⊥) → ReportBucketHasSaying (take (i + 1) messages) message → ⊥
none_more messages i next message within is none not has =
    elim ((has_more (take i messages) next message).0 (subst (λ ms. ReportBucketHasSaying ms message)
    (take_more messages i next within ∙ ap (λ x. take i messages ++ x ∷ []) (sym is)) has)) [
      | inl first ↦ none first
      | inr here ↦ not here
    ]

-- or does
pub some_at : (messages : List Message) (i : ℕ) (next message : Message) → i < length messages
    → next ≡ get_or messages i next → ReportedMessageSaysAsMuch next message → ReportBucketHasSaying messages message
some_at messages i next message within is says = rw (take-append-drop (i + 1) messages) at
    (has_left (take (i + 1) messages) (drop (i + 1) messages) message
    (rw (take_more messages i next within ∙ ap (λ x. take i messages ++ x ∷ []) (sym is))
    ((has_more (take i messages) next message).1 (inr says))))

has_through : (messages : List Message) (next message : Message) → ReportBucketHasSaying messages next
    → ReportedMessageSaysAsMuch next message → ReportBucketHasSaying messages message
has_through [] next message has says = absurd has
has_through (kept ∷ messages) next message has says = elim has [
  | inl here ↦ inl (says_through kept next message here says)
  | inr later ↦ inr (has_through messages next message later says)
]

-- ---- in buckets

in_got : (buckets : List Bucket) (c : ℕ) (d : Bucket) → c < length buckets
    → report_bucket_messages_at buckets c ≡ (get_or buckets c d).messages.items
in_got buckets c d there = cc (slice_get-get_or buckets c d there)

-- the bucket alone tells
pub kept_in_bucket : (buckets : List Bucket) (c : ℕ) (bucket : Bucket) (message : Message)
    → c ≡ report_bucket_of message.body → c < length buckets → bucket ≡ get_or buckets c bucket
    → ReportBucketHasSaying bucket.messages.items message ↔ IsKeptInReportBucket buckets message
kept_in_bucket buckets c bucket message at there is =
    let same : bucket.messages.items ≡ report_bucket_messages_at buckets (report_bucket_of message.body) =
    ap report_bucket_messages is ∙ sym (in_got buckets c bucket there) ∙ ap (report_bucket_messages_at buckets) at in (
      λ has. subst (λ ms. ReportBucketHasSaying ms message) same has,
      λ kept. subst (λ ms. ReportBucketHasSaying ms message) (sym same) kept,
    )

pub kept_nowhere : (buckets : List Bucket) (c : ℕ) (message : Message)
    → c ≡ report_bucket_of message.body → length buckets ≤ c → IsKeptInReportBucket buckets message → ⊥
kept_nowhere buckets c message at past kept = rw (ap (report_bucket_messages_at buckets) (sym at)
    ∙ ap (λ o. option_map_or report_bucket_messages o []) (slice_get_past buckets c past)) at kept

pub kept_through : (buckets : List Bucket) (next message : Message) → IsKeptInReportBucket buckets next
    → ReportedMessageSaysAsMuch next message → IsKeptInReportBucket buckets message
kept_through buckets next message kept says = rw (says_bucket next message says) at
    (has_through (report_bucket_messages_at buckets (report_bucket_of next.body)) next message kept says)

-- one more is put into its bucket
pub kept_more : (before after : List Bucket) (place : ℕ) (old bucket : Bucket)
    (next message : Message) → place < length before → place ≡ report_bucket_of next.body
    → old ≡ get_or before place old → after ≡ set before place bucket
    → bucket.messages.items ≡ old.messages.items ++ next ∷ [] → length before ≡ 64
    → IsKeptInReportBucket after message ↔ (IsKeptInReportBucket before message ⊎ ReportedMessageSaysAsMuch next message)
kept_more before after place old bucket next message there at was is now count =
    by_test (place == report_bucket_of message.body) refl
  where
    own : ℕ
    own = report_bucket_of message.body

    within : own < length before
    within = omega (arith, bucket_below message.body, count)

    both : length after ≡ length before
    both = ap (λ (buckets : List Bucket). length buckets) is ∙ length-set before place bucket

    after_is : report_bucket_messages_at after own ≡ (get_or (set before place bucket) own old).messages.items
    after_is = cc (in_got after own old (omega (arith, within, both)), is)

    by_test : (b : Bool) → (place == report_bucket_of message.body) ≡ b
        → IsKeptInReportBucket after message ↔ (IsKeptInReportBucket before message ⊎ ReportedMessageSaysAsMuch next message)
    by_test true e =
        let same : own ≡ place = sym (eqb-true place own e) in
        let here = after_is ∙ ap (λ n. (get_or (set before place bucket) n old).messages.items) same
        ∙ ap report_bucket_messages (get_or-set_same before place bucket old there) ∙ now in
        let mine : old.messages.items ≡ report_bucket_messages_at before own =
        ap report_bucket_messages was ∙ ap (λ n. (get_or before n old).messages.items) (sym same)
        ∙ sym (in_got before own old within) in
        let more = has_more old.messages.items next message in (
          λ kept. elim (more.0 (subst (λ ms. ReportBucketHasSaying ms message) here kept)) [
            | inl first ↦ inl (subst (λ ms. ReportBucketHasSaying ms message) mine first)
            | inr says ↦ inr says
          ],
          λ either. subst (λ ms. ReportBucketHasSaying ms message) (sym here) (more.1 (elim either [
            | inl first ↦ inl (subst (λ ms. ReportBucketHasSaying ms message) (sym mine) first)
            | inr says ↦ inr says
          ])),
        )
    by_test false e =
        let apart : own ≢ place = λ same. absurd (clash (sym (eq-eqb place own (sym same)) ∙ e)) in
        let stays : report_bucket_messages_at after own ≡ report_bucket_messages_at before own =
        after_is ∙ ap report_bucket_messages (get_or-set_other before place own bucket old apart)
        ∙ sym (in_got before own old within) in (
          λ kept. inl (subst (λ ms. ReportBucketHasSaying ms message) stays kept),
          λ either. elim either [
            | inl first ↦ subst (λ ms. ReportBucketHasSaying ms message) (sym stays) first
            | inr says ↦ absurd (apart (sym (at ∙ says_bucket next message says)))
          ],
        )
      where
        clash : true ≡ false → ⊥
        clash e = absurd cc

-- ---- no message is kept

pub empty_more : (buckets : List Bucket) (next : Bucket) (n : ℕ) → length buckets ≡ n
    → ((i : ℕ) (d : Bucket) → i < n → (get_or buckets i d).messages.items ≡ [])
    → next.messages.items ≡ [] → (i : ℕ) (d : Bucket) → i < n + 1
    → (get_or (buckets ++ next ∷ []) i d).messages.items ≡ []
empty_more buckets next n count were none i d below = elim (cases_lt i n) [
  | inl less ↦ ap (λ (l : Bucket). l.messages.items)
      (get_or_append_left buckets (next ∷ []) d i (omega (arith, less, count))) ∙ were i d less
  | inr more ↦ let same : i ≡ n = omega (arith, more, below) in
      ap (λ (l : Bucket). l.messages.items)
      (ap (λ k. get_or (buckets ++ next ∷ []) k d) same ∙ get_or_push buckets next d n count)
      ∙ none
]

pub none_kept : (buckets : List Bucket) (message : Message) → AreEmptyReportBuckets buckets
    → IsKeptInReportBucket buckets message → ⊥
none_kept buckets message are kept = elim (slice_get_cases buckets (report_bucket_of message.body)).1 [
  | inl some ↦ subst (λ ms. ReportBucketHasSaying ms message)
      (ap (λ o. option_map_or report_bucket_messages o []) some.2 ∙ ap report_bucket_messages (sym some.3)
      ∙ are.each (report_bucket_of message.body) some.0 (bucket_below message.body)) kept
  | inr past ↦ rw (ap (λ o. option_map_or report_bucket_messages o []) past.1) at kept
]
