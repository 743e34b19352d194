-- One call behind another on a log.
use Rattle.std.proofs.Common.{[], ◌++◌, ◌∙◌, ◌∷◌, ◌≡◌, IsErr, List, OnErr, OnOk, Option, Result, append-nil, subst, sym, ℕ}
use Rattle.base.proofs.Exports.{both_written, on_err, on_err_weaker, on_ok_failed, on_ok_weaker}
use Rattle.update_machine.specs.Exports.{Item}
use Rattle.message_bag.specs.Exports.{Post}
use Rattle.travelling.specs.Travelling.{TravellingFlight, TravellingWithOne}
use Rattle.world_log.specs.Exports.{IsLogPart, LogAfter}
use Rattle.world_log.specs.declared.log.Log.{Log}
use Rattle.world_log.proofs.LogStepWrites.{part_none, part_of_rest}

-- memory ran out where a part was written
pub log_failed : {T E : Type 0} (r : Result T E) (items : List Item) (posts : List Post)
    (packet : ℕ) (this : Option TravellingFlight) (old new : Log) → IsErr r
    → IsLogPart old.journal items new.journal → LogAfter r items posts packet this old new
log_failed r items posts packet this old new failed part = record {
  written = on_ok_failed _ r failed;
  posted = on_ok_failed _ r failed;
  travels = on_ok_failed _ r failed;
  part = on_err r part;
}

-- or nothing was
pub log_unwritten : {T E : Type 0} {r : Result T E} {items : List Item} {posts : List Post}
    {packet : ℕ} {this : Option TravellingFlight} {old new : Log} → IsErr r → new.journal ≡ old.journal
    → LogAfter r items posts packet this old new
log_unwritten {r} {items} {posts} {packet} {this} {old} {new} failed same = log_failed r items posts
    packet this old new failed (part_none old.journal items new.journal same)

-- the first items were written, and the messages of the first part were posted
pub log_behind : {T E : Type 0} (r : Result T E) (first items : List Item)
    (before posts : List Post) (packet : ℕ) (this : Option TravellingFlight) (old mid new : Log)
    → mid.journal ≡ old.journal ++ first → mid.bag ≡ old.bag ++ before
    → mid.travelling ≡ old.travelling → LogAfter r items posts packet this mid new
    → LogAfter r (first ++ items) (before ++ posts) packet this old new
log_behind r first items before posts packet this old mid new grown more same log = record {
  written = on_ok_weaker r
      (both_written old.journal mid.journal new.journal first items grown) log.written;
  posted = on_ok_weaker r (both_written old.bag mid.bag new.bag before posts more) log.posted;
  travels = on_ok_weaker r
      (subst (λ table. TravellingWithOne table packet this new.travelling) same) log.travels;
  part = on_err_weaker r
      (part_of_rest old.journal mid.journal first items new.journal grown) log.part;
}

-- one item was written
pub log_one : {T E : Type 0} (r : Result T E) (item : Item) (packet : ℕ)
    (this : Option TravellingFlight) (old new : Log)
    → OnOk r (new.journal ≡ old.journal ++ item ∷ []) → OnErr r (new.journal ≡ old.journal)
    → new.bag ≡ old.bag → TravellingWithOne old.travelling packet this new.travelling
    → LogAfter r (item ∷ []) [] packet this old new
log_one r item packet this old new written unwritten unsent with = record {
  written = written;
  posted = on_ok_weaker r (λ _. unsent ∙ sym (append-nil old.bag)) written;
  travels = on_ok_weaker r (λ _. with) written;
  part = on_err_weaker r (part_none old.journal (item ∷ []) new.journal) unwritten;
}

-- and none of the messages was posted by the rest
pub log_ends : {T E : Type 0} (r : Result T E) (first items : List Item) (posts : List Post)
    (packet : ℕ) (this : Option TravellingFlight) (old mid new : Log)
    → mid.journal ≡ old.journal ++ first → mid.bag ≡ old.bag ++ posts
    → mid.travelling ≡ old.travelling → LogAfter r items [] packet this mid new
    → LogAfter r (first ++ items) posts packet this old new
log_ends r first items posts packet this old mid new grown more same log =
    let all = log_behind r first items posts [] packet this old mid new grown more same log in
    record {
      written = all.written;
      posted = on_ok_weaker r (λ post. post ∙ append-nil mid.bag ∙ more) log.posted;
      travels = all.travels;
      part = all.part;
    }
