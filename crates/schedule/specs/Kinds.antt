-- The kinds of a schedule's rows, each named by a keyword.
use Rattle.std.specs.Prelude.{[], ◌∷◌, ◌≡◌, List, Option, Some, bytes_eq, codes, find, ℕ}
use Rattle.schedule.specs.declared.kind.Kind.{Kind}
use Rattle.schedule.specs.declared.kind.Kind.TheVariants as kind

-- the keyword of a kind
abbrev pub schedule_keyword_of : Kind → List ℕ
schedule_keyword_of kind.Packet = codes "packet"
schedule_keyword_of kind.Hop = codes "hop"
schedule_keyword_of kind.Lose = codes "lose"
schedule_keyword_of kind.Deliver = codes "deliver"
schedule_keyword_of kind.Forget = codes "forget"
schedule_keyword_of kind.Expire = codes "expire"
schedule_keyword_of kind.Update = codes "update"
schedule_keyword_of kind.LinkDown = codes "linkdown"
schedule_keyword_of kind.LinkUp = codes "linkup"
schedule_keyword_of kind.Crash = codes "crash"
schedule_keyword_of kind.Restart = codes "restart"
schedule_keyword_of kind.Confirm = codes "confirm"
schedule_keyword_of kind.Resend = codes "resend"
schedule_keyword_of kind.Flush = codes "flush"
schedule_keyword_of kind.Drain = codes "drain"

abbrev pub schedule_kinds : List Kind
schedule_kinds = kind.Packet ∷ kind.Hop ∷ kind.Lose ∷ kind.Deliver ∷ kind.Forget ∷ kind.Expire ∷ kind.Update
    ∷ kind.LinkDown ∷ kind.LinkUp ∷ kind.Crash ∷ kind.Restart ∷ kind.Confirm ∷ kind.Resend
    ∷ kind.Flush ∷ kind.Drain ∷ []

-- the kind that a keyword names
unfoldable pub schedule_kind_of : List ℕ → Option Kind
schedule_kind_of keyword = find (λ kind. bytes_eq (schedule_keyword_of kind) keyword) schedule_kinds

-- kinds and their keywords correspond one to one
pub record ScheduleKindLaws : Type 0 where
  pub kind : (kind : Kind) → schedule_kind_of (schedule_keyword_of kind) ≡ Some kind
  pub keyword : (keyword : List ℕ) (kind : Kind) → schedule_kind_of keyword ≡ Some kind
      → keyword ≡ schedule_keyword_of kind
