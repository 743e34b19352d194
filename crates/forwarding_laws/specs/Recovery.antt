-- A schedule that ends in recovery: the controller learns of each switch that is down, each switch
-- that is up and its controller send again what may be lost, and all that waits is delivered. The
-- confirmation of a switch that is up does nothing: so an author of rows need not know which
-- switches are up. The recipe is our own.
use Rattle.std.specs.Prelude.{[], ◌++◌, ◌∷◌, ◌≡◌, All, Contains, List, ℕ}
use Rattle.update_machine.specs.Exports.{Confirm, Event, Flush, Net, One, Resend, Step}
use Rattle.steps.specs.Exports.{StepSwitchExists}

-- each row takes this step for some switch, and each switch of the network has such a row
pub record ForwardingRecoveryAsksEach (net : Net) (step : ℕ → Step) (rows : List Event) : Type 0 where
  pub only : All (λ row. (s : ℕ) × (row ≡ One (step s))) rows
  pub each : (s : ℕ) → StepSwitchExists net s → Contains rows (One (step s))

-- any rows, then a confirmation of each switch, then a resend to each switch, then a flush
pub record EndsInRecovery (net : Net) (events : List Event) : Type 0 where
  pub front : List Event
  pub confirms : List Event
  pub resends : List Event
  pub ends : events ≡ front ++ confirms ++ resends ++ Flush ∷ []
  pub confirmed : ForwardingRecoveryAsksEach net Confirm confirms
  pub resent : ForwardingRecoveryAsksEach net Resend resends
