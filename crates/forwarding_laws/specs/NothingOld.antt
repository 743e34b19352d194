-- Nothing old is left: after recovery, one more resend to each switch and a flush, the switches
-- keep only the tables of the newest version. One round is not enough: a switch that joins during
-- the first flush isn't sent what is retired by then. That versions are collected once no
-- packet needs them is from Reitblatt, Foster, Rexford, Schlesinger and Walker, "Abstractions for
-- Network Update".
use Rattle.std.specs.Prelude.{[], ◌++◌, ◌==◌, ◌∷◌, ◌≡◌, All, IsTrue, List, ℕ}
use Rattle.update_machine.specs.Exports.{Event, Flush, Item, Net, Resend, Setting, journal_cache_of, holds_version, is_up, journal_version_count}
use Rattle.steps.specs.Exports.{StepSwitchExists}
use Rattle.forwarding_laws.specs.Recovered.{HasRecovered}
use Rattle.forwarding_laws.specs.Recovery.{ForwardingRecoveryAsksEach, EndsInRecovery}

-- the events end in recovery, then a resend to each switch, then a flush
pub record EndsInTwoRecoveryRounds (net : Net) (events : List Event) : Type 0 where
  pub first : List Event
  pub resends : List Event
  pub ends : events ≡ first ++ resends ++ Flush ∷ []
  pub recovered : EndsInRecovery net first
  pub resent : ForwardingRecoveryAsksEach net Resend resends

-- each switch of the network that is up has the tables of the newest version, and of no other
abbrev pub HoldNewestAlone : Setting → List Item → Type 0
HoldNewestAlone setting journal = (s version : ℕ) → StepSwitchExists setting.net s
    → IsTrue (is_up journal s) → holds_version journal s version ≡ (version == journal_version_count journal)

-- each of them caches only rules of the newest version
abbrev pub ForwardingCachesNewestAlone : Setting → List Item → Type 0
ForwardingCachesNewestAlone setting journal = (s : ℕ) → StepSwitchExists setting.net s → IsTrue (is_up journal s)
    → All (λ entry. entry.version ≡ journal_version_count journal) (journal_cache_of setting journal s).entries

-- nothing old is left in a network that has recovered
pub record RecoveryLeavesNothingOld (setting : Setting) (journal : List Item) : Type 0 where
  pub recovered : HasRecovered setting journal
  pub tables : HoldNewestAlone setting journal
  pub caches : ForwardingCachesNewestAlone setting journal
