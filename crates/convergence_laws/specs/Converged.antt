-- A network has converged if each switch knows the usable links, as far as they reach. Link-state
-- databases that agree are those of OSPF (RFC 2328, section 13); a link counts if both its ends
-- name it (section 16.1).
use Rattle.std.specs.Prelude.{[], ◌<◌, ◌↔◌, ◌∷◌, ◌≡◌, ◌≢◌, All, IsFalse, IsTrue, List, None, Some, ℕ}
use Rattle.failover.specs.Exports.{AreJoinedByFailoverLinks, link_set_has}
use Rattle.base.specs.Exports.{has}
use Rattle.update_machine.specs.Exports.{Item, Setting, journal_advert_known, is_up, journal_links_known, near, own_advert, journal_route_from}
use Rattle.steps.specs.Exports.{StepSwitchExists}

-- usable links lead from the switch `at` to each of these switches in turn, and end at the target
abbrev pub ConvergenceLeadsOverUsableNeighbours : Setting → List Item → ℕ → ℕ → List ℕ → Type 0
ConvergenceLeadsOverUsableNeighbours setting journal target at [] = at ≡ target
ConvergenceLeadsOverUsableNeighbours setting journal target at (next ∷ rest) =
    IsTrue (has (near setting journal at) next) × ConvergenceLeadsOverUsableNeighbours setting journal target next rest

-- usable links lead from the switch to the target
pub record ConvergenceReaches (setting : Setting) (journal : List Item) (from target : ℕ) : Type 0 where
  pub rest : List ℕ
  pub leads : ConvergenceLeadsOverUsableNeighbours setting journal target from rest

-- none of these links is usable: they are those that a packet just found down, for example
abbrev pub AreConvergenceUnusableLinks : Setting → List Item → List ℕ → Type 0
AreConvergenceUnusableLinks setting journal down = (one other : ℕ)
    → IsTrue (has (near setting journal one) other) → IsFalse (link_set_has down one other)

pub record HasConverged (setting : Setting) (journal : List Item) : Type 0 where
  -- a switch has the own advert of each other switch that it reaches
  pub adverts : (s origin : ℕ) → s ≢ origin → ConvergenceReaches setting journal s origin →
      journal_advert_known setting journal s origin ≡ Some (own_advert setting journal origin)
  -- of the links that end at a switch that it reaches it knows exactly the usable ones
  pub links : (s one other : ℕ) (down : List ℕ) → StepSwitchExists setting.net s →
      IsTrue (is_up journal s) → ConvergenceReaches setting journal s one → other < 64 →
      AreConvergenceUnusableLinks setting journal down →
      AreJoinedByFailoverLinks (journal_links_known setting journal s down) one other
      ↔ IsTrue (has (near setting journal one) other)
  -- so it finds no route only if it reaches no target, whatever unusable links a packet found down
  pub stuck : (s : ℕ) (targets down : List ℕ) → StepSwitchExists setting.net s →
      AreConvergenceUnusableLinks setting journal down →
      journal_route_from setting journal s targets down ≡ None →
      All (λ target. ConvergenceReaches setting journal s target → ⊥) targets
