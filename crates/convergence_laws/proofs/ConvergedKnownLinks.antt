-- So of the links that end where it reaches, a switch knows exactly the usable ones.
use Rattle.std.proofs.Common.{[], ◌&&◌, ◌++◌, ◌<◌, ◌==◌, ◌∙◌, ◌∷◌, ◌≡◌, ◌≢◌, ◌⊎◌, All, Bool, IsTrue, List, None, Some, ap, arith, false, get_or, get_or-set_other, get_or-set_same, inl, inr, length, map, not, refl, set, slice_index, subst, sym, true, ℕ, rules}
use Rattle.base.proofs.Exports.{All-from_recursion, cases_eq, length-map, nat_tests}
use Rattle.failover.specs.Exports.{AreJoinedByFailoverLinks, FailoverLinksLeadTo, link_set_has, is_known_route_link, neighbours_by_adverts, neighbours_named_by_advert}
use Rattle.update_machine.specs.Exports.{Advert, Item, Setting, journal_advert_known, journal_adverts_known, journal_adverts_of_others, is_up, journal_links_known, near, own_advert, journal_route_from, serves}
use Rattle.base.specs.Exports.{has}
use Rattle.net_file.specs.Exports.{IsNet, are_linked_in_net}
use Rattle.steps.specs.Exports.{StepSwitchExists}
use Rattle.control_laws.specs.Exports.{ControlOwnAdvertsAreNewest}
use Rattle.control_laws.proofs.Exports.{claimed_mask, ends_serve, near_linked, own_origin, second}
use Rattle.convergence_laws.specs.Exports.{AreConvergenceUnusableLinks, HasConverged, IsConvergenceAdvertAsNew, ConvergenceLeadsOverUsableNeighbours, ConvergenceNeighboursAgree, ConvergenceReaches}
use Rattle.convergence_laws.proofs.ConvergenceAgreement.{TellsOwn}
use Rattle.convergence_laws.proofs.ConvergenceLinkChanges.{AreEnds, ends_there, near_back, near_both, own_held}
use Rattle.policy_rules.proofs.PolicyRulesCallerLemmas.{each_weaker}
use Rattle.failover.proofs.RouteSearch.{length-known_links, straight_path}
use Rattle.net_file.proofs.NetFileRowPlaces.{links}
use Rattle.update_machine.proofs.Exports.{has_known_link, known_places, unreached}

-- ---- where neighbours agree the adverts have spread, so each switch knows the links that can be
-- used

-- ---- a neighbour holds the own advert of each origin that a switch holds

pub record AreAgreed (setting : Setting) (journal : List Item) : Type 0 where
  pub net : IsNet setting.net
  pub agree : ConvergenceNeighboursAgree setting journal
  pub newest : ControlOwnAdvertsAreNewest setting journal
  pub tells : TellsOwn setting journal

abbrev pub HoldsOwn : Setting → List Item → ℕ → ℕ → Type 0
HoldsOwn setting journal s origin = (s ≡ origin)
    ⊎ (journal_advert_known setting journal s origin ≡ Some (own_advert setting journal origin))

pub serving_up : (setting : Setting) (journal : List Item) → AreAgreed setting journal → (s : ℕ)
    → serves journal s ≡ true → IsTrue (is_up journal s)
serving_up setting journal are s serving = (are.tells.known.serving s).up serving

-- of the own advert no other one is as new
own_alone : (setting : Setting) (journal : List Item) → AreAgreed setting journal
    → (s origin : ℕ) (c : Advert) → origin < 64 → IsTrue (is_up journal origin)
    → journal_advert_known setting journal s origin ≡ Some c → IsConvergenceAdvertAsNew c (own_advert setting journal origin)
    → c ≡ own_advert setting journal origin
unfolding own_advert
own_alone setting journal are s origin c small up known as_new = search rules

edge_holds : (setting : Setting) (journal : List Item) → AreAgreed setting journal
    → (at next origin : ℕ) → origin < 64 → IsTrue (is_up journal origin)
    → IsTrue (has (near setting journal at) next) → HoldsOwn setting journal next origin
    → HoldsOwn setting journal at origin
edge_holds setting journal are at next origin small up linked holds = by_place (cases_eq origin at)
  where
    own : Advert
    own = own_advert setting journal origin

    ends : AreEnds setting at next
    ends = ends_there setting journal at next are.net linked

    back : IsTrue (has (near setting journal next) at)
    back = near_back setting journal at next are.net linked

    known : HoldsOwn setting journal next origin
        → journal_advert_known setting journal next origin ≡ Some own
    known (inr held) = held
    known (inl same) = ap (λ o. journal_advert_known setting journal next o) (sym same)
        ∙ own_held setting journal next (omega (arith, ends.other, are.net.few_switches))
        (are.tells.tells next at back) ∙ ap (λ o. Some (own_advert setting journal o)) same

    by_place : (origin ≡ at) ⊎ (origin ≢ at) → HoldsOwn setting journal at origin
    by_place (inl same) = inl (sym same)
    by_place (inr apart) =
        let as_new = are.agree next at origin own back small (known holds) in
        let held = ap (journal_advert_known setting journal at) (sym (own_origin _ _ _)) ∙ as_new.held in
        inr (held ∙ ap Some (own_alone _ _ are at origin as_new.advert small up held as_new.as_new))

-- so does each switch from which links lead there
pub leads_hold : (setting : Setting) (journal : List Item) → AreAgreed setting journal
    → (origin at : ℕ) (rest : List ℕ) → origin < 64 → IsTrue (is_up journal origin)
    → ConvergenceLeadsOverUsableNeighbours setting journal origin at rest → HoldsOwn setting journal at origin
leads_hold setting journal are origin at [] small up leads = inl leads
leads_hold setting journal are origin at (next ∷ rest) small up leads =
    search (rules, edge_holds, leads_hold setting journal are origin next rest small up leads.1)

-- where links lead is a switch of the network that is up
pub record IsThere (setting : Setting) (journal : List Item) (s : ℕ) : Type 0 where
  pub there : StepSwitchExists setting.net s
  pub up : IsTrue (is_up journal s)

leads_there : (setting : Setting) (journal : List Item) → AreAgreed setting journal
    → (target at : ℕ) (rest : List ℕ) → IsThere setting journal at
    → ConvergenceLeadsOverUsableNeighbours setting journal target at rest → IsThere setting journal target
leads_there setting journal are target at [] is leads = subst (IsThere setting journal) leads is
leads_there setting journal are target at (next ∷ rest) is leads =
    leads_there setting journal are target next rest (record {
      there = (ends_there setting journal at next are.net leads.0).other;
      up = serving_up setting journal are next (ends_serve setting journal at next leads.0).1;
    }) leads.1

pub small_of : (setting : Setting) → IsNet setting.net → (s : ℕ) → StepSwitchExists setting.net s → s < 64
small_of setting net s there = omega (arith, there, net.few_switches)

pub reached_holds : (setting : Setting) (journal : List Item) → AreAgreed setting journal
    → (s origin : ℕ) → IsThere setting journal s → ConvergenceReaches setting journal s origin
    → HoldsOwn setting journal s origin
reached_holds setting journal are s origin is reaches =
    search (rules, leads_there, leads_hold, small_of)

pub adverts_reach : (setting : Setting) (journal : List Item) → AreAgreed setting journal
    → (s origin : ℕ) → s ≢ origin → ConvergenceReaches setting journal s origin
    → journal_advert_known setting journal s origin ≡ Some (own_advert setting journal origin)
adverts_reach setting journal are s origin apart reaches = by_holds (reached_holds setting journal
    are s origin (begins reaches.rest reaches.leads) reaches)
  where
    begins : (rest : List ℕ) → ConvergenceLeadsOverUsableNeighbours setting journal origin s rest → IsThere setting journal s
    begins [] leads = absurd (apart leads)
    begins (next ∷ rest) leads = record {
      there = (ends_there setting journal s next are.net leads.0).one;
      up = serving_up setting journal are s (ends_serve setting journal s next leads.0).0;
    }

    by_holds : HoldsOwn setting journal s origin
        → journal_advert_known setting journal s origin ≡ Some (own_advert setting journal origin)
    by_holds (inl same) = absurd (apart same)
    by_holds (inr known) = known

-- ---- converged known links

-- ---- what a switch is told of one that it reaches

mask_known : (setting : Setting) (journal : List Item) (s z : ℕ) → s < 64
    → HoldsOwn setting journal s z
    → slice_index (neighbours_by_adverts (journal_adverts_known setting journal s) s (near setting journal s)) z
    ≡ near setting journal z
unfolding neighbours_by_adverts own_advert
mask_known setting journal s z small holds = by_place (cases_eq z s) holds where
  rows : List ℕ
  rows = map neighbours_named_by_advert (journal_adverts_known setting journal s)

  within : s < length rows
  within = omega (
    arith,
    small,
    known_places setting journal s,
    length-map (journal_adverts_known setting journal s) neighbours_named_by_advert,
  )

  by_place : (z ≡ s) ⊎ (z ≢ s) → HoldsOwn setting journal s z
      → get_or (set rows s (near setting journal s)) z 0 ≡ near setting journal z
  by_place (inl same) holds = cc (same, get_or-set_same rows s (near setting journal s) 0 within)
  by_place (inr apart) (inl same) = absurd (apart (sym same))
  by_place (inr apart) (inr known) = get_or-set_other rows s z (near setting journal s) 0 apart
      ∙ claimed_mask (journal_adverts_known setting journal s) z ∙ ap neighbours_named_by_advert known

-- ---- known links

pub reach_more : (setting : Setting) (journal : List Item) (from at next : ℕ)
    → ConvergenceReaches setting journal from at → IsTrue (has (near setting journal at) next)
    → ConvergenceReaches setting journal from next
reach_more setting journal from at next reaches linked = record {
  rest = reaches.rest ++ next ∷ [];
  leads = longer from reaches.rest reaches.leads;
} where
  longer : (start : ℕ) (rest : List ℕ) → ConvergenceLeadsOverUsableNeighbours setting journal at start rest
      → ConvergenceLeadsOverUsableNeighbours setting journal next start (rest ++ next ∷ [])
  longer start [] leads = (rw leads linked, refl)
  longer start (step ∷ rest) leads = (leads.0, longer step rest leads.1)

four : (w x y z : Bool) → w ≡ false → x ≡ true → y ≡ true → z ≡ false
    → (not w && x && y && not z) ≡ true
four w x y z p q r t = rw (p, q, r, t) refl

known_usable : (setting : Setting) (journal : List Item) → AreAgreed setting journal
    → (s one other : ℕ) (down : List ℕ) → IsThere setting journal s → ConvergenceReaches setting journal s one
    → one < 64 → other < 64 → AreJoinedByFailoverLinks (journal_links_known setting journal s down) one other
    → IsTrue (has (near setting journal one) other)
unfolding is_known_route_link
known_usable setting journal are s one other down is reaches small fits joined =
    let rows = neighbours_by_adverts (journal_adverts_known setting journal s) s (near setting journal s) in
    subst (λ mask. IsTrue (has mask other))
    (mask_known setting journal s one (small_of setting are.net s is.there)
    (reached_holds setting journal are s one is reaches))
    (second _ _ _ _ (sym (has_known_link setting journal s down one other small fits) ∙ joined))

usable_known : (setting : Setting) (journal : List Item) → AreAgreed setting journal
    → (s one other : ℕ) (down : List ℕ) → IsThere setting journal s → ConvergenceReaches setting journal s one
    → AreConvergenceUnusableLinks setting journal down → IsTrue (has (near setting journal one) other)
    → AreJoinedByFailoverLinks (journal_links_known setting journal s down) one other
unfolding is_known_route_link
usable_known setting journal are s one other down is reaches unusable linked =
    let rows : List ℕ = neighbours_by_adverts (journal_adverts_known setting journal s) s (near setting journal s) in
    let s_small : s < 64 = small_of setting are.net s is.there in
    let small : one < 64 =
    small_of setting are.net one (ends_there setting journal one other are.net linked).one in
    let fits : other < 64 =
    small_of setting are.net other (ends_there setting journal one other are.net linked).other in
    let named : has (slice_index rows one) other ≡ true = ap (λ mask. has mask other)
    (mask_known setting journal s one s_small (reached_holds setting journal are s one is reaches))
    ∙ linked in
    let back : has (slice_index rows other) one ≡ true =
    ap (λ mask. has mask one) (mask_known setting journal s other s_small (reached_holds setting
    journal are s other is (reach_more setting journal s one other reaches linked)))
    ∙ near_both setting journal one other small linked in
    has_known_link setting journal s down one other small fits
    ∙ four (one == other) (has (slice_index rows one) other) (has (slice_index rows other) one)
    (link_set_has down one other) apart named back (unusable one other linked)
  where
    apart : (one == other) ≡ false
    apart = by_test (one == other) refl where
      by_test : (b : Bool) → (one == other) ≡ b → (one == other) ≡ false
      by_test false e = e
      by_test true e = absurd (cc (sym (near_linked setting journal one other linked)
          ∙ ap (are_linked_in_net setting.net.links one) (sym (grind (arith, nat_tests)))
          ∙ links.not_itself setting.net one are.net))

-- where links lead is a switch with a number below 64
reached_small : (setting : Setting) (journal : List Item) → AreAgreed setting journal
    → (s target : ℕ) → StepSwitchExists setting.net s → (rest : List ℕ)
    → ConvergenceLeadsOverUsableNeighbours setting journal target s rest → target < 64
reached_small setting journal are s target there [] leads = omega (arith, small_of)
reached_small setting journal are s target there (next ∷ rest) leads = reached_small setting journal
    are next target (ends_there setting journal s next are.net leads.0).other rest leads.1

-- ---- routes

leads_known : (setting : Setting) (journal : List Item) → AreAgreed setting journal
    → (s target : ℕ) (down : List ℕ) → IsThere setting journal s
    → AreConvergenceUnusableLinks setting journal down → (at : ℕ) (rest : List ℕ) → ConvergenceReaches setting journal s at
    → ConvergenceLeadsOverUsableNeighbours setting journal target at rest
    → FailoverLinksLeadTo (journal_links_known setting journal s down) target at rest
leads_known setting journal are s target down is unusable at [] reaches leads = leads
leads_known setting journal are s target down is unusable at (next ∷ rest) reaches leads = (
  small_of setting are.net next (ends_there setting journal at next are.net leads.0).other,
  usable_known setting journal are s at next down is reaches unusable leads.0,
  leads_known _ _ are s _ _ is unusable _ rest (reach_more _ _ s at next reaches leads.0) leads.1,
)

-- a walk over usable links is one over known links
way_known : (setting : Setting) (journal : List Item) → AreAgreed setting journal
    → (s target : ℕ) (down : List ℕ) → AreConvergenceUnusableLinks setting journal down → (rest : List ℕ)
    → ConvergenceLeadsOverUsableNeighbours setting journal target s rest
    → FailoverLinksLeadTo (journal_links_known setting journal s down) target s rest
way_known setting journal are s target down unusable [] leads = leads
way_known setting journal are s target down unusable (next ∷ rest) leads =
    leads_known setting journal are s target down (record {
      there = (ends_there setting journal s next are.net leads.0).one;
      up = serving_up setting journal are s (ends_serve setting journal s next leads.0).0;
    }) unusable s (next ∷ rest) (record { rest = []; leads = refl }) leads

stuck_apart : (setting : Setting) (journal : List Item) → AreAgreed setting journal
    → (s : ℕ) (targets down : List ℕ) → StepSwitchExists setting.net s
    → AreConvergenceUnusableLinks setting journal down → journal_route_from setting journal s targets down ≡ None
    → All (λ target. ConvergenceReaches setting journal s target → ⊥) targets
stuck_apart setting journal are s targets down there unusable none =
    All-from_recursion (λ target. ConvergenceReaches setting journal s target → ⊥) targets
    (each_weaker _ (λ target. ConvergenceReaches setting journal s target → ⊥) (λ target unreached reaches.
    unreached (straight_path (journal_links_known setting journal s down) s target reaches.rest
    (length-known_links (journal_adverts_of_others setting journal s) s (near setting journal s) down)
    (small_of setting are.net s there) (way_known setting journal are s target down unusable
    reaches.rest reaches.leads))) targets (unreached setting journal s targets down none))

-- ---- together

pub agreed_converged : (setting : Setting) (journal : List Item) → AreAgreed setting journal
    → HasConverged setting journal
agreed_converged setting journal are = record {
  adverts = λ s origin apart reaches. adverts_reach setting journal are s origin apart reaches;
  links = λ s one other down there up reaches fits unusable. (
    known_usable setting journal are s one other down (record { there = there; up = up }) reaches
        (reached_small setting journal are s one there reaches.rest reaches.leads) fits,
    usable_known _ _ are s one other down (record { there = there; up = up }) reaches unusable,
  );
  stuck = λ s targets down there unusable none. stuck_apart _ _ are s _ down there unusable none;
}
