-- The adverts that switches have: those with which they began, those that they heard, and those
-- that were sent to them in their present boot, with no number below a bound.
use Rattle.std.proofs.Common.{[], if◌then◌else◌, ◌++◌, ◌+◌, ◌<◌, ◌==◌, ◌∙◌, ◌∷◌, ◌≡◌, ◌≢◌, ◌≤◌, ◌⊎◌, Bool, IsTrue, List, None, Option, Some, ap, append-nil, append_assoc, arith, false, inl, inr, refl, subst, sym, true, ℕ, rules}
use Rattle.base.proofs.Exports.{nat_tests, option_map_or, ⊤}
use Rattle.update_machine.specs.Exports.{Advert, Advertise, Body, JournalItemsHaveCauses, Item, MachineLinksKeep, Message, Setting, machine_advert_to, journal_adverts_begun, journal_adverts_heard, journal_body_to_switch, journal_receiver_boot_at, journal_boot_of, heard, is_up, near, journal_next_message, machine_advert_of_other, own_advert, machine_send_items, machine_sendings, machine_sent_items_from}
use Rattle.failover.specs.Exports.{held_advert, is_newer_advert}
use Rattle.failover.proofs.FailoverNewestAdvert.{not_newer}
use Rattle.base.specs.Exports.{has}
use Rattle.update_machine.proofs.Exports.{links_keep}
use Rattle.control_laws.proofs.Exports.{AreKept, boot_more, fact_on, heard_more, up_more}
use Rattle.convergence_laws.specs.Exports.{IsConvergenceAdvertAsNew}
use Rattle.convergence_laws.proofs.ConvergencePlainItems.{IsIn, in_either, in_filter_map, in_left, in_right, of_filter_map}
use Rattle.convergence_laws.proofs.ConvergenceMessages.{delivered_grows, sendings_more, sent_by}

-- ---- as new

pub as_new_itself : (advert : Advert) → IsConvergenceAdvertAsNew advert advert
as_new_itself advert = record { origin = refl; new = not_newer advert.boot advert.seq }

new_through : (a b c : Advert) → is_newer_advert b c ≡ false → is_newer_advert a b ≡ false → is_newer_advert a c ≡ false
new_through a b c later first = grind (arith, nat_tests)

pub as_new_through : (c b a : Advert) → IsConvergenceAdvertAsNew c b → IsConvergenceAdvertAsNew b a → IsConvergenceAdvertAsNew c a
as_new_through c b a later first = search (rules, new_through)

-- ---- what a switch has

abbrev pub IsGiven : Setting → List Item → ℕ → Advert → Type 0
IsGiven setting journal s advert =
    (held_advert (journal_adverts_begun setting journal s) advert.origin ≡ Some advert)
    ⊎ IsIn advert (journal_adverts_heard journal s)

pub record IsToldTo (since : ℕ) (journal : List Item) (s : ℕ) (advert : Advert) : Type 0 where
  pub number : ℕ
  pub late : since ≤ number
  pub is : IsIn (record {
    number = number;
    message = machine_advert_to s advert;
    boot = journal_boot_of journal s;
  }) (machine_sendings journal)

pub record HasNews (setting : Setting) (since : ℕ) (journal : List Item) (s : ℕ) (than : Advert)
    : Type 0 where
  pub advert : Advert
  pub as_new : IsConvergenceAdvertAsNew advert than
  pub had : IsGiven setting journal s advert ⊎ IsToldTo since journal s advert

-- an advert of another switch, that it was given
pub record IsOther (setting : Setting) (journal : List Item) (s : ℕ) (advert : Advert)
    : Type 0 where
  pub other : advert.origin ≢ s
  pub small : advert.origin < 64
  pub given : IsGiven setting journal s advert

-- its own, or another's
abbrev pub IsHad : Setting → List Item → ℕ → Advert → Type 0
IsHad setting journal s advert =
    (advert ≡ own_advert setting journal s) ⊎ IsOther setting journal s advert

-- what a switch has each neighbour has as new, but where it is still owed
pub record HaveNews (setting : Setting) (since : ℕ) (Owed : ℕ → ℕ → Advert → Type 0)
    (journal : List Item) : Type 0 where
  pub each : (s neighbour : ℕ) (advert : Advert) → IsTrue (has (near setting journal s) neighbour)
      → IsHad setting journal s advert → advert.origin ≢ neighbour → Owed s neighbour advert
      ⊎ HasNews setting since journal neighbour advert

-- ---- what is kept

pub begun_same : (setting : Setting) (before after : List Item) (s : ℕ)
    → is_up after s ≡ is_up before s → journal_boot_of after s ≡ journal_boot_of before s
    → journal_adverts_begun setting after s ≡ journal_adverts_begun setting before s
begun_same setting before after s up boot = rw (up, boot) refl

pub given_grows : (setting : Setting) (before after : List Item) (s : ℕ) (advert : Advert)
    → is_up after s ≡ is_up before s → journal_boot_of after s ≡ journal_boot_of before s
    → ((body : Body) → IsIn body (heard before s) → IsIn body (heard after s))
    → IsGiven setting before s advert → IsGiven setting after s advert
given_grows setting before after s advert up boot grows (inl begun) = search (rules, begun_same)
given_grows setting before after s advert up boot grows (inr told) =
    let found = of_filter_map (machine_advert_of_other s) advert (heard before s) told in
    inr (in_filter_map _ found.0 advert (heard after s) (grows found.0 found.1) found.2)

pub told_on : {since : ℕ} (before : List Item) (next : Item) (s : ℕ) (advert : Advert)
    → journal_boot_of (before ++ next ∷ []) s ≡ journal_boot_of before s
    → IsToldTo since before s advert → IsToldTo since (before ++ next ∷ []) s advert
told_on before next s advert boot told = record {
  number = told.number;
  late = told.late;
  is = subst (λ b. IsIn (record {
    number = told.number;
    message = machine_advert_to s advert;
    boot = b;
  }) (machine_sendings (before ++ next ∷ []))) (sym boot)
      (rw (sendings_more before next) (in_left _ (machine_sendings before) (sent_by before next) told.is));
}

pub news_on : {since : ℕ} (setting : Setting) (before : List Item) (next : Item) (s : ℕ) (than : Advert)
    → is_up (before ++ next ∷ []) s ≡ is_up before s
    → journal_boot_of (before ++ next ∷ []) s ≡ journal_boot_of before s
    → ((body : Body) → IsIn body (heard before s) → IsIn body (heard (before ++ next ∷ []) s))
    → HasNews setting since before s than → HasNews setting since (before ++ next ∷ []) s than
news_on {since = since} setting before next s than up boot grows has = record {
  advert = has.advert;
  as_new = has.as_new;
  had = by_had has.had;
} where
  by_had : IsGiven setting before s has.advert ⊎ IsToldTo since before s has.advert
      → IsGiven setting (before ++ next ∷ []) s has.advert
      ⊎ IsToldTo since (before ++ next ∷ []) s has.advert
  by_had (inl given) = inl (given_grows setting before _ s has.advert up boot grows given)
  by_had (inr told) = inr (told_on before next s has.advert boot told)

-- ---- items that neither deliver, nor turn switches, nor change links

abbrev pub IsStill : List Item → Item → Type 0
IsStill before (Item.Delivered number) = ⊥
IsStill before (Item.Down s) = ⊥
IsStill before (Item.Booted s boot) = ⊥
IsStill before (Item.Opened s version) = ⊥
IsStill before (Item.LinkIs one two up) = ⊥
IsStill before _ = ⊤

-- what such items leave
pub record Leaves (setting : Setting) (before after : List Item) : Type 0 where
  pub up : (s : ℕ) → is_up after s ≡ is_up before s
  pub boot : (s : ℕ) → journal_boot_of after s ≡ journal_boot_of before s
  pub bodies : (s : ℕ) → heard after s ≡ heard before s
  pub links : (s : ℕ) → near setting after s ≡ near setting before s
  pub advert : (s : ℕ) → own_advert setting after s ≡ own_advert setting before s

still_leaves : (setting : Setting) (before : List Item) (next : Item) → IsStill before next
    → Leaves setting before (before ++ next ∷ [])
still_leaves setting before (Item.Delivered number) still = absurd still
still_leaves setting before (Item.Down s) still = absurd still
still_leaves setting before (Item.Booted s boot) still = absurd still
still_leaves setting before (Item.Opened s version) still = absurd still
still_leaves setting before (Item.LinkIs one two up) still = absurd still
still_leaves setting before next still =
    let keeps = links_keep setting before (next ∷ []) (refl, tt) in record {
      up = λ s. up_more before next s;
      boot = λ s. boot_more before next s;
      bodies = λ s. heard_more before next s;
      links = λ s. keeps.near s;
      advert = λ s. keeps.advert s;
    }

pub stills_leave : (setting : Setting) (journal items : List Item)
    → JournalItemsHaveCauses IsStill journal items → Leaves setting journal (journal ++ items)
stills_leave setting journal items still = fact_on IsStill (Leaves setting journal)
    (λ now next is so_far. let leaves = still_leaves setting now next is in
    record {
      up = λ s. leaves.up s ∙ so_far.up s;
      boot = λ s. leaves.boot s ∙ so_far.boot s;
      bodies = λ s. leaves.bodies s ∙ so_far.bodies s;
      links = λ s. leaves.links s ∙ so_far.links s;
      advert = λ s. leaves.advert s ∙ so_far.advert s;
    })
    journal items still (record {
      up = λ s. refl;
      boot = λ s. refl;
      bodies = λ s. refl;
      links = λ s. refl;
      advert = λ s. refl;
    })

pub had_back : (setting : Setting) (before after : List Item) (s : ℕ) (advert : Advert)
    → Leaves setting before after → IsHad setting after s advert → IsHad setting before s advert
had_back setting before after s advert leaves h6 = search (rules, given_grows)

pub still_news : {since : ℕ} (setting : Setting) (Owed : ℕ → ℕ → Advert → Type 0)
    → AreKept IsStill (HaveNews setting since Owed)
still_news setting Owed before next still have =
    let leaves = still_leaves setting before next still in record {
      each = λ s neighbour advert linked had other. elim (have.each s neighbour advert
          (rw (leaves.links s) at linked) (had_back setting before _ s advert leaves had) other) [
            | inl owed ↦ inl owed
            | inr has ↦ inr (news_on setting before next neighbour advert (leaves.up neighbour)
                (leaves.boot neighbour) (λ body is. rw (leaves.bodies neighbour) is) has)
          ];
    }

pub stills_news : {since : ℕ} (setting : Setting) (Owed : ℕ → ℕ → Advert → Type 0)
    (journal items : List Item) → JournalItemsHaveCauses IsStill journal items
    → HaveNews setting since Owed journal → HaveNews setting since Owed (journal ++ items)
stills_news {since = since} _ Owed _ _ still have = fact_on _ _ (still_news _ Owed) _ _ still have

-- what was told stays told
pub told_stills : {since : ℕ} (setting : Setting) (journal items : List Item) (s : ℕ)
    (advert : Advert) → JournalItemsHaveCauses IsStill journal items → IsToldTo since journal s advert
    → IsToldTo since (journal ++ items) s advert
told_stills {since = since} setting journal items s advert still told = fact_on IsStill
    (λ now. IsToldTo since now s advert) (λ now next is so_far. told_on now next s advert
    ((still_leaves setting now next is).boot s) so_far) journal items still told

-- ---- a delivery

-- an advert of another switch that is delivered to this one
pub record IsDelivered (here : List Item) (number s : ℕ) (advert : Advert) : Type 0 where
  pub said : journal_body_to_switch here s number ≡ Some (Advertise advert)
  pub other : advert.origin ≢ s
  pub small : advert.origin < 64

-- what is delivered to a switch is owed to its neighbours
pub delivered_news : {since : ℕ} (setting : Setting) (here : List Item) (number : ℕ)
    → HaveNews setting since (λ s neighbour advert. ⊥) here → HaveNews setting since
    (λ s neighbour advert. IsDelivered here number s advert) (here ++ Item.Delivered number ∷ [])
delivered_news {since = since} setting here number have = record {
  each = λ s neighbour advert linked had other. by_had s neighbour advert
      (rw (keeps.near s) at linked) other had;
} where
  next : Item
  next = Item.Delivered number

  now : List Item
  now = here ++ next ∷ []

  keeps : MachineLinksKeep setting here now
  keeps = links_keep setting here (next ∷ []) (refl, tt)

  old : (s neighbour : ℕ) (advert : Advert) → IsTrue (has (near setting here s) neighbour)
      → advert.origin ≢ neighbour → IsHad setting here s advert
      → IsDelivered here number s advert ⊎ HasNews setting since now neighbour advert
  old s neighbour advert linked other had = elim (have.each s neighbour advert linked had other) [
    | inl owed ↦ absurd owed
    | inr has ↦ inr (news_on setting here next neighbour advert (up_more here next neighbour)
        (boot_more here next neighbour) (delivered_grows here number neighbour) has)
  ]

  of_advert : (s : ℕ) (body : Body) (advert : Advert) → machine_advert_of_other s body ≡ Some advert
      → body ≡ Advertise advert
  of_advert s (Advertise told) advert is = by_test (told.origin == s) is where
    by_test : (b : Bool) → (if b then None else Some told) ≡ Some advert
        → Advertise told ≡ Advertise advert
    by_test true is = absurd cc
    by_test false is = cc
  of_advert s body advert is = absurd cc

  by_said : (s neighbour : ℕ) (advert : Advert) → IsTrue (has (near setting here s) neighbour)
      → advert.origin ≢ neighbour → advert.origin ≢ s → advert.origin < 64 → (body : Body)
      → machine_advert_of_other s body ≡ Some advert → (o : Option Body) → journal_body_to_switch here s number ≡ o
      → IsIn body (option_map_or (λ b. heard here s ++ b ∷ []) o (heard here s))
      → IsDelivered here number s advert ⊎ HasNews setting since now neighbour advert
  by_said s neighbour advert linked other apart small body is None e was =
      old s neighbour advert linked other (inr (record {
        other = apart;
        small = small;
        given = inr (in_filter_map (machine_advert_of_other s) body advert (heard here s) was is);
      }))
  by_said s neighbour advert linked other apart small body is (Some b) e was =
      elim (in_either body (heard here s) (b ∷ []) was) [
        | inl earlier ↦ old s neighbour advert linked other (inr (record {
          other = apart;
          small = small;
          given = inr (in_filter_map (machine_advert_of_other s) body advert (heard here s) earlier is);
        }))
        | inr last ↦ elim last [
          | inl same ↦ inl (record {
            said = e ∙ ap Some (same ∙ of_advert s body advert is);
            other = apart;
            small = small;
          })
          | inr none ↦ absurd none
        ]
      ]

  by_had : (s neighbour : ℕ) (advert : Advert) → IsTrue (has (near setting here s) neighbour)
      → advert.origin ≢ neighbour → IsHad setting now s advert
      → IsDelivered here number s advert ⊎ HasNews setting since now neighbour advert
  by_had s neighbour advert linked other (inl own) =
      old s neighbour advert linked other (inl (own ∙ keeps.advert s))
  by_had s neighbour advert linked other (inr of) = by_given of.given where
    by_given : IsGiven setting now s advert
        → IsDelivered here number s advert ⊎ HasNews setting since now neighbour advert
    by_given (inl begun) = old s neighbour advert linked other (inr (record {
      other = of.other;
      small = of.small;
      given = inl (ap (λ adverts. held_advert adverts advert.origin)
          (sym (begun_same setting _ now s (up_more here next s) (boot_more here next s))) ∙ begun);
    }))
    by_given (inr told) = let found = of_filter_map (machine_advert_of_other s) advert (heard now s) told in
        by_said s neighbour advert linked other of.other of.small found.0 found.2
        (journal_body_to_switch here s number) refl
        (subst (λ bodies. IsIn found.0 bodies) (heard_more here next s) found.1)

-- ---- what is sent now is of the present boot

boot_sent : (journal : List Item) (n : ℕ) (message : Message) (s : ℕ)
    → journal_boot_of (journal ++ Item.Sent n message ∷ []) s ≡ journal_boot_of journal s
boot_sent journal n message s = boot_more journal (Item.Sent n message) s

told_items : {since : ℕ} (journal : List Item) (n : ℕ) (messages : List Message) (s : ℕ) (advert : Advert)
    → IsToldTo since journal s advert → IsToldTo since (journal ++ machine_sent_items_from n messages) s advert
unfolding machine_sent_items_from
told_items {since = since} journal n [] s advert told = rw (append-nil journal) told
told_items {since = since} journal n (message ∷ messages) s advert told =
    let next : Item = Item.Sent n message in
    subst (λ now. IsToldTo since now s advert)
    (append_assoc journal (next ∷ []) (machine_sent_items_from (n + 1) messages))
    (told_items (journal ++ next ∷ []) (n + 1) messages s advert
    (told_on journal next s advert (boot_sent journal n message s) told))

told_now : {since : ℕ} (journal : List Item) (n : ℕ) (messages : List Message) (s : ℕ)
    (advert : Advert) → since ≤ n
    → IsIn (machine_advert_to s advert) messages → IsToldTo since (journal ++ machine_sent_items_from n messages) s advert
unfolding machine_sent_items_from
told_now journal n [] s advert late is = absurd is
told_now {since = since} journal n (message ∷ messages) s advert late is =
    let next : Item = Item.Sent n message in
    let now : List Item = journal ++ next ∷ [] in
    subst (λ js. IsToldTo since js s advert)
    (append_assoc journal (next ∷ []) (machine_sent_items_from (n + 1) messages))
    (elim is [
      | inl here ↦ told_items now (n + 1) messages s advert (record {
        number = n;
        late = late;
        is = rw (sendings_more journal next) (in_right _ (machine_sendings journal) (sent_by journal next)
            (inl (ap (λ (m : Message). record {
              number = n;
              message = m;
              boot = journal_receiver_boot_at journal m.to;
            }) here
            ∙ ap (λ b. record { number = n; message = machine_advert_to s advert; boot = b })
            (sym (boot_sent journal n message s)))));
      })
      | inr later ↦ told_now now (n + 1) messages s advert (omega (arith, late)) later
    ])

pub sends_tell : {since : ℕ} (journal : List Item) (messages : List Message) (s : ℕ)
    (advert : Advert) → since ≤ journal_next_message journal → IsIn (machine_advert_to s advert) messages
    → IsToldTo since (journal ++ machine_send_items journal messages) s advert
sends_tell journal messages s advert late is = search (rules, told_now)
