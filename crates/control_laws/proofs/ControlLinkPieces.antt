-- What items do to links, and pieces in which links of one switch change.
use Rattle.std.proofs.Common.{[], if◌then◌else◌, ◌&&◌, ◌++◌, ◌+◌, ◌==◌, ◌∙◌, ◌∷◌, ◌≡◌, ◌≢◌, Bool, IsFalse, List, None, Some, ap, append_assoc, inl, inr, max, min, ne_eqb, sym, true, ℕ, rules}
use Rattle.base.proofs.Exports.{nat_tests, none_where_other}
use Rattle.update_machine.specs.Exports.{Item, LinkRow, MachineLinksKeep, NoMachineItemConcerns, Setting, journal_boot_of, machine_item_concerns_links, gives_journal_link, machine_item_gives_serving, is_link_up_in_journal, is_up, is_usable_in_journal, journal_link_changes, near, own_advert, serves}
use Rattle.update_machine.proofs.Exports.{last_given_append, links_keep, stays}
use Rattle.control_laws.proofs.ControlFactsGrown.{boot_more, serving_more, up_more}
use Rattle.control_laws.proofs.ControlSaidToController.{ChangedNoLinks, HasLinkCause}
use Rattle.control_laws.proofs.ControlOwnAdverts.{AdvertGoesOn, advert_on, same_boot, same_near, same_seq}
use Rattle.control_laws.proofs.ControlMessageCounts.{sent}
use Rattle.control_laws.proofs.ControlLinkSends.{ChangesAt}

-- ---- what items do to links

link_same : (before : List Item) (next : Item) (a b : ℕ) → gives_journal_link (min a b) (max a b) next
    ≡ None → is_link_up_in_journal (before ++ next ∷ []) a b ≡ is_link_up_in_journal before a b
unfolding is_link_up_in_journal
link_same before next a b none = search (rules, last_given_append)

serving_same : (before : List Item) (next : Item) (s : ℕ) → machine_item_gives_serving s next ≡ None
    → serves (before ++ next ∷ []) s ≡ serves before s
serving_same before next s none = cc (serving_more before next s, none)

usable_same : (before : List Item) (next : Item) (link : LinkRow)
    → gives_journal_link (min link.one link.two) (max link.one link.two) next ≡ None
    → machine_item_gives_serving link.one next ≡ None → machine_item_gives_serving link.two next ≡ None
    → is_usable_in_journal (before ++ next ∷ []) link ≡ is_usable_in_journal before link
usable_same before next link up one two = search (rules, link_same, serving_same)

silent_link : (next : Item) (a b : ℕ) (before : List Item) → IsFalse (machine_item_concerns_links before next)
    → gives_journal_link a b next ≡ None
silent_link next a b before apart = search rules

silent_serving : (next : Item) (s : ℕ) (before : List Item)
    → IsFalse (machine_item_concerns_links before next) → machine_item_gives_serving s next ≡ None
silent_serving next s before apart = search rules

usable_stays : (before items : List Item) (link : LinkRow) → NoMachineItemConcerns machine_item_concerns_links before items
    → is_usable_in_journal (before ++ items) link ≡ is_usable_in_journal before link
usable_stays before items link none = stays _ machine_item_concerns_links (λ journal next apart. usable_same
    journal next link (silent_link next _ (max link.one link.two) journal apart)
    (silent_serving next link.one journal apart) (silent_serving next link.two journal apart))
    before items none

-- the item changes links of one switch alone, and begins no boot
abbrev pub ChangesLinksOf : ℕ → Item → Type 0
ChangesLinksOf t (Item.Down s) = s ≡ t
ChangesLinksOf t (Item.Opened s version) = s ≡ t
ChangesLinksOf t (Item.LinkIs one two up) = one ≡ t
ChangesLinksOf t _ = ⊥

other_link : (low high t a b : ℕ) (up : Bool) → low ≡ t → a ≢ t → b ≢ t
    → (if low == min a b && high == max a b then Some up else None) ≡ None
other_link low high t a b up is one two = search (rules, ne_eqb)

usable_on : (before : List Item) (next : Item) (t : ℕ) → ChangesLinksOf t next → (link : LinkRow)
    → link.one ≢ t → link.two ≢ t → is_usable_in_journal (before ++ next ∷ []) link ≡ is_usable_in_journal before link
usable_on before next t is link one two = search (rules, usable_same, none_where_other, other_link)

boot_on : (before : List Item) (next : Item) (t s : ℕ) → ChangesLinksOf t next
    → journal_boot_of (before ++ next ∷ []) s ≡ journal_boot_of before s
boot_on before next t s is = search (rules, boot_more)

up_on : (before : List Item) (next : Item) (t s : ℕ) → ChangesLinksOf t next
    → is_up (before ++ next ∷ []) s ≡ true → is_up before s ≡ true
up_on before next t s is up = search (rules, nat_tests, up_more)

caused_on : (setting : Setting) (before : List Item) (next : Item) (t : ℕ)
    → ChangesLinksOf t next → ChangedNoLinks before → HasLinkCause setting before next
caused_on setting before next t is first = search rules

own_change : (setting : Setting) (before : List Item) (next : Item) (t s : ℕ)
    → ChangesLinksOf t next → ChangedNoLinks before
    → is_up (before ++ next ∷ []) s ≡ true → AdvertGoesOn setting before (before ++ next ∷ []) s
own_change setting before next t s is first up = advert_on setting before next s
    (caused_on _ _ next t is first) (up_on before next t s is up) up (boot_on before next t s is)

-- ---- pieces that change links

-- what becomes of a switch's own advert until the links have changed
pub record OwnAfter (setting : Setting) (before now : List Item) (s : ℕ) : Type 0 where
  pub boot : journal_boot_of now s ≡ journal_boot_of before s
  pub own : is_up now s ≡ true → AdvertGoesOn setting before now s

-- links of one switch change, and then all is sent that reports it
pub record IsLinkPiece (setting : Setting) (before items : List Item) : Type 0 where
  pub changes : List Item
  pub now : List Item
  pub is_now : before ++ changes ≡ now
  pub switch : ℕ
  pub at : ChangesAt before now switch
  pub silent : sent changes ≡ 0
  pub own : (s : ℕ) → OwnAfter setting before now s
  pub written : items ≡ changes ++ journal_link_changes setting before now

up_silent : (before : List Item) (next : Item) (s : ℕ) → IsFalse (machine_item_concerns_links before next)
    → is_up (before ++ next ∷ []) s ≡ is_up before s
up_silent before next s apart = search (rules, up_more)

goes_on_between : (setting : Setting) (before here there now : List Item) (s : ℕ)
    → own_advert setting here s ≡ own_advert setting before s
    → own_advert setting now s ≡ own_advert setting there s
    → AdvertGoesOn setting here there s → AdvertGoesOn setting before now s
goes_on_between setting before here there now s first last (inl same) = inl (last ∙ same ∙ first)
goes_on_between setting before here there now s first last (inr next) =
    let near_of : List Item → ℕ = λ journal. near setting journal s in
    inr (record {
      seq = cc (same_seq setting now there s last, next.seq, same_seq setting here before s first);
      changed = ap (λ n. n == near_of now) (sym (same_near setting here before s first))
          ∙ ap (λ n. near_of here == n) (same_near setting now there s last) ∙ next.changed;
    })

pub link_piece : (setting : Setting) (before quiet : List Item) (next : Item) (rest : List Item)
    (t : ℕ) → ChangesLinksOf t next
    → ChangedNoLinks (before ++ quiet) → NoMachineItemConcerns machine_item_concerns_links before quiet
    → NoMachineItemConcerns machine_item_concerns_links ((before ++ quiet) ++ next ∷ []) rest
    → sent (quiet ++ next ∷ rest) ≡ 0 → (items : List Item)
    → items ≡ (quiet ++ next ∷ rest) ++ journal_link_changes setting before
    (((before ++ quiet) ++ next ∷ []) ++ rest) → IsLinkPiece setting before items
link_piece setting before quiet next rest t is first none later silent items written = record {
  changes = quiet ++ next ∷ rest;
  now = there ++ rest;
  is_now = sym (append_assoc here (next ∷ []) rest ∙ append_assoc before quiet (next ∷ rest));
  switch = t;
  at = record {
    others = λ link one two. usable_stays there rest link later
        ∙ usable_on here next t is link one two ∙ usable_stays before quiet link none;
  };
  silent = silent;
  own = λ s. record {
    boot = same_boot setting (there ++ rest) there s (after.advert s)
        ∙ boot_on here next t s is ∙ same_boot setting here before s (early.advert s);
    own = λ up. goes_on_between setting before here there (there ++ rest) s (early.advert s)
        (after.advert s) (own_change setting here next t s is first (sym (up_stays s) ∙ up));
  };
  written = written;
} where
  here : List Item
  here = before ++ quiet

  there : List Item
  there = here ++ next ∷ []

  early : MachineLinksKeep setting before here
  early = links_keep setting before quiet none

  after : MachineLinksKeep setting there (there ++ rest)
  after = links_keep setting there rest later

  up_stays : (s : ℕ) → is_up (there ++ rest) s ≡ is_up there s
  up_stays s = stays _ _ (λ journal other apart. up_silent journal other s apart) there rest later
