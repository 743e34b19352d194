-- What a body that a switch hears makes of its record.
use Rattle.std.proofs.Common.{[], if◌then◌else◌, ◌&&◌, ◌++◌, ◌==◌, ◌||◌, ◌∙◌, ◌∷◌, ◌≡◌, ◌≢◌, Bool, List, None, Option, Some, ap, append-nil, arith, eq-eqb, false, filter_map, find, fold, get_or-set_other, is_some, max, nat_le, nat_lt, not, refl, set, sym, true, ℕ}
use Rattle.base.proofs.Exports.{each_append, filter_map-append, fold-append, list_any, nat_tests, option_map_or, set_comm, ⊤}
use Rattle.update_machine.specs.Exports.{Advert, Advertise, Body, CacheRule, Collect, Hello, Install, Installed, OpenAt, Setting, Stamp, Stamped, Tables, machine_cache_after, machine_cache_carried_from, machine_advert_of_other, machine_cache_raised_from, machine_version_to_stamp_with}
use Rattle.failover.specs.Exports.{adverts_after_hearing, held_advert, is_newer_advert, is_advert_news}
use Rattle.failover.proofs.FailoverHeldAdverts.{after_no_news}
use Rattle.switch_core.specs.Exports.{SwitchValue, switch_after_body, switch_collected_to, is_news_to_switch, switch_stamp_raised_to, switch_stamped_with, switch_after_advert, switch_with_installed}
use Rattle.switch_table.specs.Exports.{cache_after_carry, cache_after_raise}
use Rattle.refinement.specs.Exports.{refined_collect_in, refined_tables_in, refined_with_tables}
use Rattle.refinement.proofs.RefinedSwitchFacts.{AreVersioned, IsVersioned, SwitchFacts, above, above_more, above_twice, all_by, collected_by, filled, first_tables, found_above, others_by, stamp_by, switch_in, tables_are}
use Rattle.ternary.specs.Exports.{WordValue}

-- ---- one body more

-- what is folded over what bodies give
fold_one : {X Y : Type 0} (gives : Body → Option X) (f : Y → X → Y) (start : Y) (bodies : List Body)
    (body : Body) → let first = fold f start (filter_map gives bodies) in
    fold f start (filter_map gives (bodies ++ body ∷ []))
    ≡ option_map_or (f first) (gives body) first
fold_one {X = X} {Y = Y} gives f start bodies body =
    ap (fold f start) (filter_map-append gives bodies (body ∷ [])) ∙ fold-append f start
    (filter_map gives bodies) (filter_map gives (body ∷ [])) ∙ by_given (gives body) refl
  where
    by_given : (o : Option X) → gives body ≡ o → fold f (fold f start (filter_map gives bodies))
        (filter_map gives (body ∷ [])) ≡ option_map_or (f (fold f start (filter_map gives bodies)))
        o (fold f start (filter_map gives bodies))
    by_given None is = rw is refl
    by_given (Some x) is = rw is refl

stamp_one : (first : Bool) (bodies : List Body) (body : Body) → stamp_by first (bodies ++ body ∷ [])
    ≡ option_map_or (max (stamp_by first bodies)) (machine_version_to_stamp_with body) (stamp_by first bodies)
stamp_one first bodies body = let begun : List ℕ = if first then 1 ∷ [] else [] in
    fold-append max 0 begun (filter_map machine_version_to_stamp_with (bodies ++ body ∷ []))
    ∙ fold_one machine_version_to_stamp_with max (fold max 0 begun) bodies body
    ∙ ap (λ stamp. option_map_or (max stamp) (machine_version_to_stamp_with body) stamp)
    (sym (fold-append max 0 begun (filter_map machine_version_to_stamp_with bodies)))

-- ---- the record

-- what the body makes of these: the stamp, the collect mark, all tables and the adverts of others
abbrev heard_as : (ℕ → List WordValue) → ℕ → ℕ → SwitchFacts → Body → ℕ → ℕ → List Tables
    → List (Option Advert) → SwitchValue
heard_as touched_of s number w body stamp collected all others =
    let after = option_map_or (max stamp) (machine_version_to_stamp_with body) stamp in
    let mark = option_map_or (max collected) (refined_collect_in body) collected in
    filled s (record w { cache = machine_cache_after touched_of stamp after number w.cache body }) after mark
    (above mark (option_map_or (refined_with_tables all) (refined_tables_in body) all))
    (option_map_or (adverts_after_hearing others) (machine_advert_of_other s body) others)

-- the switch before
abbrev was : ℕ → SwitchFacts → ℕ → ℕ → List Tables → List (Option Advert) → SwitchValue
was s w stamp collected all others = filled s w stamp collected (above collected all) others

hears_tables : (s : ℕ) (w : SwitchFacts) (stamp collected boot : ℕ) (all : List Tables)
    (others : List (Option Advert)) (tables : Tables)
    → filled s w stamp collected (above collected (refined_with_tables all tables)) others
    ≡ switch_with_installed (was s w stamp collected all others) tables
unfolding switch_with_installed
hears_tables s w stamp collected boot all others tables =
    by_mark (nat_le tables.version collected) refl
  where
    old : List Tables
    old = above collected all

    kept : Bool → List Tables → SwitchValue
    kept there news = filled s w stamp collected (if there then old else old ++ news) others

    came : Bool
    came = list_any (λ other. other.version == tables.version) all

    by_came : (past : Bool) → nat_lt collected tables.version ≡ not past → (b : Bool) → filled s w
        stamp collected (above collected (if b then all else all ++ tables ∷ [])) others
        ≡ kept (b || past) (tables ∷ [])
    by_came past over true = refl
    by_came true over false = ap (λ list. filled s w stamp collected list others)
        (above_more collected all tables ∙ rw over (append-nil old))
    by_came false over false = ap (λ list. filled s w stamp collected list others)
        (above_more collected all tables ∙ rw over refl)

    held : Bool
    held = is_some (find (λ other. other.version == tables.version) old)

    by_held : (past b : Bool) → kept (b || past) (tables ∷ []) ≡ (if b || past then filled s w stamp
        collected old others else filled s w stamp collected (old ++ tables ∷ []) others)
    by_held true true = refl
    by_held false true = refl
    by_held true false = refl
    by_held false false = refl

    over_mark : (past : Bool) → nat_le tables.version collected ≡ past
        → nat_lt collected tables.version ≡ not past
    over_mark past is = grind (arith, nat_tests)

    past_any : (a b : Bool) → kept (a || true) (tables ∷ []) ≡ kept (b || true) (tables ∷ [])
    past_any true true = refl
    past_any true false = refl
    past_any false true = refl
    past_any false false = refl

    same : (past : Bool) → nat_le tables.version collected ≡ past
        → kept (came || past) (tables ∷ []) ≡ kept (held || past) (tables ∷ [])
    same true is = past_any came held
    same false is = cc (found_above collected tables.version (over_mark false is) all)

    by_mark : (past : Bool) → nat_le tables.version collected ≡ past
        → filled s w stamp collected (above collected (refined_with_tables all tables)) others
        ≡ (if held || nat_le tables.version collected then filled s w stamp collected old others
        else filled s w stamp collected (old ++ tables ∷ []) others)
    by_mark past is = rw is (by_came past (over_mark past is) came ∙ same past is
        ∙ by_held past held)

-- at the greater of a stamp and a version, by whether the version is greater
at_greater : (f : ℕ → Bool → SwitchValue) (stamp version : ℕ) → f (max stamp version)
    (nat_lt stamp version) ≡ (if nat_lt stamp version then f version true else f stamp false)
at_greater f stamp version = by_test (nat_lt stamp version) refl where
  by_test : (b : Bool) → nat_lt stamp version ≡ b
      → f (max stamp version) b ≡ (if b then f version true else f stamp false)
  by_test true is = ap (λ after. f after true) (grind (arith, nat_tests))
  by_test false is = ap (λ after. f after false) (grind (arith, nat_tests))

-- a greater stamp raises the cache
hears_stamp : (s : ℕ) (w : SwitchFacts) (stamp collected version : ℕ) (tables : List Tables)
    (others : List (Option Advert)) → filled s (record w {
      cache = machine_cache_raised_from stamp (max stamp version) w.cache;
    }) (max stamp version) collected tables others
    ≡ switch_stamp_raised_to (filled s w stamp collected tables others) version
unfolding switch_stamp_raised_to
hears_stamp s w stamp collected version tables others = cc (rises, at_greater by stamp version)
  where
    by : ℕ → Bool → SwitchValue
    by after rises = filled s (record w {
      cache = if rises then cache_after_raise after w.cache else w.cache;
    }) after collected tables others

    rises : nat_lt stamp (max stamp version) ≡ nat_lt stamp version
    rises = grind (arith, nat_tests)

-- .. or carries it, past what is touched
hears_told : (s : ℕ) (w : SwitchFacts) (stamp collected version : ℕ) (touched : List WordValue)
    (tables : List Tables) (others : List (Option Advert)) → filled s (record w {
      cache = machine_cache_carried_from touched stamp version w.cache;
    }) (max stamp version) collected tables others
    ≡ switch_stamped_with (filled s w stamp collected tables others) version touched
unfolding switch_stamped_with
hears_told s w stamp collected version touched tables others =
    at_greater (λ after rises. filled s (record w {
      cache = if rises then cache_after_carry version touched w.cache else w.cache;
    }) after collected tables others) stamp version

-- an advert of another switch is heard beside the own one
hears_beside : (others : List (Option Advert)) (own : Option Advert) (s : ℕ) (advert : Advert)
    → advert.origin ≢ s
    → set (adverts_after_hearing others advert) s own ≡ adverts_after_hearing (set others s own) advert
unfolding adverts_after_hearing is_advert_news
hears_beside others own s advert other =
    rw (get_or-set_other others s advert.origin own None other) (by_test (nat_lt advert.origin 64
    && option_map_or (is_newer_advert advert) (held_advert others advert.origin) true))
  where
    by_test : (b : Bool) → set (if b then set others advert.origin (Some advert) else others) s own
        ≡ (if b then set (set others s own) advert.origin (Some advert) else set others s own)
    by_test true = set_comm others advert.origin s (Some advert) own other
    by_test false = refl

hears_advert : (s : ℕ) (w : SwitchFacts) (stamp collected : ℕ) (tables : List Tables)
    (others : List (Option Advert)) (advert : Advert) → filled s w stamp collected tables
    (option_map_or (adverts_after_hearing others) (machine_advert_of_other s (Advertise advert)) others)
    ≡ switch_after_advert (filled s w stamp collected tables others) advert
unfolding switch_after_advert is_news_to_switch
hears_advert s w stamp collected tables others advert = by_origin (advert.origin == s) refl where
  switch : SwitchValue
  switch = filled s w stamp collected tables others

  kept : List (Option Advert) → SwitchValue
  kept database = record switch { database = database }

  by_news : (b : Bool) → is_advert_news switch.database advert ≡ b
      → kept (adverts_after_hearing switch.database advert)
      ≡ (if b then kept (adverts_after_hearing switch.database advert) else switch)
  by_news true is = refl
  by_news false is = ap kept (after_no_news switch.database advert is)

  by_origin : (same : Bool) → (advert.origin == s) ≡ same → filled s w stamp collected tables
      (option_map_or (adverts_after_hearing others) (if same then None else Some advert) others)
      ≡ (if not same && is_advert_news switch.database advert
      then kept (adverts_after_hearing switch.database advert) else switch)
  by_origin true is = refl
  by_origin false is = ap kept (hears_beside others _ s advert
      (λ e. let yes : (advert.origin == s) ≡ true = eq-eqb advert.origin s e in absurd cc))
      ∙ by_news (is_advert_news switch.database advert) refl

-- a body that lets the switch stamp with a version says what the version's change touches
abbrev pub SaysTouched : (ℕ → List WordValue) → Body → Type 0
SaysTouched touched_of (Stamp boot version touched) = touched ≡ touched_of version
SaysTouched touched_of body = ⊤

-- but for whether it is open, which the journal tells by an item of its own
hears : (touched_of : ℕ → List WordValue) (s number : ℕ) (w : SwitchFacts) (body : Body)
    (stamp collected : ℕ) (all : List Tables) (others : List (Option Advert))
    → SaysTouched touched_of body → heard_as touched_of s number w body stamp collected all others
    ≡ record (switch_after_body (was s w stamp collected all others) number body) { is_open = w.serving }
unfolding switch_collected_to
hears touched_of s number w (Install boot tables) stamp collected all others says =
    ap (λ (switch : SwitchValue). record switch { is_open = w.serving })
    (hears_tables s w stamp collected boot all others tables)
hears touched_of s number w (OpenAt boot version) stamp collected all others says =
    ap (λ (switch : SwitchValue). record switch { is_open = w.serving })
    (hears_stamp s w stamp collected version (above collected all) others)
hears touched_of s number w (Stamp boot version touched) stamp collected all others says =
    ap (λ (switch : SwitchValue). record switch { is_open = w.serving })
    (hears_told s w stamp collected version (touched_of version) (above collected all) others
    ∙ ap (switch_stamped_with (was s w stamp collected all others) version) (sym says))
hears touched_of s number w (Collect boot version) stamp collected all others says =
    ap (λ tables. filled s w stamp (max collected version) tables others)
    (sym (above_twice collected version all))
hears touched_of s number w (Advertise advert) stamp collected all others says =
    ap (λ (switch : SwitchValue). record switch { is_open = w.serving })
    (hears_advert s w stamp collected (above collected all) others advert)
hears touched_of s number w (CacheRule version word rule action) stamp collected all others says = refl
hears touched_of s number w (Hello switch boot) stamp collected all others says = refl
hears touched_of s number w (Installed switch boot version) stamp collected all others says = refl
hears touched_of s number w (Stamped switch boot version) stamp collected all others says = refl

-- ---- the facts

-- once the body was heard as the message of this number
abbrev pub heard_facts : (ℕ → List WordValue) → ℕ → Body → Bool → SwitchFacts → SwitchFacts
heard_facts touched_of number body first w = record w {
  bodies = w.bodies ++ body ∷ [];
  cache = machine_cache_after touched_of (stamp_by first w.bodies)
      (stamp_by first (w.bodies ++ body ∷ [])) number w.cache body;
}

pub hears_facts : (setting : Setting) (touched_of : ℕ → List WordValue) (s number : ℕ)
    (w : SwitchFacts) (first : Bool) (body : Body) → AreVersioned w.bodies → IsVersioned body
    → SaysTouched touched_of body
    → switch_in setting s (heard_facts touched_of number body first w) first
    ≡ record (switch_after_body (switch_in setting s w first) number body) { is_open = w.serving }
hears_facts setting touched_of s number w first body olds new says =
    ap (λ these. filled s (heard_facts touched_of number body first w) (stamp_by first more)
    (collected_by more) these (others_by setting s first more)) (tables_are tables first more refl
    (each_append IsVersioned w.bodies (body ∷ []) olds (new, tt)))
    ∙ ap (λ stamp. now stamp (collected_by more) (all_by tables first more)
    (others_by setting s first more)) (stamp_one first w.bodies body)
    ∙ ap (λ mark. now after mark (all_by tables first more) (others_by setting s first more))
    (fold_one refined_collect_in max 0 w.bodies body)
    ∙ ap (λ all. now after mark_after all (others_by setting s first more))
    (fold_one refined_tables_in refined_with_tables (if first then tables ∷ [] else []) w.bodies body)
    ∙ ap (now after mark_after (option_map_or (refined_with_tables all) (refined_tables_in body) all))
    (fold_one (machine_advert_of_other s) adverts_after_hearing (others_by setting s first []) w.bodies body)
    ∙ hears touched_of s number w body stamp collected all others says
    ∙ ap (λ these. record (switch_after_body (filled s w stamp collected these others) number body) {
      is_open = w.serving;
    }) (sym (tables_are tables first w.bodies refl olds))
  where
    tables : Tables
    tables = first_tables setting s

    more : List Body
    more = w.bodies ++ body ∷ []

    stamp : ℕ
    stamp = stamp_by first w.bodies

    collected : ℕ
    collected = collected_by w.bodies

    all : List Tables
    all = all_by tables first w.bodies

    others : List (Option Advert)
    others = others_by setting s first w.bodies

    after : ℕ
    after = option_map_or (max stamp) (machine_version_to_stamp_with body) stamp

    mark_after : ℕ
    mark_after = option_map_or (max collected) (refined_collect_in body) collected

    now : ℕ → ℕ → List Tables → List (Option Advert) → SwitchValue
    now after mark all others =
        filled s (record w { cache = machine_cache_after touched_of stamp after number w.cache body })
        after mark (above mark all) others
