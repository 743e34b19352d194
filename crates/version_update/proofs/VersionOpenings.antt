-- What the opening of joining switches keeps, and what it settles.
use Rattle.std.proofs.Common.{[], ◌<◌, ◌∷◌, ◌≡◌, ◌≤◌, All, IsFalse, IsTrue, List, arith, length, map, refl, replicate, true, ℕ, rules}
use Rattle.base.proofs.Exports.{All-map, All-replicate, length-map, length-replicate, or_lt, pow-lt}
use Rattle.version_update.specs.declared.record.SwitchRecord.{SwitchRecord}
use Rattle.version_update.specs.Exports.{AreVersionMarksBounded, AreVersionMarksSettled, IsSoundUpdateRecord, MarksValue, CurrentMarkRisesTo, mark_record_after_installed, update_all_have_acked, first_marks, first_update_record, is_member, opened_update_record, update_joining_opens_at, update_retired_of}
use Rattle.version_update.proofs.VersionLeastStamp.{least_acked_stamp-version}

-- a member stays as it is
member_stays : (current : ℕ) (known : SwitchRecord) → is_member known.phase ≡ true
    → opened_update_record current known ≡ known
member_stays current known member = search rules

-- no switch opens twice
opens_once : (current : ℕ) (known : SwitchRecord)
    → IsFalse (update_joining_opens_at current (opened_update_record current known))
opens_once current known = search rules

pub none_opens : (current : ℕ) (switches : List SwitchRecord)
    → All (λ known. IsFalse (update_joining_opens_at current known)) (map (opened_update_record current) switches)
none_opens current switches = All-map (λ known. IsFalse (update_joining_opens_at current known))
    (opened_update_record current) switches (λ k d within. opens_once current _)

opened_at-sound : (count current : ℕ) (known : SwitchRecord) → 1 ≤ current → current ≤ count
    → IsSoundUpdateRecord count known → IsSoundUpdateRecord count (opened_update_record current known)
opened_at-sound count current known low high sound = search rules

-- at the start
pub first-bounded : (number : ℕ) → 1 ≤ number → number ≤ 64 → AreVersionMarksBounded (first_marks number)
first-bounded number some few = search (rules, length-replicate, All-replicate)

-- bounds are kept
pub opened-bounded : (marks : MarksValue) → AreVersionMarksBounded marks
    → AreVersionMarksBounded (record marks { switches = map (opened_update_record marks.current) marks.switches })
opened-bounded marks bounds =
    let len : length (map (opened_update_record marks.current) marks.switches) ≡ length marks.switches =
    simp length-map in record {
      first = bounds.first;
      last = bounds.last;
      versions = bounds.versions;
      some = omega (arith, len, bounds.some);
      switches = omega (arith, len, bounds.switches);
      records = All-map (IsSoundUpdateRecord marks.count) (opened_update_record marks.current) marks.switches
          (λ k d within. opened_at-sound marks.count marks.current _ bounds.first bounds.last
          (bounds.records k d within));
    }

-- what each member acknowledged after the opening, each member did before it
all_acked-opened : (version current : ℕ) (switches : List SwitchRecord)
    → IsTrue (update_all_have_acked version (map (opened_update_record current) switches))
    → IsTrue (update_all_have_acked version switches)
all_acked-opened version current [] all = refl
all_acked-opened version current (known ∷ more) all =
    search (rules, member_stays, all_acked-opened version current more)

pub stopped-opened : (version current : ℕ) (switches : List SwitchRecord)
    → IsFalse (update_all_have_acked version switches)
    → IsFalse (update_all_have_acked version (map (opened_update_record current) switches))
stopped-opened version current switches lacks = search (rules, all_acked-opened)

-- the marks after current rose, the joining switches opened and retired was set
pub settled_by : (before mid last : MarksValue) (current retired : ℕ) → CurrentMarkRisesTo before current
    → mid ≡ record before { current = current; switches = map (opened_update_record current) before.switches }
    → last ≡ mid → retired ≡ update_retired_of mid → retired < mid.count
    → AreVersionMarksBounded (record last { retired = retired })
    → AreVersionMarksSettled (record last { retired = retired })
settled_by before mid last current retired rises opened same is_retired live bounds =
    search (rules, stopped-opened, none_opens)

-- at the start
pub first-settled : (number : ℕ) → 1 ≤ number → number ≤ 64 → AreVersionMarksSettled (first_marks number)
first-settled number some few =
    let bounds = first-bounded number some few in
    let least = least_acked_stamp-version 1 1 (replicate number first_update_record) (omega arith) (omega arith)
    bounds.records in record {
      bounds = bounds;
      stopped = λ more. absurd (omega arith);
      opened = All-replicate (λ known. IsFalse (update_joining_opens_at 1 known)) number first_update_record refl;
      retired = omega (arith, least.0, least.1);
      live = omega arith;
    }

-- one more version in the set
pub installed-sound : (count boot version : ℕ) (known : SwitchRecord) → 1 ≤ version
    → version ≤ count → IsSoundUpdateRecord count known
    → IsSoundUpdateRecord count (mark_record_after_installed boot version known)
installed-sound count boot version known low high sound = search (rules, or_lt, pow-lt)
