-- What is told as the marks settle, from the masks of the answer.
use Rattle.std.proofs.Common.{[], ◌&&◌, ◌++◌, ◌∙◌, ◌∷◌, ◌≡◌, Bool, List, None, Option, Some, ap, append-nil, append_assoc, cond, false, length, ltb, refl, sym, true, ℕ}
use Rattle.base.proofs.Exports.{length-map}
use Rattle.ctrl_msg.specs.declared.message.Body.{Body}
use Rattle.ctrl_msg.specs.declared.message.Body.TheVariants.{OpenAt}
use Rattle.version_update.specs.declared.record.SwitchRecord.{SwitchRecord}
use Rattle.version_update.specs.declared.marks.Settled.{Settled}
use Rattle.version_update.specs.Exports.{MarksValue, MaskNamesUpdateSwitches, SettlesVersionMarks, is_member, update_joining_opens_at, mark_rises_to}
use Rattle.controller.specs.Exports.{controller_collect_acts, controller_open_acts, controller_posts_to, controller_mark_rising_acts, controller_settling_acts, controller_stamp_acts, controller_switches_in_mask, controller_switches_by_record}
use Rattle.controller.specs.declared.sends.Act.{Act}
use Rattle.controller.proofs.ControllerPickedSwitches.{those_named}
use Rattle.ternary.specs.Exports.{WordValue}

-- no switch comes or goes
pub same_number : (before after : MarksValue) (answer : Settled) → SettlesVersionMarks before after answer
    → length after.switches ≡ length before.switches
same_number before after answer is = ap length is.switches ∙ length-map before.switches _

-- where the number rose it is the new one
rose : (old new number : ℕ) → mark_rises_to old new ≡ Some number → (number ≡ new) × (ltb old new ≡ true)
rose old new number is = by_test (ltb old new) refl is where
  by_test : (b : Bool) → ltb old new ≡ b → cond b (Some new) None ≡ Some number → (number ≡ new)
      × (ltb old new ≡ true)
  by_test true test is = (cc, test)
  by_test false test is = cc

stays : (old new : ℕ) → mark_rises_to old new ≡ None → ltb old new ≡ false
stays old new is = by_test (ltb old new) refl is where
  by_test : (b : Bool) → ltb old new ≡ b → cond b (Some new) None ≡ None → ltb old new ≡ false
  by_test true test is = cc
  by_test false test is = test

and_first : (test : Bool) (passes : SwitchRecord → Bool) (mask : ℕ) (switches : List SwitchRecord)
    → test ≡ true → MaskNamesUpdateSwitches mask (λ known. test && passes known) switches → MaskNamesUpdateSwitches mask passes switches
and_first true passes mask switches e names = names
and_first false passes mask switches e names = cc

-- a list with a head, added to what was there
headed : (head : Act) (old rest mid acts : List Act) → mid ≡ old ++ head ∷ [] → acts ≡ mid ++ rest
    → acts ≡ old ++ head ∷ rest
headed head old rest mid acts begun made = cc (made, begun, append_assoc old (head ∷ []) rest)

pub rising_told : (old new number mask n : ℕ) (answered : Option ℕ) (says : ℕ → Act)
    (body : ℕ → ℕ → Body) (after : MarksValue) (switches : List SwitchRecord)
    (base mid acts : List Act) → answered ≡ mark_rises_to old new
    → MaskNamesUpdateSwitches mask (λ known. ltb old new && is_member known.phase) switches → n ≡ length switches
    → answered ≡ Some number → mid ≡ base ++ says number ∷ []
    → acts ≡ mid ++ controller_posts_to after (λ boot. body boot number) (controller_switches_in_mask mask n)
    → acts ≡ base ++ controller_mark_rising_acts old new says body after switches
rising_told old new number mask n answered says body after switches base mid acts is names all risen
    begun made =
    let up = rose old new number (sym is ∙ risen) in
    let told : List ℕ = controller_switches_by_record (λ known. is_member known.phase) switches in
    headed (says number) base _ mid acts begun made
    ∙ ap (λ l. base ++ says number ∷ controller_posts_to after (λ boot. body boot number) l) (those_named mask
    n _ switches all (and_first _ (λ known. is_member known.phase) mask switches up.1 names))
    ∙ ap (λ v. base ++ says v ∷ controller_posts_to after (λ boot. body boot v) told) up.0
    ∙ ap (λ b. base ++ cond b (says new ∷ controller_posts_to after (λ boot. body boot new) told) [])
    (sym up.1)

pub rising_none : (old new : ℕ) (answered : Option ℕ) (says : ℕ → Act) (body : ℕ → ℕ → Body)
    (after : MarksValue) (switches : List SwitchRecord) (base : List Act)
    → answered ≡ mark_rises_to old new → answered ≡ None
    → base ≡ base ++ controller_mark_rising_acts old new says body after switches
rising_none old new answered says body after switches base is none =
    cc (append-nil base, stays old new (sym is ∙ none))

pub opens_told : (before after : MarksValue) (answer : Settled) (n current : ℕ)
    (old acts : List Act) → n ≡ length after.switches → current ≡ after.current
    → acts ≡ old ++ controller_posts_to after (λ boot. OpenAt boot current) (controller_switches_in_mask answer.opens n)
    → SettlesVersionMarks before after answer → acts ≡ old ++ controller_open_acts before after
opens_told before after answer n current old acts all is_current made is =
    made ∙ ap (λ l. old ++ controller_posts_to after (λ boot. OpenAt boot current) l) (those_named answer.opens
    n _ before.switches (all ∙ same_number before after answer is) is.tells.opens)
    ∙ ap (λ v. old ++ controller_posts_to after (λ boot. OpenAt boot v)
    (controller_switches_by_record (update_joining_opens_at after.current) before.switches)) is_current

-- a mark that is told to have risen is the new one
pub told_current : (before after : MarksValue) (number : ℕ)
    → mark_rises_to before.current after.current ≡ Some number → after.current ≡ number
told_current before after number told = sym (rose before.current after.current number told).0

-- the three parts, one after another
pub settling_told : (touched : List WordValue) (before after : MarksValue)
    (old one two three : List Act)
    → one ≡ old ++ controller_stamp_acts touched before after → two ≡ one ++ controller_open_acts before after
    → three ≡ two ++ controller_collect_acts before after → three ≡ old ++ controller_settling_acts touched before after
settling_told touched before after old one two three a b c =
    let first = controller_stamp_acts touched before after in
    let second = controller_open_acts before after in
    let third = controller_collect_acts before after in
    c ∙ ap (λ l. l ++ third) (b ∙ ap (λ l. l ++ second) a ∙ append_assoc old first second)
    ∙ append_assoc old (first ++ second) third

-- more is added where it is asked for
pub added : (asked : Bool) (acts base settled more : List Act) → asked ≡ true → acts ≡ base ++ more
    → base ≡ settled → acts ≡ settled ++ cond asked more []
added asked acts base settled more is made same = cc (made, same, is)

pub not_added : (asked : Bool) (acts base settled more : List Act) → asked ≡ false → acts ≡ base
    → base ≡ settled → acts ≡ settled ++ cond asked more []
not_added asked acts base settled more is made same = cc (made, same, append-nil settled, is)
