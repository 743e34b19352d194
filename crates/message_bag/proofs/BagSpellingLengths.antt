-- How long spellings are: those of all messages but installations are short.
use Rattle.std.proofs.Common.{[], ◌*◌, ◌++◌, ◌+◌, ◌<◌, ◌^◌, ◌∷◌, ◌≡◌, ◌≤◌, Bool, List, None, Option, Some, arith, false, flat_map, leb, leb-true, length, length-append, refl, true, ℕ}
use Rattle.base.proofs.Exports.{and_parts, list_all}
use Rattle.ctrl_msg.specs.declared.message.Place.{Place}
use Rattle.ctrl_msg.specs.declared.message.Place.TheVariants.{Switch, Controller}
use Rattle.ctrl_msg.specs.declared.message.Body.{Body}
use Rattle.ctrl_msg.specs.declared.message.Body.TheVariants.{Install, OpenAt, Stamp, Collect, CacheRule, Advertise, Hello, Installed, Stamped}
use Rattle.ctrl_msg.specs.declared.message.Message.{Message}
use Rattle.failover.specs.declared.advert.Advert.{Advert}
use Rattle.policy_rules.specs.declared.policy.Action.{Action}
use Rattle.policy_rules.specs.declared.policy.Action.TheVariants.{Drop, Out}
use Rattle.switch_table.specs.declared.tables.Tables.{Tables}
use Rattle.ternary.specs.Exports.{WordValue}
use Rattle.wire.specs.Exports.{wire_acknowledgement, action, advert, body, wire_boot_and_version, wire_cache_rule_form, hello, wire_install_form, wire_kind_number, message, n1, n16, n4, n8, wire_receiver, wire_rule_name, wire_spelled_fields, wire_spelled_number, wire_stamp_form, switch, tables, touched, wire_touched_count, word}
use Rattle.wire.proofs.WireFrameBytes.{length_n4}

pub length_receiver : (to : Place) → length (wire_receiver.spell to) ≡ 1
unfolding wire_receiver switch n1 wire_spelled_number
length_receiver (Switch s) = refl
length_receiver Controller = refl

pub length_kind : (b : Body) → length (n1.spell (wire_kind_number b)) ≡ 1
unfolding n1 wire_spelled_number
length_kind b = refl

-- the receiver and the kind, and then the fields
pub length_message : (m : Message) → length (message.spell m) ≡ 2 + length (wire_spelled_fields m.body)
unfolding message body
length_message m = omega (
  arith,
  length-append (wire_receiver.spell m.to) (n1.spell (wire_kind_number m.body) ++ wire_spelled_fields m.body),
  length-append (n1.spell (wire_kind_number m.body)) (wire_spelled_fields m.body),
  length_receiver m.to,
  length_kind m.body,
)

-- a body that brings no list
abbrev pub is_alone : Body → Bool
is_alone (Install _ _) = false
is_alone (Stamp _ _ _) = false
is_alone _ = true

two_numbers : (a b : ℕ) → length (wire_boot_and_version.spell (a, b)) ≡ 8
unfolding wire_boot_and_version n4 wire_spelled_number
two_numbers a b = refl

three_numbers : (s a b : ℕ) → length (wire_acknowledgement.spell (s, (a, b))) ≡ 9
unfolding wire_acknowledgement wire_boot_and_version switch n1 n4 wire_spelled_number
three_numbers s a b = refl

told : (s a : ℕ) → length (hello.spell (s, a)) ≡ 5
unfolding hello switch n1 n4 wire_spelled_number
told s a = refl

advert_len : (a : Advert) → length (advert.spell a) ≡ 17
unfolding advert switch n1 n4 n8 wire_spelled_number
advert_len a = refl

pub word_len : (w : WordValue) → length (word.spell w) ≡ 32
unfolding word n16 n8 wire_spelled_number
word_len w = refl

pub rule_len : (o : Option ℕ) → length (wire_rule_name.spell o) ≤ 5
unfolding wire_rule_name n1 n4 wire_spelled_number
rule_len None = omega arith
rule_len (Some n) = omega arith

pub action_len : (a : Action) → length (action.spell a) ≤ 5
unfolding action n1 n4 wire_spelled_number
action_len Drop = omega arith
action_len (Out port) = omega arith

rule_fields : (version : ℕ) (w : WordValue) (rule : Option ℕ) (act : Action)
    → length (wire_cache_rule_form.spell (version, (w, (rule, act)))) ≤ 46
unfolding wire_cache_rule_form
rule_fields version w rule act = omega (
  arith,
  length-append (n4.spell version) (word.spell w ++ (wire_rule_name.spell rule ++ action.spell act)),
  length-append (word.spell w) (wire_rule_name.spell rule ++ action.spell act),
  length-append (wire_rule_name.spell rule) (action.spell act),
  length_n4 version,
  word_len w,
  rule_len rule,
  action_len act,
)

pub fields_short : (b : Body) → is_alone b ≡ true → length (wire_spelled_fields b) ≤ 46
fields_short (OpenAt boot version) alone = omega (arith, two_numbers boot version)
fields_short (Collect boot version) alone = omega (arith, two_numbers boot version)
fields_short (CacheRule version w rule act) alone = rule_fields version w rule act
fields_short (Advertise a) alone = omega (arith, advert_len a)
fields_short (Hello s boot) alone = omega (arith, told s boot)
fields_short (Installed s boot version) alone = omega (arith, three_numbers s boot version)
fields_short (Stamped s boot version) alone = omega (arith, three_numbers s boot version)
fields_short b alone = absurd cc

-- a stamp has at most sixteen words
words_len : (touched : List WordValue) → length (flat_map word.spell touched) ≡ 32 * length touched
words_len [] = refl
words_len (w ∷ touched) = omega (
  arith,
  length-append (word.spell w) (flat_map word.spell touched),
  word_len w,
  words_len touched,
)

pub few_words : (list : List WordValue) → touched.fits list ≡ true → length list ≤ 16
unfolding touched wire_touched_count
few_words list fits =
    let few = and_parts (wire_touched_count.fits (length list)) (list_all word.fits list) fits in
    leb-true (length list) 16
    (and_parts (n1.fits (length list)) (leb (length list) 16) few.0).1

length_n1 : (n : ℕ) → length (n1.spell n) ≡ 1
unfolding n1 wire_spelled_number
length_n1 n = refl

touched_len : (list : List WordValue) → length list ≤ 16 → length (touched.spell list) ≤ 513
unfolding touched wire_touched_count
touched_len list few = omega (
  arith,
  length-append (n1.spell (length list)) (flat_map word.spell list),
  length_n1 (length list),
  words_len list,
  few,
)

pub stamp_short : (boot version : ℕ) (list : List WordValue) → length list ≤ 16
    → length (wire_spelled_fields (Stamp boot version list)) ≤ 521
unfolding wire_stamp_form
stamp_short boot version list few = omega (
  arith,
  length-append (n4.spell boot) (n4.spell version ++ touched.spell list),
  length-append (n4.spell version) (touched.spell list),
  length_n4 boot,
  length_n4 version,
  touched_len list few,
)

-- of an installation there is the boot
pub install_long : (boot : ℕ) (t : Tables) → 4 ≤ length (wire_spelled_fields (Install boot t))
unfolding wire_install_form
install_long boot t = omega (arith, length-append (n4.spell boot) (tables.spell t), length_n4 boot)

-- so a message without tables is short
sent_short : (m : Message) → length (wire_spelled_fields m.body) ≤ 521
    → length (message.spell m) < 2 ^ 40
sent_short m short = omega (arith, length_message m, short)

pub alone_short : (m : Message) → is_alone m.body ≡ true → length (message.spell m) < 2 ^ 40
alone_short m alone = sent_short m (omega (arith, fields_short m.body alone))

pub stamp_sent_short : (to : Place) (boot version : ℕ) (list : List WordValue) → length list ≤ 16
    → length (message.spell (record { to = to; body = Stamp boot version list })) < 2 ^ 40
stamp_sent_short to boot version list few = sent_short _ (stamp_short boot version list few)
