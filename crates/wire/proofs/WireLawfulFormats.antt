-- Each format of messages is lawful.
use Rattle.std.proofs.Common.{◌%◌, ◌*◌, ◌++◌, ◌+◌, ◌/◌, ◌<◌, ◌^◌, ◌∙◌, ◌≡◌, List, None, Option, Some, ap, append_assoc, arith, div-add-mod', eqb, eqb-true, false, inl, inr, ltb, ltb-true, refl, subst, sym, true, ℕ}
use Rattle.base.proofs.Exports.{and_parts, cond_cases, nat_tests, same_Some}
use Rattle.ctrl_msg.specs.declared.message.Place.{Place}
use Rattle.ctrl_msg.specs.declared.message.Place.TheVariants.{Switch, Controller}
use Rattle.ctrl_msg.specs.declared.message.Body.{Body}
use Rattle.ctrl_msg.specs.declared.message.Body.TheVariants.{Install, OpenAt, Stamp, Collect, CacheRule, Advertise, Hello, Installed, Stamped}
use Rattle.policy_rules.specs.declared.policy.Action.{Action}
use Rattle.policy_rules.specs.declared.policy.Action.TheVariants.{Drop, Out}
use Rattle.wire.specs.Exports.{◌⊗◌, WireFormat, wire_acknowledgement, action, wire_action_by_port, advert, body, wire_boot_and_version, wire_cache_rule_form, wire_cache_rule_of, wire_fields_fit, hello, wire_install_form, is_wire_word_pair, wire_kind_number, wire_made_body, message, wire_message_front, n1, n16, n4, n8, wire_optional, partition, wire_port_in_action, read_wire_fields, wire_receiver, wire_receiver_of, region, rule, wire_rule_name, wire_spelled_fields, wire_stamp_form, wire_body_suits_receiver, switch, tables, wire_target_count, targets, wire_format_then_read, touched, wire_touched_count, word}
use Rattle.wire.proofs.WireFormatLaws.{AreBytes, Takes, IsLawful, then_some, n8-bits, n32-bits, n64-bits, ◌⊠◌, as_type_lawful, such_that_lawful, optional_lawful, list_lawful}

n1_lawful : IsLawful n1
unfolding n1
n1_lawful = n8-bits

n4_lawful : IsLawful n4
unfolding n4
n4_lawful = n32-bits

n8_lawful : IsLawful n8
unfolding n8
n8_lawful = n64-bits

halves_back : (p : ℕ × ℕ) → (n8 ⊗ n8).fits p ≡ true → ((p.0 * 2 ^ 64 + p.1) / 2 ^ 64, (p.0 * 2 ^ 64 + p.1) % 2 ^ 64) ≡ p
unfolding n8
halves_back p fits =
    let low : p.1 < 2 ^ 64 = ltb-true _ _ (and_parts (n8.fits p.0) (n8.fits p.1) fits).1 in
    let quotient : (p.0 * 2 ^ 64 + p.1) / 2 ^ 64 ≡ p.0 = omega arith in
    let rest : (p.0 * 2 ^ 64 + p.1) % 2 ^ 64 ≡ p.1 = omega arith in rw (quotient, rest) refl

n16_lawful : IsLawful n16
unfolding n16
n16_lawful = as_type_lawful _ _ halves_back (λ n fits. div-add-mod' n (2 ^ 64)) (n8_lawful ⊠ n8_lawful)

switch_lawful : IsLawful switch
unfolding switch
switch_lawful = such_that_lawful (λ n. ltb n 64) n1_lawful

word_lawful : IsLawful word
unfolding word
word_lawful = as_type_lawful _ _ (λ p fits. refl) (λ w fits. refl) (such_that_lawful is_wire_word_pair (n16_lawful ⊠ n16_lawful))

maybe_lawful : IsLawful (wire_optional n1 n4)
unfolding n1
maybe_lawful = optional_lawful refl refl n1_lawful n4_lawful

rule_name_lawful : IsLawful wire_rule_name
unfolding wire_rule_name
rule_name_lawful = maybe_lawful

port_back : (o : Option ℕ) → wire_port_in_action (wire_action_by_port o) ≡ o
port_back None = refl
port_back (Some port) = refl

action_back : (a : Action) → wire_action_by_port (wire_port_in_action a) ≡ a
action_back Drop = refl
action_back (Out port) = refl

action_lawful : IsLawful action
unfolding action
action_lawful = as_type_lawful _ _ (λ o fits. port_back o) (λ a fits. action_back a) maybe_lawful

rule_lawful : IsLawful rule
unfolding rule
rule_lawful = as_type_lawful _ _ (λ p fits. refl) (λ r fits. refl) (word_lawful ⊠ n4_lawful ⊠ rule_name_lawful ⊠ action_lawful)

touched_lawful : IsLawful touched
unfolding touched wire_touched_count
touched_lawful = list_lawful (such_that_lawful _ n1_lawful) word_lawful

targets_lawful : IsLawful targets
unfolding targets wire_target_count
targets_lawful = list_lawful (such_that_lawful _ n1_lawful) switch_lawful

region_lawful : IsLawful region
unfolding region
region_lawful = as_type_lawful _ _ (λ p fits. refl) (λ row fits. refl) (word_lawful ⊠ targets_lawful)

partition_lawful : IsLawful partition
unfolding partition
partition_lawful = as_type_lawful _ _ (λ p fits. refl) (λ part fits. refl) (n4_lawful ⊠ word_lawful ⊠ list_lawful n4_lawful rule_lawful)

tables_lawful : IsLawful tables
unfolding tables
tables_lawful = as_type_lawful _ _ (λ p fits. refl) (λ t fits. refl)
    (n4_lawful ⊠ list_lawful n4_lawful region_lawful ⊠ list_lawful n4_lawful partition_lawful)

-- ---- the receiver

receiver_takes : (bytes : List ℕ) (to : Place) (rest : List ℕ) → AreBytes bytes → wire_receiver.read bytes ≡ Some (to, rest) → Takes wire_receiver to bytes rest
unfolding wire_receiver switch
receiver_takes bytes to rest are e =
    let b = then_some (n1.read bytes) (λ x. wire_format_then_read (wire_receiver_of x.0) (λ r. Some (r, x.1))) (to, rest) e in
    let t = n1_lawful.takes bytes b.0.0 b.0.1 are b.1 in
    let d = then_some (wire_receiver_of b.0.0) (λ r. Some (r, b.0.1)) (to, rest) b.2 in
    let P : Place → Type 0 = λ r. Takes wire_receiver r bytes b.0.1 in
    let taken : Takes wire_receiver d.0 bytes b.0.1 = elim (cond_cases (eqb b.0.0 255) _ _ _ d.1) [
      | inl h ↦ subst P (same_Some _ _ h.1) (record { fits = refl; parts = t.parts ∙ ap (λ k. n1.spell k ++ b.0.1) (eqb-true _ _ h.0); rest_are = t.rest_are })
      | inr h ↦ elim (cond_cases (ltb b.0.0 64) _ _ _ h.1) [
        | inl k ↦ subst P (same_Some _ _ k.1) (record { fits = rw (t.fits, k.0) refl; parts = t.parts; rest_are = t.rest_are })
        | inr k ↦ absurd (cc (k.1))
      ]
    ] in
    subst (λ (p : Place × List ℕ). Takes wire_receiver p.0 bytes p.1) (same_Some _ _ d.2) taken

receiver_again : (to : Place) (rest : List ℕ) → wire_receiver.fits to ≡ true → wire_receiver.read (wire_receiver.spell to ++ rest) ≡ Some (to, rest)
unfolding wire_receiver switch n1
receiver_again (Switch s) rest fits =
    let both = and_parts (n1.fits s) (ltb s 64) fits in
    let below : s < 64 = ltb-true _ _ both.1 in
    let other : eqb s 255 ≡ false = grind (arith, nat_tests) in
    rw (n1_lawful.again s rest both.0, other, both.1) refl
receiver_again Controller rest fits = rw (n1_lawful.again 255 rest refl) refl

receiver_lawful : IsLawful wire_receiver
receiver_lawful = record { takes = receiver_takes; again = receiver_again }

pub front_lawful : IsLawful wire_message_front
unfolding wire_message_front
front_lawful = receiver_lawful ⊠ n1_lawful ⊠ n4_lawful

-- ---- the fields

install_lawful : IsLawful wire_install_form
unfolding wire_install_form
install_lawful = n4_lawful ⊠ tables_lawful

of_version_lawful : IsLawful wire_boot_and_version
unfolding wire_boot_and_version
of_version_lawful = n4_lawful ⊠ n4_lawful

stamp_lawful : IsLawful wire_stamp_form
unfolding wire_stamp_form
stamp_lawful = n4_lawful ⊠ n4_lawful ⊠ touched_lawful

cache_rule_lawful : IsLawful wire_cache_rule_form
unfolding wire_cache_rule_form
cache_rule_lawful = n4_lawful ⊠ word_lawful ⊠ rule_name_lawful ⊠ action_lawful

advert_lawful : IsLawful advert
unfolding advert
advert_lawful = as_type_lawful _ _ (λ p fits. refl) (λ a fits. refl) (switch_lawful ⊠ n4_lawful ⊠ n4_lawful ⊠ n8_lawful)

hello_lawful : IsLawful hello
unfolding hello
hello_lawful = switch_lawful ⊠ n4_lawful

acknowledged_lawful : IsLawful wire_acknowledgement
unfolding wire_acknowledgement
acknowledged_lawful = switch_lawful ⊠ of_version_lawful

-- a body of a kind was taken from bytes behind that kind
record TakesFields (kind : ℕ) (b : Body) (bytes rest : List ℕ) : Type 0 where
  pub kind_is : wire_kind_number b ≡ kind
  pub fit : wire_fields_fit b ≡ true
  pub parts : bytes ≡ wire_spelled_fields b ++ rest
  pub rest_are : AreBytes rest

kind_takes : {A : Type 0} (make : A → Body) (f : WireFormat A) (kind : ℕ)
    → ((x : A) → wire_kind_number (make x) ≡ kind) → ((x : A) → wire_spelled_fields (make x) ≡ f.spell x) → ((x : A) → wire_fields_fit (make x) ≡ f.fits x)
    → IsLawful f → (bytes : List ℕ) (b : Body) (rest : List ℕ) → AreBytes bytes
    → wire_made_body make (f.read bytes) ≡ Some (b, rest)
    → TakesFields kind b bytes rest
kind_takes make f kind kinds spells fits lf bytes b rest are e =
    let d = then_some (f.read bytes) (λ x. Some (make x.0, x.1)) (b, rest) e in
    let t = lf.takes bytes d.0.0 d.0.1 are d.1 in
    let taken : TakesFields kind (make d.0.0) bytes d.0.1 = record {
      kind_is = kinds d.0.0;
      fit = fits d.0.0 ∙ t.fits;
      parts = t.parts ∙ ap (λ u. u ++ d.0.1) (sym (spells d.0.0));
      rest_are = t.rest_are;
    } in
    subst (λ (p : Body × List ℕ). TakesFields kind p.0 bytes p.1) (same_Some _ _ d.2) taken

at_kind : (k kind : ℕ) (b : Body) (bytes rest : List ℕ) → eqb k kind ≡ true → TakesFields kind b bytes rest → TakesFields k b bytes rest
at_kind k kind b bytes rest e t = subst (λ n. TakesFields n b bytes rest) (sym (eqb-true k kind e)) t

fields_take : (k : ℕ) (bytes : List ℕ) (b : Body) (rest : List ℕ) → AreBytes bytes → read_wire_fields k bytes ≡ Some (b, rest) → TakesFields k b bytes rest
fields_take k bytes b rest are e = elim (cond_cases (eqb k 1) _ _ _ e) [
  | inl h ↦ at_kind k 1 b bytes rest h.0 (kind_takes (λ p. Install p.0 p.1) wire_install_form 1 (λ x. refl) (λ x. refl) (λ x. refl) install_lawful bytes b rest are h.1)
  | inr g1 ↦ elim (cond_cases (eqb k 2) _ _ _ g1.1) [
    | inl h ↦ at_kind k 2 b bytes rest h.0 (kind_takes (λ p. OpenAt p.0 p.1) wire_boot_and_version 2
        (λ x. refl) (λ x. refl) (λ x. refl) of_version_lawful bytes b rest are h.1)
    | inr g2 ↦ elim (cond_cases (eqb k 3) _ _ _ g2.1) [
      | inl h ↦ at_kind k 3 b bytes rest h.0 (kind_takes (λ p. Stamp p.0 p.1.0 p.1.1) wire_stamp_form
          3 (λ x. refl) (λ x. refl) (λ x. refl) stamp_lawful bytes b rest are h.1)
      | inr g3 ↦ elim (cond_cases (eqb k 4) _ _ _ g3.1) [
        | inl h ↦ at_kind k 4 b bytes rest h.0 (kind_takes (λ p. Collect p.0 p.1) wire_boot_and_version 4
            (λ x. refl) (λ x. refl) (λ x. refl) of_version_lawful bytes b rest are h.1)
        | inr g4 ↦ elim (cond_cases (eqb k 5) _ _ _ g4.1) [
          | inl h ↦ at_kind k 5 b bytes rest h.0 (kind_takes wire_cache_rule_of wire_cache_rule_form 5 (λ x. refl) (λ x. refl) (λ x. refl) cache_rule_lawful bytes b rest are h.1)
          | inr g5 ↦ elim (cond_cases (eqb k 6) _ _ _ g5.1) [
            | inl h ↦ at_kind k 6 b bytes rest h.0 (kind_takes Advertise advert 6 (λ x. refl) (λ x. refl) (λ x. refl) advert_lawful bytes b rest are h.1)
            | inr g6 ↦ elim (cond_cases (eqb k 7) _ _ _ g6.1) [
              | inl h ↦ at_kind k 7 b bytes rest h.0 (kind_takes (λ p. Hello p.0 p.1) hello 7 (λ x. refl) (λ x. refl) (λ x. refl) hello_lawful bytes b rest are h.1)
              | inr g7 ↦ elim (cond_cases (eqb k 8) _ _ _ g7.1) [
                | inl h ↦ at_kind k 8 b bytes rest h.0
                    (kind_takes (λ p. Installed p.0 p.1.0 p.1.1) wire_acknowledgement 8 (λ x. refl)
                    (λ x. refl) (λ x. refl) acknowledged_lawful bytes b rest are h.1)
                | inr g8 ↦ elim (cond_cases (eqb k 9) _ _ _ g8.1) [
                  | inl h ↦ at_kind k 9 b bytes rest h.0
                      (kind_takes (λ p. Stamped p.0 p.1.0 p.1.1) wire_acknowledgement 9 (λ x. refl)
                      (λ x. refl) (λ x. refl) acknowledged_lawful bytes b rest are h.1)
                  | inr g9 ↦ let none = g9.1 in absurd cc
                ]
              ]
            ]
          ]
        ]
      ]
    ]
  ]
]

fields_again : (b : Body) (rest : List ℕ) → wire_fields_fit b ≡ true → read_wire_fields (wire_kind_number b) (wire_spelled_fields b ++ rest) ≡ Some (b, rest)
fields_again (Install boot tables) rest fits = rw (install_lawful.again (boot, tables) rest fits) refl
fields_again (OpenAt boot version) rest fits = rw (of_version_lawful.again (boot, version) rest fits) refl
fields_again (Stamp boot version touched) rest fits = rw (stamp_lawful.again (boot, (version, touched)) rest fits) refl
fields_again (Collect boot version) rest fits = rw (of_version_lawful.again (boot, version) rest fits) refl
fields_again (CacheRule version word rule action) rest fits = rw (cache_rule_lawful.again (version, (word, (rule, action))) rest fits) refl
fields_again (Advertise told) rest fits = rw (advert_lawful.again told rest fits) refl
fields_again (Hello switch boot) rest fits = rw (hello_lawful.again (switch, boot) rest fits) refl
fields_again (Installed switch boot version) rest fits = rw (acknowledged_lawful.again (switch, (boot, version)) rest fits) refl
fields_again (Stamped switch boot version) rest fits = rw (acknowledged_lawful.again (switch, (boot, version)) rest fits) refl

kind_fits : (b : Body) → n1.fits (wire_kind_number b) ≡ true
unfolding n1
kind_fits (Install _ _) = refl
kind_fits (OpenAt _ _) = refl
kind_fits (Stamp _ _ _) = refl
kind_fits (Collect _ _) = refl
kind_fits (CacheRule _ _ _ _) = refl
kind_fits (Advertise _) = refl
kind_fits (Hello _ _) = refl
kind_fits (Installed _ _ _) = refl
kind_fits (Stamped _ _ _) = refl

body_lawful : IsLawful body
unfolding body
body_lawful = record {
  takes = λ bytes b rest are e.
      let d = then_some (n1.read bytes) (λ k. read_wire_fields k.0 k.1) (b, rest) e in
      let t = n1_lawful.takes bytes d.0.0 d.0.1 are d.1 in
      let fields = fields_take d.0.0 d.0.1 b rest t.rest_are d.2 in record {
        fits = fields.fit;
        parts = t.parts ∙ ap (λ u. n1.spell d.0.0 ++ u) fields.parts
            ∙ ap (λ k. n1.spell k ++ (wire_spelled_fields b ++ rest)) (sym fields.kind_is)
            ∙ sym (append_assoc (n1.spell (wire_kind_number b)) (wire_spelled_fields b) rest);
        rest_are = fields.rest_are;
      };
  again = λ b rest fits. rw (
    append_assoc (n1.spell (wire_kind_number b)) (wire_spelled_fields b) rest,
    n1_lawful.again (wire_kind_number b) (wire_spelled_fields b ++ rest) (kind_fits b),
  ) (fields_again b rest fits);
}

pub message_lawful : IsLawful message
unfolding message
message_lawful = as_type_lawful _ _ (λ p fits. refl) (λ m fits. refl)
    (such_that_lawful (λ p. wire_body_suits_receiver p.0 p.1) (receiver_lawful ⊠ body_lawful))
